-- A machine's states are those that runs reach.
use Rattle.std.proofs.Common.{◌≡◌, ℕ, suc, ◌+◌, ◌-◌, ◌^◌, ◌*◌, length, Option, Some, None, Bool, true, refl, ap, sym, ◌∙◌, arith}
use Rattle.std.specs.Prelude.{slice_get, min, max, is_some}
use Rattle.std.specs.Option.{option_and_then}
use Rattle.wasm_core.specs.declared.types.ConstValue.{ConstValue}
use Rattle.wasm_core.specs.declared.types.ConstValue.TheVariants.{I32, I64}
use Rattle.wasm_core.specs.declared.ended.Ended.{Ended}
use Rattle.wasm_core.specs.declared.entries.Entry.{Entry}
use Rattle.wasm_core.specs.Parts.{Parts}
use Rattle.wasm_core.specs.Answer.{i32_of, global_of}
use Rattle.wasm_core.specs.Entries.{index_of, IsGlobalEntry}
use Rattle.wasm_core.specs.Laws.{HostedNeverStuck, HostedWordsStay, HostedEntriesAreThere}
use Rattle.wasm_core.specs.MachineStep.{Conf, State, At, Reach, step}
use Rattle.wasm_core.specs.MachineRun.{GoesOn}
use Rattle.wasm_core.specs.ModuleTyping.{IsValid}
use Rattle.wasm_core.specs.Runs.{grants, store_of}
use Rattle.wasm_core.specs.Words.{HasWords}
use Rattle.wasm_core.proofs.Trees.{moves_are_steps}
use Rattle.wasm_run.specs.Machines.{Reached}
use Rattle.wasm_run.specs.Standing.{frames}
use Rattle.wasm_run.specs.Threads.{state_of, conf_of, store_in}
use Rattle.wasm_run.specs.declared.thread.Thread.{Thread}

pub going : (m : Parts) (e : Option Ended) (t : Thread) → GoesOn (state_of m e t) → {cap peak : ℕ} (made : ℕ) → Reached m cap made peak (state_of m e t) → Reached m cap made peak (At (conf_of m t))
going m None t on made r = r
going m (Some e) t on made r = absurd on

-- the machine's steps are steps
reach : {m : Parts} {cap made peak : ℕ} {s : State} (r : Reached m cap made peak s) → Reach m r.steps r.first s
reach {m} {cap} {s = s} r = moves_are_steps m cap r.steps r.first s r.moves

there : {A : Type 0} (o : Option A) (x : A) → o ≡ Some x → is_some o ≡ true
there None x e = cc
there (Some y) x e = refl

pub can_step : HostedNeverStuck → (m : Parts) → IsValid m → (c : Conf) (made : ℕ) {cap peak : ℕ} → Reached m cap made peak (At c) → (g : Bool) → is_some (step m g c) ≡ true
can_step law m valid c made r g = let (t, e) = law m r.store r.first r.steps (At c) valid r.ready r.starts (reach r) g in there (step m g c) t e

pub has_size : HostedWordsStay → (m : Parts) → HasWords m → (c : Conf) (made : ℕ) {cap peak : ℕ} → Reached m cap made peak (At c) → length c.store.memory ≡ 65536 * c.store.pages
has_size law m words c made r = (law m r.store r.first r.steps (At c) words r.ready r.starts (reach r)).store.size

one_more : (made more steps : ℕ) → made ≡ min steps (2 ^ 64 - 1) → more ≡ min (made + 1) (2 ^ 64 - 1) → more ≡ min (suc steps) (2 ^ 64 - 1)
one_more made more steps counted count = omega (arith, counted, count)

pub moved : (m : Parts) (cap : ℕ) (c : Conf) (t : State) (made more : ℕ) {peak : ℕ} (higher : ℕ) → Reached m cap made peak (At c) → more ≡ min (made + 1) (2 ^ 64 - 1) → higher ≡ max peak (frames t) → step m (grants cap c) c ≡ Some t → Reached m cap more higher t
moved m cap c t made more higher r count high e = record {
  store = r.store;
  own = r.own;
  ready = r.ready;
  first = r.first;
  starts = r.starts;
  steps = suc r.steps;
  counted = one_more made more r.steps r.counted count;
  moves = (At c, r.moves, e);
  most = high ∙ ap (λ n. max n (frames t)) r.most;
}

-- a word that is read stands there
pub read_i32 : (o : Option ConstValue) (w : ℕ) → option_and_then i32_of o ≡ Some w → o ≡ Some (I32 w)
read_i32 None w e = cc
read_i32 (Some (I32 n)) w e = let h : n ≡ w = cc in ap (λ k. Some (I32 k)) h
read_i32 (Some (I64 n)) w e = cc

pub store_of_state : (m : Parts) (e : Option Ended) (t : Thread) → store_of (state_of m e t) ≡ store_in t
store_of_state m None t = refl
store_of_state m (Some e) t = refl

pub answer_is : HostedEntriesAreThere → (m : Parts) (n : Entry) (x : ℕ) (s : State) (made : ℕ) {cap peak : ℕ} → IsGlobalEntry n → IsValid m → Reached m cap made peak s → index_of n m ≡ Some x → (r : ℕ) → ((k : ℕ) → slice_get (store_of s).globals x ≡ Some (I32 k) → r ≡ k) → global_of n m (store_of s) ≡ Some r
answer_is law m n x s made is valid r e res h =
    let (w, hw) = law m r.store r.first r.steps s n x is valid r.ready r.starts (reach r) e in
    let at : option_and_then i32_of (slice_get (store_of s).globals x) ≡ Some w = sym (ap (option_and_then (λ y. option_and_then i32_of (slice_get (store_of s).globals y))) e) ∙ hw in
    hw ∙ ap Some (sym (h w (read_i32 (slice_get (store_of s).globals x) w at)))
