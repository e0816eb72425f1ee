-- What a host's calls keep: the machine stays at the start of a run of `main`, in a store in which a run may start.
use Rattle.std.proofs.Common.{◌≡◌, ℕ, zero, suc, ◌+◌, ◌-◌, ◌*◌, ◌^◌, ◌<◌, ◌≤◌, List, [], ◌∷◌, ◌++◌, length, drop, Option, Some, None, Bool, true, false, refl, ap, sym, ◌∙◌, subst, arith, length-append, ⊎_elim}
use Rattle.std.proofs.lemmas.Option.{slice_get-map, same_Some}
use Rattle.std.proofs.lemmas.Bool.{leb-true, le-leb, lt-leb, cases_lt, and_parts}
use Rattle.std.proofs.lemmas.List.{drop_all}
use Rattle.std.specs.Prelude.{slice_get, nat_le, min, ◌&&◌, if◌then◌else◌}
use Rattle.std.specs.Option.{option_and_then, option_map}
use Rattle.wasm_core.specs.declared.types.ValType.TheVariants as type
use Rattle.wasm_core.specs.declared.types.GlobalDef.{GlobalDef}
use Rattle.wasm_core.specs.declared.types.ConstValue.TheVariants.{I32}
use Rattle.wasm_core.specs.declared.ended.Ended.{Ended}
use Rattle.wasm_core.specs.declared.entries.Entry.{Entry}
use Rattle.wasm_core.specs.declared.entries.Entry.TheVariants.{Main}
use Rattle.wasm_core.specs.Parts.{Parts}
use Rattle.wasm_core.specs.Memory.{put_word, zeroed}
use Rattle.wasm_core.specs.Instance.{Func, func_of, greatest_pages, segments_fit}
use Rattle.wasm_core.specs.Entries.{index_of, IsGlobalEntry}
use Rattle.wasm_core.specs.MachineStep.{Store, State, At, Over}
use Rattle.wasm_core.specs.ModuleCondition.{All as Each}
use Rattle.wasm_core.specs.ModuleTyping.{IsValid, Of}
use Rattle.wasm_core.specs.Runs.{Moves, store_of}
use Rattle.wasm_core.specs.Safe.{is_i32, global_types}
use Rattle.wasm_core.specs.Words.{IsByte, IsWord}
use Rattle.wasm_core.specs.HostStore.{IsForCall, IsReady, main_start_in, start_in, start_at_in, with_store, set_at, has_room, held, pages_for, put_words}
use Rattle.wasm_core.proofs.Bits.{put_word_bytes, put_word_length}
use Rattle.wasm_core.proofs.Eaches.{each_append, each_replicate, each_set}
use Rattle.wasm_core.proofs.EntryGlobals.{entry_global}
use Rattle.wasm_core.proofs.Small.{no}
use Rattle.wasm_core.proofs.Starting.{started_in}
use Rattle.wasm_core.proofs.Values.{have_set}
use Rattle.wasm_core.proofs.WordsStay.{zeroed_length}
use Rattle.wasm_run.specs.Hosting.{put_in, IsAtStart}
use Rattle.wasm_run.specs.Machines.{Reached}
use Rattle.wasm_run.specs.Standing.{frames, most_frames}
use Rattle.wasm_run.specs.Threads.{state_of, store_in}
use Rattle.wasm_run.specs.declared.thread.Thread.{Thread}
use Rattle.wasm_run.proofs.Bodies.{drop_here}
use Rattle.wasm_run.proofs.Running.{store_of_state}

-- a number is at most the smaller of two exactly where it is at most each
least_of_two : (a b c : ℕ) → (nat_le a b && nat_le a c) ≡ nat_le a (min b c)
least_of_two a b c = ⊎_elim (λ lt. over lt) (λ le. ⊎_elim (λ lt. over_second le lt) (λ le2. within le le2) (cases_lt c a)) (cases_lt b a)
  where
    over : b < a → (nat_le a b && nat_le a c) ≡ nat_le a (min b c)
    over lt = ap (λ x. x && nat_le a c) (lt-leb a b lt) ∙ sym (lt-leb a (min b c) (omega (arith, lt)))

    over_second : a ≤ b → c < a → (nat_le a b && nat_le a c) ≡ nat_le a (min b c)
    over_second le lt = ap (λ x. x && nat_le a c) (le-leb a b le) ∙ lt-leb a c lt ∙ sym (lt-leb a (min b c) (omega (arith, lt)))

    within : a ≤ b → a ≤ c → (nat_le a b && nat_le a c) ≡ nat_le a (min b c)
    within le le2 = ap (λ x. x && nat_le a c) (le-leb a b le) ∙ le-leb a c le2 ∙ sym (le-leb a (min b c) (omega (arith, le, le2)))

pub room_is : (m : Parts) (cap past : ℕ) → past ≤ 4294967295 → (nat_le (pages_for past) cap && nat_le (pages_for past) (greatest_pages m.memory)) ≡ has_room m cap past
room_is m cap past le =
    least_of_two (pages_for past) cap (greatest_pages m.memory) ∙ sym (ap (λ b. b && nat_le (pages_for past) (min cap (greatest_pages m.memory))) (le-leb past 4294967295 le))

pub no_room : (m : Parts) (cap past : ℕ) → 4294967295 < past → has_room m cap past ≡ false
no_room m cap past lt = ap (λ b. b && nat_le (pages_for past) (min cap (greatest_pages m.memory))) (lt-leb past 4294967295 lt)

pub room_small : (m : Parts) (cap past : ℕ) → has_room m cap past ≡ true → past ≤ 4294967295
room_small m cap past e = leb-true past 4294967295 (and_parts (nat_le past 4294967295) (nat_le (pages_for past) (min cap (greatest_pages m.memory))) e).0

-- words put one after the other
pub puts_length : (memory : List ℕ) (a : ℕ) (ws : List ℕ) → length (put_words memory a ws) ≡ length memory
puts_length memory a [] = refl
puts_length memory a (w ∷ ws) = puts_length (put_word memory a w) (a + 4) ws ∙ put_word_length memory a w

puts_bytes : (memory : List ℕ) (a : ℕ) (ws : List ℕ) → Each IsByte memory → Each IsByte (put_words memory a ws)
puts_bytes memory a [] h = h
puts_bytes memory a (w ∷ ws) h = puts_bytes (put_word memory a w) (a + 4) ws (put_word_bytes memory a w h)

-- one more of them
pub puts_next : (memory : List ℕ) (a i : ℕ) (ws : List ℕ) (w : ℕ) → slice_get ws i ≡ Some w → put_words (put_word memory (a + 4 * i) w) (a + 4 * (i + 1)) (drop (i + 1) ws) ≡ put_words memory (a + 4 * i) (drop i ws)
puts_next memory a i ws w e =
    let here : drop i ws ≡ w ∷ drop (i + 1) ws = drop_here ws i w e in
    ap (λ at. put_words (put_word memory (a + 4 * i) w) at (drop (i + 1) ws)) (next a i) ∙ sym (ap (put_words memory (a + 4 * i)) here)
  where
    next : (a i : ℕ) → a + 4 * (i + 1) ≡ a + 4 * i + 4
    next a i = omega arith

pub puts_ended : (memory : List ℕ) (a i : ℕ) (ws : List ℕ) → length ws ≤ i → put_words memory (a + 4 * i) (drop i ws) ≡ memory
puts_ended memory a i ws le = ap (put_words memory (a + 4 * i)) (drop_all i ws le)

-- a run that starts in one store starts in another
from_func : (g : Option Func) (st st' : Store) (s : State) → option_and_then (λ (g : Func). Some (start_in st g)) g ≡ Some s → option_and_then (λ (g : Func). Some (start_in st' g)) g ≡ Some (with_store s st')
from_func None st st' s e = no e
from_func (Some g) st st' s e = ap (λ (x : State). Some (with_store x st')) (same_Some _ _ e)

from_index : (m : Parts) (f : Option ℕ) (st st' : Store) (s : State) → option_and_then (λ f. start_at_in m st f) f ≡ Some s → option_and_then (λ f. start_at_in m st' f) f ≡ Some (with_store s st')
from_index m None st st' s e = no e
from_index m (Some f) st st' s e = from_func (func_of m f) st st' s e

from_fit : (b : Bool) (m : Parts) (st st' : Store) (s : State) → (if b then option_and_then (λ f. start_at_in m st f) (index_of Main m) else None) ≡ Some s →
    (if b then option_and_then (λ f. start_at_in m st' f) (index_of Main m) else None) ≡ Some (with_store s st')
from_fit true m st st' s e = from_index m (index_of Main m) st st' s e
from_fit false m st st' s e = no e

pub starts_again : (m : Parts) (st st' : Store) (s : State) → main_start_in m st ≡ Some s → main_start_in m st' ≡ Some (with_store s st')
starts_again m st st' s e = from_fit (segments_fit m) m st st' s e

pub store_again : (s : State) (st : Store) → store_of (with_store s st) ≡ st
store_again (At c) st = refl
store_again (Over e old) st = refl

none_made : (made steps : ℕ) → made ≡ min steps (2 ^ 64 - 1) → made ≡ 0 → steps ≡ 0
none_made made steps counted none = omega (arith, counted, none)

-- where no step is counted, the machine is at such a start
pub at_start : (m : Parts) {cap : ℕ} (made : ℕ) {peak : ℕ} (s : State) → made ≡ 0 → Reached m cap made peak s → IsReady m (store_of s) × (main_start_in m (store_of s) ≡ Some s)
at_start m {cap} made s none r =
    let here : r.first ≡ s = subst (λ n. Moves m cap n r.first s) (none_made made r.steps r.counted none) r.moves in
    let x = started_in m r.store r.first r.starts in
    let same : r.store ≡ store_of s = ap store_of (sym x.starts ∙ here) in (
      subst (IsReady m) same r.ready,
      subst (λ st. main_start_in m st ≡ Some s) same (r.starts ∙ ap Some here),
    )

-- where no step was made the frames are those of the state, whose store doesn't matter
none_most : (m : Parts) (cap k : ℕ) (s t : State) (run : Moves m cap k s t) → k ≡ 0 → most_frames m cap k s t run ≡ frames t
none_most m cap zero s t run e = refl
none_most m cap (suc k) s t run e = absurd (omega arith)

frames_stay : (s : State) (st : Store) → frames (with_store s st) ≡ frames s
frames_stay (At c) st = refl
frames_stay (Over e old) st = refl

-- and stays there with another such store
pub starts_with : (m : Parts) {cap : ℕ} (made : ℕ) {peak : ℕ} (s : State) (st : Store) → made ≡ 0 → IsForCall m → Reached m cap made peak s → IsReady m st → Reached m cap made peak (with_store s st)
starts_with m {cap} made s st none call r ready = record {
  store = st;
  own = λ alone. absurd (alone call);
  ready = ready;
  first = with_store s st;
  starts = starts_again m (store_of s) st s (at_start m made s none r).1;
  steps = 0;
  counted = none;
  moves = refl;
  most = r.most ∙ none_most m cap r.steps r.first s r.moves (none_made made r.steps r.counted none) ∙ sym (frames_stay s st);
}

-- a global of an entry is set
pub ready_set : (m : Parts) → IsValid m → (n : Entry) → IsGlobalEntry n → (x : ℕ) → index_of n m ≡ Some x → (w : ℕ) → w ≤ 4294967295 → (s : Store) → IsReady m s → IsReady m (set_at (Some x) w s)
ready_set m valid n g x ix w small s ready =
    let (d, hd, ty) = entry_global n g m x ix in
    let at : slice_get (global_types m) x ≡ Some (Of type.I32) = slice_get-map (λ (d : GlobalDef). Of d.ty) m.globals x ∙ ap (option_map (λ (d : GlobalDef). Of d.ty)) hd ∙ ap (λ t. Some (Of t)) ty in
    record {
      typed = have_set x (Of type.I32) (I32 w) ready.typed at is_i32;
      words = record {
        pages = ready.words.pages;
        size = ready.words.size;
        bytes = ready.words.bytes;
        globals = each_set IsWord s.globals x (I32 w) ready.words.globals (omega (arith, small));
      };
    }

few_pages : (past : ℕ) → past ≤ 4294967295 → pages_for past ≤ 65536
few_pages past le = omega (arith, le)

zeros : (n : ℕ) → Each IsByte (zeroed n)
unfolding zeroed
zeros n = each_replicate IsByte (65536 * n) 0 (omega arith)

-- words are put into memory
pub ready_put : (m : Parts) (at : ℕ) (ws : List ℕ) (s : Store) → at + 4 * length ws ≤ 4294967295 → IsReady m s → IsReady m (put_in at ws s)
ready_put m at ws s le ready =
    let past = at + 4 * length ws in
    let more = pages_for past - s.pages in
    let few = few_pages past le in
    let was = ready.words.pages in
    record {
      typed = ready.typed;
      words = record {
        pages = sum (pages_for past) s.pages few was;
        size =
            puts_length (s.memory ++ zeroed more) at ws
            ∙ length-append s.memory (zeroed more)
            ∙ ap (λ n. length s.memory + n) (zeroed_length more)
            ∙ ap (λ n. n + 65536 * more) ready.words.size
            ∙ times s.pages more;
        bytes = puts_bytes (s.memory ++ zeroed more) at ws (each_append IsByte s.memory (zeroed more) ready.words.bytes (zeros more));
        globals = ready.words.globals;
      };
    }
  where
    sum : (a b : ℕ) → a ≤ 65536 → b ≤ 65536 → b + (a - b) ≤ 65536
    sum a b p q = omega (arith, p, q)

    times : (a b : ℕ) → 65536 * a + 65536 * b ≡ 65536 * (a + b)
    times a b = omega arith

-- a thread whose frames stay is the state with its store
pub with_thread : (m : Parts) (e : Option Ended) (t t' : Thread) → t'.current ≡ t.current → t'.callers ≡ t.callers → state_of m e t' ≡ with_store (state_of m e t) (store_in t')
with_thread m None t t' current callers = cc
with_thread m (Some e) t t' current callers = refl

-- a machine whose store is another one stays at its start
pub kept_start : (m : Parts) {cap : ℕ} (made : ℕ) {peak : ℕ} (e : Option Ended) (t t' : Thread) (st : Store) → made ≡ 0 → IsForCall m → t'.current ≡ t.current → t'.callers ≡ t.callers → store_in t' ≡ st → IsReady m st →
    Reached m cap made peak (state_of m e t) → Reached m cap made peak (state_of m e t')
kept_start m {cap} made {peak} e t t' st none call current callers same ready r =
    subst (Reached m cap made peak) (sym (with_thread m e t t' current callers ∙ ap (with_store (state_of m e t)) same)) (starts_with m made (state_of m e t) st none call r ready)

pub is_at_start : (m : Parts) (cap made : ℕ) {peak : ℕ} (failed : Bool) (s : State) → made ≡ 0 → Reached m cap made peak s → IsAtStart (record { program = m; cap = cap; state = s; made = made; failed = failed })
is_at_start m cap made failed s none r = let h = at_start m made s none r in record { ready = h.0; starts = h.1 }

-- the store of a thread from which a run may start
pub thread_ready : (m : Parts) {cap : ℕ} (made : ℕ) {peak : ℕ} (e : Option Ended) (t : Thread) → made ≡ 0 → Reached m cap made peak (state_of m e t) → IsReady m (store_in t)
thread_ready m made e t none r = subst (IsReady m) (store_of_state m e t) (at_start m made (state_of m e t) none r).0

-- a grown memory has so many bytes
pub held_has : (past : ℕ) (s : Store) → length s.memory ≡ 65536 * s.pages → past ≤ length (held past s).memory
held_has past s size =
    let more = pages_for past - s.pages in
    let len : length (s.memory ++ zeroed more) ≡ 65536 * s.pages + 65536 * more = length-append s.memory (zeroed more) ∙ ap (λ n. length s.memory + n) (zeroed_length more) ∙ ap (λ n. n + 65536 * more) size in
    subst (λ n. past ≤ n) (sym len) (enough past s.pages)
  where
    enough : (past pages : ℕ) → past ≤ 65536 * pages + 65536 * (pages_for past - pages)
    enough past pages = omega arith
