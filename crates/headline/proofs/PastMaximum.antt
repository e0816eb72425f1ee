-- A machine whose bound is at least a module's maximum refuses a grow only where the maximum forbids it.
use Rattle.std.proofs.Common.{◌≡◌, ℕ, zero, suc, ◌+◌, ◌^◌, ◌≤◌, List, [], ◌∷◌, ◌++◌, ◌-◌, Option, Bool, true, false, refl, ap, subst, ◌∙◌, arith}
use Rattle.std.specs.Prelude.{if◌then◌else◌, nat_le, ◌&&◌}
use Rattle.std.proofs.lemmas.Bool.{leb-true, le-leb}
use Rattle.wasm_core.specs.declared.types.ConstValue.{ConstValue}
use Rattle.wasm_core.specs.declared.types.ConstValue.TheVariants.{I32, I64}
use Rattle.wasm_core.specs.declared.instrs.Instr.{Instr}
use Rattle.wasm_core.specs.Parts.{Parts}
use Rattle.wasm_core.specs.Memory.{zeroed}
use Rattle.wasm_core.specs.Instance.{greatest_pages}
use Rattle.wasm_core.specs.MachineStep.{Store, Conf, State, At, Over, step, on_i32, storing, grown}
use Rattle.wasm_core.specs.Runs.{Move, Moves, grants, store_of, stays_within}
use Rattle.wasm_core.proofs.Gives.{Gives, gives_at}
use Rattle.wasm_core.proofs.StoreSteps.{Keeps, next_keeps}
use Rattle.wasm_core.proofs.Starting.{started}
use Rattle.headline.specs.GrantsAll.{MachinesRefusePastMaximum}

-- a step keeps that no grow was refused by choice
abbrev Kept : Conf → Store → Type 0
Kept c s = c.store.by_choice ≡ false → s.by_choice ≡ false

-- what the maximum allows is granted
abbrev Granted : Parts → Bool → Conf → Type 0
Granted m g c = (n : ℕ) (vals : List ConstValue) → c.current.operands ≡ I32 n ∷ vals → nat_le (c.store.pages + n) (greatest_pages m.memory) ≡ true → g ≡ true

module _ (m : Parts) (g : Bool) (c : Conf) (h : Granted m g c) where
  abbrev P : State → Type 0
  P s = Kept c (store_of s)

  grown_so : (a b : Bool) (n : ℕ) (vals : List ConstValue) (rest : List Instr) → (b ≡ true → a ≡ true) → (s : Option State) → Gives P s →
      Gives P (if a && b then s else storing c (record c.store { refused = true; by_choice = b }) (I32 (2 ^ 32 - 1) ∷ vals) rest)
  grown_so true true n vals rest h s k = k
  grown_so false true n vals rest h s k = let e : false ≡ true = h refl in absurd cc
  grown_so true false n vals rest h s k = λ e. refl
  grown_so false false n vals rest h s k = λ e. refl

  grows : (vals : List ConstValue) (rest : List Instr) → c.current.operands ≡ vals → Gives P (on_i32 vals (λ n operands. grown m g n operands rest c))
  grows [] rest e = tt
  grows (I64 n ∷ vals) rest e = tt
  grows (I32 n ∷ vals) rest e =
      grown_so g (nat_le (c.store.pages + n) (greatest_pages m.memory)) n vals rest (λ b. h n vals e b)
      (storing c (record c.store { pages = c.store.pages + n; memory = c.store.memory ++ zeroed n }) (I32 c.store.pages ∷ vals) rest) (λ e. e)

  keeps : Keeps m g c (Kept c)
  keeps = record { same = λ e. e; sets = λ globals e. e; writes = λ memory len e. e; grows = λ rest. grows c.current.operands rest refl }

-- the machine's own test lets pass what the maximum allows
test_passes : (cap greatest pages n : ℕ) → greatest ≤ cap → nat_le (pages + n) greatest ≡ true → nat_le (pages + n) cap ≡ true
test_passes cap greatest pages n le e = le-leb (pages + n) cap (omega (arith, le, leb-true (pages + n) greatest e))

granted : (m : Parts) (cap : ℕ) (c : Conf) → greatest_pages m.memory ≤ cap → (n : ℕ) (vals : List ConstValue) → c.current.operands ≡ I32 n ∷ vals →
    nat_le (c.store.pages + n) (greatest_pages m.memory) ≡ true → grants cap c ≡ true
granted m cap c le n vals e h = ap (stays_within cap c.store.pages) e ∙ test_passes cap (greatest_pages m.memory) c.store.pages n le h

move_keeps : (m : Parts) (cap : ℕ) (s t : State) → greatest_pages m.memory ≤ cap → Move m cap s t → (store_of s).by_choice ≡ false → (store_of t).by_choice ≡ false
move_keeps m cap (At c) t le e h = gives_at (λ s. Kept c (store_of s)) (step m (grants cap c) c) t (next_keeps m (grants cap c) c (Kept c) (keeps m (grants cap c) c (granted m cap c le)) c.current.rest) e h
move_keeps m cap (Over end store) t le e h = absurd e

moves_keep : (m : Parts) (cap k : ℕ) (s t : State) → greatest_pages m.memory ≤ cap → Moves m cap k s t → (store_of s).by_choice ≡ false → (store_of t).by_choice ≡ false
moves_keep m cap zero s t le e h = subst (λ u. (store_of u).by_choice ≡ false) e h
moves_keep m cap (suc k) s t le (mid, r, e) h = move_keeps m cap mid t le e (moves_keep m cap k s mid le r h)

pub past_maximum : MachinesRefusePastMaximum
past_maximum m cap k first t le starts moves =
    let x = started m first starts in
    moves_keep m cap k first t le moves (ap (λ (s : State). (store_of s).by_choice) x.starts)
