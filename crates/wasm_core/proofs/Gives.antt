-- What the state after a step has, where there is one, by the parts of which the steps are made.
use Rattle.std.proofs.Common.{◌≡◌, ℕ, List, [], ◌∷◌, Option, Some, None, Bool, true, false, refl, subst}
use Rattle.std.specs.Prelude.{if◌then◌else◌}
use Rattle.std.proofs.lemmas.Option.{same_Some}
use Rattle.wasm_core.specs.declared.types.ConstValue.{ConstValue}
use Rattle.wasm_core.specs.declared.types.ConstValue.TheVariants.{I32, I64}
use Rattle.wasm_core.specs.MachineStep.{State, on_some, on_one, on_i32, taking}
use Rattle.wasm_core.specs.ModuleCondition.{All as Each}
use Rattle.wasm_core.specs.Words.{IsWord}
use Rattle.wasm_core.proofs.Small.{no}

abbrev pub Gives : (State → Type 0) → Option State → Type 0
Gives P None = Unit {0}
Gives P (Some s) = P s

pub gives_at : (P : State → Type 0) (o : Option State) (s : State) → Gives P o → o ≡ Some s → P s
gives_at P None s h e = no e
gives_at P (Some t) s h e = subst P (same_Some _ _ e) h

module _ (P : State → Type 0) where
  pub g_some : {A : Type 0} (o : Option A) (go : A → Option State) → ((x : A) → o ≡ Some x → Gives P (go x)) → Gives P (on_some o go)
  g_some None go h = tt
  g_some (Some x) go h = h x refl

  pub g_if : (b : Bool) (s t : Option State) → (b ≡ true → Gives P s) → Gives P t → Gives P (if b then s else t)
  g_if true s t h k = h refl
  g_if false s t h k = k

  -- where the operands don't matter
  pub a_i32 : (vals : List ConstValue) (go : ℕ → List ConstValue → Option State) → ((n : ℕ) (r : List ConstValue) → Gives P (go n r)) → Gives P (on_i32 vals go)
  a_i32 [] go h = tt
  a_i32 (I32 n ∷ r) go h = h n r
  a_i32 (I64 n ∷ r) go h = tt

  pub a_one : (vals : List ConstValue) (go : ConstValue → List ConstValue → Option State) → ((v : ConstValue) (r : List ConstValue) → Gives P (go v r)) → Gives P (on_one vals go)
  a_one [] go h = tt
  a_one (v ∷ r) go h = h v r

  pub a_taking : (keeps : Bool) (vals : List ConstValue) (go : List ConstValue → Option State) → ((top : List ConstValue) → Gives P (go top)) → Gives P (taking keeps vals go)
  a_taking false vals go h = h []
  a_taking true [] go h = tt
  a_taking true (v ∷ vals) go h = h (v ∷ [])

  -- where they are words
  pub g_i32 : (vals : List ConstValue) (go : ℕ → List ConstValue → Option State) → Each IsWord vals → ((n : ℕ) (r : List ConstValue) → IsWord (I32 n) → Each IsWord r → Gives P (go n r)) → Gives P (on_i32 vals go)
  g_i32 [] go w h = tt
  g_i32 (I32 n ∷ r) go (p, w) h = h n r p w
  g_i32 (I64 n ∷ r) go w h = tt

  pub g_one : (vals : List ConstValue) (go : ConstValue → List ConstValue → Option State) → Each IsWord vals → ((v : ConstValue) (r : List ConstValue) → IsWord v → Each IsWord r → Gives P (go v r)) → Gives P (on_one vals go)
  g_one [] go w h = tt
  g_one (v ∷ r) go (p, w) h = h v r p w

  pub g_taking : (keeps : Bool) (vals : List ConstValue) (go : List ConstValue → Option State) → Each IsWord vals → ((top : List ConstValue) → Each IsWord top → Gives P (go top)) → Gives P (taking keeps vals go)
  g_taking false vals go w h = h [] tt
  g_taking true [] go w h = tt
  g_taking true (v ∷ vals) go (p, w) h = h (v ∷ []) (p, tt)
