-- The variables at a place of a program, as they are kept: as a scope, and the functions of those that are a fixpoint's.
use Rattle.std.specs.Prelude.{◌≡◌, ℕ, zero, suc, List, [], ◌∷◌}
use Rattle.anf_convert.specs.Captured.{Scope, Outside, Plain, Shared, Entry, Unbound, Word, Words}
use Rattle.closure_lift.specs.declared.variables.Variable.{Variable}
use Rattle.closure_lift.specs.declared.variables.Variable.TheVariants as variable
use Rattle.closure_lift.specs.declared.variables.Found.{Found}
use Rattle.closure_lift.specs.declared.variables.Found.TheVariants as found

abbrev pub scope_of : List Variable → Scope
scope_of [] = Outside
scope_of (variable.Word x ∷ vs) = Plain (scope_of vs)
scope_of (variable.Fix g ws ∷ vs) = Shared ws.value (scope_of vs)

abbrev pub numbers_of : List Variable → List ℕ
numbers_of [] = []
numbers_of (variable.Word x ∷ vs) = 0 ∷ numbers_of vs
numbers_of (variable.Fix g ws ∷ vs) = g ∷ numbers_of vs

-- each word is the number of those outside it, and there are d
abbrev pub AreNumbered : ℕ → List Variable → Type 0
AreNumbered d [] = d ≡ 0
AreNumbered d (variable.Word x ∷ vs) = (d ≡ suc x) × AreNumbered x vs
AreNumbered d (variable.Fix g ws ∷ vs) = AreNumbered d vs

abbrev pub entry_found : Found → Entry
entry_found found.Unbound = Unbound
entry_found (found.Word x) = Word x
entry_found (found.Fix g ws) = Words ws.now

abbrev pub number_found : Found → ℕ
number_found found.Unbound = 0
number_found (found.Word x) = 0
number_found (found.Fix g ws) = g

-- the scope outside the n innermost variables
abbrev pub outer : ℕ → Scope → Scope
outer zero s = s
outer (suc n) Outside = Outside
outer (suc n) (Plain s) = outer n s
outer (suc n) (Shared ws s) = outer n s
