-- What halts erasure, with its place.
use Rattle.std.proofs.Common.{◌≡◌, subst, true, false, List, [], ◌∷◌, ◌++◌, Option, Some, None, refl}
use Rattle.pc_terms.specs.declared.leaf.Name.{Name}
use Rattle.pc_terms.specs.Syntax.{Term}
use Rattle.box_terms.specs.BoxSyntax.{BoxTerm}
use Rattle.calculus_rules.specs.declared.declaration.Kept.{Kept}
use Rattle.calculus_rules.specs.declared.declaration.Kept.TheVariants.{Constant}
use Rattle.pc_rules.specs.declared.broken.Place.{Place}
use Rattle.pc_rules.specs.declared.meter.Account.{Account}
use Rattle.pc_rules.specs.declared.stop.Stop.TheVariants.{Spent, TooDeep, Memory}
use Rattle.pc_rules.specs.declared.stop.Halt.{Halt}
use Rattle.pc_rules.specs.declared.stop.Halt.TheVariants.{Stop, Broken as Refusal}
use Rattle.calculus_rules.specs.Environment.{Env}
use Rattle.pc_rules.specs.DirectedRun.{Run, Done}
use Rattle.pc_rules.specs.DirectedTyping.{Typing}
use Rattle.pc_rules.specs.Follows.{Halts}
use Rattle.lambda_box.specs.BoxProgram.{BoxConstant}
use Rattle.erase_rules.specs.DirectedErasure.{erased}
use Rattle.erase_rules.specs.DirectedProgram.{is_reached}
use Rattle.erase.specs.HaltPlaces.{IsPassed, IsAtBody, later, HaltsIn}
use Rattle.erase.proofs.ConstantRuns.{onto, onto_more}

pub none_by : {A : Type 0} (o : Option A) → ((a : A) → o ≡ Some a → ⊥) → o ≡ None
none_by None h = refl
none_by (Some a) h = absurd (h a refl)

abbrev pub Coming : Type 1
Coming = Place → Run BoxTerm → Type 0

pub halts_in : (At : Coming) (p : Place) (h : Halt) (v : Account) (d : Run BoxTerm) → At p d → Halts d h v → HaltsIn At p h v
halts_in At p (Stop Spent) v d a h = (d, a, h)
halts_in At p (Stop TooDeep) v d a h = (d, a, h)
halts_in At p (Stop Memory) v d a h = tt
halts_in At p (Refusal b) v d a h = (d, a, h)

pub halts_on : (At Bt : Coming) (p : Place) (h : Halt) (v : Account) → ((d : Run BoxTerm) → At p d → Bt p d) → HaltsIn At p h v → HaltsIn Bt p h v
halts_on At Bt p (Stop Spent) v f h = (h.0, f h.0 h.1, h.2)
halts_on At Bt p (Stop TooDeep) v f h = (h.0, f h.0 h.1, h.2)
halts_on At Bt p (Stop Memory) v f h = tt
halts_on At Bt p (Refusal b) v f h = (h.0, f h.0 h.1, h.2)

-- declarations without a body to be erased

pub no_constant_passed : (ts : List BoxTerm) (d : Kept) → ((k : Name) (T : Term) (o : Option Term) → d ≡ Constant k T o → ⊥) → IsPassed ts d
no_constant_passed ts d h k T b e = absurd (h k T (Some b) e)

pub unreached_passed : (ts : List BoxTerm) (k : Name) (T : Term) (o : Option Term) → is_reached k ts ≡ false → IsPassed ts (Constant k T o)
unreached_passed ts k T o is j S b e = let q : k ≡ j = cc in subst (λ k. is_reached k ts ≡ false) q is

pub axiom_passed : (ts : List BoxTerm) (k : Name) (T : Term) → IsPassed ts (Constant k T None)
axiom_passed ts k T j S b e = absurd (cc)

-- the walk goes on behind a body that is erased
pub comes_later : (E : Env) (inf : Typing) (cs : List BoxConstant) (main' : BoxTerm) (k : Name) (T b : Term) (b' : BoxTerm) (ds : List Kept) (u v : Account) (p : Place) (d : Run BoxTerm) →
    is_reached k (onto cs (main' ∷ [])) ≡ true → (erased E inf [] b u).end ≡ Done b' v →
    IsAtBody E inf (onto (cs ++ (record { name = k; body = b' } ∷ [])) (main' ∷ [])) ds v p d → IsAtBody E inf (onto cs (main' ∷ [])) (Constant k T (Some b) ∷ ds) u p d
comes_later E inf cs main' k T b b' ds u v p d is e a =
    later is e (subst (λ ts. IsAtBody E inf ts ds v p d) (onto_more cs (record { name = k; body = b' }) (main' ∷ [])) a)
