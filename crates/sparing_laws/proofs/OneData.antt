-- Equal terms that are data are one data, since constructors are injective; so whatever a sparing evaluation left alone, its data is one.
use Rattle.std.proofs.Common.{◌≡◌, ℕ, suc, List, [], ◌∷◌, ◌++◌, length, refl, sym, ap, ◌∙◌, subst, slice_get}
use Rattle.pc_terms.specs.declared.leaf.FamilyId.{FamilyId}
use Rattle.pc_terms.specs.Syntax.{Term}
use Rattle.calculus_rules.specs.Environment.{Env}
use Rattle.calculus_rules.specs.Conversion.{Equal, back, chain}
use Rattle.calculus_rules.specs.Step.{IsConstructor, is_constructor}
use Rattle.calculus_rules.specs.FirstOrder.{Shape, Data, Reads, reads, ReadsAll, no_field, field}
use Rattle.calculus_rules.specs.Accepted.{IsAccepted}
use Rattle.calculus_rules.proofs.Listing.{first_same, rest_same}
use Rattle.calculus_rules.proofs.OneEach.{one_of_each}
use Rattle.calculus_rules.proofs.Spines.{one_item}
use Rattle.typing_laws.proofs.Traversal.{equal_at}
use Rattle.equality_laws.specs.Laws.{EqualEach, no_terms, a_term}
use Rattle.equality_laws.proofs.Roots.{settled}
use Rattle.equality_laws.proofs.Formers.{equal_constructors}
use Rattle.type_laws.proofs.EqualLists.{each_equal_parts}
use Rattle.sparing_laws.specs.Laws.{SparingDataIsOne, SparingGivesTheSameData}
use Rattle.sparing_laws.proofs.Included.{evaluations_are_sparing}
use Rattle.sparing_laws.proofs.Keeping.{sparing_keeps}

-- equal terms that are constructors of a family, with all parameters and arguments
record SameConstructor (E : Env) (c k : ℕ) (xs ys : List Term) : Type 0 where
  constructor : c ≡ k
  arguments : EqualEach E [] xs ys

same_constructor : {E : Env} → IsAccepted E → {f : FamilyId} {c k : ℕ} {v w : Term} {qs xs ps ys : List Term} → Equal E [] v w → IsConstructor E f c v qs xs → IsConstructor E f k w ps ys →
    SameConstructor E c k xs ys
same_constructor {E} h {f} {c} {k} {v} {w} {qs} {xs} {ps} {ys} e (is_constructor {F = F} kept i lq lx ev) (is_constructor {F = G} kept' j lp ly ew) =
    let (_, same, each) = equal_constructors (settled E h) [] f f c k (qs ++ xs) (ps ++ ys) (equal_at ev ew e) in
    let one : F ≡ G = (one_of_each E h).families f F G kept kept' in
    record { constructor = same; arguments = (each_equal_parts qs xs ps ys (lq ∙ ap (λ F. length F.parameters) one ∙ sym lp) each).inner }

as_many : {E : Env} {xs ys : List Term} → EqualEach E [] xs ys → length xs ≡ length ys
as_many no_terms = refl
as_many (a_term p ps) = ap suc (as_many ps)

mutual
  pub one_data : {E : Env} → IsAccepted E → {S : List Shape} {i j : ℕ} {v w : Term} {d e : Data} → i ≡ j → Equal E [] v w → Reads E S i v d → Reads E S j w e → d ≡ e
  one_data {E} h {S} {i} {j} {v} {w} at p (reads {c = c} {h = s} {js = js} {qs = qs} {xs = xs} {ds = ds} place fields con rs) (reads {c = k} {h = s'} {js = js'} {xs = ys} {ds = es} place' fields' con' rs') =
      let same : s ≡ s' = one_item (sym place ∙ ap (slice_get S) at ∙ place') in
      let r = same_constructor h p (subst (λ s. IsConstructor E s.family c v qs xs) same con) con' in
      let lists : js ≡ js' = one_item (sym fields ∙ (λ n. slice_get (same n).constructors (r.constructor n)) ∙ fields') in
      let all = each_one_data h lists r.arguments rs rs' in
      let long = as_many r.arguments in
      λ n. (r.constructor n, long n) ∷ all n

  each_one_data : {E : Env} → IsAccepted E → {S : List Shape} {is js : List ℕ} {xs ys : List Term} {ds es : Data} → is ≡ js → EqualEach E [] xs ys → ReadsAll E S is xs ds →
      ReadsAll E S js ys es → ds ≡ es
  each_one_data h e no_terms no_field no_field = refl
  each_one_data h e (a_term p ps) (field r rs) (field r' rs') =
      let one = one_data h (first_same e) p r r' in
      let more = each_one_data h (rest_same e) ps rs rs' in
      λ n. one n ++ more n

pub sparing_data_is_one : SparingDataIsOne
sparing_data_is_one E h t v w T n m S d e typed x y r r' = one_data h refl (chain (back (sparing_keeps E h x T typed).equals) (sparing_keeps E h y T typed).equals) r r'

pub sparing_gives_the_same_data : SparingGivesTheSameData
sparing_gives_the_same_data E h t v w T n m S d e typed x y r r' = sparing_data_is_one E h t v w T n m S d e typed (evaluations_are_sparing E t v n x) y r r'
