-- Equality gives convertibility, and cumulativity what is below after reduction, with terms put in for the variables that are convertible with their values.
use Rattle.std.proofs.Common.{ℕ, zero, suc, ◌≡◌, List, ◌∷◌, Some, None, refl, sym, ap, ◌∙◌, subst}
use mathlib.Core.Path.{fun_ext}
use Rattle.pc_terms.specs.Syntax.{Slot, Term, Terms, Children, Rel, LetIn, rename, substitute, substitute_children, substitute_terms, over, overs, first, put}
use Rattle.calculus_rules.specs.Environment.{Env}
use Rattle.calculus_rules.specs.Context.{Values, value_at, under}
use Rattle.calculus_rules.specs.Step.{Root}
use Rattle.calculus_rules.specs.Conversion.{Equal, step, sorts, same, back, chain, inside, let_body, EqualChildren, end, and, group, EqualTerms, done, next, Below, equal, product}
use Rattle.calculus_rules.proofs.Spines.{one_item}
use Rattle.trees.proofs.Fusion.{substitute-rename, substitute-substitute}
use Rattle.trees.proofs.Put.{substitute_same}
use Rattle.typing_laws.proofs.RenamingAndPutting.{swap, lifted_some, later_is}
use Rattle.equality_laws.proofs.Reducing.{Convertible}
use Rattle.equality_laws.proofs.Roots.{Settled, StepOf, contraction, value, step_of, root_substituted}
use Rattle.equality_laws.proofs.Substituted.{of_root}
use Rattle.equality_laws.proofs.Convertible.{ConvertibleIn, ConvertibleTerms, convertible_same, convertible_is, convertible_back, convertible_then, of_par, convertible_substituted, convertible_node}
use Rattle.equality_laws.proofs.Cumulative.{Sub, of_convertible, sub_then, sub_product, sub_sort, sorts_convertible}

-- what is put in for a variable with a value is convertible with that
abbrev pub Meets : Env → (ℕ → Term) → Values → Type 0
Meets E s V = (i : ℕ) (v : Term) → value_at V i ≡ Some v → Convertible E (s i) (substitute s v)

pub convertible_at : {E : Env} {t t' u u' : Term} → t ≡ t' → u ≡ u' → Convertible E t u → Convertible E t' u'
convertible_at {E} {t} {t'} {u} {u'} p q h = subst (λ u. Convertible E t' u) q (subst (λ t. Convertible E t u) p h)

pub convertible_lifted : {E : Env} → Settled E → (t u : Term) → Convertible E t u → Convertible E (rename suc t) (rename suc u)
convertible_lifted d t u h = convertible_at (later_is t) (later_is u) (convertible_substituted d (λ i. Rel (suc i)) t u h)

pub meets_over : {E : Env} → Settled E → (s : ℕ → Term) (V : Values) → Meets E s V → Meets E (over s) (None ∷ V)
meets_over d s V h zero v e = absurd (cc)
meets_over d s V h (suc i) v e =
    let (u, eu, ev) = lifted_some (value_at V i) v e in
    convertible_at refl (swap s u ∙ ap (substitute (over s)) (sym ev)) (convertible_lifted d (s i) (substitute s u) (h i u eu))

meets_under : {E : Env} → Settled E → (n : ℕ) (s : ℕ → Term) (V : Values) → Meets E s V → Meets E (overs n s) (under n V)
meets_under d zero s V h = h
meets_under d (suc n) s V h = meets_over d (overs n s) (under n V) (meets_under d n s V h)

first_lifted : (a : Term) (s : ℕ → Term) (t : Term) → substitute (first a s) (rename suc t) ≡ substitute s t
first_lifted a s t = substitute-rename t suc (first a s)

meets_first : {E : Env} (s : ℕ → Term) (V : Values) (b : Term) → Meets E s V → Meets E (first (substitute s b) s) (Some b ∷ V)
meets_first s V b h zero v e =
    convertible_is (substitute s b) (substitute (first (substitute s b) s) v) (sym (first_lifted (substitute s b) s b) ∙ ap (substitute (first (substitute s b) s)) (one_item e))
meets_first s V b h (suc i) v e =
    let (u, eu, ev) = lifted_some (value_at V i) v e in
    convertible_at refl (sym (ap (substitute (first (substitute s b) s)) ev ∙ first_lifted (substitute s b) s u)) (h i u eu)

-- a let's body under the substitution, with the let's own value put in

pub put_over : (a : Term) (s : ℕ → Term) (t : Term) → substitute (put a) (substitute (over s) t) ≡ substitute (first a s) t
put_over a s t = substitute-substitute t (over s) (put a) ∙ ap (λ q. substitute q t) (fun_ext each)
  where
    each : (j : ℕ) → substitute (put a) (over s j) ≡ first a s j
    each zero = refl
    each (suc j) = substitute-rename (s j) suc (put a) ∙ substitute_same (s j)

let_step : {E : Env} (s : ℕ → Term) (b B t : Term) → Convertible E (substitute s (LetIn b B t)) (substitute (first (substitute s b) s) t)
let_step s b B t =
    let u = substitute (put (substitute s b)) (substitute (over s) t) in
    convertible_at refl (put_over (substitute s b) s t) (of_par (substitute s (LetIn b B t)) u (of_root (substitute s (LetIn b B t)) u Root.zeta))

-- equality

contracted : {E : Env} → Settled E → {V : Values} {t u : Term} → StepOf E V t u → (s : ℕ → Term) → Meets E s V → Convertible E (substitute s t) (substitute s u)
contracted d (contraction {t} {u} r) s m = of_par (substitute s t) (substitute s u) (of_root (substitute s t) (substitute s u) (root_substituted d r s))
contracted d (value {i} {v} e) s m = m i v e

mutual
  equality : {E : Env} → Settled E → {V : Values} {t u : Term} → Equal E V t u → (s : ℕ → Term) → Meets E s V → Convertible E (substitute s t) (substitute s u)
  equality d (step r) s m = contracted d (step_of r) s m
  equality d (sorts {s = u} {s' = w} p q) s m = sorts_convertible u w p q
  equality d (same {t = t}) s m = convertible_same (substitute s t)
  equality d (back {t = t} {u = u} e) s m = convertible_back (substitute s t) (substitute s u) (equality d e s m)
  equality d (chain {t = t} {u = u} {w = w} e f) s m = convertible_then d (substitute s t) (substitute s u) (substitute s w) (equality d e s m) (equality d f s m)
  equality d (inside {l = l} {ts = ts} {us = us} es) s m = convertible_node l (substitute_children s ts) (substitute_children s us) (equality_children d es s m)
  equality d (let_body {V} {b} {B} {t} {u} e) s m =
      convertible_then d (substitute s (LetIn b B t)) (substitute (first (substitute s b) s) t) (substitute s (LetIn b B u)) (let_step s b B t)
      (convertible_then d (substitute (first (substitute s b) s) t) (substitute (first (substitute s b) s) u) (substitute s (LetIn b B u))
      (equality d e (first (substitute s b) s) (meets_first s V b m))
      (convertible_back (substitute s (LetIn b B u)) (substitute (first (substitute s b) s) u) (let_step s b B u)))

  equality_children : {E : Env} → Settled E → {V : Values} {ss : List Slot} {ts us : Children ss} → EqualChildren E V ss ts us → (s : ℕ → Term) → Meets E s V →
      ConvertibleIn E ss (substitute_children s ts) (substitute_children s us)
  equality_children d end s m = ConvertibleIn.end
  equality_children d (and {V} {n} e es) s m = ConvertibleIn.and (equality d e (overs n s) (meets_under d n s V m)) (equality_children d es s m)
  equality_children d (group e es) s m = ConvertibleIn.group (equality_terms d e s m) (equality_children d es s m)

  equality_terms : {E : Env} → Settled E → {V : Values} {ts us : Terms} → EqualTerms E V ts us → (s : ℕ → Term) → Meets E s V →
      ConvertibleTerms E (substitute_terms s ts) (substitute_terms s us)
  equality_terms d done s m = ConvertibleTerms.done
  equality_terms d (next {V} {n} e es) s m = ConvertibleTerms.next (equality d e (overs n s) (meets_under d n s V m)) (equality_terms d es s m)

pub equality_carried : {E : Env} → Settled E → (V : Values) (s : ℕ → Term) (t u : Term) → Meets E s V → Equal E V t u → Convertible E (substitute s t) (substitute s u)
equality_carried d V s t u m e = equality d e s m

-- cumulativity

below : {E : Env} → Settled E → {V : Values} {t u : Term} → Below E V t u → (s : ℕ → Term) → Meets E s V → Sub E (substitute s t) (substitute s u)
below d (equal {t = t} {u = u} e) s m = of_convertible (substitute s t) (substitute s u) (equality d e s m)
below d (Below.sort {s = u} {s' = w} p) s m = sub_sort u w p
below d (product {V} {A} {A'} {B} {B'} e b) s m =
    sub_product (substitute s A) (substitute s A') (substitute (over s) B) (substitute (over s) B') (equality d e s m) (below d b (over s) (meets_over d s V m))
below d (Below.chain {t = t} {u = u} {w = w} a b) s m = sub_then d (substitute s t) (substitute s u) (substitute s w) (below d a s m) (below d b s m)

pub below_carried : {E : Env} → Settled E → (V : Values) (s : ℕ → Term) (t u : Term) → Meets E s V → Below E V t u → Sub E (substitute s t) (substitute s u)
below_carried d V s t u m b = below d b s m
