-- Lists of equal terms, cut and joined, put in, and as arguments.
use Rattle.std.proofs.Common.{◌≡◌, List, [], ◌∷◌, ◌++◌, map, length, arith}
use Rattle.pc_terms.specs.Syntax.{Term, Rel, App, substitute, put_all, apply}
use Rattle.calculus_rules.specs.Environment.{Env}
use Rattle.calculus_rules.specs.Context.{Context, Values, values}
use Rattle.calculus_rules.specs.Conversion.{Equal}
use Rattle.calculus_rules.specs.Accepted.{IsAccepted}
use Rattle.calculus_rules.proofs.Congruence.{equal_applications}
use Rattle.equality_laws.specs.Laws.{EqualEach, no_terms, a_term}
pub use Rattle.equality_laws.proofs.Formers.{each_equal_same, each_equal_back, each_equal_chain}
use Rattle.type_laws.proofs.Spines.{put_equal}

pub each_equal_append : {E : Env} {V : Values} {xs ys xs' ys' : List Term} → EqualEach E V xs ys → EqualEach E V xs' ys' → EqualEach E V (xs ++ xs') (ys ++ ys')
each_equal_append no_terms fs = fs
each_equal_append (a_term e es) fs = a_term e (each_equal_append es fs)

-- two lists of equal terms, cut at the same place
pub record EqualParts (E : Env) (V : Values) (xs xs' ys ys' : List Term) : Type 0 where
  pub outer : EqualEach E V xs ys
  pub inner : EqualEach E V xs' ys'

pub each_equal_parts : {E : Env} {V : Values} (xs xs' ys ys' : List Term) → length xs ≡ length ys → EqualEach E V (xs ++ xs') (ys ++ ys') → EqualParts E V xs xs' ys ys'
each_equal_parts [] xs' [] ys' l e = record { outer = no_terms; inner = e }
each_equal_parts (x ∷ xs) xs' (y ∷ ys) ys' l (a_term e es) = let r = each_equal_parts xs xs' ys ys' (omega arith) es in record { outer = a_term e r.outer; inner = r.inner }
each_equal_parts [] xs' (y ∷ ys) ys' l e = absurd (omega arith)
each_equal_parts (x ∷ xs) xs' [] ys' l e = absurd (omega arith)

-- equal terms put in for each of a list
pub each_put_equal : (E : Env) → IsAccepted E → (c : Context) (xs ys ts : List Term) → EqualEach E (values c) xs ys →
    EqualEach E (values c) (map (substitute (put_all xs Rel)) ts) (map (substitute (put_all ys Rel)) ts)
each_put_equal E h c xs ys [] e = no_terms
each_put_equal E h c xs ys (t ∷ ts) e = a_term (put_equal E h c xs ys t e) (each_put_equal E h c xs ys ts e)

-- equal functions at equal arguments
pub equal_apply : (E : Env) (V : Values) (f g : Term) (xs ys : List Term) → Equal E V f g → EqualEach E V xs ys → Equal E V (apply f xs) (apply g ys)
equal_apply E V f g xs ys e no_terms = e
equal_apply E V f g (x ∷ xs) (y ∷ ys) e (a_term p ps) = equal_apply E V (App f x) (App g y) xs ys (equal_applications E V f g x y e p) ps
