-- The value of a term of first-order type is data, whatever was left alone; and no constructor of it is erasable.
use Rattle.std.proofs.Common.{List, []}
use Rattle.pc_terms.specs.Syntax.{Term, args}
use Rattle.calculus_rules.specs.Environment.{Env}
use Rattle.calculus_rules.specs.Erasable.{Erasable}
use Rattle.calculus_rules.specs.Conversion.{equal}
use Rattle.calculus_rules.specs.Evaluation.{sort_is, prod_is, lambda_is, ind_is, construct_is, fix_is}
use Rattle.calculus_rules.specs.FirstOrder.{Shape}
use Rattle.calculus_rules.specs.Accepted.{IsAccepted}
use Rattle.calculus_rules.proofs.WeakHead.{weak_equal}
use Rattle.typing_laws.proofs.DataAlong.{Members}
use Rattle.type_laws.proofs.FirstOrderValues.{IsRead, AllRead, all_last, built_read}
use Rattle.sparing_laws.specs.Laws.{SparingValuesAreData}
use Rattle.sparing_laws.proofs.Evidence.{unerasable}
use Rattle.sparing_laws.proofs.Keeping.{sparing_keeps}
use Rattle.sparing_laws.proofs.Results.{IsSparingResult, plain, extended, IsHanded, spared, kept, sparing_result, sparing_canonical}

-- what is left alone is of no type of the set
spared_read : (E : Env) → IsAccepted E → (S : List Shape) → Members E S → {w : Term} → Erasable E [] w → IsRead E S w
spared_read E h S M {w} r i k T e d b = let m = M i k e in absurd (unerasable E h k.family m.declared k.parameters w T m.kept m.not_prop d b r)

value_read : (E : Env) → IsAccepted E → (S : List Shape) → Members E S → {v : Term} → IsSparingResult E v → AllRead E S (args v) → IsRead E S v
value_read E h S M r a i k T e d b = let (c, qs, xs, con) = sparing_canonical E h k.family k.parameters T r d b in built_read E h S M a i c k T qs xs e d b con

mutual
  arguments_read : (E : Env) → IsAccepted E → (S : List Shape) → Members E S → {v : Term} → IsSparingResult E v → AllRead E S (args v)
  arguments_read E h S M (plain sort_is) = tt
  arguments_read E h S M (plain prod_is) = tt
  arguments_read E h S M (plain lambda_is) = tt
  arguments_read E h S M (plain ind_is) = tt
  arguments_read E h S M (plain construct_is) = tt
  arguments_read E h S M (plain fix_is) = tt
  arguments_read E h S M (extended {g = g} r r' m) = all_last E S (args g) (arguments_read E h S M r) (handed_read E h S M r')

  pub handed_read : (E : Env) → IsAccepted E → (S : List Shape) → Members E S → {w : Term} → IsHanded E w → IsRead E S w
  handed_read E h S M (spared r) = spared_read E h S M r
  handed_read E h S M (kept r) = value_read E h S M r (arguments_read E h S M r)

pub sparing_values_are_data : SparingValuesAreData
sparing_values_are_data E h t v T n S e d f =
    let (k, at, steps) = f.first in
    let q = sparing_result e in
    let r = value_read E h S f.members q (arguments_read E h S f.members q) 0 k T at (sparing_keeps E h e T d).typed (equal (weak_equal steps)) in
    (r.answer, r.reading, r.solid)
