-- Equal terms meet: they have parallel reducts in common, with the values of the context put in, and reduction follows those but for sorts. What meets is equal.
use Rattle.std.specs.Prelude.{List}
use Rattle.pc_terms.specs.Syntax.{Slot, Term, Terms, Children, substitute}
use Rattle.calculus_rules.specs.Environment.{Env}
use Rattle.calculus_rules.specs.Context.{Values, under}
use Rattle.calculus_rules.specs.Conversion.{Equal, same, back, chain}
use Rattle.calculus_rules.specs.Conversion as equality
use Rattle.equality_laws.proofs.Reducing.{Steps}
use Rattle.equality_laws.proofs.Roots.{Settled, settled, entails_then}
use Rattle.equality_laws.proofs.FromEquality.{equality_carried}
use Rattle.equality_laws.proofs.ToEquality.{expanding, expanding_meets}
use Rattle.type_laws.proofs.Apart.{reduces_equal}
use Rattle.type_laws.proofs.Reducts.{reduces_then, reduces_expanded}
use Rattle.metatheory.specs.ChurchRosser.{Alike, AlikeIn, AlikeTerms, rel, sorts, node, end, and, group, done, next, EqualTermsMeet, MeetingTermsAreEqual, ReductionIsConfluent}
use Rattle.metatheory.proofs.Simulated.{Simulated, simulated}

-- an equivalence

mutual
  alike_back : {E : Env} {t u : Term} → Alike E t u → Alike E u t
  alike_back rel = rel
  alike_back (sorts p q) = sorts q p
  alike_back (node ps) = node (alike_in_back ps)

  alike_in_back : {E : Env} {ss : List Slot} {ts us : Children ss} → AlikeIn E ss ts us → AlikeIn E ss us ts
  alike_in_back end = end
  alike_in_back (and p ps) = and (alike_back p) (alike_in_back ps)
  alike_in_back (group p ps) = group (alike_terms_back p) (alike_in_back ps)

  alike_terms_back : {E : Env} {ts us : Terms} → AlikeTerms E ts us → AlikeTerms E us ts
  alike_terms_back done = done
  alike_terms_back (next p ps) = next (alike_back p) (alike_terms_back ps)

mutual
  alike_then : {E : Env} {t u w : Term} → Alike E t u → Alike E u w → Alike E t w
  alike_then rel rel = rel
  alike_then {E} (sorts {s = r} {s' = s} p q) (sorts {s' = w} p' q') = sorts (entails_then E r s w p p') (entails_then E w s r q' q)
  alike_then (sorts p q) (node end) = sorts p q
  alike_then (node end) (sorts p q) = sorts p q
  alike_then (node ps) (node qs) = node (alike_in_then ps qs)

  alike_in_then : {E : Env} {ss : List Slot} {ts us ws : Children ss} → AlikeIn E ss ts us → AlikeIn E ss us ws → AlikeIn E ss ts ws
  alike_in_then end end = end
  alike_in_then (and p ps) (and q qs) = and (alike_then p q) (alike_in_then ps qs)
  alike_in_then (group p ps) (group q qs) = group (alike_terms_then p q) (alike_in_then ps qs)

  alike_terms_then : {E : Env} {ts us ws : Terms} → AlikeTerms E ts us → AlikeTerms E us ws → AlikeTerms E ts ws
  alike_terms_then done done = done
  alike_terms_then (next p ps) (next q qs) = next (alike_then p q) (alike_terms_then ps qs)

-- alike terms are equal

mutual
  alike_equal : {E : Env} (V : Values) {t u : Term} → Alike E t u → Equal E V t u
  alike_equal V rel = same
  alike_equal V (sorts p q) = equality.sorts p q
  alike_equal V (node ps) = equality.inside (alike_in_equal V ps)

  alike_in_equal : {E : Env} (V : Values) {ss : List Slot} {ts us : Children ss} → AlikeIn E ss ts us → equality.EqualChildren E V ss ts us
  alike_in_equal V end = equality.end
  alike_in_equal V (and {n = n} p ps) = equality.and (alike_equal (under n V) p) (alike_in_equal V ps)
  alike_in_equal V (group p ps) = equality.group (alike_terms_equal V p) (alike_in_equal V ps)

  alike_terms_equal : {E : Env} (V : Values) {ts us : Terms} → AlikeTerms E ts us → equality.EqualTerms E V ts us
  alike_terms_equal V done = equality.done
  alike_terms_equal V (next {n = n} p ps) = equality.next (alike_equal (under n V) p) (alike_terms_equal V ps)

-- the laws

reduced : {E : Env} → Settled E → (V : Values) (t w : Term) → Steps E (substitute (expanding V) t) w → Simulated E V t w
reduced d V t w p =
    let r = simulated V (substitute (expanding V) t) w p in
    record { reduct = r.reduct; reduces = reduces_then (reduces_expanded d V t) r.reduces; alike = r.alike }

pub equal_terms_meet : EqualTermsMeet
equal_terms_meet E h V t u e =
    let d = settled E h in
    let c = equality_carried d V (expanding V) t u (expanding_meets d V) e in
    let l = reduced d V t c.common c.left in
    let r = reduced d V u c.common c.right in
    record { left = l.reduct; right = r.reduct; from_left = l.reduces; from_right = r.reduces; alike = alike_then l.alike (alike_back r.alike) }

pub meeting_terms_are_equal : MeetingTermsAreEqual
meeting_terms_are_equal E V t u m =
    chain (reduces_equal E V t m.left m.from_left) (chain (alike_equal V m.alike) (back (reduces_equal E V u m.right m.from_right)))

pub reduction_is_confluent : ReductionIsConfluent
reduction_is_confluent E h V t u w p q = equal_terms_meet E h V u w (chain (back (reduces_equal E V t u p)) (reduces_equal E V t w q))
