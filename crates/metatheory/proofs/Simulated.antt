-- Parallel reduction, which also changes sorts, is followed by steps in a context of any values, up to the sorts.
use Rattle.std.specs.Prelude.{List}
use Rattle.pc_terms.specs.Syntax.{Slot, Term, Terms, Children, End, Child, Group, Done, Next, Node}
use Rattle.calculus_rules.specs.Environment.{Env}
use Rattle.calculus_rules.specs.Context.{Values, under}
use Rattle.calculus_rules.specs.Step.{Step, StepIn, StepTerms, root, in_child, in_group, past_child, past_group, in_first, in_rest}
use Rattle.equality_laws.proofs.Reducing.{Par, ParIn, ParTerms, Steps, contract}
use Rattle.equality_laws.proofs.Roots.{entails_then, root_anywhere}
use Rattle.type_laws.specs.Contexts.{Reduces, none, more}
use Rattle.metatheory.specs.ChurchRosser.{Alike, AlikeIn, AlikeTerms}
use Rattle.metatheory.proofs.Alike.{alike_same, root_alike}
use Rattle.type_laws.proofs.Reducts.{reduces_then, reduces_by}

-- the term reduces to one that is the other but for sorts
pub record Simulated (E : Env) (V : Values) (t u : Term) : Type 0 where
  pub reduct : Term
  pub reduces : Reduces E V t reduct
  pub alike : Alike E reduct u

-- a term does by steps of its children, and by steps of its list
record SimulatedIn (E : Env) (V : Values) (ss : List Slot) (f : Children ss → Term) (ts us : Children ss) : Type 0 where
  reducts : Children ss
  reduces : Reduces E V (f ts) (f reducts)
  alike : AlikeIn E ss reducts us

record SimulatedTerms (E : Env) (V : Values) (f : Terms → Term) (ts us : Terms) : Type 0 where
  reducts : Terms
  reduces : Reduces E V (f ts) (f reducts)
  alike : AlikeTerms E reducts us

mutual
  simulate : {E : Env} (V : Values) {t t' u : Term} → Alike E t t' → Par E t' u → Simulated E V t u
  simulate V Alike.rel Par.rel = record { reduct = _; reduces = none; alike = Alike.rel }
  simulate {E} V (Alike.sorts {s = s} {s' = r} a b) (Par.sorts {s' = w} p q) = record { reduct = _; reduces = none; alike = Alike.sorts (entails_then E s r w a p) (entails_then E w r s q b) }
  simulate V (Alike.node AlikeIn.end) (Par.sorts p q) = record { reduct = _; reduces = none; alike = Alike.sorts p q }
  simulate V (Alike.sorts a b) (Par.inside ParIn.end) = record { reduct = _; reduces = none; alike = Alike.sorts a b }
  simulate V (Alike.sorts a b) (contract ParIn.end r) = elim r [ ]
  simulate V (Alike.node {l = l} qs) (Par.inside ps) =
      let i = simulate_in V (Node l) (λ ts us p. Step.inside p) qs ps in
      record { reduct = Node l i.reducts; reduces = i.reduces; alike = Alike.node i.alike }
  simulate V (Alike.node {l = l} qs) (contract ps r) =
      let i = simulate_in V (Node l) (λ ts us p. Step.inside p) qs ps in
      let k = root_alike _ r i.alike in
      record { reduct = k.reduct; reduces = reduces_then i.reduces (more (root (root_anywhere V k.root)) none); alike = k.alike }

  simulate_in : {E : Env} (V : Values) {ss : List Slot} (f : Children ss → Term) → ((ts us : Children ss) → StepIn E V ss ts us → Step E V (f ts) (f us)) →
      {ts ts' us : Children ss} → AlikeIn E ss ts ts' → ParIn E ss ts' us → SimulatedIn E V ss f ts us
  simulate_in V f g AlikeIn.end ParIn.end = record { reducts = End; reduces = none; alike = AlikeIn.end }
  simulate_in V f g (AlikeIn.and {n = n} {ts = ts} a qs) (ParIn.and p ps) =
      let r = simulate (under n V) a p in
      let rs = simulate_in V (λ ts. f (Child r.reduct ts)) (λ ts us s. g _ _ (past_child s)) qs ps in
      record {
        reducts = Child r.reduct rs.reducts;
        reduces = reduces_then (reduces_by (λ t. f (Child t ts)) (λ t u s. g _ _ (in_child s)) r.reduces) rs.reduces;
        alike = AlikeIn.and r.alike rs.alike;
      }
  simulate_in V f g (AlikeIn.group {ts = ts} a qs) (ParIn.group p ps) =
      let r = simulate_terms V (λ us. f (Group us ts)) (λ ts us s. g _ _ (in_group s)) a p in
      let rs = simulate_in V (λ ts. f (Group r.reducts ts)) (λ ts us s. g _ _ (past_group s)) qs ps in
      record { reducts = Group r.reducts rs.reducts; reduces = reduces_then r.reduces rs.reduces; alike = AlikeIn.group r.alike rs.alike }

  simulate_terms : {E : Env} (V : Values) (f : Terms → Term) → ((ts us : Terms) → StepTerms E V ts us → Step E V (f ts) (f us)) →
      {ts ts' us : Terms} → AlikeTerms E ts ts' → ParTerms E ts' us → SimulatedTerms E V f ts us
  simulate_terms V f g AlikeTerms.done ParTerms.done = record { reducts = Done; reduces = none; alike = AlikeTerms.done }
  simulate_terms V f g (AlikeTerms.next {n = n} {ts = ts} a qs) (ParTerms.next p ps) =
      let r = simulate (under n V) a p in
      let rs = simulate_terms V (λ ts. f (Next n r.reduct ts)) (λ ts us s. g _ _ (in_rest s)) qs ps in
      record {
        reducts = Next n r.reduct rs.reducts;
        reduces = reduces_then (reduces_by (λ t. f (Next n t ts)) (λ t u s. g _ _ (in_first s)) r.reduces) rs.reduces;
        alike = AlikeTerms.next r.alike rs.alike;
      }

simulate_steps : {E : Env} (V : Values) {t' u : Term} → Steps E t' u → (t : Term) → Alike E t t' → Simulated E V t u
simulate_steps V Steps.none t a = record { reduct = t; reduces = none; alike = a }
simulate_steps V (Steps.more p ps) t a =
    let r = simulate V a p in
    let rs = simulate_steps V ps r.reduct r.alike in
    record { reduct = rs.reduct; reduces = reduces_then r.reduces rs.reduces; alike = rs.alike }

pub simulated : {E : Env} (V : Values) (t u : Term) → Steps E t u → Simulated E V t u
simulated V t u s = simulate_steps V s t (alike_same _ t)
