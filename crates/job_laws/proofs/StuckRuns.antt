-- Where the run of main's evaluation is stuck, it is so at an axiom: the value of a typed main is data of its type.
use Rattle.std.proofs.Common.{◌≡◌, List, [], inl, inr, sym, ap, ◌∙◌, subst, map, Some, None, slice_get}
use Rattle.std.proofs.lemmas.Option.{slice_get-map}
use Rattle.pc_terms.specs.declared.leaf.Name.{Name}
use Rattle.pc_terms.specs.Syntax.{Term, Const}
use Rattle.calculus_rules.specs.declared.declaration.Kept.TheVariants.{Constant}
use Rattle.pc_rules.specs.declared.meter.Account.{Account}
use Rattle.calculus_rules.specs.Environment.{Env, Has}
use Rattle.calculus_rules.specs.Accepted.{IsAccepted}
use Rattle.calculus_rules.specs.Typing.{bare, Types}
use Rattle.calculus_rules.specs.FirstOrder.{Shape, IsFirstOrder}
use Rattle.pc_rules.specs.DirectedRun.{End, Done}
use Rattle.pc_rules.specs.DirectedEvaluation.{Evaluated, Value, Stuck, evaluation}
use Rattle.pc_rules.specs.DirectedFirstOrder.{Searched, Found, NotFirstOrder, TooManyTypes, first_order_search}
use Rattle.calculus_rules.proofs.Bare.{bare_types}
use Rattle.pc_rules.proofs.EvaluationRuns.{bind_came}
use Rattle.pc_rules.proofs.SearchRuns.{search_is}
use Rattle.rule_laws.specs.Declarations.{plain, plain_given, IsCheckedEnvironment}
use Rattle.inductive_check.specs.Given.{given_of}
use Rattle.env_check.specs.Rules.{givens}
use Rattle.dump_reader.specs.declared.declaration.RawDecl.{RawDecl}
use Rattle.dump_reader.specs.declared.declaration.RawDecl.TheVariants as raw
use Rattle.dump_reader.specs.declared.environment.RawEnv.{RawEnv}
use Rattle.first_order.specs.Reading.{Reading, NotAt}
use Rattle.driver.proofs.Kept.{has_reversed, has_place}
use Rattle.driver.specs.SourceEnds.{Ended, NoRule, IsRead, read_value, with_set, source_rule, IsStuck}
use Rattle.progress.specs.Ends.{IsAxiom}
use Rattle.progress.proofs.Consequences.{stuck_at_axioms, first_order_values_are_data}
use Rattle.job_laws.specs.EvalLaws.{DeclaresAxiom, StuckEvalsMeetAxioms, NoEvalIsStuck}
use Rattle.job_laws.proofs.ReadableValues.{data_fits}
use Rattle.calculus_rules.proofs.Listing.{has_map, from_map}

-- the run ends at an axiom
abbrev AtAxiom : Env → End Ended → Account → Type 0
AtAxiom E x w = (k : Name) × (x ≡ Done (NoRule (Const k)) w) × IsAxiom E k

term_in : Term → End Ended → Term
term_in o (Done (NoRule t) u) = t
term_in o e = o

number_in : End Ended → Reading → Reading
number_in (Done (IsRead r) u) o = r
number_in e o = o

module _ (E : Env) (h : IsAccepted E) (t T : Term) (d : Types bare E [] t T) where
  -- what is evaluated with a set that is found
  evaluated : (S : List Shape) → IsFirstOrder E T S → (u x w : Account) (e : Evaluated) → (evaluation E t u).end ≡ Done e x → (whole : End Ended) →
      (read_value S e x).end ≡ whole → IsStuck whole w → AtAxiom E whole w
  unfolding number_in term_in
  evaluated S f u x w (Value v) at whole q (inl (s, p)) = absurd (cc)
  evaluated S f u x w (Value v) at whole q (inr (k, p)) =
      let (ds, r) = first_order_values_are_data E h t v T S u x d f at in
      absurd (data_fits E h T S v ds k f r (ap (λ e. number_in e (NotAt k)) (q ∙ p)))
  evaluated S f u x w (Stuck s) at whole q (inl (s', p)) =
      let (k, e, a) = stuck_at_axioms E h t T s u x d at in
      (k, p ∙ ap (λ s. Done (NoRule s) w) (sym (ap (term_in s') (q ∙ p)) ∙ e), a)
  evaluated S f u x w (Stuck s) at whole q (inr (k, p)) = absurd (cc)

  searched : (u x w : Account) (s : Searched (List Shape)) → (first_order_search E T u).end ≡ Done s x → (whole : End Ended) → (with_set E t s x).end ≡ whole → IsStuck whole w →
      AtAxiom E whole w
  searched u x w (Found S) at whole q (inl (s, p)) =
      let (e, y, at', q') = bind_came (evaluation E t x) (read_value S) (q ∙ p) in evaluated S (search_is E 1024 T S u x at) x y w e at' whole (q' ∙ sym p) (inl (s, p))
  searched u x w (Found S) at whole q (inr (k, p)) =
      let (e, y, at', q') = bind_came (evaluation E t x) (read_value S) (q ∙ p) in evaluated S (search_is E 1024 T S u x at) x y w e at' whole (q' ∙ sym p) (inr (k, p))
  searched u x w (NotFirstOrder W) at whole q (inl (s, p)) = absurd (cc)
  searched u x w (NotFirstOrder W) at whole q (inr (k, p)) = absurd (cc)
  searched u x w TooManyTypes at whole q (inl (s, p)) = absurd (cc)
  searched u x w TooManyTypes at whole q (inr (k, p)) = absurd (cc)

  stuck_run : (u w : Account) → IsStuck (source_rule E t T u).end w → AtAxiom E (source_rule E t T u).end w
  stuck_run u w (inl (s, p)) =
      let (f, x, at, q) = bind_came (first_order_search E T u) (with_set E t) p in searched u x w f at (source_rule E t T u).end (q ∙ sym p) (inl (s, p))
  stuck_run u w (inr (k, p)) =
      let (f, x, at, q) = bind_came (first_order_search E T u) (with_set E t) p in searched u x w f at (source_rule E t T u).end (q ∙ sym p) (inr (k, p))

-- an axiom that is kept was read

without_body : (d : RawDecl) (k : Name) (T : Term) → plain_given (given_of d) ≡ Constant k T None → d ≡ raw.Constant k T None
without_body (raw.Constant l U (Some b)) k T e = absurd (cc)
without_body (raw.Constant l U None) k T e = cc
without_body (raw.Block l ps fs) k T e = absurd (cc)

axiom_read : (e : RawEnv) (E : Env) (T : Term) → IsCheckedEnvironment e.levels e.constraints (givens e) e.main E T → (k : Name) → IsAxiom E k → DeclaresAxiom e k
axiom_read e E T checked k (U, has) =
    let (i, d, at, is) = has_place plain_given (givens e)
    (has_reversed (map plain_given (givens e)) (Constant k U None) (subst (λ xs. Has xs (Constant k U None)) checked.declarations (has_map plain has))) in
    let (r, at', is') = from_map given_of (slice_get e.decls i) d (sym (slice_get-map given_of e.decls i) ∙ at) in
    (i, U, at' ∙ ap Some (without_body r k U (ap plain_given (sym is') ∙ is)))

pub stuck_evals_meet_axioms : StuckEvalsMeetAxioms
stuck_evals_meet_axioms turns e r c =
    let (k, p, a) = subst (λ r. IsStuck r.end c.left → AtAxiom c.of.kept r.end c.left) (sym c.of.is)
    (stuck_run c.of.kept c.well.formed.accepted e.main c.of.type (bare_types c.well.formed.typed) c.of.left c.left) c.shows in
    (k, p, axiom_read e c.of.kept c.of.type c.well k a)

pub no_eval_is_stuck : NoEvalIsStuck
no_eval_is_stuck turns e r n c = let (k, _, a) = stuck_evals_meet_axioms turns e r c in n k a
