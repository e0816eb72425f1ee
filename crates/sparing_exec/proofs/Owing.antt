-- What the jobs that make main's module owe an evaluation over lemmas, and a sparing one: the erased program evaluates to the value's data, so the clauses on such a program hold of it.
use Rattle.std.proofs.Common.{ℕ, List, []}
use Rattle.pc_terms.specs.Syntax.{Term}
use Rattle.calculus_rules.specs.FirstOrder.{Data, Reads, FitsShapes}
use Rattle.calculus_rules.specs.Typing.{bare, Types}
use Rattle.calculus_rules.specs.Accepted.{IsAccepted}
use Rattle.calculus_rules.proofs.Bare.{bare_types}
use Rattle.typing_laws.proofs.DataAlong.{reading_is_determined}
use Rattle.dump_reader.specs.declared.environment.RawEnv.{RawEnv}
use Rattle.first_order.specs.Searching.{members}
use Rattle.headline.specs.EveryRun.{EvaluatesTo}
use Rattle.reports.specs.Shown.{Shown}
use Rattle.command_line.specs.declared.line.Request.{Request}
use Rattle.driver.specs.ExecEnds.{Erasing, its_environment, its_shapes, its_type}
use Rattle.driver.specs.Headline.{EvaluatesErased}
use Rattle.driver.specs.Serve.{AsksModule}
use Rattle.driver.specs.Served.{Seen, Served}
use Rattle.sparing_answers.proofs.Answered.{sparing_is_followed}
use Rattle.sparing_answers.proofs.OverLemmas.{lemmas_are_followed}
use Rattle.sparing_exec.specs.Laws.{ServesData, JobsAnswerOverLemmas, JobsAnswerSparingly}

module _ {turns : ℕ} {e : RawEnv} (x : Erasing turns e) where
  accepted : IsAccepted (its_environment x)
  accepted = x.before.before.checked.formed.accepted

  typed : Types bare (its_environment x) [] e.main (its_type x)
  typed = bare_types x.before.before.checked.formed.typed

-- the data of a value, to which the erased program evaluates
record DataOf (q : Request) (e : RawEnv) (x : Erasing q.turns e) (v : Term) (n : ℕ) : Type 0 where
  tree : Data
  reads : Reads (its_environment x) (members (its_shapes x)) 0 v tree
  fits : FitsShapes (members (its_shapes x)) 0 tree
  kept : EvaluatesTo x.program tree n

serves_data : {S K E : Type 0} (status : ℕ) (words : List (List ℕ)) (reports : List Shown) (src src' : Seen S) (out out' : Seen K) (err err' : Seen E) →
    Served status words reports src src' out out' err err' → (q : Request) (e : RawEnv) → AsksModule q e words src.told → (x : Erasing q.turns e) (v : Term) (n : ℕ) → DataOf q e x v n →
    ServesData q e x v n status out.told out'.told
serves_data status words reports src src' out out' err err' s q e asks x v n d =
    let k = d.kept in
    let erased : EvaluatesErased q.turns e k.nodes = record { stages = x; value = k.value; tree = d.tree; matches = k.matches; evaluates = k.evaluates; reads = k.reads } in
    record {
      tree = d.tree;
      exactly = record { reads = d.reads; only = λ other r. reading_is_determined (its_environment x) (accepted x) (members (its_shapes x)) 0 v other d.tree r d.reads };
      kept = k;
      answers = s.values q e d.tree k.nodes k.matches asks (record { stages = x; value = k.value; evaluates = k.evaluates; reads = k.reads; fits = d.fits });
      erased = erased;
      bounded = s.bounded q e k.nodes asks erased;
    }

pub jobs_answer_over_lemmas : {S K E : Type 0} → JobsAnswerOverLemmas S K E
jobs_answer_over_lemmas status words reports src src' out out' err err' s q e asks x v n evaluation =
    let (tree, reading, fit, kept) =
    lemmas_are_followed (its_environment x) (accepted x) x.program x.form x.sources e.main v (its_type x) n (typed x) evaluation x.is.main (members (its_shapes x)) x.before.set in
    serves_data status words reports src src' out out' err err' s q e asks x v n (record { tree = tree; reads = reading; fits = fit; kept = kept })

pub jobs_answer_sparingly : {S K E : Type 0} → JobsAnswerSparingly S K E
jobs_answer_sparingly status words reports src src' out out' err err' s q e asks x v n m evaluation r =
    let (tree, reading, fit, answers) =
    sparing_is_followed (its_environment x) (accepted x) x.program x.form x.sources e.main v (its_type x) n (typed x) evaluation x.is.main (members (its_shapes x)) x.before.set in
    serves_data status words reports src src' out out' err err' s q e asks x v m
    (record {
      tree = tree;
      reads = reading;
      fits = fit;
      kept = record { value = r.value; nodes = r.nodes; matches = r.matches; few = r.few; evaluates = r.evaluates; reads = answers r.value r.nodes r.matches r.evaluates };
    })
