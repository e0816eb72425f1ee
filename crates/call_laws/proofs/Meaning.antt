-- The stages of a call of `call` that ends with status 0 show its arguments and its answer.
use Rattle.std.proofs.Common.{◌≡◌, ◌∙◌, ℕ, List, [], ◌∷◌, ◌++◌, drop, length, Option, Some, Result, Ok, Err, refl, sym, subst}
use Rattle.std.specs.Io.KnownBytes.{Appends}
use Rattle.sexp_reader.specs.Lex.{Spanned, answer_at, nesting_after_text}
use Rattle.sexp_reader.specs.declared.Token.{Token}
use Rattle.sexp_reader.specs.declared.TokenFault.{TokenFault}
use Rattle.dump_grammar.specs.Judge.{texts}
use Rattle.dump_reader.specs.Front.{front_length}
use Rattle.dump_reader.specs.declared.environment.RawEnv.{RawEnv}
use Rattle.calculus_rules.specs.FirstOrder.{Data}
use Rattle.calculus_rules.specs.Environment.{Env}
use Rattle.calculus_rules.proofs.Spines.{one_item}
use Rattle.first_order.specs.Awaited.{ArgumentReading, ArgumentsAre, ArgumentsFail, Awaited, HasNoFault, answered, argument_sets, at_token, call_arguments, joined, reading_behind, reading_of, whole_call}
use Rattle.first_order.specs.Awaited.{Taking, BreaksForm, Misplaced, TakesToken, taken, taking, with_nodes}
use Rattle.first_order.specs.Searching.{AreNamed}
use Rattle.first_order.proofs.ArgumentSpelling.{read-spelled, whole-spelled}
use Rattle.headline.specs.Headline.{IsExactly}
use Rattle.command_line.specs.declared.job.Job.{Job}
use Rattle.command_line.specs.declared.job.Job.TheVariants.{Call}
use Rattle.command_line.specs.declared.line.Request.{Request}
use Rattle.command_line.specs.Line.{IsInRange, request_of}
use Rattle.command_line.proofs.Ranges.{requests_lie_in_range}
use Rattle.driver.specs.Called.{IsCallAnswer}
use Rattle.driver.specs.CallEnds.{ReadingArguments, answer_shapes}
use Rattle.driver.specs.Serve.{HasAnswer, IsAnswerOf, IsInput, IsInputOf}
use Rattle.driver.proofs.CallCauses.{one_answer_set}
use Rattle.call_laws.specs.CallValues.{HasArguments, answer_types, kept_environment, tokens_behind}
use Rattle.call_laws.specs.Meaning.{CallMeans, HasCalled}
use Rattle.call_laws.proofs.CallStatuses.{answer_is, one_environment_kept}
use Rattle.call_laws.proofs.ValuesServed.{data_of_value, erased_value, value_exactly}

-- ---- what is read is spelled, by tokens of which none passes a limit

behind_is : (n : ℕ) (ds : Data) (r : ArgumentReading) → reading_behind n r ≡ ArgumentsAre ds → r ≡ ArgumentsAre ds
behind_is n ds (ArgumentsAre es) e = e
behind_is n ds (ArgumentsFail f) e = absurd cc

rest_is : (ms ds : Data) (r : ArgumentReading) → with_nodes ms r ≡ ArgumentsAre ds → (es : Data) × (r ≡ ArgumentsAre es)
rest_is ms ds (ArgumentsAre es) e = (es, refl)
rest_is ms ds (ArgumentsFail f) e = absurd cc

taken_on : (t : Taking) (o : ℕ) (go : List Awaited → ArgumentReading) (ds : Data) → taken t o go ≡ ArgumentsAre ds → (ys : List Awaited) × (es : Data) × (go ys ≡ ArgumentsAre es)
taken_on BreaksForm o go ds e = absurd cc
taken_on Misplaced o go ds e = absurd cc
taken_on (TakesToken ys ms) o go ds e = let r = rest_is ms ds (go ys) e in (ys, r.0, r.1)

answer_given : (r : Result (Option Token) TokenFault) (x : ArgumentReading) (ds : Data) → answered r x ≡ ArgumentsAre ds → ((o : Option Token) × (r ≡ Ok o)) × (x ≡ ArgumentsAre ds)
answer_given (Ok o) x ds e = ((o, refl), e)
answer_given (Err f) x ds e = absurd cc

none_faulty : (names : List (List ℕ)) (len : ℕ) (ss : List Spanned) (d : ℕ) (xs : List Awaited) (ds : Data) → reading_of names len ss d xs ≡ ArgumentsAre ds → HasNoFault d ss
unfolding reading_of
none_faulty names len [] d xs ds e = tt
none_faulty names len (s ∷ ss) d [] ds e = absurd (let a = answer_given (answer_at d s.start s.text) _ ds e in cc)
none_faulty names len (s ∷ ss) d (x ∷ xs) ds e =
    let a = answer_given (answer_at d s.start s.text) (at_token names (x ∷ xs) s.start s.text (λ ys. reading_of names len ss (nesting_after_text d s.text) ys)) ds e in
    let t = taken_on (taking names x s.text) s.start (λ ys. reading_of names len ss (nesting_after_text d s.text) (ys ++ xs)) ds a.1 in
    (a.0, none_faulty names len ss (nesting_after_text d s.text) (t.0 ++ xs) t.1 t.2)

given_of : (turns : ℕ) (e : RawEnv) (bytes : List ℕ) → ReadingArguments turns e bytes → HasArguments turns e bytes
given_of turns e bytes y =
    let Ss = argument_sets y.before.signature.args in
    let behind = drop (front_length bytes) bytes in
    let read = behind_is (front_length bytes) (joined y.arguments) (call_arguments e.names Ss behind) y.read.0 in
    let spelled = whole-spelled e.names Ss (texts (tokens_behind bytes)) (joined y.arguments) (read-spelled e.names (length behind) (tokens_behind bytes) 0 (whole_call Ss) (joined y.arguments) read) in
    record { signing = y.before; arguments = spelled.0; spelled = spelled.2; whole = none_faulty e.names (length behind) (tokens_behind bytes) 0 (whole_call Ss) (joined y.arguments) read }

-- ---- the law

-- the request and the job of an answer are those that were asked for
record AnswerOf (job : Job) (q : Request) (left : Option (List ℕ)) (text : List ℕ) : Type 0 where
  bytes : List ℕ
  input : IsInputOf job q left bytes
  answer : IsAnswerOf job q bytes text

answer_of : (words : List (List ℕ)) (left : Option (List ℕ)) (text : List ℕ) (q : Request) (job : Job) → request_of words ≡ Some q → q.job ≡ job → HasAnswer words left text → AnswerOf job q left text
answer_of words left text q job e is a =
    subst (λ job. AnswerOf job q left text) is
    (subst (λ q. AnswerOf q.job q left text) (one_item (sym a.asked ∙ e)) (record { bytes = a.bytes; input = a.input; answer = a.answer }))

called : (q : Request) → IsInRange q → (left taken taken' : Option (List ℕ)) (bytes text : List ℕ) → IsInput left bytes → IsCallAnswer q.turns q.pages q.steps bytes text → Appends taken taken' text →
    HasCalled q left taken taken'
called q range left taken taken' bytes text input m w =
    let e = m.environment in
    let x = m.stages in
    let g = x.before.before.before in
    let h = given_of q.turns e bytes x.reading in
    record {
      bytes = bytes;
      input = input;
      environment = e;
      spelled = m.spelled;
      given = h;
      tree = x.answer.tree;
      text = text;
      line = record {
        shapes = answer_shapes g;
        set = one_answer_set q.turns e g h.signing;
        named = subst (λ (E : Env). AreNamed E (answer_shapes g)) (one_environment_kept q range bytes e m.spelled h g) g.named.1;
        line = m.text_is;
      };
      written = w;
      values =
          λ n v.
          let d = data_of_value q range bytes e m.spelled h n v in
          subst (IsExactly (kept_environment h) (answer_types h) v.value) (sym (answer_is q range bytes e m.spelled h n d.tree (erased_value q range bytes e m.spelled h n v) d.fits x)) (value_exactly q range bytes e m.spelled h n v);
    }

pub call_means : {S K E : Type 0} → CallMeans S K E
call_means words reports src src' out out' err err' s q e job =
    let (text, answer, w) = s.done refl in
    let a = answer_of words src.told text q Call e job answer in
    called q (requests_lie_in_range words q e) src.told out.told out'.told a.bytes text a.input a.answer w
