-- What the stages of `eval` say, as what its run shows.
use Rattle.std.proofs.Common.{◌≡◌, ℕ, List, map, Some, slice_get, Result, Ok, Err, ◌⊎◌, inl, inr, refl, sym, ap, subst, ◌∙◌}
use Rattle.std.specs.Prelude.{option_map, IfOk, IfErr}
use Rattle.std.proofs.lemmas.Option.{slice_get-map, slice_get_within}
use Rattle.pc_terms.specs.Syntax.{Term}
use Rattle.pc_rules.specs.declared.meter.Account.{Account}
use Rattle.calculus_rules.specs.Environment.{Env}
use Rattle.calculus_rules.specs.Evaluation.{Evaluates}
use Rattle.calculus_rules.specs.FirstOrder.{Shape as Member, IsFirstOrder}
use Rattle.pc_rules.specs.DirectedRun.{Run, Done, NoUnit, bind, end_then}
use Rattle.pc_rules.specs.DirectedEvaluation.{Evaluated, Value, Stuck, evaluation}
use Rattle.pc_rules.specs.DirectedFirstOrder.{Searched, Found, NotFirstOrder, TooManyTypes, first_order_search}
use Rattle.pc_rules.proofs.Following.{bind_end, bind_deep, first_deep}
use Rattle.rule_laws.specs.Declarations.{IsCheckedEnvironment}
use Rattle.env_check.specs.Rules.{givens}
use Rattle.first_order.specs.declared.shapes.Shape.{Shape}
use Rattle.first_order.specs.Searching.{members, constructor_name, ctor_name, IsNamed, AreNamed}
use Rattle.first_order.specs.Reading.{Reading, Read, NotAt, TooMany, reading, read}
use Rattle.first_order.specs.Texts.{HasNames}
use Rattle.first_order.proofs.DataRead.{read_is_data, reading_is}
use Rattle.dump_reader.specs.declared.environment.RawEnv.{RawEnv}
use Rattle.command_line.specs.declared.line.Request.{Request}
use Rattle.driver.specs.declared.refusal.Refusal.{Refusal}
use Rattle.driver.specs.declared.refusal.Refusal.TheVariants as refusals
use Rattle.command_line.specs.declared.job.Job.TheVariants.{Eval}
use Rattle.driver.specs.Texts.{SpellsWithin}
use Rattle.driver.specs.SourceEnds.{Ended, IsRead, read_value, with_set, source_rule, ShowsEnd, IsAcceptedWith, IsSourceCause, source_status}
use Rattle.driver.specs.SourceSays.{ShapesSay, ValueSays, DataSays, IsLine}
use Rattle.driver.specs.EvaluatedSource.{IsEvaluated}
use Rattle.driver.specs.Serve.{JobSays, RefusalSays}
use Rattle.driver.proofs.Kept.{was_read, named_ctor}
use Rattle.calculus_rules.proofs.Listing.{from_map}
use Rattle.driver.proofs.Accepting.{at_place}

-- the first of two runs has no unit left, or passes a limit

no_unit_first : {A B : Type 0} (d : Run A) (k : A → Account → Run B) → d.end ≡ NoUnit → (bind d k).end ≡ NoUnit
unfolding bind
no_unit_first d k e = ap (λ x. end_then x (λ a u. (k a u).end)) e

module _ (E : Env) (t T : Term) (u : Account) where
  abbrev search : Run (Searched (List Member))
  search = first_order_search E T u

  pub of_shapes : (r : Refusal) (w : Account) → ShapesSay E T u (Err r) w → (r ≡ refusals.Memory) ⊎ ShowsEnd r (source_rule E t T u) w
  of_shapes refusals.NotFirstOrder w (W, e) = inr (W, bind_end search (with_set E t) (NotFirstOrder W) w e)
  of_shapes refusals.Types w e = inr (bind_end search (with_set E t) TooManyTypes w e)
  of_shapes refusals.TurnsSpent w e = inr (no_unit_first search (with_set E t) e)
  of_shapes refusals.Depth w h = inr (first_deep search (with_set E t) h)
  of_shapes refusals.Memory w h = inl refl
  of_shapes _ w h = absurd h

  module _ (S : List Member) (v : Account) (found : search.end ≡ Done (Found S) v) where
    abbrev value : Run Evaluated
    value = evaluation E t v

    rest : (source_rule E t T u).end ≡ (bind value (read_value S)).end
    rest = bind_end search (with_set E t) (Found S) v found

    pub of_value : (r : Refusal) (w : Account) → ValueSays E t v (Err r) w → (r ≡ refusals.Memory) ⊎ ShowsEnd r (source_rule E t T u) w
    of_value refusals.Stuck w (s, e) = inr (inl (s, rest ∙ bind_end value (read_value S) (Stuck s) w e))
    of_value refusals.TurnsSpent w e = inr (rest ∙ no_unit_first value (read_value S) e)
    of_value refusals.Depth w h = inr (bind_deep search (with_set E t) (Found S) v found (first_deep value (read_value S) h))
    of_value refusals.Memory w h = inl refl
    of_value _ w h = absurd h

    pub whole : (x : Term) (w : Account) → value.end ≡ Done (Value x) w → (source_rule E t T u).end ≡ Done (IsRead (reading S x)) w
    whole x w e = rest ∙ bind_end value (read_value S) (Value x) w e

-- a value that is read, at the types that are found

module _ (E : Env) (t T : Term) (u v w : Account) (hs : List Shape) (named : AreNamed E hs) (found : (first_order_search E T u).end ≡ Done (Found (members hs)) v)
    (x : Term) (valued : (evaluation E t v).end ≡ Done (Value x) w) where
  read_as : (r : Reading) → read hs x ≡ r → (source_rule E t T u).end ≡ Done (IsRead r) w
  read_as r e = whole E t T u (members hs) v found x w valued ∙ ap (λ r. Done (IsRead r) w) (sym (reading_is E hs x named) ∙ e)

  pub of_data : (r : Refusal) → DataSays hs x (Err r) → (r ≡ refusals.Memory) ⊎ ShowsEnd r (source_rule E t T u) w
  of_data refusals.Stuck (k, e) = inr (inr (k, read_as (NotAt k) e))
  of_data refusals.AnswerNodes e = inr (read_as TooMany e)
  of_data refusals.Memory h = inl refl
  of_data _ h = absurd h

  pub ends_well : (ds : List (ℕ × ℕ)) → read hs x ≡ Read ds → source_status (source_rule E t T u).end ≡ 0
  ends_well ds e = ap source_status (read_as (Read ds) e)

-- ---- the names of the constructors of types that are found stand in the table

pub names_there : (bytes : List ℕ) (e : RawEnv) (E : Env) (T : Term) → SpellsWithin bytes e → IsCheckedEnvironment e.levels e.constraints (givens e) e.main E T →
    (hs : List Shape) → AreNamed E hs → HasNames hs e.names
names_there bytes e E T s checked hs named i c h k at at' =
    let n : IsNamed E h = at_place (IsNamed E) hs i h at named in
    let name : slice_get (map constructor_name n.declared.constructors) c ≡ Some k.name =
    ap (λ xs. slice_get xs c) (sym n.names) ∙ slice_get-map ctor_name h.ctors c ∙ ap (option_map ctor_name) at' in
    let m = from_map constructor_name (slice_get n.declared.constructors c) k.name (sym (slice_get-map constructor_name n.declared.constructors c) ∙ name) in
    let there = named_ctor bytes e s n.family c m.0 (was_read e E T checked n.family c n.declared m.0 n.keeps m.1) in
    slice_get_within e.names k.name.0 there.name (ap (λ x. slice_get e.names x.0) m.2 ∙ there.named)

-- ---- the answers of `eval`

pub source_says : (q : Request) (r : Refusal) (bytes : List ℕ) (e : RawEnv) (E : Env) (t T : Term) (u w : Account) → SpellsWithin bytes e →
    IsAcceptedWith q.turns e E T u → t ≡ e.main → IsCheckedEnvironment e.levels e.constraints (givens e) e.main E T → (r ≡ refusals.Memory) ⊎ ShowsEnd r (source_rule E t T u) w →
    RefusalSays Eval q r bytes
source_says q r bytes e E t T u w s a m checked (inl none) = subst (λ x. RefusalSays Eval q x bytes) (sym none) tt
source_says q r bytes e E t T u w s a m checked (inr h) =
    caused q r bytes e s w (source_rule E t T u) h (record {
      run = source_rule E t T u;
      of = record { kept = E; type = T; left = u; accepted = a; is = ap (λ x. source_rule E x T u) m };
      well = checked;
      left = w;
      shows = h;
    })
  where
    caused : (q : Request) (r : Refusal) (bytes : List ℕ) (e : RawEnv) → SpellsWithin bytes e → (w : Account) (run : Run Ended) → ShowsEnd r run w → IsSourceCause q.turns r e → RefusalSays Eval q r bytes
    caused q refusals.TurnsSpent bytes e s w run h c = (e, s, inr c)
    caused q refusals.Depth bytes e s w run h c = (e, s, inr c)
    caused q refusals.NotFirstOrder bytes e s w run h c = (e, s, inr c)
    caused q refusals.Types bytes e s w run h c = (e, s, inr c)
    caused q refusals.Stuck bytes e s w run h c = (e, s, inr c)
    caused q refusals.AnswerNodes bytes e s w run h c = (e, s, inr c)
    caused q _ bytes e s w run h c = absurd h

pub evaluated : (turns : ℕ) (bytes text : List ℕ) (e : RawEnv) (E : Env) (t T : Term) (u v w : Account) → SpellsWithin bytes e → IsAcceptedWith turns e E T u → t ≡ e.main →
    IsCheckedEnvironment e.levels e.constraints (givens e) e.main E T → (hs : List Shape) → AreNamed E hs → IsFirstOrder E T (members hs) →
    (first_order_search E T u).end ≡ Done (Found (members hs)) v → (x : Term) → (evaluation E t v).end ≡ Done (Value x) w → ((n : ℕ) × Evaluates E t x n) →
    (ds : List (ℕ × ℕ)) → read hs x ≡ Read ds → IsLine hs e.names ds text → IsEvaluated turns bytes text
evaluated turns bytes text e E t T u v w s a m checked hs named set found x valued (n, ev) ds read_is line = record {
  environment = e;
  spelled = s;
  kept = E;
  type = T;
  checked = checked;
  left = u;
  accepted = a;
  run = source_rule E t T u;
  ran = record { kept = E; type = T; left = u; accepted = a; is = ap (λ y. source_rule E y T u) m };
  ends = ends_well E t T u v w hs named found x valued ds read_is;
  shapes = hs;
  set = set;
  named = named;
  value = x;
  nodes = n;
  evaluates = subst (λ y. Evaluates E y x n) m ev;
  tree = ds;
  reads = read_is_data E T hs x ds set read_is;
  line = line.0;
  line_is = line.1;
  text_is = line.2;
}

-- a line that is made of the answer, or want of memory
pub line_says : {V : Type 0} (view : V → List ℕ) (q : Request) (r : Result V Refusal) (bytes : List ℕ) (hs : List Shape) (names : List (List ℕ)) (ds : List (ℕ × ℕ)) →
    ((text : List ℕ) → IsLine hs names ds text → IsEvaluated q.turns bytes text) → IfOk r (λ v. IsLine hs names ds (view v)) → IfErr r (λ e. e ≡ refusals.Memory) → JobSays Eval q view r bytes
line_says view q (Ok v) bytes hs names ds answer line memory = answer (view v) line
line_says {V = V} view q (Err e) bytes hs names ds answer line memory = subst (λ x. JobSays {V = V} Eval q view (Err x) bytes) (sym memory) tt
