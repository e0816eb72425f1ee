-- What erasure's refusals tell of the environment that was read: the name of a constant without a body, and the place of a broken rule.
use Rattle.std.proofs.Common.{◌≡◌, ℕ, ◌<◌, ◌-◌, List, length, map, Option, Result, Err, refl, sym, ap, subst, ◌∙◌, arith}
use Rattle.std.specs.Prelude.{slice_get}
use Rattle.std.proofs.lemmas.List.{length-reverse, length-map}
use Rattle.std.proofs.lemmas.Option.{slice_get-map}
use Rattle.pc_terms.specs.declared.leaf.Name.{Name}
use Rattle.pc_terms.specs.Syntax.{Term}
use Rattle.box_terms.specs.BoxSyntax.{BoxTerm}
use Rattle.pc_rules.specs.declared.broken.Broken.{Broken as Rule}
use Rattle.pc_rules.specs.declared.broken.Place.{Place}
use Rattle.pc_rules.specs.declared.broken.Place.TheVariants.{Declaration}
use Rattle.calculus_rules.specs.declared.declaration.Kept.{Kept}
use Rattle.calculus_rules.specs.declared.declaration.Kept.TheVariants.{Constant}
use Rattle.pc_rules.specs.declared.meter.Account.{Account}
use Rattle.pc_rules.specs.declared.stop.Halt.{Halt}
use Rattle.pc_rules.specs.declared.stop.Halt.TheVariants as halts
use Rattle.calculus_rules.specs.Environment.{Env, Has, KeepsConstant, name_of as kept_name}
use Rattle.pc_rules.specs.Entailment.{test_of}
use Rattle.pc_rules.specs.DirectedRun.{Run, most_nested}
use Rattle.pc_rules.specs.DirectedTyping.{Typing}
use Rattle.rule_laws.specs.Declarations.{plain, plain_given, IsCheckedEnvironment}
use Rattle.inductive_check.specs.Given.{given_of}
use Rattle.env_check.specs.Rules.{givens}
use Rattle.lambda_box.specs.BoxProgram.{BoxProgram}
use Rattle.erase_rules.specs.DirectedProgram.{erased_program}
use Rattle.erase.specs.AtPlaces.{AnswersAt, HaltsAt, answered}
use Rattle.erase.specs.HaltPlaces.{IsAtBody, now, later, passed, IsAt, at_main, at_body, HaltsAtPlace}
use Rattle.erase.specs.declared.refusal.EraseRefusal.{EraseRefusal}
use Rattle.erase.specs.declared.refusal.EraseRefusal.TheVariants.{Halt as Halted}
use Rattle.dump_reader.specs.declared.declaration.RawDecl.{RawDecl}
use Rattle.dump_reader.specs.declared.declaration.RawDecl.TheVariants as raw
use Rattle.dump_reader.specs.declared.environment.RawEnv.{RawEnv}
use Rattle.dump_reader.specs.Spelled.{IsSpelled}
use Rattle.driver.specs.declared.refusal.Refusal.{Refusal}
use Rattle.driver.specs.declared.refusal.Refusal.TheVariants as refusals
use Rattle.driver.specs.Judged.{IsTableName, name_of}
use Rattle.driver.specs.ErasureParts.{HaltSays}
use Rattle.driver.specs.ExecEnds.{erasure_of, ErasureSays}
use Rattle.driver.proofs.Checking.{declared_name_there}
use Rattle.driver.proofs.Kept.{has_reversed, has_place}
use Rattle.calculus_rules.proofs.Listing.{has_map, from_map}

-- a constant that is kept was read, and its name stands in the table

given_name : (d : RawDecl) → kept_name (plain_given (given_of d)) ≡ name_of d
given_name (raw.Constant k T b) = refl
given_name (raw.Block k ps fs) = refl

pub constant_name_there : (e : RawEnv) → IsSpelled e → (E : Env) (T : Term) → IsCheckedEnvironment e.levels e.constraints (givens e) e.main E T →
    (k : Name) (A : Term) (b : Option Term) → KeepsConstant E k A b → (text : List ℕ) × IsTableName e k.0 text
constant_name_there e spelled E T checked k A b has =
    let given = has_place plain_given (givens e) (has_reversed (map plain_given (givens e)) (Constant k A b) (subst (λ xs. Has xs (Constant k A b)) checked.declarations (has_map plain has))) in
    let decl = from_map given_of (slice_get e.decls given.0) given.1 (sym (slice_get-map given_of e.decls given.0) ∙ given.2) in
    let same : name_of decl.0 ≡ k = sym (given_name decl.0) ∙ ap (λ x. kept_name (plain_given x)) (sym decl.2) ∙ ap kept_name given.3 in
    let there = declared_name_there e spelled given.0 decl.0 decl.1 in
    (there.0, subst (λ x. IsTableName e x.0 there.0) same there.1)

-- a halt at a declaration is at one that was read

body_within : {E : Env} {inf : Typing} {ts : List BoxTerm} {ds : List Kept} {u : Account} {p : Place} {d : Run BoxTerm} (i : ℕ) → IsAtBody E inf ts ds u p d → p ≡ Declaration i → i < length ds
body_within i (now {ds = ds} r) e = (let same : length ds ≡ i = cc in omega (arith, same))
body_within i (later r f h) e = (let le = body_within i h e in omega (arith, le))
body_within i (passed n h) e = (let le = body_within i h e in omega (arith, le))

place_within : {E : Env} {inf : Typing} {main : Term} {u : Account} {p : Place} {d : Run BoxTerm} (i : ℕ) → IsAt E inf main u p d → p ≡ Declaration i → i < length E.declarations
place_within i at_main e = absurd cc
place_within i (at_body f h) e = body_within i h e

as_many : (e : RawEnv) (E : Env) (T : Term) → IsCheckedEnvironment e.levels e.constraints (givens e) e.main E T → length E.declarations ≡ length e.decls
as_many e E T checked =
    sym (length-map E.declarations plain) ∙ ap length checked.declarations ∙ length-reverse (map plain_given (givens e)) ∙ length-map (givens e) plain_given ∙ length-map e.decls given_of

pub halt_within : (e : RawEnv) (E : Env) (T : Term) (inf : Typing) (main : Term) (u v : Account) (p : Place) (h : Halt) (b : Rule) (i : ℕ) → IsCheckedEnvironment e.levels e.constraints (givens e) e.main E T →
    HaltsAtPlace E inf main u (Halted p h) v → h ≡ halts.Broken b → p ≡ Declaration i → i < length e.decls
halt_within e E T inf main u v p (halts.Broken c) b i checked at is place =
    (let less = place_within i at.1 place in omega (arith, less, as_many e E T checked))
halt_within e E T inf main u v p (halts.Stop s) b i checked at is place = absurd cc

-- what a halt says, as what erasure says

module _ (e : RawEnv) (E : Env) (t : Term) (u w : Account) where
  pub halt_says : (p : Place) (h : Halt) (r : Refusal) → HaltSays e p h r → HaltsAt (erasure_of E t u) p h w → ErasureSays e E t u (Err r) w
  halt_says p h refusals.Memory x y = tt
  halt_says p h refusals.TurnsSpent x y = (subst (λ z. HaltsAt (erasure_of E t u) p z w) x y).0
  halt_says p h refusals.Depth x y = subst (λ z. HaltsAt (erasure_of E t u) p z w) x y
  halt_says p h (refusals.Broken n told) (b, is, number, place) y = (p, b, subst (λ z. HaltsAt (erasure_of E t u) p z w) is y, number, place)
  halt_says p h _ x y = absurd x

-- the rules for nothing that stands around, as those of a job
pub as_of_job : (E : Env) (t : Term) (n : ℕ) (u w : Account) (r : Result BoxProgram EraseRefusal) → n ≡ 0 → AnswersAt (erased_program E (test_of E) (most_nested - n) t u) (answered r) w →
    AnswersAt (erasure_of E t u) (answered r) w
as_of_job E t n u w r none h = subst (λ k. AnswersAt (erased_program E (test_of E) (most_nested - k) t u) (answered r) w) none h
