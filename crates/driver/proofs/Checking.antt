-- What the check of an environment says, with the units of a job.
use Rattle.std.proofs.Common.{◌≡◌, ℕ, ◌<◌, ◌-◌, List, length, Option, Some, None, Result, Ok, Err, refl, sym, ap, subst, ◌∙◌}
use Rattle.std.specs.Prelude.{replicate, slice_get}
use Rattle.std.proofs.Common.{get_or}
use Rattle.std.proofs.lemmas.Option.{slice_get_read}
use Rattle.dump_reader.specs.declared.declaration.RawDecl.{RawDecl}
use Rattle.dump_reader.specs.declared.environment.RawEnv.{RawEnv}
use Rattle.dump_reader.specs.Spelled.{IsSpelled}
use Rattle.pc_rules.specs.declared.accepted.Accepted.{Accepted}
use Rattle.pc_rules.specs.declared.broken.Broken.{Broken as Rule}
use Rattle.pc_rules.specs.declared.broken.Place.{Place}
use Rattle.pc_rules.specs.declared.broken.Place.TheVariants.{Declaration}
use Rattle.pc_rules.specs.declared.meter.Account.{Account}
use Rattle.pc_rules.specs.DirectedDeclarations.{Breaks}
use Rattle.pc_rules.specs.DirectedRun.{most_nested}
use Rattle.env_check.specs.declared.refusal.Refusal.TheVariants.{Broken, Spent, TooDeep}
use Rattle.env_check.specs.Answers.{AnswersFound}
use Rattle.env_check.specs.Rules.{rules_of}
use Rattle.driver.specs.declared.refusal.Where.{Where}
use Rattle.driver.specs.SourceEnds.{IsAcceptedWith}
use Rattle.driver.specs.Serve.{AcceptSays, CheckSays}
use Rattle.driver.specs.declared.refusal.Refusal.{Refusal}
use Rattle.driver.specs.Judged.{start, IsSpentBy, IsTooDeepFor, IsBrokenBy, PlaceIsTold, IsTableName, name_of, number_of}
use Rattle.driver.proofs.Judging.{place_within}
use Rattle.driver.proofs.SourceCauses.{accepted_by}
use Rattle.driver.proofs.Kept.{name_there}
use Rattle.driver.proofs.TextCauses.{within_limits}

-- the account of a meter that is new
pub begins : (turns : ℕ) (u : Account) → u.left ≡ turns → u.uses ≡ replicate 12 0 → u ≡ start turns
begins turns u e f = λ i. record { left = e i; uses = f i }

module _ (turns : ℕ) (e : RawEnv) (n : ℕ) (u v : Account) (none : n ≡ 0) (fresh : u ≡ start turns) where
  judged : (c : Option (List ℕ)) → rules_of e c (most_nested - n) u ≡ rules_of e c most_nested (start turns)
  judged c = (λ i. rules_of e c (most_nested - none i) u) ∙ ap (rules_of e c most_nested) fresh

  pub accepted_with : (a : Accepted) → AnswersFound e (most_nested - n) u (Ok a) v → IsAcceptedWith turns e a.env a.main_type v
  accepted_with a h = record {
    rules = rules_of e h.cycle (most_nested - n) u;
    judged = record { cycle = h.cycle; found = h.found; is = judged h.cycle };
    accepts = h.answers;
  }

  pub spent_by : (p : Place) (before : Account) → AnswersFound e (most_nested - n) u (Err (Spent p before)) v → IsSpentBy turns e
  spent_by p before h = record {
    rules = rules_of e h.cycle (most_nested - n) u;
    judged = record { cycle = h.cycle; found = h.found; is = judged h.cycle };
    spends = h.answers.0;
  }

  pub too_deep_for : (p : Place) → AnswersFound e (most_nested - n) u (Err (TooDeep p)) v → IsTooDeepFor turns e
  too_deep_for p h = record {
    rules = rules_of e h.cycle (most_nested - n) u;
    judged = record { cycle = h.cycle; found = h.found; is = judged h.cycle };
    deep = h.answers;
  }

  pub broken_by : (p : Place) (b : Rule) (number : ℕ) (told : Where) → AnswersFound e (most_nested - n) u (Err (Broken p b)) v → number ≡ number_of b → PlaceIsTold e p told → IsBrokenBy turns e number told
  broken_by p b number told h is t = record {
    rules = rules_of e h.cycle (most_nested - n) u;
    judged = record { cycle = h.cycle; found = h.found; is = judged h.cycle };
    place = p;
    rule = b;
    left = v;
    breaks = h.answers;
    number_is = is;
    told_is = t;
  }

  pub broken_within : (p : Place) (b : Rule) (i : ℕ) → AnswersFound e (most_nested - n) u (Err (Broken p b)) v → p ≡ Declaration i → i < length e.decls
  broken_within p b i h is =
      place_within e h.cycle (most_nested - n) u i b v (h.answers ∙ ap (λ q. Breaks q b v) is)

-- the name of a declaration that is read stands in the table
pub declared_name_there : (e : RawEnv) → IsSpelled e → (i : ℕ) (d : RawDecl) → slice_get e.decls i ≡ Some d → (name : List ℕ) × IsTableName e (name_of d).0 name
declared_name_there e (bytes, env, h, same) i d at = name_there bytes e (within_limits bytes e (env, h, same)) i d at

-- the item at a place of a list that is lent as a slice
pub place_read : {X : Type 0} (xs ys : List X) (i : ℕ) (x : X) → ys ≡ xs → i < length xs → x ≡ get_or ys i x → slice_get xs i ≡ Some x
place_read xs ys i x same within is =
    subst (λ zs. slice_get zs i ≡ Some x) same (slice_get_read ys (length ys) i x refl (subst (λ zs. i < length zs) (sym same) within) is)

pub no_name : (names : List (List ℕ)) (n : ℕ) (name : List ℕ) → None ≡ slice_get names n → slice_get names n ≡ Some name → ⊥
no_name names n name e f = let q : None ≡ Some name = e ∙ f in absurd cc

-- what is said with the units that are left, without them
pub check_from : (turns : ℕ) → (r : Result Accepted Refusal) (e : RawEnv) (u : Account) → AcceptSays turns r e u → CheckSays turns r e
check_from turns (Ok a) e u h = (accepted_by turns e a.env a.main_type u h.0, h.2)
check_from turns (Err r) e u h = h
