-- The check of a whole environment agrees with itself, whatever the units and the room.
use Rattle.std.proofs.Common.{ℕ, suc, List, [], ◌∷◌, length, Option, Some, None, refl, subst}
use Rattle.universe_levels.specs.declared.level.Level.{Level}
use Rattle.universe_levels.specs.declared.constraint.Constraint.{Constraint}
use Rattle.pc_terms.specs.declared.leaf.Name.{Name}
use Rattle.pc_terms.specs.Syntax.{Term}
use Rattle.calculus_rules.specs.declared.declaration.Kept.{Kept}
use Rattle.calculus_rules.specs.declared.declaration.Kept.TheVariants.{Constant, Block as Whole}
use Rattle.pc_rules.specs.declared.broken.Broken.TheVariants.{DuplicateName}
use Rattle.pc_rules.specs.declared.broken.Place.{Place}
use Rattle.pc_rules.specs.declared.broken.Place.TheVariants.{Declaration as AtDeclaration, Main as AtMain}
use Rattle.pc_rules.specs.declared.meter.Account.{Account}
use Rattle.calculus_rules.specs.Environment.{Env}
use Rattle.calculus_rules.specs.Accepted.{env}
use Rattle.pc_rules.specs.DirectedRun as run
use Rattle.pc_rules.specs.DirectedRun.{Run}
use Rattle.calculus_rules.specs.Lookups.{kept_at}
use Rattle.pc_rules.specs.DirectedComparison.{Test, Comparison, compare}
use Rattle.pc_rules.specs.DirectedTyping.{Typing, infer}
use Rattle.pc_rules.specs.DirectedPlaces.{Outcome, Gives, Breaks, Spends, Nests, Placed, gives, outcome_at, at_place, outcome_then, and_then}
use Rattle.pc_rules.specs.DirectedDeclarations.{body_rule, Given, GivenConstant, GivenBlock, fresh_name, declaration_rule, Checked, first_repeated, first_undeclared_end, main_rule, declarations_rule, graph_rule, constraints_rule, levels_rule, environment_rule}
use Rattle.agreeing.specs.Agreement.{Agree, AgreeAtPlaces}
use Rattle.agreeing.proofs.Agree.{IsAgreeing, agree_done, agree_refused, agree_bind}
use Rattle.agreeing.proofs.AgreeReduction.{agree_compare}
use Rattle.agreeing.proofs.AgreeTyping.{AgreeTyping, AgreeComparison, agree_infer, agree_sort_of, agree_check, agree_block}

agree_body : (E : Env) (inf inf' : Typing) (cmp cmp' : Comparison) → AgreeTyping inf inf' → AgreeComparison cmp cmp' → (T : Term) (b : Option Term) →
    IsAgreeing (λ u. body_rule E inf cmp T b u) (λ u. body_rule E inf' cmp' T b u)
agree_body E inf inf' cmp cmp' h g T None = agree_done tt
agree_body E inf inf' cmp cmp' h g T (Some b) = agree_check E inf inf' cmp cmp' h g [] b T

agree_fresh : (o : Option Kept) (k : Name) → IsAgreeing (λ u. fresh_name o k u) (λ u. fresh_name o k u)
agree_fresh None k = agree_done tt
agree_fresh (Some d) k = agree_refused (DuplicateName k.0)

pub agree_declaration : (E : Env) (q : Test) (m n : ℕ) (d : Given) → IsAgreeing (λ u. declaration_rule E q m d u) (λ u. declaration_rule E q n d u)
agree_declaration E q m n (GivenConstant k T b) =
    agree_bind _ _ _ _ (agree_fresh (kept_at E.declarations k) k) (λ x.
    agree_bind _ _ _ _ (agree_sort_of E (infer E q m) (infer E q n) (record { at = agree_infer E q m n }) [] T) (λ s.
    agree_bind _ _ _ _ (agree_body E (infer E q m) (infer E q n) (compare E q m) (compare E q n) (record { at = agree_infer E q m n }) (record { at = agree_compare E q m n }) T b)
    (λ y. agree_done (Constant k T b))))
agree_declaration E q m n (GivenBlock B) =
    agree_bind _ _ _ _ (agree_fresh (kept_at E.declarations B.name) B.name) (λ x. agree_bind _ _ _ _ (agree_block E q m n B) (λ D. agree_done (Whole D)))

-- what is done at places

-- two that agree at places, whatever units and uses each is given
pub record PlacesAgree {A : Type 0} (f g : Account → Placed A) : Type 0 where
  pub at : (u v : Account) → AgreeAtPlaces (f u).outcome (g v).outcome

agree_spends : {A : Type 0} (o : Outcome A) → AgreeAtPlaces o Spends
agree_spends (Gives a u) = tt
agree_spends (Breaks p b u) = tt
agree_spends Spends = tt
agree_spends Nests = tt

agree_nests : {A : Type 0} (o : Outcome A) → AgreeAtPlaces o Nests
agree_nests (Gives a u) = tt
agree_nests (Breaks p b u) = tt
agree_nests Spends = tt
agree_nests Nests = tt

pub agree_gives : {A : Type 0} (a : A) → PlacesAgree (λ u. gives a u) (λ u. gives a u)
agree_gives a = record { at = λ u v. refl }

agree_outcome_at : {A : Type 0} (p : Place) (e e' : run.End A) → Agree e e' → AgreeAtPlaces (outcome_at p e) (outcome_at p e')
agree_outcome_at p (run.Done a u) (run.Done b v) h = h
agree_outcome_at p (run.Done a u) (run.Refused b v) h = h
agree_outcome_at p (run.Done a u) run.NoUnit h = tt
agree_outcome_at p (run.Done a u) run.Nested h = tt
agree_outcome_at p (run.Refused b u) (run.Done a v) h = h
agree_outcome_at p (run.Refused b u) (run.Refused b' v) h = (refl, h)
agree_outcome_at p (run.Refused b u) run.NoUnit h = tt
agree_outcome_at p (run.Refused b u) run.Nested h = tt
agree_outcome_at p run.NoUnit e' h = tt
agree_outcome_at p run.Nested e' h = tt

pub agree_at_place : {A : Type 0} (p : Place) (f f' : Account → Run A) → IsAgreeing f f' → PlacesAgree (λ u. at_place p (f u)) (λ u. at_place p (f' u))
agree_at_place p f f' h = record { at = λ u v. agree_outcome_at p (f u).end (f' v).end (h.at u v) }

agree_outcome_then : {A B : Type 0} (g g' : A → Account → Placed B) → ((a : A) → PlacesAgree (g a) (g' a)) → (o o' : Outcome A) → AgreeAtPlaces o o' →
    AgreeAtPlaces (outcome_then o (λ a v. (g a v).outcome)) (outcome_then o' (λ a v. (g' a v).outcome))
agree_outcome_then g g' q (Gives a u) (Gives b v) h = subst (λ x. AgreeAtPlaces (g a u).outcome (g' x v).outcome) h ((q a).at u v)
agree_outcome_then g g' q (Gives a u) (Breaks p b v) h = absurd h
agree_outcome_then g g' q (Gives a u) Spends h = agree_spends (g a u).outcome
agree_outcome_then g g' q (Gives a u) Nests h = agree_nests (g a u).outcome
agree_outcome_then g g' q (Breaks p b u) (Gives a v) h = absurd h
agree_outcome_then g g' q (Breaks p b u) (Breaks r b' v) h = h
agree_outcome_then g g' q (Breaks p b u) Spends h = tt
agree_outcome_then g g' q (Breaks p b u) Nests h = tt
agree_outcome_then g g' q Spends o' h = tt
agree_outcome_then g g' q Nests o' h = tt

pub agree_and_then : {A B : Type 0} (f f' : Account → Placed A) (g g' : A → Account → Placed B) → PlacesAgree f f' → ((a : A) → PlacesAgree (g a) (g' a)) →
    PlacesAgree (λ u. and_then (f u) g) (λ u. and_then (f' u) g')
unfolding and_then
agree_and_then f f' g g' p q = record { at = λ u v. agree_outcome_then g g' q (f u).outcome (f' v).outcome (p.at u v) }

-- the whole check

agree_main : (E : Env) (q : Test) (m n : ℕ) (main : Term) → PlacesAgree (λ u. main_rule E q m main u) (λ u. main_rule E q n main u)
agree_main E q m n main =
    agree_and_then _ _ _ _ (agree_at_place AtMain (λ u. infer E q m [] main u) (λ u. infer E q n [] main u) (agree_infer E q m n [] main)) (λ T. agree_gives (E, T))

agree_declarations : (levels : ℕ) (cs : List Constraint) (q : Test) (m n i : ℕ) (ds : List Kept) (gs : List Given) (main : Term) →
    PlacesAgree (λ u. declarations_rule levels cs q m i ds gs main u) (λ u. declarations_rule levels cs q n i ds gs main u)
unfolding declarations_rule
agree_declarations levels cs q m n i ds [] main = agree_main (env levels cs ds) q m n main
agree_declarations levels cs q m n i ds (g ∷ gs) main =
    agree_and_then _ _ _ _
    (agree_at_place (AtDeclaration i) (λ u. declaration_rule (env levels cs ds) q m g u) (λ u. declaration_rule (env levels cs ds) q n g u)
    (agree_declaration (env levels cs ds) q m n g))
    (λ k. agree_declarations levels cs q m n (suc i) (k ∷ ds) gs main)

agree_graph : (cycle : Option (List ℕ)) (r s : Checked) (u v : Account) → AgreeAtPlaces r.outcome s.outcome → AgreeAtPlaces (graph_rule cycle r u).outcome (graph_rule cycle s v).outcome
agree_graph None r s u v h = h
agree_graph (Some places) r s u v h = (refl, refl)

agree_constraints : (o : Option (ℕ × Level)) (r s : Checked) (u v : Account) → AgreeAtPlaces r.outcome s.outcome →
    AgreeAtPlaces (constraints_rule o r u).outcome (constraints_rule o s v).outcome
agree_constraints None r s u v h = h
agree_constraints (Some p) r s u v h = (refl, refl)

agree_levels : (o : Option (ℕ × Level)) (r s : Checked) (u v : Account) → AgreeAtPlaces r.outcome s.outcome → AgreeAtPlaces (levels_rule o r u).outcome (levels_rule o s v).outcome
agree_levels None r s u v h = h
agree_levels (Some p) r s u v h = (refl, refl)

pub agree_environment : (levels : List Level) (cs : List Constraint) (cycle : Option (List ℕ)) (q : Test) (m n : ℕ) (gs : List Given) (main : Term) (u v : Account) →
    AgreeAtPlaces (environment_rule levels cs cycle q m gs main u).outcome (environment_rule levels cs cycle q n gs main v).outcome
agree_environment levels cs cycle q m n gs main u v =
    agree_levels (first_repeated 0 [] levels) _ _ u v
    (agree_constraints (first_undeclared_end (length levels) 0 cs) _ _ u v
    (agree_graph cycle _ _ u v ((agree_declarations (length levels) cs q m n 0 [] gs main).at u v)))
