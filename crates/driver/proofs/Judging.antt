-- What the directed rules say of an environment: the same status whichever cycle is found; and a broken rule's place is one of it.
use Rattle.std.proofs.Common.{◌≡◌, ℕ, suc, ◌+◌, ◌<◌, List, [], ◌∷◌, length, Option, Some, None, refl, sym, ap, subst, ◌∙◌, arith}
use Rattle.std.proofs.lemmas.List.{length-map}
use Rattle.universe_levels.specs.declared.level.Level.{Level}
use Rattle.universe_levels.specs.declared.constraint.Constraint.{Constraint}
use Rattle.pc_terms.specs.Syntax.{Term}
use Rattle.pc_rules.specs.declared.broken.Broken.{Broken}
use Rattle.pc_rules.specs.declared.broken.Place.{Place}
use Rattle.pc_rules.specs.declared.broken.Place.TheVariants.{Declaration as AtDeclaration, Main as AtMain}
use Rattle.calculus_rules.specs.declared.declaration.Kept.{Kept}
use Rattle.pc_rules.specs.declared.meter.Account.{Account}
use Rattle.calculus_rules.specs.Environment.{Env}
use Rattle.calculus_rules.specs.Accepted.{env}
use Rattle.pc_rules.specs.DirectedRun as run
use Rattle.pc_rules.specs.DirectedComparison.{Test}
use Rattle.pc_rules.specs.DirectedTyping.{infer}
use Rattle.pc_rules.specs.DirectedPlaces.{and_then}
use Rattle.pc_rules.specs.DirectedDeclarations.{Given, Outcome, Accepts, Breaks, Checked, placed_end, first_repeated, first_undeclared_end, declarations_rule, declaration_rule, main_rule, IsCycle, graph_rule, constraints_rule, levels_rule}
use Rattle.dump_reader.specs.declared.environment.RawEnv.{RawEnv}
use Rattle.pc_rules.specs.DirectedRun.{most_nested}
use Rattle.inductive_check.specs.Given.{given_of}
use Rattle.env_check.specs.Rules.{rules_of, givens, IsFound}
use Rattle.env_check.proofs.Cycles.{no_cycle}
use Rattle.driver.specs.Judged.{IsJudged, status_by}

-- two ends with the same status, of which both have passed a limit or none has
pub record AreAlike (d e : Checked) : Type 0 where
  pub status : status_by d.outcome ≡ status_by e.outcome
  pub deep : d.deep ≡ e.deep

alike : (d : Checked) → AreAlike d d
alike d = record { status = refl; deep = refl }

graph_alike : (levels : ℕ) (cs : List Constraint) (a b : Option (List ℕ)) (go : Checked) (u : Account) → IsCycle levels cs a → IsCycle levels cs b → AreAlike (graph_rule a go u) (graph_rule b go u)
graph_alike levels cs None None go u h k = alike go
graph_alike levels cs None (Some q) go u h k = absurd (no_cycle levels cs q h k)
graph_alike levels cs (Some p) None go u h k = absurd (no_cycle levels cs p k h)
graph_alike levels cs (Some p) (Some q) go u h k = record { status = refl; deep = refl }

constraints_alike : (o : Option (ℕ × Level)) (d e : Checked) (u : Account) → (o ≡ None → AreAlike d e) → AreAlike (constraints_rule o d u) (constraints_rule o e u)
constraints_alike None d e u h = h refl
constraints_alike (Some p) d e u h = record { status = refl; deep = refl }

levels_alike : (o : Option (ℕ × Level)) (d e : Checked) (u : Account) → (o ≡ None → AreAlike d e) → AreAlike (levels_rule o d u) (levels_rule o e u)
levels_alike None d e u h = h refl
levels_alike (Some p) d e u h = record { status = refl; deep = refl }

rules_alike : (e : RawEnv) (a b : Option (List ℕ)) (n : ℕ) (u : Account) → IsFound e a → IsFound e b → AreAlike (rules_of e a n u) (rules_of e b n u)
rules_alike e a b n u h k =
    levels_alike (first_repeated 0 [] e.levels) _ _ u (λ once.
    constraints_alike (first_undeclared_end (length e.levels) 0 e.constraints) _ _ u (λ declared.
    graph_alike (length e.levels) e.constraints a b _ u (h once declared) (k once declared)))

pub judged_alike : (turns : ℕ) → (e : RawEnv) (d d' : Checked) → IsJudged turns e d → IsJudged turns e d' → AreAlike d d'
judged_alike turns e d d' h k =
    let both = rules_alike e h.cycle k.cycle most_nested _ h.found k.found in
    record {
      status = ap (λ x. status_by x.outcome) h.is ∙ both.status ∙ sym (ap (λ x. status_by x.outcome) k.is);
      deep = ap (λ x. x.deep) h.is ∙ both.deep ∙ sym (ap (λ x. x.deep) k.is);
    }

-- the place of a broken rule

BreaksAt : Outcome (Env × Term) → ℕ → Type 0
BreaksAt (Breaks (AtDeclaration j) b v) i = i ≡ j
BreaksAt _ i = ⊥

breaks_at : (o : Outcome (Env × Term)) (i : ℕ) (b : Broken) (v : Account) → o ≡ Breaks (AtDeclaration i) b v → BreaksAt o i
unfolding BreaksAt
breaks_at o i b v e = subst (λ x. BreaksAt x i) (sym e) refl

data AtEnd {A : Type 0} (p : Place) (k : A → Account → Outcome (Env × Term)) (i : ℕ) : Type 0 where
  AtPlace : p ≡ AtDeclaration i → AtEnd p k i
  AtRest : (a : A) (u : Account) → BreaksAt (k a u) i → AtEnd p k i

placed_at : {A : Type 0} (p : Place) (r : run.End A) (k : A → Account → Outcome (Env × Term)) (i : ℕ) → BreaksAt (placed_end p r k) i → AtEnd p k i
unfolding BreaksAt
placed_at p (run.Done a u) k i h = AtRest a u h
placed_at (AtDeclaration j) (run.Refused b u) k i h = AtPlace (ap AtDeclaration (sym h))
placed_at p run.NoUnit k i h = absurd h
placed_at p run.Nested k i h = absurd h
placed_at _ (run.Refused b u) k i h = absurd h

main_at : (E : Env) (q : Test) (n : ℕ) (main : Term) (u : Account) (i : ℕ) → BreaksAt (main_rule E q n main u).outcome i → ⊥
unfolding BreaksAt and_then
main_at E q n main u i h =
    elim (placed_at AtMain (infer E q n [] main u).end (λ T v. Accepts E T v) i h) [
      | AtPlace e ↦ absurd cc
      | AtRest a v k ↦ k
    ]

declarations_at : (levels : ℕ) (cs : List Constraint) (q : Test) (n i : ℕ) (ds : List Kept) (rest : List Given) (main : Term) (u : Account) (j : ℕ) →
    BreaksAt (declarations_rule levels cs q n i ds rest main u).outcome j → j < i + length rest
unfolding declarations_rule and_then
declarations_at levels cs q n i ds [] main u j h = absurd (main_at (env levels cs ds) q n main u j h)
declarations_at levels cs q n i ds (d ∷ rest) main u j h =
    elim (placed_at (AtDeclaration i) (declaration_rule (env levels cs ds) q n d u).end (λ k v. (declarations_rule levels cs q n (suc i) (k ∷ ds) rest main v).outcome) j h) [
      | AtPlace e ↦ (let same : i ≡ j = cc in omega (arith, same))
      | AtRest k v b ↦ (let later = declarations_at levels cs q n (suc i) (k ∷ ds) rest main v j b in omega (arith, later))
    ]

graph_at : (c : Option (List ℕ)) (go : Checked) (u : Account) (j : ℕ) → BreaksAt (graph_rule c go u).outcome j → BreaksAt go.outcome j
unfolding BreaksAt
graph_at None go u j h = h
graph_at (Some []) go u j h = absurd h
graph_at (Some (p ∷ ps)) go u j h = absurd h

constraints_at : (o : Option (ℕ × Level)) (go : Checked) (u : Account) (j : ℕ) → BreaksAt (constraints_rule o go u).outcome j → BreaksAt go.outcome j
unfolding BreaksAt
constraints_at None go u j h = h
constraints_at (Some p) go u j h = absurd h

levels_at : (o : Option (ℕ × Level)) (go : Checked) (u : Account) (j : ℕ) → BreaksAt (levels_rule o go u).outcome j → BreaksAt go.outcome j
unfolding BreaksAt
levels_at None go u j h = h
levels_at (Some p) go u j h = absurd h

pub place_within : (e : RawEnv) (c : Option (List ℕ)) (n : ℕ) (u : Account) (j : ℕ) (b : Broken) (v : Account) →
    (rules_of e c n u).outcome ≡ Breaks (AtDeclaration j) b v → j < length e.decls
place_within e c n u j b v h =
    let at = breaks_at (rules_of e c n u).outcome j b v h in
    let one = levels_at (first_repeated 0 [] e.levels) _ u j at in
    let two = constraints_at (first_undeclared_end (length e.levels) 0 e.constraints) _ u j one in
    let three = graph_at c _ u j two in
    let below = declarations_at (length e.levels) e.constraints _ n 0 [] (givens e) e.main u j three in
    let many : length (givens e) ≡ length e.decls = length-map e.decls given_of in
    omega (arith, below, many)
