-- The type that the check finds for main is the one that inference found.
use Rattle.std.proofs.Common.{ℕ, suc, ◌≡◌, List, [], ◌∷◌, Option, Some, None, length, ap, subst}
use Rattle.universe_levels.specs.declared.constraint.Constraint.{Constraint}
use Rattle.pc_terms.specs.Syntax.{Term}
use Rattle.calculus_rules.specs.declared.declaration.Kept.{Kept}
use Rattle.calculus_rules.specs.Environment.{Env}
use Rattle.calculus_rules.specs.Accepted.{env}
use Rattle.pc_rules.specs.declared.meter.Account.{Account}
use Rattle.pc_rules.specs.declared.broken.Place.TheVariants.{Main as AtMain, Declaration as AtDeclaration}
use Rattle.pc_rules.specs.DirectedRun.{Done}
use Rattle.pc_rules.specs.DirectedComparison.{Test}
use Rattle.pc_rules.specs.DirectedPlaces.{Outcome, Gives}
use Rattle.pc_rules.specs.DirectedDeclarations.{Given, Checked, Accepts, accepts, declaration_rule, declarations_rule, constraints_rule, graph_rule, first_repeated, first_undeclared_end}
use Rattle.pc_rules.specs.DirectedTyping.{infer}
use Rattle.rule_laws.proofs.Environments.{breaks_accepts, placed_both, levels_passed, constraints_passed}
use Rattle.checked_laws.specs.InferredTypes.{MainsTypeIsLeast}
use Rattle.checked_laws.proofs.Least.{infer_least}

found_in : Outcome (Env × Term) → Env × Term → Env × Term
found_in (Gives p u) o = p
found_in _ o = o

one_found : {E E' : Env} {T T' : Term} {u u' : Account} → Accepts E T u ≡ Accepts E' T' u' → (E ≡ E') × (T ≡ T')
unfolding found_in
one_found {E} {T = T} e = let pairs = ap (λ r. found_in r (E, T)) e in (ap (λ p. p.0) pairs, ap (λ p. p.1) pairs)

-- inference found the type, with some units
abbrev IsFound : Test → ℕ → Term → Env → Term → Type 0
IsFound q n main E T = (u : Account) × (v : Account) × ((infer E q n [] main u).end ≡ Done T v)

after_declarations : (levels : ℕ) (cs : List Constraint) (q : Test) (n i : ℕ) (ds : List Kept) (rest : List Given) (main : Term) (u v : Account) (E : Env) (T : Term) →
    (declarations_rule levels cs q n i ds rest main u).outcome ≡ Accepts E T v → IsFound q n main E T
unfolding declarations_rule
after_declarations levels cs q n i ds [] main u v E T h =
    let D = env levels cs ds in
    let (S, w, found, is) = placed_both AtMain (infer D q n [] main u) (λ T v. accepts D T v) E T v h in
    let (environments, types) = one_found is in
    subst (λ E. IsFound q n main E T) environments (subst (IsFound q n main D) types (u, w, found))
after_declarations levels cs q n i ds (d ∷ rest) main u v E T h =
    let (k, w, _, is) = placed_both (AtDeclaration i) (declaration_rule (env levels cs ds) q n d u) (λ k v. declarations_rule levels cs q n (suc i) (k ∷ ds) rest main v) E T v h in
    after_declarations levels cs q n (suc i) (k ∷ ds) rest main w v E T is

-- the graph

graph_passed : (o : Option (List ℕ)) (go : Checked) (u : Account) (E : Env) (T : Term) (v : Account) → (graph_rule o go u).outcome ≡ Accepts E T v → go.outcome ≡ Accepts E T v
graph_passed None go u E T v h = h
graph_passed (Some is) go u E T v h = absurd (breaks_accepts h)

pub mains_type_is_least : MainsTypeIsLeast
mains_type_is_least levels cs cycle q n ds main E T u v h a U d =
    let m = length levels in
    let go3 : Checked = declarations_rule m cs q n 0 [] ds main u in
    let go2 : Checked = graph_rule cycle go3 u in
    let go1 : Checked = constraints_rule (first_undeclared_end m 0 cs) go2 u in
    let (w, x, found) = after_declarations m cs q n 0 [] ds main u v E T
    (graph_passed cycle go3 u E T v (constraints_passed (first_undeclared_end m 0 cs) go2 u E T v (levels_passed (first_repeated 0 [] levels) go1 u E T v h).1).1) in
    infer_least E a q n [] main T U w x found d
