-- An environment that the directed rules accept is well formed.
use Rattle.std.proofs.Common.{◌≡◌, ◌≢◌, ℕ, suc, ◌==◌, ◌≤◌, Bool, true, false, if◌then◌else◌, nat_le, List, [], ◌∷◌, ◌++◌, map, reverse, append_assoc, append-nil, length, Option, Some, None, refl, sym, ap, ◌∙◌, subst, arith}
use Rattle.std.specs.List.{All, AllPairs}
use Rattle.std.proofs.lemmas.Bool.{true≢false, leb-true, eq-eqb, or_parts}
use Rattle.std.proofs.lemmas.Grind.{reverse_onto}
use Rattle.std.proofs.lemmas.List.Elements.{All-nil, All-cons}
use Rattle.std.proofs.lemmas.List.Kept.{AllPairs-cons}
use Rattle.universe_levels.specs.declared.level.Level.{Level}
use Rattle.universe_levels.specs.declared.constraint.Constraint.{Constraint}
use Rattle.universe_levels.specs.Consistency.{IsConsistent, AreOver}
use Rattle.pc_terms.specs.declared.leaf.Name.{Name}
use Rattle.pc_terms.specs.Syntax.{Term}
use Rattle.pc_terms.specs.Formed.{IsFormed}
use Rattle.universe_levels.specs.declared.sort.Sort.{Sort}
use Rattle.calculus_rules.specs.declared.declaration.Block.{Block}
use Rattle.calculus_rules.specs.declared.declaration.Kept.{Kept}
use Rattle.calculus_rules.specs.declared.declaration.Kept.TheVariants.{Constant, Block as Whole}
use Rattle.pc_rules.specs.declared.broken.Broken.{Broken}
use Rattle.pc_rules.specs.declared.broken.Place.{Place}
use Rattle.pc_rules.specs.declared.broken.Place.TheVariants.{Declaration as AtDeclaration, Main as AtMain}
use Rattle.pc_rules.specs.declared.meter.Account.{Account}
use Rattle.calculus_rules.specs.Environment.{Env, Has, here, there}
use Rattle.calculus_rules.specs.Typing.{guarded, Types}
use Rattle.calculus_rules.specs.Accepted.{IsFresh, BodyFits, Accepted, empty, constant, block, env, IsWellFormed}
use Rattle.pc_rules.specs.DirectedRun as run
use Rattle.pc_rules.specs.DirectedRun.{Run, End, done, bind}
use Rattle.calculus_rules.specs.Lookups.{kept_at}
use Rattle.pc_rules.specs.DirectedComparison.{Test, IsTest, compare}
use Rattle.pc_rules.specs.DirectedTyping.{infer, sort_of}
use Rattle.pc_rules.specs.DirectedPlaces.{and_then}
use Rattle.pc_rules.specs.DirectedDeclarations.{block_rule, body_rule, constant_rule, fresh_name, Given, GivenConstant, GivenBlock, declaration_rule, Outcome, Gives, Breaks, Accepts, accepts, Checked, placed_end, placed, has_level, first_repeated, undeclared_end, first_end, first_undeclared_end, declarations_rule, graph_rule, constraints_rule, levels_rule, environment_rule}
use Rattle.pc_rules.specs.WellCounted.{IsCountedBody, HasCountedDeclarations}
use Rattle.pc_rules.proofs.WeakNext.{none_some}
use Rattle.rule_laws.specs.Declarations.{plain, plain_given, IsCheckedDeclaration, IsCheckedEnvironment, BodyFormed, GivenFormed, AllGivenFormed}
use Rattle.rule_laws.proofs.Runs.{bind_both, refused_done, done_value}
use Rattle.rule_laws.proofs.Comparing.{compare_sound}
use Rattle.rule_laws.proofs.SimpleRules.{sort_sound, check_sound}
use Rattle.rule_laws.proofs.Inferring.{infer_sound}
use Rattle.rule_laws.proofs.Extending.{fresh_is, env_more}
use Rattle.rule_laws.proofs.Blocks.{block_sound}

-- a new name

pub name_is_new : (o : Option Kept) (k : Name) (u v : Account) → (fresh_name o k u).end ≡ run.Done tt v → o ≡ None
name_is_new None k u v h = refl
name_is_new (Some d) k u v h = absurd (refused_done h)

-- one declaration more

module _ (levels : ℕ) (cs : List Constraint) (q : Test) (test : IsTest levels cs q) where
  abbrev pub AcceptedSoFar : List Kept → Type 0
  AcceptedSoFar ds = Accepted levels cs ds × HasCountedDeclarations (env levels cs ds)

  record BodyIs (E : Env) (T : Term) (b : Option Term) : Type 0 where
    fits : BodyFits E T b
    all : IsCountedBody E b

  body_sound : (E : Env) → IsTest E.levels E.constraints q → HasCountedDeclarations E → (n : ℕ) (T : Term) (b : Option Term) (u v : Account) → IsFormed T → BodyFormed b →
      (body_rule E (infer E q n) (compare E q n) T b u).end ≡ run.Done tt v → BodyIs E T b
  body_sound E t w n T None u v fT fb h = record { fits = tt; all = tt }
  body_sound E t w n T (Some b) u v fT fb h =
      let c = check_sound E w (infer E q n) (infer_sound E w q t n) (compare E q n) (compare_sound E q t w n) [] b T u v tt fb fT h in
      record { fits = c.0; all = c.1 }

  constant_sound : (ds : List Kept) → AcceptedSoFar ds → (n : ℕ) (k : Name) (T : Term) (b : Option Term) (e : Kept) (u v : Account) → IsFresh k ds → IsFormed T → BodyFormed b →
      (constant_rule (env levels cs ds) q n k T b u).end ≡ run.Done e v → IsCheckedDeclaration levels cs ds (GivenConstant k T b) e
  constant_sound ds a n k T b e u v fresh fT fb h =
      let E : Env = env levels cs ds in
      let k1 : Sort → Account → Run Kept = λ s v. bind (body_rule E (infer E q n) (compare E q n) T b v) (λ _ w. done (Constant k T b) w) in
      let p1 = bind_both (sort_of E (infer E q n) [] T u) k1 e v h in
      let p2 = bind_both (body_rule E (infer E q n) (compare E q n) T b p1.1) (λ _ w. done (Constant k T b) w) e v p1.3 in
      let s = sort_sound E a.1 (infer E q n) (infer_sound E a.1 q test n) [] T p1.0 u p1.1 tt fT p1.2 in
      let bs = body_sound E test a.1 n T b p1.1 p2.1 fT fb p2.2 in
      subst (λ e. IsCheckedDeclaration levels cs ds (GivenConstant k T b) e) (done_value p2.3)
      (record {
        accepted = constant a.0 fresh s.0 bs.fits;
        counted = env_more levels cs ds (Constant k T b) fresh a.1 (s.1, bs.all);
        same = refl;
      })

  pub declaration_sound : (ds : List Kept) → AcceptedSoFar ds → (n : ℕ) (d : Given) (e : Kept) (u v : Account) → GivenFormed d →
      (declaration_rule (env levels cs ds) q n d u).end ≡ run.Done e v → IsCheckedDeclaration levels cs ds d e
  declaration_sound ds a n (GivenConstant k T b) e u v f h =
      let E : Env = env levels cs ds in
      let p = bind_both (fresh_name (kept_at ds k) k u) (λ _ v. constant_rule E q n k T b v) e v h in
      constant_sound ds a n k T b e p.1 v (fresh_is ds k (name_is_new (kept_at ds k) k u p.1 p.2)) f.0 f.1 p.3
  declaration_sound ds a n (GivenBlock B) e u v f h =
      let E : Env = env levels cs ds in
      let k1 : Unit {0} → Account → Run Kept = λ _ v. bind (block_rule E q n B v) (λ D w. done (Whole D) w) in
      let p1 = bind_both (fresh_name (kept_at ds B.name) B.name u) k1 e v h in
      let p2 = bind_both (block_rule E q n B p1.1) (λ D w. done (Whole D) w) e v p1.3 in
      let D : Block = p2.0 in
      let fresh = fresh_is ds B.name (name_is_new (kept_at ds B.name) B.name u p1.1 p1.2) in
      let c = block_sound E q test a.1 n B D p1.1 p2.1 fresh f p2.2 in
      let same_name : B.name ≡ D.name = sym (ap (λ X. X.name) c.heads) in
      subst (λ e. IsCheckedDeclaration levels cs ds (GivenBlock B) e) (done_value p2.3)
      (record {
        accepted = block a.0 (subst (λ k. IsFresh k ds) same_name fresh) c.fits;
        counted = c.counted;
        same = ap (λ X. Whole X) c.same;
      })

-- what is placed

environment_of : Outcome (Env × Term) → Env → Env
environment_of (Gives p u) o = p.0
environment_of _ o = o

type_of_main : Outcome (Env × Term) → Term → Term
type_of_main (Gives p u) o = p.1
type_of_main _ o = o

one_environment : {E E' : Env} {T T' : Term} {u u' : Account} → Accepts E T u ≡ Accepts E' T' u' → E ≡ E'
unfolding environment_of
one_environment {E} e = ap (λ r. environment_of r E) e

one_type : {E E' : Env} {T T' : Term} {u u' : Account} → Accepts E T u ≡ Accepts E' T' u' → T ≡ T'
unfolding type_of_main
one_type {T = T} e = ap (λ r. type_of_main r T) e

pub breaks_accepts : {E : Env} {T : Term} {p : Place} {b : Broken} {u v : Account} → Breaks p b u ≡ Accepts E T v → ⊥
breaks_accepts e = cc

end_placed : {A : Type 0} (p : Place) (e : End A) (k : A → Account → Outcome (Env × Term)) (E : Env) (T : Term) (v : Account) → placed_end p e k ≡ Accepts E T v →
    (a : A) × (u : Account) × (e ≡ run.Done a u) × (k a u ≡ Accepts E T v)
end_placed p (run.Done a u) k E T v h = (a, u, refl, h)
end_placed p (run.Refused b u) k E T v h = absurd (breaks_accepts h)
end_placed p run.NoUnit k E T v h = absurd (cc)
end_placed p run.Nested k E T v h = absurd (cc)

pub placed_both : {A : Type 0} (p : Place) (r : Run A) (k : A → Account → Checked) (E : Env) (T : Term) (v : Account) → (placed p r k).outcome ≡ Accepts E T v →
    (a : A) × (u : Account) × (r.end ≡ run.Done a u) × ((k a u).outcome ≡ Accepts E T v)
unfolding and_then
placed_both p r k E T v h = end_placed p r.end (λ a u. (k a u).outcome) E T v h

-- the declarations, and main

module _ (levels : ℕ) (cs : List Constraint) (q : Test) (test : IsTest levels cs q) where
  pub record IsEnd (ds : List Kept) (rest : List Given) (main : Term) (E : Env) (T : Term) : Type 0 where
    pub kept : List Kept
    pub is : env levels cs kept ≡ E
    pub accepted : Accepted levels cs kept
    pub counted : HasCountedDeclarations (env levels cs kept)
    pub typed : Types guarded (env levels cs kept) [] main T
    pub same : map plain kept ≡ reverse (map plain_given rest) ++ map plain ds

  pub declarations_sound : (n i : ℕ) (ds : List Kept) (rest : List Given) (main T : Term) (E : Env) (u v : Account) → Accepted levels cs ds → HasCountedDeclarations (env levels cs ds) →
      AllGivenFormed rest → IsFormed main → (declarations_rule levels cs q n i ds rest main u).outcome ≡ Accepts E T v → IsEnd ds rest main E T
  unfolding declarations_rule
  declarations_sound n i ds [] main T E u v a w fs fm h =
      let D : Env = env levels cs ds in
      let p = placed_both AtMain (infer D q n [] main u) (λ T v. accepts D T v) E T v h in
      record {
        kept = ds;
        is = one_environment p.3;
        accepted = a;
        counted = w;
        typed = subst (λ T. Types guarded D [] main T) (one_type p.3) (infer_sound D w q test n [] main p.0 u p.1 tt fm p.2).typed;
        same = refl;
      }
  declarations_sound n i ds (d ∷ rest) main T E u v a w fs fm h =
      let p = placed_both (AtDeclaration i) (declaration_rule (env levels cs ds) q n d u) (λ k v. declarations_rule levels cs q n (suc i) (k ∷ ds) rest main v) E T v h in
      let one = declaration_sound levels cs q test ds (a, w) n d p.0 u p.1 fs.0 p.2 in
      let end = declarations_sound n (suc i) (p.0 ∷ ds) rest main T E p.1 v one.accepted one.counted fs.1 fm p.3 in
      record {
        kept = end.kept;
        is = end.is;
        accepted = end.accepted;
        counted = end.counted;
        typed = end.typed;
        same = end.same ∙ ap (λ k. reverse (map plain_given rest) ++ (k ∷ map plain ds)) one.same
            ∙ sym (append_assoc (reverse (map plain_given rest)) (plain_given d ∷ []) (map plain ds)) ∙ ap (λ xs. xs ++ map plain ds) (sym (reverse_onto (map plain_given rest) (plain_given d) []));
      }

-- levels and constraints

other_level : (k l : Level) → (k.0 == l.0) ≡ false → k ≡ l → ⊥
other_level k l h e = true≢false (sym (eq-eqb k.0 l.0 (ap (λ n. n.0) e)) ∙ h)

abbrev Differs : Level → List Level → Type 0
Differs k [] = Unit {0}
Differs k (l ∷ ls) = (k ≢ l) × Differs k ls

abbrev Distinct : List Level → Type 0
Distinct [] = Unit {0}
Distinct (k ∷ ks) = Differs k ks × Distinct ks

has_none : (k : Level) (ls : List Level) → has_level k ls ≡ false → (l : Level) → Has ls l → l ≢ k
has_none k [] h l p = elim p [ ]
has_none k (m ∷ ls) h l here = λ e. other_level k m (or_parts (k.0 == m.0) (has_level k ls) h).0 (sym e)
has_none k (m ∷ ls) h l (there p) = has_none k ls (or_parts (k.0 == m.0) (has_level k ls) h).1 l p

abbrev AreNew : List Level → List Level → Type 0
AreNew before ls = Distinct ls × ((k : Level) → Has before k → Differs k ls)

next_new : (i : ℕ) (before : List Level) (l : Level) (ls : List Level) (b : Bool) → has_level l before ≡ b → (first_repeated (suc i) (l ∷ before) ls ≡ None → AreNew (l ∷ before) ls) →
    (if b then Some (i, l) else first_repeated (suc i) (l ∷ before) ls) ≡ None → AreNew before (l ∷ ls)
next_new i before l ls true e rec h = absurd (none_some (sym h))
next_new i before l ls false e rec h = let r = rec h in ((r.1 l here, r.0), λ k p. (has_none l before e k p, r.1 k (there p)))

are_new : (i : ℕ) (before ls : List Level) → first_repeated i before ls ≡ None → AreNew before ls
are_new i before [] h = (tt, λ k p. tt)
are_new i before (l ∷ ls) h = next_new i before l ls (has_level l before) refl (are_new (suc i) (l ∷ before) ls) h

all_differ : (k : Level) (ls : List Level) → Differs k ls → All (λ l. k ≢ l) ls
all_differ k [] h = All-nil (λ l. k ≢ l)
all_differ k (l ∷ ls) h = All-cons (λ m. k ≢ m) l ls h.0 (all_differ k ls h.1)

all_pairs : (ls : List Level) → Distinct ls → AllPairs (λ k l. k ≢ l) ls
all_pairs [] h = λ i j d lt within. absurd (omega arith)
all_pairs (l ∷ ls) h = AllPairs-cons (λ k l. k ≢ l) l ls (all_differ l ls h.0) (all_pairs ls h.1)

pub distinct_levels : (ls : List Level) → first_repeated 0 [] ls ≡ None → AllPairs (λ k l. k ≢ l) ls
distinct_levels ls h = all_pairs ls (are_new 0 [] ls h).0

ends_declared : (n : ℕ) (c : Constraint) (a b : Bool) → nat_le c.left.0 n ≡ a → nat_le c.right.0 n ≡ b →
    (if a then (if b then None else Some c.right) else Some c.left) ≡ None → (c.left.0 ≤ n) × (c.right.0 ≤ n)
ends_declared n c true true p q h = (leb-true c.left.0 n p, leb-true c.right.0 n q)
ends_declared n c true false p q h = absurd (none_some (sym h))
ends_declared n c false b p q h = absurd (none_some (sym h))

both_none : (i : ℕ) (o : Option Level) (rest : Option (ℕ × Level)) → first_end i o rest ≡ None → (o ≡ None) × (rest ≡ None)
both_none i None rest h = (refl, h)
both_none i (Some l) rest h = absurd (none_some (sym h))

pub are_over : (n i : ℕ) (cs : List Constraint) → first_undeclared_end n i cs ≡ None → AreOver n cs
are_over n i [] h = All-nil (λ c. (c.left.0 ≤ n) × (c.right.0 ≤ n))
are_over n i (c ∷ cs) h =
    let r = both_none i (undeclared_end n c) (first_undeclared_end n (suc i) cs) h in
    All-cons (λ c. (c.left.0 ≤ n) × (c.right.0 ≤ n)) c cs (ends_declared n c (nat_le c.left.0 n) (nat_le c.right.0 n) refl refl r.0) (are_over n (suc i) cs r.1)

-- the whole

pub levels_passed : (o : Option (ℕ × Level)) (go : Checked) (u : Account) (E : Env) (T : Term) (v : Account) → (levels_rule o go u).outcome ≡ Accepts E T v →
    (o ≡ None) × (go.outcome ≡ Accepts E T v)
levels_passed None go u E T v h = (refl, h)
levels_passed (Some p) go u E T v h = absurd (breaks_accepts h)

pub constraints_passed : (o : Option (ℕ × Level)) (go : Checked) (u : Account) (E : Env) (T : Term) (v : Account) → (constraints_rule o go u).outcome ≡ Accepts E T v →
    (o ≡ None) × (go.outcome ≡ Accepts E T v)
constraints_passed None go u E T v h = (refl, h)
constraints_passed (Some p) go u E T v h = absurd (breaks_accepts h)

graph_passed : (o : Option (List ℕ)) (go : Checked) (u : Account) (E : Env) (T : Term) (v : Account) → (graph_rule o go u).outcome ≡ Accepts E T v →
    (o ≡ None) × (go.outcome ≡ Accepts E T v)
graph_passed None go u E T v h = (refl, h)
graph_passed (Some is) go u E T v h = absurd (breaks_accepts h)

pub nothing_counted : (levels : ℕ) (cs : List Constraint) → HasCountedDeclarations (env levels cs [])
nothing_counted levels cs d h = elim h [ ]

pub environment_sound : (levels : List Level) (cs : List Constraint) (cycle : Option (List ℕ)) (q : Test) → IsTest (length levels) cs q →
    (cycle ≡ None → IsConsistent (length levels) cs) → (n : ℕ) (ds : List Given) (main T : Term) (E : Env) (u v : Account) → AllGivenFormed ds → IsFormed main →
    (environment_rule levels cs cycle q n ds main u).outcome ≡ Accepts E T v → IsCheckedEnvironment levels cs ds main E T
environment_sound levels cs cycle q test consistent k ds main T E u v fs fm h =
    let n : ℕ = length levels in
    let go3 : Checked = declarations_rule n cs q k 0 [] ds main u in
    let go2 : Checked = graph_rule cycle go3 u in
    let go1 : Checked = constraints_rule (first_undeclared_end n 0 cs) go2 u in
    let p1 = levels_passed (first_repeated 0 [] levels) go1 u E T v h in
    let p2 = constraints_passed (first_undeclared_end n 0 cs) go2 u E T v p1.1 in
    let p3 = graph_passed cycle go3 u E T v p2.1 in
    let end = declarations_sound n cs q test k 0 [] ds main T E u v empty (nothing_counted n cs) fs fm p3.1 in
    let D : Env = env n cs end.kept in
    let formed : IsWellFormed levels D main T = record {
      distinct = distinct_levels levels p1.0;
      count = refl;
      accepted = record { over = are_over n 0 cs p2.0; consistent = consistent p3.0; declarations = end.accepted };
      typed = end.typed;
    } in
    subst (λ E. IsCheckedEnvironment levels cs ds main E T) end.is
    (record { formed = formed; counted = record { constraints = are_over n 0 cs p2.0; declarations = end.counted }; constraints = refl; declarations = end.same ∙ append-nil (reverse (map plain_given ds)) })
