-- An environment that the certified walk accepts is well formed.
use Rattle.std.proofs.Common.{◌≡◌, ℕ, ◌==◌, List, [], ◌∷◌, ◌++◌, map, reverse, append_assoc, append-nil, length, Option, Some, None, refl, sym, ap, ◌∙◌, subst}
use Rattle.std.proofs.lemmas.Grind.{reverse_onto}
use Rattle.universe_levels.specs.declared.level.Level.{Level}
use Rattle.universe_levels.specs.declared.constraint.Constraint.{Constraint}
use Rattle.universe_levels.specs.Consistency.{IsConsistent}
use Rattle.pc_terms.specs.declared.leaf.Name.{Name}
use Rattle.pc_terms.specs.Syntax.{Term}
use Rattle.pc_terms.specs.Formed.{IsFormed}
use Rattle.universe_levels.specs.declared.sort.Sort.{Sort}
use Rattle.calculus_rules.specs.declared.declaration.Block.{Block}
use Rattle.calculus_rules.specs.declared.declaration.Kept.{Kept}
use Rattle.calculus_rules.specs.declared.declaration.Kept.TheVariants.{Constant, Block as Whole}
use Rattle.calculus_rules.specs.Environment.{Env}
use Rattle.calculus_rules.specs.Typing.{guarded, Types}
use Rattle.calculus_rules.specs.Accepted.{IsFresh, BodyFits, empty, constant, block, env, IsWellFormed, Accepted}
use Rattle.calculus_rules.specs.Lookups.{kept_at}
use Rattle.pc_rules.specs.DirectedComparison.{Test, IsTest}
use Rattle.pc_rules.specs.DirectedDeclarations.{fresh_name, Given, GivenConstant, GivenBlock, first_repeated, first_undeclared_end}
use Rattle.pc_rules.specs.WellCounted.{IsCountedBody, HasCountedDeclarations}
use Rattle.rule_laws.specs.Declarations.{plain, plain_given, IsCheckedDeclaration, IsCheckedEnvironment, BodyFormed, GivenFormed, AllGivenFormed}
use Rattle.rule_laws.proofs.Extending.{fresh_is, env_more}
use Rattle.rule_laws.proofs.Environments.{distinct_levels, are_over, nothing_counted}
pub use Rattle.rule_laws.proofs.Environments.{name_is_new}
use Rattle.cert_rules.specs.Walk.{Items, WalkState, Walk, Passed, pass, walk_on, by_rules}
use Rattle.cert_rules.specs.Scripts.{script}
use Rattle.cert_rules.specs.WalkTyping.{walk_infer, walk_sort_of}
use Rattle.cert_rules.specs.WalkDeclarations.{walk_block, walk_body, walk_constant, walk_declaration, walk_end, walk_declarations, walk_unless, walk_environment}
use Rattle.cert_rules.proofs.PassedWalks.{on_both, tested, barred_passed, passed_value, rules_passed}
use Rattle.cert_rules.proofs.SoundScripts.{script_sound}
use Rattle.cert_rules.proofs.SoundSimple.{sort_sound, check_sound}
use Rattle.cert_rules.proofs.SoundTyping.{infer_sound}
use Rattle.cert_rules.proofs.SoundBlocks.{block_sound}

-- one declaration more

module _ (cert : Items) (levels : ℕ) (cs : List Constraint) (q : Test) (test : IsTest levels cs q) where
  abbrev pub AcceptedSoFar : List Kept → Type 0
  AcceptedSoFar ds = Accepted levels cs ds × HasCountedDeclarations (env levels cs ds)

  record BodyIs (E : Env) (T : Term) (b : Option Term) : Type 0 where
    fits : BodyFits E T b
    all : IsCountedBody E b

  body_sound : (E : Env) → IsTest E.levels E.constraints q → HasCountedDeclarations E → (n : ℕ) (T : Term) (b : Option Term) (u v : WalkState) → IsFormed T → BodyFormed b →
      (walk_body cert E (walk_infer cert E q n) (script cert E q n) T b u).end ≡ Passed tt v → BodyIs E T b
  body_sound E t w n T None u v fT fb h = record { fits = tt; all = tt }
  body_sound E t w n T (Some b) u v fT fb h =
      let c = check_sound cert E w (walk_infer cert E q n) (infer_sound cert E w q t n) (script cert E q n) (script_sound E q t cert n) [] b T u v tt fb fT h in
      record { fits = c.0; all = c.1 }

  pub constant_sound : (ds : List Kept) → AcceptedSoFar ds → (n : ℕ) (k : Name) (T : Term) (b : Option Term) (e : Kept) (u v : WalkState) → IsFresh k ds → IsFormed T → BodyFormed b →
      (walk_constant cert (env levels cs ds) q n k T b u).end ≡ Passed e v → IsCheckedDeclaration levels cs ds (GivenConstant k T b) e
  constant_sound ds a n k T b e u v fresh fT fb h =
      let E : Env = env levels cs ds in
      let k2 : Unit {0} → WalkState → Walk Kept = λ _ w. pass (Constant k T b) w in
      let k1 : Sort → WalkState → Walk Kept = λ x v. walk_on (walk_body cert E (walk_infer cert E q n) (script cert E q n) T b v) k2 in
      let p1 = on_both (walk_sort_of cert E (walk_infer cert E q n) [] T u) k1 e v h in
      let p2 = on_both (walk_body cert E (walk_infer cert E q n) (script cert E q n) T b p1.1) k2 e v p1.3 in
      let s = sort_sound cert E a.1 (walk_infer cert E q n) (infer_sound cert E a.1 q test n) [] T p1.0 u p1.1 tt fT p1.2 in
      let bs = body_sound E test a.1 n T b p1.1 p2.1 fT fb p2.2 in
      subst (λ e. IsCheckedDeclaration levels cs ds (GivenConstant k T b) e) (passed_value p2.3)
      (record {
        accepted = constant a.0 fresh s.0 bs.fits;
        counted = env_more levels cs ds (Constant k T b) fresh a.1 (s.1, bs.all);
        same = refl;
      })

  pub declaration_sound : (ds : List Kept) → AcceptedSoFar ds → (n : ℕ) (d : Given) (e : Kept) (u v : WalkState) → GivenFormed d →
      (walk_declaration cert (env levels cs ds) q n d u).end ≡ Passed e v → IsCheckedDeclaration levels cs ds d e
  declaration_sound ds a n (GivenConstant k T b) e u v f h =
      let E : Env = env levels cs ds in
      let p = on_both (by_rules (fresh_name (kept_at ds k) k) u) (λ _ v. walk_constant cert E q n k T b v) e v h in
      let r = rules_passed (fresh_name (kept_at ds k) k) u tt p.1 p.2 in
      constant_sound ds a n k T b e p.1 v (fresh_is ds k (name_is_new (kept_at ds k) k u.account r.0 r.1)) f.0 f.1 p.3
  declaration_sound ds a n (GivenBlock B) e u v f h =
      let E : Env = env levels cs ds in
      let k2 : Block → WalkState → Walk Kept = λ D w. pass (Whole D) w in
      let k1 : Unit {0} → WalkState → Walk Kept = λ _ v. walk_on (walk_block cert E q n B v) k2 in
      let p1 = on_both (by_rules (fresh_name (kept_at ds B.name) B.name) u) k1 e v h in
      let p2 = on_both (walk_block cert E q n B p1.1) k2 e v p1.3 in
      let r = rules_passed (fresh_name (kept_at ds B.name) B.name) u tt p1.1 p1.2 in
      let D : Block = p2.0 in
      let fresh = fresh_is ds B.name (name_is_new (kept_at ds B.name) B.name u.account r.0 r.1) in
      let c = block_sound cert E q test a.1 n B D p1.1 p2.1 fresh f p2.2 in
      let same_name : B.name ≡ D.name = sym (ap (λ X. X.name) c.heads) in
      subst (λ e. IsCheckedDeclaration levels cs ds (GivenBlock B) e) (passed_value p2.3)
      (record {
        accepted = block a.0 (subst (λ k. IsFresh k ds) same_name fresh) c.fits;
        counted = c.counted;
        same = ap (λ X. Whole X) c.same;
      })

  -- the declarations, and main

  record IsEnd (ds : List Kept) (rest : List Given) (main : Term) (E : Env) (T : Term) : Type 0 where
    kept : List Kept
    is : env levels cs kept ≡ E
    accepted : Accepted levels cs kept
    counted : HasCountedDeclarations (env levels cs kept)
    typed : Types guarded (env levels cs kept) [] main T
    same : map plain kept ≡ reverse (map plain_given rest) ++ map plain ds

  declarations_sound : (n : ℕ) (ds : List Kept) (rest : List Given) (main T : Term) (E : Env) (u v : WalkState) → Accepted levels cs ds → HasCountedDeclarations (env levels cs ds) →
      AllGivenFormed rest → IsFormed main → (walk_declarations cert levels cs q n ds rest main u).end ≡ Passed (E, T) v → IsEnd ds rest main E T
  unfolding walk_declarations
  declarations_sound n ds [] main T E u v a w fs fm h =
      let D : Env = env levels cs ds in
      let p = on_both (walk_infer cert D q n [] main u) (λ T v. walk_end cert D T v) (E, T) v h in
      let e : (D, p.0) ≡ (E, T) = passed_value (tested (p.1.at == length cert) (pass (D, p.0) p.1) p.1.at p.1 (E, T) v p.3).1 in
      record {
        kept = ds;
        is = ap (λ r. r.0) e;
        accepted = a;
        counted = w;
        typed = subst (λ T. Types guarded D [] main T) (ap (λ r. r.1) e) (infer_sound cert D w q test n [] main p.0 u p.1 tt fm p.2).typed;
        same = refl;
      }
  declarations_sound n ds (d ∷ rest) main T E u v a w fs fm h =
      let p = on_both (walk_declaration cert (env levels cs ds) q n d u) (λ k v. walk_declarations cert levels cs q n (k ∷ ds) rest main v) (E, T) v h in
      let one = declaration_sound ds (a, w) n d p.0 u p.1 fs.0 p.2 in
      let end = declarations_sound n (p.0 ∷ ds) rest main T E p.1 v one.accepted one.counted fs.1 fm p.3 in
      record {
        kept = end.kept;
        is = end.is;
        accepted = end.accepted;
        counted = end.counted;
        typed = end.typed;
        same = end.same ∙ ap (λ k. reverse (map plain_given rest) ++ (k ∷ map plain ds)) one.same
            ∙ sym (append_assoc (reverse (map plain_given rest)) (plain_given d ∷ []) (map plain ds)) ∙ ap (λ xs. xs ++ map plain ds) (sym (reverse_onto (map plain_given rest) (plain_given d) []));
      }

-- the whole

unless_passed : {A : Type 0} (o : Option A) (go : Walk (Env × Term)) (s : WalkState) (r : Env × Term) (v : WalkState) → (walk_unless o go s).end ≡ Passed r v →
    (o ≡ None) × (go.end ≡ Passed r v)
unless_passed None go s r v h = (refl, h)
unless_passed (Some a) go s r v h = absurd (barred_passed h)

pub environment_sound : (cert : Items) (levels : List Level) (cs : List Constraint) (cycle : Option (List ℕ)) (q : Test) → IsTest (length levels) cs q →
    (cycle ≡ None → IsConsistent (length levels) cs) → (n : ℕ) (ds : List Given) (main T : Term) (E : Env) (u v : WalkState) → AllGivenFormed ds → IsFormed main →
    (walk_environment cert levels cs cycle q n ds main u).end ≡ Passed (E, T) v → IsCheckedEnvironment levels cs ds main E T
environment_sound cert levels cs cycle q test consistent k ds main T E u v fs fm h =
    let n : ℕ = length levels in
    let go3 : Walk (Env × Term) = walk_declarations cert n cs q k [] ds main u in
    let go2 : Walk (Env × Term) = walk_unless cycle go3 u in
    let go1 : Walk (Env × Term) = walk_unless (first_undeclared_end n 0 cs) go2 u in
    let p1 = unless_passed (first_repeated 0 [] levels) go1 u (E, T) v h in
    let p2 = unless_passed (first_undeclared_end n 0 cs) go2 u (E, T) v p1.1 in
    let p3 = unless_passed cycle go3 u (E, T) v p2.1 in
    let end = declarations_sound cert n cs q test k [] ds main T E u v empty (nothing_counted n cs) fs fm p3.1 in
    let D : Env = env n cs end.kept in
    let formed : IsWellFormed levels D main T = record {
      distinct = distinct_levels levels p1.0;
      count = refl;
      accepted = record { over = are_over n 0 cs p2.0; consistent = consistent p3.0; declarations = end.accepted };
      typed = end.typed;
    } in
    subst (λ E. IsCheckedEnvironment levels cs ds main E T) end.is
    (record { formed = formed; counted = record { constraints = are_over n 0 cs p2.0; declarations = end.counted }; constraints = refl; declarations = end.same ∙ append-nil (reverse (map plain_given ds)) })
