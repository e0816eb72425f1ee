-- A plain environment that the directed rules accept keeps all rules that its text shows: names are distinct, and main's constructor is declared.
use Rattle.std.proofs.Common.{◌≡◌, ◌≢◌, ℕ, suc, Bool, true, false, ◌||◌, if◌then◌else◌, List, [], ◌∷◌, map, length, Option, Some, None, ◌⊎◌, inl, inr, refl, sym, ap, subst, ◌∙◌, arith, eq-eqb, true≢false}
use Rattle.std.specs.Prelude.{All, AllPairs, get_or, slice_get}
use Rattle.std.proofs.lemmas.Option.{slice_get-map, slice_get_within}
use Rattle.std.proofs.lemmas.List.Elements.{All-head, All-tail, All-nil, All-cons}
use Rattle.std.proofs.lemmas.List.Kept.{AllPairs-cons}
use Rattle.universe_levels.specs.declared.constraint.Constraint.{Constraint}
use Rattle.pc_terms.specs.declared.leaf.Name.{Name}
use Rattle.pc_terms.specs.declared.leaf.FamilyId.{FamilyId}
use Rattle.pc_terms.specs.Syntax.{Term, Construct}
use Rattle.calculus_rules.specs.declared.declaration.Constructor.{Constructor}
use Rattle.calculus_rules.specs.declared.declaration.Family.{Family}
use Rattle.calculus_rules.specs.declared.declaration.Block.{Block}
use Rattle.calculus_rules.specs.declared.declaration.Kept.{Kept}
use Rattle.calculus_rules.specs.declared.declaration.Kept.TheVariants.{Block as Whole}
use Rattle.pc_rules.specs.declared.broken.Broken.TheVariants.{DuplicateName}
use Rattle.pc_rules.specs.declared.broken.Place.TheVariants.{Declaration as AtDeclaration, Main as AtMain}
use Rattle.pc_rules.specs.declared.meter.Account.{Account}
use Rattle.calculus_rules.specs.Accepted.{env}
use Rattle.calculus_rules.specs.Environment.{Env, FamilyDecl, family_at, with_parameters}
use Rattle.calculus_rules.specs.Same.{same_names}
use Rattle.pc_rules.specs.DirectedRun as run
use Rattle.pc_rules.specs.DirectedRun.{Run, done, refused, make, ticked, noted, bind, most_nested}
use Rattle.calculus_rules.specs.Lookups.{kept_at, whole_block, family_of}
use Rattle.pc_rules.specs.DirectedComparison.{Test, compare}
use Rattle.pc_rules.specs.DirectedTyping.{Typing, infer, rule, rule_number, sorts_of, undeclared_in, levels_declared, find_family, constructor_number}
use Rattle.pc_rules.specs.DirectedPlaces.{and_then, at_place as run_at}
use Rattle.pc_rules.specs.DirectedDeclarations.{Checked, Accepts, accepts, has_name, distinct_names, family_head, family_heads, heads_rule, families_rule, with_families, with_heads, block_rule, fresh_name, declaration_rule, placed, declarations_rule, main_rule, environment_rule}
use Rattle.calculus_rules.specs.Instances.{constructor_type}
use Rattle.pc_rules.specs.Entailment.{entailed_by}
use Rattle.pc_rules.proofs.WeakNext.{same_names_is, none_some, if_some_is}
use Rattle.calculus_rules.proofs.Spines.{one_item}
use Rattle.rule_laws.proofs.Runs.{bind_both, ticking_done, refused_done}
use Rattle.rule_laws.proofs.SimpleRules.{whole_family, constructor_is}
use Rattle.erase_rules.proofs.Program.{gives_both, outcome_done}
use Rattle.inductive_check.specs.Given.{ctor_of, family_of as read_family, block_of, given_of}
use Rattle.dump_reader.specs.declared.declaration.RawCtor.{RawCtor}
use Rattle.dump_reader.specs.declared.declaration.RawDecl.{RawDecl}
use Rattle.dump_reader.specs.declared.environment.RawEnv.{RawEnv}
use Rattle.env_check.specs.Rules.{givens}
use Rattle.driver.specs.Judged.{name_of, start}
use Rattle.driver.specs.Plain.{IsEnumerationBlock, IsPlainOf}
use Rattle.driver.specs.SourceEnds.{IsAcceptedWith}
use Rattle.driver.specs.Answerable.{HasDistinctConstructors, HasDistinctNames, DeclaresConstructor, IsAnswerable}
use Rattle.driver.proofs.Accepting.{IsNone, IsOtherCtor, IsOther, IsNewIn, AreNew, enumeration, enumeration_block, block_is, keep, all_kept, kept_name, one_passes, only_one, at_place}
use Rattle.driver.proofs.SourceCauses.{plainly}
use Rattle.calculus_rules.proofs.Listing.{from_map}
use Rattle.rule_laws.proofs.Environments.{name_is_new}

other_name : (k l : Name) → same_names k l ≡ false → k ≢ l
other_name k l h e = true≢false (sym (eq-eqb k.0 l.0 (ap (λ (n : Name). n.0) e)) ∙ h)

neither : (a b : Bool) → (a || b) ≡ false → (a ≡ false) × (b ≡ false)
neither true b e = absurd (true≢false e)
neither false b e = (refl, e)

-- ---- the constructors' names

abbrev AreApart : List Constructor → List RawCtor → Type 0
AreApart before cs = All (IsNone before) cs × AllPairs IsOtherCtor cs

name_apart : (before : List Constructor) (c : RawCtor) (cs : List RawCtor) (u v : Account) (b : Bool) → has_name c.name before ≡ b →
    ((distinct_names (ctor_of c ∷ before) (map ctor_of cs) u).end ≡ run.Done tt v → AreApart (ctor_of c ∷ before) cs) →
    (if b then refused (DuplicateName c.name.0) u else distinct_names (ctor_of c ∷ before) (map ctor_of cs) u).end ≡ run.Done tt v → AreApart before (c ∷ cs)
name_apart before c cs u v true e rec h = absurd (refused_done h)
name_apart before c cs u v false e rec h =
    let r = rec h in (
      All-cons (IsNone before) c cs e (λ i d lt. (neither (same_names c.name (get_or cs i d).name) (has_name (get_or cs i d).name before) (r.0 i d lt)).1),
      AllPairs-cons IsOtherCtor c cs (λ i d lt. other_name c.name (get_or cs i d).name (neither (same_names c.name (get_or cs i d).name) (has_name (get_or cs i d).name before) (r.0 i d lt)).0) r.1,
    )

names_apart : (before : List Constructor) (cs : List RawCtor) (u v : Account) → (distinct_names before (map ctor_of cs) u).end ≡ run.Done tt v → AreApart before cs
names_apart before [] u v h = (All-nil (IsNone before), (λ i j d lt within. absurd (omega (arith, within))))
names_apart before (c ∷ cs) u v h = name_apart before c cs u v (has_name c.name before) refl (names_apart (ctor_of c ∷ before) cs u v) h

-- ---- a declaration

module _ (E : Env) (q : Test) (n : ℕ) (k l : Name) (cs : List RawCtor) where
  abbrev B : Block
  B = block_of (enumeration_block k l cs)

  abbrev inf : Typing
  inf = infer E q n

  abbrev after_heads : Account → Run Block
  after_heads v = bind (families_rule (with_heads E B) q (infer (with_heads E B) q n) (compare (with_heads E B) q n) B 0 B.families v) (λ Fs w. done (with_families B Fs) w)

  ctors_apart : (u v : Account) (D : Block) → (block_rule E q n B u).end ≡ run.Done D v → HasDistinctNames (enumeration_block k l cs)
  ctors_apart u v D h =
      let a = bind_both (heads_rule E inf B u) (λ _ x. after_heads x) D v h in
      let b = bind_both (sorts_of E inf [] B.params u) (λ ss x. family_heads E inf B B.families x) a.0 a.1 a.2 in
      let c = bind_both (family_head E inf B (read_family (enumeration l cs)) b.1) (λ _ x. family_heads E inf B [] x) a.0 a.1 b.3 in
      let d = bind_both (distinct_names [] (map ctor_of cs) b.1) (λ _ x. bind (levels_declared (undeclared_in E.levels (enumeration l cs).sort) x) (λ _ w. bind (sorts_of E inf [] [] w) (λ ss y. done tt y))) c.0 c.1 c.2 in
      All-cons HasDistinctConstructors (enumeration l cs) [] (names_apart [] cs b.1 d.1 d.2).1 (All-nil HasDistinctConstructors)

  declared : (u v : Account) (K : Kept) → (declaration_rule E q n (given_of (enumeration_block k l cs)) u).end ≡ run.Done K v →
      (kept_at E.declarations k ≡ None) × HasDistinctNames (enumeration_block k l cs)
  declared u v K h =
      let a = bind_both (fresh_name (kept_at E.declarations k) k u) (λ _ x. bind (block_rule E q n B x) (λ D w. done (Whole D) w)) K v h in
      let b = bind_both (block_rule E q n B a.1) (λ D w. done (Whole D) w) K v a.3 in
      (name_is_new (kept_at E.declarations k) k u a.1 a.2, ctors_apart a.1 b.1 b.0 b.2)

one_declared : (E : Env) (q : Test) (n : ℕ) (d : RawDecl) (u v : Account) (K : Kept) → IsEnumerationBlock d → (declaration_rule E q n (given_of d) u).end ≡ run.Done K v →
    (kept_at E.declarations (name_of d) ≡ None) × HasDistinctNames d
one_declared E q n d u v K h e =
    let b = block_is d h in
    subst (λ x. (kept_at E.declarations (name_of x) ≡ None) × HasDistinctNames x) (sym b.is)
    (declared E q n b.name b.family b.ctors u v K (subst (λ x. (declaration_rule E q n (given_of x) u).end ≡ run.Done K v) b.is e))

-- ---- the declarations in order

record IsPassed (levels : ℕ) (cs : List Constraint) (q : Test) (n : ℕ) (ks : List Kept) (ds : List RawDecl) (main T : Term) (E : Env) (u v : Account) : Type 0 where
  new : AreNew ks ds
  names : All HasDistinctNames ds
  rest : (main_rule (env levels cs (all_kept ds ks)) q n main u).outcome ≡ Accepts E T v

all_passed : (levels : ℕ) (cs : List Constraint) (q : Test) (n i : ℕ) (ks : List Kept) (ds : List RawDecl) (main T : Term) (E : Env) (u v : Account) → All IsEnumerationBlock ds →
    (declarations_rule levels cs q n i ks (map given_of ds) main u).outcome ≡ Accepts E T v → IsPassed levels cs q n ks ds main T E u v
unfolding declarations_rule and_then
all_passed levels cs q n i ks [] main T E u v h e = record { new = tt; names = All-nil HasDistinctNames; rest = e }
all_passed levels cs q n i ks (d ∷ ds) main T E u v h e =
    let F = env levels cs ks in
    let first = All-head IsEnumerationBlock d ds h in
    let go : Kept → Account → Checked = λ k w. declarations_rule levels cs q n (suc i) (k ∷ ks) (map given_of ds) main w in
    let a = gives_both (run_at (AtDeclaration i) (declaration_rule F q n (given_of d) u)) go (E, T) v e in
    let b = one_declared F q n d u a.1 a.0 first (outcome_done (AtDeclaration i) (declaration_rule F q n (given_of d) u).end a.0 a.1 a.2) in
    let later : (go (keep d) u).outcome ≡ Accepts E T v = ap (λ r. (placed (AtDeclaration i) r go).outcome) (sym (one_passes F q n d u b.0 first b.1)) ∙ e in
    let r = all_passed levels cs q n (suc i) (keep d ∷ ks) ds main T E u v (All-tail IsEnumerationBlock d ds h) later in
    record { new = (b.0, r.new); names = All-cons HasDistinctNames d ds b.1 r.names; rest = r.rest }

-- no two have one name

not_beside : (x d : RawDecl) (ks : List Kept) (b : Bool) → same_names (block_of x).name (name_of d) ≡ b → (if b then Some (keep x) else kept_at ks (name_of d)) ≡ None →
    (name_of x ≢ name_of d) × IsNewIn ks d
not_beside x d ks true e h = absurd (none_some (sym h))
not_beside x d ks false e h = ((λ same. other_name (block_of x).name (name_of d) e (kept_name x ∙ same)), h)

decls_apart : (ks : List Kept) (ds : List RawDecl) → AreNew ks ds → All (IsNewIn ks) ds × AllPairs IsOther ds
decls_apart ks [] h = (All-nil (IsNewIn ks), (λ i j d lt within. absurd (omega (arith, within))))
decls_apart ks (x ∷ ds) h =
    let r = decls_apart (keep x ∷ ks) ds h.1 in (
      All-cons (IsNewIn ks) x ds h.0 (λ i d lt. (not_beside x (get_or ds i d) ks (same_names (block_of x).name (name_of (get_or ds i d))) refl (r.0 i d lt)).1),
      AllPairs-cons IsOther x ds (λ i d lt. (not_beside x (get_or ds i d) ks (same_names (block_of x).name (name_of (get_or ds i d))) refl (r.0 i d lt)).0) r.1,
    )

-- what is kept by a name was read

record WasKept (ds : List RawDecl) (k : Name) (x : Kept) : Type 0 where
  place : ℕ
  decl : RawDecl
  at : slice_get ds place ≡ Some decl
  is : x ≡ keep decl
  named : (block_of decl).name ≡ k

behind : (d : RawDecl) (ds : List RawDecl) (k : Name) (x : Kept) → WasKept ds k x → WasKept (d ∷ ds) k x
behind d ds k x r = record { place = suc r.place; decl = r.decl; at = r.at; is = r.is; named = r.named }

kept_first : (d : RawDecl) (ds : List RawDecl) (ks : List Kept) (k : Name) (x : Kept) (b : Bool) → same_names (block_of d).name k ≡ b → (if b then Some (keep d) else kept_at ks k) ≡ Some x →
    WasKept (d ∷ ds) k x ⊎ (kept_at ks k ≡ Some x)
kept_first d ds ks k x true e h = inl (record { place = 0; decl = d; at = refl; is = sym (one_item h); named = same_names_is (block_of d).name k e })
kept_first d ds ks k x false e h = inr h

was_kept : (ks : List Kept) (ds : List RawDecl) (k : Name) (x : Kept) → kept_at (all_kept ds ks) k ≡ Some x → WasKept ds k x ⊎ (kept_at ks k ≡ Some x)
was_kept ks [] k x h = inr h
was_kept ks (d ∷ ds) k x h = elim (was_kept (keep d ∷ ks) ds k x h) [
  | inl r ↦ inl (behind d ds k x r)
  | inr e ↦ kept_first d ds ks k x (same_names (block_of d).name k) refl e
]

read_alone : (ds : List RawDecl) (k : Name) (x : Kept) → kept_at (all_kept ds []) k ≡ Some x → WasKept ds k x
read_alone ds k x h = elim (was_kept [] ds k x h) [ inl r ↦ r | inr e ↦ absurd (none_some e) ]

-- ---- main

record IsThere (E : Env) (f : FamilyId) (c : ℕ) : Type 0 where
  family : FamilyDecl
  kept : family_of E f ≡ Some family
  ctor : Constructor
  at : slice_get family.constructors c ≡ Some ctor

main_there : (E : Env) (q : Test) (m : ℕ) (f : FamilyId) (c : ℕ) (G : Env) (T : Term) (u v : Account) → (main_rule E q (suc m) (Construct f c) u).outcome ≡ Accepts G T v → IsThere E f c
unfolding infer
main_there E q m f c G T u v h =
    let a = gives_both (run_at AtMain (infer E q (suc m) [] (Construct f c) u)) (λ S w. accepts E S w) (G, T) v h in
    let b = outcome_done AtMain (infer E q (suc m) [] (Construct f c) u).end a.0 a.1 a.2 in
    let d = ticking_done u (λ w. rule E (infer E q m) (compare E q m) [] (Construct f c) (noted (rule_number (Construct f c)) w)) a.0 a.1 b in
    let w = noted 9 (ticked u) in
    let x = bind_both (find_family f (whole_block (kept_at E.declarations f.block)) w) (λ F z. bind (constructor_number F c (slice_get F.constructors c) z) (λ C y. make (constructor_type f F C) y)) a.0 a.1 d in
    let y = bind_both (constructor_number x.0 c (slice_get x.0.constructors c) x.1) (λ C y. make (constructor_type f x.0 C) y) a.0 a.1 x.3 in
    record {
      family = x.0;
      kept = whole_family E f x.0 w x.1 x.2;
      ctor = y.0;
      at = constructor_is x.0 c (slice_get x.0.constructors c) y.0 x.1 y.1 y.2;
    }

-- ---- the whole

whole_is : (o : Option Kept) (B : Block) → whole_block o ≡ Some B → o ≡ Some (Whole B)
whole_is (Some (Whole C)) B h = ap (λ x. Some (Whole x)) (one_item h)
whole_is _ B h = absurd (none_some h)

whole_block_is : (B C : Block) → Whole B ≡ Whole C → B ≡ C
whole_block_is B C e = cc

declares : (ds : List RawDecl) (f : FamilyId) (c : ℕ) → All IsEnumerationBlock ds → IsThere (env 0 [] (all_kept ds [])) f c → DeclaresConstructor ds f c
declares ds f c h t =
    let p = if_some_is (whole_block (kept_at (all_kept ds []) f.block)) (λ B. family_at B f.family) t.kept in
    let r = read_alone ds f.block (Whole p.0) (whole_is (kept_at (all_kept ds []) f.block) p.0 p.1) in
    let b = block_is r.decl (at_place IsEnumerationBlock ds r.place r.decl r.at h) in
    let block : p.0 ≡ block_of (enumeration_block b.name b.family b.ctors) = whole_block_is p.0 (block_of (enumeration_block b.name b.family b.ctors)) (r.is ∙ ap keep b.is) in
    let name : b.name ≡ f.block = sym (ap (λ x. (block_of x).name) b.is) ∙ r.named in
    let there : family_at (block_of (enumeration_block b.name b.family b.ctors)) f.family ≡ Some t.family = subst (λ (B : Block). family_at B f.family ≡ Some t.family) block p.2 in
    let g = from_map (with_parameters []) (slice_get (read_family (enumeration b.family b.ctors) ∷ []) f.family) t.family there in
    let one = only_one (read_family (enumeration b.family b.ctors)) g.0 f.family g.1 in
    let ctors : t.family.constructors ≡ map ctor_of b.ctors = ap (λ (F : FamilyDecl). F.constructors) g.2 ∙ ap (λ (G : Family). G.ctors) (sym one.1) in
    let raw_ctor = from_map ctor_of (slice_get b.ctors c) t.ctor (sym (slice_get-map ctor_of b.ctors c) ∙ ap (λ Cs. slice_get Cs c) (sym ctors) ∙ t.at) in
    record {
      place = r.place;
      params = [];
      families = enumeration b.family b.ctors ∷ [];
      is_block = r.at ∙ ap Some b.is ∙ ap (λ k. Some (enumeration_block k b.family b.ctors)) name;
      family = enumeration b.family b.ctors;
      is_family = ap (slice_get (enumeration b.family b.ctors ∷ [])) one.0;
      below = slice_get_within b.ctors c raw_ctor.0 raw_ctor.1;
    }

rules_pass : (turns : ℕ) (e : RawEnv) (f : FamilyId) (c : ℕ) (E : Env) (T : Term) (u : Account) → IsPlainOf e f c → IsAcceptedWith turns e E T u →
    (declarations_rule 0 [] (entailed_by 0 []) most_nested 0 [] (map given_of e.decls) (Construct f c) (start turns)).outcome ≡ Accepts E T u
rules_pass turns e f c E T u p a =
    sym (ap (λ d. d.outcome)
    (ap (λ ls. environment_rule ls e.constraints None (entailed_by (length ls) e.constraints) most_nested (givens e) e.main (start turns)) p.no_level
    ∙ ap (λ cs. environment_rule [] cs None (entailed_by 0 cs) most_nested (givens e) e.main (start turns)) p.no_constraint
    ∙ ap (λ t. declarations_rule 0 [] (entailed_by 0 []) most_nested 0 [] (givens e) t (start turns)) p.main_is)) ∙ plainly turns e E T u a

-- and main's constructor is the one of this number
pub accepted_plain : (turns : ℕ) (e : RawEnv) (f : FamilyId) (c : ℕ) (E : Env) (T : Term) (u : Account) → IsPlainOf e f c → IsAcceptedWith turns e E T u → (a : IsAnswerable e) × (a.id ≡ f) × (a.number ≡ c)
accepted_plain turns e f c E T u p a =
    let r = all_passed 0 [] (entailed_by 0 []) most_nested 0 [] e.decls (Construct f c) T E (start turns) u p.blocks (rules_pass turns e f c E T u p a) in
    let answerable : IsAnswerable e = record {
      id = f;
      number = c;
      plain = p;
      distinct = (decls_apart [] e.decls r.new).1;
      constructors = r.names;
      main_declared = declares e.decls f c p.blocks (main_there (env 0 [] (all_kept e.decls [])) (entailed_by 0 []) 2047 f c E T (start turns) u r.rest);
    } in
    (answerable, refl, refl)
