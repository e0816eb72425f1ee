-- What is made of declarations and of a whole environment, from what is made of their parts.
use Rattle.std.proofs.Common.{◌≡◌, ℕ, ◌+◌, ◌<◌, List, [], ◌∷◌, ◌++◌, map, length, take, get_or, Some, None, refl, sym, ap, subst, ◌∙◌}
use Rattle.std.specs.Prelude.{Vec}
use Rattle.std.specs.declared.alloc.Global.{Global}
use Rattle.std.specs.Borrow.{Bor}
use Rattle.universe_levels.specs.declared.level.Level.{Level}
use Rattle.universe_levels.specs.declared.constraint.Constraint.{Constraint}
use Rattle.universe_levels.specs.declared.constraint.Relation.{Relation}
use Rattle.universe_levels.specs.declared.sort.Sort.{Sort as Sorts}
use Rattle.pc_terms.specs.declared.leaf.Name.{Name}
use Rattle.pc_terms.specs.Syntax as terms
use Rattle.dump_grammar.specs.declared.keyword.Keyword.TheVariants as words
use Rattle.dump_grammar.specs.Keywords.{spelling}
use Rattle.dump_grammar.specs.Named.{Named, NamedEnv}
use Rattle.dump_grammar.specs.Uses.{names, levels, each, levels_of_sort, names_of_ctor, levels_of_ctor, names_of_family, levels_of_family, names_of_decl, levels_of_decl, one_use, levels_of_constraint, name_uses, level_uses}
use Rattle.dump_grammar.specs.Numbering.{firsts, is_in, name_table, level_table}
use Rattle.dump_parser.specs.declared.environment.ConstraintTree.{ConstraintTree}
use Rattle.dump_parser.specs.declared.environment.CtorTree.{CtorTree}
use Rattle.dump_parser.specs.declared.environment.FamilyTree.{FamilyTree}
use Rattle.dump_parser.specs.declared.environment.DeclTree.{DeclTree}
use Rattle.dump_parser.specs.declared.environment.DeclTree.TheVariants as trees
use Rattle.dump_parser.specs.declared.environment.HeadTree.{HeadTree}
use Rattle.dump_parser.specs.Tree.{named_sort}
use Rattle.dump_parser.specs.Environment.{named_constraint, named_ctor, named_family, named_decl, named_relation}
use Rattle.dump_reader.specs.declared.declaration.RawCtor.{RawCtor}
use Rattle.dump_reader.specs.declared.declaration.RawFamily.{RawFamily}
use Rattle.dump_reader.specs.declared.declaration.RawDecl.{RawDecl}
use Rattle.dump_reader.specs.declared.declaration.RawDecl.TheVariants as decls
use Rattle.dump_reader.specs.declared.environment.RawEnv.{RawEnv}
use Rattle.dump_reader.specs.declared.numbering.Tables.{Tables}
use Rattle.dump_reader.specs.Tables.{after_uses}
use Rattle.dump_reader.specs.Numbered.{name_number, level_number, numbered_sort, numbered_term}
use Rattle.dump_reader.specs.NumberedEnvironment.{relation_of, numbered_constraint, numbered_ctor, numbered_family, numbered_decl, numbered_by, numbered}
use Rattle.dump_reader.specs.Growth.{Uses, unused, Numbers}
use Rattle.dump_reader.specs.Made.{IsTerm, AreTerms, NumbersEach, level_names, level_levels, level_value, constraint_names, constraint_levels, constraint_value, ctor_names, ctor_levels, ctor_value, family_names, family_levels, family_value, decl_names, decl_levels, decl_value}
use Rattle.dump_reader.proofs.Growth.{both, restated, all-firsts, one-more-at}
use Rattle.dump_reader.proofs.Universes.{same-item}

each-map : {X Y : Type 0} (u : Y → Uses) (f : X → Y) (xs : List X) (after : List (List ℕ)) → each u (map f xs) after ≡ each (λ x. u (f x)) xs after
unfolding each
each-map u f [] after = refl
each-map u f (x ∷ xs) after = ap (u (f x)) (each-map u f xs after)

map-twice : {X Y Z : Type 0} (g : Y → Z) (f : X → Y) (xs : List X) → map (λ x. g (f x)) xs ≡ map g (map f xs)
map-twice g f [] = refl
map-twice g f (x ∷ xs) = ap (λ zs. g (f x) ∷ zs) (map-twice g f xs)

each-nothing : {X : Type 0} (xs : List X) (after : List (List ℕ)) → after ≡ each (λ x more. more) xs after
unfolding each
each-nothing [] after = refl
each-nothing (x ∷ xs) after = each-nothing xs after

-- lists in other words
pub each-along : {X Y : Type 0} (u v : X → Uses) (value : List (List ℕ) → List (List ℕ) → X → Y) {xs us : List X} {ys zs : List Y} {old new : Tables} → xs ≡ us → zs ≡ ys
    → NumbersEach u v value xs old new ys → NumbersEach u v value us old new zs
each-along u v value {us = us} {ys = ys} {old = old} {new = new} e f p =
    subst (λ z. NumbersEach u v value us old new z) (sym f) (subst (λ z. NumbersEach u v value z old new ys) e p)

pub family-made : {t0 t1 t2 t3 t4 : Tables} (f : FamilyTree) (x : Name) (y : Sorts) (is : List Named) (xs xs' : List terms.Term) (cs : List CtorTree) (ys ys' : List RawCtor)
    → Numbers (λ after. f.name.now ∷ after) unused (λ ns ls. name_number ns f.name.now) t0 t1 x
    → Numbers unused (levels_of_sort (named_sort f.sort)) (λ ns ls. numbered_sort ls (named_sort f.sort)) t1 t2 y
    → is ≡ f.indices.items → xs' ≡ xs → AreTerms is t2 t3 xs
    → cs ≡ f.ctors.items → ys' ≡ ys → NumbersEach ctor_names ctor_levels ctor_value cs t3 t4 ys
    → Numbers (family_names f) (family_levels f) (λ ns ls. family_value ns ls f) t0 t4 (record { name = x; sort = y; indices = xs'; ctors = ys' })
family-made f x y is xs xs' cs ys ys' p q e e' r g g' s =
    restated
    (both {X = List RawCtor → RawFamily} (both {X = List terms.Term → List RawCtor → RawFamily} (both p (λ a b c d. record { name = a; sort = b; indices = c; ctors = d }) q) (λ k c. k c)
    (each-along names levels numbered_term e e' r.numbers)) (λ k d. k d) (each-along ctor_names ctor_levels ctor_value g g' s))
    (λ after. ap (λ more. f.name.now ∷ each names f.indices.items more) (each-map names_of_ctor named_ctor f.ctors.items after))
    (λ after. ap (λ more. levels_of_sort (named_sort f.sort) (each levels f.indices.items more)) (each-map levels_of_ctor named_ctor f.ctors.items after))
    (λ ns ls i. record {
      name = name_number ns f.name.now;
      sort = numbered_sort ls (named_sort f.sort);
      indices = map (numbered_term ns ls) f.indices.items;
      ctors = map-twice (numbered_ctor ns ls) named_ctor f.ctors.items i;
    })
    refl

pub block-made : {t0 t1 t2 t3 : Tables} (k : Bor (List ℕ)) (x : Name) (ps is : List Named) (xs xs' : List terms.Term) (fs gs : List FamilyTree) (ys ys' : List RawFamily)
    → Numbers (λ after. k.now ∷ after) unused (λ ns ls. name_number ns k.now) t0 t1 x
    → is ≡ ps → xs' ≡ xs → AreTerms is t1 t2 xs → gs ≡ fs → ys' ≡ ys → NumbersEach family_names family_levels family_value gs t2 t3 ys
    → Numbers (λ after. k.now ∷ each names ps (each names_of_family (map named_family fs) after)) (λ after. each levels ps (each levels_of_family (map named_family fs) after))
    (λ ns ls. decls.Block (name_number ns k.now) (map (numbered_term ns ls) ps) (map (numbered_family ns ls) (map named_family fs))) t0 t3 (decls.Block x xs' ys')
block-made k x ps is xs xs' fs gs ys ys' p e e' r g g' s =
    restated
    (both {X = List RawFamily → RawDecl} (both p (λ a b c. decls.Block a b c) (each-along names levels numbered_term e e' r.numbers)) (λ h c. h c) (each-along family_names family_levels family_value g g' s))
    (λ after. ap (λ more. k.now ∷ each names ps more) (each-map names_of_family named_family fs after))
    (λ after. ap (λ more. each levels ps more) (each-map levels_of_family named_family fs after))
    (λ ns ls i. decls.Block (name_number ns k.now) (map (numbered_term ns ls) ps) (map-twice (numbered_family ns ls) named_family fs i)) refl

pub constant-made : {t0 t1 t2 t3 : Tables} (k : Bor (List ℕ)) (x : Name) (A b : Named) (y z : terms.Term) → Numbers (λ after. k.now ∷ after) unused (λ ns ls. name_number ns k.now) t0 t1 x
    → IsTerm A t1 t2 y → IsTerm b t2 t3 z
    → Numbers (λ after. k.now ∷ names A (names b after)) (λ after. levels A (levels b after))
    (λ ns ls. decls.Constant (name_number ns k.now) (numbered_term ns ls A) (Some (numbered_term ns ls b))) t0 t3 (decls.Constant x y (Some z))
constant-made k x A b y z p q r = both {X = terms.Term → RawDecl} (both p (λ u v w. decls.Constant u v (Some w)) q.numbers) (λ h c. h c) r.numbers

pub axiom-made : {t0 t1 t2 : Tables} (k : Bor (List ℕ)) (x : Name) (A : Named) (y : terms.Term) → Numbers (λ after. k.now ∷ after) unused (λ ns ls. name_number ns k.now) t0 t1 x → IsTerm A t1 t2 y
    → Numbers (λ after. k.now ∷ names A after) (λ after. levels A after) (λ ns ls. decls.Constant (name_number ns k.now) (numbered_term ns ls A) None) t0 t2 (decls.Constant x y None)
axiom-made k x A y p q = both p (λ u v. decls.Constant u v None) q.numbers

-- of a declaration, whichever it is
pub decl-along : {d e : DeclTree} {old new : Tables} {x : RawDecl} → d ≡ e → Numbers (decl_names e) (decl_levels e) (λ ns ls. decl_value ns ls e) old new x
    → Numbers (decl_names d) (decl_levels d) (λ ns ls. decl_value ns ls d) old new x
decl-along {old = old} {new = new} {x = x} e p = subst (λ d. Numbers (decl_names d) (decl_levels d) (λ ns ls. decl_value ns ls d) old new x) (sym e) p

pub block-decl : (k : Bor (List ℕ)) (ps : Vec Named Global) (fs : Vec FamilyTree Global) {old new : Tables} {x : RawDecl}
    → Numbers (λ after. k.now ∷ each names ps.items (each names_of_family (map named_family fs.items) after)) (λ after. each levels ps.items (each levels_of_family (map named_family fs.items) after))
    (λ ns ls. decls.Block (name_number ns k.now) (map (numbered_term ns ls) ps.items) (map (numbered_family ns ls) (map named_family fs.items))) old new x
    → Numbers (decl_names (trees.Block k ps fs)) (decl_levels (trees.Block k ps fs)) (λ ns ls. decl_value ns ls (trees.Block k ps fs)) old new x
unfolding names_of_decl levels_of_decl
block-decl k ps fs p = p

pub constant-decl : (k : Bor (List ℕ)) (A b : Named) {old new : Tables} {x : RawDecl}
    → Numbers (λ after. k.now ∷ names A (names b after)) (λ after. levels A (levels b after)) (λ ns ls. decls.Constant (name_number ns k.now) (numbered_term ns ls A) (Some (numbered_term ns ls b))) old new x
    → Numbers (decl_names (trees.Constant k A (Some b))) (decl_levels (trees.Constant k A (Some b))) (λ ns ls. decl_value ns ls (trees.Constant k A (Some b))) old new x
unfolding names_of_decl levels_of_decl
constant-decl k A b p = p

pub axiom-decl : (k : Bor (List ℕ)) (A : Named) {old new : Tables} {x : RawDecl}
    → Numbers (λ after. k.now ∷ names A after) (λ after. levels A after) (λ ns ls. decls.Constant (name_number ns k.now) (numbered_term ns ls A) None) old new x
    → Numbers (decl_names (trees.Constant k A None)) (decl_levels (trees.Constant k A None)) (λ ns ls. decl_value ns ls (trees.Constant k A None)) old new x
unfolding names_of_decl levels_of_decl
axiom-decl k A p = p

-- ---- levels and constraints

pub one-level : (atoms : List (Bor (List ℕ))) (i : ℕ) (d : Bor (List ℕ)) (ys zs : List Level) (l : Level) {old mid new : Tables} → i < length atoms → zs ≡ ys ++ l ∷ []
    → NumbersEach level_names level_levels level_value (take i atoms) old mid ys → Numbers unused (λ after. (get_or atoms i d).now ∷ after) (λ ns ls. level_number ls (get_or atoms i d).now) mid new l
    → NumbersEach level_names level_levels level_value (take (i + 1) atoms) old new zs
one-level atoms i d ys zs l within put p q = one-more-at level_names level_levels level_value atoms i (get_or atoms i d) ys zs l (same-item atoms i d (get_or atoms i d) within) within put p q

pub one-constraint : (cs : List ConstraintTree) (i : ℕ) (d : ConstraintTree) (ys zs : List Constraint) (l r : Level) (rel : Relation) {old mid after new : Tables} → i < length cs
    → rel ≡ relation_of (named_relation (get_or cs i d).relation) → zs ≡ ys ++ record { left = l; relation = rel; right = r } ∷ []
    → NumbersEach constraint_names constraint_levels constraint_value (take i cs) old mid ys
    → Numbers unused (λ more. (get_or cs i d).left.now ∷ more) (λ ns ls. level_number ls (get_or cs i d).left.now) mid after l
    → Numbers unused (λ more. (get_or cs i d).right.now ∷ more) (λ ns ls. level_number ls (get_or cs i d).right.now) after new r
    → NumbersEach constraint_names constraint_levels constraint_value (take (i + 1) cs) old new zs
one-constraint cs i d ys zs l r rel within same put p q s =
    one-more-at constraint_names constraint_levels constraint_value cs i (get_or cs i d) ys zs (record { left = l; relation = rel; right = r }) (same-item cs i d (get_or cs i d) within) within put p
    (restated (both q (λ a b. record { left = a; relation = rel; right = b }) s) (λ more. refl) (λ more. refl)
    (λ ns ls j. record { left = level_number ls (get_or cs i d).left.now; relation = same j; right = level_number ls (get_or cs i d).right.now }) refl)

-- ---- whole environments

module _ (h : HeadTree) (ds : List DeclTree) (m : Named) where
  -- the environment of these parts
  abbrev pub env_of_parts : NamedEnv
  env_of_parts = record { levels = map (λ a. a.now) h.levels.items; constraints = map named_constraint h.constraints.items; decls = map named_decl ds; main = m }

  names-used : each level_names h.levels.items (each constraint_names h.constraints.items (each decl_names ds (names m []))) ≡ name_uses env_of_parts
  names-used =
      sym (each-nothing h.levels.items (each constraint_names h.constraints.items (each decl_names ds (names m []))))
      ∙ sym (each-nothing h.constraints.items (each decl_names ds (names m []))) ∙ sym (each-map names_of_decl named_decl ds (names m []))

  levels-used : each level_levels h.levels.items (each constraint_levels h.constraints.items (each decl_levels ds (levels m []))) ≡ level_uses env_of_parts
  levels-used =
      ap (λ more. each level_levels h.levels.items (each constraint_levels h.constraints.items more)) (sym (each-map levels_of_decl named_decl ds (levels m [])))
      ∙ ap (λ more. each level_levels h.levels.items more) (sym (each-map levels_of_constraint named_constraint h.constraints.items (each levels_of_decl (map named_decl ds) (levels m []))))
      ∙ sym (each-map one_use (λ a. a.now) h.levels.items (each levels_of_constraint (map named_constraint h.constraints.items) (each levels_of_decl (map named_decl ds) (levels m []))))

-- the tables behind the last use
names-whole : (table last uses : List (List ℕ)) → table ≡ [] → after_uses table uses ≡ after_uses last [] → last ≡ firsts uses
unfolding after_uses
names-whole table last uses empty grown = sym grown ∙ ap (λ t. after_uses t uses) empty ∙ all-firsts uses

levels-whole : (table last uses : List (List ℕ)) (a : List ℕ) → table ≡ a ∷ [] → after_uses table uses ≡ after_uses last [] → last ≡ firsts (a ∷ uses)
unfolding after_uses is_in
levels-whole table last uses a one grown = sym grown ∙ ap (λ t. after_uses t uses) one ∙ all-firsts (a ∷ uses)

abbrev Assembled : Type 0
Assembled = (ns ls : List (List ℕ)) → RawEnv

assemble : List Level → List Constraint → List RawDecl → terms.Term → Assembled
assemble l c d m ns ls = record { names = ns; level_names = ls; levels = l; constraints = c; decls = d; main = m }

pub env-made : (h : HeadTree) (ds : List DeclTree) (tree : Named) {t0 t1 t2 t3 t4 : Tables} (atoms : List (Bor (List ℕ))) (cs : List ConstraintTree) (xs xs' : List Level) (ys ys' : List Constraint) (zs zs' : List RawDecl) (m : terms.Term)
    → t0.names ≡ [] → t0.levels ≡ spelling words.Set ∷ []
    → atoms ≡ h.levels.items → xs' ≡ xs → NumbersEach level_names level_levels level_value atoms t0 t1 xs
    → cs ≡ h.constraints.items → ys' ≡ ys → NumbersEach constraint_names constraint_levels constraint_value cs t1 t2 ys
    → zs' ≡ zs → NumbersEach decl_names decl_levels decl_value ds t2 t3 zs
    → IsTerm tree t3 t4 m
    → record { names = t4.names; level_names = t4.levels; levels = xs'; constraints = ys'; decls = zs'; main = m } ≡ numbered (env_of_parts h ds tree)
unfolding after_uses assemble
env-made h ds tree {t0} {t1} {t2} {t3} {t4} atoms cs xs xs' ys ys' zs zs' m n0 l0 e1 f1 p e2 f2 q f3 r s =
    let env = env_of_parts h ds tree in
    let whole =
    both {X = terms.Term → Assembled} (both {X = List RawDecl → terms.Term → Assembled} (both (each-along level_names level_levels level_value e1 f1 p) assemble (each-along constraint_names constraint_levels constraint_value e2 f2 q))
    (λ k d. k d) (each-along decl_names decl_levels decl_value refl f3 r)) (λ k n. k n) s.numbers in
    let names-are : t4.names ≡ name_table env = names-whole t0.names t4.names _ n0 (whole.names_grow []) ∙ ap firsts (names-used h ds tree) in
    let levels-are : t4.levels ≡ level_table env = levels-whole t0.levels t4.levels _ (spelling words.Set) l0 (whole.levels_grow []) ∙ ap (λ us. firsts (spelling words.Set ∷ us)) (levels-used h ds tree) in
    let value : assemble xs' ys' zs' m t4.names t4.levels ≡ numbered_by t4.names t4.levels env =
    ap (λ (k : Assembled). k t4.names t4.levels) (whole.is_value [] []) ∙ (λ i. record {
      names = t4.names;
      level_names = t4.levels;
      levels = map-twice (level_number t4.levels) (λ a. a.now) h.levels.items i;
      constraints = map-twice (numbered_constraint t4.levels) named_constraint h.constraints.items i;
      decls = map-twice (numbered_decl t4.names t4.levels) named_decl ds i;
      main = numbered_term t4.names t4.levels tree;
    }) in
    value ∙ ap (λ t. numbered_by t t4.levels env) names-are ∙ ap (λ t. numbered_by (name_table env) t env) levels-are
