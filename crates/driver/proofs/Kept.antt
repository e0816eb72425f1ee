-- What is kept by an environment that is accepted was read: main's constructor, with its name in the table.
use Rattle.std.proofs.Common.{◌≡◌, ℕ, suc, ◌<◌, ◌≤◌, List, [], ◌∷◌, ◌++◌, map, length, reverse, Some, refl, sym, ap, subst, ◌∙◌, ◌⊎◌, inl, inr, arith}
use Rattle.std.specs.Prelude.{slice_get, option_map}
use Rattle.std.proofs.lemmas.List.{reverse-append}
use Rattle.std.proofs.lemmas.Option.{slice_get-map, slice_get_within}
use Rattle.dump_grammar.specs.Environments.{env_of}
use Rattle.dump_grammar.specs.Limits.{first}
use Rattle.dump_grammar.specs.Named as named
use Rattle.dump_grammar.specs.Numbering.{name_table, level_table, place_of}
use Rattle.dump_grammar.specs.Within.{levels_over, constraints_over, declarations_over}
use Rattle.pc_terms.specs.declared.leaf.Name.{Name}
use Rattle.pc_terms.specs.declared.leaf.FamilyId.{FamilyId}
use Rattle.pc_terms.specs.Syntax.{Term, Construct}
use Rattle.calculus_rules.specs.declared.declaration.Constructor.{Constructor}
use Rattle.calculus_rules.specs.declared.declaration.Family.{Family}
use Rattle.calculus_rules.specs.declared.declaration.Block.{Block as KeptBlock}
use Rattle.calculus_rules.specs.declared.declaration.Kept.{Kept}
use Rattle.calculus_rules.specs.declared.declaration.Kept.TheVariants.{Constant, Heads, Block as Whole}
use Rattle.calculus_rules.specs.Environment.{Env, Has, here, there, FamilyDecl, KeepsFamily, with_parameters}
use Rattle.calculus_rules.specs.Context.{Context}
use Rattle.calculus_rules.specs.Typing.{Mode, Types, construct, conv}
use Rattle.rule_laws.specs.Declarations.{plain, plain_given, plain_block, plain_family, plain_constructor, IsCheckedEnvironment}
use Rattle.inductive_check.specs.Given.{given_of, family_of, ctor_of}
use Rattle.env_check.specs.Rules.{givens}
use Rattle.dump_reader.specs.declared.declaration.RawCtor.{RawCtor}
use Rattle.dump_reader.specs.declared.declaration.RawFamily.{RawFamily}
use Rattle.dump_reader.specs.declared.declaration.RawDecl.{RawDecl}
use Rattle.dump_reader.specs.declared.declaration.RawDecl.TheVariants as raw
use Rattle.dump_reader.specs.declared.environment.RawEnv.{RawEnv}
use Rattle.dump_reader.specs.NumberedEnvironment.{numbered_ctor, numbered_family, numbered_decl}
use Rattle.driver.specs.Texts.{SpellsWithin}
use Rattle.driver.specs.Judged.{IsTableName, name_of}
use Rattle.driver.proofs.Limited.{few-declared}
use Rattle.driver.proofs.Uses.{decl_name, declaration_named, constructor_named}
use Rattle.calculus_rules.proofs.Listing.{has_map, from_map}
use Rattle.dump_grammar.proofs.NoLimit.{none_both}

-- a constructor that has a type is kept

pub record IsKept (E : Env) (f : FamilyId) (n : ℕ) : Type 0 where
  pub family : FamilyDecl
  pub keeps : KeepsFamily E f family
  pub constructor : Constructor
  pub at : slice_get family.constructors n ≡ Some constructor

pub kept_constructor : {m : Mode} {E : Env} {c : Context} {f : FamilyId} {n : ℕ} {T : Term} → Types m E c (Construct f n) T → IsKept E f n
kept_constructor (construct {F = F} {C = C} k e) = record { family = F; keeps = k; constructor = C; at = e }
kept_constructor (conv p b q) = kept_constructor p

-- members of lists

has_parts : {X : Type 0} (xs ys : List X) {z : X} → Has (xs ++ ys) z → Has xs z ⊎ Has ys z
has_parts [] ys h = inr h
has_parts (x ∷ xs) ys here = inl here
has_parts (x ∷ xs) ys (there h) = elim (has_parts xs ys h) [ inl l ↦ inl (there l) | inr r ↦ inr r ]

one_of : {X : Type 0} {x z : X} {P : Type 0} → Has (x ∷ []) z → (x ≡ z → P) → P
one_of here k = k refl
one_of (there h) k = elim h [ ]

pub has_reversed : {X : Type 0} (xs : List X) (z : X) → Has (reverse xs) z → Has xs z
has_reversed [] z h = h
has_reversed (x ∷ xs) z h =
    elim (has_parts (reverse xs) (x ∷ []) (subst (λ ys. Has ys z) (reverse-append (x ∷ []) xs) h)) [
      | inl l ↦ there (has_reversed xs z l)
      | inr r ↦ one_of r (λ e. subst (Has (x ∷ xs)) e here)
    ]

pub has_place : {X Y : Type 0} (g : X → Y) (xs : List X) {y : Y} → Has (map g xs) y → (i : ℕ) × (x : X) × (slice_get xs i ≡ Some x) × (g x ≡ y)
has_place g [] h = elim h [ ]
has_place g (x ∷ xs) here = (0, x, refl, refl)
has_place g (x ∷ xs) (there h) = let r = has_place g xs h in (suc r.0, r.1, r.2, r.3)

-- the item of a list at whose place another list has an item of the same image
same_place : {X Y Z : Type 0} (g : X → Z) (h : Y → Z) (xs : List X) (ys : List Y) (i : ℕ) (x : X) → map g xs ≡ map h ys → slice_get xs i ≡ Some x →
    (y : Y) × (slice_get ys i ≡ Some y) × (g x ≡ h y)
same_place g h xs ys i x e at =
    from_map h (slice_get ys i) (g x)
    (sym (slice_get-map h ys i) ∙ ap (λ zs. slice_get zs i) (sym e) ∙ slice_get-map g xs i ∙ ap (option_map g) at)

-- a constructor that is kept was read

pub record WasRead (e : RawEnv) (f : FamilyId) (n : ℕ) (C : Constructor) : Type 0 where
  pub place : ℕ
  pub name : Name
  pub params : List Term
  pub families : List RawFamily
  pub declared : slice_get e.decls place ≡ Some (raw.Block name params families)
  pub family : RawFamily
  pub is_family : slice_get families f.family ≡ Some family
  pub ctor : RawCtor
  pub is_ctor : slice_get family.ctors n ≡ Some ctor
  pub same_name : C.name ≡ ctor.name

map_map : {X Y Z : Type 0} (g : Y → Z) (h : X → Y) (xs : List X) → map g (map h xs) ≡ map (λ x. g (h x)) xs
map_map g h [] = refl
map_map g h (x ∷ xs) = ap (λ ys. g (h x) ∷ ys) (map_map g h xs)

kept_block : Kept → KeptBlock → KeptBlock
kept_block (Whole B) D = B
kept_block (Heads B) D = D
kept_block (Constant k T b) D = D

read_block : (e : RawEnv) (f : FamilyId) (n i : ℕ) (d : RawDecl) (B : KeptBlock) (G : Family) (C : Constructor) → slice_get e.decls i ≡ Some d →
    plain_given (given_of d) ≡ Whole (plain_block B) → slice_get B.families f.family ≡ Some G → slice_get G.ctors n ≡ Some C → WasRead e f n C
unfolding kept_block
read_block e f n i (raw.Constant k A b) B G C at same family ctor = absurd cc
read_block e f n i (raw.Block k ps fs) B G C at same family ctor =
    let D : KeptBlock = record { name = k; params = ps; families = map family_of fs } in
    let blocks : plain_block D ≡ plain_block B = ap (λ x. kept_block x (plain_block D)) same in
    let families : map plain_family B.families ≡ map (λ x. plain_family (family_of x)) fs =
    sym (ap (λ x. x.families) blocks) ∙ map_map plain_family family_of fs in
    let one = same_place plain_family (λ x. plain_family (family_of x)) B.families fs f.family G families family in
    let g = one.0 in
    let ctors : map plain_constructor G.ctors ≡ map (λ x. plain_constructor (ctor_of x)) g.ctors =
    ap (λ x. x.ctors) one.2 ∙ map_map plain_constructor ctor_of g.ctors in
    let two = same_place plain_constructor (λ x. plain_constructor (ctor_of x)) G.ctors g.ctors n C ctors ctor in
    record {
      place = i;
      name = k;
      params = ps;
      families = fs;
      declared = at;
      family = g;
      is_family = one.1;
      ctor = two.0;
      is_ctor = two.1;
      same_name = ap (λ x. x.name) two.2;
    }

pub was_read : (e : RawEnv) (E : Env) (T : Term) → IsCheckedEnvironment e.levels e.constraints (givens e) e.main E T →
    (f : FamilyId) (n : ℕ) (F : FamilyDecl) (C : Constructor) → KeepsFamily E f F → slice_get F.constructors n ≡ Some C → WasRead e f n C
was_read e E T checked f n F C (B, has, name, at) ctor =
    let given = has_place plain_given (givens e) (has_reversed (map plain_given (givens e)) (Whole (plain_block B)) (subst (λ xs. Has xs (Whole (plain_block B))) checked.declarations (has_map plain has))) in
    let decl = from_map given_of (slice_get e.decls given.0) given.1 (sym (slice_get-map given_of e.decls given.0) ∙ given.2) in
    let family = from_map (with_parameters B.params) (slice_get B.families f.family) F at in
    let G : Family = family.0 in
    read_block e f n given.0 decl.0 B G C decl.1 (ap plain_given (sym decl.2) ∙ given.3) family.1 (subst (λ x. slice_get x.constructors n ≡ Some C) family.2 ctor)

-- what is read of a text within the limits

module _ (bytes : List ℕ) (e : RawEnv) (s : SpellsWithin bytes e) where
  abbrev meant : named.NamedEnv
  meant = env_of s.form

  abbrev ns : List (List ℕ)
  ns = name_table meant

  abbrev ls : List (List ℕ)
  ls = level_table meant

  decls_are : e.decls ≡ map (numbered_decl ns ls) meant.decls
  decls_are = ap (λ x. x.decls) s.means

  names_are : e.names ≡ ns
  names_are = ap (λ x. x.names) s.means

  decl_from : (i : ℕ) (d : RawDecl) → slice_get e.decls i ≡ Some d → (x : named.NamedDecl) × (slice_get meant.decls i ≡ Some x) × (d ≡ numbered_decl ns ls x)
  decl_from i d at =
      from_map (numbered_decl ns ls) (slice_get meant.decls i) d (sym (slice_get-map (numbered_decl ns ls) meant.decls i) ∙ ap (λ xs. slice_get xs i) (sym decls_are) ∙ at)

  named_number : (x : named.NamedDecl) → (name_of (numbered_decl ns ls x)).0 ≡ place_of (decl_name x) ns
  named_number (named.Constant k A b) = refl
  named_number (named.Block k ps fs) = refl

  pub name_there : (i : ℕ) (d : RawDecl) → slice_get e.decls i ≡ Some d → (name : List ℕ) × IsTableName e (name_of d).0 name
  name_there i d at =
      let r = decl_from i d at in
      let number : (name_of d).0 ≡ place_of (decl_name r.0) ns = ap (λ x. (name_of x).0) r.2 ∙ named_number r.0 in
      (decl_name r.0, ap (λ xs. slice_get xs (name_of d).0) names_are ∙ ap (slice_get ns) number ∙ declaration_named meant i r.0 r.1)

  -- a family's constructor has its name in the table, and a number below 1,024
  pub record IsNamedCtor (number n : ℕ) : Type 0 where
    pub few : n < 1024
    pub name : List ℕ
    pub named : IsTableName e number name

  in_block : (i j n : ℕ) (d : named.NamedDecl) (k : Name) (ps : List Term) (fs : List RawFamily) (f : RawFamily) (c : RawCtor) → slice_get meant.decls i ≡ Some d →
      raw.Block k ps fs ≡ numbered_decl ns ls d → slice_get fs j ≡ Some f → slice_get f.ctors n ≡ Some c → IsNamedCtor c.name.0 n
  in_block i j n (named.Constant k' A b) k ps fs f c at same family ctor = absurd cc
  in_block i j n (named.Block k' qs gs) k ps fs f c at same family ctor =
      let families : fs ≡ map (numbered_family ns ls) gs = cc in
      let one = from_map (numbered_family ns ls) (slice_get gs j) f (sym (slice_get-map (numbered_family ns ls) gs j) ∙ ap (λ xs. slice_get xs j) (sym families) ∙ family) in
      let g = one.0 in
      let ctors : f.ctors ≡ map (numbered_ctor ns ls) g.ctors = ap (λ x. x.ctors) one.2 in
      let two = from_map (numbered_ctor ns ls) (slice_get g.ctors n) c (sym (slice_get-map (numbered_ctor ns ls) g.ctors n) ∙ ap (λ xs. slice_get xs n) (sym ctors) ∙ ctor) in
      let number : c.name.0 ≡ place_of two.0.name ns = ap (λ x. x.name.0) two.2 in
      let over = (none_both (constraints_over 0 s.form.constraints) (declarations_over 0 s.form.decls s.form.main)
      (none_both (levels_over 0 s.form.levels) (first (constraints_over 0 s.form.constraints) (declarations_over 0 s.form.decls s.form.main)) s.within.1).1).1 in
      let many : length g.ctors ≤ 1024 = few-declared s.form.decls 0 i j s.form.main k' qs gs g at one.1 over in
      let below : n < length g.ctors = slice_get_within g.ctors n two.0 two.1 in
      record {
        few = omega (arith, many, below);
        name = two.0.name;
        named = ap (λ xs. slice_get xs c.name.0) names_are ∙ ap (slice_get ns) number ∙ constructor_named meant i j n k' qs gs g two.0 at one.1 two.1;
      }

  pub named_ctor : (f : FamilyId) (n : ℕ) (C : Constructor) → WasRead e f n C → IsNamedCtor C.name.0 n
  named_ctor f n C w =
      let r = decl_from w.place (raw.Block w.name w.params w.families) w.declared in
      subst (λ k. IsNamedCtor k.0 n) (sym w.same_name)
      (in_block w.place f.family n r.0 w.name w.params w.families w.family w.ctor r.1 r.2 w.is_family w.is_ctor)
