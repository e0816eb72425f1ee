-- Names that are used stand among the uses of the whole.
use Rattle.std.proofs.Common.{◌≡◌, ℕ, zero, suc, List, [], ◌∷◌, Option, Some, None, true, refl, sym, subst}
use Rattle.std.specs.Prelude.{slice_get, bytes_eq}
use Rattle.std.proofs.lemmas.Slice.Eq.{bytes_eq-Decides}
use Rattle.dump_grammar.specs.Named.{Named, Rel, Sort, Prod, Lambda, LetIn, App, Const, Ind, Construct, Case, Fix, NamedTerms, NoTerm, OneTerm, NamedBranches, NoBranch, OneBranch, NamedDefs, NoDef, OneDef, NamedCtor, NamedFamily, NamedDecl, Constant, Block, NamedEnv}
use Rattle.dump_grammar.specs.Uses.{names, names_of_terms, names_of_branches, names_of_defs, each, names_of_option, names_of_ctor, names_of_family, names_of_decl, name_uses}
use Rattle.dump_grammar.specs.Numbering.{is_in, place_of, text_at, name_table}
use Rattle.dump_grammar.proofs.Numbering.{numbering}
use Rattle.std.proofs.lemmas.Bool.{or_right, or_left}

here : (a b : List ℕ) (us : List (List ℕ)) → a ≡ b → is_in a (b ∷ us) ≡ true
unfolding is_in
here a b us e = or_left (bytes_eq a b) (is_in a us) ((bytes_eq-Decides a b).1 e)

later : (a b : List ℕ) (us : List (List ℕ)) → is_in a us ≡ true → is_in a (b ∷ us) ≡ true
unfolding is_in
later a b us h = or_right (bytes_eq a b) (is_in a us) h

module _ (a : List ℕ) where
  mutual
    unfolding names names_of_terms names_of_branches names_of_defs

    before : (t : Named) (us : List (List ℕ)) → is_in a us ≡ true → is_in a (names t us) ≡ true
    before (Rel n) us h = h
    before (Sort s) us h = h
    before (Prod A B) us h = before A (names B us) (before B us h)
    before (Lambda A b) us h = before A (names b us) (before b us h)
    before (LetIn b B t) us h = before b (names B (names t us)) (before B (names t us) (before t us h))
    before (App f x) us h = before f (names x us) (before x us h)
    before (Const k) us h = later a k us h
    before (Ind k n) us h = later a k us h
    before (Construct k n c) us h = later a k us h
    before (Case k n ps m ret scrut bs) us h =
        later a k (names_of_terms ps (names ret (names scrut (names_of_branches bs us))))
        (before_terms ps (names ret (names scrut (names_of_branches bs us)))
        (before ret (names scrut (names_of_branches bs us)) (before scrut (names_of_branches bs us) (before_branches bs us h))))
    before (Fix ds i) us h = before_defs ds us h

    before_terms : (ts : NamedTerms) (us : List (List ℕ)) → is_in a us ≡ true → is_in a (names_of_terms ts us) ≡ true
    before_terms NoTerm us h = h
    before_terms (OneTerm t more) us h = before t (names_of_terms more us) (before_terms more us h)

    before_branches : (bs : NamedBranches) (us : List (List ℕ)) → is_in a us ≡ true → is_in a (names_of_branches bs us) ≡ true
    before_branches NoBranch us h = h
    before_branches (OneBranch m b more) us h = before b (names_of_branches more us) (before_branches more us h)

    before_defs : (ds : NamedDefs) (us : List (List ℕ)) → is_in a us ≡ true → is_in a (names_of_defs ds us) ≡ true
    before_defs NoDef us h = h
    before_defs (OneDef A b n more) us h = before A (names b (names_of_defs more us)) (before b (names_of_defs more us) (before_defs more us h))

  before_each : {X : Type 0} (f : X → List (List ℕ) → List (List ℕ)) → ((x : X) (us : List (List ℕ)) → is_in a us ≡ true → is_in a (f x us) ≡ true) →
      (xs : List X) (us : List (List ℕ)) → is_in a us ≡ true → is_in a (each f xs us) ≡ true
  unfolding each
  before_each f k [] us h = h
  before_each f k (x ∷ xs) us h = k x (each f xs us) (before_each f k xs us h)

  before_option : (o : Option Named) (us : List (List ℕ)) → is_in a us ≡ true → is_in a (names_of_option o us) ≡ true
  before_option None us h = h
  before_option (Some t) us h = before t us h

  before_ctor : (c : NamedCtor) (us : List (List ℕ)) → is_in a us ≡ true → is_in a (names_of_ctor c us) ≡ true
  before_ctor c us h =
      later a c.name (each names c.args (each names c.result us)) (before_each names before c.args (each names c.result us) (before_each names before c.result us h))

  before_family : (f : NamedFamily) (us : List (List ℕ)) → is_in a us ≡ true → is_in a (names_of_family f us) ≡ true
  before_family f us h =
      later a f.name (each names f.indices (each names_of_ctor f.ctors us))
      (before_each names before f.indices (each names_of_ctor f.ctors us) (before_each names_of_ctor before_ctor f.ctors us h))

  before_decl : (d : NamedDecl) (us : List (List ℕ)) → is_in a us ≡ true → is_in a (names_of_decl d us) ≡ true
  unfolding names_of_decl
  before_decl (Constant k A b) us h = later a k (names A (names_of_option b us)) (before A (names_of_option b us) (before_option b us h))
  before_decl (Block k ps fs) us h =
      later a k (each names ps (each names_of_family fs us)) (before_each names before ps (each names_of_family fs us) (before_each names_of_family before_family fs us h))

  -- a member whose own uses have the name, whatever comes after them
  of_member : {X : Type 0} (f : X → List (List ℕ) → List (List ℕ)) → ((x : X) (us : List (List ℕ)) → is_in a us ≡ true → is_in a (f x us) ≡ true) →
      (xs : List X) (i : ℕ) (x : X) → slice_get xs i ≡ Some x → ((us : List (List ℕ)) → is_in a (f x us) ≡ true) → (us : List (List ℕ)) → is_in a (each f xs us) ≡ true
  unfolding each
  of_member f k [] i x e h us = absurd cc
  of_member f k (y ∷ xs) zero x e h us = (let q : y ≡ x = cc in subst (λ z. is_in a (f z (each f xs us)) ≡ true) (sym q) (h (each f xs us)))
  of_member f k (y ∷ xs) (suc i) x e h us = k y (each f xs us) (of_member f k xs i x e h us)

-- the name of a declaration

abbrev pub decl_name : NamedDecl → List ℕ
decl_name (Constant k A b) = k
decl_name (Block k ps fs) = k

own_name : (d : NamedDecl) (us : List (List ℕ)) → is_in (decl_name d) (names_of_decl d us) ≡ true
unfolding names_of_decl
own_name (Constant k A b) us = here k k (names A (names_of_option b us)) refl
own_name (Block k ps fs) us = here k k (each names ps (each names_of_family fs us)) refl

at_place : (n : ℕ) (table : List (List ℕ)) (a : List ℕ) → text_at n table ≡ Some a → slice_get table n ≡ Some a
unfolding text_at
at_place n [] a h = absurd cc
at_place zero (b ∷ bs) a h = h
at_place (suc n) (b ∷ bs) a h = at_place n bs a h

-- what is used stands in the table at its number
in_table : (n : NamedEnv) (a : List ℕ) → is_in a (name_uses n) ≡ true → slice_get (name_table n) (place_of a (name_table n)) ≡ Some a
in_table n a h = at_place (place_of a (name_table n)) (name_table n) a (numbering.used (name_uses n) a h)

pub declaration_named : (n : NamedEnv) (i : ℕ) (d : NamedDecl) → slice_get n.decls i ≡ Some d →
    slice_get (name_table n) (place_of (decl_name d) (name_table n)) ≡ Some (decl_name d)
declaration_named n i d e =
    in_table n (decl_name d) (of_member (decl_name d) names_of_decl (before_decl (decl_name d)) n.decls i d e (own_name d) (names n.main []))

constructor_used : (fs : List NamedFamily) (j l : ℕ) (f : NamedFamily) (c : NamedCtor) → slice_get fs j ≡ Some f → slice_get f.ctors l ≡ Some c →
    (k : List ℕ) (ps : List Named) (us : List (List ℕ)) → is_in c.name (names_of_decl (Block k ps fs) us) ≡ true
unfolding names_of_decl
constructor_used fs j l f c e e' k ps us =
    let a = c.name in
    let own : (us : List (List ℕ)) → is_in a (names_of_ctor c us) ≡ true = λ us. here a a (each names c.args (each names c.result us)) refl in
    let family : (us : List (List ℕ)) → is_in a (names_of_family f us) ≡ true = λ us.
    later a f.name (each names f.indices (each names_of_ctor f.ctors us))
    (before_each a names (before a) f.indices (each names_of_ctor f.ctors us) (of_member a names_of_ctor (before_ctor a) f.ctors l c e' own us)) in
    later a k (each names ps (each names_of_family fs us))
    (before_each a names (before a) ps (each names_of_family fs us) (of_member a names_of_family (before_family a) fs j f e family us))

pub constructor_named : (n : NamedEnv) (i j l : ℕ) (k : List ℕ) (ps : List Named) (fs : List NamedFamily) (f : NamedFamily) (c : NamedCtor) →
    slice_get n.decls i ≡ Some (Block k ps fs) → slice_get fs j ≡ Some f → slice_get f.ctors l ≡ Some c →
    slice_get (name_table n) (place_of c.name (name_table n)) ≡ Some c.name
constructor_named n i j l k ps fs f c e e' e'' =
    in_table n c.name
    (of_member c.name names_of_decl (before_decl c.name) n.decls i (Block k ps fs) e (constructor_used fs j l f c e' e'' k ps) (names n.main []))
