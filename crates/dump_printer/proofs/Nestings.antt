-- Without a cast the canonical text nests no deeper than the text that was read.
use Rattle.std.proofs.Common.{◌≡◌, ℕ, suc, ◌+◌, ◌≤◌, max, List, [], ◌∷◌, map, None, sym, ap, subst, ◌∙◌, arith}
use Rattle.sexp_reader.specs.Text.{Text, Open, Close, Atom}
use Rattle.dump_grammar.specs.Keywords.{spelling}
use Rattle.dump_grammar.specs.declared.keyword.Keyword.TheVariants as words
use Rattle.dump_grammar.specs.Numbers.{word}
use Rattle.std.proofs.Common.{cond}
use Rattle.std.specs.Cmp.Lexicographic.{nat_list_eq_equiv}
use Rattle.dump_grammar.specs.Numbering.{place_of, without, firsts, level_table}
use Rattle.dump_grammar.specs.Uses.{level_uses}
use Rattle.dump_grammar.specs.Terms.{Form, NoForm}
use Rattle.dump_grammar.specs.Declarations.{Binding, CtorForm, FamilyForm, BodyForm, NoneForm, SomeForm, DeclForm, ConstantForm, BlockForm, bindings, constructors, family, families, body, declaration}
use Rattle.dump_grammar.specs.Environments.{ConstraintForm, Dump, constraints, declarations, dump, env_of}
use Rattle.std.proofs.Common.{length}
use Rattle.sexp_reader.specs.Lex.{tokens_of}
use Rattle.dump_grammar.specs.Within.{dump_over, DumpIsWithin}
use Rattle.dump_grammar.proofs.Within.{limited}
use Rattle.dump_printer.specs.Spelled.{NestsNoDeeper}
use Rattle.dump_reader.specs.declared.environment.RawEnv.{RawEnv}
use Rattle.dump_reader.specs.NumberedEnvironment.{numbered}
use Rattle.dump_printer.specs.Canonical.{canonical_tokens}
use Rattle.dump_printer.proofs.Printed.{canonical_dump, canonical-tokens}
use Rattle.dump_printer.specs.Nesting.{deepest, nesting}
use Rattle.dump_printer.specs.Casts.{BindingsHaveNoCast, CtorsHaveNoCast, FamilyHasNoCast, FamiliesHaveNoCast, BodyHasNoCast, DeclHasNoCast, DeclsHaveNoCast, HasNoCast, TextHasNoCast}
use Rattle.dump_printer.proofs.CanonicalForms.{canon}
use Rattle.dump_printer.proofs.CanonicalEnvironments.{canon_binding, canon_ctor, canon_family, canon_body, canon_decl, canon_dump}
use Rattle.dump_printer.proofs.Heights.{sort_height, height, heights, open-deep, close-deep, atom-deep, atoms-deep, sort-deep, form-deep, forms-deep, deepest-le, max-mono, sort-height, lower, lower-forms, forms-none}

abbrev bindings_height : List Binding → ℕ
bindings_height [] = 0
bindings_height (b ∷ bs) = max (2 + height b.type) (bindings_height bs)

abbrev ctors_height : List CtorForm → ℕ
ctors_height [] = 0
ctors_height (c ∷ cs) = max (max (2 + bindings_height c.args) (2 + heights c.result)) (ctors_height cs)

abbrev family_height : FamilyForm → ℕ
family_height f = max (1 + sort_height f.sort) (max (1 + bindings_height f.indices) (ctors_height f.ctors))

abbrev families_height : List FamilyForm → ℕ
families_height [] = 0
families_height (f ∷ fs) = max (1 + family_height f) (families_height fs)

abbrev body_height : BodyForm → ℕ
body_height NoneForm = 0
body_height (SomeForm f) = 1 + height f

abbrev decl_height : DeclForm → ℕ
decl_height (ConstantForm k A b) = max (1 + height A) (body_height b)
decl_height (BlockForm k ps f more) = max (1 + bindings_height ps) (max (1 + family_height f) (families_height more))

bindings-deep : (bs : List Binding) (n : ℕ) (Y : List Text) → deepest n (bindings bs Y) ≡ max (n + bindings_height bs) (deepest n Y)
unfolding bindings
bindings-deep [] n Y = omega (arith, deepest-le n Y)
bindings-deep (b ∷ bs) n Y = simp (open-deep, atom-deep, close-deep, form-deep, bindings-deep bs) (omega arith)

ctors-deep : (cs : List CtorForm) (n : ℕ) (Y : List Text) → deepest n (constructors cs Y) ≡ max (n + ctors_height cs) (deepest n Y)
unfolding constructors
ctors-deep [] n Y = omega (arith, deepest-le n Y)
ctors-deep (c ∷ cs) n Y = simp (open-deep, atom-deep, close-deep, bindings-deep, forms-deep, ctors-deep cs) (omega arith)

family-deep : (f : FamilyForm) (n : ℕ) (Y : List Text) → deepest (n + 1) (family f Y) ≡ max (n + 1 + family_height f) (deepest n Y)
family-deep f n Y = simp (open-deep, atom-deep, close-deep, sort-deep, bindings-deep, ctors-deep) (omega arith)

families-deep : (fs : List FamilyForm) (n : ℕ) (Y : List Text) → deepest n (families fs Y) ≡ max (n + families_height fs) (deepest n Y)
unfolding families
families-deep [] n Y = omega (arith, deepest-le n Y)
families-deep (f ∷ fs) n Y =
    let a = open-deep n (family f (families fs Y)) in
    let b = family-deep f n (families fs Y) in
    let c = families-deep fs n Y in
    omega arith

body-deep : (b : BodyForm) (n : ℕ) (Y : List Text) → deepest n (body b Y) ≡ max (n + body_height b) (deepest n Y)
unfolding body
body-deep NoneForm n Y = omega (arith, atom-deep n (spelling words.NoBody) Y, deepest-le n Y)
body-deep (SomeForm f) n Y = simp (open-deep, form-deep) (omega arith)

last-numbers : (n f m D : ℕ) → max (n + 1 + 1 + f) (max (n + 1 + m) (max (n + 1) D)) ≡ max (n + 1 + max (1 + f) m) D
last-numbers n f m D = omega arith

front-numbers : (n p q D : ℕ) → max (n + 1 + 1 + p) (max (n + 1 + 1) (max (n + 1 + q) D)) ≡ max (n + 1 + max (1 + p) q) D
front-numbers n p q D = omega arith

block-numbers : (n p f m D : ℕ) → max (n + 1 + 1 + p) (max (n + 1 + 1) (max (n + 1 + 1 + f) (max (n + 1 + m) (max (n + 1) D)))) ≡ max (n + 1 + max (1 + p) (max (1 + f) m)) D
block-numbers n p f m D = ap (λ x. max (n + 1 + 1 + p) (max (n + 1 + 1) x)) (last-numbers n f m D) ∙ front-numbers n p (max (1 + f) m) D

declaration-deep : (x : DeclForm) (n : ℕ) (Y : List Text) → deepest (n + 1) (declaration x Y) ≡ max (n + 1 + decl_height x) (deepest n Y)
unfolding declaration
declaration-deep (ConstantForm k A b) n Y = simp (open-deep, atom-deep, close-deep, form-deep, body-deep) (omega arith)
declaration-deep (BlockForm k ps f more) n Y =
    let F = families more (Close ∷ Y) in
    let p = bindings_height ps in
    let fh = family_height f in
    let m = families_height more in
    atom-deep (n + 1) (spelling words.InductiveDecl) (Atom k ∷ Open ∷ word words.Params ∷ bindings ps (Close ∷ Open ∷ family f F))
    ∙ atom-deep (n + 1) k (Open ∷ word words.Params ∷ bindings ps (Close ∷ Open ∷ family f F))
    ∙ open-deep (n + 1) (word words.Params ∷ bindings ps (Close ∷ Open ∷ family f F))
    ∙ atom-deep (n + 1 + 1) (spelling words.Params) (bindings ps (Close ∷ Open ∷ family f F))
    ∙ bindings-deep ps (n + 1 + 1) (Close ∷ Open ∷ family f F)
    ∙ ap (max (n + 1 + 1 + p))
    (close-deep (n + 1) (Open ∷ family f F)
    ∙ ap (max (n + 1 + 1)) (open-deep (n + 1) (family f F) ∙ family-deep f (n + 1) F ∙ ap (max (n + 1 + 1 + fh)) (families-deep more (n + 1) (Close ∷ Y) ∙ ap (max (n + 1 + m)) (close-deep n Y))))
    ∙ block-numbers n p fh m (deepest n Y)

-- ---- canonical declarations are no higher

module _ (ls : List (List ℕ)) (set : place_of (spelling words.Set) ls ≡ 0) where
  lower-bindings : (bs : List Binding) → BindingsHaveNoCast bs → bindings_height (map (canon_binding ls) bs) ≤ bindings_height bs
  lower-bindings [] h = omega arith
  lower-bindings (b ∷ bs) h = (let a = (lower ls set b.type h.0).0 in max-mono _ _ _ _ (omega arith) (lower-bindings bs h.1))

  lower-ctors : (cs : List CtorForm) → CtorsHaveNoCast cs → ctors_height (map (canon_ctor ls) cs) ≤ ctors_height cs
  lower-ctors [] h = omega arith
  lower-ctors (c ∷ cs) h =
      let a = lower-bindings c.args h.0 in
      let b = lower-forms ls set c.result h.1 NoForm in
      let none : heights NoForm ≡ 0 = forms-none in
      max-mono _ _ _ _ (max-mono _ _ _ _ (omega arith) (omega arith)) (lower-ctors cs h.2)

  lower-family : (f : FamilyForm) → FamilyHasNoCast f → family_height (canon_family ls f) ≤ family_height f
  lower-family f h =
      let a = sort-height ls f.sort set in
      let b = lower-bindings f.indices h.0 in
      max-mono _ _ _ _ (omega arith) (max-mono _ _ _ _ (omega arith) (lower-ctors f.ctors h.1))

  lower-families : (fs : List FamilyForm) → FamiliesHaveNoCast fs → families_height (map (canon_family ls) fs) ≤ families_height fs
  lower-families [] h = omega arith
  lower-families (f ∷ fs) h = (let a = lower-family f h.0 in max-mono _ _ _ _ (omega arith) (lower-families fs h.1))

  lower-body : (b : BodyForm) → BodyHasNoCast b → body_height (canon_body ls b) ≤ body_height b
  lower-body NoneForm h = omega arith
  lower-body (SomeForm f) h = (let a = (lower ls set f h).0 in omega arith)

  lower-decl : (x : DeclForm) → DeclHasNoCast x → decl_height (canon_decl ls x) ≤ decl_height x
  lower-decl (ConstantForm k A b) h = (let a = (lower ls set A h.0).0 in max-mono _ _ _ _ (omega arith) (lower-body b h.1))
  lower-decl (BlockForm k ps f more) h =
      let a = lower-bindings ps h.0 in
      let b = lower-family f h.1 in
      max-mono _ _ _ _ (omega arith) (max-mono _ _ _ _ (omega arith) (lower-families more h.2))

  lower-declarations : (xs : List DeclForm) (t : Form) → DeclsHaveNoCast xs → HasNoCast t → (n : ℕ) (Y : List Text) →
      deepest (n + 1) (declarations (map (canon_decl ls) xs) (canon ls t NoForm) Y) ≤ deepest (n + 1) (declarations xs t Y)
  unfolding declarations
  lower-declarations [] t h k n Y =
      let a = (lower ls set t k).0 in
      simp (open-deep, atom-deep, close-deep, form-deep) (max-mono _ _ _ _ (omega arith) (omega arith))
  lower-declarations (x ∷ xs) t h k n Y =
      let a = declaration-deep x n (Open ∷ declarations xs t Y) in
      let b = declaration-deep (canon_decl ls x) n (Open ∷ declarations (map (canon_decl ls) xs) (canon ls t NoForm) Y) in
      let c = open-deep n (declarations xs t Y) in
      let d = open-deep n (declarations (map (canon_decl ls) xs) (canon ls t NoForm) Y) in
      let e = lower-decl x h.0 in
      let f = lower-declarations xs t h.1 k n Y in
      omega arith

-- the same tokens before others
constraints-mono : (cs : List ConstraintForm) (n : ℕ) (X Y : List Text) → deepest n X ≤ deepest n Y → deepest n (constraints cs X) ≤ deepest n (constraints cs Y)
unfolding constraints
constraints-mono [] n X Y h = h
constraints-mono (c ∷ cs) n X Y h = simp (open-deep, atom-deep, close-deep) (max-mono _ _ _ _ (omega arith) (constraints-mono cs n X Y h))

close-mono : (n : ℕ) (X Y : List Text) → deepest n X ≤ deepest n Y → deepest (n + 1) (Close ∷ X) ≤ deepest (n + 1) (Close ∷ Y)
close-mono n X Y h = simp close-deep (max-mono _ _ _ _ (omega arith) h)

pub dump-nests : (ls : List (List ℕ)) → place_of (spelling words.Set) ls ≡ 0 → (d : Dump) → TextHasNoCast d → nesting (dump (canon_dump ls d) []) ≤ nesting (dump d [])
dump-nests ls set d h =
    let X = declarations (map (canon_decl ls) d.decls) (canon ls d.main NoForm) (Close ∷ []) in
    let Y = declarations d.decls d.main (Close ∷ []) in
    let last = lower-declarations ls set d.decls d.main h.0 h.1 1 (Close ∷ []) in
    let brackets : deepest 1 (Open ∷ X) ≤ deepest 1 (Open ∷ Y) = simp open-deep last in
    let lists = constraints-mono d.constraints 2 (Close ∷ Open ∷ X) (Close ∷ Open ∷ Y) (close-mono 1 (Open ∷ X) (Open ∷ Y) brackets) in
    let front : deepest 1 (Open ∷ word words.Constraints ∷ constraints d.constraints (Close ∷ Open ∷ X)) ≤ deepest 1 (Open ∷ word words.Constraints ∷ constraints d.constraints (Close ∷ Open ∷ Y)) =
    simp (open-deep, atom-deep) lists in
    simp (open-deep, atom-deep, atoms-deep)
    (close-mono 1 (Open ∷ word words.Constraints ∷ constraints d.constraints (Close ∷ Open ∷ X)) (Open ∷ word words.Constraints ∷ constraints d.constraints (Close ∷ Open ∷ Y)) front)

set-place : (us : List (List ℕ)) → place_of (spelling words.Set) (firsts (spelling words.Set ∷ us)) ≡ 0
unfolding firsts place_of
set-place us = ap (λ b. cond b 0 (suc (place_of (spelling words.Set) (without (spelling words.Set) (firsts us))))) (nat_list_eq_equiv.refl (spelling words.Set))

-- The canonical text of what a text without a cast spells nests no deeper than that text.
pub text-nests : (e : RawEnv) (d : Dump) → dump_over d ≡ None → TextHasNoCast d → e ≡ numbered (env_of d) → nesting (canonical_tokens e) ≤ nesting (dump d [])
text-nests e d o h same =
    let tokens : canonical_tokens e ≡ dump (canonical_dump d o) [] = ap canonical_tokens same ∙ canonical-tokens d o in
    subst (λ ts. nesting ts ≤ nesting (dump d [])) (sym tokens) (dump-nests (level_table (env_of d)) (set-place (level_uses (env_of d))) d h)

pub nests-no-deeper : (e : RawEnv) → NestsNoDeeper e
nests-no-deeper e bytes d fine tokens h same =
    let within : DumpIsWithin d = limited.only (length bytes) (tokens_of bytes) d tokens fine in
    subst (λ ts. nesting (canonical_tokens e) ≤ nesting ts) (sym tokens) (text-nests e d within.1 h same)
