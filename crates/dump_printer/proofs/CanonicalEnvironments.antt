-- The canonical form of a whole text: its tokens and what it means.
use Rattle.std.proofs.Common.{◌≡◌, ℕ, List, [], ◌∷◌, map, false, refl, ap, ◌∙◌}
use Rattle.std.specs.Option.{option_map}
use Rattle.sexp_reader.specs.Text.{Text, Open, Close, Atom}
use Rattle.dump_grammar.specs.Keywords.{spelling}
use Rattle.dump_grammar.specs.declared.keyword.Keyword.TheVariants as words
use Rattle.dump_grammar.specs.Numbers.{word, LevelName}
use Rattle.dump_grammar.specs.Numbering.{place_of}
use Rattle.dump_grammar.specs.Named.{NamedComparison, Less, AtMost, Equal}
use Rattle.dump_grammar.specs.Sorts.{sort_meaning}
use Rattle.dump_grammar.specs.Terms.{Form, Forms, NoForm, OneForm, form, forms, meaning, meanings, atoms}
use Rattle.dump_grammar.specs.Declarations.{Binding, CtorForm, FamilyForm, BodyForm, NoneForm, SomeForm, DeclForm, ConstantForm, BlockForm, bindings, constructors, families, body, declaration, binding_meaning, constructor_meaning, family_meaning, body_meaning, declaration_meaning}
use Rattle.dump_grammar.specs.Declarations as d
use Rattle.dump_grammar.specs.Environments.{ConstraintForm, Dump, level_names, word_of_comparison, constraints, declarations, dump, env_of, constraint_meaning}
use Rattle.dump_reader.specs.Numbered.{numbered_sort, numbered_term, level_number}
use Rattle.dump_reader.specs.NumberedEnvironment.{numbered_constraint, numbered_ctor, numbered_family, numbered_decl, numbered_by, relation_of}
use Rattle.dump_printer.specs.CanonicalTerms.{text_of, each, term}
use Rattle.dump_printer.specs.Canonical as c
use Rattle.dump_printer.proofs.Fits.{Fits}
use Rattle.dump_printer.proofs.FitEnvironments.{FitEach, FitCtors, FitsFamily, FitFamilies, FitsOption, FitsDecl, FitDecls, FitConstraints, FitLevels, FitsEnv}
use Rattle.dump_printer.proofs.CanonicalForms.{text-back, blank, sort_form, canon, canon_forms}
use Rattle.dump_printer.proofs.CanonicalTokens.{tokens, sort-tokens, small-sort}
use Rattle.dump_printer.proofs.Normal.{normal, sort-meaning, canon-meaning}
use Rattle.dump_printer.proofs.NormalEnvironments.{normal_ctor, normal_family, normal_decl, normal_env}

relation-word : (k : NamedComparison) → c.word_of (relation_of k) ≡ word_of_comparison k
relation-word Less = refl
relation-word AtMost = refl
relation-word Equal = refl

module _ (ls : List (List ℕ)) where
  abbrev pub canon_binding : Binding → Binding
  canon_binding b = record { name = blank; type = canon ls b.type NoForm }

  abbrev pub canon_ctor : CtorForm → CtorForm
  canon_ctor k = record { name = k.name; args = map canon_binding k.args; result = canon_forms ls k.result NoForm }

  abbrev pub canon_family : FamilyForm → FamilyForm
  canon_family f = record { name = f.name; sort = sort_form ls (numbered_sort ls (sort_meaning f.sort)); indices = map canon_binding f.indices; ctors = map canon_ctor f.ctors }

  abbrev pub canon_body : BodyForm → BodyForm
  canon_body NoneForm = NoneForm
  canon_body (SomeForm f) = SomeForm (canon ls f NoForm)

  abbrev pub canon_decl : DeclForm → DeclForm
  canon_decl (ConstantForm k A b) = ConstantForm k (canon ls A NoForm) (canon_body b)
  canon_decl (BlockForm k ps f more) = BlockForm k (map canon_binding ps) (canon_family f) (map canon_family more)

  abbrev pub canon_dump : Dump → Dump
  canon_dump d = record { levels = d.levels; constraints = d.constraints; decls = map canon_decl d.decls; main = canon ls d.main NoForm }

  module _ (ns : List (List ℕ)) where
    -- ---- tokens

    bindings-tokens : (bs : List Binding) → FitEach ns ls (map binding_meaning bs) → (after : List Text) →
        each (c.binding ns ls) (map (numbered_term ns ls) (map binding_meaning bs)) after ≡ bindings (map canon_binding bs) after
    unfolding each bindings
    bindings-tokens [] h after = refl
    bindings-tokens (b ∷ bs) h after = simp ((tokens ns ls b.type h.0).0, bindings-tokens bs h.1)

    results-tokens : (fs : Forms) → FitEach ns ls (meanings fs) → (after : List Text) → each (term false ns ls) (map (numbered_term ns ls) (meanings fs)) after ≡ forms (canon_forms ls fs NoForm) after
    unfolding each meaning canon form
    results-tokens NoForm h after = refl
    results-tokens (OneForm f more) h after = simp ((tokens ns ls f h.0).0, results-tokens more h.1)

    constructors-tokens : (ks : List CtorForm) → FitCtors ns ls (map constructor_meaning ks) → (after : List Text) →
        each (c.constructor ns ls) (map (numbered_ctor ns ls) (map constructor_meaning ks)) after ≡ constructors (map canon_ctor ks) after
    unfolding each constructors
    constructors-tokens [] h after = refl
    constructors-tokens (k ∷ ks) h after = simp (text-back k.name ns h.0.0, bindings-tokens k.args h.0.1, results-tokens k.result h.0.2, constructors-tokens ks h.1)

    family-tokens : (f : FamilyForm) → FitsFamily ns ls (family_meaning f) → (after : List Text) → c.family ns ls (numbered_family ns ls (family_meaning f)) after ≡ Open ∷ d.family (canon_family f) after
    family-tokens f h after =
        simp (text-back f.name ns h.0, (λ (rest : List Text). sort-tokens ns ls (numbered_sort ls (sort_meaning f.sort)) rest (small-sort ns ls f.sort h.1)), bindings-tokens f.indices h.2, constructors-tokens f.ctors h.3)

    families-tokens : (fs : List FamilyForm) → FitFamilies ns ls (map family_meaning fs) → (after : List Text) →
        each (c.family ns ls) (map (numbered_family ns ls) (map family_meaning fs)) after ≡ families (map canon_family fs) after
    unfolding each families
    families-tokens [] h after = refl
    families-tokens (f ∷ fs) h after =
        ap (c.family ns ls (numbered_family ns ls (family_meaning f))) (families-tokens fs h.1 after) ∙ family-tokens f h.0 (families (map canon_family fs) after)

    body-tokens : (b : BodyForm) → FitsOption ns ls (body_meaning b) → (after : List Text) → c.body ns ls (option_map (numbered_term ns ls) (body_meaning b)) after ≡ body (canon_body b) after
    unfolding body
    body-tokens NoneForm h after = refl
    body-tokens (SomeForm f) h after = (tokens ns ls f h).0 after

    declaration-tokens : (x : DeclForm) → FitsDecl ns ls (declaration_meaning x) → (after : List Text) → c.declaration ns ls (numbered_decl ns ls (declaration_meaning x)) after ≡ Open ∷ declaration (canon_decl x) after
    unfolding declaration declaration_meaning each families
    declaration-tokens (ConstantForm k A b) h after = simp (text-back k ns h.0, (tokens ns ls A h.1).0, body-tokens b h.2)
    declaration-tokens (BlockForm k ps f more) h after =
        simp (text-back k ns h.0, bindings-tokens ps h.1)
        (ap (λ (ts : List Text). Open ∷ word words.InductiveDecl ∷ Atom k ∷ Open ∷ word words.Params ∷ bindings (map canon_binding ps) (Close ∷ c.family ns ls (numbered_family ns ls (family_meaning f)) ts)) (families-tokens more h.2.1 (Close ∷ after))
        ∙ ap (λ (ts : List Text). Open ∷ word words.InductiveDecl ∷ Atom k ∷ Open ∷ word words.Params ∷ bindings (map canon_binding ps) (Close ∷ ts)) (family-tokens f h.2.0 (families (map canon_family more) (Close ∷ after))))

    declarations-tokens : (xs : List DeclForm) (t : Form) → FitDecls ns ls (map declaration_meaning xs) → Fits ns ls (meaning t) → (after : List Text) →
        each (c.declaration ns ls) (map (numbered_decl ns ls) (map declaration_meaning xs)) (Open ∷ word words.Main ∷ term false ns ls (numbered_term ns ls (meaning t)) (Close ∷ after))
        ≡ Open ∷ declarations (map canon_decl xs) (canon ls t NoForm) after
    unfolding each declarations
    declarations-tokens [] t h k after = ap (λ (ts : List Text). Open ∷ word words.Main ∷ ts) ((tokens ns ls t k).0 (Close ∷ after))
    declarations-tokens (x ∷ xs) t h k after =
        ap (c.declaration ns ls (numbered_decl ns ls (declaration_meaning x))) (declarations-tokens xs t h.1 k after) ∙ declaration-tokens x h.0 (Open ∷ declarations (map canon_decl xs) (canon ls t NoForm) after)

    levels-tokens : (ks : List LevelName) → FitLevels ns ls (level_names ks) → (after : List Text) → each (c.level ls) (map (level_number ls) (level_names ks)) after ≡ atoms (level_names ks) after
    unfolding each atoms
    levels-tokens [] h after = refl
    levels-tokens (l ∷ ks) h after = simp (text-back l.name ls h.0, levels-tokens ks h.1)

    constraints-tokens : (ks : List ConstraintForm) → FitConstraints ns ls (map constraint_meaning ks) → (after : List Text) →
        each (c.constraint ls) (map (numbered_constraint ls) (map constraint_meaning ks)) after ≡ constraints ks after
    unfolding each constraints
    constraints-tokens [] h after = refl
    constraints-tokens (k ∷ ks) h after =
        let first : c.constraint ls (numbered_constraint ls (constraint_meaning k)) (constraints ks after) ≡ Open ∷ word (word_of_comparison k.relation) ∷ Atom k.left ∷ Atom k.right ∷ Close ∷ constraints ks after =
        ap (λ w. Open ∷ word w ∷ Atom (text_of ls (place_of k.left ls)) ∷ Atom (text_of ls (place_of k.right ls)) ∷ Close ∷ constraints ks after) (relation-word k.relation) ∙ simp (text-back k.left ls h.0, text-back k.right ls h.1)
        in
        ap (c.constraint ls (numbered_constraint ls (constraint_meaning k))) (constraints-tokens ks h.2 after) ∙ first

    pub dump-tokens : (x : Dump) → FitsEnv ns ls (env_of x) → (after : List Text) → c.environment (numbered_by ns ls (env_of x)) after ≡ dump (canon_dump x) after
    dump-tokens x h after =
        simp (levels-tokens x.levels h.levels, constraints-tokens x.constraints h.constraints, declarations-tokens x.decls x.main h.decls h.main)

    -- ---- meaning

    module _ (set : text_of ls 0 ≡ spelling words.Set) where
      bindings-meaning : (bs : List Binding) → FitEach ns ls (map binding_meaning bs) → map binding_meaning (map canon_binding bs) ≡ map (normal ls) (map binding_meaning bs)
      unfolding meaning
      bindings-meaning [] h = refl
      bindings-meaning (b ∷ bs) h = simp (canon-meaning ls ns set b.type h.0, bindings-meaning bs h.1)

      results-meaning : (fs : Forms) → FitEach ns ls (meanings fs) → meanings (canon_forms ls fs NoForm) ≡ map (normal ls) (meanings fs)
      unfolding meaning canon
      results-meaning NoForm h = refl
      results-meaning (OneForm f more) h = simp (canon-meaning ls ns set f h.0, results-meaning more h.1)

      constructors-meaning : (ks : List CtorForm) → FitCtors ns ls (map constructor_meaning ks) → map constructor_meaning (map canon_ctor ks) ≡ map (normal_ctor ls) (map constructor_meaning ks)
      constructors-meaning [] h = refl
      constructors-meaning (k ∷ ks) h = simp (bindings-meaning k.args h.0.1, results-meaning k.result h.0.2, constructors-meaning ks h.1)

      family-meaning : (f : FamilyForm) → FitsFamily ns ls (family_meaning f) → family_meaning (canon_family f) ≡ normal_family ls (family_meaning f)
      family-meaning f h = simp (sort-meaning ls (numbered_sort ls (sort_meaning f.sort)) set (small-sort ns ls f.sort h.1), bindings-meaning f.indices h.2, constructors-meaning f.ctors h.3)

      families-meaning : (fs : List FamilyForm) → FitFamilies ns ls (map family_meaning fs) → map family_meaning (map canon_family fs) ≡ map (normal_family ls) (map family_meaning fs)
      families-meaning [] h = refl
      families-meaning (f ∷ fs) h = simp (family-meaning f h.0, families-meaning fs h.1)

      body-meaning : (b : BodyForm) → FitsOption ns ls (body_meaning b) → body_meaning (canon_body b) ≡ option_map (normal ls) (body_meaning b)
      unfolding meaning
      body-meaning NoneForm h = refl
      body-meaning (SomeForm f) h = simp (canon-meaning ls ns set f h)

      declarations-meaning : (xs : List DeclForm) → FitDecls ns ls (map declaration_meaning xs) → map declaration_meaning (map canon_decl xs) ≡ map (normal_decl ls) (map declaration_meaning xs)
      unfolding declaration_meaning meaning
      declarations-meaning [] h = refl
      declarations-meaning (ConstantForm k A b ∷ xs) h = simp (canon-meaning ls ns set A h.0.1, body-meaning b h.0.2, declarations-meaning xs h.1)
      declarations-meaning (BlockForm k ps f more ∷ xs) h = simp (bindings-meaning ps h.0.1, family-meaning f h.0.2.0, families-meaning more h.0.2.1, declarations-meaning xs h.1)

      pub dump-meaning : (x : Dump) → FitsEnv ns ls (env_of x) → env_of (canon_dump x) ≡ normal_env ls (env_of x)
      unfolding meaning
      dump-meaning x h = simp (declarations-meaning x.decls h.decls, canon-meaning ls ns set x.main h.main)
