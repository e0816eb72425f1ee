-- Environments with each universe in normal form: their names and numbers.
use Rattle.std.proofs.Common.{◌≡◌, ℕ, List, [], ◌∷◌, ◌++◌, map, length, Some, None, refl, sym, ap, ◌∙◌}
use Rattle.std.specs.Option.{option_map}
use Rattle.dump_grammar.specs.Keywords.{spelling}
use Rattle.dump_grammar.specs.declared.keyword.Keyword.TheVariants as words
use Rattle.dump_grammar.specs.Numbering.{place_of, firsts, name_table, level_table}
use Rattle.dump_grammar.specs.Named.{NamedSort, AProp, AType, Named, Rel, Sort, Prod, Lambda, LetIn, App, Const, Ind, Construct, Case, Fix, NamedTerms, NoTerm, OneTerm, NamedBranches, NoBranch, OneBranch, NamedDefs, NoDef, OneDef, NamedConstraint, NamedCtor, NamedFamily, NamedDecl, Constant, Block, NamedEnv}
use Rattle.dump_grammar.specs.Uses.{names, names_of_ctor, names_of_family, names_of_decl, levels, levels_of_terms, levels_of_branches, levels_of_defs, level_of_part, levels_of_sort, levels_of_ctor, levels_of_family, levels_of_decl, levels_of_constraint, one_use, each, level_uses}
use Rattle.universe_levels.specs.declared.level.LevelExpr.{LevelExpr}
use Rattle.universe_levels.specs.Maximum.{maximum_of}
use Rattle.dump_reader.specs.Numbered.{level_part, numbered_sort, numbered_term}
use Rattle.dump_reader.specs.NumberedEnvironment.{numbered_ctor, numbered_family, numbered_decl, numbered_by}
use Rattle.dump_printer.proofs.Fits.{Fits, FitsSort, FitTerms, FitBranches, FitDefs}
use Rattle.dump_printer.proofs.FitEnvironments.{FitEach, FitCtors, FitFamilies, FitDecls, FitsEnv}
use Rattle.dump_printer.proofs.Normal.{named_part, named_sort, normal, normal_terms, normal_branches, normal_defs}
use Rattle.dump_printer.proofs.Renumbered.{IsTable, Below, below-maximum, sort-back, term-back, names-normal}
use Rattle.dump_printer.proofs.LevelTables.{go, go-split, counts, counts-append, counts-maximum, numbers_of, places, table-counts, counts-table}

module _ (ls : List (List ℕ)) where
  abbrev pub normal_ctor : NamedCtor → NamedCtor
  normal_ctor c = record { name = c.name; args = map (normal ls) c.args; result = map (normal ls) c.result }

  abbrev pub normal_family : NamedFamily → NamedFamily
  normal_family f = record { name = f.name; sort = named_sort ls (numbered_sort ls f.sort); indices = map (normal ls) f.indices; ctors = map normal_ctor f.ctors }

  abbrev pub normal_decl : NamedDecl → NamedDecl
  normal_decl (Constant k A b) = Constant k (normal ls A) (option_map (normal ls) b)
  normal_decl (Block k ps fs) = Block k (map (normal ls) ps) (map normal_family fs)

  abbrev pub normal_env : NamedEnv → NamedEnv
  normal_env env = record { levels = env.levels; constraints = env.constraints; decls = map normal_decl env.decls; main = normal ls env.main }

  -- ---- names

  names-each : (ts : List Named) (after : List (List ℕ)) → each names (map (normal ls) ts) after ≡ each names ts after
  unfolding each
  names-each [] after = refl
  names-each (t ∷ ts) after = simp (names-normal ls, names-each ts)

  names-ctors : (cs : List NamedCtor) (after : List (List ℕ)) → each names_of_ctor (map normal_ctor cs) after ≡ each names_of_ctor cs after
  unfolding each
  names-ctors [] after = refl
  names-ctors (c ∷ cs) after = simp (names-each, names-ctors cs)

  names-families : (fs : List NamedFamily) (after : List (List ℕ)) → each names_of_family (map normal_family fs) after ≡ each names_of_family fs after
  unfolding each
  names-families [] after = refl
  names-families (f ∷ fs) after = simp (names-each, names-ctors, names-families fs)

  names-decls : (ds : List NamedDecl) (after : List (List ℕ)) → each names_of_decl (map normal_decl ds) after ≡ each names_of_decl ds after
  unfolding each names_of_decl
  names-decls [] after = refl
  names-decls (Constant k A None ∷ ds) after = simp (names-normal ls, names-decls ds)
  names-decls (Constant k A (Some b) ∷ ds) after = simp (names-normal ls, names-decls ds)
  names-decls (Block k ps fs ∷ ds) after = simp (names-each, names-families, names-decls ds)

  pub same-names : (env : NamedEnv) → name_table (normal_env env) ≡ name_table env
  same-names env = ap firsts (names-decls env.decls (names (normal ls env.main) []) ∙ ap (each names_of_decl env.decls) (names-normal ls env.main []))

  -- ---- numbers by the same tables

  module _ (ns : List (List ℕ)) (table : IsTable ls) where
    each-back : (ts : List Named) → FitEach ns ls ts → map (numbered_term ns ls) (map (normal ls) ts) ≡ map (numbered_term ns ls) ts
    each-back [] h = refl
    each-back (t ∷ ts) h = simp (term-back ns ls table t h.0, each-back ts h.1)

    ctors-back : (cs : List NamedCtor) → FitCtors ns ls cs → map (numbered_ctor ns ls) (map normal_ctor cs) ≡ map (numbered_ctor ns ls) cs
    ctors-back [] h = refl
    ctors-back (c ∷ cs) h = simp (each-back c.args h.0.1, each-back c.result h.0.2, ctors-back cs h.1)

    families-back : (fs : List NamedFamily) → FitFamilies ns ls fs → map (numbered_family ns ls) (map normal_family fs) ≡ map (numbered_family ns ls) fs
    families-back [] h = refl
    families-back (f ∷ fs) h = simp (sort-back ns ls table f.sort h.0.1, each-back f.indices h.0.2, ctors-back f.ctors h.0.3, families-back fs h.1)

    decls-back : (ds : List NamedDecl) → FitDecls ns ls ds → map (numbered_decl ns ls) (map normal_decl ds) ≡ map (numbered_decl ns ls) ds
    decls-back [] h = refl
    decls-back (Constant k A None ∷ ds) h = simp (term-back ns ls table A h.0.1, decls-back ds h.1)
    decls-back (Constant k A (Some b) ∷ ds) h = simp (term-back ns ls table A h.0.1, term-back ns ls table b h.0.2, decls-back ds h.1)
    decls-back (Block k ps fs ∷ ds) h = simp (each-back ps h.0.1, families-back fs h.0.2, decls-back ds h.1)

    pub env-back : (env : NamedEnv) → FitsEnv ns ls env → numbered_by ns ls (normal_env env) ≡ numbered_by ns ls env
    env-back env h = simp (decls-back env.decls h.decls, term-back ns ls table env.main h.main)

    -- ---- levels in the same first-use order

    abbrev Same : (f g : List (List ℕ) → List (List ℕ)) → Type 0
    Same f g = (c m : ℕ) (X Y : List (List ℕ)) → ((d : ℕ) → counts d (places ls X) ≡ Some m → counts d (places ls Y) ≡ Some m) → counts c (places ls (f X)) ≡ Some m → counts c (places ls (g Y)) ≡ Some m

    itself : Same (λ after. after) (λ after. after)
    itself c m X Y H e = H c e

    one-same : (a : List ℕ) → Same (λ after. a ∷ after) (λ after. a ∷ after)
    one-same a c m X Y H e =
        let x = go-split (counts c (place_of a ls ∷ [])) (λ d. counts d (places ls X)) m (sym (counts-append c (place_of a ls ∷ []) (places ls X)) ∙ e) in
        counts-append c (place_of a ls ∷ []) (places ls Y) ∙ ap (λ o. go o (λ d. counts d (places ls Y))) x.1 ∙ H x.0 x.2

    parts-places : (ps : List (List ℕ × ℕ)) (X : List (List ℕ)) → places ls (each level_of_part ps X) ≡ numbers_of (map (level_part ls) ps) ++ places ls X
    unfolding each
    parts-places [] X = refl
    parts-places (p ∷ ps) X = ap (λ (ks : List ℕ). place_of p.0 ls ∷ ks) (parts-places ps X)

    named-places : (es : List LevelExpr) (X : List (List ℕ)) → Below (length ls) es → places ls (each level_of_part (map (named_part ls) es) X) ≡ numbers_of es ++ places ls X
    unfolding each
    named-places [] X h = refl
    named-places (e ∷ es) X h =
        ap (λ n. n ∷ places ls (each level_of_part (map (named_part ls) es) X)) (table e.level.0 h.0) ∙ ap (λ (ks : List ℕ). e.level.0 ∷ ks) (named-places es X h.1)

    sort-same : (s : NamedSort) → FitsSort ns ls s → Same (levels_of_sort s) (levels_of_sort (named_sort ls (numbered_sort ls s)))
    sort-same AProp h = itself
    sort-same (AType ps) h = λ c m X Y H e.
        let es = map (level_part ls) ps in
        let x = go-split (counts c (numbers_of es)) (λ d. counts d (places ls X)) m (sym (counts-append c (numbers_of es) (places ls X)) ∙ ap (counts c) (sym (parts-places ps X)) ∙ e) in
        ap (counts c) (named-places (maximum_of es) Y (below-maximum ns ls ps h)) ∙ counts-append c (numbers_of (maximum_of es)) (places ls Y)
        ∙ ap (λ o. go o (λ d. counts d (places ls Y))) (counts-maximum c x.0 es x.1) ∙ H x.0 x.2

    mutual
      unfolding levels normal Fits

      term-same : (t : Named) → Fits ns ls t → Same (levels t) (levels (normal ls t))
      term-same (Rel n) h c m X Y H e = H c e
      term-same (Sort s) h c m X Y H e = sort-same s h c m X Y H e
      term-same (Prod A B) h c m X Y H e = term-same A h.0 c m _ _ (λ d. term-same B h.1 d m X Y H) e
      term-same (Lambda A b) h c m X Y H e = term-same A h.0 c m _ _ (λ d. term-same b h.1 d m X Y H) e
      term-same (LetIn b B t) h c m X Y H e = term-same b h.0 c m _ _ (λ d. term-same B h.1 d m _ _ (λ d. term-same t h.2 d m X Y H)) e
      term-same (App f a) h c m X Y H e = term-same f h.0 c m _ _ (λ d. term-same a h.1 d m X Y H) e
      term-same (Const k) h c m X Y H e = H c e
      term-same (Ind k n) h c m X Y H e = H c e
      term-same (Construct k n i) h c m X Y H e = H c e
      term-same (Case k n ps b ret scrut bs) h c m X Y H e =
          terms-same ps h.2 c m _ _ (λ d. term-same ret h.3 d m _ _ (λ d. term-same scrut h.4 d m _ _ (λ d. branches-same bs h.5 d m X Y H))) e
      term-same (Fix ds i) h c m X Y H e = defs-same ds h.1 c m X Y H e

      terms-same : (ts : NamedTerms) → FitTerms ns ls ts → Same (levels_of_terms ts) (levels_of_terms (normal_terms ls ts))
      terms-same NoTerm h c m X Y H e = H c e
      terms-same (OneTerm t more) h c m X Y H e = term-same t h.0 c m _ _ (λ d. terms-same more h.1 d m X Y H) e

      branches-same : (bs : NamedBranches) → FitBranches ns ls bs → Same (levels_of_branches bs) (levels_of_branches (normal_branches ls bs))
      branches-same NoBranch h c m X Y H e = H c e
      branches-same (OneBranch n b more) h c m X Y H e = term-same b h.0 c m _ _ (λ d. branches-same more h.1 d m X Y H) e

      defs-same : (ds : NamedDefs) → FitDefs ns ls ds → Same (levels_of_defs ds) (levels_of_defs (normal_defs ls ds))
      defs-same NoDef h c m X Y H e = H c e
      defs-same (OneDef A b n more) h c m X Y H e = term-same A h.0 c m _ _ (λ d. term-same b h.1 d m _ _ (λ d. defs-same more h.3 d m X Y H)) e

    each-same : (ts : List Named) → FitEach ns ls ts → Same (each levels ts) (each levels (map (normal ls) ts))
    unfolding each
    each-same [] h c m X Y H e = H c e
    each-same (t ∷ ts) h c m X Y H e = term-same t h.0 c m _ _ (λ d. each-same ts h.1 d m X Y H) e

    ctors-same : (cs : List NamedCtor) → FitCtors ns ls cs → Same (each levels_of_ctor cs) (each levels_of_ctor (map normal_ctor cs))
    unfolding each
    ctors-same [] h c m X Y H e = H c e
    ctors-same (k ∷ cs) h c m X Y H e = each-same k.args h.0.1 c m _ _ (λ d. each-same k.result h.0.2 d m _ _ (λ d. ctors-same cs h.1 d m X Y H)) e

    families-same : (fs : List NamedFamily) → FitFamilies ns ls fs → Same (each levels_of_family fs) (each levels_of_family (map normal_family fs))
    unfolding each
    families-same [] h c m X Y H e = H c e
    families-same (f ∷ fs) h c m X Y H e =
        sort-same f.sort h.0.1 c m _ _ (λ d. each-same f.indices h.0.2 d m _ _ (λ d. ctors-same f.ctors h.0.3 d m _ _ (λ d. families-same fs h.1 d m X Y H))) e

    decls-same : (ds : List NamedDecl) → FitDecls ns ls ds → Same (each levels_of_decl ds) (each levels_of_decl (map normal_decl ds))
    unfolding each levels_of_decl
    decls-same [] h c m X Y H e = H c e
    decls-same (Constant k A None ∷ ds) h c m X Y H e = term-same A h.0.1 c m _ _ (λ d. decls-same ds h.1 d m X Y H) e
    decls-same (Constant k A (Some b) ∷ ds) h c m X Y H e = term-same A h.0.1 c m _ _ (λ d. term-same b h.0.2 d m _ _ (λ d. decls-same ds h.1 d m X Y H)) e
    decls-same (Block k ps fs ∷ ds) h c m X Y H e = each-same ps h.0.1 c m _ _ (λ d. families-same fs h.0.2 d m _ _ (λ d. decls-same ds h.1 d m X Y H)) e

    uses-same : (us : List (List ℕ)) → Same (each one_use us) (each one_use us)
    unfolding each
    uses-same [] c m X Y H e = H c e
    uses-same (a ∷ us) c m X Y H e = one-same a c m _ _ (λ d. uses-same us d m X Y H) e

    constraints-same : (cs : List NamedConstraint) → Same (each levels_of_constraint cs) (each levels_of_constraint cs)
    unfolding each
    constraints-same [] c m X Y H e = H c e
    constraints-same (k ∷ cs) c m X Y H e = one-same k.left c m (k.right ∷ each levels_of_constraint cs X) (k.right ∷ each levels_of_constraint cs Y) (λ d. one-same k.right d m (each levels_of_constraint cs X) (each levels_of_constraint cs Y) (λ d. constraints-same cs d m X Y H)) e

    pub same-counts : (env : NamedEnv) → FitsEnv ns ls env → (m : ℕ) → counts 0 (places ls (spelling words.Set ∷ level_uses env)) ≡ Some m → counts 0 (places ls (spelling words.Set ∷ level_uses (normal_env env))) ≡ Some m
    same-counts env h m e =
        one-same (spelling words.Set) 0 m (level_uses env) (level_uses (normal_env env))
        (λ d. uses-same env.levels d m _ _ (λ d. constraints-same env.constraints d m _ _ (λ d. decls-same env.decls h.decls d m _ _ (λ d. term-same env.main h.main d m [] [] (λ d e. e)))))
        e

-- By its own table of levels an environment in normal form has the same table.
pub same-levels : (ns : List (List ℕ)) (env : NamedEnv) (table : IsTable (level_table env)) → FitsEnv ns (level_table env) env → level_table (normal_env (level_table env) env) ≡ level_table env
same-levels ns env table h =
    let L = level_table env in
    counts-table L (spelling words.Set ∷ level_uses (normal_env L env)) (same-counts L ns table env h (length L) (table-counts (spelling words.Set ∷ level_uses env)))
