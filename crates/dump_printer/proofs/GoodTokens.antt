-- Canonical tokens of what fits good tables are good.
use Rattle.std.proofs.Common.{◌≡◌, ℕ, zero, suc, List, [], ◌∷◌, map, length, Option, Some, None, Bool, true, false, cond, refl, sym, subst}
use Rattle.std.specs.Option.{option_map}
use Rattle.sexp_reader.specs.Text.{Text, Open, Close, Atom}
use Rattle.universe_levels.specs.declared.level.LevelExpr.{LevelExpr}
use Rattle.universe_levels.specs.Maximum.{maximum_of}
use Rattle.dump_grammar.specs.declared.keyword.Keyword.TheVariants as words
use Rattle.dump_grammar.specs.Numbers.{word}
use Rattle.dump_grammar.specs.Numbering.{is_in, place_of}
use Rattle.dump_grammar.specs.Named.{NamedSort, AProp, AType, Named, Rel, Sort, Prod, Lambda, LetIn, App, Const, Ind, Construct, Case, Fix, NamedTerms, NoTerm, OneTerm, NamedBranches, NoBranch, OneBranch, NamedDefs, NoDef, OneDef, NamedConstraint, NamedCtor, NamedFamily, NamedDecl, Constant, Block, NamedEnv}
use Rattle.dump_reader.specs.Numbered.{level_part, level_number, numbered_sort, numbered_term, numbered_terms, numbered_branches, numbered_types, numbered_bodies, recursive_arguments}
use Rattle.dump_reader.specs.NumberedEnvironment.{relation_of, numbered_constraint, numbered_ctor, numbered_family, numbered_decl, numbered_by}
use Rattle.dump_printer.specs.CanonicalTerms.{text_of, numeral, anonymous_names, each, is_set, part, sort, term, terms, branches, pieces, definitions}
use Rattle.dump_printer.specs.Canonical as c
use Rattle.dump_printer.proofs.Fits.{Fits, FitTerms, FitBranches, FitDefs, FitsSort}
use Rattle.dump_printer.proofs.FitEnvironments.{FitEach, FitCtors, FitFamilies, FitsOption, FitDecls, FitConstraints, FitLevels, FitsEnv}
use Rattle.dump_printer.proofs.CanonicalForms.{text-back}
use Rattle.dump_printer.proofs.CanonicalTokens.{SmallParts, small-parts}
use Rattle.dump_printer.proofs.Renumbered.{Below, below-maximum, text-in}
use Rattle.dump_printer.proofs.Good.{is_good, IsGood, AreGood, word-good, decimal-good}
use Rattle.dump_printer.proofs.GoodTexts.{AllGood}

blanks-good : (n : ℕ) (after : List Text) → AreGood after → AreGood (anonymous_names n after)
unfolding anonymous_names
blanks-good zero after g = g
blanks-good (suc n) after g = (refl, blanks-good n after g)

module _ (ns ls : List (List ℕ)) (names_good : AllGood ns) (levels_good : AllGood ls) where
  name-good : (k : List ℕ) → is_in k ns ≡ true → IsGood (Atom (text_of ns (place_of k ns)))
  name-good k h = subst (λ a. is_good a ≡ true) (sym (text-back k ns h)) (names_good k h)

  level-good : (k : List ℕ) → is_in k ls ≡ true → IsGood (Atom (text_of ls (place_of k ls)))
  level-good k h = subst (λ a. is_good a ≡ true) (sym (text-back k ls h)) (levels_good k h)

  parts-good : (es : List LevelExpr) (after : List Text) → Below (length ls) es → SmallParts es → AreGood after → AreGood (each (part ls) es after)
  unfolding each
  parts-good [] after h s g = g
  parts-good (e ∷ es) after h s g = (tt, (levels_good (text_of ls e.level.0) (text-in e.level.0 ls h.0), (decimal-good e.add s.0, (tt, parts-good es after h.1 s.1 g))))

  sort-good : (s : NamedSort) → FitsSort ns ls s → (after : List Text) → AreGood after → AreGood (sort ls (numbered_sort ls s) after)
  sort-good AProp h after g = (word-good words.Prop, g)
  sort-good (AType ps) h after g =
      let u = maximum_of (map (level_part ls) ps) in
      let P : Bool → Type 0 = λ b. AreGood (cond b (word words.Set ∷ after) (Open ∷ word words.Type ∷ each (part ls) u (Close ∷ after))) in
      let on : (b : Bool) → P b = λ b. elim b as P [
        | true ↦ (word-good words.Set, g)
        | false ↦ (tt, (word-good words.Type, parts-good u (Close ∷ after) (below-maximum ns ls ps h) (small-parts ns ls [] ps tt h) (tt, g)))
      ] in
      on (is_set u)

  abbrev tree : Named → List Text → List Text
  tree t after = term false ns ls (numbered_term ns ls t) after

  mutual
    unfolding term numbered_term recursive_arguments Fits

    pub term-good : (r : Bool) (t : Named) → Fits ns ls t → (after : List Text) → AreGood after → AreGood (term r ns ls (numbered_term ns ls t) after)
    term-good true (App f a) h after g = term-good true f h.0 (tree a after) (term-good false a h.1 after g)
    term-good false (App f a) h after g = (tt, (word-good words.App, term-good true f h.0 (tree a (Close ∷ after)) (term-good false a h.1 (Close ∷ after) (tt, g))))
    term-good r (Rel n) h after g = (tt, (word-good words.Rel, (decimal-good n h, (tt, g))))
    term-good r (Sort s) h after g = (tt, (word-good words.TermSort, sort-good s h (Close ∷ after) (tt, g)))
    term-good r (Prod A B) h after g = (tt, (word-good words.Prod, (refl, term-good false A h.0 (tree B (Close ∷ after)) (term-good false B h.1 (Close ∷ after) (tt, g)))))
    term-good r (Lambda A b) h after g = (tt, (word-good words.Lambda, (refl, term-good false A h.0 (tree b (Close ∷ after)) (term-good false b h.1 (Close ∷ after) (tt, g)))))
    term-good r (LetIn b B t) h after g = (tt, (word-good words.LetIn, (refl, term-good false b h.0 (tree B (tree t (Close ∷ after))) (term-good false B h.1 (tree t (Close ∷ after)) (term-good false t h.2 (Close ∷ after) (tt, g))))))
    term-good r (Const k) h after g = (tt, (word-good words.Const, (name-good k h, (tt, g))))
    term-good r (Ind k n) h after g = (tt, (word-good words.Ind, (name-good k h.0, (decimal-good n h.1, (tt, g)))))
    term-good r (Construct k n i) h after g = (tt, (word-good words.Construct, (name-good k h.0, (decimal-good n h.1, (decimal-good i h.2, (tt, g))))))
    term-good r (Case k n ps m ret scrut bs) h after g =
        let last = branches-good bs h.5 (Close ∷ after) (tt, g) in
        let on_scrut = term-good false scrut h.4 (branches ns ls (numbered_branches ns ls bs) (Close ∷ after)) last in
        let on_ret = term-good false ret h.3 (Close ∷ tree scrut (branches ns ls (numbered_branches ns ls bs) (Close ∷ after))) (tt, on_scrut) in
        let predicate = blanks-good m (Close ∷ tree ret (Close ∷ tree scrut (branches ns ls (numbered_branches ns ls bs) (Close ∷ after)))) (tt, on_ret) in (
          tt,
          (
            word-good words.Case,
            (
              tt,
              (
                name-good k h.0,
                (
                  decimal-good n h.1,
                  (
                    tt,
                    (
                      tt,
                      (
                        word-good words.Params,
                        terms-good ps h.2 (Close ∷ Open ∷ word words.Pred ∷ Open ∷ anonymous_names m (Close ∷ tree ret (Close ∷ tree scrut (branches ns ls (numbered_branches ns ls bs) (Close ∷ after))))) (tt, (tt, (word-good words.Pred, (tt, predicate)))),
                      ),
                    ),
                  ),
                ),
              ),
            ),
          ),
        )
    term-good r (Fix ds i) h after g = (tt, (word-good words.Fix, (tt, defs-good ds h.1 (length (recursive_arguments ds)) (Close ∷ numeral i ∷ Close ∷ after) (tt, (decimal-good i h.0, (tt, g))))))

    terms-good : (ts : NamedTerms) → FitTerms ns ls ts → (after : List Text) → AreGood after → AreGood (terms ns ls (numbered_terms ns ls ts) after)
    terms-good NoTerm h after g = g
    terms-good (OneTerm t more) h after g = term-good false t h.0 (terms ns ls (numbered_terms ns ls more) after) (terms-good more h.1 after g)

    branches-good : (bs : NamedBranches) → FitBranches ns ls bs → (after : List Text) → AreGood after → AreGood (branches ns ls (numbered_branches ns ls bs) after)
    branches-good NoBranch h after g = g
    branches-good (OneBranch m b more) h after g =
        let rest = Close ∷ branches ns ls (numbered_branches ns ls more) after in
        (tt, (word-good words.Branch, (tt, blanks-good m (Close ∷ tree b rest) (tt, term-good false b h.0 rest (tt, branches-good more h.1 after g)))))

    defs-good : (ds : NamedDefs) → FitDefs ns ls ds → (k : ℕ) (after : List Text) → AreGood after →
        AreGood (definitions (recursive_arguments ds) (pieces ns ls (numbered_types ns ls ds)) (pieces ns ls (numbered_bodies ns ls k ds)) after)
    defs-good NoDef h k after g = g
    defs-good (OneDef A b n more) h k after g =
        let rest = definitions (recursive_arguments more) (pieces ns ls (numbered_types ns ls more)) (pieces ns ls (numbered_bodies ns ls k more)) after in
        (tt, (word-good words.Def, (refl, term-good false A h.0 (tree b (numeral n ∷ Close ∷ rest)) (term-good false b h.1 (numeral n ∷ Close ∷ rest) (decimal-good n h.2, (tt, defs-good more h.3 k after g))))))

  -- ---- environments

  bindings-good : (ts : List Named) → FitEach ns ls ts → (after : List Text) → AreGood after → AreGood (each (c.binding ns ls) (map (numbered_term ns ls) ts) after)
  unfolding each
  bindings-good [] h after g = g
  bindings-good (t ∷ ts) h after g =
      let rest = each (c.binding ns ls) (map (numbered_term ns ls) ts) after in
      (tt, (refl, term-good false t h.0 (Close ∷ rest) (tt, bindings-good ts h.1 after g)))

  results-good : (ts : List Named) → FitEach ns ls ts → (after : List Text) → AreGood after → AreGood (each (term false ns ls) (map (numbered_term ns ls) ts) after)
  unfolding each
  results-good [] h after g = g
  results-good (t ∷ ts) h after g = term-good false t h.0 (each (term false ns ls) (map (numbered_term ns ls) ts) after) (results-good ts h.1 after g)

  ctors-good : (ks : List NamedCtor) → FitCtors ns ls ks → (after : List Text) → AreGood after → AreGood (each (c.constructor ns ls) (map (numbered_ctor ns ls) ks) after)
  unfolding each
  ctors-good [] h after g = g
  ctors-good (k ∷ ks) h after g =
      let rest = Close ∷ Close ∷ each (c.constructor ns ls) (map (numbered_ctor ns ls) ks) after in
      let on_result = results-good k.result h.0.2 rest (tt, (tt, ctors-good ks h.1 after g)) in (
        tt,
        (
          word-good words.Ctor,
          (
            name-good k.name h.0.0,
            (
              tt,
              (
                word-good words.Args,
                bindings-good k.args h.0.1 (Close ∷ Open ∷ word words.Result ∷ each (term false ns ls) (map (numbered_term ns ls) k.result) rest) (tt, (tt, (word-good words.Result, on_result))),
              ),
            ),
          ),
        ),
      )

  families-good : (fs : List NamedFamily) → FitFamilies ns ls fs → (after : List Text) → AreGood after → AreGood (each (c.family ns ls) (map (numbered_family ns ls) fs) after)
  unfolding each
  families-good [] h after g = g
  families-good (f ∷ fs) h after g =
      let rest = Close ∷ each (c.family ns ls) (map (numbered_family ns ls) fs) after in
      let on_ctors = ctors-good f.ctors h.0.3 rest (tt, families-good fs h.1 after g) in
      let cs = each (c.constructor ns ls) (map (numbered_ctor ns ls) f.ctors) rest in
      let on_indices = bindings-good f.indices h.0.2 (Close ∷ cs) (tt, on_ctors) in
      let is = each (c.binding ns ls) (map (numbered_term ns ls) f.indices) (Close ∷ cs) in
      (tt, (word-good words.Family, (name-good f.name h.0.0, (tt, (word-good words.Sort, sort-good f.sort h.0.1 (Close ∷ Open ∷ word words.Indices ∷ is) (tt, (tt, (word-good words.Indices, on_indices))))))))

  body-good : (b : Option Named) → FitsOption ns ls b → (after : List Text) → AreGood after → AreGood (c.body ns ls (option_map (numbered_term ns ls) b) after)
  body-good None h after g = (word-good words.NoBody, g)
  body-good (Some t) h after g = term-good false t h after g

  decls-good : (ds : List NamedDecl) → FitDecls ns ls ds → (after : List Text) → AreGood after → AreGood (each (c.declaration ns ls) (map (numbered_decl ns ls) ds) after)
  unfolding each
  decls-good [] h after g = g
  decls-good (Constant k A b ∷ ds) h after g =
      let rest = Close ∷ each (c.declaration ns ls) (map (numbered_decl ns ls) ds) after in
      let on_b = body-good b h.0.2 rest (tt, decls-good ds h.1 after g) in
      (tt, (word-good words.ConstantDecl, (name-good k h.0.0, term-good false A h.0.1 (c.body ns ls (option_map (numbered_term ns ls) b) rest) on_b)))
  decls-good (Block k ps fs ∷ ds) h after g =
      let rest = Close ∷ each (c.declaration ns ls) (map (numbered_decl ns ls) ds) after in
      let on_fs = families-good fs h.0.2 rest (tt, decls-good ds h.1 after g) in
      (tt, (word-good words.InductiveDecl, (name-good k h.0.0, (tt, (word-good words.Params, bindings-good ps h.0.1 (Close ∷ each (c.family ns ls) (map (numbered_family ns ls) fs) rest) (tt, on_fs))))))

  levels-good : (ks : List (List ℕ)) → FitLevels ns ls ks → (after : List Text) → AreGood after → AreGood (each (c.level ls) (map (level_number ls) ks) after)
  unfolding each
  levels-good [] h after g = g
  levels-good (k ∷ ks) h after g = (level-good k h.0, levels-good ks h.1 after g)

  constraints-good : (ks : List NamedConstraint) → FitConstraints ns ls ks → (after : List Text) → AreGood after → AreGood (each (c.constraint ls) (map (numbered_constraint ls) ks) after)
  unfolding each
  constraints-good [] h after g = g
  constraints-good (k ∷ ks) h after g = (tt, (word-good (c.word_of (relation_of k.relation)), (level-good k.left h.0, (level-good k.right h.1, (tt, constraints-good ks h.2 after g)))))

  pub environment-good : (env : NamedEnv) → FitsEnv ns ls env → AreGood (c.environment (numbered_by ns ls env) [])
  environment-good env h =
      let main = term-good false env.main h.main (Close ∷ Close ∷ []) (tt, (tt, tt)) in
      let rest = Open ∷ word words.Main ∷ tree env.main (Close ∷ Close ∷ []) in
      let on_decls = decls-good env.decls h.decls rest (tt, (word-good words.Main, main)) in
      let ds = each (c.declaration ns ls) (map (numbered_decl ns ls) env.decls) rest in
      let on_constraints = constraints-good env.constraints h.constraints (Close ∷ ds) (tt, on_decls) in
      let ks = each (c.constraint ls) (map (numbered_constraint ls) env.constraints) (Close ∷ ds) in
      (tt, (word-good words.Env, (word-good words.One, (tt, (word-good words.Levels, levels-good env.levels h.levels (Close ∷ Open ∷ word words.Constraints ∷ ks) (tt, (tt, (word-good words.Constraints, on_constraints))))))))
