-- The families that an accepted environment keeps are those that were read, so their counts are within the limits of the text.
use Rattle.std.proofs.Common.{◌≡◌, ℕ, ◌+◌, ◌≤◌, List, [], ◌∷◌, ◌++◌, length, map, reverse, None, sym, ap, subst, ◌∙◌}
use Rattle.std.specs.Prelude.{slice_get}
use Rattle.std.proofs.lemmas.List.{reverse-append, length-map}
use Rattle.sexp_reader.specs.Lex.{tokens_of}
use Rattle.dump_grammar.specs.Numbering.{name_table, level_table}
use Rattle.dump_grammar.specs.Terms.{Form}
use Rattle.dump_grammar.specs.Declarations.{DeclForm, declaration_meaning}
use Rattle.dump_grammar.specs.Environments.{env_of}
use Rattle.dump_grammar.specs.Table.{VEnv}
use Rattle.dump_grammar.specs.Judge.{Fine}
use Rattle.dump_grammar.specs.Limits.{first, one_more_over}
use Rattle.dump_grammar.specs.declared.refusal.Limit.TheVariants as limits
use Rattle.dump_grammar.specs.Within.{DumpIsWithin, levels_over, constraints_over, declaration_over, declarations_over}
use Rattle.dump_grammar.proofs.Law.{judged}
use Rattle.dump_grammar.proofs.Within.{limited}
use Rattle.dump_reader.specs.declared.environment.RawEnv.{RawEnv}
use Rattle.dump_reader.specs.NumberedEnvironment.{numbered_decl, numbered}
use Rattle.dump_reader.specs.Spelled.{IsSpelled}
use Rattle.pc_terms.specs.declared.leaf.FamilyId.{FamilyId}
use Rattle.pc_terms.specs.Syntax.{Term}
use Rattle.calculus_rules.specs.declared.declaration.Constructor.{Constructor}
use Rattle.calculus_rules.specs.declared.declaration.Family.{Family}
use Rattle.calculus_rules.specs.declared.declaration.Kept.{Kept}
use Rattle.calculus_rules.specs.Environment.{Env, Has, here, there, with_parameters}
use Rattle.rule_laws.specs.Declarations.{plain, plain_given, IsCheckedEnvironment}
use Rattle.inductive_check.specs.Given.{given_of}
use Rattle.env_check.specs.Rules.{givens}
use Rattle.lambda_box.specs.BoxForm.{AreFew, HasFewCounts}
use Rattle.erase_laws.specs.ErasedProgram.{arguments_of, counts_of}
use Rattle.erase_rules.specs.Laws.{AreFewCounts}
use Rattle.read_counts.proofs.FewBlocks.{FewArguments, FewKept, few_declaration, few_block, few_at}
use Rattle.calculus_rules.proofs.Listing.{has_map, from_map}
use Rattle.dump_grammar.proofs.NoLimit.{none_both}

-- members of lists

-- P holds of each member

abbrev pub Each : {X : Type 0} → (X → Type 0) → List X → Type 0
Each P [] = Unit {0}
Each P (x ∷ xs) = P x × Each P xs

each_more : {X : Type 0} (P : X → Type 0) (xs : List X) (x : X) → Each P xs → P x → Each P (xs ++ x ∷ [])
each_more P [] x h p = (p, record {})
each_more P (y ∷ ys) x h p = (h.0, each_more P ys x h.1 p)

each_turned : {X : Type 0} (P : X → Type 0) (xs : List X) → Each P xs → Each P (reverse xs)
each_turned P [] h = record {}
each_turned P (x ∷ xs) h = subst (Each P) (sym (reverse-append (x ∷ []) xs)) (each_more P (reverse xs) x (each_turned P xs h.1) h.0)

each_has : {X : Type 0} (P : X → Type 0) {xs : List X} {x : X} → Each P xs → Has xs x → P x
each_has P h here = h.0
each_has P h (there i) = each_has P h.1 i

-- the declarations that are read, as they are given to the rules

module _ (ns ls : List (List ℕ)) where
  abbrev kept_of : List DeclForm → List Kept
  kept_of ds = map plain_given (map given_of (map (numbered_decl ns ls) (map declaration_meaning ds)))

  few_given : (n : ℕ) (ds : List DeclForm) (t : Form) → declarations_over n ds t ≡ None → Each FewKept (kept_of ds)
  unfolding declarations_over
  few_given n [] t e = record {}
  few_given n (d ∷ ds) t e =
      let p = none_both (one_more_over 65536 limits.Declarations n) (first (declaration_over d) (declarations_over (n + 1) ds t)) e in
      let s = none_both (declaration_over d) (declarations_over (n + 1) ds t) p.1 in
      (few_declaration ns ls d s.0, few_given (n + 1) ds t s.1)

few_read : (e : RawEnv) → IsSpelled e → Each FewKept (map plain_given (givens e))
few_read e h =
    let bytes = h.0 in
    let x = judged.fine (length bytes) (tokens_of bytes) (VEnv h.1 ∷ []) h.2 in
    let d = x.2.0 in
    let same : h.1 ≡ env_of d = (let f = x.1 in let g : h.1 ≡ x.0 = cc in g ∙ x.2.2) in
    let within : DumpIsWithin d = limited.only (length bytes) (tokens_of bytes) d x.2.1 (h.2 ∙ ap (λ n. Fine (VEnv n ∷ [])) same) in
    let meant : numbered (env_of d) ≡ e = ap numbered (sym same) ∙ sym h.3 in
    let p = none_both (levels_over 0 d.levels) (first (constraints_over 0 d.constraints) (declarations_over 0 d.decls d.main)) within.1 in
    let q = none_both (constraints_over 0 d.constraints) (declarations_over 0 d.decls d.main) p.1 in
    subst (λ r. Each FewKept (map plain_given (givens r))) meant (few_given (name_table (env_of d)) (level_table (env_of d)) 0 d.decls d.main q.1)

-- families with few counts

few_numbers : (Cs : List Constructor) → FewArguments Cs → AreFew (map arguments_of Cs)
few_numbers [] h = record {}
few_numbers (C ∷ Cs) h = (h.0, few_numbers Cs h.1)

has_few : (f : FamilyId) (Ps : List Term) (G : Family) → length Ps ≤ 255 → (length G.ctors ≤ 1024) × FewArguments G.ctors → HasFewCounts (counts_of f (with_parameters Ps G))
has_few f Ps G p h = record {
  constructors = subst (λ n. n ≤ 1024) (sym (length-map G.ctors arguments_of)) h.0;
  params = p;
  args = few_numbers G.ctors h.1;
}

pub few_counts : (e : RawEnv) → IsSpelled e → (E : Env) (T : Term) → IsCheckedEnvironment e.levels e.constraints (givens e) e.main E T → AreFewCounts E
few_counts e spelled E T checked f F (B, has, name, at) =
    let all : Each FewKept (map plain E.declarations) = subst (Each FewKept) (sym checked.declarations) (each_turned FewKept (map plain_given (givens e)) (few_read e spelled)) in
    let few = few_block B (each_has FewKept all (has_map plain has)) in
    let family = from_map (with_parameters B.params) (slice_get B.families f.family) F at in
    let G : Family = family.0 in
    subst (λ D. HasFewCounts (counts_of f D)) (sym family.2) (has_few f B.params G few.0 (few_at B.families f.family G few.1 family.1))
