-- The lists of an environment that some text spells within the limits are no longer than those.
use Rattle.std.proofs.Common.{◌≡◌, ℕ, ◌+◌, ◌≤◌, List, [], ◌∷◌, length, map, None, sym, ap, subst, ◌∙◌, arith}
use Rattle.std.proofs.lemmas.List.{length-map}
use Rattle.sexp_reader.specs.Lex.{tokens_of}
use Rattle.dump_grammar.specs.declared.refusal.Limit.TheVariants as limits
use Rattle.dump_grammar.specs.Numbers.{LevelName}
use Rattle.dump_grammar.specs.Numbering.{name_table, level_table}
use Rattle.dump_grammar.specs.Terms.{Form}
use Rattle.dump_grammar.specs.Declarations.{DeclForm, declaration_meaning}
use Rattle.dump_grammar.specs.Environments.{ConstraintForm, Dump, level_names, constraint_meaning, env_of}
use Rattle.dump_grammar.specs.Table.{VEnv}
use Rattle.dump_grammar.specs.Judge.{Fine}
use Rattle.dump_grammar.specs.Limits.{first, one_more_over}
use Rattle.dump_grammar.specs.Within.{DumpIsWithin, levels_over, constraints_over, declaration_over, declarations_over, dump_over}
use Rattle.dump_grammar.proofs.Law.{judged}
use Rattle.dump_grammar.proofs.Within.{limited}
use Rattle.dump_reader.specs.declared.environment.RawEnv.{RawEnv}
use Rattle.dump_reader.specs.Numbered.{level_number}
use Rattle.dump_reader.specs.NumberedEnvironment.{numbered_constraint, numbered_decl, numbered}
use Rattle.dump_reader.specs.Spelled.{IsSpelled}
use Rattle.dump_grammar.proofs.NoLimit.{none_both, one_more_fits}

pub record AreFew (e : RawEnv) : Type 0 where
  pub levels : length e.levels ≤ 1024
  pub constraints : length e.constraints ≤ 16384
  pub declarations : length e.decls ≤ 65536

few_levels : (n : ℕ) (ls : List LevelName) → n ≤ 1024 → levels_over n ls ≡ None → n + length (level_names ls) ≤ 1024
unfolding levels_over
few_levels n [] h e = omega arith
few_levels n (l ∷ ls) h e =
    let p = none_both (one_more_over 1024 limits.Levels n) (levels_over (n + 1) ls) e in
    let q = one_more_fits 1024 limits.Levels n p.0 in
    let r = few_levels (n + 1) ls (omega arith) p.1 in
    omega arith

few_constraints : (n : ℕ) (cs : List ConstraintForm) → n ≤ 16384 → constraints_over n cs ≡ None → n + length cs ≤ 16384
unfolding constraints_over
few_constraints n [] h e = omega arith
few_constraints n (c ∷ cs) h e =
    let p = none_both (one_more_over 16384 limits.Constraints n) (constraints_over (n + 1) cs) e in
    let q = one_more_fits 16384 limits.Constraints n p.0 in
    let r = few_constraints (n + 1) cs (omega arith) p.1 in
    omega arith

few_declarations : (n : ℕ) (ds : List DeclForm) (t : Form) → n ≤ 65536 → declarations_over n ds t ≡ None → n + length ds ≤ 65536
unfolding declarations_over
few_declarations n [] t h e = omega arith
few_declarations n (d ∷ ds) t h e =
    let p = none_both (one_more_over 65536 limits.Declarations n) (first (declaration_over d) (declarations_over (n + 1) ds t)) e in
    let q = one_more_fits 65536 limits.Declarations n p.0 in
    let s = none_both (declaration_over d) (declarations_over (n + 1) ds t) p.1 in
    let r = few_declarations (n + 1) ds t (omega arith) s.1 in
    omega arith

few_of_form : (d : Dump) → dump_over d ≡ None → AreFew (numbered (env_of d))
few_of_form d h =
    let p = none_both (levels_over 0 d.levels) (first (constraints_over 0 d.constraints) (declarations_over 0 d.decls d.main)) h in
    let q = none_both (constraints_over 0 d.constraints) (declarations_over 0 d.decls d.main) p.1 in
    let n = env_of d in
    let ls = few_levels 0 d.levels (omega arith) p.0 in
    let cs = few_constraints 0 d.constraints (omega arith) q.0 in
    let ds = few_declarations 0 d.decls d.main (omega arith) q.1 in
    let l : length (map (level_number (level_table n)) n.levels) ≡ length n.levels = length-map n.levels (level_number (level_table n)) in
    let c : length (map (numbered_constraint (level_table n)) n.constraints) ≡ length d.constraints = length-map n.constraints (numbered_constraint (level_table n)) ∙ length-map d.constraints constraint_meaning in
    let k : length (map (numbered_decl (name_table n) (level_table n)) n.decls) ≡ length d.decls = length-map n.decls (numbered_decl (name_table n) (level_table n)) ∙ length-map d.decls declaration_meaning in
    record { levels = omega (arith, l, ls); constraints = omega (arith, c, cs); declarations = omega (arith, k, ds) }

pub spelled_few : (e : RawEnv) → IsSpelled e → AreFew e
spelled_few e h =
    let bytes = h.0 in
    let x = judged.fine (length bytes) (tokens_of bytes) (VEnv h.1 ∷ []) h.2 in
    let d = x.2.0 in
    let same : h.1 ≡ env_of d = (let f = x.1 in let g : h.1 ≡ x.0 = cc in g ∙ x.2.2) in
    let within : DumpIsWithin d = limited.only (length bytes) (tokens_of bytes) d x.2.1 (h.2 ∙ ap (λ n. Fine (VEnv n ∷ [])) same) in
    let meant : numbered (env_of d) ≡ e = ap numbered (sym same) ∙ sym h.3 in
    subst AreFew meant (few_of_form d within.1)
