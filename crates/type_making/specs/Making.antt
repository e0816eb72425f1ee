-- The runs of an inference that writes, in an environment and with a number of rules that may still stand in one another.
use Rattle.std.specs.Prelude.{ℕ, Bool, List, Some, length}
use Rattle.universe_levels.specs.declared.sort.Sort.{Sort}
use Rattle.trees.specs.Tree.{terms_of}
use Rattle.pc_terms.specs.Syntax.{Term, list_of}
use Rattle.pc_terms.specs.Lists.{arms_of, types_of, bodies_of, rargs_of}
use Rattle.pc_terms.specs.declared.term.Branch.{Branch}
use Rattle.pc_terms.specs.declared.term.Def.{Def}
use Rattle.pc_terms.specs.declared.term.Match.{Match}
use Rattle.calculus_rules.specs.declared.declaration.Block.{Block}
use Rattle.calculus_rules.specs.declared.declaration.Constructor.{Constructor}
use Rattle.calculus_rules.specs.declared.declaration.Family.{Family}
use Rattle.calculus_rules.specs.Environment.{Env, with_parameters}
use Rattle.calculus_rules.specs.Context.{Context}
use Rattle.pc_rules.specs.declared.meter.Account.{Account}
use Rattle.pc_rules.specs.DirectedRun.{Run, done}
use Rattle.pc_rules.specs.Entailment.{test_of}
use Rattle.cert_rules.specs.Writing.{Wrote, WriteAct, silent, write_on}
use Rattle.cert_rules.specs.MakingTyping.{MakeTyping, make_infer, make_rule, make_sort_of, make_fits, make_check, make_retype, make_prod, make_lambda, make_let, make_app, make_check_all, make_sorts_of}
use Rattle.cert_rules.specs.MakingTyping.{make_predicate, make_scrutinee, make_branch, make_branches, make_case, make_types, make_definition, make_definitions, make_fix}
use Rattle.script_making.specs.Comparing.{compare_making}

abbrev pub infer_making : Env → ℕ → MakeTyping
infer_making E n = make_infer E (test_of E) n

-- the rules, with what stands inside

abbrev pub rule_making : Env → ℕ → MakeTyping
rule_making E n = make_rule E (infer_making E n) (compare_making E n)

abbrev pub sort_making : Env → ℕ → Context → Term → Account → Run (Wrote Sort)
sort_making E n = make_sort_of E (infer_making E n)

-- a type is the one that is asked for, where the test holds, or below it
abbrev pub fits_making : Env → ℕ → Context → Bool → Term → Term → WriteAct
fits_making E n = make_fits E (infer_making E n) (compare_making E n)

abbrev pub check_making : Env → ℕ → Context → Term → Term → WriteAct
check_making E n = make_check E (infer_making E n) (compare_making E n)

abbrev pub retype_making : Env → ℕ → Context → Term → Term → WriteAct
retype_making E n = make_retype E (infer_making E n)

abbrev pub prod_making : Env → ℕ → Context → Term → Term → Account → Run (Wrote Term)
prod_making E n = make_prod E (infer_making E n)

abbrev pub lambda_making : Env → ℕ → Context → Term → Term → Account → Run (Wrote Term)
lambda_making E n = make_lambda E (infer_making E n)

abbrev pub let_making : Env → ℕ → Context → Term → Term → Term → Account → Run (Wrote Term)
let_making E n = make_let E (infer_making E n) (compare_making E n)

abbrev pub app_making : Env → ℕ → Context → Term → Term → Account → Run (Wrote Term)
app_making E n = make_app E (infer_making E n) (compare_making E n)

-- telescopes

abbrev pub sorts_making : Env → ℕ → Context → List Term → Account → Run (Wrote (List Sort))
sorts_making E n = make_sorts_of E (infer_making E n)

-- that each entry has a sort, whichever it is
abbrev pub entries_making : Env → ℕ → Context → List Term → WriteAct
entries_making E n c As u = write_on (sorts_making E n c As u) (λ _ w. silent (done tt) w)

abbrev pub check_all_making : Env → ℕ → Context → (ℕ → Term) → List Term → List Term → WriteAct
check_all_making E n = make_check_all E (infer_making E n) (compare_making E n)

-- matches

-- on family F of block B
abbrev pub predicate_making : Env → ℕ → Context → Block → Family → Match → WriteAct
predicate_making E n c B F x = make_predicate E (infer_making E n) c (Some B) x.family (with_parameters B.params F) x.params x.ret

abbrev pub scrutinee_making : Env → ℕ → Context → Block → Family → Match → Account → Run (Wrote (List Term))
scrutinee_making E n c B F x = make_scrutinee E (infer_making E n) (compare_making E n) c x.family (with_parameters B.params F) x.params x.scrut

-- branch i, of constructor C
abbrev pub branch_making : Env → ℕ → Context → ℕ → Constructor → Match → Term → WriteAct
branch_making E n c i C x body = make_branch E (infer_making E n) (compare_making E n) c x.family i C x.params x.ret body

-- branches from number i on, of these constructors
abbrev pub branches_making : Env → ℕ → Context → ℕ → List Constructor → Match → List Branch → WriteAct
branches_making E n c i Cs x bs = make_branches E (infer_making E n) (compare_making E n) c x.family i Cs x.params x.ret (list_of (arms_of bs))

abbrev pub case_making : Env → ℕ → Context → Match → Account → Run (Wrote Term)
case_making E n c x = make_case E (infer_making E n) (compare_making E n) c x.family (terms_of x.params) x.binders x.ret x.scrut (arms_of x.branches)

-- fixpoints

-- the types from number i on
abbrev pub types_making : Env → ℕ → Context → ℕ → List Def → WriteAct
types_making E n c i ds = make_types E (infer_making E n) c i (list_of (types_of ds))

-- definition d of k
abbrev pub definition_making : Env → ℕ → Context → ℕ → ℕ → Def → WriteAct
definition_making E n c k d D = make_definition E (infer_making E n) (compare_making E n) c k d D.rarg D.ty D.body

-- the definitions from number d of k on
abbrev pub definitions_making : Env → ℕ → Context → ℕ → ℕ → List Def → WriteAct
definitions_making E n c k d ds =
    make_definitions E (infer_making E n) (compare_making E n) c k d (rargs_of ds) (list_of (types_of ds)) (list_of (bodies_of k ds))

abbrev pub fix_making : Env → ℕ → Context → ℕ → List Def → Account → Run (Wrote Term)
fix_making E n c i ds = make_fix E (infer_making E n) (compare_making E n) c i (rargs_of ds) (types_of ds) (bodies_of (length ds) ds)
