-- The walks of a verifier.
use Rattle.std.specs.Prelude.{ℕ, zero, suc, Bool, List, Option, Some, length}
use Rattle.universe_levels.specs.declared.sort.Sort.{Sort}
use Rattle.trees.specs.Tree.{terms_of}
use Rattle.pc_terms.specs.Syntax.{Term, list_of}
use Rattle.pc_terms.specs.Lists.{arms_of, types_of, bodies_of, rargs_of}
use Rattle.pc_terms.specs.declared.term.Branch.{Branch}
use Rattle.pc_terms.specs.declared.term.Def.{Def}
use Rattle.pc_terms.specs.declared.term.Match.{Match}
use Rattle.calculus_rules.specs.declared.declaration.Block.{Block}
use Rattle.calculus_rules.specs.declared.declaration.Constructor.{Constructor}
use Rattle.calculus_rules.specs.Environment.{Env, FamilyDecl}
use Rattle.calculus_rules.specs.Context.{Context, Values, values}
use Rattle.pc_rules.specs.Entailment.{test_of}
use Rattle.cert_rules.specs.declared.item.CertItem.{CertItem}
use Rattle.cert_rules.specs.Walk.{WalkState, Walk, WalkAct, pass, bar_here, past, walk_on}
use Rattle.cert_rules.specs.WalkSteps.{walk_steps, reduced}
use Rattle.cert_rules.specs.Scripts.{Script, parts_of, walk_parts, script_by, script}
use Rattle.cert_rules.specs.WalkTyping.{Walking, walk_infer, walk_rule, walk_sort_found, walk_sort_of, walk_fits, walk_check, walk_retype, walk_prod, walk_lambda, walk_let, walk_app, walk_check_all, walk_sorts_of, walk_predicate, walk_scrutinee, walk_branch, walk_branches, walk_case, walk_types, walk_definition, walk_definitions, walk_fix}
use Rattle.type_cert.specs.declared.verifier.Verifier.{Verifier}

abbrev pub going : Verifier → Script
going v = script v.cert.now v.env.now (test_of v.env.now) v.room

-- the item at which a script stands, and what follows
abbrev pub scripting : Verifier → Option CertItem → Values → Bool → Term → Term → WalkAct
scripting v o = script_by v.env.now (test_of v.env.now) (going v) o

-- the parts of two terms of one former, for which item i asks
abbrev pub parting : Verifier → ℕ → Values → Bool → Term → Term → WalkAct
parting v i V equal a b = walk_parts i (parts_of (going v) V equal a b)

-- the steps for which the item of a script asks, which are some
abbrev pub script_steps : Env → Values → ℕ → Term → WalkState → Walk Term
script_steps E V zero t s = bar_here s
script_steps E V (suc n) t s = walk_steps E V s.at (suc n) t (past s)

abbrev pub inferring : Verifier → Walking
inferring v = walk_infer v.cert.now v.env.now (test_of v.env.now) v.room

-- the rules, with what stands inside

abbrev pub rule_walk : Verifier → Walking
rule_walk v = walk_rule v.cert.now v.env.now (inferring v) (going v)

abbrev pub sorting : Verifier → Context → Term → WalkState → Walk Sort
sorting v = walk_sort_of v.cert.now v.env.now (inferring v)

-- from the type of the term on
abbrev pub sorting_type : Verifier → Context → Term → WalkState → Walk Sort
sorting_type v c T s =
    walk_on (reduced v.cert.now v.env.now (values c) T s) (λ r w. walk_sort_found (inferring v) c r.item r.count r.term w)

abbrev pub fitting : Verifier → Context → Term → Term → WalkAct
fitting v = walk_fits v.cert.now v.env.now (inferring v) (going v)

abbrev pub checking : Verifier → Context → Term → Term → WalkAct
checking v = walk_check v.cert.now v.env.now (inferring v) (going v)

abbrev pub retyping : Verifier → Context → ℕ → Term → WalkAct
retyping v = walk_retype v.cert.now v.env.now (inferring v)

abbrev pub prod_walk : Verifier → Context → Term → Term → WalkState → Walk Term
prod_walk v = walk_prod v.cert.now v.env.now (inferring v)

abbrev pub lambda_walk : Verifier → Context → Term → Term → WalkState → Walk Term
lambda_walk v = walk_lambda v.cert.now v.env.now (inferring v)

abbrev pub let_walk : Verifier → Context → Term → Term → Term → WalkState → Walk Term
let_walk v = walk_let v.cert.now v.env.now (inferring v) (going v)

abbrev pub app_walk : Verifier → Context → Term → Term → WalkState → Walk Term
app_walk v = walk_app v.cert.now v.env.now (inferring v) (going v)

-- telescopes

abbrev pub sorting_all : Verifier → Context → List Term → WalkState → Walk (List Sort)
sorting_all v = walk_sorts_of v.cert.now v.env.now (inferring v)

-- that each entry has a sort, whichever it is
abbrev pub entering : Verifier → Context → List Term → WalkAct
entering v c As s = walk_on (sorting_all v c As s) (λ _ w. pass tt w)

abbrev pub checking_all : Verifier → Context → (ℕ → Term) → List Term → List Term → WalkAct
checking_all v = walk_check_all v.cert.now v.env.now (inferring v) (going v)

-- matches

abbrev pub predicate_walk : Verifier → Context → Block → FamilyDecl → Match → WalkAct
predicate_walk v c B F x = walk_predicate v.cert.now v.env.now (inferring v) c (Some B) x.family F x.params x.ret

abbrev pub scrutinee_walk : Verifier → Context → FamilyDecl → Match → WalkState → Walk (List Term)
scrutinee_walk v c F x = walk_scrutinee v.cert.now v.env.now (inferring v) (going v) c x.family F x.params x.scrut

-- branch i, of constructor C
abbrev pub branch_walk : Verifier → Context → ℕ → Constructor → Match → Term → WalkAct
branch_walk v c i C x body = walk_branch v.cert.now v.env.now (inferring v) (going v) c x.family i C x.params x.ret body

-- branches from number i on, of these constructors
abbrev pub branches_walk : Verifier → Context → ℕ → List Constructor → Match → List Branch → WalkAct
branches_walk v c i Cs x bs = walk_branches v.cert.now v.env.now (inferring v) (going v) c x.family i Cs x.params x.ret (list_of (arms_of bs))

abbrev pub case_walk : Verifier → Context → Match → WalkState → Walk Term
case_walk v c x = walk_case v.cert.now v.env.now (inferring v) (going v) c x.family (terms_of x.params) x.binders x.ret x.scrut (arms_of x.branches)

-- fixpoints

-- the types from number i on
abbrev pub types_walk : Verifier → Context → ℕ → List Def → WalkAct
types_walk v c i ds = walk_types v.cert.now v.env.now (inferring v) c i (list_of (types_of ds))

-- definition d of k
abbrev pub definition_walk : Verifier → Context → ℕ → ℕ → Def → WalkAct
definition_walk v c k d D = walk_definition v.cert.now v.env.now (inferring v) (going v) c k d D.rarg D.ty D.body

-- the definitions from number d of k on
abbrev pub definitions_walk : Verifier → Context → ℕ → ℕ → List Def → WalkAct
definitions_walk v c k d ds =
    walk_definitions v.cert.now v.env.now (inferring v) (going v) c k d (rargs_of ds) (list_of (types_of ds)) (list_of (bodies_of k ds))

abbrev pub fix_walk : Verifier → Context → ℕ → List Def → WalkState → Walk Term
fix_walk v c i ds = walk_fix v.cert.now v.env.now (inferring v) (going v) c i (rargs_of ds) (types_of ds) (bodies_of (length ds) ds)
