-- Constants, definitions of fixpoints and other lambdas of a program in A-normal form are fewer than the nodes of the program that it was made from.
use Rattle.std.proofs.Common.{◌≡◌, ℕ, suc, ◌+◌, ◌<◌, ◌≤◌, List, [], ◌∷◌, ◌++◌, length, map, arith}
use Rattle.std.proofs.lemmas.List.{length-map, length-append}
use Rattle.trees.specs.Tree.{Rel, Node, Done, Next}
use Rattle.trees.specs.Measures.{nodes, nodes_trees}
use Rattle.pc_terms.specs.declared.leaf.Name.{Name}
use Rattle.box_terms.specs.BoxSyntax.{BoxTerm, BoxTerms, Box, BLambda, BLetIn, BApp, BConst, BConstruct, BCase, BFix}
use Rattle.lambda_box.specs.BoxProgram.{BoxConstant}
use Rattle.lambda_box.specs.SaturatedForm.{nodes_of_constants}
use Rattle.anf_convert.specs.Anf.{LamOp, AnfBlock, AnfBranches, AnfDefs, LamDef, AnfBinding, AtomIs, OpIs, tail_of, block_of, def_count}
use Rattle.anf_convert.specs.Captured.{Outside}
use Rattle.anf_convert.specs.ToAnf.{Res, RAtom, RCon, ROp, Norm, binding_of, sealed, with_variable, named, levels, name_at, then_arg, just, norm, norm_branches, norm_defs, code_of, number_in, to_anf}
use Rattle.closure_lift.specs.Lift.{op_functions, block_functions, branches_functions, defs_functions, functions_block, functions_constants, constants_functions}
use Rattle.closure_lift.specs.Lifting.{bound_functions}
use Rattle.closure_lift.proofs.Placed.{block_length, constants_length}
use Rattle.source_limits.specs.Laws.{FunctionsAreFewer}

some_node : (t : BoxTerm) → 1 ≤ nodes t
some_node (Rel i) = omega arith
some_node (Node l ts) = omega arith

abbrev ops_functions : List AnfBinding → ℕ
ops_functions [] = 0
ops_functions (p ∷ ps) = bound_functions p + ops_functions ps

abbrev res_functions : Res → ℕ
res_functions (RAtom a) = 0
res_functions (RCon c xs) = 0
res_functions (ROp op) = op_functions op

abbrev norm_functions : Norm → ℕ
norm_functions n = ops_functions n.ops + res_functions n.res

ops_join : (ps qs : List AnfBinding) → ops_functions (ps ++ qs) ≡ ops_functions ps + ops_functions qs
ops_join [] qs = omega arith
ops_join (p ∷ ps) qs = omega (arith, ops_join ps qs)

tail_functions : (p : AnfBinding) → block_functions (tail_of p) ≡ bound_functions p
tail_functions (AtomIs a) = omega arith
tail_functions (OpIs op) = omega arith

bind_functions : (ps : List AnfBinding) (t : AnfBlock) → block_functions (block_of ps t) ≡ ops_functions ps + block_functions t
bind_functions [] t = omega arith
bind_functions (AtomIs a ∷ ps) t = omega (arith, bind_functions ps t)
bind_functions (OpIs op ∷ ps) t = omega (arith, bind_functions ps t)

binding_functions : (d : ℕ) (res : Res) → bound_functions (binding_of d res) ≡ res_functions res
binding_functions d (RAtom a) = omega arith
binding_functions d (RCon c []) = omega arith
binding_functions d (RCon c (x ∷ xs)) = omega arith
binding_functions d (ROp op) = omega arith

sealed_functions : (d : ℕ) (n : Norm) → block_functions (sealed d n) ≡ norm_functions n
sealed_functions d n =
    let e = d + length n.ops in
    let p = binding_of e n.res in
    omega (arith, bind_functions n.ops (tail_of p), tail_functions p, binding_functions e n.res)

with_functions : (d : ℕ) (ops : List AnfBinding) (res : Res) → ops_functions (with_variable d ops res).ops ≡ ops_functions ops + res_functions res
with_functions d ops res = omega (arith, ops_join ops (binding_of (d + length ops) res ∷ []), binding_functions (d + length ops) res)

named_functions : (d : ℕ) (ops : List AnfBinding) (res : Res) → ops_functions (named d ops res).ops ≡ ops_functions ops + res_functions res
named_functions d ops (RAtom a) = omega arith
named_functions d ops (RCon c []) = omega arith
named_functions d ops (RCon c (x ∷ xs)) = with_functions d ops (RCon c (x ∷ xs))
named_functions d ops (ROp op) = with_functions d ops (ROp op)

-- a term's bindings and result have fewer functions than these nodes

record Fewer (n : Norm) (k : ℕ) : Type 0 where
  is : norm_functions n < k

record BranchesFewer (bs : AnfBranches) (k : ℕ) : Type 0 where
  is : branches_functions bs ≤ k

record DefsFewer (ds : AnfDefs) (k : ℕ) : Type 0 where
  is : def_count ds + defs_functions ds ≤ k

lambda_fewer : {n : Norm} {i k : ℕ} (d : ℕ) → Fewer n i → i < k → Fewer (just (ROp (LamOp (sealed d n)))) k
lambda_fewer {n} d h lt = record { is = omega (arith, sealed_functions d n, h.is, lt) }

def_fewer : {n : Norm} {ds : AnfDefs} {i j k : ℕ} (d : ℕ) → Fewer n i → DefsFewer ds j → i + j ≤ k → DefsFewer (LamDef (sealed d n) ds) k
def_fewer {n} d h g le = record { is = omega (arith, sealed_functions d n, h.is, g.is, le) }

arg_fewer : {j k : ℕ} (d : ℕ) (ops : List AnfBinding) (res : Res) (arg : ℕ → Norm) → ((e : ℕ) → Fewer (arg e) j) → ops_functions ops + res_functions res + j ≤ k → Fewer (then_arg d ops res arg) k
arg_fewer d ops (RAtom f) arg h le =
    let e = d + length ops in
    record { is = omega (arith, ops_join ops (name_at arg e).ops, named_functions e (arg e).ops (arg e).res, (h e).is, le) }
arg_fewer d ops (RCon c xs) arg h le =
    let e = d + length ops in
    record { is = omega (arith, ops_join ops (name_at arg e).ops, named_functions e (arg e).ops (arg e).res, (h e).is, le) }
arg_fewer d ops (ROp op) arg h le =
    let all = ops ++ OpIs op ∷ [] in
    let e = d + length all in
    record { is = omega (arith, ops_join all (name_at arg e).ops, ops_join ops (OpIs op ∷ []), named_functions e (arg e).ops (arg e).res, (h e).is, le) }

module _ (number : Name → ℕ) where
  mutual
    norm_fewer : (env : List _) (d : ℕ) (t : BoxTerm) → Fewer (norm number env d t) (nodes t)
    norm_fewer env d (Rel i) = record { is = omega arith }
    norm_fewer env d Box = record { is = omega arith }
    norm_fewer env d (BLambda b) = lambda_fewer (suc d) (norm_fewer _ (suc d) b) (omega arith)
    norm_fewer env d (BLetIn a b) =
        let n = norm number env d a in
        let v = with_variable d n.ops n.res in
        let body = norm number (v.atom ∷ env) (d + length v.ops) b in
        record { is = omega (arith, ops_join v.ops body.ops, with_functions d n.ops n.res, (norm_fewer env d a).is, (norm_fewer (v.atom ∷ env) (d + length v.ops) b).is) }
    norm_fewer env d (BApp f a) =
        let n = norm number env d f in
        arg_fewer d n.ops n.res (λ e. norm number env e a) (λ e. norm_fewer env e a) (omega (arith, (norm_fewer env d f).is))
    norm_fewer env d (BConst k) = record { is = omega arith }
    norm_fewer env d (BConstruct f c) = record { is = omega arith }
    norm_fewer env d (BCase f t bs) =
        let n = norm number env d t in
        record { is = omega (arith, named_functions d n.ops n.res, (norm_fewer env d t).is, (branches_fewer env (d + length (named d n.ops n.res).ops) bs).is) }
    norm_fewer env d (BFix i rargs bodies) = record { is = omega (arith, (defs_fewer env d (length rargs) bodies).is) }

    branches_fewer : (env : List _) (d : ℕ) (bs : BoxTerms) → BranchesFewer (norm_branches number env d bs) (nodes_trees bs)
    branches_fewer env d Done = record { is = omega arith }
    branches_fewer env d (Next n b rest) =
        let inner = norm number (levels d n env) (d + n) b in
        record { is = omega (arith, sealed_functions (d + n) inner, (norm_fewer (levels d n env) (d + n) b).is, (branches_fewer env d rest).is) }

    defs_fewer : (env : List _) (d n : ℕ) (bodies : BoxTerms) → DefsFewer (norm_defs number env d n bodies) (nodes_trees bodies)
    defs_fewer env d n Done = record { is = omega arith }
    defs_fewer env d n (Next m (BLambda b) rest) = def_fewer (suc (d + n)) (norm_fewer _ (suc (d + n)) b) (defs_fewer env d n rest) (omega arith)
    defs_fewer env d n (Next m b rest) = record { is = omega (arith, some_node b, (defs_fewer env d n rest).is) }

  code_fewer : (t : BoxTerm) → block_functions (code_of number t) < nodes t
  code_fewer t = omega (arith, sealed_functions 0 (norm number [] 0 t), (norm_fewer [] 0 t).is)

  constants_fewer : (cs : List BoxConstant) → length cs + constants_functions (map (λ (c : BoxConstant). code_of number c.body) cs) ≤ nodes_of_constants cs
  constants_fewer [] = omega arith
  constants_fewer (c ∷ cs) = omega (arith, code_fewer c.body, constants_fewer cs)

pub functions_fewer : FunctionsAreFewer
functions_fewer P =
    let K = number_in P.constants in
    let Q = to_anf P in
    let g = constants_functions Q.constants in
    omega (
      arith,
      length-map P.constants (λ (c : BoxConstant). code_of K c.body),
      length-append (functions_constants 0 Q.constants) (functions_block Outside [] g Q.main),
      constants_length 0 Q.constants,
      block_length Outside [] g Q.main,
      constants_fewer K P.constants,
      code_fewer K P.main,
    )
