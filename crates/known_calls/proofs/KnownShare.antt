-- The weight of a program in A-normal form, by the weights of modules with workers, is bounded by the number of nodes of the program that it was made from.
use Rattle.std.proofs.Common.{◌≡◌, ℕ, suc, ◌+◌, ◌*◌, ◌<◌, ◌≤◌, List, [], ◌∷◌, ◌++◌, length, map, arith}
use Rattle.std.proofs.Math.Nat.{mul-le-mul_right}
use Rattle.trees.specs.Tree.{Rel, Node, Done, Next}
use Rattle.trees.specs.Measures.{nodes, nodes_trees}
use Rattle.pc_terms.specs.declared.leaf.Name.{Name}
use Rattle.box_terms.specs.BoxSyntax.{BoxTerm, BoxTerms, Box, BLambda, BLetIn, BApp, BConst, BConstruct, BCase, BFix}
use Rattle.lambda_box.specs.BoxProgram.{BoxConstant}
use Rattle.lambda_box.specs.SaturatedForm.{nodes_of_constants}
use Rattle.anf_convert.specs.Anf.{LamOp, AnfBlock, AnfBranches, Branch, AnfDefs, LamDef, BoxDef, AnfBinding, AtomIs, OpIs, tail_of, block_of}
use Rattle.anf_convert.specs.ToAnf.{Res, RAtom, RCon, ROp, Norm, at_depth, binding_of, sealed, with_variable, named, levels, name_at, then_arg, then_body, then_case, just, norm, norm_branches, norm_defs, code_of, number_in}
use Rattle.known_calls.specs.KnownWeight.{atom_weight, atoms_weight, normal_op_weight, normal_weight, normal_branches_weight, normal_defs_weight, normal_constants_weight, KnownIsSmall}

some_node : (t : BoxTerm) → 1 ≤ nodes t
some_node (Rel i) = omega arith
some_node (Node l ts) = omega arith

module _ (c : ℕ) where
  -- what one node may weigh
  abbrev share : ℕ
  share = 252 + 63 * c

  abbrev bound_weight : AnfBinding → ℕ
  bound_weight (AtomIs a) = 12 + atom_weight c
  bound_weight (OpIs op) = 4 + normal_op_weight c op

  abbrev ops_weight : List AnfBinding → ℕ
  ops_weight [] = 0
  ops_weight (p ∷ ps) = bound_weight p + ops_weight ps

  abbrev res_weight : Res → ℕ
  res_weight (RAtom a) = 0
  res_weight (RCon k xs) = 49 + length xs * (65 + 16 * c)
  res_weight (ROp op) = 4 + normal_op_weight c op

  ops_join : (ps qs : List AnfBinding) → ops_weight (ps ++ qs) ≡ ops_weight ps + ops_weight qs
  ops_join [] qs = omega arith
  ops_join (p ∷ ps) qs = omega (arith, ops_join ps qs)

  atoms_of_levels : (d : ℕ) (xs : List _) → 16 * length (map (at_depth d) xs) + atoms_weight c (map (at_depth d) xs) ≡ length xs * (65 + 16 * c)
  atoms_of_levels d [] = omega arith
  atoms_of_levels d (x ∷ xs) = omega (arith, atoms_of_levels d xs)

  tail_light : (p : AnfBinding) → normal_weight c (tail_of p) ≤ bound_weight p
  tail_light (AtomIs a) = omega arith
  tail_light (OpIs op) = omega arith

  block_weight : (ps : List AnfBinding) (t : AnfBlock) → normal_weight c (block_of ps t) ≡ ops_weight ps + normal_weight c t
  block_weight [] t = omega arith
  block_weight (AtomIs a ∷ ps) t = omega (arith, block_weight ps t)
  block_weight (OpIs op ∷ ps) t = omega (arith, block_weight ps t)

  binding_light : (d : ℕ) (res : Res) → bound_weight (binding_of d res) ≤ 12 + atom_weight c + res_weight res
  binding_light d (RAtom a) = omega arith
  binding_light d (RCon k []) = omega arith
  binding_light d (RCon k (x ∷ xs)) = omega (arith, atoms_of_levels d (x ∷ xs))
  binding_light d (ROp op) = omega arith

  -- a term's bindings and result are no heavier than k nodes, and light enough for a block around them
  record Light (n : Norm) (k : ℕ) : Type 0 where
    is : ops_weight n.ops + res_weight n.res + 92 + 16 * c ≤ k * share

  record BranchesLight (bs : AnfBranches) (k : ℕ) : Type 0 where
    is : normal_branches_weight c bs ≤ k * share

  record DefsLight (ds : AnfDefs) (k : ℕ) : Type 0 where
    is : normal_defs_weight c ds ≤ k * share

  same_share : (i j : ℕ) → i ≤ j → i * share ≤ j * share
  same_share i j le = mul-le-mul_right share le

  more_share : (i j : ℕ) → i < j → i * share + share ≤ j * share
  more_share i j lt = omega (arith, same_share (i + 1) j (omega (arith, lt)))

  sealed_light : {n : Norm} {k : ℕ} (d : ℕ) → Light n k → normal_weight c (sealed d n) + 31 ≤ k * share
  sealed_light {n} d h =
      let p = binding_of (d + length n.ops) n.res in
      omega (arith, block_weight n.ops (tail_of p), tail_light p, binding_light (d + length n.ops) n.res, h.is)

  with_light : (d : ℕ) (ops : List AnfBinding) (res : Res) → ops_weight (with_variable d ops res).ops ≤ ops_weight ops + 12 + atom_weight c + res_weight res
  with_light d ops res = omega (arith, ops_join ops (binding_of (d + length ops) res ∷ []), binding_light (d + length ops) res)

  named_light : (d : ℕ) (ops : List AnfBinding) (res : Res) → ops_weight (named d ops res).ops ≤ ops_weight ops + res_weight res
  named_light d ops (RAtom a) = omega arith
  named_light d ops (RCon k []) = omega arith
  named_light d ops (RCon k (x ∷ xs)) = omega (arith, ops_join ops (binding_of (d + length ops) (RCon k (x ∷ xs)) ∷ []), atoms_of_levels (d + length ops) (x ∷ xs))
  named_light d ops (ROp op) = omega (arith, ops_join ops (OpIs op ∷ []))

  lambda_light : {n : Norm} {i j : ℕ} (d : ℕ) → Light n i → i < j → Light (just (ROp (LamOp (sealed d n)))) j
  lambda_light {n} {i} {j} d h lt = record { is = omega (arith, sealed_light d h, more_share i j lt) }

  let_light : {n : Norm} {i j k : ℕ} (d : ℕ) (body : ℕ → _ → Norm) → Light n i → ((e : ℕ) (x : _) → Light (body e x) j) → i + j < k → Light (then_body d (with_variable d n.ops n.res) body) k
  let_light {n} {i} {j} {k} d body h g lt =
      let m = with_variable d n.ops n.res in
      let r = g (d + length m.ops) m.atom in
      record { is = omega (arith, h.is, r.is, with_light d n.ops n.res, ops_join m.ops (body (d + length m.ops) m.atom).ops, more_share (i + j) k lt) }

  -- an argument's part, wherever it stands
  arg_weight : {j : ℕ} (e : ℕ) (arg : ℕ → Norm) → Light (arg e) j → ops_weight (name_at arg e).ops + 92 + 16 * c ≤ j * share
  arg_weight e arg h = omega (arith, named_light e (arg e).ops (arg e).res, h.is)

  arg_light : {j k : ℕ} (d i : ℕ) (ops : List AnfBinding) (res : Res) (arg : ℕ → Norm) → ops_weight ops + res_weight res + 92 + 16 * c ≤ i * share → ((e : ℕ) → Light (arg e) j) → i + j < k → Light (then_arg d ops res arg) k
  arg_light {j} {k} d i ops (RCon x xs) arg h g lt =
      let e = d + length ops in
      record { is = omega (arith, h, arg_weight e arg (g e), ops_join ops (name_at arg e).ops, more_share (i + j) k lt) }
  arg_light {j} {k} d i ops (RAtom f) arg h g lt =
      let e = d + length ops in
      record { is = omega (arith, h, arg_weight e arg (g e), ops_join ops (name_at arg e).ops, more_share (i + j) k lt) }
  arg_light {j} {k} d i ops (ROp op) arg h g lt =
      let all = ops ++ OpIs op ∷ [] in
      let e = d + length all in
      record { is = omega (arith, h, arg_weight e arg (g e), ops_join all (name_at arg e).ops, ops_join ops (OpIs op ∷ []), more_share (i + j) k lt) }

  case_light : {n : Norm} {i j k : ℕ} (d : ℕ) (branches : ℕ → AnfBranches) → Light n i → ((e : ℕ) → BranchesLight (branches e) j) → i + j < k → Light (then_case d (named d n.ops n.res) branches) k
  case_light {n} {i} {j} {k} d branches h g lt =
      let r = g (d + length (named d n.ops n.res).ops) in
      record { is = omega (arith, h.is, r.is, named_light d n.ops n.res, more_share (i + j) k lt) }

  branch_light : {n : Norm} {bs : AnfBranches} {m i j k : ℕ} (d : ℕ) → Light n i → BranchesLight bs j → i + j ≤ k → BranchesLight (Branch m (sealed d n) bs) k
  branch_light {i = i} {j} {k} d h g le = record { is = omega (arith, sealed_light d h, g.is, same_share (i + j) k le) }

  def_light : {n : Norm} {ds : AnfDefs} {i j k : ℕ} (d : ℕ) → Light n i → DefsLight ds j → i + j < k → DefsLight (LamDef (sealed d n) ds) k
  def_light {i = i} {j} {k} d h g lt = record { is = omega (arith, sealed_light d h, g.is, more_share (i + j) k lt) }

  boxed_light : {ds : AnfDefs} {j k : ℕ} → DefsLight ds j → j < k → DefsLight (BoxDef ds) k
  boxed_light {j = j} {k} g lt = record { is = omega (arith, g.is, more_share j k lt) }

  module _ (number : Name → ℕ) where
    mutual
      norm_light : (env : List _) (d : ℕ) (t : BoxTerm) → Light (norm number env d t) (nodes t)
      norm_light env d (Rel i) = record { is = omega arith }
      norm_light env d Box = record { is = omega arith }
      norm_light env d (BLambda b) = lambda_light (suc d) (norm_light _ (suc d) b) (omega arith)
      norm_light env d (BLetIn a b) = let_light d (λ e x. norm number (x ∷ env) e b) (norm_light env d a) (λ e x. norm_light (x ∷ env) e b) (omega arith)
      norm_light env d (BApp f a) = let h = norm_light env d f in arg_light d (nodes f) (norm number env d f).ops (norm number env d f).res (λ e. norm number env e a) h.is (λ e. norm_light env e a) (omega arith)
      norm_light env d (BConst k) = record { is = omega arith }
      norm_light env d (BConstruct f k) = record { is = omega arith }
      norm_light env d (BCase f t bs) = case_light d (λ e. norm_branches number env e bs) (norm_light env d t) (λ e. branches_light env e bs) (omega arith)
      norm_light env d (BFix i rargs bodies) = let h = defs_light env d (length rargs) bodies in record { is = omega (arith, h.is) }

      branches_light : (env : List _) (d : ℕ) (bs : BoxTerms) → BranchesLight (norm_branches number env d bs) (nodes_trees bs)
      branches_light env d Done = record { is = omega arith }
      branches_light env d (Next n b rest) = branch_light (d + n) (norm_light (levels d n env) (d + n) b) (branches_light env d rest) (omega arith)

      defs_light : (env : List _) (d n : ℕ) (bodies : BoxTerms) → DefsLight (norm_defs number env d n bodies) (nodes_trees bodies)
      defs_light env d n Done = record { is = omega arith }
      defs_light env d n (Next m (BLambda b) rest) = def_light (suc (d + n)) (norm_light _ (suc (d + n)) b) (defs_light env d n rest) (omega arith)
      defs_light env d n (Next m b rest) = boxed_light (defs_light env d n rest) (omega (arith, some_node b))

    code_light : (t : BoxTerm) → normal_weight c (code_of number t) + 31 ≤ nodes t * share
    code_light t = sealed_light 0 (norm_light [] 0 t)

    constants_light : (cs : List BoxConstant) → normal_constants_weight c (map (λ (d : BoxConstant). code_of number d.body) cs) ≤ nodes_of_constants cs * share
    constants_light [] = omega arith
    constants_light (d ∷ ds) = omega (arith, code_light d.body, constants_light ds)

pub known_is_small : KnownIsSmall
known_is_small P c =
    let K = number_in P.constants in
    omega (arith, constants_light c K P.constants, code_light c K P.main)
