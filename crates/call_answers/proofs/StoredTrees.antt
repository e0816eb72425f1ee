-- The arguments in a host's store as trees, and the values that are these trees.
use Rattle.std.proofs.Common.{◌≡◌, ℕ, suc, ◌+◌, ◌*◌, ◌≤◌, List, [], ◌∷◌, ◌++◌, length, refl, sym, ap, ◌∙◌, subst, arith, append_assoc, append-nil, length-append}
use Rattle.trees.proofs.Lists.{first_same, rest_same}
use Rattle.lambda_box.specs.ClosureEvaluation.{ClosureValues}
use Rattle.lambda_box.specs.DataTerms.{ValuesHold, hold_none, hold_last}
use Rattle.anf_convert.specs.AnfData.{DataTree, Made, DataTrees, DNil, DCons, AnfIsData, anf_data, AnfAreData, anf_data_none, anf_data_more}
use Rattle.anf_convert.specs.AnfEvaluation.{AnfVal, WCon, AnfVals, WNil, WCons}
use Rattle.anf_convert.specs.Preorder.{fields_of as count, preorder, preorders}
use Rattle.anf_convert.specs.ToAnfKeeps as keeps
use Rattle.anf_convert.specs.ToAnfKeeps.{ValuesAre, and_value}
use Rattle.anf_convert.proofs.Preorder.{reads_tree}
use Rattle.closure_lift.specs.Lifted.{Val, VCon, Vals, VNil, VCons}
use Rattle.closure_lift.specs.LiftKeeps.{IsData, is_data, AreData, are_data_none, are_data_more}
use Rattle.wasm_core.specs.Memory.{word}
use Rattle.wasm_core.specs.WordData.{DataNodes, IsBlock, IsBelow}
use Rattle.wasm_core.specs.StoredData as within
use Rattle.wasm_core.specs.StoredData.{StandsWithin, FieldsWithin, ArgumentsWithin}
use Rattle.wasm_emit.specs.CallLaws.{Stored, stored_odd, stored_block, FieldsStored, no_fields, last_field, ArgumentsStored, no_arguments, last_argument}
use Rattle.call_answers.specs.EveryCall.{listed}

pub listed_count : (ds : DataTrees) → length (listed ds) ≡ count ds
listed_count DNil = refl
listed_count (DCons d ds) = let l = length-append (listed ds) (preorder d ∷ []) in omega (arith, l, listed_count ds)

-- ---- nodes determine their trees

mutual
  one_tree : (d d' : DataTree) (xs ys : DataNodes) → preorder d ++ xs ≡ preorder d' ++ ys → (d ≡ d') × (xs ≡ ys)
  one_tree (Made c ds) (Made c' ds') xs ys e =
      let h : (c, count ds) ≡ (c', count ds') = first_same e in
      let r = one_trees ds ds' xs ys (ap (λ p. p.1) h) (rest_same e) in
      ((λ i. Made (h i).0 (r.0 i)), r.1)

  one_trees : (ds ds' : DataTrees) (xs ys : DataNodes) → count ds ≡ count ds' → preorders ds ++ xs ≡ preorders ds' ++ ys → (ds ≡ ds') × (xs ≡ ys)
  one_trees DNil DNil xs ys l e = (refl, e)
  one_trees DNil (DCons d ds) xs ys l e = absurd (omega arith)
  one_trees (DCons d ds) DNil xs ys l e = absurd (omega arith)
  one_trees (DCons d ds) (DCons d' ds') xs ys l e =
      let r = one_trees ds ds' (preorder d ++ xs) (preorder d' ++ ys) (omega arith) (sym (append_assoc (preorders ds) (preorder d) xs) ∙ e ∙ append_assoc (preorders ds') (preorder d') ys) in
      let q = one_tree d d' xs ys r.1 in
      ((λ i. DCons (q.0 i) (r.0 i)), q.1)

last_same : (xs ys : List DataNodes) (x y : DataNodes) → xs ++ x ∷ [] ≡ ys ++ y ∷ [] → (xs ≡ ys) × (x ≡ y)
last_same [] [] x y e = (refl, first_same e)
last_same [] (z ∷ ys) x y e = let l = ap length e in let k = length-append ys (y ∷ []) in absurd (omega (arith, l, k))
last_same (z ∷ xs) [] x y e = let l = ap length e in let k = length-append xs (x ∷ []) in absurd (omega (arith, l, k))
last_same (w ∷ xs) (z ∷ ys) x y e = let r = last_same xs ys x y (rest_same e) in let h = first_same e in ((λ i. h i ∷ r.0 i), r.1)

pub one_list : (ds ds' : DataTrees) → listed ds ≡ listed ds' → ds ≡ ds'
one_list DNil DNil e = refl
one_list DNil (DCons d ds) e = let l = ap length e in let k = length-append (listed ds) (preorder d ∷ []) in absurd (omega (arith, l, k))
one_list (DCons d ds) DNil e = let l = ap length e in let k = length-append (listed ds) (preorder d ∷ []) in absurd (omega (arith, l, k))
one_list (DCons d ds) (DCons d' ds') e =
    let r = last_same (listed ds) (listed ds') (preorder d) (preorder d') e in
    let p = one_list ds ds' r.0 in
    let q = one_tree d d' [] [] (append-nil (preorder d) ∙ r.1 ∙ sym (append-nil (preorder d'))) in
    λ i. DCons (q.0 i) (p i)

-- ---- what stands in memory is a tree

record TreeStored (memory : List ℕ) (high w : ℕ) (d : DataNodes) : Type 0 where
  tree : DataTree
  stored : Stored memory high w tree
  same : preorder tree ≡ d

record FieldsMade (memory : List ℕ) (high block n : ℕ) (d : DataNodes) : Type 0 where
  trees : DataTrees
  stored : FieldsStored memory high block trees
  number : count trees ≡ n
  same : preorders trees ≡ d

mutual
  tree_stored : {memory : List ℕ} {low high w : ℕ} {d : DataNodes} → StandsWithin memory low high w d → TreeStored memory high w d
  tree_stored (within.odd {c = c} lt e) = record { tree = Made c DNil; stored = stored_odd lt e; same = refl }
  tree_stored {memory} {high = high} (within.block {c = c} {arity = arity} {w = w} b above below fs) =
      let z : w + 4 ≡ w + 4 * suc 0 = omega arith in
      let r = fields_stored fs DNil no_fields z in
      let number : count r.trees ≡ arity = omega (arith, r.number) in
      record {
        tree = Made c r.trees;
        stored = stored_block (subst (λ n. IsBlock memory w n c) (sym number) b) (omega (arith, below, number)) r.stored;
        same = λ i. (c, number i) ∷ r.same i;
      }

  fields_stored : {memory : List ℕ} {low high block at left : ℕ} {data' : DataNodes} → FieldsWithin memory low high block at left data' → (before : DataTrees) → FieldsStored memory high block before →
      at ≡ block + 4 * suc (count before) → FieldsMade memory high block (count before + left) (preorders before ++ data')
  fields_stored within.no_field before stored e = record { trees = before; stored = stored; number = omega arith; same = sym (append-nil (preorders before)) }
  fields_stored {memory} {high = high} {block = block} (within.field {at = at} {left = left} {first = first} {others = others} s below rest) before stored e =
      let x = tree_stored s in
      let here : FieldsStored memory high block (DCons x.tree before) =
      last_field (subst (λ a. Stored memory high (word memory a) x.tree) e x.stored) (subst (λ a. IsBelow block (word memory a)) e below) stored in
      let z : at + 4 ≡ block + 4 * suc (suc (count before)) = omega (arith, e) in
      let r = fields_stored rest (DCons x.tree before) here z in
      record {
        trees = r.trees;
        stored = r.stored;
        number = omega (arith, r.number);
        same = r.same ∙ ap (λ d. (preorders before ++ d) ++ others) x.same ∙ append_assoc (preorders before) first others;
      }

pub record ArgumentsMade (memory : List ℕ) (high address : ℕ) (args : List DataNodes) : Type 0 where
  pub trees : DataTrees
  pub stored : ArgumentsStored memory high address trees
  pub same : listed trees ≡ args

arguments_made : {memory : List ℕ} {low high at : ℕ} {args : List DataNodes} (address : ℕ) → ArgumentsWithin memory low high at args → (before : DataTrees) → ArgumentsStored memory high address before →
    at ≡ address + 4 * count before → address + 4 * (count before + length args) ≤ high → ArgumentsMade memory high address (listed before ++ args)
arguments_made address within.no_argument before stored e room = record { trees = before; stored = stored; same = sym (append-nil (listed before)) }
arguments_made {memory} {high = high} address (within.argument {at = at} {d = d} {ds = ds} s rest) before stored e room =
    let x = tree_stored s in
    let here : ArgumentsStored memory high address (DCons x.tree before) = last_argument (subst (λ a. Stored memory high (word memory a) x.tree) e x.stored) (omega (arith, room)) stored in
    let z : at + 4 ≡ address + 4 * suc (count before) = omega (arith, e) in
    let r = arguments_made address rest (DCons x.tree before) here z (omega (arith, room)) in
    record { trees = r.trees; stored = r.stored; same = r.same ∙ ap (λ n. (listed before ++ n ∷ []) ++ ds) x.same ∙ append_assoc (listed before) (d ∷ []) ds }

pub arguments_stored : {memory : List ℕ} {low high : ℕ} {args : List DataNodes} (address : ℕ) → ArgumentsWithin memory low high address args → address + 4 * length args ≤ high → ArgumentsMade memory high address args
arguments_stored address h room = let z : address ≡ address + 4 * 0 = omega arith in arguments_made address h DNil no_arguments z (omega (arith, room))

-- ---- the values that are trees

pub record HeldTrees (vs : ClosureValues) (args : List DataNodes) : Type 0 where
  pub trees : DataTrees
  pub are : ValuesAre vs trees
  pub same : listed trees ≡ args

pub held_trees : {vs : ClosureValues} {args : List DataNodes} → ValuesHold vs args → HeldTrees vs args
held_trees hold_none = record { trees = DNil; are = keeps.no_values; same = refl }
held_trees (hold_last {v = v} {d = d} hs h) =
    let r = held_trees hs in
    let x = reads_tree v d h in
    record { trees = DCons x.0 r.trees; are = and_value x.1 r.are; same = λ i. r.same i ++ x.2 i ∷ [] }

mutual
  anf_tree : (d : DataTree) → (v : AnfVal) × AnfIsData v d
  anf_tree (Made c ds) = let r = anf_trees ds in (WCon c r.0, anf_data r.1)

  pub anf_trees : (ds : DataTrees) → (vs : AnfVals) × AnfAreData vs ds
  anf_trees DNil = (WNil, anf_data_none)
  anf_trees (DCons d ds) = let x = anf_tree d in let r = anf_trees ds in (WCons x.0 r.0, anf_data_more x.1 r.1)

mutual
  lifted_tree : (d : DataTree) → (v : Val) × IsData v d
  lifted_tree (Made c ds) = let r = lifted_trees ds in (VCon c r.0, is_data r.1)

  pub lifted_trees : (ds : DataTrees) → (vs : Vals) × AreData vs ds
  lifted_trees DNil = (VNil, are_data_none)
  lifted_trees (DCons d ds) = let x = lifted_tree d in let r = lifted_trees ds in (VCons x.0 r.0, are_data_more x.1 r.1)
