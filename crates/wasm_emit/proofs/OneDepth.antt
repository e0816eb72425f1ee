-- Evaluation of lifted programs is determined, and so is its call depth.
use Rattle.std.proofs.Common.{◌≡◌, ℕ, Bool, true, false, List, max, refl, sym, ap, ◌∙◌, subst}
use Rattle.std.specs.Prelude.{slice_get}
use Rattle.std.proofs.lemmas.Option.{same_Some}
use Rattle.anf_convert.specs.declared.program.Atom.{Atom}
use Rattle.anf_convert.specs.declared.program.Atom.TheVariants.{Var as AVar}
use Rattle.closure_lift.specs.Lifted.{Op, AppOp, Block, BranchBlocks, Fn, Program, Val, VBox, VCon, VClos, Vals, VNil, VCons, ◌+v◌, size, BranchAt, branch_here, branch_after, Is, is_var, is_box, is_empty, AllAre, are_none, are_more, Does, do_const, do_app, do_box_app, do_con, do_clos, do_case, Gets, gets_atom, gets_let_atom, gets_ret, gets_let, LiftedAnswers, answers_alone, answers_applied}
use Rattle.wasm_emit.specs.CallDepth.{with_call, op_depth, block_depth, call_depth, CallDepthsAreOne}

one_atom : {e : Vals} {a : Atom} {v u : Val} → Is e a v → Is e a u → v ≡ u
one_atom (is_var at) (is_var at') = same_Some _ _ (sym at ∙ at')
one_atom is_box is_box = refl
one_atom is_empty is_empty = refl

one_each : {e : Vals} {as' : List Atom} {vs us : Vals} → AllAre e as' vs → AllAre e as' us → vs ≡ us
one_each are_none are_none = refl
one_each (are_more h hs) (are_more g gs) = let x = one_atom h g in let xs = one_each hs gs in λ i. VCons (x i) (xs i)

one_branch : {bs : BranchBlocks} {i n n' : ℕ} {t t' : Block} → BranchAt bs i n t → BranchAt bs i n' t' → t ≡ t'
one_branch branch_here branch_here = refl
one_branch (branch_after a) (branch_after b) = one_branch a b

abbrev number_of : Val → ℕ
number_of VBox = 0
number_of (VCon c vs) = c
number_of (VClos f vs) = f

abbrev words_of : Val → Vals
words_of VBox = VNil
words_of (VCon c vs) = vs
words_of (VClos f vs) = vs

closure_not_box : {f : ℕ} {vs : Vals} → VClos f vs ≡ VBox → ⊥
closure_not_box e = cc

module _ {P : Program} {w w' : ℕ} where
  mutual
    one_op : {e : Vals} {op : Op} {v u : Val} {c c' k k' b b' l l' : ℕ} (tail : Bool) (h : Does P w e op v c k b l) (g : Does P w' e op u c' k' b' l') → (v ≡ u) × (op_depth tail h ≡ op_depth tail g)
    one_op {v = v} {u = u} tail (do_const at g) (do_const {c = c'} {k = k'} {b = b'} {l = l'} at' g') =
        let x = subst (λ t. (q : Gets P w' VNil t u c' k' b' l') → (v ≡ u) × (block_depth true g ≡ block_depth true q)) (same_Some _ _ (sym at ∙ at')) (λ q. one_block true g q) g' in
        (x.0, ap (with_call tail) x.1)
    one_op {v = v} {u = u} tail (do_app {e' = e1} {g = f} {fn = fn} {v = a} isf isa at sz g) (do_app {e' = e2} {g = f'} {fn = fn'} {v = a'} {c = c'} {k = k'} {b = b'} {l = l'} isf' isa' at' sz' g') =
        let same = one_atom isf isf' in
        let args = one_atom isa isa' in
        let env : VCons a e1 ≡ VCons a' e2 = λ i. VCons (args i) (words_of (same i)) in
        let body : fn.body ≡ fn'.body = ap (λ (f : Fn). f.body) (same_Some _ _ (sym at ∙ ap (λ y. slice_get P.functions (number_of y)) same ∙ at')) in
        let x = subst (λ t. (q : Gets P w' (VCons a' e2) t u c' k' b' l') → (v ≡ u) × (block_depth true g ≡ block_depth true q)) body
        (subst (λ y. (q : Gets P w' y fn.body u c' k' b' l') → (v ≡ u) × (block_depth true g ≡ block_depth true q)) env (λ q. one_block true g q)) g' in
        (x.0, ap (with_call tail) x.1)
    one_op tail (do_app isf isa at sz g) (do_box_app isf' isa') = absurd (closure_not_box (one_atom isf isf'))
    one_op tail (do_box_app isf isa) (do_app isf' isa' at sz g) = absurd (closure_not_box (one_atom isf' isf))
    one_op tail (do_box_app isf isa) (do_box_app isf' isa') = (refl, refl)
    one_op tail (do_con {c = n} narrow all) (do_con narrow' all') = (ap (VCon n) (one_each all all'), refl)
    one_op tail (do_clos {g = f} narrow all) (do_clos narrow' all') = (ap (VClos f) (one_each all all'), refl)
    one_op {e = e} {v = v} {u = u} tail (do_case {bs = bs} {i = i} {vs = vs} {t = t} isa at g) (do_case {i = i'} {vs = us} {t = t'} {c = c'} {k = k'} {b = b'} {l = l'} isa' at' g') =
        let same = one_atom isa isa' in
        let env : (vs +v e) ≡ (us +v e) = ap (λ y. words_of y +v e) same in
        let body : t ≡ t' = one_branch at (subst (λ y. BranchAt bs (number_of y) (size us) t') (sym same) at') in
        subst (λ t. (q : Gets P w' (us +v e) t u c' k' b' l') → (v ≡ u) × (block_depth tail g ≡ block_depth tail q)) body
        (subst (λ y. (q : Gets P w' y t u c' k' b' l') → (v ≡ u) × (block_depth tail g ≡ block_depth tail q)) env (λ q. one_block tail g q)) g'

    one_block : {e : Vals} {t : Block} {v u : Val} {c c' k k' b b' l l' : ℕ} (tail : Bool) (h : Gets P w e t v c k b l) (g : Gets P w' e t u c' k' b' l') → (v ≡ u) × (block_depth tail h ≡ block_depth tail g)
    one_block tail (gets_atom is) (gets_atom is') = (one_atom is is', refl)
    one_block {e = e} {v = r} {u = u} tail (gets_let_atom is g) (gets_let_atom {t = t} {c = c'} {k = k'} {b = b'} {l = l'} is' g') =
        subst (λ x. (q : Gets P w' (VCons x e) t u c' k' b' l') → (r ≡ u) × (block_depth tail g ≡ block_depth tail q)) (one_atom is is') (λ q. one_block tail g q) g'
    one_block tail (gets_ret d) (gets_ret d') = one_op tail d d'
    one_block {e = e} {v = r} {u = u} tail (gets_let d g) (gets_let {t = t} {c' = c'} {k' = k'} {b' = b'} {l' = l'} d' g') =
        let x = one_op false d d' in
        let y = subst (λ z. (q : Gets P w' (VCons z e) t u c' k' b' l') → (r ≡ u) × (block_depth tail g ≡ block_depth tail q)) x.0 (λ q. one_block tail g q) g' in
        (y.0, λ i. max (x.1 i) (y.1 i))

  one_main : {args : Vals} {v u : Val} {c c' k k' b b' l l' : ℕ} (h : LiftedAnswers P w args v c k b l) (g : LiftedAnswers P w' args u c' k' b' l') → (v ≡ u) × (call_depth h ≡ call_depth g)
  one_main (answers_alone g) (answers_alone g') = one_block false g g'
  one_main {v = r} {u = u} (answers_applied h d) (answers_applied {a = a} {c = c'} {k = k'} {b = b'} {l = l'} h' d') =
      let x = one_main h h' in
      let y = subst (λ z. (q : Does P w' (VCons a (VCons z VNil)) (AppOp (AVar 1) (AVar 0)) u c' k' b' l') → (r ≡ u) × (op_depth false d ≡ op_depth false q)) x.0 (λ q. one_op false d q) d' in
      (y.0, λ i. max (x.1 i) (y.1 i))

pub call_depths_are_one : CallDepthsAreOne
call_depths_are_one P args x y = (one_main x.evaluates y.evaluates).1
