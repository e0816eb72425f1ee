use Rattle.std.proofs.Common.{rules, arith, ◌≡◌, ◌<◌, ◌≤◌, ◌+◌, ◌-◌, ◌*◌, [], ◌∷◌, ◌++◌, length, drop, take, map, refl, sym, ap, ◌∙◌, subst, Err}
use Rattle.std.proofs.lemmas.Grind.{common_steps}
use Rattle.std.proofs.lemmas.Result.{IfOk-weaker}
use Rattle.std.specs.Prelude.{slice_set}
use Rattle.anf_convert.specs.Anf.{LamOp, block_of, tail_of, def_count}
use Rattle.anf_convert.specs.AnfView.{seen as seen_anf, bindings_of, branches_of, defs_of}
use Rattle.anf_convert.specs.AnfWeight.{binding_weight, block_weight, branches_weight, defs_weight}
use Rattle.anf_convert.specs.Captured.{Plain, plains, lam_captured, fix_captured}
use Rattle.closure_lift.specs.Lift.{held, lift_block, lift_branches, functions_block}
use Rattle.closure_lift.specs.Lifted.{ClosOp, OpIs}
use Rattle.closure_lift.specs.Lifted as lifted
use Rattle.closure_lift.specs.LiftedView.{seen, bounds_of, functions_of}
use Rattle.closure_lift.specs.FreeVariables.{size, notes_defs}
use Rattle.closure_lift.specs.Lifting.{Stand, PlacesFor, function_with, definitions, blanks, most_words}
use Rattle.closure_lift.specs.CapturedLimit.{OpCaptures, BlockCaptures, BranchesCapture, DefsCapture}
use Rattle.closure_lift.proofs.Going.{block_ends, frame_left, variables_left, defs_start, functions_more}
use Rattle.closure_lift.proofs.Lighter.{op_lighter, tail_lighter, arm_lighter, def_weight, def_lighter}
use Rattle.closure_lift.proofs.Steps.{captures_back}
use Rattle.closure_lift.proofs.Walking.{refused_by, lam_words, lam_stand, lam_functions, fix_stand, fix_places, fix_functions, fix_scope, fix_left, plains_left}
use Rattle.closure_lift.proofs.Written.{op_stands, arm_stands, inside_stands, def_stands, op_captures, arm_captures, def_captures, goes_on, goes_last, last_stands, arms_on, arms_end, defs_on, def_room, defs_last}
use Rattle.closure_lift.proofs.lift.+lift.Goals as goal

-- ---- a lambda
pub lift_lambda-lift_body-requires : goal.lift_lambda-lift_body-requires
lift_lambda-lift_body-requires t c =
    let v = c.args.variables.now in
    let b = c.args.body.now in
    let d : 4 * block_weight b + 1 < 4 * block_weight b + 2 = omega arith in
    (search (rules, d), lam_stand c.args.notes.now v.0 v.1 b c.args.functions.now.items c.requires.notes c.reserve.new.functions.items c.in_ok-reserve.ensures.functions)

pub lift_lambda-put-requires : goal.lift_lambda-put-requires
lift_lambda-put-requires t c =
    let v = c.args.variables.now in
    let fs0 = c.args.functions.now.items in
    let fs1 = c.reserve.new.functions.items in
    let fs2 = c.lift_body.new.functions.items in
    let g : c.len-at.result ≡ length fs0 = search rules in
    let inner = functions_block (Plain v.0) (0 ∷ v.1) (length fs1) c.args.body.now in
    let m1 : length fs1 ≡ length fs0 + 1 = functions_more fs0 fs1 (blanks 1) 1 c.in_ok-reserve.ensures.functions refl in
    let m2 : length fs2 ≡ length fs1 + length inner = functions_more fs1 fs2 inner (length inner) c.in_ok-lifted.ensures.functions refl in
    let h : c.len-at.result < length fs2 = omega arith in
    record { here = h }

pub lift_lambda-returns-clause-captures : goal.lift_lambda-returns-clause-captures
lift_lambda-returns-clause-captures t c =
    let v = c.args.variables.now in
    let fs0 = c.args.functions.now.items in
    let g : c.len-at.result ≡ length fs0 = search rules in
    let ew : c.in_ok-words.words ≡ lam_captured v.0 c.args.body.now =
    c.in_ok-words.ensures.is ∙ lam_words c.args.notes.now v.0 v.1 c.args.body.now fs0 c.requires.notes c.len-at.result g in
    let told : OpCaptures most_words v.0 (LamOp c.args.body.now) = (subst (λ ws. length ws < most_words) ew c.in_ok-words.ensures.few, c.in_ok-lifted.ensures.captures) in
    IfOk-weaker c.closure_of.result _ _ (λ _ _. told) c.closure_of.ensures.is

pub lift_lambda-returns-clause-functions : goal.lift_lambda-returns-clause-functions
lift_lambda-returns-clause-functions t c =
    let v = c.args.variables.now in
    let fs0 = c.args.functions.now.items in
    let fs2 = c.lift_body.new.functions.items in
    let ws = c.in_ok-words.words in
    let t1 = c.in_ok-lifted.lifted in
    let g : c.len-at.result ≡ length fs0 = search rules in
    let ew : ws ≡ lam_captured v.0 c.args.body.now = c.in_ok-words.ensures.is ∙ lam_words c.args.notes.now v.0 v.1 c.args.body.now fs0 c.requires.notes c.len-at.result g in
    let told = (lam_functions c.args.notes.now v.0 v.1 c.args.body.now fs0 c.requires.notes c.reserve.new.functions.items c.in_ok-reserve.ensures.functions fs2 c.put.new.functions.items ws t1 c.in_ok-lifted.ensures.functions (c.in_ok-put.ensures.put ∙ ap (λ k. slice_set (functions_of fs2) k (function_with ws t1)) g) c.in_ok-lifted.ensures.body ew) in
    IfOk-weaker c.closure_of.result _ _ (λ _ _. told) c.closure_of.ensures.is

pub lift_lambda-returns-clause-op : goal.lift_lambda-returns-clause-op
lift_lambda-returns-clause-op t c =
    let v = c.args.variables.now in
    let fr = c.args.frame.now in
    let fs0 = c.args.functions.now.items in
    let ws = c.in_ok-words.words in
    let g : c.len-at.result ≡ length fs0 = search rules in
    let g0 : c.len-at.result + 0 ≡ length fs0 = omega arith in
    let ew : ws ≡ lam_captured v.0 c.args.body.now = c.in_ok-words.ensures.is ∙ lam_words c.args.notes.now v.0 v.1 c.args.body.now fs0 c.requires.notes c.len-at.result g in
    IfOk-weaker c.closure_of.result (λ o. seen o ≡ OpIs (ClosOp (c.len-at.result + 0) (map (held fr) ws))) (λ o. seen o ≡ OpIs (ClosOp (length fs0) (map (held fr) (lam_captured v.0 c.args.body.now))))
    (λ o p. p ∙ ap (λ k. OpIs (ClosOp k (map (held fr) ws))) g0 ∙ ap (λ ws. OpIs (ClosOp (length fs0) (map (held fr) ws))) ew) c.closure_of.ensures.is

pub lift_lambda-returns-in_err-words-clause-refused : goal.lift_lambda-returns-in_err-words-clause-refused
lift_lambda-returns-in_err-words-clause-refused t c =
    let v = c.args.variables.now in
    let fs0 = c.args.functions.now.items in
    let g : c.len-at.result ≡ length fs0 = search rules in
    let q : c.from_residual.result ≡ Err c.in_err-words.field-0.0 = search rules in
    let e = lam_words c.args.notes.now v.0 v.1 c.args.body.now fs0 c.requires.notes c.len-at.result g in
    refused_by c.from_residual.result c.in_err-words.field-0.0 q (λ r. subst (λ ws. length ws < most_words) (sym e) r.0) c.in_err-words.ensures.refused

-- ---- a fixpoint
pub lift_fix-lift_defs-requires : goal.lift_fix-lift_defs-requires
lift_fix-lift_defs-requires t c =
    let v = c.args.variables.now in
    let ds = c.args.defs.now in
    let fs0 = c.args.functions.now.items in
    let fs1 = c.reserve.new.functions.items in
    let g : c.len-at.result ≡ length fs0 = search rules in
    let ew : c.in_ok-words.words.value ≡ fix_captured v.0 ds = c.in_ok-words.ensures.is ∙ c.in_ok-fix_words.ensures.is in
    let ec : c.in_ok-number_of.field-0 ≡ def_count ds = c.in_ok-number_of.ensures.is ∙ c.len-count.ensures.is in
    let scope = fix_scope v.0 v.1 ds c.len-at.result c.in_ok-number_of.field-0 c.in_ok-words.words.value c.in_ok-push_fixes.ensures.ok ew ec in
    let e1 : functions_of fs1 ≡ functions_of fs0 ++ blanks (def_count ds) = c.in_ok-reserve.ensures.functions ∙ ap (λ n. functions_of fs0 ++ blanks n) c.len-count.ensures.is in
    let st = fix_stand c.args.notes.now v.0 v.1 ds fs0 c.requires.notes fs1 e1 (fix_captured v.0 ds) in
    let places = subst (λ g. PlacesFor g (def_count ds) (functions_of fs1)) (sym g) (fix_places c.args.notes.now v.0 v.1 ds fs0 c.requires.notes fs1 e1) in
    let d : 4 * defs_weight ds < 4 * defs_weight ds + 1 = omega arith in
    (search (rules, d), (subst (λ k. Stand c.args.notes.now (length fs1) (notes_defs k ds)) (sym (ap (λ v. size v.0) scope)) st, places))

pub lift_fix-returns-clause-functions : goal.lift_fix-returns-clause-functions
lift_fix-returns-clause-functions t c =
    let v = c.args.variables.now in
    let ds = c.args.defs.now in
    let fs0 = c.args.functions.now.items in
    let fs1 = c.reserve.new.functions.items in
    let g : c.len-at.result ≡ length fs0 = search rules in
    let ew : c.in_ok-words.words.value ≡ fix_captured v.0 ds = c.in_ok-words.ensures.is ∙ c.in_ok-fix_words.ensures.is in
    let ec : c.in_ok-number_of.field-0 ≡ def_count ds = c.in_ok-number_of.ensures.is ∙ c.len-count.ensures.is in
    let scope = fix_scope v.0 v.1 ds c.len-at.result c.in_ok-number_of.field-0 c.in_ok-words.words.value c.in_ok-push_fixes.ensures.ok ew ec in
    let e1 : functions_of fs1 ≡ functions_of fs0 ++ blanks (def_count ds) = c.in_ok-reserve.ensures.functions ∙ ap (λ n. functions_of fs0 ++ blanks n) c.len-count.ensures.is in
    let wv : c.deref.result.now ≡ c.in_ok-words.words.value = search rules in
    let told = (fix_functions c.args.notes.now v.0 v.1 ds fs0 c.requires.notes fs1 e1 c.lift_defs.new.functions.items c.push_fixes.new.variables c.deref.result.now c.len-at.result scope (wv ∙ ew) g c.in_ok-lift_defs.ensures.functions) in
    IfOk-weaker c.closure_of.result _ _ (λ _ _. told) c.closure_of.ensures.is

pub lift_fix-returns-clause-variables : goal.lift_fix-returns-clause-variables
lift_fix-returns-clause-variables t c =
    let v = c.args.variables.now in
    let ds = c.args.defs.now in
    let ew : c.in_ok-words.words.value ≡ fix_captured v.0 ds = c.in_ok-words.ensures.is ∙ c.in_ok-fix_words.ensures.is in
    let ec : c.in_ok-number_of.field-0 ≡ def_count ds = c.in_ok-number_of.ensures.is ∙ c.len-count.ensures.is in
    let scope = fix_scope v.0 v.1 ds c.len-at.result c.in_ok-number_of.field-0 c.in_ok-words.words.value c.in_ok-push_fixes.ensures.ok ew ec in
    let told = (variables_left (def_count ds) c.len-count.result c.len-count.ensures.is c.in_ok-lift_defs.ensures.variables c.forget.ensures.is (fix_left (fix_captured v.0 ds) v.0 v.1 c.len-at.result (def_count ds) scope)) in
    IfOk-weaker c.closure_of.result _ _ (λ _ _. told) c.closure_of.ensures.is

-- ---- a block
pub lift_block_in-lift_op-requires : goal.lift_block_in-lift_op-requires
lift_block_in-lift_op-requires t c =
    let ops = c.as_slice-ops.result.now in
    let o = c.index-ops-i.result in
    let tl = c.block.inside.tail in
    let w : binding_weight (seen_anf o) < block_weight c.args.block.now = subst (λ b. binding_weight (seen_anf o) < block_weight b) c.block.view_is
    (subst (λ ps. binding_weight (seen_anf o) < block_weight (block_of ps (tail_of (seen_anf tl)))) c.as_slice-ops.ensures.is (op_lighter ops c.loop-i.i o tl c.loop-i-test.true c.index-ops-i.is)) in
    let d : 4 * binding_weight (seen_anf o) < 4 * block_weight c.args.block.now = omega arith in
    (search (rules, d), op_stands c.args.notes.now (length c.loop-i.functions.items) (size c.loop-i.variables.0) ops c.loop-i.i o (tail_of (seen_anf tl)) c.loop-i-test.true c.index-ops-i.is c.loop-i.invariant.stand)

pub lift_block_in-loop-i-preserved : goal.lift_block_in-loop-i-preserved
lift_block_in-loop-i-preserved t c =
    let ops = c.as_slice-ops.result.now in
    let tl = tail_of (seen_anf c.block.inside.tail) in
    let e = c.in_ok-op.ensures in
    let b = c.in_ok-bind.ensures in
    goes_on c.args.notes.now c.args.variables.now c.args.frame.now c.args.functions.now.items (block_of (bindings_of ops) tl) c.loop-i.i c.loop-i.variables c.loop-i.frame c.loop-i.functions.items c.loop-i.code.items ops
    c.index-ops-i.result tl c.loop-i.invariant c.loop-i-test.true c.index-ops-i.is c.lift_op.new.frame c.lift_op.new.code.items c.bind.new.code.items c.in_ok-op.op c.lift_op.new.functions.items c.lift_op.new.variables
    c.bind.new.variables c.bind.new.frame e.op e.frame e.code e.functions e.captures e.variables b.code b.variables b.frame

pub lift_block_in-lift_op-requires-2 : goal.lift_block_in-lift_op-requires-2
lift_block_in-lift_op-requires-2 t c =
    let ops = c.as_slice-ops.result.now in
    let tl = c.block.inside.tail in
    let le : length ops ≤ c.loop-i.i = omega arith in
    let w : binding_weight (seen_anf tl) < block_weight c.args.block.now = subst (λ b. binding_weight (seen_anf tl) < block_weight b) c.block.view_is (tail_lighter c.block.inside.bindings tl) in
    let d : 4 * binding_weight (seen_anf tl) < 4 * block_weight c.args.block.now = omega arith in
    let all = block_of (bindings_of ops) (tail_of (seen_anf tl)) in
    let last = goes_last c.args.notes.now c.args.variables.now c.args.frame.now c.args.functions.now.items all c.loop-i.i c.loop-i.variables c.loop-i.frame c.loop-i.functions.items c.loop-i.code.items ops (tail_of (seen_anf tl))
    c.loop-i.invariant le in
    (search (rules, d), last_stands c.args.notes.now c.args.variables.now c.args.frame.now c.args.functions.now.items all c.loop-i.i c.loop-i.variables c.loop-i.frame c.loop-i.functions.items c.loop-i.code.items tl last)

pub lift_block_in-returns-clause-block : goal.lift_block_in-returns-clause-block
lift_block_in-returns-clause-block t c =
    let v = c.args.variables.now in
    let ops = c.as_slice-ops.result.now in
    let tl = c.block.inside.tail in
    let le : length ops ≤ c.loop-i.i = omega arith in
    let all = block_of (bindings_of ops) (tail_of (seen_anf tl)) in
    let e = c.in_ok-tail.ensures in
    let last = goes_last c.args.notes.now v c.args.frame.now c.args.functions.now.items all c.loop-i.i c.loop-i.variables c.loop-i.frame c.loop-i.functions.items c.loop-i.code.items ops (tail_of (seen_anf tl)) c.loop-i.invariant le in
    let end = block_ends c.args.notes.now v c.args.frame.now c.args.functions.now.items all c.loop-i.i c.loop-i.variables c.loop-i.frame c.loop-i.functions.items (bounds_of c.loop-i.code.items) (seen_anf tl) last c.lift_op-2.new.frame
    (bounds_of c.lift_op-2.new.code.items) (seen c.in_ok-tail.tail) c.lift_op-2.new.functions.items e.op e.frame e.code e.functions e.captures in
    let same : all ≡ c.args.block.now = ap (λ ps. block_of ps (tail_of (seen_anf tl))) c.as_slice-ops.ensures.is ∙ c.block.view_is in
    ap (λ z. lifted.block_of z (lifted.tail_of (seen c.in_ok-tail.tail))) c.of.ensures.is ∙ end.block ∙ ap (lift_block v.0 v.1 c.args.frame.now (length c.args.functions.now.items)) same

pub lift_block_in-returns-clause-frame : goal.lift_block_in-returns-clause-frame
lift_block_in-returns-clause-frame t c =
    let v = c.args.variables.now in
    let ops = c.as_slice-ops.result.now in
    let tl = c.block.inside.tail in
    let le : length ops ≤ c.loop-i.i = omega arith in
    let all = block_of (bindings_of ops) (tail_of (seen_anf tl)) in
    let e = c.in_ok-tail.ensures in
    let fr1 = c.lift_op-2.new.frame in
    let last = goes_last c.args.notes.now v c.args.frame.now c.args.functions.now.items all c.loop-i.i c.loop-i.variables c.loop-i.frame c.loop-i.functions.items c.loop-i.code.items ops (tail_of (seen_anf tl)) c.loop-i.invariant le in
    let end = block_ends c.args.notes.now v c.args.frame.now c.args.functions.now.items all c.loop-i.i c.loop-i.variables c.loop-i.frame c.loop-i.functions.items (bounds_of c.loop-i.code.items) (seen_anf tl) last fr1
    (bounds_of c.lift_op-2.new.code.items) (seen c.in_ok-tail.tail) c.lift_op-2.new.functions.items e.op e.frame e.code e.functions e.captures in
    c.in_ok-shrink.ensures.ok ∙ ap (λ k. drop (length fr1 - k) fr1) c.len-outside.ensures.is ∙ end.frame

pub lift_block_in-returns-in_err-op-clause-refused : goal.lift_block_in-returns-in_err-op-clause-refused
lift_block_in-returns-in_err-op-clause-refused t c =
    let ops = c.as_slice-ops.result.now in
    let tl = tail_of (seen_anf c.block.inside.tail) in
    let q : c.from_residual.result ≡ Err c.in_err-op.field-0.0 = search rules in
    let same : block_of (bindings_of ops) tl ≡ c.args.block.now = ap (λ ps. block_of ps tl) c.as_slice-ops.ensures.is ∙ c.block.view_is in
    refused_by c.from_residual.result c.in_err-op.field-0.0 q
    (λ r. op_captures c.loop-i.variables.0 ops c.loop-i.i c.index-ops-i.result tl c.loop-i-test.true c.index-ops-i.is (c.loop-i.invariant.refuses (subst (BlockCaptures most_words c.args.variables.now.0) (sym same) r)))
    c.in_err-op.ensures.refused

pub lift_block_in-returns-in_err-tail-clause-refused : goal.lift_block_in-returns-in_err-tail-clause-refused
lift_block_in-returns-in_err-tail-clause-refused t c =
    let ops = c.as_slice-ops.result.now in
    let tl = c.block.inside.tail in
    let le : length ops ≤ c.loop-i.i = omega arith in
    let all = block_of (bindings_of ops) (tail_of (seen_anf tl)) in
    let q : c.from_residual-in_err-tail.result ≡ Err c.in_err-tail.field-0.0 = search rules in
    let same : all ≡ c.args.block.now = ap (λ ps. block_of ps (tail_of (seen_anf tl))) c.as_slice-ops.ensures.is ∙ c.block.view_is in
    let last = goes_last c.args.notes.now c.args.variables.now c.args.frame.now c.args.functions.now.items all c.loop-i.i c.loop-i.variables c.loop-i.frame c.loop-i.functions.items c.loop-i.code.items ops (tail_of (seen_anf tl))
    c.loop-i.invariant le in
    refused_by c.from_residual-in_err-tail.result c.in_err-tail.field-0.0 q (λ r. captures_back c.loop-i.variables.0 (seen_anf tl) (last.refuses (subst (BlockCaptures most_words c.args.variables.now.0) (sym same) r))) c.in_err-tail.ensures.refused

-- ---- branches
pub lift_arm-lift_block_in-requires : goal.lift_arm-lift_block_in-requires
lift_arm-lift_block_in-requires t c =
    let v = c.args.variables.now in
    let b = c.args.arm.now.body in
    let n = c.args.arm.now.binders in
    let s : c.push_words.new.variables.0 ≡ plains n v.0 = ap (λ v. v.0) c.in_ok-push_words.ensures.variables in
    let d : 4 * block_weight b < 4 * block_weight b + 1 = omega arith in
    (search (rules, d), inside_stands c.args.notes.now (length c.args.functions.now.items) n v.0 c.push_words.new.variables.0 b s c.requires.notes)

pub lift_arm-returns-clause-frame : goal.lift_arm-returns-clause-frame
lift_arm-returns-clause-frame t c =
    frame_left c.args.arm.now.binders c.args.variables.now.0 c.args.frame.now (c.in_ok-body.ensures.frame ∙ c.in_ok-push_words.ensures.frame) c.len-outside.ensures.is c.in_ok-shrink.ensures.ok

pub lift_arm-returns-clause-variables : goal.lift_arm-returns-clause-variables
lift_arm-returns-clause-variables t c =
    let v = c.args.variables.now in
    c.forget.ensures.is ∙ plains_left v.0 v.1 c.args.arm.now.binders (c.in_ok-body.ensures.variables ∙ c.in_ok-push_words.ensures.variables)

pub lift_arms-lift_arm-requires : goal.lift_arms-lift_arm-requires
lift_arms-lift_arm-requires t c =
    let arms = c.as_slice-arms.result.now in
    let b = c.index-arms-i.result in
    let w : block_weight b.body < branches_weight c.args.branches.now = subst (λ bs. block_weight b.body < branches_weight bs) c.as_slice-arms.ensures.is (arm_lighter arms c.loop-i.i b c.loop-i-test.true c.index-arms-i.is) in
    let d : 4 * block_weight b.body + 1 < 4 * branches_weight c.args.branches.now = omega arith in
    (search (rules, d), arm_stands c.args.notes.now (length c.loop-i.functions.items) (size c.loop-i.variables.0) arms c.loop-i.i b c.loop-i-test.true c.index-arms-i.is c.loop-i.invariant.stand)

pub lift_arms-loop-i-preserved : goal.lift_arms-loop-i-preserved
lift_arms-loop-i-preserved t c =
    let arms = c.as_slice-arms.result.now in
    let e = c.in_ok-arm.ensures in
    let p : c.push.new.self.items ≡ c.loop-i.items.items ++ c.in_ok-arm.arm ∷ [] = grind (arith, common_steps) in
    arms_on c.args.notes.now c.args.variables.now c.args.frame.now c.args.functions.now.items (branches_of arms) c.loop-i.variables c.loop-i.frame c.loop-i.functions.items c.loop-i.items.items arms c.loop-i.i c.index-arms-i.result
    c.loop-i.invariant c.loop-i-test.true c.index-arms-i.is c.in_ok-arm.arm c.lift_arm.new.functions.items c.lift_arm.new.variables c.lift_arm.new.frame c.push.new.self.items e.arm e.functions e.captures e.variables e.frame p

pub lift_arms-returns-clause-arms : goal.lift_arms-returns-clause-arms
lift_arms-returns-clause-arms t c =
    let v = c.args.variables.now in
    let arms = c.as_slice-arms.result.now in
    let le : length arms ≤ c.loop-i.i = omega arith in
    let end = arms_end c.args.notes.now v c.args.frame.now c.args.functions.now.items (branches_of arms) c.loop-i.variables c.loop-i.frame c.loop-i.functions.items c.loop-i.items.items arms c.loop-i.i c.loop-i.invariant le in
    c.of.ensures.is ∙ end.code ∙ ap (lift_branches v.0 v.1 c.args.frame.now (length c.args.functions.now.items)) c.as_slice-arms.ensures.is

pub lift_arms-returns-in_err-arm-clause-refused : goal.lift_arms-returns-in_err-arm-clause-refused
lift_arms-returns-in_err-arm-clause-refused t c =
    let arms = c.as_slice-arms.result.now in
    let q : c.from_residual.result ≡ Err c.in_err-arm.field-0.0 = search rules in
    refused_by c.from_residual.result c.in_err-arm.field-0.0 q
    (λ r. arm_captures c.loop-i.variables.0 arms c.loop-i.i c.index-arms-i.result c.loop-i-test.true c.index-arms-i.is (c.loop-i.invariant.refuses (subst (BranchesCapture most_words c.args.variables.now.0) (sym c.as_slice-arms.ensures.is) r)))
    c.in_err-arm.ensures.refused

-- ---- definitions of a fixpoint
pub lift_defs-loop-i-init : goal.lift_defs-loop-i-init
lift_defs-loop-i-init t c =
    let v = c.args.variables.now in
    let fs = c.args.functions.now.items in
    let same = sym c.as_slice-items.ensures.is in
    defs_start c.args.notes.now c.args.words.now c.args.at v fs (defs_of c.as_slice-items.result.now) (subst (λ ds. PlacesFor c.args.at (def_count ds) (functions_of fs)) same c.requires.places)
    (subst (λ ds. Stand c.args.notes.now (length fs) (notes_defs (size v.0) ds)) same c.requires.notes)

pub lift_defs-lift_def-requires : goal.lift_defs-lift_def-requires
lift_defs-lift_def-requires t c =
    let items = c.as_slice-items.result.now in
    let x = c.index-items-i.result in
    let w : def_weight x < defs_weight c.args.defs.now = subst (λ ds. def_weight x < defs_weight ds) c.as_slice-items.ensures.is (def_lighter items c.loop-i.i x c.loop-i-test.true c.index-items-i.is) in
    let d : 4 * def_weight x + 2 < 4 * defs_weight c.args.defs.now = omega arith in
    (search (rules, d), def_stands c.args.notes.now (length c.loop-i.functions.items) (size c.loop-i.variables.0) items c.loop-i.i x c.loop-i-test.true c.index-items-i.is c.loop-i.invariant.stand)

pub lift_defs-overflow_add-at : goal.lift_defs-overflow_add-at
lift_defs-overflow_add-at t c =
    let items = c.as_slice-items.result.now in
    let fs1 = c.lift_def.new.functions in
    let room = def_room c.args.notes.now c.args.words.now c.args.at c.args.variables.now c.args.functions.now.items (defs_of items) c.loop-i.i c.loop-i.variables c.loop-i.functions.items items c.index-items-i.result c.loop-i.invariant
    c.loop-i-test.true c.index-items-i.is fs1.items _ c.in_ok-body.ensures.functions in
    let small = fs1.ok in
    grind arith

pub lift_defs-put-requires : goal.lift_defs-put-requires
lift_defs-put-requires t c =
    let items = c.as_slice-items.result.now in
    record {
      here = def_room c.args.notes.now c.args.words.now c.args.at c.args.variables.now c.args.functions.now.items (defs_of items) c.loop-i.i c.loop-i.variables c.loop-i.functions.items items c.index-items-i.result c.loop-i.invariant
          c.loop-i-test.true c.index-items-i.is c.lift_def.new.functions.items _ c.in_ok-body.ensures.functions;
    }

pub lift_defs-loop-i-preserved : goal.lift_defs-loop-i-preserved
lift_defs-loop-i-preserved t c =
    let items = c.as_slice-items.result.now in
    let e = c.in_ok-body.ensures in
    defs_on c.args.notes.now c.args.words.now c.args.at c.args.variables.now c.args.functions.now.items (defs_of items) c.loop-i.i c.loop-i.variables c.loop-i.functions.items items c.index-items-i.result c.loop-i.invariant
    c.loop-i-test.true c.index-items-i.is c.in_ok-body.body c.lift_def.new.functions.items c.put.new.functions.items c.lift_def.new.variables e.body e.functions e.captures c.in_ok-put.ensures.put e.variables

pub lift_defs-returns-clause-functions : goal.lift_defs-returns-clause-functions
lift_defs-returns-clause-functions t c =
    let v = c.args.variables.now in
    let fs = c.args.functions.now.items in
    let items = c.as_slice-items.result.now in
    let le : length items ≤ c.loop-i.i = omega arith in
    let places = subst (λ ds. PlacesFor c.args.at (def_count ds) (functions_of fs)) (sym c.as_slice-items.ensures.is) c.requires.places in
    let end = defs_last c.args.notes.now c.args.words.now c.args.at v fs (defs_of items) c.loop-i.i c.loop-i.variables c.loop-i.functions.items items places c.loop-i.invariant le in
    end.functions ∙ ap (λ ds. take c.args.at (functions_of fs) ++ definitions v c.args.words.now (c.args.at + def_count ds) ds) c.as_slice-items.ensures.is

pub lift_defs-returns-in_err-body-clause-refused : goal.lift_defs-returns-in_err-body-clause-refused
lift_defs-returns-in_err-body-clause-refused t c =
    let items = c.as_slice-items.result.now in
    let q : c.from_residual.result ≡ Err c.in_err-body.field-0.0 = search rules in
    refused_by c.from_residual.result c.in_err-body.field-0.0 q
    (λ r. def_captures c.loop-i.variables.0 items c.loop-i.i c.index-items-i.result c.loop-i-test.true c.index-items-i.is (c.loop-i.invariant.refuses (subst (DefsCapture most_words c.args.variables.now.0) (sym c.as_slice-items.ensures.is) r)))
    c.in_err-body.ensures.refused
