use Rattle.std.proofs.Common.{◌≡◌, ℕ, ◌+◌, ◌-◌, ◌<◌, ◌≤◌, length, get_or, Some, ap, sym, subst, ◌∙◌, arith}
use Rattle.std.proofs.lemmas.List.{length-reverse}
use Rattle.std.specs.Prelude.{nat_eq, cond}
use Rattle.std.specs.HashMap.{get}
use Rattle.closure_lift.specs.declared.program.LiftedConstant.{LiftedConstant}
use Rattle.wasm_emit.proofs.Numbered.{FromPlace, none_yet, one_more, all_numbered}
use Rattle.wasm_emit.proofs.Pushing.{constant_next}
use Rattle.wasm_emit.proofs.numbers.numbers_of.Goals as goal

pub loop-k-init : goal.loop-k-init
loop-k-init c = subst (FromPlace c.new-numbers.result c.args.p.now.constants) (omega arith) (none_yet c.new-numbers.result c.args.p.now.constants c.new-numbers.ensures.empty)

pub loop-k-preserved : goal.loop-k-preserved
loop-k-preserved c =
    let slice = c.as_slice-constants.result.now in
    let cs = c.args.p.now.constants in
    let k = c.loop-k.k in
    let x = c.index-constants-k.result in
    let size : length cs ≡ length slice = sym (ap length c.as_slice-constants.ensures.is) ∙ length-reverse slice in
    let lt : k < length slice = c.loop-k-test.true in
    let j = length cs - (k + 1) in
    let back : k ≡ length slice - 1 - j = omega arith in
    let here : x ≡ get_or slice (length slice - 1 - j) x = c.index-constants-k.is ∙ ap (λ i. get_or slice i x) back in
    let before : FromPlace c.loop-k.numbers cs (j + 1) = subst (FromPlace c.loop-k.numbers cs) (omega arith) c.loop-k.invariant in
    let put = λ (q : ℕ). c.in_ok-insert.ensures.updates.0 q ∙ ap (λ (z : LiftedConstant). cond (nat_eq z.name.0 q) (Some (length slice - 1 - k)) (get nat_eq c.loop-k.numbers q)) (sym c.index-constants-k.is) in
    one_more c.loop-k.numbers c.insert.new.self cs j (length slice - 1 - k) x (constant_next slice cs j x c.as_slice-constants.ensures.is (omega arith) here) (omega arith) before put

pub returns-clause-is : goal.returns-clause-is
returns-clause-is c =
    let cs = c.args.p.now.constants in
    let size : length cs ≡ length c.as_slice-constants.result.now = sym (ap length c.as_slice-constants.ensures.is) ∙ length-reverse c.as_slice-constants.result.now in
    let out : length c.as_slice-constants.result.now ≤ c.loop-k.k = c.loop-k-test.false in
    all_numbered c.loop-k.numbers cs (length cs - c.loop-k.k) (omega arith) c.loop-k.invariant
