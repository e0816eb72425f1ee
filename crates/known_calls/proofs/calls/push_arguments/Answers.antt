use Rattle.std.proofs.Common.{◌≡◌, ℕ, suc, ◌+◌, refl, subst, arith}
use Rattle.known_calls.specs.KnownPushed.{arguments_code}
use Rattle.wasm_emit.specs.Pushed.{Pushed}
use Rattle.wasm_emit.proofs.Pushing.{then_pushed}
use Rattle.known_calls.proofs.calls.push_arguments.Goals as goal

pub loop-n-init : goal.loop-n-init
loop-n-init c = (record { is = λ rest. refl }, omega arith)

pub loop-n-preserved : goal.loop-n-preserved
loop-n-preserved c =
    let e : suc c.loop-n.n ≡ c.loop-n.n + 1 = omega arith in
    let all = then_pushed c.args.out.now.items c.loop-n.out.items c.push_argument.new.out.items c.loop-n.invariant.0 c.in_ok-push_argument.ensures.pushed in
    (subst (λ (j : ℕ). Pushed c.args.out.now.items c.push_argument.new.out.items (arguments_code j)) e (record { is = all.is }), omega (arith, c.loop-n-test.true))

pub returns-clause-pushed : goal.returns-clause-pushed
returns-clause-pushed c =
    let e : c.loop-n.n ≡ c.args.k = omega (arith, c.loop-n-test.false) in
    subst (λ (j : ℕ). Pushed c.args.out.now.items c.loop-n.out.items (arguments_code j)) e c.loop-n.invariant.0
