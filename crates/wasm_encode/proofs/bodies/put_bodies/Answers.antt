use Rattle.std.proofs.Common.{rules, ◌≡◌, Err, subst, sym}
use Rattle.wasm_core.specs.ShortestBytes as shortest
use Rattle.wasm_encode.specs.Puts.{PutsUnless}
use Rattle.wasm_encode.proofs.Putting.{fails_next}
use Rattle.wasm_encode.proofs.bodies.put_bodies.Goals as goal

pub returns-in_err-put_body : goal.returns-in_err-put_body
returns-in_err-put_body c =
    let q : c.from_residual.result ≡ Err c.in_err-put_body.field-0.0 = search rules in
    record { puts = subst (λ r. PutsUnless r c.args.out.now.items c.put_body.new.out.items (shortest.put_all shortest.put_body c.args.bs.now)) (sym q) (fails_next shortest.put_body _ _ _ _ _ _ _ _ _ _ c.loop-b-test.true c.b-item.is c.loop-b.invariant c.in_err-put_body.ensures.puts) }
