use Rattle.std.proofs.Common.{◌∷◌, ◌++◌, [], ℕ, List, ap, ◌∙◌, replicate, arith}
use Rattle.std.proofs.lemmas.List.{append_assoc}
use Rattle.wasm_emit.proofs.Emitting.{once_more}
use Rattle.wasm_emit.proofs.parts.push_times.Goals as goal

pub loop-preserved : goal.loop-preserved
loop-preserved c = (
  c.in_ok-push.ensures.items ∙ ap (λ (zs : List ℕ). zs ++ c.args.x ∷ []) c.loop.invariant.0 ∙ append_assoc c.args.items.now.items (replicate c.loop.counter c.args.x) (c.args.x ∷ [])
      ∙ ap (λ (zs : List ℕ). c.args.items.now.items ++ zs) (once_more c.loop.counter c.args.x),
  omega (arith, c.loop-test.true),
)
