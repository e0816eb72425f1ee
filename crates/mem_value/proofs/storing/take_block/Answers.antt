use Rattle.std.proofs.Common.{◌++◌, ◌∷◌, [], ◌∙◌, reverse, sym, ap}
use Rattle.mem_value.proofs.Stacks.{popped_is, taken_more}
use Rattle.mem_value.proofs.storing.take_block.Goals as goal

pub loop-taken-preserved : goal.loop-taken-preserved
loop-taken-preserved c =
    let xs = reverse c.args.words.now.items in let rest = c.pop.new.self.items in let x = c.in-Some.word in let k = c.loop-taken._taken in
    let (t, d) = taken_more k xs (reverse rest) x (popped_is k x xs c.loop-taken.words.items rest c.loop-taken.invariant.1 c.in-Some.ensures.items) in (
      c.in_ok-push-in-Some.ensures.items ∙ ap (λ ys. ys ++ x ∷ []) c.loop-taken.invariant.0 ∙ ap (λ ys. c.args.header ∷ ys) (sym t),
      sym d,
    )
