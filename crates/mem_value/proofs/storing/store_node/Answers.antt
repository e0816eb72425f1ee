use Rattle.std.proofs.Common.{◌≡◌, ◌+◌, ◌*◌, ◌∷◌, [], ◌∙◌, reverse, ap, arith}
use Rattle.std.proofs.lemmas.List.{reverse-append}
use Rattle.mem_value.proofs.Stacks.{odd_says}
use Rattle.mem_value.proofs.storing.store_node.Goals as goal

pub returns-then-arity-eq0-clause-says : goal.returns-then-arity-eq0-clause-says
returns-then-arity-eq0-clause-says c =
    let none : c.args.arity ≡ 0 = grind arith in
    odd_says c.args.machine.now c.args.number c.args.arity (reverse c.args.words.now.items) (reverse c.push.new.self.items) none
    (ap reverse c.in_ok-push.ensures.items ∙ reverse-append c.args.words.now.items ((2 * c.args.number + 1) ∷ []))
