use Rattle.std.proofs.Common.{◌∙◌, sym, refl}
use Rattle.type_infer.proofs.Entries.{sort_undeclared, sort_made, sort_past, raises}
use Rattle.type_infer.proofs.universes.sort_stands.Goals as goal

pub returns-in-Some : goal.returns-in-Some
returns-in-Some c =
    let e = rw (c.levels-levels.ensures.value, c.graph.ensures.levels) at c.undeclared_in.ensures.is in
    record { answers = λ u. sort_undeclared c.args.env.now c.args.s.now u c.in-Some.level (sym e ∙ c.in-Some.is) }

pub returns-then-at_limit : goal.returns-then-at_limit
returns-then-at_limit c =
    let e = rw (c.levels-levels.ensures.value, c.graph.ensures.levels) at c.undeclared_in.ensures.is in
    record { answers = λ u. sort_past c.args.env.now c.args.s.now u (sym e ∙ c.in_default.is) (raises c.args.s.now (c.at_limit.ensures.passes.0 c.if-at_limit.true)) }

pub returns : goal.returns
returns c =
    let e = rw (c.levels-levels.ensures.value, c.graph.ensures.levels) at c.undeclared_in.ensures.is in
    record { answers = λ u. sort_made c.args.env.now c.args.s.now u _ _ (sym e ∙ c.in_default.is) refl refl }
