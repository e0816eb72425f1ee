use Rattle.std.proofs.Common.{◌≡◌, ◌∙◌, sym, ap, Err, None}
use Rattle.std.proofs.lemmas.Result.{err_from_is_err_and}
use Rattle.pc_rules.specs.DirectedTyping.{undeclared_in}
use Rattle.type_infer.proofs.Entries.{sort_undeclared, sort_made, sort_fault}
use Rattle.type_infer.proofs.leaves.sort_rule.Goals as goal

pub returns-in-Some : goal.returns-in-Some
returns-in-Some c =
    let e = rw (c.levels-levels.ensures.value, c.graph.ensures.levels) at c.undeclared_in.ensures.is in
    record { answers = λ u. sort_undeclared c.args.env.now c.args.s.now u c.in-Some.level (sym e ∙ c.in-Some.is) }

pub returns-in_err-above : goal.returns-in_err-above
returns-in_err-above c =
    let e = rw (c.levels-levels.ensures.value, c.graph.ensures.levels) at c.undeclared_in.ensures.is in
    let p = err_from_is_err_and c.from_residual.result c.from_residual.ensures.1 in
    record {
      answers = λ u. rw (p.1, p.2) (sort_fault c.args.env.now c.args.s.now u c.in_err-above.field-0.0 (sym e ∙ c.in_default.is)
          (λ q. c.in_err-above.ensures.too_big.0 (ap Err q)) (λ q. c.in_err-above.ensures.not_empty (ap Err q)));
    }

pub returns : goal.returns
returns c =
    let e = rw (c.levels-levels.ensures.value, c.graph.ensures.levels) at c.undeclared_in.ensures.is in
    record {
      answers = λ u. sort_made c.args.env.now c.args.s.now u c.in_ok-above.above c.in_ok-make.field-0 (sym e ∙ c.in_default.is)
          c.in_ok-above.ensures.value c.in_ok-make.ensures.ok;
    }
