use Rattle.std.proofs.Common.{◌≤◌, ◌≡◌, ◌∙◌, sym, ap, length, arith, refl}
use Rattle.std.proofs.lemmas.Option.{slice_get_past}
use Rattle.std.proofs.lemmas.Result.{err_from_is_err_and}
use Rattle.calculus_rules.specs.Context.{type_of}
use Rattle.type_infer.proofs.Entries.{unbound, bound, bound_fault}
use Rattle.type_infer.proofs.leaves.rel_rule.Goals as goal

pub returns-then-i-length : goal.returns-then-i-length
returns-then-i-length c =
    let h : length c.args.ctx.now ≤ c.args.i = omega arith in
    record { answers = λ u. rw c.len-length.ensures.is (unbound c.args.ctx.now c.args.i u (slice_get_past c.args.ctx.now c.args.i h)) }

pub returns-in_err-lift-in-Some-Assumed : goal.returns-in_err-lift-in-Some-Assumed
returns-in_err-lift-in-Some-Assumed c =
    let p = err_from_is_err_and c.from_residual.result c.from_residual.ensures.1 in
    record {
      answers = λ u. rw (p.1, p.2) (bound_fault c.args.ctx.now c.args.i c.in-Some-Assumed.field-0.now c.in-Some-Assumed.ty c.in_err-lift-in-Some-Assumed.field-0.0 u
          c.in-Some-Assumed.ensures.at (ap type_of c.in-Some-Assumed.field-0-is) c.in_err-lift-in-Some-Assumed.ensures.too_deep);
    }

pub returns-in_ok-lift-in-Some-Assumed : goal.returns-in_ok-lift-in-Some-Assumed
returns-in_ok-lift-in-Some-Assumed c =
    record {
      answers = λ u. bound c.args.ctx.now c.args.i c.in-Some-Assumed.field-0.now c.in-Some-Assumed.ty c.in_ok-lift-in-Some-Assumed.field-0 u
          c.in-Some-Assumed.ensures.at (ap type_of c.in-Some-Assumed.field-0-is) c.in_ok-lift-in-Some-Assumed.ensures.parallel;
    }

pub returns-in_err-lift-in-Some-Defined : goal.returns-in_err-lift-in-Some-Defined
returns-in_err-lift-in-Some-Defined c =
    let p = err_from_is_err_and c.from_residual-in_err-lift-in-Some-Defined.result c.from_residual-in_err-lift-in-Some-Defined.ensures.1 in
    record {
      answers = λ u. rw (p.1, p.2) (bound_fault c.args.ctx.now c.args.i c.in-Some-Defined.field-0.now c.in-Some-Defined.ty c.in_err-lift-in-Some-Defined.field-0.0 u
          c.in-Some-Defined.ensures.at (ap type_of c.in-Some-Defined.field-0-is) c.in_err-lift-in-Some-Defined.ensures.too_deep);
    }

pub returns-in_ok-lift-in-Some-Defined : goal.returns-in_ok-lift-in-Some-Defined
returns-in_ok-lift-in-Some-Defined c =
    record {
      answers = λ u. bound c.args.ctx.now c.args.i c.in-Some-Defined.field-0.now c.in-Some-Defined.ty c.in_ok-lift-in-Some-Defined.field-0 u
          c.in-Some-Defined.ensures.at (ap type_of c.in-Some-Defined.field-0-is) c.in_ok-lift-in-Some-Defined.ensures.parallel;
    }

pub returns-in-None : goal.returns-in-None
returns-in-None c = record { answers = λ u. rw c.len-length.ensures.is (unbound c.args.ctx.now c.args.i u c.in-None.ensures.at) }
