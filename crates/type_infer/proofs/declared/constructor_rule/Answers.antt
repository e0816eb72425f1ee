use Rattle.std.proofs.lemmas.Result.{err_from_is_err_and}
use Rattle.type_infer.proofs.Declaring.{constructor_unknown, constructor_family, no_constructor, constructor_made, constructor_fault}
use Rattle.type_infer.proofs.declared.constructor_rule.Goals as goal

pub returns-in_default : goal.returns-in_default
returns-in_default c = record { answers = λ u. constructor_unknown c.args.env.now c.args.id c.args.number u c.in_default.ensures.whole }

pub returns-in_err-family : goal.returns-in_err-family
returns-in_err-family c =
    let p = err_from_is_err_and c.from_residual.result c.from_residual.ensures.1 in
    record { answers = λ u. rw (p.1, p.2) (constructor_family c.args.env.now c.args.id c.args.number u c.in-Some.block.now c.in_err-family.field-0.0 c.in-Some.ensures.whole (c.in_err-family.ensures.err u)) }

pub returns-in_err-constructor_type-in-Some-constructor_at : goal.returns-in_err-constructor_type-in-Some-constructor_at
returns-in_err-constructor_type-in-Some-constructor_at c =
    let p = err_from_is_err_and c.from_residual-in_err-constructor_type-in-Some-constructor_at.result c.from_residual-in_err-constructor_type-in-Some-constructor_at.ensures.1 in
    record {
      answers = λ u. rw (p.1, p.2) (constructor_fault c.args.env.now c.args.id c.args.number u c.in-Some.block.now _ c.in-Some.ensures.whole c.in_ok-family.ensures.ok
          c.in-Some-constructor_at.ctor.now c.in_err-constructor_type-in-Some-constructor_at.field-0.0 c.in-Some-constructor_at.ensures.at
          (λ e. c.in_err-constructor_type-in-Some-constructor_at.ensures.too_deep e c.in_ok-family.family.now));
    }

pub returns-in_ok-constructor_type-in-Some-constructor_at : goal.returns-in_ok-constructor_type-in-Some-constructor_at
returns-in_ok-constructor_type-in-Some-constructor_at c =
    record {
      answers = λ u. constructor_made c.args.env.now c.args.id c.args.number u c.in-Some.block.now _ c.in-Some.ensures.whole c.in_ok-family.ensures.ok
          c.in-Some-constructor_at.ctor.now c.in_ok-constructor_type-in-Some-constructor_at.field-0 c.in-Some-constructor_at.ensures.at
          (c.in_ok-constructor_type-in-Some-constructor_at.ensures.ok c.in_ok-family.family.now);
    }

pub returns-in-None : goal.returns-in-None
returns-in-None c =
    record {
      answers = λ u. no_constructor c.args.env.now c.args.id c.args.number u c.in-Some.block.now _ c.in-Some.ensures.whole c.in_ok-family.ensures.ok
          c.bad_number.result c.in-None.ensures.at (rw c.len.ensures.is at c.bad_number.ensures.is);
    }
