use Rattle.std.proofs.lemmas.Result.{err_from_is_err_and}
use Rattle.type_infer.proofs.Declaring.{family_unknown, family_numbered, family_made, family_fault}
use Rattle.type_infer.proofs.declared.family_rule.Goals as goal

pub returns-in_default : goal.returns-in_default
returns-in_default c = record { answers = λ u. family_unknown c.args.env.now c.args.id u c.in_default.ensures.known }

pub returns-in_err-family : goal.returns-in_err-family
returns-in_err-family c =
    let p = err_from_is_err_and c.from_residual.result c.from_residual.ensures.1 in
    record { answers = λ u. rw (p.1, p.2) (family_numbered c.args.env.now c.args.id u c.in-Some.block.now c.in_err-family.field-0.0 c.in-Some.ensures.known (c.in_err-family.ensures.err u)) }

pub returns-in_err-family_type : goal.returns-in_err-family_type
returns-in_err-family_type c =
    let p = err_from_is_err_and c.from_residual-in_err-family_type.result c.from_residual-in_err-family_type.ensures.1 in
    record { answers = λ u. rw (p.1, p.2) (family_fault c.args.env.now c.args.id u c.in-Some.block.now _ c.in-Some.ensures.known c.in_ok-family.ensures.ok c.in_err-family_type.field-0.0 c.in_err-family_type.ensures.too_deep) }

pub returns : goal.returns
returns c =
    record { answers = λ u. family_made c.args.env.now c.args.id u c.in-Some.block.now _ c.in-Some.ensures.known c.in_ok-family.ensures.ok c.in_ok-family_type.field-0 c.in_ok-family_type.ensures.ok }
