use Rattle.std.proofs.Common.{◌++◌, ◌∙◌, decimal, codes}
use Rattle.std.proofs.lemmas.Result.{on_ok_weaker}
use Rattle.workload.specs.WorkloadText.{body_text}
use Rattle.workload.proofs.Pieces.{one_piece}
use Rattle.workload.proofs.text.put_constant.Goals as goal

pub returns : goal.returns
returns c =
    let end = codes ")\n" in
    let body = body_text c.args.which c.args.before in
    let fourth = one_piece _ _ body end c.in_ok-put_body.ensures.ok in
    let third = one_piece _ _ (codes " (tInd bool 0) ") (body ++ end) c.in_ok-put-2.ensures.ok in
    let second = one_piece _ _ (decimal c.args.number) (codes " (tInd bool 0) " ++ (body ++ end)) c.in_ok-put_number.ensures.ok in
    let first = one_piece _ _ (codes "(ConstantDecl c") (decimal c.args.number ++ (codes " (tInd bool 0) " ++ (body ++ end))) c.in_ok-put.ensures.ok in
    record { ok = on_ok_weaker c.put-3.result (λ e. e ∙ fourth ∙ third ∙ second ∙ first) c.put-3.ensures.ok }
