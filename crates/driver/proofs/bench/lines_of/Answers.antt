use Rattle.std.proofs.Common.{rules, ◌≡◌, [], ◌++◌, ◌∙◌, ap, decimal, codes}
use Rattle.workload.proofs.Pieces.{one_piece}
use Rattle.driver.proofs.FigureLines.{figure_piece}
use Rattle.driver.proofs.bench.lines_of.Goals as goal

pub returns : goal.returns
returns c =
    let x = c.args.x.now in
    let answer = codes "\nanswer " ++ x.line.items in
    let pages = codes "\npages " ++ (decimal x.pages ++ answer) in
    let steps = codes "\nsteps " ++ (decimal x.steps ++ pages) in
    let bytes = codes "\nbytes " ++ (decimal x.bytes ++ steps) in
    let sixth = one_piece _ _ (codes "\nanswer ") x.line.items c.in_ok-put.ensures.ok in
    let fourth = figure_piece _ _ (codes "\npages ") (decimal x.pages) answer (c.in_ok-put_figure-4.ensures.ok ∙ ap (λ n. c.put_figure-3.new.out.items ++ (codes "\npages " ++ decimal n)) c.from.ensures) in
    let third = figure_piece _ _ (codes "\nsteps ") (decimal x.steps) pages c.in_ok-put_figure-3.ensures.ok in
    let second = figure_piece _ _ (codes "\nbytes ") (decimal x.bytes) steps c.in_ok-put_figure-2.ensures.ok in
    let first = figure_piece _ _ (codes "declarations ") (decimal x.declarations) bytes c.in_ok-put_figure.ensures.ok in
    let empty : c.new-out.result.items ≡ [] = search rules in
    record { is = c.in_ok-put-2.ensures.ok ∙ ap (λ l. c.put.new.out.items ++ l) c.as_slice.ensures.value ∙ sixth ∙ fourth ∙ third ∙ second ∙ first ∙ ap (λ o. o ++ (codes "declarations " ++ (decimal x.declarations ++ bytes))) empty }
