use Rattle.std.proofs.Common.{ℕ, Some, ◌∙◌, ap, map}
use Rattle.std.specs.Prelude.{Vec}
use Rattle.std.specs.declared.alloc.Global.{Global}
use Rattle.driver.specs.ReportLines.{lines}
use Rattle.driver.proofs.LineByLine.{no_lines}
use Rattle.driver.proofs.PartByPart.{appends_as, takes_as}
use Rattle.driver.proofs.Inputs.{concluded}
use Rattle.driver.proofs.top.conclude.Goals as goal

pub returns-in-Ok-write_all-clause-concludes : goal.returns-in-Ok-write_all-clause-concludes
returns-in-Ok-write_all-clause-concludes g c =
    let t = c.write_lines.ensures in
    let same = c.as_slice-in-Ok-write_all.ensures.value in
    concluded {V = Vec ℕ Global} (λ v. v.items) c.args.answered c.in-Ok.text c.in-Ok.is _ _ _ _ _ _ _ _ _ _ _ _ _
    (appends_as (g.K.Sink.taken c.args.out.now) (g.K.Sink.taken c.write_all.new.out) _ _ c.as_slice.ensures.value c.in-Ok-write_all.ensures.all)
    (takes_as _ _ _ _ _ _ (ap (λ xs. lines (map (λ b. (goal.Report-dyn g (b.vtable, b.value)).shown b.value) xs)) same) t.line)
    (λ e. t.none (same ∙ no_lines (λ b. (goal.Report-dyn g (b.vtable, b.value)).shown b.value) c.args.reports.items e))

pub returns-in-Ok-write_all-clause-history : goal.returns-in-Ok-write_all-clause-history
returns-in-Ok-write_all-clause-history g c =
    let t = c.write_lines.ensures in
    let same = c.as_slice-in-Ok-write_all.ensures.value in
    concluded {V = Vec ℕ Global} (λ v. v.items) c.args.answered c.in-Ok.text c.in-Ok.is _ _ _ _ _ _ _ _ _ _ _ _ _
    (appends_as (Some (g.K.Sink.received c.args.out.now)) (Some (g.K.Sink.received c.write_all.new.out)) _ _ c.as_slice.ensures.value c.in-Ok-write_all.ensures.received)
    (takes_as _ _ _ _ _ _ (ap (λ xs. lines (map (λ b. (goal.Report-dyn g (b.vtable, b.value)).shown b.value) xs)) same) t.history)
    (λ e. t.none (same ∙ no_lines (λ b. (goal.Report-dyn g (b.vtable, b.value)).shown b.value) c.args.reports.items e))
