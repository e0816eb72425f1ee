-- All that the top call promises, by one lemma from its two halves.
use Rattle.std.proofs.Common.{ℕ}
use Rattle.std.specs.Prelude.{Vec}
use Rattle.std.specs.declared.alloc.Global.{Global}
use Rattle.std.proofs.lemmas.Result.{on_ok_weaker}
use Rattle.command_line.specs.Line.{words_of}
use Rattle.driver.proofs.LineByLine.{lines_told}
use Rattle.driver.proofs.ReadToEnd.{to_end}
use Rattle.driver.proofs.Serving.{served}
use Rattle.driver.proofs.top.serve_whole.Goals as goal

pub returns : goal.returns
returns g c =
    let a = c.answer-answered.ensures in
    let e = c.conclude.ensures in
    record {
      served = served (λ v. v.items) _ _ _ _ _ _ _ _ _ c.answer-answered.result a.says e.concludes _
          (on_ok_weaker c.answer-answered.result (λ t. (t.0, t.1, lines_told (λ b. (goal.Report-dyn g (b.vtable, b.value)).shown b.value) t.0 c.args.reports.items c.answer-answered.new.reports.items t.2)) a.told) a.unread
          (record { count = a.later; tells = a.tells })
          (record { count = e.counts.0; tells = e.tells.0 })
          (record { count = e.counts.1; tells = e.tells.1 });
      history = served (λ v. v.items) _ _ _ _ _ _ _ _ _ c.answer-answered.result a.history e.history _
          (on_ok_weaker c.answer-answered.result (λ t. (t.0, t.1, lines_told (λ b. (goal.Report-dyn g (b.vtable, b.value)).shown b.value) t.0 c.args.reports.items c.answer-answered.new.reports.items t.2)) a.told_history) a.unread
          (record { count = a.later; tells = tt })
          (record { count = e.counts.0; tells = tt })
          (record { count = e.counts.1; tells = tt });
      ended = to_end (Vec ℕ Global) (words_of c.args.words.now) (g.S.Source.given c.args.src.now) (g.S.Source.given c.answer-answered.new.src) (λ v. v.items) _ _ _ _ _ _ _ _ _ _ _ _ _ _ _ _ c.answer-answered.result a.history a.ended e.history;
    }
