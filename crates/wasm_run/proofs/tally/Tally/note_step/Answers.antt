use Rattle.std.proofs.Common.{◌≡◌, ◌-◌, ◌<◌, ◌+◌, length, get_or, refl, ap, arith}
use Rattle.std.specs.Prelude.{min, slice_set}
use Rattle.reports.specs.Counting.{last}
use Rattle.wasm_run.proofs.Telling.{step_tallied}
use Rattle.wasm_run.proofs.tally.Tally.note_step.Goals as goal

pub returns : goal.returns
returns c =
    let t = c.args.self.now in
    let i = c.args.class - 1 in
    let e : c.saturating_add.result ≡ min (get_or t.steps i 0 + 1) last = grind arith in
    let lt : i < length t.steps = grind arith in
    let next : c.args.class ≡ 1 + i = grind arith in
    record { more = λ facts h. step_tallied t (record { steps = slice_set t.steps i c.saturating_add.result; grows = t.grows }) i 0 c.args.class lt next (ap (λ x. slice_set t.steps i x) e) refl facts h }
