-- A block that the test of positivity lets pass is positive.
use Rattle.std.proofs.Common.{◌≡◌, true, false, Bool, Result, Ok, Err, IfOk}
use Rattle.calculus_rules.specs.declared.declaration.Block.{Block}
use Rattle.pc_rules.specs.declared.meter.Meter.{Meter}
use Rattle.pc_rules.specs.declared.stop.Stop.{Stop}
use Rattle.calculus_rules.specs.Environment.{Env}
use Rattle.calculus_rules.specs.Positivity.{IsPositive}
use Rattle.pc_rules.specs.DirectedPositivity.{block_positive}
use Rattle.pc_rules.specs.Follows.{Follows, halted}
use Rattle.rule_laws.proofs.Positive.{block_positive_is}

pub positive_sound : (E : Env) (B : Block) (r : Result Bool Stop) (m0 m1 : Meter) → Follows (block_positive E B m0.account) (halted r) m0 m1 →
    IfOk r (λ b. b ≡ true → IsPositive E B)
positive_sound E B (Ok true) m0 m1 f = λ e. block_positive_is E B m0.account m1.account f.answer
positive_sound E B (Ok false) m0 m1 f = λ e. absurd (cc)
positive_sound E B (Err s) m0 m1 f = tt
