-- What is promised of a call that answers a type of which arguments are still to be put in, while a certificate is written.
use Rattle.std.specs.Prelude.{ℕ, Result}
use Rattle.pc_terms.specs.Syntax.{Term}
use Rattle.calculus_rules.specs.Context.{Context, values}
use Rattle.calculus_rules.specs.Environment.{Env}
use Rattle.pc_rules.specs.declared.meter.Account.{Account}
use Rattle.pc_rules.specs.declared.stop.Halt.{Halt}
use Rattle.pc_rules.specs.DirectedRun.{Run}
use Rattle.pc_rules.specs.Follows.{IsAfter}
use Rattle.cert_rules.specs.Writing.{Wrote, write_on}
use Rattle.cert_rules.specs.MakingTyping.{make_whnf, make_app_found}
use Rattle.type_infer.specs.declared.pending.PendingType.{PendingType}
use Rattle.type_infer.specs.Pending.{Pends, halt_of}
use Rattle.script_making.specs.declared.draft.Draft.{Draft}
use Rattle.script_making.specs.Makes.{Makes}
use Rattle.script_making.specs.Comparing.{compare_making}
use Rattle.type_making.specs.Making.{infer_making}

-- the call and the making of its type make what directed rules that write make
pub record MakesPending (d : Run (Wrote Term)) (r : Result PendingType Halt) (old new : Draft) : Type 0 where
  pub pends : Pends halt_of (λ q. Makes d q old new) r
  pub after : IsAfter old.meter new.meter

-- the rule of applications, from the type of the function on
abbrev pub reduced_making : Env → ℕ → Context → Term → Term → Account → Run (Wrote Term)
reduced_making E n c a T u =
    write_on (make_whnf E (values c) T u) (λ W w. make_app_found E (infer_making E n) (compare_making E n) c a T W w)
