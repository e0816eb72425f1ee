use Rattle.std.proofs.Common.{subst as along}
use Rattle.reduce_machine.specs.Layers.{IsShown}
use Rattle.lazy_conversion.specs.Heads.{code_of}
use Rattle.lazy_conversion.proofs.ValueHeads.{code_shown, match_no_fix, open_fix_head, fix_fix_head}
use Rattle.lazy_conversion.proofs.stuck.fixpoint.Goals as goal

pub definitions-requires : goal.definitions-requires
definitions-requires c = along (λ h. IsShown (code_of h)) c.in-Open.is (code_shown c.args.x c.requires)

pub returns-in-Open : goal.returns-in-Open
returns-in-Open c = record { is = rw (open_fix_head c.args.x _ c.requires c.in-Open.is) c.definitions.ensures.is }

pub returns-in-Match : goal.returns-in-Match
returns-in-Match c = record { is = match_no_fix c.args.x _ c.requires c.in-Match.is }

pub definitions-requires-in-Fixpoint : goal.definitions-requires-in-Fixpoint
definitions-requires-in-Fixpoint c = along (λ h. IsShown (code_of h)) c.in-Fixpoint.is (code_shown c.args.x c.requires)

pub returns-in-Fixpoint : goal.returns-in-Fixpoint
returns-in-Fixpoint c = record { is = rw (fix_fix_head c.args.x _ _ c.requires c.in-Fixpoint.is) c.definitions-in-Fixpoint.ensures.is }
