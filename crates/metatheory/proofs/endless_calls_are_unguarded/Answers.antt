use Rattle.metatheory.proofs.EndlessCalls.{endless_calls_are_unguarded, endless_calls_have_no_type}
use Rattle.metatheory.proofs.endless_calls_are_unguarded.Goals as goal

pub returns : goal.returns
returns c = record { unguarded = endless_calls_are_unguarded; untyped = endless_calls_have_no_type }
