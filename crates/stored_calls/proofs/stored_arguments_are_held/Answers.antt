use Rattle.stored_calls.proofs.HostedStores.{call_modules_have_entries, new_machines_have_a_heap, stored_arguments_are_held}
use Rattle.stored_calls.proofs.stored_arguments_are_held.Goals as goal

pub returns : goal.returns
returns c = record { entries = call_modules_have_entries; heap = new_machines_have_a_heap; held = stored_arguments_are_held }
