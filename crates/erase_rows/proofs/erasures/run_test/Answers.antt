use Rattle.rule_laws.proofs.Names.{accepted_once}
use Rattle.rule_laws.proofs.TypedCounts.{typed_counted, accepted_counted}
use Rattle.erase_rows.proofs.erasures.run_test.Goals as goal

pub test-requires-clause-env : goal.test-requires-clause-env
test-requires-clause-env c = accepted_counted c.args.accepted.now.env c.requires.accepted

pub test-requires-clause-counted : goal.test-requires-clause-counted
test-requires-clause-counted c = typed_counted c.args.accepted.now.env (accepted_once c.args.accepted.now.env c.requires.accepted) c.requires.typed
