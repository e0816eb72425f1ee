use Rattle.kio.proofs.Given.{concat_of}
use Rattle.kio.proofs.adapters.WriterSinkSink.write.Goals as goal

pub returns-in-Ok-clause-history : goal.returns-in-Ok-clause-history
returns-in-Ok-clause-history g c = rw (← c.self.view_is) (concat_of _ _ _ c.add.ensures.more)
