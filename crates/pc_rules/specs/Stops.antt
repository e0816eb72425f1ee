-- The stop that a fault in making a term or a universe leads to.
use Rattle.universe_levels.specs.declared.universe.UniverseFault.{UniverseFault}
use Rattle.universe_levels.specs.declared.universe.UniverseFault.TheVariants.{TooBig, Empty, Memory as NoUniverse}
use Rattle.pc_terms.specs.declared.term.MakeFault.{MakeFault}
use Rattle.pc_terms.specs.declared.term.MakeFault.TheVariants.{TooDeep as DeepTerm, Memory as NoTerm}
use Rattle.pc_rules.specs.declared.stop.Stop.{Stop}
use Rattle.pc_rules.specs.declared.stop.Stop.TheVariants.{TooDeep, Memory}

abbrev pub stop_of : MakeFault → Stop
stop_of DeepTerm = TooDeep
stop_of NoTerm = Memory

-- (no rule asks for a universe of nothing)
abbrev pub universe_stop : UniverseFault → Stop
universe_stop TooBig = TooDeep
universe_stop Empty = TooDeep
universe_stop NoUniverse = Memory
