-- How the logic stores a constant of a lifted program.
use Rattle.std.proofs.Common.{refl}
use Rattle.std.specs.Coded.{Coded, coded×, code_by}
use Rattle.pc_terms.specs.declared.leaf.Name.{Name}
use Rattle.pc_terms.specs.contracts.leaf.Name as name
use Rattle.closure_lift.specs.Lifted.{Block}
use Rattle.closure_lift.specs.LiftedCode.{coded_block}
use Rattle.closure_lift.specs.declared.program.LiftedConstant.{LiftedConstant}

abbrev pub coded_constant : Coded LiftedConstant
coded_constant = code_by (Name × Block) (coded× name.the_row.coded coded_block) (λ c. (c.name, c.body)) (λ p. record { name = p.0; body = p.1 }) (λ _. refl)
