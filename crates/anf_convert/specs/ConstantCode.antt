-- How the logic stores a constant of a program in A-normal form.
use Rattle.std.proofs.Common.{refl}
use Rattle.std.specs.Coded.{Coded, coded×, code_by}
use Rattle.pc_terms.specs.declared.leaf.Name.{Name}
use Rattle.pc_terms.specs.contracts.leaf.Name as name
use Rattle.anf_convert.specs.Anf.{AnfBlock}
use Rattle.anf_convert.specs.AnfCode.{coded_block}
use Rattle.anf_convert.specs.declared.program.AnfConstant.{AnfConstant}

abbrev pub coded_constant : Coded AnfConstant
coded_constant = code_by (Name × AnfBlock) (coded× name.the_row.coded coded_block) (λ c. (c.name, c.body)) (λ p. record { name = p.0; body = p.1 }) (λ _. refl)
