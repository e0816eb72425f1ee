use Rattle.rule_laws.proofs.Blocks.{block_sound}
use Rattle.rule_laws.proofs.Environments.{declaration_sound, environment_sound}
use Rattle.rule_laws.proofs.declarations.accepted_environments_are_well_formed.Goals as goal

pub returns : goal.returns
returns c = record {
  blocks = block_sound;
  declarations = λ levels cs ds q test a w n d e u v f h. declaration_sound levels cs q test ds (a, w) n d e u v f h;
  environments = environment_sound;
}
