use Rattle.std.proofs.Common.{map}
use Rattle.pc_terms.specs.Syntax.{shift, variables}
use Rattle.type_infer.proofs.MadeTypes.{built_parts}
use Rattle.type_infer.proofs.made_types.is_built.Goals as goal

pub returns : goal.returns
returns c =
    record {
      is = λ h. built_parts c.args.id (map (shift c.args.args 0) (variables c.args.params)) c.args.indices.now c.args.end.now c.in-Some.applied.now
          c.in-Some-function_of_variables.head.now c.in-Some.ensures.is c.in-Some-function_of_variables.ensures.is (c.is_family.ensures.is h);
    }
