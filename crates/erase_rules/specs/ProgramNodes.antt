-- The nodes of a program after erasure, and of the bodies of declared constants before it.
use Rattle.std.specs.Prelude.{ℕ, ◌+◌, List, [], ◌∷◌, Some}
use Rattle.trees.specs.Measures.{nodes}
use Rattle.calculus_rules.specs.declared.declaration.Kept.{Kept}
use Rattle.calculus_rules.specs.declared.declaration.Kept.TheVariants.{Constant}
use Rattle.lambda_box.specs.BoxProgram.{BoxConstant, BoxProgram}

abbrev pub constant_nodes : List BoxConstant → ℕ
constant_nodes [] = 0
constant_nodes (d ∷ cs) = nodes d.body + constant_nodes cs

abbrev pub program_nodes : BoxProgram → ℕ
program_nodes P = nodes P.main + constant_nodes P.constants

abbrev pub body_nodes : List Kept → ℕ
body_nodes [] = 0
body_nodes (Constant k T (Some b) ∷ ds) = nodes b + body_nodes ds
body_nodes (d ∷ ds) = body_nodes ds
