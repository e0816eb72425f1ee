use Rattle.std.proofs.Common.{rules, ap, ◌∙◌}
use Rattle.dump_parser.specs.declared.environment.DeclTree.TheVariants as trees
use Rattle.dump_reader.proofs.Members.{decl-along, block-decl, block-made, constant-decl, constant-made, axiom-decl, axiom-made}
use Rattle.dump_reader.proofs.declared.declaration.Goals as goal

pub returns-in_ok-term-in-Some-clause-made : goal.returns-in_ok-term-in-Some-clause-made
returns-in_ok-term-in-Some-clause-made c =
    decl-along (c.in-Constant.is ∙ ap (λ b. trees.Constant c.in-Constant.name c.in-Constant.ty b) c.in-Some.is)
    (constant-decl c.in-Constant.name c.in-Constant.ty c.in-Some.tree
    (constant-made c.in-Constant.name c.in_ok-name-in-Constant.name c.in-Constant.ty c.in-Some.tree c.in_ok-ty-in-Constant.ty c.in_ok-term-in-Some.field-0
    c.in_ok-name-in-Constant.ensures.made c.in_ok-ty-in-Constant.ensures.made c.in_ok-term-in-Some.ensures.made))

pub returns-in-None-clause-made : goal.returns-in-None-clause-made
returns-in-None-clause-made c =
    decl-along (c.in-Constant.is ∙ ap (λ b. trees.Constant c.in-Constant.name c.in-Constant.ty b) c.in-None.is)
    (axiom-decl c.in-Constant.name c.in-Constant.ty
    (axiom-made c.in-Constant.name c.in_ok-name-in-Constant.name c.in-Constant.ty c.in_ok-ty-in-Constant.ty c.in_ok-name-in-Constant.ensures.made c.in_ok-ty-in-Constant.ensures.made))

pub returns-in_ok-items-in-Block-clause-made : goal.returns-in_ok-items-in-Block-clause-made
returns-in_ok-items-in-Block-clause-made c =
    decl-along c.in-Block.is
    (block-decl c.in-Block.name c.in-Block.params c.in-Block.trees
    (block-made c.in-Block.name c.in_ok-name-in-Block.name c.in-Block.params.items c.as_slice.result.now c.in_ok-params-in-Block.params.items c.of.result c.in-Block.trees.items c.as_slice-in-Block.result.now
    c.in_ok-items-in-Block.items.items c.of-in-Block.result c.in_ok-name-in-Block.ensures.made c.as_slice.ensures.value c.of.ensures.is c.in_ok-params-in-Block.ensures.made c.as_slice-in-Block.ensures.value
    c.of-in-Block.ensures.is c.in_ok-items-in-Block.ensures.made))
