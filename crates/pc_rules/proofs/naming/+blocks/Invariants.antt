use Rattle.std.proofs.Common.{◌≡◌, ◌||◌, length, drop}
use Rattle.trees.specs.Tree.{terms_of}
use Rattle.pc_terms.specs.Lists.{arms_of, types_of, bodies_of}
use Rattle.calculus_rules.specs.Naming.{names_block_terms}
use Rattle.pc_rules.proofs.naming.+blocks.Given as goal

abbrev pub invariant-terms_name_block-loop-t : goal.invariant-terms_name_block-loop-t
invariant-terms_name_block-loop-t l = names_block_terms l.block (terms_of l.ts) ≡ names_block_terms l.block (terms_of (drop l.t-index l.ts))

abbrev pub invariant-branches_name_block-loop-b : goal.invariant-branches_name_block-loop-b
invariant-branches_name_block-loop-b l = names_block_terms l.block (arms_of l.bs) ≡ names_block_terms l.block (arms_of (drop l.b-index l.bs))

abbrev pub invariant-definitions_name_block-loop-d : goal.invariant-definitions_name_block-loop-d
invariant-definitions_name_block-loop-d l =
    (names_block_terms l.block (types_of l.ds) || names_block_terms l.block (bodies_of (length l.ds) l.ds)) ≡
    (names_block_terms l.block (types_of (drop l.d-index l.ds)) || names_block_terms l.block (bodies_of (length l.ds) (drop l.d-index l.ds)))
