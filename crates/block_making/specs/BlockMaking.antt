-- The runs of a block that write: its heads, the parts of its constructors, and the whole, in an environment and with a number of rules that may
-- still stand in one another.
use Rattle.std.specs.Prelude.{ℕ, List}
use Rattle.universe_levels.specs.declared.sort.Sort.{Sort}
use Rattle.pc_terms.specs.declared.leaf.Name.{Name}
use Rattle.pc_terms.specs.Syntax.{Term}
use Rattle.calculus_rules.specs.declared.declaration.Constructor.{Constructor}
use Rattle.calculus_rules.specs.declared.declaration.Family.{Family}
use Rattle.calculus_rules.specs.declared.declaration.Block.{Block}
use Rattle.calculus_rules.specs.Environment.{Env}
use Rattle.calculus_rules.specs.Context.{Context}
use Rattle.pc_rules.specs.declared.meter.Account.{Account}
use Rattle.pc_rules.specs.DirectedRun.{Run, done}
use Rattle.pc_rules.specs.DirectedDeclarations.{fits_sort, positive_rule}
use Rattle.pc_rules.specs.Entailment.{test_of}
use Rattle.cert_rules.specs.Writing.{Wrote, WriteAct, silent, write_on}
use Rattle.cert_rules.specs.MakingDeclarations.{make_head, make_heads, make_block_heads, make_arguments, make_constructor, make_constructors, make_families, make_block}
use Rattle.script_making.specs.Comparing.{compare_making}
use Rattle.type_making.specs.Making.{infer_making, sort_making}

abbrev pub head_making : Env → ℕ → Block → Family → WriteAct
head_making E n = make_head E (infer_making E n)

abbrev pub heads_making : Env → ℕ → Block → List Family → WriteAct
heads_making E n = make_heads E (infer_making E n)

abbrev pub block_heads_making : Env → ℕ → Block → WriteAct
block_heads_making E n = make_block_heads E (infer_making E n)

-- one argument of constructor j of family i of block k, in a family of sort r: it has a sort, which that allows, and its type is positive
abbrev pub argument_making : Env → ℕ → Name → ℕ → ℕ → Sort → Context → Term → Account → Run (Wrote Sort)
argument_making E n k i j r c A u =
    write_on (sort_making E n c A u) (λ s v.
    write_on (silent (fits_sort (test_of E) r s) v) (λ _ w.
    write_on (silent (positive_rule E k i j A) w) (λ _ x. silent (done s) x)))

abbrev pub arguments_making : Env → ℕ → Name → ℕ → ℕ → Sort → Context → List Term → Account → Run (Wrote (List Sort))
arguments_making E n = make_arguments E (test_of E) (infer_making E n)

-- constructor j of family F, which is number i of block B
abbrev pub ctor_making : Env → ℕ → Block → Family → ℕ → ℕ → Constructor → Account → Run (Wrote Constructor)
ctor_making E n = make_constructor E (test_of E) (infer_making E n) (compare_making E n)

-- the constructors from number j on
abbrev pub ctors_making : Env → ℕ → Block → Family → ℕ → ℕ → List Constructor → Account → Run (Wrote (List Constructor))
ctors_making E n = make_constructors E (test_of E) (infer_making E n) (compare_making E n)

-- the families from number i on
abbrev pub families_making : Env → ℕ → Block → ℕ → List Family → Account → Run (Wrote (List Family))
families_making E n = make_families E (test_of E) (infer_making E n) (compare_making E n)

abbrev pub block_making : Env → ℕ → Block → Account → Run (Wrote Block)
block_making E n = make_block E (test_of E) n
