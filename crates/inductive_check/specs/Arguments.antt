-- Parts of the directed rules of blocks: what single calls do.
use Rattle.std.specs.Prelude.{ℕ, List}
use Rattle.universe_levels.specs.declared.sort.Sort.{Sort}
use Rattle.pc_terms.specs.declared.leaf.Name.{Name}
use Rattle.pc_terms.specs.Syntax.{Term}
use Rattle.calculus_rules.specs.declared.declaration.Constructor.{Constructor}
use Rattle.calculus_rules.specs.declared.declaration.Family.{Family}
use Rattle.calculus_rules.specs.declared.declaration.Block.{Block}
use Rattle.pc_rules.specs.declared.meter.Account.{Account}
use Rattle.calculus_rules.specs.Environment.{Env}
use Rattle.calculus_rules.specs.Context.{Context}
use Rattle.pc_rules.specs.DirectedRun.{Run, Act, done, bind}
use Rattle.pc_rules.specs.DirectedComparison.{Test, compare}
use Rattle.pc_rules.specs.DirectedTyping.{Typing, sort_of, sorts_of, infer, check, check_all}
use Rattle.pc_rules.specs.DirectedDeclarations.{fits_sort, positive_rule, arguments_rule, constructor_rule, constructors_rule, families_rule}
use Rattle.pc_rules.specs.Entailment.{test_of}

-- one argument of constructor n of family f, whose sort is r: it has a sort, which is small enough, and its type is positive
abbrev pub argument_rule : Env → Test → Typing → Name → ℕ → ℕ → Sort → Context → Term → Account → Run Sort
argument_rule H q inf k f n r c A u =
    bind (sort_of H inf c A u) (λ s v. bind (fits_sort q r s v) (λ _ w. bind (positive_rule H k f n A w) (λ _ x. done s x)))

-- that each entry of a telescope has a sort, whichever it is
abbrev pub entries_rule : Env → Typing → Context → List Term → Act
entries_rule E inf c As u = bind (sorts_of E inf c As u) (λ ss v. done tt v)

-- rules over an environment with its own test, where n rules may still stand in one another: of a term, of the result terms of a constructor, of its
-- arguments, and of whole constructors and families

abbrev pub check_within : Env → ℕ → Context → Term → Term → Act
check_within E n = check E (infer E (test_of E) n) (compare E (test_of E) n)

abbrev pub results_within : Env → ℕ → Context → (ℕ → Term) → List Term → List Term → Act
results_within E n = check_all E (infer E (test_of E) n) (compare E (test_of E) n)

abbrev pub argument_within : Env → ℕ → Name → ℕ → ℕ → Sort → Context → Term → Account → Run Sort
argument_within E n = argument_rule E (test_of E) (infer E (test_of E) n)

abbrev pub arguments_within : Env → ℕ → Name → ℕ → ℕ → Sort → Context → List Term → Account → Run (List Sort)
arguments_within E n = arguments_rule E (test_of E) (infer E (test_of E) n)

abbrev pub constructor_within : Env → ℕ → Block → Family → ℕ → ℕ → Constructor → Account → Run Constructor
constructor_within E n = constructor_rule E (test_of E) (infer E (test_of E) n) (compare E (test_of E) n)

abbrev pub constructors_within : Env → ℕ → Block → Family → ℕ → ℕ → List Constructor → Account → Run (List Constructor)
constructors_within E n = constructors_rule E (test_of E) (infer E (test_of E) n) (compare E (test_of E) n)

abbrev pub families_within : Env → ℕ → Block → ℕ → List Family → Account → Run (List Family)
families_within E n = families_rule E (test_of E) (infer E (test_of E) n) (compare E (test_of E) n)
