-- The certified walk of blocks, constants and whole environments: levels, constraints, the graph, the declarations in order, main, in the
-- order of the directed rules; positivity is tested once for each block, after its last constructor. Items that are left at the end are
-- refused at the first of them.
use Rattle.std.specs.Prelude.{ℕ, ◌+◌, ◌==◌, Bool, if◌then◌else◌, List, [], ◌∷◌, length, Option, Some, None}
use Rattle.universe_levels.specs.declared.level.Level.{Level}
use Rattle.universe_levels.specs.declared.constraint.Constraint.{Constraint}
use Rattle.universe_levels.specs.declared.sort.Sort.{Sort}
use Rattle.pc_terms.specs.declared.leaf.Name.{Name}
use Rattle.pc_terms.specs.Syntax.{Term, Rel}
use Rattle.calculus_rules.specs.declared.declaration.Constructor.{Constructor}
use Rattle.calculus_rules.specs.declared.declaration.Family.{Family}
use Rattle.calculus_rules.specs.declared.declaration.Block.{Block}
use Rattle.calculus_rules.specs.declared.declaration.Kept.{Kept}
use Rattle.calculus_rules.specs.declared.declaration.Kept.TheVariants.{Constant, Block as Whole}
use Rattle.calculus_rules.specs.declared.entry.Entry.TheVariants.{Assumed}
use Rattle.pc_rules.specs.declared.meter.Account.{Account}
use Rattle.calculus_rules.specs.Environment.{Env}
use Rattle.calculus_rules.specs.Context.{Context, extend}
use Rattle.calculus_rules.specs.Accepted.{env}
use Rattle.calculus_rules.specs.Lookups.{kept_at}
use Rattle.pc_rules.specs.DirectedComparison.{Test}
use Rattle.pc_rules.specs.DirectedPositivity.{block_positive}
use Rattle.pc_rules.specs.DirectedTyping.{counted, undeclared_in, levels_declared}
use Rattle.pc_rules.specs.DirectedDeclarations.{distinct_names, fits_sort, with_sorts, with_constructors, with_families, with_heads, Given, GivenConstant, GivenBlock, fresh_name, first_repeated, first_undeclared_end}
use Rattle.cert_rules.specs.Walk.{Items, WalkState, WalkAct, Walk, pass, bar_here, walk_on, by_rules}
use Rattle.cert_rules.specs.Scripts.{Script, script}
use Rattle.cert_rules.specs.WalkTyping.{Walking, walk_infer, walk_sort_of, walk_sorts_of, walk_check, walk_check_all}

-- a block's heads

abbrev pub walk_head : Items → Env → Walking → Block → Family → WalkAct
walk_head cert E inf B F s =
    walk_on (by_rules (distinct_names [] F.ctors) s) (λ _ v.
    walk_on (by_rules (levels_declared (undeclared_in E.levels F.sort)) v) (λ _ w.
    walk_on (walk_sorts_of cert E inf (extend [] B.params) F.indices w) (λ xs x. pass tt x)))

abbrev pub walk_heads : Items → Env → Walking → Block → List Family → WalkAct
walk_heads cert E inf B [] s = pass tt s
walk_heads cert E inf B (F ∷ Fs) s = walk_on (walk_head cert E inf B F s) (λ _ v. walk_heads cert E inf B Fs v)

abbrev pub walk_block_heads : Items → Env → Walking → Block → WalkAct
walk_block_heads cert E inf B s = walk_on (walk_sorts_of cert E inf [] B.params s) (λ xs v. walk_heads cert E inf B B.families v)

-- a block's constructors

unfoldable pub walk_arguments : Items → Env → Test → Walking → Sort → Context → List Term → WalkState → Walk (List Sort)
walk_arguments cert H q inf r c [] s = pass [] s
walk_arguments cert H q inf r c (A ∷ As) s =
    walk_on (walk_sort_of cert H inf c A s) (λ x v.
    walk_on (by_rules (fits_sort q r x) v) (λ _ w.
    walk_on (walk_arguments cert H q inf r (Assumed A ∷ c) As w) (λ xs y. pass (x ∷ xs) y)))

abbrev pub walk_constructor : Items → Env → Test → Walking → Script → Block → Family → Constructor → WalkState → Walk Constructor
walk_constructor cert H q inf cmp B F C s =
    walk_on (walk_arguments cert H q inf F.sort (extend [] B.params) C.args s) (λ xs v.
    walk_on (by_rules (counted (length F.indices) (length C.result)) v) (λ _ w.
    walk_on (walk_check_all cert H inf cmp (extend (extend [] B.params) C.args) (λ i. Rel (length C.args + i)) C.result F.indices w) (λ _ x.
    pass (with_sorts C xs) x)))

unfoldable pub walk_constructors : Items → Env → Test → Walking → Script → Block → Family → List Constructor → WalkState → Walk (List Constructor)
walk_constructors cert H q inf cmp B F [] s = pass [] s
walk_constructors cert H q inf cmp B F (C ∷ Cs) s =
    walk_on (walk_constructor cert H q inf cmp B F C s) (λ D v. walk_on (walk_constructors cert H q inf cmp B F Cs v) (λ Ds w. pass (D ∷ Ds) w))

unfoldable pub walk_families : Items → Env → Test → Walking → Script → Block → List Family → WalkState → Walk (List Family)
walk_families cert H q inf cmp B [] s = pass [] s
walk_families cert H q inf cmp B (F ∷ Fs) s =
    walk_on (walk_constructors cert H q inf cmp B F F.ctors s) (λ Cs v.
    walk_on (walk_families cert H q inf cmp B Fs v) (λ Gs w. pass (with_constructors F Cs ∷ Gs) w))

abbrev pub walk_positive : Bool → WalkAct
walk_positive positive s = if positive then pass tt s else bar_here s

-- a block with the argument sorts that the walk comes to; n rules may still stand in one another
abbrev pub walk_block : Items → Env → Test → ℕ → Block → WalkState → Walk Block
walk_block cert E q n B s =
    walk_on (walk_block_heads cert E (walk_infer cert E q n) B s) (λ _ v.
    walk_on (walk_families cert (with_heads E B) q (walk_infer cert (with_heads E B) q n) (script cert (with_heads E B) q n) B B.families v) (λ Fs w.
    walk_on (by_rules (block_positive (with_heads E B) B) w) (λ positive x.
    walk_on (walk_positive positive x) (λ _ y. pass (with_families B Fs) y))))

-- a constant

abbrev pub walk_body : Items → Env → Walking → Script → Term → Option Term → WalkAct
walk_body cert E inf cmp T None s = pass tt s
walk_body cert E inf cmp T (Some b) s = walk_check cert E inf cmp [] b T s

abbrev pub walk_constant : Items → Env → Test → ℕ → Name → Term → Option Term → WalkState → Walk Kept
walk_constant cert E q n k T b s =
    walk_on (walk_sort_of cert E (walk_infer cert E q n) [] T s) (λ x v.
    walk_on (walk_body cert E (walk_infer cert E q n) (script cert E q n) T b v) (λ _ w. pass (Constant k T b) w))

abbrev pub walk_declaration : Items → Env → Test → ℕ → Given → WalkState → Walk Kept
walk_declaration cert E q n (GivenConstant k T b) s =
    walk_on (by_rules (fresh_name (kept_at E.declarations k) k) s) (λ _ v. walk_constant cert E q n k T b v)
walk_declaration cert E q n (GivenBlock B) s =
    walk_on (by_rules (fresh_name (kept_at E.declarations B.name) B.name) s) (λ _ v. walk_on (walk_block cert E q n B v) (λ D w. pass (Whole D) w))

-- all items are used
abbrev pub walk_end : Items → Env → Term → WalkState → Walk (Env × Term)
walk_end cert E T s = if s.at == length cert then pass (E, T) s else bar_here s

abbrev pub walk_main : Items → Env → Test → ℕ → Term → WalkState → Walk (Env × Term)
walk_main cert E q n main s = walk_on (walk_infer cert E q n [] main s) (λ T v. walk_end cert E T v)

-- declarations over those that are kept, and then main
unfoldable pub walk_declarations : Items → ℕ → List Constraint → Test → ℕ → List Kept → List Given → Term → WalkState → Walk (Env × Term)
walk_declarations cert levels cs q n ds [] main s = walk_main cert (env levels cs ds) q n main s
walk_declarations cert levels cs q n ds (d ∷ rest) main s =
    walk_on (walk_declaration cert (env levels cs ds) q n d s) (λ k v. walk_declarations cert levels cs q n (k ∷ ds) rest main v)

-- what is found before the declarations is refused at the next item, which is the first one
abbrev pub walk_unless : {A : Type 0} → Option A → Walk (Env × Term) → WalkState → Walk (Env × Term)
walk_unless None go s = go
walk_unless (Some a) go s = bar_here s

-- the whole, with a cycle of the constraints, if there is one: it gives the environment with the sorts of constructor arguments, and main's type
abbrev pub walk_environment : Items → List Level → List Constraint → Option (List ℕ) → Test → ℕ → List Given → Term → WalkState → Walk (Env × Term)
walk_environment cert levels cs cycle q n ds main s =
    walk_unless (first_repeated 0 [] levels)
    (walk_unless (first_undeclared_end (length levels) 0 cs)
    (walk_unless cycle (walk_declarations cert (length levels) cs q n [] ds main s) s) s) s

-- from the first item on
abbrev pub start : Account → WalkState
start u = record { account = u; at = 0 }
