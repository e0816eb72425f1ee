-- The walks of a verifier along a block: its heads, the parts of its constructors, its positivity, and the whole.
use Rattle.std.specs.Prelude.{List}
use Rattle.universe_levels.specs.declared.sort.Sort.{Sort}
use Rattle.pc_terms.specs.Syntax.{Term}
use Rattle.calculus_rules.specs.declared.declaration.Constructor.{Constructor}
use Rattle.calculus_rules.specs.declared.declaration.Family.{Family}
use Rattle.calculus_rules.specs.declared.declaration.Block.{Block}
use Rattle.calculus_rules.specs.Environment.{Env}
use Rattle.calculus_rules.specs.Context.{Context}
use Rattle.pc_rules.specs.Entailment.{test_of}
use Rattle.pc_rules.specs.DirectedPositivity.{block_positive}
use Rattle.pc_rules.specs.DirectedDeclarations.{fits_sort}
use Rattle.cert_rules.specs.Walk.{WalkState, Walk, WalkAct, pass, walk_on, by_rules}
use Rattle.cert_rules.specs.WalkDeclarations.{walk_head, walk_heads, walk_block_heads, walk_arguments, walk_constructor, walk_constructors, walk_families, walk_positive, walk_block}
use Rattle.type_cert.specs.declared.verifier.Verifier.{Verifier}
use Rattle.type_cert.specs.Going.{going, inferring, sorting}

abbrev pub head_walk : Verifier → Block → Family → WalkAct
head_walk v B F = walk_head v.cert.now v.env.now (inferring v) B F

abbrev pub heads_walk : Verifier → Block → List Family → WalkAct
heads_walk v B Fs = walk_heads v.cert.now v.env.now (inferring v) B Fs

abbrev pub block_heads_walk : Verifier → Block → WalkAct
block_heads_walk v B = walk_block_heads v.cert.now v.env.now (inferring v) B

-- one argument of a constructor in a family of sort r: it has a sort, which that allows
abbrev pub argument_walk : Verifier → Sort → Context → Term → WalkState → Walk Sort
argument_walk v r c A s = walk_on (sorting v c A s) (λ x w. walk_on (by_rules (fits_sort (test_of v.env.now) r x) w) (λ _ y. pass x y))

abbrev pub arguments_walk : Verifier → Sort → Context → List Term → WalkState → Walk (List Sort)
arguments_walk v r c As = walk_arguments v.cert.now v.env.now (test_of v.env.now) (inferring v) r c As

abbrev pub ctor_walk : Verifier → Block → Family → Constructor → WalkState → Walk Constructor
ctor_walk v B F C = walk_constructor v.cert.now v.env.now (test_of v.env.now) (inferring v) (going v) B F C

abbrev pub ctors_walk : Verifier → Block → Family → List Constructor → WalkState → Walk (List Constructor)
ctors_walk v B F Cs = walk_constructors v.cert.now v.env.now (test_of v.env.now) (inferring v) (going v) B F Cs

-- all constructors of a family
abbrev pub family_walk : Verifier → Block → Family → WalkState → Walk (List Constructor)
family_walk v B F = ctors_walk v B F F.ctors

abbrev pub families_walk : Verifier → Block → List Family → WalkState → Walk (List Family)
families_walk v B Fs = walk_families v.cert.now v.env.now (test_of v.env.now) (inferring v) (going v) B Fs

-- positivity of a block, over the environment that knows its families by their types alone
abbrev pub positivity_walk : Env → Block → WalkAct
positivity_walk H B s = walk_on (by_rules (block_positive H B) s) (λ positive w. walk_positive positive w)

abbrev pub block_walk : Verifier → Block → WalkState → Walk Block
block_walk v B = walk_block v.cert.now v.env.now (test_of v.env.now) v.room B
