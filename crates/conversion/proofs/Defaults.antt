-- Two weak-head normal forms that are compared as spines: not both are sorts, or products, or lambdas.
use Rattle.std.proofs.Common.{◌≡◌, refl, Bool}
use Rattle.universe_levels.specs.declared.sort.Sort.{Sort as SortKind}
use Rattle.pc_terms.specs.Syntax.{Term, SortT}
use Rattle.pc_terms.specs.Syntax as syntax
use Rattle.pc_terms.specs.View.{tree_of}
use Rattle.pc_terms.specs.declared.term.Node.{Node}
use Rattle.pc_terms.specs.declared.term.Node.TheVariants.{Sort, Prod, Lambda}
use Rattle.pc_rules.specs.declared.meter.Account.{Account}
use Rattle.calculus_rules.specs.Environment.{Env}
use Rattle.calculus_rules.specs.Context.{Context}
use Rattle.pc_rules.specs.DirectedComparison.{Test, Comparison, pair, spines_equal}

module _ (E : Env) (q : Test) (cmp : Comparison) (c : Context) (equal : Bool) (u : Account) where
  -- they are compared as spines
  abbrev pub AreSpines : Term → Term → Type 0
  AreSpines a b = pair E q cmp c equal a b u ≡ spines_equal E cmp c a b u

  after_sort : (s : SortKind) (y : Node) → ((s' : SortKind) → y ≡ Sort s' → ⊥) → AreSpines (SortT s) (tree_of y)
  after_sort s (Sort s') h = absurd (h s' refl)
  after_sort s y h = refl

  after_product : (A B : Term) (y : Node) → ((A' B' : Term) → y ≡ Prod A' B' → ⊥) → AreSpines (syntax.Prod A B) (tree_of y)
  after_product A B (Prod A' B') h = absurd (h A' B' refl)
  after_product A B y h = refl

  after_lambda : (A b : Term) (y : Node) → ((A' b' : Term) → y ≡ Lambda A' b' → ⊥) → AreSpines (syntax.Lambda A b) (tree_of y)
  after_lambda A b (Lambda A' b') h = absurd (h A' b' refl)
  after_lambda A b y h = refl

  after_other : (x : Node) (b : Term) → ((s : SortKind) → x ≡ Sort s → ⊥) → ((A B : Term) → x ≡ Prod A B → ⊥) → ((A b : Term) → x ≡ Lambda A b → ⊥) →
      AreSpines (tree_of x) b
  after_other (Sort s) b h k l = absurd (h s refl)
  after_other (Prod A B) b h k l = absurd (k A B refl)
  after_other (Lambda A t) b h k l = absurd (l A t refl)
  after_other x b h k l = refl

  -- the same, of the terms that two nodes are views of
  module _ (x y : Node) (a b : Term) (ea : tree_of x ≡ a) (eb : tree_of y ≡ b) where
    pub sort_and_other : (s : SortKind) → x ≡ Sort s → ((s' : SortKind) → y ≡ Sort s' → ⊥) → AreSpines a b
    sort_and_other s e h = rw (← ea, ← eb, e) (after_sort s y h)

    pub product_and_other : (A B : Term) → x ≡ Prod A B → ((A' B' : Term) → y ≡ Prod A' B' → ⊥) → AreSpines a b
    product_and_other A B e h = rw (← ea, ← eb, e) (after_product A B y h)

    pub lambda_and_other : (A t : Term) → x ≡ Lambda A t → ((A' t' : Term) → y ≡ Lambda A' t' → ⊥) → AreSpines a b
    lambda_and_other A t e h = rw (← ea, ← eb, e) (after_lambda A t y h)

    pub other_first : ((s : SortKind) → x ≡ Sort s → ⊥) → ((A B : Term) → x ≡ Prod A B → ⊥) → ((A t : Term) → x ≡ Lambda A t → ⊥) → AreSpines a b
    other_first h k l = rw (← ea) (after_other x b h k l)
