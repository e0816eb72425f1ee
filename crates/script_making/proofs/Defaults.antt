-- Two weak-head normal forms that are compared as spines: not both are sorts, or products, or lambdas; and two heads that are neither matches nor fixpoints.
use Rattle.std.proofs.Common.{◌≡◌, refl, ℕ, Bool, List}
use Rattle.universe_levels.specs.declared.sort.Sort.{Sort as SortKind}
use Rattle.pc_terms.specs.Syntax.{Term, SortT}
use Rattle.pc_terms.specs.Syntax as syntax
use Rattle.pc_terms.specs.View.{tree_of}
use Rattle.pc_terms.specs.declared.term.Node.{Node}
use Rattle.pc_terms.specs.declared.term.Def.{Def}
use Rattle.pc_terms.specs.declared.term.Match.{Match}
use Rattle.pc_terms.specs.declared.term.Node.TheVariants.{Sort, Prod, Lambda, Case, Fix}
use Rattle.pc_rules.specs.declared.meter.Account.{Account}
use Rattle.calculus_rules.specs.Environment.{Env}
use Rattle.calculus_rules.specs.Context.{Context}
use Rattle.pc_rules.specs.DirectedComparison.{Test}
use Rattle.cert_rules.specs.declared.item.CertItem.TheVariants.{Same}
use Rattle.cert_rules.specs.Writing.{noting}
use Rattle.cert_rules.specs.MakingTyping.{MakeComparison, make_pair, make_spines_equal, make_heads_equal}

module _ (E : Env) (q : Test) (cmp : MakeComparison) (c : Context) (equal : Bool) (u : Account) where
  -- they are compared as spines
  abbrev pub AreSpines : Term → Term → Type 0
  AreSpines a b = make_pair E q cmp c equal a b u ≡ make_spines_equal E cmp c a b u

  after_sort : (s : SortKind) (y : Node) → ((s' : SortKind) → y ≡ Sort s' → ⊥) → AreSpines (SortT s) (tree_of y)
  after_sort s (Sort s') h = absurd (h s' refl)
  after_sort s y h = refl

  after_product : (A B : Term) (y : Node) → ((A' B' : Term) → y ≡ Prod A' B' → ⊥) → AreSpines (syntax.Prod A B) (tree_of y)
  after_product A B (Prod A' B') h = absurd (h A' B' refl)
  after_product A B y h = refl

  after_lambda : (A b : Term) (y : Node) → ((A' b' : Term) → y ≡ Lambda A' b' → ⊥) → AreSpines (syntax.Lambda A b) (tree_of y)
  after_lambda A b (Lambda A' b') h = absurd (h A' b' refl)
  after_lambda A b y h = refl

  after_other : (x : Node) (b : Term) → ((s : SortKind) → x ≡ Sort s → ⊥) → ((A B : Term) → x ≡ Prod A B → ⊥) → ((A b : Term) → x ≡ Lambda A b → ⊥) →
      AreSpines (tree_of x) b
  after_other (Sort s) b h k l = absurd (h s refl)
  after_other (Prod A B) b h k l = absurd (k A B refl)
  after_other (Lambda A t) b h k l = absurd (l A t refl)
  after_other x b h k l = refl

  -- the same, of the terms that two nodes are views of
  module _ (x y : Node) (a b : Term) (ea : tree_of x ≡ a) (eb : tree_of y ≡ b) where
    pub sort_and_other : (s : SortKind) → x ≡ Sort s → ((s' : SortKind) → y ≡ Sort s' → ⊥) → AreSpines a b
    sort_and_other s e h = rw (← ea, ← eb, e) (after_sort s y h)

    pub product_and_other : (A B : Term) → x ≡ Prod A B → ((A' B' : Term) → y ≡ Prod A' B' → ⊥) → AreSpines a b
    product_and_other A B e h = rw (← ea, ← eb, e) (after_product A B y h)

    pub lambda_and_other : (A t : Term) → x ≡ Lambda A t → ((A' t' : Term) → y ≡ Lambda A' t' → ⊥) → AreSpines a b
    lambda_and_other A t e h = rw (← ea, ← eb, e) (after_lambda A t y h)

    pub other_first : ((s : SortKind) → x ≡ Sort s → ⊥) → ((A B : Term) → x ≡ Prod A B → ⊥) → ((A t : Term) → x ≡ Lambda A t → ⊥) → AreSpines a b
    other_first h k l = rw (← ea) (after_other x b h k l)

module _ (E : Env) (cmp : MakeComparison) (c : Context) (u : Account) where
  -- they are written as the same
  abbrev pub AreHeadsAlone : Term → Term → Type 0
  AreHeadsAlone a b = make_heads_equal E cmp c a b u ≡ noting Same u

  after_match : (x : Match) (y : Node) → ((y' : Match) → y ≡ Case y' → ⊥) → AreHeadsAlone (tree_of (Case x)) (tree_of y)
  after_match x (Case y') h = absurd (h y' refl)
  after_match x y h = refl

  after_fixpoint : (ds : List Def) (i : ℕ) (y : Node) → ((es : List Def) (j : ℕ) → y ≡ Fix es j → ⊥) → AreHeadsAlone (tree_of (Fix ds i)) (tree_of y)
  after_fixpoint ds i (Fix es j) h = absurd (h es j refl)
  after_fixpoint ds i y h = refl

  after_head : (x : Node) (b : Term) → ((x' : Match) → x ≡ Case x' → ⊥) → ((ds : List Def) (i : ℕ) → x ≡ Fix ds i → ⊥) → AreHeadsAlone (tree_of x) b
  after_head (Case x') b h k = absurd (h x' refl)
  after_head (Fix ds i) b h k = absurd (k ds i refl)
  after_head x b h k = refl

  -- the same, of the terms that two nodes are views of
  module _ (x y : Node) (a b : Term) (ea : tree_of x ≡ a) (eb : tree_of y ≡ b) where
    pub match_and_other : (x' : Match) → x ≡ Case x' → ((y' : Match) → y ≡ Case y' → ⊥) → AreHeadsAlone a b
    match_and_other x' e h = rw (← ea, ← eb, e) (after_match x' y h)

    pub fixpoint_and_other : (ds : List Def) (i : ℕ) → x ≡ Fix ds i → ((es : List Def) (j : ℕ) → y ≡ Fix es j → ⊥) → AreHeadsAlone a b
    fixpoint_and_other ds i e h = rw (← ea, ← eb, e) (after_fixpoint ds i y h)

    pub neither_head : ((x' : Match) → x ≡ Case x' → ⊥) → ((ds : List Def) (i : ℕ) → x ≡ Fix ds i → ⊥) → AreHeadsAlone a b
    neither_head h k = rw (← ea) (after_head x b h k)
