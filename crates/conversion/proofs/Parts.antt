-- The parts of well-counted terms are well counted.
use Rattle.std.proofs.Common.{◌≡◌, sym, ℕ, zero, suc, ◌<◌, List, [], ◌∷◌, length, get_or, subst, arith}
use Rattle.trees.specs.Tree.{terms_of}
use Rattle.universe_levels.specs.declared.sort.Sort.{Sort}
use Rattle.universe_levels.specs.Consistency.{IsSortOver}
use Rattle.pc_terms.specs.Syntax.{Term, Terms, SortT, Prod, Lambda, Case, Fix, head, args, list_of}
use Rattle.pc_terms.specs.Lists.{arms_of}
use Rattle.pc_terms.specs.declared.leaf.FamilyId.{FamilyId}
use Rattle.pc_terms.specs.declared.term.Branch.{Branch}
use Rattle.calculus_rules.specs.declared.entry.Entry.TheVariants.{Assumed}
use Rattle.calculus_rules.specs.Environment.{Env}
use Rattle.calculus_rules.specs.Context.{Context, Values, values, extend}
use Rattle.calculus_rules.specs.WeakHead.{WeakSteps}
use Rattle.pc_rules.specs.WellCounted.{IsCounted, AreCounted, AreCountedValues}
use Rattle.rule_laws.proofs.Counted.{head_counted, args_counted, list_counted}
use Rattle.rule_laws.proofs.KeepCounts.{steps_counted}
use Rattle.conversion.specs.Comparable.{AreComparable}
use Rattle.calculus_rules.proofs.Listing.{listed}

-- the entries of a telescope have no values
pub extended_values : (E : Env) (c : Context) (As : List Term) → AreCountedValues E (values c) → AreCountedValues E (values (extend c As))
extended_values E c [] h = h
extended_values E c (A ∷ As) h = extended_values E (Assumed A ∷ c) As h

item_counted : (E : Env) (ts : List Term) (i : ℕ) (t : Term) → i < length ts → t ≡ get_or ts i t → AreCounted E ts → IsCounted E t
item_counted E [] i t h e k = absurd (omega arith)
item_counted E (x ∷ ts) zero t h e k = subst (λ t. IsCounted E t) (sym e) k.0
item_counted E (x ∷ ts) (suc i) t h e k = item_counted E ts i t (omega arith) e k.1

body_counted : (E : Env) (bs : List Branch) (i : ℕ) (b : Branch) → i < length bs → b ≡ get_or bs i b → AreCounted E (list_of (arms_of bs)) → IsCounted E b.body
body_counted E [] i b h e k = absurd (omega arith)
body_counted E (x ∷ bs) zero b h e k = subst (λ (b : Branch). IsCounted E b.body) (sym e) k.0
body_counted E (x ∷ bs) (suc i) b h e k = body_counted E bs i b (omega arith) e k.1

module _ (E : Env) (V : Values) where
  -- two terms, from the same two as well-counted terms
  two : (ts us : List Term) (a b : Term) → AreComparable E V ts us → IsCounted E a → IsCounted E b → AreComparable E V (a ∷ []) (b ∷ [])
  two ts us a b h p q = record { env = h.env; values = h.values; left = (p, tt); right = (q, tt) }

  pub whnfs_comparable : (a b x y : Term) → AreComparable E V (a ∷ []) (b ∷ []) → WeakSteps E V a x → WeakSteps E V b y → AreComparable E V (x ∷ []) (y ∷ [])
  whnfs_comparable a b x y h p q =
      two (a ∷ []) (b ∷ []) x y h (steps_counted E h.env.declarations h.values p h.left.0) (steps_counted E h.env.declarations h.values q h.right.0)

  pub left_sort : (s s' : Sort) → AreComparable E V (SortT s ∷ []) (SortT s' ∷ []) → IsSortOver E.levels s
  left_sort s s' h = h.left.0.0.1

  pub right_sort : (s s' : Sort) → AreComparable E V (SortT s ∷ []) (SortT s' ∷ []) → IsSortOver E.levels s'
  right_sort s s' h = h.right.0.0.1

  pub domains_comparable : (A B A' B' : Term) → AreComparable E V (Prod A B ∷ []) (Prod A' B' ∷ []) → AreComparable E V (A ∷ []) (A' ∷ [])
  domains_comparable A B A' B' h = two _ _ A A' h h.left.0.1.0 h.right.0.1.0

  pub binders_comparable : (A b A' b' : Term) → AreComparable E V (Lambda A b ∷ []) (Lambda A' b' ∷ []) → AreComparable E V (A ∷ []) (A' ∷ [])
  binders_comparable A b A' b' h = two _ _ A A' h h.left.0.1.0 h.right.0.1.0

  pub heads_comparable : (a b f g : Term) → f ≡ head a → g ≡ head b → AreComparable E V (a ∷ []) (b ∷ []) → AreComparable E V (f ∷ []) (g ∷ [])
  heads_comparable a b f g e e' h = rw (e, e') (two (a ∷ []) (b ∷ []) (head a) (head b) h (head_counted E a h.left.0) (head_counted E b h.right.0))

  -- lists that are the same as two comparable ones
  pub same_comparable : (ts us xs ys : List Term) → xs ≡ ts → ys ≡ us → AreComparable E V ts us → AreComparable E V xs ys
  same_comparable ts us xs ys e e' h = rw (e, e') h

  pub args_comparable : (a b : Term) (xs ys : List Term) → xs ≡ args a → ys ≡ args b → AreComparable E V (a ∷ []) (b ∷ []) → AreComparable E V xs ys
  args_comparable a b xs ys e e' h =
      same_comparable (args a) (args b) xs ys e e'
      (record { env = h.env; values = h.values; left = args_counted E a h.left.0; right = args_counted E b h.right.0 })

  pub items_comparable : (ts us : List Term) (i : ℕ) (t u : Term) → i < length ts → i < length us → t ≡ get_or ts i t → u ≡ get_or us i u → AreComparable E V ts us →
      AreComparable E V (t ∷ []) (u ∷ [])
  items_comparable ts us i t u k l p q h = two ts us t u h (item_counted E ts i t k p h.left) (item_counted E us i u l q h.right)

  module _ (f g : FamilyId) (ps qs : List Term) (n m : ℕ) (ret ret' s s' : Term) (bs bs' : List Branch)
      (h : AreComparable E V (Case f (terms_of ps) n ret s (arms_of bs) ∷ []) (Case g (terms_of qs) m ret' s' (arms_of bs') ∷ [])) where
    pub parameters_comparable : AreComparable E V ps qs
    parameters_comparable = record {
      env = h.env;
      values = h.values;
      left = subst (λ ts. AreCounted E ts) (listed ps) (list_counted E (terms_of ps) h.left.0.1.0);
      right = subst (λ ts. AreCounted E ts) (listed qs) (list_counted E (terms_of qs) h.right.0.1.0);
    }

    pub predicates_comparable : AreComparable E V (ret ∷ []) (ret' ∷ [])
    predicates_comparable = two _ _ ret ret' h h.left.0.1.1.0 h.right.0.1.1.0

    pub scrutinees_comparable : AreComparable E V (s ∷ []) (s' ∷ [])
    scrutinees_comparable = two _ _ s s' h h.left.0.1.1.1.0 h.right.0.1.1.1.0

    pub branches_comparable : (i : ℕ) (b b' : Branch) → i < length bs → i < length bs' → b ≡ get_or bs i b → b' ≡ get_or bs' i b' →
        AreComparable E V (b.body ∷ []) (b'.body ∷ [])
    branches_comparable i b b' k l p q =
        two _ _ b.body b'.body h (body_counted E bs i b k p (list_counted E (arms_of bs) h.left.0.1.1.1.1.0))
        (body_counted E bs' i b' l q (list_counted E (arms_of bs') h.right.0.1.1.1.1.0))

  module _ (i j : ℕ) (rargs rargs' : List ℕ) (types bodies types' bodies' : Terms)
      (h : AreComparable E V (Fix i rargs types bodies ∷ []) (Fix j rargs' types' bodies' ∷ [])) where
    pub types_comparable : AreComparable E V (list_of types) (list_of types')
    types_comparable =
        record { env = h.env; values = h.values; left = list_counted E types h.left.0.1.0; right = list_counted E types' h.right.0.1.0 }

    pub bodies_comparable : AreComparable E V (list_of bodies) (list_of bodies')
    bodies_comparable =
        record { env = h.env; values = h.values; left = list_counted E bodies h.left.0.1.1.0; right = list_counted E bodies' h.right.0.1.1.0 }

-- under one more assumption, and under the entries of a telescope

module _ (E : Env) (c d : Context) (A A' b b' : Term) (e : d ≡ Assumed A ∷ c) where
  under : IsCounted E b → IsCounted E b' → AreComparable E (values c) (A ∷ []) (A' ∷ []) → AreComparable E (values d) (b ∷ []) (b' ∷ [])
  under p q h = rw e (record { env = h.env; values = h.values; left = (p, tt); right = (q, tt) })

  pub codomains_comparable : AreComparable E (values c) (Prod A b ∷ []) (Prod A' b' ∷ []) → AreComparable E (values d) (b ∷ []) (b' ∷ [])
  codomains_comparable h = under h.left.0.1.1.0 h.right.0.1.1.0 (domains_comparable E (values c) A b A' b' h)

  pub lambda_bodies_comparable : AreComparable E (values c) (Lambda A b ∷ []) (Lambda A' b' ∷ []) → AreComparable E (values d) (b ∷ []) (b' ∷ [])
  lambda_bodies_comparable h = under h.left.0.1.1.0 h.right.0.1.1.0 (binders_comparable E (values c) A b A' b' h)

pub extended_comparable : (E : Env) (c d : Context) (As ts us : List Term) → d ≡ extend c As → AreComparable E (values c) ts us → AreComparable E (values d) ts us
extended_comparable E c d As ts us e h =
    rw e (record { env = h.env; values = extended_values E c As h.values; left = h.left; right = h.right })
