-- Parts of terms that pass the limits of terms in memory.
use Rattle.std.proofs.Common.{◌≡◌, ℕ, zero, suc, ◌<◌, ◌⊎◌, inl, inr, List, [], ◌∷◌, ◌++◌, length, get_or, refl, sym, subst, arith}
use Rattle.trees.specs.Tree.{terms_of}
use Rattle.trees.specs.Measures.{depth_trees, above_trees, IsBeyond, AreBeyond}
use Rattle.pc_terms.specs.Syntax.{Term, App, head, args, list_of}
use Rattle.pc_terms.specs.Lists.{arms_of, types_of, bodies_of, AreBeyondDefs}
use Rattle.pc_terms.specs.View.{tree_of}
use Rattle.pc_terms.specs.declared.term.Branch.{Branch}
use Rattle.pc_terms.specs.declared.term.Def.{Def}
use Rattle.pc_terms.specs.declared.term.Match.{Match}
use Rattle.pc_terms.specs.declared.term.Node.TheVariants.{Case, Fix}
use Rattle.lazy_conversion.specs.Parts.{read_part}
use Rattle.lazy_conversion.specs.Shapes.{product_of}
use Rattle.lazy_conversion.specs.Stuck.{type_list, body_list, DefsBeyond}
use Rattle.lazy_conversion.specs.Tracks.{EitherBeyond, AnyBeyond}
use Rattle.lazy_conversion.specs.declared.shapes.Binder.{Binder}
use Rattle.pc_terms.proofs.Parts.{larger}

-- heads and arguments

head_beyond : (t : Term) → IsBeyond (head t) → IsBeyond t
head_beyond (App f a) h = larger (omega arith) (omega arith) (head_beyond f h)
head_beyond t h = h

pub heads_beyond : (a b f g : Term) → head a ≡ f → head b ≡ g → EitherBeyond f g → EitherBeyond a b
heads_beyond a b f g e d (inl h) = inl (head_beyond a (subst (λ (t : Term). IsBeyond t) (sym e) h))
heads_beyond a b f g e d (inr h) = inr (head_beyond b (subst (λ (t : Term). IsBeyond t) (sym d) h))

last_item : (xs : List Term) (a : Term) (i : ℕ) (t : Term) → i < length (xs ++ a ∷ []) → t ≡ get_or (xs ++ a ∷ []) i t → ((i < length xs) × (t ≡ get_or xs i t)) ⊎ (t ≡ a)
last_item [] a zero t h e = inr e
last_item [] a (suc i) t h e = absurd (omega arith)
last_item (x ∷ xs) a zero t h e = inl (omega arith, e)
last_item (x ∷ xs) a (suc i) t h e = elim (last_item xs a i t (omega arith) e) [
  | inl p ↦ inl (omega (arith, p.0), p.1)
  | inr p ↦ inr p
]

argument_beyond : (t : Term) (i : ℕ) (a : Term) → i < length (args t) → a ≡ get_or (args t) i a → IsBeyond a → IsBeyond t
argument_beyond (App f x) i a h e b = elim (last_item (args f) x i a h e) [
  | inl p ↦ larger (omega arith) (omega arith) (argument_beyond f i a p.0 p.1 b)
  | inr p ↦ larger (omega arith) (omega arith) (subst (λ (y : Term). IsBeyond y) p b)
]
argument_beyond t i a h e b = absurd (omega arith)

pub arguments_beyond : (a b : Term) (i : ℕ) (t u : Term) → i < length (args a) → i < length (args b) → t ≡ get_or (args a) i t → u ≡ get_or (args b) i u → EitherBeyond t u → EitherBeyond a b
arguments_beyond a b i t u h k e d (inl p) = inl (argument_beyond a i t h e p)
arguments_beyond a b i t u h k e d (inr p) = inr (argument_beyond b i u k d p)

item_beyond : (ts : List Term) (i : ℕ) (t : Term) → i < length ts → t ≡ get_or ts i t → IsBeyond t → AreBeyond (terms_of ts)
item_beyond [] i t h e b = absurd (omega arith)
item_beyond (x ∷ ts) zero t h e b = larger (omega arith) (omega arith) (subst (λ (y : Term). IsBeyond y) e b)
item_beyond (x ∷ ts) (suc i) t h e b = larger (omega arith) (omega arith) (item_beyond ts i t (omega arith) e b)

pub items_beyond : (ts us : List Term) (i : ℕ) (t u : Term) → i < length ts → i < length us → t ≡ get_or ts i t → u ≡ get_or us i u → EitherBeyond t u → AnyBeyond ts us
items_beyond ts us i t u h k e d (inl p) = inl (item_beyond ts i t h e p)
items_beyond ts us i t u h k e d (inr p) = inr (item_beyond us i u k d p)

-- products and lambdas

pub domain_beyond : (f g : Binder) → EitherBeyond (read_part f.domain) (read_part g.domain) → EitherBeyond (product_of f) (product_of g)
domain_beyond f g (inl h) = inl (larger (omega arith) (omega arith) h)
domain_beyond f g (inr h) = inr (larger (omega arith) (omega arith) h)

pub body_beyond : (f g : Binder) → EitherBeyond (read_part f.body) (read_part g.body) → EitherBeyond (product_of f) (product_of g)
body_beyond f g (inl h) = inl (larger (omega arith) (omega arith) h)
body_beyond f g (inr h) = inr (larger (omega arith) (omega arith) h)

-- matches
abbrev MatchesBeyond : Match → Match → Type 0
MatchesBeyond x y = EitherBeyond (tree_of (Case x)) (tree_of (Case y))

pub params_beyond : (x y : Match) → AnyBeyond x.params y.params → MatchesBeyond x y
params_beyond x y (inl h) = inl (larger (omega arith) (omega arith) h)
params_beyond x y (inr h) = inr (larger (omega arith) (omega arith) h)

pub predicate_beyond : (x y : Match) → EitherBeyond x.ret y.ret → MatchesBeyond x y
predicate_beyond x y (inl h) = inl (larger (omega arith) (omega arith) h)
predicate_beyond x y (inr h) = inr (larger (omega arith) (omega arith) h)

pub scrutinee_beyond : (x y : Match) → EitherBeyond x.scrut y.scrut → MatchesBeyond x y
scrutinee_beyond x y (inl h) = inl (larger (omega arith) (omega arith) h)
scrutinee_beyond x y (inr h) = inr (larger (omega arith) (omega arith) h)

arm_there : (bs : List Branch) (i : ℕ) (b : Branch) → i < length bs → b ≡ get_or bs i b → IsBeyond b.body → AreBeyond (arms_of bs)
arm_there [] i b h e k = absurd (omega arith)
arm_there (x ∷ bs) zero b h e k = larger (omega arith) (omega arith) (subst (λ (y : Branch). IsBeyond y.body) e k)
arm_there (x ∷ bs) (suc i) b h e k = larger (omega arith) (omega arith) (arm_there bs i b (omega arith) e k)

pub arm_beyond : (x y : Match) (i : ℕ) (b b' : Branch) → i < length x.branches → i < length y.branches → b ≡ get_or x.branches i b → b' ≡ get_or y.branches i b' →
    EitherBeyond b.body b'.body → MatchesBeyond x y
arm_beyond x y i b b' h k e e' (inl p) = inl (larger (omega arith) (omega arith) (arm_there x.branches i b h e p))
arm_beyond x y i b b' h k e e' (inr p) = inr (larger (omega arith) (omega arith) (arm_there y.branches i b' k e' p))

-- fixpoints

types_there : (ds : List Def) → AreBeyond (terms_of (type_list ds)) → AreBeyondDefs ds
types_there ds h = larger (omega (arith, types_depth ds)) (omega (arith, types_above ds)) h
  where
    types_depth : (ds : List Def) → depth_trees (terms_of (list_of (types_of ds))) ≡ depth_trees (types_of ds)
    types_depth [] = refl
    types_depth (d ∷ ds) = omega (arith, types_depth ds)

    types_above : (ds : List Def) → above_trees (terms_of (list_of (types_of ds))) ≡ above_trees (types_of ds)
    types_above [] = refl
    types_above (d ∷ ds) = omega (arith, types_above ds)

bodies_there : (ds : List Def) → AreBeyond (terms_of (body_list ds)) → AreBeyondDefs ds
bodies_there ds h = larger (omega (arith, bodies_depth (length ds) ds)) (omega (arith, bodies_above (length ds) ds)) h
  where
    bodies_depth : (n : ℕ) (ds : List Def) → depth_trees (terms_of (list_of (bodies_of n ds))) ≡ depth_trees (bodies_of n ds)
    bodies_depth n [] = refl
    bodies_depth n (d ∷ ds) = omega (arith, bodies_depth n ds)

    bodies_above : (n : ℕ) (ds : List Def) → above_trees (terms_of (list_of (bodies_of n ds))) ≡ above_trees (bodies_of n ds)
    bodies_above n [] = refl
    bodies_above n (d ∷ ds) = omega (arith, bodies_above n ds)

pub types_beyond : (ds es : List Def) → AnyBeyond (type_list ds) (type_list es) → DefsBeyond ds es
types_beyond ds es (inl h) = inl (types_there ds h)
types_beyond ds es (inr h) = inr (types_there es h)

pub bodies_beyond : (ds es : List Def) → AnyBeyond (body_list ds) (body_list es) → DefsBeyond ds es
bodies_beyond ds es (inl h) = inl (bodies_there ds h)
bodies_beyond ds es (inr h) = inr (bodies_there es h)

pub defs_beyond : (i j : ℕ) (ds es : List Def) → DefsBeyond ds es → EitherBeyond (tree_of (Fix ds i)) (tree_of (Fix es j))
defs_beyond i j ds es (inl h) = inl (larger (omega arith) (omega arith) h)
defs_beyond i j ds es (inr h) = inr (larger (omega arith) (omega arith) h)
