-- Terms, and items of lists, that pass the limits under so many nodes.
use Rattle.std.proofs.Common.{◌≡◌, ℕ, zero, suc, ◌+◌, ◌<◌, ◌≤◌, ◌^◌, ◌⊎◌, inl, inr, List, [], ◌∷◌, length, map, get_or, max, subst as along, arith}
use Rattle.trees.specs.Tree.{terms_of}
use Rattle.trees.specs.Measures.{depth, depth_trees, above_trees, depth_limit, IsBeyond}
use Rattle.pc_terms.specs.Syntax.{Term, Rel, Node}
use Rattle.pc_terms.specs.Lists.{arms_of, types_of, bodies_of}
use Rattle.pc_terms.specs.declared.term.Branch.{Branch}
use Rattle.pc_terms.specs.declared.term.Def.{Def}
use Rattle.reduce_machine.specs.Limits.{IsBeyondUnder, AreBeyondUnder, AreDefsBeyondUnder}

-- a term that passes them anyway, and one under no node
pub beyond_under : (n : ℕ) (t : Term) → IsBeyond t → IsBeyondUnder n t
beyond_under n t (inl h) = inl (omega arith)
beyond_under n t (inr h) = inr h

pub under_none : (t : Term) → IsBeyondUnder 0 t → IsBeyond t
under_none t (inl h) = inl (omega arith)
under_none t (inr h) = inr h

-- a term under as many nodes as there may be
some_depth : (t : Term) → 0 < depth t
some_depth (Rel i) = omega arith
some_depth (Node l ts) = omega arith

pub no_room : (n : ℕ) (t : Term) → n ≡ depth_limit → IsBeyondUnder n t
no_room n t e = inl (omega (arith, e, some_depth t))

larger : {a b c d : ℕ} (n : ℕ) → a ≤ c → b ≤ d → (depth_limit < n + a) ⊎ (2 ^ 32 < b) → (depth_limit < n + c) ⊎ (2 ^ 32 < d)
larger n h g (inl e) = inl (omega arith)
larger n h g (inr e) = inr (omega arith)

-- an item that a loop has read
term_there : (n : ℕ) (f : Term → Term) (ys : List Term) (i : ℕ) (o : Term) → i < length ys → IsBeyondUnder n (f (get_or ys i o)) → AreBeyondUnder n (terms_of (map f ys))
term_there n f [] i o h e = absurd (omega arith)
term_there n f (y ∷ ys) zero o h e = larger n (omega arith) (omega arith) e
term_there n f (y ∷ ys) (suc i) o h e = larger n (omega arith) (omega arith) (term_there n f ys i o (omega arith) e)

pub term_under : (n : ℕ) (f : Term → Term) (ys : List Term) (i : ℕ) (y : Term) → y ≡ get_or ys i y → i < length ys → IsBeyondUnder n (f y) →
    AreBeyondUnder n (terms_of (map f ys))
term_under n f ys i y is h e = term_there n f ys i y h (along (λ (y : Term). IsBeyondUnder n (f y)) is e)

arm_there : (n : ℕ) (f : Branch → Branch) (ys : List Branch) (i : ℕ) (o : Branch) → i < length ys → IsBeyondUnder n (f (get_or ys i o)).body →
    AreBeyondUnder n (arms_of (map f ys))
arm_there n f [] i o h e = absurd (omega arith)
arm_there n f (y ∷ ys) zero o h e = larger n (omega arith) (omega arith) e
arm_there n f (y ∷ ys) (suc i) o h e = larger n (omega arith) (omega arith) (arm_there n f ys i o (omega arith) e)

pub arm_under : (n : ℕ) (f : Branch → Branch) (ys : List Branch) (i : ℕ) (y : Branch) → y ≡ get_or ys i y → i < length ys → IsBeyondUnder n (f y).body →
    AreBeyondUnder n (arms_of (map f ys))
arm_under n f ys i y is h e = arm_there n f ys i y h (along (λ (y : Branch). IsBeyondUnder n (f y).body) is e)

abbrev Beyond : ℕ → ℕ → List Def → Type 0
Beyond n m ds =
    (depth_limit < n + max (depth_trees (types_of ds)) (depth_trees (bodies_of m ds))) ⊎ (2 ^ 32 < max (above_trees (types_of ds)) (above_trees (bodies_of m ds)))

def_there : (n : ℕ) (f : Def → Def) (m : ℕ) (ys : List Def) (i : ℕ) (o : Def) → i < length ys →
    IsBeyondUnder n (f (get_or ys i o)).ty ⊎ IsBeyondUnder n (f (get_or ys i o)).body → Beyond n m (map f ys)
def_there n f m [] i o h e = absurd (omega arith)
def_there n f m (y ∷ ys) zero o h (inl e) = larger n (omega arith) (omega arith) e
def_there n f m (y ∷ ys) zero o h (inr e) = larger n (omega arith) (omega arith) e
def_there n f m (y ∷ ys) (suc i) o h e = larger n (omega arith) (omega arith) (def_there n f m ys i o (omega arith) e)

pub def_under : (n : ℕ) (f : Def → Def) (ys : List Def) (i : ℕ) (y : Def) → y ≡ get_or ys i y → i < length ys →
    IsBeyondUnder n (f y).ty ⊎ IsBeyondUnder n (f y).body → AreDefsBeyondUnder n (map f ys)
def_under n f ys i y is h e =
    def_there n f (length (map f ys)) ys i y h (along (λ (y : Def). IsBeyondUnder n (f y).ty ⊎ IsBeyondUnder n (f y).body) is e)

pub ruleset limit_laws = (beyond_under, under_none, no_room)
