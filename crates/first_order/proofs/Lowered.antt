-- Variables that are put in for variables: no term gets deeper by it, and no variable's number rises.
use Rattle.std.proofs.Common.{◌≡◌, ◌∙◌, ℕ, zero, suc, ◌+◌, ◌-◌, ◌<◌, ◌≤◌, Bool, true, false, if◌then◌else◌, inl, inr, List, length, get_or, nat_lt, refl, sym, ap, subst as along, Result, Option, Err, arith}
use Rattle.std.proofs.lemmas.Grind.{common_steps}
use Rattle.std.specs.Prelude.{IfErr}
use Rattle.std.proofs.lemmas.Bool.{ltb-true, ltb-false}
use Rattle.trees.specs.Tree.{Slot, Tree, Rel, Node, Places, End, Child, Group, Trees, Done, Next}
use Rattle.trees.specs.Substitution.{deeper, walk, walk_places, walk_trees, lift, subst_list_var, subst_list}
use Rattle.trees.specs.Measures.{depth, depth_places, depth_trees, above, above_places, above_trees, IsWithin, IsBeyond}
use Rattle.pc_terms.specs.declared.term.MakeFault.{MakeFault}
use Rattle.pc_terms.specs.declared.term.MakeFault.TheVariants.{TooDeep, Memory}
use Rattle.pc_terms.specs.Syntax.{Term, variables}
use Rattle.pc_rules.proofs.SearchRuns.{variables_long}

-- what is put in for each variable is a variable of no greater number
module _ {L : Type 0} {slots : L → List Slot} (f : ℕ → ℕ → Tree L slots) (flat : (k i : ℕ) → depth (f k i) ≡ 1) (low : (k i : ℕ) → above (f k i) ≤ i + 1) where
  mutual
    depth_walk : (k : ℕ) (t : Tree L slots) → depth (walk f k t) ≡ depth t
    depth_walk k (Rel i) = flat k i
    depth_walk k (Node l ts) = omega (arith, depth_walk_places k ts)

    depth_walk_places : (k : ℕ) {ss : List Slot} (ts : Places L slots ss) → depth_places (walk_places f k ts) ≡ depth_places ts
    depth_walk_places k End = refl
    depth_walk_places k (Child {n} t ts) = omega (arith, depth_walk (deeper n k) t, depth_walk_places k ts)
    depth_walk_places k (Group us ts) = omega (arith, depth_walk_trees k us, depth_walk_places k ts)

    depth_walk_trees : (k : ℕ) (ts : Trees L slots) → depth_trees (walk_trees f k ts) ≡ depth_trees ts
    depth_walk_trees k Done = refl
    depth_walk_trees k (Next n t ts) = omega (arith, depth_walk (deeper n k) t, depth_walk_trees k ts)

  mutual
    above_walk : (k : ℕ) (t : Tree L slots) → above (walk f k t) ≤ above t
    above_walk k (Rel i) = low k i
    above_walk k (Node l ts) = above_walk_places k ts

    above_walk_places : (k : ℕ) {ss : List Slot} (ts : Places L slots ss) → above_places (walk_places f k ts) ≤ above_places ts
    above_walk_places k End = omega arith
    above_walk_places k (Child {n} t ts) = omega (arith, above_walk (deeper n k) t, above_walk_places k ts)
    above_walk_places k (Group us ts) = omega (arith, above_walk_trees k us, above_walk_places k ts)

    above_walk_trees : (k : ℕ) (ts : Trees L slots) → above_trees (walk_trees f k ts) ≤ above_trees ts
    above_walk_trees k Done = omega arith
    above_walk_trees k (Next n t ts) = omega (arith, above_walk (deeper n k) t, above_walk_trees k ts)

-- a variable of no greater number
record IsLow (t : Term) (i : ℕ) : Type 0 where
  number : ℕ
  is : t ≡ Rel number
  low : number ≤ i

get_variables : (n j : ℕ) (d : Term) → j < n → get_or (variables n) j d ≡ Rel (n - 1 - j)
get_variables zero j d lt = absurd (omega (arith, lt))
get_variables (suc n) zero d lt = let e : n ≡ suc n - 1 - 0 = omega arith in ap Rel e
get_variables (suc n) (suc j) d lt = let e : n - 1 - j ≡ suc n - 1 - suc j = omega arith in get_variables n j d (omega (arith, lt)) ∙ ap Rel e

lifted_low : (k i j : ℕ) → j + k ≤ i → IsLow (lift k 0 (Rel j)) i
lifted_low k i j h = record { number = if nat_lt j 0 then j else j + k; is = refl; low = grind (arith, common_steps) }

put_low : (n k i : ℕ) (b c : Bool) → nat_lt i k ≡ b → nat_lt i (k + length (variables n)) ≡ c →
    IsLow (if b then Rel i else (if c then lift k 0 (get_or (variables n) (k + length (variables n) - (i + 1)) (Rel 0)) else Rel (i - length (variables n)))) i
put_low n k i true c p q = record { number = i; is = refl; low = omega arith }
put_low n k i false true p q =
    let long = variables_long n in
    let more : k ≤ i = ltb-false i k p in
    let less : i < k + length (variables n) = ltb-true i (k + length (variables n)) q in
    let within : k + length (variables n) - (i + 1) < n = omega (arith, long, more, less) in
    let same : n - 1 - (k + length (variables n) - (i + 1)) ≡ i - k = omega (arith, long, more, less) in
    along (λ t. IsLow (lift k 0 t) i) (sym (get_variables n (k + length (variables n) - (i + 1)) (Rel 0) within ∙ ap Rel same)) (lifted_low k i (i - k) (omega (arith, more)))
put_low n k i false false p q = record { number = i - length (variables n); is = refl; low = omega arith }

variable_low : (n k i : ℕ) → IsLow (subst_list_var (variables n) k i) i
variable_low n k i = put_low n k i (nat_lt i k) (nat_lt i (k + length (variables n))) refl refl

low_flat : (t : Term) (i : ℕ) → IsLow t i → depth t ≡ 1
low_flat t i h = ap depth h.is

low_above : (t : Term) (i : ℕ) → IsLow t i → above t ≤ i + 1
low_above t i h = let e : above t ≡ h.number + 1 = ap above h.is in omega (arith, e, h.low)

pub not_both : (t : Term) → IsWithin t → IsBeyond t → ⊥
not_both t h (inl l) = omega (arith, l, h.0)
not_both t h (inr l) = omega (arith, l, h.1)

-- so a type within the limits stays so
pub lowered_within : (n : ℕ) (xs : List Term) (t s : Term) → xs ≡ variables n → s ≡ t → IsWithin s → IsBeyond (subst_list 0 xs s) → ⊥
lowered_within n xs t s e q h b =
    let f = subst_list_var (variables n) in
    let deep = depth_walk f (λ k i. low_flat (f k i) i (variable_low n k i)) (λ k i. low_above (f k i) i (variable_low n k i)) 0 s in
    let high = above_walk f (λ k i. low_flat (f k i) i (variable_low n k i)) (λ k i. low_above (f k i) i (variable_low n k i)) 0 s in
    not_both (subst_list 0 (variables n) s) (omega (arith, deep, h.0), omega (arith, high, h.1)) (along (λ l. IsBeyond (subst_list 0 l s)) e b)

-- a fault in the making of it is want of memory

only_memory : (e : MakeFault) → (e ≡ TooDeep → ⊥) → e ≡ Memory
only_memory TooDeep h = absurd (h refl)
only_memory Memory h = refl

pub memory_alone : (r : Result (Option Term) MakeFault) (e : MakeFault) → r ≡ Err e → (e ≡ TooDeep → ⊥) → IfErr r (λ e. e ≡ Memory)
memory_alone r e q h = along (λ x. IfErr x (λ e. e ≡ Memory)) (sym q) (only_memory e h)
