-- The operations by cutoffs are the parallel ones.
use Rattle.std.proofs.Common.{◌≡◌, ℕ, zero, suc, ◌+◌, ◌-◌, ◌<◌, List, [], ◌∷◌, length, get_or, refl, sym, ap, ◌∙◌, arith}
use Rattle.std.proofs.lemmas.Grind.{common_steps}
use mathlib.Core.Path.{fun_ext}
use Rattle.trees.specs.Tree.{Slot, Tree, Rel, Node, Places, End, Child, Group, Trees, Done, Next}
use Rattle.trees.specs.Parallel.{ups, rename, over, overs, substitute, substitute_children, substitute_terms, shift, first, put, put_all}
use Rattle.trees.specs.Substitution.{deeper, walk, walk_places, walk_trees, lift_var, lift, subst_var, subst, subst_list_var, subst_list}
use Rattle.trees.proofs.Fusion.{child, group, next, rename-rename, rename_same, overs_rel, substitute_rel}

pub overs_sum : {L : Type 0} {slots : L → List Slot} (n k : ℕ) (s : ℕ → Tree L slots) → overs (n + k) s ≡ overs n (overs k s)
overs_sum zero k s = let e : 0 + k ≡ k = omega arith in ap (λ m. overs m s) e
overs_sum (suc n) k s = let e : suc n + k ≡ suc (n + k) = omega arith in ap (λ m. overs m s) e ∙ ap over (overs_sum n k s)

pub overs_deeper : {L : Type 0} {slots : L → List Slot} (n k : ℕ) (s : ℕ → Tree L slots) → overs (deeper n k) s ≡ overs n (overs k s)
overs_deeper zero k s = refl
overs_deeper (suc n) k s = let e : k + suc n ≡ suc (n + k) = omega arith in ap (λ m. overs m s) e ∙ ap over (overs_sum n k s)

-- f gives for each variable, under k others, what the substitution does
abbrev pub Does : {L : Type 0} {slots : L → List Slot} → (ℕ → ℕ → Tree L slots) → (ℕ → Tree L slots) → Type 0
Does f s = (k i : ℕ) → f k i ≡ overs k s i

mutual
  pub walk-does : {L : Type 0} {slots : L → List Slot} (f : ℕ → ℕ → Tree L slots) (s : ℕ → Tree L slots) → Does f s → (k : ℕ) (t : Tree L slots) →
      walk f k t ≡ substitute (overs k s) t
  walk-does f s w k (Rel i) = w k i
  walk-does f s w k (Node l ts) = ap (Node l) (walk_places-does f s w k ts)

  pub walk_places-does : {L : Type 0} {slots : L → List Slot} (f : ℕ → ℕ → Tree L slots) (s : ℕ → Tree L slots) → Does f s →
      (k : ℕ) {ss : List Slot} (ts : Places L slots ss) → walk_places f k ts ≡ substitute_children (overs k s) ts
  walk_places-does f s w k End = refl
  walk_places-does f s w k (Child {n} t ts) =
      child (walk-does f s w (deeper n k) t ∙ ap (λ q. substitute q t) (overs_deeper n k s)) (walk_places-does f s w k ts)
  walk_places-does f s w k (Group us ts) = group (walk_trees-does f s w k us) (walk_places-does f s w k ts)

  pub walk_trees-does : {L : Type 0} {slots : L → List Slot} (f : ℕ → ℕ → Tree L slots) (s : ℕ → Tree L slots) → Does f s →
      (k : ℕ) (ts : Trees L slots) → walk_trees f k ts ≡ substitute_terms (overs k s) ts
  walk_trees-does f s w k Done = refl
  walk_trees-does f s w k (Next n t ts) =
      next (walk-does f s w (deeper n k) t ∙ ap (λ q. substitute q t) (overs_deeper n k s)) (walk_trees-does f s w k ts)

-- variables

pub data Order (k i : ℕ) : Type 0 where
  below : i < k → Order k i
  past : (j : ℕ) → i ≡ k + j → Order k i

pub order : (k i : ℕ) → Order k i
order zero i = past i (omega arith)
order (suc k) zero = below (omega arith)
order (suc k) (suc i) = elim (order k i) [ below l ↦ below (omega arith) | past j e ↦ past j (omega arith) ]

pub overs_below : {L : Type 0} {slots : L → List Slot} (k : ℕ) (s : ℕ → Tree L slots) (i : ℕ) → i < k → overs k s i ≡ Rel i
overs_below zero s i l = absurd (omega arith)
overs_below (suc k) s zero l = refl
overs_below (suc k) s (suc i) l = ap (rename suc) (overs_below k s i (omega arith))

pub overs_past : {L : Type 0} {slots : L → List Slot} (k : ℕ) (s : ℕ → Tree L slots) (j : ℕ) → overs k s (k + j) ≡ shift k 0 (s j)
overs_past zero s j =
    let e : 0 + j ≡ j = omega arith in
    ap s e ∙ sym (ap (λ r. rename r (s j)) (fun_ext zero_left) ∙ rename_same (s j))
  where
    zero_left : (i : ℕ) → 0 + i ≡ i
    zero_left i = omega arith
overs_past (suc k) s j =
    let e : suc k + j ≡ suc (k + j) = omega arith in
    ap (over (overs k s)) e ∙ ap (rename suc) (overs_past k s j) ∙ rename-rename (s j) (λ i. k + i) suc ∙ ap (λ r. rename r (s j)) (fun_ext (suc_left k))
  where
    suc_left : (k i : ℕ) → suc (k + i) ≡ suc k + i
    suc_left k i = omega arith

lift_does : {L : Type 0} {slots : L → List Slot} (m : ℕ) → Does {L = L} {slots = slots} (lift_var m) (λ i. Rel (m + i))
lift_does {L} {slots} m k i = elim (order k i) [
  | below l ↦ below_case l
  | past j e ↦ past_case j e
]
  where
    below_case : i < k → lift_var {L = L} {slots = slots} m k i ≡ overs {L = L} {slots = slots} k (λ i. Rel (m + i)) i
    below_case l = let a : lift_var {L = L} {slots = slots} m k i ≡ Rel i = grind (arith, common_steps) in a ∙ sym (overs_below k (λ i. Rel (m + i)) i l)

    past_case : (j : ℕ) → i ≡ k + j → lift_var {L = L} {slots = slots} m k i ≡ overs {L = L} {slots = slots} k (λ i. Rel (m + i)) i
    past_case j e =
        let n : k + (m + j) ≡ i + m = omega arith in
        let a : lift_var {L = L} {slots = slots} m k i ≡ Rel (i + m) = grind (arith, common_steps) in
        a ∙ sym (ap (overs {L = L} {slots = slots} k (λ i. Rel (m + i))) e ∙ overs_past k (λ i. Rel (m + i)) j ∙ ap Rel n)

pub lift-shift : {L : Type 0} {slots : L → List Slot} (m k : ℕ) (t : Tree L slots) → lift m k t ≡ shift m k t
lift-shift {L} {slots} m k t =
    walk-does (lift_var m) (λ i. Rel (m + i)) (lift_does m) k t
    ∙ ap (λ q. substitute q t) (fun_ext (overs_rel L slots k (λ i. m + i)))
    ∙ substitute_rel t (ups k (λ i. m + i))

subst_does : {L : Type 0} {slots : L → List Slot} (a : Tree L slots) → Does (subst_var a) (put a)
subst_does a k i = elim (order k i) [
  | below l ↦ below_case l
  | past j e ↦ past_case j e
]
  where
    below_case : i < k → subst_var a k i ≡ overs k (put a) i
    below_case l = let b : subst_var a k i ≡ Rel i = grind (arith, common_steps) in b ∙ sym (overs_below k (put a) i l)

    past_case : (j : ℕ) → i ≡ k + j → subst_var a k i ≡ overs k (put a) i
    past_case zero e =
        let b : subst_var a k i ≡ lift k 0 a = grind (arith, common_steps) in
        b ∙ lift-shift k 0 a ∙ sym (ap (overs k (put a)) e ∙ overs_past k (put a) 0)
    past_case (suc j) e =
        let n : k + j ≡ i - 1 = omega arith in
        let b : subst_var a k i ≡ Rel (i - 1) = grind (arith, common_steps) in
        b ∙ sym (ap (overs k (put a)) e ∙ overs_past k (put a) (suc j) ∙ ap Rel n)

pub subst-substitute : {L : Type 0} {slots : L → List Slot} (a : Tree L slots) (k : ℕ) (t : Tree L slots) → subst k a t ≡ substitute (overs k (put a)) t
subst-substitute a k t = walk-does (subst_var a) (put a) (subst_does a) k t

pub put_all-past : {L : Type 0} {slots : L → List Slot} (xs : List (Tree L slots)) (s : ℕ → Tree L slots) (j : ℕ) → put_all xs s (length xs + j) ≡ s j
put_all-past [] s j = let e : 0 + j ≡ j = omega arith in ap s e
put_all-past (x ∷ xs) s j =
    let e : length (x ∷ xs) + j ≡ length xs + suc j = omega arith in
    ap (put_all xs (first x s)) e ∙ put_all-past xs (first x s) (suc j)

pub put_all-at : {L : Type 0} {slots : L → List Slot} (xs : List (Tree L slots)) (s : ℕ → Tree L slots) (d : Tree L slots) (i : ℕ) →
    i < length xs → put_all xs s i ≡ get_or xs (length xs - (i + 1)) d
put_all-at [] s d i l = absurd (omega arith)
put_all-at (x ∷ xs) s d i l = elim (order (length xs) i) [
  | below h ↦ below_case h (put_all-at xs (first x s) d i h)
  | past j e ↦ past_case j e
]
  where
    below_case : i < length xs → put_all xs (first x s) i ≡ get_or xs (length xs - (i + 1)) d → put_all (x ∷ xs) s i ≡ get_or (x ∷ xs) (length (x ∷ xs) - (i + 1)) d
    below_case h p =
        let e : length (x ∷ xs) - (i + 1) ≡ suc (length xs - (i + 1)) = omega arith in
        p ∙ sym (ap (λ n. get_or (x ∷ xs) n d) e)

    past_case : (j : ℕ) → i ≡ length xs + j → put_all (x ∷ xs) s i ≡ get_or (x ∷ xs) (length (x ∷ xs) - (i + 1)) d
    past_case zero e =
        let z : length (x ∷ xs) - (i + 1) ≡ 0 = omega arith in
        ap (put_all xs (first x s)) e ∙ put_all-past xs (first x s) 0 ∙ sym (ap (λ n. get_or (x ∷ xs) n d) z)
    past_case (suc j) e = absurd (omega arith)

subst_list_does : {L : Type 0} {slots : L → List Slot} (xs : List (Tree L slots)) → Does (subst_list_var xs) (put_all xs Rel)
subst_list_does xs k i = elim (order k i) [
  | below l ↦ below_case l
  | past j e ↦ past_case j e (order (length xs) j)
]
  where
    below_case : i < k → subst_list_var xs k i ≡ overs k (put_all xs Rel) i
    below_case l = let b : subst_list_var xs k i ≡ Rel i = grind (arith, common_steps) in b ∙ sym (overs_below k (put_all xs Rel) i l)

    past_case : (j : ℕ) → i ≡ k + j → Order (length xs) j → subst_list_var xs k i ≡ overs k (put_all xs Rel) i
    past_case j e (below h) =
        let n : k + length xs - (i + 1) ≡ length xs - (j + 1) = omega arith in
        let b : subst_list_var xs k i ≡ lift k 0 (get_or xs (k + length xs - (i + 1)) (Rel 0)) = grind (arith, common_steps) in
        b ∙ ap (λ m. lift k 0 (get_or xs m (Rel 0))) n ∙ lift-shift k 0 (get_or xs (length xs - (j + 1)) (Rel 0))
        ∙ sym (ap (overs k (put_all xs Rel)) e ∙ overs_past k (put_all xs Rel) j ∙ ap (shift k 0) (put_all-at xs Rel (Rel 0) j h))
    past_case j e (past h f) =
        let n : k + h ≡ i - length xs = omega arith in
        let b : subst_list_var xs k i ≡ Rel (i - length xs) = grind (arith, common_steps) in
        b ∙ sym (ap (overs k (put_all xs Rel)) e ∙ overs_past k (put_all xs Rel) j ∙ ap (shift k 0) (ap (put_all xs Rel) f ∙ put_all-past xs Rel h) ∙ ap Rel n)

pub subst_list-substitute : {L : Type 0} {slots : L → List Slot} (xs : List (Tree L slots)) (k : ℕ) (t : Tree L slots) →
    subst_list k xs t ≡ substitute (overs k (put_all xs Rel)) t
subst_list-substitute xs k t = walk-does (subst_list_var xs) (put_all xs Rel) (subst_list_does xs) k t

pub ruleset cutoff_laws = (lift-shift, subst-substitute, subst_list-substitute)
