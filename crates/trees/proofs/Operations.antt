-- The laws of lift, subst and subst_list.
use Rattle.std.proofs.Common.{map, ◌≡◌, ℕ, suc, ◌+◌, ◌-◌, ◌≤◌, List, [], ◌∷◌, ◌++◌, length, refl, sym, ap, ◌∙◌, subst as along, arith}
use mathlib.Core.Path.{fun_ext}
use Rattle.trees.specs.Tree.{Slot, Tree, Rel}
use Rattle.trees.specs.Substitution.{lift, subst, subst_list}
use Rattle.trees.specs.Parallel.{over, overs, substitute, shift, put, put_all}
use Rattle.trees.specs.Closed.{Closed, ClosedEach}
use Rattle.trees.proofs.Cutoffs.{overs_sum, lift-shift, subst-substitute, subst_list-substitute}
use Rattle.trees.specs.Measures.{loose}
use Rattle.trees.proofs.Closed.{loose-least, loose-closed, lift-closed, subst-closed, subst_list-closed}
use Rattle.trees.proofs.Exchange.{substitute_overs_same, more, shift_is, put-exchange, put_all-exchange, shift-past, put_all-last, put_all-shifted, put_all-first, put-shifted, put-variable, shift-shift}
use Rattle.trees.proofs.Bounds.{closed_at, put_fits, put_all_fits, overs_fits, substitute-closed, loose-lift, lifted_at_most}

-- each operation as a substitution at its cutoff k, and further ones d variables above it

lift_is : {L : Type 0} {slots : L → List Slot} (m k : ℕ) (t : Tree L slots) → lift m k t ≡ substitute (overs k (more m)) t
lift_is m k t = lift-shift m k t ∙ shift_is m k t

above_by : {L : Type 0} {slots : L → List Slot} (k d n : ℕ) (s : ℕ → Tree L slots) (t : Tree L slots) → n ≡ k + d → substitute (overs n s) t ≡ substitute (overs k (overs d s)) t
above_by k d n s t e = ap (λ n. substitute (overs n s) t) e ∙ ap (λ q. substitute q t) (overs_sum k d s)

lift_above : {L : Type 0} {slots : L → List Slot} (m k d n : ℕ) (t : Tree L slots) → n ≡ k + d → lift m n t ≡ substitute (overs k (overs d (more m))) t
lift_above m k d n t e = lift_is m n t ∙ above_by k d n (more m) t e

subst_above : {L : Type 0} {slots : L → List Slot} (b : Tree L slots) (k d n : ℕ) (t : Tree L slots) → n ≡ k + d → subst n b t ≡ substitute (overs k (overs d (put b))) t
subst_above b k d n t e = subst-substitute b n t ∙ above_by k d n (put b) t e

list_above : {L : Type 0} {slots : L → List Slot} (ys : List (Tree L slots)) (k d n : ℕ) (t : Tree L slots) → n ≡ k + d → subst_list n ys t ≡ substitute (overs k (overs d (put_all ys Rel))) t
list_above ys k d n t e = subst_list-substitute ys n t ∙ above_by k d n (put_all ys Rel) t e

map_same : {A B : Type 0} (f g : A → B) → ((x : A) → f x ≡ g x) → (xs : List A) → map f xs ≡ map g xs
map_same f g h [] = refl
map_same f g h (x ∷ xs) = λ i. h x i ∷ map_same f g h xs i

-- lifts

pub lift-none : {L : Type 0} {slots : L → List Slot} (k : ℕ) (t : Tree L slots) → lift 0 k t ≡ t
lift-none {L} {slots} k t = lift-shift 0 k t ∙ shift_is 0 k t ∙ ap (λ q. substitute (overs k q) t) (fun_ext same) ∙ substitute_overs_same k t
  where
    same : (i : ℕ) → more {L = L} {slots = slots} 0 i ≡ Rel i
    same i = let e : 0 + i ≡ i = omega arith in ap Rel e

pub lift-lift : {L : Type 0} {slots : L → List Slot} (j k m n : ℕ) (t : Tree L slots) → n ≤ m → m ≤ n + k → lift j m (lift k n t) ≡ lift (j + k) n t
lift-lift j k m n t h g = lift-shift j m (lift k n t) ∙ ap (shift j m) (lift-shift k n t) ∙ shift-shift j k m n t h g ∙ sym (lift-shift (j + k) n t)

-- a lift goes past a lift, a substitution or a list that is above its cutoff
past : {L : Type 0} {slots : L → List Slot} (m n d : ℕ) (s : ℕ → Tree L slots) (t u v : Tree L slots) → u ≡ substitute (overs n (overs d s)) t →
    v ≡ substitute (overs n (overs (m + d) s)) (lift m n t) → lift m n u ≡ v
past m n d s t u v e f =
    ap (lift m n) e ∙ lift-shift m n (substitute (overs n (overs d s)) t) ∙ shift-past m n d s t
    ∙ ap (substitute (overs n (overs (m + d) s))) (sym (lift-shift m n t)) ∙ sym f

pub lift-past_lift : {L : Type 0} {slots : L → List Slot} (m n j k : ℕ) (t : Tree L slots) → n ≤ k → lift m n (lift j k t) ≡ lift j (k + m) (lift m n t)
lift-past_lift m n j k t h =
    past m n (k - n) (more j) t (lift j k t) (lift j (k + m) (lift m n t)) (lift_above j n (k - n) k t (omega arith))
    (lift_above j n (m + (k - n)) (k + m) (lift m n t) (omega arith))

pub lift-past_subst : {L : Type 0} {slots : L → List Slot} (m n k : ℕ) (a t : Tree L slots) → n ≤ k → lift m n (subst k a t) ≡ subst (k + m) a (lift m n t)
lift-past_subst m n k a t h =
    past m n (k - n) (put a) t (subst k a t) (subst (k + m) a (lift m n t)) (subst_above a n (k - n) k t (omega arith))
    (subst_above a n (m + (k - n)) (k + m) (lift m n t) (omega arith))

pub lift-past_list : {L : Type 0} {slots : L → List Slot} (m n k : ℕ) (xs : List (Tree L slots)) (t : Tree L slots) → n ≤ k →
    lift m n (subst_list k xs t) ≡ subst_list (k + m) xs (lift m n t)
lift-past_list m n k xs t h =
    past m n (k - n) (put_all xs Rel) t (subst_list k xs t) (subst_list (k + m) xs (lift m n t)) (list_above xs n (k - n) k t (omega arith))
    (list_above xs n (m + (k - n)) (k + m) (lift m n t) (omega arith))

-- what is done d variables above a substitution goes into what it puts in
into : {L : Type 0} {slots : L → List Slot} (k : ℕ) (s : ℕ → Tree L slots) (a b t u v : Tree L slots) → u ≡ substitute (overs k s) (subst k a t) →
    v ≡ substitute (overs k (over s)) t → b ≡ substitute s a → u ≡ subst k b v
into k s a b t u v e f g =
    e ∙ ap (substitute (overs k s)) (subst-substitute a k t) ∙ put-exchange k s a t
    ∙ ap (λ b. substitute (overs k (put b)) (substitute (overs k (over s)) t)) (sym g)
    ∙ ap (substitute (overs k (put b))) (sym f) ∙ sym (subst-substitute b k v)

pub lift-into_subst : {L : Type 0} {slots : L → List Slot} (m n k : ℕ) (a t : Tree L slots) →
    lift m (k + n) (subst k a t) ≡ subst k (lift m n a) (lift m (k + n + 1) t)
lift-into_subst m n k a t =
    into k (overs n (more m)) a (lift m n a) t (lift m (k + n) (subst k a t)) (lift m (k + n + 1) t)
    (lift_above m k n (k + n) (subst k a t) refl) (lift_above m k (suc n) (k + n + 1) t (omega arith)) (lift_is m n a)

pub subst-subst : {L : Type 0} {slots : L → List Slot} (n k : ℕ) (a b t : Tree L slots) →
    subst (k + n) b (subst k a t) ≡ subst k (subst n b a) (subst (k + n + 1) b t)
subst-subst n k a b t =
    into k (overs n (put b)) a (subst n b a) t (subst (k + n) b (subst k a t)) (subst (k + n + 1) b t)
    (subst_above b k n (k + n) (subst k a t) refl) (subst_above b k (suc n) (k + n + 1) t (omega arith)) (subst-substitute b n a)

pub list-into_subst : {L : Type 0} {slots : L → List Slot} (n k : ℕ) (ys : List (Tree L slots)) (a t : Tree L slots) →
    subst_list (k + n) ys (subst k a t) ≡ subst k (subst_list n ys a) (subst_list (k + n + 1) ys t)
list-into_subst n k ys a t =
    into k (overs n (put_all ys Rel)) a (subst_list n ys a) t (subst_list (k + n) ys (subst k a t)) (subst_list (k + n + 1) ys t)
    (list_above ys k n (k + n) (subst k a t) refl) (list_above ys k (suc n) (k + n + 1) t (omega arith)) (subst_list-substitute ys n a)

into_list : {L : Type 0} {slots : L → List Slot} (k : ℕ) (s : ℕ → Tree L slots) (xs ys : List (Tree L slots)) (t u v : Tree L slots) →
    u ≡ substitute (overs k s) (subst_list k xs t) → v ≡ substitute (overs k (overs (length xs) s)) t → ys ≡ map (substitute s) xs → u ≡ subst_list k ys v
into_list k s xs ys t u v e f g =
    e ∙ ap (substitute (overs k s)) (subst_list-substitute xs k t) ∙ put_all-exchange k s xs t
    ∙ ap (λ zs. substitute (overs k (put_all zs Rel)) (substitute (overs k (overs (length xs) s)) t)) (sym g)
    ∙ ap (substitute (overs k (put_all ys Rel))) (sym f) ∙ sym (subst_list-substitute ys k v)

-- the same of a substitution that is itself d variables up
further : {L : Type 0} {slots : L → List Slot} (k c d n : ℕ) (s : ℕ → Tree L slots) (t u : Tree L slots) → n ≡ k + (c + d) → u ≡ substitute (overs n s) t →
    u ≡ substitute (overs k (overs c (overs d s))) t
further k c d n s t u e f = f ∙ above_by k (c + d) n s t e ∙ ap (λ q. substitute (overs k q) t) (overs_sum c d s)

pub lift-into_list : {L : Type 0} {slots : L → List Slot} (m n k : ℕ) (xs : List (Tree L slots)) (t : Tree L slots) →
    lift m (k + n) (subst_list k xs t) ≡ subst_list k (map (lift m n) xs) (lift m (k + n + length xs) t)
lift-into_list m n k xs t =
    into_list k (overs n (more m)) xs (map (lift m n) xs) t (lift m (k + n) (subst_list k xs t)) (lift m (k + n + length xs) t)
    (lift_above m k n (k + n) (subst_list k xs t) refl)
    (further k (length xs) n (k + n + length xs) (more m) t (lift m (k + n + length xs) t) (omega arith) (lift_is m (k + n + length xs) t))
    (map_same (lift m n) (substitute (overs n (more m))) (lift_is m n) xs)

pub subst-into_list : {L : Type 0} {slots : L → List Slot} (n k : ℕ) (xs : List (Tree L slots)) (b t : Tree L slots) →
    subst (k + n) b (subst_list k xs t) ≡ subst_list k (map (subst n b) xs) (subst (k + n + length xs) b t)
subst-into_list n k xs b t =
    into_list k (overs n (put b)) xs (map (subst n b) xs) t (subst (k + n) b (subst_list k xs t)) (subst (k + n + length xs) b t)
    (subst_above b k n (k + n) (subst_list k xs t) refl)
    (further k (length xs) n (k + n + length xs) (put b) t (subst (k + n + length xs) b t) (omega arith) (subst-substitute b (k + n + length xs) t))
    (map_same (subst n b) (substitute (overs n (put b))) (subst-substitute b n) xs)

pub list-into_list : {L : Type 0} {slots : L → List Slot} (n k : ℕ) (xs ys : List (Tree L slots)) (t : Tree L slots) →
    subst_list (k + n) ys (subst_list k xs t) ≡ subst_list k (map (subst_list n ys) xs) (subst_list (k + n + length xs) ys t)
list-into_list n k xs ys t =
    into_list k (overs n (put_all ys Rel)) xs (map (subst_list n ys) xs) t (subst_list (k + n) ys (subst_list k xs t)) (subst_list (k + n + length xs) ys t)
    (list_above ys k n (k + n) (subst_list k xs t) refl)
    (further k (length xs) n (k + n + length xs) (put_all ys Rel) t (subst_list (k + n + length xs) ys t) (omega arith) (subst_list-substitute ys (k + n + length xs) t))
    (map_same (subst_list n ys) (substitute (overs n (put_all ys Rel))) (subst_list-substitute ys n) xs)

-- nothing is put in for a variable that a lift has freed

pub subst-lifted : {L : Type 0} {slots : L → List Slot} (k m n : ℕ) (a t : Tree L slots) → n ≤ k → k ≤ n + m → subst k a (lift (m + 1) n t) ≡ lift m n t
subst-lifted k m n a t h g =
    let one : m + 1 ≡ suc m = omega arith in
    subst_above a n (k - n) k (lift (m + 1) n t) (omega arith)
    ∙ ap (substitute (overs n (overs (k - n) (put a)))) (lift-shift (m + 1) n t ∙ ap (λ j. shift j n t) one)
    ∙ put-shifted n (k - n) m a t (omega arith) ∙ sym (lift-shift m n t)

pub subst-lifted_one : {L : Type 0} {slots : L → List Slot} (k : ℕ) (a t : Tree L slots) → subst k a (lift 1 k t) ≡ t
subst-lifted_one k a t = subst-lifted k 0 k a t (omega arith) (omega arith) ∙ lift-none k t

pub list-lifted : {L : Type 0} {slots : L → List Slot} (k : ℕ) (xs : List (Tree L slots)) (t : Tree L slots) → subst_list k xs (lift (length xs) k t) ≡ t
list-lifted k xs t =
    subst_list-substitute xs k (lift (length xs) k t) ∙ ap (substitute (overs k (put_all xs Rel))) (lift-shift (length xs) k t) ∙ put_all-shifted k xs t

pub subst-variable : {L : Type 0} {slots : L → List Slot} (k : ℕ) (t : Tree L slots) → subst k (Rel 0) (lift 1 (k + 1) t) ≡ t
subst-variable k t =
    let one : k + 1 ≡ suc k = omega arith in
    subst-substitute (Rel 0) k (lift 1 (k + 1) t)
    ∙ ap (substitute (overs k (put (Rel 0)))) (lift-shift 1 (k + 1) t ∙ ap (λ j. shift 1 j t) one) ∙ put-variable k t

-- a list as its items one by one

pub list-none : {L : Type 0} {slots : L → List Slot} (k : ℕ) (t : Tree L slots) → subst_list k [] t ≡ t
list-none k t = subst_list-substitute [] k t ∙ substitute_overs_same k t

pub list-first : {L : Type 0} {slots : L → List Slot} (k : ℕ) (x : Tree L slots) (xs : List (Tree L slots)) (t : Tree L slots) →
    subst_list k (x ∷ xs) t ≡ subst_list k xs (subst (k + length xs) x t)
list-first k x xs t =
    subst_list-substitute (x ∷ xs) k t ∙ put_all-first k x xs t
    ∙ ap (substitute (overs k (put_all xs Rel))) (sym (subst_above x k (length xs) (k + length xs) t refl))
    ∙ sym (subst_list-substitute xs k (subst (k + length xs) x t))

pub list-one : {L : Type 0} {slots : L → List Slot} (k : ℕ) (a t : Tree L slots) → subst_list k (a ∷ []) t ≡ subst k a t
list-one {L} {slots} k a t =
    let e : k + length {A = Tree L slots} [] ≡ k = omega arith in
    list-first k a [] t ∙ list-none k (subst (k + length {A = Tree L slots} []) a t) ∙ ap (λ n. subst n a t) e

pub list-last : {L : Type 0} {slots : L → List Slot} (k : ℕ) (xs : List (Tree L slots)) (a t : Tree L slots) →
    subst_list k (xs ++ a ∷ []) t ≡ subst_list k xs (subst k (lift (length xs) 0 a) t)
list-last k xs a t =
    subst_list-substitute (xs ++ a ∷ []) k t ∙ put_all-last k xs a t
    ∙ ap (λ b. substitute (overs k (put_all xs Rel)) (substitute (overs k (put b)) t)) (sym (lift-shift (length xs) 0 a))
    ∙ ap (substitute (overs k (put_all xs Rel))) (sym (subst-substitute (lift (length xs) 0 a) k t))
    ∙ sym (subst_list-substitute xs k (subst k (lift (length xs) 0 a) t))

-- closed trees

pub closed-lift : {L : Type 0} {slots : L → List Slot} (m n k : ℕ) (t : Tree L slots) → Closed n t → n ≤ k → lift m k t ≡ t
closed-lift m n k t c h = lift-closed m k t (omega (arith, loose-least n t c))

pub closed-subst : {L : Type 0} {slots : L → List Slot} (n k : ℕ) (a t : Tree L slots) → Closed n t → n ≤ k → subst k a t ≡ t
closed-subst n k a t c h = subst-closed k a t (omega (arith, loose-least n t c))

pub closed-list : {L : Type 0} {slots : L → List Slot} (n k : ℕ) (xs : List (Tree L slots)) (t : Tree L slots) → Closed n t → n ≤ k → subst_list k xs t ≡ t
closed-list n k xs t c h = subst_list-closed k xs t (omega (arith, loose-least n t c))

-- what results are closed below

pub lift-stays_closed : {L : Type 0} {slots : L → List Slot} (m n k : ℕ) (t : Tree L slots) → Closed n t → Closed (n + m) (lift m k t)
lift-stays_closed m n k t c =
    let h = loose-lift m k t in
    loose-closed (n + m) (lift m k t) (lifted_at_most m n k (loose t) (loose (lift m k t)) h.0 h.1 (loose-least n t c))

-- along an equation of trees
same_closed : {L : Type 0} {slots : L → List Slot} (k : ℕ) {t u : Tree L slots} → t ≡ u → Closed k u → Closed k t
same_closed k e c = along (λ t. Closed k t) (sym e) c

pub subst-stays_closed : {L : Type 0} {slots : L → List Slot} (n k : ℕ) (a t : Tree L slots) → Closed (k + n + 1) t → Closed n a → Closed (k + n) (subst k a t)
subst-stays_closed n k a t c d =
    same_closed (k + n) (subst-substitute a k t)
    (substitute-closed t (overs k (put a)) (k + suc n) (k + n) (overs_fits k (put a) (suc n) n (put_fits a n d)) (closed_at t (omega arith) c))

pub list-stays_closed : {L : Type 0} {slots : L → List Slot} (n k : ℕ) (xs : List (Tree L slots)) (t : Tree L slots) → Closed (k + n + length xs) t → ClosedEach n xs →
    Closed (k + n) (subst_list k xs t)
list-stays_closed {L} {slots} n k xs t c d =
    same_closed (k + n) (subst_list-substitute xs k t)
    (substitute-closed t (overs k (put_all xs Rel)) (k + (length xs + n)) (k + n)
    (overs_fits k (put_all xs Rel) (length xs + n) n (put_all_fits xs Rel n n (λ i l. l) d)) (closed_at t (omega arith) c))
