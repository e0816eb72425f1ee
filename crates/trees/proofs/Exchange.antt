-- Two substitutions, one after another, as one or in the other order.
use Rattle.std.proofs.Common.{map, ◌≡◌, ℕ, zero, suc, ◌+◌, ◌-◌, ◌<◌, ◌≤◌, List, [], ◌∷◌, ◌++◌, length, refl, sym, ap, ◌∙◌, arith}
use mathlib.Core.Path.{fun_ext}
use Rattle.trees.specs.Tree.{Slot, Tree, Rel}
use Rattle.trees.specs.Parallel.{ups, rename, over, overs, substitute, shift, first, put, put_all}
use Rattle.trees.proofs.Fusion.{rename-rename, substitute-rename, substitute-substitute, substitute_rel, overs_overs, overs_rel}
use Rattle.trees.proofs.Cutoffs.{below, past, Order, order, overs_sum, overs_below, overs_past, put_all-past}
use Rattle.trees.proofs.Put.{ups_below, ups_past, substitute_same, put_all_agree, agree_none, substitute-put_all}

pub overs_same : {L : Type 0} {slots : L → List Slot} (k i : ℕ) → overs {L = L} {slots = slots} k Rel i ≡ Rel i
overs_same zero i = refl
overs_same (suc k) zero = refl
overs_same (suc k) (suc i) = ap (rename suc) (overs_same k i)

pub substitute_overs_same : {L : Type 0} {slots : L → List Slot} (k : ℕ) (t : Tree L slots) → substitute (overs k Rel) t ≡ t
substitute_overs_same k t = ap (λ q. substitute q t) (fun_ext (overs_same k)) ∙ substitute_same t

-- the renaming that adds m, as a substitution
abbrev pub more : {L : Type 0} {slots : L → List Slot} → ℕ → ℕ → Tree L slots
more m i = Rel (m + i)

pub shift_is : {L : Type 0} {slots : L → List Slot} (m k : ℕ) (t : Tree L slots) → shift m k t ≡ substitute (overs k (more m)) t
shift_is {L} {slots} m k t =
    sym (ap (λ q. substitute q t) (fun_ext (overs_rel L slots k (λ i. m + i))) ∙ substitute_rel t (ups k (λ i. m + i)))

-- what holds of two substitutions of each variable holds under k more
pub exchanged_under : {L : Type 0} {slots : L → List Slot} (s s' q q' : ℕ → Tree L slots) → ((j : ℕ) → substitute s' (s j) ≡ substitute q' (q j)) →
    (k : ℕ) (t : Tree L slots) → substitute (overs k s') (substitute (overs k s) t) ≡ substitute (overs k q') (substitute (overs k q) t)
exchanged_under s s' q q' h k t =
    substitute-substitute t (overs k s) (overs k s')
    ∙ ap (λ f. substitute f t) (fun_ext (overs_overs k s s') ∙ ap (overs k) (fun_ext h) ∙ sym (fun_ext (overs_overs k q q')))
    ∙ sym (substitute-substitute t (overs k q) (overs k q'))

pub fused_under : {L : Type 0} {slots : L → List Slot} (s s' q : ℕ → Tree L slots) → ((j : ℕ) → substitute s' (s j) ≡ q j) →
    (k : ℕ) (t : Tree L slots) → substitute (overs k s') (substitute (overs k s) t) ≡ substitute (overs k q) t
fused_under s s' q h k t =
    substitute-substitute t (overs k s) (overs k s') ∙ ap (λ f. substitute f t) (fun_ext (overs_overs k s s') ∙ ap (overs k) (fun_ext h))

-- a substitution goes into what is put in
pub put-exchange : {L : Type 0} {slots : L → List Slot} (k : ℕ) (s : ℕ → Tree L slots) (a t : Tree L slots) →
    substitute (overs k s) (substitute (overs k (put a)) t) ≡ substitute (overs k (put (substitute s a))) (substitute (overs k (over s)) t)
put-exchange k s a t = exchanged_under (put a) s (over s) (put (substitute s a)) each k t
  where
    each : (j : ℕ) → substitute s (put a j) ≡ substitute (put (substitute s a)) (over s j)
    each zero = refl
    each (suc j) = sym (substitute-rename (s j) suc (put (substitute s a)) ∙ substitute_same (s j))

-- and into each item of a list
pub put_all-exchange : {L : Type 0} {slots : L → List Slot} (k : ℕ) (s : ℕ → Tree L slots) (xs : List (Tree L slots)) (t : Tree L slots) →
    substitute (overs k s) (substitute (overs k (put_all xs Rel)) t)
    ≡ substitute (overs k (put_all (map (substitute s) xs) Rel)) (substitute (overs k (overs (length xs) s)) t)
put_all-exchange k s xs t =
    exchanged_under (put_all xs Rel) s (overs (length xs) s) (put_all (map (substitute s) xs) Rel)
    (λ j. sym (substitute-put_all xs s s Rel Rel (λ i. substitute_same (s i)) j)) k t

-- a lift goes past a substitution for variables that are above its cutoff
pub shift-past : {L : Type 0} {slots : L → List Slot} (m n d : ℕ) (s : ℕ → Tree L slots) (t : Tree L slots) →
    shift m n (substitute (overs n (overs d s)) t) ≡ substitute (overs n (overs (m + d) s)) (shift m n t)
shift-past {L} {slots} m n d s t =
    shift_is m n (substitute (overs n (overs d s)) t)
    ∙ exchanged_under (overs d s) (more m) (more m) (overs (m + d) s) each n t
    ∙ ap (substitute (overs n (overs (m + d) s))) (sym (shift_is m n t))
  where
    each : (j : ℕ) → substitute (more m) (overs d s j) ≡ substitute (overs (m + d) s) (more m j)
    each j = substitute_rel (overs d s j) (λ i. m + i) ∙ sym (ap (λ f. f (m + j)) (overs_sum m d s) ∙ overs_past m (overs d s) j)

-- a list put in at once is its last item put in first, and then the others
pub put_all-last : {L : Type 0} {slots : L → List Slot} (k : ℕ) (xs : List (Tree L slots)) (a t : Tree L slots) →
    substitute (overs k (put_all (xs ++ (a ∷ [])) Rel)) t ≡ substitute (overs k (put_all xs Rel)) (substitute (overs k (put (shift (length xs) 0 a))) t)
put_all-last {L} {slots} k xs a t = sym (fused_under (put (shift (length xs) 0 a)) (put_all xs Rel) (put_all (xs ++ (a ∷ [])) Rel) each k t)
  where
    last : (xs : List (Tree L slots)) (s : ℕ → Tree L slots) → put_all (xs ++ (a ∷ [])) s ≡ first a (put_all xs s)
    last [] s = refl
    last (x ∷ xs) s = last xs (first x s)

    each : (j : ℕ) → substitute (put_all xs Rel) (put (shift (length xs) 0 a) j) ≡ put_all (xs ++ (a ∷ [])) Rel j
    each zero =
        substitute-rename a (λ i. length xs + i) (put_all xs Rel) ∙ ap (λ q. substitute q a) (fun_ext (put_all-past xs Rel)) ∙ substitute_same a
        ∙ sym (ap (λ f. f zero) (last xs Rel))
    each (suc j) = sym (ap (λ f. f (suc j)) (last xs Rel))

-- nothing is put in for the variables that a lift by a list's length has freed
pub put_all-shifted_by : {L : Type 0} {slots : L → List Slot} (xs : List (Tree L slots)) (a : Tree L slots) → substitute (put_all xs Rel) (shift (length xs) 0 a) ≡ a
put_all-shifted_by xs a =
    substitute-rename a (λ i. length xs + i) (put_all xs Rel) ∙ ap (λ q. substitute q a) (fun_ext (put_all-past xs Rel)) ∙ substitute_same a

-- a substitution under the variables, and then the list
pub put_over : {L : Type 0} {slots : L → List Slot} (xs : List (Tree L slots)) (s : ℕ → Tree L slots) (t : Tree L slots) →
    substitute (put_all xs Rel) (substitute (overs (length xs) s) t) ≡ substitute (put_all xs s) t
put_over xs s t = substitute-substitute t (overs (length xs) s) (put_all xs Rel) ∙ ap (λ q. substitute q t) (fun_ext each)
  where
    each_case : (j : ℕ) → Order (length xs) j → substitute (put_all xs Rel) (overs (length xs) s j) ≡ put_all xs s j
    each_case j (below l) = ap (substitute (put_all xs Rel)) (overs_below (length xs) s j l) ∙ put_all_agree xs Rel s 0 (agree_none Rel s) j (omega arith)
    each_case j (past p e) =
        ap (λ i. substitute (put_all xs Rel) (overs (length xs) s i)) e ∙ ap (substitute (put_all xs Rel)) (overs_past (length xs) s p)
        ∙ put_all-shifted_by xs (s p) ∙ sym (ap (put_all xs s) e ∙ put_all-past xs s p)

    each : (j : ℕ) → substitute (put_all xs Rel) (overs (length xs) s j) ≡ put_all xs s j
    each j = each_case j (order (length xs) j)

pub put_all-shifted : {L : Type 0} {slots : L → List Slot} (k : ℕ) (xs : List (Tree L slots)) (t : Tree L slots) →
    substitute (overs k (put_all xs Rel)) (shift (length xs) k t) ≡ t
put_all-shifted k xs t =
    ap (substitute (overs k (put_all xs Rel))) (shift_is (length xs) k t)
    ∙ fused_under (more (length xs)) (put_all xs Rel) Rel (put_all-past xs Rel) k t
    ∙ substitute_overs_same k t

-- a list put in at once is its first item, for the outermost of the variables, put in first, and then the others
pub put_all-first : {L : Type 0} {slots : L → List Slot} (k : ℕ) (x : Tree L slots) (xs : List (Tree L slots)) (t : Tree L slots) →
    substitute (overs k (put_all (x ∷ xs) Rel)) t ≡ substitute (overs k (put_all xs Rel)) (substitute (overs k (overs (length xs) (put x))) t)
put_all-first {L} {slots} k x xs t = sym (fused_under (overs (length xs) (put x)) (put_all xs Rel) (put_all xs (first x Rel)) each k t)
  where
    each_case : (j : ℕ) → Order (length xs) j → substitute (put_all xs Rel) (overs (length xs) (put x) j) ≡ put_all xs (first x Rel) j
    each_case j (below l) =
        ap (substitute (put_all xs Rel)) (overs_below (length xs) (put x) j l)
        ∙ put_all_agree xs Rel (first x Rel) 0 (agree_none Rel (first x Rel)) j (omega arith)
    each_case j (past p e) =
        ap (λ i. substitute (put_all xs Rel) (overs (length xs) (put x) i)) e
        ∙ ap (substitute (put_all xs Rel)) (overs_past (length xs) (put x) p)
        ∙ put_all-shifted_by xs (put x p)
        ∙ sym (ap (put_all xs (first x Rel)) e ∙ put_all-past xs (first x Rel) p)

    each : (j : ℕ) → substitute (put_all xs Rel) (overs (length xs) (put x) j) ≡ put_all xs (first x Rel) j
    each j = each_case j (order (length xs) j)

-- a substitution for a variable that a lift has freed leaves a lift by one less
pub put-shifted : {L : Type 0} {slots : L → List Slot} (n d m : ℕ) (a t : Tree L slots) → d ≤ m →
    substitute (overs n (overs d (put a))) (shift (suc m) n t) ≡ shift m n t
put-shifted {L} {slots} n d m a t h =
    ap (substitute (overs n (overs d (put a)))) (shift_is (suc m) n t)
    ∙ fused_under (more (suc m)) (overs d (put a)) (more m) each n t
    ∙ sym (shift_is m n t)
  where
    each : (j : ℕ) → overs d (put a) (suc m + j) ≡ Rel (m + j)
    each j =
        let e : suc m + j ≡ d + suc (m - d + j) = omega arith in
        let f : d + (m - d + j) ≡ m + j = omega arith in
        ap (overs d (put a)) e ∙ overs_past d (put a) (suc (m - d + j)) ∙ ap Rel f

-- a variable put in for itself
pub put-variable : {L : Type 0} {slots : L → List Slot} (k : ℕ) (t : Tree L slots) → substitute (overs k (put (Rel 0))) (shift 1 (suc k) t) ≡ t
put-variable {L} {slots} k t =
    ap (substitute (overs k (put (Rel 0)))) (shift_is 1 (suc k) t ∙ ap (λ q. substitute q t) at_one)
    ∙ fused_under (over (more 1)) (put (Rel 0)) Rel each k t
    ∙ substitute_overs_same k t
  where
    at_one : overs {L = L} {slots = slots} (suc k) (more 1) ≡ overs k (over (more 1))
    at_one = let e : suc k ≡ k + 1 = omega arith in ap (λ n. overs n (more 1)) e ∙ overs_sum k 1 (more 1)

    each : (j : ℕ) → substitute {L = L} {slots = slots} (put (Rel 0)) (over (more 1) j) ≡ Rel j
    each zero = refl
    each (suc j) = let e : 1 + j ≡ suc j = omega arith in ap Rel e

-- two lifts are one where the second cuts off within what the first freed
pub shift-shift : {L : Type 0} {slots : L → List Slot} (j k m n : ℕ) (t : Tree L slots) → n ≤ m → m ≤ n + k → shift j m (shift k n t) ≡ shift (j + k) n t
shift-shift j k m n t h g = rename-rename t (ups n (λ i. k + i)) (ups m (λ i. j + i)) ∙ ap (λ r. rename r t) (fun_ext each)
  where
    each : (i : ℕ) → ups m (λ i. j + i) (ups n (λ i. k + i) i) ≡ ups n (λ i. j + k + i) i
    each i = elim (order n i) [ below l ↦ low l | past p e ↦ high p e ]
      where
        low : i < n → ups m (λ i. j + i) (ups n (λ i. k + i) i) ≡ ups n (λ i. j + k + i) i
        low l = ap (ups m (λ i. j + i)) (ups_below n (λ i. k + i) i l) ∙ ups_below m (λ i. j + i) i (omega arith) ∙ sym (ups_below n (λ i. j + k + i) i l)

        high : (p : ℕ) → i ≡ n + p → ups m (λ i. j + i) (ups n (λ i. k + i) i) ≡ ups n (λ i. j + k + i) i
        high p e =
            let a : n + (k + p) ≡ m + (n + k + p - m) = omega arith in
            let b : m + (j + (n + k + p - m)) ≡ n + (j + k + p) = omega arith in
            ap (λ x. ups m (λ i. j + i) (ups n (λ i. k + i) x)) e ∙ ap (ups m (λ i. j + i)) (ups_past n (λ i. k + i) p ∙ a)
            ∙ ups_past m (λ i. j + i) (n + k + p - m) ∙ b ∙ sym (ap (ups n (λ i. j + k + i)) e ∙ ups_past n (λ i. j + k + i) p)
