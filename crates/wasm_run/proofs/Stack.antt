-- A frame's vector of operands against its open blocks.
use Rattle.wasm_core.specs.declared.types.ConstValue.{ConstValue}
use Rattle.std.proofs.Common.{◌≡◌, ℕ, suc, ◌+◌, ◌-◌, ◌<◌, ◌≤◌, List, [], ◌∷◌, ◌++◌, length, take, drop, ⊎_elim, append_assoc, refl, sym, ap, ◌∙◌, arith, add-one, length-drop, length-take, reverse, Option, Some, set, get_or, Bool, true, false}
use Rattle.std.specs.Prelude.{slice_get}
use Rattle.std.proofs.lemmas.Bool.{cases_lt}
use Rattle.std.proofs.lemmas.Option.{slice_get_past}
use Rattle.std.specs.Prelude.{is_some}
use Rattle.std.proofs.lemmas.List.{reverse-append, length-reverse, take-append-drop, drop-drop, drop_more, drop_all, set_split, take-take}
use Rattle.std.proofs.Math.Seq.{drop-append_seam, take-add, drop-length}
use Rattle.wasm_run.specs.declared.frame.Control.{Control}
use Rattle.wasm_run.specs.Shape.{Open, open_at, Shape, branched, leave_to, leave_with, keeping, closed}
use Rattle.wasm_run.specs.Inside.{height_of, above, below, opens, Fall, shape, kept}

pub reverse-snoc : {A : Type 0} (xs : List A) (x : A) → reverse (xs ++ x ∷ []) ≡ x ∷ reverse xs
reverse-snoc xs x = reverse-append xs (x ∷ [])

pub height_le : (cs : List Control) (n : ℕ) → Fall cs n → height_of cs ≤ n
height_le [] n f = omega arith
height_le (c ∷ cs) n f = f.0

pub above-cons : (h : ℕ) (x : ConstValue) (s : List ConstValue) → h ≤ length s → above h (x ∷ s) ≡ x ∷ above h s
above-cons h x s le = let e : length (x ∷ s) - h ≡ suc (length s - h) = omega arith in rw e

pub below-cons : (h : ℕ) (x : ConstValue) (s : List ConstValue) → h ≤ length s → below h (x ∷ s) ≡ below h s
below-cons h x s le = let e : length (x ∷ s) - h ≡ suc (length s - h) = omega arith in rw e

pub length-above : (h : ℕ) (s : List ConstValue) → length (above h s) ≡ length s - h
length-above h s = simp length-take (omega arith)

pub length-below : (h : ℕ) (s : List ConstValue) → h ≤ length s → length (below h s) ≡ h
length-below h s le = simp length-drop (omega arith)

pub below-below : (h k : ℕ) (s : List ConstValue) → k ≤ h → h ≤ length s → below k (below h s) ≡ below k s
below-below h k s le lt =
    let e : (length s - h) + (h - k) ≡ length s - k = omega arith in
    ap (λ n. drop (n - k) (below h s)) (length-below h s lt) ∙ drop-drop (h - k) (length s - h) s ∙ ap (λ n. drop n s) e

pub above-below : (h k : ℕ) (s : List ConstValue) → k ≤ h → h ≤ length s → above k s ≡ above h s ++ above k (below h s)
above-below h k s le lt =
    let e : length s - k ≡ (length s - h) + (h - k) = omega arith in
    ap (λ n. take n s) e ∙ take-add (length s - h) (h - k) s ∙ ap (λ n. above h s ++ take (n - k) (below h s)) (sym (length-below h s lt))

pub opens-cons : (cs : List Control) (x : ConstValue) (s : List ConstValue) → height_of cs ≤ length s → opens cs (x ∷ s) ≡ opens cs s
opens-cons [] x s le = refl
opens-cons (c ∷ cs) x s le = rw (below-cons c.height x s le)

pub opens-below : (cs : List Control) (h : ℕ) (s : List ConstValue) → height_of cs ≤ h → h ≤ length s → opens cs (below h s) ≡ opens cs s
opens-below [] h s le lt = refl
opens-below (c ∷ cs) h s le lt = rw (below-below h c.height s le lt)

pub length-opens : (cs : List Control) (s : List ConstValue) → length (opens cs s) ≡ length cs
length-opens [] s = refl
length-opens (c ∷ cs) s = ap suc (length-opens cs (below c.height s))

pub record Pushed (cs : List Control) (s t : List ConstValue) (x : ConstValue) : Type 0 where
  pub vals : above (height_of cs) (reverse t) ≡ x ∷ above (height_of cs) (reverse s)
  pub labels : opens cs (reverse t) ≡ opens cs (reverse s)

pub pushed : (cs : List Control) (s t : List ConstValue) (x : ConstValue) → t ≡ s ++ x ∷ [] → height_of cs ≤ length s → Pushed cs s t x
pushed cs s t x e le =
    let l : height_of cs ≤ length (reverse s) = simp length-reverse le in
    let r : reverse t ≡ x ∷ reverse s = ap reverse e ∙ reverse-snoc s x in
    record {
      vals = rw r (above-cons (height_of cs) x (reverse s) l);
      labels = rw r (opens-cons cs x (reverse s) l);
    }

-- an open block behind others
pub fall-mid : (front : List Control) (c : Control) (cs : List Control) (n : ℕ) → Fall (front ++ c ∷ cs) n → (c.height ≤ n) × Fall cs c.height × (height_of (front ++ c ∷ cs) ≤ n) × (c.height ≤ height_of (front ++ c ∷ cs))
fall-mid [] c cs n f = (f.0, f.1, f.0, omega arith)
fall-mid (d ∷ front) c cs n f = let r = fall-mid front c cs d.height f.1 in (omega (arith, r.0, f.0), r.1, f.0, r.0)

pub open_of : Control → List Control → List ConstValue → Open
open_of c cs s = open_at c.keeps c.target (above (height_of cs) (below c.height s))

pub opens-mid : (front : List Control) (c : Control) (cs : List Control) (s : List ConstValue) → Fall (front ++ c ∷ cs) (length s) → (slice_get (opens (front ++ c ∷ cs) s) (length front) ≡ Some (open_of c cs s)) × (drop (suc (length front)) (opens (front ++ c ∷ cs) s) ≡ opens cs (below c.height s))
unfolding open_of
opens-mid [] c cs s f = (refl, refl)
opens-mid (d ∷ front) c cs s f =
    let l : length (below d.height s) ≡ d.height = length-below d.height s f.0 in
    let f' : Fall (front ++ c ∷ cs) (length (below d.height s)) = rw l f.1 in
    let r = opens-mid front c cs (below d.height s) f' in
    let m = fall-mid front c cs d.height f.1 in
    let e = below-below d.height c.height s m.0 f.0 in
    (r.0 ∙ ap (λ b. Some (open_at c.keeps c.target (above (height_of cs) b))) e, r.1 ∙ ap (opens cs) e)

-- the innermost block is left
pub close_view : (func : ℕ) (result : Bool) (at : ℕ) (locals : List ConstValue) (c : Control) (cs : List Control) (s : List ConstValue) → Fall (c ∷ cs) (length s) → closed (shape func result at locals (c ∷ cs) s) ≡ Some (shape func result at locals cs s, c.target)
close_view func result at locals c cs s f =
    let le = height_le cs c.height f.1 in
    rw (opens-below cs c.height s le f.0, above-below c.height (height_of cs) s le f.0)

-- what is left of the operands by a branch
abbrev pub Unwound : Bool → ℕ → ℕ → List ConstValue → List ConstValue → Type 0
Unwound false h low s t = t ≡ below low s
Unwound true h low s t = (x : ConstValue) × (r : List ConstValue) × (s ≡ x ∷ r) × (t ≡ x ∷ below low s) × (h ≤ length r)

keep_view : (func : ℕ) (result : Bool) (at : ℕ) (locals : List ConstValue) (c : Control) (cs ds : List Control) (s t : List ConstValue) (keeps : Bool) → height_of ds ≤ length s → c.height ≤ length s → height_of cs ≤ c.height → Unwound keeps (height_of
    ds) c.height s t → keeping keeps (above (height_of ds) s) (λ top. Some (record { func = func; keeps = result; at = at; locals = locals; vals = top ++ above (height_of cs) (below c.height s); labels = opens cs (below c.height s) })) ≡ Some (shape func result at locals cs t)
keep_view func result at locals c cs ds s t false le lt ld u = rw u refl
keep_view func result at locals c cs ds s t true le lt ld (x, r, e, et, h) =
    let v : above (height_of ds) s ≡ x ∷ above (height_of ds) r = ap (above (height_of ds)) e ∙ above-cons (height_of ds) x r h in
    let l : height_of cs ≤ length (below c.height s) = rw (length-below c.height s lt) ld in
    rw (v, et, above-cons (height_of cs) x (below c.height s) l, opens-cons cs x (below c.height s) l)

-- a branch past some open blocks
pub branch_view : (func : ℕ) (result : Bool) (at : ℕ) (locals : List ConstValue) (front : List Control) (c : Control) (cs : List Control) (s t : List ConstValue) → Fall (front ++ c ∷ cs) (length s) → Unwound c.keeps (height_of (front ++ c ∷ cs)) c.height s t → branched (length
    front) (shape func result at locals (front ++ c ∷ cs) s) ≡ Some (shape func result c.target locals cs t)
unfolding open_of
branch_view func result at locals front c cs s t f u =
    let r = opens-mid front c cs s f in
    let m = fall-mid front c cs (length s) f in
    let all = front ++ c ∷ cs in
    let e : drop (length front + 1) (opens all s) ≡ opens cs (below c.height s) = rw add-one r.1 in
    let with_labels = λ (ls : List Open). keeping {A = Shape} c.keeps (above (height_of all) s) (λ top. Some (record { func = func; keeps = result; at = c.target; locals = locals; vals = top ++ above (height_of cs) (below c.height s); labels = ls })) in
    ap (leave_to (length front) (shape func result at locals all s)) r.0
    ∙ ap with_labels e
    ∙ keep_view func result c.target locals c cs all s t c.keeps m.2 m.0 (height_le cs c.height m.1) u

pub reverse-take : (n : ℕ) (xs : List ConstValue) → n ≤ length xs → reverse (take n xs) ≡ below n (reverse xs)
reverse-take n xs le =
    let l : length (reverse (drop n xs)) ≡ length (reverse xs) - n = simp (length-reverse, length-drop) in
    let e : reverse xs ≡ reverse (drop n xs) ++ reverse (take n xs) = ap reverse (sym (take-append-drop n xs)) ∙ reverse-append (take n xs) (drop n xs) in
    sym (ap (drop (length (reverse xs) - n)) e ∙ ap (λ k. drop k (reverse (drop n xs) ++ reverse (take n xs))) (sym l) ∙ drop-append_seam (reverse (drop n xs)) (reverse (take n xs)))

-- the last item is the first of the reverse
pub reverse_last : (xs : List ConstValue) (d : ConstValue) → 0 < length xs → reverse xs ≡ get_or xs (length xs - 1) d ∷ reverse (take (length xs - 1) xs)
reverse_last xs d some =
    let lt : length xs - 1 < length xs = omega arith in
    let past : drop (length xs - 1 + 1) xs ≡ [] = (let n : length xs - 1 + 1 ≡ length xs = omega arith in rw n (drop-length xs)) in
    let e : drop (length xs - 1) xs ≡ get_or xs (length xs - 1) d ∷ [] = drop_more xs (length xs - 1) d lt ∙ ap (λ r. get_or xs (length xs - 1) d ∷ r) past in
    ap reverse (sym (take-append-drop (length xs - 1) xs) ∙ ap (λ r. take (length xs - 1) xs ++ r) e) ∙ reverse-snoc (take (length xs - 1) xs) (get_or xs (length xs - 1) d)

-- the first h items and one more
pub top_kept : (xs : List ConstValue) (h : ℕ) (x : ConstValue) → h < length xs → set (take (h + 1) xs) h x ≡ take h xs ++ x ∷ []
top_kept xs h x lt =
    let l : length (take (h + 1) xs) ≡ h + 1 = simp length-take (omega arith) in
    let w : h < length (take (h + 1) xs) = omega arith in
    let past : drop (suc h) (take (h + 1) xs) ≡ [] = drop_all (suc h) (take (h + 1) xs) (omega arith) in
    set_split (take (h + 1) xs) h x w ∙ ap (λ r. take h (take (h + 1) xs) ++ x ∷ r) past ∙ ap (λ r. r ++ x ∷ []) (take-take h (h + 1) xs (omega arith))

-- the i-th open block from the inside, among those before and after it
pub record Chosen (all : List Control) (i n : ℕ) (c : Control) : Type 0 where
  pub split : reverse all ≡ reverse (drop (n - 1 - i + 1) all) ++ c ∷ reverse (take (n - 1 - i) all)
  pub len : length (reverse (drop (n - 1 - i + 1) all)) ≡ i

pub chosen : (all : List Control) (i n : ℕ) (c : Control) → n ≡ length all → i < length all → c ≡ get_or all (n - 1 - i) c → Chosen all i n c
chosen all i n c l lt e =
    let w : n - 1 - i < length all = omega arith in
    let d : drop (n - 1 - i) all ≡ c ∷ drop (n - 1 - i + 1) all = drop_more all (n - 1 - i) c w ∙ ap (λ x. x ∷ drop (n - 1 - i + 1) all) (sym e) in
    record {
      split = ap reverse (sym (take-append-drop (n - 1 - i) all) ∙ ap (λ r. take (n - 1 - i) all ++ r) d) ∙ reverse-append (take (n - 1 - i) all) (c ∷ drop (n - 1 - i + 1) all) ∙ ap (λ r. r ++ reverse (take (n - 1 - i) all)) (reverse_cons c
          (drop (n - 1 - i + 1) all)) ∙ append_assoc (reverse (drop (n - 1 - i + 1) all)) (c ∷ []) (reverse (take (n - 1 - i) all));
      len = simp (length-reverse, length-drop) (omega arith);
    }
  where
    reverse_cons : (x : Control) (xs : List Control) → reverse (x ∷ xs) ≡ reverse xs ++ x ∷ []
    reverse_cons x xs = reverse-append (x ∷ []) xs

keeping_some : {A : Type 0} (keeps : Bool) (vals : List ConstValue) (go : List ConstValue → Option A) → is_some (keeping keeps vals go) ≡ true → keeps ≡ true → 0 < length vals
keeping_some false vals go h e = cc
keeping_some true [] go h e = cc
keeping_some true (x ∷ vals) go h e = omega arith

-- a branch that can be made is to a block that is open
pub branch_open : (func : ℕ) (result : Bool) (at : ℕ) (locals : List ConstValue) (all : List Control) (s : List ConstValue) (i : ℕ) → is_some (branched i (shape func result at locals (reverse all) s)) ≡ true → i < length all
branch_open func result at locals all s i h = ⊎_elim (λ lt. lt) (λ le. past le) (cases_lt i (length all))
  where
    past : length all ≤ i → i < length all
    past le =
        let l : length (opens (reverse all) s) ≤ i = rw (length-opens, length-reverse) le in
        let e = slice_get_past (opens (reverse all) s) i l in
        let g = rw e at h in cc

kept_unwound : (keeps : Bool) (h low : ℕ) (s t : List ConstValue) → (keeps ≡ true → h < length s) → t ≡ kept keeps s ++ below low s → Unwound keeps h low s t
kept_unwound false h low s t some e = e
kept_unwound true h low [] t some e = let f = some refl in absurd (omega arith)
kept_unwound true h low (x ∷ s) t some e = let f = some refl in (x, s, refl, e, omega arith)

fall_up : (cs : List Control) (m n : ℕ) → Fall cs m → m ≤ n → Fall cs n
fall_up [] m n f le = tt
fall_up (c ∷ cs) m n f le = (omega (arith, f.0), f.1)

unwound_le : (keeps : Bool) (h low : ℕ) (s t : List ConstValue) → low ≤ length s → Unwound keeps h low s t → low ≤ length t
unwound_le false h low s t le u = rw (u, length-below low s le) (omega arith)
unwound_le true h low s t le (x, r, e, et, lt) = rw (et, length-below low s le) (omega arith)

module _ (func : ℕ) (result : Bool) (at : ℕ) (locals : List ConstValue) (all : List Control) (s : List ConstValue) (i n : ℕ) (c : Control) (l : n ≡ length all) (fall : Fall (reverse all) (length s)) (some : is_some
    (branched i (shape func result at locals (reverse all) (reverse s))) ≡ true) (e : c ≡ get_or all (n - 1 - i) c) where
  low : List Control
  low = reverse (take (n - 1 - i) all)

  front : List Control
  front = reverse (drop (n - 1 - i + 1) all)

  split : Chosen all i n c
  split = chosen all i n c l (branch_open func result at locals all (reverse s) i some) e

  falls : Fall (front ++ c ∷ low) (length (reverse s))
  unfolding low front
  falls = rw (← split.split, length-reverse) fall

  can : is_some (branched (length front) (shape func result at locals (front ++ c ∷ low) (reverse s))) ≡ true
  unfolding low front
  can = rw (← split.split, split.len) some

  high : c.keeps ≡ true → height_of (front ++ c ∷ low) < length s
  unfolding open_of
  high k =
      let r = opens-mid front c low (reverse s) falls in
      let g = rw r.0 at can in
      let a = keeping_some {A = Shape} c.keeps (above (height_of (front ++ c ∷ low)) (reverse s)) (leave_with (length front) (shape func result at locals (front ++ c ∷ low) (reverse s)) (open_of c low (reverse s))) g k in
      omega (arith, a, length-above (height_of (front ++ c ∷ low)) (reverse s), length-reverse s)

  pub branch_bounds : (c.height ≤ length s) × (c.keeps ≡ true → c.height < length s)
  branch_bounds =
      let m = fall-mid front c low (length (reverse s)) falls in
      (omega (arith, m.0, length-reverse s), λ k. omega (arith, high k, m.3))

  pub branch_done : (t : List ConstValue) (down : List Control) → down ≡ take (n - 1 - i) all → reverse t ≡ kept c.keeps (reverse s) ++ below c.height (reverse s) → Fall (reverse down) (length t) × (branched i (shape func result at locals (reverse all) (reverse s)) ≡ Some
      (shape func result c.target locals (reverse down) (reverse t)))
  unfolding low front
  branch_done t down d u =
      let w = kept_unwound c.keeps (height_of (front ++ c ∷ low)) c.height (reverse s) (reverse t) (λ k. rw length-reverse (high k)) u in
      let m = fall-mid front c low (length (reverse s)) falls in
      let len : length t ≡ length (reverse t) = sym (length-reverse t) in (
        rw (d, len) (fall_up low c.height (length (reverse t)) m.1 (unwound_le c.keeps (height_of (front ++ c ∷ low)) c.height (reverse s) (reverse t) m.0 w)),
        ap (λ cs. branched i (shape func result at locals cs (reverse s))) split.split ∙ ap (λ k. branched k (shape func result at locals (front ++ c ∷ low) (reverse s))) (sym split.len) ∙ branch_view func result at locals front c low (reverse s) (reverse t) falls w ∙ ap (λ x.
            Some (shape func result c.target locals (reverse x) (reverse t))) (sym d),
      )
