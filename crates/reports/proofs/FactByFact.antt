-- What telling facts does, fact by fact and report by report.
use Rattle.std.proofs.Common.{◌≡◌, ℕ, zero, suc, ◌+◌, ◌*◌, ◌<◌, ◌≤◌, List, [], ◌∷◌, ◌++◌, length, take, drop, replicate, get_or, set, append_assoc, Bool, true, false, refl, sym, ap, subst, ◌∙◌, arith}
use Rattle.std.specs.Prelude.{min, count_by, cond}
use Rattle.std.specs.List.{AllZip}
use Rattle.std.proofs.lemmas.List.Sums.{sum_by-append}
use Rattle.std.proofs.lemmas.List.Folds.{sum_by-replicate}
use Rattle.std.proofs.lemmas.List.{append-nil}
use Rattle.std.proofs.Math.Seq.{take_all}
use Rattle.reports.specs.Counting.{after, after_all, after_times, last, numbered}
use Rattle.reports.specs.Shown.{Shown, IsTold}
use Rattle.reports.specs.declared.fact.Fact.{Fact}

-- ---- one report

-- no fact
pub told_none : (s : Shown) → IsTold [] s s
told_none s = record { counted = ap (λ n. min n last) (omega arith); wanted = refl; named = refl }

one_counted : (b : Bool) (n m : ℕ) → m ≡ after b n → min m last ≡ min (n + (0 + cond b 1 0)) last
one_counted true n m e = omega (arith, e)
one_counted false n m e = omega (arith, e)

-- one fact, as `see` tells it
pub told_one : (f : Fact) (a b : Shown) → b.counted ≡ after (a.wanted f) a.counted → b.wanted ≡ a.wanted → b.named ≡ a.named → IsTold (f ∷ []) a b
told_one f a b c w n = record { counted = one_counted (a.wanted f) a.counted b.counted c; wanted = w; named = n }

-- of other facts that are the same
pub told_as : (a b : Shown) (xs ys : List Fact) → xs ≡ ys → IsTold xs a b → IsTold ys a b
told_as a b xs ys e t = subst (λ z. IsTold z a b) e t

two_counted : (a b c p q : ℕ) → min b last ≡ min (a + p) last → min c last ≡ min (b + q) last → min c last ≡ min (a + (p + q)) last
two_counted a b c p q e f = omega (arith, e, f)

-- some facts, and then others
pub told_then : (a b c : Shown) (xs ys : List Fact) → IsTold xs a b → IsTold ys b c → IsTold (xs ++ ys) a c
told_then a b c xs ys s t = record {
  counted = two_counted a.counted b.counted c.counted (count_by a.wanted xs) (count_by a.wanted ys) s.counted (subst (λ w. min c.counted last ≡ after_all w ys b.counted) s.wanted t.counted)
      ∙ ap (λ n. min (a.counted + n) last) (sym (sum_by-append (λ x. cond (a.wanted x) 1 0) xs ys));
  wanted = t.wanted ∙ s.wanted;
  named = t.named ∙ s.named;
}

times_counted : (b : Bool) (t n m k : ℕ) → m ≡ after_times b t n → k ≡ t * cond b 1 0 → min m last ≡ min (n + k) last
times_counted true t n m k e f = omega (arith, e, f)
times_counted false t n m k e f = omega (arith, e, f)

-- one fact so many times, counted at once
pub told_times : (t : ℕ) (f : Fact) (a b : Shown) → b.counted ≡ after_times (a.wanted f) t a.counted → b.wanted ≡ a.wanted → b.named ≡ a.named → IsTold (replicate t f) a b
told_times t f a b c w n = record { counted = times_counted (a.wanted f) t a.counted b.counted (count_by a.wanted (replicate t f)) c (sum_by-replicate (λ x. cond (a.wanted x) 1 0) t f); wanted = w; named = n }

numbered_next : (fact : ℕ → Fact) (k i : ℕ) (counts : List ℕ) (d r : ℕ) → i < length counts → r ≡ k + i → numbered fact k (take i counts) ++ replicate (get_or counts i d) (fact r) ≡ numbered fact k (take (suc i) counts)
numbered_next fact k i [] d r lt e = absurd (omega (arith, lt))
numbered_next fact k zero (m ∷ ms) d r lt e =
    let e' : r ≡ k = omega (arith, e) in
    ap (λ j. replicate m (fact j)) e' ∙ sym (append-nil (replicate m (fact k)))
numbered_next fact k (suc i) (m ∷ ms) d r lt e =
    append_assoc (replicate m (fact k)) (numbered fact (k + 1) (take i ms)) (replicate (get_or ms i d) (fact r))
    ∙ ap (λ fs. replicate m (fact k) ++ fs) (numbered_next fact (k + 1) i ms d r (omega (arith, lt)) (omega (arith, e)))

-- those up to a number, and those of that one
pub numbered_more : (fact : ℕ → Fact) (k i j : ℕ) (counts : List ℕ) (d r : ℕ) → i < length counts → r ≡ k + i → j ≡ suc i → numbered fact k (take i counts) ++ replicate (get_or counts i d) (fact r) ≡ numbered fact k (take j counts)
numbered_more fact k i j counts d r lt e next = numbered_next fact k i counts d r lt e ∙ ap (λ a. numbered fact k (take a counts)) (sym next)

one_more_of : (b : Bool) (n m r : ℕ) → min (n + (min (m + 1) last * cond b 1 0 + r)) last ≡ min (n + (m * cond b 1 0 + r + cond b 1 0)) last
one_more_of true n m r = omega arith
one_more_of false n m r = omega arith

moved_in : (n p x y : ℕ) → min (n + p + x) last ≡ min (n + p + y) last → min (n + (p + x)) last ≡ min (n + (p + y)) last
moved_in n p x y e = omega (arith, e)

moved_out : (n p y b : ℕ) → min (n + (p + (y + b))) last ≡ min (n + (p + y + b)) last
moved_out n p y b = omega arith

counted_in : (w : Fact → Bool) (f : Fact) (m : ℕ) (fs : List Fact) → count_by w (replicate m f ++ fs) ≡ m * cond (w f) 1 0 + count_by w fs
counted_in w f m fs = sum_by-append (λ x. cond (w x) 1 0) (replicate m f) fs ∙ ap (λ n. n + count_by w fs) (sum_by-replicate (λ x. cond (w x) 1 0) m f)

-- one more of one number, each counted up to the last value
pub numbered_set : (fact : ℕ → Fact) (w : Fact → Bool) (k i : ℕ) (counts : List ℕ) (d r n : ℕ) → i < length counts → r ≡ k + i →
    min (n + count_by w (numbered fact k (set counts i (min (get_or counts i d + 1) last)))) last ≡ min (n + (count_by w (numbered fact k counts) + cond (w (fact r)) 1 0)) last
numbered_set fact w k i [] d r n lt e = absurd (omega (arith, lt))
numbered_set fact w k zero (m ∷ ms) d r n lt e =
    let e' : r ≡ k = omega (arith, e) in
    let rest = numbered fact (k + 1) ms in
    ap (λ x. min (n + x) last) (counted_in w (fact k) (min (m + 1) last) rest)
    ∙ one_more_of (w (fact k)) n m (count_by w rest)
    ∙ ap (λ x. min (n + (x + cond (w (fact k)) 1 0)) last) (sym (counted_in w (fact k) m rest))
    ∙ ap (λ j. min (n + (count_by w (replicate m (fact k) ++ rest) + cond (w (fact j)) 1 0)) last) (sym e')
numbered_set fact w k (suc i) (m ∷ ms) d r n lt e =
    let p = m * cond (w (fact k)) 1 0 in
    let b = cond (w (fact r)) 1 0 in
    let rest = numbered fact (k + 1) ms in
    let more = numbered fact (k + 1) (set ms i (min (get_or ms i d + 1) last)) in
    ap (λ x. min (n + x) last) (counted_in w (fact k) m more)
    ∙ moved_in n p (count_by w more) (count_by w rest + b) (numbered_set fact w (k + 1) i ms d r (n + p) (omega (arith, lt)) (omega (arith, e)))
    ∙ moved_out n p (count_by w rest) b
    ∙ ap (λ x. min (n + (x + b)) last) (sym (counted_in w (fact k) m rest))

-- ---- reports in a row

-- the first reports are told, and the others are as they were
pub record ToldUpTo {X : Type 0} (shown : X → Shown) (facts : List Fact) (i : ℕ) (old now : List X) : Type 0 where
  pub told : AllZip (λ b c. IsTold facts (shown b) (shown c)) (take i old) (take i now)
  pub rest : drop i now ≡ drop i old
  pub long : length now ≡ length old

pub told_up_to_none : {X : Type 0} (shown : X → Shown) (facts : List Fact) (xs : List X) → ToldUpTo shown facts 0 xs xs
told_up_to_none shown facts xs = record { told = tt; rest = refl; long = refl }

told_up_to_next : {X : Type 0} (shown : X → Shown) (facts : List Fact) (i : ℕ) (old now : List X) (x y : X) → i < length now → ToldUpTo shown facts i old now → IsTold facts (shown (get_or now i x)) (shown y) →
    ToldUpTo shown facts (suc i) old (set now i y)
told_up_to_next shown facts zero [] now x y lt t told = absurd (omega (arith, lt, t.long))
told_up_to_next shown facts zero (a ∷ olds) [] x y lt t told = absurd (omega (arith, lt))
told_up_to_next shown facts zero (a ∷ olds) (b ∷ bs) x y lt t told =
    let e : b ∷ bs ≡ a ∷ olds = t.rest in
    let same : b ≡ a = cc in
    record { told = (subst (λ z. IsTold facts (shown z) (shown y)) same told, tt); rest = cc; long = t.long }
told_up_to_next shown facts (suc i) [] now x y lt t told = absurd (omega (arith, lt, t.long))
told_up_to_next shown facts (suc i) (a ∷ olds) [] x y lt t told = absurd (omega (arith, lt))
told_up_to_next shown facts (suc i) (a ∷ olds) (b ∷ bs) x y lt t told =
    let more = told_up_to_next shown facts i olds bs x y (omega (arith, lt)) (record { told = t.told.1; rest = t.rest; long = omega (arith, t.long) }) told in
    record { told = (t.told.0, more.told); rest = more.rest; long = omega (arith, more.long) }

pub told_up_to_more : {X : Type 0} (shown : X → Shown) (facts : List Fact) (i j : ℕ) (old now : List X) (x y : X) → i < length now → j ≡ suc i → ToldUpTo shown facts i old now → IsTold facts (shown (get_or now i x)) (shown y) →
    ToldUpTo shown facts j old (set now i y)
told_up_to_more shown facts i j old now x y lt next t told = subst (λ k. ToldUpTo shown facts k old (set now i y)) (sym next) (told_up_to_next shown facts i old now x y lt t told)

pub told_up_to_all : {X : Type 0} (shown : X → Shown) (facts : List Fact) (i : ℕ) (old now : List X) → length now ≤ i → ToldUpTo shown facts i old now → AllZip (λ b c. IsTold facts (shown b) (shown c)) old now
told_up_to_all shown facts i old now le t =
    let le' : length old ≤ i = omega (arith, le, t.long) in
    subst (λ xs. AllZip (λ b c. IsTold facts (shown b) (shown c)) xs now) (take_all i old le') (subst (λ ys. AllZip (λ b c. IsTold facts (shown b) (shown c)) (take i old) ys) (take_all i now le) t.told)

-- ---- all reports

pub all_told_none : {X : Type 0} (shown : X → Shown) (xs : List X) → AllZip (λ b c. IsTold [] (shown b) (shown c)) xs xs
all_told_none shown [] = tt
all_told_none shown (x ∷ xs) = (told_none (shown x), all_told_none shown xs)

-- each told some facts, and then others
pub all_told_then : {X : Type 0} (shown : X → Shown) (fs gs : List Fact) (xs ys zs : List X) → AllZip (λ b c. IsTold fs (shown b) (shown c)) xs ys → AllZip (λ b c. IsTold gs (shown b) (shown c)) ys zs →
    AllZip (λ b c. IsTold (fs ++ gs) (shown b) (shown c)) xs zs
all_told_then shown fs gs [] [] [] s t = tt
all_told_then shown fs gs [] [] (z ∷ zs) s t = absurd t
all_told_then shown fs gs [] (y ∷ ys) zs s t = absurd s
all_told_then shown fs gs (x ∷ xs) [] zs s t = absurd s
all_told_then shown fs gs (x ∷ xs) (y ∷ ys) [] s t = absurd t
all_told_then shown fs gs (x ∷ xs) (y ∷ ys) (z ∷ zs) s t = (told_then (shown x) (shown y) (shown z) fs gs s.0 t.0, all_told_then shown fs gs xs ys zs s.1 t.1)

-- facts that count the same for every report
pub all_told_as : {X : Type 0} (shown : X → Shown) (fs gs : List Fact) → ((wanted : Fact → Bool) (n : ℕ) → after_all wanted fs n ≡ after_all wanted gs n) → (xs ys : List X) →
    AllZip (λ b c. IsTold fs (shown b) (shown c)) xs ys → AllZip (λ b c. IsTold gs (shown b) (shown c)) xs ys
all_told_as shown fs gs same [] [] t = tt
all_told_as shown fs gs same [] (y ∷ ys) t = absurd t
all_told_as shown fs gs same (x ∷ xs) [] t = absurd t
all_told_as shown fs gs same (x ∷ xs) (y ∷ ys) t =
    (record { counted = (t.0).counted ∙ same (shown x).wanted (shown x).counted; wanted = (t.0).wanted; named = (t.0).named }, all_told_as shown fs gs same xs ys t.1)
