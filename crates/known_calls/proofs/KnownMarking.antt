-- Marks: which variables a part of a block reads, and the marks of its parts one after another.
use Rattle.std.proofs.Common.{◌≡◌, ℕ, zero, suc, ◌+◌, ◌-◌, ◌<◌, ◌≤◌, List, [], ◌∷◌, ◌++◌, length, length-append, append_assoc, append-nil, reverse, drop, take, get_or, set, replicate, Bool, true, false, refl, ap, sym, ◌∙◌, subst, arith}
use Rattle.std.proofs.Math.Seq.{drop-append_seam}
use Rattle.std.proofs.lemmas.List.{reverse-append, get_or-reverse, length-reverse, length-drop, length-replicate, set-append_left, set-append_right, drop_all, take_more, take-append-drop}
use Rattle.std.proofs.lemmas.Bool.Decides.{nat_tests}
use Rattle.std.specs.Prelude.{if◌then◌else◌, nat_eq}
use Rattle.std.proofs.Math.Dec.{eqb-suc-suc}
use Rattle.anf_convert.specs.declared.program.Atom.{Atom}
use Rattle.anf_convert.specs.declared.program.Atom.TheVariants.{Var as AVar, Box as ABox, Empty as AEmpty}
use Rattle.closure_lift.specs.Lifted.{Op, ConstOp, AppOp, ConOp, ClosOp, CaseOp, Block, TailAtom, BindAtom, Tail, Bind, BranchBlocks, NoBranch, Branch, Bound, AtomIs, OpIs, tail_of, block_of}
use Rattle.closure_lift.specs.LiftedProgram.{renumber_op, renumber, renumber_branches}
use Rattle.closure_lift.specs.LiftedView.{seen, bounds_of, branches_of}
use Rattle.closure_lift.specs.declared.program.LiftedBranch.{LiftedBranch}
use Rattle.closure_lift.specs.declared.program.LiftedOp.{LiftedOp}
use Rattle.known_calls.specs.KnownPlaces.{Times, Never, Once, More, ◌plus◌, is_read, is_twice, names, some_names, op_reads, block_reads, branches_read}
use Rattle.known_calls.specs.KnownTests.{Kind, Bare, Fielded, is_of}
use Rattle.known_calls.specs.KnownCode.{moves}
use Rattle.known_calls.specs.KnownPushed.{counted, count_of}
use Rattle.known_calls.specs.KnownMarks.{kind_marks, field_marks, branch_marks, block_marks, empty_marks, head_marks, bound_marks, bound_reads, empties_read, heads_read, Begins, also}
use Rattle.trees.proofs.Lists.{next_is}

-- What is read.

plus_assoc : (a b c : Times) → a plus (b plus c) ≡ (a plus b) plus c
plus_assoc Never b c = refl
plus_assoc Once Never c = refl
plus_assoc Once Once Never = refl
plus_assoc Once Once Once = refl
plus_assoc Once Once More = refl
plus_assoc Once More c = refl
plus_assoc More b c = refl

plus_never : (a : Times) → a plus Never ≡ a
plus_never Never = refl
plus_never Once = refl
plus_never More = refl

plus_swap : (a b c : Times) → a plus (b plus c) ≡ b plus (a plus c)
plus_swap Never b c = refl
plus_swap Once Never c = refl
plus_swap Once Once c = refl
plus_swap Once More c = refl
plus_swap More Never c = refl
plus_swap More Once Never = refl
plus_swap More Once Once = refl
plus_swap More Once More = refl
plus_swap More More c = refl

-- for one reason, and then for another
pub also_both : (f g : ℕ → Times) (rs : List Times) → also g (also f rs) ≡ also (λ i. g i plus f i) rs
also_both f g [] = refl
also_both f g (r ∷ rs) = ap (λ (z : Times). z ∷ also (λ i. g (suc i)) (also (λ i. f (suc i)) rs)) (plus_assoc (g 0) (f 0) r) ∙ ap (λ (zs : List Times). ((g 0 plus f 0) plus r) ∷ zs) (also_both (λ i. f (suc i)) (λ i. g (suc i)) rs)

pub also_same : (f g : ℕ → Times) (rs : List Times) → ((i : ℕ) → f i ≡ g i) → also f rs ≡ also g rs
also_same f g [] h = refl
also_same f g (r ∷ rs) h = ap (λ (z : Times). (z plus r) ∷ also (λ i. f (suc i)) rs) (h 0) ∙ ap (λ (zs : List Times). (g 0 plus r) ∷ zs) (also_same (λ i. f (suc i)) (λ i. g (suc i)) rs (λ i. h (suc i)))

pub also_none : (f : ℕ → Times) (rs : List Times) → ((i : ℕ) → f i ≡ Never) → also f rs ≡ rs
also_none f [] h = refl
also_none f (r ∷ rs) h = ap (λ (z : Times). (z plus r) ∷ also (λ i. f (suc i)) rs) (h 0) ∙ ap (λ (zs : List Times). r ∷ zs) (also_none (λ i. f (suc i)) rs (λ i. h (suc i)))

-- the variables past n more ones, of which none was read before
pub also_past : (f : ℕ → Times) (n : ℕ) (rs : List Times) → drop n (also f (replicate n Never ++ rs)) ≡ also (λ i. f (n + i)) rs
also_past f zero rs = also_same f (λ i. f (0 + i)) rs (λ i. let e : i ≡ 0 + i = omega arith in ap f e)
also_past f (suc n) rs = also_past (λ i. f (suc i)) n rs ∙ also_same (λ i. f (suc (n + i))) (λ i. f (suc n + i)) rs (λ i. let e : suc (n + i) ≡ suc n + i = omega arith in ap f e)

pub also_first : (f : ℕ → Times) (n : ℕ) (rs : List Times) → get_or (also f (replicate (suc n) Never ++ rs)) 0 More ≡ f 0
also_first f n rs = plus_never (f 0)

pub also_length : (f : ℕ → Times) (rs : List Times) → length (also f rs) ≡ length rs
also_length f [] = refl
also_length f (r ∷ rs) = ap suc (also_length (λ i. f (suc i)) rs)

not_first : (i : ℕ) → nat_eq (suc i) zero ≡ false
not_first i = grind (arith, nat_tests)

not_later : (j : ℕ) → nat_eq zero (suc j) ≡ false
not_later j = grind (arith, nat_tests)

-- one variable is named
abbrev one : ℕ → ℕ → Times
one j i = names i (AVar j)

first_once : (i : ℕ) → one zero (suc i) ≡ Never
first_once i = ap (λ (b : Bool). if b then Once else Never) (not_first i)

later_never : (j : ℕ) → one (suc j) zero ≡ Never
later_never j = ap (λ (b : Bool). if b then Once else Never) (not_later j)

later_once : (i j : ℕ) → one (suc j) (suc i) ≡ one j i
later_once i j = ap (λ (b : Bool). if b then Once else Never) (eqb-suc-suc i j)

one_further : (r : Times) (rs : List Times) (j : ℕ) → also (one (suc j)) (r ∷ rs) ≡ r ∷ also (one j) rs
one_further r rs j = ap (λ (z : Times). (z plus r) ∷ also (λ i. one (suc j) (suc i)) rs) (later_never j) ∙ ap (λ (zs : List Times). r ∷ zs) (also_same (λ i. one (suc j) (suc i)) (one j) rs (λ i. later_once i j))

pub set_noted : (rs : List Times) (j : ℕ) (r : Times) → j < length rs → r ≡ get_or rs j r → set rs j (Once plus r) ≡ also (one j) rs
set_noted [] j r lt is = absurd (omega arith)
set_noted (x ∷ rs) zero r lt is = ap (λ (z : Times). (Once plus z) ∷ rs) is ∙ ap (λ (zs : List Times). (Once plus x) ∷ zs) (sym (also_none (λ i. one zero (suc i)) rs first_once))
set_noted (x ∷ rs) (suc j) r lt is = ap (λ (zs : List Times). x ∷ zs) (set_noted rs j r (omega arith) is) ∙ sym (one_further x rs j)

pub beyond_noted : (rs : List Times) (j : ℕ) → length rs ≤ j → also (one j) rs ≡ rs
beyond_noted [] j le = refl
beyond_noted (r ∷ rs) zero le = absurd (omega arith)
beyond_noted (r ∷ rs) (suc j) le = one_further r rs j ∙ ap (λ (zs : List Times). r ∷ zs) (beyond_noted rs j (omega arith))

pub not_named : (a : Atom) → ((x : ℕ) → a ≡ AVar x → ⊥) → (i : ℕ) → names i a ≡ Never
not_named (AVar x) h i = absurd (h x refl)
not_named ABox h i = refl
not_named (AEmpty c) h i = refl

-- a note of a list that stands with its first item last
pub reverse_set : (xs : List Times) (i : ℕ) (v : Times) → i < length xs → reverse (set xs (length xs - 1 - i) v) ≡ set (reverse xs) i v
reverse_set [] i v lt = absurd (omega arith)
reverse_set (x ∷ xs) i v lt = here (length xs - i) refl (reverse_set xs i v)
  where
    here : (k : ℕ) → length xs - i ≡ k → (i < length xs → reverse (set xs (length xs - 1 - i) v) ≡ set (reverse xs) i v) → reverse (set (x ∷ xs) (length (x ∷ xs) - 1 - i) v) ≡ set (reverse (x ∷ xs)) i v
    here zero e h =
        let at : length (x ∷ xs) - 1 - i ≡ 0 = omega arith in
        let on : i - length xs ≡ 0 = omega arith in
        ap (λ (m : ℕ). reverse (set (x ∷ xs) m v)) at ∙ reverse-append (v ∷ []) xs
        ∙ sym (ap (λ (zs : List Times). set zs i v) (reverse-append (x ∷ []) xs) ∙ set-append_right (reverse xs) (x ∷ []) (length xs) i v (length-reverse xs) (omega arith) ∙ ap (λ (m : ℕ). reverse xs ++ set (x ∷ []) m v) on)
    here (suc k) e h =
        let at : length (x ∷ xs) - 1 - i ≡ suc (length xs - 1 - i) = omega arith in
        ap (λ (m : ℕ). reverse (set (x ∷ xs) m v)) at ∙ reverse-append (x ∷ []) (set xs (length xs - 1 - i) v) ∙ ap (λ (zs : List Times). zs ++ x ∷ []) (h (omega arith))
        ∙ sym (ap (λ (zs : List Times). set zs i v) (reverse-append (x ∷ []) xs) ∙ set-append_left (reverse xs) (x ∷ []) i v (omega (arith, length-reverse xs)))

pub noted_at : (xs : List Times) (i : ℕ) (r : Times) → i < length xs → r ≡ get_or xs (length xs - 1 - i) r → reverse (set xs (length xs - 1 - i) (Once plus r)) ≡ also (one i) (reverse xs)
noted_at xs i r lt is = reverse_set xs i (Once plus r) lt ∙ set_noted (reverse xs) i r (omega (arith, length-reverse xs)) (is ∙ sym (get_or-reverse xs i r lt))

-- What the parts of a block read.

pub block_reads_step : (i : ℕ) (x : Bound) (xs : List Bound) (t : Block) → block_reads i (block_of (x ∷ xs) t) ≡ bound_reads i x plus block_reads (suc i) (block_of xs t)
block_reads_step i (AtomIs a) xs t = refl
block_reads_step i (OpIs p) xs t = refl

pub block_reads_end : (i : ℕ) (x : Bound) → block_reads i (tail_of x) ≡ bound_reads i x
block_reads_end i (AtomIs a) = refl
block_reads_end i (OpIs p) = refl

-- a match's branches with binders, and those without
pub branches_both : (i : ℕ) (bs : BranchBlocks) → empties_read i bs plus heads_read i bs ≡ branches_read i bs
branches_both i NoBranch = refl
branches_both i (Branch zero t bs) =
    let e : i ≡ 0 + i = omega arith in
    sym (plus_assoc (block_reads i t) (empties_read i bs) (heads_read i bs)) ∙ ap (λ (z : Times). block_reads i t plus z) (branches_both i bs) ∙ ap (λ (k : ℕ). block_reads k t plus branches_read i bs) e
branches_both i (Branch (suc n) t bs) = plus_swap (empties_read i bs) (block_reads (suc n + i) t) (heads_read i bs) ∙ ap (λ (z : Times). block_reads (suc n + i) t plus z) (branches_both i bs)

pub heads_step : (i n : ℕ) (t : Block) (bs : BranchBlocks) → heads_read i (Branch n t NoBranch) plus heads_read i bs ≡ heads_read i (Branch n t bs)
heads_step i zero t bs = refl
heads_step i (suc n) t bs = ap (λ (z : Times). z plus heads_read i bs) (plus_never (block_reads (suc n + i) t))

pub empties_step : (i n : ℕ) (t : Block) (bs : BranchBlocks) → empties_read i (Branch n t NoBranch) plus empties_read i bs ≡ empties_read i (Branch n t bs)
empties_step i zero t bs = ap (λ (z : Times). z plus empties_read i bs) (plus_never (block_reads i t))
empties_step i (suc n) t bs = refl

-- Their marks.

pub block_marks_step : (x : Bound) (xs : List Bound) (t : Block) → block_marks (block_of (x ∷ xs) t) ≡ is_read (block_reads 0 (block_of xs t)) ∷ (bound_marks x ++ block_marks (block_of xs t))
block_marks_step (AtomIs a) xs t = refl
block_marks_step (OpIs p) xs t = refl

pub block_marks_end : (x : Bound) → block_marks (tail_of x) ≡ bound_marks x
block_marks_end (AtomIs a) = refl
block_marks_end (OpIs p) = refl

pub head_marks_step : (n : ℕ) (t : Block) (bs : BranchBlocks) → head_marks (Branch n t bs) ≡ head_marks (Branch n t NoBranch) ++ head_marks bs
head_marks_step zero t bs = refl
head_marks_step (suc n) t bs = sym (append_assoc (branch_marks (suc n) t) [] (head_marks bs))

pub empty_marks_step : (n : ℕ) (t : Block) (bs : BranchBlocks) → empty_marks (Branch n t bs) ≡ empty_marks (Branch n t NoBranch) ++ empty_marks bs
empty_marks_step zero t bs = sym (append_assoc (block_marks t) [] (empty_marks bs))
empty_marks_step (suc n) t bs = refl

pub fielded_marks : (n : ℕ) (t : Block) → 0 < n → head_marks (Branch n t NoBranch) ≡ branch_marks n t
fielded_marks zero t e = absurd (omega arith)
fielded_marks (suc n) t e = append-nil (branch_marks (suc n) t)

-- The marks of the branches of a kind.

pub kind_marks_step : (k : Kind) (n : ℕ) (t : Block) (bs : BranchBlocks) → kind_marks k (Branch n t bs) ≡ kind_marks k (Branch n t NoBranch) ++ kind_marks k bs
kind_marks_step Bare n t bs = empty_marks_step n t bs
kind_marks_step Fielded n t bs = head_marks_step n t bs

-- one of the kind, and one of the other
pub kind_branch_marks : (k : Kind) (n : ℕ) (t : Block) → is_of k n ≡ true → kind_marks k (Branch n t NoBranch) ≡ branch_marks n t
kind_branch_marks Bare zero t e = append-nil (block_marks t)
kind_branch_marks Bare (suc n) t e = cc
kind_branch_marks Fielded zero t e = cc
kind_branch_marks Fielded (suc n) t e = append-nil (branch_marks (suc n) t)

pub other_branch_marks : (k : Kind) (n : ℕ) (t : Block) → is_of k n ≡ false → kind_marks k (Branch n t NoBranch) ≡ []
other_branch_marks Bare zero t e = cc
other_branch_marks Bare (suc n) t e = refl
other_branch_marks Fielded zero t e = refl
other_branch_marks Fielded (suc n) t e = cc

-- those of a part and of what is behind it
pub kind_marks_halves : (k : Kind) (i : ℕ) (bs : List LiftedBranch) → kind_marks k (branches_of bs) ≡ kind_marks k (branches_of (take i bs)) ++ kind_marks k (branches_of (drop i bs))
kind_marks_halves k zero bs = ap (λ (ms : List Bool). ms ++ kind_marks k (branches_of bs)) (sym (no_marks k))
  where
    no_marks : (k : Kind) → kind_marks k NoBranch ≡ []
    no_marks Bare = refl
    no_marks Fielded = refl
kind_marks_halves Bare (suc i) [] = refl
kind_marks_halves Fielded (suc i) [] = refl
kind_marks_halves k (suc i) (b ∷ bs) =
    let front = branches_of (take i bs) in
    let back = branches_of (drop i bs) in
    kind_marks_step k b.binders b.body (branches_of bs) ∙ ap (λ (ms : List Bool). kind_marks k (Branch b.binders b.body NoBranch) ++ ms) (kind_marks_halves k i bs)
    ∙ sym (append_assoc (kind_marks k (Branch b.binders b.body NoBranch)) (kind_marks k front) (kind_marks k back)) ∙ ap (λ (ms : List Bool). ms ++ kind_marks k back) (sym (kind_marks_step k b.binders b.body front))

-- there are none without such branches
pub no_kind_marks : (k : Kind) (bs : BranchBlocks) → count_of k bs ≡ 0 → kind_marks k bs ≡ []
no_kind_marks Bare NoBranch e = refl
no_kind_marks Fielded NoBranch e = refl
no_kind_marks k (Branch n t bs) e = kind_marks_step k n t bs ∙ one (is_of k n) refl e (no_kind_marks k bs)
  where
    one : (b : Bool) → is_of k n ≡ b → counted b (count_of k bs) ≡ 0 → (count_of k bs ≡ 0 → kind_marks k bs ≡ []) → kind_marks k (Branch n t NoBranch) ++ kind_marks k bs ≡ []
    one true is z h = absurd (omega (arith, z))
    one false is z h = ap (λ (ms : List Bool). ms ++ kind_marks k bs) (other_branch_marks k n t is) ∙ h z

-- all are those of the branches without binders where no other has any
pub bare_left : (bs : BranchBlocks) (all new : List Bool) → count_of Fielded bs ≡ 0 → new ≡ drop (length (empty_marks bs)) all → new ≡ drop (length (empty_marks bs ++ head_marks bs)) all
bare_left bs all new none e = e ∙ ap (λ (ms : List Bool). drop (length ms) all) (sym (ap (λ (ms : List Bool). empty_marks bs ++ ms) (no_kind_marks Fielded bs none) ∙ append-nil (empty_marks bs)))

-- Numbers of constants play no part.
mutual
  pub op_reads_renumbered : (f : ℕ → ℕ) (i : ℕ) (p : Op) → op_reads i (renumber_op f p) ≡ op_reads i p
  op_reads_renumbered f i (ConstOp x) = refl
  op_reads_renumbered f i (AppOp g a) = refl
  op_reads_renumbered f i (ConOp c as') = refl
  op_reads_renumbered f i (ClosOp g as') = refl
  op_reads_renumbered f i (CaseOp a bs) = ap (λ (z : Times). names i a plus z) (branches_reads_renumbered f i bs)

  pub reads_renumbered : (f : ℕ → ℕ) (i : ℕ) (t : Block) → block_reads i (renumber f t) ≡ block_reads i t
  reads_renumbered f i (TailAtom a) = refl
  reads_renumbered f i (BindAtom a t) = ap (λ (z : Times). names i a plus z) (reads_renumbered f (suc i) t)
  reads_renumbered f i (Tail p) = op_reads_renumbered f i p
  reads_renumbered f i (Bind p t) = ap (λ (z : Times). z plus block_reads (suc i) (renumber f t)) (op_reads_renumbered f i p) ∙ ap (λ (z : Times). op_reads i p plus z) (reads_renumbered f (suc i) t)

  branches_reads_renumbered : (f : ℕ → ℕ) (i : ℕ) (bs : BranchBlocks) → branches_read i (renumber_branches f bs) ≡ branches_read i bs
  branches_reads_renumbered f i NoBranch = refl
  branches_reads_renumbered f i (Branch n t bs) =
      ap (λ (z : Times). z plus branches_read i (renumber_branches f bs)) (reads_renumbered f (n + i) t) ∙ ap (λ (z : Times). block_reads (n + i) t plus z) (branches_reads_renumbered f i bs)

-- The first marks of some.

pub begins : (ms more all : List Bool) → all ≡ ms ++ more → Begins ms all
begins ms more all e = e ∙ ap (λ (zs : List Bool). ms ++ zs) (sym (drop-append_seam ms more) ∙ ap (λ (zs : List Bool). drop (length ms) zs) (sym e))

-- of two lists of marks
pub begins_first : (ms ns all : List Bool) → Begins (ms ++ ns) all → Begins ms all
begins_first ms ns all h = begins ms (ns ++ drop (length (ms ++ ns)) all) all (h ∙ append_assoc ms ns (drop (length (ms ++ ns)) all))

pub begins_then : (ms ns all : List Bool) → Begins (ms ++ ns) all → drop (length ms) all ≡ ns ++ drop (length (ms ++ ns)) all
begins_then ms ns all h = ap (λ (zs : List Bool). drop (length ms) zs) (h ∙ append_assoc ms ns (drop (length (ms ++ ns)) all)) ∙ drop-append_seam ms (ns ++ drop (length (ms ++ ns)) all)

pub begins_second : (ms ns all : List Bool) → Begins (ms ++ ns) all → Begins ns (drop (length ms) all)
begins_second ms ns all h = begins ns (drop (length (ms ++ ns)) all) (drop (length ms) all) (begins_then ms ns all h)

pub drops : (ms ns all : List Bool) → Begins (ms ++ ns) all → drop (length ns) (drop (length ms) all) ≡ drop (length (ms ++ ns)) all
drops ms ns all h = ap (λ (zs : List Bool). drop (length ns) zs) (begins_then ms ns all h) ∙ drop-append_seam ns (drop (length (ms ++ ns)) all)

-- of two parts, of which the first is taken, and then the second
module _ (ms xs ys all : List Bool) (parts : ms ≡ xs ++ ys) (h : Begins ms all) where
  in_parts : Begins (xs ++ ys) all
  in_parts = subst (λ (zs : List Bool). Begins zs all) parts h

  pub first_part : Begins xs all
  first_part = begins_first xs ys all in_parts

  module _ (new : List Bool) (taken : new ≡ drop (length xs) all) where
    pub second_part : Begins ys new
    second_part = subst (λ (zs : List Bool). Begins ys zs) (sym taken) (begins_second xs ys all in_parts)

    pub both_parts : (last : List Bool) → last ≡ drop (length ys) new → last ≡ drop (length ms) all
    both_parts last e = e ∙ ap (λ (zs : List Bool). drop (length ys) zs) taken ∙ drops xs ys all in_parts ∙ ap (λ (zs : List Bool). drop (length zs) all) (sym parts)

-- of a mark and others
pub first_mark : (m : Bool) (ms all : List Bool) → Begins (m ∷ ms) all → get_or all 0 true ≡ m
first_mark m ms all h = ap (λ (zs : List Bool). get_or zs 0 true) h

pub next_marks : (m : Bool) (ms all : List Bool) → Begins (m ∷ ms) all → Begins ms (drop 1 all)
next_marks m ms all h = begins_second (m ∷ []) ms all h

pub drop_next : (m : Bool) (ms all : List Bool) → Begins (m ∷ ms) all → drop (length ms) (drop 1 all) ≡ drop (length (m ∷ ms)) all
drop_next m ms all h = drops (m ∷ []) ms all h

-- What a walk has noted.

pub reverse_take : (xs : List Times) (k : ℕ) → k ≤ length xs → reverse (take k xs) ≡ drop (length xs - k) (reverse xs)
reverse_take xs k le =
    let long : length xs - k ≡ length (reverse (drop k xs)) = sym (length-drop k xs) ∙ sym (length-reverse (drop k xs)) in
    sym (ap (λ (n : ℕ). drop n (reverse xs)) long ∙ ap (λ (zs : List Times). drop (length (reverse (drop k xs))) zs) (ap reverse (sym (take-append-drop k xs)) ∙ reverse-append (take k xs) (drop k xs)) ∙ drop-append_seam (reverse (drop k xs)) (reverse (take k xs)))

-- the next of some atoms
pub atoms_more : {a : Atom} (slice : List Atom) (k : ℕ) (old notes new : List Times) → k < length slice → a ≡ get_or slice k a → notes ≡ also (λ i. some_names i (reverse (take k slice))) old → new ≡ also (λ i. names i a) notes →
    new ≡ also (λ i. some_names i (reverse (take (k + 1) slice))) old
atoms_more {a} slice k old notes new lt is inv e =
    let next : reverse (take (k + 1) slice) ≡ a ∷ reverse (take k slice) =
    ap reverse (take_more slice k a lt ∙ ap (λ (z : Atom). take k slice ++ z ∷ []) (sym is)) ∙ reverse-append (take k slice) (a ∷ []) in
    e ∙ ap (λ (zs : List Times). also (λ i. names i a) zs) inv ∙ also_both (λ i. some_names i (reverse (take k slice))) (λ i. names i a) old
    ∙ also_same (λ i. names i a plus some_names i (reverse (take k slice))) (λ i. some_names i (reverse (take (k + 1) slice))) old (λ i. ap (λ (zs : List Atom). some_names i zs) (sym next))

-- a block without its first j bindings
abbrev pub past : ℕ → Block → Block
past zero t = t
past (suc j) (TailAtom a) = TailAtom a
past (suc j) (BindAtom a t) = past j t
past (suc j) (Tail p) = Tail p
past (suc j) (Bind p t) = past j t

past_end : (j : ℕ) (x : Bound) → past j (tail_of x) ≡ tail_of x
past_end zero x = refl
past_end (suc j) (AtomIs a) = refl
past_end (suc j) (OpIs p) = refl

past_step : (j : ℕ) (x : Bound) (xs : List Bound) (t : Block) → past (suc j) (block_of (x ∷ xs) t) ≡ past j (block_of xs t)
past_step j (AtomIs a) xs t = refl
past_step j (OpIs p) xs t = refl

past_is : (ops : List LiftedOp) (x : Bound) (j : ℕ) → past j (block_of (bounds_of ops) (tail_of x)) ≡ block_of (bounds_of (drop j ops)) (tail_of x)
past_is [] x j = past_end j x ∙ ap (λ (os : List LiftedOp). block_of (bounds_of os) (tail_of x)) (sym (drop_all j [] (omega arith)))
past_is (o ∷ ops) x zero = refl
past_is (o ∷ ops) x (suc j) = past_step j (seen o) (bounds_of ops) (tail_of x) ∙ past_is ops x j

-- a block's bindings from the last on
module _ (ops : List LiftedOp) (x : Bound) (b : Block) (n : ℕ) (whole : block_of (bounds_of ops) (tail_of x) ≡ b) (size : n ≡ length ops) where
  past_all : past (n - 0) b ≡ tail_of x
  past_all = ap (λ (t : Block). past (n - 0) t) (sym whole) ∙ past_is ops x (n - 0) ∙ ap (λ (os : List LiftedOp). block_of (bounds_of os) (tail_of x)) (drop_all (n - 0) ops (omega (arith, size)))

  pub noted_init : (old mid new : List Times) → mid ≡ replicate n Never ++ old → new ≡ also (λ i. bound_reads i x) mid → new ≡ also (λ i. block_reads i (past (n - 0) b)) (replicate (n - 0) Never ++ old)
  noted_init old mid new em en =
      let m : n ≡ n - 0 = omega arith in
      en ∙ ap (λ (zs : List Times). also (λ i. bound_reads i x) zs) (em ∙ ap (λ (k : ℕ). replicate k Never ++ old) m)
      ∙ also_same (λ i. bound_reads i x) (λ i. block_reads i (past (n - 0) b)) (replicate (n - 0) Never ++ old) (λ i. sym (block_reads_end i x) ∙ ap (λ (t : Block). block_reads i t) (sym past_all))

  pub marked_init : (old new : List Bool) → new ≡ bound_marks x ++ old → new ≡ block_marks (past (n - 0) b) ++ old
  marked_init old new e = e ∙ ap (λ (ms : List Bool). ms ++ old) (sym (ap block_marks past_all ∙ block_marks_end x))

  module _ (k : ℕ) (o : LiftedOp) (lt : k < n) (is : o ≡ get_or ops (n - 1 - k) o) where
    abbrev behind : Block
    behind = block_of (bounds_of (drop (n - k) ops)) (tail_of x)

    past_now : past (n - k) b ≡ behind
    past_now = ap (λ (t : Block). past (n - k) t) (sym whole) ∙ past_is ops x (n - k)

    past_next : past (n - (k + 1)) b ≡ block_of (seen o ∷ bounds_of (drop (n - k) ops)) (tail_of x)
    past_next =
        let j : n - 1 - k ≡ n - (k + 1) = omega arith in
        let s : n - (k + 1) + 1 ≡ n - k = omega arith in
        ap (λ (t : Block). past (n - (k + 1)) t) (sym whole) ∙ past_is ops x (n - (k + 1))
        ∙ ap (λ (os : List LiftedOp). block_of (bounds_of os) (tail_of x)) (next_is ops (n - (k + 1)) o (omega (arith, size, lt)) (is ∙ ap (λ (i : ℕ). get_or ops i o) j))
        ∙ ap (λ (i : ℕ). block_of (seen o ∷ bounds_of (drop i ops)) (tail_of x)) s

    pub noted_more : (old notes new : List Times) → notes ≡ also (λ i. block_reads i (past (n - k) b)) (replicate (n - k) Never ++ old) → new ≡ also (λ i. bound_reads i (seen o)) (drop 1 notes) →
        new ≡ also (λ i. block_reads i (past (n - (k + 1)) b)) (replicate (n - (k + 1)) Never ++ old)
    noted_more old notes new inv e =
        let s : n - k ≡ suc (n - (k + 1)) = omega arith in
        let rs = replicate (n - (k + 1)) Never ++ old in
        let one : notes ≡ also (λ i. block_reads i behind) (replicate (suc (n - (k + 1))) Never ++ old) =
        inv ∙ ap (λ (t : Block). also (λ i. block_reads i t) (replicate (n - k) Never ++ old)) past_now ∙ ap (λ (j : ℕ). also (λ i. block_reads i behind) (replicate j Never ++ old)) s in
        e ∙ ap (λ (zs : List Times). also (λ i. bound_reads i (seen o)) (drop 1 zs)) one ∙ also_both (λ i. block_reads (suc i) behind) (λ i. bound_reads i (seen o)) rs
        ∙ also_same (λ i. bound_reads i (seen o) plus block_reads (suc i) behind) (λ i. block_reads i (past (n - (k + 1)) b)) rs
        (λ i. sym (block_reads_step i (seen o) (bounds_of (drop (n - k) ops)) (tail_of x)) ∙ ap (λ (t : Block). block_reads i t) (sym past_next))

    pub marked_more : (old marks new : List Bool) (notes notes0 : List Times) → notes ≡ also (λ i. block_reads i (past (n - k) b)) (replicate (n - k) Never ++ notes0) → marks ≡ block_marks (past (n - k) b) ++ old → new ≡ is_read (get_or notes 0 More) ∷ (bound_marks (seen o) ++ marks) →
        new ≡ block_marks (past (n - (k + 1)) b) ++ old
    marked_more old marks new notes notes0 inv at e =
        let s : n - k ≡ suc (n - (k + 1)) = omega arith in
        let first : get_or notes 0 More ≡ block_reads 0 behind =
        ap (λ (zs : List Times). get_or zs 0 More) (inv ∙ ap (λ (t : Block). also (λ i. block_reads i t) (replicate (n - k) Never ++ notes0)) past_now ∙ ap (λ (j : ℕ). also (λ i. block_reads i behind) (replicate j Never ++ notes0)) s)
        ∙ also_first (λ i. block_reads i behind) (n - (k + 1)) notes0 in
        e ∙ ap (λ (z : Times). is_read z ∷ (bound_marks (seen o) ++ marks)) first ∙ ap (λ (zs : List Bool). is_read (block_reads 0 behind) ∷ (bound_marks (seen o) ++ zs)) (at ∙ ap (λ (t : Block). block_marks t ++ old) past_now)
        ∙ ap (λ (zs : List Bool). is_read (block_reads 0 behind) ∷ zs) (sym (append_assoc (bound_marks (seen o)) (block_marks behind) old))
        ∙ ap (λ (ms : List Bool). ms ++ old) (sym (ap block_marks past_next ∙ block_marks_step (seen o) (bounds_of (drop (n - k) ops)) (tail_of x)))

-- the branches of one kind from the last on
module _ (read : ℕ → BranchBlocks → Times) (marks_of : BranchBlocks → List Bool) (none : (i : ℕ) → read i NoBranch ≡ Never) (no_marks : marks_of NoBranch ≡ [])
    (step : (i n : ℕ) (t : Block) (bs : BranchBlocks) → read i (Branch n t NoBranch) plus read i bs ≡ read i (Branch n t bs)) (marks_step : (n : ℕ) (t : Block) (bs : BranchBlocks) → marks_of (Branch n t bs) ≡ marks_of (Branch n t NoBranch) ++ marks_of bs)
    (bs : List LiftedBranch) (n : ℕ) (size : n ≡ length bs) where
  nothing_left : branches_of (drop (n - 0) bs) ≡ NoBranch
  nothing_left = ap branches_of (drop_all (n - 0) bs (omega (arith, size)))

  pub arms_noted_init : (old : List Times) → old ≡ also (λ i. read i (branches_of (drop (n - 0) bs))) old
  arms_noted_init old = sym (also_none (λ i. read i (branches_of (drop (n - 0) bs))) old (λ i. ap (λ (z : BranchBlocks). read i z) nothing_left ∙ none i))

  pub arms_marked_init : (old : List Bool) → old ≡ marks_of (branches_of (drop (n - 0) bs)) ++ old
  arms_marked_init old = ap (λ (ms : List Bool). ms ++ old) (sym (ap marks_of nothing_left ∙ no_marks))

  module _ (k : ℕ) (b : LiftedBranch) (lt : k < n) (is : b ≡ get_or bs (n - 1 - k) b) where
    next_branch : branches_of (drop (n - (k + 1)) bs) ≡ Branch b.binders b.body (branches_of (drop (n - k) bs))
    next_branch =
        let j : n - 1 - k ≡ n - (k + 1) = omega arith in
        let s : n - (k + 1) + 1 ≡ n - k = omega arith in
        ap branches_of (next_is bs (n - (k + 1)) b (omega (arith, size, lt)) (is ∙ ap (λ (i : ℕ). get_or bs i b) j)) ∙ ap (λ (i : ℕ). Branch b.binders b.body (branches_of (drop i bs))) s

    pub arms_noted_more : (old notes new : List Times) → notes ≡ also (λ i. read i (branches_of (drop (n - k) bs))) old → new ≡ also (λ i. read i (branches_of (b ∷ []))) notes → new ≡ also (λ i. read i (branches_of (drop (n - (k + 1)) bs))) old
    arms_noted_more old notes new inv e =
        e ∙ ap (λ (zs : List Times). also (λ i. read i (branches_of (b ∷ []))) zs) inv ∙ also_both (λ i. read i (branches_of (drop (n - k) bs))) (λ i. read i (branches_of (b ∷ []))) old
        ∙ also_same (λ i. read i (branches_of (b ∷ [])) plus read i (branches_of (drop (n - k) bs))) (λ i. read i (branches_of (drop (n - (k + 1)) bs))) old
        (λ i. step i b.binders b.body (branches_of (drop (n - k) bs)) ∙ ap (λ (z : BranchBlocks). read i z) (sym next_branch))

    pub arms_marked_more : (old marks new : List Bool) → marks ≡ marks_of (branches_of (drop (n - k) bs)) ++ old → new ≡ marks_of (branches_of (b ∷ [])) ++ marks → new ≡ marks_of (branches_of (drop (n - (k + 1)) bs)) ++ old
    arms_marked_more old marks new at e =
        e ∙ ap (λ (zs : List Bool). marks_of (branches_of (b ∷ [])) ++ zs) at ∙ sym (append_assoc (marks_of (branches_of (b ∷ []))) (marks_of (branches_of (drop (n - k) bs))) old)
        ∙ ap (λ (ms : List Bool). ms ++ old) (sym (ap marks_of next_branch ∙ marks_step b.binders b.body (branches_of (drop (n - k) bs))))

-- only a branch of one variable has a mark of its own
pub field_unmarked : (n : ℕ) (r : Times) → (n ≡ 1 → ⊥) → field_marks n r ≡ []
field_unmarked zero r ne = refl
field_unmarked (suc zero) r ne = absurd (ne refl)
field_unmarked (suc (suc n)) r ne = refl

-- the mark of a branch of one variable
pub field_marked : (n : ℕ) (t : Block) (notes before : List Times) (marks old new : List Bool) → 0 < n → notes ≡ also (λ i. block_reads i t) (replicate n Never ++ before) → marks ≡ block_marks t ++ old → new ≡ field_marks n (get_or notes 0 More) ++ marks → new ≡ head_marks (Branch n t NoBranch) ++ old
field_marked zero t notes before marks old new some noted at e = absurd (omega arith)
field_marked (suc n) t notes before marks old new some noted at e =
    let first : get_or notes 0 More ≡ block_reads 0 t = ap (λ (zs : List Times). get_or zs 0 More) noted ∙ also_first (λ i. block_reads i t) n before in
    e ∙ ap (λ (r : Times). field_marks (suc n) r ++ marks) first ∙ ap (λ (zs : List Bool). field_marks (suc n) (block_reads 0 t) ++ zs) at ∙ sym (append_assoc (field_marks (suc n) (block_reads 0 t)) (block_marks t) old)
    ∙ ap (λ (ms : List Bool). ms ++ old) (sym (fielded_marks (suc n) t some))

-- a branch's binders are gone behind it
pub binders_gone : (n : ℕ) (t : Block) (xs0 xs1 xs2 xs3 : List Times) → 0 < n → reverse xs1 ≡ replicate n Never ++ reverse xs0 → reverse xs2 ≡ also (λ i. block_reads i t) (reverse xs1) → xs3 ≡ take (length xs0) xs2 → reverse xs3 ≡ also (λ i. heads_read i (Branch n t NoBranch)) (reverse xs0)
binders_gone zero t xs0 xs1 xs2 xs3 some e1 e2 e3 = absurd (omega arith)
binders_gone (suc n) t xs0 xs1 xs2 xs3 some e1 e2 e3 =
    let all : reverse xs2 ≡ also (λ i. block_reads i t) (replicate (suc n) Never ++ reverse xs0) = e2 ∙ ap (λ (zs : List Times). also (λ i. block_reads i t) zs) e1 in
    let long : length xs2 ≡ suc n + length xs0 =
    sym (length-reverse xs2) ∙ ap length all ∙ also_length (λ i. block_reads i t) (replicate (suc n) Never ++ reverse xs0) ∙ length-append (replicate (suc n) Never) (reverse xs0) ∙ ap (λ (k : ℕ). k + length (reverse xs0)) (length-replicate (suc n) Never) ∙ ap (λ (k : ℕ). suc n + k) (length-reverse xs0) in
    let gone : length xs2 - length xs0 ≡ suc n = omega (arith, long) in
    ap reverse e3 ∙ reverse_take xs2 (length xs0) (omega (arith, long)) ∙ ap (λ (k : ℕ). drop k (reverse xs2)) gone ∙ ap (λ (zs : List Times). drop (suc n) zs) all ∙ also_past (λ i. block_reads i t) (suc n) (reverse xs0)
    ∙ also_same (λ i. block_reads (suc n + i) t) (λ i. heads_read i (Branch (suc n) t NoBranch)) (reverse xs0) (λ i. sym (plus_never (block_reads (suc n + i) t)))

-- the walk has come to the front of a block
pub noted_end : (b : Block) (n k : ℕ) → n ≤ k → (old new : List Times) → new ≡ also (λ i. block_reads i (past (n - k) b)) (replicate (n - k) Never ++ old) → new ≡ also (λ i. block_reads i b) old
noted_end b n k le old new e = let z : n - k ≡ 0 = omega arith in e ∙ ap (λ (j : ℕ). also (λ i. block_reads i (past j b)) (replicate j Never ++ old)) z

pub marked_end : (b : Block) (n k : ℕ) → n ≤ k → (old new : List Bool) → new ≡ block_marks (past (n - k) b) ++ old → new ≡ block_marks b ++ old
marked_end b n k le old new e = let z : n - k ≡ 0 = omega arith in e ∙ ap (λ (j : ℕ). block_marks (past j b) ++ old) z

-- a branch of the other kind
pub no_heads : (i n : ℕ) (t : Block) → n ≡ 0 → heads_read i (Branch n t NoBranch) ≡ Never
no_heads i zero t e = refl
no_heads i (suc n) t e = absurd (omega arith)

pub no_empties : (i n : ℕ) (t : Block) → 0 < n → empties_read i (Branch n t NoBranch) ≡ Never
no_empties i zero t e = absurd (omega arith)
no_empties i (suc n) t e = refl

-- the branches of both kinds
pub branches_noted : (bs : BranchBlocks) (xs ys : List LiftedBranch) (old mid new : List Times) → branches_of xs ≡ bs → branches_of ys ≡ bs → mid ≡ also (λ i. heads_read i (branches_of xs)) old → new ≡ also (λ i. empties_read i (branches_of ys)) mid → new ≡ also (λ i. branches_read i bs) old
branches_noted bs xs ys old mid new ex ey em en =
    en ∙ ap (λ (z : BranchBlocks). also (λ i. empties_read i z) mid) ey ∙ ap (λ (zs : List Times). also (λ i. empties_read i bs) zs) (em ∙ ap (λ (z : BranchBlocks). also (λ i. heads_read i z) old) ex)
    ∙ also_both (λ i. heads_read i bs) (λ i. empties_read i bs) old ∙ also_same (λ i. empties_read i bs plus heads_read i bs) (λ i. branches_read i bs) old (λ i. branches_both i bs)

-- The first marks where the code of a block has come to a binding.

pub end_marks : (items : List LiftedOp) (i : ℕ) (x : Bound) → length items ≤ i → block_marks (block_of (bounds_of (drop i items)) (tail_of x)) ≡ bound_marks x
end_marks items i x le = ap (λ (os : List LiftedOp). block_marks (block_of (bounds_of os) (tail_of x))) (drop_all i items le) ∙ block_marks_end x

module _ (items : List LiftedOp) (i : ℕ) (o : LiftedOp) (t : Block) (lt : i < length items) (is : o ≡ get_or items i o) (all : List Bool) (h : Begins (block_marks (block_of (bounds_of (drop i items)) t)) all) where
  abbrev rest : Block
  rest = block_of (bounds_of (drop (i + 1) items)) t

  marks_now : block_marks (block_of (bounds_of (drop i items)) t) ≡ is_read (block_reads 0 rest) ∷ (bound_marks (seen o) ++ block_marks rest)
  marks_now = ap (λ (os : List LiftedOp). block_marks (block_of (bounds_of os) t)) (next_is items i o lt is) ∙ block_marks_step (seen o) (bounds_of (drop (i + 1) items)) t

  begin_now : Begins (is_read (block_reads 0 rest) ∷ (bound_marks (seen o) ++ block_marks rest)) all
  begin_now = subst (λ ms. Begins ms all) marks_now h

  pub mark_now : get_or all 0 true ≡ is_read (block_reads 0 rest)
  mark_now = first_mark (is_read (block_reads 0 rest)) (bound_marks (seen o) ++ block_marks rest) all begin_now

  pub begin_op : Begins (bound_marks (seen o)) (drop 1 all)
  begin_op = begins_first (bound_marks (seen o)) (block_marks rest) (drop 1 all) (next_marks (is_read (block_reads 0 rest)) (bound_marks (seen o) ++ block_marks rest) all begin_now)

  pub begin_behind : (new : List Bool) → new ≡ drop (length (bound_marks (seen o))) (drop 1 all) → Begins (block_marks rest) new
  begin_behind new e = subst (λ ms. Begins (block_marks rest) ms) (sym e) (begins_second (bound_marks (seen o)) (block_marks rest) (drop 1 all) (next_marks (is_read (block_reads 0 rest)) (bound_marks (seen o) ++ block_marks rest) all begin_now))

  pub left_behind : (new : List Bool) → new ≡ drop (length (bound_marks (seen o))) (drop 1 all) → drop (length (block_marks rest)) new ≡ drop (length (block_marks (block_of (bounds_of (drop i items)) t))) all
  left_behind new e =
      ap (λ (ms : List Bool). drop (length (block_marks rest)) ms) e ∙ drops (bound_marks (seen o)) (block_marks rest) (drop 1 all) (next_marks (is_read (block_reads 0 rest)) (bound_marks (seen o) ++ block_marks rest) all begin_now)
      ∙ drop_next (is_read (block_reads 0 rest)) (bound_marks (seen o) ++ block_marks rest) all begin_now ∙ ap (λ (ms : List Bool). drop (length ms) all) (sym marks_now)

-- to a branch's own
pub field_taken : (n : ℕ) (t : Block) (all new : List Bool) → n ≡ 1 → Begins (branch_marks n t) all → new ≡ drop 1 all → (get_or all 0 true ≡ moves n t) × Begins (block_marks t) new × (drop (length (block_marks t)) new ≡ drop (length (branch_marks n t)) all)
field_taken zero t all new e h is = absurd (omega arith)
field_taken (suc zero) t all new e h is =
    let m = is_twice (block_reads 0 t) in
    (first_mark m (block_marks t) all h, subst (λ ms. Begins (block_marks t) ms) (sym is) (next_marks m (block_marks t) all h), ap (λ (ms : List Bool). drop (length (block_marks t)) ms) is ∙ drop_next m (block_marks t) all h)
field_taken (suc (suc n)) t all new e h is = absurd (omega arith)

pub field_passed : (n : ℕ) (t : Block) → (n ≡ 1 → ⊥) → (false ≡ moves n t) × (branch_marks n t ≡ block_marks t)
field_passed zero t ne = (refl, refl)
field_passed (suc zero) t ne = absurd (ne refl)
field_passed (suc (suc n)) t ne = (refl, refl)

-- and to a branch of one kind
module _ (marks_of : BranchBlocks → List Bool) (marks_step : (n : ℕ) (t : Block) (bs : BranchBlocks) → marks_of (Branch n t bs) ≡ marks_of (Branch n t NoBranch) ++ marks_of bs)
    (bs : List LiftedBranch) (c : ℕ) (b : LiftedBranch) (lt : c < length bs) (is : b ≡ get_or bs c b) (all : List Bool) (h : Begins (marks_of (branches_of (drop c bs))) all) where
  arm_marks : marks_of (branches_of (drop c bs)) ≡ marks_of (branches_of (b ∷ [])) ++ marks_of (branches_of (drop (c + 1) bs))
  arm_marks = ap (λ (xs : List LiftedBranch). marks_of (branches_of xs)) (next_is bs c b lt is) ∙ marks_step b.binders b.body (branches_of (drop (c + 1) bs))

  begin_arms : Begins (marks_of (branches_of (b ∷ [])) ++ marks_of (branches_of (drop (c + 1) bs))) all
  begin_arms = subst (λ ms. Begins ms all) arm_marks h

  pub begin_arm : Begins (marks_of (branches_of (b ∷ []))) all
  begin_arm = begins_first (marks_of (branches_of (b ∷ []))) (marks_of (branches_of (drop (c + 1) bs))) all begin_arms

  pub begin_more : (new : List Bool) → new ≡ drop (length (marks_of (branches_of (b ∷ [])))) all → Begins (marks_of (branches_of (drop (c + 1) bs))) new
  begin_more new e = subst (λ ms. Begins (marks_of (branches_of (drop (c + 1) bs))) ms) (sym e) (begins_second (marks_of (branches_of (b ∷ []))) (marks_of (branches_of (drop (c + 1) bs))) all begin_arms)

  pub left_more : (new : List Bool) → new ≡ drop (length (marks_of (branches_of (b ∷ [])))) all → drop (length (marks_of (branches_of (drop (c + 1) bs)))) new ≡ drop (length (marks_of (branches_of (drop c bs)))) all
  left_more new e =
      ap (λ (ms : List Bool). drop (length (marks_of (branches_of (drop (c + 1) bs)))) ms) e ∙ drops (marks_of (branches_of (b ∷ []))) (marks_of (branches_of (drop (c + 1) bs))) all begin_arms ∙ ap (λ (ms : List Bool). drop (length ms) all) (sym arm_marks)

  pub left_end : (new : List Bool) → marks_of (branches_of (drop (c + 1) bs)) ≡ [] → new ≡ drop (length (marks_of (branches_of (b ∷ [])))) all → new ≡ drop (length (marks_of (branches_of (drop c bs)))) all
  left_end new none e = sym (ap (λ (ms : List Bool). drop (length ms) new) none) ∙ left_more new e
