-- Steps of the functions that push the tests of a match.
use Rattle.std.proofs.Common.{◌≡◌, ℕ, zero, suc, ◌+◌, ◌*◌, ◌/◌, ◌<◌, ◌≤◌, List, [], ◌∷◌, ◌++◌, length, take, drop, get_or, Bool, true, false, refl, ap, sym, ◌∙◌, arith}
use Rattle.std.proofs.Math.Seq.{take-append_seam, drop-append_seam}
use Rattle.std.proofs.lemmas.List.{drop_all, take_more}
use Rattle.std.proofs.lemmas.Bool.{and_parts, eqb-true, le-leb, lt-leb, leb-true, leb-false, false≢true}
use Rattle.std.specs.Prelude.{if◌then◌else◌, nat_eq, nat_le, nat_lt, ◌||◌, ◌&&◌}
use Rattle.anf_convert.specs.declared.program.Atom.{Atom}
use Rattle.closure_lift.specs.Lifted.{CaseOp, BranchBlocks, OpIs}
use Rattle.closure_lift.specs.LiftedView.{branches_of}
use Rattle.closure_lift.specs.LiftedWeight.{branches_weight}
use Rattle.closure_lift.specs.declared.program.Lifted.{Lifted}
use Rattle.closure_lift.specs.declared.program.LiftedBranch.{LiftedBranch}
use Rattle.wasm_core.specs.declared.instrs.Instr.{Instr}
use Rattle.wasm_core.specs.declared.instrs.I32Op.TheVariants as op32
use Rattle.wasm_core.specs.declared.instrs.Instr.TheVariants.{Else, End, LocalGet, LocalSet, I32 as Operation}
use Rattle.wasm_emit.specs.EmittedCode.{Load, ConstWord, IfWord}
use Rattle.wasm_emit.specs.Pushed.{Pushed, ends}
use Rattle.wasm_emit.proofs.Pushing.{ends_sum}
use Rattle.known_calls.specs.KnownPlaces.{Place}
use Rattle.known_calls.specs.KnownTests.{Kind, Bare, Fielded, Alternative, Position, deeper, is_of, keep, is_some, first_number, equal_test, below_test, bare_test, arm, none, chain, many_alternatives, are_many, most_rounds, search}
use Rattle.known_calls.specs.KnownCode.{atom}
use Rattle.known_calls.specs.KnownPushed.{under_position, op_code, branch_code, alternative_of, kind_of, search_code, alone_code, few_bare_code, both_kinds_code, branches_code, counted, count_of, begins_with, is_last_of, TestedArms, ToldArms, OneArm}
use Rattle.known_calls.proofs.KnownPushing.{under_one, under_none, under_sum}
use Rattle.trees.proofs.Lists.{next_is}

-- Which branches are kept.

keep_append : (b : Bool) (a : Alternative) (xs ys : List Alternative) → keep b a (xs ++ ys) ≡ keep b a xs ++ ys
keep_append true a xs ys = refl
keep_append false a xs ys = refl

keep_length : (b : Bool) (a : Alternative) (xs : List Alternative) (n : ℕ) → length xs ≡ n → length (keep b a xs) ≡ counted b n
keep_length true a xs n e = ap suc e
keep_length false a xs n e = e

length_some : (xs : List Alternative) → 0 < length xs → is_some xs ≡ true
length_some [] lt = absurd (omega arith)
length_some (x ∷ xs) lt = refl

length_none : (xs : List Alternative) → length xs ≡ 0 → xs ≡ []
length_none [] e = refl
length_none (x ∷ xs) e = absurd (omega arith)

-- the last branch of a kind, and one that isn't
pub last_is : (k : Kind) (n : ℕ) (more : BranchBlocks) → is_last_of k n more ≡ true → (is_of k n ≡ true) × (count_of k more ≡ 0)
last_is k n more e = both (is_of k n) (count_of k more) refl e
  where
    both : (b : Bool) (m : ℕ) → is_of k n ≡ b → b && nat_eq m 0 ≡ true → (is_of k n ≡ true) × (m ≡ 0)
    both true m is e = (is, eqb-true m 0 e)
    both false m is e = absurd (false≢true e)

pub last_not : (k : Kind) (n : ℕ) (more : BranchBlocks) → is_last_of k n more ≡ false → is_of k n ≡ true → 0 < count_of k more
last_not k n more e is = one (count_of k more) (ap (λ (b : Bool). b && nat_eq (count_of k more) 0) (sym is) ∙ e)
  where
    one : (m : ℕ) → true && nat_eq m 0 ≡ false → 0 < m
    one zero e = absurd (false≢true (sym e))
    one (suc m) e = omega arith

-- a part that is told by halves, and one that isn't
pub by_halves_is : (rounds n : ℕ) → nat_lt 0 rounds && nat_le many_alternatives n ≡ true → (0 < rounds) × (6 ≤ n)
by_halves_is rounds n e =
    let h = and_parts (nat_lt 0 rounds) (nat_le many_alternatives n) e in
    let some = leb-true 1 rounds h.0 in
    let many = leb-true many_alternatives n h.1 in
    (omega (arith, some), omega (arith, many))

pub by_halves_not : (rounds n : ℕ) → nat_lt 0 rounds && nat_le many_alternatives n ≡ false → 0 < rounds → n < 6
by_halves_not rounds n e lt =
    let some : nat_lt 0 rounds ≡ true = le-leb 1 rounds (omega (arith, lt)) in
    let few = leb-false many_alternatives n (ap (λ (b : Bool). b && nat_le many_alternatives n) (sym some) ∙ e) in
    omega (arith, few)

-- Parts of a match's branches are no heavier.

pub front_lighter : (i : ℕ) (bs : List LiftedBranch) → branches_weight (branches_of (take i bs)) ≤ branches_weight (branches_of bs)
front_lighter zero [] = omega arith
front_lighter zero (b ∷ bs) = omega arith
front_lighter (suc i) [] = omega arith
front_lighter (suc i) (b ∷ bs) = omega (arith, front_lighter i bs)

pub back_lighter : (i : ℕ) (bs : List LiftedBranch) → branches_weight (branches_of (drop i bs)) ≤ branches_weight (branches_of bs)
back_lighter zero bs = omega arith
back_lighter (suc i) [] = omega arith
back_lighter (suc i) (b ∷ bs) = omega (arith, back_lighter i bs)

-- Branches from one on.

pub count_here : (k : Kind) (bs : List LiftedBranch) (c : ℕ) (b : LiftedBranch) → c < length bs → b ≡ get_or bs c b → count_of k (branches_of (drop c bs)) ≡ counted (is_of k b.binders) (count_of k (branches_of (drop (c + 1) bs)))
count_here k bs c b lt is = ap (λ (xs : List LiftedBranch). count_of k (branches_of xs)) (next_is bs c b lt is)

pub begins_here : (k : Kind) (bs : List LiftedBranch) (c : ℕ) (b : LiftedBranch) → c < length bs → b ≡ get_or bs c b → begins_with k (branches_of (drop c bs)) ≡ is_of k b.binders
begins_here k bs c b lt is = ap (λ (xs : List LiftedBranch). begins_with k (branches_of xs)) (next_is bs c b lt is)

pub count_end : (k : Kind) (bs : List LiftedBranch) (c : ℕ) → length bs ≤ c → count_of k (branches_of (drop c bs)) ≡ 0
count_end k bs c le = ap (λ (xs : List LiftedBranch). count_of k (branches_of xs)) (drop_all c bs le)

-- those before and those behind
pub count_halves : (k : Kind) (c : ℕ) (bs : List LiftedBranch) → count_of k (branches_of (take c bs)) + count_of k (branches_of (drop c bs)) ≡ count_of k (branches_of bs)
count_halves k zero bs = omega arith
count_halves k (suc c) [] = refl
count_halves k (suc c) (b ∷ bs) = one (is_of k b.binders) (count_halves k c bs)
  where
    one : (x : Bool) → count_of k (branches_of (take c bs)) + count_of k (branches_of (drop c bs)) ≡ count_of k (branches_of bs) → counted x (count_of k (branches_of (take c bs))) + count_of k (branches_of (drop c bs)) ≡ counted x (count_of k (branches_of bs))
    one true h = omega (arith, h)
    one false h = h

count_append : (k : Kind) (xs ys : List LiftedBranch) → count_of k (branches_of (xs ++ ys)) ≡ count_of k (branches_of xs) + count_of k (branches_of ys)
count_append k [] ys = omega arith
count_append k (x ∷ xs) ys = one (is_of k x.binders) (count_append k xs ys)
  where
    one : (b : Bool) → count_of k (branches_of (xs ++ ys)) ≡ count_of k (branches_of xs) + count_of k (branches_of ys) → counted b (count_of k (branches_of (xs ++ ys))) ≡ counted b (count_of k (branches_of xs)) + count_of k (branches_of ys)
    one true h = omega (arith, h)
    one false h = h

-- one more
pub count_taken : (k : Kind) (bs : List LiftedBranch) (c : ℕ) (b : LiftedBranch) (x : Bool) → c < length bs → b ≡ get_or bs c b → is_of k b.binders ≡ x → count_of k (branches_of (take (c + 1) bs)) ≡ count_of k (branches_of (take c bs)) + counted x 0
count_taken k bs c b x lt is e =
    ap (λ (xs : List LiftedBranch). count_of k (branches_of xs)) (take_more bs c b lt ∙ ap (λ (z : LiftedBranch). take c bs ++ z ∷ []) (sym is)) ∙ count_append k (take c bs) (b ∷ []) ∙ ap (λ (z : Bool). count_of k (branches_of (take c bs)) + counted z 0) e

-- Branches of a kind, as alternatives.
module _ (Q : Lifted) (env : List Place) (d : ℕ) (k : Kind) where
  abbrev all_of : ℕ → List LiftedBranch → List Alternative
  all_of c bs = kind_of Q env d k c (branches_of bs)

  pub all_length : (c : ℕ) (bs : List LiftedBranch) → length (all_of c bs) ≡ count_of k (branches_of bs)
  all_length c [] = refl
  all_length c (b ∷ bs) = keep_length (is_of k b.binders) (alternative_of Q env d c b) (all_of (suc c) bs) (count_of k (branches_of bs)) (all_length (suc c) bs)

  pub all_next : (c i n : ℕ) (bs : List LiftedBranch) (b : LiftedBranch) → i < length bs → b ≡ get_or bs i b → n ≡ suc c → all_of c (drop i bs) ≡ keep (is_of k b.binders) (alternative_of Q env d c b) (all_of n (drop (i + 1) bs))
  all_next c i n bs b lt is e = ap (λ (xs : List LiftedBranch). all_of c xs) (next_is bs i b lt is) ∙ ap (λ (j : ℕ). keep (is_of k b.binders) (alternative_of Q env d c b) (all_of j (drop (i + 1) bs))) (sym e)

  pub all_halves : (c n i : ℕ) (bs : List LiftedBranch) → n ≡ c + i → all_of c bs ≡ all_of c (take i bs) ++ all_of n (drop i bs)
  all_halves c n zero bs e = let same : c ≡ n = omega (arith, e) in ap (λ (j : ℕ). all_of j bs) same
  all_halves c n (suc i) [] e = refl
  all_halves c n (suc i) (b ∷ bs) e =
      ap (λ (xs : List Alternative). keep (is_of k b.binders) (alternative_of Q env d c b) xs) (all_halves (suc c) n i bs (omega (arith, e)))
      ∙ keep_append (is_of k b.binders) (alternative_of Q env d c b) (all_of (suc c) (take i bs)) (all_of n (drop i bs))

  first_is : (c : ℕ) (bs : List LiftedBranch) → begins_with k (branches_of bs) ≡ true → first_number (all_of c bs) ≡ c
  first_is c [] e = cc
  first_is c (b ∷ bs) e = ap (λ (x : Bool). first_number (keep x (alternative_of Q env d c b) (all_of (suc c) bs))) e

  -- One branch.
  module _ (c : ℕ) (b : LiftedBranch) (at : Position) where
    abbrev this : Alternative
    this = alternative_of Q env d c b

    pub one_passed : (o0 : List Instr) → is_of k b.binders ≡ false → OneArm d at k this o0 o0 0
    one_passed o0 e = record {
      few = omega arith;
      is = λ some more others rest tested. ap (λ (z : Position). o0 ++ chain d some more others z rest) (under_none at) ∙ ap (λ (x : Bool). o0 ++ chain d some (keep x this more) others at rest) (sym e);
    }

    pub one_pushed : (inner : Position) (o0 o1 o2 o3 : List Instr) → is_of k b.binders ≡ true → inner ≡ under_position 1 at → Pushed o0 o1 (λ rest. equal_test d c b.binders (IfWord ∷ rest)) → Pushed o1 o2 (branch_code Q env d inner b) → Pushed o2 o3 (λ rest. Else ∷ rest) → OneArm d at k this o0 o3 1
    one_pushed inner o0 o1 o2 o3 e ei x0 x1 x2 = record { few = omega arith; is = is }
      where
        is : (some : Bool) (more : List Alternative) (others : Position → List Instr → List Instr) (rest : List Instr) → (is_of k b.binders ≡ true → some || is_some more ≡ true) →
            o3 ++ chain d some more others (under_position 1 at) (End ∷ rest) ≡ o0 ++ chain d some (keep (is_of k b.binders) this more) others at rest
        is some more others rest tested =
            let tail : List Instr = chain d some more others (deeper at) (End ∷ rest) in
            ap (λ (z : Position). o3 ++ chain d some more others z (End ∷ rest)) (under_one at)
            ∙ x2.is tail ∙ x1.is (Else ∷ tail) ∙ ap (λ (z : Position). o1 ++ branch_code Q env d z b (Else ∷ tail)) (ei ∙ under_one at)
            ∙ x0.is (branch_code Q env d (deeper at) b (Else ∷ tail))
            ∙ ap (λ (z : Bool). o0 ++ arm z (equal_test d c b.binders) (λ at'. branch_code Q env d at' b) (chain d some more others) at rest) (sym (tested e))
            ∙ ap (λ (x : Bool). o0 ++ chain d some (keep x this more) others at rest) (sym e)

  -- The arms of all branches from one on.
  module _ (at : Position) (first c : ℕ) (bs : List LiftedBranch) (b : LiftedBranch) (begun n total : ℕ) (old new out : List Instr) (lt : c < length bs) (is : b ≡ get_or bs c b) (sum : total ≡ begun + n) where
    all_ends : (rest : List Instr) → ends total rest ≡ ends n (ends begun rest)
    all_ends rest = ap (λ (k : ℕ). ends k rest) sum ∙ sym (ends_sum n begun rest)

    under_all : under_position total at ≡ under_position n (under_position begun at)
    under_all = ap (λ (k : ℕ). under_position k at) sum ∙ sym (under_sum n begun at)

    next_here : all_of (first + c) (drop c bs) ≡ keep (is_of k b.binders) (alternative_of Q env d (first + c) b) (all_of (first + (c + 1)) (drop (c + 1) bs))
    next_here = all_next (first + c) c (first + (c + 1)) bs b lt is (omega arith)

    pub arms_more : OneArm d (under_position begun at) k (alternative_of Q env d (first + c) b) old new n → (some : Bool) → (is_of k b.binders ≡ true → some || is_some (all_of (first + (c + 1)) (drop (c + 1) bs)) ≡ true) → (others : Position → List Instr → List Instr) (g : List Instr → List Instr) →
        ((rest : List Instr) → old ++ chain d some (all_of (first + c) (drop c bs)) others (under_position begun at) (ends begun rest) ≡ out ++ g rest) →
        (rest : List Instr) → new ++ chain d some (all_of (first + (c + 1)) (drop (c + 1) bs)) others (under_position total at) (ends total rest) ≡ out ++ g rest
    arms_more x some tested others g inv rest =
        let more = all_of (first + (c + 1)) (drop (c + 1) bs) in
        ap (λ (z : Position). new ++ chain d some more others z (ends total rest)) under_all
        ∙ ap (λ (zs : List Instr). new ++ chain d some more others (under_position n (under_position begun at)) zs) (all_ends rest)
        ∙ x.is some more others (ends begun rest) tested
        ∙ ap (λ (xs : List Alternative). old ++ chain d some xs others (under_position begun at) (ends begun rest)) (sym next_here)
        ∙ inv rest

    -- there are more behind one that isn't the last
    pub more_behind : is_last_of k b.binders (branches_of (drop (c + 1) bs)) ≡ false → is_of k b.binders ≡ true → false || is_some (all_of (first + (c + 1)) (drop (c + 1) bs)) ≡ true
    more_behind e one = length_some (all_of (first + (c + 1)) (drop (c + 1) bs)) (omega (arith, all_length (first + (c + 1)) (drop (c + 1) bs), last_not k b.binders (branches_of (drop (c + 1) bs)) e one))

    -- the last one's body was pushed
    pub arms_end : Pushed old new (branch_code Q env d (under_position begun at) b) → is_last_of k b.binders (branches_of (drop (c + 1) bs)) ≡ true → (g : List Instr → List Instr) →
        ((rest : List Instr) → old ++ chain d false (all_of (first + c) (drop c bs)) none (under_position begun at) (ends begun rest) ≡ out ++ g rest) → (rest : List Instr) → new ++ ends begun rest ≡ out ++ g rest
    arms_end x last g inv rest =
        let h = last_is k b.binders (branches_of (drop (c + 1) bs)) last in
        let nothing : all_of (first + (c + 1)) (drop (c + 1) bs) ≡ [] = length_none (all_of (first + (c + 1)) (drop (c + 1) bs)) (all_length (first + (c + 1)) (drop (c + 1) bs) ∙ h.1) in
        let here : all_of (first + c) (drop c bs) ≡ alternative_of Q env d (first + c) b ∷ [] =
        next_here ∙ ap (λ (x : Bool). keep x (alternative_of Q env d (first + c) b) (all_of (first + (c + 1)) (drop (c + 1) bs))) h.0 ∙ ap (λ (xs : List Alternative). alternative_of Q env d (first + c) b ∷ xs) nothing in
        x.is (ends begun rest) ∙ ap (λ (xs : List Alternative). old ++ chain d false xs none (under_position begun at) (ends begun rest)) (sym here) ∙ inv rest

  -- behind the last branch there is none
  pub all_past : (c n : ℕ) (bs : List LiftedBranch) → length bs ≤ c → all_of n (drop c bs) ≡ []
  all_past c n bs le = ap (λ (xs : List LiftedBranch). all_of n xs) (drop_all c bs le)

  -- A part of the branches.
  module _ (at : Position) (first rounds : ℕ) (bs : List LiftedBranch) where
    pub alone_pushed : (o0 o1 o2 : List Instr) (n : ℕ) → ToldArms d at (all_of first bs) o0 o1 n → Pushed o1 o2 (ends n) → Pushed o0 o2 (alone_code Q env d at k first (branches_of bs))
    alone_pushed o0 o1 o2 n x y = record { is = λ rest. y.is rest ∙ x.is rest }

    -- no round is left, or there are few
    pub alone_is : (o0 o1 : List Instr) → (0 < rounds → count_of k (branches_of bs) < 6) → Pushed o0 o1 (alone_code Q env d at k first (branches_of bs)) → Pushed o0 o1 (search_code Q env d at k first rounds (branches_of bs))
    alone_is o0 o1 few x = record { is = λ rest. x.is rest ∙ ap (λ (zs : List Instr). o0 ++ zs) (same rounds few rest) }
      where
        same : (r : ℕ) → (0 < r → count_of k (branches_of bs) < 6) → (rest : List Instr) → chain d false (all_of first bs) none at rest ≡ search k d r (all_of first bs) at rest
        same zero few rest = refl
        same (suc r) few rest =
            let short : are_many (all_of first bs) ≡ false = lt-leb many_alternatives (length (all_of first bs)) (omega (arith, all_length first bs, few (omega arith))) in
            sym (ap (λ (x : Bool). (if x then arm true (below_test k d (first_number (drop (length (all_of first bs) / 2) (all_of first bs)))) (search k d r (take (length (all_of first bs) / 2) (all_of first bs))) (search k d r (drop (length (all_of first bs) / 2) (all_of first bs)))
            else chain d false (all_of first bs) none) at rest) short)

    -- the two halves were pushed
    module _ (i second left : ℕ) (inner : Position) (many : 6 ≤ count_of k (branches_of bs)) (half : count_of k (branches_of (take i bs)) ≡ count_of k (branches_of bs) / 2) (starts : begins_with k (branches_of (drop i bs)) ≡ true)
        (es : second ≡ first + i) (er : rounds ≡ suc left) (ei : inner ≡ under_position 1 at) where
      abbrev front : List Alternative
      front = all_of first (take i bs)

      abbrev back : List Alternative
      back = all_of second (drop i bs)

      whole : all_of first bs ≡ front ++ back
      whole = all_halves first second i bs es

      middle : length (all_of first bs) / 2 ≡ length front
      middle = ap (λ (n : ℕ). n / 2) (all_length first bs) ∙ sym half ∙ sym (all_length first (take i bs))

      front_is : take (length (all_of first bs) / 2) (all_of first bs) ≡ front
      front_is = ap (λ (n : ℕ). take n (all_of first bs)) middle ∙ ap (λ (xs : List Alternative). take (length front) xs) whole ∙ take-append_seam front back

      back_is : drop (length (all_of first bs) / 2) (all_of first bs) ≡ back
      back_is = ap (λ (n : ℕ). drop n (all_of first bs)) middle ∙ ap (λ (xs : List Alternative). drop (length front) xs) whole ∙ drop-append_seam front back

      long : are_many (all_of first bs) ≡ true
      long = le-leb many_alternatives (length (all_of first bs)) (omega (arith, all_length first bs, many))

      abbrev told : ℕ → List Alternative → List Alternative → List Instr → List Instr
      told c xs ys rest = arm true (below_test k d c) (search k d left xs) (search k d left ys) at rest

      searched : (rest : List Instr) → told second front back rest ≡ search k d rounds (all_of first bs) at rest
      searched rest =
          let as' = all_of first bs in
          let n = length as' / 2 in
          let at_second : second ≡ first_number (drop n as') = sym (ap first_number back_is ∙ first_is second (drop i bs) starts) in
          ap (λ (c : ℕ). told c front back rest) at_second ∙ ap (λ (xs : List Alternative). told (first_number (drop n as')) xs back rest) (sym front_is) ∙ ap (λ (ys : List Alternative). told (first_number (drop n as')) (take n as') ys rest) (sym back_is)
          ∙ sym (ap (λ (x : Bool). (if x then arm true (below_test k d (first_number (drop n as'))) (search k d left (take n as')) (search k d left (drop n as')) else chain d false as' none) at rest) long)
          ∙ ap (λ (r : ℕ). search k d r as' at rest) (sym er)

      pub halves_pushed : (o0 o1 o2 o3 o4 o5 : List Instr) → Pushed o0 o1 (λ rest. below_test k d second (IfWord ∷ rest)) → Pushed o1 o2 (search_code Q env d inner k first left (branches_of (take i bs))) → Pushed o2 o3 (λ rest. Else ∷ rest) →
          Pushed o3 o4 (search_code Q env d inner k second left (branches_of (drop i bs))) → Pushed o4 o5 (λ rest. End ∷ rest) → Pushed o0 o5 (search_code Q env d at k first rounds (branches_of bs))
      halves_pushed o0 o1 o2 o3 o4 o5 x0 x1 x2 x3 x4 = record { is = is }
        where
          is : (rest : List Instr) → o5 ++ rest ≡ o0 ++ search_code Q env d at k first rounds (branches_of bs) rest
          is rest =
              let deep : inner ≡ deeper at = ei ∙ under_one at in
              let tail : List Instr = search k d left back (deeper at) (End ∷ rest) in
              x4.is rest ∙ x3.is (End ∷ rest) ∙ ap (λ (z : Position). o3 ++ search k d left back z (End ∷ rest)) deep
              ∙ x2.is tail ∙ x1.is (Else ∷ tail) ∙ ap (λ (z : Position). o1 ++ search k d left front z (Else ∷ tail)) deep
              ∙ x0.is (search k d left front (deeper at) (Else ∷ tail))
              ∙ ap (λ (zs : List Instr). o0 ++ zs) (searched rest)

-- The test of a header was pushed.
pub below_pushed : (d c word : ℕ) (o0 o1 o2 o3 o4 o5 o6 : List Instr) → word ≡ c * 65536 → Pushed o0 o1 (λ rest. ConstWord word ∷ rest) → Pushed o1 o2 (λ rest. LocalGet d ∷ rest) → Pushed o2 o3 (λ rest. Load 0 ∷ rest) → Pushed o3 o4 (λ rest. ConstWord 16 ∷ rest) →
    Pushed o4 o5 (λ rest. Operation op32.Shl ∷ rest) → Pushed o5 o6 (λ rest. Operation op32.GtU ∷ IfWord ∷ rest) → Pushed o0 o6 (λ rest. below_test Fielded d c (IfWord ∷ rest))
below_pushed d c word o0 o1 o2 o3 o4 o5 o6 e x0 x1 x2 x3 x4 x5 = record { is = is }
  where
    is : (rest : List Instr) → o6 ++ rest ≡ o0 ++ below_test Fielded d c (IfWord ∷ rest)
    is rest =
        let i5 : List Instr = Operation op32.GtU ∷ IfWord ∷ rest in
        let i4 : List Instr = Operation op32.Shl ∷ i5 in
        let i3 : List Instr = ConstWord 16 ∷ i4 in
        let i2 : List Instr = Load 0 ∷ i3 in
        let i1 : List Instr = LocalGet d ∷ i2 in
        let w : word ≡ 65536 * c = omega (arith, e) in
        x5.is rest ∙ x4.is i5 ∙ x3.is i4 ∙ x2.is i3 ∙ x1.is i2 ∙ x0.is i1 ∙ ap (λ (k : ℕ). o0 ++ (ConstWord k ∷ i1)) w

-- A match was pushed.
pub case_pushed : (Q : Lifted) (env : List Place) (d : ℕ) (at : Position) (a : Atom) (bs : BranchBlocks) (o0 o1 o2 o3 : List Instr) → Pushed o0 o1 (atom env a) → Pushed o1 o2 (λ rest. LocalSet d ∷ rest) → Pushed o2 o3 (branches_code Q env d at bs) → Pushed o0 o3 (op_code Q env d at (OpIs (CaseOp a bs)))
case_pushed Q env d at a bs o0 o1 o2 o3 x y z = record { is = λ rest. z.is rest ∙ y.is (branches_code Q env d at bs rest) ∙ x.is (LocalSet d ∷ branches_code Q env d at bs rest) }

-- The branches of a match.
module _ (Q : Lifted) (env : List Place) (d : ℕ) (at : Position) (bs : List LiftedBranch) where
  abbrev bares : List Alternative
  bares = kind_of Q env d Bare 0 (branches_of bs)

  abbrev fields : List Alternative
  fields = kind_of Q env d Fielded 0 (branches_of bs)

  abbrev chosen : Bool → Bool → List Instr → List Instr
  chosen some many rest =
      (
      if some
      then (if many then arm true (bare_test d) (search Bare d most_rounds bares) (search Fielded d most_rounds fields) else chain d true bares (search Fielded d most_rounds fields))
      else search Bare d most_rounds bares
      ) at rest

  pub one_kind : (o0 o1 : List Instr) → count_of Fielded (branches_of bs) ≡ 0 → Pushed o0 o1 (search_code Q env d at Bare 0 most_rounds (branches_of bs)) → Pushed o0 o1 (branches_code Q env d at (branches_of bs))
  one_kind o0 o1 none_fielded x =
      let nothing : is_some fields ≡ false = ap is_some (length_none fields (all_length Q env d Fielded 0 bs ∙ none_fielded)) in
      record { is = λ rest. x.is rest ∙ ap (λ (z : Bool). o0 ++ chosen z (are_many bares) rest) (sym nothing) }

  some_fields : (count_of Fielded (branches_of bs) ≡ 0 → ⊥) → is_some fields ≡ true
  some_fields some = length_some fields (positive (length fields) (λ e. some (sym (all_length Q env d Fielded 0 bs) ∙ e)))
    where
      positive : (n : ℕ) → (n ≡ 0 → ⊥) → 0 < n
      positive zero e = absurd (e refl)
      positive (suc n) e = omega arith

  pub few_bare : (o0 o1 : List Instr) → (count_of Fielded (branches_of bs) ≡ 0 → ⊥) → count_of Bare (branches_of bs) < 6 → Pushed o0 o1 (few_bare_code Q env d at (branches_of bs)) → Pushed o0 o1 (branches_code Q env d at (branches_of bs))
  few_bare o0 o1 some few x =
      let short : are_many bares ≡ false = lt-leb many_alternatives (length bares) (omega (arith, all_length Q env d Bare 0 bs, few)) in
      record { is = λ rest. x.is rest ∙ ap (λ (z : Bool). o0 ++ chosen true z rest) (sym short) ∙ ap (λ (z : Bool). o0 ++ chosen z (are_many bares) rest) (sym (some_fields some)) }

  pub both_kinds : (o0 o1 : List Instr) → (count_of Fielded (branches_of bs) ≡ 0 → ⊥) → 6 ≤ count_of Bare (branches_of bs) → Pushed o0 o1 (both_kinds_code Q env d at (branches_of bs)) → Pushed o0 o1 (branches_code Q env d at (branches_of bs))
  both_kinds o0 o1 some many x =
      let long : are_many bares ≡ true = le-leb many_alternatives (length bares) (omega (arith, all_length Q env d Bare 0 bs, many)) in
      record { is = λ rest. x.is rest ∙ ap (λ (z : Bool). o0 ++ chosen true z rest) (sym long) ∙ ap (λ (z : Bool). o0 ++ chosen z (are_many bares) rest) (sym (some_fields some)) }

  -- the bare ones were pushed, and the others in the innermost `else`
  pub few_pushed : (o0 o1 o2 o3 : List Instr) (n : ℕ) → TestedArms d at bares o0 o1 n → Pushed o1 o2 (search_code Q env d (under_position n at) Fielded 0 most_rounds (branches_of bs)) → Pushed o2 o3 (ends n) → Pushed o0 o3 (few_bare_code Q env d at (branches_of bs))
  few_pushed o0 o1 o2 o3 n x y z = record { is = λ rest. z.is rest ∙ y.is (ends n rest) ∙ x.is (search Fielded d most_rounds fields) rest }

  pub both_pushed : (inner : Position) (o0 o1 o2 o3 o4 o5 : List Instr) → inner ≡ under_position 1 at → Pushed o0 o1 (λ rest. bare_test d (IfWord ∷ rest)) → Pushed o1 o2 (search_code Q env d inner Bare 0 most_rounds (branches_of bs)) → Pushed o2 o3 (λ rest. Else ∷ rest) →
      Pushed o3 o4 (search_code Q env d inner Fielded 0 most_rounds (branches_of bs)) → Pushed o4 o5 (λ rest. End ∷ rest) → Pushed o0 o5 (both_kinds_code Q env d at (branches_of bs))
  both_pushed inner o0 o1 o2 o3 o4 o5 ei x0 x1 x2 x3 x4 = record { is = is }
    where
      is : (rest : List Instr) → o5 ++ rest ≡ o0 ++ both_kinds_code Q env d at (branches_of bs) rest
      is rest =
          let deep : inner ≡ deeper at = ei ∙ under_one at in
          let tail : List Instr = search Fielded d most_rounds fields (deeper at) (End ∷ rest) in
          x4.is rest ∙ x3.is (End ∷ rest) ∙ ap (λ (z : Position). o3 ++ search Fielded d most_rounds fields z (End ∷ rest)) deep
          ∙ x2.is tail ∙ x1.is (Else ∷ tail) ∙ ap (λ (z : Position). o1 ++ search Bare d most_rounds bares z (Else ∷ tail)) deep
          ∙ x0.is (search Bare d most_rounds bares (deeper at) (Else ∷ tail))
