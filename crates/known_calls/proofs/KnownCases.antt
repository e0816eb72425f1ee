-- What emitted code yields, and matches.
use Rattle.std.proofs.Common.{◌≡◌, ℕ, zero, suc, ◌+◌, ◌*◌, ◌/◌, ◌%◌, ◌^◌, ◌<◌, ◌≤◌, List, [], ◌∷◌, length, length-take-le, length-drop, take, drop, Some, Bool, true, false, refl, ap, sym, ◌∙◌, subst, arith}
use Rattle.std.proofs.lemmas.Bool.{leb-true, false≢true}
use Rattle.std.proofs.lemmas.Nat.{and_mask}
use Rattle.std.specs.Prelude.{slice_get, ◌||◌, if◌then◌else◌, bit_and}
use Rattle.wasm_core.specs.declared.instrs.I32Op.TheVariants as op32
use Rattle.wasm_core.specs.ModuleCondition.{All}
use Rattle.wasm_core.proofs.Rules as rule
use Rattle.wasm_emit.specs.EmitLaws.{Spent}
use Rattle.wasm_core.specs.Memory.{word}
use Rattle.wasm_core.specs.declared.types.ConstValue.{ConstValue}
use Rattle.wasm_core.specs.declared.types.ConstValue.TheVariants.{I32}
use Rattle.wasm_core.specs.declared.instrs.Instr.{Instr}
use Rattle.wasm_core.specs.declared.instrs.Instr.TheVariants.{Else, End, I32 as Operation}
use Rattle.wasm_core.specs.Parts.{Parts}
use Rattle.wasm_core.specs.MachineStep.{BlockLabel, State, after_end, else_arm}
use Rattle.wasm_core.proofs.Rules.{Around}
use Rattle.wasm_emit.specs.EmittedCode.{IfWord}
use Rattle.wasm_emit.proofs.Source.{Block, BranchBlocks, NoBranch, Branch, Program, Val, branch_count, BranchAt, branch_here, branch_after}
use Rattle.wasm_emit.proofs.Bytes.{Mem, at_zero}
use Rattle.wasm_emit.proofs.Values.{Stands}
use Rattle.wasm_emit.proofs.Holds.{Same, Keeps}
use Rattle.wasm_emit.proofs.Rules.{Limits, Within, here, in_block, returned, looser, r_const, r_get, r_load, r_eq_yes, r_eq_no, r_gt_yes, r_gt_no, r_if, r_if_not, r_else, r_end}
use Rattle.wasm_emit.proofs.Alloc.{Room}
use Rattle.known_calls.specs.KnownPlaces.{Place}
use Rattle.known_calls.specs.KnownTests.{Kind, Bare, Fielded, Alternative, Position, deeper, is_of, kept, is_some, first_number, equal_test, below_test, bare_test, arm, none, chain, are_many, many_alternatives, most_rounds, search, tests}
use Rattle.known_calls.specs.KnownCode.{alternatives, branch}
use Rattle.known_calls.proofs.KnownHolds.{Stood, stood_up, stood_deeper}
use Rattle.known_calls.proofs.Parted.{OfKind, kept_of_kind, kept_sizes, all_kept, all_take, all_drop, Ordered, ordered_kept, ordered_take, ordered_drop, Among, among_first, among_later, among_some, among_from, among_kept, side_of, Side, before, behind}
use Rattle.known_calls.proofs.Shapes.{Wherever, AllShaped, shaped_none, shaped_chain, shaped_search}

or_true : (a : Bool) {b : Bool} → b ≡ true → a || b ≡ true
or_true true e = refl
or_true false e = e

-- The branches of a match, as alternatives.
module _ (P : Program) (ps : List Place) (d : ℕ) where
  pub ordered_all : (c : ℕ) (bs : BranchBlocks) → Ordered c (alternatives P ps d c bs)
  ordered_all c NoBranch = tt
  ordered_all c (Branch n t bs) = (omega arith, ordered_all (suc c) bs)

  pub all_sizes : (c : ℕ) (bs : BranchBlocks) → length (alternatives P ps d c bs) ≡ branch_count bs
  all_sizes c NoBranch = refl
  all_sizes c (Branch n t bs) = omega (arith, all_sizes (suc c) bs)

  -- branch number i
  abbrev pub branch_is : ℕ → ℕ → Block → Alternative
  branch_is i j t = record { number = i; binders = j; body = t; code = λ at. branch P ps d j at t }

  pub among_all : (c n : ℕ) {i j : ℕ} {bs : BranchBlocks} {t : Block} → n ≡ c + i → BranchAt bs i j t → Among (branch_is n j t) (alternatives P ps d c bs)
  among_all c n is (branch_here {n = j} {b = t} {rest = bs}) = let same : c ≡ n = omega (arith, is) in subst (λ (x : ℕ). Among (branch_is x j t) (branch_is c j t ∷ alternatives P ps d (suc c) bs)) same among_first
  among_all c n is (branch_after at) = among_later (among_all (suc c) n (omega (arith, is)) at)

module _ (P : Program) (M : Parts) (cap : Limits) (Q : State → Type 0) where
  -- how the caller goes on well, from a word of the value
  abbrev pub Out : Mem → ℕ → Val → ℕ → Around → ℕ → ℕ → Type 0
  Out m h v s f l u = (m' : Mem) (p' h' w : ℕ) → h ≤ h' → h' ≤ h + 4 * s → Room M cap m' p' h' → Same h m m' → Stands m' h' w v → Within M cap Q l u (returned cap f.callers m' p' h' w)

  -- how the rest goes well, from a word of the value
  abbrev pub Go : Mem → ℕ → List ConstValue → ℕ → Val → ℕ → Around → List ConstValue → List Instr → ℕ → ℕ → Type 0
  Go m h ls d v s f vals rest l u =
      (m' : Mem) (p' h' : ℕ) (ls' : List ConstValue) (w : ℕ) → h ≤ h' → h' ≤ h + 4 * s → Room M cap m' p' h' → Same h m m' → Keeps d ls ls' → Stands m' h' w v → Within M cap Q l u (here cap f m' p' h' ls' (I32 w ∷ vals) rest)

  -- From this memory and these locals the instructions put a word of the value on the operands, with at least k and at most n steps, at most s words of new blocks, and the locals below d as they were; or, in
  -- the tail of a function, the function returns a word of the value. Calls that aren't in tail position are at most D in one another.
  pub record Yields (at : Position) (m : Mem) (p h : ℕ) (ls : List ConstValue) (d : ℕ) (v : Val) (tail : Bool) (D k s n : ℕ) (g : List Instr → List Instr) : Type 0 where
    pub run : (f : Around) (vals : List ConstValue) (rest : List Instr) (l u bound : ℕ) → Stood P at tail d (length ls) f.keeps f.labels → length f.callers + D + 1 ≤ cap.frames → n + u ≤ bound →
        Go m h ls d v s f vals rest l u → (tail ≡ true → Out m h v s f l u) → Within M cap Q (k + l) bound (here cap f m p h ls vals (g rest))

  keeps_less : {d d' : ℕ} {a b : List ConstValue} → d ≤ d' → Keeps d' a b → Keeps d a b
  keeps_less le x = record { size = x.size; at = λ i h. x.at i (omega arith) }

  pub fewer_kept : {at : Position} {m : Mem} {p h : ℕ} {ls : List ConstValue} {d : ℕ} {v : Val} {tail : Bool} {D k s n : ℕ} {g : List Instr → List Instr} → Yields at m p h ls (suc d) v tail D k s n g → Yields at m p h ls d v tail D k s n g
  fewer_kept {ls = ls} {d = d} y = record { run = λ f vals rest l u bound stood deep fits go out. y.run f vals rest l u bound (stood_up P (suc d) (length ls) (omega arith) (omega arith) stood) deep fits (λ m' p' h' ls' w x y b c k e. go m' p' h' ls' w x y b c (keeps_less (omega arith) k) e) out }

  module _ (at : Position) (m : Mem) (p h : ℕ) (ls : List ConstValue) (d : ℕ) (v : Val) (tail : Bool) (D k s n : ℕ) (g1 g2 : List Instr → List Instr) (f : Around) (vals : List ConstValue) (rest : List Instr) (l u : ℕ) (stood : Stood P at tail d (length ls) f.keeps f.labels) (deep : length f.callers + D + 1 ≤ cap.frames) where
    abbrev label : BlockLabel
    label = record { keeps = true; goes_on = after_end 0 (g1 (Else ∷ g2 (End ∷ rest))); below = vals }

    second : ((j : ℕ) (r : List Instr) → else_arm j (g1 r) ≡ else_arm j r) → Yields (deeper at) m p h ls d v tail D k s n g2 → Go m h ls d v s f vals rest l u → (tail ≡ true → Out m h v s f l u) →
        Within M cap Q (k + l) (n + 2 + u) (here cap f m p h ls (I32 0 ∷ vals) (IfWord ∷ g1 (Else ∷ g2 (End ∷ rest))))
    second elses y go out = looser M cap Q (r_if_not M cap Q (omega arith)
        (subst (λ (x : List Instr). Within M cap Q (k + l) (n + suc u) (here cap (in_block label f) m p h ls [] x)) (sym (elses 0 (Else ∷ g2 (End ∷ rest))))
        (y.run (in_block label f) [] (End ∷ rest) l (suc u) (n + suc u) (stood_deeper P label stood) deep (omega arith)
        (λ m' p' h' ls' w' x y b c' d' e. looser M cap Q (r_end M cap Q {k = label} (omega arith) (go m' p' h' ls' w' x y b c' d' e)) (omega arith) (omega arith))
        (λ t m' p' h' w' x y b c' e. looser M cap Q (out t m' p' h' w' x y b c' e) (omega arith) (omega arith)))))
        (omega arith) (omega arith)

    first : ((j : ℕ) (r : List Instr) → after_end j (g1 r) ≡ after_end j r) → ((j : ℕ) (r : List Instr) → after_end j (g2 r) ≡ after_end j r) → Yields (deeper at) m p h ls d v tail D k s n g1 → Go m h ls d v s f vals rest l u → (tail ≡ true → Out m h v s f l u) →
        Within M cap Q (k + l) (n + 2 + u) (here cap f m p h ls (I32 1 ∷ vals) (IfWord ∷ g1 (Else ∷ g2 (End ∷ rest))))
    first ends1 ends2 y go out = looser M cap Q (r_if M cap Q (omega arith)
        (y.run (in_block label f) [] (Else ∷ g2 (End ∷ rest)) l (suc u) (n + suc u) (stood_deeper P label stood) deep (omega arith)
        (λ m' p' h' ls' w' x y b c' d' e. looser M cap Q (r_else M cap Q {k = label} (omega arith)
        (subst (λ (x : List Instr). Within M cap Q l u (here cap f m' p' h' ls' (I32 w' ∷ vals) x)) (sym (ends1 0 _ ∙ ends2 0 _)) (go m' p' h' ls' w' x y b c' d' e))) (omega arith) (omega arith))
        (λ t m' p' h' w' x y b c' e. looser M cap Q (out t m' p' h' w' x y b c' e) (omega arith) (omega arith))))
        (omega arith) (omega arith)

  -- the test gives this truth value, within so many steps
  pub record Says (m : Mem) (p h : ℕ) (ls : List ConstValue) (n b : ℕ) (test : List Instr → List Instr) : Type 0 where
    run : (f : Around) (vals : List ConstValue) (rest : List Instr) (l u : ℕ) → length f.callers ≤ cap.frames → Within M cap Q l u (here cap f m p h ls (I32 b ∷ vals) rest) → Within M cap Q l (n + u) (here cap f m p h ls vals (test rest))

  -- what tests of the word in local d tell of the constructor of an alternative, among those of a kind
  pub record Tells (kind : Kind) (m : Mem) (p h : ℕ) (ls : List ConstValue) (d : ℕ) (a : Alternative) : Type 0 where
    same : Says m p h ls 4 1 (equal_test d a.number a.binders)
    other : (x : Alternative) → OfKind kind x → x.number < a.number → Says m p h ls 4 0 (equal_test d x.number x.binders)
    below : (c : ℕ) → a.number < c → Says m p h ls 6 1 (below_test kind d c)
    beyond : (c : ℕ) → c ≤ a.number → Says m p h ls 6 0 (below_test kind d c)

  module _ (m : Mem) (p h : ℕ) (ls : List ConstValue) (d w : ℕ) (is_at : slice_get ls d ≡ Some (I32 w)) where
    -- an operation on two words
    r_and : {f : Around} {vals : List ConstValue} {rest : List Instr} {l u x b : ℕ} → length f.callers ≤ cap.frames → bit_and x 1 ≡ b → Within M cap Q l u (here cap f m p h ls (I32 b ∷ vals) rest) → Within M cap Q (suc l) (suc u) (here cap f m p h ls (I32 1 ∷ I32 x ∷ vals) (Operation op32.And ∷ rest))
    r_and deep e k = rule.r_binary M cap.frames Q (Spent M cap.bytes) op32.And deep refl e k

    r_shift : {f : Around} {vals : List ConstValue} {rest : List Instr} {l u x b : ℕ} → length f.callers ≤ cap.frames → (x * 2 ^ (16 % 32)) % 2 ^ 32 ≡ b → Within M cap Q l u (here cap f m p h ls (I32 b ∷ vals) rest) →
        Within M cap Q (suc l) (suc u) (here cap f m p h ls (I32 16 ∷ I32 x ∷ vals) (Operation op32.Shl ∷ rest))
    r_shift deep e k = rule.r_binary M cap.frames Q (Spent M cap.bytes) op32.Shl deep refl e k

    -- whether there is a block
    says_bare : (i : ℕ) → w ≡ 2 * i + 1 → Says m p h ls 3 1 (bare_test d)
    says_bare i is = record { run = λ f vals rest l u deep k. looser M cap Q (r_get M cap Q deep is_at (r_const M cap Q deep 1 (r_and deep (odd i is) k))) (omega arith) (omega arith) }
      where
        odd : (i : ℕ) → w ≡ 2 * i + 1 → bit_and w 1 ≡ 1
        odd i is = and_mask w 1 ∙ (let e : w % 2 ≡ 1 = omega (arith, is) in e)

    says_block : (q : ℕ) → w ≡ 2 * q → Says m p h ls 3 0 (bare_test d)
    says_block q is = record { run = λ f vals rest l u deep k. looser M cap Q (r_get M cap Q deep is_at (r_const M cap Q deep 1 (r_and deep (even q is) k))) (omega arith) (omega arith) }
      where
        even : (q : ℕ) → w ≡ 2 * q → bit_and w 1 ≡ 0
        even q is = and_mask w 1 ∙ (let e : w % 2 ≡ 0 = omega (arith, is) in e)

    -- a word that isn't that of constructor c without arguments
    other_word : (c n : ℕ) → is_of Bare n ≡ true → (w ≡ 2 * c + 1 → ⊥) → Says m p h ls 4 0 (equal_test d c n)
    other_word c zero e differs = record { run = λ f vals rest l u deep k. looser M cap Q (r_get M cap Q deep is_at (r_const M cap Q deep (2 * c + 1) (r_eq_no M cap Q deep differs k))) (omega arith) (omega arith) }
    other_word c (suc n) e differs = absurd (false≢true e)

    pub tells_bare : (a : Alternative) → a.binders ≡ 0 → w ≡ 2 * a.number + 1 → Tells Bare m p h ls d a
    tells_bare a plain is = record {
      same = same a.binders plain;
      other = λ x e lt. other_word x.number x.binders e (λ z. omega (arith, z, is, lt));
      below = λ c lt. record { run = λ f vals rest l u deep k. looser M cap Q (r_const M cap Q deep (2 * c) (r_get M cap Q deep is_at (r_gt_yes M cap Q deep (omega (arith, is, lt)) k))) (omega arith) (omega arith) };
      beyond = λ c le. record { run = λ f vals rest l u deep k. looser M cap Q (r_const M cap Q deep (2 * c) (r_get M cap Q deep is_at (r_gt_no M cap Q deep (omega (arith, is, le)) k))) (omega arith) (omega arith) };
    }
      where
        same : (n : ℕ) → n ≡ 0 → Says m p h ls 4 1 (equal_test d a.number n)
        same zero e = record { run = λ f vals rest l u deep k. looser M cap Q (r_get M cap Q deep is_at (r_const M cap Q deep (2 * a.number + 1) (r_eq_yes M cap Q deep is k))) (omega arith) (omega arith) }
        same (suc n) e = absurd (omega arith)

    pub tells_fielded : (a : Alternative) → 0 < a.binders → w + 4 ≤ length m → word m w ≡ a.binders * 65536 + a.number → a.number < 65536 → Tells Fielded m p h ls d a
    tells_fielded a some within is small = record {
      same = same a.binders some head;
      other = λ x e lt. other x.number x.binders e lt;
      below = λ c lt. record {
        run = λ f vals rest l u deep k. looser M cap Q (r_const M cap Q deep (65536 * c) (r_get M cap Q deep is_at (r_load M cap Q deep (omega (arith, within)) (r_const M cap Q deep 16 (r_shift deep shifted (r_gt_yes M cap Q deep (omega (arith, lt)) k)))))) (omega arith) (omega arith);
      };
      beyond = λ c le. record {
        run = λ f vals rest l u deep k. looser M cap Q (r_const M cap Q deep (65536 * c) (r_get M cap Q deep is_at (r_load M cap Q deep (omega (arith, within)) (r_const M cap Q deep 16 (r_shift deep shifted (r_gt_no M cap Q deep (omega (arith, le)) k)))))) (omega arith) (omega arith);
      };
    }
      where
        head : word m (w + 0) ≡ a.binders * 65536 + a.number
        head = at_zero m w ∙ is

        lower : (x j i : ℕ) → x ≡ j * 65536 + i → i < 65536 → (x * 2 ^ (16 % 32)) % 2 ^ 32 ≡ 65536 * i
        lower x j i e lt = omega (arith, e, lt)

        shifted : (word m (w + 0) * 2 ^ (16 % 32)) % 2 ^ 32 ≡ 65536 * a.number
        shifted = lower (word m (w + 0)) a.binders a.number head small

        same : (n : ℕ) → 0 < n → word m (w + 0) ≡ n * 65536 + a.number → Says m p h ls 4 1 (equal_test d a.number n)
        same zero lt e = absurd (omega arith)
        same (suc n) lt e = record {
          run = λ f vals rest l u deep k. looser M cap Q (r_get M cap Q deep is_at (r_load M cap Q deep (omega (arith, within)) (r_const M cap Q deep (suc n * 65536 + a.number) (r_eq_yes M cap Q deep e k)))) (omega arith) (omega arith);
        }

        other : (c n : ℕ) → is_of Fielded n ≡ true → c < a.number → Says m p h ls 4 0 (equal_test d c n)
        other c zero e lt = absurd (false≢true e)
        other c (suc n) e lt = record {
          run = λ f vals rest l u deep k. looser M cap Q (r_get M cap Q deep is_at (r_load M cap Q deep (omega (arith, within)) (r_const M cap Q deep (suc n * 65536 + c) (r_eq_no M cap Q deep (λ z. omega (arith, z, head, lt, small)) k)))) (omega arith) (omega arith);
        }

  module _ (m : Mem) (p h : ℕ) (ls : List ConstValue) (d : ℕ) (v : Val) (tail : Bool) (D k s : ℕ) where
    abbrev Gives : ℕ → Position → (List Instr → List Instr) → Type 0
    Gives n at g = Yields at m p h ls d v tail D k s n g

    -- wherever the instructions stand
    abbrev AllGive : ℕ → (Position → List Instr → List Instr) → Type 0
    AllGive n g = (at : Position) → Yields at m p h ls d v tail D k s n (g at)

    pub more_steps : {n : ℕ} {at : Position} {g : List Instr → List Instr} (n' : ℕ) → n ≤ n' → Gives n at g → Gives n' at g
    more_steps n' le y = record { run = λ f vals rest l u bound stood deep fits go out. y.run f vals rest l u bound stood deep (omega (arith, le, fits)) go out }

    arm_first : {t n : ℕ} {test : List Instr → List Instr} {g1 g2 : Position → List Instr → List Instr} → Says m p h ls t 1 test → Wherever g1 → Wherever g2 → AllGive n g1 → AllGive (t + 2 + n) (arm true test g1 g2)
    arm_first {t} {n} {test} {g1} {g2} says f1 f2 y at = record {
      run = λ f vals rest l u bound stood deep fits go out.
          looser M cap Q (says.run f vals _ (k + l) (n + 2 + u) (omega (arith, deep)) (first at m p h ls d v tail D k s n (g1 (deeper at)) (g2 (deeper at)) f vals rest l u stood deep (f1 (deeper at)).ends (f2 (deeper at)).ends (y (deeper at)) go out)) (omega arith) (omega (arith, fits));
    }

    arm_second : {t n : ℕ} {test : List Instr → List Instr} {g1 g2 : Position → List Instr → List Instr} → Says m p h ls t 0 test → Wherever g1 → AllGive n g2 → AllGive (t + 2 + n) (arm true test g1 g2)
    arm_second {t} {n} {test} {g1} {g2} says f1 y at = record {
      run = λ f vals rest l u bound stood deep fits go out.
          looser M cap Q (says.run f vals _ (k + l) (n + 2 + u) (omega (arith, deep)) (second at m p h ls d v tail D k s n (g1 (deeper at)) (g2 (deeper at)) f vals rest l u stood deep (f1 (deeper at)).elses (y (deeper at)) go out)) (omega arith) (omega (arith, fits));
    }

    gives_either : (b : Bool) {n : ℕ} (g1 g2 : Position → List Instr → List Instr) (at : Position) → ((b ≡ true) → Gives n at (g1 at)) → ((b ≡ false) → Gives n at (g2 at)) → Gives n at (λ r. (if b then g1 else g2) at r)
    gives_either true g1 g2 at x y = x refl
    gives_either false g1 g2 at x y = y refl

    -- none of these: the others
    chain_passed : {n : ℕ} (as' : List Alternative) (others : Position → List Instr → List Instr) → All (λ (x : Alternative). Says m p h ls 4 0 (equal_test d x.number x.binders)) as' → AllShaped as' → AllGive n others → AllGive (6 * length as' + n) (chain d true as' others)
    chain_passed [] others told f y at = more_steps _ (omega arith) (y at)
    chain_passed (x ∷ as') others told f y at = more_steps _ (omega arith) (arm_second {g1 = x.code} {g2 = chain d true as' others} told.0 f.0 (chain_passed as' others told.1 f.1 y) at)

    module _ {n : ℕ} {kind : Kind} {a : Alternative} (tells : Tells kind m p h ls d a) (y : AllGive n a.code) where
      -- one of these
      chain_found : (some : Bool) (low : ℕ) {as' : List Alternative} (others : Position → List Instr → List Instr) → Ordered low as' → AllShaped as' → All (OfKind kind) as' → Wherever others → Among a as' → AllGive (6 * length as' + n) (chain d some as' others)
      chain_found some low others o f e fo (among_first {as' = xs}) at = either (some || is_some xs)
        where
          either : (b : Bool) → Gives (6 * suc (length xs) + n) at (arm b (equal_test d a.number a.binders) a.code (chain d some xs others) at)
          either false = more_steps _ (omega arith) (y at)
          either true = more_steps _ (omega arith) (arm_first {g1 = a.code} {g2 = chain d some xs others} tells.same f.0 (shaped_chain d some xs others f.1 fo) y at)
      chain_found some low others o f e fo (among_later {x = x} {as' = xs} here) at =
          let lt = among_from (suc x.number) o.1 here in
          let r = chain_found some (suc x.number) others o.1 f.1 e.1 fo here in
          let z = more_steps (6 * suc (length xs) + n) (omega arith) (arm_second {g1 = x.code} {g2 = chain d some xs others} (tells.other x e.0 (omega (arith, lt))) f.0 r at) in
          subst (λ (b : Bool). Gives (6 * suc (length xs) + n) at (arm b (equal_test d x.number x.binders) x.code (chain d some xs others) at)) (sym (or_true some (among_some here))) z

      -- in the half in which it is
      in_half : (half rounds : ℕ) {as' : List Alternative} → 6 ≤ length as' → half ≡ length as' / 2 → AllShaped as' → Side a half as' → (Among a (take half as') → AllGive (6 * length (take half as') + n) (search kind d rounds (take half as'))) →
          (Among a (drop half as') → AllGive (6 * length (drop half as') + n) (search kind d rounds (drop half as'))) → AllGive (6 * length as' + n) (arm true (below_test kind d (first_number (drop half as'))) (search kind d rounds (take half as')) (search kind d rounds (drop half as')))
      in_half half rounds {as'} many is f (before lt m) x y at =
          let f1 = shaped_search kind d rounds (take half as') (all_take (λ (x : Alternative). Wherever x.code) half as' f) in
          let f2 = shaped_search kind d rounds (drop half as') (all_drop (λ (x : Alternative). Wherever x.code) half as' f) in
          more_steps _ (omega (arith, many, is, length-take-le half as' (omega (arith, is)))) (arm_first {g1 = search kind d rounds (take half as')} {g2 = search kind d rounds (drop half as')} (tells.below (first_number (drop half as')) lt) f1 f2 (x m) at)
      in_half half rounds {as'} many is f (behind le m) x y at =
          let f1 = shaped_search kind d rounds (take half as') (all_take (λ (x : Alternative). Wherever x.code) half as' f) in
          more_steps _ (omega (arith, many, is, length-drop half as')) (arm_second {g1 = search kind d rounds (take half as')} {g2 = search kind d rounds (drop half as')} (tells.beyond (first_number (drop half as')) le) f1 (y m) at)

      search_found : (rounds low : ℕ) (as' : List Alternative) → Ordered low as' → AllShaped as' → All (OfKind kind) as' → Among a as' → AllGive (6 * length as' + n) (search kind d rounds as')
      search_found zero low as' o f e here at = chain_found false low none o f e shaped_none here at
      search_found (suc rounds) low as' o f e here at =
          let half = length as' / 2 in
          gives_either (are_many as') _ _ at
          (λ enough. let many = leb-true many_alternatives (length as') enough in
          in_half half rounds many refl f (side_of half low (omega (arith, many)) o here)
          (λ m. search_found rounds low (take half as') (ordered_take half low as' o) (all_take (λ (x : Alternative). Wherever x.code) half as' f) (all_take (OfKind kind) half as' e) m)
          (λ m. search_found rounds low (drop half as') (ordered_drop half low as' o) (all_drop (λ (x : Alternative). Wherever x.code) half as' f) (all_drop (OfKind kind) half as' e) m) at)
          (λ few. chain_found false low none o f e shaped_none here at)

      kind_found : (as' : List Alternative) → Ordered 0 as' → AllShaped as' → OfKind kind a → Among a as' → AllGive (6 * length (kept kind as') + n) (search kind d most_rounds (kept kind as'))
      kind_found as' o f e here = search_found most_rounds 0 (kept kind as') (ordered_kept kind 0 as' o) (all_kept (λ (x : Alternative). Wherever x.code) kind as' f) (kept_of_kind kind as') (among_kept kind e here)

    module _ (n w : ℕ) (a : Alternative) (is_at : slice_get ls d ≡ Some (I32 w)) (as' : List Alternative) (o : Ordered 0 as') (f : AllShaped as') (here : Among a as') (y : AllGive n a.code) where
      abbrev bare : List Alternative
      bare = kept Bare as'

      abbrev fielded : List Alternative
      fielded = kept Fielded as'

      f1 : AllShaped bare
      f1 = all_kept (λ (x : Alternative). Wherever x.code) Bare as' f

      f2 : AllShaped fielded
      f2 = all_kept (λ (x : Alternative). Wherever x.code) Fielded as' f

      sizes : length bare + length fielded ≡ length as'
      sizes = kept_sizes as'

      -- a constructor without arguments
      pub bare_found : a.binders ≡ 0 → w ≡ 2 * a.number + 1 → AllGive (6 * length as' + 5 + n) (tests d as')
      bare_found none_bound is at =
          let tells = tells_bare m p h ls d w is_at a none_bound is in
          let e : OfKind Bare a = ap (λ (j : ℕ). is_of Bare j) none_bound in
          let x = kind_found tells y as' o f e here in
          gives_either (is_some fielded) _ _ at
          (λ both. gives_either (are_many bare) _ _ at
          (λ many. more_steps _ (omega (arith, sizes)) (arm_first {g1 = search Bare d most_rounds bare} {g2 = search Fielded d most_rounds fielded} (says_bare m p h ls d w is_at a.number is) (shaped_search Bare d most_rounds bare f1) (shaped_search Fielded d most_rounds fielded f2) x at))
          (λ few. more_steps _ (omega (arith, sizes)) (chain_found tells y true 0 (search Fielded d most_rounds fielded) (ordered_kept Bare 0 as' o) f1 (kept_of_kind Bare as') (shaped_search Fielded d most_rounds fielded f2) (among_kept Bare e here) at)))
          (λ alone. more_steps _ (omega (arith, sizes)) (x at))

      -- none of the bare ones has the word of a block
      none_bare : (q : ℕ) → w ≡ 2 * q → (xs : List Alternative) → All (OfKind Bare) xs → All (λ (x : Alternative). Says m p h ls 4 0 (equal_test d x.number x.binders)) xs
      none_bare q is [] e = tt
      none_bare q is (x ∷ xs) e = (other_word m p h ls d w is_at x.number x.binders e.0 (λ z. omega (arith, z, is)), none_bare q is xs e.1)

      -- a constructor with arguments
      pub fielded_found : (q : ℕ) → w ≡ 2 * q → 0 < a.binders → w + 4 ≤ length m → word m w ≡ a.binders * 65536 + a.number → a.number < 65536 → AllGive (6 * length as' + 5 + n) (tests d as')
      fielded_found q even some within is small at =
          let tells = tells_fielded m p h ls d w is_at a some within is small in
          let e : OfKind Fielded a = bound a.binders some in
          let x = kind_found tells y as' o f e here in
          gives_either (is_some fielded) _ _ at
          (λ both. gives_either (are_many bare) _ _ at
          (λ many. more_steps _ (omega (arith, sizes)) (arm_second {g1 = search Bare d most_rounds bare} {g2 = search Fielded d most_rounds fielded} (says_block m p h ls d w is_at q even) (shaped_search Bare d most_rounds bare f1) x at))
          (λ few. more_steps _ (omega (arith, sizes)) (chain_passed bare (search Fielded d most_rounds fielded) (none_bare q even bare (kept_of_kind Bare as')) f1 x at)))
          (λ alone. absurd (false≢true (sym alone ∙ among_some (among_kept Fielded e here))))
        where
          bound : (j : ℕ) → 0 < j → is_of Fielded j ≡ true
          bound zero lt = absurd (omega arith)
          bound (suc j) lt = refl
