-- How many bytes emitted code has, and that its immediates have their bits.
use Rattle.std.proofs.Common.{◌≡◌, ℕ, zero, suc, ◌+◌, ◌-◌, ◌*◌, ◌/◌, ◌<◌, ◌≤◌, List, [], ◌∷◌, length, take, drop, Option, Some, None, Bool, true, false, refl, arith}
use Rattle.std.proofs.Common.{length-take-le, length-drop}
use Rattle.std.proofs.lemmas.Bool.{and_parts, leb-true}
use Rattle.std.proofs.lemmas.Option.{slice_get_within}
use Rattle.std.specs.Prelude.{max, nat_eq, nat_le, if◌then◌else◌}
use Rattle.wasm_core.specs.declared.types.ValType.TheVariants.{I32}
use Rattle.wasm_core.specs.declared.instrs.BlockType.{BlockType}
use Rattle.wasm_core.specs.declared.instrs.BlockType.TheVariants.{Empty, Value}
use Rattle.wasm_core.specs.declared.instrs.I32Op.{I32Op}
use Rattle.wasm_core.specs.declared.instrs.I32Op.TheVariants as op32
use Rattle.wasm_core.specs.declared.instrs.Instr.{Instr}
use Rattle.wasm_core.specs.declared.instrs.Instr.TheVariants.{Unreachable, Loop, Else, End, Br, Call, ReturnCall, ReturnCallIndirect, LocalGet, LocalSet, LocalTee, GlobalGet, GlobalSet, MemorySize, I32 as Operation}
use Rattle.wasm_core.specs.ModuleCondition.{All, IsInstr}
use Rattle.wasm_core.specs.ShortestBytes.{put_all, put_instr, put_u32}
use Rattle.anf_convert.specs.declared.program.Atom.{Atom}
use Rattle.anf_convert.specs.AnfForm.{AtomFits, AtomsFit, fields}
use Rattle.closure_lift.specs.Lifted.{Op, ConstOp, AppOp, ConOp, ClosOp, CaseOp, Block, TailAtom, BindAtom, Tail, Bind, BranchBlocks, NoBranch, Branch, Program, branch_count}
use Rattle.closure_lift.specs.LiftedForm.{OpFits, LiftedBlockFits, BranchesFit, Formed, Limits}
use Rattle.wasm_emit.specs.EmittedCode.{Load, StoreWord, ConstWord, IfWord, IfOnly, CallClosure, ensure_room, constant_index}
use Rattle.wasm_emit.specs.EmittedLocals.{top, top_op, top_branches}
use Rattle.wasm_emit.specs.EmitLaws.{CountsFit}
use Rattle.wasm_emit.proofs.Lengths.{bytes_of, size, u_1, u_2, u_3, z_unreachable, z_if, z_else, z_end, z_op, z_call, z_indirect, z_get, z_set, z_tee, z_heap, z_size, z_room, z_small, z_header, z_global, z_load, z_store, z_const}
use Rattle.wasm_emit.proofs.Spelled.{Good, fits}
use Rattle.known_calls.specs.KnownPlaces.{Word, InLocal, InField, IsConst, Place, At, word_of, known_function, is_read, block_reads}
use Rattle.known_calls.specs.KnownCode.{Position, Inside, InTail, deeper, worker_index, jumps, most_blocks, read_word, read, atom, push_words, fill, new_block, block, into_local, into_params, call_worker, application, choose, unmade, known, moves, move_field, branch_places, op, code, alternatives, Final, call_of, closure_call}
use Rattle.known_calls.specs.KnownTests.{Kind, Bare, Fielded, Alternative, keep, kept, is_of, is_some, first_number, equal_test, below_test, bare_test, arm, none, chain, are_many, many_alternatives, most_rounds, search, tests}
use Rattle.known_calls.proofs.Parted.{all_kept, all_take, all_drop}
use Rattle.known_calls.specs.KnownModule.{captured_words}
use Rattle.known_calls.specs.KnownWeight.{op_weight, weight, branches_weight}
use Rattle.known_calls.proofs.Unreading.{unmade_some}
use Rattle.known_calls.proofs.SameLocals.{top_less}
use Rattle.known_calls.proofs.Fitting.{WordFits, PlaceFits, branch_fit, word_fits, function_fits, known_fits}

-- at most k bytes in front of the rest
pub record Bounded (k : ℕ) (g : List Instr → List Instr) : Type 0 where
  pub bytes : (rest : List Instr) → size (g rest) ≤ k + size rest
  pub spelled : {rest : List Instr} → Good rest → Good (g rest)

pub b_none : Bounded 0 (λ r. r)
b_none = record { bytes = λ r. omega arith; spelled = λ h. h }

pub b_one : {k : ℕ} (i : Instr) → ((rest : List Instr) → size (i ∷ rest) ≤ k + size rest) → IsInstr i → Bounded k (λ r. i ∷ r)
b_one i h fit = record { bytes = h; spelled = λ good. fits fit good }

infixr 30 ◌then◌
pub ◌then◌ : {j k : ℕ} {f g : List Instr → List Instr} → Bounded j f → Bounded k g → Bounded (j + k) (λ r. f (g r))
◌then◌ {g = g} x y = record { bytes = λ r. omega (arith, x.bytes (g r), y.bytes r); spelled = λ h. x.spelled (y.spelled h) }

pub b_most : {k : ℕ} {g : List Instr → List Instr} (k' : ℕ) → k ≤ k' → Bounded k g → Bounded k' g
b_most k' le x = record { bytes = λ r. omega (arith, le, x.bytes r); spelled = λ h. x.spelled h }

-- the instructions that only entries, workers and constants have
z_loop : (rest : List Instr) (t : BlockType) → size (Loop t ∷ rest) ≤ 2 + size rest
unfolding put_all put_instr
z_loop rest t = omega arith

z_br : (rest : List Instr) (n : ℕ) → n < 16384 → size (Br n ∷ rest) ≤ 3 + size rest
unfolding put_all put_instr
z_br rest n h = omega (arith, u_2 3 n (bytes_of rest) h)

z_return_call : (rest : List Instr) (f : ℕ) → f < 2097152 → size (ReturnCall f ∷ rest) ≤ 4 + size rest
unfolding put_all put_instr
z_return_call rest f h = omega (arith, u_3 2 f (bytes_of rest) h)

z_return_indirect : (rest : List Instr) → size (ReturnCallIndirect 2 0 ∷ rest) ≤ 3 + size rest
unfolding put_all put_instr
z_return_indirect rest = omega (arith, u_1 4 2 (put_u32 0 (bytes_of rest)) (omega arith), u_1 4 0 (bytes_of rest) (omega arith))

-- and one that a main with arguments has
z_get_global : (rest : List Instr) (x : ℕ) → x < 128 → size (GlobalGet x ∷ rest) ≤ 2 + size rest
unfolding put_all put_instr
z_get_global rest x h = omega (arith, u_1 4 x (bytes_of rest) h)

pub b_get_global : (x : ℕ) → x < 128 → Bounded 2 (λ r. GlobalGet x ∷ r)
b_get_global x h = b_one (GlobalGet x) (λ r. z_get_global r x h) (omega arith)

pub b_loop : (t : BlockType) → Bounded 2 (λ r. Loop t ∷ r)
b_loop t = b_one (Loop t) (λ r. z_loop r t) tt

pub b_get : (x : ℕ) → x < 100000 → Bounded 4 (λ r. LocalGet x ∷ r)
b_get x h = b_one (LocalGet x) (λ r. z_get r x (omega arith)) (omega arith)

pub b_set : (x : ℕ) → x < 100000 → Bounded 4 (λ r. LocalSet x ∷ r)
b_set x h = b_one (LocalSet x) (λ r. z_set r x (omega arith)) (omega arith)

b_tee : (x : ℕ) → x < 100000 → Bounded 4 (λ r. LocalTee x ∷ r)
b_tee x h = b_one (LocalTee x) (λ r. z_tee r x (omega arith)) (omega arith)

pub b_load : (o : ℕ) → o < 16384 → Bounded 4 (λ r. Load o ∷ r)
b_load o h = b_one (Load o) (λ r. z_load r o h) (omega arith, omega arith)

b_const : (n : ℕ) → n < 4294967296 → Bounded 6 (λ r. ConstWord n ∷ r)
b_const n h = b_one (ConstWord n) (λ r. z_const r n) (omega arith)

b_call : (f : ℕ) → f < 2097152 → Bounded 4 (λ r. Call f ∷ r)
b_call f h = b_one (Call f) (λ r. z_call r f h) (omega arith)

pub b_return_call : (f : ℕ) → f < 2097152 → Bounded 4 (λ r. ReturnCall f ∷ r)
b_return_call f h = b_one (ReturnCall f) (λ r. z_return_call r f h) (omega arith)

b_call_of : (at : Position) (f : ℕ) → f < 2097152 → Bounded 4 (λ r. call_of at f ∷ r)
b_call_of Inside f h = b_call f h
b_call_of Final f h = b_return_call f h
b_call_of (InTail g depth) f h = b_return_call f h

b_closure_call : (at : Position) → Bounded 3 (λ r. closure_call at ∷ r)
b_closure_call Inside = b_one CallClosure (λ r. z_indirect r) (omega arith, omega arith)
b_closure_call Final = b_one (ReturnCallIndirect 2 0) (λ r. z_return_indirect r) (omega arith, omega arith)
b_closure_call (InTail g depth) = b_one (ReturnCallIndirect 2 0) (λ r. z_return_indirect r) (omega arith, omega arith)

pub b_end : Bounded 1 (λ r. End ∷ r)
b_end = b_one End (λ r. z_end r) tt

pub b_unreachable : Bounded 1 (λ r. Unreachable ∷ r)
b_unreachable = b_one Unreachable (λ r. z_unreachable r) tt

pub b_global : (x : ℕ) → x < 128 → Bounded 2 (λ r. GlobalSet x ∷ r)
b_global x h = b_one (GlobalSet x) (λ r. z_global r x h) (omega arith)

b_arms : {j k : ℕ} {g1 g2 : List Instr → List Instr} → Bounded j g1 → Bounded k g2 → Bounded (j + k + 4) (λ r. IfWord ∷ g1 (Else ∷ g2 (End ∷ r)))
b_arms x y = b_most _ (omega arith) (b_one IfWord (λ r. z_if r (Value I32)) tt then (x then (b_one Else (λ r. z_else r) tt then (y then b_end))))

-- a load at a low offset
z_load_low : (rest : List Instr) (o : ℕ) → o < 128 → size (Load o ∷ rest) ≤ 3 + size rest
unfolding put_all put_instr
z_load_low rest o h = omega (arith, u_1 4 2 (put_u32 o (bytes_of rest)) (omega arith), u_1 4 o (bytes_of rest) h)

b_load_low : (o : ℕ) → o < 128 → Bounded 3 (λ r. Load o ∷ r)
b_load_low o h = b_one (Load o) (λ r. z_load_low r o h) (omega arith, omega arith)

b_op_of : (o : I32Op) → Bounded 1 (λ r. Operation o ∷ r)
b_op_of o = b_one {k = 1} (Operation o) (λ r. z_op r o) tt

-- the tests of a match
b_equal_test : (d c n : ℕ) → d < 100000 → 2 * c + 1 < 4294967296 → n * 65536 + c < 4294967296 → Bounded 14 (equal_test d c n)
b_equal_test d c zero hd hw hh = b_most 14 (omega arith) (b_get d hd then (b_const (2 * c + 1) hw then b_op_of op32.Eq))
b_equal_test d c (suc n) hd hw hh = b_most 14 (omega arith) (b_get d hd then (b_load_low 0 (omega arith) then (b_const (suc n * 65536 + c) hh then b_op_of op32.Eq)))

b_below_test : (k : Kind) (d c : ℕ) → d < 100000 → 65536 * c < 4294967296 → Bounded 19 (below_test k d c)
b_below_test Bare d c hd hc = b_most 19 (omega arith) (b_const (2 * c) (omega (arith, hc)) then (b_get d hd then b_op_of op32.GtU))
b_below_test Fielded d c hd hc =
    b_most 19 (omega arith) (b_const (65536 * c) hc then (b_get d hd then (b_load_low 0 (omega arith) then (b_one {k = 4} (ConstWord 16) (λ r. z_small r 16 (omega arith)) (omega arith) then (b_op_of op32.Shl then b_op_of op32.GtU)))))

b_bare_test : (d : ℕ) → d < 100000 → Bounded 11 (bare_test d)
b_bare_test d hd = b_most 11 (omega arith) (b_get d hd then (b_const 1 (omega arith) then b_op_of op32.And))

b_move : (b : Bool) (d : ℕ) → d < 100000 → Bounded 11 (move_field b d)
b_move false d hd = b_most 11 (omega arith) b_none
b_move true d hd = b_get d hd then (b_load_low 4 (omega arith) then b_set d hd)

-- instructions of at most so many bytes, wherever they stand
abbrev Bounds : ℕ → (Position → List Instr → List Instr) → Type 0
Bounds k g = (at : Position) → Bounded k (g at)

b_arm : (b : Bool) {i j k : ℕ} {test : List Instr → List Instr} {branch behind : Position → List Instr → List Instr} → Bounded i test → Bounds j branch → Bounds k behind → Bounds (i + j + k + 4) (arm b test branch behind)
b_arm true t x y at = b_most _ (omega arith) (t then b_arms (x (deeper at)) (y (deeper at)))
b_arm false t x y at = b_most _ (omega arith) (x at)

b_either : (b : Bool) {k : ℕ} {f g : Position → List Instr → List Instr} → ((b ≡ true) → Bounds k f) → ((b ≡ false) → Bounds k g) → (at : Position) → Bounded k (λ r. (if b then f else g) at r)
b_either true x y at = x refl at
b_either false x y at = y refl at

-- the bytes of alternatives, of which each has a branch of at most so many, and 19 more
abbrev all_weight : List Alternative → ℕ
all_weight [] = 0
all_weight (a ∷ as') = 31 + weight a.body + all_weight as'

-- what the tests ask of an alternative
record Light (a : Alternative) : Type 0 where
  low : a.number < 65536
  few : a.binders < 65535
  code : Bounds (11 + weight a.body) a.code

abbrev AllLight : List Alternative → Type 0
AllLight as' = All Light as'

weight_length : (as' : List Alternative) → 31 * length as' ≤ all_weight as'
weight_length [] = omega arith
weight_length (a ∷ as') = omega (arith, weight_length as')

weight_halves : (n : ℕ) (as' : List Alternative) → all_weight (take n as') + all_weight (drop n as') ≡ all_weight as'
weight_halves zero as' = omega arith
weight_halves (suc n) [] = omega arith
weight_halves (suc n) (a ∷ as') = omega (arith, weight_halves n as')

length_halves : (n : ℕ) (as' : List Alternative) → n ≤ length as' → (length (take n as') ≡ n) × (length (drop n as') + n ≡ length as')
length_halves n as' le = (length-take-le n as' le, omega (arith, le, length-drop n as'))

weight_kinds : (as' : List Alternative) → all_weight (kept Bare as') + all_weight (kept Fielded as') ≡ all_weight as'
weight_kinds [] = refl
weight_kinds (a ∷ as') = one a.binders (weight_kinds as')
  where
    one : (n : ℕ) → all_weight (kept Bare as') + all_weight (kept Fielded as') ≡ all_weight as' → all_weight (keep (is_of Bare n) a (kept Bare as')) + all_weight (keep (is_of Fielded n) a (kept Fielded as')) ≡ 31 + weight a.body + all_weight as'
    one zero h = omega (arith, h)
    one (suc n) h = omega (arith, h)

module _ (d : ℕ) (hd : d < 100000) where
  b_chain : (as' : List Alternative) (others : Position → List Instr → List Instr) (k : ℕ) → AllLight as' → Bounds k others → Bounds (all_weight as' + k) (chain d true as' others)
  b_chain [] others k h o at = b_most _ (omega arith) (o at)
  b_chain (a ∷ as') others k h o at =
      let x = h.0 in
      b_most _ (omega arith) (b_arm true {branch = a.code} {behind = chain d true as' others} (b_equal_test d a.number a.binders hd (omega (arith, x.low)) (omega (arith, x.low, x.few))) x.code (b_chain as' others k h.1 o) at)

  -- where the last has no test
  b_alone : (as' : List Alternative) (k : ℕ) → AllLight as' → 0 < length as' → all_weight as' ≤ k + 18 + 2 * length as' → Bounds k (chain d false as' none)
  b_alone [] k h some le at = absurd (omega arith)
  b_alone (a ∷ []) k h some le at = let x = h.0 in b_most k (omega (arith, le)) (x.code at)
  b_alone (a ∷ b ∷ as') k h some le at =
      let x = h.0 in
      let long = weight_length as' in
      let rest = k - 29 - weight a.body in
      b_most k (omega (arith, le, long)) (b_arm true {branch = a.code} {behind = chain d false (b ∷ as') none} (b_equal_test d a.number a.binders hd (omega (arith, x.low)) (omega (arith, x.low, x.few))) x.code (b_alone (b ∷ as') rest h.1 (omega arith) (omega (arith, le, long))) at)

  first_low : (as' : List Alternative) → AllLight as' → first_number as' < 65536
  first_low [] h = omega arith
  first_low (a ∷ as') h = let x = h.0 in x.low

  b_search : (k : Kind) (rounds : ℕ) (as' : List Alternative) (n spare : ℕ) → AllLight as' → 0 < length as' → spare ≤ 3 → spare ≤ length as' → all_weight as' ≤ n + 18 + 2 * spare → Bounds n (search k d rounds as')
  b_search k zero as' n spare h some le few within = b_alone as' n h some (omega (arith, few, within))
  b_search k (suc rounds) as' n spare h some le few within =
      let half = length as' / 2 in
      b_either (are_many as')
      (λ e.
      let many = leb-true many_alternatives (length as') e in
      let sizes = length_halves half as' (omega arith) in
      let w = weight_halves half as' in
      let w1 = weight_length (take half as') in
      let w2 = weight_length (drop half as') in
      let h1 = all_take Light half as' h in
      let h2 = all_drop Light half as' h in
      let front = b_search k rounds (take half as') (all_weight (take half as') - 24) 3 h1 (omega (arith, many, sizes.0)) (omega arith) (omega (arith, many, sizes.0)) (omega arith) in
      let back = b_search k rounds (drop half as') (all_weight (drop half as') - 24) 3 h2 (omega (arith, many, sizes.1)) (omega arith) (omega (arith, many, sizes.1)) (omega arith) in
      λ at. b_most n (omega (arith, many, sizes.0, sizes.1, w, w1, w2, le, within))
      (b_arm true {branch = search k d rounds (take half as')} {behind = search k d rounds (drop half as')} (b_below_test k d (first_number (drop half as')) hd (omega (arith, first_low (drop half as') h2))) front back at))
      (λ e. b_alone as' n h some (omega (arith, few, within)))

  -- with none there is a trap
  b_search_all : (k : Kind) (as' : List Alternative) → AllLight as' → Bounds (1 + all_weight as') (search k d most_rounds as')
  b_search_all k [] h at = b_unreachable
  b_search_all k (a ∷ as') h at = b_search k most_rounds (a ∷ as') (1 + all_weight (a ∷ as')) 0 h (omega arith) (omega arith) (omega arith) (omega arith) at

  b_tests : (as' : List Alternative) → AllLight as' → Bounds (1 + all_weight as') (tests d as')
  b_tests as' h =
      let bare = kept Bare as' in
      let fielded = kept Fielded as' in
      let w = weight_kinds as' in
      let h1 = all_kept Light Bare as' h in
      let y = b_search_all Fielded fielded (all_kept Light Fielded as' h) in
      b_either (is_some fielded)
      (λ s. b_either (are_many bare)
      (λ e.
      let many = leb-true many_alternatives (length bare) e in
      let w1 = weight_length bare in
      λ at. b_most _ (omega (arith, w, w1, many)) (b_arm true {branch = search Bare d most_rounds bare} {behind = search Fielded d most_rounds fielded} (b_bare_test d hd) (b_search Bare most_rounds bare (all_weight bare - 18) 0 h1 (omega (arith, many)) (omega arith) (omega arith) (omega (arith, w1, many))) y at))
      (λ e at. b_most _ (omega (arith, w)) (b_chain bare (search Fielded d most_rounds fielded) (1 + all_weight fielded) h1 y at)))
      (λ s at. b_most _ (omega (arith, w)) (b_search_all Bare bare h1 at))

b_word : (far d : ℕ) (w : Word) → far ≤ 16384 → d ≤ 100000 → WordFits far d w → Bounded 8 (read_word w)
b_word far d (InLocal x) hf hd h = b_most 8 (omega arith) (b_get x (omega arith))
b_word far d (InField x o) hf hd h = b_get x (omega (arith, h.0)) then b_load o (omega (arith, h.1))
b_word far d (IsConst n) hf hd h = b_most 8 (omega arith) (b_const n h)

b_read : (o : Option Word) → ((w : Word) → o ≡ Some w → Bounded 8 (read_word w)) → Bounded 8 (read o)
b_read None h = b_most 8 (omega arith) b_unreachable
b_read (Some w) h = h w refl

b_push : (ws : List Word) → All (WordFits 16384 100000) ws → Bounded (8 * length ws) (push_words ws)
b_push [] h = b_most _ (omega arith) b_none
b_push (w ∷ ws) h = b_most _ (omega arith) (b_push ws h.1 then b_word 16384 100000 w (omega arith) (omega arith) h.0)

pub b_captured : (n : ℕ) → n < fields → Bounded (8 * n) (captured_words n)
b_captured zero h = b_most _ (omega arith) b_none
b_captured (suc n) h = b_most _ (omega arith) (b_captured n (omega arith) then (b_get 0 (omega arith) then b_load (4 * suc n) (omega arith)))

b_params : (n : ℕ) → n < fields → Bounded (4 * n + 4) (into_params n)
b_params zero h = b_most _ (omega arith) (b_set 0 (omega arith))
b_params (suc n) h = b_most _ (omega arith) (b_set (suc n) (omega arith) then b_params n (omega arith))

b_ensure : Bounded 15 ensure_room
b_ensure =
    b_most 15 (omega arith) (b_one (GlobalGet 2) (λ r. z_heap r) (omega arith) then (b_one MemorySize (λ r. z_size r) tt then (b_one (ConstWord 16) (λ r. z_small r 16 (omega arith)) (omega arith) then (b_one (Operation op32.Shl) (λ r. z_op r op32.Shl) tt
    then (b_one (Operation op32.GtU) (λ r. z_op r op32.GtU) tt then (b_one IfOnly (λ r. z_if r Empty) tt then (b_one (Call 0) (λ r. z_room r) (omega arith) then b_end)))))))

module _ (P : Program) (m : ℕ) (form : Formed P m) (counts : CountsFit P m) (limits : Limits P) where
  abbrev Near : List Place → Type 0
  Near ps = All (PlaceFits P 16384 100000) ps

  b_atom : (n : ℕ) (ps : List Place) (a : Atom) → AtomFits n a → Near ps → Bounded 8 (atom ps a)
  b_atom n ps a fit h = b_read (word_of ps a) (λ w e. b_word 16384 100000 w (omega arith) (omega arith) (word_fits P 16384 n 100000 ps a fit h e))

  b_fill : (n d : ℕ) (ps : List Place) (as' : List Atom) → d < 100000 → length as' < fields → AtomsFit n as' → Near ps → Bounded (16 * length as') (fill ps d as')
  b_fill n d ps [] hd few fit h = b_most _ (omega arith) b_none
  b_fill n d ps (a ∷ as') hd few fit h =
      b_most _ (omega arith) (b_get d hd then (b_atom n ps a fit.0 h then (b_one {k = 4} (StoreWord (4 * suc (length as'))) (λ r. z_store r (4 * suc (length as')) (omega arith)) (omega arith, omega arith) then b_fill n d ps as' hd (omega arith) fit.1 h)))

  b_new_block : (n d header : ℕ) (ps : List Place) (as' : List Atom) → d < 100000 → header < 4294967296 → length as' < fields → AtomsFit n as' → Near ps → Bounded (41 + 16 * length as') (new_block ps d header as')
  b_new_block n d header ps as' hd hh few fit h =
      b_most _ (omega arith) (b_one {k = 2} (GlobalGet 2) (λ r. z_heap r) (omega arith) then (b_tee d hd then (b_one {k = 4} (ConstWord (4 * suc (length as'))) (λ r. z_small r (4 * suc (length as')) (omega arith)) (omega arith) then (b_one {k = 1} (Operation op32.Add) (λ r. z_op r op32.Add) tt
      then (b_global 2 (omega arith) then (b_ensure then (b_get d hd then (b_const header hh then (b_one {k = 3} (StoreWord 0) (λ r. z_header r) (omega arith, omega arith) then b_fill n d ps as' hd few fit h)))))))))

  b_block : (n d header : ℕ) (ps : List Place) (as' : List Atom) → d < 100000 → header < 4294967296 → length as' < fields → AtomsFit n as' → Near ps → Bounded (45 + 16 * length as') (block ps d header as')
  b_block n d header ps as' hd hh few fit h = b_most _ (omega arith) (b_new_block n d header ps as' hd hh few fit h then b_get d hd)

  -- an operation whose word comes into a local
  b_bind : {g : List Instr → List Instr} (n d : ℕ) (ps : List Place) (x : Op) → d < 100000 → Near ps → OpFits P.functions (length P.constants) m n x → Bounded (op_weight x) g → Bounded (4 + op_weight x) (into_local ps d x g)
  b_bind n d ps (ConOp c as') hd h fit y = let small = fit.0 in let few = fit.2 in b_most _ (omega arith) (b_new_block n d _ ps as' hd (omega (arith, small, few)) (omega (arith, few)) fit.3 h)
  b_bind n d ps (ClosOp g as') hd h fit y =
      let takes = fit.0 in
      let few = limits.captured g takes.fn takes.at in
      let low = slice_get_within P.functions g takes.fn takes.at in
      b_most _ (omega arith) (b_new_block n d (suc g) ps as' hd (omega (arith, low, limits.few)) (omega (arith, few, takes.words)) fit.1 h)
  b_bind n d ps (ConstOp x) hd h fit y = b_most _ (omega arith) (y then b_set d hd)
  b_bind n d ps (AppOp f a) hd h fit y = b_most _ (omega arith) (y then b_set d hd)
  b_bind n d ps (CaseOp a bs) hd h fit y = b_most _ (omega arith) (y then b_set d hd)

  b_jump : (b : Bool) (g h n depth : ℕ) → jumps g h depth ≡ b → n ≤ 7 → worker_index P g < 2097152 → Bounded 38 (λ r. if b then into_params n (Br depth ∷ r) else (ReturnCall (worker_index P g) ∷ r))
  b_jump true g h n depth e few low =
      let shallow = leb-true depth most_blocks (and_parts (nat_eq g h) (nat_le depth most_blocks) e).1 in
      b_most 38 (omega (arith, few)) (b_params n (omega arith) then b_one {k = 3} (Br depth) (λ r. z_br r depth (omega (arith, shallow))) (omega (arith, shallow)))
  b_jump false g h n depth e few low = b_most 38 (omega arith) (b_return_call (worker_index P g) low)

  b_worker : (at : Position) (g n : ℕ) → n ≤ 7 → worker_index P g < 2097152 → Bounded 38 (call_worker P at g n)
  b_worker Inside g n few low = b_most 38 (omega arith) (b_call (worker_index P g) low)
  b_worker Final g n few low = b_most 38 (omega arith) (b_return_call (worker_index P g) low)
  b_worker (InTail h depth) g n few low = b_jump (jumps g h depth) g h n depth refl few low

  b_application : (n : ℕ) (ps : List Place) (at : Position) (f a : Atom) (o : Option (ℕ × List Word)) → known_function ps f ≡ o → AtomFits n f → AtomFits n a → Near ps → Bounded 102 (application P ps at f a o)
  b_application n ps at f a None e ff fa h =
      b_most 102 (omega arith) (b_atom n ps f ff h then (b_atom n ps a fa h then (b_atom n ps f ff h then (b_load 0 (omega arith) then b_closure_call at))))
  b_application n ps at f a (Some j) e ff fa h =
      let fit = function_fits P 16384 m form 100000 ps f h e in
      let takes = fit.0 in
      let few = fit.1 in
      b_most 102 (omega (arith, few)) (b_push j.1 fit.2 then (b_atom n ps a fa h then b_worker at j.0 (length j.1) few (omega (arith, slice_get_within P.functions j.0 takes.fn takes.at, limits.few, counts.constants))))

  -- the bytes of a match's branches
  branches_weight_is : (ps : List Place) (d c : ℕ) (bs : BranchBlocks) → all_weight (alternatives P ps d c bs) ≡ branches_weight bs
  branches_weight_is ps d c NoBranch = refl
  branches_weight_is ps d c (Branch n t bs) = omega (arith, branches_weight_is ps d (suc c) bs)

  b_choice : (o : Option Place) {k : ℕ} {g : Place → List Instr → List Instr} {f : List Instr → List Instr} → ((q : Place) → o ≡ Some q → Bounded k (g q)) → Bounded k f → Bounded k (λ r. choose o (λ q. g q r) (f r))
  b_choice None x y = y
  b_choice (Some q) x y = x q refl

  mutual
    pub b_op : (n d : ℕ) (ps : List Place) (at : Position) (x : Op) → top_op d x < 100000 → Near ps → OpFits P.functions (length P.constants) m n x → Bounded (op_weight x) (op P ps d at x)
    b_op n d ps at (ConstOp x) le h fit = b_call_of at (constant_index P x) (omega (arith, limits.few, counts.constants, fit))
    b_op n d ps at (AppOp f a) le h fit = b_application n ps at f a (known_function ps f) refl fit.0 fit.1 h
    b_op n d ps at (ConOp c as') le h fit = let small = fit.0 in let few = fit.2 in b_block n d _ ps as' (omega arith) (omega (arith, small, few)) (omega (arith, few)) fit.3 h
    b_op n d ps at (ClosOp g as') le h fit =
        let takes = fit.0 in
        let few = limits.captured g takes.fn takes.at in
        let low = slice_get_within P.functions g takes.fn takes.at in
        b_block n d (suc g) ps as' (omega arith) (omega (arith, low, limits.few)) (omega (arith, few, takes.words)) fit.1 h
    b_op n d ps at (CaseOp a bs) le h fit =
        b_most _ (omega (arith, branches_weight_is ps d 0 bs)) (b_atom n ps a fit.0 h then (b_set d (omega arith) then b_tests d (omega arith) (alternatives P ps d 0 bs) (b_alternatives n d ps 0 bs (omega arith) (omega (arith, fit.1)) h fit.2) at))

    pub b_code : (n d : ℕ) (ps : List Place) (at : Position) (t : Block) → top d t < 100000 → Near ps → LiftedBlockFits P.functions (length P.constants) m n t → Bounded (weight t) (code P ps d at t)
    b_code n d ps at (TailAtom a) le h fit = b_atom n ps a fit h
    b_code n d ps at (BindAtom a t) le h fit = b_most _ (omega arith) (b_atom n ps a fit.0 h then (b_set d (omega arith) then b_code (suc n) (suc d) (At (InLocal d) ∷ ps) at t (omega arith) (omega arith, h) fit.1))
    b_code n d ps at (Tail x) le h fit = b_op n d ps at x le h fit
    b_code n d ps at (Bind x t) le h fit =
        b_choice (unmade P ps x t) {g = λ q. code P (q ∷ ps) d at t}
        (λ q e. let z = unmade_some (is_read (block_reads 0 t)) (known P ps x) e in b_most _ (omega arith) (b_code (suc n) d (q ∷ ps) at t (omega (arith, top_less d t)) (known_fits P 16384 m form n 100000 ps x fit.0 h z.1, h) fit.1))
        (b_most _ (omega arith) (b_bind n d ps x (omega arith) h fit.0 (b_op n d ps Inside x (omega arith) h fit.0) then (b_code (suc n) (suc d) (At (InLocal d) ∷ ps) at t (omega arith) (omega arith, h) fit.1)))

    b_alternatives : (n d : ℕ) (ps : List Place) (c : ℕ) (bs : BranchBlocks) → max (suc d) (top_branches (suc d) bs) < 100000 → c + branch_count bs ≤ m → Near ps → BranchesFit P.functions (length P.constants) m n bs → AllLight (alternatives P ps d c bs)
    b_alternatives n d ps c NoBranch le few h fit = tt
    b_alternatives n d ps c (Branch j t bs) le few h fit =
        let low = fit.0 in (
          record {
            low = omega (arith, counts.branches, few);
            few = omega (arith, low);
            code = λ at. b_move (moves j t) d (omega arith) then b_code (j + n) (suc d) (branch_places (moves j t) d j ps) at t (omega arith) (branch_fit P 16384 (moves j t) 100000 d j ps (omega arith) (omega (arith, low)) h) fit.1;
          },
          b_alternatives n d ps (suc c) bs (omega arith) (omega (arith, few)) h fit.2,
        )
