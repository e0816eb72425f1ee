-- Emitted code has a typing.
use Rattle.std.proofs.Common.{◌≡◌, ℕ, zero, suc, ◌+◌, ◌/◌, ◌<◌, ◌≤◌, List, [], ◌∷◌, ◌++◌, length, take, drop, replicate, Option, Some, None, Bool, true, false, refl, ap, sym, ◌∙◌, subst, arith, get_or}
use Rattle.std.proofs.lemmas.Bool.{and_parts, eqb-true}
use Rattle.std.proofs.lemmas.Option.{same_Some, slice_get-get_or}
use Rattle.std.specs.Option.{option_map, option_and_then}
use Rattle.std.specs.Prelude.{slice_get, reverse, max, nat_eq, nat_le, if◌then◌else◌, ◌||◌}
use Rattle.wasm_core.specs.declared.types.ValType.TheVariants.{I32}
use Rattle.wasm_core.specs.declared.types.GlobalDef.{GlobalDef}
use Rattle.wasm_core.specs.declared.exports.Export.{Export}
use Rattle.wasm_core.specs.declared.instrs.BlockType.TheVariants.{Value}
use Rattle.wasm_core.specs.declared.instrs.Body.{Body}
use Rattle.wasm_core.specs.declared.instrs.Instr.{Instr}
use Rattle.wasm_core.specs.declared.instrs.Instr.TheVariants.{Else, End, Br, Call, ReturnCall, LocalGet, LocalSet, LocalTee}
use Rattle.wasm_core.specs.Parts.{Parts}
use Rattle.wasm_core.specs.ModuleCondition.{All}
use Rattle.wasm_core.specs.ModuleTyping.{OperandTypes, Operands, Of, known as known_types, Effect, getting, setting, keeping, calling as calling_type, tail_effect, func_type, match_none, Typed, done, unreachable, br, tail_call}
use Rattle.wasm_core.proofs.TypedRules.{match_known, t_plain, t_one_arm, t_two_arms}
use Rattle.anf_convert.specs.declared.program.Atom.{Atom}
use Rattle.anf_convert.specs.AnfForm.{AtomFits, AtomsFit}
use Rattle.closure_lift.specs.Lifted.{Op, ConstOp, AppOp, ConOp, ClosOp, CaseOp, Block, TailAtom, BindAtom, Tail, Bind, BranchBlocks, NoBranch, Branch, Fn, Program}
use Rattle.closure_lift.specs.LiftedForm.{OpFits, LiftedBlockFits, BranchesFit, Formed}
use Rattle.wasm_emit.specs.EmittedCode.{IfWord, constant_index, ensure_room}
use Rattle.wasm_emit.specs.EmittedLocals.{top, top_op, top_branches}
use Rattle.known_calls.specs.KnownPlaces.{Word, InLocal, InField, IsConst, Place, At, word_of, known_function, is_read, block_reads}
use Rattle.known_calls.specs.KnownCode.{Position, Inside, InTail, deeper, worker_index, jumps, most_blocks, read_word, read, atom, push_words, fill, new_block, block, into_local, into_params, call_worker, application, choose, unmade, known, moves, move_field, branch_places, op, code, alternatives, Final, call_of, closure_call}
use Rattle.known_calls.specs.KnownModule.{words_type, worker_type, module_with}
use Rattle.known_calls.specs.KnownTests.{Kind, Bare, Fielded, Alternative, kept, is_some, first_number, equal_test, below_test, bare_test, arm, none, chain, are_many, most_rounds, search, tests}
use Rattle.known_calls.proofs.Parted.{all_kept, all_take, all_drop}
use Rattle.known_calls.proofs.Shapes.{Shaped, Wherever, shaped_none, shaped_chain, shaped_search, shaped_alternatives}
use Rattle.known_calls.proofs.Fitting.{WordFits, PlaceFits, places_up, branch_fit, word_fits, function_fits, known_fits}
use Rattle.known_calls.proofs.Unreading.{unmade_some}
use Rattle.known_calls.proofs.SameLocals.{top_less}
use Rattle.known_calls.proofs.KnownIndices.{not_wide, constant_in, type_of_worker, type_of_words}

-- the first locals are all words
abbrev pub AllWords : ℕ → OperandTypes → Type 0
AllWords size ls = (x : ℕ) → x < size → slice_get ls x ≡ Some I32

pub all_i32 : (n : ℕ) → AllWords n (replicate n I32)
all_i32 zero x h = absurd (omega arith)
all_i32 (suc n) zero h = refl
all_i32 (suc n) (suc x) h = all_i32 n x (omega arith)

-- so many words on the operands
abbrev pub words_on : ℕ → Operands → Operands
words_on zero ts = ts
words_on (suc n) ts = Of I32 ∷ words_on n ts

turned : (n : ℕ) → n ≤ 7 → reverse (replicate (suc n) I32) ≡ replicate (suc n) I32
turned zero h = refl
turned (suc zero) h = refl
turned (suc (suc zero)) h = refl
turned (suc (suc (suc zero))) h = refl
turned (suc (suc (suc (suc zero)))) h = refl
turned (suc (suc (suc (suc (suc zero))))) h = refl
turned (suc (suc (suc (suc (suc (suc zero)))))) h = refl
turned (suc (suc (suc (suc (suc (suc (suc zero))))))) h = refl
turned (suc (suc (suc (suc (suc (suc (suc (suc n)))))))) h = absurd (omega arith)

of_words : (n : ℕ) (ts : Operands) → known_types (replicate n I32) ++ ts ≡ words_on n ts
of_words zero ts = refl
of_words (suc n) ts = ap (λ (us : Operands). Of I32 ∷ us) (of_words n ts)

module _ (P : Program) (most : ℕ) (form : Formed P most) (main : Body) (gs : List GlobalDef) (es : List Export) (pages : ℕ) (far : ℕ) (enough : 16384 ≤ far) (size : ℕ) (ls rs : OperandTypes) (all : AllWords size ls) where
  abbrev m : Parts
  m = module_with P main gs es pages

  -- the labels around a worker's tail: that of its loop takes nothing, and the parameters are among the locals; and the function gives a word, as every one does in whose tail a block may stand
  pub record Loops (g depth : ℕ) (labels : List OperandTypes) : Type 0 where
    pub fn : Fn
    pub at : slice_get P.functions g ≡ Some fn
    pub few : suc fn.captured ≤ size
    pub found : slice_get labels depth ≡ Some []
    pub gives : rs ≡ I32 ∷ []

  abbrev pub Labelled : Position → List OperandTypes → Type 0
  Labelled Inside labels = Unit {0}
  Labelled Final labels = rs ≡ I32 ∷ []
  Labelled (InTail g depth) labels = Loops g depth labels

  labelled_deeper : (at : Position) (labels : List OperandTypes) (t : OperandTypes) → Labelled at labels → Labelled (deeper at) (t ∷ labels)
  labelled_deeper Inside labels t l = tt
  labelled_deeper Final labels t l = l
  labelled_deeper (InTail g depth) labels t l = record { fn = l.fn; at = l.at; few = l.few; found = l.found; gives = l.gives }

  module _ {labels : List OperandTypes} {ts us : Operands} {rest : List Instr} where
    t_get : {x : ℕ} → x < size → Typed m ls rs labels (Of I32 ∷ ts) rest us → Typed m ls rs labels ts (LocalGet x ∷ rest) us
    t_get {x} lt k = t_plain ts (ap (option_map {U = Effect} getting) (all x lt)) k

    pub t_set : {x : ℕ} → x < size → Typed m ls rs labels ts rest us → Typed m ls rs labels (Of I32 ∷ ts) (LocalSet x ∷ rest) us
    t_set {x} lt k = t_plain ts (ap (option_map {U = Effect} setting) (all x lt)) k

    t_tee : {x : ℕ} → x < size → Typed m ls rs labels (Of I32 ∷ ts) rest us → Typed m ls rs labels (Of I32 ∷ ts) (LocalTee x ∷ rest) us
    t_tee {x} lt k = t_plain ts (ap (option_map {U = Effect} keeping) (all x lt)) k

  t_word : {labels : List OperandTypes} {ts us : Operands} {rest : List Instr} (d : ℕ) (w : Word) → d ≤ size → WordFits far d w → Typed m ls rs labels (Of I32 ∷ ts) rest us → Typed m ls rs labels ts (read_word w rest) us
  t_word d (InLocal x) le h k = t_get (omega arith) k
  t_word {ts = ts} d (InField x o) le h k = t_get (omega (arith, h.0)) (t_plain ts refl k)
  t_word {ts = ts} d (IsConst n) le h k = t_plain ts refl k

  t_read : {labels : List OperandTypes} {ts us : Operands} {rest : List Instr} (d : ℕ) (o : Option Word) → d ≤ size → ((w : Word) → o ≡ Some w → WordFits far d w) → Typed m ls rs labels (Of I32 ∷ ts) rest us → Typed m ls rs labels ts (read o rest) us
  t_read d None le h k = unreachable k
  t_read d (Some w) le h k = t_word d w le (h w refl) k

  t_atom : {labels : List OperandTypes} {ts us : Operands} {rest : List Instr} (n d : ℕ) (ps : List Place) (a : Atom) → d ≤ size → AtomFits n a → All (PlaceFits P far d) ps → Typed m ls rs labels (Of I32 ∷ ts) rest us → Typed m ls rs labels ts (atom ps a rest) us
  t_atom n d ps a le fit h k = t_read d (word_of ps a) le (λ w e. word_fits P far n d ps a fit h e) k

  t_push : {labels : List OperandTypes} {ts us : Operands} {rest : List Instr} (d : ℕ) (ws : List Word) → d ≤ size → All (WordFits far d) ws → Typed m ls rs labels (words_on (length ws) ts) rest us → Typed m ls rs labels ts (push_words ws rest) us
  t_push d [] le h k = k
  t_push d (w ∷ ws) le h k = t_push d ws le h.1 (t_word d w le h.0 k)

  t_fill : {labels : List OperandTypes} {ts us : Operands} {rest : List Instr} (n d x : ℕ) (ps : List Place) (as' : List Atom) → d ≤ size → x < size → AtomsFit n as' → All (PlaceFits P far d) ps → Typed m ls rs labels ts rest us → Typed m ls rs labels ts (fill ps x as' rest) us
  t_fill n d x ps [] le lt fit h k = k
  t_fill {ts = ts} n d x ps (a ∷ as') le lt fit h k = t_get lt (t_atom n d ps a le fit.0 h (t_plain ts refl (t_fill n d x ps as' le lt fit.1 h k)))

  t_room : {labels : List OperandTypes} {ts us : Operands} {rest : List Instr} → Typed m ls rs labels ts rest us → Typed m ls rs labels ts (ensure_room rest) us
  t_room {ts = ts} k = t_plain ts refl (t_plain (Of I32 ∷ ts) refl (t_plain (Of I32 ∷ Of I32 ∷ ts) refl (t_plain (Of I32 ∷ ts) refl (t_plain ts refl (t_one_arm {body = Call 0 ∷ []} (t_plain [] refl done) k)))))

  t_new_block : {labels : List OperandTypes} {ts us : Operands} {rest : List Instr} (n d header : ℕ) (ps : List Place) (as' : List Atom) → suc d ≤ size → AtomsFit n as' → All (PlaceFits P far d) ps → Typed m ls rs labels ts rest us → Typed m ls rs labels ts (new_block ps d header as' rest) us
  t_new_block {ts = ts} n d header ps as' le fit h k =
      t_plain ts refl (t_tee (omega arith) (t_plain (Of I32 ∷ ts) refl (t_plain ts refl (t_plain ts refl (t_room (t_get (omega arith) (t_plain (Of I32 ∷ ts) refl (t_plain ts refl (t_fill n d d ps as' (omega arith) (omega arith) fit h k)))))))))

  t_block : {labels : List OperandTypes} {ts us : Operands} {rest : List Instr} (n d header : ℕ) (ps : List Place) (as' : List Atom) → suc d ≤ size → AtomsFit n as' → All (PlaceFits P far d) ps → Typed m ls rs labels (Of I32 ∷ ts) rest us → Typed m ls rs labels ts (block ps d header as' rest) us
  t_block n d header ps as' le fit h k = t_new_block n d header ps as' le fit h (t_get (omega arith) k)

  arms : {labels : List OperandTypes} {ts us : Operands} {rest : List Instr} {g1 g2 : List Instr → List Instr} → Shaped g1 → Shaped g2 → Typed m ls rs ((I32 ∷ []) ∷ labels) [] (g1 []) (Of I32 ∷ []) → Typed m ls rs ((I32 ∷ []) ∷ labels) [] (g2 []) (Of I32 ∷ []) →
      Typed m ls rs labels (Of I32 ∷ ts) rest us → Typed m ls rs labels (Of I32 ∷ ts) (IfWord ∷ g1 (Else ∷ g2 (End ∷ rest))) us
  arms {labels} {ts} {us} {rest} {g1} {g2} f1 f2 a b k =
      subst (λ (z : List Instr). Typed m ls rs labels (Of I32 ∷ ts) (IfWord ∷ z) us) (sym (f1.front (Else ∷ g2 (End ∷ rest)) ∙ ap (λ (z : List Instr). g1 [] ++ Else ∷ z) (f2.front (End ∷ rest)))) (t_two_arms {b = Value I32} {first = g1 []} {second = g2 []} a b k)

  -- instructions that put a word on the operands, wherever they stand
  abbrev Puts : (Position → List Instr → List Instr) → Type 0
  Puts g = (at : Position) (labels : List OperandTypes) (ts us : Operands) (rest : List Instr) → Labelled at labels → Typed m ls rs labels (Of I32 ∷ ts) rest us → Typed m ls rs labels ts (g at rest) us

  -- and some that put a truth value there
  abbrev Tests : (List Instr → List Instr) → Type 0
  Tests test = (labels : List OperandTypes) (ts us : Operands) (r : List Instr) → Typed m ls rs labels (Of I32 ∷ ts) r us → Typed m ls rs labels ts (test r) us

  t_equal_test : (d c n : ℕ) → d < size → Tests (equal_test d c n)
  t_equal_test d c zero lt labels ts us r k = t_get lt (t_plain (Of I32 ∷ ts) refl (t_plain ts refl k))
  t_equal_test d c (suc n) lt labels ts us r k = t_get lt (t_plain ts refl (t_plain (Of I32 ∷ ts) refl (t_plain ts refl k)))

  t_below_test : (k : Kind) (d c : ℕ) → d < size → Tests (below_test k d c)
  t_below_test Bare d c lt labels ts us r k = t_plain ts refl (t_get lt (t_plain ts refl k))
  t_below_test Fielded d c lt labels ts us r k = t_plain ts refl (t_get lt (t_plain (Of I32 ∷ ts) refl (t_plain (Of I32 ∷ Of I32 ∷ ts) refl (t_plain (Of I32 ∷ ts) refl (t_plain ts refl k)))))

  t_bare_test : (d : ℕ) → d < size → Tests (bare_test d)
  t_bare_test d lt labels ts us r k = t_get lt (t_plain (Of I32 ∷ ts) refl (t_plain ts refl k))

  -- the tests of a match
  t_arm : (b : Bool) {test : List Instr → List Instr} {branch behind : Position → List Instr → List Instr} → Wherever branch → Wherever behind → Tests test → Puts branch → Puts behind → Puts (arm b test branch behind)
  t_arm true f1 f2 test x y at labels ts us rest l k =
      test labels ts us _ (arms (f1 (deeper at)) (f2 (deeper at)) (x (deeper at) ((I32 ∷ []) ∷ labels) [] (Of I32 ∷ []) [] (labelled_deeper at labels (I32 ∷ []) l) done) (y (deeper at) ((I32 ∷ []) ∷ labels) [] (Of I32 ∷ []) [] (labelled_deeper at labels (I32 ∷ []) l) done) k)
  t_arm false f1 f2 test x y at labels ts us rest l k = x at labels ts us rest l k

  t_either : (b : Bool) {f g : Position → List Instr → List Instr} → Puts f → Puts g → Puts (λ at rest. (if b then f else g) at rest)
  t_either true x y = x
  t_either false x y = y

  t_none : Puts none
  t_none at labels ts us rest l k = unreachable k

  abbrev AllPut : List Alternative → Type 0
  AllPut as' = All (λ (a : Alternative). Puts a.code) as'

  abbrev AllClosed : List Alternative → Type 0
  AllClosed as' = All (λ (a : Alternative). Wherever a.code) as'

  t_chain : (d : ℕ) (some : Bool) (as' : List Alternative) (others : Position → List Instr → List Instr) → d < size → AllClosed as' → AllPut as' → Wherever others → Puts others → Puts (chain d some as' others)
  t_chain d some [] others lt f h fo o = o
  t_chain d some (a ∷ as') others lt f h fo o =
      t_arm (some || is_some as') {branch = a.code} {behind = chain d some as' others} f.0 (shaped_chain d some as' others f.1 fo) (t_equal_test d a.number a.binders lt) h.0 (t_chain d some as' others lt f.1 h.1 fo o)

  t_search : (k : Kind) (d rounds : ℕ) (as' : List Alternative) → d < size → AllClosed as' → AllPut as' → Puts (search k d rounds as')
  t_search k d zero as' lt f h = t_chain d false as' none lt f h shaped_none t_none
  t_search k d (suc rounds) as' lt f h =
      let half = length as' / 2 in
      let f1 = all_take (λ (a : Alternative). Wherever a.code) half as' f in
      let f2 = all_drop (λ (a : Alternative). Wherever a.code) half as' f in
      t_either (are_many as')
      (t_arm true {branch = search k d rounds (take half as')} {behind = search k d rounds (drop half as')} (shaped_search k d rounds (take half as') f1) (shaped_search k d rounds (drop half as') f2)
      (t_below_test k d (first_number (drop half as')) lt) (t_search k d rounds (take half as') lt f1 (all_take (λ (a : Alternative). Puts a.code) half as' h)) (t_search k d rounds (drop half as') lt f2 (all_drop (λ (a : Alternative). Puts a.code) half as' h)))
      (t_chain d false as' none lt f h shaped_none t_none)

  t_tests : (d : ℕ) (as' : List Alternative) → d < size → AllClosed as' → AllPut as' → Puts (tests d as')
  t_tests d as' lt f h =
      let bare = kept Bare as' in
      let fielded = kept Fielded as' in
      let f1 = all_kept (λ (a : Alternative). Wherever a.code) Bare as' f in
      let f2 = all_kept (λ (a : Alternative). Wherever a.code) Fielded as' f in
      let h1 = all_kept (λ (a : Alternative). Puts a.code) Bare as' h in
      let s1 = shaped_search Bare d most_rounds bare f1 in
      let s2 = shaped_search Fielded d most_rounds fielded f2 in
      let x = t_search Bare d most_rounds bare lt f1 h1 in
      let y = t_search Fielded d most_rounds fielded lt f2 (all_kept (λ (a : Alternative). Puts a.code) Fielded as' h) in
      t_either (is_some fielded)
      (t_either (are_many bare) (t_arm true {branch = search Bare d most_rounds bare} {behind = search Fielded d most_rounds fielded} s1 s2 (t_bare_test d lt) x y) (t_chain d true bare (search Fielded d most_rounds fielded) lt f1 h1 s2 y))
      x

  -- a field that comes into the local in which its block's address is
  t_move : {labels : List OperandTypes} {ts us : Operands} {rest : List Instr} (b : Bool) (d : ℕ) → d < size → Typed m ls rs labels ts rest us → Typed m ls rs labels ts (move_field b d rest) us
  t_move false d lt k = k
  t_move {ts = ts} true d lt k = t_get lt (t_plain ts refl (t_set lt k))

  -- a tail call, in a function that gives a word, of one that does
  t_tail : {labels : List OperandTypes} {any us : Operands} {pops : OperandTypes} (ts : Operands) {i : Instr} {rest : List Instr} → rs ≡ I32 ∷ [] → tail_effect m i ≡ Some (pops, I32 ∷ []) → Typed m ls rs labels any rest us → Typed m ls rs labels (known_types pops ++ ts) (i ∷ rest) us
  t_tail {pops = pops} ts {i} gives e k = tail_call (known_types pops) ts (subst (λ (r : OperandTypes). tail_effect m i ≡ Some (pops, r)) (sym gives) e) (match_known pops) k

  -- a call of a worker
  type_is : (g : ℕ) (fn : Fn) → slice_get P.functions g ≡ Some fn → fn.captured ≤ 7 → func_type m (worker_index P g) ≡ Some (words_type fn.captured)
  type_is g fn at few = ap (option_and_then (λ index. slice_get m.types index)) (type_of_worker P main gs es pages g fn at (not_wide fn few)) ∙ type_of_words P main gs es pages g fn at (not_wide fn few)

  in_turn : (n : ℕ) (ts : Operands) → n ≤ 7 → known_types (reverse (replicate (suc n) I32)) ++ ts ≡ words_on (suc n) ts
  in_turn n ts few = ap (λ (xs : OperandTypes). known_types xs ++ ts) (turned n few) ∙ of_words (suc n) ts

  t_worker : {labels : List OperandTypes} {ts us : Operands} {rest : List Instr} (g : ℕ) (fn : Fn) → slice_get P.functions g ≡ Some fn → fn.captured ≤ 7 → Typed m ls rs labels (Of I32 ∷ ts) rest us → Typed m ls rs labels (words_on (suc fn.captured) ts) (Call (worker_index P g) ∷ rest) us
  t_worker {labels} {ts} {us} {rest} g fn at few k =
      subst (λ (os : Operands). Typed m ls rs labels os (Call (worker_index P g) ∷ rest) us) (in_turn fn.captured ts few) (t_plain ts (ap (option_map {U = Effect} calling_type) (type_is g fn at few)) k)

  pub t_tail_worker : {labels : List OperandTypes} {any us : Operands} {rest : List Instr} (ts : Operands) (g : ℕ) (fn : Fn) → slice_get P.functions g ≡ Some fn → fn.captured ≤ 7 → rs ≡ I32 ∷ [] → Typed m ls rs labels any rest us →
      Typed m ls rs labels (words_on (suc fn.captured) ts) (ReturnCall (worker_index P g) ∷ rest) us
  t_tail_worker {labels} {any} {us} {rest} ts g fn at few gives k =
      subst (λ (os : Operands). Typed m ls rs labels os (ReturnCall (worker_index P g) ∷ rest) us) (in_turn fn.captured ts few) (t_tail ts gives (ap (option_map {U = Effect} calling_type) (type_is g fn at few)) k)

  t_params : {labels : List OperandTypes} {ts us : Operands} {rest : List Instr} (n : ℕ) → suc n ≤ size → Typed m ls rs labels ts rest us → Typed m ls rs labels (words_on (suc n) ts) (into_params n rest) us
  t_params zero le k = t_set (omega arith) k
  t_params (suc n) le k = t_set (omega arith) (t_params n (omega arith) k)

  t_direct : {labels : List OperandTypes} {ts us : Operands} {rest : List Instr} (g n : ℕ) (fn : Fn) → slice_get P.functions g ≡ Some fn → fn.captured ≡ n → n ≤ 7 → Typed m ls rs labels (Of I32 ∷ ts) rest us → Typed m ls rs labels (words_on (suc n) ts) (Call (worker_index P g) ∷ rest) us
  t_direct {labels} {ts} {us} {rest} g n fn at is few k = subst (λ (i : ℕ). Typed m ls rs labels (words_on (suc i) ts) (Call (worker_index P g) ∷ rest) us) is (t_worker g fn at (omega arith) k)

  t_returned : {labels : List OperandTypes} {any us : Operands} {rest : List Instr} (ts : Operands) (g n : ℕ) (fn : Fn) → slice_get P.functions g ≡ Some fn → fn.captured ≡ n → n ≤ 7 → rs ≡ I32 ∷ [] → Typed m ls rs labels any rest us →
      Typed m ls rs labels (words_on (suc n) ts) (ReturnCall (worker_index P g) ∷ rest) us
  t_returned {labels} {any} {us} {rest} ts g n fn at is few gives k = subst (λ (i : ℕ). Typed m ls rs labels (words_on (suc i) ts) (ReturnCall (worker_index P g) ∷ rest) us) is (t_tail_worker ts g fn at (omega arith) gives k)

  t_jump : {labels : List OperandTypes} {ts us : Operands} {rest : List Instr} (b : Bool) (g h n depth : ℕ) (fn : Fn) → jumps g h depth ≡ b → slice_get P.functions g ≡ Some fn → fn.captured ≡ n → n ≤ 7 → Loops h depth labels → Typed m ls rs labels (Of I32 ∷ ts) rest us →
      Typed m ls rs labels (words_on (suc n) ts) (if b then into_params n (Br depth ∷ rest) else (ReturnCall (worker_index P g) ∷ rest)) us
  t_jump {ts = ts} false g h n depth fn e at is few l k = t_returned ts g n fn at is few l.gives k
  t_jump {ts = ts} true g h n depth fn e at is few l k =
      let same : g ≡ h = eqb-true g h (and_parts (nat_eq g h) (nat_le depth most_blocks) e).0 in
      let function : fn ≡ l.fn = same_Some _ _ (sym at ∙ ap (slice_get P.functions) same ∙ l.at) in
      let captured : fn.captured ≡ l.fn.captured = ap (λ (x : Fn). x.captured) function in
      let params_few = l.few in
      t_params n (omega arith) (br [] ts (record { wanted = []; found = l.found; matched = match_none }) k)

  t_call : {labels : List OperandTypes} {ts us : Operands} {rest : List Instr} (at : Position) (g n : ℕ) (fn : Fn) → slice_get P.functions g ≡ Some fn → fn.captured ≡ n → n ≤ 7 → Labelled at labels → Typed m ls rs labels (Of I32 ∷ ts) rest us →
      Typed m ls rs labels (words_on (suc n) ts) (call_worker P at g n rest) us
  t_call Inside g n fn at is few l k = t_direct g n fn at is few k
  t_call {ts = ts} Final g n fn at is few l k = t_returned ts g n fn at is few l k
  t_call (InTail h depth) g n fn at is few l k = t_jump (jumps g h depth) g h n depth fn refl at is few l k

  -- a call of an unknown closure's function, and of a constant's
  t_closure_call : {labels : List OperandTypes} {ts us : Operands} {rest : List Instr} (at : Position) → Labelled at labels → Typed m ls rs labels (Of I32 ∷ ts) rest us → Typed m ls rs labels (Of I32 ∷ Of I32 ∷ Of I32 ∷ ts) (closure_call at ∷ rest) us
  t_closure_call {ts = ts} Inside l k = t_plain ts refl k
  t_closure_call {ts = ts} Final l k = t_tail ts l refl k
  t_closure_call {ts = ts} (InTail g depth) l k = t_tail ts l.gives refl k

  constant_gives : (x : ℕ) → x < length P.constants → option_map {U = Effect} calling_type (func_type m (constant_index P x)) ≡ Some ([], I32 ∷ [])
  constant_gives x fit = ap (λ (o : Option ℕ). option_map {U = Effect} calling_type (option_and_then (λ index. slice_get m.types index) o)) (constant_in P (λ g f. 2) (λ t. 1) 0 (λ g f. worker_type f) x (get_or P.constants x P.main) (slice_get-get_or P.constants x P.main fit))

  t_constant : {labels : List OperandTypes} {ts us : Operands} {rest : List Instr} (at : Position) (x : ℕ) → x < length P.constants → Labelled at labels → Typed m ls rs labels (Of I32 ∷ ts) rest us → Typed m ls rs labels ts (call_of at (constant_index P x) ∷ rest) us
  t_constant {ts = ts} Inside x fit l k = t_plain ts (constant_gives x fit) k
  t_constant {ts = ts} Final x fit l k = t_tail ts l (constant_gives x fit) k
  t_constant {ts = ts} (InTail g depth) x fit l k = t_tail ts l.gives (constant_gives x fit) k

  t_application : {labels : List OperandTypes} {ts us : Operands} {rest : List Instr} (n d : ℕ) (ps : List Place) (at : Position) (f a : Atom) (o : Option (ℕ × List Word)) → known_function ps f ≡ o → d ≤ size → AtomFits n f → AtomFits n a → All (PlaceFits P far d) ps → Labelled at labels →
      Typed m ls rs labels (Of I32 ∷ ts) rest us → Typed m ls rs labels ts (application P ps at f a o rest) us
  t_application {ts = ts} n d ps at f a None e le ff fa h l k = t_atom n d ps f le ff h (t_atom n d ps a le fa h (t_atom n d ps f le ff h (t_plain (Of I32 ∷ Of I32 ∷ ts) refl (t_closure_call at l k))))
  t_application {ts = ts} n d ps at f a (Some j) e le ff fa h l k =
      let fit = function_fits P far most form d ps f h e in
      let takes = fit.0 in
      t_push d j.1 le fit.2 (t_atom n d ps a le fa h (t_call at j.0 (length j.1) takes.fn takes.at takes.words fit.1 l k))

  t_choice : {labels : List OperandTypes} {ts us : Operands} (o : Option Place) {g : Place → List Instr} {f : List Instr} → ((q : Place) → o ≡ Some q → Typed m ls rs labels ts (g q) us) → Typed m ls rs labels ts f us → Typed m ls rs labels ts (choose o g f) us
  t_choice None x y = y
  t_choice (Some q) x y = x q refl

  -- an operation whose word comes into local d
  t_bind : {labels : List OperandTypes} {ts us : Operands} {rest : List Instr} (n d : ℕ) (ps : List Place) (x : Op) {g : List Instr → List Instr} → suc d ≤ size → OpFits P.functions (length P.constants) most n x → All (PlaceFits P far d) ps →
      ((r : List Instr) → Typed m ls rs labels (Of I32 ∷ ts) r us → Typed m ls rs labels ts (g r) us) → Typed m ls rs labels ts rest us → Typed m ls rs labels ts (into_local ps d x g rest) us
  t_bind n d ps (ConOp c as') lt fit h o k = t_new_block n d _ ps as' lt fit.3 h k
  t_bind n d ps (ClosOp g as') lt fit h o k = t_new_block n d _ ps as' lt fit.1 h k
  t_bind n d ps (ConstOp x) lt fit h o k = o _ (t_set lt k)
  t_bind n d ps (AppOp f a) lt fit h o k = o _ (t_set lt k)
  t_bind n d ps (CaseOp a bs) lt fit h o k = o _ (t_set lt k)

  mutual
    pub t_op : {labels : List OperandTypes} {ts us : Operands} {rest : List Instr} (n d : ℕ) (ps : List Place) (at : Position) (x : Op) → top_op d x ≤ size → OpFits P.functions (length P.constants) most n x → All (PlaceFits P far d) ps → Labelled at labels →
        Typed m ls rs labels (Of I32 ∷ ts) rest us → Typed m ls rs labels ts (op P ps d at x rest) us
    t_op n d ps at (ConstOp x) le fit h l k = t_constant at x fit l k
    t_op n d ps at (AppOp f a) le fit h l k = t_application n d ps at f a (known_function ps f) refl le fit.0 fit.1 h l k
    t_op n d ps at (ConOp c as') le fit h l k = t_block n d _ ps as' le fit.3 h k
    t_op n d ps at (ClosOp g as') le fit h l k = t_block n d _ ps as' le fit.1 h k
    t_op n d ps at (CaseOp a bs) le fit h l k =
        t_atom n d ps a (omega arith) fit.0 h (t_set (omega arith) (t_tests d (alternatives P ps d 0 bs) (omega arith) (shaped_alternatives P ps d 0 bs) (t_alternatives n d ps 0 bs (omega arith) fit.2 h) at _ _ _ _ l k))

    pub t_code : {labels : List OperandTypes} {ts us : Operands} {rest : List Instr} (n d : ℕ) (ps : List Place) (at : Position) (t : Block) → top d t ≤ size → LiftedBlockFits P.functions (length P.constants) most n t → All (PlaceFits P far d) ps → Labelled at labels →
        Typed m ls rs labels (Of I32 ∷ ts) rest us → Typed m ls rs labels ts (code P ps d at t rest) us
    t_code n d ps at (TailAtom a) le fit h l k = t_atom n d ps a le fit h k
    t_code n d ps at (BindAtom a t) le fit h l k = t_atom n d ps a (omega arith) fit.0 h (t_set (omega arith) (t_code (suc n) (suc d) (At (InLocal d) ∷ ps) at t (omega arith) fit.1 (omega arith, places_up P far d (suc d) (omega arith) ps h) l k))
    t_code n d ps at (Tail x) le fit h l k = t_op n d ps at x le fit h l k
    t_code n d ps at (Bind x t) le fit h l k =
        t_choice (unmade P ps x t)
        (λ q e. let z = unmade_some (is_read (block_reads 0 t)) (known P ps x) e in t_code (suc n) d (q ∷ ps) at t (omega (arith, top_less d t)) fit.1 (known_fits P far most form n d ps x fit.0 h z.1, h) l k)
        (t_bind n d ps x {g = op P ps d Inside x} (omega arith) fit.0 h (λ r k'. t_op n d ps Inside x (omega arith) fit.0 h tt k') (t_code (suc n) (suc d) (At (InLocal d) ∷ ps) at t (omega arith) fit.1 (omega arith, places_up P far d (suc d) (omega arith) ps h) l k))

    t_alternatives : (n d : ℕ) (ps : List Place) (c : ℕ) (bs : BranchBlocks) → max (suc d) (top_branches (suc d) bs) ≤ size → BranchesFit P.functions (length P.constants) most n bs → All (PlaceFits P far d) ps → AllPut (alternatives P ps d c bs)
    t_alternatives n d ps c NoBranch le fit h = tt
    t_alternatives n d ps c (Branch j t bs) le fit h = (
      λ at labels ts us rest l k. t_move (moves j t) d (omega arith) (t_code (j + n) (suc d) (branch_places (moves j t) d j ps) at t (omega arith) fit.1
          (branch_fit P far (moves j t) (suc d) d j ps (omega arith) (omega (arith, enough, fit.0)) (places_up P far d (suc d) (omega arith) ps h)) l k),
      t_alternatives n d ps (suc c) bs (omega arith) fit.2 h,
    )
