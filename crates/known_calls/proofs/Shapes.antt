-- What holds of all emitted code: it stands in front of the rest, all its brackets are closed, and it sets the status only from a test of a grow.
use Rattle.std.proofs.Common.{◌≡◌, ℕ, zero, suc, ◌+◌, ◌*◌, ◌/◌, List, [], ◌∷◌, ◌++◌, length, take, drop, Option, Some, None, Bool, true, false, refl, ap, sym, ◌∙◌, append_assoc, arith}
use Rattle.std.specs.Prelude.{if◌then◌else◌, ◌||◌}
use Rattle.wasm_core.specs.declared.instrs.Instr.{Instr}
use Rattle.wasm_core.specs.declared.instrs.Instr.TheVariants.{Unreachable, Else, End, Br, Call, ReturnCall, ReturnCallIndirect, LocalGet, LocalSet, LocalTee, GlobalGet, GlobalSet, I32 as Operation}
use Rattle.wasm_core.specs.declared.instrs.I32Op.TheVariants as op32
use Rattle.wasm_core.specs.MachineStep.{Plain, bracket, past_end, to_else, after_end, else_arm}
use Rattle.anf_convert.specs.declared.program.Atom.{Atom}
use Rattle.closure_lift.specs.Lifted.{Op, ConstOp, AppOp, ConOp, ClosOp, CaseOp, Block, TailAtom, BindAtom, Tail, Bind, BranchBlocks, NoBranch, Branch, Program}
use Rattle.wasm_emit.specs.EmittedCode.{Load, StoreWord, ConstWord, IfWord, CallClosure, constant_index, ensure_room}
use Rattle.known_calls.specs.KnownPlaces.{Word, InLocal, InField, IsConst, Place, At, word_of, known_function}
use Rattle.known_calls.specs.KnownTests.{Kind, Bare, Fielded, Alternative, kept, is_some, first_number, equal_test, below_test, bare_test, arm, none, chain, are_many, most_rounds, search, tests}
use Rattle.wasm_core.specs.ModuleCondition.{All}
use Rattle.known_calls.proofs.Parted.{all_kept, all_take, all_drop}
use Rattle.known_calls.specs.KnownCode.{Position, Inside, InTail, deeper, read_word, read, atom, push_words, fill, new_block, block, into_local, into_params, worker_index, jumps, call_worker, application, choose, unmade, moves, move_field, branch_places, op, code, alternatives, branch, Final, call_of, closure_call}
use Rattle.known_calls.specs.KnownModule.{captured_words}
use Rattle.wasm_emit.proofs.Honest.{Wary, w_cons, NotStatus}

pub record Shaped (g : List Instr → List Instr) : Type 0 where
  pub front : (rest : List Instr) → g rest ≡ g [] ++ rest
  pub ends : (k : ℕ) (rest : List Instr) → after_end k (g rest) ≡ after_end k rest
  pub elses : (k : ℕ) (rest : List Instr) → else_arm k (g rest) ≡ else_arm k rest
  pub wary : {rest : List Instr} → Wary rest → Wary (g rest)

pub same_shaped : Shaped (λ r. r)
same_shaped = record { front = λ r. refl; ends = λ k r. refl; elses = λ k r. refl; wary = λ w. w }

infixr 30 ◌then◌
pub ◌then◌ : {f g : List Instr → List Instr} → Shaped f → Shaped g → Shaped (λ r. f (g r))
◌then◌ {f} {g} x y = record {
  front = λ r. x.front (g r) ∙ ap (λ z. f [] ++ z) (y.front r) ∙ sym (append_assoc (f []) (g []) r) ∙ ap (λ z. z ++ r) (sym (x.front (g [])));
  ends = λ k r. x.ends k (g r) ∙ y.ends k r;
  elses = λ k r. x.elses k (g r) ∙ y.elses k r;
  wary = λ w. x.wary (y.wary w);
}

-- an instruction that is no bracket
pub one : (i : Instr) → bracket i ≡ Plain → NotStatus i → Shaped (λ r. i ∷ r)
one i e n = record {
  front = λ r. refl;
  ends = λ k r. ap (λ b. past_end b k (λ d. after_end d r) r) e;
  elses = λ k r. ap (λ b. to_else b k (λ d. else_arm d r) i r) e;
  wary = λ w. w_cons n w;
}

-- a test with two arms
pub arms : {g1 g2 : List Instr → List Instr} → Shaped g1 → Shaped g2 → Shaped (λ r. IfWord ∷ g1 (Else ∷ g2 (End ∷ r)))
arms {g1} {g2} x y = record {
  front = λ r. ap (λ z. IfWord ∷ z) (x.front (Else ∷ g2 (End ∷ r)) ∙ ap (λ z. g1 [] ++ Else ∷ z) (y.front (End ∷ r))
      ∙ sym (append_assoc (g1 []) (Else ∷ (g2 [] ++ End ∷ [])) r ∙ ap (λ z. g1 [] ++ Else ∷ z) (append_assoc (g2 []) (End ∷ []) r))
      ∙ ap (λ z. z ++ r) (sym (x.front (Else ∷ g2 (End ∷ [])) ∙ ap (λ z. g1 [] ++ Else ∷ z) (y.front (End ∷ [])))));
  ends = λ k r. x.ends (suc k) (Else ∷ g2 (End ∷ r)) ∙ y.ends (suc k) (End ∷ r);
  elses = λ k r. x.elses (suc k) (Else ∷ g2 (End ∷ r)) ∙ y.elses (suc k) (End ∷ r);
  wary = λ w. w_cons tt (x.wary (w_cons tt (y.wary (w_cons tt w))));
}

shaped_word : (w : Word) → Shaped (read_word w)
shaped_word (InLocal x) = one (LocalGet x) refl tt
shaped_word (InField x o) = one (LocalGet x) refl tt then one (Load o) refl tt
shaped_word (IsConst n) = one (ConstWord n) refl tt

shaped_read : (o : Option Word) → Shaped (read o)
shaped_read None = one Unreachable refl tt
shaped_read (Some w) = shaped_word w

shaped_atom : (env : List Place) (a : Atom) → Shaped (atom env a)
shaped_atom env a = shaped_read (word_of env a)

shaped_push : (ws : List Word) → Shaped (push_words ws)
shaped_push [] = same_shaped
shaped_push (w ∷ ws) = shaped_push ws then shaped_word w

shaped_fill : (env : List Place) (d : ℕ) (as' : List Atom) → Shaped (fill env d as')
shaped_fill env d [] = same_shaped
shaped_fill env d (a ∷ as') = one (LocalGet d) refl tt then (shaped_atom env a then (one (StoreWord (4 * suc (length as'))) refl tt then shaped_fill env d as'))

shaped_room : Shaped ensure_room
shaped_room = record {
  front = λ r. refl;
  ends = λ k r. refl;
  elses = λ k r. refl;
  wary = λ w. w_cons tt (w_cons tt (w_cons tt (w_cons tt (w_cons tt (w_cons tt (w_cons tt (w_cons tt w)))))));
}

shaped_new_block : (env : List Place) (d header : ℕ) (as' : List Atom) → Shaped (new_block env d header as')
shaped_new_block env d header as' =
    one (GlobalGet 2) refl tt then (one (LocalTee d) refl tt then (one (ConstWord (4 * suc (length as'))) refl tt then (one (Operation op32.Add) refl tt then (one (GlobalSet 2) refl (λ z. omega arith) then (shaped_room
    then (one (LocalGet d) refl tt then (one (ConstWord header) refl tt then (one (StoreWord 0) refl tt then shaped_fill env d as'))))))))

shaped_block : (env : List Place) (d header : ℕ) (as' : List Atom) → Shaped (block env d header as')
shaped_block env d header as' = shaped_new_block env d header as' then one (LocalGet d) refl tt

shaped_bind : (env : List Place) (d : ℕ) (x : Op) {g : List Instr → List Instr} → Shaped g → Shaped (into_local env d x g)
shaped_bind env d (ConOp c as') y = shaped_new_block env d _ as'
shaped_bind env d (ClosOp h as') y = shaped_new_block env d _ as'
shaped_bind env d (ConstOp x) y = y then one (LocalSet d) refl tt
shaped_bind env d (AppOp f a) y = y then one (LocalSet d) refl tt
shaped_bind env d (CaseOp a bs) y = y then one (LocalSet d) refl tt

shaped_params : (n : ℕ) → Shaped (into_params n)
shaped_params zero = one (LocalSet 0) refl tt
shaped_params (suc n) = one (LocalSet (suc n)) refl tt then shaped_params n

pub shaped_captured : (n : ℕ) → Shaped (captured_words n)
shaped_captured zero = same_shaped
shaped_captured (suc n) = shaped_captured n then (one (LocalGet 0) refl tt then one (Load (4 * suc n)) refl tt)

shaped_move : (b : Bool) (d : ℕ) → Shaped (move_field b d)
shaped_move false d = same_shaped
shaped_move true d = one (LocalGet d) refl tt then (one (Load 4) refl tt then one (LocalSet d) refl tt)

-- The tests of a match.

shaped_equal_test : (d c n : ℕ) → Shaped (equal_test d c n)
shaped_equal_test d c zero = one (LocalGet d) refl tt then (one (ConstWord (2 * c + 1)) refl tt then one (Operation op32.Eq) refl tt)
shaped_equal_test d c (suc n) = one (LocalGet d) refl tt then (one (Load 0) refl tt then (one (ConstWord (suc n * 65536 + c)) refl tt then one (Operation op32.Eq) refl tt))

shaped_below_test : (k : Kind) (d c : ℕ) → Shaped (below_test k d c)
shaped_below_test Bare d c = one (ConstWord (2 * c)) refl tt then (one (LocalGet d) refl tt then one (Operation op32.GtU) refl tt)
shaped_below_test Fielded d c =
    one (ConstWord (65536 * c)) refl tt then (one (LocalGet d) refl tt then (one (Load 0) refl tt then (one (ConstWord 16) refl tt then (one (Operation op32.Shl) refl tt then one (Operation op32.GtU) refl tt))))

shaped_bare_test : (d : ℕ) → Shaped (bare_test d)
shaped_bare_test d = one (LocalGet d) refl tt then (one (ConstWord 1) refl tt then one (Operation op32.And) refl tt)

-- wherever they stand
abbrev pub Wherever : (Position → List Instr → List Instr) → Type 0
Wherever g = (at : Position) → Shaped (g at)

abbrev pub AllShaped : List Alternative → Type 0
AllShaped as' = All (λ (a : Alternative). Wherever a.code) as'

shaped_arm : (b : Bool) {test : List Instr → List Instr} {branch behind : Position → List Instr → List Instr} → Shaped test → Wherever branch → Wherever behind → Wherever (arm b test branch behind)
shaped_arm true t x y at = t then arms (x (deeper at)) (y (deeper at))
shaped_arm false t x y at = x at

shaped_either : (b : Bool) {f g : Position → List Instr → List Instr} → Wherever f → Wherever g → (at : Position) → Shaped (λ r. (if b then f else g) at r)
shaped_either true x y at = x at
shaped_either false x y at = y at

pub shaped_none : Wherever none
shaped_none at = one Unreachable refl tt

pub shaped_chain : (d : ℕ) (some : Bool) (as' : List Alternative) (others : Position → List Instr → List Instr) → AllShaped as' → Wherever others → Wherever (chain d some as' others)
shaped_chain d some [] others h o = o
shaped_chain d some (a ∷ as') others h o = shaped_arm (some || is_some as') {branch = a.code} {behind = chain d some as' others} (shaped_equal_test d a.number a.binders) h.0 (shaped_chain d some as' others h.1 o)

pub shaped_search : (k : Kind) (d rounds : ℕ) (as' : List Alternative) → AllShaped as' → Wherever (search k d rounds as')
shaped_search k d zero as' h = shaped_chain d false as' none h shaped_none
shaped_search k d (suc rounds) as' h =
    let half = length as' / 2 in
    shaped_either (are_many as')
    (shaped_arm true {branch = search k d rounds (take half as')} {behind = search k d rounds (drop half as')} (shaped_below_test k d (first_number (drop half as')))
    (shaped_search k d rounds (take half as') (all_take (λ (a : Alternative). Wherever a.code) half as' h)) (shaped_search k d rounds (drop half as') (all_drop (λ (a : Alternative). Wherever a.code) half as' h)))
    (shaped_chain d false as' none h shaped_none)

pub shaped_tests : (d : ℕ) (as' : List Alternative) → AllShaped as' → Wherever (tests d as')
shaped_tests d as' h =
    let bare = kept Bare as' in
    let fielded = kept Fielded as' in
    let bares = all_kept (λ (a : Alternative). Wherever a.code) Bare as' h in
    let x = shaped_search Bare d most_rounds bare bares in
    let y = shaped_search Fielded d most_rounds fielded (all_kept (λ (a : Alternative). Wherever a.code) Fielded as' h) in
    shaped_either (is_some fielded)
    (shaped_either (are_many bare) (shaped_arm true {branch = search Bare d most_rounds bare} {behind = search Fielded d most_rounds fielded} (shaped_bare_test d) x y) (shaped_chain d true bare (search Fielded d most_rounds fielded) bares y))
    x

shaped_call_of : (at : Position) (f : ℕ) → Shaped (λ r. call_of at f ∷ r)
shaped_call_of Inside f = one (Call f) refl tt
shaped_call_of Final f = one (ReturnCall f) refl tt
shaped_call_of (InTail h depth) f = one (ReturnCall f) refl tt

shaped_closure_call : (at : Position) → Shaped (λ r. closure_call at ∷ r)
shaped_closure_call Inside = one CallClosure refl tt
shaped_closure_call Final = one (ReturnCallIndirect 2 0) refl tt
shaped_closure_call (InTail h depth) = one (ReturnCallIndirect 2 0) refl tt

module _ (P : Program) where
  shaped_jump : (b : Bool) (g n depth : ℕ) → Shaped (λ r. if b then into_params n (Br depth ∷ r) else (ReturnCall (worker_index P g) ∷ r))
  shaped_jump true g n depth = shaped_params n then one (Br depth) refl tt
  shaped_jump false g n depth = one (ReturnCall (worker_index P g)) refl tt

  shaped_call : (at : Position) (g n : ℕ) → Shaped (call_worker P at g n)
  shaped_call Inside g n = one (Call (worker_index P g)) refl tt
  shaped_call Final g n = one (ReturnCall (worker_index P g)) refl tt
  shaped_call (InTail h depth) g n = shaped_jump (jumps g h depth) g n depth

  shaped_application : (env : List Place) (at : Position) (f a : Atom) (o : Option (ℕ × List Word)) → Shaped (application P env at f a o)
  shaped_application env at f a None = shaped_atom env f then (shaped_atom env a then (shaped_atom env f then (one (Load 0) refl tt then shaped_closure_call at)))
  shaped_application env at f a (Some k) = shaped_push k.1 then (shaped_atom env a then shaped_call at k.0 (length k.1))

  shaped_choice : (o : Option Place) {g : Place → List Instr → List Instr} {f : List Instr → List Instr} → ((q : Place) → Shaped (g q)) → Shaped f → Shaped (λ r. choose o (λ q. g q r) (f r))
  shaped_choice None x y = y
  shaped_choice (Some q) x y = x q

  mutual
    pub shaped_op : (env : List Place) (d : ℕ) (at : Position) (x : Op) → Shaped (op P env d at x)
    shaped_op env d at (ConstOp x) = shaped_call_of at (constant_index P x)
    shaped_op env d at (AppOp f a) = shaped_application env at f a (known_function env f)
    shaped_op env d at (ConOp c as') = shaped_block env d _ as'
    shaped_op env d at (ClosOp g as') = shaped_block env d _ as'
    shaped_op env d at (CaseOp a bs) = shaped_atom env a then (one (LocalSet d) refl tt then shaped_tests d (alternatives P env d 0 bs) (shaped_alternatives env d 0 bs) at)

    pub shaped_code : (env : List Place) (d : ℕ) (at : Position) (t : Block) → Shaped (code P env d at t)
    shaped_code env d at (TailAtom a) = shaped_atom env a
    shaped_code env d at (BindAtom a t) = shaped_atom env a then (one (LocalSet d) refl tt then shaped_code (At (InLocal d) ∷ env) (suc d) at t)
    shaped_code env d at (Tail x) = shaped_op env d at x
    shaped_code env d at (Bind x t) =
        shaped_choice (unmade P env x t) {g = λ q. code P (q ∷ env) d at t} (λ q. shaped_code (q ∷ env) d at t) (shaped_bind env d x (shaped_op env d Inside x) then shaped_code (At (InLocal d) ∷ env) (suc d) at t)

    pub shaped_alternatives : (env : List Place) (d c : ℕ) (bs : BranchBlocks) → AllShaped (alternatives P env d c bs)
    shaped_alternatives env d c NoBranch = tt
    shaped_alternatives env d c (Branch n t bs) = (λ at. shaped_move (moves n t) d then shaped_code (branch_places (moves n t) d n env) (suc d) at t, shaped_alternatives env d (suc c) bs)

  pub shaped_branch : (env : List Place) (d n : ℕ) (at : Position) (t : Block) → Shaped (branch P env d n at t)
  shaped_branch env d n at t = shaped_move (moves n t) d then shaped_code (branch_places (moves n t) d n env) (suc d) at t
