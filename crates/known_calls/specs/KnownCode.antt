-- The instructions of a block of a lifted program. A saturated call of a known function is a direct call of its worker, which takes the captured words and the argument as parameters; a worker's tail call of
-- itself is a branch to its beginning, and every other call in the tail of a function leaves no frame of it; and a closure that is known, and read as a word nowhere, is made nowhere. Every other closure is made, and called through the table. Each function puts its instructions in front of `rest`.
use Rattle.std.specs.Prelude.{ℕ, zero, suc, ◌+◌, ◌*◌, Bool, true, false, ◌&&◌, if◌then◌else◌, nat_eq, nat_le, List, [], ◌∷◌, length, Option, Some, None, slice_get}
use Rattle.std.specs.Option.{option_and_then}
use Rattle.anf_convert.specs.declared.program.Atom.{Atom}
use Rattle.closure_lift.specs.Lifted.{Op, ConstOp, AppOp, ConOp, ClosOp, CaseOp, Block, TailAtom, BindAtom, Tail, Bind, BranchBlocks, NoBranch, Branch, Fn, Program}
use Rattle.wasm_core.specs.declared.instrs.I32Op.TheVariants as op32
use Rattle.wasm_core.specs.declared.instrs.Instr.{Instr}
use Rattle.wasm_core.specs.declared.instrs.Instr.TheVariants.{Unreachable, Br, Call, ReturnCall, ReturnCallIndirect, LocalGet, LocalSet, LocalTee, GlobalGet, GlobalSet, I32 as Operation}
use Rattle.wasm_emit.specs.EmittedCode.{Load, StoreWord, ConstWord, CallClosure, constant_index, ensure_room}
pub use Rattle.known_calls.specs.KnownTests.{Position, Inside, Final, InTail, deeper, Alternative, tests}
use Rattle.known_calls.specs.KnownPlaces.{Word, InLocal, InField, IsConst, Place, At, Known, word_of, words_of, all_at, fields_of, known_function, is_read, is_twice, block_reads}

-- a closure of more captured words is never known, and its function has no worker
abbrev pub most_words : ℕ
most_words = 7

abbrev pub is_wide : Fn → Bool
is_wide f = nat_le (suc most_words) f.captured

-- the workers come behind main, which stands behind the functions and the constants
abbrev pub worker_index : Program → ℕ → ℕ
worker_index P g = suc (constant_index P (length P.constants + g))

-- Closures that are known, and need no code.

abbrev pub known_closure : ℕ → Option (List Word) → Option Place
known_closure g None = None
known_closure g (Some ws) = if nat_le (length ws) most_words then Some (Known g ws) else None

-- what a block is that makes a closure and does nothing else
abbrev pub closure_alone : List Place → Block → Option Place
closure_alone env (Tail (ClosOp g as')) = known_closure g (words_of env as')
closure_alone env (Tail (ConstOp x)) = None
closure_alone env (Tail (AppOp f a)) = None
closure_alone env (Tail (ConOp c as')) = None
closure_alone env (Tail (CaseOp a bs)) = None
closure_alone env (TailAtom a) = None
closure_alone env (BindAtom a t) = None
closure_alone env (Bind p t) = None

-- a known closure, applied, whose function makes a closure and does nothing else
abbrev pub partial : Program → ℕ × List Word → Option Word → Option Place
partial P k w = option_and_then (λ a. option_and_then (λ fn. closure_alone (At a ∷ all_at k.1) fn.body) (slice_get P.functions k.0)) w

-- the closure that an operation is known to give: that of a constant that is a closure, a partial application, or the closure that it would make
abbrev pub known : Program → List Place → Op → Option Place
known P env (ConstOp x) = option_and_then (closure_alone []) (slice_get P.constants x)
known P env (AppOp f a) = option_and_then (λ k. partial P k (word_of env a)) (known_function env f)
known P env (ConOp c as') = None
known P env (ClosOp g as') = known_closure g (words_of env as')
known P env (CaseOp a bs) = None

-- a binding whose closure is known needs no code where the block behind it reads it as a word nowhere
abbrev pub unmade : Program → List Place → Op → Block → Option Place
unmade P env p t = if is_read (block_reads 0 t) then None else known P env p

-- Words.

abbrev pub read_word : Word → List Instr → List Instr
read_word (InLocal x) rest = LocalGet x ∷ rest
read_word (InField x o) rest = LocalGet x ∷ Load o ∷ rest
read_word (IsConst n) rest = ConstWord n ∷ rest

-- a closure that is made nowhere is never read
abbrev pub read : Option Word → List Instr → List Instr
read None rest = Unreachable ∷ rest
read (Some w) rest = read_word w rest

abbrev pub atom : List Place → Atom → List Instr → List Instr
atom env a rest = read (word_of env a) rest

-- words whose last one stands first
abbrev pub push_words : List Word → List Instr → List Instr
push_words [] rest = rest
push_words (w ∷ ws) rest = push_words ws (read_word w rest)

abbrev pub fill : List Place → ℕ → List Atom → List Instr → List Instr
fill env d [] rest = rest
fill env d (a ∷ as') rest = LocalGet d ∷ atom env a (StoreWord (4 * suc (length as')) ∷ fill env d as' rest)

-- a block begins at the end of the heap, which moves past the block; its address comes into local d
abbrev pub new_block : List Place → ℕ → ℕ → List Atom → List Instr → List Instr
new_block env d header as' rest =
    GlobalGet 2 ∷ LocalTee d ∷ ConstWord (4 * suc (length as')) ∷ Operation op32.Add ∷ GlobalSet 2 ∷ ensure_room (LocalGet d ∷ ConstWord header ∷ StoreWord 0 ∷ fill env d as' rest)

-- and onto the operands
abbrev pub block : List Place → ℕ → ℕ → List Atom → List Instr → List Instr
block env d header as' rest = new_block env d header as' (LocalGet d ∷ rest)

-- Calls.

-- the operands become the n + 1 parameters
abbrev pub into_params : ℕ → List Instr → List Instr
into_params zero rest = LocalSet 0 ∷ rest
into_params (suc n) rest = LocalSet (suc n) ∷ into_params n rest

-- a branch out of more blocks is a tail call
abbrev pub most_blocks : ℕ
most_blocks = 16383

abbrev pub jumps : ℕ → ℕ → ℕ → Bool
jumps g h depth = nat_eq g h && nat_le depth most_blocks

-- a call of the function with this index, and of an unknown closure's function by its entry of table 0: in the tail of a function they are tail calls
abbrev pub call_of : Position → ℕ → Instr
call_of Inside f = Call f
call_of Final f = ReturnCall f
call_of (InTail h depth) f = ReturnCall f

abbrev pub closure_call : Position → Instr
closure_call Inside = CallClosure
closure_call Final = ReturnCallIndirect 2 0
closure_call (InTail h depth) = ReturnCallIndirect 2 0

-- the worker of g is called with n captured words and an argument
abbrev pub call_worker : Program → Position → ℕ → ℕ → List Instr → List Instr
call_worker P Inside g n rest = Call (worker_index P g) ∷ rest
call_worker P Final g n rest = ReturnCall (worker_index P g) ∷ rest
call_worker P (InTail h depth) g n rest = if jumps g h depth then into_params n (Br depth ∷ rest) else (ReturnCall (worker_index P g) ∷ rest)

-- an unknown closure's function is called by its entry of the table; a known one by its worker
abbrev pub application : Program → List Place → Position → Atom → Atom → Option (ℕ × List Word) → List Instr → List Instr
application P env at f a None rest = atom env f (atom env a (atom env f (Load 0 ∷ closure_call at ∷ rest)))
application P env at f a (Some k) rest = push_words k.1 (atom env a (call_worker P at k.0 (length k.1) rest))

-- Matches.

-- whether a branch of n variables has one alone, which is read twice: then its field comes into the local in which the block's address is
abbrev pub moves : ℕ → Block → Bool
moves zero t = false
moves (suc zero) t = is_twice (block_reads 0 t)
moves (suc (suc n)) t = false

abbrev pub move_field : Bool → ℕ → List Instr → List Instr
move_field false d rest = rest
move_field true d rest = LocalGet d ∷ Load 4 ∷ LocalSet d ∷ rest

-- the variables of a branch are in that local, or the n fields of the block
abbrev pub branch_places : Bool → ℕ → ℕ → List Place → List Place
branch_places false d n env = fields_of d n env
branch_places true d n env = At (InLocal d) ∷ env

-- a binding that needs no code, or one that has code
abbrev pub choose : Option Place → (Place → List Instr) → List Instr → List Instr
choose None known_code made_code = made_code
choose (Some q) known_code made_code = known_code q

-- the word of an operation comes into local d: that of a new block is there, another one comes from the operands
abbrev pub into_local : List Place → ℕ → Op → (List Instr → List Instr) → List Instr → List Instr
into_local env d (ConOp c as') made rest = new_block env d (length as' * 65536 + c) as' rest
into_local env d (ClosOp g as') made rest = new_block env d (suc g) as' rest
into_local env d (ConstOp x) made rest = made (LocalSet d ∷ rest)
into_local env d (AppOp f a) made rest = made (LocalSet d ∷ rest)
into_local env d (CaseOp a bs) made rest = made (LocalSet d ∷ rest)

module _ (P : Program) where
  abbrev mutual
    pub op : List Place → ℕ → Position → Op → List Instr → List Instr
    op env d at (ConstOp x) rest = call_of at (constant_index P x) ∷ rest
    op env d at (AppOp f a) rest = application P env at f a (known_function env f) rest
    op env d at (ConOp c as') rest = block env d (length as' * 65536 + c) as' rest
    op env d at (ClosOp g as') rest = block env d (suc g) as' rest
    op env d at (CaseOp a bs) rest = atom env a (LocalSet d ∷ tests d (alternatives env d 0 bs) at rest)

    pub code : List Place → ℕ → Position → Block → List Instr → List Instr
    code env d at (TailAtom a) rest = atom env a rest
    code env d at (BindAtom a t) rest = atom env a (LocalSet d ∷ code (At (InLocal d) ∷ env) (suc d) at t rest)
    code env d at (Tail p) rest = op env d at p rest
    code env d at (Bind p t) rest = choose (unmade P env p t) (λ q. code (q ∷ env) d at t rest) (into_local env d p (op env d Inside p) (code (At (InLocal d) ∷ env) (suc d) at t rest))

    -- the branches of a match on the word in local d, from constructor c on
    pub alternatives : List Place → ℕ → ℕ → BranchBlocks → List Alternative
    alternatives env d c NoBranch = []
    alternatives env d c (Branch n t bs) = record { number = c; binders = n; body = t; code = λ at rest. move_field (moves n t) d (code (branch_places (moves n t) d n env) (suc d) at t rest) } ∷ alternatives env d (suc c) bs

  -- a branch of n variables, of a match on the word in local d
  abbrev pub branch : List Place → ℕ → ℕ → Position → Block → List Instr → List Instr
  branch env d n at t rest = move_field (moves n t) d (code (branch_places (moves n t) d n env) (suc d) at t rest)
