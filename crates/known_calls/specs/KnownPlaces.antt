-- Where the words of variables are while a function runs, and the closures that are known and made nowhere.
use Rattle.std.specs.Prelude.{ℕ, zero, suc, ◌+◌, ◌*◌, Bool, true, false, if◌then◌else◌, nat_eq, List, [], ◌∷◌, Option, Some, None, slice_get}
use Rattle.std.specs.Option.{option_map, option_and_then}
use Rattle.anf_convert.specs.declared.program.Atom.{Atom}
use Rattle.anf_convert.specs.declared.program.Atom.TheVariants.{Var as AVar, Box as ABox, Empty as AEmpty}
use Rattle.closure_lift.specs.Lifted.{Op, ConstOp, AppOp, ConOp, ClosOp, CaseOp, Block, TailAtom, BindAtom, Tail, Bind, BranchBlocks, NoBranch, Branch}
-- where a word is: in a local, or in a field of the block whose address is in a local; or which word it is
pub use Rattle.known_calls.specs.declared.words.Word.{Word}
pub use Rattle.known_calls.specs.declared.words.Word.TheVariants.{Local as InLocal, Field as InField, Const as IsConst}
-- what an environment has for a variable: where its word is; or the closure that it is, which is made nowhere: its function, and where its captured words are, the last one first
pub use Rattle.known_calls.specs.declared.places.Place.{Place}
pub use Rattle.known_calls.specs.declared.places.Place.TheVariants.{At, Known}
-- how often something is read: nowhere, at one place, or at more
pub use Rattle.known_calls.specs.declared.times.Times.{Times}
pub use Rattle.known_calls.specs.declared.times.Times.TheVariants.{Never, Once, More}

abbrev pub word_at : Place → Option Word
word_at (At w) = Some w
word_at (Known g ws) = None

abbrev pub word_of : List Place → Atom → Option Word
word_of env (AVar i) = option_and_then word_at (slice_get env i)
word_of env ABox = Some (IsConst 0)
word_of env (AEmpty c) = Some (IsConst (2 * c + 1))

-- the words of atoms, where each has one
abbrev pub words_of : List Place → List Atom → Option (List Word)
words_of env [] = Some []
words_of env (a ∷ as') = option_and_then (λ w. option_map (λ ws. w ∷ ws) (words_of env as')) (word_of env a)

abbrev pub all_at : List Word → List Place
all_at [] = []
all_at (w ∷ ws) = At w ∷ all_at ws

-- the n fields of the block whose address is in local x, the last one first
abbrev pub fields_of : ℕ → ℕ → List Place → List Place
fields_of x zero env = env
fields_of x (suc n) env = At (InField x (4 * suc n)) ∷ fields_of x n env

-- the closure that an atom is known to be
abbrev pub known_at : Place → Option (ℕ × List Word)
known_at (At w) = None
known_at (Known g ws) = Some (g, ws)

abbrev pub known_function : List Place → Atom → Option (ℕ × List Word)
known_function env (AVar i) = option_and_then known_at (slice_get env i)
known_function env ABox = None
known_function env (AEmpty c) = None

infixr 40 ◌plus◌
abbrev pub ◌plus◌ : Times → Times → Times
Never plus r = r
Once plus Never = Once
Once plus Once = More
Once plus More = More
More plus r = More

abbrev pub is_read : Times → Bool
is_read Never = false
is_read Once = true
is_read More = true

abbrev pub is_twice : Times → Bool
is_twice Never = false
is_twice Once = false
is_twice More = true

-- how often an atom names variable i
abbrev pub names : ℕ → Atom → Times
names i (AVar j) = if nat_eq i j then Once else Never
names i ABox = Never
names i (AEmpty c) = Never

abbrev pub some_names : ℕ → List Atom → Times
some_names i [] = Never
some_names i (a ∷ as') = names i a plus some_names i as'

-- how often variable i is named otherwise than as the function of an application
abbrev mutual
  pub op_reads : ℕ → Op → Times
  op_reads i (ConstOp x) = Never
  op_reads i (AppOp f a) = names i a
  op_reads i (ConOp c as') = some_names i as'
  op_reads i (ClosOp g as') = some_names i as'
  op_reads i (CaseOp a bs) = names i a plus branches_read i bs

  pub block_reads : ℕ → Block → Times
  block_reads i (TailAtom a) = names i a
  block_reads i (BindAtom a t) = names i a plus block_reads (suc i) t
  block_reads i (Tail p) = op_reads i p
  block_reads i (Bind p t) = op_reads i p plus block_reads (suc i) t

  pub branches_read : ℕ → BranchBlocks → Times
  branches_read i NoBranch = Never
  branches_read i (Branch n t bs) = block_reads (n + i) t plus branches_read i bs
