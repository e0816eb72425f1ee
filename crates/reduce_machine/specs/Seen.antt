-- What is seen of a value from its outermost spine inwards.
use Rattle.std.specs.Prelude.{◌≡◌, ◌<◌, ◌++◌, [], ◌∷◌, length, None}
use Rattle.pc_terms.specs.Syntax.{Term}
use Rattle.reduce_machine.specs.Spines.{spine_on, nested, below_term, IsStuckHead, AreNested}
use Rattle.reduce_machine.specs.declared.seen.Seen.{Seen}
use Rattle.reduce_machine.specs.declared.seen.Argument.{Argument}
use Rattle.reduce_machine.specs.declared.seen.Argument.TheVariants.{Lazy as LazyTerm, Value as SeenValue}
use Rattle.reduce_machine.specs.Reads.{read}

abbrev pub seen_term : Seen → Term
seen_term s = spine_on s.spine.now (nested s.below.now (below_term None))

-- what the outermost spine is stuck on
abbrev pub inner_term : Seen → Term
inner_term s = nested s.below.now (below_term None)

-- the term of an argument
abbrev pub argument_term : Argument → Term
argument_term (LazyTerm l) = read l.now
argument_term (SeenValue s) = seen_term s

abbrev pub IsSeen : Seen → Type 0
IsSeen s = AreNested (s.below.now ++ s.spine.now ∷ [])

-- what the outermost spine is stuck on
pub record IsInner (outer inner : Seen) : Type 0 where
  pub seen : IsSeen inner
  pub stuck : IsStuckHead outer.spine.now.head
  pub inside : inner_term outer ≡ seen_term inner
  pub term : seen_term outer ≡ spine_on outer.spine.now (seen_term inner)
  pub shorter : length inner.below.now < length outer.below.now

-- an argument of a value, which is what the value is stuck on where it is a value
abbrev pub IsInnerArgument : Seen → Argument → Type 0
IsInnerArgument o (LazyTerm l) = Unit {0}
IsInnerArgument o (SeenValue s) = IsInner o s
