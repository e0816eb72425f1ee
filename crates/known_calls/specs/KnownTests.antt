-- How a match finds the branch of its scrutinee's constructor. Its branches are alternatives of two kinds: bare ones, without binders, whose scrutinee is a word that tells the constructor, and fielded ones,
-- whose scrutinee is the address of a block, with a header that does. Fewer than six of a kind are compared one after another; of six or more the number tells first in which half the constructor's is.
use Rattle.std.specs.Prelude.{ℕ, zero, suc, ◌+◌, ◌*◌, ◌/◌, Bool, true, false, ◌||◌, if◌then◌else◌, nat_le, List, [], ◌∷◌, length, take, drop}
use Rattle.closure_lift.specs.Lifted.{Block}
use Rattle.wasm_core.specs.declared.instrs.I32Op.TheVariants as op32
use Rattle.wasm_core.specs.declared.instrs.Instr.{Instr}
use Rattle.wasm_core.specs.declared.instrs.Instr.TheVariants.{Unreachable, Else, End, LocalGet, I32 as Operation}
use Rattle.wasm_emit.specs.EmittedCode.{Load, ConstWord, IfWord}
-- what a call in some place may be: a call; in the tail of a function without a loop, a tail call; or, in the tail of the body of worker g, where g calls itself, a branch out of so many blocks to its beginning, and else a tail call
pub use Rattle.known_calls.specs.declared.site.Position.{Position}
pub use Rattle.known_calls.specs.declared.site.Position.TheVariants.{Inside, Final, InTail}
-- the two kinds of branches
pub use Rattle.known_calls.specs.declared.site.Kind.{Kind}
pub use Rattle.known_calls.specs.declared.site.Kind.TheVariants.{Bare, Fielded}

abbrev pub deeper : Position → Position
deeper Inside = Inside
deeper Final = Final
deeper (InTail g n) = InTail g (suc n)

-- a branch of a match: its constructor's number, how many variables it binds, its body, and its code
pub record Alternative : Type 0 where
  pub number : ℕ
  pub binders : ℕ
  pub body : Block
  pub code : Position → List Instr → List Instr

abbrev pub is_of : Kind → ℕ → Bool
is_of Bare zero = true
is_of Bare (suc n) = false
is_of Fielded zero = false
is_of Fielded (suc n) = true

abbrev pub keep : Bool → Alternative → List Alternative → List Alternative
keep true a as' = a ∷ as'
keep false a as' = as'

-- those of one kind
abbrev pub kept : Kind → List Alternative → List Alternative
kept k [] = []
kept k (a ∷ as') = keep (is_of k a.binders) a (kept k as')

abbrev pub is_some : List Alternative → Bool
is_some [] = false
is_some (a ∷ as') = true

-- the number of the first
abbrev pub first_number : List Alternative → ℕ
first_number [] = 0
first_number (a ∷ as') = a.number

-- Tests of the word in local d.

-- whether it is that of constructor c without arguments; or whether its block is of constructor c with n arguments
abbrev pub empty_test : ℕ → ℕ → List Instr → List Instr
empty_test d c rest = LocalGet d ∷ ConstWord (2 * c + 1) ∷ Operation op32.Eq ∷ rest

abbrev pub head_test : ℕ → ℕ → ℕ → List Instr → List Instr
head_test d c n rest = LocalGet d ∷ Load 0 ∷ ConstWord (n * 65536 + c) ∷ Operation op32.Eq ∷ rest

-- the one of an alternative with so many binders
abbrev pub equal_test : ℕ → ℕ → ℕ → List Instr → List Instr
equal_test d c zero rest = empty_test d c rest
equal_test d c (suc n) rest = head_test d c (suc n) rest

-- whether it is that of a constructor of this kind whose number is below c: of a block's header the lower half counts
abbrev pub below_test : Kind → ℕ → ℕ → List Instr → List Instr
below_test Bare d c rest = ConstWord (2 * c) ∷ LocalGet d ∷ Operation op32.GtU ∷ rest
below_test Fielded d c rest = ConstWord (65536 * c) ∷ LocalGet d ∷ Load 0 ∷ ConstWord 16 ∷ Operation op32.Shl ∷ Operation op32.GtU ∷ rest

-- whether it is that of a constructor without arguments
abbrev pub bare_test : ℕ → List Instr → List Instr
bare_test d rest = LocalGet d ∷ ConstWord 1 ∷ Operation op32.And ∷ rest

-- A branch behind its test, in whose other arm the branches behind it stand. Where there is none behind it, it needs no test: where the evaluation goes on, the scrutinee's constructor has a branch.
abbrev pub arm : Bool → (List Instr → List Instr) → (Position → List Instr → List Instr) → (Position → List Instr → List Instr) → Position → List Instr → List Instr
arm true test branch behind at rest = test (IfWord ∷ branch (deeper at) (Else ∷ behind (deeper at) (End ∷ rest)))
arm false test branch behind at rest = branch at rest

-- where there is no alternative
abbrev pub none : Position → List Instr → List Instr
none at rest = Unreachable ∷ rest

-- one after another, and then `others`, of which there are some or none
abbrev pub chain : ℕ → Bool → List Alternative → (Position → List Instr → List Instr) → Position → List Instr → List Instr
chain d some [] others at rest = others at rest
chain d some (a ∷ as') others at rest = arm (some || is_some as') (equal_test d a.number a.binders) a.code (chain d some as' others) at rest

-- from so many on alternatives of a kind are told by halves
abbrev pub many_alternatives : ℕ
many_alternatives = 6

abbrev pub are_many : List Alternative → Bool
are_many as' = nat_le many_alternatives (length as')

-- by at most so many halvings
abbrev pub search : Kind → ℕ → ℕ → List Alternative → Position → List Instr → List Instr
search k d zero as' at rest = chain d false as' none at rest
search k d (suc rounds) as' at rest =
    let half = length as' / 2 in
    (
    if are_many as'
    then arm true (below_test k d (first_number (drop half as'))) (search k d rounds (take half as')) (search k d rounds (drop half as'))
    else chain d false as' none
    ) at rest

-- sixteen leave fewer than six of 65,536 constructors
abbrev pub most_rounds : ℕ
most_rounds = 16

-- All alternatives, in the order of their numbers. Where there are both kinds, and few bare ones, these are told from the others one by one; where there are many, by one test.
abbrev pub tests : ℕ → List Alternative → Position → List Instr → List Instr
tests d as' at rest =
    let bare = kept Bare as' in
    let fielded = kept Fielded as' in
    (
    if is_some fielded
    then (if are_many bare then arm true (bare_test d) (search Bare d most_rounds bare) (search Fielded d most_rounds fielded) else chain d true bare (search Fielded d most_rounds fielded))
    else search Bare d most_rounds bare
    ) at rest
