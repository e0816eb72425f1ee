-- The free variables of the lambdas and fixpoints of a program. A variable is a level here: the number of variables that are bound outside it.
use Rattle.std.specs.Prelude.{ℕ, zero, suc, ◌+◌, ◌-◌, List, [], ◌∷◌, ◌++◌, nat_eq, nat_lt, if◌then◌else◌}
use Rattle.anf_convert.specs.Anf.{AnfOp, ConstOp, AppOp, ConOp, LamOp, FixOp, CaseOp, AnfBlock, TailAtom, Tail, BindAtom, Bind, AnfBranches, NoBranch, Branch, AnfDefs, NoDef, LamDef, BoxDef, def_count}
use Rattle.anf_convert.specs.declared.program.Atom.{Atom}
use Rattle.anf_convert.specs.declared.program.Atom.TheVariants.{Var as AVar, Box as ABox, Empty as AEmpty}
use Rattle.anf_convert.specs.Captured.{Scope, Outside, Plain, Shared, depth, captured}

abbrev pub free_atom : ℕ → Atom → List ℕ
free_atom n (AVar i) = if nat_lt i n then (n - suc i) ∷ [] else []
free_atom n ABox = []
free_atom n (AEmpty c) = []

abbrev pub free_atoms : ℕ → List Atom → List ℕ
free_atoms n [] = []
free_atoms n (a ∷ as') = free_atom n a ++ free_atoms n as'

-- The levels that code under n variables names. A lambda or fixpoint names its free variables, each once, those that it names last being last
abbrev mutual
  pub free_op : ℕ → AnfOp → List ℕ
  free_op n (ConstOp x) = []
  free_op n (AppOp f a) = free_atom n f ++ free_atom n a
  free_op n (ConOp c as') = free_atoms n as'
  free_op n (LamOp b) = captured n (free_block (suc n) b)
  free_op n (FixOp ds i) = captured n (free_defs (def_count ds + n) ds)
  free_op n (CaseOp a bs) = free_atom n a ++ free_branches n bs

  pub free_block : ℕ → AnfBlock → List ℕ
  free_block n (TailAtom a) = free_atom n a
  free_block n (Tail op) = free_op n op
  free_block n (BindAtom a t) = free_atom n a ++ free_block (suc n) t
  free_block n (Bind op t) = free_op n op ++ free_block (suc n) t

  pub free_branches : ℕ → AnfBranches → List ℕ
  free_branches n NoBranch = []
  free_branches n (Branch k t rest) = free_block (k + n) t ++ free_branches n rest

  pub free_defs : ℕ → AnfDefs → List ℕ
  free_defs n NoDef = []
  free_defs n (LamDef b rest) = free_block (suc n) b ++ free_defs n rest
  free_defs n (BoxDef rest) = free_defs n rest

-- the free variables of a fixpoint, at the first of its n definitions
abbrev pub nothing : ℕ → List (List ℕ)
nothing zero = []
nothing (suc n) = [] ∷ nothing n

abbrev pub at_first : ℕ → List ℕ → List (List ℕ)
at_first zero xs = []
at_first (suc n) xs = xs ∷ nothing n

-- the free variables of each lambda and each fixpoint, in the order of the functions
abbrev mutual
  pub notes_op : ℕ → AnfOp → List (List ℕ)
  notes_op n (ConstOp x) = []
  notes_op n (AppOp f a) = []
  notes_op n (ConOp c as') = []
  notes_op n (LamOp b) = free_op n (LamOp b) ∷ notes_block (suc n) b
  notes_op n (FixOp ds i) = at_first (def_count ds) (free_op n (FixOp ds i)) ++ notes_defs (def_count ds + n) ds
  notes_op n (CaseOp a bs) = notes_branches n bs

  pub notes_block : ℕ → AnfBlock → List (List ℕ)
  notes_block n (TailAtom a) = []
  notes_block n (Tail op) = notes_op n op
  notes_block n (BindAtom a t) = notes_block (suc n) t
  notes_block n (Bind op t) = notes_op n op ++ notes_block (suc n) t

  pub notes_branches : ℕ → AnfBranches → List (List ℕ)
  notes_branches n NoBranch = []
  notes_branches n (Branch k t rest) = notes_block (k + n) t ++ notes_branches n rest

  pub notes_defs : ℕ → AnfDefs → List (List ℕ)
  notes_defs n NoDef = []
  notes_defs n (LamDef b rest) = notes_block (suc n) b ++ notes_defs n rest
  notes_defs n (BoxDef rest) = notes_defs n rest

-- the number of variables
abbrev pub size : Scope → ℕ
size Outside = 0
size (Plain s) = suc (size s)
size (Shared ws s) = suc (size s)

-- the words that stand for the variable of a level
abbrev pub level_words : Scope → ℕ → List ℕ
level_words Outside x = []
level_words (Plain s) x = if nat_eq x (size s) then depth s ∷ [] else level_words s x
level_words (Shared ws s) x = if nat_eq x (size s) then ws else level_words s x

abbrev pub all_words : (ℕ → List ℕ) → List ℕ → List ℕ
all_words f [] = []
all_words f (x ∷ xs) = f x ++ all_words f xs
