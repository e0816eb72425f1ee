-- The captured words of lambdas and fixpoints: the distinct variables that one names and that are bound outside it, where the captured
-- words of a fixpoint stand for each of its variables.
use Rattle.std.specs.Prelude.{ℕ, zero, suc, List, [], ◌∷◌, ◌++◌, Bool, true, false, nat_eq, nat_lt, if◌then◌else◌}
use Rattle.anf_convert.specs.Anf.{Atom, AVar, ABox, AEmpty, AnfOp, ConstOp, AppOp, ConOp, LamOp, FixOp, CaseOp, AnfBlock, TailAtom, Tail, BindAtom, Bind, AnfBranches, NoBranch, Branch, AnfDefs, NoDef, LamDef, BoxDef, def_count}

-- The variables at a place of a program, the innermost first: one that holds a word, or a fixpoint's, for which the captured words of the
-- fixpoint stand. A word is the number of such variables outside its own.
pub data Scope : Type 0 where
  Outside : Scope
  Plain : (rest : Scope) → Scope
  Shared : (words : List ℕ) → (rest : Scope) → Scope

abbrev pub depth : Scope → ℕ
depth Outside = 0
depth (Plain s) = suc (depth s)
depth (Shared ws s) = depth s

-- what stands for a variable
pub data Entry : Type 0 where
  Unbound : Entry
  Word : (x : ℕ) → Entry
  Words : (ws : List ℕ) → Entry

abbrev pub entry : Scope → ℕ → Entry
entry Outside i = Unbound
entry (Plain s) zero = Word (depth s)
entry (Plain s) (suc i) = entry s i
entry (Shared ws s) zero = Words ws
entry (Shared ws s) (suc i) = entry s i

-- n more variables with words
abbrev pub plains : ℕ → Scope → Scope
plains zero s = s
plains (suc n) s = Plain (plains n s)

-- the n variables of a fixpoint with these captured words
abbrev pub shares : List ℕ → ℕ → Scope → Scope
shares ws zero s = s
shares ws (suc n) s = Shared ws (shares ws n s)

abbrev pub words_of : Entry → List ℕ
words_of Unbound = []
words_of (Word x) = x ∷ []
words_of (Words ws) = ws

-- the words that are named, inner ones too
abbrev pub atom_words : Scope → Atom → List ℕ
atom_words s (AVar i) = words_of (entry s i)
atom_words s ABox = []
atom_words s (AEmpty c) = []

abbrev pub atoms_words : Scope → List Atom → List ℕ
atoms_words s [] = []
atoms_words s (a ∷ as') = atom_words s a ++ atoms_words s as'

abbrev mutual
  pub op_words : Scope → AnfOp → List ℕ
  op_words s (ConstOp x) = []
  op_words s (AppOp f a) = atom_words s f ++ atom_words s a
  op_words s (ConOp c as') = atoms_words s as'
  op_words s (LamOp b) = block_words (Plain s) b
  op_words s (FixOp ds i) = defs_words (shares [] (def_count ds) s) ds
  op_words s (CaseOp a bs) = atom_words s a ++ branches_words s bs

  pub block_words : Scope → AnfBlock → List ℕ
  block_words s (TailAtom a) = atom_words s a
  block_words s (Tail op) = op_words s op
  block_words s (BindAtom a t) = atom_words s a ++ block_words (Plain s) t
  block_words s (Bind op t) = op_words s op ++ block_words (Plain s) t

  pub branches_words : Scope → AnfBranches → List ℕ
  branches_words s NoBranch = []
  branches_words s (Branch n t rest) = block_words (plains n s) t ++ branches_words s rest

  pub defs_words : Scope → AnfDefs → List ℕ
  defs_words s NoDef = []
  defs_words s (LamDef b rest) = block_words (Plain s) b ++ defs_words s rest
  defs_words s (BoxDef rest) = defs_words s rest

abbrev pub is_in : ℕ → List ℕ → Bool
is_in x [] = false
is_in x (y ∷ ys) = if nat_eq x y then true else is_in x ys

abbrev pub add_word : Bool → ℕ → List ℕ → List ℕ
add_word true x ws = if is_in x ws then ws else x ∷ ws
add_word false x ws = ws

-- the words that are bound outside d words, each once
abbrev pub captured : ℕ → List ℕ → List ℕ
captured d [] = []
captured d (x ∷ xs) = add_word (nat_lt x d) x (captured d xs)

-- the captured words of a lambda, and of a fixpoint
abbrev pub lam_captured : Scope → AnfBlock → List ℕ
lam_captured s b = captured (depth s) (block_words (Plain s) b)

abbrev pub fix_captured : Scope → AnfDefs → List ℕ
fix_captured s ds = captured (depth s) (defs_words (shares [] (def_count ds) s) ds)
