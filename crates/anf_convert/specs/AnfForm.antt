-- The form of programs in A-normal form: names are in scope, and counts are within the limits.
use Rattle.std.specs.Prelude.{◌≡◌, ℕ, suc, ◌+◌, ◌<◌, ◌≤◌, List, [], ◌∷◌, length, Some, slice_get}
use Rattle.anf_convert.specs.Anf.{Atom, AVar, ABox, AEmpty, AnfOp, ConstOp, AppOp, ConOp, LamOp, FixOp, CaseOp, AnfBlock, TailAtom, Tail, BindAtom, Bind, AnfBranches, NoBranch, Branch, AnfDefs, NoDef, LamDef, BoxDef, AnfProgram, def_count}

-- the limits: the numbers of constructors are below the one, and those of arguments or captured words of a block below the other
abbrev pub constructors : ℕ
constructors = 65536

abbrev pub fields : ℕ
fields = 2049

abbrev pub branch_count : AnfBranches → ℕ
branch_count NoBranch = 0
branch_count (Branch n t rest) = suc (branch_count rest)

-- an atom under n variables
abbrev pub AtomFits : ℕ → Atom → Type 0
AtomFits n (AVar i) = i < n
AtomFits n ABox = Unit {0}
AtomFits n (AEmpty c) = c < constructors

abbrev pub AtomsFit : ℕ → List Atom → Type 0
AtomsFit n [] = Unit {0}
AtomsFit n (a ∷ as') = AtomFits n a × AtomsFit n as'

-- code under n variables, where there are k constants, and no match has over m branches
module _ (k m : ℕ) where
  abbrev mutual
    pub AnfOpFits : ℕ → AnfOp → Type 0
    AnfOpFits n (ConstOp x) = x < k
    AnfOpFits n (AppOp f a) = AtomFits n f × AtomFits n a
    AnfOpFits n (ConOp c as') = (c < constructors) × (0 < length as') × (length as' < fields) × AtomsFit n as'
    AnfOpFits n (LamOp b) = AnfFits (suc n) b
    AnfOpFits n (FixOp ds i) = (i < def_count ds) × DefsFit (n + def_count ds) ds
    AnfOpFits n (CaseOp a bs) = AtomFits n a × (branch_count bs ≤ m) × AnfBranchesFit n bs

    pub AnfFits : ℕ → AnfBlock → Type 0
    AnfFits n (TailAtom a) = AtomFits n a
    AnfFits n (Tail op) = AnfOpFits n op
    AnfFits n (BindAtom a t) = AtomFits n a × AnfFits (suc n) t
    AnfFits n (Bind op t) = AnfOpFits n op × AnfFits (suc n) t

    pub AnfBranchesFit : ℕ → AnfBranches → Type 0
    AnfBranchesFit n NoBranch = Unit {0}
    AnfBranchesFit n (Branch j t rest) = (j < fields) × AnfFits (n + j) t × AnfBranchesFit n rest

    pub DefsFit : ℕ → AnfDefs → Type 0
    DefsFit n NoDef = Unit {0}
    DefsFit n (LamDef b rest) = AnfFits (suc n) b × DefsFit n rest
    DefsFit n (BoxDef rest) = DefsFit n rest

pub record AnfFormed (P : AnfProgram) (m : ℕ) : Type 0 where
  pub constants : (x : ℕ) (t : AnfBlock) → slice_get P.constants x ≡ Some t → AnfFits (length P.constants) m 0 t
  pub main : AnfFits (length P.constants) m 0 P.main
