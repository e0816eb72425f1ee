-- Lifted programs (closure conversion; Appel, "Compiling with Continuations", chapter 10), and their big-step evaluation. A closure is the
-- number of a function with the captured words.
use Rattle.std.specs.Prelude.{◌≡◌, ℕ, zero, suc, ◌+◌, ◌<◌, List, [], ◌∷◌, length, Option, Some, None, slice_get}
use Rattle.anf_convert.specs.declared.program.Atom.{Atom}
use Rattle.anf_convert.specs.declared.program.Atom.TheVariants.{Var as AVar, Box as ABox, Empty as AEmpty}

mutual
  pub data Op : Type 0 where
    ConstOp : (x : ℕ) → Op
    AppOp : (f a : Atom) → Op
    ConOp : (c : ℕ) → (args : List Atom) → Op
    ClosOp : (f : ℕ) → (captured : List Atom) → Op
    CaseOp : (scrutinee : Atom) → (bs : BranchBlocks) → Op

  pub data Block : Type 0 where
    TailAtom : Atom → Block
    BindAtom : Atom → Block → Block
    Tail : Op → Block
    Bind : Op → Block → Block

  pub data BranchBlocks : Type 0 where
    NoBranch : BranchBlocks
    Branch : (binders : ℕ) → (body : Block) → (rest : BranchBlocks) → BranchBlocks

-- what a block binds, or ends in
pub data Bound : Type 0 where
  AtomIs : (a : Atom) → Bound
  OpIs : (op : Op) → Bound

abbrev pub tail_of : Bound → Block
tail_of (AtomIs a) = TailAtom a
tail_of (OpIs op) = Tail op

-- the block that binds these one after another, and then goes on
abbrev pub block_of : List Bound → Block → Block
block_of [] t = t
block_of (AtomIs a ∷ ps) t = BindAtom a (block_of ps t)
block_of (OpIs op ∷ ps) t = Bind op (block_of ps t)

-- variable 0 of the body is the argument; the captured words stand outside it, the last one innermost
pub record Fn : Type 0 where
  pub captured : ℕ
  pub body : Block

pub record Program : Type 0 where
  pub functions : List Fn
  pub constants : List Block
  pub main : Block

mutual
  pub data Val : Type 0 where
    VBox : Val
    VCon : (c : ℕ) → (args : Vals) → Val
    VClos : (f : ℕ) → (captured : Vals) → Val

  -- the last one first, as in environments
  pub data Vals : Type 0 where
    VNil : Vals
    VCons : (v : Val) → (rest : Vals) → Vals

abbrev pub lookup : Vals → ℕ → Option Val
lookup VNil i = None
lookup (VCons v rest) zero = Some v
lookup (VCons v rest) (suc i) = lookup rest i

abbrev pub size : Vals → ℕ
size VNil = 0
size (VCons v rest) = suc (size rest)

infixr 40 ◌+v◌
abbrev pub ◌+v◌ : Vals → Vals → Vals
VNil +v ws = ws
(VCons v vs) +v ws = VCons v (vs +v ws)

abbrev pub branch_count : BranchBlocks → ℕ
branch_count NoBranch = 0
branch_count (Branch n b rest) = suc (branch_count rest)

-- branch number c has n binders and this body
pub data BranchAt : BranchBlocks → ℕ → ℕ → Block → Type 0 where
  branch_here : {n : ℕ} {b : Block} {rest : BranchBlocks} → BranchAt (Branch n b rest) zero n b
  branch_after : {m n c : ℕ} {b d : Block} {rest : BranchBlocks} → BranchAt rest c n b → BranchAt (Branch m d rest) (suc c) n b

pub data Is (e : Vals) : Atom → Val → Type 0 where
  is_var : {i : ℕ} {v : Val} → lookup e i ≡ Some v → Is e (AVar i) v
  is_box : Is e ABox VBox
  is_empty : {c : ℕ} → Is e (AEmpty c) (VCon c VNil)

pub data AllAre (e : Vals) : List Atom → Vals → Type 0 where
  are_none : AllAre e [] VNil
  are_more : {a : Atom} {v : Val} {as' : List Atom} {vs : Vals} → Is e a v → AllAre e as' vs → AllAre e (a ∷ as') (VCons v vs)

mutual
  -- `Does P w e op v c k b l`: in the environment the operation gives the value, with c contractions, of which k are matches, and b blocks
  -- of l words in all, each of at most w words
  pub data Does (P : Program) (w : ℕ) : Vals → Op → Val → ℕ → ℕ → ℕ → ℕ → Type 0 where
    do_const : {e : Vals} {x : ℕ} {t : Block} {v : Val} {c k b l : ℕ} → slice_get P.constants x ≡ Some t → Gets P w VNil t v c k b l → Does P w e (ConstOp x) v (suc c) k b l
    do_app : {e e' : Vals} {f a : Atom} {g : ℕ} {fn : Fn} {v r : Val} {c k b l : ℕ} → Is e f (VClos g e') → Is e a v → slice_get P.functions g ≡ Some fn → size e' ≡ fn.captured → Gets P w (VCons v e') fn.body r c k b l → Does P w e (AppOp f a) r (suc c) k b l
    do_box_app : {e : Vals} {f a : Atom} {v : Val} → Is e f VBox → Is e a v → Does P w e (AppOp f a) VBox 1 0 0 0
    do_con : {e : Vals} {c : ℕ} {as' : List Atom} {vs : Vals} → length as' < w → AllAre e as' vs → Does P w e (ConOp c as') (VCon c vs) 0 0 1 (suc (length as'))
    do_clos : {e : Vals} {g : ℕ} {as' : List Atom} {vs : Vals} → length as' < w → AllAre e as' vs → Does P w e (ClosOp g as') (VClos g vs) 0 0 1 (suc (length as'))
    do_case : {e : Vals} {a : Atom} {bs : BranchBlocks} {i : ℕ} {vs : Vals} {t : Block} {r : Val} {c k b l : ℕ} → Is e a (VCon i vs) → BranchAt bs i (size vs) t → Gets P w (vs +v e) t r c k b l → Does P w e (CaseOp a bs) r (suc c) (suc k) b l

  pub data Gets (P : Program) (w : ℕ) : Vals → Block → Val → ℕ → ℕ → ℕ → ℕ → Type 0 where
    gets_atom : {e : Vals} {a : Atom} {v : Val} → Is e a v → Gets P w e (TailAtom a) v 0 0 0 0
    gets_let_atom : {e : Vals} {a : Atom} {t : Block} {v r : Val} {c k b l : ℕ} → Is e a v → Gets P w (VCons v e) t r c k b l → Gets P w e (BindAtom a t) r (suc c) k b l
    gets_ret : {e : Vals} {op : Op} {v : Val} {c k b l : ℕ} → Does P w e op v c k b l → Gets P w e (Tail op) v c k b l
    gets_let : {e : Vals} {op : Op} {t : Block} {v r : Val} {c c' k k' b b' l l' : ℕ} → Does P w e op v c k b l → Gets P w (VCons v e) t r c' k' b' l' → Gets P w e (Bind op t) r (c + c') (k + k') (b + b') (l + l')

-- main, applied to these values, the last one first
pub data LiftedAnswers (P : Program) (w : ℕ) : Vals → Val → ℕ → ℕ → ℕ → ℕ → Type 0 where
  answers_alone : {v : Val} {c k b l : ℕ} → Gets P w VNil P.main v c k b l → LiftedAnswers P w VNil v c k b l
  answers_applied : {args : Vals} {a v r : Val} {c c1 k k1 b b1 l l1 : ℕ} → LiftedAnswers P w args v c1 k1 b1 l1 → Does P w (VCons a (VCons v VNil)) (AppOp (AVar 1) (AVar 0)) r c k b l → LiftedAnswers P w (VCons a args) r (c1 + c) (k1 + k) (b1 + b) (l1 + l)
