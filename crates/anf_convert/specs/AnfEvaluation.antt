-- Big-step evaluation of programs in A-normal form, with environments and closures.
use Rattle.std.specs.Prelude.{◌≡◌, ℕ, zero, suc, ◌+◌, ◌*◌, ◌<◌, ◌≤◌, List, [], ◌∷◌, length, Option, Some, None, slice_get}
use Rattle.anf_convert.specs.Anf.{Atom, AVar, ABox, AEmpty, AnfOp, ConstOp, AppOp, ConOp, LamOp, FixOp, CaseOp, AnfBlock, TailAtom, Tail, BindAtom, Bind, AnfBranches, Branch, AnfDefs, LamDef, BoxDef, AnfProgram, def_count}
use Rattle.anf_convert.specs.Captured.{Scope, Outside, Plain, entry, Word, Words, plains, shares, lam_captured, fix_captured}

mutual
  pub data AnfVal : Type 0 where
    WBox : AnfVal
    WCon : (c : ℕ) → (args : AnfVals) → AnfVal
    WClos : (s : Scope) → (env : AnfVals) → (body : AnfBlock) → AnfVal
    WFix : (s : Scope) → (env : AnfVals) → (defs : AnfDefs) → (i : ℕ) → AnfVal

  -- the last one first, as in environments
  pub data AnfVals : Type 0 where
    WNil : AnfVals
    WCons : (v : AnfVal) → (rest : AnfVals) → AnfVals

abbrev pub find : AnfVals → ℕ → Option AnfVal
find WNil i = None
find (WCons v rest) zero = Some v
find (WCons v rest) (suc i) = find rest i

abbrev pub count : AnfVals → ℕ
count WNil = 0
count (WCons v rest) = suc (count rest)

infixr 40 ◌+w◌
abbrev pub ◌+w◌ : AnfVals → AnfVals → AnfVals
WNil +w ws = ws
(WCons v vs) +w ws = WCons v (vs +w ws)

-- the first n definitions of a fixpoint, the last one first
abbrev pub fixes : Scope → AnfVals → AnfDefs → ℕ → AnfVals
fixes s e ds zero = WNil
fixes s e ds (suc n) = WCons (WFix s e ds n) (fixes s e ds n)

-- definition i is a lambda with this body; it is box
pub data LamAt : AnfDefs → ℕ → AnfBlock → Type 0 where
  lam_here : {b : AnfBlock} {rest : AnfDefs} → LamAt (LamDef b rest) zero b
  lam_after_lam : {b d : AnfBlock} {i : ℕ} {rest : AnfDefs} → LamAt rest i b → LamAt (LamDef d rest) (suc i) b
  lam_after_box : {b : AnfBlock} {i : ℕ} {rest : AnfDefs} → LamAt rest i b → LamAt (BoxDef rest) (suc i) b

pub data BoxAt : AnfDefs → ℕ → Type 0 where
  box_here : {rest : AnfDefs} → BoxAt (BoxDef rest) zero
  box_after_lam : {d : AnfBlock} {i : ℕ} {rest : AnfDefs} → BoxAt rest i → BoxAt (LamDef d rest) (suc i)
  box_after_box : {i : ℕ} {rest : AnfDefs} → BoxAt rest i → BoxAt (BoxDef rest) (suc i)

-- branch c has n binders and this body
pub data AnfBranchAt : AnfBranches → ℕ → ℕ → AnfBlock → Type 0 where
  at_branch : {n : ℕ} {t : AnfBlock} {rest : AnfBranches} → AnfBranchAt (Branch n t rest) zero n t
  after_branch : {m n c : ℕ} {t d : AnfBlock} {rest : AnfBranches} → AnfBranchAt rest c n t → AnfBranchAt (Branch m d rest) (suc c) n t

-- `Gives w s e a v b l`: the atom gives the value, with b blocks of l words, each of at most w words. A variable gives the value that it
-- holds; for a fixpoint's variable one block is made
pub data Gives (w : ℕ) (s : Scope) (e : AnfVals) : Atom → AnfVal → ℕ → ℕ → Type 0 where
  give_word : {i x : ℕ} {v : AnfVal} → entry s i ≡ Word x → find e i ≡ Some v → Gives w s e (AVar i) v 0 0
  give_fix : {i : ℕ} {ws : List ℕ} {v : AnfVal} → entry s i ≡ Words ws → find e i ≡ Some v → length ws < w → Gives w s e (AVar i) v 1 (suc (length ws))
  give_box : Gives w s e ABox WBox 0 0
  give_empty : {c : ℕ} → Gives w s e (AEmpty c) (WCon c WNil) 0 0

pub data GivesAll (w : ℕ) (s : Scope) (e : AnfVals) : List Atom → AnfVals → ℕ → ℕ → Type 0 where
  give_none : GivesAll w s e [] WNil 0 0
  give_more : {a : Atom} {v : AnfVal} {as' : List Atom} {vs : AnfVals} {b l b' l' : ℕ} → Gives w s e a v b l → GivesAll w s e as' vs b' l' → GivesAll w s e (a ∷ as') (WCons v vs) (b + b') (l + l')

mutual
  -- `AnfDoes P w s e op v c k b l`: in the environment the operation gives the value, with c contractions, of which k are matches, and b
  -- blocks of l words in all, each of at most w words
  pub data AnfDoes (P : AnfProgram) (w : ℕ) : Scope → AnfVals → AnfOp → AnfVal → ℕ → ℕ → ℕ → ℕ → Type 0 where
    op_const : {s : Scope} {e : AnfVals} {x : ℕ} {t : AnfBlock} {v : AnfVal} {c k b l : ℕ} → slice_get P.constants x ≡ Some t → AnfGets P w Outside WNil t v c k b l → AnfDoes P w s e (ConstOp x) v (suc c) k b l
    op_app : {s s' : Scope} {e e' : AnfVals} {f a : Atom} {t : AnfBlock} {v r : AnfVal} {c k b b1 b2 l l1 l2 : ℕ} → Gives w s e f (WClos s' e' t) b1 l1 → Gives w s e a v b2 l2 → AnfGets P w (Plain s') (WCons v e') t r c k b l → AnfDoes P w s e (AppOp f a) r (suc c) k (b1 + b2 + b) (l1 + l2 + l)
    op_app_box : {s : Scope} {e : AnfVals} {f a : Atom} {v : AnfVal} {b1 b2 l1 l2 : ℕ} → Gives w s e f WBox b1 l1 → Gives w s e a v b2 l2 → AnfDoes P w s e (AppOp f a) WBox 1 0 (b1 + b2) (l1 + l2)
    -- a fixpoint is entered at its first argument: an unfolding, and a beta or an application of box
    op_app_fix : {s s' : Scope} {e e' : AnfVals} {f a : Atom} {ds : AnfDefs} {i : ℕ} {t : AnfBlock} {v r : AnfVal} {c k b b1 b2 l l1 l2 : ℕ} → Gives w s e f (WFix s' e' ds i) b1 l1 → Gives w s e a v b2 l2 → LamAt ds i t →
        AnfGets P w (Plain (shares (fix_captured s' ds) (def_count ds) s')) (WCons v (fixes s' e' ds (def_count ds) +w e')) t r c k b l → AnfDoes P w s e (AppOp f a) r (suc (suc c)) k (b1 + b2 + b) (l1 + l2 + l)
    op_app_fix_box : {s s' : Scope} {e e' : AnfVals} {f a : Atom} {ds : AnfDefs} {i : ℕ} {v : AnfVal} {b1 b2 l1 l2 : ℕ} → Gives w s e f (WFix s' e' ds i) b1 l1 → Gives w s e a v b2 l2 → BoxAt ds i → AnfDoes P w s e (AppOp f a) WBox 2 0 (b1 + b2) (l1 + l2)
    op_con : {s : Scope} {e : AnfVals} {c : ℕ} {as' : List Atom} {vs : AnfVals} {b l : ℕ} → GivesAll w s e as' vs b l → length as' < w → AnfDoes P w s e (ConOp c as') (WCon c vs) 0 0 (b + 1) (l + suc (length as'))
    op_lam : {s : Scope} {e : AnfVals} {t : AnfBlock} → length (lam_captured s t) < w → AnfDoes P w s e (LamOp t) (WClos s e t) 0 0 1 (suc (length (lam_captured s t)))
    op_fix : {s : Scope} {e : AnfVals} {ds : AnfDefs} {i : ℕ} → length (fix_captured s ds) < w → AnfDoes P w s e (FixOp ds i) (WFix s e ds i) 0 0 1 (suc (length (fix_captured s ds)))
    op_case : {s : Scope} {e : AnfVals} {a : Atom} {bs : AnfBranches} {i : ℕ} {vs : AnfVals} {t : AnfBlock} {r : AnfVal} {c k b b1 l l1 : ℕ} → Gives w s e a (WCon i vs) b1 l1 → AnfBranchAt bs i (count vs) t →
        AnfGets P w (plains (count vs) s) (vs +w e) t r c k b l → AnfDoes P w s e (CaseOp a bs) r (suc c) (suc k) (b1 + b) (l1 + l)

  pub data AnfGets (P : AnfProgram) (w : ℕ) : Scope → AnfVals → AnfBlock → AnfVal → ℕ → ℕ → ℕ → ℕ → Type 0 where
    block_atom : {s : Scope} {e : AnfVals} {a : Atom} {v : AnfVal} {b l : ℕ} → Gives w s e a v b l → AnfGets P w s e (TailAtom a) v 0 0 b l
    block_op : {s : Scope} {e : AnfVals} {op : AnfOp} {v : AnfVal} {c k b l : ℕ} → AnfDoes P w s e op v c k b l → AnfGets P w s e (Tail op) v c k b l
    -- a let
    block_let : {s : Scope} {e : AnfVals} {a : Atom} {t : AnfBlock} {v r : AnfVal} {c k b b1 l l1 : ℕ} → Gives w s e a v b1 l1 → AnfGets P w (Plain s) (WCons v e) t r c k b l → AnfGets P w s e (BindAtom a t) r (suc c) k (b1 + b) (l1 + l)
    block_bind : {s : Scope} {e : AnfVals} {op : AnfOp} {t : AnfBlock} {v r : AnfVal} {c c1 k k1 b b1 l l1 : ℕ} → AnfDoes P w s e op v c1 k1 b1 l1 → AnfGets P w (Plain s) (WCons v e) t r c k b l → AnfGets P w s e (Bind op t) r (c1 + c) (k1 + k) (b1 + b) (l1 + l)

-- main, applied to these values, the last one first
pub data AnfAnswers (P : AnfProgram) (w : ℕ) : AnfVals → AnfVal → ℕ → ℕ → ℕ → ℕ → Type 0 where
  main_alone : {v : AnfVal} {c k b l : ℕ} → AnfGets P w Outside WNil P.main v c k b l → AnfAnswers P w WNil v c k b l
  main_applied : {args : AnfVals} {a v r : AnfVal} {c c1 k k1 b b1 l l1 : ℕ} → AnfAnswers P w args v c1 k1 b1 l1 → AnfDoes P w (Plain (Plain Outside)) (WCons a (WCons v WNil)) (AppOp (AVar 1) (AVar 0)) r c k b l → AnfAnswers P w (WCons a args) r (c1 + c) (k1 + k) (b1 + b) (l1 + l)

-- the words of all blocks are at most the number of blocks times the words of the greatest
abbrev pub WordsBound : Type 0
WordsBound = (P : AnfProgram) (w : ℕ) (args : AnfVals) (v : AnfVal) (c k b l : ℕ) → AnfAnswers P w args v c k b l → l ≤ b * w
