-- A closure that is made nowhere is read as a word nowhere in the parts of a block either.
use Rattle.std.proofs.Common.{◌≡◌, ℕ, zero, suc, ◌+◌, List, ◌∷◌, Option, Some, None, Bool, true, false, refl, ◌∙◌, ap, arith}
use Rattle.std.specs.Prelude.{slice_get, if◌then◌else◌}
use Rattle.closure_lift.specs.Lifted.{Op, CaseOp, Block, BindAtom, Bind, BranchBlocks, BranchAt, branch_here, branch_after}
use Rattle.anf_convert.specs.declared.program.Atom.{Atom}
use Rattle.known_calls.specs.KnownPlaces.{Word, Place, At, Known, Times, Never, Once, More, ◌plus◌, is_read, fields_of, names, op_reads, block_reads, branches_read}
use Rattle.known_calls.proofs.KnownHolds.{Unread, OpUnread}

pub neither : (a b : Times) → a plus b ≡ Never → (a ≡ Never) × (b ≡ Never)
neither Never b e = (refl, e)
neither Once Never e = cc
neither Once Once e = cc
neither Once More e = cc
neither More b e = cc

pub not_read : (r : Times) → is_read r ≡ false → r ≡ Never
not_read Never e = refl
not_read Once e = cc
not_read More e = cc

-- a binding that needs no code
pub unmade_some : (b : Bool) (o : Option Place) {q : Place} → (if b then None else o) ≡ Some q → (b ≡ false) × (o ≡ Some q)
unmade_some true o e = cc
unmade_some false o e = (refl, e)

-- behind a binding that needs no code
pub unread_known : (ps : List Place) (p : Op) (t : Block) (g : ℕ) (ws : List Word) → Unread ps (Bind p t) → block_reads 0 t ≡ Never → Unread (Known g ws ∷ ps) t
unread_known ps p t g ws un none zero h vs at = none
unread_known ps p t g ws un none (suc i) h vs at = (neither (op_reads i p) (block_reads (suc i) t) (un i h vs at)).1

-- behind one that has a word
pub unread_at : (ps : List Place) (p : Op) (t : Block) (w : Word) → Unread ps (Bind p t) → Unread (At w ∷ ps) t
unread_at ps p t w un zero h vs at = cc
unread_at ps p t w un (suc i) h vs at = (neither (op_reads i p) (block_reads (suc i) t) (un i h vs at)).1

-- where its word is, plays no part
pub unread_moved : (x y : Word) (ps : List Place) (t : Block) → Unread (At x ∷ ps) t → Unread (At y ∷ ps) t
unread_moved x y ps t un zero h vs at = cc
unread_moved x y ps t un (suc i) h vs at = un (suc i) h vs at

-- behind a named atom
pub unread_let_atom : (ps : List Place) (a : Atom) (t : Block) (w : Word) → Unread ps (BindAtom a t) → Unread (At w ∷ ps) t
unread_let_atom ps a t w un zero h vs at = cc
unread_let_atom ps a t w un (suc i) h vs at = (neither (names i a) (block_reads (suc i) t) (un i h vs at)).1

pub unread_op : (ps : List Place) (p : Op) (t : Block) → Unread ps (Bind p t) → OpUnread ps p
unread_op ps p t un i h vs at = (neither (op_reads i p) (block_reads (suc i) t) (un i h vs at)).0

-- a known place behind the fields of a block is one outside them
record Outer (ps : List Place) (n j h : ℕ) (vs : List Word) : Type 0 where
  i : ℕ
  is : j ≡ n + i
  at : slice_get ps i ≡ Some (Known h vs)

outer : (x n : ℕ) (ps : List Place) (j h : ℕ) (vs : List Word) → slice_get (fields_of x n ps) j ≡ Some (Known h vs) → Outer ps n j h vs
outer x zero ps j h vs at = record { i = j; is = omega arith; at = at }
outer x (suc n) ps zero h vs at = cc
outer x (suc n) ps (suc j) h vs at = let r = outer x n ps j h vs at in record { i = r.i; is = omega (arith, r.is); at = r.at }

branch_unread : (i : ℕ) {bs : BranchBlocks} {c n : ℕ} {t : Block} → branches_read i bs ≡ Never → BranchAt bs c n t → block_reads (n + i) t ≡ Never
branch_unread i e (branch_here {n = n} {b = t} {rest = bs}) = (neither (block_reads (n + i) t) (branches_read i bs) e).0
branch_unread i e (branch_after {m = m} {d = t} {rest = bs} at) = branch_unread i (neither (block_reads (m + i) t) (branches_read i bs) e).1 at

-- in a branch, whose variables are fields
pub unread_branch : (ps : List Place) (a : Atom) {bs : BranchBlocks} {c n : ℕ} {t : Block} (x : ℕ) → OpUnread ps (CaseOp a bs) → BranchAt bs c n t → Unread (fields_of x n ps) t
unread_branch ps a {bs} {n = n} {t = t} x un at j h vs here =
    let r = outer x n ps j h vs here in
    let some = un r.i h vs r.at in
    ap (λ (k : ℕ). block_reads k t) r.is ∙ branch_unread r.i (neither _ (branches_read r.i bs) some).1 at
