-- Names and notes of a block, of branches and of definitions, one after another.
use Rattle.std.proofs.Common.{◌≡◌, ℕ, zero, suc, ◌+◌, ◌<◌, List, [], ◌∷◌, ◌++◌, length, drop, get_or, refl, sym, ap, ◌∙◌, arith, append_assoc, length-append, ◌≤◌}
use Rattle.std.proofs.lemmas.List.{append-nil, set_at}
use Rattle.anf_convert.specs.Anf.{AnfBlock, AnfBinding, AtomIs, OpIs, tail_of, block_of}
use Rattle.anf_convert.specs.declared.program.Atom.{Atom}
use Rattle.anf_convert.specs.AnfView.{seen, bindings_of, branches_of, defs_of}
use Rattle.anf_convert.specs.declared.program.Op.{Op}
use Rattle.anf_convert.specs.declared.program.AnfBranch.{AnfBranch}
use Rattle.anf_convert.specs.declared.program.AnfDef.{AnfDef}
use Rattle.anf_convert.specs.declared.program.AnfDef.TheVariants as def
use Rattle.closure_lift.specs.FreeVariables.{free_atom, free_atoms, free_block, free_branches, free_defs, nothing, at_first, notes_block, notes_branches, notes_defs}
use Rattle.closure_lift.specs.Noting.{free_bound, notes_bound, free_def, notes_def, put_first}
pub use Rattle.trees.proofs.Lists.{next_is}

-- one more part of a list that is put together
pub part_more : {A : Type 0} (xs more rest : List A) {ys all old : List A} → ys ≡ xs ++ more → all ≡ more ++ rest → xs ++ all ≡ old → ys ++ rest ≡ old
part_more xs more rest e f g = ap (λ zs. zs ++ rest) e ∙ append_assoc xs more rest ∙ ap (λ zs. xs ++ zs) (sym f) ∙ g

-- the last part
pub part_last : {A : Type 0} (xs : List A) {ys more all old : List A} → ys ≡ xs ++ more → all ≡ more → xs ++ all ≡ old → ys ≡ old
part_last xs e f g = e ∙ ap (λ zs. xs ++ zs) (sym f) ∙ g

-- nothing is left
pub part_none : {A : Type 0} {xs all old : List A} → all ≡ [] → xs ++ all ≡ old → xs ≡ old
part_none {xs = xs} e g = sym (append-nil xs) ∙ ap (λ zs. xs ++ zs) (sym e) ∙ g

pub free_step : (n : ℕ) (p : AnfBinding) (ps : List AnfBinding) (t : AnfBlock) → free_block n (block_of (p ∷ ps) t) ≡ free_bound n p ++ free_block (suc n) (block_of ps t)
free_step n (AtomIs a) ps t = refl
free_step n (OpIs op) ps t = refl

pub notes_step : (n : ℕ) (p : AnfBinding) (ps : List AnfBinding) (t : AnfBlock) → notes_block n (block_of (p ∷ ps) t) ≡ notes_bound n p ++ notes_block (suc n) (block_of ps t)
notes_step n (AtomIs a) ps t = refl
notes_step n (OpIs op) ps t = refl

pub free_tail : (n : ℕ) (p : AnfBinding) → free_block n (tail_of p) ≡ free_bound n p
free_tail n (AtomIs a) = refl
free_tail n (OpIs op) = refl

pub notes_tail : (n : ℕ) (p : AnfBinding) → notes_block n (tail_of p) ≡ notes_bound n p
notes_tail n (AtomIs a) = refl
notes_tail n (OpIs op) = refl

pub free_here : (n m : ℕ) (ops : List Op) (i : ℕ) (o : Op) (t : AnfBlock) → i < length ops → o ≡ get_or ops i o → m ≡ 1 + n → free_block n (block_of (bindings_of (drop i ops)) t) ≡ free_bound n (seen o) ++ free_block m (block_of (bindings_of (drop (i + 1) ops)) t)
free_here n m ops i o t lt is e =
    let k : suc n ≡ m = omega arith in
    ap (λ zs. free_block n (block_of (bindings_of zs) t)) (next_is ops i o lt is) ∙ free_step n (seen o) (bindings_of (drop (i + 1) ops)) t
    ∙ ap (λ k. free_bound n (seen o) ++ free_block k (block_of (bindings_of (drop (i + 1) ops)) t)) k

pub notes_here : (n m : ℕ) (ops : List Op) (i : ℕ) (o : Op) (t : AnfBlock) → i < length ops → o ≡ get_or ops i o → m ≡ 1 + n → notes_block n (block_of (bindings_of (drop i ops)) t) ≡ notes_bound n (seen o) ++ notes_block m (block_of (bindings_of (drop (i + 1) ops)) t)
notes_here n m ops i o t lt is e =
    let k : suc n ≡ m = omega arith in
    ap (λ zs. notes_block n (block_of (bindings_of zs) t)) (next_is ops i o lt is) ∙ notes_step n (seen o) (bindings_of (drop (i + 1) ops)) t
    ∙ ap (λ k. notes_bound n (seen o) ++ notes_block k (block_of (bindings_of (drop (i + 1) ops)) t)) k

pub free_arm : (n m : ℕ) (arms : List AnfBranch) (i : ℕ) (b : AnfBranch) → i < length arms → b ≡ get_or arms i b → m ≡ b.binders + n → free_branches n (branches_of (drop i arms)) ≡ free_block m b.body ++ free_branches n (branches_of (drop (i + 1) arms))
free_arm n m arms i b lt is e = ap (λ zs. free_branches n (branches_of zs)) (next_is arms i b lt is) ∙ ap (λ k. free_block k b.body ++ free_branches n (branches_of (drop (i + 1) arms))) (sym e)

pub notes_arm : (n m : ℕ) (arms : List AnfBranch) (i : ℕ) (b : AnfBranch) → i < length arms → b ≡ get_or arms i b → m ≡ b.binders + n → notes_branches n (branches_of (drop i arms)) ≡ notes_block m b.body ++ notes_branches n (branches_of (drop (i + 1) arms))
notes_arm n m arms i b lt is e = ap (λ zs. notes_branches n (branches_of zs)) (next_is arms i b lt is) ∙ ap (λ k. notes_block k b.body ++ notes_branches n (branches_of (drop (i + 1) arms))) (sym e)

-- a definition
def_step : (n : ℕ) (d : AnfDef) (ds : List AnfDef) → free_defs n (defs_of (d ∷ ds)) ≡ free_def n d ++ free_defs n (defs_of ds)
def_step n (def.Lambda b) ds = refl
def_step n def.Box ds = refl

pub def_notes_step : (n : ℕ) (d : AnfDef) (ds : List AnfDef) → notes_defs n (defs_of (d ∷ ds)) ≡ notes_def n d ++ notes_defs n (defs_of ds)
def_notes_step n (def.Lambda b) ds = refl
def_notes_step n def.Box ds = refl

pub free_one : (n : ℕ) (ds : List AnfDef) (i : ℕ) (d : AnfDef) → i < length ds → d ≡ get_or ds i d → free_defs n (defs_of (drop i ds)) ≡ free_def n d ++ free_defs n (defs_of (drop (i + 1) ds))
free_one n ds i d lt is = ap (λ zs. free_defs n (defs_of zs)) (next_is ds i d lt is) ∙ def_step n d (drop (i + 1) ds)

pub notes_one : (n : ℕ) (ds : List AnfDef) (i : ℕ) (d : AnfDef) → i < length ds → d ≡ get_or ds i d → notes_defs n (defs_of (drop i ds)) ≡ notes_def n d ++ notes_defs n (defs_of (drop (i + 1) ds))
notes_one n ds i d lt is = ap (λ zs. notes_defs n (defs_of zs)) (next_is ds i d lt is) ∙ def_notes_step n d (drop (i + 1) ds)

pub atoms_step : (n : ℕ) (a : Atom) (as' : List Atom) {bs : List Atom} → bs ≡ a ∷ as' → free_atoms n bs ≡ free_atom n a ++ free_atoms n as'
atoms_step n a as' e = ap (free_atoms n) e

-- n places that are free, and one more
pub nothing_more : (n : ℕ) → nothing (n + 1) ≡ nothing n ++ [] ∷ []
nothing_more zero = refl
nothing_more (suc n) = let e : suc n + 1 ≡ suc (n + 1) = omega arith in ap nothing e ∙ ap (λ zs. [] ∷ zs) (nothing_more n)

-- the list comes to its place
pub put_there : (ls : List (List ℕ)) (count : ℕ) (xs : List ℕ) (inside : List (List ℕ)) → put_first (length ls) count xs (ls ++ (nothing count ++ inside)) ≡ ls ++ (at_first count xs ++ inside)
put_there ls zero xs inside = refl
put_there ls (suc n) xs inside = set_at ls [] (nothing n ++ inside) xs (length ls) refl

pub nothing_length : (n : ℕ) → length (nothing n) ≡ n
nothing_length zero = refl
nothing_length (suc n) = ap suc (nothing_length n)

-- the places are there
pub room : (ls new more : List (List ℕ)) (count : ℕ) → new ≡ (ls ++ nothing count) ++ more → length ls + count ≤ length new
room ls new more count e =
    let n : length new ≡ length (ls ++ nothing count) + length more = ap length e ∙ length-append (ls ++ nothing count) more in
    let k : length (ls ++ nothing count) ≡ length ls + length (nothing count) = length-append ls (nothing count) in
    let z = nothing_length count in
    omega arith
