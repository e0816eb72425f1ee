-- Lemmas on scopes and words.
use Rattle.std.proofs.Common.{◌≡◌, ℕ, zero, suc, ◌<◌, List, [], ◌∷◌, ◌++◌, Bool, true, false, refl, ap, subst as transport}
use Rattle.std.proofs.lemmas.Bool.{ltb-true}
use Rattle.std.specs.Prelude.{nat_lt, if◌then◌else◌}
use Rattle.anf_convert.specs.Anf.{Atom, AVar, ABox, AEmpty, AnfOp, ConstOp, AppOp, ConOp, LamOp, FixOp, CaseOp, AnfBlock, TailAtom, Tail, BindAtom, Bind, AnfBranches, NoBranch, Branch, AnfDefs, NoDef, LamDef, BoxDef, def_count}
use Rattle.anf_convert.specs.AnfEvaluation.{LamAt, lam_here, lam_after_lam, lam_after_box}
use Rattle.anf_convert.specs.Captured.{Scope, Outside, Plain, Shared, depth, entry, plains, shares, words_of, atom_words, atoms_words, op_words, block_words, branches_words, defs_words, is_in, add_word, captured}

-- what holds of each of these words
abbrev pub Each : (ℕ → Type 0) → List ℕ → Type 0
Each Q [] = Unit {0}
Each Q (x ∷ xs) = Q x × Each Q xs

pub each_split : (Q : ℕ → Type 0) (xs ys : List ℕ) → Each Q (xs ++ ys) → Each Q xs × Each Q ys
each_split Q [] ys h = (tt, h)
each_split Q (x ∷ xs) ys h = let r = each_split Q xs ys h.1 in ((h.0, r.0), r.1)

pub each_join : (Q : ℕ → Type 0) (xs ys : List ℕ) → Each Q xs → Each Q ys → Each Q (xs ++ ys)
each_join Q [] ys h g = g
each_join Q (x ∷ xs) ys h g = (h.0, each_join Q xs ys h.1 g)

pub each_map : (Q R : ℕ → Type 0) → ((x : ℕ) → Q x → R x) → (xs : List ℕ) → Each Q xs → Each R xs
each_map Q R f [] h = tt
each_map Q R f (x ∷ xs) h = (f x h.0, each_map Q R f xs h.1)

pub each_all : (Q : ℕ → Type 0) → ((x : ℕ) → Q x) → (xs : List ℕ) → Each Q xs
each_all Q f [] = tt
each_all Q f (x ∷ xs) = (f x, each_all Q f xs)

each_add : (Q : ℕ → Type 0) (b : Bool) (x : ℕ) (ws : List ℕ) → (b ≡ true → Q x) → Each Q ws → Each Q (add_word b x ws)
each_add Q false x ws q h = h
each_add Q true x ws q h = go (is_in x ws)
  where
    go : (b : Bool) → Each Q (if b then ws else x ∷ ws)
    go true = h
    go false = (q refl, h)

pub captured_each : (Q : ℕ → Type 0) (d : ℕ) (xs : List ℕ) → Each (λ x. x < d → Q x) xs → Each Q (captured d xs)
captured_each Q d [] h = tt
captured_each Q d (x ∷ xs) h = each_add Q (nat_lt x d) x (captured d xs) (λ e. h.0 (ltb-true x d e)) (captured_each Q d xs h.1)

pub captured_below : (d : ℕ) (xs : List ℕ) → Each (λ x. x < d) (captured d xs)
captured_below d xs = captured_each (λ x. x < d) d xs (each_all (λ x. x < d → x < d) (λ x h. h) xs)

pub depth_shares : (ws : List ℕ) (n : ℕ) (s : Scope) → depth (shares ws n s) ≡ depth s
depth_shares ws zero s = refl
depth_shares ws (suc n) s = depth_shares ws n s

-- scopes that differ in the words of some fixpoints' variables
pub data More (cs : List ℕ) : Scope → Scope → Type 0 where
  more_outside : More cs Outside Outside
  more_plain : {s1 s2 : Scope} → More cs s1 s2 → More cs (Plain s1) (Plain s2)
  more_shared : {ws : List ℕ} {s1 s2 : Scope} → More cs s1 s2 → More cs (Shared ws s1) (Shared ws s2)
  more_here : {s1 s2 : Scope} → More cs s1 s2 → More cs (Shared [] s1) (Shared cs s2)

more_same : (cs : List ℕ) (s : Scope) → More cs s s
more_same cs Outside = more_outside
more_same cs (Plain s) = more_plain (more_same cs s)
more_same cs (Shared ws s) = more_shared (more_same cs s)

more_shares : {cs : List ℕ} {s1 s2 : Scope} (ws : List ℕ) (n : ℕ) → More cs s1 s2 → More cs (shares ws n s1) (shares ws n s2)
more_shares ws zero m = m
more_shares ws (suc n) m = more_shared (more_shares ws n m)

more_plains : {cs : List ℕ} {s1 s2 : Scope} (n : ℕ) → More cs s1 s2 → More cs (plains n s1) (plains n s2)
more_plains zero m = m
more_plains (suc n) m = more_plain (more_plains n m)

pub more_fix : (cs : List ℕ) (n : ℕ) (s : Scope) → More cs (shares [] n s) (shares cs n s)
more_fix cs zero s = more_same cs s
more_fix cs (suc n) s = more_here (more_fix cs n s)

more_depth : {cs : List ℕ} {s1 s2 : Scope} → More cs s1 s2 → depth s1 ≡ depth s2
more_depth more_outside = refl
more_depth (more_plain m) = ap suc (more_depth m)
more_depth (more_shared m) = more_depth m
more_depth (more_here m) = more_depth m

module _ (Q : ℕ → Type 0) (cs : List ℕ) (all : Each Q cs) where
  more_entry : {s1 s2 : Scope} → More cs s1 s2 → (i : ℕ) → Each Q (words_of (entry s1 i)) → Each Q (words_of (entry s2 i))
  more_entry more_outside i h = tt
  more_entry (more_plain m) zero h = (transport Q (more_depth m) h.0, tt)
  more_entry (more_plain m) (suc i) h = more_entry m i h
  more_entry (more_shared m) zero h = h
  more_entry (more_shared m) (suc i) h = more_entry m i h
  more_entry (more_here m) zero h = all
  more_entry (more_here m) (suc i) h = more_entry m i h

  more_atom : {s1 s2 : Scope} → More cs s1 s2 → (a : Atom) → Each Q (atom_words s1 a) → Each Q (atom_words s2 a)
  more_atom m (AVar i) h = more_entry m i h
  more_atom m ABox h = tt
  more_atom m (AEmpty c) h = tt

  more_atoms : {s1 s2 : Scope} → More cs s1 s2 → (as' : List Atom) → Each Q (atoms_words s1 as') → Each Q (atoms_words s2 as')
  more_atoms m [] h = tt
  more_atoms {s1} {s2} m (a ∷ as') h = let r = each_split Q (atom_words s1 a) _ h in each_join Q (atom_words s2 a) _ (more_atom m a r.0) (more_atoms m as' r.1)

  mutual
    more_op : {s1 s2 : Scope} → More cs s1 s2 → (op : AnfOp) → Each Q (op_words s1 op) → Each Q (op_words s2 op)
    more_op m (ConstOp x) h = tt
    more_op {s1} {s2} m (AppOp f a) h = let r = each_split Q (atom_words s1 f) _ h in each_join Q (atom_words s2 f) _ (more_atom m f r.0) (more_atom m a r.1)
    more_op m (ConOp c as') h = more_atoms m as' h
    more_op m (LamOp b) h = more_block (more_plain m) b h
    more_op m (FixOp ds i) h = more_defs (more_shares [] (def_count ds) m) ds h
    more_op {s1} {s2} m (CaseOp a bs) h = let r = each_split Q (atom_words s1 a) _ h in each_join Q (atom_words s2 a) _ (more_atom m a r.0) (more_branches m bs r.1)

    pub more_block : {s1 s2 : Scope} → More cs s1 s2 → (t : AnfBlock) → Each Q (block_words s1 t) → Each Q (block_words s2 t)
    more_block m (TailAtom a) h = more_atom m a h
    more_block m (Tail op) h = more_op m op h
    more_block {s1} {s2} m (BindAtom a t) h = let r = each_split Q (atom_words s1 a) _ h in each_join Q (atom_words s2 a) _ (more_atom m a r.0) (more_block (more_plain m) t r.1)
    more_block {s1} {s2} m (Bind op t) h = let r = each_split Q (op_words s1 op) _ h in each_join Q (op_words s2 op) _ (more_op m op r.0) (more_block (more_plain m) t r.1)

    more_branches : {s1 s2 : Scope} → More cs s1 s2 → (bs : AnfBranches) → Each Q (branches_words s1 bs) → Each Q (branches_words s2 bs)
    more_branches m NoBranch h = tt
    more_branches {s1} {s2} m (Branch n t rest) h = let r = each_split Q (block_words (plains n s1) t) _ h in each_join Q (block_words (plains n s2) t) _ (more_block (more_plains n m) t r.0) (more_branches m rest r.1)

    more_defs : {s1 s2 : Scope} → More cs s1 s2 → (ds : AnfDefs) → Each Q (defs_words s1 ds) → Each Q (defs_words s2 ds)
    more_defs m NoDef h = tt
    more_defs {s1} {s2} m (LamDef b rest) h = let r = each_split Q (block_words (Plain s1) b) _ h in each_join Q (block_words (Plain s2) b) _ (more_block (more_plain m) b r.0) (more_defs m rest r.1)
    more_defs m (BoxDef rest) h = more_defs m rest h

pub lam_words : (Q : ℕ → Type 0) (s : Scope) {ds : AnfDefs} {i : ℕ} {b : AnfBlock} → LamAt ds i b → Each Q (defs_words s ds) → Each Q (block_words (Plain s) b)
lam_words Q s (lam_here {b = b}) h = (each_split Q (block_words (Plain s) b) _ h).0
lam_words Q s (lam_after_lam {d = d} at) h = lam_words Q s at (each_split Q (block_words (Plain s) d) _ h).1
lam_words Q s (lam_after_box at) h = lam_words Q s at h
