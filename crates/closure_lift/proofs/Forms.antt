-- The names of a lifted program are in scope.
use Rattle.std.proofs.Common.{◌≡◌, ℕ, zero, suc, ◌+◌, ◌<◌, List, [], ◌∷◌, ◌++◌, map, length, Some, Bool, true, false, refl, sym, ap, ◌∙◌, subst, subst as transport, arith}
use Rattle.std.proofs.lemmas.Bool.{eq-eqb}
use Rattle.std.proofs.lemmas.List.{length-map}
use Rattle.std.proofs.lemmas.Option.{none-some, same_Some}
use Rattle.std.specs.Prelude.{slice_get, get_or, if◌then◌else◌}
use Rattle.anf_convert.specs.Anf.{AnfOp, ConstOp, AppOp, ConOp, LamOp, FixOp, CaseOp, AnfBlock, TailAtom, Tail, BindAtom, Bind, AnfBranches, NoBranch, Branch, AnfDefs, NoDef, LamDef, BoxDef, def_count}
use Rattle.anf_convert.specs.declared.program.Atom.{Atom}
use Rattle.anf_convert.specs.declared.program.Atom.TheVariants.{Var as AVar, Box as ABox, Empty as AEmpty}
use Rattle.anf_convert.specs.AnfEvaluation.{LamAt, lam_here, lam_after_lam, lam_after_box}
use Rattle.anf_convert.specs.Captured.{Scope, Outside, Plain, Shared, depth, Entry, Unbound, Word, Words, entry, plains, shares, words_of, atom_words, atoms_words, op_words, block_words, branches_words, defs_words, lam_captured, fix_captured}
use Rattle.closure_lift.specs.Lifted.{Block, Fn}
use Rattle.closure_lift.specs.Lifted as lifted
use Rattle.closure_lift.specs.Lift.{LiftSlot, Holds, Made, same_slot, position, held, variable, atom, closure_for, closures, atoms_of, op_functions, block_functions, unnumbered, numbered, holding, lift_op, lift_block, lift_branches, lambda_function, def_functions, functions_op, functions_block, functions_branches, functions_defs, constants_functions, lift_constants, functions_constants, lift}
use Rattle.anf_convert.specs.AnfForm.{branch_count, AtomFits, AtomsFit, AnfOpFits, AnfFits, AnfBranchesFit, DefsFit}
use Rattle.closure_lift.specs.LiftedForm.{IsMadeWith, OpFits, LiftedBlockFits, BranchesFit}
use Rattle.closure_lift.specs.LiftKeeps.{LiftForms}
use Rattle.closure_lift.proofs.Covering.{In, in_here, in_after, Covers, holds_all, covers_bind, covers_plains, lam_covers, fix_covers}
use Rattle.anf_convert.proofs.Scopes.{Each, each_split, each_map, captured_each, captured_below, depth_shares}
use Rattle.closure_lift.proofs.Placed.{Placed, own, front, back, rest, first, def_length, block_length, then_block, main_placed}
use Rattle.closure_lift.proofs.Closures.{entry_below}
use Rattle.closure_lift.proofs.Follows.{one_atom, two_atoms, covers_none, holds_length}
use Rattle.closure_lift.proofs.Related.{words_same}

-- a slot that is there has its place
pub place_below : (k : LiftSlot) (fr : List LiftSlot) → In k fr → position k fr < length fr
place_below k [] h = elim h [ ]
place_below k (j ∷ fr) (in_here e) = rw e (omega arith)
place_below k (j ∷ fr) (in_after h) = go (same_slot k j) (place_below k fr h)
  where
    go : (b : Bool) → position k fr < length fr → (if b then 0 else suc (position k fr)) < suc (length fr)
    go true lt = omega arith
    go false lt = omega arith

-- what is known of the variables: a fixpoint's have functions that take its words
pub data Known (fs : List Fn) : Scope → List ℕ → Type 0 where
  known_nil : Known fs Outside []
  known_plain : {s : Scope} {gs : List ℕ} {n : ℕ} → Known fs s gs → Known fs (Plain s) (n ∷ gs)
  known_fix : {s : Scope} {gs : List ℕ} {n : ℕ} {ws : List ℕ} → IsMadeWith fs n (length ws) → Each (λ x. x < depth s) ws → Known fs s gs → Known fs (Shared ws s) (n ∷ gs)

record KnownAt (fs : List Fn) (d n : ℕ) (ws : List ℕ) : Type 0 where
  takes : IsMadeWith fs n (length ws)
  below : Each (λ x. x < d) ws

known_words : {fs : List Fn} {s : Scope} {gs ws : List ℕ} (i : ℕ) → Known fs s gs → entry s i ≡ Words ws → KnownAt fs (depth s) (get_or gs i 0) ws
known_words i known_nil e = absurd (no e)
  where
    no : {ys : List ℕ} → Unbound ≡ Words ys → ⊥
    no e = cc
known_words zero (known_plain h) e = absurd (no e)
  where
    no : {ys : List ℕ} {y : ℕ} → Word y ≡ Words ys → ⊥
    no e = cc
known_words {ws = ws} (suc i) (known_plain {s = s} h) e = let r = known_words i h e in record { takes = r.takes; below = each_map (λ x. x < depth s) (λ x. x < suc (depth s)) (λ x lt. omega arith) ws r.below }
known_words {fs} zero (known_fix {s = s} {n = n} t b h) e = transport (λ z. KnownAt fs (depth s) n z) (words_same e) (record { takes = t; below = b })
known_words (suc i) (known_fix t b h) e = known_words i h e

known_plains : {fs : List Fn} {s : Scope} {gs : List ℕ} (n : ℕ) → Known fs s gs → Known fs (plains n s) (unnumbered n gs)
known_plains zero h = h
known_plains (suc n) h = known_plain (known_plains n h)

holding_length : (n : ℕ) (s : Scope) (fr : List LiftSlot) → length (holding n s fr) ≡ n + length fr
holding_length zero s fr = omega arith
holding_length (suc n) s fr = let e = holding_length n s fr in omega arith

held_fit : (fr : List LiftSlot) (xs : List ℕ) → Each (λ x. In (Holds x) fr) xs → AtomsFit (length fr) (map (held fr) xs)
held_fit fr [] h = tt
held_fit fr (x ∷ xs) h = (place_below (Holds x) fr h.0, held_fit fr xs h.1)

pub many_lifted : (s : Scope) (gs : List ℕ) (fr : List LiftSlot) (g : ℕ) (bs : AnfBranches) → lifted.branch_count (lift_branches s gs fr g bs) ≡ branch_count bs
many_lifted s gs fr g NoBranch = refl
many_lifted s gs fr g (Branch n t rest) = ap suc (many_lifted s gs fr (g + block_functions t) rest)

-- the functions of definitions take the words of their fixpoint
def_takes : {fs : List Fn} (s : Scope) (gs ws : List ℕ) (f g j k : ℕ) (ds : AnfDefs) → k ≡ f + j → j < def_count ds → Placed (def_functions s gs ws g ds) f fs → IsMadeWith fs k (length ws)
def_takes s gs ws f g j k NoDef e lt p = absurd (omega arith)
def_takes {fs} s gs ws f g zero k (LamDef b rest') e lt p = record { fn = _; at = ap (slice_get fs) (omega arith) ∙ first p; words = refl }
def_takes {fs} s gs ws f g zero k (BoxDef rest') e lt p = record { fn = _; at = ap (slice_get fs) (omega arith) ∙ first p; words = refl }
def_takes s gs ws f g (suc j) k (LamDef b rest') e lt p = def_takes s gs ws (suc f) (g + block_functions b) j k rest' (omega arith) (omega arith) (rest p)
def_takes s gs ws f g (suc j) k (BoxDef rest') e lt p = def_takes s gs ws (suc f) g j k rest' (omega arith) (omega arith) (rest p)

known_fixes : {fs : List Fn} {s : Scope} {gs : List ℕ} (ws : List ℕ) (g n : ℕ) → ((j : ℕ) → j < n → IsMadeWith fs (g + j) (length ws)) → Each (λ x. x < depth s) ws → Known fs s gs → Known fs (shares ws n s) (numbered g n gs)
known_fixes ws g zero t b h = h
known_fixes {fs} {s} ws g (suc n) t b h =
    known_fix (t n (omega arith)) (transport (λ d. Each (λ x. x < d) ws) (sym (depth_shares ws n s)) b) (known_fixes ws g n (λ j lt. t j (omega arith)) b h)

-- the atoms of an operation
op_atoms : (fr : List LiftSlot) (s : Scope) (op : AnfOp) → Covers fr (depth s) (op_words s op) → Covers fr (depth s) (atoms_words s (atoms_of op))
op_atoms fr s (ConstOp x) cov = tt
op_atoms fr s (AppOp f a) cov = two_atoms fr s f a cov
op_atoms fr s (ConOp c as') cov = cov
op_atoms fr s (LamOp b) cov = tt
op_atoms fr s (FixOp ds i) cov = tt
op_atoms fr s (CaseOp a bs) cov = one_atom fr s a (each_split (λ x. x < depth s → In (Holds x) fr) (atom_words s a) _ cov).0

op_atoms_fit : (k m n : ℕ) (op : AnfOp) → AnfOpFits k m n op → AtomsFit n (atoms_of op)
op_atoms_fit k m n (ConstOp x) fit = tt
op_atoms_fit k m n (AppOp f a) fit = (fit.0, (fit.1, tt))
op_atoms_fit k m n (ConOp c as') fit = fit.3
op_atoms_fit k m n (LamOp b) fit = tt
op_atoms_fit k m n (FixOp ds i) fit = tt
op_atoms_fit k m n (CaseOp a bs) fit = (fit.0, tt)

module _ (fs : List Fn) (k m : ℕ) where
  -- what is in scope stays so in the code after closures for fixpoints' variables
  record Kept (fr fr' : List LiftSlot) : Type 0 where
    kept : (j : LiftSlot) → In j fr → In j fr'

  -- the code after the closures for atoms
  abbrev Next : Scope → List LiftSlot → List Atom → (List LiftSlot → Block) → Type 0
  Next s fr as' next = (fr' : List LiftSlot) → Kept fr fr' → AtomsFit (length fr') (map (atom s fr') as') → LiftedBlockFits fs k m (length fr') (next fr')

  kept_trans : {fr fr' fr'' : List LiftSlot} → Kept fr fr' → Kept fr' fr'' → Kept fr fr''
  kept_trans g h = record { kept = λ j x. h.kept j (g.kept j x) }

  made_kept : (i : ℕ) (fr : List LiftSlot) → Kept fr (Made i ∷ fr)
  made_kept i fr = record { kept = λ j h. in_after h }

  kept_covers : {fr fr' : List LiftSlot} (d : ℕ) (xs : List ℕ) → Kept fr fr' → Covers fr d xs → Covers fr' d xs
  kept_covers {fr} {fr'} d xs g h = each_map (λ x. x < d → In (Holds x) fr) (λ x. x < d → In (Holds x) fr') (λ x f lt. g.kept (Holds x) (f lt)) xs h

  var_closed : {s : Scope} {gs : List ℕ} (fr : List LiftSlot) (i : ℕ) (as' : List Atom) (next : List LiftSlot → Block) (e : Entry) → entry s i ≡ e → Known fs s gs → Covers fr (depth s) (words_of (entry s i)) → Next s fr (AVar i ∷ as') next →
      ((fr1 : List LiftSlot) → Kept fr fr1 → Next s fr1 as' next → LiftedBlockFits fs k m (length fr1) (closures s gs fr1 as' next)) → LiftedBlockFits fs k m (length fr) (closure_for fr i (get_or gs i 0) e (λ fr'. closures s gs fr' as' next))
  var_closed fr i as' next Unbound is known cov go after =
      after fr (record { kept = λ j h. h }) (λ fr' kept fits. go fr' kept (transport (λ z. AtomFits (length fr') (variable fr' i z)) (sym is) tt, fits))
  var_closed {s} fr i as' next (Word x) is known cov go after =
      let c = transport (λ z. Covers fr (depth s) (words_of z)) is cov in
      after fr (record { kept = λ j h. h }) (λ fr' kept fits. go fr' kept (transport (λ z. AtomFits (length fr') (variable fr' i z)) (sym is) (place_below (Holds x) fr' (kept.kept (Holds x) (c.0 (entry_below s i is)))), fits))
  var_closed {s} {gs} fr i as' next (Words ws) is known cov go after =
      let c : Covers fr (depth s) ws = transport (λ z. Covers fr (depth s) (words_of z)) is cov in
      let at = known_words i known is in
      let long = length-map ws (held fr) in (
        (transport (λ z. IsMadeWith fs (get_or gs i 0) z) (sym long) at.takes, held_fit fr ws (both (depth s) ws at.below c)),
        after (Made i ∷ fr) (made_kept i fr) (λ fr' kept fits. go fr' (kept_trans (made_kept i fr) kept) (transport (λ z. AtomFits (length fr') (variable fr' i z)) (sym is) (place_below (Made i) fr' (kept.kept (Made i) (in_here (eq-eqb i i refl)))), fits)),
      )
    where
      both : (d : ℕ) (xs : List ℕ) → Each (λ x. x < d) xs → Covers fr d xs → Each (λ x. In (Holds x) fr) xs
      both d [] h g = tt
      both d (x ∷ xs) h g = (g.0 h.0, both d xs h.1 g.1)

  -- the closures of some atoms
  closed_atoms : {s : Scope} {gs : List ℕ} (n : ℕ) (fr : List LiftSlot) (as' : List Atom) (next : List LiftSlot → Block) → Known fs s gs → Covers fr (depth s) (atoms_words s as') → AtomsFit n as' → Next s fr as' next → LiftedBlockFits fs k m (length fr) (closures s gs fr as' next)
  closed_atoms n fr [] next known cov fit go = go fr (record { kept = λ j h. h }) tt
  closed_atoms n fr (ABox ∷ as') next known cov fit go = closed_atoms n fr as' next known cov fit.1 (λ fr' kept fits. go fr' kept (tt, fits))
  closed_atoms n fr (AEmpty c ∷ as') next known cov fit go = closed_atoms n fr as' next known cov fit.1 (λ fr' kept fits. go fr' kept (fit.0, fits))
  closed_atoms {s} n fr (AVar i ∷ as') next known cov fit go =
      let parts = each_split (λ x. x < depth s → In (Holds x) fr) (words_of (entry s i)) (atoms_words s as') cov in
      var_closed fr i as' next (entry s i) refl known parts.0 go (λ fr1 kept go'. closed_atoms n fr1 as' next known (kept_covers (depth s) (atoms_words s as') kept parts.1) fit.1 go')

  -- the functions of a fixpoint
  fix_takes : (s : Scope) (gs : List ℕ) (g : ℕ) (ds : AnfDefs) (i : ℕ) → Placed (functions_op s gs g (FixOp ds i)) g fs → (j : ℕ) → j < def_count ds → IsMadeWith fs (g + j) (length (fix_captured s ds))
  fix_takes s gs g ds i p j lt =
      let n = def_count ds in
      let ws = fix_captured s ds in
      def_takes (shares ws n s) (numbered g n gs) ws g (g + n) j (g + j) ds refl lt (front _ _ p)

  fix_known : (s : Scope) (gs : List ℕ) (g : ℕ) (ds : AnfDefs) (i : ℕ) → Placed (functions_op s gs g (FixOp ds i)) g fs → Known fs s gs → Known fs (shares (fix_captured s ds) (def_count ds) s) (numbered g (def_count ds) gs)
  fix_known s gs g ds i p known = known_fixes (fix_captured s ds) g (def_count ds) (fix_takes s gs g ds i p) (captured_below (depth s) (defs_words (shares [] (def_count ds) s) ds)) known

  mutual
    op_fits : {s : Scope} {gs : List ℕ} (n : ℕ) (fr : List LiftSlot) (g : ℕ) (op : AnfOp) → Known fs s gs → Covers fr (depth s) (op_words s op) → AnfOpFits k m n op → Placed (functions_op s gs g op) g fs → AtomsFit (length fr) (map (atom s fr) (atoms_of op)) → OpFits fs k m (length
        fr) (lift_op s gs fr g op)
    op_fits n fr g (ConstOp x) known cov fit p fits = fit
    op_fits n fr g (AppOp f a) known cov fit p fits = (fits.0, fits.1.0)
    op_fits {s} n fr g (ConOp c as') known cov fit p fits = let long = length-map as' (atom s fr) in let pos = fit.1 in let few = fit.2 in (fit.0, omega arith, omega arith, fits)
    op_fits {s} n fr g (LamOp b) known cov fit p fits =
        let ws = lam_captured s b in
        (record { fn = _; at = first p; words = sym (length-map ws (held fr)) }, held_fit fr ws (captured_each (λ x. In (Holds x) fr) (depth s) (block_words (Plain s) b) cov))
    op_fits {s} {gs} n fr g (FixOp ds i) known cov fit p fits =
        let ws = fix_captured s ds in
        (transport (λ z. IsMadeWith fs (g + i) z) (sym (length-map ws (held fr))) (fix_takes s gs g ds i p i fit.0), held_fit fr ws (captured_each (λ x. In (Holds x) fr) (depth s) (defs_words (shares [] (def_count ds) s) ds) cov))
    op_fits {s} {gs} n fr g (CaseOp a bs) known cov fit p fits =
        let parts = each_split (λ x. x < depth s → In (Holds x) fr) (atom_words s a) _ cov in
        let number = many_lifted s gs fr g bs in
        let few = fit.1 in
        (fits.0, omega arith, branches_fit n fr g bs known parts.1 fit.2 p)

    block_fits : {s : Scope} {gs : List ℕ} (n : ℕ) (fr : List LiftSlot) (g : ℕ) (t : AnfBlock) → Known fs s gs → Covers fr (depth s) (block_words s t) → AnfFits k m n t → Placed (functions_block s gs g t) g fs → LiftedBlockFits fs k m (length fr) (lift_block s gs fr g t)
    block_fits {s} n fr g (TailAtom a) known cov fit p = closed_atoms n fr (a ∷ []) _ known (one_atom fr s a cov) (fit, tt) (λ fr' kept fits. fits.0)
    block_fits {s} n fr g (Tail op) known cov fit p = closed_atoms n fr (atoms_of op) _ known (op_atoms fr s op cov) (op_atoms_fit k m n op fit) (λ fr' kept fits. op_fits n fr' g op known (kept_covers (depth s) (op_words s op) kept cov) fit p fits)
    block_fits {s} n fr g (BindAtom a t) known cov fit p =
        let parts = each_split (λ x. x < depth s → In (Holds x) fr) (atom_words s a) _ cov in
        closed_atoms n fr (a ∷ []) _ known (one_atom fr s a parts.0) (fit.0, tt) (λ fr' kept fits. (fits.0, block_fits (suc n) (Holds (depth s) ∷ fr') g t (known_plain known) (covers_bind s fr' (block_words (Plain s) t) (kept_covers (depth s) (block_words (Plain s) t) kept parts.1)) fit.1 p))
    block_fits {s} {gs} n fr g (Bind op t) known cov fit p =
        let parts = each_split (λ x. x < depth s → In (Holds x) fr) (op_words s op) _ cov in
        closed_atoms n fr (atoms_of op) _ known (op_atoms fr s op parts.0) (op_atoms_fit k m n op fit.0) (λ fr' kept fits. (
          op_fits n fr' g op known (kept_covers (depth s) (op_words s op) kept parts.0) fit.0 (front _ _ p) fits,
          block_fits (suc n) (Holds (depth s) ∷ fr') (g + op_functions op) t (known_plain known)
              (covers_bind s fr' (block_words (Plain s) t) (kept_covers (depth s) (block_words (Plain s) t) kept parts.1)) fit.1 (then_block s gs g op t p),
        ))

    branches_fit : {s : Scope} {gs : List ℕ} (n : ℕ) (fr : List LiftSlot) (g : ℕ) (bs : AnfBranches) → Known fs s gs → Covers fr (depth s) (branches_words s bs) → AnfBranchesFit k m n bs → Placed (functions_branches s gs g bs) g fs → BranchesFit fs k m (length fr) (lift_branches s gs fr g bs)
    branches_fit n fr g NoBranch known cov fit p = tt
    branches_fit {s} {gs} n fr g (Branch j t rest') known cov fit p =
        let parts = each_split (λ x. x < depth s → In (Holds x) fr) (block_words (plains j s) t) _ cov in (
          fit.0,
          transport (λ z. LiftedBlockFits fs k m z (lift_block (plains j s) (unnumbered j gs) (holding j s fr) g t)) (holding_length j s fr) (block_fits (n + j) (holding j s fr) g t (known_plains j known) (covers_plains j s fr (block_words (plains j s) t) parts.0) fit.1 (front _ _ p)),
          branches_fit n fr (g + block_functions t) rest' known parts.1 fit.2 (back _ _ (omega (arith, block_length (plains j s) (unnumbered j gs) g t)) p),
        )

  -- each function of these
  abbrev FnFits : Fn → Type 0
  FnFits fn = LiftedBlockFits fs k m (suc fn.captured) fn.body

  abbrev Every : List Fn → Type 0
  Every [] = Unit {0}
  Every (f ∷ rest') = FnFits f × Every rest'

  every_join : (xs ys : List Fn) → Every xs → Every ys → Every (xs ++ ys)
  every_join [] ys h g = g
  every_join (x ∷ xs) ys h g = (h.0, every_join xs ys h.1 g)

  pub every_at : (xs : List Fn) (i : ℕ) (fn : Fn) → Every xs → slice_get xs i ≡ Some fn → FnFits fn
  every_at [] i fn h e = absurd (none-some fn e)
  every_at (x ∷ xs) zero fn h e = subst FnFits (same_Some _ _ e) h.0
  every_at (x ∷ xs) (suc i) fn h e = every_at xs i fn h.1 e

  lambda_fits : {s : Scope} {gs : List ℕ} (n : ℕ) (ws : List ℕ) (g : ℕ) (b : AnfBlock) → Known fs s gs → Covers (Holds (depth s) ∷ holds_all ws) (suc (depth s)) (block_words (Plain s) b) → AnfFits k m n b → Placed (functions_block (Plain s) (0 ∷ gs) g b) g fs → FnFits (lambda_function s gs ws g b)
  lambda_fits {s} {gs} n ws g b known cov fit p =
      transport (λ z. LiftedBlockFits fs k m (suc z) (lift_block (Plain s) (0 ∷ gs) (Holds (depth s) ∷ holds_all ws) g b)) (holds_length ws) (block_fits n (Holds (depth s) ∷ holds_all ws) g b (known_plain known) cov fit p)

  defs_fit : {s : Scope} {gs : List ℕ} (n : ℕ) (ws : List ℕ) (g : ℕ) (ds : AnfDefs) → Known fs s gs → ((i : ℕ) (b : AnfBlock) → LamAt ds i b → Covers (Holds (depth s) ∷ holds_all ws) (suc (depth s)) (block_words (Plain s) b)) → DefsFit k m n ds → Placed (functions_defs s gs g
      ds) g fs → Every (def_functions s gs ws g ds)
  defs_fit n ws g NoDef known cov fit p = tt
  defs_fit {s} {gs} n ws g (LamDef b rest') known cov fit p =
      (lambda_fits (suc n) ws g b known (cov 0 b lam_here) fit.0 (front _ _ p), defs_fit n ws (g + block_functions b) rest' known (λ i b' at. cov (suc i) b' (lam_after_lam at)) fit.1 (back _ _ (omega (arith, block_length (Plain s) (0 ∷ gs) g b)) p))
  defs_fit n ws g (BoxDef rest') known cov fit p = (tt, defs_fit n ws g rest' known (λ i b' at. cov (suc i) b' (lam_after_box at)) fit p)

  mutual
    op_functions_fit : {s : Scope} {gs : List ℕ} (n g : ℕ) (op : AnfOp) → Known fs s gs → AnfOpFits k m n op → Placed (functions_op s gs g op) g fs → Every (functions_op s gs g op)
    op_functions_fit n g (ConstOp x) known fit p = tt
    op_functions_fit n g (AppOp f a) known fit p = tt
    op_functions_fit n g (ConOp c as') known fit p = tt
    op_functions_fit {s} n g (LamOp b) known fit p = (lambda_fits (suc n) (lam_captured s b) (suc g) b known (lam_covers s b) fit (rest p), block_functions_fit (suc n) (suc g) b (known_plain known) fit (rest p))
    op_functions_fit {s} {gs} n g (FixOp ds i) known fit p =
        let d = def_count ds in
        let ws = fix_captured s ds in
        let s2 = shares ws d s in
        let gs2 = numbered g d gs in
        let q : Placed (functions_defs s2 gs2 (g + d) ds) (g + d) fs = back (def_functions s2 gs2 ws (g + d) ds) _ (omega (arith, def_length s2 gs2 ws (g + d) ds)) p in
        let known2 = fix_known s gs g ds i p known in
        every_join (def_functions s2 gs2 ws (g + d) ds) (functions_defs s2 gs2 (g + d) ds) (defs_fit (n + d) ws (g + d) ds known2 (λ j b at. fix_covers s ds at) fit.1 q) (defs_functions_fit (n + d) (g + d) ds known2 fit.1 q)
    op_functions_fit n g (CaseOp a bs) known fit p = branches_functions_fit n g bs known fit.2 p

    pub block_functions_fit : {s : Scope} {gs : List ℕ} (n g : ℕ) (t : AnfBlock) → Known fs s gs → AnfFits k m n t → Placed (functions_block s gs g t) g fs → Every (functions_block s gs g t)
    block_functions_fit n g (TailAtom a) known fit p = tt
    block_functions_fit n g (Tail op) known fit p = op_functions_fit n g op known fit p
    block_functions_fit n g (BindAtom a t) known fit p = block_functions_fit (suc n) g t (known_plain known) fit.1 p
    block_functions_fit {s} {gs} n g (Bind op t) known fit p =
        every_join (functions_op s gs g op) _ (op_functions_fit n g op known fit.0 (front _ _ p)) (block_functions_fit (suc n) (g + op_functions op) t (known_plain known) fit.1 (then_block s gs g op t p))

    branches_functions_fit : {s : Scope} {gs : List ℕ} (n g : ℕ) (bs : AnfBranches) → Known fs s gs → AnfBranchesFit k m n bs → Placed (functions_branches s gs g bs) g fs → Every (functions_branches s gs g bs)
    branches_functions_fit n g NoBranch known fit p = tt
    branches_functions_fit {s} {gs} n g (Branch j t rest') known fit p =
        every_join (functions_block (plains j s) (unnumbered j gs) g t) _ (block_functions_fit (n + j) g t (known_plains j known) fit.1 (front _ _ p)) (branches_functions_fit n (g + block_functions t) rest' known fit.2 (back _ _ (omega (arith, block_length (plains j s) (unnumbered j gs) g t)) p))

    defs_functions_fit : {s : Scope} {gs : List ℕ} (n g : ℕ) (ds : AnfDefs) → Known fs s gs → DefsFit k m n ds → Placed (functions_defs s gs g ds) g fs → Every (functions_defs s gs g ds)
    defs_functions_fit n g NoDef known fit p = tt
    defs_functions_fit {s} {gs} n g (LamDef b rest') known fit p =
        every_join (functions_block (Plain s) (0 ∷ gs) g b) _ (block_functions_fit (suc n) g b (known_plain known) fit.0 (front _ _ p)) (defs_functions_fit n (g + block_functions b) rest' known fit.1 (back _ _ (omega (arith, block_length (Plain s) (0 ∷ gs) g b)) p))
    defs_functions_fit n g (BoxDef rest') known fit p = defs_functions_fit n g rest' known fit p

  -- the constants
  pub constants_fit : (g : ℕ) (ts : List AnfBlock) → ((x : ℕ) (t : AnfBlock) → slice_get ts x ≡ Some t → AnfFits k m 0 t) → Placed (functions_constants g ts) g fs → Every (functions_constants g ts)
  constants_fit g [] fit p = tt
  constants_fit g (t ∷ ts) fit p =
      every_join (functions_block Outside [] g t) _ (block_functions_fit 0 g t known_nil (fit 0 t refl) (front _ _ p)) (constants_fit (g + block_functions t) ts (λ x u e. fit (suc x) u e) (back _ _ (omega (arith, block_length Outside [] g t)) p))

  pub constant_fits : (g : ℕ) (ts : List AnfBlock) → ((x : ℕ) (t : AnfBlock) → slice_get ts x ≡ Some t → AnfFits k m 0 t) → Placed (functions_constants g ts) g fs → (x : ℕ) (t : Block) → slice_get (lift_constants g ts) x ≡ Some t → LiftedBlockFits fs k m 0 t
  constant_fits g [] fit p x t e = absurd (none-some t e)
  constant_fits g (u ∷ ts) fit p zero t e = subst (LiftedBlockFits fs k m 0) (same_Some _ _ e) (block_fits 0 [] g u known_nil (covers_none (block_words Outside u)) (fit 0 u refl) (front _ _ p))
  constant_fits g (u ∷ ts) fit p (suc x) t e = constant_fits (g + block_functions u) ts (λ x u e. fit (suc x) u e) (back _ _ (omega (arith, block_length Outside [] g u)) p) x t e

pub constants_number : (g : ℕ) (ts : List AnfBlock) → length (lift_constants g ts) ≡ length ts
constants_number g [] = refl
constants_number g (t ∷ ts) = ap suc (constants_number (g + block_functions t) ts)

pub lift_forms : LiftForms
lift_forms P m ok =
    let fs = (lift P).functions in
    let k = length (lift P).constants in
    let same : length P.constants ≡ k = sym (constants_number 0 P.constants) in
    let first_part = functions_constants 0 P.constants in
    let main_from = constants_functions P.constants in
    let early : Placed first_part 0 fs = front first_part (functions_block Outside [] main_from P.main) (own fs) in
    let fit : (x : ℕ) (t : AnfBlock) → slice_get P.constants x ≡ Some t → AnfFits k m 0 t = λ x t e. transport (λ z. AnfFits z m 0 t) same (ok.constants x t e) in
    let fit_main : AnfFits k m 0 P.main = transport (λ z. AnfFits z m 0 P.main) same ok.main in
    let all = every_join fs k m first_part (functions_block Outside [] main_from P.main) (constants_fit fs k m 0 P.constants fit early) (block_functions_fit fs k m 0 main_from P.main known_nil fit_main (main_placed P)) in
    record {
      functions = λ g fn e. every_at fs k m fs g fn all e;
      constants = constant_fits fs k m 0 P.constants fit early;
      main = block_fits fs k m 0 [] main_from P.main known_nil (covers_none (block_words Outside P.main)) fit_main (main_placed P);
    }
