-- Values and environments of the two languages.
use Rattle.std.proofs.Common.{◌≡◌, ℕ, zero, suc, ◌+◌, ◌<◌, ◌≤◌, List, [], ◌∷◌, map, length, Option, Some, None, Bool, true, false, refl, sym, ap, ◌∙◌, subst as transport, ⊎_elim, inl, inr, arith}
use Rattle.std.proofs.lemmas.Bool.{eq-eqb, ne_eqb, eqb-true}
use Rattle.std.proofs.lemmas.Option.{none-some, same_Some}
use Rattle.std.specs.Prelude.{get_or, nat_eq, ◌⊎◌, if◌then◌else◌}
use Rattle.anf_convert.specs.Anf.{LamOp, FixOp, AnfBlock, AnfDefs}
use Rattle.anf_convert.specs.Captured.{Scope, Outside, Plain, Shared, depth, Unbound, Word, Words, entry, plains, shares, lam_captured, fix_captured}
use Rattle.anf_convert.specs.AnfEvaluation.{AnfVal, WBox, WCon, WClos, WFix, AnfVals, WNil, WCons, find, count, ◌+w◌, fixes}
use Rattle.closure_lift.specs.Lifted.{Program, Val, VBox, VCon, VClos, Vals, VNil, VCons, lookup, size, ◌+v◌, is_var, AllAre, are_none, are_more}
use Rattle.closure_lift.specs.Lift.{LiftSlot, Holds, same_slot, position, held, unnumbered, numbered, holding, functions_op}
use Rattle.closure_lift.proofs.Covering.{In, in_here, in_after, holds_all}
use Rattle.anf_convert.proofs.Scopes.{Each}
use Rattle.closure_lift.proofs.Placed.{Placed}

-- the value of a word
abbrev pub word_in : List LiftSlot → Vals → ℕ → Option Val
word_in fr le x = lookup le (position (Holds x) fr)

mutual
  -- the values are the same; a closure holds what its captured words stand for
  pub data VR (P : Program) : AnfVal → Val → Type 0 where
    vr_box : VR P WBox VBox
    vr_con : {c : ℕ} {ws : AnfVals} {vs : Vals} → VRs P ws vs → VR P (WCon c ws) (VCon c vs)
    vr_clos : {s : Scope} {e : AnfVals} {b : AnfBlock} {gs : List ℕ} {us : Vals} {g : ℕ} → ER P (word_in (holds_all (lam_captured s b)) us) s gs e → size us ≡ length (lam_captured s b) → Placed (functions_op s gs g (LamOp b)) g P.functions → VR P (WClos s e b) (VClos g us)
    vr_fix : {s : Scope} {e : AnfVals} {ds : AnfDefs} {gs : List ℕ} {us : Vals} {i g n : ℕ} → ER P (word_in (holds_all (fix_captured s ds)) us) s gs e → size us ≡ length (fix_captured s ds) → Placed (functions_op s gs g (FixOp ds i)) g P.functions → n ≡ g + i → VR P (WFix s e ds i) (VClos n us)

  pub data VRs (P : Program) : AnfVals → Vals → Type 0 where
    vrs_nil : VRs P WNil VNil
    vrs_cons : {w : AnfVal} {v : Val} {ws : AnfVals} {vs : Vals} → VR P w v → VRs P ws vs → VRs P (WCons w ws) (VCons v vs)

  -- the words that have a value have the value of their variable
  pub data ER (P : Program) : (ℕ → Option Val) → Scope → List ℕ → AnfVals → Type 0 where
    er_nil : {W : ℕ → Option Val} → ER P W Outside [] WNil
    er_in : {W : ℕ → Option Val} {s : Scope} {gs : List ℕ} {e : AnfVals} {n : ℕ} {v : AnfVal} {u : Val} → W (depth s) ≡ Some u → VR P v u → ER P W s gs e → ER P W (Plain s) (n ∷ gs) (WCons v e)
    er_out : {W : ℕ → Option Val} {s : Scope} {gs : List ℕ} {e : AnfVals} {n : ℕ} {v : AnfVal} → W (depth s) ≡ None → ER P W s gs e → ER P W (Plain s) (n ∷ gs) (WCons v e)
    er_fix : {W : ℕ → Option Val} {s s' : Scope} {gs gs' : List ℕ} {e e' : AnfVals} {ds : AnfDefs} {i g n : ℕ} {ws : List ℕ} → ws ≡ fix_captured s' ds → depth s' ≤ depth s → ER P W s' gs' e' → Placed (functions_op s' gs' g
        (FixOp ds i)) g P.functions → n ≡ g + i → ER P W s gs e → ER P W (Shared ws s) (n ∷ gs) (WCons (WFix s' e' ds i) e)

pub vrs_size : {P : Program} {ws : AnfVals} {vs : Vals} → VRs P ws vs → size vs ≡ count ws
vrs_size vrs_nil = refl
vrs_size (vrs_cons h hs) = ap suc (vrs_size hs)

-- other words, with the same values or none
pub er_moves : {P : Program} {W W' : ℕ → Option Val} {s : Scope} {gs : List ℕ} {e : AnfVals} → ((x : ℕ) → x < depth s → (W' x ≡ None) ⊎ (W' x ≡ W x)) → ER P W s gs e → ER P W' s gs e
er_moves f er_nil = er_nil
er_moves {W' = W'} f (er_in {s = s} at g er) =
    let rest = er_moves {W' = W'} (λ x lt. f x (omega arith)) er in
    ⊎_elim (λ none. er_out none rest) (λ same. er_in (same ∙ at) g rest) (f (depth s) (omega arith))
er_moves {W' = W'} f (er_out {s = s} at er) =
    let rest = er_moves {W' = W'} (λ x lt. f x (omega arith)) er in
    er_out (⊎_elim (λ none. none) (λ same. same ∙ at) (f (depth s) (omega arith))) rest
er_moves {W' = W'} f (er_fix is le er' p n er) = er_fix is le (er_moves {W' = W'} (λ x lt. f x (omega arith)) er') p n (er_moves {W' = W'} f er)

pub er_same : {P : Program} {W W' : ℕ → Option Val} {s : Scope} {gs : List ℕ} {e : AnfVals} → ((x : ℕ) → x < depth s → W' x ≡ W x) → ER P W s gs e → ER P W' s gs e
er_same f er = er_moves (λ x lt. inr (f x lt)) er

word_same : {x y : ℕ} → Word x ≡ Word y → x ≡ y
word_same e = cc

pub words_same : {xs ys : List ℕ} → Words xs ≡ Words ys → xs ≡ ys
words_same e = cc

-- the value of a variable with a word
pub er_word : {P : Program} {W : ℕ → Option Val} {s : Scope} {gs : List ℕ} {e : AnfVals} {v : AnfVal} {u : Val} {x : ℕ} (i : ℕ) → ER P W s gs e → entry s i ≡ Word x → find e i ≡ Some v → W x ≡ Some u → VR P v u
er_word i er_nil is at has = absurd (no_word is)
  where
    no_word : {y : ℕ} → Unbound ≡ Word y → ⊥
    no_word e = cc
er_word {P} {W} {v = v} {u = u} zero (er_in {v = v'} {u = u'} at' g er) is at has =
    let same : u' ≡ u = same_Some _ _ (sym at' ∙ ap W (word_same is) ∙ has) in
    transport (λ z. VR P z u) (same_Some _ _ at) (transport (λ z. VR P v' z) same g)
er_word (suc i) (er_in at' g er) is at has = er_word i er is at has
er_word {W = W} {u = u} zero (er_out at' er) is at has = absurd (none-some u (sym at' ∙ ap W (word_same is) ∙ has))
er_word (suc i) (er_out at' er) is at has = er_word i er is at has
er_word zero (er_fix is' le er' p n er) is at has = absurd (no_words is)
  where
    no_words : {ws : List ℕ} {y : ℕ} → Words ws ≡ Word y → ⊥
    no_words e = cc
er_word (suc i) (er_fix is' le er' p n er) is at has = er_word i er is at has

-- the value of a fixpoint's variable
pub data FixAt (P : Program) (W : ℕ → Option Val) (d : ℕ) : AnfVal → List ℕ → ℕ → Type 0 where
  fix_at : {s : Scope} {gs : List ℕ} {e : AnfVals} {ds : AnfDefs} {i g n : ℕ} {ws : List ℕ} → ws ≡ fix_captured s ds → depth s ≤ d → ER P W s gs e → Placed (functions_op s gs g (FixOp ds i)) g P.functions → n ≡ g + i → FixAt P W d (WFix s e ds i) ws n

deeper : {P : Program} {W : ℕ → Option Val} {d d' : ℕ} {v : AnfVal} {ws : List ℕ} {n : ℕ} → d ≤ d' → FixAt P W d v ws n → FixAt P W d' v ws n
deeper le (fix_at is le' er p e) = fix_at is (omega arith) er p e

pub er_words : {P : Program} {W : ℕ → Option Val} {s : Scope} {gs : List ℕ} {e : AnfVals} {v : AnfVal} {ws : List ℕ} (i : ℕ) → ER P W s gs e → entry s i ≡ Words ws → find e i ≡ Some v → FixAt P W (depth s) v ws (get_or gs i 0)
er_words i er_nil is at = absurd (no_words is)
  where
    no_words : {ys : List ℕ} → Unbound ≡ Words ys → ⊥
    no_words e = cc
er_words zero (er_in at' g er) is at = absurd (no_words is)
  where
    no_words : {ys : List ℕ} {y : ℕ} → Word y ≡ Words ys → ⊥
    no_words e = cc
er_words (suc i) (er_in at' g er) is at = deeper (omega arith) (er_words i er is at)
er_words zero (er_out at' er) is at = absurd (no_words is)
  where
    no_words : {ys : List ℕ} {y : ℕ} → Word y ≡ Words ys → ⊥
    no_words e = cc
er_words (suc i) (er_out at' er) is at = deeper (omega arith) (er_words i er is at)
er_words {P} {W} {s} {v = v} {ws = ws} zero (er_fix {s = s0} {n = n} is' le er' p eq er) is at =
    transport (λ z. FixAt P W (depth s0) z ws n) (same_Some _ _ at) (fix_at (sym (words_same is) ∙ is') le er' p eq)
er_words (suc i) (er_fix is' le er' p n er) is at = er_words i er is at

-- what a slot holds
pub record Found (k : LiftSlot) (fr : List LiftSlot) (le : Vals) : Type 0 where
  pub value : Val
  pub at : lookup le (position k fr) ≡ Some value

pub found : (k : LiftSlot) (fr : List LiftSlot) (le : Vals) → size le ≡ length fr → In k fr → Found k fr le
found k [] le eq h = elim h [ ]
found k (j ∷ fr) VNil eq h = absurd (omega arith)
found k (j ∷ fr) (VCons u le) eq (in_here e) = record { value = u; at = rw e refl }
found k (j ∷ fr) (VCons u le) eq (in_after h) = let r = go (same_slot k j) (found k fr le (omega arith) h) in record { value = r.0; at = r.1 }
  where
    go : (b : Bool) → Found k fr le → (v : Val) × (lookup (VCons u le) (if b then 0 else suc (position k fr)) ≡ Some v)
    go true f = (u, refl)
    go false f = (f.value, f.at)

-- these words have these values
pub data Carries (W : ℕ → Option Val) : List ℕ → Vals → Type 0 where
  carries_none : Carries W [] VNil
  carries_more : {x : ℕ} {xs : List ℕ} {u : Val} {us : Vals} → W x ≡ Some u → Carries W xs us → Carries W (x ∷ xs) (VCons u us)

pub carries_size : {W : ℕ → Option Val} {xs : List ℕ} {us : Vals} → Carries W xs us → size us ≡ length xs
carries_size carries_none = refl
carries_size (carries_more h hs) = ap suc (carries_size hs)

carried : {W : ℕ → Option Val} {xs : List ℕ} {us : Vals} → Carries W xs us → (x : ℕ) → (word_in (holds_all xs) us x ≡ None) ⊎ (word_in (holds_all xs) us x ≡ W x)
carried carries_none x = inl refl
carried {W} (carries_more {x = y} {xs = xs} {u = u} {us = us} h hs) x = go (nat_eq x y) refl (carried hs x)
  where
    go : (b : Bool) → nat_eq x y ≡ b → (word_in (holds_all xs) us x ≡ None) ⊎ (word_in (holds_all xs) us x ≡ W x) → (lookup (VCons u us) (if b then 0 else suc (position (Holds x) (holds_all xs))) ≡ None) ⊎ (lookup (VCons u us) (if b then 0 else suc (position (Holds x) (holds_all xs))) ≡ W x)
    go true e rest = inr (sym (ap W (eqb-true x y e) ∙ h))
    go false e rest = rest

-- the words in a closure
pub er_captured : {P : Program} {W : ℕ → Option Val} {s : Scope} {gs : List ℕ} {e : AnfVals} {xs : List ℕ} {us : Vals} → Carries W xs us → ER P W s gs e → ER P (word_in (holds_all xs) us) s gs e
er_captured h er = er_moves (λ x lt. carried h x) er

pub record Capture (fr : List LiftSlot) (le : Vals) (xs : List ℕ) : Type 0 where
  pub us : Vals
  pub all : AllAre le (map (held fr) xs) us
  pub carries : Carries (word_in fr le) xs us

pub capture : (fr : List LiftSlot) (le : Vals) → size le ≡ length fr → (xs : List ℕ) → Each (λ x. In (Holds x) fr) xs → Capture fr le xs
capture fr le eq [] h = record { us = VNil; all = are_none; carries = carries_none }
capture fr le eq (x ∷ xs) h =
    let f = found (Holds x) fr le eq h.0 in
    let r = capture fr le eq xs h.1 in
    record { us = VCons f.value r.us; all = are_more (is_var f.at) r.all; carries = carries_more f.at r.carries }

-- one more word
pub er_push : {P : Program} {s : Scope} {gs : List ℕ} {e : AnfVals} {v : AnfVal} {u : Val} {n : ℕ} (fr : List LiftSlot) (le : Vals) → ER P (word_in fr le) s gs e → VR P v u → ER P (word_in (Holds (depth s) ∷ fr) (VCons u le)) (Plain s) (n ∷ gs) (WCons v e)
er_push {s = s} {u = u} fr le er g =
    er_in (rw (eq-eqb (depth s) (depth s) refl) refl) g
    (er_same (λ x lt. rw (ne_eqb x (depth s) (λ e. omega arith)) refl) er)

pub er_pushes : {P : Program} {s : Scope} {gs : List ℕ} {e : AnfVals} {vs : AnfVals} {us : Vals} (fr : List LiftSlot) (le : Vals) → ER P (word_in fr le) s gs e → VRs P vs us → ER P (word_in (holding (count vs) s fr) (us +v le)) (plains (count vs) s) (unnumbered (count vs) gs) (vs +w e)
er_pushes fr le er vrs_nil = er
er_pushes {s = s} {vs = WCons v vs} {us = VCons u us} fr le er (vrs_cons g gs) = er_push (holding (count vs) s fr) (us +v le) (er_pushes fr le er gs) g

pub pushes_size : {P : Program} {vs : AnfVals} {us : Vals} (s : Scope) (fr : List LiftSlot) (le : Vals) → size le ≡ length fr → VRs P vs us → size (us +v le) ≡ length (holding (count vs) s fr)
pushes_size s fr le eq vrs_nil = eq
pushes_size s fr le eq (vrs_cons g gs) = ap suc (pushes_size s fr le eq gs)

-- the variables of a fixpoint
pub er_fixes : {P : Program} {W : ℕ → Option Val} {s : Scope} {gs : List ℕ} {e : AnfVals} {g : ℕ} (ds : AnfDefs) (n : ℕ) → ER P W s gs e → Placed (functions_op s gs g (FixOp ds 0)) g P.functions → ER P W (shares (fix_captured s ds) n s) (numbered g n gs) (fixes s e ds n +w e)
er_fixes ds zero er p = er
er_fixes {s = s} ds (suc n) er p = er_fix refl (go n) er p refl (er_fixes ds n er p)
  where
    go : (m : ℕ) → depth s ≤ depth (shares (fix_captured s ds) m s)
    go zero = omega arith
    go (suc m) = go m
