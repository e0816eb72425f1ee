-- The closures that are made for fixpoints' variables, before an operation.
use Rattle.std.proofs.Common.{◌≡◌, ℕ, zero, suc, ◌+◌, ◌<◌, ◌≤◌, List, [], ◌∷◌, map, length, Some, Bool, true, false, refl, sym, ap, ◌∙◌, subst as transport, arith}
use Rattle.std.proofs.lemmas.Bool.{eq-eqb, eqb-true}
use Rattle.std.proofs.lemmas.List.{length-map}
use Rattle.std.proofs.lemmas.Option.{same_Some}
use Rattle.std.specs.Prelude.{get_or, nat_eq}
use Rattle.anf_convert.specs.Anf.{def_count}
use Rattle.anf_convert.specs.declared.program.Atom.{Atom}
use Rattle.anf_convert.specs.declared.program.Atom.TheVariants.{Var as AVar}
use Rattle.anf_convert.specs.Captured.{Scope, Outside, Plain, Shared, depth, Unbound, Word, Words, entry, words_of, atom_words, atoms_words, defs_words, shares, fix_captured}
use Rattle.anf_convert.specs.AnfEvaluation.{AnfVal, AnfVals, WCons, find, Gives, give_word, give_fix, give_box, give_empty, GivesAll, give_none, give_more}
use Rattle.closure_lift.specs.Lifted.{Block, Program, Val, VBox, VCon, VClos, Vals, VNil, VCons, lookup, size, Is, is_var, is_box, is_empty, AllAre, are_none, are_more, do_clos, Gets, gets_let}
use Rattle.closure_lift.specs.Lift.{LiftSlot, Holds, Made, position, held, variable, atom, closure_for, closure, closures}
use Rattle.closure_lift.proofs.Covering.{In, in_after, Covers, holds_all}
use Rattle.anf_convert.proofs.Scopes.{Each, each_split, each_map, captured_below}
use Rattle.closure_lift.proofs.Related.{word_in, VR, vr_box, vr_con, vr_fix, VRs, vrs_nil, vrs_cons, ER, er_same, er_word, er_words, FixAt, fix_at, found, carries_size, er_captured, capture}

-- a block with closures in front
pub data Grown (fr : List LiftSlot) (le : Vals) : List LiftSlot → Vals → Type 0 where
  grown_same : Grown fr le fr le
  grown_made : {fr' : List LiftSlot} {le' : Vals} {i : ℕ} {u : Val} → Grown fr le fr' le' → Grown fr le (Made i ∷ fr') (VCons u le')

pub grown_word : {fr : List LiftSlot} {le : Vals} {fr' : List LiftSlot} {le' : Vals} → Grown fr le fr' le' → (x : ℕ) → word_in fr' le' x ≡ word_in fr le x
grown_word grown_same x = refl
grown_word (grown_made h) x = grown_word h x

pub grown_size : {fr : List LiftSlot} {le : Vals} {fr' : List LiftSlot} {le' : Vals} → Grown fr le fr' le' → size le ≡ length fr → size le' ≡ length fr'
grown_size grown_same eq = eq
grown_size (grown_made h) eq = ap suc (grown_size h eq)

pub grown_in : {fr : List LiftSlot} {le : Vals} {k : LiftSlot} {fr' : List LiftSlot} {le' : Vals} → Grown fr le fr' le' → In k fr → In k fr'
grown_in grown_same h = h
grown_in (grown_made g) h = in_after (grown_in g h)

pub grown_trans : {fr fr' : List LiftSlot} {le le' : Vals} {fr'' : List LiftSlot} {le'' : Vals} → Grown fr le fr' le' → Grown fr' le' fr'' le'' → Grown fr le fr'' le''
grown_trans h grown_same = h
grown_trans h (grown_made g) = grown_made (grown_trans h g)

pub grown_covers : {fr fr' : List LiftSlot} {le le' : Vals} (d : ℕ) (xs : List ℕ) → Grown fr le fr' le' → Covers fr d xs → Covers fr' d xs
grown_covers {fr} {fr'} d xs g h = each_map (λ x. x < d → In (Holds x) fr) (λ x. x < d → In (Holds x) fr') (λ x f lt. grown_in g (f lt)) xs h

pub grown_er : {P : Program} {fr fr' : List LiftSlot} {le le' : Vals} {s : Scope} {gs : List ℕ} {e : AnfVals} → Grown fr le fr' le' → ER P (word_in fr le) s gs e → ER P (word_in fr' le') s gs e
grown_er g er = er_same (λ x lt. grown_word g x) er

pub counted : {P : Program} {w : ℕ} {e : Vals} {t : Block} {v : Val} {c c' k k' b b' l l' : ℕ} → c ≡ c' → k ≡ k' → b ≡ b' → l ≡ l' → Gets P w e t v c k b l → Gets P w e t v c' k' b' l'
counted {P} {w} {e} {t} {v} {c} {c'} {k} {k'} {b} {b'} {l} {l'} ec ek eb el h =
    transport (λ z. Gets P w e t v c' k' b' z) el (transport (λ z. Gets P w e t v c' k' z l) eb (transport (λ z. Gets P w e t v c' z b l) ek (transport (λ z. Gets P w e t v z k b l) ec h)))

word_same : {x y : ℕ} → Word x ≡ Word y → x ≡ y
word_same e = cc

-- a word is of the scope
pub entry_below : (s : Scope) (i : ℕ) {x : ℕ} → entry s i ≡ Word x → x < depth s
entry_below Outside i e = absurd (no_word e)
  where
    no_word : {y : ℕ} → Unbound ≡ Word y → ⊥
    no_word e = cc
entry_below (Plain s) zero e = let z = word_same e in omega arith
entry_below (Plain s) (suc i) e = let z = entry_below s i e in omega arith
entry_below (Shared ws s) zero e = absurd (no_word e)
  where
    no_word : {ys : List ℕ} {y : ℕ} → Words ys ≡ Word y → ⊥
    no_word e = cc
entry_below (Shared ws s) (suc i) e = entry_below s i e

module _ (P : Program) (w : ℕ) where
  -- the closure of variable i, whose value this is
  pub record Good (fr : List LiftSlot) (le : Vals) (i : ℕ) (v : AnfVal) : Type 0 where
    pub u : Val
    pub at : lookup le (position (Made i) fr) ≡ Some u
    pub is : VR P v u

  -- one more closure
  good_made : (e : AnfVals) (fr : List LiftSlot) (le : Vals) (i : ℕ) (v : AnfVal) (u : Val) → find e i ≡ Some v → VR P v u → (j : ℕ) (v' : AnfVal) → find e j ≡ Some v' → Good fr le j v' → Good (Made i ∷ fr) (VCons u le) j v'
  good_made e fr le i v u at g j v' at' h = go (nat_eq j i) refl
    where
      go : (b : Bool) → nat_eq j i ≡ b → Good (Made i ∷ fr) (VCons u le) j v'
      go true eq = record { u = u; at = rw eq refl; is = transport (λ z. VR P z u) (same_Some _ _ (sym at ∙ ap (find e) (sym (eqb-true j i eq)) ∙ at')) g }
      go false eq = record { u = h.u; at = rw eq h.at; is = h.is }

  -- after the closure for an atom
  record One (s : Scope) (gs : List ℕ) (e : AnfVals) (fr : List LiftSlot) (le : Vals) (a : Atom) (v : AnfVal) (b l : ℕ) : Type 0 where
    fr' : List LiftSlot
    le' : Vals
    grown : Grown fr le fr' le'
    kept : (j : ℕ) (v' : AnfVal) → find e j ≡ Some v' → Good fr le j v' → Good fr' le' j v'
    later : (fr'' : List LiftSlot) (le'' : Vals) → Grown fr' le' fr'' le'' → ((j : ℕ) (v' : AnfVal) → find e j ≡ Some v' → Good fr' le' j v' → Good fr'' le'' j v') → (u : Val) × Is le'' (atom s fr'' a) u × VR P v u
    wrap : (next : List LiftSlot → Block) (r : Val) (c k b' l' : ℕ) → Gets P w le' (next fr') r c k b' l' → Gets P w le (closure s gs fr a next) r c k (b + b') (l + l')

  -- the closure of a fixpoint's variable
  record Made_for (fr : List LiftSlot) (le : Vals) (v : AnfVal) (ws : List ℕ) (n : ℕ) : Type 0 where
    us : Vals
    all : AllAre le (map (held fr) ws) us
    is : VR P v (VClos n us)

  made_for : {v : AnfVal} {n d : ℕ} (fr : List LiftSlot) (le : Vals) (ws : List ℕ) → size le ≡ length fr → FixAt P (word_in fr le) d v ws n → Covers fr d ws → Made_for fr le v ws n
  made_for {d = d} fr le ws eq (fix_at {s = s} {gs = gs} {e = e} {ds = ds} {n = n} is le' er p num) cov =
      let below : Each (λ x. x < depth s) ws = transport (λ z. Each (λ x. x < depth s) z) (sym is) (captured_below (depth s) (defs_words (shares [] (def_count ds) s) ds)) in
      let c = capture fr le eq ws (both ws below cov le') in
      let size_is : size c.us ≡ length (fix_captured s ds) = carries_size c.carries ∙ ap length is in
      let inner : ER P (word_in (holds_all (fix_captured s ds)) c.us) s gs e = transport (λ z. ER P (word_in (holds_all z) c.us) s gs e) is (er_captured c.carries er) in
      record { us = c.us; all = c.all; is = vr_fix inner size_is p num }
    where
      both : {d' : ℕ} (xs : List ℕ) → Each (λ x. x < d') xs → Covers fr d xs → d' ≤ d → Each (λ x. In (Holds x) fr) xs
      both [] h g lt = tt
      both (x ∷ xs) h g lt = let h0 = h.0 in (g.0 (omega arith), both xs h.1 g.1 lt)

  one : {s : Scope} {gs : List ℕ} {e : AnfVals} {a : Atom} {v : AnfVal} {b l : ℕ} (fr : List LiftSlot) (le : Vals) → Gives w s e a v b l → ER P (word_in fr le) s gs e → size le ≡ length fr → Covers fr (depth s) (atom_words s a) → One s gs e fr le a v b l
  one {s} {gs} {e} {v = v} fr le (give_word {i = i} {x = x} is at) er eq cov =
      record {
        fr' = fr;
        le' = le;
        grown = grown_same;
        kept = λ j v' h g. g;
        later = λ fr'' le'' g kept. go fr'' le'' g;
        wrap = λ next r c k b' l' g. transport (λ z. Gets P w le (closure_for fr i (get_or gs i 0) z next) r c k (0 + b') (0 + l')) (sym is)
            (counted refl refl (omega arith) (omega arith) g);
      }
    where
      known : Covers fr (depth s) (x ∷ [])
      known = transport (λ z. Covers fr (depth s) (words_of z)) is cov

      go : (fr'' : List LiftSlot) (le'' : Vals) → Grown fr le fr'' le'' → (u : Val) × Is le'' (atom s fr'' (AVar i)) u × VR P v u
      go fr'' le'' g =
          let f = found (Holds x) fr le eq (known.0 (entry_below s i is)) in
          (f.value, transport (λ z. Is le'' (variable fr'' i z) f.value) (sym is) (is_var (grown_word g x ∙ f.at)), er_word i er is at f.at)
  one {s} {gs} {e} {v = v} fr le (give_fix {i = i} {ws = ws} is at few) er eq cov =
      let m = made_for fr le ws eq (er_words i er is at) (transport (λ z. Covers fr (depth s) (words_of z)) is cov) in
      let n = get_or gs i 0 in
      let long = length-map ws (held fr) in
      let made : Good (Made i ∷ fr) (VCons (VClos n m.us) le) i v = record { u = VClos n m.us; at = rw (eq-eqb i i refl) refl; is = m.is } in
      record {
        fr' = Made i ∷ fr;
        le' = VCons (VClos n m.us) le;
        grown = grown_made grown_same;
        kept = good_made e fr le i v (VClos n m.us) at m.is;
        later = λ fr'' le'' g kept. let h = kept i v at made in (h.u, transport (λ z. Is le'' (variable fr'' i z) h.u) (sym is) (is_var h.at), h.is);
        wrap = λ next r c k b' l' g. transport (λ z. Gets P w le (closure_for fr i n z next) r c k (1 + b') (suc (length ws) + l')) (sym is) (counted (omega arith) (omega arith) (omega arith) (omega arith) (gets_let (do_clos (omega arith) m.all) g));
      }
  one fr le give_box er eq cov =
      record { fr' = fr; le' = le; grown = grown_same; kept = λ j v' h g. g; later = λ fr'' le'' g kept. (VBox, is_box, vr_box); wrap = λ next r c k b' l' g. counted refl refl (omega arith) (omega arith) g }
  one fr le (give_empty {c = c}) er eq cov =
      record { fr' = fr; le' = le; grown = grown_same; kept = λ j v' h g. g; later = λ fr'' le'' g kept. (VCon c VNil, is_empty, vr_con vrs_nil); wrap = λ next r c' k b' l' g. counted refl refl (omega arith) (omega arith) g }

  -- after the closures for atoms, whose values these are
  pub record Ready (s : Scope) (gs : List ℕ) (e : AnfVals) (fr : List LiftSlot) (le : Vals) (as' : List Atom) (vs : AnfVals) (b l : ℕ) : Type 0 where
    pub fr' : List LiftSlot
    pub le' : Vals
    pub grown : Grown fr le fr' le'
    pub us : Vals
    pub all : AllAre le' (map (atom s fr') as') us
    pub related : VRs P vs us
    pub kept : (j : ℕ) (v' : AnfVal) → find e j ≡ Some v' → Good fr le j v' → Good fr' le' j v'
    pub wrap : (next : List LiftSlot → Block) (r : Val) (c k b' l' : ℕ) → Gets P w le' (next fr') r c k b' l' → Gets P w le (closures s gs fr as' next) r c k (b + b') (l + l')

  joined : {s : Scope} {gs : List ℕ} {e : AnfVals} {fr : List LiftSlot} {le : Vals} {a : Atom} {v : AnfVal} {as' : List Atom} {vs : AnfVals} {b l b' l' : ℕ} (x : One s gs e fr le a v b l) (y : Ready s gs e x.fr' x.le' as' vs b' l') (u : Val) → Is y.le' (atom s y.fr'
      a) u → VR P v u → Ready s gs e fr le (a ∷ as') (WCons v vs) (b + b') (l + l')
  joined {s} {gs} {as' = as'} {b' = b'} {l' = l'} x y u is g = record {
    fr' = y.fr';
    le' = y.le';
    grown = grown_trans x.grown y.grown;
    us = VCons u y.us;
    all = are_more is y.all;
    related = vrs_cons g y.related;
    kept = λ j v' at g. y.kept j v' at (x.kept j v' at g);
    wrap = λ next r c k b'' l'' g. counted refl refl (omega arith) (omega arith) (x.wrap (λ fr''. closures s gs fr'' as' next) r c k (b' + b'') (l' + l'') (y.wrap next r c k b'' l'' g));
  }

  pub ready : {s : Scope} {gs : List ℕ} {e : AnfVals} {as' : List Atom} {vs : AnfVals} {b l : ℕ} (fr : List LiftSlot) (le : Vals) → GivesAll w s e as' vs b l → ER P (word_in fr le) s gs e → size le ≡ length fr → Covers fr (depth s) (atoms_words s as') → Ready s gs e fr le as' vs b l
  ready fr le give_none er eq cov =
      record { fr' = fr; le' = le; grown = grown_same; us = VNil; all = are_none; related = vrs_nil; kept = λ j v' h g. g; wrap = λ next r c k b' l' g. counted refl refl (omega arith) (omega arith) g }
  ready {s} fr le (give_more {a = a} {as' = as'} h hs) er eq cov =
      let parts = each_split (λ x. x < depth s → In (Holds x) fr) (atom_words s a) (atoms_words s as') cov in
      let x = one fr le h er eq parts.0 in
      let y = ready x.fr' x.le' hs (grown_er x.grown er) (grown_size x.grown eq) (grown_covers (depth s) (atoms_words s as') x.grown parts.1) in
      let u = x.later y.fr' y.le' y.grown y.kept in
      joined x y u.0 u.1 u.2
