-- The places of variables fit: they use only locals below a number, and a known closure has as many words as its function takes.
use Rattle.std.proofs.Common.{◌≡◌, ℕ, zero, suc, ◌*◌, ◌<◌, ◌≤◌, List, [], ◌∷◌, length, Option, Some, None, Bool, true, false, refl, ap, sym, subst, arith}
use Rattle.std.specs.Prelude.{slice_get}
use Rattle.std.specs.Option.{option_and_then}
use Rattle.std.proofs.lemmas.Option.{same_Some}
use Rattle.anf_convert.specs.declared.program.Atom.{Atom}
use Rattle.anf_convert.specs.declared.program.Atom.TheVariants.{Var as AVar, Box as ABox, Empty as AEmpty}
use Rattle.anf_convert.specs.AnfForm.{AtomFits, AtomsFit}
use Rattle.closure_lift.specs.Lifted.{Op, ConstOp, AppOp, ConOp, ClosOp, CaseOp, Block, TailAtom, BindAtom, Tail, Bind, Program}
use Rattle.closure_lift.specs.LiftedForm.{IsMadeWith, OpFits, LiftedBlockFits, Formed}
use Rattle.wasm_core.specs.ModuleCondition.{All}
use Rattle.known_calls.specs.KnownPlaces.{Word, InLocal, InField, IsConst, Place, At, Known, word_at, word_of, words_of, all_at, fields_of, known_at, known_function}
use Rattle.known_calls.specs.KnownCode.{known_closure, closure_alone, known, branch_places}
use Rattle.known_calls.specs.KnownModule.{params}
use Rattle.known_calls.proofs.Finding.{split}
use Rattle.known_calls.proofs.Knowing.{closed, opened}

-- a word in a local below d, or in a field at an offset below far
abbrev pub WordFits : ℕ → ℕ → Word → Type 0
WordFits far d (InLocal x) = x < d
WordFits far d (InField x o) = (x < d) × (o < far)
WordFits far d (IsConst n) = n < 4294967296

module _ (P : Program) (far : ℕ) where
  abbrev pub PlaceFits : ℕ → Place → Type 0
  PlaceFits d (At w) = WordFits far d w
  PlaceFits d (Known g ws) = IsMadeWith P.functions g (length ws) × (length ws ≤ 7) × All (WordFits far d) ws

  pub word_up : (d d' : ℕ) → d ≤ d' → (w : Word) → WordFits far d w → WordFits far d' w
  word_up d d' le (InLocal x) h = omega arith
  word_up d d' le (InField x o) h = (omega (arith, h.0), h.1)
  word_up d d' le (IsConst n) h = h

  pub words_up : (d d' : ℕ) → d ≤ d' → (ws : List Word) → All (WordFits far d) ws → All (WordFits far d') ws
  words_up d d' le [] h = tt
  words_up d d' le (w ∷ ws) h = (word_up d d' le w h.0, words_up d d' le ws h.1)

  place_up : (d d' : ℕ) → d ≤ d' → (p : Place) → PlaceFits d p → PlaceFits d' p
  place_up d d' le (At w) h = word_up d d' le w h
  place_up d d' le (Known g ws) h = (h.0, h.1, words_up d d' le ws h.2)

  pub places_up : (d d' : ℕ) → d ≤ d' → (ps : List Place) → All (PlaceFits d) ps → All (PlaceFits d') ps
  places_up d d' le [] h = tt
  places_up d d' le (p ∷ ps) h = (place_up d d' le p h.0, places_up d d' le ps h.1)

  pub fields_fit : (d x n : ℕ) (ps : List Place) → x < d → 4 * n < far → All (PlaceFits d) ps → All (PlaceFits d) (fields_of x n ps)
  fields_fit d x zero ps hx hn h = h
  fields_fit d x (suc n) ps hx hn h = ((hx, omega arith), fields_fit d x n ps hx (omega arith) h)

  pub branch_fit : (b : Bool) (d x n : ℕ) (ps : List Place) → x < d → 4 * n < far → All (PlaceFits d) ps → All (PlaceFits d) (branch_places b x n ps)
  branch_fit false d x n ps hx hn h = fields_fit d x n ps hx hn h
  branch_fit true d x n ps hx hn h = (hx, h)

  pub params_fit : (d n : ℕ) → n ≤ d → All (PlaceFits d) (params n)
  params_fit d zero h = tt
  params_fit d (suc n) h = (omega arith, params_fit d n (omega arith))

  all_fit : (d : ℕ) (ws : List Word) → All (WordFits far d) ws → All (PlaceFits d) (all_at ws)
  all_fit d [] h = tt
  all_fit d (w ∷ ws) h = (h.0, all_fit d ws h.1)

  pub at_place : (d : ℕ) (ps : List Place) (i : ℕ) {p : Place} → All (PlaceFits d) ps → slice_get ps i ≡ Some p → PlaceFits d p
  at_place d [] i h e = cc
  at_place d (p ∷ ps) zero h e = subst (PlaceFits d) (same_Some _ _ e) h.0
  at_place d (p ∷ ps) (suc i) h e = at_place d ps i h.1 e

  at_word : (d : ℕ) (o : Option Place) {w : Word} → ((p : Place) → o ≡ Some p → PlaceFits d p) → option_and_then word_at o ≡ Some w → WordFits far d w
  at_word d None h e = cc
  at_word d (Some (At w)) h e = subst (WordFits far d) (same_Some _ _ e) (h (At w) refl)
  at_word d (Some (Known g ws)) h e = cc

  -- the word of an atom
  pub word_fits : (n d : ℕ) (ps : List Place) (a : Atom) {w : Word} → AtomFits n a → All (PlaceFits d) ps → word_of ps a ≡ Some w → WordFits far d w
  word_fits n d ps (AVar i) fit h e = at_word d (slice_get ps i) (λ p at. at_place d ps i h at) e
  word_fits n d ps ABox fit h e = subst (WordFits far d) (same_Some _ _ e) (omega arith)
  word_fits n d ps (AEmpty c) fit h e = subst (WordFits far d) (same_Some _ _ e) (omega (arith, fit))

  record WordsFit (d : ℕ) (as' : List Atom) (ws : List Word) : Type 0 where
    same : length ws ≡ length as'
    all : All (WordFits far d) ws

  words_fit : (n d : ℕ) (ps : List Place) (as' : List Atom) {ws : List Word} → AtomsFit n as' → All (PlaceFits d) ps → words_of ps as' ≡ Some ws → WordsFit d as' ws
  words_fit n d ps [] fit h e = subst (WordsFit d []) (same_Some _ _ e) (record { same = refl; all = tt })
  words_fit n d ps (a ∷ as') fit h e =
      let s = split (word_of ps a) (words_of ps as') e in
      let r = words_fit n d ps as' fit.1 h s.more in
      subst (WordsFit d (a ∷ as')) s.is (record { same = ap suc r.same; all = (word_fits n d ps a fit.0 h s.one, r.all) })

  clos_fits : (n d : ℕ) (ps : List Place) (g : ℕ) (as' : List Atom) {q : Place} → IsMadeWith P.functions g (length as') → AtomsFit n as' → All (PlaceFits d) ps → known_closure g (words_of ps as') ≡ Some q → PlaceFits d q
  clos_fits n d ps g as' takes fit h e =
      let c = closed g (words_of ps as') e in
      let r = words_fit n d ps as' fit h c.all in
      subst (PlaceFits d) c.is (subst (IsMadeWith P.functions g) (sym r.same) takes, c.few, r.all)

  module _ (most : ℕ) (form : Formed P most) where
    alone_fits : (n d : ℕ) (ps : List Place) (t : Block) {q : Place} → LiftedBlockFits P.functions (length P.constants) most n t → All (PlaceFits d) ps → closure_alone ps t ≡ Some q → PlaceFits d q
    alone_fits n d ps (Tail (ClosOp g as')) fit h e = clos_fits n d ps g as' fit.0 fit.1 h e
    alone_fits n d ps (Tail (ConstOp x)) fit h e = cc
    alone_fits n d ps (Tail (AppOp f a)) fit h e = cc
    alone_fits n d ps (Tail (ConOp c as')) fit h e = cc
    alone_fits n d ps (Tail (CaseOp a bs)) fit h e = cc
    alone_fits n d ps (TailAtom a) fit h e = cc
    alone_fits n d ps (BindAtom a t) fit h e = cc
    alone_fits n d ps (Bind x t) fit h e = cc

    at_known : (d : ℕ) (o : Option Place) {k : ℕ × List Word} → ((p : Place) → o ≡ Some p → PlaceFits d p) → option_and_then known_at o ≡ Some k → PlaceFits d (Known k.0 k.1)
    at_known d None h e = cc
    at_known d (Some (At w)) h e = cc
    at_known d (Some (Known g ws)) h e = subst (λ (k : ℕ × List Word). PlaceFits d (Known k.0 k.1)) (same_Some _ _ e) (h (Known g ws) refl)

    -- a known function
    pub function_fits : (d : ℕ) (ps : List Place) (f : Atom) {k : ℕ × List Word} → All (PlaceFits d) ps → known_function ps f ≡ Some k → PlaceFits d (Known k.0 k.1)
    function_fits d ps (AVar i) h e = at_known d (slice_get ps i) (λ p at. at_place d ps i h at) e
    function_fits d ps ABox h e = cc
    function_fits d ps (AEmpty c) h e = cc

    const_fits : (d x : ℕ) (o : Option Block) {q : Place} → slice_get P.constants x ≡ o → option_and_then (closure_alone []) o ≡ Some q → PlaceFits d q
    const_fits d x None at e = cc
    const_fits d x (Some t) at e = alone_fits 0 d [] t (form.constants x t at) tt e

    -- what an operation is known to give
    pub known_fits : (n d : ℕ) (ps : List Place) (p : Op) {q : Place} → OpFits P.functions (length P.constants) most n p → All (PlaceFits d) ps → known P ps p ≡ Some q → PlaceFits d q
    known_fits n d ps (ConstOp x) fit h e = const_fits d x (slice_get P.constants x) refl e
    known_fits n d ps (AppOp f a) fit h e =
        let o = opened P (known_function ps f) (word_of ps a) e in
        let k = function_fits d ps f h o.is in
        alone_fits (suc o.fn.captured) d (At o.a ∷ all_at o.k.1) o.fn.body (form.functions o.k.0 o.fn o.at) (word_fits n d ps a fit.1 h o.argument, all_fit d o.k.1 k.2) o.alone
    known_fits n d ps (ConOp c as') fit h e = cc
    known_fits n d ps (ClosOp g as') fit h e = clos_fits n d ps g as' fit.0 fit.1 h e
    known_fits n d ps (CaseOp a bs) fit h e = cc
