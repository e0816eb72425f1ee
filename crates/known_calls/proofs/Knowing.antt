-- An operation that is known gives the closure that it is known to be.
use Rattle.std.proofs.Common.{◌≡◌, ℕ, ◌≤◌, List, [], ◌∷◌, length, Option, Some, None, Bool, true, false, refl, ap, sym, ◌∙◌, subst}
use Rattle.std.proofs.lemmas.Bool.{leb-true}
use Rattle.std.proofs.lemmas.Option.{none-some, same_Some}
use Rattle.std.specs.Prelude.{slice_get, nat_le, if◌then◌else◌}
use Rattle.std.specs.Option.{option_and_then}
use Rattle.wasm_core.specs.declared.types.ConstValue.{ConstValue}
use Rattle.wasm_emit.proofs.Bytes.{Mem}
use Rattle.wasm_emit.proofs.Source.{Atom, Op, Block, Fn, Program, Val, VBox, VClos, Vals, VCons, Is, is_var, is_box, is_empty, AllAre, Does, do_const, do_app, do_box_app, do_con, do_clos, do_case, Gets, gets_ret}
use Rattle.known_calls.specs.KnownPlaces.{Word, Place, At, Known, word_of, words_of, all_at, known_at, known_function}
use Rattle.known_calls.specs.KnownCode.{known_closure, closure_alone, partial, known}
use Rattle.known_calls.proofs.KnownHolds.{Words, Env, env_nil, env_at}
use Rattle.known_calls.proofs.Finding.{Held, held_word, held_known, held, is_at, words_are, all_env}

-- the closure that makes a place known
pub record Closed (g : ℕ) (r : Option (List Word)) (q : Place) : Type 0 where
  pub ws : List Word
  pub all : r ≡ Some ws
  pub is : Known g ws ≡ q
  pub few : length ws ≤ 7

closed_if : (g : ℕ) (ws : List Word) (b : Bool) {q : Place} → nat_le (length ws) 7 ≡ b → (if b then Some (Known g ws) else None) ≡ Some q → Closed g (Some ws) q
closed_if g ws true few e = record { ws = ws; all = refl; is = same_Some _ _ e; few = leb-true (length ws) 7 few }
closed_if g ws false few e = cc

pub closed : (g : ℕ) (r : Option (List Word)) {q : Place} → known_closure g r ≡ Some q → Closed g r q
closed g None e = cc
closed g (Some ws) e = closed_if g ws (nat_le (length ws) 7) refl e

-- a known closure, its argument, and its function
pub record Opened (P : Program) (o : Option (ℕ × List Word)) (w : Option Word) (q : Place) : Type 0 where
  pub k : ℕ × List Word
  pub a : Word
  pub fn : Fn
  pub is : o ≡ Some k
  pub argument : w ≡ Some a
  pub at : slice_get P.functions k.0 ≡ Some fn
  pub alone : closure_alone (At a ∷ all_at k.1) fn.body ≡ Some q

opened_fn : (P : Program) (o : Option (ℕ × List Word)) (w : Option Word) {q : Place} (k : ℕ × List Word) (a : Word) (f : Option Fn) → o ≡ Some k → w ≡ Some a → slice_get P.functions k.0 ≡ f → option_and_then (λ fn. closure_alone (At a ∷ all_at k.1) fn.body) f ≡ Some q → Opened P o w q
opened_fn P o w k a None is arg at e = cc
opened_fn P o w k a (Some fn) is arg at e = record { k = k; a = a; fn = fn; is = is; argument = arg; at = at; alone = e }

pub opened : (P : Program) (o : Option (ℕ × List Word)) (w : Option Word) {q : Place} → option_and_then (λ k. partial P k w) o ≡ Some q → Opened P o w q
opened P None w e = cc
opened P (Some k) None e = cc
opened P (Some k) (Some a) e = opened_fn P (Some k) (Some a) k a (slice_get P.functions k.0) refl refl refl e

module _ (P : Program) (m : Mem) (limit : ℕ) (ls : List ConstValue) (d : ℕ) where
  -- the place is that of a closure, which is the value; and there was no match
  pub record IsKnown (q : Place) (v : Val) (k : ℕ) : Type 0 where
    pub g : ℕ
    pub ws : List Word
    pub cs : Vals
    pub place : Known g ws ≡ q
    pub value : v ≡ VClos g cs
    pub few : length ws ≤ 7
    pub words : Words m limit ls d ws cs
    pub no_match : k ≡ 0

  -- a closure that would be made
  clos_known : {ps : List Place} {e : Vals} {g : ℕ} {as' : List Atom} {vs : Vals} {q : Place} → Env m limit ls d ps e → AllAre e as' vs → known_closure g (words_of ps as') ≡ Some q → IsKnown q (VClos g vs) 0
  clos_known {ps} {g = g} {as' = as'} env all e =
      let c = closed g (words_of ps as') e in
      record { g = g; ws = c.ws; cs = _; place = c.is; value = refl; few = c.few; words = words_are m limit ls d env all c.all; no_match = refl }

  -- a block that makes a closure and does nothing else
  alone_known : {W N D c k b s : ℕ} {tail : Bool} {ps : List Place} {e : Vals} {t : Block} {v : Val} {q : Place} → Env m limit ls d ps e → Gets P W N tail D e t v c k b s → closure_alone ps t ≡ Some q → IsKnown q v k
  alone_known env (gets_ret (do_clos low few narrow all)) e = clos_known env all e
  alone_known env (gets_ret (do_const at g)) e = cc
  alone_known env (gets_ret (do_app isf isa at sz g)) e = cc
  alone_known env (gets_ret (do_box_app isf isa)) e = cc
  alone_known env (gets_ret (do_con lt pos few narrow all)) e = cc
  alone_known env (gets_ret (do_case isa few at g)) e = cc
  alone_known env _ e = cc

  -- the function of an application
  pub record Calls (k : ℕ × List Word) (v : Val) : Type 0 where
    pub cs : Vals
    pub value : v ≡ VClos k.0 cs
    pub few : length k.1 ≤ 7
    pub words : Words m limit ls d k.1 cs

  calls_held : {ps : List Place} {i : ℕ} {v : Val} {k : ℕ × List Word} → Held m limit ls d ps i v → option_and_then known_at (slice_get ps i) ≡ Some k → Calls k v
  calls_held {k = k} (held_word {p = p} w at r s) e = absurd (none-some k (sym (ap (option_and_then known_at) at) ∙ e))
  calls_held {v = v} {k = k} (held_known {g = g} {ws = ws} {cs = cs} at is few words) e =
      let same : ◌≡◌ {A = ℕ × List Word} (g, ws) k = same_Some _ _ (sym (ap (option_and_then known_at) at) ∙ e) in
      subst (λ x. Calls x v) same (record { cs = cs; value = is; few = few; words = words })

  pub calls : {ps : List Place} {e : Vals} {f : Atom} {v : Val} {k : ℕ × List Word} → Env m limit ls d ps e → Is e f v → known_function ps f ≡ Some k → Calls k v
  calls env (is_var {i = i} at) e = calls_held (held m limit ls d i env at) e
  calls env is_box e = cc
  calls env (is_empty lt) e = cc

  pub same_function : {g h : ℕ} {e cs : Vals} → ◌≡◌ {A = Val} (VClos g e) (VClos h cs) → g ≡ h
  same_function e = cc

  pub same_captured : {g h : ℕ} {e cs : Vals} → ◌≡◌ {A = Val} (VClos g e) (VClos h cs) → e ≡ cs
  same_captured e = cc

  pub no_box : {h : ℕ} {cs : Vals} → ◌≡◌ {A = Val} VBox (VClos h cs) → ⊥
  no_box e = cc

  -- so a binding that is known needs no code
  pub known_is : {W N D c k b s : ℕ} {tail : Bool} {ps : List Place} {e : Vals} {p : Op} {v : Val} {q : Place} → Env m limit ls d ps e → Does P W N tail D e p v c k b s → known P ps p ≡ Some q → IsKnown q v k
  known_is env (do_clos low few narrow all) e = clos_known env all e
  known_is env (do_const {x = x} {t = t} at g) e = alone_known env_nil g (sym (ap (option_and_then (closure_alone [])) at) ∙ e)
  known_is {ps = ps} env (do_app {e' = e'} {f = f} {a = a} {g = g} {fn = fn} {v = v} isf isa at sz body) e =
      let o = opened P (known_function ps f) (word_of ps a) e in
      let call = calls env isf o.is in
      let argument = is_at m limit ls d env isa o.argument in
      let function : o.fn ≡ fn = same_Some _ _ (sym o.at ∙ ap (slice_get P.functions) (sym (same_function call.value)) ∙ at) in
      let inner : Env m limit ls d (At o.a ∷ all_at o.k.1) (VCons v e') = env_at argument.w argument.reads argument.stands (subst (Env m limit ls d (all_at o.k.1)) (sym (same_captured call.value)) (all_env m limit ls d call.words)) in
      alone_known inner body (sym (ap (λ (x : Fn). closure_alone (At o.a ∷ all_at o.k.1) x.body) function) ∙ o.alone)
  known_is {ps = ps} env (do_box_app {f = f} {a = a} isf isa) e =
      let o = opened P (known_function ps f) (word_of ps a) e in
      let call = calls env isf o.is in
      absurd (no_box call.value)
  known_is env (do_con lt pos few narrow all) e = cc
  known_is env (do_case isa few at g) e = cc
