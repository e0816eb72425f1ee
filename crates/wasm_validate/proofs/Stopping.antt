-- Where the pass over a body stops, its typing fails.
use Rattle.std.proofs.Common.{◌≡◌, ℕ, List, [], ◌∷◌, ◌++◌, Option, Some, None, false, refl, ap, sym, ◌∙◌, subst, append_assoc, ◌+◌, ◌<◌, ◌≤◌, length, take, drop, arith, inl, inr, get_or, length-append, ⊎_elim}
use Rattle.std.specs.Prelude.{◌⊎◌}
use Rattle.std.proofs.lemmas.List.{append-nil, take-append-drop, drop_all, drop_more}
use Rattle.std.proofs.Math.Seq.{take-append_seam}
use Rattle.std.proofs.lemmas.Option.{same_Some}
use Rattle.wasm_core.specs.declared.instrs.Instr.{Instr}
use Rattle.wasm_core.specs.Parts.{Parts}
use Rattle.wasm_core.specs.ModuleTyping.{OperandTypes, TypedBody}
use Rattle.wasm_core.specs.ModuleCondition.{IsClosed}
use Rattle.wasm_core.specs.FirstFault.{CanGoOn, IsFaultAt}
use Rattle.wasm_core.specs.Pass.{Place, Check, More, Finished, check, outset, one, run}
use Rattle.wasm_core.proofs.Passing.{run-append, run_typed, typed_run, viable_run, run_viable}
use Rattle.wasm_core.proofs.FaultUnique.{front_goes_on}
use Rattle.wasm_core.proofs.Judged.{bodies_are_judged}
use Rattle.wasm_validate.specs.BodyPass.{stops, stops_after}

module _ (m : Parts) (ls rs : OperandTypes) where
  abbrev start : Option Check
  start = Some (More outset)

  -- the pass ended with the code; or the code fails at a place, or is over within a block
  abbrev Judges : List Instr → Option ℕ → Type 0
  Judges code None = TypedBody m ls rs code
  Judges code (Some p) = IsFaultAt m ls rs code p ⊎ ((b : Place) × (run m ls rs start code ≡ Some (More b)))

  one_more : (front : List Instr) (i : Instr) (c : Check) → run m ls rs start front ≡ Some c → run m ls rs start (front ++ i ∷ []) ≡ one m ls rs (Some c) i
  one_more front i c e = run-append m ls rs front (i ∷ []) start ∙ ap (λ x. one m ls rs x i) e

  -- a front that can go on, and not with this instruction
  fault_at : (front : List Instr) (i : Instr) (rest : List Instr) (c : Check) → run m ls rs start front ≡ Some c → one m ls rs (Some c) i ≡ None → IsFaultAt m ls rs (front ++ i ∷ rest) (length front)
  fault_at front i rest c e h =
      let here : take (length front) (front ++ i ∷ rest) ≡ front = take-append_seam front (i ∷ rest) in
      let split : (front ++ i ∷ []) ++ rest ≡ front ++ i ∷ rest = append_assoc front (i ∷ []) rest in
      let len : length (front ++ i ∷ []) ≡ length front + 1 = length-append front (i ∷ []) in
      let there : take (length front + 1) (front ++ i ∷ rest) ≡ front ++ i ∷ [] = ap (λ n. take n (front ++ i ∷ rest)) (sym len) ∙ ap (take (length (front ++ i ∷ []))) (sym split) ∙ take-append_seam (front ++ i ∷ []) rest in
      record {
        within = omega (arith, length-append front (i ∷ rest));
        before = subst (CanGoOn m ls rs) (sym here) (run_viable m ls rs front c e);
        here = λ v. viable_run m ls rs (front ++ i ∷ []) (subst (CanGoOn m ls rs) there v) (one_more front i c e ∙ h);
      }

  -- the body's own end has come
  finished : (front : List Instr) (i : Instr) (rest : List Instr) (a : Place) → run m ls rs start front ≡ Some (More a) → check m ls rs i a ≡ Some Finished → (go : Place → Option ℕ) → Judges (front ++ i ∷ rest) (stops_after (Some Finished) (length front) rest go)
  finished front i [] a e h go = run_typed m ls rs (front ++ i ∷ []) (one_more front i (More a) e ∙ h)
  finished front i (j ∷ rest) a e h go =
      let f = fault_at (front ++ i ∷ []) j rest Finished (one_more front i (More a) e ∙ h) refl in
      let len : length (front ++ i ∷ []) ≡ length front + 1 = length-append front (i ∷ []) in
      inl (subst (λ code. IsFaultAt m ls rs code (length front + 1)) (append_assoc front (i ∷ []) (j ∷ rest)) (subst (IsFaultAt m ls rs ((front ++ i ∷ []) ++ j ∷ rest)) len f))

  next : (front : List Instr) (i : Instr) (rest : List Instr) (a : Place) → run m ls rs start front ≡ Some (More a) → ((f : List Instr) (b : Place) → run m ls rs start f ≡ Some (More b) → Judges (f ++ rest) (stops m ls rs b (length f) rest)) → (o : Option
      Check) → check m ls rs i a ≡ o → Judges (front ++ i ∷ rest) (stops_after o (length front) rest (λ b. stops m ls rs b (length front + 1) rest))
  next front i rest a e go None h = inl (fault_at front i rest (More a) e h)
  next front i rest a e go (Some Finished) h = finished front i rest a e h (λ b. stops m ls rs b (length front + 1) rest)
  next front i rest a e go (Some (More b)) h =
      let j = go (front ++ i ∷ []) b (one_more front i (More a) e ∙ h) in
      let len : length (front ++ i ∷ []) ≡ length front + 1 = length-append front (i ∷ []) in
      subst (λ code. Judges code (stops m ls rs b (length front + 1) rest)) (append_assoc front (i ∷ []) rest)
      (subst (λ n. Judges ((front ++ i ∷ []) ++ rest) (stops m ls rs b n rest)) len j)

  walk : (rest front : List Instr) (a : Place) → run m ls rs start front ≡ Some (More a) → Judges (front ++ rest) (stops m ls rs a (length front) rest)
  walk [] front a e = subst (λ code. Judges code (Some (length front))) (sym (append-nil front)) (inr (a, e))
  walk (i ∷ rest) front a e = next front i rest a e (λ f b h. walk rest f b h) (check m ls rs i a) refl

  -- a closed body isn't over within a block
  closed_ends : (code : List Instr) (b : Place) → IsClosed (false ∷ []) code → run m ls rs start code ≡ Some (More b) → ⊥
  closed_ends code b c e = ⊎_elim typed faulty (bodies_are_judged m ls rs code c)
    where
      typed : TypedBody m ls rs code → ⊥
      typed t = let q : Finished ≡ More b = same_Some _ _ (sym (typed_run m ls rs code t) ∙ e) in cc

      faulty : ((p : ℕ) × IsFaultAt m ls rs code p) → ⊥
      faulty (p, f) =
          let whole = subst (CanGoOn m ls rs) (sym (take-append-drop (p + 1) code)) (run_viable m ls rs code (More b) e) in
          f.here (front_goes_on m ls rs (take (p + 1) code) (drop (p + 1) code) whole)

  -- the same of a closed body: it has a typing, or fails at a place
  abbrev pub SaysOfCode : List Instr → Option ℕ → Type 0
  SaysOfCode code None = TypedBody m ls rs code
  SaysOfCode code (Some p) = IsFaultAt m ls rs code p

  settled : (code : List Instr) → IsClosed (false ∷ []) code → (o : Option ℕ) → Judges code o → SaysOfCode code o
  settled code c None t = t
  settled code c (Some p) j = ⊎_elim (λ f. f) (λ (b, e). absurd (closed_ends code b c e)) j

  pub stops_says : (code : List Instr) → IsClosed (false ∷ []) code → SaysOfCode code (stops m ls rs outset 0 code)
  stops_says code c = settled code c (stops m ls rs outset 0 code) (walk code [] outset refl)

  -- ---- one instruction after another, by its place in the code

  -- what the pass does with the code from a place on
  abbrev from_here : Option Check → ℕ → List Instr → Option ℕ
  from_here o at rest = stops_after o at rest (λ b. stops m ls rs b (at + 1) rest)

  opened : (code : List Instr) (at : ℕ) (a : Place) (i : Instr) (o : Option Check) → at < length code → i ≡ get_or code at i → check m ls rs i a ≡ o → stops m ls rs a at (drop at code) ≡ from_here o at (drop (at + 1) code)
  opened code at a i o lt e h =
      ap (stops m ls rs a at) (drop_more code at i lt ∙ ap (λ x. x ∷ drop (at + 1) code) (sym e))
      ∙ ap (λ x. from_here x at (drop (at + 1) code)) h

  pub stops_next : (code : List Instr) (at : ℕ) (a b : Place) (i : Instr) → at < length code → i ≡ get_or code at i → check m ls rs i a ≡ Some (More b) → stops m ls rs a at (drop at code) ≡ stops m ls rs b (at + 1) (drop (at + 1) code)
  stops_next code at a b i lt e h = opened code at a i (Some (More b)) lt e h

  pub stops_stuck : (code : List Instr) (at : ℕ) (a : Place) (i : Instr) → at < length code → i ≡ get_or code at i → check m ls rs i a ≡ None → stops m ls rs a at (drop at code) ≡ Some at
  stops_stuck code at a i lt e h = opened code at a i None lt e h

  pub stops_end : (code : List Instr) (at : ℕ) (a : Place) (i : Instr) → at < length code → i ≡ get_or code at i → check m ls rs i a ≡ Some Finished → length code ≤ at + 1 → stops m ls rs a at (drop at code) ≡ None
  stops_end code at a i lt e h le = opened code at a i (Some Finished) lt e h ∙ ap (from_here (Some Finished) at) (drop_all (at + 1) code le)

  pub stops_past : (code : List Instr) (at : ℕ) (a : Place) (i : Instr) → at < length code → i ≡ get_or code at i → check m ls rs i a ≡ Some Finished → at + 1 < length code → stops m ls rs a at (drop at code) ≡ Some (at + 1)
  stops_past code at a i lt e h more = opened code at a i (Some Finished) lt e h ∙ ap (from_here (Some Finished) at) (drop_more code (at + 1) i more)

  pub stops_over : (code : List Instr) (at : ℕ) (a : Place) → length code ≤ at → stops m ls rs a at (drop at code) ≡ Some at
  stops_over code at a le = ap (stops m ls rs a at) (drop_all at code le)
