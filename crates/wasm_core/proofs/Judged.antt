-- A body that is closed has a typing, or fails at a place.
use Rattle.std.proofs.Common.{◌≡◌, ℕ, suc, List, [], ◌∷◌, ◌++◌, Option, Some, None, Bool, true, false, refl, ap, sym, ◌∙◌, subst, append_assoc, ◌+◌, length, take, arith, inl, inr, length-append}
use Rattle.std.specs.Prelude.{slice_get, ◌⊎◌}
use Rattle.std.proofs.lemmas.List.{append-nil}
use Rattle.std.proofs.Math.Seq.{take-append_seam}
use Rattle.std.proofs.lemmas.Option.{same_Some}
use Rattle.wasm_core.specs.declared.types.ValType.TheVariants.{I32}
use Rattle.wasm_core.specs.declared.instrs.Instr.{Instr}
use Rattle.wasm_core.specs.declared.instrs.Instr.TheVariants.{Unreachable, Block, Loop, If, Else, End, Br, BrIf, BrTable, Return, Drop, ReturnCall, ReturnCallIndirect}
use Rattle.wasm_core.specs.Parts.{Parts}
use Rattle.wasm_core.specs.MachineStep.{on_some, same_types}
use Rattle.wasm_core.specs.ModuleTyping.{OperandTypes, Effect, TypedBody, effect, tail_effect, left_by}
use Rattle.wasm_core.specs.ModuleCondition.{IsClosed, opens_after}
use Rattle.wasm_core.specs.FirstFault.{CanGoOn, IsFaultAt}
use Rattle.wasm_core.specs.Pass.{Known, Ctl, Place, Check, More, Finished, only, off, put_on, closes, drop_one, dead, labels_of, opened, may_end, fit_labels, check, check_end, check_else, check_tail, outset, one, run}
use Rattle.wasm_core.specs.Laws.{BodiesAreJudged}
use Rattle.wasm_core.proofs.Small.{no}
use Rattle.wasm_core.proofs.Passing.{run_none, run-append, run_typed, viable_run, run_viable}

-- where the pass goes on, so many blocks are open
abbrev Sized : ℕ → Option Check → Type 0
Sized n None = Unit {0}
Sized n (Some Finished) = Unit {0}
Sized n (Some (More a)) = suc (length a.ctls) ≡ n

s_some : (n : ℕ) {A : Type 0} (o : Option A) (f : A → Option Check) → ((x : A) → Sized n (f x)) → Sized n (on_some o f)
s_some n None f h = tt
s_some n (Some x) f h = h x

s_only : (n : ℕ) (b : Bool) (o : Option Check) → Sized n o → Sized n (only b o)
s_only n true o h = h
s_only n false o h = tt

module _ (m : Parts) (ls rs : OperandTypes) where
  plain_sized : (a : Place) (n : ℕ) → suc (length a.ctls) ≡ n → (o : Option Effect) → Sized n (on_some o (λ e. on_some (off e.0 a.now) (λ k. Some (More (record a { now = put_on e.1 k })))))
  plain_sized a n h o = s_some n o (λ e. on_some (off e.0 a.now) (λ k. Some (More (record a { now = put_on e.1 k })))) (λ e. s_some n (off e.0 a.now) (λ k. Some (More (record a { now = put_on e.1 k }))) (λ k. h))

  end_sized : (now : Known) (cs : List Ctl) (os : List Bool) → length os ≡ length cs → Sized (length os) (check_end rs now cs)
  end_sized now [] os h = s_some (length os) (closes rs now) (λ k. Some Finished) (λ k. tt)
  end_sized now (c ∷ cs) os h =
      s_some (length os) (closes c.ends now) (λ k. only (may_end c.one_arm c.ends) (Some (More (record { now = put_on c.ends c.below; ctls = cs }))))
      (λ k. s_only (length os) (may_end c.one_arm c.ends) (Some (More (record { now = put_on c.ends c.below; ctls = cs }))) (sym h))

  else_sized : (now : Known) (cs : List Ctl) (n : ℕ) → suc (length cs) ≡ n → Sized n (check_else now cs)
  else_sized now [] n h = tt
  else_sized now (c ∷ cs) n h =
      s_only n c.one_arm (on_some (closes c.ends now) (λ k. Some (opened c.label c.ends false c.below cs))) (s_some n (closes c.ends now) (λ k. Some (opened c.label c.ends false c.below cs)) (λ k. h))

  tail_sized : (a : Place) (n : ℕ) → suc (length a.ctls) ≡ n → (o : Option Effect) → Sized n (check_tail rs o a)
  tail_sized a n h o =
      s_some n o (λ e. only (same_types e.1 rs) (on_some (off e.0 a.now) (λ k. Some (dead a))))
      (λ e. s_only n (same_types e.1 rs) (on_some (off e.0 a.now) (λ k. Some (dead a))) (s_some n (off e.0 a.now) (λ k. Some (dead a)) (λ k. h)))

  sized : (i : Instr) (a : Place) (o : Bool) (os : List Bool) → length os ≡ length a.ctls → Sized (length (opens_after i (o ∷ os))) (check m ls rs i a)
  sized Unreachable a o os h = ap suc (sym h)
  sized (Block b) a o os h = ap (λ n. suc (suc n)) (sym h)
  sized (Loop b) a o os h = ap (λ n. suc (suc n)) (sym h)
  sized (If b) a o os h =
      s_some (suc (suc (length os))) (off (I32 ∷ []) a.now) (λ k. Some (opened (left_by b) (left_by b) true k a.ctls)) (λ k. ap (λ n. suc (suc n)) (sym h))
  sized Else a o os h = else_sized a.now a.ctls (suc (length os)) (ap suc (sym h))
  sized End a o os h = end_sized a.now a.ctls os h
  sized (Br l) a o os h =
      s_some (suc (length os)) (slice_get (labels_of rs a.ctls) l) (λ lt. on_some (off lt a.now) (λ k. Some (dead a)))
      (λ lt. s_some (suc (length os)) (off lt a.now) (λ k. Some (dead a)) (λ k. ap suc (sym h)))
  sized (BrIf l) a o os h =
      s_some (suc (length os)) (slice_get (labels_of rs a.ctls) l) (λ lt. on_some (off (I32 ∷ []) a.now) (λ k. on_some (off lt k) (λ j. Some (More (record a { now = put_on lt j })))))
      (λ lt. s_some (suc (length os)) (off (I32 ∷ []) a.now) (λ k. on_some (off lt k) (λ j. Some (More (record a { now = put_on lt j }))))
      (λ k. s_some (suc (length os)) (off lt k) (λ j. Some (More (record a { now = put_on lt j }))) (λ j. ap suc (sym h))))
  sized (BrTable l js) a o os h =
      s_some (suc (length os)) (slice_get (labels_of rs a.ctls) l) (λ lt. on_some (off (I32 ∷ []) a.now) (λ k. on_some (off lt k) (λ j. only (fit_labels (labels_of rs a.ctls) (length lt) k js) (Some (dead a)))))
      (λ lt. s_some (suc (length os)) (off (I32 ∷ []) a.now) (λ k. on_some (off lt k) (λ j. only (fit_labels (labels_of rs a.ctls) (length lt) k js) (Some (dead a))))
      (λ k. s_some (suc (length os)) (off lt k) (λ j. only (fit_labels (labels_of rs a.ctls) (length lt) k js) (Some (dead a)))
      (λ j. s_only (suc (length os)) (fit_labels (labels_of rs a.ctls) (length lt) k js) (Some (dead a)) (ap suc (sym h)))))
  sized Return a o os h = s_some (suc (length os)) (off rs a.now) (λ k. Some (dead a)) (λ k. ap suc (sym h))
  sized (ReturnCall f) a o os h = tail_sized a (suc (length os)) (ap suc (sym h)) (tail_effect m (ReturnCall f))
  sized (ReturnCallIndirect index table) a o os h = tail_sized a (suc (length os)) (ap suc (sym h)) (tail_effect m (ReturnCallIndirect index table))
  sized Drop a o os h = s_some (suc (length os)) (drop_one a.now.vals a.now.loose) (λ k. Some (More (record a { now = k }))) (λ k. ap suc (sym h))
  sized i a o os h = plain_sized a (suc (length os)) (ap suc (sym h)) (effect m ls i)

  more_none : (b : Place) → ◌≡◌ {A = Option Check} None (Some (More b)) → ⊥
  more_none b e = no e

  -- the pass of a closed body doesn't stop inside a block
  goes : (x : Option Check) (os : List Bool) (rest : List Instr) → IsClosed os rest → Sized (length os) x → ((a b : Place) → length os ≡ suc (length a.ctls) → run m ls rs (Some (More a)) rest ≡ Some (More b) → ⊥) → (b : Place) → run m ls rs x rest ≡ Some (More b) → ⊥
  goes None os rest c s ih b e = more_none b (sym (run_none m ls rs rest) ∙ e)
  goes (Some Finished) os [] c s ih b e = let q : Finished ≡ More b = same_Some _ _ e in cc
  goes (Some Finished) os (i ∷ rest) c s ih b e = more_none b (sym (run_none m ls rs rest) ∙ e)
  goes (Some (More a)) os rest c s ih b e = ih a b (sym s) e

  ends : (code : List Instr) (os : List Bool) → IsClosed os code → (a b : Place) → length os ≡ suc (length a.ctls) → run m ls rs (Some (More a)) code ≡ Some (More b) → ⊥
  ends code [] c a b h e = absurd (omega arith)
  ends [] (o ∷ os) c a b h e = c
  ends (i ∷ rest) (o ∷ os) (may, p, c) a b h e =
      goes (check m ls rs i a) (opens_after i (o ∷ os)) rest c (sized i a o os (omega arith)) (λ x y l r. ends rest (opens_after i (o ∷ os)) c x y l r) b e

  -- what the pass comes to: a typing, a fault, or an open block
  data Verdict (code : List Instr) : Type 0 where
    typed : TypedBody m ls rs code → Verdict code
    fails : (p : ℕ) → IsFaultAt m ls rs code p → Verdict code
    stops : (b : Place) → run m ls rs (Some (More outset)) code ≡ Some (More b) → Verdict code

  one_more : (front : List Instr) (i : Instr) (c : Check) → run m ls rs (Some (More outset)) front ≡ Some c → run m ls rs (Some (More outset)) (front ++ i ∷ []) ≡ one m ls rs (Some c) i
  one_more front i c e = run-append m ls rs front (i ∷ []) (Some (More outset)) ∙ ap (λ x. one m ls rs x i) e

  next : (rest front : List Instr) (i : Instr) (c : Check) → run m ls rs (Some (More outset)) front ≡ Some c → ((f : List Instr) (d : Check) → run m ls rs (Some (More outset)) f ≡ Some d → Verdict (f ++ rest)) → (x : Option Check) → one m ls rs (Some c) i ≡ x → Verdict (front ++ i ∷ rest)
  next rest front i c e go None h =
      let here : take (length front) (front ++ i ∷ rest) ≡ front = take-append_seam front (i ∷ rest) in
      let split : (front ++ i ∷ []) ++ rest ≡ front ++ i ∷ rest = append_assoc front (i ∷ []) rest in
      let len : length (front ++ i ∷ []) ≡ length front + 1 = length-append front (i ∷ []) in
      let there : take (length front + 1) (front ++ i ∷ rest) ≡ front ++ i ∷ [] = ap (λ n. take n (front ++ i ∷ rest)) (sym len) ∙ ap (take (length (front ++ i ∷ []))) (sym split) ∙ take-append_seam (front ++ i ∷ []) rest in
      fails (length front) (record {
        within = omega (arith, length-append front (i ∷ rest));
        before = subst (CanGoOn m ls rs) (sym here) (run_viable m ls rs front c e);
        here = λ v. viable_run m ls rs (front ++ i ∷ []) (subst (CanGoOn m ls rs) there v) (one_more front i c e ∙ h);
      })
  next rest front i c e go (Some d) h = subst Verdict (append_assoc front (i ∷ []) rest) (go (front ++ i ∷ []) d (one_more front i c e ∙ h))

  walk : (rest front : List Instr) (c : Check) → run m ls rs (Some (More outset)) front ≡ Some c → Verdict (front ++ rest)
  walk [] front Finished e = subst Verdict (sym (append-nil front)) (typed (run_typed m ls rs front e))
  walk [] front (More b) e = subst Verdict (sym (append-nil front)) (stops b e)
  walk (i ∷ rest) front c e = next rest front i c e (λ f d h. walk rest f d h) (one m ls rs (Some c) i) refl

  judged : (code : List Instr) → IsClosed (false ∷ []) code → Verdict code → TypedBody m ls rs code ⊎ ((p : ℕ) × IsFaultAt m ls rs code p)
  judged code c (typed t) = inl t
  judged code c (fails p h) = inr (p, h)
  judged code c (stops b e) = absurd (ends code (false ∷ []) c outset b refl e)

pub bodies_are_judged : BodiesAreJudged
bodies_are_judged m ls rs code c = judged m ls rs code c (walk m ls rs code [] (More outset) refl)
