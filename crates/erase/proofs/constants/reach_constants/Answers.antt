use Rattle.std.proofs.Common.{arith, ◌≡◌, ◌∙◌, ◌-◌, ◌||◌, ap, sym, subst, true, false, [], ◌∷◌, ◌++◌, length, Some, None, Ok, Err}
use Rattle.std.proofs.lemmas.Result.{err_from_is_err_and}
use Rattle.calculus_rules.specs.declared.declaration.Kept.{Kept}
use Rattle.calculus_rules.specs.declared.declaration.Kept.TheVariants.{Constant}
use Rattle.pc_rules.specs.declared.broken.Place.TheVariants.{Declaration as AtDeclaration}
use Rattle.pc_rules.specs.Entailment.{test_of}
use Rattle.calculus_rules.specs.Environment.{Has, here, there}
use Rattle.pc_rules.specs.DirectedTyping.{infer}
use Rattle.erase_rules.specs.DirectedErasure.{erased}
use Rattle.erase_rules.specs.DirectedProgram.{names_constant, is_reached, erased_constants}
use Rattle.erase.specs.AtPlaces.{FollowsAt}
use Rattle.erase.specs.HaltPlaces.{IsAtBody, now, passed}
use Rattle.erase.proofs.PlacedRuns.{at_done, at_halted_by, no_room_by}
use Rattle.erase.proofs.ConstantRuns.{onto, onto_more, after_met, constant_met, axiom_met, after_constant, after_axiom, after_all, nothing_met, walk_ends, walk_passes_block, walk_passes, walk_meets_axiom, body_halts, body_goes}
use Rattle.erase.proofs.HaltRuns.{none_by, halts_in, no_constant_passed, unreached_passed, axiom_passed, comes_later}
use Rattle.erase.proofs.constants.reach_constants.Goals as goal

pub loop-kept-preserved-in_default-kept : goal.loop-kept-preserved-in_default-kept
loop-kept-preserved-in_default-kept g c =
    let E = c.args.env.now in
    let inf = infer E (test_of E) c.args.room in
    let ts = onto c.loop-kept.constants.items (c.args.main.now ∷ []) in
    let w : c.loop-kept.walk ≡ c.in-Some.kept.now ∷ c.next.new.self = c.in-Some.ensures.next in
    let l : c.loop-kept.place ≡ length (c.in-Some.kept.now ∷ c.next.new.self) = c.loop-kept.invariant.place ∙ ap length w in
    record {
      rest = λ r n f. c.loop-kept.invariant.rest r n
          (subst (λ ds. FollowsAt (erased_constants E inf ts ds c.loop-kept.m.account) r c.loop-kept.m n) (sym w)
          (walk_passes_block E inf ts c.in-Some.kept.now c.next.new.self r c.loop-kept.m n c.in_default-kept.not-Constant f));
      comes = λ p d a. c.loop-kept.invariant.comes p d
          (subst (λ ds. IsAtBody E inf ts ds c.loop-kept.m.account p d) (sym w) (passed (no_constant_passed ts c.in-Some.kept.now c.in_default-kept.not-Constant) a));
      has = c.loop-kept.invariant.has;
      declared = λ d m. c.loop-kept.invariant.declared d (subst (λ ds. Has ds d) (sym w) (there m));
      place = omega (arith, l);
      nest = c.loop-kept.invariant.nest;
    }

pub loop-kept-preserved-then-not-contains : goal.loop-kept-preserved-then-not-contains
loop-kept-preserved-then-not-contains g c =
    let E = c.args.env.now in
    let inf = infer E (test_of E) c.args.room in
    let ts = onto c.loop-kept.constants.items (c.args.main.now ∷ []) in
    let k = c.in-Constant.name in
    let w : c.loop-kept.walk ≡ Constant k c.in-Constant.ty c.in-Constant.body ∷ c.next.new.self = c.in-Some.ensures.next ∙ ap (λ d. d ∷ c.next.new.self) c.in-Constant.is in
    let l : c.loop-kept.place ≡ length (Constant k c.in-Constant.ty c.in-Constant.body ∷ c.next.new.self) = c.loop-kept.invariant.place ∙ ap length w in
    let is : is_reached k ts ≡ false = sym (c.loop-kept.invariant.has k.0) ∙ sym c.contains.ensures ∙ c.if-not-contains.true in
    record {
      rest = λ r n f. c.loop-kept.invariant.rest r n
          (subst (λ ds. FollowsAt (erased_constants E inf ts ds c.loop-kept.m.account) r c.loop-kept.m n) (sym w)
          (walk_passes E inf ts k c.in-Constant.ty c.in-Constant.body c.next.new.self r c.loop-kept.m n is f));
      comes = λ p d a. c.loop-kept.invariant.comes p d
          (subst (λ ds. IsAtBody E inf ts ds c.loop-kept.m.account p d) (sym w) (passed (unreached_passed ts k c.in-Constant.ty c.in-Constant.body is) a));
      has = c.loop-kept.invariant.has;
      declared = λ d m. c.loop-kept.invariant.declared d (subst (λ ds. Has ds d) (sym w) (there m));
      place = omega (arith, l);
      nest = c.loop-kept.invariant.nest;
    }

pub loop-kept-preserved-in_default-body : goal.loop-kept-preserved-in_default-body
loop-kept-preserved-in_default-body g c =
    let E = c.args.env.now in
    let inf = infer E (test_of E) c.args.room in
    let cs = c.loop-kept.constants.items in
    let ts = onto cs (c.args.main.now ∷ []) in
    let k = c.in-Constant.name in
    let T = c.in-Constant.ty in
    let no : c.in-Constant.body ≡ None = none_by c.in-Constant.body c.in_default-body.not-Some in
    let w : c.loop-kept.walk ≡ Constant k T None ∷ c.next.new.self =
    c.in-Some.ensures.next ∙ ap (λ d. d ∷ c.next.new.self) c.in-Constant.is ∙ ap (λ o. Constant k T o ∷ c.next.new.self) no in
    let l : c.loop-kept.place ≡ length (Constant k T None ∷ c.next.new.self) = c.loop-kept.invariant.place ∙ ap length w in
    let is : is_reached k ts ≡ true = sym (c.loop-kept.invariant.has k.0) ∙ sym c.contains.ensures ∙ c.if-not-contains.false in
    record {
      rest = λ r n f.
          subst (λ x. FollowsAt (erased_constants E inf (c.args.main.now ∷ []) E.declarations c.args.m.now.account) x c.args.m.now n) (after_axiom cs c.loop-kept.without_body k r)
          (c.loop-kept.invariant.rest (axiom_met k r) n
          (subst (λ ds. FollowsAt (erased_constants E inf ts ds c.loop-kept.m.account) (axiom_met k r) c.loop-kept.m n) (sym w)
          (walk_meets_axiom E inf ts k T c.next.new.self r c.loop-kept.m n is f)));
      comes = λ p d a. c.loop-kept.invariant.comes p d
          (subst (λ ds. IsAtBody E inf ts ds c.loop-kept.m.account p d) (sym w) (passed (axiom_passed ts k T) a));
      has = c.loop-kept.invariant.has;
      declared = λ d m. c.loop-kept.invariant.declared d (subst (λ ds. Has ds d) (sym w) (there m));
      place = omega (arith, l);
      nest = c.loop-kept.invariant.nest;
    }

pub erased_at-requires-clause-counted : goal.erased_at-requires-clause-counted
erased_at-requires-clause-counted g c =
    let k = c.in-Constant.name in
    let T = c.in-Constant.ty in
    let w : c.loop-kept.walk ≡ Constant k T (Some c.in-Some-body.body) ∷ c.next.new.self =
    c.in-Some.ensures.next ∙ ap (λ d. d ∷ c.next.new.self) c.in-Constant.is ∙ ap (λ o. Constant k T o ∷ c.next.new.self) c.in-Some-body.is in
    let d : Kept = Constant k T (Some c.in-Some-body.body) in
    (c.requires.env.declarations d (c.loop-kept.invariant.declared d (subst (λ ds. Has ds d) (sym w) here))).1

pub returns-in_err-body-clause-follows : goal.returns-in_err-body-clause-follows
returns-in_err-body-clause-follows g c =
    let E = c.args.env.now in
    let inf = infer E (test_of E) c.args.room in
    let ts = onto c.loop-kept.constants.items (c.args.main.now ∷ []) in
    let k = c.in-Constant.name in
    let T = c.in-Constant.ty in
    let b = c.in-Some-body.body in
    let w : c.loop-kept.walk ≡ Constant k T (Some b) ∷ c.next.new.self =
    c.in-Some.ensures.next ∙ ap (λ d. d ∷ c.next.new.self) c.in-Constant.is ∙ ap (λ o. Constant k T o ∷ c.next.new.self) c.in-Some-body.is in
    let l : c.loop-kept.place ≡ length (Constant k T (Some b) ∷ c.next.new.self) = c.loop-kept.invariant.place ∙ ap length w in
    let before : c.loop-kept.place - 1 ≡ length c.next.new.self = omega (arith, l) in
    let is : is_reached k ts ≡ true = sym (c.loop-kept.invariant.has k.0) ∙ sym c.contains.ensures ∙ c.if-not-contains.false in
    let p = err_from_is_err_and c.from_residual.result c.from_residual.ensures.1 in
    let x = c.in_err-body.field-0.0 in
    rw (p.1, p.2)
    (c.loop-kept.invariant.rest (Err x) c.erased_at.new.m
    (subst (λ ds. FollowsAt (erased_constants E inf ts ds c.loop-kept.m.account) (Err x) c.loop-kept.m c.erased_at.new.m) (sym w)
    (body_halts E inf ts k T b c.next.new.self is x c.loop-kept.m c.erased_at.new.m
    (at_halted_by (AtDeclaration (length c.next.new.self)) (erased E inf [] b c.loop-kept.m.account) x c.loop-kept.m c.erased_at.new.m (c.in_err-body.ensures.place ∙ ap AtDeclaration before)
    c.in_err-body.ensures.follows))))

pub returns-in_err-body-clause-halted : goal.returns-in_err-body-clause-halted
returns-in_err-body-clause-halted g c =
    let E = c.args.env.now in
    let inf = infer E (test_of E) c.args.room in
    let ts = onto c.loop-kept.constants.items (c.args.main.now ∷ []) in
    let k = c.in-Constant.name in
    let T = c.in-Constant.ty in
    let b = c.in-Some-body.body in
    let w : c.loop-kept.walk ≡ Constant k T (Some b) ∷ c.next.new.self =
    c.in-Some.ensures.next ∙ ap (λ d. d ∷ c.next.new.self) c.in-Constant.is ∙ ap (λ o. Constant k T o ∷ c.next.new.self) c.in-Some-body.is in
    let l : c.loop-kept.place ≡ length (Constant k T (Some b) ∷ c.next.new.self) = c.loop-kept.invariant.place ∙ ap length w in
    let before : c.loop-kept.place - 1 ≡ length c.next.new.self = omega (arith, l) in
    let is : is_reached k ts ≡ true = sym (c.loop-kept.invariant.has k.0) ∙ sym c.contains.ensures ∙ c.if-not-contains.false in
    let p = err_from_is_err_and c.from_residual.result c.from_residual.ensures.1 in
    let x = c.in_err-body.field-0.0 in
    let run = erased E inf [] b c.loop-kept.m.account in
    let at : IsAtBody E inf ts c.loop-kept.walk c.loop-kept.m.account x.place run =
    subst (λ q. IsAtBody E inf ts c.loop-kept.walk c.loop-kept.m.account q run) (sym (c.in_err-body.ensures.place ∙ ap AtDeclaration before))
    (subst (λ ds. IsAtBody E inf ts ds c.loop-kept.m.account (AtDeclaration (length c.next.new.self)) run) (sym w) (now is)) in
    rw (p.1, p.2)
    (halts_in (λ q d. IsAtBody E inf (c.args.main.now ∷ []) E.declarations c.args.m.now.account q d) x.place x.halt c.erased_at.new.m.account run (c.loop-kept.invariant.comes x.place run at)
    c.in_err-body.ensures.follows.answer)

pub returns-in_default-add_names-2-clause-follows : goal.returns-in_default-add_names-2-clause-follows
returns-in_default-add_names-2-clause-follows g c =
    let E = c.args.env.now in
    let inf = infer E (test_of E) c.args.room in
    let ts = onto c.loop-kept.constants.items (c.args.main.now ∷ []) in
    let x = c.no_memory-in_default-add_names-2.result in
    c.loop-kept.invariant.rest (Err x) c.erased_at.new.m
    (no_room_by (erased_constants E inf ts c.loop-kept.walk c.loop-kept.m.account) x c.loop-kept.m c.erased_at.new.m c.no_memory-in_default-add_names-2.ensures.memory
    c.in_ok-body.ensures.follows.after)

pub returns-in_default-push-clause-follows : goal.returns-in_default-push-clause-follows
returns-in_default-push-clause-follows g c =
    let E = c.args.env.now in
    let inf = infer E (test_of E) c.args.room in
    let ts = onto c.loop-kept.constants.items (c.args.main.now ∷ []) in
    let x = c.no_memory-in_default-push.result in
    c.loop-kept.invariant.rest (Err x) c.erased_at.new.m
    (no_room_by (erased_constants E inf ts c.loop-kept.walk c.loop-kept.m.account) x c.loop-kept.m c.erased_at.new.m c.no_memory-in_default-push.ensures.memory c.in_ok-body.ensures.follows.after)

pub loop-kept-preserved : goal.loop-kept-preserved
loop-kept-preserved g c =
    let E = c.args.env.now in
    let inf = infer E (test_of E) c.args.room in
    let cs = c.loop-kept.constants.items in
    let ts = onto cs (c.args.main.now ∷ []) in
    let k = c.in-Constant.name in
    let T = c.in-Constant.ty in
    let b = c.in-Some-body.body in
    let b' = c.in_ok-body.body in
    let new = c.next.new.self in
    let m0 = c.loop-kept.m in
    let m1 = c.erased_at.new.m in
    let w : c.loop-kept.walk ≡ Constant k T (Some b) ∷ new =
    c.in-Some.ensures.next ∙ ap (λ d. d ∷ new) c.in-Constant.is ∙ ap (λ o. Constant k T o ∷ new) c.in-Some-body.is in
    let l : c.loop-kept.place ≡ length (Constant k T (Some b) ∷ new) = c.loop-kept.invariant.place ∙ ap length w in
    let is : is_reached k ts ≡ true = sym (c.loop-kept.invariant.has k.0) ∙ sym c.contains.ensures ∙ c.if-not-contains.false in
    let pushed : c.push.new.self.items ≡ cs ++ (record { name = k; body = b' } ∷ []) = c.in-Ok-push.ensures.items in
    let ons : onto c.push.new.self.items (c.args.main.now ∷ []) ≡ b' ∷ ts =
    ap (λ xs. onto xs (c.args.main.now ∷ [])) pushed ∙ onto_more cs (record { name = k; body = b' }) (c.args.main.now ∷ []) in
    let f0 = c.in_ok-body.ensures.follows in
    record {
      rest = λ r n f.
          let f' = subst (λ xs. FollowsAt (erased_constants E inf xs new m1.account) r m1 n) ons f in
          let goes = body_goes E inf ts k T b new is b' r m0 m1 n (at_done (AtDeclaration (length new)) (erased E inf [] b m0.account) b' m0 m1 f0) f' in
          let all = c.loop-kept.invariant.rest (constant_met k b' r) n (subst (λ ds. FollowsAt (erased_constants E inf ts ds m0.account) (constant_met k b' r) m0 n) (sym w) goes) in
          subst (λ xs. FollowsAt (erased_constants E inf (c.args.main.now ∷ []) E.declarations c.args.m.now.account) (after_met xs c.loop-kept.without_body r) c.args.m.now n) (sym pushed)
          (subst (λ x. FollowsAt (erased_constants E inf (c.args.main.now ∷ []) E.declarations c.args.m.now.account) x c.args.m.now n) (after_constant cs c.loop-kept.without_body k b' r) all);
      comes = λ p d a.
          c.loop-kept.invariant.comes p d
          (subst (λ ds. IsAtBody E inf ts ds m0.account p d) (sym w)
          (comes_later E inf cs c.args.main.now k T b b' new m0.account m1.account p d is f0.answer (subst (λ xs. IsAtBody E inf (onto xs (c.args.main.now ∷ [])) new m1.account p d) pushed a)));
      has = λ q. c.in-Ok-add_names-2.ensures.ok q ∙ ap (λ s. names_constant (record { 0 = q }) b' || s) (c.loop-kept.invariant.has q) ∙ sym (ap (λ xs. is_reached (record { 0 = q }) xs) ons);
      declared = λ d m. c.loop-kept.invariant.declared d (subst (λ ds. Has ds d) (sym w) (there m));
      place = omega (arith, l);
      nest = f0.after.nest ∙ c.loop-kept.invariant.nest;
    }

pub returns-clause-follows : goal.returns-clause-follows
returns-clause-follows g c =
    let E = c.args.env.now in
    let inf = infer E (test_of E) c.args.room in
    let cs = c.loop-kept.constants.items in
    let ts = onto cs (c.args.main.now ∷ []) in
    let m = c.loop-kept.m in
    let w : c.loop-kept.walk ≡ [] = c.in_default-next.ensures.next.0 in
    subst (λ r. FollowsAt (erased_constants E inf (c.args.main.now ∷ []) E.declarations c.args.m.now.account) r c.args.m.now m) (after_all cs c.loop-kept.without_body)
    (c.loop-kept.invariant.rest (Ok nothing_met) m (subst (λ ds. FollowsAt (erased_constants E inf ts ds m.account) (Ok nothing_met) m m) (sym w) (walk_ends E inf ts m)))
