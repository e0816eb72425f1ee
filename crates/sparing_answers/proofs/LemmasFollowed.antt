-- An evaluation over lemmas is followed after erasure, in no more nodes: what a lemma erases to is box, since no program keeps a constant without a body.
use Rattle.std.proofs.Common.{◌≡◌, ℕ, suc, ◌+◌, ◌≤◌, [], Option, Some, None, ◌⊎◌, inl, inr, refl, sym, ap, subst, arith}
use Rattle.pc_terms.specs.declared.leaf.Name.{Name}
use Rattle.pc_terms.specs.Syntax.{Term, Rel, Lambda, App, put, substitute, terms_of}
use Rattle.box_terms.specs.BoxSyntax.{BoxTerm, Box, BApp}
use Rattle.calculus_rules.specs.declared.declaration.Kept.{Kept}
use Rattle.calculus_rules.specs.declared.declaration.Kept.TheVariants.{Constant}
use Rattle.calculus_rules.specs.Environment.{Env, KeepsConstant}
use Rattle.calculus_rules.specs.Elimination.{MayErase}
use Rattle.calculus_rules.specs.Erasable.{Erasable}
use Rattle.calculus_rules.specs.Evaluation.{lambda_is, construct_is, fix_is}
use Rattle.calculus_rules.specs.Typing.{bare, Types, TypesAll}
use Rattle.calculus_rules.specs.Accepted.{IsAccepted}
use Rattle.calculus_rules.proofs.Listing.{same_list}
use Rattle.calculus_rules.proofs.OneEach.{one_declaration}
use Rattle.lambda_box.specs.BoxProgram.{BoxProgram, NamesOnly}
use Rattle.lambda_box.specs.BoxEvaluation as after
use Rattle.lambda_box.specs.BoxEvaluation.{BoxEvaluates, box_app, BoxTakesMore, BoxUnfolds}
use Rattle.lambda_box.proofs.Naming.{named_put, named_unfolds}
use Rattle.typing_laws.proofs.Generating.{of_app, of_let_in, of_case}
use Rattle.type_laws.specs.Contexts.{IsContext}
use Rattle.type_laws.proofs.EvaluationKeeps.{let_contracts, application_kept, beta_contracts, unfolding_keeps, unfold_contracts, match_kept, enter_contracts}
use Rattle.type_laws.proofs.Lawful.{arguments_fit}
use Rattle.type_laws.proofs.RootsKeep.{fits_assumed, beta_keeps, beta_argument, constant_keeps}
use Rattle.type_laws.proofs.Solid.{families_stay, erasable_kept}
use Rattle.erase_laws.specs.Erases.{Erases, box, rel, lambda, app, const, construct, case, fix}
use Rattle.erase_laws.proofs.ErasedRedexes.{extended, unfolds_erased, entered}
use Rattle.erase_laws.proofs.ErasedSpines.{Settled, of_box, value_settled}
use Rattle.erase_laws.proofs.ErasingSubstituted.{put_erases}
use Rattle.erase_laws.proofs.Following.{Follows, at_value as itself}
use Rattle.sparing_laws.specs.LemmaEvaluation.{IsLemma, without_body, among_proofs, IsAppliedLemma, alone, applied, EvaluatesOverLemmas, value, lemma_is, let_in, beta, extend, lemma_takes, unfold_fix, enter}
use Rattle.sparing_laws.proofs.Evidence.{application_erasable}
use Rattle.sparing_laws.proofs.LemmaKeeping.{lemmas_keep, some_nodes}
use Rattle.sparing_laws.proofs.LemmaValues.{lemma_erasable}
use Rattle.sparing_answers.proofs.Following.{Together, fits_kept}

-- a lemma erases to box

body_in : Kept → Option Term
body_in (Constant k T b) = b
body_in _ = None

no_body : {E : Env} → IsAccepted E → {k : Name} {T U b : Term} → KeepsConstant E k T None → KeepsConstant E k U (Some b) → ⊥
unfolding body_in
no_body h {b = b} p q = let e : None ≡ Some b = ap body_in (one_declaration h.declarations p q refl) in cc

lemma_boxed : {E : Env} {P : BoxProgram} → Together E P → {v : Term} {w : BoxTerm} → IsLemma E v → Erases E [] v w → NamesOnly P.constants w → w ≡ Box
lemma_boxed K l (box p) g = refl
lemma_boxed K l rel g = elim l [ ]
lemma_boxed K l (lambda p) g = elim l [ ]
lemma_boxed K l (Erases.let_in p q) g = elim l [ ]
lemma_boxed K l (app p q) g = elim l [ ]
lemma_boxed K l (construct k e) g = elim l [ ]
lemma_boxed K l (fix Ts q) g = elim l [ ]
lemma_boxed K (without_body {k = k} kept e) const g =
    let (b', has) = g.0 in
    let (U, b, c, p) = K.serves.bodies k b' has in
    absurd (no_body K.accepted kept c)
lemma_boxed {E} K (among_proofs {f = f} {F = F} kept n e) (case {F = G} ps kept' may l q bodies) g = absurd (n (subst (λ F. MayErase E f F) (K.ready.one_each.families f G F kept' kept) may))

-- and so does one with its arguments, where box is never applied in what it erases to
applied_boxed : {E : Env} {P : BoxProgram} → Together E P → {v : Term} {w : BoxTerm} → IsAppliedLemma E v → Erases E [] v w → Settled w → NamesOnly P.constants w → w ≡ Box
applied_boxed K (alone l) p s g = lemma_boxed K l p g
applied_boxed K (applied a) (box p) s g = refl
applied_boxed K (applied a) (app p q) s g = absurd (s.0 (applied_boxed K a p s.1 g.1.0))

-- what is followed to box, to a value, and to an application whose function is followed to box

boxed : {E : Env} {P : BoxProgram} {v : Term} {n : ℕ} → 1 ≤ n → Erasable E [] v → Follows E P v Box n
boxed le p = record { nodes = 1; matches = 0; result = Box; fewer = le; runs = after.value after.box_is; erased = box p; named = (tt, tt) }

boxed_function : {E : Env} {P : BoxProgram} {f' a' : BoxTerm} {g u v : Term} {n m j : ℕ} (r : Follows E P g f' n) (s : Follows E P u a' m) → suc (n + m) ≤ j → r.result ≡ Box →
    (Erasable E [] g → Erasable E [] v) → Follows E P v (BApp f' a') j
boxed_function {E} {P} {f'} {g = g} r s le e passes =
    let l = r.fewer in
    let l' = s.fewer in
    record {
      nodes = suc (r.nodes + s.nodes);
      matches = r.matches + s.matches;
      result = Box;
      fewer = omega (arith, l, l', le);
      runs = box_app (subst (λ x. BoxEvaluates P f' x r.nodes r.matches) e r.runs) s.runs;
      erased = box (passes (of_box (subst (λ x. Erases E [] g x) e r.erased)));
      named = (tt, tt);
    }

-- what a contractum is followed by
abbrev Continues : Env → BoxProgram → Term → Term → ℕ → Type 0
Continues E P u v k = (x : BoxTerm) → Erases E [] u x → NamesOnly P.constants x → Follows E P v x k

-- an application that goes on with a contractum
goes_on : {E : Env} {P : BoxProgram} {f' a' x : BoxTerm} {g u v : Term} {n m k : ℕ} (r : Follows E P g f' n) (s : Follows E P u a' m) (last : Follows E P v x k) →
    BoxEvaluates P (BApp f' a') last.result (suc (r.nodes + s.nodes + last.nodes)) (r.matches + s.matches + last.matches) → Follows E P v (BApp f' a') (suc (n + m + k))
goes_on r s last runs =
    let l = r.fewer in
    let l' = s.fewer in
    let l'' = last.fewer in
    record {
      nodes = suc (r.nodes + s.nodes + last.nodes);
      matches = r.matches + s.matches + last.matches;
      result = last.result;
      fewer = omega arith;
      runs = runs;
      erased = last.erased;
      named = last.named;
    }

beta_followed : {E : Env} {P : BoxProgram} → Together E P → {A b u v : Term} {f' a' : BoxTerm} {n m k : ℕ} (r : Follows E P (Lambda A b) f' n) → Follows E P u a' m → (x : BoxTerm) → r.result ≡ x →
    Erases E [] (Lambda A b) x → NamesOnly P.constants x → Types bare E [] u A → (Erasable E [] (Lambda A b) → Erasable E [] v) → Continues E P (substitute (put u) b) v k →
    Follows E P v (BApp f' a') (suc (n + m + k))
beta_followed K r s x e (box p) names typed passes next = boxed_function r s (omega arith) e passes
beta_followed {P = P} K {f' = f'} r s x e (lambda {b' = b'} p) names typed passes next =
    let last = next (substitute (put s.result) b') (put_erases K.ready.closed (fits_assumed typed) s.erased p) (named_put P b' s.result names.1.0 s.named) in
    goes_on r s last (after.beta (subst (λ x. BoxEvaluates P f' x r.nodes r.matches) e r.runs) s.runs last.runs)

extend_followed : {E : Env} {P : BoxProgram} {g u : Term} {f' a' : BoxTerm} {n m : ℕ} (r : Follows E P g f' n) → Follows E P u a' m → (r.result ≡ Box) ⊎ BoxTakesMore P r.result →
    (Erasable E [] g → Erasable E [] (App g u)) → Follows E P (App g u) (BApp f' a') (suc (n + m))
extend_followed r s (inl e) passes = boxed_function r s (omega arith) e passes
extend_followed r s (inr takes) passes =
    let l = r.fewer in
    let l' = s.fewer in
    record {
      nodes = suc (r.nodes + s.nodes);
      matches = r.matches + s.matches;
      result = BApp r.result s.result;
      fewer = omega arith;
      runs = after.extend r.runs s.runs takes;
      erased = app r.erased s.erased;
      named = (tt, (r.named, (s.named, tt)));
    }

unfold_followed : {E : Env} {P : BoxProgram} {g u x v : Term} {f' a' : BoxTerm} {n m k : ℕ} (r : Follows E P g f' n) (s : Follows E P u a' m) →
    (r.result ≡ Box) ⊎ ((x' : BoxTerm) × BoxUnfolds r.result s.result x' × Erases E [] x x') → (Erasable E [] g → Erasable E [] v) → Continues E P x v k →
    Follows E P v (BApp f' a') (suc (n + m + k))
unfold_followed r s (inl e) passes next = boxed_function r s (omega arith) e passes
unfold_followed {P = P} r s (inr (x', turns, p)) passes next =
    let last = next x' p (named_unfolds P turns r.named s.named) in
    goes_on r s last (after.unfold_fix r.runs s.runs turns last.runs)

pub lemmas_followed : {E : Env} {P : BoxProgram} → Together E P → {t v : Term} {n : ℕ} → EvaluatesOverLemmas E t v n → {T : Term} → Types bare E [] t T → (t' : BoxTerm) → Erases E [] t t' →
    NamesOnly P.constants t' → Follows E P v t' n
lemmas_followed {E} K {t} {v} e {T} d t' (box p) g = boxed (some_nodes e) (erasable_kept E K.accepted t v T d (λ U q. (lemmas_keep E K.accepted e U q).typed) p)
-- values and lemmas
lemmas_followed K (value lambda_is) d t' (lambda p) g = itself after.lambda_is (lambda p) g
lemmas_followed K (value construct_is) d t' (construct k e) g = itself after.construct_is (construct k e) g
lemmas_followed K (value fix_is) d t' (fix Ts q) g = itself after.fix_is (fix Ts q) g
lemmas_followed K (value i) d t' rel g = elim i [ ]
lemmas_followed K (value i) d t' (Erases.let_in p q) g = elim i [ ]
lemmas_followed K (value i) d t' (app p q) g = elim i [ ]
lemmas_followed K (value i) d t' const g = elim i [ ]
lemmas_followed K (value i) d t' (case ps kept may l q bodies) g = elim i [ ]
lemmas_followed {E} {P} K {v = v} (lemma_is l) d t' p g = subst (λ t'. Follows E P v t' 1) (sym (lemma_boxed K l p g)) (boxed (omega arith) (lemma_erasable l))
-- constants and lets
lemmas_followed {E} K (EvaluatesOverLemmas.constant {k = k} {T = U} {b = b} c e) {T} d t' const g =
    let (b', has) = g.0 in
    let (T', b₁, c', p) = K.serves.bodies k b' has in
    let r = lemmas_followed K e (constant_keeps E K.accepted [] k U b T IsContext.empty c d) b' (subst (λ b. Erases E [] b b') (K.ready.one_each.bodies k T' U b₁ b c' c) p) (K.serves.named k b' has) in
    let l = r.fewer in
    record { nodes = suc r.nodes; matches = r.matches; result = r.result; fewer = omega arith; runs = after.constant has r.runs; erased = r.erased; named = r.named }
lemmas_followed {E} {P} K (let_in {b = b} {B = B} {t = body} {v = u} e e') {T} d t' (Erases.let_in {t' = u'} p q) g =
    let h = K.accepted in
    let k = lemmas_keep E h e in
    let kept = k B (of_let_in d).value in
    let r = lemmas_followed K e (of_let_in d).value _ p g.1.0 in
    let s = lemmas_followed K e' (let_contracts E h b B body u k T d) (substitute (put r.result) u') (put_erases K.ready.closed (fits_kept kept.typed kept.equals) r.erased q) (named_put P u' r.result g.1.1.0 r.named) in
    let l = r.fewer in
    let l' = s.fewer in
    record {
      nodes = suc (r.nodes + s.nodes);
      matches = r.matches + s.matches;
      result = s.result;
      fewer = omega arith;
      runs = after.let_in r.runs s.runs;
      erased = s.erased;
      named = s.named;
    }
-- applications
lemmas_followed {E} K (beta {f = f} {a = a} {A = A} {b = b} {v = u} {w = v} e e' e'') {T} d t' (app {f' = f'} {a' = a'} p q) g =
    let h = K.accepted in
    let typed = (application_kept E h f a (Lambda A b) u (lemmas_keep E h e) (lemmas_keep E h e') T d).typed in
    let r = lemmas_followed K e (of_app d).function f' p g.1.0 in
    let s = lemmas_followed K e' (of_app d).argument a' q g.1.1.0 in
    beta_followed K r s r.result refl r.erased r.named (beta_argument E h [] A b u T IsContext.empty typed)
    (application_erasable E h (Lambda A b) u v T typed (λ U z. (lemmas_keep E h e'' U (beta_keeps E h [] A b u U IsContext.empty z)).typed))
    (λ x z names. lemmas_followed K e'' (beta_contracts E h f a A b u (lemmas_keep E h e) (lemmas_keep E h e') T d) x z names)
lemmas_followed {E} K (extend {f = f} {a = a} {g = fn} {v = u} e e' more) {T} d t' (app {f' = f'} {a' = a'} p q) g =
    let h = K.accepted in
    let typed = (application_kept E h f a fn u (lemmas_keep E h e) (lemmas_keep E h e') T d).typed in
    let r = lemmas_followed K e (of_app d).function f' p g.1.0 in
    let s = lemmas_followed K e' (of_app d).argument a' q g.1.1.0 in
    extend_followed r s (extended K.serves more r.erased (value_settled r.runs)) (application_erasable E h fn u (App fn u) T typed (λ U z. z))
lemmas_followed {E} K (lemma_takes {f = f} {a = a} {g = fn} {v = u} e e' taken) {T} d t' (app {f' = f'} {a' = a'} p q) g =
    let h = K.accepted in
    let typed = (application_kept E h f a fn u (lemmas_keep E h e) (lemmas_keep E h e') T d).typed in
    let r = lemmas_followed K e (of_app d).function f' p g.1.0 in
    let s = lemmas_followed K e' (of_app d).argument a' q g.1.1.0 in
    boxed_function r s (omega arith) (applied_boxed K taken r.erased (value_settled r.runs) r.named) (application_erasable E h fn u (App fn u) T typed (λ U z. z))
lemmas_followed {E} K (unfold_fix {f = f} {a = a} {g = fn} {v = u} {u = x} {w = v} e e' turns built e'') {T} d t' (app {f' = f'} {a' = a'} p q) g =
    let h = K.accepted in
    let typed = (application_kept E h f a fn u (lemmas_keep E h e) (lemmas_keep E h e') T d).typed in
    let r = lemmas_followed K e (of_app d).function f' p g.1.0 in
    let s = lemmas_followed K e' (of_app d).argument a' q g.1.1.0 in
    unfold_followed r s (unfolds_erased K.ready.closed turns (lemmas_keep E h e _ (of_app d).function).typed r.erased (value_settled r.runs) s.erased)
    (application_erasable E h fn u v T typed (λ U z. (lemmas_keep E h e'' U (unfolding_keeps E h fn u x turns U z)).typed))
    (λ y z names. lemmas_followed K e'' (unfold_contracts E h f a fn u x (lemmas_keep E h e) (lemmas_keep E h e') turns T d) y z names)
-- matches
lemmas_followed {E} K (enter {f = f} {bs = bs} {p = m} {c = c} {ret = ret} {s = s} {v = u} {body = body} {qs = qs} {xs = xs} e con b e') {T} d t' (case {F = F} {s' = s'} ps kept may l q bodies) g =
    let h = K.accepted in
    let o = of_case d in
    let k = lemmas_keep E h e in
    let r = lemmas_followed K e o.scrutinee s' q g.1.0 in
    let next = entered K.ready K.serves kept may con
    (arguments_fit E h f (terms_of ps) bs m c ret u T qs xs con (match_kept E h f (terms_of ps) bs m ret s u k T d).typed)
    (λ F keeps not_prop. families_stay E h f F c u qs xs _ keeps not_prop con (k _ o.scrutinee).typed)
    (subst (λ F. TypesAll bare E [] Rel ps F.parameters) (K.ready.one_each.families f o.family F o.kept kept)
    (subst (λ qs. TypesAll bare E [] Rel qs o.family.parameters) (sym (same_list ps o.parameters o.are)) o.fit)) b bodies r.runs r.erased (value_settled r.runs) g.1.1.0 r.named in
    let last = lemmas_followed K e' (enter_contracts E h f (terms_of ps) bs m c ret s u body qs xs k con b T d) next.erased next.erases next.named in
    let l = r.fewer in
    let l' = last.fewer in
    record {
      nodes = suc (r.nodes + last.nodes);
      matches = suc (r.matches + last.matches);
      result = last.result;
      fewer = omega arith;
      runs = next.run last.result last.nodes last.matches last.runs;
      erased = last.erased;
      named = last.named;
    }
