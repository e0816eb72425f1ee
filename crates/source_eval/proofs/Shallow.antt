-- A run of the directed evaluation passes no limit, where what the evaluation makes is within them.
use Rattle.std.proofs.Common.{◌≡◌, ℕ, suc, ◌+◌, ◌-◌, ◌^◌, ◌||◌, false, if◌then◌else◌, nat_lt, Option, Some, refl, sym, ap, ◌∙◌, subst as along, arith}
use Rattle.std.proofs.lemmas.Bool.{le-ltb}
use Rattle.trees.specs.Measures.{depth, above, depth_limit, IsWithin}
use Rattle.pc_terms.specs.Syntax.{Term, Rel, Lambda, App, put, put_all, substitute, head, args}
use Rattle.pc_rules.specs.declared.meter.Account.{Account}
use Rattle.calculus_rules.specs.Environment.{Env}
use Rattle.calculus_rules.specs.Accepted.{IsAccepted}
use Rattle.calculus_rules.specs.Evaluation.{IsValue, sort_is, prod_is, lambda_is, ind_is, construct_is, fix_is, TakesMore, Unfolds, Evaluates, value, constant, let_in, beta, extend, unfold_fix, enter}
use Rattle.pc_rules.specs.DirectedRun.{Run, done, made, make, bind, is_beyond, ticked}
use Rattle.calculus_rules.specs.Lookups.{kept_at, body_of}
use Rattle.pc_rules.specs.DirectedWeakHead.{built, branch_of}
use Rattle.pc_rules.specs.DirectedEvaluation.{Evaluated, Value, on_value, with_value, contracted, contracts, unfolding_at, extended, applied, node, evaluation}
use Rattle.pc_rules.specs.DirectedLaws.{more}
use Rattle.calculus_rules.proofs.Determined.{not_more, not_unfolds}
use Rattle.pc_rules.proofs.EvaluationNext.{evaluation_next}
use Rattle.pc_rules.proofs.EvaluationReached.{body_there, more_there, no_more, unfolding_there, branch_there, more_two, more_three}
use Rattle.pc_rules.proofs.EvaluationRuns.{more_none}
use Rattle.pc_rules.proofs.Following.{bind_done, ticking-more}
use Rattle.source_eval.specs.StaysWithin.{StaysWithin}
use Rattle.source_eval.specs.Waiting.{applied_other}

not_beyond : (t : Term) → IsWithin t → is_beyond t ≡ false
not_beyond t h = ap (λ b. b || nat_lt (2 ^ 32) (above t)) (le-ltb depth_limit (depth t) h.0) ∙ le-ltb (2 ^ 32) (above t) h.1

made_within : (t : Term) (u : Account) → IsWithin t → make t u ≡ done t u
made_within t u h = ap (λ b. made b t u) (not_beyond t h)

-- how runs go on

value_goes_on : (r : Run Evaluated) (k : Term → Account → Run Evaluated) (v : Term) (u : Account) → r ≡ done (Value v) u → with_value r k ≡ k v u
value_goes_on r k v u e = ap (λ x. with_value x k) e ∙ bind_done (Value v) u (λ e u. on_value e u k)

module _ (E : Env) where
  contracted_goes_on : (c : Term) (u : Account) → IsWithin c → contracted (evaluation E) c u ≡ evaluation E c u
  contracted_goes_on c u h = ap (λ r. bind r (evaluation E)) (made_within c u h) ∙ bind_done c u (evaluation E)

  contracts_goes_on : (t : Term) (o : Option Term) (c : Term) (u : Account) → o ≡ Some c → IsWithin c → contracts (evaluation E) t o u ≡ evaluation E c u
  contracts_goes_on t o c u e h = ap (λ o. contracts (evaluation E) t o u) e ∙ contracted_goes_on c u h

  node_goes_on : (t : Term) (n : ℕ) (w : Account) → evaluation E t (more (suc n) w) ≡ node E (evaluation E) t (more n w)
  node_goes_on t n w =
      let less : w.left + suc n - 1 ≡ w.left + n = omega arith in
      let same : ticked (more (suc n) w) ≡ more n w = λ i. record { left = less i; uses = w.uses } in
      evaluation_next E t (more (suc n) w) ∙ ticking-more (more (suc n) w) (λ v. node E (evaluation E) t v) (omega arith) ∙ ap (node E (evaluation E) t) same

  app_goes_on : (f a g v : Term) (u x z : Account) → evaluation E f u ≡ done (Value g) x → evaluation E a x ≡ done (Value v) z →
      node E (evaluation E) (App f a) u ≡ applied E (evaluation E) (App f a) g v z
  app_goes_on f a g v u x z p q =
      value_goes_on (evaluation E f u) (λ g w. with_value (evaluation E a w) (λ v y. applied E (evaluation E) (App f a) g v y)) g x p
      ∙ value_goes_on (evaluation E a x) (λ v y. applied E (evaluation E) (App f a) g v y) v z q

  other_value : (t g v : Term) (u : Account) → ((A b : Term) → g ≡ Lambda A b → ⊥) → applied E (evaluation E) t g v u ≡ applied_other E (evaluation E) t g v u
  other_value t (Lambda A b) v u f = absurd (f A b refl)
  other_value t g v u f = refl

  extended_goes_on : IsAccepted E → (t g v : Term) (u : Account) → TakesMore E g → IsWithin (App g v) → applied E (evaluation E) t g v u ≡ done (Value (App g v)) u
  extended_goes_on a t g v u m h =
      other_value t g v u (λ A b e. not_more (along (λ x. TakesMore E x) e m))
      ∙ ap (λ b. if b then extended g v u else contracts (evaluation E) t (unfolding_at (head g) (args g) v) u) (more_there E a g m)
      ∙ ap (λ r. bind r (λ x w. done (Value x) w)) (made_within (App g v) u h) ∙ bind_done (App g v) u (λ x w. done (Value x) w)

  unfolded_goes_on : (t g v c : Term) (u : Account) → Unfolds g v c → IsWithin c → applied E (evaluation E) t g v u ≡ evaluation E c u
  unfolded_goes_on t g v c u m h =
      other_value t g v u (λ A b e. not_unfolds (along (λ x. Unfolds x v c) e m))
      ∙ ap (λ b. if b then extended g v u else contracts (evaluation E) t (unfolding_at (head g) (args g) v) u) (no_more E g v c m)
      ∙ contracts_goes_on t (unfolding_at (head g) (args g) v) c u (unfolding_there g v c m) h

  value_stays : (t : Term) (u : Account) → IsValue t → node E (evaluation E) t u ≡ done (Value t) u
  value_stays t u sort_is = refl
  value_stays t u prod_is = refl
  value_stays t u lambda_is = refl
  value_stays t u ind_is = refl
  value_stays t u construct_is = refl
  value_stays t u fix_is = refl

-- with a unit for each node, the whole run is the value
pub runs : (E : Env) → IsAccepted E → (t v : Term) (n : ℕ) (e : Evaluates E t v n) → StaysWithin e → (w : Account) → evaluation E t (more n w) ≡ done (Value v) w
runs E a t v n (value i) h w = node_goes_on E t 0 w ∙ value_stays E t (more 0 w) i ∙ ap (done (Value t)) (sym (more_none w))
runs E a t v n (constant {k = k} {n = j} {T = T} {b = b} c e) h w =
    node_goes_on E t j w ∙ contracts_goes_on E t (body_of (kept_at E.declarations k)) b (more j w) (body_there E a k T b c) h.0 ∙ runs E a b v j e h.1 w
runs E a t y n (let_in {b = b} {t = body} {v = v} {n = i} {m = j} e e') h w =
    node_goes_on E t (i + j) w ∙ ap (node E (evaluation E) t) (more_two i j w)
    ∙ value_goes_on (evaluation E b (more i (more j w))) (λ v w. contracted (evaluation E) (substitute (put v) body) w) v (more j w) (runs E a b v i e h.1 (more j w))
    ∙ contracted_goes_on E (substitute (put v) body) (more j w) h.0 ∙ runs E a (substitute (put v) body) y j e' h.2 w
runs E a t y n (beta {f = f} {a = arg} {A = A} {b = b} {v = v} {n = i} {m = j} {k = k} e e' e'') h w =
    node_goes_on E t (i + j + k) w ∙ ap (node E (evaluation E) t) (more_three i j k w)
    ∙ app_goes_on E f arg (Lambda A b) v (more i (more j (more k w))) (more j (more k w)) (more k w)
    (runs E a f (Lambda A b) i e h.1 (more j (more k w))) (runs E a arg v j e' h.2 (more k w))
    ∙ contracted_goes_on E (substitute (put v) b) (more k w) h.0 ∙ runs E a (substitute (put v) b) y k e'' h.3 w
runs E a t y n (extend {f = f} {a = arg} {g = g} {v = v} {n = i} {m = j} e e' m) h w =
    node_goes_on E t (i + j) w ∙ ap (node E (evaluation E) t) (more_two i j w)
    ∙ app_goes_on E f arg g v (more i (more j w)) (more j w) w (runs E a f g i e h.1 (more j w)) (runs E a arg v j e' h.2 w)
    ∙ extended_goes_on E a t g v w m h.0
runs E a t y n (unfold_fix {f = f} {a = arg} {g = g} {v = v} {u = c} {n = i} {m = j} {k = k} e e' m e'') h w =
    node_goes_on E t (i + j + k) w ∙ ap (node E (evaluation E) t) (more_three i j k w)
    ∙ app_goes_on E f arg g v (more i (more j (more k w))) (more j (more k w)) (more k w)
    (runs E a f g i e h.1 (more j (more k w))) (runs E a arg v j e' h.2 (more k w))
    ∙ unfolded_goes_on E t g v c (more k w) m h.0 ∙ runs E a c y k e'' h.3 w
runs E a t y n (enter {f = f} {bs = bs} {c = c} {n = i} {m = j} {s = s} {v = v} {body = body} {qs = qs} {xs = xs} e m b e') h w =
    node_goes_on E t (i + j) w ∙ ap (node E (evaluation E) t) (more_two i j w)
    ∙ value_goes_on (evaluation E s (more i (more j w))) (λ v w. contracts (evaluation E) t (branch_of bs f (built E v)) w) v (more j w) (runs E a s v i e h.1 (more j w))
    ∙ contracts_goes_on E t (branch_of bs f (built E v)) (substitute (put_all xs Rel) body) (more j w) (branch_there E a f c v bs qs xs body m b) h.0
    ∙ runs E a (substitute (put_all xs Rel) body) y j e' h.2 w
