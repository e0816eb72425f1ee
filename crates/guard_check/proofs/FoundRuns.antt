-- How answers follow what terms are found to be.
use Rattle.std.proofs.Common.{◌≡◌, ◌∙◌, sym, ap, refl, subst, ℕ, zero, suc, Option, Some, None, List, [], ◌∷◌, ◌++◌, map, Result, Ok, Err, slice_get, option_map}
use Rattle.pc_terms.specs.declared.leaf.Name.{Name}
use Rattle.pc_terms.specs.Syntax.{Term}
use Rattle.pc_rules.specs.declared.meter.Account.{Account}
use Rattle.pc_rules.specs.declared.meter.Meter.{Meter}
use Rattle.pc_rules.specs.declared.broken.Broken.TheVariants.{NotGuarded}
use Rattle.pc_rules.specs.declared.stop.Halt.{Halt}
use Rattle.pc_rules.specs.declared.stop.Halt.TheVariants.{Stop, Broken as Refusal}
use Rattle.pc_rules.specs.declared.stop.Stop.TheVariants.{Memory}
use Rattle.calculus_rules.specs.Environment.{Env}
use Rattle.calculus_rules.specs.Context.{Values}
use Rattle.calculus_rules.specs.Guardedness.{Mark, Recursive, Argument, Smaller, Other, Marks}
use Rattle.pc_rules.specs.DirectedRun.{Run, done, bind, Leaves}
use Rattle.pc_rules.specs.DirectedWeakHead.{weak_next, whnf}
use Rattle.pc_rules.specs.DirectedGuard.{if_smaller, find, smaller_argument, call_argument, call_rule}
use Rattle.pc_rules.specs.Follows.{Follows}
use Rattle.pc_rules.proofs.Following.{follows_bind, follows_err, follows_done, follows_refused, follows_memory}
use Rattle.pc_rules.proofs.Fair.{leaves_bind, same_left}
use Rattle.pc_rules.proofs.FairRules.{find_leaves, if_smaller_leaves}
use Rattle.pc_rules.proofs.Leaving.{leaving}
use Rattle.rule_laws.proofs.Settled.{settled}
use Rattle.guard_check.specs.declared.mark.Mark.{Mark as Kept}
use Rattle.guard_check.specs.declared.mark.Mark.TheVariants as kept
use Rattle.guard_check.specs.declared.tasks.Task.{Task}
use Rattle.guard_check.specs.Marks.{mark_of, marks_of, values_in, marks_in}
use Rattle.guard_check.specs.Tasks.{ToFind, to_find, head_mark, branches_to_find, smaller_then, each_then, each_smaller}
use Rattle.pc_rules.proofs.Leading.{bind_assoc}
use Rattle.guard_check.proofs.Findings.{found_in, find_by_whnf}
use Rattle.guard_check.proofs.Heads.{each_append, concluded, normal_concluded, next_then, normal_next}
use Rattle.guard_check.proofs.Bodies.{map-push}

pub same_run : {A : Type 0} (d d' : Run A) (r : Result A Halt) (m0 m1 : Meter) → d ≡ d' → Follows d' r m0 m1 → Follows d r m0 m1
same_run d d' r m0 m1 e f = subst (λ x. Follows x r m0 m1) (sym e) f

-- runs over what is to be found never go back on units
each_then_leaves : (E : Env) (r : Option Name) (xs : List ToFind) (k : Account → Run Mark) → ((v : Account) → Leaves (k v).end v.left) → (u : Account) → Leaves (each_then E r xs k u).end u.left
each_then_leaves E r [] k h u = h u
each_then_leaves E r (x ∷ xs) k h u =
    each_then_leaves E r xs (smaller_then E r x k) (λ v. leaves_bind _ _ _ (find_leaves E r v.left x.values x.marks x.term v) (λ m w. if_smaller_leaves m (k w) w (h w))) u

pub each_smaller_leaves : (E : Env) (r : Option Name) (xs : List ToFind) (u : Account) → Leaves (each_smaller E r xs u).end u.left
each_smaller_leaves E r xs u = each_then_leaves E r xs (λ v. done Smaller v) same_left u

pub next_leaves : (E : Env) (r : Option Name) (m : Mark) (xs ys : List ToFind) (u : Account) → Leaves (next_then E r m xs ys u).end u.left
next_leaves E r Smaller xs ys u = each_smaller_leaves E r (xs ++ ys) u
next_leaves E r m xs ys u = same_left u

module _ (E : Env) (block : Option Name) (V : Values) where
  alone : (a : Kept) (xs : List ToFind) (m : Meter) → (a ≡ kept.Smaller → ⊥) → Follows (concluded E block (mark_of a) xs m.account) (Ok (mark_of a)) m m
  alone kept.Smaller xs m n = absurd (n refl)
  alone kept.Argument xs m n = follows_done Argument m
  alone (kept.Recursive r) xs m n = follows_done (Recursive r) m
  alone kept.Other xs m n = follows_done Other m

  -- a weak-head normal form whose head is not smaller
  pub found_marked : (M : Marks) (t : Term) (a : Kept) (m : Meter) → weak_next E V t ≡ None → mark_of a ≡ head_mark M t → (a ≡ kept.Smaller → ⊥) →
      Follows (find E block m.account.left V M t m.account) (Ok (mark_of a)) m m
  found_marked M t a m e h n =
      same_run (find E block m.account.left V M t m.account) (concluded E block (mark_of a) (branches_to_find E block V M t) m.account) (Ok (mark_of a)) m m
      (normal_concluded E block V M t m.account e ∙ ap (λ k. concluded E block k (branches_to_find E block V M t) m.account) (sym h)) (alone a (branches_to_find E block V M t) m n)

  -- and one whose head is smaller, if the branches there are
  pub found_branches : (M : Marks) (t : Term) (xs ys : List ToFind) (r : Result Mark Halt) (m0 m1 : Meter) → weak_next E V t ≡ None → Smaller ≡ head_mark M t → xs ≡ [] →
      ys ≡ xs ++ branches_to_find E block V M t → Follows (each_smaller E block ys m0.account) r m0 m1 → Follows (find E block m0.account.left V M t m0.account) r m0 m1
  found_branches M t xs ys r m0 m1 e h z p f =
      same_run (find E block m0.account.left V M t m0.account) (each_smaller E block ys m0.account) r m0 m1
      (normal_concluded E block V M t m0.account e ∙ ap (λ k. concluded E block k (branches_to_find E block V M t) m0.account) (sym h)
      ∙ ap (λ zs. each_smaller E block zs m0.account) (sym (p ∙ ap (λ zs. zs ++ branches_to_find E block V M t) z))) f

-- the last of a list of terms comes first
module _ (E : Env) (block : Option Name) where
  last_is : (xs : List ToFind) (x : ToFind) (u : Account) → each_smaller E block (xs ++ (x ∷ [])) u ≡
      bind (whnf E x.values x.term u) (λ W v. bind (found_in E block x.values x.marks W v) (λ m w. if_smaller m (each_smaller E block xs w) w))
  last_is xs x u =
      ap (λ f. f u) (each_append E block xs (x ∷ []) (λ v. done Smaller v))
      ∙ ap (λ d. bind d (λ m v. if_smaller m (each_smaller E block xs v) v)) (find_by_whnf E block x.values x.marks x.term u)
      ∙ bind_assoc (whnf E x.values x.term u) (λ W v. found_in E block x.values x.marks W v) (λ m w. if_smaller m (each_smaller E block xs w) w)

  module _ (before after : List Task) (a : Task) (p : before ≡ after ++ (a ∷ [])) where
    popped : (u : Account) → each_smaller E block (map to_find before) u ≡ bind (whnf E (values_in a.scope) a.body u)
        (λ W v. bind (found_in E block (values_in a.scope) (marks_in a.scope) W v) (λ m w. if_smaller m (each_smaller E block (map to_find after) w) w))
    popped u = ap (λ xs. each_smaller E block (map to_find xs) u) p ∙ ap (λ xs. each_smaller E block xs u) (map-push after a) ∙ last_is (map to_find after) (to_find a) u

    pub last_stops : (h : Halt) (m0 m1 : Meter) → Follows (whnf E (values_in a.scope) a.body m0.account) (Err h) m0 m1 →
        Follows (each_smaller E block (map to_find before) m0.account) (Err h) m0 m1
    last_stops h m0 m1 f =
        same_run (each_smaller E block (map to_find before) m0.account)
        (bind (whnf E (values_in a.scope) a.body m0.account)
        (λ W v. bind (found_in E block (values_in a.scope) (marks_in a.scope) W v) (λ m w. if_smaller m (each_smaller E block (map to_find after) w) w)))
        (Err h) m0 m1 (popped m0.account) (follows_err _ _ h m0 m1 f (search (leaving, each_smaller_leaves, next_leaves)))

    -- it is reduced, and then what it is decides
    last_goes : (W : Term) (r : Result Mark Halt) (m0 m1 m2 : Meter) → Follows (whnf E (values_in a.scope) a.body m0.account) (Ok W) m0 m1 →
        Follows (next_then E block (head_mark (marks_in a.scope) W) (map to_find after) (branches_to_find E block (values_in a.scope) (marks_in a.scope) W) m1.account) r m1 m2 →
        Follows (each_smaller E block (map to_find before) m0.account) r m0 m2
    last_goes W r m0 m1 m2 f g =
        same_run (each_smaller E block (map to_find before) m0.account)
        (bind (whnf E (values_in a.scope) a.body m0.account)
        (λ W v. bind (found_in E block (values_in a.scope) (marks_in a.scope) W v) (λ m w. if_smaller m (each_smaller E block (map to_find after) w) w)))
        r m0 m2 (popped m0.account)
        (follows_bind (whnf E (values_in a.scope) a.body m0.account) (λ W v. bind (found_in E block (values_in a.scope) (marks_in a.scope) W v) (λ m w. if_smaller m (each_smaller E block (map to_find after) w) w))
        W r m0 m1 m2 f
        (same_run (bind (found_in E block (values_in a.scope) (marks_in a.scope) W m1.account) (λ m w. if_smaller m (each_smaller E block (map to_find after) w) w))
        (next_then E block (head_mark (marks_in a.scope) W) (map to_find after) (branches_to_find E block (values_in a.scope) (marks_in a.scope) W) m1.account) r m1 m2
        (normal_next E block (values_in a.scope) (marks_in a.scope) W (map to_find after) m1.account (settled E (values_in a.scope) a.body W m0 m1 f)) g))

    -- there is no memory for the branches
    pub last_memory : (W : Term) (m0 m1 : Meter) → Follows (whnf E (values_in a.scope) a.body m0.account) (Ok W) m0 m1 →
        Follows (each_smaller E block (map to_find before) m0.account) (Err (Stop Memory)) m0 m1
    last_memory W m0 m1 f = last_goes W (Err (Stop Memory)) m0 m1 m1 f (follows_memory _ m1 (search (leaving, each_smaller_leaves, next_leaves)))

    not_smaller : (k : Kept) (xs ys : List ToFind) (m : Meter) → (k ≡ kept.Smaller → ⊥) → Follows (next_then E block (mark_of k) xs ys m.account) (Ok Other) m m
    not_smaller kept.Smaller xs ys m n = absurd (n refl)
    not_smaller kept.Argument xs ys m n = follows_done Other m
    not_smaller (kept.Recursive r) xs ys m n = follows_done Other m
    not_smaller kept.Other xs ys m n = follows_done Other m

    pub last_other : (W : Term) (k : Kept) (m0 m1 : Meter) → Follows (whnf E (values_in a.scope) a.body m0.account) (Ok W) m0 m1 →
        mark_of k ≡ head_mark (marks_in a.scope) W → (k ≡ kept.Smaller → ⊥) → Follows (each_smaller E block (map to_find before) m0.account) (Ok Other) m0 m1
    last_other W k m0 m1 f h n =
        last_goes W (Ok Other) m0 m1 m1 f
        (subst (λ j. Follows (next_then E block j (map to_find after) (branches_to_find E block (values_in a.scope) (marks_in a.scope) W) m1.account) (Ok Other) m1 m1) h
        (not_smaller k (map to_find after) (branches_to_find E block (values_in a.scope) (marks_in a.scope) W) m1 n))

    pub last_smaller : (W : Term) (ys : List ToFind) (r : Result Mark Halt) (m0 m1 m2 : Meter) → Follows (whnf E (values_in a.scope) a.body m0.account) (Ok W) m0 m1 →
        Smaller ≡ head_mark (marks_in a.scope) W → ys ≡ map to_find after ++ branches_to_find E block (values_in a.scope) (marks_in a.scope) W →
        Follows (each_smaller E block ys m1.account) r m1 m2 → Follows (each_smaller E block (map to_find before) m0.account) r m0 m2
    last_smaller W ys r m0 m1 m2 f h p g =
        last_goes W r m0 m1 m2 f
        (subst (λ j. Follows (next_then E block j (map to_find after) (branches_to_find E block (values_in a.scope) (marks_in a.scope) W) m1.account) r m1 m2) h
        (subst (λ zs. Follows (each_smaller E block zs m1.account) r m1 m2) p g))

  -- no term is left
  pub none_left : (before after : List Task) (m : Meter) → before ≡ after ++ [] → after ≡ [] → Follows (each_smaller E block (map to_find before) m.account) (Ok Smaller) m m
  none_left before after m p z = subst (λ xs. Follows (each_smaller E block (map to_find xs) m.account) (Ok Smaller) m m) (sym (p ∙ ap (λ ys. ys ++ []) z)) (follows_done Smaller m)

-- the mark of a variable
mark_of_item : (M : List Kept) (i : ℕ) → slice_get (marks_of M) i ≡ option_map mark_of (slice_get M i)
mark_of_item [] i = refl
mark_of_item (x ∷ M) zero = refl
mark_of_item (x ∷ M) (suc i) = mark_of_item M i

pub mark_at : (M : List Kept) (i : ℕ) (a b : Kept) → slice_get M i ≡ Some a → a ≡ b → slice_get (marks_of M) i ≡ Some (mark_of b)
mark_at M i a b e p = mark_of_item M i ∙ ap (λ o. option_map mark_of o) e ∙ ap (λ k. Some (mark_of k)) p

module _ (E : Env) (block : Option Name) (V : Values) (M : Marks) (i r : ℕ) (xs : List Term) (a : Term) (p : slice_get M i ≡ Some (Recursive r)) (q : slice_get xs r ≡ Some a) where
  -- a call with its recursive argument
  pub call_with : (res : Result (Unit {0}) Halt) (m0 m1 : Meter) → Follows (call_argument E block V M i (Some a) m0.account) res m0 m1 →
      Follows (call_rule E block V M i xs (slice_get M i) m0.account) res m0 m1
  call_with res m0 m1 f =
      subst (λ o. Follows (call_rule E block V M i xs o m0.account) res m0 m1) (sym p) (subst (λ o. Follows (call_argument E block V M i o m0.account) res m0 m1) (sym q) f)

-- an argument that is not smaller is refused
pub argument_refused : (W : Term) (a : Kept) (m : Meter) → (a ≡ kept.Smaller → ⊥) → Follows (smaller_argument W (mark_of a) m.account) (Err (Refusal (NotGuarded W))) m m
argument_refused W kept.Smaller m n = absurd (n refl)
argument_refused W kept.Argument m n = follows_refused (NotGuarded W) m
argument_refused W (kept.Recursive r) m n = follows_refused (NotGuarded W) m
argument_refused W kept.Other m n = follows_refused (NotGuarded W) m
