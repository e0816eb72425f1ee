-- What a term in weak-head normal form is, by its head and by the bodies of the matches there.
use Rattle.std.proofs.Common.{◌≡◌, ℕ, suc, Bool, true, false, if◌then◌else◌, Option, Some, None, List, [], ◌∷◌, ◌++◌, refl, sym, ap, ◌∙◌, slice_get, arith}
use Rattle.pc_terms.specs.declared.leaf.Name.{Name}
use Rattle.pc_terms.specs.declared.leaf.FamilyId.{FamilyId}
use Rattle.pc_terms.specs.Syntax.{Term, Terms, Done, Next, Rel, SortT, Prod, Lambda, LetIn, App, Const, Ind, Construct, Case, Fix}
use Rattle.calculus_rules.specs.declared.declaration.Constructor.{Constructor}
use Rattle.pc_rules.specs.declared.meter.Account.{Account}
use Rattle.calculus_rules.specs.Environment.{Env}
use Rattle.calculus_rules.specs.Context.{Values, under}
use Rattle.calculus_rules.specs.Guardedness.{Mark, Recursive, Argument, Smaller, Other, Marks, Ending, ending}
use Rattle.pc_rules.specs.DirectedRun.{Run, done, bind}
use Rattle.calculus_rules.specs.Lookups.{family_of}
use Rattle.pc_rules.specs.DirectedWeakHead.{weak_next, case_step, app_step}
use Rattle.pc_rules.specs.DirectedGuard.{found_at, applied, opens, constructors_of, step_on, if_smaller, if_opened, first_marks, later, look, look_branches, find}
use Rattle.guard_check.specs.Tasks.{ToFind, head_mark, bodies_to_find, branches_to_find, smaller_then, each_then, each_smaller}
use Rattle.pc_rules.proofs.SameWithin.{Agrees, agrees_done, agrees_at, agrees_from, agrees_bind}
use Rattle.pc_rules.proofs.Leading.{bind_assoc}
use Rattle.guard_check.proofs.Findings.{agrees_opened, agrees_smaller, after, find_is, found_in, agrees_found}
use Rattle.pc_rules.proofs.Following.{bind_done}
use Rattle.pc_rules.proofs.WeakNext.{none_some}

-- the function of an application without a step has none, and neither has the scrutinee of a match
stuck_function : (E : Env) (g a : Term) (o arg : Option Term) → app_step E g a o arg ≡ None → o ≡ None
stuck_function E (Lambda A b) a o arg e = absurd (none_some (sym e))
stuck_function E g a (Some x) arg e = absurd (none_some (sym e))
stuck_function E g a None arg e = refl

stuck_scrutinee : (E : Env) (f : FamilyId) (ps : Terms) (n : ℕ) (ret s : Term) (bs : Terms) (o : Option Term) → case_step E f ps n ret s bs o ≡ None → o ≡ None
stuck_scrutinee E f ps n ret s bs (Some x) e = absurd (none_some (sym e))
stuck_scrutinee E f ps n ret s bs None e = refl

-- only a variable is the argument itself, and no branches are at its head
smaller_or_not : (b : Bool) → (if b then Smaller else Other) ≡ Argument → ⊥
smaller_or_not true e = cc
smaller_or_not false e = cc

applied_not : (m : Mark) → applied m ≡ Argument → ⊥
applied_not (Recursive r) e = cc
applied_not Argument e = cc
applied_not Smaller e = cc
applied_not Other e = cc

other_not : {A : Type 0} → Other ≡ Argument → A
other_not e = absurd (cc)

module _ (E : Env) (r : Option Name) where
  argument_has_none : (V : Values) (M : Marks) (t : Term) → head_mark M t ≡ Argument → branches_to_find E r V M t ≡ []
  argument_has_none V M (Rel i) e = refl
  argument_has_none V M (App f a) e = absurd (applied_not (head_mark M f) e)
  argument_has_none V M (Case f ps n ret s bs) e = absurd (smaller_or_not (opens (head_mark M s)) e)
  argument_has_none V M (SortT s) e = refl
  argument_has_none V M (Prod A B) e = refl
  argument_has_none V M (Lambda A b) e = refl
  argument_has_none V M (LetIn b B t) e = refl
  argument_has_none V M (Const c) e = refl
  argument_has_none V M (Ind f) e = refl
  argument_has_none V M (Construct f c) e = refl
  argument_has_none V M (Fix i rargs types bodies) e = refl

  -- each of two lists, of which the second comes first
  pub each_append : (xs ys : List ToFind) (k : Account → Run Mark) → each_then E r (xs ++ ys) k ≡ each_then E r ys (each_then E r xs k)
  each_append [] ys k = refl
  each_append (x ∷ xs) ys k = each_append xs ys (smaller_then E r x k)

  smaller_bind : (m : Mark) (k : Account → Run Mark) (l : Mark → Account → Run Mark) (v : Account) → l Other v ≡ done Other v →
      bind (if_smaller m (k v) v) l ≡ if_smaller m (bind (k v) l) v
  smaller_bind Smaller k l v h = refl
  smaller_bind Argument k l v h = bind_done Other v l ∙ h
  smaller_bind (Recursive n) k l v h = bind_done Other v l ∙ h
  smaller_bind Other k l v h = bind_done Other v l ∙ h

  -- what follows each of a list, where nothing follows a term that is not smaller
  pub each_bind : (xs : List ToFind) (k : Account → Run Mark) (l : Mark → Account → Run Mark) (u : Account) → ((v : Account) → l Other v ≡ done Other v) →
      bind (each_then E r xs k u) l ≡ each_then E r xs (λ v. bind (k v) l) u
  each_bind [] k l u h = refl
  each_bind (x ∷ xs) k l u h =
      each_bind xs (smaller_then E r x k) l u h
      ∙ (λ i. each_then E r xs (λ v. (bind_assoc (found_in E r x.values x.marks x.term v) (λ m w. if_smaller m (k w) w) l
      ∙ (λ j. bind (found_in E r x.values x.marks x.term v) (λ m w. smaller_bind m k l w (h w) j))) i) u)

  -- what a term is, of which the mark of its head and the branches there are known
  abbrev pub concluded : Mark → List ToFind → Account → Run Mark
  concluded Smaller xs u = each_smaller E r xs u
  concluded m xs u = done m u

  agrees_alone : (n : ℕ) (m : Mark) → Agrees n (λ u. done m u) (concluded m [])
  agrees_alone n Smaller = agrees_done n Smaller
  agrees_alone n Argument = agrees_done n Argument
  agrees_alone n (Recursive j) = agrees_done n (Recursive j)
  agrees_alone n Other = agrees_done n Other

  concluded_applied : (m : Mark) (xs : List ToFind) (u : Account) → bind (concluded m xs u) (λ m v. done (applied m) v) ≡ concluded (applied m) xs u
  concluded_applied Smaller xs u =
      each_bind xs (λ v. done Smaller v) (λ m v. done (applied m) v) u (λ v. refl) ∙ (λ i. each_then E r xs (λ v. bind_done Smaller v (λ m w. done (applied m) w) i) u)
  concluded_applied Argument xs u = bind_done Argument u (λ m v. done (applied m) v)
  concluded_applied (Recursive n) xs u = bind_done (Recursive n) u (λ m v. done (applied m) v)
  concluded_applied Other xs u = bind_done Other u (λ m v. done (applied m) v)

  append_none : (ys : List ToFind) → ys ++ [] ≡ ys
  append_none [] = refl
  append_none (y ∷ ys) = ap (λ zs. y ∷ zs) (append_none ys)

  concluded_opened : (m : Mark) (xs ys : List ToFind) (u : Account) → (m ≡ Argument → xs ≡ []) →
      bind (concluded m xs u) (λ m v. if_opened m (each_smaller E r ys v) v) ≡ concluded (if opens m then Smaller else Other) (ys ++ xs) u
  concluded_opened Smaller xs ys u h =
      each_bind xs (λ v. done Smaller v) (λ m v. if_opened m (each_smaller E r ys v) v) u (λ v. refl)
      ∙ (λ i. each_then E r xs (λ v. bind_done Smaller v (λ m w. if_opened m (each_smaller E r ys w) w) i) u)
      ∙ sym (ap (λ f. f u) (each_append ys xs (λ v. done Smaller v)))
  concluded_opened Argument xs ys u h =
      bind_done Argument u (λ m v. if_opened m (each_smaller E r ys v) v) ∙ ap (λ zs. each_smaller E r zs u) (sym (append_none ys) ∙ ap (λ zs. ys ++ zs) (sym (h refl)))
  concluded_opened (Recursive n) xs ys u h = bind_done (Recursive n) u (λ m v. if_opened m (each_smaller E r ys v) v)
  concluded_opened Other xs ys u h = bind_done Other u (λ m v. if_opened m (each_smaller E r ys v) v)

  module _ (n : ℕ) where
    agrees_bodies : (V : Values) (M : Marks) (q : Ending) (Cs : List Constructor) (bs : Terms) →
        Agrees (suc n) (λ u. look_branches E r (after E r n) V M q Cs bs u) (each_smaller E r (bodies_to_find V M q Cs bs))
    agrees_bodies V M q Cs Done = agrees_done (suc n) Smaller
    agrees_bodies V M q Cs (Next b body bs) =
        let x : ToFind = record { values = under b V; marks = first_marks q Cs b M; term = body } in
        let rest : List ToFind = bodies_to_find V M q (later Cs) bs in
        agrees_from (λ u. look_branches E r (after E r n) V M q Cs (Next b body bs) u)
        (λ u. bind (find E r n x.values x.marks body u) (λ m v. if_smaller m (look_branches E r (after E r n) V M q (later Cs) bs v) v))
        (each_smaller E r (bodies_to_find V M q Cs (Next b body bs)))
        (λ u. ap (λ d. bind d (λ m v. if_smaller m (look_branches E r (after E r n) V M q (later Cs) bs v) v)) (sym (find_is E r n x.values x.marks body u)))
        (agrees_at (λ u. bind (find E r n x.values x.marks body u) (λ m v. if_smaller m (look_branches E r (after E r n) V M q (later Cs) bs v) v))
        (smaller_then E r x (each_smaller E r rest)) (each_smaller E r (bodies_to_find V M q Cs (Next b body bs)))
        (agrees_bind (suc n) (λ u. find E r n x.values x.marks body u) (found_in E r x.values x.marks body) (λ m v. if_smaller m (look_branches E r (after E r n) V M q (later Cs) bs v) v)
        (λ m v. if_smaller m (each_smaller E r rest v) v) (agrees_found E r n x.values x.marks body)
        (λ m. agrees_smaller (suc n) m (λ v. look_branches E r (after E r n) V M q (later Cs) bs v) (each_smaller E r rest) (agrees_bodies V M q (later Cs) bs)))
        (λ u. sym (ap (λ f. f u) (each_append rest (x ∷ []) (λ v. done Smaller v)))))

    agrees_concluded : (V : Values) (M : Marks) (t : Term) → weak_next E V t ≡ None →
        Agrees (suc n) (λ u. look E r (after E r n) V M t u) (concluded (head_mark M t) (branches_to_find E r V M t))
    agrees_concluded V M (Rel i) e = agrees_alone (suc n) (found_at (slice_get M i))
    agrees_concluded V M (App f a) e =
        agrees_at (λ u. look E r (after E r n) V M (App f a) u) (λ u. bind (concluded (head_mark M f) (branches_to_find E r V M f) u) (λ m v. done (applied m) v))
        (concluded (applied (head_mark M f)) (branches_to_find E r V M f))
        (agrees_bind (suc n) (λ u. look E r (after E r n) V M f u) (concluded (head_mark M f) (branches_to_find E r V M f)) (λ m v. done (applied m) v) (λ m v. done (applied m) v)
        (agrees_concluded V M f (stuck_function E f a (weak_next E V f) (weak_next E V a) e)) (λ m. agrees_done (suc n) (applied m)))
        (concluded_applied (head_mark M f) (branches_to_find E r V M f))
    agrees_concluded V M (Case f ps k ret s bs) e =
        let Cs : List Constructor = constructors_of (family_of E f) in
        let p : weak_next E V s ≡ None = stuck_scrutinee E f ps k ret s bs (weak_next E V s) e in
        let xs : List ToFind = branches_to_find E r V M s in
        let ys : List ToFind = bodies_to_find V M (ending E r f ps) Cs bs in
        let l : Mark → Account → Run Mark = λ m v. if_opened m (look_branches E r (after E r n) V M (ending E r f ps) Cs bs v) v in
        let l' : Mark → Account → Run Mark = λ m v. if_opened m (each_smaller E r ys v) v in
        agrees_from (λ u. look E r (after E r n) V M (Case f ps k ret s bs) u) (λ u. bind (look E r (after E r n) V M s u) l)
        (concluded (if opens (head_mark M s) then Smaller else Other) (ys ++ xs))
        (λ u. ap (λ o. bind (step_on o (look E r (after E r n) V M s u) (after E r n V M) u) l) p)
        (agrees_at (λ u. bind (look E r (after E r n) V M s u) l) (λ u. bind (concluded (head_mark M s) xs u) l')
        (concluded (if opens (head_mark M s) then Smaller else Other) (ys ++ xs))
        (agrees_bind (suc n) (λ u. look E r (after E r n) V M s u) (concluded (head_mark M s) xs) l l' (agrees_concluded V M s p)
        (λ m. agrees_opened (suc n) m (λ v. look_branches E r (after E r n) V M (ending E r f ps) Cs bs v) (each_smaller E r ys) (agrees_bodies V M (ending E r f ps) Cs bs)))
        (λ u. concluded_opened (head_mark M s) xs ys u (argument_has_none V M s)))
    agrees_concluded V M (SortT s) e = agrees_done (suc n) Other
    agrees_concluded V M (Prod A B) e = agrees_done (suc n) Other
    agrees_concluded V M (Lambda A b) e = agrees_done (suc n) Other
    agrees_concluded V M (LetIn b B t) e = agrees_done (suc n) Other
    agrees_concluded V M (Const c) e = agrees_done (suc n) Other
    agrees_concluded V M (Ind f) e = agrees_done (suc n) Other
    agrees_concluded V M (Construct f c) e = agrees_done (suc n) Other
    agrees_concluded V M (Fix i rargs types bodies) e = agrees_done (suc n) Other

  pub normal_concluded : (V : Values) (M : Marks) (t : Term) (u : Account) → weak_next E V t ≡ None →
      found_in E r V M t u ≡ concluded (head_mark M t) (branches_to_find E r V M t) u
  normal_concluded V M t u e =
      find_is E r u.left V M t u ∙ ap (λ o. step_on o (look E r (after E r u.left) V M t u) (after E r u.left V M) u) e ∙ (agrees_concluded u.left V M t e).same u (omega arith)

  -- one more of a list, reduced first
  abbrev pub next_then : Mark → List ToFind → List ToFind → Account → Run Mark
  next_then Smaller xs ys u = each_smaller E r (xs ++ ys) u
  next_then m xs ys u = done Other u

  next_concluded : (m : Mark) (xs ys : List ToFind) (u : Account) → bind (concluded m ys u) (λ m v. if_smaller m (each_smaller E r xs v) v) ≡ next_then m xs ys u
  next_concluded Smaller xs ys u =
      each_bind ys (λ v. done Smaller v) (λ m v. if_smaller m (each_smaller E r xs v) v) u (λ v. refl)
      ∙ (λ i. each_then E r ys (λ v. bind_done Smaller v (λ m w. if_smaller m (each_smaller E r xs w) w) i) u)
      ∙ sym (ap (λ f. f u) (each_append xs ys (λ v. done Smaller v)))
  next_concluded Argument xs ys u = bind_done Argument u (λ m v. if_smaller m (each_smaller E r xs v) v)
  next_concluded (Recursive n) xs ys u = bind_done (Recursive n) u (λ m v. if_smaller m (each_smaller E r xs v) v)
  next_concluded Other xs ys u = bind_done Other u (λ m v. if_smaller m (each_smaller E r xs v) v)

  pub normal_next : (V : Values) (M : Marks) (t : Term) (xs : List ToFind) (u : Account) → weak_next E V t ≡ None →
      bind (found_in E r V M t u) (λ m v. if_smaller m (each_smaller E r xs v) v) ≡ next_then (head_mark M t) xs (branches_to_find E r V M t) u
  normal_next V M t xs u e =
      ap (λ d. bind d (λ m v. if_smaller m (each_smaller E r xs v) v)) (normal_concluded V M t u e) ∙ next_concluded (head_mark M t) xs (branches_to_find E r V M t) u
