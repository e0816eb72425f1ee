-- What directed comparison writes is accepted as a script.
use Rattle.std.proofs.Common.{◌≡◌, ◌∙◌, ℕ, zero, suc, ◌+◌, ◌==◌, ◌||◌, Bool, true, if◌then◌else◌, List, [], ◌∷◌, ◌++◌, length, Option, Some, None, refl, sym, ap, subst, arith, slice_get, length-append, append-nil, append_assoc}
use Rattle.std.proofs.lemmas.Bool.{eqb-true, eq-eqb, and_from}
use Rattle.pc_terms.specs.declared.leaf.FamilyId.{FamilyId}
use Rattle.pc_terms.specs.Syntax.{CaseOf, FixOf, Term, Terms, End, Child, Group, Done, Next, Rel, Const, Case, head, args, number, App, Ind, Construct, Fix, list_of}
use Rattle.pc_terms.specs.Formed.{binders_of, EachTerm, AreAll}
use Rattle.calculus_rules.specs.declared.declaration.Constructor.{Constructor}
use Rattle.pc_rules.specs.declared.meter.Account.{Account}
use Rattle.calculus_rules.specs.Environment.{Env, FamilyDecl}
use Rattle.calculus_rules.specs.Context.{Context, Values, values, under, extend}
use Rattle.calculus_rules.specs.Instances.{entries_at, predicate_entries, branch_entries}
use Rattle.calculus_rules.specs.Same.{same, same_families, same_numbers}
use Rattle.pc_rules.specs.DirectedRun as run
use Rattle.pc_rules.specs.DirectedRun.{Run, bind, any_beyond}
use Rattle.calculus_rules.specs.Lookups.{family_of}
use Rattle.pc_rules.specs.DirectedComparison.{Test, Comparison, alike, each_equal, branches_equal, matches_equal, lifted_types, fixpoints_equal, heads_equal}
use Rattle.calculus_rules.proofs.Telescopes.{entries_at_length}
use Rattle.pc_rules.specs.WellCounted.{arities, IsCountedNode, IsCounted, AreCountedValues}
use Rattle.pc_rules.proofs.WeakNext.{same_names_is, same_families_is, both_true}
use Rattle.pc_rules.proofs.SameTrees.{same_numbers_is, same_itself, one_number, one_list, one_family, false_true}
use Rattle.rule_laws.proofs.Runs.{done_value}
use Rattle.rule_laws.proofs.KeepCounts.{under_counted, values_extended}
use Rattle.calculus_rules.proofs.Listing.{first_same, rest_same}
use Rattle.rule_laws.proofs.Comparing.{names_long, list_long, no_suc, no_cons, lifted_long}
use Rattle.cert_rules.specs.declared.item.CertItem.{CertItem}
use Rattle.cert_rules.specs.declared.item.CertItem.TheVariants.{Same, Parts}
use Rattle.cert_rules.specs.Walk.{Items, WalkState, WalkAct, WalkEnd, Passed, Barred, Unpaid, Crowded, pass, bar_here, past, end_on, walk_on, walk_all}
use Rattle.cert_rules.specs.Scripts.{Script, with_part, term_parts, node_parts, parts_of, sorts_at, walk_parts, script_by, script}
use Rattle.cert_rules.specs.Writing.{Wrote, wrote, WriteAct, end_before, writing_steps, noting, noting_all, write_on, write_all, forgotten}
use Rattle.cert_rules.specs.MakingTyping.{MakeComparison, make_each, make_branches_equal, make_matches_equal, make_fixpoints_equal, make_heads_equal, part_items}
use Rattle.cert_rules.proofs.Exact.{done_account}
use Rattle.cert_rules.proofs.Traces.{before_done, before_forgotten, write_both, Traces, trace_on, trace_as, trace_item, trace_noting, trace_passing, trace_crowded, AllTrace, no_trace, a_trace, trace_all}

-- lists of parts

act_list : Script → Values → Terms → Terms → List WalkAct
act_list go V (Next n t ts) (Next m u us) = go (under n V) true t u ∷ act_list go V ts us
act_list go V _ _ = []

part_first : (act : WalkAct) (o : Option (List WalkAct)) (acts : List WalkAct) → o ≡ Some acts → with_part act o ≡ Some (act ∷ acts)
part_first act o acts e = ap (λ o. with_part act o) e

term_parts_are : (go : Script) (V : Values) (ts us : Terms) (o : Option (List WalkAct)) (rest : List WalkAct) → binders_of ts ≡ binders_of us → o ≡ Some rest →
    term_parts go V ts us o ≡ Some (act_list go V ts us ++ rest)
unfolding act_list
term_parts_are go V Done Done o rest b e = e
term_parts_are go V (Next n t ts) (Next m u us) o rest b e =
    let z : n ≡ m = first_same b in
    ap (λ c. if c then with_part (go (under n V) true t u) (term_parts go V ts us o) else None) (eq-eqb n m z)
    ∙ part_first (go (under n V) true t u) (term_parts go V ts us o) (act_list go V ts us ++ rest) (term_parts_are go V ts us o rest (rest_same b) e)
term_parts_are go V Done (Next m u us) o rest b e = no_cons (sym b)
term_parts_are go V (Next n t ts) Done o rest b e = no_cons b

-- walks of lists

all_on_end : (e : WalkEnd (Unit {0})) (xs ys : List WalkAct) → ((v : WalkState) → (walk_all (xs ++ ys) v).end ≡ (walk_on (walk_all xs v) (λ _ v. walk_all ys v)).end) →
    end_on e (λ _ v. (walk_all (xs ++ ys) v).end) ≡ end_on (end_on e (λ _ v. (walk_all xs v).end)) (λ _ v. (walk_all ys v).end)
unfolding walk_on
all_on_end (Passed a v) xs ys h = h v
all_on_end (Barred i u) xs ys h = refl
all_on_end Unpaid xs ys h = refl
all_on_end Crowded xs ys h = refl

all_on : (xs ys : List WalkAct) (s : WalkState) → (walk_all (xs ++ ys) s).end ≡ (walk_on (walk_all xs s) (λ _ v. walk_all ys v)).end
unfolding walk_all walk_on
all_on [] ys s = refl
all_on (x ∷ xs) ys s = all_on_end (x s).end xs ys (λ v. all_on xs ys v)

pub one_end : (e : WalkEnd (Unit {0})) → end_on e (λ _ v. Passed tt v) ≡ e
one_end (Passed a v) = refl
one_end (Barred i u) = refl
one_end Unpaid = refl
one_end Crowded = refl

pub one_act : (act : WalkAct) (s : WalkState) → (walk_all (act ∷ []) s).end ≡ (act s).end
unfolding walk_all walk_on
one_act act s = one_end (act s).end

pub two_acts : (x y : WalkAct) (s : WalkState) → (walk_all (x ∷ y ∷ []) s).end ≡ (walk_on (x s) (λ _ v. y v)).end
unfolding walk_all walk_on
two_acts x y s = λ i. end_on (x s).end (λ _ v. one_act y v i)

-- lists that are written

write_does : {A B : Type 0} (d : Run (Wrote A)) (k : A → Account → Run (Wrote B)) (w : Wrote A) (u : Account) (x : Wrote B) (v : Account) → d.end ≡ run.Done w u →
    (k w.value u).end ≡ run.Done x v → (write_on d k).end ≡ run.Done (wrote (w.items ++ x.items) x.value) v
unfolding write_on
write_does d k w u x v e f = ap (λ r. run.end_then r (λ w u. end_before w.items (k w.value u).end)) e ∙ ap (λ r. end_before w.items r) f

pub nothing_written : (u : Account) → (write_all [] u).end ≡ run.Done (wrote [] tt) u
unfolding write_all writing_steps
nothing_written u = refl

abbrev pub Splits : List WriteAct → WriteAct → Account → Wrote (Unit {0}) → Account → Type 0
Splits gs g u r v =
    (xs : Items) × (m : Account) × ((write_all gs u).end ≡ run.Done (wrote xs tt) m) × ((w : Wrote (Unit {0})) × ((g m).end ≡ run.Done w v) × (xs ++ w.items ≡ r.items))

pub split_all : (gs : List WriteAct) (g : WriteAct) (u : Account) (r : Wrote (Unit {0})) (v : Account) → (write_all (gs ++ (g ∷ [])) u).end ≡ run.Done r v → Splits gs g u r v
unfolding write_all
split_all [] g u r v e =
    let s = write_both (g u) (λ _ v. write_all [] v) r v e in
    let z = sym (nothing_written s.1) ∙ s.3.1 in
    let m : s.1 ≡ v = done_account z in
    let is : [] ≡ s.3.0.items = ap (λ x. x.items) (done_value z) in
    ([], u, nothing_written u, (s.0, subst (λ y. (g u).end ≡ run.Done s.0 y) m s.2, sym (append-nil s.0.items) ∙ ap (λ xs. s.0.items ++ xs) is ∙ ap (λ x. x.items) s.3.2))
split_all (f ∷ gs) g u r v e =
    let s = write_both (f u) (λ _ v. write_all (gs ++ (g ∷ [])) v) r v e in
    let p = split_all gs g s.1 s.3.0 v s.3.1 in (
      s.0.items ++ p.0,
      p.1,
      write_does (f u) (λ _ v. write_all gs v) s.0 s.1 (wrote p.0 tt) p.1 s.2 p.2,
      (p.3.0, p.3.1, append_assoc s.0.items p.0 p.3.0.items ∙ ap (λ xs. s.0.items ++ xs) p.3.2 ∙ ap (λ x. x.items) s.3.2),
    )

pub all_noted : (xs : Items) (k : Unit {0} → Account → Run (Wrote (Unit {0}))) (u : Account) → forgotten (write_on (noting_all xs u) k) ≡ forgotten (k tt u)
unfolding write_on writing_steps
all_noted xs k u = λ i. record { end = before_forgotten xs (k tt u).end i; deep = (k tt u).deep }

pub all_noted_done : (xs : Items) (k : Unit {0} → Account → Run (Wrote (Unit {0}))) (u : Account) (r : Wrote (Unit {0})) (v : Account) →
    (write_on (noting_all xs u) k).end ≡ run.Done r v → (w : Wrote (Unit {0})) × ((k tt u).end ≡ run.Done w v) × (wrote (xs ++ w.items) w.value ≡ r)
unfolding write_on writing_steps
all_noted_done xs k u r v h = before_done xs (k tt u).end r v h

pub parts_last : (xs : List Term) (x : Term) → part_items (xs ++ (x ∷ [])) ≡ Parts ∷ part_items xs
parts_last [] x = refl
parts_last (y ∷ xs) x = ap (λ is. Parts ∷ is) (parts_last xs x)

-- labels, numbers

all_binders : (n : ℕ) (ts us : Terms) → AreAll n (binders_of ts) → AreAll n (binders_of us) → number ts ≡ number us → binders_of ts ≡ binders_of us
all_binders n Done Done a b e = refl
all_binders n Done (Next m u us) a b e = no_suc (sym e)
all_binders n (Next m t ts) Done a b e = no_suc e
all_binders n (Next k t ts) (Next m u us) a b e =
    let r = all_binders n ts us a.1 b.1 (omega arith) in
    let z : k ≡ m = a.0 ∙ sym b.0 in
    λ i. z i ∷ r i

pub no_args : (b : Term) → length (args b) ≡ 0 → (head b ≡ b) × (args b ≡ [])
no_args (App g y) e = let l : length (args g ++ (y ∷ [])) ≡ length (args g) + 1 = length-append (args g) (y ∷ []) in absurd (omega arith)
no_args b e = (refl, refl)

module _ (cert : Items) (E : Env) (q : Test) where
  pub script_takes : (m : ℕ) (V : Values) (equal : Bool) (a b : Term) (s : WalkState) (x : CertItem) → slice_get cert s.at ≡ Some x →
      (script cert E q (suc m) V equal a b s).end ≡ (script_by E q (script cert E q m) (Some x) V equal a b s).end
  unfolding script
  script_takes m V equal a b s x e = ap (λ o. (script_by E q (script cert E q m) o V equal a b s).end) e

  pub script_crowded : (V : Values) (equal : Bool) (a b : Term) (s : WalkState) → (script cert E q zero V equal a b s).end ≡ Crowded
  unfolding script
  script_crowded V equal a b s = refl

  pub by_fuel : {d : Account → Run (Unit {0})} {g : WriteAct} (V : Values) (equal : Bool) (a b : Term) →
      ((m : ℕ) → Traces cert (λ _. Unit {0}) d g (λ s. script cert E q (suc m) V equal a b s)) → (m : ℕ) →
      Traces cert (λ _. Unit {0}) d g (λ s. script cert E q m V equal a b s)
  by_fuel V equal a b h zero =
      trace_crowded cert (λ s. script cert E q 1 V equal a b s) (λ s. script cert E q 0 V equal a b s) (λ s. script_crowded V equal a b s) (h 0)
  by_fuel V equal a b h (suc m) = h m

  pub same_pass : (m : ℕ) (V : Values) (equal : Bool) (a b : Term) (s : WalkState) → (same a b || sorts_at q equal a b) ≡ true → slice_get cert s.at ≡ Some Same →
      (script cert E q (suc m) V equal a b s).end ≡ Passed tt (past s)
  same_pass m V equal a b s h e =
      script_takes m V equal a b s Same e ∙ ap (λ c. (if c then pass {A = Unit {0}} tt (past s) else bar_here s).end) h

  pub trace_same : (V : Values) (equal : Bool) (a b : Term) → (same a b || sorts_at q equal a b) ≡ true → (m : ℕ) →
      Traces cert (λ _. Unit {0}) (λ u. run.done tt u) (λ u. noting Same u) (λ s. script cert E q m V equal a b s)
  trace_same V equal a b h m =
      by_fuel V equal a b (λ m. trace_noting cert Same (λ s. script cert E q (suc m) V equal a b s) tt (λ s e. same_pass m V equal a b s h e)) m

  pub parts_take : (m : ℕ) (V : Values) (equal : Bool) (a b : Term) (acts : List WalkAct) (s : WalkState) → parts_of (script cert E q m) V equal a b ≡ Some acts →
      slice_get cert s.at ≡ Some Parts → (script cert E q (suc m) V equal a b s).end ≡ (walk_all acts (past s)).end
  parts_take m V equal a b acts s p e = script_takes m V equal a b s Parts e ∙ ap (λ o. (walk_parts s.at o (past s)).end) p

  -- the acts of the parts, with what they trace
  abbrev pub TracesParts : (d : Account → Run (Unit {0})) → WriteAct → Option (List WalkAct) → Type 0
  TracesParts d g o = (acts : List WalkAct) × (o ≡ Some acts) × Traces cert (λ _. Unit {0}) d g (λ s. walk_all acts s)

  pub trace_parts : (V : Values) (equal : Bool) (a b : Term) (d : Account → Run (Unit {0})) (g : WriteAct) →
      ((m : ℕ) → TracesParts d g (parts_of (script cert E q m) V equal a b)) → (m : ℕ) →
      Traces cert (λ _. Unit {0}) d (λ u. write_on (noting Parts u) (λ _ v. g v)) (λ s. script cert E q m V equal a b s)
  trace_parts V equal a b d g h m =
      by_fuel V equal a b
      (λ m. let r = h m in
      trace_item cert Parts d g (λ s. walk_all r.0 s) (λ s. script cert E q (suc m) V equal a b s) (λ s e. parts_take m V equal a b r.0 s r.1 e) r.2) m

  pub trace_two : (d e : Account → Run (Unit {0})) (f g : WriteAct) (x y : WalkAct) → Traces cert (λ _. Unit {0}) d f x → Traces cert (λ _. Unit {0}) e g y →
      Traces cert (λ _. Unit {0}) (λ u. bind (d u) (λ _ v. e v)) (λ u. write_on (f u) (λ _ v. g v)) (λ s. walk_all (x ∷ y ∷ []) s)
  trace_two d e f g x y p r =
      trace_as cert (λ s. walk_on (x s) (λ _ v. y v)) (λ s. walk_all (x ∷ y ∷ []) s) (λ s. two_acts x y s)
      (trace_on cert d f x (λ _ v. e v) (λ _ v. g v) (λ _ v. y v) p (λ a t. r))

  trace_cons : (d e : Account → Run (Unit {0})) (f g : WriteAct) (x : WalkAct) (ys : List WalkAct) → Traces cert (λ _. Unit {0}) d f x →
      Traces cert (λ _. Unit {0}) e g (λ s. walk_all ys s) →
      Traces cert (λ _. Unit {0}) (λ u. bind (d u) (λ _ v. e v)) (λ u. write_on (f u) (λ _ v. g v)) (λ s. walk_all (x ∷ ys) s)
  unfolding walk_all
  trace_cons d e f g x ys p r = trace_on cert d f x (λ _ v. e v) (λ _ v. g v) (λ _ v. walk_all ys v) p (λ a t. r)

  trace_append : (d e : Account → Run (Unit {0})) (f g : WriteAct) (xs ys : List WalkAct) → Traces cert (λ _. Unit {0}) d f (λ s. walk_all xs s) →
      Traces cert (λ _. Unit {0}) e g (λ s. walk_all ys s) →
      Traces cert (λ _. Unit {0}) (λ u. bind (d u) (λ _ v. e v)) (λ u. write_on (f u) (λ _ v. g v)) (λ s. walk_all (xs ++ ys) s)
  trace_append d e f g xs ys p r =
      trace_as cert (λ s. walk_on (walk_all xs s) (λ _ v. walk_all ys v)) (λ s. walk_all (xs ++ ys) s) (λ s. all_on xs ys s)
      (trace_on cert d f (λ s. walk_all xs s) (λ _ v. e v) (λ _ v. g v) (λ _ v. walk_all ys v) p (λ a t. r))

  -- a comparison, the same with items, and scripts
  abbrev pub Scripted : Comparison → MakeComparison → Type 0
  Scripted cmp mk = (c : Context) (equal : Bool) (a b : Term) → AreCountedValues E (values c) → IsCounted E a → IsCounted E b → (m : ℕ) →
      Traces cert (λ _. Unit {0}) (λ u. cmp c equal a b u) (λ u. mk c equal a b u) (λ s. script cert E q m (values c) equal a b s)

  module _ (cmp : Comparison) (mk : MakeComparison) (sc : Scripted cmp mk) where
    -- a comparison under a context, as one under values
    under_trace : (d : Context) (W : Values) → values d ≡ W → AreCountedValues E (values d) → (a b : Term) → IsCounted E a → IsCounted E b → (m : ℕ) →
        Traces cert (λ _. Unit {0}) (λ u. cmp d true a b u) (λ u. mk d true a b u) (λ s. script cert E q m W true a b s)
    under_trace d W e vs a b ca cb m =
        subst (λ W. Traces cert (λ _. Unit {0}) (λ u. cmp d true a b u) (λ u. mk d true a b u) (λ s. script cert E q m W true a b s)) e (sc d true a b vs ca cb m)

    each_trace : (m n : ℕ) (V : Values) (d : Context) → values d ≡ under n V → AreCountedValues E (values d) → (ts us : Terms) → AreAll n (binders_of ts) →
        EachTerm (IsCountedNode E) ts → EachTerm (IsCountedNode E) us →
        AllTrace cert (each_equal cmp d (list_of ts) (list_of us)) (make_each mk d (list_of ts) (list_of us)) (act_list (script cert E q m) V ts us)
    unfolding act_list
    each_trace m n V d e vs Done us a ct cu = no_trace
    each_trace m n V d e vs (Next k t ts) Done a ct cu = no_trace
    each_trace m n V d e vs (Next k t ts) (Next l u us) a ct cu =
        let z : n ≡ k = sym a.0 in
        a_trace (under_trace d (under k V) (e ∙ ap (λ k. under k V) z) vs t u ct.0 cu.0 m) (each_trace m n V d e vs ts us a.1 ct.1 cu.1)

    extended_counted : (c : Context) (As : List Term) → AreCountedValues E (values c) → AreCountedValues E (values (extend c As))
    extended_counted c As h = subst (λ V. AreCountedValues E V) (sym (values_extended E c As)) (under_counted E (length As) (values c) h)

    branches_trace : (m : ℕ) (c : Context) → AreCountedValues E (values c) → (ps : List Term) (Cs : List Constructor) (bs bs' : Terms) → binders_of bs ≡ arities Cs →
        binders_of bs' ≡ arities Cs → EachTerm (IsCountedNode E) bs → EachTerm (IsCountedNode E) bs' →
        AllTrace cert (branches_equal cmp c ps Cs (list_of bs) (list_of bs')) (make_branches_equal mk c ps Cs (list_of bs) (list_of bs'))
        (act_list (script cert E q m) (values c) bs bs')
    unfolding act_list
    branches_trace m c vs ps [] Done Done n n' h h' = no_trace
    branches_trace m c vs ps [] (Next k t ts) bs' n n' h h' = no_cons n
    branches_trace m c vs ps [] Done (Next k t ts) n n' h h' = no_cons n'
    branches_trace m c vs ps (C ∷ Cs) Done bs' n n' h h' = no_cons (sym n)
    branches_trace m c vs ps (C ∷ Cs) (Next k t ts) Done n n' h h' = no_cons (sym n')
    branches_trace m c vs ps (C ∷ Cs) (Next k t ts) (Next k' t' ts') n n' h h' =
        let As : List Term = branch_entries C ps in
        let l : length As ≡ k = entries_at_length _ C.args ∙ sym (first_same n) in
        a_trace
        (trace_passing cert (any_beyond As) (λ u. cmp (extend c As) true t t' u) (λ u. mk (extend c As) true t t' u) (λ s. script cert E q m (under k (values c)) true t t' s)
        (under_trace (extend c As) (under k (values c)) (values_extended E c As ∙ ap (λ k. under k (values c)) l) (extended_counted c As vs) t t' h.0 h'.0 m))
        (branches_trace m c vs ps Cs ts ts' (rest_same n) (rest_same n') h.1 h'.1)

    module _ (c : Context) (vs : AreCountedValues E (values c)) where
      -- two matches

      case_acts : (m : ℕ) (n : ℕ) (ps qs bs bs' : Terms) (ret ret' s s' : Term) → List WalkAct
      case_acts m n ps qs bs bs' ret ret' s s' =
          act_list (script cert E q m) (values c) ps qs
          ++ (script cert E q m (under n (values c)) true ret ret' ∷ script cert E q m (values c) true s s' ∷ (act_list (script cert E q m) (values c) bs bs' ++ []))

      case_parts : (m : ℕ) (equal : Bool) (f : FamilyId) (n : ℕ) (ps qs bs bs' : Terms) (ret ret' s s' : Term) → binders_of ps ≡ binders_of qs → binders_of bs ≡ binders_of bs' →
          parts_of (script cert E q m) (values c) equal (Case f ps n ret s bs) (Case f qs n ret' s' bs') ≡ Some (case_acts m n ps qs bs bs' ret ret' s s')
      unfolding case_acts
      case_parts m equal f n ps qs bs bs' ret ret' s s' e e' =
          let go : Script = script cert E q m in
          let V : Values = values c in
          let ends : Option (List WalkAct) = term_parts go V bs bs' (Some []) in
          ap (λ b. if b then node_parts go V equal (CaseOf f n) (Group ps (Child {n = n} ret (Child {n = 0} s (Group bs End)))) (Group qs (Child {n = n} ret' (Child {n = 0} s' (Group bs' End)))) else None)
          (and_from (same_families f f) (n == n) (one_family f) (one_number n))
          ∙ term_parts_are go V ps qs (with_part (go (under n V) true ret ret') (with_part (go V true s s') ends)) _ e
          (part_first (go (under n V) true ret ret') (with_part (go V true s s') ends) _
          (part_first (go V true s s') ends _ (term_parts_are go V bs bs' (Some []) [] e' refl)))

      matches_trace : (m : ℕ) (f : FamilyId) (F : FamilyDecl) (n : ℕ) (ps qs bs bs' : Terms) (ret ret' s s' : Term) → n ≡ suc (length F.indices) → binders_of bs ≡ arities F.constructors →
          binders_of bs' ≡ arities F.constructors → AreAll 0 (binders_of ps) → EachTerm (IsCountedNode E) ps → EachTerm (IsCountedNode E) qs → IsCounted E ret → IsCounted E ret' →
          IsCounted E s → IsCounted E s' → EachTerm (IsCountedNode E) bs → EachTerm (IsCountedNode E) bs' →
          Traces cert (λ _. Unit {0}) (λ u. matches_equal cmp c f (Some F) ps ret s bs qs ret' s' bs' u) (λ u. make_matches_equal mk c f (Some F) ps ret s bs qs ret' s' bs' u)
          (λ z. walk_all (case_acts m n ps qs bs bs' ret ret' s s') z)
      unfolding case_acts
      matches_trace m f F n ps qs bs bs' ret ret' s s' en eb eb' ap' kp kq kr kr' ks ks' kb kb' =
          let As : List Term = predicate_entries f F (list_of ps) in
          let go : Script = script cert E q m in
          let long : length As ≡ n = length-append (entries_at _ F.indices) _ ∙ ap (λ m. m + 1) (entries_at_length _ F.indices) ∙ (omega arith) in
          let rets = trace_passing cert (any_beyond As) (λ u. cmp (extend c As) true ret ret' u) (λ u. mk (extend c As) true ret ret' u) (λ z. go (under n (values c)) true ret ret' z)
          (under_trace (extend c As) (under n (values c)) (values_extended E c As ∙ ap (λ k. under k (values c)) long) (extended_counted c As vs) ret ret' kr kr' m) in
          let brs = subst (λ hs. Traces cert (λ _. Unit {0}) (λ u. run.run_all (branches_equal cmp c (list_of ps) F.constructors (list_of bs) (list_of bs')) u)
          (λ u. write_all (make_branches_equal mk c (list_of ps) F.constructors (list_of bs) (list_of bs')) u) (λ z. walk_all hs z))
          (sym (append-nil (act_list go (values c) bs bs'))) (trace_all cert (branches_trace m c vs (list_of ps) F.constructors bs bs' eb eb' kb kb')) in
          trace_append _ _ _ _ _ _ (trace_all cert (each_trace m 0 (values c) c refl vs ps qs ap' kp kq))
          (trace_cons _ _ _ _ _ _ rets (trace_cons _ _ _ _ _ _ (sc c true s s' vs ks ks' m) brs))

      case_trace : (m : ℕ) (equal : Bool) (f g : FamilyId) (n k : ℕ) (ps qs bs bs' : Terms) (ret ret' s s' : Term) → IsCounted E (Case f ps n ret s bs) →
          IsCounted E (Case g qs k ret' s' bs') → alike (Case f ps n ret s bs) (Case g qs k ret' s' bs') ≡ true →
          TracesParts (λ u. matches_equal cmp c f (family_of E f) ps ret s bs qs ret' s' bs' u) (λ u. make_matches_equal mk c f (family_of E f) ps ret s bs qs ret' s' bs' u)
          (parts_of (script cert E q m) (values c) equal (Case f ps n ret s bs) (Case g qs k ret' s' bs'))
      case_trace m equal f g n k ps qs bs bs' ret ret' s s' h h' t =
          let t1 = both_true (same_families f g) _ t in
          let t2 = both_true (number ps == number qs) _ t1.1 in
          let t3 = both_true (n == k) (same_numbers (binders_of bs) (binders_of bs')) t2.1 in
          let names : binders_of bs ≡ binders_of bs' = same_numbers_is (binders_of bs) (binders_of bs') t3.1 in
          let fits = h.0.1 in
          let F : FamilyDecl = fits.0 in
          let o : List WalkAct = case_acts m n ps qs bs bs' ret ret' s s' in
          let params : binders_of ps ≡ binders_of qs = all_binders 0 ps qs h.0.0.0 h'.0.0.0 (eqb-true (number ps) (number qs) t2.0) in (
            o,
            subst (λ x. parts_of (script cert E q m) (values c) equal (Case f ps n ret s bs) (Case x qs k ret' s' bs') ≡ Some o) (same_families_is f g t1.0)
                (subst (λ x. parts_of (script cert E q m) (values c) equal (Case f ps n ret s bs) (Case f qs x ret' s' bs') ≡ Some o) (eqb-true n k t3.0)
                (case_parts m equal f n ps qs bs bs' ret ret' s s' params names)),
            subst (λ x. Traces cert (λ _. Unit {0}) (λ u. matches_equal cmp c f x ps ret s bs qs ret' s' bs' u) (λ u. make_matches_equal mk c f x ps ret s bs qs ret' s' bs' u) (λ z. walk_all o z))
                (sym fits.1)
                (matches_trace m f F n ps qs bs bs' ret ret' s s' fits.3 fits.4 (sym names ∙ fits.4) h.0.0.0 h.1.0 h'.1.0 h.1.1.0 h'.1.1.0 h.1.1.1.0 h'.1.1.1.0 h.1.1.1.1.0 h'.1.1.1.1.0),
          )

      -- two fixpoints

      fix_parts : (m : ℕ) (equal : Bool) (i : ℕ) (rargs : List ℕ) (types types' bodies bodies' : Terms) → binders_of types ≡ binders_of types' → binders_of bodies ≡ binders_of bodies' →
          parts_of (script cert E q m) (values c) equal (Fix i rargs types bodies) (Fix i rargs types' bodies')
          ≡ Some (act_list (script cert E q m) (values c) types types' ++ (act_list (script cert E q m) (values c) bodies bodies' ++ []))
      fix_parts m equal i rargs types types' bodies bodies' e e' =
          let go : Script = script cert E q m in
          let V : Values = values c in
          ap (λ b. if b then node_parts go V equal (FixOf i rargs) (Group types (Group bodies End)) (Group types' (Group bodies' End)) else None)
          (and_from (i == i) (same_numbers rargs rargs) (one_number i) (one_list rargs))
          ∙ term_parts_are go V types types' (term_parts go V bodies bodies' (Some [])) _ e (term_parts_are go V bodies bodies' (Some []) [] e' refl)

      fix_trace : (m : ℕ) (equal : Bool) (i j : ℕ) (rargs rargs' : List ℕ) (types types' bodies bodies' : Terms) → IsCounted E (Fix i rargs types bodies) →
          IsCounted E (Fix j rargs' types' bodies') → alike (Fix i rargs types bodies) (Fix j rargs' types' bodies') ≡ true →
          TracesParts (λ u. fixpoints_equal cmp c types bodies types' bodies' u) (λ u. make_fixpoints_equal mk c types bodies types' bodies' u)
          (parts_of (script cert E q m) (values c) equal (Fix i rargs types bodies) (Fix j rargs' types' bodies'))
      fix_trace m equal i j rargs rargs' types types' bodies bodies' h k t =
          let go : Script = script cert E q m in
          let V : Values = values c in
          let n : ℕ = length rargs in
          let t1 = both_true (i == j) (same_numbers rargs rargs') t in
          let rs : rargs ≡ rargs' = same_numbers_is rargs rargs' t1.1 in
          let a = h.0.0.0 in
          let b = k.0.0.0 in
          let types_long : number types ≡ number types' = sym (names_long types) ∙ a.0 ∙ ap length rs ∙ sym b.0 ∙ names_long types' in
          let bodies_long : number bodies ≡ number bodies' = sym (names_long bodies) ∙ a.2 ∙ ap length rs ∙ sym b.2 ∙ names_long bodies' in
          let As : List Term = lifted_types 0 (list_of types) in
          let long : length As ≡ n = lifted_long 0 (list_of types) ∙ list_long types ∙ sym (names_long types) ∙ a.0 in
          let D : Context = extend c As in
          let bs = trace_all cert (each_trace m n V D (values_extended E c As ∙ ap (λ k. under k V) long) (extended_counted c As vs) bodies bodies' a.3 h.1.1.0 k.1.1.0) in
          let bs' = subst (λ hs. Traces cert (λ _. Unit {0}) (λ u. run.run_all (each_equal cmp D (list_of bodies) (list_of bodies')) u)
          (λ u. write_all (make_each mk D (list_of bodies) (list_of bodies')) u) (λ z. walk_all hs z)) (sym (append-nil (act_list go V bodies bodies'))) bs in (
            act_list go V types types' ++ (act_list go V bodies bodies' ++ []),
            subst (λ x. parts_of go V equal (Fix i rargs types bodies) (Fix x rargs' types' bodies') ≡ Some (act_list go V types types' ++ (act_list go V bodies bodies' ++ [])))
                (eqb-true i j t1.0)
                (subst (λ x. parts_of go V equal (Fix i rargs types bodies) (Fix i x types' bodies') ≡ Some (act_list go V types types' ++ (act_list go V bodies bodies' ++ []))) rs
                (fix_parts m equal i rargs types types' bodies bodies' (all_binders 0 types types' a.1 b.1 types_long)
                (all_binders n bodies bodies' a.3 (subst (λ x. AreAll (length x) (binders_of bodies')) (sym rs) b.3) bodies_long))),
            trace_append _ _ _ _ _ _ (trace_all cert (each_trace m 0 V c refl vs types types' a.1 h.1.0 k.1.0)) (trace_passing cert (any_beyond As) _ _ _ bs'),
          )

      -- heads

      same_head : (equal : Bool) (a b : Term) → a ≡ b → (same a b || sorts_at q equal a b) ≡ true
      same_head equal a b e = ap (λ x. x || sorts_at q equal a b) (subst (λ x. same a x ≡ true) e (same_itself a))

      pub heads_trace : (equal : Bool) (a b : Term) → IsCounted E a → IsCounted E b → alike a b ≡ true → (m : ℕ) →
          Traces cert (λ _. Unit {0}) (λ u. heads_equal E cmp c a b u) (λ u. make_heads_equal E mk c a b u) (λ s. script cert E q m (values c) equal a b s)
      heads_trace equal (Rel i) (Rel j) h k t m = trace_same (values c) equal (Rel i) (Rel j) (same_head equal (Rel i) (Rel j) (ap (λ x. Rel x) (eqb-true i j t))) m
      heads_trace equal (Const x) (Const y) h k t m =
          trace_same (values c) equal (Const x) (Const y) (same_head equal (Const x) (Const y) (ap (λ z. Const z) (same_names_is x y t))) m
      heads_trace equal (Ind f) (Ind g) h k t m = trace_same (values c) equal (Ind f) (Ind g) (same_head equal (Ind f) (Ind g) (ap (λ z. Ind z) (same_families_is f g t))) m
      heads_trace equal (Construct f i) (Construct g j) h k t m =
          let t1 = both_true (same_families f g) (i == j) t in
          trace_same (values c) equal (Construct f i) (Construct g j)
          (same_head equal (Construct f i) (Construct g j) (ap (λ z. Construct z i) (same_families_is f g t1.0) ∙ ap (λ z. Construct g z) (eqb-true i j t1.1))) m
      heads_trace equal (Case f ps n ret s bs) (Case g qs k ret' s' bs') h h' t m =
          trace_parts (values c) equal (Case f ps n ret s bs) (Case g qs k ret' s' bs') _ _ (λ m. case_trace m equal f g n k ps qs bs bs' ret ret' s s' h h' t) m
      heads_trace equal (Fix i rargs types bodies) (Fix j rargs' types' bodies') h k t m =
          trace_parts (values c) equal (Fix i rargs types bodies) (Fix j rargs' types' bodies') _ _ (λ m. fix_trace m equal i j rargs rargs' types types' bodies bodies' h k t) m
      heads_trace equal a b h k t m = false_true t
