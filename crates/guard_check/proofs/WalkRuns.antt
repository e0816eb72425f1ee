-- How answers follow the walk over a term, part by part.
use Rattle.std.proofs.Common.{◌≡◌, ◌∙◌, sym, ap, refl, subst, ℕ, zero, suc, ◌+◌, ◌<◌, ◌≤◌, Bool, if◌then◌else◌, Option, None, List, [], ◌∷◌, length, drop, get_or, Result, Ok, Err, slice_get, add-one, ◌⊎◌, inl, inr, arith, Some, IsErrAnd}
use Rattle.std.proofs.lemmas.List.{drop_all}
use Rattle.trees.specs.Tree.{terms_of}
use Rattle.universe_levels.specs.declared.sort.Sort.{Sort}
use Rattle.pc_terms.specs.declared.leaf.Name.{Name}
use Rattle.pc_terms.specs.declared.leaf.FamilyId.{FamilyId}
use Rattle.pc_terms.specs.declared.term.Branch.{Branch}
use Rattle.pc_terms.specs.declared.term.Def.{Def}
use Rattle.pc_terms.specs.declared.term.Node.{Node}
use Rattle.pc_terms.specs.declared.term.Node.TheVariants as node
use Rattle.pc_terms.specs.Lists.{arms_of, types_of, bodies_of, rargs_of}
use Rattle.pc_terms.specs.View.{tree_of}
use Rattle.pc_terms.specs.Syntax.{Term, Terms, Lambda, LetIn, App}
use Rattle.calculus_rules.specs.declared.declaration.Constructor.{Constructor}
use Rattle.pc_rules.specs.declared.meter.Meter.{Meter}
use Rattle.pc_rules.specs.declared.broken.Broken.TheVariants.{NotGuarded}
use Rattle.pc_rules.specs.declared.stop.Halt.{Halt}
use Rattle.pc_rules.specs.declared.stop.Stop.{Stop as StopKind}
use Rattle.pc_rules.specs.declared.stop.Stop.TheVariants.{Memory}
use Rattle.pc_rules.specs.declared.stop.Halt.TheVariants.{Stop, Broken as Refusal}
use Rattle.calculus_rules.specs.Environment.{Env}
use Rattle.calculus_rules.specs.Context.{Values, under}
use Rattle.calculus_rules.specs.Guardedness.{Mark, Smaller, Other, Marks, Ending, others}
use Rattle.pc_rules.specs.DirectedRun.{Act, run_all, bind}
use Rattle.pc_rules.specs.DirectedGuard.{first_marks, walk, walk_terms, walk_branches, walk_passed, walk_under, if_passed, interleaved, body_guard, bodies_guard}
use Rattle.pc_rules.specs.Follows.{Follows}
use Rattle.pc_rules.proofs.Following.{follows_bind, follows_err, follows_refused, follows_none, follows_next, follows_first_err, follows_halted, follows_no_memory}
use Rattle.pc_rules.proofs.Leaving.{leaving}
use Rattle.pc_rules.proofs.ListSteps.{next_is}
use Rattle.guard_check.specs.declared.mark.Mark.{Mark as Kept}
use Rattle.guard_check.specs.declared.mark.Mark.TheVariants as kept
use Rattle.guard_check.specs.Marks.{mark_of}
use Rattle.guard_check.specs.Tasks.{opened_marks}
use Rattle.guard_check.proofs.Bodies.{later_drop, first_opened}

pub follows_last : (act : Act) (r : Result (Unit {0}) Halt) (m0 m1 : Meter) → Follows (act m0.account) r m0 m1 → Follows (run_all (act ∷ []) m0.account) r m0 m1
follows_last act (Ok x) m0 m1 f = follows_next act [] (Ok x) m0 m1 m1 f (follows_none m1)
follows_last act (Err h) m0 m1 f = follows_first_err act [] h m0 m1 f (search leaving)

-- a walk by equal values and marks
pub walk_in : (E : Env) (block : Option Name) (V V' : Values) (M M' : Marks) (t : Term) (r : Result (Unit {0}) Halt) (m0 m1 : Meter) → V ≡ V' → M ≡ M' →
    Follows (walk E block V M [] t m0.account) r m0 m1 → Follows (walk E block V' M' [] t m0.account) r m0 m1
walk_in E block V V' M M' t r m0 m1 e h f = subst (λ M. Follows (walk E block V' M [] t m0.account) r m0 m1) h (subst (λ V. Follows (walk E block V M [] t m0.account) r m0 m1) e f)

pub under_in : (E : Env) (block : Option Name) (V V' : Values) (M M' : Marks) (mark : Mark) (k : ℕ) (t : Term) (r : Result (Unit {0}) Halt) (m0 m1 : Meter) → V ≡ V' → M ≡ M' →
    Follows (walk_under E block V M mark k t m0.account) r m0 m1 → Follows (walk_under E block V' M' mark k t m0.account) r m0 m1
under_in E block V V' M M' mark k t r m0 m1 e h f =
    subst (λ M. Follows (walk_under E block V' M mark k t m0.account) r m0 m1) h (subst (λ V. Follows (walk_under E block V M mark k t m0.account) r m0 m1) e f)

pub in_scope : (E : Env) (V V' : Values) (M M' : Marks) (rargs : List ℕ) (bodies : Terms) (r : Result (Unit {0}) Halt) (m0 m1 : Meter) → V ≡ V' → M ≡ M' →
    Follows (run_all (bodies_guard E V M rargs bodies) m0.account) r m0 m1 → Follows (run_all (bodies_guard E V' M' rargs bodies) m0.account) r m0 m1
in_scope E V V' M M' rargs bodies r m0 m1 e h f =
    subst (λ M. Follows (run_all (bodies_guard E V' M rargs bodies) m0.account) r m0 m1) h (subst (λ V. Follows (run_all (bodies_guard E V M rargs bodies) m0.account) r m0 m1) e f)

module _ (E : Env) (block : Option Name) (V : Values) (M : Marks) where
  -- a sort or a name

  leaf : (n : Node) (t : Term) (xs : List Term) (m : Meter) → tree_of n ≡ t → Follows (walk E block V M xs (tree_of n) m.account) (Ok tt) m m → Follows (walk E block V M xs t m.account) (Ok tt) m m
  leaf n t xs m e f = subst (λ t. Follows (walk E block V M xs t m.account) (Ok tt) m m) e f

  pub walk_leaf : (n : Node) (t : Term) (xs : List Term) (m : Meter) → tree_of n ≡ t →
      ((s : Sort) × (n ≡ node.Sort s)) ⊎ (((k : Name) × (n ≡ node.Const k)) ⊎ (((f : FamilyId) × (n ≡ node.Ind f)) ⊎ ((f : FamilyId) × (c : ℕ) × (n ≡ node.Construct f c)))) →
      Follows (walk E block V M xs t m.account) (Ok tt) m m
  walk_leaf n t xs m e (inl p) = leaf (node.Sort p.0) t xs m (ap tree_of (sym p.1) ∙ e) (follows_none m)
  walk_leaf n t xs m e (inr (inl p)) = leaf (node.Const p.0) t xs m (ap tree_of (sym p.1) ∙ e) (follows_none m)
  walk_leaf n t xs m e (inr (inr (inl p))) = leaf (node.Ind p.0) t xs m (ap tree_of (sym p.1) ∙ e) (follows_none m)
  walk_leaf n t xs m e (inr (inr (inr p))) = leaf (node.Construct p.0 p.1) t xs m (ap tree_of (sym p.2) ∙ e) (follows_none m)

  -- a body under its lambdas

  other_node : (n : Node) (mark : Mark) (r : ℕ) (m : Meter) → ((A b : Term) → n ≡ node.Lambda A b → ⊥) →
      Follows (walk_under E block V M mark r (tree_of n) m.account) (Err (Refusal (NotGuarded (tree_of n)))) m m
  other_node (node.Lambda A b) mark r m h = absurd (h A b refl)
  other_node n mark zero m h = follows_refused (NotGuarded (tree_of n)) m
  other_node n mark (suc r) m h = follows_refused (NotGuarded (tree_of n)) m

  pub under_other : (n : Node) (mark : Mark) (t : Term) (r : ℕ) (m : Meter) → tree_of n ≡ t → ((A b : Term) → n ≡ node.Lambda A b → ⊥) →
      Follows (walk_under E block V M mark r t m.account) (Err (Refusal (NotGuarded t))) m m
  under_other n mark t r m e h = subst (λ t. Follows (walk_under E block V M mark r t m.account) (Err (Refusal (NotGuarded t))) m m) e (other_node n mark r m h)

  pub under_stops : (A b : Term) (mark : Mark) (r : ℕ) (h : Halt) (m0 m1 : Meter) → Follows (walk E block V M [] A m0.account) (Err h) m0 m1 →
      Follows (walk_under E block V M mark r (Lambda A b) m0.account) (Err h) m0 m1
  under_stops A b mark zero h m0 m1 f = follows_err (walk E block V M [] A m0.account) (λ _ v. walk E block (None ∷ V) (mark ∷ M) [] b v) h m0 m1 f (search leaving)
  under_stops A b mark (suc r) h m0 m1 f = follows_err (walk E block V M [] A m0.account) (λ _ v. walk_under E block (None ∷ V) (Other ∷ M) mark r b v) h m0 m1 f (search leaving)

  pub under_last : (A b : Term) (mark : Mark) (k : ℕ) (r : Result (Unit {0}) Halt) (m0 m1 m2 : Meter) → k ≡ 0 → Follows (walk E block V M [] A m0.account) (Ok tt) m0 m1 →
      Follows (walk E block (None ∷ V) (mark ∷ M) [] b m1.account) r m1 m2 → Follows (walk_under E block V M mark k (Lambda A b) m0.account) r m0 m2
  under_last A b mark zero r m0 m1 m2 e f g = follows_bind (walk E block V M [] A m0.account) (λ _ v. walk E block (None ∷ V) (mark ∷ M) [] b v) tt r m0 m1 m2 f g
  under_last A b mark (suc k) r m0 m1 m2 e f g = absurd (omega arith)

  pub under_more : (A b : Term) (mark : Mark) (k j : ℕ) (r : Result (Unit {0}) Halt) (m0 m1 m2 : Meter) → k ≡ suc j → Follows (walk E block V M [] A m0.account) (Ok tt) m0 m1 →
      Follows (walk_under E block (None ∷ V) (Other ∷ M) mark j b m1.account) r m1 m2 → Follows (walk_under E block V M mark k (Lambda A b) m0.account) r m0 m2
  under_more A b mark k j r m0 m1 m2 e f g =
      subst (λ k. Follows (walk_under E block V M mark k (Lambda A b) m0.account) r m0 m2) (sym e)
      (follows_bind (walk E block V M [] A m0.account) (λ _ v. walk_under E block (None ∷ V) (Other ∷ M) mark j b v) tt r m0 m1 m2 f g)

  -- lists of terms

  module _ (ts : List Term) (i : ℕ) (t : Term) (l : i < length ts) (is : t ≡ get_or ts i t) where
    pub terms_next : (r : Result (Unit {0}) Halt) (m0 m1 m2 : Meter) → Follows (walk E block V M [] t m0.account) (Ok tt) m0 m1 →
        Follows (run_all (walk_terms E block V M (terms_of (drop (i + 1) ts))) m1.account) r m1 m2 → Follows (run_all (walk_terms E block V M (terms_of (drop i ts))) m0.account) r m0 m2
    terms_next r m0 m1 m2 f g =
        subst (λ us. Follows (run_all (walk_terms E block V M (terms_of us)) m0.account) r m0 m2) (sym (next_is ts i t l is))
        (follows_next (walk E block V M [] t) (walk_terms E block V M (terms_of (drop (i + 1) ts))) r m0 m1 m2 f g)

    pub terms_stop : (h : Halt) (m0 m1 : Meter) → Follows (walk E block V M [] t m0.account) (Err h) m0 m1 → Follows (run_all (walk_terms E block V M (terms_of (drop i ts))) m0.account) (Err h) m0 m1
    terms_stop h m0 m1 f =
        subst (λ us. Follows (run_all (walk_terms E block V M (terms_of us)) m0.account) (Err h) m0 m1) (sym (next_is ts i t l is))
        (follows_first_err (walk E block V M [] t) (walk_terms E block V M (terms_of (drop (i + 1) ts))) h m0 m1 f (search leaving))

  pub terms_end : (ts : List Term) (i : ℕ) (m : Meter) → length ts ≤ i → Follows (run_all (walk_terms E block V M (terms_of (drop i ts))) m.account) (Ok tt) m m
  terms_end ts i m l = subst (λ us. Follows (run_all (walk_terms E block V M (terms_of us)) m.account) (Ok tt) m m) (sym (drop_all i ts l)) (follows_none m)

  -- branches

  module _ (k : Ending) (opened : Bool) (Cs : List Constructor) where
    -- the marks of the variables of a branch
    abbrev pub marks_at : ℕ → ℕ → Marks
    marks_at i n = if opened then opened_marks k (slice_get Cs i) n M else others n M

    marks_first : (i n : ℕ) → (if opened then first_marks k (drop i Cs) n M else others n M) ≡ marks_at i n
    marks_first i n = ap (λ N. if opened then N else others n M) (first_opened k Cs i n M)

    abbrev pub branches_from : List Branch → ℕ → List Act
    branches_from bs i = walk_branches E block V M k opened (drop i Cs) (arms_of (drop i bs))

    next_branch : (bs : List Branch) (i : ℕ) (b : Branch) → i < length bs → b ≡ get_or bs i b →
        branches_from bs i ≡ walk E block (under b.binders V) (marks_at i b.binders) [] b.body ∷ branches_from bs (i + 1)
    next_branch bs i b l is =
        ap (λ us. walk_branches E block V M k opened (drop i Cs) (arms_of us)) (next_is bs i b l is)
        ∙ (λ j. walk E block (under b.binders V) (marks_first i b.binders j) [] b.body ∷ walk_branches E block V M k opened ((later_drop Cs i ∙ ap (λ n. drop n Cs) (sym (add-one i))) j) (arms_of (drop (i + 1) bs)))

    pub branches_next : (bs : List Branch) (i : ℕ) (b : Branch) (r : Result (Unit {0}) Halt) (m0 m1 m2 : Meter) → i < length bs → b ≡ get_or bs i b →
        Follows (walk E block (under b.binders V) (marks_at i b.binders) [] b.body m0.account) (Ok tt) m0 m1 → Follows (run_all (branches_from bs (i + 1)) m1.account) r m1 m2 →
        Follows (run_all (branches_from bs i) m0.account) r m0 m2
    branches_next bs i b r m0 m1 m2 l is f g =
        subst (λ acts. Follows (run_all acts m0.account) r m0 m2) (sym (next_branch bs i b l is))
        (follows_next (walk E block (under b.binders V) (marks_at i b.binders) [] b.body) (branches_from bs (i + 1)) r m0 m1 m2 f g)

    pub branches_stop : (bs : List Branch) (i : ℕ) (b : Branch) (h : Halt) (m0 m1 : Meter) → i < length bs → b ≡ get_or bs i b →
        Follows (walk E block (under b.binders V) (marks_at i b.binders) [] b.body m0.account) (Err h) m0 m1 → Follows (run_all (branches_from bs i) m0.account) (Err h) m0 m1
    branches_stop bs i b h m0 m1 l is f =
        subst (λ acts. Follows (run_all acts m0.account) (Err h) m0 m1) (sym (next_branch bs i b l is))
        (follows_first_err (walk E block (under b.binders V) (marks_at i b.binders) [] b.body) (branches_from bs (i + 1)) h m0 m1 f (search leaving))

    pub branches_end : (bs : List Branch) (i : ℕ) (m : Meter) → length bs ≤ i → Follows (run_all (branches_from bs i) m.account) (Ok tt) m m
    branches_end bs i m l =
        subst (λ us. Follows (run_all (walk_branches E block V M k opened (drop i Cs) (arms_of us)) m.account) (Ok tt) m m) (sym (drop_all i bs l)) (follows_none m)

  -- definitions inside a body

  module _ (n : ℕ) where
    abbrev pub definitions_from : List Def → List Act
    definitions_from ds = interleaved (walk_terms E block V M (types_of ds)) (walk_terms E block V M (bodies_of n ds))

    module _ (ds : List Def) (i : ℕ) (d : Def) (l : i < length ds) (is : d ≡ get_or ds i d) where
      pub definitions_next : (r : Result (Unit {0}) Halt) (m0 m1 m2 m3 : Meter) → Follows (walk E block V M [] d.ty m0.account) (Ok tt) m0 m1 →
          Follows (walk E block (under n V) (others n M) [] d.body m1.account) (Ok tt) m1 m2 → Follows (run_all (definitions_from (drop (i + 1) ds)) m2.account) r m2 m3 →
          Follows (run_all (definitions_from (drop i ds)) m0.account) r m0 m3
      definitions_next r m0 m1 m2 m3 f g h =
          subst (λ us. Follows (run_all (definitions_from us) m0.account) r m0 m3) (sym (next_is ds i d l is))
          (follows_next (walk E block V M [] d.ty) (walk E block (under n V) (others n M) [] d.body ∷ definitions_from (drop (i + 1) ds)) r m0 m1 m3 f
          (follows_next (walk E block (under n V) (others n M) [] d.body) (definitions_from (drop (i + 1) ds)) r m1 m2 m3 g h))

      pub definitions_type : (x : Halt) (m0 m1 : Meter) → Follows (walk E block V M [] d.ty m0.account) (Err x) m0 m1 →
          Follows (run_all (definitions_from (drop i ds)) m0.account) (Err x) m0 m1
      definitions_type x m0 m1 f =
          subst (λ us. Follows (run_all (definitions_from us) m0.account) (Err x) m0 m1) (sym (next_is ds i d l is))
          (follows_first_err (walk E block V M [] d.ty) (walk E block (under n V) (others n M) [] d.body ∷ definitions_from (drop (i + 1) ds)) x m0 m1 f (search leaving))

      pub definitions_body : (x : Halt) (m0 m1 m2 : Meter) → Follows (walk E block V M [] d.ty m0.account) (Ok tt) m0 m1 →
          Follows (walk E block (under n V) (others n M) [] d.body m1.account) (Err x) m1 m2 → Follows (run_all (definitions_from (drop i ds)) m0.account) (Err x) m0 m2
      definitions_body x m0 m1 m2 f g =
          subst (λ us. Follows (run_all (definitions_from us) m0.account) (Err x) m0 m2) (sym (next_is ds i d l is))
          (follows_next (walk E block V M [] d.ty) (walk E block (under n V) (others n M) [] d.body ∷ definitions_from (drop (i + 1) ds)) (Err x) m0 m1 m2 f
          (follows_first_err (walk E block (under n V) (others n M) [] d.body) (definitions_from (drop (i + 1) ds)) x m1 m2 g (search leaving)))

    pub definitions_end : (ds : List Def) (i : ℕ) (m : Meter) → length ds ≤ i → Follows (run_all (definitions_from (drop i ds)) m.account) (Ok tt) m m
    definitions_end ds i m l = subst (λ us. Follows (run_all (definitions_from us) m.account) (Ok tt) m m) (sym (drop_all i ds l)) (follows_none m)

  -- definitions of a fixpoint whose recursive argument is smaller

  module _ (n : ℕ) where
    abbrev pub passed_from : List Def → List Act
    passed_from ds = interleaved (walk_terms E block V M (types_of ds)) (walk_passed E block V M (rargs_of ds) (bodies_of n ds))

    module _ (ds : List Def) (i : ℕ) (d : Def) (l : i < length ds) (is : d ≡ get_or ds i d) where
      pub passed_next : (r : Result (Unit {0}) Halt) (m0 m1 m2 m3 : Meter) → Follows (walk E block V M [] d.ty m0.account) (Ok tt) m0 m1 →
          Follows (walk_under E block (under n V) (others n M) Smaller d.rarg d.body m1.account) (Ok tt) m1 m2 → Follows (run_all (passed_from (drop (i + 1) ds)) m2.account) r m2 m3 →
          Follows (run_all (passed_from (drop i ds)) m0.account) r m0 m3
      passed_next r m0 m1 m2 m3 f g h =
          subst (λ us. Follows (run_all (passed_from us) m0.account) r m0 m3) (sym (next_is ds i d l is))
          (follows_next (walk E block V M [] d.ty) (walk_under E block (under n V) (others n M) Smaller d.rarg d.body ∷ passed_from (drop (i + 1) ds)) r m0 m1 m3 f
          (follows_next (walk_under E block (under n V) (others n M) Smaller d.rarg d.body) (passed_from (drop (i + 1) ds)) r m1 m2 m3 g h))

      pub passed_type : (x : Halt) (m0 m1 : Meter) → Follows (walk E block V M [] d.ty m0.account) (Err x) m0 m1 →
          Follows (run_all (passed_from (drop i ds)) m0.account) (Err x) m0 m1
      passed_type x m0 m1 f =
          subst (λ us. Follows (run_all (passed_from us) m0.account) (Err x) m0 m1) (sym (next_is ds i d l is))
          (follows_first_err (walk E block V M [] d.ty) (walk_under E block (under n V) (others n M) Smaller d.rarg d.body ∷ passed_from (drop (i + 1) ds)) x m0 m1 f (search leaving))

      pub passed_body : (x : Halt) (m0 m1 m2 : Meter) → Follows (walk E block V M [] d.ty m0.account) (Ok tt) m0 m1 →
          Follows (walk_under E block (under n V) (others n M) Smaller d.rarg d.body m1.account) (Err x) m1 m2 → Follows (run_all (passed_from (drop i ds)) m0.account) (Err x) m0 m2
      passed_body x m0 m1 m2 f g =
          subst (λ us. Follows (run_all (passed_from us) m0.account) (Err x) m0 m2) (sym (next_is ds i d l is))
          (follows_next (walk E block V M [] d.ty) (walk_under E block (under n V) (others n M) Smaller d.rarg d.body ∷ passed_from (drop (i + 1) ds)) (Err x) m0 m1 m2 f
          (follows_first_err (walk_under E block (under n V) (others n M) Smaller d.rarg d.body) (passed_from (drop (i + 1) ds)) x m1 m2 g (search leaving)))

    pub passed_end : (ds : List Def) (i : ℕ) (m : Meter) → length ds ≤ i → Follows (run_all (passed_from (drop i ds)) m.account) (Ok tt) m m
    passed_end ds i m l = subst (λ us. Follows (run_all (passed_from us) m.account) (Ok tt) m m) (sym (drop_all i ds l)) (follows_none m)

  -- the recursive argument of a fixpoint that is walked decides how its bodies are walked

  pub fix_smaller : (rargs : List ℕ) (types bodies : Terms) (r : Result (Unit {0}) Halt) (m0 m1 : Meter) →
      Follows (run_all (interleaved (walk_terms E block V M types) (walk_passed E block V M rargs bodies)) m0.account) r m0 m1 →
      Follows (run_all (interleaved (walk_terms E block V M types) (if_passed Smaller (walk_passed E block V M rargs bodies) (walk_terms E block V M bodies))) m0.account) r m0 m1
  fix_smaller rargs types bodies r m0 m1 f = f

  pub fix_other : (a : Kept) (rargs : List ℕ) (types bodies : Terms) (r : Result (Unit {0}) Halt) (m0 m1 : Meter) → (a ≡ kept.Smaller → ⊥) →
      Follows (run_all (interleaved (walk_terms E block V M types) (walk_terms E block V M bodies)) m0.account) r m0 m1 →
      Follows (run_all (interleaved (walk_terms E block V M types) (if_passed (mark_of a) (walk_passed E block V M rargs bodies) (walk_terms E block V M bodies))) m0.account) r m0 m1
  fix_other kept.Smaller rargs types bodies r m0 m1 n f = absurd (n refl)
  fix_other kept.Argument rargs types bodies r m0 m1 n f = f
  fix_other (kept.Recursive j) rargs types bodies r m0 m1 n f = f
  fix_other kept.Other rargs types bodies r m0 m1 n f = f

  -- bodies of definitions

  module _ (n : ℕ) (ds : List Def) (i : ℕ) (d : Def) (l : i < length ds) (is : d ≡ get_or ds i d) where
    pub bodies_next : (r : Result (Unit {0}) Halt) (m0 m1 m2 : Meter) → Follows (body_guard E V M d.rarg d.body m0.account) (Ok tt) m0 m1 →
        Follows (run_all (bodies_guard E V M (rargs_of (drop (i + 1) ds)) (bodies_of n (drop (i + 1) ds))) m1.account) r m1 m2 →
        Follows (run_all (bodies_guard E V M (rargs_of (drop i ds)) (bodies_of n (drop i ds))) m0.account) r m0 m2
    bodies_next r m0 m1 m2 f g =
        subst (λ us. Follows (run_all (bodies_guard E V M (rargs_of us) (bodies_of n us)) m0.account) r m0 m2) (sym (next_is ds i d l is))
        (follows_next (body_guard E V M d.rarg d.body) (bodies_guard E V M (rargs_of (drop (i + 1) ds)) (bodies_of n (drop (i + 1) ds))) r m0 m1 m2 f g)

    pub bodies_stop : (h : Halt) (m0 m1 : Meter) → Follows (body_guard E V M d.rarg d.body m0.account) (Err h) m0 m1 →
        Follows (run_all (bodies_guard E V M (rargs_of (drop i ds)) (bodies_of n (drop i ds))) m0.account) (Err h) m0 m1
    bodies_stop h m0 m1 f =
        subst (λ us. Follows (run_all (bodies_guard E V M (rargs_of us) (bodies_of n us)) m0.account) (Err h) m0 m1) (sym (next_is ds i d l is))
        (follows_first_err (body_guard E V M d.rarg d.body) (bodies_guard E V M (rargs_of (drop (i + 1) ds)) (bodies_of n (drop (i + 1) ds))) h m0 m1 f (search leaving))

  pub bodies_end : (n : ℕ) (ds : List Def) (i : ℕ) (m : Meter) → length ds ≤ i →
      Follows (run_all (bodies_guard E V M (rargs_of (drop i ds)) (bodies_of n (drop i ds))) m.account) (Ok tt) m m
  bodies_end n ds i m l =
      subst (λ us. Follows (run_all (bodies_guard E V M (rargs_of us) (bodies_of n us)) m.account) (Ok tt) m m) (sym (drop_all i ds l)) (follows_none m)

-- the first parts of an application and of a definition in a term
module _ (E : Env) (block : Option Name) (V : Values) (M : Marks) (xs : List Term) (h : Halt) (r : Result (Unit {0}) Halt) (e : IsErrAnd r (λ x. x ≡ h)) where
  pub app_stops : (f a : Term) (m0 m1 : Meter) → Follows (walk E block V M (a ∷ xs) f m0.account) (Err h) m0 m1 → Follows (walk E block V M xs (App f a) m0.account) r m0 m1
  app_stops f a m0 m1 p = follows_halted (walk E block V M (a ∷ xs) f m0.account) (λ _ v. walk E block V M [] a v) h r m0 m1 e p (search leaving)

  pub let_stops : (b B t : Term) (m0 m1 : Meter) → Follows (walk E block V M [] b m0.account) (Err h) m0 m1 → Follows (walk E block V M xs (LetIn b B t) m0.account) r m0 m1
  let_stops b B t m0 m1 p =
      follows_halted (walk E block V M [] b m0.account) (λ _ v. bind (walk E block V M [] B v) (λ _ w. walk E block (Some b ∷ V) (Other ∷ M) [] t w)) h r m0 m1 e p (search leaving)

  pub let_type_stops : (b B t : Term) (m0 m1 m2 : Meter) → Follows (walk E block V M [] b m0.account) (Ok tt) m0 m1 → Follows (walk E block V M [] B m1.account) (Err h) m1 m2 →
      Follows (walk E block V M xs (LetIn b B t) m0.account) r m0 m2
  let_type_stops b B t m0 m1 m2 p q =
      follows_bind (walk E block V M [] b m0.account) (λ _ v. bind (walk E block V M [] B v) (λ _ w. walk E block (Some b ∷ V) (Other ∷ M) [] t w)) tt r m0 m1 m2 p
      (follows_halted (walk E block V M [] B m1.account) (λ _ w. walk E block (Some b ∷ V) (Other ∷ M) [] t w) h r m1 m2 e q (search leaving))

-- there is no memory for the scope of a body
module _ (E : Env) (block : Option Name) (V : Values) (M : Marks) (s : StopKind) (r : Result (Unit {0}) Halt) (z : s ≡ Memory) (e : IsErrAnd r (λ x. x ≡ Stop s)) where
  pub let_memory : (xs : List Term) (b B t : Term) (m0 m1 m2 : Meter) → Follows (walk E block V M [] b m0.account) (Ok tt) m0 m1 → Follows (walk E block V M [] B m1.account) (Ok tt) m1 m2 →
      Follows (walk E block V M xs (LetIn b B t) m0.account) r m0 m2
  let_memory xs b B t m0 m1 m2 p q =
      follows_bind (walk E block V M [] b m0.account) (λ _ v. bind (walk E block V M [] B v) (λ _ w. walk E block (Some b ∷ V) (Other ∷ M) [] t w)) tt r m0 m1 m2 p
      (follows_bind (walk E block V M [] B m1.account) (λ _ w. walk E block (Some b ∷ V) (Other ∷ M) [] t w) tt r m1 m2 m2 q (follows_no_memory _ s r m2 z e (search leaving)))

  pub under_last_memory : (A b : Term) (mark : Mark) (k : ℕ) (m0 m1 : Meter) → k ≡ 0 → Follows (walk E block V M [] A m0.account) (Ok tt) m0 m1 →
      Follows (walk_under E block V M mark k (Lambda A b) m0.account) r m0 m1
  under_last_memory A b mark k m0 m1 h p = under_last E block V M A b mark k r m0 m1 m1 h p (follows_no_memory _ s r m1 z e (search leaving))

  pub under_more_memory : (A b : Term) (mark : Mark) (k l : ℕ) (m0 m1 : Meter) → k ≡ suc l → Follows (walk E block V M [] A m0.account) (Ok tt) m0 m1 →
      Follows (walk_under E block V M mark k (Lambda A b) m0.account) r m0 m1
  under_more_memory A b mark k l m0 m1 h p = under_more E block V M A b mark k l r m0 m1 m1 h p (follows_no_memory _ s r m1 z e (search leaving))
