-- What directed erasure gives is no greater than its source.
use Rattle.std.proofs.Common.{◌≡◌, ℕ, ◌+◌, ◌≤◌, List, [], ◌∷◌, Option, Some, None, subst, arith}
use Rattle.trees.specs.Measures.{depth, depth_trees, nodes, nodes_trees, above, above_trees}
use Rattle.trees.specs.Closed.{Closed, ClosedTerms}
use Rattle.pc_terms.specs.declared.leaf.Name.{Name}
use Rattle.pc_terms.specs.declared.leaf.FamilyId.{FamilyId}
use Rattle.pc_terms.specs.Syntax.{Term, Terms, Next, Rel, Node, SortT, Prod, Lambda, LetIn, App, Const, Ind, Construct, Case, Fix, list_of}
use Rattle.pc_terms.specs.Syntax as syntax
use Rattle.box_terms.specs.BoxSyntax.{BoxTerm, BoxTerms, Box, BLambda, BLetIn, BApp, BConst, BConstruct, BCase, BFix}
use Rattle.calculus_rules.specs.declared.declaration.Constructor.{Constructor}
use Rattle.calculus_rules.specs.declared.entry.Entry.TheVariants.{Assumed, Defined}
use Rattle.pc_rules.specs.declared.meter.Account.{Account}
use Rattle.calculus_rules.specs.Environment.{Env, FamilyDecl}
use Rattle.calculus_rules.specs.Context.{Context, extend}
use Rattle.calculus_rules.specs.Instances.{branch_entries, definitions}
use Rattle.calculus_rules.specs.declared.evidence.Evidence.{Evidence}
use Rattle.pc_rules.specs.DirectedRun as run
use Rattle.pc_rules.specs.DirectedRun.{Run, done, any_beyond, bind}
use Rattle.calculus_rules.specs.Lookups.{family_of}
use Rattle.pc_rules.specs.DirectedComparison.{lifted_types}
use Rattle.pc_rules.specs.DirectedTyping.{Typing}
use Rattle.pc_rules.specs.DirectedErasable.{erasable_test}
use Rattle.rule_laws.proofs.Runs.{bind_both, done_value, pass_then, refused_done}
use Rattle.erase_rules.specs.DirectedErasure.{box_or, tested, in_family, kept, kept_branches, kept_bodies, erased}
use Rattle.erase_rules.specs.Laws.{IsNoGreater}

-- a term after erasure is a term without its types, with box in some places; some of the last branches of a match may be missing
mutual
  pub data Strips : Term → BoxTerm → Type 0 where
    box : {t : Term} → Strips t Box
    rel : {i : ℕ} → Strips (Rel i) (Rel i)
    lambda : {A b : Term} {b' : BoxTerm} → Strips b b' → Strips (Lambda A b) (BLambda b')
    let_in : {b B t : Term} {b' t' : BoxTerm} → Strips b b' → Strips t t' → Strips (LetIn b B t) (BLetIn b' t')
    app : {f a : Term} {f' a' : BoxTerm} → Strips f f' → Strips a a' → Strips (App f a) (BApp f' a')
    const : {k : Name} → Strips (Const k) (BConst k)
    construct : {f : FamilyId} {k : ℕ} → Strips (Construct f k) (BConstruct f k)
    case : {f : FamilyId} {ps : Terms} {n : ℕ} {ret s : Term} {bs : Terms} {s' : BoxTerm} {bs' : BoxTerms} → Strips s s' → StripsAll bs bs' →
        Strips (Case f ps n ret s bs) (BCase f s' bs')
    fix : {i : ℕ} {rargs : List ℕ} {types bodies : Terms} {bodies' : BoxTerms} → StripsAll bodies bodies' → Strips (Fix i rargs types bodies) (BFix i rargs bodies')

  pub data StripsAll : Terms → BoxTerms → Type 0 where
    missing : {ts : Terms} → StripsAll ts syntax.Done
    next : {n : ℕ} {t : Term} {ts : Terms} {t' : BoxTerm} {ts' : BoxTerms} → Strips t t' → StripsAll ts ts' → StripsAll (Next n t ts) (Next n t' ts')

module _ (E : Env) (inf : Typing) where
  abbrev Keeps : Context → Term → Type 0
  Keeps c t = (t' : BoxTerm) (u v : Account) → (kept E inf c t u).end ≡ run.Done t' v → Strips t t'

  found_strips : (c : Context) (t : Term) → Keeps c t → (o : Option Evidence) (t' : BoxTerm) (u v : Account) → (box_or o (kept E inf c t) u).end ≡ run.Done t' v → Strips t t'
  found_strips c t h (Some k) t' u v g = subst (λ t'. Strips t t') (done_value g) box
  found_strips c t h None t' u v g = h t' u v g

  tested_strips : (c : Context) (t : Term) → Keeps c t → (t' : BoxTerm) (u v : Account) → (erased E inf c t u).end ≡ run.Done t' v → Strips t t'
  unfolding tested
  tested_strips c t h t' u v g =
      let p = bind_both (erasable_test E inf c t u) (λ o v. box_or o (kept E inf c t) v) t' v g in
      found_strips c t h p.0 t' p.1 v p.3

  in_family_strips : (f : FamilyId) (o : Option FamilyDecl) (go : List Constructor → Account → Run BoxTerms) (bs : Terms) (bs' : BoxTerms) (u v : Account) →
      ((Cs : List Constructor) → (go Cs u).end ≡ run.Done bs' v → StripsAll bs bs') → (in_family f o go u).end ≡ run.Done bs' v → StripsAll bs bs'
  in_family_strips f None go bs bs' u v h g = absurd (refused_done g)
  in_family_strips f (Some F) go bs bs' u v h g = h F.constructors g

  mutual
    kept_strips : (t : Term) (c : Context) → Keeps c t
    kept_strips (Rel i) c t' u v g = subst (λ t'. Strips (Rel i) t') (done_value g) rel
    kept_strips (SortT s) c t' u v g = subst (λ t'. Strips (SortT s) t') (done_value g) box
    kept_strips (Prod A B) c t' u v g = subst (λ t'. Strips (Prod A B) t') (done_value g) box
    kept_strips (Lambda A b) c t' u v g =
        let d : Context = Assumed A ∷ c in
        let p = bind_both (erased E inf d b u) (λ b' v. done (BLambda b') v) t' v g in
        subst (λ t'. Strips (Lambda A b) t') (done_value p.3) (lambda (tested_strips d b (kept_strips b d) p.0 u p.1 p.2))
    kept_strips (LetIn b B t) c t' u v g =
        let d : Context = Defined b B ∷ c in
        let k2 : BoxTerm → BoxTerm → Account → Run BoxTerm = λ b' t' w. done (BLetIn b' t') w in
        let k1 : BoxTerm → Account → Run BoxTerm = λ b' v. bind (erased E inf d t v) (k2 b') in
        let p1 = bind_both (erased E inf c b u) k1 t' v g in
        let p2 = bind_both (erased E inf d t p1.1) (k2 p1.0) t' v p1.3 in
        subst (λ t'. Strips (LetIn b B t) t') (done_value p2.3)
        (let_in (tested_strips c b (kept_strips b c) p1.0 u p1.1 p1.2) (tested_strips d t (kept_strips t d) p2.0 p1.1 p2.1 p2.2))
    kept_strips (App f a) c t' u v g =
        let k2 : BoxTerm → BoxTerm → Account → Run BoxTerm = λ f' a' w. done (BApp f' a') w in
        let k1 : BoxTerm → Account → Run BoxTerm = λ f' v. bind (erased E inf c a v) (k2 f') in
        let p1 = bind_both (erased E inf c f u) k1 t' v g in
        let p2 = bind_both (erased E inf c a p1.1) (k2 p1.0) t' v p1.3 in
        subst (λ t'. Strips (App f a) t') (done_value p2.3)
        (app (tested_strips c f (kept_strips f c) p1.0 u p1.1 p1.2) (tested_strips c a (kept_strips a c) p2.0 p1.1 p2.1 p2.2))
    kept_strips (Const k) c t' u v g = subst (λ t'. Strips (Const k) t') (done_value g) const
    kept_strips (Ind f) c t' u v g = subst (λ t'. Strips (Ind f) t') (done_value g) box
    kept_strips (Construct f k) c t' u v g = subst (λ t'. Strips (Construct f k) t') (done_value g) construct
    kept_strips (Case f ps m ret s bs) c t' u v g =
        let qs : List Term = list_of ps in
        let go : List Constructor → Account → Run BoxTerms = λ Cs w. kept_branches E inf c qs Cs bs w in
        let k2 : BoxTerm → BoxTerms → Account → Run BoxTerm = λ s' bs' w. done (BCase f s' bs') w in
        let k1 : BoxTerm → Account → Run BoxTerm = λ s' v. bind (in_family f (family_of E f) go v) (k2 s') in
        let p1 = bind_both (erased E inf c s u) k1 t' v g in
        let p2 = bind_both (in_family f (family_of E f) go p1.1) (k2 p1.0) t' v p1.3 in
        subst (λ t'. Strips (Case f ps m ret s bs) t') (done_value p2.3)
        (case (tested_strips c s (kept_strips s c) p1.0 u p1.1 p1.2)
        (in_family_strips f (family_of E f) go bs p2.0 p1.1 p2.1 (λ Cs h. branches_strip bs c qs Cs p2.0 p1.1 p2.1 h) p2.2))
    kept_strips (Fix i rargs types bodies) c t' u v g =
        let D : Context = definitions c 0 types in
        let h1 = pass_then (any_beyond (lifted_types 0 (list_of types))) u
        (λ _ v. bind (kept_bodies E inf D bodies v) (λ bodies' w. done (BFix i rargs bodies') w)) g in
        let p = bind_both (kept_bodies E inf D bodies u) (λ bodies' w. done (BFix i rargs bodies') w) t' v h1 in
        subst (λ t'. Strips (Fix i rargs types bodies) t') (done_value p.3) (fix (bodies_strip bodies D p.0 u p.1 p.2))

    pub branches_strip : (bs : Terms) (c : Context) (ps : List Term) (Cs : List Constructor) (bs' : BoxTerms) (u v : Account) →
        (kept_branches E inf c ps Cs bs u).end ≡ run.Done bs' v → StripsAll bs bs'
    branches_strip syntax.Done c ps [] bs' u v g = subst (λ bs'. StripsAll syntax.Done bs') (done_value g) missing
    branches_strip syntax.Done c ps (C ∷ Cs) bs' u v g = subst (λ bs'. StripsAll syntax.Done bs') (done_value g) missing
    branches_strip (Next k t ts) c ps [] bs' u v g = subst (λ bs'. StripsAll (Next k t ts) bs') (done_value g) missing
    branches_strip (Next k t ts) c ps (C ∷ Cs) bs' u v g =
        let d : Context = extend c (branch_entries C ps) in
        let k3 : BoxTerm → BoxTerms → Account → Run BoxTerms = λ t' ts' x. done (Next k t' ts') x in
        let k2 : BoxTerm → Account → Run BoxTerms = λ t' w. bind (kept_branches E inf c ps Cs ts w) (k3 t') in
        let h1 = pass_then (any_beyond (branch_entries C ps)) u (λ _ v. bind (erased E inf d t v) k2) g in
        let p1 = bind_both (erased E inf d t u) k2 bs' v h1 in
        let p2 = bind_both (kept_branches E inf c ps Cs ts p1.1) (k3 p1.0) bs' v p1.3 in
        subst (λ bs'. StripsAll (Next k t ts) bs') (done_value p2.3)
        (next (tested_strips d t (kept_strips t d) p1.0 u p1.1 p1.2) (branches_strip ts c ps Cs p2.0 p1.1 p2.1 p2.2))

    pub bodies_strip : (bs : Terms) (c : Context) (bs' : BoxTerms) (u v : Account) → (kept_bodies E inf c bs u).end ≡ run.Done bs' v → StripsAll bs bs'
    bodies_strip syntax.Done c bs' u v g = subst (λ bs'. StripsAll syntax.Done bs') (done_value g) missing
    bodies_strip (Next k t ts) c bs' u v g =
        let k2 : BoxTerm → BoxTerms → Account → Run BoxTerms = λ t' ts' w. done (Next k t' ts') w in
        let k1 : BoxTerm → Account → Run BoxTerms = λ t' v. bind (kept_bodies E inf c ts v) (k2 t') in
        let p1 = bind_both (erased E inf c t u) k1 bs' v g in
        let p2 = bind_both (kept_bodies E inf c ts p1.1) (k2 p1.0) bs' v p1.3 in
        subst (λ bs'. StripsAll (Next k t ts) bs') (done_value p2.3)
        (next (tested_strips c t (kept_strips t c) p1.0 u p1.1 p1.2) (bodies_strip ts c p2.0 p1.1 p2.1 p2.2))

  pub erased_strips : (c : Context) (t : Term) (t' : BoxTerm) (u v : Account) → (erased E inf c t u).end ≡ run.Done t' v → Strips t t'
  erased_strips c t t' u v g = tested_strips c t (kept_strips t c) t' u v g

-- measures

has_node : (t : Term) → 1 ≤ nodes t
has_node (Rel i) = omega arith
has_node (Node l ts) = omega arith

has_depth : (t : Term) → 1 ≤ depth t
has_depth (Rel i) = omega arith
has_depth (Node l ts) = omega arith

mutual
  pub strips_nodes : {t : Term} {t' : BoxTerm} → Strips t t' → nodes t' ≤ nodes t
  strips_nodes (box {t = t}) = has_node t
  strips_nodes rel = omega arith
  strips_nodes (lambda p) = let a = strips_nodes p in omega arith
  strips_nodes (let_in p q) = let a = strips_nodes p in let b = strips_nodes q in omega arith
  strips_nodes (app p q) = let a = strips_nodes p in let b = strips_nodes q in omega arith
  strips_nodes const = omega arith
  strips_nodes construct = omega arith
  strips_nodes (case p q) = let a = strips_nodes p in let b = all_nodes q in omega arith
  strips_nodes (fix q) = let b = all_nodes q in omega arith

  all_nodes : {ts : Terms} {ts' : BoxTerms} → StripsAll ts ts' → nodes_trees ts' ≤ nodes_trees ts
  all_nodes missing = omega arith
  all_nodes (next p q) = let a = strips_nodes p in let b = all_nodes q in omega arith

mutual
  pub strips_depth : {t : Term} {t' : BoxTerm} → Strips t t' → depth t' ≤ depth t
  strips_depth (box {t = t}) = has_depth t
  strips_depth rel = omega arith
  strips_depth (lambda p) = let a = strips_depth p in omega arith
  strips_depth (let_in p q) = let a = strips_depth p in let b = strips_depth q in omega arith
  strips_depth (app p q) = let a = strips_depth p in let b = strips_depth q in omega arith
  strips_depth const = omega arith
  strips_depth construct = omega arith
  strips_depth (case p q) = let a = strips_depth p in let b = all_depth q in omega arith
  strips_depth (fix q) = let b = all_depth q in omega arith

  all_depth : {ts : Terms} {ts' : BoxTerms} → StripsAll ts ts' → depth_trees ts' ≤ depth_trees ts
  all_depth missing = omega arith
  all_depth (next p q) = let a = strips_depth p in let b = all_depth q in omega arith

mutual
  pub strips_above : {t : Term} {t' : BoxTerm} → Strips t t' → above t' ≤ above t
  strips_above box = omega arith
  strips_above rel = omega arith
  strips_above (lambda p) = let a = strips_above p in omega arith
  strips_above (let_in p q) = let a = strips_above p in let b = strips_above q in omega arith
  strips_above (app p q) = let a = strips_above p in let b = strips_above q in omega arith
  strips_above const = omega arith
  strips_above construct = omega arith
  strips_above (case p q) = let a = strips_above p in let b = all_above q in omega arith
  strips_above (fix q) = let b = all_above q in omega arith

  all_above : {ts : Terms} {ts' : BoxTerms} → StripsAll ts ts' → above_trees ts' ≤ above_trees ts
  all_above missing = omega arith
  all_above (next p q) = let a = strips_above p in let b = all_above q in omega arith

mutual
  pub strips_closed : {t : Term} {t' : BoxTerm} → Strips t t' → (k : ℕ) → Closed k t → Closed k t'
  strips_closed box k h = tt
  strips_closed rel k h = h
  strips_closed (lambda p) k h = (strips_closed p (1 + k) h.1.0, tt)
  strips_closed (let_in p q) k h = (strips_closed p (0 + k) h.0, (strips_closed q (1 + k) h.1.1.0, tt))
  strips_closed (app p q) k h = (strips_closed p (0 + k) h.0, (strips_closed q (0 + k) h.1.0, tt))
  strips_closed const k h = tt
  strips_closed construct k h = tt
  strips_closed (case p q) k h = (strips_closed p (0 + k) h.1.1.0, (all_closed q k h.1.1.1.0, tt))
  strips_closed (fix q) k h = (all_closed q k h.1.0, tt)

  all_closed : {ts : Terms} {ts' : BoxTerms} → StripsAll ts ts' → (k : ℕ) → ClosedTerms k ts → ClosedTerms k ts'
  all_closed missing k h = tt
  all_closed (next {n = n} p q) k h = (strips_closed p (n + k) h.0, all_closed q k h.1)

pub no_greater : {t : Term} {t' : BoxTerm} → Strips t t' → IsNoGreater t t'
no_greater p = record { nodes = strips_nodes p; depth = strips_depth p; above = strips_above p; closed = strips_closed p }
