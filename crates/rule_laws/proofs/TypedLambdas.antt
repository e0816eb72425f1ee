-- What has a type has, in each fixpoint inside it, as many lambdas as the recursive arguments ask for.
use Rattle.std.proofs.Common.{ℕ, zero, suc, ◌+◌, List, [], ◌∷◌}
use Rattle.pc_terms.specs.declared.leaf.FamilyId.{FamilyId}
use Rattle.pc_terms.specs.Syntax.{Slot, SortOf, ProdOf, LambdaOf, LetInOf, AppOf, ConstOf, IndOf, ConstructOf, CaseOf, Term, Terms, Children, Rel, Node, End, Child, Group, Done, Next, Lambda, Fix, terms_of, rename, rename_children, rename_terms, ups}
use Rattle.calculus_rules.specs.declared.declaration.Constructor.{Constructor}
use Rattle.calculus_rules.specs.Environment.{Env}
use Rattle.calculus_rules.specs.Context.{Context, Values}
use Rattle.pc_rules.specs.FixConditions.{BeginsWith, HaveLambdas, HasLambdas, ChildrenHaveLambdas, AllHaveLambdas}
use Rattle.calculus_rules.specs.Typing.{Mode, Types, rel, sort, prod, lambda, let_in, app, const, ind, construct, case, fix, conv, Recurses, recurses_here, recurses_later, TypesAll, no_terms, term, Branches, no_branches, branch, Sorts, no_types, a_type, Bodies, no_bodies, a_body}

-- before a renaming

begins_before : (n : ℕ) (t : Term) (r : ℕ → ℕ) → BeginsWith n (rename r t) → BeginsWith n t
begins_before zero t r h = tt
begins_before (suc n) (Lambda A b) r h = begins_before n b (ups 1 r) h
begins_before (suc n) t r h = absurd h

have_before : (rargs : List ℕ) (bs : Terms) (r : ℕ → ℕ) → HaveLambdas rargs (rename_terms r bs) → HaveLambdas rargs bs
have_before [] Done r h = tt
have_before (a ∷ rargs) (Next n b bs) r h = (begins_before (suc a) b (ups n r) h.0, have_before rargs bs r h.1)
have_before rargs bs r h = absurd h

mutual
  lambdas_before : (t : Term) (r : ℕ → ℕ) → HasLambdas (rename r t) → HasLambdas t
  lambdas_before (Rel i) r h = tt
  lambdas_before (Fix i rargs types bodies) r h =
      (have_before rargs bodies r h.0, (terms_before types r h.1.0, terms_before bodies r h.1.1))
  lambdas_before (Node (SortOf s) ts) r h = children_before ts r h
  lambdas_before (Node ProdOf ts) r h = children_before ts r h
  lambdas_before (Node LambdaOf ts) r h = children_before ts r h
  lambdas_before (Node LetInOf ts) r h = children_before ts r h
  lambdas_before (Node AppOf ts) r h = children_before ts r h
  lambdas_before (Node (ConstOf k) ts) r h = children_before ts r h
  lambdas_before (Node (IndOf f) ts) r h = children_before ts r h
  lambdas_before (Node (ConstructOf f n) ts) r h = children_before ts r h
  lambdas_before (Node (CaseOf f n) ts) r h = children_before ts r h

  children_before : {ss : List Slot} (ts : Children ss) (r : ℕ → ℕ) → ChildrenHaveLambdas (rename_children r ts) → ChildrenHaveLambdas ts
  children_before End r h = tt
  children_before (Child {n} t ts) r h = (lambdas_before t (ups n r) h.0, children_before ts r h.1)
  children_before (Group us ts) r h = (terms_before us r h.0, children_before ts r h.1)

  terms_before : (ts : Terms) (r : ℕ → ℕ) → AllHaveLambdas (rename_terms r ts) → AllHaveLambdas ts
  terms_before Done r h = tt
  terms_before (Next n t ts) r h = (lambdas_before t (ups n r) h.0, terms_before ts r h.1)

module _ (E : Env) where
  recurses_begins : {V : Values} {r : ℕ} {t : Term} → Recurses E V r t → BeginsWith (suc r) t
  recurses_begins (recurses_here f xs e) = tt
  recurses_begins (recurses_later h) = recurses_begins h

  bodies_begin : {m : Mode} {c : Context} {n : ℕ} {rargs : List ℕ} {types bodies : Terms} → Bodies m E c n rargs types bodies → HaveLambdas rargs bodies
  bodies_begin no_bodies = tt
  bodies_begin (a_body r p ps) = (recurses_begins r, bodies_begin ps)

  mutual
    pub typed_lambdas : {m : Mode} {c : Context} {t T : Term} → Types m E c t T → HasLambdas t
    typed_lambdas (rel e) = tt
    typed_lambdas (sort h) = tt
    typed_lambdas (prod p q) = (typed_lambdas p, (typed_lambdas q, tt))
    typed_lambdas (lambda p q) = (typed_lambdas p, (typed_lambdas q, tt))
    typed_lambdas (let_in p q r) = (typed_lambdas q, (typed_lambdas p, (typed_lambdas r, tt)))
    typed_lambdas (app p q) = (typed_lambdas p, (typed_lambdas q, tt))
    typed_lambdas (const k) = tt
    typed_lambdas (ind k) = tt
    typed_lambdas (construct k e) = tt
    typed_lambdas (case ps is k e l p es q may s bs) = (terms_lambdas p, (typed_lambdas q, (typed_lambdas s, (branches_lambdas bs, tt))))
    typed_lambdas (fix e h p b ask) = (bodies_begin b, (types_lambdas p, bodies_lambdas b))
    typed_lambdas (conv p b q) = typed_lambdas p

    terms_lambdas : {m : Mode} {c : Context} {s : ℕ → Term} {ts As : List Term} → TypesAll m E c s ts As → AllHaveLambdas (terms_of ts)
    terms_lambdas no_terms = tt
    terms_lambdas (term p ps) = (typed_lambdas p, terms_lambdas ps)

    branches_lambdas : {m : Mode} {c : Context} {f : FamilyId} {ps : List Term} {ret : Term} {n : ℕ} {Cs : List Constructor} {bs : Terms} →
        Branches m E c f ps ret n Cs bs → AllHaveLambdas bs
    branches_lambdas no_branches = tt
    branches_lambdas (branch e es p bs) = (typed_lambdas p, branches_lambdas bs)

    types_lambdas : {m : Mode} {c : Context} {n : ℕ} {types : Terms} → Sorts m E c n types → AllHaveLambdas types
    types_lambdas no_types = tt
    types_lambdas {n = n} (a_type {T = T} p ps) = (lambdas_before T (λ i. n + i) (typed_lambdas p), types_lambdas ps)

    bodies_lambdas : {m : Mode} {c : Context} {n : ℕ} {rargs : List ℕ} {types bodies : Terms} → Bodies m E c n rargs types bodies → AllHaveLambdas bodies
    bodies_lambdas no_bodies = tt
    bodies_lambdas (a_body r p ps) = (typed_lambdas p, bodies_lambdas ps)
