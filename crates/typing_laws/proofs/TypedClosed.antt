-- A typed term is closed by its context.
use Rattle.trees.proofs.Bounds.{closed_at}
use Rattle.std.proofs.Common.{◌≡◌, ℕ, zero, suc, ◌+◌, ◌<◌, List, [], ◌∷◌, length, Option, Some, None, refl, ap, ◌∙◌, subst, arith}
use Rattle.universe_levels.specs.declared.sort.Sort.{Sort}
use Rattle.pc_terms.specs.Syntax.{Slot, Term, Rel, Node, Children, End, Child, Group, Terms, Done, Next, up, ups, rename, rename_children, rename_terms, shift, put_all, terms_of, number, Closed, ClosedChildren, ClosedTerms}
use Rattle.pc_terms.specs.declared.leaf.FamilyId.{FamilyId}
use Rattle.calculus_rules.specs.declared.declaration.Constructor.{Constructor}
use Rattle.calculus_rules.specs.Environment.{Env}
use Rattle.calculus_rules.specs.Context.{Context, type_at, lifted, extend}
use Rattle.typing_laws.proofs.ClosedEnv.{ClosedEntries}
use Rattle.calculus_rules.specs.Typing.{Mode, Types, rel, sort, prod, lambda, let_in, app, const, ind, construct, case, fix, conv, TypesAll, no_terms, term, Entries, no_entries, entry, Branches, no_branches, branch, Sorts, no_types, a_type, Bodies, no_bodies, a_body, EntrySorts, no_sorts, a_sort}
use Rattle.calculus_rules.specs.Instances.{predicate_entries, branch_entries, definitions}
use Rattle.typing_laws.proofs.Telescopes.{entries_at_length}
use Rattle.typing_laws.proofs.Traversal.{predicate_length}

within : (o : Option Term) (T : Term) (P : Type 0) → lifted o ≡ Some T → ((u : Term) → o ≡ Some u → P) → P
within None T P e f = absurd (cc)
within (Some u) T P e f = f u refl

bound : (c : Context) (i : ℕ) (T : Term) → type_at c i ≡ Some T → i < length c
bound [] i T e = absurd (cc)
bound (x ∷ c) zero T e = omega arith
bound (x ∷ c) (suc i) T e = let h = within (type_at c i) T (i < length c) e (λ u p. bound c i u p) in omega arith

pub extend_length : (As : List Term) (c : Context) → length (extend c As) ≡ length As + length c
extend_length [] c = omega arith
extend_length (A ∷ As) c = let h = extend_length As _ in h ∙ next (length As) (length c)
  where
    next : (n k : ℕ) → n + suc k ≡ suc n + k
    next n k = omega arith

unlift_variable : (b n k i : ℕ) → ups b (λ j. n + j) i < b + (n + k) → i < b + k
unlift_variable zero n k i l = omega arith
unlift_variable (suc b) n k zero l = omega arith
unlift_variable (suc b) n k (suc i) l = let h = unlift_variable b n k i (omega arith) in omega arith

ups_more : (m b : ℕ) (r : ℕ → ℕ) → ups m (ups b r) ≡ ups (m + b) r
ups_more zero b r = let e : b ≡ 0 + b = omega arith in ap (λ n. ups n r) e
ups_more (suc m) b r = let e : suc (m + b) ≡ suc m + b = omega arith in ap up (ups_more m b r) ∙ ap (λ n. ups n r) e

unlift_under : (t : Term) (m b n k : ℕ) → ((b : ℕ) → Closed (b + (n + k)) (rename (ups b (λ j. n + j)) t) → Closed (b + k) t) →
    Closed (m + (b + (n + k))) (rename (ups m (ups b (λ j. n + j))) t) → Closed (m + (b + k)) t
unlift_under t m b n k f c =
    let c' : Closed (m + b + (n + k)) (rename (ups m (ups b (λ j. n + j))) t) = closed_at (rename (ups m (ups b (λ j. n + j))) t) (omega arith) c in
    closed_at t (omega arith) (f (m + b) (subst (λ r. Closed (m + b + (n + k)) (rename r t)) (ups_more m b (λ j. n + j)) c'))

mutual
  unlift : (t : Term) (b n k : ℕ) → Closed (b + (n + k)) (rename (ups b (λ j. n + j)) t) → Closed (b + k) t
  unlift (Rel i) b n k c = unlift_variable b n k i c
  unlift (Node l ts) b n k c = unlift_children ts b n k c

  unlift_children : {ss : List Slot} (ts : Children ss) (b n k : ℕ) → ClosedChildren (b + (n + k)) (rename_children (ups b (λ j. n + j)) ts) → ClosedChildren (b + k) ts
  unlift_children End b n k c = tt
  unlift_children (Child {n = m} t ts) b n k c = (unlift_under t m b n k (λ b c. unlift t b n k c) c.0, unlift_children ts b n k c.1)
  unlift_children (Group us ts) b n k c = (unlift_terms us b n k c.0, unlift_children ts b n k c.1)

  unlift_terms : (ts : Terms) (b n k : ℕ) → ClosedTerms (b + (n + k)) (rename_terms (ups b (λ j. n + j)) ts) → ClosedTerms (b + k) ts
  unlift_terms Done b n k c = tt
  unlift_terms (Next m t ts) b n k c = (unlift_under t m b n k (λ b c. unlift t b n k c) c.0, unlift_terms ts b n k c.1)

unlift_zero : (T : Term) (n k : ℕ) → Closed (n + k) (shift n 0 T) → Closed k T
unlift_zero T n k c = closed_at T (omega arith) (unlift T 0 n k (closed_at (shift n 0 T) (omega arith) c))

definitions_length : {m : Mode} {E : Env} {c : Context} {n : ℕ} {ts : Terms} → Sorts m E c n ts → length (definitions c n ts) ≡ number ts + length c
definitions_length no_types = omega arith
definitions_length (a_type p ps) = let h = definitions_length ps in omega arith

mutual
  pub types_closed : {m : Mode} {E : Env} {c : Context} {t T : Term} → Types m E c t T → Closed (length c) t
  types_closed (rel {c} {i} {T} e) = bound c i T e
  types_closed (sort h) = tt
  types_closed (prod {A = A} {B = B} p q) = (closed_at A (omega arith) (types_closed p), (closed_at B (omega arith) (types_closed q), tt))
  types_closed (lambda {A = A} {b = b} p q) = (closed_at A (omega arith) (types_closed p), (closed_at b (omega arith) (types_closed q), tt))
  types_closed (let_in {b = b} {B = B} {t = t} p q r) =
      (closed_at b (omega arith) (types_closed q), (closed_at B (omega arith) (types_closed p), (closed_at t (omega arith) (types_closed r), tt)))
  types_closed (app {f = f} {a = a} p q) = (closed_at f (omega arith) (types_closed p), (closed_at a (omega arith) (types_closed q), tt))
  types_closed (const k) = tt
  types_closed (ind k) = tt
  types_closed (construct k e) = tt
  types_closed (case {c} {f} {F} {n = n} {ret = ret} {t = t} ps is k e l p es q may s bs) =
      let long = extend_length (predicate_entries f F ps) c in
      let known = predicate_length f F ps in
      (all_closed p, (closed_at ret (omega arith) (types_closed q), (closed_at t (omega arith) (types_closed s), (branches_closed bs, tt))))
  types_closed (fix {c} e h s b ask) =
      (sorts_closed s (length c) (omega arith), (bodies_closed b (length c) (let long = definitions_length s in omega arith), tt))
  types_closed (conv p b q) = types_closed p

  all_closed : {m : Mode} {E : Env} {c : Context} {s : ℕ → Term} {ts As : List Term} → TypesAll m E c s ts As → ClosedTerms (length c) (terms_of ts)
  all_closed no_terms = tt
  all_closed (term {t = t} p ps) = (closed_at t (omega arith) (types_closed p), all_closed ps)

  pub entries_closed : {m : Mode} {E : Env} {c : Context} {As : List Term} → Entries m E c As → ClosedEntries (length c) As
  entries_closed no_entries = tt
  entries_closed (entry p ps) = (types_closed p, entries_closed ps)

  branches_closed : {m : Mode} {E : Env} {c : Context} {f : FamilyId} {ps : List Term} {ret : Term} {n : ℕ} {Cs : List Constructor} {bs : Terms} →
      Branches m E c f ps ret n Cs bs → ClosedTerms (length c) bs
  branches_closed no_branches = tt
  branches_closed (branch {c} {ps = ps} {C = C} {body = body} e es p bs) =
      let long = extend_length (branch_entries C ps) c in
      let known = entries_at_length (put_all ps Rel) C.args in
      (closed_at body (omega arith) (types_closed p), branches_closed bs)

  sorts_closed : {m : Mode} {E : Env} {c : Context} {n : ℕ} {ts : Terms} → Sorts m E c n ts → (k : ℕ) → length c ≡ n + k → ClosedTerms k ts
  sorts_closed no_types k e = tt
  sorts_closed (a_type {c} {n} {T} p ps) k e =
      (closed_at T (omega arith) (unlift_zero T n k (closed_at (shift n 0 T) e (types_closed p))), sorts_closed ps k (omega arith))

  bodies_closed : {m : Mode} {E : Env} {c : Context} {n : ℕ} {rs : List ℕ} {ts us : Terms} → Bodies m E c n rs ts us → (k : ℕ) → length c ≡ n + k → ClosedTerms k us
  bodies_closed no_bodies k e = tt
  bodies_closed (a_body {c} {body = body} r p ps) k e = (closed_at body e (types_closed p), bodies_closed ps k e)

pub entry_sorts_closed : {m : Mode} {E : Env} {c : Context} {As : List Term} {ss : List Sort} → EntrySorts m E c As ss → ClosedEntries (length c) As
entry_sorts_closed no_sorts = tt
entry_sorts_closed (a_sort p ps) = (types_closed p, entry_sorts_closed ps)
