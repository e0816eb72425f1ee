-- One induction on steps, equality and typing, for renamings and substitutions alike.
use Rattle.std.proofs.Common.{◌≡◌, ℕ, zero, suc, ◌+◌, List, [], ◌∷◌, ◌++◌, length, Option, Some, None, refl, sym, ap, ◌∙◌, subst, arith, length-append, map}
use Rattle.pc_terms.specs.Syntax.{Term, Rel, Slot, Children, Terms, Next, SortT, App, Ind, Construct, Case, Fix, over, overs, substitute, substitute_children, substitute_terms, first, put_all, apply, terms_of, number, shift}
use Rattle.pc_terms.specs.declared.leaf.FamilyId.{FamilyId}
use Rattle.universe_levels.specs.declared.sort.Sort.{Sort}
use Rattle.calculus_rules.specs.declared.declaration.Constructor.{Constructor}
use Rattle.calculus_rules.specs.Environment.{FamilyDecl, Env, KeepsFamily}
use Rattle.calculus_rules.specs.declared.entry.Entry.{Entry}
use Rattle.calculus_rules.specs.declared.entry.Entry.TheVariants.{Assumed, Defined}
use Rattle.calculus_rules.specs.Context.{Context, Values, values, value_at, under, type_at, extend}
use Rattle.typing_laws.proofs.ClosedEnv.{ClosedEnv, ClosedFamily, ClosedConstructor, ClosedEntries}
use Rattle.calculus_rules.specs.Instances.{unfolded, entries_at, family_type, constructor_type, predicate_entries, branch_entries, branch_type, definitions}
use Rattle.calculus_rules.specs.Step.{IsConstructor, is_constructor, Root, beta, zeta, constant, variable, matched, fixpoint}
use Rattle.calculus_rules.specs.Conversion.{Equal, step, sorts, same, back, chain, inside, let_body, EqualChildren, end, and, group, EqualTerms, done, next, Below, equal, product}
use Rattle.calculus_rules.specs.Typing.{Recurses, recurses_here, recurses_later, bare, Types, rel, sort, prod, lambda, let_in, app, const, ind, construct, case, fix, conv, TypesAll, no_terms, term, Entries, no_entries, entry, Branches, no_branches, branch, Sorts, no_types, a_type, Bodies, no_bodies, a_body}
use Rattle.calculus_rules.specs.Elimination.{MayEliminate}
use Rattle.typing_laws.proofs.ClosedTypes.{Declared, closed_family_type, closed_constructor_type}
use Rattle.trees.proofs.Put.{Agree, each_append, each_length, agree_none, agree_first, substitute_closed', substitute_whole, overs_over, substitute-put, substitute-put_all_in, substituted_term, term_at-substitute, lift-substitute, each_terms, number-substitute}
use Rattle.typing_laws.proofs.Telescopes.{substitute-unfolding, substituted_entries, entries_at_length, substitute_entries_at, substitute_predicate_entries, substitute_branch_type, suc_end}
use Rattle.calculus_rules.proofs.Spines.{substitute-apply}

abbrev pub substituted : (ℕ → Term) → Option Term → Option Term
substituted s None = None
substituted s (Some t) = Some (substitute s t)

-- substitutions that go under entries, and that take each variable with a value to an equal of that value
pub record Carries (E : Env) : Type 1 where
  pub Good : (ℕ → Term) → Values → Values → Type 0
  pub good_over : {s : ℕ → Term} {V W : Values} → Good s V W → (o : Option Term) → Good (over s) (o ∷ V) (substituted s o ∷ W)
  pub good_at : {s : ℕ → Term} {V W : Values} → Good s V W → (i : ℕ) (v : Term) → value_at V i ≡ Some v → Equal E W (s i) (substitute s v)

pub good_under : {E : Env} (K : Carries E) {s : ℕ → Term} {V W : Values} → K.Good s V W → (b : ℕ) → K.Good (overs b s) (under b V) (under b W)
good_under K g zero = g
good_under K g (suc b) = K.good_over (good_under K g b) None

pub substitute_constructor : {E : Env} {f : FamilyId} {c : ℕ} {t : Term} {ps xs : List Term} → IsConstructor E f c t ps xs →
    (s : ℕ → Term) → IsConstructor E f c (substitute s t) (map (substitute s) ps) (map (substitute s) xs)
substitute_constructor {f = f} {c = c} {ps = ps} {xs = xs} (is_constructor k i p a e) s =
    is_constructor k i (each_length (substitute s) ps ∙ p) (each_length (substitute s) xs ∙ a)
    (ap (substitute s) e ∙ substitute-apply s (Construct f c) (ps ++ xs) ∙ ap (apply (Construct f c)) (each_append (substitute s) ps xs))

pub equal_at : {E : Env} {V : Values} {t t' u u' : Term} → t ≡ t' → u ≡ u' → Equal E V t u → Equal E V t' u'
equal_at {E} {V} {t} {t'} {u} p q h = subst (λ u. Equal E V t' u) q (subst (λ t. Equal E V t u) p h)

pub substitute_root : {E : Env} (K : Carries E) → ClosedEnv E → {V : Values} {t u : Term} → Root E V t u → (s : ℕ → Term) (W : Values) → K.Good s V W →
    Equal E W (substitute s t) (substitute s u)
substitute_root K closed (beta {A} {b} {a}) s W g = equal_at refl (substitute-put a s b) (step beta)
substitute_root K closed (zeta {b} {B} {t}) s W g = equal_at refl (substitute-put b s t) (step zeta)
substitute_root K closed (constant {k} {T} {b} c) s W g = equal_at refl (sym (substitute_whole b s (closed.bodies k T b c))) (step (constant c))
substitute_root K closed (variable {i} {v} e) s W g = K.good_at g i v e
substitute_root K closed (matched {bs = bs} {c = c} {body = body} {xs = xs} k e l) s W g =
    equal_at refl
    (ap (λ m. substitute (put_all (map (substitute s) xs) Rel) (substitute (overs m s) body)) l ∙ substitute-put_all_in xs s body)
    (step (matched (substitute_constructor k s) (term_at-substitute bs s c ∙ ap (substituted_term s) e) (l ∙ sym (each_length (substitute s) xs))))
substitute_root K closed (fixpoint i rargs types bodies {body} {g} {a} before e l k b q) s W good =
    equal_at refl
    (ap (λ f. App f (substitute s a))
    (ap (λ f. apply f (map (substitute s) before)) (substitute-unfolding rargs types bodies s body) ∙ sym (substitute-apply s (unfolded rargs types bodies body) before)))
    (step (fixpoint i rargs (substitute_terms s types) (substitute_terms s bodies) (map (substitute s) before) e (each_length (substitute s) before ∙ l)
    (substitute_constructor k s) (term_at-substitute bodies s i ∙ ap (substituted_term s) b)
    (ap (substitute s) q ∙ substitute-apply s (Fix i rargs types bodies) before)))

mutual
  pub substitute_equal : {E : Env} (K : Carries E) → ClosedEnv E → {V : Values} {t u : Term} → Equal E V t u → (s : ℕ → Term) (W : Values) → K.Good s V W →
      Equal E W (substitute s t) (substitute s u)
  substitute_equal K closed (step h) s W g = substitute_root K closed h s W g
  substitute_equal K closed (sorts p q) s W g = sorts p q
  substitute_equal K closed same s W g = same
  substitute_equal K closed (back e) s W g = back (substitute_equal K closed e s W g)
  substitute_equal K closed (chain e f) s W g = chain (substitute_equal K closed e s W g) (substitute_equal K closed f s W g)
  substitute_equal K closed (inside es) s W g = inside (substitute_equal_children K closed es s W g)
  substitute_equal K closed (let_body {V} {b} e) s W g =
      let_body (substitute_equal K closed e (over s) (Some (substitute s b) ∷ W) (K.good_over g (Some b)))

  pub substitute_equal_children : {E : Env} (K : Carries E) → ClosedEnv E → {V : Values} {ss : List Slot} {ts us : Children ss} → EqualChildren E V ss ts us →
      (s : ℕ → Term) (W : Values) → K.Good s V W → EqualChildren E W ss (substitute_children s ts) (substitute_children s us)
  substitute_equal_children K closed end s W g = end
  substitute_equal_children K closed (and {V} {n} e es) s W g =
      and (substitute_equal K closed e (overs n s) (under n W) (good_under K g n)) (substitute_equal_children K closed es s W g)
  substitute_equal_children K closed (group e es) s W g = group (substitute_equal_terms K closed e s W g) (substitute_equal_children K closed es s W g)

  pub substitute_equal_terms : {E : Env} (K : Carries E) → ClosedEnv E → {V : Values} {ts us : Terms} → EqualTerms E V ts us →
      (s : ℕ → Term) (W : Values) → K.Good s V W → EqualTerms E W (substitute_terms s ts) (substitute_terms s us)
  substitute_equal_terms K closed done s W g = done
  substitute_equal_terms K closed (next {V} {n} e es) s W g =
      next (substitute_equal K closed e (overs n s) (under n W) (good_under K g n)) (substitute_equal_terms K closed es s W g)

pub below_at : {E : Env} {V : Values} {t t' u u' : Term} → t ≡ t' → u ≡ u' → Below E V t u → Below E V t' u'
below_at {E} {V} {t} {t'} {u} p q h = subst (λ u. Below E V t' u) q (subst (λ t. Below E V t u) p h)

pub substitute_below : {E : Env} (K : Carries E) → ClosedEnv E → {V : Values} {t u : Term} → Below E V t u → (s : ℕ → Term) (W : Values) → K.Good s V W →
    Below E W (substitute s t) (substitute s u)
substitute_below K closed (equal e) s W g = equal (substitute_equal K closed e s W g)
substitute_below K closed (Below.sort p) s W g = Below.sort p
substitute_below K closed (product {V} e b) s W g =
    product (substitute_equal K closed e s W g) (substitute_below K closed b (over s) (None ∷ W) (K.good_over g None))
substitute_below K closed (Below.chain a b) s W g = Below.chain (substitute_below K closed a s W g) (substitute_below K closed b s W g)

-- typing

abbrev pub substituted_entry : (ℕ → Term) → Entry → Entry
substituted_entry s (Assumed A) = Assumed (substitute s A)
substituted_entry s (Defined b B) = Defined (substitute s b) (substitute s B)

pub record CarriesTypes (E : Env) : Type 1 where
  pub carries : Carries E
  pub Good : (ℕ → Term) → Context → Context → Type 0
  pub good_over : {s : ℕ → Term} {c d : Context} → Good s c d → (e : Entry) → Good (over s) (e ∷ c) (substituted_entry s e ∷ d)
  pub good_values : {s : ℕ → Term} {c d : Context} → Good s c d → carries.Good s (values c) (values d)
  pub good_at : {s : ℕ → Term} {c d : Context} → Good s c d → (i : ℕ) (T : Term) → type_at c i ≡ Some T → Types bare E d (s i) (substitute s T)

pub good_extend : {E : Env} (K : CarriesTypes E) (As : List Term) {s : ℕ → Term} {c d : Context} → K.Good s c d →
    K.Good (overs (length As) s) (extend c As) (extend d (substituted_entries s As))
good_extend K [] g = g
good_extend K (A ∷ As) {s} {c} {d} g =
    subst (λ q. K.Good q (extend (Assumed A ∷ c) As) (extend (Assumed (substitute s A) ∷ d) (substituted_entries (over s) As))) (overs_over (length As) s)
    (good_extend K As (K.good_over g (Assumed A)))

good_definition : {E : Env} (K : CarriesTypes E) (n : ℕ) (T : Term) (s : ℕ → Term) (c d : Context) → K.Good (overs n s) c d →
    K.Good (overs (suc n) s) (Assumed (shift n 0 T) ∷ c) (Assumed (shift n 0 (substitute s T)) ∷ d)
good_definition K n T s c d g =
    subst (λ A. K.Good (overs (suc n) s) (Assumed (shift n 0 T) ∷ c) (Assumed A ∷ d)) (sym (lift-substitute n s T)) (K.good_over g (Assumed (shift n 0 T)))

good_definitions : {E : Env} (K : CarriesTypes E) {c : Context} {n : ℕ} {ts : Terms} → Sorts bare E c n ts → (s : ℕ → Term) (d : Context) → K.Good (overs n s) c d →
    K.Good (overs (n + number ts) s) (definitions c n ts) (definitions d n (substitute_terms s ts))
good_definitions K (no_types {c} {n}) s d g = let e : n ≡ n + 0 = omega arith in subst (λ k. K.Good (overs k s) c d) e g
good_definitions K (a_type {c} {n} {T} {ts} p ps) s d g =
    let e : suc n + number ts ≡ n + suc (number ts) = omega arith in
    subst (λ k. K.Good (overs k s) (definitions (Assumed (shift n 0 T) ∷ c) (suc n) ts) (definitions (Assumed (shift n 0 (substitute s T)) ∷ d) (suc n) (substitute_terms s ts))) e
    (good_definitions K ps s (Assumed (shift n 0 (substitute s T)) ∷ d) (good_definition K n T s c d g))

pub types_at : {E : Env} {c : Context} {t t' T T' : Term} → t ≡ t' → T ≡ T' → Types bare E c t T → Types bare E c t' T'
types_at {E} {c} {t} {t'} {T} p q h = subst (λ T. Types bare E c t' T) q (subst (λ t. Types bare E c t T) p h)

pub substitute_recurses : {E : Env} (K : Carries E) → ClosedEnv E → {V : Values} {r : ℕ} {t : Term} → Recurses E V r t → (s : ℕ → Term) (W : Values) → K.Good s V W →
    Recurses E W r (substitute s t)
substitute_recurses K closed (recurses_here f xs e) s W g =
    recurses_here f (map (substitute s) xs) (equal_at refl (substitute-apply s (Ind f) xs) (substitute_equal K closed e s W g))
substitute_recurses K closed (recurses_later r) s W g = recurses_later (substitute_recurses K closed r (over s) (None ∷ W) (K.good_over g None))

pub types_length : {E : Env} {c : Context} {s : ℕ → Term} {ts As : List Term} → TypesAll bare E c s ts As → length ts ≡ length As
types_length no_terms = refl
types_length (term t ts) = ap suc (types_length ts)

pub predicate_length : (f : FamilyId) (F : FamilyDecl) (ps : List Term) → length (predicate_entries f F ps) ≡ suc (length F.indices)
predicate_length f F ps = length-append (entries_at (put_all ps Rel) F.indices) _ ∙ suc_end (entries_at_length (put_all ps Rel) F.indices)

zero_left : {n m : ℕ} → n ≡ m → 0 + n ≡ m
zero_left e = omega arith

-- a match, put together again
substitute_case : {E : Env} (f : FamilyId) (F : FamilyDecl) (ps is : List Term) (n : ℕ) (bs : Terms) (ret t : Term) (u : Sort) (s : ℕ → Term) (d : Context) →
    ClosedFamily F → KeepsFamily E f F → n ≡ suc (length F.indices) → length is ≡ length F.indices → length ps ≡ length F.parameters →
    TypesAll bare E d Rel (map (substitute s) ps) F.parameters →
    Entries bare E d (substituted_entries s (predicate_entries f F ps)) →
    Types bare E (extend d (substituted_entries s (predicate_entries f F ps))) (substitute (overs (length (predicate_entries f F ps)) s) ret) (SortT u) →
    MayEliminate E f F u →
    Types bare E d (substitute s t) (substitute s (apply (Ind f) (ps ++ is))) →
    Branches bare E d f (map (substitute s) ps) (substitute (overs (suc (length F.indices)) s) ret) 0 F.constructors (substitute_terms s bs) →
    Types bare E d (Case f (substitute_terms s (terms_of ps)) n (substitute (overs n s) ret) (substitute s t) (substitute_terms s bs))
    (substitute s (substitute (put_all (is ++ (t ∷ [])) Rel) ret))
substitute_case {E} f F ps is n bs ret t u s d closed kept e l lp p es q may scrutinee branches =
    types_at
    (ap (λ qs. Case f qs n (substitute (overs n s) ret) (substitute s t) (substitute_terms s bs)) (sym (each_terms ps s)))
    (ap (λ l. substitute (put_all l Rel) (substitute (overs n s) ret)) (sym (each_append (substitute s) is (t ∷ [])))
    ∙ ap (λ n. substitute (put_all (map (substitute s) (is ++ (t ∷ []))) Rel) (substitute (overs n s) ret)) (sym long)
    ∙ substitute-put_all_in (is ++ (t ∷ [])) s ret)
    (case (map (substitute s) ps) (map (substitute s) is) kept e (each_length (substitute s) is ∙ l) p
    (subst (λ As. Entries bare E d As) entries_eq es)
    (subst (λ n. Types bare E (extend d (predicate_entries f F (map (substitute s) ps))) (substitute (overs n s) ret) (SortT u)) (predicate_length f F ps ∙ sym e)
    (subst (λ As. Types bare E (extend d As) (substitute (overs (length (predicate_entries f F ps)) s) ret) (SortT u)) entries_eq q))
    may
    (subst (λ T. Types bare E d (substitute s t) T) (substitute-apply s (Ind f) (ps ++ is) ∙ ap (apply (Ind f)) (each_append (substitute s) ps is)) scrutinee)
    (subst (λ n. Branches bare E d f (map (substitute s) ps) (substitute (overs n s) ret) 0 F.constructors (substitute_terms s bs)) (sym e) branches))
  where
    entries_eq : substituted_entries s (predicate_entries f F ps) ≡ predicate_entries f F (map (substitute s) ps)
    entries_eq = substitute_predicate_entries f F ps s closed lp

    long : length (is ++ (t ∷ [])) ≡ n
    long = length-append is (t ∷ []) ∙ suc_end l ∙ sym e

substitute_branch : {E : Env} (f : FamilyId) (ps : List Term) (ret : Term) (n m np k : ℕ) (C : Constructor) (Cs : List Constructor) (body : Term) (bs : Terms) (s : ℕ → Term) (d : Context) →
    m ≡ length C.args → length ps ≡ np → ClosedConstructor np C → length C.result ≡ k →
    Entries bare E d (substituted_entries s (branch_entries C ps)) →
    Types bare E (extend d (substituted_entries s (branch_entries C ps))) (substitute (overs (length (branch_entries C ps)) s) body)
    (substitute (overs (length (branch_entries C ps)) s) (branch_type f n C ps ret)) →
    Branches bare E d f (map (substitute s) ps) (substitute (overs (suc k) s) ret) (suc n) Cs (substitute_terms s bs) →
    Branches bare E d f (map (substitute s) ps) (substitute (overs (suc k) s) ret) n (C ∷ Cs) (Next m (substitute (overs m s) body) (substitute_terms s bs))
substitute_branch {E} f ps ret n m np k C Cs body bs s d e l closed lr es p rest =
    branch e (subst (λ As. Entries bare E d As) entries_eq es)
    (types_at (ap (λ n. substitute (overs n s) body) (long ∙ sym e))
    (ap (λ j. substitute (overs j s) (branch_type f n C ps ret)) long ∙ substitute_branch_type f n C ps ret np (suc k) s l closed (ap suc lr))
    (subst (λ As. Types bare E (extend d As) (substitute (overs (length (branch_entries C ps)) s) body) (substitute (overs (length (branch_entries C ps)) s) (branch_type f n C ps ret)))
    entries_eq p))
    rest
  where
    entries_eq : substituted_entries s (branch_entries C ps) ≡ branch_entries C (map (substitute s) ps)
    entries_eq = substitute_entries_at C.args ps np s l closed.arguments

    long : length (branch_entries C ps) ≡ length C.args
    long = entries_at_length (put_all ps Rel) C.args

mutual
  pub substitute_types : {E : Env} (K : CarriesTypes E) → ClosedEnv E → {c : Context} {t T : Term} → Types bare E c t T → (s : ℕ → Term) (d : Context) → K.Good s c d →
      Types bare E d (substitute s t) (substitute s T)
  substitute_types K closed (rel {i} {T} e) s d g = K.good_at g i T e
  substitute_types K closed (sort h) s d g = sort h
  substitute_types K closed (prod {c} {A} p q) s d g =
      prod (substitute_types K closed p s d g) (substitute_types K closed q (over s) (Assumed (substitute s A) ∷ d) (K.good_over g (Assumed A)))
  substitute_types K closed (lambda {c} {A} p q) s d g =
      lambda (substitute_types K closed p s d g) (substitute_types K closed q (over s) (Assumed (substitute s A) ∷ d) (K.good_over g (Assumed A)))
  substitute_types K closed (let_in {c} {b} {B} p q r) s d g =
      let_in (substitute_types K closed p s d g) (substitute_types K closed q s d g)
      (substitute_types K closed r (over s) (Defined (substitute s b) (substitute s B) ∷ d) (K.good_over g (Defined b B)))
  substitute_types K closed (app {f} {a} {A} {B} p q) s d g =
      types_at refl (substitute-put a s B) (app (substitute_types K closed p s d g) (substitute_types K closed q s d g))
  substitute_types K closed (const {k} {T} {b} kept) s d g =
      types_at refl (sym (substitute_whole T s (closed.types k T b kept))) (const kept)
  substitute_types K closed (ind {f} {F} kept) s d g =
      types_at refl (sym (substitute_whole (family_type F) s (closed_family_type F (closed.known f F kept)))) (ind kept)
  substitute_types K closed (construct {f} {n} {F} {C} kept e) s d g =
      types_at refl
      (sym (substitute_whole (constructor_type f F C) s
      (closed_constructor_type f F C (closed.families f F kept) ((closed.families f F kept).constructors n C e))))
      (construct kept e)
  substitute_types K closed (case {c} {f} {F} {bs} {n} {ret} {t} {s = u} ps is kept e l p es q may scrutinee branches) s d g =
      substitute_case f F ps is n bs ret t u s d (closed.families f F kept) kept e l (types_length p)
      (substitute_types_all K closed p 0 Rel s d g (agree_none s Rel) (closed.families f F kept).parameters)
      (substitute_entries K closed es s d g)
      (substitute_types K closed q (overs (length (predicate_entries f F ps)) s) (extend d (substituted_entries s (predicate_entries f F ps)))
      (good_extend K (predicate_entries f F ps) g))
      may
      (substitute_types K closed scrutinee s d g)
      (substitute_branches K closed branches (length F.parameters) (length F.indices) s d g (types_length p)
      (record { closed = (closed.families f F kept).constructors; counts = (closed.families f F kept).counts }))
  substitute_types K closed (fix {c} {i} {rargs} {types} {bodies} e h p b ask) s d g =
      fix (number-substitute types s ∙ e) (term_at-substitute types s i ∙ ap (substituted_term s) h) (substitute_sorts K closed p s d g)
      (substitute_bodies K closed b s (definitions d 0 (substitute_terms s types))
      (subst (λ k. K.Good (overs k s) (definitions c 0 types) (definitions d 0 (substitute_terms s types))) (zero_left e) (good_definitions K p s d g))) tt
  substitute_types K closed (conv {c} p b q) s d g =
      conv (substitute_types K closed p s d g) (substitute_below K.carries closed b s (values d) (K.good_values g)) (substitute_types K closed q s d g)

  pub substitute_types_all : {E : Env} (K : CarriesTypes E) → ClosedEnv E → {c : Context} {q : ℕ → Term} {ts As : List Term} → TypesAll bare E c q ts As →
      (k : ℕ) (q' s : ℕ → Term) (d : Context) → K.Good s c d → Agree k (λ j. substitute s (q j)) q' → ClosedEntries k As →
      TypesAll bare E d q' (map (substitute s) ts) As
  substitute_types_all K closed no_terms k q' s d g a c = no_terms
  substitute_types_all K closed (term {s = q} {t = t} {A = A} p ps) k q' s d g a c =
      term
      (types_at refl (substitute_closed' A k q s q' a c.0) (substitute_types K closed p s d g))
      (substitute_types_all K closed ps (suc k) (first (substitute s t) q') s d g (agree_first k s q q' t a) c.1)

  pub substitute_entries : {E : Env} (K : CarriesTypes E) → ClosedEnv E → {c : Context} {As : List Term} → Entries bare E c As → (s : ℕ → Term) (d : Context) → K.Good s c d →
      Entries bare E d (substituted_entries s As)
  substitute_entries K closed no_entries s d g = no_entries
  substitute_entries K closed (entry {c} {A} p ps) s d g =
      entry (substitute_types K closed p s d g) (substitute_entries K closed ps (over s) (Assumed (substitute s A) ∷ d) (K.good_over g (Assumed A)))

  pub substitute_branches : {E : Env} (K : CarriesTypes E) → ClosedEnv E → {c : Context} {f : FamilyId} {ps : List Term} {ret : Term} {n : ℕ} {Cs : List Constructor} {bs : Terms} →
      Branches bare E c f ps ret n Cs bs → (np k : ℕ) (s : ℕ → Term) (d : Context) → K.Good s c d → length ps ≡ np → Declared np k Cs →
      Branches bare E d f (map (substitute s) ps) (substitute (overs (suc k) s) ret) n Cs (substitute_terms s bs)
  substitute_branches K closed no_branches np k s d g l D = no_branches
  substitute_branches K closed (branch {c} {f} {ps} {ret} {n} {k = m} {C} {Cs} {body} {bs} e es p rest) np k s d g l D =
      substitute_branch f ps ret n m np k C Cs body bs s d e l (D.closed 0 C refl) (D.counts 0 C refl)
      (substitute_entries K closed es s d g)
      (substitute_types K closed p (overs (length (branch_entries C ps)) s) (extend d (substituted_entries s (branch_entries C ps)))
      (good_extend K (branch_entries C ps) g))
      (substitute_branches K closed rest np k s d g l
      (record { closed = λ i. D.closed (suc i); counts = λ i. D.counts (suc i) }))

  pub substitute_sorts : {E : Env} (K : CarriesTypes E) → ClosedEnv E → {c : Context} {n : ℕ} {ts : Terms} → Sorts bare E c n ts → (s : ℕ → Term) (d : Context) → K.Good (overs n s) c d →
      Sorts bare E d n (substitute_terms s ts)
  substitute_sorts K closed no_types s d g = no_types
  substitute_sorts K closed (a_type {c} {n} {T} p ps) s d g =
      a_type (types_at (sym (lift-substitute n s T)) refl (substitute_types K closed p (overs n s) d g))
      (substitute_sorts K closed ps s (Assumed (shift n 0 (substitute s T)) ∷ d) (good_definition K n T s c d g))

  pub substitute_bodies : {E : Env} (K : CarriesTypes E) → ClosedEnv E → {c : Context} {n : ℕ} {rargs : List ℕ} {types bodies : Terms} → Bodies bare E c n rargs types bodies → (s : ℕ → Term) (d : Context) →
      K.Good (overs n s) c d → Bodies bare E d n rargs (substitute_terms s types) (substitute_terms s bodies)
  substitute_bodies K closed no_bodies s d g = no_bodies
  substitute_bodies K closed (a_body {c} {n} {T = T} {body = body} r p ps) s d g =
      a_body (substitute_recurses K.carries closed r (overs n s) (values d) (K.good_values g)) (types_at refl (sym (lift-substitute n s T)) (substitute_types K closed p (overs n s) d g)) (substitute_bodies K closed ps s d g)
