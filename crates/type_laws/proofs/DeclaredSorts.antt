-- In an accepted environment each typed term, and each of its types, speaks of declared levels alone; so the sort of a term that has one is declared.
use Rattle.std.proofs.Common.{ℕ, zero, suc, ◌+◌, ◌≡◌, ◌≢◌, List, [], ◌∷◌, ◌++◌, map, length, Some, slice_get, inl, inr, refl, sym, ap, ◌∙◌, subst}
use Rattle.std.proofs.lemmas.Option.{slice_get-map}
use Rattle.universe_levels.specs.declared.constraint.Constraint.{Constraint}
use Rattle.universe_levels.specs.declared.level.LevelExpr.{LevelExpr}
use Rattle.universe_levels.specs.declared.sort.Sort.{Sort}
use Rattle.universe_levels.specs.declared.sort.Sort.TheVariants.{Prop, Of}
use Rattle.universe_levels.specs.Consistency.{IsOver}
use Rattle.universe_levels.specs.Parts.{raised}
use Rattle.universe_levels.specs.Sorts.{super_sort, product_sort}
use Rattle.universe_levels.proofs.MaximumLemmas.{maximum_of-normal}
use Rattle.universe_levels.proofs.OverLemmas.{over-super_sort, over-product_sort}
use Rattle.trees.proofs.Every.{every_rename, every_substitute, every_before}
use Rattle.pc_terms.specs.declared.leaf.FamilyId.{FamilyId}
use Rattle.pc_terms.specs.Syntax.{Term, Terms, Done, Next, Rel, Label, SortOf, SortT, App, Ind, ups, over, substitute, shift, first, put, put_all, apply, variables, terms_of, term_at, Every, EveryTerm}
use Rattle.calculus_rules.specs.declared.declaration.Block.{Block}
use Rattle.calculus_rules.specs.declared.declaration.Constructor.{Constructor}
use Rattle.calculus_rules.specs.declared.declaration.Family.{Family}
use Rattle.calculus_rules.specs.declared.declaration.Kept.{Kept}
use Rattle.calculus_rules.specs.declared.declaration.Kept.TheVariants.{Constant, Heads, Block as Whole}
use Rattle.calculus_rules.specs.declared.entry.Entry.{Entry}
use Rattle.calculus_rules.specs.declared.entry.Entry.TheVariants.{Assumed, Defined}
use Rattle.calculus_rules.specs.Environment.{Env, FamilyDecl, Has, here, there, with_parameters, head_of, heads_of, KeepsFamily, KnowsFamily, IsDeclared}
use Rattle.calculus_rules.specs.Context.{Context, type_of, type_at, extend}
use Rattle.calculus_rules.specs.Instances.{products, entries_at, predicate_entries, branch_entries, constructor_type, definitions}
use Rattle.calculus_rules.specs.Typing.{Mode, bare, Types, rel, sort, prod, lambda, let_in, app, const, ind, construct, case, fix, conv, TypesAll, no_terms, term, Entries, no_entries, entry, Branches, no_branches, branch, Sorts, no_types, a_type, Bodies, no_bodies, a_body, EntrySorts, no_sorts, a_sort}
use Rattle.calculus_rules.specs.Accepted.{Accepted, empty, constant, block, BlockFits, ConstructorFits, IsAccepted, env}
use Rattle.calculus_rules.proofs.Spines.{one_item}
use Rattle.typing_laws.proofs.RenamingAndPutting.{lifted_some}
use Rattle.type_laws.specs.Contexts.{IsContext, IsContext.empty, assume, define}
use Rattle.type_laws.proofs.EnvironmentSorts.{kept_is_known}
use Rattle.calculus_rules.proofs.Listing.{from_map}

-- declared sorts: what is declared hangs on the number of levels alone

abbrev pub SortOver : ℕ → Sort → Type 0
SortOver n Prop = Unit {0}
SortOver n (Of u) = (u ≢ []) × IsOver n u

sort_over : (E : Env) (s : Sort) → IsDeclared E s → SortOver E.levels s
sort_over E Prop h = tt
sort_over E (Of u) h = h

over_declared : (E : Env) (s : Sort) → SortOver E.levels s → IsDeclared E s
over_declared E Prop h = tt
over_declared E (Of u) h = h

-- universes that are made from others have a level
some_raised : (u : List LevelExpr) → u ≢ [] → map raised u ≢ []
some_raised [] h e = h refl
some_raised (x ∷ u) h e = absurd (cc)

some_append : (u w : List LevelExpr) → u ≢ [] → u ++ w ≢ []
some_append [] w h e = h refl
some_append (x ∷ u) w h e = absurd (cc)

super_over : (n : ℕ) (s : Sort) → SortOver n s → SortOver n (super_sort s)
super_over n Prop h = (λ e. absurd (cc), over-super_sort n Prop tt)
super_over n (Of u) h = (some_raised u h.0, over-super_sort n (Of u) h.1)

product_over : (n : ℕ) (s w : Sort) → SortOver n s → SortOver n w → SortOver n (product_sort s w)
product_over n s Prop h k = tt
product_over n Prop (Of w) h k = k
product_over n (Of u) (Of w) h k = ((maximum_of-normal (u ++ w) (some_append u w h.0)).0, over-product_sort n (Of u) (Of w) h.1 k.1)

-- the sort of a declared sort, and of a product over declared sorts
pub super_declared : (E : Env) (s : Sort) → IsDeclared E s → IsDeclared E (super_sort s)
super_declared E s h = over_declared E (super_sort s) (super_over E.levels s (sort_over E s h))

pub product_declared : (E : Env) (s w : Sort) → IsDeclared E s → IsDeclared E w → IsDeclared E (product_sort s w)
product_declared E s w h k = over_declared E (product_sort s w) (product_over E.levels s w (sort_over E s h) (sort_over E w k))

-- terms of declared levels

abbrev HasDeclared : ℕ → Label → Type 0
HasDeclared n (SortOf s) = SortOver n s
HasDeclared n l = Unit {0}

abbrev pub Declared : ℕ → Term → Type 0
Declared n t = Every (HasDeclared n) t

abbrev AllDeclared : ℕ → Terms → Type 0
AllDeclared n ts = EveryTerm (HasDeclared n) ts

abbrev pub EachDeclared : ℕ → List Term → Type 0
EachDeclared n [] = Unit {0}
EachDeclared n (x ∷ xs) = Declared n x × EachDeclared n xs

abbrev pub DeclaredContext : ℕ → Context → Type 0
DeclaredContext n c = (i : ℕ) (T : Term) → type_at c i ≡ Some T → Declared n T

none_declared : (n : ℕ) → DeclaredContext n []
none_declared n i T e = absurd (cc)

context_over : (n : ℕ) (c : Context) → DeclaredContext n c → (e : Entry) → Declared n (type_of e) → DeclaredContext n (e ∷ c)
context_over n c k e d zero T q = subst (Declared n) (one_item q) (every_rename (HasDeclared n) (type_of e) suc d)
context_over n c k e d (suc i) T q =
    let (U, p, r) = lifted_some (type_at c i) T q in
    subst (Declared n) (sym r) (every_rename (HasDeclared n) U suc (k i U p))

extended : (n : ℕ) (c : Context) (As : List Term) → DeclaredContext n c → EachDeclared n As → DeclaredContext n (extend c As)
extended n c [] k h = k
extended n c (A ∷ As) k h = extended n (Assumed A ∷ c) As (context_over n c k (Assumed A) h.0) h.1

-- substitutions of declared terms

abbrev Puts : ℕ → (ℕ → Term) → Type 0
Puts n s = (i : ℕ) → Declared n (s i)

puts_first : (n : ℕ) (x : Term) (s : ℕ → Term) → Declared n x → Puts n s → Puts n (first x s)
puts_first n x s h g zero = h
puts_first n x s h g (suc i) = g i

puts_all : (n : ℕ) (xs : List Term) (s : ℕ → Term) → EachDeclared n xs → Puts n s → Puts n (put_all xs s)
puts_all n [] s h g = g
puts_all n (x ∷ xs) s h g = puts_all n xs (first x s) h.1 (puts_first n x s h.0 g)

puts_none : (n : ℕ) → Puts n Rel
puts_none n i = tt

puts_over : (n : ℕ) (s : ℕ → Term) → Puts n s → Puts n (over s)
puts_over n s g zero = tt
puts_over n s g (suc i) = every_rename (HasDeclared n) (s i) suc (g i)

substituted : (n : ℕ) (t : Term) (s : ℕ → Term) → Declared n t → Puts n s → Declared n (substitute s t)
substituted n t s h g = every_substitute (HasDeclared n) t s h g

entries_declared : (n : ℕ) (As : List Term) (s : ℕ → Term) → EachDeclared n As → Puts n s → EachDeclared n (entries_at s As)
entries_declared n [] s h g = tt
entries_declared n (A ∷ As) s h g = (substituted n A s h.0 g, entries_declared n As (over s) h.1 (puts_over n s g))

-- lists, spines and products

each_append : (n : ℕ) (xs ys : List Term) → EachDeclared n xs → EachDeclared n ys → EachDeclared n (xs ++ ys)
each_append n [] ys h k = k
each_append n (x ∷ xs) ys h k = (h.0, each_append n xs ys h.1 k)

each_first : (n : ℕ) (xs ys : List Term) → EachDeclared n (xs ++ ys) → EachDeclared n xs
each_first n [] ys h = tt
each_first n (x ∷ xs) ys h = (h.0, each_first n xs ys h.1)

each_last : (n : ℕ) (xs ys : List Term) → EachDeclared n (xs ++ ys) → EachDeclared n ys
each_last n [] ys h = h
each_last n (x ∷ xs) ys h = each_last n xs ys h.1

each_lifted : (n m : ℕ) (xs : List Term) → EachDeclared n xs → EachDeclared n (map (shift m 0) xs)
each_lifted n m [] h = tt
each_lifted n m (x ∷ xs) h = (every_rename (HasDeclared n) x (ups 0 (λ i. m + i)) h.0, each_lifted n m xs h.1)

each_variable : (n m : ℕ) → EachDeclared n (variables m)
each_variable n zero = tt
each_variable n (suc m) = (tt, each_variable n m)

list_declared : (n : ℕ) (xs : List Term) → EachDeclared n xs → AllDeclared n (terms_of xs)
list_declared n [] h = tt
list_declared n (x ∷ xs) h = (h.0, list_declared n xs h.1)

apply_declared : (n : ℕ) (f : Term) (xs : List Term) → Declared n f → EachDeclared n xs → Declared n (apply f xs)
apply_declared n f [] h k = h
apply_declared n f (x ∷ xs) h k = apply_declared n (App f x) xs (tt, (h, (k.0, tt))) k.1

-- what a declared spine says of its head and its arguments
of_apply : (n : ℕ) (f : Term) (xs : List Term) → Declared n (apply f xs) → Declared n f × EachDeclared n xs
of_apply n f [] h = (h, tt)
of_apply n f (x ∷ xs) h = let (g, k) = of_apply n (App f x) xs h in (g.1.0, (g.1.1.0, k))

products_declared : (n : ℕ) (As : List Term) (T : Term) → EachDeclared n As → Declared n T → Declared n (products As T)
products_declared n [] T h k = k
products_declared n (A ∷ As) T h k = (tt, (h.0, (products_declared n As T h.1 k, tt)))

item_declared : (n : ℕ) (ts : Terms) (i m : ℕ) (t : Term) → AllDeclared n ts → term_at ts i ≡ Some (m, t) → Declared n t
item_declared n (Next m u ts) zero k t h e = subst (Declared n) (ap (λ p. p.1) (one_item e)) h.0
item_declared n (Next m u ts) (suc i) k t h e = item_declared n ts i k t h.1 e
item_declared n Done i k t h e = absurd (cc)

-- declarations of declared levels

pub record DeclaredHeads (n : ℕ) (B : Block) : Type 0 where
  pub parameters : EachDeclared n B.params
  pub families : (i : ℕ) (G : Family) → slice_get B.families i ≡ Some G → EachDeclared n G.indices × SortOver n G.sort

abbrev pub DeclaredConstructors : ℕ → Block → Type 0
DeclaredConstructors n B = (i j : ℕ) (G : Family) (C : Constructor) → slice_get B.families i ≡ Some G → slice_get G.ctors j ≡ Some C → EachDeclared n C.args × EachDeclared n C.result

abbrev pub DeclaredKept : ℕ → Kept → Type 0
DeclaredKept n (Constant k T b) = Declared n T
DeclaredKept n (Heads B) = DeclaredHeads n B
DeclaredKept n (Whole B) = DeclaredHeads n B × DeclaredConstructors n B

abbrev pub AllKept : ℕ → List Kept → Type 0
AllKept n ds = (d : Kept) → Has ds d → DeclaredKept n d

record DeclaredFamily (n : ℕ) (F : FamilyDecl) : Type 0 where
  parameters : EachDeclared n F.parameters
  indices : EachDeclared n F.indices
  sort : SortOver n F.sort

family_in : (n : ℕ) (B : Block) (i : ℕ) (F : FamilyDecl) → DeclaredHeads n B → (G : Family) × (slice_get B.families i ≡ Some G) × (with_parameters B.params G ≡ F) → DeclaredFamily n F
family_in n B i F h (G, at, e) = subst (DeclaredFamily n) e (record { parameters = h.parameters; indices = (h.families i G at).0; sort = (h.families i G at).1 })

known_declared : (E : Env) → AllKept E.levels E.declarations → (f : FamilyId) (F : FamilyDecl) → KnowsFamily E f F → DeclaredFamily E.levels F
known_declared E D f F (B, inl h, q, e) =
    let (G, at, p) = from_map (with_parameters B.params) (slice_get B.families f.family) F e in family_in E.levels B f.family F (D (Whole B) h).0 (G, at, sym p)
known_declared E D f F (B, inr h, q, e) =
    let (G, at, p) = from_map (with_parameters B.params) (slice_get B.families f.family) F e in family_in E.levels B f.family F (D (Heads B) h) (G, at, sym p)

constructor_declared : (E : Env) → AllKept E.levels E.declarations → (f : FamilyId) (F : FamilyDecl) (j : ℕ) (C : Constructor) → KeepsFamily E f F → slice_get F.constructors j ≡ Some C →
    EachDeclared E.levels C.args × EachDeclared E.levels C.result
constructor_declared E D f F j C (B, h, q, e) at =
    let (G, i, g) = from_map (with_parameters B.params) (slice_get B.families f.family) F e in
    (D (Whole B) h).1 f.family j G C i (ap (λ F. slice_get F.constructors j) (sym g) ∙ at)

-- the entries of a predicate and of a branch

predicate_declared : (n : ℕ) (f : FamilyId) (F : FamilyDecl) (ps : List Term) → DeclaredFamily n F → EachDeclared n ps → EachDeclared n (predicate_entries f F ps)
predicate_declared n f F ps h k =
    each_append n (entries_at (put_all ps Rel) F.indices) (apply (Ind f) (map (shift (length F.indices) 0) ps ++ variables (length F.indices)) ∷ [])
    (entries_declared n F.indices (put_all ps Rel) h.indices (puts_all n ps Rel k (puts_none n))) (
      apply_declared n (Ind f) (map (shift (length F.indices) 0) ps ++ variables (length F.indices)) (tt, tt)
          (each_append n (map (shift (length F.indices) 0) ps) (variables (length F.indices)) (each_lifted n (length F.indices) ps k) (each_variable n (length F.indices))),
      tt,
    )

type_declared : (n : ℕ) (f : FamilyId) (F : FamilyDecl) (C : Constructor) → EachDeclared n F.parameters → EachDeclared n C.args × EachDeclared n C.result →
    Declared n (constructor_type f F C)
type_declared n f F C h (k, r) =
    let ps = map (shift (length C.args) 0) (variables (length F.parameters)) in
    let T = apply (Ind f) (ps ++ C.result) in
    products_declared n F.parameters (products C.args T) h
    (products_declared n C.args T k
    (apply_declared n (Ind f) (ps ++ C.result) (tt, tt)
    (each_append n ps C.result (each_lifted n (length C.args) (variables (length F.parameters)) (each_variable n (length F.parameters))) r)))

-- the constructors that a match's branches speak of
abbrev Args : ℕ → List Constructor → Type 0
Args n Cs = (j : ℕ) (C : Constructor) → slice_get Cs j ≡ Some C → EachDeclared n C.args

mutual
  pub declared : {m : Mode} {E : Env} → AllKept E.levels E.declarations → {c : Context} {t T : Term} → Types m E c t T → DeclaredContext E.levels c → Declared E.levels t × Declared E.levels T
  declared D (rel {i = i} {T = T} e) k = (tt, k i T e)
  declared {m} {E} D (sort {s = s} d) k = ((sort_over E s d, tt), (super_over E.levels s (sort_over E s d), tt))
  declared {m} {E} D (prod {A = A} {s = s} {s' = w} p q) k =
      let (a, x) = declared D p k in
      let (b, y) = declared D q (context_over E.levels _ k (Assumed A) a) in
      ((tt, (a, (b, tt))), (product_over E.levels s w x.0 y.0, tt))
  declared {m} {E} D (lambda {A = A} p q) k =
      let (a, x) = declared D p k in
      let (b, y) = declared D q (context_over E.levels _ k (Assumed A) a) in
      ((tt, (a, (b, tt))), (tt, (a, (y, tt))))
  declared {m} {E} D (let_in {b = b} {B = B} p q r) k =
      let (x, y) = declared D p k in
      let (v, z) = declared D q k in
      let (t, u) = declared D r (context_over E.levels _ k (Defined b B) x) in
      ((tt, (v, (x, (t, tt)))), (tt, (v, (x, (u, tt)))))
  declared {m} {E} D (app {a = a} {B = B} p q) k =
      let (f, P) = declared D p k in
      let (v, x) = declared D q k in
      ((tt, (f, (v, tt))), substituted E.levels B (put a) P.1.1.0 (puts_first E.levels a Rel v (puts_none E.levels)))
  declared D (const {k = x} {T = T} {b = b} kept) k = ((tt, tt), D (Constant x T b) kept)
  declared {m} {E} D (ind {f = f} {F = F} kept) k =
      let d = known_declared E D f F kept in
      ((tt, tt), products_declared E.levels F.parameters (products F.indices (SortT F.sort)) d.parameters (products_declared E.levels F.indices (SortT F.sort) d.indices (d.sort, tt)))
  declared {m} {E} D (construct {f = f} {n = n} {F = F} {C = C} kept at) k =
      let d = known_declared E D f F (kept_is_known E f F kept) in
      ((tt, tt), type_declared E.levels f F C d.parameters (constructor_declared E D f F n C kept at))
  declared {m} {E} D (case {c = c} {f = f} {F = F} {ret = ret} {t = t} ps is kept e l p es q may scrutinee branches) k =
      let d = known_declared E D f F (kept_is_known E f F kept) in
      let (s, x) = declared D scrutinee k in
      let y = (of_apply E.levels (Ind f) (ps ++ is) x).1 in
      let a = each_first E.levels ps is y in
      let r = (declared D q (extended E.levels c (predicate_entries f F ps) k (predicate_declared E.levels f F ps d a))).0 in (
        (tt, (list_declared E.levels ps a, (r, (s, (branches_declared D branches (λ j C h. (constructor_declared E D f F j C kept h).0) a k, tt))))),
        substituted E.levels ret (put_all (is ++ (t ∷ [])) Rel) r
            (puts_all E.levels (is ++ (t ∷ [])) Rel (each_append E.levels is (t ∷ []) (each_last E.levels ps is y) (s, tt)) (puts_none E.levels)),
      )
  declared {m} {E} D (fix {i = i} {types = types} {T = T} e at p b ask) k =
      let (ts, under) = definitions_declared D p k in
      ((tt, (ts, (bodies_declared D b under, tt))), item_declared E.levels types i 0 T ts at)
  declared D (conv p b q) k = ((declared D p k).0, (declared D q k).0)

  branches_declared : {m : Mode} {E : Env} → AllKept E.levels E.declarations → {c : Context} {f : FamilyId} {ps : List Term} {ret : Term} {n : ℕ} {Cs : List Constructor} {bs : Terms} →
      Branches m E c f ps ret n Cs bs → Args E.levels Cs → EachDeclared E.levels ps → DeclaredContext E.levels c → AllDeclared E.levels bs
  branches_declared D no_branches a ps k = tt
  branches_declared {m} {E} D (branch {c = c} {ps = ps} {C = C} e es d rest) a h k =
      let under = extended E.levels c (branch_entries C ps) k (entries_declared E.levels C.args (put_all ps Rel) (a 0 C refl) (puts_all E.levels ps Rel h (puts_none E.levels))) in
      ((declared D d under).0, branches_declared D rest (λ j. a (suc j)) h k)

  definitions_declared : {m : Mode} {E : Env} → AllKept E.levels E.declarations → {c : Context} {n : ℕ} {ts : Terms} → Sorts m E c n ts → DeclaredContext E.levels c →
      AllDeclared E.levels ts × DeclaredContext E.levels (definitions c n ts)
  definitions_declared D no_types k = (tt, k)
  definitions_declared {m} {E} D (a_type {c = c} {n = n} {T = T} p ps) k =
      let a = (declared D p k).0 in
      let (ts, under) = definitions_declared D ps (context_over E.levels c k (Assumed (shift n 0 T)) a) in
      ((every_before (HasDeclared E.levels) T (ups 0 (λ i. n + i)) a, ts), under)

  bodies_declared : {m : Mode} {E : Env} → AllKept E.levels E.declarations → {c : Context} {n : ℕ} {rargs : List ℕ} {types bodies : Terms} → Bodies m E c n rargs types bodies →
      DeclaredContext E.levels c → AllDeclared E.levels bodies
  bodies_declared D no_bodies k = tt
  bodies_declared D (a_body r d ps) k = ((declared D d k).0, bodies_declared D ps k)

-- telescopes and the terms of telescopes

entries_of : {m : Mode} {E : Env} → AllKept E.levels E.declarations → {c : Context} {As : List Term} → Entries m E c As → DeclaredContext E.levels c → EachDeclared E.levels As
entries_of D no_entries k = tt
entries_of {m} {E} D (entry {c = c} {A = A} p ps) k = let a = (declared D p k).0 in (a, entries_of D ps (context_over E.levels c k (Assumed A) a))

sorts_of : {m : Mode} {E : Env} → AllKept E.levels E.declarations → {c : Context} {As : List Term} {ss : List Sort} → EntrySorts m E c As ss → DeclaredContext E.levels c → EachDeclared E.levels As
sorts_of D no_sorts k = tt
sorts_of {m} {E} D (a_sort {c = c} {A = A} p ps) k = let a = (declared D p k).0 in (a, sorts_of D ps (context_over E.levels c k (Assumed A) a))

terms_of_all : {m : Mode} {E : Env} → AllKept E.levels E.declarations → {c : Context} {s : ℕ → Term} {xs As : List Term} → TypesAll m E c s xs As → DeclaredContext E.levels c → EachDeclared E.levels xs
terms_of_all D no_terms k = tt
terms_of_all D (term p ps) k = ((declared D p k).0, terms_of_all D ps k)

-- accepted declarations are of declared levels

one_more : (n : ℕ) (d : Kept) (ds : List Kept) → DeclaredKept n d → AllKept n ds → AllKept n (d ∷ ds)
one_more n d ds h D e here = h
one_more n d ds h D e (there k) = D e k

heads_declared : (n : ℕ) (B : Block) → DeclaredHeads n B → DeclaredHeads n (heads_of B)
heads_declared n B h = record { parameters = h.parameters; families = families }
  where
    families : (i : ℕ) (H : Family) → slice_get (map head_of B.families) i ≡ Some H → EachDeclared n H.indices × SortOver n H.sort
    families i H e =
        let (G, at, q) = from_map head_of (slice_get B.families i) H (sym (slice_get-map head_of B.families i) ∙ e) in
        subst (λ H. EachDeclared n H.indices × SortOver n H.sort) (sym q) (h.families i G at)

block_heads : (n : ℕ) (cs : List Constraint) (ds : List Kept) (B : Block) (H : Env) → AllKept n ds → BlockFits (env n cs ds) H B → DeclaredHeads n B
block_heads n cs ds B H D p =
    let Ps : EachDeclared n B.params = entries_of {E = env n cs ds} D p.parameters (none_declared n) in
    record {
      parameters = Ps;
      families = λ i G e. (
        entries_of {E = env n cs ds} D (p.families i G e).indices (extended n [] B.params (none_declared n) Ps),
        sort_over (env n cs ds) G.sort (p.families i G e).sort,
      );
    }

constructor_fits : (H : Env) (B : Block) (G : Family) (C : Constructor) → AllKept H.levels H.declarations → EachDeclared H.levels B.params → ConstructorFits H B G C →
    EachDeclared H.levels C.args × EachDeclared H.levels C.result
constructor_fits H B G C D Ps p =
    let under = extended H.levels [] B.params (none_declared H.levels) Ps in
    let args = sorts_of D p.arguments under in
    (args, terms_of_all D p.result (extended H.levels (extend [] B.params) C.args under args))

all_kept : {n : ℕ} {cs : List Constraint} {ds : List Kept} → Accepted n cs ds → AllKept n ds
all_kept empty d h = elim h [ ]
all_kept {n} {cs} (constant {ds} {k} {T} {b} a f p q) d h =
    one_more n (Constant k T b) ds (declared {E = env n cs ds} (all_kept a) p (none_declared n)).0 (all_kept a) d h
all_kept {n} {cs} (block {ds} {B} a f p) d h =
    let D = all_kept a in
    let hs = block_heads n cs ds B (env n cs (Heads (heads_of B) ∷ ds)) D p in
    let DH = one_more n (Heads (heads_of B)) ds (heads_declared n B hs) D in
    one_more n (Whole B) ds
    (hs, λ i j G C e g. constructor_fits (env n cs (Heads (heads_of B) ∷ ds)) B G C DH hs.parameters ((p.families i G e).constructors j C g)) D d h

pub context_declared : (E : Env) → IsAccepted E → (c : Context) → IsContext E c → DeclaredContext E.levels c
context_declared E h [] IsContext.empty = none_declared E.levels
context_declared E h (Assumed A ∷ c) (assume k (s, p)) =
    let g = context_declared E h c k in context_over E.levels c g (Assumed A) (declared (all_kept h.declarations) p g).0
context_declared E h (Defined b B ∷ c) (define k (s, p) q) =
    let g = context_declared E h c k in context_over E.levels c g (Defined b B) (declared (all_kept h.declarations) p g).0

-- the sort of a term that has one
pub sort_declared : (E : Env) → IsAccepted E → (c : Context) (T : Term) (s : Sort) → IsContext E c → Types bare E c T (SortT s) → IsDeclared E s
sort_declared E h c T s k d = over_declared E s (declared (all_kept h.declarations) d (context_declared E h c k)).1.0
