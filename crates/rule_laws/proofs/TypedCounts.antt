-- What has a type is well counted, and so is an accepted environment.
use Rattle.std.proofs.Common.{◌≡◌, ℕ, zero, suc, ◌<◌, List, [], ◌∷◌, ◌++◌, map, length, Option, Some, None, refl, ap, ◌∙◌, slice_get, arith}
use Rattle.universe_levels.proofs.OverLemmas.{over-super_sort, over-product_sort}
use Rattle.universe_levels.specs.Sorts.{super_sort, product_sort}
use Rattle.pc_terms.specs.Syntax.{Ind, put}
use Rattle.calculus_rules.specs.declared.declaration.Kept.TheVariants.{Heads}
use Rattle.calculus_rules.specs.Environment.{head_of, heads_of}
use Rattle.rule_laws.proofs.Counted.{put_counted, substituted_counted, function_counted, parts_counted, term_counted}
use Rattle.rule_laws.proofs.KeepCounts.{known_counted, kept_counted}
use Rattle.rule_laws.proofs.CountedParts.{prod_counted, sort_counted, family_type_counted, slice_counted, constructor_type_counted, predicate_at_counted, type_counted, context_extended}
use Rattle.rule_laws.proofs.SimpleRules.{declared_over}
use Rattle.rule_laws.proofs.Extending.{finds_more}
use Rattle.universe_levels.specs.declared.constraint.Constraint.{Constraint}
use Rattle.universe_levels.specs.declared.sort.Sort.{Sort}
use Rattle.pc_terms.specs.declared.leaf.FamilyId.{FamilyId}
use Rattle.pc_terms.specs.Syntax.{Term, Terms, Done, Next, terms_of, term_at, number}
use Rattle.pc_terms.specs.Formed.{binders_of, EachTerm, AreAll}
use Rattle.pc_terms.proofs.Forms.{terms_of-closed}
use Rattle.calculus_rules.specs.declared.declaration.Constructor.{Constructor}
use Rattle.calculus_rules.specs.declared.declaration.Family.{Family}
use Rattle.calculus_rules.specs.declared.declaration.Block.{Block}
use Rattle.calculus_rules.specs.declared.declaration.Kept.{Kept}
use Rattle.calculus_rules.specs.declared.declaration.Kept.TheVariants.{Constant, Block as Whole}
use Rattle.calculus_rules.specs.Environment.{Env}
use Rattle.calculus_rules.specs.Context.{Context}
use Rattle.calculus_rules.specs.Typing.{Mode, Types, rel, sort, prod, lambda, let_in, app, const, ind, construct, case, fix, conv, TypesAll, no_terms, term, Entries, no_entries, entry, Branches, no_branches, branch, Sorts, no_types, a_type, Bodies, no_bodies, a_body, EntrySorts, no_sorts, a_sort}
use Rattle.calculus_rules.specs.Accepted.{BodyFits, ConstructorFits, FamilyFits, Accepted, empty, constant, block, env, IsAccepted}
use Rattle.pc_rules.specs.DirectedDeclarations.{with_heads}
use Rattle.pc_rules.specs.WellCounted.{AreSortsOver, IsCountedContext, IsCountedNode, arities, IsCounted, AreCounted, AreCountedConstructors, AreCountedFamilies, IsCountedBody, HasCountedDeclarations, IsCountedEnv}
use Rattle.rule_laws.specs.Reduction.{HasNamesOnce}
use Rattle.rule_laws.proofs.Names.{family_once, heads_once, once_accepted}
use Rattle.rule_laws.proofs.Counted.{before_shift}
use Rattle.rule_laws.proofs.Comparing.{names_long}
use Rattle.rule_laws.proofs.Extending.{all_more, finds_without, env_more}
use Rattle.rule_laws.proofs.Environments.{nothing_counted}
use Rattle.pc_rules.proofs.WeakNext.{none_some}

names_of_list : (ts : List Term) → length (binders_of (terms_of ts)) ≡ length ts
names_of_list [] = refl
names_of_list (t ∷ ts) = ap suc (names_of_list ts)

place_within : (ts : Terms) (i : ℕ) {p : ℕ × Term} → term_at ts i ≡ Some p → i < number ts
place_within Done i e = absurd (none_some e)
place_within (Next n t ts) zero e = omega arith
place_within (Next n t ts) (suc i) e = let l : i < number ts = place_within ts i e in omega arith

module _ (E : Env) (once : HasNamesOnce E) where
  -- a list, as the terms of a match's parameters
  record AreTerms (ts As : List Term) : Type 0 where
    long : length ts ≡ length As
    all : AreCounted E ts
    each : EachTerm (IsCountedNode E) (terms_of ts)

  record AreBranches (Cs : List Constructor) (bs : Terms) : Type 0 where
    names : binders_of bs ≡ arities Cs
    all : EachTerm (IsCountedNode E) bs

  record AreTypes (types : Terms) : Type 0 where
    names : AreAll 0 (binders_of types)
    all : EachTerm (IsCountedNode E) types

  record AreBodies (n : ℕ) (rargs : List ℕ) (bodies : Terms) : Type 0 where
    long : length (binders_of bodies) ≡ length rargs
    names : AreAll n (binders_of bodies)
    all : EachTerm (IsCountedNode E) bodies

  mutual
    pub typed_counted : {m : Mode} {c : Context} {t T : Term} → Types m E c t T → IsCounted E t
    typed_counted (rel e) = tt
    typed_counted (sort {s = s} h) = (((tt, tt), declared_over E s h), tt)
    typed_counted (prod p q) = (((tt, tt), tt), (typed_counted p, (typed_counted q, tt)))
    typed_counted (lambda p q) = (((tt, tt), tt), (typed_counted p, (typed_counted q, tt)))
    typed_counted (let_in p q r) = (((tt, tt), tt), (typed_counted q, (typed_counted p, (typed_counted r, tt))))
    typed_counted (app p q) = (((tt, tt), tt), (typed_counted p, (typed_counted q, tt)))
    typed_counted (const k) = (((tt, tt), tt), tt)
    typed_counted (ind k) = (((tt, tt), tt), tt)
    typed_counted (construct k e) = (((tt, tt), tt), tt)
    typed_counted (case {f = f} {F = F} ps is k e l p es q may s bs) =
        let a = terms_counted p in
        let b = branches_counted bs in (
          ((terms_of-closed ps, tt), (F, family_once E once f F k, names_of_list ps ∙ a.long, e, b.names)),
          (a.each, (typed_counted q, (typed_counted s, (b.all, tt)))),
        )
    typed_counted (fix {i = i} {rargs = rargs} {types = types} e h p b ask) =
        let l : i < number types = place_within types i h in
        let named : i < length rargs = omega arith in
        let ts = types_counted p in
        let bs = bodies_counted b in
        ((((names_long types ∙ e, ts.names, bs.long, bs.names), named), tt), (ts.all, (bs.all, tt)))
    typed_counted (conv p b q) = typed_counted p

    terms_counted : {m : Mode} {c : Context} {s : ℕ → Term} {ts As : List Term} → TypesAll m E c s ts As → AreTerms ts As
    terms_counted no_terms = record { long = refl; all = tt; each = tt }
    terms_counted (term p ps) =
        let a = typed_counted p in
        let r = terms_counted ps in record { long = ap suc r.long; all = (a, r.all); each = (a, r.each) }

    branches_counted : {m : Mode} {c : Context} {f : FamilyId} {ps : List Term} {ret : Term} {n : ℕ} {Cs : List Constructor} {bs : Terms} →
        Branches m E c f ps ret n Cs bs → AreBranches Cs bs
    branches_counted no_branches = record { names = refl; all = tt }
    branches_counted (branch e es p bs) =
        let r = branches_counted bs in record { names = λ i. e i ∷ r.names i; all = (typed_counted p, r.all) }

    types_counted : {m : Mode} {c : Context} {n : ℕ} {types : Terms} → Sorts m E c n types → AreTypes types
    types_counted no_types = record { names = tt; all = tt }
    types_counted {n = n} (a_type {T = T} p ps) =
        let r = types_counted ps in record { names = (refl, r.names); all = (before_shift E n 0 T (typed_counted p), r.all) }

    bodies_counted : {m : Mode} {c : Context} {n : ℕ} {rargs : List ℕ} {types bodies : Terms} → Bodies m E c n rargs types bodies → AreBodies n rargs bodies
    bodies_counted no_bodies = record { long = refl; names = tt; all = tt }
    bodies_counted (a_body r p ps) =
        let q = bodies_counted ps in record { long = ap suc q.long; names = (refl, q.names); all = (typed_counted p, q.all) }

  entries_counted : {m : Mode} {c : Context} {As : List Term} → Entries m E c As → AreCounted E As
  entries_counted no_entries = tt
  entries_counted (entry p ps) = (typed_counted p, entries_counted ps)

  sorts_counted : {m : Mode} {c : Context} {As : List Term} {ss : List Sort} → EntrySorts m E c As ss → AreCounted E As
  sorts_counted no_sorts = tt
  sorts_counted (a_sort p ps) = (typed_counted p, sorts_counted ps)

  body_counted : (T : Term) (b : Option Term) → BodyFits E T b → IsCountedBody E b
  body_counted T None h = tt
  body_counted T (Some b) h = typed_counted h

  -- in a well-counted environment and context the type is well counted too
  module _ (w : HasCountedDeclarations E) where
    pub type_of_typed : {m : Mode} {c : Context} {t T : Term} → IsCountedContext E c → Types m E c t T → IsCounted E T
    type_of_typed {c = c} {T = T} k (rel {i = i} e) = type_counted E c i T k e
    type_of_typed k (sort {s = s} h) = sort_counted E (super_sort s) (over-super_sort E.levels s (declared_over E s h))
    type_of_typed k (prod {s = s} {s' = r} p q) =
        sort_counted E (product_sort s r) (over-product_sort E.levels s r (type_of_typed k p).0.1 (type_of_typed (typed_counted p, k) q).0.1)
    type_of_typed k (lambda {A = A} {B = B} p q) = prod_counted E A B (typed_counted p) (type_of_typed (typed_counted p, k) q)
    type_of_typed k (let_in p q r) =
        (((tt, tt), tt), (typed_counted q, (typed_counted p, (type_of_typed ((typed_counted q, typed_counted p), k) r, tt))))
    type_of_typed k (app {a = a} {A = A} {B = B} p q) =
        substituted_counted E (put a) B (put_counted E a (typed_counted q)) (type_of_typed k p).1.1.0
    type_of_typed k (const {k = l} {T = T} {b = b} h) = (w (Constant l T b) h).0
    type_of_typed k (ind {f = f} {F = F} h) = family_type_counted E F (known_counted E f F w h)
    type_of_typed k (construct {f = f} {n = n} {F = F} {C = C} h e) =
        let fs = kept_counted E f F w h in constructor_type_counted E f F C fs (slice_counted E F.constructors n C fs.2 e)
    type_of_typed k (case {f = f} {ret = ret} {t = t} ps is h e l p es q may s bs) =
        predicate_at_counted E ret is t (typed_counted q) (parts_counted E ps is (function_counted E (Ind f) (ps ++ is) (type_of_typed k s)).1).1 (typed_counted s)
    type_of_typed {T = T} k (fix {i = i} {types = types} e h p b ask) = term_counted E types i 0 T (types_counted p).all h
    type_of_typed k (conv p b q) = typed_counted q

    over_sorts : {m : Mode} {c : Context} {As : List Term} {ss : List Sort} → IsCountedContext E c → EntrySorts m E c As ss → AreSortsOver E.levels ss
    over_sorts k no_sorts = tt
    over_sorts k (a_sort p ps) = ((type_of_typed k p).0.1, over_sorts (typed_counted p, k) ps)

-- a block over the environment, with its constructors over its heads

module _ (levels : ℕ) (cs : List Constraint) (ds : List Kept) (B : Block) (once : HasNamesOnce (env levels cs ds)) (once_heads : HasNamesOnce (with_heads (env levels cs ds) B))
    (whole : HasCountedDeclarations (with_heads (env levels cs ds) B)) (params : AreCounted (with_heads (env levels cs ds) B) B.params) where
  constructors_counted : (F : Family) (Cs : List Constructor) →
      ((n : ℕ) (C : Constructor) → slice_get Cs n ≡ Some C → ConstructorFits (with_heads (env levels cs ds) B) B F C) → AreCountedConstructors (env levels cs ds) Cs
  constructors_counted F [] h = tt
  constructors_counted F (C ∷ Cs) h =
      let H : Env = with_heads (env levels cs ds) B in
      let fits = h 0 C refl in
      let less = finds_without levels cs ds (heads_of B) in (
        (
          all_more H (env levels cs ds) less C.args (sorts_counted H once_heads fits.arguments),
          all_more H (env levels cs ds) less C.result (terms_counted H once_heads fits.result).all,
          over_sorts H once_heads whole (context_extended H [] B.params tt params) fits.arguments,
        ),
        constructors_counted F Cs (λ n D e. h (suc n) D e),
      )

  families_counted : (Fs : List Family) → ((n : ℕ) (F : Family) → slice_get Fs n ≡ Some F → FamilyFits (env levels cs ds) (with_heads (env levels cs ds) B) B F) →
      AreCountedFamilies (env levels cs ds) Fs
  families_counted [] h = tt
  families_counted (F ∷ Fs) h =
      let fits = h 0 F refl in
      ((entries_counted (env levels cs ds) once fits.indices, constructors_counted F F.ctors fits.constructors, declared_over (env levels cs ds) F.sort fits.sort), families_counted Fs (λ n G e. h (suc n) G e))

heads_counted : (levels : ℕ) (cs : List Constraint) (ds : List Kept) (B : Block) → HasNamesOnce (env levels cs ds) → (Fs : List Family) →
    ((n : ℕ) (F : Family) → slice_get Fs n ≡ Some F → FamilyFits (env levels cs ds) (with_heads (env levels cs ds) B) B F) →
    AreCountedFamilies (env levels cs ds) (map head_of Fs)
heads_counted levels cs ds B once [] h = tt
heads_counted levels cs ds B once (F ∷ Fs) h =
    let fits = h 0 F refl in (
      (entries_counted (env levels cs ds) once fits.indices, tt, declared_over (env levels cs ds) F.sort fits.sort),
      heads_counted levels cs ds B once Fs (λ n G e. h (suc n) G e),
    )

declarations_counted : (levels : ℕ) (cs : List Constraint) (ds : List Kept) → Accepted levels cs ds → HasCountedDeclarations (env levels cs ds)
declarations_counted levels cs [] empty = nothing_counted levels cs
declarations_counted levels cs (x ∷ ds) (constant {k = k} {T = T} {b = b} a fresh p q) =
    let E : Env = env levels cs ds in
    let once : HasNamesOnce E = once_accepted levels cs ds a in
    env_more levels cs ds (Constant k T b) fresh (declarations_counted levels cs ds a) (typed_counted E once p, body_counted E once T b q)
declarations_counted levels cs (x ∷ ds) (block {B = B} a fresh p) =
    let E : Env = env levels cs ds in
    let once : HasNamesOnce E = once_accepted levels cs ds a in
    let w : HasCountedDeclarations E = declarations_counted levels cs ds a in
    let params : AreCounted E B.params = entries_counted E once p.parameters in
    let whole : HasCountedDeclarations (with_heads E B) =
    env_more levels cs ds (Heads (heads_of B)) fresh w (params, heads_counted levels cs ds B once B.families p.families) in
    let more = all_more E (with_heads E B) (finds_more levels cs ds (Heads (heads_of B)) fresh) B.params params in
    env_more levels cs ds (Whole B) fresh w
    (params, families_counted levels cs ds B once (heads_once E B once fresh) whole more B.families p.families)

pub accepted_counted : (E : Env) → IsAccepted E → IsCountedEnv E
accepted_counted E a =
    record { constraints = a.over; declarations = declarations_counted E.levels E.constraints E.declarations a.declarations }
