-- Rule 11, definition by definition.
use Rattle.std.proofs.Common.{◌≡◌, ◌∙◌, sym, ap, refl, ℕ, zero, suc, ◌<◌, ◌≤◌, ◌+◌, ◌-◌, ◌⊎◌, Bool, true, false, List, [], ◌∷◌, length, drop, get_or, Option, Some, None, Result, Ok, Err, add-one, arith, slice_get, subst as transport}
use Rattle.std.proofs.lemmas.List.{drop_all}
use Rattle.universe_levels.specs.declared.sort.Sort.{Sort}
use Rattle.trees.specs.Measures.{IsBeyond}
use Rattle.trees.specs.Substitution.{lift}
use Rattle.trees.proofs.Cutoffs.{lift-shift}
use Rattle.pc_terms.specs.Syntax.{Term, Lambda, head, shift, term_at, list_of}
use Rattle.pc_terms.specs.Lists.{rargs_of, types_of, bodies_of}
use Rattle.pc_terms.specs.declared.term.Def.{Def}
use Rattle.pc_terms.specs.declared.term.MakeFault.{MakeFault}
use Rattle.pc_terms.specs.declared.term.MakeFault.TheVariants.{TooDeep as DeepTerm}
use Rattle.pc_rules.specs.declared.broken.Broken.TheVariants.{BadNumber, NotEnoughAbstractions, RecArgNotInductive}
use Rattle.calculus_rules.specs.declared.entry.Entry.TheVariants.{Assumed}
use Rattle.pc_rules.specs.declared.meter.Account.{Account}
use Rattle.pc_rules.specs.declared.meter.Meter.{Meter}
use Rattle.pc_rules.specs.declared.stop.Stop.TheVariants.{Memory}
use Rattle.pc_rules.specs.declared.stop.Halt.{Halt}
use Rattle.pc_rules.specs.declared.stop.Halt.TheVariants.{Stop, Broken as Refusal}
use Rattle.calculus_rules.specs.Environment.{Env}
use Rattle.calculus_rules.specs.Context.{Context, values}
use Rattle.calculus_rules.specs.Instances.{definitions}
use Rattle.pc_rules.specs.Stops.{stop_of}
use Rattle.pc_rules.specs.Follows.{Follows, Answers}
use Rattle.pc_rules.specs.DirectedRun.{Run, make, bind}
use Rattle.pc_rules.specs.DirectedWeakHead.{whnf}
use Rattle.pc_rules.specs.DirectedComparison.{Comparison}
use Rattle.pc_rules.specs.DirectedTyping.{Typing, sort_of, check, types_rule, recursive_domain, enough_abstractions, is_a_family, family_found, definition_rule, definitions_rule, definition_type}
use Rattle.pc_rules.proofs.Following.{follows_bind, follows_err, follows_made, follows_fault, follows_done, follows_refused, follows_then, follows_else, follows_memory}
use Rattle.pc_rules.proofs.FairReduction.{FairComparison}
use Rattle.pc_rules.proofs.Fair.{leaves_bind}
use Rattle.pc_rules.proofs.FairTyping.{FairTyping, enough_leaves}
use Rattle.pc_rules.proofs.Leaving.{leaving}
use Rattle.pc_rules.proofs.ListSteps.{next_is}
use Rattle.type_infer.proofs.Declaring.{halts_either}
use Rattle.pc_terms.proofs.Parts.{rargs_length}

-- the types

module _ (E : Env) (inf : Typing) (c : Context) where
  module _ (i : ℕ) (T : Term) (Ts : List Term) where
    abbrev after_type : Term → Account → Run (Unit {0})
    after_type S v = bind (sort_of E inf c S v) (λ _ w. types_rule E inf (Assumed S ∷ c) (suc i) Ts w)

    type_step : (S : Term) (s : Sort) (r : Result (Unit {0}) Halt) (m0 m1 m2 : Meter) → S ≡ shift i 0 T → Follows (sort_of E inf c S m0.account) (Ok s) m0 m1 →
        Follows (types_rule E inf (Assumed S ∷ c) (suc i) Ts m1.account) r m1 m2 → Follows (types_rule E inf c i (T ∷ Ts) m0.account) r m0 m2
    unfolding types_rule
    type_step S s r m0 m1 m2 e f g =
        follows_bind (make (shift i 0 T) m0.account) after_type S r m0 m0 m2 (follows_made (shift i 0 T) S m0 e)
        (follows_bind (sort_of E inf c S m0.account) (λ _ w. types_rule E inf (Assumed S ∷ c) (suc i) Ts w) s r m0 m1 m2 f g)

    type_stops : FairTyping 0 0 inf → (S : Term) (x : Halt) (m0 m1 : Meter) → S ≡ shift i 0 T → Follows (sort_of E inf c S m0.account) (Err x) m0 m1 →
        Follows (types_rule E inf c i (T ∷ Ts) m0.account) (Err x) m0 m1
    unfolding types_rule
    type_stops g S x m0 m1 e f =
        follows_bind (make (shift i 0 T) m0.account) after_type S (Err x) m0 m0 m1 (follows_made (shift i 0 T) S m0 e)
        (follows_err (sort_of E inf c S m0.account) (λ _ w. types_rule E inf (Assumed S ∷ c) (suc i) Ts w) x m0 m1 f (search (leaving, g)))

    type_fault : FairTyping 0 0 inf → (f : MakeFault) (m : Meter) → (f ≡ DeepTerm → IsBeyond (lift i 0 T)) → Follows (types_rule E inf c i (T ∷ Ts) m.account) (Err (Stop (stop_of f))) m m
    unfolding types_rule
    type_fault g f m h =
        follows_err (make (shift i 0 T) m.account) after_type (Stop (stop_of f)) m m
        (follows_fault (shift i 0 T) f m (λ e. transport (λ X. IsBeyond X) (lift-shift i 0 T) (h e))) (search (leaving, g))

  pub no_more_types : (i : ℕ) (m : Meter) → Follows (types_rule E inf c i [] m.account) (Ok tt) m m
  unfolding types_rule
  no_more_types i m = follows_done tt m

  module _ (ds : List Def) (i : ℕ) where
    pub types_done : (m : Meter) → length ds ≤ i → Follows (types_rule E inf c i (list_of (types_of (drop i ds))) m.account) (Ok tt) m m
    types_done m h = rw (drop_all i ds h) (no_more_types i m)

    module _ (d : Def) (h : i < length ds) (e : d ≡ get_or ds i d) where
      pub types_next : (S : Term) (s : Sort) (r : Result (Unit {0}) Halt) (m0 m1 m2 : Meter) → S ≡ shift i 0 d.ty → Follows (sort_of E inf c S m0.account) (Ok s) m0 m1 →
          Follows (types_rule E inf (Assumed S ∷ c) (i + 1) (list_of (types_of (drop (i + 1) ds))) m1.account) r m1 m2 →
          Follows (types_rule E inf c i (list_of (types_of (drop i ds))) m0.account) r m0 m2
      types_next S s r m0 m1 m2 p f g =
          rw (next_is ds i d h e, add-one) (type_step i d.ty (list_of (types_of (drop (suc i) ds))) S s r m0 m1 m2 p f (rw add-one at g))

      pub types_stop : FairTyping 0 0 inf → (S : Term) (x : Halt) (m0 m1 : Meter) → S ≡ shift i 0 d.ty → Follows (sort_of E inf c S m0.account) (Err x) m0 m1 →
          Follows (types_rule E inf c i (list_of (types_of (drop i ds))) m0.account) (Err x) m0 m1
      types_stop g S x m0 m1 p f = rw (next_is ds i d h e) (type_stops i d.ty (list_of (types_of (drop (i + 1) ds))) g S x m0 m1 p f)

      pub types_fault : FairTyping 0 0 inf → (f : MakeFault) (m : Meter) → (f ≡ DeepTerm → IsBeyond (lift i 0 d.ty)) →
          Follows (types_rule E inf c i (list_of (types_of (drop i ds))) m.account) (Err (Stop (stop_of f))) m m
      types_fault g f m p = rw (next_is ds i d h e) (type_fault i d.ty (list_of (types_of (drop (i + 1) ds))) g f m p)

-- the context under them

pub definitions_next : (c : Context) (ds : List Def) (i : ℕ) (d : Def) → i < length ds → d ≡ get_or ds i d → (S : Term) → S ≡ shift i 0 d.ty →
    definitions c i (types_of (drop i ds)) ≡ definitions (Assumed S ∷ c) (i + 1) (types_of (drop (i + 1) ds))
definitions_next c ds i d h e S p = rw (next_is ds i d h e, p, add-one) refl

pub definitions_done : (c : Context) (ds : List Def) (i : ℕ) → length ds ≤ i → definitions c i (types_of (drop i ds)) ≡ c
definitions_done c ds i h = rw (drop_all i ds h) refl

-- one definition

pub lift_beyond : (n : ℕ) (T : Term) (f : MakeFault) → (f ≡ DeepTerm → IsBeyond (lift n 0 T)) → f ≡ DeepTerm → IsBeyond (shift n 0 T)
lift_beyond n T f h e = transport (λ X. IsBeyond X) (lift-shift n 0 T) (h e)

module _ (D : Def) (E : Env) (inf : Typing) (cmp : Comparison) (c : Context) (n d : ℕ) where
  pub few_lambdas : FairTyping 0 0 inf → FairComparison 0 0 cmp → {m : Meter} → recursive_domain c D.rarg D.body ≡ None →
      Follows (definition_rule E inf cmp c n d D.rarg D.ty D.body m.account) (Err (Refusal (NotEnoughAbstractions d))) m m
  few_lambdas h g {m = m} e = rw e (follows_err _ _ _ m m (follows_refused (NotEnoughAbstractions d) m) (search (leaving, h, g)))

  pub definition_memory : FairTyping 0 0 inf → FairComparison 0 0 cmp → (m : Meter) → Follows (definition_rule E inf cmp c n d D.rarg D.ty D.body m.account) (Err (Stop Memory)) m m
  definition_memory h g m =
      follows_memory _ m
      (leaves_bind (enough_abstractions d (recursive_domain c D.rarg D.body) m.account) _ m.account.left (enough_leaves d (recursive_domain c D.rarg D.body) m.account)
      (search (leaving, h, g)))

  pub lambdas_found : {q : Context × Term} {r : Result (Unit {0}) Halt} {m0 m1 : Meter} → recursive_domain c D.rarg D.body ≡ Some q →
      Follows (bind (make (shift n 0 D.ty) m0.account) (λ S w. bind (check E inf cmp c D.body S w) (λ _ x. bind (whnf E (values q.0) q.1 x) (λ W y. family_found W y)))) r m0 m1 →
      Follows (definition_rule E inf cmp c n d D.rarg D.ty D.body m0.account) r m0 m1
  lambdas_found {q = q} {r = r} {m0 = m0} {m1 = m1} e f = rw e (follows_bind _ _ q r m0 m0 m1 (follows_done q m0) f)

pub is_family : (W : Term) (b : Bool) (m : Meter) → b ≡ is_a_family (head W) → b ≡ true → Follows (family_found W m.account) (Ok tt) m m
is_family W b m e p = follows_then (is_a_family (head W)) _ _ _ m m (sym e ∙ p) (follows_done tt m)

pub no_family_found : (W : Term) (b : Bool) (m : Meter) → b ≡ is_a_family (head W) → b ≡ false → Follows (family_found W m.account) (Err (Refusal (RecArgNotInductive W))) m m
no_family_found W b m e p = follows_else (is_a_family (head W)) _ _ _ m m (sym e ∙ p) (follows_refused (RecArgNotInductive W) m)

-- the definitions

module _ (E : Env) (inf : Typing) (cmp : Comparison) (c : Context) (n : ℕ) where
  module _ (i r : ℕ) (rargs : List ℕ) (T : Term) (Ts : List Term) (b : Term) (bs : List Term) where
    definition_step : (x : Result (Unit {0}) Halt) (m0 m1 m2 : Meter) → Follows (definition_rule E inf cmp c n i r T b m0.account) (Ok tt) m0 m1 →
        Follows (definitions_rule E inf cmp c n (suc i) rargs Ts bs m1.account) x m1 m2 →
        Follows (definitions_rule E inf cmp c n i (r ∷ rargs) (T ∷ Ts) (b ∷ bs) m0.account) x m0 m2
    unfolding definitions_rule
    definition_step x m0 m1 m2 f g =
        follows_bind (definition_rule E inf cmp c n i r T b m0.account) (λ _ v. definitions_rule E inf cmp c n (suc i) rargs Ts bs v) tt x m0 m1 m2 f g

    definition_stops : FairTyping 0 0 inf → FairComparison 0 0 cmp → (x : Halt) (m0 m1 : Meter) → Follows (definition_rule E inf cmp c n i r T b m0.account) (Err x) m0 m1 →
        Follows (definitions_rule E inf cmp c n i (r ∷ rargs) (T ∷ Ts) (b ∷ bs) m0.account) (Err x) m0 m1
    unfolding definitions_rule
    definition_stops h g x m0 m1 f =
        follows_err (definition_rule E inf cmp c n i r T b m0.account) (λ _ v. definitions_rule E inf cmp c n (suc i) rargs Ts bs v) x m0 m1 f (search (leaving, h, g))

  no_more_definitions : (i : ℕ) (m : Meter) → Follows (definitions_rule E inf cmp c n i [] [] [] m.account) (Ok tt) m m
  unfolding definitions_rule
  no_more_definitions i m = follows_done tt m

  module _ (k : ℕ) (ds : List Def) (i : ℕ) where
    abbrev definitions_from : Account → Run (Unit {0})
    definitions_from u = definitions_rule E inf cmp c n i (rargs_of (drop i ds)) (list_of (types_of (drop i ds))) (list_of (bodies_of k (drop i ds))) u

    pub definitions_end : (m : Meter) → length ds ≤ i → Follows (definitions_from m.account) (Ok tt) m m
    definitions_end m h = rw (drop_all i ds h) (no_more_definitions i m)

    module _ (d : Def) (h : i < length ds) (e : d ≡ get_or ds i d) where
      pub definitions_go : (x : Result (Unit {0}) Halt) (m0 m1 m2 : Meter) → Follows (definition_rule E inf cmp c n i d.rarg d.ty d.body m0.account) (Ok tt) m0 m1 →
          Follows (definitions_rule E inf cmp c n (i + 1) (rargs_of (drop (i + 1) ds)) (list_of (types_of (drop (i + 1) ds))) (list_of (bodies_of k (drop (i + 1) ds))) m1.account) x m1 m2 →
          Follows (definitions_from m0.account) x m0 m2
      definitions_go x m0 m1 m2 f g = rw (next_is ds i d h e, add-one) (definition_step i d.rarg _ d.ty _ d.body _ x m0 m1 m2 f (rw add-one at g))

      pub definitions_stop : FairTyping 0 0 inf → FairComparison 0 0 cmp → (x : Halt) (m0 m1 : Meter) → Follows (definition_rule E inf cmp c n i d.rarg d.ty d.body m0.account) (Err x) m0 m1 →
          Follows (definitions_from m0.account) (Err x) m0 m1
      definitions_stop p q x m0 m1 f = rw (next_is ds i d h e) (definition_stops i d.rarg _ d.ty _ d.body _ p q x m0 m1 f)

-- the type of the definition that is named

pub type_at_place : (ds : List Def) (i : ℕ) → slice_get ds i ≡ None → term_at (types_of ds) i ≡ None
type_at_place [] i e = refl
type_at_place (d ∷ ds) zero e = absurd (cc)
type_at_place (d ∷ ds) (suc i) e = type_at_place ds i e

pub type_there : (ds : List Def) (i : ℕ) (d : Def) → slice_get ds i ≡ Some d → term_at (types_of ds) i ≡ Some (0, d.ty)
type_there [] i d e = absurd (cc)
type_there (x ∷ ds) zero d e = ap (λ (o : Option Def). type_in o) e
  where
    type_in : Option Def → Option (ℕ × Term)
    type_in None = None
    type_in (Some x) = Some (0, x.ty)
type_there (x ∷ ds) (suc i) d e = type_there ds i d e

module _ (ds : List Def) (i : ℕ) (u : Account) where
  pub definition_typed : (d : Def) (T : Term) → slice_get ds i ≡ Some d → T ≡ d.ty → Answers (definition_type i (length (rargs_of ds)) (term_at (types_of ds) i) u) (Ok T) u
  definition_typed d T e p = rw (type_there ds i d e, p) refl

  pub no_definition : (h : Halt) → slice_get ds i ≡ None → (h ≡ Refusal (BadNumber i (length ds))) ⊎ (h ≡ Stop Memory) →
      Answers (definition_type i (length (rargs_of ds)) (term_at (types_of ds) i) u) (Err h) u
  no_definition h e p = rw (type_at_place ds i e, rargs_length ds) (halts_either _ _ h u refl p)

-- the domain of a later lambda
pub later_domain : (c : Context) (r : ℕ) (A b t : Term) → Lambda A b ≡ t → 0 < r → recursive_domain c r t ≡ recursive_domain (Assumed A ∷ c) (r - 1) b
later_domain c zero A b t e h = absurd (omega arith)
later_domain c (suc k) A b t e h =
    let p : suc k - 1 ≡ k = omega arith in
    rw (p, ← e) refl
