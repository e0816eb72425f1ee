-- The types of entries, lifted; the levels of sorts.
use Rattle.std.proofs.Common.{◌≡◌, ◌≢◌, ℕ, zero, suc, ◌+◌, ◌<◌, ◌≤◌, ◌^◌, nat_le, Bool, true, false, IsTrue, if◌then◌else◌, List, [], ◌∷◌, length, drop, get_or, Option, Some, None, Ok, Err, refl, sym, ap, ◌∙◌, subst, add-one, arith, slice_get}
use Rattle.std.proofs.lemmas.Bool.{le-leb, leb-true}
use Rattle.std.proofs.lemmas.List.{drop_all}
use Rattle.std.proofs.Math.Seq.{drop-cons}
use Rattle.universe_levels.specs.declared.level.Level.{Level}
use Rattle.universe_levels.specs.declared.level.LevelExpr.{LevelExpr}
use Rattle.universe_levels.specs.declared.sort.Sort.{Sort}
use Rattle.universe_levels.specs.declared.sort.Sort.TheVariants.{Prop, Of}
use Rattle.universe_levels.specs.declared.universe.UniverseFault.{UniverseFault}
use Rattle.universe_levels.specs.declared.universe.UniverseFault.TheVariants.{TooBig, Empty, Memory as NoUniverse}
use Rattle.universe_levels.specs.Sorts.{super_sort, PassesLimit}
use Rattle.trees.specs.Measures.{IsBeyond}
use Rattle.trees.specs.Substitution.{lift}
use Rattle.trees.proofs.Cutoffs.{lift-shift}
use Rattle.pc_terms.specs.declared.term.MakeFault.{MakeFault}
use Rattle.pc_terms.specs.declared.term.MakeFault.TheVariants.{TooDeep as DeepTerm}
use Rattle.pc_terms.specs.Syntax.{Term, SortT, shift}
use Rattle.pc_rules.specs.declared.broken.Broken.TheVariants.{UnboundRel, LevelUndeclared}
use Rattle.calculus_rules.specs.declared.entry.Entry.{Entry}
use Rattle.pc_rules.specs.declared.meter.Account.{Account}
use Rattle.pc_rules.specs.declared.stop.Stop.TheVariants.{TooDeep}
use Rattle.pc_rules.specs.declared.stop.Halt.TheVariants.{Stop, Broken as Refusal}
use Rattle.calculus_rules.specs.Environment.{Env}
use Rattle.calculus_rules.specs.Context.{Context, type_of, lifted, type_at}
use Rattle.pc_rules.specs.Stops.{stop_of, universe_stop}
use Rattle.pc_rules.specs.Follows.{Answers}
use Rattle.pc_rules.specs.DirectedRun.{made}
use Rattle.pc_rules.specs.DirectedTyping.{first_undeclared, undeclared_in, passes_limit, raises_past, sort_rule, rel_rule}
use Rattle.pc_rules.proofs.Following.{or_left, or_right, answers_fault, bind_done}
use Rattle.type_infer.proofs.Finding.{bind_refused, answers_made}
use Rattle.calculus_rules.proofs.Shifts.{once, once_more}
use Rattle.pc_rules.proofs.SameTrees.{false_true}

abbrev shifted : ℕ → Option Entry → Option Term
shifted n None = None
shifted n (Some e) = Some (shift n 0 (type_of e))

lifted_more : (k : ℕ) (o : Option Entry) → lifted (shifted k o) ≡ shifted (k + 1) o
lifted_more k None = refl
lifted_more k (Some e) = ap Some (once_more k (type_of e))

type_is : (c : Context) (i : ℕ) → type_at c i ≡ shifted (i + 1) (slice_get c i)
type_is [] i = refl
type_is (e ∷ c) zero = ap Some (once (type_of e))
type_is (e ∷ c) (suc i) =
    let n : i + 1 + 1 ≡ suc i + 1 = omega arith in
    ap lifted (type_is c i) ∙ lifted_more (i + 1) (slice_get c i) ∙ ap (λ k. shifted k (slice_get c i)) n

-- the entry that was found, or none

module _ (c : Context) (i : ℕ) where
  pub unbound : (u : Account) → slice_get c i ≡ None → Answers (rel_rule c i (type_at c i) u) (Err (Refusal (UnboundRel i (length c)))) u
  unbound u s = rw (type_is c i ∙ ap (λ o. shifted (i + 1) o) s) refl

  found : (e : Entry) (T : Term) → slice_get c i ≡ Some e → type_of e ≡ T → type_at c i ≡ Some (shift (i + 1) 0 T)
  found e T s p = type_is c i ∙ ap (λ o. shifted (i + 1) o) s ∙ ap (λ X. Some (shift (i + 1) 0 X)) p

  pub bound : (e : Entry) (T S : Term) (u : Account) → slice_get c i ≡ Some e → type_of e ≡ T → S ≡ shift (i + 1) 0 T →
      Answers (rel_rule c i (type_at c i) u) (Ok S) u
  bound e T S u s p q = rw (found e T s p) (answers_made (shift (i + 1) 0 T) S u q)

  pub bound_fault : (e : Entry) (T : Term) (f : MakeFault) (u : Account) → slice_get c i ≡ Some e → type_of e ≡ T → (f ≡ DeepTerm → IsBeyond (lift (i + 1) 0 T)) →
      Answers (rel_rule c i (type_at c i) u) (Err (Stop (stop_of f))) u
  bound_fault e T f u s p h =
      rw (found e T s p) (answers_fault (shift (i + 1) 0 T) f u (λ d. subst (λ X. IsBeyond X) (lift-shift (i + 1) 0 T) (h d)))

-- levels

undeclared_first : (n : ℕ) (e : LevelExpr) (es : List LevelExpr) (b : Bool) → nat_le e.level.0 n ≡ b → n < e.level.0 → (if b then first_undeclared n es else Some e.level) ≡ Some e.level
undeclared_first n e es true p h = absurd (omega (arith, leb-true e.level.0 n p))
undeclared_first n e es false p h = refl

declared_first : (n : ℕ) (e : LevelExpr) (es : List LevelExpr) (b : Bool) → nat_le e.level.0 n ≡ b → e.level.0 ≤ n → (if b then first_undeclared n es else Some e.level) ≡ first_undeclared n es
declared_first n e es true p h = refl
declared_first n e es false p h = absurd (false_true (sym p ∙ le-leb e.level.0 n h))

module _ (n : ℕ) (es : List LevelExpr) (i : ℕ) (d : LevelExpr) where
  pub undeclared_here : i < length es → n < (get_or es i d).level.0 → first_undeclared n (drop i es) ≡ Some (get_or es i d).level
  undeclared_here h k = rw (drop-cons es i d h) (undeclared_first n (get_or es i d) (drop (suc i) es) _ refl k)

  pub undeclared_later : i < length es → (get_or es i d).level.0 ≤ n → first_undeclared n (drop i es) ≡ first_undeclared n (drop (i + 1) es)
  undeclared_later h k = rw (add-one, drop-cons es i d h) (declared_first n (get_or es i d) (drop (suc i) es) _ refl k)

pub all_declared : (n : ℕ) (es : List LevelExpr) (i : ℕ) → length es ≤ i → first_undeclared n (drop i es) ≡ None
all_declared n es i h = rw (drop_all i es h) refl

passes_from : (es : List LevelExpr) (k : ℕ) (e : LevelExpr) → k < length es → get_or es k e ≡ e → 2 ^ 32 ≤ e.add + 1 → IsTrue (passes_limit es)
passes_from [] k e l q h = absurd (omega arith)
passes_from (x ∷ es) zero e l q h =
    or_left (nat_le (2 ^ 32) (x.add + 1)) (passes_limit es) (le-leb (2 ^ 32) (x.add + 1) (subst (λ (y : LevelExpr). 2 ^ 32 ≤ y.add + 1) (sym q) h))
passes_from (x ∷ es) (suc k) e l q h = or_right (nat_le (2 ^ 32) (x.add + 1)) (passes_limit es) (passes_from es k e (omega arith) q h)

pub raises : (s : Sort) → PassesLimit s → IsTrue (raises_past s)
raises Prop h = absurd h
raises (Of u) h = passes_from u h.0 h.1 h.2 h.3 h.4

raise_answers : (s : Sort) (f : UniverseFault) (u : Account) → (f ≡ TooBig → PassesLimit s) → f ≢ Empty →
    Answers (made (raises_past s) (SortT (super_sort s)) u) (Err (Stop (universe_stop f))) u
raise_answers s TooBig u h k = raises s (h refl)
raise_answers s Empty u h k = absurd (k refl)
raise_answers s NoUniverse u h k = tt

module _ (E : Env) (s : Sort) (u : Account) where
  pub sort_undeclared : (l : Level) → undeclared_in E.levels s ≡ Some l → Answers (sort_rule E s u) (Err (Refusal (LevelUndeclared l))) u
  sort_undeclared l e = rw (e, bind_refused) refl

  pub sort_made : (S : Sort) (T : Term) → undeclared_in E.levels s ≡ None → S ≡ super_sort s → T ≡ SortT S → Answers (sort_rule E s u) (Ok T) u
  sort_made S T e p q = rw (e, bind_done, q, p) refl

  pub sort_fault : (f : UniverseFault) → undeclared_in E.levels s ≡ None → (f ≡ TooBig → PassesLimit s) → f ≢ Empty →
      Answers (sort_rule E s u) (Err (Stop (universe_stop f))) u
  sort_fault f e h k = rw (e, bind_done) (raise_answers s f u h k)

  pub sort_past : undeclared_in E.levels s ≡ None → IsTrue (raises_past s) → Answers (sort_rule E s u) (Err (Stop TooDeep)) u
  sort_past e h = rw (e, bind_done) h
