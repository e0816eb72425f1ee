-- The result terms of a constructor, one by one.
use Rattle.std.proofs.Common.{◌≡◌, ◌∙◌, sym, ap, refl, ℕ, ◌+◌, ◌<◌, ◌≤◌, Err, List, [], ◌∷◌, ◌++◌, length, get_or, drop}
use Rattle.trees.specs.Measures.{IsBeyond}
use Rattle.pc_terms.specs.Syntax.{Term, first, put_all, substitute}
use Rattle.pc_terms.specs.declared.term.MakeFault.{MakeFault}
use Rattle.pc_terms.specs.declared.term.MakeFault.TheVariants.{TooDeep}
use Rattle.pc_rules.specs.declared.meter.Account.{Account}
use Rattle.pc_rules.specs.declared.meter.Meter.{Meter}
use Rattle.pc_rules.specs.declared.stop.Halt.{Halt}
use Rattle.pc_rules.specs.declared.stop.Halt.TheVariants.{Stop}
use Rattle.calculus_rules.specs.Environment.{Env}
use Rattle.calculus_rules.specs.Context.{Context}
use Rattle.pc_rules.specs.DirectedRun.{Run, Done, make, bind, done}
use Rattle.pc_rules.specs.DirectedComparison.{Comparison}
use Rattle.pc_rules.specs.DirectedTyping.{Typing, check, check_all}
use Rattle.pc_rules.specs.Follows.{Follows, IsAfter}
use Rattle.pc_rules.specs.Leads.{Leads}
use Rattle.pc_rules.specs.Stops.{stop_of}
use Rattle.pc_rules.specs.WellCounted.{IsCounted, AreCounted}
use Rattle.pc_rules.proofs.Following.{follows_fault}
use Rattle.pc_rules.proofs.FairReduction.{FairComparison}
use Rattle.pc_rules.proofs.FairTyping.{FairTyping}
use Rattle.pc_rules.proofs.Leaving.{leaving}
use Rattle.inductive_check.proofs.Leading.{leads_done, follows_first}
use Rattle.pc_rules.proofs.ListSteps.{next_is, none_left}
use Rattle.pc_rules.proofs.Leading.{leads_along}
use Rattle.calculus_rules.proofs.Spines.{put_more}

pub counted_more : (E : Env) (xs : List Term) (t : Term) → AreCounted E xs → IsCounted E t → AreCounted E (xs ++ (t ∷ []))
counted_more E [] t h k = (k, tt)
counted_more E (x ∷ xs) t h k = (h.0, counted_more E xs t h.1 k)

module _ (E : Env) (inf : Typing) (cmp : Comparison) (c : Context) where
  abbrev rest : (ℕ → Term) → Term → List Term → List Term → Term → Account → Run (Unit {0})
  rest s t ts As T v = bind (check E inf cmp c t T v) (λ _ w. check_all E inf cmp c (first t s) ts As w)

  one_checked : (s : ℕ → Term) (t A : Term) (ts As : List Term) (u : Account) →
      check_all E inf cmp c s (t ∷ ts) (A ∷ As) u ≡ bind (make (substitute s A) u) (rest s t ts As)
  unfolding check_all
  one_checked s t A ts As u = refl

  none_checked : (s : ℕ → Term) (As : List Term) (u : Account) → check_all E inf cmp c s [] As u ≡ done tt u
  unfolding check_all
  none_checked s [] u = refl
  none_checked s (A ∷ As) u = refl

  module _ (s : ℕ → Term) (ts As : List Term) (i : ℕ) (u : Account) where
    pub results_over : length ts ≤ i → check_all E inf cmp c s (drop i ts) (drop i As) u ≡ done tt u
    results_over h = ap (λ xs. check_all E inf cmp c s xs (drop i As) u) (none_left ts i h) ∙ none_checked s (drop i As) u

    module _ (t A : Term) (lt : i < length ts) (lA : i < length As) (is : t ≡ get_or ts i t) (iA : A ≡ get_or As i A) (whole : Run (Unit {0}))
        (l : Leads whole (check_all E inf cmp c s (drop i ts) (drop i As) u)) where
      made_first : Leads whole (bind (make (substitute s A) u) (rest s t (drop (i + 1) ts) (drop (i + 1) As)))
      made_first =
          leads_along whole _ _
          ((λ j. check_all E inf cmp c s (next_is ts i t lt is j) (next_is As i A lA iA j) u) ∙ one_checked s t A (drop (i + 1) ts) (drop (i + 1) As) u) l

      then_checked : Leads whole (rest s t (drop (i + 1) ts) (drop (i + 1) As) (substitute s A) u)
      then_checked = leads_done whole (make (substitute s A) u) (rest s t (drop (i + 1) ts) (drop (i + 1) As)) (substitute s A) u made_first refl

      pub results_next : (v : Account) → (check E inf cmp c t (substitute s A) u).end ≡ Done tt v →
          Leads whole (check_all E inf cmp c (first t s) (drop (i + 1) ts) (drop (i + 1) As) v)
      results_next v e =
          leads_done whole (check E inf cmp c t (substitute s A) u) (λ _ w. check_all E inf cmp c (first t s) (drop (i + 1) ts) (drop (i + 1) As) w) tt v then_checked e

      pub results_stop : (h : Halt) (m0 m1 m2 : Meter) → IsAfter m0 m1 → Follows (check E inf cmp c t (substitute s A) u) (Err h) m1 m2 → FairTyping 0 0 inf → FairComparison 0 0 cmp →
          Follows whole (Err h) m0 m2
      results_stop h m0 m1 m2 after f hf hg =
          follows_first whole (check E inf cmp c t (substitute s A) u) (λ _ w. check_all E inf cmp c (first t s) (drop (i + 1) ts) (drop (i + 1) As) w) h m0 m1 m2 then_checked after f
          (search (leaving, hf, hg))

-- the type of an index cannot be made
pub results_fault : (E : Env) (inf : Typing) (cmp : Comparison) (c : Context) (s : ℕ → Term) (ts As : List Term) (i : ℕ) (t A : Term) → i < length ts → i < length As →
    t ≡ get_or ts i t → A ≡ get_or As i A → (whole : Run (Unit {0})) (m0 m1 : Meter) → Leads whole (check_all E inf cmp c s (drop i ts) (drop i As) m1.account) →
    IsAfter m0 m1 → (f : MakeFault) → (f ≡ TooDeep → IsBeyond (substitute s A)) → FairTyping 0 0 inf → FairComparison 0 0 cmp → Follows whole (Err (Stop (stop_of f))) m0 m1
results_fault E inf cmp c s ts As i t A lt lA is iA whole m0 m1 l after f h hf hg =
    follows_first whole (make (substitute s A) m1.account) (rest E inf cmp c s t (drop (i + 1) ts) (drop (i + 1) As)) (Stop (stop_of f)) m0 m1 m1
    (made_first E inf cmp c s ts As i m1.account t A lt lA is iA whole l) after (follows_fault (substitute s A) f m1 h) (search (leaving, hf, hg))

-- one more term is put in
pub first_put : (E : Env) (inf : Typing) (cmp : Comparison) (c : Context) (xs : List Term) (t : Term) (s : ℕ → Term) (ts As : List Term) (u : Account) →
    check_all E inf cmp c (first t (put_all xs s)) ts As u ≡ check_all E inf cmp c (put_all (xs ++ (t ∷ [])) s) ts As u
first_put E inf cmp c xs t s ts As u = ap (λ r. check_all E inf cmp c r ts As u) (sym (put_more xs t s))
