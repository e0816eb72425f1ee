-- The arguments of a constructor, from one on.
use Rattle.std.proofs.Common.{◌≡◌, ◌∙◌, sym, ap, refl, ℕ, ◌+◌, ◌<◌, ◌≤◌, List, [], ◌∷◌, length, drop, get_or, Result, Ok, Err, subst}
use Rattle.universe_levels.specs.declared.sort.Sort.{Sort}
use Rattle.pc_terms.specs.declared.leaf.Name.{Name}
use Rattle.pc_terms.specs.Syntax.{Term}
use Rattle.calculus_rules.specs.declared.entry.Entry.TheVariants.{Assumed}
use Rattle.calculus_rules.specs.Environment.{Env}
use Rattle.calculus_rules.specs.Context.{Context}
use Rattle.pc_rules.specs.declared.meter.Account.{Account}
use Rattle.pc_rules.specs.declared.stop.Halt.{Halt}
use Rattle.pc_rules.specs.DirectedRun.{Run, done}
use Rattle.pc_rules.specs.DirectedDeclarations.{fits_sort, positive_rule}
use Rattle.pc_rules.specs.Entailment.{test_of}
use Rattle.pc_rules.proofs.ListSteps.{next_is, none_left}
use Rattle.cert_rules.specs.Writing.{Wrote, silent, write_on}
use Rattle.cert_rules.specs.MakingDeclarations.{make_arguments}
use Rattle.cert_rules.proofs.Collecting.{collected_before}
use Rattle.script_making.specs.declared.draft.Draft.{Draft}
use Rattle.script_making.specs.Makes.{Makes}
use Rattle.script_making.proofs.Making.{makes_done}
use Rattle.type_making.specs.Making.{sort_making}
use Rattle.type_making.proofs.Grouping.{write_assoc, done_on}
use Rattle.block_making.specs.BlockMaking.{argument_making, arguments_making}
use Rattle.block_making.proofs.InTurn.{collected, collect_next, collect_stop}

module _ (E : Env) (n : ℕ) (k : Name) (f j : ℕ) (r : Sort) where
  -- the first argument, and the others under it
  arguments_split : (c : Context) (A : Term) (As : List Term) (u : Account) →
      arguments_making E n k f j r c (A ∷ As) u ≡ collected (argument_making E n k f j r c A u) (arguments_making E n k f j r (Assumed A ∷ c) As) (λ s. s)
  unfolding make_arguments
  arguments_split c A As u =
      let rest : Sort → Account → Run (Wrote (List Sort)) = λ s x. write_on (arguments_making E n k f j r (Assumed A ∷ c) As x) (λ ss y. silent (done (s ∷ ss)) y) in
      let positive : Sort → Account → Run (Wrote Sort) = λ s w. write_on (silent (positive_rule E k f j A) w) (λ _ x. silent (done s) x) in
      let fits : Sort → Account → Run (Wrote Sort) = λ s v. write_on (silent (fits_sort (test_of E) r s) v) (λ _ w. positive s w) in
      let inner : (s : Sort) (w : Account) → write_on (positive s w) rest ≡ write_on (silent (positive_rule E k f j A) w) (λ _ x. rest s x) =
      λ s w. write_assoc (λ _ x. silent (done s) x) rest (silent (positive_rule E k f j A) w) ∙ (λ i. write_on (silent (positive_rule E k f j A) w) (λ _ x. done_on s x rest i)) in
      let middle : (s : Sort) (v : Account) → write_on (fits s v) rest ≡ write_on (silent (fits_sort (test_of E) r s) v) (λ _ w. write_on (silent (positive_rule E k f j A) w) (λ _ x. rest s x)) =
      λ s v. write_assoc (λ _ w. positive s w) rest (silent (fits_sort (test_of E) r s) v) ∙ (λ i. write_on (silent (fits_sort (test_of E) r s) v) (λ _ w. inner s w i)) in
      sym (write_assoc fits rest (sort_making E n c A u) ∙ (λ i. write_on (sort_making E n c A u) (λ s v. middle s v i)))

  no_arguments : (c : Context) (u : Account) → arguments_making E n k f j r c [] u ≡ silent (done []) u
  unfolding make_arguments
  no_arguments c u = refl

  module _ (c : Context) (As : List Term) (i : ℕ) where
    pub arguments_end : (t : Draft) → length As ≤ i → Makes (arguments_making E n k f j r c (drop i As) t.meter.account) (Ok []) t t
    arguments_end t l =
        subst (λ d. Makes d (Ok []) t t) (sym (ap (λ xs. arguments_making E n k f j r c xs t.meter.account) (none_left As i l) ∙ no_arguments c t.meter.account)) (makes_done [] t)

    module _ (A : Term) (l : i < length As) (is : A ≡ get_or As i A) where
      from_argument : (u : Account) → arguments_making E n k f j r c (drop i As) u ≡
          collected (argument_making E n k f j r c A u) (arguments_making E n k f j r (Assumed A ∷ c) (drop (i + 1) As)) (λ s. s)
      from_argument u = ap (λ xs. arguments_making E n k f j r c xs u) (next_is As i A l is) ∙ arguments_split c A (drop (i + 1) As) u

      pub argument_next : (s : Sort) (t0 t1 : Draft) → Makes (argument_making E n k f j r c A t0.meter.account) (Ok s) t0 t1 → (a : Result (List Sort) Halt) (t : Draft) →
          Makes (arguments_making E n k f j r (Assumed A ∷ c) (drop (i + 1) As) t1.meter.account) a t1 t → Makes (arguments_making E n k f j r c (drop i As) t0.meter.account) (collected_before (s ∷ []) a) t0 t
      argument_next s t0 t1 p a t q =
          subst (λ d. Makes d (collected_before (s ∷ []) a) t0 t) (sym (from_argument t0.meter.account))
          (collect_next (argument_making E n k f j r c A t0.meter.account) (arguments_making E n k f j r (Assumed A ∷ c) (drop (i + 1) As)) (λ s. s) s a t0 t1 t p q)

      pub argument_halts : (h : Halt) (t0 t1 : Draft) → Makes (argument_making E n k f j r c A t0.meter.account) (Err h) t0 t1 →
          Makes (arguments_making E n k f j r c (drop i As) t0.meter.account) (Err h) t0 t1
      argument_halts h t0 t1 p =
          subst (λ d. Makes d (Err h) t0 t1) (sym (from_argument t0.meter.account))
          (collect_stop (argument_making E n k f j r c A t0.meter.account) (arguments_making E n k f j r (Assumed A ∷ c) (drop (i + 1) As)) (λ s. s) h t0 t1 p)
