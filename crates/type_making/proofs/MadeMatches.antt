-- How the parts of rule 10 are put together.
use Rattle.std.proofs.Common.{◌≡◌, sym, refl, subst, ℕ, ◌+◌, Result, Ok, Err, List, Option, Some, IsTrue, arith}
use Rattle.trees.specs.Tree.{terms_of}
use Rattle.pc_terms.specs.declared.term.Match.{Match}
use Rattle.pc_terms.specs.declared.term.MakeFault.{MakeFault}
use Rattle.pc_terms.specs.declared.term.MakeFault.TheVariants.{TooDeep as DeepTerm}
use Rattle.pc_terms.specs.Lists.{arms_of}
use Rattle.pc_terms.specs.Syntax.{Term, Rel, list_of}
use Rattle.calculus_rules.specs.declared.declaration.Block.{Block}
use Rattle.calculus_rules.specs.Environment.{Env, FamilyDecl}
use Rattle.calculus_rules.specs.Context.{Context}
use Rattle.calculus_rules.specs.Instances.{predicate_at}
use Rattle.calculus_rules.specs.Lookups.{kept_at, whole_block}
use Rattle.calculus_rules.proofs.Listing.{listed}
use Rattle.pc_rules.specs.declared.meter.Account.{Account}
use Rattle.pc_rules.specs.declared.stop.Halt.{Halt}
use Rattle.pc_rules.specs.declared.stop.Halt.TheVariants.{Stop}
use Rattle.pc_rules.specs.Stops.{stop_of}
use Rattle.pc_rules.specs.Follows.{Answers, Halts}
use Rattle.pc_rules.specs.DirectedRun.{Run, make, is_beyond}
use Rattle.pc_rules.specs.DirectedTyping.{find_family, match_counted}
use Rattle.cert_rules.specs.Writing.{Wrote, silent, write_on}
use Rattle.cert_rules.specs.MakingTyping.{MakeTyping, MakeComparison, make_check_all, make_predicate, make_scrutinee, make_branches, make_case}
use Rattle.type_infer.proofs.Matching.{pred_fault as fault_at}
use Rattle.script_making.specs.declared.draft.Draft.{Draft}
use Rattle.script_making.specs.Makes.{Makes}
use Rattle.script_making.proofs.Making.{makes_on, makes_err, makes_answers, makes_silent}

-- the rule, from the family on

module _ (x : Match) (E : Env) (inf : MakeTyping) (cmp : MakeComparison) (c : Context) where
  abbrev whole : Account → Run (Wrote Term)
  whole s = make_case E inf cmp c x.family (terms_of x.params) x.binders x.ret x.scrut (arms_of x.branches) s

  abbrev after_counts : Option Block → List Term → FamilyDecl → Account → Run (Wrote Term)
  after_counts o ps F w =
      write_on (make_check_all E inf cmp c Rel ps F.parameters w) (λ _ x'.
      write_on (make_predicate E inf c o x.family F ps x.ret x') (λ _ y.
      write_on (make_scrutinee E inf cmp c x.family F ps x.scrut y) (λ is z.
      write_on (make_branches E inf cmp c x.family 0 F.constructors ps x.ret (list_of (arms_of x.branches)) z) (λ _ r. silent (make (predicate_at x.ret is x.scrut)) r))))

  abbrev after_family : Option Block → List Term → FamilyDecl → Account → Run (Wrote Term)
  after_family o ps F v = write_on (silent (match_counted F (terms_of x.params) x.binders (arms_of x.branches)) v) (λ _ w. after_counts o ps F w)

  abbrev kept_block : Option Block
  kept_block = whole_block (kept_at E.declarations x.family.block)

  case_goes : {B : Block} {F : FamilyDecl} {r : Result Term Halt} {t0 t1 : Draft} → kept_block ≡ Some B →
      ((u : Account) → Answers (find_family x.family kept_block u) (Ok F) u) → Makes (after_family (Some B) x.params F t0.meter.account) r t0 t1 → Makes (whole t0.meter.account) r t0 t1
  case_goes {F = F} {r = r} {t0 = t0} {t1 = t1} e k h =
      let h1 = subst (λ o. Makes (after_family o x.params F t0.meter.account) r t0 t1) (sym e) h in
      let h2 = subst (λ qs. Makes (after_family kept_block qs F t0.meter.account) r t0 t1) (sym (listed x.params)) h1 in
      makes_on (after_family kept_block (list_of (terms_of x.params))) (makes_answers (find_family x.family kept_block) (k t0.meter.account)) h2

  pub case_unknown : {h : Halt} {t : Draft} → ((u : Account) → Halts (find_family x.family kept_block u) h u) → Makes (whole t.meter.account) (Err h) t t
  case_unknown {t = t} k = makes_err (after_family kept_block (list_of (terms_of x.params))) (makes_answers (find_family x.family kept_block) (k t.meter.account))

  -- and from its counts on

  pub case_counts : {B : Block} {F : FamilyDecl} {r : Result Term Halt} {t0 t1 : Draft} → kept_block ≡ Some B → ((u : Account) → Answers (find_family x.family kept_block u) (Ok F) u) →
      ((u : Account) → Answers (match_counted F (terms_of x.params) x.binders (arms_of x.branches) u) (Ok tt) u) →
      Makes (after_counts (Some B) x.params F t0.meter.account) r t0 t1 → Makes (whole t0.meter.account) r t0 t1
  case_counts {B = B} {F = F} {t0 = t0} e k n h =
      case_goes e k (makes_on (λ _ w. after_counts (Some B) x.params F w) (makes_answers (match_counted F (terms_of x.params) x.binders (arms_of x.branches)) (n t0.meter.account)) h)

  pub case_miscounted : {B : Block} {F : FamilyDecl} {h : Halt} {t : Draft} → kept_block ≡ Some B → ((u : Account) → Answers (find_family x.family kept_block u) (Ok F) u) →
      ((u : Account) → Answers (match_counted F (terms_of x.params) x.binders (arms_of x.branches) u) (Err h) u) → Makes (whole t.meter.account) (Err h) t t
  case_miscounted {B = B} {F = F} {t = t} e k n =
      case_goes e k (makes_err (λ _ w. after_counts (Some B) x.params F w) (makes_answers (match_counted F (terms_of x.params) x.binders (arms_of x.branches)) (n t.meter.account)))

-- terms against a telescope, whose variables are raised by none
zero_raised : (i : ℕ) → 0 + i ≡ i
zero_raised i = omega arith

pub raised_by_none : (E : Env) (inf : MakeTyping) (cmp : MakeComparison) (c : Context) (ts As : List Term) {r : Result (Unit {0}) Halt} {t0 t1 : Draft} →
    Makes (make_check_all E inf cmp c (λ i. Rel (0 + i)) ts As t0.meter.account) r t0 t1 → Makes (make_check_all E inf cmp c Rel ts As t0.meter.account) r t0 t1
raised_by_none E inf cmp c ts As {r = r} {t0 = t0} {t1 = t1} p =
    subst (λ s. Makes (make_check_all E inf cmp c s ts As t0.meter.account) r t0 t1) (λ j i. Rel (zero_raised i j)) p

-- the predicate at indices and a scrutinee is beyond the limits, or there is no memory for it
pub pred_fault : (ret : Term) (is : List Term) (t : Term) (f : MakeFault) (u : Draft) → (f ≡ DeepTerm → IsTrue (is_beyond (predicate_at ret is t))) →
    Makes (silent (make (predicate_at ret is t)) u.meter.account) (Err (Stop (stop_of f))) u u
pred_fault ret is t f u h = makes_silent (make (predicate_at ret is t)) (fault_at ret is t f u.meter h) refl
