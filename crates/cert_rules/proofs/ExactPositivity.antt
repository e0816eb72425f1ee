-- The test of positivity takes the same units whatever it starts with.
use Rattle.std.proofs.Common.{ℕ, zero, suc, ◌≤◌, if◌then◌else◌, Bool, true, false, nat_lt, nat_le, List, [], ◌∷◌, length, Option, Some, None, arith}
use Rattle.pc_terms.specs.declared.leaf.Name.{Name}
use Rattle.pc_terms.specs.Syntax.{Term, Rel, Prod, App, Ind, head, args}
use Rattle.calculus_rules.specs.declared.declaration.Constructor.{Constructor}
use Rattle.calculus_rules.specs.declared.declaration.Family.{Family}
use Rattle.calculus_rules.specs.declared.declaration.Block.{Block}
use Rattle.calculus_rules.specs.declared.target.Target.{Target}
use Rattle.calculus_rules.specs.declared.target.Target.TheVariants.{Families}
use Rattle.pc_rules.specs.declared.meter.Account.{Account}
use Rattle.calculus_rules.specs.Environment.{Env}
use Rattle.calculus_rules.specs.Same.{same_names}
use Rattle.calculus_rules.specs.Naming.{names}
use Rattle.calculus_rules.specs.Positivity.{parameter_target, block_of, types_name}
use Rattle.pc_rules.specs.DirectedRun as run
use Rattle.pc_rules.specs.DirectedRun.{Run, bind}
use Rattle.calculus_rules.specs.Lookups.{kept_at, whole_block}
use Rattle.pc_rules.specs.DirectedPositivity.{Nesting, both, own_arguments, given_parameters, family_good, argument_good, good, arguments_good, types_good, constructors_good, families_good, nestable, is_positive}
use Rattle.rule_laws.proofs.Runs.{bind_both, unit_done}
use Rattle.cert_rules.proofs.Exact.{IsExact, exact_done, exact_spent, exact_if, exact_bind}
use Rattle.cert_rules.proofs.ExactGuard.{Falls, Before, exact_after}

exact_both : {j : ℕ} (f f' g g' : Account → Run Bool) → IsExact j f f' → IsExact j g g' → IsExact j (λ u. both (f u) g) (λ u. both (f' u) g')
exact_both f f' g g' p q = exact_bind _ _ _ _ p (λ b. exact_if b _ _ _ _ q (exact_done false))

-- what is exact with j units is so with fewer
exact_less : {A : Type 0} {j : ℕ} (f g : Account → Run A) → IsExact (suc j) f g → IsExact j f g
exact_less f g p = record { falls = p.falls; alike = λ u a v h w l r. p.alike u a v h w l (omega arith) }

-- a run and then another give no units back where neither does
falls_bind : {A B : Type 0} (f : Account → Run A) (k : A → Account → Run B) → Falls f → ((a : A) → Falls (k a)) → Falls (λ u. bind (f u) k)
falls_bind f k p q u b v h =
    let s = bind_both (f u) k b v h in
    let l1 : s.1.left ≤ u.left = p u s.0 s.1 s.2 in
    let l2 : v.left ≤ s.1.left = q s.0 s.1 b v s.3 in
    omega arith

falls_if : (b : Bool) (g : Account → Run Bool) → Falls g → Falls (λ v. if b then g v else run.done false v)
falls_if true g q = q
falls_if false g q = (exact_done {j = 0} false).falls

-- a place and then a test, after one more unit
before_both : (j : ℕ) (f f' g g' : Account → Run Bool) → Before j f f' → IsExact j g g' → Before j (λ u. both (f u) g) (λ u. both (f' u) g')
before_both zero f f' g g' p q = falls_bind f (λ b v. if b then g v else run.done false v) p (λ b. falls_if b g q.falls)
before_both (suc i) f f' g g' p q = exact_both f f' g g' p (exact_less g g' q)

module _ {j : ℕ} (E : Env) (nest nest' : Nesting) (h : (B : Block) (p : ℕ) → Before j (nest B p) (nest' B p)) where
  exact_given : (m : ℕ) (o : Option Block) (f f' : Block → Account → Run Bool) → ((B : Block) → IsExact j (f B) (f' B)) →
      IsExact j (λ u. given_parameters m o f u) (λ u. given_parameters m o f' u)
  exact_given m None f f' q = exact_done false
  exact_given m (Some B) f f' q = exact_if (nat_le (length B.params) m) _ _ _ _ (q B) (exact_done false)

  exact_family : (g : Target) (l : ℕ) (t : Term) (xs : List Term) (f f' : Block → Account → Run Bool) → ((B : Block) → IsExact j (f B) (f' B)) →
      IsExact j (λ u. family_good E g l t xs f u) (λ u. family_good E g l t xs f' u)
  exact_family g l (Ind i) xs f f' q =
      exact_if (same_names i.block (block_of g)) _ _ _ _ (exact_done (own_arguments g l xs)) (exact_given (length xs) (whole_block (kept_at E.declarations i.block)) f f' q)
  exact_family g l t xs f f' q = exact_done false

  exact_place : (g : Target) (l : ℕ) (B : Block) (i : ℕ) (a : Term) (f f' : Account → Run Bool) → IsExact j f f' →
      IsExact j (λ u. argument_good nest g l B i a f u) (λ u. argument_good nest' g l B i a f' u)
  exact_place g l B i a f f' q =
      exact_if (names g l a) _ _ _ _
      (exact_if (nat_lt i (length B.params)) _ _ _ _ (exact_after j _ _ (before_both j (nest B i) (nest' B i) f f' (h B i) q)) (exact_done false)) (exact_done true)

  mutual
    exact_good : (g : Target) (l : ℕ) (t : Term) → IsExact j (λ u. good E nest g l t u) (λ u. good E nest' g l t u)
    exact_good g l (Rel i) = exact_done true
    exact_good g l (Prod A B) = exact_if (names g l A) _ _ _ _ (exact_done false) (exact_good g (suc l) B)
    exact_good g l (App f a) =
        exact_if (names g l (App f a)) _ _ _ _
        (exact_family g l (head f) (args (App f a)) _ _
        (λ B. exact_both _ _ _ _ (exact_arguments g l B f) (exact_place g l B (length (args f)) a _ _ (exact_good g l a)))) (exact_done true)
    exact_good g l t = exact_if (names g l t) _ _ _ _ (exact_family g l t [] _ _ (λ B. exact_done true)) (exact_done true)

    exact_arguments : (g : Target) (l : ℕ) (B : Block) (t : Term) → IsExact j (λ u. arguments_good E nest g l B t u) (λ u. arguments_good E nest' g l B t u)
    exact_arguments g l B (App f a) = exact_both _ _ _ _ (exact_arguments g l B f) (exact_place g l B (length (args f)) a _ _ (exact_good g l a))
    exact_arguments g l B t = exact_done true

  exact_types : (g : Target) (l : ℕ) (As : List Term) → IsExact j (λ u. types_good E nest g l As u) (λ u. types_good E nest' g l As u)
  exact_types g l [] = exact_done true
  exact_types g l (A ∷ As) = exact_both _ _ _ _ (exact_good g l A) (exact_types g (suc l) As)

  exact_constructors : (g : Target) (Cs : List Constructor) → IsExact j (λ u. constructors_good E nest g Cs u) (λ u. constructors_good E nest' g Cs u)
  exact_constructors g [] = exact_done true
  exact_constructors g (C ∷ Cs) = exact_both _ _ _ _ (exact_types g 0 C.args) (exact_constructors g Cs)

  exact_families : (g : Target) (Fs : List Family) → IsExact j (λ u. families_good E nest g Fs u) (λ u. families_good E nest' g Fs u)
  exact_families g [] = exact_done true
  exact_families g (F ∷ Fs) = exact_both _ _ _ _ (exact_constructors g F.ctors) (exact_families g Fs)

-- a place that is tested with fuel m is tested alike with fuel j, where no more units are taken than j less one
before_nestable : (E : Env) (m j : ℕ) (B : Block) (p : ℕ) → Before j (nestable E m B p) (nestable E j B p)
unfolding nestable
before_nestable E zero zero B p = λ u a v e. absurd (unit_done e)
before_nestable E zero (suc i) B p = exact_spent _
before_nestable E (suc m) zero B p =
    (exact_if {j = 0} (types_name B p) _ _ _ _ (exact_done false)
    (exact_families {j = 0} E (nestable E m) (nestable E zero) (before_nestable E m zero) (parameter_target B p) B.families)).falls
before_nestable E (suc m) (suc i) B p =
    exact_if (types_name B p) _ _ _ _ (exact_done false)
    (exact_families E (nestable E m) (nestable E i) (before_nestable E m i) (parameter_target B p) B.families)

pub exact_positive : {j : ℕ} (E : Env) (k : Name) (A : Term) → IsExact j (λ u. is_positive E k A u) (λ u. is_positive E k A u)
exact_positive E k A = record {
  falls = λ u a v e. (exact_good {j = 0} E (nestable E u.left) (nestable E zero) (before_nestable E u.left 0) (Families k) 0 A).falls u a v e;
  alike = λ u a v e w l r.
      (exact_good {j = w.left} E (nestable E u.left) (nestable E w.left) (before_nestable E u.left w.left) (Families k) 0 A).alike u a v e w l l;
}
