-- The test of positivity never goes back on units, and more units change no result.
use Rattle.std.proofs.Common.{ℕ, zero, suc, ◌+◌, ◌≤◌, Bool, true, false, nat_lt, nat_le, List, [], ◌∷◌, length, Option, Some, None, arith}
use Rattle.pc_terms.specs.declared.leaf.Name.{Name}
use Rattle.pc_terms.specs.Syntax.{Term, Rel, Prod, App, Ind, head, args}
use Rattle.calculus_rules.specs.declared.declaration.Constructor.{Constructor}
use Rattle.calculus_rules.specs.declared.declaration.Family.{Family}
use Rattle.calculus_rules.specs.declared.declaration.Block.{Block}
use Rattle.calculus_rules.specs.declared.target.Target.{Target}
use Rattle.calculus_rules.specs.declared.target.Target.TheVariants.{Families}
use Rattle.pc_rules.specs.declared.meter.Account.{Account}
use Rattle.calculus_rules.specs.Environment.{Env}
use Rattle.calculus_rules.specs.Same.{same_names}
use Rattle.calculus_rules.specs.Naming.{names}
use Rattle.calculus_rules.specs.Positivity.{parameter_target, block_of, types_name}
use Rattle.pc_rules.specs.DirectedRun.{Run, Leaves}
use Rattle.calculus_rules.specs.Lookups.{kept_at, whole_block}
use Rattle.pc_rules.specs.DirectedPositivity.{Nesting, both, own_arguments, given_parameters, family_good, argument_good, good, arguments_good, types_good, constructors_good, families_good, nestable, is_positive, types_positive, constructor_positive, constructors_positive, families_positive}
use Rattle.pc_rules.proofs.Fair.{IsFair, fair_done, fair_if, fair_bind, fair_spent, fair_ticking, leaves_bind, leaves_if, same_left}

fair_both : {n k : ℕ} (f f' g g' : Account → Run Bool) → IsFair n k f f' → IsFair n k g g' → IsFair n k (λ u. both (f u) g) (λ u. both (f' u) g')
fair_both f f' g g' p q = fair_bind _ _ _ _ p (λ b. fair_if b _ _ _ _ q (fair_done false))

module _ {n k : ℕ} (E : Env) (nest nest' : Nesting) (h : (B : Block) (p : ℕ) → IsFair n k (nest B p) (nest' B p)) where
  fair_with : (m : ℕ) (o : Option Block) (f f' : Block → Account → Run Bool) → ((B : Block) → IsFair n k (f B) (f' B)) →
      IsFair n k (λ u. given_parameters m o f u) (λ u. given_parameters m o f' u)
  fair_with m None f f' q = fair_done false
  fair_with m (Some B) f f' q = fair_if (nat_le (length B.params) m) _ _ _ _ (q B) (fair_done false)

  fair_family : (g : Target) (j : ℕ) (t : Term) (xs : List Term) (f f' : Block → Account → Run Bool) → ((B : Block) → IsFair n k (f B) (f' B)) →
      IsFair n k (λ u. family_good E g j t xs f u) (λ u. family_good E g j t xs f' u)
  fair_family g j (Ind i) xs f f' q =
      fair_if (same_names i.block (block_of g)) _ _ _ _ (fair_done (own_arguments g j xs)) (fair_with (length xs) (whole_block (kept_at E.declarations i.block)) f f' q)
  fair_family g j t xs f f' q = fair_done false

  fair_argument : (g : Target) (j : ℕ) (B : Block) (i : ℕ) (a : Term) (f f' : Account → Run Bool) → IsFair n k f f' →
      IsFair n k (λ u. argument_good nest g j B i a f u) (λ u. argument_good nest' g j B i a f' u)
  fair_argument g j B i a f f' q =
      fair_if (names g j a) _ _ _ _
      (fair_if (nat_lt i (length B.params)) _ _ _ _ (fair_ticking _ _ (fair_both _ _ _ _ (h B i) q)) (fair_done false)) (fair_done true)

  mutual
    fair_good : (g : Target) (j : ℕ) (t : Term) → IsFair n k (λ u. good E nest g j t u) (λ u. good E nest' g j t u)
    fair_good g j (Rel i) = fair_done true
    fair_good g j (Prod A B) = fair_if (names g j A) _ _ _ _ (fair_done false) (fair_good g (suc j) B)
    fair_good g j (App f a) =
        fair_if (names g j (App f a)) _ _ _ _
        (fair_family g j (head f) (args (App f a)) _ _
        (λ B. fair_both _ _ _ _ (fair_arguments g j B f) (fair_argument g j B (length (args f)) a _ _ (fair_good g j a)))) (fair_done true)
    fair_good g j t = fair_if (names g j t) _ _ _ _ (fair_family g j t [] _ _ (λ B. fair_done true)) (fair_done true)

    fair_arguments : (g : Target) (j : ℕ) (B : Block) (t : Term) → IsFair n k (λ u. arguments_good E nest g j B t u) (λ u. arguments_good E nest' g j B t u)
    fair_arguments g j B (App f a) = fair_both _ _ _ _ (fair_arguments g j B f) (fair_argument g j B (length (args f)) a _ _ (fair_good g j a))
    fair_arguments g j B t = fair_done true

  fair_types : (g : Target) (j : ℕ) (As : List Term) → IsFair n k (λ u. types_good E nest g j As u) (λ u. types_good E nest' g j As u)
  fair_types g j [] = fair_done true
  fair_types g j (A ∷ As) = fair_both _ _ _ _ (fair_good g j A) (fair_types g (suc j) As)

  fair_constructors : (g : Target) (Cs : List Constructor) → IsFair n k (λ u. constructors_good E nest g Cs u) (λ u. constructors_good E nest' g Cs u)
  fair_constructors g [] = fair_done true
  fair_constructors g (C ∷ Cs) = fair_both _ _ _ _ (fair_types g 0 C.args) (fair_constructors g Cs)

  fair_families : (g : Target) (Fs : List Family) → IsFair n k (λ u. families_good E nest g Fs u) (λ u. families_good E nest' g Fs u)
  fair_families g [] = fair_done true
  fair_families g (F ∷ Fs) = fair_both _ _ _ _ (fair_constructors g F.ctors) (fair_families g Fs)

-- more fuel changes no result
fair_nestable : {n k : ℕ} (E : Env) (m i : ℕ) → m ≤ i → (B : Block) (p : ℕ) → IsFair n k (λ u. nestable E m B p u) (λ u. nestable E i B p u)
unfolding nestable
fair_nestable E zero i l B p = fair_spent _
fair_nestable E (suc m) zero l B p = absurd (omega arith)
fair_nestable E (suc m) (suc i) l B p =
    fair_if (types_name B p) _ _ _ _ (fair_done false)
    (fair_families E (nestable E m) (nestable E i) (fair_nestable E m i (omega arith)) (parameter_target B p) B.families)

pub fair_positive : {n k : ℕ} (E : Env) (b : Name) (A : Term) → IsFair n k (λ u. is_positive E b A u) (λ u. is_positive E b A u)
fair_positive {n = n} {k = k} E b A = record {
  falls = λ u. (fair_good {n = n} {k = k} E (nestable E u.left) (nestable E u.left) (fair_nestable E u.left u.left (omega arith)) (Families b) 0 A).falls u;
  stays = λ u l. (fair_good {n = n} {k = k} E (nestable E u.left) (nestable E (u.left + k)) (fair_nestable E u.left (u.left + k) (omega arith)) (Families b) 0 A).stays u l;
}

-- what runs leave, from one account; families nest so deep at most
module _ (E : Env) (m : ℕ) where
  pub good_leaves : (g : Target) (j : ℕ) (t : Term) (u : Account) → Leaves (good E (nestable E m) g j t u).end u.left
  good_leaves g j t u = (fair_good {n = m} {k = 0} E (nestable E m) (nestable E m) (fair_nestable E m m (omega arith)) g j t).falls u

  pub arguments_good_leaves : (g : Target) (j : ℕ) (B : Block) (t : Term) (u : Account) → Leaves (arguments_good E (nestable E m) g j B t u).end u.left
  arguments_good_leaves g j B t u = (fair_arguments {n = m} {k = 0} E (nestable E m) (nestable E m) (fair_nestable E m m (omega arith)) g j B t).falls u

  pub types_good_leaves : (g : Target) (j : ℕ) (As : List Term) (u : Account) → Leaves (types_good E (nestable E m) g j As u).end u.left
  types_good_leaves g j As u = (fair_types {n = m} {k = 0} E (nestable E m) (nestable E m) (fair_nestable E m m (omega arith)) g j As).falls u

  pub constructors_good_leaves : (g : Target) (Cs : List Constructor) (u : Account) → Leaves (constructors_good E (nestable E m) g Cs u).end u.left
  constructors_good_leaves g Cs u = (fair_constructors {n = m} {k = 0} E (nestable E m) (nestable E m) (fair_nestable E m m (omega arith)) g Cs).falls u

  pub families_good_leaves : (g : Target) (Fs : List Family) (u : Account) → Leaves (families_good E (nestable E m) g Fs u).end u.left
  families_good_leaves g Fs u = (fair_families {n = m} {k = 0} E (nestable E m) (nestable E m) (fair_nestable E m m (omega arith)) g Fs).falls u

  pub nestable_leaves : (B : Block) (p : ℕ) (u : Account) → Leaves (nestable E m B p u).end u.left
  nestable_leaves B p u = (fair_nestable {n = m} {k = 0} E m m (omega arith) B p).falls u

pub types_positive_leaves : (E : Env) (b : Name) (As : List Term) (u : Account) → Leaves (types_positive E b As u).end u.left
types_positive_leaves E b [] u = same_left u
types_positive_leaves E b (A ∷ As) u =
    leaves_bind (is_positive E b A u) _ u.left (good_leaves E u.left (Families b) 0 A u) (λ x v. leaves_if x _ _ v.left (types_positive_leaves E b As v) (same_left v))

pub constructors_positive_leaves : (E : Env) (b : Name) (Cs : List Constructor) (u : Account) → Leaves (constructors_positive E b Cs u).end u.left
constructors_positive_leaves E b [] u = same_left u
constructors_positive_leaves E b (C ∷ Cs) u =
    leaves_bind (constructor_positive E b C u) _ u.left
    (leaves_bind (types_positive E b C.args u) _ u.left (types_positive_leaves E b C.args u) (λ x v. leaves_if x _ _ v.left (same_left v) (same_left v)))
    (λ x v. leaves_if x _ _ v.left (constructors_positive_leaves E b Cs v) (same_left v))

pub families_positive_leaves : (E : Env) (b : Name) (Fs : List Family) (u : Account) → Leaves (families_positive E b Fs u).end u.left
families_positive_leaves E b [] u = same_left u
families_positive_leaves E b (F ∷ Fs) u =
    leaves_bind (constructors_positive E b F.ctors u) _ u.left (constructors_positive_leaves E b F.ctors u)
    (λ x v. leaves_if x _ _ v.left (families_positive_leaves E b Fs v) (same_left v))

pub ruleset leaving_positivity = (good_leaves, arguments_good_leaves, types_good_leaves, constructors_good_leaves, families_good_leaves, nestable_leaves, types_positive_leaves, constructors_positive_leaves, families_positive_leaves)
