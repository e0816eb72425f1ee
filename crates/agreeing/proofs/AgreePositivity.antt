-- The test of positivity agrees with itself, whatever the units.
use Rattle.std.proofs.Common.{ℕ, zero, suc, Bool, true, false, nat_lt, nat_le, List, [], ◌∷◌, length, Option, Some, None}
use Rattle.pc_terms.specs.declared.leaf.Name.{Name}
use Rattle.pc_terms.specs.Syntax.{Term, Rel, Prod, App, Ind, head, args}
use Rattle.calculus_rules.specs.declared.declaration.Constructor.{Constructor}
use Rattle.calculus_rules.specs.declared.declaration.Family.{Family}
use Rattle.calculus_rules.specs.declared.declaration.Block.{Block}
use Rattle.calculus_rules.specs.declared.target.Target.{Target}
use Rattle.calculus_rules.specs.declared.target.Target.TheVariants.{Families}
use Rattle.pc_rules.specs.declared.meter.Account.{Account}
use Rattle.calculus_rules.specs.Environment.{Env}
use Rattle.calculus_rules.specs.Same.{same_names}
use Rattle.calculus_rules.specs.Naming.{names}
use Rattle.calculus_rules.specs.Positivity.{parameter_target, block_of, types_name}
use Rattle.pc_rules.specs.DirectedRun.{Run}
use Rattle.calculus_rules.specs.Lookups.{kept_at, whole_block}
use Rattle.pc_rules.specs.DirectedPositivity.{Nesting, both, own_arguments, given_parameters, family_good, argument_good, good, arguments_good, types_good, constructors_good, families_good, nestable, is_positive}
use Rattle.agreeing.proofs.Agree.{IsAgreeing, agree_done, agree_if, agree_bind, agree_spent, agree_with_spent, agree_ticking}

agree_both : (f f' g g' : Account → Run Bool) → IsAgreeing f f' → IsAgreeing g g' → IsAgreeing (λ u. both (f u) g) (λ u. both (f' u) g')
agree_both f f' g g' p q = agree_bind _ _ _ _ p (λ b. agree_if b _ _ _ _ q (agree_done false))

module _ (E : Env) (nest nest' : Nesting) (h : (B : Block) (p : ℕ) → IsAgreeing (nest B p) (nest' B p)) where
  agree_with : (m : ℕ) (o : Option Block) (f f' : Block → Account → Run Bool) → ((B : Block) → IsAgreeing (f B) (f' B)) →
      IsAgreeing (λ u. given_parameters m o f u) (λ u. given_parameters m o f' u)
  agree_with m None f f' q = agree_done false
  agree_with m (Some B) f f' q = agree_if (nat_le (length B.params) m) _ _ _ _ (q B) (agree_done false)

  agree_family : (g : Target) (j : ℕ) (t : Term) (xs : List Term) (f f' : Block → Account → Run Bool) → ((B : Block) → IsAgreeing (f B) (f' B)) →
      IsAgreeing (λ u. family_good E g j t xs f u) (λ u. family_good E g j t xs f' u)
  agree_family g j (Ind i) xs f f' q =
      agree_if (same_names i.block (block_of g)) _ _ _ _ (agree_done (own_arguments g j xs)) (agree_with (length xs) (whole_block (kept_at E.declarations i.block)) f f' q)
  agree_family g j t xs f f' q = agree_done false

  agree_argument : (g : Target) (j : ℕ) (B : Block) (i : ℕ) (a : Term) (f f' : Account → Run Bool) → IsAgreeing f f' →
      IsAgreeing (λ u. argument_good nest g j B i a f u) (λ u. argument_good nest' g j B i a f' u)
  agree_argument g j B i a f f' q =
      agree_if (names g j a) _ _ _ _
      (agree_if (nat_lt i (length B.params)) _ _ _ _ (agree_ticking _ _ (agree_both _ _ _ _ (h B i) q)) (agree_done false)) (agree_done true)

  mutual
    agree_good : (g : Target) (j : ℕ) (t : Term) → IsAgreeing (λ u. good E nest g j t u) (λ u. good E nest' g j t u)
    agree_good g j (Rel i) = agree_done true
    agree_good g j (Prod A B) = agree_if (names g j A) _ _ _ _ (agree_done false) (agree_good g (suc j) B)
    agree_good g j (App f a) =
        agree_if (names g j (App f a)) _ _ _ _
        (agree_family g j (head f) (args (App f a)) _ _
        (λ B. agree_both _ _ _ _ (agree_arguments g j B f) (agree_argument g j B (length (args f)) a _ _ (agree_good g j a)))) (agree_done true)
    agree_good g j t = agree_if (names g j t) _ _ _ _ (agree_family g j t [] _ _ (λ B. agree_done true)) (agree_done true)

    agree_arguments : (g : Target) (j : ℕ) (B : Block) (t : Term) → IsAgreeing (λ u. arguments_good E nest g j B t u) (λ u. arguments_good E nest' g j B t u)
    agree_arguments g j B (App f a) = agree_both _ _ _ _ (agree_arguments g j B f) (agree_argument g j B (length (args f)) a _ _ (agree_good g j a))
    agree_arguments g j B t = agree_done true

  agree_types : (g : Target) (j : ℕ) (As : List Term) → IsAgreeing (λ u. types_good E nest g j As u) (λ u. types_good E nest' g j As u)
  agree_types g j [] = agree_done true
  agree_types g j (A ∷ As) = agree_both _ _ _ _ (agree_good g j A) (agree_types g (suc j) As)

  agree_constructors : (g : Target) (Cs : List Constructor) → IsAgreeing (λ u. constructors_good E nest g Cs u) (λ u. constructors_good E nest' g Cs u)
  agree_constructors g [] = agree_done true
  agree_constructors g (C ∷ Cs) = agree_both _ _ _ _ (agree_types g 0 C.args) (agree_constructors g Cs)

  agree_families : (g : Target) (Fs : List Family) → IsAgreeing (λ u. families_good E nest g Fs u) (λ u. families_good E nest' g Fs u)
  agree_families g [] = agree_done true
  agree_families g (F ∷ Fs) = agree_both _ _ _ _ (agree_constructors g F.ctors) (agree_families g Fs)

-- fuel changes no result
agree_nestable : (E : Env) (m i : ℕ) (B : Block) (p : ℕ) → IsAgreeing (λ u. nestable E m B p u) (λ u. nestable E i B p u)
unfolding nestable
agree_nestable E zero i B p = agree_spent _
agree_nestable E (suc m) zero B p = agree_with_spent _
agree_nestable E (suc m) (suc i) B p =
    agree_if (types_name B p) _ _ _ _ (agree_done false) (agree_families E (nestable E m) (nestable E i) (agree_nestable E m i) (parameter_target B p) B.families)

pub agree_positive : (E : Env) (b : Name) (A : Term) → IsAgreeing (λ u. is_positive E b A u) (λ u. is_positive E b A u)
agree_positive E b A = record { at = λ u v. (agree_good E (nestable E u.left) (nestable E v.left) (agree_nestable E u.left v.left) (Families b) 0 A).at u v }
