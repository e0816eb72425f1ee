-- Whether a type is good does not depend on more fuel than there are units.
use Rattle.std.proofs.Common.{ℕ, zero, suc, ◌≤◌, Bool, true, false, if◌then◌else◌, nat_lt, nat_le, List, [], ◌∷◌, length, Option, Some, None, arith}
use Rattle.pc_terms.specs.Syntax.{Term, Rel, SortT, Prod, Lambda, LetIn, App, Const, Ind, Construct, Case, Fix, head, args}
use Rattle.calculus_rules.specs.declared.declaration.Constructor.{Constructor}
use Rattle.calculus_rules.specs.declared.declaration.Family.{Family}
use Rattle.calculus_rules.specs.declared.declaration.Block.{Block}
use Rattle.calculus_rules.specs.declared.target.Target.{Target}
use Rattle.pc_rules.specs.declared.meter.Account.{Account}
use Rattle.calculus_rules.specs.Environment.{Env}
use Rattle.calculus_rules.specs.Same.{same_names}
use Rattle.calculus_rules.specs.Naming.{names}
use Rattle.calculus_rules.specs.Positivity.{parameter_target, block_of, types_name}
use Rattle.pc_rules.specs.DirectedRun.{Run, done, ticking}
use Rattle.calculus_rules.specs.Lookups.{kept_at, whole_block}
use Rattle.pc_rules.specs.DirectedPositivity.{Nesting, both, own_arguments, given_parameters, family_good, argument_good, good, arguments_good, types_good, constructors_good, families_good, nestable}
use Rattle.pc_rules.proofs.SameWithin.{Agrees, agrees_none, agrees_if, agrees_done, agrees_bind, agrees_ticking}

pub agrees_less : {A : Type 0} (m n : ℕ) (f g : Account → Run A) → m ≤ n → Agrees n f g → Agrees m f g
agrees_less m n f g l p = record { same = λ u h. p.same u (omega arith); falls = λ u h. p.falls u (omega arith) }

pub agrees_both : (n : ℕ) (f f' g g' : Account → Run Bool) → Agrees n f f' → Agrees n g g' → Agrees n (λ u. both (f u) g) (λ u. both (f' u) g')
agrees_both n f f' g g' p q =
    agrees_bind n f f' (λ b v. if b then g v else done false v) (λ b v. if b then g' v else done false v) p
    (λ b. agrees_if b g g' (λ v. done false v) (λ v. done false v) q (agrees_done n false))

module _ (E : Env) (n : ℕ) (nest nest' : Nesting) (h : (B : Block) (p : ℕ) → Agrees n (nest B p) (nest' B p)) where
  agrees_with : (m : ℕ) (o : Option Block) (f f' : Block → Account → Run Bool) → ((B : Block) → Agrees (suc n) (f B) (f' B)) →
      Agrees (suc n) (λ u. given_parameters m o f u) (λ u. given_parameters m o f' u)
  agrees_with m None f f' q = agrees_done (suc n) false
  agrees_with m (Some B) f f' q = agrees_if (nat_le (length B.params) m) (f B) (f' B) (λ u. done false u) (λ u. done false u) (q B) (agrees_done (suc n) false)

  agrees_family : (g : Target) (j : ℕ) (t : Term) (xs : List Term) (f f' : Block → Account → Run Bool) → ((B : Block) → Agrees (suc n) (f B) (f' B)) →
      Agrees (suc n) (λ u. family_good E g j t xs f u) (λ u. family_good E g j t xs f' u)
  agrees_family g j (Ind i) xs f f' q =
      agrees_if (same_names i.block (block_of g)) (λ u. done (own_arguments g j xs) u) (λ u. done (own_arguments g j xs) u)
      (λ u. given_parameters (length xs) (whole_block (kept_at E.declarations i.block)) f u) (λ u. given_parameters (length xs) (whole_block (kept_at E.declarations i.block)) f' u)
      (agrees_done (suc n) (own_arguments g j xs)) (agrees_with (length xs) (whole_block (kept_at E.declarations i.block)) f f' q)
  agrees_family g j (Rel i) xs f f' q = agrees_done (suc n) false
  agrees_family g j (SortT s) xs f f' q = agrees_done (suc n) false
  agrees_family g j (Prod A B) xs f f' q = agrees_done (suc n) false
  agrees_family g j (Lambda A b) xs f f' q = agrees_done (suc n) false
  agrees_family g j (LetIn b B t) xs f f' q = agrees_done (suc n) false
  agrees_family g j (App s a) xs f f' q = agrees_done (suc n) false
  agrees_family g j (Const c) xs f f' q = agrees_done (suc n) false
  agrees_family g j (Construct i c) xs f f' q = agrees_done (suc n) false
  agrees_family g j (Case i ps m ret s bs) xs f f' q = agrees_done (suc n) false
  agrees_family g j (Fix i rargs types bodies) xs f f' q = agrees_done (suc n) false

  pub agrees_argument : (g : Target) (j : ℕ) (B : Block) (i : ℕ) (a : Term) (f f' : Account → Run Bool) → Agrees (suc n) f f' →
      Agrees (suc n) (λ u. argument_good nest g j B i a f u) (λ u. argument_good nest' g j B i a f' u)
  agrees_argument g j B i a f f' q =
      agrees_if (names g j a) (λ u. if nat_lt i (length B.params) then ticking u (λ v. both (nest B i v) f) else done false u)
      (λ u. if nat_lt i (length B.params) then ticking u (λ v. both (nest' B i v) f') else done false u) (λ u. done true u) (λ u. done true u)
      (agrees_if (nat_lt i (length B.params)) (λ u. ticking u (λ v. both (nest B i v) f)) (λ u. ticking u (λ v. both (nest' B i v) f')) (λ u. done false u) (λ u. done false u)
      (agrees_ticking n (λ v. both (nest B i v) f) (λ v. both (nest' B i v) f') (agrees_both n (nest B i) (nest' B i) f f' (h B i) (agrees_less n (suc n) f f' (omega arith) q)))
      (agrees_done (suc n) false)) (agrees_done (suc n) true)

  agrees_leaf : (g : Target) (j : ℕ) (t : Term) (f f' : Block → Account → Run Bool) → ((B : Block) → Agrees (suc n) (f B) (f' B)) →
      Agrees (suc n) (λ u. if names g j t then family_good E g j t [] f u else done true u) (λ u. if names g j t then family_good E g j t [] f' u else done true u)
  agrees_leaf g j t f f' q =
      agrees_if (names g j t) (λ u. family_good E g j t [] f u) (λ u. family_good E g j t [] f' u) (λ u. done true u) (λ u. done true u)
      (agrees_family g j t [] f f' q) (agrees_done (suc n) true)

  abbrev yes : Block → Account → Run Bool
  yes B v = done true v

  agrees_yes : (B : Block) → Agrees (suc n) (yes B) (yes B)
  agrees_yes B = agrees_done (suc n) true

  mutual
    pub agrees_good : (g : Target) (j : ℕ) (t : Term) → Agrees (suc n) (λ u. good E nest g j t u) (λ u. good E nest' g j t u)
    agrees_good g j (Rel i) = agrees_done (suc n) true
    agrees_good g j (Prod A B) =
        agrees_if (names g j A) (λ u. done false u) (λ u. done false u) (λ u. good E nest g (suc j) B u) (λ u. good E nest' g (suc j) B u)
        (agrees_done (suc n) false) (agrees_good g (suc j) B)
    agrees_good g j (App f a) =
        let k : Block → Account → Run Bool = λ B v. both (arguments_good E nest g j B f v) (argument_good nest g j B (length (args f)) a (good E nest g j a)) in
        let k' : Block → Account → Run Bool = λ B v. both (arguments_good E nest' g j B f v) (argument_good nest' g j B (length (args f)) a (good E nest' g j a)) in
        agrees_if (names g j (App f a)) (λ u. family_good E g j (head f) (args (App f a)) k u) (λ u. family_good E g j (head f) (args (App f a)) k' u)
        (λ u. done true u) (λ u. done true u)
        (agrees_family g j (head f) (args (App f a)) k k'
        (λ B. agrees_both (suc n) (arguments_good E nest g j B f) (arguments_good E nest' g j B f)
        (argument_good nest g j B (length (args f)) a (good E nest g j a)) (argument_good nest' g j B (length (args f)) a (good E nest' g j a))
        (agrees_arguments g j B f) (agrees_argument g j B (length (args f)) a (good E nest g j a) (good E nest' g j a) (agrees_good g j a)))) (agrees_done (suc n) true)
    agrees_good g j (SortT s) = agrees_leaf g j (SortT s) yes yes agrees_yes
    agrees_good g j (Lambda A b) = agrees_leaf g j (Lambda A b) yes yes agrees_yes
    agrees_good g j (LetIn b B t) = agrees_leaf g j (LetIn b B t) yes yes agrees_yes
    agrees_good g j (Const c) = agrees_leaf g j (Const c) yes yes agrees_yes
    agrees_good g j (Ind f) = agrees_leaf g j (Ind f) yes yes agrees_yes
    agrees_good g j (Construct f c) = agrees_leaf g j (Construct f c) yes yes agrees_yes
    agrees_good g j (Case f ps m ret s bs) = agrees_leaf g j (Case f ps m ret s bs) yes yes agrees_yes
    agrees_good g j (Fix i rargs types bodies) = agrees_leaf g j (Fix i rargs types bodies) yes yes agrees_yes

    agrees_arguments : (g : Target) (j : ℕ) (B : Block) (t : Term) → Agrees (suc n) (λ u. arguments_good E nest g j B t u) (λ u. arguments_good E nest' g j B t u)
    agrees_arguments g j B (App f a) =
        agrees_both (suc n) (arguments_good E nest g j B f) (arguments_good E nest' g j B f)
        (argument_good nest g j B (length (args f)) a (good E nest g j a)) (argument_good nest' g j B (length (args f)) a (good E nest' g j a))
        (agrees_arguments g j B f) (agrees_argument g j B (length (args f)) a (good E nest g j a) (good E nest' g j a) (agrees_good g j a))
    agrees_arguments g j B (Rel i) = agrees_done (suc n) true
    agrees_arguments g j B (SortT s) = agrees_done (suc n) true
    agrees_arguments g j B (Prod A C) = agrees_done (suc n) true
    agrees_arguments g j B (Lambda A b) = agrees_done (suc n) true
    agrees_arguments g j B (LetIn b C t) = agrees_done (suc n) true
    agrees_arguments g j B (Const c) = agrees_done (suc n) true
    agrees_arguments g j B (Ind f) = agrees_done (suc n) true
    agrees_arguments g j B (Construct f c) = agrees_done (suc n) true
    agrees_arguments g j B (Case f ps m ret s bs) = agrees_done (suc n) true
    agrees_arguments g j B (Fix i rargs types bodies) = agrees_done (suc n) true

  agrees_types : (g : Target) (j : ℕ) (As : List Term) → Agrees (suc n) (λ u. types_good E nest g j As u) (λ u. types_good E nest' g j As u)
  agrees_types g j [] = agrees_done (suc n) true
  agrees_types g j (A ∷ As) =
      agrees_both (suc n) (good E nest g j A) (good E nest' g j A) (types_good E nest g (suc j) As) (types_good E nest' g (suc j) As)
      (agrees_good g j A) (agrees_types g (suc j) As)

  agrees_constructors : (g : Target) (Cs : List Constructor) → Agrees (suc n) (λ u. constructors_good E nest g Cs u) (λ u. constructors_good E nest' g Cs u)
  agrees_constructors g [] = agrees_done (suc n) true
  agrees_constructors g (C ∷ Cs) =
      agrees_both (suc n) (types_good E nest g 0 C.args) (types_good E nest' g 0 C.args) (constructors_good E nest g Cs) (constructors_good E nest' g Cs)
      (agrees_types g 0 C.args) (agrees_constructors g Cs)

  pub agrees_families : (g : Target) (Fs : List Family) → Agrees (suc n) (λ u. families_good E nest g Fs u) (λ u. families_good E nest' g Fs u)
  agrees_families g [] = agrees_done (suc n) true
  agrees_families g (F ∷ Fs) =
      agrees_both (suc n) (constructors_good E nest g F.ctors) (constructors_good E nest' g F.ctors) (families_good E nest g Fs) (families_good E nest' g Fs)
      (agrees_constructors g F.ctors) (agrees_families g Fs)

module _ (E : Env) where
  pub agrees_nestable : (j m n : ℕ) → j ≤ m → j ≤ n → (B : Block) (p : ℕ) → Agrees j (nestable E m B p) (nestable E n B p)
  unfolding nestable
  agrees_nestable zero m n l l' B p = agrees_none (nestable E m B p) (nestable E n B p)
  agrees_nestable (suc j) zero n l l' B p = absurd (omega arith)
  agrees_nestable (suc j) (suc m) zero l l' B p = absurd (omega arith)
  agrees_nestable (suc j) (suc m) (suc n) l l' B p =
      agrees_if (types_name B p) (λ u. done false u) (λ u. done false u) (λ u. families_good E (nestable E m) (parameter_target B p) B.families u)
      (λ u. families_good E (nestable E n) (parameter_target B p) B.families u) (agrees_done (suc j) false)
      (agrees_families E j (nestable E m) (nestable E n) (agrees_nestable j m n (omega arith) (omega arith)) (parameter_target B p) B.families)

  -- with as much fuel as there are units
  pub good_fuel : (n : ℕ) (g : Target) (j : ℕ) (t : Term) → Agrees (suc n) (λ u. good E (nestable E n) g j t u) (λ u. good E (nestable E u.left) g j t u)
  good_fuel n g j t = record {
    same = λ u l. (agrees_good E u.left (nestable E n) (nestable E u.left) (agrees_nestable u.left n u.left (omega arith) (omega arith)) g j t).same u (omega arith);
    falls = λ u l. (agrees_good E n (nestable E n) (nestable E n) (agrees_nestable n n n (omega arith) (omega arith)) g j t).falls u l;
  }

  pub argument_fuel : (n : ℕ) (g : Target) (j : ℕ) (B : Block) (i : ℕ) (a : Term) → Agrees (suc n) (λ u. argument_good (nestable E n) g j B i a (good E (nestable E n) g j a) u)
      (λ u. argument_good (nestable E u.left) g j B i a (good E (nestable E u.left) g j a) u)
  argument_fuel n g j B i a = record {
    same = λ u l. (agrees_argument E u.left (nestable E n) (nestable E u.left) (agrees_nestable u.left n u.left (omega arith) (omega arith)) g j B i a
        (good E (nestable E n) g j a) (good E (nestable E u.left) g j a)
        (agrees_good E u.left (nestable E n) (nestable E u.left) (agrees_nestable u.left n u.left (omega arith) (omega arith)) g j a)).same u (omega arith);
    falls = λ u l. (agrees_argument E n (nestable E n) (nestable E n) (agrees_nestable n n n (omega arith) (omega arith)) g j B i a
        (good E (nestable E n) g j a) (good E (nestable E n) g j a)
        (agrees_good E n (nestable E n) (nestable E n) (agrees_nestable n n n (omega arith) (omega arith)) g j a)).falls u l;
  }
