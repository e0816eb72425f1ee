-- Strict positivity as a test, with units: one for each parameter of an earlier family that names what the test is for.
use Rattle.std.specs.Prelude.{ℕ, zero, suc, ◌+◌, ◌==◌, not, Bool, true, false, if◌then◌else◌, nat_lt, nat_le, List, [], ◌∷◌, length, Option, Some, None}
use Rattle.pc_terms.specs.declared.leaf.Name.{Name}
use Rattle.pc_terms.specs.Syntax.{Term, Rel, Prod, App, Ind, head, args}
use Rattle.calculus_rules.specs.declared.declaration.Constructor.{Constructor}
use Rattle.calculus_rules.specs.declared.declaration.Family.{Family}
use Rattle.calculus_rules.specs.declared.declaration.Block.{Block}
use Rattle.calculus_rules.specs.declared.target.Target.{Target}
use Rattle.calculus_rules.specs.declared.target.Target.TheVariants.{Families, Parameter}
use Rattle.pc_rules.specs.declared.meter.Account.{Account}
use Rattle.calculus_rules.specs.Environment.{Env}
use Rattle.calculus_rules.specs.Same.{same_names}
use Rattle.calculus_rules.specs.Naming.{names, some_names}
use Rattle.calculus_rules.specs.Positivity.{parameter_target, block_of, types_name}
use Rattle.pc_rules.specs.DirectedRun.{Run, done, no_unit, bind, ticking}
use Rattle.calculus_rules.specs.Lookups.{kept_at, whole_block}

-- whether a place among the parameters of a block is nestable
abbrev pub Nesting : Type 0
Nesting = Block → ℕ → Account → Run Bool

-- whether both hold; the second is not asked where the first does not
abbrev pub both : Run Bool → (Account → Run Bool) → Run Bool
both r k = bind r (λ b v. if b then k v else done false v)

-- the arguments after n parameters of a block, where they begin with just these, as they are seen under j variables more
abbrev pub after_parameters : ℕ → ℕ → List Term → Option (List Term)
after_parameters zero j xs = Some xs
after_parameters (suc n) j (Rel i ∷ xs) = if i == n + j then after_parameters n j xs else None
after_parameters (suc n) j xs = None

abbrev pub none_named : Target → ℕ → Option (List Term) → Bool
none_named g j None = false
none_named g j (Some xs) = not (some_names g j xs)

-- the arguments of a family of the target's own block
abbrev pub own_arguments : Target → ℕ → List Term → Bool
own_arguments (Families k) j xs = none_named (Families k) j (Some xs)
own_arguments (Parameter k n v) j xs = none_named (Parameter k n v) j (after_parameters n j xs)

-- a family of an earlier block with at least all its parameters, if it is one
abbrev pub given_parameters : ℕ → Option Block → (Block → Account → Run Bool) → Account → Run Bool
given_parameters n None k u = done false u
given_parameters n (Some B) k u = if nat_le (length B.params) n then k B u else done false u

-- a term that names the target, by its head and its arguments: a family of the target's own block, or one of an earlier block
abbrev pub family_good : Env → Target → ℕ → Term → List Term → (Block → Account → Run Bool) → Account → Run Bool
family_good E g j (Ind f) xs k u =
    if same_names f.block (block_of g) then done (own_arguments g j xs) u
    else given_parameters (length xs) (whole_block (kept_at E.declarations f.block)) k u
family_good E g j h xs k u = done false u

-- argument i of a family of block B, which has the test as a type: where it is a parameter that names the target, a unit, and then its
-- place is tested, and then it
abbrev pub argument_good : Nesting → Target → ℕ → Block → ℕ → Term → (Account → Run Bool) → Account → Run Bool
argument_good nest g j B i a test u =
    if names g j a
    then (if nat_lt i (length B.params) then ticking u (λ v. both (nest B i v) test) else done false u)
    else done true u

-- a type under j variables more than the target's parameters is good for the target
abbrev mutual
  pub good : Env → Nesting → Target → ℕ → Term → Account → Run Bool
  good E nest g j (Rel i) u = done true u
  good E nest g j (Prod A B) u = if names g j A then done false u else good E nest g (suc j) B u
  good E nest g j (App f a) u =
      if names g j (App f a)
      then family_good E g j (head f) (args (App f a)) (λ B v. both (arguments_good E nest g j B f v) (argument_good nest g j B (length (args f)) a (good E nest g j a))) u
      else done true u
  good E nest g j t u = if names g j t then family_good E g j t [] (λ B v. done true v) u else done true u

  -- the arguments of a family of block B, from the first to the last
  pub arguments_good : Env → Nesting → Target → ℕ → Block → Term → Account → Run Bool
  arguments_good E nest g j B (App f a) u =
      both (arguments_good E nest g j B f u) (argument_good nest g j B (length (args f)) a (good E nest g j a))
  arguments_good E nest g j B t u = done true u

-- argument types, constructors and families in order
abbrev pub types_good : Env → Nesting → Target → ℕ → List Term → Account → Run Bool
types_good E nest g j [] u = done true u
types_good E nest g j (A ∷ As) u = both (good E nest g j A u) (types_good E nest g (suc j) As)

abbrev pub constructors_good : Env → Nesting → Target → List Constructor → Account → Run Bool
constructors_good E nest g [] u = done true u
constructors_good E nest g (C ∷ Cs) u = both (types_good E nest g 0 C.args u) (constructors_good E nest g Cs)

abbrev pub families_good : Env → Nesting → Target → List Family → Account → Run Bool
families_good E nest g [] u = done true u
families_good E nest g (F ∷ Fs) u = both (constructors_good E nest g F.ctors u) (families_good E nest g Fs)

-- whether a place is nestable: its type conditions come first. A unit is taken before each place, so with more fuel than units it never ends
unfoldable pub nestable : Env → ℕ → Nesting
nestable E zero B p u = no_unit
nestable E (suc n) B p u = if types_name B p then done false u else families_good E (nestable E n) (parameter_target B p) B.families u

-- whether a type is good for the families of a block
abbrev pub is_positive : Env → Name → Term → Account → Run Bool
is_positive E k A u = good E (nestable E u.left) (Families k) 0 A u

-- whether a block is positive, over the environment before it: constructor by constructor, its argument types in order and then its result
-- terms
abbrev pub types_positive : Env → Name → List Term → Account → Run Bool
types_positive E k [] u = done true u
types_positive E k (A ∷ As) u = both (is_positive E k A u) (types_positive E k As)

abbrev pub constructor_positive : Env → Name → Constructor → Account → Run Bool
constructor_positive E k C u = both (types_positive E k C.args u) (λ v. done (not (some_names (Families k) 0 C.result)) v)

abbrev pub constructors_positive : Env → Name → List Constructor → Account → Run Bool
constructors_positive E k [] u = done true u
constructors_positive E k (C ∷ Cs) u = both (constructor_positive E k C u) (constructors_positive E k Cs)

abbrev pub families_positive : Env → Name → List Family → Account → Run Bool
families_positive E k [] u = done true u
families_positive E k (F ∷ Fs) u = both (constructors_positive E k F.ctors u) (families_positive E k Fs)

abbrev pub block_positive : Env → Block → Account → Run Bool
block_positive E B u = families_positive E B.name B.families u
