-- The laws of inference, as statements.
use Rattle.std.specs.Prelude.{◌≡◌, ℕ, List, [], ◌∷◌}
use Rattle.universe_levels.specs.declared.sort.Sort.{Sort}
use Rattle.pc_terms.specs.Syntax.{Term, SortT}
use Rattle.pc_terms.specs.Formed.{IsFormed}
use Rattle.pc_rules.specs.declared.meter.Account.{Account}
use Rattle.calculus_rules.specs.Environment.{Env}
use Rattle.calculus_rules.specs.Context.{Context}
use Rattle.calculus_rules.specs.Typing.{Types, guarded}
use Rattle.pc_rules.specs.DirectedRun.{Done}
use Rattle.pc_rules.specs.DirectedComparison.{Test, IsTest, compare}
use Rattle.pc_rules.specs.DirectedTyping.{infer, sort_of, check}
use Rattle.pc_rules.specs.WellCounted.{IsCounted, HasCountedDeclarations, IsCountedContext}

-- a term with its type, both well counted
pub record IsInferred (E : Env) (c : Context) (t T : Term) : Type 0 where
  pub typed : Types guarded E c t T
  pub subject : IsCounted E t
  pub classifier : IsCounted E T

abbrev pub AllFormed : List Term → Type 0
AllFormed [] = Unit {0}
AllFormed (t ∷ ts) = IsFormed t × AllFormed ts

-- what the directed rules infer is a type of the term
abbrev pub InferenceIsSound : Type 0
InferenceIsSound = (E : Env) (q : Test) → IsTest E.levels E.constraints q → HasCountedDeclarations E → (n : ℕ) (c : Context) (t T : Term) (u v : Account) →
    IsCountedContext E c → IsFormed t → (infer E q n c t u).end ≡ Done T v → IsInferred E c t T

-- the sort that they find is the sort of a type of it
abbrev pub SortsAreSound : Type 0
SortsAreSound = (E : Env) (q : Test) → IsTest E.levels E.constraints q → HasCountedDeclarations E → (n : ℕ) (c : Context) (t : Term) (s : Sort) (u v : Account) →
    IsCountedContext E c → IsFormed t → (sort_of E (infer E q n) c t u).end ≡ Done s v → Types guarded E c t (SortT s)

-- and the type against which they check it is one of it
abbrev pub ChecksAreSound : Type 0
ChecksAreSound = (E : Env) (q : Test) → IsTest E.levels E.constraints q → HasCountedDeclarations E → (n : ℕ) (c : Context) (t T : Term) (u v : Account) →
    IsCountedContext E c → IsFormed t → IsFormed T → (check E (infer E q n) (compare E q n) c t T u).end ≡ Done tt v → Types guarded E c t T
