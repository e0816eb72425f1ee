-- Laws of the certified walk, as statements.
use Rattle.std.specs.Prelude.{◌≡◌, ℕ, Bool, List, Option, None, length}
use Rattle.universe_levels.specs.declared.level.Level.{Level}
use Rattle.universe_levels.specs.declared.constraint.Constraint.{Constraint}
use Rattle.universe_levels.specs.declared.sort.Sort.{Sort}
use Rattle.universe_levels.specs.Consistency.{IsConsistent}
use Rattle.pc_terms.specs.Syntax.{Term, SortT}
use Rattle.pc_terms.specs.Formed.{IsFormed}
use Rattle.calculus_rules.specs.Environment.{Env}
use Rattle.calculus_rules.specs.Context.{Context, Values}
use Rattle.calculus_rules.specs.Typing.{Types, guarded}
use Rattle.pc_rules.specs.DirectedComparison.{Test, IsTest}
use Rattle.pc_rules.specs.DirectedDeclarations.{Given}
use Rattle.pc_rules.specs.WellCounted.{HasCountedDeclarations, IsCountedContext}
use Rattle.rule_laws.specs.Comparison.{Compares}
use Rattle.rule_laws.specs.Inference.{IsInferred}
use Rattle.rule_laws.specs.Declarations.{AllGivenFormed, IsCheckedEnvironment}
use Rattle.cert_rules.specs.Walk.{Items, WalkState, Passed}
use Rattle.cert_rules.specs.Scripts.{script}
use Rattle.cert_rules.specs.WalkTyping.{walk_infer, walk_sort_of, walk_check}
use Rattle.cert_rules.specs.WalkDeclarations.{walk_environment}

-- two terms for which a script is accepted are equal, or the first is below the second
abbrev pub ScriptsAreSound : Type 0
ScriptsAreSound = (cert : Items) (E : Env) (q : Test) → IsTest E.levels E.constraints q →
    (n : ℕ) (V : Values) (equal : Bool) (a b : Term) (s s' : WalkState) → (script cert E q n V equal a b s).end ≡ Passed tt s' → Compares E equal V a b

-- what the walk comes to is a type of the term
abbrev pub WalkIsSound : Type 0
WalkIsSound = (cert : Items) (E : Env) (q : Test) → IsTest E.levels E.constraints q → HasCountedDeclarations E →
    (n : ℕ) (c : Context) (t T : Term) (s s' : WalkState) → IsCountedContext E c → IsFormed t → (walk_infer cert E q n c t s).end ≡ Passed T s' → IsInferred E c t T

abbrev pub WalkedSortsAreSound : Type 0
WalkedSortsAreSound = (cert : Items) (E : Env) (q : Test) → IsTest E.levels E.constraints q → HasCountedDeclarations E →
    (n : ℕ) (c : Context) (t : Term) (x : Sort) (s s' : WalkState) → IsCountedContext E c → IsFormed t →
    (walk_sort_of cert E (walk_infer cert E q n) c t s).end ≡ Passed x s' → Types guarded E c t (SortT x)

abbrev pub WalkedChecksAreSound : Type 0
WalkedChecksAreSound = (cert : Items) (E : Env) (q : Test) → IsTest E.levels E.constraints q → HasCountedDeclarations E →
    (n : ℕ) (c : Context) (t T : Term) (s s' : WalkState) → IsCountedContext E c → IsFormed t → IsFormed T →
    (walk_check cert E (walk_infer cert E q n) (script cert E q n) c t T s).end ≡ Passed tt s' → Types guarded E c t T

-- an environment that the walk accepts is well formed, with its main term and that term's type
abbrev pub WalkedEnvironmentsAreSound : Type 0
WalkedEnvironmentsAreSound = (cert : Items) (levels : List Level) (cs : List Constraint) (cycle : Option (List ℕ)) (q : Test) → IsTest (length levels) cs q →
    (cycle ≡ None → IsConsistent (length levels) cs) → (n : ℕ) (ds : List Given) (main T : Term) (E : Env) (s s' : WalkState) → AllGivenFormed ds → IsFormed main →
    (walk_environment cert levels cs cycle q n ds main s).end ≡ Passed (E, T) s' → IsCheckedEnvironment levels cs ds main E T
