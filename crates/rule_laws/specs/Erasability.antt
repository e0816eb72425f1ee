-- The law of the test of erasable terms, as a statement.
use Rattle.std.specs.Prelude.{◌≡◌, ℕ, Some}
use Rattle.pc_terms.specs.Syntax.{Term}
use Rattle.pc_rules.specs.declared.meter.Account.{Account}
use Rattle.calculus_rules.specs.Environment.{Env}
use Rattle.calculus_rules.specs.Context.{Context}
use Rattle.calculus_rules.specs.declared.evidence.Evidence.{Evidence}
use Rattle.calculus_rules.specs.Erasable.{Erasable, kind_of}
use Rattle.pc_rules.specs.DirectedRun.{Done}
use Rattle.pc_rules.specs.DirectedComparison.{Test, IsTest}
use Rattle.pc_rules.specs.DirectedTyping.{infer}
use Rattle.pc_rules.specs.DirectedErasable.{erasable_test}
use Rattle.pc_rules.specs.WellCounted.{IsCounted, HasCountedDeclarations, IsCountedContext}

-- the term is erasable, by evidence of that kind
abbrev pub HasEvidence : Env → Context → Term → Evidence → Type 0
HasEvidence E c t k = (e : Erasable E c t) × (kind_of e ≡ k)

-- where the test finds evidence there is evidence of that kind
abbrev pub EvidenceIsSound : Type 0
EvidenceIsSound = (E : Env) (q : Test) → IsTest E.levels E.constraints q → HasCountedDeclarations E → (n : ℕ) (c : Context) (t : Term) (k : Evidence) (u v : Account) →
    IsCountedContext E c → IsCounted E t → (erasable_test E (infer E q n) c t u).end ≡ Done (Some k) v → HasEvidence E c t k
