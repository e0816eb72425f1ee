-- What a report counts.
use Rattle.std.specs.Prelude.{ℕ, ◌+◌, min, Bool, true, false, List, [], ◌∷◌, ◌++◌, count_by, nat_eq, replicate}
use Rattle.reports.specs.declared.fact.Fact.{Fact}
use Rattle.reports.specs.declared.fact.Fact.TheVariants.{DeclKept, AxiomKept, RuleUsed, StepDone, Grew}

-- the last value of u64
abbrev pub last : ℕ
last = 18446744073709551615

-- the count after a fact, of which is told whether it is wanted
abbrev pub after : Bool → ℕ → ℕ
after true n = min (n + 1) last
after false n = n

-- so after a fact that is told so many times
abbrev pub after_times : Bool → (times n : ℕ) → ℕ
after_times true times n = min (n + times) last
after_times false times n = n

-- the count after facts: one more for each that is wanted, up to the last value
abbrev pub after_all : (Fact → Bool) → List Fact → ℕ → ℕ
after_all wanted facts n = min (n + count_by wanted facts) last

-- facts of one kind by rising number: so many with the number k, so many with the next one, and so on
abbrev pub numbered : (ℕ → Fact) → (k : ℕ) → List ℕ → List Fact
numbered fact k [] = []
numbered fact k (n ∷ ns) = replicate n (fact k) ++ numbered fact (k + 1) ns

abbrev pub is_declaration : Fact → Bool
is_declaration DeclKept = true
is_declaration AxiomKept = false
is_declaration (RuleUsed k) = false
is_declaration (StepDone k) = false
is_declaration Grew = false

abbrev pub is_axiom : Fact → Bool
is_axiom DeclKept = false
is_axiom AxiomKept = true
is_axiom (RuleUsed k) = false
is_axiom (StepDone k) = false
is_axiom Grew = false

abbrev pub is_rule : Fact → Bool
is_rule DeclKept = false
is_rule AxiomKept = false
is_rule (RuleUsed k) = true
is_rule (StepDone k) = false
is_rule Grew = false

abbrev pub is_step : Fact → Bool
is_step DeclKept = false
is_step AxiomKept = false
is_step (RuleUsed k) = false
is_step (StepDone k) = true
is_step Grew = false

-- a step of this class
abbrev pub is_step_of : ℕ → Fact → Bool
is_step_of n DeclKept = false
is_step_of n AxiomKept = false
is_step_of n (RuleUsed k) = false
is_step_of n (StepDone k) = nat_eq k n
is_step_of n Grew = false

abbrev pub is_grow : Fact → Bool
is_grow DeclKept = false
is_grow AxiomKept = false
is_grow (RuleUsed k) = false
is_grow (StepDone k) = false
is_grow Grew = true
