-- The runs that write along constants, declarations and main, and how the run of declarations goes on from one environment to the next.
use Rattle.std.specs.Prelude.{ℕ, ◌-◌, List, Option, Result, Err}
use Rattle.pc_terms.specs.declared.leaf.Name.{Name}
use Rattle.pc_terms.specs.Syntax.{Term}
use Rattle.dump_reader.specs.declared.environment.RawEnv.{RawEnv}
use Rattle.calculus_rules.specs.declared.declaration.Kept.{Kept}
use Rattle.calculus_rules.specs.Environment.{Env}
use Rattle.pc_rules.specs.declared.meter.Account.{Account}
use Rattle.pc_rules.specs.DirectedRun.{Run, most_nested}
use Rattle.pc_rules.specs.DirectedDeclarations.{Given}
use Rattle.pc_rules.specs.Entailment.{test_of}
use Rattle.env_check.specs.Rules.{IsFound}
use Rattle.cert_rules.specs.Writing.{Wrote, WriteAct}
use Rattle.cert_rules.specs.MakingDeclarations.{make_body, make_constant, make_declaration, Made, make_declarations}
use Rattle.script_making.specs.declared.draft.Draft.{Draft}
use Rattle.script_making.specs.Comparing.{compare_making}
use Rattle.type_making.specs.Making.{infer_making}
use Rattle.env_making.specs.declared.refusal.CertRefusal.{CertRefusal}
use Rattle.env_making.specs.declared.refusal.CertRefusal.TheVariants.{Memory}
use Rattle.env_making.specs.Placing.{MakesPlaced}
use Rattle.env_making.specs.Certified.{making_of}

abbrev pub body_making : Env → ℕ → Term → Option Term → WriteAct
body_making E n = make_body E (infer_making E n) (compare_making E n)

abbrev pub constant_making : Env → ℕ → Name → Term → Option Term → Account → Run (Wrote Kept)
constant_making E n = make_constant E (test_of E) n

abbrev pub declaration_making : Env → ℕ → Given → Account → Run (Wrote Kept)
declaration_making E n = make_declaration E (test_of E) n

-- the declarations that are given over an environment, of which the first is number i, and then main; n rules may still stand in one another
abbrev pub declarations_making : ℕ → Env → ℕ → List Given → Term → Account → Made
declarations_making n E i ds main = make_declarations E.levels E.constraints (test_of E) n i E.declarations ds main

-- whatever main is: what is made of the declarations that are left, from number j on over environment H, is made of all, from number i on over E
abbrev pub LeadsMaking : ℕ → Env → ℕ → List Given → Draft → Env → ℕ → List Given → Draft → Type 0
LeadsMaking n E i ds old H j rest new =
    (main : Term) (r : Result (Env × Term) CertRefusal) (t : Draft) → MakesPlaced (declarations_making n H j rest main new.meter.account) r new t →
    MakesPlaced (declarations_making n E i ds main old.meter.account) r old t

-- whatever main is: the making is refused or stops at a declaration
abbrev pub EndsMaking : ℕ → Env → ℕ → List Given → Draft → CertRefusal → Draft → Type 0
EndsMaking n E i ds old e new = (main : Term) → MakesPlaced (declarations_making n E i ds main old.meter.account) (Err e) old new

-- a call on a draft makes the whole, with some cycle that is found of the graph
pub record DraftsFound (raw : RawEnv) (n : ℕ) (r : Result (Env × Term) CertRefusal) (old new : Draft) : Type 0 where
  pub cycle : Option (List ℕ)
  pub found : IsFound raw cycle
  pub makes : MakesPlaced (making_of raw cycle n old.meter.account) r old new

abbrev pub DraftsAlong : RawEnv → Result (Env × Term) CertRefusal → Draft → Draft → Type 0
DraftsAlong raw (Err Memory) old new = Unit {0}
DraftsAlong raw r old new = DraftsFound raw (most_nested - old.meter.nest) r old new
