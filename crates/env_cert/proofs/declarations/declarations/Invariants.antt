use Rattle.std.proofs.Common.{drop, take, map}
use Rattle.calculus_rules.specs.Accepted.{IsAccepted}
use Rattle.pc_rules.specs.Follows.{IsAfter}
use Rattle.rule_laws.specs.Declarations.{AllGivenFormed}
use Rattle.inductive_check.specs.Given.{given_of}
use Rattle.env_cert.specs.EnvWalks.{LeadsOn}
use Rattle.env_cert.proofs.declarations.declarations.Given as goal

-- the declarations so far lead on to this environment
abbrev pub invariant-loop-i : goal.invariant-loop-i
invariant-loop-i g l = record {
  leads_on : LeadsOn l.cert l.room l.fn.env (map given_of l.decls) l.fn.trail l.env (map given_of (drop l.i l.decls)) l.trail;
  accepted : IsAccepted l.env;
  formed : AllGivenFormed (map given_of (take l.i l.decls));
  after : IsAfter l.fn.trail.meter l.trail.meter;
}
