use Rattle.std.proofs.Common.{drop, map}
use Rattle.calculus_rules.specs.Accepted.{IsAccepted}
use Rattle.pc_rules.specs.Follows.{IsAfter}
use Rattle.inductive_check.specs.Given.{given_of}
use Rattle.env_making.specs.EnvMaking.{LeadsMaking}
use Rattle.env_making.proofs.declarations.declarations.Given as goal

-- the declarations so far lead on to this environment
abbrev pub invariant-loop-i : goal.invariant-loop-i
invariant-loop-i g l = record {
  leads_on : LeadsMaking l.room l.fn.env 0 (map given_of l.decls) l.fn.draft l.env l.i (map given_of (drop l.i l.decls)) l.draft;
  accepted : IsAccepted l.env;
  after : IsAfter l.fn.draft.meter l.draft.meter;
}
