-- The walks of a verifier along constants, declarations and main, and how the walk of declarations goes on from one environment to the next.
use Rattle.std.specs.Prelude.{ℕ, List, Option, Result, Ok, Err}
use Rattle.pc_terms.specs.declared.leaf.Name.{Name}
use Rattle.pc_terms.specs.Syntax.{Term}
use Rattle.calculus_rules.specs.declared.declaration.Kept.{Kept}
use Rattle.calculus_rules.specs.Environment.{Env}
use Rattle.pc_rules.specs.Entailment.{test_of}
use Rattle.pc_rules.specs.DirectedDeclarations.{Given}
use Rattle.cert_rules.specs.Walk.{Items, WalkState, Walk, WalkAct}
use Rattle.cert_rules.specs.WalkDeclarations.{walk_body, walk_constant, walk_declaration, walk_main, walk_declarations}
use Rattle.type_cert.specs.declared.halt.WalkHalt.{WalkHalt}
use Rattle.type_cert.specs.declared.trail.Trail.{Trail}
use Rattle.type_cert.specs.declared.verifier.Verifier.{Verifier}
use Rattle.type_cert.specs.Retraces.{Retraces, stand}
use Rattle.type_cert.specs.Going.{going, inferring}

abbrev pub body_walk : Verifier → Term → Option Term → WalkAct
body_walk v T b = walk_body v.cert.now v.env.now (inferring v) (going v) T b

abbrev pub constant_walk : Verifier → Name → Term → Option Term → WalkState → Walk Kept
constant_walk v k T b = walk_constant v.cert.now v.env.now (test_of v.env.now) v.room k T b

abbrev pub declaration_walk : Verifier → Given → WalkState → Walk Kept
declaration_walk v d = walk_declaration v.cert.now v.env.now (test_of v.env.now) v.room d

abbrev pub main_walk : Verifier → Term → WalkState → Walk (Env × Term)
main_walk v main = walk_main v.cert.now v.env.now (test_of v.env.now) v.room main

-- an answer with the environment
abbrev pub in_env : Env → Result Term WalkHalt → Result (Env × Term) WalkHalt
in_env E (Ok T) = Ok (E, T)
in_env E (Err h) = Err h

-- the declarations that are given over an environment, and then main; n rules may still stand in one another
abbrev pub declarations_walk : Items → ℕ → Env → List Given → Term → WalkState → Walk (Env × Term)
declarations_walk cert n E ds main = walk_declarations cert E.levels E.constraints (test_of E) n E.declarations ds main

-- whatever main is: what answers for the declarations that are left, over environment H, answers for all, over E
abbrev pub LeadsOn : Items → ℕ → Env → List Given → Trail → Env → List Given → Trail → Type 0
LeadsOn cert n E ds old H rest new =
    (main : Term) (r : Result (Env × Term) WalkHalt) (t : Trail) → Retraces (declarations_walk cert n H rest main (stand new)) r new t →
    Retraces (declarations_walk cert n E ds main (stand old)) r old t

-- whatever main is: the walk halts at a declaration
abbrev pub StopsAmong : Items → ℕ → Env → List Given → Trail → WalkHalt → Trail → Type 0
StopsAmong cert n E ds old h new = (main : Term) → Retraces (declarations_walk cert n E ds main (stand old)) (Err h) old new
