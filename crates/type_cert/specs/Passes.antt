-- That a script passes. It is promised by calls that may give up at any time, and then promise nothing: so they say neither how a walk is refused nor
-- whether it passes a limit.
use Rattle.std.specs.Prelude.{◌≡◌, ◌≤◌, ◌+◌, ℕ, Bool, true, List, [], ◌∷◌, length, take, Option, Some, None}
use Rattle.pc_terms.specs.Syntax.{Term, Terms, apply, head, args}
use Rattle.pc_terms.specs.Lists.{bodies_of}
use Rattle.pc_terms.specs.declared.term.Def.{Def}
use Rattle.calculus_rules.specs.Context.{Values}
use Rattle.pc_rules.specs.declared.meter.Account.{Account}
use Rattle.cert_rules.specs.Walk.{WalkState, WalkAct, Passed, walk_all}
use Rattle.cert_rules.specs.Scripts.{Script}
use Rattle.lazy_conversion.specs.Parts.{read_part}
use Rattle.lazy_conversion.specs.declared.shapes.Binder.{Binder}
use Rattle.type_cert.specs.declared.pace.Pace.{Pace}
use Rattle.type_cert.specs.declared.trail.Trail.{Trail}

-- where a walk stands at a pace, with these uses of rules
abbrev pub paced : Account → Pace → WalkState
paced u p = record { account = record { left = p.left; uses = u.uses }; at = p.at }

-- the pace at which a walk stands
abbrev pub pace_of : Trail → Pace
pace_of t = record { left = t.meter.account.left; at = t.at }

-- one item further
abbrev pub one_on : Pace → Pace
one_on p = record { left = p.left; at = p.at + 1 }

pub record Passes (act : WalkAct) (p q : Pace) : Type 0 where
  pub end : (u : Account) → (act (paced u p)).end ≡ Passed tt (paced u q)
  pub less : q.left ≤ p.left

-- there are parts, and the script of each passes
abbrev pub AllPass : Option (List WalkAct) → Pace → Pace → Type 0
AllPass None p q = ⊥
AllPass (Some acts) p q = Passes (walk_all acts) p q

-- the scripts of the first parts pass, so that all do where the others pass
abbrev pub FirstPass : (Option (List WalkAct) → Option (List WalkAct)) → Pace → Pace → Type 0
FirstPass f p r = (o : Option (List WalkAct)) (q : Pace) → AllPass o r q → AllPass (f o) p q

-- the head of a term with its first n arguments
abbrev pub prefix_term : ℕ → Term → Term
prefix_term n t = apply (head t) (take n (args t))

-- the bodies of definitions, each under all of them
abbrev pub body_trees : List Def → Terms
body_trees ds = bodies_of (length ds) ds

-- the scripts of the parts of two products or two lambdas: domains, then what is below their variables
abbrev pub binder_acts : Script → Values → Bool → Binder → Binder → List WalkAct
binder_acts go V equal f g = go V true (read_part f.domain) (read_part g.domain) ∷ go (None ∷ V) equal (read_part f.body) (read_part g.body) ∷ []
