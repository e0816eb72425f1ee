-- The parts of a walk: under a binder, and through a match.
use Rattle.std.specs.Prelude.{ℕ, List, [], ◌∷◌, Option, None}
use Rattle.pc_terms.specs.declared.leaf.Name.{Name}
use Rattle.pc_terms.specs.declared.leaf.FamilyId.{FamilyId}
use Rattle.pc_terms.specs.Syntax.{Term, Terms}
use Rattle.calculus_rules.specs.Environment.{Env}
use Rattle.calculus_rules.specs.Context.{Values, under}
use Rattle.calculus_rules.specs.Guardedness.{Other, Marks, ending, others}
use Rattle.pc_rules.specs.DirectedRun.{Act, bind, run_all}
use Rattle.calculus_rules.specs.Lookups.{family_of}
use Rattle.pc_rules.specs.DirectedGuard.{opens, constructors_of, normal_found, interleaved, passed_argument, argument_found, if_passed, walk, walk_terms, walk_branches, walk_passed}

-- a domain, and what is under it
abbrev pub binder_rule : Env → Option Name → Values → Marks → Term → Term → Act
binder_rule E r V M A b u = run_all (walk E r V M [] A ∷ walk E r (None ∷ V) (Other ∷ M) [] b ∷ []) u

-- the parts of a match
abbrev pub match_rule : Env → Option Name → Values → Marks → FamilyId → Terms → ℕ → Term → Term → Terms → Act
match_rule E r V M f ps n ret s bs u =
    bind (normal_found E r V M s u) (λ p v.
    bind (walk E r V M [] s v) (λ _ w.
    bind (run_all (walk_terms E r V M ps) w) (λ _ x.
    bind (walk E r (under n V) (others n M) [] ret x) (λ _ y.
    run_all (walk_branches E r V M (ending E r f ps) (opens p.1) (constructors_of (family_of E f)) bs) y))))

-- a fixpoint: what its recursive argument is, and then its definitions
abbrev pub definitions_rule : Env → Option Name → Values → Marks → List Term → List ℕ → Terms → Terms → Act
definitions_rule E r V M xs rargs types bodies u =
    bind (argument_found E r V M (passed_argument rargs xs) u) (λ m v.
    run_all (interleaved (walk_terms E r V M types) (if_passed m (walk_passed E r V M rargs bodies) (walk_terms E r V M bodies))) v)
