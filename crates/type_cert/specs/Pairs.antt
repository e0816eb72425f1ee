-- The parts of two matches and of two fixpoints, two by two, in the order of the places of a node.
use Rattle.std.specs.Prelude.{ℕ, ◌==◌, true, if◌then◌else◌, List, [], ◌∷◌, ◌++◌, length, Option, Some, None}
use Rattle.trees.specs.Tree.{terms_of}
use Rattle.pc_terms.specs.Syntax.{Term, Terms, Done, Next, CaseOf, FixOf}
use Rattle.pc_terms.specs.Lists.{arms_of, types_of, bodies_of, rargs_of}
use Rattle.pc_terms.specs.declared.term.Def.{Def}
use Rattle.pc_terms.specs.declared.term.Match.{Match}
use Rattle.calculus_rules.specs.Same.{same_labels}
use Rattle.calculus_rules.specs.Environment.{Env}
use Rattle.calculus_rules.specs.Context.{Values, under}
use Rattle.pc_rules.specs.WellCounted.{IsCounted}
use Rattle.cert_rules.specs.Walk.{WalkAct}
use Rattle.cert_rules.specs.Scripts.{Script}
use Rattle.type_cert.specs.declared.parts.Part.{Part}

abbrev pub with_pair : Part → Option (List Part) → Option (List Part)
with_pair p None = None
with_pair p (Some ps) = Some (p ∷ ps)

-- two terms, each under so many variables
abbrev pub pair_under : ℕ → Term → Term → Part
pair_under n t u = record { left = t; right = u; under = n }

-- the terms of two lists, where there are as many and each two stand under as many variables
abbrev pub term_pairs : Terms → Terms → Option (List Part) → Option (List Part)
term_pairs Done Done rest = rest
term_pairs (Next n t ts) (Next m u us) rest = if n == m then with_pair (pair_under n t u) (term_pairs ts us rest) else None
term_pairs _ _ rest = None

-- parts behind others
abbrev pub joined : List Part → Option (List Part) → Option (List Part)
joined ps None = None
joined ps (Some qs) = Some (ps ++ qs)

-- parameters, the predicate, the scrutinee, branches
abbrev pub match_pairs : Terms → ℕ → Term → Term → Terms → Terms → Term → Term → Terms → Option (List Part)
match_pairs ps n ret s bs qs ret' s' bs' =
    term_pairs ps qs (with_pair (pair_under n ret ret') (with_pair (pair_under 0 s s') (term_pairs bs bs' (Some []))))

-- types, bodies
abbrev pub fix_pairs : Terms → Terms → Terms → Terms → Option (List Part)
fix_pairs types bodies types' bodies' = term_pairs types types' (term_pairs bodies bodies' (Some []))

-- of two matches in memory, none where their families or counts differ
abbrev pub paired_matches : Match → Match → Option (List Part)
paired_matches x y =
    if same_labels (CaseOf x.family x.binders) (CaseOf y.family y.binders)
    then match_pairs (terms_of x.params) x.binders x.ret x.scrut (arms_of x.branches) (terms_of y.params) y.ret y.scrut (arms_of y.branches)
    else None

-- of two fixpoints in memory, none where their indices or recursive arguments differ
abbrev pub paired_fixpoints : ℕ → List Def → ℕ → List Def → Option (List Part)
paired_fixpoints i ds j es =
    if same_labels (FixOf i (rargs_of ds)) (FixOf j (rargs_of es))
    then fix_pairs (types_of ds) (bodies_of (length ds) ds) (types_of es) (bodies_of (length es) es)
    else None

-- a script for each two parts: they are to be equal
abbrev pub act_of : Script → Values → Part → WalkAct
act_of go V p = go (under p.under V) true p.left p.right

abbrev pub acts_of : Script → Values → List Part → List WalkAct
acts_of go V [] = []
acts_of go V (p ∷ ps) = act_of go V p ∷ acts_of go V ps

-- the scripts of parts, where there are parts
abbrev pub acted : Script → Values → Option (List Part) → Option (List WalkAct)
acted go V None = None
acted go V (Some ps) = Some (acts_of go V ps)

-- both terms of each are well counted
abbrev pub AreCountedParts : Env → List Part → Type 0
AreCountedParts E [] = Unit {0}
AreCountedParts E (p ∷ ps) = (IsCounted E p.left × IsCounted E p.right) × AreCountedParts E ps
