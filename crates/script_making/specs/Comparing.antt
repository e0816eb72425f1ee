-- The runs of a comparison that writes, in an environment and with a number of rules that may still stand in one another.
use Rattle.std.specs.Prelude.{ℕ, Bool, true, if◌then◌else◌, List, ◌∷◌, length}
use Rattle.universe_levels.specs.declared.sort.Sort.{Sort}
use Rattle.trees.specs.Tree.{terms_of}
use Rattle.pc_terms.specs.Syntax.{Term, list_of}
use Rattle.pc_terms.specs.Lists.{arms_of, types_of, bodies_of}
use Rattle.pc_terms.specs.declared.term.Def.{Def}
use Rattle.pc_terms.specs.declared.term.Match.{Match}
use Rattle.calculus_rules.specs.declared.declaration.Constructor.{Constructor}
use Rattle.calculus_rules.specs.declared.declaration.Family.{Family}
use Rattle.calculus_rules.specs.declared.entry.Entry.TheVariants.{Assumed}
use Rattle.calculus_rules.specs.Environment.{Env, with_parameters}
use Rattle.calculus_rules.specs.Context.{Context}
use Rattle.calculus_rules.specs.Instances.{predicate_entries}
use Rattle.calculus_rules.specs.Lookups.{family_of}
use Rattle.pc_rules.specs.declared.broken.Broken.TheVariants.{NotBelow}
use Rattle.pc_rules.specs.declared.broken.Clash.TheVariants.{Sorts as ClashOfSorts}
use Rattle.pc_rules.specs.DirectedRun.{refused}
use Rattle.pc_rules.specs.DirectedComparison.{sorts_stand, lifted_types}
use Rattle.pc_rules.specs.Entailment.{test_of}
use Rattle.cert_rules.specs.declared.item.CertItem.TheVariants.{Same, Parts}
use Rattle.cert_rules.specs.Writing.{WriteAct, silent, noting, write_on, write_all}
use Rattle.cert_rules.specs.MakingTyping.{MakeComparison, make_compare, make_entered, make_pair, make_entering, make_each, make_branches_equal, make_matches_equal, make_fixpoints_equal, make_heads_equal, make_spines_equal}

abbrev pub compare_making : Env → ℕ → MakeComparison
compare_making E n = make_compare E (test_of E) n

abbrev pub entered_making : Env → ℕ → MakeComparison
entered_making E n = make_entered E (test_of E) (compare_making E n)

-- two weak-head normal forms
abbrev pub pair_making : Env → ℕ → MakeComparison
pair_making E n = make_pair E (test_of E) (compare_making E n)

-- two sorts
abbrev pub sort_pair_making : Env → Bool → Sort → Sort → WriteAct
sort_pair_making E equal s t u = if sorts_stand (test_of E) equal s t then noting Same u else silent (refused (NotBelow (ClashOfSorts s t))) u

-- two spines, and their heads
abbrev pub spines_making : Env → ℕ → Context → Term → Term → WriteAct
spines_making E n = make_spines_equal E (compare_making E n)

abbrev pub heads_making : Env → ℕ → Context → Term → Term → WriteAct
heads_making E n = make_heads_equal E (compare_making E n)

-- two lists of terms
abbrev pub each_making : Env → ℕ → Context → List Term → List Term → WriteAct
each_making E n c ts us = write_all (make_each (compare_making E n) c ts us)

-- two terms under the entries of a telescope
abbrev pub under_making : Env → ℕ → Context → List Term → Term → Term → WriteAct
under_making E n c As a b = make_entering c As (λ d. compare_making E n d true a b)

-- two products, or two lambdas: the domains, and what is under them
abbrev pub bound_making : Env → ℕ → Context → Bool → Term → Term → Term → Term → WriteAct
bound_making E n c equal A b A' b' u =
    write_on (noting Parts u) (λ _ v. write_on (compare_making E n c true A A' v) (λ _ w. compare_making E n (Assumed A ∷ c) equal b b' w))

-- two matches
abbrev pub matches_making : Env → ℕ → Context → Match → Match → WriteAct
matches_making E n c x y u =
    write_on (noting Parts u) (λ _ v.
    make_matches_equal (compare_making E n) c x.family (family_of E x.family) (terms_of x.params) x.ret x.scrut (arms_of x.branches) (terms_of y.params) y.ret y.scrut (arms_of y.branches) v)

-- their predicates, on a family of a block with parameters Ps
abbrev pub predicates_making : Env → ℕ → Context → List Term → Family → Match → Match → WriteAct
predicates_making E n c Ps F x y = under_making E n c (predicate_entries x.family (with_parameters Ps F) x.params) x.ret y.ret

-- and their branches, of these constructors
abbrev pub branch_bodies_making : Env → ℕ → Context → List Constructor → Match → Match → WriteAct
branch_bodies_making E n c Cs x y = write_all (make_branches_equal (compare_making E n) c x.params Cs (list_of (arms_of x.branches)) (list_of (arms_of y.branches)))

-- two fixpoints
abbrev pub fixpoints_making : Env → ℕ → Context → List Def → List Def → WriteAct
fixpoints_making E n c ds es u =
    write_on (noting Parts u) (λ _ v.
    make_fixpoints_equal (compare_making E n) c (types_of ds) (bodies_of (length ds) ds) (types_of es) (bodies_of (length es) es) v)

-- and their bodies
abbrev pub fix_bodies_making : Env → ℕ → Context → List Def → List Def → WriteAct
fix_bodies_making E n c ds es =
    make_entering c (lifted_types 0 (list_of (types_of ds))) (λ d. write_all (make_each (compare_making E n) d (list_of (bodies_of (length ds) ds)) (list_of (bodies_of (length es) es))))
