-- Scripts: they show that a term is equal to another, or below it. A script takes one item and counts as a nested rule: the two are the same,
-- or are sorts that stand as asked; so many steps of the left or of the right term lead on to a script; or both have one former with the same
-- numbers and counts, and a script for each pair of parts follows in order. The codomains of two products keep what is asked; all other parts
-- are to be equal. Conversion knows nothing of a context but the values of its entries, so nothing else of it is formed here: the new entries
-- are those of the left term, of which a let alone has a value.
use Rattle.std.specs.Prelude.{ℕ, zero, suc, ◌==◌, ◌||◌, Bool, true, false, if◌then◌else◌, List, [], ◌∷◌, Option, Some, None, slice_get}
use Rattle.pc_terms.specs.Syntax.{Slot, Label, ProdOf, LetInOf, Term, Terms, Children, End, Child, Group, Next, Rel, Node, SortT}
use Rattle.pc_terms.specs.Syntax as syntax
use Rattle.calculus_rules.specs.Environment.{Env}
use Rattle.calculus_rules.specs.Context.{Values, under}
use Rattle.calculus_rules.specs.Same.{same, same_labels}
use Rattle.pc_rules.specs.DirectedComparison.{Test, sorts_stand}
use Rattle.cert_rules.specs.declared.item.CertItem.{CertItem}
use Rattle.cert_rules.specs.declared.item.CertItem.TheVariants.{Same, Left, Right, Parts}
use Rattle.cert_rules.specs.Walk.{Items, WalkAct, pass, bar, bar_here, crowded, past, walk_on, walk_all}
use Rattle.cert_rules.specs.WalkSteps.{walk_steps}

-- under values: equal where the test is true, and else below
abbrev pub Script : Type 0
Script = Values → Bool → Term → Term → WalkAct

-- goes on where there are parts
abbrev pub with_part : WalkAct → Option (List WalkAct) → Option (List WalkAct)
with_part act None = None
with_part act (Some acts) = Some (act ∷ acts)

-- the parts of two lists of terms, where there are as many and each two stand under as many variables
abbrev pub term_parts : Script → Values → Terms → Terms → Option (List WalkAct) → Option (List WalkAct)
term_parts go V syntax.Done syntax.Done rest = rest
term_parts go V (Next n t ts) (Next m u us) rest =
    if n == m then with_part (go (under n V) true t u) (term_parts go V ts us rest) else None
term_parts go V _ _ rest = None

-- the parts of two nodes of one label, in order
abbrev pub child_parts : Script → Values → {ss rr : List Slot} → Children ss → Children rr → Option (List WalkAct)
child_parts go V End End = Some []
child_parts go V (Child {n = n} t ts) (Child u us) = with_part (go (under n V) true t u) (child_parts go V ts us)
child_parts go V (Group ps ts) (Group qs us) = term_parts go V ps qs (child_parts go V ts us)
child_parts go V _ _ = None

-- the parts of two nodes of one label, of which products and lets have entries or questions of their own
abbrev pub node_parts : Script → Values → Bool → Label → {ss rr : List Slot} → Children ss → Children rr → Option (List WalkAct)
node_parts go V equal ProdOf (Child A (Child B End)) (Child A' (Child B' End)) = Some (go V true A A' ∷ go (None ∷ V) equal B B' ∷ [])
node_parts go V equal LetInOf (Child b (Child B (Child t End))) (Child b' (Child B' (Child t' End))) =
    Some (go V true b b' ∷ go V true B B' ∷ go (Some b ∷ V) true t t' ∷ [])
node_parts go V equal l ts us = child_parts go V ts us

-- the parts of two terms of one former
abbrev pub parts_of : Script → Values → Bool → Term → Term → Option (List WalkAct)
parts_of go V equal (Rel i) (Rel j) = if i == j then Some [] else None
parts_of go V equal (Node l ts) (Node m us) = if same_labels l m then node_parts go V equal l ts us else None
parts_of go V equal _ _ = None

-- two sorts that stand as asked
abbrev pub sorts_at : Test → Bool → Term → Term → Bool
sorts_at q equal (SortT s) (SortT s') = sorts_stand q equal s s'
sorts_at q equal a b = false

-- each part in turn; where there are none, the walk is refused at item i
abbrev pub walk_parts : ℕ → Option (List WalkAct) → WalkAct
walk_parts i None s = bar i s
walk_parts i (Some acts) s = walk_all acts s

-- the item at which the walk stands, and what follows; go is for what stands inside
abbrev pub script_by : Env → Test → Script → Option CertItem → Values → Bool → Term → Term → WalkAct
script_by E q go (Some Same) V equal a b s = if same a b || sorts_at q equal a b then pass tt (past s) else bar_here s
script_by E q go (Some (Left (suc n))) V equal a b s = walk_on (walk_steps E V s.at (suc n) a (past s)) (λ x v. go V equal x b v)
script_by E q go (Some (Right (suc n))) V equal a b s = walk_on (walk_steps E V s.at (suc n) b (past s)) (λ y v. go V equal a y v)
script_by E q go (Some Parts) V equal a b s = walk_parts s.at (parts_of go V equal a b) (past s)
script_by E q go _ V equal a b s = bar_here s

-- with a number of rules that may still stand in one another
unfoldable pub script : Items → Env → Test → ℕ → Script
script cert E q zero V equal a b s = crowded
script cert E q (suc n) V equal a b s = script_by E q (script cert E q n) (slice_get cert s.at) V equal a b s
