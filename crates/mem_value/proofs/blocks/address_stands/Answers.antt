use Rattle.std.proofs.Common.{◌≡◌, ◌+◌, ◌-◌, ℕ, List, Bool, true, false, replicate, set, ap, subst, arith, rules}
use Rattle.mem_value.specs.Marks.{IsSearched}
use Rattle.mem_value.proofs.Standing.{searched_stands}
use Rattle.mem_value.proofs.Searching.{search_starts}
use Rattle.mem_value.proofs.blocks.address_stands.Goals as goal

pub loop-passed-init : goal.loop-passed-init
loop-passed-init c =
    let e : c.in_ok-marks.marks.items ≡ replicate (c.args.top + 1) false = search rules in
    search_starts c.args.memory.now c.args.top (c.args.top - 0) (set c.in_ok-marks.marks.items c.args.top true) (ap (λ (l : List Bool). set l c.args.top true) e) (omega arith)

pub returns-then-not-pass : goal.returns-then-not-pass
returns-then-not-pass c = record { is = c.pass.ensures.ends c.args.top (cc) c.loop-passed.invariant }

pub loop-passed-preserved : goal.loop-passed-preserved
loop-passed-preserved c = c.pass.ensures.goes c.args.top (c.args.top - (c.loop-passed.passed + 1)) (omega arith) (cc) c.loop-passed.invariant

pub returns : goal.returns
returns c =
    let e : c.args.top - c.loop-passed.passed ≡ 0 = omega arith in
    record { is = searched_stands c.args.memory.now c.args.top c.loop-passed.marks.items c.requires.there (subst (λ (n : ℕ). IsSearched c.args.memory.now c.args.top n c.loop-passed.marks.items) e c.loop-passed.invariant) }
