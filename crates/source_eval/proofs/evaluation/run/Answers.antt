use Rattle.std.proofs.lemmas.Result.{err_from_is_err_and}
use Rattle.pc_rules.specs.DirectedEvaluation.{evaluation}
use Rattle.pc_rules.proofs.FairSearch.{evaluate_leaves}
use Rattle.pc_rules.proofs.Meters.{after-refl, no_more}
use Rattle.source_eval.proofs.Ending.{spent_follows, settled, after_node, fault_follows, memory_follows, passed, value_follows, stuck_follows, value_is, stuck_valueless, fault_not_stuck}
use Rattle.source_eval.proofs.Lefts.{node_left}
use Rattle.source_eval.proofs.evaluation.run.Goals as goal

pub returns-then-not-tick-clause-follows : goal.returns-then-not-tick-clause-follows
returns-then-not-tick-clause-follows c =
    spent_follows (evaluation c.args.env.now c.args.t.now c.args.m.now.account) c.args.env.now c.nodes.machine.frames.items c.nodes.next c.args.m.now c.nodes.m c.tick.new.self
    c.nodes.invariant.leads c.nodes.invariant.after (no_more c.tick.result c.nodes.m.account.left c.tick.ensures.was c.if-not-tick.true) c.tick.ensures.account c.tick.ensures.nest

pub returns-in_err-next-clause-follows : goal.returns-in_err-next-clause-follows
returns-in_err-next-clause-follows c =
    let p = err_from_is_err_and c.from_residual.result c.from_residual.ensures.1 in
    rw (p.1, p.2) (memory_follows (evaluation c.args.env.now c.args.t.now c.args.m.now.account) c.in_err-next.field-0.0 c.args.m.now c.args.m.now c.in_err-next.ensures.only_memory
    (after-refl c.args.m.now) (evaluate_leaves c.args.env.now c.args.m.now.account.left c.args.t.now c.args.m.now.account))

pub returns-in_err-settled-clause-follows : goal.returns-in_err-settled-clause-follows
returns-in_err-settled-clause-follows c =
    let p = err_from_is_err_and c.from_residual-in_err-settled.result c.from_residual-in_err-settled.ensures.1 in
    rw (p.1, p.2) (fault_follows (evaluation c.args.env.now c.args.t.now c.args.m.now.account) c.in_err-settled.field-0.0 c.args.m.now c.tick.new.self
    (λ e. passed (evaluation c.args.env.now c.args.t.now c.args.m.now.account) c.args.env.now c.nodes.machine.frames.items c.nodes.next c.in_ok-found.found c.nodes.m.account
    c.tick.new.self.account c.nodes.invariant.leads (c.tick.ensures.was.0 c.if-not-tick.false) c.tick.ensures.account c.in_ok-found.ensures.ok
    (c.in_err-settled.ensures.too_deep e))
    (after_node c.args.m.now c.nodes.m c.tick.new.self c.nodes.invariant.after c.tick.ensures.account c.tick.ensures.nest)
    (node_left (evaluation c.args.env.now c.args.t.now c.args.m.now.account) c.args.env.now c.nodes.machine.frames.items c.nodes.next c.nodes.m.account
    c.tick.new.self.account c.nodes.invariant.leads (c.tick.ensures.was.0 c.if-not-tick.false) c.tick.ensures.account))

pub returns-in_err-found-clause-follows : goal.returns-in_err-found-clause-follows
returns-in_err-found-clause-follows c =
    let p = err_from_is_err_and c.from_residual-in_err-found.result c.from_residual-in_err-found.ensures.1 in
    rw (p.1, p.2) (memory_follows (evaluation c.args.env.now c.args.t.now c.args.m.now.account) c.in_err-found.field-0.0 c.args.m.now c.tick.new.self c.in_err-found.ensures.only_memory
    (after_node c.args.m.now c.nodes.m c.tick.new.self c.nodes.invariant.after c.tick.ensures.account c.tick.ensures.nest)
    (node_left (evaluation c.args.env.now c.args.t.now c.args.m.now.account) c.args.env.now c.nodes.machine.frames.items c.nodes.next c.nodes.m.account
    c.tick.new.self.account c.nodes.invariant.leads (c.tick.ensures.was.0 c.if-not-tick.false) c.tick.ensures.account))

pub nodes-preserved : goal.nodes-preserved
nodes-preserved c =
    let s = settled (evaluation c.args.env.now c.args.t.now c.args.m.now.account) c.args.env.now c.nodes.machine.frames.items c.settle.new.self.frames.items c.nodes.next
    c.in_ok-found.found c.in_ok-settled.settled c.nodes.m.account c.tick.new.self.account c.nodes.invariant.leads (c.tick.ensures.was.0 c.if-not-tick.false)
    c.tick.ensures.account c.in_ok-found.ensures.ok c.in_ok-settled.ensures.ok in
    record {
      leads = rw c.in-Enter.is at s;
      after = after_node c.args.m.now c.nodes.m c.tick.new.self c.nodes.invariant.after c.tick.ensures.account c.tick.ensures.nest;
    }

pub returns-in-Value-clause-follows : goal.returns-in-Value-clause-follows
returns-in-Value-clause-follows c =
    let s = settled (evaluation c.args.env.now c.args.t.now c.args.m.now.account) c.args.env.now c.nodes.machine.frames.items c.settle.new.self.frames.items c.nodes.next
    c.in_ok-found.found c.in_ok-settled.settled c.nodes.m.account c.tick.new.self.account c.nodes.invariant.leads (c.tick.ensures.was.0 c.if-not-tick.false)
    c.tick.ensures.account c.in_ok-found.ensures.ok c.in_ok-settled.ensures.ok in
    let l = rw c.in-Value.is at s in
    value_follows (evaluation c.args.env.now c.args.t.now c.args.m.now.account) c.in-Value.value c.args.m.now c.tick.new.self l
    (after_node c.args.m.now c.nodes.m c.tick.new.self c.nodes.invariant.after c.tick.ensures.account c.tick.ensures.nest)

pub returns-in-Value-clause-value : goal.returns-in-Value-clause-value
returns-in-Value-clause-value c =
    let s = settled (evaluation c.args.env.now c.args.t.now c.args.m.now.account) c.args.env.now c.nodes.machine.frames.items c.settle.new.self.frames.items c.nodes.next
    c.in_ok-found.found c.in_ok-settled.settled c.nodes.m.account c.tick.new.self.account c.nodes.invariant.leads (c.tick.ensures.was.0 c.if-not-tick.false)
    c.tick.ensures.account c.in_ok-found.ensures.ok c.in_ok-settled.ensures.ok in
    let l = rw c.in-Value.is at s in
    value_is c.args.env.now c.args.t.now c.in-Value.value c.args.m.now.account c.tick.new.self.account l

pub returns-in-Stuck-clause-follows : goal.returns-in-Stuck-clause-follows
returns-in-Stuck-clause-follows c =
    let s = settled (evaluation c.args.env.now c.args.t.now c.args.m.now.account) c.args.env.now c.nodes.machine.frames.items c.settle.new.self.frames.items c.nodes.next
    c.in_ok-found.found c.in_ok-settled.settled c.nodes.m.account c.tick.new.self.account c.nodes.invariant.leads (c.tick.ensures.was.0 c.if-not-tick.false)
    c.tick.ensures.account c.in_ok-found.ensures.ok c.in_ok-settled.ensures.ok in
    let l = rw c.in-Stuck.is at s in
    stuck_follows (evaluation c.args.env.now c.args.t.now c.args.m.now.account) c.in-Stuck.term c.args.m.now c.tick.new.self l
    (after_node c.args.m.now c.nodes.m c.tick.new.self c.nodes.invariant.after c.tick.ensures.account c.tick.ensures.nest)

pub returns-in_err-settled-clause-stuck : goal.returns-in_err-settled-clause-stuck
returns-in_err-settled-clause-stuck c =
    let p = err_from_is_err_and c.from_residual-in_err-settled.result c.from_residual-in_err-settled.ensures.1 in
    rw (p.1, p.2) (fault_not_stuck c.args.env.now c.args.t.now c.in_err-settled.field-0.0)

pub returns-in_err-found-clause-stuck : goal.returns-in_err-found-clause-stuck
returns-in_err-found-clause-stuck c =
    let p = err_from_is_err_and c.from_residual-in_err-found.result c.from_residual-in_err-found.ensures.1 in
    rw (p.1, p.2) (fault_not_stuck c.args.env.now c.args.t.now c.in_err-found.field-0.0)

pub returns-in_err-next-clause-stuck : goal.returns-in_err-next-clause-stuck
returns-in_err-next-clause-stuck c =
    let p = err_from_is_err_and c.from_residual.result c.from_residual.ensures.1 in
    rw (p.1, p.2) (fault_not_stuck c.args.env.now c.args.t.now c.in_err-next.field-0.0)

pub returns-in-Stuck-clause-stuck : goal.returns-in-Stuck-clause-stuck
returns-in-Stuck-clause-stuck c =
    let s = settled (evaluation c.args.env.now c.args.t.now c.args.m.now.account) c.args.env.now c.nodes.machine.frames.items c.settle.new.self.frames.items c.nodes.next
    c.in_ok-found.found c.in_ok-settled.settled c.nodes.m.account c.tick.new.self.account c.nodes.invariant.leads (c.tick.ensures.was.0 c.if-not-tick.false)
    c.tick.ensures.account c.in_ok-found.ensures.ok c.in_ok-settled.ensures.ok in
    let l = rw c.in-Stuck.is at s in
    stuck_valueless c.args.env.now c.args.t.now c.in-Stuck.term c.args.m.now.account c.tick.new.self.account l
