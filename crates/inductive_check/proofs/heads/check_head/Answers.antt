use Rattle.std.proofs.Common.{[], ◌∷◌, map}
use Rattle.std.proofs.lemmas.Result.{IfOk-weaker}
use Rattle.pc_rules.specs.DirectedTyping.{levels_declared, undeclared_in}
use Rattle.pc_rules.specs.DirectedDeclarations.{distinct_names}
use Rattle.calculus_rules.specs.Environment.{head_of}
use Rattle.pc_rules.specs.WellCounted.{AreCounted, AreCountedFamilies}
use Rattle.pc_rules.proofs.Following.{follows_halted, follows_memory}
use Rattle.pc_rules.proofs.Leaving.{leaving}
use Rattle.rule_laws.proofs.SimpleRules.{levels_are_declared, declared_over}
use Rattle.inductive_check.specs.Given.{ctor_of, family_of}
use Rattle.inductive_check.proofs.Leading.{still_bind, still_stops}
use Rattle.std.proofs.lemmas.Result.{err_from_is_err_and}
use Rattle.inductive_check.proofs.heads.check_head.Goals as goal

pub returns-in_err-are_distinct-clause-follows : goal.returns-in_err-are_distinct-clause-follows
returns-in_err-are_distinct-clause-follows g c = λ B ep.
    let m = c.args.m.now in
    let f = still_stops (distinct_names [] (map ctor_of c.args.family.now.ctors) m.account) c.in_err-are_distinct.field-0.0 m
    (rw c.as_slice.ensures.is at c.in_err-are_distinct.ensures.answers m.account) (search leaving) in
    follows_halted _ _ _ _ _ _ c.from_residual.ensures.1 f (search leaving)

pub returns-in_err-are_declared-clause-follows : goal.returns-in_err-are_declared-clause-follows
returns-in_err-are_declared-clause-follows g c = λ B ep.
    let m = c.args.m.now in
    let a1 = rw c.as_slice.ensures.is at c.in_ok-are_distinct.ensures.answers m.account in
    let a2 = rw (c.levels.ensures.value, c.graph.ensures.levels) at c.in_err-are_declared.ensures.answers m.account in
    let f = still_stops (levels_declared (undeclared_in c.args.env.now.levels c.args.family.now.sort) m.account) c.in_err-are_declared.field-0.0 m a2 (search leaving) in
    still_bind _ _ _ _ m m a1 (follows_halted _ _ _ _ _ _ c.from_residual-in_err-are_declared.ensures.1 f (search leaving))

pub returns-clause-follows : goal.returns-clause-follows
returns-clause-follows g c = λ B ep.
    let m = c.args.m.now in
    let a1 = rw c.as_slice.ensures.is at c.in_ok-are_distinct.ensures.answers m.account in
    let a2 = rw (c.levels.ensures.value, c.graph.ensures.levels) at c.in_ok-are_declared.ensures.answers m.account in
    let f = rw c.in_ok-inner.ensures.same at c.enter.ensures.follows in
    rw ep (still_bind _ _ _ _ m c.enter.new.m a1 (still_bind _ _ _ _ m c.enter.new.m a2 f))

pub returns-clause-counted : goal.returns-clause-counted
returns-clause-counted g c =
    let E = c.args.env.now in
    let F = c.args.family.now in
    let u = c.args.m.now.account in
    let a2 = rw (c.levels.ensures.value, c.graph.ensures.levels) at c.in_ok-are_declared.ensures.answers u in
    let over = declared_over E F.sort (levels_are_declared E F.sort u u a2) in
    IfOk-weaker c.enter.result (λ _. AreCounted E F.indices) (λ _. AreCountedFamilies E (head_of (family_of F) ∷ [])) (λ x h. ((h, tt, over), tt)) c.enter.ensures.counted

pub returns-in_err-inner-clause-follows : goal.returns-in_err-inner-clause-follows
returns-in_err-inner-clause-follows g c = λ B ep.
    let m = c.args.m.now in
    let a1 = rw c.as_slice.ensures.is at c.in_ok-are_distinct.ensures.answers m.account in
    let a2 = rw (c.levels.ensures.value, c.graph.ensures.levels) at c.in_ok-are_declared.ensures.answers m.account in
    let p = err_from_is_err_and c.from_residual-in_err-inner.result c.from_residual-in_err-inner.ensures.1 in
    rw (p.1, p.2, c.in_err-inner.ensures.only_memory) (still_bind _ _ _ _ m m a1 (still_bind _ _ _ _ m m a2 (follows_memory _ m (search leaving))))
