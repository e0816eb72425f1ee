use Rattle.std.proofs.Common.{◌≡◌, ◌∙◌, refl, sym, ap, [], ◌∷◌, get_or, None, arith}
use Rattle.std.proofs.lemmas.List.{drop_all}
use Rattle.universe_levels.specs.declared.level.Level.{Level}
use Rattle.pc_rules.specs.DirectedDeclarations.{first_repeated}
use Rattle.rule_laws.proofs.Environments.{distinct_levels}
use Rattle.env_check.proofs.Listed.{listed_more, new_at, repeated_at}
use Rattle.env_check.proofs.levels.check_levels.Goals as goal

pub loop-i-preserved : goal.loop-i-preserved
loop-i-preserved c =
    let ls = c.args.levels.now in
    let i = c.loop-i.i in
    let d : Level = record { 0 = 0 } in
    let l = get_or ls i d in
    let before = c.loop-i.invariant.seen in
    let added = sym c.in-Ok.ensures.added ∙ c.if-not-added.false in
    record {
      seen = l ∷ before;
      rest = c.loop-i.invariant.rest ∙ new_at ls before i d _ c.loop-i-test.true added (c.loop-i.invariant.has l.0);
      has = λ q. c.in-Ok.ensures.updates.0 q ∙ listed_more q l before _ (c.loop-i.invariant.has q);
    }

pub returns-then-not-added-clause-refused : goal.returns-then-not-added-clause-refused
returns-then-not-added-clause-refused c =
    let ls = c.args.levels.now in
    let i = c.loop-i.i in
    let d : Level = record { 0 = 0 } in
    let l = get_or ls i d in
    let before = c.loop-i.invariant.seen in
    let added = sym c.in-Ok.ensures.added ∙ c.if-not-added.true in
    ((i, l), c.loop-i.invariant.rest ∙ repeated_at ls before i d _ c.loop-i-test.true added (c.loop-i.invariant.has l.0), refl)

pub returns-clause-distinct : goal.returns-clause-distinct
returns-clause-distinct c =
    let ls = c.args.levels.now in
    let s = c.loop-i.invariant.seen in
    let e = ap (λ rest. first_repeated c.loop-i.i s rest) (drop_all c.loop-i.i ls (omega arith)) in
    let none : first_repeated 0 [] ls ≡ None = c.loop-i.invariant.rest ∙ e in
    distinct_levels ls none
