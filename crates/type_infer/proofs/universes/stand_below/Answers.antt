use Rattle.std.proofs.Common.{◌∙◌, sym}
use Rattle.pc_rules.specs.DirectedComparison.{compare}
use Rattle.pc_rules.specs.Entailment.{test_of}
use Rattle.pc_rules.proofs.SameTrees.{same_yes, same_no}
use Rattle.type_infer.proofs.Sorts.{entered_same, entered_below, entered_not_below}
use Rattle.type_infer.proofs.universes.stand_below.Goals as goal

pub returns-then-same : goal.returns-then-same
returns-then-same c = record { answers = λ d k u. entered_same c.args.env.now (test_of c.args.env.now) (compare c.args.env.now (test_of c.args.env.now) k) d c.args.a.now c.args.b.now u (same_yes _ _ c.same.result c.same.ensures.is c.if-same.true) }

pub returns-then-entails : goal.returns-then-entails
returns-then-entails c =
    let apart = same_no _ _ c.same.result c.same.ensures.is c.if-same.false in
    record { answers = λ d k u. entered_below c.args.env.now (test_of c.args.env.now) (compare c.args.env.now (test_of c.args.env.now) k) d c.args.s.now c.args.t.now u c.requires.left c.requires.right apart (sym c.entails.ensures.test ∙ c.if-entails.true) }

pub returns : goal.returns
returns c =
    let apart = same_no _ _ c.same.result c.same.ensures.is c.if-same.false in
    record {
      answers = λ d k u. rw (c.in_ok-low.ensures.ok, c.in_ok-share.ensures.value, c.in_ok-high.ensures.ok, c.in_ok-share-2.ensures.value) (entered_not_below c.args.env.now (test_of c.args.env.now) (compare c.args.env.now (test_of c.args.env.now) k) d c.args.s.now c.args.t.now u c.requires.left c.requires.right apart
          (sym c.entails.ensures.test ∙ c.if-entails.false));
    }
