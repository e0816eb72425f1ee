use Rattle.std.proofs.Common.{rules, arith, ◌≡◌, ◌≤◌, ◌++◌, ◌∷◌, [], ◌+◌, length, drop, reverse, sym, ap, ◌∙◌, subst, Err}
use Rattle.std.proofs.lemmas.Grind.{common_steps}
use Rattle.std.proofs.lemmas.List.{reverse-reverse}
use Rattle.closure_lift.proofs.Converting.{ConstantsGo, starts, next_constant, no_constant, next_stands, constants_go, all_constants, all_functions, all_capture}
use Rattle.closure_lift.proofs.Walking.{refused_by}
use Rattle.closure_lift.proofs.convert.lift_constants.Goals as goal

pub loop-past-init : goal.loop-past-init
loop-past-init c = starts c.args.notes.now c.args.functions.now.items (reverse c.args.constants.now) _ (search rules) c.requires.notes

pub lift_code-requires : goal.lift_code-requires
lift_code-requires c =
    let cs = c.args.constants.now in
    let p = c.loop-past.past in
    let e = next_constant cs p c.index-constants-constants.result c.loop-past-test.true c.index-constants-constants.is in
    record {
      notes = next_stands c.args.notes.now c.args.functions.now.items (reverse cs) c.loop-past.functions.items c.loop-past.items.items c.index-constants-constants.result (drop (p + 1) (reverse cs))
          (subst (ConstantsGo c.args.notes.now c.args.functions.now.items (reverse cs) c.loop-past.functions.items c.loop-past.items.items) e c.loop-past.invariant);
    }

pub returns-in_err-body-clause-refused : goal.returns-in_err-body-clause-refused
returns-in_err-body-clause-refused c =
    let cs = c.args.constants.now in
    let p = c.loop-past.past in
    let e = next_constant cs p c.index-constants-constants.result c.loop-past-test.true c.index-constants-constants.is in
    let go = subst (ConstantsGo c.args.notes.now c.args.functions.now.items (reverse cs) c.loop-past.functions.items c.loop-past.items.items) e c.loop-past.invariant in
    let q : c.from_residual.result ≡ Err c.in_err-body.field-0.0 = search rules in
    refused_by c.from_residual.result c.in_err-body.field-0.0 q (λ r. let f = go.refuses r in f.0) c.in_err-body.ensures.refused

pub loop-past-preserved : goal.loop-past-preserved
loop-past-preserved c =
    let cs = c.args.constants.now in
    let p = c.loop-past.past in
    let k = c.index-constants-constants.result in
    let e = next_constant cs p k c.loop-past-test.true c.index-constants-constants.is in
    let go = subst (ConstantsGo c.args.notes.now c.args.functions.now.items (reverse cs) c.loop-past.functions.items c.loop-past.items.items) e c.loop-past.invariant in
    let pushed : c.push.new.self.items ≡ c.loop-past.items.items ++ record { name = k.name; body = c.in_ok-body.body } ∷ [] = grind (arith, common_steps) in
    subst (λ zs. ConstantsGo c.args.notes.now c.args.functions.now.items (reverse cs) c.lift_code.new.functions.items zs (drop (p + 1) (reverse cs))) (sym pushed)
    (constants_go c.args.notes.now c.args.functions.now.items (reverse cs) c.loop-past.functions.items c.lift_code.new.functions.items c.loop-past.items.items k (drop (p + 1) (reverse cs)) c.in_ok-body.body go c.in_ok-body.ensures.block c.in_ok-body.ensures.functions c.in_ok-body.ensures.captures)

pub returns-clause-constants : goal.returns-clause-constants
returns-clause-constants c =
    let cs = c.args.constants.now in
    let p = c.loop-past.past in
    let n : length cs ≤ p = grind arith in
    let turned : c.reverse.new.self.items ≡ reverse c.loop-past.items.items = search rules in
    c.of.ensures.is ∙ ap reverse turned ∙ reverse-reverse c.loop-past.items.items ∙ all_constants (no_constant cs p n) c.loop-past.invariant

pub returns-clause-functions : goal.returns-clause-functions
returns-clause-functions c =
    let cs = c.args.constants.now in
    let p = c.loop-past.past in
    let n : length cs ≤ p = grind arith in
    all_functions (no_constant cs p n) c.loop-past.invariant

pub returns-clause-captures : goal.returns-clause-captures
returns-clause-captures c =
    let cs = c.args.constants.now in
    let p = c.loop-past.past in
    let n : length cs ≤ p = grind arith in
    all_capture (no_constant cs p n) c.loop-past.invariant
