use Rattle.std.proofs.Common.{rules, arith, ◌≡◌, ◌+◌, ◌-◌, ◌<◌, ◌≤◌, ℕ, false, Bool, sym, ap, ◌∙◌}
use Rattle.trees.specs.Tree.{Rel}
use Rattle.trees.specs.Parallel.{put_all}
use Rattle.trees.specs.Measures.{depth, depth_limit, IsWithin}
use Rattle.box_terms.specs.BoxSyntax.{BoxTerm, BLambda}
use Rattle.box_terms.specs.BoxView.{box_of}
use Rattle.shrink_passes.specs.DeadPlaces.{flag_at}
use Rattle.shrink_passes.specs.Pruned.{wrapped}
use Rattle.shrink_passes.proofs.Flagging.{if_ok_map}
use Rattle.shrink_passes.proofs.Unwrapped.{wrapped_inside, wrapped_lambda}
use Rattle.shrink_passes.proofs.unwrapping.+unwrap.Goals as goal

pub unwrap-requires : goal.unwrap-requires
unwrap-requires t c =
    let D : ℕ → Bool = λ q. flag_at q c.args.dead.now in
    let s : ℕ → BoxTerm = put_all c.args.list.now Rel in
    let some : 0 < c.args.n = grind (arith, c.if-n-eq0.false) in
    let e : box_of c.view.result.now ≡ BLambda c.in-Lambda.b = ap box_of c.in-Lambda.is in
    let w : IsWithin (wrapped D (c.args.p + 1) (c.args.n - 1) s c.in-Lambda.b) = wrapped_inside D c.args.p c.args.n s c.args.t.now c.in-Lambda.b some (sym e ∙ c.view.ensures.is) c.requires.within in
    let less : c.args.n - 1 < c.args.n = omega arith in
    let small : c.args.p + 1 + (c.args.n - 1) ≤ depth_limit = omega (arith, c.requires.small) in
    search (rules, less, small, w)

pub made-requires : goal.made-requires
made-requires t c =
    let D : ℕ → Bool = λ q. flag_at q c.args.dead.now in
    let s : ℕ → BoxTerm = put_all c.args.list.now Rel in
    let some : 0 < c.args.n = grind (arith, c.if-n-eq0.false) in
    let e : box_of c.view.result.now ≡ BLambda c.in-Lambda.b = ap box_of c.in-Lambda.is in
    let kept : D c.args.p ≡ false = sym c.at.ensures.is ∙ c.if-at.false in
    let q : depth (wrapped D c.args.p c.args.n s c.args.t.now) ≡ depth (BLambda (wrapped D (c.args.p + 1) (c.args.n - 1) s c.in-Lambda.b)) =
    ap depth (wrapped_lambda D c.args.p c.args.n s c.args.t.now c.in-Lambda.b some (sym e ∙ c.view.ensures.is) kept) in
    let b : depth c.in_ok-body.body ≡ depth (wrapped D (c.args.p + 1) (c.args.n - 1) s c.in-Lambda.b) = ap depth c.in_ok-body.ensures.ok in
    let within = c.requires.within.0 in
    record { shallow = omega (arith, q, b, within) }

pub returns-clause-ok : goal.returns-clause-ok
returns-clause-ok t c =
    let D : ℕ → Bool = λ q. flag_at q c.args.dead.now in
    let s : ℕ → BoxTerm = put_all c.args.list.now Rel in
    let some : 0 < c.args.n = grind (arith, c.if-n-eq0.false) in
    let e : box_of c.view.result.now ≡ BLambda c.in-Lambda.b = ap box_of c.in-Lambda.is in
    let kept : D c.args.p ≡ false = sym c.at.ensures.is ∙ c.if-at.false in
    let q = wrapped_lambda D c.args.p c.args.n s c.args.t.now c.in-Lambda.b some (sym e ∙ c.view.ensures.is) kept in
    if_ok_map c.made.result (λ u h. h ∙ ap BLambda c.in_ok-body.ensures.ok ∙ sym q) c.made.ensures.ok
