use Rattle.std.proofs.Common.{arith, ◌≡◌, ◌++◌, ◌-◌, ◌+◌, ◌<◌, ◌≤◌, ℕ, suc, List, ap, sym, ◌∙◌, decimal, codes}
use Rattle.std.proofs.lemmas.List.{append_assoc, append-nil}
use Rattle.workload.specs.WorkloadText.{next, choice, front, constant_text, constants_text, main_text}
use Rattle.workload.proofs.Pieces.{one_piece}
use Rattle.workload.proofs.text.make.Goals as goal

-- one constant more
one_more : (out out' whole : List ℕ) (n p x y : ℕ) → p < n → y ≡ next x → out' ≡ out ++ constant_text (choice y) p (p + 1) → out ++ constants_text (n - p) p x ≡ whole →
    out' ++ constants_text (n - (p + 1)) (p + 1) y ≡ whole
one_more out out' whole n p x y l e h w =
    let k : n - p ≡ suc (n - (p + 1)) = omega (arith, l) in
    rw e (one_piece out out' (constant_text (choice (next x)) p (p + 1)) (constants_text (n - (p + 1)) (p + 1) (next x)) (rw e at h) ∙ (rw k at w))

-- no constant is left
none_left : (out whole : List ℕ) (n p x : ℕ) → n ≤ p → out ++ constants_text (n - p) p x ≡ whole → out ≡ whole
none_left out whole n p x l w =
    let k : n - p ≡ 0 = omega (arith, l) in
    sym (append-nil out) ∙ (rw k at w)

pub loop-before-preserved : goal.loop-before-preserved
loop-before-preserved c =
    let l : c.loop-before.before < c.args.n = grind arith in
    one_more _ _ _ c.args.n c.loop-before.before c.loop-before.x c.next_number-x.result l c.next_number-x.ensures.is c.in_ok-put_constant.ensures.ok c.loop-before.invariant

pub returns : goal.returns
returns c =
    let l : c.args.n ≤ c.loop-before.before = grind arith in
    let made = none_left _ _ c.args.n c.loop-before.before c.loop-before.x l c.loop-before.invariant in
    let second = one_piece _ _ (decimal c.args.n) (codes ")))\n") c.in_ok-put_number.ensures.ok in
    let first = one_piece _ _ (codes "(main (tConst c") (decimal c.args.n ++ codes ")))\n") c.in_ok-put.ensures.ok in
    let behind = ap (λ t. t ++ main_text c.args.n) made ∙ append_assoc front (constants_text c.args.n 0 c.args.n) (main_text c.args.n) in
    record { is = c.in_ok-put-2.ensures.ok ∙ second ∙ first ∙ behind }
