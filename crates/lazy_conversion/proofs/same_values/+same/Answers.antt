use Rattle.std.proofs.Common.{rules, arith, ◌≡◌, ◌∙◌, sym, ap, refl, inl, ◌<◌, ◌+◌, ◌*◌, length, false, subst as along}
use Rattle.std.proofs.lemmas.Result.{err_from_is_err_and}
use Rattle.trees.specs.Measures.{IsBeyond}
use Rattle.pc_terms.specs.Syntax.{Term, args}
use Rattle.calculus_rules.specs.Same.{same}
use Rattle.reduce_machine.specs.Seen.{seen_term, argument_term}
use Rattle.reduce_machine.specs.Layers.{IsMatchNode}
use Rattle.lazy_conversion.specs.Sound.{size_of}
use Rattle.lazy_conversion.specs.Stuck.{match_of}
use Rattle.lazy_conversion.proofs.Comparables.{argument_seen, argument_smaller, value_smaller}
use Rattle.lazy_conversion.proofs.Deepening.{answered}
use Rattle.lazy_conversion.proofs.Limits.{heads_beyond, arguments_beyond, scrutinee_beyond}
use Rattle.lazy_conversion.proofs.ValueHeads.{match_around}
use Rattle.lazy_conversion.proofs.SameSpines.{no_answer, yes_answer, denied, answer_along, fault_where, beyond_along, same_spine, other_count, other_head, other_argument, item_at, same_next, same_end, other_around, same_scrutinees}
use Rattle.lazy_conversion.proofs.same_values.+same.Goals as goal

-- arguments

pub same_arguments-returns-in-Lazy-Lazy-clause-ok : goal.same_arguments-returns-in-Lazy-Lazy-clause-ok
same_arguments-returns-in-Lazy-Lazy-clause-ok t c =
    answer_along _ _ _ _ c.same_lazies.result (sym (ap argument_term c.in-Lazy-Lazy.is-0)) (sym (ap argument_term c.in-Lazy-Lazy.is-1)) c.same_lazies.ensures.ok

pub same_arguments-returns-in-Lazy-Lazy-clause-too_deep : goal.same_arguments-returns-in-Lazy-Lazy-clause-too_deep
same_arguments-returns-in-Lazy-Lazy-clause-too_deep t c =
    fault_where _ _ c.same_lazies.result (beyond_along _ _ _ _ (sym (ap argument_term c.in-Lazy-Lazy.is-0)) (sym (ap argument_term c.in-Lazy-Lazy.is-1))) c.same_lazies.ensures.too_deep

pub same_arguments-same_seen-requires : goal.same_arguments-same_seen-requires
same_arguments-same_seen-requires t c =
    let d : length c.in-Value-Value.x.below.now * 3 + 1 < size_of c.args.a = value_smaller _ _ c.in-Value-Value.is-0 in
    (omega (arith, d), (rw c.in-Value-Value.is-0 at c.requires.left, rw c.in-Value-Value.is-1 at c.requires.right))

pub same_arguments-returns-in-Value-Value-clause-ok : goal.same_arguments-returns-in-Value-Value-clause-ok
same_arguments-returns-in-Value-Value-clause-ok t c =
    answer_along _ _ _ _ c.same_seen.result (sym (ap argument_term c.in-Value-Value.is-0)) (sym (ap argument_term c.in-Value-Value.is-1)) c.same_seen.ensures.ok

pub same_arguments-returns-in-Value-Value-clause-too_deep : goal.same_arguments-returns-in-Value-Value-clause-too_deep
same_arguments-returns-in-Value-Value-clause-too_deep t c =
    fault_where _ _ c.same_seen.result (beyond_along _ _ _ _ (sym (ap argument_term c.in-Value-Value.is-0)) (sym (ap argument_term c.in-Value-Value.is-1))) c.same_seen.ensures.too_deep

-- values

pub same_seen-returns-then-count-clause-ok : goal.same_seen-returns-then-count-clause-ok
same_seen-returns-then-count-clause-ok t c = no_answer false refl (other_count _ _ (λ e. search (rules, e)))

pub same_seen-returns-then-not-heads-clause-ok : goal.same_seen-returns-then-not-heads-clause-ok
same_seen-returns-then-not-heads-clause-ok t c =
    no_answer false refl (other_head _ _ (denied c.in_ok-heads.heads c.if-not-heads.true c.in_ok-heads.ensures.ok))

pub same_seen-same_arguments-requires : goal.same_seen-same_arguments-requires
same_seen-same_arguments-requires t c =
    let d : size_of c.argument-left.result < length c.args.x.below.now * 3 + 1 = argument_smaller c.args.x c.argument-left.result c.argument-left.ensures.inner in
    (omega (arith, d), (argument_seen c.args.x c.argument-left.result c.argument-left.ensures.inner, argument_seen c.args.y c.argument-right.result c.argument-right.ensures.inner))

pub same_seen-returns-in_err-same-clause-too_deep : goal.same_seen-returns-in_err-same-clause-too_deep
same_seen-returns-in_err-same-clause-too_deep t c =
    let p = err_from_is_err_and c.from_residual-in_err-same.result c.from_residual-in_err-same.ensures.1 in
    let h : c.loop-i.i < length (args (seen_term c.args.x)) = grind arith in
    let k : c.loop-i.i < length (args (seen_term c.args.y)) = grind arith in
    rw (p.1, p.2) (λ e. arguments_beyond (seen_term c.args.x) (seen_term c.args.y) c.loop-i.i _ _ h k (item_at (args (seen_term c.args.x)) c.loop-i.i _ c.argument-left.ensures.is) (item_at (args (seen_term c.args.y)) c.loop-i.i _ c.argument-right.ensures.is) (c.in_err-same.ensures.too_deep e))

pub same_seen-returns-then-not-same-clause-ok : goal.same_seen-returns-then-not-same-clause-ok
same_seen-returns-then-not-same-clause-ok t c =
    no_answer false refl (other_argument _ _ _ _ c.loop-i.i c.argument-left.ensures.is c.argument-right.ensures.is (denied c.in_ok-same.same c.if-not-same.true c.in_ok-same.ensures.ok))

pub same_seen-loop-i-preserved : goal.same_seen-loop-i-preserved
same_seen-loop-i-preserved t c =
    let h : c.loop-i.i < length (args (seen_term c.args.x)) = grind arith in
    let k : c.loop-i.i < length (args (seen_term c.args.y)) = grind arith in
    let e : argument_term c.argument-left.result ≡ argument_term c.argument-right.result = c.in_ok-same.ensures.ok.0 c.if-not-same.false in
    record {
      rest = λ f. c.loop-i.invariant.rest (same_next _ _ c.loop-i.i _ _ h k c.argument-left.ensures.is c.argument-right.ensures.is e f);
      left = c.loop-i.invariant.left;
      right = c.loop-i.invariant.right;
      heads = c.loop-i.invariant.heads;
    }

pub same_seen-returns-clause-ok : goal.same_seen-returns-clause-ok
same_seen-returns-clause-ok t c =
    let h = c.loop-i.invariant in
    yes_answer _ refl (same_spine _ _ h.heads (h.rest (same_end _ _ c.loop-i.i (grind arith) (grind arith))))

-- heads

pub same_heads-returns-in_default-clause-too_deep : goal.same_heads-returns-in_default-clause-too_deep
same_heads-returns-in_default-clause-too_deep t c =
    fault_where _ _ c.same_plain.result (heads_beyond (seen_term c.args.x) (seen_term c.args.y) _ _ refl refl) c.same_plain.ensures.too_deep

pub same_heads-returns-in_default-stuck_match-clause-ok : goal.same_heads-returns-in_default-stuck_match-clause-ok
same_heads-returns-in_default-stuck_match-clause-ok t c =
    let e = rw c.in-Some.is at c.stuck_match.ensures.is in
    let n = rw c.in_default-stuck_match.is at c.stuck_match-2.ensures.is in
    no_answer false refl (λ p. n (along (λ t. IsMatchNode t) (sym e ∙ p) tt))

pub same_heads-same_stuck-requires : goal.same_heads-same_stuck-requires
same_heads-same_stuck-requires t c =
    let i = rw c.in-Some.is at c.stuck_match.ensures.scrut in
    let j = rw c.in-Some-stuck_match.is at c.stuck_match-2.ensures.scrut in
    (omega (arith, i.shorter), (i.seen, j.seen))

pub same_heads-returns-clause-ok : goal.same_heads-returns-clause-ok
same_heads-returns-clause-ok t c =
    let e = rw c.in-Some.is at c.stuck_match.ensures.is in
    let d = rw c.in-Some-stuck_match.is at c.stuck_match-2.ensures.is in
    answer_along _ _ _ _ c.same_stuck.result (sym e) (sym d) c.same_stuck.ensures.ok

pub same_heads-returns-clause-too_deep : goal.same_heads-returns-clause-too_deep
same_heads-returns-clause-too_deep t c =
    let e = rw c.in-Some.is at c.stuck_match.ensures.is in
    let d = rw c.in-Some-stuck_match.is at c.stuck_match-2.ensures.is in
    fault_where _ _ c.same_stuck.result (heads_beyond (seen_term c.args.x) (seen_term c.args.y) _ _ e d) c.same_stuck.ensures.too_deep

-- matches

pub same_stuck-returns-in_err-around-clause-too_deep : goal.same_stuck-returns-in_err-around-clause-too_deep
same_stuck-returns-in_err-around-clause-too_deep t c =
    let p = err_from_is_err_and c.from_residual.result c.from_residual.ensures.1 in
    let h = c.in_err-around.ensures.too_deep in
    let b = h.1 (seen_term c.args.f.scrut) (seen_term c.args.g.scrut) in
    rw (p.1, p.2) (λ e. inl (along (λ (t : Term). IsBeyond t) (match_around c.args.f) b.0))

pub same_stuck-returns-then-not-around-clause-ok : goal.same_stuck-returns-then-not-around-clause-ok
same_stuck-returns-then-not-around-clause-ok t c =
    let f = (λ j. same (sym (match_around c.args.f) j) (sym (match_around c.args.g) j)) ∙ c.in_ok-around.ensures.ok (seen_term c.args.f.scrut) (seen_term c.args.g.scrut) in
    no_answer false refl (other_around _ _ _ _ c.in_ok-around.around c.if-not-around.true f)

pub same_stuck-returns-clause-ok : goal.same_stuck-returns-clause-ok
same_stuck-returns-clause-ok t c =
    let f = (λ j. same (sym (match_around c.args.f) j) (sym (match_around c.args.g) j)) ∙ c.in_ok-around.ensures.ok (seen_term c.args.f.scrut) (seen_term c.args.g.scrut) in
    answered _ _ c.same_seen.result (λ r h. same_scrutinees _ _ _ _ c.in_ok-around.around r c.if-not-around.false f h) c.same_seen.ensures.ok

pub same_stuck-returns-clause-too_deep : goal.same_stuck-returns-clause-too_deep
same_stuck-returns-clause-too_deep t c = fault_where _ _ c.same_seen.result (scrutinee_beyond (match_of c.args.f) (match_of c.args.g)) c.same_seen.ensures.too_deep
