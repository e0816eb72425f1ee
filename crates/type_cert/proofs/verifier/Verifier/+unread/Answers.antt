use Rattle.std.proofs.Common.{rules, arith, ◌≡◌, ◌∙◌, sym, ap, refl, subst, Some, None, true, suc, ◌-◌, ◌+◌, ◌<◌, length, slice_get, ◌∷◌, []}
use Rattle.trees.specs.Substitution.{walk}
use Rattle.pc_terms.specs.Syntax.{head, args}
use Rattle.pc_terms.specs.Lists.{walk_branch, walk_def}
use Rattle.calculus_rules.specs.Context.{values, under}
use Rattle.pc_rules.specs.Entailment.{test_of}
use Rattle.cert_rules.specs.declared.item.CertItem.TheVariants.{Same, Left, Right, Parts}
use Rattle.reduce_machine.specs.Reads.{stands_under}
use Rattle.reduce_machine.specs.Seen.{argument_term, seen_term}
use Rattle.reduce_machine.specs.Values.{term_of}
use Rattle.conversion.specs.Modes.{is_equal}
use Rattle.lazy_conversion.specs.Parts.{read_part}
use Rattle.lazy_conversion.specs.Stuck.{match_of, match_term, defs_of}
use Rattle.lazy_conversion.proofs.Comparables.{mapped_at, mapped_within}
use Rattle.lazy_conversion.proofs.Reading.{defs_count}
use Rattle.type_cert.specs.Going.{going}
use Rattle.type_cert.specs.Passes.{Passes, prefix_term}
use Rattle.type_cert.proofs.Passing.{then_passes, one_passes, next_terms, next_arms, next_types, next_bodies, bodies_along, parts_along, fix_heads_pass, matches_pass, wholes_pass, prefixes_pass, script_passes, same_item, parts_item, left_item, right_item, same_script, parts_script}
use Rattle.type_cert.proofs.verifier.Verifier.+unread.Goals as goal

-- a script, and its item

pub unread-returns : goal.unread-returns
unread-returns t c =
    let v = c.args.self.now in
    let z : v.room ≡ suc (v.room - 1) = search rules in
    record {
      passes = λ h. script_passes v.cert.now v.env.now (test_of v.env.now) (values c.args.ctx.now) (is_equal c.args.mode) (argument_term c.args.a) (argument_term c.args.b) v.room (v.room - 1) c.args.pace.now c.unread_item.new.pace z (c.unread_item.ensures.passes h);
    }

-- applications

pub applied-returns : goal.applied-returns
applied-returns t c =
    let last : c.args.n - 1 < length (args (seen_term c.args.x)) = (let a = c.requires.left_count in search rules) in
    let last' : c.args.n - 1 < length (args (seen_term c.args.y)) = (let b = c.requires.right_count in search rules) in
    let z : c.args.n ≡ (c.args.n - 1) + 1 = search rules in
    record {
      passes = λ h equal. prefixes_pass (going c.args.self.now) (values c.args.ctx.now) equal c.args.n (c.args.n - 1) (seen_term c.args.x) (seen_term c.args.y) (argument_term c.argument-left.result) (argument_term c.argument-right.result)
          c.args.pace.now c.prefix.new.pace c.unread.new.pace z last last' c.argument-left.ensures.is c.argument-right.ensures.is (c.if-not-prefix.ensures.passes refl) (c.unread.ensures.passes h);
    }

pub prefix-returns-in-Some-Parts : goal.prefix-returns-in-Some-Parts
prefix-returns-in-Some-Parts t c =
    let v = c.args.self.now in
    let z : v.room ≡ suc (v.room - 1) = search rules in
    let e : slice_get v.cert.now c.args.pace.now.at ≡ Some Parts = sym c.next_item.ensures.is ∙ c.in-Some-Parts.is ∙ ap (λ x. Some x) c.in-Some-Parts.field-0-is in
    record {
      passes = λ h. parts_script v.cert.now v.env.now (test_of v.env.now) (values c.args.ctx.now) true (prefix_term c.args.n (seen_term c.args.x)) (prefix_term c.args.n (seen_term c.args.y)) v.room (v.room - 1)
          c.args.pace.now c.next_item.new.pace c.applied.new.pace z e c.in-Some-Parts.ensures.further (c.applied.ensures.passes h true);
    }

pub prefix-returns-then-n-eq0 : goal.prefix-returns-then-n-eq0
prefix-returns-then-n-eq0 t c =
    let v = c.args.self.now in
    let z : v.room ≡ suc (v.room - 1) = search rules in
    let e : slice_get v.cert.now c.args.pace.now.at ≡ Some Same = sym c.next_item.ensures.is ∙ c.in-Some-Same.is ∙ ap (λ x. Some x) c.in-Some-Same.field-0-is in
    record {
      passes = λ h. rw c.if-n-eq0.true (same_script v.cert.now v.env.now (test_of v.env.now) (values c.args.ctx.now) true (head (seen_term c.args.x)) (head (seen_term c.args.y)) v.room (v.room - 1)
          c.args.pace.now c.next_item.new.pace z e c.in-Some-Same.ensures.further (c.are_same_heads.ensures.same h));
    }

-- products and lambdas

pub unread_binders-returns : goal.unread_binders-returns
unread_binders-returns t c =
    let V = values c.args.ctx.now in
    record {
      passes = λ h.
          let g = rw c.in-Ok.ensures.longer at c.unread_part-2.ensures.passes h in
          then_passes (going c.args.self.now V true (read_part c.args.f.domain) (read_part c.args.g.domain)) (going c.args.self.now (None ∷ V) (is_equal c.args.mode) (read_part c.args.f.body) (read_part c.args.g.body) ∷ [])
          c.args.pace.now c.unread_part.new.pace c.unread_part-2.new.pace (c.if-not-unread_part.ensures.passes refl) (one_passes _ _ _ g);
    }

-- lists

pub unread_arms-loop-i-preserved : goal.unread_arms-loop-i-preserved
unread_arms-loop-i-preserved t c =
    let xs = c.args.f.outer.now.branches in
    let ys = c.args.g.outer.now.branches in
    let f = walk_branch (stands_under c.args.f.env.now.items) 0 in
    let g = walk_branch (stands_under c.args.g.env.now.items) 0 in
    let ik : c.loop-i.i < length xs = grind arith in
    let il : c.loop-i.i < length ys = grind arith in
    let h = rw (c.arm_part-left.ensures.is, c.arm_part-right.ensures.is) at c.if-not-unread_part.ensures.passes refl in
    let b : c.index-xs-i.result.binders ≡ c.index-ys-i.result.binders = search rules in
    λ o q r. c.loop-i.invariant o q (next_arms (going c.args.self.now) (values c.args.ctx.now) (match_of c.args.f).branches (match_of c.args.g).branches c.loop-i.i (f c.index-xs-i.result) (g c.index-ys-i.result) (values c.in-Ok.inner)
    c.loop-i.pace c.unread_part.new.pace q o (mapped_within f xs c.loop-i.i ik) (mapped_within g ys c.loop-i.i il) (mapped_at f xs c.loop-i.i c.index-xs-i.result ik (cc)) (mapped_at g ys c.loop-i.i c.index-ys-i.result il (cc)) b c.in-Ok.ensures.longer h r)

pub unread_params-loop-i-preserved : goal.unread_params-loop-i-preserved
unread_params-loop-i-preserved t c =
    let xs = c.args.f.outer.now.params in
    let ys = c.args.g.outer.now.params in
    let f = walk (stands_under c.args.f.env.now.items) 0 in
    let g = walk (stands_under c.args.g.env.now.items) 0 in
    let ik : c.loop-i.i < length xs = grind arith in
    let il : c.loop-i.i < length ys = grind arith in
    λ o q r. c.loop-i.invariant o q (next_terms (going c.args.self.now) (values c.args.ctx.now) (match_of c.args.f).params (match_of c.args.g).params c.loop-i.i (f c.index-xs-i.result) (g c.index-ys-i.result)
    c.loop-i.pace c.unread_part.new.pace q o (mapped_within f xs c.loop-i.i ik) (mapped_within g ys c.loop-i.i il) (mapped_at f xs c.loop-i.i c.index-xs-i.result ik (cc)) (mapped_at g ys c.loop-i.i c.index-ys-i.result il (cc)) (c.if-not-unread_part.ensures.passes refl) r)

pub unread_types-loop-i-preserved : goal.unread_types-loop-i-preserved
unread_types-loop-i-preserved t c =
    let xs = c.args.f.defs.now in
    let ys = c.args.g.defs.now in
    let f = walk_def (stands_under c.args.f.env.now.items) 0 (length xs) in
    let g = walk_def (stands_under c.args.g.env.now.items) 0 (length ys) in
    let ik : c.loop-i.i < length xs = grind arith in
    let il : c.loop-i.i < length ys = grind arith in
    λ o q r. c.loop-i.invariant o q (next_types (going c.args.self.now) (values c.args.ctx.now) (defs_of c.args.f) (defs_of c.args.g) c.loop-i.i (f c.index-xs-i.result) (g c.index-ys-i.result)
    c.loop-i.pace c.unread_part.new.pace q o (mapped_within f xs c.loop-i.i ik) (mapped_within g ys c.loop-i.i il) (mapped_at f xs c.loop-i.i c.index-xs-i.result ik (cc)) (mapped_at g ys c.loop-i.i c.index-ys-i.result il (cc)) (c.if-not-unread_part.ensures.passes refl) r)

pub unread_bodies-loop-i-preserved : goal.unread_bodies-loop-i-preserved
unread_bodies-loop-i-preserved t c =
    let xs = c.args.f.defs.now in
    let ys = c.args.g.defs.now in
    let f = walk_def (stands_under c.args.f.env.now.items) 0 (length xs) in
    let g = walk_def (stands_under c.args.g.env.now.items) 0 (length ys) in
    let ik : c.loop-i.i < length xs = grind arith in
    let il : c.loop-i.i < length ys = grind arith in
    let n : length c.as_slice-xs.result.now ≡ length xs = ap length c.as_slice-xs.ensures.is in
    let k : length c.as_slice-xs.result.now ≡ length ys = search rules in
    let same_count : length (defs_of c.args.f) ≡ length (defs_of c.args.g) = defs_count c.args.f ∙ sym n ∙ k ∙ sym (defs_count c.args.g) in
    let w = c.in-Ok.ensures.longer ∙ ap (λ m. under m (values c.args.ctx.now)) (n ∙ sym (defs_count c.args.f)) in
    let h = bodies_along (going c.args.self.now) (values c.in-Ok.inner) (stands_under c.args.f.env.now.items) (stands_under c.args.g.env.now.items) c.index-xs-i.result c.index-ys-i.result
    (length c.as_slice-xs.result.now) (length xs) (length ys) _ _ c.loop-i.pace c.unread_part.new.pace c.body_part-left.ensures.is c.body_part-right.ensures.is n k (c.if-not-unread_part.ensures.passes refl) in
    λ o q r. c.loop-i.invariant o q (next_bodies (going c.args.self.now) (values c.args.ctx.now) (length (defs_of c.args.f)) (length (defs_of c.args.g)) (defs_of c.args.f) (defs_of c.args.g) c.loop-i.i
    (f c.index-xs-i.result) (g c.index-ys-i.result) (values c.in-Ok.inner) c.loop-i.pace c.unread_part.new.pace q o same_count (mapped_within f xs c.loop-i.i ik) (mapped_within g ys c.loop-i.i il)
    (mapped_at f xs c.loop-i.i c.index-xs-i.result ik (cc)) (mapped_at g ys c.loop-i.i c.index-ys-i.result il (cc)) w h r)

-- heads

pub unread_heads-returns-in-Some : goal.unread_heads-returns-in-Some
unread_heads-returns-in-Some t c = record {
  passes = λ h equal. parts_along (going c.args.self.now) (values c.args.ctx.now) equal (head (seen_term c.args.x)) (head (seen_term c.args.y)) (match_term c.in-Some.f) (match_term c.in-Some-stuck_match.g)
      c.args.pace.now c.unread_matches.new.pace c.in-Some.ensures.is c.in-Some-stuck_match.ensures.is (c.unread_matches.ensures.passes h equal);
}

pub unread_heads-returns : goal.unread_heads-returns
unread_heads-returns t c =
    let i = c.in-Some-fixpoint.ensures.is in
    let j = c.in-Some-fixpoint-2.ensures.is in
    record {
      passes = λ h equal. fix_heads_pass (going c.args.self.now) (values c.args.ctx.now) equal (head (seen_term c.args.x)) (head (seen_term c.args.y)) (defs_of c.in-Some-fixpoint.f) (defs_of c.in-Some-fixpoint-2.g) i.0 j.0 _
          c.args.pace.now c.unread_types.new.pace c.unread_bodies.new.pace i.1 j.1 c.if-not-fit.ensures.is (c.if-not-unread_types.ensures.passes refl) (c.unread_bodies.ensures.passes h);
    }

pub unread_matches-returns : goal.unread_matches-returns
unread_matches-returns t c =
    let b : c.args.f.outer.now.binders ≡ c.args.g.outer.now.binders = search rules in
    record {
      passes = λ h equal. matches_pass (going c.args.self.now) (values c.args.ctx.now) equal (match_of c.args.f) (match_of c.args.g)
          c.args.pace.now c.unread_params.new.pace c.unread_predicates.new.pace c.unread.new.pace c.unread_arms.new.pace (sym c.if-not-same_families.ensures.is) b
          (c.if-not-unread_params.ensures.passes refl) (c.if-not-unread_predicates.ensures.passes refl) (c.if-not-unread.ensures.passes refl) (c.unread_arms.ensures.passes h);
    }

pub unread_spines-returns : goal.unread_spines-returns
unread_spines-returns t c =
    let e : c.count-other.result ≡ c.count-count.result = search rules in
    record {
      passes = λ h equal. wholes_pass (going c.args.self.now) (values c.args.ctx.now) equal c.count-count.result (seen_term c.args.x) (seen_term c.args.y) c.args.pace.now c.applied.new.pace
          c.count-count.ensures.is (sym e ∙ c.count-other.ensures.is) (c.applied.ensures.passes h equal);
    }

-- parts

pub unread_part-returns-in-Some-Same : goal.unread_part-returns-in-Some-Same
unread_part-returns-in-Some-Same t c = record { passes = λ h. c.same_part.ensures.passes h (values c.args.ctx.now) (is_equal c.args.mode) }

-- items

pub unread_item-returns-in-Some-Same : goal.unread_item-returns-in-Some-Same
unread_item-returns-in-Some-Same t c =
    let v = c.args.self.now in
    let e : slice_get v.cert.now c.args.pace.now.at ≡ Some Same = sym c.next_item.ensures.is ∙ c.in-Some-Same.is ∙ ap (λ x. Some x) c.in-Some-Same.field-0-is in
    record {
      passes = λ h. same_item v.env.now (test_of v.env.now) (going v) (values c.args.ctx.now) (is_equal c.args.mode) (argument_term c.args.a) (argument_term c.args.b) (slice_get v.cert.now c.args.pace.now.at) c.args.pace.now c.next_item.new.pace e
          c.in-Some-Same.ensures.further (c.are_same.ensures.same h);
    }

pub unread_item-returns-in-Some-Parts : goal.unread_item-returns-in-Some-Parts
unread_item-returns-in-Some-Parts t c =
    let v = c.args.self.now in
    let e : slice_get v.cert.now c.args.pace.now.at ≡ Some Parts = sym c.next_item.ensures.is ∙ c.in-Some-Parts.is ∙ ap (λ x. Some x) c.in-Some-Parts.field-0-is in
    record {
      passes = λ h. parts_item v.env.now (test_of v.env.now) (going v) (values c.args.ctx.now) (is_equal c.args.mode) (argument_term c.args.a) (argument_term c.args.b) (slice_get v.cert.now c.args.pace.now.at) c.args.pace.now c.next_item.new.pace c.unread_parts.new.pace e
          c.in-Some-Parts.ensures.further (c.unread_parts.ensures.passes h);
    }

pub unread_item-returns-in-Some : goal.unread_item-returns-in-Some
unread_item-returns-in-Some t c =
    let v = c.args.self.now in
    let e : slice_get v.cert.now c.args.pace.now.at ≡ Some (Left c.in-Some-Left.n) = sym c.next_item.ensures.is ∙ c.in-Some-Left.is ∙ ap (λ x. Some x) c.in-Some-Left.field-0-is in
    record {
      passes = λ h. left_item v.env.now (test_of v.env.now) (going v) (values c.args.ctx.now) (is_equal c.args.mode) (argument_term c.args.a) (argument_term c.args.b) (slice_get v.cert.now c.args.pace.now.at) c.in-Some-Left.n (term_of c.in-Some.left)
          c.args.pace.now c.next_item.new.pace c.stepped_value.new.pace c.unread.new.pace e c.in-Some.ensures.some c.in-Some-Left.ensures.further c.in-Some.ensures.walks c.in-Some.ensures.less
          (subst (λ x. Passes (going v (values c.args.ctx.now) (is_equal c.args.mode) x (argument_term c.args.b)) c.stepped_value.new.pace c.unread.new.pace) c.seen.ensures.term (c.unread.ensures.passes h));
    }

pub unread_item-returns-in-Some-stepped_value : goal.unread_item-returns-in-Some-stepped_value
unread_item-returns-in-Some-stepped_value t c =
    let v = c.args.self.now in
    let e : slice_get v.cert.now c.args.pace.now.at ≡ Some (Right c.in-Some-Right.n) = sym c.next_item.ensures.is ∙ c.in-Some-Right.is ∙ ap (λ x. Some x) c.in-Some-Right.field-0-is in
    record {
      passes = λ h. right_item v.env.now (test_of v.env.now) (going v) (values c.args.ctx.now) (is_equal c.args.mode) (argument_term c.args.a) (argument_term c.args.b) (slice_get v.cert.now c.args.pace.now.at) c.in-Some-Right.n (term_of c.in-Some-stepped_value.right)
          c.args.pace.now c.next_item.new.pace c.stepped_value-in-Some-Right.new.pace c.unread-in-Some-Right.new.pace e c.in-Some-stepped_value.ensures.some c.in-Some-Right.ensures.further c.in-Some-stepped_value.ensures.walks c.in-Some-stepped_value.ensures.less
          (subst (λ x. Passes (going v (values c.args.ctx.now) (is_equal c.args.mode) (argument_term c.args.a) x) c.stepped_value-in-Some-Right.new.pace c.unread-in-Some-Right.new.pace) c.seen-in-Some-Right.ensures.term (c.unread-in-Some-Right.ensures.passes h));
    }
