use Rattle.std.proofs.Common.{rules, arith, ◌≡◌, ◌-◌, length, reverse, Some, None, sym, ap, ◌∙◌}
use Rattle.std.specs.Prelude.{nat_eq}
use Rattle.std.specs.HashMap.{get}
use Rattle.std.proofs.lemmas.Grind.{common_steps}
use Rattle.std.proofs.lemmas.List.{length-reverse}
use Rattle.closure_lift.specs.Lift.{Holds, position}
use Rattle.closure_lift.proofs.Placing.{place_is, place_none}
use Rattle.closure_lift.proofs.frame.Frame.word_place.Goals as goal

pub overflow_sub-result-in-Some : goal.overflow_sub-result-in-Some
overflow_sub-result-in-Some c =
    let items = c.self.inside.held.items in
    let n : c.len.result ≡ length items = search rules in
    let f : get nat_eq c.self.inside.places c.args.word ≡ Some c.in-Some.place.now = grind (arith, common_steps) in
    let r = place_is c.args.word (reverse items) c.in-Some.place.now (sym (c.self.invariant.at c.args.word) ∙ f) in
    let b = r.below in
    let l = length-reverse items in
    omega arith

pub returns-in-Some : goal.returns-in-Some
returns-in-Some c =
    let items = c.self.inside.held.items in
    let n : c.len.result ≡ length items = search rules in
    let f : get nat_eq c.self.inside.places c.args.word ≡ Some c.in-Some.place.now = grind (arith, common_steps) in
    let r = place_is c.args.word (reverse items) c.in-Some.place.now (sym (c.self.invariant.at c.args.word) ∙ f) in
    record { is = ap (λ k. k - 1 - c.in-Some.place.now) (n ∙ sym (length-reverse items)) ∙ sym r.at ∙ ap (position (Holds c.args.word)) c.self.view_is }

pub returns-in-None : goal.returns-in-None
returns-in-None c =
    let items = c.self.inside.held.items in
    let n : c.len-in-None.result ≡ length items = search rules in
    let f : get nat_eq c.self.inside.places c.args.word ≡ None = grind (arith, common_steps) in
    record { is = n ∙ sym (length-reverse items) ∙ sym (place_none c.args.word (reverse items) (sym (c.self.invariant.at c.args.word) ∙ f)) ∙ ap (position (Holds c.args.word)) c.self.view_is }
