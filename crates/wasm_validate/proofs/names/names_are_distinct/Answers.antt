use Rattle.std.proofs.Common.{◌≡◌, ◌∙◌, Bool, true, false, not, sym, refl}
use Rattle.std.proofs.lemmas.Bool.{false≢true}
use Rattle.wasm_validate.proofs.Reading.{here}
use Rattle.wasm_validate.proofs.Naming.{listed_more, listed_twice, listed_all}
use Rattle.wasm_validate.proofs.names.names_are_distinct.Goals as goal

not_true : (b : Bool) → true ≡ not b → b ≡ false
not_true true e = e
not_true false e = refl

not_false : (b : Bool) → false ≡ not b → b ≡ true
not_false true e = refl
not_false false e = e

pub loop-at-preserved : goal.loop-at-preserved
loop-at-preserved c =
    let e = here c.args.exports.now c.loop-at.at c.index-exports-at.result c.index-exports-at.is c.loop-at-test.true in
    listed_more c.args.exports.now c.loop-at.at c.loop-at.before c.insert.new.self c.index-exports-at.result c.as_slice.result c.loop-at.invariant e c.as_slice.ensures.items (not_true _ (sym c.if-not-added.false ∙ c.in_ok-added.ensures.added)) c.in_ok-added.ensures.updates.0

pub returns-then-not-added : goal.returns-then-not-added
returns-then-not-added c =
    let e = here c.args.exports.now c.loop-at.at c.index-exports-at.result c.index-exports-at.is c.loop-at-test.true in
    record { is = (λ t. absurd (false≢true t), λ d. absurd (listed_twice c.args.exports.now c.loop-at.at c.loop-at.before c.index-exports-at.result c.as_slice.result c.loop-at.invariant e c.as_slice.ensures.items (not_false _ (sym c.if-not-added.true ∙ c.in_ok-added.ensures.added)) d)) }

pub returns : goal.returns
returns c = record { is = (λ t. listed_all c.args.exports.now c.loop-at.at c.loop-at.before c.loop-at.invariant c.loop-at-test.false, λ d. refl) }
