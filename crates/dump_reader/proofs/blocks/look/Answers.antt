use Rattle.std.proofs.Common.{◌≡◌, ◌+◌, ◌<◌, get_or, sym, ap, ◌∙◌, arith}
use Rattle.std.proofs.lemmas.List.Edits.{length-between, get_or-between}
use Rattle.std.proofs.lemmas.Bool.{and_parts}
use Rattle.dump_reader.specs.CountedUpTo.{is_plain}
use Rattle.dump_reader.proofs.Passing.{passes_none, passes_open, passes_close, plain_text, passes_plain, passes_is}
use Rattle.dump_reader.proofs.blocks.look.Goals as goal
use Rattle.dump_reader.proofs.blocks.look.Goals.{then-b-eq40, else-b-eq40+then-b-eq41, else-b-eq40+else-b-eq41}

pub loop-b-init : goal.loop-b-init
loop-b-init c = record { few = omega arith; passes = λ h. passes_none c.args.bytes.now c.args.at }

pub loop-b-preserved : goal.loop-b-preserved
loop-b-preserved c =
    let bytes = c.args.bytes.now in
    let at = c.args.at in
    let i = c.loop-b.b-index in
    let k = c.loop-b.closes in
    let o = c.loop-b.opens in
    let whole = length-between bytes at (at + 32) c.requires in
    let within : i < 32 = omega (arith, whole) in
    let read = get_or-between bytes at (at + 32) i 0 (omega arith) in
    let before = c.loop-b.invariant.passes in
    let seen : is_plain (get_or bytes (at + i) 0) ≡ c.is_plain-plain.result = sym (c.is_plain-plain.ensures.is ∙ ap is_plain read) in
    elim c.if-b-eq40.branch [
      | then-b-eq40 w ↦ record {
        few = omega (arith, w.opens-is, w.closes-is);
        passes = λ h.
            let both = and_parts c.loop-b.plain c.is_plain-plain.result h in
            passes_is bytes at (i + 1) (o + 1) k _ _ w.opens-is w.closes-is (passes_open bytes at i o k (omega arith) (before both.0) (sym read ∙ w.if-b-eq40.true));
      }
      | else-b-eq40+then-b-eq41 w ↦ record {
        few = omega (arith, w.opens-is, w.closes-is);
        passes = λ h.
            let both = and_parts c.loop-b.plain c.is_plain-plain.result h in
            passes_is bytes at (i + 1) o (k + 1) _ _ w.opens-is w.closes-is (passes_close bytes at i o k (omega arith) (before both.0) (sym read ∙ w.if-b-eq41.true));
      }
      | else-b-eq40+else-b-eq41 w ↦ record {
        few = omega (arith, w.opens-is, w.closes-is);
        passes = λ h.
            let both = and_parts c.loop-b.plain c.is_plain-plain.result h in
            let text = plain_text (get_or bytes (at + i) 0) (seen ∙ both.1) (λ e. w.if-b-eq40.false (read ∙ e)) (λ e. w.if-b-eq41.false (read ∙ e)) in
            passes_is bytes at (i + 1) o k _ _ w.opens-is w.closes-is (passes_plain bytes at i o k (omega arith) (before both.0) text);
      }
    ]

pub returns : goal.returns
returns c =
    let whole = length-between c.args.bytes.now c.args.at (c.args.at + 32) c.requires in
    let all : c.loop-b.b-index ≡ 32 = omega (arith, whole, c.loop-b.auto.b-index-end) in
    record { few = omega (arith, c.loop-b.invariant.few); passes = rw all at c.loop-b.invariant.passes }
