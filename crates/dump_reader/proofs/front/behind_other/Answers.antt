use Rattle.std.proofs.Common.{arith}
use Rattle.std.proofs.lemmas.Bool.{ne_eqb}
use Rattle.dump_reader.proofs.Counting.{comment_passes, open_too_deep, open_passes, close_ends, close_passes, stray_ends}
use Rattle.dump_reader.proofs.front.behind_other.Goals as goal

pub returns-then-b-eq59 : goal.returns-then-b-eq59
returns-then-b-eq59 c =
    let to = c.comment_end-at.result in
    let same = comment_passes c.args.bytes.now c.args.place.nesting c.args.place.at c.requires.within to c.if-b-eq59.true c.comment_end-at.ensures.same in
    record { leads = (omega (arith, c.comment_end-at.ensures.behind), record { behind = omega (arith, c.comment_end-at.ensures.behind); within = c.comment_end-at.ensures.within; nested = c.requires.nested; same = same }) }

pub returns-then-nesting-ge-MAX_NESTING : goal.returns-then-nesting-ge-MAX_NESTING
returns-then-nesting-ge-MAX_NESTING c =
    record { leads = (open_too_deep c.args.bytes.now c.args.place.nesting c.args.place.at c.requires.within c.if-b-eq40.true c.if-nesting-ge-MAX_NESTING.true, omega arith) }

pub returns-then-b-eq40 : goal.returns-then-b-eq40
returns-then-b-eq40 c =
    let same = open_passes c.args.bytes.now c.args.place.nesting c.args.place.at c.requires.within c.if-b-eq40.true c.if-nesting-ge-MAX_NESTING.false in
    record { leads = (omega arith, record { behind = omega arith; within = omega arith; nested = omega arith; same = same }) }

pub returns-then-nesting-le1 : goal.returns-then-nesting-le1
returns-then-nesting-le1 c = record { leads = (close_ends c.args.bytes.now c.args.place.nesting c.args.place.at c.requires.within c.if-b-eq41.true c.if-nesting-le1.true, omega arith) }

pub returns-then-b-eq41 : goal.returns-then-b-eq41
returns-then-b-eq41 c =
    let same = close_passes c.args.bytes.now c.args.place.nesting c.args.place.at c.requires.within c.if-b-eq41.true c.if-nesting-le1.false in
    record { leads = (omega arith, record { behind = omega arith; within = omega arith; nested = omega arith; same = same }) }

pub returns : goal.returns
returns c =
    record { leads = (stray_ends c.args.bytes.now c.args.place.nesting c.args.place.at c.requires.within c.requires.other c.requires.full (ne_eqb _ _ c.if-b-eq59.false) c.if-b-eq40.false c.if-b-eq41.false, omega arith) }
