use Rattle.std.proofs.Common.{◌≡◌, ◌≤◌, ◌+◌, ◌-◌, get_or, true, false, refl, arith}
use Rattle.std.proofs.lemmas.Bool.{not-false}
use Rattle.sexp_reader.specs.Lex.{is_atom_byte}
use Rattle.dump_reader.specs.CountedUpTo.{ends_from}
use Rattle.dump_reader.proofs.Passing.{counted_anew, settled_behind, passes_is, block_counted}
use Rattle.dump_reader.proofs.blocks.behind_blocks.Goals as goal
use Rattle.dump_reader.proofs.blocks.behind_blocks.Goals.{then-opens-closes-gt0, else-opens-closes-gt0}

pub loop-at-init : goal.loop-at-init
loop-at-init c =
    let from = c.args.from in
    record {
      within = c.requires.within;
      inside = c.requires.inside;
      nested = c.requires.nested;
      few = omega arith;
      goes = record { behind = omega arith; within = c.requires.within; nested = c.requires.nested; same = refl };
      reached = omega arith;
      counted = counted_anew c.args.bytes.now (ends_from c.args.bytes.now from.nesting from.at) from.nesting from.at 0 refl;
    }

pub loop-at-preserved : goal.loop-at-preserved
loop-at-preserved c =
    let bytes = c.args.bytes.now in
    let from = c.args.from in
    let ends = ends_from bytes from.nesting from.at in
    let inv = c.loop-at.invariant in
    let look = c.look-block.result in
    let o = c.from-opens.result in
    let k = c.from-closes.result in
    let passes = passes_is bytes c.loop-at.at 32 look.opens look.closes o k c.from-opens.ensures c.from-closes.ensures (c.look-block.ensures.passes (not-false look.plain c.if-not-block.false)) in
    let counted = block_counted bytes ends c.loop-at.nesting c.loop-at.at c.loop-at.size o k passes c.if-nesting-closes.false c.if-nesting-opens-gt-MAX_NESTING.false (omega arith) inv.counted in
    elim c.if-opens-closes-gt0.branch [
      | then-opens-closes-gt0 w ↦ record {
        within = omega arith;
        inside = omega arith;
        nested = omega arith;
        few = omega (arith, w.size-is);
        goes = inv.goes;
        reached = omega (arith, inv.reached);
        counted = rw w.size-is (counted.1 w.if-opens-closes-gt0.true);
      }
      | else-opens-closes-gt0 w ↦ record {
        within = omega arith;
        inside = omega arith;
        nested = omega arith;
        few = omega (arith, w.size-is);
        goes = inv.goes;
        reached = omega (arith, inv.reached);
        counted = rw w.size-is counted.0;
      }
    ]

pub loop-at-preserved-then-bytes-at-eq32 : goal.loop-at-preserved-then-bytes-at-eq32
loop-at-preserved-then-bytes-at-eq32 c =
    let bytes = c.args.bytes.now in
    let from = c.args.from in
    let ends = ends_from bytes from.nesting from.at in
    let inv = c.loop-at.invariant in
    let look = c.look-block.result in
    let o = c.from-opens.result in
    let k = c.from-closes.result in
    let n = c.loop-at.nesting + o - k in
    let at = c.loop-at.at + 32 in
    let passes = passes_is bytes c.loop-at.at 32 look.opens look.closes o k c.from-opens.ensures c.from-closes.ensures (c.look-block.ensures.passes (not-false look.plain c.if-not-block.false)) in
    let counted = block_counted bytes ends c.loop-at.nesting c.loop-at.at c.loop-at.size o k passes c.if-nesting-closes.false c.if-nesting-opens-gt-MAX_NESTING.false (omega arith) inv.counted in
    let space : is_atom_byte (get_or bytes (at - 1) 0) ≡ false = rw c.if-bytes-at-eq32.true refl in
    let same = settled_behind bytes ends n at (c.loop-at.size + 32) space counted.0 in
    let behind : from.at ≤ at = omega (arith, inv.reached, inv.goes.behind) in
    record {
      within = omega arith;
      inside = omega arith;
      nested = omega arith;
      few = omega arith;
      goes = record { behind = behind; within = omega arith; nested = omega arith; same = same };
      reached = omega arith;
      counted = counted_anew bytes ends n at 0 same;
    }

pub returns-then-not-block : goal.returns-then-not-block
returns-then-not-block c = record { goes = c.loop-at.invariant.goes }

pub returns-else-size-le-MAX_ATOM : goal.returns-else-size-le-MAX_ATOM
returns-else-size-le-MAX_ATOM c = record { goes = c.loop-at.invariant.goes }

pub returns-after-loop-at : goal.returns-after-loop-at
returns-after-loop-at c = record { goes = c.loop-at.invariant.goes }
