use Rattle.std.proofs.Common.{sym, ap, ◌∙◌, arith}
use Rattle.sexp_reader.proofs.Rising.{atom_len-some}
use Rattle.dump_reader.specs.CountedUpTo.{ends_from}
use Rattle.dump_reader.proofs.Counting.{atom_too_long, atom_ends, atom_passes}
use Rattle.dump_reader.proofs.front.behind_atom.Goals as goal

pub returns-then-end-place-gt-MAX_ATOM : goal.returns-then-end-place-gt-MAX_ATOM
returns-then-end-place-gt-MAX_ATOM c =
    let at = c.args.place.at in
    let e = c.atom_end-end.ensures.is in
    record { leads = (atom_too_long c.args.bytes.now c.args.place.nesting at c.requires.within c.requires.atom (omega (arith, e)) (omega (arith, e)), omega arith) }

pub returns-then-place-eq0 : goal.returns-then-place-eq0
returns-then-place-eq0 c =
    let at = c.args.place.at in
    let e = c.atom_end-end.ensures.is in
    record { leads = (atom_ends c.args.bytes.now c.args.place.nesting at c.requires.within c.requires.atom (omega (arith, e)) (omega (arith, e)) c.if-place-eq0.true ∙ sym e, c.atom_end-end.ensures.within) }

pub returns : goal.returns
returns c =
    let bytes = c.args.bytes.now in
    let at = c.args.place.at in
    let n = c.args.place.nesting in
    let e = c.atom_end-end.ensures.is in
    let some = atom_len-some bytes at c.requires.within c.requires.atom in
    let same = atom_passes bytes n at c.requires.within c.requires.atom (omega (arith, e)) (omega (arith, e)) c.if-place-eq0.false ∙ ap (ends_from bytes n) (sym e) in
    record { leads = (omega (arith, e, some), record { behind = omega (arith, e, some); within = c.atom_end-end.ensures.within; nested = c.requires.nested; same = same }) }
