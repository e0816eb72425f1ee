use Rattle.std.proofs.Common.{false, arith, ◌∙◌, sym, ap, ◌+◌, ◌∷◌}
use Rattle.sexp_reader.specs.Lex.{left}
use Rattle.sexp_reader.proofs.Steps.{lex-end, lex-single, atom-gave}
use Rattle.sexp_reader.proofs.Rising.{atom_len-some}
use Rattle.cert_text.proofs.scan.next.Goals as goal

pub returns-then-start-bytes-clause-next : goal.returns-then-start-bytes-clause-next
returns-then-start-bytes-clause-next c = c.skip-start.ensures.same ∙ lex-end c.skip-start.result false c.args.bytes.now (omega arith)

pub returns-then-is_atom_byte-clause-next : goal.returns-then-is_atom_byte-clause-next
returns-then-is_atom_byte-clause-next c =
    rw c.atom_end-end.ensures.end
    (c.skip-start.ensures.same ∙ atom-gave c.args.bytes.now 0 c.skip-start.result (omega arith) (sym c.is_atom_byte.ensures.atom ∙ c.if-is_atom_byte.true))

pub returns-then-is_atom_byte-clause-within : goal.returns-then-is_atom_byte-clause-within
returns-then-is_atom_byte-clause-within c =
    let some = atom_len-some c.args.bytes.now c.skip-start.result (omega arith) (sym c.is_atom_byte.ensures.atom ∙ c.if-is_atom_byte.true) in
    (omega (arith, c.atom_end-end.ensures.end, some), omega (arith, c.atom_end-end.ensures.end), omega arith)

pub returns-clause-next : goal.returns-clause-next
returns-clause-next c =
    let stops = c.skip-start.ensures.stops (omega arith) in
    c.skip-start.ensures.same
    ∙ lex-single c.args.bytes.now c.skip-start.result (omega arith) (sym c.is_atom_byte.ensures.atom ∙ c.if-is_atom_byte.false) stops.1 stops.0
    ∙ ap (λ t. record { start = c.skip-start.result; text = t } ∷ left (c.skip-start.result + 1) c.args.bytes.now) (sym (c.kind_of-kind.ensures.is _))
