use Rattle.std.proofs.Common.{◌+◌, drop, false, arith, ◌∙◌, sym, refl}
use Rattle.sexp_reader.proofs.Steps.{lex-end, atom-long, atom-short, atom-after, open-deep, open-answer, open-after, close-answer, close-after, stray-answer, atom-gave, open-gave, close-gave}
use Rattle.sexp_reader.proofs.Rising.{atom_len-some, lex-from}
use Rattle.sexp_reader.proofs.Tokens.next.Goals as goal

pub returns-then-start-self-clause-answer : goal.returns-then-start-self-clause-answer
returns-then-start-self-clause-answer c = rw (c.skip-start.ensures.same, lex-end c.skip-start.result false c.args.self.now.bytes.now (omega arith)) refl

pub returns-then-start-self-clause-ok : goal.returns-then-start-self-clause-ok
returns-then-start-self-clause-ok c = rw (c.skip-start.ensures.same, lex-end c.skip-start.result false c.args.self.now.bytes.now (omega arith)) (refl, refl)

pub returns-then-end-start-gt-MAX_ATOM-clause-answer : goal.returns-then-end-start-gt-MAX_ATOM-clause-answer
returns-then-end-start-gt-MAX_ATOM-clause-answer c =
    rw c.skip-start.ensures.same (atom-long c.args.self.now.bytes.now c.args.self.now.nesting c.skip-start.result (omega arith) (sym c.is_atom_byte.ensures.atom ∙ c.if-is_atom_byte.true) (omega arith) (omega arith))

pub returns-then-is_atom_byte-clause-answer : goal.returns-then-is_atom_byte-clause-answer
returns-then-is_atom_byte-clause-answer c =
    rw (c.token_at-then-is_atom_byte.ensures.parts, c.skip-start.ensures.same, c.atom_end-end.ensures.end) (atom-short c.args.self.now.bytes.now c.args.self.now.nesting c.skip-start.result (omega arith) (sym c.is_atom_byte.ensures.atom ∙ c.if-is_atom_byte.true) (omega arith) (omega arith))

pub returns-then-is_atom_byte-clause-ok : goal.returns-then-is_atom_byte-clause-ok
returns-then-is_atom_byte-clause-ok c = rw (c.skip-start.ensures.same, c.atom_end-end.ensures.end) (atom-after c.args.self.now.bytes.now c.args.self.now.nesting c.skip-start.result (omega arith) (sym c.is_atom_byte.ensures.atom ∙ c.if-is_atom_byte.true))

pub returns-then-self-ge-MAX_NESTING-clause-answer : goal.returns-then-self-ge-MAX_NESTING-clause-answer
returns-then-self-ge-MAX_NESTING-clause-answer c = rw c.skip-start.ensures.same (open-deep c.args.self.now.bytes.now c.args.self.now.nesting c.skip-start.result (omega arith) c.if-b-eq40.true c.if-self-ge-MAX_NESTING.true)

pub returns-then-b-eq40-clause-answer : goal.returns-then-b-eq40-clause-answer
returns-then-b-eq40-clause-answer c = rw (c.token_at.ensures.parts, c.skip-start.ensures.same) (open-answer c.args.self.now.bytes.now c.args.self.now.nesting c.skip-start.result (omega arith) c.if-b-eq40.true c.if-self-ge-MAX_NESTING.false)

pub returns-then-b-eq40-clause-ok : goal.returns-then-b-eq40-clause-ok
returns-then-b-eq40-clause-ok c = rw c.skip-start.ensures.same (open-after c.args.self.now.bytes.now c.args.self.now.nesting c.skip-start.result (omega arith) c.if-b-eq40.true)

pub returns-then-b-eq41-clause-answer : goal.returns-then-b-eq41-clause-answer
returns-then-b-eq41-clause-answer c = rw (c.token_at-then-b-eq41.ensures.parts, c.skip-start.ensures.same) (close-answer c.args.self.now.bytes.now c.args.self.now.nesting c.skip-start.result (omega arith) c.if-b-eq41.true)

pub returns-then-b-eq41-clause-ok : goal.returns-then-b-eq41-clause-ok
returns-then-b-eq41-clause-ok c = rw c.skip-start.ensures.same (let h = close-after c.args.self.now.bytes.now c.args.self.now.nesting c.skip-start.result (omega arith) c.if-b-eq41.true in (h.0, c.saturating_sub-self.ensures ∙ h.1))

pub returns-clause-answer : goal.returns-clause-answer
returns-clause-answer c = let stops = c.skip-start.ensures.stops (omega arith) in rw c.skip-start.ensures.same (stray-answer c.args.self.now.bytes.now c.args.self.now.nesting c.skip-start.result (omega arith) (sym c.is_atom_byte.ensures.atom ∙ c.if-is_atom_byte.false) stops.1
    stops.0 c.if-b-eq40.false c.if-b-eq41.false)

pub returns-then-start-self-clause-gave : goal.returns-then-start-self-clause-gave
returns-then-start-self-clause-gave c =
    let e = lex-end c.skip-start.result false c.args.self.now.bytes.now (omega arith) in (c.skip-start.ensures.same ∙ e, e)

pub returns-then-is_atom_byte-clause-gave : goal.returns-then-is_atom_byte-clause-gave
returns-then-is_atom_byte-clause-gave c =
    rw (c.token_at-then-is_atom_byte.ensures.parts, c.atom_end-end.ensures.end) (c.skip-start.ensures.same ∙ atom-gave c.args.self.now.bytes.now c.args.self.now.nesting c.skip-start.result (omega arith) (sym c.is_atom_byte.ensures.atom ∙ c.if-is_atom_byte.true), omega arith, omega arith)

pub returns-then-b-eq40-clause-gave : goal.returns-then-b-eq40-clause-gave
returns-then-b-eq40-clause-gave c = rw c.token_at.ensures.parts (c.skip-start.ensures.same ∙ open-gave c.args.self.now.bytes.now c.args.self.now.nesting c.skip-start.result (omega arith) c.if-b-eq40.true, omega arith, omega arith)

pub returns-then-b-eq41-clause-gave : goal.returns-then-b-eq41-clause-gave
returns-then-b-eq41-clause-gave c = rw c.token_at-then-b-eq41.ensures.parts (c.skip-start.ensures.same ∙ close-gave c.args.self.now.bytes.now c.args.self.now.nesting c.skip-start.result (omega arith) c.if-b-eq41.true, omega arith, omega arith)

pub returns-then-is_atom_byte-clause-rises : goal.returns-then-is_atom_byte-clause-rises
returns-then-is_atom_byte-clause-rises c =
    let bytes = c.args.self.now.bytes.now in
    let some = atom_len-some bytes c.skip-start.result (omega arith) (sym c.is_atom_byte.ensures.atom ∙ c.if-is_atom_byte.true) in
    rw c.token_at-then-is_atom_byte.ensures.parts (omega (arith, c.atom_end-end.ensures.end, some), lex-from (drop c.atom_end-end.result bytes) c.atom_end-end.result false)

pub returns-then-b-eq40-clause-rises : goal.returns-then-b-eq40-clause-rises
returns-then-b-eq40-clause-rises c = rw c.token_at.ensures.parts (omega arith, lex-from (drop (c.skip-start.result + 1) c.args.self.now.bytes.now) (c.skip-start.result + 1) false)

pub returns-then-b-eq41-clause-rises : goal.returns-then-b-eq41-clause-rises
returns-then-b-eq41-clause-rises c = rw c.token_at-then-b-eq41.ensures.parts (omega arith, lex-from (drop (c.skip-start.result + 1) c.args.self.now.bytes.now) (c.skip-start.result + 1) false)
