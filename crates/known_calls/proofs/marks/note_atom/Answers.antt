use Rattle.std.proofs.Common.{◌≡◌, ℕ, ◌-◌, length, reverse, get_or, set, ap, sym, ◌∙◌, arith, rules}
use Rattle.std.proofs.lemmas.List.{length-reverse}
use Rattle.anf_convert.specs.declared.program.Atom.{Atom}
use Rattle.known_calls.specs.KnownPlaces.{Times, Once, ◌plus◌, names}
use Rattle.known_calls.specs.KnownMarks.{also}
use Rattle.known_calls.proofs.KnownMarking.{also_none, noted_at, beyond_noted, not_named}
use Rattle.known_calls.proofs.marks.note_atom.Goals as goal

pub returns-in_default : goal.returns-in_default
returns-in_default c = record { noted = sym (also_none (λ i. names i c.args.a) (reverse c.args.notes.now.items) (λ i. not_named c.args.a c.in_default.not-Var i)) }

pub returns-then-i-n : goal.returns-then-i-n
returns-then-i-n c =
    let items = c.args.notes.now.items in
    let n : c.len-n.result ≡ length items = search rules in
    let at : c.len-n.result - 1 - c.in-Var.i ≡ length items - 1 - c.in-Var.i = omega (arith, n) in
    let note = c.index-note.result.now in
    record {
      noted = ap (λ (v : Times). reverse (set items (c.len-n.result - 1 - c.in-Var.i) v)) c.once_more.ensures.is ∙ ap (λ (k : ℕ). reverse (set items k (Once plus note))) at
          ∙ noted_at items c.in-Var.i note (omega (arith, c.if-i-n.true, n)) (c.index-note.ensures ∙ ap (λ (k : ℕ). get_or items k note) at) ∙ ap (λ (z : Atom). also (λ k. names k z) (reverse items)) (sym c.in-Var.is);
    }

pub returns-else-i-n : goal.returns-else-i-n
returns-else-i-n c =
    let items = c.args.notes.now.items in
    let n : c.len-n.result ≡ length items = search rules in
    record { noted = sym (ap (λ (z : Atom). also (λ k. names k z) (reverse items)) c.in-Var.is ∙ beyond_noted (reverse items) c.in-Var.i (omega (arith, c.if-i-n.false, n, length-reverse items))) }
