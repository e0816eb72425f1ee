use Rattle.std.proofs.Common.{rules, arith, ◌≡◌, ◌<◌, ◌≤◌, length, get_or, sym, ap, ◌∙◌}
use Rattle.anf_convert.specs.Captured.{Words, entry}
use Rattle.closure_lift.proofs.Scoped.{entry_of, number_of, found_entry, found_number, beyond_entry, beyond_number}
use Rattle.closure_lift.proofs.variables.Variables.find.Goals as goal

pub returns-then-i-count-clause-entry : goal.returns-then-i-count-clause-entry
returns-then-i-count-clause-entry c =
    let items = c.self.inside.entries.items in
    let n : length items ≤ c.args.i = grind arith in
    sym (beyond_entry items c.args.i n) ∙ ap (λ v. entry v.0 c.args.i) c.self.view_is

pub returns-then-i-count-clause-number : goal.returns-then-i-count-clause-number
returns-then-i-count-clause-number c =
    let items = c.self.inside.entries.items in
    let n : length items ≤ c.args.i = grind arith in
    sym (beyond_number items c.args.i n) ∙ ap (λ v. get_or v.1 c.args.i 0) c.self.view_is

pub returns-in-Word-clause-entry : goal.returns-in-Word-clause-entry
returns-in-Word-clause-entry c =
    let items = c.self.inside.entries.items in
    let xs = c.as_slice-entries.result.now in
    let e : xs ≡ items = search rules in
    let m : length xs ≡ length items = ap length e in
    let lt : c.args.i < length items = grind arith in
    ap entry_of (sym c.in-Word.is) ∙ sym (found_entry c.self.inside.depth items xs c.args.i _ c.index-entries-at.result c.self.invariant e c.index-entries-at.is lt (grind arith)) ∙ ap (λ v. entry v.0 c.args.i) c.self.view_is

pub returns-in-Word-clause-number : goal.returns-in-Word-clause-number
returns-in-Word-clause-number c =
    let items = c.self.inside.entries.items in
    let xs = c.as_slice-entries.result.now in
    let e : xs ≡ items = search rules in
    let m : length xs ≡ length items = ap length e in
    let lt : c.args.i < length items = grind arith in
    ap number_of (sym c.in-Word.is) ∙ sym (found_number items xs c.args.i _ c.index-entries-at.result e c.index-entries-at.is lt (grind arith)) ∙ ap (λ v. get_or v.1 c.args.i 0) c.self.view_is

pub returns-in-Fix-clause-entry : goal.returns-in-Fix-clause-entry
returns-in-Fix-clause-entry c =
    let items = c.self.inside.entries.items in
    let xs = c.as_slice-entries.result.now in
    let e : xs ≡ items = search rules in
    let m : length xs ≡ length items = ap length e in
    let lt : c.args.i < length items = grind arith in
    let w : c.deref.result.now ≡ c.in-Fix.words.value = search rules in
    ap Words w ∙ ap entry_of (sym c.in-Fix.is) ∙ sym (found_entry c.self.inside.depth items xs c.args.i _ c.index-entries-at.result c.self.invariant e c.index-entries-at.is lt (grind arith)) ∙ ap (λ v. entry v.0 c.args.i) c.self.view_is

pub returns-in-Fix-clause-number : goal.returns-in-Fix-clause-number
returns-in-Fix-clause-number c =
    let items = c.self.inside.entries.items in
    let xs = c.as_slice-entries.result.now in
    let e : xs ≡ items = search rules in
    let m : length xs ≡ length items = ap length e in
    let lt : c.args.i < length items = grind arith in
    ap number_of (sym c.in-Fix.is) ∙ sym (found_number items xs c.args.i _ c.index-entries-at.result e c.index-entries-at.is lt (grind arith)) ∙ ap (λ v. get_or v.1 c.args.i 0) c.self.view_is
