use Rattle.std.proofs.Common.{rules, arith, ◌≡◌, ◌<◌, ◌≤◌, ◌++◌, ◌∷◌, [], length, sym, ap, ◌∙◌}
use Rattle.std.proofs.lemmas.Grind.{common_steps}
use Rattle.std.proofs.lemmas.List.{append-nil}
use Rattle.anf_convert.specs.Captured.{words_of}
use Rattle.closure_lift.specs.FreeVariables.{level_words}
use Rattle.closure_lift.proofs.Scoped.{entry_of, found_level, beyond_level}
use Rattle.closure_lift.proofs.variables.Variables.name_words.Goals as goal

pub returns-then-at-entries-clause-names : goal.returns-then-at-entries-clause-names
returns-then-at-entries-clause-names c =
    let items = c.self.inside.entries.items in
    let names = c.args.names.now.items in
    let e : c.as_slice-entries.result.now ≡ items = search rules in
    let m : length c.as_slice-entries.result.now ≡ length items = ap length e in
    let n : length items ≤ c.args.level = grind arith in
    sym (append-nil names) ∙ ap (λ z. names ++ z) (sym (beyond_level items c.args.level n) ∙ ap (λ v. level_words v.0 c.args.level) c.self.view_is)

pub returns-else-is_err-clause-names : goal.returns-else-is_err-clause-names
returns-else-is_err-clause-names c =
    let items = c.self.inside.entries.items in
    let names = c.args.names.now.items in
    let xs = c.as_slice-entries.result.now in
    let e : xs ≡ items = search rules in
    let m : length xs ≡ length items = ap length e in
    let lt : c.args.level < length items = grind arith in
    let pushed : c.push.new.self.items ≡ names ++ c.in-Word.word ∷ [] = grind (arith, common_steps) in
    pushed ∙ ap (λ z. names ++ z) (ap (λ v. words_of (entry_of v)) (sym c.in-Word.is) ∙ sym (found_level c.self.inside.depth items xs c.args.level c.index-entries-at.result c.self.invariant e c.index-entries-at.is lt) ∙ ap (λ v. level_words v.0 c.args.level) c.self.view_is)

pub returns-else-is_err-2-clause-names : goal.returns-else-is_err-2-clause-names
returns-else-is_err-2-clause-names c =
    let items = c.self.inside.entries.items in
    let names = c.args.names.now.items in
    let xs = c.as_slice-entries.result.now in
    let e : xs ≡ items = search rules in
    let m : length xs ≡ length items = ap length e in
    let lt : c.args.level < length items = grind arith in
    let w : c.as_slice.result.now ≡ c.in-Fix.words.value = grind (arith, common_steps) in
    let put : c.extend_from_slice.new.self.items ≡ names ++ c.as_slice.result.now = grind (arith, common_steps) in
    put ∙ ap (λ z. names ++ z) (w ∙ ap (λ v. words_of (entry_of v)) (sym c.in-Fix.is) ∙ sym (found_level c.self.inside.depth items xs c.args.level c.index-entries-at.result c.self.invariant e c.index-entries-at.is lt) ∙ ap (λ v. level_words v.0 c.args.level) c.self.view_is)
