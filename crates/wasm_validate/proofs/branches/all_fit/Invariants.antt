use Rattle.std.proofs.Common.{◌≡◌, drop, length}
use Rattle.std.specs.Option.{option_to_list}
use Rattle.wasm_core.specs.Pass.{fit_labels, labels_of}
use Rattle.wasm_validate.proofs.branches.all_fit.Given as goal

abbrev pub invariant-loop-at : goal.invariant-loop-at
invariant-loop-at l = fit_labels (labels_of (option_to_list l.own) l.checker.ctls) (length (option_to_list l.along)) l.checker.now l.labels ≡ fit_labels (labels_of (option_to_list l.own) l.checker.ctls) (length (option_to_list l.along)) l.checker.now (drop l.at l.labels)
