use Rattle.std.proofs.Common.{◌≡◌, drop}
use Rattle.pc_terms.specs.Syntax.{apply}
use Rattle.trees.specs.Measures.{IsWithin}
use Rattle.pc_terms.proofs.term.Term.apply.Given as goal

abbrev pub invariant-loop-a : goal.invariant-loop-a
invariant-loop-a l = record {
  left : apply l.t (drop l.a-index l.a-items) ≡ apply l.fn.self l.a-items;
  within : IsWithin l.t;
}
