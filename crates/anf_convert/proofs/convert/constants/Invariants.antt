use Rattle.std.proofs.Common.{◌≡◌, take, map}
use Rattle.anf_convert.specs.NamedProgram.{named_constant}
use Rattle.anf_convert.specs.BoxForms.{AreShallow}
use Rattle.anf_convert.proofs.convert.constants.Given as goal

abbrev pub invariant-loop-c : goal.invariant-loop-c
invariant-loop-c l = record {
  items_are : l.items.items ≡ map named_constant (take l.c-index l.c-items);
  shallow : AreShallow (take l.c-index l.c-items);
}
