use Rattle.std.proofs.Common.{◌≡◌, List, Option, length, drop}
use Rattle.pc_terms.specs.Lists.{types_of, rargs_of}
use Rattle.calculus_rules.specs.Same.{same_numbers}
use Rattle.type_cert.specs.declared.parts.Part.{Part}
use Rattle.type_cert.specs.Pairs.{term_pairs, joined}
use Rattle.type_cert.proofs.parts.put_types.Given as goal

-- what is put of the rest decides, and so do the rest's recursive arguments
abbrev pub invariant-loop-i : goal.invariant-loop-i
invariant-loop-i l = record {
  rest : (o : Option (List Part)) → joined l.fn.out.items (term_pairs (types_of l.ds) (types_of l.es) o) ≡ joined l.out.items (term_pairs (types_of (drop l.i l.ds)) (types_of (drop l.i l.es)) o);
  same : same_numbers (rargs_of l.ds) (rargs_of l.es) ≡ same_numbers (rargs_of (drop l.i l.ds)) (rargs_of (drop l.i l.es));
  count : length l.ds ≡ length l.es;
}
