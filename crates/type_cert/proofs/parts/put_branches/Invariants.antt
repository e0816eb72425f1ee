use Rattle.std.proofs.Common.{◌≡◌, List, Option, length, drop}
use Rattle.pc_terms.specs.Lists.{arms_of}
use Rattle.type_cert.specs.declared.parts.Part.{Part}
use Rattle.type_cert.specs.Pairs.{term_pairs, joined}
use Rattle.type_cert.proofs.parts.put_branches.Given as goal

-- what is put of the rest decides
abbrev pub invariant-loop-i : goal.invariant-loop-i
invariant-loop-i l = record {
  rest : (o : Option (List Part)) → joined l.fn.out.items (term_pairs (arms_of l.xs) (arms_of l.ys) o) ≡ joined l.out.items (term_pairs (arms_of (drop l.i l.xs)) (arms_of (drop l.i l.ys)) o);
  count : length l.xs ≡ length l.ys;
}
