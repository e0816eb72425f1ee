use Rattle.std.proofs.Common.{◌≡◌, List, Option, drop}
use Rattle.pc_terms.specs.Lists.{bodies_of}
use Rattle.type_cert.specs.declared.parts.Part.{Part}
use Rattle.type_cert.specs.Pairs.{term_pairs, joined}
use Rattle.type_cert.proofs.parts.put_bodies.Given as goal

-- what is put of the rest decides
abbrev pub invariant-loop-i : goal.invariant-loop-i
invariant-loop-i l =
    (o : Option (List Part)) → joined l.fn.out.items (term_pairs (bodies_of l.count l.ds) (bodies_of l.count l.es) o)
    ≡ joined l.out.items (term_pairs (bodies_of l.count (drop l.i l.ds)) (bodies_of l.count (drop l.i l.es)) o)
