use Rattle.std.proofs.Common.{◌≡◌, List, Option, length, drop}
use Rattle.trees.specs.Tree.{terms_of}
use Rattle.type_cert.specs.declared.parts.Part.{Part}
use Rattle.type_cert.specs.Pairs.{term_pairs, joined}
use Rattle.type_cert.proofs.parts.put_terms.Given as goal

-- what is put of the rest decides
abbrev pub invariant-loop-i : goal.invariant-loop-i
invariant-loop-i l = record {
  rest : (o : Option (List Part)) → joined l.fn.out.items (term_pairs (terms_of l.ts) (terms_of l.us) o) ≡ joined l.out.items (term_pairs (terms_of (drop l.i l.ts)) (terms_of (drop l.i l.us)) o);
  count : length l.ts ≡ length l.us;
}
