use Rattle.std.proofs.Common.{rules}
use Rattle.dump_reader.proofs.Members.{family-made}
use Rattle.dump_reader.proofs.declared.family.Goals as goal

pub returns-clause-made : goal.returns-clause-made
returns-clause-made c = family-made c.args.tree.now c.in_ok-name.name c.in_ok-sort.sort c.as_slice.result.now c.in_ok-indices.indices.items c.of.result c.as_slice-2.result.now c.in_ok-ctors.ctors.items c.of-2.result
    c.in_ok-name.ensures.made c.in_ok-sort.ensures.made c.as_slice.ensures.value c.of.ensures.is c.in_ok-indices.ensures.made c.as_slice-2.ensures.value c.of-2.ensures.is c.in_ok-ctors.ensures.made
