-- The environment that knows a block's families by their types alone is ready for typing where the one before is.
use Rattle.std.proofs.Common.{List, map}
use Rattle.dump_reader.specs.declared.declaration.RawFamily.{RawFamily}
use Rattle.pc_terms.specs.declared.leaf.Name.{Name}
use Rattle.pc_terms.specs.Syntax.{Term}
use Rattle.calculus_rules.specs.Environment.{Env, head_of}
use Rattle.calculus_rules.specs.Context.{Context}
use Rattle.pc_rules.specs.Lookup.{IsNew}
use Rattle.pc_rules.specs.DirectedDeclarations.{with_heads}
use Rattle.pc_rules.specs.WellCounted.{AreCounted, AreCountedFamilies}
use Rattle.type_infer.specs.Ready.{IsReady}
use Rattle.inductive_check.specs.Given.{family_of, block_from}
use Rattle.inductive_check.proofs.Heading.{heads_context, heads_env}

pub heads_ready : (E : Env) (k : Name) (ps : List Term) (fs : List RawFamily) → IsNew E k → AreCounted E ps → AreCountedFamilies E (map head_of (map family_of fs)) →
    (c : Context) → IsReady E c → IsReady (with_heads E (block_from k ps fs)) c
heads_ready E k ps fs new params families c h = record {
  env = heads_env E h.env k ps fs new params families;
  context = heads_context E h.env k ps fs new c h.context;
  consistent = h.consistent;
}
