use Rattle.std.proofs.Common.{arith, ◌∙◌, ◌∷◌, [], subst, sym}
use Rattle.wasm_core.specs.ShortestBytes as shortest
use Rattle.wasm_encode.specs.Puts.{PutsUnless}
use Rattle.wasm_encode.proofs.Putting.{list_from, section_puts, one_put}
use Rattle.wasm_encode.proofs.file.put_memory_section.Goals as goal

pub returns-in_ok-put_limits-in-Some : goal.returns-in_ok-put_limits-in-Some
returns-in_ok-put_limits-in-Some c =
    let part = c.deref.ensures.value ∙ list_from shortest.put_limits (c.in-Some.limits ∷ []) _ _ _ c.new-part.ensures.items c.in_ok-put_u32-in-Some.ensures.puts (one_put shortest.put_limits c.in-Some.limits _ _ c.in_ok-put_limits-in-Some.ensures.puts) in
    record {
      puts = subst (λ l. PutsUnless c.put_section.result c.args.out.now.items c.put_section.new.out.items (shortest.put_section 5 shortest.put_limits (shortest.sizes l))) (sym c.in-Some.is)
          (section_puts 5 shortest.put_limits (c.in-Some.limits ∷ []) _ _ _ _ (omega arith) part c.put_section.ensures.puts);
    }
