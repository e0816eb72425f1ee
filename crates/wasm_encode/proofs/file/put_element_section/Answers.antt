use Rattle.std.proofs.Common.{rules, ◌<◌, ◌∙◌, length}
use Rattle.wasm_core.specs.ShortestBytes as shortest
use Rattle.wasm_encode.proofs.Putting.{list_from, section_puts}
use Rattle.wasm_encode.proofs.file.put_element_section.Goals as goal

pub returns : goal.returns
returns c =
    let some : 0 < length c.args.ss.now = search rules in
    record { puts = section_puts 9 shortest.put_segment c.args.ss.now _ _ _ _ some (c.deref.ensures.value ∙ list_from shortest.put_segment c.args.ss.now _ _ _ c.new-part.ensures.items c.in_ok-put_u32.ensures.puts c.in_ok-put_segments.ensures.puts) c.put_section.ensures.puts }
