use Rattle.explanations.proofs.Adding.{adds_both}
use Rattle.explanations.proofs.lines.declaration_line.Goals as goal

pub returns : goal.returns
returns c =
    let name = rw c.name_text.ensures.is at c.put-4.ensures.adds in
    record {
      adds = adds_both _ _ _ _ _ c.put.ensures.adds (adds_both _ _ _ _ _ c.put-2.ensures.adds (adds_both _ _ _ _ _ c.put_number.ensures.adds (adds_both _ _ _ _ _ c.put-3.ensures.adds
          (adds_both _ _ _ _ _ name c.put-5.ensures.adds))));
    }
