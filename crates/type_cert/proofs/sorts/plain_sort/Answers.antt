use Rattle.std.proofs.Common.{rules, ◌≡◌, ◌∙◌, sym, [], length}
use Rattle.std.proofs.lemmas.List.{nil_from_length}
use Rattle.type_cert.proofs.Sorting.{plain_family}
use Rattle.type_cert.proofs.sorts.plain_sort.Goals as goal

pub returns : goal.returns
returns c =
    let n : length c.as_slice.result.now ≡ 0 = search rules in
    let m : length c.as_slice-2.result.now ≡ 0 = search rules in
    let p : c.in-Some.block.now.params ≡ [] = sym c.as_slice.ensures.is ∙ nil_from_length c.as_slice.result.now n in
    let q : c.in-Ok.family.now.indices ≡ [] = sym c.as_slice-2.ensures.is ∙ nil_from_length c.as_slice-2.result.now m in
    record { answers = plain_family c.args.env.now c.args.id c.in-Some.block.now _ c.in-Some.ensures.known c.in-Ok.ensures.ok p q }
