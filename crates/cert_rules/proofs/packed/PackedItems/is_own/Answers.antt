use Rattle.std.proofs.Common.{rules, ◌≡◌, ◌∙◌, ap, ◌+◌, ◌==◌, false, Some, slice_get, arith}
use Rattle.std.specs.Option.{option_map}
use Rattle.cert_rules.specs.Packed.{item_at}
use Rattle.cert_rules.proofs.Packing.{items_get, own_item}
use Rattle.cert_rules.proofs.packed.PackedItems.is_own.Goals as goal

pub returns-in-Some-clause-there : goal.returns-in-Some-clause-there
returns-in-Some-clause-there c h =
    let m = c.args.self.now.wide in
    let e = items_get m 0 c.args.at c.args.at c.args.self.now.codes.items (omega arith) in
    let l : slice_get c.args.self.now.codes.items c.args.at ≡ Some c.in-Some.found = search rules in
    let d : (c.args.code == 255) ≡ false = search rules in
    let q : c.in-Some.found ≡ c.args.code = search (rules, h) in
    e ∙ ap (option_map (item_at m c.args.at)) l ∙ ap (λ x. Some (item_at m c.args.at x)) q ∙ ap Some (own_item m c.args.at c.args.code d)
