use Rattle.std.proofs.Common.{rules, ◌≡◌, ◌∙◌, sym, ap, ◌+◌, ◌==◌, true, false, Some, None, slice_get, arith}
use Rattle.std.specs.Option.{option_map}
use Rattle.cert_rules.specs.Packed.{item_at, unpacked}
use Rattle.cert_rules.proofs.Packing.{items_get, own_item}
use Rattle.cert_rules.proofs.packed.PackedItems.get.Goals as goal

pub returns-in-Some-eq255-clause-is : goal.returns-in-Some-eq255-clause-is
returns-in-Some-eq255-clause-is c =
    let m = c.args.self.now.wide in
    let e = items_get m 0 c.args.at c.args.at c.args.self.now.codes.items (omega arith) in
    let l : slice_get c.args.self.now.codes.items c.args.at ≡ Some 255 = search rules in
    sym (e ∙ ap (option_map (item_at m c.args.at)) l ∙ ap Some (sym c.wide_at.ensures.is))

pub returns-in-Some-clause-is : goal.returns-in-Some-clause-is
returns-in-Some-clause-is c =
    let m = c.args.self.now.wide in
    let e = items_get m 0 c.args.at c.args.at c.args.self.now.codes.items (omega arith) in
    let l : slice_get c.args.self.now.codes.items c.args.at ≡ Some c.in-Some.code = search rules in
    let d : (c.in-Some.code == 255) ≡ false = search rules in
    sym (e ∙ ap (option_map (item_at m c.args.at)) l ∙ ap Some (own_item m c.args.at c.in-Some.code d ∙ sym c.item_of.ensures.is))

pub returns-in-None-clause-is : goal.returns-in-None-clause-is
returns-in-None-clause-is c =
    let m = c.args.self.now.wide in
    let e = items_get m 0 c.args.at c.args.at c.args.self.now.codes.items (omega arith) in
    let l : slice_get c.args.self.now.codes.items c.args.at ≡ None = search rules in
    sym (e ∙ ap (option_map (item_at m c.args.at)) l)
