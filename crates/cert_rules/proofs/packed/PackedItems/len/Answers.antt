use Rattle.std.proofs.Common.{rules, ◌≡◌, ◌∙◌, sym, length}
use Rattle.cert_rules.proofs.Packing.{items_long}
use Rattle.cert_rules.proofs.packed.PackedItems.len.Goals as goal

pub returns : goal.returns
returns c =
    let e : c.len.result ≡ length c.args.self.now.codes.items = search rules in
    record { is = e ∙ sym (items_long c.args.self.now.wide 0 c.args.self.now.codes.items) }
