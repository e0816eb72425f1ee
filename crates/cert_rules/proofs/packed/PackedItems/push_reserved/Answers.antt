use Rattle.std.proofs.Common.{rules, ◌≡◌, ◌∙◌, ap, ◌==◌, ◌++◌, ◌∷◌, [], false}
use Rattle.cert_rules.specs.Packed.{items_from}
use Rattle.cert_rules.proofs.Packing.{own_append}
use Rattle.cert_rules.proofs.packed.PackedItems.push_reserved.Goals as goal

pub returns-clause-put : goal.returns-clause-put
returns-clause-put c =
    let m = c.args.self.now.wide in
    let bs = c.args.self.now.codes.items in
    let d : (c.args.code == 255) ≡ false = search rules in
    ap (items_from m 0) c.push_reserved.ensures.items ∙ own_append m bs c.args.code d
