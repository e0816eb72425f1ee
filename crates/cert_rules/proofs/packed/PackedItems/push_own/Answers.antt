use Rattle.std.proofs.Common.{rules, ◌≡◌, ◌∙◌, ap, ◌==◌, ◌++◌, ◌∷◌, [], false}
use Rattle.cert_rules.specs.Packed.{items_from}
use Rattle.cert_rules.proofs.Packing.{own_append}
use Rattle.cert_rules.proofs.packed.PackedItems.push_own.Goals as goal

pub returns-in-Ok : goal.returns-in-Ok
returns-in-Ok c =
    let m = c.args.self.now.wide in
    let bs = c.args.self.now.codes.items in
    let d : (c.args.code == 255) ≡ false = search rules in
    let e : c.put_code.new.codes.items ≡ bs ++ c.args.code ∷ [] = search rules in
    record { ok = ap (items_from m 0) e ∙ own_append m bs c.args.code d }
