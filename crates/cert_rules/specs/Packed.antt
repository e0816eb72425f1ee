-- Items as bytes. An item that has no byte of its own stands in a table, by its place in the list.
use Rattle.std.specs.Prelude.{ℕ, suc, ◌-◌, ◌==◌, nat_lt, if◌then◌else◌, List, [], ◌∷◌, Option, Some, None}
use Rattle.std.specs.Ordering.{nat_cmp}
use Rattle.std.specs.BTreeMap.{BTreeMap, get}
use Rattle.cert_rules.specs.declared.item.CertItem.{CertItem}
use Rattle.cert_rules.specs.declared.item.CertItem.TheVariants.{Number, Same, Conv, Left, Right, Parts}
use Rattle.cert_rules.specs.declared.packed.PackedItems.{PackedItems}

-- the item of a byte
abbrev pub item_of : ℕ → CertItem
item_of c =
    if nat_lt c 128 then Number c else (if nat_lt c 188 then Left (c - 128) else (if nat_lt c 248 then Right (c - 188) else (if c == 248 then Same else (if c == 249 then Conv else Parts))))

-- an item of the table; what stands for none is never asked for
abbrev pub wide_item : Option CertItem → CertItem
wide_item None = Parts
wide_item (Some x) = x

-- the item of a byte at a place
abbrev pub item_at : BTreeMap ℕ CertItem → ℕ → ℕ → CertItem
item_at wide i c = if c == 255 then wide_item (get nat_cmp wide i) else item_of c

-- the items of bytes, the first at a place
abbrev pub items_from : BTreeMap ℕ CertItem → ℕ → List ℕ → List CertItem
items_from wide i [] = []
items_from wide i (c ∷ cs) = item_at wide i c ∷ items_from wide (suc i) cs

abbrev pub unpacked : PackedItems → List CertItem
unpacked p = items_from p.wide 0 p.codes.items
