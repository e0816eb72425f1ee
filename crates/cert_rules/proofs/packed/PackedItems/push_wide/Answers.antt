use Rattle.std.proofs.Common.{rules, ◌≡◌, ◌∙◌, ap, ◌+◌, ◌<◌, ◌++◌, ◌∷◌, [], length, Some, ℕ, false, cond, arith}
use Rattle.std.specs.Ordering.{nat_cmp}
use Rattle.std.specs.BTreeMap.{get, is_at, Updates}
use Rattle.cert_rules.specs.Packed.{wide_item, items_from}
use Rattle.cert_rules.proofs.Packing.{items_append, items_same, at_greater}
use Rattle.cert_rules.proofs.packed.PackedItems.push_wide.Goals as goal

pub returns-in-Ok : goal.returns-in-Ok
returns-in-Ok c =
    let m = c.args.self.now.wide in
    let n = c.put_wide.new.wide in
    let bs = c.args.self.now.codes.items in
    let k : c.len.result ≡ length bs = search rules in
    let u : Updates nat_cmp m n (length bs) (Some c.args.item) = rw k at c.in_ok-put_wide.ensures.ok in
    let others : (q : ℕ) → is_at (nat_cmp (length bs)) q ≡ false → get nat_cmp n q ≡ get nat_cmp m q = λ q f. u.0 q ∙ ap (λ b. cond b (Some c.args.item) (get nat_cmp m q)) f in
    let at : get nat_cmp n (length bs) ≡ Some c.args.item = u.1 in
    let e : c.put_code.new.codes.items ≡ bs ++ 255 ∷ [] = search rules in
    let same : items_from n 0 bs ≡ items_from m 0 bs = items_same m n 0 (length bs) bs (omega arith) (λ q h. others q (at_greater (length bs) q h)) in
    record { ok = ap (items_from n 0) e ∙ items_append n 0 (length bs) bs 255 (omega arith) ∙ ap (λ o. items_from n 0 bs ++ wide_item o ∷ []) at ∙ ap (λ xs. xs ++ c.args.item ∷ []) same }
