use Rattle.std.proofs.Common.{◌≡◌, ◌∙◌, ◌≤◌, ◌<◌, sym, length, get_or, slice_get, Some, None, arith, rules, subst}
use Rattle.std.proofs.Math.Seq.{take_all}
use Rattle.std.proofs.lemmas.Option.{get_or_from_slice_get, slice_get-get_or}
use Rattle.dump_printer.proofs.Lists.{each-item, each-end, along}
use Rattle.cert_text.specs.CertText.{item_tokens, AreSmall, IsWithinU32}
use Rattle.cert_text.proofs.PrintedTokens.{small_next}
use Rattle.cert_text.proofs.printing.write_items.Goals as goal

pub loop-i-init : goal.loop-i-init
loop-i-init g c = record { goes = λ s more h. h; small = tt }

pub loop-i-preserved : goal.loop-i-preserved
loop-i-preserved g c =
    let xs = c.args.items.now in
    let item = c.in-Some.item in
    let there : slice_get xs c.loop-i.i ≡ Some item = sym c.get.ensures.is ∙ c.in-Some.is in
    let lt : c.loop-i.i < length xs = search rules in
    let e : get_or xs c.loop-i.i item ≡ item = get_or_from_slice_get xs c.loop-i.i item item there in
    record {
      goes = λ s more h. c.write_item.ensures.goes s _ (along (each-item item_tokens xs c.loop-i.i item more (sym e) lt) (c.loop-i.invariant.goes s more h));
      small = small_next xs c.loop-i.i item lt c.loop-i.invariant.small (subst (λ x. IsWithinU32 x) (sym e) c.write_item.ensures.small);
    }

pub returns : goal.returns
returns g c =
    let xs = c.args.items.now in
    let le : length xs ≤ c.loop-i.i = omega arith in
    record {
      goes = λ s more h. along (each-end item_tokens xs c.loop-i.i more le) (c.loop-i.invariant.goes s more h);
      small = subst (λ ys. AreSmall ys) (take_all c.loop-i.i xs le) c.loop-i.invariant.small;
    }
