use Rattle.std.proofs.Common.{Some, sym, ap, subst, ◌∙◌}
use Rattle.std.specs.Prelude.{slice_get}
use Rattle.driver.specs.declared.refusal.Where.TheVariants.{Declaration as Told}
use Rattle.driver.specs.Judged.{PlaceIsTold}
use Rattle.driver.proofs.Checking.{declared_name_there, place_read, no_name}
use Rattle.driver.proofs.check.told.Goals as goal

pub unreachable-requires : goal.unreachable-requires
unreachable-requires c =
    let e = c.args.raw.now in
    let i = c.in-Declaration.i in
    let d = c.index-as_slice-i.result in
    let at = place_read e.decls c.as_slice.result.now i d c.as_slice.ensures.is (c.requires.within i c.in-Declaration.is) c.index-as_slice-i.is in
    let there = declared_name_there e c.requires.spelled i d at in
    no_name e.names c.declared_name-name.result.0 there.0 c.in-None.ensures.bytes (ap (λ k. slice_get e.names k.0) c.declared_name-name.ensures.is ∙ there.1)

pub returns-in_ok-bytes-in-Some-clause-told : goal.returns-in_ok-bytes-in-Some-clause-told
returns-in_ok-bytes-in-Some-clause-told c =
    let e = c.args.raw.now in
    let i = c.in-Declaration.i in
    let d = c.index-as_slice-i.result in
    let at = place_read e.decls c.as_slice.result.now i d c.as_slice.ensures.is (c.requires.within i c.in-Declaration.is) c.index-as_slice-i.is in
    let bytes = c.in_ok-bytes-in-Some.bytes in
    let same = c.in_ok-bytes-in-Some.ensures.items ∙ c.as_bytes.ensures.value in
    let named = sym (ap (λ k. slice_get e.names k.0) c.declared_name-name.ensures.is) ∙ sym c.in-Some.ensures.bytes ∙ ap Some (sym same) in
    subst (λ p. PlaceIsTold e p (Told bytes)) (sym c.in-Declaration.is) (d, at, named)
