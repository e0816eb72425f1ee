use Rattle.std.proofs.Common.{◌≡◌, ◌<◌, length, Some, None, rules, arith, refl, sym, ap, ◌∙◌}
use Rattle.std.specs.Prelude.{slice_get}
use Rattle.std.proofs.lemmas.Option.{slice_get_read, slice_get_past}
use Rattle.lambda_box.specs.OrdinaryForm.{family_of}
use Rattle.box_passes.specs.Heads.{arity_in, arity_with}
use Rattle.box_passes.proofs.Finding.{found}
use Rattle.box_passes.proofs.families.arity_at.Goals as goal

pub returns-in-Some : goal.returns-in-Some
returns-in-Some c =
    let l : c.loop-g.g-index < length c.as_slice-g-items.result.now = grind arith in
    let f : family_of c.args.fs.now c.args.f ≡ Some c.g-item.result = sym c.loop-g.invariant ∙ found c.as_slice-g-items.result.now c.loop-g.g-index c.g-item.result c.args.f l c.g-item.is (search rules) in
    let n : slice_get c.g-item.result.args c.args.c ≡ Some c.in-Some.n.now =
    ap (λ xs. slice_get xs c.args.c) (sym c.as_slice.ensures.is)
    ∙ slice_get_read c.as_slice.result.now (length c.as_slice.result.now) c.args.c c.in-Some.n.now refl c.in-Some.ensures.lookup.3.0 c.in-Some.ensures.lookup.1 in
    record { is = sym (ap (λ o. arity_in o c.args.c) f ∙ ap (arity_with c.g-item.result.params) n) }

pub returns-in-None : goal.returns-in-None
returns-in-None c =
    let l : c.loop-g.g-index < length c.as_slice-g-items.result.now = grind arith in
    let f : family_of c.args.fs.now c.args.f ≡ Some c.g-item.result = sym c.loop-g.invariant ∙ found c.as_slice-g-items.result.now c.loop-g.g-index c.g-item.result c.args.f l c.g-item.is (search rules) in
    let n : slice_get c.g-item.result.args c.args.c ≡ None =
    ap (λ xs. slice_get xs c.args.c) (sym c.as_slice.ensures.is) ∙ slice_get_past c.as_slice.result.now c.args.c c.in-None.ensures.lookup.3 in
    record { is = sym (ap (λ o. arity_in o c.args.c) f ∙ ap (arity_with c.g-item.result.params) n) }
