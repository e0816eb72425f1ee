use Rattle.std.proofs.Common.{rules, ◌≡◌, ◌<◌, ℕ, Bool, false, Some, None, refl, sym, ap, ◌∙◌, subst}
use Rattle.std.specs.Prelude.{nat_eq}
use Rattle.std.specs.HashMap.{get}
use Rattle.trees.specs.Tree.{Rel}
use Rattle.trees.proofs.Put.{substitute_same}
use Rattle.box_terms.specs.BoxSyntax.{BoxTerm}
use Rattle.shrink_passes.specs.DropParams.{leading}
use Rattle.shrink_passes.specs.DeadPlaces.{has_place, is_place}
use Rattle.shrink_passes.specs.Pruned.{pruned, unwrapped}
use Rattle.shrink_passes.proofs.Unwrapped.{unwrapped_rest}
use Rattle.shrink_passes.proofs.dropping.without_params.Goals as goal

pub without_places-requires-clause-leads : goal.without_places-requires-clause-leads
without_places-requires-clause-leads c = λ p e.
    let found : get nat_eq c.args.table.now c.args.d.now.name.0 ≡ Some c.in-Some.dead.now = search rules in
    subst (λ (t : BoxTerm). p < leading t) (sym c.in_ok-body.ensures.ok) (c.requires.leads p (ap (λ o. has_place o p) found ∙ e))

pub returns-in-None-clause-ok : goal.returns-in-None-clause-ok
returns-in-None-clause-ok c =
    let none : get nat_eq c.args.table.now c.args.d.now.name.0 ≡ None = search rules in
    let t = pruned (is_place (get nat_eq c.args.table.now)) c.args.d.now.body in
    let stays : unwrapped (is_place (get nat_eq c.args.table.now) c.args.d.now.name.0) 0 Rel t ≡ t =
    unwrapped_rest (is_place (get nat_eq c.args.table.now) c.args.d.now.name.0) 0 Rel t (λ r l. ap (λ o. has_place o r) none) ∙ substitute_same t in
    let body = c.in_ok-body.ensures.ok ∙ sym stays in
    λ i. record { name = c.args.d.now.name; body = body i }

pub returns-in_ok-body-in-Some-clause-ok : goal.returns-in_ok-body-in-Some-clause-ok
returns-in_ok-body-in-Some-clause-ok c =
    let found : get nat_eq c.args.table.now c.args.d.now.name.0 ≡ Some c.in-Some.dead.now = search rules in
    let body = c.in_ok-body-in-Some.ensures.ok ∙ (λ i. unwrapped (λ p. has_place (sym found i) p) 0 Rel (c.in_ok-body.ensures.ok i)) in
    λ i. record { name = c.args.d.now.name; body = body i }
