use Rattle.std.proofs.Common.{◌≡◌, ◌∙◌, sym, ap, Some, slice_get}
use Rattle.calculus_rules.specs.Context.{values}
use Rattle.cert_rules.specs.declared.item.CertItem.TheVariants.{Same}
use Rattle.type_cert.proofs.verifier.Verifier.script.Goals as goal

pub short_script-requires : goal.short_script-requires
short_script-requires c =
    let e : slice_get c.args.self.now.cert.now c.args.trail.now.at ≡ Some Same = sym c.item_at.ensures.is ∙ c.in-Some-Same.is ∙ ap (λ x. Some x) c.in-Some-Same.field-0-is in
    let s = c.requires.scriptable in
    record { next = e; env = s.env; left = s.left; right = s.right }

pub returns-in-Some-Same : goal.returns-in-Some-Same
returns-in-Some-Same c = record { retraces = c.short_script.ensures.retraces (values c.args.ctx.now) }
