use Rattle.std.proofs.Common.{◌∙◌, refl, sym, ap, arith, subst as along}
use Rattle.pc_terms.specs.Syntax.{head}
use Rattle.calculus_rules.specs.Context.{values}
use Rattle.reduce_machine.specs.Layers.{IsOpenIn}
use Rattle.reduce_machine.specs.Reads.{stands}
use Rattle.reduce_machine.proofs.Normals.{normal_under, head_itself, args_more}
use Rattle.reduce_machine.proofs.quick.is_normal.Goals as goal

pub inward-init : goal.inward-init
inward-init c = record { head = refl; args = omega arith }

pub inward-preserved : goal.inward-preserved
inward-preserved c =
    let e = rw c.in-App.is at c.view.ensures.is in
    record { head = c.inward.invariant.head ∙ sym (ap head e); args = args_more c.args.t.now c.inward.head.now c.in-App.function _ c.inward.count e c.inward.invariant.args }

pub returns : goal.returns
returns c =
    let k = head_itself c.view.result.now c.inward.head.now c.view.ensures.is c.in_default.not-App in
    record {
      shown = λ h. along (λ t. IsOpenIn c.args.bindings.now.items t) (sym (c.inward.invariant.head ∙ k.0)) (c.is_normal_head.ensures.shown h);
      is = λ h. normal_under c.args.env.now (values c.args.ctx.now) (stands c.args.bindings.now.items) c.args.t.now c.inward.head.now c.inward.count c.inward.invariant.head
          c.inward.invariant.args k.0 k.1 (c.is_normal_head.ensures.is h);
    }
