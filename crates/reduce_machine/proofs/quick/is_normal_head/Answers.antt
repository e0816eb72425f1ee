use Rattle.std.proofs.Common.{ap, sym, subst as along}
use Rattle.std.proofs.lemmas.Bool.{false≢true}
use Rattle.pc_terms.specs.Syntax.{substitute}
use Rattle.calculus_rules.specs.Context.{values}
use Rattle.reduce_machine.specs.Layers.{IsOpenIn}
use Rattle.reduce_machine.specs.Normal.{IsNormalHead}
use Rattle.reduce_machine.specs.Reads.{stands}
use Rattle.reduce_machine.proofs.HeadKinds.{unbound}
use Rattle.reduce_machine.proofs.Normals.{normal_head}
use Rattle.reduce_machine.proofs.quick.is_normal_head.Goals as goal

pub returns-in-Sort : goal.returns-in-Sort
returns-in-Sort c =
    let e = rw c.in-Sort.is at c.view.ensures.is in
    record {
      shown = λ h. along (λ t. IsOpenIn c.args.bindings.now.items t) e tt;
      is = λ h. normal_head c.args.env.now (values c.args.ctx.now) (substitute (stands c.args.bindings.now.items) c.args.head.now) _ c.args.count
          (ap (substitute (stands c.args.bindings.now.items)) e) tt;
    }

pub returns-in-Prod : goal.returns-in-Prod
returns-in-Prod c =
    let e = rw c.in-Prod.is at c.view.ensures.is in
    record {
      shown = λ h. along (λ t. IsOpenIn c.args.bindings.now.items t) e tt;
      is = λ h. normal_head c.args.env.now (values c.args.ctx.now) (substitute (stands c.args.bindings.now.items) c.args.head.now) _ c.args.count
          (ap (substitute (stands c.args.bindings.now.items)) e) tt;
    }

pub returns-in-Ind : goal.returns-in-Ind
returns-in-Ind c =
    let e = rw c.in-Ind.is at c.view.ensures.is in
    record {
      shown = λ h. along (λ t. IsOpenIn c.args.bindings.now.items t) e tt;
      is = λ h. normal_head c.args.env.now (values c.args.ctx.now) (substitute (stands c.args.bindings.now.items) c.args.head.now) _ c.args.count
          (ap (substitute (stands c.args.bindings.now.items)) e) tt;
    }

pub returns-in-Construct : goal.returns-in-Construct
returns-in-Construct c =
    let e = rw c.in-Construct.is at c.view.ensures.is in
    record {
      shown = λ h. along (λ t. IsOpenIn c.args.bindings.now.items t) e tt;
      is = λ h. normal_head c.args.env.now (values c.args.ctx.now) (substitute (stands c.args.bindings.now.items) c.args.head.now) _ c.args.count
          (ap (substitute (stands c.args.bindings.now.items)) e) tt;
    }

pub returns-in-Lambda : goal.returns-in-Lambda
returns-in-Lambda c =
    let e = rw c.in-Lambda.is at c.view.ensures.is in
    record {
      shown = λ h. along (λ t. IsOpenIn c.args.bindings.now.items t) e tt;
      is = λ h. normal_head c.args.env.now (values c.args.ctx.now) (substitute (stands c.args.bindings.now.items) c.args.head.now) _ c.args.count
          (ap (substitute (stands c.args.bindings.now.items)) e) (c.is_zero.ensures.is h);
    }

pub returns-in-Const : goal.returns-in-Const
returns-in-Const c =
    let e = rw c.in-Const.is at c.view.ensures.is in
    record {
      shown = λ h. along (λ t. IsOpenIn c.args.bindings.now.items t) e tt;
      is = λ h. normal_head c.args.env.now (values c.args.ctx.now) (substitute (stands c.args.bindings.now.items) c.args.head.now) _ c.args.count
          (ap (substitute (stands c.args.bindings.now.items)) e) (c.is_axiom.ensures.is h);
    }

pub returns-in-Fix : goal.returns-in-Fix
returns-in-Fix c =
    let e = rw c.in-Fix.is at c.view.ensures.is in
    record {
      shown = λ h. along (λ t. IsOpenIn c.args.bindings.now.items t) e tt;
      is = λ h. normal_head c.args.env.now (values c.args.ctx.now) (substitute (stands c.args.bindings.now.items) c.args.head.now) _ c.args.count
          (ap (substitute (stands c.args.bindings.now.items)) e) (c.waits.ensures.is h);
    }

pub returns-in-Rel : goal.returns-in-Rel
returns-in-Rel c =
    let e = rw c.in-Rel.is at c.view.ensures.is in
    record {
      shown = λ h. along (λ t. IsOpenIn c.args.bindings.now.items t) e (c.is_free.ensures.shown h);
      is = λ h. normal_head c.args.env.now (values c.args.ctx.now) (substitute (stands c.args.bindings.now.items) c.args.head.now) _ c.args.count
          (ap (substitute (stands c.args.bindings.now.items)) e) (along (λ t. IsNormalHead c.args.env.now (values c.args.ctx.now) t c.args.count)
          (sym (unbound c.args.bindings.now.items c.in-Rel.i (c.is_free.ensures.shown h))) (c.is_free.ensures.is h));
    }

pub returns-in_default : goal.returns-in_default
returns-in_default c = record { shown = λ h. absurd (false≢true h); is = λ h. absurd (false≢true h) }
