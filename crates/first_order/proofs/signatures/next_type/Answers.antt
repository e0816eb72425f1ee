use Rattle.std.proofs.Common.{sym, ◌∙◌}
use Rattle.std.proofs.lemmas.Result.{err_from_is_err_and}
use Rattle.pc_rules.proofs.Meters.{after-refl}
use Rattle.first_order.specs.Searching.{as_is}
use Rattle.first_order.proofs.Searches.{passes_memory}
use Rattle.first_order.proofs.Signing.{next_leaves, names_variable, codomain_reduced, whnf_found, whnf_stops}
use Rattle.first_order.proofs.signatures.next_type.Goals as goal

pub returns-in_err-found : goal.returns-in_err-found
returns-in_err-found g c =
    record {
      follows = passes_memory _ as_is _ _ c.args.m.now c.args.m.now c.in_err-found.ensures.only_memory c.from_residual.ensures.1 (after-refl c.args.m.now)
          (next_leaves c.args.env.now c.args.ty.now c.args.codomain.now c.args.m.now.account);
    }

pub returns-in_err-ty : goal.returns-in_err-ty
returns-in_err-ty g c =
    record {
      follows = passes_memory _ as_is _ _ c.args.m.now c.args.m.now c.in_err-ty.ensures.only_memory c.from_residual-in_err-ty.ensures.1 (after-refl c.args.m.now)
          (next_leaves c.args.env.now c.args.ty.now c.args.codomain.now c.args.m.now.account);
    }

pub returns-in_default : goal.returns-in_default
returns-in_default g c =
    record { follows = names_variable c.args.env.now c.args.ty.now c.args.codomain.now c.in_ok-ty.ty c.args.m.now (sym c.in_default.is ∙ c.in_ok-found.ensures.ok) c.in_ok-ty.ensures.ok }

pub returns-in_err-whnf : goal.returns-in_err-whnf
returns-in_err-whnf g c =
    let f = rw c.new-ctx.ensures.empty at c.in_err-whnf.ensures.follows in
    let p = err_from_is_err_and c.from_residual-in_err-whnf.result c.from_residual-in_err-whnf.ensures.1 in
    record {
      follows = rw (p.1, p.2) (codomain_reduced c.args.env.now c.args.ty.now c.args.codomain.now c.in-Some.lowered _ c.args.m.now c.whnf.new.m (sym c.in-Some.is ∙ c.in_ok-found.ensures.ok)
          (whnf_stops c.args.env.now c.args.ty.now c.args.codomain.now c.in-Some.lowered c.in_err-whnf.field-0.0 c.args.m.now c.whnf.new.m f));
    }

pub returns : goal.returns
returns g c =
    let f = rw c.new-ctx.ensures.empty at c.in_ok-whnf.ensures.follows in
    record {
      follows = codomain_reduced c.args.env.now c.args.ty.now c.args.codomain.now c.in-Some.lowered _ c.args.m.now c.whnf.new.m (sym c.in-Some.is ∙ c.in_ok-found.ensures.ok)
          (whnf_found c.args.env.now c.args.ty.now c.args.codomain.now c.in-Some.lowered c.in_ok-whnf.whnf c.args.m.now c.whnf.new.m f);
    }
