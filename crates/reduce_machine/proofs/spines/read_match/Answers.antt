use Rattle.std.proofs.Common.{◌≡◌, IfOk, IfErr, subst as along}
use Rattle.trees.specs.Measures.{IsBeyond}
use Rattle.pc_terms.specs.Syntax.{substitute}
use Rattle.pc_terms.specs.declared.term.MakeFault.TheVariants.{TooDeep}
use Rattle.reduction.specs.Frames.{with_scrutinee}
use Rattle.reduce_machine.specs.Reads.{stands}
use Rattle.reduce_machine.proofs.Arms.{not_case}
use Rattle.reduce_machine.proofs.spines.read_match.Goals as goal

pub unreachable-requires : goal.unreachable-requires
unreachable-requires c = not_case c.view.result.now c.args.outer.now.term c.view.ensures.is c.requires c.in_default.not-Case

pub returns : goal.returns
returns c =
    let e = rw c.in-Case.is at c.view.ensures.is in
    let around = rw c.get-m.ensures.is at c.read_around.ensures in
    record {
      ok = along (λ u. IfOk c.read_around.result (λ t. t ≡ with_scrutinee (substitute (stands c.args.outer.now.env.items) u) c.args.inner)) e around.ok;
      too_deep = along (λ u. IfErr c.read_around.result (λ f. f ≡ TooDeep → IsBeyond (with_scrutinee (substitute (stands c.args.outer.now.env.items) u) c.args.inner))) e
          around.too_deep;
    }
