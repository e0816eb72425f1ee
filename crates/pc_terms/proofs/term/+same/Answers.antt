use Rattle.std.proofs.Common.{sym, ap, ◌∙◌}
use Rattle.pc_terms.specs.View.{tree_of}
use Rattle.pc_terms.proofs.NodeTrees.{tree_of-inj}
use Rattle.pc_terms.proofs.term.+same.Goals as goal

pub Term::same-returns-else-shares_node : goal.Term::same-returns-else-shares_node
Term::same-returns-else-shares_node t c =
    let a = c.view.ensures.is in
    let b = c.view-else-shares_node.ensures.is in
    record {
      is = (λ r. sym a ∙ (ap tree_of (c.same.ensures.is.0 r) ∙ b), λ q. c.same.ensures.is.1 (tree_of-inj c.view.result.now c.view-else-shares_node.result.now (a ∙ (q ∙ sym b))));
    }
