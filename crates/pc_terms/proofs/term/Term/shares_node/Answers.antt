use Rattle.std.proofs.Common.{sym, ap, ◌∙◌}
use Rattle.pc_terms.specs.View.{tree_of}
use Rattle.pc_terms.specs.declared.term.Inner.{Inner}
use Rattle.pc_terms.proofs.Numbered.{number_of-inj}
use Rattle.pc_terms.proofs.term.Term.shares_node.Goals as goal

pub returns : goal.returns
returns c =
    let mine = c.self.inside.rc.value in
    let theirs = c.other.inside.rc.value in
    record {
      is = λ yes. sym c.self.view_is
          ∙ (number_of-inj (tree_of mine.node) (tree_of theirs.node)
          (sym c.self.invariant.stamp_is ∙ (sym (ap (λ (i : Inner). i.stamp) c.deref.ensures) ∙ (c.same.ensures.is yes ∙ (ap (λ (i : Inner). i.stamp) c.deref-2.ensures ∙ c.other.invariant.stamp_is))))
          ∙ c.other.view_is);
    }
