use Rattle.std.proofs.Common.{◌≡◌, IfOk, subst as along}
use Rattle.trees.specs.Substitution.{lift}
use Rattle.box_terms.proofs.term.BoxTerm.lift_once.Goals as goal

pub returns-in-Some-clause-ok : goal.returns-in-Some-clause-ok
returns-in-Some-clause-ok c =
    let same : c.in-Some.copy.now ≡ lift c.args.k 0 c.args.self.now = c.in-Some.ensures.copy c.requires.kept.0 c.requires.kept.1 in
    along (λ x. IfOk c.share.result (λ t. t ≡ x)) same c.share.ensures.ok
