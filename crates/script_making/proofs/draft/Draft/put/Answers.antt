use Rattle.std.proofs.Common.{refl, ◌∷◌, []}
use Rattle.script_making.proofs.Making.{makes_noted}
use Rattle.script_making.proofs.draft.Draft.put.Goals as goal

pub returns-in-Ok-clause-makes : goal.returns-in-Ok-clause-makes
returns-in-Ok-clause-makes c = makes_noted (c.args.item ∷ []) _ _ refl c.in-Ok.ensures.items
