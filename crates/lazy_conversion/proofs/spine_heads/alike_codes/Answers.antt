use Rattle.std.proofs.Common.{◌∙◌}
use Rattle.lazy_conversion.proofs.ValueKinds.{variables_alike, left_is_variable, left_is_other, rel_shown}
use Rattle.lazy_conversion.proofs.spine_heads.alike_codes.Goals as goal
use Rattle.lazy_conversion.proofs.spine_heads.alike_codes.Goals.{in_default-via-in-Rel+in_default, in_default-via-in_default}

pub past-requires : goal.past-requires
past-requires c = rel_shown c.args.f.now _ c.view.result.now c.view.ensures.is c.in-Rel-Rel.is-0 c.requires.left

pub past-requires-in-Rel-Rel : goal.past-requires-in-Rel-Rel
past-requires-in-Rel-Rel c = rel_shown c.args.g.now _ c.view-2.result.now c.view-2.ensures.is c.in-Rel-Rel.is-1 c.requires.right

pub returns-in-Rel-Rel : goal.returns-in-Rel-Rel
returns-in-Rel-Rel c =
    record { is = variables_alike c.args.f.now c.args.g.now _ _ c.view.ensures.is c.view-2.ensures.is c.requires.left c.requires.right _ _ _ _ c.in-Rel-Rel.is-0 c.in-Rel-Rel.is-1 c.past.ensures.is c.past-in-Rel-Rel.ensures.is }

pub returns-in_default : goal.returns-in_default
returns-in_default c =
    elim c.in_default.branch [
      | in_default-via-in-Rel+in_default w ↦
          record { is = c.alike.ensures.is ∙ left_is_variable c.args.f.now c.args.g.now _ _ c.view.ensures.is c.view-2.ensures.is c.requires.left c.requires.right _ w.in_default.is-0 w.in_default.not-Rel-1 }
      | in_default-via-in_default w ↦
          record { is = c.alike.ensures.is ∙ left_is_other c.args.f.now c.args.g.now _ _ c.view.ensures.is c.view-2.ensures.is c.requires.left c.requires.right w.in_default.not-Rel-0 }
    ]
