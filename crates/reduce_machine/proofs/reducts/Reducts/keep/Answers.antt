use Rattle.std.proofs.Common.{◌≡◌, ◌∙◌, ap, sym, Some, subst as along}
use Rattle.reduce_machine.specs.Reducts.{AreReducts}
use Rattle.reduce_machine.proofs.reducts.Reducts.keep.Goals.{in-More, in_default}
use Rattle.reduce_machine.proofs.reducts.Reducts.keep.Goals as goal

pub returns-clause-kept : goal.returns-clause-kept
returns-clause-kept c = λ E V h b a.
    let k = along (λ l. AreReducts E V l.items) (sym c.closed.ensures.entries) h in
    elim c.match-uses.branch [ in-More w ↦ rw w.self-is (w.keep_at.ensures.kept E V k (a ∙ ap Some (sym c.in_ok-closed.ensures.is))) | in_default w ↦ rw w.self-is k ]
