use Rattle.std.proofs.Common.{[], sym, subst}
use Rattle.calculus_rules.specs.Typing.{Types, guarded}
use Rattle.erase_rows.proofs.erasures.checked_of.Goals as goal

pub returns-in-Ok : goal.returns-in-Ok
returns-in-Ok c =
    let w = c.in-Ok.ensures.well_formed in
    let a = c.in-Ok.accepted in
    record {
      accepted = w.formed.accepted;
      typed = subst (λ t. Types guarded a.env [] t a.main_type) (sym c.in-Ok.ensures.main) w.formed.typed;
      few = c.read_counts_are_few.ensures.few c.args.raw.now c.requires.spelled a.env a.main_type w;
    }
