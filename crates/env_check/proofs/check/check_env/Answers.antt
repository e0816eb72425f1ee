use Rattle.std.proofs.Common.{rules, ◌-◌, ap, subst, sym}
use Rattle.calculus_rules.specs.Accepted.{IsAccepted}
use Rattle.pc_rules.specs.DirectedRun.{most_nested}
use Rattle.env_check.specs.Places.{StandsAt, bare}
use Rattle.env_check.specs.Rules.{givens}
use Rattle.env_check.proofs.Limits.{spelled_few}
use Rattle.env_check.proofs.Whole.{first_refused, first_placed, given_on, follows_on, bare_accepted, declarations_refused, declarations_placed, bare_placed, main_placed, main_follows, main_well_formed}
use Rattle.env_check.proofs.check.check_env.Goals as goal

pub returns-in_err-bare-clause-follows : goal.returns-in_err-bare-clause-follows
returns-in_err-bare-clause-follows g c =
    let raw = c.args.raw.now in
    follows_on raw c.args.m.now c.from_residual.result _ c.from_residual.ensures.1 (first_refused raw c.args.m.now _ c.in_err-bare.ensures.refused)

pub returns-in_err-bare-clause-placed : goal.returns-in_err-bare-clause-placed
returns-in_err-bare-clause-placed g c =
    let raw = c.args.raw.now in
    let m = c.args.m.now in
    given_on (λ e. StandsAt (bare raw) (most_nested - m.nest) (givens raw) raw.main m.account e) c.from_residual.result _ c.from_residual.ensures.1
    (first_placed (bare raw) (most_nested - m.nest) (givens raw) raw.main m.account _)

pub check_declarations-requires-clause-few : goal.check_declarations-requires-clause-few
check_declarations-requires-clause-few g c = rw c.as_slice.ensures.is (spelled_few c.args.raw.now c.requires.spelled).declarations

pub check_declarations-requires-clause-accepted : goal.check_declarations-requires-clause-accepted
check_declarations-requires-clause-accepted g c = subst (λ E. IsAccepted E) (sym c.in_ok-bare.ensures.bare) (bare_accepted c.args.raw.now c.in_ok-bare.ensures.sound)

pub check_declarations-requires-clause-empty : goal.check_declarations-requires-clause-empty
check_declarations-requires-clause-empty g c = ap (λ E. E.declarations) c.in_ok-bare.ensures.bare

pub returns-in_err-env-clause-follows : goal.returns-in_err-env-clause-follows
returns-in_err-env-clause-follows g c =
    let raw = c.args.raw.now in
    let sound = c.in_ok-bare.ensures.sound in
    let bare = c.in_ok-bare.ensures.bare in
    let p = declarations_refused raw sound.once sound.declared c.in_ok-bare.bare c.as_slice.result.now _ c.args.m.now c.check_declarations.new.m c.as_slice.ensures.is (ap (λ E. E.levels) bare)
    (ap (λ E. E.constraints) bare) sound.consistent (c.in_err-env.ensures.refused raw.main) in
    search rules

pub returns-in_err-env-clause-placed : goal.returns-in_err-env-clause-placed
returns-in_err-env-clause-placed g c =
    let raw = c.args.raw.now in
    let bare = c.in_ok-bare.ensures.bare in
    let m = c.args.m.now in
    let p = declarations_placed raw c.in_ok-bare.bare c.as_slice.result.now _ (most_nested - m.nest) m.account c.as_slice.ensures.is (ap (λ E. E.levels) bare) (ap (λ E. E.constraints) bare)
    (ap (λ E. E.declarations) bare) (c.in_err-env.ensures.placed raw.main) in
    search rules

pub returns-clause-placed : goal.returns-clause-placed
returns-clause-placed g c =
    let raw = c.args.raw.now in
    let sound = c.in_ok-bare.ensures.sound in
    let bare = c.in_ok-bare.ensures.bare in
    let el = ap (λ E. E.levels) bare in
    let ec = ap (λ E. E.constraints) bare in
    let m = c.args.m.now in
    bare_placed raw c.in_ok-bare.bare c.check_main.result (most_nested - m.nest) m.account el ec (ap (λ E. E.declarations) bare)
    (main_placed raw sound.once sound.declared c.in_ok-bare.bare c.as_slice.result.now c.as_slice.ensures.is el ec m c.check_declarations.new.m c.in_ok-env.env
    c.in_ok-env.ensures.after c.in_ok-env.ensures.checked c.check_main.result c.check_main.ensures.placed)

pub returns-clause-follows : goal.returns-clause-follows
returns-clause-follows g c =
    let raw = c.args.raw.now in
    let sound = c.in_ok-bare.ensures.sound in
    let bare = c.in_ok-bare.ensures.bare in
    main_follows raw sound.once sound.declared c.in_ok-bare.bare c.as_slice.result.now c.as_slice.ensures.is (ap (λ E. E.levels) bare) (ap (λ E. E.constraints) bare) c.args.m.now
    c.check_declarations.new.m c.in_ok-env.env c.in_ok-env.ensures.after c.in_ok-env.ensures.checked c.check_main.result c.check_main.new.m sound.consistent c.check_main.ensures.answers

pub returns-clause-well_formed : goal.returns-clause-well_formed
returns-clause-well_formed g c =
    let raw = c.args.raw.now in
    let sound = c.in_ok-bare.ensures.sound in
    let bare = c.in_ok-bare.ensures.bare in
    main_well_formed raw sound.once sound.declared c.in_ok-bare.bare c.as_slice.result.now c.as_slice.ensures.is (ap (λ E. E.levels) bare) (ap (λ E. E.constraints) bare) c.args.m.now
    c.check_declarations.new.m c.in_ok-env.env c.in_ok-env.ensures.after c.in_ok-env.ensures.checked c.check_main.result c.check_main.ensures.env c.check_main.ensures.typed
