use Rattle.std.proofs.Common.{arith, ◌≡◌, ◌∙◌, ◌-◌, ap, sym, subst, [], ◌∷◌, reverse, Err, Ok}
use Rattle.std.proofs.lemmas.Result.{err_from_is_err_and}
use Rattle.std.proofs.lemmas.List.{reverse-reverse}
use Rattle.pc_rules.specs.Entailment.{test_of}
use Rattle.pc_rules.specs.DirectedTyping.{infer}
use Rattle.pc_rules.specs.DirectedPlaces.{Gives}
use Rattle.pc_rules.proofs.Entailing.{entailed_decides}
use Rattle.pc_rules.specs.DirectedRun.{most_nested}
use Rattle.rule_laws.proofs.TypedCounts.{typed_counted, accepted_counted}
use Rattle.rule_laws.proofs.Names.{accepted_once}
use Rattle.erase_rules.specs.DirectedErasure.{erased}
use Rattle.erase_rules.specs.DirectedProgram.{Reached, Program, ReachesAxiom, box_families, erased_program}
use Rattle.erase_rules.proofs.Program.{program_is_erased, axioms_have_no_body}
use Rattle.erase_rules.proofs.ProgramSize.{program_is_small}
use Rattle.erase_rules.proofs.Together.{program_has_form, program_keeps_values}
use Rattle.erase.specs.AtPlaces.{FollowsAt}
use Rattle.erase.specs.HaltPlaces.{IsAtBody, IsAt, at_main, at_body, HaltsIn}
use Rattle.erase.proofs.HaltRuns.{none_by, halts_in, halts_on}
use Rattle.erase.proofs.WholeRuns.{main_halts, walk_halts, axiom_answered, program_answered}
use Rattle.erase.proofs.Sources.{programs_no_greater}
use Rattle.erase.proofs.program.erase_at_sites.Goals as goal

pub erased_at-requires-clause-env : goal.erased_at-requires-clause-env
erased_at-requires-clause-env g c = accepted_counted c.args.acc.now.env c.requires.accepted

pub erased_at-requires-clause-counted : goal.erased_at-requires-clause-counted
erased_at-requires-clause-counted g c = typed_counted c.args.acc.now.env (accepted_once c.args.acc.now.env c.requires.accepted) c.requires.typed

pub returns-in_err-main-clause-follows : goal.returns-in_err-main-clause-follows
returns-in_err-main-clause-follows g c =
    let E = c.args.acc.now.env in
    let t = c.args.acc.now.main in
    let e : c.room-room.result ≡ most_nested - c.args.m.now.nest = omega (arith, c.room-room.ensures.is) in
    let p = err_from_is_err_and c.from_residual.result c.from_residual.ensures.1 in
    let x = c.in_err-main.field-0.0 in
    rw (p.1, p.2)
    (subst (λ n. FollowsAt (erased_program E (test_of E) n t c.args.m.now.account) (Err x) c.args.m.now c.erased_at.new.m) e
    (main_halts E (test_of E) c.room-room.result t x c.args.m.now c.erased_at.new.m c.in_err-main.ensures.place c.in_err-main.ensures.follows))

pub returns-in_err-main-clause-halted : goal.returns-in_err-main-clause-halted
returns-in_err-main-clause-halted g c =
    let E = c.args.acc.now.env in
    let t = c.args.acc.now.main in
    let u = c.args.m.now.account in
    let e : c.room-room.result ≡ most_nested - c.args.m.now.nest = omega (arith, c.room-room.ensures.is) in
    let p = err_from_is_err_and c.from_residual.result c.from_residual.ensures.1 in
    let x = c.in_err-main.field-0.0 in
    let inf = infer E (test_of E) c.room-room.result in
    let at : IsAt E inf t u x.place (erased E inf [] t u) = subst (λ q. IsAt E inf t u q (erased E inf [] t u)) (sym c.in_err-main.ensures.place) at_main in
    rw (p.1, p.2)
    (subst (λ n. HaltsIn (λ q d. IsAt E (infer E (test_of E) n) t u q d) x.place x.halt c.erased_at.new.m.account) e
    (halts_in (λ q d. IsAt E inf t u q d) x.place x.halt c.erased_at.new.m.account (erased E inf [] t u) at c.in_err-main.ensures.follows.answer))

pub reach_constants-requires-clause-env : goal.reach_constants-requires-clause-env
reach_constants-requires-clause-env g c = accepted_counted c.args.acc.now.env c.requires.accepted

pub returns-in_err-reached-clause-follows : goal.returns-in_err-reached-clause-follows
returns-in_err-reached-clause-follows g c =
    let E = c.args.acc.now.env in
    let t = c.args.acc.now.main in
    let e : c.room-room.result ≡ most_nested - c.args.m.now.nest = omega (arith, c.room-room.ensures.is) in
    let p = err_from_is_err_and c.from_residual-in_err-reached.result c.from_residual-in_err-reached.ensures.1 in
    let x = c.in_err-reached.field-0.0 in
    rw (p.1, p.2)
    (subst (λ n. FollowsAt (erased_program E (test_of E) n t c.args.m.now.account) (Err x) c.args.m.now c.reach_constants.new.m) e
    (walk_halts E (test_of E) c.room-room.result t c.in_ok-main.main c.args.m.now c.erased_at.new.m c.reach_constants.new.m c.in_ok-main.ensures.follows x c.in_err-reached.ensures.follows))

pub returns-in_err-reached-clause-halted : goal.returns-in_err-reached-clause-halted
returns-in_err-reached-clause-halted g c =
    let E = c.args.acc.now.env in
    let t = c.args.acc.now.main in
    let u = c.args.m.now.account in
    let e : c.room-room.result ≡ most_nested - c.args.m.now.nest = omega (arith, c.room-room.ensures.is) in
    let p = err_from_is_err_and c.from_residual-in_err-reached.result c.from_residual-in_err-reached.ensures.1 in
    let x = c.in_err-reached.field-0.0 in
    let inf = infer E (test_of E) c.room-room.result in
    rw (p.1, p.2)
    (subst (λ n. HaltsIn (λ q d. IsAt E (infer E (test_of E) n) t u q d) x.place x.halt c.reach_constants.new.m.account) e
    (halts_on (λ q d. IsAtBody E inf (c.in_ok-main.main ∷ []) E.declarations c.erased_at.new.m.account q d) (λ q d. IsAt E inf t u q d) x.place x.halt c.reach_constants.new.m.account
    (λ d a. at_body c.in_ok-main.ensures.follows.answer a) c.in_err-reached.ensures.halted))

pub returns-in-Some-clause-follows : goal.returns-in-Some-clause-follows
returns-in-Some-clause-follows g c =
    let E = c.args.acc.now.env in
    let t = c.args.acc.now.main in
    let e : c.room-room.result ≡ most_nested - c.args.m.now.nest = omega (arith, c.room-room.ensures.is) in
    let r : Reached = record { constants = c.in_ok-reached.reached.constants.items; without_body = c.in_ok-reached.reached.without_body } in
    subst (λ n. FollowsAt (erased_program E (test_of E) n t c.args.m.now.account) (Ok (ReachesAxiom c.in-Some.name)) c.args.m.now c.reach_constants.new.m) e
    (axiom_answered E (test_of E) c.room-room.result t c.in_ok-main.main c.args.m.now c.erased_at.new.m c.reach_constants.new.m c.in_ok-main.ensures.follows r c.in-Some.name c.in-Some.is
    c.in_ok-reached.ensures.follows)

pub returns-in-Some-clause-axiom : goal.returns-in-Some-clause-axiom
returns-in-Some-clause-axiom g c = λ k same.
    let E = c.args.acc.now.env in
    let f = returns-in-Some-clause-follows g c in
    let q : c.in-Some.name ≡ k = cc in
    axioms_have_no_body E (test_of E) (most_nested - c.args.m.now.nest) c.args.acc.now.main k c.args.m.now.account c.reach_constants.new.m.account (f.answer ∙ ap (λ j. Gives (ReachesAxiom j) c.reach_constants.new.m.account) q)

pub returns-clause-follows : goal.returns-clause-follows
returns-clause-follows g c =
    let E = c.args.acc.now.env in
    let t = c.args.acc.now.main in
    let e : c.room-room.result ≡ most_nested - c.args.m.now.nest = omega (arith, c.room-room.ensures.is) in
    let cs = c.in_ok-reached.reached.constants.items in
    let r : Reached = record { constants = cs; without_body = c.in_ok-reached.reached.without_body } in
    let same : c.of.result ≡ cs = c.of.ensures.is ∙ ap reverse c.reverse.ensures.items ∙ reverse-reverse cs in
    let f = program_answered E (test_of E) c.room-room.result t c.in_ok-main.main c.args.m.now c.erased_at.new.m c.reach_constants.new.m c.in_ok-main.ensures.follows r
    (none_by c.in_ok-reached.reached.without_body c.in_default.not-Some) c.in_ok-reached.ensures.follows in
    rw (same, c.in-Ok.ensures.ok) (subst (λ n. FollowsAt (erased_program E (test_of E) n t c.args.m.now.account)
    (Ok (Program (record { constants = cs; families = box_families E.declarations; main = c.in_ok-main.main }))) c.args.m.now c.reach_constants.new.m) e f)

pub returns-clause-erased : goal.returns-clause-erased
returns-clause-erased g c =
    let E = c.args.acc.now.env in
    let a = c.requires.accepted in
    program_is_erased E a c.requires.few (test_of E) (entailed_decides E.levels E.constraints a.consistent a.over) (most_nested - c.args.m.now.nest) c.args.acc.now.main c.args.acc.now.main_type c.requires.typed _ c.args.m.now.account c.reach_constants.new.m.account (returns-clause-follows g c).answer

pub returns-clause-sources : goal.returns-clause-sources
returns-clause-sources g c =
    let E = c.args.acc.now.env in
    let a = c.requires.accepted in
    (program_has_form E a c.requires.few (test_of E) (entailed_decides E.levels E.constraints a.consistent a.over) (most_nested - c.args.m.now.nest) c.args.acc.now.main c.args.acc.now.main_type c.requires.typed _ c.args.m.now.account c.reach_constants.new.m.account (returns-clause-follows g c).answer).1

pub returns-clause-form : goal.returns-clause-form
returns-clause-form g c =
    let E = c.args.acc.now.env in
    let a = c.requires.accepted in
    (program_has_form E a c.requires.few (test_of E) (entailed_decides E.levels E.constraints a.consistent a.over) (most_nested - c.args.m.now.nest) c.args.acc.now.main c.args.acc.now.main_type c.requires.typed _ c.args.m.now.account c.reach_constants.new.m.account (returns-clause-follows g c).answer).0

pub returns-clause-fewer_nodes : goal.returns-clause-fewer_nodes
returns-clause-fewer_nodes g c =
    let E = c.args.acc.now.env in
    program_is_small E (test_of E) (most_nested - c.args.m.now.nest) c.args.acc.now.main _ c.args.m.now.account c.reach_constants.new.m.account (returns-clause-follows g c).answer

pub returns-clause-no_deeper : goal.returns-clause-no_deeper
returns-clause-no_deeper g c =
    let E = c.args.acc.now.env in
    programs_no_greater E (test_of E) (most_nested - c.args.m.now.nest) c.args.acc.now.main _ c.args.m.now.account c.reach_constants.new.m.account (returns-clause-follows g c).answer

pub returns-clause-value : goal.returns-clause-value
returns-clause-value g c =
    let E = c.args.acc.now.env in
    let a = c.requires.accepted in
    program_keeps_values E a c.requires.few (test_of E) (entailed_decides E.levels E.constraints a.consistent a.over) (most_nested - c.args.m.now.nest) c.args.acc.now.main c.args.acc.now.main_type c.requires.typed _ c.args.m.now.account c.reach_constants.new.m.account (returns-clause-follows g c).answer
