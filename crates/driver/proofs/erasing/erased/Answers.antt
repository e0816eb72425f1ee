use Rattle.std.proofs.Common.{Ok, Err, None, [], ◌-◌, sym, subst}
use Rattle.pc_rules.specs.Entailment.{test_of}
use Rattle.calculus_rules.specs.Typing.{Types, guarded}
use Rattle.pc_rules.specs.DirectedTyping.{infer}
use Rattle.pc_rules.specs.DirectedRun.{most_nested}
use Rattle.erase_rules.specs.DirectedProgram.{erased_program}
use Rattle.erase.specs.AtPlaces.{FollowsAt, answered}
use Rattle.erase.specs.HaltPlaces.{HaltsAtPlace}
use Rattle.erase.specs.declared.refusal.EraseRefusal.TheVariants.{Halt}
use Rattle.driver.proofs.Erased.{as_of_job, constant_name_there, halt_within, halt_says}
use Rattle.driver.proofs.erasing.erased.Goals as goal

pub erase_at_sites-requires-clause-accepted : goal.erase_at_sites-requires-clause-accepted
erase_at_sites-requires-clause-accepted c = c.requires.checked.formed.accepted

pub erase_at_sites-requires-clause-typed : goal.erase_at_sites-requires-clause-typed
erase_at_sites-requires-clause-typed c = subst (λ t. Types guarded c.args.accepted.now.env [] t c.args.accepted.now.main_type) (sym c.requires.main) c.requires.checked.formed.typed

pub erase_at_sites-requires-clause-few : goal.erase_at_sites-requires-clause-few
erase_at_sites-requires-clause-few c = c.read_counts_are_few.ensures.few c.args.raw.now c.requires.spelled c.args.accepted.now.env c.args.accepted.now.main_type c.requires.checked

pub returns-in-Ok-clause-says : goal.returns-in-Ok-clause-says
returns-in-Ok-clause-says c =
    let a = c.args.accepted.now in
    let m = c.args.m.now in
    as_of_job a.env a.main m.nest m.account c.erase_at_sites.new.m.account (Ok c.in-Ok.program) c.requires.nest c.in-Ok.ensures.follows.answer

pub halted-requires-clause-within : goal.halted-requires-clause-within
halted-requires-clause-within c =
    let a = c.args.accepted.now in
    let m = c.args.m.now in
    let inf = infer a.env (test_of a.env) (most_nested - m.nest) in
    let at = subst (λ x. HaltsAtPlace a.env inf a.main m.account x c.erase_at_sites.new.m.account) c.in-Err-Halt.field-0-is c.in-Err-Halt.ensures.halted in
    λ b i is place. halt_within c.args.raw.now a.env a.main_type inf a.main m.account c.erase_at_sites.new.m.account c.in-Err-Halt.place c.in-Err-Halt.halt b i c.requires.checked at is place

pub returns-in-Err-Halt-clause-says : goal.returns-in-Err-Halt-clause-says
returns-in-Err-Halt-clause-says c =
    let a = c.args.accepted.now in
    let m = c.args.m.now in
    let f = subst (λ x. FollowsAt (erased_program a.env (test_of a.env) (most_nested - m.nest) a.main m.account) (answered (Err x)) m c.erase_at_sites.new.m) c.in-Err-Halt.field-0-is c.in-Err-Halt.ensures.follows in
    halt_says c.args.raw.now a.env a.main m.account c.erase_at_sites.new.m.account c.in-Err-Halt.place c.in-Err-Halt.halt c.halted.result c.halted.ensures.says
    (as_of_job a.env a.main m.nest m.account c.erase_at_sites.new.m.account (Err (Halt c.in-Err-Halt.place c.in-Err-Halt.halt)) c.requires.nest f.answer)

pub axiom-requires : goal.axiom-requires
axiom-requires c =
    let a = c.args.accepted.now in
    let kept = c.in-Err-AxiomReached.ensures.axiom c.in-Err-AxiomReached.name c.in-Err-AxiomReached.field-0-is in
    record { there = constant_name_there c.args.raw.now c.requires.spelled a.env a.main_type c.requires.checked c.in-Err-AxiomReached.name kept.0 None kept.1 }
