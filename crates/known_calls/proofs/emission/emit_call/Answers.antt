use Rattle.std.proofs.Common.{sym, subst, ◌∙◌}
use Rattle.closure_lift.specs.LiftedProgram.{lifted_of}
use Rattle.wasm_core.specs.ModuleCondition.{IsModule}
use Rattle.wasm_core.specs.ModuleTyping.{IsValid}
use Rattle.known_calls.proofs.KnownEmitting.{emits_call_module, emits_call_valid, call_module_made}
use Rattle.wasm_emit.proofs.Emitting.{main_is}
use Rattle.known_calls.proofs.emission.emit_call.Goals as goal

pub assembled-requires-clause-module : goal.assembled-requires-clause-module
assembled-requires-clause-module c =
    let made = call_module_made (lifted_of c.args.p.now) c.args.k c.args.pages c.in_ok-main.main c.in_ok-globals.globals c.in_ok-exports.exports c.in_ok-bodies.bodies.items c.in_ok-bodies.ensures.is
    (main_is c.args.p.now c.len.result c.in_ok-main.main c.len.ensures.is c.in_ok-main.ensures.is) c.in_ok-globals.ensures.is c.in_ok-exports.ensures.is in
    subst IsModule (sym made) (emits_call_module (lifted_of c.args.p.now) c.args.k c.args.pages c.requires.most c.requires.least c.requires.greatest c.requires.form c.in_ok-bodies.ensures.few)

pub of-requires : goal.of-requires
of-requires c =
    let made = call_module_made (lifted_of c.args.p.now) c.args.k c.args.pages c.in_ok-main.main c.in_ok-globals.globals c.in_ok-exports.exports c.in_ok-bodies.bodies.items c.in_ok-bodies.ensures.is
    (main_is c.args.p.now c.len.result c.in_ok-main.main c.len.ensures.is c.in_ok-main.ensures.is) c.in_ok-globals.ensures.is c.in_ok-exports.ensures.is in
    record { is_valid = subst IsValid (sym (c.in_ok-module.ensures.is ∙ made)) (emits_call_valid (lifted_of c.args.p.now) c.args.k c.args.pages c.requires.least c.requires.greatest c.requires.form) }

pub returns-clause-is : goal.returns-clause-is
returns-clause-is c =
    c.of.ensures.module ∙ c.in_ok-module.ensures.is
    ∙ call_module_made (lifted_of c.args.p.now) c.args.k c.args.pages c.in_ok-main.main c.in_ok-globals.globals c.in_ok-exports.exports c.in_ok-bodies.bodies.items c.in_ok-bodies.ensures.is
    (main_is c.args.p.now c.len.result c.in_ok-main.main c.len.ensures.is c.in_ok-main.ensures.is) c.in_ok-globals.ensures.is c.in_ok-exports.ensures.is
