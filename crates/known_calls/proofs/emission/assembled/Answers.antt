use Rattle.std.proofs.Common.{sym, subst, ◌∙◌}
use Rattle.closure_lift.specs.LiftedProgram.{lifted_of}
use Rattle.wasm_core.specs.ModuleCondition.{IsModule}
use Rattle.known_calls.proofs.KnownEmitting.{parts_made}
use Rattle.known_calls.proofs.emission.assembled.Goals as goal

pub new-requires : goal.new-requires
new-requires c =
    let made = parts_made (lifted_of c.args.p.now) c.args.pages c.entry_count-entries.result c.in_ok-types.types c.in_ok-funcs.funcs c.args.globals c.args.exports c.in_ok-elements.elements c.of.result c.args.bodies.items
    c.entry_count-entries.ensures.is c.in_ok-types.ensures.is c.in_ok-funcs.ensures.is c.in_ok-elements.ensures.is c.of.ensures.items in
    record { is_module = subst IsModule (sym made) c.requires.module }

pub returns-clause-is : goal.returns-clause-is
returns-clause-is c =
    c.new.ensures.parts
    ∙ parts_made (lifted_of c.args.p.now) c.args.pages c.entry_count-entries.result c.in_ok-types.types c.in_ok-funcs.funcs c.args.globals c.args.exports c.in_ok-elements.elements c.of.result c.args.bodies.items
    c.entry_count-entries.ensures.is c.in_ok-types.ensures.is c.in_ok-funcs.ensures.is c.in_ok-elements.ensures.is c.of.ensures.items
