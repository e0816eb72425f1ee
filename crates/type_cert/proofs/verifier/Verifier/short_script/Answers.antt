use Rattle.std.proofs.Common.{rules, ◌≡◌, ◌<◌, length, suc, ◌-◌}
use Rattle.pc_rules.specs.Entailment.{test_of}
use Rattle.pc_rules.proofs.Meters.{after-refl}
use Rattle.conversion.specs.Modes.{is_equal}
use Rattle.type_cert.specs.Going.{going}
use Rattle.type_cert.proofs.Scripting.{item_there, script_nested, script_same}
use Rattle.type_cert.proofs.verifier.Verifier.short_script.Goals as goal

pub returns-then-self-eq0 : goal.returns-then-self-eq0
returns-then-self-eq0 c =
    let v = c.args.self.now in
    record { retraces = λ V. script_nested v.cert.now v.env.now (test_of v.env.now) V (is_equal c.args.mode) c.args.a.now c.args.b.now v.room c.args.trail.now c.args.trail.now (search rules) (after-refl c.args.trail.now.meter) }

pub returns : goal.returns
returns c =
    let v = c.args.self.now in
    let z : v.room ≡ suc (v.room - 1) = search rules in
    record { retraces = λ V. script_same v.cert.now v.env.now (test_of v.env.now) V (is_equal c.args.mode) c.args.a.now c.args.b.now v.room (v.room - 1) (going v) z c.requires.next (c.same_item.ensures.retraces V) }

pub same_item-requires : goal.same_item-requires
same_item-requires c =
    let there : c.args.trail.now.at < length c.args.self.now.cert.now = item_there _ _ _ c.requires.next in
    search rules
