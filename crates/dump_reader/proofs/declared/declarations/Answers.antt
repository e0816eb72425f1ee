use Rattle.std.proofs.Common.{rules, ◌≡◌, Err, length, arith}
use Rattle.dump_reader.proofs.Sequences.{all_read, next_refused, none_read, one_read}
use Rattle.dump_reader.proofs.declared.declarations.Goals as goal

pub loop-items-init : goal.loop-items-init
loop-items-init c = none_read c.args.parser.now c.args.tables.now c.new-items.result.items (search rules)

pub loop-items-preserved : goal.loop-items-preserved
loop-items-preserved c =
    let len : c.len.result ≡ c.loop-items.items.len = c.len.ensures in
    let many : c.len.result ≡ length c.loop-items.items.items = omega (arith, len, c.loop-items.items.ok.0) in
    one_read c.args.parser.now c.loop-items.parser c.declaration.new.self c.loop-items.invariant c.len.result many c.in_ok-tree.field-0 c.in_ok-tree.ensures.reads c.in-Some.tree c.in_ok-item.item c.push.new.self.items c.in-Some.is
    c.in_ok-item.ensures.made c.in_ok-push.ensures.items

pub returns-in_err-tree : goal.returns-in_err-tree
returns-in_err-tree c =
    let len : c.len.result ≡ c.loop-items.items.len = c.len.ensures in
    let many : c.len.result ≡ length c.loop-items.items.items = omega (arith, len, c.loop-items.items.ok.0) in
    let q : c.from_residual.result ≡ Err c.in_err-tree.field-0.0 = search rules in
    record { made = next_refused c.args.parser.now c.loop-items.parser c.declaration.new.self c.loop-items.invariant c.len.result many c.loop-items.tables c.in_err-tree.field-0.0 c.from_residual.result q c.in_err-tree.ensures.reads }

pub returns : goal.returns
returns c =
    let len : c.len.result ≡ c.loop-items.items.len = c.len.ensures in
    let many : c.len.result ≡ length c.loop-items.items.items = omega (arith, len, c.loop-items.items.ok.0) in
    record { made = all_read c.args.parser.now c.loop-items.parser c.declaration.new.self c.loop-items.invariant c.len.result many c.in_ok-tree.field-0 c.in_ok-tree.ensures.reads c.in_default.is }
