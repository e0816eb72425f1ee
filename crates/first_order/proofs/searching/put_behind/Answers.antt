use Rattle.std.proofs.Common.{◌≡◌, ◌∷◌, [], ◌++◌, length, refl, arith}
use Rattle.first_order.specs.Searching.{found_at}
use Rattle.first_order.proofs.Searches.{passes_memory}
use Rattle.first_order.proofs.Working.{behind_spent, behind_done}
use Rattle.first_order.proofs.searching.put_behind.Goals as goal
use Rattle.pc_rules.proofs.Meters.{no_more}

pub returns-then-not-tick-clause-follows : goal.returns-then-not-tick-clause-follows
returns-then-not-tick-clause-follows c =
    let room : length c.args.types.now.items ≡ 1024 → ⊥ = λ e. omega (arith, e) in
    behind_spent c.args.types.now.items c.args.ty c.args.m.now c.tick.new.self room c.tick.ensures.account c.tick.ensures.nest
    (no_more c.tick.result c.args.m.now.account.left c.tick.ensures.was c.if-not-tick.true)

pub returns-in_err-put-clause-follows : goal.returns-in_err-put-clause-follows
returns-in_err-put-clause-follows c =
    let room : length c.args.types.now.items ≡ 1024 → ⊥ = λ e. omega (arith, e) in
    let f = behind_done c.args.types.now.items c.args.ty c.args.m.now c.tick.new.self room c.tick.ensures.account c.tick.ensures.nest
    (c.tick.ensures.was.0 c.if-not-tick.false) (c.args.types.now.items ++ (c.args.ty ∷ [])) (length c.args.types.now.items) refl refl in
    passes_memory _ (found_at c.put.new.items.items) _ _ c.args.m.now c.tick.new.self c.in_err-put.ensures.only_memory c.from_residual.ensures.1 f.after f.leaves

pub returns-clause-follows : goal.returns-clause-follows
returns-clause-follows c =
    let room : length c.args.types.now.items ≡ 1024 → ⊥ = λ e. omega (arith, e) in
    let place : c.len-place.result ≡ length c.args.types.now.items = omega arith in
    behind_done c.args.types.now.items c.args.ty c.args.m.now c.tick.new.self room c.tick.ensures.account c.tick.ensures.nest
    (c.tick.ensures.was.0 c.if-not-tick.false) c.put.new.items.items c.len-place.result c.in_ok-put.ensures.ok place
