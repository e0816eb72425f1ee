use Rattle.std.proofs.Common.{◌≡◌, ℕ, ◌*◌, ◌/◌, Bool, IfOk, MatchBool, subst, arith}
use Rattle.mem_value.specs.Tells.{HasData}
use Rattle.mem_value.proofs.Searching.{odd_has}
use Rattle.mem_value.proofs.blocks.stands.Goals as goal

pub returns-then-word-eq1 : goal.returns-then-word-eq1
returns-then-word-eq1 c = record { is = odd_has c.args.memory.now c.args.word c.if-word-eq1.true }

pub returns : goal.returns
returns c =
    let m = c.args.memory.now in
    let e : 4 * (c.args.word / 4) ≡ c.args.word = omega arith in
    record { is = subst (λ (x : ℕ). IfOk c.address_stands.result (λ (b : Bool). MatchBool b (HasData m x) (HasData m x → ⊥))) e c.address_stands.ensures.is }
