use Rattle.std.proofs.Common.{rules, ◌≡◌, ◌∷◌, length, reverse, sym, subst, refl, Err}
use Rattle.wasm_decode.specs.Reading.{ReadsInstrs}
use Rattle.wasm_decode.proofs.Opens.{Instructing, instructed, failed, ended, opened, none_open, known}
use Rattle.wasm_decode.proofs.bodies.instrs.Goals as goal

pub returns-in_err-i : goal.returns-in_err-i
returns-in_err-i c =
    let q : c.from_residual-in_err-i.result ≡ Err c.in_err-i.field-0.0 = search rules in
    let o : Instructing c.args.c.now c.loop-may_else.c (c.in-Some.may_else ∷ reverse c.pop.new.self.items) c.loop-may_else.code.items = known (opened _ _ _ c.in-Some.ensures.items) refl c.loop-may_else.invariant in
    record { reads = subst (λ r. ReadsInstrs r c.args.c.now c.instr.new.c (λ v. v.items)) (sym q) (failed _ _ _ _ _ _ (λ x. x) _ _ o c.in_err-i.ensures.reads) }

pub loop-may_else-preserved : goal.loop-may_else-preserved
loop-may_else-preserved c =
    let o : Instructing c.args.c.now c.loop-may_else.c (c.in-Some.may_else ∷ reverse c.pop.new.self.items) c.loop-may_else.code.items = known (opened _ _ _ c.in-Some.ensures.items) refl c.loop-may_else.invariant in
    known (sym c.in_ok-follow.ensures.opens) (sym c.in_ok-push-2.ensures.items) (instructed _ _ _ _ _ _ (λ x. x) _ o c.in_ok-i.ensures.reads)

pub returns : goal.returns
returns c =
    let l : length c.loop-may_else.opens.items ≡ 0 = search rules in
    record { reads = ended _ _ _ _ (λ v. v.items) c.shrink_to_fit.new.self c.loop-may_else.invariant (none_open _ l) (sym c.shrink_to_fit.ensures.items) }
