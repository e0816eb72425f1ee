use Rattle.std.proofs.Common.{arith, ◌≡◌, ◌-◌, ◌<◌, suc, length, ap, sym, ◌∙◌, subst, IfOk, IfErr}
use Rattle.anf_convert.specs.Anf.{def_count}
use Rattle.anf_convert.specs.Captured.{fix_captured}
use Rattle.closure_lift.specs.Lifting.{most_words, LiftRefuses}
use Rattle.closure_lift.proofs.Walking.{words_are, no_words, few_words}
use Rattle.closure_lift.proofs.lift.fix_words.Goals as goal

pub returns-then-len-eq0-clause-is : goal.returns-then-len-eq0-clause-is
returns-then-len-eq0-clause-is c =
    let n : def_count c.args.defs.now ≡ 0 = omega arith in
    c.new.ensures.empty ∙ sym (no_words c.args.variables.now.0 c.args.defs.now n)

pub returns-then-len-eq0-clause-few : goal.returns-then-len-eq0-clause-few
returns-then-len-eq0-clause-few c =
    let n : def_count c.args.defs.now ≡ 0 = omega arith in
    let few : length (fix_captured c.args.variables.now.0 c.args.defs.now) ≡ 0 = ap length (no_words c.args.variables.now.0 c.args.defs.now n) in
    omega arith

pub returns-clause-is : goal.returns-clause-is
returns-clause-is c =
    let ds = c.args.defs.now in
    let k : def_count ds ≡ suc (def_count ds - 1) = omega arith in
    subst (λ z. IfOk c.words_at.result (λ ws. ws ≡ z)) (words_are c.args.notes.now c.args.variables.now.0 ds c.args.at c.requires.notes (def_count ds - 1) k) c.words_at.ensures.is

pub returns-clause-few : goal.returns-clause-few
returns-clause-few c =
    let ds = c.args.defs.now in
    let s = c.args.variables.now.0 in
    let k : def_count ds ≡ suc (def_count ds - 1) = omega arith in
    few_words c.words_at.result (fix_captured s ds) (subst (λ z. IfOk c.words_at.result (λ ws. ws ≡ z)) (words_are c.args.notes.now s ds c.args.at c.requires.notes (def_count ds - 1) k) c.words_at.ensures.is) c.words_at.ensures.few

pub returns-clause-refused : goal.returns-clause-refused
returns-clause-refused c =
    let ds = c.args.defs.now in
    let k : def_count ds ≡ suc (def_count ds - 1) = omega arith in
    subst (λ z. IfErr c.words_at.result (LiftRefuses (length z < most_words))) (words_are c.args.notes.now c.args.variables.now.0 ds c.args.at c.requires.notes (def_count ds - 1) k) c.words_at.ensures.refused
