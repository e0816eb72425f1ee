use Rattle.std.proofs.Common.{◌≡◌, IfOk, Some, None, length, ap, sym, subst, ◌∙◌, arith}
use Rattle.std.proofs.lemmas.Grind.{common_steps}
use Rattle.std.specs.Prelude.{nat_eq}
use Rattle.std.specs.HashMap.{get}
use Rattle.std.specs.Option.{unwrap_or}
use Rattle.closure_lift.specs.LiftedProgram.{place_in, lifted_of}
use Rattle.wasm_emit.specs.EmittedCode.{constant_index}
use Rattle.wasm_emit.proofs.functions.index_of_constant.Goals as goal
use Rattle.wasm_emit.proofs.functions.index_of_constant.Goals.{in-Some, in-None}

pub returns-clause-is : goal.returns-clause-is
returns-clause-is c =
    let cs = c.args.p.now.constants in
    let at = c.requires.numbered.at c.args.name.0 in
    let e : c.match-get.number ≡ place_in cs c.args.name.0 = elim c.match-get.branch [
      | in-Some w ↦ (let f : get nat_eq c.args.numbers.now c.args.name.0 ≡ Some c.match-get.number = grind (arith, common_steps) in sym (ap (λ o. unwrap_or o (length cs)) f) ∙ at)
      | in-None w ↦ (let f : get nat_eq c.args.numbers.now c.args.name.0 ≡ None = grind (arith, common_steps) in
          let n : c.match-get.number ≡ length cs = grind (arith, common_steps) in
          n ∙ sym (ap (λ o. unwrap_or o (length cs)) f) ∙ at)
    ] in
    subst (λ j. IfOk c.function_index.result (λ i. i ≡ constant_index (lifted_of c.args.p.now) j)) e c.function_index.ensures.is
