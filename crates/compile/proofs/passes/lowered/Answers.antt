use Rattle.std.proofs.lemmas.Result.{err_from_is_err_and}
use Rattle.anf_convert.specs.Renumbering.{anf_of}
use Rattle.closure_lift.specs.LiftedProgram.{lifted_of}
use Rattle.compile.specs.Passes.{of_pass, of_lifting}
use Rattle.compile.proofs.Emitting.{none_ok, refused_at, no_memory, too_deep, Passed, not_lifted, lifted_is, emits, all_lower}
use Rattle.compile.proofs.passes.lowered.Goals as goal

pub returns-in_err-ordinary : goal.returns-in_err-ordinary
returns-in_err-ordinary c =
    let P = c.args.p.now in
    let f = c.in_err-ordinary.field-0.0 in
    let r = c.from_residual.result in
    let exit = err_from_is_err_and r c.from_residual.ensures.1 in
    record { is = none_ok _ r (of_pass f) exit; emits = none_ok _ r (of_pass f) exit; lowers = none_ok _ r (of_pass f) exit; refused = refused_at P r (of_pass f) exit (no_memory P f c.in_err-ordinary.ensures.only_memory) }

pub returns-in_err-saturated : goal.returns-in_err-saturated
returns-in_err-saturated c =
    let P = c.args.p.now in
    let f = c.in_err-saturated.field-0.0 in
    let r = c.from_residual-in_err-saturated.result in
    let exit = err_from_is_err_and r c.from_residual-in_err-saturated.ensures.1 in
    record { is = none_ok _ r (of_pass f) exit; emits = none_ok _ r (of_pass f) exit; lowers = none_ok _ r (of_pass f) exit; refused = refused_at P r (of_pass f) exit (too_deep P c.in_ok-ordinary.ordinary c.in_ok-ordinary.ensures.is f c.in_err-saturated.ensures.too_deep) }

pub returns-in_err-inlined : goal.returns-in_err-inlined
returns-in_err-inlined c =
    let P = c.args.p.now in
    let f = c.in_err-inlined.field-0.0 in
    let r = c.from_residual-in_err-inlined.result in
    let exit = err_from_is_err_and r c.from_residual-in_err-inlined.ensures.1 in
    record { is = none_ok _ r (of_pass f) exit; emits = none_ok _ r (of_pass f) exit; lowers = none_ok _ r (of_pass f) exit; refused = refused_at P r (of_pass f) exit (no_memory P f c.in_err-inlined.ensures.only_memory) }

pub returns-in_err-shrunk : goal.returns-in_err-shrunk
returns-in_err-shrunk c =
    let P = c.args.p.now in
    let f = c.in_err-shrunk.field-0.0 in
    let r = c.from_residual-in_err-shrunk.result in
    let exit = err_from_is_err_and r c.from_residual-in_err-shrunk.ensures.1 in
    record { is = none_ok _ r (of_pass f) exit; emits = none_ok _ r (of_pass f) exit; lowers = none_ok _ r (of_pass f) exit; refused = refused_at P r (of_pass f) exit (no_memory P f c.in_err-shrunk.ensures.only_memory) }

pub returns-in_err-normal : goal.returns-in_err-normal
returns-in_err-normal c =
    let P = c.args.p.now in
    let f = c.in_err-normal.field-0.0 in
    let r = c.from_residual-in_err-normal.result in
    let exit = err_from_is_err_and r c.from_residual-in_err-normal.ensures.1 in
    record { is = none_ok _ r (of_pass f) exit; emits = none_ok _ r (of_pass f) exit; lowers = none_ok _ r (of_pass f) exit; refused = refused_at P r (of_pass f) exit (no_memory P f c.in_err-normal.ensures.only_memory) }

pub returns-in_err-lifted : goal.returns-in_err-lifted
returns-in_err-lifted c =
    let x : Passed c.args.p.now c.in_ok-saturated.saturated (anf_of c.in_ok-normal.normal) =
    record { O = c.in_ok-ordinary.ordinary; I = c.in_ok-inlined.inlined; D = c.in_ok-shrunk.shrunk; o = c.in_ok-ordinary.ensures.is; s = c.in_ok-saturated.ensures.is; i = c.in_ok-inlined.ensures.is; d = c.in_ok-shrunk.ensures.is; a = c.in_ok-normal.ensures.is } in
    let P = c.args.p.now in
    let f = c.in_err-lifted.field-0.0 in
    let r = c.from_residual-in_err-lifted.result in
    let exit = err_from_is_err_and r c.from_residual-in_err-lifted.ensures.1 in
    let h = not_lifted P c.in_ok-saturated.saturated (anf_of c.in_ok-normal.normal) x c.in_ok-saturated.ensures.shallow f c.in_err-lifted.ensures.refused in
    record { is = none_ok _ r (of_lifting f) exit; emits = none_ok _ r (of_lifting f) exit; lowers = none_ok _ r (of_lifting f) exit; refused = refused_at P r (of_lifting f) exit h }

pub returns : goal.returns
returns c =
    let x : Passed c.args.p.now c.in_ok-saturated.saturated (anf_of c.in_ok-normal.normal) =
    record { O = c.in_ok-ordinary.ordinary; I = c.in_ok-inlined.inlined; D = c.in_ok-shrunk.shrunk; o = c.in_ok-ordinary.ensures.is; s = c.in_ok-saturated.ensures.is; i = c.in_ok-inlined.ensures.is; d = c.in_ok-shrunk.ensures.is; a = c.in_ok-normal.ensures.is } in
    let P = c.args.p.now in
    let S = c.in_ok-saturated.saturated in
    let A = anf_of c.in_ok-normal.normal in
    let Q = lifted_of c.in_ok-lifted.lifted in
    let h = c.in_ok-lifted.ensures in
    let shallow = c.in_ok-saturated.ensures.shallow in
    record {
      is = lifted_is P S A x Q h.is;
      emits = emits P S A x Q h.is c.requires.form shallow h.captures h.constants h.functions;
      lowers = all_lower P S A x Q h.is shallow h.captures h.functions;
      refused = tt;
    }
