use Rattle.std.proofs.Common.{◌∙◌, ◌<◌, length, sym, ap, subst, refl}
use Rattle.std.specs.Prelude.{slice_get}
use Rattle.std.proofs.lemmas.Option.{slice_get_read}
use Rattle.wasm_core.specs.Runs.{grants}
use Rattle.wasm_run.specs.Threads.{conf_of}
use Rattle.wasm_run.proofs.Threads.{read_within}
use Rattle.wasm_run.proofs.exec.instr_at.Goals as goal

pub returns : goal.returns
returns c =
    let m = c.args.program.now in let t = c.args.thread.now in let code = c.args.code.now in
    let lt = subst (λ k. k < length code) (sym c.at-at.ensures.is) (read_within m (grants c.args.cap (conf_of m t)) t code c.requires.code c.requires.some) in
    record {
      is = ap (λ cs. slice_get cs t.current.at) (sym c.requires.code)
          ∙ ap (slice_get code) (sym c.at-at.ensures.is)
          ∙ slice_get_read code (length code) c.at-at.result c.index-code-at.result refl lt c.index-code-at.is;
    }
