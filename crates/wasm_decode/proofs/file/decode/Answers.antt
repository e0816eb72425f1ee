use Rattle.std.proofs.Common.{rules, Ok}
use Rattle.wasm_core.specs.ModuleGrammar.{Explains}
use Rattle.wasm_core.proofs.Exact.{answers, refuses}
use Rattle.wasm_decode.proofs.file.decode.Goals as goal

pub returns-in_err-types-clause-answers : goal.returns-in_err-types-clause-answers
returns-in_err-types-clause-answers c =
    let e : Explains c.from_residual.result c.args.bytes.now = search rules in
    answers c.from_residual.result c.args.bytes.now e

pub returns-in_err-types-clause-refuses : goal.returns-in_err-types-clause-refuses
returns-in_err-types-clause-refuses c =
    let e : Explains c.from_residual.result c.args.bytes.now = search rules in
    refuses c.from_residual.result c.args.bytes.now e

pub returns-clause-answers : goal.returns-clause-answers
returns-clause-answers c =
    let e : Explains (Ok c.new.result) c.args.bytes.now = search rules in
    answers (Ok c.new.result) c.args.bytes.now e

pub returns-clause-refuses : goal.returns-clause-refuses
returns-clause-refuses c =
    let e : Explains (Ok c.new.result) c.args.bytes.now = search rules in
    refuses (Ok c.new.result) c.args.bytes.now e
