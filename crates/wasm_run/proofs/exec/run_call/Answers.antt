use Rattle.std.proofs.Common.{ℕ, ◌+◌, ◌∙◌, ◌++◌, ◌∷◌, [], length, drop, ap, refl}
use Rattle.wasm_core.specs.Instance.{func_of}
use Rattle.wasm_run.specs.Shape.{Shape}
use Rattle.wasm_run.specs.Threads.{store_in}
use Rattle.wasm_run.proofs.Threads.{call_some}
use Rattle.wasm_run.proofs.exec.run_call.Goals as goal

abbrev waiting : Shape → ℕ → ℕ → Shape
waiting s n next = record s { at = next; vals = drop n s.vals }

pub returns : goal.returns
returns c =
    let m = c.args.program.now in let t = c.args.thread.now in let s = t.current in
    let of = c.func_type-of.result.now in
    let hn = c.replace-caller.ensures.after ∙ c.in_ok-frame.ensures.is in
    let w = c.replace-caller.ensures.value ∙ c.go.ensures.is ∙ ap (λ (x : Shape). record x { at = c.args.next }) c.in_ok-frame.ensures.frame ∙ ap (waiting s (length of.params)) c.requires.next in
    let hc = c.in_ok-push.ensures.items ∙ ap (λ (x : Shape). t.callers.items ++ x ∷ []) w in
    record { is = call_some m (store_in t) t.callers.items s c.args.index (func_of m c.args.index) refl c.requires.func c.requires.some of c.func_type-of.ensures.is c.locals-others.result.now c.locals-others.ensures.is c.replace-caller.new.dest hn c.push.new.self.items hc }
