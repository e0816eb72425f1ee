use Rattle.std.proofs.Common.{◌≡◌, ◌∙◌, List, [], None, refl, map, sym, ap, subst, false, true}
use Rattle.std.specs.Prelude.{is_some}
use Rattle.std.specs.Option.{option_map}
use Rattle.std.proofs.lemmas.Option.{same_Some}
use Rattle.wasm_core.specs.declared.types.ConstValue.{ConstValue}
use Rattle.wasm_core.specs.declared.entries.Entry.TheVariants.{Result, Status, Heap, Args}
use Rattle.wasm_core.specs.Parts.{Parts}
use Rattle.wasm_core.specs.Memory.{zeroed}
use Rattle.wasm_core.specs.Instance.{Func, func_of, least, zero_of}
use Rattle.wasm_core.specs.Entries.{index_of}
use Rattle.wasm_core.specs.MachineStep.{State}
use Rattle.wasm_core.specs.ModuleTyping.{IsValid}
use Rattle.wasm_core.specs.Words.{HasWords}
use Rattle.wasm_core.specs.Runs.{start, first_store}
use Rattle.wasm_run.specs.Programs.{locals_at}
use Rattle.wasm_run.specs.Hosting.{IsAtStart}
use Rattle.wasm_run.specs.Machines.{Reached}
use Rattle.wasm_run.specs.Standing.{frames}
use Rattle.wasm_run.specs.Threads.{state_of}
use Rattle.wasm_run.specs.declared.thread.Thread.{Thread}
use Rattle.wasm_run.proofs.Starts.{main_found, main_starts, fresh, first_is}
use Rattle.wasm_run.proofs.machine.Machine.start.Goals as goal

pub locals-requires : goal.locals-requires
locals-requires c =
    let m = c.args.m.now in let f = c.args.entries.main in
    let (g, is, params, none) = main_found m c.requires.valid f c.requires.entries.main in
    record { some = subst (λ (x : Parts). is_some (func_of x f) ≡ true) (sym c.in_ok-program.ensures.is) (ap is_some is) }

pub invariant_of-result : goal.invariant_of-result
invariant_of-result c =
    let m = c.args.m.now in let f = c.args.entries.main in
    let pe = c.in_ok-program.ensures.is in
    let (g, is, params, none) = main_found m c.requires.valid f c.requires.entries.main in
    let lo = same_Some _ _ (sym c.locals.ensures.is ∙ ap (λ (x : Parts). locals_at x f) pe ∙ ap (option_map (λ (g : Func). g.body.locals)) is) in
    let t : Thread = record { current = c.new-current.result; callers = c.new-callers.result; pages = c.least_of-pages.result; memory = c.in_ok-memory.memory; globals = c.in_ok-globals.globals; refused = false; by_choice = false } in
    let cur = c.new-current.ensures.is ∙ ap (λ (ls : List ConstValue). record { func = f; keeps = false; at = 0; locals = ls; vals = []; labels = [] }) (c.in_ok-locals.ensures.is ∙ ap (map zero_of) lo) in
    let size = c.least_of-pages.ensures.is ∙ ap least c.memory.ensures.is in
    let store = first_is m g t size (c.in_ok-memory.ensures.is ∙ ap zeroed size) c.in_ok-globals.ensures.is refl refl in
    let e = fresh m g f is params none t cur c.new-callers.ensures.items store in
    record {
      valid = subst (λ (x : Parts). IsValid x) (sym pe) c.requires.valid;
      words = subst (λ (x : Parts). HasWords x) (sym pe) c.requires.words;
      reached = λ _. subst (λ (x : Parts). Reached x c.args.cap 0 1 (state_of x None t)) (sym pe)
          (record { store = first_store m; own = λ _. refl; ready = c.first_is_ready.ensures.holds m c.requires.valid c.requires.words; first = start m g; starts = main_starts m f g c.requires.fit c.requires.entries.main is; steps = 0; counted = refl; moves = sym e; most = sym (ap frames e) });
      result_at = ap (index_of Result) pe ∙ c.requires.entries.result;
      status_at = ap (index_of Status) pe ∙ c.requires.entries.status;
      heap_at = λ x h. c.requires.entries.heap x (sym (ap (index_of Heap) pe) ∙ h);
      args_at = λ x h. c.requires.entries.args x (sym (ap (index_of Args) pe) ∙ h);
    }

pub returns : goal.returns
returns c =
    let m = c.args.m.now in let f = c.args.entries.main in
    let pe = c.in_ok-program.ensures.is in
    let (g, is, params, none) = main_found m c.requires.valid f c.requires.entries.main in
    let lo = same_Some _ _ (sym c.locals.ensures.is ∙ ap (λ (x : Parts). locals_at x f) pe ∙ ap (option_map (λ (g : Func). g.body.locals)) is) in
    let t : Thread = record { current = c.new-current.result; callers = c.new-callers.result; pages = c.least_of-pages.result; memory = c.in_ok-memory.memory; globals = c.in_ok-globals.globals; refused = false; by_choice = false } in
    let cur = c.new-current.ensures.is ∙ ap (λ (ls : List ConstValue). record { func = f; keeps = false; at = 0; locals = ls; vals = []; labels = [] }) (c.in_ok-locals.ensures.is ∙ ap (map zero_of) lo) in
    let size = c.least_of-pages.ensures.is ∙ ap least c.memory.ensures.is in
    let store = first_is m g t size (c.in_ok-memory.ensures.is ∙ ap zeroed size) c.in_ok-globals.ensures.is refl refl in
    let e = fresh m g f is params none t cur c.new-callers.ensures.items store in
    let seen =
    ap (λ (x : Parts). record { program = x; cap = c.args.cap; state = state_of x None t; made = 0; failed = false }) pe
    ∙ ap (λ (s : State). record { program = m; cap = c.args.cap; state = s; made = 0; failed = false }) e in
    let starts = main_starts m f g c.requires.fit c.requires.entries.main is in
    record {
      is = (start m g, starts, seen);
      start = subst IsAtStart (sym seen) (record { ready = c.first_is_ready.ensures.holds m c.requires.valid c.requires.words; starts = starts });
    }
