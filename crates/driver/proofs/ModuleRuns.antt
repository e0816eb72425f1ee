-- What the run of an emitted module says: a machine of it is made, and its status tells of a refused grow.
use Rattle.std.proofs.Common.{ℕ, ◌≡◌, ◌<◌, ◌≤◌, None, Err, IsTrue, sym, subst, arith}
use Rattle.lambda_box.specs.BoxProgram.{BoxProgram}
use Rattle.wasm_core.specs.declared.ended.Ended.TheVariants.{Trapped}
use Rattle.wasm_core.specs.declared.ended.TrapKind.{TrapKind}
use Rattle.wasm_core.specs.Parts.{Parts}
use Rattle.wasm_core.specs.MachineStep.{Over}
use Rattle.wasm_core.specs.MachineRun.{refusal}
use Rattle.wasm_core.proofs.Trees.{moves_are_steps}
use Rattle.known_calls.specs.KnownModule.{module_of}
use Rattle.known_calls.specs.KnownLaws.{KnownStatusTells}
use Rattle.back_end.specs.BackEnd.{passed}
use Rattle.compile.specs.Passes.{Fits}
use Rattle.compile.proofs.Starting.{never_refused}
use Rattle.module_run.specs.declared.refusal.RunRefusal.TheVariants as running
use Rattle.module_run.specs.Ends.{Ends, IsSmall, IsTrapped}
use Rattle.driver.specs.ExecEnds.{IsExhausted}

-- what is known of the module
abbrev pub IsCompiled : (pages : ℕ) → Parts → BoxProgram → Type 0
IsCompiled pages m P = Fits P × (m ≡ module_of (passed P) pages)

pub machine_made : (pages : ℕ) → 0 < pages → (m : Parts) (P : BoxProgram) → IsCompiled pages m P → refusal m pages ≡ None
machine_made pages pos m P (fits, is) = subst (λ x. refusal x pages ≡ None) (sym is) (never_refused (passed P) pages pos (let h = fits.few in omega (arith, h)))

refused_grow : (pages steps : ℕ) → pages ≤ 16384 → KnownStatusTells → (P : BoxProgram) (kind : TrapKind) (x : IsTrapped (module_of (passed P) pages) pages steps kind 1) → IsTrue x.store.refused
refused_grow pages steps few tells P kind x =
    let m = module_of (passed P) pages in
    let reach = moves_are_steps m pages x.run.steps x.run.first (Over (Trapped kind) x.store) x.run.moves in
    tells (passed P) pages x.run.first x.run.steps (Over (Trapped kind) x.store) few x.run.starts reach x.status_is

pub exhausted_says : (pages steps : ℕ) → pages ≤ 16384 → KnownStatusTells → (m : Parts) (P : BoxProgram) → IsCompiled pages m P → Ends m pages steps (Err running.Exhausted) → IsSmall m × IsExhausted m pages steps
exhausted_says pages steps few tells m P (fits, is) h =
    let g = subst (λ x. Ends x pages steps (Err running.Exhausted)) is h in
    subst (λ x. IsSmall x × IsExhausted x pages steps) (sym is) (g.0, (g.1.0, g.1.1, refused_grow pages steps few tells P g.1.0 g.1.1))
