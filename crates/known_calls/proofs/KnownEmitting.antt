-- The parts of modules with workers, and that emission's modules are valid and fit.
use Rattle.std.proofs.Common.{◌≡◌, ℕ, suc, ◌+◌, ◌-◌, ◌<◌, ◌≤◌, List, [], ◌∷◌, ◌++◌, append_assoc, length, map, max, replicate, Some, Bool, true, false, refl, ap, sym, ◌∙◌, arith}
use Rattle.std.proofs.lemmas.List.{length-map}
use Rattle.std.specs.Prelude.{nat_le, if◌then◌else◌}
use Rattle.closure_lift.specs.Lifted.{Block, Fn, Program}
use Rattle.closure_lift.specs.LiftedProgram.{renumber, place_in, lifted_of}
use Rattle.closure_lift.specs.LiftedView.{functions_of}
use Rattle.closure_lift.specs.declared.program.Function.{Function}
use Rattle.closure_lift.specs.declared.program.Lifted.{Lifted}
use Rattle.closure_lift.specs.declared.program.LiftedConstant.{LiftedConstant}
use Rattle.wasm_core.specs.declared.types.ValType.TheVariants as type
use Rattle.wasm_core.specs.declared.types.FuncType.{FuncType}
use Rattle.wasm_core.specs.declared.types.GlobalDef.{GlobalDef}
use Rattle.wasm_core.specs.declared.exports.Export.{Export}
use Rattle.wasm_core.specs.declared.elements.Segment.{Segment}
use Rattle.wasm_core.specs.declared.instrs.Body.{Body}
use Rattle.wasm_core.specs.ModuleCondition.{IsModule}
use Rattle.wasm_core.specs.ModuleTyping.{IsValid}
use Rattle.wasm_emit.specs.CallModule.{call_exports}
use Rattle.wasm_emit.specs.EmittedModule.{entries, main_index}
use Rattle.wasm_emit.specs.Emission.{Emits, exports_with}
use Rattle.wasm_emit.specs.EmittedBodies.{FewLocals}
use Rattle.closure_lift.proofs.Counted.{functions_length, renumbered_length}
use Rattle.wasm_emit.proofs.Emitting.{times, counts_fit}
use Rattle.known_calls.specs.KnownCode.{is_wide}
use Rattle.known_calls.specs.KnownModule.{words_type, words_types, widest_worker, worker_type, numbered, main_function, module_of}
use Rattle.known_calls.specs.KnownCalls.{call_function, module_of_call}
use Rattle.known_calls.specs.KnownEmission.{bodies_with, worker_types, parts_with}
use Rattle.known_calls.proofs.KnownSpelling.{known_spelled, known_call_spelled}
use Rattle.known_calls.proofs.KnownValidity.{known_valid, calls_valid}

pub type_of_words : (k : ℕ) (t : FuncType) → t ≡ record { params = replicate (k + 1) type.I32; result = Some type.I32 } → t ≡ words_type k
type_of_words k t e = let s : k + 1 ≡ suc k = omega arith in e ∙ ap (λ (n : ℕ). record { params = replicate n type.I32; result = Some type.I32 }) s

-- the next type of a worker
pub words_types_more : (v w out : List FuncType) (t : FuncType) (k n : ℕ) → w ≡ v ++ t ∷ [] → t ≡ words_type k → k < n → v ++ words_types k (n - k) ≡ out → w ++ words_types (k + 1) (n - (k + 1)) ≡ out
words_types_more v w out t k n more is lt inv =
    let s : n - k ≡ suc (n - (k + 1)) = omega arith in
    let next : suc k ≡ k + 1 = omega arith in
    ap (λ (zs : List FuncType). zs ++ words_types (k + 1) (n - (k + 1))) more ∙ append_assoc v (t ∷ []) (words_types (k + 1) (n - (k + 1)))
    ∙ ap (λ (x : FuncType). v ++ (x ∷ words_types (k + 1) (n - (k + 1)))) is
    ∙ ap (λ (j : ℕ). v ++ (words_type k ∷ words_types j (n - (k + 1)))) (sym next)
    ∙ ap (λ (j : ℕ). v ++ words_types k j) (sym s) ∙ inv

-- the next function, in the greatest number of types
pub widest_more : (f : Fn) (fs : List Fn) (n m k : ℕ) → k ≡ f.captured → (if nat_le 8 k then n else max (suc k) n) ≡ m → max n (widest_worker (f ∷ fs)) ≡ max m (widest_worker fs)
widest_more f fs n m k same e = either (is_wide f) refl e
  where
    either : (b : Bool) → is_wide f ≡ b → (if nat_le 8 k then n else max (suc k) n) ≡ m → max n (if is_wide f then widest_worker fs else max (suc f.captured) (widest_worker fs)) ≡ max m (widest_worker fs)
    either true wide h =
        let kept : n ≡ m = sym (ap (λ (b : Bool). if b then n else max (suc k) n) (ap (λ (j : ℕ). nat_le 8 j) same ∙ wide)) ∙ h in
        ap (λ (b : Bool). max n (if b then widest_worker fs else max (suc f.captured) (widest_worker fs))) wide ∙ ap (λ (j : ℕ). max j (widest_worker fs)) kept
    either false narrow h =
        let grown : max (suc k) n ≡ m = sym (ap (λ (b : Bool). if b then n else max (suc k) n) (ap (λ (j : ℕ). nat_le 8 j) same ∙ narrow)) ∙ h in
        let z : max n (max (suc f.captured) (widest_worker fs)) ≡ max m (widest_worker fs) = omega (arith, grown, same) in
        ap (λ (b : Bool). max n (if b then widest_worker fs else max (suc f.captured) (widest_worker fs))) narrow ∙ z

-- the number of a worker's type
pub type_is : (f : Fn) → (if nat_le 8 f.captured then 0 else f.captured + 3) ≡ worker_type f
type_is f = let e : f.captured + 3 ≡ suc (suc (suc f.captured)) = omega arith in ap (λ (n : ℕ). if nat_le 8 f.captured then 0 else n) e

all_workers : (i : ℕ) (fs : List Fn) → worker_types fs ≡ numbered (λ g f. worker_type f) i fs
all_workers i [] = refl
all_workers i (f ∷ fs) = ap (λ (zs : List ℕ). worker_type f ∷ zs) (all_workers (suc i) fs)

all_twos : (i : ℕ) (fs : List Fn) → replicate {A = ℕ} (length fs) 2 ≡ numbered (λ g f. 2) i fs
all_twos i [] = refl
all_twos i (f ∷ fs) = ap (λ (zs : List ℕ). 2 ∷ zs) (all_twos (suc i) fs)

pub funcs_made : (Q : Lifted) (items : List Function) (n k : ℕ) (v0 v1 v2 v3 v4 : List ℕ) → functions_of items ≡ Q.functions → n ≡ length items → k ≡ length Q.constants → v0 ≡ 0 ∷ 2 ∷ [] → v1 ≡ v0 ++ replicate n 2 → v2 ≡ v1 ++ replicate k 1 → v3 ≡ v2 ++ 0 ∷ [] →
    v4 ≡ v3 ++ worker_types ((lifted_of Q).functions) → v4 ≡ (module_of (lifted_of Q) 0).funcs
funcs_made Q items n k v0 v1 v2 v3 v4 same en ek e0 e1 e2 e3 e4 =
    let P = lifted_of Q in
    let cn : n ≡ length P.functions = en ∙ sym (functions_length items) ∙ ap length same ∙ sym (renumbered_length (place_in Q.constants) Q.functions) in
    let ck : k ≡ length P.constants = ek ∙ sym (length-map Q.constants (λ (c : LiftedConstant). renumber (place_in Q.constants) c.body)) in
    let fs : replicate {A = ℕ} n 2 ≡ numbered (λ g f. 2) 0 P.functions = ap (λ (j : ℕ). replicate j 2) cn ∙ all_twos 0 P.functions in
    let cs : replicate {A = ℕ} k 1 ≡ map (λ (t : Block). 1) P.constants = ap (λ (j : ℕ). replicate j 1) ck ∙ times 1 P.constants in
    let xs = numbered (λ g f. 2) 0 P.functions in
    let ys = map (λ (t : Block). 1) P.constants in
    let zs' = numbered (λ g f. worker_type f) 0 P.functions in
    let w3 : v3 ≡ 0 ∷ 2 ∷ ((xs ++ ys) ++ 0 ∷ []) = rw (e3, e2, e1, e0, fs, cs) refl in
    e4 ∙ ap (λ (zs : List ℕ). zs ++ worker_types P.functions) w3 ∙ ap (λ (zs : List ℕ). 0 ∷ 2 ∷ (((xs ++ ys) ++ 0 ∷ []) ++ zs)) (all_workers 0 P.functions)
    ∙ ap (λ (zs : List ℕ). 0 ∷ 2 ∷ zs) (append_assoc (xs ++ ys) (0 ∷ []) zs' ∙ append_assoc xs ys (0 ∷ zs'))

pub emits_module : (P : Program) (pages : ℕ) → 0 < pages → pages ≤ 16384 → Emits P → FewLocals P → IsModule (module_of P pages)
emits_module P pages pos small x few = known_spelled P pages x.most pos small x.formed x.within (counts_fit P x few)

pub emits_valid : (P : Program) (pages : ℕ) → 0 < pages → pages ≤ 16384 → Emits P → IsValid (module_of P pages)
emits_valid P pages pos small x = known_valid P pages x.most pos small x.formed

pub emits_call_module : (P : Program) (k pages : ℕ) → k ≤ 255 → 0 < pages → pages ≤ 16384 → Emits P → FewLocals P → IsModule (module_of_call P k pages)
emits_call_module P k pages few_arguments pos small x few = known_call_spelled P k pages x.most few_arguments pos small x.formed x.within (counts_fit P x few)

pub emits_call_valid : (P : Program) (k pages : ℕ) → 0 < pages → pages ≤ 16384 → Emits P → IsValid (module_of_call P k pages)
emits_call_valid P k pages pos small x = calls_valid P k pages x.most pos small x.formed

-- the parts of every module of a program, with the bodies, globals and exports of one
pub parts_made : (P : Program) (pages n : ℕ) (ts : List FuncType) (fs : List ℕ) (gs : List GlobalDef) (es : List Export) (ss : List Segment) (bs cs : List Body) →
    n ≡ length P.functions + 1 → ts ≡ (module_of P 0).types → fs ≡ (module_of P 0).funcs → ss ≡ record { offset = 0; funcs = entries 1 n } ∷ [] → bs ≡ cs →
    record { types = ts; funcs = fs; table = Some (record { min = n; max = Some n }); memory = Some (record { min = 1; max = Some pages }); globals = gs; exports = es; elements = ss; bodies = bs } ≡ parts_with P cs gs es pages
parts_made P pages n ts fs gs es ss bs cs en et ef es' eb = let count : n ≡ suc (length P.functions) = omega arith in rw (et, ef, es', eb, count) refl

pub module_made : (P : Program) (pages main : ℕ) (gs : List GlobalDef) (es : List Export) (bs : List Body) → bs ≡ bodies_with P (main_function P) → main ≡ main_index P → gs ≡ (module_of P 0).globals → es ≡ exports_with main →
    parts_with P bs gs es pages ≡ module_of P pages
module_made P pages main gs es bs eb em eg ee = rw (eb, eg, ee, em) refl

pub call_module_made : (P : Program) (k pages main : ℕ) (gs : List GlobalDef) (es : List Export) (bs : List Body) → bs ≡ bodies_with P (call_function P k) → main ≡ main_index P → gs ≡ (module_of_call P k 0).globals → es ≡ exports_with main ++ call_exports →
    parts_with P bs gs es pages ≡ module_of_call P k pages
call_module_made P k pages main gs es bs eb em eg ee = rw (eb, eg, ee, em) refl
