-- Bodies of modules with workers, from what was pushed, and lists of them.
use Rattle.std.proofs.Common.{◌≡◌, ℕ, zero, suc, ◌+◌, ◌-◌, ◌<◌, ◌≤◌, List, [], ◌∷◌, ◌++◌, append-nil, append_assoc, length, reverse, drop, get_or, map, max, Bool, true, false, refl, ap, sym, ◌∙◌, arith}
use Rattle.std.proofs.lemmas.List.{reverse-append}
use Rattle.std.specs.Prelude.{nat_le, if◌then◌else◌}
use Rattle.closure_lift.specs.Lifted.{Block, Fn, Program}
use Rattle.closure_lift.specs.LiftedProgram.{renumber, place_in, lifted_of}
use Rattle.closure_lift.specs.declared.program.Function.{Function}
use Rattle.closure_lift.specs.declared.program.Lifted.{Lifted}
use Rattle.closure_lift.specs.declared.program.LiftedConstant.{LiftedConstant}
use Rattle.wasm_core.specs.ModuleCondition.{All}
use Rattle.wasm_core.specs.declared.types.ValType.TheVariants as type
use Rattle.wasm_core.specs.declared.instrs.BlockType.TheVariants.{Value}
use Rattle.wasm_core.specs.declared.instrs.Body.{Body}
use Rattle.wasm_core.specs.declared.instrs.Instr.{Instr}
use Rattle.wasm_core.specs.declared.instrs.Instr.TheVariants.{Unreachable, Loop, End, ReturnCall, LocalGet, GlobalSet}
use Rattle.wasm_emit.specs.EmittedLocals.{top}
use Rattle.wasm_emit.specs.EmittedModule.{room_function, box_function, body}
use Rattle.wasm_emit.specs.EmittedBodies.{FewInFunction, FewInBlock, FewLocals}
use Rattle.wasm_emit.specs.Pushed.{Pushed, function_in}
use Rattle.wasm_emit.proofs.Pushing.{constant_next, top_renumbered, only_pushed, then_pushed}
use Rattle.wasm_emit.proofs.Listed.{same_body, functions_in, constants_in, next_function, one_more}
use Rattle.known_calls.specs.KnownPlaces.{Place, At, InLocal, fields_of}
use Rattle.known_calls.specs.KnownCode.{Inside, Final, InTail, worker_index, code}
use Rattle.known_calls.specs.KnownModule.{params, captured_words, wide_body, stub_code, entry, worker_code, worker, numbered, constant, main_function}
use Rattle.known_calls.specs.KnownCalls.{applied, call_function}
use Rattle.known_calls.specs.KnownPushed.{block_code, argument_code, arguments_code}
use Rattle.known_calls.specs.KnownEmission.{bodies_before_main, bodies_with}

pub wide_made : (Q : Lifted) (f : Function) (ps0 ps1 ps2 : List Place) (n : ℕ) (o0 o1 o2 : List Instr) → ps0 ≡ [] → reverse ps1 ≡ fields_of 0 f.captured (reverse ps0) → ps2 ≡ ps1 ++ At (InLocal 1) ∷ [] → o0 ≡ [] → n ≡ top 2 f.body →
    Pushed o0 o1 (block_code Q (reverse ps2) 2 Final f.body) → Pushed o1 o2 (λ rest. End ∷ rest) → body (n - 2) o2 ≡ wide_body (lifted_of Q) (function_in Q f)
wide_made Q f ps0 ps1 ps2 n o0 o1 o2 absent fields more none e x y =
    let f' = place_in Q.constants in
    let env : reverse ps2 ≡ At (InLocal 1) ∷ fields_of 0 f.captured [] =
    ap reverse more ∙ reverse-append ps1 (At (InLocal 1) ∷ []) ∙ ap (λ (zs : List Place). At (InLocal 1) ∷ zs) (fields ∙ ap (λ (zs : List Place). fields_of 0 f.captured (reverse zs)) absent) in
    let count : n - 2 ≡ top 2 (renumber f' f.body) - 2 = ap (λ (k : ℕ). k - 2) (e ∙ sym (top_renumbered f' 2 f.body)) in
    same_body (n - 2) (top 2 (renumber f' f.body) - 2) o2 _ count (only_pushed o0 o2 none (then_pushed o0 o1 o2 x y) ∙ ap (λ (zs : List Place). code (lifted_of Q) zs 2 Final (renumber f' f.body) (End ∷ [])) env)

pub stub_made : (P : Program) (g captured index : ℕ) (o0 o1 o2 o3 o4 : List Instr) → o0 ≡ [] → index ≡ worker_index P g → Pushed o0 o1 (captured_words captured) → Pushed o1 o2 (λ rest. LocalGet 1 ∷ rest) → Pushed o2 o3 (λ rest. ReturnCall index ∷ rest) →
    Pushed o3 o4 (λ rest. End ∷ rest) → body 0 o4 ≡ body 0 (stub_code P g captured)
stub_made P g captured index o0 o1 o2 o3 o4 none e x y z w =
    same_body 0 0 o4 _ refl (only_pushed o0 o4 none (then_pushed o0 o1 o4 x (then_pushed o1 o2 o4 y (then_pushed o2 o3 o4 z w))) ∙ ap (λ (i : ℕ). captured_words captured (LocalGet 1 ∷ ReturnCall i ∷ End ∷ [])) e)

pub worker_made : (Q : Lifted) (g : ℕ) (f : Function) (n : ℕ) (ps0 ps1 : List Place) (o0 o1 o2 o3 o4 : List Instr) → n ≡ f.captured + 1 → ps0 ≡ [] → reverse ps1 ≡ params n ++ reverse ps0 → o0 ≡ [] → Pushed o0 o1 (λ rest. Loop (Value type.I32) ∷ rest) →
    Pushed o1 o2 (block_code Q (reverse ps1) n (InTail g 0) f.body) → Pushed o2 o3 (λ rest. End ∷ rest) → Pushed o3 o4 (λ rest. End ∷ rest) → o4 ≡ Loop (Value type.I32) ∷ worker_code (lifted_of Q) g (function_in Q f)
worker_made Q g f n ps0 ps1 o0 o1 o2 o3 o4 count absent all none x y z w =
    let t = renumber (place_in Q.constants) f.body in
    let s : n ≡ suc f.captured = omega arith in
    let env : reverse ps1 ≡ params n = all ∙ ap (λ (zs : List Place). params n ++ reverse zs) absent ∙ append-nil (params n) in
    only_pushed o0 o4 none (then_pushed o0 o1 o4 x (then_pushed o1 o2 o4 y (then_pushed o2 o3 o4 z w)))
    ∙ ap (λ (zs : List Place). Loop (Value type.I32) ∷ code (lifted_of Q) zs n (InTail g 0) t (End ∷ End ∷ [])) env
    ∙ ap (λ (k : ℕ). Loop (Value type.I32) ∷ code (lifted_of Q) (params k) k (InTail g 0) t (End ∷ End ∷ [])) s

pub entry_wide : (P : Program) (g : ℕ) (f : Fn) → nat_le 8 f.captured ≡ true → wide_body P f ≡ entry P g f
entry_wide P g f e = sym (ap (λ (b : Bool). if b then wide_body P f else body 0 (stub_code P g f.captured)) e)

pub entry_narrow : (P : Program) (g : ℕ) (f : Fn) → nat_le 8 f.captured ≡ false → body 0 (stub_code P g f.captured) ≡ entry P g f
entry_narrow P g f e = sym (ap (λ (b : Bool). if b then wide_body P f else body 0 (stub_code P g f.captured)) e)

pub worker_done : (Q : Lifted) (g : ℕ) (f : Function) (n : ℕ) (is : List Instr) → n ≡ top 2 f.body → nat_le 8 f.captured ≡ false → is ≡ Loop (Value type.I32) ∷ worker_code (lifted_of Q) g (function_in Q f) → body (n - 2) is ≡ worker (lifted_of Q) g (function_in Q f)
worker_done Q g f n is count narrow e =
    let t = renumber (place_in Q.constants) f.body in
    let k : n - 2 ≡ top 2 t - 2 = ap (λ (j : ℕ). j - 2) (count ∙ sym (top_renumbered (place_in Q.constants) 2 f.body)) in
    same_body (n - 2) (top 2 t - 2) is _ k e
    ∙ sym (ap (λ (b : Bool). if b then body 0 (Unreachable ∷ End ∷ []) else body (top 2 t - 2) (Loop (Value type.I32) ∷ worker_code (lifted_of Q) g (function_in Q f))) narrow)

pub constant_made : (Q : Lifted) (t : Block) (n : ℕ) (o1 o2 : List Instr) → n ≡ top 0 t → Pushed [] o1 (block_code Q [] 0 Final t) → Pushed o1 o2 (λ rest. End ∷ rest) → body n o2 ≡ constant (lifted_of Q) (renumber (place_in Q.constants) t)
constant_made Q t n o1 o2 e x y = same_body n (top 0 (renumber (place_in Q.constants) t)) o2 _ (e ∙ sym (top_renumbered (place_in Q.constants) 0 t)) (only_pushed [] o2 refl (then_pushed [] o1 o2 x y))

pub main_made : (Q : Lifted) (n : ℕ) (o1 o2 o3 : List Instr) → n ≡ top 0 Q.main → Pushed [] o1 (block_code Q [] 0 Inside Q.main) → Pushed o1 o2 (λ rest. GlobalSet 0 ∷ rest) → Pushed o2 o3 (λ rest. End ∷ rest) → body n o3 ≡ main_function (lifted_of Q)
main_made Q n o1 o2 o3 e x y z = same_body n (top 0 (renumber (place_in Q.constants) Q.main)) o3 _ (e ∙ sym (top_renumbered (place_in Q.constants) 0 Q.main)) (only_pushed [] o3 refl (then_pushed [] o1 o3 x (then_pushed o1 o2 o3 y z)))

-- main's code, and then its applications
applied_is : (P : Program) (k : ℕ) (rest : List Instr) → applied P k rest ≡ code P [] 0 Inside P.main (arguments_code k rest)
applied_is P zero rest = refl
applied_is P (suc n) rest = applied_is P n (argument_code n rest)

pub call_made : (Q : Lifted) (k n locals : ℕ) (o1 o2 o3 o4 : List Instr) → n ≡ top 0 Q.main → locals ≡ max n 2 → Pushed [] o1 (block_code Q [] 0 Inside Q.main) → Pushed o1 o2 (arguments_code k) → Pushed o2 o3 (λ rest. GlobalSet 0 ∷ rest) →
    Pushed o3 o4 (λ rest. End ∷ rest) → body locals o4 ≡ call_function (lifted_of Q) k
call_made Q k n locals o1 o2 o3 o4 e most x y z w =
    let count : locals ≡ max 2 (top 0 (renumber (place_in Q.constants) Q.main)) = omega (arith, e, most, top_renumbered (place_in Q.constants) 0 Q.main) in
    same_body locals (max 2 (top 0 (renumber (place_in Q.constants) Q.main))) o4 _ count (only_pushed [] o4 refl (then_pushed [] o1 o4 x (then_pushed o1 o2 o4 y (then_pushed o2 o3 o4 z w))) ∙ sym (applied_is (lifted_of Q) k (GlobalSet 0 ∷ End ∷ [])))

-- the functions from the next one on, with their numbers
module _ (Q : Lifted) (h : ℕ → Fn → Body) (items : List Function) (i : ℕ) (f : Function) (lt : i < length items) (is : f ≡ get_or items i f) where
  pub numbered_more : (a : Body) (v w out : List Body) → a ≡ h i (function_in Q f) → w ≡ v ++ a ∷ [] → v ++ numbered h i (functions_in Q (drop i items)) ≡ out → w ++ numbered h (i + 1) (functions_in Q (drop (i + 1) items)) ≡ out
  numbered_more a v w out made more inv =
      let s : i + 1 ≡ suc i = omega arith in
      ap (λ (j : ℕ). w ++ numbered h j (functions_in Q (drop (i + 1) items))) s
      ∙ one_more v w a (h i (function_in Q f)) (numbered h (suc i) (functions_in Q (drop (i + 1) items))) out more made (ap (λ (fs : List Fn). v ++ numbered h i fs) (sym (next_function Q items i f lt is)) ∙ inv)

-- the constants from the next one on
pub constants_more : (Q : Lifted) (h : Block → Body) (slice : List LiftedConstant) (k : ℕ) (c : LiftedConstant) → reverse slice ≡ Q.constants → k < length slice → c ≡ get_or slice (length slice - 1 - k) c → (a : Body) (v w out : List Body) →
    a ≡ h (renumber (place_in Q.constants) c.body) → w ≡ v ++ a ∷ [] → v ++ map h (constants_in Q (drop k Q.constants)) ≡ out → w ++ map h (constants_in Q (drop (k + 1) Q.constants)) ≡ out
constants_more Q h slice k c same lt is a v w out made more inv =
    one_more v w a (h (renumber (place_in Q.constants) c.body)) (map h (constants_in Q (drop (k + 1) Q.constants))) out more made
    (ap (λ (ts : List Block). v ++ map h ts) (sym (ap (λ (cs : List LiftedConstant). constants_in Q cs) (constant_next slice Q.constants k c same lt is))) ∙ inv)

-- all bodies
pub before_made : (P : Program) (v0 v1 v2 v3 v4 : List Body) (a b : Body) → v0 ≡ [] → v1 ≡ v0 ++ a ∷ [] → a ≡ room_function → v2 ≡ v1 ++ b ∷ [] → b ≡ box_function → v3 ≡ v2 ++ numbered (entry P) 0 P.functions → v4 ≡ v3 ++ map (constant P) P.constants → v4 ≡ bodies_before_main P
before_made P v0 v1 v2 v3 v4 a b e0 e1 ea e2 eb e3 e4 =
    let w2 : v2 ≡ room_function ∷ box_function ∷ [] = rw (e2, e1, e0, ea, eb) refl in
    e4 ∙ ap (λ (zs : List Body). zs ++ map (constant P) P.constants) (e3 ∙ ap (λ (zs : List Body). zs ++ numbered (entry P) 0 P.functions) w2)

pub bodies_made : (P : Program) (main : Body) (v w u : List Body) (m : Body) → v ≡ bodies_before_main P → w ≡ v ++ m ∷ [] → m ≡ main → u ≡ w ++ numbered (worker P) 0 P.functions → u ≡ bodies_with P main
bodies_made P main v w u m ev ew em eu =
    let first : w ≡ room_function ∷ box_function ∷ ((numbered (entry P) 0 P.functions ++ map (constant P) P.constants) ++ main ∷ []) = rw (ew, ev, em) refl in
    eu ∙ ap (λ (zs : List Body). zs ++ numbered (worker P) 0 P.functions) first
    ∙ ap (λ (zs : List Body). room_function ∷ box_function ∷ zs)
    (append_assoc (numbered (entry P) 0 P.functions ++ map (constant P) P.constants) (main ∷ []) (numbered (worker P) 0 P.functions) ∙ append_assoc (numbered (entry P) 0 P.functions) (map (constant P) P.constants) (main ∷ numbered (worker P) 0 P.functions))

pub few_locals : (Q : Lifted) → All FewInFunction ((lifted_of Q).functions) → All FewInBlock ((lifted_of Q).constants) → top 0 Q.main ≤ 50000 → FewLocals (lifted_of Q)
few_locals Q functions constants main = record { functions = functions; constants = constants; main = omega (arith, main, top_renumbered (place_in Q.constants) 0 Q.main) }
