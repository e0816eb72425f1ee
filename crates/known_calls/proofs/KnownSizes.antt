-- How long the bytes of a module with workers are.
use Rattle.std.proofs.Common.{◌≡◌, ℕ, zero, suc, ◌+◌, ◌-◌, ◌*◌, ◌≤◌, List, [], ◌∷◌, ◌++◌, length, map, Some, Bool, true, false, refl, arith}
use Rattle.std.specs.Prelude.{slice_get, if◌then◌else◌}
use Rattle.wasm_core.specs.declared.types.ValType.TheVariants.{I32}
use Rattle.wasm_core.specs.declared.instrs.BlockType.TheVariants.{Value}
use Rattle.wasm_core.specs.declared.instrs.Instr.TheVariants.{Unreachable, Loop, End, GlobalSet}
use Rattle.wasm_core.specs.declared.instrs.Body.{Body}
use Rattle.wasm_core.specs.declared.types.GlobalDef.{GlobalDef}
use Rattle.wasm_core.specs.declared.exports.Export.{Export}
use Rattle.wasm_core.specs.Parts.{Parts}
use Rattle.wasm_core.specs.ShortestBytes.{put_u32, put_all, put_body, put_section, put_segment, put_func_type, put_table_type, put_limits, put_global, put_export, put_instr, unsigned, sizes, module_bytes}
use Rattle.closure_lift.specs.Lifted.{Op, ConstOp, AppOp, ConOp, ClosOp, CaseOp, Block, TailAtom, BindAtom, Tail, Bind, BranchBlocks, NoBranch, Branch, Program, Fn}
use Rattle.closure_lift.specs.LiftedForm.{Formed, Limits}
use Rattle.wasm_emit.specs.EmittedModule.{type_main, type_constant, type_function, body, entries, main_index}
use Rattle.wasm_emit.specs.EmittedLocals.{top, top_op, top_branches}
use Rattle.wasm_emit.specs.EmitLaws.{CountsFit}
use Rattle.wasm_emit.proofs.Indices.{entries_length}
use Rattle.wasm_emit.proofs.Lengths.{u_any, size, z_end, z_global, body_size}
use Rattle.wasm_emit.proofs.Sized.{no_bytes, section_size, items_size, globals_size, table_size, memory_size, exports_size, segment_size, first_bodies, header_size}
use Rattle.known_calls.specs.KnownPlaces.{At, InLocal, fields_of}
use Rattle.known_calls.specs.KnownCode.{Inside, Final, is_wide, code}
use Rattle.known_calls.specs.KnownModule.{words_type, words_types, widest_worker, wide_body, stub_code, entry, worker_code, worker, worker_type, numbered, constant, main_function, module_with}
use Rattle.known_calls.specs.KnownWeight.{op_weight, weight, branches_weight, functions_weight, constants_weight, KnownSized, LocalsBound}
use Rattle.known_calls.proofs.KnownIndices.{narrow_few, same_number, widest_few, order_length}
use Rattle.known_calls.proofs.Bounded.{b_code}
use Rattle.known_calls.proofs.KnownSpelling.{b_stub, b_wide, b_loop_of}

trap_size : size (Unreachable ∷ End ∷ []) ≤ 2
unfolding put_all put_instr
trap_size = omega arith

-- the bodies
module _ (P : Program) (m : ℕ) (form : Formed P m) (counts : CountsFit P m) (limits : Limits P) where
  -- a function has its body in its entry or in its worker
  entry_size : (g : ℕ) (fn : Fn) (w : List ℕ) → slice_get P.functions g ≡ Some fn → length (put_body (entry P g fn) w) ≤ (if is_wide fn then 18 + weight fn.body else 82) + length w
  entry_size g fn w at = either (is_wide fn) refl
    where
      either : (b : Bool) → is_wide fn ≡ b → length (put_body (if b then wide_body P fn else body 0 (stub_code P g fn.captured)) w) ≤ (if b then 18 + weight fn.body else 82) + length w
      either true wide =
          let is = code P (At (InLocal 1) ∷ fields_of 0 fn.captured []) 2 Final fn.body (End ∷ []) in
          omega (arith, body_size (top 2 fn.body - 2) is w, (b_wide P m form counts limits g fn at).bytes [], no_bytes)
      either false narrow = omega (arith, body_size 0 (stub_code P g fn.captured) w, (b_stub P m form counts limits g fn at (narrow_few fn narrow)).bytes [], no_bytes)

  worker_size : (g : ℕ) (fn : Fn) (w : List ℕ) → slice_get P.functions g ≡ Some fn → length (put_body (worker P g fn) w) ≤ (if is_wide fn then 19 else 21 + weight fn.body) + length w
  worker_size g fn w at = either (is_wide fn)
    where
      either : (b : Bool) → length (put_body (if b then body 0 (Unreachable ∷ End ∷ []) else body (top 2 fn.body - 2) (Loop (Value I32) ∷ worker_code P g fn)) w) ≤ (if b then 19 else 21 + weight fn.body) + length w
      either true = omega (arith, body_size 0 (Unreachable ∷ End ∷ []) w, trap_size)
      either false = omega (arith, body_size (top 2 fn.body - 2) (Loop (Value I32) ∷ worker_code P g fn) w, (b_loop_of P m form counts limits g fn at).bytes [], no_bytes)

  -- together
  pair_bytes : (fn : Fn) → (if is_wide fn then 18 + weight fn.body else 82) + (if is_wide fn then 19 else 21 + weight fn.body) ≤ 103 + weight fn.body
  pair_bytes fn = either (is_wide fn)
    where
      either : (b : Bool) → (if b then 18 + weight fn.body else 82) + (if b then 19 else 21 + weight fn.body) ≤ 103 + weight fn.body
      either true = omega arith
      either false = omega arith

  abbrev entries_bytes : List Fn → ℕ
  entries_bytes [] = 0
  entries_bytes (f ∷ fs) = (if is_wide f then 18 + weight f.body else 82) + entries_bytes fs

  abbrev workers_bytes : List Fn → ℕ
  workers_bytes [] = 0
  workers_bytes (f ∷ fs) = (if is_wide f then 19 else 21 + weight f.body) + workers_bytes fs

  pairs_bytes : (fs : List Fn) → entries_bytes fs + workers_bytes fs + 15 * length fs ≤ functions_weight fs
  pairs_bytes [] = omega arith
  pairs_bytes (f ∷ fs) = omega (arith, pair_bytes f, pairs_bytes fs)

  entries_size : (from : ℕ) (fs : List Fn) (bs : List Body) (w : List ℕ) → ((g j : ℕ) (fn : Fn) → slice_get fs g ≡ Some fn → j ≡ from + g → slice_get P.functions j ≡ Some fn) → length (put_all put_body (numbered (entry P) from fs ++ bs) w) ≤ entries_bytes fs + length (put_all put_body bs w)
  unfolding put_all
  entries_size from [] bs w h = omega arith
  entries_size from (f ∷ fs) bs w h = omega (arith, entry_size from f (put_all put_body (numbered (entry P) (suc from) fs ++ bs) w) (h 0 from f refl (omega arith)), entries_size (suc from) fs bs w (λ g j fn e is. h (suc g) j fn e (omega arith)))

  workers_size : (from : ℕ) (fs : List Fn) (w : List ℕ) → ((g j : ℕ) (fn : Fn) → slice_get fs g ≡ Some fn → j ≡ from + g → slice_get P.functions j ≡ Some fn) → length (put_all put_body (numbered (worker P) from fs) w) ≤ workers_bytes fs + length w
  unfolding put_all
  workers_size from [] w h = omega arith
  workers_size from (f ∷ fs) w h = omega (arith, worker_size from f (put_all put_body (numbered (worker P) (suc from) fs) w) (h 0 from f refl (omega arith)), workers_size (suc from) fs w (λ g j fn e is. h (suc g) j fn e (omega arith)))

  constant_size : (i : ℕ) (t : Block) (w : List ℕ) → slice_get P.constants i ≡ Some t → length (put_body (constant P t) w) ≤ 18 + weight t + length w
  constant_size i t w at =
      omega (arith, body_size (top 0 t) (code P [] 0 Final t (End ∷ [])) w, z_end [], no_bytes, (b_code P m form counts limits 0 0 [] Final t (omega (arith, counts.bodies i t at)) tt (form.constants i t at)).bytes (End ∷ []))

  main_size : (w : List ℕ) → length (put_body (main_function P) w) ≤ 20 + weight P.main + length w
  main_size w =
      omega (
        arith,
        body_size (top 0 P.main) (code P [] 0 Inside P.main (GlobalSet 0 ∷ End ∷ [])) w,
        z_global (End ∷ []) 0 (omega arith),
        z_end [],
        no_bytes,
        (b_code P m form counts limits 0 0 [] Inside P.main (omega (arith, counts.main)) tt form.main).bytes (GlobalSet 0 ∷ End ∷ []),
      )

  constants_size : (ts : List Block) (bs : List Body) (w : List ℕ) → ((i : ℕ) (t : Block) (w : List ℕ) → slice_get ts i ≡ Some t → length (put_body (constant P t) w) ≤ 18 + weight t + length w) →
      length (put_all put_body (map (constant P) ts ++ bs) w) + 10 * length ts ≤ constants_weight ts + length (put_all put_body bs w)
  unfolding put_all
  constants_size [] bs w h = omega arith
  constants_size (t ∷ ts) bs w h = omega (arith, h 0 t (put_all put_body (map (constant P) ts ++ bs) w) refl, constants_size ts bs w (λ i t w e. h (suc i) t w e))

word_type_size : (n : ℕ) (w : List ℕ) → n ≤ 7 → length (put_func_type (words_type n) w) ≤ 12 + length w
unfolding put_all put_func_type unsigned
word_type_size zero w h = omega arith
word_type_size (suc zero) w h = omega arith
word_type_size (suc (suc zero)) w h = omega arith
word_type_size (suc (suc (suc zero))) w h = omega arith
word_type_size (suc (suc (suc (suc zero)))) w h = omega arith
word_type_size (suc (suc (suc (suc (suc zero))))) w h = omega arith
word_type_size (suc (suc (suc (suc (suc (suc zero)))))) w h = omega arith
word_type_size (suc (suc (suc (suc (suc (suc (suc zero))))))) w h = omega arith
word_type_size (suc (suc (suc (suc (suc (suc (suc (suc n)))))))) w h = absurd (omega arith)

words_types_size : (k n : ℕ) → k + n ≤ 8 → length (put_all put_func_type (words_types k n) []) ≤ 12 * n
unfolding put_all
words_types_size k zero h = omega arith
words_types_size k (suc n) h = omega (arith, word_type_size k (put_all put_func_type (words_types (suc k) n) []) (omega arith), words_types_size (suc k) n (omega arith))

types_size : (P : Program) → length (put_all put_func_type (type_main ∷ type_constant ∷ type_function ∷ words_types 0 (widest_worker P.functions)) []) ≤ 140
unfolding put_all put_func_type unsigned
types_size P = omega (arith, words_types_size 0 (widest_worker P.functions) (omega (arith, widest_few P.functions)), widest_few P.functions)

main_body : (b : Body) (bs : List Body) → length (put_all put_body (b ∷ bs) []) ≡ length (put_body b (put_all put_body bs []))
unfolding put_all
main_body b bs = refl

-- the bytes of a module of the program: those of its main, of its globals and of its exports are given
module _ (P : Program) (main : Body) (gs : List GlobalDef) (es : List Export) (pages m : ℕ) (form : Formed P m) (limits : Limits P) (counts : CountsFit P m) where
  abbrev M : Parts
  M = module_with P main gs es pages

  code_size : (x : ℕ) → ((w : List ℕ) → length (put_body main w) ≤ x + length w) →
      length (put_all put_body M.bodies []) + 15 * length P.functions + 10 * length P.constants ≤ 144 + functions_weight P.functions + constants_weight P.constants + x
  code_size x main_size =
      let workers = numbered (worker P) 0 P.functions in
      let from_main = main ∷ numbered (worker P) 0 P.functions in
      let from_constants = map (constant P) P.constants ++ (main ∷ numbered (worker P) 0 P.functions) in
      let rest = numbered (entry P) 0 P.functions ++ (map (constant P) P.constants ++ (main ∷ numbered (worker P) 0 P.functions)) in
      omega (
        arith,
        first_bodies rest,
        entries_size P m form counts limits 0 P.functions from_constants [] (same_number P.functions),
        constants_size P m form counts limits P.constants from_main [] (λ i t w at. constant_size P m form counts limits i t w at),
        main_body main workers,
        main_size (put_all put_body workers []),
        workers_size P m form counts limits 0 P.functions [] (same_number P.functions),
        pairs_bytes P m form counts limits P.functions,
      )

  pub module_sized : (x y z : ℕ) → ((w : List ℕ) → length (put_body main w) ≤ x + length w) → length (put_all put_global M.globals []) ≤ y → length (put_all put_export M.exports []) ≤ z →
      length (module_bytes M) ≤ functions_weight P.functions + constants_weight P.constants + 522 + x + y + z
  module_sized x y z main_size globals exports =
      let n = length P.functions in
      let s10 = put_section 10 put_body M.bodies [] in
      let s9 = put_section 9 put_segment M.elements s10 in
      let s7 = put_section 7 put_export M.exports s9 in
      let s6 = put_section 6 put_global M.globals s7 in
      let s5 = put_section 5 put_limits (sizes M.memory) s6 in
      let s4 = put_section 4 put_table_type (sizes M.table) s5 in
      let s3 = put_section 3 put_u32 M.funcs s4 in
      omega (
        arith,
        header_size M,
        section_size 1 put_func_type M.types s3,
        types_size P,
        section_size 3 put_u32 M.funcs s4,
        items_size 5 put_u32 M.funcs [] (λ x w. u_any 5 x w),
        order_length {A = ℕ} P (λ g f. 2) (λ t. 1) 0 (λ g f. worker_type f),
        section_size 4 put_table_type (sizes M.table) s5,
        table_size (suc n),
        section_size 5 put_limits (sizes M.memory) s6,
        memory_size pages,
        section_size 6 put_global M.globals s7,
        globals,
        section_size 7 put_export M.exports s9,
        exports,
        section_size 9 put_segment M.elements s10,
        segment_size 0 (entries 1 (suc n)),
        entries_length 1 (suc n),
        section_size 10 put_body M.bodies [],
        code_size x main_size,
      )

pub known_sized : KnownSized
known_sized P pages m form limits counts =
    let main = main_size P m form counts limits in
    omega (arith, module_sized P (main_function P) [] [] pages m form limits counts (20 + weight P.main) 30 68 main globals_size (exports_size (main_index P)))

-- each local is set by an instruction
mutual
  op_locals : (d : ℕ) (x : Op) → 4 * top_op d x ≤ 4 * d + op_weight x
  op_locals d (ConstOp x) = omega arith
  op_locals d (AppOp f a) = omega arith
  op_locals d (ConOp c as') = omega arith
  op_locals d (ClosOp g as') = omega arith
  op_locals d (CaseOp a bs) = omega (arith, branches_locals (suc d) bs)

  pub locals_bound : LocalsBound
  locals_bound d (TailAtom a) = omega arith
  locals_bound d (BindAtom a t) = omega (arith, locals_bound (suc d) t)
  locals_bound d (Tail x) = op_locals d x
  locals_bound d (Bind x t) = omega (arith, op_locals d x, locals_bound (suc d) t)

  branches_locals : (d : ℕ) (bs : BranchBlocks) → 4 * top_branches d bs ≤ 4 * d + branches_weight bs
  branches_locals d NoBranch = omega arith
  branches_locals d (Branch n t bs) = omega (arith, locals_bound d t, branches_locals d bs)
