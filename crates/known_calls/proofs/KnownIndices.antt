-- Where a module with workers has its functions, their types, and the entries of its table.
use Rattle.std.proofs.Common.{◌≡◌, ℕ, zero, suc, ◌+◌, ◌-◌, ◌<◌, ◌≤◌, List, [], ◌∷◌, ◌++◌, length, map, Some, Bool, true, false, refl, ap, ◌∙◌, subst, arith, length-append}
use Rattle.std.proofs.lemmas.Bool.{leb-true, leb-false}
use Rattle.std.proofs.lemmas.List.{length-map}
use Rattle.std.proofs.lemmas.Option.{slice_get-map}
use Rattle.std.specs.Option.{option_map}
use Rattle.std.specs.Prelude.{slice_get, max, if◌then◌else◌}
use Rattle.wasm_core.specs.declared.types.ValType.TheVariants as type
use Rattle.wasm_core.specs.declared.types.GlobalDef.{GlobalDef}
use Rattle.wasm_core.specs.declared.exports.Export.{Export}
use Rattle.wasm_core.specs.declared.instrs.BlockType.TheVariants.{Value}
use Rattle.wasm_core.specs.declared.instrs.Instr.TheVariants.{Unreachable, Loop, End}
use Rattle.wasm_core.specs.declared.instrs.Body.{Body}
use Rattle.wasm_core.specs.Instance.{func_of, table_of}
use Rattle.closure_lift.specs.Lifted.{Block, Program, Fn}
use Rattle.wasm_emit.specs.EmittedModule.{main_index, body, type_main, type_constant, type_function}
use Rattle.wasm_emit.specs.EmittedCode.{constant_index}
use Rattle.wasm_emit.specs.EmittedLocals.{top}
use Rattle.wasm_emit.proofs.Indices.{at_append, at_front, func_is, table_at}
use Rattle.known_calls.specs.KnownCode.{is_wide, worker_index}
use Rattle.known_calls.specs.KnownModule.{words_type, words_types, widest_worker, wide_body, stub_code, entry, worker_code, worker, worker_type, numbered, constant, in_order, module_with}

pub not_wide : (fn : Fn) → fn.captured ≤ 7 → is_wide fn ≡ false
not_wide fn few = cases (is_wide fn) refl
  where
    cases : (b : Bool) → is_wide fn ≡ b → is_wide fn ≡ false
    cases false e = e
    cases true e = absurd (omega (arith, leb-true 8 fn.captured e, few))

pub narrow_few : (fn : Fn) → is_wide fn ≡ false → fn.captured ≤ 7
narrow_few fn e = omega (arith, leb-false 8 fn.captured e)

-- a function by its number, where that is counted from 0
pub same_number : (fs : List Fn) (g j : ℕ) (x : Fn) → slice_get fs g ≡ Some x → j ≡ 0 + g → slice_get fs j ≡ Some x
same_number fs g j x at is = let z : g ≡ j = omega arith in subst (λ (i : ℕ). slice_get fs i ≡ Some x) z at

pub numbered_length : {A : Type 0} (make : ℕ → Fn → A) (i : ℕ) (fs : List Fn) → length (numbered make i fs) ≡ length fs
numbered_length make i [] = refl
numbered_length make i (f ∷ fs) = ap suc (numbered_length make (suc i) fs)

pub numbered_at : {A : Type 0} (make : ℕ → Fn → A) (i g j : ℕ) (fs : List Fn) {fn : Fn} → j ≡ i + g → slice_get fs g ≡ Some fn → slice_get (numbered make i fs) g ≡ Some (make j fn)
numbered_at make i g j [] is e = cc
numbered_at make i zero j (f ∷ fs) is e = let same : i ≡ j = omega arith in ap (λ (k : ℕ). Some (make k f)) same ∙ ap (option_map (make j)) e
numbered_at make i (suc g) j (f ∷ fs) is e = numbered_at make (suc i) g j fs (omega arith) e

-- a worker has no more captured words than the one with the most
pub widest_few : (fs : List Fn) → widest_worker fs ≤ 8
widest_few [] = omega arith
widest_few (f ∷ fs) = either (is_wide f) refl (widest_few fs)
  where
    either : (b : Bool) → is_wide f ≡ b → widest_worker fs ≤ 8 → (if b then widest_worker fs else max (suc f.captured) (widest_worker fs)) ≤ 8
    either true e few = few
    either false e few = omega (arith, narrow_few f e, few)

pub widest_grows : (f : Fn) (fs : List Fn) → widest_worker fs ≤ widest_worker (f ∷ fs)
widest_grows f fs = either (is_wide f)
  where
    either : (b : Bool) → widest_worker fs ≤ (if b then widest_worker fs else max (suc f.captured) (widest_worker fs))
    either true = omega arith
    either false = omega arith

-- a worker's type is among those that there are
here : (f : Fn) (fs : List Fn) (fn : Fn) → f ≡ fn → is_wide fn ≡ false → fn.captured < widest_worker (f ∷ fs)
here f fs fn same narrow =
    let count : f.captured ≡ fn.captured = ap (λ (x : Fn). x.captured) same in
    let slim : is_wide f ≡ false = ap is_wide same ∙ narrow in
    let is : widest_worker (f ∷ fs) ≡ max (suc f.captured) (widest_worker fs) = ap (λ (b : Bool). if b then widest_worker fs else max (suc f.captured) (widest_worker fs)) slim in
    omega (arith, count, is)

pub worker_low : (f : Fn) (fs : List Fn) → worker_type f < suc (suc (suc (widest_worker (f ∷ fs))))
worker_low f fs = either (is_wide f)
  where
    either : (b : Bool) → (if b then 0 else suc (suc (suc f.captured))) < suc (suc (suc (if b then widest_worker fs else max (suc f.captured) (widest_worker fs))))
    either true = omega arith
    either false = omega arith

narrower : (fs : List Fn) (g : ℕ) (fn : Fn) → slice_get fs g ≡ Some fn → is_wide fn ≡ false → fn.captured < widest_worker fs
narrower [] g fn e narrow = cc
narrower (f ∷ fs) zero fn e narrow = let same : f ≡ fn = cc in here f fs fn same narrow
narrower (f ∷ fs) (suc g) fn e narrow = omega (arith, narrower fs g fn e narrow, widest_grows f fs)

pub words_types_length : (k n : ℕ) → length (words_types k n) ≡ n
words_types_length k zero = refl
words_types_length k (suc n) = ap suc (words_types_length (suc k) n)

words_at : (k n i j : ℕ) → j ≡ k + i → i < n → slice_get (words_types k n) i ≡ Some (words_type j)
words_at k zero i j is lt = absurd (omega arith)
words_at k (suc n) zero j is lt = let same : k ≡ j = omega arith in ap (λ (i : ℕ). Some (words_type i)) same
words_at k (suc n) (suc i) j is lt = words_at (suc k) n i j (omega arith) (omega arith)

module _ {A : Type 0} (P : Program) (of_entry : ℕ → Fn → A) (of_constant : Block → A) (of_main : A) (of_worker : ℕ → Fn → A) where
  abbrev from_main : List A
  from_main = of_main ∷ numbered of_worker 0 P.functions

  abbrev from_constants : List A
  from_constants = map of_constant P.constants ++ (of_main ∷ numbered of_worker 0 P.functions)

  pub entry_in : (g : ℕ) (fn : Fn) → slice_get P.functions g ≡ Some fn → slice_get (in_order P of_entry of_constant of_main of_worker) g ≡ Some (of_entry g fn)
  entry_in g fn e = at_front (numbered of_entry 0 P.functions) from_constants g (numbered_at of_entry 0 g g P.functions (omega arith) e)

  pub constant_in : (x : ℕ) (t : Block) → slice_get P.constants x ≡ Some t → slice_get (in_order P of_entry of_constant of_main of_worker) (length P.functions + x) ≡ Some (of_constant t)
  constant_in x t e =
      at_append (numbered of_entry 0 P.functions) from_constants (length P.functions + x) x (omega (arith, numbered_length of_entry 0 P.functions))
      ∙ at_front (map of_constant P.constants) from_main x (slice_get-map of_constant P.constants x ∙ ap (option_map of_constant) e)

  pub main_in : slice_get (in_order P of_entry of_constant of_main of_worker) (length P.functions + length P.constants) ≡ Some of_main
  main_in =
      at_append (numbered of_entry 0 P.functions) from_constants (length P.functions + length P.constants) (length P.constants) (omega (arith, numbered_length of_entry 0 P.functions))
      ∙ at_append (map of_constant P.constants) from_main (length P.constants) 0 (omega (arith, length-map P.constants of_constant))

  pub worker_in : (g : ℕ) (fn : Fn) → slice_get P.functions g ≡ Some fn → slice_get (in_order P of_entry of_constant of_main of_worker) (suc (length P.functions + (length P.constants + g))) ≡ Some (of_worker g fn)
  worker_in g fn e =
      at_append (numbered of_entry 0 P.functions) from_constants (suc (length P.functions + (length P.constants + g))) (suc (length P.constants + g)) (omega (arith, numbered_length of_entry 0 P.functions))
      ∙ at_append (map of_constant P.constants) from_main (suc (length P.constants + g)) (suc g) (omega (arith, length-map P.constants of_constant))
      ∙ numbered_at of_worker 0 g g P.functions (omega arith) e

  pub order_length : length (in_order P of_entry of_constant of_main of_worker) ≡ suc (length P.functions + length P.constants + length P.functions)
  order_length =
      let a = length-append (numbered of_entry 0 P.functions) from_constants in
      let b = length-append (map of_constant P.constants) from_main in
      omega (arith, a, b, numbered_length of_entry 0 P.functions, length-map P.constants of_constant, numbered_length of_worker 0 P.functions)

module _ (P : Program) (main : Body) (gs : List GlobalDef) (es : List Export) (pages : ℕ) where
  pub constant_at : (x : ℕ) (t : Block) → slice_get P.constants x ≡ Some t → func_of (module_with P main gs es pages) (constant_index P x) ≡ Some (record { type = type_constant; body = constant P t })
  constant_at x t e =
      func_is (module_with P main gs es pages) (constant_index P x) 1 type_constant (constant P t) (constant_in P (λ g f. 2) (λ t. 1) 0 (λ g f. worker_type f) x t e) refl (constant_in P (entry P) (constant P) main (worker P) x t e)

  pub main_at : func_of (module_with P main gs es pages) (main_index P) ≡ Some (record { type = type_main; body = main })
  main_at = func_is (module_with P main gs es pages) (main_index P) 0 type_main main (main_in P (λ g f. 2) (λ t. 1) 0 (λ g f. worker_type f)) refl (main_in P (entry P) (constant P) main (worker P))

  entry_at : (g : ℕ) (fn : Fn) → slice_get P.functions g ≡ Some fn → func_of (module_with P main gs es pages) (suc (suc g)) ≡ Some (record { type = type_function; body = entry P g fn })
  entry_at g fn e =
      func_is (module_with P main gs es pages) (suc (suc g)) 2 type_function (entry P g fn) (entry_in P (λ g f. 2) (λ t. 1) 0 (λ g f. worker_type f) g fn e) refl (entry_in P (entry P) (constant P) main (worker P) g fn e)

  -- a function that has no worker, and one that has
  pub wide_at : (g : ℕ) (fn : Fn) → slice_get P.functions g ≡ Some fn → is_wide fn ≡ true → func_of (module_with P main gs es pages) (suc (suc g)) ≡ Some (record { type = type_function; body = wide_body P fn })
  wide_at g fn e wide = entry_at g fn e ∙ ap (λ (b : Bool). Some (record { type = type_function; body = if b then wide_body P fn else body 0 (stub_code P g fn.captured) })) wide

  pub stub_at : (g : ℕ) (fn : Fn) → slice_get P.functions g ≡ Some fn → is_wide fn ≡ false → func_of (module_with P main gs es pages) (suc (suc g)) ≡ Some (record { type = type_function; body = body 0 (stub_code P g fn.captured) })
  stub_at g fn e wide = entry_at g fn e ∙ ap (λ (b : Bool). Some (record { type = type_function; body = if b then wide_body P fn else body 0 (stub_code P g fn.captured) })) wide

  -- the type of a worker
  pub type_of_words : (g : ℕ) (fn : Fn) → slice_get P.functions g ≡ Some fn → is_wide fn ≡ false → slice_get (module_with P main gs es pages).types (suc (suc (suc fn.captured))) ≡ Some (words_type fn.captured)
  type_of_words g fn e narrow = words_at 0 (widest_worker P.functions) fn.captured fn.captured (omega arith) (narrower P.functions g fn e narrow)

  pub type_of_worker : (g : ℕ) (fn : Fn) → slice_get P.functions g ≡ Some fn → is_wide fn ≡ false → slice_get (module_with P main gs es pages).funcs (worker_index P g) ≡ Some (suc (suc (suc fn.captured)))
  type_of_worker g fn e wide = worker_in P (λ g f. 2) (λ t. 1) 0 (λ g f. worker_type f) g fn e ∙ ap (λ (b : Bool). Some (if b then 0 else suc (suc (suc fn.captured)))) wide

  pub worker_at : (g : ℕ) (fn : Fn) → slice_get P.functions g ≡ Some fn → is_wide fn ≡ false → fn.captured ≤ 7 →
      func_of (module_with P main gs es pages) (worker_index P g) ≡ Some (record { type = words_type fn.captured; body = body (top 2 fn.body - 2) (Loop (Value type.I32) ∷ worker_code P g fn) })
  worker_at g fn e wide few =
      func_is (module_with P main gs es pages) (worker_index P g) (suc (suc (suc fn.captured))) (words_type fn.captured) (body (top 2 fn.body - 2) (Loop (Value type.I32) ∷ worker_code P g fn)) (type_of_worker g fn e wide) (type_of_words g fn e wide)
      (worker_in P (entry P) (constant P) main (worker P) g fn e ∙ ap (λ (b : Bool). Some (if b then body 0 (Unreachable ∷ End ∷ []) else body (top 2 fn.body - 2) (Loop (Value type.I32) ∷ worker_code P g fn))) wide)

  pub table_entry : (g : ℕ) → g < suc (length P.functions) → slice_get (table_of (module_with P main gs es pages)) g ≡ Some (Some (suc g))
  unfolding table_of
  table_entry g h = table_at (suc (length P.functions)) g h
