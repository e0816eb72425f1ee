-- The bodies of functions, from what was pushed, one after another.
use Rattle.std.proofs.Common.{◌≡◌, ℕ, ◌+◌, ◌-◌, ◌<◌, ◌≤◌, List, [], ◌∷◌, ◌++◌, length, map, drop, get_or, reverse, ap, sym, subst, inl, inr, ◌∙◌, arith}
use Rattle.std.proofs.Math.ListN.{drop_of_length-le}
use Rattle.std.proofs.lemmas.List.{append_assoc, length-reverse}
use Rattle.std.specs.Prelude.{Result, Ok, Err, IfOk}
use Rattle.closure_lift.specs.Lifted.{Block, Fn}
use Rattle.closure_lift.specs.LiftedProgram.{renumber, renumber_functions, place_in, lifted_of}
use Rattle.closure_lift.specs.LiftedView.{functions_of}
use Rattle.closure_lift.specs.declared.program.Function.{Function}
use Rattle.closure_lift.specs.declared.program.Lifted.{Lifted}
use Rattle.closure_lift.specs.declared.program.LiftedConstant.{LiftedConstant}
use Rattle.wasm_core.specs.ModuleCondition.{All}
use Rattle.wasm_core.specs.declared.instrs.Body.{Body}
use Rattle.wasm_core.specs.declared.instrs.Instr.{Instr}
use Rattle.wasm_emit.specs.EmittedLocals.{top}
use Rattle.wasm_emit.specs.EmittedModule.{body}
use Rattle.wasm_emit.specs.EmittedBodies.{FewInFunction, FewInBlock, FewLocals, MemoryOrNot}
use Rattle.wasm_emit.specs.Pushed.{function_in, MemoryOrLocals}
use Rattle.wasm_emit.specs.declared.fault.EmitFault.{EmitFault}
use Rattle.wasm_emit.proofs.Pushing.{top_renumbered, constant_next}
use Rattle.closure_lift.proofs.Noting.{next_is}

-- the functions and constants of parts of a program in memory
abbrev pub functions_in : Lifted → List Function → List Fn
functions_in Q fs = renumber_functions (place_in Q.constants) (functions_of fs)

abbrev pub constants_in : Lifted → List LiftedConstant → List Block
constants_in Q cs = map (λ (c : LiftedConstant). renumber (place_in Q.constants) c.body) cs

-- what was made is the same as this
pub same_made : (r : Result Body EmitFault) (a b : Body) → a ≡ b → IfOk r (λ x. x ≡ a) → IfOk r (λ x. x ≡ b)
same_made (Ok x) a b e h = h ∙ e
same_made (Err f) a b e h = h

pub same_body : (n k : ℕ) (is js : List Instr) → n ≡ k → is ≡ js → body n is ≡ body k js
same_body n k is js a b = ap (λ (i : ℕ). body i is) a ∙ ap (λ (zs : List Instr). body k zs) b

-- one body more
pub one_more : (v w : List Body) (a b : Body) (rest out : List Body) → w ≡ v ++ a ∷ [] → a ≡ b → v ++ (b ∷ rest) ≡ out → w ++ rest ≡ out
one_more v w a b rest out more e inv =
    ap (λ (zs : List Body). zs ++ rest) more ∙ append_assoc v (a ∷ []) rest ∙ ap (λ (x : Body). v ++ (x ∷ rest)) e ∙ inv

-- the next function of a program
module _ (Q : Lifted) (items : List Function) (i : ℕ) (f : Function) (lt : i < length items) (is : f ≡ get_or items i f) where
  pub next_function : functions_in Q (drop i items) ≡ function_in Q f ∷ functions_in Q (drop (i + 1) items)
  next_function = ap (λ (fs : List Function). functions_in Q fs) (next_is items i f lt is)

  few_renumbered : top 2 (renumber (place_in Q.constants) f.body) - 2 ≡ top 2 f.body - 2
  few_renumbered = ap (λ (k : ℕ). k - 2) (top_renumbered (place_in Q.constants) 2 f.body)

  pub functions_few : {T : Type 0} → top 2 f.body - 2 ≤ 50000 → (All FewInFunction (functions_in Q (drop i items)) → T) → All FewInFunction (functions_in Q (drop (i + 1) items)) → T
  functions_few {T} le inv all =
      let h : top 2 (renumber (place_in Q.constants) f.body) - 2 ≤ 50000 = omega (arith, le, few_renumbered) in
      inv (subst (λ fs. All FewInFunction fs) (sym next_function) (h, all))

  pub functions_only : {T : Type 0} → (T → All FewInFunction (functions_in Q (drop i items))) → T → All FewInFunction (functions_in Q (drop (i + 1) items))
  functions_only {T} inv t = (subst (λ fs. All FewInFunction fs) next_function (inv t)).1

  pub functions_refused : {T : Type 0} (e : EmitFault) → (T → All FewInFunction (functions_in Q (drop i items))) → MemoryOrLocals e (top 2 f.body - 2) → MemoryOrNot e T
  functions_refused {T} e inv (inl x) = inl x
  functions_refused {T} e inv (inr x) = inr (x.0, λ t. let h : top 2 (renumber (place_in Q.constants) f.body) - 2 ≤ 50000 = (subst (λ fs. All FewInFunction fs) next_function (inv t)).0 in omega (arith, h, x.1, few_renumbered))

-- the next constant of a program
module _ (Q : Lifted) (slice : List LiftedConstant) (k : ℕ) (c : LiftedConstant) (same : reverse slice ≡ Q.constants) (lt : k < length slice) (is : c ≡ get_or slice (length slice - 1 - k) c) where
  next_constant : constants_in Q (drop k Q.constants) ≡ renumber (place_in Q.constants) c.body ∷ constants_in Q (drop (k + 1) Q.constants)
  next_constant = ap (λ (cs : List LiftedConstant). constants_in Q cs) (constant_next slice Q.constants k c same lt is)

  pub constants_few : {T : Type 0} → top 0 c.body ≤ 50000 → (All FewInBlock (constants_in Q (drop k Q.constants)) → T) → All FewInBlock (constants_in Q (drop (k + 1) Q.constants)) → T
  constants_few {T} le inv all =
      let h : top 0 (renumber (place_in Q.constants) c.body) ≤ 50000 = omega (arith, le, top_renumbered (place_in Q.constants) 0 c.body) in
      inv (subst (λ ts. All FewInBlock ts) (sym next_constant) (h, all))

  pub constants_only : {T : Type 0} → (T → All FewInBlock (constants_in Q (drop k Q.constants))) → T → All FewInBlock (constants_in Q (drop (k + 1) Q.constants))
  constants_only {T} inv t = (subst (λ ts. All FewInBlock ts) next_constant (inv t)).1

  pub constants_refused : {T : Type 0} (e : EmitFault) → (T → All FewInBlock (constants_in Q (drop k Q.constants))) → MemoryOrLocals e (top 0 c.body) → MemoryOrNot e T
  constants_refused {T} e inv (inl x) = inl x
  constants_refused {T} e inv (inr x) = inr (x.0, λ t. let h : top 0 (renumber (place_in Q.constants) c.body) ≤ 50000 = (subst (λ ts. All FewInBlock ts) next_constant (inv t)).0 in omega (arith, h, x.1, top_renumbered (place_in Q.constants) 0 c.body))

pub constants_end : (Q : Lifted) (slice : List LiftedConstant) (k : ℕ) → reverse slice ≡ Q.constants → length slice ≤ k → drop k Q.constants ≡ []
constants_end Q slice k same le = let size : length Q.constants ≡ length slice = sym (ap length same) ∙ length-reverse slice in drop_of_length-le Q.constants (omega arith)

pub refused_more : {A B : Type 0} (e : EmitFault) → (B → A) → MemoryOrNot e A → MemoryOrNot e B
refused_more {A} {B} e f (inl x) = inl x
refused_more {A} {B} e f (inr x) = inr (x.0, λ b. x.1 (f b))

pub main_refused : (Q : Lifted) (e : EmitFault) → MemoryOrLocals e (top 0 Q.main) → MemoryOrNot e (FewLocals (lifted_of Q))
main_refused Q e (inl x) = inl x
main_refused Q e (inr x) = inr (x.0, λ few. let h : top 0 (renumber (place_in Q.constants) Q.main) ≤ 50000 = few.main in omega (arith, h, x.1, top_renumbered (place_in Q.constants) 0 Q.main))
