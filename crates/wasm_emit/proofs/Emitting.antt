-- The parts of a module, and that a lifted program can be emitted.
use Rattle.std.proofs.Common.{◌≡◌, ℕ, zero, suc, ◌+◌, ◌-◌, ◌<◌, List, [], ◌∷◌, ◌++◌, Some, length, map, replicate, append_assoc, refl, ap, sym, subst, ◌∙◌, arith}
use Rattle.std.proofs.lemmas.List.{length-map}
use Rattle.std.specs.Prelude.{slice_get}
use Rattle.closure_lift.specs.Lifted.{Program}
use Rattle.closure_lift.specs.LiftedProgram.{renumber, place_in, lifted_of}
use Rattle.closure_lift.specs.declared.program.Lifted.{Lifted}
use Rattle.closure_lift.specs.declared.program.LiftedConstant.{LiftedConstant}
use Rattle.closure_lift.proofs.CapturedLimit.{captured_exactly}
use Rattle.closure_lift.proofs.Forms.{constants_number, lift_forms}
use Rattle.wasm_core.specs.ModuleCondition.{All}
use Rattle.wasm_emit.specs.EmitLaws.{CountsFit}
use Rattle.wasm_emit.specs.EmittedCode.{constant_index}
use Rattle.wasm_emit.specs.EmittedModule.{entries, main_index}
use Rattle.wasm_emit.specs.Emission.{Emits, LiftedCanBeEmitted}
use Rattle.wasm_emit.specs.EmittedBodies.{FewInFunction, FewInBlock, FewLocals}

-- the entries from one on
pub entries_step : (n k : ℕ) → k < n → entries (k + 1) (n - k) ≡ (k + 1) ∷ entries (k + 1 + 1) (n - (k + 1))
entries_step n k lt =
    let e : n - k ≡ suc (n - (k + 1)) = omega arith in
    let s : suc (k + 1) ≡ k + 1 + 1 = omega arith in
    ap (λ (j : ℕ). entries (k + 1) j) e ∙ ap (λ (i : ℕ). (k + 1) ∷ entries i (n - (k + 1))) s

pub entries_more : (v w out : List ℕ) (i k n : ℕ) → w ≡ v ++ i ∷ [] → i ≡ k + 1 → k < n → v ++ entries (k + 1) (n - k) ≡ out → w ++ entries (k + 1 + 1) (n - (k + 1)) ≡ out
entries_more v w out i k n more e lt inv =
    let rest = entries (k + 1 + 1) (n - (k + 1)) in
    ap (λ (zs : List ℕ). zs ++ rest) more ∙ append_assoc v (i ∷ []) rest ∙ ap (λ (x : ℕ). v ++ (x ∷ rest)) e ∙ sym (ap (λ (zs : List ℕ). v ++ zs) (entries_step n k lt)) ∙ inv

-- the same number at the end
pub once_more : (k x : ℕ) → replicate k x ++ x ∷ [] ≡ replicate (k + 1) x
once_more zero x = refl
once_more (suc k) x = let e : suc (k + 1) ≡ suc k + 1 = omega arith in ap (λ (zs : List ℕ). x ∷ zs) (once_more k x) ∙ ap (λ (n : ℕ). replicate n x) e

pub times : {A : Type 0} (x : ℕ) (ys : List A) → replicate (length ys) x ≡ map (λ (y : A). x) ys
times x [] = refl
times {A} x (y ∷ ys) = ap (λ (zs : List ℕ). x ∷ zs) (times x ys)

pub all_at : {A : Type 0} (F : A → Type 0) (xs : List A) → All F xs → (i : ℕ) (x : A) → slice_get xs i ≡ Some x → F x
all_at F [] a i x e = cc
all_at F (y ∷ ys) a zero x e = let same : y ≡ x = cc in subst F same a.0
all_at F (y ∷ ys) a (suc i) x e = all_at F ys a.1 i x e

-- what emission asks for, and few locals, are what the laws ask for
pub counts_fit : (P : Program) (x : Emits P) → FewLocals P → CountsFit P x.most
counts_fit P x few = record {
  functions = all_at FewInFunction P.functions few.functions;
  bodies = all_at FewInBlock P.constants few.constants;
  main = few.main;
  constants = x.constants;
  branches = x.branches;
}

pub main_is : (Q : Lifted) (k main : ℕ) → k ≡ length Q.constants → main ≡ constant_index (lifted_of Q) k → main ≡ main_index (lifted_of Q)
main_is Q k main count is = omega (arith, count, is, length-map Q.constants (λ (c : LiftedConstant). renumber (place_in Q.constants) c.body))

pub lifted_can_be_emitted : LiftedCanBeEmitted
lifted_can_be_emitted P most m form few captures le count = record {
  most = m;
  formed = lift_forms P m form;
  within = record { captured = λ g fn at. let h = (captured_exactly P most m form).0 captures g fn at in omega (arith, h, le); few = omega (arith, count) };
  constants = omega (arith, count, constants_number 0 P.constants);
  branches = few;
}
