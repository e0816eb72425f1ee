-- The parts of a module with workers outside its functions: its globals, its exports and the table's segment are sound.
use Rattle.std.proofs.Common.{◌≡◌, ℕ, zero, suc, ◌+◌, ◌<◌, List, [], ◌∷◌, length, Some, false, refl, ap, ◌∙◌, subst, arith, get_or}
use Rattle.std.proofs.lemmas.Bool.{eqb-false}
use Rattle.std.specs.Prelude.{slice_get, nat_eq}
use Rattle.std.proofs.lemmas.Option.{same_Some}
use Rattle.wasm_core.specs.declared.types.GlobalDef.{GlobalDef}
use Rattle.wasm_core.specs.declared.exports.Export.{Export}
use Rattle.wasm_core.specs.declared.instrs.Body.{Body}
use Rattle.wasm_core.specs.Parts.{Parts}
use Rattle.wasm_core.specs.ModuleCondition.{All}
use Rattle.wasm_core.specs.ModuleTyping.{Globals, Elements, IsSound, DistinctNames, EachIsThere, IsThere, SegmentIsValid, type_of}
use Rattle.wasm_core.proofs.Small.{no}
use Rattle.closure_lift.specs.Lifted.{Program}
use Rattle.wasm_emit.specs.EmittedModule.{entries}
use Rattle.wasm_emit.specs.CallModule.{call_globals, call_exports}
use Rattle.wasm_emit.proofs.Emitting.{all_at}
use Rattle.known_calls.specs.KnownModule.{entry, worker, worker_type, constant, module_with, module_of}
use Rattle.known_calls.specs.KnownCalls.{module_of_call}
use Rattle.known_calls.proofs.KnownIndices.{order_length}

-- a number by which the names of exports differ
abbrev key : List ℕ → ℕ
key name = length name + get_or name 0 0

abbrev AllApart : List Export → Type 0
AllApart [] = Unit {0}
AllApart (e ∷ es) = All (λ (f : Export). key e.name ≡ key f.name → ⊥) es × AllApart es

apart : {a b : ℕ} → nat_eq a b ≡ false → a ≡ b → ⊥
apart {a} {b} h = eqb-false a b h

distinct : (es : List Export) → AllApart es → DistinctNames es
distinct [] a i j e f lt he hf same = no he
distinct (x ∷ es) a i zero e f lt he hf same = absurd (omega arith)
distinct (x ∷ es) a zero (suc j) e f lt he hf same =
    let is : x ≡ e = same_Some _ _ he in all_at (λ (f : Export). key x.name ≡ key f.name → ⊥) es a.0 j f hf (ap (λ (e : Export). key e.name) is ∙ ap key same)
distinct (x ∷ es) a (suc i) (suc j) e f lt he hf same = distinct es a.1 i j e f (omega arith) he hf same

pub names_distinct : (P : Program) (pages : ℕ) → DistinctNames (module_of P pages).exports
names_distinct P pages = distinct (module_of P pages).exports ((apart refl, (apart refl, (apart refl, tt))), ((apart refl, (apart refl, tt)), ((apart refl, tt), (tt, tt))))

pub call_names_distinct : (P : Program) (k pages : ℕ) → DistinctNames (module_of_call P k pages).exports
call_names_distinct P k pages =
    distinct (module_of_call P k pages).exports (
      (apart refl, (apart refl, (apart refl, (apart refl, (apart refl, tt))))),
      ((apart refl, (apart refl, (apart refl, (apart refl, tt)))), ((apart refl, (apart refl, (apart refl, tt))), ((apart refl, (apart refl, tt)), ((apart refl, tt), (tt, tt))))),
    )

entry_low : (i n x f : ℕ) → slice_get (entries i n) x ≡ Some f → f < i + n
entry_low i zero x f e = no e
entry_low i (suc n) zero f e = let p : i ≡ f = same_Some _ _ e in omega (arith, p)
entry_low i (suc n) (suc x) f e = let h = entry_low (suc i) n x f e in omega (arith, h)

module _ (P : Program) (main : Body) (gs : List GlobalDef) (es : List Export) (pages : ℕ) where
  abbrev M : Parts
  M = module_with P main gs es pages

  functions_length : length M.funcs ≡ 3 + (length P.functions + length P.constants + length P.functions)
  functions_length = omega (arith, order_length {A = ℕ} P (λ g f. 2) (λ t. 1) 0 (λ g f. worker_type f))

  pub same_length : length M.funcs ≡ length M.bodies
  same_length = omega (arith, functions_length, order_length P (entry P) (constant P) main (worker P))

  pub globals_sound : ((x : ℕ) (g : GlobalDef) → slice_get gs x ≡ Some g → type_of g.init ≡ g.ty) → IsSound Globals M
  globals_sound more zero g e = subst (λ (g : GlobalDef). type_of g.init ≡ g.ty) (same_Some _ _ e) refl
  globals_sound more (suc zero) g e = subst (λ (g : GlobalDef). type_of g.init ≡ g.ty) (same_Some _ _ e) refl
  globals_sound more (suc (suc zero)) g e = subst (λ (g : GlobalDef). type_of g.init ≡ g.ty) (same_Some _ _ e) refl
  globals_sound more (suc (suc (suc x))) g e = more x g e

  pub segment_sound : IsSound Elements M
  segment_sound zero s e = subst (SegmentIsValid M) (same_Some _ _ e) (record { table = refl; funcs = λ x f h. omega (arith, entry_low 1 (suc (length P.functions)) x f h, functions_length) })
  segment_sound (suc i) s e = no e

  pub exports_there : ((i : ℕ) (e : Export) → slice_get es i ≡ Some e → IsThere M e.kind e.index) → EachIsThere M
  exports_there more zero e h = subst (λ (e : Export). IsThere M e.kind e.index) (same_Some _ _ h) (omega (arith, functions_length))
  exports_there more (suc zero) e h = subst (λ (e : Export). IsThere M e.kind e.index) (same_Some _ _ h) (refl, refl)
  exports_there more (suc (suc zero)) e h = subst (λ (e : Export). IsThere M e.kind e.index) (same_Some _ _ h) (omega arith)
  exports_there more (suc (suc (suc zero))) e h = subst (λ (e : Export). IsThere M e.kind e.index) (same_Some _ _ h) (omega arith)
  exports_there more (suc (suc (suc (suc x)))) e h = more x e h

-- a module for calls
pub call_globals_sound : (x : ℕ) (g : GlobalDef) → slice_get call_globals x ≡ Some g → type_of g.init ≡ g.ty
call_globals_sound zero g e = subst (λ (g : GlobalDef). type_of g.init ≡ g.ty) (same_Some _ _ e) refl
call_globals_sound (suc x) g e = no e

module _ (P : Program) (k pages : ℕ) where
  abbrev C : Parts
  C = module_of_call P k pages

  pub call_exports_there : (i : ℕ) (e : Export) → slice_get call_exports i ≡ Some e → IsThere C e.kind e.index
  call_exports_there zero e h = subst (λ (e : Export). IsThere C e.kind e.index) (same_Some _ _ h) (omega arith)
  call_exports_there (suc zero) e h = subst (λ (e : Export). IsThere C e.kind e.index) (same_Some _ _ h) (omega arith)
  call_exports_there (suc (suc i)) e h = no h
