-- Instructions and bodies whose numbers fit the format.
use Rattle.std.proofs.Common.{◌≡◌, ℕ, zero, suc, ◌≤◌, List, [], ◌∷◌, ◌++◌, map, replicate, Some, refl, arith}
use Rattle.std.specs.Prelude.{slice_get}
use Rattle.std.proofs.lemmas.List.{length-replicate}
use Rattle.wasm_core.specs.declared.types.ValType.{ValType}
use Rattle.wasm_core.specs.declared.types.ValType.TheVariants.{I32}
use Rattle.wasm_core.specs.declared.instrs.Instr.{Instr}
use Rattle.wasm_core.specs.Parts.{Parts}
use Rattle.wasm_core.specs.ModuleTyping.{TypedFunc, results_of}
use Rattle.wasm_core.specs.ModuleCondition.{All, IsInstr, IsBody}
use Rattle.wasm_core.proofs.Closed.{typed_is_closed}
use Rattle.wasm_emit.specs.EmittedModule.{room_code}

-- instructions whose immediates have their bits
pub data Good : List Instr → Type 0 where
  good : Good []
  fits : {i : Instr} {rest : List Instr} → IsInstr i → Good rest → Good (i ∷ rest)

pub all_of : {is : List Instr} → Good is → All IsInstr is
all_of good = tt
all_of (fits h k) = (h, all_of k)

pub all_then : {A B : Type 0} (Q : B → Type 0) (h : A → B) (xs : List A) (bs : List B) → ((i : ℕ) (x : A) → slice_get xs i ≡ Some x → Q (h x)) → All Q bs → All Q (map h xs ++ bs)
all_then Q h [] bs a r = r
all_then Q h (x ∷ xs) bs a r = (a zero x refl, all_then Q h xs bs (λ i y e. a (suc i) y e) r)

-- a typed body whose immediates fit
pub body_fits : (M : Parts) (index n : ℕ) (is : List Instr) → n ≤ 50000 → TypedFunc M index (record { locals = replicate n I32; code = is }) → Good is → IsBody (record { locals = replicate n I32; code = is })
body_fits M index n is few t all = (omega (arith, length-replicate {A = ValType} n I32), typed_is_closed M (t.type.params ++ replicate n I32) (results_of t.type) is t.typed (all_of all))

pub room_good : Good room_code
room_good = fits (omega arith) (fits tt (fits (omega arith) (fits tt (fits (omega arith) (fits (omega arith) (fits tt (fits tt (fits tt (fits tt good)))))))))
