-- Memory never shrinks in a step.
use Rattle.std.proofs.Common.{ℕ, zero, suc, ◌+◌, ◌-◌, ◌^◌, List, ◌∷◌, ◌++◌, Bool, true, refl, subst, arith, length-append}
use Rattle.std.specs.Prelude.{nat_le, ◌&&◌}
use Rattle.wasm_core.specs.declared.types.ConstValue.{ConstValue}
use Rattle.wasm_core.specs.declared.types.ConstValue.TheVariants.{I32}
use Rattle.wasm_core.specs.declared.instrs.Instr.{Instr}
use Rattle.wasm_core.specs.Parts.{Parts}
use Rattle.wasm_core.specs.Memory.{zeroed}
use Rattle.wasm_core.specs.Instance.{greatest_pages}
use Rattle.wasm_core.specs.MachineStep.{Store, Conf, State, At, Over, step, storing, grown, StepsTo}
use Rattle.wasm_core.specs.Runs.{store_of}
use Rattle.wasm_core.specs.Laws.{Grows, MemoryGrows}
use Rattle.wasm_core.proofs.Gives.{Gives, gives_at, g_if, a_i32}
use Rattle.wasm_core.proofs.StoreSteps.{Keeps, next_keeps}

keeps : (m : Parts) (g : Bool) (c : Conf) → Keeps m g c (Grows c.store)
keeps m g c = record {
  same = record { pages = omega arith; bytes = omega arith; refused = λ e. e };
  sets = λ globals. record { pages = omega arith; bytes = omega arith; refused = λ e. e };
  writes = λ memory len. record { pages = omega arith; bytes = omega arith; refused = λ e. e };
  grows = λ rest. a_i32 (λ s. Grows c.store (store_of s)) c.current.operands (λ n operands. grown m g n operands rest c) (λ n vals. grows n vals rest);
}
  where
    grows : (n : ℕ) (vals : List ConstValue) (rest : List Instr) → Gives (λ s. Grows c.store (store_of s)) (grown m g n vals rest c)
    grows n vals rest =
        g_if (λ s. Grows c.store (store_of s)) (g && nat_le (c.store.pages + n) (greatest_pages m.memory))
        (storing c (record c.store { pages = c.store.pages + n; memory = c.store.memory ++ zeroed n }) (I32 c.store.pages ∷ vals) rest)
        (storing c (record c.store { refused = true; by_choice = nat_le (c.store.pages + n) (greatest_pages m.memory) }) (I32 (2 ^ 32 - 1) ∷ vals) rest)
        (λ e. record { pages = omega arith; bytes = omega (arith, length-append c.store.memory (zeroed n)); refused = λ h. h })
        (record { pages = omega arith; bytes = omega arith; refused = λ h. refl })

grow_step : (m : Parts) (granted : Bool) (s t : State) → StepsTo m granted s t → Grows (store_of s) (store_of t)
grow_step m granted (At c) t e = gives_at (λ s. Grows c.store (store_of s)) (step m granted c) t (next_keeps m granted c (Grows c.store) (keeps m granted c) c.current.rest) e
grow_step m granted (Over end store) t e = absurd e

after : {r s t : Store} → Grows r s → Grows s t → Grows r t
after a b = record { pages = omega (arith, a.pages, b.pages); bytes = omega (arith, a.bytes, b.bytes); refused = λ e. b.refused (a.refused e) }

pub memory_grows : MemoryGrows
memory_grows m zero s t r = subst (λ u. Grows (store_of s) (store_of u)) r (record { pages = omega arith; bytes = omega arith; refused = λ e. e })
memory_grows m (suc k) s t (mid, r, (granted, e)) = after (memory_grows m k s mid r) (grow_step m granted mid t e)
