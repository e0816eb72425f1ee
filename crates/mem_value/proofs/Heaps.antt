-- Where blocks may begin.
use Rattle.std.proofs.Common.{◌≡◌, ℕ, ◌*◌, ◌/◌, ◌%◌, ◌<◌, ◌≤◌, length, Some, arith}
use Rattle.wasm_core.specs.declared.entries.Entry.TheVariants.{Heap}
use Rattle.wasm_core.specs.Parts.{Parts}
use Rattle.wasm_core.specs.MachineStep.{Store}
use Rattle.wasm_core.specs.Answer.{global_of}
use Rattle.mem_value.specs.Storing.{HasHeap}

-- they may begin at a multiple of 4 other than 0 that lies in the memory
pub heap_is : (m : Parts) (s : Store) (heap : ℕ) → global_of Heap m s ≡ Some heap → heap % 4 ≡ 0 → 0 < heap → heap ≤ length s.memory → HasHeap m s
heap_is m s heap e quarter there inside = record { heap = heap; is = e; quarter = heap / 4; aligned = whole heap quarter; there = there; inside = inside }
  where
    whole : (n : ℕ) → n % 4 ≡ 0 → n ≡ 4 * (n / 4)
    whole n e = omega (arith, e)
