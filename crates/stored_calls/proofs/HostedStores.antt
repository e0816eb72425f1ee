-- What storing arguments makes of a new machine's store is a store that holds them.
use Rattle.std.proofs.Common.{◌≡◌, ℕ, ◌+◌, ◌-◌, ◌*◌, ◌≤◌, [], ◌∷◌, length, Bool, true, false, Option, Some, None, refl, sym, ap, ◌∙◌, subst, arith, length-append}
use Rattle.std.specs.Prelude.{◌&&◌, min, nat_le, slice_get}
use Rattle.std.specs.Option.{option_and_then}
use Rattle.std.proofs.lemmas.Bool.{leb-true}
use Rattle.std.proofs.lemmas.Option.{same_Some}
use Rattle.wasm_core.specs.declared.types.ConstValue.TheVariants.{I32}
use Rattle.wasm_core.specs.declared.entries.Entry.TheVariants as entry
use Rattle.wasm_core.specs.Memory.{zeroed}
use Rattle.wasm_core.specs.Entries.{from_nothing, index_of, or_missing}
use Rattle.wasm_core.specs.MachineStep.{Store}
use Rattle.wasm_core.specs.HostStore.{pages_for}
use Rattle.wasm_core.specs.StoredData.{ArgumentsWithin}
use Rattle.known_calls.specs.KnownModule.{worker_type}
use Rattle.known_calls.specs.KnownCalls.{module_of_call}
use Rattle.wasm_emit.specs.EmittedModule.{main_index}
use Rattle.wasm_emit.proofs.Bytes.{zeroed_word, zeroed_length}
use Rattle.known_calls.proofs.KnownIndices.{main_in}
use Rattle.wasm_core.proofs.MemoryWords.{word_same}
use Rattle.call_answers.specs.HostedCall.{HoldsArguments}
use Rattle.stored_calls.specs.Laws.{CallModulesHaveEntries, NewMachinesHaveAHeap, StoredArgumentsAreHeld}

pub call_modules_have_entries : CallModulesHaveEntries
call_modules_have_entries P k pages =
    let M = module_of_call P k pages in
    let exported : index_of entry.Main M ≡ Some (main_index P) = ap (λ (o : Option ℕ). option_and_then (λ index. option_and_then (λ t. from_nothing t.params t.result (main_index P)) (slice_get M.types index)) o) (main_in P (λ g f. 2) (λ t. 1) 0 (λ g f. worker_type f)) in
    (ap (λ o. or_missing entry.Main o None) exported, record { heap_at = 2; heap = refl; args_at = 3; args = refl })

pub new_machines_have_a_heap : NewMachinesHaveAHeap
new_machines_have_a_heap P k pages = record { heap = 8; is = refl; quarter = 2; aligned = omega arith; there = omega arith; inside = omega (arith, zeroed_length 1) }

both_true : (a b : Bool) → (a && b) ≡ true → b ≡ true
both_true true b e = e
both_true false b e = cc

pub stored_arguments_are_held : StoredArgumentsAreHeld
stored_arguments_are_held P k cap pages new arguments h =
    let n : ℕ = 1 + (pages_for h.past - 1) in
    let at : Store = record { pages = n; memory = h.memory; globals = I32 0 ∷ I32 0 ∷ I32 h.past ∷ I32 h.address ∷ []; refused = false; by_choice = false } in
    let is : new ≡ at = h.is in
    let eight : 8 ≡ h.first = same_Some _ _ h.was in
    let long : length h.memory ≡ 65536 * 1 + 65536 * (pages_for h.past - 1) = h.size ∙ length-append (zeroed 1) (zeroed (pages_for h.past - 1)) ∙ (λ i. zeroed_length 1 i + zeroed_length (pages_for h.past - 1) i) in
    let few : pages_for h.past ≤ min cap pages = leb-true (pages_for h.past) (min cap pages) (both_true (nat_le h.past 4294967295) (nat_le (pages_for h.past) (min cap pages)) h.room) in
    let past = h.ends in
    let begins = h.begins in
    subst (λ s. HoldsArguments pages arguments s) (sym is) (record {
      heap = h.past;
      address = h.address;
      globals = refl;
      refused = refl;
      by_choice = refl;
      whole = omega (arith, long);
      few = omega (arith, few, past, begins, eight);
      quarter = h.quarter + length arguments;
      aligned = omega (arith, past, h.aligned);
      above = omega (arith, past, begins, eight);
      inside = h.inside;
      zero = word_same (zeroed 1) h.memory 0 (λ x l u. h.kept x (omega (arith, u, eight))) ∙ zeroed_word;
      room = omega (arith, past);
      stands = subst (λ low. ArgumentsWithin h.memory low h.past h.address arguments) (sym eight) h.arguments;
    })
