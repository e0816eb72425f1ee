-- A machine of a module for calls is refused for nothing, as one of the module of a main without arguments isn't; and a host finds room behind its first `heap`.
use Rattle.std.proofs.Common.{◌≡◌, ℕ, suc, ◌+◌, ◌≤◌, length, Option, Some, None, Bool, true, ap, ◌∙◌, arith, le-leb}
use Rattle.std.specs.Prelude.{if◌then◌else◌, slice_get, nat_le}
use Rattle.std.specs.Option.{option_and_then}
use Rattle.wasm_core.specs.declared.ended.NewFault.TheVariants.{Pages, Table}
use Rattle.wasm_core.specs.declared.entries.Entry.{Entry}
use Rattle.wasm_core.specs.declared.entries.Entry.TheVariants.{Main}
use Rattle.wasm_core.specs.Entries.{index_of, from_nothing, missing_for_call, or_missing}
use Rattle.wasm_core.specs.MachineRun.{refusal_for_call, unless_missing, past_fault}
use Rattle.closure_lift.specs.Lifted.{Program}
use Rattle.wasm_emit.specs.EmittedModule.{main_index, entries}
use Rattle.known_calls.specs.KnownModule.{worker_type}
use Rattle.known_calls.specs.KnownCalls.{module_of_call}
use Rattle.wasm_emit.proofs.Indices.{entries_length}
use Rattle.known_calls.proofs.KnownIndices.{main_in}

module _ (P : Program) (k pages : ℕ) where
  exported : index_of Main (module_of_call P k pages) ≡ Some (main_index P)
  exported = ap (λ (o : Option ℕ). option_and_then (λ index. option_and_then (λ t. from_nothing t.params t.result (main_index P)) (slice_get (module_of_call P k pages).types index)) o) (main_in P (λ g f. 2) (λ t. 1) 0 (λ g f. worker_type f))

  none_missing : missing_for_call (module_of_call P k pages) ≡ None
  none_missing = ap (λ (o : Option ℕ). or_missing Main o None) exported

  pub never_refused_for_call : 1 ≤ pages → length P.functions ≤ 32768 → refusal_for_call (module_of_call P k pages) pages ≡ None
  never_refused_for_call pos few =
      let n = suc (length P.functions) in
      let least : nat_le 1 pages ≡ true = le-leb 1 pages pos in
      let table : nat_le n 65536 ≡ true = le-leb n 65536 (omega (arith, few)) in
      let segment : nat_le (0 + length (entries 1 n)) n ≡ true = le-leb _ _ (omega (arith, entries_length 1 n)) in
      ap (λ (o : Option Entry). unless_missing o (if nat_le 1 pages then (if nat_le n 65536 then past_fault (if nat_le (0 + length (entries 1 n)) n then None else Some 0) else Some Table) else Some Pages)) none_missing
      ∙ ap (λ (b : Bool). if b then (if nat_le n 65536 then past_fault (if nat_le (0 + length (entries 1 n)) n then None else Some 0) else Some Table) else Some Pages) least
      ∙ ap (λ (b : Bool). if b then past_fault (if nat_le (0 + length (entries 1 n)) n then None else Some 0) else Some Table) table
      ∙ ap (λ (b : Bool). past_fault (if b then None else Some 0)) segment
