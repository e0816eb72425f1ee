-- A run of a valid module starts wherever nothing is refused.
use Rattle.std.proofs.Common.{◌≡◌, ℕ, suc, List, [], ◌∷◌, Option, Some, None, Bool, true, false, refl, ap, ◌∙◌}
use Rattle.std.specs.Prelude.{if◌then◌else◌, nat_le, ◌&&◌}
use Rattle.std.specs.Option.{option_and_then}
use Rattle.wasm_core.specs.declared.ended.NewFault.{NewFault}
use Rattle.wasm_core.specs.declared.ended.NewFault.TheVariants as new
use Rattle.wasm_core.specs.declared.entries.Entry.{Entry}
use Rattle.wasm_core.specs.declared.entries.Entry.TheVariants as entry
use Rattle.wasm_core.specs.declared.elements.Segment.{Segment}
use Rattle.wasm_core.specs.Instance.{Func, least, segment_fits, all_fit, segments_fit}
use Rattle.wasm_core.specs.Entries.{index_of, missing, missing_before, missing_for_call, or_missing}
use Rattle.wasm_core.specs.Parts.{Parts}
use Rattle.wasm_core.specs.Runs.{start, start_at}
use Rattle.wasm_core.specs.MachineRun.{first_past, past_fault, size_refusal, unless_missing}
use Rattle.wasm_core.specs.Laws.{StartsUnlessRefused, CallsAreRuns}
use Rattle.wasm_core.proofs.Functions.{found_at}
use Rattle.wasm_core.proofs.Starting.{main_there}

not_missing : (o : Option Entry) (others : Option NewFault) → unless_missing o others ≡ None → (o ≡ None) × (others ≡ None)
not_missing None others e = (refl, e)
not_missing (Some n) others e = cc

there : (n : Entry) (o : Option ℕ) (others : Option Entry) → or_missing n o others ≡ None → (i : ℕ) × (o ≡ Some i)
there n None others e = cc
there n (Some i) others e = (i, refl)

held : (b : Bool) (o : Option NewFault) (f : NewFault) → (if b then o else Some f) ≡ None → o ≡ None
held true o f e = e
held false o f e = cc

none_past : (o : Option ℕ) → past_fault o ≡ None → o ≡ None
none_past None e = refl
none_past (Some n) e = cc

-- where no segment is past the table, all fit
pub all_held : (n size : ℕ) (segments : List Segment) → first_past n size segments ≡ None → all_fit size segments ≡ true
all_held n size [] e = refl
all_held n size (s ∷ segments) e = by (segment_fits size s) refl e (λ h. all_held (suc n) size segments h)
  where
    by : (b : Bool) → segment_fits size s ≡ b → (if b then first_past (suc n) size segments else Some n) ≡ None → (first_past (suc n) size segments ≡ None → all_fit size segments ≡ true) → (segment_fits size s && all_fit size segments) ≡ true
    by true h e go = ap (λ (b : Bool). b && all_fit size segments) h ∙ go e
    by false h e go = cc

pub starts_unless_refused : StartsUnlessRefused
starts_unless_refused m cap valid e =
    let (named, rest) = not_missing (missing m) (size_refusal m cap) e in
    let (f, hf) = there entry.Main (index_of entry.Main m) (or_missing entry.Memory (index_of entry.Memory m) (or_missing entry.Result (index_of entry.Result m) (or_missing entry.Status (index_of entry.Status m) None))) named in
    let small = held (nat_le (least m.memory) cap) (if nat_le (least m.table) 65536 then past_fault (first_past 0 (least m.table) m.elements) else Some new.Table) new.Pages rest in
    let fits = none_past (first_past 0 (least m.table) m.elements) (held (nat_le (least m.table) 65536) (past_fault (first_past 0 (least m.table) m.elements)) new.Table small) in
    let fit : segments_fit m ≡ true = all_held 0 (least m.table) m.elements fits in
    let h = main_there m f hf in
    let (x, t) = found_at m valid f h.index h.is_func in (
      start m x.func,
      ap (λ (b : Bool). if b then option_and_then (λ f. start_at m f) (index_of entry.Main m) else None) fit
          ∙ ap (option_and_then (λ f. start_at m f)) hf
          ∙ ap (option_and_then (λ (g : Func). Some (start m g))) x.is,
    )

behind : (n : Entry) (o : Option ℕ) (others : Option Entry) → or_missing n o others ≡ None → (others ≡ None) × (or_missing n o None ≡ None)
behind n None others e = cc
behind n (Some i) others e = (e, refl)

calls_first : (m : Parts) (others : Option Entry) → missing_before m others ≡ None → (others ≡ None) × (missing_before m None ≡ None)
calls_first m others e =
    let status : Option Entry → Option Entry = λ o. or_missing entry.Status (index_of entry.Status m) o in
    let result : Option Entry → Option Entry = λ o. or_missing entry.Result (index_of entry.Result m) o in
    let memory : Option Entry → Option Entry = λ o. or_missing entry.Memory (index_of entry.Memory m) o in
    let main : Option Entry → Option Entry = λ o. or_missing entry.Main (index_of entry.Main m) o in
    let (a, ka) = behind entry.Main (index_of entry.Main m) (memory (result (status others))) e in
    let (b, kb) = behind entry.Memory (index_of entry.Memory m) (result (status others)) a in
    let (c, kc) = behind entry.Result (index_of entry.Result m) (status others) b in
    let (d, kd) = behind entry.Status (index_of entry.Status m) others c in (
      d,
      ap (λ o. main (memory (result o))) kd ∙ ap (λ o. main (memory o)) kc ∙ ap main kb ∙ ka,
    )

pub calls_are_runs : CallsAreRuns
calls_are_runs m cap e =
    let heap = index_of entry.Heap m in let args = index_of entry.Args m in
    let (named, rest) = not_missing (missing_for_call m) (size_refusal m cap) e in
    let (more, first) = calls_first m (or_missing entry.Heap heap (or_missing entry.Args args None)) named in
    let (h, hh) = there entry.Heap heap (or_missing entry.Args args None) more in
    let (last, heap_alone) = behind entry.Heap heap (or_missing entry.Args args None) more in
    let (a, ha) = there entry.Args args None last in (
      record { heap_at = h; heap = hh; args_at = a; args = ha },
      ap (λ (o : Option Entry). unless_missing o (size_refusal m cap)) first ∙ rest,
    )
