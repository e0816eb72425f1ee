-- The test that makes sure that memory reaches the heap's end.
use Rattle.std.proofs.Common.{◌≡◌, ℕ, suc, ◌+◌, ◌-◌, ◌*◌, ◌^◌, ◌<◌, ◌≤◌, List, ◌∷◌, Option, Some, Bool, false, refl, ap, ◌∙◌, arith}
use Rattle.std.proofs.lemmas.Bool.{cases_lt}
use Rattle.std.specs.Prelude.{slice_get, ◌⊎◌}
use Rattle.std.specs.Option.{option_and_then}
use Rattle.std.proofs.Common.{inl, inr}
use Rattle.std.proofs.Common.{length, ◌++◌, length-append}
use Rattle.wasm_emit.proofs.Bytes.{Mem, word_same, more_same, zeroed_length}
use Rattle.wasm_emit.proofs.Holds.{Same}
use Rattle.wasm_core.specs.declared.types.ConstValue.{ConstValue}
use Rattle.wasm_core.specs.declared.types.ConstValue.TheVariants.{I32}
use Rattle.wasm_core.specs.declared.instrs.Instr.{Instr}
use Rattle.wasm_core.specs.declared.instrs.I32Op.TheVariants as op32
use Rattle.wasm_core.specs.declared.instrs.Instr.TheVariants.{Unreachable, End, Call, GlobalGet, GlobalSet, I32 as Operation}
use Rattle.wasm_core.specs.declared.entries.Entry.TheVariants.{Status}
use Rattle.wasm_core.specs.Memory.{word, zeroed}
use Rattle.wasm_core.specs.Parts.{Parts}
use Rattle.wasm_core.specs.Instance.{func_of, greatest_pages}
use Rattle.wasm_core.specs.Entries.{index_of}
use Rattle.wasm_core.specs.Answer.{i32_of}
use Rattle.wasm_core.specs.MachineStep.{BlockLabel, State, after_end}
use Rattle.wasm_core.specs.RunTree.{gone}
use Rattle.wasm_core.proofs.Rules.{Around}
use Rattle.wasm_core.proofs.Rules as rule
use Rattle.wasm_emit.specs.EmitLaws.{spent}
use Rattle.wasm_emit.specs.EmittedCode.{ConstWord, IfOnly, ensure_room}
use Rattle.wasm_emit.specs.EmittedModule.{room_code, type_main, type_function}
use Rattle.wasm_emit.proofs.Rules.{Limits, Within, here, in_block, refusing, func, looser, dying, r_const, r_heap, r_set_status, r_get_status, r_size, r_eq_no, r_gt_yes, r_gt_no, r_bytes, r_if, r_if_not, r_end, r_back_nothing, r_call_nothing, r_grow}

-- the heap ends at an aligned address within memory, which has grown past its first pages only where the heap takes them
pub record Room (M : Parts) (cap : Limits) (m : Mem) (p h : ℕ) : Type 0 where
  pub long : length m ≡ 65536 * p
  pub q : ℕ
  pub aligned : h ≡ 4 * q
  pub above : 8 ≤ h
  pub fits : h ≤ 65536 * p
  pub inside : h ≤ length m
  pub tight : cap.first < p → 65536 * p < h + 65536
  pub pages : p ≤ greatest_pages M.memory

-- what the run time of a module gives
pub record HasRunTime (M : Parts) : Type 0 where
  pub small : greatest_pages M.memory ≤ 16384
  pub room : func_of M 0 ≡ Some (func type_main 0 room_code)
  pub function : slice_get M.types 2 ≡ Some type_function
  pub status : index_of Status M ≡ Some 1

module _ (M : Parts) (fixed : HasRunTime M) (cap : Limits) (Q : State → Type 0) where
  stopped : {l b : ℕ} {f : Around} {m : Mem} {p h : ℕ} {ls vals : List ConstValue} {rest : List Instr} {x : Bool} → (x ≡ false → 65536 * greatest_pages M.memory < cap.bytes) → length f.callers ≤ cap.frames → 6 ≤ b →
      Within M cap Q l b (rule.here f (refusing cap x m p h) ls (I32 (2 ^ 32 - 1) ∷ vals) (ConstWord (2 ^ 32 - 1) ∷ Operation op32.Eq ∷ GlobalSet 1 ∷ GlobalGet 1 ∷ IfOnly ∷ Unreachable ∷ rest))
  stopped {l} {h = h} short deep big = looser M cap Q {l = l} {u = 6} (dying M cap Q (omega arith) (λ g. refl) (dying M cap Q (omega arith) (λ g. refl)
      (dying M cap Q (omega arith) (λ g. refl) (dying M cap Q (omega arith) (λ g. refl) (dying M cap Q (omega arith) (λ g. refl) (dying M cap Q (omega arith) (λ g. refl)
      (gone (spent (record { status = ap (λ (o : Option ℕ). option_and_then (λ (x : ℕ). option_and_then i32_of (slice_get (I32 0 ∷ I32 1 ∷ I32 h ∷ cap.more) x)) o) fixed.status; refused = refl }) short)))))))) (omega arith) big

  -- the heap's end has moved past n bytes more
  pub allocated : {f : Around} {m : Mem} {p h n : ℕ} {ls vals : List ConstValue} {rest : List Instr} {l u : ℕ} → suc (length f.callers) ≤ cap.frames → h + n ≤ cap.bytes → n ≤ 65536 → Room M cap m p h →
      ((m' : Mem) (p' : ℕ) → Same h m m' → length m' ≡ 65536 * p' → p' ≤ greatest_pages M.memory → h + n ≤ 65536 * p' → (cap.first < p' → 65536 * p' < h + n + 65536) →
      Within M cap Q l u (here cap f m' p' (h + n) ls vals rest)) → Within M cap Q l (25 + u) (here cap f m p (h + n) ls vals (ensure_room rest))
  allocated {f} {m} {p} {h} {n} {ls} {vals} {rest} {l} {u} deep needed small_n room k = cases (cases_lt (65536 * p) (h + n))
    where
      label : BlockLabel
      label = record { keeps = false; goes_on = after_end 0 (Call 0 ∷ End ∷ rest); below = vals }

      cases : (65536 * p < h + n) ⊎ (h + n ≤ 65536 * p) → Within M cap Q l (25 + u) (here cap f m p (h + n) ls vals (ensure_room rest))
      cases (inl over) = looser M cap Q
          (r_heap M cap Q (omega arith) (r_size M cap Q (omega arith) (r_const M cap Q (omega arith) 16 (r_bytes M cap Q (omega arith) (omega (arith, room.pages, fixed.small))
          (r_gt_yes M cap Q (omega arith) over (r_if M cap Q (omega arith) (r_call_nothing M cap Q {f = in_block label f} 0 (omega arith) fixed.room
          (r_const M cap Q (omega arith) 1 (r_grow M cap Q (omega arith) (λ in_max.
          (r_const M cap Q (omega arith) (2 ^ 32 - 1) (r_eq_no M cap Q (omega arith) (λ e. omega (arith, room.pages, fixed.small)) (r_set_status M cap Q (omega arith) (r_get_status M cap Q (omega arith) (r_if_not M cap Q (omega arith) (r_end M cap Q (omega arith)
          (r_back_nothing M cap Q {f = in_block label f} (omega arith) (r_end M cap Q {k = label} (omega arith)
          (k (m ++ zeroed 1) (p + 1) (λ x lt. more_same m 1 x (omega (arith, room.long, room.fits))) (omega (arith, room.long, length-append m (zeroed 1), zeroed_length 1)) in_max (omega (arith, room.fits))
          (λ grown. omega (arith, over))))))))))))
          (λ x short. stopped (λ z. omega (arith, short z, room.pages, fixed.small)) (omega arith) (omega arith)))))))))))
          (omega arith) (omega arith)
      cases (inr enough) = looser M cap Q
          (r_heap M cap Q (omega arith) (r_size M cap Q (omega arith) (r_const M cap Q (omega arith) 16 (r_bytes M cap Q (omega arith) (omega (arith, room.pages, fixed.small))
          (r_gt_no M cap Q (omega arith) enough (r_if_not M cap Q (omega arith) (r_end M cap Q {k = label} (omega arith) (k m p (λ x lt. refl) room.long room.pages enough (λ grown. omega (arith, room.tight grown))))))))))
          (omega arith) (omega arith)

-- where memory is the same below the end of the heap, its first word is too
pub low_word : {M : Parts} {cap : Limits} (m m' : Mem) {p h : ℕ} → Room M cap m p h → Same h m m' → word m 0 ≡ 0 → word m' 0 ≡ 0
low_word m m' room same nil = word_same m m' 0 (λ x a b. same x (omega (arith, room.above))) ∙ nil

-- where it began with at most one page, its pages are the fewest that the heap takes
pub one_page : {M : Parts} {cap : Limits} {m : Mem} {p h : ℕ} → Room M cap m p h → cap.first ≤ 1 → 65536 * p < h + 65536
one_page {p = p} {h = h} room le = by (cases_lt 1 p)
  where
    by : (1 < p) ⊎ (p ≤ 1) → 65536 * p < h + 65536
    by (inl grown) = room.tight (omega (arith, le, grown))
    by (inr few) = omega (arith, few, room.above)
