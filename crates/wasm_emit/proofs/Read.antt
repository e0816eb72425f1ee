-- A word that stands for a value that is data stands for the list of the data's nodes; and a word that a host has stored for data stands for the value.
use Rattle.std.proofs.Common.{◌≡◌, ℕ, suc, ◌+◌, ◌*◌, ◌≤◌, List, [], ◌∷◌, ◌++◌, length, refl, ap, sym, subst, append_assoc, arith}
use Rattle.closure_lift.specs.Lifted.{Val, Vals, size}
use Rattle.anf_convert.specs.AnfData.{DataTree, DataTrees}
use Rattle.closure_lift.specs.LiftKeeps.{IsData, is_data, AreData, are_data_none, are_data_more}
use Rattle.wasm_core.specs.Memory.{word}
use Rattle.wasm_core.specs.WordData.{IsBelow, StandsFor, odd, block, FieldsStand, no_field, field}
use Rattle.anf_convert.specs.Preorder.{fields_of as count, preorder, preorders}
use Rattle.wasm_emit.specs.CallLaws.{Stored, stored_odd, stored_block, FieldsStored, no_fields, last_field, ArgumentsStored, no_arguments, last_argument}
use Rattle.wasm_emit.proofs.Bytes.{Mem}
use Rattle.wasm_emit.proofs.Values.{Stands, s_box, s_empty, s_con, s_clos, Fields, ArgsAt, args_none, args_more}
use Rattle.wasm_emit.proofs.Values as value

pub all_count : {vs : Vals} {ds : DataTrees} → AreData vs ds → count ds ≡ size vs
all_count are_data_none = refl
all_count (are_data_more h hs) = ap suc (all_count hs)

-- one more field, behind the others
one_more : {m : Mem} {base at n : ℕ} {ds d : List (ℕ × ℕ)} (x : ℕ) → x ≡ at + 4 * n → FieldsStand m base at n ds → StandsFor m (word m x) d → IsBelow base (word m x) → FieldsStand m base at (suc n) (ds ++ d)
one_more {m} {base} {at = at} {d = d} x e no_field s low =
    subst (FieldsStand m base at 1) (last d) (field (subst (λ (y : ℕ). StandsFor m (word m y) d) (same at x e) s) (subst (λ (y : ℕ). IsBelow base (word m y)) (same at x e) low) no_field)
  where
    same : (at x : ℕ) → x ≡ at + 4 * 0 → x ≡ at
    same at x e = omega arith

    last : (d : List (ℕ × ℕ)) → d ++ [] ≡ d
    last [] = refl
    last (p ∷ d) = ap (λ (z : List (ℕ × ℕ)). p ∷ z) (last d)
one_more {m} {base} {at} {n = n} {d = d} x e (field {left = left} {first = first} {others = others} h b fs) s low =
    subst (FieldsStand m base at (suc n)) (sym (append_assoc first others d)) (field h b (one_more x (omega arith) fs s low))

mutual
  pub reads : {m : Mem} {limit w : ℕ} {v : Val} {d : DataTree} → limit ≤ length m → Stands m limit w v → IsData v d → StandsFor m w (preorder d)
  reads le (s_empty lt e) (is_data are_data_none) = odd e
  reads le (s_box e) h = elim h [ ]
  reads le (s_clos q lt e pos within head fs) h = elim h [ ]
  reads {w = w} le (s_con q lt e pos some within head fs) (is_data {ds = ds} hs) =
      block (record { quarter = q; aligned = e; there = pos; some = omega (arith, all_count hs); small = lt; header = omega (arith, head, all_count hs); inside = omega (arith, all_count hs) }) (reads_all w le fs hs)

  reads_all : {m : Mem} {limit : ℕ} (w : ℕ) {vs : Vals} {ds : DataTrees} → limit ≤ length m → Fields m limit w vs → AreData vs ds → FieldsStand m w (w + 4) (count ds) (preorders ds)
  reads_all w le value.no_field are_data_none = no_field
  reads_all {m} w le (value.field {v = v} {vs = vs} s low fs) (are_data_more {d = d} {ds = ds} h hs) =
      one_more (w + 4 * suc (size vs)) (omega (arith, all_count hs)) (reads_all w le fs hs) (reads le s h) low

-- what a host has stored
mutual
  stands_of : {m : Mem} {h w : ℕ} {v : Val} {d : DataTree} → IsData v d → Stored m h w d → Stands m h w v
  stands_of (is_data are_data_none) (stored_odd lt e) = s_empty lt e
  stands_of (is_data hs) (stored_block b within fs) = s_con b.quarter b.small b.aligned b.there (omega (arith, b.some, all_count hs)) (omega (arith, all_count hs)) (omega (arith, b.header, all_count hs)) (fields_of hs fs)

  fields_of : {m : Mem} {h w : ℕ} {vs : Vals} {ds : DataTrees} → AreData vs ds → FieldsStored m h w ds → Fields m h w vs
  fields_of are_data_none no_fields = value.no_field
  fields_of {m} {h} {w} (are_data_more {v = v} {vs = vs} {ds = ds} x hs) (last_field s low fs) =
      let same : word m (w + 4 * suc (count ds)) ≡ word m (w + 4 * suc (size vs)) = ap (λ n. word m (w + 4 * suc n)) (all_count hs) in
      value.field (subst (λ z. Stands m h z v) same (stands_of x s)) (subst (IsBelow w) same low) (fields_of hs fs)

pub args_of : {m : Mem} {h a : ℕ} {vs : Vals} {ds : DataTrees} → AreData vs ds → ArgumentsStored m h a ds → ArgsAt m h a vs
args_of are_data_none no_arguments = args_none
args_of {m} {h} {a} (are_data_more {v = v} {vs = vs} {ds = ds} x hs) (last_argument s within fs) =
    let same : word m (a + 4 * count ds) ≡ word m (a + 4 * size vs) = ap (λ n. word m (a + 4 * n)) (all_count hs) in
    args_more (subst (λ z. Stands m h z v) same (stands_of x s)) (omega (arith, within, all_count hs)) (args_of hs fs)
