-- The labels of a checker's open blocks.
use Rattle.std.proofs.Common.{◌≡◌, ℕ, zero, suc, ◌-◌, ◌<◌, List, [], ◌∷◌, length, map, reverse, get_or, Some, None, refl, ap, sym, ◌∙◌, arith}
use Rattle.std.specs.Prelude.{slice_get}
use Rattle.std.specs.Option.{option_to_list}
use Rattle.std.proofs.lemmas.List.{length-reverse, get_or-reverse}
use Rattle.std.proofs.lemmas.Option.{slice_get-get_or, same_Some}
use Rattle.wasm_core.specs.ModuleTyping.{OperandTypes}
use Rattle.wasm_core.specs.Pass.{labels_of}
use Rattle.wasm_validate.specs.declared.checker.Control.{Control}
use Rattle.wasm_validate.specs.Checkers.{ctl_of}

module _ (own : OperandTypes) where
  of_block : (cs : List Control) (i : ℕ) (c : Control) → slice_get cs i ≡ Some c → slice_get (labels_of own (map ctl_of cs)) i ≡ Some (option_to_list c.label)
  of_block [] i c e = cc
  of_block (d ∷ cs) zero c e = ap (λ (x : Control). Some (option_to_list x.label)) (same_Some _ _ e)
  of_block (d ∷ cs) (suc i) c e = of_block cs i c e

  of_own : (cs : List Control) (i : ℕ) → i ≡ length cs → slice_get (labels_of own (map ctl_of cs)) i ≡ Some own
  of_own [] zero e = refl
  of_own [] (suc i) e = absurd (omega arith)
  of_own (d ∷ cs) zero e = absurd (omega arith)
  of_own (d ∷ cs) (suc i) e = of_own cs i (omega arith)

  of_none : (cs : List Control) (i : ℕ) → length cs < i → slice_get (labels_of own (map ctl_of cs)) i ≡ None
  of_none [] zero e = absurd (omega arith)
  of_none [] (suc i) e = refl
  of_none (d ∷ cs) zero e = absurd (omega arith)
  of_none (d ∷ cs) (suc i) e = of_none cs i (omega arith)

  -- the label of an open block
  pub label_block : (cs : List Control) (i n : ℕ) (c : Control) → n ≡ length cs → i < n → c ≡ get_or cs (n - 1 - i) c → slice_get (labels_of own (map ctl_of (reverse cs))) i ≡ Some (option_to_list c.label)
  label_block cs i n c l lt e =
      let w : i < length cs = omega arith in
      let r : i < length (reverse cs) = rw length-reverse w in
      of_block (reverse cs) i c (slice_get-get_or (reverse cs) i c r ∙ ap Some (get_or-reverse cs i c w ∙ ap (λ k. get_or cs (k - 1 - i) c) (sym l) ∙ sym e))

  -- the function's own label
  pub label_own : (cs : List Control) (i : ℕ) → i ≡ length cs → slice_get (labels_of own (map ctl_of (reverse cs))) i ≡ Some own
  label_own cs i e = of_own (reverse cs) i (e ∙ sym (length-reverse cs))

  -- no label
  pub label_none : (cs : List Control) (i : ℕ) → length cs < i → slice_get (labels_of own (map ctl_of (reverse cs))) i ≡ None
  label_none cs i lt = of_none (reverse cs) i (rw length-reverse lt)
