-- The families of blocks, from the last one back.
use Rattle.std.proofs.Common.{◌≡◌, ◌∙◌, ◌+◌, ◌<◌, ap, sym, subst, refl, ◌≤◌, ℕ, suc, List, [], ◌∷◌, ◌++◌, length, drop, get_or, reverse, arith}
use Rattle.std.proofs.lemmas.List.{reverse-append, reverse-reverse, append_assoc, append-nil}
use Rattle.calculus_rules.specs.declared.declaration.Block.{Block}
use Rattle.calculus_rules.specs.declared.declaration.Family.{Family}
use Rattle.calculus_rules.specs.declared.declaration.Kept.{Kept}
use Rattle.calculus_rules.specs.declared.declaration.Kept.TheVariants.{Constant, Heads, Block as Whole}
use Rattle.calculus_rules.specs.Environment.{with_parameters}
use Rattle.pc_rules.proofs.ListSteps.{next_is, none_left}
use Rattle.lambda_box.specs.BoxProgram.{BoxFamily}
use Rattle.erase_laws.specs.ErasedProgram.{counts_of}
use Rattle.erase_rules.specs.DirectedProgram.{families_from, box_families}

module _ (B : Block) (Fs : List Family) where
  abbrev pub from_family : ℕ → List BoxFamily
  from_family i = families_from B i (drop i Fs)

  -- none are left at the end
  pub families_begin : (out : List BoxFamily) (n : ℕ) → length Fs ≡ n → out ≡ out ++ reverse (from_family n)
  families_begin out n e = sym (ap (λ Gs. out ++ reverse (families_from B n Gs)) (none_left Fs n (subst (λ k. k ≤ n) (sym e) (omega arith))) ∙ append-nil out)

  -- the one before stands behind those from family i + 1 on
  pub families_back : (first out : List BoxFamily) (i : ℕ) (F : Family) → i < length Fs → F ≡ get_or Fs i F → out ≡ first ++ reverse (from_family (i + 1)) →
      out ++ (counts_of (record { block = B.name; family = i }) (with_parameters B.params F) ∷ []) ≡ first ++ reverse (from_family i)
  families_back first out i F l e h =
      let G : BoxFamily = counts_of (record { block = B.name; family = i }) (with_parameters B.params F) in
      let next : i + 1 ≡ suc i = omega arith in
      let X : List BoxFamily = families_from B (suc i) (drop (i + 1) Fs) in
      let h' : out ≡ first ++ reverse X = h ∙ ap (λ n. first ++ reverse (families_from B n (drop (i + 1) Fs))) next in
      let turned : reverse (G ∷ X) ≡ reverse X ++ (G ∷ []) = reverse-append (G ∷ []) X in
      ap (λ xs. xs ++ (G ∷ [])) h' ∙ append_assoc first (reverse X) (G ∷ []) ∙ ap (λ xs. first ++ xs) (sym turned)
      ∙ ap (λ Gs. first ++ reverse (families_from B i Gs)) (sym (next_is Fs i F l e))

-- one more block is behind those that are declared later

pub block_families : (B : Block) (ds : List Kept) (out new whole : List BoxFamily) → new ≡ out ++ reverse (families_from B 0 B.families) → box_families (Whole B ∷ ds) ++ reverse out ≡ whole →
    box_families ds ++ reverse new ≡ whole
block_families B ds out new whole h w =
    let X : List BoxFamily = families_from B 0 B.families in
    ap (λ xs. box_families ds ++ reverse xs) h
    ∙ ap (λ xs. box_families ds ++ xs) (reverse-append out (reverse X) ∙ ap (λ xs. xs ++ reverse out) (reverse-reverse X))
    ∙ sym (append_assoc (box_families ds) X (reverse out)) ∙ w

pub other_families : (d : Kept) (ds : List Kept) → ((B : Block) → d ≡ Whole B → ⊥) → box_families (d ∷ ds) ≡ box_families ds
other_families (Constant k T o) ds h = refl
other_families (Heads B) ds h = refl
other_families (Whole B) ds h = absurd (h B refl)
