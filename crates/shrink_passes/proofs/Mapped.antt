-- A function on terms in the lists of a match and of a fixpoint.
use Rattle.std.proofs.Common.{◌≡◌, List, [], ◌∷◌, ℕ, length, map, refl, sym, ap, ◌∙◌}
use Rattle.trees.specs.Tree.{Done, Next}
use Rattle.pc_terms.specs.declared.leaf.FamilyId.{FamilyId}
use Rattle.box_terms.specs.BoxSyntax.{BoxTerm, BoxTerms, BCase, BFix}
use Rattle.box_terms.specs.BoxLists.{arms_of, bodies_of, rargs_of}
use Rattle.box_terms.specs.declared.term.BoxBranch.{BoxBranch}
use Rattle.box_terms.specs.declared.term.BoxDef.{BoxDef}
use Rattle.box_passes.specs.Maps.{map_branch, map_def}
use Rattle.box_passes.proofs.Maps.{rargs_map, length_map}

-- f on a term, and fs on the terms of a list
module _ (f : BoxTerm → BoxTerm) (fs : BoxTerms → BoxTerms) (none : fs Done ≡ Done) (next : (n : ℕ) (t : BoxTerm) (ts : BoxTerms) → fs (Next n t ts) ≡ Next n (f t) (fs ts)) where
  pub arms_mapped : (bs : List BoxBranch) → fs (arms_of bs) ≡ arms_of (map (map_branch f) bs)
  arms_mapped [] = none
  arms_mapped (b ∷ bs) = next b.binders b.body (arms_of bs) ∙ ap (Next b.binders (f b.body)) (arms_mapped bs)

  pub bodies_mapped : (n : ℕ) (ds : List BoxDef) → fs (bodies_of n ds) ≡ bodies_of n (map (map_def f) ds)
  bodies_mapped n [] = none
  bodies_mapped n (d ∷ ds) = next n d.body (bodies_of n ds) ∙ ap (Next n (f d.body)) (bodies_mapped n ds)

  pub fix_mapped : (ds es : List BoxDef) (i : ℕ) → es ≡ map (map_def f) ds → BFix i (rargs_of es) (bodies_of (length es) es) ≡ BFix i (rargs_of ds) (fs (bodies_of (length ds) ds))
  fix_mapped ds es i e =
      ap (λ es. BFix i (rargs_of es) (bodies_of (length es) es)) e
      ∙ ap (λ rs. BFix i rs (bodies_of (length (map (map_def f) ds)) (map (map_def f) ds))) (rargs_map f ds)
      ∙ ap (λ n. BFix i (rargs_of ds) (bodies_of n (map (map_def f) ds))) (length_map f ds)
      ∙ ap (BFix i (rargs_of ds)) (sym (bodies_mapped (length ds) ds))

  pub case_mapped : (family : FamilyId) (s s' : BoxTerm) (bs cs : List BoxBranch) → s' ≡ f s → cs ≡ map (map_branch f) bs → BCase family s' (arms_of cs) ≡ BCase family (f s) (fs (arms_of bs))
  case_mapped family s s' bs cs e g = ap (λ s. BCase family s (arms_of cs)) e ∙ ap (λ cs. BCase family (f s) (arms_of cs)) g ∙ ap (BCase family (f s)) (sym (arms_mapped bs))
