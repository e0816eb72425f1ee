-- Both passes, one after the other.
use Rattle.std.proofs.Common.{◌≡◌, ℕ, zero, suc, ◌+◌, ◌*◌, Bool, true, false, List, [], ◌∷◌, map, Option, Some, None, length, drop, nat_le, if◌then◌else◌, refl, sym, ap, ◌∙◌, subst, arith}
use Rattle.std.proofs.lemmas.Nat.{mul-le}
use Rattle.std.specs.Prelude.{slice_get}
use Rattle.trees.specs.Tree.{Rel, Done, Next}
use Rattle.pc_terms.specs.declared.leaf.FamilyId.{FamilyId}
use Rattle.box_terms.specs.BoxSyntax.{BoxTerm, BoxTerms, Box, BLambda, BLetIn, BApp, BConst, BConstruct, BCase, BFix}
use Rattle.lambda_box.specs.BoxProgram.{BoxFamily, BoxProgram, box_apply}
use Rattle.box_passes.specs.PassLaws.{PassesForm, PassesCount}
use Rattle.lambda_box.specs.OrdinaryForm.{propositional_of, IsOrdinary, AreOrdinary, IsOrdinaryProgram}
use Rattle.box_passes.specs.PropMatch.{prop_match_program}
use Rattle.lambda_box.specs.OrdinaryForm.{same_family, family_of}
use Rattle.box_passes.specs.Saturate.{innermost, lambdas, constructor_function, saturate_counted, saturate_arguments, saturate_family, saturate_applied, saturate_terms, saturate_term, saturate_constant, without_parameters, saturate_program}
use Rattle.lambda_box.specs.DataTerms.{no_data}
use Rattle.lambda_box.specs.SaturatedForm.{program_nodes, greatest_counts}
use Rattle.box_passes.proofs.PropMatch.{prop_match_keeps}
use Rattle.box_passes.proofs.PropMatchForm.{prop_match_form, prop_match_program_sizes}
use Rattle.box_passes.proofs.SaturatedForm.{saturated_form, saturated_whole}
use Rattle.box_passes.proofs.SaturatedSize.{saturated_size}
use Rattle.box_passes.proofs.SaturatedCounts.{saturated_counts}
use Rattle.trees.proofs.Lists.{of_has_map}

-- saturation leaves matches ordinary

chosen_same : (b : Bool) (F : BoxFamily) (x y : Option BoxFamily) → propositional_of x ≡ propositional_of y → propositional_of (if b then Some (without_parameters F) else x) ≡ propositional_of (if b then Some F else y)
chosen_same true F x y e = refl
chosen_same false F x y e = e

propositional_same : (Fs : List BoxFamily) (f : FamilyId) → propositional_of (family_of (map without_parameters Fs) f) ≡ propositional_of (family_of Fs f)
propositional_same [] f = refl
propositional_same (F ∷ Fs) f = chosen_same (same_family F.id f) F (family_of (map without_parameters Fs) f) (family_of Fs f) (propositional_same Fs f)

module _ (Fs : List BoxFamily) where
  abbrev Gs : List BoxFamily
  Gs = map without_parameters Fs

  abbrev AllOrdinary : List BoxTerm → Type 0
  AllOrdinary [] = Unit {0}
  AllOrdinary (x ∷ xs) = IsOrdinary Gs x × AllOrdinary xs

  ordinary_apply : (f : BoxTerm) (xs : List BoxTerm) → IsOrdinary Gs f → AllOrdinary xs → IsOrdinary Gs (box_apply f xs)
  ordinary_apply f [] h g = h
  ordinary_apply f (x ∷ xs) h g = ordinary_apply (BApp f x) xs (h, g.0) g.1

  ordinary_drop : (p : ℕ) (xs : List BoxTerm) → AllOrdinary xs → AllOrdinary (drop p xs)
  ordinary_drop zero xs g = g
  ordinary_drop (suc p) [] g = tt
  ordinary_drop (suc p) (x ∷ xs) g = ordinary_drop p xs g.1

  ordinary_lambdas : (m : ℕ) (b : BoxTerm) → IsOrdinary Gs b → IsOrdinary Gs (lambdas m b)
  ordinary_lambdas zero b h = h
  ordinary_lambdas (suc m) b h = ordinary_lambdas m b h

  ordinary_innermost : (n : ℕ) → AllOrdinary (innermost n)
  ordinary_innermost zero = tt
  ordinary_innermost (suc n) = (tt, ordinary_innermost n)

  ordinary_choice : (b : Bool) (t u : BoxTerm) → IsOrdinary Gs t → IsOrdinary Gs u → IsOrdinary Gs (if b then t else u)
  ordinary_choice true t u h g = h
  ordinary_choice false t u h g = g

  ordinary_counted : (p n : ℕ) (f : FamilyId) (c : ℕ) (xs : List BoxTerm) → AllOrdinary xs → IsOrdinary Gs (saturate_counted p n f c xs)
  ordinary_counted p n f c xs g =
      let spine = ordinary_apply (BConstruct f c) (innermost n) tt (ordinary_innermost n) in
      ordinary_choice (nat_le (p + n) (length xs)) (box_apply (BConstruct f c) (drop p xs)) (box_apply (constructor_function p n f c) xs) (ordinary_apply (BConstruct f c) (drop p xs) tt (ordinary_drop p xs g))
      (ordinary_apply (constructor_function p n f c) xs (ordinary_lambdas (p + n) (box_apply (BConstruct f c) (innermost n)) spine) g)

  ordinary_arguments : (p : ℕ) (o : Option ℕ) (f : FamilyId) (c : ℕ) (xs : List BoxTerm) → AllOrdinary xs → IsOrdinary Gs (saturate_arguments p o f c xs)
  ordinary_arguments p None f c xs g = ordinary_apply (BConstruct f c) xs tt g
  ordinary_arguments p (Some n) f c xs g = ordinary_counted p n f c xs g

  ordinary_family : (o : Option BoxFamily) (f : FamilyId) (c : ℕ) (xs : List BoxTerm) → AllOrdinary xs → IsOrdinary Gs (saturate_family o f c xs)
  ordinary_family None f c xs g = ordinary_apply (BConstruct f c) xs tt g
  ordinary_family (Some F) f c xs g = ordinary_arguments F.params (slice_get F.args c) f c xs g

  mutual
    ordinary_applied : (t : BoxTerm) (xs : List BoxTerm) → IsOrdinary Fs t → AllOrdinary xs → IsOrdinary Gs (saturate_applied Fs t xs)
    ordinary_applied (Rel i) xs h g = ordinary_apply (Rel i) xs tt g
    ordinary_applied Box xs h g = ordinary_apply Box xs tt g
    ordinary_applied (BLambda b) xs h g = ordinary_apply (BLambda (saturate_term Fs b)) xs (ordinary_applied b [] h tt) g
    ordinary_applied (BLetIn b t) xs h g = ordinary_apply (BLetIn (saturate_term Fs b) (saturate_term Fs t)) xs (ordinary_applied b [] h.0 tt, ordinary_applied t [] h.1 tt) g
    ordinary_applied (BApp f a) xs h g = ordinary_applied f (saturate_term Fs a ∷ xs) h.0 (ordinary_applied a [] h.1 tt, g)
    ordinary_applied (BConst k) xs h g = ordinary_apply (BConst k) xs tt g
    ordinary_applied (BConstruct f c) xs h g = ordinary_family (family_of Fs f) f c xs g
    ordinary_applied (BCase f s bs) xs h g =
        ordinary_apply (BCase f (saturate_term Fs s) (saturate_terms Fs bs)) xs
        ((λ p. ap (saturate_terms Fs) (h.0 (λ i. (sym (propositional_same Fs f) ∙ p) i))), ordinary_applied s [] h.1 tt, ordinary_saturated bs h.2)
        g
    ordinary_applied (BFix i rargs bodies) xs h g = ordinary_apply (BFix i rargs (saturate_terms Fs bodies)) xs (ordinary_saturated bodies h) g

    ordinary_saturated : (ts : BoxTerms) → AreOrdinary Fs ts → AreOrdinary Gs (saturate_terms Fs ts)
    ordinary_saturated Done h = tt
    ordinary_saturated (Next n t ts) h = (ordinary_applied t [] h.0 tt, ordinary_saturated ts h.1)

pub saturated_ordinary : (P : BoxProgram) → IsOrdinaryProgram P → IsOrdinaryProgram (saturate_program P)
saturated_ordinary P h =
    record {
      constants = λ d at.
          let r = of_has_map (saturate_constant P.families) P.constants at in
          subst (λ d. IsOrdinary (saturate_program P).families d.body) r.2 (ordinary_applied P.families r.0.body [] (h.constants r.0 r.1) tt);
      main = ordinary_applied P.families P.main [] h.main tt;
    }

pub passes_form : PassesForm
passes_form P ok =
    let f = prop_match_form P ok in
    let small = prop_match_program_sizes P in
    let k = 3 * greatest_counts P.families + 1 in
    record {
      form = saturated_form (prop_match_program P) f.0;
      saturated = saturated_whole (prop_match_program P) f.0;
      ordinary = saturated_ordinary (prop_match_program P) f.1;
      size = omega (arith, saturated_size (prop_match_program P) f.0, mul-le (program_nodes (prop_match_program P)) k (program_nodes P) k small.0 (omega arith));
    }

pub passes_count : PassesCount
passes_count P ok w d n m ev r =
    let f = prop_match_form P ok in
    let e = (prop_match_keeps P ok [] [] no_data w d n m ev r).1 in
    let c = saturated_counts (prop_match_program P) f.0 e.w d e.nodes e.matches e.evaluates e.reads in
    let small = prop_match_program_sizes P in
    record {
      substituted = c.substituted;
      v = c.v;
      counts = c.counts;
      run = c.run;
      reads = c.reads;
      contractions = omega (arith, c.contractions, e.within);
      blocks = omega (arith, c.blocks, e.within);
      greatest = omega (arith, c.greatest, small.1);
      matches = c.matches;
    }
