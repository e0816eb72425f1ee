-- The number of nodes of the saturated program.
use Rattle.std.proofs.Common.{◌≡◌, ℕ, zero, suc, ◌+◌, ◌*◌, ◌≤◌, if◌then◌else◌, List, [], ◌∷◌, length, drop, map, Option, Some, None, refl, sym, ap, subst, ⊎_elim, arith}
use Rattle.std.proofs.lemmas.Bool.{cases_lt, le-leb, lt-leb}
use Rattle.std.proofs.Math.Nat.{add-mul}
use Rattle.std.specs.Prelude.{slice_get}
use Rattle.trees.specs.Tree.{Rel, Done, Next}
use Rattle.trees.specs.Measures.{nodes, nodes_trees}
use Rattle.pc_terms.specs.declared.leaf.FamilyId.{FamilyId}
use Rattle.box_terms.specs.BoxSyntax.{BoxTerm, BoxTerms, Box, BLambda, BLetIn, BApp, BConst, BConstruct, BCase, BFix}
use Rattle.lambda_box.specs.BoxProgram.{BoxConstant, BoxFamily, Has, here, there, box_apply}
use Rattle.lambda_box.specs.DataTerms.{greatest_of}
use Rattle.lambda_box.specs.OrdinaryForm.{family_of}
use Rattle.box_passes.specs.Saturate.{innermost, lambdas, constructor_function, saturate_counted, saturate_arguments, saturate_family, saturate_applied, saturate_terms, saturate_term, saturate_constant}
use Rattle.lambda_box.specs.SaturatedForm.{nodes_of_constants, greatest_counts}
use Rattle.box_passes.specs.SaturateLaws.{SaturatedSize}
use Rattle.box_passes.proofs.PropMatch.{family_of_is}

abbrev nodes_of : List BoxTerm → ℕ
nodes_of [] = 0
nodes_of (x ∷ xs) = suc (nodes x + nodes_of xs)

apply_nodes : (f : BoxTerm) (xs : List BoxTerm) → nodes (box_apply f xs) ≡ nodes f + nodes_of xs
apply_nodes f [] = omega arith
apply_nodes f (x ∷ xs) = omega (arith, apply_nodes (BApp f x) xs)

drop_nodes : (p : ℕ) (xs : List BoxTerm) → nodes_of (drop p xs) ≤ nodes_of xs
drop_nodes zero xs = omega arith
drop_nodes (suc p) [] = omega arith
drop_nodes (suc p) (x ∷ xs) = omega (arith, drop_nodes p xs)

lambdas_nodes : (m : ℕ) (b : BoxTerm) → nodes (lambdas m b) ≡ m + nodes b
lambdas_nodes zero b = omega arith
lambdas_nodes (suc m) b = omega (arith, lambdas_nodes m b)

innermost_nodes : (n : ℕ) → nodes_of (innermost n) ≡ 2 * n
innermost_nodes zero = refl
innermost_nodes (suc n) = omega (arith, innermost_nodes n)

-- a constructor's counts are among those of the families
pub slice_small : (ns : List ℕ) (c n : ℕ) → slice_get ns c ≡ Some n → n ≤ greatest_of ns
slice_small [] c n e = absurd (cc)
slice_small (m ∷ ns) zero n e = let q : m ≡ n = grind arith in omega (arith, q)
slice_small (m ∷ ns) (suc c) n e = omega (arith, slice_small ns c n e)

counts_small : (Fs : List BoxFamily) (F : BoxFamily) (c n : ℕ) → Has Fs F → slice_get F.args c ≡ Some n → F.params + n ≤ greatest_counts Fs
counts_small (F ∷ Fs) F' c n here e = omega (arith, slice_small F.args c n e)
counts_small (G ∷ Fs) F c n (there h) e = omega (arith, counts_small Fs F c n h e)
counts_small [] F c n h e = elim h [ ]

counted_nodes : (p n k : ℕ) (f : FamilyId) (c : ℕ) (xs : List BoxTerm) → p + n ≤ k → nodes (saturate_counted p n f c xs) ≤ (3 * k + 1) + nodes_of xs
counted_nodes p n k f c xs l =
    ⊎_elim
    (λ lt. subst (λ q. nodes (if q then box_apply (BConstruct f c) (drop p xs) else box_apply (constructor_function p n f c) xs) ≤ (3 * k + 1) + nodes_of xs) (sym (lt-leb (p + n) (length xs) lt))
    (omega (arith, apply_nodes (constructor_function p n f c) xs, lambdas_nodes (p + n) (box_apply (BConstruct f c) (innermost n)), apply_nodes (BConstruct f c) (innermost n), innermost_nodes n)))
    (λ le. subst (λ q. nodes (if q then box_apply (BConstruct f c) (drop p xs) else box_apply (constructor_function p n f c) xs) ≤ (3 * k + 1) + nodes_of xs) (sym (le-leb (p + n) (length xs) le))
    (omega (arith, apply_nodes (BConstruct f c) (drop p xs), drop_nodes p xs)))
    (cases_lt (length xs) (p + n))

module _ (Fs : List BoxFamily) where
  abbrev C : ℕ
  C = 3 * greatest_counts Fs + 1

  arguments_nodes : (F : BoxFamily) (o : Option ℕ) (f : FamilyId) (c : ℕ) (xs : List BoxTerm) → Has Fs F → slice_get F.args c ≡ o → nodes (saturate_arguments F.params o f c xs) ≤ C + nodes_of xs
  arguments_nodes F None f c xs h e = omega (arith, apply_nodes (BConstruct f c) xs)
  arguments_nodes F (Some n) f c xs h e = counted_nodes F.params n (greatest_counts Fs) f c xs (counts_small Fs F c n h e)

  family_nodes : (o : Option BoxFamily) (f : FamilyId) (c : ℕ) (xs : List BoxTerm) → family_of Fs f ≡ o → nodes (saturate_family o f c xs) ≤ C + nodes_of xs
  family_nodes None f c xs e = omega (arith, apply_nodes (BConstruct f c) xs)
  family_nodes (Some F) f c xs e = let r = family_of_is Fs f F e in arguments_nodes F (slice_get F.args c) f c xs r.0 refl

  -- a node and its parts
  one : (n : ℕ) → n ≡ 1 → C ≤ n * C
  one n e = let q : 1 * C ≡ C = omega arith in omega (arith, ap (λ m. m * C) e, q)

  mutual
    applied_nodes : (t : BoxTerm) (xs : List BoxTerm) → nodes (saturate_applied Fs t xs) ≤ nodes t * C + nodes_of xs
    applied_nodes (Rel i) xs = omega (arith, apply_nodes (Rel i) xs)
    applied_nodes Box xs = omega (arith, apply_nodes Box xs)
    applied_nodes (BLambda b) xs = omega (arith, apply_nodes (BLambda (saturate_term Fs b)) xs, applied_nodes b [], add-mul (nodes b) 1 C)
    applied_nodes (BLetIn b t) xs = omega (arith, apply_nodes (BLetIn (saturate_term Fs b) (saturate_term Fs t)) xs, applied_nodes b [], applied_nodes t [], add-mul (nodes b + nodes t) 1 C, add-mul (nodes b) (nodes t) C)
    applied_nodes (BApp f a) xs = omega (arith, applied_nodes f (saturate_term Fs a ∷ xs), applied_nodes a [], add-mul (nodes f + nodes a) 1 C, add-mul (nodes f) (nodes a) C)
    applied_nodes (BConst k) xs = omega (arith, apply_nodes (BConst k) xs)
    applied_nodes (BConstruct f c) xs = omega (arith, family_nodes (family_of Fs f) f c xs refl)
    applied_nodes (BCase f s bs) xs = omega (arith, apply_nodes (BCase f (saturate_term Fs s) (saturate_terms Fs bs)) xs, applied_nodes s [], terms_nodes bs, add-mul (nodes s + nodes_trees bs) 1 C, add-mul (nodes s) (nodes_trees bs) C)
    applied_nodes (BFix i rargs bodies) xs = omega (arith, apply_nodes (BFix i rargs (saturate_terms Fs bodies)) xs, terms_nodes bodies, add-mul (nodes_trees bodies) 1 C)

    terms_nodes : (ts : BoxTerms) → nodes_trees (saturate_terms Fs ts) ≤ nodes_trees ts * C
    terms_nodes Done = omega arith
    terms_nodes (Next n t ts) = omega (arith, applied_nodes t [], terms_nodes ts, add-mul (nodes t) (nodes_trees ts) C)

  constants_nodes : (cs : List BoxConstant) → nodes_of_constants (map (saturate_constant Fs) cs) ≤ nodes_of_constants cs * C
  constants_nodes [] = omega arith
  constants_nodes (d ∷ cs) = omega (arith, applied_nodes d.body [], constants_nodes cs, add-mul (nodes d.body) (nodes_of_constants cs) C)

pub saturated_size : SaturatedSize
saturated_size P ok =
    omega (arith, applied_nodes P.families P.main [], constants_nodes P.families P.constants, add-mul (nodes P.main) (nodes_of_constants P.constants) (3 * greatest_counts P.families + 1))
