-- Constructors with all their arguments and without parameters. Where a constructor of p parameters and n arguments is the head of at least
-- p + n arguments, the first p are dropped. Elsewhere it becomes p + n lambdas round the constructor applied to the innermost n variables.
use Rattle.std.specs.Prelude.{ℕ, zero, suc, ◌+◌, nat_le, if◌then◌else◌, List, [], ◌∷◌, map, length, drop, Option, Some, None, slice_get}
use Rattle.trees.specs.Tree.{Rel, Done, Next}
use Rattle.pc_terms.specs.declared.leaf.FamilyId.{FamilyId}
use Rattle.box_terms.specs.BoxSyntax.{BoxTerm, BoxTerms, Box, BLambda, BLetIn, BApp, BConst, BConstruct, BCase, BFix}
use Rattle.lambda_box.specs.OrdinaryForm.{family_of}
use Rattle.lambda_box.specs.BoxProgram.{BoxConstant, BoxFamily, BoxProgram, box_apply}

-- the n innermost variables, the innermost last
abbrev pub innermost : ℕ → List BoxTerm
innermost zero = []
innermost (suc n) = Rel n ∷ innermost n

abbrev pub lambdas : ℕ → BoxTerm → BoxTerm
lambdas zero b = b
lambdas (suc n) b = BLambda (lambdas n b)

-- a constructor of p parameters and n arguments as a function
abbrev pub constructor_function : ℕ → ℕ → FamilyId → ℕ → BoxTerm
constructor_function p n f c = lambdas (p + n) (box_apply (BConstruct f c) (innermost n))

-- a constructor of p parameters and n arguments, applied to a list
abbrev pub saturate_counted : ℕ → ℕ → FamilyId → ℕ → List BoxTerm → BoxTerm
saturate_counted p n f c xs = if nat_le (p + n) (length xs) then box_apply (BConstruct f c) (drop p xs) else box_apply (constructor_function p n f c) xs

abbrev pub saturate_arguments : ℕ → Option ℕ → FamilyId → ℕ → List BoxTerm → BoxTerm
saturate_arguments p None f c xs = box_apply (BConstruct f c) xs
saturate_arguments p (Some n) f c xs = saturate_counted p n f c xs

abbrev pub saturate_family : Option BoxFamily → FamilyId → ℕ → List BoxTerm → BoxTerm
saturate_family None f c xs = box_apply (BConstruct f c) xs
saturate_family (Some F) f c xs = saturate_arguments F.params (slice_get F.args c) f c xs

-- a term, applied to a list of terms that are saturated already
abbrev mutual
  pub saturate_applied : List BoxFamily → BoxTerm → List BoxTerm → BoxTerm
  saturate_applied Fs (Rel i) xs = box_apply (Rel i) xs
  saturate_applied Fs Box xs = box_apply Box xs
  saturate_applied Fs (BLambda b) xs = box_apply (BLambda (saturate_applied Fs b [])) xs
  saturate_applied Fs (BLetIn b t) xs = box_apply (BLetIn (saturate_applied Fs b []) (saturate_applied Fs t [])) xs
  saturate_applied Fs (BApp f a) xs = saturate_applied Fs f (saturate_applied Fs a [] ∷ xs)
  saturate_applied Fs (BConst k) xs = box_apply (BConst k) xs
  saturate_applied Fs (BConstruct f c) xs = saturate_family (family_of Fs f) f c xs
  saturate_applied Fs (BCase f s bs) xs = box_apply (BCase f (saturate_applied Fs s []) (saturate_terms Fs bs)) xs
  saturate_applied Fs (BFix i rargs bodies) xs = box_apply (BFix i rargs (saturate_terms Fs bodies)) xs

  pub saturate_terms : List BoxFamily → BoxTerms → BoxTerms
  saturate_terms Fs Done = Done
  saturate_terms Fs (Next n t ts) = Next n (saturate_applied Fs t []) (saturate_terms Fs ts)

abbrev pub saturate_term : List BoxFamily → BoxTerm → BoxTerm
saturate_term Fs t = saturate_applied Fs t []

abbrev pub saturate_constant : List BoxFamily → BoxConstant → BoxConstant
saturate_constant Fs d = record { name = d.name; body = saturate_term Fs d.body }

abbrev pub without_parameters : BoxFamily → BoxFamily
without_parameters F = record { id = F.id; propositional = F.propositional; params = 0; args = F.args }

abbrev pub saturate_program : BoxProgram → BoxProgram
saturate_program P =
    record {
      constants = map (saturate_constant P.families) P.constants;
      families = map without_parameters P.families;
      main = saturate_term P.families P.main;
    }
