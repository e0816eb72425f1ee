-- Saturation of a term as the head of n arguments: the head that it becomes, and how many of the arguments are dropped. The program of
-- `saturate_program` has the heads of no arguments.
use Rattle.std.specs.Prelude.{ℕ, zero, suc, ◌+◌, ◌-◌, nat_le, if◌then◌else◌, List, Option, Some, None, slice_get}
use Rattle.trees.specs.Tree.{Rel, Done, Next}
use Rattle.pc_terms.specs.declared.leaf.FamilyId.{FamilyId}
use Rattle.box_terms.specs.BoxSyntax.{BoxTerm, BoxTerms, Box, BLambda, BLetIn, BApp, BConst, BConstruct, BCase, BFix}
use Rattle.lambda_box.specs.BoxProgram.{BoxFamily}
use Rattle.lambda_box.specs.OrdinaryForm.{family_of}
use Rattle.box_passes.specs.Saturate.{constructor_function}
use Rattle.box_passes.specs.declared.families.Arity.{Arity}

-- the counts of a constructor
abbrev pub arity_with : ℕ → Option ℕ → Option Arity
arity_with p None = None
arity_with p (Some n) = Some (record { params = p; args = n })

abbrev pub arity_in : Option BoxFamily → ℕ → Option Arity
arity_in None c = None
arity_in (Some F) c = arity_with F.params (slice_get F.args c)

abbrev pub arity_of : List BoxFamily → FamilyId → ℕ → Option Arity
arity_of Fs f c = arity_in (family_of Fs f) c

-- how many of n arguments a constructor drops
abbrev pub spare_of : Option Arity → ℕ → ℕ
spare_of None n = 0
spare_of (Some k) n = if nat_le (k.params + k.args) n then k.params else 0

-- what it becomes
abbrev pub head_of : Option Arity → FamilyId → ℕ → ℕ → BoxTerm
head_of None f c n = BConstruct f c
head_of (Some k) f c n = if nat_le (k.params + k.args) n then BConstruct f c else constructor_function k.params k.args f c

-- how many of n arguments a term drops
abbrev pub spare : List BoxFamily → BoxTerm → ℕ → ℕ
spare Fs (BApp f a) n = spare Fs f (n + 1) - 1
spare Fs (BConstruct f c) n = spare_of (arity_of Fs f c) n
spare Fs t n = 0

-- a head with one more argument, or without it
abbrev pub applied : ℕ → BoxTerm → BoxTerm → BoxTerm
applied zero g a = BApp g a
applied (suc k) g a = g

-- what a term becomes, as the head of n arguments
abbrev mutual
  pub head : List BoxFamily → BoxTerm → ℕ → BoxTerm
  head Fs (Rel i) n = Rel i
  head Fs Box n = Box
  head Fs (BLambda b) n = BLambda (head Fs b 0)
  head Fs (BLetIn b t) n = BLetIn (head Fs b 0) (head Fs t 0)
  head Fs (BApp f a) n = applied (spare Fs f (n + 1)) (head Fs f (n + 1)) (head Fs a 0)
  head Fs (BConst k) n = BConst k
  head Fs (BConstruct f c) n = head_of (arity_of Fs f c) f c n
  head Fs (BCase f s bs) n = BCase f (head Fs s 0) (heads Fs bs)
  head Fs (BFix i rargs bodies) n = BFix i rargs (heads Fs bodies)

  pub heads : List BoxFamily → BoxTerms → BoxTerms
  heads Fs Done = Done
  heads Fs (Next n t ts) = Next n (head Fs t 0) (heads Fs ts)
