-- Answers of rules 8 and 9, by what is kept.
use Rattle.std.proofs.Common.{◌≡◌, ℕ, ◌⊎◌, inl, inr, Some, None, Ok, Err, IsTrue, refl, slice_get, length}
use Rattle.pc_terms.specs.declared.leaf.FamilyId.{FamilyId}
use Rattle.pc_terms.specs.declared.term.MakeFault.{MakeFault}
use Rattle.pc_terms.specs.declared.term.MakeFault.TheVariants.{TooDeep as DeepTerm}
use Rattle.pc_terms.specs.Syntax.{Term}
use Rattle.pc_rules.specs.declared.broken.Broken.{Broken}
use Rattle.pc_rules.specs.declared.broken.Broken.TheVariants.{UnknownName, BadNumber}
use Rattle.calculus_rules.specs.declared.declaration.Constructor.{Constructor}
use Rattle.calculus_rules.specs.declared.declaration.Block.{Block}
use Rattle.pc_rules.specs.declared.meter.Account.{Account}
use Rattle.pc_rules.specs.declared.stop.Stop.TheVariants.{Memory}
use Rattle.pc_rules.specs.declared.stop.Halt.{Halt}
use Rattle.pc_rules.specs.declared.stop.Halt.TheVariants.{Stop, Broken as Refusal}
use Rattle.calculus_rules.specs.Environment.{Env, FamilyDecl, family_at}
use Rattle.calculus_rules.specs.Instances.{family_type, constructor_type}
use Rattle.pc_rules.specs.Stops.{stop_of}
use Rattle.pc_rules.specs.Follows.{Answers, Halts}
use Rattle.pc_rules.specs.DirectedRun.{Run, Refused, is_beyond}
use Rattle.calculus_rules.specs.Lookups.{kept_at, known_block, whole_block}
use Rattle.pc_rules.specs.DirectedTyping.{family_number, ind_rule, construct_rule}
use Rattle.type_infer.proofs.Finding.{bind_refused, answers_made, beyond_fault}
use Rattle.pc_rules.proofs.Following.{bind_done, answers_err}

-- a refusal, or want of memory
pub halts_either : {A : Type 0} (d : Run A) (b : Broken) (h : Halt) (u : Account) → d.end ≡ Refused b u → (h ≡ Refusal b) ⊎ (h ≡ Stop Memory) → Halts d h u
halts_either d b h u e (inl p) = rw p e
halts_either d b h u e (inr p) = rw p tt

pub no_family : (B : Block) (f : FamilyId) (h : Halt) (u : Account) → slice_get B.families f.family ≡ None →
    (h ≡ Refusal (BadNumber f.family (length B.families))) ⊎ (h ≡ Stop Memory) → Halts (family_number B f (family_at B f.family) u) h u
no_family B f h u e p = rw e (halts_either _ _ h u refl p)

module _ (E : Env) (f : FamilyId) (u : Account) where
  pub family_unknown : known_block (kept_at E.declarations f.block) ≡ None → Answers (ind_rule E f u) (Err (Refusal (UnknownName f.block))) u
  family_unknown e = rw (e, bind_refused) refl

  pub family_numbered : (B : Block) (h : Halt) → known_block (kept_at E.declarations f.block) ≡ Some B → Halts (family_number B f (family_at B f.family) u) h u →
      Answers (ind_rule E f u) (Err h) u
  family_numbered B h e p = rw e (answers_err _ _ u h p)

  module _ (B : Block) (F : FamilyDecl) (e : known_block (kept_at E.declarations f.block) ≡ Some B) (e' : family_at B f.family ≡ Some F) where
    pub family_made : (T : Term) → T ≡ family_type F → Answers (ind_rule E f u) (Ok T) u
    family_made T p = rw (e, e', bind_done) (answers_made (family_type F) T u p)

    pub family_fault : (x : MakeFault) → (x ≡ DeepTerm → IsTrue (is_beyond (family_type F))) → Answers (ind_rule E f u) (Err (Stop (stop_of x))) u
    family_fault x p = rw (e, e', bind_done) (beyond_fault (family_type F) x u p)

module _ (E : Env) (f : FamilyId) (n : ℕ) (u : Account) where
  pub constructor_unknown : whole_block (kept_at E.declarations f.block) ≡ None → Answers (construct_rule E f n u) (Err (Refusal (UnknownName f.block))) u
  constructor_unknown e = rw (e, bind_refused) refl

  pub constructor_family : (B : Block) (h : Halt) → whole_block (kept_at E.declarations f.block) ≡ Some B → Halts (family_number B f (family_at B f.family) u) h u →
      Answers (construct_rule E f n u) (Err h) u
  constructor_family B h e p = rw e (answers_err _ _ u h p)

  module _ (B : Block) (F : FamilyDecl) (e : whole_block (kept_at E.declarations f.block) ≡ Some B) (e' : family_at B f.family ≡ Some F) where
    pub no_constructor : (h : Halt) → slice_get F.constructors n ≡ None → (h ≡ Refusal (BadNumber n (length F.constructors))) ⊎ (h ≡ Stop Memory) →
        Answers (construct_rule E f n u) (Err h) u
    no_constructor h k p = rw (e, e', bind_done, k) (answers_err _ _ u h (halts_either _ _ h u refl p))

    pub constructor_made : (C : Constructor) (T : Term) → slice_get F.constructors n ≡ Some C → T ≡ constructor_type f F C → Answers (construct_rule E f n u) (Ok T) u
    constructor_made C T k p = rw (e, e', bind_done, k, bind_done) (answers_made (constructor_type f F C) T u p)

    pub constructor_fault : (C : Constructor) (x : MakeFault) → slice_get F.constructors n ≡ Some C → (x ≡ DeepTerm → IsTrue (is_beyond (constructor_type f F C))) →
        Answers (construct_rule E f n u) (Err (Stop (stop_of x))) u
    constructor_fault C x k p = rw (e, e', bind_done, k, bind_done) (beyond_fault (constructor_type f F C) x u p)
