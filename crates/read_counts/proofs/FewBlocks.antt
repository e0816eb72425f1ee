-- Blocks whose counts are within the limits of the text: those that are read, and what the check keeps of them.
use Rattle.std.proofs.Common.{◌≡◌, ℕ, zero, suc, ◌+◌, ◌≤◌, List, [], ◌∷◌, length, map, Some, None, subst, arith}
use Rattle.std.specs.Prelude.{slice_get}
use Rattle.std.proofs.lemmas.List.{length-map}
use Rattle.dump_grammar.specs.declared.refusal.Limit.TheVariants as limits
use Rattle.dump_grammar.specs.Declarations.{Binding, CtorForm, FamilyForm, DeclForm, ConstantForm, BlockForm, binding_meaning, constructor_meaning, family_meaning, declaration_meaning}
use Rattle.dump_grammar.specs.Limits.{first, one_more_over}
use Rattle.dump_grammar.specs.Within.{bindings_over, form_over, forms_over, sort_over, ctor_over, ctors_over, family_over, families_over, declaration_over}
use Rattle.dump_reader.specs.Numbered.{numbered_term}
use Rattle.dump_reader.specs.NumberedEnvironment.{numbered_ctor, numbered_family, numbered_decl}
use Rattle.pc_terms.specs.Syntax.{Term}
use Rattle.calculus_rules.specs.declared.declaration.Constructor.{Constructor}
use Rattle.calculus_rules.specs.declared.declaration.Family.{Family}
use Rattle.calculus_rules.specs.declared.declaration.Block.{Block}
use Rattle.calculus_rules.specs.declared.declaration.Kept.{Kept}
use Rattle.calculus_rules.specs.declared.declaration.Kept.TheVariants.{Constant, Heads, Block as Whole}
use Rattle.rule_laws.specs.Declarations.{plain_constructor, plain_family, plain_block, plain_given}
use Rattle.inductive_check.specs.Given.{ctor_of, family_of, given_of}
use Rattle.dump_grammar.proofs.NoLimit.{none_both, one_more_fits}

abbrev pub FewArguments : List Constructor → Type 0
FewArguments [] = Unit {0}
FewArguments (C ∷ Cs) = (length C.args ≤ 255) × FewArguments Cs

abbrev pub FewFamilies : List Family → Type 0
FewFamilies [] = Unit {0}
FewFamilies (F ∷ Fs) = (length F.ctors ≤ 1024) × FewArguments F.ctors × FewFamilies Fs

abbrev pub FewKept : Kept → Type 0
FewKept (Constant k T b) = Unit {0}
FewKept (Heads B) = Unit {0}
FewKept (Whole B) = (length B.params ≤ 255) × FewFamilies B.families

-- limits

-- what is read

module _ (ns ls : List (List ℕ)) where
  abbrev read_terms : List Binding → List Term
  read_terms bs = map (numbered_term ns ls) (map binding_meaning bs)

  few_bindings : (n : ℕ) (bs : List Binding) → n ≤ 255 → bindings_over n bs ≡ None → n + length (read_terms bs) ≤ 255
  unfolding bindings_over
  few_bindings n [] h e = omega arith
  few_bindings n (b ∷ bs) h e =
      let p = none_both (one_more_over 255 limits.Telescope n) (first (form_over b.type) (bindings_over (n + 1) bs)) e in
      let q = one_more_fits 255 limits.Telescope n p.0 in
      let s = none_both (form_over b.type) (bindings_over (n + 1) bs) p.1 in
      let r = few_bindings (n + 1) bs (omega (arith, q)) s.1 in
      omega (arith, r)

  abbrev kept_ctors : List CtorForm → List Constructor
  kept_ctors cs = map plain_constructor (map ctor_of (map (numbered_ctor ns ls) (map constructor_meaning cs)))

  few_ctors : (n : ℕ) (cs : List CtorForm) → n ≤ 1024 → ctors_over n cs ≡ None → (n + length (kept_ctors cs) ≤ 1024) × FewArguments (kept_ctors cs)
  unfolding ctors_over
  few_ctors n [] h e = (omega arith, record {})
  few_ctors n (c ∷ cs) h e =
      let p = none_both (one_more_over 1024 limits.Constructors n) (first (ctor_over c) (ctors_over (n + 1) cs)) e in
      let q = one_more_fits 1024 limits.Constructors n p.0 in
      let s = none_both (ctor_over c) (ctors_over (n + 1) cs) p.1 in
      let a = few_bindings 0 c.args (omega arith) (none_both (bindings_over 0 c.args) (forms_over c.result) s.0).0 in
      let r = few_ctors (n + 1) cs (omega (arith, q)) s.1 in
      let r0 = r.0 in
      (omega (arith, r0), (omega (arith, a), r.1))

  abbrev kept_family : FamilyForm → Family
  kept_family f = plain_family (family_of (numbered_family ns ls (family_meaning f)))

  abbrev kept_families : List FamilyForm → List Family
  kept_families fs = map plain_family (map family_of (map (numbered_family ns ls) (map family_meaning fs)))

  few_family : (f : FamilyForm) → family_over f ≡ None → (length (kept_family f).ctors ≤ 1024) × FewArguments (kept_family f).ctors
  few_family f e =
      let p = none_both (sort_over f.sort) (first (bindings_over 0 f.indices) (ctors_over 0 f.ctors)) e in
      let q = none_both (bindings_over 0 f.indices) (ctors_over 0 f.ctors) p.1 in
      let r = few_ctors 0 f.ctors (omega arith) q.1 in
      let r0 = r.0 in
      (omega (arith, r0), r.1)

  few_families : (n : ℕ) (fs : List FamilyForm) → families_over n fs ≡ None → FewFamilies (kept_families fs)
  unfolding families_over
  few_families n [] e = record {}
  few_families n (f ∷ fs) e =
      let p = none_both (one_more_over 255 limits.Families n) (first (family_over f) (families_over (n + 1) fs)) e in
      let s = none_both (family_over f) (families_over (n + 1) fs) p.1 in
      let a = few_family f s.0 in
      (a.0, a.1, few_families (n + 1) fs s.1)

  pub few_declaration : (d : DeclForm) → declaration_over d ≡ None → FewKept (plain_given (given_of (numbered_decl ns ls (declaration_meaning d))))
  unfolding declaration_over declaration_meaning
  few_declaration (ConstantForm k A b) e = record {}
  few_declaration (BlockForm k ps f more) e =
      let p = none_both (bindings_over 0 ps) (first (family_over f) (families_over 1 more)) e in
      let s = none_both (family_over f) (families_over 1 more) p.1 in
      let a = few_bindings 0 ps (omega arith) p.0 in
      let b = few_family f s.0 in
      (omega (arith, a), (b.0, b.1, few_families 1 more s.1))

-- what is kept of them

few_arguments : (Cs : List Constructor) → FewArguments (map plain_constructor Cs) → FewArguments Cs
few_arguments [] h = record {}
few_arguments (C ∷ Cs) h = (h.0, few_arguments Cs h.1)

few_of_plain : (Fs : List Family) → FewFamilies (map plain_family Fs) → FewFamilies Fs
few_of_plain [] h = record {}
few_of_plain (F ∷ Fs) h = (subst (λ n. n ≤ 1024) (length-map F.ctors plain_constructor) h.0, few_arguments F.ctors h.1, few_of_plain Fs h.2)

pub few_block : (B : Block) → FewKept (Whole (plain_block B)) → FewKept (Whole B)
few_block B h = (h.0, few_of_plain B.families h.1)

pub few_at : (Fs : List Family) (n : ℕ) (G : Family) → FewFamilies Fs → slice_get Fs n ≡ Some G → (length G.ctors ≤ 1024) × FewArguments G.ctors
few_at [] n G h e = absurd cc
few_at (F ∷ Fs) zero G h e = (let s : F ≡ G = cc in subst (λ H. (length H.ctors ≤ 1024) × FewArguments H.ctors) s (h.0, h.1))
few_at (F ∷ Fs) (suc n) G h e = few_at Fs n G h.2 e
