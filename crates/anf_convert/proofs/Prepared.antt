-- What the passes before leave is what the translation takes.
use Rattle.std.proofs.Common.{◌≡◌, ℕ, zero, suc, ◌≤◌, true, List, [], ◌∷◌, ◌++◌, reverse, ap, ◌∙◌, subst, sym, arith}
use Rattle.std.proofs.lemmas.List.{reverse-append}
use Rattle.trees.specs.Tree.{Rel, Done, Next}
use Rattle.trees.specs.Measures.{depth, depth_trees, depth_limit}
use Rattle.pc_terms.specs.declared.leaf.FamilyId.{FamilyId}
use Rattle.box_terms.specs.BoxSyntax.{BoxTerm, BoxTerms, Box, BLambda, BLetIn, BApp, BConst, BConstruct, BCase, BFix}
use Rattle.lambda_box.specs.BoxProgram.{BoxConstant, BoxFamily, BoxProgram, Has, here, there, KeepsBoxFamily}
use Rattle.lambda_box.specs.BoxForm.{IsBoxProgram}
use Rattle.lambda_box.specs.OrdinaryForm.{family_of, propositional_of, IsOrdinary, AreOrdinary, IsOrdinaryProgram}
use Rattle.lambda_box.proofs.Families.{family_found, unique_family}
use Rattle.anf_convert.specs.Anf.{AnfProgram}
use Rattle.anf_convert.specs.AnfForm.{AnfFormed}
use Rattle.anf_convert.specs.TermForm.{constructor_args, more_args, ProgramFits}
use Rattle.anf_convert.specs.ToAnf.{to_anf}
use Rattle.anf_convert.specs.ToAnfKeeps.{CanBeConverted, KeepsAnswers}
use Rattle.anf_convert.specs.BoxForms.{Prepared, PreparedTerms, AreShallow, ConstructorsWithin, ToAnfKeepsData, HasAnfForm}
use Rattle.anf_convert.proofs.BoxForms.{form_suffices}
use Rattle.anf_convert.proofs.Follows.{to_anf_keeps}
use Rattle.anf_convert.proofs.Forms.{to_anf_forms}

more_small : (n d : ℕ) → n ≤ d → more_args n ≤ suc d
more_small zero d le = omega arith
more_small (suc n) d le = omega arith

-- a constructor with arguments is as deep as they are many
args_depth : (t : BoxTerm) → constructor_args t ≤ depth t
args_depth (Rel i) = omega arith
args_depth Box = omega arith
args_depth (BLambda b) = omega arith
args_depth (BLetIn a b) = omega (arith, args_depth b)
args_depth (BApp f a) = let h = more_small (constructor_args f) (depth f) (args_depth f) in omega arith
args_depth (BConst k) = omega arith
args_depth (BConstruct f c) = omega arith
args_depth (BCase f s bs) = omega arith
args_depth (BFix i rargs bodies) = omega arith

module _ (P : BoxProgram) (form : IsBoxProgram P) where
  -- what is known of a family that is kept
  ordinary_family : (f : FamilyId) (F : BoxFamily) → KeepsBoxFamily P f F → F.propositional ≡ true → propositional_of (family_of P.families f) ≡ true
  ordinary_family f F kept prop =
      let r = family_found P.families f F kept.0 kept.1 in
      let same : r.family ≡ F = unique_family P form f r.family F (r.has, r.id) kept in
      ap propositional_of r.finds ∙ ap (λ (G : BoxFamily). G.propositional) same ∙ prop

  mutual
    prepared : (t : BoxTerm) → IsOrdinary P.families t → depth t ≤ depth_limit → Prepared P t
    prepared (Rel i) h le = tt
    prepared Box h le = (tt, tt)
    prepared (BLambda b) h le = (tt, (prepared b h (omega arith), tt))
    prepared (BLetIn a b) h le = (tt, (prepared a h.0 (omega arith), (prepared b h.1 (omega arith), tt)))
    prepared (BApp f a) h le = (omega (arith, args_depth (BApp f a)), (prepared f h.0 (omega arith), (prepared a h.1 (omega arith), tt)))
    prepared (BConst k) h le = (tt, tt)
    prepared (BConstruct f c) h le = (tt, tt)
    prepared (BCase f s Done) h le = (tt, (prepared s h.1 (omega arith), (tt, tt)))
    prepared (BCase f s (Next n b bs)) h le =
        ((λ F kept prop. let e : Next n b bs ≡ Done = h.0 (ordinary_family f F kept prop) in absurd (cc)), (prepared s h.1 (omega arith), (prepared_all (Next n b bs) h.2 (omega arith), tt)))
    prepared (BFix i rargs bodies) h le = (tt, (prepared_all bodies h (omega arith), tt))

    prepared_all : (ts : BoxTerms) → AreOrdinary P.families ts → depth_trees ts ≤ depth_limit → PreparedTerms P ts
    prepared_all Done h le = tt
    prepared_all (Next n t ts) h le = (prepared t h.0 (omega arith), prepared_all ts h.1 (omega arith))

shallow_at : (cs : List BoxConstant) → AreShallow cs → (c : BoxConstant) → Has cs c → depth c.body ≤ depth_limit
shallow_at [] h c m = elim m [ ]
shallow_at (d ∷ cs) h c here = h.0
shallow_at (d ∷ cs) h c (there m) = shallow_at cs h.1 c m

pub all_shallow : (cs : List BoxConstant) → ((d : BoxConstant) → Has cs d → depth d.body ≤ depth_limit) → AreShallow cs
all_shallow [] h = tt
all_shallow (c ∷ cs) h = (h c here, all_shallow cs (λ d m. h d (there m)))

-- a program of the form, within the depth limit and of ordinary matches, is one that can be converted
pub shallow_suffices : (P : BoxProgram) → IsBoxProgram P → IsOrdinaryProgram P → AreShallow P.constants → depth P.main ≤ depth_limit → (m : ℕ) → ConstructorsWithin P m → CanBeConverted P × ProgramFits P m
shallow_suffices P form ordinary shallow main m few =
    form_suffices P m form (λ d h. prepared P form d.body (ordinary.constants d h) (shallow_at P.constants shallow d h)) (prepared P form P.main ordinary.main main) few

module _ (P : BoxProgram) (Q : AnfProgram) (is : Q ≡ to_anf P) (shallow : AreShallow P.constants) (main : depth P.main ≤ depth_limit) where
  pub data_kept : ToAnfKeepsData P Q
  data_kept form ordinary =
      ((shallow_suffices P form ordinary shallow main 1024 (λ F h. (form.counts F h).constructors)).0, subst (KeepsAnswers P) (sym is) (to_anf_keeps P))

  pub form_kept : HasAnfForm P Q
  form_kept form ordinary m few = subst (λ Q. AnfFormed Q m) (sym is) (to_anf_forms P m (shallow_suffices P form ordinary shallow main m few).1)

-- more constants, and constants in another order
pub shallow_more : (cs : List BoxConstant) (d : BoxConstant) → AreShallow cs → depth d.body ≤ depth_limit → AreShallow (cs ++ (d ∷ []))
shallow_more [] d h le = (le, tt)
shallow_more (c ∷ cs) d h le = (h.0, shallow_more cs d h.1 le)

pub shallow_turned : (cs : List BoxConstant) → AreShallow cs → AreShallow (reverse cs)
shallow_turned [] h = tt
shallow_turned (c ∷ cs) h = subst AreShallow (sym (reverse-append (c ∷ []) cs)) (shallow_more (reverse cs) c (shallow_turned cs h.1) h.0)

pub ruleset shallow_laws = (shallow_more, shallow_turned)
