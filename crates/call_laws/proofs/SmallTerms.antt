-- Data that terms of a box program are can be stored: each constructor's number and count of arguments fit a block's header.
use Rattle.std.proofs.Common.{◌≡◌, ℕ, zero, suc, ◌≤◌, List, [], ◌∷◌, ◌++◌, length, Some, subst, arith, slice_get}
use Rattle.std.proofs.lemmas.Option.{slice_get_within}
use Rattle.box_terms.specs.BoxSyntax.{BoxTerm}
use Rattle.pc_terms.specs.declared.leaf.FamilyId.{FamilyId}
use Rattle.calculus_rules.specs.FirstOrder.{Data}
use Rattle.lambda_box.specs.BoxEvaluation.{IsBoxConstructor, is_box_constructor}
use Rattle.lambda_box.specs.BoxForm.{AreFew, IsBoxProgram}
use Rattle.lambda_box.specs.BoxProgram.{BoxProgram}
use Rattle.lambda_box.specs.DataTerms.{DataTerm, data_term, DataFields, no_data_field, data_field, DataTerms, no_data, more_data}
use Rattle.wasm_core.specs.ModuleCondition.{All as Each}
use Rattle.mem_value.specs.Storing.{IsSmallData, IsSmallNode}

few_there : (ns : List ℕ) (c n : ℕ) → AreFew ns → slice_get ns c ≡ Some n → n ≤ 255
few_there [] c n h e = absurd cc
few_there (x ∷ ns) zero n h e = let same : x ≡ n = cc in subst (λ z. z ≤ 255) same h.0
few_there (x ∷ ns) (suc c) n h e = few_there ns c n h.1 e

both_small : (d e : Data) → IsSmallData d → IsSmallData e → IsSmallData (d ++ e)
both_small [] e h k = k
both_small (x ∷ d) e h k = (h.0, both_small d e h.1 k)

module _ (P : BoxProgram) (form : IsBoxProgram P) where
  node_small : (f : FamilyId) (c : ℕ) (w : BoxTerm) (qs xs : List BoxTerm) → IsBoxConstructor P f c w qs xs → IsSmallNode (c, length xs)
  node_small f c w qs xs (is_box_constructor {F = F} {n = n} keeps propositional at params count is) =
      let few = form.counts F keeps.0 in
      let below = slice_get_within F.args c n at in
      let arguments = few_there F.args c n few.args at in
      (omega (arith, below, few.constructors), omega (arith, arguments, count))

  mutual
    term_small : (w : BoxTerm) (d : Data) → DataTerm P w d → IsSmallData d
    term_small w _ (data_term {f = f} {c = c} {qs = qs} {xs = xs} {ds = ds} is _ fields) = (node_small f c w qs xs is, fields_small xs ds fields)

    fields_small : (xs : List BoxTerm) (ds : Data) → DataFields P xs ds → IsSmallData ds
    fields_small _ _ no_data_field = tt
    fields_small _ _ (data_field {x = x} {xs = xs} {d = d} {ds = ds} h k) = both_small d ds (term_small x d h) (fields_small xs ds k)

  pub terms_small : (us : List BoxTerm) (args : List Data) → DataTerms P us args → Each IsSmallData args
  terms_small _ _ no_data = tt
  terms_small _ _ (more_data {x = x} {xs = xs} {d = d} {ds = ds} h k) = (term_small x d h, terms_small xs ds k)
