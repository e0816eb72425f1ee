-- First-order sets with the same members, whose constructors have the names of one environment, are the same.
use Rattle.std.proofs.Common.{◌≡◌, List, [], ◌∷◌, map, refl, sym, ap, subst, ◌∙◌}
use Rattle.std.proofs.lemmas.List.Elements.{All-head, All-tail}
use Rattle.pc_terms.specs.Syntax.{Ind, apply, args, head}
use Rattle.calculus_rules.specs.Environment.{Env, KeepsFamily}
use Rattle.calculus_rules.specs.Laws.{OneEach}
use Rattle.calculus_rules.proofs.Spines.{spine_is}
use Rattle.calculus_rules.proofs.Listing.{first_same, rest_same}
use Rattle.first_order.specs.declared.shapes.Shape.{Shape}
use Rattle.first_order.specs.declared.shapes.Shapes.{Shapes}
use Rattle.first_order.specs.declared.shapes.ShapeCtor.{ShapeCtor}
use Rattle.first_order.specs.Awaited.{argument_sets}
use Rattle.first_order.specs.DirectedSignature.{AreAllNamed, sets_of}
use Rattle.first_order.specs.Searching.{AreNamed, IsNamed, ctor_name, family_in, member, members, places}

same_ctors : (ks ls : List ShapeCtor) → map ctor_name ks ≡ map ctor_name ls → map places ks ≡ map places ls → ks ≡ ls
same_ctors [] [] e f = refl
same_ctors [] (l ∷ ls) e f = absurd cc
same_ctors (k ∷ ks) [] e f = absurd cc
same_ctors (k ∷ ks) (l ∷ ls) e f =
    let name : ctor_name k ≡ ctor_name l = first_same e in
    let args : places k ≡ places l = first_same f in
    let rest = same_ctors ks ls (rest_same e) (rest_same f) in
    λ i. (record { name = name i; args = args i }) ∷ rest i

module _ (E : Env) (one : OneEach E) where
  shape_alike : (h g : Shape) → IsNamed E h → IsNamed E g → member h ≡ member g → h ≡ g
  shape_alike h g n m e =
      let family : n.family ≡ m.family = ap family_in (sym n.head_is) ∙ ap (λ x. x.family) e ∙ ap family_in m.head_is in
      let declared = one.families m.family n.declared m.declared (subst (λ f. KeepsFamily E f n.declared) family n.keeps) m.keeps in
      let ctors : h.ctors ≡ g.ctors =
      same_ctors h.ctors g.ctors (n.names ∙ ap (λ F. map (λ C. C.name) F.constructors) declared ∙ sym m.names) (ap (λ x. x.constructors) e) in
      let heads : head h.ty ≡ head g.ty = n.head_is ∙ ap (λ f. Ind f) family ∙ sym m.head_is in
      let parameters : args h.ty ≡ args g.ty = ap (λ x. x.parameters) e in
      let ty : h.ty ≡ g.ty = spine_is h.ty ∙ (λ i. apply (heads i) (parameters i)) ∙ sym (spine_is g.ty) in
      λ i. record { ty = ty i; ctors = ctors i }

  pub shapes_alike : (S R : List Shape) → AreNamed E S → AreNamed E R → members S ≡ members R → S ≡ R
  shapes_alike [] [] s r e = refl
  shapes_alike [] (g ∷ R) s r e = absurd cc
  shapes_alike (h ∷ S) [] s r e = absurd cc
  shapes_alike (h ∷ S) (g ∷ R) s r e =
      let first = shape_alike h g (All-head (IsNamed E) h S s) (All-head (IsNamed E) g R r) (first_same e) in
      let rest = shapes_alike S R (All-tail (IsNamed E) h S s) (All-tail (IsNamed E) g R r) (rest_same e) in
      λ i. first i ∷ rest i

  -- so of the sets of arguments
  pub sets_alike : (ss rs : List Shapes) → AreAllNamed E ss → AreAllNamed E rs → sets_of ss ≡ sets_of rs → argument_sets ss ≡ argument_sets rs
  sets_alike [] [] s r e = refl
  sets_alike [] (g ∷ rs) s r e = absurd cc
  sets_alike (h ∷ ss) [] s r e = absurd cc
  sets_alike (h ∷ ss) (g ∷ rs) s r e =
      let first = shapes_alike h.types g.types (All-head (λ (x : Shapes). AreNamed E x.types) h ss s) (All-head (λ (x : Shapes). AreNamed E x.types) g rs r) (first_same e) in
      let rest = sets_alike ss rs (All-tail (λ (x : Shapes). AreNamed E x.types) h ss s) (All-tail (λ (x : Shapes). AreNamed E x.types) g rs r) (rest_same e) in
      λ i. first i ∷ rest i
