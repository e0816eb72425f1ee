-- How the logic stores a term of the language after erasure.
use Rattle.std.specs.Prelude.{◌≡◌}
use Rattle.std.proofs.Common.{refl}
use Rattle.std.specs.Coded.{Coded, coded_ℕ, coded_list}
use base.Stored.{Gv, gnil, gnum, gcons}
use Rattle.box_terms.specs.BoxSyntax.{BoxLabel, BoxOf, BLambdaOf, BLetInOf, BAppOf, BConstOf, BConstructOf, BCaseOf, BFixOf, BoxTerm}
use Rattle.trees.specs.Code.{t0, t1, t2, t3, t4, t5, t6, t7, coded_tree}
use Rattle.pc_terms.specs.contracts.leaf.Name as name
use Rattle.pc_terms.specs.contracts.leaf.FamilyId as family

abbrev pub code_box_label : BoxLabel → Gv
code_box_label BoxOf = gcons t0 gnil
code_box_label BLambdaOf = gcons t1 gnil
code_box_label BLetInOf = gcons t2 gnil
code_box_label BAppOf = gcons t3 gnil
code_box_label (BConstOf k) = gcons t4 (name.the_row.coded.code k)
code_box_label (BConstructOf f c) = gcons t5 (gcons (family.the_row.coded.code f) (gnum c))
code_box_label (BCaseOf f) = gcons t6 (family.the_row.coded.code f)
code_box_label (BFixOf i rargs) = gcons t7 (gcons (gnum i) ((coded_list coded_ℕ).code rargs))

pub code_box_label-inj : (x y : BoxLabel) → code_box_label x ≡ code_box_label y → x ≡ y
code_box_label-inj BoxOf BoxOf p = refl
code_box_label-inj BLambdaOf BLambdaOf p = refl
code_box_label-inj BLetInOf BLetInOf p = refl
code_box_label-inj BAppOf BAppOf p = refl
code_box_label-inj (BConstOf k) (BConstOf j) p = cc (name.the_row.coded.inj k j (cc))
code_box_label-inj (BConstructOf f c) (BConstructOf g d) p = cc (family.the_row.coded.inj f g (cc))
code_box_label-inj (BCaseOf f) (BCaseOf g) p = cc (family.the_row.coded.inj f g (cc))
code_box_label-inj (BFixOf i rargs) (BFixOf j rargs') p = cc ((coded_list coded_ℕ).inj rargs rargs' (cc))
code_box_label-inj _ _ p = cc

abbrev pub coded_box : Coded BoxTerm
coded_box = coded_tree (record { code = code_box_label; inj = code_box_label-inj })
