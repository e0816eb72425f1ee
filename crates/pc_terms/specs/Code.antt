-- How the logic stores a term.
use Rattle.std.specs.Prelude.{◌≡◌}
use Rattle.std.proofs.Common.{ap, refl}
use Rattle.std.specs.Coded.{Coded, coded_ℕ, coded_list}
use base.Stored.{Gv, gnil, gnum, gcons}
use Rattle.trees.specs.Code.{t0, t1, t2, t3, t4, t5, t6, t7, t8, t9, coded_tree}
use Rattle.pc_terms.specs.Syntax.{Label, SortOf, ProdOf, LambdaOf, LetInOf, AppOf, ConstOf, IndOf, ConstructOf, CaseOf, FixOf, Term}
use Rattle.pc_terms.specs.contracts.leaf.Name as name
use Rattle.pc_terms.specs.contracts.leaf.FamilyId as family
use Rattle.universe_levels.specs.contracts.sort.Sort as sorts

abbrev pub code_label : Label → Gv
code_label (SortOf s) = gcons t0 (sorts.the_row.coded.code s)
code_label ProdOf = gcons t1 gnil
code_label LambdaOf = gcons t2 gnil
code_label LetInOf = gcons t3 gnil
code_label AppOf = gcons t4 gnil
code_label (ConstOf c) = gcons t5 (name.the_row.coded.code c)
code_label (IndOf f) = gcons t6 (family.the_row.coded.code f)
code_label (ConstructOf f c) = gcons t7 (gcons (family.the_row.coded.code f) (gnum c))
code_label (CaseOf f n) = gcons t8 (gcons (family.the_row.coded.code f) (gnum n))
code_label (FixOf i rargs) = gcons t9 (gcons (gnum i) ((coded_list coded_ℕ).code rargs))

pub code_label-inj : (x y : Label) → code_label x ≡ code_label y → x ≡ y
code_label-inj (SortOf s) (SortOf s') p = ap SortOf (sorts.the_row.coded.inj s s' (cc))
code_label-inj ProdOf ProdOf p = refl
code_label-inj LambdaOf LambdaOf p = refl
code_label-inj LetInOf LetInOf p = refl
code_label-inj AppOf AppOf p = refl
code_label-inj (ConstOf c) (ConstOf d) p = ap ConstOf (name.the_row.coded.inj c d (cc))
code_label-inj (IndOf f) (IndOf g) p = ap IndOf (family.the_row.coded.inj f g (cc))
code_label-inj (ConstructOf f c) (ConstructOf g d) p = cc (family.the_row.coded.inj f g (cc))
code_label-inj (CaseOf f n) (CaseOf g m) p = cc (family.the_row.coded.inj f g (cc))
code_label-inj (FixOf i rargs) (FixOf j rargs') p = cc ((coded_list coded_ℕ).inj rargs rargs' (cc))
code_label-inj _ _ p = cc

abbrev pub coded_label : Coded Label
coded_label = record { code = code_label; inj = code_label-inj }

abbrev pub coded_term : Coded Term
coded_term = coded_tree coded_label
