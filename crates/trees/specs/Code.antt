-- How the logic stores a tree, for each way to store its labels.
use Rattle.std.specs.Prelude.{◌≡◌, List}
use Rattle.std.proofs.Common.{ap, refl, subst}
use Rattle.std.specs.Coded.{Coded}
use base.Stored.{Gv, gnil, gnum, gcons}
use Rattle.trees.specs.Tree.{Slot, Tree, Rel, Node, Places, End, Child, Group, Trees, Done, Next}

-- tags, made of constructors, which `cc` tells apart
abbrev pub mark : Gv → Gv
mark g = gcons gnil g

abbrev pub t0 : Gv
t0 = gnil

abbrev pub t1 : Gv
t1 = mark t0

abbrev pub t2 : Gv
t2 = mark t1

abbrev pub t3 : Gv
t3 = mark t2

abbrev pub t4 : Gv
t4 = mark t3

abbrev pub t5 : Gv
t5 = mark t4

abbrev pub t6 : Gv
t6 = mark t5

abbrev pub t7 : Gv
t7 = mark t6

abbrev pub t8 : Gv
t8 = mark t7

abbrev pub t9 : Gv
t9 = mark t8

-- trees, for each code of labels
abbrev mutual
  pub code : {L : Type 0} {slots : L → List Slot} → Coded L → Tree L slots → Gv
  code C (Rel i) = gcons t0 (gnum i)
  code C (Node l ts) = gcons t1 (gcons (C.code l) (code_places C ts))

  pub code_places : {L : Type 0} {slots : L → List Slot} → Coded L → {ss : List Slot} → Places L slots ss → Gv
  code_places C End = gnil
  code_places C (Child t ts) = gcons (code C t) (code_places C ts)
  code_places C (Group us ts) = gcons (code_trees C us) (code_places C ts)

  pub code_trees : {L : Type 0} {slots : L → List Slot} → Coded L → Trees L slots → Gv
  code_trees C Done = gnil
  code_trees C (Next n t ts) = gcons (gnum n) (gcons (code C t) (code_trees C ts))

mutual
  pub code-inj : {L : Type 0} {slots : L → List Slot} (C : Coded L) (x y : Tree L slots) → code C x ≡ code C y → x ≡ y
  code-inj C (Rel i) (Rel j) p = cc
  code-inj {slots = slots} C (Node l ts) (Node m us) p =
      let labels : C.code l ≡ C.code m = cc in
      let rest : code_places C ts ≡ code_places C us = cc in
      subst (λ m. (us : Places _ slots (slots m)) → code_places C ts ≡ code_places C us → Node l ts ≡ Node m us)
      (C.inj l m labels) (λ us q. ap (Node l) (code_places-inj C ts us q)) us rest
  code-inj C _ _ p = cc

  pub code_places-inj : {L : Type 0} {slots : L → List Slot} (C : Coded L) {ss : List Slot} (x y : Places L slots ss) → code_places C x ≡ code_places C y → x ≡ y
  code_places-inj C End End p = refl
  code_places-inj C (Child t ts) (Child u us) p =
      let first : code C t ≡ code C u = cc in
      let rest : code_places C ts ≡ code_places C us = cc in
      λ i. Child (code-inj C t u first i) (code_places-inj C ts us rest i)
  code_places-inj C (Group t ts) (Group u us) p =
      let first : code_trees C t ≡ code_trees C u = cc in
      let rest : code_places C ts ≡ code_places C us = cc in
      λ i. Group (code_trees-inj C t u first i) (code_places-inj C ts us rest i)

  pub code_trees-inj : {L : Type 0} {slots : L → List Slot} (C : Coded L) (x y : Trees L slots) → code_trees C x ≡ code_trees C y → x ≡ y
  code_trees-inj C Done Done p = refl
  code_trees-inj C (Next n t ts) (Next m u us) p = cc (code-inj C t u (cc), code_trees-inj C ts us (cc))
  code_trees-inj C _ _ p = cc

abbrev pub coded_tree : {L : Type 0} {slots : L → List Slot} → Coded L → Coded (Tree L slots)
coded_tree C = record { code = code C; inj = code-inj C }
