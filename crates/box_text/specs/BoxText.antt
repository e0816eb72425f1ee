-- The text of a program after erasure.
use Rattle.std.specs.Prelude.{ℕ, Bool, true, false, List, [], ◌∷◌, ◌++◌, Option, Some, None, slice_get, reverse, codes, decimal}
use Rattle.trees.specs.Tree.{Rel, Done, Next}
use Rattle.pc_terms.specs.declared.leaf.Name.{Name}
use Rattle.pc_terms.specs.declared.leaf.FamilyId.{FamilyId}
use Rattle.box_terms.specs.BoxSyntax.{BoxTerm, BoxTerms, Box, BLambda, BLetIn, BApp, BConst, BConstruct, BCase, BFix}
use Rattle.box_terms.specs.declared.program.BoxConstant.{BoxConstant}
use Rattle.box_terms.specs.declared.program.BoxFamily.{BoxFamily}
use Rattle.box_terms.specs.declared.program.BoxProgram.{BoxProgram}

-- the texts of names, by number
abbrev pub Table : Type 0
Table = List (List ℕ)

abbrev pub text_or : Name → Option (List ℕ) → List ℕ
text_or k None = codes "?" ++ decimal k.0
text_or k (Some t) = t

abbrev pub name_text : Table → Name → List ℕ
name_text ns k = text_or k (slice_get ns k.0)

abbrev pub family_text : Table → FamilyId → List ℕ
family_text ns f = name_text ns f.block ++ (codes " " ++ decimal f.family)

abbrev pub two_text : List ℕ → List ℕ → List ℕ → List ℕ
two_text front a b = front ++ (a ++ (codes " " ++ (b ++ codes ")")))

abbrev pub arm_text : ℕ → List ℕ → List ℕ
arm_text n b = codes " (br " ++ (decimal n ++ (codes " " ++ (b ++ codes ")")))

abbrev pub definition_text : ℕ → List ℕ → List ℕ
definition_text r b = codes " (def " ++ (b ++ (codes " " ++ (decimal r ++ codes ")")))

abbrev mutual
  pub term_text : Table → BoxTerm → List ℕ
  term_text ns Box = codes "Box"
  term_text ns (Rel i) = codes "(Rel " ++ (decimal i ++ codes ")")
  term_text ns (BLambda b) = codes "(Lambda " ++ (term_text ns b ++ codes ")")
  term_text ns (BLetIn v b) = two_text (codes "(LetIn ") (term_text ns v) (term_text ns b)
  term_text ns (BApp f a) = two_text (codes "(App ") (term_text ns f) (term_text ns a)
  term_text ns (BConst k) = codes "(Const " ++ (name_text ns k ++ codes ")")
  term_text ns (BConstruct f c) = codes "(Construct " ++ (family_text ns f ++ (codes " " ++ (decimal c ++ codes ")")))
  term_text ns (BCase f s bs) = codes "(Case (" ++ (family_text ns f ++ (codes ") " ++ (term_text ns s ++ (arms_text ns bs ++ codes ")"))))
  term_text ns (BFix i rargs bodies) = codes "(Fix (defs" ++ (definitions_text ns rargs bodies ++ (codes ") " ++ (decimal i ++ codes ")")))

  -- each with a blank before it
  pub arms_text : Table → BoxTerms → List ℕ
  arms_text ns Done = []
  arms_text ns (Next n t ts) = arm_text n (term_text ns t) ++ arms_text ns ts

  pub definitions_text : Table → List ℕ → BoxTerms → List ℕ
  definitions_text ns (r ∷ rs) (Next n t ts) = definition_text r (term_text ns t) ++ definitions_text ns rs ts
  definitions_text ns rs ts = []

abbrev pub each_text : {A : Type 0} → (A → List ℕ) → List A → List ℕ
each_text f [] = []
each_text f (x ∷ xs) = f x ++ each_text f xs

-- a count, with a blank before it
abbrev pub count_text : ℕ → List ℕ
count_text n = codes " " ++ decimal n

abbrev pub kind_text : Bool → List ℕ
kind_text true = codes " Prop (params "
kind_text false = codes " Type (params "

abbrev pub line_of_family : Table → BoxFamily → List ℕ
line_of_family ns F =
    codes "(family " ++ (family_text ns F.id ++ (kind_text F.propositional ++ (decimal F.params ++ (codes ") (args" ++ (each_text count_text F.args ++ codes "))\n")))))

abbrev pub line_of_constant : Table → BoxConstant → List ℕ
line_of_constant ns d = codes "(constant " ++ (name_text ns d.name ++ (codes " " ++ (term_text ns d.body ++ codes ")\n")))

-- constants in the order of their declarations, families, main
abbrev pub text_of_program : Table → BoxProgram → List ℕ
text_of_program ns P =
    each_text (line_of_constant ns) (reverse P.constants) ++ (each_text (line_of_family ns) P.families ++ (codes "(main " ++ (term_text ns P.main ++ codes ")\n")))
