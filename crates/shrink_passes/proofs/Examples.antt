-- Examples of both definitions, by computing.
use Rattle.std.proofs.Common.{◌≡◌, ℕ, List, [], ◌∷◌, refl}
use Rattle.trees.specs.Tree.{Rel, Done, Next}
use Rattle.pc_terms.specs.declared.leaf.Name.{Name}
use Rattle.pc_terms.specs.declared.leaf.FamilyId.{FamilyId}
use Rattle.box_terms.specs.BoxSyntax.{BoxTerm, Box, BLambda, BApp, BConst, BConstruct, BCase, BFix}
use Rattle.lambda_box.specs.BoxProgram.{BoxConstant, BoxProgram}
use Rattle.shrink_passes.specs.Inline.{inline_program}
use Rattle.shrink_passes.specs.DropParams.{drop_program}

abbrev name : ℕ → Name
name n = record { 0 = n }

abbrev named : ℕ → BoxTerm
named n = BConst (name n)

abbrev constant : ℕ → BoxTerm → BoxConstant
constant n t = record { name = name n; body = t }

abbrev program : List BoxConstant → BoxTerm → BoxProgram
program cs t = record { constants = cs; families = []; main = t }

abbrev list_family : FamilyId
list_family = record { block = name 10; family = 0 }

abbrev nat_family : FamilyId
nat_family = record { block = name 11; family = 0 }

abbrev O : BoxTerm
O = BConstruct nat_family 0

abbrev S : BoxTerm → BoxTerm
S t = BApp (BConstruct nat_family 1) t

-- a constant with one use is main; no constant is left
main_alone : inline_program (program (constant 0 O ∷ []) (named 0)) ≡ program [] O
main_alone = refl

-- a constant with two uses stays, and so does one without a use
two_uses : inline_program (program (constant 1 O ∷ constant 0 O ∷ []) (BApp (BApp (named 5) (named 0)) (named 0))) ≡ program (constant 1 O ∷ constant 0 O ∷ []) (BApp (BApp (named 5) (named 0)) (named 0))
two_uses = refl

-- a body as deep as the program stays where its use has a node above, and goes into one that has none
too_deep : inline_program (program (constant 0 (S (S O)) ∷ []) (S (named 0))) ≡ program (constant 0 (S (S O)) ∷ []) (S (named 0))
too_deep = refl

-- constants that are used once in one another
in_one_another : inline_program (program (constant 2 (named 1) ∷ constant 1 (named 0) ∷ constant 0 (S O) ∷ []) (named 2)) ≡ program [] (S O)
in_one_another = refl

-- lists appended and reversed, with a parameter for the type of items
abbrev cons : BoxTerm → BoxTerm → BoxTerm
cons x xs = BApp (BApp (BConstruct list_family 1) x) xs

abbrev nil : BoxTerm
nil = BConstruct list_family 0

abbrev append : BoxTerm
append = BFix 0 (0 ∷ []) (Next 1 (BLambda (BLambda (BCase list_family (Rel 1) (Next 0 (Rel 0) (Next 2 (cons (Rel 1) (BApp (BApp (Rel 4) (Rel 0)) (Rel 2))) Done))))) Done)

abbrev reverse_by : (BoxTerm → BoxTerm → BoxTerm) → BoxTerm
reverse_by f = BFix 0 (0 ∷ []) (Next 1 (BLambda (BCase list_family (Rel 0) (Next 0 nil (Next 2 (f (BApp (Rel 3) (Rel 0)) (cons (Rel 1) nil)) Done)))) Done)

abbrev with_type : BoxTerm → BoxTerm → BoxTerm
with_type x y = BApp (BApp (BApp (named 0) Box) x) y

abbrev without_type : BoxTerm → BoxTerm → BoxTerm
without_type x y = BApp (BApp (named 0) x) y

-- both lose the parameter, and their bodies are fixpoints then
types_dropped : drop_program (program (constant 1 (BLambda (reverse_by with_type)) ∷ constant 0 (BLambda append) ∷ []) (BApp (BApp (named 1) Box) (cons O nil))) ≡
    program (constant 1 (reverse_by without_type) ∷ constant 0 append ∷ []) (BApp (named 1) (cons O nil))
types_dropped = refl

-- with a use that has no argument, the constant and its uses stay as they were
handed_on : drop_program (program (constant 2 (named 0) ∷ constant 1 (BLambda (reverse_by with_type)) ∷ constant 0 (BLambda append) ∷ []) (BApp (BApp (named 1) Box) (cons O nil))) ≡
    program (constant 2 (named 0) ∷ constant 1 (reverse_by with_type) ∷ constant 0 (BLambda append) ∷ []) (BApp (named 1) (cons O nil))
handed_on = refl

-- of two parameters the second goes, where only it is always box; and a variable that is used stays
second_dropped : drop_program (program (constant 0 (BLambda (BLambda (Rel 1))) ∷ []) (BApp (BApp (named 0) O) Box)) ≡ program (constant 0 (BLambda (Rel 0)) ∷ []) (BApp (named 0) O)
second_dropped = refl

used_stays : drop_program (program (constant 0 (BLambda (Rel 0)) ∷ []) (BApp (named 0) Box)) ≡ program (constant 0 (BLambda (Rel 0)) ∷ []) (BApp (named 0) Box)
used_stays = refl

-- a constant without a use loses each leading lambda whose variable isn't used
no_use : drop_program (program (constant 0 (BLambda (BLambda (Rel 0))) ∷ []) O) ≡ program (constant 0 (BLambda (Rel 0)) ∷ []) O
no_use = refl
