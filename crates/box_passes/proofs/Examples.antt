-- Examples of the two passes and of the words of closures, by computing.
use Rattle.std.proofs.Common.{◌≡◌, true, false, List, [], ◌∷◌, refl}
use Rattle.trees.specs.Tree.{Rel, Done, Next}
use Rattle.pc_terms.specs.declared.leaf.FamilyId.{FamilyId}
use Rattle.box_terms.specs.BoxSyntax.{Box, BLambda, BApp, BConstruct, BCase}
use Rattle.lambda_box.specs.BoxProgram.{BoxFamily, BoxProgram, here, there, KeepsBoxFamily}
use Rattle.box_passes.specs.Saturate.{saturate_term}
use Rattle.box_passes.specs.PropMatch.{drop_matches}
use Rattle.lambda_box.specs.ClosureEvaluation.{VBox, Empty, Bind, BindFix, closure_words, fix_words, VConstruct, NoValue, nothing, found, ClosureRun, run_construct, run_head, run_arg, run_match, run_value}

abbrev list_family : FamilyId
list_family = record { block = record { 0 = 0 }; family = 0 }

abbrev equality : FamilyId
equality = record { block = record { 0 = 1 }; family = 0 }

abbrev nat_family : FamilyId
nat_family = record { block = record { 0 = 2 }; family = 0 }

abbrev families : List BoxFamily
families =
    record { id = list_family; propositional = false; params = 1; args = 0 ∷ 2 ∷ [] }
    ∷ record { id = equality; propositional = true; params = 2; args = 0 ∷ [] } ∷ record { id = nat_family; propositional = false; params = 0; args = 0 ∷ 1 ∷ [] } ∷ []

-- a constructor alone becomes a function of its parameter and arguments
cons_alone : saturate_term families (BConstruct list_family 1) ≡ BLambda (BLambda (BLambda (BApp (BApp (BConstruct list_family 1) (Rel 1)) (Rel 0))))
cons_alone = refl

-- with its parameter, and no argument more, it loses it
nil_applied : saturate_term families (BApp (BConstruct list_family 0) Box) ≡ BConstruct list_family 0
nil_applied = refl

-- with an argument missing it stays a function, and what it had stays outside
cons_partly : saturate_term families (BApp (BConstruct list_family 1) Box) ≡ BApp (BLambda (BLambda (BLambda (BApp (BApp (BConstruct list_family 1) (Rel 1)) (Rel 0))))) Box
cons_partly = refl

-- a match on a proof of equality is its branch
equality_match : drop_matches families (BCase equality Box (Next 0 (BConstruct nat_family 0) Done)) ≡ BConstruct nat_family 0
equality_match = refl

-- a lambda that names two values captures two words, and counts each once
two_words : closure_words (Bind VBox (Bind VBox (Bind VBox Empty))) (BApp (BApp (Rel 1) (Rel 3)) (BApp (Rel 1) (Rel 0))) ≡ 3
two_words = refl

-- a fixpoint whose definition names itself and one value captures that value
one_word : fix_words (Bind VBox (Bind VBox Empty)) (Next 1 (BLambda (BApp (Rel 1) (Rel 2))) Done) ≡ 2
one_word = refl

-- inside it, a lambda that names the fixpoint and the same value captures the value once
shared_word : closure_words (Bind VBox (BindFix (0 ∷ []) (Next 1 (BLambda (BApp (Rel 1) (Rel 2))) Done) (Bind VBox (Bind VBox Empty)))) (BApp (Rel 2) (Rel 3)) ≡ 2
shared_word = refl

-- and one that names the fixpoint alone captures what the fixpoint captured
fixpoint_alone : closure_words (Bind VBox (BindFix (0 ∷ []) (Next 1 (BLambda (BApp (Rel 1) (Rel 2))) Done) (Bind VBox (Bind VBox Empty)))) (BApp (Rel 2) (Rel 0)) ≡ 2
fixpoint_alone = refl

-- a match on a successor: one contraction, one match, one block of two words
abbrev program : BoxProgram
program =
    record {
      constants = [];
      families = families;
      main = BCase nat_family (BApp (BConstruct nat_family 1) (BConstruct nat_family 0)) (Next 0 (BConstruct nat_family 0) (Next 1 (Rel 0) Done));
    }

abbrev nat_kept : KeepsBoxFamily program nat_family (record { id = nat_family; propositional = false; params = 0; args = 0 ∷ 1 ∷ [] })
nat_kept = (there (there here), refl)

zero_run : ClosureRun program Empty (BConstruct nat_family 0) (VConstruct nat_family 0 NoValue) nothing
zero_run = run_construct nat_kept refl refl run_head

predecessor_runs : ClosureRun program Empty program.main (VConstruct nat_family 0 NoValue) (record { contractions = 1; matches = 1; blocks = 1; greatest = 2 })
predecessor_runs = run_match nat_kept refl (run_construct nat_kept refl refl (run_arg run_head zero_run)) refl (run_value found)
