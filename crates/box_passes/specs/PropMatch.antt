-- Matches on propositional families, dropped. Such a match with one branch becomes the branch with boxes for its names; one with several
-- branches becomes box; one without branches stays.
use Rattle.std.specs.Prelude.{ℕ, ◌≤◌, Bool, true, false, List, map}
use Rattle.trees.specs.Tree.{Rel, Done, Next}
use Rattle.trees.specs.Parallel.{put_all, substitute}
use Rattle.trees.specs.Measures.{nodes, depth}
use Rattle.pc_terms.specs.declared.leaf.FamilyId.{FamilyId}
use Rattle.box_terms.specs.BoxSyntax.{BoxTerm, BoxTerms, Box, BLambda, BLetIn, BApp, BConst, BConstruct, BCase, BFix}
use Rattle.lambda_box.specs.BoxProgram.{BoxConstant, BoxFamily, BoxProgram, box_apply, boxes}
use Rattle.lambda_box.specs.BoxForm.{IsBoxProgram}
use Rattle.lambda_box.specs.BoxEvaluation.{BoxEvaluates}
use Rattle.lambda_box.specs.BoxData.{Data, BoxReads}
use Rattle.lambda_box.specs.DataTerms.{DataTerms, binder_depth, greatest_words}
use Rattle.lambda_box.specs.SaturatedForm.{program_nodes}
use Rattle.lambda_box.specs.OrdinaryForm.{family_of, propositional_of, IsOrdinaryProgram}

abbrev pub only_branch : FamilyId → BoxTerm → BoxTerms → BoxTerm
only_branch f s Done = BCase f s Done
only_branch f s (Next k b Done) = substitute (put_all (boxes k) Rel) b
only_branch f s (Next k b (Next l c bs)) = Box

abbrev pub match_of : Bool → FamilyId → BoxTerm → BoxTerms → BoxTerm
match_of true f s bs = only_branch f s bs
match_of false f s bs = BCase f s bs

abbrev mutual
  pub drop_matches : List BoxFamily → BoxTerm → BoxTerm
  drop_matches Fs (Rel i) = Rel i
  drop_matches Fs Box = Box
  drop_matches Fs (BLambda b) = BLambda (drop_matches Fs b)
  drop_matches Fs (BLetIn b t) = BLetIn (drop_matches Fs b) (drop_matches Fs t)
  drop_matches Fs (BApp f a) = BApp (drop_matches Fs f) (drop_matches Fs a)
  drop_matches Fs (BConst k) = BConst k
  drop_matches Fs (BConstruct f c) = BConstruct f c
  drop_matches Fs (BCase f s bs) = match_of (propositional_of (family_of Fs f)) f (drop_matches Fs s) (drop_matches_terms Fs bs)
  drop_matches Fs (BFix i rargs bodies) = BFix i rargs (drop_matches_terms Fs bodies)

  pub drop_matches_terms : List BoxFamily → BoxTerms → BoxTerms
  drop_matches_terms Fs Done = Done
  drop_matches_terms Fs (Next n t ts) = Next n (drop_matches Fs t) (drop_matches_terms Fs ts)

abbrev pub drop_matches_constant : List BoxFamily → BoxConstant → BoxConstant
drop_matches_constant Fs d = record { name = d.name; body = drop_matches Fs d.body }

abbrev pub prop_match_program : BoxProgram → BoxProgram
prop_match_program P = record { constants = map (drop_matches_constant P.families) P.constants; families = P.families; main = drop_matches P.families P.main }

-- an evaluation by substitution that gives data with at most n nodes
pub record EvaluatesWithin (P : BoxProgram) (t : BoxTerm) (d : Data) (n : ℕ) : Type 0 where
  pub w : BoxTerm
  pub nodes : ℕ
  pub matches : ℕ
  pub evaluates : BoxEvaluates P t w nodes matches
  pub reads : BoxReads P w d
  pub within : nodes ≤ n

-- where main, applied to data terms, evaluates to data, the pass's main, applied to the same terms, evaluates to the same data, with no more nodes
abbrev pub PropMatchKeeps : Type 0
PropMatchKeeps =
    (P : BoxProgram) → IsBoxProgram P → (us : List BoxTerm) (args : List Data) → DataTerms P us args → (w : BoxTerm) (d : Data) (n m : ℕ) → BoxEvaluates P (box_apply P.main us) w n m → BoxReads P w d →
    DataTerms (prop_match_program P) us args × EvaluatesWithin (prop_match_program P) (box_apply (prop_match_program P).main us) d n

-- the pass's program has the form of programs, and its matches are ordinary
abbrev pub PropMatchForm : Type 0
PropMatchForm = (P : BoxProgram) → IsBoxProgram P → IsBoxProgram (prop_match_program P) × IsOrdinaryProgram (prop_match_program P)

-- no term gets more nodes, or deeper, or a place under more binders
abbrev pub PropMatchSizes : Type 0
PropMatchSizes = (Fs : List BoxFamily) (t : BoxTerm) → (nodes (drop_matches Fs t) ≤ nodes t) × (depth (drop_matches Fs t) ≤ depth t) × (binder_depth (drop_matches Fs t) ≤ binder_depth t)

-- so the program has no more nodes, and no more words
abbrev pub PropMatchProgramSizes : Type 0
PropMatchProgramSizes = (P : BoxProgram) → (program_nodes (prop_match_program P) ≤ program_nodes P) × (greatest_words (prop_match_program P) ≤ greatest_words P)
