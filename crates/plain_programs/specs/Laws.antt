-- What holds of plain environments and programs: the search, erasure, the passes, and the run.
use Rattle.std.specs.Prelude.{◌≡◌, ℕ, suc, ◌≤◌, ◌<◌, [], ◌∷◌, Result, Ok, Err}
use Rattle.pc_terms.specs.declared.leaf.FamilyId.{FamilyId}
use Rattle.pc_terms.specs.Syntax.{Ind, Construct}
use Rattle.pc_rules.specs.declared.meter.Account.{Account}
use Rattle.calculus_rules.specs.Environment.{Env}
use Rattle.calculus_rules.specs.FirstOrder.{FitsShapes}
use Rattle.pc_rules.specs.DirectedRun.{done, ticked, noted}
use Rattle.pc_rules.specs.DirectedComparison.{Test}
use Rattle.pc_rules.specs.DirectedFirstOrder.{Found, first_order_search}
use Rattle.pc_rules.specs.DirectedPlaces.{gives}
use Rattle.lambda_box.specs.BoxProgram.{BoxProgram}
use Rattle.lambda_box.specs.BoxForm.{IsBoxProgram}
use Rattle.lambda_box.specs.BoxEvaluation.{BoxEvaluates}
use Rattle.lambda_box.specs.BoxData.{BoxReads}
use Rattle.lambda_box.specs.DataTerms.{greatest_words}
use Rattle.erase_rules.specs.DirectedProgram.{Program, box_families, erased_program}
use Rattle.known_calls.specs.KnownModule.{module_of}
use Rattle.back_end.specs.BackEnd.{passed}
use Rattle.compile.specs.Passes.{Fits}
use Rattle.module_run.specs.Ends.{Ends, IsSmall}
use Rattle.module_run.specs.declared.refusal.RunRefusal.{RunRefusal}
use Rattle.module_run.specs.declared.refusal.RunRefusal.TheVariants as refusals
use Rattle.module_run.specs.declared.answer.Answer.{Answer}
use Rattle.plain_programs.specs.PlainEnvironment.{KeepsPlain, plain_set}
use Rattle.plain_programs.specs.PlainProgram.{IsPlainProgram, plain_program}

-- in one unit the search finds the family alone, which constructor c fits
abbrev pub PlainTypesAreFound : Type 0
PlainTypesAreFound =
    (E : Env) (f : FamilyId) (c left : ℕ) (u : Account) (h : KeepsPlain E f c) → u.left ≡ suc left →
    (first_order_search E (Ind f) u ≡ done (Found (plain_set f h.ctors)) (ticked u)) × FitsShapes (plain_set f h.ctors) 0 ((c, 0) ∷ [])

-- in two units a constructor is erased to itself, without constants
abbrev pub PlainMainsAreErased : Type 0
PlainMainsAreErased =
    (E : Env) (q : Test) (n : ℕ) (f : FamilyId) (c left : ℕ) (u : Account) → KeepsPlain E f c → u.left ≡ suc (suc left) →
    (erased_program E q (suc n) (Construct f c) u ≡ gives (Program (plain_program (box_families E.declarations) f c)) (noted 8 (ticked (noted 9 (ticked u)))))
    × IsPlainProgram (plain_program (box_families E.declarations) f c) f c

-- main evaluates in one node, without a match, to itself, which is data
abbrev pub PlainProgramsEvaluate : Type 0
PlainProgramsEvaluate = (P : BoxProgram) (f : FamilyId) (c : ℕ) → IsPlainProgram P f c → BoxEvaluates P P.main P.main 1 0 × BoxReads P P.main ((c, 0) ∷ [])

-- no limit of the passes is in the program's way, its words are four, and its module has few bytes
abbrev pub PlainProgramsFit : Type 0
PlainProgramsFit = (P : BoxProgram) (f : FamilyId) (c : ℕ) → IsPlainProgram P f c → Fits P × (greatest_words P ≡ 4)

abbrev pub PlainModulesAreSmall : Type 0
PlainModulesAreSmall = (P : BoxProgram) (f : FamilyId) (c pages : ℕ) → IsBoxProgram P → IsPlainProgram P f c → IsSmall (module_of (passed P) pages)

abbrev pub EndsSo : ℕ → Result Answer RunRefusal → Type 0
EndsSo c (Ok a) = a.tree ≡ (c, 0) ∷ []
EndsSo c (Err r) = r ≡ refusals.Memory

-- a run with enough steps ends with the constructor, but for want of the host's memory
abbrev pub PlainRunsAnswer : Type 0
PlainRunsAnswer =
    (P : BoxProgram) (f : FamilyId) (c pages steps : ℕ) (r : Result Answer RunRefusal) → 0 < pages → pages ≤ 16384 → 1052672 ≤ steps → IsBoxProgram P → IsPlainProgram P f c →
    Ends (module_of (passed P) pages) pages steps r → EndsSo c r
