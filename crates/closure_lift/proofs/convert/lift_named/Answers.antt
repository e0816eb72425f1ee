use Rattle.std.proofs.Common.{rules, ◌≡◌, [], ◌++◌, length, reverse, sym, ap, ◌∙◌, subst, Err}
use Rattle.closure_lift.specs.FreeVariables.{notes_block}
use Rattle.closure_lift.specs.Lift.{functions_constants}
use Rattle.closure_lift.specs.LiftedView.{functions_of}
use Rattle.closure_lift.specs.Lifting.{Stand, most_words}
use Rattle.closure_lift.specs.CapturedLimit.{BlocksCapture}
use Rattle.closure_lift.specs.NamedLift.{bodies, named_constants, constants_notes}
use Rattle.closure_lift.proofs.Converting.{constants_stand, main_stands, main_from, parts_are, program_captures, constants_capture, main_captures, refuses_program, err_refused, memory_refused, ok_lifted, err_crowd}
use Rattle.closure_lift.proofs.convert.lift_named.Goals as goal

pub lift_constants-requires : goal.lift_constants-requires
lift_constants-requires c =
    let P = c.args.p.now in
    let r : reverse c.as_slice-constants.result.now ≡ P.constants = c.as_slice-constants.ensures.is in
    let fs0 = c.new-functions.result.items in
    let e = c.in_ok-notes.ensures.is ∙ ap (λ rs. constants_notes (bodies rs) ++ notes_block 0 P.main) r in
    let d : c.deref.result.now ≡ c.in_ok-notes.notes.items = search rules in
    let z : length fs0 ≡ 0 = search rules in
    record { notes = subst (λ rs. Stand c.deref.result.now (length fs0) (constants_notes (bodies rs))) (sym r) (constants_stand P c.deref.result.now c.in_ok-notes.notes.items (length fs0) e d z) }

pub lift_code-requires : goal.lift_code-requires
lift_code-requires c =
    let P = c.args.p.now in
    let r : reverse c.as_slice-constants.result.now ≡ P.constants = c.as_slice-constants.ensures.is in
    let fs0 = c.new-functions.result.items in
    let fs1 = c.lift_constants.new.functions.items in
    let e = c.in_ok-notes.ensures.is ∙ ap (λ rs. constants_notes (bodies rs) ++ notes_block 0 P.main) r in
    let d : c.deref-2.result.now ≡ c.in_ok-notes.notes.items = search rules in
    let none : fs0 ≡ [] = search rules in
    let k = main_from P fs0 fs1 none (c.in_ok-lifted.ensures.functions ∙ ap (λ rs. functions_of fs0 ++ functions_constants (length fs0) (bodies rs)) r) in
    record { notes = main_stands P c.deref-2.result.now c.in_ok-notes.notes.items (length fs1) e d k }

pub returns-in_err-notes-clause-refused : goal.returns-in_err-notes-clause-refused
returns-in_err-notes-clause-refused c =
    let q : c.from_residual.result ≡ Err c.in_err-notes.field-0.0 = search rules in
    err_refused c.args.p.now c.from_residual.result c.in_err-notes.field-0.0 q (memory_refused c.args.p.now c.in_err-notes.field-0.0 c.in_err-notes.ensures.only_memory)

pub returns-in_err-lifted-clause-refused : goal.returns-in_err-lifted-clause-refused
returns-in_err-lifted-clause-refused c =
    let P = c.args.p.now in
    let r : reverse c.as_slice-constants.result.now ≡ P.constants = c.as_slice-constants.ensures.is in
    let e = c.in_err-lifted.field-0.0 in
    let q : c.from_residual-in_err-lifted.result ≡ Err e = search rules in
    err_refused P c.from_residual-in_err-lifted.result e q (refuses_program P e (λ h. subst (λ rs. BlocksCapture most_words (bodies rs)) (sym r) (constants_capture P h)) c.in_err-lifted.ensures.refused)

pub returns-in_err-main-clause-refused : goal.returns-in_err-main-clause-refused
returns-in_err-main-clause-refused c =
    let P = c.args.p.now in
    let e = c.in_err-main.field-0.0 in
    let q : c.from_residual-in_err-main.result ≡ Err e = search rules in
    err_refused P c.from_residual-in_err-main.result e q (refuses_program P e (main_captures P) c.in_err-main.ensures.refused)

pub returns-clause-lifted : goal.returns-clause-lifted
returns-clause-lifted c =
    let P = c.args.p.now in
    let r : reverse c.as_slice-constants.result.now ≡ P.constants = c.as_slice-constants.ensures.is in
    let fs0 = c.new-functions.result.items in
    let fs1 = c.lift_constants.new.functions.items in
    let fs2 = c.lift_code.new.functions.items in
    let cs = c.in_ok-lifted.lifted in
    let t = c.in_ok-main.main in
    let none : fs0 ≡ [] = search rules in
    let is = parts_are P fs0 fs1 fs2 cs t none (c.in_ok-lifted.ensures.constants ∙ ap (named_constants (length fs0)) r) (c.in_ok-lifted.ensures.functions ∙ ap (λ rs. functions_of fs0 ++ functions_constants (length fs0) (bodies rs)) r) c.in_ok-main.ensures.functions c.in_ok-main.ensures.block in
    let captures = program_captures P (subst (λ rs. BlocksCapture most_words (bodies rs)) r c.in_ok-lifted.ensures.captures) c.in_ok-main.ensures.captures in
    ok_lifted P c.put_together.result fs2 cs P.families t c.put_together.ensures.exact c.put_together.ensures.few is captures

pub returns-clause-refused : goal.returns-clause-refused
returns-clause-refused c =
    let P = c.args.p.now in
    let r : reverse c.as_slice-constants.result.now ≡ P.constants = c.as_slice-constants.ensures.is in
    let fs0 = c.new-functions.result.items in
    let fs1 = c.lift_constants.new.functions.items in
    let fs2 = c.lift_code.new.functions.items in
    let cs = c.in_ok-lifted.lifted in
    let t = c.in_ok-main.main in
    let none : fs0 ≡ [] = search rules in
    let is = parts_are P fs0 fs1 fs2 cs t none (c.in_ok-lifted.ensures.constants ∙ ap (named_constants (length fs0)) r) (c.in_ok-lifted.ensures.functions ∙ ap (λ rs. functions_of fs0 ++ functions_constants (length fs0) (bodies rs)) r) c.in_ok-main.ensures.functions c.in_ok-main.ensures.block in
    let captures = program_captures P (subst (λ rs. BlocksCapture most_words (bodies rs)) r c.in_ok-lifted.ensures.captures) c.in_ok-main.ensures.captures in
    err_crowd P c.put_together.result fs2 cs P.families t c.put_together.ensures.refused is captures
