-- The stages to the module for calls of main hand on one thing each, and the statuses of their refusals are those of their ends.
use Rattle.std.proofs.Common.{◌≡◌, ◌≢◌, ℕ, List, length, false, Err, refl, sym, ap, subst, ◌∙◌}
use Rattle.std.proofs.lemmas.List.{length-map}
use Rattle.pc_terms.specs.Syntax.{Term}
use Rattle.pc_rules.specs.declared.meter.Account.{Account}
use Rattle.calculus_rules.specs.Environment.{Env}
use Rattle.calculus_rules.specs.FirstOrder.{Shape as Member}
use Rattle.pc_rules.specs.DirectedRun.{Run, End, Done, Refused, NoUnit, Nested}
use Rattle.pc_rules.specs.DirectedPlaces.{Placed}
use Rattle.pc_rules.specs.DirectedFirstOrder.{Searched, Found, NotFirstOrder, TooManyTypes}
use Rattle.first_order.specs.DirectedSignature.{Signed, Takes, TooManyArguments, signature_search, signed_by, set_of, sets_of}
use Rattle.erase_rules.specs.DirectedProgram.{Answer}
use Rattle.known_calls.specs.KnownCalls.{module_of_call}
use Rattle.back_end.specs.BackEnd.{passed}
use Rattle.compile.specs.Passes.{Fits}
use Rattle.dump_reader.specs.declared.environment.RawEnv.{RawEnv}
use Rattle.driver.specs.declared.refusal.Refusal.{Refusal}
use Rattle.driver.specs.declared.refusal.Refusal.TheVariants as refusals
use Rattle.driver.specs.Lines.{status_of}
use Rattle.driver.specs.ExecEnds.{Accepting, ErasureSays, PassesSay, erasure_of}
use Rattle.driver.specs.CallStages.{SignatureSays, Signing, CallErasing, CallCompiling, argument_count, its_call_module}
use Rattle.driver.specs.Exported.{CallRulesAreWithin}
use Rattle.driver.proofs.CheckCauses.{deep_or_not, not_zero}
use Rattle.driver.proofs.ExecCauses.{erased_status, erasure_status, not_passed, one_acceptance, program_in}

-- ---- the search for a signature

abbrev pub signature_status : End (Searched Signed) → ℕ
signature_status (Done (Found (Takes Ss R)) u) = 0
signature_status (Done (Found TooManyArguments) u) = 7
signature_status (Done (NotFirstOrder T) u) = 10
signature_status (Done TooManyTypes u) = 7
signature_status (Refused b u) = 9
signature_status NoUnit = 8
signature_status Nested = 7

signed_status : (E : Env) (T : Term) (u : Account) (r : Refusal) (w : Account) → SignatureSays E T u (Err r) w → r ≢ refusals.Memory → (signature_search E T u).deep ≡ false →
    status_of r ≡ signature_status (signature_search E T u).end
signed_status E T u refusals.NotFirstOrder w h n d = ap signature_status (sym h.1)
signed_status E T u refusals.Types w h n d = ap signature_status (sym h)
signed_status E T u refusals.Arguments w h n d = ap signature_status (sym h)
signed_status E T u refusals.TurnsSpent w h n d = ap signature_status (sym h)
signed_status E T u refusals.Depth w h n d = absurd (deep_or_not (signature_search E T u).deep h d)
signed_status E T u refusals.Memory w h n d = absurd (n refl)
signed_status E T u _ w h n d = absurd h

-- ---- each stage hands on one thing

abbrev sets_in : End (Searched Signed) → List (List Member) → List (List Member)
sets_in (Done (Found (Takes Ss R)) u) Ts = Ss
sets_in x Ts = Ts

abbrev answer_in : End (Searched Signed) → List Member → List Member
answer_in (Done (Found (Takes Ss R)) u) S = R
answer_in x S = S

abbrev signed_account_in : End (Searched Signed) → Account → Account
signed_account_in (Done s u) v = u
signed_account_in x v = v

module _ (turns : ℕ) (e : RawEnv) where
  abbrev signing_of : Accepting turns e → Run (Searched Signed)
  signing_of x = signature_search x.kept x.type x.left

  abbrev erasing_of : Signing turns e → Placed Answer
  erasing_of x = erasure_of x.before.kept e.main x.left

  one_signing : (x y : Accepting turns e) → signing_of x ≡ signing_of y
  one_signing x y = (let q = one_acceptance turns e x y in λ i. signature_search (q.0 i) (q.1 i) (q.2 i))

  both_signed : (x y : Signing turns e) → Done (Found (signed_by x.signature)) x.left ≡ Done (Found (signed_by y.signature)) y.left
  both_signed x y = sym x.found ∙ ap (λ r. r.end) (one_signing x.before y.before) ∙ y.found

  pub one_argument_sets : (x y : Signing turns e) → sets_of x.signature.args ≡ sets_of y.signature.args
  one_argument_sets x y = ap (λ z. sets_in z (sets_of x.signature.args)) (both_signed x y)

  pub one_answer_set : (x y : Signing turns e) → set_of x.signature.answer ≡ set_of y.signature.answer
  one_answer_set x y = ap (λ z. answer_in z (set_of x.signature.answer)) (both_signed x y)

  pub one_argument_count : (x y : Signing turns e) → argument_count x ≡ argument_count y
  one_argument_count x y = sym (length-map x.signature.args set_of) ∙ ap length (one_argument_sets x y) ∙ length-map y.signature.args set_of

  one_account : (x y : Signing turns e) → x.left ≡ y.left
  one_account x y = ap (λ z. signed_account_in z x.left) (both_signed x y)

  one_erasure : (x y : Signing turns e) → erasing_of x ≡ erasing_of y
  one_erasure x y = (let q = one_acceptance turns e x.before y.before in let w = one_account x y in λ i. erasure_of (q.0 i) e.main (w i))

  pub one_call_program : (x y : CallErasing turns e) → x.program ≡ y.program
  one_call_program x y = ap (λ z. program_in z x.program) (sym x.erased ∙ ap (λ r. r.outcome) (one_erasure x.before y.before) ∙ y.erased)

  pub one_call_module : (pages : ℕ) (x y : CallCompiling turns e) → its_call_module pages x ≡ its_call_module pages y
  one_call_module pages x y =
      let P = one_call_program x.before y.before in
      let k = one_argument_count x.before.before y.before.before in
      λ i. module_of_call (passed (P i)) (k i) pages

  -- ---- where the rules pass no limit of depth

  module _ (within : CallRulesAreWithin turns e) where
    pub signature_stops : (r : Refusal) (x : Accepting turns e) (w : Account) → SignatureSays x.kept x.type x.left (Err r) w → r ≢ refusals.Memory → (y : Accepting turns e) → status_of r ≡ signature_status (signing_of y).end
    signature_stops r x w h n y = signed_status x.kept x.type x.left r w h n (within.search x) ∙ ap (λ z. signature_status z.end) (one_signing x y)

    pub no_signature : (r : Refusal) (x : Accepting turns e) (w : Account) → SignatureSays x.kept x.type x.left (Err r) w → r ≢ refusals.Memory → Signing turns e → ⊥
    no_signature r x w h n y = not_zero r (signature_stops r x w h n y.before ∙ ap signature_status y.found)

    pub call_erasure_stops : (r : Refusal) (x : Signing turns e) (w : Account) → ErasureSays e x.before.kept e.main x.left (Err r) w → r ≢ refusals.Memory → (y : Signing turns e) →
        status_of r ≡ erasure_status (erasing_of y).outcome
    call_erasure_stops r x w h n y = erased_status e x.before.kept e.main x.left r w h n (within.erasure x) ∙ ap (λ z. erasure_status z.outcome) (one_erasure x y)

    pub no_call_erasure : (r : Refusal) (x : Signing turns e) (w : Account) → ErasureSays e x.before.kept e.main x.left (Err r) w → r ≢ refusals.Memory → CallErasing turns e → ⊥
    no_call_erasure r x w h n y = not_zero r (call_erasure_stops r x w h n y.before ∙ ap erasure_status y.erased)

  pub no_call_passes : (pages : ℕ) (r : Refusal) (x : CallErasing turns e) → PassesSay pages x.program (Err r) → r ≢ refusals.Memory → CallCompiling turns e → ⊥
  no_call_passes pages r x h n y = (not_passed pages x.program r h n).1 (subst Fits (one_call_program y.before x) y.fits)
