-- The laws of lifting and of emission with workers together.
use Rattle.std.proofs.Common.{◌≡◌, ℕ, ◌+◌, ◌-◌, ◌*◌, ◌≤◌, subst, sym, arith}
use Rattle.closure_lift.specs.Lifted.{Program, VNil}
use Rattle.anf_convert.specs.AnfEvaluation.{WNil}
use Rattle.closure_lift.specs.Lift.{lift}
use Rattle.anf_convert.specs.AnfData.{DataTree, anf_data_none}
use Rattle.closure_lift.specs.LiftKeeps.{are_data_none}
use Rattle.closure_lift.proofs.Follows.{lift_keeps}
use Rattle.closure_lift.proofs.Forms.{lift_forms}
use Rattle.wasm_emit.proofs.Shallow.{few_calls}
use Rattle.wasm_emit.proofs.Answering.{longer, steps}
use Rattle.known_calls.specs.KnownLaws.{KnownEmitted, AnfEmitted, AnfAnswersKnown, AnfKnownValid}
use Rattle.known_calls.proofs.KnownAnswering.{known_answers}
use Rattle.known_calls.proofs.KnownValidity.{known_valid}

-- more contractions
looser_emitted : {P : Program} {pages w m : ℕ} {d : DataTree} {c c' k b s calls : ℕ} → c' ≤ c → KnownEmitted P pages w m d c' k b s calls → KnownEmitted P pages w m d c k b s calls
looser_emitted {w = w} {m = m} {c = c} {c' = c'} {b = b} le h =
    let z : c ≡ c' + (c - c') = omega arith in
    let bound : 64 * (b + c' + 1) * (w + m) ≤ 64 * (b + c + 1) * (w + m) = subst (λ q. 64 * (b + c' + 1) * (w + m) ≤ 64 * (b + q + 1) * (w + m)) (sym z) (steps b c' (c - c') (w + m)) in
    record { first = h.first; starts = h.starts; run = λ n t r. let (a, f) = h.run n t r in (omega (arith, a, bound), f); always = longer bound h.always }

-- more contractions
pub looser_normal : {P : Program} {pages w m : ℕ} {d : DataTree} {c c' k b s : ℕ} → c' ≤ c → AnfEmitted P pages w m d c' k b s → AnfEmitted P pages w m d c k b s
looser_normal le h = record { v = h.v; contractions = h.contractions; evaluates = h.evaluates; shallow = let few = h.shallow in omega arith; emitted = looser_emitted le h.emitted }

pub anf_answers_known : AnfAnswersKnown
anf_answers_known P pages w m v d c k b l pos small some form limits run is =
    let x = lift_keeps P w WNil VNil _ v d c k b l anf_data_none are_data_none run is in
    record {
      v = x.v;
      contractions = x.contractions;
      evaluates = x.answers;
      shallow = let few = x.no_more in omega (arith, few_calls x.answers);
      emitted = looser_emitted x.no_more (known_answers (lift P) pages w m x.v d x.contractions k b l pos small some (lift_forms P m form) limits x.answers x.is);
    }

pub anf_known_valid : AnfKnownValid
anf_known_valid P pages m pos small form = known_valid (lift P) pages m pos small (lift_forms P m form)
