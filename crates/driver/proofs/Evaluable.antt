-- Where an environment has an answer of `eval` by the relation of evaluation, the run of the directed rules ends with one, within the limits.
use Rattle.std.proofs.Common.{ℕ, ◌≡◌, ◌||◌, false, refl, sym, ap, ◌∙◌}
use Rattle.pc_rules.specs.declared.meter.Account.{Account}
use Rattle.calculus_rules.specs.Accepted.{IsAccepted}
use Rattle.pc_rules.specs.DirectedRun.{Run, Done, bind, deep_then}
use Rattle.pc_rules.specs.DirectedEvaluation.{Value, evaluation}
use Rattle.pc_rules.specs.DirectedFirstOrder.{Found, first_order_search}
use Rattle.pc_rules.proofs.SearchRuns.{search_is}
use Rattle.source_eval.proofs.Answered.{less, ends_with, passes_none}
use Rattle.first_order.proofs.AllRead.{data_is_read}
use Rattle.dump_reader.specs.declared.environment.RawEnv.{RawEnv}
use Rattle.driver.specs.SourceEnds.{IsRead, read_value, with_set, source_rule, source_status, SourceEndsWith}
use Rattle.driver.specs.Evaluable.{IsEvaluable}
use Rattle.driver.proofs.SourceSaying.{whole}

-- one run after another passes no limit
bind_shallow : {A B : Type 0} (d : Run A) (k : A → Account → Run B) (a : A) (u : Account) → d.end ≡ Done a u → d.deep ≡ false → (k a u).deep ≡ false → (bind d k).deep ≡ false
unfolding bind
bind_shallow d k a u e f h = ap (λ b. b || deep_then d.end (λ a u. (k a u).deep)) f ∙ ap (λ x. deep_then x (λ a u. (k a u).deep)) e ∙ h

pub evaluable_ends : (turns : ℕ) (e : RawEnv) (h : IsEvaluable turns e) → IsAccepted h.kept → SourceEndsWith turns e 0
evaluable_ends turns e h well =
    let left = less h.nodes h.units in
    let ends = ends_with h.kept well e.main h.value h.nodes h.evaluates h.units h.enough in
    let set = search_is h.kept 1024 h.type h.shapes h.left h.units h.found in
    let read = data_is_read h.kept well h.type h.shapes h.value h.tree set h.reads h.few in
    let end = whole h.kept e.main h.type h.left h.shapes h.units h.found h.value left ends ∙ ap (λ r. Done (IsRead r) left) read in
    let after = bind_shallow (evaluation h.kept e.main h.units) (read_value h.shapes) (Value h.value) left ends
    (passes_none h.kept well e.main h.value h.nodes h.evaluates h.shallow h.units h.enough) refl in
    record {
      check = h.check;
      run = source_rule h.kept e.main h.type h.left;
      of = record { kept = h.kept; type = h.type; left = h.left; accepted = h.accepted; is = refl };
      within = bind_shallow (first_order_search h.kept h.type h.left) (with_set h.kept e.main) (Found h.shapes) h.units h.found h.within after;
      status_is = sym (ap source_status end);
    }
