-- The sorts that are made speak of declared levels.
use Rattle.std.proofs.Common.{ℕ, [], Result, Ok, Err, IfOk}
use Rattle.universe_levels.specs.declared.sort.Sort.{Sort}
use Rattle.universe_levels.specs.Consistency.{IsSortOver}
use Rattle.pc_terms.specs.Syntax.{Term}
use Rattle.pc_terms.specs.Formed.{IsFormed}
use Rattle.calculus_rules.specs.Environment.{Env}
use Rattle.calculus_rules.specs.Context.{Context}
use Rattle.pc_rules.specs.declared.stop.Halt.{Halt}
use Rattle.pc_rules.specs.Entailment.{test_of}
use Rattle.pc_rules.specs.DirectedTyping.{infer, sort_of}
use Rattle.rule_laws.proofs.SimpleRules.{sort_sound}
use Rattle.rule_laws.proofs.Inferring.{infer_sound}
use Rattle.type_infer.specs.Ready.{IsReady}
use Rattle.type_infer.proofs.Beginning.{decides}
use Rattle.cert_rules.specs.WalkTyping.{walk_infer}
use Rattle.cert_rules.proofs.TraceSorts.{sort_trace}
use Rattle.cert_rules.proofs.TraceRules.{infer_trace}
use Rattle.script_making.specs.declared.draft.Draft.{Draft}
use Rattle.script_making.specs.Makes.{Makes}
use Rattle.script_making.proofs.Making.{made_follows}
use Rattle.type_making.specs.Making.{infer_making, sort_making}

pub sort_over : (E : Env) (c : Context) (t : Term) → IsReady E c → IsFormed t → (n : ℕ) (r : Result Sort Halt) (t0 t1 : Draft) → Makes (sort_making E n c t t0.meter.account) r t0 t1 →
    IfOk r (λ s. IsSortOver E.levels s)
sort_over E c t h f n (Ok s) t0 t1 p =
    let w = h.env.declarations in
    let q = decides E c h in
    let ti = infer_trace [] E w (test_of E) q n 0 in
    let g = (sort_trace [] E w (infer E (test_of E) n) (infer_making E n) (walk_infer [] E (test_of E) 0) ti c t h.context f).forgets t0.meter.account in
    let e = made_follows _ (sort_of E (infer E (test_of E) n) c t t0.meter.account) s g p in
    (sort_sound E w (infer E (test_of E) n) (infer_sound E w (test_of E) q n) c t s t0.meter.account t1.meter.account h.context f e.answer).2
sort_over E c t h f n (Err x) t0 t1 p = tt
