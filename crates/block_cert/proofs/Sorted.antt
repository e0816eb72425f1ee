-- The sorts to which the walk comes speak of declared levels.
use Rattle.std.proofs.Common.{ℕ, Result, Ok, Err, IfOk}
use Rattle.universe_levels.specs.declared.sort.Sort.{Sort}
use Rattle.universe_levels.specs.Consistency.{IsSortOver}
use Rattle.pc_terms.specs.Syntax.{Term}
use Rattle.pc_terms.specs.Formed.{IsFormed}
use Rattle.calculus_rules.specs.Environment.{Env}
use Rattle.calculus_rules.specs.Context.{Context}
use Rattle.pc_rules.specs.Entailment.{test_of}
use Rattle.type_infer.specs.Ready.{IsReady}
use Rattle.type_infer.proofs.Beginning.{decides}
use Rattle.cert_rules.specs.Walk.{Items}
use Rattle.cert_rules.specs.WalkTyping.{walk_infer, walk_sort_of}
use Rattle.cert_rules.proofs.SoundSimple.{sort_sound}
use Rattle.cert_rules.proofs.SoundTyping.{infer_sound}
use Rattle.type_cert.specs.declared.halt.WalkHalt.{WalkHalt}
use Rattle.type_cert.specs.declared.trail.Trail.{Trail}
use Rattle.type_cert.specs.Retraces.{stand, Retraces}

pub sort_over : (cert : Items) (E : Env) (c : Context) (t : Term) → IsReady E c → IsFormed t → (n : ℕ) (r : Result Sort WalkHalt) (t0 t1 : Trail) →
    Retraces (walk_sort_of cert E (walk_infer cert E (test_of E) n) c t (stand t0)) r t0 t1 → IfOk r (λ s. IsSortOver E.levels s)
sort_over cert E c t h f n (Ok s) t0 t1 p =
    (sort_sound cert E h.env.declarations (walk_infer cert E (test_of E) n) (infer_sound cert E h.env.declarations (test_of E) (decides E c h) n) c t s (stand t0) (stand t1) h.context f p.answer).2
sort_over cert E c t h f n (Err x) t0 t1 p = tt
