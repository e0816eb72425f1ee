-- The parts of a block's walk one after the other, and that a block to which it comes fits.
use Rattle.std.proofs.Common.{◌≡◌, subst, Bool, true, false, [], Result, Ok, Err, IfOk}
use Rattle.calculus_rules.specs.declared.declaration.Block.{Block}
use Rattle.calculus_rules.specs.Environment.{Env}
use Rattle.pc_rules.specs.Lookup.{IsNew}
use Rattle.pc_rules.specs.DirectedPositivity.{block_positive}
use Rattle.pc_rules.specs.Entailment.{test_of}
use Rattle.rule_laws.specs.Declarations.{BlockFormed, IsCheckedBlock}
use Rattle.rule_laws.proofs.Extending.{fresh_is}
use Rattle.type_infer.specs.Ready.{IsReady}
use Rattle.type_infer.proofs.Beginning.{decides}
use Rattle.cert_rules.specs.Walk.{WalkState, Walk, walk_on, by_rules}
use Rattle.cert_rules.specs.WalkDeclarations.{walk_positive}
use Rattle.cert_rules.proofs.SoundBlocks.{block_sound}
use Rattle.type_cert.specs.declared.halt.WalkHalt.{WalkHalt}
use Rattle.type_cert.specs.declared.halt.WalkHalt.TheVariants as walks
use Rattle.type_cert.specs.declared.trail.Trail.{Trail}
use Rattle.type_cert.specs.declared.verifier.Verifier.{Verifier}
use Rattle.type_cert.specs.Retraces.{stand, Retraces}
use Rattle.type_cert.proofs.Retracing.{retraces_on, retraces_err, retraces_pass, retraces_bar, walk_assoc}
use Rattle.block_cert.specs.BlockWalks.{positivity_walk, block_walk}

-- positivity holds, or it does not

pub is_positive : (b : Bool) (t : Trail) → b ≡ true → Retraces (walk_positive b (stand t)) (Ok tt) t t
is_positive true t e = retraces_pass tt t
is_positive false t e = absurd (cc)

pub not_positive : (b : Bool) (t : Trail) → b ≡ false → Retraces (walk_positive b (stand t)) (Err (walks.Barred t.at)) t t
not_positive true t e = absurd (cc)
not_positive false t e = retraces_bar t.at t

-- positivity, and then the rest
module _ {A : Type 0} (H : Env) (B : Block) (k : WalkState → Walk A) where
  abbrev pub after_positivity : WalkState → Walk A
  after_positivity s = walk_on (by_rules (block_positive H B) s) (λ positive x. walk_on (walk_positive positive x) (λ _ y. k y))

  grouped : (s : WalkState) → walk_on (positivity_walk H B s) (λ _ y. k y) ≡ after_positivity s
  grouped s = walk_assoc (λ positive x. walk_positive positive x) (λ _ y. k y) (by_rules (block_positive H B) s)

  pub positivity_then : {r : Result A WalkHalt} {t0 t1 t2 : Trail} → Retraces (positivity_walk H B (stand t0)) (Ok tt) t0 t1 → Retraces (k (stand t1)) r t1 t2 →
      Retraces (after_positivity (stand t0)) r t0 t2
  positivity_then {r = r} {t0 = t0} {t2 = t2} p q = subst (λ d. Retraces d r t0 t2) (grouped (stand t0)) (retraces_on (λ _ y. k y) p q)

  pub positivity_halts : {h : WalkHalt} {t0 t1 : Trail} → Retraces (positivity_walk H B (stand t0)) (Err h) t0 t1 → Retraces (after_positivity (stand t0)) (Err h) t0 t1
  positivity_halts {h = h} {t0 = t0} {t1 = t1} p = subst (λ d. Retraces d (Err h) t0 t1) (grouped (stand t0)) (retraces_err (λ _ y. k y) p)

-- a block to which the walk comes fits
pub block_fits : (v : Verifier) → IsReady v.env.now [] → (B : Block) → IsNew v.env.now B.name → (r : Result Block WalkHalt) (t0 t1 : Trail) → IfOk r (λ _. BlockFormed B) →
    Retraces (block_walk v B (stand t0)) r t0 t1 → IfOk r (λ D. IsCheckedBlock v.env.now B D)
block_fits v h B new (Ok D) t0 t1 formed p =
    block_sound v.cert.now v.env.now (test_of v.env.now) (decides v.env.now [] h) h.env.declarations v.room B D (stand t0) (stand t1) (fresh_is v.env.now.declarations B.name new) formed p.answer
block_fits v h B new (Err x) t0 t1 formed p = tt
