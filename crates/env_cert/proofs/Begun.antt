-- The walk before the declarations: it is refused at the first item, or comes to the declarations.
use Rattle.std.proofs.Common.{◌≡◌, ◌∙◌, ℕ, ◌-◌, sym, ap, subst, List, [], length, Option, Some, None, Result, Ok, Err}
use Rattle.universe_levels.specs.declared.level.Level.{Level}
use Rattle.universe_graph.specs.Listed.{Clashes}
use Rattle.pc_terms.specs.Syntax.{Term}
use Rattle.dump_reader.specs.declared.environment.RawEnv.{RawEnv}
use Rattle.calculus_rules.specs.Environment.{Env}
use Rattle.pc_rules.specs.declared.stop.Stop.TheVariants as stops
use Rattle.pc_rules.specs.DirectedDeclarations.{first_repeated, first_undeclared_end}
use Rattle.pc_rules.specs.DirectedRun.{most_nested}
use Rattle.pc_rules.proofs.WeakNext.{none_some}
use Rattle.env_check.specs.declared.refusal.BareRefusal.{BareRefusal}
use Rattle.env_check.specs.declared.refusal.BareRefusal.TheVariants as refusals
use Rattle.env_check.specs.Places.{bare}
use Rattle.env_check.specs.Rules.{givens, IsFound}
use Rattle.env_check.specs.Beginning.{HasSoundLevels, Refuses, level_refusal, end_refusal, RefusesGraph, IsRefusedFirst, at_levels, at_constraints, at_graph}
use Rattle.cert_rules.specs.Walk.{Items, WalkState, Walk, bar_here}
use Rattle.cert_rules.specs.WalkDeclarations.{walk_unless}
use Rattle.type_cert.specs.declared.halt.WalkHalt.{WalkHalt}
use Rattle.type_cert.specs.declared.halt.WalkHalt.TheVariants as walks
use Rattle.type_cert.specs.declared.trail.Trail.{Trail}
use Rattle.type_cert.specs.Retraces.{stand, Retraces}
use Rattle.type_cert.proofs.Retracing.{retraces_bar}
use Rattle.env_cert.specs.Verified.{walk_from, WalksFound, WalksAlong}
use Rattle.env_cert.specs.EnvWalks.{declarations_walk}
use Rattle.env_cert.specs.Beginning.{first_halt, HaltsFirst}
use Rattle.cert_rules.proofs.TraceEnvironments.{unless_none}

unless_some : {A : Type 0} (o : Option A) (a : A) (go : Walk (Env × Term)) (s : WalkState) → o ≡ Some a → walk_unless o go s ≡ bar_here s
unless_some o a go s e = ap (λ x. walk_unless x go s) e

module _ (raw : RawEnv) where
  pub along_found : (cert : Items) (r : Result (Env × Term) WalkHalt) (old new : Trail) → WalksFound raw cert (most_nested - old.meter.nest) r old new → WalksAlong raw cert r old new
  along_found cert (Ok p) old new h = h
  along_found cert (Err (walks.Stop stops.Spent)) old new h = h
  along_found cert (Err (walks.Stop stops.TooDeep)) old new h = h
  along_found cert (Err (walks.Stop stops.Memory)) old new h = tt
  along_found cert (Err (walks.Barred i)) old new h = h

  -- refused before the declarations
  refused : (cert : Items) (cycle : Option (List ℕ)) (i : ℕ) (t : Trail) → t.at ≡ i → IsFound raw cycle →
      walk_from cert raw cycle (most_nested - t.meter.nest) (stand t) ≡ bar_here (stand t) → WalksAlong raw cert (Err (walks.Barred i)) t t
  refused cert cycle i t at found e = record {
    cycle = cycle;
    found = found;
    retraces = subst (λ j. Retraces (walk_from cert raw cycle (most_nested - t.meter.nest) (stand t)) (Err (walks.Barred j)) t t) at
        (subst (λ w. Retraces w (Err (walks.Barred t.at)) t t) (sym e) (retraces_bar t.at t));
  }

  -- levels

  level_barred : (i : ℕ) (a : ℕ × Level) → first_repeated 0 [] raw.levels ≡ Some a → HaltsFirst raw i (walks.Barred i)
  level_barred i a there cert t at =
      refused cert None i t at (λ once. absurd (none_some (sym once ∙ there))) (unless_some (first_repeated 0 [] raw.levels) a _ (stand t) there)

  levels_refused : (i : ℕ) (e : BareRefusal) → Refuses (first_repeated 0 [] raw.levels) level_refusal e → HaltsFirst raw i (first_halt i e)
  levels_refused i (refusals.Broken p b) h = level_barred i h.0 h.1
  levels_refused i refusals.Memory h = λ cert t at. tt

  module _ (once : first_repeated 0 [] raw.levels ≡ None) where
    -- constraints

    end_barred : (i : ℕ) (a : ℕ × Level) → first_undeclared_end (length raw.levels) 0 raw.constraints ≡ Some a → HaltsFirst raw i (walks.Barred i)
    end_barred i a there cert t at =
        refused cert None i t at (λ _ declared. absurd (none_some (sym declared ∙ there)))
        (unless_none (first_repeated 0 [] raw.levels) _ (stand t) once ∙ unless_some (first_undeclared_end (length raw.levels) 0 raw.constraints) a _ (stand t) there)

    constraints_refused : (i : ℕ) (e : BareRefusal) → Refuses (first_undeclared_end (length raw.levels) 0 raw.constraints) end_refusal e → HaltsFirst raw i (first_halt i e)
    constraints_refused i (refusals.Broken p b) h = end_barred i h.0 h.1
    constraints_refused i refusals.Memory h = λ cert t at. tt

    module _ (declared : first_undeclared_end (length raw.levels) 0 raw.constraints ≡ None) where
      -- the graph

      cycle_barred : (i : ℕ) (places : List ℕ) → Clashes (length raw.levels) raw.constraints places → HaltsFirst raw i (walks.Barred i)
      cycle_barred i places clash cert t at =
          refused cert (Some places) i t at (λ _ _. clash)
          (unless_none (first_repeated 0 [] raw.levels) _ (stand t) once ∙ unless_none (first_undeclared_end (length raw.levels) 0 raw.constraints) _ (stand t) declared)

      graph_refused : (i : ℕ) (e : BareRefusal) → RefusesGraph (length raw.levels) raw.constraints e → HaltsFirst raw i (first_halt i e)
      graph_refused i (refusals.Broken p b) h = cycle_barred i h.0 h.1
      graph_refused i refusals.Memory h = λ cert t at. tt

  pub halts_first : (i : ℕ) (e : BareRefusal) → IsRefusedFirst raw e → HaltsFirst raw i (first_halt i e)
  halts_first i e (at_levels h) = levels_refused i e h
  halts_first i e (at_constraints once h) = constraints_refused once i e h
  halts_first i e (at_graph once declared h) = graph_refused once declared i e h

  -- it comes to the declarations, over an environment that keeps nothing
  pub comes_to_declarations : HasSoundLevels raw → (cert : Items) (n : ℕ) (s : WalkState) → walk_from cert raw None n s ≡ declarations_walk cert n (bare raw) (givens raw) raw.main s
  comes_to_declarations h cert n s =
      unless_none (first_repeated 0 [] raw.levels) _ s h.once ∙ unless_none (first_undeclared_end (length raw.levels) 0 raw.constraints) _ s h.declared
