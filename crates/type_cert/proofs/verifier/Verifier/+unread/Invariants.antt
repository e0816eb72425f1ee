use Rattle.std.proofs.Common.{◌+◌, ◌*◌, List, length, Option}
use Rattle.calculus_rules.specs.Context.{values}
use Rattle.cert_rules.specs.Walk.{WalkAct}
use Rattle.lazy_conversion.specs.Stuck.{match_of, defs_of}
use Rattle.type_cert.specs.declared.pace.Pace.{Pace}
use Rattle.type_cert.specs.Going.{going}
use Rattle.type_cert.specs.Passes.{AllPass}
use Rattle.type_cert.proofs.Passing.{terms_from, arms_from, types_from, bodies_from}
use Rattle.type_cert.proofs.verifier.Verifier.+unread.Given as goal

abbrev pub decreases-unread : goal.decreases-unread
decreases-unread l = l.self.now.room * 16

abbrev pub decreases-prefix : goal.decreases-prefix
decreases-prefix l = l.self.now.room * 16

abbrev pub decreases-unread_part : goal.decreases-unread_part
decreases-unread_part l = l.self.now.room * 16 + 1

abbrev pub decreases-unread_params : goal.decreases-unread_params
decreases-unread_params l = l.self.now.room * 16 + 2

abbrev pub decreases-unread_predicates : goal.decreases-unread_predicates
decreases-unread_predicates l = l.self.now.room * 16 + 2

abbrev pub decreases-unread_arms : goal.decreases-unread_arms
decreases-unread_arms l = l.self.now.room * 16 + 2

abbrev pub decreases-unread_types : goal.decreases-unread_types
decreases-unread_types l = l.self.now.room * 16 + 2

abbrev pub decreases-unread_bodies : goal.decreases-unread_bodies
decreases-unread_bodies l = l.self.now.room * 16 + 2

abbrev pub decreases-unread_binders : goal.decreases-unread_binders
decreases-unread_binders l = l.self.now.room * 16 + 2

abbrev pub decreases-unread_matches : goal.decreases-unread_matches
decreases-unread_matches l = l.self.now.room * 16 + 3

abbrev pub decreases-unread_heads : goal.decreases-unread_heads
decreases-unread_heads l = l.self.now.room * 16 + 4

abbrev pub decreases-applied : goal.decreases-applied
decreases-applied l = l.self.now.room * 16 + 5

abbrev pub decreases-unread_spines : goal.decreases-unread_spines
decreases-unread_spines l = l.self.now.room * 16 + 6

abbrev pub decreases-unread_values : goal.decreases-unread_values
decreases-unread_values l = l.self.now.room * 16 + 7

abbrev pub decreases-unread_parts : goal.decreases-unread_parts
decreases-unread_parts l = l.self.now.room * 16 + 8

abbrev pub decreases-unread_item : goal.decreases-unread_item
decreases-unread_item l = l.self.now.room * 16 + 9

-- where the rest passes from here, all pass from the beginning

abbrev pub invariant-unread_params-loop-i : goal.invariant-unread_params-loop-i
invariant-unread_params-loop-i l = (o : Option (List WalkAct)) (q : Pace)
    → AllPass (terms_from (going l.self) (values l.ctx) (match_of l.f).params (match_of l.g).params l.i o) l.pace q
    → AllPass (terms_from (going l.self) (values l.ctx) (match_of l.f).params (match_of l.g).params 0 o) l.fn.pace q

abbrev pub invariant-unread_arms-loop-i : goal.invariant-unread_arms-loop-i
invariant-unread_arms-loop-i l = (o : Option (List WalkAct)) (q : Pace)
    → AllPass (arms_from (going l.self) (values l.ctx) (match_of l.f).branches (match_of l.g).branches l.i o) l.pace q
    → AllPass (arms_from (going l.self) (values l.ctx) (match_of l.f).branches (match_of l.g).branches 0 o) l.fn.pace q

abbrev pub invariant-unread_types-loop-i : goal.invariant-unread_types-loop-i
invariant-unread_types-loop-i l = (o : Option (List WalkAct)) (q : Pace)
    → AllPass (types_from (going l.self) (values l.ctx) (defs_of l.f) (defs_of l.g) l.i o) l.pace q
    → AllPass (types_from (going l.self) (values l.ctx) (defs_of l.f) (defs_of l.g) 0 o) l.fn.pace q

abbrev pub invariant-unread_bodies-loop-i : goal.invariant-unread_bodies-loop-i
invariant-unread_bodies-loop-i l = (o : Option (List WalkAct)) (q : Pace)
    → AllPass (bodies_from (going l.self) (values l.ctx) (length (defs_of l.f)) (length (defs_of l.g)) (defs_of l.f) (defs_of l.g) l.i o) l.pace q
    → AllPass (bodies_from (going l.self) (values l.ctx) (length (defs_of l.f)) (length (defs_of l.g)) (defs_of l.f) (defs_of l.g) 0 o) l.fn.pace q
