-- `new` makes a stamp, for whatever number.
use Rattle.std.proofs.Common.{◌≡◌, [], ◌∷◌, refl, false}
use Rattle.std.proofs.raw_atomic.Walks.{proved, leaves}
use base.Fml.{ftrue}
use mir.Val.{vbool}
use base.Logic.{emp}
use contract.Monad.{fact, fact_i}
use types.Kit.{‵, raw, ◌$◌, ◌∵◌, !, qed, by, drop, use0, fjoin, fpack}
use types.Part.{agg}
use types.Run.{enter, false_lit, no_more, and_then, returns}
use types.ByLocal.{alloc_all, pass_all, free_all, look_at, sets}
use denote.Laws.{Typed}
use denote.Steps.{nothing}
use denote.Triple.Entry.{on_entry}
use denote.Triple.Walked.{Stays, walk_of}
use Rattle.std.proofs.cell.Inside.{round}
use Rattle.stamps.proofs.Contents.{Fields, marks}
use Rattle.stamps.specs.contracts.Stamp.new as f
use Rattle.stamps.proofs.Stamp.new.Statement.{statement}
use Rattle.stamps.proofs.Stamp.new.Code as code

abbrev stayed : Stays f.ended.signature.params f.ended.kept
stayed = tt

pub new_spec : {M : Type 1} → statement M
new_spec 𝓤 𝓛 𝓜 𝓡 wired =
    let c = f.clauses 𝓛 𝓜.mem 𝓡.returns in
    proved 𝓛 f.ended stayed c 𝓜 𝓡 tt
    f.Key.name code.function (code.unfolded 𝓤 𝓛.H 𝓜 𝓡 wired)
    (λ κs. tt) (λ κs. tt) (λ κs qs bounds a n are.
    let y : (walk_of 𝓛 f.ended stayed c).Ghost = ((κs, qs, bounds, a, tt), n) in
    qed 𝓛 (raw (on_entry 𝓛 f.signature κs qs a tt) ∷ ‵ ftrue ∷ []) ∵ drop ! $ drop ! $
    enter ! _ _ _ _ _ $ alloc_all ! (λ l. pass_all ! refl tt $
    sets ! (agg ! (and_then ! (false_lit !) (no_more !))) refl (tt, (tt, tt)) $
    returns ! (look_at ! 0 refl) $ free_all ! refl $
    use0 𝓛 (raw (fact 𝓤 (n ≡ n))) (fact_i 𝓤 (n ≡ n) (emp 𝓤) refl) $ marks ! false $
    nothing ! $ fpack ! (Typed Fields.mir (round (vbool false) ∷ [])) (λ _. ftrue) ((tt, (tt, tt)), tt) $ fjoin ! $ nothing ! $ nothing ! $
    by ! (leaves 𝓛 f.ended stayed c y (round (vbool false)) n tt tt)))
