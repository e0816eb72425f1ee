-- A `&` to a stamp is made of a borrow of it, which the part of the thread's token opens that the number names.
use mathlib.Core.List.{[], ◌∷◌}
use base.Fraction.{full_share}
use base.Fml.{fbor}
use types.Logic.{lfts}
use types.Kit.{‵, raw, later, ◌$◌, ◌∵◌, !, qed, use1, await, updating, now, done}
use types.Na.{na_bor, bor_na}
use denote.Memory.{part_at, part_of}
use denote.Hidden.{guarded_shr_laws}
use Rattle.stamps.specs.contracts.Stamp as stamp
use Rattle.stamps.proofs.Stamp.TheLaw.Statement.{statement}

pub shares : statement
unfolding part_of
shares = record {
  shr_laws = λ n b o. guarded_shr_laws (n, 0) (part_at stamp.the_written full_share n b o);
  shares = λ M 𝓤 𝓛 n κ ts b o inc sp.
      let whole = part_at stamp.the_written full_share n b o in
      qed 𝓛 (‵ (fbor κ whole) ∷ raw (lfts 𝓛 ts) ∷ []) ∵ updating ! $ use1 𝓛 (later (‵ (na_bor κ (n, 0) whole))) (bor_na 𝓛 κ (n, 0) whole) $ await ! tt $ now ! $ done !;
}
