-- What a stamp owns, and what a `&` to it holds.
use Rattle.std.specs.Prelude.{ℕ, List}
use mir.Val.{Val}
use base.Fraction.{full_share}
use base.Fml.{Lft, Fml, ffalse, fsep, fex}
use denote.RattleType.{RattleType}
use denote.Memory.{cell_at}
use denote.RawPtr.{Ptr, block_ptr, null_ptr}
use denote.Sharing.{said}
use denote.Hidden.{guarded}

module _ (F : RattleType) where
  -- the fields in memory, whatever they are
  abbrev pub some_fields_at : ℕ → ℕ → Fml
  some_fields_at b o = fex (List Val) (λ vs. fsep (cell_at full_share F.mir vs b o) (fex F.Denot (λ i. F.own_val i vs)))

  -- the fields of a stamp for n are reached with the part of the thread's token that n names, wherever they lie
  abbrev pub stamp_shares : ℕ → Ptr → Lft → Fml
  stamp_shares n (block_ptr b o) = guarded (n, 0) (some_fields_at b o)
  stamp_shares n null_ptr = said ffalse
