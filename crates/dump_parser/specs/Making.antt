-- A term is made within the limit of depth.
use Rattle.std.specs.Prelude.{◌≡◌, ℕ, Some, None, Result, Ok, Err}
use Rattle.dump_grammar.specs.declared.refusal.Limit.TheVariants as limits
use Rattle.dump_grammar.specs.declared.refusal.ReadRefusal.{ReadRefusal}
use Rattle.dump_grammar.specs.declared.refusal.ReadRefusal.TheVariants as refusals
use Rattle.dump_grammar.specs.Named.{Named}
use Rattle.dump_grammar.specs.Limits.{depth_over}

-- The term is the one asked for; or it passes the limit, which is refused at the offset.
abbrev pub Makes : Result Named ReadRefusal → Named → (offset : ℕ) → Type 0
Makes (Ok t) n o = (t ≡ n) × (depth_over n ≡ None)
Makes (Err refusals.Memory) n o = Unit {0}
Makes (Err e) n o = (e ≡ refusals.Limit limits.Depth o) × (depth_over n ≡ Some limits.Depth)
