use Rattle.std.proofs.Common.{◌≡◌, ℕ, ◌==◌, ◌<◌, Bool, true, false, map, cond, get_or, refl, ap, ◌∙◌, arith}
use Rattle.std.proofs.lemmas.List.FromFn.{get_or-map-range_with_len}
use Rattle.std.specs.List.{range_with_len}
use Rattle.sexp_reader.specs.Lex.{is_atom_byte}
use Rattle.sexp_reader.specs.declared.TheConstants.{ATOM_BYTES}
use Rattle.sexp_reader.proofs.is_atom_byte.Goals as goal

abbrev mark : ℕ → ℕ
mark b = cond (is_atom_byte b) 49 48

-- the table has the mark of each byte
table_is : ATOM_BYTES ≡ map mark (range_with_len 0 256)
table_is = refl

marked : (t : Bool) → (cond t 49 48 == 49) ≡ t
marked true = refl
marked false = refl

read : (b : ℕ) → b < 256 → (get_or ATOM_BYTES b 0 == 49) ≡ is_atom_byte b
read b h =
    ap (λ (n : ℕ). n == 49) (ap (λ t. get_or t b 0) table_is ∙ get_or-map-range_with_len mark 0 256 b b 0 h (omega arith))
    ∙ marked (is_atom_byte b)

pub returns : goal.returns
returns c = record { atom = read c.args.b (omega arith) }
