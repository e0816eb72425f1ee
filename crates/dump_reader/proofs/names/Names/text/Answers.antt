use Rattle.std.proofs.Common.{rules, ◌≡◌, ◌<◌, ◌≤◌, ℕ, length, None, Some, slice_get, sym, subst, ap, ◌∙◌, refl}
use Rattle.std.specs.Prelude.{String, string_bytes}
use Rattle.std.specs.Option.{option_map}
use Rattle.std.proofs.lemmas.Option.{slice_get-map, slice_get_read, slice_get_past}
use Rattle.dump_reader.proofs.Tables.{stands-once, past-table}
use Rattle.dump_reader.proofs.names.Names.text.Goals as goal

pub returns-in-Some-clause-one : goal.returns-in-Some-clause-one
returns-in-Some-clause-one c =
    let found : slice_get c.as_slice.result.now c.args.n ≡ Some c.in-Some.text.now = slice_get_read c.as_slice.result.now (length c.as_slice.result.now) c.args.n c.in-Some.text.now refl c.in-Some.ensures.lookup.3.0 c.in-Some.ensures.lookup.1 in
    stands-once c.self.inside.texts.keys c.args.self.now (search rules) c.args.n c.in-Some.text.now c.as_str.result.now c.as_slice.ensures.unique (search rules)
    (ap (λ ks. slice_get ks c.args.n) (sym c.as_slice.ensures.keys) ∙ found)

pub returns-in-None-clause-bytes : goal.returns-in-None-clause-bytes
returns-in-None-clause-bytes c = past-table c.as_slice.result.now c.args.self.now (search rules) c.args.n c.in-None.ensures.lookup.3
