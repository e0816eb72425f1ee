use Rattle.std.proofs.Common.{sym, ap, ◌∙◌}
use Rattle.std.specs.Prelude.{bytes_eq}
use Rattle.dump_reader.proofs.Tables.{seen-there}
use Rattle.dump_reader.proofs.names.Names.is_text_of.Goals as goal

pub returns-in-Some-clause-there : goal.returns-in-Some-clause-there
returns-in-Some-clause-there c seen =
    seen-there c.in-Some.kept.now c.args.text.now c.args.self.now c.args.n
    (ap (λ a. bytes_eq a c.args.text.now) (sym c.as_bytes.ensures.value) ∙ sym c.same_bytes.ensures.same ∙ seen) c.in-Some.ensures.bytes
