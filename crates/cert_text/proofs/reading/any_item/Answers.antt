use Rattle.std.proofs.Common.{◌≡◌, ◌∙◌, Err, ap, refl, rules}
use Rattle.std.specs.Prelude.{slice_range}
use Rattle.sexp_reader.specs.Text.{Open, Stray}
use Rattle.cert_text.specs.Scanned.{text_of_kind}
use Rattle.cert_text.specs.CertReading.{AnItem}
use Rattle.cert_text.proofs.Taking.{refuses_along, items_at, items_none, no_item_here, close_takes}
use Rattle.cert_text.proofs.reading.any_item.Goals as goal

pub returns-in_err-taken-in-Atom-clause-takes : goal.returns-in_err-taken-in-Atom-clause-takes
returns-in_err-taken-in-Atom-clause-takes c =
    let q : c.from_residual.result ≡ Err c.in_err-taken-in-Atom.field-0.0 = search rules in
    rw q
    (refuses_along c.in_err-taken-in-Atom.field-0.0 (items_at c.args.bytes.now AnItem c.args.at c.in-Some.token c.in-Some.ensures.next) c.in_err-taken-in-Atom.ensures.takes)

pub returns-in_ok-taken-in-Atom-clause-takes : goal.returns-in_ok-taken-in-Atom-clause-takes
returns-in_ok-taken-in-Atom-clause-takes c =
    items_at c.args.bytes.now AnItem c.args.at c.in-Some.token c.in-Some.ensures.next ∙ c.in_ok-taken-in-Atom.ensures.takes

pub returns-in-Close-clause-takes : goal.returns-in-Close-clause-takes
returns-in-Close-clause-takes c = close_takes c.args.bytes.now c.args.at c.in-Some.token c.in-Some.ensures.next c.in-Close.is c.end.result c.end.ensures.ends

pub returns-in-Open-clause-takes : goal.returns-in-Open-clause-takes
returns-in-Open-clause-takes c =
    no_item_here c.args.bytes.now c.args.at c.in-Some.token c.in-Some.ensures.next Open
    (ap (λ x. text_of_kind x (slice_range c.args.bytes.now c.in-Some.token.start c.in-Some.token.end)) c.in-Open.is) refl

pub returns-in-Stray-clause-takes : goal.returns-in-Stray-clause-takes
returns-in-Stray-clause-takes c =
    no_item_here c.args.bytes.now c.args.at c.in-Some.token c.in-Some.ensures.next Stray
    (ap (λ x. text_of_kind x (slice_range c.args.bytes.now c.in-Some.token.start c.in-Some.token.end)) c.in-Stray.is) refl

pub returns-in-None-clause-takes : goal.returns-in-None-clause-takes
returns-in-None-clause-takes c = items_none c.args.bytes.now AnItem c.args.at c.in-None.ensures.next
