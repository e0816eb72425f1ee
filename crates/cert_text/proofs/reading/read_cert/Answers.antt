use Rattle.std.proofs.Common.{rules, ◌≡◌, ◌∙◌, sym, ap, length, Err}
use Rattle.sexp_reader.specs.Lex.{left}
use Rattle.cert_text.specs.CertReading.{Read}
use Rattle.cert_text.proofs.ReadTokens.{certificate_read}
use Rattle.cert_text.proofs.Taking.{refuses_along}
use Rattle.cert_text.proofs.Gathering.{refused, behind_open, behind_word, behind_version}
use Rattle.cert_text.proofs.reading.read_cert.Goals as goal

pub returns-in_err-head-clause-exact : goal.returns-in_err-head-clause-exact
returns-in_err-head-clause-exact c =
    let q : c.from_residual.result ≡ Err c.in_err-head.field-0.0 = search rules in
    rw q (refused _ c.in_err-head.field-0.0 (c.in_err-head.ensures.expects (behind_open (length c.args.bytes.now))))

pub returns-in_err-version-clause-exact : goal.returns-in_err-version-clause-exact
returns-in_err-version-clause-exact c =
    let n = length c.args.bytes.now in
    let q : c.from_residual-in_err-version.result ≡ Err c.in_err-version.field-0.0 = search rules in
    rw q (refused _ c.in_err-version.field-0.0
    (refuses_along c.in_err-version.field-0.0 (c.in_ok-head.ensures.expects (behind_open n)) (c.in_err-version.ensures.expects (behind_word n))))

pub returns-in_err-start-clause-exact : goal.returns-in_err-start-clause-exact
returns-in_err-start-clause-exact c =
    let n = length c.args.bytes.now in
    let q : c.from_residual-in_err-start.result ≡ Err c.in_err-start.field-0.0 = search rules in
    rw q (refused _ c.in_err-start.field-0.0
    (refuses_along c.in_err-start.field-0.0 (c.in_ok-head.ensures.expects (behind_open n) ∙ c.in_ok-version.ensures.expects (behind_word n))
    (c.in_err-start.ensures.expects (behind_version n))))

pub returns-clause-spells : goal.returns-clause-spells
returns-clause-spells c =
    let n = length c.args.bytes.now in
    certificate_read n (left c.args.from c.args.bytes.now) c.of.result
    (c.in_ok-head.ensures.expects (behind_open n) ∙ c.in_ok-version.ensures.expects (behind_word n) ∙ c.in_ok-start.ensures.expects (behind_version n)
    ∙ c.in_ok-items.ensures.answers ∙ ap Read (sym c.of.ensures.is))
