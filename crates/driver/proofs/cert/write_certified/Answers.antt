use Rattle.std.proofs.Common.{[], ◌∷◌, ◌++◌}
use Rattle.std.proofs.lemmas.Result.{on_ok_weaker}
use Rattle.cert_text.specs.CertText.{AreSmall, cert_text}
use Rattle.dump_printer.specs.Canonical.{canonical_text}
use Rattle.driver.proofs.cert.write_certified.Goals as goal
use Rattle.module_run.proofs.CallEnding.{told_anyway}
use Rattle.dump_printer.proofs.Written.{appends_both}

pub returns : goal.returns
returns g c =
    let text = cert_text c.args.certificate.now in
    let rest = 10 ∷ (text ++ 10 ∷ []) in
    record {
      all = on_ok_weaker c.write_all-2.result
          (λ h. appends_both _ _ _ (canonical_text c.args.raw.now) rest c.in_ok-print_env.ensures.all
          (appends_both _ _ _ (10 ∷ []) (text ++ 10 ∷ []) c.in_ok-write_all.ensures.all (appends_both _ _ _ text (10 ∷ []) c.in_ok-print_cert.ensures.all h))) c.write_all-2.ensures.all;
      small = told_anyway {P = AreSmall c.args.certificate.now} c.write_all-2.result c.in_ok-print_cert.ensures.small;
    }
