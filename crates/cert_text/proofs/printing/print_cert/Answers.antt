use Rattle.std.proofs.Common.{[]}
use Rattle.dump_printer.proofs.Finished.{start_of, begun, all-out, part-out, cause-of-fault, cause-of-end}
use Rattle.cert_text.specs.CertText.{cert_tokens}
use Rattle.cert_text.proofs.PrintedTokens.{printed_read}
use Rattle.cert_text.proofs.printing.print_cert.Goals as goal

pub returns-then-at-clause-part : goal.returns-then-at-clause-part
returns-then-at-clause-part g c = let ts = cert_tokens c.args.cert.now in part-out _ _ _ _ (c.write_cert.ensures.goes (start_of (g.K.Sink.taken c.args.out.now) (g.K.Sink.faults c.args.out.now) ts) [] (begun _ _ ts))

pub returns-then-at-clause-tells : goal.returns-then-at-clause-tells
returns-then-at-clause-tells g c = let ts = cert_tokens c.args.cert.now in (c.write_cert.ensures.goes (start_of (g.K.Sink.taken c.args.out.now) (g.K.Sink.faults c.args.out.now) ts) [] (begun _ _ ts)).ahead.tells

pub returns-then-at-clause-cause : goal.returns-then-at-clause-cause
returns-then-at-clause-cause g c = let ts = cert_tokens c.args.cert.now in cause-of-fault _ _ _ _ _ (c.write_cert.ensures.goes (start_of (g.K.Sink.taken c.args.out.now) (g.K.Sink.faults c.args.out.now) ts) [] (begun _ _ ts)) c.if-at.true

pub returns-then-at-clause-read_back : goal.returns-then-at-clause-read_back
returns-then-at-clause-read_back g c = printed_read c.args.cert.now c.write_cert.ensures.small

pub returns-else-at-clause-all : goal.returns-else-at-clause-all
returns-else-at-clause-all g c = let ts = cert_tokens c.args.cert.now in all-out _ _ _ _ (c.write_cert.ensures.goes (start_of (g.K.Sink.taken c.args.out.now) (g.K.Sink.faults c.args.out.now) ts) [] (begun _ _ ts)) c.if-at.false

pub returns-else-at-clause-tells : goal.returns-else-at-clause-tells
returns-else-at-clause-tells g c = let ts = cert_tokens c.args.cert.now in (c.write_cert.ensures.goes (start_of (g.K.Sink.taken c.args.out.now) (g.K.Sink.faults c.args.out.now) ts) [] (begun _ _ ts)).ahead.tells

pub returns-else-at-clause-cause : goal.returns-else-at-clause-cause
returns-else-at-clause-cause g c = let ts = cert_tokens c.args.cert.now in cause-of-end _ _ _ _ (c.write_cert.ensures.goes (start_of (g.K.Sink.taken c.args.out.now) (g.K.Sink.faults c.args.out.now) ts) [] (begun _ _ ts))

pub returns-else-at-clause-read_back : goal.returns-else-at-clause-read_back
returns-else-at-clause-read_back g c = printed_read c.args.cert.now c.write_cert.ensures.small
