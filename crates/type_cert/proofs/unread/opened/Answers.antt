use Rattle.std.proofs.Common.{◌≡◌, ◌∙◌, sym, ap, IfOk, subst as along}
use Rattle.trees.specs.Substitution.{walk}
use Rattle.reduce_machine.specs.Reads.{read, stands_under}
use Rattle.reduce_machine.proofs.Bodies.{plain_read}
use Rattle.reduce_machine.proofs.Standing.{walk_read}
use Rattle.type_cert.proofs.unread.opened.Goals as goal

pub returns-then-p-eq0 : goal.returns-then-p-eq0
returns-then-p-eq0 c = record {
  ok = along (λ t. IfOk c.part.result (λ l. read l ≡ t))
      (sym (walk_read c.args.p.env.now.items c.args.p.term.now) ∙ ap (λ k. walk (stands_under c.args.p.env.now.items) k c.args.p.term.now) (sym c.if-p-eq0.true)) c.part.ensures.ok;
}

pub returns : goal.returns
returns c = record { ok = plain_read c.plain.result c.in_ok-term.term c.plain.ensures.term c.plain.ensures.items ∙ c.in_ok-term.ensures.ok }
