use Rattle.std.proofs.Common.{◌∙◌, refl}
use Rattle.reduce_machine.proofs.Bodies.{plain_read}
use Rattle.type_cert.proofs.verifier.Verifier.passes.Goals as goal

pub returns-then-unread : goal.returns-then-unread
returns-then-unread c =
    let x = plain_read c.plain-x.result c.in-Ok.left c.plain-x.ensures.term c.plain-x.ensures.items ∙ c.in-Ok.ensures.ok in
    let y = plain_read c.plain-y.result c.in-Ok-share.right c.plain-y.ensures.term c.plain-y.ensures.items ∙ c.in-Ok-share.ensures.ok in
    record { passes = rw (x, y) at c.if-unread.ensures.passes refl }
