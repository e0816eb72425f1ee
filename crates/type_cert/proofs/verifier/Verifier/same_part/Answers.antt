use Rattle.std.proofs.Common.{rules, ◌≡◌, ◌∙◌, sym, suc, ◌-◌}
use Rattle.pc_rules.specs.Entailment.{test_of}
use Rattle.pc_rules.proofs.SameTrees.{same_is}
use Rattle.lazy_conversion.specs.Parts.{read_part}
use Rattle.type_cert.proofs.Passing.{same_script}
use Rattle.type_cert.proofs.verifier.Verifier.same_part.Goals as goal

pub returns : goal.returns
returns c =
    let v = c.args.self.now in
    let z : v.room ≡ suc (v.room - 1) = search rules in
    let f = rw (c.next_item-item.ensures.is ∙ c.requires.next) at c.next_item-item.ensures.further in
    record {
      passes = λ h V equal. same_script v.cert.now v.env.now (test_of v.env.now) V equal (read_part c.args.a) (read_part c.args.b) v.room (v.room - 1) c.args.pace.now c.next_item-item.new.pace z c.requires.next f
          (same_is (read_part c.args.a) (read_part c.args.b) (sym c.in-Ok.ensures.ok ∙ h));
    }
