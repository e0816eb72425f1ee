use Rattle.std.specs.Prelude.{replicate}
use Rattle.std.proofs.Common.{arith, ◌≡◌, ◌∙◌, sym, ap, ◌++◌, ◌∷◌, [], length, refl}
use Rattle.std.proofs.lemmas.List.{append-nil, append_assoc}
use Rattle.pc_rules.proofs.Meters.{after-refl}
use Rattle.cert_rules.specs.declared.item.CertItem.TheVariants.{Parts}
use Rattle.cert_rules.specs.MakingTyping.{part_items}
use Rattle.script_making.proofs.Making.{makes_noted, makes_unwritten, makes_passed}
use Rattle.script_making.proofs.Items.{as_many_parts, one_more_part}
use Rattle.script_making.proofs.spines.put_parts.Goals as goal

pub loop-init : goal.loop-init
loop-init c = record { written = sym (append-nil c.args.draft.now.written.items); meter = refl }

pub loop-preserved : goal.loop-preserved
loop-preserved c = record {
  written = c.in_ok-put.ensures.written ∙ ap (λ xs. xs ++ Parts ∷ []) c.loop.invariant.written ∙ append_assoc c.args.draft.now.written.items (replicate c.loop.counter Parts) (Parts ∷ [])
      ∙ ap (λ xs. c.args.draft.now.written.items ++ xs) (one_more_part c.loop.counter);
  meter = c.in_ok-put.ensures.meter ∙ c.loop.invariant.meter;
}

pub returns : goal.returns
returns c = record {
  makes = λ xs e.
      (let n : c.loop.counter ≡ length xs = grind arith in
      makes_noted (part_items xs) c.args.draft.now c.loop.draft c.loop.invariant.meter
      (c.loop.invariant.written ∙ ap (λ k. c.args.draft.now.written.items ++ replicate k Parts) n ∙ ap (λ is. c.args.draft.now.written.items ++ is) (sym (as_many_parts xs))));
}

pub returns-in_err-put : goal.returns-in_err-put
returns-in_err-put c = record {
  makes = λ xs e. makes_passed c.from_residual.ensures.1
      (makes_unwritten _ _ c.args.draft.now c.args.draft.now c.put.new.self c.in_err-put.ensures.only_memory (after-refl c.args.draft.now.meter) (c.in_err-put.ensures.meter ∙ c.loop.invariant.meter));
}
