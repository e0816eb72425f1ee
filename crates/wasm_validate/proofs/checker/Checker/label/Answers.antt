use Rattle.std.proofs.Common.{◌∙◌, sym, ap, arith}
use Rattle.std.specs.Prelude.{slice_get}
use Rattle.std.specs.Option.{option_to_list}
use Rattle.wasm_core.specs.Pass.{Place, labels_of}
use Rattle.wasm_validate.proofs.Labels.{label_block, label_own, label_none}
use Rattle.wasm_validate.proofs.checker.Checker.label.Goals as goal

pub returns-then-index-count : goal.returns-then-index-count
returns-then-index-count c = record {
  is = ap (λ (p : Place). slice_get (labels_of (option_to_list c.args.own) p.ctls) c.args.index) (sym c.self.view_is)
      ∙ label_block (option_to_list c.args.own) c.self.inside.controls.items c.args.index c.len-count.result c.index.result.now (c.len-count.ensures ∙ c.self.inside.controls.ok.0) c.if-index-count.true c.index.ensures;
}

pub returns-then-index-count-2 : goal.returns-then-index-count-2
returns-then-index-count-2 c = record {
  is = ap (λ (p : Place). slice_get (labels_of (option_to_list c.args.own) p.ctls) c.args.index) (sym c.self.view_is)
      ∙ label_own (option_to_list c.args.own) c.self.inside.controls.items c.args.index (c.if-index-count-2.true ∙ c.len-count.ensures ∙ c.self.inside.controls.ok.0);
}

pub returns-else-index-count-2 : goal.returns-else-index-count-2
returns-else-index-count-2 c =
    let n = c.len-count.ensures ∙ c.self.inside.controls.ok.0 in
    record {
      is = ap (λ (p : Place). slice_get (labels_of (option_to_list c.args.own) p.ctls) c.args.index) (sym c.self.view_is)
          ∙ label_none (option_to_list c.args.own) c.self.inside.controls.items c.args.index (omega (arith, n));
    }
