use Rattle.std.proofs.Common.{◌≡◌, ◌∙◌, sym, arith, get_or, true, false}
use Rattle.std.proofs.lemmas.Bool.{false≢true}
use Rattle.std.proofs.lemmas.List.{get_or_read}
use Rattle.mem_value.proofs.Searching.{search_skips, search_goes}
use Rattle.mem_value.proofs.blocks.pass.Goals as goal

pub returns-then-not-index : goal.returns-then-not-index
returns-then-not-index c =
    let ms = c.args.marks.now.items in let p = c.args.place in
    let e = get_or_read ms p c.index.result.now (omega arith) c.index.ensures false in
    record {
      goes = λ top below is _ s. search_skips c.args.memory.now top p below ms s is (λ here. false≢true (sym c.if-not-index.true ∙ e ∙ here));
      ends = λ top no _ _. false≢true (sym no);
    }

pub returns : goal.returns
returns c =
    let m = c.args.memory.now in let ms = c.args.marks.now.items in let p = c.args.place in
    let e = get_or_read ms p c.index.result.now (omega arith) c.index.ensures false in
    let here : get_or ms p false ≡ true = sym e ∙ c.if-not-index.false in
    record {
      goes = λ top below is yes s. search_goes m top p below ms c.keep_block.new.marks.items s is here (c.keep_block.ensures.sound yes) c.keep_block.ensures.grows c.keep_block.ensures.marked;
      ends = λ top no s has. c.keep_block.ensures.bad no (s.needed p here has);
    }
