use Rattle.std.proofs.Common.{rules, ◌≡◌, List, [], ◌∷◌, ◌++◌, map, Ok, Err, sym, ap, ◌∙◌, arith}
use Rattle.dump_grammar.specs.declared.keyword.Keyword.TheVariants as words
use Rattle.dump_grammar.specs.declared.keyword.Former.TheVariants as formers
use Rattle.dump_grammar.specs.Named.{Named, Fix, defs_of, NamedDef}
use Rattle.dump_grammar.specs.Table.{Item, IOpen, IClose, IEnd, IWord, IIndex, INames, ITerm, IList, Terms, Branches, Do, Zero, NoTerms, NoBranches, MakeFix, row, Value, VNumber, VName, VTerm, VTerms, VDefs}
use Rattle.dump_parser.specs.Reading.{judged}
use Rattle.dump_parser.specs.Tree.{named_def}
use Rattle.dump_parser.proofs.Steps.{judged_do}
use Rattle.dump_parser.proofs.Chains.{reads-after, reads-err}
use Rattle.dump_parser.proofs.term.+reading.Goals as goal

-- ---- a match: its family and parameters, and the rest

abbrev match_items : List Item
match_items = IOpen ∷ IWord words.Pred ∷ IOpen ∷ Do Zero INames ∷ ITerm ∷ IClose ∷ ITerm ∷ Do NoBranches (IList Branches) ∷ []

abbrev params_items : List Item → List Item
params_items k = IOpen ∷ IWord words.Params ∷ Do NoTerms (IList Terms) ∷ k

pub match_term-returns-in_err-t : goal.match_term-returns-in_err-t
match_term-returns-in_err-t t c =
    let q : c.from_residual-in_err-t.result ≡ Err c.in_err-t.field-0.0 = search rules in
    record {
      reads = reads-err c.from_residual-in_err-t.result c.in_err-t.field-0.0 q c.args.tokens.now c.term_list.new.tokens c.match_rest.new.tokens (row formers.Case) match_items []
          (VTerms c.in_ok-params.params.items ∷ VNumber c.in_ok-of.of.1 ∷ VName c.in_ok-of.of.0.now ∷ []) (λ (t : Named) (vs : List Value). VTerm t ∷ vs) (λ (t : Named) (vs : List Value). VTerm t ∷ vs)
          (c.in_ok-params.ensures.reads.same ∙ c.in_ok-of.ensures.reads.same)
          (λ k vs. (k, vs, c.in_ok-of.ensures.reads.goes (params_items (match_items ++ k)) vs ∙ c.in_ok-params.ensures.reads.goes (match_items ++ k) (VNumber c.in_ok-of.of.1 ∷ VName c.in_ok-of.of.0.now ∷ vs)))
          c.in_err-t.ensures.reads;
    }

pub match_term-returns : goal.match_term-returns
match_term-returns t c = record {
  reads = reads-after (Ok c.in_ok-t.t) c.args.tokens.now c.term_list.new.tokens c.match_rest.new.tokens (row formers.Case) match_items []
      (VTerms c.in_ok-params.params.items ∷ VNumber c.in_ok-of.of.1 ∷ VName c.in_ok-of.of.0.now ∷ []) (λ (t : Named) (vs : List Value). VTerm t ∷ vs)
      (c.in_ok-params.ensures.reads.same ∙ c.in_ok-of.ensures.reads.same)
      (omega (arith, c.in_ok-of.ensures.reads.shorter, c.in_ok-params.ensures.reads.shorter))
      (λ k vs. c.in_ok-of.ensures.reads.goes (params_items (match_items ++ k)) vs ∙ c.in_ok-params.ensures.reads.goes (match_items ++ k) (VNumber c.in_ok-of.of.1 ∷ VName c.in_ok-of.of.0.now ∷ vs))
      c.in_ok-t.ensures.reads;
}

-- ---- a fixpoint: its definitions, its index, and the bracket that closes it

pub fixpoint-returns-in_err-t : goal.fixpoint-returns-in_err-t
fixpoint-returns-in_err-t t c =
    let q : c.from_residual-in_err-t.result ≡ Err c.in_err-t.field-0.0 = search rules in
    let e : map named_def c.as_slice.result.now ≡ map named_def c.in_ok-defs.defs.items = ap (map named_def) c.as_slice.ensures.value in
    record {
      reads = reads-err c.from_residual-in_err-t.result c.in_err-t.field-0.0 q c.args.tokens.now c.index.new.tokens c.finish.new.tokens (row formers.Fix) (IEnd ∷ []) []
          (VTerm (Fix (defs_of (map named_def c.in_ok-defs.defs.items)) c.in_ok-i.i) ∷ []) (λ (t : Named) (vs : List Value). VTerm t ∷ vs) (λ (t : Named) (vs : List Value). VTerm t ∷ vs)
          (c.in_ok-i.ensures.reads.same ∙ c.in_ok-defs.ensures.reads.same)
          (λ k vs. (
            k,
            vs,
            c.in_ok-defs.ensures.reads.goes (IIndex ∷ Do MakeFix IEnd ∷ k) vs
                ∙ ap (λ (ds : List NamedDef). judged c.definition_list.new.tokens (IIndex ∷ Do MakeFix IEnd ∷ k) (VDefs ds ∷ vs)) (sym e)
                ∙ c.in_ok-i.ensures.reads.goes (Do MakeFix IEnd ∷ k) vs
                ∙ ap (λ (ds : List NamedDef). judged c.index.new.tokens (Do MakeFix IEnd ∷ k) (VNumber c.in_ok-i.i ∷ VDefs ds ∷ vs)) e
                ∙ judged_do c.index.new.tokens MakeFix IEnd k (VNumber c.in_ok-i.i ∷ VDefs (map named_def c.in_ok-defs.defs.items) ∷ vs),
          ))
          c.in_err-t.ensures.reads;
    }

pub fixpoint-returns : goal.fixpoint-returns
fixpoint-returns t c =
    let e : map named_def c.as_slice.result.now ≡ map named_def c.in_ok-defs.defs.items = ap (map named_def) c.as_slice.ensures.value in
    record {
      reads = reads-after (Ok c.in_ok-t.t) c.args.tokens.now c.index.new.tokens c.finish.new.tokens (row formers.Fix) (IEnd ∷ []) []
          (VTerm (Fix (defs_of (map named_def c.in_ok-defs.defs.items)) c.in_ok-i.i) ∷ []) (λ (t : Named) (vs : List Value). VTerm t ∷ vs)
          (c.in_ok-i.ensures.reads.same ∙ c.in_ok-defs.ensures.reads.same)
          (omega (arith, c.in_ok-i.ensures.reads.shorter, c.in_ok-defs.ensures.reads.shorter))
          (λ k vs. c.in_ok-defs.ensures.reads.goes (IIndex ∷ Do MakeFix IEnd ∷ k) vs
          ∙ ap (λ (ds : List NamedDef). judged c.definition_list.new.tokens (IIndex ∷ Do MakeFix IEnd ∷ k) (VDefs ds ∷ vs)) (sym e)
          ∙ c.in_ok-i.ensures.reads.goes (Do MakeFix IEnd ∷ k) vs
          ∙ ap (λ (ds : List NamedDef). judged c.index.new.tokens (Do MakeFix IEnd ∷ k) (VNumber c.in_ok-i.i ∷ VDefs ds ∷ vs)) e
          ∙ judged_do c.index.new.tokens MakeFix IEnd k (VNumber c.in_ok-i.i ∷ VDefs (map named_def c.in_ok-defs.defs.items) ∷ vs))
          c.in_ok-t.ensures.reads;
    }
