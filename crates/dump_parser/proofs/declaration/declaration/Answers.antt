use Rattle.std.proofs.Common.{rules, ◌≡◌, List, [], ◌∷◌, Ok, Err, Option, ap, ◌∙◌, arith}
use Rattle.dump_grammar.specs.declared.keyword.Keyword.TheVariants as words
use Rattle.dump_grammar.specs.declared.keyword.Opening.TheVariants as openings
use Rattle.dump_grammar.specs.Table.{Item, Value, IOpen, IClose, IWord, IParams, IName, ISort, IList, Telescope, Constructors, Families, Do, NoTypes, NoCtors, NoFamilies, AddFamily, IDecls, opened, VDecls}
use Rattle.dump_parser.specs.declared.environment.DeclTree.{DeclTree}
use Rattle.dump_parser.specs.Reading.{judged, Leads}
use Rattle.dump_parser.specs.Environment.{behind, declared, with_next}
use Rattle.dump_parser.proofs.Declarations.{declared_more}
use Rattle.dump_parser.proofs.Chains.{leads-err}
use Rattle.dump_parser.proofs.declaration.declaration.Goals as goal

abbrev block_items : List Item
block_items = IName ∷ IOpen ∷ IParams ∷ Do NoTypes (IList Telescope) ∷ Do NoFamilies IOpen ∷ IWord words.Family ∷ IName ∷ IOpen ∷ IWord words.Sort ∷ ISort ∷ IClose ∷ IOpen ∷ IWord words.Indices ∷ Do NoTypes (IList Telescope) ∷ Do NoCtors (IList Constructors) ∷ Do AddFamily (IList Families) ∷ []

pub returns-in_err-tree-in-Block : goal.returns-in_err-tree-in-Block
returns-in_err-tree-in-Block c =
    let q : c.from_residual-in_err-tree-in-Block.result ≡ Err c.in_err-tree-in-Block.field-0.0 = search rules in
    record {
      leads = λ ds h.
          let leads : Leads (Ok openings.Block) c.args.tokens.now c.opening.new.tokens (IDecls ∷ []) (VDecls ds ∷ []) opened (λ o vs. VDecls ds ∷ vs) = rw c.in-Block.is at (c.in_ok-opening.ensures.leads ds h) in
          leads-err {X = Option DeclTree} {Y = DeclTree} c.from_residual-in_err-tree-in-Block.result c.in_err-tree-in-Block.field-0.0 q c.args.tokens.now c.opening.new.tokens c.block.new.tokens (IDecls ∷ []) block_items (VDecls ds ∷ []) []
          behind (λ (o : Option DeclTree) (vs : List Value). VDecls (with_next ds o) ∷ vs) declared leads.same (λ k vs. (IDecls ∷ k, VDecls ds ∷ vs, leads.goes k vs)) c.in_err-tree-in-Block.ensures.reads;
    }

pub returns-in_ok-tree-in-Block : goal.returns-in_ok-tree-in-Block
returns-in_ok-tree-in-Block c =
    record {
      leads = λ ds h.
          let leads : Leads (Ok openings.Block) c.args.tokens.now c.opening.new.tokens (IDecls ∷ []) (VDecls ds ∷ []) opened (λ o vs. VDecls ds ∷ vs) = rw c.in-Block.is at (c.in_ok-opening.ensures.leads ds h) in
          record {
            same = c.in_ok-tree-in-Block.ensures.reads.same ∙ leads.same;
            shorter = omega (arith, c.in_ok-tree-in-Block.ensures.reads.shorter, leads.shorter);
            goes = λ k vs. leads.goes k vs
                ∙ c.in_ok-tree-in-Block.ensures.reads.goes (IDecls ∷ k) (VDecls ds ∷ vs)
                ∙ ap (judged c.block.new.tokens (IDecls ∷ k)) (declared_more c.in_ok-tree-in-Block.tree ds vs);
          };
    }
