use Rattle.std.proofs.Common.{rules, ◌≡◌, [], map, Err, sym, ◌∙◌}
use Rattle.dump_grammar.specs.Named.{Named}
use Rattle.dump_grammar.specs.Judge.{Fine}
use Rattle.dump_parser.specs.declared.environment.HeadTree.{HeadTree}
use Rattle.dump_parser.specs.Environment.{named_constraint, named_decl}
use Rattle.dump_reader.proofs.Members.{env-made, env_of_parts}
use Rattle.dump_reader.proofs.Sequences.{declarations_goes}
use Rattle.dump_reader.proofs.Verdicts.{refused}
use Rattle.dump_reader.proofs.whole.read.Goals as goal

pub returns-in_err-head : goal.returns-in_err-head
returns-in_err-head c =
    let q : c.from_residual-in_err-head.result ≡ Err c.in_err-head.field-0.0 = search rules in
    record { exact = refused {X = HeadTree} c.args.bytes.now c.in_err-head.field-0.0 c.from_residual-in_err-head.result q _ _ (sym c.new-parser.ensures.start) c.in_err-head.ensures.reads }

pub returns-in_err-decls : goal.returns-in_err-decls
returns-in_err-decls c =
    let q : c.from_residual-in_err-decls.result ≡ Err c.in_err-decls.field-0.0 = search rules in
    let h = c.in_ok-head.head in
    record {
      exact = refused {X = HeadTree} c.args.bytes.now c.in_err-decls.field-0.0 c.from_residual-in_err-decls.result q (λ x. Fine []) _ (sym c.new-parser.ensures.start ∙ c.in_ok-head.ensures.reads)
          (declarations_goes c.in_err-decls.field-0.0 c.head.new.self c.declarations.new.parser c.constraints.new.tables c.declarations.new.tables (λ x. Fine []) c.in_err-decls.ensures.made (map (λ a. a.now) h.levels.items) (map named_constraint h.constraints.items));
    }

pub returns-in_err-tree : goal.returns-in_err-tree
returns-in_err-tree c =
    let q : c.from_residual-in_err-tree.result ≡ Err c.in_err-tree.field-0.0 = search rules in
    let ls = map (λ a. a.now) c.in_ok-head.head.levels.items in
    let cs = map named_constraint c.in_ok-head.head.constraints.items in
    let made = c.in_ok-decls.ensures.made in
    record {
      exact = refused {X = Named} c.args.bytes.now c.in_err-tree.field-0.0 c.from_residual-in_err-tree.result q _ _ (sym c.new-parser.ensures.start ∙ c.in_ok-head.ensures.reads ∙ made.1 ls cs)
          (c.in_err-tree.ensures.reads ls cs (map named_decl made.0));
    }

pub returns : goal.returns
returns c =
    let h = c.in_ok-head.head in
    let ls = map (λ a. a.now) h.levels.items in
    let cs = map named_constraint h.constraints.items in
    let made = c.in_ok-decls.ensures.made in
    record {
      exact = (
        env_of_parts h made.0 c.in_ok-tree.tree,
        sym c.new-parser.ensures.start ∙ c.in_ok-head.ensures.reads ∙ made.1 ls cs ∙ c.in_ok-tree.ensures.reads ls cs (map named_decl made.0),
        env-made h made.0 c.in_ok-tree.tree {t0 = c.in_ok-tables.tables} c.as_slice.result.now c.as_slice-2.result.now c.in_ok-levels.levels.items c.of.result c.in_ok-constraints.constraints.items c.of-2.result c.in_ok-decls.decls.items
            c.of-3.result c.in_ok-main.main c.in_ok-tables.ensures.names c.in_ok-tables.ensures.levels c.as_slice.ensures.value c.of.ensures.is c.in_ok-levels.ensures.made c.as_slice-2.ensures.value c.of-2.ensures.is
            c.in_ok-constraints.ensures.made c.of-3.ensures.is made.2 c.in_ok-main.ensures.made,
      );
    }
