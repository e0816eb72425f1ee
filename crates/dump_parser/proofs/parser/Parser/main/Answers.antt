use Rattle.std.proofs.Common.{rules, ◌≡◌, List, [], ◌∷◌, Err, refl, ◌∙◌}
use Rattle.dump_grammar.specs.Named.{Named}
use Rattle.dump_grammar.specs.Table.{Item, IClose, Do, MakeEnv, VTerm, VEnv}
use Rattle.dump_grammar.specs.Judge.{Fine}
use Rattle.dump_parser.specs.Reading.{judged}
use Rattle.dump_parser.specs.Stages.{values}
use Rattle.dump_parser.proofs.Steps.{judged_do}
use Rattle.dump_parser.proofs.Chains.{goes-err, end-goes}
use Rattle.dump_parser.proofs.parser.Parser.main.Goals as goal

-- what is to come behind main
abbrev after_main : List Item
after_main = Do MakeEnv IClose ∷ []

pub returns-in_err-main : goal.returns-in_err-main
returns-in_err-main c =
    let q : c.from_residual.result ≡ Err c.in_err-main.field-0.0 = search rules in
    record {
      reads = λ ls cs ds.
          goes-err {X = Named} {Y = Named} c.from_residual.result c.in_err-main.field-0.0 q (λ t. Fine (VEnv (record { levels = ls; constraints = cs; decls = ds; main = t }) ∷ []))
          (λ t. judged c.last_term.new.tokens after_main (VTerm t ∷ values ls cs ds)) _ _ refl (c.in_err-main.ensures.reads.goes after_main (values ls cs ds));
    }

pub returns-in_err-close : goal.returns-in_err-close
returns-in_err-close c =
    let q : c.from_residual-in_err-close.result ≡ Err c.in_err-close.field-0.0 = search rules in
    record {
      reads = λ ls cs ds.
          goes-err {X = Named} {Y = Unit {0}} c.from_residual-in_err-close.result c.in_err-close.field-0.0 q (λ t. Fine (VEnv (record { levels = ls; constraints = cs; decls = ds; main = t }) ∷ []))
          (λ x. judged c.close.new.tokens [] (VEnv (record { levels = ls; constraints = cs; decls = ds; main = c.in_ok-main.main }) ∷ [])) _ _
          (c.in_ok-main.ensures.reads.goes after_main (values ls cs ds) ∙ judged_do c.last_term.new.tokens MakeEnv IClose [] (VTerm c.in_ok-main.main ∷ values ls cs ds))
          (c.in_err-close.ensures.reads.goes [] (VEnv (record { levels = ls; constraints = cs; decls = ds; main = c.in_ok-main.main }) ∷ []));
    }

pub returns-in_err-end : goal.returns-in_err-end
returns-in_err-end c =
    let q : c.from_residual-in_err-end.result ≡ Err c.in_err-end.field-0.0 = search rules in
    record {
      reads = λ ls cs ds.
          goes-err {X = Named} {Y = Unit {0}} c.from_residual-in_err-end.result c.in_err-end.field-0.0 q (λ t. Fine (VEnv (record { levels = ls; constraints = cs; decls = ds; main = t }) ∷ []))
          (λ x. Fine []) _ _
          (c.in_ok-main.ensures.reads.goes after_main (values ls cs ds) ∙ judged_do c.last_term.new.tokens MakeEnv IClose [] (VTerm c.in_ok-main.main ∷ values ls cs ds)
          ∙ c.in_ok-close.ensures.reads.goes [] (VEnv (record { levels = ls; constraints = cs; decls = ds; main = c.in_ok-main.main }) ∷ []))
          (end-goes c.in_err-end.field-0.0 c.close.new.tokens (VEnv (record { levels = ls; constraints = cs; decls = ds; main = c.in_ok-main.main }) ∷ []) (λ x. Fine []) c.in_err-end.ensures.ends);
    }

pub returns : goal.returns
returns c = record {
  reads = λ ls cs ds.
      c.in_ok-main.ensures.reads.goes after_main (values ls cs ds)
      ∙ judged_do c.last_term.new.tokens MakeEnv IClose [] (VTerm c.in_ok-main.main ∷ values ls cs ds)
      ∙ c.in_ok-close.ensures.reads.goes [] (VEnv (record { levels = ls; constraints = cs; decls = ds; main = c.in_ok-main.main }) ∷ [])
      ∙ c.in_ok-end.ensures.ends (VEnv (record { levels = ls; constraints = cs; decls = ds; main = c.in_ok-main.main }) ∷ []);
}
