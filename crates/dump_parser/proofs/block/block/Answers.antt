use Rattle.std.proofs.Common.{rules, ◌≡◌, List, [], ◌∷◌, ◌++◌, map, Err, ◌∙◌, arith}
use Rattle.std.specs.Prelude.{Vec}
use Rattle.std.specs.declared.alloc.Global.{Global}
use Rattle.dump_grammar.specs.declared.keyword.Keyword.TheVariants as words
use Rattle.dump_grammar.specs.Table.{Item, IOpen, IClose, IWord, IParams, IName, ISort, IList, Telescope, Constructors, Families, Do, NoTypes, NoCtors, NoFamilies, AddFamily, AddBlock, act, Value, VName, VTypes, VFamilies}
use Rattle.dump_parser.specs.declared.environment.DeclTree.{DeclTree}
use Rattle.dump_parser.specs.declared.environment.FamilyTree.{FamilyTree}
use Rattle.dump_parser.specs.Environment.{named_family, family_values, declared}
use Rattle.dump_parser.proofs.Steps.{judged_do}
use Rattle.dump_parser.proofs.Chains.{reads-err}
use Rattle.dump_parser.proofs.block.block.Goals as goal

abbrev family_items : List Item
family_items = IWord words.Family ∷ IName ∷ IOpen ∷ IWord words.Sort ∷ ISort ∷ IClose ∷ IOpen ∷ IWord words.Indices ∷ Do NoTypes (IList Telescope) ∷ Do NoCtors (IList Constructors) ∷ []

-- what is to come after each call
abbrev after_family : List Item → List Item
after_family k = Do AddFamily (IList Families) ∷ k

abbrev after_params : List Item → List Item
after_params k = Do NoFamilies IOpen ∷ family_items ++ after_family k

abbrev after_name : List Item → List Item
after_name k = IOpen ∷ IParams ∷ Do NoTypes (IList Telescope) ∷ after_params k

abbrev block_items : List Item
block_items = IName ∷ after_name []

pub returns-in_err-first : goal.returns-in_err-first
returns-in_err-first c =
    let q : c.from_residual-in_err-first.result ≡ Err c.in_err-first.field-0.0 = search rules in
    record {
      reads = reads-err {X = DeclTree} {Y = FamilyTree} c.from_residual-in_err-first.result c.in_err-first.field-0.0 q c.args.tokens.now c.open.new.tokens c.family.new.tokens block_items family_items [] [] declared (λ (f : FamilyTree) (vs : List Value). family_values f ++ vs)
          (c.in_ok-open.ensures.reads.same ∙ c.in_ok-telescope.ensures.reads.same ∙ c.in_ok-text.ensures.reads.same)
          (λ k vs. (
            after_family k,
            VFamilies [] ∷ VTypes c.in_ok-telescope.telescope.items ∷ VName c.in_ok-text.text.now ∷ vs,
            c.in_ok-text.ensures.reads.goes (after_name k) vs
                ∙ c.in_ok-telescope.ensures.reads.goes (after_params k) (VName c.in_ok-text.text.now ∷ vs)
                ∙ judged_do c.params.new.tokens NoFamilies IOpen (family_items ++ after_family k) (VTypes c.in_ok-telescope.telescope.items ∷ VName c.in_ok-text.text.now ∷ vs)
                ∙ c.in_ok-open.ensures.reads.goes (family_items ++ after_family k) (VFamilies [] ∷ VTypes c.in_ok-telescope.telescope.items ∷ VName c.in_ok-text.text.now ∷ vs),
          ))
          c.in_err-first.ensures.reads;
    }

pub returns-in_err-all : goal.returns-in_err-all
returns-in_err-all c =
    let q : c.from_residual-in_err-all.result ≡ Err c.in_err-all.field-0.0 = search rules in
    record {
      reads = reads-err {X = DeclTree} {Y = Vec FamilyTree Global} c.from_residual-in_err-all.result c.in_err-all.field-0.0 q c.args.tokens.now c.family.new.tokens c.families.new.tokens block_items (IList Families ∷ []) []
          (VFamilies (named_family c.in_ok-first.first ∷ []) ∷ []) declared (λ (v : Vec FamilyTree Global) (vs : List Value). act AddBlock (VFamilies (map named_family v.items) ∷ vs))
          (c.in_ok-first.ensures.reads.same ∙ c.in_ok-open.ensures.reads.same ∙ c.in_ok-telescope.ensures.reads.same ∙ c.in_ok-text.ensures.reads.same)
          (λ k vs. (
            k,
            VTypes c.in_ok-telescope.telescope.items ∷ VName c.in_ok-text.text.now ∷ vs,
            c.in_ok-text.ensures.reads.goes (after_name k) vs
                ∙ c.in_ok-telescope.ensures.reads.goes (after_params k) (VName c.in_ok-text.text.now ∷ vs)
                ∙ judged_do c.params.new.tokens NoFamilies IOpen (family_items ++ after_family k) (VTypes c.in_ok-telescope.telescope.items ∷ VName c.in_ok-text.text.now ∷ vs)
                ∙ c.in_ok-open.ensures.reads.goes (family_items ++ after_family k) (VFamilies [] ∷ VTypes c.in_ok-telescope.telescope.items ∷ VName c.in_ok-text.text.now ∷ vs)
                ∙ c.in_ok-first.ensures.reads.goes (after_family k) (VFamilies [] ∷ VTypes c.in_ok-telescope.telescope.items ∷ VName c.in_ok-text.text.now ∷ vs)
                ∙ judged_do c.family.new.tokens AddFamily (IList Families) k (family_values c.in_ok-first.first ++ VFamilies [] ∷ VTypes c.in_ok-telescope.telescope.items ∷ VName c.in_ok-text.text.now ∷ vs),
          ))
          c.in_err-all.ensures.reads;
    }

pub returns : goal.returns
returns c = record {
  reads = record {
    same = c.in_ok-all.ensures.reads.same ∙ c.in_ok-first.ensures.reads.same ∙ c.in_ok-open.ensures.reads.same ∙ c.in_ok-telescope.ensures.reads.same ∙ c.in_ok-text.ensures.reads.same;
    shorter = omega (arith, c.in_ok-all.ensures.reads.shorter, c.in_ok-first.ensures.reads.shorter, c.in_ok-open.ensures.reads.shorter, c.in_ok-telescope.ensures.reads.shorter, c.in_ok-text.ensures.reads.shorter);
    goes = λ k vs. c.in_ok-text.ensures.reads.goes (after_name k) vs
        ∙ c.in_ok-telescope.ensures.reads.goes (after_params k) (VName c.in_ok-text.text.now ∷ vs)
        ∙ judged_do c.params.new.tokens NoFamilies IOpen (family_items ++ after_family k) (VTypes c.in_ok-telescope.telescope.items ∷ VName c.in_ok-text.text.now ∷ vs)
        ∙ c.in_ok-open.ensures.reads.goes (family_items ++ after_family k) (VFamilies [] ∷ VTypes c.in_ok-telescope.telescope.items ∷ VName c.in_ok-text.text.now ∷ vs)
        ∙ c.in_ok-first.ensures.reads.goes (after_family k) (VFamilies [] ∷ VTypes c.in_ok-telescope.telescope.items ∷ VName c.in_ok-text.text.now ∷ vs)
        ∙ judged_do c.family.new.tokens AddFamily (IList Families) k (family_values c.in_ok-first.first ++ VFamilies [] ∷ VTypes c.in_ok-telescope.telescope.items ∷ VName c.in_ok-text.text.now ∷ vs)
        ∙ c.in_ok-all.ensures.reads.goes k (VTypes c.in_ok-telescope.telescope.items ∷ VName c.in_ok-text.text.now ∷ vs);
  };
}
