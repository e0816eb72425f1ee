-- What a call on a part of a block makes: what the run of that part writes, for each block whose parameters are the call's context and whose name, where one is given, is that.
use Rattle.std.specs.Prelude.{◌≡◌, ℕ, List, [], Result}
use Rattle.pc_terms.specs.declared.leaf.Name.{Name}
use Rattle.pc_terms.specs.Syntax.{Term}
use Rattle.dump_reader.specs.declared.declaration.RawFamily.{RawFamily}
use Rattle.calculus_rules.specs.declared.declaration.Constructor.{Constructor}
use Rattle.calculus_rules.specs.declared.declaration.Family.{Family}
use Rattle.calculus_rules.specs.declared.declaration.Block.{Block}
use Rattle.calculus_rules.specs.Environment.{Env}
use Rattle.calculus_rules.specs.Context.{Context, extend}
use Rattle.pc_rules.specs.declared.stop.Halt.{Halt}
use Rattle.inductive_check.specs.Given.{block_from}
use Rattle.script_making.specs.declared.draft.Draft.{Draft}
use Rattle.script_making.specs.Makes.{Makes}
use Rattle.block_making.specs.BlockMaking.{head_making, heads_making, block_heads_making, ctor_making, ctors_making, families_making}

-- the parameters and the heads of a block, whatever its name
abbrev pub MakesBlockHeads : Env → ℕ → List Term → List RawFamily → Result (Unit {0}) Halt → Draft → Draft → Type 0
MakesBlockHeads E n ps fs r old new = (k : Name) → Makes (block_heads_making E n (block_from k ps fs) old.meter.account) r old new

module _ (E : Env) (n : ℕ) (c : Context) where
  abbrev pub MakesHead : Family → Result (Unit {0}) Halt → Draft → Draft → Type 0
  MakesHead F r old new = (B : Block) → extend [] B.params ≡ c → Makes (head_making E n B F old.meter.account) r old new

  abbrev pub MakesHeads : List Family → Result (Unit {0}) Halt → Draft → Draft → Type 0
  MakesHeads Fs r old new = (B : Block) → extend [] B.params ≡ c → Makes (heads_making E n B Fs old.meter.account) r old new

  module _ (name : Name) where
    -- constructor j of family F, which is number i
    abbrev pub MakesCtor : Family → ℕ → ℕ → Constructor → Result Constructor Halt → Draft → Draft → Type 0
    MakesCtor F i j C r old new = (B : Block) → B.name ≡ name → extend [] B.params ≡ c → Makes (ctor_making E n B F i j C old.meter.account) r old new

    -- all constructors of family F, which is number i
    abbrev pub MakesCtors : Family → ℕ → Result (List Constructor) Halt → Draft → Draft → Type 0
    MakesCtors F i r old new = (B : Block) → B.name ≡ name → extend [] B.params ≡ c → Makes (ctors_making E n B F i 0 F.ctors old.meter.account) r old new

    abbrev pub MakesFamilies : List Family → Result (List Family) Halt → Draft → Draft → Type 0
    MakesFamilies Fs r old new = (B : Block) → B.name ≡ name → extend [] B.params ≡ c → Makes (families_making E n B 0 Fs old.meter.account) r old new
