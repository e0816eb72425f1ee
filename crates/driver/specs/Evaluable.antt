-- An environment on which `eval` has an answer, by the relation of evaluation.
use Rattle.std.specs.Prelude.{ℕ, ◌≡◌, ◌≤◌, List, length, false}
use Rattle.pc_terms.specs.Syntax.{Term}
use Rattle.pc_rules.specs.declared.meter.Account.{Account}
use Rattle.calculus_rules.specs.Environment.{Env}
use Rattle.calculus_rules.specs.Evaluation.{Evaluates}
use Rattle.calculus_rules.specs.FirstOrder.{Shape, Data, Reads}
use Rattle.pc_rules.specs.DirectedRun.{Done}
use Rattle.pc_rules.specs.DirectedFirstOrder.{Found, first_order_search}
use Rattle.source_eval.specs.StaysWithin.{StaysWithin}
use Rattle.dump_reader.specs.declared.environment.RawEnv.{RawEnv}
use Rattle.driver.specs.Judged.{EndsWith}
use Rattle.driver.specs.SourceEnds.{IsAcceptedWith}

pub record IsEvaluable (turns : ℕ) (e : RawEnv) : Type 0 where
  -- the rules accept it, within the limits, and so many units are left
  pub check : EndsWith turns e 0
  pub kept : Env
  pub type : Term
  pub left : Account
  pub accepted : IsAcceptedWith turns e kept type left
  -- the search from main's type finds a set, within the limits, and so many units are left then
  pub shapes : List Shape
  pub units : Account
  pub found : (first_order_search kept type left).end ≡ Done (Found shapes) units
  pub within : (first_order_search kept type left).deep ≡ false
  -- main has a value, in no more nodes than units are left, and what its evaluation makes is within the limits
  pub value : Term
  pub nodes : ℕ
  pub evaluates : Evaluates kept e.main value nodes
  pub enough : nodes ≤ units.left
  pub shallow : StaysWithin evaluates
  -- the value is data along the set, of no more nodes than are looked at
  pub tree : Data
  pub reads : Reads kept shapes 0 value tree
  pub few : length tree ≤ 4000000
