-- What the stages of `eval` after the check say: the search for main's types, the evaluation of main, the reading of its value.
use Rattle.std.specs.Prelude.{ℕ, ◌≡◌, List, ◌∷◌, [], ◌++◌, IsTrue, Result, Ok, Err}
use Rattle.pc_terms.specs.Syntax.{Term}
use Rattle.pc_rules.specs.declared.meter.Account.{Account}
use Rattle.calculus_rules.specs.Environment.{Env}
use Rattle.pc_rules.specs.DirectedRun.{Done, NoUnit}
use Rattle.pc_rules.specs.DirectedEvaluation.{Value, Stuck, evaluation}
use Rattle.pc_rules.specs.DirectedFirstOrder.{Found, NotFirstOrder, TooManyTypes, first_order_search}
use Rattle.first_order.specs.declared.shapes.Shape.{Shape}
use Rattle.first_order.specs.declared.shapes.Shapes.{Shapes}
use Rattle.first_order.specs.Searching.{members}
use Rattle.first_order.specs.Reading.{Read, NotAt, TooMany, read}
use Rattle.first_order.specs.Texts.{IsText, by_shapes}
use Rattle.driver.specs.declared.refusal.Refusal.{Refusal}
use Rattle.driver.specs.declared.refusal.Refusal.TheVariants as refusals

abbrev pub ShapesSay : Env → Term → Account → Result Shapes Refusal → Account → Type 0
ShapesSay E T u (Ok s) w = (first_order_search E T u).end ≡ Done (Found (members s.types)) w
ShapesSay E T u (Err refusals.NotFirstOrder) w = (W : Term) × ((first_order_search E T u).end ≡ Done (NotFirstOrder W) w)
ShapesSay E T u (Err refusals.Types) w = (first_order_search E T u).end ≡ Done TooManyTypes w
ShapesSay E T u (Err refusals.TurnsSpent) w = (first_order_search E T u).end ≡ NoUnit
ShapesSay E T u (Err refusals.Depth) w = IsTrue (first_order_search E T u).deep
ShapesSay E T u (Err refusals.Memory) w = Unit {0}
ShapesSay E T u (Err _) w = ⊥

abbrev pub ValueSays : Env → Term → Account → Result Term Refusal → Account → Type 0
ValueSays E t u (Ok v) w = (evaluation E t u).end ≡ Done (Value v) w
ValueSays E t u (Err refusals.Stuck) w = (s : Term) × ((evaluation E t u).end ≡ Done (Stuck s) w)
ValueSays E t u (Err refusals.TurnsSpent) w = (evaluation E t u).end ≡ NoUnit
ValueSays E t u (Err refusals.Depth) w = IsTrue (evaluation E t u).deep
ValueSays E t u (Err refusals.Memory) w = Unit {0}
ValueSays E t u (Err _) w = ⊥

abbrev pub DataSays : List Shape → Term → Result (List (ℕ × ℕ)) Refusal → Type 0
DataSays S v (Ok ds) = read S v ≡ Read ds
DataSays S v (Err refusals.Stuck) = (k : ℕ) × (read S v ≡ NotAt k)
DataSays S v (Err refusals.AnswerNodes) = read S v ≡ TooMany
DataSays S v (Err refusals.Memory) = Unit {0}
DataSays S v (Err _) = ⊥

-- the text of the data, and LF
abbrev pub IsLine : List Shape → List (List ℕ) → List (ℕ × ℕ) → List ℕ → Type 0
IsLine S names ds text = (line : List ℕ) × IsText (by_shapes S names) 0 ds line × (text ≡ line ++ 10 ∷ [])
