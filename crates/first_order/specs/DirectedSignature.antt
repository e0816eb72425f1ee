-- The search for a signature, with units: products are taken apart from the outside, each domain is searched as a first-order type is, and the last codomain as
-- the answer. And what a call answers, as that search ends.
use Rattle.std.specs.Prelude.{ℕ, zero, suc, ◌++◌, Bool, true, false, if◌then◌else◌, List, [], ◌∷◌, map, Result, Ok, Err, All}
use Rattle.pc_terms.specs.Syntax.{Term, Prod}
use Rattle.pc_rules.specs.declared.meter.Account.{Account}
use Rattle.pc_rules.specs.declared.stop.Stop.TheVariants as stops
use Rattle.pc_rules.specs.declared.stop.Halt.{Halt}
use Rattle.pc_rules.specs.declared.stop.Halt.TheVariants.{Stop}
use Rattle.calculus_rules.specs.Environment.{Env}
use Rattle.calculus_rules.specs.FirstOrder.{Shape as Member}
use Rattle.pc_rules.specs.DirectedRun.{Run, done, bind}
use Rattle.pc_rules.specs.DirectedWeakHead.{whnf}
use Rattle.pc_rules.specs.DirectedFirstOrder.{Searched, Found, NotFirstOrder, TooManyTypes, with_found, without, or_not_first_order, first_order_search}
use Rattle.first_order.specs.declared.shapes.Shapes.{Shapes}
use Rattle.first_order.specs.declared.faults.ShapeRefusal.{ShapeRefusal}
use Rattle.first_order.specs.declared.faults.ShapeRefusal.TheVariants as of_types
use Rattle.first_order.specs.declared.shapes.Signature.{Signature}
use Rattle.first_order.specs.declared.faults.SignatureRefusal.{SignatureRefusal}
use Rattle.first_order.specs.declared.faults.SignatureRefusal.TheVariants as of_signatures
use Rattle.first_order.specs.Searching.{members, AreNamed}

-- the first-order sets of the arguments, the first first, and that of the answer; or more arguments than the limit
pub data Signed : Type 0 where
  Takes : List (List Member) → List Member → Signed
  TooManyArguments : Signed

abbrev pub before_arguments : List (List Member) → Signed → Signed
before_arguments Ss (Takes Ts R) = Takes (Ss ++ Ts) R
before_arguments Ss TooManyArguments = TooManyArguments

abbrev pub one_argument : List Member → Signed → Signed
one_argument S (Takes Ss R) = Takes (S ∷ Ss) R
one_argument S TooManyArguments = TooManyArguments

abbrev pub is_product : Term → Bool
is_product (Prod A B) = true
is_product W = false

-- what follows an argument of the product W with the codomain B: the codomain's weak-head normal form, where it doesn't name the variable
abbrev pub next_type : Env → Term → Term → Account → Run (Searched Term)
next_type E W B u = with_found (or_not_first_order W (without 1 B) u) (λ C v. bind (whnf E [] C v) (λ V w. done (Found V) w))

-- the first-order set of a product's domain, and what follows
abbrev pub argument : Env → Term → Account → Run (Searched (List Member × Term))
argument E (Prod A B) u = with_found (first_order_search E A u) (λ S v. with_found (next_type E (Prod A B) B v) (λ V w. done (Found (S, V)) w))
argument E W u = done (NotFirstOrder W) u

abbrev pub answer_type : Env → Term → Account → Run (Searched Signed)
answer_type E W u = with_found (first_order_search E W u) (λ R v. done (Found (Takes [] R)) v)

-- of a weak-head normal form; so many arguments may be taken
unfoldable pub signature_within : Env → ℕ → Term → Account → Run (Searched Signed)
signature_within E zero W u = if is_product W then done (Found TooManyArguments) u else answer_type E W u
signature_within E (suc n) W u =
    if is_product W then with_found (argument E W u) (λ p v. with_found (signature_within E n p.1 v) (λ s w. done (Found (one_argument p.0 s)) w)) else answer_type E W u

-- a type that is no product has no signature
abbrev pub signature_of : Env → Term → Account → Run (Searched Signed)
signature_of E W u = if is_product W then signature_within E 255 W u else done (NotFirstOrder W) u

abbrev pub signature_search : Env → Term → Account → Run (Searched Signed)
signature_search E T u = bind (whnf E [] T u) (λ W v. signature_of E W v)

-- ---- what a call answers

abbrev pub set_of : Shapes → List Member
set_of s = members s.types

abbrev pub sets_of : List Shapes → List (List Member)
sets_of ss = map set_of ss

abbrev pub signed_by : Signature → Signed
signed_by s = Takes (sets_of s.args) (set_of s.answer)

abbrev pub signed : Result Signature SignatureRefusal → Result (Searched Signed) Halt
signed (Ok s) = Ok (Found (signed_by s))
signed (Err (of_signatures.NotFirstOrder T)) = Ok (NotFirstOrder T)
signed (Err of_signatures.Types) = Ok TooManyTypes
signed (Err of_signatures.Arguments) = Ok (Found TooManyArguments)
signed (Err of_signatures.Spent) = Err (Stop stops.Spent)
signed (Err of_signatures.TooDeep) = Err (Stop stops.TooDeep)
signed (Err of_signatures.Memory) = Err (Stop stops.Memory)

-- a refusal of the search for one type, and a stop
abbrev pub refusal_in : ShapeRefusal → SignatureRefusal
refusal_in (of_types.NotFirstOrder T) = of_signatures.NotFirstOrder T
refusal_in of_types.Types = of_signatures.Types
refusal_in of_types.Spent = of_signatures.Spent
refusal_in of_types.TooDeep = of_signatures.TooDeep
refusal_in of_types.Memory = of_signatures.Memory

-- an argument that is found: its types, and what follows
abbrev pub found_argument : Shapes × Term → List Member × Term
found_argument p = (set_of p.0, p.1)

abbrev pub AreAllNamed : Env → List Shapes → Type 0
AreAllNamed E ss = All (λ s. AreNamed E s.types) ss
