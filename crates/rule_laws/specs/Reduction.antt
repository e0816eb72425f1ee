-- Laws of directed reduction, as statements.
use Rattle.std.specs.Prelude.{◌≡◌, None}
use Rattle.pc_terms.specs.Syntax.{Term}
use Rattle.calculus_rules.specs.declared.declaration.Block.{Block}
use Rattle.calculus_rules.specs.declared.declaration.Kept.{Kept}
use Rattle.pc_rules.specs.declared.meter.Account.{Account}
use Rattle.calculus_rules.specs.Environment.{Env, Has, name_of}
use Rattle.calculus_rules.specs.Context.{Values}
use Rattle.calculus_rules.specs.WeakHead.{IsWeakNormal, IsWhnf}
use Rattle.calculus_rules.specs.Accepted.{IsAccepted, IsFresh}
use Rattle.pc_rules.specs.DirectedRun.{Done}
use Rattle.pc_rules.specs.DirectedWeakHead.{weak_next, whnf}
use Rattle.pc_rules.specs.DirectedDeclarations.{with_heads}

-- each name is declared once
abbrev pub HasNamesOnce : Env → Type 0
HasNamesOnce E = (d d' : Kept) → Has E.declarations d → Has E.declarations d' → name_of d ≡ name_of d' → d ≡ d'

-- where the directed rules find no step there is none
abbrev pub NoStepIsNormal : Type 0
NoStepIsNormal = (E : Env) → HasNamesOnce E → (V : Values) (t : Term) → weak_next E V t ≡ None → IsWeakNormal E V t

-- what they end with is the weak-head normal form
abbrev pub DirectedWhnfIsWhnf : Type 0
DirectedWhnfIsWhnf = (E : Env) → HasNamesOnce E → (V : Values) (t w : Term) (u v : Account) → (whnf E V t u).end ≡ Done w v → IsWhnf E V t w

-- an accepted environment declares each name once
abbrev pub AcceptedHasNamesOnce : Type 0
AcceptedHasNamesOnce = (E : Env) → IsAccepted E → HasNamesOnce E

-- and so does one with the heads of a new block
abbrev pub HeadsHaveNamesOnce : Type 0
HeadsHaveNamesOnce = (E : Env) (B : Block) → HasNamesOnce E → IsFresh B.name E.declarations → HasNamesOnce (with_heads E B)
