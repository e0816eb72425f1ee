-- Where erasure halts: at main, or at the declaration of a reached constant whose body is being erased.
use Rattle.std.specs.Prelude.{◌≡◌, true, false, List, [], ◌∷◌, length, Some}
use Rattle.pc_terms.specs.declared.leaf.Name.{Name}
use Rattle.pc_terms.specs.Syntax.{Term}
use Rattle.box_terms.specs.BoxSyntax.{BoxTerm}
use Rattle.calculus_rules.specs.declared.declaration.Kept.{Kept}
use Rattle.calculus_rules.specs.declared.declaration.Kept.TheVariants.{Constant}
use Rattle.pc_rules.specs.declared.broken.Place.{Place}
use Rattle.pc_rules.specs.declared.broken.Place.TheVariants.{Declaration as AtDeclaration, Main as AtMain}
use Rattle.pc_rules.specs.declared.meter.Account.{Account}
use Rattle.pc_rules.specs.declared.stop.Stop.TheVariants.{Memory}
use Rattle.pc_rules.specs.declared.stop.Halt.{Halt}
use Rattle.pc_rules.specs.declared.stop.Halt.TheVariants.{Stop}
use Rattle.calculus_rules.specs.Environment.{Env}
use Rattle.pc_rules.specs.DirectedRun.{Run, Done}
use Rattle.pc_rules.specs.DirectedTyping.{Typing}
use Rattle.pc_rules.specs.Follows.{Halts}
use Rattle.erase_rules.specs.DirectedErasure.{erased}
use Rattle.erase_rules.specs.DirectedProgram.{is_reached}
use Rattle.erase.specs.declared.refusal.EraseRefusal.{EraseRefusal}
use Rattle.erase.specs.declared.refusal.EraseRefusal.TheVariants.{AxiomReached, Halt as Halted}

-- a declaration with no body to be erased: if it has one, the constant isn't reached
abbrev pub IsPassed : List BoxTerm → Kept → Type 0
IsPassed ts d = (k : Name) (T b : Term) → d ≡ Constant k T (Some b) → is_reached k ts ≡ false

-- ts is what is erased so far, with u left, before the declarations that are left: the walk over these comes to a place where this run is
pub data IsAtBody (E : Env) (inf : Typing) : List BoxTerm → List Kept → Account → Place → Run BoxTerm → Type 0 where
  now : {ts : List BoxTerm} {k : Name} {T b : Term} {ds : List Kept} {u : Account} → is_reached k ts ≡ true →
      IsAtBody E inf ts (Constant k T (Some b) ∷ ds) u (AtDeclaration (length ds)) (erased E inf [] b u)
  later : {ts : List BoxTerm} {k : Name} {T b : Term} {b' : BoxTerm} {ds : List Kept} {u v : Account} {p : Place} {d : Run BoxTerm} → is_reached k ts ≡ true →
      (erased E inf [] b u).end ≡ Done b' v → IsAtBody E inf (b' ∷ ts) ds v p d → IsAtBody E inf ts (Constant k T (Some b) ∷ ds) u p d
  passed : {ts : List BoxTerm} {k : Kept} {ds : List Kept} {u : Account} {p : Place} {d : Run BoxTerm} → IsPassed ts k → IsAtBody E inf ts ds u p d → IsAtBody E inf ts (k ∷ ds) u p d

-- the same of the whole, with main first
pub data IsAt (E : Env) (inf : Typing) (main : Term) (u : Account) : Place → Run BoxTerm → Type 0 where
  at_main : IsAt E inf main u AtMain (erased E inf [] main u)
  at_body : {main' : BoxTerm} {v : Account} {p : Place} {d : Run BoxTerm} → (erased E inf [] main u).end ≡ Done main' v → IsAtBody E inf (main' ∷ []) E.declarations v p d →
      IsAt E inf main u p d

-- but for want of memory, what halts the walk halts what is done at the place
abbrev pub HaltsIn : (Place → Run BoxTerm → Type 0) → Place → Halt → Account → Type 0
HaltsIn At p (Stop Memory) v = Unit {0}
HaltsIn At p h v = (d : Run BoxTerm) × At p d × Halts d h v

abbrev pub HaltsAtPlace : Env → Typing → Term → Account → EraseRefusal → Account → Type 0
HaltsAtPlace E inf main u (AxiomReached k) v = Unit {0}
HaltsAtPlace E inf main u (Halted p h) v = HaltsIn (IsAt E inf main u) p h v
