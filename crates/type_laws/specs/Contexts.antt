-- Well-formed contexts (PCUIC, POPL 2020, section 2.3), by bare types: each entry has a sort under the ones outside it, and a value has its entry's type.
use Rattle.std.specs.Prelude.{[], ◌∷◌}
use Rattle.universe_levels.specs.declared.sort.Sort.{Sort}
use Rattle.pc_terms.specs.Syntax.{Term, SortT}
use Rattle.calculus_rules.specs.declared.entry.Entry.TheVariants.{Assumed, Defined}
use Rattle.calculus_rules.specs.Environment.{Env}
use Rattle.calculus_rules.specs.Context.{Context, Values}
use Rattle.calculus_rules.specs.Step.{Step}
use Rattle.calculus_rules.specs.Typing.{bare, Types}

-- the term has a sort
abbrev pub HasSort : Env → Context → Term → Type 0
HasSort E c T = (s : Sort) × Types bare E c T (SortT s)

pub data IsContext (E : Env) : Context → Type 0 where
  empty : IsContext E []
  assume : {c : Context} {A : Term} → IsContext E c → HasSort E c A → IsContext E (Assumed A ∷ c)
  define : {c : Context} {b B : Term} → IsContext E c → HasSort E c B → Types bare E c b B → IsContext E (Defined b B ∷ c)

-- several steps of reduction
pub data Reduces (E : Env) (V : Values) : Term → Term → Type 0 where
  none : {t : Term} → Reduces E V t t
  more : {t u w : Term} → Step E V t u → Reduces E V u w → Reduces E V t w
