-- Parallel reduction in an environment: a term's parts take a step each, and then the term itself may take a step at its root. It knows no values of a context.
use Rattle.std.specs.Prelude.{ℕ, List, [], ◌∷◌}
use Rattle.universe_levels.specs.declared.sort.Sort.{Sort}
use Rattle.pc_terms.specs.Syntax.{Slot, Under, Lists, slots, Term, Terms, Children, End, Child, Group, Done, Next, Label, Rel, Node, SortT}
use Rattle.calculus_rules.specs.Environment.{Env, SortEntails}
use Rattle.calculus_rules.specs.Step.{Root}

mutual
  pub data Par (E : Env) : Term → Term → Type 0 where
    rel : {i : ℕ} → Par E (Rel i) (Rel i)
    sorts : {s s' : Sort} → SortEntails E s s' → SortEntails E s' s → Par E (SortT s) (SortT s')
    inside : {l : Label} {ts us : Children (slots l)} → ParIn E (slots l) ts us → Par E (Node l ts) (Node l us)
    contract : {l : Label} {ts us : Children (slots l)} {w : Term} → ParIn E (slots l) ts us → Root E [] (Node l us) w → Par E (Node l ts) w

  pub data ParIn (E : Env) : (ss : List Slot) → Children ss → Children ss → Type 0 where
    end : ParIn E [] End End
    and : {n : ℕ} {ss : List Slot} {t u : Term} {ts us : Children ss} → Par E t u → ParIn E ss ts us → ParIn E (Under n ∷ ss) (Child t ts) (Child u us)
    group : {ss : List Slot} {ps qs : Terms} {ts us : Children ss} → ParTerms E ps qs → ParIn E ss ts us → ParIn E (Lists ∷ ss) (Group ps ts) (Group qs us)

  pub data ParTerms (E : Env) : Terms → Terms → Type 0 where
    done : ParTerms E Done Done
    next : {n : ℕ} {t u : Term} {ts us : Terms} → Par E t u → ParTerms E ts us → ParTerms E (Next n t ts) (Next n u us)

-- a step of each term of a list
pub data ParEach (E : Env) : List Term → List Term → Type 0 where
  each_none : ParEach E [] []
  each_one : {t u : Term} {ts us : List Term} → Par E t u → ParEach E ts us → ParEach E (t ∷ ts) (u ∷ us)

-- several steps
pub data Steps (E : Env) : Term → Term → Type 0 where
  none : {t : Term} → Steps E t t
  more : {t u w : Term} → Par E t u → Steps E u w → Steps E t w

-- two terms have a common reduct
pub record Convertible (E : Env) (t u : Term) : Type 0 where
  pub common : Term
  pub left : Steps E t common
  pub right : Steps E u common
