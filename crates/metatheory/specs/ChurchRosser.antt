-- Church-Rosser (PCUIC, POPL 2020, section 3: confluence): two terms are equal exactly where they reduce to terms that are the same but for sorts that are at most each other.
use Rattle.std.specs.Prelude.{ℕ, List, [], ◌∷◌}
use Rattle.universe_levels.specs.declared.sort.Sort.{Sort}
use Rattle.pc_terms.specs.Syntax.{Slot, Under, Lists, slots, Term, Terms, Children, End, Child, Group, Done, Next, Label, Rel, Node, SortT}
use Rattle.calculus_rules.specs.Environment.{Env, SortEntails}
use Rattle.calculus_rules.specs.Context.{Values}
use Rattle.calculus_rules.specs.Conversion.{Equal}
use Rattle.calculus_rules.specs.Accepted.{IsAccepted}
use Rattle.type_laws.specs.Contexts.{Reduces}

-- the same but for sorts: at each place where one has a sort the other has one that entails it and is entailed by it
mutual
  pub data Alike (E : Env) : Term → Term → Type 0 where
    rel : {i : ℕ} → Alike E (Rel i) (Rel i)
    sorts : {s s' : Sort} → SortEntails E s s' → SortEntails E s' s → Alike E (SortT s) (SortT s')
    node : {l : Label} {ts us : Children (slots l)} → AlikeIn E (slots l) ts us → Alike E (Node l ts) (Node l us)

  pub data AlikeIn (E : Env) : (ss : List Slot) → Children ss → Children ss → Type 0 where
    end : AlikeIn E [] End End
    and : {n : ℕ} {ss : List Slot} {t u : Term} {ts us : Children ss} → Alike E t u → AlikeIn E ss ts us → AlikeIn E (Under n ∷ ss) (Child t ts) (Child u us)
    group : {ss : List Slot} {ps qs : Terms} {ts us : Children ss} → AlikeTerms E ps qs → AlikeIn E ss ts us → AlikeIn E (Lists ∷ ss) (Group ps ts) (Group qs us)

  pub data AlikeTerms (E : Env) : Terms → Terms → Type 0 where
    done : AlikeTerms E Done Done
    next : {n : ℕ} {t u : Term} {ts us : Terms} → Alike E t u → AlikeTerms E ts us → AlikeTerms E (Next n t ts) (Next n u us)

-- reducts of two terms, by any number of steps of reduction each, that are the same but for sorts
pub record HaveAlikeReducts (E : Env) (V : Values) (t u : Term) : Type 0 where
  pub left : Term
  pub right : Term
  pub from_left : Reduces E V t left
  pub from_right : Reduces E V u right
  pub alike : Alike E left right

-- equal terms have them
abbrev pub EqualTermsMeet : Type 0
EqualTermsMeet = (E : Env) → IsAccepted E → (V : Values) (t u : Term) → Equal E V t u → HaveAlikeReducts E V t u

-- and terms that have them are equal
abbrev pub MeetingTermsAreEqual : Type 0
MeetingTermsAreEqual = (E : Env) (V : Values) (t u : Term) → HaveAlikeReducts E V t u → Equal E V t u

-- reduction is confluent: two reducts of a term have them
abbrev pub ReductionIsConfluent : Type 0
ReductionIsConfluent =
    (E : Env) → IsAccepted E → (V : Values) (t u w : Term) → Reduces E V t u → Reduces E V t w → HaveAlikeReducts E V u w
