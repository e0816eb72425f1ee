-- Equality is a congruence, and contains the steps.
use Rattle.std.proofs.Common.{ℕ, List, ◌∷◌, Some, None}
use Rattle.pc_terms.specs.declared.leaf.FamilyId.{FamilyId}
use Rattle.pc_terms.specs.Syntax.{Slot, End, Child, Group, Done, Next, Term, Terms, Children, Prod, Lambda, LetIn, App, Case, Fix}
use Rattle.calculus_rules.specs.Environment.{Env}
use Rattle.calculus_rules.specs.Context.{Values, under}
use Rattle.calculus_rules.specs.Step.{Step, StepIn, StepTerms}
use Rattle.calculus_rules.specs.Step as steps
use Rattle.calculus_rules.specs.Conversion.{Equal, EqualChildren, EqualTerms, step, same, chain, inside, let_body, end, and, group, done, next}

mutual
  pub same_children : {E : Env} {V : Values} {ss : List Slot} (ts : Children ss) → EqualChildren E V ss ts ts
  same_children End = end
  same_children (Child t ts) = and same (same_children ts)
  same_children (Group us ts) = group (same_terms us) (same_children ts)

  pub same_terms : {E : Env} {V : Values} (ts : Terms) → EqualTerms E V ts ts
  same_terms Done = done
  same_terms (Next n t ts) = next same (same_terms ts)

mutual
  pub step_equal : {E : Env} {V : Values} {t u : Term} → Step E V t u → Equal E V t u
  step_equal (steps.root r) = step r
  step_equal (steps.inside p) = inside (step_equal_in p)
  step_equal (steps.let_body p) = let_body (step_equal p)

  pub step_equal_in : {E : Env} {V : Values} {ss : List Slot} {ts us : Children ss} → StepIn E V ss ts us → EqualChildren E V ss ts us
  step_equal_in (steps.in_child {ts = ts} p) = and (step_equal p) (same_children ts)
  step_equal_in (steps.in_group {ts = ts} p) = group (step_equal_terms p) (same_children ts)
  step_equal_in (steps.past_child p) = and same (step_equal_in p)
  step_equal_in (steps.past_group {ps = ps} p) = group (same_terms ps) (step_equal_in p)

  pub step_equal_terms : {E : Env} {V : Values} {ts us : Terms} → StepTerms E V ts us → EqualTerms E V ts us
  step_equal_terms (steps.in_first {ts = ts} p) = next (step_equal p) (same_terms ts)
  step_equal_terms (steps.in_rest p) = next same (step_equal_terms p)

pub equal_products : (E : Env) (V : Values) (A A' B B' : Term) → Equal E V A A' → Equal E (None ∷ V) B B' → Equal E V (Prod A B) (Prod A' B')
equal_products E V A A' B B' p q = inside (and p (and q end))

pub equal_lambdas : (E : Env) (V : Values) (A A' b b' : Term) → Equal E V A A' → Equal E (None ∷ V) b b' → Equal E V (Lambda A b) (Lambda A' b')
equal_lambdas E V A A' b b' p q = inside (and p (and q end))

pub equal_lets : (E : Env) (V : Values) (b b' B B' t t' : Term) → Equal E V b b' → Equal E V B B' → Equal E (Some b ∷ V) t t' →
    Equal E V (LetIn b B t) (LetIn b' B' t')
equal_lets E V b b' B B' t t' p q r = chain (let_body r) (inside (and p (and q (and same end))))

pub equal_applications : (E : Env) (V : Values) (f f' a a' : Term) → Equal E V f f' → Equal E V a a' → Equal E V (App f a) (App f' a')
equal_applications E V f f' a a' p q = inside (and p (and q end))

pub equal_matches : (E : Env) (V : Values) (f : FamilyId) (n : ℕ) (ps ps' bs bs' : Terms) (ret ret' s s' : Term) → EqualTerms E V ps ps' →
    Equal E (under n V) ret ret' → Equal E V s s' → EqualTerms E V bs bs' → Equal E V (Case f ps n ret s bs) (Case f ps' n ret' s' bs')
equal_matches E V f n ps ps' bs bs' ret ret' s s' p q r h = inside (group p (and q (and r (group h end))))

pub equal_fixpoints : (E : Env) (V : Values) (i : ℕ) (rargs : List ℕ) (types types' bodies bodies' : Terms) → EqualTerms E V types types' →
    EqualTerms E V bodies bodies' → Equal E V (Fix i rargs types bodies) (Fix i rargs types' bodies')
equal_fixpoints E V i rargs types types' bodies bodies' p q = inside (group p (group q end))
