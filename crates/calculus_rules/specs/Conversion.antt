-- Equality and cumulativity (PCUIC, POPL 2020, section 2.2: conversion and cumulativity).
use Rattle.std.specs.Prelude.{ℕ, List, [], ◌∷◌, Some, None}
use Rattle.universe_levels.specs.declared.sort.Sort.{Sort}
use Rattle.pc_terms.specs.Syntax.{Slot, Under, Lists, slots, Term, Children, End, Child, Group, Terms, Done, Next, Label, Node, SortT, Prod, LetIn}
use Rattle.calculus_rules.specs.Environment.{Env, SortEntails}
use Rattle.calculus_rules.specs.Context.{Values, under}
use Rattle.calculus_rules.specs.Step.{Root}

-- equality: the least congruent equivalence that contains the steps and relates two sorts that entail each other
mutual
  pub data Equal (E : Env) : Values → Term → Term → Type 0 where
    step : {V : Values} {t u : Term} → Root E V t u → Equal E V t u
    sorts : {V : Values} {s s' : Sort} → SortEntails E s s' → SortEntails E s' s → Equal E V (SortT s) (SortT s')
    same : {V : Values} {t : Term} → Equal E V t t
    back : {V : Values} {t u : Term} → Equal E V t u → Equal E V u t
    chain : {V : Values} {t u w : Term} → Equal E V t u → Equal E V u w → Equal E V t w
    inside : {V : Values} {l : Label} {ts us : Children (slots l)} → EqualChildren E V (slots l) ts us → Equal E V (Node l ts) (Node l us)
    let_body : {V : Values} {b B t u : Term} → Equal E (Some b ∷ V) t u → Equal E V (LetIn b B t) (LetIn b B u)

  pub data EqualChildren (E : Env) : Values → (ss : List Slot) → Children ss → Children ss → Type 0 where
    end : {V : Values} → EqualChildren E V [] End End
    and : {V : Values} {n : ℕ} {ss : List Slot} {t u : Term} {ts us : Children ss} → Equal E (under n V) t u → EqualChildren E V ss ts us →
        EqualChildren E V (Under n ∷ ss) (Child t ts) (Child u us)
    group : {V : Values} {ss : List Slot} {ps qs : Terms} {ts us : Children ss} → EqualTerms E V ps qs → EqualChildren E V ss ts us →
        EqualChildren E V (Lists ∷ ss) (Group ps ts) (Group qs us)

  pub data EqualTerms (E : Env) : Values → Terms → Terms → Type 0 where
    done : {V : Values} → EqualTerms E V Done Done
    next : {V : Values} {n : ℕ} {t u : Term} {ts us : Terms} → Equal E (under n V) t u → EqualTerms E V ts us →
        EqualTerms E V (Next n t ts) (Next n u us)

-- below: the least preorder that contains equality, entailment of sorts, and two products with equal domains whose codomains are below
pub data Below (E : Env) : Values → Term → Term → Type 0 where
  equal : {V : Values} {t u : Term} → Equal E V t u → Below E V t u
  sort : {V : Values} {s s' : Sort} → SortEntails E s s' → Below E V (SortT s) (SortT s')
  product : {V : Values} {A A' B B' : Term} → Equal E V A A' → Below E (None ∷ V) B B' → Below E V (Prod A B) (Prod A' B')
  chain : {V : Values} {t u w : Term} → Below E V t u → Below E V u w → Below E V t w
