-- Convertibility is an equivalence, a congruence, and kept by substitution.
use Rattle.std.proofs.Common.{◌≡◌, ℕ, List, [], ◌∷◌, subst}
use Rattle.pc_terms.specs.Syntax.{Slot, Under, Lists, slots, Term, Terms, Children, End, Child, Group, Done, Next, Node, Label, substitute}
use Rattle.calculus_rules.specs.Environment.{Env}
use Rattle.equality_laws.proofs.Roots.{Settled}
use Rattle.equality_laws.proofs.Reducing.{Par, inside, ParIn, ParTerms, Steps, none, more, Convertible}
use Rattle.equality_laws.proofs.Substituted.{par_same, par_in_same, par_terms_same, par_substituted}
use Rattle.equality_laws.proofs.Confluence.{confluent}

-- an equivalence

pub steps_then : {E : Env} (t u w : Term) → Steps E t u → Steps E u w → Steps E t w
steps_then t u w none q = q
steps_then t u w (more {u = x} p ps) q = more p (steps_then x u w ps q)

pub convertible_same : {E : Env} (t : Term) → Convertible E t t
convertible_same t = record { common = t; left = none; right = none }

pub convertible_is : {E : Env} (t u : Term) → t ≡ u → Convertible E t u
convertible_is {E} t u e = subst (λ u. Convertible E t u) e (convertible_same t)

pub convertible_back : {E : Env} (t u : Term) → Convertible E t u → Convertible E u t
convertible_back t u h = record { common = h.common; left = h.right; right = h.left }

pub convertible_then : {E : Env} → Settled E → (t u w : Term) → Convertible E t u → Convertible E u w → Convertible E t w
convertible_then d t u w h g =
    let m = confluent d u h.common g.common h.right g.left in
    record { common = m.common; left = steps_then t h.common m.common h.left m.left; right = steps_then w g.common m.common g.right m.right }

pub of_steps : {E : Env} (t u : Term) → Steps E t u → Convertible E t u
of_steps t u p = record { common = u; left = p; right = none }

pub of_par : {E : Env} (t u : Term) → Par E t u → Convertible E t u
of_par t u p = of_steps t u (more p none)

-- kept by substitution

pub steps_substituted : {E : Env} → Settled E → (s : ℕ → Term) (t u : Term) → Steps E t u → Steps E (substitute s t) (substitute s u)
steps_substituted d s t u none = none
steps_substituted d s t u (more {u = x} p ps) = more (par_substituted d s s t x (λ i. par_same (s i)) p) (steps_substituted d s x u ps)

pub convertible_substituted : {E : Env} → Settled E → (s : ℕ → Term) (t u : Term) → Convertible E t u → Convertible E (substitute s t) (substitute s u)
convertible_substituted d s t u h =
    record { common = substitute s h.common; left = steps_substituted d s t h.common h.left; right = steps_substituted d s u h.common h.right }

-- a congruence: first several steps of the children of a node, and of a list

pub data StepsIn (E : Env) (ss : List Slot) : Children ss → Children ss → Type 0 where
  none_in : {ts : Children ss} → StepsIn E ss ts ts
  more_in : {ts us ws : Children ss} → ParIn E ss ts us → StepsIn E ss us ws → StepsIn E ss ts ws

pub data StepsTerms (E : Env) : Terms → Terms → Type 0 where
  none_each : {ts : Terms} → StepsTerms E ts ts
  more_each : {ts us ws : Terms} → ParTerms E ts us → StepsTerms E us ws → StepsTerms E ts ws

pub steps_node : {E : Env} (l : Label) (ts us : Children (slots l)) → StepsIn E (slots l) ts us → Steps E (Node l ts) (Node l us)
steps_node l ts us none_in = none
steps_node l ts us (more_in {us = xs} p ps) = more (inside p) (steps_node l xs us ps)

-- the children after the first one step, and then the first one does too

steps_after : {E : Env} (n : ℕ) (ss : List Slot) (t : Term) (ts us : Children ss) → StepsIn E ss ts us → StepsIn E (Under n ∷ ss) (Child t ts) (Child t us)
steps_after n ss t ts us none_in = none_in
steps_after n ss t ts us (more_in {us = xs} p ps) = more_in (ParIn.and (par_same t) p) (steps_after n ss t xs us ps)

pub steps_child : {E : Env} (n : ℕ) (ss : List Slot) (t u : Term) (ts us : Children ss) → Steps E t u → StepsIn E ss ts us → StepsIn E (Under n ∷ ss) (Child t ts) (Child u us)
steps_child n ss t u ts us none qs = steps_after n ss t ts us qs
steps_child n ss t u ts us (more {u = x} p ps) qs = more_in (ParIn.and p (par_in_same ss ts)) (steps_child n ss x u ts us ps qs)

steps_after_group : {E : Env} (ss : List Slot) (xs : Terms) (ts us : Children ss) → StepsIn E ss ts us → StepsIn E (Lists ∷ ss) (Group xs ts) (Group xs us)
steps_after_group ss xs ts us none_in = none_in
steps_after_group ss xs ts us (more_in {us = ws} p ps) = more_in (ParIn.group (par_terms_same xs) p) (steps_after_group ss xs ws us ps)

steps_group : {E : Env} (ss : List Slot) (xs ys : Terms) (ts us : Children ss) → StepsTerms E xs ys → StepsIn E ss ts us → StepsIn E (Lists ∷ ss) (Group xs ts) (Group ys us)
steps_group ss xs ys ts us none_each qs = steps_after_group ss xs ts us qs
steps_group ss xs ys ts us (more_each {us = zs} p ps) qs = more_in (ParIn.group p (par_in_same ss ts)) (steps_group ss zs ys ts us ps qs)

steps_after_item : {E : Env} (n : ℕ) (t : Term) (ts us : Terms) → StepsTerms E ts us → StepsTerms E (Next n t ts) (Next n t us)
steps_after_item n t ts us none_each = none_each
steps_after_item n t ts us (more_each {us = xs} p ps) = more_each (ParTerms.next (par_same t) p) (steps_after_item n t xs us ps)

steps_item : {E : Env} (n : ℕ) (t u : Term) (ts us : Terms) → Steps E t u → StepsTerms E ts us → StepsTerms E (Next n t ts) (Next n u us)
steps_item n t u ts us none qs = steps_after_item n t ts us qs
steps_item n t u ts us (more {u = x} p ps) qs = more_each (ParTerms.next p (par_terms_same ts)) (steps_item n x u ts us ps qs)

-- convertible children, each with a common reduct
mutual
  pub data ConvertibleIn (E : Env) : (ss : List Slot) → Children ss → Children ss → Type 0 where
    end : ConvertibleIn E [] End End
    and : {n : ℕ} {ss : List Slot} {t u : Term} {ts us : Children ss} → Convertible E t u → ConvertibleIn E ss ts us → ConvertibleIn E (Under n ∷ ss) (Child t ts) (Child u us)
    group : {ss : List Slot} {ps qs : Terms} {ts us : Children ss} → ConvertibleTerms E ps qs → ConvertibleIn E ss ts us → ConvertibleIn E (Lists ∷ ss) (Group ps ts) (Group qs us)

  pub data ConvertibleTerms (E : Env) : Terms → Terms → Type 0 where
    done : ConvertibleTerms E Done Done
    next : {n : ℕ} {t u : Term} {ts us : Terms} → Convertible E t u → ConvertibleTerms E ts us → ConvertibleTerms E (Next n t ts) (Next n u us)

record MetIn (E : Env) (ss : List Slot) (ts us : Children ss) : Type 0 where
  common : Children ss
  left : StepsIn E ss ts common
  right : StepsIn E ss us common

record MetTerms (E : Env) (ts us : Terms) : Type 0 where
  common : Terms
  left : StepsTerms E ts common
  right : StepsTerms E us common

met_terms : {E : Env} (ts us : Terms) → ConvertibleTerms E ts us → MetTerms E ts us
met_terms ts us done = record { common = Done; left = none_each; right = none_each }
met_terms ts us (next {n = n} {t = t} {u = u} {ts = xs} {us = ys} h g) =
    let m = met_terms xs ys g in
    record { common = Next n h.common m.common; left = steps_item n t h.common xs m.common h.left m.left; right = steps_item n u h.common ys m.common h.right m.right }

met_in : {E : Env} (ss : List Slot) (ts us : Children ss) → ConvertibleIn E ss ts us → MetIn E ss ts us
met_in ss ts us end = record { common = End; left = none_in; right = none_in }
met_in ss ts us (and {n = n} {ss = rest} {t = t} {u = u} {ts = xs} {us = ys} h g) =
    let m = met_in rest xs ys g in
    record {
      common = Child h.common m.common;
      left = steps_child n rest t h.common xs m.common h.left m.left;
      right = steps_child n rest u h.common ys m.common h.right m.right;
    }
met_in ss ts us (group {ss = rest} {ps = ps} {qs = qs} {ts = xs} {us = ys} h g) =
    let l = met_terms ps qs h in
    let m = met_in rest xs ys g in
    record {
      common = Group l.common m.common;
      left = steps_group rest ps l.common xs m.common l.left m.left;
      right = steps_group rest qs l.common ys m.common l.right m.right;
    }

pub convertible_node : {E : Env} (l : Label) (ts us : Children (slots l)) → ConvertibleIn E (slots l) ts us → Convertible E (Node l ts) (Node l us)
convertible_node l ts us h =
    let m = met_in (slots l) ts us h in
    record { common = Node l m.common; left = steps_node l ts m.common m.left; right = steps_node l us m.common m.right }
