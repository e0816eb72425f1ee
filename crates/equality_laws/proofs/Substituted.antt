-- Parallel reduction is reflexive, is kept by renaming and substitution, and finds each item of a list.
use Rattle.std.proofs.Common.{◌≡◌, ℕ, zero, suc, ◌+◌, List, [], Option, Some, length, refl, ap, subst}
use Rattle.pc_terms.specs.Syntax.{Slot, slots, Term, Terms, Children, End, Child, Group, Done, Next, Rel, Node, App, rename, overs, substitute, substitute_children, substitute_terms, first, put, put_all, term_at, apply}
use Rattle.calculus_rules.specs.Environment.{Env}
use Rattle.calculus_rules.specs.Instances.{unfolded, fixpoints}
use Rattle.calculus_rules.specs.Step.{Root, variable}
use Rattle.trees.proofs.Fusion.{substitute_rel}
use Rattle.trees.proofs.Cutoffs.{overs_sum}
use Rattle.equality_laws.proofs.Reducing.{Par, ParIn, ParTerms, ParEach, rel, sorts, inside, contract, end, and, group, done, next, each_none, each_one}
use Rattle.equality_laws.proofs.Roots.{Settled, root_substituted}

-- reflexive

mutual
  pub par_same : {E : Env} (t : Term) → Par E t t
  par_same (Rel i) = rel
  par_same (Node l ts) = inside (par_in_same (slots l) ts)

  pub par_in_same : {E : Env} (ss : List Slot) (ts : Children ss) → ParIn E ss ts ts
  par_in_same ss End = end
  par_in_same ss (Child {ss = rest} t ts) = and (par_same t) (par_in_same rest ts)
  par_in_same ss (Group {ss = rest} us ts) = group (par_terms_same us) (par_in_same rest ts)

  pub par_terms_same : {E : Env} (ts : Terms) → ParTerms E ts ts
  par_terms_same Done = done
  par_terms_same (Next n t ts) = next (par_same t) (par_terms_same ts)

-- along equations of both sides
pub par_is : {E : Env} {t t' u u' : Term} → t ≡ t' → u ≡ u' → Par E t u → Par E t' u'
par_is {E} {t} {t'} {u} {u'} e f p = subst (λ u. Par E t' u) f (subst (λ t. Par E t u) e p)

-- a step at the root, without values, is one
pub of_root : {E : Env} (t u : Term) → Root E [] t u → Par E t u
of_root (Rel i) u (variable e) = absurd (cc)
of_root (Node l ts) u r = contract (par_in_same (slots l) ts) r

-- an item is known by its place
pub same_item : (m n : ℕ) (t u : Term) → ◌≡◌ {A = Option (ℕ × Term)} (Some (m, t)) (Some (n, u)) → (m ≡ n) × (t ≡ u)
same_item m n t u e =
    let pairs : ◌≡◌ {A = ℕ × Term} (m, t) (n, u) = cc in
    (ap (λ p. p.0) pairs, ap (λ p. p.1) pairs)

-- the item at a place has its reduct there
pub record ItemReduced (E : Env) (us : Terms) (i n : ℕ) (t : Term) : Type 0 where
  pub item : Term
  pub at : term_at us i ≡ Some (n, item)
  pub reduced : Par E t item

pub item_reduced : {E : Env} (ts us : Terms) (i n : ℕ) (t : Term) → ParTerms E ts us → term_at ts i ≡ Some (n, t) → ItemReduced E us i n t
item_reduced ts us i n t done e = absurd (cc)
item_reduced ts us zero n t (next {n = m} {t = a} {u = b} p ps) e =
    let (number, same) = same_item m n a t e in
    record { item = b; at = ap (λ m. Some (m, b)) number; reduced = par_is same refl p }
item_reduced ts us (suc i) n t (next {ts = xs} {us = ys} p ps) e =
    let found = item_reduced xs ys i n t ps e in
    record { item = found.item; at = found.at; reduced = found.reduced }

-- substitutions that are related under any number of variables more: renamings among them, of which that holds before it is known of all

abbrev Related : Env → (ℕ → Term) → (ℕ → Term) → Type 0
Related E s s' = (b i : ℕ) → Par E (overs b s i) (overs b s' i)

related_under : {E : Env} (n : ℕ) (s s' : ℕ → Term) → Related E s s' → Related E (overs n s) (overs n s')
related_under n s s' h b i = par_is (ap (λ q. q i) (overs_sum b n s)) (ap (λ q. q i) (overs_sum b n s')) (h (b + n) i)

mutual
  par_related : {E : Env} → Settled E → {t u : Term} → Par E t u → (s s' : ℕ → Term) → Related E s s' → Par E (substitute s t) (substitute s' u)
  par_related d (rel {i = i}) s s' h = h 0 i
  par_related d (sorts p q) s s' h = sorts p q
  par_related d (inside p) s s' h = inside (par_in_related d p s s' h)
  par_related d (contract p r) s s' h = contract (par_in_related d p s s' h) (root_substituted d r s')

  par_in_related : {E : Env} → Settled E → {ss : List Slot} {ts us : Children ss} → ParIn E ss ts us → (s s' : ℕ → Term) → Related E s s' → ParIn E ss (substitute_children s ts) (substitute_children s' us)
  par_in_related d end s s' h = end
  par_in_related d (and {n = n} p ps) s s' h = and (par_related d p (overs n s) (overs n s') (related_under n s s' h)) (par_in_related d ps s s' h)
  par_in_related d (group p ps) s s' h = group (par_terms_related d p s s' h) (par_in_related d ps s s' h)

  par_terms_related : {E : Env} → Settled E → {ts us : Terms} → ParTerms E ts us → (s s' : ℕ → Term) → Related E s s' → ParTerms E (substitute_terms s ts) (substitute_terms s' us)
  par_terms_related d done s s' h = done
  par_terms_related d (next {n = n} p ps) s s' h = next (par_related d p (overs n s) (overs n s') (related_under n s s' h)) (par_terms_related d ps s s' h)

-- renaming

related_renaming : {E : Env} (r : ℕ → ℕ) → Related E (λ j. Rel (r j)) (λ j. Rel (r j))
related_renaming r b i = par_same (overs b (λ j. Rel (r j)) i)

pub par_renamed : {E : Env} → Settled E → (r : ℕ → ℕ) (t u : Term) → Par E t u → Par E (rename r t) (rename r u)
par_renamed d r t u p = par_is (substitute_rel t r) (substitute_rel u r) (par_related d p (λ j. Rel (r j)) (λ j. Rel (r j)) (related_renaming r))

-- substitution

related_each : {E : Env} → Settled E → (s s' : ℕ → Term) → ((i : ℕ) → Par E (s i) (s' i)) → Related E s s'
related_each d s s' f zero i = f i
related_each d s s' f (suc b) zero = rel
related_each d s s' f (suc b) (suc i) = par_renamed d suc (overs b s i) (overs b s' i) (related_each d s s' f b i)

pub par_substituted : {E : Env} → Settled E → (s s' : ℕ → Term) (t u : Term) → ((i : ℕ) → Par E (s i) (s' i)) → Par E t u → Par E (substitute s t) (substitute s' u)
par_substituted d s s' t u f p = par_related d p s s' (related_each d s s' f)

par_first : {E : Env} (a a' : Term) (s s' : ℕ → Term) → Par E a a' → ((i : ℕ) → Par E (s i) (s' i)) → (i : ℕ) → Par E (first a s i) (first a' s' i)
par_first a a' s s' p f zero = p
par_first a a' s s' p f (suc i) = f i

-- one term put in
pub par_put : {E : Env} → Settled E → (a a' b b' : Term) → Par E a a' → Par E b b' → Par E (substitute (put a) b) (substitute (put a') b')
par_put d a a' b b' p q = par_substituted d (put a) (put a') b b' (par_first a a' Rel Rel p (λ i. rel)) q

-- several terms put in

put_each : {E : Env} {xs ys : List Term} → ParEach E xs ys → (s s' : ℕ → Term) → ((i : ℕ) → Par E (s i) (s' i)) → (i : ℕ) → Par E (put_all xs s i) (put_all ys s' i)
put_each each_none s s' f i = f i
put_each (each_one {t = x} {u = y} p ps) s s' f i = put_each ps (first x s) (first y s') (par_first x y s s' p f) i

pub par_put_all : {E : Env} → Settled E → (xs ys : List Term) (b b' : Term) → ParEach E xs ys → Par E b b' → Par E (substitute (put_all xs Rel) b) (substitute (put_all ys Rel) b')
par_put_all d xs ys b b' ps q = par_substituted d (put_all xs Rel) (put_all ys Rel) b b' (put_each ps Rel Rel (λ i. rel)) q

-- the fixpoints put in

par_fixpoints : {E : Env} (k n : ℕ) (rargs : List ℕ) (types types' bodies bodies' : Terms) → ParTerms E types types' → ParTerms E bodies bodies' →
    ParEach E (fixpoints k n rargs types bodies) (fixpoints k n rargs types' bodies')
par_fixpoints k zero rargs types types' bodies bodies' p q = each_none
par_fixpoints k (suc n) rargs types types' bodies bodies' p q = each_one (inside (group p (group q end))) (par_fixpoints (suc k) n rargs types types' bodies bodies' p q)

pub par_unfolded : {E : Env} → Settled E → (rargs : List ℕ) (types types' bodies bodies' : Terms) (body body' : Term) → ParTerms E types types' → ParTerms E bodies bodies' → Par E body body' →
    Par E (unfolded rargs types bodies body) (unfolded rargs types' bodies' body')
par_unfolded d rargs types types' bodies bodies' body body' p q r =
    par_put_all d (fixpoints 0 (length rargs) rargs types bodies) (fixpoints 0 (length rargs) rargs types' bodies') body body'
    (par_fixpoints 0 (length rargs) rargs types types' bodies bodies' p q) r

-- applied to several arguments

pub par_app : {E : Env} {f g a b : Term} → Par E f g → Par E a b → Par E (App f a) (App g b)
par_app p q = inside (and p (and q end))

pub par_apply : {E : Env} (f g : Term) (xs ys : List Term) → Par E f g → ParEach E xs ys → Par E (apply f xs) (apply g ys)
par_apply f g xs ys p each_none = p
par_apply f g xs ys p (each_one {t = x} {u = y} {ts = xs'} {us = ys'} q qs) = par_apply (App f x) (App g y) xs' ys' (par_app p q) qs
