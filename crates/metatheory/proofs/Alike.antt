-- Terms that are the same but for sorts which are at most each other: it is an equivalence, substitution keeps it, and a step at the root of one is a step of the other.
use Rattle.std.proofs.Common.{◌≡◌, ℕ, zero, suc, ◌+◌, List, [], ◌∷◌, ◌++◌, Some, length, refl, sym, ap, ◌∙◌, subst}
use Rattle.pc_terms.specs.declared.leaf.FamilyId.{FamilyId}
use Rattle.pc_terms.specs.Syntax.{Slot, slots, Term, Terms, Children, End, Child, Group, Done, Next, Label, Rel, Node, App, Construct, Fix, rename, overs, substitute, substitute_children, substitute_terms, first, put, put_all, term_at, apply}
use Rattle.calculus_rules.specs.Environment.{Env}
use Rattle.calculus_rules.specs.Instances.{unfolded, fixpoints}
use Rattle.calculus_rules.specs.Step.{IsConstructor, is_constructor, Root, beta, zeta, constant, matched, fixpoint}
use Rattle.trees.proofs.Fusion.{substitute_rel}
use Rattle.trees.proofs.Cutoffs.{overs_sum}
use Rattle.equality_laws.proofs.Substituted.{same_item}
use Rattle.metatheory.specs.ChurchRosser.{Alike, AlikeIn, AlikeTerms, rel, sorts, node, end, and, group, done, next}

pub data AlikeEach (E : Env) : List Term → List Term → Type 0 where
  each_none : AlikeEach E [] []
  each_one : {t u : Term} {ts us : List Term} → Alike E t u → AlikeEach E ts us → AlikeEach E (t ∷ ts) (u ∷ us)

module _ (E : Env) where
  mutual
    pub alike_same : (t : Term) → Alike E t t
    alike_same (Rel i) = rel
    alike_same (Node l ts) = node (alike_in_same (slots l) ts)

    alike_in_same : (ss : List Slot) (ts : Children ss) → AlikeIn E ss ts ts
    alike_in_same ss End = end
    alike_in_same ss (Child {ss = rest} t ts) = and (alike_same t) (alike_in_same rest ts)
    alike_in_same ss (Group {ss = rest} us ts) = group (alike_terms_same us) (alike_in_same rest ts)

    alike_terms_same : (ts : Terms) → AlikeTerms E ts ts
    alike_terms_same Done = done
    alike_terms_same (Next n t ts) = next (alike_same t) (alike_terms_same ts)

  pub alike_is : {t t' u u' : Term} → t ≡ t' → u ≡ u' → Alike E t u → Alike E t' u'
  alike_is {t} {t'} {u} {u'} e f p = subst (λ u. Alike E t' u) f (subst (λ t. Alike E t u) e p)

  -- substitutions that are related under any number of variables more: renamings among them, of which that holds before it is known of all

  abbrev Related : (ℕ → Term) → (ℕ → Term) → Type 0
  Related s s' = (b i : ℕ) → Alike E (overs b s i) (overs b s' i)

  related_under : (n : ℕ) (s s' : ℕ → Term) → Related s s' → Related (overs n s) (overs n s')
  related_under n s s' h b i = alike_is (ap (λ q. q i) (overs_sum b n s)) (ap (λ q. q i) (overs_sum b n s')) (h (b + n) i)

  mutual
    alike_related : {t u : Term} → Alike E t u → (s s' : ℕ → Term) → Related s s' → Alike E (substitute s t) (substitute s' u)
    alike_related (rel {i = i}) s s' h = h 0 i
    alike_related (sorts p q) s s' h = sorts p q
    alike_related (node p) s s' h = node (alike_in_related p s s' h)

    alike_in_related : {ss : List Slot} {ts us : Children ss} → AlikeIn E ss ts us → (s s' : ℕ → Term) → Related s s' → AlikeIn E ss (substitute_children s ts) (substitute_children s' us)
    alike_in_related end s s' h = end
    alike_in_related (and {n = n} p ps) s s' h = and (alike_related p (overs n s) (overs n s') (related_under n s s' h)) (alike_in_related ps s s' h)
    alike_in_related (group p ps) s s' h = group (alike_terms_related p s s' h) (alike_in_related ps s s' h)

    alike_terms_related : {ts us : Terms} → AlikeTerms E ts us → (s s' : ℕ → Term) → Related s s' → AlikeTerms E (substitute_terms s ts) (substitute_terms s' us)
    alike_terms_related done s s' h = done
    alike_terms_related (next {n = n} p ps) s s' h = next (alike_related p (overs n s) (overs n s') (related_under n s s' h)) (alike_terms_related ps s s' h)

  related_renaming : (r : ℕ → ℕ) → Related (λ j. Rel (r j)) (λ j. Rel (r j))
  related_renaming r b i = alike_same (overs b (λ j. Rel (r j)) i)

  alike_renamed : (r : ℕ → ℕ) (t u : Term) → Alike E t u → Alike E (rename r t) (rename r u)
  alike_renamed r t u p = alike_is (substitute_rel t r) (substitute_rel u r) (alike_related p (λ j. Rel (r j)) (λ j. Rel (r j)) (related_renaming r))

  related_each : (s s' : ℕ → Term) → ((i : ℕ) → Alike E (s i) (s' i)) → Related s s'
  related_each s s' f zero i = f i
  related_each s s' f (suc b) zero = rel
  related_each s s' f (suc b) (suc i) = alike_renamed suc (overs b s i) (overs b s' i) (related_each s s' f b i)

  alike_substituted : (s s' : ℕ → Term) (t u : Term) → ((i : ℕ) → Alike E (s i) (s' i)) → Alike E t u → Alike E (substitute s t) (substitute s' u)
  alike_substituted s s' t u f p = alike_related p s s' (related_each s s' f)

  -- terms put in

  alike_first : (a a' : Term) (s s' : ℕ → Term) → Alike E a a' → ((i : ℕ) → Alike E (s i) (s' i)) → (i : ℕ) → Alike E (first a s i) (first a' s' i)
  alike_first a a' s s' p f zero = p
  alike_first a a' s s' p f (suc i) = f i

  alike_put : (a a' b b' : Term) → Alike E a a' → Alike E b b' → Alike E (substitute (put a) b) (substitute (put a') b')
  alike_put a a' b b' p q = alike_substituted (put a) (put a') b b' (alike_first a a' Rel Rel p (λ i. rel)) q

  put_each : {xs ys : List Term} → AlikeEach E xs ys → (s s' : ℕ → Term) → ((i : ℕ) → Alike E (s i) (s' i)) → (i : ℕ) → Alike E (put_all xs s i) (put_all ys s' i)
  put_each each_none s s' f i = f i
  put_each (each_one {t = x} {u = y} p ps) s s' f i = put_each ps (first x s) (first y s') (alike_first x y s s' p f) i

  alike_put_all : (xs ys : List Term) (b b' : Term) → AlikeEach E xs ys → Alike E b b' → Alike E (substitute (put_all xs Rel) b) (substitute (put_all ys Rel) b')
  alike_put_all xs ys b b' ps q = alike_substituted (put_all xs Rel) (put_all ys Rel) b b' (put_each ps Rel Rel (λ i. rel)) q

  alike_fixpoints : (k n : ℕ) (rargs : List ℕ) (types types' bodies bodies' : Terms) → AlikeTerms E types types' → AlikeTerms E bodies bodies' →
      AlikeEach E (fixpoints k n rargs types bodies) (fixpoints k n rargs types' bodies')
  alike_fixpoints k zero rargs types types' bodies bodies' p q = each_none
  alike_fixpoints k (suc n) rargs types types' bodies bodies' p q = each_one (node (group p (group q end))) (alike_fixpoints (suc k) n rargs types types' bodies bodies' p q)

  alike_app : {f g a b : Term} → Alike E f g → Alike E a b → Alike E (App f a) (App g b)
  alike_app p q = node (and p (and q end))

  alike_apply : (f g : Term) (xs ys : List Term) → Alike E f g → AlikeEach E xs ys → Alike E (apply f xs) (apply g ys)
  alike_apply f g xs ys p each_none = p
  alike_apply f g xs ys p (each_one {t = x} {u = y} {ts = xs'} {us = ys'} q qs) = alike_apply (App f x) (App g y) xs' ys' (alike_app p q) qs

  -- what is the same as an application is one

  pub record FromApply (t f : Term) (xs : List Term) : Type 0 where
    pub function : Term
    pub arguments : List Term
    pub is : t ≡ apply function arguments
    pub alike : Alike E function f
    pub each : AlikeEach E arguments xs

  pub from_apply : (f : Term) (xs : List Term) (t : Term) → Alike E t (apply f xs) → FromApply t f xs
  from_apply f [] t a = record { function = t; arguments = []; is = refl; alike = a; each = each_none }
  from_apply f (x ∷ xs) t a = let r = from_apply (App f x) xs t a in applied r.function r.arguments r.is r.alike r.each
    where
      applied : (g : Term) (ys : List Term) → t ≡ apply g ys → Alike E g (App f x) → AlikeEach E ys xs → FromApply t f (x ∷ xs)
      applied g ys e (node (and {t = g'} p (and {t = y} q end))) es = record { function = g'; arguments = y ∷ ys; is = e; alike = p; each = each_one q es }

  each_number : {xs ys : List Term} → AlikeEach E xs ys → length xs ≡ length ys
  each_number each_none = refl
  each_number (each_one p ps) = ap suc (each_number ps)

  record Parts (zs xs ys : List Term) : Type 0 where
    former : List Term
    latter : List Term
    is : zs ≡ former ++ latter
    before : AlikeEach E former xs
    after : AlikeEach E latter ys

  parts : (zs xs ys : List Term) → AlikeEach E zs (xs ++ ys) → Parts zs xs ys
  parts zs [] ys ps = record { former = []; latter = zs; is = refl; before = each_none; after = ps }
  parts zs (x ∷ xs) ys (each_one {t = z} {ts = rest} p ps) =
      let s = parts rest xs ys ps in
      record { former = z ∷ s.former; latter = s.latter; is = ap (◌∷◌ z) s.is; before = each_one p s.before; after = s.after }

  record FromConstructor (f : FamilyId) (c : ℕ) (t : Term) (xs : List Term) : Type 0 where
    parameters : List Term
    arguments : List Term
    is : IsConstructor E f c t parameters arguments
    each : AlikeEach E arguments xs

  from_constructor : {f : FamilyId} {c : ℕ} {t t' : Term} {qs xs : List Term} → Alike E t t' → IsConstructor E f c t' qs xs → FromConstructor f c t xs
  from_constructor {f} {c} {t} {t'} {qs} {xs} a (is_constructor kept at p l e) =
      let r = from_apply (Construct f c) (qs ++ xs) t (alike_is refl e a) in
      let s = parts r.arguments qs xs r.each in
      record {
        parameters = s.former;
        arguments = s.latter;
        is = is_constructor kept at (each_number s.before ∙ p) (each_number s.after ∙ l) (r.is ∙ (λ i. apply (same r.function r.alike i) (s.is i)));
        each = s.after;
      }
    where
      same : (g : Term) → Alike E g (Construct f c) → g ≡ Construct f c
      same g (node end) = refl

  -- an item of a list
  record FromItem (ts : Terms) (i n : ℕ) (u : Term) : Type 0 where
    item : Term
    at : term_at ts i ≡ Some (n, item)
    alike : Alike E item u

  from_item : (ts us : Terms) (i n : ℕ) (u : Term) → AlikeTerms E ts us → term_at us i ≡ Some (n, u) → FromItem ts i n u
  from_item ts us i n u done e = absurd (cc)
  from_item ts us zero n u (next {n = m} {t = a} {u = b} p ps) e =
      let (number, same) = same_item m n b u e in
      record { item = a; at = ap (λ m. Some (m, a)) number; alike = alike_is refl same p }
  from_item ts us (suc i) n u (next {ts = xs} {us = ys} p ps) e =
      let found = from_item xs ys i n u ps e in
      record { item = found.item; at = found.at; alike = found.alike }

  -- the function of a fixpoint that has all its arguments but the recursive one
  record FromFix (i : ℕ) (rargs : List ℕ) (types bodies : Terms) (before : List Term) (t : Term) : Type 0 where
    types' : Terms
    bodies' : Terms
    before' : List Term
    is : t ≡ apply (Fix i rargs types' bodies') before'
    of_types : AlikeTerms E types' types
    of_bodies : AlikeTerms E bodies' bodies
    each : AlikeEach E before' before

  from_fix : (i : ℕ) (rargs : List ℕ) (types bodies : Terms) (before : List Term) (t : Term) → Alike E t (apply (Fix i rargs types bodies) before) → FromFix i rargs types bodies before t
  from_fix i rargs types bodies before t a = let r = from_apply (Fix i rargs types bodies) before t a in fixed r.function r.arguments r.is r.alike r.each
    where
      fixed : (g : Term) (ys : List Term) → t ≡ apply g ys → Alike E g (Fix i rargs types bodies) → AlikeEach E ys before → FromFix i rargs types bodies before t
      fixed g ys e (node (group {ps = ts} p (group {ps = us} q end))) es = record { types' = ts; bodies' = us; before' = ys; is = e; of_types = p; of_bodies = q; each = es }

  -- steps at the root, without values

  pub record RootAlike (t w : Term) : Type 0 where
    pub reduct : Term
    pub root : Root E [] t reduct
    pub alike : Alike E reduct w

  pub root_alike : {l : Label} {ts us : Children (slots l)} {w : Term} → Root E [] (Node l us) w → AlikeIn E (slots l) ts us → RootAlike (Node l ts) w
  root_alike (beta {A} {b} {a}) (and (node (and p (and {t = b'} q end))) (and {t = a'} r end)) =
      record { reduct = substitute (put a') b'; root = beta; alike = alike_put a' a b' b r q }
  root_alike (zeta {b} {B} {t}) (and {t = b'} p (and q (and {t = t'} r end))) = record { reduct = substitute (put b') t'; root = zeta; alike = alike_put b' b t' t p r }
  root_alike (constant {b = b} kept) end = record { reduct = b; root = constant kept; alike = alike_same b }
  root_alike (matched {bs = bs} {c = c} {m = m} {body = body} {xs = xs} k e l) (group p (and q (and r (group {ps = bs'} h end)))) =
      let built = from_constructor r k in
      let branch = from_item bs' bs c m body h e in
      record {
        reduct = substitute (put_all built.arguments Rel) branch.item;
        root = matched built.is branch.at (l ∙ sym (each_number built.each));
        alike = alike_put_all built.arguments xs branch.item body built.each branch.alike;
      }
  root_alike (fixpoint i {rarg} rargs types bodies {body} {g} {a} before r l k b e) (and {t = g'} p (and {t = a'} q end)) =
      let function = from_fix i rargs types bodies before g' (alike_is refl e p) in
      let built = from_constructor q k in
      let definition = from_item function.bodies' bodies i (length rargs) body function.of_bodies b in
      let start = unfolded rargs function.types' function.bodies' definition.item in
      record {
        reduct = App (apply start function.before') a';
        root = fixpoint i rargs function.types' function.bodies' function.before' r (each_number function.each ∙ l) built.is definition.at function.is;
        alike = alike_app (alike_apply start (unfolded rargs types bodies body) function.before' before
            (alike_put_all (fixpoints 0 (length rargs) rargs function.types' function.bodies') (fixpoints 0 (length rargs) rargs types bodies) definition.item body
            (alike_fixpoints 0 (length rargs) rargs function.types' types function.bodies' bodies function.of_types function.of_bodies) definition.alike) function.each) q;
      }
