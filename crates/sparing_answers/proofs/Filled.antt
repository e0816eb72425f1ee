-- A term after erasure whose boxes are filled with other terms. Substitution keeps it so, and where box isn't looked at, a value goes on as the other does.
use Rattle.std.proofs.Common.{◌≡◌, ℕ, zero, suc, ◌+◌, List, [], ◌∷◌, ◌++◌, ◌<◌, Some, length, refl, sym, ap, ◌∙◌, subst}
use Rattle.std.proofs.lemmas.Option.{same_Some}
use Rattle.trees.specs.Tree.{Slot, Under, Lists, Rel, Node, Places, End, Child, Group, Done, Next, term_at}
use Rattle.trees.specs.Parallel.{rename, overs, substitute, substitute_children, substitute_terms, first, put, put_all}
use Rattle.trees.specs.Data.{Data}
use Rattle.trees.proofs.Fusion.{substitute_rel}
use Rattle.trees.proofs.Cutoffs.{overs_sum}
use Rattle.pc_terms.specs.declared.leaf.FamilyId.{FamilyId}
use Rattle.box_terms.specs.BoxSyntax.{BoxLabel, box_slots, BoxTerm, BoxTerms, Box, BApp, BConstruct, BFix}
use Rattle.lambda_box.specs.BoxProgram.{BoxProgram, box_apply, box_fixpoints}
use Rattle.lambda_box.specs.BoxEvaluation.{IsBoxConstructor, is_box_constructor, BoxTakesMore, constructor, fixpoint, BoxUnfolds, unfolds, box_unfolded}
use Rattle.lambda_box.specs.BoxData.{BoxReads, box_reads, BoxReadsAll, no_box_field, box_field}

mutual
  pub data Fills : BoxTerm → BoxTerm → Type 0 where
    blank : {t : BoxTerm} → Fills Box t
    rel : {i : ℕ} → Fills (Rel i) (Rel i)
    node : {l : BoxLabel} {ts us : Places BoxLabel box_slots (box_slots l)} → FillsIn (box_slots l) ts us → Fills (Node l ts) (Node l us)

  pub data FillsIn : (ss : List Slot) → Places BoxLabel box_slots ss → Places BoxLabel box_slots ss → Type 0 where
    end : FillsIn [] End End
    and : {n : ℕ} {ss : List Slot} {t u : BoxTerm} {ts us : Places BoxLabel box_slots ss} → Fills t u → FillsIn ss ts us → FillsIn (Under n ∷ ss) (Child t ts) (Child u us)
    group : {ss : List Slot} {ps qs : BoxTerms} {ts us : Places BoxLabel box_slots ss} → FillsTerms ps qs → FillsIn ss ts us → FillsIn (Lists ∷ ss) (Group ps ts) (Group qs us)

  pub data FillsTerms : BoxTerms → BoxTerms → Type 0 where
    no_more : FillsTerms Done Done
    one_more : {n : ℕ} {t u : BoxTerm} {ts us : BoxTerms} → Fills t u → FillsTerms ts us → FillsTerms (Next n t ts) (Next n u us)

pub data FillsEach : List BoxTerm → List BoxTerm → Type 0 where
  each_none : FillsEach [] []
  each_one : {t u : BoxTerm} {ts us : List BoxTerm} → Fills t u → FillsEach ts us → FillsEach (t ∷ ts) (u ∷ us)

mutual
  pub fills_same : (t : BoxTerm) → Fills t t
  fills_same (Rel i) = rel
  fills_same (Node l ts) = node (fills_in_same (box_slots l) ts)

  fills_in_same : (ss : List Slot) (ts : Places BoxLabel box_slots ss) → FillsIn ss ts ts
  fills_in_same ss End = end
  fills_in_same ss (Child {ss = rest} t ts) = and (fills_same t) (fills_in_same rest ts)
  fills_in_same ss (Group {ss = rest} us ts) = group (fills_terms_same us) (fills_in_same rest ts)

  fills_terms_same : (ts : BoxTerms) → FillsTerms ts ts
  fills_terms_same Done = no_more
  fills_terms_same (Next n t ts) = one_more (fills_same t) (fills_terms_same ts)

pub fills_is : {t t' u u' : BoxTerm} → t ≡ t' → u ≡ u' → Fills t u → Fills t' u'
fills_is {t} {t'} {u} {u'} e f p = subst (λ u. Fills t' u) f (subst (λ t. Fills t u) e p)

-- substitutions that are related under any number of variables more: renamings among them, of which that holds before it is known of all

abbrev Related : (ℕ → BoxTerm) → (ℕ → BoxTerm) → Type 0
Related s s' = (b i : ℕ) → Fills (overs b s i) (overs b s' i)

related_under : (n : ℕ) (s s' : ℕ → BoxTerm) → Related s s' → Related (overs n s) (overs n s')
related_under n s s' h b i = fills_is (ap (λ q. q i) (overs_sum b n s)) (ap (λ q. q i) (overs_sum b n s')) (h (b + n) i)

mutual
  fills_related : {t u : BoxTerm} → Fills t u → (s s' : ℕ → BoxTerm) → Related s s' → Fills (substitute s t) (substitute s' u)
  fills_related blank s s' h = blank
  fills_related (rel {i = i}) s s' h = h 0 i
  fills_related (node p) s s' h = node (fills_in_related p s s' h)

  fills_in_related : {ss : List Slot} {ts us : Places BoxLabel box_slots ss} → FillsIn ss ts us → (s s' : ℕ → BoxTerm) → Related s s' → FillsIn ss (substitute_children s ts) (substitute_children s' us)
  fills_in_related end s s' h = end
  fills_in_related (and {n = n} p ps) s s' h = and (fills_related p (overs n s) (overs n s') (related_under n s s' h)) (fills_in_related ps s s' h)
  fills_in_related (group p ps) s s' h = group (fills_terms_related p s s' h) (fills_in_related ps s s' h)

  fills_terms_related : {ts us : BoxTerms} → FillsTerms ts us → (s s' : ℕ → BoxTerm) → Related s s' → FillsTerms (substitute_terms s ts) (substitute_terms s' us)
  fills_terms_related no_more s s' h = no_more
  fills_terms_related (one_more {n = n} p ps) s s' h = one_more (fills_related p (overs n s) (overs n s') (related_under n s s' h)) (fills_terms_related ps s s' h)

related_renaming : (r : ℕ → ℕ) → Related (λ j. Rel (r j)) (λ j. Rel (r j))
related_renaming r b i = fills_same (overs b (λ j. Rel (r j)) i)

fills_renamed : (r : ℕ → ℕ) (t u : BoxTerm) → Fills t u → Fills (rename r t) (rename r u)
fills_renamed r t u p = fills_is (substitute_rel t r) (substitute_rel u r) (fills_related p (λ j. Rel (r j)) (λ j. Rel (r j)) (related_renaming r))

related_each : (s s' : ℕ → BoxTerm) → ((i : ℕ) → Fills (s i) (s' i)) → Related s s'
related_each s s' f zero i = f i
related_each s s' f (suc b) zero = rel
related_each s s' f (suc b) (suc i) = fills_renamed suc (overs b s i) (overs b s' i) (related_each s s' f b i)

fills_substituted : (s s' : ℕ → BoxTerm) (t u : BoxTerm) → ((i : ℕ) → Fills (s i) (s' i)) → Fills t u → Fills (substitute s t) (substitute s' u)
fills_substituted s s' t u f p = fills_related p s s' (related_each s s' f)

-- terms put in

fills_first : (a a' : BoxTerm) (s s' : ℕ → BoxTerm) → Fills a a' → ((i : ℕ) → Fills (s i) (s' i)) → (i : ℕ) → Fills (first a s i) (first a' s' i)
fills_first a a' s s' p f zero = p
fills_first a a' s s' p f (suc i) = f i

pub fills_put : (a a' b b' : BoxTerm) → Fills a a' → Fills b b' → Fills (substitute (put a) b) (substitute (put a') b')
fills_put a a' b b' p q = fills_substituted (put a) (put a') b b' (fills_first a a' Rel Rel p (λ i. rel)) q

put_each : {xs ys : List BoxTerm} → FillsEach xs ys → (s s' : ℕ → BoxTerm) → ((i : ℕ) → Fills (s i) (s' i)) → (i : ℕ) → Fills (put_all xs s i) (put_all ys s' i)
put_each each_none s s' f i = f i
put_each (each_one {t = x} {u = y} p ps) s s' f i = put_each ps (first x s) (first y s') (fills_first x y s s' p f) i

pub fills_put_all : (xs ys : List BoxTerm) (b b' : BoxTerm) → FillsEach xs ys → Fills b b' → Fills (substitute (put_all xs Rel) b) (substitute (put_all ys Rel) b')
fills_put_all xs ys b b' ps q = fills_substituted (put_all xs Rel) (put_all ys Rel) b b' (put_each ps Rel Rel (λ i. rel)) q

fills_fixpoints : (k n : ℕ) (rargs : List ℕ) (bodies bodies' : BoxTerms) → FillsTerms bodies bodies' → FillsEach (box_fixpoints k n rargs bodies) (box_fixpoints k n rargs bodies')
fills_fixpoints k zero rargs bodies bodies' q = each_none
fills_fixpoints k (suc n) rargs bodies bodies' q = each_one (node (group q end)) (fills_fixpoints (suc k) n rargs bodies bodies' q)

pub fills_app : {f g a b : BoxTerm} → Fills f g → Fills a b → Fills (BApp f a) (BApp g b)
fills_app p q = node (and p (and q end))

fills_apply : (f g : BoxTerm) (xs ys : List BoxTerm) → Fills f g → FillsEach xs ys → Fills (box_apply f xs) (box_apply g ys)
fills_apply f g xs ys p each_none = p
fills_apply f g xs ys p (each_one {t = x} {u = y} {ts = xs'} {us = ys'} q qs) = fills_apply (BApp f x) (BApp g y) xs' ys' (fills_app p q) qs

pub each_same : (xs : List BoxTerm) → FillsEach xs xs
each_same [] = each_none
each_same (x ∷ xs) = each_one (fills_same x) (each_same xs)

-- what an application is filled to is one

record ToApply (t f : BoxTerm) (xs : List BoxTerm) : Type 0 where
  function : BoxTerm
  arguments : List BoxTerm
  is : t ≡ box_apply function arguments
  fills : Fills f function
  each : FillsEach xs arguments

to_apply : (f : BoxTerm) (xs : List BoxTerm) (t : BoxTerm) → Fills (box_apply f xs) t → ToApply t f xs
to_apply f [] t a = record { function = t; arguments = []; is = refl; fills = a; each = each_none }
to_apply f (x ∷ xs) t a = let r = to_apply (BApp f x) xs t a in applied r.function r.arguments r.is r.fills r.each
  where
    applied : (g : BoxTerm) (ys : List BoxTerm) → t ≡ box_apply g ys → Fills (BApp f x) g → FillsEach xs ys → ToApply t f (x ∷ xs)
    applied g ys e (node (and {u = g'} p (and {u = y} q end))) es = record { function = g'; arguments = y ∷ ys; is = e; fills = p; each = each_one q es }

pub each_number : {xs ys : List BoxTerm} → FillsEach xs ys → length ys ≡ length xs
each_number each_none = refl
each_number (each_one p ps) = ap suc (each_number ps)

record Parts (zs xs ys : List BoxTerm) : Type 0 where
  former : List BoxTerm
  latter : List BoxTerm
  is : zs ≡ former ++ latter
  before : FillsEach xs former
  after : FillsEach ys latter

parts : (zs xs ys : List BoxTerm) → FillsEach (xs ++ ys) zs → Parts zs xs ys
parts zs [] ys ps = record { former = []; latter = zs; is = refl; before = each_none; after = ps }
parts zs (x ∷ xs) ys (each_one {u = z} {us = rest} p ps) =
    let s = parts rest xs ys ps in
    record { former = z ∷ s.former; latter = s.latter; is = ap (◌∷◌ z) s.is; before = each_one p s.before; after = s.after }

construct_filled : {f : FamilyId} {c : ℕ} (g : BoxTerm) → Fills (BConstruct f c) g → g ≡ BConstruct f c
construct_filled g (node end) = refl

-- a constructor is filled to the same

pub record ToConstructor (P : BoxProgram) (f : FamilyId) (c : ℕ) (t : BoxTerm) (xs : List BoxTerm) : Type 0 where
  pub parameters : List BoxTerm
  pub arguments : List BoxTerm
  pub is : IsBoxConstructor P f c t parameters arguments
  pub each : FillsEach xs arguments

pub to_constructor : {P : BoxProgram} {f : FamilyId} {c : ℕ} {t t' : BoxTerm} {qs xs : List BoxTerm} → IsBoxConstructor P f c t qs xs → Fills t t' → ToConstructor P f c t' xs
to_constructor {P} {f} {c} {t} {t'} {qs} {xs} (is_box_constructor kept prop at p l e) a =
    let r = to_apply (BConstruct f c) (qs ++ xs) t' (fills_is e refl a) in
    let s = parts r.arguments qs xs r.each in
    record {
      parameters = s.former;
      arguments = s.latter;
      is = is_box_constructor kept prop at (each_number s.before ∙ p) (each_number s.after ∙ l) (r.is ∙ (λ i. box_apply (construct_filled r.function r.fills i) (s.is i)));
      each = s.after;
    }

-- an item of a list

pub record ToItem (ts : BoxTerms) (i n : ℕ) (t : BoxTerm) : Type 0 where
  pub item : BoxTerm
  pub at : term_at ts i ≡ Some (n, item)
  pub fills : Fills t item

pub to_item : {ts us : BoxTerms} → FillsTerms ts us → (i n : ℕ) (t : BoxTerm) → term_at ts i ≡ Some (n, t) → ToItem us i n t
to_item no_more i n t e = absurd (cc)
to_item (one_more {n = m} {t = a} {u = b} p ps) zero n t e =
    let same = same_Some _ _ e in
    record { item = b; at = ap (λ q. Some (q.0, b)) same; fills = fills_is (ap (λ q. q.1) same) refl p }
to_item (one_more p ps) (suc i) n t e = let found = to_item ps i n t e in record { item = found.item; at = found.at; fills = found.fills }

-- fixpoints

record ToFix (i : ℕ) (rargs : List ℕ) (bodies : BoxTerms) (xs : List BoxTerm) (t : BoxTerm) : Type 0 where
  bodies' : BoxTerms
  arguments : List BoxTerm
  is : t ≡ box_apply (BFix i rargs bodies') arguments
  fills : FillsTerms bodies bodies'
  each : FillsEach xs arguments

to_fix : (i : ℕ) (rargs : List ℕ) (bodies : BoxTerms) (xs : List BoxTerm) (t : BoxTerm) → Fills (box_apply (BFix i rargs bodies) xs) t → ToFix i rargs bodies xs t
to_fix i rargs bodies xs t a = let r = to_apply (BFix i rargs bodies) xs t a in fixed r.function r.arguments r.is r.fills r.each
  where
    fixed : (g : BoxTerm) (ys : List BoxTerm) → t ≡ box_apply g ys → Fills (BFix i rargs bodies) g → FillsEach xs ys → ToFix i rargs bodies xs t
    fixed g ys e (node (group {qs = us} q end)) es = record { bodies' = us; arguments = ys; is = e; fills = q; each = es }

-- how a filled value goes on

pub filled_takes : {P : BoxProgram} {g g' : BoxTerm} → BoxTakesMore P g → Fills g g' → BoxTakesMore P g'
filled_takes {g' = g'} (constructor f c xs {F = F} {n = n} k i l e) a =
    let r = to_apply (BConstruct f c) xs g' (fills_is e refl a) in
    constructor f c r.arguments k i (subst (λ m. m < F.params + n) (sym (each_number r.each)) l) (r.is ∙ ap (λ h. box_apply h r.arguments) (construct_filled r.function r.fills))
filled_takes {g' = g'} (fixpoint i rargs bodies xs {rarg = rarg} q l e) a =
    let r = to_fix i rargs bodies xs g' (fills_is e refl a) in
    fixpoint i rargs r.bodies' r.arguments q (subst (λ m. m < rarg) (sym (each_number r.each)) l) r.is

pub record ToUnfolded (g v u : BoxTerm) : Type 0 where
  pub unfolded : BoxTerm
  pub unfolds : BoxUnfolds g v unfolded
  pub fills : Fills u unfolded

pub filled_unfolds : {g g' v v' u : BoxTerm} → BoxUnfolds g v u → Fills g g' → Fills v v' → ToUnfolded g' v' u
filled_unfolds {g' = g'} {v = v} {v' = v'} (unfolds i rargs bodies xs {body = body} r l b e) a p =
    let s = to_fix i rargs bodies xs g' (fills_is e refl a) in
    let q = to_item s.fills i (length rargs) body b in
    record {
      unfolded = BApp (box_apply (box_unfolded rargs s.bodies' q.item) s.arguments) v';
      unfolds = BoxUnfolds.unfolds i rargs s.bodies' s.arguments r (each_number s.each ∙ l) q.at s.is;
      fills =
          fills_app
          (fills_apply (box_unfolded rargs bodies body) (box_unfolded rargs s.bodies' q.item) xs s.arguments
          (fills_put_all (box_fixpoints 0 (length rargs) rargs bodies) (box_fixpoints 0 (length rargs) rargs s.bodies') body q.item
          (fills_fixpoints 0 (length rargs) rargs bodies s.bodies' s.fills) q.fills) s.each) p;
    }

-- data stays

mutual
  pub filled_reads : {P : BoxProgram} {w w' : BoxTerm} {d : Data} → BoxReads P w d → Fills w w' → BoxReads P w' d
  filled_reads {P} {w' = w'} (box_reads {c = c} {ds = ds} is rs) a =
      let r = to_constructor is a in
      subst (λ n. BoxReads P w' ((c, n) ∷ ds)) (each_number r.each) (box_reads r.is (all_filled rs r.each))

  all_filled : {P : BoxProgram} {xs ys : List BoxTerm} {ds : Data} → BoxReadsAll P xs ds → FillsEach xs ys → BoxReadsAll P ys ds
  all_filled no_box_field each_none = no_box_field
  all_filled (box_field r rs) (each_one p ps) = box_field (filled_reads r p) (all_filled rs ps)
