-- Dropped matches on propositional families keep data: some of a term's matches may be dropped, and evaluation follows.
use Rattle.std.proofs.Common.{◌≡◌, ℕ, zero, suc, ◌+◌, ◌≤◌, Bool, true, false, List, [], ◌∷◌, ◌++◌, length, map, Option, Some, None, refl, sym, ap, ◌∙◌, subst, arith}
use Rattle.std.proofs.lemmas.Bool.{true≢false}
use Rattle.std.proofs.lemmas.Option.{same_Some}
use Rattle.std.specs.Prelude.{if◌then◌else◌}
use mathlib.Core.Path.{fun_ext}
use Rattle.trees.specs.Tree.{Rel, Done, Next, term_at}
use Rattle.trees.specs.Parallel.{ups, rename, over, overs, first, put, put_all, substitute, substitute_terms, rename_terms}
use Rattle.trees.proofs.Fusion.{substitute_rel, overs_rel}
use Rattle.trees.proofs.Put.{substitute-put_all_in}
use Rattle.pc_terms.specs.declared.leaf.Name.{Name}
use Rattle.pc_terms.specs.declared.leaf.FamilyId.{FamilyId}
use Rattle.box_terms.specs.BoxSyntax.{BoxTerm, BoxTerms, Box, BLambda, BLetIn, BApp, BConst, BConstruct, BCase, BFix}
use Rattle.lambda_box.specs.BoxProgram.{BoxFamily, BoxProgram, Has, here, there, KeepsBoxConstant, KeepsBoxFamily, box_apply, boxes, box_fixpoints}
use Rattle.lambda_box.specs.BoxForm.{IsBoxProgram}
use Rattle.lambda_box.specs.BoxEvaluation.{box_is, lambda_is, construct_is, fix_is, IsBoxConstructor, is_box_constructor, BoxTakesMore, constructor, fixpoint, box_unfolded, BoxUnfolds, unfolds, BoxEvaluates, value, constant, let_in, beta, box_app, extend, unfold_fix, enter, enter_only}
use Rattle.lambda_box.specs.BoxData.{Data, BoxReads, BoxReadsAll, box_reads, no_box_field, box_field}
use Rattle.lambda_box.specs.DataTerms.{Evaluable, evaluable, AreEvaluable, no_evaluable, one_evaluable, DataTerm, data_term, DataFields, no_data_field, data_field, DataTerms, no_data, more_data}
use Rattle.lambda_box.specs.OrdinaryForm.{same_family, family_of}
use Rattle.lambda_box.specs.OrdinaryForm.{propositional_of}
use Rattle.box_passes.specs.PropMatch.{only_branch, match_of, drop_matches, drop_matches_terms, drop_matches_constant, prop_match_program, PropMatchKeeps}
use Rattle.lambda_box.proofs.Spines.{boxes_number}
use Rattle.lambda_box.proofs.Families.{same_family_is, unique_family}
use Rattle.trees.proofs.Lists.{has_map}

mutual
  -- the other term is the term with some of its matches on propositional families dropped
  pub data Drops (Fs : List BoxFamily) : BoxTerm → BoxTerm → Type 0 where
    drops_rel : {i : ℕ} → Drops Fs (Rel i) (Rel i)
    drops_box : Drops Fs Box Box
    drops_lambda : {b b' : BoxTerm} → Drops Fs b b' → Drops Fs (BLambda b) (BLambda b')
    drops_let : {b t b' t' : BoxTerm} → Drops Fs b b' → Drops Fs t t' → Drops Fs (BLetIn b t) (BLetIn b' t')
    drops_app : {f a f' a' : BoxTerm} → Drops Fs f f' → Drops Fs a a' → Drops Fs (BApp f a) (BApp f' a')
    drops_constant : {k : Name} → Drops Fs (BConst k) (BConst k)
    drops_construct : {f : FamilyId} {c : ℕ} → Drops Fs (BConstruct f c) (BConstruct f c)
    drops_case : {f : FamilyId} {s s' : BoxTerm} {bs bs' : BoxTerms} → Drops Fs s s' → DropsTerms Fs bs bs' → Drops Fs (BCase f s bs) (BCase f s' bs')
    drops_fix : {i : ℕ} {rargs : List ℕ} {bs bs' : BoxTerms} → DropsTerms Fs bs bs' → Drops Fs (BFix i rargs bs) (BFix i rargs bs')
    drops_only : {f : FamilyId} {F : BoxFamily} {k : ℕ} {s b b' t : BoxTerm} → Has Fs F → F.id ≡ f → F.propositional ≡ true → Drops Fs b b' → t ≡ substitute (put_all (boxes k) Rel) b' → Drops Fs (BCase f s (Next k b Done)) t
    drops_several : {f : FamilyId} {F : BoxFamily} {k l : ℕ} {s b c : BoxTerm} {bs : BoxTerms} → Has Fs F → F.id ≡ f → F.propositional ≡ true → Drops Fs (BCase f s (Next k b (Next l c bs))) Box

  pub data DropsTerms (Fs : List BoxFamily) : BoxTerms → BoxTerms → Type 0 where
    drops_done : DropsTerms Fs Done Done
    drops_next : {n : ℕ} {t t' : BoxTerm} {ts ts' : BoxTerms} → Drops Fs t t' → DropsTerms Fs ts ts' → DropsTerms Fs (Next n t ts) (Next n t' ts')

map_boxes : (s : ℕ → BoxTerm) (k : ℕ) → map (substitute s) (boxes k) ≡ boxes k
map_boxes s zero = refl
map_boxes s (suc k) = ap (◌∷◌ Box) (map_boxes s k)

-- boxes are put in before or after a substitution
pub boxes_put : (k : ℕ) (s : ℕ → BoxTerm) (t : BoxTerm) → substitute s (substitute (put_all (boxes k) Rel) t) ≡ substitute (put_all (boxes k) Rel) (substitute (overs k s) t)
boxes_put k s t =
    sym (substitute-put_all_in (boxes k) s t) ∙ ap (λ xs. substitute (put_all xs Rel) (substitute (overs (length (boxes k)) s) t)) (map_boxes s k)
    ∙ ap (λ n. substitute (put_all (boxes k) Rel) (substitute (overs n s) t)) (boxes_number k)

boxes_rename : (k : ℕ) (r : ℕ → ℕ) (t : BoxTerm) → rename r (substitute (put_all (boxes k) Rel) t) ≡ substitute (put_all (boxes k) Rel) (rename (ups k r) t)
boxes_rename k r t =
    sym (substitute_rel (substitute (put_all (boxes k) Rel) t) r) ∙ boxes_put k (λ j. Rel (r j)) t
    ∙ ap (λ s. substitute (put_all (boxes k) Rel) (substitute s t)) (fun_ext (overs_rel _ _ k r)) ∙ ap (substitute (put_all (boxes k) Rel)) (substitute_rel t (ups k r))

module _ (Fs : List BoxFamily) where
  mutual
    drops_renamed : {t t' : BoxTerm} (r : ℕ → ℕ) → Drops Fs t t' → Drops Fs (rename r t) (rename r t')
    drops_renamed r drops_rel = drops_rel
    drops_renamed r drops_box = drops_box
    drops_renamed r (drops_lambda h) = drops_lambda (drops_renamed (ups 1 r) h)
    drops_renamed r (drops_let h g) = drops_let (drops_renamed r h) (drops_renamed (ups 1 r) g)
    drops_renamed r (drops_app h g) = drops_app (drops_renamed r h) (drops_renamed r g)
    drops_renamed r drops_constant = drops_constant
    drops_renamed r drops_construct = drops_construct
    drops_renamed r (drops_case h hs) = drops_case (drops_renamed r h) (drops_renamed_terms r hs)
    drops_renamed r (drops_fix hs) = drops_fix (drops_renamed_terms r hs)
    drops_renamed r (drops_only {k = k} {b' = b'} F i p h e) = drops_only F i p (drops_renamed (ups k r) h) (ap (rename r) e ∙ boxes_rename k r b')
    drops_renamed r (drops_several F i p) = drops_several F i p

    drops_renamed_terms : {ts ts' : BoxTerms} (r : ℕ → ℕ) → DropsTerms Fs ts ts' → DropsTerms Fs (rename_terms r ts) (rename_terms r ts')
    drops_renamed_terms r drops_done = drops_done
    drops_renamed_terms r (drops_next {n = n} h hs) = drops_next (drops_renamed (ups n r) h) (drops_renamed_terms r hs)

  abbrev pub DropsEach : (ℕ → BoxTerm) → (ℕ → BoxTerm) → Type 0
  DropsEach s s' = (i : ℕ) → Drops Fs (s i) (s' i)

  drops_over : {s s' : ℕ → BoxTerm} → DropsEach s s' → DropsEach (over s) (over s')
  drops_over h zero = drops_rel
  drops_over h (suc i) = drops_renamed suc (h i)

  drops_overs : (n : ℕ) {s s' : ℕ → BoxTerm} → DropsEach s s' → DropsEach (overs n s) (overs n s')
  drops_overs zero h = h
  drops_overs (suc n) h = drops_over (drops_overs n h)

  mutual
    pub drops_put : {t t' : BoxTerm} {s s' : ℕ → BoxTerm} → DropsEach s s' → Drops Fs t t' → Drops Fs (substitute s t) (substitute s' t')
    drops_put g (drops_rel {i}) = g i
    drops_put g drops_box = drops_box
    drops_put g (drops_lambda h) = drops_lambda (drops_put (drops_overs 1 g) h)
    drops_put g (drops_let h k) = drops_let (drops_put g h) (drops_put (drops_overs 1 g) k)
    drops_put g (drops_app h k) = drops_app (drops_put g h) (drops_put g k)
    drops_put g drops_constant = drops_constant
    drops_put g drops_construct = drops_construct
    drops_put g (drops_case h hs) = drops_case (drops_put g h) (drops_put_terms g hs)
    drops_put g (drops_fix hs) = drops_fix (drops_put_terms g hs)
    drops_put {s' = s'} g (drops_only {k = k} {b' = b'} F i p h e) = drops_only F i p (drops_put (drops_overs k g) h) (ap (substitute s') e ∙ boxes_put k s' b')
    drops_put g (drops_several F i p) = drops_several F i p

    pub drops_put_terms : {ts ts' : BoxTerms} {s s' : ℕ → BoxTerm} → DropsEach s s' → DropsTerms Fs ts ts' → DropsTerms Fs (substitute_terms s ts) (substitute_terms s' ts')
    drops_put_terms g drops_done = drops_done
    drops_put_terms g (drops_next {n = n} h hs) = drops_next (drops_put (drops_overs n g) h) (drops_put_terms g hs)

  pub data DropsList : List BoxTerm → List BoxTerm → Type 0 where
    drops_none : DropsList [] []
    drops_one : {x x' : BoxTerm} {xs xs' : List BoxTerm} → Drops Fs x x' → DropsList xs xs' → DropsList (x ∷ xs) (x' ∷ xs')

  drops_first : {a a' : BoxTerm} {s s' : ℕ → BoxTerm} → Drops Fs a a' → DropsEach s s' → DropsEach (first a s) (first a' s')
  drops_first h g zero = h
  drops_first h g (suc i) = g i

  drops_all : {xs xs' : List BoxTerm} {s s' : ℕ → BoxTerm} → DropsList xs xs' → DropsEach s s' → DropsEach (put_all xs s) (put_all xs' s')
  drops_all drops_none g = g
  drops_all (drops_one h hs) g = drops_all hs (drops_first h g)

  drops_variables : DropsEach Rel Rel
  drops_variables i = drops_rel

  drops_apply : {xs xs' : List BoxTerm} {f f' : BoxTerm} → DropsList xs xs' → Drops Fs f f' → Drops Fs (box_apply f xs) (box_apply f' xs')
  drops_apply drops_none h = h
  drops_apply (drops_one g gs) h = drops_apply gs (drops_app h g)

  record Applied (f : BoxTerm) (xs : List BoxTerm) (t : BoxTerm) : Type 0 where
    f' : BoxTerm
    xs' : List BoxTerm
    head : Drops Fs f f'
    args : DropsList xs xs'
    is : t ≡ box_apply f' xs'

  of_drops_apply : {f t : BoxTerm} (xs : List BoxTerm) → Drops Fs (box_apply f xs) t → Applied f xs t
  of_drops_apply {t = t} [] h = record { f' = t; xs' = []; head = h; args = drops_none; is = refl }
  of_drops_apply {f} {t} (x ∷ xs) h = let r = of_drops_apply xs h in go r.head r.args r.is
    where
      go : {u : BoxTerm} {ys : List BoxTerm} → Drops Fs (BApp f x) u → DropsList xs ys → t ≡ box_apply u ys → Applied f (x ∷ xs) t
      go {ys = ys} (drops_app {f' = f'} {a' = a'} h g) gs e = record { f' = f'; xs' = a' ∷ ys; head = h; args = drops_one g gs; is = e }

  drops_length : {xs xs' : List BoxTerm} → DropsList xs xs' → length xs' ≡ length xs
  drops_length drops_none = refl
  drops_length (drops_one h hs) = ap suc (drops_length hs)

  record DroppedAt (ts : BoxTerms) (i n : ℕ) (t : BoxTerm) : Type 0 where
    t' : BoxTerm
    at : term_at ts i ≡ Some (n, t')
    is : Drops Fs t t'

  drops_at : {ts ts' : BoxTerms} {n : ℕ} {t : BoxTerm} (i : ℕ) → DropsTerms Fs ts ts' → term_at ts i ≡ Some (n, t) → DroppedAt ts' i n t
  drops_at i drops_done e = absurd (cc)
  drops_at {n = n} {t = t} zero (drops_next {n = m} {t = u} {t' = u'} h hs) e = let p = same_Some _ _ e in record { t' = u'; at = ap (λ q. Some (q.0, u')) p; is = subst (λ q. Drops Fs q.1 u') p h }
  drops_at (suc i) (drops_next h hs) e = let r = drops_at i hs e in record { t' = r.t'; at = r.at; is = r.is }

  drops_fixpoints : (i n : ℕ) (rargs : List ℕ) {bs bs' : BoxTerms} → DropsTerms Fs bs bs' → DropsList (box_fixpoints i n rargs bs) (box_fixpoints i n rargs bs')
  drops_fixpoints i zero rargs h = drops_none
  drops_fixpoints i (suc n) rargs h = drops_one (drops_fix h) (drops_fixpoints (suc i) n rargs h)

  boxes_same : (k : ℕ) → DropsList (boxes k) (boxes k)
  boxes_same zero = drops_none
  boxes_same (suc k) = drops_one drops_box (boxes_same k)

  record Split (xs ys zs : List BoxTerm) : Type 0 where
    left : List BoxTerm
    right : List BoxTerm
    lefts : DropsList xs left
    rights : DropsList ys right
    is : zs ≡ left ++ right

  drops_split : {ys zs : List BoxTerm} (xs : List BoxTerm) → DropsList (xs ++ ys) zs → Split xs ys zs
  drops_split {zs = zs} [] h = record { left = []; right = zs; lefts = drops_none; rights = h; is = refl }
  drops_split (x ∷ xs) (drops_one {x' = x'} h hs) = let r = drops_split xs hs in record { left = x' ∷ r.left; right = r.right; lefts = drops_one h r.lefts; rights = r.rights; is = ap (◌∷◌ x') r.is }

module _ (P : BoxProgram) (ok : IsBoxProgram P) (Q : BoxProgram) (same_families : Q.families ≡ P.families)
    (constants : (k : Name) (b : BoxTerm) → KeepsBoxConstant P k b → (b' : BoxTerm) × KeepsBoxConstant Q k b' × Drops P.families b b') where
  kept_family : {f : FamilyId} {F : BoxFamily} → KeepsBoxFamily P f F → KeepsBoxFamily Q f F
  kept_family {F = F} h = (subst (λ l. Has l F) (sym same_families) h.0, h.1)

  dropped_construct : {f : FamilyId} {c : ℕ} {t : BoxTerm} → Drops P.families (BConstruct f c) t → t ≡ BConstruct f c
  dropped_construct drops_construct = refl

  record DroppedFix (i : ℕ) (rargs : List ℕ) (bs : BoxTerms) (t : BoxTerm) : Type 0 where
    bs' : BoxTerms
    is : t ≡ BFix i rargs bs'
    drops : DropsTerms P.families bs bs'

  dropped_fix : {i : ℕ} {rargs : List ℕ} {bs : BoxTerms} {t : BoxTerm} → Drops P.families (BFix i rargs bs) t → DroppedFix i rargs bs t
  dropped_fix (drops_fix {bs' = bs'} h) = record { bs' = bs'; is = refl; drops = h }

  takes_more : {g g' : BoxTerm} → Drops P.families g g' → BoxTakesMore P g → BoxTakesMore Q g'
  takes_more {g' = g'} h (constructor f c xs keeps at l e) =
      let r = of_drops_apply P.families xs (subst (λ t. Drops P.families t g') e h) in
      constructor f c r.xs' (kept_family keeps) at (omega (arith, l, drops_length P.families r.args)) (r.is ∙ ap (λ t. box_apply t r.xs') (dropped_construct r.head))
  takes_more {g' = g'} h (fixpoint i rargs bodies xs at l e) =
      let r = of_drops_apply P.families xs (subst (λ t. Drops P.families t g') e h) in
      let q = dropped_fix r.head in
      fixpoint i rargs q.bs' r.xs' at (omega (arith, l, drops_length P.families r.args)) (r.is ∙ ap (λ t. box_apply t r.xs') q.is)

  record Unfolded (g v u : BoxTerm) : Type 0 where
    u' : BoxTerm
    unfolds' : BoxUnfolds g v u'
    drops : Drops P.families u u'

  unfolded : {g g' v v' u : BoxTerm} → Drops P.families g g' → Drops P.families v v' → BoxUnfolds g v u → Unfolded g' v' u
  unfolded {g' = g'} {v' = v'} h hv (unfolds i rargs bodies xs {body = body} r l b e) =
      let a = of_drops_apply P.families xs (subst (λ t. Drops P.families t g') e h) in
      let q = dropped_fix a.head in
      let d = drops_at P.families i q.drops b in
      record {
        u' = BApp (box_apply (box_unfolded rargs q.bs' d.t') a.xs') v';
        unfolds' = unfolds i rargs q.bs' a.xs' r (drops_length P.families a.args ∙ l) d.at (a.is ∙ ap (λ t. box_apply t a.xs') q.is);
        drops = drops_app (drops_apply P.families a.args (drops_put P.families (drops_all P.families (drops_fixpoints P.families 0 (length rargs) rargs q.drops) (drops_variables P.families)) d.is)) hv;
      }

  record Constructed (f : FamilyId) (c : ℕ) (v : BoxTerm) (qs xs : List BoxTerm) : Type 0 where
    qs' : List BoxTerm
    xs' : List BoxTerm
    is : IsBoxConstructor Q f c v qs' xs'
    params : DropsList P.families qs qs'
    args : DropsList P.families xs xs'

  constructed : {f : FamilyId} {c : ℕ} {v v' : BoxTerm} {qs xs : List BoxTerm} → Drops P.families v v' → IsBoxConstructor P f c v qs xs → Constructed f c v' qs xs
  constructed {f} {c} {v' = v'} {qs} {xs} h (is_box_constructor keeps p at lq lx e) =
      let r = of_drops_apply P.families (qs ++ xs) (subst (λ t. Drops P.families t v') e h) in
      let s = drops_split P.families qs r.args in
      record {
        qs' = s.left;
        xs' = s.right;
        is = is_box_constructor (kept_family keeps) p at (drops_length P.families s.lefts ∙ lq) (drops_length P.families s.rights ∙ lx) (r.is ∙ ap (λ t. box_apply t r.xs') (dropped_construct r.head) ∙ ap (box_apply (BConstruct f c)) s.is);
        params = s.lefts;
        args = s.rights;
      }

  pub record Kept (t w : BoxTerm) (n : ℕ) : Type 0 where
    pub w' : BoxTerm
    pub n' : ℕ
    pub m' : ℕ
    pub ev : BoxEvaluates Q t w' n' m'
    pub is : Drops P.families w w'
    pub le : n' ≤ n

  ordinary : {f : FamilyId} {F : BoxFamily} {c : ℕ} {v : BoxTerm} {qs xs : List BoxTerm} → Has P.families F → F.id ≡ f → F.propositional ≡ true → IsBoxConstructor P f c v qs xs → ⊥
  ordinary {f} {F} h i p (is_box_constructor {F = G} keeps q at lq lx e) = true≢false (sym p ∙ ap (λ F. F.propositional) (unique_family P ok f F G (h, i) keeps) ∙ q)

  beta_kept : {f a b w v : BoxTerm} (n l k : ℕ) → Kept f (BLambda b) n → Kept a v l → ((b' v' : BoxTerm) → Drops P.families b b' → Drops P.families v v' → Kept (substitute (put v') b') w k) → Kept (BApp f a) w (suc (n + l + k))
  beta_kept {f} {a} {b} {w} n l k kf ka rest = go kf.ev kf.is
    where
      go : {u : BoxTerm} → BoxEvaluates Q f u kf.n' kf.m' → Drops P.families (BLambda b) u → Kept (BApp f a) w (suc (n + l + k))
      go ev (drops_lambda h) = let r = rest _ ka.w' h ka.is in record { w' = r.w'; n' = _; m' = _; ev = beta ev ka.ev r.ev; is = r.is; le = omega (arith, kf.le, ka.le, r.le) }

  box_kept : {f a v : BoxTerm} (n l : ℕ) → Kept f Box n → Kept a v l → Kept (BApp f a) Box (suc (n + l))
  box_kept {f} {a} {v} n l kf ka = go kf.ev kf.is
    where
      go : {u : BoxTerm} → BoxEvaluates Q f u kf.n' kf.m' → Drops P.families Box u → Kept (BApp f a) Box (suc (n + l))
      go ev drops_box = record { w' = Box; n' = _; m' = _; ev = box_app ev ka.ev; is = drops_box; le = omega (arith, kf.le, ka.le) }

  only_kept : {f : FamilyId} {F : BoxFamily} {s b w : BoxTerm} (k n l : ℕ) → KeepsBoxFamily P f F → F.propositional ≡ true → Kept s Box n → Kept (substitute (put_all (boxes k) Rel) b) w l → Kept (BCase f s (Next k b Done)) w (suc (n + l))
  only_kept {f} {F} {s} {b} {w} k n l keeps p ks kb = go ks.ev ks.is
    where
      go : {u : BoxTerm} → BoxEvaluates Q s u ks.n' ks.m' → Drops P.families Box u → Kept (BCase f s (Next k b Done)) w (suc (n + l))
      go ev drops_box = record { w' = kb.w'; n' = _; m' = _; ev = enter_only (kept_family keeps) p ev kb.ev; is = kb.is; le = omega (arith, ks.le, kb.le) }

  pub keeps : {t t' w : BoxTerm} {n m : ℕ} → BoxEvaluates P t w n m → Drops P.families t t' → Kept t' w n
  keeps (value box_is) drops_box = record { w' = Box; n' = 1; m' = 0; ev = value box_is; is = drops_box; le = omega arith }
  keeps (value lambda_is) (drops_lambda h) = record { w' = _; n' = 1; m' = 0; ev = value lambda_is; is = drops_lambda h; le = omega arith }
  keeps (value construct_is) drops_construct = record { w' = _; n' = 1; m' = 0; ev = value construct_is; is = drops_construct; le = omega arith }
  keeps (value fix_is) (drops_fix h) = record { w' = _; n' = 1; m' = 0; ev = value fix_is; is = drops_fix h; le = omega arith }
  keeps (constant {k = k} {b = b} at d) drops_constant =
      let c = constants k b at in
      let r = keeps d c.2 in
      record { w' = r.w'; n' = _; m' = _; ev = constant c.1 r.ev; is = r.is; le = omega (arith, r.le) }
  keeps (let_in d1 d2) (drops_let h g) =
      let r1 = keeps d1 h in
      let r2 = keeps d2 (drops_put P.families (drops_first P.families r1.is (drops_variables P.families)) g) in
      record { w' = r2.w'; n' = _; m' = _; ev = let_in r1.ev r2.ev; is = r2.is; le = omega (arith, r1.le, r2.le) }
  keeps (beta d1 d2 d3) (drops_app h g) = beta_kept _ _ _ (keeps d1 h) (keeps d2 g) (λ b' v' hb hv. keeps d3 (drops_put P.families (drops_first P.families hv (drops_variables P.families)) hb))
  keeps (box_app d1 d2) (drops_app h g) = box_kept _ _ (keeps d1 h) (keeps d2 g)
  keeps (extend d1 d2 m) (drops_app h g) =
      let r1 = keeps d1 h in
      let r2 = keeps d2 g in
      record { w' = _; n' = _; m' = _; ev = extend r1.ev r2.ev (takes_more r1.is m); is = drops_app r1.is r2.is; le = omega (arith, r1.le, r2.le) }
  keeps (unfold_fix d1 d2 u d3) (drops_app h g) =
      let r1 = keeps d1 h in
      let r2 = keeps d2 g in
      let x = unfolded r1.is r2.is u in
      let r3 = keeps d3 x.drops in
      record { w' = r3.w'; n' = _; m' = _; ev = unfold_fix r1.ev r2.ev x.unfolds' r3.ev; is = r3.is; le = omega (arith, r1.le, r2.le, r3.le) }
  keeps (enter {c = c} {xs = xs} d1 con at d2) (drops_case {bs' = bs'} h hs) =
      let r1 = keeps d1 h in
      let v = constructed r1.is con in
      let b = drops_at P.families c hs at in
      let r2 = keeps d2 (drops_put P.families (drops_all P.families v.args (drops_variables P.families)) b.is) in
      record { w' = r2.w'; n' = _; m' = _; ev = enter r1.ev v.is (subst (λ n. term_at bs' c ≡ Some (n, b.t')) (sym (drops_length P.families v.args)) b.at) r2.ev; is = r2.is; le = omega (arith, r1.le, r2.le) }
  keeps (enter d1 con at d2) (drops_only F i p h e) = absurd (ordinary F i p con)
  keeps (enter d1 con at d2) (drops_several F i p) = absurd (ordinary F i p con)
  keeps (enter_only {k = k} F p d1 d2) (drops_case h (drops_next g drops_done)) =
      only_kept k _ _ F p (keeps d1 h) (keeps d2 (drops_put P.families (drops_all P.families (boxes_same P.families k) (drops_variables P.families)) g))
  keeps {w = w} (enter_only {k = k} F p d1 d2) (drops_only {b' = b'} G i q h e) =
      let r = keeps d2 (drops_put P.families (drops_all P.families (boxes_same P.families k) (drops_variables P.families)) h) in
      record { w' = r.w'; n' = r.n'; m' = r.m'; ev = subst (λ t. BoxEvaluates Q t r.w' r.n' r.m') (sym e) r.ev; is = r.is; le = omega (arith, r.le) }

  mutual
    pub dropped_reads : {w w' : BoxTerm} {d : Data} → Drops P.families w w' → BoxReads P w d → BoxReads Q w' d
    dropped_reads {w' = w'} h (box_reads {c = c} {xs = xs} {ds = ds} con rs) =
        let v = constructed h con in
        subst (λ n. BoxReads Q w' ((c, n) ∷ ds)) (drops_length P.families v.args) (box_reads v.is (dropped_reads_all v.args rs))

    dropped_reads_all : {xs xs' : List BoxTerm} {ds : Data} → DropsList P.families xs xs' → BoxReadsAll P xs ds → BoxReadsAll Q xs' ds
    dropped_reads_all drops_none no_box_field = no_box_field
    dropped_reads_all (drops_one h hs) (box_field r rs) = box_field (dropped_reads h r) (dropped_reads_all hs rs)

-- the pass drops matches

found_or_later : (F G : BoxFamily) (Fs : List BoxFamily) (f : FamilyId) (b : Bool) → same_family G.id f ≡ b → (family_of Fs f ≡ Some F → Has Fs F × (F.id ≡ f)) → (if b then Some G else family_of Fs f) ≡ Some F →
    Has (G ∷ Fs) F × (F.id ≡ f)
found_or_later F G Fs f true q rec e = subst (λ H. Has (G ∷ Fs) H × (H.id ≡ f)) (same_Some _ _ e) (here, same_family_is G.id f q)
found_or_later F G Fs f false q rec e = let r = rec e in (there r.0, r.1)

pub family_of_is : (Fs : List BoxFamily) (f : FamilyId) (F : BoxFamily) → family_of Fs f ≡ Some F → Has Fs F × (F.id ≡ f)
family_of_is [] f F e = absurd (cc)
family_of_is (G ∷ Fs) f F e = found_or_later F G Fs f (same_family G.id f) refl (λ e. family_of_is Fs f F e) e

module _ (Fs : List BoxFamily) where
  branch_dropped : (f : FamilyId) (F : BoxFamily) {s s' : BoxTerm} {bs bs' : BoxTerms} → Has Fs F → F.id ≡ f → F.propositional ≡ true → Drops Fs s s' → DropsTerms Fs bs bs' → Drops Fs (BCase f s bs) (only_branch f s' bs')
  branch_dropped f F h i p g drops_done = drops_case g drops_done
  branch_dropped f F h i p g (drops_next k drops_done) = drops_only h i p k refl
  branch_dropped f F h i p g (drops_next k (drops_next l ls)) = drops_several h i p

  chosen : (f : FamilyId) (F : BoxFamily) {s s' : BoxTerm} {bs bs' : BoxTerms} (b : Bool) → F.propositional ≡ b → Has Fs F → F.id ≡ f → Drops Fs s s' → DropsTerms Fs bs bs' → Drops Fs (BCase f s bs) (match_of b f s' bs')
  chosen f F true p h i g gs = branch_dropped f F h i p g gs
  chosen f F false p h i g gs = drops_case g gs

  match_dropped : (f : FamilyId) {s s' : BoxTerm} {bs bs' : BoxTerms} (o : Option BoxFamily) → family_of Fs f ≡ o → Drops Fs s s' → DropsTerms Fs bs bs' → Drops Fs (BCase f s bs) (match_of (propositional_of o) f s' bs')
  match_dropped f None e g gs = drops_case g gs
  match_dropped f (Some F) e g gs = let r = family_of_is Fs f F e in chosen f F F.propositional refl r.0 r.1 g gs

  mutual
    pub dropped : (t : BoxTerm) → Drops Fs t (drop_matches Fs t)
    dropped (Rel i) = drops_rel
    dropped Box = drops_box
    dropped (BLambda b) = drops_lambda (dropped b)
    dropped (BLetIn b t) = drops_let (dropped b) (dropped t)
    dropped (BApp f a) = drops_app (dropped f) (dropped a)
    dropped (BConst k) = drops_constant
    dropped (BConstruct f c) = drops_construct
    dropped (BCase f s bs) = match_dropped f (family_of Fs f) refl (dropped s) (dropped_terms bs)
    dropped (BFix i rargs bodies) = drops_fix (dropped_terms bodies)

    dropped_terms : (ts : BoxTerms) → DropsTerms Fs ts (drop_matches_terms Fs ts)
    dropped_terms Done = drops_done
    dropped_terms (Next n t ts) = drops_next (dropped t) (dropped_terms ts)

  -- none need be dropped
  mutual
    pub drops_nothing : (t : BoxTerm) → Drops Fs t t
    drops_nothing (Rel i) = drops_rel
    drops_nothing Box = drops_box
    drops_nothing (BLambda b) = drops_lambda (drops_nothing b)
    drops_nothing (BLetIn b t) = drops_let (drops_nothing b) (drops_nothing t)
    drops_nothing (BApp f a) = drops_app (drops_nothing f) (drops_nothing a)
    drops_nothing (BConst k) = drops_constant
    drops_nothing (BConstruct f c) = drops_construct
    drops_nothing (BCase f s bs) = drops_case (drops_nothing s) (drops_nothing_terms bs)
    drops_nothing (BFix i rargs bodies) = drops_fix (drops_nothing_terms bodies)

    drops_nothing_terms : (ts : BoxTerms) → DropsTerms Fs ts ts
    drops_nothing_terms Done = drops_done
    drops_nothing_terms (Next n t ts) = drops_next (drops_nothing t) (drops_nothing_terms ts)

  drops_nothing_list : (xs : List BoxTerm) → DropsList Fs xs xs
  drops_nothing_list [] = drops_none
  drops_nothing_list (x ∷ xs) = drops_one (drops_nothing x) (drops_nothing_list xs)

module _ (P : BoxProgram) (ok : IsBoxProgram P) where
  dropped_constant : (k : Name) (b : BoxTerm) → KeepsBoxConstant P k b → (b' : BoxTerm) × KeepsBoxConstant (prop_match_program P) k b' × Drops P.families b b'
  dropped_constant k b at = (drop_matches P.families b, has_map (drop_matches_constant P.families) at, dropped P.families b)

  same_evaluable : {t : BoxTerm} → Evaluable P t → Evaluable (prop_match_program P) t
  same_evaluable {t} (evaluable c d) = let r = keeps P ok (prop_match_program P) refl dropped_constant d (drops_nothing P.families t) in evaluable c r.ev

  same_evaluables : {ts : List BoxTerm} → AreEvaluable P ts → AreEvaluable (prop_match_program P) ts
  same_evaluables no_evaluable = no_evaluable
  same_evaluables (one_evaluable h hs) = one_evaluable (same_evaluable h) (same_evaluables hs)

  same_constructor : {f : FamilyId} {c : ℕ} {w : BoxTerm} {qs xs : List BoxTerm} → IsBoxConstructor P f c w qs xs → IsBoxConstructor (prop_match_program P) f c w qs xs
  same_constructor (is_box_constructor keeps p at lq lx e) = is_box_constructor keeps p at lq lx e

  mutual
    same_term : {t : BoxTerm} {d : Data} → DataTerm P t d → DataTerm (prop_match_program P) t d
    same_term (data_term con es fs) = data_term (same_constructor con) (same_evaluables es) (same_fields fs)

    same_fields : {ts : List BoxTerm} {d : Data} → DataFields P ts d → DataFields (prop_match_program P) ts d
    same_fields no_data_field = no_data_field
    same_fields (data_field h hs) = data_field (same_term h) (same_fields hs)

  same_terms : {ts : List BoxTerm} {ds : List Data} → DataTerms P ts ds → DataTerms (prop_match_program P) ts ds
  same_terms no_data = no_data
  same_terms (more_data h hs) = more_data (same_term h) (same_terms hs)

pub prop_match_keeps : PropMatchKeeps
prop_match_keeps P ok us args terms w d n m ev r =
    let k = keeps P ok (prop_match_program P) refl (dropped_constant P ok) ev (drops_apply P.families (drops_nothing_list P.families us) (dropped P.families P.main)) in
    (same_terms P ok terms, record { w = k.w'; nodes = k.n'; matches = k.m'; evaluates = k.ev; reads = dropped_reads P ok (prop_match_program P) refl (dropped_constant P ok) k.is r; within = k.le })
