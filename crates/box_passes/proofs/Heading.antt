-- Heads give the saturated term; what a term becomes as a head, by its former; and their depth.
use Rattle.std.proofs.Common.{◌≡◌, ◌≤◌, ◌<◌, ◌+◌, ◌-◌, ℕ, zero, suc, Bool, true, false, List, [], ◌∷◌, ◌++◌, length, map, reverse, drop, get_or, Option, Some, None, refl, sym, ap, ◌∙◌, subst as along, arith}
use Rattle.std.specs.Prelude.{nat_le, if◌then◌else◌, slice_get}
use Rattle.trees.specs.Tree.{Rel, Done, Next}
use Rattle.trees.specs.Measures.{depth, depth_trees, depth_limit}
use Rattle.pc_terms.specs.declared.leaf.FamilyId.{FamilyId}
use Rattle.box_terms.specs.BoxSyntax.{BoxTerm, BoxTerms, Box, BLambda, BLetIn, BApp, BConst, BConstruct, BCase, BFix}
use Rattle.box_terms.specs.BoxLists.{arms_of, bodies_of, rargs_of, depth_defs}
use Rattle.box_terms.specs.declared.term.BoxBranch.{BoxBranch}
use Rattle.box_terms.specs.declared.term.BoxDef.{BoxDef}
use Rattle.lambda_box.specs.BoxProgram.{BoxFamily, BoxConstant, BoxProgram, Has, here, there, box_apply}
use Rattle.lambda_box.specs.OrdinaryForm.{family_of}
use Rattle.box_passes.specs.Saturate.{innermost, lambdas, constructor_function, saturate_family, saturate_applied, saturate_terms, saturate_term}
use Rattle.box_passes.specs.Heads.{arity_in, spare_of, head_of, spare, applied, head, heads}
use Rattle.box_passes.specs.Maps.{map_branch, map_def, AreDeep, AreShallow, deep_body}
use Rattle.box_passes.specs.PassResults.{IsDeep, deep_main, deep_constant}
use Rattle.std.proofs.lemmas.List.{reverse-append}
use Rattle.box_passes.proofs.Maps.{rargs_map, length_map}
use Rattle.trees.proofs.Lists.{has_map, has_turned}

drop_none : {A : Type 0} (n : ℕ) → drop {A = A} n [] ≡ []
drop_none zero = refl
drop_none (suc n) = refl

none : {u h : BoxTerm} (n : ℕ) → u ≡ box_apply h (drop n []) → u ≡ h
none {h = h} n e = e ∙ ap (box_apply h) (drop_none n)

more : (k : ℕ) (g x y : BoxTerm) (xs : List BoxTerm) → x ≡ y → box_apply g (drop k (x ∷ xs)) ≡ box_apply (applied k g y) (drop (k - 1) xs)
more zero g x y xs e = ap (λ x. box_apply (BApp g x) xs) e
more (suc k) g x y xs e = let p : k ≡ suc k - 1 = omega arith in ap (λ k. box_apply g (drop k xs)) p

counted_is : (b : Bool) (p n : ℕ) (f : FamilyId) (c : ℕ) (xs : List BoxTerm) →
    (if b then box_apply (BConstruct f c) (drop p xs) else box_apply (constructor_function p n f c) xs) ≡ box_apply (if b then BConstruct f c else constructor_function p n f c) (drop (if b then p else 0) xs)
counted_is true p n f c xs = refl
counted_is false p n f c xs = refl

construct_is : (o : Option BoxFamily) (f : FamilyId) (c : ℕ) (xs : List BoxTerm) →
    saturate_family o f c xs ≡ box_apply (head_of (arity_in o c) f c (length xs)) (drop (spare_of (arity_in o c) (length xs)) xs)
construct_is None f c xs = refl
construct_is (Some F) f c xs = go (slice_get F.args c) refl
  where
    go : (o : Option ℕ) → slice_get F.args c ≡ o → saturate_family (Some F) f c xs ≡ box_apply (head_of (arity_in (Some F) c) f c (length xs)) (drop (spare_of (arity_in (Some F) c) (length xs)) xs)
    go None e = rw e refl
    go (Some n) e = rw e (counted_is (nat_le (F.params + n) (length xs)) F.params n f c xs)

mutual
  pub head_is : (Fs : List BoxFamily) (t : BoxTerm) (xs : List BoxTerm) → saturate_applied Fs t xs ≡ box_apply (head Fs t (length xs)) (drop (spare Fs t (length xs)) xs)
  head_is Fs (Rel i) xs = refl
  head_is Fs Box xs = refl
  head_is Fs (BLambda b) xs = ap (λ b. box_apply (BLambda b) xs) (none (spare Fs b 0) (head_is Fs b []))
  head_is Fs (BLetIn b t) xs =
      ap (λ b. box_apply (BLetIn b (saturate_applied Fs t [])) xs) (none (spare Fs b 0) (head_is Fs b []))
      ∙ ap (λ t. box_apply (BLetIn (head Fs b 0) t) xs) (none (spare Fs t 0) (head_is Fs t []))
  head_is Fs (BApp f a) xs =
      let e : suc (length xs) ≡ length xs + 1 = omega arith in
      head_is Fs f (saturate_applied Fs a [] ∷ xs) ∙ ap (λ n. box_apply (head Fs f n) (drop (spare Fs f n) (saturate_applied Fs a [] ∷ xs))) e
      ∙ more (spare Fs f (length xs + 1)) (head Fs f (length xs + 1)) (saturate_applied Fs a []) (head Fs a 0) xs (none (spare Fs a 0) (head_is Fs a []))
  head_is Fs (BConst k) xs = refl
  head_is Fs (BConstruct f c) xs = construct_is (family_of Fs f) f c xs
  head_is Fs (BCase f s bs) xs =
      ap (λ s. box_apply (BCase f s (saturate_terms Fs bs)) xs) (none (spare Fs s 0) (head_is Fs s [])) ∙ ap (λ bs. box_apply (BCase f (head Fs s 0) bs) xs) (heads_are Fs bs)
  head_is Fs (BFix i rargs bodies) xs = ap (λ bodies. box_apply (BFix i rargs bodies) xs) (heads_are Fs bodies)

  heads_are : (Fs : List BoxFamily) (ts : BoxTerms) → saturate_terms Fs ts ≡ heads Fs ts
  heads_are Fs Done = refl
  heads_are Fs (Next n t ts) = ap (λ t. Next n t (saturate_terms Fs ts)) (none (spare Fs t 0) (head_is Fs t [])) ∙ ap (Next n (head Fs t 0)) (heads_are Fs ts)

pub saturated_head : (Fs : List BoxFamily) (t : BoxTerm) → head Fs t 0 ≡ saturate_term Fs t
saturated_head Fs t = sym (none (spare Fs t 0) (head_is Fs t []))

-- lists

arms_heads : (Fs : List BoxFamily) (bs : List BoxBranch) → heads Fs (arms_of bs) ≡ arms_of (map (map_branch (λ t. head Fs t 0)) bs)
arms_heads Fs [] = refl
arms_heads Fs (b ∷ bs) = ap (Next b.binders (head Fs b.body 0)) (arms_heads Fs bs)

bodies_heads : (Fs : List BoxFamily) (m : ℕ) (ds : List BoxDef) → heads Fs (bodies_of m ds) ≡ bodies_of m (map (map_def (λ t. head Fs t 0)) ds)
bodies_heads Fs m [] = refl
bodies_heads Fs m (d ∷ ds) = ap (Next m (head Fs d.body 0)) (bodies_heads Fs m ds)

pub fix_heads : (Fs : List BoxFamily) (n : ℕ) (ds es : List BoxDef) (i : ℕ) → es ≡ map (map_def (λ t. head Fs t 0)) ds →
    BFix i (rargs_of es) (bodies_of (length es) es) ≡ head Fs (BFix i (rargs_of ds) (bodies_of (length ds) ds)) n
fix_heads Fs n ds es i e =
    ap (λ es. BFix i (rargs_of es) (bodies_of (length es) es)) e
    ∙ ap (λ rs. BFix i rs (bodies_of (length (map (map_def (λ t. head Fs t 0)) ds)) (map (map_def (λ t. head Fs t 0)) ds))) (rargs_map (λ t. head Fs t 0) ds)
    ∙ ap (λ n. BFix i (rargs_of ds) (bodies_of n (map (map_def (λ t. head Fs t 0)) ds))) (length_map (λ t. head Fs t 0) ds)
    ∙ ap (BFix i (rargs_of ds)) (sym (bodies_heads Fs (length ds) ds))

pub case_heads : (Fs : List BoxFamily) (n : ℕ) (f : FamilyId) (s s' : BoxTerm) (bs cs : List BoxBranch) → s' ≡ head Fs s 0 → cs ≡ map (map_branch (λ t. head Fs t 0)) bs →
    BCase f s' (arms_of cs) ≡ head Fs (BCase f s (arms_of bs)) n
case_heads Fs n f s s' bs cs e g =
    ap (λ s. BCase f s (arms_of cs)) e ∙ ap (λ cs. BCase f (head Fs s 0) (arms_of cs)) g ∙ ap (BCase f (head Fs s 0)) (sym (arms_heads Fs bs))

pub app_heads : (Fs : List BoxFamily) (n k : ℕ) (f a g y : BoxTerm) → g ≡ head Fs f (n + 1) → k ≡ spare Fs f (n + 1) → k ≡ 0 → y ≡ head Fs a 0 → BApp g y ≡ head Fs (BApp f a) n
app_heads Fs n k f a g y e s z h = ap (λ g. BApp g y) e ∙ ap (BApp (head Fs f (n + 1))) h ∙ sym (ap (λ k. applied k (head Fs f (n + 1)) (head Fs a 0)) (sym s ∙ z))

pub app_spares : (Fs : List BoxFamily) (n k : ℕ) (f a g : BoxTerm) → g ≡ head Fs f (n + 1) → k ≡ spare Fs f (n + 1) → 0 < k → g ≡ head Fs (BApp f a) n
app_spares Fs n zero f a g e s l = absurd (omega arith)
app_spares Fs n (suc k) f a g e s l = e ∙ ap (λ k. applied k (head Fs f (n + 1)) (head Fs a 0)) s

pub app_spare : (Fs : List BoxFamily) (n : ℕ) (f a : BoxTerm) → spare Fs (BApp f a) n ≡ spare Fs f (n + 1) - 1
app_spare Fs n f a = refl

-- depth

depth_applied : (k : ℕ) (g a : BoxTerm) → depth g ≤ depth (applied k g a)
depth_applied zero g a = omega arith
depth_applied (suc k) g a = omega arith

pub app_deep : (Fs : List BoxFamily) (n : ℕ) (f a : BoxTerm) → depth_limit < depth (head Fs f (n + 1)) → depth_limit < depth (head Fs (BApp f a) n)
app_deep Fs n f a h = omega (arith, h, depth_applied (spare Fs f (n + 1)) (head Fs f (n + 1)) (head Fs a 0))

pub arg_deep : (Fs : List BoxFamily) (n : ℕ) (f a : BoxTerm) → 0 ≡ spare Fs f (n + 1) → depth_limit < depth (head Fs a 0) → depth_limit < depth (head Fs (BApp f a) n)
arg_deep Fs n f a s h = along (λ k. depth_limit < depth (applied k (head Fs f (n + 1)) (head Fs a 0))) s (omega (arith, h))

pub scrut_deep : (Fs : List BoxFamily) (n : ℕ) (f : FamilyId) (s : BoxTerm) (bs : BoxTerms) → depth_limit < depth (head Fs s 0) → depth_limit < depth (head Fs (BCase f s bs) n)
scrut_deep Fs n f s bs h = omega (arith, h)

pub branches_deep : (Fs : List BoxFamily) (n : ℕ) (f : FamilyId) (s : BoxTerm) (bs : List BoxBranch) → depth_limit < depth_trees (arms_of (map (map_branch (λ t. head Fs t 0)) bs)) →
    depth_limit < depth (head Fs (BCase f s (arms_of bs)) n)
branches_deep Fs n f s bs h = let g = along (λ ts. depth_limit < depth_trees ts) (sym (arms_heads Fs bs)) h in omega (arith, g)

pub defs_deep : (Fs : List BoxFamily) (n : ℕ) (ds : List BoxDef) (i : ℕ) → depth_limit < depth_defs (map (map_def (λ t. head Fs t 0)) ds) →
    depth_limit < depth (head Fs (BFix i (rargs_of ds) (bodies_of (length ds) ds)) n)
defs_deep Fs n ds i h =
    let g = along (λ m. depth_limit < depth_trees (bodies_of m (map (map_def (λ t. head Fs t 0)) ds))) (length_map (λ t. head Fs t 0) ds) h in
    let k = along (λ ts. depth_limit < depth_trees ts) (sym (bodies_heads Fs (length ds) ds)) g in
    omega (arith, k)

pub arm_deep : (f : BoxBranch → BoxBranch) (bs : List BoxBranch) (i : ℕ) (b : BoxBranch) → i < length bs → b ≡ get_or bs i b → depth_limit < depth (f b).body → depth_limit < depth_trees (arms_of (map f bs))
arm_deep f [] i b l e h = absurd (omega arith)
arm_deep f (x ∷ bs) zero b l e h = let g = along (λ (y : BoxBranch). depth_limit < depth (f y).body) e h in omega (arith, g)
arm_deep f (x ∷ bs) (suc i) b l e h = omega (arith, arm_deep f bs i b (omega arith) e h)

body_deep : (f : BoxDef → BoxDef) (m : ℕ) (ds : List BoxDef) (i : ℕ) (d : BoxDef) → i < length ds → d ≡ get_or ds i d → depth_limit < depth (f d).body → depth_limit < depth_trees (bodies_of m (map f ds))
body_deep f m [] i d l e h = absurd (omega arith)
body_deep f m (x ∷ ds) zero d l e h = let g = along (λ (y : BoxDef). depth_limit < depth (f y).body) e h in omega (arith, g)
body_deep f m (x ∷ ds) (suc i) d l e h = omega (arith, body_deep f m ds i d (omega arith) e h)

pub def_deep : (f : BoxDef → BoxDef) (ds : List BoxDef) (i : ℕ) (d : BoxDef) → i < length ds → d ≡ get_or ds i d → depth_limit < depth (f d).body → depth_limit < depth_defs (map f ds)
def_deep f ds i d l e h = body_deep f (length (map f ds)) ds i d l e h

-- a constructor as a function

pub next_variable : (i : ℕ) (t : BoxTerm) → 0 < i → box_apply (BApp t (Rel (i - 1))) (innermost (i - 1)) ≡ box_apply t (innermost i)
next_variable zero t h = absurd (omega arith)
next_variable (suc i) t h = let e : suc i - 1 ≡ i = omega arith in ap (λ j. box_apply (BApp t (Rel j)) (innermost j)) e

lambda_in : (n : ℕ) (t : BoxTerm) → lambdas n (BLambda t) ≡ BLambda (lambdas n t)
lambda_in zero t = refl
lambda_in (suc n) t = ap BLambda (lambda_in n t)

pub next_lambda : (n : ℕ) (t : BoxTerm) → 0 < n → lambdas (n - 1) (BLambda t) ≡ lambdas n t
next_lambda zero t h = absurd (omega arith)
next_lambda (suc n) t h = let e : suc n - 1 ≡ n = omega arith in ap (λ j. lambdas j (BLambda t)) e ∙ lambda_in n t

depth_apply : (t : BoxTerm) (xs : List BoxTerm) → depth t ≤ depth (box_apply t xs)
depth_apply t [] = omega arith
depth_apply t (x ∷ xs) = omega (arith, depth_apply (BApp t x) xs)

pub depth_lambdas : (n : ℕ) (t : BoxTerm) → depth t ≤ depth (lambdas n t)
depth_lambdas zero t = omega arith
depth_lambdas (suc n) t = omega (arith, depth_lambdas n t)

pub function_deep : (p n i : ℕ) (f : FamilyId) (c : ℕ) (t : BoxTerm) → box_apply t (innermost i) ≡ box_apply (BConstruct f c) (innermost n) → depth_limit < depth t → depth_limit < depth (constructor_function p n f c)
function_deep p n i f c t e h =
    let a = along (λ u. depth t ≤ depth u) e (depth_apply t (innermost i)) in
    omega (arith, h, a, depth_lambdas (p + n) (box_apply (BConstruct f c) (innermost n)))

pub lambdas_deep : (n : ℕ) (t u : BoxTerm) → lambdas n t ≡ u → depth_limit < depth t → depth_limit < depth u
lambdas_deep n t u e h = along (λ u. depth_limit < depth u) e (omega (arith, h, depth_lambdas n t))

-- items of a list

has_item : {A : Type 0} (xs : List A) (i : ℕ) (x : A) → i < length xs → x ≡ get_or xs i x → Has xs x
has_item [] i x l e = absurd (omega arith)
has_item (y ∷ xs) zero x l e = along (λ z. Has (y ∷ xs) z) (sym e) here
has_item (y ∷ xs) (suc i) x l e = there (has_item xs i x (omega arith) e)

pub deep_at : (f : BoxConstant → BoxConstant) (xs cs : List BoxConstant) (i : ℕ) (d : BoxConstant) → reverse xs ≡ cs → i < length xs → d ≡ get_or xs i d → depth_limit < depth (f d).body → AreDeep (map f cs)
deep_at f xs cs i d r l e h = along (λ cs. AreDeep (map f cs)) r (deep_body (f d) (has_map f (has_turned xs (has_item xs i d l e))) h)

pub deep_program : (P : BoxProgram) → AreDeep P.constants → IsDeep P
deep_program P (deep_body d h l) = deep_constant d h l

pub shallow_more : (xs : List BoxConstant) (d : BoxConstant) → AreShallow xs → depth d.body ≤ depth_limit → AreShallow (xs ++ (d ∷ []))
shallow_more [] d w h = (h, tt)
shallow_more (x ∷ xs) d w h = (w.0, shallow_more xs d w.1 h)

pub shallow_turned : (xs : List BoxConstant) → AreShallow xs → AreShallow (reverse xs)
shallow_turned [] w = tt
shallow_turned (x ∷ xs) w = along AreShallow (sym (reverse-append (x ∷ []) xs)) (shallow_more (reverse xs) x (shallow_turned xs w.1) w.0)

pub ruleset shallow_laws = (shallow_more, shallow_turned)

shallow_at : {xs : List BoxConstant} {d : BoxConstant} → AreShallow xs → Has xs d → depth d.body ≤ depth_limit
shallow_at w here = w.0
shallow_at w (there h) = shallow_at w.1 h

pub shallow_program : (P : BoxProgram) → AreShallow P.constants → depth P.main ≤ depth_limit → IsDeep P → ⊥
shallow_program P w m (deep_main l) = omega (arith, m, l)
shallow_program P w m (deep_constant d h l) = omega (arith, shallow_at w h, l)
