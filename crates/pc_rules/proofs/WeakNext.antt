-- The weak-head step that the directed rules find is one.
use Rattle.std.proofs.Common.{◌≡◌, ℕ, zero, suc, ◌+◌, ◌==◌, ◌&&◌, Bool, true, false, if◌then◌else◌, List, [], ◌∷◌, ◌++◌, length, take, drop, Option, Some, None, refl, sym, ap, ◌∙◌, subst, arith, slice_get, option_map}
use Rattle.std.proofs.lemmas.Bool.{eqb-true}
use Rattle.pc_terms.specs.declared.leaf.Name.{Name}
use Rattle.pc_terms.specs.declared.leaf.FamilyId.{FamilyId}
use Rattle.pc_terms.specs.Syntax.{Term, Terms, Rel, Lambda, LetIn, App, Const, Construct, Case, Fix, put_all, substitute, apply, head, args, term_at}
use Rattle.calculus_rules.specs.declared.declaration.Constructor.{Constructor}
use Rattle.calculus_rules.specs.declared.declaration.Block.{Block}
use Rattle.calculus_rules.specs.declared.declaration.Kept.{Kept}
use Rattle.calculus_rules.specs.declared.declaration.Kept.TheVariants.{Constant, Heads, Block as Whole}
use Rattle.calculus_rules.specs.Environment.{Env, FamilyDecl, Has, here, there, name_of, family_at, KeepsFamily}
use Rattle.calculus_rules.specs.Context.{Values}
use Rattle.calculus_rules.specs.Instances.{unfolded}
use Rattle.calculus_rules.specs.Step.{IsConstructor, is_constructor, beta, zeta, constant, variable, matched, fixpoint}
use Rattle.calculus_rules.specs.WeakHead.{WeakStep, at_root, in_function, in_scrutinee, in_argument}
use Rattle.calculus_rules.specs.Same.{same_names, same_families}
use Rattle.calculus_rules.specs.Lookups.{if_some, kept_at, body_of, whole_block, family_of}
use Rattle.pc_rules.specs.DirectedWeakHead.{arguments_at, built_arguments, built, branch_of, case_step, unfold_at, recursive_step, fix_step, app_step, weak_next}
use Rattle.calculus_rules.proofs.Spines.{one_item}
use Rattle.calculus_rules.proofs.Spines.{spine_is}

pub none_some : {A : Type 0} {x : A} → None ≡ Some x → ⊥
none_some e = cc

pub if_some_is : {A B : Type 0} (o : Option A) (k : A → Option B) {y : B} → if_some o k ≡ Some y → (a : A) × (o ≡ Some a) × (k a ≡ Some y)
if_some_is None k e = absurd (none_some e)
if_some_is (Some a) k e = (a, refl, e)

pub if_is : {A : Type 0} (b : Bool) (o : Option A) {y : A} → (if b then o else None) ≡ Some y → (b ≡ true) × (o ≡ Some y)
if_is true o e = (refl, e)
if_is false o e = absurd (none_some e)

pub both_true : (a b : Bool) → (a && b) ≡ true → (a ≡ true) × (b ≡ true)
both_true true b e = (refl, e)
both_true false b e = cc

pub same_names_is : (k l : Name) → same_names k l ≡ true → k ≡ l
same_names_is k l e = λ i. record { 0 = eqb-true k.0 l.0 e i }

pub same_families_is : (f g : FamilyId) → same_families f g ≡ true → f ≡ g
same_families_is f g e =
    let both = both_true (same_names f.block g.block) (f.family == g.family) e in
    λ i. record { block = same_names_is f.block g.block both.0 i; family = eqb-true f.family g.family both.1 i }

-- a declaration that is found is there
first_or_rest : (x : Kept) (ds : List Kept) (k : Name) (d : Kept) (b : Bool) → same_names (name_of x) k ≡ b →
    (kept_at ds k ≡ Some d → Has ds d × (name_of d ≡ k)) → (if b then Some x else kept_at ds k) ≡ Some d → Has (x ∷ ds) d × (name_of d ≡ k)
first_or_rest x ds k d true p rec q = subst (λ y. Has (x ∷ ds) y × (name_of y ≡ k)) (one_item q) (here, same_names_is (name_of x) k p)
first_or_rest x ds k d false p rec q = (there (rec q).0, (rec q).1)

pub kept_is : (ds : List Kept) (k : Name) (d : Kept) → kept_at ds k ≡ Some d → Has ds d × (name_of d ≡ k)
kept_is [] k d e = absurd (none_some e)
kept_is (x ∷ ds) k d e = first_or_rest x ds k d (same_names (name_of x) k) refl (kept_is ds k d) e

pub body_found : (E : Env) (k : Name) (o : Option Kept) (b : Term) → kept_at E.declarations k ≡ o → body_of o ≡ Some b →
    (T : Term) × Has E.declarations (Constant k T (Some b))
body_found E k None b e p = absurd (none_some p)
body_found E k (Some (Constant l T o)) b e p =
    let r = kept_is E.declarations k (Constant l T o) e in
    (T, subst (λ x. Has E.declarations (Constant x T (Some b))) r.1 (subst (λ x. Has E.declarations (Constant l T x)) p r.0))
body_found E k (Some (Heads B)) b e p = absurd (none_some p)
body_found E k (Some (Whole B)) b e p = absurd (none_some p)

pub block_found : (E : Env) (k : Name) (o : Option Kept) (B : Block) → kept_at E.declarations k ≡ o → whole_block o ≡ Some B →
    Has E.declarations (Whole B) × (B.name ≡ k)
block_found E k None B e p = absurd (none_some p)
block_found E k (Some (Constant l T o)) B e p = absurd (none_some p)
block_found E k (Some (Heads D)) B e p = absurd (none_some p)
block_found E k (Some (Whole D)) B e p = subst (λ x. Has E.declarations (Whole x) × (x.name ≡ k)) (one_item p) (kept_is E.declarations k (Whole D) e)

pub family_found : (E : Env) (f : FamilyId) (F : FamilyDecl) → family_of E f ≡ Some F → KeepsFamily E f F
family_found E f F e =
    let r = if_some_is (whole_block (kept_at E.declarations f.block)) (λ B. family_at B f.family) e in
    let h = block_found E f.block (kept_at E.declarations f.block) r.0 refl r.1 in
    (r.0, h.0, h.1, r.2)

take_long : {A : Type 0} (n m : ℕ) (xs : List A) → length xs ≡ n + m → length (take n xs) ≡ n
take_long zero m xs e = refl
take_long (suc n) m [] e = omega arith
take_long (suc n) m (x ∷ xs) e = ap suc (take_long n m xs (omega arith))

pub drop_long : {A : Type 0} (n m : ℕ) (xs : List A) → length xs ≡ n + m → length (drop n xs) ≡ m
drop_long zero m xs e = omega arith
drop_long (suc n) m [] e = omega arith
drop_long (suc n) m (x ∷ xs) e = drop_long n m xs (omega arith)

pub take_drop : {A : Type 0} (n : ℕ) (xs : List A) → take n xs ++ drop n xs ≡ xs
take_drop zero xs = refl
take_drop (suc n) [] = refl
take_drop (suc n) (x ∷ xs) = ap (◌∷◌ x) (take_drop n xs)

arguments_are : (F : FamilyDecl) (c : ℕ) (ys xs : List Term) → arguments_at F c ys ≡ Some xs →
    (C : Constructor) × (slice_get F.constructors c ≡ Some C) × (length ys ≡ length F.parameters + length C.args) × (drop (length F.parameters) ys ≡ xs)
arguments_are F c ys xs e =
    let r = if_some_is (slice_get F.constructors c) (λ C. if length ys == length F.parameters + length C.args then Some (drop (length F.parameters) ys) else None) e in
    let q = if_is (length ys == length F.parameters + length (r.0).args) (Some (drop (length F.parameters) ys)) r.2 in
    (r.0, r.1, eqb-true (length ys) (length F.parameters + length (r.0).args) q.0, one_item q.1)

mapped : (g : FamilyId) (d : ℕ) (o : Option (List Term)) (p : FamilyId × ℕ × List Term) → option_map (λ zs. (g, d, zs)) o ≡ Some p →
    (zs : List Term) × (o ≡ Some zs) × ((g, d, zs) ≡ p)
mapped g d None p e = absurd (none_some e)
mapped g d (Some zs) p e = (zs, refl, one_item e)

built_is : (E : Env) (h : Term) (ys : List Term) (p : FamilyId × ℕ × List Term) → built_arguments E h ys ≡ Some p →
    (qs : List Term) × IsConstructor E p.0 p.1 (apply h ys) qs p.2
built_is E (Construct g d) ys p e =
    let r = if_some_is (family_of E g) (λ F. option_map (λ zs. (g, d, zs)) (arguments_at F d ys)) e in
    let F : FamilyDecl = r.0 in
    let m = mapped g d (arguments_at F d ys) p r.2 in
    let xs : List Term = m.0 in
    let a = arguments_are F d ys xs m.1 in
    let C : Constructor = a.0 in
    let n : ℕ = length F.parameters in
    let qs : List Term = take n ys in
    let whole : IsConstructor E g d (apply (Construct g d) ys) qs xs =
    is_constructor (family_found E g F r.1) a.1 (take_long n (length C.args) ys a.2) (sym (ap length a.3) ∙ drop_long n (length C.args) ys a.2)
    (ap (apply (Construct g d)) (sym (take_drop n ys) ∙ ap (λ zs. qs ++ zs) a.3)) in
    (qs, subst (λ p. IsConstructor E p.0 p.1 (apply (Construct g d) ys) qs p.2) m.2 whole)
built_is E h ys p e = absurd (none_some e)

pub built_found : (E : Env) (t : Term) (p : FamilyId × ℕ × List Term) → built E t ≡ Some p → (qs : List Term) × IsConstructor E p.0 p.1 t qs p.2
built_found E t p e =
    let r = built_is E (head t) (args t) p e in
    (r.0, subst (λ x. IsConstructor E p.0 p.1 x r.0 p.2) (sym (spine_is t)) r.1)

branch_found : (E : Env) (V : Values) (f : FamilyId) (ps : Terms) (n : ℕ) (ret s : Term) (bs : Terms) (o : Option (FamilyId × ℕ × List Term)) {u : Term} →
    built E s ≡ o → branch_of bs f o ≡ Some u → WeakStep E V (Case f ps n ret s bs) u
branch_found E V f ps n ret s bs None e h = absurd (none_some h)
branch_found E V f ps n ret s bs (Some p) {u} e h =
    let r = if_is (same_families f p.0) (if_some (term_at bs p.1) (λ b. if b.0 == length p.2 then Some (substitute (put_all p.2 Rel) b.1) else None)) h in
    let t = if_some_is (term_at bs p.1) (λ b. if b.0 == length p.2 then Some (substitute (put_all p.2 Rel) b.1) else None) r.1 in
    let b : ℕ × Term = t.0 in
    let q = if_is (b.0 == length p.2) (Some (substitute (put_all p.2 Rel) b.1)) t.2 in
    let k = built_found E s p e in
    let same : p.0 ≡ f = sym (same_families_is f p.0 r.0) in
    let c : IsConstructor E f p.1 s k.0 p.2 = subst (λ g. IsConstructor E g p.1 s k.0 p.2) same k.1 in
    subst (λ x. WeakStep E V (Case f ps n ret s bs) x) (one_item q.1) (at_root (matched c t.1 (eqb-true b.0 (length p.2) q.0)))

case_found : (E : Env) (V : Values) (f : FamilyId) (ps : Terms) (n : ℕ) (ret s : Term) (bs : Terms) (o : Option Term) {u : Term} →
    ((x : Term) → o ≡ Some x → WeakStep E V s x) → case_step E f ps n ret s bs o ≡ Some u → WeakStep E V (Case f ps n ret s bs) u
case_found E V f ps n ret s bs (Some x) rec h = subst (λ y. WeakStep E V (Case f ps n ret s bs) y) (one_item h) (in_scrutinee (rec x refl))
case_found E V f ps n ret s bs None rec h = branch_found E V f ps n ret s bs (built E s) refl h

unfold_found : (E : Env) (V : Values) (i rarg : ℕ) (rargs : List ℕ) (types bodies : Terms) (before : List Term) (g a : Term) {u : Term} →
    g ≡ apply (Fix i rargs types bodies) before → slice_get rargs i ≡ Some rarg → length before ≡ rarg →
    (p : FamilyId × ℕ × List Term) → built E a ≡ Some p → unfold_at i rargs types bodies before a ≡ Some u → WeakStep E V (App g a) u
unfold_found E V i rarg rargs types bodies before g a e r l p k h =
    let t = if_some_is (term_at bodies i) (λ b. if b.0 == length rargs then Some (App (apply (unfolded rargs types bodies b.1) before) a) else None) h in
    let b : ℕ × Term = t.0 in
    let q = if_is (b.0 == length rargs) (Some (App (apply (unfolded rargs types bodies b.1) before) a)) t.2 in
    let c = built_found E a p k in
    let at : term_at bodies i ≡ Some (length rargs, b.1) = t.1 ∙ (λ j. Some (eqb-true b.0 (length rargs) q.0 j, b.1)) in
    subst (λ x. WeakStep E V (App g a) x) (one_item q.1) (at_root (fixpoint i rargs types bodies before r l c.1 at e))

recursive_found : (E : Env) (V : Values) (i rarg : ℕ) (rargs : List ℕ) (types bodies : Terms) (before : List Term) (g a : Term) (o : Option Term) {u : Term} →
    g ≡ apply (Fix i rargs types bodies) before → slice_get rargs i ≡ Some rarg → length before ≡ rarg →
    ((x : Term) → o ≡ Some x → WeakStep E V a x) → recursive_step E i rargs types bodies before g a o ≡ Some u → WeakStep E V (App g a) u
recursive_found E V i rarg rargs types bodies before g a (Some x) e r l rec h =
    subst (λ y. WeakStep E V (App g a) y) (one_item h) (in_argument i rarg rargs types bodies before e r l (rec x refl))
recursive_found E V i rarg rargs types bodies before g a None e r l rec h =
    let k = if_some_is (built E a) (λ p. unfold_at i rargs types bodies before a) h in
    unfold_found E V i rarg rargs types bodies before g a e r l k.0 k.1 k.2

fix_found : (E : Env) (V : Values) (f : Term) (before : List Term) (g a : Term) (o : Option Term) {u : Term} → g ≡ apply f before →
    ((x : Term) → o ≡ Some x → WeakStep E V a x) → fix_step E f before g a o ≡ Some u → WeakStep E V (App g a) u
fix_found E V (Fix i rargs types bodies) before g a o e rec h =
    let r = if_some_is (slice_get rargs i) (λ rarg. if length before == rarg then recursive_step E i rargs types bodies before g a o else None) h in
    let q = if_is (length before == r.0) (recursive_step E i rargs types bodies before g a o) r.2 in
    recursive_found E V i r.0 rargs types bodies before g a o e r.1 (eqb-true (length before) r.0 q.0) rec q.1
fix_found E V f before g a o e rec h = absurd (none_some h)

other_found : (E : Env) (V : Values) (g a : Term) (o p : Option Term) {u : Term} → ((x : Term) → o ≡ Some x → WeakStep E V g x) →
    ((x : Term) → p ≡ Some x → WeakStep E V a x) → app_step E g a o p ≡ Some u → WeakStep E V (App g a) u
other_found E V (Lambda A b) a o p rec rec' h = subst (λ x. WeakStep E V (App (Lambda A b) a) x) (one_item h) (at_root beta)
other_found E V g a (Some x) p rec rec' h = subst (λ y. WeakStep E V (App g a) y) (one_item h) (in_function (rec x refl))
other_found E V g a None p rec rec' h = fix_found E V (head g) (args g) g a p (spine_is g) rec' h

-- the next term is reached by a weak-head step
pub weak_next_found : (E : Env) (V : Values) (t u : Term) → weak_next E V t ≡ Some u → WeakStep E V t u
weak_next_found E V (Rel i) u h = at_root (variable h)
weak_next_found E V (Const k) u h = at_root (constant (body_found E k (kept_at E.declarations k) u refl h).1)
weak_next_found E V (LetIn b B t) u h = subst (λ x. WeakStep E V (LetIn b B t) x) (one_item h) (at_root zeta)
weak_next_found E V (Case f ps n ret s bs) u h =
    case_found E V f ps n ret s bs (weak_next E V s) (weak_next_found E V s) h
weak_next_found E V (App g a) u h =
    other_found E V g a (weak_next E V g) (weak_next E V a) (weak_next_found E V g) (weak_next_found E V a) h
weak_next_found E V t u h = absurd (none_some h)
