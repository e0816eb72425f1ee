-- Members of lists without equal names, and families by their ids.
use Rattle.std.proofs.Common.{◌≡◌, ◌≢◌, ℕ, zero, suc, ◌<◌, Bool, true, false, ◌==◌, if◌then◌else◌, List, [], ◌∷◌, length, map, get_or, AllPairs, Some, refl, sym, ap, ◌∙◌, arith, ⊎_elim}
use Rattle.std.proofs.lemmas.Bool.{cases_lt, eqb-true, eq-eqb, and_parts, and_from}
use Rattle.trees.proofs.Put.{each_length}
use Rattle.pc_terms.specs.declared.leaf.FamilyId.{FamilyId}
use Rattle.lambda_box.specs.BoxProgram.{BoxFamily, BoxProgram, Has, here, there, KeepsBoxFamily}
use Rattle.lambda_box.specs.BoxForm.{IsBoxProgram}
use Rattle.lambda_box.specs.OrdinaryForm.{same_family, family_of}

-- members of a list without equal names

pub has_at : {A : Type 0} {xs : List A} {x : A} (d : A) → Has xs x → (i : ℕ) × (i < length xs) × (get_or xs i d ≡ x)
has_at d here = (0, omega arith, refl)
has_at d (there h) = let r = has_at d h in (suc r.0, omega (arith, r.1), r.2)

apart : {A B : Type 0} (name : A → B) (xs : List A) → AllPairs (λ x y. name x ≢ name y) xs → (d x y : A) (i j : ℕ) → i < j → j < length xs → get_or xs i d ≡ x → get_or xs j d ≡ y → name x ≡ name y → ⊥
apart name xs all d x y i j l m e g same = all i j d l m (ap name e ∙ same ∙ sym (ap name g))

pub one_of_name : {A B : Type 0} (name : A → B) (xs : List A) → AllPairs (λ x y. name x ≢ name y) xs → {x y : A} → Has xs x → Has xs y → name x ≡ name y → x ≡ y
one_of_name name xs all {x} {y} h g same =
    let a = has_at x h in
    let b = has_at x g in
    ⊎_elim (λ lt. absurd (apart name xs all x x y a.0 b.0 lt b.1 a.2 b.2 same))
    (λ le. ⊎_elim (λ lt. absurd (apart name xs all x y x b.0 a.0 lt a.1 b.2 a.2 (sym same)))
    (λ ge. let e : a.0 ≡ b.0 = omega (arith, le, ge) in sym a.2 ∙ ap (λ i. get_or xs i x) e ∙ b.2)
    (cases_lt b.0 a.0))
    (cases_lt a.0 b.0)

pub unique_family : (P : BoxProgram) → IsBoxProgram P → (f : FamilyId) (F G : BoxFamily) → KeepsBoxFamily P f F → KeepsBoxFamily P f G → F ≡ G
unique_family P ok f F G h g = one_of_name (λ F. F.id) P.families ok.distinct_families h.0 g.0 (h.1 ∙ sym g.1)

-- the families that are found

pub same_family_is : (f g : FamilyId) → same_family f g ≡ true → f ≡ g
same_family_is f g e =
    let both = and_parts (f.block.0 == g.block.0) (f.family == g.family) e in
    λ i. record { block = record { 0 = eqb-true f.block.0 g.block.0 both.0 i }; family = eqb-true f.family g.family both.1 i }

pub one_family : (f : FamilyId) → same_family f f ≡ true
one_family f = and_from (f.block.0 == f.block.0) (f.family == f.family) (eq-eqb f.block.0 f.block.0 refl) (eq-eqb f.family f.family refl)

pub record FamilyFound (Fs : List BoxFamily) (f : FamilyId) : Type 0 where
  pub family : BoxFamily
  pub finds : family_of Fs f ≡ Some family
  pub has : Has Fs family
  pub id : family.id ≡ f

pub family_found : (Fs : List BoxFamily) (f : FamilyId) (F : BoxFamily) → Has Fs F → F.id ≡ f → FamilyFound Fs f
family_found [] f F h e = elim h [ ]
family_found (G ∷ Fs) f F here e = record { family = G; finds = ap (λ b. if b then Some G else family_of Fs f) (ap (λ g. same_family g f) e ∙ one_family f); has = here; id = e }
family_found (G ∷ Fs) f F (there h) e = go (same_family G.id f) refl (family_found Fs f F h e)
  where
    go : (b : Bool) → b ≡ same_family G.id f → FamilyFound Fs f → FamilyFound (G ∷ Fs) f
    go true q r = record { family = G; finds = ap (λ b. if b then Some G else family_of Fs f) (sym q); has = here; id = same_family_is G.id f (sym q) }
    go false q r = record { family = r.family; finds = ap (λ b. if b then Some G else family_of Fs f) (sym q) ∙ r.finds; has = there r.has; id = r.id }

-- members of lists whose items are mapped

item_mapped : {A B : Type 0} (f : A → B) (xs : List A) (i : ℕ) (d : B) (d' : A) → i < length xs → get_or (map f xs) i d ≡ f (get_or xs i d')
item_mapped f [] i d d' l = absurd (omega arith)
item_mapped f (x ∷ xs) zero d d' l = refl
item_mapped f (x ∷ xs) (suc i) d d' l = item_mapped f xs i d d' (omega arith)

pub distinct_mapped : {A B C : Type 0} (f : A → B) (name : A → C) (name' : B → C) (xs : List A) → ((x : A) → name' (f x) ≡ name x) → AllPairs (λ x y. name x ≢ name y) xs → AllPairs (λ x y. name' x ≢ name' y) (map f xs)
distinct_mapped f name name' [] same all i j d lt l = absurd (omega arith)
distinct_mapped f name name' (x ∷ xs) same all i j d lt l =
    λ e.
    let n = each_length f (x ∷ xs) in
    let a = item_mapped f (x ∷ xs) i d x (omega (arith, n)) in
    let b = item_mapped f (x ∷ xs) j d x (omega (arith, n)) in
    all i j x lt (omega (arith, n)) (sym (ap name' a ∙ same (get_or (x ∷ xs) i x)) ∙ e ∙ ap name' b ∙ same (get_or (x ∷ xs) j x))
