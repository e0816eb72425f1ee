-- Data along one first-order set of a type is data along each: a type has one weak-head normal form, so the sets have the same types at the places
-- that are reached.
use Rattle.std.proofs.Common.{◌≡◌, ℕ, zero, suc, ◌+◌, ◌-◌, List, [], ◌∷◌, ◌++◌, length, Some, refl, sym, ap, ◌∙◌, subst, arith, slice_get}
use mathlib.Core.Path.{fun_ext}
use Rattle.trees.proofs.Fusion.{rename-rename, rename_same}
use Rattle.pc_terms.specs.declared.leaf.FamilyId.{FamilyId}
use Rattle.pc_terms.specs.Syntax.{Term, Terms, Ind, Fix, rename, shift, head, args}
use Rattle.calculus_rules.specs.declared.declaration.Constructor.{Constructor}
use Rattle.calculus_rules.specs.Environment.{Env, KeepsFamily}
use Rattle.calculus_rules.specs.Context.{Values}
use Rattle.calculus_rules.specs.Step.{IsConstructor, beta, zeta, constant, variable, matched, fixpoint}
use Rattle.calculus_rules.specs.WeakHead.{WeakStep, at_root, in_function, in_scrutinee, in_argument}
use Rattle.calculus_rules.specs.FirstOrder.{Shape, shape_type, IsAt, ArgumentsAt, no_argument, an_argument, ConstructorsAt, no_constructor, a_constructor, IsMember, IsFirstOrder, Data, Reads, reads, ReadsAll, no_field, field, NothingErasable, NothingErasableInside}
use Rattle.calculus_rules.specs.Laws.{OneEach}
use Rattle.calculus_rules.proofs.Spines.{head-apply, args-apply, one_item, head_is}
use Rattle.calculus_rules.proofs.Determined.{one_constructor}
use Rattle.calculus_rules.proofs.WeakHead.{whnf_determined}
use Rattle.calculus_rules.proofs.OneEach.{one_of_each}
use Rattle.typing_laws.specs.Laws.{DataIsAlongEach, ReadingIsDetermined}

-- a family applied to terms has no weak-head step

ind_not_fix : (f : FamilyId) (i : ℕ) (rargs : List ℕ) (types bodies : Terms) → Ind f ≡ Fix i rargs types bodies → ⊥
ind_not_fix f i rargs types bodies e = cc

ind_waits : {E : Env} {V : Values} {t u : Term} (f : FamilyId) → head t ≡ Ind f → WeakStep E V t u → ⊥
ind_waits f h (at_root beta) = cc
ind_waits f h (at_root zeta) = cc
ind_waits f h (at_root (constant k)) = cc
ind_waits f h (at_root (variable e)) = cc
ind_waits f h (at_root (matched k b l)) = cc
ind_waits f h (at_root (fixpoint i rargs types bodies before r l k b e)) = ind_not_fix f i rargs types bodies (sym h ∙ head_is (Fix i rargs types bodies) before e)
ind_waits f h (in_function p) = ind_waits f h p
ind_waits f h (in_scrutinee p) = cc
ind_waits f h (in_argument i rarg rargs types bodies before e r l p) = ind_not_fix f i rargs types bodies (sym h ∙ head_is (Fix i rargs types bodies) before e)

-- the same type stands at two places of two sets
pub record SameAt (S S' : List Shape) (i i' : ℕ) : Type 0 where
  pub shape : Shape
  pub shape' : Shape
  pub at : slice_get S i ≡ Some shape
  pub at' : slice_get S' i' ≡ Some shape'
  pub family : shape.family ≡ shape'.family
  pub parameters : shape.parameters ≡ shape'.parameters

family_of : Term → FamilyId → FamilyId
family_of (Ind f) g = f
family_of t g = g

same_at : {E : Env} → OneEach E → {S S' : List Shape} {T : Term} {i i' : ℕ} → IsAt E S T i → IsAt E S' T i' → SameAt S S' i i'
unfolding family_of
same_at {E} o (h, at, steps) (h', at', steps') =
    let same : shape_type h ≡ shape_type h' =
    whnf_determined o steps (λ x p. ind_waits h.family (head-apply (Ind h.family) h.parameters) p) steps' (λ x p. ind_waits h'.family (head-apply (Ind h'.family) h'.parameters) p) in
    let heads : Ind h.family ≡ Ind h'.family = sym (head-apply (Ind h.family) h.parameters) ∙ ap head same ∙ head-apply (Ind h'.family) h'.parameters in
    record {
      shape = h;
      shape' = h';
      at = at;
      at' = at';
      family = ap (λ t. family_of t h.family) heads;
      parameters = sym (args-apply (Ind h.family) h.parameters) ∙ ap args same ∙ args-apply (Ind h'.family) h'.parameters;
    }

-- place by place
pub data SamePlaces (S S' : List Shape) : List ℕ → List ℕ → Type 0 where
  no_places : SamePlaces S S' [] []
  places : {j j' : ℕ} {js js' : List ℕ} → SameAt S S' j j' → SamePlaces S S' js js' → SamePlaces S S' (j ∷ js) (j' ∷ js')

-- what is lifted over n variables is read off
lowered : (n : ℕ) (A : Term) → rename (λ i. i - n) (shift n 0 A) ≡ A
lowered n A = rename-rename A (λ i. n + i) (λ i. i - n) ∙ ap (λ r. rename r A) (fun_ext back) ∙ rename_same A
  where
    back : (i : ℕ) → n + i - n ≡ i
    back i = omega arith

arguments_same : {E : Env} → OneEach E → {S S' : List Shape} {n : ℕ} {Bs : List Term} {js js' : List ℕ} → ArgumentsAt E S n Bs js → ArgumentsAt E S' n Bs js' →
    SamePlaces S S' js js'
arguments_same o no_argument no_argument = no_places
arguments_same {E} o {S} {S'} (an_argument {n = n} {A = A} p h rest) (an_argument {j = j'} {A = A'} p' h' rest') =
    let same : A' ≡ A = sym (lowered n A') ∙ ap (rename (λ i. i - n)) (sym p' ∙ p) ∙ lowered n A in
    places (same_at o h (subst (λ A. IsAt E S' A j') same h')) (arguments_same o rest rest')

constructors_same : {E : Env} → OneEach E → {S S' : List Shape} {ps : List Term} {Cs : List Constructor} {jss jss' : List (List ℕ)} →
    ConstructorsAt E S ps Cs jss → ConstructorsAt E S' ps Cs jss' → (c : ℕ) (js : List ℕ) → slice_get jss c ≡ Some js →
    (js' : List ℕ) × (slice_get jss' c ≡ Some js') × SamePlaces S S' js js'
constructors_same o no_constructor no_constructor c js e = absurd (cc)
constructors_same o {S} {S'} (a_constructor a rest) (a_constructor {js = js'} a' rest') zero js e =
    (js', refl, subst (λ js. SamePlaces S S' js js') (one_item e) (arguments_same o a a'))
constructors_same o (a_constructor a rest) (a_constructor a' rest') (suc c) js e = constructors_same o rest rest' c js e

abbrev pub Members : Env → List Shape → Type 0
Members E S = (j : ℕ) (h : Shape) → slice_get S j ≡ Some h → IsMember E S h

-- the places of constructor c's arguments in both sets
places_of : {E : Env} → OneEach E → {S S' : List Shape} → Members E S → Members E S' → {i i' : ℕ} (c : ℕ) {js : List ℕ} (same : SameAt S S' i i') →
    slice_get same.shape.constructors c ≡ Some js → (js' : List ℕ) × (slice_get same.shape'.constructors c ≡ Some js') × SamePlaces S S' js js'
places_of {E} o {S} {S'} M M' {i} {i'} c {js} same e =
    let m = M i same.shape same.at in
    let m' = M' i' same.shape' same.at' in
    let one : m'.declared ≡ m.declared =
    o.families same.shape'.family m'.declared m.declared m'.kept (subst (λ f. KeepsFamily E f m.declared) same.family m.kept) in
    constructors_same o m.constructors
    (subst (λ F. ConstructorsAt E S' same.shape.parameters F.constructors same.shape'.constructors) one
    (subst (λ ps. ConstructorsAt E S' ps m'.declared.constructors same.shape'.constructors) (sym same.parameters) m'.constructors))
    c js e

mutual
  pub reads_along : {E : Env} → OneEach E → {S S' : List Shape} → Members E S → Members E S' → {i i' : ℕ} → SameAt S S' i i' → {v : Term} {d : Data} (r : Reads E S i v d) →
      NothingErasable r → (r' : Reads E S' i' v d) × NothingErasable r'
  reads_along {E} o {S} {S'} M M' {i} {i'} same {v = v} (reads {c = c} {h = h} {js = js} {qs = qs} {xs = xs} s e k rs) n =
      let shapes : h ≡ same.shape = one_item (sym s ∙ same.at) in
      let (js', e', at_places) = places_of o M M' c same (ap (λ h. slice_get h.constructors c) (sym shapes) ∙ e) in
      let (rs', n') = all_along o M M' at_places rs n.1 in
      (reads same.at' e' (subst (λ f. IsConstructor E f c v qs xs) (ap (λ h. h.family) shapes ∙ same.family) k) rs', (n.0, n'))

  pub all_along : {E : Env} → OneEach E → {S S' : List Shape} → Members E S → Members E S' → {js js' : List ℕ} → SamePlaces S S' js js' → {xs : List Term} {ds : Data} (rs : ReadsAll E S js xs ds) →
      NothingErasableInside rs → (rs' : ReadsAll E S' js' xs ds) × NothingErasableInside rs'
  all_along o M M' no_places no_field n = (no_field, tt)
  all_along o M M' (places p ps) (field r rs) n =
      let (r', n') = reads_along o M M' p r n.0 in
      let (rs', ns') = all_along o M M' ps rs n.1 in
      (field r' rs', (n', ns'))

pub data_along : {E : Env} → OneEach E → {T : Term} {S S' : List Shape} → IsFirstOrder E T S → IsFirstOrder E T S' → {v : Term} {d : Data} (r : Reads E S 0 v d) →
    NothingErasable r → (r' : Reads E S' 0 v d) × NothingErasable r'
data_along o first first' r n = reads_along o first.members first'.members (same_at o first.first first'.first) r n

-- a value is read as one tree of data
mutual
  pub one_reading : {E : Env} → OneEach E → {S : List Shape} {i : ℕ} {v : Term} {d d' : Data} → Reads E S i v d → Reads E S i v d' → d ≡ d'
  one_reading {E} o {S} {v = v} (reads {c = c} {h = h} {js = js} {xs = xs} {ds = ds} s e k rs) (reads {c = c'} {h = h'} {js = js'} {qs = qs'} {xs = ys} {ds = ds'} s' e' k' rs') =
      let shapes : h' ≡ h = one_item (sym s' ∙ s) in
      let one = one_constructor o k (subst (λ h. IsConstructor E h.family c' v qs' ys) shapes k') in
      let places : js' ≡ js = one_item (sym e' ∙ (λ i. slice_get (shapes i).constructors (sym one.0 i)) ∙ e) in
      let rest : ds ≡ ds' = all_one_reading o rs (subst (λ xs. ReadsAll E S js xs ds') (sym one.1) (subst (λ js. ReadsAll E S js ys ds') places rs')) in
      λ i. (one.0 i, length (one.1 i)) ∷ rest i

  pub all_one_reading : {E : Env} → OneEach E → {S : List Shape} {js : List ℕ} {xs : List Term} {d d' : Data} → ReadsAll E S js xs d → ReadsAll E S js xs d' → d ≡ d'
  all_one_reading o no_field no_field = refl
  all_one_reading o (field r rs) (field r' rs') = λ i. one_reading o r r' i ++ all_one_reading o rs rs' i

pub data_is_along_each : DataIsAlongEach
data_is_along_each E accepted T S S' first first' v d r n = data_along (one_of_each E accepted) first first' r n

pub reading_is_determined : ReadingIsDetermined
reading_is_determined E accepted S i v d d' r r' = one_reading (one_of_each E accepted) r r'
