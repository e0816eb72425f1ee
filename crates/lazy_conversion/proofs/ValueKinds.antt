-- Kinds of heads and of values, where the parts stand under bindings.
use Rattle.std.proofs.Common.{◌≡◌, ◌∙◌, sym, ap, refl, ℕ, ◌-◌, ◌≤◌, ◌==◌, ◌&&◌, ◌⊎◌, inl, inr, Bool, List, [], ◌∷◌, length, map, arith, subst as along}
use Rattle.std.proofs.lemmas.Bool.Decides.{nat_tests}
use Rattle.universe_levels.specs.declared.sort.Sort.{Sort as SortKind}
use Rattle.trees.specs.Substitution.{walk}
use Rattle.trees.proofs.Put.{number-substitute}
use Rattle.trees.proofs.Shape.{binders_substituted}
use Rattle.pc_terms.specs.Syntax.{Term, Rel, SortT, Prod, Lambda, App, Const, Ind, Construct, Case, Fix, substitute, apply, head}
use Rattle.pc_terms.specs.declared.term.Node.{Node}
use Rattle.pc_terms.specs.declared.term.Node.TheVariants as node
use Rattle.pc_terms.specs.View.{tree_of}
use Rattle.pc_rules.specs.declared.meter.Account.{Account}
use Rattle.calculus_rules.specs.Environment.{Env}
use Rattle.calculus_rules.specs.Context.{Context}
use Rattle.calculus_rules.specs.Same.{same_families, same_numbers}
use Rattle.pc_rules.specs.DirectedComparison.{Test, Comparison, alike, pair, spines_equal, heads_equal}
use Rattle.pc_rules.specs.DirectedRun.{done}
use Rattle.reduction.specs.Frames.{with_scrutinee}
use Rattle.reduce_machine.specs.Layers.{IsShownIn, IsShown, IsOpenIn, IsOpen, IsMatchNode, IsFixNode}
use Rattle.reduce_machine.specs.Reads.{stands, stands_under, read}
use Rattle.reduce_machine.specs.Spines.{head_on, IsOpenHead, IsStuckHead}
use Rattle.reduce_machine.specs.Seen.{seen_term, inner_term, IsSeen}
use Rattle.reduce_machine.specs.declared.bindings.Lazy.{Lazy}
use Rattle.reduce_machine.specs.declared.spines.Head.{Head}
use Rattle.reduce_machine.specs.declared.spines.Head.TheVariants as head
use Rattle.reduce_machine.specs.declared.seen.Seen.{Seen}
use Rattle.reduce_machine.proofs.HeadKinds.{unbound}
use Rattle.reduce_machine.proofs.Nesting.{spine_head, open_parts, match_parts, fix_parts}
use Rattle.reduce_machine.proofs.Standing.{walk_read}
use Rattle.lazy_conversion.specs.Heads.{code_of}
use Rattle.lazy_conversion.specs.Shapes.{IsSpine, IsShape, product_of, lambda_of}
use Rattle.lazy_conversion.specs.declared.shapes.Binder.{Binder}
use Rattle.lazy_conversion.specs.declared.shapes.Shape.{Shape}
use Rattle.lazy_conversion.specs.declared.shapes.Shape.TheVariants as shape
use Rattle.lazy_conversion.proofs.ValueHeads.{seen_head}

-- two heads of one kind, under bindings

-- a variable
abbrev IsVariable : Term → Type 0
IsVariable (Rel i) = Unit {0}
IsVariable t = ⊥

no_variable : (n : Node) → ((i : ℕ) → n ≡ node.Rel i → ⊥) → IsVariable (tree_of n) → ⊥
no_variable (node.Rel i) h k = h i refl
no_variable n h k = k

past_alike : (ys : List Term) (m i : ℕ) (u : Term) → (IsVariable u → ⊥) → alike (Rel m) (substitute (stands ys) u) ≡ alike (Rel i) u
past_alike ys m i (Rel j) h = absurd (h tt)
past_alike ys m i u h = refl

alike_past : (xs : List Term) (m j : ℕ) (t : Term) → (IsVariable t → ⊥) → alike (substitute (stands xs) t) (Rel m) ≡ alike t (Rel j)
alike_past xs m j (Rel i) h = absurd (h tt)
alike_past xs m j (Const k) h = refl
alike_past xs m j (Ind f) h = refl
alike_past xs m j (Construct f c) h = refl
alike_past xs m j (Case f ps n ret s bs) h = refl
alike_past xs m j (Fix k rargs types bodies) h = refl
alike_past xs m j t h = refl

inner_alike : (xs ys : List Term) (t u : Term) → (IsVariable t → ⊥) → (IsVariable u → ⊥) → alike (substitute (stands xs) t) (substitute (stands ys) u) ≡ alike t u
inner_alike xs ys (Case a ps n ret s bs) (Case b qs m ret' s' bs') h k =
    λ j. same_families a b && ((number-substitute ps (stands xs) j == number-substitute qs (stands ys) j) && ((n == m) && same_numbers (binders_substituted bs (stands xs) j) (binders_substituted bs' (stands ys) j)))
inner_alike xs ys (Const a) (Const b) h k = refl
inner_alike xs ys (Ind f) (Ind g) h k = refl
inner_alike xs ys (Construct f c) (Construct g d) h k = refl
inner_alike xs ys (Fix i rargs types bodies) (Fix j rargs' types' bodies') h k = refl
inner_alike xs ys (Rel i) u h k = absurd (h tt)
inner_alike xs ys t (Rel j) h k = absurd (k tt)
inner_alike xs ys t u h k = refl

left_variable : (xs ys : List Term) (t u : Term) → IsShownIn xs t → IsVariable t → (IsVariable u → ⊥) → alike (substitute (stands xs) t) (substitute (stands ys) u) ≡ alike t u
left_variable xs ys (Rel i) u s v k = ap (λ x. alike x (substitute (stands ys) u)) (unbound xs i s) ∙ past_alike ys (i - length xs) i u k
left_variable xs ys t u s v k = absurd v

right_variable : (xs ys : List Term) (t u : Term) → IsShownIn ys u → (IsVariable t → ⊥) → IsVariable u → alike (substitute (stands xs) t) (substitute (stands ys) u) ≡ alike t u
right_variable xs ys t (Rel j) s k v = ap (λ x. alike (substitute (stands xs) t) x) (unbound ys j s) ∙ alike_past xs (j - length ys) j t k
right_variable xs ys t u s k v = absurd v

which : (t : Term) → IsVariable t ⊎ (IsVariable t → ⊥)
which (Rel i) = inl tt
which t = inr (λ k. k)

left_other : (xs ys : List Term) (t u : Term) → IsShownIn ys u → (IsVariable t → ⊥) → alike (substitute (stands xs) t) (substitute (stands ys) u) ≡ alike t u
left_other xs ys t u s k = elim (which u) [
  | inl v ↦ right_variable xs ys t u s k v
  | inr h ↦ inner_alike xs ys t u k h
]

module _ (f g : Lazy) (m n : Node) (e : tree_of m ≡ f.term) (d : tree_of n ≡ g.term) (s : IsShown f) (r : IsShown g) where
  pub variables_alike : (i j a b : ℕ) → m ≡ node.Rel i → n ≡ node.Rel j → a ≡ i - length f.env.items → b ≡ j - length g.env.items → (a == b) ≡ alike (read f) (read g)
  variables_alike i j a b p q x y =
      let ti : Rel i ≡ f.term = sym (ap tree_of p) ∙ e in
      let tj : Rel j ≡ g.term = sym (ap tree_of q) ∙ d in
      let li : length f.env.items ≤ i = along (λ t. IsShownIn f.env.items t) (sym ti) s in
      let lj : length g.env.items ≤ j = along (λ t. IsShownIn g.env.items t) (sym tj) r in
      let ri : Rel a ≡ read f = ap Rel x ∙ sym (unbound f.env.items i li) ∙ ap (substitute (stands f.env.items)) ti in
      let rj : Rel b ≡ read g = ap Rel y ∙ sym (unbound g.env.items j lj) ∙ ap (substitute (stands g.env.items)) tj in
      λ k. alike (ri k) (rj k)

  pub left_is_variable : (i : ℕ) → m ≡ node.Rel i → ((j : ℕ) → n ≡ node.Rel j → ⊥) → alike f.term g.term ≡ alike (read f) (read g)
  left_is_variable i p h =
      sym (left_variable f.env.items g.env.items f.term g.term s (along (λ t. IsVariable t) (sym (ap tree_of p) ∙ e) tt) (λ v. no_variable n h (along (λ t. IsVariable t) (sym d) v)))

  pub left_is_other : ((i : ℕ) → m ≡ node.Rel i → ⊥) → alike f.term g.term ≡ alike (read f) (read g)
  left_is_other h = sym (left_other f.env.items g.env.items f.term g.term r (λ v. no_variable m h (along (λ t. IsVariable t) (sym e) v)))

pub rel_shown : (f : Lazy) (i : ℕ) (n : Node) → tree_of n ≡ f.term → n ≡ node.Rel i → IsShown f → length f.env.items ≤ i
rel_shown f i n e p s = along (λ t. IsShownIn f.env.items t) (sym e ∙ ap tree_of p) s

-- the scrutinee of a match doesn't tell heads apart

around_left : (xs : List Term) (t u b : Term) → IsMatchNode t → alike (with_scrutinee (substitute (stands xs) t) u) b ≡ alike (substitute (stands xs) t) b
around_left xs (Case f ps n ret s bs) u (Case g qs m ret' s' bs') h = refl
around_left xs (Case f ps n ret s bs) u b h = refl
around_left xs t u b h = absurd h

around_right : (xs : List Term) (t u b : Term) → IsMatchNode t → alike b (with_scrutinee (substitute (stands xs) t) u) ≡ alike b (substitute (stands xs) t)
around_right xs (Case f ps n ret s bs) u b h = either_case b
  where
    either_case : (b : Term) → alike b (with_scrutinee (substitute (stands xs) (Case f ps n ret s bs)) u) ≡ alike b (substitute (stands xs) (Case f ps n ret s bs))
    either_case (Const k) = refl
    either_case (Ind g) = refl
    either_case (Construct g c) = refl
    either_case (Fix i rargs types bodies) = refl
    either_case (Case g qs m ret' s' bs') = refl
    either_case b = refl
around_right xs t u b h = absurd h

-- the head of a value's term and the head as it was written are of one kind

head_left : (h : Head) (t b : Term) → IsOpenHead h ⊎ IsStuckHead h → alike (head (head_on h t)) b ≡ alike (read (code_of h)) b
head_left (head.Open l) t b (inl o) = ap (λ x. alike x b) (open_parts l o).0
head_left (head.Open l) t b (inr s) = absurd s
head_left (head.Match l) t b (inl o) = absurd o
head_left (head.Match l) t b (inr s) = ap (λ x. alike x b) (match_parts l t s).0 ∙ around_left l.env.items l.term t b s
head_left (head.Fixpoint l xs) t b (inl o) = absurd o
head_left (head.Fixpoint l xs) t b (inr s) = ap (λ x. alike x b) (fix_parts l (map read xs.items) t s.0).0

head_right : (h : Head) (t b : Term) → IsOpenHead h ⊎ IsStuckHead h → alike b (head (head_on h t)) ≡ alike b (read (code_of h))
head_right (head.Open l) t b (inl o) = ap (alike b) (open_parts l o).0
head_right (head.Open l) t b (inr s) = absurd s
head_right (head.Match l) t b (inl o) = absurd o
head_right (head.Match l) t b (inr s) = ap (alike b) (match_parts l t s).0 ∙ around_right l.env.items l.term t b s
head_right (head.Fixpoint l xs) t b (inl o) = absurd o
head_right (head.Fixpoint l xs) t b (inr s) = ap (alike b) (fix_parts l (map read xs.items) t s.0).0

pub heads_alike : (x y : Seen) → IsSeen x → IsSeen y → alike (head (seen_term x)) (head (seen_term y)) ≡ alike (read (code_of x.spine.now.head)) (read (code_of y.spine.now.head))
heads_alike x y h k =
    let s = inner_term x in
    let t = inner_term y in
    (λ j. alike (spine_head x.spine.now s j) (spine_head y.spine.now t j))
    ∙ head_left x.spine.now.head s (head (head_on y.spine.now.head t)) (seen_head x h) ∙ head_right y.spine.now.head t (read (code_of x.spine.now.head)) (seen_head y k)

-- defaults: two values that are compared as spines
module _ (E : Env) (q : Test) (cmp : Comparison) (c : Context) (equal : Bool) (u : Account) where
  -- they are compared as spines
  abbrev pub AreSpines : Term → Term → Type 0
  AreSpines a b = pair E q cmp c equal a b u ≡ spines_equal E cmp c a b u

  spine_left : (a b : Term) → IsSpine a → AreSpines a b
  spine_left (SortT s) b h = absurd h
  spine_left (Prod A B) b h = absurd h
  spine_left (Lambda A t) b h = absurd h
  spine_left a b h = refl

  spine_right : (a b : Term) → IsSpine b → AreSpines a b
  spine_right (SortT s) (SortT s') h = absurd h
  spine_right (SortT s) b h = refl
  spine_right (Prod A B) (Prod A' B') h = absurd h
  spine_right (Prod A B) b h = refl
  spine_right (Lambda A t) (Lambda A' t') h = absurd h
  spine_right (Lambda A t) b h = refl
  spine_right a b h = refl

  module _ (x y : Shape) (a b : Term) (ea : IsShape a x) (eb : IsShape b y) where
    pub sort_and_other : (s : _) → x ≡ shape.Sort s → ((r : _) → y ≡ shape.Sort r → ⊥) → AreSpines a b
    sort_and_other s e h = along (λ t. AreSpines t b) (sym (along (λ z. IsShape a z) e ea)) (other y eb h)
      where
        other : (y : Shape) → IsShape b y → ((r : _) → y ≡ shape.Sort r → ⊥) → AreSpines (SortT s.now) b
        other (shape.Sort r) p h = absurd (h r refl)
        other (shape.Product f) p h = along (λ t. AreSpines (SortT s.now) t) (sym p) refl
        other (shape.Lambda f) p h = along (λ t. AreSpines (SortT s.now) t) (sym p) refl
        other shape.Spine p h = spine_right (SortT s.now) b p

    pub product_and_other : (f : Binder) → x ≡ shape.Product f → ((g : Binder) → y ≡ shape.Product g → ⊥) → AreSpines a b
    product_and_other f e h = along (λ t. AreSpines t b) (sym (along (λ z. IsShape a z) e ea)) (other y eb h)
      where
        other : (y : Shape) → IsShape b y → ((g : Binder) → y ≡ shape.Product g → ⊥) → AreSpines (product_of f) b
        other (shape.Sort r) p h = along (λ t. AreSpines (product_of f) t) (sym p) refl
        other (shape.Product g) p h = absurd (h g refl)
        other (shape.Lambda g) p h = along (λ t. AreSpines (product_of f) t) (sym p) refl
        other shape.Spine p h = spine_right (product_of f) b p

    pub lambda_and_other : (f : Binder) → x ≡ shape.Lambda f → ((g : Binder) → y ≡ shape.Lambda g → ⊥) → AreSpines a b
    lambda_and_other f e h = along (λ t. AreSpines t b) (sym (along (λ z. IsShape a z) e ea)) (other y eb h)
      where
        other : (y : Shape) → IsShape b y → ((g : Binder) → y ≡ shape.Lambda g → ⊥) → AreSpines (lambda_of f) b
        other (shape.Sort r) p h = along (λ t. AreSpines (lambda_of f) t) (sym p) refl
        other (shape.Product g) p h = along (λ t. AreSpines (lambda_of f) t) (sym p) refl
        other (shape.Lambda g) p h = absurd (h g refl)
        other shape.Spine p h = spine_right (lambda_of f) b p

    pub spine_first : x ≡ shape.Spine → AreSpines a b
    spine_first e = spine_left a b (along (λ z. IsShape a z) e ea)

-- heads that are neither two matches nor two fixpoints have no parts
pub no_parts : (E : Env) (cmp : Comparison) (c : Context) (a b : Term) (u : Account) → (IsMatchNode a → IsMatchNode b → ⊥) → (IsFixNode a → IsFixNode b → ⊥) → heads_equal E cmp c a b u ≡ done tt u
no_parts E cmp c (Case f ps n ret s bs) (Case g qs m ret' s' bs') u h k = absurd (h tt tt)
no_parts E cmp c (Fix i rargs types bodies) (Fix j rargs' types' bodies') u h k = absurd (k tt tt)
no_parts E cmp c a b u h k = refl

pub both_match : (a b : Term) → IsMatchNode a → IsFixNode a → IsFixNode b → ⊥
both_match (Case f ps n ret s bs) b h k l = k
both_match a b h k l = h

-- what kind of value it is

applied_spine : (f : Term) (xs : List Term) → IsSpine f → IsSpine (apply f xs)
applied_spine f [] h = h
applied_spine f (x ∷ xs) h = applied_spine (App f x) xs tt

pub with_arguments : (x : Seen) → (x.spine.now.args.items ≡ [] → ⊥) → IsSpine (seen_term x)
with_arguments x h = some (head_on x.spine.now.head (inner_term x)) x.spine.now.args.items h
  where
    some : (f : Term) (xs : List Lazy) → (xs ≡ [] → ⊥) → IsSpine (apply f (map read xs))
    some f [] h = absurd (h refl)
    some f (y ∷ xs) h = applied_spine (App f (read y)) (map read xs) tt

pub lone_head : (x : Seen) (l : Lazy) → x.spine.now.args.items ≡ [] → x.spine.now.head ≡ head.Open l → seen_term x ≡ read l
lone_head x l e p = λ j. apply (head_on (p j) (inner_term x)) (map read (e j))

open_kind : (xs : List Term) (n : Node) → IsOpenIn xs (tree_of n) → ((s : SortKind) → n ≡ node.Sort s → ⊥) → ((A B : Term) → n ≡ node.Prod A B → ⊥) → ((A b : Term) → n ≡ node.Lambda A b → ⊥) →
    IsSpine (substitute (stands xs) (tree_of n))
open_kind xs (node.Rel i) o h k l = along (λ t. IsSpine t) (sym (unbound xs i o)) tt
open_kind xs (node.Sort s) o h k l = absurd (h s refl)
open_kind xs (node.Prod A B) o h k l = absurd (k A B refl)
open_kind xs (node.Lambda A b) o h k l = absurd (l A b refl)
open_kind xs n o h k l = tt

pub other_kind : (l : Lazy) (n : Node) → tree_of n ≡ l.term → IsOpen l → ((s : SortKind) → n ≡ node.Sort s → ⊥) → ((A B : Term) → n ≡ node.Prod A B → ⊥) → ((A b : Term) → n ≡ node.Lambda A b → ⊥) →
    IsSpine (read l)
other_kind l n e o h k q =
    along (λ t. IsSpine (substitute (stands l.env.items) t)) e (open_kind l.env.items n (along (λ t. IsOpenIn l.env.items t) (sym e) o) h k q)

stuck_kind : (h : Head) (t : Term) → IsStuckHead h → IsSpine (head_on h t)
stuck_kind (head.Open l) t s = absurd s
stuck_kind (head.Match o) t s = around_kind o.env.items o.term t s
  where
    around_kind : (xs : List Term) (u t : Term) → IsMatchNode u → IsSpine (with_scrutinee (substitute (stands xs) u) t)
    around_kind xs (Case f ps n ret s bs) t h = tt
    around_kind xs u t h = absurd h
stuck_kind (head.Fixpoint f xs) t s = tt

pub other_spine : (x : Seen) → IsSeen x → ((l : Lazy) → x.spine.now.head ≡ head.Open l → ⊥) → IsSpine (seen_term x)
other_spine x h k = elim (seen_head x h) [
  | inl o ↦ absurd (no_open x.spine.now.head o k)
  | inr s ↦ applied_spine (head_on x.spine.now.head (inner_term x)) (map read x.spine.now.args.items) (stuck_kind x.spine.now.head _ s)
]
  where
    no_open : (h : Head) → IsOpenHead h → ((l : Lazy) → h ≡ head.Open l → ⊥) → ⊥
    no_open (head.Open l) o k = k l refl
    no_open h o k = o

-- products and lambdas under bindings

pub product_read : (l : Lazy) (A B : Term) → Prod A B ≡ l.term → read l ≡ Prod (walk (stands_under l.env.items) 0 A) (walk (stands_under l.env.items) 1 B)
product_read l A B e = sym (ap (substitute (stands l.env.items)) e) ∙ sym (walk_read l.env.items (Prod A B))

pub lambda_read : (l : Lazy) (A t : Term) → Lambda A t ≡ l.term → read l ≡ Lambda (walk (stands_under l.env.items) 0 A) (walk (stands_under l.env.items) 1 t)
lambda_read l A t e = sym (ap (substitute (stands l.env.items)) e) ∙ sym (walk_read l.env.items (Lambda A t))

-- as many arguments, and heads of one kind or of two
pub fits : (m n : ℕ) (r b : Bool) → m ≡ n → r ≡ b → r ≡ ((m == n) && b)
fits m n r b p e = grind (arith, nat_tests)
