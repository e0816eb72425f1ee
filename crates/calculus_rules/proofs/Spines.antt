-- The head and the arguments of an application to a list, and what tells heads apart.
use Rattle.std.proofs.Common.{◌≡◌, ℕ, List, [], ◌∷◌, ◌++◌, length, map, drop, Some, refl, sym, ap, ◌∙◌, arith, append_assoc, append-nil, slice_get}
use Rattle.pc_terms.specs.Syntax.{Term, Terms, Done, App, Lambda, Construct, Fix, substitute, first, put_all, apply, head, args}

pub head-apply : (f : Term) (xs : List Term) → head (apply f xs) ≡ head f
head-apply f [] = refl
head-apply f (a ∷ xs) = head-apply (App f a) xs

pub args-apply : (f : Term) (xs : List Term) → args (apply f xs) ≡ args f ++ xs
args-apply f [] = sym (append-nil (args f))
args-apply f (a ∷ xs) = args-apply (App f a) xs ∙ append_assoc (args f) (a ∷ []) xs

-- an application under a substitution
pub substitute-apply : (s : ℕ → Term) (f : Term) (xs : List Term) → substitute s (apply f xs) ≡ apply (substitute s f) (map (substitute s) xs)
substitute-apply s f [] = refl
substitute-apply s f (a ∷ xs) = substitute-apply s (App f a) xs

-- a list put in for variables, and one term more
pub put_more : (xs : List Term) (a : Term) (s : ℕ → Term) → put_all (xs ++ (a ∷ [])) s ≡ first a (put_all xs s)
put_more [] a s = refl
put_more (x ∷ xs) a s = put_more xs a (first x s)

-- the head and the arguments of a spine, by an equation for the term
pub head_is : {g : Term} (f : Term) (xs : List Term) → g ≡ apply f xs → head g ≡ head f
head_is f xs e = ap head e ∙ head-apply f xs

pub args_are : {g : Term} (f : Term) (xs : List Term) → g ≡ apply f xs → args g ≡ args f ++ xs
args_are f xs e = ap args e ∙ args-apply f xs

pub drop_past : {A : Type 0} (xs ys : List A) → drop (length xs) (xs ++ ys) ≡ ys
drop_past [] ys = refl
drop_past (x ∷ xs) ys = drop_past xs ys

pub one_item : {A : Type 0} {x y : A} → Some x ≡ Some y → x ≡ y
one_item e = grind arith

-- parts of heads
abbrev pub constructor_of : Term → ℕ
constructor_of (Construct f c) = c
constructor_of t = 0

abbrev pub body_of : Term → Term
body_of (Lambda A b) = b
body_of t = t

abbrev pub index_of : Term → ℕ
index_of (Fix i rargs types bodies) = i
index_of t = 0

abbrev pub rargs_of : Term → List ℕ
rargs_of (Fix i rargs types bodies) = rargs
rargs_of t = []

abbrev pub types_of : Term → Terms
types_of (Fix i rargs types bodies) = types
types_of t = Done

abbrev pub bodies_of : Term → Terms
bodies_of (Fix i rargs types bodies) = bodies
bodies_of t = Done

pub apply_one_more : (h a : Term) (xs : List Term) → apply h (xs ++ (a ∷ [])) ≡ App (apply h xs) a
apply_one_more h a [] = refl
apply_one_more h a (x ∷ xs) = apply_one_more (App h x) a xs

-- the recursive argument's place, read off a head
pub place_is : {h h' : Term} (r r' : ℕ) → h ≡ h' → slice_get (rargs_of h) (index_of h) ≡ Some r → slice_get (rargs_of h') (index_of h') ≡ Some r' → r ≡ r'
place_is r r' e p p' = one_item (sym p ∙ (λ j. slice_get (rargs_of (e j)) (index_of (e j))) ∙ p')

-- a term is its head applied to its arguments
pub spine_is : (t : Term) → t ≡ apply (head t) (args t)
spine_is (App f a) = ap (λ g. App g a) (spine_is f) ∙ sym (apply_one_more (head f) a (args f))
spine_is t = refl
