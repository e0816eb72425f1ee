-- Whether the arguments of a family of the target's own block begin with the block's parameters.
use Rattle.std.proofs.Common.{◌≡◌, ℕ, zero, suc, ◌+◌, ◌-◌, ◌<◌, ◌≤◌, ◌==◌, ◌&&◌, ◌||◌, not, Bool, true, false, if◌then◌else◌, nat_lt, List, [], ◌∷◌, ◌++◌, length, Option, None, refl, sym, ap, ◌∙◌, arith}
use Rattle.std.proofs.lemmas.Bool.{lt-ltb, le-ltb}
use Rattle.std.proofs.Math.Bool.{and_assoc, and-true}
use Rattle.pc_terms.specs.declared.leaf.Name.{Name}
use Rattle.pc_terms.specs.Syntax.{Term, Rel, SortT, Prod, Lambda, LetIn, App, Const, Ind, Construct, Case, Fix, args}
use Rattle.calculus_rules.specs.declared.target.Target.{Target}
use Rattle.calculus_rules.specs.declared.target.Target.TheVariants.{Parameter}
use Rattle.calculus_rules.specs.Naming.{names, some_names}
use Rattle.pc_rules.specs.DirectedPositivity.{after_parameters, none_named, own_arguments}
use Rattle.inductive_check.specs.Waiting.{is_parameter, own_from}

-- the arguments from place i on fit
abbrev fits : Target → ℕ → ℕ → ℕ → List Term → Bool
fits g n j i [] = true
fits g n j i (a ∷ xs) = (if nat_lt i n then is_parameter n j i a else not (names g j a)) && fits g n j (suc i) xs

and_swap : (a b : Bool) → (a && b) ≡ (b && a)
and_swap true b = sym (and-true b)
and_swap false true = refl
and_swap false false = refl

fits_more : (g : Target) (n j i m : ℕ) (xs : List Term) (a : Term) → m ≡ i + length xs →
    fits g n j i (xs ++ (a ∷ [])) ≡ (fits g n j i xs && (if nat_lt m n then is_parameter n j m a else not (names g j a)))
fits_more g n j i m [] a e =
    and-true (if nat_lt i n then is_parameter n j i a else not (names g j a))
    ∙ ap (λ i. if nat_lt i n then is_parameter n j i a else not (names g j a)) (let q : i ≡ m = omega arith in q)
fits_more g n j i m (x ∷ xs) a e =
    ap (λ b. (if nat_lt i n then is_parameter n j i x else not (names g j x)) && b) (fits_more g n j (suc i) m xs a (omega arith))
    ∙ sym (and_assoc (if nat_lt i n then is_parameter n j i x else not (names g j x)) (fits g n j (suc i) xs) (if nat_lt m n then is_parameter n j m a else not (names g j a)))

args_long : (f a : Term) → length (args (App f a)) ≡ suc (length (args f))
args_long f a = longer (args f) where
  longer : (xs : List Term) → length (xs ++ (a ∷ [])) ≡ suc (length xs)
  longer [] = refl
  longer (x ∷ xs) = ap suc (longer xs)

-- from the last argument to the first, and from the first to the last
pub own_fits : (g : Target) (n j m : ℕ) (t : Term) → m ≡ length (args t) → own_from g n j m t ≡ fits g n j 0 (args t)
own_fits g n j m (App f a) e =
    let l : m - 1 ≡ length (args f) = omega (arith, args_long f a) in
    ap (λ k. (if nat_lt k n then is_parameter n j k a else not (names g j a)) && own_from g n j k f) l
    ∙ ap (λ b. (if nat_lt (length (args f)) n then is_parameter n j (length (args f)) a else not (names g j a)) && b) (own_fits g n j (length (args f)) f refl)
    ∙ and_swap (if nat_lt (length (args f)) n then is_parameter n j (length (args f)) a else not (names g j a)) (fits g n j 0 (args f))
    ∙ sym (fits_more g n j 0 (length (args f)) (args f) a (omega arith))
own_fits g n j m (Rel i) e = refl
own_fits g n j m (SortT s) e = refl
own_fits g n j m (Prod A B) e = refl
own_fits g n j m (Lambda A b) e = refl
own_fits g n j m (LetIn b B t) e = refl
own_fits g n j m (Const c) e = refl
own_fits g n j m (Ind f) e = refl
own_fits g n j m (Construct f c) e = refl
own_fits g n j m (Case f ps k ret s bs) e = refl
own_fits g n j m (Fix i rargs types bodies) e = refl

-- past the parameters no argument names the target
rest_fits : (g : Target) (n j i : ℕ) (xs : List Term) → n ≤ i → fits g n j i xs ≡ not (some_names g j xs)
rest_fits g n j i [] l = refl
rest_fits g n j i (x ∷ xs) l =
    ap (λ b. (if b then is_parameter n j i x else not (names g j x)) && fits g n j (suc i) xs) (le-ltb i n l)
    ∙ ap (λ b. not (names g j x) && b) (rest_fits g n j (suc i) xs (omega arith)) ∙ neither (names g j x) (some_names g j xs) where
      neither : (a b : Bool) → (not a && not b) ≡ not (a || b)
      neither true b = refl
      neither false b = refl

-- p parameters are still to come
parameters_fit : (g : Target) (n j i p : ℕ) (xs : List Term) → p + i ≡ n → p ≤ length xs → fits g n j i xs ≡ none_named g j (after_parameters p j xs)
parameters_fit g n j i zero xs e l = rest_fits g n j i xs (omega arith)
parameters_fit g n j i (suc p) [] e l = absurd (omega arith)
parameters_fit g n j i (suc p) (Rel v ∷ xs) e l =
    ap (λ b. (if b then (v == n - 1 - i + j) else not (names g j (Rel v))) && fits g n j (suc i) xs) (lt-ltb i n (omega arith))
    ∙ ap (λ k. (v == k + j) && fits g n j (suc i) xs) (let q : n - 1 - i ≡ p = omega arith in q)
    ∙ ap (λ b. (v == p + j) && b) (parameters_fit g n j (suc i) p xs (omega arith) (omega arith)) ∙ both (v == p + j) (after_parameters p j xs) where
      both : (b : Bool) (o : Option (List Term)) → (b && none_named g j o) ≡ none_named g j (if b then o else None)
      both true o = refl
      both false o = refl
parameters_fit g n j i (suc p) (SortT s ∷ xs) e l = ap (λ b. (if b then false else not (names g j (SortT s))) && fits g n j (suc i) xs) (lt-ltb i n (omega arith))
parameters_fit g n j i (suc p) (Prod A B ∷ xs) e l = ap (λ b. (if b then false else not (names g j (Prod A B))) && fits g n j (suc i) xs) (lt-ltb i n (omega arith))
parameters_fit g n j i (suc p) (Lambda A b ∷ xs) e l = ap (λ c. (if c then false else not (names g j (Lambda A b))) && fits g n j (suc i) xs) (lt-ltb i n (omega arith))
parameters_fit g n j i (suc p) (LetIn b B t ∷ xs) e l = ap (λ c. (if c then false else not (names g j (LetIn b B t))) && fits g n j (suc i) xs) (lt-ltb i n (omega arith))
parameters_fit g n j i (suc p) (App f a ∷ xs) e l = ap (λ b. (if b then false else not (names g j (App f a))) && fits g n j (suc i) xs) (lt-ltb i n (omega arith))
parameters_fit g n j i (suc p) (Const c ∷ xs) e l = ap (λ b. (if b then false else not (names g j (Const c))) && fits g n j (suc i) xs) (lt-ltb i n (omega arith))
parameters_fit g n j i (suc p) (Ind f ∷ xs) e l = ap (λ b. (if b then false else not (names g j (Ind f))) && fits g n j (suc i) xs) (lt-ltb i n (omega arith))
parameters_fit g n j i (suc p) (Construct f c ∷ xs) e l = ap (λ b. (if b then false else not (names g j (Construct f c))) && fits g n j (suc i) xs) (lt-ltb i n (omega arith))
parameters_fit g n j i (suc p) (Case f ps m ret s bs ∷ xs) e l = ap (λ b. (if b then false else not (names g j (Case f ps m ret s bs))) && fits g n j (suc i) xs) (lt-ltb i n (omega arith))
parameters_fit g n j i (suc p) (Fix k rargs types bodies ∷ xs) e l = ap (λ b. (if b then false else not (names g j (Fix k rargs types bodies))) && fits g n j (suc i) xs) (lt-ltb i n (omega arith))

short : (p j : ℕ) (xs : List Term) → length xs < p → after_parameters p j xs ≡ None
short zero j xs l = absurd (omega arith)
short (suc p) j [] l = refl
short (suc p) j (Rel v ∷ xs) l = ap (λ o. if v == p + j then o else None) (short p j xs (omega arith)) ∙ either (v == p + j) where
  none : Option (List Term)
  none = None

  either : (b : Bool) → (if b then none else none) ≡ none
  either true = refl
  either false = refl
short (suc p) j (SortT s ∷ xs) l = refl
short (suc p) j (Prod A B ∷ xs) l = refl
short (suc p) j (Lambda A b ∷ xs) l = refl
short (suc p) j (LetIn b B t ∷ xs) l = refl
short (suc p) j (App f a ∷ xs) l = refl
short (suc p) j (Const c ∷ xs) l = refl
short (suc p) j (Ind f ∷ xs) l = refl
short (suc p) j (Construct f c ∷ xs) l = refl
short (suc p) j (Case f ps m ret s bs ∷ xs) l = refl
short (suc p) j (Fix k rargs types bodies ∷ xs) l = refl

-- where the target is a parameter of a block with n parameters
pub own_long : (k : Name) (n v j m : ℕ) (xs : List Term) (t : Term) → xs ≡ args t → m ≡ length xs → n ≤ m → own_from (Parameter k n v) n j m t ≡ own_arguments (Parameter k n v) j xs
own_long k n v j m xs t e l h =
    own_fits (Parameter k n v) n j m t (l ∙ ap length e)
    ∙ parameters_fit (Parameter k n v) n j 0 n (args t) (omega arith) (let q : length xs ≡ length (args t) = ap length e in omega arith)
    ∙ ap (λ ys. none_named (Parameter k n v) j (after_parameters n j ys)) (sym e)

pub own_short : (k : Name) (n v j : ℕ) (xs : List Term) → length xs < n → own_arguments (Parameter k n v) j xs ≡ false
own_short k n v j xs l = ap (λ o. none_named (Parameter k n v) j o) (short n j xs l)
