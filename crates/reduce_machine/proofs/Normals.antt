-- Terms that are seen to have no step by their heads.
use Rattle.std.proofs.Common.{◌≡◌, ℕ, ◌+◌, ◌≤◌, List, [], ◌∷◌, ◌++◌, length, map, Option, Some, None, refl, sym, ap, ◌∙◌, arith, length-append, slice_get, subst as along}
use Rattle.pc_terms.specs.declared.term.Node.{Node}
use Rattle.pc_terms.specs.declared.term.Node.TheVariants.{App as AppNode}
use Rattle.pc_terms.specs.Syntax.{Term, Terms, Rel, Lambda, LetIn, App, Const, Case, Fix, apply, head, args, substitute}
use Rattle.pc_terms.specs.View.{tree_of}
use Rattle.calculus_rules.specs.Environment.{Env}
use Rattle.calculus_rules.specs.Context.{Values}
use Rattle.pc_rules.specs.DirectedWeakHead.{weak_next}
use Rattle.trees.proofs.Put.{each_length}
use Rattle.calculus_rules.proofs.Spines.{head-apply, args-apply, spine_is, substitute-apply}
use Rattle.reduction.proofs.Steps.{IsLambda, missing_is, application_waits}
use Rattle.reduce_machine.specs.Normal.{IsWaiting, IsNormalHead}

fewer_wait : (o : Option ℕ) (n : ℕ) → IsWaiting o (n + 1) → IsWaiting o n
fewer_wait (Some r) n h = omega arith
fewer_wait None n h = h

fewer : (E : Env) (V : Values) (h : Term) (n : ℕ) → IsNormalHead E V h (n + 1) → IsNormalHead E V h n
fewer E V (Rel i) n h = h
fewer E V (Const k) n h = h
fewer E V (Lambda A b) n h = absurd (omega arith)
fewer E V (Fix i rargs types bodies) n h = fewer_wait (slice_get rargs i) n h
fewer E V (LetIn b B t) n h = h
fewer E V (App g a) n h = h
fewer E V (Case f ps m ret s bs) n h = h
fewer E V t n h = tt

no_lambda : (E : Env) (V : Values) (g : Term) (n : ℕ) → IsNormalHead E V (head g) (n + 1) → IsLambda g → ⊥
no_lambda E V (Lambda A b) n h l = omega arith
no_lambda E V t n h l = l

waits_not : (E : Env) (V : Values) (h : Term) (n i : ℕ) (rargs : List ℕ) (types bodies : Terms) → h ≡ Fix i rargs types bodies → slice_get rargs i ≡ Some n →
    IsNormalHead E V h (n + 1) → ⊥
waits_not E V h n i rargs types bodies e f k =
    let w : IsWaiting (slice_get rargs i) (n + 1) = along (λ x. IsNormalHead E V x (n + 1)) e k in
    let v : n + 1 ≤ n = along (λ o. IsWaiting o (n + 1)) f w in
    omega arith

one_more : (g a : Term) → length (args (App g a)) ≡ length (args g) + 1
one_more g a = length-append (args g) (a ∷ [])

pub normal : (E : Env) (V : Values) (t : Term) → IsNormalHead E V (head t) (length (args t)) → weak_next E V t ≡ None
normal E V (Rel i) h = h
normal E V (Const k) h = h
normal E V (LetIn b B t) h = absurd h
normal E V (Case f ps m ret s bs) h = absurd h
normal E V (App g a) h =
    let k : IsNormalHead E V (head g) (length (args g) + 1) = along (λ n. IsNormalHead E V (head g) n) (one_more g a) h in
    application_waits E V g a (no_lambda E V g (length (args g)) k)
    (λ m. let r = missing_is g 0 m in
    let z : length (args g) + 0 ≡ length (args g) = omega arith in
    waits_not E V (head g) (length (args g)) r.0 r.1 r.2 r.3 r.4 (r.5 ∙ ap Some z) k)
    (normal E V g (fewer E V (head g) (length (args g)) k))
normal E V t h = refl

-- a head that is no application
pub head_itself : (n : Node) (t : Term) → tree_of n ≡ t → ((f a : Term) → n ≡ AppNode f a → ⊥) → (head t ≡ t) × (args t ≡ [])
head_itself n t e h = along (λ x. (head x ≡ x) × (args x ≡ [])) e (node n h)
  where
    node : (n : Node) → ((f a : Term) → n ≡ AppNode f a → ⊥) → (head (tree_of n) ≡ tree_of n) × (args (tree_of n) ≡ [])
    node (AppNode f a) h = absurd (h f a refl)
    node n h = (refl, refl)

pub substitute_spine : (s : ℕ → Term) (t : Term) → substitute s t ≡ apply (substitute s (head t)) (map (substitute s) (args t))
substitute_spine s t = ap (substitute s) (spine_is t) ∙ substitute-apply s (head t) (args t)

normal_itself : (E : Env) (V : Values) (h : Term) (n : ℕ) → IsNormalHead E V h n → (head h ≡ h) × (args h ≡ [])
normal_itself E V (App g a) n k = absurd k
normal_itself E V h n k = (refl, refl)

normal_applied : (E : Env) (V : Values) (h : Term) (xs : List Term) (n : ℕ) → length xs ≡ n → IsNormalHead E V h n → weak_next E V (apply h xs) ≡ None
normal_applied E V h xs n e k =
    let i = normal_itself E V h n k in
    let p : head (apply h xs) ≡ h = head-apply h xs ∙ i.0 in
    let q : length (args (apply h xs)) ≡ n = ap length (args-apply h xs ∙ ap (λ ys. ys ++ xs) i.1) ∙ e in
    normal E V (apply h xs) (along (λ m. IsNormalHead E V (head (apply h xs)) m) (sym q) (along (λ x. IsNormalHead E V x n) (sym p) k))

pub normal_under : (E : Env) (V : Values) (s : ℕ → Term) (t g : Term) (c : ℕ) → head t ≡ head g → length (args t) ≡ c + length (args g) → head g ≡ g → args g ≡ [] →
    IsNormalHead E V (substitute s g) c → weak_next E V (substitute s t) ≡ None
normal_under E V s t g c p q r z h =
    let n : length (args g) ≡ 0 = ap length z in
    let m : length (map (substitute s) (args t)) ≡ c = each_length (substitute s) (args t) ∙ q ∙ omega arith in
    ap (weak_next E V) (substitute_spine s t)
    ∙ normal_applied E V (substitute s (head t)) (map (substitute s) (args t)) c m (along (λ x. IsNormalHead E V (substitute s x) c) (sym (p ∙ r)) h)

pub args_more : (t h f a : Term) (c : ℕ) → App f a ≡ h → length (args t) ≡ c + length (args h) → length (args t) ≡ c + 1 + length (args f)
args_more t h f a c e p =
    let x : length (args h) ≡ length (args f) + 1 = sym (ap (λ y. length (args y)) e) ∙ one_more f a in
    omega arith

pub normal_head : (E : Env) (V : Values) (t u : Term) (c : ℕ) → u ≡ t → IsNormalHead E V u c → IsNormalHead E V t c
normal_head E V t u c e h = along (λ x. IsNormalHead E V x c) e h

pub waits_at : (o : Option ℕ) (r n : ℕ) → o ≡ Some r → n ≤ r → IsWaiting o n
waits_at o r n e h = along (λ p. IsWaiting p n) (sym e) h
