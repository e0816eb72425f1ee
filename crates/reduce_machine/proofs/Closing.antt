-- Values as terms under bindings, and variables that are bound as they are.
use Rattle.std.proofs.Common.{◌≡◌, ℕ, zero, suc, ◌+◌, ◌<◌, List, [], ◌∷◌, Option, Some, length, map, slice_get, refl, sym, ap, ◌∙◌, subst as along, arith}
use lib.ListN.{length-map}
use Rattle.trees.proofs.Cutoffs.{put_all-past}
use Rattle.pc_terms.specs.declared.leaf.FamilyId.{FamilyId}
use Rattle.pc_terms.specs.Syntax.{Term, Rel, App, Construct, apply, first, put_all, substitute, variables}
use Rattle.pc_terms.specs.Counted.{number_of}
use Rattle.calculus_rules.specs.Environment.{Env}
use Rattle.calculus_rules.specs.Context.{Values}
use Rattle.reduce_machine.specs.Reducts.{after, IsMade, IsReduct}
use Rattle.reduce_machine.specs.Reads.{stands, read}
use Rattle.reduce_machine.specs.Values.{term_of}
use Rattle.reduce_machine.specs.declared.bindings.Lazy.{Lazy}
use Rattle.reduce_machine.specs.declared.reducts.Made.{Made}
use Rattle.reduce_machine.specs.declared.reducts.Reduct.{Reduct}
use Rattle.reduce_machine.specs.declared.spines.Head.TheVariants.{Open}
use Rattle.reduce_machine.specs.declared.values.Value.{Value}
use Rattle.reduce_machine.proofs.Standing.{stands_at}
use Rattle.reduce_machine.proofs.Keeping.{place_known}
use Rattle.reduce_machine.proofs.ValueParts.{value_term, lambda_term}

-- a head that is applied to variables which are bound to its arguments
pub closing : (h : Term) (xs : List Term) (s : ℕ → Term) → substitute (put_all xs s) (apply h (variables (length xs))) ≡ apply (substitute (put_all xs s) h) xs
closing h [] s = refl
closing h (x ∷ xs) s =
    let z : length xs + 0 ≡ length xs = omega arith in
    let y : put_all xs (first x s) (length xs) ≡ x = ap (put_all xs (first x s)) (sym z) ∙ put_all-past xs (first x s) 0 in
    closing (App h (Rel (length xs))) xs (first x s) ∙ ap (λ a. apply (App (substitute (put_all xs (first x s)) h) a) xs) y

-- a constructor that is so applied
pub closed_read : (f : FamilyId) (c : ℕ) (l : Lazy) (xs : List Lazy) → l.term ≡ apply (Construct f c) (variables (length xs)) →
    stands l.env.items ≡ put_all (map read xs) Rel → read l ≡ apply (Construct f c) (map read xs)
closed_read f c l xs p q =
    (λ j. substitute (q j) (p j)) ∙ ap (λ n. substitute (put_all (map read xs) Rel) (apply (Construct f c) (variables n))) (sym (length-map xs read))
    ∙ closing (Construct f c) (map read xs) Rel

-- a constructor value, with its arguments bound
pub closure_read : (v : Value) (h l : Lazy) (f : FamilyId) (c n : ℕ) → v.spine.head ≡ Open h → Construct f c ≡ h.term → n ≡ length v.spine.args.items →
    l.term ≡ apply h.term (variables n) → stands l.env.items ≡ put_all (map read v.spine.args.items) Rel → read l ≡ term_of v
closure_read v h l f c n p q e a b =
    closed_read f c l v.spine.args.items (a ∙ (λ j. apply (sym q j) (variables (e j)))) b
    ∙ ap (λ t. apply (substitute (stands h.env.items) t) (map read v.spine.args.items)) q ∙ sym (value_term v h p)

-- variable 0 under the bindings from a variable on
stands_same : (xs ys : List Term) (i : ℕ) → slice_get xs 0 ≡ slice_get ys i → i < length ys → stands xs 0 ≡ stands ys i
stands_same xs [] i e h = absurd (omega (arith, h))
stands_same xs (y ∷ ys) zero e h = stands_at xs 0 y e
stands_same xs (y ∷ ys) (suc i) e h = stands_same xs ys i e (omega (arith, h))

pub first_read : (l : Lazy) (xs ys : List Term) (i : ℕ) (t v : Term) → l.term ≡ v → v ≡ Rel 0 → l.env.items ≡ xs → slice_get xs 0 ≡ slice_get ys i → i < length ys →
    Rel i ≡ t → read l ≡ substitute (stands ys) t
first_read l xs ys i t v p q e s h r =
    (λ j. substitute (stands (e j)) ((p ∙ q) j)) ∙ stands_same xs ys i s h ∙ ap (substitute (stands ys)) r

-- a head by itself
pub alone_read : (v : Value) (h l : Lazy) → v.spine.head ≡ Open h → v.spine.args.items ≡ [] → l ≡ h → read l ≡ term_of v
alone_read v h l p q e = ap read e ∙ sym (lambda_term v h p q)

-- the head that was made last
pub made_is : (o : Option Made) (m : Made) (t head : Term) (n : ℕ) → IsMade o → o ≡ Some m → t ≡ m.whole → (m.head ≡ head) × (m.count ≡ n) → t ≡ apply head (variables n)
made_is o m t head n h e p q =
    let w : m.whole ≡ apply m.head (variables m.count) = along (λ x. IsMade x) e h in
    p ∙ w ∙ (λ j. apply (q.0 j) (variables (q.1 j)))

-- what a variable is reduced to, at the place of its binding
pub place_of : (E : Env) (V : Values) (n m : ℕ) (o x v : Lazy) (i : ℕ) → Rel i ≡ o.term → slice_get o.env.items i ≡ Some (read x) → m ≡ number_of (read x) →
    after E V n (read o) ≡ Some (read v) → (t : Term) → m ≡ number_of t → after E V n t ≡ Some (read v)
place_of E V n m o x v i p f q e =
    let w : read o ≡ read x = sym (ap (substitute (stands o.env.items)) p) ∙ stands_at o.env.items i (read x) f in
    place_known E V n m (read o) (read v) (q ∙ ap number_of (sym w)) e

-- an entry for the term of a place
pub entry_is : (E : Env) (V : Values) (r : Reduct) (m : ℕ) (v : Lazy) → 0 < r.units → r.own.value ≡ m → r.term ≡ v →
    ((t : Term) → m ≡ number_of t → after E V r.units t ≡ Some (read v)) → IsReduct E V r
entry_is E V r m v s p q h = record { some = s; steps = λ t e. h t (sym p ∙ e) ∙ ap (λ l. Some (read l)) (sym q) }
