-- The test of erasable terms never goes back on units, and more units change no result.
use Rattle.std.proofs.Common.{ℕ, zero, suc, ◌+◌, ◌≤◌, Bool, true, false, List, ◌∷◌, Option, Some, None, slice_get, arith}
use Rattle.universe_levels.specs.declared.sort.Sort.{Sort}
use Rattle.pc_terms.specs.declared.leaf.FamilyId.{FamilyId}
use Rattle.pc_terms.specs.Syntax.{Term, SortT, Prod, Construct, Case, list_of}
use Rattle.calculus_rules.specs.declared.declaration.Constructor.{Constructor}
use Rattle.calculus_rules.specs.declared.entry.Entry.TheVariants.{Assumed}
use Rattle.pc_rules.specs.declared.meter.Account.{Account}
use Rattle.calculus_rules.specs.Environment.{Env, FamilyDecl}
use Rattle.calculus_rules.specs.Context.{Context, values, extend}
use Rattle.calculus_rules.specs.Instances.{predicate_entries}
use Rattle.calculus_rules.specs.declared.evidence.Evidence.TheVariants.{Arity, PropMatch, PropConstructor}
use Rattle.pc_rules.specs.DirectedRun.{Run, no_unit, is_beyond, any_beyond, bind, passing, Leaves}
use Rattle.calculus_rules.specs.Lookups.{family_of}
use Rattle.pc_rules.specs.DirectedWeakHead.{weak_next}
use Rattle.pc_rules.specs.DirectedTyping.{Typing}
use Rattle.pc_rules.specs.DirectedErasable.{TypeEnding, ending_on, end_of, ends_in_sort, arity_found, type_test, numbered_test, constructor_test, match_test, erasable_test}
use Rattle.calculus_rules.specs.PropSorts.{is_prop}
use Rattle.pc_rules.proofs.Fair.{IsFair, fair_done, fair_passing, fair_spent, fair_if, fair_bind, fair_ticking_less, fair_less, leaves_bind, leaves_ticking, same_left}
use Rattle.pc_rules.proofs.FairTyping.{FairTyping, fair_sort_of}

fair_ending_on : {m k : ℕ} (o : Option Term) (stay stay' : Account → Run Bool) (go go' : Term → Account → Run Bool) → IsFair (suc m) k stay stay' →
    ((t : Term) → IsFair m k (go t) (go' t)) → IsFair (suc m) k (λ u. ending_on o (stay u) go u) (λ u. ending_on o (stay' u) go' u)
fair_ending_on None stay stay' go go' p q = p
fair_ending_on (Some t) stay stay' go go' p q = fair_ticking_less _ _ (fair_bind _ _ _ _ (fair_passing (is_beyond t)) (λ x. q t))

fair_end_of : {m k : ℕ} (E : Env) (go go' : TypeEnding) → ((c : Context) (t : Term) → IsFair m k (go c t) (go' c t)) → (c : Context) (t : Term) →
    IsFair (suc m) k (λ u. end_of E go c t u) (λ u. end_of E go' c t u)
fair_end_of E go go' h c (SortT s) = fair_done true
fair_end_of E go go' h c (Prod A B) =
    fair_ending_on (weak_next E (values (Assumed A ∷ c)) B) _ _ _ _ (fair_end_of E go go' h (Assumed A ∷ c) B) (h (Assumed A ∷ c))
fair_end_of E go go' h c t = fair_done false

-- with more steps than units, more steps change nothing
fair_ends : {k : ℕ} (E : Env) (m j : ℕ) → m ≤ j → (c : Context) (t : Term) → IsFair m k (λ u. ends_in_sort E m c t u) (λ u. ends_in_sort E j c t u)
unfolding ends_in_sort
fair_ends E zero zero l c t =
    fair_less 1 _ _ (omega arith) (fair_ending_on (weak_next E (values c) t) _ _ _ _ (fair_end_of E (λ d T v. no_unit) (λ d T v. no_unit) (λ d T. fair_spent _) c t) (λ T. fair_spent _))
fair_ends E zero (suc j) l c t =
    fair_less 1 _ _ (omega arith) (fair_ending_on (weak_next E (values c) t) _ _ _ _ (fair_end_of E (λ d T v. no_unit) (ends_in_sort E j) (λ d T. fair_spent _) c t) (λ T. fair_spent _))
fair_ends E (suc m) zero l c t = absurd (omega arith)
fair_ends E (suc m) (suc j) l c t =
    fair_ending_on (weak_next E (values c) t) _ _ _ _ (fair_end_of E (ends_in_sort E m) (ends_in_sort E j) (fair_ends E m j (omega arith)) c t) (fair_ends E m j (omega arith) c)

fair_ends_within : {n k : ℕ} (E : Env) (c : Context) (t : Term) → IsFair n k (λ u. ends_in_sort E u.left c t u) (λ u. ends_in_sort E u.left c t u)
fair_ends_within {k = k} E c t = record {
  falls = λ u. (fair_ends {k = k} E u.left u.left (omega arith) c t).falls u;
  stays = λ u l. (fair_ends {k = k} E u.left (u.left + k) (omega arith) c t).stays u (omega arith);
}

fair_arity_found : {n k : ℕ} (E : Env) (inf : Typing) → FairTyping n k inf → (c : Context) (T : Term) (b : Bool) →
    IsFair n k (λ u. arity_found E inf c T b u) (λ u. arity_found E inf c T b u)
fair_arity_found E inf h c T true = fair_done (Some Arity)
fair_arity_found E inf h c T false = fair_bind _ _ _ _ (fair_sort_of E inf h c T) (λ s. fair_done _)

fair_type_test : {n k : ℕ} (E : Env) (inf : Typing) → FairTyping n k inf → (c : Context) (t : Term) →
    IsFair n k (λ u. type_test E inf c t u) (λ u. type_test E inf c t u)
fair_type_test E inf h c t = fair_bind _ _ _ _ (h.at c t) (λ T. fair_bind _ _ _ _ (fair_ends_within E c T) (λ b. fair_arity_found E inf h c T b))

fair_numbered : {n k : ℕ} (E : Env) (inf : Typing) → FairTyping n k inf → (c : Context) (t : Term) (s : Sort) (o : Option Constructor) →
    IsFair n k (λ u. numbered_test E inf c t s o u) (λ u. numbered_test E inf c t s o u)
fair_numbered E inf h c t s None = fair_type_test E inf h c t
fair_numbered E inf h c t s (Some C) = fair_if (is_prop s) _ _ _ _ (fair_done (Some PropConstructor)) (fair_type_test E inf h c t)

fair_constructor_test : {n k : ℕ} (E : Env) (inf : Typing) → FairTyping n k inf → (c : Context) (t : Term) (m : ℕ) (o : Option FamilyDecl) →
    IsFair n k (λ u. constructor_test E inf c t m o u) (λ u. constructor_test E inf c t m o u)
fair_constructor_test E inf h c t m None = fair_type_test E inf h c t
fair_constructor_test E inf h c t m (Some F) = fair_numbered E inf h c t F.sort (slice_get F.constructors m)

fair_match_test : {n k : ℕ} (E : Env) (inf : Typing) → FairTyping n k inf → (c : Context) (t : Term) (f : FamilyId) (ps : List Term) (ret : Term) (o : Option FamilyDecl) →
    IsFair n k (λ u. match_test E inf c t f ps ret o u) (λ u. match_test E inf c t f ps ret o u)
fair_match_test E inf h c t f ps ret None = fair_type_test E inf h c t
fair_match_test E inf h c t f ps ret (Some F) =
    fair_bind _ _ _ _ (fair_passing (any_beyond (predicate_entries f F ps))) (λ x.
    fair_bind _ _ _ _ (fair_sort_of E inf h (extend c (predicate_entries f F ps)) ret) (λ s.
    fair_if (is_prop s) _ _ _ _ (fair_done (Some PropMatch)) (fair_type_test E inf h c t)))

pub fair_erasable : {n k : ℕ} (E : Env) (inf : Typing) → FairTyping n k inf → (c : Context) (t : Term) →
    IsFair n k (λ u. erasable_test E inf c t u) (λ u. erasable_test E inf c t u)
fair_erasable E inf h c (Construct f m) = fair_constructor_test E inf h c (Construct f m) m (family_of E f)
fair_erasable E inf h c (Case f ps m ret s bs) = fair_match_test E inf h c (Case f ps m ret s bs) f (list_of ps) ret (family_of E f)
fair_erasable E inf h c t = fair_type_test E inf h c t

-- what runs leave, from one account

pub arity_found_leaves : (E : Env) (inf : Typing) → FairTyping 0 0 inf → (c : Context) (T : Term) (b : Bool) (u : Account) → Leaves (arity_found E inf c T b u).end u.left
arity_found_leaves E inf h c T b u = (fair_arity_found {n = 0} {k = 0} E inf h c T b).falls u

pub numbered_test_leaves : (E : Env) (inf : Typing) → FairTyping 0 0 inf → (c : Context) (t : Term) (s : Sort) (o : Option Constructor) (u : Account) → Leaves (numbered_test E inf c t s o u).end u.left
numbered_test_leaves E inf h c t s o u = (fair_numbered {n = 0} {k = 0} E inf h c t s o).falls u

pub constructor_test_leaves : (E : Env) (inf : Typing) → FairTyping 0 0 inf → (c : Context) (t : Term) (m : ℕ) (o : Option FamilyDecl) (u : Account) → Leaves (constructor_test E inf c t m o u).end u.left
constructor_test_leaves E inf h c t m o u = (fair_constructor_test {n = 0} {k = 0} E inf h c t m o).falls u

pub match_test_leaves : (E : Env) (inf : Typing) → FairTyping 0 0 inf → (c : Context) (t : Term) (f : FamilyId) (ps : List Term) (ret : Term) (o : Option FamilyDecl) (u : Account) → Leaves (match_test E inf c t f ps ret o u).end u.left
match_test_leaves E inf h c t f ps ret o u = (fair_match_test {n = 0} {k = 0} E inf h c t f ps ret o).falls u

pub erasable_leaves : (E : Env) (inf : Typing) → FairTyping 0 0 inf → (c : Context) (t : Term) (u : Account) → Leaves (erasable_test E inf c t u).end u.left
erasable_leaves E inf h c t u = (fair_erasable {n = 0} {k = 0} E inf h c t).falls u

pub ends_leave : (E : Env) (m : ℕ) (c : Context) (t : Term) (u : Account) → Leaves (ends_in_sort E m c t u).end u.left
ends_leave E m c t u = (fair_ends {k = 0} E m m (omega arith) c t).falls u

pub end_of_leaves : (E : Env) (m : ℕ) (c : Context) (t : Term) (u : Account) → Leaves (end_of E (ends_in_sort E m) c t u).end u.left
end_of_leaves E m c t u = (fair_end_of {k = 0} E (ends_in_sort E m) (ends_in_sort E m) (fair_ends E m m (omega arith)) c t).falls u

pub ending_on_leaves : (o : Option Term) (stay : Run Bool) (go : Term → Account → Run Bool) (u : Account) → Leaves stay.end u.left →
    ((t : Term) (v : Account) → Leaves (go t v).end v.left) → Leaves (ending_on o stay go u).end u.left
ending_on_leaves None stay go u h q = h
ending_on_leaves (Some t) stay go u h q =
    leaves_ticking u (λ v. bind (passing (is_beyond t) v) (λ x w. go t w)) (λ v. leaves_bind (passing (is_beyond t) v) (λ x w. go t w) v.left (same_left v) (λ x w. q t w))

pub ruleset leaving_erasable = (arity_found_leaves, numbered_test_leaves, constructor_test_leaves, match_test_leaves, erasable_leaves, ends_leave, end_of_leaves, ending_on_leaves)
