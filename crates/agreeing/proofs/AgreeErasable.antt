-- The test of erasable terms agrees with itself, whatever the units and the room.
use Rattle.std.proofs.Common.{ℕ, zero, suc, Bool, true, false, Option, Some, None, slice_get, ◌∷◌}
use Rattle.universe_levels.specs.declared.sort.Sort.{Sort}
use Rattle.pc_terms.specs.declared.leaf.FamilyId.{FamilyId}
use Rattle.pc_terms.specs.Syntax.{Term, SortT, Prod, Construct, Case, list_of}
use Rattle.std.specs.Prelude.{List}
use Rattle.calculus_rules.specs.declared.declaration.Constructor.{Constructor}
use Rattle.calculus_rules.specs.declared.entry.Entry.TheVariants.{Assumed}
use Rattle.pc_rules.specs.declared.meter.Account.{Account}
use Rattle.calculus_rules.specs.Environment.{Env, FamilyDecl}
use Rattle.calculus_rules.specs.Context.{Context, values, extend}
use Rattle.calculus_rules.specs.Instances.{predicate_entries}
use Rattle.calculus_rules.specs.declared.evidence.Evidence.TheVariants.{Arity, PropMatch, PropConstructor}
use Rattle.pc_rules.specs.DirectedRun.{Run, no_unit, is_beyond, any_beyond}
use Rattle.calculus_rules.specs.Lookups.{family_of}
use Rattle.pc_rules.specs.DirectedWeakHead.{weak_next}
use Rattle.pc_rules.specs.DirectedTyping.{Typing}
use Rattle.pc_rules.specs.DirectedErasable.{TypeEnding, ending_on, end_of, ends_in_sort, arity_found, type_test, numbered_test, constructor_test, match_test, erasable_test}
use Rattle.calculus_rules.specs.PropSorts.{is_prop}
use Rattle.agreeing.proofs.Agree.{IsAgreeing, agree_done, agree_passing, agree_spent, agree_with_spent, agree_if, agree_bind, agree_ticking}
use Rattle.agreeing.proofs.AgreeTyping.{AgreeTyping, agree_sort_of}

agree_ending_on : (o : Option Term) (stay stay' : Account → Run Bool) (go go' : Term → Account → Run Bool) → IsAgreeing stay stay' →
    ((t : Term) → IsAgreeing (go t) (go' t)) → IsAgreeing (λ u. ending_on o (stay u) go u) (λ u. ending_on o (stay' u) go' u)
agree_ending_on None stay stay' go go' p q = p
agree_ending_on (Some t) stay stay' go go' p q = agree_ticking _ _ (agree_bind _ _ _ _ (agree_passing (is_beyond t)) (λ x. q t))

agree_end_of : (E : Env) (go go' : TypeEnding) → ((c : Context) (t : Term) → IsAgreeing (go c t) (go' c t)) → (c : Context) (t : Term) →
    IsAgreeing (λ u. end_of E go c t u) (λ u. end_of E go' c t u)
agree_end_of E go go' h c (SortT s) = agree_done true
agree_end_of E go go' h c (Prod A B) =
    agree_ending_on (weak_next E (values (Assumed A ∷ c)) B) _ _ _ _ (agree_end_of E go go' h (Assumed A ∷ c) B) (h (Assumed A ∷ c))
agree_end_of E go go' h c t = agree_done false

agree_ends : (E : Env) (m n : ℕ) (c : Context) (t : Term) → IsAgreeing (λ u. ends_in_sort E m c t u) (λ u. ends_in_sort E n c t u)
unfolding ends_in_sort
agree_ends E zero zero c t =
    agree_ending_on (weak_next E (values c) t) _ _ _ _ (agree_end_of E (λ d T v. no_unit) (λ d T v. no_unit) (λ d T. agree_spent _) c t) (λ T. agree_spent _)
agree_ends E zero (suc n) c t =
    agree_ending_on (weak_next E (values c) t) _ _ _ _ (agree_end_of E (λ d T v. no_unit) (ends_in_sort E n) (λ d T. agree_spent _) c t) (λ T. agree_spent _)
agree_ends E (suc m) zero c t =
    agree_ending_on (weak_next E (values c) t) _ _ _ _ (agree_end_of E (ends_in_sort E m) (λ d T v. no_unit) (λ d T. agree_with_spent _) c t) (λ T. agree_with_spent _)
agree_ends E (suc m) (suc n) c t =
    agree_ending_on (weak_next E (values c) t) _ _ _ _ (agree_end_of E (ends_in_sort E m) (ends_in_sort E n) (agree_ends E m n) c t) (agree_ends E m n c)

agree_ends_within : (E : Env) (c : Context) (t : Term) → IsAgreeing (λ u. ends_in_sort E u.left c t u) (λ u. ends_in_sort E u.left c t u)
agree_ends_within E c t = record { at = λ u v. (agree_ends E u.left v.left c t).at u v }

agree_arity_found : (E : Env) (inf inf' : Typing) → AgreeTyping inf inf' → (c : Context) (T : Term) (b : Bool) →
    IsAgreeing (λ u. arity_found E inf c T b u) (λ u. arity_found E inf' c T b u)
agree_arity_found E inf inf' h c T true = agree_done (Some Arity)
agree_arity_found E inf inf' h c T false = agree_bind _ _ _ _ (agree_sort_of E inf inf' h c T) (λ s. agree_done _)

agree_type_test : (E : Env) (inf inf' : Typing) → AgreeTyping inf inf' → (c : Context) (t : Term) →
    IsAgreeing (λ u. type_test E inf c t u) (λ u. type_test E inf' c t u)
agree_type_test E inf inf' h c t =
    agree_bind _ _ _ _ (h.at c t) (λ T. agree_bind _ _ _ _ (agree_ends_within E c T) (λ b. agree_arity_found E inf inf' h c T b))

agree_numbered : (E : Env) (inf inf' : Typing) → AgreeTyping inf inf' → (c : Context) (t : Term) (s : Sort) (o : Option Constructor) →
    IsAgreeing (λ u. numbered_test E inf c t s o u) (λ u. numbered_test E inf' c t s o u)
agree_numbered E inf inf' h c t s None = agree_type_test E inf inf' h c t
agree_numbered E inf inf' h c t s (Some C) = agree_if (is_prop s) _ _ _ _ (agree_done (Some PropConstructor)) (agree_type_test E inf inf' h c t)

agree_constructor_test : (E : Env) (inf inf' : Typing) → AgreeTyping inf inf' → (c : Context) (t : Term) (n : ℕ) (o : Option FamilyDecl) →
    IsAgreeing (λ u. constructor_test E inf c t n o u) (λ u. constructor_test E inf' c t n o u)
agree_constructor_test E inf inf' h c t n None = agree_type_test E inf inf' h c t
agree_constructor_test E inf inf' h c t n (Some F) = agree_numbered E inf inf' h c t F.sort (slice_get F.constructors n)

agree_match_test : (E : Env) (inf inf' : Typing) → AgreeTyping inf inf' → (c : Context) (t : Term) (f : FamilyId) (ps : List Term) (ret : Term) (o : Option FamilyDecl) →
    IsAgreeing (λ u. match_test E inf c t f ps ret o u) (λ u. match_test E inf' c t f ps ret o u)
agree_match_test E inf inf' h c t f ps ret None = agree_type_test E inf inf' h c t
agree_match_test E inf inf' h c t f ps ret (Some F) =
    agree_bind _ _ _ _ (agree_passing (any_beyond (predicate_entries f F ps))) (λ x.
    agree_bind _ _ _ _ (agree_sort_of E inf inf' h (extend c (predicate_entries f F ps)) ret) (λ s.
    agree_if (is_prop s) _ _ _ _ (agree_done (Some PropMatch)) (agree_type_test E inf inf' h c t)))

pub agree_erasable : (E : Env) (inf inf' : Typing) → AgreeTyping inf inf' → (c : Context) (t : Term) →
    IsAgreeing (λ u. erasable_test E inf c t u) (λ u. erasable_test E inf' c t u)
agree_erasable E inf inf' h c (Construct f n) = agree_constructor_test E inf inf' h c (Construct f n) n (family_of E f)
agree_erasable E inf inf' h c (Case f ps n ret s bs) = agree_match_test E inf inf' h c (Case f ps n ret s bs) f (list_of ps) ret (family_of E f)
agree_erasable E inf inf' h c t = agree_type_test E inf inf' h c t
