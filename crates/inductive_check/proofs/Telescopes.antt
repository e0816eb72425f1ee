-- The entries of a telescope and the arguments of a constructor, one by one.
use Rattle.std.proofs.Common.{◌≡◌, ◌∙◌, sym, ap, refl, subst, ℕ, ◌+◌, ◌<◌, ◌≤◌, List, [], ◌∷◌, ◌++◌, length, get_or, drop, Err}
use Rattle.universe_levels.specs.declared.sort.Sort.{Sort}
use Rattle.pc_terms.specs.declared.leaf.Name.{Name}
use Rattle.pc_terms.specs.Syntax.{Term}
use Rattle.calculus_rules.specs.declared.entry.Entry.TheVariants.{Assumed}
use Rattle.pc_rules.specs.declared.meter.Account.{Account}
use Rattle.pc_rules.specs.declared.meter.Meter.{Meter}
use Rattle.pc_rules.specs.declared.stop.Halt.{Halt}
use Rattle.calculus_rules.specs.Environment.{Env}
use Rattle.calculus_rules.specs.Context.{Context, extend}
use Rattle.pc_rules.specs.DirectedRun.{Run, Done, done, bind}
use Rattle.pc_rules.specs.DirectedComparison.{Test}
use Rattle.pc_rules.specs.DirectedTyping.{Typing, sort_of, sorts_of}
use Rattle.pc_rules.specs.DirectedDeclarations.{fits_sort, positive_rule, arguments_rule}
use Rattle.pc_rules.specs.Follows.{Follows, IsAfter}
use Rattle.pc_rules.specs.Leads.{Leads}
use Rattle.pc_rules.specs.WellCounted.{IsCounted, AreCounted, IsCountedContext}
use Rattle.inductive_check.specs.Arguments.{argument_rule, entries_rule}
use Rattle.inductive_check.proofs.Leading.{collect_next, collect_first}
use Rattle.pc_rules.proofs.ListSteps.{next_is, none_left}
use Rattle.pc_rules.proofs.Following.{bind_done}
use Rattle.pc_rules.proofs.FairTyping.{FairTyping, arguments_leave}
use Rattle.pc_rules.proofs.Leading.{bind_assoc, leads_along}

-- the context is longer by an entry, and what is left of the telescope is shorter
pub extend_next : (c : Context) (As : List Term) (i : ℕ) (A : Term) → i < length As → A ≡ get_or As i A →
    extend c (drop i As) ≡ extend (Assumed A ∷ c) (drop (i + 1) As)
extend_next c As i A h e = ap (λ xs. extend c xs) (next_is As i A h e)

-- a context with a telescope is well counted where both are
pub entered_counted : (E : Env) (c : Context) (As : List Term) → IsCountedContext E (extend c As) → IsCountedContext E c × AreCounted E As
entered_counted E c [] h = (h, tt)
entered_counted E c (A ∷ As) h = let p = entered_counted E (Assumed A ∷ c) As h in (p.0.1, (p.0.0, p.1))

-- the rest of a telescope's entries after the first
pub entries_split : (E : Env) (inf : Typing) (c : Context) (A : Term) (As : List Term) (u : Account) →
    entries_rule E inf c (A ∷ As) u ≡ bind (sort_of E inf c A u) (λ s v. entries_rule E inf (Assumed A ∷ c) As v)
unfolding sorts_of
entries_split E inf c A As u =
    let k : Sort → Account → Run (List Sort) = λ s v. bind (sorts_of E inf (Assumed A ∷ c) As v) (λ ss w. done (s ∷ ss) w) in
    bind_assoc (sort_of E inf c A u) k (λ ss v. done tt v)
    ∙ (λ i. bind (sort_of E inf c A u) (λ s v. (bind_assoc (sorts_of E inf (Assumed A ∷ c) As v) (λ ss w. done (s ∷ ss) w) (λ ss w. done tt w)
    ∙ (λ j. bind (sorts_of E inf (Assumed A ∷ c) As v) (λ ss w. bind_done (s ∷ ss) w (λ ss w. done tt w) j))) i))

pub no_entries : (E : Env) (inf : Typing) (c : Context) (u : Account) → entries_rule E inf c [] u ≡ done tt u
unfolding sorts_of
no_entries E inf c u = bind_done [] u (λ ss v. done tt v)

module _ (H : Env) (q : Test) (inf : Typing) (k : Name) (f n : ℕ) (r : Sort) where
  abbrev pub more_arguments : Context → Term → List Term → Sort → Account → Run (List Sort)
  more_arguments c A As s x = bind (arguments_rule H q inf k f n r (Assumed A ∷ c) As x) (λ ss y. done (s ∷ ss) y)

  -- the first argument, and the others
  pub arguments_split : (c : Context) (A : Term) (As : List Term) (u : Account) →
      arguments_rule H q inf k f n r c (A ∷ As) u ≡ bind (argument_rule H q inf k f n r c A u) (more_arguments c A As)
  unfolding arguments_rule
  arguments_split c A As u =
      let k3 : Sort → Account → Run Sort = λ s w. bind (positive_rule H k f n A w) (λ _ x. done s x) in
      let k2 : Sort → Account → Run Sort = λ s v. bind (fits_sort q r s v) (λ _ w. k3 s w) in
      let m3 : Sort → Account → Run (List Sort) = λ s w. bind (positive_rule H k f n A w) (λ _ x. more_arguments c A As s x) in
      let e3 : (s : Sort) (w : Account) → bind (k3 s w) (more_arguments c A As) ≡ m3 s w =
      λ s w. bind_assoc (positive_rule H k f n A w) (λ _ x. done s x) (more_arguments c A As)
      ∙ (λ i. bind (positive_rule H k f n A w) (λ _ x. bind_done s x (more_arguments c A As) i)) in
      let e2 : (s : Sort) (v : Account) → bind (k2 s v) (more_arguments c A As) ≡ bind (fits_sort q r s v) (λ _ w. m3 s w) =
      λ s v. bind_assoc (fits_sort q r s v) (λ _ w. k3 s w) (more_arguments c A As) ∙ (λ i. bind (fits_sort q r s v) (λ _ w. e3 s w i)) in
      sym (bind_assoc (sort_of H inf c A u) k2 (more_arguments c A As) ∙ (λ i. bind (sort_of H inf c A u) (λ s v. e2 s v i)))

  pub no_arguments : (c : Context) (u : Account) → arguments_rule H q inf k f n r c [] u ≡ done [] u
  unfolding arguments_rule
  no_arguments c u = refl

module _ (E : Env) (inf : Typing) (c : Context) (As : List Term) (i : ℕ) (u : Account) where
  -- from entry i on
  pub entries_at : (A : Term) → i < length As → A ≡ get_or As i A →
      entries_rule E inf c (drop i As) u ≡ bind (sort_of E inf c A u) (λ s v. entries_rule E inf (Assumed A ∷ c) (drop (i + 1) As) v)
  entries_at A h e = ap (λ xs. entries_rule E inf c xs u) (next_is As i A h e) ∙ entries_split E inf c A (drop (i + 1) As) u

  pub entries_over : length As ≤ i → entries_rule E inf c (drop i As) u ≡ done tt u
  entries_over h = ap (λ xs. entries_rule E inf c xs u) (none_left As i h) ∙ no_entries E inf c u

module _ (H : Env) (q : Test) (inf : Typing) (k : Name) (f n : ℕ) (r : Sort) (c : Context) (As : List Term) (i : ℕ) (u : Account) where
  -- from argument i on
  pub arguments_at : (A : Term) → i < length As → A ≡ get_or As i A →
      arguments_rule H q inf k f n r c (drop i As) u ≡ bind (argument_rule H q inf k f n r c A u) (more_arguments H q inf k f n r c A (drop (i + 1) As))
  arguments_at A h e = ap (λ xs. arguments_rule H q inf k f n r c xs u) (next_is As i A h e) ∙ arguments_split H q inf k f n r c A (drop (i + 1) As) u

  pub arguments_over : length As ≤ i → arguments_rule H q inf k f n r c (drop i As) u ≡ done [] u
  arguments_over h = ap (λ xs. arguments_rule H q inf k f n r c xs u) (none_left As i h) ∙ no_arguments H q inf k f n r c u

  module _ (A : Term) (lt : i < length As) (is : A ≡ get_or As i A) (whole : Run (List Sort)) (out : List Sort) where
    abbrev pub Collecting : Context → List Term → Account → List Sort → Type 0
    Collecting d Bs v ss = Leads whole (bind (arguments_rule H q inf k f n r d Bs v) (λ rs w. done (ss ++ rs) w))

    one_then : bind (arguments_rule H q inf k f n r c (drop i As) u) (λ rs w. done (out ++ rs) w) ≡
        bind (bind (argument_rule H q inf k f n r c A u) (more_arguments H q inf k f n r c A (drop (i + 1) As))) (λ rs w. done (out ++ rs) w)
    one_then = ap (λ d. bind d (λ rs w. done (out ++ rs) w)) (arguments_at A lt is)

    pub arguments_next : (s : Sort) (v : Account) → Collecting c (drop i As) u out → (argument_rule H q inf k f n r c A u).end ≡ Done s v →
        Collecting (Assumed A ∷ c) (drop (i + 1) As) v (out ++ (s ∷ []))
    arguments_next s v l e =
        collect_next whole out (argument_rule H q inf k f n r c A u) (λ s x. arguments_rule H q inf k f n r (Assumed A ∷ c) (drop (i + 1) As) x) (λ s. s) s v
        (leads_along whole _ _ one_then l) e

    pub arguments_stop : (h : Halt) (m0 m1 m2 : Meter) → Collecting c (drop i As) u out → IsAfter m0 m1 →
        Follows (argument_rule H q inf k f n r c A u) (Err h) m1 m2 → FairTyping 0 0 inf → Follows whole (Err h) m0 m2
    arguments_stop h m0 m1 m2 l after stops hf =
        collect_first whole out (argument_rule H q inf k f n r c A u) (λ s x. arguments_rule H q inf k f n r (Assumed A ∷ c) (drop (i + 1) As) x) (λ s. s) h m0 m1 m2
        (leads_along whole _ _ one_then l) after stops (λ s x. arguments_leave H q inf hf k f n r (Assumed A ∷ c) (drop (i + 1) As) x)

-- an entry of a well-counted type is put in
pub assumed_counted : (E : Env) (c d : Context) (A : Term) → d ≡ Assumed A ∷ c → IsCounted E A → IsCountedContext E c → IsCountedContext E d
assumed_counted E c d A e h k = subst (λ x. IsCountedContext E x) (sym e) (h, k)
