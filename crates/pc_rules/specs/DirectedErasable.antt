-- The test of erasable terms, with units: the first of the four kinds of evidence that there is, or none.
use Rattle.std.specs.Prelude.{ℕ, zero, suc, Bool, true, false, if◌then◌else◌, List, ◌∷◌, Option, Some, None, slice_get}
use Rattle.universe_levels.specs.declared.sort.Sort.{Sort}
use Rattle.pc_terms.specs.declared.leaf.FamilyId.{FamilyId}
use Rattle.pc_terms.specs.Syntax.{Term, SortT, Prod, Construct, Case, list_of}
use Rattle.calculus_rules.specs.declared.declaration.Constructor.{Constructor}
use Rattle.calculus_rules.specs.declared.evidence.Evidence.{Evidence}
use Rattle.calculus_rules.specs.declared.evidence.Evidence.TheVariants.{Arity, Proof, PropMatch, PropConstructor}
use Rattle.calculus_rules.specs.declared.entry.Entry.TheVariants.{Assumed}
use Rattle.pc_rules.specs.declared.meter.Account.{Account}
use Rattle.calculus_rules.specs.Environment.{Env, FamilyDecl}
use Rattle.calculus_rules.specs.Context.{Context, values, extend}
use Rattle.calculus_rules.specs.Instances.{predicate_entries}
use Rattle.pc_rules.specs.DirectedRun.{Run, done, no_unit, passing, is_beyond, any_beyond, bind, ticking}
use Rattle.calculus_rules.specs.Lookups.{family_of}
use Rattle.pc_rules.specs.DirectedWeakHead.{weak_next}
use Rattle.pc_rules.specs.DirectedTyping.{Typing, sort_of}
use Rattle.calculus_rules.specs.PropSorts.{is_prop}

-- whether the weak-head normal form of a type goes through products to a sort

abbrev pub TypeEnding : Type 0
TypeEnding = Context → Term → Account → Run Bool

abbrev pub ending_on : Option Term → Run Bool → (Term → Account → Run Bool) → Account → Run Bool
ending_on None stay go u = stay
ending_on (Some t) stay go u = ticking u (λ v. bind (passing (is_beyond t) v) (λ _ w. go t w))

-- of a weak-head normal form; `go` is asked of what a paid step has led to
abbrev pub end_of : Env → TypeEnding → Context → Term → Account → Run Bool
end_of E go c (SortT s) u = done true u
end_of E go c (Prod A B) u =
    ending_on (weak_next E (values (Assumed A ∷ c)) B) (end_of E go (Assumed A ∷ c) B u) (go (Assumed A ∷ c)) u
end_of E go c t u = done false u

-- with a number of steps at most
unfoldable pub ends_in_sort : Env → ℕ → TypeEnding
ends_in_sort E zero c t u = ending_on (weak_next E (values c) t) (end_of E (λ d T v. no_unit) c t u) (λ T v. no_unit) u
ends_in_sort E (suc n) c t u = ending_on (weak_next E (values c) t) (end_of E (ends_in_sort E n) c t u) (ends_in_sort E n c) u

abbrev pub proof_found : Sort → Account → Run (Option Evidence)
proof_found s u = done (if is_prop s then Some Proof else None) u

abbrev pub arity_found : Env → Typing → Context → Term → Bool → Account → Run (Option Evidence)
arity_found E inf c T true u = done (Some Arity) u
arity_found E inf c T false u = bind (sort_of E inf c T u) (λ s v. proof_found s v)

-- by the term's type
abbrev pub type_test : Env → Typing → Context → Term → Account → Run (Option Evidence)
type_test E inf c t u = bind (inf c t u) (λ T v. bind (ends_in_sort E v.left c T v) (λ b w. arity_found E inf c T b w))

-- the term is a constructor, where there is one of the number
abbrev pub numbered_test : Env → Typing → Context → Term → Sort → Option Constructor → Account → Run (Option Evidence)
numbered_test E inf c t s None u = type_test E inf c t u
numbered_test E inf c t s (Some C) u = if is_prop s then done (Some PropConstructor) u else type_test E inf c t u

abbrev pub constructor_test : Env → Typing → Context → Term → ℕ → Option FamilyDecl → Account → Run (Option Evidence)
constructor_test E inf c t n None u = type_test E inf c t u
constructor_test E inf c t n (Some F) u = numbered_test E inf c t F.sort (slice_get F.constructors n) u

abbrev pub match_sort : Env → Typing → Context → Term → Sort → Account → Run (Option Evidence)
match_sort E inf c t s u = if is_prop s then done (Some PropMatch) u else type_test E inf c t u

abbrev pub match_test : Env → Typing → Context → Term → FamilyId → List Term → Term → Option FamilyDecl → Account → Run (Option Evidence)
match_test E inf c t f ps ret None u = type_test E inf c t u
match_test E inf c t f ps ret (Some F) u =
    bind (passing (any_beyond (predicate_entries f F ps)) u) (λ _ v.
    bind (sort_of E inf (extend c (predicate_entries f F ps)) ret v) (λ s w. match_sort E inf c t s w))

-- a constructor of a family of sort Prop; a match whose predicate has sort Prop in its context; a type that ends in a sort; a type of sort Prop
abbrev pub erasable_test : Env → Typing → Context → Term → Account → Run (Option Evidence)
erasable_test E inf c (Construct f n) u = constructor_test E inf c (Construct f n) n (family_of E f) u
erasable_test E inf c (Case f ps n ret s bs) u = match_test E inf c (Case f ps n ret s bs) f (list_of ps) ret (family_of E f) u
erasable_test E inf c t u = type_test E inf c t u
