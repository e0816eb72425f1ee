-- Types are kept when the entries of the context are replaced by entries below them, and values by equal ones.
use Rattle.std.proofs.Common.{ℕ, zero, suc, ◌≡◌, List, [], ◌∷◌, Option, Some, None, refl, sym, ap, ◌∙◌, subst}
use mathlib.Core.Path.{fun_ext}
use Rattle.pc_terms.specs.Syntax.{Slot, Label, slots, Term, Terms, Children, Rel, rename, over}
use Rattle.pc_terms.specs.declared.leaf.FamilyId.{FamilyId}
use Rattle.calculus_rules.specs.declared.declaration.Constructor.{Constructor}
use Rattle.calculus_rules.specs.declared.entry.Entry.{Entry}
use Rattle.calculus_rules.specs.declared.entry.Entry.TheVariants.{Assumed, Defined}
use Rattle.calculus_rules.specs.Environment.{Env}
use Rattle.calculus_rules.specs.Context.{Context, Values, values, value_of, value_at, type_at, lifted, under, extend}
use Rattle.calculus_rules.specs.Instances.{branch_entries}
use Rattle.calculus_rules.specs.Conversion.{Equal, step, chain, same, Below, equal}
use Rattle.calculus_rules.specs.Step.{Root, beta, zeta, constant, variable, matched, fixpoint, Step, root, inside, let_body, StepIn, in_child, in_group, past_child, past_group, StepTerms, in_first, in_rest}
use Rattle.calculus_rules.specs.Typing.{bare, Types, rel, conv, TypesAll, no_terms, term, Entries, no_entries, entry, Branches, no_branches, branch, Sorts, no_types, a_type, Bodies, no_bodies, a_body, Recurses}
use Rattle.calculus_rules.specs.Accepted.{IsAccepted}
use Rattle.calculus_rules.proofs.Spines.{one_item}
use Rattle.trees.proofs.Exchange.{overs_same}
use Rattle.trees.proofs.Put.{substitute_same}
use Rattle.typing_laws.proofs.AcceptedClosed.{accepted_closed}
use Rattle.typing_laws.proofs.ClosedEnv.{ClosedEnv}
use Rattle.typing_laws.proofs.Traversal.{substituted_entry, equal_at, below_at, types_at, substitute_equal, substitute_below, substitute_recurses, substitute_types}
use Rattle.typing_laws.proofs.RenamingAndPutting.{PutsEntries, putting, put_entries_over, lifted_some, renaming_values, later, later_is, later_values, weaken_equal, weaken_types}
use Rattle.type_laws.specs.Contexts.{HasSort, IsContext}
use Rattle.type_laws.specs.Contexts as contexts

-- the entries of the first context are below those of the second, whose types have sorts in the first
pub data ContextBelow (E : Env) : Context → Context → Type 0 where
  empty : ContextBelow E [] []
  assume : {c c' : Context} {A A' : Term} → ContextBelow E c' c → Below E (values c') A' A → HasSort E c' A → ContextBelow E (Assumed A' ∷ c') (Assumed A ∷ c)
  define : {c c' : Context} {b b' B B' : Term} → ContextBelow E c' c → Equal E (values c') b' b → Below E (values c') B' B → HasSort E c' B →
      ContextBelow E (Defined b' B' ∷ c') (Defined b B ∷ c)
  -- an assumed entry gets a value
  given : {c c' : Context} {b A A' : Term} → ContextBelow E c' c → Below E (values c') A' A → HasSort E c' A → ContextBelow E (Defined b A' ∷ c') (Assumed A ∷ c)

pub context_same : (E : Env) → IsAccepted E → (c : Context) → IsContext E c → ContextBelow E c c
context_same E h [] contexts.empty = empty
context_same E h (Assumed A ∷ c) (contexts.assume k s) = assume (context_same E h c k) (equal same) s
context_same E h (Defined b B ∷ c) (contexts.define k s d) = define (context_same E h c k) same (equal same) s

-- a context that widens another

-- each variable of the first context has its type in the second, and is equal to its value
abbrev pub Widens : Env → Context → Context → Type 0
Widens E c d = PutsEntries E Rel c d

entry_same : (e : Entry) → substituted_entry Rel e ≡ e
entry_same (Assumed A) = ap Assumed (substitute_same A)
entry_same (Defined b B) = λ i. Defined (substitute_same b i) (substitute_same B i)

over_same : over {L = Label} {slots = slots} Rel ≡ Rel
over_same = fun_ext (overs_same 1)

pub widens_over : {E : Env} → ClosedEnv E → {c d : Context} → Widens E c d → (e : Entry) → Widens E (e ∷ c) (e ∷ d)
widens_over {E} closed {c} {d} g e =
    subst (λ s. PutsEntries E s (e ∷ c) (e ∷ d)) over_same
    (subst (λ x. PutsEntries E (over Rel) (e ∷ c) (x ∷ d)) (entry_same e) (put_entries_over closed g e))

pub widens_extend : {E : Env} → ClosedEnv E → {c d : Context} → Widens E c d → (As : List Term) → Widens E (extend c As) (extend d As)
widens_extend closed g [] = g
widens_extend closed g (A ∷ As) = widens_extend closed (widens_over closed g (Assumed A)) As

pub widens_equal : {E : Env} → ClosedEnv E → {c d : Context} → Widens E c d → {t u : Term} → Equal E (values c) t u → Equal E (values d) t u
widens_equal {E} closed {c} {d} g {t} {u} e =
    equal_at (substitute_same t) (substitute_same u) (substitute_equal (putting E closed).carries closed e Rel (values d) g.at_values)

pub widens_below : {E : Env} → ClosedEnv E → {c d : Context} → Widens E c d → {t u : Term} → Below E (values c) t u → Below E (values d) t u
widens_below {E} closed {c} {d} g {t} {u} b =
    below_at (substitute_same t) (substitute_same u) (substitute_below (putting E closed).carries closed b Rel (values d) g.at_values)

pub widens_types : {E : Env} → ClosedEnv E → {c d : Context} → Widens E c d → {t T : Term} → Types bare E c t T → Types bare E d t T
widens_types {E} closed {c} {d} g {t} {T} h = types_at (substitute_same t) (substitute_same T) (substitute_types (putting E closed) closed h Rel d g)

widens_recurses : {E : Env} → ClosedEnv E → {c d : Context} → Widens E c d → {r : ℕ} {t : Term} → Recurses E (values c) r t → Recurses E (values d) r t
widens_recurses {E} closed {c} {d} g {r} {t} h =
    subst (Recurses E (values d) r) (substitute_same t) (substitute_recurses (putting E closed).carries closed h Rel (values d) g.at_values)

pub widens_all : {E : Env} → ClosedEnv E → {c d : Context} → Widens E c d → {s : ℕ → Term} {ts As : List Term} → TypesAll bare E c s ts As → TypesAll bare E d s ts As
widens_all closed g no_terms = no_terms
widens_all closed g (term p ps) = term (widens_types closed g p) (widens_all closed g ps)

pub widens_entries : {E : Env} → ClosedEnv E → {c d : Context} → Widens E c d → {As : List Term} → Entries bare E c As → Entries bare E d As
widens_entries closed g no_entries = no_entries
widens_entries closed g (entry {A = A} p ps) = entry (widens_types closed g p) (widens_entries closed (widens_over closed g (Assumed A)) ps)

pub widens_branches : {E : Env} → ClosedEnv E → {c d : Context} → Widens E c d → {f : FamilyId} {ps : List Term} {ret : Term} {n : ℕ} {Cs : List Constructor} {bs : Terms} →
    Branches bare E c f ps ret n Cs bs → Branches bare E d f ps ret n Cs bs
widens_branches closed g no_branches = no_branches
widens_branches closed g (branch {ps = ps} {C = C} e es p bs) =
    branch e (widens_entries closed g es) (widens_types closed (widens_extend closed g (branch_entries C ps)) p) (widens_branches closed g bs)

pub widens_sorts : {E : Env} → ClosedEnv E → {c d : Context} → Widens E c d → {n : ℕ} {ts : Terms} → Sorts bare E c n ts → Sorts bare E d n ts
widens_sorts closed g no_types = no_types
widens_sorts closed g (a_type p ps) = a_type (widens_types closed g p) (widens_sorts closed (widens_over closed g (Assumed _)) ps)

pub widens_bodies : {E : Env} → ClosedEnv E → {c d : Context} → Widens E c d → {n : ℕ} {rargs : List ℕ} {ts bs : Terms} → Bodies bare E c n rargs ts bs → Bodies bare E d n rargs ts bs
widens_bodies closed g no_bodies = no_bodies
widens_bodies closed g (a_body r p ps) = a_body (widens_recurses closed g r) (widens_types closed g p) (widens_bodies closed g ps)

-- a context below another widens it

pub weaken_below : {E : Env} → ClosedEnv E → {W : Values} {t u : Term} → Below E W t u → (o : Option Term) → Below E (o ∷ W) (rename suc t) (rename suc u)
weaken_below {E} closed {W} {t} {u} h o =
    below_at (later_is t) (later_is u) (substitute_below (renaming_values E) closed h later (o ∷ W) (later_values o W))

-- under one more entry
next_value : {E : Env} → ClosedEnv E → (c c' : Context) (i : ℕ) (v : Term) → ((u : Term) → value_at (values c) i ≡ Some u → Equal E (values c') (Rel i) u) → (o : Option Term) →
    lifted (value_at (values c) i) ≡ Some v → Equal E (o ∷ values c') (Rel (suc i)) v
next_value closed c c' i v f o e = let (u, eu, ev) = lifted_some (value_at (values c) i) v e in equal_at refl (sym ev) (weaken_equal closed (f u eu) o)

next_type : {E : Env} → ClosedEnv E → (c c' : Context) (i : ℕ) (T : Term) → ((U : Term) → type_at c i ≡ Some U → Types bare E c' (Rel i) U) → (x : Entry) →
    lifted (type_at c i) ≡ Some T → Types bare E (x ∷ c') (Rel (suc i)) T
next_type closed c c' i T f x e = let (U, eu, ev) = lifted_some (type_at c i) T e in types_at refl (sym ev) (weaken_types closed (f U eu) x)

-- the innermost entry
first_type : {E : Env} → ClosedEnv E → (c : Context) (x : Entry) (A A' T : Term) → type_at (x ∷ c) 0 ≡ Some (rename suc A') → Below E (values c) A' A → HasSort E c A →
    Some (rename suc A) ≡ Some T → Types bare E (x ∷ c) (Rel 0) T
first_type closed c x A A' T q b s e = types_at refl (one_item e) (conv (rel q) (weaken_below closed b (value_of x)) (weaken_types closed s.1 x))

value_below : {E : Env} → ClosedEnv E → {c c' : Context} → ContextBelow E c' c → (i : ℕ) (v : Term) → value_at (values c) i ≡ Some v → Equal E (values c') (Rel i) v
value_below closed empty i v e = absurd (cc)
value_below closed (assume k b s) zero v e = absurd (cc)
value_below closed (assume {c} {c'} k b s) (suc i) v e = next_value closed c c' i v (value_below closed k i) None e
value_below closed (define {b' = b'} k d b s) zero v e = equal_at refl (one_item e) (chain (step (variable refl)) (weaken_equal closed d (Some b')))
value_below closed (define {c} {c'} {b' = b'} k d b s) (suc i) v e = next_value closed c c' i v (value_below closed k i) (Some b') e
value_below closed (given k b s) zero v e = absurd (cc)
value_below closed (given {c} {c'} {b = a} k b s) (suc i) v e = next_value closed c c' i v (value_below closed k i) (Some a) e

type_below : {E : Env} → ClosedEnv E → {c c' : Context} → ContextBelow E c' c → (i : ℕ) (T : Term) → type_at c i ≡ Some T → Types bare E c' (Rel i) T
type_below closed empty i T e = absurd (cc)
type_below closed (assume {c' = c'} {A} {A'} k b s) zero T e = first_type closed c' (Assumed A') A A' T refl b s e
type_below closed (assume {c} {c'} {A' = A'} k b s) (suc i) T e = next_type closed c c' i T (type_below closed k i) (Assumed A') e
type_below closed (define {c' = c'} {b' = a'} {B} {B'} k d b s) zero T e = first_type closed c' (Defined a' B') B B' T refl b s e
type_below closed (define {c} {c'} {b' = a'} {B' = B'} k d b s) (suc i) T e = next_type closed c c' i T (type_below closed k i) (Defined a' B') e
type_below closed (given {c' = c'} {b = a} {A} {A'} k b s) zero T e = first_type closed c' (Defined a A') A A' T refl b s e
type_below closed (given {c} {c'} {b = a} {A' = A'} k b s) (suc i) T e = next_type closed c c' i T (type_below closed k i) (Defined a A') e

pub widens_of_below : {E : Env} → ClosedEnv E → {c c' : Context} → ContextBelow E c' c → Widens E c c'
widens_of_below closed k = record {
  at_values = λ i v e. equal_at refl (sym (substitute_same v)) (value_below closed k i v e);
  at_types = λ i T e. types_at refl (sym (substitute_same T)) (type_below closed k i T e);
}

pub equal_in : (E : Env) → IsAccepted E → (c c' : Context) (t u : Term) → ContextBelow E c' c → Equal E (values c) t u → Equal E (values c') t u
equal_in E h c c' t u k e = widens_equal (accepted_closed E h) (widens_of_below (accepted_closed E h) k) e

pub below_in : (E : Env) → IsAccepted E → (c c' : Context) (t u : Term) → ContextBelow E c' c → Below E (values c) t u → Below E (values c') t u
below_in E h c c' t u k b = widens_below (accepted_closed E h) (widens_of_below (accepted_closed E h) k) b

pub types_in : (E : Env) → IsAccepted E → (c c' : Context) (t T : Term) → ContextBelow E c' c → Types bare E c t T → Types bare E c' t T
types_in E h c c' t T k d = widens_types (accepted_closed E h) (widens_of_below (accepted_closed E h) k) d

pub all_in : (E : Env) → IsAccepted E → (c c' : Context) (s : ℕ → Term) (ts As : List Term) → ContextBelow E c' c → TypesAll bare E c s ts As → TypesAll bare E c' s ts As
all_in E h c c' s ts As k d = widens_all (accepted_closed E h) (widens_of_below (accepted_closed E h) k) d

pub entries_in : (E : Env) → IsAccepted E → (c c' : Context) (As : List Term) → ContextBelow E c' c → Entries bare E c As → Entries bare E c' As
entries_in E h c c' As k d = widens_entries (accepted_closed E h) (widens_of_below (accepted_closed E h) k) d

pub branches_in : (E : Env) → IsAccepted E → (c c' : Context) (f : FamilyId) (ps : List Term) (ret : Term) (n : ℕ) (Cs : List Constructor) (bs : Terms) → ContextBelow E c' c →
    Branches bare E c f ps ret n Cs bs → Branches bare E c' f ps ret n Cs bs
branches_in E h c c' f ps ret n Cs bs k d = widens_branches (accepted_closed E h) (widens_of_below (accepted_closed E h) k) d

pub sorts_in : (E : Env) → IsAccepted E → (c c' : Context) (n : ℕ) (ts : Terms) → ContextBelow E c' c → Sorts bare E c n ts → Sorts bare E c' n ts
sorts_in E h c c' n ts k d = widens_sorts (accepted_closed E h) (widens_of_below (accepted_closed E h) k) d

pub bodies_in : (E : Env) → IsAccepted E → (c c' : Context) (n : ℕ) (rargs : List ℕ) (ts bs : Terms) → ContextBelow E c' c → Bodies bare E c n rargs ts bs → Bodies bare E c' n rargs ts bs
bodies_in E h c c' n rargs ts bs k d = widens_bodies (accepted_closed E h) (widens_of_below (accepted_closed E h) k) d

-- steps under more values

-- each value of the first is one of the second
abbrev HasValues : Values → Values → Type 0
HasValues V W = (i : ℕ) (v : Term) → value_at V i ≡ Some v → value_at W i ≡ Some v

has_over : (V W : Values) → HasValues V W → (o : Option Term) → HasValues (o ∷ V) (o ∷ W)
has_over V W g o zero v e = e
has_over V W g o (suc i) v e = let (u, eu, ev) = lifted_some (value_at V i) v e in ap lifted (g i u eu) ∙ ap Some (sym ev)

has_under : (n : ℕ) (V W : Values) → HasValues V W → HasValues (under n V) (under n W)
has_under zero V W g = g
has_under (suc n) V W g = has_over (under n V) (under n W) (has_under n V W g) None

more_root : {E : Env} {V W : Values} → HasValues V W → {t u : Term} → Root E V t u → Root E W t u
more_root g beta = beta
more_root g zeta = zeta
more_root g (constant k) = constant k
more_root g (variable {i} {v} e) = variable (g i v e)
more_root g (matched k e l) = matched k e l
more_root g (fixpoint i rargs types bodies before e l k b q) = fixpoint i rargs types bodies before e l k b q

mutual
  more_step : {E : Env} {V W : Values} → HasValues V W → {t u : Term} → Step E V t u → Step E W t u
  more_step g (root r) = root (more_root g r)
  more_step g (inside p) = inside (more_in g p)
  more_step {V = V} {W} g (let_body {b = b} p) = let_body (more_step (has_over V W g (Some b)) p)

  more_in : {E : Env} {V W : Values} → HasValues V W → {ss : List Slot} {ts us : Children ss} → StepIn E V ss ts us → StepIn E W ss ts us
  more_in {V = V} {W} g (in_child {n = n} p) = in_child (more_step (has_under n V W g) p)
  more_in g (in_group p) = in_group (more_terms g p)
  more_in g (past_child p) = past_child (more_in g p)
  more_in g (past_group p) = past_group (more_in g p)

  more_terms : {E : Env} {V W : Values} → HasValues V W → {ts us : Terms} → StepTerms E V ts us → StepTerms E W ts us
  more_terms {V = V} {W} g (in_first {n = n} p) = in_first (more_step (has_under n V W g) p)
  more_terms g (in_rest p) = in_rest (more_terms g p)

-- a step that doesn't use the innermost entry's value is one that may
pub step_given : (E : Env) (V : Values) (b t u : Term) → Step E (None ∷ V) t u → Step E (Some b ∷ V) t u
step_given E V b t u p = more_step more p
  where
    more : HasValues (None ∷ V) (Some b ∷ V)
    more zero v e = absurd (cc)
    more (suc i) v e = e

-- a context extended by a telescope whose entries have sorts is well formed
pub context_extended : (E : Env) (c : Context) (As : List Term) → IsContext E c → Entries bare E c As → IsContext E (extend c As)
context_extended E c [] h no_entries = h
context_extended E c (A ∷ As) h (entry p ps) = context_extended E (Assumed A ∷ c) As (contexts.assume h (_, p)) ps

-- and below another that is extended by the same telescope
pub below_extended : (E : Env) (c c' : Context) (As : List Term) → ContextBelow E c' c → Entries bare E c' As → ContextBelow E (extend c' As) (extend c As)
below_extended E c c' [] k no_entries = k
below_extended E c c' (A ∷ As) k (entry p ps) = below_extended E (Assumed A ∷ c) (Assumed A ∷ c') As (assume k (equal same) (_, p)) ps
