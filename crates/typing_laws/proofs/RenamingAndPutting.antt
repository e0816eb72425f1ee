-- Weakening and substitution, as the two instances of the one induction.
use Rattle.std.proofs.Common.{◌≡◌, ℕ, zero, suc, ◌∷◌, Option, Some, None, refl, sym, ap, ◌∙◌, subst, arith}
use Rattle.pc_terms.specs.Syntax.{Term, Rel, rename, over, substitute, put}
use Rattle.calculus_rules.specs.Environment.{Env}
use Rattle.calculus_rules.specs.declared.entry.Entry.{Entry}
use Rattle.calculus_rules.specs.declared.entry.Entry.TheVariants.{Assumed, Defined}
use Rattle.calculus_rules.specs.Context.{Context, Values, values, value_at, lifted, value_of, type_of, type_at}
use Rattle.typing_laws.proofs.ClosedEnv.{ClosedEnv}
use Rattle.calculus_rules.specs.Step.{variable}
use Rattle.calculus_rules.specs.Conversion.{Equal, step}
use Rattle.calculus_rules.specs.Typing.{bare, Types, rel}
use Rattle.typing_laws.specs.Substituting.{Fits}
use Rattle.trees.proofs.Fusion.{substitute-rename, rename-substitute, substitute_rel}
use Rattle.trees.proofs.Put.{substitute_same}
use Rattle.typing_laws.proofs.Traversal.{substituted, Carries, CarriesTypes, substituted_entry, equal_at, types_at, substitute_equal, substitute_types}

pub swap : (s : ℕ → Term) (t : Term) → rename suc (substitute s t) ≡ substitute (over s) (rename suc t)
swap s t = rename-substitute t s suc ∙ sym (substitute-rename t suc (over s))

pub lifted_some : (o : Option Term) (v : Term) → lifted o ≡ Some v → (u : Term) × (o ≡ Some u) × (v ≡ rename suc u)
lifted_some None v e = absurd (cc)
lifted_some (Some u) v e = (u, refl, grind arith)

-- renaming: each variable goes to a variable, with what is said of it
abbrev pub RenamesValues : (ℕ → Term) → Values → Values → Type 0
RenamesValues s V W = (i : ℕ) → (j : ℕ) × (s i ≡ Rel j) × ((v : Term) → value_at V i ≡ Some v → value_at W j ≡ Some (substitute s v))

pub renames_over : (s : ℕ → Term) (V W : Values) → RenamesValues s V W → (o : Option Term) → RenamesValues (over s) (o ∷ V) (substituted s o ∷ W)
renames_over s V W g None zero = (0, refl, λ v e. absurd (cc))
renames_over s V W g (Some b) zero = (0, refl, λ v e. ap Some (swap s b) ∙ ap (substituted (over s)) e)
renames_over s V W g o (suc i) =
    let (j, e, h) = g i in
    (suc j, ap (rename suc) e, λ v q. let (u, eu, ev) = lifted_some (value_at V i) v q in ap lifted (h u eu) ∙ ap Some (swap s u ∙ ap (substitute (over s)) (sym ev)))

abbrev pub renaming_values : (E : Env) → Carries E
renaming_values E = record {
  Good = RenamesValues;
  good_over = λ {s} {V} {W}. renames_over s V W;
  good_at = λ g i v e. let (j, p, h) = g i in equal_at (sym p) refl (step (variable (h v e)));
}

pub record RenamesEntries (s : ℕ → Term) (c d : Context) : Type 0 where
  pub at_values : RenamesValues s (values c) (values d)
  pub at_types : (i : ℕ) → (j : ℕ) × (s i ≡ Rel j) × ((T : Term) → type_at c i ≡ Some T → type_at d j ≡ Some (substitute s T))

types_over : {s : ℕ → Term} (c d : Context) (e e' : Entry) → type_of e' ≡ substitute s (type_of e) →
    ((i : ℕ) → (j : ℕ) × (s i ≡ Rel j) × ((T : Term) → type_at c i ≡ Some T → type_at d j ≡ Some (substitute s T))) →
    (i : ℕ) → (j : ℕ) × (over s i ≡ Rel j) × ((T : Term) → type_at (e ∷ c) i ≡ Some T → type_at (e' ∷ d) j ≡ Some (substitute (over s) T))
types_over {s} c d e e' p g zero = (0, refl, λ T q. ap (λ t. Some (rename suc t)) p ∙ ap Some (swap s (type_of e)) ∙ ap (substituted (over s)) q)
types_over {s} c d e e' p g (suc i) =
    let (j, q, h) = g i in
    (suc j, ap (rename suc) q, λ T r. let (u, eu, ev) = lifted_some (type_at c i) T r in ap lifted (h u eu) ∙ ap Some (swap s u ∙ ap (substitute (over s)) (sym ev)))

pub entries_over : {s : ℕ → Term} {c d : Context} → RenamesEntries s c d → (e : Entry) → RenamesEntries (over s) (e ∷ c) (substituted_entry s e ∷ d)
entries_over {s} {c} {d} g (Assumed A) = record {
  at_values = renames_over s (values c) (values d) g.at_values None;
  at_types = types_over c d (Assumed A) (Assumed (substitute s A)) refl g.at_types;
}
entries_over {s} {c} {d} g (Defined b B) = record {
  at_values = renames_over s (values c) (values d) g.at_values (Some b);
  at_types = types_over c d (Defined b B) (Defined (substitute s b) (substitute s B)) refl g.at_types;
}

abbrev pub renaming : (E : Env) → CarriesTypes E
renaming E = record {
  carries = renaming_values E;
  Good = RenamesEntries;
  good_over = entries_over;
  good_values = λ g. g.at_values;
  good_at = λ g i T e. let (j, p, h) = g.at_types i in types_at (sym p) refl (rel (h T e));
}

-- one more entry, innermost
abbrev pub later : ℕ → Term
later i = Rel (suc i)

pub later_is : (t : Term) → substitute later t ≡ rename suc t
later_is t = substitute_rel t suc

pub later_values : (o : Option Term) (W : Values) → RenamesValues later W (o ∷ W)
later_values o W i = (suc i, refl, λ v e. ap lifted e ∙ ap Some (sym (later_is v)))

pub later_entries : (e : Entry) (d : Context) → RenamesEntries later d (e ∷ d)
later_entries e d = record {
  at_values = later_values (value_of e) (values d);
  at_types = λ i. (suc i, refl, λ T q. ap lifted q ∙ ap Some (sym (later_is T)));
}

pub weaken_equal : {E : Env} → ClosedEnv E → {W : Values} {t u : Term} → Equal E W t u → (o : Option Term) → Equal E (o ∷ W) (rename suc t) (rename suc u)
weaken_equal {E} closed {W} {t} {u} h o =
    equal_at (later_is t) (later_is u) (substitute_equal (renaming_values E) closed h later (o ∷ W) (later_values o W))

pub weaken_types : {E : Env} → ClosedEnv E → {c : Context} {t T : Term} → Types bare E c t T → (e : Entry) → Types bare E (e ∷ c) (rename suc t) (rename suc T)
weaken_types {E} closed {c} {t} {T} h e =
    types_at (later_is t) (later_is T) (substitute_types (renaming E) closed h later (e ∷ c) (later_entries e c))

-- substitution: each variable goes to a term that is equal to its value, and has its type
abbrev pub PutsValues : Env → (ℕ → Term) → Values → Values → Type 0
PutsValues E s V W = (i : ℕ) (v : Term) → value_at V i ≡ Some v → Equal E W (s i) (substitute s v)

pub puts_over : {E : Env} → ClosedEnv E → (s : ℕ → Term) (V W : Values) → PutsValues E s V W → (o : Option Term) → PutsValues E (over s) (o ∷ V) (substituted s o ∷ W)
puts_over closed s V W g None zero v e = absurd (cc)
puts_over closed s V W g (Some b) zero v e = step (variable (ap Some (swap s b) ∙ ap (substituted (over s)) e))
puts_over closed s V W g o (suc i) v e =
    let (u, eu, ev) = lifted_some (value_at V i) v e in
    equal_at refl (swap s u ∙ ap (substitute (over s)) (sym ev)) (weaken_equal closed (g i u eu) (substituted s o))

abbrev pub putting_values : (E : Env) → ClosedEnv E → Carries E
putting_values E closed = record {
  Good = PutsValues E;
  good_over = λ {s} {V} {W}. puts_over closed s V W;
  good_at = λ g i v e. g i v e;
}

pub record PutsEntries (E : Env) (s : ℕ → Term) (c d : Context) : Type 0 where
  pub at_values : PutsValues E s (values c) (values d)
  pub at_types : (i : ℕ) (T : Term) → type_at c i ≡ Some T → Types bare E d (s i) (substitute s T)

put_types_over : {E : Env} → ClosedEnv E → {s : ℕ → Term} (c d : Context) (e e' : Entry) → type_of e' ≡ substitute s (type_of e) →
    ((i : ℕ) (T : Term) → type_at c i ≡ Some T → Types bare E d (s i) (substitute s T)) →
    (i : ℕ) (T : Term) → type_at (e ∷ c) i ≡ Some T → Types bare E (e' ∷ d) (over s i) (substitute (over s) T)
put_types_over closed {s} c d e e' p g zero T q =
    rel (ap (λ t. Some (rename suc t)) p ∙ ap Some (swap s (type_of e)) ∙ ap (substituted (over s)) q)
put_types_over closed {s} c d e e' p g (suc i) T q =
    let (u, eu, ev) = lifted_some (type_at c i) T q in
    types_at refl (swap s u ∙ ap (substitute (over s)) (sym ev)) (weaken_types closed (g i u eu) e')

pub put_entries_over : {E : Env} → ClosedEnv E → {s : ℕ → Term} {c d : Context} → PutsEntries E s c d → (e : Entry) → PutsEntries E (over s) (e ∷ c) (substituted_entry s e ∷ d)
put_entries_over closed {s} {c} {d} g (Assumed A) = record {
  at_values = puts_over closed s (values c) (values d) g.at_values None;
  at_types = put_types_over closed c d (Assumed A) (Assumed (substitute s A)) refl g.at_types;
}
put_entries_over closed {s} {c} {d} g (Defined b B) = record {
  at_values = puts_over closed s (values c) (values d) g.at_values (Some b);
  at_types = put_types_over closed c d (Defined b B) (Defined (substitute s b) (substitute s B)) refl g.at_types;
}

abbrev pub putting : (E : Env) → ClosedEnv E → CarriesTypes E
putting E closed = record {
  carries = putting_values E closed;
  Good = PutsEntries E;
  good_over = put_entries_over closed;
  good_values = λ g. g.at_values;
  good_at = λ g i T e. g.at_types i T e;
}

put_suc : (a t : Term) → substitute (put a) (rename suc t) ≡ t
put_suc a t = substitute-rename t suc (put a) ∙ substitute_same t

pub puts_one : {E : Env} {c : Context} {e : Entry} {a : Term} → Fits E c e a → PutsEntries E (put a) (e ∷ c) c
puts_one {E} {c} {e} {a} h = record { at_values = at_values; at_types = at_types }
  where
    at_values : PutsValues E (put a) (values (e ∷ c)) (values c)
    at_values zero v q = let (u, eu, ev) = lifted_some (value_of e) v q in equal_at refl (sym (ap (substitute (put a)) ev ∙ put_suc a u)) (h.equals u eu)
    at_values (suc i) v q =
        let (u, eu, ev) = lifted_some (value_at (values c) i) v q in
        equal_at refl (sym (ap (substitute (put a)) ev ∙ put_suc a u)) (step (variable eu))

    at_types : (i : ℕ) (T : Term) → type_at (e ∷ c) i ≡ Some T → Types bare E c (put a i) (substitute (put a) T)
    at_types zero T q = let (u, eu, ev) = lifted_some (Some (type_of e)) T q in
        types_at refl (sym (ap (substitute (put a)) ev ∙ put_suc a u)) (subst (λ u. Types bare E c a u) (grind arith) h.has_type)
    at_types (suc i) T q = let (u, eu, ev) = lifted_some (type_at c i) T q in types_at refl (sym (ap (substitute (put a)) ev ∙ put_suc a u)) (rel eu)
