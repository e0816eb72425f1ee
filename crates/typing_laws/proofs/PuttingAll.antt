-- Terms put in for all variables of a telescope at once.
use Rattle.std.proofs.Common.{◌≡◌, ℕ, zero, suc, List, ◌∷◌, Some, refl, sym, ap, ◌∙◌, subst, arith}
use mathlib.Core.Path.{fun_ext}
use Rattle.pc_terms.specs.Syntax.{Term, Rel, rename, over, substitute, first, put_all}
use Rattle.calculus_rules.specs.Environment.{Env}
use Rattle.calculus_rules.specs.declared.entry.Entry.TheVariants.{Assumed}
use Rattle.calculus_rules.specs.Context.{Context, values, value_at, type_at, extend}
use Rattle.calculus_rules.specs.Conversion.{step}
use Rattle.calculus_rules.specs.Step.{variable}
use Rattle.calculus_rules.specs.Instances.{entries_at}
use Rattle.calculus_rules.specs.Typing.{bare, Types, rel, TypesAll, no_terms, term}
use Rattle.trees.proofs.Fusion.{substitute-rename, substitute-substitute}
use Rattle.trees.proofs.Put.{substitute_same}
use Rattle.typing_laws.proofs.Traversal.{equal_at, types_at}
use Rattle.typing_laws.proofs.RenamingAndPutting.{PutsValues, PutsEntries, lifted_some}

-- one more term, of the type of one more entry
pub puts_first : {E : Env} {s : ℕ → Term} {c d : Context} {A x : Term} → PutsEntries E s c d → Types bare E d x (substitute s A) →
    PutsEntries E (first x s) (Assumed A ∷ c) d
puts_first {E} {s} {c} {d} {A} {x} g p = record { at_values = at_values; at_types = at_types }
  where
    past : (t : Term) → substitute s t ≡ substitute (first x s) (rename suc t)
    past t = sym (substitute-rename t suc (first x s))

    at_values : PutsValues E (first x s) (values (Assumed A ∷ c)) (values d)
    at_values zero v e = absurd (cc)
    at_values (suc i) v e =
        let (u, eu, ev) = lifted_some (value_at (values c) i) v e in
        equal_at refl (past u ∙ ap (substitute (first x s)) (sym ev)) (g.at_values i u eu)

    at_types : (i : ℕ) (T : Term) → type_at (Assumed A ∷ c) i ≡ Some T → Types bare E d (first x s i) (substitute (first x s) T)
    at_types zero T e =
        let (u, eu, ev) = lifted_some (Some A) T e in
        types_at refl (past u ∙ ap (substitute (first x s)) (sym ev)) (subst (λ u. Types bare E d x (substitute s u)) (grind arith) p)
    at_types (suc i) T e =
        let (u, eu, ev) = lifted_some (type_at c i) T e in
        types_at refl (past u ∙ ap (substitute (first x s)) (sym ev)) (g.at_types i u eu)

-- the terms of a telescope
pub puts_all : {E : Env} {s : ℕ → Term} {c d : Context} {xs As : List Term} → PutsEntries E s c d → TypesAll bare E d s xs As → PutsEntries E (put_all xs s) (extend c As) d
puts_all g no_terms = g
puts_all g (term p ps) = puts_all (puts_first g p) ps

pub puts_none : {E : Env} (d : Context) → PutsEntries E Rel d d
puts_none d = record { at_values = λ i v e. equal_at refl (sym (substitute_same v)) (step (variable e)); at_types = λ i T e. types_at refl (sym (substitute_same T)) (rel e) }

-- a telescope whose outer variables are put in
pub types_entries : {E : Env} {d : Context} {q : ℕ → Term} {xs As : List Term} → TypesAll bare E d q xs As → (s p : ℕ → Term) → ((i : ℕ) → substitute p (s i) ≡ q i) →
    TypesAll bare E d p xs (entries_at s As)
types_entries no_terms s p h = no_terms
types_entries {E} {d} {q} (term {t = x} {A = A} r rs) s p h =
    term (types_at refl (ap (λ q. substitute q A) (fun_ext (λ i. sym (h i))) ∙ sym (substitute-substitute A s p)) r) (types_entries rs (over s) (first x p) next)
  where
    next : (i : ℕ) → substitute (first x p) (over s i) ≡ first x q i
    next zero = refl
    next (suc i) = substitute-rename (s i) suc (first x p) ∙ h i
