-- A context with more entries: what has a type outside has it there.
use Rattle.std.specs.Prelude.{ℕ, suc, ◌+◌, ◌≡◌, List, [], ◌∷◌, ◌++◌, length}
use Rattle.std.proofs.Common.{refl, ap, subst, arith}
use Rattle.pc_terms.specs.Syntax.{Term, shift}
use Rattle.calculus_rules.specs.declared.entry.Entry.{Entry}
use Rattle.calculus_rules.specs.declared.entry.Entry.TheVariants.{Assumed}
use Rattle.calculus_rules.specs.Environment.{Env}
use Rattle.calculus_rules.specs.Context.{Context, values, extend}
use Rattle.calculus_rules.specs.Conversion.{Equal}
use Rattle.calculus_rules.specs.Typing.{bare, Types}
use Rattle.calculus_rules.specs.Accepted.{IsAccepted}
use Rattle.typing_laws.proofs.MiddleEntries.{weakening, weakening_of_equality}
use Rattle.type_laws.specs.Contexts.{HasSort}

-- a context with n more entries

pub record Over (c : Context) (n : ℕ) (d : Context) : Type 0 where
  pub more : Context
  pub is : more ++ c ≡ d
  pub count : length more ≡ n

pub over_none : (c : Context) → Over c 0 c
over_none c = record { more = []; is = refl; count = refl }

pub over_one : {c d : Context} {n : ℕ} → Over c n d → (e : Entry) → Over c (suc n) (e ∷ d)
over_one o e = record { more = e ∷ o.more; is = ap (◌∷◌ e) o.is; count = ap suc o.count }

pub over_types : {E : Env} → IsAccepted E → {c d : Context} {n : ℕ} {t T : Term} → Over c n d → Types bare E c t T → Types bare E d (shift n 0 t) (shift n 0 T)
over_types {E} h {c} {n = n} {t = t} {T = T} o p =
    subst (λ d. Types bare E d (shift n 0 t) (shift n 0 T)) o.is
    (subst (λ n. Types bare E (o.more ++ c) (shift n 0 t) (shift n 0 T)) o.count (weakening E h [] o.more c t T p))

pub over_sorted : {E : Env} → IsAccepted E → {c d : Context} {n : ℕ} {T : Term} → Over c n d → HasSort E c T → HasSort E d (shift n 0 T)
over_sorted h o s = (s.0, over_types h o s.1)

pub over_equal : {E : Env} → IsAccepted E → {c d : Context} {n : ℕ} {t u : Term} → Over c n d → Equal E (values c) t u → Equal E (values d) (shift n 0 t) (shift n 0 u)
over_equal {E} h {c} {n = n} {t = t} {u = u} o p =
    subst (λ d. Equal E (values d) (shift n 0 t) (shift n 0 u)) o.is
    (subst (λ n. Equal E (values (o.more ++ c)) (shift n 0 t) (shift n 0 u)) o.count (weakening_of_equality E h [] o.more c t u p))

-- a telescope's entries
pub over_extend : {c : Context} (As : List Term) {d : Context} {n : ℕ} → Over c n d → (m : ℕ) → length As + n ≡ m → Over c m (extend d As)
over_extend {c} [] {d} o m e = subst (λ n. Over c n d) (let z : 0 + _ ≡ m = e in omega arith) o
over_extend (A ∷ As) o m e = over_extend As (over_one o (Assumed A)) m (omega arith)
