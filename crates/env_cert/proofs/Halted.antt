-- What is told of an answer that is taken apart.
use Rattle.std.proofs.Common.{◌≡◌, sym, subst, ℕ, Result, Ok, Err, IfOk, IfErr, IsErrAnd}
use Rattle.env_check.specs.declared.refusal.BareRefusal.{BareRefusal}
use Rattle.type_cert.specs.declared.halt.WalkHalt.{WalkHalt}
use Rattle.env_cert.specs.Beginning.{first_halt, barred_first}

-- what a `?` gives on is the halt of its call
pub given_on : {A : Type 0} (P : WalkHalt → Type 0) (r : Result A WalkHalt) (h : WalkHalt) → IsErrAnd r (λ e. e ≡ h) → P h → IfErr r P
given_on P (Ok a) h e p = absurd e
given_on P (Err y) h e p = subst P (sym e) p

-- what is told of an answer before the declarations
pub first_told : {A : Type 0} (P : A → Type 0) (i : ℕ) (r : Result A BareRefusal) → IfOk r P → IfOk (barred_first i r) P
first_told P i (Ok a) h = h
first_told P i (Err e) h = tt

pub first_refused : {A : Type 0} (P : BareRefusal → Type 0) (Q : WalkHalt → Type 0) (i : ℕ) (r : Result A BareRefusal) → IfErr r P → ((e : BareRefusal) → P e → Q (first_halt i e)) →
    IfErr (barred_first i r) Q
first_refused P Q i (Ok a) h k = tt
first_refused P Q i (Err e) h k = k e h
