-- The beginning and the end of writing.
use Rattle.std.proofs.Common.{◌≡◌, ℕ, Ok, Err, List, [], ◌++◌, Option, Some, None, Bool, true, false, refl, sym, ap, subst, ◌∙◌, arith, append-nil}
use Rattle.std.specs.Io.KnownBytes.{Appends}
use Rattle.kio.specs.Causes.{HasCause}
use Rattle.kio.specs.Known.{StillTells}
use Rattle.sexp_reader.specs.Text.{Text}
use Rattle.dump_printer.specs.Layout.{laid, spaced}
use Rattle.dump_printer.specs.Writing.{Start, IsOn, HasGone}
use Rattle.dump_printer.specs.declared.writing.Progress.{Progress}

appends-none : (t : Option (List ℕ)) → Appends t t []
appends-none None = tt
appends-none (Some x) = sym (append-nil x)

tells-itself : (t : Option (List ℕ)) → StillTells t t
tells-itself None = tt
tells-itself (Some x) = tt

laid-none : (tight : Bool) → laid tight [] ≡ []
unfolding laid
laid-none tight = refl

abbrev pub start_of : Option (List ℕ) → ℕ → List Text → Start
start_of t f ts = record { taken = t; faults = f; text = spaced ts }

pub begun : (t : Option (List ℕ)) (f : ℕ) (ts : List Text) → IsOn (start_of t f ts) t f (record { written = 0; tight = true; failed = false }) ts
begun t f ts = record {
  ahead = record {
    gone = [];
    left = spaced ts;
    parts = refl;
    out = appends-none t;
    count = refl;
    tells = tells-itself t;
    later = omega arith;
    going = λ e. refl;
    failed = λ e. absurd cc;
  };
}

pub all-out : (s : Start) (t : Option (List ℕ)) (f : ℕ) (p : Progress) → IsOn s t f p [] → p.failed ≡ false → Appends s.taken t s.text
all-out s t f p h e =
    let parts : s.text ≡ h.ahead.gone = h.ahead.parts ∙ ap (λ (w : List ℕ). h.ahead.gone ++ w) (h.ahead.going e ∙ laid-none p.tight) ∙ append-nil h.ahead.gone in
    subst (λ (w : List ℕ). Appends s.taken t w) (sym parts) h.ahead.out

pub part-out : (s : Start) (t : Option (List ℕ)) (f : ℕ) (p : Progress) → IsOn s t f p [] → HasGone s.taken t s.text p.written
part-out s t f p h = record { gone = h.ahead.gone; left = h.ahead.left; parts = h.ahead.parts; out = h.ahead.out; count = h.ahead.count }

pub cause-of-fault : {T E : Type 0} (e : E) (s : Start) (t : Option (List ℕ)) (f : ℕ) (p : Progress) → IsOn s t f p [] → p.failed ≡ true → HasCause {T = T} s.faults f (Err e)
cause-of-fault e s t f p h x = record { later = h.ahead.later; failed = h.ahead.failed x }

pub cause-of-end : {E : Type 0} (s : Start) (t : Option (List ℕ)) (f : ℕ) (p : Progress) → IsOn s t f p [] → HasCause {E = E} s.faults f (Ok (tt {0}))
cause-of-end s t f p h = record { later = h.ahead.later; failed = tt {0} }
