-- Steps of writing.
use Rattle.std.proofs.Common.{◌≡◌, ℕ, ◌+◌, ◌-◌, ◌^◌, ◌≤◌, min, List, ◌∷◌, ◌++◌, length, take, drop, Option, Some, None, Bool, true, false, refl, sym, ap, subst, ◌∙◌, arith, append_assoc, length-append}
use Rattle.std.proofs.lemmas.List.{length-take-le, take-append-drop}
use Rattle.std.specs.Io.KnownBytes.{Appends}
use Rattle.kio.specs.Causes.{Rose}
use Rattle.kio.specs.Known.{StillTells}
use Rattle.kio.proofs.Bytes.{tells-again}
use Rattle.sexp_reader.specs.Text.{Text, Open, Close, Atom}
use Rattle.dump_printer.specs.Layout.{gap, laid}
use Rattle.dump_printer.specs.Writing.{Start, counted, IsAhead, IsOn}
use Rattle.dump_printer.specs.declared.writing.Progress.{Progress}
use Rattle.dump_printer.proofs.Laid.{laid-open, laid-close, laid-atom}

-- one part, and then another
pub appends_both : (a b c : Option (List ℕ)) (v w : List ℕ) → Appends a b v → Appends b c w → Appends a c (v ++ w)
appends_both None b c v w p q = tt
appends_both (Some x) None c v w p q = absurd p
appends_both (Some x) (Some y) None v w p q = absurd q
appends_both (Some x) (Some y) (Some z) v w p q = q ∙ ap (λ (u : List ℕ). u ++ w) p ∙ append_assoc x v w

count-again : (v w : List ℕ) (m n : ℕ) → m ≡ counted v → n ≡ min (m + length w) (2 ^ 64 - 1) → n ≡ counted (v ++ w)
count-again v w m n p q = omega (arith, length-append v w)

-- These bytes went out.
pub went : (s : Start) (t t' : Option (List ℕ)) (f f' : ℕ) (p p' : Progress) (w rest : List ℕ) → Appends t t' w → StillTells t t' → f ≤ f' → p.failed ≡ false → p'.failed ≡ false → p'.written ≡ min (p.written + length w) (2 ^ 64 - 1) →
    IsAhead s t f p (w ++ rest) → IsAhead s t' f' p' rest
went s t t' f f' p p' w rest out tells later going going' count h = record {
  gone = h.gone ++ w;
  left = rest;
  parts = h.parts ∙ ap (λ (u : List ℕ). h.gone ++ u) (h.going going) ∙ sym (append_assoc h.gone w rest);
  out = appends_both _ _ _ h.gone w h.out out;
  count = count-again h.gone w p.written p'.written h.count count;
  tells = tells-again _ _ _ h.tells tells;
  later = omega (arith, h.later);
  going = λ e. refl;
  failed = λ e. absurd cc;
}

-- The first n of these bytes went out, and the sink failed.
pub failed : (s : Start) (t t' : Option (List ℕ)) (f f' : ℕ) (p p' : Progress) (w rest : List ℕ) (n : ℕ) → n ≤ length w → Appends t t' (take n w) → StillTells t t' → f ≤ f' → Rose f f' → p.failed ≡ false → p'.failed ≡ true →
    p'.written ≡ min (p.written + n) (2 ^ 64 - 1) → IsAhead s t f p (w ++ rest) → IsAhead s t' f' p' rest
failed s t t' f f' p p' w rest n within out tells later rose going failed' count h =
    let size = length-take-le n w within in
    record {
      gone = h.gone ++ take n w;
      left = drop n w ++ rest;
      parts =
          h.parts ∙ ap (λ (u : List ℕ). h.gone ++ u) (h.going going ∙ ap (λ (u : List ℕ). u ++ rest) (sym (take-append-drop n w)) ∙ append_assoc (take n w) (drop n w) rest)
          ∙ sym (append_assoc h.gone (take n w) (drop n w ++ rest));
      out = appends_both _ _ _ h.gone (take n w) h.out out;
      count = count-again h.gone (take n w) p.written p'.written h.count (omega (arith, size));
      tells = tells-again _ _ _ h.tells tells;
      later = omega (arith, h.later);
      going = λ e. absurd cc;
      failed = λ e. omega (arith, h.later);
    }

-- Nothing goes out any more.
pub stays : (s : Start) (t : Option (List ℕ)) (f : ℕ) (p p' : Progress) (v rest : List ℕ) → p.failed ≡ true → p'.failed ≡ true → p'.written ≡ p.written → IsAhead s t f p v → IsAhead s t f p' rest
stays s t f p p' v rest failed failed' count h = record {
  gone = h.gone;
  left = h.left;
  parts = h.parts;
  out = h.out;
  count = count ∙ h.count;
  tells = h.tells;
  later = h.later;
  going = λ e. absurd cc;
  failed = λ e. h.failed failed;
}

-- how the next token stands makes no difference to what has gone out
pub turned : (s : Start) (t : Option (List ℕ)) (f : ℕ) (p : Progress) (b : Bool) (rest : List ℕ) → IsAhead s t f p rest → IsAhead s t f (record p { tight = b }) rest
turned s t f p b rest h = record { gone = h.gone; left = h.left; parts = h.parts; out = h.out; count = h.count; tells = h.tells; later = h.later; going = h.going; failed = h.failed }

pub on : (s : Start) (t : Option (List ℕ)) (f : ℕ) (p : Progress) (b : Bool) (more : List Text) → IsAhead s t f p (laid b more) → IsOn s t f (record p { tight = b }) more
on s t f p b more h = record { ahead = turned s t f p b (laid b more) h }

pub before-open : (s : Start) (t : Option (List ℕ)) (f : ℕ) (p : Progress) (more : List Text) → IsOn s t f p (Open ∷ more) → IsAhead s t f p (gap p.tight ++ (40 ∷ laid true more))
before-open s t f p more h = subst (λ (w : List ℕ). IsAhead s t f p w) (laid-open p.tight more) h.ahead

pub before-close : (s : Start) (t : Option (List ℕ)) (f : ℕ) (p : Progress) (more : List Text) → IsOn s t f p (Close ∷ more) → IsAhead s t f p (41 ∷ laid false more)
before-close s t f p more h = subst (λ (w : List ℕ). IsAhead s t f p w) (laid-close p.tight more) h.ahead

pub before-atom : (s : Start) (t : Option (List ℕ)) (f : ℕ) (p : Progress) (a : List ℕ) (more : List Text) → IsOn s t f p (Atom a ∷ more) → IsAhead s t f p (gap p.tight ++ (a ++ laid false more))
before-atom s t f p a more h = subst (λ (w : List ℕ). IsAhead s t f p w) (laid-atom p.tight a more) h.ahead
