-- Parts of a text one after the other.
use Rattle.std.proofs.Common.{◌≡◌, ◌∙◌, ℕ, List, [], ◌++◌, ap, sym, refl, subst}
use Rattle.std.proofs.lemmas.List.{append-nil, append_assoc}
use Rattle.explanations.specs.declared.text.Text.{Text}
use Rattle.explanations.specs.Adding.{Adds}

pub adds_both : (a b c : Text) (xs ys : List ℕ) → Adds a b xs → Adds b c ys → Adds a c (xs ++ ys)
adds_both a b c xs ys h k = record {
  whole = λ e.
      let q = k.whole e in
      let p = h.whole q.0 in
      (p.0, q.1 ∙ ap (λ z. z ++ ys) p.1 ∙ append_assoc a.sink.taken xs ys);
}

pub adds_none : (a : Text) → Adds a a []
adds_none a = record { whole = λ e. (e, sym (append-nil a.sink.taken)) }

pub adds_as : (a b : Text) (xs ys : List ℕ) → xs ≡ ys → Adds a b xs → Adds a b ys
adds_as a b xs ys e h = subst (λ z. Adds a b z) e h
