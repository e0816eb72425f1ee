-- Where the front of a text ends, token by token.
use Rattle.std.proofs.Common.{◌≡◌, ℕ, suc, zero, List, [], ◌∷◌, Some, Ok, Err, refl, subst, sym, ap, ◌∙◌}
use Rattle.sexp_reader.specs.Lex.{Spanned, answer, nesting_after, nesting_after_text}
use Rattle.sexp_reader.specs.Stream.{text_at}
use Rattle.sexp_reader.specs.declared.Token.{Token}
use Rattle.sexp_reader.specs.declared.TokenFault.{TokenFault}
use Rattle.dump_reader.specs.Front.{end_behind, front_end}

pub at_end : (len n : ℕ) (ss : List Spanned) → ss ≡ [] → front_end len n ss ≡ len
unfolding front_end
at_end len n ss e = rw e refl

pub at_fault : (len n : ℕ) (ss : List Spanned) (f : TokenFault) → Err f ≡ answer n ss → front_end len n ss ≡ len
unfolding front_end
at_fault len n [] f e = refl
at_fault len n (s ∷ ss) f e = rw (← e) refl

-- a token that is given at the front of those to come
module _ (len n : ℕ) (bytes : List ℕ) (ss more : List Spanned) (t : Token) (gave : ss ≡ record { start = t.start; text = text_at bytes t } ∷ more) where
  goes_on : Ok (Some t) ≡ answer n ss → front_end len n ss ≡ end_behind len (Ok (Some t)) (nesting_after_text n (text_at bytes t)) (front_end len (nesting_after_text n (text_at bytes t)) more)
  unfolding front_end
  goes_on a =
      let given : Ok (Some t) ≡ answer n (record { start = t.start; text = text_at bytes t } ∷ more) = subst (λ (us : List Spanned). Ok (Some t) ≡ answer n us) gave a in
      rw gave (ap (λ r. end_behind len r (nesting_after_text n (text_at bytes t)) (front_end len (nesting_after_text n (text_at bytes t)) more)) (sym given))

  pub ends : (m : ℕ) → Ok (Some t) ≡ answer n ss → m ≡ nesting_after_text n (text_at bytes t) → m ≡ 0 → front_end len n ss ≡ t.end
  ends m a e none = goes_on a ∙ rw (← e, none) refl

  pub continues : (m : ℕ) → Ok (Some t) ≡ answer n ss → m ≡ nesting_after_text n (text_at bytes t) → (m ≡ 0 → ⊥) → front_end len n ss ≡ front_end len m more
  continues zero a e some = absurd (some refl)
  continues (suc m) a e some = goes_on a ∙ rw (← e) refl

  pub counted : nesting_after n ss ≡ nesting_after_text n (text_at bytes t)
  counted = ap (nesting_after n) gave
