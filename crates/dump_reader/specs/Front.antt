-- The front of a text: its bytes up to the bracket that closes the first one. What follows that bracket has no part in it.
use Rattle.std.specs.Prelude.{ℕ, zero, suc, List, [], ◌∷◌, length, take, Option, Some, None, Result, Ok, Err}
use Rattle.sexp_reader.specs.Lex.{Spanned, answer_at, nesting_after_text, tokens_of}
use Rattle.sexp_reader.specs.declared.Token.{Token}
use Rattle.sexp_reader.specs.declared.TokenFault.{TokenFault}

-- Where the front ends, at a token that leaves so many brackets open: behind it where it leaves none, and else where the tokens after it say. Where the tokenizer refuses, the
-- whole text is the front.
abbrev pub end_behind : (len : ℕ) → Result (Option Token) TokenFault → (brackets later : ℕ) → ℕ
end_behind len (Ok (Some t)) zero later = t.end
end_behind len (Ok (Some t)) (suc n) later = later
end_behind len (Ok None) n later = len
end_behind len (Err f) n later = len

-- the offset behind the first token that leaves no bracket open; the length of the text where there is none
unfoldable pub front_end : (len nesting : ℕ) → List Spanned → ℕ
front_end len n [] = len
front_end len n (s ∷ ss) = end_behind len (answer_at n s.start s.text) (nesting_after_text n s.text) (front_end len (nesting_after_text n s.text) ss)

abbrev pub front_length : List ℕ → ℕ
front_length bytes = front_end (length bytes) 0 (tokens_of bytes)

abbrev pub front_bytes : List ℕ → List ℕ
front_bytes bytes = take (front_length bytes) bytes
