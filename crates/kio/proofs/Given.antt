-- What the reads of a source gave since a moment, over one read more.
use Rattle.std.proofs.Common.{◌≡◌, ℕ, ◌+◌, ◌≤◌, ◌-◌, List, [], ◌∷◌, ◌++◌, length, take, drop, sym, ap, subst, ◌∙◌, append_assoc, append-nil, length-append}
use Rattle.std.specs.List.{concat}
use Rattle.std.proofs.lemmas.List.{length-take-le}
use Rattle.std.proofs.lemmas.List.Folds.{concat-append}
use Rattle.std.proofs.Math.Seq.{drop-append_seam, drop-length}
use Rattle.kio.specs.Histories.{IsLater, MetEnd, given_since}

-- one piece more at the end
concat_more : (pieces : List (List ℕ)) (piece : List ℕ) → concat (pieces ++ piece ∷ []) ≡ concat pieces ++ piece
concat_more pieces piece = concat-append pieces (piece ∷ []) ∙ ap (λ (w : List ℕ). concat pieces ++ w) (append-nil piece)

-- so where another list of pieces is that
pub concat_of : (old new : List (List ℕ)) (piece : List ℕ) → new ≡ old ++ piece ∷ [] → concat new ≡ concat old ++ piece
concat_of old new piece e = ap concat e ∙ concat_more old piece

since_is : (old new pieces : List (List ℕ)) → new ≡ old ++ pieces → given_since old new ≡ concat pieces
unfolding given_since
since_is old new pieces e = ap (λ (w : List (List ℕ)). concat (drop (length old) w)) e ∙ ap concat (drop-append_seam old pieces)

-- where there was no read nothing was given
pub since_none : (old : List (List ℕ)) → given_since old old ≡ []
unfolding given_since
since_none old = ap concat (drop-length old)

pub later_none : (old : List (List ℕ)) → IsLater old old
later_none old = ([], sym (append-nil old))

pub later_same : (old mid new : List (List ℕ)) → IsLater old mid → new ≡ mid → IsLater old new
later_same old mid new l e = subst (IsLater old) (sym e) l

pub later_more : (old mid new : List (List ℕ)) (piece : List ℕ) → IsLater old mid → new ≡ mid ++ piece ∷ [] → IsLater old new
later_more old mid new piece (pieces, e) f = (pieces ++ piece ∷ [], f ∙ ap (λ (w : List (List ℕ)). w ++ piece ∷ []) e ∙ append_assoc old pieces (piece ∷ []))

pub since_more : (old mid new : List (List ℕ)) (piece bytes : List ℕ) → IsLater old mid → bytes ≡ given_since old mid → new ≡ mid ++ piece ∷ [] → given_since old new ≡ bytes ++ piece
since_more old mid new piece bytes l b f =
    let e : new ≡ old ++ (l.0 ++ piece ∷ []) = f ∙ ap (λ (w : List (List ℕ)). w ++ piece ∷ []) l.1 ∙ append_assoc old l.0 (piece ∷ []) in
    since_is old new (l.0 ++ piece ∷ []) e ∙ concat_more l.0 piece ∙ ap (λ (w : List ℕ). w ++ piece) (sym (since_is old mid l.0 l.1) ∙ sym b)

-- a read that failed
pub short_same : (old mid new : List (List ℕ)) (bytes : List ℕ) (limit : ℕ) → bytes ≡ given_since old mid → length bytes ≤ limit → new ≡ mid → length (given_since old new) ≤ limit
short_same old mid new bytes limit b le e = subst (λ (w : List (List ℕ)). length (given_since old w) ≤ limit) (sym e) (subst (λ (w : List ℕ). length w ≤ limit) b le)

-- a read of the first bytes of a buffer
pub length_more : (old mid new : List (List ℕ)) (buf bytes : List ℕ) (n : ℕ) → IsLater old mid → bytes ≡ given_since old mid → n ≤ length buf → new ≡ mid ++ take n buf ∷ [] → length (given_since old new) ≡ length bytes + n
length_more old mid new buf bytes n l b few f =
    ap length (since_more old mid new (take n buf) bytes l b f) ∙ length-append bytes (take n buf) ∙ ap (λ (k : ℕ). length bytes + k) (length-take-le n buf few)

-- a read that gave no byte met the end
pub whole_given : (old mid new : List (List ℕ)) (buf bytes : List ℕ) (n limit : ℕ) → IsLater old mid → bytes ≡ given_since old mid → length bytes ≤ limit → n ≡ 0 → new ≡ mid ++ take n buf ∷ [] →
    (bytes ≡ given_since old new) × (length bytes ≤ limit) × MetEnd old new
whole_given old mid new buf bytes n limit l b le z f =
    let e : new ≡ mid ++ [] ∷ [] = f ∙ ap (λ (k : ℕ). mid ++ take k buf ∷ []) z in
    (sym (append-nil bytes) ∙ sym (since_more old mid new [] bytes l b e), le, (l.0, e ∙ ap (λ (w : List (List ℕ)). w ++ [] ∷ []) l.1 ∙ append_assoc old l.0 ([] ∷ [])))
