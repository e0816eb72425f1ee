-- Variables as they are kept, and the scope that they stand for.
use Rattle.std.proofs.Common.{◌≡◌, ℕ, zero, suc, ◌+◌, ◌-◌, ◌<◌, ◌≤◌, List, [], ◌∷◌, length, drop, reverse, get_or, Bool, true, false, refl, sym, ap, ◌∙◌, arith}
use Rattle.std.proofs.lemmas.List.{get_or-reverse, length-reverse}
use Rattle.std.proofs.lemmas.Bool.{eqb-true, eqb-false}
use Rattle.std.specs.Prelude.{nat_eq, if◌then◌else◌}
use Rattle.anf_convert.specs.Captured.{Scope, Outside, Plain, Shared, depth, Entry, Unbound, Word, Words, entry, words_of}
use Rattle.closure_lift.specs.FreeVariables.{size, level_words}
use Rattle.closure_lift.proofs.FreeWords.{inner_none}
use Rattle.closure_lift.specs.Variables.{scope_of, numbers_of, AreNumbered, outer}
use Rattle.closure_lift.specs.declared.variables.Variable.{Variable}
use Rattle.closure_lift.specs.declared.variables.Variable.TheVariants as variable

abbrev pub entry_of : Variable → Entry
entry_of (variable.Word x) = Word x
entry_of (variable.Fix g ws) = Words ws.value

abbrev pub number_of : Variable → ℕ
number_of (variable.Word x) = 0
number_of (variable.Fix g ws) = g

pub numbered_depth : (d : ℕ) (vs : List Variable) → AreNumbered d vs → depth (scope_of vs) ≡ d
numbered_depth d [] h = sym h
numbered_depth d (variable.Word x ∷ vs) h = ap suc (numbered_depth x vs h.1) ∙ sym h.0
numbered_depth d (variable.Fix g ws ∷ vs) h = numbered_depth d vs h

pub scope_size : (vs : List Variable) → size (scope_of vs) ≡ length vs
scope_size [] = refl
scope_size (variable.Word x ∷ vs) = ap suc (scope_size vs)
scope_size (variable.Fix g ws ∷ vs) = ap suc (scope_size vs)

pub entry_at : (d : ℕ) (vs : List Variable) (i : ℕ) (v : Variable) → AreNumbered d vs → i < length vs → entry (scope_of vs) i ≡ entry_of (get_or vs i v)
entry_at d [] i v h lt = absurd (omega arith)
entry_at d (variable.Word x ∷ vs) zero v h lt = ap Word (numbered_depth x vs h.1)
entry_at d (variable.Word x ∷ vs) (suc i) v h lt = entry_at x vs i v h.1 (omega arith)
entry_at d (variable.Fix g ws ∷ vs) zero v h lt = refl
entry_at d (variable.Fix g ws ∷ vs) (suc i) v h lt = entry_at d vs i v h (omega arith)

pub entry_none : (vs : List Variable) (i : ℕ) → length vs ≤ i → entry (scope_of vs) i ≡ Unbound
entry_none [] i le = refl
entry_none (variable.Word x ∷ vs) zero le = absurd (omega arith)
entry_none (variable.Word x ∷ vs) (suc i) le = entry_none vs i (omega arith)
entry_none (variable.Fix g ws ∷ vs) zero le = absurd (omega arith)
entry_none (variable.Fix g ws ∷ vs) (suc i) le = entry_none vs i (omega arith)

pub number_at : (vs : List Variable) (i : ℕ) (v : Variable) → i < length vs → get_or (numbers_of vs) i 0 ≡ number_of (get_or vs i v)
number_at [] i v lt = absurd (omega arith)
number_at (variable.Word x ∷ vs) zero v lt = refl
number_at (variable.Word x ∷ vs) (suc i) v lt = number_at vs i v (omega arith)
number_at (variable.Fix g ws ∷ vs) zero v lt = refl
number_at (variable.Fix g ws ∷ vs) (suc i) v lt = number_at vs i v (omega arith)

pub number_none : (vs : List Variable) (i : ℕ) → length vs ≤ i → get_or (numbers_of vs) i 0 ≡ 0
number_none [] i le = refl
number_none (variable.Word x ∷ vs) zero le = absurd (omega arith)
number_none (variable.Word x ∷ vs) (suc i) le = number_none vs i (omega arith)
number_none (variable.Fix g ws ∷ vs) zero le = absurd (omega arith)
number_none (variable.Fix g ws ∷ vs) (suc i) le = number_none vs i (omega arith)

-- the words of the variable of a level
under_level : (b : Bool) (vs : List Variable) (w v : Variable) (l : ℕ) → nat_eq l (length vs) ≡ b → l < suc (length vs) → (ws : List ℕ) → words_of (entry_of w) ≡ ws →
    (l < length vs → level_words (scope_of vs) l ≡ words_of (entry_of (get_or vs (length vs - 1 - l) v))) →
    (if b then ws else level_words (scope_of vs) l) ≡ words_of (entry_of (get_or (w ∷ vs) (suc (length vs) - 1 - l) v))
under_level true vs w v l e lt ws is rest =
    let same = eqb-true l (length vs) e in
    let k : suc (length vs) - 1 - l ≡ 0 = omega arith in
    sym is ∙ sym (ap (λ k. words_of (entry_of (get_or (w ∷ vs) k v))) k)
under_level false vs w v l e lt ws is rest =
    let apart : l ≡ length vs → ⊥ = eqb-false l (length vs) e in
    let below : l < length vs = omega (arith, apart) in
    let k : suc (length vs) - 1 - l ≡ suc (length vs - 1 - l) = omega arith in
    rest below ∙ sym (ap (λ k. words_of (entry_of (get_or (w ∷ vs) k v))) k)

pub level_at : (d : ℕ) (vs : List Variable) (l : ℕ) (v : Variable) → AreNumbered d vs → l < length vs → level_words (scope_of vs) l ≡ words_of (entry_of (get_or vs (length vs - 1 - l) v))
level_at d [] l v h lt = absurd (omega arith)
level_at d (variable.Word x ∷ vs) l v h lt =
    ap (λ n. if nat_eq l n then depth (scope_of vs) ∷ [] else level_words (scope_of vs) l) (scope_size vs)
    ∙ under_level (nat_eq l (length vs)) vs (variable.Word x) v l refl lt (depth (scope_of vs) ∷ []) (sym (ap (λ n. n ∷ []) (numbered_depth x vs h.1))) (λ below. level_at x vs l v h.1 below)
level_at d (variable.Fix g ws ∷ vs) l v h lt =
    ap (λ n. if nat_eq l n then ws.value else level_words (scope_of vs) l) (scope_size vs)
    ∙ under_level (nat_eq l (length vs)) vs (variable.Fix g ws) v l refl lt ws.value refl (λ below. level_at d vs l v h below)

pub level_none : (vs : List Variable) (l : ℕ) → length vs ≤ l → level_words (scope_of vs) l ≡ []
level_none vs l le = let n = scope_size vs in inner_none (scope_of vs) l (omega arith)

-- ---- variables as they are kept, the outermost first
pub found_entry : (d : ℕ) (items xs : List Variable) (i at : ℕ) (r : Variable) → AreNumbered d (reverse items) → xs ≡ items → r ≡ get_or xs at r → i < length items → at ≡ length items - 1 - i → entry (scope_of (reverse items)) i ≡ entry_of r
found_entry d items xs i at r h e is lt k =
    let n = length-reverse items in
    entry_at d (reverse items) i r h (omega arith) ∙ ap entry_of (get_or-reverse items i r lt ∙ ap (λ k. get_or items k r) (sym k) ∙ ap (λ xs. get_or xs at r) (sym e) ∙ sym is)

pub found_number : (items xs : List Variable) (i at : ℕ) (r : Variable) → xs ≡ items → r ≡ get_or xs at r → i < length items → at ≡ length items - 1 - i → get_or (numbers_of (reverse items)) i 0 ≡ number_of r
found_number items xs i at r e is lt k =
    let n = length-reverse items in
    number_at (reverse items) i r (omega arith) ∙ ap number_of (get_or-reverse items i r lt ∙ ap (λ k. get_or items k r) (sym k) ∙ ap (λ xs. get_or xs at r) (sym e) ∙ sym is)

pub found_level : (d : ℕ) (items xs : List Variable) (l : ℕ) (r : Variable) → AreNumbered d (reverse items) → xs ≡ items → r ≡ get_or xs l r → l < length items → level_words (scope_of (reverse items)) l ≡ words_of (entry_of r)
found_level d items xs l r h e is lt =
    let n : length (reverse items) ≡ length items = length-reverse items in
    let k : length (reverse items) - 1 - l ≡ length items - 1 - l = omega arith in
    let m : length items - 1 - (length items - 1 - l) ≡ l = omega arith in
    level_at d (reverse items) l r h (omega arith)
    ∙ ap (λ v. words_of (entry_of v)) (ap (λ k. get_or (reverse items) k r) k ∙ get_or-reverse items (length items - 1 - l) r (omega arith) ∙ ap (λ k. get_or items k r) m ∙ ap (λ xs. get_or xs l r) (sym e) ∙ sym is)

pub beyond_entry : (items : List Variable) (i : ℕ) → length items ≤ i → entry (scope_of (reverse items)) i ≡ Unbound
beyond_entry items i le = let n : length (reverse items) ≡ length items = length-reverse items in entry_none (reverse items) i (omega arith)

pub beyond_number : (items : List Variable) (i : ℕ) → length items ≤ i → get_or (numbers_of (reverse items)) i 0 ≡ 0
beyond_number items i le = let n : length (reverse items) ≡ length items = length-reverse items in number_none (reverse items) i (omega arith)

pub beyond_level : (items : List Variable) (l : ℕ) → length items ≤ l → level_words (scope_of (reverse items)) l ≡ []
beyond_level items l le = let n : length (reverse items) ≡ length items = length-reverse items in level_none (reverse items) l (omega arith)

outer_more : (n : ℕ) (s : Scope) → outer 1 (outer n s) ≡ outer (suc n) s
outer_more zero s = refl
outer_more (suc n) Outside = refl
outer_more (suc n) (Plain s) = outer_more n s
outer_more (suc n) (Shared ws s) = outer_more n s

drop_more : (n : ℕ) (xs : List ℕ) → drop 1 (drop n xs) ≡ drop (suc n) xs
drop_more zero xs = refl
drop_more (suc n) [] = refl
drop_more (suc n) (x ∷ xs) = drop_more n xs

-- one more variable is forgotten
pub one_more : (n : ℕ) (v v1 v2 : Scope × List ℕ) → v1 ≡ (outer n v.0, drop n v.1) → v2 ≡ (outer 1 v1.0, drop 1 v1.1) → v2 ≡ (outer (n + 1) v.0, drop (n + 1) v.1)
one_more n v v1 v2 e f =
    let k : suc n ≡ n + 1 = omega arith in
    f ∙ ap (λ z. (outer 1 z.0, drop 1 z.1)) e ∙ ap (λ s. (s, drop 1 (drop n v.1))) (outer_more n v.0) ∙ ap (λ xs. (outer (suc n) v.0, xs)) (drop_more n v.1) ∙ ap (λ k. (outer k v.0, drop k v.1)) k
