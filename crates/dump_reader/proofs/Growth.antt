-- Tables that grow by uses: numbers stay, and what is made of parts is made of the whole.
use Rattle.std.proofs.Common.{◌≡◌, ℕ, suc, ◌+◌, ◌<◌, List, [], ◌∷◌, ◌++◌, map, length, take, get_or, Bool, true, false, cond, ◌||◌, refl, sym, ap, subst, ◌∙◌, append_assoc, append-nil}
use Rattle.std.specs.Prelude.{bytes_eq}
use Rattle.std.specs.Cmp.Lexicographic.{nat_list_eq_equiv}
use Rattle.std.proofs.lemmas.List.{map-append, take_more}
use Rattle.dump_grammar.specs.Uses.{each}
use Rattle.dump_grammar.specs.Numbering.{is_in, place_of, firsts}
use Rattle.dump_grammar.proofs.Numbering.{numbering}
use Rattle.dump_reader.specs.Tables.{with_text, after_uses}
use Rattle.dump_reader.specs.declared.numbering.Tables.{Tables}
use Rattle.dump_reader.specs.Growth.{Uses, unused, Numbers}
use Rattle.dump_reader.specs.Numbered.{name_number, level_number}
use Rattle.dump_reader.specs.Made.{NumbersEach}
use Rattle.dump_reader.proofs.Tables.{place-absent}

-- ---- places stay

module _ (a : List ℕ) where
  in-append : (xs ys : List (List ℕ)) → is_in a xs ≡ true → is_in a (xs ++ ys) ≡ true
  unfolding is_in
  in-append [] ys e = absurd cc
  in-append (b ∷ bs) ys e =
      let P : Bool → Type 0 = λ x. (x || is_in a bs) ≡ true → (x || is_in a (bs ++ ys)) ≡ true in
      let on : (x : Bool) → P x = λ x. elim x as P [ true ↦ λ f. refl | false ↦ λ f. in-append bs ys f ] in
      on (bytes_eq a b) e

  place-append : (xs ys : List (List ℕ)) → is_in a xs ≡ true → place_of a (xs ++ ys) ≡ place_of a xs
  unfolding is_in place_of
  place-append [] ys e = absurd cc
  place-append (b ∷ bs) ys e =
      let P : Bool → Type 0 = λ x. (x || is_in a bs) ≡ true → cond x 0 (suc (place_of a (bs ++ ys))) ≡ cond x 0 (suc (place_of a bs)) in
      let on : (x : Bool) → P x = λ x. elim x as P [ true ↦ λ f. refl | false ↦ λ f. ap (λ n. suc n) (place-append bs ys f) ] in
      on (bytes_eq a b) e

  in-last : (xs : List (List ℕ)) → is_in a (xs ++ a ∷ []) ≡ true
  unfolding is_in
  in-last [] = rw (nat_list_eq_equiv.refl a) refl
  in-last (b ∷ bs) =
      let P : Bool → Type 0 = λ x. (x || is_in a (bs ++ a ∷ [])) ≡ true in
      let on : (x : Bool) → P x = λ x. elim x as P [ true ↦ refl | false ↦ in-last bs ] in
      on (bytes_eq a b)

  place-last : (xs : List (List ℕ)) → is_in a xs ≡ false → place_of a (xs ++ a ∷ []) ≡ length xs
  unfolding is_in place_of
  place-last [] e = rw (nat_list_eq_equiv.refl a) refl
  place-last (b ∷ bs) e =
      let P : Bool → Type 0 = λ x. (x || is_in a bs) ≡ false → cond x 0 (suc (place_of a (bs ++ a ∷ []))) ≡ suc (length bs) in
      let on : (x : Bool) → P x = λ x. elim x as P [ true ↦ λ f. absurd cc | false ↦ λ f. ap (λ n. suc n) (place-last bs f) ] in
      on (bytes_eq a b) e

  in-with : (t : List (List ℕ)) → is_in a (with_text a t) ≡ true
  in-with t =
      let P : Bool → Type 0 = λ x. is_in a t ≡ x → is_in a (cond x t (t ++ a ∷ [])) ≡ true in
      let on : (x : Bool) → P x = λ x. elim x as P [ true ↦ λ e. e | false ↦ λ e. in-last t ] in
      on (is_in a t) refl

  place-with : (t : List (List ℕ)) → place_of a (with_text a t) ≡ place_of a t
  place-with t =
      let P : Bool → Type 0 = λ x. is_in a t ≡ x → place_of a (cond x t (t ++ a ∷ [])) ≡ place_of a t in
      let on : (x : Bool) → P x = λ x. elim x as P [ true ↦ λ e. refl | false ↦ λ e. place-last t e ∙ sym (place-absent a t e) ] in
      on (is_in a t) refl

  in-kept : (b : List ℕ) (t : List (List ℕ)) → is_in a t ≡ true → is_in a (with_text b t) ≡ true
  in-kept b t e =
      let P : Bool → Type 0 = λ x. is_in a (cond x t (t ++ b ∷ [])) ≡ true in
      let on : (x : Bool) → P x = λ x. elim x as P [ true ↦ e | false ↦ in-append t (b ∷ []) e ] in
      on (is_in b t)

  place-kept : (b : List ℕ) (t : List (List ℕ)) → is_in a t ≡ true → place_of a (with_text b t) ≡ place_of a t
  place-kept b t e =
      let P : Bool → Type 0 = λ x. place_of a (cond x t (t ++ b ∷ [])) ≡ place_of a t in
      let on : (x : Bool) → P x = λ x. elim x as P [ true ↦ refl | false ↦ place-append t (b ∷ []) e ] in
      on (is_in b t)

  place-after : (t uses : List (List ℕ)) → is_in a t ≡ true → place_of a (after_uses t uses) ≡ place_of a t
  unfolding after_uses
  place-after t [] e = refl
  place-after t (b ∷ uses) e = place-after (with_text b t) uses (in-kept b t e) ∙ place-kept b t e

  -- the number at a use, by all tables that may follow
  pub place-now : (t uses : List (List ℕ)) → place_of a t ≡ place_of a (after_uses (with_text a t) uses)
  place-now t uses = sym (place-with t) ∙ sym (place-after (with_text a t) uses (in-with t))

-- ---- the tables of a whole text are those of its uses

pub after-firsts : (before uses : List (List ℕ)) → after_uses (firsts before) uses ≡ firsts (before ++ uses)
unfolding after_uses
after-firsts before [] = ap firsts (sym (append-nil before))
after-firsts before (a ∷ uses) =
    let one : with_text a (firsts before) ≡ firsts (before ++ a ∷ []) =
    ap (λ x. cond x (firsts before) (firsts before ++ a ∷ [])) (numbering.only before a) ∙ sym (numbering.next before a) in
    ap (λ t. after_uses t uses) one ∙ after-firsts (before ++ a ∷ []) uses ∙ ap firsts (append_assoc before (a ∷ []) uses)

pub all-firsts : (uses : List (List ℕ)) → after_uses [] uses ≡ firsts uses
unfolding firsts
all-firsts uses = after-firsts [] uses

-- ---- what is made of parts

-- what uses nothing
pub plain : {X : Type 0} (x : X) (t : Tables) → Numbers unused unused (λ ns ls. x) t t x
plain x t = record { names_grow = λ after. refl; levels_grow = λ after. refl; is_value = λ ns ls. refl }

module _ {X Y : Type 0} {u v : Uses} {f : List (List ℕ) → List (List ℕ) → X} {old mid : Tables} {x : X} (p : Numbers u v f old mid x) where
  pub on : (h : X → Y) → Numbers u v (λ ns ls. h (f ns ls)) old mid (h x)
  on h = record { names_grow = p.names_grow; levels_grow = p.levels_grow; is_value = λ ns ls. ap h (p.is_value ns ls) }

  -- one after the other
  pub both : {Z : Type 0} {u' v' : Uses} {g : List (List ℕ) → List (List ℕ) → Y} {new : Tables} {y : Y} (h : X → Y → Z) → Numbers u' v' g mid new y
      → Numbers (λ after. u (u' after)) (λ after. v (v' after)) (λ ns ls. h (f ns ls) (g ns ls)) old new (h x y)
  both {u' = u'} {v' = v'} {g = g} {new = new} h q = record {
    names_grow = λ after. p.names_grow (u' after) ∙ q.names_grow after;
    levels_grow = λ after. p.levels_grow (v' after) ∙ q.levels_grow after;
    is_value = λ ns ls.
        let first : x ≡ f (after_uses new.names ns) (after_uses new.levels ls) =
        p.is_value (u' ns) (v' ls) ∙ ap (λ t. f t (after_uses mid.levels (v' ls))) (q.names_grow ns) ∙ ap (λ t. f (after_uses new.names ns) t) (q.levels_grow ls) in
        λ i. h (first i) (q.is_value ns ls i);
  }

-- tables with the same texts
pub kept : {X : Type 0} {u v : Uses} {f : List (List ℕ) → List (List ℕ) → X} {old mid new : Tables} {x : X} → Numbers u v f old mid x → new.names ≡ mid.names → new.levels ≡ mid.levels → Numbers u v f old new x
kept {f = f} {mid = mid} {new = new} p ns-same ls-same = record {
  names_grow = λ after. p.names_grow after ∙ ap (λ t. after_uses t after) (sym ns-same);
  levels_grow = λ after. p.levels_grow after ∙ ap (λ t. after_uses t after) (sym ls-same);
  is_value = λ ns ls. p.is_value ns ls ∙ ap (λ t. f (after_uses t ns) (after_uses mid.levels ls)) (sym ns-same) ∙ ap (λ t. f (after_uses new.names ns) (after_uses t ls)) (sym ls-same);
}

-- the same number of uses in other words
pub restated : {X : Type 0} {u v u' v' : Uses} {f g : List (List ℕ) → List (List ℕ) → X} {old new : Tables} {x y : X} → Numbers u v f old new x
    → ((after : List (List ℕ)) → u' after ≡ u after) → ((after : List (List ℕ)) → v' after ≡ v after) → ((ns ls : List (List ℕ)) → f ns ls ≡ g ns ls) → y ≡ x → Numbers u' v' g old new y
restated {old = old} {new = new} p us vs fs same = record {
  names_grow = λ after. ap (after_uses old.names) (us after) ∙ p.names_grow after;
  levels_grow = λ after. ap (after_uses old.levels) (vs after) ∙ p.levels_grow after;
  is_value = λ ns ls. same ∙ p.is_value ns ls ∙ fs (after_uses new.names ns) (after_uses new.levels ls);
}

-- ---- lists

pub each-append : {X : Type 0} (u : X → Uses) (xs ys : List X) (after : List (List ℕ)) → each u (xs ++ ys) after ≡ each u xs (each u ys after)
unfolding each
each-append u [] ys after = refl
each-append u (x ∷ xs) ys after = ap (u x) (each-append u xs ys after)

each-one : {X : Type 0} (u : X → Uses) (x : X) (after : List (List ℕ)) → each u (x ∷ []) after ≡ u x after
unfolding each
each-one u x after = refl

module _ {X Y : Type 0} (u v : X → Uses) (value : List (List ℕ) → List (List ℕ) → X → Y) where
  pub none-yet : (t : Tables) → NumbersEach u v value [] t t []
  unfolding each
  none-yet t = record { names_grow = λ after. refl; levels_grow = λ after. refl; is_value = λ ns ls. refl }

  pub nothing-yet : (t : Tables) (xs : List Y) → xs ≡ [] → NumbersEach u v value [] t t xs
  nothing-yet t xs e = subst (λ (ys : List Y). NumbersEach u v value [] t t ys) (sym e) (none-yet t)

  -- one more
  pub one-more : (xs : List X) (x : X) (ys : List Y) (y : Y) {old mid new : Tables} → NumbersEach u v value xs old mid ys → Numbers (u x) (v x) (λ ns ls. value ns ls x) mid new y
      → NumbersEach u v value (xs ++ x ∷ []) old new (ys ++ y ∷ [])
  one-more xs x ys y p q =
      restated (both p (λ zs z. zs ++ z ∷ []) q) (λ after. each-append u xs (x ∷ []) after ∙ ap (each u xs) (each-one u x after))
      (λ after. each-append v xs (x ∷ []) after ∙ ap (each v xs) (each-one v x after))
      (λ ns ls. sym (map-append (value ns ls) xs (x ∷ []))) refl

  -- one more, at an item that a loop has read
  pub one-more-at : (xs : List X) (i : ℕ) (x : X) (ys zs : List Y) (y : Y) {old mid new : Tables} → x ≡ get_or xs i x → i < length xs → zs ≡ ys ++ y ∷ []
      → NumbersEach u v value (take i xs) old mid ys → Numbers (u x) (v x) (λ ns ls. value ns ls x) mid new y → NumbersEach u v value (take (i + 1) xs) old new zs
  one-more-at xs i x ys zs y {old} {mid} {new} at within put p q =
      let longer : take (i + 1) xs ≡ take i xs ++ x ∷ [] = take_more xs i x within ∙ ap (λ z. take i xs ++ z ∷ []) (sym at) in
      restated (one-more (take i xs) x ys y p q) (λ after. ap (λ zs. each u zs after) longer) (λ after. ap (λ zs. each v zs after) longer)
      (λ ns ls. ap (map (value ns ls)) (sym longer)) put

-- ---- one use

pub used-level : (a b : List ℕ) (old : Tables) (table : List (List ℕ)) (n : ℕ) → b ≡ a → table ≡ with_text b old.levels → n ≡ place_of b old.levels
    → Numbers unused (λ after. a ∷ after) (λ ns ls. level_number ls a) old (record { names = old.names; levels = table; recent = old.recent; leaves = old.leaves }) (record { 0 = n })
unfolding after_uses
used-level a b old table n same grown place =
    let now : table ≡ with_text a old.levels = grown ∙ ap (λ c. with_text c old.levels) same in
    record {
      names_grow = λ after. refl;
      levels_grow = λ after. ap (λ t. after_uses t after) (sym now);
      is_value = λ ns ls.
          let number : n ≡ place_of a (after_uses table ls) = place ∙ ap (λ c. place_of c old.levels) same ∙ place-now a old.levels ls ∙ ap (λ t. place_of a (after_uses t ls)) (sym now) in
          λ i. record { 0 = number i };
    }

pub used-name : (a b : List ℕ) {old new : Tables} (n : ℕ) → b ≡ a → new.names ≡ with_text b old.names → new.levels ≡ old.levels → n ≡ place_of b old.names
    → Numbers (λ after. a ∷ after) unused (λ ns ls. name_number ns a) old new (record { 0 = n })
unfolding after_uses
used-name a b {old} {new} n same grown others place =
    let now : new.names ≡ with_text a old.names = grown ∙ ap (λ c. with_text c old.names) same in
    record {
      names_grow = λ after. ap (λ t. after_uses t after) (sym now);
      levels_grow = λ after. ap (λ t. after_uses t after) (sym others);
      is_value = λ ns ls.
          let number : n ≡ place_of a (after_uses new.names ns) = place ∙ ap (λ c. place_of c old.names) same ∙ place-now a old.names ns ∙ ap (λ t. place_of a (after_uses t ns)) (sym now) in
          λ i. record { 0 = number i };
    }

-- the first use
pub first-use : (t new : List (List ℕ)) (b c : List ℕ) → t ≡ [] → new ≡ with_text b t → b ≡ c → new ≡ c ∷ []
unfolding is_in
first-use t new b c empty grown same = grown ∙ ap (with_text b) empty ∙ ap (λ x. x ∷ []) same
