-- What stands at a variable's place.
use Rattle.std.proofs.Common.{◌≡◌, ℕ, zero, suc, ◌+◌, ◌*◌, ◌≤◌, List, ◌∷◌, length, Option, Some, None, Bool, refl, ap, sym, ◌∙◌, subst, eq-eqb}
use Rattle.std.specs.Prelude.{slice_get, if◌then◌else◌}
use Rattle.std.specs.Option.{option_map, option_and_then}
use Rattle.std.proofs.lemmas.Option.{none-some, same_Some}
use Rattle.wasm_core.specs.declared.types.ConstValue.{ConstValue}
use Rattle.wasm_emit.proofs.Bytes.{Mem}
use Rattle.wasm_emit.proofs.Values.{Stands, s_box, s_empty}
use Rattle.wasm_emit.proofs.Source.{Atom, AVar, Val, VClos, Vals, VNil, VCons, lookup, Is, is_var, is_box, is_empty, AllAre, are_none, are_more}
use Rattle.known_calls.specs.KnownPlaces.{Word, IsConst, Place, At, Known, Never, Once, word_at, word_of, words_of, all_at, known_at, known_function, names}
use Rattle.known_calls.proofs.KnownHolds.{Reads, is_const, Words, no_word, more_words, Env, env_nil, env_at, env_known}

-- the words of atoms
pub record Split (o : Option Word) (r : Option (List Word)) (ws : List Word) : Type 0 where
  pub first : Word
  pub others : List Word
  pub one : o ≡ Some first
  pub more : r ≡ Some others
  pub is : first ∷ others ≡ ws

pub split : (o : Option Word) (r : Option (List Word)) {ws : List Word} → option_and_then (λ w. option_map (λ vs. w ∷ vs) r) o ≡ Some ws → Split o r ws
split None r e = cc
split (Some w) None e = cc
split (Some w) (Some vs) e = record { first = w; others = vs; one = refl; more = refl; is = same_Some _ _ e }

module _ (m : Mem) (limit : ℕ) (ls : List ConstValue) (d : ℕ) where
  -- a word, or a known closure
  pub data Held (ps : List Place) (i : ℕ) (v : Val) : Type 0 where
    held_word : {p : Word} (w : ℕ) → slice_get ps i ≡ Some (At p) → Reads m limit ls d p w → Stands m limit w v → Held ps i v
    held_known : {g : ℕ} {ws : List Word} {cs : Vals} → slice_get ps i ≡ Some (Known g ws) → v ≡ VClos g cs → length ws ≤ 7 → Words m limit ls d ws cs → Held ps i v

  behind : {p : Place} {ps : List Place} {i : ℕ} {v : Val} → Held ps i v → Held (p ∷ ps) (suc i) v
  behind (held_word w at r s) = held_word w at r s
  behind (held_known at is few ws) = held_known at is few ws

  pub held : {ps : List Place} {e : Vals} {v : Val} (i : ℕ) → Env m limit ls d ps e → lookup e i ≡ Some v → Held ps i v
  held i env_nil at = cc
  held zero (env_at w r s h) at = held_word w refl r (subst (Stands m limit w) (same_Some _ _ at) s)
  held zero (env_known few ws h) at = held_known refl (sym (same_Some _ _ at)) few ws
  held (suc i) (env_at w r s h) at = behind (held i h at)
  held (suc i) (env_known few ws h) at = behind (held i h at)

  -- the word at a place
  pub record IsAt (p : Word) (v : Val) : Type 0 where
    pub w : ℕ
    pub reads : Reads m limit ls d p w
    pub stands : Stands m limit w v

  at_held : {ps : List Place} {i : ℕ} {v : Val} {p : Word} → Held ps i v → option_and_then word_at (slice_get ps i) ≡ Some p → IsAt p v
  at_held {p = p} (held_word {p = q} w at r s) e =
      let same : q ≡ p = same_Some _ _ (sym (ap (option_and_then word_at) at) ∙ e) in
      record { w = w; reads = subst (λ x. Reads m limit ls d x w) same r; stands = s }
  at_held {p = p} (held_known at is few ws) e = absurd (none-some p (sym (ap (option_and_then word_at) at) ∙ e))

  pub is_at : {ps : List Place} {e : Vals} {a : Atom} {v : Val} {p : Word} → Env m limit ls d ps e → Is e a v → word_of ps a ≡ Some p → IsAt p v
  is_at env (is_var {i = i} at) e = at_held (held i env at) e
  is_at env is_box e = record { w = 0; reads = subst (λ x. Reads m limit ls d x 0) (same_Some _ _ e) is_const; stands = s_box refl }
  is_at env (is_empty {c = c} lt) e = record { w = 2 * c + 1; reads = subst (λ x. Reads m limit ls d x (2 * c + 1)) (same_Some _ _ e) is_const; stands = s_empty lt refl }

  -- an atom that has a word
  pub record There (ps : List Place) (a : Atom) (v : Val) : Type 0 where
    pub place : Word
    pub is : word_of ps a ≡ Some place
    pub w : ℕ
    pub reads : Reads m limit ls d place w
    pub stands : Stands m limit w v

  there_held : {ps : List Place} {i : ℕ} {v : Val} → Held ps i v → ((g : ℕ) (ws : List Word) → slice_get ps i ≡ Some (Known g ws) → ⊥) → There ps (AVar i) v
  there_held (held_word {p = p} w at r s) never = record { place = p; is = ap (option_and_then word_at) at; w = w; reads = r; stands = s }
  there_held (held_known {g = g} {ws = ws} at is few words) never = absurd (never g ws at)

  -- one that names no closure that is made nowhere
  pub there : {ps : List Place} {e : Vals} {a : Atom} {v : Val} → Env m limit ls d ps e → Is e a v → ((i g : ℕ) (ws : List Word) → slice_get ps i ≡ Some (Known g ws) → names i a ≡ Never) → There ps a v
  there env (is_var {i = i} at) un = there_held (held i env at) (λ g ws e. itself (un i g ws e))
    where
      both : Once ≡ Never → ⊥
      both e = cc

      itself : names i (AVar i) ≡ Never → ⊥
      itself e = both (sym (ap (λ (b : Bool). if b then Once else Never) (eq-eqb i i refl)) ∙ e)
  there env is_box un = record { place = IsConst 0; is = refl; w = 0; reads = is_const; stands = s_box refl }
  there env (is_empty {c = c} lt) un = record { place = IsConst (2 * c + 1); is = refl; w = 2 * c + 1; reads = is_const; stands = s_empty lt refl }

  -- the function of a call that isn't known
  pub there_unknown : {ps : List Place} {e : Vals} {f : Atom} {v : Val} → Env m limit ls d ps e → Is e f v → known_function ps f ≡ None → There ps f v
  there_unknown env (is_var {i = i} at) none = there_held (held i env at) (λ g ws e. none-some {A = ℕ × List Word} _ (sym (sym (ap (option_and_then known_at) e) ∙ none)))
  there_unknown env is_box none = record { place = IsConst 0; is = refl; w = 0; reads = is_const; stands = s_box refl }
  there_unknown env (is_empty {c = c} lt) none = record { place = IsConst (2 * c + 1); is = refl; w = 2 * c + 1; reads = is_const; stands = s_empty lt refl }

  -- the words of atoms
  pub words_are : {ps : List Place} {e : Vals} {as' : List Atom} {vs : Vals} {ws : List Word} → Env m limit ls d ps e → AllAre e as' vs → words_of ps as' ≡ Some ws → Words m limit ls d ws vs
  words_are env are_none e = subst (λ x. Words m limit ls d x VNil) (same_Some _ _ e) no_word
  words_are {ps} env (are_more {a = a} {v = v} {as' = as'} {vs = vs} is hs) e =
      let s = split (word_of ps a) (words_of ps as') e in
      let one = is_at env is s.one in
      subst (λ x. Words m limit ls d x (VCons v vs)) s.is (more_words one.w one.reads one.stands (words_are env hs s.more))

  -- captured words are places of variables
  pub all_env : {ws : List Word} {vs : Vals} → Words m limit ls d ws vs → Env m limit ls d (all_at ws) vs
  all_env no_word = env_nil
  all_env (more_words w r s h) = env_at w r s (all_env h)
