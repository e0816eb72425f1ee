-- The sections of a file.
use Rattle.std.proofs.Common.{◌≡◌, ℕ, zero, suc, ◌+◌, ◌<◌, ◌≤◌, List, [], ◌∷◌, length, Ok, Err, true, false, refl, ◌∙◌, arith}
use Rattle.wasm_core.specs.Format.{Accepted, Refused, judge}
use Rattle.wasm_core.specs.ModuleGrammar.{next_section, sections, is_whole}
use Rattle.wasm_core.specs.Parts.{Parts}
use Rattle.wasm_decode.specs.Reads.{judged, Reads}
use Rattle.wasm_decode.specs.Reading.{ReadsSections}
use Rattle.wasm_core.specs.declared.binary_faults.DecodeFault.{DecodeFault}
use Rattle.wasm_core.specs.declared.binary_faults.DecodeFault.TheVariants as faults
use Rattle.wasm_decode.specs.declared.cursor.Cursor.{Cursor}
use Rattle.wasm_decode.specs.declared.found.Found.{Found}
use Rattle.wasm_decode.specs.Found.{parts_of}
use Rattle.wasm_decode.proofs.Meaning.{goes_with}
use Rattle.std.proofs.lemmas.Bool.{eq-eqb, ne_eqb}

-- The sections up to here are read.
pub record Filing (old now : Cursor) (before : Parts) (last : ℕ) (parts : Parts) : Type 0 where
  pub goes : (n : ℕ) → length old.rest.now ≤ n → (m : ℕ) × (length now.rest.now ≤ m) × (judged old (sections n 0 before) [] ≡ judged now (sections m last parts) [])

pub filing : (c : Cursor) (m : Parts) → Filing c c m 0 m
filing c m = record { goes = λ n h. (n, h, refl) }

next : (at : ℕ) (w : List ℕ) (m last : ℕ) (parts : Parts) → 0 < length w → length w ≤ m → (p : ℕ) × (p + 1 ≡ m) × (judge (sections m last parts) at w [] ≡ judge (next_section last parts (λ q. sections p q.0 q.1)) at w [])
unfolding sections judge
next at [] m last parts s h = absurd (omega (arith, s))
next at (b ∷ w) zero last parts s h = absurd (omega (arith, h))
next at (b ∷ w) (suc m) last parts s h = (m, omega arith, refl)

pub filed : (old now new : Cursor) (before : Parts) (last : ℕ) (parts : Parts) (then : Parts) (id : ℕ) → 0 < length now.rest.now → Filing old now before last parts → Reads (Ok id) now new (next_section last parts) (λ id. (id, then)) → Filing old new before id then
filed old now new before last parts then id s g r = record {
  goes = λ n h.
      let (m, h2, e) = g.goes n h in
      let (p, h3, e2) = next now.at now.rest.now m last parts s h2 in
      (p, (let a = r.shorter in omega (arith, a, h2, h3)), e ∙ e2 ∙ r.goes (λ q. sections p q.0 q.1) []);
}

pub unfiled : (old now new : Cursor) (before after : Parts) (last : ℕ) (parts : Parts) (then : ℕ → ℕ × Parts) (e : DecodeFault) → 0 < length now.rest.now → Filing old now before last parts → Reads {X = ℕ} (Err e) now new (next_section last parts) then → ReadsSections (Err e) old before after
unfiled old now new before after last parts then e s g r = record {
  goes = λ n h.
      let (m, h2, q) = g.goes n h in
      let (p, h3, q2) = next now.at now.rest.now m last parts s h2 in
      goes_with e _ _ _ _ (q ∙ q2) (r.goes (λ q. sections p q.0 q.1) []);
}

whole : (at : ℕ) (w : List ℕ) (m last : ℕ) (parts : Parts) → length w ≡ 0 → is_whole parts ≡ true → judge (sections m last parts) at w [] ≡ Accepted parts
unfolding sections judge
whole at [] zero last parts s h = rw h refl
whole at [] (suc m) last parts s h = rw h refl
whole at (b ∷ w) m last parts s h = absurd (omega (arith, s))

cut : (at : ℕ) (w : List ℕ) (m last : ℕ) (parts : Parts) → length w ≡ 0 → is_whole parts ≡ false → judge (sections m last parts) at w [] ≡ Refused at
unfolding sections judge
cut at [] zero last parts s h = rw h refl
cut at [] (suc m) last parts s h = rw h refl
cut at (b ∷ w) m last parts s h = absurd (omega (arith, s))

pub all_filed : (old now : Cursor) (before : Parts) (last : ℕ) (parts : Parts) → length now.rest.now ≡ 0 → is_whole parts ≡ true → Filing old now before last parts → ReadsSections (Ok tt) old before parts
all_filed old now before last parts s w g = record { goes = λ n h. let (m, h2, q) = g.goes n h in q ∙ whole now.at now.rest.now m last parts s w }

pub some_missing : (old now : Cursor) (before after : Parts) (last : ℕ) (parts : Parts) → length now.rest.now ≡ 0 → is_whole parts ≡ false → Filing old now before last parts → ReadsSections (Err (faults.Bad now.at)) old before after
some_missing old now before after last parts s w g = record { goes = λ n h. let (m, h2, q) = g.goes n h in q ∙ cut now.at now.rest.now m last parts s w }

pub same_number : (m : Found) → length m.funcs.items ≡ length m.bodies.items → is_whole (parts_of m) ≡ true
same_number m e = eq-eqb _ _ e

pub other_number : (m : Found) → (length m.funcs.items ≡ length m.bodies.items → ⊥) → is_whole (parts_of m) ≡ false
other_number m n = ne_eqb _ _ n
