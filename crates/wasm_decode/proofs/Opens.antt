-- The blocks that are open, and the instructions in them.
use Rattle.std.proofs.Common.{◌≡◌, ℕ, zero, suc, ◌+◌, ◌<◌, ◌≤◌, List, [], ◌∷◌, ◌++◌, length, reverse, Ok, Err, Bool, false, refl, sym, ap, subst, ◌∙◌, arith}
use Rattle.std.proofs.lemmas.List.{reverse-append}
use Rattle.wasm_core.specs.Format.{judge}
use Rattle.wasm_core.specs.ModuleGrammar.{Spelling, instr, instrs}
use Rattle.wasm_core.specs.ModuleCondition.{opens_after}
use Rattle.wasm_core.specs.declared.instrs.Instr.{Instr}
use Rattle.wasm_decode.specs.Reads.{judged, Reads}
use Rattle.wasm_decode.specs.Reading.{ReadsInstrs}
use Rattle.wasm_core.specs.declared.binary_faults.DecodeFault.{DecodeFault}
use Rattle.wasm_decode.specs.declared.cursor.Cursor.{Cursor}
use Rattle.wasm_decode.proofs.Meaning.{goes_with}

-- one block more, the innermost last
pub opened : (now old : List Bool) (b : Bool) → now ≡ old ++ b ∷ [] → reverse now ≡ b ∷ reverse old
opened now old b e = rw e (reverse-append old (b ∷ []))

pub opened_twice : (now mid old : List Bool) (a b : Bool) → now ≡ mid ++ b ∷ [] → mid ≡ old ++ a ∷ [] → reverse now ≡ b ∷ a ∷ reverse old
opened_twice now mid old a b e d = opened now mid b e ∙ ap (λ bs. b ∷ bs) (opened mid old a d)

-- These blocks are open, and these instructions are there.
pub record Instructing (old now : Cursor) (opens : List Bool) (code : List Instr) : Type 0 where
  pub same : now.at + length now.rest.now ≡ old.at + length old.rest.now
  pub goes : (n : ℕ) → length old.rest.now ≤ n → (k : List Instr → Spelling) (ws : List (List ℕ)) → (m : ℕ) × (length now.rest.now ≤ m) × (judged old (instrs n (false ∷ []) [] k) ws ≡ judged now (instrs m opens code k) ws)

pub begun : (c : Cursor) (opens : List Bool) → opens ≡ false ∷ [] → Instructing c c (reverse opens) []
begun c opens e = record { same = refl; goes = λ n h k ws. (n, h, ap (λ os. judged c (instrs n os [] k) ws) (sym (ap reverse e))) }

step : (now new : Cursor) (m : ℕ) (may : Bool) (os : List Bool) (code : List Instr) (k : List Instr → Spelling) (ws : List (List ℕ)) → length new.rest.now < length now.rest.now →
    length now.rest.now ≤ m → (p : ℕ) × (length new.rest.now ≤ p) × (judged now (instrs m (may ∷ os) code k) ws ≡ judged now (instr may (λ i. instrs p (opens_after i (may ∷ os)) (code ++ i ∷ []) k)) ws)
unfolding instrs
step now new zero may os code k ws s h = absurd (omega (arith, s, h))
step now new (suc m) may os code k ws s h = (m, omega (arith, s, h), refl)

pub instructed : {X : Type 0} (old now new : Cursor) (may : Bool) (os : List Bool) (code : List Instr) (seen : X → Instr) (x : X) → Instructing old now (may ∷ os) code → Reads (Ok x) now new (instr may) seen → Instructing old new (opens_after (seen x) (may ∷ os)) (code ++ seen x ∷ [])
instructed old now new may os code seen x g r = record {
  same = r.same ∙ g.same;
  goes = λ n h k ws.
      let (m, h2, e) = g.goes n h k ws in
      let (p, h3, e2) = step now new m may os code k ws r.shorter h2 in
      (p, h3, e ∙ e2 ∙ r.goes (λ i. instrs p (opens_after i (may ∷ os)) (code ++ i ∷ []) k) ws);
}

empty_stuck : (at : ℕ) (w : List ℕ) (may : Bool) (os : List Bool) (code : List Instr) (k : List Instr → Spelling) (ws : List (List ℕ)) → length w ≤ 0 → judge (instrs 0 (may ∷ os) code k) at w ws ≡ judge (instr may (λ i. k code)) at w ws
unfolding instrs judge instr
empty_stuck at [] may os code k ws h = refl
empty_stuck at (b ∷ w) may os code k ws h = absurd (omega (arith, h))

-- where no byte is left, no instruction is read
stuck : (now : Cursor) (m : ℕ) (may : Bool) (os : List Bool) (code : List Instr) (k : List Instr → Spelling) (ws : List (List ℕ)) → length now.rest.now ≤ m → (f : Instr → Spelling) × (judged now (instrs m (may ∷ os) code k) ws ≡ judged now (instr may f) ws)
unfolding instrs judge instr
stuck now (suc m) may os code k ws h = (_, refl)
stuck now zero may os code k ws h = (λ i. k code, empty_stuck now.at now.rest.now may os code k ws h)

pub failed : {X Y : Type 0} (old now new : Cursor) (may : Bool) (os : List Bool) (code : List Instr) (seen : X → Instr) (seen' : Y → List Instr) (e : DecodeFault) → Instructing old now (may ∷ os) code →
    Reads {X = X} {Y = Instr} (Err e) now new (instr may) seen → ReadsInstrs {X = Y} (Err e) old new seen'
failed old now new may os code seen seen' e g r = record {
  same = tt;
  goes = λ n h k ws.
      let (m, h2, q) = g.goes n h k ws in
      let (f, q2) = stuck now m may os code k ws h2 in
      goes_with e _ _ _ _ (q ∙ q2) (r.goes f ws);
}

last : (now : Cursor) (m : ℕ) (opens : List Bool) (code : List Instr) (k : List Instr → Spelling) (ws : List (List ℕ)) → opens ≡ [] → judged now (instrs m opens code k) ws ≡ judged now (k code) ws
unfolding instrs
last now zero opens code k ws e = rw e refl
last now (suc m) opens code k ws e = rw e refl

pub ended : {Y : Type 0} (old now : Cursor) (opens : List Bool) (code : List Instr) (seen' : Y → List Instr) (y : Y) → Instructing old now opens code → opens ≡ [] → code ≡ seen' y → ReadsInstrs (Ok y) old now seen'
ended old now opens code seen' y g e m = record {
  same = g.same;
  goes = λ n h k ws. let (p, h2, q) = g.goes n h k ws in q ∙ last now p opens code k ws e ∙ ap (λ is. judged now (k is) ws) m;
}

pub none_open : (bs : List Bool) → length bs ≡ 0 → reverse bs ≡ []
none_open [] e = refl
none_open (b ∷ bs) e = absurd (omega (arith, e))

pub known : {old now : Cursor} {os opens : List Bool} {is code : List Instr} → os ≡ opens → is ≡ code → Instructing old now os is → Instructing old now opens code
known {old = old} {now = now} {os = os} {opens = opens} {is = is} {code = code} e d g = subst (λ os. Instructing old now os code) e (subst (λ is. Instructing old now os is) d g)
