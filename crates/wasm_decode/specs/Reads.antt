-- What the functions of the decoder promise.
use Rattle.std.specs.Prelude.{◌≡◌, ℕ, ◌+◌, ◌<◌, List, ◌∷◌, length, Bool, Result, Ok, Err, OnOk, IfOk, if◌then◌else◌}
use Rattle.wasm_core.specs.Format.{Byte, Number, Size, DecodeOutcome, Refused, judge}
use Rattle.wasm_core.specs.ModuleGrammar.{Spelling, finish}
use Rattle.wasm_core.specs.Parts.{Parts}
use Rattle.wasm_core.specs.declared.binary_faults.DecodeFault.{DecodeFault}
use Rattle.wasm_core.specs.declared.binary_faults.DecodeFault.TheVariants as faults
use Rattle.wasm_decode.specs.declared.cursor.Cursor.{Cursor}

-- the outcome of reading on from here
abbrev pub judged : Cursor → Spelling → List (List ℕ) → DecodeOutcome Parts
judged c f ws = judge f c.at c.rest.now ws

abbrev pub Goes : {X : Type 0} → Result X DecodeFault → DecodeOutcome Parts → (X → DecodeOutcome Parts) → Type 0
Goes (Ok x) o go = o ≡ go x
Goes (Err faults.Memory) o go = Unit {0}
Goes (Err (faults.Bad n)) o go = o ≡ Refused n

-- What comes is read, whatever is to come after it and around the part; or it is refused as the bytes are.
pub record Reads {X Y : Type 0} (result : Result X DecodeFault) (old new : Cursor) (f : (Y → Spelling) → Spelling) (seen : X → Y) : Type 0 where
  pub same : OnOk result (new.at + length new.rest.now ≡ old.at + length old.rest.now)
  pub shorter : OnOk result (length new.rest.now < length old.rest.now)
  pub goes : (k : Y → Spelling) (ws : List (List ℕ)) → Goes result (judged old (f k) ws) (λ x. judged new (k (seen x)) ws)

-- The next byte, whatever it may be.
pub record TakesByte (result : Result ℕ DecodeFault) (old new : Cursor) : Type 0 where
  pub same : OnOk result (new.at + length new.rest.now ≡ old.at + length old.rest.now)
  pub shorter : OnOk result (length new.rest.now < length old.rest.now)
  pub goes : (fits : ℕ → Bool) (next : ℕ → Spelling) (ws : List (List ℕ)) → Goes result (judged old (Byte fits next) ws) (λ b. if fits b then judged new (next b) ws else Refused old.at)

-- The next number of so many bits, whatever it may be.
pub record TakesNumber (result : Result ℕ DecodeFault) (old new : Cursor) (signed : Bool) (bits : ℕ) : Type 0 where
  pub same : OnOk result (new.at + length new.rest.now ≡ old.at + length old.rest.now)
  pub shorter : OnOk result (length new.rest.now < length old.rest.now)
  pub goes : (fits : ℕ → Bool) (next : ℕ → Spelling) (ws : List (List ℕ)) → Goes result (judged old (Number signed bits fits next) ws) (λ n. if fits n then judged new (next n) ws else Refused old.at)

-- The part that comes next: it is read on its own, with what comes after it around it.
abbrev pub GoesIn : Result Cursor DecodeFault → DecodeOutcome Parts → (Cursor → DecodeOutcome Parts) → Type 0
GoesIn (Ok x) o go = o ≡ go x
GoesIn (Err faults.Memory) o go = Unit {0}
GoesIn (Err (faults.Bad n)) o go = o ≡ Refused n

pub record TakesPart (result : Result Cursor DecodeFault) (old new : Cursor) : Type 0 where
  pub same : OnOk result (new.at + length new.rest.now ≡ old.at + length old.rest.now)
  pub shorter : OnOk result (length new.rest.now < length old.rest.now)
  pub joins : IfOk result (λ part. part.at + length part.rest.now ≡ new.at)
  pub goes : (next : ℕ → Spelling) (ws : List (List ℕ)) → GoesIn result (judged old (Size next) ws) (λ part. judged part (next (length part.rest.now)) (new.rest.now ∷ ws))

-- The part ends here, and the one around it goes on.
pub record Finishes (result : Result (Unit {0}) DecodeFault) (c : Cursor) : Type 0 where
  pub over : OnOk result (length c.rest.now ≡ 0)
  pub goes : (k : Spelling) (w : List ℕ) (ws : List (List ℕ)) → Goes result (judged c (finish k) (w ∷ ws)) (λ x. judge k c.at w ws)

-- The same for what has no value.
pub record Passes (result : Result (Unit {0}) DecodeFault) (old new : Cursor) (f : Spelling → Spelling) : Type 0 where
  pub same : OnOk result (new.at + length new.rest.now ≡ old.at + length old.rest.now)
  pub shorter : OnOk result (length new.rest.now < length old.rest.now)
  pub goes : (k : Spelling) (ws : List (List ℕ)) → Goes result (judged old (f k) ws) (λ x. judged new k ws)
