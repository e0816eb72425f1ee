-- The text of an environment with a certificate behind it: what is read of it.
use Rattle.std.specs.Prelude.{◌≡◌, ℕ, ◌≤◌, List, [], ◌∷◌, ◌++◌, length, Ok}
use Rattle.cert_rules.specs.Walk.{Items}
use Rattle.cert_text.specs.CertReading.{Read, read_bytes}
use Rattle.cert_text.specs.CertText.{AreSmall, cert_text}
use Rattle.dump_printer.specs.Canonical.{canonical_text, canonical_tokens}
use Rattle.dump_printer.specs.Nesting.{nesting}
use Rattle.dump_reader.specs.Front.{front_bytes, front_length}
use Rattle.dump_reader.specs.Spelled.{IsSpelled}
use Rattle.dump_reader.specs.Spelling.{IsFrontVerdict}
use Rattle.dump_reader.specs.declared.environment.RawEnv.{RawEnv}

-- the environment's canonical text and LF, and the certificate's text and LF
abbrev pub certified_text : RawEnv → Items → List ℕ
certified_text e items = canonical_text e ++ 10 ∷ (cert_text items ++ 10 ∷ [])

-- the front is the canonical text, and is read as the environment; what stands behind it is read as the certificate
pub record IsReadAsBoth (e : RawEnv) (items : Items) (bytes : List ℕ) : Type 0 where
  pub front : front_bytes bytes ≡ canonical_text e
  pub environment : IsFrontVerdict bytes (Ok (e, length (canonical_text e)))
  pub certificate : read_bytes bytes (front_length bytes) ≡ Read items

-- of an environment that some text spells, whose canonical text nests at most 1,000 deep, and a certificate whose numbers can be held
abbrev pub CertifiedTextsAreRead : Type 0
CertifiedTextsAreRead = (e : RawEnv) (items : Items) → IsSpelled e → nesting (canonical_tokens e) ≤ 1000 → AreSmall items → IsReadAsBoth e items (certified_text e items)
