-- The numbers of each request lie in their ranges.
use Rattle.std.proofs.Common.{◌≡◌, ◌≤◌, ℕ, Bool, true, false, ◌&&◌, leb, le-leb, leb-true, if◌then◌else◌, Option, Some, None, refl, ap, subst}
use Rattle.std.specs.Prelude.{option_and_then, unwrap_or}
use Rattle.std.proofs.lemmas.Bool.{and_parts}
use Rattle.clap.specs.Walk.{is_empty}
use Rattle.clap.specs.Words.{fault_of, matches_of}
use Rattle.command_line.specs.Line.{command, has_ranges, lies_within, request_in, request_of, within_ranges, IsInRange, RequestsLieInRange}
use Rattle.command_line.specs.declared.line.Request.{Request}

within_true : (most n : ℕ) → (1 ≤ n) × (n ≤ most) → lies_within most n ≡ true
within_true most n h = rw (le-leb 1 n h.0, le-leb n most h.1) refl

true_within : (most n : ℕ) → lies_within most n ≡ true → (1 ≤ n) × (n ≤ most)
true_within most n e = (let b = and_parts (leb 1 n) (leb n most) e in (leb-true 1 n b.0, leb-true n most b.1))

-- a request whose numbers lie in their ranges is kept
pub kept_within : (r : Request) → IsInRange r → within_ranges r ≡ Some r
kept_within r h = rw (within_true 4294967295 r.turns h.turns, within_true 16384 r.pages h.pages, within_true 4294967295 r.steps h.steps, within_true 4096 r.size h.size) refl

-- and one that is kept has them there

in_range : (r : Request) → has_ranges r ≡ true → IsInRange r
in_range r e =
    let a = and_parts (lies_within 4294967295 r.turns) (lies_within 16384 r.pages && (lies_within 4294967295 r.steps && lies_within 4096 r.size)) e in
    let b = and_parts (lies_within 16384 r.pages) (lies_within 4294967295 r.steps && lies_within 4096 r.size) a.1 in
    let c = and_parts (lies_within 4294967295 r.steps) (lies_within 4096 r.size) b.1 in
    record {
      turns = true_within 4294967295 r.turns a.0;
      pages = true_within 16384 r.pages b.0;
      steps = true_within 4294967295 r.steps c.0;
      size = true_within 4096 r.size c.1;
    }

if_within : (r q : Request) (b : Bool) → has_ranges r ≡ b → (if b then Some r else None) ≡ Some q → IsInRange q
if_within r q true h e = subst IsInRange (ap (λ o. unwrap_or o r) e) (in_range r h)
if_within r q false h e = cc

of_matches : (o : Option Request) (q : Request) → option_and_then within_ranges o ≡ Some q → IsInRange q
of_matches None q e = cc
of_matches (Some r) q e = if_within r q (has_ranges r) refl e

of_words : (o : Option Request) (q : Request) (b : Bool) → (if b then option_and_then within_ranges o else None) ≡ Some q → IsInRange q
of_words o q true e = of_matches o q e
of_words o q false e = cc

pub requests_lie_in_range : RequestsLieInRange
unfolding request_of
requests_lie_in_range words q e = of_words (request_in (matches_of command words)) q (is_empty (fault_of command words)) e
