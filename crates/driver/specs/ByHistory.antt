-- What the top call promises by the histories of its objects, as of real streams: the input is what the source's reads gave in this call, up to its end, and what out and err take is what their writes took.
use Rattle.std.specs.Prelude.{◌≢◌, ℕ, ◌≤◌, List, length, Option, Some, Result, Ok, Err}
use Rattle.kio.specs.Histories.{MetEnd, given_since}
use Rattle.reports.specs.Shown.{Shown}
use Rattle.driver.specs.declared.refusal.Refusal.{Refusal}
use Rattle.driver.specs.declared.refusal.Refusal.TheVariants as refusals
use Rattle.driver.specs.Serve.{IsForReader, input_limit}
use Rattle.driver.specs.Served.{Seen, Served, seen}

-- A source by its history: the bytes that it tells are those that its reads give in this call, whatever it has left.
abbrev pub read_in_call : {S : Type 0} → (given : S → List (List ℕ)) → (reads : S → ℕ) → (src src' : S) → S → Seen S
read_in_call given reads src src' x = record { object = x; told = Some (given_since (given src) (given src')); faults = reads x }

-- What a sink tells by its history: the bytes that its writes took.
abbrev pub by_history : {K : Type 0} → (received : K → List ℕ) → K → Option (List ℕ)
by_history received x = Some (received x)

-- Of each source and sink, so of real streams too, all that the top call promises holds once more, where the input is the bytes that the source's reads give in this call, and what out and err take is what their writes took.
abbrev pub ServedByHistory : {S K E : Type 0} (status : ℕ) (words : List (List ℕ)) (reports : List Shown) (given : S → List (List ℕ)) (reads : S → ℕ) (src src' : S)
    (received : K → List ℕ) (writes : K → ℕ) (out out' : K) (heard : E → List ℕ) (errs : E → ℕ) (err err' : E) → Type 0
ServedByHistory status words reports given reads src src' received writes out out' heard errs err err' =
    Served status words reports (read_in_call given reads src src' src) (read_in_call given reads src src' src') (seen (by_history received) writes out) (seen (by_history received) writes out')
    (seen (by_history heard) errs err) (seen (by_history heard) errs err')

-- what a job's result says of the end of the input, where the job reads one: it was met, but where memory, a fault or the limit ended the reads
abbrev pub EndSays : {V : Type 0} → Result V Refusal → (words : List (List ℕ)) → (old new : List (List ℕ)) → Type 0
EndSays (Ok v) words old new = IsForReader words → MetEnd old new
EndSays (Err refusals.Memory) words old new = Unit {0}
EndSays (Err refusals.Usage) words old new = Unit {0}
EndSays (Err refusals.ReadFault) words old new = Unit {0}
EndSays (Err refusals.InputBytes) words old new = Unit {0}
EndSays (Err _) words old new = IsForReader words → MetEnd old new

-- On each status but 1 and 3, where the job reads an input and its reads gave at most as many bytes as the limit, the last of them met the end of the input.
abbrev pub ReadsToEnd : (status : ℕ) (words : List (List ℕ)) (old new : List (List ℕ)) → Type 0
ReadsToEnd status words old new = IsForReader words → status ≢ 1 → status ≢ 3 → length (given_since old new) ≤ input_limit → MetEnd old new
