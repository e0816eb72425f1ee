-- The number that is read of an option's value.
use Rattle.std.proofs.Common.{◌≡◌, ◌∙◌, ◌≤◌, ap, sym, subst, refl, ℕ, List, [], Option, Some, None, arith, codes}
use Rattle.std.specs.Prelude.{Result, Ok, Err, option_and_then, option_map, unwrap_or}
use Rattle.std.specs.Str.Parse.{ParsesUnsigned, digits_value, without_leading_plus}
use Rattle.clap.specs.Matches.{ReadsOne, one_text}
use Rattle.clap.specs.Values.{IsUnsignedIn}
use Rattle.clap.specs.Walk.{Row, Text, first_of, rows_of}
use Rattle.clap.specs.declared.parser.matches.Found.{Found}
use Rattle.clap.proofs.WalkLemmas.{one_text-rows}
use Rattle.command_line.specs.Jobs.{job_named}
use Rattle.command_line.specs.Line.{IsInRange, number_in, request_in}
use Rattle.command_line.specs.Numbers.{HasNumber, HasNumbers}
use Rattle.command_line.specs.declared.job.Job.{Job}
use Rattle.command_line.specs.declared.line.Request.{Request}

-- the number of an option is that of its text
number_of_text : (f : Found) (name t : Text) → one_text f name ≡ Some t → digits_value 10 (without_leading_plus t) ≡ number_in name (rows_of f)
number_of_text f name t is = ap (λ o. digits_value 10 (without_leading_plus (unwrap_or o []))) (sym is ∙ one_text-rows f name)

-- it lies in the option's range
pub number_in_range : (f : Found) (name : Text) (most : ℕ) → HasNumber f name most → (1 ≤ number_in name (rows_of f)) × (number_in name (rows_of f) ≤ most)
number_in_range f name most h =
    let is = number_of_text f name h.0 h.1 in
    (subst (λ n. 1 ≤ n) is h.2.2, subst (λ n. n ≤ most) is h.2.3)

-- a number that the type's reading gives of the option's text
pub number_read : (E : Type 0) (G : List ℕ → Result ℕ E → Type 0) → ((u : List ℕ) (x : Result ℕ E) → G u x → ParsesUnsigned 32 10 u x) → (f : Found) (name t : Text) (n : ℕ) → one_text f name ≡ Some t → ReadsOne G t (Some n) → n ≡ number_in name (rows_of f)
number_read E G only f name t n is reads = (only t (Ok n) reads).1 ∙ number_of_text f name t is

-- the text that has passed is one of which a number is read
pub number_unread : (E : Type 0) (G : List ℕ → Result ℕ E → Type 0) → ((u : List ℕ) (x : Result ℕ E) → G u x → ParsesUnsigned 32 10 u x) → (t : Text) → IsUnsignedIn 1 4294967295 t → ReadsOne G t None → ⊥
number_unread E G only t h (e, reads) = only t (Err e) reads (h.0, omega (arith, h.3))

pub has_more : (f : Found) (name : Text) (most : ℕ) → most ≤ 4294967295 → HasNumber f name most → HasNumber f name 4294967295
has_more f name most le h = (h.0, h.1, (h.2.0, h.2.1, h.2.2, omega (arith, le, h.2.3)))

-- each number of a request lies in its range
request_in_range : (f : Found) → HasNumbers f → (job : Option Job) (r : Request)
    → Some r ≡ option_map (λ (j : Job). record { job = j; turns = number_in (codes "turns") (rows_of f); pages = number_in (codes "pages") (rows_of f); steps = number_in (codes "steps") (rows_of f); size = number_in (codes "size") (rows_of f) }) job
    → IsInRange r
request_in_range f h None r e = cc
request_in_range f h (Some j) r e =
    let is : r ≡ record { job = j; turns = number_in (codes "turns") (rows_of f); pages = number_in (codes "pages") (rows_of f); steps = number_in (codes "steps") (rows_of f); size = number_in (codes "size") (rows_of f) } = ap (λ o. unwrap_or o r) e in
    rw is (record {
      turns = number_in_range f (codes "turns") 4294967295 h.turns;
      pages = number_in_range f (codes "pages") 16384 h.pages;
      steps = number_in_range f (codes "steps") 4294967295 h.steps;
      size = number_in_range f (codes "size") 4096 h.size;
    })

pub asked_in_range : (f : Found) → HasNumbers f → (r : Request) → Some r ≡ request_in (rows_of f) → IsInRange r
asked_in_range f h r e = request_in_range f h (option_and_then job_named (first_of (codes "job") (rows_of f))) r e

-- the request of rows by the text of JOB

pub asked_of_job : (rows : List Row) (t : Text) (j : Job) → first_of (codes "job") rows ≡ Some t → job_named t ≡ Some j
    → request_in rows ≡ Some (record { job = j; turns = number_in (codes "turns") rows; pages = number_in (codes "pages") rows; steps = number_in (codes "steps") rows; size = number_in (codes "size") rows })
asked_of_job rows t j first named = rw (first, named) refl

pub asked_of_no_job : (rows : List Row) (t : Text) → first_of (codes "job") rows ≡ Some t → job_named t ≡ None → request_in rows ≡ None
asked_of_no_job rows t first named = rw (first, named) refl

pub asked_without_job : (rows : List Row) → first_of (codes "job") rows ≡ None → request_in rows ≡ None
asked_without_job rows first = rw first refl
