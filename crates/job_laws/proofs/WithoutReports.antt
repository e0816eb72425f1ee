-- What a call with reports promises, with the lines of the reports taken off err.
use Rattle.std.proofs.Common.{ℕ, zero, suc, List, Option, Some, None, inl, refl, le_refl}
use Rattle.kio.specs.Known.{StillTells}
use Rattle.reports.specs.Shown.{Shown}
use Rattle.driver.proofs.PartByPart.{appends_none}
use Rattle.driver.specs.Served.{Seen, Served, IsKept}
use Rattle.job_laws.specs.ReportLaws.{KeepsPromises}

tells_itself : (t : Option (List ℕ)) → StillTells t t
tells_itself None = tt
tells_itself (Some x) = tt

kept : {X : Type 0} (x : Seen X) → IsKept x x
kept x = record { count = le_refl x.faults; tells = tells_itself x.told }

pub without_reports : {S K E : Type 0} (status : ℕ) (words : List (List ℕ)) (reports : List Shown) (src src' : Seen S) (out out' : Seen K) (err err' : Seen E) →
    Served status words reports src src' out out' err err' → KeepsPromises status words src src' out out' err err'
without_reports zero words reports src src' out out' err err' s = record {
  left = err;
  served = record {
    done = s.done;
    statuses = s.statuses;
    refused = λ n. absurd (n refl);
    usage = s.usage;
    faulty = s.faulty;
    prefix = s.prefix;
    judged = s.judged;
    complete = s.complete;
    values = s.values;
    plain = s.plain;
    named = s.named;
    finishes = s.finishes;
    well = s.well;
    headline = s.headline;
    bounded = s.bounded;
    counted = s.counted;
    matched = s.matched;
    refuses_text = s.refuses_text;
    refuses_length = s.refuses_length;
    nothing_out = s.nothing_out;
    reported = λ z. let r = s.reported z in (r.0, r.1, record { count = le_refl err.faults; line_or_prefix = inl (appends_none err.told) });
    unread = s.unread;
    quiet = λ z none. refl;
    source = s.source;
    sinks = (s.sinks.0, kept err);
  };
  untouched = λ z. refl;
  alike = λ n. absurd (n refl);
}
without_reports (suc n) words reports src src' out out' err err' s = record {
  left = err';
  served = record {
    done = s.done;
    statuses = s.statuses;
    refused = s.refused;
    usage = s.usage;
    faulty = s.faulty;
    prefix = s.prefix;
    judged = s.judged;
    complete = s.complete;
    values = s.values;
    plain = s.plain;
    named = s.named;
    finishes = s.finishes;
    well = s.well;
    headline = s.headline;
    bounded = s.bounded;
    counted = s.counted;
    matched = s.matched;
    refuses_text = s.refuses_text;
    refuses_length = s.refuses_length;
    nothing_out = s.nothing_out;
    reported = λ z. absurd cc;
    unread = s.unread;
    quiet = λ z none. absurd cc;
    source = s.source;
    sinks = s.sinks;
  };
  untouched = λ z. absurd cc;
  alike = λ n. refl;
}
