-- Lines that are written part by part.
use Rattle.std.proofs.Common.{◌≡◌, ℕ, ◌+◌, ◌≤◌, List, [], ◌++◌, length, take, Option, Some, None, inl, inr, sym, subst, ◌∙◌, arith}
use Rattle.std.specs.Prelude.{Result, Ok, Err, OnOk, OnErr, IfErr}
use Rattle.std.proofs.Math.Seq.{take-append-add, take_all}
use Rattle.std.proofs.lemmas.List.{append-nil, length-append, take-append-le}
use Rattle.std.specs.Io.KnownBytes.{Appends}
use Rattle.kio.specs.Causes.{Rose, HasCause}
use Rattle.kio.specs.Known.{StillTells}
use Rattle.kio.specs.declared.WriteFault.{WriteFault}
use Rattle.driver.specs.Takes.{TakesLine}
use Rattle.dump_printer.proofs.Written.{appends_both}

pub rose_later : (a b c : ℕ) → a ≤ b → Rose b c → Rose a c
rose_later a b c h k = omega (arith, h, k)

rose_earlier : (a b c : ℕ) → Rose a b → b ≤ c → Rose a c
rose_earlier a b c h k = omega (arith, h, k)

-- a part, and then the rest of the line
pub line_then : (a b c : Option (List ℕ)) (m n k : ℕ) (xs ys : List ℕ) → Appends a b xs → m ≤ n → TakesLine b c n k ys → TakesLine a c m k (xs ++ ys)
line_then a b c m n k xs ys h l t = record {
  count = omega (arith, l, t.count);
  line_or_prefix = elim t.line_or_prefix [
    | inl w ↦ inl (appends_both a b c xs ys h w)
    | inr (rose, (p, few, part)) ↦ inr (
      rose_later m n k l rose,
      (length xs + p, (let all = length-append xs ys in omega (arith, few, all)), subst (λ z. Appends a c z) (sym (take-append-add xs ys p)) (appends_both a b c xs (take p ys) h part)),
    )
  ];
}

-- a part that faults
pub line_stops : (a b : Option (List ℕ)) (m n p : ℕ) (xs ys : List ℕ) → p ≤ length xs → Appends a b (take p xs) → m ≤ n → Rose m n → TakesLine a b m n (xs ++ ys)
line_stops a b m n p xs ys few h l rose = record {
  count = l;
  line_or_prefix = inr (rose, (p, (let all = length-append xs ys in omega (arith, few, all)), subst (λ z. Appends a b z) (sym (take-append-le p xs ys few)) h));
}

-- of another text that is the same
pub takes_as : (a b : Option (List ℕ)) (m n : ℕ) (xs ys : List ℕ) → xs ≡ ys → TakesLine a b m n xs → TakesLine a b m n ys
takes_as a b m n xs ys e t = subst (λ z. TakesLine a b m n z) e t

pub appends_as : (a b : Option (List ℕ)) (xs ys : List ℕ) → xs ≡ ys → Appends a b xs → Appends a b ys
appends_as a b xs ys e h = subst (λ z. Appends a b z) e h

-- no part
pub appends_none : (a : Option (List ℕ)) → Appends a a []
appends_none None = tt
appends_none (Some xs) = sym (append-nil xs)

-- a line that faults, as the first of some
pub line_cut : (a b : Option (List ℕ)) (m n : ℕ) (xs ys : List ℕ) → TakesLine a b m n xs → Rose m n → TakesLine a b m n (xs ++ ys)
line_cut a b m n xs ys t rose = record {
  count = t.count;
  line_or_prefix = inr (
    rose,
    elim t.line_or_prefix [
      | inl whole ↦ (length xs, (let all = length-append xs ys in omega (arith, all)), subst (λ z. Appends a b z) (sym (take-append-le (length xs) xs ys (omega arith) ∙ take_all (length xs) xs (omega arith))) whole)
      | inr (again, (p, few, part)) ↦ (p, (let all = length-append xs ys in omega (arith, few, all)), subst (λ z. Appends a b z) (sym (take-append-le p xs ys few)) part)
    ],
  );
}

-- what holds anyway holds at a fault
pub err_anyway : {T E P : Type 0} (r : Result T E) → P → OnErr r P
err_anyway (Ok v) p = tt
err_anyway (Err e) p = p

-- a fault of the last part, after parts that went out
pub fault_later : {T E : Type 0} (r : Result T E) (a b c : ℕ) → a ≤ b → OnErr r (Rose b c) → OnErr r (Rose a c)
fault_later (Ok v) a b c l h = tt
fault_later (Err e) a b c l h = rose_later a b c l h

-- the last part, whole or not
pub line_ends : (a b : Option (List ℕ)) (m n : ℕ) (xs : List ℕ) (r : Result (Unit {0}) WriteFault) → OnOk r (Appends a b xs) → IfErr r (λ f. (f.written ≤ length xs) × Appends a b (take f.written xs)) → HasCause m n r → TakesLine a b m n xs
line_ends a b m n xs (Ok u) whole part cause = record { count = cause.later; line_or_prefix = inl whole }
line_ends a b m n xs (Err f) whole part cause = record { count = cause.later; line_or_prefix = inr (cause.failed, (f.written, part.0, part.1)) }

-- a part that faults, as the history tells it
pub part_by_history : {T : Type 0} (a b : Option (List ℕ)) (xs ys : List ℕ) (r : Result T WriteFault) (part : List ℕ) → IfErr r (λ f. (f.written ≤ length part) × Appends a b (take f.written part)) → IfErr r (λ f. ys ≡ xs ++ take f.written part) →
    IfErr r (λ f. (f.written ≤ length part) × Appends (Some xs) (Some ys) (take f.written part))
part_by_history a b xs ys (Ok v) part told history = tt
part_by_history a b xs ys (Err f) part told history = (told.0, history)

-- One that no call touches does.
pub tells_same : (a : Option (List ℕ)) → StillTells a a
tells_same None = tt
tells_same (Some x) = tt
