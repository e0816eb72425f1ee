use Rattle.std.proofs.Common.{◌<◌, ◌/◌, sym, refl, inl, inr, set, true, arith}
use Rattle.std.proofs.lemmas.Bool.{false≢true}
use Rattle.mem_value.specs.Marks as marks
use Rattle.mem_value.proofs.Standing.{field_is_bad, grows-same}
use Rattle.mem_value.proofs.Searching.{marks_one}
use Rattle.mem_value.proofs.blocks.keep_field.Goals as goal

pub returns-then-field-eq1 : goal.returns-then-field-eq1
returns-then-field-eq1 c = record {
  kept = λ _. marks.odd (c.args.field / 2) (omega arith);
  bad = λ memory no. absurd (false≢true (sym no));
  grows = grows-same c.args.marks.now.items;
  marked = λ p is. inl is;
}

pub returns-then-field-ne0 : goal.returns-then-field-ne0
returns-then-field-ne0 c = record {
  kept = λ yes. absurd (false≢true yes);
  bad = λ memory _. field_is_bad memory c.args.place c.args.field c.if-field-eq1.false (inl c.if-field-ne0.true);
  grows = grows-same c.args.marks.now.items;
  marked = λ p is. inl is;
}

pub returns-then-field-eq0 : goal.returns-then-field-eq0
returns-then-field-eq0 c = record {
  kept = λ yes. absurd (false≢true yes);
  bad = λ memory _. field_is_bad memory c.args.place c.args.field c.if-field-eq1.false (inr (inl c.if-field-eq0.true));
  grows = grows-same c.args.marks.now.items;
  marked = λ p is. inl is;
}

pub returns-then-below-place : goal.returns-then-below-place
returns-then-below-place c = record {
  kept = λ yes. absurd (false≢true yes);
  bad = λ memory _. field_is_bad memory c.args.place c.args.field c.if-field-eq1.false (inr (inr c.if-below-place.true));
  grows = grows-same c.args.marks.now.items;
  marked = λ p is. inl is;
}

pub returns : goal.returns
returns c =
    let ms = c.args.marks.now.items in let f = c.args.field in
    let pos : 0 < f = omega arith in
    let m = marks_one ms (set ms (f / 4) true) c.args.place f refl c.requires.here c.if-field-ne0.false pos c.if-below-place.false in
    record { kept = λ _. m.kept; bad = λ memory no. absurd (false≢true (sym no)); grows = m.grows; marked = m.marked }
