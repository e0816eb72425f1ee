use Rattle.std.proofs.Common.{inl}
use Rattle.std.proofs.lemmas.Bool.{false≢true}
use Rattle.mem_value.proofs.Standing.{grows-same}
use Rattle.mem_value.proofs.Searching.{no_block, marks_needed, block_is_bad}
use Rattle.mem_value.proofs.blocks.keep_block.Goals as goal

pub returns-in-None : goal.returns-in-None
returns-in-None c = record {
  sound = λ yes. absurd (false≢true yes);
  bad = λ _. no_block c.args.memory.now c.args.place c.in-None.ensures.none;
  grows = grows-same c.args.marks.now.items;
  marked = λ p is. inl is;
}

pub keep_fields-requires-clause-inside : goal.keep_fields-requires-clause-inside
keep_fields-requires-clause-inside c = c.in-Some.ensures.found.inside

pub returns-in-Some : goal.returns-in-Some
returns-in-Some c =
    let m = c.args.memory.now in let p = c.args.place in let h = c.in-Some.header in
    let lies = c.in-Some.ensures.found in
    let e = c.keep_fields.ensures in
    record {
      sound = λ yes. record { arity = h.arity; number = h.number; block = lies; fields = e.kept yes };
      bad = λ no. let b = e.bad no in block_is_bad m p h.arity h.number b.0 lies b.1 b.2;
      grows = e.grows;
      marked = marks_needed m p h.arity h.number c.args.marks.now.items c.keep_fields.new.marks.items lies e.marked;
    }
