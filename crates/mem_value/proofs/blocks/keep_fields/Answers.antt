use Rattle.std.proofs.Common.{◌+◌, sym, inl, subst, arith}
use Rattle.std.proofs.lemmas.Bool.{false≢true}
use Rattle.mem_value.specs.Marks.{IsBad}
use Rattle.mem_value.proofs.Standing.{grows-same, grows-on}
use Rattle.mem_value.proofs.Searching.{kept_more, marks_more, marks_widen}
use Rattle.mem_value.proofs.blocks.keep_fields.Goals as goal

pub loop-i-init : goal.loop-i-init
loop-i-init c = (λ k lt. absurd (omega arith), grows-same c.args.marks.now.items, λ p is. inl is)

pub keep_field-requires : goal.keep_field-requires
keep_field-requires c = record { here = let l = c.loop-i.invariant.1.len in let h = c.requires.here in omega arith }

pub returns-then-not-keep_field : goal.returns-then-not-keep_field
returns-then-not-keep_field c =
    let m = c.args.memory.now in let p = c.args.place in let i = c.loop-i.i in
    let old = c.args.marks.now.items in let now = c.loop-i.marks.items in let new = c.keep_field.new.marks.items in
    let inv = c.loop-i.invariant in
    let more = marks_more m p i c.load-field.result old now new inv.2 c.keep_field.ensures.marked c.load-field.ensures.is in
    record {
      kept = λ yes. absurd (false≢true yes);
      bad = λ _. (i, omega arith, subst (IsBad m p) c.load-field.ensures.is (c.keep_field.ensures.bad m cc));
      grows = grows-on old now new inv.1 c.keep_field.ensures.grows;
      marked = marks_widen m p (i + 1) c.args.arity old new more (omega arith);
    }

pub loop-i-preserved : goal.loop-i-preserved
loop-i-preserved c =
    let m = c.args.memory.now in let p = c.args.place in let i = c.loop-i.i in
    let old = c.args.marks.now.items in let now = c.loop-i.marks.items in let new = c.keep_field.new.marks.items in
    let inv = c.loop-i.invariant in (
      kept_more m p i c.load-field.result now new inv.0 c.keep_field.ensures.grows (c.keep_field.ensures.kept cc) c.load-field.ensures.is,
      grows-on old now new inv.1 c.keep_field.ensures.grows,
      marks_more m p i c.load-field.result old now new inv.2 c.keep_field.ensures.marked c.load-field.ensures.is,
    )

pub returns : goal.returns
returns c =
    let inv = c.loop-i.invariant in
    record {
      kept = λ _ k lt. inv.0 k (omega arith);
      bad = λ no. absurd (false≢true (sym no));
      grows = inv.1;
      marked = marks_widen c.args.memory.now c.args.place c.loop-i.i c.args.arity c.args.marks.now.items c.loop-i.marks.items inv.2 (omega arith);
    }
