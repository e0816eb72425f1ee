use Rattle.std.proofs.Common.{◌≡◌, ◌∙◌, ◌∷◌, [], true, false, sym, ap, refl, take, map}
use Rattle.dump_reader.specs.declared.declaration.RawCtor.{RawCtor}
use Rattle.pc_rules.specs.declared.broken.Broken.TheVariants.{DuplicateName}
use Rattle.pc_rules.specs.DirectedRun.{Run, Refused}
use Rattle.pc_rules.specs.DirectedDeclarations.{has_name}
use Rattle.inductive_check.specs.Given.{ctor_of}
use Rattle.inductive_check.proofs.Distinct.{same_more, new_name, old_name, all_distinct}
use Rattle.inductive_check.proofs.names.are_distinct.Goals as goal

pub loop-i-init : goal.loop-i-init
loop-i-init c = ([], (λ k. refl), (λ u. refl))

pub loop-i-preserved : goal.loop-i-preserved
loop-i-preserved c =
    let cs = c.args.ctors.now in
    let i = c.loop-i.i in
    let C = c.index-ctors-i.result in
    let is = c.index-ctors-i.is in
    let lt = c.loop-i-test.true in
    let before = c.loop-i.invariant in
    let e : has_name C.name (map ctor_of (take i cs)) ≡ false =
    ap (λ (x : RawCtor). has_name x.name (map ctor_of (take i cs))) is ∙ sym c.if-has_name.ensures.is in
    (ctor_of C ∷ before.0, same_more cs i C lt is before.0 before.1, λ u. before.2 u ∙ new_name cs i C lt is before.0 before.1 u e)

pub returns-then-has_name : goal.returns-then-has_name
returns-then-has_name c =
    let cs = c.args.ctors.now in
    let i = c.loop-i.i in
    let C = c.index-ctors-i.result in
    let is = c.index-ctors-i.is in
    let before = c.loop-i.invariant in
    let e : has_name C.name (map ctor_of (take i cs)) ≡ true =
    ap (λ (x : RawCtor). has_name x.name (map ctor_of (take i cs))) is ∙ sym c.if-has_name.ensures.is in
    record {
      answers = λ u. ap (λ (d : Run (Unit {0})). d.end) (before.2 u ∙ old_name cs i C c.loop-i-test.true is before.0 before.1 u e)
          ∙ ap (λ (x : RawCtor). Refused (DuplicateName x.name.0) u) is;
    }

pub returns : goal.returns
returns c = record {
  answers = λ u. ap (λ (d : Run (Unit {0})). d.end) (c.loop-i.invariant.2 u ∙ all_distinct c.args.ctors.now c.loop-i.i c.loop-i.invariant.0 u c.loop-i-test.false);
}
