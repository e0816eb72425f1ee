use Rattle.std.proofs.Common.{◌∙◌, refl, sym, subst, arith}
use Rattle.std.proofs.lemmas.Bool.{false≢true}
use Rattle.wasm_core.specs.ModuleTyping.{DistinctNames, Functions, Tables, Memories, Globals, Exported, Elements}
use Rattle.wasm_validate.proofs.Sections.{sound_before, too_late, failed, passed}
use Rattle.wasm_validate.proofs.outside.outside_fault.Goals as goal

pub returns-then-not-types_are_there : goal.returns-then-not-types_are_there
returns-then-not-types_are_there c = record {
  is = (
    Functions,
    refl,
    failed c.if-not-types_are_there.ensures.is,
    sound_before c.args.m.now 3 (too_late 3 3 (omega arith)) (too_late 4 3 (omega arith)) (too_late 5 3 (omega arith)) (too_late 6 3 (omega arith))
        (too_late 7 3 (omega arith)) (too_late 9 3 (omega arith)) (too_late 10 3 (omega arith)),
  );
}

pub returns-then-not-table_is_sound : goal.returns-then-not-table_is_sound
returns-then-not-table_is_sound c = record {
  is = (
    Tables,
    refl,
    failed c.if-not-table_is_sound.ensures.is,
    sound_before c.args.m.now 4 (λ lt. passed c.if-not-types_are_there.ensures.is) (too_late 4 4 (omega arith)) (too_late 5 4 (omega arith)) (too_late 6 4 (omega arith))
        (too_late 7 4 (omega arith)) (too_late 9 4 (omega arith)) (too_late 10 4 (omega arith)),
  );
}

pub returns-then-not-memory_is_sound : goal.returns-then-not-memory_is_sound
returns-then-not-memory_is_sound c = record {
  is = (
    Memories,
    refl,
    failed c.if-not-memory_is_sound.ensures.is,
    sound_before c.args.m.now 5 (λ lt. passed c.if-not-types_are_there.ensures.is) (λ lt. passed c.if-not-table_is_sound.ensures.is) (too_late 5 5 (omega arith))
        (too_late 6 5 (omega arith)) (too_late 7 5 (omega arith)) (too_late 9 5 (omega arith)) (too_late 10 5 (omega arith)),
  );
}

pub returns-then-not-globals_are_sound : goal.returns-then-not-globals_are_sound
returns-then-not-globals_are_sound c = record {
  is = (
    Globals,
    refl,
    failed c.if-not-globals_are_sound.ensures.is,
    sound_before c.args.m.now 6 (λ lt. passed c.if-not-types_are_there.ensures.is) (λ lt. passed c.if-not-table_is_sound.ensures.is)
        (λ lt. passed c.if-not-memory_is_sound.ensures.is) (too_late 6 6 (omega arith)) (too_late 7 6 (omega arith)) (too_late 9 6 (omega arith)) (too_late 10 6 (omega arith)),
  );
}

pub returns-then-not-branch : goal.returns-then-not-branch
returns-then-not-branch c =
    let e = c.as_slice.ensures.items ∙ c.exports.ensures.is in
    record {
      is = (
        Exported,
        refl,
        λ s. false≢true (sym c.if-not-branch.true ∙ c.in_ok-names_are_distinct.ensures.is.1 (subst DistinctNames (sym e) s.0)),
        sound_before c.args.m.now 7 (λ lt. passed c.if-not-types_are_there.ensures.is)
            (λ lt. passed c.if-not-table_is_sound.ensures.is) (λ lt. passed c.if-not-memory_is_sound.ensures.is) (λ lt. passed c.if-not-globals_are_sound.ensures.is) (too_late 7 7 (omega arith)) (too_late 9 7 (omega arith)) (too_late 10 7 (omega arith)),
      );
    }

pub returns-then-not-exports_are_there : goal.returns-then-not-exports_are_there
returns-then-not-exports_are_there c = record {
  is = (
    Exported,
    refl,
    λ s. failed c.if-not-exports_are_there.ensures.is s.1,
    sound_before c.args.m.now 7 (λ lt. passed c.if-not-types_are_there.ensures.is) (λ lt. passed c.if-not-table_is_sound.ensures.is)
        (λ lt. passed c.if-not-memory_is_sound.ensures.is) (λ lt. passed c.if-not-globals_are_sound.ensures.is) (too_late 7 7 (omega arith)) (too_late 9 7 (omega arith)) (too_late 10 7 (omega arith)),
  );
}

pub returns-then-not-elements_are_sound : goal.returns-then-not-elements_are_sound
returns-then-not-elements_are_sound c = let e = c.as_slice.ensures.items ∙ c.exports.ensures.is in record {
  is = (
    Elements,
    refl,
    failed c.if-not-elements_are_sound.ensures.is,
    sound_before c.args.m.now 9 (λ lt. passed c.if-not-types_are_there.ensures.is)
        (λ lt. passed c.if-not-table_is_sound.ensures.is) (λ lt. passed c.if-not-memory_is_sound.ensures.is) (λ lt. passed c.if-not-globals_are_sound.ensures.is)
        (λ lt. (subst DistinctNames e (c.in_ok-names_are_distinct.ensures.is.0 c.if-not-branch.false), passed c.if-not-exports_are_there.ensures.is)) (too_late 9 9 (omega arith)) (too_late 10 9 (omega arith)),
  );
}
