use Rattle.std.proofs.Common.{◌≡◌, ◌≢◌, ℕ, ◌<◌, ◌≤◌, inl, inr, max, [], length, get_or, set, ap, subst, sym, ◌∙◌, arith}
use Rattle.std.proofs.lemmas.Bool.{cases_lt}
use Rattle.std.proofs.lemmas.Grind.{common_steps}
use Rattle.universe_graph.specs.Spans.{chained, span, through}
use Rattle.universe_graph.proofs.Tables.{span-set_same, span-set_other, square-set}
use Rattle.universe_graph.proofs.closing.go_through.Goals as goal

pub extend_through-most-requires-clause-small : goal.extend_through-most-requires-clause-small
extend_through-most-requires-clause-small c =
    let row : c.index_mut-row.result.now ≡ get_or c.loop-i.rows.items c.loop-i.i [] = grind (arith, common_steps) in
    let by : c.span-by.result ≡ span c.args.rows.now.items c.loop-i.i c.args.level =
    c.span-by.ensures.value ∙ ap (λ r. get_or r c.args.level 0) row ∙ c.loop-i.invariant.rest c.loop-i.i c.args.level (omega arith) in
    omega (arith, c.requires.within c.loop-i.i c.args.level)

pub extend_through-most-requires-clause-within : goal.extend_through-most-requires-clause-within
extend_through-most-requires-clause-within c = λ j.
    let row : c.index_mut-row.result.now ≡ get_or c.loop-i.rows.items c.loop-i.i [] = grind (arith, common_steps) in
    let at : get_or c.index_mut-row.result.now j 0 ≡ span c.args.rows.now.items c.loop-i.i j =
    ap (λ r. get_or r j 0) row ∙ c.loop-i.invariant.rest c.loop-i.i j (omega arith) in
    omega (arith, c.requires.within c.loop-i.i j)

pub loop-i-preserved : goal.loop-i-preserved
loop-i-preserved c =
    let old = c.loop-i.invariant in
    let here : c.loop-i.i < length c.loop-i.rows.items = omega (arith, old.height) in
    let row : c.index_mut-row.result.now ≡ get_or c.loop-i.rows.items c.loop-i.i [] = grind (arith, common_steps) in
    let wide : length c.extend_through-most.new.self ≡ length c.loop-i.rows.items =
    c.extend_through-most.ensures.width ∙ ap length row ∙ old.square c.loop-i.i [] here in
    let by : c.span-by.result ≡ span c.args.rows.now.items c.loop-i.i c.args.level =
    c.span-by.ensures.value ∙ ap (λ r. get_or r c.args.level 0) row ∙ old.rest c.loop-i.i c.args.level (omega arith) in
    let value : (j : ℕ) → get_or c.extend_through-most.new.self j 0 ≡ through (span c.args.rows.now.items) c.args.level c.loop-i.i j = λ j.
    let at : get_or c.index_mut-row.result.now j 0 ≡ span c.args.rows.now.items c.loop-i.i j = ap (λ r. get_or r j 0) row ∙ old.rest c.loop-i.i j (omega arith) in
    let on : get_or c.args.next.now j 0 ≡ span c.args.rows.now.items c.args.level j = ap (λ r. get_or r j 0) c.requires.next in
    c.extend_through-most.ensures.value j ∙ ap (λ n. max n (chained c.span-by.result (get_or c.args.next.now j 0))) at
    ∙ ap (λ n. max (span c.args.rows.now.items c.loop-i.i j) (chained n (get_or c.args.next.now j 0))) by
    ∙ ap (λ n. max (span c.args.rows.now.items c.loop-i.i j) (chained (span c.args.rows.now.items c.loop-i.i c.args.level) n)) on in
    let same : (j : ℕ) → span (set c.loop-i.rows.items c.loop-i.i c.extend_through-most.new.self) c.loop-i.i j ≡ get_or c.extend_through-most.new.self j 0 =
    λ j. span-set_same c.loop-i.rows.items c.loop-i.i j c.extend_through-most.new.self here in
    let other : (k j : ℕ) → k ≢ c.loop-i.i → span (set c.loop-i.rows.items c.loop-i.i c.extend_through-most.new.self) k j ≡ span c.loop-i.rows.items k j =
    λ k j h. span-set_other c.loop-i.rows.items c.loop-i.i k j c.extend_through-most.new.self h in
    record {
      height = let e : length (set c.loop-i.rows.items c.loop-i.i c.extend_through-most.new.self) ≡ length c.loop-i.rows.items = grind (arith, common_steps) in e ∙ old.height;
      square = square-set c.loop-i.rows.items c.loop-i.i c.extend_through-most.new.self wide old.square;
      done = λ k j h.
          elim (cases_lt k c.loop-i.i) [
            | inl l ↦ other k j (omega arith) ∙ old.done k j l
            | inr l ↦
                let e : k ≡ c.loop-i.i = omega arith in
                subst (λ n. span (set c.loop-i.rows.items c.loop-i.i c.extend_through-most.new.self) n j ≡ through (span c.args.rows.now.items) c.args.level n j) (sym e) (same j ∙ value j)
          ];
      rest = λ k j h. other k j (omega arith) ∙ old.rest k j (omega arith);
      within = (
        λ t k j h.
            let before : (k j : ℕ) → k < c.loop-i.i → span c.loop-i.rows.items k j ≤ c.args.limit = old.within.0 (omega (arith, c.max-largest.ensures)) in
            let now : (j : ℕ) → get_or c.extend_through-most.new.self j 0 ≤ c.args.limit = c.extend_through-most.ensures.within.0 (omega (arith, c.max-largest.ensures)) in
            elim (cases_lt k c.loop-i.i) [
              | inl l ↦ omega (arith, other k j (omega arith), before k j l)
              | inr l ↦
                  let e : k ≡ c.loop-i.i = omega arith in
                  subst (λ n. span (set c.loop-i.rows.items c.loop-i.i c.extend_through-most.new.self) n j ≤ c.args.limit) (sym e) (omega (arith, same j, now j))
            ],
        λ all.
            let before = old.within.1 (λ k j l. omega (arith, other k j (omega arith), all k j (omega arith))) in
            let now = c.extend_through-most.ensures.within.1 (λ j. omega (arith, same j, all c.loop-i.i j (omega arith))) in
            omega (arith, c.max-largest.ensures),
      );
    }

pub returns-clause-value : goal.returns-clause-value
returns-clause-value c i j =
    elim (cases_lt i c.loop-i.i) [
      | inl h ↦ c.loop-i.invariant.done i j h
      | inr h ↦
          let past : length c.args.rows.now.items ≤ i = omega (arith, c.loop-i.invariant.height) in
          let row : get_or c.args.rows.now.items i [] ≡ [] = grind (arith, common_steps) in
          let none : (j : ℕ) → span c.args.rows.now.items i j ≡ 0 = λ j. ap (λ r. get_or r j 0) row in
          let goes : through (span c.args.rows.now.items) c.args.level i j ≡ 0 =
          ap (λ n. max n (chained (span c.args.rows.now.items i c.args.level) (span c.args.rows.now.items c.args.level j))) (none j)
          ∙ ap (λ n. max 0 (chained n (span c.args.rows.now.items c.args.level j))) (none c.args.level) in
          c.loop-i.invariant.rest i j h ∙ none j ∙ sym goes
    ]
