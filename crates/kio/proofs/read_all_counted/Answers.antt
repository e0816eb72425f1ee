use Rattle.std.proofs.Common.{arith, rules, ◌≡◌, ℕ, ◌≤◌, ◌<◌, List, length, take, ◌++◌, length-append, sym, ◌∙◌}
use Rattle.std.proofs.lemmas.List.{length-take-le}
use Rattle.std.proofs.lemmas.Result.{err_from_is_err_and}
use Rattle.kio.proofs.Bytes.{consumes-more}
use Rattle.kio.proofs.Given.{later_none, since_none, since_more, later_same, later_more, short_same, length_more, whole_given}
use Rattle.kio.proofs.read_all_counted.Goals as goal

pub returns-then-n-limit-clause-rest : goal.returns-then-n-limit-clause-rest
returns-then-n-limit-clause-rest g c =
    let buf : List ℕ = c.read_once.new.buf in
    let within : c.in-Ok.n ≤ length buf = c.in-Ok.ensures.bound.0 in
    let size : length (take c.in-Ok.n buf) ≡ c.in-Ok.n = length-take-le c.in-Ok.n buf within in
    (c.loop-out.out.items ++ take c.in-Ok.n buf, consumes-more _ _ _ _ _ c.loop-out.invariant.come c.in-Ok.ensures.bytes.0, omega (arith, length-append c.loop-out.out.items (take c.in-Ok.n buf), size))

pub returns-in_err-extend_from_slice-in-Ok-clause-rest :
    goal.returns-in_err-extend_from_slice-in-Ok-clause-rest
returns-in_err-extend_from_slice-in-Ok-clause-rest g c =
    let p = err_from_is_err_and c.from_residual.result c.from_residual.ensures.1 in
    let buf : List ℕ = c.read_once.new.buf in
    let within : c.in-Ok.n ≤ length buf = c.in-Ok.ensures.bound.0 in
    let size : length (take c.in-Ok.n buf) ≡ c.in-Ok.n = length-take-le c.in-Ok.n buf within in
    rw (p.1, p.2) (c.loop-out.out.items ++ take c.in-Ok.n buf, consumes-more _ _ _ _ _ c.loop-out.invariant.come c.in-Ok.ensures.bytes.0, omega (arith, length-append c.loop-out.out.items (take c.in-Ok.n buf), size))

pub returns-in-Err-clause-grows : goal.returns-in-Err-clause-grows
returns-in-Err-clause-grows g c = later_same _ _ _ c.loop-out.invariant.grows c.in-Err.ensures.history

pub returns-in-Err-clause-history : goal.returns-in-Err-clause-history
returns-in-Err-clause-history g c = short_same _ _ _ _ _ c.loop-out.invariant.given c.loop-out.invariant.within c.in-Err.ensures.history

pub returns-in-Ok-eq0-clause-grows : goal.returns-in-Ok-eq0-clause-grows
returns-in-Ok-eq0-clause-grows g c =
    let room : 0 < length c.read_once.new.buf = search rules in
    later_more _ _ _ _ c.loop-out.invariant.grows (c.in-Ok-eq0.ensures.history.0 room)

pub returns-in-Ok-eq0-clause-history : goal.returns-in-Ok-eq0-clause-history
returns-in-Ok-eq0-clause-history g c =
    let room : 0 < length c.read_once.new.buf = search rules in
    let none : c.in-Ok-eq0.field-0 ≡ 0 = search rules in
    whole_given _ _ _ c.read_once.new.buf _ c.in-Ok-eq0.field-0 _ c.loop-out.invariant.grows c.loop-out.invariant.given c.loop-out.invariant.within none (c.in-Ok-eq0.ensures.history.0 room)

pub returns-then-n-limit-clause-grows : goal.returns-then-n-limit-clause-grows
returns-then-n-limit-clause-grows g c =
    let room : 0 < length c.read_once.new.buf = search rules in
    later_more _ _ _ _ c.loop-out.invariant.grows (c.in-Ok.ensures.history.0 room)

pub returns-then-n-limit-clause-history : goal.returns-then-n-limit-clause-history
returns-then-n-limit-clause-history g c =
    let room : 0 < length c.read_once.new.buf = search rules in
    let size = length_more _ _ _ c.read_once.new.buf c.loop-out.out.items c.in-Ok.n c.loop-out.invariant.grows c.loop-out.invariant.given c.in-Ok.ensures.bound.0 (c.in-Ok.ensures.history.0 room) in
    omega (arith, size)

pub returns-in_err-extend_from_slice-in-Ok-clause-grows :
    goal.returns-in_err-extend_from_slice-in-Ok-clause-grows
returns-in_err-extend_from_slice-in-Ok-clause-grows g c =
    let room : 0 < length c.read_once.new.buf = search rules in
    later_more _ _ _ _ c.loop-out.invariant.grows (c.in-Ok.ensures.history.0 room)

pub returns-in_err-extend_from_slice-in-Ok-clause-history :
    goal.returns-in_err-extend_from_slice-in-Ok-clause-history
returns-in_err-extend_from_slice-in-Ok-clause-history g c =
    let room : 0 < length c.read_once.new.buf = search rules in
    let p = err_from_is_err_and c.from_residual.result c.from_residual.ensures.1 in
    let size = length_more _ _ _ c.read_once.new.buf c.loop-out.out.items c.in-Ok.n c.loop-out.invariant.grows c.loop-out.invariant.given c.in-Ok.ensures.bound.0 (c.in-Ok.ensures.history.0 room) in
    rw (p.1, p.2) (omega (arith, size))

pub loop-out-init : goal.loop-out-init
loop-out-init g c = record {
  within = search rules;
  room = search rules;
  come = search rules;
  tells = search rules;
  grows = later_none _;
  given = c.new-out.ensures.items ∙ sym (since_none _);
  later = search rules;
  cost = search rules;
}

pub loop-out-preserved : goal.loop-out-preserved
loop-out-preserved g c =
    let room : 0 < length c.read_once.new.buf = search rules in
    let joined : c.extend_from_slice.new.self.items ≡ c.loop-out.out.items ++ take c.in-Ok.n c.read_once.new.buf = search rules in
    record {
      within = search rules;
      room = search rules;
      come = rw joined (consumes-more _ _ _ _ _ c.loop-out.invariant.come c.in-Ok.ensures.bytes.0);
      tells = search rules;
      grows = later_more _ _ _ _ c.loop-out.invariant.grows (c.in-Ok.ensures.history.0 room);
      given = joined ∙ sym (since_more _ _ _ _ _ c.loop-out.invariant.grows c.loop-out.invariant.given (c.in-Ok.ensures.history.0 room));
      later = search rules;
      cost = search rules;
    }
