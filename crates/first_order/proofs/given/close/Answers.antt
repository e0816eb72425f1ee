use Rattle.std.proofs.Common.{Err, sym, subst, slice_range}
use Rattle.sexp_reader.specs.Stream.{source}
use Rattle.first_order.specs.Awaited.{AwaitsClose}
use Rattle.first_order.specs.Nexts.{PassesFirst}
use Rattle.first_order.proofs.ArgumentTokens.{passed, not_taken}
use Rattle.first_order.proofs.given.close.Goals as goal

pub returns-in-Ok : goal.returns-in-Ok
returns-in-Ok c =
    let old = c.args.tokens.now in
    let t = c.in_ok-token.token in
    record { passes = λ names. passed names t old c.some_token.new.tokens (AwaitsClose c.args.turn) c.in_ok-token.ensures.gets (c.in-Ok.ensures.is names (slice_range (source old) t.start t.end)) }

pub returns-in-Err : goal.returns-in-Err
returns-in-Err c =
    let old = c.args.tokens.now in
    let t = c.in_ok-token.token in
    record {
      passes = λ names. subst (λ f. PassesFirst names (Err f) old c.some_token.new.tokens (AwaitsClose c.args.turn) (λ x r. r)) (sym c.fault_at.ensures.is)
          (not_taken names t old c.some_token.new.tokens (AwaitsClose c.args.turn) c.in-Err.unfit (λ x r. r) c.in_ok-token.ensures.gets (c.in-Err.ensures.is names (slice_range (source old) t.start t.end)));
    }
