use Rattle.conversion.proofs.Listing.{matches_alike}
use Rattle.conversion.proofs.spine_heads.alike.Goals as goal

pub returns-in-Case-Case : goal.returns-in-Case-Case
returns-in-Case-Case c =
    let ea = rw c.in-Case-Case.is-0 at c.view.ensures.is in
    let eb = rw c.in-Case-Case.is-1 at c.view-2.ensures.is in
    record { is = matches_alike _ _ _ _ _ ea eb (rw (c.get.ensures.is, c.get-in-Case-Case.ensures.is) at c.same_counts.ensures.is) }
