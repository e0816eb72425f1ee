use Rattle.std.proofs.Common.{arith, ◌≡◌, ◌+◌, ◌<◌, ◌≤◌, ℕ, Bool, sym, ap, ◌∙◌, subst}
use Rattle.trees.specs.Tree.{Rel}
use Rattle.trees.specs.Parallel.{put_all}
use Rattle.trees.specs.Measures.{depth, IsWithin}
use Rattle.shrink_passes.specs.DropParams.{leading}
use Rattle.shrink_passes.specs.DeadPlaces.{flag_at}
use Rattle.shrink_passes.specs.Pruned.{wrapped, unwrapped}
use Rattle.shrink_passes.proofs.Flagging.{if_ok_map}
use Rattle.shrink_passes.proofs.Unwrapped.{end_leads, leading_depth, list_wrapped, unwrapped_within}
use Rattle.shrink_passes.proofs.unwrapping.without_places.Goals as goal

pub new_variables-requires : goal.new_variables-requires
new_variables-requires c =
    let D : ℕ → Bool = λ q. flag_at q c.args.dead.now in
    let l = end_leads D c.end-n.result c.args.t.now c.end-n.ensures.last c.requires.leads in
    let within = c.depth-within.ensures.within.0 in
    record { small = omega (arith, l, leading_depth c.args.t.now, within) }

pub unwrap-requires-clause-small : goal.unwrap-requires-clause-small
unwrap-requires-clause-small c =
    let D : ℕ → Bool = λ q. flag_at q c.args.dead.now in
    let l = end_leads D c.end-n.result c.args.t.now c.end-n.ensures.last c.requires.leads in
    let within = c.depth-within.ensures.within.0 in
    omega (arith, l, leading_depth c.args.t.now, within)

pub unwrap-requires-clause-within : goal.unwrap-requires-clause-within
unwrap-requires-clause-within c =
    let D : ℕ → Bool = λ q. flag_at q c.args.dead.now in
    let l = end_leads D c.end-n.result c.args.t.now c.end-n.ensures.last c.requires.leads in
    subst IsWithin (sym (list_wrapped D c.end-n.result c.args.t.now l c.end-n.ensures.past c.requires.closed c.in_ok-list.list c.in_ok-list.ensures.is)) (unwrapped_within D c.args.t.now c.depth-within.ensures.within)

pub returns-clause-ok : goal.returns-clause-ok
returns-clause-ok c =
    let D : ℕ → Bool = λ q. flag_at q c.args.dead.now in
    let l = end_leads D c.end-n.result c.args.t.now c.end-n.ensures.last c.requires.leads in
    if_ok_map c.unwrap.result (λ u h. h ∙ list_wrapped D c.end-n.result c.args.t.now l c.end-n.ensures.past c.requires.closed c.in_ok-list.list c.in_ok-list.ensures.is) c.unwrap.ensures.ok
