use Rattle.box_passes.proofs.PassResults.{prop_matched}
use Rattle.box_passes.proofs.prop_matches.prop_match.Goals as goal

pub returns-clause-is : goal.returns-clause-is
returns-clause-is c = (prop_matched c.args.p.now _ _ _ c.in_ok-constants.ensures.ok c.in-Ok.ensures.ok c.in_ok-main.ensures.ok).is

pub returns-clause-form : goal.returns-clause-form
returns-clause-form c = (prop_matched c.args.p.now _ _ _ c.in_ok-constants.ensures.ok c.in-Ok.ensures.ok c.in_ok-main.ensures.ok).form

pub returns-clause-data_kept : goal.returns-clause-data_kept
returns-clause-data_kept c = (prop_matched c.args.p.now _ _ _ c.in_ok-constants.ensures.ok c.in-Ok.ensures.ok c.in_ok-main.ensures.ok).data_kept

pub returns-clause-nodes_kept : goal.returns-clause-nodes_kept
returns-clause-nodes_kept c = (prop_matched c.args.p.now _ _ _ c.in_ok-constants.ensures.ok c.in-Ok.ensures.ok c.in_ok-main.ensures.ok).nodes_kept

pub returns-clause-no_deeper : goal.returns-clause-no_deeper
returns-clause-no_deeper c = (prop_matched c.args.p.now _ _ _ c.in_ok-constants.ensures.ok c.in-Ok.ensures.ok c.in_ok-main.ensures.ok).no_deeper

pub returns-clause-words_kept : goal.returns-clause-words_kept
returns-clause-words_kept c = (prop_matched c.args.p.now _ _ _ c.in_ok-constants.ensures.ok c.in-Ok.ensures.ok c.in_ok-main.ensures.ok).words_kept
