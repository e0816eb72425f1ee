use Rattle.std.proofs.Common.{refl}
use Rattle.env_making.proofs.Whole.{makes_certified}
use Rattle.env_making.proofs.Certifying.{follows_directed, certified_well, certified_taken}
use Rattle.env_making.proofs.make.make_cert.Goals as goal

pub returns-clause-makes : goal.returns-clause-makes
returns-clause-makes g c =
    let e = c.make_env-answer in
    makes_certified c.args.raw.now _ e.new.draft c.args.m.now _ refl refl c.new.ensures.items refl e.result c.certified.result e.ensures.makes c.certified.ensures.is

pub returns-clause-follows : goal.returns-clause-follows
returns-clause-follows g c =
    let e = c.make_env-answer in
    let made = makes_certified c.args.raw.now _ e.new.draft c.args.m.now _ refl refl c.new.ensures.items refl e.result c.certified.result e.ensures.makes c.certified.ensures.is in
    follows_directed c.args.raw.now c.requires.spelled _ c.args.m.now _ made

pub returns-clause-well_formed : goal.returns-clause-well_formed
returns-clause-well_formed g c =
    let e = c.make_env-answer in
    let made = makes_certified c.args.raw.now _ e.new.draft c.args.m.now e.new.draft.meter refl refl c.new.ensures.items refl e.result c.certified.result e.ensures.makes c.certified.ensures.is in
    certified_well c.args.raw.now c.requires.spelled _ c.args.m.now e.new.draft.meter made

pub returns-clause-accepted : goal.returns-clause-accepted
returns-clause-accepted g c =
    let e = c.make_env-answer in
    let made = makes_certified c.args.raw.now _ e.new.draft c.args.m.now e.new.draft.meter refl refl c.new.ensures.items refl e.result c.certified.result e.ensures.makes c.certified.ensures.is in
    certified_taken c.args.raw.now c.requires.spelled _ c.args.m.now e.new.draft.meter made
