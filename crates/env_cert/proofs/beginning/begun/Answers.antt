use Rattle.env_cert.proofs.Halted.{first_told, first_refused}
use Rattle.env_cert.proofs.Begun.{halts_first}
use Rattle.env_cert.proofs.beginning.begun.Goals as goal

pub returns : goal.returns
returns c =
    let raw = c.args.raw.now in
    let i = c.args.at in
    let r = c.bare_env.result in
    rw c.at_first.ensures.is (record {
      bare = first_told _ i r c.bare_env.ensures.bare;
      sound = first_told _ i r c.bare_env.ensures.sound;
      refused = first_refused _ _ i r c.bare_env.ensures.refused (halts_first raw i);
    })
