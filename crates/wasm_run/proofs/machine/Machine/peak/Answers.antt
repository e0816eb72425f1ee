use Rattle.wasm_run.proofs.machine.Machine.peak.Goals as goal

pub returns : goal.returns
returns c =
    record {
      is = rw (← c.self.view_is) (λ sound.
          let r = c.self.invariant.reached sound in
          record { store = r.store; own = r.own; ready = r.ready; first = r.first; starts = r.starts; steps = r.steps; counted = r.counted; run = r.moves; most = r.most });
    }
