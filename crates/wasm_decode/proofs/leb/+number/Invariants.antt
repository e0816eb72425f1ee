use Rattle.wasm_decode.proofs.leb.+number.Given as goal

abbrev pub decreases-number : goal.decreases-number
decreases-number l = l.bits
