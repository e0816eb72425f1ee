-- Typed code is balanced: what closes a block isn't sought inside it.
use Rattle.std.proofs.Common.{◌≡◌, ℕ, suc, List, ◌∷◌, ◌++◌, Some, refl, ap, ◌∙◌, append_assoc}
use Rattle.wasm_core.specs.Parts.{Parts}
use Rattle.wasm_core.specs.declared.instrs.Instr.{Instr}
use Rattle.wasm_core.specs.declared.instrs.Instr.TheVariants.{Unreachable, Nop, Block, Loop, If, Else, End}
use Rattle.wasm_core.specs.MachineStep.{after_end, else_arm, bracket, Plain, past_end, to_else}
use Rattle.wasm_core.specs.ModuleTyping.{OperandTypes, Operands, Effect, Typed, done, plain, drop, unreachable, block, loop, one_arm, two_arms, br, br_if, br_table, return, tail_call, effect, tail_effect}

effect_plain : (m : Parts) (ls : OperandTypes) (i : Instr) (e : Effect) → effect m ls i ≡ Some e → bracket i ≡ Plain
effect_plain m ls Unreachable e h = refl
effect_plain m ls Nop e h = refl
effect_plain m ls (Block t) e h = cc
effect_plain m ls (Loop t) e h = cc
effect_plain m ls (If t) e h = cc
effect_plain m ls Else e h = cc
effect_plain m ls End e h = cc
effect_plain m ls _ e h = refl

tail_plain : (m : Parts) (i : Instr) (e : Effect) → tail_effect m i ≡ Some e → bracket i ≡ Plain
tail_plain m (Block t) e h = cc
tail_plain m (Loop t) e h = cc
tail_plain m (If t) e h = cc
tail_plain m Else e h = cc
tail_plain m End e h = cc
tail_plain m _ e h = refl

module _ (m : Parts) (ls rs : OperandTypes) where
  pub skips : {labels : List OperandTypes} {ts us : Operands} {code : List Instr} → Typed m ls rs labels ts code us → (d : ℕ) (x : List Instr) → after_end d (code ++ x) ≡ after_end d x
  skips done d x = refl
  skips (plain os ts {i = i} {rest = rest} e k t) d x = ap (λ c. past_end c d (λ f. after_end f (rest ++ x)) (rest ++ x)) (effect_plain m ls i _ e) ∙ skips t d x
  skips (drop t) d x = skips t d x
  skips (unreachable t) d x = skips t d x
  skips (block {body = body} {rest = rest} b k t) d x = ap (after_end (suc d)) (append_assoc body (End ∷ rest) x) ∙ skips b (suc d) (End ∷ (rest ++ x)) ∙ skips t d x
  skips (loop {body = body} {rest = rest} b k t) d x = ap (after_end (suc d)) (append_assoc body (End ∷ rest) x) ∙ skips b (suc d) (End ∷ (rest ++ x)) ∙ skips t d x
  skips (one_arm {body = body} {rest = rest} k b t) d x = ap (after_end (suc d)) (append_assoc body (End ∷ rest) x) ∙ skips b (suc d) (End ∷ (rest ++ x)) ∙ skips t d x
  skips (two_arms {first = first} {second = second} {rest = rest} k a ka b kb t) d x =
      ap (after_end (suc d)) (append_assoc first (Else ∷ (second ++ End ∷ rest)) x)
      ∙ skips a (suc d) (Else ∷ ((second ++ End ∷ rest) ++ x))
      ∙ ap (after_end (suc d)) (append_assoc second (End ∷ rest) x)
      ∙ skips b (suc d) (End ∷ (rest ++ x)) ∙ skips t d x
  skips (br os ts e t) d x = skips t d x
  skips (br_if os ts k e t) d x = skips t d x
  skips (br_table os ts k es e t) d x = skips t d x
  skips (return os ts k t) d x = skips t d x
  skips (tail_call os ts {i = i} {rest = rest} e k t) d x = ap (λ c. past_end c d (λ f. after_end f (rest ++ x)) (rest ++ x)) (tail_plain m i _ e) ∙ skips t d x

  pub skips_else : {labels : List OperandTypes} {ts us : Operands} {code : List Instr} → Typed m ls rs labels ts code us → (d : ℕ) (x : List Instr) → else_arm d (code ++ x) ≡ else_arm d x
  skips_else done d x = refl
  skips_else (plain os ts {i = i} {rest = rest} e k t) d x = ap (λ c. to_else c d (λ f. else_arm f (rest ++ x)) i (rest ++ x)) (effect_plain m ls i _ e) ∙ skips_else t d x
  skips_else (drop t) d x = skips_else t d x
  skips_else (unreachable t) d x = skips_else t d x
  skips_else (block {body = body} {rest = rest} b k t) d x = ap (else_arm (suc d)) (append_assoc body (End ∷ rest) x) ∙ skips_else b (suc d) (End ∷ (rest ++ x)) ∙ skips_else t d x
  skips_else (loop {body = body} {rest = rest} b k t) d x = ap (else_arm (suc d)) (append_assoc body (End ∷ rest) x) ∙ skips_else b (suc d) (End ∷ (rest ++ x)) ∙ skips_else t d x
  skips_else (one_arm {body = body} {rest = rest} k b t) d x = ap (else_arm (suc d)) (append_assoc body (End ∷ rest) x) ∙ skips_else b (suc d) (End ∷ (rest ++ x)) ∙ skips_else t d x
  skips_else (two_arms {first = first} {second = second} {rest = rest} k a ka b kb t) d x =
      ap (else_arm (suc d)) (append_assoc first (Else ∷ (second ++ End ∷ rest)) x)
      ∙ skips_else a (suc d) (Else ∷ ((second ++ End ∷ rest) ++ x))
      ∙ ap (else_arm (suc d)) (append_assoc second (End ∷ rest) x)
      ∙ skips_else b (suc d) (End ∷ (rest ++ x)) ∙ skips_else t d x
  skips_else (br os ts e t) d x = skips_else t d x
  skips_else (br_if os ts k e t) d x = skips_else t d x
  skips_else (br_table os ts k es e t) d x = skips_else t d x
  skips_else (return os ts k t) d x = skips_else t d x
  skips_else (tail_call os ts {i = i} {rest = rest} e k t) d x = ap (λ c. to_else c d (λ f. else_arm f (rest ++ x)) i (rest ++ x)) (tail_plain m i _ e) ∙ skips_else t d x
