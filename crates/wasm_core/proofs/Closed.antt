-- Typed bodies are closed, and the numbers of a valid module are within their types.
use Rattle.std.proofs.Common.{◌≡◌, ℕ, zero, suc, List, [], ◌∷◌, ◌++◌, Some, Bool, true, false, refl, sym, subst, append_assoc}
use Rattle.std.specs.Prelude.{slice_get}
use Rattle.wasm_core.specs.declared.types.GlobalDef.{GlobalDef}
use Rattle.wasm_core.specs.declared.types.ConstValue.{ConstValue}
use Rattle.wasm_core.specs.declared.types.ConstValue.TheVariants.{I32, I64}
use Rattle.wasm_core.specs.declared.instrs.Body.{Body}
use Rattle.wasm_core.specs.declared.instrs.Instr.{Instr}
use Rattle.wasm_core.specs.declared.instrs.Instr.TheVariants as instr
use Rattle.wasm_core.specs.Parts.{Parts}
use Rattle.wasm_core.specs.ModuleTyping.{OperandTypes, Operands, Effect, Typed, done, plain, drop, unreachable, block, loop, one_arm, two_arms, br, br_if, br_table, return, tail_call, effect, tail_effect, Memories}
use Rattle.wasm_core.specs.ModuleCondition.{All, IsInstr, IsGlobal, IsConstValue, MayCome, opens_after, IsClosed, IsBody}
use Rattle.wasm_core.specs.Words.{HasWord, IsWord}
use Rattle.wasm_core.specs.Laws.{TypedIsClosed, ModulesHaveWords}
use Rattle.wasm_core.proofs.Small.{no}

-- an instruction with an effect opens and closes nothing
plain_opens : (m : Parts) (ls : OperandTypes) (i : Instr) (e : Effect) → effect m ls i ≡ Some e → (o : Bool) (os : List Bool) → (opens_after i (o ∷ os) ≡ o ∷ os) × MayCome o i
plain_opens m ls (instr.Block t) e h o os = no h
plain_opens m ls (instr.Loop t) e h o os = no h
plain_opens m ls (instr.If t) e h o os = no h
plain_opens m ls instr.Else e h o os = no h
plain_opens m ls instr.End e h o os = no h
plain_opens m ls _ e h o os = (refl, tt)

-- nor does a tail call
tail_opens : (m : Parts) (i : Instr) (e : Effect) → tail_effect m i ≡ Some e → (o : Bool) (os : List Bool) → (opens_after i (o ∷ os) ≡ o ∷ os) × MayCome o i
tail_opens m (instr.Block t) e h o os = no h
tail_opens m (instr.Loop t) e h o os = no h
tail_opens m (instr.If t) e h o os = no h
tail_opens m instr.Else e h o os = no h
tail_opens m instr.End e h o os = no h
tail_opens m _ e h o os = (refl, tt)

all_front : {A : Type 0} (P : A → Type 0) (xs ys : List A) → All P (xs ++ ys) → All P xs
all_front P [] ys a = tt
all_front P (x ∷ xs) ys (p, a) = (p, all_front P xs ys a)

all_back : {A : Type 0} (P : A → Type 0) (xs ys : List A) → All P (xs ++ ys) → All P ys
all_back P [] ys a = a
all_back P (x ∷ xs) ys (p, a) = all_back P xs ys a

module _ (m : Parts) (ls rs : OperandTypes) where
  closes : {labels : List OperandTypes} {ts us : Operands} {code : List Instr} → Typed m ls rs labels ts code us → All IsInstr code → (o : Bool) (os : List Bool) (x : List Instr) → IsClosed (o ∷ os) x → IsClosed (o ∷ os) (code ++ x)
  closes done a o os x c = c
  closes (plain ps ts {i = i} {rest = rest} e k t) (p, a) o os x c =
      let (same, may) = plain_opens m ls i _ e o os in (may, p, subst (λ l. IsClosed l (rest ++ x)) (sym same) (closes t a o os x c))
  closes (drop t) (p, a) o os x c = (tt, p, closes t a o os x c)
  closes (unreachable t) (p, a) o os x c = (tt, p, closes t a o os x c)
  closes (block {body = body} {rest = rest} b k t) (p, a) o os x c =
      let inside = all_front IsInstr body (instr.End ∷ rest) a in
      let after = all_back IsInstr body (instr.End ∷ rest) a in
      (tt, p, subst (IsClosed (false ∷ o ∷ os)) (sym (append_assoc body (instr.End ∷ rest) x)) (closes b inside false (o ∷ os) (instr.End ∷ (rest ++ x)) (tt, tt, closes t after.1 o os x c)))
  closes (loop {body = body} {rest = rest} b k t) (p, a) o os x c =
      let inside = all_front IsInstr body (instr.End ∷ rest) a in
      let after = all_back IsInstr body (instr.End ∷ rest) a in
      (tt, p, subst (IsClosed (false ∷ o ∷ os)) (sym (append_assoc body (instr.End ∷ rest) x)) (closes b inside false (o ∷ os) (instr.End ∷ (rest ++ x)) (tt, tt, closes t after.1 o os x c)))
  closes (one_arm {body = body} {rest = rest} k b t) (p, a) o os x c =
      let inside = all_front IsInstr body (instr.End ∷ rest) a in
      let after = all_back IsInstr body (instr.End ∷ rest) a in
      (tt, p, subst (IsClosed (true ∷ o ∷ os)) (sym (append_assoc body (instr.End ∷ rest) x)) (closes b inside true (o ∷ os) (instr.End ∷ (rest ++ x)) (tt, tt, closes t after.1 o os x c)))
  closes (two_arms {first = first} {second = second} {rest = rest} k f kf s ks t) (p, a) o os x c =
      let one = all_front IsInstr first (instr.Else ∷ (second ++ instr.End ∷ rest)) a in
      let others = all_back IsInstr first (instr.Else ∷ (second ++ instr.End ∷ rest)) a in
      let two = all_front IsInstr second (instr.End ∷ rest) others.1 in
      let after = all_back IsInstr second (instr.End ∷ rest) others.1 in
      let arm = subst (IsClosed (false ∷ o ∷ os)) (sym (append_assoc second (instr.End ∷ rest) x)) (closes s two false (o ∷ os) (instr.End ∷ (rest ++ x)) (tt, tt, closes t after.1 o os x c)) in
      (tt, p, subst (IsClosed (true ∷ o ∷ os)) (sym (append_assoc first (instr.Else ∷ (second ++ instr.End ∷ rest)) x)) (closes f one true (o ∷ os) (instr.Else ∷ ((second ++ instr.End ∷ rest) ++ x)) (refl, tt, arm)))
  closes (br ps ts r t) (p, a) o os x c = (tt, p, closes t a o os x c)
  closes (br_if ps ts k r t) (p, a) o os x c = (tt, p, closes t a o os x c)
  closes (br_table ps ts k rl r t) (p, a) o os x c = (tt, p, closes t a o os x c)
  closes (return ps ts k t) (p, a) o os x c = (tt, p, closes t a o os x c)
  closes (tail_call ps ts {i = i} {rest = rest} e k t) (p, a) o os x c =
      let (same, may) = tail_opens m i _ e o os in (may, p, subst (λ l. IsClosed l (rest ++ x)) (sym same) (closes t a o os x c))

pub typed_is_closed : TypedIsClosed
typed_is_closed m ls rs code t a =
    let inside = all_front IsInstr t.body (instr.End ∷ []) (subst (All IsInstr) t.ends a) in
    subst (IsClosed (false ∷ [])) (sym t.ends) (closes m ls rs t.typed inside false [] (instr.End ∷ []) (tt, tt, tt))

word_of : (i : Instr) → IsInstr i → HasWord i
word_of (instr.I32Const n) p = p
word_of (instr.I64Const n) p = p
word_of _ p = tt

closed_words : (os : List Bool) (code : List Instr) → IsClosed os code → All HasWord code
closed_words [] [] c = tt
closed_words [] (i ∷ is) c = absurd c
closed_words (o ∷ os) [] c = absurd c
closed_words (o ∷ os) (i ∷ is) (q, p, c) = (word_of i p, closed_words (opens_after i (o ∷ os)) is c)

at_place : {A : Type 0} (P : A → Type 0) (xs : List A) (i : ℕ) (x : A) → All P xs → slice_get xs i ≡ Some x → P x
at_place P [] i x a e = no e
at_place P (y ∷ ys) zero x (p, a) e = let q : y ≡ x = cc in subst P q p
at_place P (y ∷ ys) (suc i) x (p, a) e = at_place P ys i x a e

global_words : (gs : List GlobalDef) → All IsGlobal gs → All (λ g. IsWord g.init) gs
global_words [] a = tt
global_words (g ∷ gs) (p, a) = (value_word g.init p, global_words gs a)
  where
    value_word : (v : ConstValue) → IsConstValue v → IsWord v
    value_word (I32 n) p = p
    value_word (I64 n) p = p

pub modules_have_words : ModulesHaveWords
modules_have_words m i valid = record {
  bodies = λ f b e. closed_words (false ∷ []) b.code (at_place (λ (b : Body). IsClosed (false ∷ []) b.code) m.bodies f b (closed m.bodies i.bodies.1) e);
  globals = global_words m.globals i.globals.1;
  memory = valid.outside Memories;
}
  where
    closed : (bs : List Body) → All IsBody bs → All (λ (b : Body). IsClosed (false ∷ []) b.code) bs
    closed [] a = tt
    closed (b ∷ bs) (p, a) = (p.1, closed bs a)
