-- Words that stand for values.
use Rattle.std.proofs.Common.{◌≡◌, ℕ, suc, ◌+◌, ◌*◌, ◌<◌, ◌≤◌, refl, ap}
use Rattle.wasm_emit.proofs.Source.{Val, VBox, VCon, VClos, Vals, VNil, VCons, size, ◌+v◌}
use Rattle.wasm_core.specs.Memory.{word}
use Rattle.wasm_core.specs.WordData.{IsBelow}
use Rattle.wasm_emit.proofs.Bytes.{Mem}

mutual
  -- in the memory below the limit the word stands for the value; a field that is an address is below its own block's
  pub data Stands (m : Mem) : ℕ → ℕ → Val → Type 0 where
    s_box : {limit w : ℕ} → w ≡ 0 → Stands m limit w VBox
    s_empty : {limit w c : ℕ} → c < 65536 → w ≡ 2 * c + 1 → Stands m limit w (VCon c VNil)
    s_con : {limit w c : ℕ} {vs : Vals} (q : ℕ) → c < 65536 → w ≡ 4 * q → 0 < w → 0 < size vs → w + 4 * suc (size vs) ≤ limit → word m w ≡ size vs * 65536 + c → Fields m limit w vs → Stands m limit w (VCon c vs)
    s_clos : {limit w g : ℕ} {vs : Vals} (q : ℕ) → g < 32768 → w ≡ 4 * q → 0 < w → w + 4 * suc (size vs) ≤ limit → word m w ≡ suc g → Fields m limit w vs → Stands m limit w (VClos g vs)

  -- the last field first
  pub data Fields (m : Mem) : ℕ → ℕ → Vals → Type 0 where
    no_field : {limit w : ℕ} → Fields m limit w VNil
    field : {limit w : ℕ} {v : Val} {vs : Vals} → Stands m limit (word m (w + 4 * suc (size vs))) v → IsBelow w (word m (w + 4 * suc (size vs))) → Fields m limit w vs → Fields m limit w (VCons v vs)

-- the words at an address stand for these values, the last one first
pub data ArgsAt (m : Mem) (limit a : ℕ) : Vals → Type 0 where
  args_none : ArgsAt m limit a VNil
  args_more : {v : Val} {vs : Vals} → Stands m limit (word m (a + 4 * size vs)) v → a + 4 * suc (size vs) ≤ limit → ArgsAt m limit a vs → ArgsAt m limit a (VCons v vs)

-- what the word of a closure says
pub record Closure (m : Mem) (h w g : ℕ) (vs : Vals) : Type 0 where
  pub within : w + 4 * suc (size vs) ≤ h
  pub head : word m w ≡ suc g
  pub fields : Fields m h w vs

pub closure : {m : Mem} {h w g : ℕ} {vs : Vals} → Stands m h w (VClos g vs) → Closure m h w g vs
closure (s_clos q lt e pos within head fs) = record { within = within; head = head; fields = fs }

pub box_word : {m : Mem} {h w : ℕ} → Stands m h w VBox → w ≡ 0
box_word (s_box e) = e

-- the word of the last argument
pub top_arg : {m : Mem} {l a : ℕ} {v : Val} {vs : Vals} → ArgsAt m l a (VCons v vs) → Stands m l (word m (a + 4 * size vs)) v
top_arg (args_more h within args) = h

pub append_nil : (vs : Vals) → vs +v VNil ≡ vs
append_nil VNil = refl
append_nil (VCons v vs) = ap (VCons v) (append_nil vs)
