-- Atoms, and blocks of memory.
use Rattle.std.proofs.Common.{◌≡◌, ℕ, suc, ◌+◌, ◌*◌, ◌<◌, ◌≤◌, List, [], ◌∷◌, ◌++◌, length, Option, Some, refl, ap, sym, ◌∙◌, subst, inl, inr, arith}
use Rattle.std.proofs.lemmas.Option.{slice_get-get_or}
use Rattle.std.specs.Prelude.{slice_get, slice_set}
use Rattle.anf_convert.specs.AnfForm.{fields}
use Rattle.wasm_core.specs.Memory.{byte, word, put_word}
use Rattle.wasm_core.specs.WordData.{IsBelow}
use Rattle.wasm_core.specs.declared.types.ConstValue.{ConstValue}
use Rattle.wasm_core.specs.declared.types.ConstValue.TheVariants.{I32}
use Rattle.wasm_core.specs.declared.instrs.Instr.{Instr}
use Rattle.wasm_core.specs.Parts.{Parts}
use Rattle.wasm_core.specs.Instance.{greatest_pages}
use Rattle.wasm_core.specs.MachineStep.{State}
use Rattle.wasm_core.proofs.Rules.{Around}
use Rattle.wasm_emit.proofs.Source.{Atom, Val, Vals, VNil, VCons, size, AllAre, are_none, are_more, all_size}
use Rattle.wasm_emit.proofs.Bytes.{Mem, word_same, word_put, word_put_at, put_other, put_length}
use Rattle.wasm_emit.proofs.Values.{Stands, Fields, no_field, field}
use Rattle.wasm_emit.proofs.Holds.{address_below, fields_up, Same, Keeps, keeps_same, keeps_set, set_this, stands_on, stands_small}
use Rattle.wasm_emit.proofs.Rules.{Limits, Within, here, looser, r_const, r_get, r_tee, r_heap, r_set_heap, r_add, r_load, r_store}
use Rattle.wasm_emit.proofs.Alloc.{Room, HasRunTime, allocated}
use Rattle.known_calls.specs.KnownPlaces.{Word, Place, Known, Never, names, some_names}
use Rattle.known_calls.specs.KnownCode.{read_word, read, atom, push_words, fill, new_block, block}
use Rattle.known_calls.proofs.KnownHolds.{Reads, in_local, in_field, is_const, Words, no_word, more_words, Env, env_on}
use Rattle.known_calls.proofs.Finding.{There, there}
use Rattle.known_calls.proofs.Unreading.{neither}

-- words that stand for values, the last one first
pub data WordsStand (m : Mem) (limit : ℕ) : List ℕ → Vals → Type 0 where
  stand_none : WordsStand m limit [] VNil
  stand_more : {w : ℕ} {ws : List ℕ} {v : Val} {vs : Vals} → Stands m limit w v → WordsStand m limit ws vs → WordsStand m limit (w ∷ ws) (VCons v vs)

abbrev pub words : List ℕ → List ConstValue
words [] = []
words (w ∷ ws) = I32 w ∷ words ws

pub stand_size : {m : Mem} {limit : ℕ} {ws : List ℕ} {vs : Vals} → WordsStand m limit ws vs → length (words ws) ≡ size vs
stand_size stand_none = refl
stand_size (stand_more s h) = ap suc (stand_size h)

-- no known closure is among these atoms
abbrev pub NoneNamed : List Place → List Atom → Type 0
NoneNamed ps as' = (i g : ℕ) (ws : List Word) → slice_get ps i ≡ Some (Known g ws) → some_names i as' ≡ Never

module _ (M : Parts) (fixed : HasRunTime M) (cap : Limits) (Q : State → Type 0) where
  module _ {f : Around} {m : Mem} {p h : ℕ} {ls vals : List ConstValue} {rest : List Instr} {l u : ℕ} where
    read_it : {limit d w : ℕ} {pl : Word} → length f.callers ≤ cap.frames → limit ≤ length m → Reads m limit ls d pl w → Within M cap Q l u (here cap f m p h ls (I32 w ∷ vals) rest) → Within M cap Q l (2 + u) (here cap f m p h ls vals (read_word pl rest))
    read_it deep fits (in_local lt e) k = looser M cap Q (r_get M cap Q (omega arith) e k) (omega arith) (omega arith)
    read_it deep fits (in_field {o = o} a lt e within is) k = looser M cap Q (r_get M cap Q (omega arith) e (r_load M cap Q (omega arith) (omega arith) (subst (λ x. Within M cap Q l u (here cap f m p h ls (I32 x ∷ vals) rest)) (sym is) k))) (omega arith) (omega arith)
    read_it deep fits (is_const {n = n}) k = looser M cap Q (r_const M cap Q (omega arith) n k) (omega arith) (omega arith)

    pub put_atom : {limit d : ℕ} {ps : List Place} {a : Atom} {v : Val} → length f.callers ≤ cap.frames → limit ≤ length m → There m limit ls d ps a v → ((w : ℕ) → Stands m limit w v → Within M cap Q l u (here cap f m p h ls (I32 w ∷ vals) rest)) →
        Within M cap Q l (2 + u) (here cap f m p h ls vals (atom ps a rest))
    put_atom deep fits x k = subst (λ (o : Option Word). Within M cap Q l (2 + u) (here cap f m p h ls vals (read o rest))) (sym x.is) (read_it deep fits x.reads (k x.w x.stands))

  -- the words of a known closure come onto the operands, by at most two steps each
  pub pushed : {f : Around} {m : Mem} {p h : ℕ} {ls vals : List ConstValue} {l limit d : ℕ} {ps : List Word} {cs : Vals} {rest : List Instr} {u : ℕ} → length f.callers ≤ cap.frames → limit ≤ length m → Words m limit ls d ps cs →
      ((ws : List ℕ) → WordsStand m limit ws cs → Within M cap Q l u (here cap f m p h ls (words ws ++ vals) rest)) → Within M cap Q l (2 * length ps + u) (here cap f m p h ls vals (push_words ps rest))
  pushed deep fits no_word k = looser M cap Q (k [] stand_none) (omega arith) (omega arith)
  pushed {u = u} deep fits (more_words {ps = ps} w r s h) k =
      looser M cap Q (pushed {u = 2 + u} deep fits h (λ ws all. read_it deep fits r (k (w ∷ ws) (stand_more s all)))) (omega arith) (omega arith)

  -- the fields of a block at q
  pub filled : {e : Vals} {as' : List Atom} {vs : Vals} {f : Around} {m : Mem} {p h : ℕ} {ls vals : List ConstValue} {rest : List Instr} {l u : ℕ} {d q : ℕ} {ps : List Place} →
      length f.callers ≤ cap.frames → AllAre e as' vs → NoneNamed ps as' → slice_get ls d ≡ Some (I32 q) → Env m q ls d ps e → q + 4 * suc (length as') ≤ 65536 * p → p ≤ greatest_pages M.memory → length m ≡ 65536 * p → 0 < q →
      ((m' : Mem) → Same (q + 4) m m' → ((a : ℕ) → q + 4 * suc (length as') ≤ a → byte m' a ≡ byte m a) → length m' ≡ 65536 * p → Fields m' q q vs → Within M cap Q l u (here cap f m' p h ls vals rest)) →
      Within M cap Q l (4 * length as' + u) (here cap f m p h ls vals (fill ps d as' rest))
  filled {m = m} deep are_none un at env fits pages long pos k = looser M cap Q (k m (λ a x. refl) (λ a x. refl) long no_field) (omega arith) (omega arith)
  filled {f = f} {m} {p} {h} {ls} {vals} {rest} {l} {u} {d} {q} {ps} deep (are_more {a = a} {v = v} {as' = as'} {vs = vs} is hs) un at env fits pages long pos k =
      looser M cap Q (r_get M cap Q (omega arith) at (put_atom (omega arith) (omega arith) (there m q ls d env is (λ i g ws e. (neither (names i a) (some_names i as') (un i g ws e)).0)) (λ w s. r_store M cap Q (omega arith) (omega arith)
      (filled {m = put_word m (q + 4 * suc (length as')) w} deep hs (λ i g ws e. (neither (names i a) (some_names i as') (un i g ws e)).1) at (env_on (omega arith) (λ x lt. put_other m _ w x (inl (omega arith))) (omega arith) (keeps_same d ls) env) (omega arith) pages (put_length m _ w ∙ long) pos
      (λ m' low high long' fs. k m'
      (λ x lt. low x lt ∙ put_other m _ w x (inl (omega arith)))
      (λ x le. high x (omega arith) ∙ put_other m _ w x (inr (omega arith)))
      long' (field (subst (λ x. Stands m' q x v) (sym (stored w s m' high)) (stands_on m m' q (omega arith) (λ x lt. low x (omega arith) ∙ put_other m _ w x (inl (omega arith))) s)) (subst (IsBelow q) (sym (stored w s m' high)) (address_below pos s)) fs)))))) (omega arith) (omega arith)
    where
      stored : (w : ℕ) → Stands m q w v → (m' : Mem) → ((x : ℕ) → q + 4 * suc (length as') ≤ x → byte m' x ≡ byte (put_word m (q + 4 * suc (length as')) w) x) → word m' (q + 4 * suc (size vs)) ≡ w
      stored w s m' high =
          ap (λ n. word m' (q + 4 * suc n)) (all_size hs) ∙ word_same (put_word m (q + 4 * suc (length as')) w) m' (q + 4 * suc (length as')) (λ x a b. high x a) ∙ word_put m (q + 4 * suc (length as')) w (omega arith) (stands_small (omega arith) s)

  -- a block is made at the end of the heap, and its address comes into local d
  pub new_made : {f : Around} {m : Mem} {p h : ℕ} {ls vals : List ConstValue} {rest : List Instr} {l u : ℕ} {d header : ℕ} {ps : List Place} {e : Vals} {as' : List Atom} {vs : Vals} →
      suc (length f.callers) ≤ cap.frames → h + 4 * suc (length as') ≤ cap.bytes → AllAre e as' vs → NoneNamed ps as' → length as' < fields → header < 4294967296 → d < length ls → Room M cap m p h → Env m h ls d ps e →
      ((m' : Mem) (p' : ℕ) (ls' : List ConstValue) → Room M cap m' p' (h + 4 * suc (length as')) → Same h m m' → Keeps d ls ls' → slice_get ls' d ≡ Some (I32 h) →
      word m' h ≡ header → Fields m' (h + 4 * suc (length as')) h vs → Within M cap Q l u (here cap f m' p' (h + 4 * suc (length as')) ls' vals rest)) →
      Within M cap Q l (39 + 4 * length as' + u) (here cap f m p h ls vals (new_block ps d header as' rest))
  new_made {m = m} {h = h} {ls} {d = d} {header} {as' = as'} deep needed all un few fits_word has room env k =
      let ls' = slice_set ls d (I32 h) in
      let at : slice_get ls' d ≡ Some (I32 h) = set_this ls d (I32 h) has in
      let kept : Keeps d ls ls' = keeps_set ls d (I32 h) in
      looser M cap Q (r_heap M cap Q (omega arith) (r_tee M cap Q (omega arith) (slice_get-get_or ls d (I32 0) has) (r_const M cap Q (omega arith) (4 * suc (length as')) (r_add M cap Q (omega arith) (omega (arith, room.fits, room.pages, fixed.small)) (r_set_heap M cap Q (omega arith)
      (allocated M fixed cap Q deep needed (omega arith) room (λ m0 p' kept_mem long in_max fits tight. r_get M cap Q (omega arith) at (r_const M cap Q (omega arith) header (r_store M cap Q (omega arith) (omega arith)
      (filled (omega arith) all un at (env_on (omega arith) (λ x lt. put_other m0 _ header x (inl (omega arith)) ∙ kept_mem x lt) (omega arith) kept env) (omega arith) in_max (put_length m0 _ header ∙ long) (omega (arith, room.above)) (λ m' low high long' fs.
      k m' p' ls' (record { long = long'; q = room.q + suc (length as'); aligned = omega (arith, room.aligned); above = omega (arith, room.above); fits = omega arith; inside = omega arith; tight = λ grown. omega (arith, tight grown); pages = in_max })
      (λ x lt. low x (omega arith) ∙ put_other m0 _ header x (inl (omega arith)) ∙ kept_mem x lt) kept at
      (word_same (put_word m0 (h + 0) header) m' h (λ x a b. low x (omega arith)) ∙ word_put_at m0 (h + 0) h header (omega arith) (omega arith) fits_word) (fields_up (h + 4 * suc (length as')) (omega arith) fs))))))))))))
      (omega arith) (omega arith)

  -- and onto the operands
  pub made : {f : Around} {m : Mem} {p h : ℕ} {ls vals : List ConstValue} {rest : List Instr} {l u : ℕ} {d header : ℕ} {ps : List Place} {e : Vals} {as' : List Atom} {vs : Vals} →
      suc (length f.callers) ≤ cap.frames → h + 4 * suc (length as') ≤ cap.bytes → AllAre e as' vs → NoneNamed ps as' → length as' < fields → header < 4294967296 → d < length ls → Room M cap m p h → Env m h ls d ps e →
      ((m' : Mem) (p' : ℕ) (ls' : List ConstValue) → Room M cap m' p' (h + 4 * suc (length as')) → Same h m m' → Keeps d ls ls' → word m' h ≡ header → Fields m' (h + 4 * suc (length as')) h vs → Within M cap Q l u (here cap f m' p' (h + 4 * suc (length as')) ls' (I32 h ∷ vals) rest)) →
      Within M cap Q l (40 + 4 * length as' + u) (here cap f m p h ls vals (block ps d header as' rest))
  made deep needed all un few fits_word has room env k =
      looser M cap Q (new_made deep needed all un few fits_word has room env (λ m' p' ls' room' same keeps at head fs. r_get M cap Q (omega arith) at (k m' p' ls' room' same keeps head fs))) (omega arith) (omega arith)
