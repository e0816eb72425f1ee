-- Where data that is put into memory lies, and that its words stand for it.
use Rattle.std.proofs.Common.{◌≡◌, Ok, ℕ, zero, suc, ◌+◌, ◌-◌, ◌*◌, ◌<◌, ◌≤◌, List, [], ◌∷◌, ◌++◌, length, take, drop, append_assoc, Option, Some, None, Bool, true, false, refl, sym, ap, subst, ◌∙◌, arith, length-append, length-set}
use Rattle.std.specs.Prelude.{slice_get, slice_set, if◌then◌else◌}
use Rattle.std.specs.Option.{option_map, option_and_then}
use Rattle.std.proofs.lemmas.List.{append-nil, get_or-set_same, set-set, set-get_or, length-take, length-drop}
use Rattle.std.proofs.lemmas.Option.{slice_get_within, get_or_from_slice_get, slice_get-get_or, same_Some}
use Rattle.wasm_core.specs.declared.types.ConstValue.{ConstValue}
use Rattle.wasm_core.specs.declared.types.ConstValue.TheVariants.{I32}
use Rattle.wasm_core.specs.declared.entries.Entry.TheVariants.{Heap, Args}
use Rattle.wasm_core.specs.Parts.{Parts}
use Rattle.wasm_core.specs.Memory.{byte, word, zeroed}
use Rattle.wasm_core.specs.Entries.{index_of}
use Rattle.wasm_core.specs.MachineStep.{Store}
use Rattle.wasm_core.specs.ModuleCondition.{All as Each}
use Rattle.wasm_core.specs.WordData.{DataNodes, IsBlock, IsBelow}
use Rattle.wasm_core.specs.StoredData.{StandsWithin, odd, block, FieldsWithin, no_field, field, ArgumentsWithin, no_argument, argument}
use Rattle.wasm_core.specs.Answer.{global_of, i32_of}
use Rattle.wasm_core.specs.HostStore.{IsForCall, set_at, set_entry, pages_for, held, has_room, with_block, with_store}
use Rattle.wasm_core.proofs.Small.{no, some_of, map_of}
use Rattle.wasm_core.proofs.WordsStay.{zeroed_length}
use Rattle.wasm_core.specs.MachineStep.{State}
use Rattle.wasm_core.specs.Runs.{store_of}
use Rattle.wasm_core.specs.MachineRun.{MachineShown}
use Rattle.wasm_run.specs.Hosting.{put_in, IsAtStart}
use Rattle.wasm_run.proofs.HostCalls.{puts_length, room_small, held_has, store_again}
use Rattle.wasm_run.proofs.Running.{read_i32}
use Rattle.data_trees.specs.Preorder.{IsForest, IsTree}
use Rattle.mem_value.specs.Storing.{Stacked, put_at, put_block, put_node, put_nodes, put_trees, put_last, put_arguments, header, with_word, IsSmallData, HasHeap, HasStored, StackSays, PutSays, StoreSays}
use Rattle.wasm_core.proofs.MemoryWords.{word_same, more_same}
use Rattle.mem_value.proofs.Bytes.{puts_other, WordsAt, IsWord32, puts_there}
use Rattle.mem_value.proofs.Stacks.{none_left, with_again}

-- ---- words that stand for trees, one after the other

abbrev StandAll : List ℕ → (low high : ℕ) → List ℕ → DataNodes → Type 0
StandAll memory low high [] d = d ≡ []
StandAll memory low high (w ∷ ws) d = (first : DataNodes) × (others : DataNodes) × (d ≡ first ++ others) × StandsWithin memory low high w first × StandAll memory low high ws others

module _ (m m' : List ℕ) (low high high' : ℕ) (le : high ≤ high') (len : length m ≤ length m') (same : (x : ℕ) → x < high → byte m' x ≡ byte m x) where
  same_word : (a : ℕ) → a + 4 ≤ high → word m' a ≡ word m a
  same_word a h = word_same m m' a (λ x p q. same x (omega (arith, q, h)))

  same_block : (w arity c : ℕ) → IsBlock m w arity c → w + 4 + 4 * arity ≤ high → IsBlock m' w arity c
  same_block w arity c b h =
      let inside = b.inside in
      record { quarter = b.quarter; aligned = b.aligned; there = b.there; some = b.some; small = b.small; header = same_word w (omega (arith, h)) ∙ b.header; inside = omega (arith, inside, len) }

  mutual
    stands_more : (w : ℕ) (d : DataNodes) → StandsWithin m low high w d → StandsWithin m' low high' w d
    stands_more w _ (odd c e) = odd c e
    stands_more w _ (block {c = c} {arity = a} {fields = ds} b l h f) = block (same_block w a c b h) l (omega (arith, h, le)) (fields_more w (w + 4) a ds h f)

    fields_more : (b at left : ℕ) (ds : DataNodes) → at + 4 * left ≤ high → FieldsWithin m low high b at left ds → FieldsWithin m' low high' b at left ds
    fields_more b at _ _ h no_field = no_field
    fields_more b at (suc left) _ h (field {first = d} {others = ds} s below f) =
        let e : word m at ≡ word m' at = sym (same_word at (omega (arith, h))) in
        field (subst (λ w. StandsWithin m' low high' w d) e (stands_more (word m at) d s)) (subst (IsBelow b) e below) (fields_more b (at + 4) left ds (omega (arith, h)) f)

  all_more : (ws : List ℕ) (d : DataNodes) → StandAll m low high ws d → StandAll m' low high' ws d
  all_more [] d h = h
  all_more (w ∷ ws) d (first, others, is, s, r) = (first, others, is, stands_more w first s, all_more ws others r)

within_below : (m : List ℕ) (low high w : ℕ) (d : DataNodes) → StandsWithin m low high w d → IsBelow high w
within_below m low high w _ (odd {c = c} small e) = λ q is. absurd (no_odd c q w e is)
  where
    no_odd : (c q w : ℕ) → w ≡ 2 * c + 1 → w ≡ 4 * q → ⊥
    no_odd c q w e is = omega (arith, e, is)
within_below m low high w _ (block {arity = a} b l h f) = λ q is. omega (arith, h)

within_small : (m : List ℕ) (low high w : ℕ) (d : DataNodes) → high ≤ 4294967295 → StandsWithin m low high w d → IsWord32 w
within_small m low high w _ le (odd {c = c} small e) = omega (arith, small, e)
within_small m low high w _ le (block {arity = a} b l h f) = omega (arith, h, le)

all_small : (m : List ℕ) (low high : ℕ) (ws : List ℕ) (d : DataNodes) → high ≤ 4294967295 → StandAll m low high ws d → Each IsWord32 ws
all_small m low high [] d le h = tt
all_small m low high (w ∷ ws) d le (first, others, is, s, r) = (within_small m low high w first le s, all_small m low high ws others le r)

-- the first words, and the others
all_split : (m : List ℕ) (low high k : ℕ) (ws : List ℕ) (d : DataNodes) → StandAll m low high ws d → (first : DataNodes) × (others : DataNodes) × (d ≡ first ++ others) × StandAll m low high (take k ws) first × StandAll m low high (drop k ws) others
all_split m low high zero ws d h = ([], d, refl, refl, h)
all_split m low high (suc k) [] d h = ([], d, refl, refl, h)
all_split m low high (suc k) (w ∷ ws) d (f, o, is, s, r) =
    let (f', o', is', a, b) = all_split m low high k ws o r in
    (f ++ f', o', is ∙ ap (λ (x : DataNodes). f ++ x) is' ∙ sym (append_assoc f f' o'), (f, f', refl, s, a), b)

-- words that stand in memory one after the other are fields of a block above them
fields_of : (m : List ℕ) (low high high' at : ℕ) (ws : List ℕ) (d : DataNodes) → high ≤ high' → WordsAt m at ws → StandAll m low high ws d → FieldsWithin m low high' high at (length ws) d
fields_of m low high high' at [] d le w h = subst (FieldsWithin m low high' high at 0) (sym h) no_field
fields_of m low high high' at (x ∷ ws) d le (here, w) (f, o, is, s, r) =
    subst (FieldsWithin m low high' high at (suc (length ws))) (sym is)
    (field (subst (λ y. StandsWithin m low high' y f) (sym here) (stands_more m m low high high' le (self (length m)) (λ a lt. refl) x f s)) (subst (IsBelow high) (sym here) (within_below m low high x f s))
    (fields_of m low high high' (at + 4) ws o le w r))
  where
    self : (n : ℕ) → n ≤ n
    self n = omega arith

-- ---- stores that a host has made of another one

-- the store with `heap` at an address: memory below the first one is as it was
record Placed (old : Store) (x first : ℕ) (s : Store) (past : ℕ) : Type 0 where
  pub pages : s.pages ≡ old.pages + (pages_for past - old.pages)
  pub size : length s.memory ≡ length old.memory + 65536 * (pages_for past - old.pages)
  pub globals : s.globals ≡ slice_set old.globals x (I32 past)
  pub refused : s.refused ≡ old.refused
  pub by_choice : s.by_choice ≡ old.by_choice
  pub from : first ≤ past
  pub quarter : ℕ
  pub aligned : past ≡ 4 * quarter
  pub kept : (a : ℕ) → a < first → byte s.memory a ≡ byte old.memory a
  pub inside : past ≤ length s.memory

-- what came between two such stores
record Later (s t : Store) (past later : ℕ) : Type 0 where
  pub more : past ≤ later
  pub length_more : length s.memory ≤ length t.memory
  pub same : (a : ℕ) → a < past → byte t.memory a ≡ byte s.memory a

later_same : (s : Store) (past : ℕ) → Later s s past past
later_same s past = record { more = omega arith; length_more = omega arith; same = λ a lt. refl }

later_on : (s t u : Store) (a b c : ℕ) → Later s t a b → Later t u b c → Later s u a c
later_on s t u a b c h k =
    let p = h.more in let q = k.more in let l = h.length_more in let n = k.length_more in
    record { more = omega (arith, p, q); length_more = omega (arith, l, n); same = λ x lt. k.same x (omega (arith, lt, p)) ∙ h.same x lt }

module _ (m : Parts) (cap x : ℕ) (hx : index_of Heap m ≡ Some x) (old : Store) (first : ℕ) (hold : slice_get old.globals x ≡ Some (I32 first)) (sized : length old.memory ≡ 65536 * old.pages) (there : 0 < first) where
  x_within : x < length old.globals
  x_within = slice_get_within old.globals x (I32 first) hold

  -- the value of `heap`
  heap_is : (s : Store) (past : ℕ) → s.globals ≡ slice_set old.globals x (I32 past) → global_of Heap m s ≡ Some past
  heap_is s past e =
      let v : slice_get s.globals x ≡ Some (I32 past) =
      ap (λ (gs : List ConstValue). slice_get gs x) e ∙ slice_get-get_or (slice_set old.globals x (I32 past)) x (I32 0) (subst (λ n. x < n) (sym (length-set old.globals x (I32 past))) x_within) ∙ ap Some (get_or-set_same old.globals x (I32 past) (I32 0) x_within) in
      ap (λ (o : Option ℕ). option_and_then (λ y. option_and_then i32_of (slice_get s.globals y)) o) hx ∙ ap (option_and_then i32_of) v

  first_placed : first ≤ length old.memory → (q : ℕ) → first ≡ 4 * q → Placed old x first old first
  first_placed inside q aligned =
      let none : pages_for first - old.pages ≡ 0 = few first old.pages (subst (λ n. first ≤ n) sized inside) in
      record {
        pages = omega (arith, none);
        size = omega (arith, none);
        globals = sym (ap (slice_set old.globals x) (sym (get_or_from_slice_get old.globals x (I32 first) (I32 0) hold)) ∙ set-get_or old.globals x (I32 0));
        refused = refl;
        by_choice = refl;
        from = omega arith;
        quarter = q;
        aligned = aligned;
        kept = λ a lt. refl;
        inside = inside;
      }
    where
      few : (a b : ℕ) → a ≤ 65536 * b → pages_for a - b ≡ 0
      few a b h = omega (arith, h)

  -- a block that was put: the store after it, and where it lies
  record Block (s : Store) (at : ℕ) (ws : List ℕ) (t : Store) : Type 0 where
    pub placed : Placed old x first t (at + 4 * length ws)
    pub later : Later s t at (at + 4 * length ws)
    pub words : Each IsWord32 ws → WordsAt t.memory at ws
    pub room : has_room m cap (at + 4 * length ws) ≡ true

  block_at : (s : Store) (at : ℕ) (ws : List ℕ) → Placed old x first s at → has_room m cap (at + 4 * length ws) ≡ true → Block s at ws (set_at (Some x) (at + 4 * length ws) (put_in at ws s))
  block_at s at ws p room =
      let past = at + 4 * length ws in
      let more = pages_for past - s.pages in
      let memory = s.memory ++ zeroed more in
      let from = p.from in let inside = p.inside in let aligned = p.aligned in
      let len : length memory ≡ length s.memory + 65536 * more = length-append s.memory (zeroed more) ∙ ap (λ n. length s.memory + n) (zeroed_length more) in
      let has : past ≤ length memory = held_has past s (whole s.pages (length s.memory) (length old.memory) old.pages (pages_for at - old.pages) p.pages p.size sized) in
      record {
        placed = record {
          pages = pages_go at past old.pages s.pages (omega arith) p.pages;
          size = puts_length memory at ws ∙ len ∙ size_goes at past old.pages s.pages (length s.memory) (length old.memory) (omega arith) p.pages p.size;
          globals = ap (λ (gs : List ConstValue). slice_set gs x (I32 past)) p.globals ∙ set-set old.globals x (I32 at) (I32 past);
          refused = p.refused;
          by_choice = p.by_choice;
          from = omega (arith, from);
          quarter = p.quarter + length ws;
          aligned = omega (arith, aligned);
          kept = λ a lt. puts_other memory at a ws (omega (arith, lt, from)) ∙ more_same s.memory more a (omega (arith, lt, from, inside)) ∙ p.kept a lt;
          inside = subst (λ n. past ≤ n) (sym (puts_length memory at ws)) has;
        };
        later = record {
          more = omega arith;
          length_more = subst (λ n. length s.memory ≤ n) (sym (puts_length memory at ws)) (omega (arith, len));
          same = λ a lt. puts_other memory at a ws lt ∙ more_same s.memory more a (omega (arith, lt, inside));
        };
        words = λ small. puts_there memory at ws small has;
        room = room;
      }
    where
      pages_go : (a b old s : ℕ) → a ≤ b → s ≡ old + (pages_for a - old) → s + (pages_for b - s) ≡ old + (pages_for b - old)
      pages_go a b old s le e = omega (arith, le, e)

      size_goes : (a b old s n o : ℕ) → a ≤ b → s ≡ old + (pages_for a - old) → n ≡ o + 65536 * (pages_for a - old) → n + 65536 * (pages_for b - s) ≡ o + 65536 * (pages_for b - old)
      size_goes a b old s n o le e h = omega (arith, le, e, h)

      whole : (s n o old k : ℕ) → s ≡ old + k → n ≡ o + 65536 * k → o ≡ 65536 * old → n ≡ 65536 * s
      whole s n o old k e h z = omega (arith, e, h, z)

  -- the same where the block was put
  block_put : (s : Store) (past at : ℕ) (ws : List ℕ) (t : Store) → Placed old x first s past → put_block m cap ws s ≡ Some (at, t) → (at ≡ past) × Block s past ws t
  block_put s past at ws t p e =
      let h : put_at m cap ws s (Some past) ≡ Some (at, t) = ap (put_at m cap ws s) (sym (heap_is s past p.globals)) ∙ e in
      by (has_room m cap (past + 4 * length ws)) refl h
    where
      by : (b : Bool) → has_room m cap (past + 4 * length ws) ≡ b → ◌≡◌ {A = Option (ℕ × Store)} (if b then Some (past, with_block m past ws s) else None) (Some (at, t)) → (at ≡ past) × Block s past ws t
      by true r e =
          let is : ◌≡◌ {A = ℕ × Store} (past, with_block m past ws s) (at, t) = same_Some _ _ e in
          let t_is : set_at (Some x) (past + 4 * length ws) (put_in past ws s) ≡ t = ap (λ (o : Option ℕ). set_at o (past + 4 * length ws) (put_in past ws s)) (sym hx) ∙ ap (λ (y : ℕ × Store). y.1) is in
          (sym (ap (λ (y : ℕ × Store). y.0) is), subst (Block s past ws) t_is (block_at s past ws p r))
      by false r e = no e

  -- ---- nodes of trees

  -- the stack after the nodes of so many trees: their words are the first ones
  record Grown (s : Store) (past : ℕ) (before : List ℕ) (nodes : DataNodes) (n : ℕ) (a : Stacked) : Type 0 where
    pub past_now : ℕ
    pub placed : Placed old x first a.store past_now
    pub later : Later s a.store past past_now
    pub words : List ℕ
    pub is : a.words ≡ words ++ before
    pub count : length words ≡ n
    pub stand : StandAll a.store.memory first past_now words nodes

  take_front : (k : ℕ) (us ws : List ℕ) → k ≤ length us → take k (us ++ ws) ≡ take k us
  take_front zero us ws le = refl
  take_front (suc k) [] ws le = absurd (omega (arith, le))
  take_front (suc k) (u ∷ us) ws le = ap (λ z. u ∷ z) (take_front k us ws (omega (arith, le)))

  drop_front : (k : ℕ) (us ws : List ℕ) → k ≤ length us → drop k (us ++ ws) ≡ drop k us ++ ws
  drop_front zero us ws le = refl
  drop_front (suc k) [] ws le = absurd (omega (arith, le))
  drop_front (suc k) (u ∷ us) ws le = drop_front k us ws (omega (arith, le))

  node_grows : (s : Store) (past : ℕ) (before : List ℕ) (c arity : ℕ) (rest : DataNodes) (k : ℕ) (b a : Stacked) → c < 65536 → arity < 65536 → Grown s past before rest (arity + k) b → put_node m cap c arity b ≡ Some a → Grown s past before ((c, arity) ∷ rest) (suc k) a
  node_grows s past before c zero rest k b a small few g e =
      let a_is : record b { words = (2 * c + 1) ∷ b.words } ≡ a = same_Some _ _ e in
      subst (Grown s past before ((c, 0) ∷ rest) (suc k)) a_is
      (record {
        past_now = g.past_now;
        placed = g.placed;
        later = g.later;
        words = (2 * c + 1) ∷ g.words;
        is = ap (λ z. (2 * c + 1) ∷ z) g.is;
        count = ap suc (g.count ∙ plus k);
        stand = ((c, 0) ∷ [], rest, refl, odd small refl, g.stand);
      })
    where
      plus : (k : ℕ) → 0 + k ≡ k
      plus k = omega arith
  node_grows s past before c (suc q) rest k b a small few g e =
      let (p, hp, a_is) = map_of (with_word (drop (suc q) b.words)) (put_block m cap (header (suc q) c ∷ take (suc q) b.words) b.store) a e in
      let le : suc q ≤ length g.words = omega (arith, g.count) in
      let t_is : take (suc q) b.words ≡ take (suc q) g.words = ap (take (suc q)) g.is ∙ take_front (suc q) g.words before le in
      let d_is : drop (suc q) b.words ≡ drop (suc q) g.words ++ before = ap (drop (suc q)) g.is ∙ drop_front (suc q) g.words before le in
      let us = take (suc q) g.words in
      let ws = header (suc q) c ∷ us in
      let put : put_block m cap ws b.store ≡ Some (p.0, p.1) = ap (λ ys. put_block m cap (header (suc q) c ∷ ys) b.store) (sym t_is) ∙ hp in
      let (at_is, bl) = block_put b.store g.past_now p.0 ws p.1 g.placed put in
      let (f, o, f_is, sf, so) = all_split b.store.memory first g.past_now (suc q) g.words rest g.stand in
      let now = g.past_now in
      let long : length us ≡ suc q = taken (suc q) g.words le in
      let past_is : now + 4 * length ws ≡ now + 4 + 4 * suc q = ends now (length us) (suc q) long in
      let lat = bl.later in
      let most = room_small m cap (now + 4 * length ws) bl.room in
      let small_us = all_small b.store.memory first now us f (omega (arith, most)) sf in
      let words = bl.words (header_small (suc q) c few small, small_us) in
      let inside = bl.placed.inside in
      let from = g.placed.from in
      let fields : FieldsWithin p.1.memory first (now + 4 * length ws) now (now + 4) (suc q) f =
      subst (λ n. FieldsWithin p.1.memory first (now + 4 * length ws) now (now + 4) n f) long
      (fields_of p.1.memory first now (now + 4 * length ws) (now + 4) us f lat.more words.1
      (all_more b.store.memory p.1.memory first now now (self now) lat.length_more lat.same us f sf)) in
      let tree : StandsWithin p.1.memory first (now + 4 * length ws) now ((c, suc q) ∷ f) =
      block (record {
        quarter = g.placed.quarter;
        aligned = g.placed.aligned;
        there = omega (arith, there, from);
        some = omega arith;
        small = small;
        header = words.0;
        inside = subst (λ n. n ≤ length p.1.memory) past_is inside;
      }) from (subst (λ n. now + 4 + 4 * suc q ≤ n) (sym past_is) (self (now + 4 + 4 * suc q))) fields in
      subst (Grown s past before ((c, suc q) ∷ rest) (suc k)) a_is
      (record {
        past_now = now + 4 * length ws;
        placed = bl.placed;
        later = later_on s b.store p.1 past now (now + 4 * length ws) g.later lat;
        words = p.0 ∷ drop (suc q) g.words;
        is = ap (λ z. p.0 ∷ z) d_is;
        count = ap suc (left (suc q) k (length g.words) (length (drop (suc q) g.words)) g.count (length-drop (suc q) g.words));
        stand = (
          (c, suc q) ∷ f,
          o,
          ap (λ (z : DataNodes). (c, suc q) ∷ z) f_is,
          subst (λ w. StandsWithin p.1.memory first (now + 4 * length ws) w ((c, suc q) ∷ f)) (sym at_is) tree,
          all_more b.store.memory p.1.memory first now (now + 4 * length ws) lat.more lat.length_more lat.same (drop (suc q) g.words) o so,
        );
      })
    where
      taken : (k : ℕ) (us : List ℕ) → k ≤ length us → length (take k us) ≡ k
      taken k us le = omega (arith, length-take k us, le)

      ends : (now n k : ℕ) → n ≡ k → now + 4 * suc n ≡ now + 4 + 4 * k
      ends now n k e = omega (arith, e)

      self : (n : ℕ) → n ≤ n
      self n = omega arith

      left : (q k n d : ℕ) → n ≡ q + k → d ≡ n - q → d ≡ k
      left q k n d e h = omega (arith, e, h)

      header_small : (arity c : ℕ) → arity < 65536 → c < 65536 → arity * 65536 + c < 4294967296
      header_small arity c p q = omega (arith, p, q)

  nodes_grow : (s : Store) (past : ℕ) (ws : List ℕ) (nodes : DataNodes) (n : ℕ) (a : Stacked) → IsSmallData nodes → IsForest n nodes → Placed old x first s past → put_nodes m cap nodes (record { store = s; words = ws }) ≡ Some a → Grown s past ws nodes n a
  nodes_grow s past ws [] n a small f p e =
      subst (Grown s past ws [] n) (same_Some _ _ e) (record { past_now = past; placed = p; later = later_same s past; words = []; is = refl; count = sym (none_left n f); stand = refl })
  nodes_grow s past ws (y ∷ rest) zero a small f p e = absurd f
  nodes_grow s past ws (y ∷ rest) (suc k) a ((c, few), small) f p e =
      let (b, hb, e1) = some_of (put_node m cap y.0 y.1) (put_nodes m cap rest (record { store = s; words = ws })) a e in
      node_grows s past ws y.0 y.1 rest k b a c few (nodes_grow s past ws rest (y.1 + k) b small f p hb) e1

  -- ---- the trees of a list

  abbrev EachStands : List ℕ → ℕ → List ℕ → List DataNodes → Type 0
  EachStands memory high [] [] = Unit {0}
  EachStands memory high [] (d ∷ ds) = ⊥
  EachStands memory high (w ∷ ws) [] = ⊥
  EachStands memory high (w ∷ ws) (d ∷ ds) = StandsWithin memory first high w d × EachStands memory high ws ds

  each_more : (s t : Store) (past later : ℕ) → Later s t past later → (ws : List ℕ) (ds : List DataNodes) → EachStands s.memory past ws ds → EachStands t.memory later ws ds
  each_more s t past later l [] [] h = tt
  each_more s t past later l [] (d ∷ ds) h = absurd h
  each_more s t past later l (w ∷ ws) [] h = absurd h
  each_more s t past later l (w ∷ ws) (d ∷ ds) (h, r) = (stands_more s.memory t.memory first past later l.more l.length_more l.same w d h, each_more s t past later l ws ds r)

  record Stood (s : Store) (ds : List DataNodes) (a : Stacked) : Type 0 where
    pub past : ℕ
    pub placed : Placed old x first a.store past
    pub stand : EachStands a.store.memory past a.words ds

  one_tree : (memory : List ℕ) (high : ℕ) (us : List ℕ) (d : DataNodes) → length us ≡ 1 → StandAll memory first high us d → (u : ℕ) × (us ≡ u ∷ []) × StandsWithin memory first high u d
  one_tree memory high [] d n h = absurd (omega (arith, n))
  one_tree memory high (u ∷ []) d n (f, o, is, s, r) = (u, refl, subst (StandsWithin memory first high u) (sym (is ∙ ap (λ (z : DataNodes). f ++ z) r ∙ append-nil f)) s)
  one_tree memory high (u ∷ v ∷ us) d n h = absurd (omega (arith, n))

  trees_stand : (s : Store) (past : ℕ) (ds : List DataNodes) (a : Stacked) → Each IsSmallData ds → Each IsTree ds → Placed old x first s past → put_trees m cap ds (record { store = s; words = [] }) ≡ Some a → Stood s ds a
  trees_stand s past [] a small trees p e = subst (Stood s []) (same_Some _ _ e) (record { past = past; placed = p; stand = tt })
  trees_stand s past (d ∷ ds) a (sd, small) (td, trees) p e =
      let (b, hb, e1) = some_of (put_nodes m cap d) (put_trees m cap ds (record { store = s; words = [] })) a e in
      let h = trees_stand s past ds b small trees p hb in
      let g = nodes_grow b.store h.past b.words d 1 a sd td h.placed e1 in
      let (u, us_is, st) = one_tree a.store.memory g.past_now g.words d g.count g.stand in
      record {
        past = g.past_now;
        placed = g.placed;
        stand = subst (λ ws. EachStands a.store.memory g.past_now ws (d ∷ ds)) (sym (g.is ∙ ap (λ ws. ws ++ b.words) us_is)) (st, each_more b.store a.store h.past g.past_now g.later b.words ds h.stand);
      }

  each_count : (memory : List ℕ) (high : ℕ) (ws : List ℕ) (ds : List DataNodes) → EachStands memory high ws ds → length ws ≡ length ds
  each_count memory high [] [] h = refl
  each_count memory high [] (d ∷ ds) h = absurd h
  each_count memory high (w ∷ ws) [] h = absurd h
  each_count memory high (w ∷ ws) (d ∷ ds) (h, r) = ap suc (each_count memory high ws ds r)

  each_small : (memory : List ℕ) (high : ℕ) (ws : List ℕ) (ds : List DataNodes) → high ≤ 4294967295 → EachStands memory high ws ds → Each IsWord32 ws
  each_small memory high [] [] le h = tt
  each_small memory high [] (d ∷ ds) le h = absurd h
  each_small memory high (w ∷ ws) [] le h = absurd h
  each_small memory high (w ∷ ws) (d ∷ ds) le (h, r) = (within_small memory first high w d le h, each_small memory high ws ds le r)

  arguments_of : (memory : List ℕ) (high at : ℕ) (ws : List ℕ) (ds : List DataNodes) → WordsAt memory at ws → EachStands memory high ws ds → ArgumentsWithin memory first high at ds
  arguments_of memory high at [] [] w h = no_argument
  arguments_of memory high at [] (d ∷ ds) w h = absurd h
  arguments_of memory high at (y ∷ ws) [] w h = absurd h
  arguments_of memory high at (y ∷ ws) (d ∷ ds) (here, w) (h, r) = argument (subst (λ z. StandsWithin memory first high z d) (sym here) h) (arguments_of memory high (at + 4) ws ds w r)

  -- all arguments, and their words behind them
  pub has_stored : first ≤ length old.memory → (q : ℕ) → first ≡ 4 * q → (ds : List DataNodes) → Each IsSmallData ds → Each IsTree ds → (new : Store) → put_arguments m cap ds old ≡ Some new → HasStored m cap old new ds
  has_stored inside q aligned ds small trees new e =
      let (a, ha, e1) = some_of (put_last m cap) (put_trees m cap ds (record { store = old; words = [] })) new e in
      let h = trees_stand old first ds a small trees (first_placed inside q aligned) ha in
      let (p, hp, e2) = map_of (λ (p : ℕ × Store). set_entry Args m p.0 p.1) (put_block m cap a.words a.store) new e1 in
      let (at_is, bl) = block_put a.store h.past p.0 a.words p.1 h.placed hp in
      let now = h.past in let past = now + 4 * length a.words in
      let count = each_count a.store.memory now a.words ds h.stand in
      let most = room_small m cap past bl.room in
      let words = bl.words (each_small a.store.memory now a.words ds (omega (arith, most)) h.stand) in
      let lat = bl.later in
      let pl = bl.placed in
      record {
        first = first;
        was = heap_is old first (first_placed inside q aligned).globals;
        past = past;
        address = now;
        memory = p.1.memory;
        is = sym e2 ∙ ap (λ w. set_entry Args m w p.1) at_is ∙ ap (set_entry Args m now) (all_is p.1 past pl);
        size = pl.size ∙ sym (length-append old.memory (zeroed (pages_for past - old.pages)) ∙ ap (λ n. length old.memory + n) (zeroed_length (pages_for past - old.pages)));
        inside = pl.inside;
        kept = pl.kept;
        room = bl.room;
        quarter = h.placed.quarter;
        aligned = h.placed.aligned;
        begins = h.placed.from;
        ends = ap (λ n. now + 4 * n) count;
        arguments = arguments_of p.1.memory past now a.words ds words (each_more a.store p.1 now past lat a.words ds h.stand);
      }
    where
      five : (pages : ℕ) (memory : List ℕ) (globals : List ConstValue) (r b : Bool) (t : Store) → t.pages ≡ pages → t.globals ≡ globals → t.refused ≡ r → t.by_choice ≡ b → t ≡ record { pages = pages; memory = t.memory; globals = globals; refused = r; by_choice = b }
      five pages memory globals r b t p g f c =
          ap (λ z. record { pages = z; memory = t.memory; globals = t.globals; refused = t.refused; by_choice = t.by_choice }) p
          ∙ ap (λ z. record { pages = pages; memory = t.memory; globals = z; refused = t.refused; by_choice = t.by_choice }) g
          ∙ ap (λ z. record { pages = pages; memory = t.memory; globals = globals; refused = z; by_choice = t.by_choice }) f
          ∙ ap (λ z. record { pages = pages; memory = t.memory; globals = globals; refused = r; by_choice = z }) c

      all_is : (t : Store) (past : ℕ) → Placed old x first t past → t ≡ set_entry Heap m past (record (held past old) { memory = t.memory })
      all_is t past p =
          five (old.pages + (pages_for past - old.pages)) t.memory (slice_set old.globals x (I32 past)) old.refused old.by_choice t p.pages p.globals p.refused p.by_choice
          ∙ ap (λ (o : Option ℕ). set_at o past (record (held past old) { memory = t.memory })) (sym hx)

-- ---- the whole call

heap_there : (m : Parts) (x heap : ℕ) (s : Store) → index_of Heap m ≡ Some x → global_of Heap m s ≡ Some heap → slice_get s.globals x ≡ Some (I32 heap)
heap_there m x heap s hx e = read_i32 (slice_get s.globals x) heap (sym (ap (option_and_then (λ y. option_and_then i32_of (slice_get s.globals y))) hx) ∙ e)

pub values_says : (old mid last new : MachineShown) (args : List DataNodes) (ws : List ℕ) (at : ℕ) → StackSays old mid ws (put_trees old.program old.cap args (record { store = store_of old.state; words = [] })) (Ok tt) → PutSays mid last ws (Ok at) →
    new ≡ record last { state = with_store last.state (set_entry Args last.program at (store_of last.state)) } → (old.failed ≡ false → HasHeap old.program (store_of old.state)) → (old.failed ≡ false → IsAtStart old) → IsForCall old.program →
    Each IsSmallData args → Each IsTree args → StoreSays old new args (Ok tt)
values_says old mid last new args ws at (s, trees, is) put set heap start call small are_trees =
    let (sound, (t, put_is, last_is)) = subst (λ (x : MachineShown). PutSays x last ws (Ok at)) is put in
    let p = old.program in
    let here : put_block p old.cap ws s ≡ Some (at, t) = ap (put_block p old.cap ws) (sym (store_again old.state s)) ∙ put_is in
    let last_state = ap (λ (x : State). record old { state = x }) (with_again old.state s t) in
    let last_at = last_is ∙ last_state in
    let new_is =
    set
    ∙ ap (λ (x : MachineShown). record x { state = with_store x.state (set_entry Args x.program at (store_of x.state)) }) last_at
    ∙ ap (λ (y : Store). record old { state = with_store (with_store old.state t) (set_entry Args p at y) }) (store_again old.state t)
    ∙ ap (λ (x : State). record old { state = x }) (with_again old.state t (set_entry Args p at t)) in
    let done : put_arguments p old.cap args (store_of old.state) ≡ Some (set_entry Args p at t) = ap (option_and_then (put_last p old.cap)) trees ∙ ap (option_map (λ (y : ℕ × Store). set_entry Args p y.0 y.1)) here in
    let h = heap sound in
    let ready = (start sound).ready in (
      sound,
      (
        set_entry Args p at t,
        done,
        has_stored p old.cap call.heap_at call.heap (store_of old.state) h.heap (heap_there p call.heap_at h.heap (store_of old.state) call.heap h.is) ready.words.size h.there h.inside h.quarter h.aligned args small are_trees (set_entry Args p at t) done,
        new_is,
      ),
    )
