-- The end of a module's answer is one, and what it is where every run answers the same data or is exhausted.
use Rattle.std.proofs.Common.{◌≡◌, ◌≢◌, ℕ, suc, ◌<◌, ◌≤◌, length, Option, Some, Bool, Result, Ok, Err, refl, sym, ap, subst, ◌∙◌, arith, ◌⊎◌, inl, inr}
use Rattle.std.proofs.lemmas.Bool.{cases_lt}
use Rattle.std.proofs.lemmas.Option.{same_Some}
use Rattle.wasm_core.specs.declared.ended.Ended.{Ended}
use Rattle.wasm_core.specs.declared.ended.Ended.TheVariants.{Returned, Trapped}
use Rattle.wasm_core.specs.declared.ended.TrapKind.{TrapKind}
use Rattle.wasm_core.specs.declared.entries.Entry.TheVariants as entry
use Rattle.wasm_core.specs.Parts.{Parts}
use Rattle.wasm_core.specs.ShortestBytes.{module_bytes, most_bytes}
use Rattle.wasm_core.specs.MachineStep.{Conf, State, Store, At, Over, step, StepsTo, Reach}
use Rattle.wasm_core.specs.MachineRun.{GoesOn}
use Rattle.wasm_core.specs.Runs.{main_start}
use Rattle.wasm_core.specs.Answer.{global_of, Answers, answers, Exhausted, exhausted, AnswersFrom, IsAtEnd, IsAnswer}
use Rattle.wasm_core.specs.WordData.{DataNodes, StandsFor}
use Rattle.wasm_core.proofs.DataUnique.{data_unique}
use Rattle.wasm_core.proofs.Trees.{moves_are_steps}
use Rattle.mem_value.specs.Tells.{HasData, HasMany, most_nodes}
use Rattle.module_run.specs.declared.answer.Answer.{Answer}
use Rattle.module_run.specs.declared.refusal.RunRefusal.{RunRefusal}
use Rattle.module_run.specs.declared.refusal.RunRefusal.TheVariants as refusals
use Rattle.module_run.specs.Ends.{EndsFrom, IsSmall, IsRunFrom, IsLongerFrom, IsReturnedFrom}
use Rattle.module_run.specs.EndLaws.{AnswersOrSpends, EndIsOne, EndsAnswer}
use Rattle.module_run.proofs.OneRun.{one_run_from, not_longer}

-- what an end is of: no bytes, a run that goes on, one that trapped, one that returned

abbrev of_trap : Store → TrapKind → Parts → Result Answer RunRefusal → Type 0
of_trap store kind m r = ((r ≡ Err refusals.Exhausted) × (global_of entry.Status m store ≡ Some 1)) ⊎ ((r ≡ Err (refusals.Trapped kind)) × (global_of entry.Status m store ≢ Some 1))

abbrev of_return : Store → ℕ → Result Answer RunRefusal → Type 0
of_return store word (Ok a) = (a.word ≡ word) × StandsFor store.memory word a.tree × (length a.tree ≤ most_nodes)
of_return store word (Err (refusals.NoValue x)) = (x ≡ word) × (HasData store.memory word → ⊥)
of_return store word (Err refusals.AnswerNodes) = HasMany store.memory word
of_return store word (Err r) = ⊥

data Way (o : Option State) (m : Parts) (cap n : ℕ) (r : Result Answer RunRefusal) : Type 0 where
  large : most_bytes < length (module_bytes m) → r ≡ Err refusals.ModuleBytes → Way o m cap n r
  long : IsSmall m → IsLongerFrom o m cap n → r ≡ Err refusals.StepsSpent → Way o m cap n r
  trap : IsSmall m → (kind : TrapKind) (store : Store) → IsRunFrom o m cap n (Over (Trapped kind) store) → of_trap store kind m r → Way o m cap n r
  back : IsSmall m → (store : Store) (word : ℕ) → IsRunFrom o m cap n (Over Returned store) → global_of entry.Result m store ≡ Some word → of_return store word r → Way o m cap n r

some_other : {x y : ℕ} (p : Option ℕ) → p ≡ Some x → x ≢ y → p ≢ Some y
some_other p e n f = n (same_Some _ _ (sym e ∙ f))

way_of : (o : Option State) (m : Parts) (cap n : ℕ) (r : Result Answer RunRefusal) → EndsFrom o m cap n r → r ≢ Err refusals.Memory → Way o m cap n r
way_of o m cap n (Ok a) (small, h) k = back small h.returned.store a.word h.returned.run h.returned.word_is (refl, h.stands, h.few)
way_of o m cap n (Err refusals.ModuleBytes) h k = large h refl
way_of o m cap n (Err refusals.StepsSpent) (small, h) k = long small h refl
way_of o m cap n (Err refusals.Exhausted) (small, (kind, h)) k = trap small kind h.store h.run (inl (refl, h.status_is))
way_of o m cap n (Err (refusals.Trapped kind)) (small, (status, other, h)) k = trap small kind h.store h.run (inr (refl, some_other (global_of entry.Status m h.store) h.status_is other))
way_of o m cap n (Err (refusals.NoValue word)) (small, h) k = back small h.returned.store word h.returned.run h.returned.word_is (refl, h.none)
way_of o m cap n (Err refusals.AnswerNodes) (small, h) k = back small h.returned.store h.word h.returned.run h.returned.word_is h.many
way_of o m cap n (Err refusals.Memory) h k = absurd (k refl)

-- equal ends

abbrev store_in : State → Store → Store
store_in (Over x s) t = s
store_in (At c) t = t

abbrev end_in : State → Ended → Ended
end_in (Over x s) y = x
end_in (At c) y = y

abbrev kind_in : Ended → TrapKind → TrapKind
kind_in (Trapped k) j = k
kind_in Returned j = j

traps_same : (m : Parts) (kind : TrapKind) (store : Store) (a b : Result Answer RunRefusal) → of_trap store kind m a → of_trap store kind m b → a ≡ b
traps_same m kind store a b (inl (e, x)) (inl (f, y)) = e ∙ sym f
traps_same m kind store a b (inl (e, x)) (inr (f, y)) = absurd (y x)
traps_same m kind store a b (inr (e, x)) (inl (f, y)) = absurd (x y)
traps_same m kind store a b (inr (e, x)) (inr (f, y)) = e ∙ sym f

same_answer : (a b : Answer) → a.word ≡ b.word → a.tree ≡ b.tree → a ≡ b
same_answer a b e f = λ i. record { word = e i; tree = f i }

returns_same : (store : Store) (word : ℕ) (a b : Result Answer RunRefusal) → of_return store word a → of_return store word b → a ≡ b
returns_same store word (Ok a) (Ok b) (e, s, l) (f, t, k) = ap Ok (same_answer a b (e ∙ sym f) (data_unique store.memory word a.tree b.tree s t))
returns_same store word (Ok a) (Err (refusals.NoValue x)) (e, s, l) (f, none) = absurd (none (a.tree, s))
returns_same store word (Ok a) (Err refusals.AnswerNodes) (e, s, l) (d, t, many) = absurd (omega (arith, l, many, ap (λ (x : DataNodes). length x) (data_unique store.memory word a.tree d s t)))
returns_same store word (Err (refusals.NoValue x)) (Ok b) (f, none) (e, s, l) = absurd (none (b.tree, s))
returns_same store word (Err (refusals.NoValue x)) (Err (refusals.NoValue y)) (e, none) (f, other) = ap (λ w. Err (refusals.NoValue w)) (e ∙ sym f)
returns_same store word (Err (refusals.NoValue x)) (Err refusals.AnswerNodes) (e, none) (d, t, many) = absurd (none (d, t))
returns_same store word (Err refusals.AnswerNodes) (Ok b) (d, t, many) (e, s, l) = absurd (omega (arith, l, many, ap (λ (x : DataNodes). length x) (data_unique store.memory word b.tree d s t)))
returns_same store word (Err refusals.AnswerNodes) (Err (refusals.NoValue x)) (d, t, many) (e, none) = absurd (none (d, t))
returns_same store word (Err refusals.AnswerNodes) (Err refusals.AnswerNodes) h k = refl
returns_same store word (Ok a) (Err refusals.ModuleBytes) h k = absurd k
returns_same store word (Ok a) (Err refusals.StepsSpent) h k = absurd k
returns_same store word (Ok a) (Err refusals.Exhausted) h k = absurd k
returns_same store word (Ok a) (Err (refusals.Trapped x)) h k = absurd k
returns_same store word (Ok a) (Err refusals.Memory) h k = absurd k
returns_same store word (Err refusals.ModuleBytes) b h k = absurd h
returns_same store word (Err refusals.StepsSpent) b h k = absurd h
returns_same store word (Err refusals.Exhausted) b h k = absurd h
returns_same store word (Err (refusals.Trapped x)) b h k = absurd h
returns_same store word (Err refusals.Memory) b h k = absurd h
returns_same store word (Err (refusals.NoValue x)) (Err refusals.ModuleBytes) h k = absurd k
returns_same store word (Err (refusals.NoValue x)) (Err refusals.StepsSpent) h k = absurd k
returns_same store word (Err (refusals.NoValue x)) (Err refusals.Exhausted) h k = absurd k
returns_same store word (Err (refusals.NoValue x)) (Err (refusals.Trapped y)) h k = absurd k
returns_same store word (Err (refusals.NoValue x)) (Err refusals.Memory) h k = absurd k
returns_same store word (Err refusals.AnswerNodes) (Err refusals.ModuleBytes) h k = absurd k
returns_same store word (Err refusals.AnswerNodes) (Err refusals.StepsSpent) h k = absurd k
returns_same store word (Err refusals.AnswerNodes) (Err refusals.Exhausted) h k = absurd k
returns_same store word (Err refusals.AnswerNodes) (Err (refusals.Trapped y)) h k = absurd k
returns_same store word (Err refusals.AnswerNodes) (Err refusals.Memory) h k = absurd k

module _ (o : Option State) (m : Parts) (cap n : ℕ) (a b : Result Answer RunRefusal) where
  trapped_both : (j k : TrapKind) (s t : Store) → IsRunFrom o m cap n (Over (Trapped j) s) → IsRunFrom o m cap n (Over (Trapped k) t) → of_trap s j m a → of_trap t k m b → a ≡ b
  trapped_both j k s t r q x y =
      let same = one_run_from m cap o n (Trapped j) (Trapped k) s t r q in
      let kinds : j ≡ k = ap (λ z. kind_in (end_in z (Trapped j)) j) same in
      let stores : s ≡ t = ap (λ z. store_in z s) same in
      traps_same m k t a b (subst (λ z. of_trap t z m a) kinds (subst (λ z. of_trap z j m a) stores x)) y

  returned_both : (s t : Store) (v w : ℕ) → IsRunFrom o m cap n (Over Returned s) → IsRunFrom o m cap n (Over Returned t) → global_of entry.Result m s ≡ Some v → global_of entry.Result m t ≡ Some w →
      of_return s v a → of_return t w b → a ≡ b
  returned_both s t v w r q e f x y =
      let stores : s ≡ t = ap (λ z. store_in z s) (one_run_from m cap o n Returned Returned s t r q) in
      let words : v ≡ w = same_Some _ _ (sym e ∙ ap (global_of entry.Result m) stores ∙ f) in
      returns_same t w a b (subst (λ z. of_return t z a) words (subst (λ z. of_return z v a) stores x)) y

  never : (k : TrapKind) (s t : Store) → IsRunFrom o m cap n (Over (Trapped k) s) → IsRunFrom o m cap n (Over Returned t) → ⊥
  never k s t r q = let same : Trapped k ≡ Returned = ap (λ z. end_in z Returned) (one_run_from m cap o n (Trapped k) Returned s t r q) in cc

  one_way : Way o m cap n a → Way o m cap n b → a ≡ b
  one_way (large h e) (large k f) = e ∙ sym f
  one_way (large h e) (long s k f) = absurd (omega (arith, h, s))
  one_way (large h e) (trap s j st r f) = absurd (omega (arith, h, s))
  one_way (large h e) (back s st w r g f) = absurd (omega (arith, h, s))
  one_way (long s h e) (large k f) = absurd (omega (arith, k, s))
  one_way (long s h e) (long s' k f) = e ∙ sym f
  one_way (long s h e) (trap s' j st r f) = absurd (not_longer m cap o n (Trapped j) st r h)
  one_way (long s h e) (back s' st w r g f) = absurd (not_longer m cap o n Returned st r h)
  one_way (trap s j st r e) (large k f) = absurd (omega (arith, k, s))
  one_way (trap s j st r e) (long s' k f) = absurd (not_longer m cap o n (Trapped j) st r k)
  one_way (trap s j st r e) (trap s' j' st' r' f) = trapped_both j j' st st' r r' e f
  one_way (trap s j st r e) (back s' st' w r' g f) = absurd (never j st st' r r')
  one_way (back s st w r g e) (large k f) = absurd (omega (arith, k, s))
  one_way (back s st w r g e) (long s' k f) = absurd (not_longer m cap o n Returned st r k)
  one_way (back s st w r g e) (trap s' j st' r' f) = absurd (never j st' st r' r)
  one_way (back s st w r g e) (back s' st' w' r' g' f) = returned_both st st' w w' r r' g g' e f

pub end_from_is_one : (o : Option State) (m : Parts) (cap n : ℕ) (a b : Result Answer RunRefusal) → EndsFrom o m cap n a → EndsFrom o m cap n b → a ≢ Err refusals.Memory → b ≢ Err refusals.Memory → a ≡ b
end_from_is_one o m cap n a b h k x y = one_way o m cap n a b (way_of o m cap n a h x) (way_of o m cap n b k y)

pub end_is_one : EndIsOne
end_is_one m cap n = end_from_is_one (main_start m) m cap n

-- where every run answers the data or is exhausted

over_is_end : (m : Parts) (x : Ended) (s : Store) → IsAtEnd m (Over x s)
over_is_end m x s granted t h = h

trapped_answer : {m : Parts} {d : DataNodes} {k : TrapKind} {s : Store} → Answers m d (Over (Trapped k) s) → ⊥
trapped_answer h = elim h [ ]

returned_exhausted : {m : Parts} {s : Store} → Exhausted m (Over Returned s) → ⊥
returned_exhausted h = elim h [ ]

exhausted_status : {m : Parts} {k : TrapKind} {s : Store} → Exhausted m (Over (Trapped k) s) → global_of entry.Status m s ≡ Some 1
exhausted_status (exhausted h) = h.status

answer_in : {m : Parts} {d : DataNodes} {s : Store} → Answers m d (Over Returned s) → IsAnswer m d s
answer_in (answers h) = h

module _ (o : Option State) (m : Parts) (cap most n : ℕ) (d : DataNodes) (start : State) (at : o ≡ Some start) (w : AnswersFrom m most d start) where
  -- the run's end
  ended : (x : Ended) (s : Store) → IsRunFrom o m cap n (Over x s) → Answers m d (Over x s) ⊎ Exhausted m (Over x s)
  ended x s r =
      let first : r.first ≡ start = same_Some _ _ (sym r.starts ∙ at) in
      let reach = subst (λ z. Reach m r.steps z (Over x s)) first (moves_are_steps m cap r.steps r.first (Over x s) r.moves) in
      w.answers r.steps (Over x s) reach (over_is_end m x s)

  returned : (s : Store) → IsRunFrom o m cap n (Over Returned s) → IsAnswer m d s
  returned s r = elim (ended Returned s r) [ inl a ↦ answer_in a | inr e ↦ absurd (returned_exhausted e) ]

  trapped : (k : TrapKind) (s : Store) → IsRunFrom o m cap n (Over (Trapped k) s) → global_of entry.Status m s ≡ Some 1
  trapped k s r = elim (ended (Trapped k) s r) [ inl a ↦ absurd (trapped_answer a) | inr e ↦ exhausted_status e ]

  stands : (x : ℕ) (r : IsReturnedFrom o m cap n x) → StandsFor r.store.memory x d
  stands x r = (let a = returned r.store r.run in subst (λ v. StandsFor r.store.memory v d) (same_Some _ _ (sym a.result ∙ r.word_is)) a.stands)

  -- after fewer steps than the bound, where it goes on
  no_step : (granted : Bool) (k : ℕ) (c : Conf) → Reach m k start (At c) → k ≡ most → (next : Option State) → step m granted c ≡ next → (t : State) → StepsTo m granted (At c) t → ⊥
  no_step granted k c reach same next e t h = (let le = w.bounded (suc k) t (At c, reach, (granted, h)) in omega (arith, le, same))

  still : (k : ℕ) (s : State) → Reach m k start s → GoesOn s → k < most
  still k (Over x s) reach g = absurd g
  still k (At c) reach g =
      elim (cases_lt k most) [
        | inl lt ↦ lt
        | inr le ↦ let same : k ≡ most = omega (arith, le, w.bounded k (At c) reach) in
            absurd (elim (w.answers k (At c) reach (λ granted t h. no_step granted k c reach same (step m granted c) refl t h)) [ inl a ↦ at_no_answer a | inr e ↦ at_not_exhausted e ])
      ]
    where
      at_no_answer : {m : Parts} {d : DataNodes} {c : Conf} → Answers m d (At c) → ⊥
      at_no_answer h = elim h [ ]

      at_not_exhausted : {m : Parts} {c : Conf} → Exhausted m (At c) → ⊥
      at_not_exhausted h = elim h [ ]

  longer : IsLongerFrom o m cap n → n < most
  longer l =
      let first : l.first ≡ start = same_Some _ _ (sym l.starts ∙ at) in
      still n l.state (subst (λ z. Reach m n z l.state) first (moves_are_steps m cap n l.first l.state l.moves)) l.goes_on

pub ends_answer_from : (o : Option State) (m : Parts) (cap most n : ℕ) (d : DataNodes) (start : State) (r : Result Answer RunRefusal) → o ≡ Some start → AnswersFrom m most d start → EndsFrom o m cap n r → AnswersOrSpends most n d r
ends_answer_from o m cap most n d start (Ok a) at w (small, h) = data_unique h.returned.store.memory a.word a.tree d h.stands (stands o m cap most n d start at w a.word h.returned)
ends_answer_from o m cap most n d start (Err refusals.ModuleBytes) at w h = tt
ends_answer_from o m cap most n d start (Err refusals.StepsSpent) at w (small, h) = longer o m cap most n d start at w h
ends_answer_from o m cap most n d start (Err refusals.Exhausted) at w h = tt
ends_answer_from o m cap most n d start (Err (refusals.Trapped kind)) at w (small, (status, other, h)) = other (same_Some _ _ (sym h.status_is ∙ trapped o m cap most n d start at w kind h.store h.run))
ends_answer_from o m cap most n d start (Err (refusals.NoValue word)) at w (small, h) = h.none (d, stands o m cap most n d start at w word h.returned)
ends_answer_from o m cap most n d start (Err refusals.AnswerNodes) at w (small, h) =
    let (e, s, many) = h.many in
    subst (λ (x : DataNodes). most_nodes < length x) (data_unique h.returned.store.memory h.word e d s (stands o m cap most n d start at w h.word h.returned)) many
ends_answer_from o m cap most n d start (Err refusals.Memory) at w h = tt

pub ends_answer : EndsAnswer
ends_answer m cap most n d r w h = ends_answer_from (main_start m) m cap most n d w.first r w.starts (record { bounded = w.bounded; answers = w.answers }) h
