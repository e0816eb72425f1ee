-- Runs that write over a list, item by item: each in turn, or what is made of each collected.
use Rattle.std.proofs.Common.{◌≡◌, ◌∙◌, sym, ap, subst, ℕ, ◌+◌, ◌<◌, ◌≤◌, List, [], ◌∷◌, ◌++◌, length, drop, get_or, Result, Ok, Err}
use Rattle.pc_rules.specs.declared.meter.Account.{Account}
use Rattle.pc_rules.specs.declared.stop.Halt.{Halt}
use Rattle.pc_rules.specs.DirectedRun.{Run, done}
use Rattle.pc_rules.proofs.ListSteps.{next_is, none_left}
use Rattle.cert_rules.specs.Writing.{Wrote, WriteAct, silent, write_on}
use Rattle.cert_rules.proofs.Collecting.{collected_before, collected_none, collected_more, collected_all}
use Rattle.script_making.specs.declared.draft.Draft.{Draft}
use Rattle.script_making.specs.Makes.{Makes}
use Rattle.script_making.proofs.Making.{makes_on, makes_err, makes_done}

-- what is made of the rest is made of the whole, with what was made before; and so for what is left after one item more
module _ {A : Type 0} (whole : Run (Wrote (List A))) (out : List A) (t0 : Draft) where
  abbrev pub Collects : Run (Wrote (List A)) → Draft → Type 0
  Collects rest u = (r : Result (List A) Halt) (t : Draft) → Makes rest r u t → Makes whole (collected_before out r) t0 t

  pub collects_more : (here rest : Run (Wrote (List A))) (x : A) (u v : Draft) → Collects here u →
      ((r : Result (List A) Halt) (t : Draft) → Makes rest r v t → Makes here (collected_before (x ∷ []) r) u t) →
      (r : Result (List A) Halt) (t : Draft) → Makes rest r v t → Makes whole (collected_before (out ++ (x ∷ [])) r) t0 t
  collects_more here rest x u v all one r t p = subst (λ a. Makes whole a t0 t) (collected_more out x r) (all (collected_before (x ∷ []) r) t (one r t p))

  pub collects_all : (here : Run (Wrote (List A))) (u : Draft) → Collects here u → Makes here (Ok []) u u → Makes whole (Ok out) t0 u
  collects_all here u all p = subst (λ a. Makes whole a t0 u) (collected_all out) (all (Ok []) u p)

pub collects_start : {A : Type 0} (whole : Run (Wrote (List A))) (t0 : Draft) → (r : Result (List A) Halt) (t : Draft) → Makes whole r t0 t → Makes whole (collected_before [] r) t0 t
collects_start whole t0 r t p = subst (λ a. Makes whole a t0 t) (sym (collected_none r)) p

-- what is made of the first, and the rest
module _ {A B : Type 0} (one : Run (Wrote A)) (rest : Account → Run (Wrote (List B))) (g : A → B) where
  abbrev pub collected : Run (Wrote (List B))
  collected = write_on one (λ a v. write_on (rest v) (λ bs w. silent (done (g a ∷ bs)) w))

  pub collect_next : (a : A) (r : Result (List B) Halt) (t0 t1 t2 : Draft) → Makes one (Ok a) t0 t1 → Makes (rest t1.meter.account) r t1 t2 → Makes collected (collected_before (g a ∷ []) r) t0 t2
  collect_next a (Ok bs) t0 t1 t2 p q =
      makes_on (λ a v. write_on (rest v) (λ bs w. silent (done (g a ∷ bs)) w)) p (makes_on (λ bs w. silent (done (g a ∷ bs)) w) q (makes_done (g a ∷ bs) t2))
  collect_next a (Err h) t0 t1 t2 p q =
      makes_on (λ a v. write_on (rest v) (λ bs w. silent (done (g a ∷ bs)) w)) p (makes_err (λ bs w. silent (done (g a ∷ bs)) w) q)

  pub collect_stop : (h : Halt) (t0 t1 : Draft) → Makes one (Err h) t0 t1 → Makes collected (Err h) t0 t1
  collect_stop h t0 t1 p = makes_err (λ a v. write_on (rest v) (λ bs w. silent (done (g a ∷ bs)) w)) p

-- each of a list, from number i on, where what is made is collected
module _ {X A B : Type 0} (all : ℕ → List X → Account → Run (Wrote (List B))) (one : ℕ → X → Account → Run (Wrote A)) (g : X → A → B) where
  pub none_made : ((i : ℕ) (u : Account) → all i [] u ≡ silent (done []) u) → (xs : List X) (i : ℕ) (t : Draft) → length xs ≤ i → Makes (all i (drop i xs) t.meter.account) (Ok []) t t
  none_made none xs i t l =
      subst (λ d. Makes d (Ok []) t t) (sym (ap (λ ys. all i ys t.meter.account) (none_left xs i l) ∙ none i t.meter.account)) (makes_done [] t)

  module _ (next : (i : ℕ) (x : X) (xs : List X) (u : Account) → all i (x ∷ xs) u ≡ collected (one i x u) (all (i + 1) xs) (g x)) (xs : List X) (i : ℕ) (x : X) (l : i < length xs) (is : x ≡ get_or xs i x) where
    from_item : (u : Account) → all i (drop i xs) u ≡ collected (one i x u) (all (i + 1) (drop (i + 1) xs)) (g x)
    from_item u = ap (λ ys. all i ys u) (next_is xs i x l is) ∙ next i x (drop (i + 1) xs) u

    pub item_made : (a : A) (t0 t1 : Draft) → Makes (one i x t0.meter.account) (Ok a) t0 t1 → (r : Result (List B) Halt) (t : Draft) →
        Makes (all (i + 1) (drop (i + 1) xs) t1.meter.account) r t1 t → Makes (all i (drop i xs) t0.meter.account) (collected_before (g x a ∷ []) r) t0 t
    item_made a t0 t1 p r t q =
        subst (λ d. Makes d (collected_before (g x a ∷ []) r) t0 t) (sym (from_item t0.meter.account))
        (collect_next (one i x t0.meter.account) (all (i + 1) (drop (i + 1) xs)) (g x) a r t0 t1 t p q)

    pub item_halts : (h : Halt) (t0 t1 : Draft) → Makes (one i x t0.meter.account) (Err h) t0 t1 → Makes (all i (drop i xs) t0.meter.account) (Err h) t0 t1
    item_halts h t0 t1 p =
        subst (λ d. Makes d (Err h) t0 t1) (sym (from_item t0.meter.account)) (collect_stop (one i x t0.meter.account) (all (i + 1) (drop (i + 1) xs)) (g x) h t0 t1 p)

-- each of a list, where nothing is collected
module _ {X : Type 0} (all : List X → WriteAct) (one : X → WriteAct) where
  pub none_goes : ((u : Account) → all [] u ≡ silent (done tt) u) → (xs : List X) (i : ℕ) (t : Draft) → length xs ≤ i → Makes (all (drop i xs) t.meter.account) (Ok tt) t t
  none_goes none xs i t l = subst (λ d. Makes d (Ok tt) t t) (sym (ap (λ ys. all ys t.meter.account) (none_left xs i l) ∙ none t.meter.account)) (makes_done tt t)

  module _ (next : (x : X) (xs : List X) (u : Account) → all (x ∷ xs) u ≡ write_on (one x u) (λ _ v. all xs v)) (xs : List X) (i : ℕ) (x : X) (l : i < length xs) (is : x ≡ get_or xs i x) where
    at_item : (u : Account) → all (drop i xs) u ≡ write_on (one x u) (λ _ v. all (drop (i + 1) xs) v)
    at_item u = ap (λ ys. all ys u) (next_is xs i x l is) ∙ next x (drop (i + 1) xs) u

    pub item_goes : (t0 t1 : Draft) → Makes (one x t0.meter.account) (Ok tt) t0 t1 → (r : Result (Unit {0}) Halt) (t : Draft) →
        Makes (all (drop (i + 1) xs) t1.meter.account) r t1 t → Makes (all (drop i xs) t0.meter.account) r t0 t
    item_goes t0 t1 p r t q = subst (λ d. Makes d r t0 t) (sym (at_item t0.meter.account)) (makes_on (λ _ v. all (drop (i + 1) xs) v) p q)

    pub item_stays : (h : Halt) (t0 t1 : Draft) → Makes (one x t0.meter.account) (Err h) t0 t1 → Makes (all (drop i xs) t0.meter.account) (Err h) t0 t1
    item_stays h t0 t1 p = subst (λ d. Makes d (Err h) t0 t1) (sym (at_item t0.meter.account)) (makes_err (λ _ v. all (drop (i + 1) xs) v) p)
