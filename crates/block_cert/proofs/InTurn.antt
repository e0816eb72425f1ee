-- Walks over a list, item by item: each in turn, or what is found of each collected.
use Rattle.std.proofs.Common.{◌≡◌, ◌∙◌, sym, ap, subst, ℕ, ◌+◌, ◌<◌, ◌≤◌, List, [], ◌∷◌, ◌++◌, length, drop, get_or, Result, Ok, Err}
use Rattle.pc_rules.proofs.ListSteps.{next_is, none_left}
use Rattle.cert_rules.specs.Walk.{WalkState, Walk, WalkAct, pass, walk_on}
use Rattle.cert_rules.proofs.Collecting.{collected_before, collected_none, collected_more, collected_all}
use Rattle.type_cert.specs.declared.halt.WalkHalt.{WalkHalt}
use Rattle.type_cert.specs.declared.trail.Trail.{Trail}
use Rattle.type_cert.specs.Retraces.{stand, Retraces}
use Rattle.type_cert.proofs.Retracing.{retraces_on, retraces_err, retraces_pass}

-- what answers for the rest answers for the whole, with what was found before; and so for what is left after one item more
module _ {A : Type 0} (whole : Walk (List A)) (out : List A) (t0 : Trail) where
  abbrev pub Collects : Walk (List A) → Trail → Type 0
  Collects rest u = (r : Result (List A) WalkHalt) (t : Trail) → Retraces rest r u t → Retraces whole (collected_before out r) t0 t

  pub collects_more : (here rest : Walk (List A)) (x : A) (u v : Trail) → Collects here u →
      ((r : Result (List A) WalkHalt) (t : Trail) → Retraces rest r v t → Retraces here (collected_before (x ∷ []) r) u t) →
      (r : Result (List A) WalkHalt) (t : Trail) → Retraces rest r v t → Retraces whole (collected_before (out ++ (x ∷ [])) r) t0 t
  collects_more here rest x u v all one r t p = subst (λ a. Retraces whole a t0 t) (collected_more out x r) (all (collected_before (x ∷ []) r) t (one r t p))

  pub collects_all : (here : Walk (List A)) (u : Trail) → Collects here u → Retraces here (Ok []) u u → Retraces whole (Ok out) t0 u
  collects_all here u all p = subst (λ a. Retraces whole a t0 u) (collected_all out) (all (Ok []) u p)

pub collects_start : {A : Type 0} (whole : Walk (List A)) (t0 : Trail) → (r : Result (List A) WalkHalt) (t : Trail) → Retraces whole r t0 t → Retraces whole (collected_before [] r) t0 t
collects_start whole t0 r t p = subst (λ a. Retraces whole a t0 t) (sym (collected_none r)) p

-- what is found of the first, and the rest
module _ {A B : Type 0} (one : Walk A) (rest : WalkState → Walk (List B)) (g : A → B) where
  abbrev pub collected : Walk (List B)
  collected = walk_on one (λ a v. walk_on (rest v) (λ bs w. pass (g a ∷ bs) w))

  pub collect_next : (a : A) (r : Result (List B) WalkHalt) (t0 t1 t2 : Trail) → Retraces one (Ok a) t0 t1 → Retraces (rest (stand t1)) r t1 t2 →
      Retraces collected (collected_before (g a ∷ []) r) t0 t2
  collect_next a (Ok bs) t0 t1 t2 p q =
      retraces_on (λ a v. walk_on (rest v) (λ bs w. pass (g a ∷ bs) w)) p (retraces_on (λ bs w. pass (g a ∷ bs) w) q (retraces_pass (g a ∷ bs) t2))
  collect_next a (Err h) t0 t1 t2 p q =
      retraces_on (λ a v. walk_on (rest v) (λ bs w. pass (g a ∷ bs) w)) p (retraces_err (λ bs w. pass (g a ∷ bs) w) q)

  pub collect_stop : (h : WalkHalt) (t0 t1 : Trail) → Retraces one (Err h) t0 t1 → Retraces collected (Err h) t0 t1
  collect_stop h t0 t1 p = retraces_err (λ a v. walk_on (rest v) (λ bs w. pass (g a ∷ bs) w)) p

-- each of a list, where what is found is collected
module _ {X A B : Type 0} (all : List X → WalkState → Walk (List B)) (one : X → WalkState → Walk A) (g : X → A → B) where
  pub none_found : ((u : WalkState) → all [] u ≡ pass [] u) → (xs : List X) (i : ℕ) (t : Trail) → length xs ≤ i → Retraces (all (drop i xs) (stand t)) (Ok []) t t
  none_found none xs i t l = subst (λ d. Retraces d (Ok []) t t) (sym (ap (λ ys. all ys (stand t)) (none_left xs i l) ∙ none (stand t))) (retraces_pass [] t)

  module _ (next : (x : X) (xs : List X) (u : WalkState) → all (x ∷ xs) u ≡ collected (one x u) (all xs) (g x)) (xs : List X) (i : ℕ) (x : X) (l : i < length xs) (is : x ≡ get_or xs i x) where
    from_item : (u : WalkState) → all (drop i xs) u ≡ collected (one x u) (all (drop (i + 1) xs)) (g x)
    from_item u = ap (λ ys. all ys u) (next_is xs i x l is) ∙ next x (drop (i + 1) xs) u

    pub item_found : (a : A) (t0 t1 : Trail) → Retraces (one x (stand t0)) (Ok a) t0 t1 → (r : Result (List B) WalkHalt) (t : Trail) →
        Retraces (all (drop (i + 1) xs) (stand t1)) r t1 t → Retraces (all (drop i xs) (stand t0)) (collected_before (g x a ∷ []) r) t0 t
    item_found a t0 t1 p r t q =
        subst (λ d. Retraces d (collected_before (g x a ∷ []) r) t0 t) (sym (from_item (stand t0))) (collect_next (one x (stand t0)) (all (drop (i + 1) xs)) (g x) a r t0 t1 t p q)

    pub item_halts : (h : WalkHalt) (t0 t1 : Trail) → Retraces (one x (stand t0)) (Err h) t0 t1 → Retraces (all (drop i xs) (stand t0)) (Err h) t0 t1
    item_halts h t0 t1 p = subst (λ d. Retraces d (Err h) t0 t1) (sym (from_item (stand t0))) (collect_stop (one x (stand t0)) (all (drop (i + 1) xs)) (g x) h t0 t1 p)

-- each of a list, where nothing is found
module _ {X : Type 0} (all : List X → WalkAct) (one : X → WalkAct) where
  pub none_goes : ((u : WalkState) → all [] u ≡ pass tt u) → (xs : List X) (i : ℕ) (t : Trail) → length xs ≤ i → Retraces (all (drop i xs) (stand t)) (Ok tt) t t
  none_goes none xs i t l = subst (λ d. Retraces d (Ok tt) t t) (sym (ap (λ ys. all ys (stand t)) (none_left xs i l) ∙ none (stand t))) (retraces_pass tt t)

  module _ (next : (x : X) (xs : List X) (u : WalkState) → all (x ∷ xs) u ≡ walk_on (one x u) (λ _ v. all xs v)) (xs : List X) (i : ℕ) (x : X) (l : i < length xs) (is : x ≡ get_or xs i x) where
    at_item : (u : WalkState) → all (drop i xs) u ≡ walk_on (one x u) (λ _ v. all (drop (i + 1) xs) v)
    at_item u = ap (λ ys. all ys u) (next_is xs i x l is) ∙ next x (drop (i + 1) xs) u

    pub item_goes : (t0 t1 : Trail) → Retraces (one x (stand t0)) (Ok tt) t0 t1 → (r : Result (Unit {0}) WalkHalt) (t : Trail) →
        Retraces (all (drop (i + 1) xs) (stand t1)) r t1 t → Retraces (all (drop i xs) (stand t0)) r t0 t
    item_goes t0 t1 p r t q = subst (λ d. Retraces d r t0 t) (sym (at_item (stand t0))) (retraces_on (λ _ v. all (drop (i + 1) xs) v) p q)

    pub item_stays : (h : WalkHalt) (t0 t1 : Trail) → Retraces (one x (stand t0)) (Err h) t0 t1 → Retraces (all (drop i xs) (stand t0)) (Err h) t0 t1
    item_stays h t0 t1 p = subst (λ d. Retraces d (Err h) t0 t1) (sym (at_item (stand t0))) (retraces_err (λ _ v. all (drop (i + 1) xs) v) p)
