-- A test of each item of a list, the first first, followed item by item.
use Rattle.std.proofs.Common.{◌≡◌, ◌∙◌, ℕ, ◌+◌, ◌<◌, ◌≤◌, Bool, true, false, if◌then◌else◌, List, [], ◌∷◌, length, drop, get_or, Result, Ok, Err, sym, ap, subst}
use Rattle.pc_rules.specs.declared.meter.Account.{Account}
use Rattle.pc_rules.specs.declared.meter.Meter.{Meter}
use Rattle.pc_rules.specs.declared.stop.Halt.{Halt}
use Rattle.pc_rules.specs.DirectedRun.{Run, done, Leaves}
use Rattle.pc_rules.specs.DirectedPositivity.{both}
use Rattle.pc_rules.specs.Follows.{Follows}
use Rattle.pc_rules.proofs.Fair.{leaves_if, same_left}
use Rattle.pc_rules.proofs.Following.{follows_bind, follows_err, follows_done}
use Rattle.pc_rules.proofs.ListSteps.{next_is, none_left}

-- two tests
module _ (d : Run Bool) (rest : Account → Run Bool) (m0 m1 : Meter) where
  pub first_stops : (h : Halt) → Follows d (Err h) m0 m1 → ((v : Account) → Leaves (rest v).end v.left) → Follows (both d rest) (Err h) m0 m1
  first_stops h f q = follows_err d (λ b v. if b then rest v else done false v) h m0 m1 f (λ b v. leaves_if b (rest v) (done false v) v.left (q v) (same_left v))

  pub first_fails : (b : Bool) → b ≡ false → Follows d (Ok b) m0 m1 → Follows (both d rest) (Ok false) m0 m1
  first_fails b e f =
      follows_bind d (λ b v. if b then rest v else done false v) false (Ok false) m0 m1 m1 (subst (λ b. Follows d (Ok b) m0 m1) e f) (follows_done false m1)

  pub first_holds : (b : Bool) → b ≡ true → Follows d (Ok b) m0 m1 → (r : Result Bool Halt) (n : Meter) → Follows (rest m1.account) r m1 n → Follows (both d rest) r m0 n
  first_holds b e f r n g = follows_bind d (λ b v. if b then rest v else done false v) true r m0 m1 n (subst (λ b. Follows d (Ok b) m0 m1) e f) g

module _ {X : Type 0} (one : X → Account → Run Bool) (all : List X → Account → Run Bool) where
  -- no item is left
  pub none_fails : (none : (u : Account) → all [] u ≡ done true u) (xs : List X) (i : ℕ) (m : Meter) → length xs ≤ i → Follows (all (drop i xs) m.account) (Ok true) m m
  none_fails none xs i m l = subst (λ d. Follows d (Ok true) m m) (sym (ap (λ ys. all ys m.account) (none_left xs i l) ∙ none m.account)) (follows_done true m)

  -- item i
  module _ (next : (x : X) (xs : List X) (u : Account) → all (x ∷ xs) u ≡ both (one x u) (all xs)) (xs : List X) (i : ℕ) (x : X) (l : i < length xs) (is : x ≡ get_or xs i x) (m0 m1 : Meter) where
    from_item : all (drop i xs) m0.account ≡ both (one x m0.account) (all (drop (i + 1) xs))
    from_item = ap (λ ys. all ys m0.account) (next_is xs i x l is) ∙ next x (drop (i + 1) xs) m0.account

    pub item_stops : (h : Halt) → Follows (one x m0.account) (Err h) m0 m1 → ((ys : List X) (v : Account) → Leaves (all ys v).end v.left) →
        Follows (all (drop i xs) m0.account) (Err h) m0 m1
    item_stops h f q = subst (λ d. Follows d (Err h) m0 m1) (sym from_item) (first_stops (one x m0.account) (all (drop (i + 1) xs)) m0 m1 h f (q (drop (i + 1) xs)))

    pub item_fails : (b : Bool) → b ≡ false → Follows (one x m0.account) (Ok b) m0 m1 → Follows (all (drop i xs) m0.account) (Ok false) m0 m1
    item_fails b e f = subst (λ d. Follows d (Ok false) m0 m1) (sym from_item) (first_fails (one x m0.account) (all (drop (i + 1) xs)) m0 m1 b e f)

    pub item_holds : (b : Bool) → b ≡ true → Follows (one x m0.account) (Ok b) m0 m1 → (r : Result Bool Halt) (n : Meter) →
        Follows (all (drop (i + 1) xs) m1.account) r m1 n → Follows (all (drop i xs) m0.account) r m0 n
    item_holds b e f r n g = subst (λ d. Follows d r m0 n) (sym from_item) (first_holds (one x m0.account) (all (drop (i + 1) xs)) m0 m1 b e f r n g)
