-- Lifting and substitution, by recursion on the tree. A variable's number is compared with a cutoff, which grows by the variables
-- that each place of a node binds.
use Rattle.std.specs.Prelude.{ℕ, zero, suc, ◌+◌, ◌-◌, nat_lt, ◌==◌, if◌then◌else◌, List, length}
use Rattle.std.proofs.Common.{get_or}
use Rattle.trees.specs.Tree.{Slot, Tree, Rel, Node, Places, End, Child, Group, Trees, Done, Next}

-- k + n, the cutoff under n more variables (by cases, so that it computes to k where n is 0)
abbrev pub deeper : ℕ → ℕ → ℕ
deeper zero k = k
deeper (suc n) k = k + suc n

-- the tree with f k i in the place of each variable i, k being the cutoff there
abbrev mutual
  pub walk : {L : Type 0} {slots : L → List Slot} → (ℕ → ℕ → Tree L slots) → ℕ → Tree L slots → Tree L slots
  walk f k (Rel i) = f k i
  walk f k (Node l ts) = Node l (walk_places f k ts)

  pub walk_places : {L : Type 0} {slots : L → List Slot} → (ℕ → ℕ → Tree L slots) → ℕ → {ss : List Slot} → Places L slots ss → Places L slots ss
  walk_places f k End = End
  walk_places f k (Child {n} t ts) = Child (walk f (deeper n k) t) (walk_places f k ts)
  walk_places f k (Group us ts) = Group (walk_trees f k us) (walk_places f k ts)

  pub walk_trees : {L : Type 0} {slots : L → List Slot} → (ℕ → ℕ → Tree L slots) → ℕ → Trees L slots → Trees L slots
  walk_trees f k Done = Done
  walk_trees f k (Next n t ts) = Next n (walk f (deeper n k) t) (walk_trees f k ts)

-- lift m k adds m to each variable that is k or more
abbrev pub lift_var : {L : Type 0} {slots : L → List Slot} → ℕ → ℕ → ℕ → Tree L slots
lift_var m k i = Rel (if nat_lt i k then i else i + m)

abbrev pub lift : {L : Type 0} {slots : L → List Slot} → ℕ → ℕ → Tree L slots → Tree L slots
lift m k t = walk (lift_var m) k t

-- subst k a puts a, lifted by k, for variable k, and lowers those above it by one
abbrev pub subst_var : {L : Type 0} {slots : L → List Slot} → Tree L slots → ℕ → ℕ → Tree L slots
subst_var a k i = if nat_lt i k then Rel i else (if i == k then lift k 0 a else Rel (i - 1))

abbrev pub subst : {L : Type 0} {slots : L → List Slot} → ℕ → Tree L slots → Tree L slots → Tree L slots
subst k a t = walk (subst_var a) k t

-- subst_list k xs puts the items of xs, lifted by k, for the variables from k on, all at once, the last item for variable k, and lowers
-- those above them by as many
abbrev pub subst_list_var : {L : Type 0} {slots : L → List Slot} → List (Tree L slots) → ℕ → ℕ → Tree L slots
subst_list_var xs k i =
    if nat_lt i k then Rel i
    else (if nat_lt i (k + length xs) then lift k 0 (get_or xs (k + length xs - (i + 1)) (Rel 0)) else Rel (i - length xs))

abbrev pub subst_list : {L : Type 0} {slots : L → List Slot} → ℕ → List (Tree L slots) → Tree L slots → Tree L slots
subst_list k xs t = walk (subst_list_var xs) k t
