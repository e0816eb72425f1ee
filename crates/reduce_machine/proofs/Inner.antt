-- What a value that is looked at is stuck on.
use Rattle.std.proofs.Common.{◌≡◌, ℕ, zero, suc, ◌+◌, ◌<◌, ◌⊎◌, inl, inr, List, [], ◌∷◌, ◌++◌, length, map, get_or, Some, None, refl, sym, ap, ◌∙◌, subst as along, arith, length-append, append_assoc, slice_get}
use Rattle.std.specs.declared.alloc.Global.{Global}
use Rattle.std.specs.declared.vec.Vec.{Vec}
use Rattle.trees.proofs.Put.{each_length}
use Rattle.pc_terms.specs.Syntax.{Term, args}
use Rattle.reduce_machine.specs.Reads.{read}
use Rattle.reduce_machine.specs.Seen.{seen_term, inner_term, IsSeen, IsInner}
use Rattle.reduce_machine.specs.Spines.{head_on, spine_on, nested, below_term, IsOpenHead, IsStuckHead, AreNested}
use Rattle.reduce_machine.specs.declared.bindings.Lazy.{Lazy}
use Rattle.reduce_machine.specs.declared.seen.Seen.{Seen}
use Rattle.reduce_machine.specs.declared.spines.Head.{Head}
use Rattle.reduce_machine.specs.declared.spines.Head.TheVariants.{Open, Match, Fixpoint}
use Rattle.reduce_machine.specs.declared.spines.Spine.{Spine}
use Rattle.reduce_machine.proofs.Nesting.{nested_last, nested_inner, nested_alone, outer_kind, spine_args, open_parts, match_parts, fix_parts}

pub seen_inner : (o s : Seen) → o.below.now ≡ s.below.now ++ (s.spine.now ∷ []) → length s.below.now + 1 ≡ length o.below.now → IsSeen o → IsInner o s
seen_inner o s e l h =
    let k = nested_inner s.below.now s.spine.now o.spine.now (along (λ ss. AreNested (ss ++ o.spine.now ∷ [])) e h) in
    let i = ap (λ ss. nested ss (below_term None)) e ∙ nested_last s.below.now s.spine.now (below_term None) in
    record { seen = k.0; stuck = k.1; inside = i; term = ap (spine_on o.spine.now) i; shorter = omega arith }

nothing : (ss : List Spine) → length ss ≡ 0 → ss ≡ []
nothing [] e = refl
nothing (s ∷ ss) e = absurd (omega arith)

pub seen_alone : (o : Seen) → length o.below.now ≡ 0 → IsSeen o → IsOpenHead o.spine.now.head
seen_alone o e h = nested_alone o.below.now o.spine.now (nothing o.below.now e) h

-- arguments
stuck_args : (h : Head) (t : Term) → IsOpenHead h ⊎ IsStuckHead h → ((f : Lazy) (xs : Vec Lazy Global) → h ≡ Fixpoint f xs → ⊥) → args (head_on h t) ≡ []
stuck_args (Open l) t (inl o) n = (open_parts l o).1
stuck_args (Open l) t (inr k) n = absurd k
stuck_args (Match o) t (inl k) n = absurd k
stuck_args (Match o) t (inr k) n = (match_parts o t k).1
stuck_args (Fixpoint f xs) t k n = absurd (n f xs refl)

pub plain_args : (s : Seen) → IsSeen s → ((f : Lazy) (xs : Vec Lazy Global) → s.spine.now.head ≡ Fixpoint f xs → ⊥) → args (seen_term s) ≡ map read s.spine.now.args.items
plain_args s h n =
    spine_args s.spine.now (inner_term s)
    ∙ ap (λ ys. ys ++ map read s.spine.now.args.items) (stuck_args s.spine.now.head (inner_term s) (outer_kind s.below.now s.spine.now h) n)

pub fix_stuck_head : (s : Seen) (f : Lazy) (xs : Vec Lazy Global) → IsSeen s → s.spine.now.head ≡ Fixpoint f xs → IsStuckHead s.spine.now.head
fix_stuck_head s f xs h e = kind s.spine.now.head e (outer_kind s.below.now s.spine.now h)
  where
    kind : (h : Head) → h ≡ Fixpoint f xs → IsOpenHead h ⊎ IsStuckHead h → IsStuckHead h
    kind h e (inl o) = absurd (along (λ x. IsOpenHead x) e o)
    kind h e (inr k) = k

pub fixpoint_args : (s : Seen) (f : Lazy) (xs : Vec Lazy Global) → IsSeen s → s.spine.now.head ≡ Fixpoint f xs →
    args (seen_term s) ≡ map read xs.items ++ inner_term s ∷ map read s.spine.now.args.items
fixpoint_args s f xs h e =
    let k : IsStuckHead (Fixpoint f xs) = along (λ x. IsStuckHead x) e (fix_stuck_head s f xs h e) in
    spine_args s.spine.now (inner_term s) ∙ ap (λ x. args (head_on x (inner_term s)) ++ map read s.spine.now.args.items) e
    ∙ ap (λ ys. ys ++ map read s.spine.now.args.items) (fix_parts f (map read xs.items) (inner_term s) k.0).1
    ∙ append_assoc (map read xs.items) (inner_term s ∷ []) (map read s.spine.now.args.items)

pub plain_count : (s : Seen) → IsSeen s → ((f : Lazy) (xs : Vec Lazy Global) → s.spine.now.head ≡ Fixpoint f xs → ⊥) →
    length s.spine.now.args.items ≡ length (args (seen_term s))
plain_count s h n = sym (ap length (plain_args s h n) ∙ each_length read s.spine.now.args.items)

pub fixpoint_count : (s : Seen) (f : Lazy) (xs : Vec Lazy Global) → IsSeen s → s.spine.now.head ≡ Fixpoint f xs →
    length xs.items + 1 + length s.spine.now.args.items ≡ length (args (seen_term s))
fixpoint_count s f xs h e =
    let a = ap length (fixpoint_args s f xs h e) in
    let b = length-append (map read xs.items) (inner_term s ∷ map read s.spine.now.args.items) in
    let c = each_length read xs.items in
    let d = each_length read s.spine.now.args.items in
    omega arith

-- an argument, by its number
pub plain_item : (xs : List Lazy) (i : ℕ) (x : Lazy) → x ≡ get_or xs i x → i < length xs → slice_get (map read xs) i ≡ Some (read x)
plain_item [] i x e h = absurd (omega arith)
plain_item (y ∷ xs) zero x e h = ap (λ z. Some (read z)) (sym e)
plain_item (y ∷ xs) (suc i) x e h = plain_item xs i x e (omega arith)

pub item_before : (xs ys : List Lazy) (t : Term) (i : ℕ) (x : Lazy) → x ≡ get_or xs i x → i < length xs → slice_get (map read xs ++ t ∷ map read ys) i ≡ Some (read x)
item_before [] ys t i x e h = absurd (omega arith)
item_before (y ∷ xs) ys t zero x e h = ap (λ z. Some (read z)) (sym e)
item_before (y ∷ xs) ys t (suc i) x e h = item_before xs ys t i x e (omega arith)

pub item_between : (xs ys : List Lazy) (t : Term) (i : ℕ) → i ≡ length xs → slice_get (map read xs ++ t ∷ map read ys) i ≡ Some t
item_between [] ys t i e = ap (slice_get (t ∷ map read ys)) e
item_between (x ∷ xs) ys t zero e = absurd (omega arith)
item_between (x ∷ xs) ys t (suc i) e = item_between xs ys t i (omega arith)

pub item_behind : (xs ys : List Lazy) (t : Term) (i j : ℕ) (y : Lazy) → i ≡ length xs + 1 + j → y ≡ get_or ys j y → j < length ys →
    slice_get (map read xs ++ t ∷ map read ys) i ≡ Some (read y)
item_behind [] ys t i j y p e h =
    let q : i ≡ suc j = omega arith in
    ap (slice_get (t ∷ map read ys)) q ∙ plain_item ys j y e h
item_behind (x ∷ xs) ys t zero j y p e h = absurd (omega arith)
item_behind (x ∷ xs) ys t (suc i) j y p e h = item_behind xs ys t i j y (omega arith) e h
