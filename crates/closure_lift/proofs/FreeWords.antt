-- The captured words are those that stand for the free variables.
use Rattle.std.proofs.Common.{◌≡◌, ℕ, zero, suc, ◌+◌, ◌-◌, ◌<◌, ◌≤◌, List, [], ◌∷◌, ◌++◌, Bool, true, false, refl, sym, ap, ◌∙◌, subst as transport, arith, append_assoc}
use Rattle.std.proofs.lemmas.List.{append-nil}
use Rattle.std.proofs.lemmas.Bool.{lt-ltb, ltb-true, ltb-false, eq-eqb, eqb-true, ne_eqb}
use Rattle.std.specs.Prelude.{nat_eq, nat_lt, if◌then◌else◌}
use Rattle.anf_convert.specs.Anf.{AnfOp, ConstOp, AppOp, ConOp, LamOp, FixOp, CaseOp, AnfBlock, TailAtom, Tail, BindAtom, Bind, AnfBranches, NoBranch, Branch, AnfDefs, NoDef, LamDef, BoxDef, def_count}
use Rattle.anf_convert.specs.declared.program.Atom.{Atom}
use Rattle.anf_convert.specs.declared.program.Atom.TheVariants.{Var as AVar, Box as ABox, Empty as AEmpty}
use Rattle.anf_convert.specs.Captured.{Scope, Outside, Plain, Shared, depth, entry, plains, shares, words_of, atom_words, atoms_words, op_words, block_words, branches_words, defs_words, is_in, add_word, captured, lam_captured, fix_captured}
use Rattle.anf_convert.proofs.Scopes.{Each, each_map, depth_shares}
use Rattle.closure_lift.specs.FreeVariables.{free_atom, free_atoms, free_op, free_block, free_branches, free_defs, size, level_words, all_words}

pub all_words_join : (f : ℕ → List ℕ) (xs ys : List ℕ) → all_words f (xs ++ ys) ≡ all_words f xs ++ all_words f ys
all_words_join f [] ys = refl
all_words_join f (x ∷ xs) ys = ap (λ zs. f x ++ zs) (all_words_join f xs ys) ∙ sym (append_assoc (f x) (all_words f xs) (all_words f ys))

in_add : (x : ℕ) (b : Bool) (y : ℕ) (ws : List ℕ) → is_in x ws ≡ true → is_in x (add_word b y ws) ≡ true
in_add x false y ws h = h
in_add x true y ws h = go (is_in y ws)
  where
    in_more : (c : Bool) → (if c then true else is_in x ws) ≡ true
    in_more true = refl
    in_more false = h

    go : (b : Bool) → is_in x (if b then ws else y ∷ ws) ≡ true
    go true = h
    go false = in_more (nat_eq x y)

in_added : (d x : ℕ) (ws : List ℕ) → x < d → is_in x (add_word (nat_lt x d) x ws) ≡ true
in_added d x ws lt = rw (lt-ltb x d lt) (go (is_in x ws) refl)
  where
    go : (b : Bool) → is_in x ws ≡ b → is_in x (if b then ws else x ∷ ws) ≡ true
    go true e = e
    go false e = rw (eq-eqb x x refl) refl

module _ (d : ℕ) where
  abbrev IsThere : List ℕ → ℕ → Type 0
  IsThere ys x = x < d → is_in x (captured d ys) ≡ true

  there_after : (x : ℕ) (xs ys : List ℕ) → IsThere ys x → IsThere (xs ++ ys) x
  there_after x [] ys h = h
  there_after x (y ∷ xs) ys h = λ lt. in_add x (nat_lt y d) y (captured d (xs ++ ys)) (there_after x xs ys h lt)

  there_first : (xs ys : List ℕ) → Each (IsThere (xs ++ ys)) xs
  there_first [] ys = tt
  there_first (x ∷ xs) ys = (λ lt. in_added d x (captured d (xs ++ ys)) lt, each_map (IsThere (xs ++ ys)) (IsThere (x ∷ xs ++ ys)) (λ y h. there_after y (x ∷ []) (xs ++ ys) h) xs (there_first xs ys))

  no_more : (x : ℕ) (ws : List ℕ) → (x < d → is_in x ws ≡ true) → add_word (nat_lt x d) x ws ≡ ws
  no_more x ws h = go (nat_lt x d) refl
    where
      go : (b : Bool) → nat_lt x d ≡ b → add_word b x ws ≡ ws
      go false e = refl
      go true e = rw (h (ltb-true x d e)) refl

  absorbed : (xs ys : List ℕ) → Each (IsThere ys) xs → captured d (xs ++ ys) ≡ captured d ys
  absorbed [] ys h = refl
  absorbed (x ∷ xs) ys h = ap (λ ws. add_word (nat_lt x d) x ws) (absorbed xs ys h.1) ∙ no_more x (captured d ys) h.0

  behind : (xs ys zs : List ℕ) → captured d ys ≡ captured d zs → captured d (xs ++ ys) ≡ captured d (xs ++ zs)
  behind [] ys zs e = e
  behind (x ∷ xs) ys zs e = ap (λ ws. add_word (nat_lt x d) x ws) (behind xs ys zs e)

  -- whatever comes after them, these words leave the same captured ones
  abbrev pub Alike : List ℕ → List ℕ → Type 0
  Alike xs ys = (zs : List ℕ) → captured d (xs ++ zs) ≡ captured d (ys ++ zs)

  alike_join : (xs xs' ys ys' : List ℕ) → Alike xs xs' → Alike ys ys' → Alike (xs ++ ys) (xs' ++ ys')
  alike_join xs xs' ys ys' h g zs =
      ap (captured d) (append_assoc xs ys zs) ∙ behind xs (ys ++ zs) (ys' ++ zs) (g zs) ∙ h (ys' ++ zs) ∙ ap (captured d) (sym (append_assoc xs' ys' zs))

  beyond : (x : ℕ) → d ≤ x → Alike (x ∷ []) []
  beyond x le zs = no_more x (captured d zs) (λ lt. absurd (omega arith))

  module _ (f : ℕ → List ℕ) where
    held_once : (x : ℕ) (cs zs : List ℕ) → is_in x cs ≡ true → Each (IsThere (all_words f cs ++ zs)) (f x)
    held_once x [] zs e = cc
    held_once x (c ∷ cs) zs e = rw (append_assoc (f c) (all_words f cs) zs) (go (nat_eq x c) refl e (λ e. held_once x cs zs e))
      where
        go : (b : Bool) → nat_eq x c ≡ b → (if b then true else is_in x cs) ≡ true → (is_in x cs ≡ true → Each (IsThere (all_words f cs ++ zs)) (f x)) → Each (IsThere (f c ++ (all_words f cs ++ zs))) (f x)
        go true same e rest = rw (eqb-true x c same) (there_first (f c) (all_words f cs ++ zs))
        go false same e rest = each_map (IsThere (all_words f cs ++ zs)) (IsThere (f c ++ (all_words f cs ++ zs))) (λ y h. there_after y (f c) (all_words f cs ++ zs) h) (f x) (rest e)

    once_there : (x : ℕ) (xs cs : List ℕ) → Alike (all_words f xs) (all_words f cs) → (b : Bool) → is_in x cs ≡ b → Alike (f x ++ all_words f xs) (all_words f (if b then cs else x ∷ cs))
    once_there x xs cs h true e = λ zs. alike_join (f x) (f x) (all_words f xs) (all_words f cs) (λ zs. refl) h zs ∙ ap (captured d) (append_assoc (f x) (all_words f cs) zs) ∙ absorbed (f x) (all_words f cs ++ zs) (held_once x cs zs e)
    once_there x xs cs h false e = alike_join (f x) (f x) (all_words f xs) (all_words f cs) (λ zs. refl) h

    one_more : (x : ℕ) (xs cs : List ℕ) (n : ℕ) → ((x : ℕ) → n ≤ x → f x ≡ []) → Alike (all_words f xs) (all_words f cs) → (b : Bool) → nat_lt x n ≡ b → Alike (f x ++ all_words f xs) (all_words f (add_word b x cs))
    one_more x xs cs n inner h false e = rw (inner x (ltb-false x n e)) h
    one_more x xs cs n inner h true e = once_there x xs cs h (is_in x cs) refl

    -- levels that are bound inside stand for no word, and each other level is enough once
    pub once : (n : ℕ) (xs : List ℕ) → ((x : ℕ) → n ≤ x → f x ≡ []) → Alike (all_words f xs) (all_words f (captured n xs))
    once n [] inner = λ zs. refl
    once n (x ∷ xs) inner = one_more x xs (captured n xs) n inner (once n xs inner) (nat_lt x n) refl

  pub each_alike : (f g : ℕ → List ℕ) (xs : List ℕ) → ((x : ℕ) → Alike (f x) (g x)) → Alike (all_words f xs) (all_words g xs)
  each_alike f g [] h = λ zs. refl
  each_alike f g (x ∷ xs) h = alike_join (f x) (g x) (all_words f xs) (all_words g xs) (h x) (each_alike f g xs h)

-- ---- scopes
pub size_plains : (n : ℕ) (s : Scope) → size (plains n s) ≡ n + size s
size_plains zero s = omega arith
size_plains (suc n) s = omega (arith, size_plains n s)

pub size_shares : (ws : List ℕ) (n : ℕ) (s : Scope) → size (shares ws n s) ≡ n + size s
size_shares ws zero s = omega arith
size_shares ws (suc n) s = omega (arith, size_shares ws n s)

depth_plains : (n : ℕ) (s : Scope) → depth s ≤ depth (plains n s)
depth_plains zero s = omega arith
depth_plains (suc n) s = omega (arith, depth_plains n s)

pub inner_none : (s : Scope) (x : ℕ) → size s ≤ x → level_words s x ≡ []
inner_none Outside x le = refl
inner_none (Plain s) x le = rw (ne_eqb x (size s) (λ e. absurd (omega arith))) (inner_none s x (omega arith))
inner_none (Shared ws s) x le = rw (ne_eqb x (size s) (λ e. absurd (omega arith))) (inner_none s x (omega arith))

-- the words of a variable
pub entry_level : (s : Scope) (i : ℕ) → i < size s → words_of (entry s i) ≡ level_words s (size s - suc i)
entry_level Outside i lt = absurd (omega arith)
entry_level (Plain s) zero lt = rw (eq-eqb (suc (size s) - 1) (size s) (omega arith)) refl
entry_level (Plain s) (suc i) lt = let e : suc (size s) - suc (suc i) ≡ size s - suc i = omega arith in rw (e, ne_eqb (size s - suc i) (size s) (λ e. absurd (omega arith))) (entry_level s i (omega arith))
entry_level (Shared ws s) zero lt = rw (eq-eqb (suc (size s) - 1) (size s) (omega arith)) refl
entry_level (Shared ws s) (suc i) lt = let e : suc (size s) - suc (suc i) ≡ size s - suc i = omega arith in rw (e, ne_eqb (size s - suc i) (size s) (λ e. absurd (omega arith))) (entry_level s i (omega arith))

entry_none : (s : Scope) (i : ℕ) → size s ≤ i → words_of (entry s i) ≡ []
entry_none Outside i le = refl
entry_none (Plain s) zero le = absurd (omega arith)
entry_none (Plain s) (suc i) le = entry_none s i (omega arith)
entry_none (Shared ws s) zero le = absurd (omega arith)
entry_none (Shared ws s) (suc i) le = entry_none s i (omega arith)

abbrev pub scope_words : Scope → List ℕ → List ℕ
scope_words s xs = all_words (level_words s) xs

atom_same : (s : Scope) (a : Atom) → atom_words s a ≡ scope_words s (free_atom (size s) a)
atom_same s (AVar i) = go (nat_lt i (size s)) refl
  where
    go : (b : Bool) → nat_lt i (size s) ≡ b → words_of (entry s i) ≡ scope_words s (if b then (size s - suc i) ∷ [] else [])
    go true e = entry_level s i (ltb-true i (size s) e) ∙ sym (append-nil (level_words s (size s - suc i)))
    go false e = entry_none s i (ltb-false i (size s) e)
atom_same s ABox = refl
atom_same s (AEmpty c) = refl

atoms_same : (s : Scope) (as' : List Atom) → atoms_words s as' ≡ scope_words s (free_atoms (size s) as')
atoms_same s [] = refl
atoms_same s (a ∷ as') = ap2 (atom_same s a) (atoms_same s as') ∙ sym (all_words_join (level_words s) (free_atom (size s) a) (free_atoms (size s) as'))
  where
    ap2 : {xs xs' ys ys' : List ℕ} → xs ≡ xs' → ys ≡ ys' → xs ++ ys ≡ xs' ++ ys'
    ap2 e f = cc

module _ (d : ℕ) where
  -- one more variable that stands for no word outside d
  level_out : (s : Scope) (x : ℕ) (b : Bool) → nat_eq x (size s) ≡ b → (ws : List ℕ) → Alike d ws [] → Alike d (if b then ws else level_words s x) (level_words s x)
  level_out s x true e ws h zs = h zs ∙ ap (λ ys. captured d (ys ++ zs)) (sym (inner_none s x (let same = eqb-true x (size s) e in omega arith)))
  level_out s x false e ws h zs = refl

  out_plain : (s : Scope) → d ≤ depth s → (x : ℕ) → Alike d (level_words (Plain s) x) (level_words s x)
  out_plain s le x = level_out s x (nat_eq x (size s)) refl (depth s ∷ []) (beyond d (depth s) le)

  out_plains : (n : ℕ) (s : Scope) → d ≤ depth s → (x : ℕ) → Alike d (level_words (plains n s) x) (level_words s x)
  out_plains zero s le x zs = refl
  out_plains (suc n) s le x zs = out_plain (plains n s) (omega (arith, depth_plains n s)) x zs ∙ out_plains n s le x zs

  out_shares : (n : ℕ) (s : Scope) → (x : ℕ) → Alike d (level_words (shares [] n s) x) (level_words s x)
  out_shares zero s x zs = refl
  out_shares (suc n) s x zs = level_out (shares [] n s) x (nat_eq x (size (shares [] n s))) refl [] (λ zs. refl) zs ∙ out_shares n s x zs

  -- words that are named inside, as those of the scope outside
  move : (s s' : Scope) (xs ls : List ℕ) → ((x : ℕ) → Alike d (level_words s' x) (level_words s x)) → Alike d xs (scope_words s' ls) → Alike d xs (scope_words s ls)
  move s s' xs ls out h zs = h zs ∙ each_alike d (level_words s') (level_words s) ls out zs

  moved_once : (s s' : Scope) (xs ls : List ℕ) → ((x : ℕ) → Alike d (level_words s' x) (level_words s x)) → Alike d xs (scope_words s' ls) → Alike d xs (scope_words s (captured (size s) ls))
  moved_once s s' xs ls out h zs = move s s' xs ls out h zs ∙ once d (level_words s) (size s) ls (inner_none s) zs

  pair : (s : Scope) (xs ys as' bs : List ℕ) → Alike d xs (scope_words s as') → Alike d ys (scope_words s bs) → Alike d (xs ++ ys) (scope_words s (as' ++ bs))
  pair s xs ys as' bs h g zs = alike_join d xs (scope_words s as') ys (scope_words s bs) h g zs ∙ ap (λ ws. captured d (ws ++ zs)) (sym (all_words_join (level_words s) as' bs))

  atom_alike : (s : Scope) (a : Atom) → Alike d (atom_words s a) (scope_words s (free_atom (size s) a))
  atom_alike s a zs = ap (λ ws. captured d (ws ++ zs)) (atom_same s a)

  fix_step : (s : Scope) (ds : AnfDefs) → Alike d (defs_words (shares [] (def_count ds) s) ds) (scope_words (shares [] (def_count ds) s) (free_defs (size (shares [] (def_count ds) s)) ds)) → Alike d (defs_words (shares [] (def_count ds) s) ds) (scope_words s
      (captured (size s) (free_defs (def_count ds + size s) ds)))
  fix_step s ds h =
      moved_once s (shares [] (def_count ds) s) (defs_words (shares [] (def_count ds) s) ds) (free_defs (def_count ds + size s) ds) (out_shares (def_count ds) s)
      (transport (λ n. Alike d (defs_words (shares [] (def_count ds) s) ds) (scope_words (shares [] (def_count ds) s) (free_defs n ds))) (size_shares [] (def_count ds) s) h)

  mutual
    op_alike : (s : Scope) (op : AnfOp) → d ≤ depth s → Alike d (op_words s op) (scope_words s (free_op (size s) op))
    op_alike s (ConstOp x) le = λ zs. refl
    op_alike s (AppOp f a) le = pair s (atom_words s f) (atom_words s a) (free_atom (size s) f) (free_atom (size s) a) (atom_alike s f) (atom_alike s a)
    op_alike s (ConOp c as') le = λ zs. ap (λ ws. captured d (ws ++ zs)) (atoms_same s as')
    op_alike s (LamOp b) le = moved_once s (Plain s) (block_words (Plain s) b) (free_block (suc (size s)) b) (out_plain s le) (block_alike (Plain s) b (omega arith))
    op_alike s (FixOp ds i) le = fix_step s ds (defs_alike (shares [] (def_count ds) s) ds (transport (λ m. d ≤ m) (sym (depth_shares [] (def_count ds) s)) le))
    op_alike s (CaseOp a bs) le = pair s (atom_words s a) (branches_words s bs) (free_atom (size s) a) (free_branches (size s) bs) (atom_alike s a) (branches_alike s bs le)

    pub block_alike : (s : Scope) (t : AnfBlock) → d ≤ depth s → Alike d (block_words s t) (scope_words s (free_block (size s) t))
    block_alike s (TailAtom a) le = atom_alike s a
    block_alike s (Tail op) le = op_alike s op le
    block_alike s (BindAtom a t) le =
        pair s (atom_words s a) (block_words (Plain s) t) (free_atom (size s) a) (free_block (suc (size s)) t) (atom_alike s a) (move s (Plain s) (block_words (Plain s) t) (free_block (suc (size s)) t) (out_plain s le) (block_alike (Plain s) t (omega arith)))
    block_alike s (Bind op t) le =
        pair s (op_words s op) (block_words (Plain s) t) (free_op (size s) op) (free_block (suc (size s)) t) (op_alike s op le) (move s (Plain s) (block_words (Plain s) t) (free_block (suc (size s)) t) (out_plain s le) (block_alike (Plain s) t (omega arith)))

    branches_alike : (s : Scope) (bs : AnfBranches) → d ≤ depth s → Alike d (branches_words s bs) (scope_words s (free_branches (size s) bs))
    branches_alike s NoBranch le = λ zs. refl
    branches_alike s (Branch n t rest) le =
        pair s (block_words (plains n s) t) (branches_words s rest) (free_block (n + size s) t) (free_branches (size s) rest)
        (move s (plains n s) (block_words (plains n s) t) (free_block (n + size s) t) (out_plains n s le)
        (transport (λ k. Alike d (block_words (plains n s) t) (scope_words (plains n s) (free_block k t))) (size_plains n s) (block_alike (plains n s) t (omega (arith, depth_plains n s)))))
        (branches_alike s rest le)

    defs_alike : (s : Scope) (ds : AnfDefs) → d ≤ depth s → Alike d (defs_words s ds) (scope_words s (free_defs (size s) ds))
    defs_alike s NoDef le = λ zs. refl
    defs_alike s (LamDef b rest) le =
        pair s (block_words (Plain s) b) (defs_words s rest) (free_block (suc (size s)) b) (free_defs (size s) rest) (move s (Plain s) (block_words (Plain s) b) (free_block (suc (size s)) b) (out_plain s le) (block_alike (Plain s) b (omega arith))) (defs_alike s rest le)
    defs_alike s (BoxDef rest) le = defs_alike s rest le

-- what `captured` gives of words alone
alone : (d : ℕ) (xs ys : List ℕ) → Alike d xs ys → captured d xs ≡ captured d ys
alone d xs ys h = ap (captured d) (sym (append-nil xs)) ∙ h [] ∙ ap (captured d) (append-nil ys)

-- the captured words of a lambda, and of a fixpoint, are those of its free variables
pub lam_free : (s : Scope) (b : AnfBlock) → lam_captured s b ≡ captured (depth s) (scope_words s (free_op (size s) (LamOp b)))
lam_free s b = alone (depth s) (block_words (Plain s) b) (scope_words s (free_op (size s) (LamOp b))) (op_alike (depth s) s (LamOp b) (omega arith))

pub fix_free : (s : Scope) (ds : AnfDefs) (i : ℕ) → fix_captured s ds ≡ captured (depth s) (scope_words s (free_op (size s) (FixOp ds i)))
fix_free s ds i = alone (depth s) (defs_words (shares [] (def_count ds) s) ds) (scope_words s (free_op (size s) (FixOp ds i))) (op_alike (depth s) s (FixOp ds i) (omega arith))
