-- Values and environments of a program after erasure, and of the program in A-normal form.
use Rattle.std.proofs.Common.{◌≡◌, ℕ, zero, suc, ◌+◌, ◌-◌, ◌<◌, List, [], ◌∷◌, map, length, Some, refl, sym, ap, ◌∙◌, subst as transport, ⊎_elim, arith}
use Rattle.std.proofs.lemmas.Bool.{cases_lt}
use Rattle.pc_terms.specs.declared.leaf.Name.{Name}
use Rattle.pc_terms.specs.declared.leaf.FamilyId.{FamilyId}
use Rattle.box_terms.specs.BoxSyntax.{BoxTerm, BoxTerms}
use Rattle.lambda_box.specs.BoxProgram.{BoxProgram}
use Rattle.lambda_box.specs.ClosureEvaluation.{ClosureValue, VBox, VConstruct, VClosure, VFix, ClosureValues, NoValue, Then, ClosureEnv, Empty, Bind, BindFix, size, bind_all, Held, Holds, Defines, Finds, found, later, found_fix, past_fix}
use Rattle.anf_convert.specs.Anf.{AnfDefs}
use Rattle.anf_convert.specs.Captured.{Scope, Plain, Shared, depth, Word, Words, entry, plains, shares, fix_captured}
use Rattle.anf_convert.specs.AnfEvaluation.{AnfVal, WBox, WCon, WClos, WFix, AnfVals, WNil, WCons, find, count, ◌+w◌, fixes, Gives, give_word, give_fix, give_box, give_empty, GivesAll, give_none, give_more}
use Rattle.anf_convert.specs.ToAnf.{Level, LVar, LBoxed, LEmpty, at_depth, nth, levels, sealed, norm, norm_defs}
use Rattle.anf_convert.specs.ToAnfKeeps.{AreUnder, Ready, ReadyTerms}

-- the variable at a level has a word, and holds the value
pub record WordAt (s : Scope) (w : AnfVals) (x : ℕ) (u : AnfVal) (y : ℕ) : Type 0 where
  pub below : x < count w
  pub scope : entry s (count w - suc x) ≡ Word y
  pub value : find w (count w - suc x) ≡ Some u

-- the variable at a level is a fixpoint's, and holds the value
pub record FixAt (s : Scope) (w : AnfVals) (x : ℕ) (u : AnfVal) (ws : List ℕ) : Type 0 where
  pub below : x < count w
  pub scope : entry s (count w - suc x) ≡ Words ws
  pub value : find w (count w - suc x) ≡ Some u

-- one environment is another with more variables
pub data Ext (s : Scope) (w : AnfVals) : Scope → AnfVals → Type 0 where
  ext_same : Ext s w s w
  ext_push : {g : Scope} {f : AnfVals} {v : AnfVal} → Ext s w g f → Ext s w (Plain g) (WCons v f)
  ext_share : {g : Scope} {f : AnfVals} {v : AnfVal} {ws : List ℕ} → Ext s w g f → Ext s w (Shared ws g) (WCons v f)

word_push : {s : Scope} {w : AnfVals} {x : ℕ} {u : AnfVal} {y : ℕ} (v : AnfVal) → WordAt s w x u y → WordAt (Plain s) (WCons v w) x u y
word_push {s} {w} {x} v h =
    let lt = h.below in
    let one : suc (count w) - suc x ≡ suc (count w - suc x) = omega arith in
    record { below = omega arith; scope = ap (entry (Plain s)) one ∙ h.scope; value = ap (find (WCons v w)) one ∙ h.value }

word_share : {s : Scope} {w : AnfVals} {x : ℕ} {u : AnfVal} {y : ℕ} (ws : List ℕ) (v : AnfVal) → WordAt s w x u y → WordAt (Shared ws s) (WCons v w) x u y
word_share {s} {w} {x} ws v h =
    let lt = h.below in
    let one : suc (count w) - suc x ≡ suc (count w - suc x) = omega arith in
    record { below = omega arith; scope = ap (entry (Shared ws s)) one ∙ h.scope; value = ap (find (WCons v w)) one ∙ h.value }

fix_push : {s : Scope} {w : AnfVals} {x : ℕ} {u : AnfVal} {ys : List ℕ} (v : AnfVal) → FixAt s w x u ys → FixAt (Plain s) (WCons v w) x u ys
fix_push {s} {w} {x} v h =
    let lt = h.below in
    let one : suc (count w) - suc x ≡ suc (count w - suc x) = omega arith in
    record { below = omega arith; scope = ap (entry (Plain s)) one ∙ h.scope; value = ap (find (WCons v w)) one ∙ h.value }

fix_share : {s : Scope} {w : AnfVals} {x : ℕ} {u : AnfVal} {ys : List ℕ} (ws : List ℕ) (v : AnfVal) → FixAt s w x u ys → FixAt (Shared ws s) (WCons v w) x u ys
fix_share {s} {w} {x} ws v h =
    let lt = h.below in
    let one : suc (count w) - suc x ≡ suc (count w - suc x) = omega arith in
    record { below = omega arith; scope = ap (entry (Shared ws s)) one ∙ h.scope; value = ap (find (WCons v w)) one ∙ h.value }

pub word_ext : {s : Scope} {w : AnfVals} {x : ℕ} {u : AnfVal} {y : ℕ} {g : Scope} {f : AnfVals} → Ext s w g f → WordAt s w x u y → WordAt g f x u y
word_ext ext_same h = h
word_ext (ext_push {v = v} e) h = word_push v (word_ext e h)
word_ext (ext_share {v = v} {ws = ws} e) h = word_share ws v (word_ext e h)

pub fix_ext : {s : Scope} {w : AnfVals} {x : ℕ} {u : AnfVal} {ys : List ℕ} {g : Scope} {f : AnfVals} → Ext s w g f → FixAt s w x u ys → FixAt g f x u ys
fix_ext ext_same h = h
fix_ext (ext_push {v = v} e) h = fix_push v (fix_ext e h)
fix_ext (ext_share {v = v} {ws = ws} e) h = fix_share ws v (fix_ext e h)

pub ext_trans : {s : Scope} {w : AnfVals} {g : Scope} {f : AnfVals} {g' : Scope} {f' : AnfVals} → Ext s w g f → Ext g f g' f' → Ext s w g' f'
ext_trans h ext_same = h
ext_trans h (ext_push e) = ext_push (ext_trans h e)
ext_trans h (ext_share e) = ext_share (ext_trans h e)

pub top_word : (s : Scope) (w : AnfVals) (v : AnfVal) (d : ℕ) → d ≡ count w → WordAt (Plain s) (WCons v w) d v (depth s)
top_word s w v d eq =
    let z : suc (count w) - suc d ≡ 0 = omega arith in
    record { below = omega arith; scope = ap (entry (Plain s)) z; value = ap (find (WCons v w)) z }

pub top_fix : (s : Scope) (w : AnfVals) (v : AnfVal) (ws : List ℕ) (d : ℕ) → d ≡ count w → FixAt (Shared ws s) (WCons v w) d v ws
top_fix s w v ws d eq =
    let z : suc (count w) - suc d ≡ 0 = omega arith in
    record { below = omega arith; scope = ap (entry (Shared ws s)) z; value = ap (find (WCons v w)) z }

mutual
  pub data VR (P : BoxProgram) (K : Name → ℕ) : ClosureValue → AnfVal → Type 0 where
    vr_box : VR P K VBox WBox
    vr_con : {f : FamilyId} {c : ℕ} {vs : ClosureValues} {ws : AnfVals} → VRs P K vs ws → VR P K (VConstruct f c vs) (WCon c ws)
    vr_clos : {e : ClosureEnv} {env : List Level} {ys : List ℕ} {s : Scope} {w : AnfVals} {b : BoxTerm} (d : ℕ) → d ≡ count w → Ready P b → ER P K e env ys s w → VR P K (VClosure e b) (WClos s w (sealed (suc d) (norm K (LVar d ∷ env) (suc d) b)))
    vr_fix : {e : ClosureEnv} {env : List Level} {ys : List ℕ} {s : Scope} {w : AnfVals} {rargs : List ℕ} {i : ℕ} {bodies : BoxTerms} (d : ℕ) → d ≡ count w → AreUnder (length rargs) rargs bodies → ReadyTerms P bodies → ER P K e env ys s w → VR P K (VFix e i rargs bodies) (WFix s w
        (norm_defs K env d (length rargs) bodies) i)

  pub data VRs (P : BoxProgram) (K : Name → ℕ) : ClosureValues → AnfVals → Type 0 where
    vrs_nil : VRs P K NoValue WNil
    vrs_cons : {v : ClosureValue} {w : AnfVal} {vs : ClosureValues} {ws : AnfVals} → VR P K v w → VRs P K vs ws → VRs P K (Then v vs) (WCons w ws)

  -- each variable has a level; `ys` has the words of those that aren't a fixpoint's
  pub data ER (P : BoxProgram) (K : Name → ℕ) : ClosureEnv → List Level → List ℕ → Scope → AnfVals → Type 0 where
    er_empty : {s : Scope} {w : AnfVals} → ER P K Empty [] [] s w
    er_bind : {v : ClosureValue} {e : ClosureEnv} {x y : ℕ} {env : List Level} {ys : List ℕ} {s : Scope} {w : AnfVals} {u : AnfVal} → VR P K v u → WordAt s w x u y → ER P K e env ys s w → ER P K (Bind v e) (LVar x ∷ env) (y ∷ ys) s w
    er_fix : {rargs : List ℕ} {bodies : BoxTerms} {e : ClosureEnv} {env : List Level} {ys : List ℕ} {s s' : Scope} {w w' : AnfVals} {d' : ℕ} {all : List Level} (d : ℕ) → d' ≡ count w' → AreUnder (length rargs) rargs bodies → ReadyTerms P bodies → ER P K e env ys s' w' →
        all ≡ levels d (length rargs) env → ((j : ℕ) → j < length rargs → FixAt s w (d + j) (WFix s' w' (norm_defs K env d' (length rargs) bodies) j) (fix_captured s' (norm_defs K env d' (length rargs) bodies))) → ER P K e env ys s w → ER P K (BindFix rargs bodies e) all ys s w

pub vrs_size : {P : BoxProgram} {K : Name → ℕ} {vs : ClosureValues} {ws : AnfVals} → VRs P K vs ws → size vs ≡ count ws
vrs_size vrs_nil = refl
vrs_size (vrs_cons h hs) = ap suc (vrs_size hs)

pub er_ext : {P : BoxProgram} {K : Name → ℕ} {e : ClosureEnv} {env : List Level} {ys : List ℕ} {s : Scope} {w : AnfVals} {g : Scope} {f : AnfVals} → Ext s w g f → ER P K e env ys s w → ER P K e env ys g f
er_ext x er_empty = er_empty
er_ext x (er_bind h at er) = er_bind h (word_ext x at) (er_ext x er)
er_ext x (er_fix d eq under ok er' is group er) = er_fix d eq under ok er' is (λ j lt. fix_ext x (group j lt)) (er_ext x er)

pub nth_levels : (d n i j : ℕ) (env : List Level) → i + suc j ≡ n → nth (levels d n env) i ≡ LVar (d + j)
nth_levels d zero i j env eq = absurd (omega arith)
nth_levels d (suc n) zero j env eq = ap LVar (omega arith)
nth_levels d (suc n) (suc i) j env eq = nth_levels d n i j env (omega arith)

pub nth_past : (d n i j : ℕ) (env : List Level) → i ≡ n + j → nth (levels d n env) i ≡ nth env j
nth_past d zero i j env eq = ap (nth env) (omega arith)
nth_past d (suc n) zero j env eq = absurd (omega arith)
nth_past d (suc n) (suc i) j env eq = nth_past d n i j env (omega arith)

-- what a variable holds
pub data HeldAt (P : BoxProgram) (K : Name → ℕ) (s : Scope) (w : AnfVals) : Held → Level → Type 0 where
  holds_word : {v : ClosureValue} {x y : ℕ} {u : AnfVal} → VR P K v u → WordAt s w x u y → HeldAt P K s w (Holds v) (LVar x)
  holds_fix : {e : ClosureEnv} {rargs : List ℕ} {bodies : BoxTerms} {j x d' : ℕ} {env : List Level} {ys : List ℕ} {s' : Scope} {w' : AnfVals} → d' ≡ count w' → AreUnder (length rargs) rargs bodies → ReadyTerms P bodies → ER P K e env ys s' w' →
      FixAt s w x (WFix s' w' (norm_defs K env d' (length rargs) bodies) j) (fix_captured s' (norm_defs K env d' (length rargs) bodies)) → HeldAt P K s w (Defines e j rargs bodies) (LVar x)

pub held_at : {P : BoxProgram} {K : Name → ℕ} {s : Scope} {w : AnfVals} {e : ClosureEnv} {i : ℕ} {h : Held} {env : List Level} {ys : List ℕ} → Finds e i h → ER P K e env ys s w → HeldAt P K s w h (nth env i)
held_at found (er_bind h at er) = holds_word h at
held_at (later fs) (er_bind h at er) = held_at fs er
held_at {P} {K} {s} {w} {i = i} (found_fix {rargs = rargs} {bodies = bodies} {e = e} j eq) (er_fix {env = env} d num under ok er' is group er) =
    transport (λ z. HeldAt P K s w (Defines e j rargs bodies) z) (sym (ap (λ z. nth z i) is ∙ nth_levels d (length rargs) i j env eq)) (holds_fix num under ok er' (group j (omega arith)))
held_at {P} {K} {s} {w} {i = i} {h = h} (past_fix {rargs = rargs} j eq fs) (er_fix {env = env} d num under ok er' is group er) =
    transport (λ z. HeldAt P K s w h z) (sym (ap (λ z. nth z i) is ∙ nth_past d (length rargs) i j env eq)) (held_at fs er)

-- the value of an atom at its level, with the blocks made for it and their words
pub data AtLevel (W : ℕ) (s : Scope) (w : AnfVals) : Level → AnfVal → ℕ → ℕ → Type 0 where
  l_word : {x y : ℕ} {u : AnfVal} → WordAt s w x u y → AtLevel W s w (LVar x) u 0 0
  l_fix : {x : ℕ} {ws : List ℕ} {u : AnfVal} → FixAt s w x u ws → length ws < W → AtLevel W s w (LVar x) u 1 (suc (length ws))
  l_box : AtLevel W s w LBoxed WBox 0 0
  l_empty : {c : ℕ} → AtLevel W s w (LEmpty c) (WCon c WNil) 0 0

pub data AllLevels (W : ℕ) (s : Scope) (w : AnfVals) : List Level → AnfVals → ℕ → ℕ → Type 0 where
  ls_none : AllLevels W s w [] WNil 0 0
  ls_more : {a : Level} {u : AnfVal} {as' : List Level} {us : AnfVals} {b l b' l' : ℕ} → AtLevel W s w a u b l → AllLevels W s w as' us b' l' → AllLevels W s w (a ∷ as') (WCons u us) (b + b') (l + l')

pub level_ext : {W : ℕ} {s : Scope} {w : AnfVals} {a : Level} {u : AnfVal} {b l : ℕ} {g : Scope} {f : AnfVals} → Ext s w g f → AtLevel W s w a u b l → AtLevel W g f a u b l
level_ext x (l_word h) = l_word (word_ext x h)
level_ext x (l_fix h few) = l_fix (fix_ext x h) few
level_ext x l_box = l_box
level_ext x l_empty = l_empty

pub levels_ext : {W : ℕ} {s : Scope} {w : AnfVals} {as' : List Level} {us : AnfVals} {b l : ℕ} {g : Scope} {f : AnfVals} → Ext s w g f → AllLevels W s w as' us b l → AllLevels W g f as' us b l
levels_ext x ls_none = ls_none
levels_ext x (ls_more h hs) = ls_more (level_ext x h) (levels_ext x hs)

pub gives : {W : ℕ} {s : Scope} {w : AnfVals} {a : Level} {u : AnfVal} {b l : ℕ} (d : ℕ) → d ≡ count w → AtLevel W s w a u b l → Gives W s w (at_depth d a) u b l
gives {s = s} {w = w} d eq (l_word {x = x} h) = let one : d - suc x ≡ count w - suc x = omega arith in give_word (ap (entry s) one ∙ h.scope) (ap (find w) one ∙ h.value)
gives {s = s} {w = w} d eq (l_fix {x = x} h few) = let one : d - suc x ≡ count w - suc x = omega arith in give_fix (ap (entry s) one ∙ h.scope) (ap (find w) one ∙ h.value) few
gives d eq l_box = give_box
gives d eq l_empty = give_empty

pub gives_all : {W : ℕ} {s : Scope} {w : AnfVals} {as' : List Level} {us : AnfVals} {b l : ℕ} (d : ℕ) → d ≡ count w → AllLevels W s w as' us b l → GivesAll W s w (map (at_depth d) as') us b l
gives_all d eq ls_none = give_none
gives_all d eq (ls_more h hs) = give_more (gives d eq h) (gives_all d eq hs)

pub levels_size : {W : ℕ} {s : Scope} {w : AnfVals} {as' : List Level} {us : AnfVals} {b l : ℕ} → AllLevels W s w as' us b l → length as' ≡ count us
levels_size ls_none = refl
levels_size (ls_more h hs) = ap suc (levels_size hs)

-- arguments of a branch
pub plains_size : (vs w : AnfVals) → count (vs +w w) ≡ count w + count vs
plains_size WNil w = omega arith
plains_size (WCons v vs) w = omega (arith, plains_size vs w)

pub er_args : {P : BoxProgram} {K : Name → ℕ} {e : ClosureEnv} {env : List Level} {ys : List ℕ} {s : Scope} {w : AnfVals} {vs : ClosureValues} {ws : AnfVals} (d : ℕ) → d ≡ count w → VRs P K vs ws → ER P K e env ys s w → (zs : List ℕ) × ER P K (bind_all vs e) (levels d (size vs) env) zs (plains
    (size vs) s) (ws +w w)
er_args {ys = ys} d eq vrs_nil er = (ys, er)
er_args {s = s} {w = w} {vs = Then v vs} d eq (vrs_cons {w = u} {ws = ws} g gs) er =
    let r = er_args d eq gs er in
    let deep : d + size vs ≡ count (ws +w w) = omega (arith, plains_size ws w, vrs_size gs) in
    (depth (plains (size vs) s) ∷ r.0, er_bind g (top_word (plains (size vs) s) (ws +w w) u (d + size vs) deep) (er_ext (ext_push ext_same) r.1))

-- the variables of a fixpoint
pub fixes_size : (s : Scope) (w : AnfVals) (ds : AnfDefs) (n : ℕ) → count (fixes s w ds n +w w) ≡ count w + n
fixes_size s w ds zero = omega arith
fixes_size s w ds (suc n) = omega (arith, fixes_size s w ds n)

pub fixes_ext : (s : Scope) (w : AnfVals) (ds : AnfDefs) (ws : List ℕ) (n : ℕ) → Ext s w (shares ws n s) (fixes s w ds n +w w)
fixes_ext s w ds ws zero = ext_same
fixes_ext s w ds ws (suc n) = ext_share (fixes_ext s w ds ws n)

pub fixes_at : (s : Scope) (w : AnfVals) (ds : AnfDefs) (ws : List ℕ) (d : ℕ) → d ≡ count w → (n j : ℕ) → j < n → FixAt (shares ws n s) (fixes s w ds n +w w) (d + j) (WFix s w ds j) ws
fixes_at s w ds ws d eq zero j lt = absurd (omega arith)
fixes_at s w ds ws d eq (suc n) j lt =
    ⊎_elim
    (λ below. fix_ext (ext_share ext_same) (fixes_at s w ds ws d eq n j below))
    (λ above. let same : j ≡ n = omega arith in transport (λ z. FixAt (shares ws (suc n) s) (fixes s w ds (suc n) +w w) (d + z) (WFix s w ds z) ws) (sym same) (top_fix (shares ws n s) (fixes s w ds n +w w) (WFix s w ds n) ws (d + n) (omega (arith, fixes_size s w ds n))))
    (cases_lt j n)
