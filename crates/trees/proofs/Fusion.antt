-- The laws of renaming and substitution.
use Rattle.std.proofs.Common.{◌≡◌, ℕ, zero, suc, refl, sym, ap, ◌∙◌, List}
use mathlib.Core.Path.{fun_ext}
use Rattle.trees.specs.Tree.{Slot, Tree, Places, Trees, Rel, Node, End, Child, Group, Done, Next}
use Rattle.trees.specs.Parallel.{up, ups, rename, rename_children, rename_terms, over, overs, substitute, substitute_children, substitute_terms}

pub child : {L : Type 0} {slots : L → List Slot} → {n : ℕ} {ss : List Slot} {t t' : Tree L slots} {ts ts' : Places L slots ss} → t ≡ t' → ts ≡ ts' → Child {n = n} t ts ≡ Child {n = n} t' ts'
child {n} p q = λ i. Child {n = n} (p i) (q i)

pub group : {L : Type 0} {slots : L → List Slot} → {ss : List Slot} {us us' : Trees L slots} {ts ts' : Places L slots ss} → us ≡ us' → ts ≡ ts' → Group us ts ≡ Group us' ts'
group p q = λ i. Group (p i) (q i)

pub next : {L : Type 0} {slots : L → List Slot} → {n : ℕ} {t t' : Tree L slots} {ts ts' : Trees L slots} → t ≡ t' → ts ≡ ts' → Next n t ts ≡ Next n t' ts'
next {n} p q = λ i. Next n (p i) (q i)

pub ups_ups : (b : ℕ) (r s : ℕ → ℕ) (i : ℕ) → ups b s (ups b r i) ≡ ups b (λ j. s (r j)) i
ups_ups zero r s i = refl
ups_ups (suc b) r s zero = refl
ups_ups (suc b) r s (suc i) = ap suc (ups_ups b r s i)

mutual
  pub rename-rename : {L : Type 0} {slots : L → List Slot} → (t : Tree L slots) (r : ℕ → ℕ) (s : ℕ → ℕ) → rename s (rename r t) ≡ rename (λ j. s (r j)) t
  rename-rename (Rel i) r s = refl
  rename-rename (Node l ts) r s = ap (Node l) (rename_children-rename_children ts r s)

  pub rename_children-rename_children : {L : Type 0} {slots : L → List Slot} → {ss : List Slot} (ts : Places L slots ss) (r : ℕ → ℕ) (s : ℕ → ℕ) → rename_children s (rename_children r ts) ≡ rename_children (λ j. s (r j)) ts
  rename_children-rename_children End r s = refl
  rename_children-rename_children (Child {n} t ts) r s = child (rename-rename t (ups n r) (ups n s) ∙ ap (λ q. rename q t) (fun_ext (ups_ups n r s))) (rename_children-rename_children ts r s)
  rename_children-rename_children (Group us ts) r s = group (rename_terms-rename_terms us r s) (rename_children-rename_children ts r s)

  pub rename_terms-rename_terms : {L : Type 0} {slots : L → List Slot} → (ts : Trees L slots) (r : ℕ → ℕ) (s : ℕ → ℕ) → rename_terms s (rename_terms r ts) ≡ rename_terms (λ j. s (r j)) ts
  rename_terms-rename_terms Done r s = refl
  rename_terms-rename_terms (Next n t ts) r s = next (rename-rename t (ups n r) (ups n s) ∙ ap (λ q. rename q t) (fun_ext (ups_ups n r s))) (rename_terms-rename_terms ts r s)

pub overs_ups : {L : Type 0} {slots : L → List Slot} → (b : ℕ) (r : ℕ → ℕ) (s : ℕ → Tree L slots) (i : ℕ) → overs b s (ups b r i) ≡ overs b (λ j. s (r j)) i
overs_ups zero r s i = refl
overs_ups (suc b) r s zero = refl
overs_ups (suc b) r s (suc i) = ap (rename suc) (overs_ups b r s i)

mutual
  pub substitute-rename : {L : Type 0} {slots : L → List Slot} → (t : Tree L slots) (r : ℕ → ℕ) (s : ℕ → Tree L slots) → substitute s (rename r t) ≡ substitute (λ j. s (r j)) t
  substitute-rename (Rel i) r s = refl
  substitute-rename (Node l ts) r s = ap (Node l) (substitute_children-rename_children ts r s)

  pub substitute_children-rename_children : {L : Type 0} {slots : L → List Slot} → {ss : List Slot} (ts : Places L slots ss) (r : ℕ → ℕ) (s : ℕ → Tree L slots) → substitute_children s (rename_children r ts) ≡ substitute_children (λ j. s (r j)) ts
  substitute_children-rename_children End r s = refl
  substitute_children-rename_children (Child {n} t ts) r s = child (substitute-rename t (ups n r) (overs n s) ∙ ap (λ q. substitute q t) (fun_ext (overs_ups n r s))) (substitute_children-rename_children ts r s)
  substitute_children-rename_children (Group us ts) r s = group (substitute_terms-rename_terms us r s) (substitute_children-rename_children ts r s)

  pub substitute_terms-rename_terms : {L : Type 0} {slots : L → List Slot} → (ts : Trees L slots) (r : ℕ → ℕ) (s : ℕ → Tree L slots) → substitute_terms s (rename_terms r ts) ≡ substitute_terms (λ j. s (r j)) ts
  substitute_terms-rename_terms Done r s = refl
  substitute_terms-rename_terms (Next n t ts) r s = next (substitute-rename t (ups n r) (overs n s) ∙ ap (λ q. substitute q t) (fun_ext (overs_ups n r s))) (substitute_terms-rename_terms ts r s)

pub ups_overs : {L : Type 0} {slots : L → List Slot} → (b : ℕ) (s : ℕ → Tree L slots) (r : ℕ → ℕ) (i : ℕ) → rename (ups b r) (overs b s i) ≡ overs b (λ j. rename r (s j)) i
ups_overs zero s r i = refl
ups_overs (suc b) s r zero = refl
ups_overs (suc b) s r (suc i) =
    rename-rename (overs b s i) suc (up (ups b r)) ∙ sym (rename-rename (overs b s i) (ups b r) suc)
    ∙ ap (rename suc) (ups_overs b s r i)

mutual
  pub rename-substitute : {L : Type 0} {slots : L → List Slot} → (t : Tree L slots) (s : ℕ → Tree L slots) (r : ℕ → ℕ) → rename r (substitute s t) ≡ substitute (λ j. rename r (s j)) t
  rename-substitute (Rel i) s r = refl
  rename-substitute (Node l ts) s r = ap (Node l) (rename_children-substitute_children ts s r)

  pub rename_children-substitute_children : {L : Type 0} {slots : L → List Slot} → {ss : List Slot} (ts : Places L slots ss) (s : ℕ → Tree L slots) (r : ℕ → ℕ) → rename_children r (substitute_children s ts) ≡ substitute_children (λ j. rename r (s j)) ts
  rename_children-substitute_children End s r = refl
  rename_children-substitute_children (Child {n} t ts) s r = child (rename-substitute t (overs n s) (ups n r) ∙ ap (λ q. substitute q t) (fun_ext (ups_overs n s r))) (rename_children-substitute_children ts s r)
  rename_children-substitute_children (Group us ts) s r = group (rename_terms-substitute_terms us s r) (rename_children-substitute_children ts s r)

  pub rename_terms-substitute_terms : {L : Type 0} {slots : L → List Slot} → (ts : Trees L slots) (s : ℕ → Tree L slots) (r : ℕ → ℕ) → rename_terms r (substitute_terms s ts) ≡ substitute_terms (λ j. rename r (s j)) ts
  rename_terms-substitute_terms Done s r = refl
  rename_terms-substitute_terms (Next n t ts) s r = next (rename-substitute t (overs n s) (ups n r) ∙ ap (λ q. substitute q t) (fun_ext (ups_overs n s r))) (rename_terms-substitute_terms ts s r)

pub overs_overs : {L : Type 0} {slots : L → List Slot} → (b : ℕ) (s s' : ℕ → Tree L slots) (i : ℕ) → substitute (overs b s') (overs b s i) ≡ overs b (λ j. substitute s' (s j)) i
overs_overs zero s s' i = refl
overs_overs (suc b) s s' zero = refl
overs_overs (suc b) s s' (suc i) =
    substitute-rename (overs b s i) suc (over (overs b s')) ∙ sym (rename-substitute (overs b s i) (overs b s') suc)
    ∙ ap (rename suc) (overs_overs b s s' i)

mutual
  pub substitute-substitute : {L : Type 0} {slots : L → List Slot} → (t : Tree L slots) (s : ℕ → Tree L slots) (s' : ℕ → Tree L slots) → substitute s' (substitute s t) ≡ substitute (λ j. substitute s' (s j)) t
  substitute-substitute (Rel i) s s' = refl
  substitute-substitute (Node l ts) s s' = ap (Node l) (substitute_children-substitute_children ts s s')

  pub substitute_children-substitute_children : {L : Type 0} {slots : L → List Slot} → {ss : List Slot} (ts : Places L slots ss) (s : ℕ → Tree L slots) (s' : ℕ → Tree L slots) → substitute_children s' (substitute_children s ts) ≡ substitute_children (λ j. substitute s' (s j)) ts
  substitute_children-substitute_children End s s' = refl
  substitute_children-substitute_children (Child {n} t ts) s s' = child (substitute-substitute t (overs n s) (overs n s') ∙ ap (λ q. substitute q t) (fun_ext (overs_overs n s s'))) (substitute_children-substitute_children ts s s')
  substitute_children-substitute_children (Group us ts) s s' = group (substitute_terms-substitute_terms us s s') (substitute_children-substitute_children ts s s')

  pub substitute_terms-substitute_terms : {L : Type 0} {slots : L → List Slot} → (ts : Trees L slots) (s : ℕ → Tree L slots) (s' : ℕ → Tree L slots) → substitute_terms s' (substitute_terms s ts) ≡ substitute_terms (λ j. substitute s' (s j)) ts
  substitute_terms-substitute_terms Done s s' = refl
  substitute_terms-substitute_terms (Next n t ts) s s' = next (substitute-substitute t (overs n s) (overs n s') ∙ ap (λ q. substitute q t) (fun_ext (overs_overs n s s'))) (substitute_terms-substitute_terms ts s s')

pub overs_rel : (L : Type 0) (slots : L → List Slot) (b : ℕ) (r : ℕ → ℕ) (i : ℕ) → overs {L = L} {slots = slots} b (λ j. Rel (r j)) i ≡ Rel (ups b r i)
overs_rel L slots zero r i = refl
overs_rel L slots (suc b) r zero = refl
overs_rel L slots (suc b) r (suc i) = ap (rename suc) (overs_rel L slots b r i)

mutual
  -- a renaming is a substitution
  pub substitute_rel : {L : Type 0} {slots : L → List Slot} → (t : Tree L slots) (r : ℕ → ℕ) → substitute (λ j. Rel (r j)) t ≡ rename r t
  substitute_rel (Rel i) r = refl
  substitute_rel (Node l ts) r = ap (Node l) (substitute_children_rel ts r)

  pub substitute_children_rel : {L : Type 0} {slots : L → List Slot} → {ss : List Slot} (ts : Places L slots ss) (r : ℕ → ℕ) → substitute_children (λ j. Rel (r j)) ts ≡ rename_children r ts
  substitute_children_rel End r = refl
  substitute_children_rel (Child {n} t ts) r =
      child (ap (λ f. substitute f t) (fun_ext (overs_rel _ _ n r)) ∙ substitute_rel t (ups n r)) (substitute_children_rel ts r)
  substitute_children_rel (Group us ts) r = group (substitute_terms_rel us r) (substitute_children_rel ts r)

  pub substitute_terms_rel : {L : Type 0} {slots : L → List Slot} → (ts : Trees L slots) (r : ℕ → ℕ) → substitute_terms (λ j. Rel (r j)) ts ≡ rename_terms r ts
  substitute_terms_rel Done r = refl
  substitute_terms_rel (Next n t ts) r =
      next (ap (λ f. substitute f t) (fun_ext (overs_rel _ _ n r)) ∙ substitute_rel t (ups n r)) (substitute_terms_rel ts r)

pub ups_same : (b : ℕ) (i : ℕ) → ups b (λ j. j) i ≡ i
ups_same zero i = refl
ups_same (suc b) zero = refl
ups_same (suc b) (suc i) = ap suc (ups_same b i)

mutual
  pub rename_same : {L : Type 0} {slots : L → List Slot} → (t : Tree L slots) → rename (λ j. j) t ≡ t
  rename_same (Rel i) = refl
  rename_same (Node l ts) = ap (Node l) (rename_children_same ts)

  pub rename_children_same : {L : Type 0} {slots : L → List Slot} → {ss : List Slot} (ts : Places L slots ss) → rename_children (λ j. j) ts ≡ ts
  rename_children_same End = refl
  rename_children_same (Child {n} t ts) = child (ap (λ f. rename f t) (fun_ext (ups_same n)) ∙ rename_same t) (rename_children_same ts)
  rename_children_same (Group us ts) = group (rename_terms_same us) (rename_children_same ts)

  pub rename_terms_same : {L : Type 0} {slots : L → List Slot} → (ts : Trees L slots) → rename_terms (λ j. j) ts ≡ ts
  rename_terms_same Done = refl
  rename_terms_same (Next n t ts) = next (ap (λ f. rename f t) (fun_ext (ups_same n)) ∙ rename_same t) (rename_terms_same ts)
