-- The targets of a body, found from its end.
use Rattle.std.proofs.Common.{◌≡◌, ℕ, zero, suc, ◌+◌, ◌-◌, ◌<◌, List, [], ◌∷◌, ◌++◌, drop, length, reverse, Some, refl, ap, sym, ◌∙◌, subst, arith}
use Rattle.std.specs.Prelude.{slice_get}
use Rattle.std.proofs.lemmas.List.{length-reverse, get_or-reverse}
use Rattle.std.proofs.lemmas.Option.{slice_get-get_or, slice_get_within, get_or_from_slice_get, same_Some}
use Rattle.wasm_core.specs.declared.instrs.Instr.{Instr}
use Rattle.wasm_core.proofs.Small.{no}
use Rattle.wasm_core.specs.MachineStep.{Opens, Divides, Closes, Plain, bracket, after_end, past_end, else_arm, to_else}
use Rattle.wasm_run.specs.declared.targets.Target.{Target}
use Rattle.wasm_run.specs.Targets.{IsTarget, AreTargets, Opened, target_at, tail_of}

at_tail : (code : List Instr) (ts : List Target) (d : ℕ) → target_at code (tail_of ts) d ≡ target_at code ts (suc d)
at_tail code [] d = refl
at_tail code (t ∷ ts) d = refl

-- past the body
pub none_open : (code : List Instr) → drop (length code) code ≡ [] → Opened code [] []
none_open code e d = record { end = e; other = e }

module _ (code : List Instr) (i : Instr) (rest : List Instr) (ts : List Target) (o : Opened code rest ts) where
  pub by_plain : bracket i ≡ Plain → Opened code (i ∷ rest) ts
  by_plain b d = record {
    end = (o d).end ∙ ap (λ k. past_end k d (λ e. after_end e rest) rest) (sym b);
    other = (o d).other ∙ ap (λ k. to_else k d (λ e. else_arm e rest) i rest) (sym b);
  }

  pub by_opens : bracket i ≡ Opens → Opened code (i ∷ rest) (tail_of ts)
  by_opens b d =
      let is = at_tail code ts d in
      record {
        end = ap (λ (t : Target). drop t.end code) is ∙ (o (suc d)).end ∙ ap (λ k. past_end k d (λ e. after_end e rest) rest) (sym b);
        other = ap (λ (t : Target). drop t.other code) is ∙ (o (suc d)).other ∙ ap (λ k. to_else k d (λ e. else_arm e rest) i rest) (sym b);
      }

  pub by_closes : (t : Target) → bracket i ≡ Closes → drop t.end code ≡ rest → drop t.other code ≡ i ∷ rest → Opened code (i ∷ rest) (t ∷ ts)
  by_closes t b he ho zero = record {
    end = he ∙ ap (λ k. past_end k zero (λ e. after_end e rest) rest) (sym b);
    other = ho ∙ ap (λ k. to_else k zero (λ e. else_arm e rest) i rest) (sym b);
  }
  by_closes t b he ho (suc d) = record {
    end = (o d).end ∙ ap (λ k. past_end k (suc d) (λ e. after_end e rest) rest) (sym b);
    other = (o d).other ∙ ap (λ k. to_else k (suc d) (λ e. else_arm e rest) i rest) (sym b);
  }

  pub by_divides : (t : Target) → bracket i ≡ Divides → t.end ≡ (target_at code ts zero).end → drop t.other code ≡ rest → Opened code (i ∷ rest) (t ∷ tail_of ts)
  by_divides t b he ho zero = record {
    end = ap (λ n. drop n code) he ∙ (o zero).end ∙ ap (λ k. past_end k zero (λ e. after_end e rest) rest) (sym b);
    other = ho ∙ ap (λ k. to_else k zero (λ e. else_arm e rest) i rest) (sym b);
  }
  by_divides t b he ho (suc d) =
      let is = at_tail code ts d in
      record {
        end = ap (λ (x : Target). drop x.end code) is ∙ (o (suc d)).end ∙ ap (λ k. past_end k (suc d) (λ e. after_end e rest) rest) (sym b);
        other = ap (λ (x : Target). drop x.other code) is ∙ (o (suc d)).other ∙ ap (λ k. to_else k (suc d) (λ e. else_arm e rest) i rest) (sym b);
      }

-- a list with one more item at its end
pub all_more : {A : Type 0} (P : ℕ → A → Type 0) (xs : List A) (x : A) → ((k : ℕ) (t : A) → slice_get xs k ≡ Some t → P k t) → P (length xs) x → (k : ℕ) (t : A) → slice_get (xs ++ x ∷ []) k ≡ Some t → P k t
all_more P [] x h p zero t e = subst (P zero) (same_Some _ _ e) p
all_more P [] x h p (suc k) t e = no e
all_more P (y ∷ xs) x h p zero t e = h zero t e
all_more P (y ∷ xs) x h p (suc k) t e = all_more (λ j. P (suc j)) xs x (λ j. h (suc j)) p k t e

back : {A : Type 0} (xs : List A) (k : ℕ) (t : A) → slice_get (reverse xs) k ≡ Some t → (k < length xs) × (slice_get xs (length xs - 1 - k) ≡ Some t)
back xs k t e =
    let w : k < length xs = subst (λ n. k < n) (length-reverse xs) (slice_get_within (reverse xs) k t e) in
    (w, slice_get-get_or xs (length xs - 1 - k) t (omega arith) ∙ ap Some (sym (get_or-reverse xs k t w) ∙ get_or_from_slice_get (reverse xs) k t t e))

pub all_found : (code : List Instr) (found : List Target) → length found ≡ length code → ((k : ℕ) (t : Target) → slice_get found k ≡ Some t → IsTarget code (drop (length code - k) code) 0 t) → AreTargets code (reverse found)
all_found code found n h = record {
  count = length-reverse found ∙ n;
  each = λ at t e.
      let (w, g) = back found at t e in
      let i : length code - (length found - 1 - at) ≡ at + 1 = omega (arith, n, w) in
      subst (λ j. IsTarget code (drop j code) 0 t) i (h (length found - 1 - at) t g);
}
