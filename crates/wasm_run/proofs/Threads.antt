-- Steps of threads against steps of confs.
use Rattle.std.proofs.Common.{◌≡◌, ℕ, zero, suc, ◌+◌, List, [], ◌∷◌, ◌++◌, map, drop, reverse, Option, Some, None, Bool, true, false, refl, ap, sym, ◌∙◌, add-one, take, ◌<◌, ◌≤◌, length, ⊎_elim}
use Rattle.std.proofs.lemmas.Bool.{cases_lt}
use Rattle.std.proofs.Math.Bool.{and-false}
use Rattle.std.specs.Prelude.{slice_get, is_some, ◌&&◌, nat_le, if◌then◌else◌, IfSome}
use Rattle.std.specs.Option.{option_map}
use Rattle.std.proofs.lemmas.Option.{slice_get-map, same_Some}
use Rattle.std.proofs.lemmas.List.{drop-map, drop-drop, drop_all}
use Rattle.wasm_core.specs.declared.types.ConstValue.{ConstValue}
use Rattle.wasm_core.specs.declared.types.ValType.{ValType}
use Rattle.wasm_core.specs.declared.types.FuncType.{FuncType}
use Rattle.wasm_core.specs.declared.instrs.Instr.{Instr}
use Rattle.wasm_core.specs.Parts.{Parts}
use Rattle.wasm_core.specs.Instance.{Func, func_of}
use Rattle.wasm_run.specs.View.{frame_at}
use Rattle.wasm_run.proofs.Stack.{reverse-snoc}
use Rattle.wasm_run.proofs.Starts.{code_is}
use Rattle.wasm_core.specs.MachineStep.{BlockLabel, Frame, Store, Conf, State, At, branch, jump, taking, act, step, next, call, tail_call, frame_of, same_type, same_types}
use Rattle.wasm_run.specs.Shape.{Shape, Open, begun, branched, leave_to, leave_with, keeping}
use Rattle.wasm_run.specs.View.{label_of}
use Rattle.wasm_run.specs.Programs.{code_of}
use Rattle.wasm_run.specs.Threads.{frame_in, conf_of, acting, rest_of}
use Rattle.wasm_run.specs.declared.thread.Thread.{Thread}
use Rattle.wasm_run.proofs.Bodies.{drop_here}

cut_more : (k : ℕ) (xs r : List ConstValue) (x : ConstValue) → drop k xs ≡ x ∷ r → take (suc k) xs ≡ take k xs ++ x ∷ []
cut_more zero [] r x e = cc
cut_more zero (y ∷ xs) r x e = let h : y ≡ x = cc in ap (λ z. z ∷ []) h
cut_more (suc k) [] r x e = cc
cut_more (suc k) (y ∷ xs) r x e = ap (λ z. y ∷ z) (cut_more k xs r x e)

-- one more operand is taken off
pub popped_more : (f g : Shape) (k : ℕ) (x : ConstValue) → record f { vals = drop k f.vals } ≡ record g { vals = x ∷ g.vals } → (take (k + 1) f.vals ≡ take k f.vals ++ x ∷ []) × (g ≡ record f { vals = drop (k + 1) f.vals })
popped_more f g k x e = (
  rw add-one (cut_more k f.vals g.vals x (ap (λ (s : Shape). s.vals) e)),
  sym (ap (λ (ys : List ConstValue). record f { vals = ys }) (sym (drop-drop 1 k f.vals)) ∙ ap (λ (s : Shape). record s { vals = drop 1 s.vals }) e),
)

module _ (m : Parts) (store : Store) (callers : List Frame) where
  abbrev conf_at : Shape → Conf
  conf_at s = record { store = store; current = frame_in m s; callers = callers }

  -- a branch of the frame is a branch of the conf
  pub branch_follows : (s s' : Shape) (l : ℕ) → branched l s ≡ Some s' → branch (conf_at s) l s.vals ≡ Some (At (conf_at s'))
  branch_follows s s' l e = ap (jump (conf_at s) l s.vals) (slice_get-map f s.labels l) ∙ go (slice_get s.labels l) e
    where
      f : Open → BlockLabel
      f = label_of (code_of m s.func)

      moved : (k : Open) (top : List ConstValue) → record s { at = k.target; vals = top ++ k.below; labels = drop (l + 1) s.labels } ≡ s' → ◌≡◌ {A = Option State} (Some
          (At (record { store = store; current = record (frame_in m s) { labels = drop (l + 1) (map f s.labels); operands = top ++ k.below; rest = drop k.target (code_of m s.func) }; callers = callers }))) (Some (At (conf_at s')))
      moved k top e' =
          ap (λ (ls : List BlockLabel). Some (At (record { store = store; current = record (frame_in m s) { labels = ls; operands = top ++ k.below; rest = drop k.target (code_of m s.func) }; callers = callers }))) (drop-map f (l + 1) s.labels)
          ∙ ap (λ (x : Shape). Some (At (conf_at x))) e'

      taken : (k : Open) (b : Bool) (vals : List ConstValue) → keeping b vals (leave_with l s k) ≡ Some s' → taking b vals (λ top. Some
          (At (record { store = store; current = record (frame_in m s) { labels = drop (l + 1) (map f s.labels); operands = top ++ k.below; rest = drop k.target (code_of m s.func) }; callers = callers }))) ≡ Some (At (conf_at s'))
      taken k false vals h = moved k [] (same_Some _ _ h)
      taken k true [] h = cc
      taken k true (x ∷ vals) h = moved k (x ∷ []) (same_Some _ _ h)

      go : (o : Option Open) → leave_to l s o ≡ Some s' → jump (conf_at s) l s.vals (option_map f o) ≡ Some (At (conf_at s'))
      go None h = cc
      go (Some k) h = taken k k.keeps s.vals h

step_here : (m : Parts) (g : Bool) (c : Conf) (i : Instr) (rest : List Instr) → c.current.rest ≡ i ∷ rest → step m g c ≡ act m g i rest c
step_here m g c i rest e = ap (λ r. next m g r c) e

step_past : (m : Parts) (g : Bool) (c : Conf) → c.current.rest ≡ [] → step m g c ≡ None
step_past m g c e = ap (λ r. next m g r c) e

-- a step is that of the instruction at the place
step_within : (m : Parts) (g : Bool) (c : Conf) (code : List Instr) (at : ℕ) → c.current.rest ≡ drop at code → is_some (step m g c) ≡ true → at < length code
step_within m g c code at e h = ⊎_elim (λ lt. lt) (λ le. past le) (cases_lt at (length code))
  where
    past : length code ≤ at → at < length code
    past le = let n = step_past m g c (e ∙ drop_all at code le) in let f = rw n at h in cc

-- the same at a thread, whose function's body was read
pub read_within : (m : Parts) (g : Bool) (t : Thread) (code : List Instr) → code ≡ code_of m t.current.func → is_some (step m g (conf_of m t)) ≡ true → t.current.at < length code
read_within m g t code e h = step_within m g (conf_of m t) code t.current.at (ap (drop t.current.at) (sym e)) h

pub read_step : (m : Parts) (g : Bool) (t : Thread) (i : Instr) → slice_get (code_of m t.current.func) t.current.at ≡ Some i → step m g (conf_of m t) ≡ acting m g i t
read_step m g t i h = step_here m g (conf_of m t) i (rest_of m t) (drop_here (code_of m t.current.func) t.current.at i h)

pub lengths_differ : (xs ys : List ValType) → (length xs ≡ length ys → ⊥) → same_types xs ys ≡ false
lengths_differ [] [] h = absurd (h refl)
lengths_differ [] (y ∷ ys) h = refl
lengths_differ (x ∷ xs) [] h = refl
lengths_differ (x ∷ xs) (y ∷ ys) h = ap (λ b. same_type x y && b) (lengths_differ xs ys (λ e. h (ap suc e))) ∙ and-false (same_type x y)

module _ (m : Parts) (f : ℕ) (g : Func) (is : func_of m f ≡ Some g) (of : FuncType) (others : List ValType) (ht : Some g.type ≡ Some of) (hl : Some g.body.locals ≡ Some others) (vals : List ConstValue) where
  -- a called function's frame as it begins, where its type and its further locals were read
  begins : frame_in m (begun f of others vals) ≡ frame_of g vals
  begins =
      ap (λ (t : FuncType). frame_in m (begun f t others vals)) (sym (same_Some _ _ ht))
      ∙ ap (λ (x : List ValType). frame_in m (begun f g.type x vals)) (sym (same_Some _ _ hl))
      ∙ ap (λ code. frame_at code (begun f g.type g.body.locals vals)) (code_is m g f is)

  -- what is left of the operands
  left : drop (length of.params) vals ≡ drop (length g.type.params) vals
  left = ap (λ (t : FuncType). drop (length t.params) vals) (sym (same_Some _ _ ht))

-- a function is called
pub call_some : (m : Parts) (store : Store) (cs : List Shape) (s : Shape) (f : ℕ) (o : Option Func) → func_of m f ≡ o → is_some o ≡ true →
    IfSome o (λ g. is_some (call (record { store = store; current = frame_in m s; callers = map (frame_in m) (reverse cs) }) g s.vals (drop (s.at + 1) (code_of m s.func))) ≡ true) →
    (of : FuncType) → option_map (λ (g : Func). g.type) o ≡ Some of → (others : List ValType) → option_map (λ (g : Func). g.body.locals) o ≡ Some others →
    (new : Shape) → new ≡ begun f of others s.vals → (cs' : List Shape) → cs' ≡ cs ++ record s { at = s.at + 1; vals = drop (length of.params) s.vals } ∷ [] →
    IfSome o (λ g. call (record { store = store; current = frame_in m s; callers = map (frame_in m) (reverse cs) }) g s.vals (drop (s.at + 1) (code_of m s.func)) ≡ Some (At (record { store = store; current = frame_in m new; callers = map (frame_in m) (reverse cs') })))
call_some m store cs s f None is some h of ht others hl new hn cs' hc = cc
call_some m store cs s f (Some g) is some h of ht others hl new hn cs' hc = by (nat_le (length g.type.params) (length s.vals)) h
  where
    waits : List ConstValue → Shape
    waits vals = record s { at = s.at + 1; vals = vals }

    state : Frame → List Shape → State
    state a xs = At (record { store = store; current = a; callers = map (frame_in m) xs })

    called : State
    called = state (frame_of g s.vals) (waits (drop (length g.type.params) s.vals) ∷ reverse cs)

    same : state (frame_in m new) (reverse cs') ≡ called
    same =
        ap (λ (x : Shape). state (frame_in m x) (reverse cs')) hn
        ∙ ap (λ a. state a (reverse cs')) (begins m f g is of others ht hl s.vals)
        ∙ ap (λ xs. state (frame_of g s.vals) xs) (ap reverse hc ∙ reverse-snoc cs (waits (drop (length of.params) s.vals)))
        ∙ ap (λ vals. state (frame_of g s.vals) (waits vals ∷ reverse cs)) (left m f g is of others ht hl s.vals)

    by : (b : Bool) → is_some (if b then Some called else None) ≡ true → (if b then Some called else None) ≡ Some (state (frame_in m new) (reverse cs'))
    by true h = ap Some (sym same)
    by false h = cc

-- and in place of the one that runs
pub tail_some : (m : Parts) (store : Store) (callers : List Frame) (s : Shape) (f : ℕ) (o : Option Func) → func_of m f ≡ o → is_some o ≡ true →
    IfSome o (λ g. is_some (tail_call (record { store = store; current = frame_in m s; callers = callers }) g s.vals) ≡ true) →
    (of : FuncType) → option_map (λ (g : Func). g.type) o ≡ Some of → (others : List ValType) → option_map (λ (g : Func). g.body.locals) o ≡ Some others →
    (new : Shape) → new ≡ begun f of others s.vals →
    IfSome o (λ g. tail_call (record { store = store; current = frame_in m s; callers = callers }) g s.vals ≡ Some (At (record { store = store; current = frame_in m new; callers = callers })))
tail_some m store callers s f None is some h of ht others hl new hn = cc
tail_some m store callers s f (Some g) is some h of ht others hl new hn = by (nat_le (length g.type.params) (length s.vals)) h
  where
    state : Frame → State
    state a = At (record { store = store; current = a; callers = callers })

    same : state (frame_in m new) ≡ state (frame_of g s.vals)
    same = ap (λ (x : Shape). state (frame_in m x)) hn ∙ ap state (begins m f g is of others ht hl s.vals)

    by : (b : Bool) → is_some (if b then Some (state (frame_of g s.vals)) else None) ≡ true → (if b then Some (state (frame_of g s.vals)) else None) ≡ Some (state (frame_in m new))
    by true h = ap Some (sym same)
    by false h = cc
