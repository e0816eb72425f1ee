-- What is kept of terms, and frames that wait for it.
use Rattle.std.proofs.Common.{◌≡◌, ◌↔◌, ℕ, zero, suc, ◌+◌, ◌-◌, ◌<◌, ◌≤◌, List, [], ◌∷◌, ◌++◌, Option, Some, None, Result, Ok, Err, IfOk, Bool, true, false, if◌then◌else◌, IsTrue, length, get_or, refl, sym, ap, ◌∙◌, subst as along, arith}
use Rattle.std.specs.Prelude.{slice_set}
use Rattle.std.proofs.lemmas.Bool.{false≢true}
use Rattle.pc_terms.specs.declared.term.MakeFault.{MakeFault}
use Rattle.pc_terms.specs.Syntax.{Term}
use Rattle.pc_terms.specs.Counted.{number_of}
use Rattle.pc_terms.proofs.Numbered.{number_of-inj}
use Rattle.calculus_rules.specs.Environment.{Env}
use Rattle.calculus_rules.specs.Context.{Values}
use Rattle.calculus_rules.specs.Lookups.{if_some}
use Rattle.pc_rules.specs.declared.meter.Account.{Account}
use Rattle.pc_rules.specs.DirectedRun.{Run, ticked, is_beyond}
use Rattle.pc_rules.specs.DirectedWeakHead.{weak_next, whnf}
use Rattle.pc_rules.specs.Leads.{Leads}
use Rattle.reduction.proofs.Running.{goes}
use Rattle.reduce_machine.specs.Layered.{Layer, plug, around, AreFrames}
use Rattle.reduce_machine.specs.Layers.{layer, layers}
use Rattle.reduce_machine.specs.Reducts.{after, ticks, ComesTo, IsItem, IsItemOf, IsReduct, AreReducts, IsWaiting, AreWaiting}
use Rattle.reduce_machine.specs.Reads.{read}
use Rattle.reduce_machine.specs.declared.bindings.Lazy.{Lazy}
use Rattle.reduce_machine.specs.declared.frames.Frame.{Frame}
use Rattle.reduce_machine.specs.declared.machine.Entered.{Entered}
use Rattle.reduce_machine.specs.declared.frames.Frame.TheVariants.{Update}
use Rattle.reduce_machine.specs.declared.reducts.Known.{Known}
use Rattle.reduce_machine.specs.declared.reducts.Looked.{Looked}
use Rattle.reduce_machine.specs.declared.reducts.Looked.TheVariants.{Known as KnownItem, Wanted, Plain}
use Rattle.reduce_machine.specs.declared.reducts.Reduct.{Reduct}
use Rattle.reduce_machine.proofs.Layering.{layers_last}
use Rattle.reduce_machine.proofs.Plugging.{plug_steps, plug_last}

-- one step more at the end
after_by : (E : Env) (V : Values) (n : ℕ) (o : Option Term) (x y : Term) → if_some o (after E V n) ≡ Some x → weak_next E V x ≡ Some y →
    ((t : Term) → after E V n t ≡ Some x → after E V (suc n) t ≡ Some y) → if_some o (after E V (suc n)) ≡ Some y
after_by E V n None x y p e h = cc
after_by E V n (Some t) x y p e h = h t p

pub after_last : (E : Env) (V : Values) (n : ℕ) (t x y : Term) → after E V n t ≡ Some x → weak_next E V x ≡ Some y → after E V (suc n) t ≡ Some y
after_last E V zero t x y p e =
    let q : t ≡ x = cc in
    ap (λ s. if_some (weak_next E V s) (after E V zero)) q ∙ ap (λ o. if_some o (after E V zero)) e
after_last E V (suc n) t x y p e = after_by E V n (weak_next E V t) x y p e (λ s q. after_last E V n s x y q e)

-- the first of some steps
pub record IsFirst (E : Env) (V : Values) (n : ℕ) (t v : Term) : Type 0 where
  pub next : Term
  pub step : weak_next E V t ≡ Some next
  pub rest : after E V n next ≡ Some v

first_by : (E : Env) (V : Values) (n : ℕ) (t v : Term) (o : Option Term) → weak_next E V t ≡ o → if_some o (after E V n) ≡ Some v → IsFirst E V n t v
first_by E V n t v None e p = absurd (cc)
first_by E V n t v (Some x) e p = record { next = x; step = e; rest = p }

pub after_first : (E : Env) (V : Values) (n : ℕ) (t v : Term) → after E V (suc n) t ≡ Some v → IsFirst E V n t v
after_first E V n t v p = first_by E V n t v (weak_next E V t) refl p

-- a frame put on, and one taken off
pub waiting_pushed : (E : Env) (V : Values) (u : ℕ) (fs gs : List Frame) (f : Frame) (t : Term) → gs ≡ fs ++ (f ∷ []) → IsWaiting E V u f t →
    AreWaiting E V u fs (around (layer f) t) → AreWaiting E V u gs t
waiting_pushed E V u fs gs f t e h k = along (λ l. AreWaiting E V u l t) (sym e) (waiting_last E V u fs f t h k)
  where
    waiting_last : (E : Env) (V : Values) (u : ℕ) (fs : List Frame) (f : Frame) (t : Term) → IsWaiting E V u f t → AreWaiting E V u fs (around (layer f) t) →
        AreWaiting E V u (fs ++ f ∷ []) t
    waiting_last E V u [] f t h k = (h, tt)
    waiting_last E V u (g ∷ fs) f t h k =
        let l : plug (layers (fs ++ f ∷ [])) t ≡ plug (layers fs) (around (layer f) t) =
        ap (λ q. plug q t) (layers_last fs (fs ++ f ∷ []) f refl) ∙ plug_last (layers fs) (layer f) t in
        (along (λ x. IsWaiting E V u g x) (sym l) k.0, waiting_last E V u fs f t h k.1)

pub record WaitsPopped (E : Env) (V : Values) (u : ℕ) (gs : List Frame) (f : Frame) (t : Term) : Type 0 where
  pub frame : IsWaiting E V u f t
  pub others : AreWaiting E V u gs (around (layer f) t)

waiting_before : (E : Env) (V : Values) (u : ℕ) (gs : List Frame) (f : Frame) (t : Term) → AreWaiting E V u (gs ++ f ∷ []) t → WaitsPopped E V u gs f t
waiting_before E V u [] f t h = record { frame = h.0; others = tt }
waiting_before E V u (g ∷ gs) f t h =
    let r = waiting_before E V u gs f t h.1 in
    let l : plug (layers (gs ++ f ∷ [])) t ≡ plug (layers gs) (around (layer f) t) =
    ap (λ q. plug q t) (layers_last gs (gs ++ f ∷ []) f refl) ∙ plug_last (layers gs) (layer f) t in
    record { frame = r.frame; others = (along (λ x. IsWaiting E V u g x) l h.0, r.others) }

pub waiting_popped : (E : Env) (V : Values) (u : ℕ) (fs gs : List Frame) (f : Frame) (t : Term) → fs ≡ gs ++ (f ∷ []) → AreWaiting E V u fs t → WaitsPopped E V u gs f t
waiting_popped E V u fs gs f t e h = waiting_before E V u gs f t (along (λ l. AreWaiting E V u l t) e h)

-- a frame that begins to wait
pub waiting_begun : (E : Env) (V : Values) (u : ℕ) (fs gs : List Frame) (o : Lazy) (t x : Term) → gs ≡ fs ++ (Update o u ∷ []) → read o ≡ t → t ≡ x →
    AreWaiting E V u fs t → AreWaiting E V u gs x
waiting_begun E V u fs gs o t x e p q h =
    let z : u - u ≡ 0 = omega arith in
    waiting_pushed E V u fs gs (Update o u) x e (omega arith, ap (λ n. after E V n (read o)) z ∙ ap Some (p ∙ q)) (along (λ y. AreWaiting E V u fs y) q h)

-- what a frame waited for
pub waited : (E : Env) (V : Values) (u w : ℕ) (f : Frame) (o : Lazy) (b : ℕ) (t x : Term) → f ≡ Update o b → w ≡ u → t ≡ x → IsWaiting E V u f t →
    (w ≤ b) × (after E V (b - w) (read o) ≡ Some x)
waited E V u w f o b t x p q r h =
    let k : IsWaiting E V u (Update o b) t = along (λ g. IsWaiting E V u g t) p h in
    (omega (arith, k.0, q), ap (λ n. after E V (b - n) (read o)) q ∙ k.1 ∙ ap Some r)

-- an item of a term
pub item_of : (l x : Lazy) (o : Looked) → IsItem x o → read l ≡ read x → x.env.rank < l.env.rank → IsItemOf l o
item_of l x (KnownItem k) i r d = tt
item_of l x (Wanted y) i r d = (r ∙ sym (ap read i), along (λ z. z.env.rank < l.env.rank) (sym i) d)
item_of l x (Plain y) i r d = (r ∙ sym (ap read i), along (λ z. z.env.rank < l.env.rank) (sym i) d)

-- a step in the frames, which a unit pays for
frame_stepped : (E : Env) (V : Values) (u : ℕ) (f : Frame) (t x : Term) → weak_next E V t ≡ Some x → IsWaiting E V (suc u) f t → IsWaiting E V u f x
frame_stepped E V u (Update l b) t x e h =
    let n : b - u ≡ suc (b - suc u) = omega (arith, h.0) in
    (omega (arith, h.0), ap (λ k. after E V k (read l)) n ∙ after_last E V (b - suc u) (read l) t x h.1 e)
frame_stepped E V u f t x e h = tt

pub waiting_stepped : (E : Env) (V : Values) (u : ℕ) (fs : List Frame) (t x : Term) → AreFrames (layers fs) → weak_next E V t ≡ Some x → AreWaiting E V (suc u) fs t →
    AreWaiting E V u fs x
waiting_stepped E V u [] t x k e h = tt
waiting_stepped E V u (f ∷ fs) t x k e h = (
  frame_stepped E V u f (plug (layers fs) t) (plug (layers fs) x) (plug_steps E V (layers fs) t x k.1 e) h.0,
  waiting_stepped E V u fs t x k.1 e h.1,
)

-- all the steps of what is known
pub waiting_known : (E : Env) (V : Values) (n u : ℕ) (fs : List Frame) (t v : Term) → AreFrames (layers fs) → after E V n t ≡ Some v → AreWaiting E V (n + u) fs t →
    AreWaiting E V u fs v
waiting_known E V zero u fs t v k e h =
    let z : 0 + u ≡ u = omega arith in
    let q : t ≡ v = cc in
    along (λ x. AreWaiting E V u fs x) q (along (λ n. AreWaiting E V n fs t) z h)
waiting_known E V (suc n) u fs t v k e h =
    let f = after_first E V n t v e in
    let s : suc n + u ≡ suc (n + u) = omega arith in
    waiting_known E V n u fs f.next v k f.rest (waiting_stepped E V (n + u) fs t f.next k f.step (along (λ m. AreWaiting E V m fs t) s h))

pub waiting_none : (E : Env) (V : Values) (u : ℕ) (fs : List Frame) (t : Term) → fs ≡ [] → AreWaiting E V u fs t
waiting_none E V u fs t e = along (λ l. AreWaiting E V u l t) (sym e) tt

-- the run of what is known
pub record GoesFar (d : Run Term) (E : Env) (V : Values) (v : Term) (u : Account) : Type 0 where
  pub leads : Leads d (whnf E V v u)
  pub beyond : IsTrue (is_beyond v) → IsTrue d.deep

pub goes_far : (d : Run Term) (E : Env) (V : Values) (n : ℕ) (fs : List Layer) (t v : Term) (u : Account) → AreFrames fs → n ≤ u.left → after E V n t ≡ Some v →
    Leads d (whnf E V (plug fs t) u) → (IsTrue (is_beyond (plug fs t)) → IsTrue d.deep) → GoesFar d E V (plug fs v) (ticks n u)
goes_far d E V zero fs t v u k l e h b =
    let q : t ≡ v = cc in
    along (λ x. GoesFar d E V (plug fs x) u) q (record { leads = h; beyond = b })
goes_far d E V (suc n) fs t v u k l e h b =
    let f = after_first E V n t v e in
    let g = goes d E V (plug fs t) (plug fs f.next) u (omega (arith, l)) h (plug_steps E V fs t f.next k f.step) in
    let r : (ticked u).left + 1 ≡ u.left = omega (arith, l) in
    goes_far d E V n fs f.next v (ticked u) k (omega (arith, l, r)) f.rest g.leads g.beyond

-- entries of a table
pub reduct_at : (E : Env) (V : Values) (rs : List Reduct) (i : ℕ) (r : Reduct) → AreReducts E V rs → r ≡ get_or rs i r → i < length rs → IsReduct E V r
reduct_at E V [] i r h e l = absurd (omega (arith, l))
reduct_at E V (s ∷ rs) zero r h e l = along (λ x. IsReduct E V x) (sym e) h.0
reduct_at E V (s ∷ rs) (suc i) r h e l = reduct_at E V rs i r h.1 e (omega (arith, l))

pub reduct_known : (E : Env) (V : Values) (r : Reduct) (m : ℕ) (k : Known) (t : Term) → IsReduct E V r → r.own.value ≡ m → m ≡ number_of t → k.units ≡ r.units →
    k.term ≡ r.term → ComesTo E V t k
reduct_known E V r m k t h p q a b = record {
  some = omega (arith, h.some, a);
  steps = ap (λ n. after E V n t) a ∙ h.steps t (p ∙ q) ∙ ap (λ l. Some (read l)) (sym b);
}

pub reducts_last : (E : Env) (V : Values) (rs : List Reduct) (r : Reduct) → AreReducts E V rs → IsReduct E V r → AreReducts E V (rs ++ r ∷ [])
reducts_last E V [] r h k = (k, tt)
reducts_last E V (s ∷ rs) r h k = (h.0, reducts_last E V rs r h.1 k)

pub reducts_pushed : (E : Env) (V : Values) (rs ss : List Reduct) (r : Reduct) (b : Bool) → ss ≡ (if b then rs ++ r ∷ [] else rs) → AreReducts E V rs → IsReduct E V r →
    AreReducts E V ss
reducts_pushed E V rs ss r true e h k = along (λ l. AreReducts E V l) (sym e) (reducts_last E V rs r h k)
reducts_pushed E V rs ss r false e h k = along (λ l. AreReducts E V l) (sym e) h

-- one in the place of another
pub reducts_set : (E : Env) (V : Values) (rs : List Reduct) (i : ℕ) (r : Reduct) → AreReducts E V rs → IsReduct E V r → AreReducts E V (slice_set rs i r)
reducts_set E V [] i r h k = tt
reducts_set E V (s ∷ rs) zero r h k = (k, h.1)
reducts_set E V (s ∷ rs) (suc i) r h k = (h.0, reducts_set E V rs i r h.1 k)

pub reducts_none : (E : Env) (V : Values) (rs : List Reduct) → rs ≡ [] → AreReducts E V rs
reducts_none E V rs e = along (λ l. AreReducts E V l) (sym e) tt

-- what a place is for, by its number
pub place_known : (E : Env) (V : Values) (n m : ℕ) (s v : Term) → m ≡ number_of s → after E V n s ≡ Some v → (t : Term) → m ≡ number_of t → after E V n t ≡ Some v
place_known E V n m s v p e t q = ap (after E V n) (number_of-inj t s (sym q ∙ p)) ∙ e

-- a step that is paid, and the focus read after it
pub waits_on : (E : Env) (V : Values) (u w : ℕ) (fs gs hs : List Frame) (r x y z : Term) → AreFrames (layers fs) → u ≡ suc w → weak_next E V r ≡ Some x →
    AreWaiting E V u fs r → (AreWaiting E V w fs x → AreWaiting E V w gs y) → hs ≡ gs → z ≡ y → AreWaiting E V w hs z
waits_on E V u w fs gs hs r x y z k p e h f q i =
    let a : AreWaiting E V (suc w) fs r = along (λ n. AreWaiting E V n fs r) p h in
    rw (q, i) (f (waiting_stepped E V w fs r x k e a))

-- units that are taken one by one
pub ticks_left : (n : ℕ) (u : Account) → n ≤ u.left → (ticks n u).left + n ≡ u.left
ticks_left zero u h = omega arith
ticks_left (suc n) u h =
    let l : (ticked u).left + 1 ≡ u.left = omega (arith, h) in
    let r = ticks_left n (ticked u) (omega (arith, h, l)) in
    omega (arith, r, l)

pub ticks_next : (n : ℕ) (u v : Account) → 0 < n → v ≡ ticked u → ticks (n - 1) v ≡ ticks n u
ticks_next n u v h e =
    let m : n ≡ suc (n - 1) = omega (arith, h) in
    ap (ticks (n - 1)) e ∙ sym (ap (λ k. ticks k u) m)

pub ticks_on : (u v : Account) → 0 < u.left → v ≡ ticked u → ticks (v.left + 1) v ≡ ticks (u.left + 1) u
ticks_on u v h e =
    let l : v.left + 1 ≡ u.left = omega (arith, h, ap (λ a. a.left) e) in
    let s : suc u.left ≡ u.left + 1 = omega arith in
    ap (λ n. ticks n v) l ∙ ap (ticks u.left) e ∙ ap (λ n. ticks n u) s

pub one_more : (b : Bool) (n : ℕ) → (IsTrue b ↔ (0 < n)) → b ≡ true → 0 < n
one_more true n d e = d.0 refl
one_more false n d e = absurd (false≢true e)

-- what is known by what is looked up
pub known_through : (r : Result Entered MakeFault) (a b : Env → Values → Type 0) (p : Env → Values → Entered → Type 0) → IfOk r (λ e. (E : Env) (V : Values) → a E V → p E V e) →
    ((E : Env) (V : Values) → b E V → a E V) → IfOk r (λ e. (E : Env) (V : Values) → b E V → p E V e)
known_through (Ok e) a b p h f = λ E V x. h E V (f E V x)
known_through (Err x) a b p h f = h
