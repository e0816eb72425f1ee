-- Arguments that are bound or put around a body, one after the other.
use Rattle.std.proofs.Common.{◌≡◌, ℕ, zero, suc, ◌+◌, ◌<◌, ◌≤◌, List, [], ◌∷◌, ◌++◌, length, drop, map, get_or, refl, sym, ap, ◌∙◌, Result, Ok, Err, IfOk, IfErr, ◌⊎◌, inl, inr}
use Rattle.trees.specs.Measures.{IsBeyond}
use Rattle.pc_terms.specs.declared.term.MakeFault.TheVariants.{TooDeep}
use Rattle.redexes.proofs.Unfolding.{body_beyond}
use Rattle.pc_terms.specs.declared.term.MakeFault.{MakeFault}
use Rattle.pc_terms.specs.Syntax.{Term, App, apply, put_all}
use Rattle.calculus_rules.specs.Context.{Values}
use Rattle.calculus_rules.specs.Environment.{Env}
use Rattle.reduce_machine.specs.Reducts.{AreWaiting}
use Rattle.reduce_machine.specs.Layered.{plug, ToArgument}
use Rattle.reduce_machine.specs.Layers.{layers}
use Rattle.reduce_machine.specs.Reads.{stands, read}
use Rattle.reduce_machine.specs.Sought.{AreSound}
use Rattle.reduce_machine.specs.declared.bindings.Lazy.{Lazy}
use Rattle.reduce_machine.specs.declared.frames.Frame.{Frame}
use Rattle.reduce_machine.specs.declared.frames.Frame.TheVariants.{Argument}
use Rattle.reduce_machine.proofs.Arms.{drop_item}
use Rattle.reduce_machine.proofs.Keeping.{waiting_pushed}
use Rattle.reduce_machine.proofs.Layering.{layers_last, sound_pushed}
use Rattle.reduce_machine.proofs.Plugging.{plug_last}
use Rattle.pc_rules.proofs.ListSteps.{none_left}

map_drop : (xs : List Lazy) (n : ℕ) → map read (drop n xs) ≡ drop n (map read xs)
map_drop xs zero = refl
map_drop [] (suc n) = refl
map_drop (x ∷ xs) (suc n) = map_drop xs n

pub bind_start : (xs : List Lazy) (n : ℕ) (s : ℕ → Term) → put_all (map read (drop n xs)) s ≡ put_all (drop n (map read xs)) s
bind_start xs n s = ap (λ ys. put_all ys s) (map_drop xs n)

pub bind_more : (xs : List Lazy) (i : ℕ) (x l : Lazy) (ys zs : List Term) (w : ℕ → Term) → x ≡ get_or xs i x → i < length xs → l ≡ x → zs ≡ read l ∷ ys →
    put_all (map read (drop i xs)) (stands ys) ≡ w → put_all (map read (drop (i + 1) xs)) (stands zs) ≡ w
bind_more xs i x l ys zs w e h p q r =
    ap (λ y. put_all (map read (drop (i + 1) xs)) (stands y)) (q ∙ ap (λ k. read k ∷ ys) p)
    ∙ sym (ap (λ y. put_all (map read y) (stands ys)) (drop_item xs i x e h)) ∙ r

pub bind_done : (xs : List Lazy) (i : ℕ) (s w : ℕ → Term) → length xs ≤ i → put_all (map read (drop i xs)) s ≡ w → s ≡ w
bind_done xs i s w h r = sym (ap (λ y. put_all (map read y) s) (none_left xs i h)) ∙ r

pub pushed_plug : (fs gs : List Frame) (a : Lazy) (u : Term) → gs ≡ fs ++ (Argument a ∷ []) → plug (layers gs) u ≡ plug (layers fs) (App u (read a))
pushed_plug fs gs a u e = ap (λ l. plug l u) (layers_last fs gs (Argument a) e) ∙ plug_last (layers fs) (ToArgument (read a)) u

pub pushed_sound : (fs gs : List Frame) (a : Lazy) → gs ≡ fs ++ (Argument a ∷ []) → AreSound fs → AreSound gs
pushed_sound fs gs a e s = sound_pushed fs gs (Argument a) e s tt tt

apply_more : (h : Term) (xs : List Term) (a : Term) → apply h (xs ++ (a ∷ [])) ≡ App (apply h xs) a
apply_more h [] a = refl
apply_more h (x ∷ xs) a = apply_more (App h x) xs a

pub map_more : (xs : List Lazy) (l : Lazy) → map read (xs ++ (l ∷ [])) ≡ map read xs ++ (read l ∷ [])
map_more [] l = refl
map_more (x ∷ xs) l = ap (◌∷◌ (read x)) (map_more xs l)

-- an argument more
pub last_applied : (t : Term) (xs ys : List Lazy) (l : Lazy) → ys ≡ xs ++ (l ∷ []) → apply t (map read ys) ≡ App (apply t (map read xs)) (read l)
last_applied t xs ys l e = ap (λ zs. apply t (map read zs)) e ∙ ap (apply t) (map_more xs l) ∙ apply_more t (map read xs) (read l)

pub push_plugs : (fs gs : List Frame) (a : Lazy) (r : Result (Unit {0}) MakeFault) → IfOk r (λ _. gs ≡ fs ++ (Argument a ∷ [])) →
    IfOk r (λ _. (t : Term) → plug (layers gs) t ≡ plug (layers fs) (App t (read a)))
push_plugs fs gs a (Ok u) e = λ t. pushed_plug fs gs a t e
push_plugs fs gs a (Err x) e = e

pub push_waits : (fs gs : List Frame) (a : Lazy) (r : Result (Unit {0}) MakeFault) → IfOk r (λ _. gs ≡ fs ++ (Argument a ∷ [])) →
    IfOk r (λ _. (E : Env) (V : Values) (u : ℕ) (t : Term) → AreWaiting E V u fs (App t (read a)) → AreWaiting E V u gs t)
push_waits fs gs a (Ok x) e = λ E V u t h. waiting_pushed E V u fs gs (Argument a) t e tt h
push_waits fs gs a (Err x) e = e

pub push_sounds : (fs gs : List Frame) (a : Lazy) (r : Result (Unit {0}) MakeFault) → AreSound fs → IfOk r (λ _. gs ≡ fs ++ (Argument a ∷ [])) → IfOk r (λ _. AreSound gs)
push_sounds fs gs a (Ok u) s e = pushed_sound fs gs a e s
push_sounds fs gs a (Err x) s e = e

pub step_deep : (f b : Term) (xs : List Term) (a : Term) (r : Result (Unit {0}) MakeFault) → IfErr r (λ e. e ≡ TooDeep → IsBeyond f ⊎ IsBeyond b) →
    IfErr r (λ e. e ≡ TooDeep → IsBeyond f ⊎ IsBeyond (App (apply b xs) a))
step_deep f b xs a (Ok u) h = h
step_deep f b xs a (Err x) h = λ d. either (h d)
  where
    either : IsBeyond f ⊎ IsBeyond b → IsBeyond f ⊎ IsBeyond (App (apply b xs) a)
    either (inl y) = inl y
    either (inr y) = inr (body_beyond b xs a y)
