-- One layer of a term taken off into a frame, and put on again.
use Rattle.std.proofs.Common.{◌≡◌, ℕ, ◌+◌, ◌<◌, ◌≤◌, List, [], ◌∷◌, ◌++◌, length, Some, sym, ap, ◌∙◌, subst as along, arith, length-append}
use Rattle.trees.specs.Measures.{IsBeyond}
use Rattle.pc_terms.specs.Syntax.{Term, App}
use Rattle.calculus_rules.specs.Environment.{Env}
use Rattle.calculus_rules.specs.Context.{Values}
use Rattle.pc_rules.specs.DirectedWeakHead.{weak_next}
use Rattle.reduce_machine.specs.Layered.{Layer, OfFixpoint, around, plug, IsFrame, AreFrames, weight, weights}
use Rattle.reduction.specs.Frames.{work}
use Rattle.reduce_machine.proofs.Plugging.{plug_steps, plug_last, frames_before, weights_last, plug_beyond}

-- a frame that is taken away
pub popped : (fs gs : List Layer) (f : Layer) → fs ≡ gs ++ (f ∷ []) → AreFrames fs → AreFrames gs × IsFrame f
popped fs gs f e h = frames_before gs f (along (λ l. AreFrames l) e h)

pub popped_whole : (fs gs : List Layer) (f : Layer) (t w : Term) → fs ≡ gs ++ (f ∷ []) → plug fs t ≡ w → plug gs (around f t) ≡ w
popped_whole fs gs f t w e p = sym (plug_last gs f t) ∙ sym (ap (λ l. plug l t) e) ∙ p

pub popped_length : (fs gs : List Layer) (f : Layer) → fs ≡ gs ++ (f ∷ []) → length gs < length fs
popped_length fs gs f e =
    let x : length fs ≡ length (gs ++ (f ∷ [])) = ap length e in
    let y : length (gs ++ (f ∷ [])) ≡ length gs + 1 = length-append gs (f ∷ []) in
    omega arith

pub popped_weights : (fs gs : List Layer) (f : Layer) (n : ℕ) → fs ≡ gs ++ (f ∷ []) → weights fs ≤ n → weights gs ≤ n
popped_weights fs gs f n e h =
    let x : weights fs ≡ weights gs + weight f = ap weights e ∙ weights_last gs f in
    omega arith

pub popped_beyond : (fs gs : List Layer) (f : Layer) (t w : Term) → fs ≡ gs ++ (f ∷ []) → AreFrames fs → plug fs t ≡ w → IsBeyond (around f t) → IsBeyond w
popped_beyond fs gs f t w e h p b =
    along (λ (x : Term). IsBeyond x) (popped_whole fs gs f t w e p) (plug_beyond gs (around f t) (popped fs gs f e h).0 b)

pub popped_steps : (E : Env) (V : Values) (fs gs : List Layer) (f : Layer) (t w x : Term) → fs ≡ gs ++ (f ∷ []) → AreFrames fs → plug fs t ≡ w →
    weak_next E V (around f t) ≡ Some x → weak_next E V w ≡ Some (plug gs x)
popped_steps E V fs gs f t w x e h p s =
    ap (weak_next E V) (sym (popped_whole fs gs f t w e p)) ∙ plug_steps E V gs (around f t) x (popped fs gs f e h).0 s

-- a fixpoint's recursive argument as the focus
pub inward_whole : (fs gs hs : List Layer) (f : Layer) (t g a w : Term) → fs ≡ gs ++ (f ∷ []) → hs ≡ gs ++ (OfFixpoint g ∷ []) → plug fs t ≡ w → around f t ≡ App g a →
    plug hs a ≡ w
inward_whole fs gs hs f t g a w e k p q =
    ap (λ l. plug l a) k ∙ plug_last gs (OfFixpoint g) a ∙ ap (plug gs) (sym q) ∙ popped_whole fs gs f t w e p

pub inward_load : (fs gs hs : List Layer) (f : Layer) (g a : Term) (m n : ℕ) → fs ≡ gs ++ (f ∷ []) → hs ≡ gs ++ (OfFixpoint g ∷ []) → work a + 2 ≤ weight f →
    weights fs ≤ m → work a + weights hs < n + m
inward_load fs gs hs f g a m n e k h l =
    let x : weights fs ≡ weights gs + weight f = ap weights e ∙ weights_last gs f in
    let y : weights hs ≡ weights gs + 1 = ap weights k ∙ weights_last gs (OfFixpoint g) in
    omega arith

-- no frame is left
pub settled_whole : (fs : List Layer) (t w : Term) → fs ≡ [] → plug fs t ≡ w → t ≡ w
settled_whole fs t w e p = sym (ap (λ l. plug l t) e) ∙ p

pub no_frames : (fs : List Layer) → fs ≡ [] → AreFrames fs
no_frames fs e = along (λ l. AreFrames l) (sym e) tt
