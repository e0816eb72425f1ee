-- Terms in frames.
use Rattle.std.proofs.Common.{◌≡◌, ◌+◌, inl, inr, List, [], ◌∷◌, ◌++◌, Some, refl, ap, arith}
use Rattle.trees.specs.Measures.{IsBeyond}
use Rattle.pc_terms.specs.Syntax.{Term, Case}
use Rattle.pc_terms.proofs.Applied.{function_beyond, argument_beyond}
use Rattle.calculus_rules.specs.Environment.{Env}
use Rattle.calculus_rules.specs.Context.{Values}
use Rattle.pc_rules.specs.DirectedWeakHead.{case_step, weak_next}
use Rattle.reduce_machine.specs.Layered.{Layer, ToArgument, InMatch, OfFixpoint, ByItself, around, plug, IsFrame, AreFrames, weight, weights}
use Rattle.reduction.proofs.Steps.{function_steps, argument_steps}

-- a step in a frame is a step
around_steps : (E : Env) (V : Values) (f : Layer) (t u : Term) → IsFrame f → weak_next E V t ≡ Some u → weak_next E V (around f t) ≡ Some (around f u)
around_steps E V (ToArgument a) t u h e = function_steps E V t a u e
around_steps E V (InMatch (Case f ps n ret s bs)) t u h e = ap (λ o. case_step E f ps n ret t bs o) e
around_steps E V (InMatch c) t u h e = absurd h
around_steps E V (OfFixpoint g) t u h e = argument_steps E V g t u h e
around_steps E V ByItself t u h e = e

pub plug_steps : (E : Env) (V : Values) (fs : List Layer) (t u : Term) → AreFrames fs → weak_next E V t ≡ Some u → weak_next E V (plug fs t) ≡ Some (plug fs u)
plug_steps E V [] t u h e = e
plug_steps E V (f ∷ fs) t u h e = around_steps E V f (plug fs t) (plug fs u) h.0 (plug_steps E V fs t u h.1 e)

pub plug_last : (fs : List Layer) (f : Layer) (t : Term) → plug (fs ++ f ∷ []) t ≡ plug fs (around f t)
plug_last [] f t = refl
plug_last (g ∷ fs) f t = ap (around g) (plug_last fs f t)

pub frames_last : (fs : List Layer) (f : Layer) → AreFrames fs → IsFrame f → AreFrames (fs ++ f ∷ [])
frames_last [] f h k = (k, tt)
frames_last (g ∷ fs) f h k = (h.0, frames_last fs f h.1 k)

pub frames_before : (fs : List Layer) (f : Layer) → AreFrames (fs ++ f ∷ []) → AreFrames fs × IsFrame f
frames_before [] f h = (tt, h.0)
frames_before (g ∷ fs) f h = let r = frames_before fs f h.1 in ((h.0, r.0), r.1)

pub weights_last : (fs : List Layer) (f : Layer) → weights (fs ++ f ∷ []) ≡ weights fs + weight f
weights_last [] f = omega arith
weights_last (g ∷ fs) f = omega (arith, weights_last fs f)

-- what is around a term beyond the limits is beyond them
around_beyond : (f : Layer) (t : Term) → IsFrame f → IsBeyond t → IsBeyond (around f t)
around_beyond (ToArgument a) t k h = function_beyond t a h
around_beyond (InMatch (Case f ps n ret s bs)) t k (inl h) = inl (omega arith)
around_beyond (InMatch (Case f ps n ret s bs)) t k (inr h) = inr (omega arith)
around_beyond (InMatch c) t k h = absurd k
around_beyond (OfFixpoint g) t k h = argument_beyond g t h
around_beyond ByItself t k h = h

pub plug_beyond : (fs : List Layer) (t : Term) → AreFrames fs → IsBeyond t → IsBeyond (plug fs t)
plug_beyond [] t k h = h
plug_beyond (f ∷ fs) t k h = around_beyond f (plug fs t) k.0 (plug_beyond fs t k.1 h)

pub plug_append : (fs gs : List Layer) (t : Term) → plug (fs ++ gs) t ≡ plug fs (plug gs t)
plug_append [] gs t = refl
plug_append (f ∷ fs) gs t = ap (around f) (plug_append fs gs t)
