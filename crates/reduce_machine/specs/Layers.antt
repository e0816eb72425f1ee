-- Frames whose parts stand under bindings, as the frames that they are; and heads whose kind is that of their node.
use Rattle.std.specs.Prelude.{◌≤◌, List, [], ◌∷◌, length, map}
use Rattle.pc_terms.specs.Syntax.{Term, Rel, App, Case, Fix, apply}
use Rattle.reduce_machine.specs.Layered.{Layer, ToArgument, InMatch, OfFixpoint, ByItself}
use Rattle.reduce_machine.specs.Reads.{read}
use Rattle.reduce_machine.specs.declared.bindings.Lazy.{Lazy}
use Rattle.reduce_machine.specs.declared.frames.Frame.{Frame}
use Rattle.reduce_machine.specs.declared.frames.Frame.TheVariants.{Argument, Scrutinee, Recursive, Update}

abbrev pub layer : Frame → Layer
layer (Argument a) = ToArgument (read a)
layer (Scrutinee c) = InMatch (read c)
layer (Recursive f xs) = OfFixpoint (apply (read f) (map read xs.items))
layer (Update l b) = ByItself

abbrev pub layers : List Frame → List Layer
layers [] = []
layers (f ∷ fs) = layer f ∷ layers fs

-- a match or a fixpoint as it was written
abbrev pub IsMatchNode : Term → Type 0
IsMatchNode (Case f ps n ret s bs) = Unit {0}
IsMatchNode t = ⊥

abbrev pub IsFixNode : Term → Type 0
IsFixNode (Fix i rargs types bodies) = Unit {0}
IsFixNode t = ⊥

abbrev pub IsLayer : Frame → Type 0
IsLayer (Argument a) = Unit {0}
IsLayer (Scrutinee c) = IsMatchNode c.term
IsLayer (Recursive f xs) = IsFixNode f.term
IsLayer (Update l b) = Unit {0}

abbrev pub AreLayers : List Frame → Type 0
AreLayers [] = Unit {0}
AreLayers (f ∷ fs) = IsLayer f × AreLayers fs

-- no application, and no variable that is bound
abbrev pub IsShownIn : List Term → Term → Type 0
IsShownIn xs (Rel i) = length xs ≤ i
IsShownIn xs (App g a) = ⊥
IsShownIn xs t = Unit {0}

abbrev pub IsShown : Lazy → Type 0
IsShown l = IsShownIn l.env.items l.term

-- no match either
abbrev pub IsOpenIn : List Term → Term → Type 0
IsOpenIn xs (Rel i) = length xs ≤ i
IsOpenIn xs (App g a) = ⊥
IsOpenIn xs (Case f ps n ret s bs) = ⊥
IsOpenIn xs t = Unit {0}

abbrev pub IsOpen : Lazy → Type 0
IsOpen l = IsOpenIn l.env.items l.term
