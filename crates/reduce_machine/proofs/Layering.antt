-- Frames whose parts stand under bindings: one put on, one taken off, and what is in them.
use Rattle.std.proofs.Common.{◌≡◌, ℕ, suc, ◌+◌, ◌<◌, ◌≤◌, ◌⊎◌, inl, inr, List, [], ◌∷◌, ◌++◌, length, Option, Some, None, refl, sym, ap, ◌∙◌, subst as along, arith, length-append, append_assoc, append-nil, slice_get, IfSome}
use Rattle.pc_terms.specs.declared.leaf.FamilyId.{FamilyId}
use Rattle.pc_terms.specs.Syntax.{Term, Terms, Rel, App, Case, substitute}
use Rattle.reduction.specs.Frames.{with_scrutinee, work, IsMatch}
use Rattle.reduce_machine.specs.Layered.{Layer, ToArgument, InMatch, ByItself, around, plug, IsFrame, AreFrames, weights}
use Rattle.reduce_machine.specs.Layers.{layer, layers, IsLayer, AreLayers, IsMatchNode}
use Rattle.reduce_machine.specs.Reads.{stands, read}
use Rattle.reduce_machine.specs.Sought.{whole, load, way, AreSound, IsRoot, IsStart, IsRooted, IsGrown}
use Rattle.reduce_machine.specs.Steps.{IsStepIn}
use Rattle.reduce_machine.specs.declared.steps.Step.{Step}
use Rattle.reduce_machine.specs.declared.bindings.Lazy.{Lazy}
use Rattle.reduce_machine.specs.declared.frames.Frame.{Frame}
use Rattle.reduce_machine.specs.declared.frames.Frame.TheVariants.{Argument, Scrutinee, Update}
use Rattle.reduce_machine.specs.declared.machine.Machine.{Machine}
use Rattle.reduce_machine.specs.declared.machine.Root.{Root}
use Rattle.reduce_machine.proofs.Plugging.{plug_append, plug_last, frames_last, frames_before, weights_last}
use Rattle.reduce_machine.proofs.Entering.{popped_beyond}
use Rattle.reduce_machine.proofs.Standing.{stands_at}

pub layers_append : (fs gs : List Frame) → layers (fs ++ gs) ≡ layers fs ++ layers gs
layers_append [] gs = refl
layers_append (f ∷ fs) gs = ap (◌∷◌ (layer f)) (layers_append fs gs)

pub layers_last : (fs gs : List Frame) (f : Frame) → gs ≡ fs ++ (f ∷ []) → layers gs ≡ layers fs ++ (layer f ∷ [])
layers_last fs gs f e = ap layers e ∙ layers_append fs (f ∷ [])

nodes_last : (fs : List Frame) (f : Frame) → AreLayers fs → IsLayer f → AreLayers (fs ++ f ∷ [])
nodes_last [] f h k = (k, tt)
nodes_last (g ∷ fs) f h k = (h.0, nodes_last fs f h.1 k)

nodes_before : (fs : List Frame) (f : Frame) → AreLayers (fs ++ f ∷ []) → AreLayers fs × IsLayer f
nodes_before [] f h = (tt, h.0)
nodes_before (g ∷ fs) f h = let r = nodes_before fs f h.1 in ((h.0, r.0), r.1)

pub sound_pushed : (fs gs : List Frame) (f : Frame) → gs ≡ fs ++ (f ∷ []) → AreSound fs → IsFrame (layer f) → IsLayer f → AreSound gs
sound_pushed fs gs f e s h k = record {
  frames = along (λ l. AreFrames l) (sym (layers_last fs gs f e)) (frames_last (layers fs) (layer f) s.frames h);
  nodes = along (λ l. AreLayers l) (sym e) (nodes_last fs f s.nodes k);
}

pub record IsPopped (gs : List Frame) (f : Frame) : Type 0 where
  pub sound : AreSound gs
  pub frame : IsFrame (layer f)
  pub node : IsLayer f

pub sound_popped : (fs gs : List Frame) (f : Frame) → fs ≡ gs ++ (f ∷ []) → AreSound fs → IsPopped gs f
sound_popped fs gs f e s =
    let a = frames_before (layers gs) (layer f) (along (λ l. AreFrames l) (layers_last gs fs f e) s.frames) in
    let b = nodes_before gs f (along (λ l. AreLayers l) e s.nodes) in
    record { sound = record { frames = a.0; nodes = b.0 }; frame = a.1; node = b.1 }

pub sound_none : (fs : List Frame) → fs ≡ [] → AreSound fs
sound_none fs e = along (λ l. AreSound l) (sym e) (record { frames = tt; nodes = tt })

-- frames put around the focus
pub grown_whole : (m n : Machine) → IsGrown m n → whole n ≡ whole m
grown_whole m n g =
    ap (λ l. plug l (read n.focus)) (ap layers g.1 ∙ layers_append m.frames.items g.0)
    ∙ plug_append (layers m.frames.items) (layers g.0) (read n.focus) ∙ ap (plug (layers m.frames.items)) g.2

pub grown_same : (m : Machine) → IsGrown m m
grown_same m = ([], sym (append-nil m.frames.items), refl)

pub grown_on : (m n o : Machine) → IsGrown m n → IsGrown n o → IsGrown m o
grown_on m n o g h = (
  g.0 ++ h.0,
  h.1 ∙ ap (λ l. l ++ h.0) g.1 ∙ append_assoc m.frames.items g.0 h.0,
  ap (λ l. plug l (read o.focus)) (layers_append g.0 h.0) ∙ plug_append (layers g.0) (layers h.0) (read o.focus) ∙ ap (plug (layers g.0)) h.2 ∙ g.2,
)

-- into the function of an application
pub app_read : (m n : Machine) (g a : Term) (l : Lazy) → n.focus.env ≡ m.focus.env → n.focus.term ≡ g → App g a ≡ m.focus.term → read l ≡ substitute (stands m.focus.env.items) a →
    App (read n.focus) (read l) ≡ read m.focus
app_read m n g a l p q v r =
    (λ j. App (substitute (stands (p j).items) (q j)) (r j)) ∙ ap (substitute (stands m.focus.env.items)) v

pub record IsEntered (m n : Machine) : Type 0 where
  pub grown : IsGrown m n
  pub sound : AreSound n.frames.items
  pub load : load n ≤ load m
  pub falls : way n.focus < way m.focus

pub app_entered : (m n : Machine) (g a : Term) (l : Lazy) → AreSound m.frames.items → n.frames.items ≡ m.frames.items ++ (Argument l ∷ []) → n.focus.env ≡ m.focus.env →
    n.focus.term ≡ g → App g a ≡ m.focus.term → read l ≡ substitute (stands m.focus.env.items) a → IsEntered m n
app_entered m n g a l s e p q v r =
    let w = app_read m n g a l p q v r in
    let x : work (read n.focus) + work (read l) + 3 ≡ work (read m.focus) = ap work w in
    let y : weights (layers n.frames.items) ≡ weights (layers m.frames.items) + (work (read l) + 2) =
    ap weights (layers_last m.frames.items n.frames.items (Argument l) e) ∙ weights_last (layers m.frames.items) (ToArgument (read l)) in
    let z : n.focus.env.rank ≡ m.focus.env.rank = ap (λ b. b.rank) p in
    record {
      grown = (Argument l ∷ [], e, w);
      sound = sound_pushed m.frames.items n.frames.items (Argument l) e s tt tt;
      load = omega arith;
      falls = omega arith;
    }

-- into the scrutinee of a match
pub case_read : (m n : Machine) (f : FamilyId) (ps : Terms) (k : ℕ) (ret t : Term) (bs : Terms) (o : Lazy) → o ≡ m.focus → Case f ps k ret t bs ≡ m.focus.term →
    read n.focus ≡ substitute (stands m.focus.env.items) t → with_scrutinee (read o) (read n.focus) ≡ read m.focus
case_read m n f ps k ret t bs o p v r =
    (λ j. with_scrutinee (read (p j)) (r j)) ∙ sym (ap (λ x. with_scrutinee (substitute (stands m.focus.env.items) x) (substitute (stands m.focus.env.items) t)) v)
    ∙ ap (substitute (stands m.focus.env.items)) v

pub case_entered : (m n : Machine) (f : FamilyId) (ps : Terms) (k : ℕ) (ret t : Term) (bs : Terms) (o : Lazy) → AreSound m.frames.items →
    n.frames.items ≡ m.frames.items ++ (Scrutinee o ∷ []) → o ≡ m.focus → Case f ps k ret t bs ≡ m.focus.term → read n.focus ≡ substitute (stands m.focus.env.items) t →
    n.focus.env.rank ≤ m.focus.env.rank → IsEntered m n
case_entered m n f ps k ret t bs o s e p v r d =
    let w = case_read m n f ps k ret t bs o p v r in
    let q : o.term ≡ m.focus.term = ap (λ l. l.term) p in
    let x : work (substitute (stands m.focus.env.items) t) + 2 ≡ work (read m.focus) = ap (λ y. work (substitute (stands m.focus.env.items) y)) v in
    let x' : work (read n.focus) ≡ work (substitute (stands m.focus.env.items) t) = ap work r in
    let y : weights (layers n.frames.items) ≡ weights (layers m.frames.items) + 1 =
    ap weights (layers_last m.frames.items n.frames.items (Scrutinee o) e) ∙ weights_last (layers m.frames.items) (InMatch (read o)) in
    let i : IsMatch (read o) = along (λ y. IsMatch (substitute (stands o.env.items) y)) (v ∙ sym q) tt in
    let j : IsMatchNode o.term = along (λ y. IsMatchNode y) (v ∙ sym q) tt in
    record {
      grown = (Scrutinee o ∷ [], e, w);
      sound = sound_pushed m.frames.items n.frames.items (Scrutinee o) e s i j;
      load = omega arith;
      falls = omega arith;
    }

-- to what a variable is bound to
pub item_read : (m : Machine) (i : ℕ) (l : Lazy) → Rel i ≡ m.focus.term → slice_get m.focus.env.items i ≡ Some (read l) → read m.focus ≡ read l
item_read m i l v f = sym (ap (substitute (stands m.focus.env.items)) v) ∙ stands_at m.focus.env.items i (read l) f

pub item_entered : (m n : Machine) (l : Lazy) → AreSound m.frames.items → n.frames.items ≡ m.frames.items → n.focus ≡ l → read m.focus ≡ read l →
    l.env.rank < m.focus.env.rank → IsEntered m n
item_entered m n l s e p r d =
    let w : read n.focus ≡ read m.focus = ap read p ∙ sym r in
    let x : work (read n.focus) ≡ work (read m.focus) = ap work w in
    let y : weights (layers n.frames.items) ≡ weights (layers m.frames.items) = ap (λ l. weights (layers l)) e in
    let z : n.focus.env.rank ≡ l.env.rank = ap (λ q. q.env.rank) p in
    record {
      grown = ([], e ∙ sym (append-nil m.frames.items), w);
      sound = along (λ l. AreSound l) (sym e) s;
      load = omega arith;
      falls = omega arith;
    }

-- with a frame that waits for what that is reduced to
pub wanted_entered : (m n : Machine) (o : Lazy) (b : ℕ) (l : Lazy) → AreSound m.frames.items → n.frames.items ≡ m.frames.items ++ (Update o b ∷ []) → n.focus ≡ l →
    read m.focus ≡ read l → l.env.rank < m.focus.env.rank → IsEntered m n
wanted_entered m n o b l s e p r d =
    let w : read n.focus ≡ read m.focus = ap read p ∙ sym r in
    let x : work (read n.focus) ≡ work (read m.focus) = ap work w in
    let y : weights (layers n.frames.items) ≡ weights (layers m.frames.items) + 0 =
    ap weights (layers_last m.frames.items n.frames.items (Update o b) e) ∙ weights_last (layers m.frames.items) ByItself in
    let z : n.focus.env.rank ≡ l.env.rank = ap (λ q. q.env.rank) p in
    record {
      grown = (Update o b ∷ [], e, w);
      sound = sound_pushed m.frames.items n.frames.items (Update o b) e s tt tt;
      load = omega arith;
      falls = omega arith;
    }

-- a root
inner_split : (is os gs : List Frame) (f : Frame) → os ++ is ≡ gs ++ (f ∷ []) → length os ≤ length gs →
    (js : List Frame) × (is ≡ js ++ (f ∷ [])) × (gs ≡ os ++ js)
inner_split is [] gs f e h = (gs, e, refl)
inner_split is (o ∷ os) [] f e h = absurd (omega arith)
inner_split is (o ∷ os) (g ∷ gs) f e h =
    let r = inner_split is os gs f (cc) (omega arith) in
    (r.0, r.1, cc)

inner_none : (is os gs : List Frame) (f : Frame) → os ++ is ≡ gs ++ (f ∷ []) → length os ≡ suc (length gs) → is ≡ []
inner_none [] os gs f e h = refl
inner_none (i ∷ is) os gs f e h =
    let x : length (os ++ (i ∷ is)) ≡ length (gs ++ (f ∷ [])) = ap length e in
    let y : length (os ++ (i ∷ is)) ≡ length os + length (i ∷ is) = length-append os (i ∷ is) in
    let z : length (gs ++ (f ∷ [])) ≡ length gs + 1 = length-append gs (f ∷ []) in
    absurd (omega arith)

pub root_here : (fs gs : List Frame) (f : Frame) (t : Term) (r : Root) → fs ≡ gs ++ (f ∷ []) → IsRoot fs t (Some r) → r.below ≡ length gs → read r.term ≡ t
root_here fs gs f t r e h b =
    let x : length fs ≡ length (gs ++ (f ∷ [])) = ap length e in
    let z : length (gs ++ (f ∷ [])) ≡ length gs + 1 = length-append gs (f ∷ []) in
    let i = h (omega arith) in
    let n : i.1 ≡ [] = inner_none i.1 i.0 gs f (sym i.2 ∙ e) (i.3 ∙ ap suc b) in
    sym i.4 ∙ ap (λ l. plug (layers l) t) n

pub root_popped : (fs gs : List Frame) (f : Frame) (t u : Term) (o : Option Root) → fs ≡ gs ++ (f ∷ []) → u ≡ around (layer f) t → IsRoot fs t o → IsRoot gs u o
root_popped fs gs f t u None e p h = tt
root_popped fs gs f t u (Some r) e p h = λ l.
    let x : length fs ≡ length (gs ++ (f ∷ [])) = ap length e in
    let z : length (gs ++ (f ∷ [])) ≡ length gs + 1 = length-append gs (f ∷ []) in
    let i = h (omega arith) in
    let s = inner_split i.1 i.0 gs f (sym i.2 ∙ e) (omega (arith, i.3)) in (
      i.0,
      s.0,
      s.2,
      i.3,
      ap (plug (layers s.0)) p ∙ sym (plug_last (layers s.0) (layer f) t) ∙ sym (ap (λ q. plug q t) (layers_last s.0 i.1 f s.1)) ∙ i.4,
    )

pub root_at : (fs gs : List Frame) (f : Frame) (t : Term) (o : Option Root) (n : ℕ) (l : Option Lazy) → fs ≡ gs ++ (f ∷ []) → IsRoot fs t o → n ≡ length gs →
    IsRooted o n l → IfSome l (λ x. read x ≡ t)
root_at fs gs f t o n None e h p i = tt
root_at fs gs f t None n (Some l) e h p i = absurd i
root_at fs gs f t (Some r) n (Some l) e h p i = ap read i.1 ∙ root_here fs gs f t r e h (i.0 ∙ p)

-- what is known, or the root that is there
pub known_or : (fs gs : List Frame) (f : Frame) (t : Term) (o : Option Root) (n : ℕ) (k l : Option Lazy) → fs ≡ gs ++ (f ∷ []) → IsRoot fs t o → n ≡ length gs →
    IfSome k (λ x. read x ≡ t) → (l ≡ k) ⊎ IsRooted o n l → IfSome l (λ x. read x ≡ t)
known_or fs gs f t o n k l e h p i (inl q) = along (λ m. IfSome m (λ x. read x ≡ t)) (sym q) i
known_or fs gs f t o n k l e h p i (inr q) = root_at fs gs f t o n l e h p q

pub root_grown : (m n : Machine) (o : Option Root) → IsStart m.frames.items (read m.focus) o → IsGrown m n → IsRoot n.frames.items (read n.focus) o
root_grown m n None s g = tt
root_grown m n (Some r) s g = λ l. (m.frames.items, g.0, g.1, s.0, g.2 ∙ sym s.1)

pub step_along : (t u : Term) (s : Step) → t ≡ u → IsStepIn t s → IsStepIn u s
step_along t u s e h = along (λ x. IsStepIn x s) e h

pub step_around : (fs gs : List Layer) (f : Layer) (t w : Term) (s : Step) → fs ≡ gs ++ (f ∷ []) → AreFrames fs → plug fs t ≡ w → IsStepIn (around f t) s → IsStepIn w s
step_around fs gs f t w s e h p k = record { node = k.node; part = λ b. popped_beyond fs gs f t w e h p (k.part b) }

pub popped_count : (fs gs : List Frame) (f : Frame) → fs ≡ gs ++ (f ∷ []) → length gs < length fs
popped_count fs gs f e =
    let x : length fs ≡ length (gs ++ (f ∷ [])) = ap length e in
    let y : length (gs ++ (f ∷ [])) ≡ length gs + 1 = length-append gs (f ∷ []) in
    omega arith

-- a term with no frames
pub start_whole : (m : Machine) (l : Lazy) → m.focus ≡ l → m.frames.items ≡ [] → whole m ≡ read l
start_whole m l p r = λ j. plug (layers (r j)) (read (p j))
