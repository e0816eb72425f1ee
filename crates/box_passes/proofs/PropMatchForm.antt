-- Form and size of programs whose matches on propositional families are dropped.
use Rattle.std.proofs.Common.{◌≡◌, ℕ, zero, suc, ◌+◌, ◌≤◌, Bool, true, false, List, [], ◌∷◌, length, map, refl, sym, ap, ◌∙◌, subst, arith}
use Rattle.std.proofs.lemmas.Bool.{false≢true}
use Rattle.trees.specs.Tree.{Slot, Rel, Node, Places, End, Child, Group, Done, Next}
use Rattle.trees.specs.Parallel.{rename, overs, first, put_all, substitute, substitute_children, substitute_terms}
use Rattle.trees.specs.Closed.{Closed, ClosedTerms, ClosedEach, EveryTerm}
use Rattle.trees.specs.Shape.{binders_of}
use Rattle.trees.specs.Measures.{nodes, nodes_places, nodes_trees, depth, depth_places, depth_trees}
use Rattle.trees.proofs.Bounds.{closed_at, substitute-closed, put_all_fits}
use Rattle.trees.proofs.Shape.{binders_substituted}
use Rattle.pc_terms.specs.declared.leaf.Name.{Name}
use Rattle.pc_terms.specs.declared.leaf.FamilyId.{FamilyId}
use Rattle.box_terms.specs.BoxSyntax.{BoxLabel, box_slots, BoxTerm, BoxTerms, Box, BLambda, BLetIn, BApp, BConst, BConstruct, BCase, BFix}
use Rattle.lambda_box.specs.BoxProgram.{BoxConstant, BoxFamily, BoxProgram, Has, NamesOnly, NamesKept, boxes}
use Rattle.lambda_box.specs.BoxForm.{IsFixBody, boxed, last, more, AreFixBodies, HasBoxForm, HasBoxFormTerms, IsBoxBody, AreOrdered, IsBoxProgram}
use Rattle.lambda_box.specs.DataTerms.{binder_depth, binder_depth_places, binder_depth_terms, binder_depth_constants}
use Rattle.lambda_box.specs.OrdinaryForm.{family_of}
use Rattle.lambda_box.specs.SaturatedForm.{nodes_of_constants}
use Rattle.lambda_box.specs.OrdinaryForm.{propositional_of, IsOrdinary, AreOrdinary}
use Rattle.box_passes.specs.PropMatch.{only_branch, match_of, drop_matches, drop_matches_terms, drop_matches_constant, PropMatchForm, PropMatchSizes, PropMatchProgramSizes}
use Rattle.lambda_box.proofs.Naming.{ordered_body}
use Rattle.trees.proofs.Every.{every_substitute}
use Rattle.lambda_box.proofs.Spines.{boxes_number}
use Rattle.lambda_box.proofs.Families.{distinct_mapped}
use Rattle.lambda_box.proofs.FormKept.{fix_bodies_substituted}
use Rattle.trees.proofs.Lists.{has_map, of_has_map}

-- box or a variable
data IsTiny : BoxTerm → Type 0 where
  tiny_box : IsTiny Box
  tiny_rel : {i : ℕ} → IsTiny (Rel i)

abbrev AreTiny : (ℕ → BoxTerm) → Type 0
AreTiny s = (i : ℕ) → IsTiny (s i)

tiny_renamed : {t : BoxTerm} (r : ℕ → ℕ) → IsTiny t → IsTiny (rename r t)
tiny_renamed r tiny_box = tiny_box
tiny_renamed r tiny_rel = tiny_rel

tiny_overs : (n : ℕ) (s : ℕ → BoxTerm) → AreTiny s → AreTiny (overs n s)
tiny_overs zero s h i = h i
tiny_overs (suc n) s h zero = tiny_rel
tiny_overs (suc n) s h (suc i) = tiny_renamed suc (tiny_overs n s h i)

tiny_first : (s : ℕ → BoxTerm) → AreTiny s → AreTiny (first Box s)
tiny_first s h zero = tiny_box
tiny_first s h (suc i) = h i

tiny_boxes : (k : ℕ) (s : ℕ → BoxTerm) → AreTiny s → AreTiny (put_all (boxes k) s)
tiny_boxes zero s h = h
tiny_boxes (suc k) s h = tiny_boxes k (first Box s) (tiny_first s h)

tiny_nodes : {t : BoxTerm} → IsTiny t → nodes t ≡ 1
tiny_nodes tiny_box = refl
tiny_nodes tiny_rel = refl

tiny_depth : {t : BoxTerm} → IsTiny t → depth t ≡ 1
tiny_depth tiny_box = refl
tiny_depth tiny_rel = refl

tiny_binders : {t : BoxTerm} → IsTiny t → binder_depth t ≡ 0
tiny_binders tiny_box = refl
tiny_binders tiny_rel = refl

mutual
  nodes_put : (t : BoxTerm) (s : ℕ → BoxTerm) → AreTiny s → nodes (substitute s t) ≡ nodes t
  nodes_put (Rel i) s h = tiny_nodes (h i)
  nodes_put (Node l ts) s h = omega (arith, nodes_put_places ts s h)

  nodes_put_places : {ss : List Slot} (ts : Places BoxLabel box_slots ss) (s : ℕ → BoxTerm) → AreTiny s → nodes_places (substitute_children s ts) ≡ nodes_places ts
  nodes_put_places End s h = refl
  nodes_put_places (Child {n} t ts) s h = omega (arith, nodes_put t (overs n s) (tiny_overs n s h), nodes_put_places ts s h)
  nodes_put_places (Group us ts) s h = omega (arith, nodes_put_terms us s h, nodes_put_places ts s h)

  nodes_put_terms : (ts : BoxTerms) (s : ℕ → BoxTerm) → AreTiny s → nodes_trees (substitute_terms s ts) ≡ nodes_trees ts
  nodes_put_terms Done s h = refl
  nodes_put_terms (Next n t ts) s h = omega (arith, nodes_put t (overs n s) (tiny_overs n s h), nodes_put_terms ts s h)

mutual
  depth_put : (t : BoxTerm) (s : ℕ → BoxTerm) → AreTiny s → depth (substitute s t) ≡ depth t
  depth_put (Rel i) s h = tiny_depth (h i)
  depth_put (Node l ts) s h = omega (arith, depth_put_places ts s h)

  depth_put_places : {ss : List Slot} (ts : Places BoxLabel box_slots ss) (s : ℕ → BoxTerm) → AreTiny s → depth_places (substitute_children s ts) ≡ depth_places ts
  depth_put_places End s h = refl
  depth_put_places (Child {n} t ts) s h = omega (arith, depth_put t (overs n s) (tiny_overs n s h), depth_put_places ts s h)
  depth_put_places (Group us ts) s h = omega (arith, depth_put_terms us s h, depth_put_places ts s h)

  depth_put_terms : (ts : BoxTerms) (s : ℕ → BoxTerm) → AreTiny s → depth_trees (substitute_terms s ts) ≡ depth_trees ts
  depth_put_terms Done s h = refl
  depth_put_terms (Next n t ts) s h = omega (arith, depth_put t (overs n s) (tiny_overs n s h), depth_put_terms ts s h)

mutual
  binders_put : (t : BoxTerm) (s : ℕ → BoxTerm) → AreTiny s → binder_depth (substitute s t) ≡ binder_depth t
  binders_put (Rel i) s h = tiny_binders (h i)
  binders_put (Node l ts) s h = binders_put_places ts s h

  binders_put_places : {ss : List Slot} (ts : Places BoxLabel box_slots ss) (s : ℕ → BoxTerm) → AreTiny s → binder_depth_places (substitute_children s ts) ≡ binder_depth_places ts
  binders_put_places End s h = refl
  binders_put_places (Child {n} t ts) s h = omega (arith, binders_put t (overs n s) (tiny_overs n s h), binders_put_places ts s h)
  binders_put_places (Group us ts) s h = omega (arith, binders_put_terms us s h, binders_put_places ts s h)

  binders_put_terms : (ts : BoxTerms) (s : ℕ → BoxTerm) → AreTiny s → binder_depth_terms (substitute_terms s ts) ≡ binder_depth_terms ts
  binders_put_terms Done s h = refl
  binders_put_terms (Next n t ts) s h = omega (arith, binders_put t (overs n s) (tiny_overs n s h), binders_put_terms ts s h)

-- sizes

record Smaller (t u : BoxTerm) : Type 0 where
  nodes' : nodes t ≤ nodes u
  depth' : depth t ≤ depth u
  binders' : binder_depth t ≤ binder_depth u

record SmallerTerms (ts us : BoxTerms) : Type 0 where
  nodes' : nodes_trees ts ≤ nodes_trees us
  depth' : depth_trees ts ≤ depth_trees us
  binders' : binder_depth_terms ts ≤ binder_depth_terms us

tiny_variables : AreTiny Rel
tiny_variables i = tiny_rel

branch_smaller : (f : FamilyId) (s s' : BoxTerm) (bs bs' : BoxTerms) → Smaller s' s → SmallerTerms bs' bs → Smaller (only_branch f s' bs') (BCase f s bs)
branch_smaller f s s' bs Done h g = record { nodes' = omega (arith, h.nodes', g.nodes'); depth' = omega (arith, h.depth', g.depth'); binders' = omega (arith, h.binders', g.binders') }
branch_smaller f s s' bs (Next k b Done) h g =
    let tiny = tiny_boxes k Rel tiny_variables in
    record {
      nodes' = omega (arith, h.nodes', g.nodes', nodes_put b (put_all (boxes k) Rel) tiny);
      depth' = omega (arith, h.depth', g.depth', depth_put b (put_all (boxes k) Rel) tiny);
      binders' = omega (arith, h.binders', g.binders', binders_put b (put_all (boxes k) Rel) tiny);
    }
branch_smaller f s s' bs (Next k b (Next l c ts)) h g = record { nodes' = omega arith; depth' = omega arith; binders' = omega arith }

match_smaller : (b : Bool) (f : FamilyId) (s s' : BoxTerm) (bs bs' : BoxTerms) → Smaller s' s → SmallerTerms bs' bs → Smaller (match_of b f s' bs') (BCase f s bs)
match_smaller true f s s' bs bs' h g = branch_smaller f s s' bs bs' h g
match_smaller false f s s' bs bs' h g = record { nodes' = omega (arith, h.nodes', g.nodes'); depth' = omega (arith, h.depth', g.depth'); binders' = omega (arith, h.binders', g.binders') }

module _ (Fs : List BoxFamily) where
  mutual
    smaller : (t : BoxTerm) → Smaller (drop_matches Fs t) t
    smaller (Rel i) = record { nodes' = omega arith; depth' = omega arith; binders' = omega arith }
    smaller Box = record { nodes' = omega arith; depth' = omega arith; binders' = omega arith }
    smaller (BLambda b) = let h = smaller b in record { nodes' = omega (arith, h.nodes'); depth' = omega (arith, h.depth'); binders' = omega (arith, h.binders') }
    smaller (BLetIn b t) = let h = smaller b in let g = smaller t in record { nodes' = omega (arith, h.nodes', g.nodes'); depth' = omega (arith, h.depth', g.depth'); binders' = omega (arith, h.binders', g.binders') }
    smaller (BApp f a) = let h = smaller f in let g = smaller a in record { nodes' = omega (arith, h.nodes', g.nodes'); depth' = omega (arith, h.depth', g.depth'); binders' = omega (arith, h.binders', g.binders') }
    smaller (BConst k) = record { nodes' = omega arith; depth' = omega arith; binders' = omega arith }
    smaller (BConstruct f c) = record { nodes' = omega arith; depth' = omega arith; binders' = omega arith }
    smaller (BCase f s bs) = match_smaller (propositional_of (family_of Fs f)) f s (drop_matches Fs s) bs (drop_matches_terms Fs bs) (smaller s) (smaller_terms bs)
    smaller (BFix i rargs bodies) = let h = smaller_terms bodies in record { nodes' = omega (arith, h.nodes'); depth' = omega (arith, h.depth'); binders' = omega (arith, h.binders') }

    smaller_terms : (ts : BoxTerms) → SmallerTerms (drop_matches_terms Fs ts) ts
    smaller_terms Done = record { nodes' = omega arith; depth' = omega arith; binders' = omega arith }
    smaller_terms (Next n t ts) = let h = smaller t in let g = smaller_terms ts in record { nodes' = omega (arith, h.nodes', g.nodes'); depth' = omega (arith, h.depth', g.depth'); binders' = omega (arith, h.binders', g.binders') }

pub prop_match_sizes : PropMatchSizes
prop_match_sizes Fs t = let h = smaller Fs t in (h.nodes', h.depth', h.binders')

constants_nodes : (Fs : List BoxFamily) (cs : List BoxConstant) → nodes_of_constants (map (drop_matches_constant Fs) cs) ≤ nodes_of_constants cs
constants_nodes Fs [] = omega arith
constants_nodes Fs (d ∷ cs) = let h = smaller Fs d.body in omega (arith, h.nodes', constants_nodes Fs cs)

constants_binders : (Fs : List BoxFamily) (cs : List BoxConstant) → binder_depth_constants (map (drop_matches_constant Fs) cs) ≤ binder_depth_constants cs
constants_binders Fs [] = omega arith
constants_binders Fs (d ∷ cs) = let h = smaller Fs d.body in omega (arith, h.binders', constants_binders Fs cs)

pub prop_match_program_sizes : PropMatchProgramSizes
prop_match_program_sizes P =
    let h = smaller P.families P.main in
    (omega (arith, h.nodes', constants_nodes P.families P.constants), omega (arith, h.binders', constants_binders P.families P.constants))

-- form

ordinary_tiny : (Fs : List BoxFamily) {t : BoxTerm} → IsTiny t → IsOrdinary Fs t
ordinary_tiny Fs tiny_box = tt
ordinary_tiny Fs tiny_rel = tt

form_tiny : (Fs : List BoxFamily) {t : BoxTerm} → IsTiny t → HasBoxForm Fs t
form_tiny Fs tiny_box = (tt, tt)
form_tiny Fs tiny_rel = tt

module _ (Fs : List BoxFamily) where
  mutual
    ordinary_put : (t : BoxTerm) (s : ℕ → BoxTerm) → AreTiny s → IsOrdinary Fs t → IsOrdinary Fs (substitute s t)
    ordinary_put (Rel i) s h g = ordinary_tiny Fs (h i)
    ordinary_put Box s h g = tt
    ordinary_put (BLambda b) s h g = ordinary_put b (overs 1 s) (tiny_overs 1 s h) g
    ordinary_put (BLetIn b t) s h g = (ordinary_put b s h g.0, ordinary_put t (overs 1 s) (tiny_overs 1 s h) g.1)
    ordinary_put (BApp f a) s h g = (ordinary_put f s h g.0, ordinary_put a s h g.1)
    ordinary_put (BConst k) s h g = tt
    ordinary_put (BConstruct f c) s h g = tt
    ordinary_put (BCase f t bs) s h g = ((λ p. ap (substitute_terms s) (g.0 p)), ordinary_put t s h g.1, ordinary_put_terms bs s h g.2)
    ordinary_put (BFix i rargs bodies) s h g = ordinary_put_terms bodies s h g

    ordinary_put_terms : (ts : BoxTerms) (s : ℕ → BoxTerm) → AreTiny s → AreOrdinary Fs ts → AreOrdinary Fs (substitute_terms s ts)
    ordinary_put_terms Done s h g = tt
    ordinary_put_terms (Next n t ts) s h g = (ordinary_put t (overs n s) (tiny_overs n s h) g.0, ordinary_put_terms ts s h g.1)

  mutual
    form_put : (t : BoxTerm) (s : ℕ → BoxTerm) → AreTiny s → HasBoxForm Fs t → HasBoxForm Fs (substitute s t)
    form_put (Rel i) s h g = form_tiny Fs (h i)
    form_put Box s h g = (tt, tt)
    form_put (BLambda b) s h g = (tt, (form_put b (overs 1 s) (tiny_overs 1 s h) g.1.0, tt))
    form_put (BLetIn b t) s h g = (tt, (form_put b s h g.1.0, (form_put t (overs 1 s) (tiny_overs 1 s h) g.1.1.0, tt)))
    form_put (BApp f a) s h g = (tt, (form_put f s h g.1.0, (form_put a s h g.1.1.0, tt)))
    form_put (BConst k) s h g = (tt, tt)
    form_put (BConstruct f c) s h g = (g.0, tt)
    form_put (BCase f t bs) s h g = let q = g.0 in ((q.0, q.1, q.2, binders_substituted bs s ∙ q.3), (form_put t s h g.1.0, (form_put_terms bs s h g.1.1.0, tt)))
    form_put (BFix i rargs bodies) s h g = ((g.0.0, fix_bodies_substituted (length rargs) rargs bodies s g.0.1), (form_put_terms bodies s h g.1.0, tt))

    form_put_terms : (ts : BoxTerms) (s : ℕ → BoxTerm) → AreTiny s → HasBoxFormTerms Fs ts → HasBoxFormTerms Fs (substitute_terms s ts)
    form_put_terms Done s h g = tt
    form_put_terms (Next n t ts) s h g = (form_put t (overs n s) (tiny_overs n s h) g.0, form_put_terms ts s h g.1)

module _ (Fs : List BoxFamily) (cs : List BoxConstant) where
  abbrev ds : List BoxConstant
  ds = map (drop_matches_constant Fs) cs

  record Fine (k : ℕ) (t : BoxTerm) : Type 0 where
    closed : Closed k t
    form : HasBoxForm Fs t
    named : NamesOnly ds t
    ordinary : IsOrdinary Fs t

  record FineTerms (k : ℕ) (ts : BoxTerms) : Type 0 where
    closed : ClosedTerms k ts
    form : HasBoxFormTerms Fs ts
    named : EveryTerm (NamesKept ds) ts
    ordinary : AreOrdinary Fs ts

  fine_at : {k j : ℕ} {t : BoxTerm} → k ≡ j → Fine k t → Fine j t
  fine_at {t = t} e h = subst (λ n. Fine n t) e h

  named_tiny : {t : BoxTerm} → IsTiny t → NamesOnly ds t
  named_tiny tiny_box = (tt, tt)
  named_tiny tiny_rel = tt

  closed_boxes_put : (n k : ℕ) (b : BoxTerm) → Closed (n + k) b → Closed k (substitute (put_all (boxes n) Rel) b)
  closed_boxes_put n k b c =
      substitute-closed b (put_all (boxes n) Rel) (length (boxes n) + k) k (put_all_fits (boxes n) Rel k k (λ i l. l) (each n)) (closed_at b (omega (arith, boxes_number n)) c)
    where
      each : (n : ℕ) → ClosedEach k (boxes n)
      each zero = tt
      each (suc n) = (tt, each n)

  branch_fine : {k : ℕ} (f : FamilyId) (s : BoxTerm) (bs : BoxTerms) → (F : BoxFamily) × Has Fs F × (F.id ≡ f) × (binders_of bs ≡ F.args) → Fine (0 + k) s → FineTerms k bs → Fine k (only_branch f s bs)
  branch_fine f s Done q h g = record { closed = (h.closed, (g.closed, tt)); form = (q, (h.form, (g.form, tt))); named = (tt, (h.named, (g.named, tt))); ordinary = ((λ p. refl), h.ordinary, g.ordinary) }
  branch_fine {k} f s (Next n b Done) q h g =
      let tiny = tiny_boxes n Rel tiny_variables in
      record {
        closed = closed_boxes_put n k b g.closed.0;
        form = form_put Fs b (put_all (boxes n) Rel) tiny g.form.0;
        named = every_substitute (NamesKept ds) b (put_all (boxes n) Rel) g.named.0 (λ i. named_tiny (tiny i));
        ordinary = ordinary_put Fs b (put_all (boxes n) Rel) tiny g.ordinary.0;
      }
  branch_fine f s (Next n b (Next l c ts)) q h g = record { closed = tt; form = (tt, tt); named = (tt, tt); ordinary = tt }

  match_fine : {k : ℕ} (b : Bool) (f : FamilyId) (s : BoxTerm) (bs : BoxTerms) → propositional_of (family_of Fs f) ≡ b → (F : BoxFamily) × Has Fs F × (F.id ≡ f) × (binders_of bs ≡ F.args) → Fine (0 + k) s → FineTerms k bs → Fine k (match_of b f s bs)
  match_fine true f s bs p q h g = branch_fine f s bs q h g
  match_fine false f s bs p q h g = record { closed = (h.closed, (g.closed, tt)); form = (q, (h.form, (g.form, tt))); named = (tt, (h.named, (g.named, tt))); ordinary = ((λ t. absurd (false≢true (sym p ∙ t))), h.ordinary, g.ordinary) }

  dropped_binders : (ts : BoxTerms) → binders_of (drop_matches_terms Fs ts) ≡ binders_of ts
  dropped_binders Done = refl
  dropped_binders (Next n t ts) = ap (◌∷◌ n) (dropped_binders ts)

  fix_body_dropped : {r : ℕ} {t : BoxTerm} → IsFixBody r t → IsFixBody r (drop_matches Fs t)
  fix_body_dropped boxed = boxed
  fix_body_dropped last = last
  fix_body_dropped (more h) = more (fix_body_dropped h)

  fix_bodies_dropped : (n : ℕ) (rs : List ℕ) (ts : BoxTerms) → AreFixBodies n rs ts → AreFixBodies n rs (drop_matches_terms Fs ts)
  fix_bodies_dropped n [] Done h = tt
  fix_bodies_dropped n [] (Next m t ts) h = elim h [ ]
  fix_bodies_dropped n (r ∷ rs) Done h = elim h [ ]
  fix_bodies_dropped n (r ∷ rs) (Next m t ts) h = (h.0, fix_body_dropped h.1, fix_bodies_dropped n rs ts h.2)

  constant_named : {k : Name} {b : BoxTerm} → Has cs (record { name = k; body = b }) → Has ds (record { name = k; body = drop_matches Fs b })
  constant_named h = has_map (drop_matches_constant Fs) h

  mutual
    fine : {k : ℕ} (t : BoxTerm) → Closed k t → HasBoxForm Fs t → NamesOnly cs t → Fine k (drop_matches Fs t)
    fine (Rel i) c h m = record { closed = c; form = tt; named = tt; ordinary = tt }
    fine Box c h m = record { closed = tt; form = (tt, tt); named = (tt, tt); ordinary = tt }
    fine (BLambda b) c h m = let b' = fine b c.0 h.1.0 m.1.0 in record { closed = (b'.closed, tt); form = (tt, (b'.form, tt)); named = (tt, (b'.named, tt)); ordinary = b'.ordinary }
    fine (BLetIn b t) c h m =
        let b' = fine b c.0 h.1.0 m.1.0 in
        let t' = fine t c.1.0 h.1.1.0 m.1.1.0 in
        record { closed = (b'.closed, (t'.closed, tt)); form = (tt, (b'.form, (t'.form, tt))); named = (tt, (b'.named, (t'.named, tt))); ordinary = (b'.ordinary, t'.ordinary) }
    fine (BApp f a) c h m =
        let f' = fine f c.0 h.1.0 m.1.0 in
        let a' = fine a c.1.0 h.1.1.0 m.1.1.0 in
        record { closed = (f'.closed, (a'.closed, tt)); form = (tt, (f'.form, (a'.form, tt))); named = (tt, (f'.named, (a'.named, tt))); ordinary = (f'.ordinary, a'.ordinary) }
    fine (BConst x) c h m = record { closed = tt; form = (tt, tt); named = ((drop_matches Fs m.0.0, constant_named m.0.1), tt); ordinary = tt }
    fine (BConstruct f i) c h m = record { closed = tt; form = (h.0, tt); named = (tt, tt); ordinary = tt }
    fine (BCase f s bs) c h m =
        let q = h.0 in
        match_fine (propositional_of (family_of Fs f)) f (drop_matches Fs s) (drop_matches_terms Fs bs) refl (q.0, q.1, q.2, dropped_binders bs ∙ q.3) (fine s c.0 h.1.0 m.1.0) (fine_terms bs c.1.0 h.1.1.0 m.1.1.0)
    fine (BFix i rargs bodies) c h m =
        let bs' = fine_terms bodies c.0 h.1.0 m.1.0 in
        record { closed = (bs'.closed, tt); form = ((h.0.0, fix_bodies_dropped (length rargs) rargs bodies h.0.1), (bs'.form, tt)); named = (tt, (bs'.named, tt)); ordinary = bs'.ordinary }

    fine_terms : {k : ℕ} (ts : BoxTerms) → ClosedTerms k ts → HasBoxFormTerms Fs ts → EveryTerm (NamesKept cs) ts → FineTerms k (drop_matches_terms Fs ts)
    fine_terms Done c h m = record { closed = tt; form = tt; named = tt; ordinary = tt }
    fine_terms (Next n t ts) c h m =
        let t' = fine t c.0 h.0 m.0 in
        let ts' = fine_terms ts c.1 h.1 m.1 in
        record { closed = (t'.closed, ts'.closed); form = (t'.form, ts'.form); named = (t'.named, ts'.named); ordinary = (t'.ordinary, ts'.ordinary) }

module _ (P : BoxProgram) (ok : IsBoxProgram P) where
  body_of : {cs : List BoxConstant} {t : BoxTerm} → IsBoxBody P.families cs t → IsBoxBody P.families (map (drop_matches_constant P.families) cs) (drop_matches P.families t)
  body_of {cs} {t} h = let g = fine P.families cs t h.closed h.form h.named in record { closed = g.closed; form = g.form; named = g.named }

  ordered : (cs : List BoxConstant) → AreOrdered P.families cs → AreOrdered P.families (map (drop_matches_constant P.families) cs)
  ordered [] h = tt
  ordered (d ∷ cs) h = (body_of h.0, ordered cs h.1)

pub prop_match_form : PropMatchForm
prop_match_form P ok = (
  record {
    constants = ordered P ok P.constants ok.constants;
    distinct_constants = distinct_mapped (drop_matches_constant P.families) (λ d. d.name) (λ d. d.name) P.constants (λ d. refl) ok.distinct_constants;
    distinct_families = ok.distinct_families;
    counts = ok.counts;
    main = body_of P ok ok.main;
  },
  record {
    constants = λ d h.
        let r = of_has_map (drop_matches_constant P.families) P.constants h in
        let b = ordered_body P.families P.constants ok.constants r.0 r.1 in
        let g = fine P.families P.constants r.0.body b.closed b.form b.named in
        subst (λ d. IsOrdinary P.families d.body) r.2 g.ordinary;
    main = let g = fine P.families P.constants P.main ok.main.closed ok.main.form ok.main.named in g.ordinary;
  },
)
