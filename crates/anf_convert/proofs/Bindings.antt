-- Evaluation of the bindings that a term becomes.
use Rattle.std.proofs.Common.{◌≡◌, ℕ, suc, ◌+◌, ◌<◌, ◌≤◌, List, [], ◌∷◌, ◌++◌, map, length, refl, subst as transport, arith}
use Rattle.std.proofs.lemmas.List.{length-map}
use Rattle.anf_convert.specs.Anf.{Atom, AnfOp, ConOp, AnfBlock, AnfProgram}
use Rattle.anf_convert.specs.Captured.{Scope, Plain}
use Rattle.anf_convert.specs.AnfEvaluation.{AnfVal, WCon, AnfVals, WCons, count, Gives, give_empty, AnfDoes, op_con, AnfGets, block_atom, block_op, block_let, block_bind}
use Rattle.anf_convert.specs.ToAnf.{Level, LVar, AnfBinding, AtomIs, OpIs, Res, RAtom, RCon, ROp, NamedResult, at_depth, binding_of, tail_of, block_of, named}
use Rattle.anf_convert.proofs.Levels.{Ext, ext_same, ext_push, ext_trans, AtLevel, l_word, l_empty, AllLevels, ls_none, ls_more, gives, gives_all, top_word}

abbrev pub con_blocks : List Level → ℕ
con_blocks [] = 0
con_blocks (x ∷ xs) = 1

module _ (Q : AnfProgram) (W : ℕ) where
  -- the bindings lead from one environment to another
  pub data Binds : Scope → AnfVals → List AnfBinding → Scope → AnfVals → ℕ → ℕ → ℕ → ℕ → Type 0 where
    binds_none : {s : Scope} {w : AnfVals} → Binds s w [] s w 0 0 0 0
    binds_atom : {s g : Scope} {w f : AnfVals} {a : Atom} {ps : List AnfBinding} {v : AnfVal} {c k b b1 l l1 : ℕ} → Gives W s w a v b1 l1 → Binds (Plain s) (WCons v w) ps g f c k b l → Binds s w (AtomIs a ∷ ps) g f (suc c) k (b1 + b) (l1 + l)
    binds_op : {s g : Scope} {w f : AnfVals} {op : AnfOp} {ps : List AnfBinding} {v : AnfVal} {c c1 k k1 b b1 l l1 : ℕ} → AnfDoes Q W s w op v c1 k1 b1 l1 → Binds (Plain s) (WCons v w) ps g f c k b l → Binds s w (OpIs op ∷ ps) g f (c1 + c) (k1 + k) (b1 + b) (l1 + l)

  -- a result in its environment
  pub data Stands (s : Scope) (w : AnfVals) : Res → AnfVal → ℕ → ℕ → ℕ → Type 0 where
    st_atom : {a : Level} {u : AnfVal} {b l : ℕ} → AtLevel W s w a u b l → Stands s w (RAtom a) u 0 0 b
    st_con : {c : ℕ} {as' : List Level} {us : AnfVals} {b l : ℕ} → AllLevels W s w as' us b l → (0 < length as' → length as' < W) → Stands s w (RCon c as') (WCon c us) 0 0 (b + con_blocks as')
    st_op : {op : AnfOp} {u : AnfVal} {c k b l : ℕ} → AnfDoes Q W s w op u c k b l → Stands s w (ROp op) u c k b

  binds_as : {s g : Scope} {w f : AnfVals} {ps : List AnfBinding} {c c' k k' b b' l l' : ℕ} → c ≡ c' → k ≡ k' → b ≡ b' → l ≡ l' → Binds s w ps g f c k b l → Binds s w ps g f c' k' b' l'
  binds_as {s} {g} {w} {f} {ps} {c} {c'} {k} {k'} {b} {b'} {l} {l'} ec ek eb el h =
      transport (λ z. Binds s w ps g f c' k' b' z) el (transport (λ z. Binds s w ps g f c' k' z l) eb (transport (λ z. Binds s w ps g f c' z b l) ek (transport (λ z. Binds s w ps g f z k b l) ec h)))

  gets_as : {s : Scope} {w : AnfVals} {t : AnfBlock} {v : AnfVal} {c c' k k' b b' l l' : ℕ} → c ≡ c' → k ≡ k' → b ≡ b' → l ≡ l' → AnfGets Q W s w t v c k b l → AnfGets Q W s w t v c' k' b' l'
  gets_as {s} {w} {t} {v} {c} {c'} {k} {k'} {b} {b'} {l} {l'} ec ek eb el h =
      transport (λ z. AnfGets Q W s w t v c' k' b' z) el (transport (λ z. AnfGets Q W s w t v c' k' z l) eb (transport (λ z. AnfGets Q W s w t v c' z b l) ek (transport (λ z. AnfGets Q W s w t v z k b l) ec h)))

  pub binds_ext : {s g : Scope} {w f : AnfVals} {ps : List AnfBinding} {c k b l : ℕ} → Binds s w ps g f c k b l → Ext s w g f
  binds_ext binds_none = ext_same
  binds_ext (binds_atom h bs) = ext_trans (ext_push ext_same) (binds_ext bs)
  binds_ext (binds_op h bs) = ext_trans (ext_push ext_same) (binds_ext bs)

  pub binds_size : {s g : Scope} {w f : AnfVals} {ps : List AnfBinding} {c k b l : ℕ} → Binds s w ps g f c k b l → count f ≡ count w + length ps
  binds_size binds_none = omega arith
  binds_size (binds_atom h bs) = omega (arith, binds_size bs)
  binds_size (binds_op h bs) = omega (arith, binds_size bs)

  pub binds_then : {s g g' : Scope} {w f f' : AnfVals} {ps qs : List AnfBinding} {c c' k k' b b' l l' : ℕ} → Binds s w ps g f c k b l → Binds g f qs g' f' c' k' b' l' → Binds s w (ps ++ qs) g' f' (c + c') (k + k') (b + b') (l + l')
  binds_then binds_none h = binds_as (omega arith) (omega arith) (omega arith) (omega arith) h
  binds_then (binds_atom x bs) h = binds_as (omega arith) (omega arith) (omega arith) (omega arith) (binds_atom x (binds_then bs h))
  binds_then (binds_op x bs) h = binds_as (omega arith) (omega arith) (omega arith) (omega arith) (binds_op x (binds_then bs h))

  pub binds_block : {s g : Scope} {w f : AnfVals} {ps : List AnfBinding} {t : AnfBlock} {v : AnfVal} {c c' k k' b b' l l' : ℕ} → Binds s w ps g f c k b l → AnfGets Q W g f t v c' k' b' l' → AnfGets Q W s w (block_of ps t) v (c + c') (k + k') (b + b') (l + l')
  binds_block binds_none h = gets_as (omega arith) (omega arith) (omega arith) (omega arith) h
  binds_block (binds_atom x bs) h = gets_as (omega arith) (omega arith) (omega arith) (omega arith) (block_let x (binds_block bs h))
  binds_block (binds_op x bs) h = gets_as (omega arith) (omega arith) (omega arith) (omega arith) (block_bind x (binds_block bs h))

  -- a constructor's block
  made : {s : Scope} {w : AnfVals} {c : ℕ} {x : Level} {xs : List Level} {us : AnfVals} {b l : ℕ} (d : ℕ) → d ≡ count w → AllLevels W s w (x ∷ xs) us b l → (0 < length (x ∷ xs) → length (x ∷ xs) < W) → AnfDoes Q W s w (ConOp c (map (at_depth d) (x ∷ xs))) (WCon c us) 0 0 (b +
      1) (l + suc (length (map (at_depth d) (x ∷ xs))))
  made {x = x} {xs = xs} d eq all few = let long = length-map (x ∷ xs) (at_depth d) in let narrow = few (omega arith) in op_con (gives_all d eq all) (omega arith)

  -- a variable for a result
  pub record Bound (s : Scope) (w : AnfVals) (p : AnfBinding) (u : AnfVal) (c k b : ℕ) : Type 0 where
    pub c' : ℕ
    pub l' : ℕ
    pub binds : Binds s w (p ∷ []) (Plain s) (WCons u w) c' k b l'
    pub le_c : c' ≤ suc c

  pub bound : {s : Scope} {w : AnfVals} {res : Res} {u : AnfVal} {c k b : ℕ} (d : ℕ) → d ≡ count w → Stands s w res u c k b → Bound s w (binding_of d res) u c k b
  bound d eq (st_atom h) = record { c' = 1; l' = _; binds = binds_as refl refl (omega arith) refl (binds_atom (gives d eq h) binds_none); le_c = omega arith }
  bound d eq (st_con ls_none few) = record { c' = 1; l' = _; binds = binds_as refl refl (omega arith) refl (binds_atom give_empty binds_none); le_c = omega arith }
  bound d eq (st_con (ls_more h hs) few) = record { c' = 0; l' = _; binds = binds_as (omega arith) (omega arith) (omega arith) refl (binds_op (made d eq (ls_more h hs) few) binds_none); le_c = omega arith }
  bound d eq (st_op h) = record { c' = _; l' = _; binds = binds_as refl (omega arith) (omega arith) refl (binds_op h binds_none); le_c = omega arith }

  -- a named result
  pub record NameDone (s : Scope) (w : AnfVals) (n : NamedResult) (u : AnfVal) (c k b : ℕ) : Type 0 where
    pub g : Scope
    pub f : AnfVals
    pub c' : ℕ
    pub b1 : ℕ
    pub b2 : ℕ
    pub l1 : ℕ
    pub l2 : ℕ
    pub binds : Binds s w n.ops g f c' k b1 l1
    pub at : AtLevel W g f n.atom u b2 l2
    pub le_c : c' ≤ c
    pub blocks : b1 + b2 ≡ b

  -- an operation's
  pub bound_op : {s g : Scope} {w f : AnfVals} {ps : List AnfBinding} {op : AnfOp} {u : AnfVal} {c c1 k k1 b b1 l l1 : ℕ} (x : ℕ) → x ≡ count f → Binds s w ps g f c1 k1 b1 l1 →
      AnfDoes Q W g f op u c k b l → NameDone s w (record { ops = ps ++ OpIs op ∷ []; atom = LVar x }) u (c1 + c) (k1 + k) (b1 + b)
  bound_op {g = g} {f = f} {u = u} x eq bs h =
      record { g = Plain g; f = WCons u f; c' = _; b1 = _; b2 = 0; l1 = _; l2 = 0; binds = binds_as refl (omega arith) refl refl (binds_then bs (binds_op h binds_none)); at = l_word (top_word g f u x eq); le_c = omega arith; blocks = omega arith }

  pub name_done : {s g : Scope} {w f : AnfVals} {ps : List AnfBinding} {res : Res} {u : AnfVal} {c c1 k k1 b b1 l1 : ℕ} (d : ℕ) → d ≡ count w → Binds s w ps g f c1 k1 b1 l1 → Stands g f res u c k b → NameDone s w (named d ps res) u (c1 + c) (k1 + k) (b1 + b)
  name_done {c1 = c1} d eq bs (st_atom h) = record { g = _; f = _; c' = c1; b1 = _; b2 = _; l1 = _; l2 = _; binds = binds_as refl (omega arith) refl refl bs; at = h; le_c = omega arith; blocks = refl }
  name_done {c1 = c1} d eq bs (st_con ls_none few) = record { g = _; f = _; c' = c1; b1 = _; b2 = 0; l1 = _; l2 = 0; binds = binds_as refl (omega arith) refl refl bs; at = l_empty; le_c = omega arith; blocks = omega arith }
  name_done {f = f} {ps = ps} d eq bs (st_con (ls_more h hs) few) =
      let deep : d + length ps ≡ count f = omega (arith, binds_size bs) in
      bound_op (d + length ps) deep bs (made (d + length ps) deep (ls_more h hs) few)
  name_done {f = f} {ps = ps} d eq bs (st_op h) = bound_op (d + length ps) (omega (arith, binds_size bs)) bs h

  -- the end of a block
  pub record Ended (s : Scope) (w : AnfVals) (t : AnfBlock) (u : AnfVal) (c k b : ℕ) : Type 0 where
    pub l : ℕ
    pub gets : AnfGets Q W s w t u c k b l

  pub ended : {s : Scope} {w : AnfVals} {res : Res} {u : AnfVal} {c k b : ℕ} (d : ℕ) → d ≡ count w → Stands s w res u c k b → Ended s w (tail_of (binding_of d res)) u c k b
  ended d eq (st_atom h) = record { l = _; gets = block_atom (gives d eq h) }
  ended d eq (st_con ls_none few) = record { l = _; gets = gets_as refl refl (omega arith) refl (block_atom give_empty) }
  ended d eq (st_con (ls_more h hs) few) = record { l = _; gets = block_op (made d eq (ls_more h hs) few) }
  ended d eq (st_op h) = record { l = _; gets = block_op h }
