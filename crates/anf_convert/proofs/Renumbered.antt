-- Translation and then other numbers for constants is translation by those numbers.
use Rattle.std.proofs.Common.{◌≡◌, ℕ, suc, ◌+◌, nat_eq, if◌then◌else◌, List, [], ◌∷◌, ◌++◌, length, map, refl, sym, ap, ◌∙◌}
use Rattle.std.proofs.lemmas.List.{length-map, map-append}
use Rattle.trees.specs.Tree.{Rel, Done, Next}
use Rattle.pc_terms.specs.declared.leaf.Name.{Name}
use Rattle.box_terms.specs.BoxSyntax.{BoxTerm, BoxTerms, Box, BLambda, BLetIn, BApp, BConst, BConstruct, BCase, BFix}
use Rattle.lambda_box.specs.BoxProgram.{BoxConstant, BoxFamily, BoxProgram}
use Rattle.anf_convert.specs.Anf.{AnfOp, AnfBlock, BindAtom, Bind, AnfBranches, Branch, LamDef, BoxDef, AppOp, LamOp, FixOp, CaseOp, AnfBinding, AtomIs, OpIs, tail_of, block_of}
use Rattle.anf_convert.specs.ToAnf.{Level, LVar, Res, RAtom, RCon, ROp, Norm, NamedResult, at_depth, binding_of, sealed, with_variable, named, levels, call, name_at, then_arg, then_body, then_case, just, norm, norm_branches, norm_defs, code_of, number_in, to_anf}
use Rattle.anf_convert.specs.Renumbering.{renumber, renumber_op, renumber_branches, renumber_defs, place_in, anf_of}
use Rattle.anf_convert.specs.Writing.{number_of}
use Rattle.anf_convert.specs.NamedProgram.{named_constant, named_anf}
use Rattle.anf_convert.specs.declared.program.AnfConstant.{AnfConstant}

module _ (number : ℕ → ℕ) where
  -- parts of blocks with the other numbers
  abbrev binding' : AnfBinding → AnfBinding
  binding' (AtomIs a) = AtomIs a
  binding' (OpIs op) = OpIs (renumber_op number op)

  abbrev res' : Res → Res
  res' (RAtom a) = RAtom a
  res' (RCon c xs) = RCon c xs
  res' (ROp op) = ROp (renumber_op number op)

  abbrev norm' : Norm → Norm
  norm' n = record { ops = map binding' n.ops; res = res' n.res }

  abbrev named' : NamedResult → NamedResult
  named' n = record { ops = map binding' n.ops; atom = n.atom }

  tail' : (p : AnfBinding) → tail_of (binding' p) ≡ renumber number (tail_of p)
  tail' (AtomIs a) = refl
  tail' (OpIs op) = refl

  block' : (ps : List AnfBinding) (t : AnfBlock) → block_of (map binding' ps) (renumber number t) ≡ renumber number (block_of ps t)
  block' [] t = refl
  block' (AtomIs a ∷ ps) t = ap (BindAtom a) (block' ps t)
  block' (OpIs op ∷ ps) t = ap (Bind (renumber_op number op)) (block' ps t)

  binding_of' : (d : ℕ) (r : Res) → binding_of d (res' r) ≡ binding' (binding_of d r)
  binding_of' d (RAtom a) = refl
  binding_of' d (RCon c []) = refl
  binding_of' d (RCon c (x ∷ xs)) = refl
  binding_of' d (ROp op) = refl

  sealed' : (d : ℕ) (n : Norm) → sealed d (norm' n) ≡ renumber number (sealed d n)
  sealed' d n =
      ap (λ k. block_of (map binding' n.ops) (tail_of (binding_of (d + k) (res' n.res)))) (length-map n.ops binding')
      ∙ ap (λ p. block_of (map binding' n.ops) (tail_of p)) (binding_of' (d + length n.ops) n.res)
      ∙ ap (block_of (map binding' n.ops)) (tail' (binding_of (d + length n.ops) n.res))
      ∙ block' n.ops (tail_of (binding_of (d + length n.ops) n.res))

  with_variable' : (d : ℕ) (ops : List AnfBinding) (r : Res) → with_variable d (map binding' ops) (res' r) ≡ named' (with_variable d ops r)
  with_variable' d ops r =
      ap (λ k. record { ops = map binding' ops ++ binding_of (d + k) (res' r) ∷ []; atom = LVar (d + k) }) (length-map ops binding')
      ∙ ap (λ p. record { ops = map binding' ops ++ p ∷ []; atom = LVar (d + length ops) }) (binding_of' (d + length ops) r)
      ∙ ap (λ ps. record { ops = ps; atom = LVar (d + length ops) }) (sym (map-append binding' ops (binding_of (d + length ops) r ∷ [])))

  named_as' : (d : ℕ) (ops : List AnfBinding) (r : Res) → named d (map binding' ops) (res' r) ≡ named' (named d ops r)
  named_as' d ops (RAtom a) = refl
  named_as' d ops (RCon c []) = refl
  named_as' d ops (RCon c (x ∷ xs)) = with_variable' d ops (RCon c (x ∷ xs))
  named_as' d ops (ROp op) = with_variable' d ops (ROp op)

  abbrev apply_at : ℕ → Level → Level → AnfOp
  apply_at k f x = AppOp (at_depth k f) (at_depth k x)

  call' : (d : ℕ) (ops : List AnfBinding) (f : Level) (a : NamedResult) → call d (map binding' ops) f (named' a) ≡ norm' (call d ops f a)
  call' d ops f a =
      ap (λ k. record { ops = map binding' ops ++ map binding' a.ops; res = ROp (apply_at (d + k + length (map binding' a.ops)) f a.atom) }) (length-map ops binding')
      ∙ ap (λ j. record { ops = map binding' ops ++ map binding' a.ops; res = ROp (apply_at (d + length ops + j) f a.atom) }) (length-map a.ops binding')
      ∙ ap (λ ps. record { ops = ps; res = ROp (apply_at (d + length ops + length a.ops) f a.atom) }) (sym (map-append binding' ops a.ops))

  name_at' : (arg : ℕ → Norm) (d : ℕ) → name_at (λ k. norm' (arg k)) d ≡ named' (name_at arg d)
  name_at' arg d = named_as' d (arg d).ops (arg d).res

  then_arg' : (d : ℕ) (ops : List AnfBinding) (r : Res) (arg : ℕ → Norm) → then_arg d (map binding' ops) (res' r) (λ k. norm' (arg k)) ≡ norm' (then_arg d ops r arg)
  then_arg' d ops (RCon c xs) arg =
      let joined : NamedResult → Norm = λ n. record { ops = map binding' ops ++ n.ops; res = RCon c (n.atom ∷ xs) } in
      ap (λ k. joined (name_at (λ j. norm' (arg j)) (d + k))) (length-map ops binding')
      ∙ ap joined (name_at' arg (d + length ops))
      ∙ ap (λ ps. record { ops = ps; res = RCon c ((name_at arg (d + length ops)).atom ∷ xs) }) (sym (map-append binding' ops (name_at arg (d + length ops)).ops))
  then_arg' d ops (RAtom f) arg =
      ap (λ k. call d (map binding' ops) f (name_at (λ j. norm' (arg j)) (d + k))) (length-map ops binding')
      ∙ ap (call d (map binding' ops) f) (name_at' arg (d + length ops))
      ∙ call' d ops f (name_at arg (d + length ops))
  then_arg' d ops (ROp op) arg =
      let more = ops ++ OpIs op ∷ [] in
      ap (λ ps. call d ps (LVar (d + length (map binding' ops))) (name_at (λ j. norm' (arg j)) (d + length ps))) (sym (map-append binding' ops (OpIs op ∷ [])))
      ∙ ap (λ k. call d (map binding' more) (LVar (d + k)) (name_at (λ j. norm' (arg j)) (d + length (map binding' more)))) (length-map ops binding')
      ∙ ap (λ k. call d (map binding' more) (LVar (d + length ops)) (name_at (λ j. norm' (arg j)) (d + k))) (length-map more binding')
      ∙ ap (call d (map binding' more) (LVar (d + length ops))) (name_at' arg (d + length more))
      ∙ call' d more (LVar (d + length ops)) (name_at arg (d + length more))

  then_body' : (d : ℕ) (a : NamedResult) (body : ℕ → Level → Norm) → then_body d (named' a) (λ k x. norm' (body k x)) ≡ norm' (then_body d a body)
  then_body' d a body =
      ap (λ k. record { ops = map binding' a.ops ++ map binding' (body (d + k) a.atom).ops; res = res' (body (d + k) a.atom).res }) (length-map a.ops binding')
      ∙ ap (λ ps. record { ops = ps; res = res' (body (d + length a.ops) a.atom).res }) (sym (map-append binding' a.ops (body (d + length a.ops) a.atom).ops))

  then_case' : (d : ℕ) (a : NamedResult) (branches : ℕ → AnfBranches) → then_case d (named' a) (λ k. renumber_branches number (branches k)) ≡ norm' (then_case d a branches)
  then_case' d a branches =
      ap (λ k. record { ops = map binding' a.ops; res = ROp (CaseOp (at_depth (d + k) a.atom) (renumber_branches number (branches (d + k)))) }) (length-map a.ops binding')

  module _ (constant : Name → ℕ) where
    mutual
      pub norm_renumbered : (env : List Level) (d : ℕ) (t : BoxTerm) → norm (λ k. number (constant k)) env d t ≡ norm' (norm constant env d t)
      norm_renumbered env d (Rel i) = refl
      norm_renumbered env d Box = refl
      norm_renumbered env d (BLambda b) = ap (λ t. just (ROp (LamOp t))) (ap (sealed (suc d)) (norm_renumbered (LVar d ∷ env) (suc d) b) ∙ sealed' (suc d) (norm constant (LVar d ∷ env) (suc d) b))
      norm_renumbered env d (BLetIn a b) =
          let value = norm constant env d a in
          ap (λ n. then_body d (with_variable d n.ops n.res) (λ k x. norm (λ c. number (constant c)) (x ∷ env) k b)) (norm_renumbered env d a)
          ∙ ap (λ n. then_body d n (λ k x. norm (λ c. number (constant c)) (x ∷ env) k b)) (with_variable' d value.ops value.res)
          ∙ (λ i. then_body d (named' (with_variable d value.ops value.res)) (λ k x. norm_renumbered (x ∷ env) k b i))
          ∙ then_body' d (with_variable d value.ops value.res) (λ k x. norm constant (x ∷ env) k b)
      norm_renumbered env d (BApp f a) =
          let function = norm constant env d f in
          ap (λ n. then_arg d n.ops n.res (λ k. norm (λ c. number (constant c)) env k a)) (norm_renumbered env d f)
          ∙ (λ i. then_arg d (map binding' function.ops) (res' function.res) (λ k. norm_renumbered env k a i))
          ∙ then_arg' d function.ops function.res (λ k. norm constant env k a)
      norm_renumbered env d (BConst k) = refl
      norm_renumbered env d (BConstruct f c) = refl
      norm_renumbered env d (BCase f t bs) =
          let scrutinee = norm constant env d t in
          ap (λ n. then_case d (named d n.ops n.res) (λ k. norm_branches (λ c. number (constant c)) env k bs)) (norm_renumbered env d t)
          ∙ ap (λ n. then_case d n (λ k. norm_branches (λ c. number (constant c)) env k bs)) (named_as' d scrutinee.ops scrutinee.res)
          ∙ (λ i. then_case d (named' (named d scrutinee.ops scrutinee.res)) (λ k. branches_renumbered env k bs i))
          ∙ then_case' d (named d scrutinee.ops scrutinee.res) (λ k. norm_branches constant env k bs)
      norm_renumbered env d (BFix i rargs bodies) = ap (λ ds. just (ROp (FixOp ds i))) (defs_renumbered env d (length rargs) bodies)

      branches_renumbered : (env : List Level) (d : ℕ) (bs : BoxTerms) → norm_branches (λ k. number (constant k)) env d bs ≡ renumber_branches number (norm_branches constant env d bs)
      branches_renumbered env d Done = refl
      branches_renumbered env d (Next n b rest) =
          ap (λ t. Branch n t (norm_branches (λ k. number (constant k)) env d rest)) (ap (sealed (d + n)) (norm_renumbered (levels d n env) (d + n) b) ∙ sealed' (d + n) (norm constant (levels d n env) (d + n) b))
          ∙ ap (Branch n (renumber number (sealed (d + n) (norm constant (levels d n env) (d + n) b)))) (branches_renumbered env d rest)

      defs_renumbered : (env : List Level) (d n : ℕ) (bs : BoxTerms) → norm_defs (λ k. number (constant k)) env d n bs ≡ renumber_defs number (norm_defs constant env d n bs)
      defs_renumbered env d n Done = refl
      defs_renumbered env d n (Next m (BLambda b) rest) =
          let inner = LVar (d + n) ∷ levels d n env in
          ap (λ t. LamDef t (norm_defs (λ k. number (constant k)) env d n rest)) (ap (sealed (suc (d + n))) (norm_renumbered inner (suc (d + n)) b) ∙ sealed' (suc (d + n)) (norm constant inner (suc (d + n)) b))
          ∙ ap (LamDef (renumber number (sealed (suc (d + n)) (norm constant inner (suc (d + n)) b)))) (defs_renumbered env d n rest)
      defs_renumbered env d n (Next m (Rel i) rest) = ap BoxDef (defs_renumbered env d n rest)
      defs_renumbered env d n (Next m Box rest) = ap BoxDef (defs_renumbered env d n rest)
      defs_renumbered env d n (Next m (BLetIn a b) rest) = ap BoxDef (defs_renumbered env d n rest)
      defs_renumbered env d n (Next m (BApp f a) rest) = ap BoxDef (defs_renumbered env d n rest)
      defs_renumbered env d n (Next m (BConst k) rest) = ap BoxDef (defs_renumbered env d n rest)
      defs_renumbered env d n (Next m (BConstruct f c) rest) = ap BoxDef (defs_renumbered env d n rest)
      defs_renumbered env d n (Next m (BCase f t bs) rest) = ap BoxDef (defs_renumbered env d n rest)
      defs_renumbered env d n (Next m (BFix i rargs bodies) rest) = ap BoxDef (defs_renumbered env d n rest)

    code_renumbered : (t : BoxTerm) → code_of (λ k. number (constant k)) t ≡ renumber number (code_of constant t)
    code_renumbered t = ap (sealed 0) (norm_renumbered [] 0 t) ∙ sealed' 0 (norm constant [] 0 t)

-- a constant's place in both programs
place_is : (cs : List BoxConstant) (k : Name) → number_in cs k ≡ place_in (map named_constant cs) k.0
place_is [] k = refl
place_is (c ∷ cs) k = ap (λ n. if nat_eq k.0 c.name.0 then 0 else suc n) (place_is cs k)

codes_are : (K : Name → ℕ) (place : ℕ → ℕ) → ((k : Name) → K k ≡ place k.0) → (t : BoxTerm) → code_of K t ≡ renumber place (code_of number_of t)
codes_are K place same t = (λ i. code_of (λ k. same k i) t) ∙ code_renumbered place number_of t

constants_are : (K : Name → ℕ) (place : ℕ → ℕ) → ((k : Name) → K k ≡ place k.0) → (cs : List BoxConstant) → map (λ (c : AnfConstant). renumber place c.body) (map named_constant cs) ≡ map (λ (c : BoxConstant). code_of K c.body) cs
constants_are K place same [] = refl
constants_are K place same (c ∷ cs) = ap (λ t. t ∷ map (λ (c : AnfConstant). renumber place c.body) (map named_constant cs)) (sym (codes_are K place same c.body)) ∙ ap (◌∷◌ (code_of K c.body)) (constants_are K place same cs)

-- the program in which constants stand by their names is seen as the program in A-normal form
pub named_is : (P : BoxProgram) → anf_of (named_anf P) ≡ to_anf P
named_is P =
    let place = place_in (map named_constant P.constants) in
    let same = place_is P.constants in
    ap (λ ts. record { constants = ts; main = renumber place (code_of number_of P.main) }) (constants_are (number_in P.constants) place same P.constants)
    ∙ ap (λ t. record { constants = map (λ (c : BoxConstant). code_of (number_in P.constants) c.body) P.constants; main = t }) (sym (codes_are (number_in P.constants) place same P.main))

-- so is a program of these parts
pub parts_are : (P : BoxProgram) (cs : List AnfConstant) (fs : List BoxFamily) (main : AnfBlock) → cs ≡ map named_constant P.constants → fs ≡ P.families → main ≡ code_of number_of P.main →
    anf_of (record { constants = cs; families = fs; main = main }) ≡ to_anf P
parts_are P cs fs main c f m = (λ i. anf_of (record { constants = c i; families = f i; main = m i })) ∙ named_is P
