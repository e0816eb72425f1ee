-- `same` opens both stamps with the thread's token where their numbers differ: they lie apart, and a write of one leaves the other as it is.
-- Where the numbers are the same it opens one at a time, and may answer either way.
use Prim.Native.Nat.{ℕ}
use mathlib.Core.Path.{◌≡◌, refl, ap, sym, subst}
use mathlib.Core.Bool.{Bool, true, false, not}
use mathlib.Core.List.{List, [], ◌∷◌, ◌++◌}
use seplogic.Ra.Ura.{Ura}
use mir.Syntax.{ne}
use mir.Val.{Val, vbool, vptr, op2_val}
use prog.Memory.{Memory}
use prog.Routine.{Routine}
use prog.Wp.{Env, Calls, Loops, WpFn, Tables}
use base.Logic.{SProp, ent, emp, via, fst∗, snd∗}
use base.Fml.{Lft, Key, Mask, Share, ftrue, flft, ftok}
use base.Mask.{every, less, less_other, Key-Dec}
use contract.Monad.{Fun, fact, fact_i, fact_use}
use contract.Running.{tables_of, bare_tables}
use contract.Beside.{Carries}
use contract.Named.{bare_unfolds}
use sound.WpLaws.{WpFn-mono}
use types.Logic.{Logic, sem}
use types.Kit.{Item, ⋆, ‵, raw, ◌⊛◌, at_ret, ◌$◌, ◌∵◌, !, qed, by, move, keep, use0, use1, split, split3, join, fsplit, fjoin, feq_i}
use types.Na.{na_dup}
use types.Part.{whole, sub, look_in, store_in}
use types.Run.{stop, fld, load, addr, of_opd, un, bin, assigns, first, blocks, exec, returns, enter}
use types.ByLocal.{alloc_all, pass_all, free_all, look_at, get, through, sets, sets_last, is, env}
use denote.Builtin.{RefOf}
use denote.Exit as exit
use denote.RattleType.{RattleType, owns}
use denote.Laws.{Are, Ises, owns_show, showss}
use denote.Opens.{unhide}
use denote.Signature.{Slot, types_at, plain}
use denote.Steps.{nothing}
use denote.Triple.Clauses.{Clauses, closing}
use denote.Triple.Entry.{on_entry, alive}
use denote.Triple.Handed.{holding, hands}
use denote.Triple.Spec.{Meets, triple_of}
use denote.Triple.Table.{entered}
use denote.Triple.Walked.{Stays, stay_dropped, walk_of, Goes-dropped, walk_Meets}
use Rattle.std.proofs.Common.{IsTrue}
use Rattle.std.proofs.raw_atomic.Walks.{leaves}
use Rattle.stamps.specs.Ownership.{some_fields_at}
use Rattle.stamps.proofs.Contents.{Fields, key, Reached, opens_stamp, shuts_stamp}
use Rattle.stamps.specs.contracts.Stamp.{the_row as stamp}
use Rattle.stamps.specs.contracts.Stamp.same as f
use Rattle.stamps.proofs.Stamp.same.Statement.{statement}
use Rattle.stamps.proofs.Stamp.same.Code as code

-- whether two truth values differ
abbrev differ : Bool → Bool → Bool
differ true true = false
differ true false = true
differ false true = true
differ false false = false

told : (s t : Bool) → op2_val ne (vbool s) (vbool t) ≡ vbool (differ s t)
told true true = refl
told true false = refl
told false true = refl
told false false = refl

agrees : (t : Bool) → IsTrue (differ t t) → ⊥
agrees true h = cc
agrees false h = cc

abbrev mine : Slot 2
mine = RefOf (0 ∷ []) tt (plain (λ _. stamp)) (λ _. tt)

abbrev theirs : Slot 2
theirs = RefOf (1 ∷ []) tt (plain (λ _. stamp)) (λ _. tt)

abbrev stayed : Stays f.ended.signature.params f.ended.kept
stayed = (stay_dropped mine exit.yes, (stay_dropped theirs exit.yes, tt))

module _ {M : Type 1} {𝓤 : Ura M} (𝓛 : Logic 𝓤) (mem : Memory → SProp 𝓤) (run : Routine → Fun 𝓤) where
  open 𝓛 use {H, A}

  abbrev held : Clauses 𝓤 f.ended
  held = holding 𝓤 f.ended (A.tok every) (f.clauses 𝓛 mem run)

  module _ (C : Calls 𝓤 H) (Λ : Loops 𝓤 H) (z : (walk_of 𝓛 f.ended stayed held).Ghost) where
    abbrev κ : Lft
    κ = z.0.0.0

    abbrev μ : Lft
    μ = z.0.0.1.0

    abbrev q : Share
    q = z.0.1.0

    abbrev r : Share
    r = z.0.1.1.0

    abbrev b : ℕ
    b = z.0.3.0.ref_ptr.0

    abbrev o : ℕ
    o = z.0.3.0.ref_ptr.1

    abbrev n : ℕ
    n = z.0.3.0.now

    abbrev c : ℕ
    c = z.0.3.1.0.ref_ptr.0

    abbrev e : ℕ
    e = z.0.3.1.0.ref_ptr.1

    abbrev m : ℕ
    m = z.0.3.1.0.now

    abbrev At : List Val → List Val → (walk_of 𝓛 f.ended stayed held).Ghost
    At us vs = ((z.0.0, z.0.1, z.0.2, z.0.3, (us, (vs, tt))), z.1)

    abbrev y : (walk_of 𝓛 f.ended stayed held).Ghost
    y = At (vptr b o ∷ []) (vptr c e ∷ [])

    abbrev Post : Val → SProp 𝓤
    Post = (walk_of 𝓛 f.ended stayed held).post y

    exits : (s : Bool) → (IsTrue s → n ≡ m) → ent 𝓤 (⋆ 𝓛 (‵ (flft κ q) ∷ ‵ (flft μ r) ∷ ‵ (ftok every) ∷ [])) (Post (vbool s))
    exits s says =
        qed 𝓛 (‵ (flft κ q) ∷ ‵ (flft μ r) ∷ ‵ (ftok every) ∷ []) ∵
        use0 𝓛 (raw (fact 𝓤 (IsTrue s → n ≡ m))) (fact_i 𝓤 (IsTrue s → n ≡ m) (emp 𝓤) says) $ move ! (3 ∷ 0 ∷ []) $ join ! $
        feq_i ! (List Val) (vbool s ∷ []) (vbool s ∷ []) refl $ nothing ! $ nothing ! $ fjoin ! $ nothing ! $ fjoin ! $
        nothing ! $ move ! (5 ∷ 0 ∷ []) $ join ! $ move ! (4 ∷ 0 ∷ []) $ join ! $
        by ! (leaves 𝓛 f.ended stayed held y (vbool s) s (tt, (tt, tt)) (tt, (tt, tt)))

    -- both stamps, and the tokens
    abbrev Had : List (Item 𝓤)
    Had = ‵ (Reached n b o κ q every) ∷ ‵ (flft κ q) ∷ ‵ (ftok every) ∷ ‵ (Reached m c e μ r every) ∷ ‵ (flft μ r) ∷ []

    abbrev Runs : Type 1
    Runs = ent 𝓤 (⋆ 𝓛 Had) (WpFn 𝓤 H C Λ code.function (vptr b o ∷ vptr c e ∷ []) Post)

    apart : ¬ (◌≡◌ {A = Key} (key n) (key m)) → Runs
    apart differing =
        qed 𝓛 Had ∵ enter ! C Λ code.function (vptr b o ∷ vptr c e ∷ []) _ $ alloc_all ! (λ l. pass_all ! refl ((tt, tt), ((tt, tt), tt)) $
        let En : Env 𝓤 H = env (code.function).locals l in let E : Mask = less every (key n) in
        opens_stamp n b o κ q every ! tt refl (λ s. move ! (3 ∷ 4 ∷ 1 ∷ []) $ opens_stamp m c e μ r E ! tt (less_other every (key n) (key m) differing) (λ t.
        -- [the second mark, the token, what shuts it; the first mark, what shuts it]
        sets ! (addr ! (through ! refl (fld ! refl (stop !)))) refl (tt, tt) $ sets ! (addr ! (through ! refl (fld ! refl (stop !)))) refl (tt, tt) $
        first ! $ blocks ! $
        sets ! (of_opd ! (load ! (through ! refl (stop !)) (look_in ! 0 (sub ! 0 refl (whole !))))) refl (tt, tt) $
        sets ! (un ! (get ! refl) tt) refl (tt, tt) $
        assigns ! (of_opd ! (get ! refl)) (through ! refl (stop !)) (store_in ! 3 (sub ! 0 refl (whole !)) (tt, tt)) $
        sets ! (of_opd ! (load ! (through ! refl (stop !)) (look_in ! 0 (sub ! 0 refl (whole !))))) refl (tt, tt) $
        sets_last ! (is ! (bin ! (get ! refl) (get ! refl) tt) (told t t)) refl (tt, tt) $
        exec ! C Λ En code.Mir.t-4 (at_ret En Post) $
        sets ! (of_opd ! (get ! refl)) refl (tt, tt) $
        shuts_stamp m c e μ r E ! tt t $ move ! (2 ∷ 1 ∷ 3 ∷ []) $ shuts_stamp n b o κ q every ! tt (not t) $
        returns ! (look_at ! 0 refl) $ free_all ! refl $ move ! (0 ∷ 2 ∷ 1 ∷ []) $ by ! (exits (differ t t) (λ h. absurd (agrees t h))))))

    one_key : n ≡ m → Runs
    one_key same =
        qed 𝓛 Had ∵ move ! (3 ∷ []) $ use1 𝓛 (‵ (Reached m c e μ r every) ⊛ ‵ (Reached m c e μ r every)) (na_dup 𝓛 μ (key m) (some_fields_at Fields c e)) $ split ! $
        -- [the second stamp, twice; the first, its token; the thread's token; the second stamp's token]
        enter ! C Λ code.function (vptr b o ∷ vptr c e ∷ []) _ $ alloc_all ! (λ l. pass_all ! refl ((tt, tt), ((tt, tt), tt)) $
        let En : Env 𝓤 H = env (code.function).locals l in
        sets ! (addr ! (through ! refl (fld ! refl (stop !)))) refl (tt, tt) $ sets ! (addr ! (through ! refl (fld ! refl (stop !)))) refl (tt, tt) $
        first ! $ blocks ! $
        move ! (0 ∷ 5 ∷ 4 ∷ []) $ opens_stamp m c e μ r every ! tt refl (λ s.
        sets ! (of_opd ! (load ! (through ! refl (stop !)) (look_in ! 0 (sub ! 0 refl (whole !))))) refl (tt, tt) $
        shuts_stamp m c e μ r every ! tt s $
        -- [the second stamp's token; the thread's; the second stamp; the first, its token]
        sets ! (un ! (get ! refl) tt) refl (tt, tt) $
        move ! (3 ∷ 4 ∷ 1 ∷ []) $ opens_stamp n b o κ q every ! tt refl (λ t.
        assigns ! (of_opd ! (get ! refl)) (through ! refl (stop !)) (store_in ! 0 (sub ! 0 refl (whole !)) (tt, tt)) $
        shuts_stamp n b o κ q every ! tt (not s) $
        -- [the first stamp's token; the thread's; the second's; the second stamp]
        move ! (3 ∷ 2 ∷ 1 ∷ []) $ opens_stamp m c e μ r every ! tt refl (λ t'.
        sets ! (of_opd ! (load ! (through ! refl (stop !)) (look_in ! 0 (sub ! 0 refl (whole !))))) refl (tt, tt) $
        shuts_stamp m c e μ r every ! tt t' $
        sets_last ! (is ! (bin ! (get ! refl) (get ! refl) tt) (told s t')) refl (tt, tt) $
        exec ! C Λ En code.Mir.t-4 (at_ret En Post) $
        sets ! (of_opd ! (get ! refl)) refl (tt, tt) $
        returns ! (look_at ! 0 refl) $ free_all ! refl $ move ! (2 ∷ 0 ∷ 1 ∷ []) $ by ! (exits (differ s t') (λ h. same))))))

    runs : Dec (◌≡◌ {A = Key} (key n) (key m)) → Runs
    runs (yes same) = one_key (ap (λ (k : Key). k.0) same)
    runs (no differing) = apart differing

    abbrev Goes : List Val → List Val → Type 1
    Goes us vs = ent 𝓤 ((walk_of 𝓛 f.ended stayed held).pre (At us vs)) (WpFn 𝓤 H C Λ code.function (us ++ (vs ++ [])) ((walk_of 𝓛 f.ended stayed held).post (At us vs)))

    walks : Goes (vptr b o ∷ []) (vptr c e ∷ [])
    walks =
        qed 𝓛 (((‵ (flft κ q) ⊛ ‵ (flft μ r) ⊛ ‵ ftrue) ⊛ ‵ (owns (types_at (f.ended).signature.params z.0.0) z.0.3 (vptr b o ∷ [], (vptr c e ∷ [], tt)))) ∷ (‵ (ftok every) ⊛ raw ((f.clauses 𝓛 mem run z.0.0 z.0.3).requires z.1)) ∷ []) ∵
        split ! $ split3 ! $ move ! (3 ∷ []) $ fsplit ! $ fsplit ! $ move ! (2 ∷ []) $ fsplit ! $ fsplit ! $ move ! (8 ∷ []) $ split ! $ keep ! (6 ∷ 7 ∷ 0 ∷ 3 ∷ 8 ∷ []) $
        unhide ! $ move ! (3 ∷ []) $ unhide ! $ move ! (1 ∷ 2 ∷ 3 ∷ 0 ∷ []) $ by ! (runs (Key-Dec (key n) (key m)))

    entry : (us vs : List Val) → us ≡ vptr b o ∷ [] → vs ≡ vptr c e ∷ [] → Goes us vs
    entry us vs p s = subst (λ (zs : List Val). Goes zs vs) (sym p) (subst (Goes (vptr b o ∷ [])) (sym s) walks)

  meets : (𝓣 : Tables 𝓤 H) → Meets 𝓛 f.signature (WpFn 𝓤 H 𝓣.C 𝓣.Λ code.function) (closing 𝓛 f.ended held)
  meets 𝓣 =
      walk_Meets 𝓛 f.ended stayed (Goes-dropped 𝓛 2 mine exit.yes (λ κs x g. refl), (Goes-dropped 𝓛 2 theirs exit.yes (λ κs x g. refl), tt)) held
      (WpFn 𝓤 H 𝓣.C 𝓣.Λ code.function) (WpFn-mono 𝓤 H 𝓛.laws 𝓣 code.function)
      (λ z. let a = z.0.3 in let vss = z.0.4 in let types : List RattleType = types_at (f.ended).signature.params z.0.0 in
      fact_use 𝓤 (Are types (Ises types) a vss)
      (via 𝓤 (sem 𝓛 (owns types a vss)) (via 𝓤 (on_entry 𝓛 f.signature z.0.0 z.0.1 a vss) (fst∗ 𝓤 (on_entry 𝓛 f.signature z.0.0 z.0.1 a vss) ((held z.0.0 a).requires z.1)) (snd∗ 𝓤 (alive 𝓛 f.signature z.0.0 z.0.1) (sem 𝓛 (owns types a vss))))
      (owns_show 𝓛 types (Ises types) (showss 𝓛 types) a vss)) (λ are. entry 𝓣.C 𝓣.Λ z vss.0 vss.1.0 are.0.0 are.1.0.0))

pub same_spec : {M : Type 1} → statement M
unfolding tables_of code.code
same_spec 𝓤 𝓛 𝓜 𝓡 wired =
    let carries : Carries 𝓤 𝓛.H 𝓜 (𝓛.A.tok every) = subst (Carries 𝓤 𝓛.H 𝓜) 𝓛.turn_is 𝓡.carries in
    let 𝓣 : Tables 𝓤 𝓛.H = tables_of 𝓤 𝓛.H carries.inner (bare_tables 𝓤 𝓛.H carries.inner 𝓡.allowed 𝓡.how 𝓡.env) in
    let plainly = f.clauses 𝓛 𝓜.mem 𝓡.returns in
    hands 𝓛 f.ended (𝓛.A.tok every) plainly 𝓜 carries 𝓡 (𝓡.env f.Key.name)
    (entered 𝓤 𝓛.H (triple_of 𝓛 f.signature (closing 𝓛 f.ended (holding 𝓤 f.ended (𝓛.A.tok every) plainly))) 𝓣.C 𝓣.Λ f.Key.name code.function
    (bare_unfolds 𝓤 𝓛.H carries.inner 𝓡.allowed 𝓡.how 𝓡.env f.Key.name code.function (wired.0.0 f.Key.name refl))
    (meets 𝓛 𝓜.mem 𝓡.returns 𝓣))
