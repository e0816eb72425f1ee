-- What a stamp holds is one truth value, which is reached through a `&` with the part of the thread's token that the number names.
use Prim.Native.Nat.{ℕ}
use mathlib.Core.Path.{◌≡◌, refl, ◌∙◌, ap}
use mathlib.Core.Bool.{Bool, true}
use mathlib.Core.List.{List, [], ◌∷◌}
use seplogic.Ra.Ura.{Ura}
use mir.Syntax.{Ty}
use mir.Val.{Val, vbool}
use base.Fraction.{full_share}
use base.Logic.{sep, wand, apply∗}
use base.Fml.{Lft, Incl-refl, Key, Mask, Share, Fml, fsep, fex, fat, flft, ftok}
use base.Mask.{less}
use types.Logic.{Logic, sem}
use types.Kit.{Item, Goal, Soaks, Seq, Step, step, ‵, raw, ◌⊛◌, later, ◌$◌, move, use1, use2, use3, await, split, join, fsplit, fjoin, fpick, fpack, feq_i, feq_l, rewrite}
use types.Na.{na_bor, na_acc_in}
use denote.RattleType.{RattleType}
use denote.Builtin.{bool}
use denote.Memory.{lone, cell_at}
use denote.Plain.{bool_Lawful}
use denote.Param.{layout}
use denote.Steps.{only}
use denote.Struct.Members.{Member}
use Rattle.std.proofs.cell.Inside.{round, wraps, unwraps}
use Rattle.stamps.specs.Ownership.{some_fields_at}
use Rattle.stamps.specs.contracts.Stamp.TheInside as inside

abbrev mark : Member
mark = record { row = bool; ty = layout bool }

abbrev pub Fields : RattleType
Fields = inside.the_row

abbrev pub stamp_type : Ty
stamp_type = lone Fields.mir

abbrev pub contents : List Val → Fml
contents vs = fex Fields.Denot (λ i. Fields.own_val i vs)

-- the part of the thread's token
abbrev pub key : ℕ → Key
key n = (n, 0)

module _ {M : Type 1} {𝓤 : Ura M} {𝓛 : Logic 𝓤} {K : Type 0} {Γ : List (Item 𝓤)} {G : Goal 𝓤 𝓛.H} where
  -- any mark will do
  pub marks : K → (t : Bool) → Step K 𝓛 (‵ (contents (round (vbool t) ∷ [])) ∷ Γ) G Γ G
  marks k t = step (λ s.
      feq_i k (List Val) (vbool t ∷ []) (vbool t ∷ []) refl $
      use1 𝓛 (‵ (Fields.own_val (record { mark = t }) (round (vbool t) ∷ []))) (wraps mark 𝓛 [] [] t (vbool t)) $
      fpack k Fields.Denot (λ i. Fields.own_val i (round (vbool t) ∷ [])) (record { mark = t }) $ s)

  -- what is held is a mark
  pub marked : K → (vs : List Val) → ((t : Bool) → vs ≡ round (vbool t) ∷ [] → Seq K 𝓛 Γ G) → Seq K 𝓛 (‵ (contents vs) ∷ Γ) G
  marked k vs next = fpick k (λ i. unwraps mark k (bool_Lawful 𝓛) [] [] i.mark vs (λ v good e. feq_l k (λ is. next i.mark (e ∙ ap (λ (us : List Val). round (only us) ∷ []) is))))

-- a stamp for n at (b, o), which is reached while κ lasts, out of the mask E
module _ (n b o : ℕ) (κ : Lft) (q : Share) (E : Mask) where
  abbrev pub Reached : Fml
  Reached = na_bor κ (key n) (some_fields_at Fields b o)

  abbrev pub cell : Bool → Fml
  cell t = fat full_share stamp_type b o (round (vbool t))

  -- what shuts it again
  abbrev pub Shut : {M : Type 1} {𝓤 : Ura M} (𝓛 : Logic 𝓤) → Item 𝓤
  Shut {𝓤 = 𝓤} 𝓛 = raw (wand 𝓤 (sep 𝓤 (sem 𝓛 (some_fields_at Fields b o)) (𝓛.A.tok (less E (key n)))) (𝓛.H.⇛ (sep 𝓤 (𝓛.A.lft κ q) (𝓛.A.tok E))))

  module _ {M : Type 1} {𝓤 : Ura M} {𝓛 : Logic 𝓤} {K : Type 0} {Γ : List (Item 𝓤)} {G : Goal 𝓤 𝓛.H} where
    open 𝓛 use {H, A}

    pub opens_stamp : K → Soaks G → E (key n) ≡ true → ((t : Bool) → Seq K 𝓛 (‵ (cell t) ∷ ‵ (ftok (less E (key n))) ∷ Shut 𝓛 ∷ Γ) G) → Seq K 𝓛 (‵ Reached ∷ ‵ (flft κ q) ∷ ‵ (ftok E) ∷ Γ) G
    opens_stamp k z has next =
        let P : Fml = some_fields_at Fields b o in
        use3 𝓛 (later (‵ P ⊛ ‵ (ftok (less E (key n))) ⊛ Shut 𝓛)) (na_acc_in 𝓛 κ ((κ, q) ∷ []) E (key n) P (Incl-refl κ) has) $ await k z $ split k $
        fpick k (λ vs. fsplit k $ move k (1 ∷ []) $ marked k vs (λ t e.
        rewrite k 0 (λ (us : List Val). ‵ (cell_at full_share Fields.mir us b o)) e refl $
        use1 𝓛 (‵ (cell t)) (𝓛.laws.raw_at full_share stamp_type b o (round (vbool t))) $ move k (1 ∷ []) $ split k $ move k (2 ∷ []) $ next t))

    pub shuts_stamp : K → Soaks G → (t : Bool) → Step K 𝓛 (‵ (flft κ q) ∷ ‵ (ftok E) ∷ Γ) G (‵ (cell t) ∷ ‵ (ftok (less E (key n))) ∷ Shut 𝓛 ∷ Γ) G
    shuts_stamp k z t = step (λ s.
        let P : Fml = some_fields_at Fields b o in
        use1 𝓛 (‵ (cell_at full_share Fields.mir (round (vbool t) ∷ []) b o)) (𝓛.laws.at_raw full_share stamp_type b o (round (vbool t))) $
        marks k t $ move k (1 ∷ 0 ∷ []) $ fjoin k $ fpack k (List Val) (λ us. fsep (cell_at full_share Fields.mir us b o) (contents us)) (round (vbool t) ∷ []) $
        join k $ use2 𝓛 (later (‵ (flft κ q) ⊛ ‵ (ftok E))) (apply∗ 𝓤 (sep 𝓤 (sem 𝓛 P) (A.tok (less E (key n)))) (H.⇛ (sep 𝓤 (A.lft κ q) (A.tok E)))) $ await k z $ split k $ s)
