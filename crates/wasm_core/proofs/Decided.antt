-- A module that bytes can spell has a typing, or first fails somewhere.
use Rattle.std.proofs.Common.{◌≡◌, ℕ, zero, suc, List, [], ◌∷◌, ◌++◌, Option, Some, None, false, refl, ap, sym, ◌∙◌, subst, ◌+◌, ◌<◌, ◌≤◌, length, get_or, arith, inl, inr, ⊎_elim}
use Rattle.std.specs.Prelude.{slice_get, ◌⊎◌, ◌≢◌, IfSome, IsSome}
use Rattle.std.proofs.lemmas.Bool.{cases_lt}
use Rattle.std.proofs.lemmas.Option.{slice_get_within, slice_get-get_or, same_Some}
use Rattle.wasm_core.specs.declared.types.ValType.{ValType}
use Rattle.wasm_core.specs.declared.types.ValType.TheVariants.{I32, I64}
use Rattle.wasm_core.specs.declared.types.FuncType.{FuncType}
use Rattle.wasm_core.specs.declared.types.Limits.{Limits}
use Rattle.wasm_core.specs.declared.types.GlobalDef.{GlobalDef}
use Rattle.wasm_core.specs.declared.exports.Export.{Export}
use Rattle.wasm_core.specs.declared.exports.ExportKind.{ExportKind}
use Rattle.wasm_core.specs.declared.exports.ExportKind.TheVariants as kinds
use Rattle.wasm_core.specs.declared.elements.Segment.{Segment}
use Rattle.wasm_core.specs.declared.instrs.Body.{Body}
use Rattle.wasm_core.specs.Parts.{Parts}
use Rattle.wasm_core.specs.ModuleTyping.{TypedBody, TypedFunc, type_of, Part, Functions, Tables, Memories, Globals, Exported, Elements, Codes, id_of, LimitsAreOrdered, AreLimits, IsThere, DistinctNames, SegmentIsValid, IsSound, AllSound, IsValid, results_of}
use Rattle.wasm_core.specs.ModuleCondition.{All, IsClosed, IsBody, IsModule}
use Rattle.wasm_core.specs.FirstFault.{IsFaultAt, FirstFault, outside, inside, TypedBelow}
use Rattle.wasm_core.specs.Laws.{ModulesAreJudged}
use Rattle.wasm_core.proofs.Small.{no}
use Rattle.wasm_core.proofs.Judged.{bodies_are_judged}

abbrev Dec : Type 0 → Type 0
Dec P = P ⊎ (P → ⊥)

dec_both : {P Q : Type 0} → Dec P → Dec Q → Dec (P × Q)
dec_both (inl p) (inl q) = inl (p, q)
dec_both (inl p) (inr n) = inr (λ h. n h.1)
dec_both (inr n) d = inr (λ h. n h.0)

dec_map : {P Q : Type 0} → (P → Q) → (Q → P) → Dec P → Dec Q
dec_map f g (inl p) = inl (f p)
dec_map f g (inr n) = inr (λ q. n (g q))

dec_le : (a b : ℕ) → Dec (a ≤ b)
dec_le a b = ⊎_elim (λ lt. inr (λ h. omega (arith, lt, h))) (λ le. inl le) (cases_lt b a)

dec_lt : (a b : ℕ) → Dec (a < b)
dec_lt a b = ⊎_elim (λ lt. inl lt) (λ le. inr (λ h. omega (arith, le, h))) (cases_lt a b)

dec_eq : (a b : ℕ) → Dec (a ≡ b)
dec_eq a b = ⊎_elim (λ lt. inr (λ h. omega (arith, lt, h))) (λ le. ⊎_elim (λ lt. inr (λ h. omega (arith, lt, h))) (λ ge. inl (omega (arith, le, ge))) (cases_lt b a)) (cases_lt a b)

dec_some : {A : Type 0} (o : Option A) → Dec (IsSome o)
dec_some None = inr (λ h. cc)
dec_some (Some x) = inl refl

abbrev Each : {A : Type 0} → (A → Type 0) → List A → Type 0
Each {A = A} P xs = (i : ℕ) (x : A) → slice_get xs i ≡ Some x → P x

dec_each : {A : Type 0} (P : A → Type 0) → ((x : A) → Dec (P x)) → (xs : List A) → Dec ((i : ℕ) (x : A) → slice_get xs i ≡ Some x → P x)
dec_each P d [] = inl (λ i x e. no e)
dec_each {A = A} P d (y ∷ ys) = with_first (d y) (dec_each P d ys)
  where
    all : P y → Each P ys → (i : ℕ) (x : A) → slice_get (y ∷ ys) i ≡ Some x → P x
    all p h zero x e = subst P (same_Some _ _ e) p
    all p h (suc i) x e = h i x e

    with_first : Dec (P y) → Dec (Each P ys) → Dec ((i : ℕ) (x : A) → slice_get (y ∷ ys) i ≡ Some x → P x)
    with_first (inl p) (inl h) = inl (all p h)
    with_first (inl p) (inr n) = inr (λ h. n (λ i x e. h (suc i) x e))
    with_first (inr n) d = inr (λ h. n (h 0 y refl))

dec_list : (xs ys : List ℕ) → Dec (xs ≡ ys)
dec_list [] [] = inl refl
dec_list [] (y ∷ ys) = inr (λ e. cc)
dec_list (x ∷ xs) [] = inr (λ e. cc)
dec_list (x ∷ xs) (y ∷ ys) = with_both (dec_eq x y) (dec_list xs ys)
  where
    with_both : Dec (x ≡ y) → Dec (xs ≡ ys) → Dec (x ∷ xs ≡ y ∷ ys)
    with_both (inl p) (inl q) = inl cc
    with_both (inl p) (inr n) = inr (λ e. n cc)
    with_both (inr n) d = inr (λ e. n cc)

dec_not : {P : Type 0} → Dec P → Dec (P → ⊥)
dec_not (inl p) = inr (λ n. n p)
dec_not (inr n) = inl n

-- an export's name is none of those after it
dec_distinct : (es : List Export) → Dec (DistinctNames es)
dec_distinct [] = inl (λ i j e f l h. no h)
dec_distinct (x ∷ es) = with_first (dec_each (λ (f : Export). x.name ≢ f.name) (λ f. dec_not (dec_list x.name f.name)) es) (dec_distinct es)
  where
    all : Each (λ (f : Export). x.name ≢ f.name) es → DistinctNames es → DistinctNames (x ∷ es)
    all p h zero zero e f l he hf = absurd (omega (arith, l))
    all p h zero (suc j) e f l he hf = subst (λ (y : Export). y.name ≢ f.name) (same_Some _ _ he) (p j f hf)
    all p h (suc i) zero e f l he hf = absurd (omega (arith, l))
    all p h (suc i) (suc j) e f l he hf = h i j e f (omega (arith, l)) he hf

    with_first : Dec (Each (λ (f : Export). x.name ≢ f.name) es) → Dec (DistinctNames es) → Dec (DistinctNames (x ∷ es))
    with_first (inl p) (inl h) = inl (all p h)
    with_first (inl p) (inr n) = inr (λ h. n (λ i j e f l he hf. h (suc i) (suc j) e f (omega (arith, l)) he hf))
    with_first (inr n) d = inr (λ h. n (λ j f hf. h 0 (suc j) x f (omega arith) refl hf))

dec_there : (m : Parts) (k : ExportKind) (i : ℕ) → Dec (IsThere m k i)
dec_there m kinds.Func i = dec_lt i (length m.funcs)
dec_there m kinds.Table i = dec_both (dec_eq i 0) (dec_some m.table)
dec_there m kinds.Memory i = dec_both (dec_eq i 0) (dec_some m.memory)
dec_there m kinds.Global i = dec_lt i (length m.globals)

dec_ordered : (min : ℕ) (o : Option ℕ) → Dec (IfSome o (λ most. min ≤ most))
dec_ordered min None = inl tt
dec_ordered min (Some most) = dec_le min most

dec_bounded : (min : ℕ) (o : Option ℕ) → Dec (IfSome o (λ most. (most ≤ 65536) × (min ≤ most)))
dec_bounded min None = inl tt
dec_bounded min (Some most) = dec_both (dec_le most 65536) (dec_le min most)

dec_type : (s t : ValType) → Dec (s ≡ t)
dec_type I32 I32 = inl refl
dec_type I32 I64 = inr (λ e. cc)
dec_type I64 I32 = inr (λ e. cc)
dec_type I64 I64 = inl refl

dec_table : (o : Option Limits) → Dec (IfSome o LimitsAreOrdered)
dec_table None = inl tt
dec_table (Some l) = dec_ordered l.min l.max

dec_memory : (o : Option Limits) → Dec (IfSome o AreLimits)
dec_memory None = inl tt
dec_memory (Some l) = dec_map (λ p. record { least = p.0; greatest = p.1 }) (λ (h : AreLimits l). (h.least, h.greatest)) (dec_both (dec_le l.min 65536) (dec_bounded l.min l.max))

dec_segment : (m : Parts) (s : Segment) → Dec (SegmentIsValid m s)
dec_segment m s =
    dec_map (λ p. record { table = p.0; funcs = p.1 }) (λ (h : SegmentIsValid m s). (h.table, h.funcs)) (dec_both (dec_some m.table) (dec_each (λ f. f < length m.funcs) (λ f. dec_lt f (length m.funcs)) s.funcs))

dec_sound : (p : Part) (m : Parts) → Dec (IsSound p m)
dec_sound Functions m = dec_each (λ index. index < length m.types) (λ index. dec_lt index (length m.types)) m.funcs
dec_sound Tables m = dec_table m.table
dec_sound Memories m = dec_memory m.memory
dec_sound Globals m = dec_each (λ (g : GlobalDef). type_of g.init ≡ g.ty) (λ g. dec_type (type_of g.init) g.ty) m.globals
dec_sound Exported m = dec_both (dec_distinct m.exports) (dec_each (λ (e : Export). IsThere m e.kind e.index) (λ e. dec_there m e.kind e.index) m.exports)
dec_sound Elements m = dec_each (SegmentIsValid m) (dec_segment m) m.elements
dec_sound Codes m = dec_eq (length m.funcs) (length m.bodies)

-- the parts in the order of their ids
part_at : ℕ → Part
part_at zero = Functions
part_at (suc zero) = Tables
part_at (suc (suc zero)) = Memories
part_at (suc (suc (suc zero))) = Globals
part_at (suc (suc (suc (suc zero)))) = Exported
part_at (suc (suc (suc (suc (suc zero))))) = Elements
part_at (suc (suc (suc (suc (suc (suc n)))))) = Codes

abbrev place_of : Part → ℕ
place_of Functions = 0
place_of Tables = 1
place_of Memories = 2
place_of Globals = 3
place_of Exported = 4
place_of Elements = 5
place_of Codes = 6

part_back : (p : Part) → part_at (place_of p) ≡ p
unfolding part_at
part_back Functions = refl
part_back Tables = refl
part_back Memories = refl
part_back Globals = refl
part_back Exported = refl
part_back Elements = refl
part_back Codes = refl

place_back : (n : ℕ) → n < 7 → place_of (part_at n) ≡ n
unfolding part_at
place_back zero h = refl
place_back (suc zero) h = refl
place_back (suc (suc zero)) h = refl
place_back (suc (suc (suc zero))) h = refl
place_back (suc (suc (suc (suc zero)))) h = refl
place_back (suc (suc (suc (suc (suc zero))))) h = refl
place_back (suc (suc (suc (suc (suc (suc n)))))) h = omega arith

-- ids rise with places
id_by_place : (p : Part) → ((place_of p < 5) × (id_of p ≡ place_of p + 3)) ⊎ ((5 ≤ place_of p) × (id_of p ≡ place_of p + 4))
id_by_place Functions = inl (omega arith, refl)
id_by_place Tables = inl (omega arith, refl)
id_by_place Memories = inl (omega arith, refl)
id_by_place Globals = inl (omega arith, refl)
id_by_place Exported = inl (omega arith, refl)
id_by_place Elements = inr (omega arith, refl)
id_by_place Codes = inr (omega arith, refl)

place_below : (p q : Part) → id_of q < id_of p → place_of q < place_of p
place_below p q h = both (id_by_place p) (id_by_place q)
  where
    both : ((place_of p < 5) × (id_of p ≡ place_of p + 3)) ⊎ ((5 ≤ place_of p) × (id_of p ≡ place_of p + 4)) → ((place_of q < 5) × (id_of q ≡ place_of q + 3)) ⊎ ((5 ≤ place_of q) × (id_of q ≡ place_of q + 4)) → place_of q < place_of p
    both (inl a) (inl b) = omega (arith, h, a.0, a.1, b.0, b.1)
    both (inl a) (inr b) = omega (arith, h, a.0, a.1, b.0, b.1)
    both (inr a) (inl b) = omega (arith, h, a.0, a.1, b.0, b.1)
    both (inr a) (inr b) = omega (arith, h, a.0, a.1, b.0, b.1)

place_small : (p : Part) → place_of p < 7
place_small Functions = omega arith
place_small Tables = omega arith
place_small Memories = omega arith
place_small Globals = omega arith
place_small Exported = omega arith
place_small Elements = omega arith
place_small Codes = omega arith

-- the parts before a place are sound, or the first that isn't
abbrev SoundBelow : Parts → ℕ → Type 0
SoundBelow m n = (q : Part) → place_of q < n → IsSound q m

data Outside (m : Parts) : Type 0 where
  all_sound : AllSound m → Outside m
  first_unsound : (p : Part) → (IsSound p m → ⊥) → SoundBelow m (place_of p) → Outside m

parts_from : (m : Parts) (left n : ℕ) → n + left ≡ 7 → SoundBelow m n → Outside m
parts_from m zero n e h = all_sound (λ p. h p (let s = place_small p in omega (arith, s, e)))
parts_from m (suc left) n e h = by (dec_sound (part_at n) m) (λ g. parts_from m left (n + 1) (omega arith) g)
  where
    at : place_of (part_at n) ≡ n
    at = place_back n (omega arith)

    more : IsSound (part_at n) m → SoundBelow m (n + 1)
    more s q l =
        ⊎_elim (λ lt. h q lt) (λ le. let same : place_of q ≡ n = omega (arith, le, l) in subst (λ p. IsSound p m) (ap part_at (sym same) ∙ part_back q) s) (cases_lt (place_of q) n)

    by : Dec (IsSound (part_at n) m) → (SoundBelow m (n + 1) → Outside m) → Outside m
    by (inl s) go = go (more s)
    by (inr u) go = first_unsound (part_at n) u (λ q l. h q (omega (arith, l, at)))

-- the bodies, one after another
closed_at : (bs : List Body) → All IsBody bs → (f : ℕ) (b : Body) → slice_get bs f ≡ Some b → IsClosed (false ∷ []) b.code
closed_at [] a f b e = no e
closed_at (c ∷ bs) (p, a) zero b e = subst (λ (x : Body). IsClosed (false ∷ []) x.code) (same_Some _ _ e) p.1
closed_at (c ∷ bs) (p, a) (suc f) b e = closed_at bs a f b e

func_judged : (m : Parts) → IsModule m → AllSound m → (f : ℕ) → f < length m.funcs → TypedBelow m f → TypedBelow m (f + 1) ⊎ ((g p : ℕ) × FirstFault m g p)
func_judged m i all f h below =
    let index : ℕ = get_or m.funcs f 0 in
    let hf : slice_get m.funcs f ≡ Some index = slice_get-get_or m.funcs f 0 h in
    let lt : index < length m.types = all Functions f index hf in
    let none : FuncType = record { params = []; result = None } in
    let type : FuncType = get_or m.types index none in
    let ht : slice_get m.types index ≡ Some type = slice_get-get_or m.types index none lt in
    let same : length m.funcs ≡ length m.bodies = all Codes in
    let empty : Body = record { locals = []; code = [] } in
    let b : Body = get_or m.bodies f empty in
    let hb : slice_get m.bodies f ≡ Some b = slice_get-get_or m.bodies f empty (omega (arith, h, same)) in
    by index type b hf ht hb (bodies_are_judged m (type.params ++ b.locals) (results_of type) b.code (closed_at m.bodies i.bodies.1 f b hb))
  where
    by : (index : ℕ) (type : FuncType) (b : Body) → slice_get m.funcs f ≡ Some index → slice_get m.types index ≡ Some type → slice_get m.bodies f ≡ Some b → TypedBody m (type.params ++ b.locals) (results_of type) b.code ⊎ ((p : ℕ) × IsFaultAt m (type.params ++ b.locals)
        (results_of type) b.code p) → TypedBelow m (f + 1) ⊎ ((g p : ℕ) × FirstFault m g p)
    by index type b hf ht hb (inr (p, w)) = inr (_, _, inside f p index type b all below hf ht hb w)
    by index type b hf ht hb (inl t) = inl below_more
      where
        here : (g j : ℕ) (c : Body) → g ≡ f → slice_get m.funcs g ≡ Some j → slice_get m.bodies g ≡ Some c → TypedFunc m j c
        here g j c e hg hc =
            let ej : index ≡ j = same_Some _ _ (sym hf ∙ ap (slice_get m.funcs) (sym e) ∙ hg) in
            let ec : b ≡ c = same_Some _ _ (sym hb ∙ ap (slice_get m.bodies) (sym e) ∙ hc) in
            subst (λ j. TypedFunc m j c) ej (subst (TypedFunc m index) ec (record { type = type; found = ht; typed = t }))

        below_more : TypedBelow m (f + 1)
        below_more g j c l hg hc = ⊎_elim (λ lt. below g j c lt hg hc) (λ le. here g j c (omega (arith, le, l)) hg hc) (cases_lt g f)

funcs_judged : (m : Parts) → IsModule m → AllSound m → (left f : ℕ) → f + left ≡ length m.funcs → TypedBelow m f → TypedBelow m (length m.funcs) ⊎ ((g p : ℕ) × FirstFault m g p)
funcs_judged m i all zero f e below = inl (subst (TypedBelow m) (let q : f ≡ length m.funcs = omega arith in q) below)
funcs_judged m i all (suc left) f e below =
    ⊎_elim (λ more. funcs_judged m i all left (f + 1) (omega arith) more) (λ fault. inr fault) (func_judged m i all f (omega arith) below)

whole : (m : Parts) → AllSound m → TypedBelow m (length m.funcs) ⊎ ((g p : ℕ) × FirstFault m g p) → IsValid m ⊎ ((g p : ℕ) × FirstFault m g p)
whole m all (inr fault) = inr fault
whole m all (inl typed) = inl (record { outside = all; bodies = λ f index b hf hb. typed f index b (slice_get_within m.funcs f index hf) hf hb })

from_outside : (m : Parts) → IsModule m → Outside m → IsValid m ⊎ ((f p : ℕ) × FirstFault m f p)
from_outside m i (all_sound all) = whole m all (funcs_judged m i all (length m.funcs) 0 (omega arith) (λ f index b l hf hb. absurd (omega (arith, l))))
from_outside m i (first_unsound p n h) = inr (_, _, outside p n (λ q l. h q (place_below p q l)))

pub modules_are_judged : ModulesAreJudged
modules_are_judged m i = from_outside m i (parts_from m 7 0 (omega arith) (λ q l. absurd (omega (arith, l))))
