-- The start of a run of `main` in a valid module is a good state, and so is each state that it reaches.
use Rattle.std.proofs.Common.{◌≡◌, ℕ, zero, suc, List, [], ◌∷◌, ◌++◌, length, map, reverse, take, Some, None, Option, Bool, true, false, refl, ap, sym, ◌∙◌, subst}
use Rattle.std.specs.Prelude.{slice_get, if◌then◌else◌}
use Rattle.std.specs.Option.{option_and_then}
use Rattle.std.proofs.lemmas.Option.{same_Some}
use Rattle.wasm_core.specs.declared.types.ValType.{ValType}
use Rattle.wasm_core.specs.declared.types.FuncType.{FuncType}
use Rattle.wasm_core.specs.declared.types.GlobalDef.{GlobalDef}
use Rattle.wasm_core.specs.declared.types.ConstValue.{ConstValue}
use Rattle.wasm_core.specs.declared.types.ConstValue.TheVariants.{I32, I64}
use Rattle.wasm_core.specs.declared.exports.Export.{Export}
use Rattle.wasm_core.specs.declared.entries.Entry.TheVariants.{Main}
use Rattle.wasm_core.specs.Parts.{Parts}
use Rattle.wasm_core.specs.Instance.{Func, func_of, zero_of, segments_fit}
use Rattle.wasm_core.specs.ModuleTyping.{OperandTypes, Of, known, type_of, IsValid, Globals, results_of}
use Rattle.wasm_core.specs.MachineStep.{Store, State, At, Over, StepsTo, Reach}
use Rattle.wasm_core.specs.Entries.{index_of, fitting, named, name_of, as_func, typed_func, from_nothing}
use Rattle.wasm_core.specs.Runs.{start, start_at, main_start, first_store, HasSteps}
use Rattle.wasm_core.specs.HostStore.{start_in, start_at_in, main_start_in, with_store}
use Rattle.wasm_core.specs.Safe.{HasType, is_i32, is_i64, HaveTypes, no_values, values, Goes, goes, fin, GoodState, global_types}
use Rattle.wasm_core.specs.Laws.{NeverStuck, HostedNeverStuck, HostedStarts, StepsAreDetermined}
use Rattle.wasm_core.proofs.Small.{no, some_of}
use Rattle.wasm_core.proofs.Values.{zeros_have}
use Rattle.wasm_core.proofs.Functions.{found_at}
use Rattle.wasm_core.proofs.Safety.{result_takes, safe, stays_good}

pub record FromNothing (m : Parts) (f : ℕ) : Type 0 where
  pub index : ℕ
  pub type : FuncType
  pub is_func : slice_get m.funcs f ≡ Some index
  pub is_type : slice_get m.types index ≡ Some type
  pub no_params : type.params ≡ []
  pub no_result : type.result ≡ None

nothing_to : (ps : List ValType) (r : Option ValType) (i f : ℕ) → from_nothing ps r i ≡ Some f → (ps ≡ []) × (r ≡ None) × (i ≡ f)
nothing_to [] None i f e = (refl, refl, same_Some _ _ e)
nothing_to [] (Some t) i f e = no e
nothing_to (p ∷ ps) r i f e = no e

typed_main : (m : Parts) (i f : ℕ) → typed_func m i ≡ Some f → FromNothing m f
typed_main m i f e =
    let (index, hf, e1) = some_of (λ index. option_and_then (λ (t : FuncType). from_nothing t.params t.result i) (slice_get m.types index)) (slice_get m.funcs i) f e in
    let (t, ht, e2) = some_of (λ (t : FuncType). from_nothing t.params t.result i) (slice_get m.types index) f e1 in
    let (ps, r, is) = nothing_to t.params t.result i f e2 in
    record { index = index; type = t; is_func = ap (slice_get m.funcs) (sym is) ∙ hf; is_type = ht; no_params = ps; no_result = r }

-- the function that is exported as `main` is one from nothing to nothing
pub main_there : (m : Parts) (f : ℕ) → index_of Main m ≡ Some f → FromNothing m f
main_there m f e =
    let (x, hx, e1) = some_of (λ (x : Export). fitting Main m x) (named (name_of Main) m.exports) f e in
    let (i, hi, e2) = some_of (λ i. typed_func m i) (as_func x.kind x.index) f e1 in
    typed_main m i f e2

-- what a start of a run says
pub record Started (m : Parts) (first : State) : Type 0 where
  pub index : ℕ
  pub func : Func
  pub fits : segments_fit m ≡ true
  pub exported : index_of Main m ≡ Some index
  pub is : func_of m index ≡ Some func
  pub starts : first ≡ start m func

if_some : (b : Bool) (o : Option State) (s : State) → (if b then o else None) ≡ Some s → (b ≡ true) × (o ≡ Some s)
if_some true o s e = (refl, e)
if_some false o s e = no e

pub started : (m : Parts) (first : State) → main_start m ≡ Some first → Started m first
started m first e =
    let (fits, e0) = if_some (segments_fit m) (option_and_then (λ f. start_at m f) (index_of Main m)) first e in
    let (f, hf, e1) = some_of (λ f. start_at m f) (index_of Main m) first e0 in
    let (g, hg, e2) = some_of (λ (g : Func). Some (start m g)) (func_of m f) first e1 in
    record { index = f; func = g; fits = fits; exported = hf; is = hg; starts = sym (same_Some _ _ e2) }

has_own : (v : ConstValue) → HasType v (Of (type_of v))
has_own (I32 n) = is_i32
has_own (I64 n) = is_i64

first_globals : (gs : List GlobalDef) → ((x : ℕ) (g : GlobalDef) → slice_get gs x ≡ Some g → type_of g.init ≡ g.ty) → HaveTypes (map (λ (g : GlobalDef). g.init) gs) (map (λ (g : GlobalDef). Of g.ty) gs)
first_globals [] h = no_values
first_globals (g ∷ gs) h = values (subst (λ t. HasType g.init (Of t)) (h 0 g refl) (has_own g.init)) (first_globals gs (λ x y f. h (suc x) y f))

first_locals : (ps bs : OperandTypes) → ps ≡ [] → HaveTypes (reverse (take (length ps) []) ++ map zero_of bs) (known (ps ++ bs))
first_locals [] bs e = zeros_have bs
first_locals (p ∷ ps) bs e = cc

pub hosted_starts : HostedStarts
hosted_starts m st first e =
    let s = started m first e in
    ap (λ (b : Bool). if b then option_and_then (λ f. start_at_in m st f) (index_of Main m) else None) s.fits
    ∙ ap (option_and_then (λ f. start_at_in m st f)) s.exported
    ∙ ap (option_and_then (λ (g : Func). Some (start_in st g))) s.is
    ∙ ap (λ (x : State). Some (with_store x st)) (sym s.starts)

-- what a start in a store says
pub record StartedIn (m : Parts) (s : Store) (first : State) : Type 0 where
  pub index : ℕ
  pub func : Func
  pub exported : index_of Main m ≡ Some index
  pub is : func_of m index ≡ Some func
  pub starts : first ≡ start_in s func

pub started_in : (m : Parts) (s : Store) (first : State) → main_start_in m s ≡ Some first → StartedIn m s first
started_in m s first e =
    let (fits, e0) = if_some (segments_fit m) (option_and_then (λ f. start_at_in m s f) (index_of Main m)) first e in
    let (f, hf, e1) = some_of (λ f. start_at_in m s f) (index_of Main m) first e0 in
    let (g, hg, e2) = some_of (λ (g : Func). Some (start_in s g)) (func_of m f) first e1 in
    record { index = f; func = g; exported = hf; is = hg; starts = sym (same_Some _ _ e2) }

pub good_in : (m : Parts) → IsValid m → (s : Store) (first : State) → HaveTypes s.globals (global_types m) → main_start_in m s ≡ Some first → GoodState m first
good_in m valid st first typed e =
    let s = started_in m st first e in
    let h = main_there m s.index s.exported in
    let (x, t) = found_at m valid s.index h.index h.is_func in
    let same : x.func ≡ s.func = same_Some _ _ (sym x.is ∙ s.is) in
    let none : x.func.type.params ≡ [] = ap (λ (u : FuncType). u.params) (same_Some _ _ (sym t ∙ h.is_type)) ∙ h.no_params in
    subst (GoodState m) (ap (start_in st) same ∙ sym s.starts)
    (record {
      ls = x.func.type.params ++ x.func.body.locals;
      rs = results_of x.func.type;
      chain = tt;
      globals = typed;
      runs = record {
        labels = results_of x.func.type ∷ [];
        ts = [];
        keeps = result_takes x.func.type.result;
        locals = first_locals x.func.type.params x.func.body.locals none;
        operands = no_values;
        goes_on = subst (Goes m (x.func.type.params ++ x.func.body.locals) (results_of x.func.type) [] (results_of x.func.type ∷ []) []) (sym x.typed.ends) (goes x.typed.typed (fin x.typed.matched));
      };
    })

pub first_typed : (m : Parts) → IsValid m → HaveTypes (first_store m).globals (global_types m)
first_typed m valid = first_globals m.globals (valid.outside Globals)

pub start_good : (m : Parts) → IsValid m → (first : State) → main_start m ≡ Some first → GoodState m first
start_good m valid first e = good_in m valid (first_store m) first (first_typed m valid) e

good_step : (m : Parts) → IsValid m → (s t : State) (granted : Bool) → GoodState m s → StepsTo m granted s t → GoodState m t
good_step m valid (At c) t granted good e = stays_good m granted c t valid good e
good_step m valid (Over e store) t granted good h = absurd h

pub good_reach : (m : Parts) → IsValid m → (k : ℕ) (s t : State) → GoodState m s → Reach m k s t → GoodState m t
good_reach m valid zero s t good r = subst (GoodState m) r good
good_reach m valid (suc k) s t good (mid, r, (granted, e)) = good_step m valid mid t granted (good_reach m valid k s mid good r) e

pub good_steps : (m : Parts) → IsValid m → (t : State) → GoodState m t → HasSteps m t
good_steps m valid (At c) good = λ granted. (let (s, e, next) = safe m valid granted c good in (s, e))
good_steps m valid (Over e store) good = tt

pub never_stuck : NeverStuck
never_stuck m first k t valid e r = good_steps m valid t (good_reach m valid k first t (start_good m valid first e) r)

pub hosted_never_stuck : HostedNeverStuck
hosted_never_stuck m s first k t valid ready e r = good_steps m valid t (good_reach m valid k first t (good_in m valid s first ready.typed e) r)

pub determined : StepsAreDetermined
determined m granted (At c) t u a b = same_Some _ _ (sym a ∙ b)
determined m granted (Over e store) t u a b = absurd a
