-- Parts of a search that follow each other, and runs of a search that have come to another one.
use Rattle.std.proofs.Common.{◌≡◌, ◌∙◌, ap, refl, ℕ, Result, Ok, Err, IsErrAnd}
use Rattle.std.proofs.lemmas.Result.{err_from_is_err_and}
use Rattle.pc_terms.specs.declared.term.MakeFault.{MakeFault}
use Rattle.pc_terms.specs.declared.term.MakeFault.TheVariants.{Memory as NoTerm}
use Rattle.pc_rules.specs.declared.meter.Account.{Account}
use Rattle.pc_rules.specs.declared.meter.Meter.{Meter}
use Rattle.pc_rules.specs.declared.stop.Stop.TheVariants.{Spent, TooDeep, Memory}
use Rattle.pc_rules.specs.declared.stop.Halt.{Halt}
use Rattle.pc_rules.specs.declared.stop.Halt.TheVariants.{Stop}
use Rattle.pc_rules.specs.DirectedRun.{Run, Done, done, bind, Leaves}
use Rattle.pc_rules.specs.DirectedFirstOrder.{Searched, Found, NotFirstOrder, TooManyTypes, on_found, with_found}
use Rattle.pc_rules.specs.Stops.{stop_of}
use Rattle.pc_rules.specs.Follows.{Follows, IsAfter}
use Rattle.pc_rules.specs.Leads.{Leads}
use Rattle.pc_rules.proofs.Fair.{leaves_bind, same_left}
use Rattle.pc_rules.proofs.FairSearch.{on_found_leaves}
use Rattle.pc_rules.proofs.Following.{bind_end, bind_deep, bind_done, leads_leave, follows_bind, follows_err, follows_done}
use Rattle.first_order.specs.declared.faults.ShapeRefusal.{ShapeRefusal}
use Rattle.first_order.specs.declared.faults.ShapeRefusal.TheVariants.{NotFirstOrder as Without, Types as ManyTypes, Spent as NoUnits, TooDeep as Deep, Memory as NoMemory}
use Rattle.first_order.specs.Searching.{searched, refusal_of}
use Rattle.pc_rules.proofs.Leading.{bind_unit, bind_assoc, leads_start, leads_along, follows_leads}

-- ---- grouping

on_on : {A B C : Type 0} (k : A → Account → Run (Searched B)) (l : B → Account → Run (Searched C)) (s : Searched A) (u : Account) →
    bind (on_found s u k) (λ t v. on_found t v l) ≡ on_found s u (λ a v. with_found (k a v) l)
on_on k l (Found a) u = refl
on_on k l (NotFirstOrder T) u = bind_done (NotFirstOrder T) u (λ t v. on_found t v l)
on_on k l TooManyTypes u = bind_done TooManyTypes u (λ t v. on_found t v l)

pub with_found_assoc : {A B C : Type 0} (r : Run (Searched A)) (k : A → Account → Run (Searched B)) (l : B → Account → Run (Searched C)) →
    with_found (with_found r k) l ≡ with_found r (λ a u. with_found (k a u) l)
with_found_assoc r k l = bind_assoc r (λ s u. on_found s u k) (λ s u. on_found s u l) ∙ (λ i. bind r (λ s u. on_on k l s u i))

on_unit : {A : Type 0} (s : Searched A) (u : Account) → done s u ≡ on_found s u (λ a v. done (Found a) v)
on_unit (Found a) u = refl
on_unit (NotFirstOrder T) u = refl
on_unit TooManyTypes u = refl

-- a search, and then what it finds
pub found_unit : {A : Type 0} (r : Run (Searched A)) → r ≡ with_found r (λ a u. done (Found a) u)
found_unit r = bind_unit r ∙ (λ i. bind r (λ s u. on_unit s u i))

-- ---- one after the other

pub follows_found : {B D : Type 0} (r : Run (Searched B)) (k : B → Account → Run (Searched D)) (b : B) (x : Result (Searched D) Halt) (m0 m1 m2 : Meter) →
    Follows r (Ok (Found b)) m0 m1 → Follows (k b m1.account) x m1 m2 → Follows (with_found r k) x m0 m2
follows_found r k b x m0 m1 m2 f g = follows_bind r (λ s u. on_found s u k) (Found b) x m0 m1 m2 f g

-- where the first part finds nothing, what would come then never goes back on units

found_leaves : {B D : Type 0} (k : B → Account → Run (Searched D)) → ((b : B) (u : Account) → Leaves (k b u).end u.left) → (s : Searched B) (u : Account) → Leaves (on_found s u k).end u.left
found_leaves k q s u = on_found_leaves s u k q

pub with_leaves : {B D : Type 0} (r : Run (Searched B)) (k : B → Account → Run (Searched D)) (n : ℕ) → Leaves r.end n → ((b : B) (u : Account) → Leaves (k b u).end u.left) →
    Leaves (with_found r k).end n
with_leaves r k n h q = leaves_bind r (λ s u. on_found s u k) n h (found_leaves k q)

-- the first part finds nothing
pub follows_lost : {A B C D : Type 0} (r : Run (Searched B)) (k : B → Account → Run (Searched D)) (v : A → B) (w : C → D) (e : ShapeRefusal) (m0 m1 : Meter) →
    Follows r (searched v (Err e)) m0 m1 → ((b : B) (u : Account) → Leaves (k b u).end u.left) → Follows (with_found r k) (searched w (Err e)) m0 m1
follows_lost r k v w (Without T) m0 m1 f q =
    follows_bind r (λ s u. on_found s u k) (NotFirstOrder T) (Ok (NotFirstOrder T)) m0 m1 m1 f (follows_done (NotFirstOrder T) m1)
follows_lost r k v w ManyTypes m0 m1 f q = follows_bind r (λ s u. on_found s u k) TooManyTypes (Ok TooManyTypes) m0 m1 m1 f (follows_done TooManyTypes m1)
follows_lost r k v w NoUnits m0 m1 f q = follows_err r (λ s u. on_found s u k) (Stop Spent) m0 m1 f (found_leaves k q)
follows_lost r k v w Deep m0 m1 f q = follows_err r (λ s u. on_found s u k) (Stop TooDeep) m0 m1 f (found_leaves k q)
follows_lost r k v w NoMemory m0 m1 f q = follows_err r (λ s u. on_found s u k) (Stop Memory) m0 m1 f (found_leaves k q)

-- the same refusal, however results are seen
pub lost_alike : {A C D : Type 0} (r : Run (Searched D)) (v : A → D) (w : C → D) (e : ShapeRefusal) (m0 m1 : Meter) →
    Follows r (searched v (Err e)) m0 m1 → Follows r (searched w (Err e)) m0 m1
lost_alike r v w (Without T) m0 m1 f = f
lost_alike r v w ManyTypes m0 m1 f = f
lost_alike r v w NoUnits m0 m1 f = f
lost_alike r v w Deep m0 m1 f = f
lost_alike r v w NoMemory m0 m1 f = f

-- there is no memory
pub no_memory : {A B : Type 0} (r : Run (Searched B)) (v : A → B) (m0 m1 : Meter) → IsAfter m0 m1 → Leaves r.end m1.account.left → Follows r (searched v (Err NoMemory)) m0 m1
no_memory r v m0 m1 after l = record { answer = tt; after = after; leaves = l }

-- a `?` gives on that there is none
pub passes_memory : {A B : Type 0} (d : Run (Searched B)) (v : A → B) (r : Result A ShapeRefusal) (x : MakeFault) (m0 m1 : Meter) → x ≡ NoTerm → IsErrAnd r (λ e. e ≡ refusal_of (stop_of x)) →
    IsAfter m0 m1 → Leaves d.end m1.account.left → Follows d (searched v r) m0 m1
passes_memory d v r x m0 m1 e h after l =
    let p = err_from_is_err_and r h in
    rw (p.1, p.2, e) (no_memory d v m0 m1 after l)

-- ---- runs that have come to another one

pub leads_found : {A B : Type 0} (whole : Run (Searched B)) (r : Run (Searched A)) (k : A → Account → Run (Searched B)) (a : A) (v : Account) →
    Leads whole (with_found r k) → r.end ≡ Done (Found a) v → Leads whole (k a v)
leads_found whole r k a v l e = record {
  end = l.end ∙ bind_end r (λ s u. on_found s u k) (Found a) v e;
  deep = λ h. l.deep (bind_deep r (λ s u. on_found s u k) (Found a) v e h);
}

-- ---- results that are collected one by one: what is done with the results of the rest

abbrev pub then_done : {B C : Type 0} → Run (Searched B) → (B → C) → Run (Searched C)
then_done r f = with_found r (λ b w. done (Found (f b)) w)

-- no units are won by what is done with a result
pub then_leaves : {B C : Type 0} (r : Run (Searched B)) (f : B → C) (n : ℕ) → Leaves r.end n → Leaves (then_done r f).end n
then_leaves r f n h = with_leaves r (λ b w. done (Found (f b)) w) n h (λ b u. same_left u)

pub collect_start : {B : Type 0} (r : Run (Searched B)) → Leads r (then_done r (λ b. b))
collect_start r = leads_start r (then_done r (λ b. b)) (found_unit r)

module _ {A B C : Type 0} (whole : Run (Searched C)) (one : Run (Searched A)) (rest : A → Account → Run (Searched B)) (g : A → B → B) (pre : B → C) where
  abbrev both : A → Account → Run (Searched B)
  both a v = then_done (rest a v) (g a)

  regrouped : then_done (with_found one both) pre ≡ with_found one (λ a v. then_done (both a v) pre)
  regrouped = with_found_assoc one both (λ b w. done (Found (pre b)) w)

  one_done : (a : A) (v : Account) → then_done (both a v) pre ≡ then_done (rest a v) (λ b. pre (g a b))
  one_done a v =
      with_found_assoc (rest a v) (λ b w. done (Found (g a b)) w) (λ b w. done (Found (pre b)) w)
      ∙ (λ i. with_found (rest a v) (λ b w. bind_done (Found (g a b)) w (λ t x. on_found t x (λ b w. done (Found (pre b)) w)) i))

  pub collect_next : (a : A) (v : Account) → Leads whole (then_done (with_found one both) pre) → one.end ≡ Done (Found a) v → Leads whole (then_done (rest a v) (λ b. pre (g a b)))
  collect_next a v l e =
      leads_along whole _ _ (one_done a v) (leads_found whole one (λ a v. then_done (both a v) pre) a v (leads_along whole _ _ regrouped l) e)

  pub collect_lost : {X Y : Type 0} (f : X → A) (h : Y → C) (e : ShapeRefusal) (m0 m1 m2 : Meter) → Leads whole (then_done (with_found one both) pre) → IsAfter m0 m1 →
      Follows one (searched f (Err e)) m1 m2 → ((a : A) (v : Account) → Leaves (rest a v).end v.left) → Follows whole (searched h (Err e)) m0 m2
  collect_lost f h e m0 m1 m2 l after p q =
      follows_leads whole (with_found one (λ a v. then_done (both a v) pre)) (searched h (Err e)) m0 m1 m2 (leads_along whole _ _ regrouped l) after
      (follows_lost one (λ a v. then_done (both a v) pre) f h e m1 m2 p (λ a v. then_leaves (both a v) pre v.left (then_leaves (rest a v) (g a) v.left (q a v))))

-- there is no memory for what is found, and of the results of the rest something is done
pub collect_memory : {A B C : Type 0} (whole : Run (Searched C)) (rest : Run (Searched B)) (pre : B → C) (v : A → C) (r : Result A ShapeRefusal) (x : MakeFault) (m0 m1 : Meter) → x ≡ NoTerm →
    IsErrAnd r (λ e. e ≡ refusal_of (stop_of x)) → Leads whole (then_done rest pre) → IsAfter m0 m1 → Leaves rest.end m1.account.left → Follows whole (searched v r) m0 m1
collect_memory whole rest pre v r x m0 m1 e h l after n =
    passes_memory whole v r x m0 m1 e h after (leads_leave whole (then_done rest pre) m1.account.left l (then_leaves rest pre m1.account.left n))

pub collect_end : {B C : Type 0} (whole : Run (Searched C)) (d : Run (Searched B)) (pre : B → C) (b : B) (m0 m1 : Meter) → d ≡ done (Found b) m1.account →
    Leads whole (then_done d pre) → IsAfter m0 m1 → Follows whole (Ok (Found (pre b))) m0 m1
collect_end whole d pre b m0 m1 e l after =
    follows_leads whole (done (Found (pre b)) m1.account) (Ok (Found (pre b))) m0 m1 m1
    (leads_along whole _ _ (ap (λ x. then_done x pre) e ∙ bind_done (Found b) m1.account (λ t x. on_found t x (λ b w. done (Found (pre b)) w))) l) after
    (follows_done (Found (pre b)) m1)
