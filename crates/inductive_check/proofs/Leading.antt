-- Runs that have come to another one, and what follows them.
use Rattle.std.proofs.Common.{◌≡◌, ◌∙◌, sym, ap, Result, Ok, Err, List, [], ◌∷◌, ◌++◌, append_assoc, append-nil}
use Rattle.pc_rules.specs.declared.meter.Account.{Account}
use Rattle.pc_rules.specs.declared.meter.Meter.{Meter}
use Rattle.pc_rules.specs.declared.stop.Stop.TheVariants.{Memory}
use Rattle.pc_rules.specs.declared.stop.Halt.{Halt}
use Rattle.pc_rules.specs.declared.stop.Halt.TheVariants.{Stop}
use Rattle.pc_rules.specs.DirectedRun.{Run, Done, done, bind, Leaves}
use Rattle.pc_rules.specs.Follows.{Follows, IsAfter, Answers}
use Rattle.pc_rules.specs.Leads.{Leads}
use Rattle.pc_rules.proofs.Meters.{after-refl, after-trans}
use Rattle.pc_rules.proofs.Fair.{leaves_bind, same_left}
use Rattle.pc_rules.proofs.Following.{bind_end, bind_deep, follows_bind, follows_err, follows_memory, follows_still, bind_done, leaves_at, leads_leave}
use Rattle.pc_rules.proofs.Leading.{bind_unit, bind_assoc, leads_start, leads_along, follows_leads}

-- the first part is done
pub leads_done : {A B : Type 0} (whole : Run B) (d : Run A) (k : A → Account → Run B) (a : A) (u : Account) → Leads whole (bind d k) → d.end ≡ Done a u → Leads whole (k a u)
leads_done whole d k a u l e = record { end = l.end ∙ bind_end d k a u e; deep = λ h. l.deep (bind_deep d k a u e h) }

-- what follows the rest follows the whole

-- the first part of the rest is refused or stops
pub follows_first : {A B : Type 0} (whole : Run B) (d : Run A) (k : A → Account → Run B) (h : Halt) (m0 m1 m2 : Meter) → Leads whole (bind d k) → IsAfter m0 m1 →
    Follows d (Err h) m1 m2 → ((a : A) (u : Account) → Leaves (k a u).end u.left) → Follows whole (Err h) m0 m2
follows_first whole d k h m0 m1 m2 l after f q = follows_leads whole (bind d k) (Err h) m0 m1 m2 l after (follows_err d k h m1 m2 f q)

-- there is no memory for the rest, which never goes back on units
pub follows_wanting : {A : Type 0} (whole rest : Run A) (m0 m1 : Meter) → Leads whole rest → IsAfter m0 m1 → Leaves rest.end m1.account.left → Follows whole (Err (Stop Memory)) m0 m1
follows_wanting whole rest m0 m1 l after q = follows_leads whole rest (Err (Stop Memory)) m0 m1 m1 l after (follows_memory rest m1 q)

-- all is done
pub follows_end : {A : Type 0} (whole : Run A) (a : A) (m0 m1 : Meter) → Leads whole (done a m1.account) → IsAfter m0 m1 → Follows whole (Ok a) m0 m1
follows_end whole a m0 m1 l after = record { answer = l.end; after = after; leaves = leads_leave whole (done a m1.account) m1.account.left l (same_left m1.account) }

-- lists that are collected: what is found of the first, and the rest

pub collect_start : {B : Type 0} (d : Run (List B)) → Leads d (bind d (λ bs w. done ([] ++ bs) w))
collect_start d = leads_start d (bind d (λ bs w. done bs w)) (bind_unit d)

module _ {A B : Type 0} (whole : Run (List B)) (out : List B) (one : Run A) (rest : A → Account → Run (List B)) (g : A → B) where
  abbrev found : A → Account → Run (List B)
  found a v = bind (rest a v) (λ bs w. done (g a ∷ bs) w)

  regrouped : bind (bind one found) (λ bs w. done (out ++ bs) w) ≡ bind one (λ a v. bind (found a v) (λ bs w. done (out ++ bs) w))
  regrouped = bind_assoc one found (λ bs w. done (out ++ bs) w)

  one_more : (a : A) (v : Account) → bind (found a v) (λ bs w. done (out ++ bs) w) ≡ bind (rest a v) (λ bs w. done ((out ++ (g a ∷ [])) ++ bs) w)
  one_more a v =
      bind_assoc (rest a v) (λ bs w. done (g a ∷ bs) w) (λ bs w. done (out ++ bs) w)
      ∙ (λ i. bind (rest a v) (λ bs w. (bind_done (g a ∷ bs) w (λ bs w. done (out ++ bs) w) ∙ ap (λ xs. done xs w) (sym (append_assoc out (g a ∷ []) bs))) i))

  pub collect_next : (a : A) (v : Account) → Leads whole (bind (bind one found) (λ bs w. done (out ++ bs) w)) → one.end ≡ Done a v →
      Leads whole (bind (rest a v) (λ bs w. done ((out ++ (g a ∷ [])) ++ bs) w))
  collect_next a v l e =
      leads_along whole _ _ (one_more a v)
      (leads_done whole one (λ a v. bind (found a v) (λ bs w. done (out ++ bs) w)) a v (leads_along whole _ _ regrouped l) e)

  pub collect_first : (h : Halt) (m0 m1 m2 : Meter) → Leads whole (bind (bind one found) (λ bs w. done (out ++ bs) w)) → IsAfter m0 m1 → Follows one (Err h) m1 m2 →
      ((a : A) (v : Account) → Leaves (rest a v).end v.left) → Follows whole (Err h) m0 m2
  collect_first h m0 m1 m2 l after f q =
      follows_first whole one (λ a v. bind (found a v) (λ bs w. done (out ++ bs) w)) h m0 m1 m2 (leads_along whole _ _ regrouped l) after f
      (λ a v. leaves_bind (found a v) (λ bs w. done (out ++ bs) w) v.left (leaves_bind (rest a v) (λ bs w. done (g a ∷ bs) w) v.left (q a v) (λ bs w. same_left w)) (λ bs w. same_left w))

pub collect_end : {B : Type 0} (whole : Run (List B)) (out : List B) (d : Run (List B)) (m0 m1 : Meter) → d ≡ done [] m1.account →
    Leads whole (bind d (λ bs w. done (out ++ bs) w)) → IsAfter m0 m1 → Follows whole (Ok out) m0 m1
collect_end whole out d m0 m1 e l after =
    follows_end whole out m0 m1 (leads_along whole _ _
    (ap (λ x. bind x (λ bs w. done (out ++ bs) w)) e ∙ (bind_done [] m1.account (λ bs w. done (out ++ bs) w) ∙ ap (λ xs. done xs m1.account) (append-nil out))) l) after

-- a part that leaves the meter alone

pub still_bind : {A B : Type 0} (d : Run A) (k : A → Account → Run B) (a : A) (r : Result B Halt) (m0 m1 : Meter) → Answers d (Ok a) m0.account →
    Follows (k a m0.account) r m0 m1 → Follows (bind d k) r m0 m1
still_bind d k a r m0 m1 h f = follows_bind d k a r m0 m0 m1 (record { answer = h; after = after-refl m0; leaves = leaves_at d (Done a m0.account) m0.account.left h (same_left m0.account) }) f

pub still_stops : {A : Type 0} (d : Run A) (h : Halt) (m : Meter) → Answers d (Err h) m.account → Leaves d.end m.account.left → Follows d (Err h) m m
still_stops d h m e l = follows_still d (Err h) m e l

pub ruleset after_laws = (after-refl, after-trans)
