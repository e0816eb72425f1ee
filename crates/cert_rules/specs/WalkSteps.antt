-- Weak-head steps by a number of a certificate: one unit before each. The walk is refused at the item that asks for more steps than there are.
use Rattle.std.specs.Prelude.{ℕ, zero, suc, ◌||◌, Option, Some, None, slice_get}
use Rattle.pc_terms.specs.Syntax.{Term}
use Rattle.calculus_rules.specs.Environment.{Env}
use Rattle.calculus_rules.specs.Context.{Values}
use Rattle.pc_rules.specs.DirectedRun.{is_beyond}
use Rattle.pc_rules.specs.DirectedWeakHead.{weak_next}
use Rattle.cert_rules.specs.declared.item.CertItem.{CertItem}
use Rattle.cert_rules.specs.declared.item.CertItem.TheVariants.{Number}
use Rattle.cert_rules.specs.Walk.{Items, WalkState, Walk, pass, bar, bar_here, past, tick, paid_walk, walk_on}

-- goes on from a step, which a unit has paid for
abbrev pub stepped : ℕ → Option Term → WalkState → (Term → Walk Term) → Walk Term
stepped i None s go = bar i s
stepped i (Some x) s go = record { end = (go x).end; deep = is_beyond x || (go x).deep }

-- n steps, for which item i asks
unfoldable pub walk_steps : Env → Values → ℕ → ℕ → Term → WalkState → Walk Term
walk_steps E V i zero t s = pass t s
walk_steps E V i (suc n) t s = paid_walk s.account.left (stepped i (weak_next E V t) (tick s) (λ x. walk_steps E V i n x (tick s)))

-- the number that comes next
abbrev pub number_at : Option CertItem → WalkState → Walk ℕ
number_at (Some (Number n)) s = pass n (past s)
number_at _ s = bar_here s

-- a term after the steps of a number, with that number and its item
pub record Reduced : Type 0 where
  pub item : ℕ
  pub count : ℕ
  pub term : Term

unfoldable pub reduced : Items → Env → Values → Term → WalkState → Walk Reduced
reduced cert E V t s =
    walk_on (number_at (slice_get cert s.at) s) (λ n v. walk_on (walk_steps E V s.at n t v) (λ W w. pass (record { item = s.at; count = n; term = W }) w))
