-- Parallel reduction has the diamond property, so several steps are confluent.
use Rattle.std.proofs.Common.{List, [], length, refl, sym, ◌∙◌}
use Rattle.pc_terms.specs.Syntax.{Slot, slots, Term, Terms, Children, End, Child, Group, Done, Next, Label, Node, SortT, Rel, App, put, put_all, substitute, apply}
use Rattle.calculus_rules.specs.Environment.{Env}
use Rattle.calculus_rules.specs.Instances.{unfolded}
use Rattle.calculus_rules.specs.Step.{Root, beta, zeta, constant, matched, fixpoint}
use Rattle.equality_laws.proofs.Reducing.{Par, ParIn, ParTerms, Steps, rel, sorts, inside, contract, end, and, group, done, next, none, more}
use Rattle.equality_laws.proofs.Roots.{Settled, root_one}
use Rattle.equality_laws.proofs.Substituted.{par_same, par_is, item_reduced, par_put, par_put_all, par_unfolded, par_app, par_apply}
use Rattle.equality_laws.proofs.Spines.{constructor_kept, function_kept, each_number}

-- a redex whose parts have taken a step is one still
pub record RootKept (E : Env) (t w : Term) : Type 0 where
  pub reduct : Term
  pub root : Root E [] t reduct
  pub reduced : Par E w reduct

root_kept : {E : Env} → Settled E → {l : Label} {ts us : Children (slots l)} {w : Term} → Root E [] (Node l ts) w → ParIn E (slots l) ts us → RootKept E (Node l us) w
root_kept d (beta {A} {b} {a}) (and (inside (and {u = A'} p (and {u = b'} q end))) (and {u = a'} r end)) =
    record { reduct = substitute (put a') b'; root = beta; reduced = par_put d a a' b b' r q }
root_kept d beta (and (contract p r) q) = elim r [ ]
root_kept d (zeta {b} {B} {t}) (and {u = b'} p (and {u = B'} q (and {u = t'} r end))) = record { reduct = substitute (put b') t'; root = zeta; reduced = par_put d b b' t t' p r }
root_kept d (constant {k} {T} {b} kept) end = record { reduct = b; root = constant kept; reduced = par_same b }
root_kept d (matched {f} {ps} {bs} {n} {c} {m} {ret} {s} {body} {qs} {xs} k e l) (group p (and q (and r (group {qs = bs'} h end)))) =
    let kept = constructor_kept k r in
    let branch = item_reduced bs bs' c m body h e in
    record {
      reduct = substitute (put_all kept.arguments Rel) branch.item;
      root = matched kept.is branch.at (l ∙ sym (each_number kept.reduced));
      reduced = par_put_all d xs kept.arguments body branch.item kept.reduced branch.reduced;
    }
root_kept d (fixpoint i {rarg} rargs types bodies {body} {g} {a} before r l k b e) (and p (and {u = a'} q end)) =
    let function = function_kept i rarg rargs types bodies before e r l p in
    let argument = constructor_kept k q in
    let definition = item_reduced bodies function.bodies' i (length rargs) body function.of_bodies b in
    let start = unfolded rargs types bodies body in
    let reached = unfolded rargs function.types' function.bodies' definition.item in
    record {
      reduct = App (apply reached function.before') a';
      root = fixpoint i rargs function.types' function.bodies' function.before' r (each_number function.arguments ∙ l) argument.is definition.at function.is;
      reduced = par_app (par_apply start reached before function.before'
          (par_unfolded d rargs types function.types' bodies function.bodies' body definition.item function.of_types function.of_bodies definition.reduced) function.arguments) q;
    }

pub record Joined (E : Env) (t u : Term) : Type 0 where
  pub common : Term
  pub left : Par E t common
  pub right : Par E u common

record JoinedIn (E : Env) (ss : List Slot) (ts us : Children ss) : Type 0 where
  common : Children ss
  left : ParIn E ss ts common
  right : ParIn E ss us common

record JoinedTerms (E : Env) (ts us : Terms) : Type 0 where
  common : Terms
  left : ParTerms E ts common
  right : ParTerms E us common

-- a contraction against none, and two contractions

join_one : {E : Env} → Settled E → {l : Label} {us vs : Children (slots l)} {w : Term} → JoinedIn E (slots l) us vs → Root E [] (Node l us) w → Joined E w (Node l vs)
join_one d j r = let k = root_kept d r j.left in record { common = k.reduct; left = k.reduced; right = contract j.right k.root }

join_two : {E : Env} → Settled E → {l : Label} {us vs : Children (slots l)} {w x : Term} → JoinedIn E (slots l) us vs → Root E [] (Node l us) w → Root E [] (Node l vs) x → Joined E w x
join_two d j r q =
    let k = root_kept d r j.left in
    let m = root_kept d q j.right in
    record { common = k.reduct; left = k.reduced; right = par_is refl (root_one d m.root k.root) m.reduced }

turned : {E : Env} {t u : Term} → Joined E t u → Joined E u t
turned j = record { common = j.common; left = j.right; right = j.left }

turned_in : {E : Env} {ss : List Slot} {ts us : Children ss} → JoinedIn E ss ts us → JoinedIn E ss us ts
turned_in j = record { common = j.common; left = j.right; right = j.left }

mutual
  diamond_of : {E : Env} → Settled E → {t u w : Term} → Par E t u → Par E t w → Joined E u w
  diamond_of d rel rel = record { common = _; left = rel; right = rel }
  diamond_of d (sorts {s} p q) (sorts p' q') = record { common = SortT s; left = sorts q p; right = sorts q' p' }
  diamond_of d (sorts {s} p q) (inside end) = record { common = SortT s; left = sorts q p; right = inside end }
  diamond_of d (inside end) (sorts {s} p q) = record { common = SortT s; left = inside end; right = sorts q p }
  diamond_of d (sorts p q) (contract end r) = elim r [ ]
  diamond_of d (contract end r) (sorts p q) = elim r [ ]
  diamond_of d (inside p) (inside q) = let j = diamond_in d p q in record { common = Node _ j.common; left = inside j.left; right = inside j.right }
  diamond_of d (contract p r) (inside q) = join_one d (diamond_in d p q) r
  diamond_of d (inside p) (contract q r) = turned (join_one d (turned_in (diamond_in d p q)) r)
  diamond_of d (contract p r) (contract q r') = join_two d (diamond_in d p q) r r'

  diamond_in : {E : Env} → Settled E → {ss : List Slot} {ts us ws : Children ss} → ParIn E ss ts us → ParIn E ss ts ws → JoinedIn E ss us ws
  diamond_in d end end = record { common = End; left = end; right = end }
  diamond_in d (and p ps) (and q qs) =
      let j = diamond_of d p q in
      let k = diamond_in d ps qs in
      record { common = Child j.common k.common; left = and j.left k.left; right = and j.right k.right }
  diamond_in d (group p ps) (group q qs) =
      let j = diamond_terms d p q in
      let k = diamond_in d ps qs in
      record { common = Group j.common k.common; left = group j.left k.left; right = group j.right k.right }

  diamond_terms : {E : Env} → Settled E → {ts us ws : Terms} → ParTerms E ts us → ParTerms E ts ws → JoinedTerms E us ws
  diamond_terms d done done = record { common = Done; left = done; right = done }
  diamond_terms d (next {n = n} p ps) (next q qs) =
      let j = diamond_of d p q in
      let k = diamond_terms d ps qs in
      record { common = Next n j.common k.common; left = next j.left k.left; right = next j.right k.right }

pub diamond : {E : Env} → Settled E → (t u w : Term) → Par E t u → Par E t w → Joined E u w
diamond d t u w p q = diamond_of d p q

pub record Met (E : Env) (t u : Term) : Type 0 where
  pub common : Term
  pub left : Steps E t common
  pub right : Steps E u common

-- a step against several
record Strip (E : Env) (t u : Term) : Type 0 where
  common : Term
  left : Steps E t common
  right : Par E u common

strip : {E : Env} → Settled E → {t u w : Term} → Par E t u → Steps E t w → Strip E u w
strip d p none = record { common = _; left = none; right = p }
strip d {u = u} p (more {u = x} q qs) =
    let j = diamond d _ u x p q in
    let k = strip d j.right qs in
    record { common = k.common; left = more j.left k.left; right = k.right }

pub confluent : {E : Env} → Settled E → (t u w : Term) → Steps E t u → Steps E t w → Met E u w
confluent d t u w none q = record { common = w; left = q; right = none }
confluent d t u w (more {u = x} p ps) q =
    let j = strip d p q in
    let k = confluent d x u j.common ps j.left in
    record { common = k.common; left = k.left; right = more j.right k.right }
