-- Each type is a bare type.
use Rattle.std.proofs.Common.{ℕ, List}
use Rattle.pc_terms.specs.Syntax.{Term, Terms}
use Rattle.universe_levels.specs.declared.sort.Sort.{Sort}
use Rattle.pc_terms.specs.declared.leaf.FamilyId.{FamilyId}
use Rattle.calculus_rules.specs.declared.declaration.Constructor.{Constructor}
use Rattle.calculus_rules.specs.Environment.{Env}
use Rattle.calculus_rules.specs.Context.{Context}
use Rattle.calculus_rules.specs.Typing.{bare, guarded, Types, rel, sort, prod, lambda, let_in, app, const, ind, construct, case, fix, conv, TypesAll, no_terms, term, Entries, no_entries, entry, Branches, no_branches, branch, Sorts, no_types, a_type, Bodies, no_bodies, a_body, EntrySorts, no_sorts, a_sort}

mutual
  pub bare_types : {E : Env} → {c : Context} {t T : Term} → Types guarded E c t T → Types bare E c t T
  bare_types (rel e) = rel e
  bare_types (sort h) = sort h
  bare_types (prod p q) = prod (bare_types p) (bare_types q)
  bare_types (lambda p q) = lambda (bare_types p) (bare_types q)
  bare_types (let_in p q r) = let_in (bare_types p) (bare_types q) (bare_types r)
  bare_types (app p q) = app (bare_types p) (bare_types q)
  bare_types (const k) = const k
  bare_types (ind k) = ind k
  bare_types (construct k e) = construct k e
  bare_types (case ps is k e l p es q may s bs) =
      case ps is k e l (bare_all p) (bare_entries es) (bare_types q) may (bare_types s) (bare_branches bs)
  bare_types (fix e h p b ask) = fix e h (bare_sorts p) (bare_bodies b) tt
  bare_types (conv p b q) = conv (bare_types p) b (bare_types q)

  pub bare_all : {E : Env} → {c : Context} {s : ℕ → Term} {ts As : List Term} → TypesAll guarded E c s ts As → TypesAll bare E c s ts As
  bare_all no_terms = no_terms
  bare_all (term p ps) = term (bare_types p) (bare_all ps)

  pub bare_entries : {E : Env} → {c : Context} {As : List Term} → Entries guarded E c As → Entries bare E c As
  bare_entries no_entries = no_entries
  bare_entries (entry p ps) = entry (bare_types p) (bare_entries ps)

  pub bare_branches : {E : Env} → {c : Context} {f : FamilyId} {ps : List Term} {ret : Term} {n : ℕ} {Cs : List Constructor} {bs : Terms} →
      Branches guarded E c f ps ret n Cs bs → Branches bare E c f ps ret n Cs bs
  bare_branches no_branches = no_branches
  bare_branches (branch e es p bs) = branch e (bare_entries es) (bare_types p) (bare_branches bs)

  pub bare_sorts : {E : Env} → {c : Context} {n : ℕ} {ts : Terms} → Sorts guarded E c n ts → Sorts bare E c n ts
  bare_sorts no_types = no_types
  bare_sorts (a_type p ps) = a_type (bare_types p) (bare_sorts ps)

  pub bare_bodies : {E : Env} → {c : Context} {n : ℕ} {rs : List ℕ} {ts us : Terms} → Bodies guarded E c n rs ts us → Bodies bare E c n rs ts us
  bare_bodies no_bodies = no_bodies
  bare_bodies (a_body r p ps) = a_body r (bare_types p) (bare_bodies ps)

pub bare_entry_sorts : {E : Env} → {c : Context} {As : List Term} {ss : List Sort} → EntrySorts guarded E c As ss → EntrySorts bare E c As ss
bare_entry_sorts no_sorts = no_sorts
bare_entry_sorts (a_sort p ps) = a_sort (bare_types p) (bare_entry_sorts ps)
