-- Telescopes and the terms put in for them, taken apart and put together.
use Rattle.std.proofs.Common.{◌≡◌, ℕ, List, [], ◌∷◌, ◌++◌, length, arith}
use Rattle.pc_terms.specs.Syntax.{Term, first, put_all}
use Rattle.calculus_rules.specs.Environment.{Env}
use Rattle.calculus_rules.specs.declared.entry.Entry.TheVariants.{Assumed}
use Rattle.calculus_rules.specs.Context.{Context, extend}
use Rattle.calculus_rules.specs.Typing.{bare, TypesAll, no_terms, term, Entries, no_entries, entry}

pub entries_append : {E : Env} (c : Context) (As Bs : List Term) → Entries bare E c As → Entries bare E (extend c As) Bs → Entries bare E c (As ++ Bs)
entries_append c [] Bs no_entries qs = qs
entries_append c (A ∷ As) Bs (entry p ps) qs = entry p (entries_append (Assumed A ∷ c) As Bs ps qs)

pub all_append : {E : Env} {c : Context} {s : ℕ → Term} {xs As : List Term} (ys Bs : List Term) → TypesAll bare E c s xs As → TypesAll bare E c (put_all xs s) ys Bs →
    TypesAll bare E c s (xs ++ ys) (As ++ Bs)
all_append ys Bs no_terms qs = qs
all_append ys Bs (term p ps) qs = term p (all_append ys Bs ps qs)

-- terms of a telescope in two parts, cut where the first part ends
pub record TwoParts (E : Env) (c : Context) (s : ℕ → Term) (xs ys As Bs : List Term) : Type 0 where
  pub outer : TypesAll bare E c s xs As
  pub inner : TypesAll bare E c (put_all xs s) ys Bs

pub all_parts : {E : Env} {c : Context} (s : ℕ → Term) (xs ys As Bs : List Term) → length xs ≡ length As → TypesAll bare E c s (xs ++ ys) (As ++ Bs) → TwoParts E c s xs ys As Bs
all_parts s [] ys [] Bs e d = record { outer = no_terms; inner = d }
all_parts s (x ∷ xs) ys (A ∷ As) Bs e (term p ps) = let r = all_parts (first x s) xs ys As Bs (omega arith) ps in record { outer = term p r.outer; inner = r.inner }
all_parts s [] ys (A ∷ As) Bs e d = absurd (omega arith)
all_parts s (x ∷ xs) ys [] Bs e d = absurd (omega arith)
