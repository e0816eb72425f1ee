-- Families that are collected one by one.
use Rattle.std.proofs.Common.{◌≡◌, ◌∙◌, ap, refl, ℕ, ◌+◌, ◌<◌, ◌≤◌, List, [], ◌∷◌, ◌++◌, map, length, get_or, drop, take}
use Rattle.std.specs.List.{All}
use Rattle.std.proofs.lemmas.List.Elements.{All-nil, All-cons}
use Rattle.dump_reader.specs.declared.declaration.RawFamily.{RawFamily}
use Rattle.calculus_rules.specs.declared.declaration.Family.{Family}
use Rattle.calculus_rules.specs.declared.declaration.Block.{Block}
use Rattle.pc_rules.specs.declared.meter.Account.{Account}
use Rattle.calculus_rules.specs.Environment.{Env, head_of}
use Rattle.pc_rules.specs.DirectedRun.{done, bind}
use Rattle.pc_rules.specs.DirectedTyping.{Typing}
use Rattle.pc_rules.specs.DirectedDeclarations.{family_head, family_heads}
use Rattle.pc_rules.specs.WellCounted.{AreCountedFamilies}
use Rattle.inductive_check.specs.Given.{family_of}
use Rattle.pc_rules.proofs.ListSteps.{take_next, next_is, none_left}

heads_more : (fs : List RawFamily) (f : RawFamily) → map head_of (map family_of (fs ++ (f ∷ []))) ≡ map head_of (map family_of fs) ++ (head_of (family_of f) ∷ [])
heads_more [] f = refl
heads_more (x ∷ fs) f = ap (λ xs. head_of (family_of x) ∷ xs) (heads_more fs f)

pub heads_next : (fs : List RawFamily) (i : ℕ) (f : RawFamily) → i < length fs → f ≡ get_or fs i f →
    map head_of (map family_of (take (i + 1) fs)) ≡ map head_of (map family_of (take i fs)) ++ (head_of (family_of f) ∷ [])
heads_next fs i f lt is = ap (λ xs. map head_of (map family_of xs)) (take_next fs i f lt is) ∙ heads_more (take i fs) f

pub families_more : (E : Env) (Fs Gs : List Family) → AreCountedFamilies E Fs → AreCountedFamilies E Gs → AreCountedFamilies E (Fs ++ Gs)
families_more E [] Gs h k = k
families_more E (F ∷ Fs) Gs h k = (h.0, families_more E Fs Gs h.1 k)

pub ruleset listed_laws = (heads_next)

-- heads have no constructors
pub heads_bare : (fs : List RawFamily) → All (λ (F : Family). F.ctors ≡ []) (map head_of (map family_of fs))
heads_bare [] = All-nil (λ (F : Family). F.ctors ≡ [])
heads_bare (f ∷ fs) = All-cons (λ (F : Family). F.ctors ≡ []) (head_of (family_of f)) (map head_of (map family_of fs)) refl (heads_bare fs)

module _ (E : Env) (inf : Typing) (B : Block) (fs : List RawFamily) (i : ℕ) (u : Account) where
  -- from the head of family i on
  pub heads_at : (f : RawFamily) → i < length fs → f ≡ get_or fs i f →
      family_heads E inf B (map family_of (drop i fs)) u ≡
      bind (family_head E inf B (family_of f) u) (λ _ v. family_heads E inf B (map family_of (drop (i + 1) fs)) v)
  heads_at f lt is = ap (λ xs. family_heads E inf B (map family_of xs) u) (next_is fs i f lt is)

  pub heads_over : length fs ≤ i → family_heads E inf B (map family_of (drop i fs)) u ≡ done tt u
  heads_over h = ap (λ xs. family_heads E inf B (map family_of xs) u) (none_left fs i h)
