-- The set of names that a term names, part by part.
use Rattle.std.proofs.Common.{◌≡◌, ◌≤◌, ◌<◌, ◌+◌, ◌∙◌, ◌||◌, ap, sym, refl, cond, ℕ, Bool, true, false, List, length, drop, get_or}
use Rattle.pc_terms.specs.declared.leaf.Name.{Name}
use Rattle.pc_rules.proofs.ListSteps.{next_is, none_left}
use Rattle.box_terms.specs.declared.term.BoxBranch.{BoxBranch}
use Rattle.box_terms.specs.declared.term.BoxDef.{BoxDef}
use Rattle.box_terms.specs.BoxLists.{arms_of, bodies_of}
use Rattle.erase_rules.specs.DirectedProgram.{names_constant, names_constant_terms}

-- a set s after the names of one part or of two

pub one_part : (a s : Bool) → (a || s) ≡ ((a || false) || s)
one_part true s = refl
one_part false s = refl

pub two_parts : (a b s : Bool) → (b || (a || s)) ≡ ((a || (b || false)) || s)
two_parts true true s = refl
two_parts true false s = refl
two_parts false true s = refl
two_parts false false s = refl

pub one_name : (a s : Bool) → cond a true s ≡ ((a || false) || s)
one_name true s = refl
one_name false s = refl

-- a list of parts, from one on

turned : (a b s : Bool) → (b || (a || s)) ≡ ((a || b) || s)
turned true true s = refl
turned true false s = refl
turned false b s = refl

module _ (k : Name) where
  module _ (bs : List BoxBranch) (i : ℕ) where
    pub arms_named_next : (b : BoxBranch) (whole s s' : Bool) → i < length bs → b ≡ get_or bs i b → s' ≡ (names_constant k b.body || s) →
        (names_constant_terms k (arms_of (drop i bs)) || s) ≡ whole → (names_constant_terms k (arms_of (drop (i + 1) bs)) || s') ≡ whole
    arms_named_next b whole s s' l e h w =
        ap (λ s. names_constant_terms k (arms_of (drop (i + 1) bs)) || s) h ∙ turned (names_constant k b.body) (names_constant_terms k (arms_of (drop (i + 1) bs))) s
        ∙ sym (ap (λ xs. names_constant_terms k (arms_of xs) || s) (next_is bs i b l e)) ∙ w

    pub arms_named_all : (whole s : Bool) → length bs ≤ i → (names_constant_terms k (arms_of (drop i bs)) || s) ≡ whole → s ≡ whole
    arms_named_all whole s l w = sym (ap (λ xs. names_constant_terms k (arms_of xs) || s) (none_left bs i l)) ∙ w

  module _ (n : ℕ) (ds : List BoxDef) (i : ℕ) where
    pub bodies_named_next : (d : BoxDef) (whole s s' : Bool) → i < length ds → d ≡ get_or ds i d → s' ≡ (names_constant k d.body || s) →
        (names_constant_terms k (bodies_of n (drop i ds)) || s) ≡ whole → (names_constant_terms k (bodies_of n (drop (i + 1) ds)) || s') ≡ whole
    bodies_named_next d whole s s' l e h w =
        ap (λ s. names_constant_terms k (bodies_of n (drop (i + 1) ds)) || s) h ∙ turned (names_constant k d.body) (names_constant_terms k (bodies_of n (drop (i + 1) ds))) s
        ∙ sym (ap (λ xs. names_constant_terms k (bodies_of n xs) || s) (next_is ds i d l e)) ∙ w

    pub bodies_named_all : (whole s : Bool) → length ds ≤ i → (names_constant_terms k (bodies_of n (drop i ds)) || s) ≡ whole → s ≡ whole
    bodies_named_all whole s l w = sym (ap (λ xs. names_constant_terms k (bodies_of n xs) || s) (none_left ds i l)) ∙ w

-- each body is smaller than the list
