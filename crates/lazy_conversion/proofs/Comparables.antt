-- The parts of what may be compared may be compared.
use Rattle.std.proofs.Common.{◌≡◌, ◌∙◌, sym, ap, refl, ℕ, zero, suc, ◌+◌, ◌*◌, ◌<◌, List, [], ◌∷◌, length, map, min, ◌≤◌, get_or, subst, arith}
use Rattle.std.proofs.lemmas.List.{length-map}
use Rattle.pc_terms.specs.Syntax.{Term, Prod, Lambda, args}
use Rattle.pc_terms.specs.Lists.{types_of, bodies_of}
use Rattle.pc_terms.specs.View.{tree_of}
use Rattle.pc_terms.specs.declared.term.Branch.{Branch}
use Rattle.pc_terms.specs.declared.term.Def.{Def}
use Rattle.pc_terms.specs.declared.term.Match.{Match}
use Rattle.pc_terms.specs.declared.term.Node.TheVariants.{Case, Fix}
use Rattle.calculus_rules.specs.Environment.{Env}
use Rattle.calculus_rules.specs.Context.{Values, under}
use Rattle.pc_rules.specs.DirectedWeakHead.{weak_next}
use Rattle.rule_laws.proofs.KeepCounts.{under_counted}
use Rattle.conversion.specs.Comparable.{AreComparable}
use Rattle.conversion.proofs.Parts.{items_comparable, args_comparable, parameters_comparable, predicates_comparable, scrutinees_comparable, branches_comparable, types_comparable, bodies_comparable}
use Rattle.reduce_machine.specs.Seen.{seen_term, IsInner, IsInnerArgument}
use Rattle.reduce_machine.specs.declared.seen.Seen.{Seen}
use Rattle.reduce_machine.specs.declared.seen.Argument.{Argument}
use Rattle.reduce_machine.specs.declared.seen.Argument.TheVariants.{Lazy, Value}
use Rattle.reduce_machine.proofs.Nesting.{inner_normal}
use Rattle.lazy_conversion.specs.Sound.{IsNormal, IsSound, IsSeenArgument, size_of}
use Rattle.lazy_conversion.specs.Stuck.{type_list, body_list}

-- values

pub inner_is_normal : (E : Env) (V : Values) (x s : Seen) → IsNormal E V x → IsInner x s → IsNormal E V s
inner_is_normal E V x s h i = record {
  seen = i.seen;
  normal = inner_normal E V x.spine.now (seen_term s) i.stuck (sym (ap (λ t. weak_next E V t) i.term) ∙ h.normal);
}

pub argument_sound : (E : Env) (V : Values) (x : Seen) (a : Argument) → IsNormal E V x → IsInnerArgument x a → IsSound E V a
argument_sound E V x (Lazy l) h i = tt
argument_sound E V x (Value s) h i = inner_is_normal E V x s h i

pub sound_seen : (E : Env) (V : Values) (a : Argument) → IsSound E V a → IsSeenArgument a
sound_seen E V (Lazy l) h = tt
sound_seen E V (Value s) h = h.seen

pub argument_seen : (x : Seen) (a : Argument) → IsInnerArgument x a → IsSeenArgument a
argument_seen x (Lazy l) i = tt
argument_seen x (Value s) i = i.seen

pub argument_smaller : (x : Seen) (a : Argument) → IsInnerArgument x a → size_of a < length x.below.now * 3 + 1
argument_smaller x (Lazy l) i = omega arith
argument_smaller x (Value s) i = omega (arith, i.shorter)

pub value_smaller : (a : Argument) (s : Seen) → a ≡ Value s → length s.below.now * 3 + 1 < size_of a
value_smaller a s e = subst (λ b. length s.below.now * 3 + 1 < size_of b) (sym e) (omega arith)

-- under more assumptions
pub under_comparable : (E : Env) (V W : Values) (n : ℕ) (ts us : List Term) → W ≡ under n V → AreComparable E V ts us → AreComparable E W ts us
under_comparable E V W n ts us e h =
    subst (λ X. AreComparable E X ts us) (sym e) (record { env = h.env; values = under_counted E n V h.values; left = h.left; right = h.right })

module _ (E : Env) (V : Values) where
  pub codomains_under : (A B A' B' : Term) → AreComparable E V (Prod A B ∷ []) (Prod A' B' ∷ []) → AreComparable E (under 1 V) (B ∷ []) (B' ∷ [])
  codomains_under A B A' B' h =
      record { env = h.env; values = under_counted E 1 V h.values; left = (h.left.0.1.1.0, tt); right = (h.right.0.1.1.0, tt) }

  pub bodies_under : (A b A' b' : Term) → AreComparable E V (Lambda A b ∷ []) (Lambda A' b' ∷ []) → AreComparable E (under 1 V) (b ∷ []) (b' ∷ [])
  bodies_under A b A' b' h =
      record { env = h.env; values = under_counted E 1 V h.values; left = (h.left.0.1.1.0, tt); right = (h.right.0.1.1.0, tt) }

  -- arguments
  pub argument_comparable : (a b : Term) (i : ℕ) (t u : Term) → i < length (args a) → i < length (args b) → t ≡ get_or (args a) i t → u ≡ get_or (args b) i u →
      AreComparable E V (a ∷ []) (b ∷ []) → AreComparable E V (t ∷ []) (u ∷ [])
  argument_comparable a b i t u h k e e' c = items_comparable E V (args a) (args b) i t u h k e e' (args_comparable E V a b (args a) (args b) refl refl c)

  -- matches and fixpoints
  module _ (x y : Match) (h : AreComparable E V (tree_of (Case x) ∷ []) (tree_of (Case y) ∷ [])) where
    pub params_of : AreComparable E V x.params y.params
    params_of = parameters_comparable E V x.family y.family x.params y.params x.binders y.binders x.ret y.ret x.scrut y.scrut x.branches y.branches h

    pub predicates_of : AreComparable E V (x.ret ∷ []) (y.ret ∷ [])
    predicates_of = predicates_comparable E V x.family y.family x.params y.params x.binders y.binders x.ret y.ret x.scrut y.scrut x.branches y.branches h

    pub scrutinees_of : AreComparable E V (x.scrut ∷ []) (y.scrut ∷ [])
    scrutinees_of = scrutinees_comparable E V x.family y.family x.params y.params x.binders y.binders x.ret y.ret x.scrut y.scrut x.branches y.branches h

    pub arms_of_both : (i : ℕ) (b b' : Branch) → i < length x.branches → i < length y.branches → b ≡ get_or x.branches i b → b' ≡ get_or y.branches i b' →
        AreComparable E V (b.body ∷ []) (b'.body ∷ [])
    arms_of_both i b b' k l p q =
        branches_comparable E V x.family y.family x.params y.params x.binders y.binders x.ret y.ret x.scrut y.scrut x.branches y.branches h i b b' k l p q

  module _ (i j : ℕ) (ds es : List Def) (h : AreComparable E V (tree_of (Fix ds i) ∷ []) (tree_of (Fix es j) ∷ [])) where
    pub types_of_both : AreComparable E V (type_list ds) (type_list es)
    types_of_both = types_comparable E V i j _ _ (types_of ds) (bodies_of (length ds) ds) (types_of es) (bodies_of (length es) es) h

    pub bodies_of_both : AreComparable E V (body_list ds) (body_list es)
    bodies_of_both = bodies_comparable E V i j _ _ (types_of ds) (bodies_of (length ds) ds) (types_of es) (bodies_of (length es) es) h

-- items of lists that are walked

pub mapped_within : {A B : Type 0} (f : A → B) (xs : List A) (i : ℕ) → i < length xs → i < length (map f xs)
mapped_within f xs i h = omega (arith, length-map xs f)

pub mapped_least : {A B X Y : Type 0} (f : A → B) (g : X → Y) (xs : List A) (ys : List X) (i : ℕ) → min (length xs) (length ys) ≤ i → min (length (map f xs)) (length (map g ys)) ≤ i
mapped_least f g xs ys i h = omega (arith, length-map xs f, length-map ys g)

pub mapped_at : {A B : Type 0} (f : A → B) (xs : List A) (i : ℕ) (x : A) → i < length xs → x ≡ get_or xs i x → f x ≡ get_or (map f xs) i (f x)
mapped_at f [] i x h e = absurd (omega arith)
mapped_at f (y ∷ xs) zero x h e = ap f e
mapped_at f (y ∷ xs) (suc i) x h e = mapped_at f xs i x (omega arith) e
