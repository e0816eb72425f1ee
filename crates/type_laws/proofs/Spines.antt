-- Applications to several arguments: the arguments have the types of the telescope, and what is left of the function's type is below the whole's type.
use Rattle.std.proofs.Common.{◌≡◌, ℕ, zero, suc, List, [], ◌∷◌, None, length, refl, sym, arith}
use Rattle.trees.proofs.Fusion.{substitute-rename, substitute-substitute}
use Rattle.trees.proofs.Put.{substitute_same}
use Rattle.pc_terms.specs.Syntax.{Slot, Term, Children, Terms, Rel, Node, End, Child, Group, Done, Next, Prod, App, over, overs, first, put, put_all, substitute, substitute_children, substitute_terms, apply, slots}
use Rattle.calculus_rules.specs.Environment.{Env}
use Rattle.calculus_rules.specs.declared.entry.Entry.TheVariants.{Assumed}
use Rattle.calculus_rules.specs.Context.{Context, Values, values, under, extend}
use Rattle.calculus_rules.specs.Conversion.{Equal, same, back, inside, EqualChildren, end, and, group, EqualTerms, done, next, Below, equal}
use Rattle.calculus_rules.specs.Instances.{products, entries_at}
use Rattle.calculus_rules.specs.Typing.{bare, Types, app, conv, TypesAll, no_terms, term, Entries, no_entries, entry}
use Rattle.calculus_rules.specs.Accepted.{IsAccepted}
use Rattle.typing_laws.specs.Substituting.{Fits}
use Rattle.typing_laws.proofs.ClosedEnv.{ClosedEnv}
use Rattle.typing_laws.proofs.AcceptedClosed.{accepted_closed}
use Rattle.typing_laws.proofs.Traversal.{below_at, equal_at, types_at, substitute_types, substitute_below}
use Rattle.typing_laws.proofs.RenamingAndPutting.{PutsEntries, putting, puts_one, weaken_equal}
use Rattle.typing_laws.proofs.PuttingAll.{puts_first, puts_all, puts_none}
use Rattle.typing_laws.proofs.Generating.{of_app, of_apply}
use Rattle.type_laws.specs.Contexts.{HasSort, IsContext}
use Rattle.equality_laws.specs.Laws.{EqualEach, no_terms, a_term}
use Rattle.equality_laws.proofs.FromEquality.{put_over}
use Rattle.type_laws.proofs.Apart.{products_below}

-- a telescope's terms put in at once
pub arguments_put : (E : Env) → IsAccepted E → (c : Context) (As xs : List Term) (t T : Term) → TypesAll bare E c Rel xs As → Types bare E (extend c As) t T →
    Types bare E c (substitute (put_all xs Rel) t) (substitute (put_all xs Rel) T)
arguments_put E h c As xs t T a d = substitute_types (putting E (accepted_closed E h)) (accepted_closed E h) d (put_all xs Rel) c (puts_all (puts_none c) a)

pub record SpineTypes (E : Env) (c : Context) (As xs : List Term) (T U : Term) : Type 0 where
  pub arguments : TypesAll bare E c Rel xs As
  pub below : Below E (values c) (substitute (put_all xs Rel) T) U

-- the same from the middle of a spine on, where terms are put in for the entries before
record SpineFrom (E : Env) (c : Context) (s : ℕ → Term) (As xs : List Term) (T U : Term) : Type 0 where
  arguments : TypesAll bare E c s xs As
  below : Below E (values c) (substitute (put_all xs s) T) U

-- an argument has the type of its entry, whose sort it has where terms are put in
argument_fits : (E : Env) → IsAccepted E → (c d : Context) (s : ℕ → Term) (A x A' : Term) → PutsEntries E s d c → HasSort E d A → Equal E (values c) (substitute s A) A' → Types bare E c x A' →
    Types bare E c x (substitute s A)
argument_fits E h c d s A x A' g (u, p) e q =
    conv q (equal (back e)) (substitute_types (putting E (accepted_closed E h)) (accepted_closed E h) p s c g)

-- the function with one argument more
next_types : (E : Env) → IsAccepted E → (c : Context) (s : ℕ → Term) (f x A P W : Term) →
    ((W : Term) → Types bare E c f W → Below E (values c) (Prod (substitute s A) (substitute (over s) P)) W) → Types bare E c x (substitute s A) → Types bare E c (App f x) W →
    Below E (values c) (substitute (first x s) P) W
next_types E h c s f x A P W g q d =
    let r = of_app d in
    let b = products_below E h (values c) (substitute s A) (substitute (over s) P) r.domain r.codomain (g (Prod r.domain r.codomain) r.function) in
    let fits : Fits E c (Assumed (substitute s A)) x = record { has_type = q; equals = λ v e. absurd (cc) } in
    Below.chain (below_at (put_over x s P) refl
    (substitute_below (putting E (accepted_closed E h)).carries (accepted_closed E h) b.codomains (put x) (values c) (puts_one fits).at_values)) r.below

spine_from : (E : Env) → IsAccepted E → (c d : Context) (s : ℕ → Term) (f : Term) (As xs : List Term) (T U : Term) → PutsEntries E s d c → Entries bare E d As →
    ((W : Term) → Types bare E c f W → Below E (values c) (substitute s (products As T)) W) → length xs ≡ length As → Types bare E c (apply f xs) U → SpineFrom E c s As xs T U
spine_from E h c d s f [] [] T U g no_entries b l p = record { arguments = no_terms; below = b U p }
spine_from E h c d s f (A ∷ As) (x ∷ xs) T U g (entry {s = u} e es) b l p =
    let (W, o) = of_apply xs (App f x) p in
    let r = of_app o in
    let z = products_below E h (values c) (substitute s A) (substitute (over s) (products As T)) r.domain r.codomain (b (Prod r.domain r.codomain) r.function) in
    let q : Types bare E c x (substitute s A) = argument_fits E h c d s A x r.domain g (u, e) z.domains r.argument in
    let rest = spine_from E h c (Assumed A ∷ d) (first x s) (App f x) As xs T U (puts_first g q) es (λ W w. next_types E h c s f x A (products As T) W b q w) (omega arith) p in
    record { arguments = term q rest.arguments; below = rest.below }
spine_from E h c d s f [] (x ∷ xs) T U g es b l p = absurd (omega arith)
spine_from E h c d s f (A ∷ As) [] T U g es b l p = absurd (omega arith)

-- every type of the function is above the products; the telescope's entries have sorts
pub spine_types : (E : Env) → IsAccepted E → (c : Context) (f : Term) (As xs : List Term) (T U : Term) → IsContext E c → Entries bare E c As →
    ((W : Term) → Types bare E c f W → Below E (values c) (products As T) W) → length xs ≡ length As → Types bare E c (apply f xs) U → SpineTypes E c As xs T U
spine_types E h c f As xs T U k es g l d =
    let r = spine_from E h c c Rel f As xs T U (puts_none c) es (λ W w. below_at (sym (substitute_same (products As T))) refl (g W w)) l d in
    record { arguments = r.arguments; below = r.below }

pub typed_from : (E : Env) → IsAccepted E → (c : Context) (s : ℕ → Term) (f : Term) (As xs : List Term) (T : Term) → Types bare E c f (substitute s (products As T)) → TypesAll bare E c s xs As →
    Types bare E c (apply f xs) (substitute (put_all xs s) T)
typed_from E h c s f [] [] T d no_terms = d
typed_from E h c s f (A ∷ As) (x ∷ xs) T d (term p ps) =
    typed_from E h c (first x s) (App f x) As xs T (types_at refl (put_over x s (products As T)) (app d p)) ps
typed_from E h c s f [] (x ∷ xs) T d a = elim a [ ]
typed_from E h c s f (A ∷ As) [] T d a = elim a [ ]

-- and back
pub spine_typed : (E : Env) → IsAccepted E → (c : Context) (f : Term) (As xs : List Term) (T : Term) → Types bare E c f (products As T) → TypesAll bare E c Rel xs As →
    Types bare E c (apply f xs) (substitute (put_all xs Rel) T)
spine_typed E h c f As xs T d a = typed_from E h c Rel f As xs T (types_at refl (sym (substitute_same (products As T))) d) a

-- substitutions that are equal at each variable
abbrev pub EqualAt : Env → Values → (ℕ → Term) → (ℕ → Term) → Type 0
EqualAt E V s q = (i : ℕ) → Equal E V (s i) (q i)

pub equal_over : (E : Env) → ClosedEnv E → (V : Values) (s q : ℕ → Term) → EqualAt E V s q → EqualAt E (None ∷ V) (over s) (over q)
equal_over E closed V s q g zero = same
equal_over E closed V s q g (suc i) = weaken_equal closed (g i) None

pub equal_under : (E : Env) → ClosedEnv E → (n : ℕ) (V : Values) (s q : ℕ → Term) → EqualAt E V s q → EqualAt E (under n V) (overs n s) (overs n q)
equal_under E closed zero V s q g = g
equal_under E closed (suc n) V s q g = equal_over E closed (under n V) (overs n s) (overs n q) (equal_under E closed n V s q g)

mutual
  pub equal_put : (E : Env) → ClosedEnv E → (t : Term) (V : Values) (s q : ℕ → Term) → EqualAt E V s q → Equal E V (substitute s t) (substitute q t)
  equal_put E closed (Rel i) V s q g = g i
  equal_put E closed (Node l ts) V s q g = inside (equal_put_children E closed (slots l) ts V s q g)

  equal_put_children : (E : Env) → ClosedEnv E → (ss : List Slot) (ts : Children ss) (V : Values) (s q : ℕ → Term) → EqualAt E V s q →
      EqualChildren E V ss (substitute_children s ts) (substitute_children q ts)
  equal_put_children E closed ss End V s q g = end
  equal_put_children E closed ss (Child {n} t ts) V s q g =
      and (equal_put E closed t (under n V) (overs n s) (overs n q) (equal_under E closed n V s q g)) (equal_put_children E closed _ ts V s q g)
  equal_put_children E closed ss (Group us ts) V s q g = group (equal_put_terms E closed us V s q g) (equal_put_children E closed _ ts V s q g)

  equal_put_terms : (E : Env) → ClosedEnv E → (ts : Terms) (V : Values) (s q : ℕ → Term) → EqualAt E V s q → EqualTerms E V (substitute_terms s ts) (substitute_terms q ts)
  equal_put_terms E closed Done V s q g = done
  equal_put_terms E closed (Next n t ts) V s q g =
      next (equal_put E closed t (under n V) (overs n s) (overs n q) (equal_under E closed n V s q g)) (equal_put_terms E closed ts V s q g)

pub each_put : (E : Env) (V : Values) (xs ys : List Term) (s q : ℕ → Term) → EqualEach E V xs ys → EqualAt E V s q → EqualAt E V (put_all xs s) (put_all ys q)
each_put E V xs ys s q no_terms g = g
each_put E V (x ∷ xs) (y ∷ ys) s q (a_term e es) g = each_put E V xs ys (first x s) (first y q) es next_one
  where
    next_one : EqualAt E V (first x s) (first y q)
    next_one zero = e
    next_one (suc i) = g i

-- equal terms put in
pub put_equal : (E : Env) → IsAccepted E → (c : Context) (xs ys : List Term) (t : Term) → EqualEach E (values c) xs ys →
    Equal E (values c) (substitute (put_all xs Rel) t) (substitute (put_all ys Rel) t)
put_equal E h c xs ys t e = equal_put E (accepted_closed E h) t (values c) (put_all xs Rel) (put_all ys Rel) (each_put E (values c) xs ys Rel Rel e (λ i. same))

arguments_equal : (E : Env) → IsAccepted E → (c d : Context) (As xs : List Term) (s p r : ℕ → Term) → PutsEntries E r d c → EqualAt E (values c) (λ i. substitute r (p i)) s →
    Entries bare E d (entries_at p As) → TypesAll bare E c s xs As → TypesAll bare E c r xs (entries_at p As)
arguments_equal E h c d [] xs s p r g e es no_terms = no_terms
arguments_equal E h c d (A ∷ As) (x ∷ xs) s p r g e (entry u us) (term a rest) =
    let q : Types bare E c x (substitute r (substitute p A)) =
    conv a (equal (equal_at refl (sym (substitute-substitute A p r)) (back (equal_put E (accepted_closed E h) A (values c) (λ i. substitute r (p i)) s e))))
    (substitute_types (putting E (accepted_closed E h)) (accepted_closed E h) u r c g) in
    term q (arguments_equal E h c (Assumed (substitute p A) ∷ d) As xs (first x s) (over p) (first x r) (puts_first g q) later us rest)
  where
    later : EqualAt E (values c) (λ i. substitute (first x r) (over p i)) (first x s)
    later zero = same
    later (suc i) = equal_at (sym (substitute-rename (p i) suc (first x r))) refl (e i)
arguments_equal E h c d (A ∷ As) [] s p r g e es a = elim a [ ]

-- terms of a telescope's types at some terms have its types at equal ones, where its entries have sorts there
pub arguments_at_equal : (E : Env) → IsAccepted E → (c : Context) (As ps qs xs : List Term) → IsContext E c → EqualEach E (values c) qs ps → length ps ≡ length qs →
    Entries bare E c (entries_at (put_all ps Rel) As) → TypesAll bare E c (put_all qs Rel) xs As → TypesAll bare E c Rel xs (entries_at (put_all ps Rel) As)
arguments_at_equal E h c As ps qs xs k e l es a =
    arguments_equal E h c c As xs (put_all qs Rel) (put_all ps Rel) Rel (puts_none c)
    (λ i. equal_at (sym (substitute_same (put_all ps Rel i))) refl (back (each_put E (values c) qs ps Rel Rel e (λ i. same) i))) es a
