-- Bodies of fixpoints under bindings.
use Rattle.std.proofs.Common.{◌≡◌, ℕ, zero, suc, ◌<◌, List, [], ◌∷◌, length, Some, sym, ap, ◌∙◌, subst as along, arith, slice_get, Result, Ok, Err, IfOk}
use Rattle.pc_terms.specs.declared.term.MakeFault.{MakeFault}
use Rattle.trees.proofs.Put.{substituted_term, term_at-substitute, substitute_same}
use Rattle.pc_terms.specs.declared.term.Def.{Def}
use Rattle.pc_terms.specs.Lists.{rargs_of, types_of, bodies_of}
use Rattle.pc_terms.specs.Syntax.{Term, App, Fix, Next, Done, apply, term_at, substitute, substitute_terms, overs, first}
use Rattle.pc_terms.proofs.Parts.{rargs_length}
use Rattle.redexes.specs.Redexes.{fix_body, unfold_next}
use Rattle.redexes.proofs.Unfolding.{bodies_found, unfolds_at}
use Rattle.reduce_machine.specs.Reads.{stands, read}
use Rattle.reduce_machine.specs.declared.bindings.Lazy.{Lazy}
use Rattle.trees.proofs.Exchange.{put_over}

-- the definitions of a term are as many as their recursive arguments, also under bindings
pub unfolds_read : (ds : List Def) (i : ℕ) (f : Lazy) → Fix i (rargs_of ds) (types_of ds) (bodies_of (length ds) ds) ≡ f.term → i < length (rargs_of ds) →
    (xs : List Term) (a : Term) → unfold_next (read f) xs a ≡ Some (App (apply (fix_body (read f)) xs) a)
unfolds_read ds i f e l xs a =
    let long = rargs_length ds in
    let r = bodies_found (length ds) ds i (omega (arith, long)) in
    let s = stands f.env.items in
    let t : term_at (substitute_terms s (bodies_of (length ds) ds)) i ≡ Some (length ds, substitute (overs (length ds) s) r.0) =
    term_at-substitute (bodies_of (length ds) ds) s i ∙ ap (substituted_term s) r.1 in
    along (λ h. unfold_next (substitute s h) xs a ≡ Some (App (apply (fix_body (substitute s h)) xs) a)) e
    (unfolds_at i (rargs_of ds) (substitute_terms s (types_of ds)) (substitute_terms s (bodies_of (length ds) ds)) xs a (length ds)
    (substitute (overs (length ds) s) r.0) t (sym long))

-- a single definition
single : (d : Def) (s : ℕ → Term) → substitute (first (substitute s (Fix 0 (d.rarg ∷ []) (Next 0 d.ty Done) (Next 1 d.body Done))) s) d.body
    ≡ fix_body (substitute s (Fix 0 (d.rarg ∷ []) (Next 0 d.ty Done) (Next 1 d.body Done)))
single d s = sym (put_over (substitute s (Fix 0 (d.rarg ∷ []) (Next 0 d.ty Done) (Next 1 d.body Done)) ∷ []) s d.body)

pub body_bound : (ds : List Def) (i : ℕ) (d : Def) (f l : Lazy) → Fix i (rargs_of ds) (types_of ds) (bodies_of (length ds) ds) ≡ f.term → length ds ≡ 1 →
    slice_get ds i ≡ Some d → l.term ≡ d.body → l.env.items ≡ read f ∷ f.env.items → read l ≡ fix_body (read f)
body_bound [] i d f l e n g p q = absurd (omega arith)
body_bound (x ∷ y ∷ ds) i d f l e n g p q = absurd (omega arith)
body_bound (x ∷ []) (suc i) d f l e n g p q = cc
body_bound (x ∷ []) zero d f l e n g p q =
    let s = stands f.env.items in
    let k : x ≡ d = cc in
    (λ j. substitute (stands (q j)) ((p ∙ sym (ap (λ (z : Def). z.body) k)) j))
    ∙ ap (λ t. substitute (first (substitute s t) s) x.body) (sym e)
    ∙ single x s ∙ ap (λ t. fix_body (substitute s t)) e

-- a term as it is
pub plain_read : (l : Lazy) (t : Term) → l.term ≡ t → l.env.items ≡ [] → read l ≡ t
plain_read l t p q = (λ j. substitute (stands (q j)) (p j)) ∙ substitute_same t

pub body_bound_ok : (ds : List Def) (i : ℕ) (d : Def) (f : Lazy) (r : Result Lazy MakeFault) → Fix i (rargs_of ds) (types_of ds) (bodies_of (length ds) ds) ≡ f.term → length ds ≡ 1 →
    slice_get ds i ≡ Some d → IfOk r (λ l. l.term ≡ d.body) → IfOk r (λ l. l.env.items ≡ read f ∷ f.env.items) → IfOk r (λ l. read l ≡ fix_body (read f))
body_bound_ok ds i d f (Ok l) e n g p q = body_bound ds i d f l e n g p q
body_bound_ok ds i d f (Err x) e n g p q = p
