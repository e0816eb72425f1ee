-- How answers follow rules that are done one after the other, where a limit may have been passed before them.
use Rattle.std.proofs.Common.{◌≡◌, ◌∙◌, sym, ap, refl, ℕ, ◌<◌, ◌-◌, ◌+◌, ◌||◌, inl, inr, Result, Ok, Err, IsErrAnd, IsTrue, Bool, true, false, List, [], ◌∷◌, length, subst}
use Rattle.std.proofs.lemmas.Result.{err_from_is_err_and}
use Rattle.trees.specs.Measures.{IsBeyond, IsWithin}
use Rattle.pc_terms.specs.Syntax.{Term}
use Rattle.pc_terms.specs.declared.term.MakeFault.{MakeFault}
use Rattle.pc_terms.specs.declared.term.MakeFault.TheVariants.{TooDeep as DeepTerm, Memory as NoTerm}
use Rattle.pc_rules.specs.declared.meter.Account.{Account}
use Rattle.pc_rules.specs.declared.meter.Meter.{Meter}
use Rattle.pc_rules.specs.declared.broken.Broken.{Broken}
use Rattle.pc_rules.specs.declared.stop.Stop.{Stop as StopKind}
use Rattle.pc_rules.specs.declared.stop.Stop.TheVariants.{Spent, TooDeep, Memory}
use Rattle.pc_rules.specs.declared.stop.Halt.{Halt}
use Rattle.pc_rules.specs.declared.stop.Halt.TheVariants.{Stop, Broken as Refusal}
use Rattle.pc_rules.specs.Stops.{stop_of}
use Rattle.calculus_rules.specs.declared.entry.Entry.TheVariants.{Assumed}
use Rattle.calculus_rules.specs.Environment.{Env}
use Rattle.calculus_rules.specs.Context.{Context, Values, values, under, extend}
use Rattle.pc_rules.specs.DirectedRun.{Run, Done, Act, ticked, done, refused, passing, any_beyond, bind, end_then, ticking, run_all, Leaves}
use Rattle.pc_rules.specs.DirectedComparison.{entering}
use Rattle.pc_rules.specs.Follows.{Follows, IsAfter, Answers, Halts}
use Rattle.pc_rules.proofs.Fair.{leaves_bind}
use Rattle.pc_rules.proofs.Following.{or_left, or_right, leaves_at, bind_end, bind_deep, follows_done, follows_refused, follows_passing, follows_entered, ticking-more, beyond_is, first_deep}
use Rattle.pc_rules.proofs.Meters.{after-refl, after-trans}
use Rattle.rule_laws.proofs.KeepCounts.{values_extended}
use Rattle.std.proofs.lemmas.Bool.{or_cases}
use Rattle.reduction.proofs.Beyond.{within_not_true}
use Rattle.reduce_machine.specs.Passed.{having_passed}
use Rattle.lazy_conversion.specs.Tracks.{Tracks, EitherBeyond}

carried : (a b x : Bool) → (IsTrue a → IsTrue b) → IsTrue (a || x) → IsTrue (b || x)
carried true b x f h = or_left b x (f refl)
carried false b x f h = or_right b x h

-- a limit that was passed before, or none

more_answers : {A : Type 0} (a b : Bool) (d : Run A) (r : Result A Halt) (u : Account) → (IsTrue a → IsTrue b) → Answers (having_passed a d) r u → Answers (having_passed b d) r u
more_answers a b d (Ok x) u f h = h
more_answers a b d (Err (Stop Spent)) u f h = h
more_answers a b d (Err (Stop TooDeep)) u f h = carried a b d.deep f h
more_answers a b d (Err (Stop Memory)) u f h = tt
more_answers a b d (Err (Refusal x)) u f h = h

pub passed_more : {A : Type 0} (a b : Bool) (d : Run A) (r : Result A Halt) (m0 m1 : Meter) → (IsTrue a → IsTrue b) → Follows (having_passed a d) r m0 m1 → Follows (having_passed b d) r m0 m1
passed_more a b d r m0 m1 f h = record { answer = more_answers a b d r m1.account f h.answer; after = h.after; leaves = h.leaves }

none_answers : {A : Type 0} (b : Bool) (d : Run A) (r : Result A Halt) (u : Account) → Answers d r u → Answers (having_passed b d) r u
none_answers b d (Ok x) u h = h
none_answers b d (Err (Stop Spent)) u h = h
none_answers b d (Err (Stop TooDeep)) u h = or_right b d.deep h
none_answers b d (Err (Stop Memory)) u h = tt
none_answers b d (Err (Refusal x)) u h = h

pub passed_none : {A : Type 0} (b : Bool) (d : Run A) (r : Result A Halt) (m0 m1 : Meter) → Follows d r m0 m1 → Follows (having_passed b d) r m0 m1
passed_none b d r m0 m1 h = record { answer = none_answers b d r m1.account h.answer; after = h.after; leaves = h.leaves }

-- the first part answered, and the rest follows from there

whole_deep : {A B : Type 0} (b : Bool) (d : Run A) (k : A → Account → Run B) (a : A) (u : Account) → d.end ≡ Done a u → IsTrue ((b || d.deep) || (k a u).deep) → IsTrue (b || (bind d k).deep)
whole_deep true d k a u e h = refl
whole_deep false d k a u e h = elim (or_cases d.deep (k a u).deep h) [
  | inl p ↦ first_deep d k p
  | inr p ↦ bind_deep d k a u e p
]

bound_answers : {A B : Type 0} (b : Bool) (d : Run A) (k : A → Account → Run B) (a : A) (u w : Account) (r : Result B Halt) → d.end ≡ Done a u →
    Answers (having_passed (b || d.deep) (k a u)) r w → Answers (having_passed b (bind d k)) r w
bound_answers b d k a u w (Ok x) e h = bind_end d k a u e ∙ h
bound_answers b d k a u w (Err (Stop Spent)) e h = (bind_end d k a u e ∙ h.0, h.1)
bound_answers b d k a u w (Err (Stop TooDeep)) e h = whole_deep b d k a u e h
bound_answers b d k a u w (Err (Stop Memory)) e h = tt
bound_answers b d k a u w (Err (Refusal x)) e h = bind_end d k a u e ∙ h

pub passed_bind : {A B : Type 0} (b : Bool) (d : Run A) (k : A → Account → Run B) (a : A) (r : Result B Halt) (m0 m1 m2 : Meter) → Follows (having_passed b d) (Ok a) m0 m1 →
    Follows (having_passed (b || d.deep) (k a m1.account)) r m1 m2 → Follows (having_passed b (bind d k)) r m0 m2
passed_bind b d k a r m0 m1 m2 f g =
    record {
      answer = bound_answers b d k a m1.account m2.account r f.answer g.answer;
      after = after-trans m0 m1 m2 f.after g.after;
      leaves = leaves_at (bind d k) (k a m1.account).end m2.account.left (bind_end d k a m1.account f.answer) g.leaves;
    }

-- the first part is refused or stops, and what would come then never goes back on units
first_answers : {A B : Type 0} (b : Bool) (d : Run A) (k : A → Account → Run B) (w : Account) (h : Halt) → Halts (having_passed b d) h w → Halts (having_passed b (bind d k)) h w
unfolding bind
first_answers b d k w (Stop Spent) h = (ap (λ x. end_then x (λ a u. (k a u).end)) h.0, h.1)
first_answers b d k w (Stop TooDeep) h = elim (or_cases b d.deep h) [
  | inl p ↦ or_left b _ p
  | inr p ↦ or_right b _ (or_left d.deep _ p)
]
first_answers b d k w (Stop Memory) h = tt
first_answers b d k w (Refusal x) h = ap (λ x. end_then x (λ a u. (k a u).end)) h

pub passed_err : {A B : Type 0} (b : Bool) (d : Run A) (k : A → Account → Run B) (h : Halt) (m0 m1 : Meter) → Follows (having_passed b d) (Err h) m0 m1 →
    ((a : A) (u : Account) → Leaves (k a u).end u.left) → Follows (having_passed b (bind d k)) (Err h) m0 m1
passed_err b d k h m0 m1 f q =
    record { answer = first_answers b d k m1.account h f.answer; after = f.after; leaves = leaves_bind d k m1.account.left f.leaves q }

-- the same of comparisons of terms that nobody has read
module _ {V : Values} {P : Type 0} where
  pub followed : (d : Context → Act) (r : Result (Unit {0}) Halt) (m0 m1 : Meter) → Tracks V P d r m0 m1 → (c : Context) (b : Bool) → values c ≡ V → (P → IsTrue b) →
      Follows (having_passed b (d c m0.account)) r m0 m1
  followed d r m0 m1 f c b e h = record { answer = f.each c b e h; after = f.after; leaves = f.leaves c e }

  pub tracks_by : (d : Context → Act) (r : Result (Unit {0}) Halt) (m0 m1 : Meter) → IsAfter m0 m1 →
      ((c : Context) (b : Bool) → values c ≡ V → (P → IsTrue b) → Follows (having_passed b (d c m0.account)) r m0 m1) → Tracks V P d r m0 m1
  tracks_by d r m0 m1 a f = record { after = a; each = λ c b e h. (f c b e h).answer; leaves = λ c e. (f c true e (λ p. refl)).leaves }

  pub tracks_bind : (d k : Context → Act) (r : Result (Unit {0}) Halt) (m0 m1 m2 : Meter) → Tracks V P d (Ok tt) m0 m1 → Tracks V P k r m1 m2 →
      Tracks V P (λ c u. bind (d c u) (λ _ v. k c v)) r m0 m2
  tracks_bind d k r m0 m1 m2 f g =
      tracks_by (λ c u. bind (d c u) (λ _ v. k c v)) r m0 m2 (after-trans m0 m1 m2 f.after g.after)
      (λ c b e h. passed_bind b (d c m0.account) (λ _ v. k c v) tt r m0 m1 m2 (followed d (Ok tt) m0 m1 f c b e h)
      (followed k r m1 m2 g c (b || (d c m0.account).deep) e (λ p. or_left b (d c m0.account).deep (h p))))

  pub tracks_err : (d k : Context → Act) (x : Halt) (m0 m1 : Meter) → Tracks V P d (Err x) m0 m1 → ((c : Context) (u : Account) → Leaves (k c u).end u.left) →
      Tracks V P (λ c u. bind (d c u) (λ _ v. k c v)) (Err x) m0 m1
  tracks_err d k x m0 m1 f q =
      tracks_by (λ c u. bind (d c u) (λ _ v. k c v)) (Err x) m0 m1 f.after
      (λ c b e h. passed_err b (d c m0.account) (λ _ v. k c v) x m0 m1 (followed d (Err x) m0 m1 f c b e h) (λ _. q c))

  -- a limit is passed in more cases
  pub tracks_where : {Q : Type 0} (d : Context → Act) (r : Result (Unit {0}) Halt) (m0 m1 : Meter) → (P → Q) → Tracks V P d r m0 m1 → Tracks V Q d r m0 m1
  tracks_where d r m0 m1 w f = record { after = f.after; each = λ c b e h. f.each c b e (λ p. h (w p)); leaves = f.leaves }

  -- what is followed in each context
  pub tracks_each : (d : Context → Act) (r : Result (Unit {0}) Halt) (m0 m1 : Meter) → IsAfter m0 m1 → ((c : Context) → Follows (d c m0.account) r m0 m1) → Tracks V P d r m0 m1
  tracks_each d r m0 m1 a f = tracks_by d r m0 m1 a (λ c b e h. passed_none b (d c m0.account) r m0 m1 (f c))

  -- other runs that are the same in each context
  pub tracks_same : (d k : Context → Act) (r : Result (Unit {0}) Halt) (m0 m1 : Meter) → ((c : Context) → k c m0.account ≡ d c m0.account) → Tracks V P d r m0 m1 → Tracks V P k r m0 m1
  tracks_same d k r m0 m1 s f =
      record {
        after = f.after;
        each = λ c b e h. subst (λ x. Answers (having_passed b x) r m1.account) (sym (s c)) (f.each c b e h);
        leaves = λ c e. subst (λ x. Leaves x.end m1.account.left) (sym (s c)) (f.leaves c e);
      }

  pub tracks_done : (m : Meter) → Tracks V P (λ c u. done tt u) (Ok tt) m m
  tracks_done m = tracks_each (λ c u. done tt u) (Ok tt) m m (after-refl m) (λ c. follows_done tt m)

  pub tracks_refused : (x : Broken) (m : Meter) → Tracks V P (λ c u. refused x u) (Err (Refusal x)) m m
  tracks_refused x m = tracks_each (λ c u. refused x u) (Err (Refusal x)) m m (after-refl m) (λ c. follows_refused x m)

  -- want of memory, and terms beyond the limits
  pub tracks_memory : (d : Context → Act) (m : Meter) → ((c : Context) (u : Account) → Leaves (d c u).end u.left) → Tracks V P d (Err (Stop Memory)) m m
  tracks_memory d m l = record { after = after-refl m; each = λ c b e h. tt; leaves = λ c e. l c m.account }

  pub tracks_fault : (d : Context → Act) (f : MakeFault) (m : Meter) → (f ≡ DeepTerm → P) → ((c : Context) (u : Account) → Leaves (d c u).end u.left) →
      Tracks V P d (Err (Stop (stop_of f))) m m
  tracks_fault d DeepTerm m w l =
      record { after = after-refl m; each = λ c b e h. or_left b (d c m.account).deep (h (w refl)); leaves = λ c e. l c m.account }
  tracks_fault d NoTerm m w l = tracks_memory d m l

  -- a `?` gives on that there is no memory
  pub tracks_no_memory : (d : Context → Act) (s : StopKind) (r : Result (Unit {0}) Halt) (m : Meter) → s ≡ Memory → IsErrAnd r (λ x. x ≡ Stop s) →
      ((c : Context) (u : Account) → Leaves (d c u).end u.left) → Tracks V P d r m m
  tracks_no_memory d s r m w e l =
      let p = err_from_is_err_and r e in
      rw (p.1, p.2, w) (tracks_memory d m l)

  -- in longer contexts
  pub tracks_assumed : (A : Term) (d : Context → Act) (r : Result (Unit {0}) Halt) (m0 m1 : Meter) → Tracks (under 1 V) P d r m0 m1 → Tracks V P (λ c. d (Assumed A ∷ c)) r m0 m1
  tracks_assumed A d r m0 m1 f =
      record {
        after = f.after;
        each = λ c b e h. f.each (Assumed A ∷ c) b (ap (λ W. under 1 W) e) h;
        leaves = λ c e. f.leaves (Assumed A ∷ c) (ap (λ W. under 1 W) e);
      }

  pub tracks_entering : (E : Env) (As : List Term) (n : ℕ) (d : Context → Act) (r : Result (Unit {0}) Halt) (m0 m1 : Meter) → length As ≡ n → Tracks (under n V) P d r m0 m1 →
      Tracks V P (λ c. entering c As d) r m0 m1
  tracks_entering E As n d r m0 m1 l f =
      tracks_by (λ c. entering c As d) r m0 m1 f.after
      (λ c b e h. passed_bind b (passing (any_beyond As) m0.account) (λ _ v. d (extend c As) v) tt r m0 m0 m1
      (passed_none b (passing (any_beyond As) m0.account) (Ok tt) m0 m0 (follows_passing (any_beyond As) m0))
      (record {
        answer = f.each (extend c As) (b || any_beyond As) (values_extended E c As ∙ (λ j. under (l j) (e j))) (λ p. or_left b (any_beyond As) (h p));
        after = f.after;
        leaves = f.leaves (extend c As) (values_extended E c As ∙ (λ j. under (l j) (e j)));
      }))

  -- each of a list, the first first
  pub tracks_none : (m : Meter) → Tracks V P (λ c. run_all []) (Ok tt) m m
  unfolding run_all
  tracks_none m = tracks_done m

  pub tracks_next : (d : Context → Act) (ds : Context → List Act) (r : Result (Unit {0}) Halt) (m0 m1 m2 : Meter) → Tracks V P d (Ok tt) m0 m1 →
      Tracks V P (λ c. run_all (ds c)) r m1 m2 → Tracks V P (λ c. run_all (d c ∷ ds c)) r m0 m2
  unfolding run_all
  tracks_next d ds r m0 m1 m2 f g = tracks_bind d (λ c. run_all (ds c)) r m0 m1 m2 f g

  pub tracks_first_err : (d : Context → Act) (ds : Context → List Act) (x : Halt) (m0 m1 : Meter) → Tracks V P d (Err x) m0 m1 →
      ((c : Context) (u : Account) → Leaves (run_all (ds c) u).end u.left) → Tracks V P (λ c. run_all (d c ∷ ds c)) (Err x) m0 m1
  unfolding run_all
  tracks_first_err d ds x m0 m1 f q = tracks_err d (λ c. run_all (ds c)) x m0 m1 f q

-- a unit, one more rule that stands, the rest, and the rule is left
pub passed_entered : (b : Bool) (go : Act) (r : Result (Unit {0}) Halt) (m0 m1 m2 m3 m4 : Meter) → 0 < m0.account.left → m1.account ≡ ticked m0.account → m1.nest ≡ m0.nest →
    m2.account ≡ m1.account → m2.nest ≡ m1.nest + 1 → Follows (having_passed b (go m2.account)) r m2 m3 → m4.account ≡ m3.account → m4.nest ≡ m3.nest - 1 →
    Follows (having_passed b (ticking m0.account go)) r m0 m4
passed_entered b go r m0 m1 m2 m3 m4 h e n e' n' f e'' n'' =
    let g = follows_entered (λ v. having_passed b (go v)) r m0 m1 m2 m3 m4 h e n e' n' f e'' n'' in
    rw (ticking-more m0.account go h) (rw (ticking-more m0.account (λ v. having_passed b (go v)) h) at g)

-- terms that are within the limits

not_beyond : (t : Term) → IsWithin t → IsBeyond t → ⊥
not_beyond t w h = within_not_true t w (beyond_is t h)

plain_answers : (d : Run (Unit {0})) (r : Result (Unit {0}) Halt) (u : Account) → Answers (having_passed false d) r u → Answers d r u
plain_answers d (Ok x) u h = h
plain_answers d (Err (Stop Spent)) u h = h
plain_answers d (Err (Stop TooDeep)) u h = h
plain_answers d (Err (Stop Memory)) u h = tt
plain_answers d (Err (Refusal x)) u h = h

pub tracked_within : {V : Values} (d : Context → Act) (r : Result (Unit {0}) Halt) (m0 m1 : Meter) (a b : Term) → Tracks V (EitherBeyond a b) d r m0 m1 → IsWithin a → IsWithin b →
    (c : Context) → values c ≡ V → Follows (d c m0.account) r m0 m1
tracked_within d r m0 m1 a b f v w c e = record { answer = plain_answers (d c m0.account) r m1.account (f.each c false e none); after = f.after; leaves = f.leaves c e }
  where
    none : EitherBeyond a b → IsTrue false
    none (inl h) = absurd (not_beyond a v h)
    none (inr h) = absurd (not_beyond b w h)
