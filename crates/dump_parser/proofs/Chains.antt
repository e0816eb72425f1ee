-- Calls one after another, where the tactics find the chain too long.
use Rattle.std.proofs.Common.{◌≡◌, ℕ, ◌<◌, ◌≤◌, List, [], ◌∷◌, ◌++◌, length, Option, None, Result, Ok, Err, sym, ap, subst, ◌∙◌, arith}
use Rattle.std.specs.Prelude.{OnOk}
use Rattle.sexp_reader.specs.Stream.{source, stream}
use Rattle.sexp_reader.specs.declared.Tokens.{Tokens}
use Rattle.dump_grammar.specs.declared.refusal.Limit.{Limit}
use Rattle.dump_grammar.specs.declared.refusal.ReadRefusal.{ReadRefusal}
use Rattle.dump_grammar.specs.declared.refusal.ReadRefusal.TheVariants as refusals
use Rattle.dump_grammar.specs.Table.{Value, Item, IList, Kind, next}
use Rattle.dump_grammar.specs.Limits.{member_over}
use Rattle.dump_grammar.specs.Judge.{Verdict}
use Rattle.dump_parser.specs.declared.list.Member.TheVariants as members
use Rattle.dump_parser.specs.Ending.{Ends}
use Rattle.dump_parser.specs.Reading.{judged, limited, Goes, Reads, Leads, ReadsMember}

goes-after : {X : Type 0} (r : Result X ReadRefusal) (f : X → Verdict) (v w : Verdict) → v ≡ w → Goes r f w → Goes r f v
goes-after (Ok x) f v w e g = e ∙ g
goes-after (Err refusals.Memory) f v w e g = tt
goes-after (Err (refusals.Syntax o)) f v w e g = e ∙ g
goes-after (Err (refusals.Unsupported u o)) f v w e g = e ∙ g
goes-after (Err (refusals.Limit l o)) f v w e g = e ∙ g

err-after : {X Y : Type 0} (r : ReadRefusal) (f : X → Verdict) (h : Y → Verdict) (v w : Verdict) → v ≡ w → Goes (Err r) h w → Goes (Err r) f v
err-after refusals.Memory f h v w e g = tt
err-after (refusals.Syntax o) f h v w e g = e ∙ g
err-after (refusals.Unsupported u o) f h v w e g = e ∙ g
err-after (refusals.Limit l o) f h v w e g = e ∙ g

shorter-after : {X : Type 0} (r : Result X ReadRefusal) (a b c : ℕ) → b ≤ c → OnOk r (a < b) → OnOk r (a < c)
shorter-after (Ok x) a b c le p = omega arith
shorter-after (Err e) a b c le p = tt

-- a refusal that is handed on
pub goes-err : {X Y : Type 0} (r : Result X ReadRefusal) (e : ReadRefusal) → r ≡ Err e → (f : X → Verdict) (h : Y → Verdict) (v w : Verdict) → v ≡ w → Goes (Err e) h w → Goes r f v
goes-err {X} r e q f h v w same goes = subst (λ (r : Result X ReadRefusal). Goes r f v) (sym q) (err-after e f h v w same goes)

pub end-goes : (e : ReadRefusal) (t : Tokens) (vs : List Value) (h : Unit {0} → Verdict) → Ends (Err e) t → Goes (Err e) h (judged t [] vs)
end-goes refusals.Memory t vs h ends = tt
end-goes (refusals.Syntax o) t vs h ends = ends vs
end-goes (refusals.Unsupported u o) t vs h ends = ends vs
end-goes (refusals.Limit l o) t vs h ends = ends vs

-- the verdict in other words
pub goes-as : {X : Type 0} (r : Result X ReadRefusal) (f g : X → Verdict) (v : Verdict) → ((x : X) → f x ≡ g x) → Goes r f v → Goes r g v
goes-as (Ok x) f g v same goes = goes ∙ same x
goes-as (Err refusals.Memory) f g v same goes = tt
goes-as (Err (refusals.Syntax o)) f g v same goes = goes
goes-as (Err (refusals.Unsupported u o)) f g v same goes = goes
goes-as (Err (refusals.Limit l o)) f g v same goes = goes

-- a last call that gives the result
pub reads-after : {X : Type 0} (r : Result X ReadRefusal) (old mid new : Tokens) (is js : List Item) (given before : List Value) (f : X → List Value → List Value) →
    source mid ≡ source old → length (stream mid) ≤ length (stream old) →
    ((k : List Item) (vs : List Value) → judged old (is ++ k) (given ++ vs) ≡ judged mid (js ++ k) (before ++ vs)) →
    Reads r mid new js before f → Reads r old new is given f
reads-after r old mid new is js given before f same short step reads = record {
  same = reads.same ∙ same;
  shorter = shorter-after r _ _ _ short reads.shorter;
  goes = λ k vs. goes-after r (λ x. judged new k (f x vs)) _ _ (step k vs) (reads.goes k vs);
}

-- where a call is reached: what is to come, and the values
abbrev pub Reaches : (old mid : Tokens) (is js : List Item) (given before : List Value) → Type 0
Reaches old mid is js given before = (k : List Item) (vs : List Value) → (k' : List Item) × (vs' : List Value) × (judged old (is ++ k) (given ++ vs) ≡ judged mid (js ++ k') (before ++ vs'))

-- the refusal of a call on the way
pub reads-err : {X Y : Type 0} (r : Result X ReadRefusal) (e : ReadRefusal) → r ≡ Err e → (old mid new : Tokens) (is js : List Item) (given before : List Value) (f : X → List Value → List Value) (h : Y → List Value → List Value) →
    source mid ≡ source old → Reaches old mid is js given before → Reads (Err e) mid new js before h → Reads r old new is given f
reads-err {X} r e q old mid new is js given before f h same step reads =
    let plain : Reads {X = X} (Err e) old new is given f = record {
      same = reads.same ∙ same;
      shorter = tt;
      goes = λ k vs. err-after e (λ x. judged new k (f x vs)) (λ y. judged new (step k vs).0 (h y (step k vs).1)) _ _ (step k vs).2 (reads.goes (step k vs).0 (step k vs).1);
    } in
    subst (λ (r : Result X ReadRefusal). Reads r old new is given f) (sym q) plain

pub leads-err : {X Y : Type 0} (r : Result X ReadRefusal) (e : ReadRefusal) → r ≡ Err e → (old mid new : Tokens) (is js : List Item) (given before : List Value) (rest : X → List Item) (f : X → List Value → List Value) (h : Y → List Value → List Value) →
    source mid ≡ source old → Reaches old mid is js given before → Reads (Err e) mid new js before h → Leads r old new is given rest f
leads-err {X} r e q old mid new is js given before rest f h same step reads =
    let plain : Leads {X = X} (Err e) old new is given rest f = record {
      same = reads.same ∙ same;
      shorter = tt;
      goes = λ k vs. err-after e (λ x. judged new (rest x ++ k) (f x vs)) (λ y. judged new (step k vs).0 (h y (step k vs).1)) _ _ (step k vs).2 (reads.goes (step k vs).0 (step k vs).1);
    } in
    subst (λ (r : Result X ReadRefusal). Leads r old new is given rest f) (sym q) plain

-- a member of a list is opened within the limit
pub member-opened : (old new : Tokens) (o : ℕ) (kind : Kind) (k : List Item) (vs : List Value) → ReadsMember (Ok (members.Open o)) old new → member_over kind vs ≡ None → judged old (IList kind ∷ k) vs ≡ judged new (next kind ++ k) vs
member-opened old new o kind k vs reads none = reads.goes kind k vs ∙ ap (λ (l : Option Limit). limited l o (judged new (next kind ++ k) vs)) none
