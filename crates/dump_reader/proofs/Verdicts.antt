-- What an answer says that is the verdict on its text.
use Rattle.std.proofs.Common.{◌≡◌, ◌≢◌, ◌⊎◌, inl, inr, ℕ, List, [], ◌∷◌, length, take, Result, Ok, Err, IfOk, IfErr, refl, sym, ap, ap₂, subst, ◌∙◌}
use Rattle.sexp_reader.specs.Lex.{tokens_of}
use Rattle.dump_grammar.specs.declared.refusal.Foreign.{Foreign}
use Rattle.dump_grammar.specs.declared.refusal.Limit.{Limit}
use Rattle.dump_grammar.specs.declared.refusal.ReadRefusal.{ReadRefusal}
use Rattle.dump_grammar.specs.declared.refusal.ReadRefusal.TheVariants as refusals
use Rattle.dump_grammar.specs.Named.{NamedEnv}
use Rattle.dump_grammar.specs.Table.{VEnv}
use Rattle.dump_grammar.specs.Environments as grammar
use Rattle.dump_grammar.specs.Environments.{Dump, dump, env_of}
use Rattle.dump_grammar.specs.Within.{DumpIsWithin}
use Rattle.dump_grammar.specs.Judge.{texts, Verdict, Fine, Refuse}
use Rattle.dump_grammar.specs.Law.{SyntaxAt, UnsupportedAt, LimitAt}
use Rattle.dump_grammar.specs.FirstRefusal.{IsFirstRefusal}
use Rattle.dump_grammar.proofs.Law.{judged}
use Rattle.dump_grammar.proofs.Within.{limited}
use Rattle.dump_grammar.proofs.FirstRefusal.{first_refusal}
use Rattle.dump_parser.specs.Reading.{Goes}
use Rattle.dump_reader.specs.declared.environment.RawEnv.{RawEnv}
use Rattle.dump_reader.specs.Formed.{IsFormedEnv}
use Rattle.dump_reader.specs.NumberedEnvironment.{numbered}
use Rattle.dump_reader.specs.Front.{front_bytes}
use Rattle.dump_reader.specs.Spelling.{Spells, verdict_on, IsFrontVerdict, IsReadAs, IsVerdict}
use Rattle.dump_reader.proofs.Spelled.{spelled-formed}

-- ---- the tree of a text

fine-spells : (bytes : List ℕ) (env : NamedEnv) → verdict_on bytes ≡ Fine (VEnv env ∷ []) → grammar.SpellsEnv (texts (tokens_of bytes)) env
fine-spells bytes env e =
    let k = judged.fine (length bytes) (tokens_of bytes) (VEnv env ∷ []) e in
    let same : k.0 ≡ env = cc in
    subst (λ (n : NamedEnv). grammar.SpellsEnv (texts (tokens_of bytes)) n) same k.2

pub fine-formed : (bytes : List ℕ) (env : NamedEnv) → verdict_on bytes ≡ Fine (VEnv env ∷ []) → IsFormedEnv env
fine-formed bytes env e = spelled-formed bytes env (fine-spells bytes env e)

-- a refusal of a part is one of the environment
pub refused : {X : Type 0} (bytes : List ℕ) (r : ReadRefusal) (x : Result RawEnv ReadRefusal) → x ≡ Err r → (h : X → Verdict) (v : Verdict) → verdict_on bytes ≡ v → Goes (Err r) h v → IsVerdict bytes x
refused bytes refusals.Memory x e h v same goes = subst (λ (y : Result RawEnv ReadRefusal). IsVerdict bytes y) (sym e) tt
refused bytes (refusals.Syntax o) x e h v same goes = subst (λ (y : Result RawEnv ReadRefusal). IsVerdict bytes y) (sym e) (same ∙ goes)
refused bytes (refusals.Unsupported w o) x e h v same goes = subst (λ (y : Result RawEnv ReadRefusal). IsVerdict bytes y) (sym e) (same ∙ goes)
refused bytes (refusals.Limit l o) x e h v same goes = subst (λ (y : Result RawEnv ReadRefusal). IsVerdict bytes y) (sym e) (same ∙ goes)

-- ---- what follows

pub spelled : (bytes : List ℕ) (x : Result RawEnv ReadRefusal) → IsVerdict bytes x → IfOk x (λ env. Spells bytes env)
spelled bytes (Ok env) h = (h.0, fine-spells bytes h.0 h.1, h.2)
spelled bytes (Err r) h = tt

refuses : (bytes : List ℕ) (r : ReadRefusal) → IsVerdict bytes (Err r) → r ≢ refusals.Memory → verdict_on bytes ≡ Refuse r
refuses bytes refusals.Memory h n = absurd (n refl)
refuses bytes (refusals.Syntax o) h n = h
refuses bytes (refusals.Unsupported w o) h n = h
refuses bytes (refusals.Limit l o) h n = h

pub first : (bytes : List ℕ) (x : Result RawEnv ReadRefusal) → IsVerdict bytes x → IfErr x (λ r. r ≢ refusals.Memory → IsFirstRefusal (length bytes) (tokens_of bytes) r)
first bytes (Ok env) h = tt
first bytes (Err r) h = λ n. first_refusal.refuses (length bytes) (tokens_of bytes) r (refuses bytes r h n)

at-refusal : (bytes : List ℕ) (x : Result RawEnv ReadRefusal) (r : ReadRefusal) → IsVerdict bytes x → x ≡ Err r → r ≢ refusals.Memory → verdict_on bytes ≡ Refuse r
at-refusal bytes x r h e n = refuses bytes r (subst (λ (y : Result RawEnv ReadRefusal). IsVerdict bytes y) e h) n

module _ (bytes : List ℕ) (x : Result RawEnv ReadRefusal) (h : IsVerdict bytes x) where
  pub syntax : (o : ℕ) → x ≡ Err (refusals.Syntax o) → SyntaxAt (length bytes) (tokens_of bytes) o
  syntax o e = judged.syntax (length bytes) (tokens_of bytes) o (at-refusal bytes x (refusals.Syntax o) h e (λ n. cc))

  pub unsupported : (w : Foreign) (o : ℕ) → x ≡ Err (refusals.Unsupported w o) → UnsupportedAt (tokens_of bytes) w o
  unsupported w o e = judged.unsupported (length bytes) (tokens_of bytes) w o (at-refusal bytes x (refusals.Unsupported w o) h e (λ n. cc))

  pub limit : (l : Limit) (o : ℕ) → x ≡ Err (refusals.Limit l o) → LimitAt (tokens_of bytes) l o
  limit l o e = judged.limit (length bytes) (tokens_of bytes) l o (at-refusal bytes x (refusals.Limit l o) h e (λ n. cc))

either : (bytes : List ℕ) (x : Result RawEnv ReadRefusal) (env : NamedEnv) → IsVerdict bytes x → verdict_on bytes ≡ Fine (VEnv env ∷ []) → (x ≡ Ok (numbered env)) ⊎ (x ≡ Err refusals.Memory)
either bytes (Ok raw) env h e = (let same : h.0 ≡ env = cc in inl (ap Ok (h.2 ∙ ap numbered same)))
either bytes (Err refusals.Memory) env h e = inr refl
either bytes (Err (refusals.Syntax o)) env h e = absurd cc
either bytes (Err (refusals.Unsupported w o)) env h e = absurd cc
either bytes (Err (refusals.Limit l o)) env h e = absurd cc

pub complete : (bytes : List ℕ) (x : Result RawEnv ReadRefusal) → IsVerdict bytes x → (d : Dump) → texts (tokens_of bytes) ≡ dump d [] → DumpIsWithin d → (x ≡ Ok (numbered (env_of d))) ⊎ (x ≡ Err refusals.Memory)
complete bytes x h d e w = either bytes x (env_of d) h (limited.within (length bytes) (tokens_of bytes) d e w)

-- ---- of the front of a text

module _ (bytes : List ℕ) (read : RawEnv × ℕ) (h : IsFrontVerdict bytes (Ok read)) where
  pub front_spelled : Spells (take read.1 bytes) read.0
  front_spelled = subst (λ n. Spells (take n bytes) read.0) (sym h.0) (spelled (front_bytes bytes) (Ok read.0) h.1)

  pub front_complete : (d : Dump) → texts (tokens_of (front_bytes bytes)) ≡ dump d [] → DumpIsWithin d → IsReadAs bytes d (Ok read)
  front_complete d e w = elim (complete (front_bytes bytes) (Ok read.0) h.1 d e w) [
    | inl is ↦ (let same : read.0 ≡ numbered (env_of d) = cc in inl (ap₂ (λ (a : RawEnv) (n : ℕ). Ok (a, n)) same h.0))
    | inr f ↦ absurd cc
  ]
