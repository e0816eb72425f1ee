-- The environment with the heads of a new block, and that a block that passes fits.
use Rattle.std.proofs.Common.{◌≡◌, ◌∙◌, sym, ℕ, Result, Ok, Err, IfOk, List, [], ◌∷◌, map}
use Rattle.universe_levels.specs.Consistency.{IsConsistent}
use Rattle.dump_reader.specs.declared.declaration.RawFamily.{RawFamily}
use Rattle.pc_terms.specs.declared.leaf.Name.{Name}
use Rattle.pc_terms.specs.Syntax.{Term}
use Rattle.calculus_rules.specs.declared.declaration.Block.{Block}
use Rattle.calculus_rules.specs.declared.declaration.Kept.TheVariants.{Heads}
use Rattle.calculus_rules.specs.declared.entry.Entry.TheVariants.{Assumed, Defined}
use Rattle.pc_rules.specs.declared.meter.Account.{Account}
use Rattle.pc_rules.specs.declared.meter.Meter.{Meter}
use Rattle.pc_rules.specs.declared.stop.Halt.{Halt}
use Rattle.calculus_rules.specs.Environment.{Env, head_of, heads_of}
use Rattle.calculus_rules.specs.Context.{Context}
use Rattle.pc_rules.specs.Lookup.{IsNew}
use Rattle.pc_rules.specs.DirectedRun.{Run, done, bind}
use Rattle.pc_rules.specs.DirectedComparison.{Test, compare}
use Rattle.pc_rules.specs.DirectedTyping.{infer, sorts_of}
use Rattle.pc_rules.specs.DirectedDeclarations.{family_heads, families_rule, with_families, with_heads, block_rule}
use Rattle.pc_rules.specs.Entailment.{test_of}
use Rattle.pc_rules.specs.Follows.{Follows}
use Rattle.pc_rules.specs.WellCounted.{AreCounted, AreCountedFamilies, IsCountedContext, IsCountedEnv}
use Rattle.rule_laws.specs.Declarations.{BlockFormed, IsCheckedBlock}
use Rattle.rule_laws.proofs.Extending.{FindsAs, counted_more, block_more, fresh_is, finds_more, env_more}
use Rattle.rule_laws.proofs.Blocks.{block_sound}
use Rattle.inductive_check.specs.Given.{family_of, block_from}
use Rattle.inductive_check.specs.Arguments.{entries_rule}
use Rattle.pc_rules.proofs.Leading.{bind_assoc}
use Rattle.inductive_check.proofs.Sound.{decides}
use Rattle.pc_rules.proofs.Following.{bind_done}

context_more : (E H : Env) → FindsAs E H → (c : Context) → IsCountedContext E c → IsCountedContext H c
context_more E H finds [] h = tt
context_more E H finds (Assumed A ∷ c) h = (counted_more E H finds A h.0, context_more E H finds c h.1)
context_more E H finds (Defined b B ∷ c) h = ((counted_more E H finds b h.0.0, counted_more E H finds B h.0.1), context_more E H finds c h.1)

module _ (E : Env) (w : IsCountedEnv E) (k : Name) (ps : List Term) (fs : List RawFamily) (new : IsNew E k) where
  finds : FindsAs E (with_heads E (block_from k ps fs))
  finds = finds_more E.levels E.constraints E.declarations (Heads (heads_of (block_from k ps fs))) (fresh_is E.declarations k new)

  pub heads_context : (c : Context) → IsCountedContext E c → IsCountedContext (with_heads E (block_from k ps fs)) c
  heads_context c h = context_more E (with_heads E (block_from k ps fs)) finds c h

  module _ (params : AreCounted E ps) (families : AreCountedFamilies E (map head_of (map family_of fs))) where
    pub heads_env : IsCountedEnv (with_heads E (block_from k ps fs))
    heads_env = record {
      constraints = w.constraints;
      declarations = env_more E.levels E.constraints E.declarations (Heads (heads_of (block_from k ps fs))) (fresh_is E.declarations k new) w.declarations (params, families);
    }

    pub heads_families : AreCountedFamilies (with_heads E (block_from k ps fs)) (map head_of (map family_of fs))
    heads_families = (block_more E (with_heads E (block_from k ps fs)) finds (heads_of (block_from k ps fs)) (params, families)).1

-- a block that passes fits
pub block_fits : (E : Env) → IsConsistent E.levels E.constraints → IsCountedEnv E → (n : ℕ) (B : Block) → IsNew E B.name → (r : Result Block Halt) (m0 m1 : Meter) →
    IfOk r (λ _. BlockFormed B) → Follows (block_rule E (test_of E) n B m0.account) r m0 m1 → IfOk r (λ D. IsCheckedBlock E B D)
block_fits E k w n B new (Ok D) m0 m1 formed f =
    block_sound E (test_of E) (decides E k w) w.declarations n B D m0.account m1.account (fresh_is E.declarations B.name new) formed f.answer
block_fits E k w n B new (Err h) m0 m1 formed f = tt

-- the directed rules of a block: its parameters, its heads, its constructors
module _ (E : Env) (q : Test) (n : ℕ) (B : Block) where
  abbrev pub constructors_run : Account → Run Block
  constructors_run v =
      bind (families_rule (with_heads E B) q (infer (with_heads E B) q n) (compare (with_heads E B) q n) B 0 B.families v) (λ Fs w. done (with_families B Fs) w)

  abbrev pub heads_run : Account → Run Block
  heads_run u = bind (family_heads E (infer E q n) B B.families u) (λ _ v. constructors_run v)

  params_then : {A : Type 0} (u : Account) (k : Account → Run A) →
      bind (sorts_of E (infer E q n) [] B.params u) (λ ss v. k v) ≡ bind (entries_rule E (infer E q n) [] B.params u) (λ _ v. k v)
  params_then u k =
      sym (bind_assoc (sorts_of E (infer E q n) [] B.params u) (λ ss v. done tt v) (λ _ v. k v)
      ∙ (λ i. bind (sorts_of E (infer E q n) [] B.params u) (λ ss v. bind_done tt v (λ _ v. k v) i)))

  pub block_run : (u : Account) → block_rule E q n B u ≡ bind (entries_rule E (infer E q n) [] B.params u) (λ _ v. heads_run v)
  block_run u =
      bind_assoc (sorts_of E (infer E q n) [] B.params u) (λ ss v. family_heads E (infer E q n) B B.families v) (λ _ v. constructors_run v)
      ∙ params_then u heads_run
