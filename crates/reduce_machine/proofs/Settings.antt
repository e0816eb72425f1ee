-- No two environments have the same number, and no two contexts: so what a table has is true wherever its stamps are known again.
use Rattle.std.proofs.Common.{◌≡◌, ◌∙◌, ℕ, List, sym, subst as along}
use Rattle.stamps.proofs.Numbers.{number-inj}
use Rattle.calculus_rules.specs.Environment.{Env}
use Rattle.calculus_rules.specs.Context.{Context, values}
use Rattle.pc_rules.specs.contracts.environment.Env as environment
use Rattle.pc_rules.specs.contracts.context.Ctx as context
use Rattle.reduce_machine.specs.Reducts.{AreReducts}
use Rattle.reduce_machine.specs.Settings.{number_of_environment, number_of_context, AreKept}
use Rattle.reduce_machine.specs.declared.reducts.Reduct.{Reduct}

environment_number : (E F : Env) → number_of_environment E ≡ number_of_environment F → E ≡ F
unfolding number_of_environment
environment_number E F p = environment.the_row.coded.inj E F (number-inj (environment.the_row.coded.code E) (environment.the_row.coded.code F) p)

context_number : (c d : Context) → number_of_context c ≡ number_of_context d → c ≡ d
unfolding number_of_context
context_number c d p = context.the_row.coded.inj c d (number-inj (context.the_row.coded.code c) (context.the_row.coded.code d) p)

-- entries that are true here are true wherever the numbers are those of here
pub kept_here : (E : Env) (c : Context) (n m : ℕ) (rs : List Reduct) → n ≡ number_of_environment E → m ≡ number_of_context c → AreReducts E (values c) rs →
    AreKept n m rs
kept_here E c n m rs p q h = λ F d x y.
    along (λ G. AreReducts G (values d) rs) (environment_number E F (sym p ∙ x)) (along (λ e. AreReducts E (values e) rs) (context_number c d (sym q ∙ y)) h)
