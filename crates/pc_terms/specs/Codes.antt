-- How the logic stores a branch and a definition.
use Rattle.std.specs.Prelude.{ℕ}
use Rattle.std.proofs.Common.{refl}
use Rattle.std.specs.Coded.{Coded, coded_ℕ, coded×, code_by}
use Rattle.pc_terms.specs.Syntax.{Term}
use Rattle.pc_terms.specs.Code.{coded_term}
use Rattle.pc_terms.specs.declared.term.Branch.{Branch}
use Rattle.pc_terms.specs.declared.term.Def.{Def}

abbrev pub coded_branch : Coded Branch
coded_branch = code_by (ℕ × Term) (coded× coded_ℕ coded_term) (λ b. (b.binders, b.body)) (λ p. record { binders = p.0; body = p.1 }) (λ _. refl)

abbrev pub coded_def : Coded Def
coded_def =
    code_by (Term × (Term × ℕ)) (coded× coded_term (coded× coded_term coded_ℕ)) (λ d. (d.ty, (d.body, d.rarg))) (λ p. record { ty = p.0; body = p.1.0; rarg = p.1.1 }) (λ _. refl)
