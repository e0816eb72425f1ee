-- How the logic stores a match.
use Rattle.std.specs.Prelude.{ℕ, List}
use Rattle.std.proofs.Common.{refl}
use Rattle.std.specs.Coded.{Coded, coded_ℕ, coded_list, coded×, code_by}
use Rattle.pc_terms.specs.Syntax.{Term}
use Rattle.pc_terms.specs.Code.{coded_term}
use Rattle.pc_terms.specs.Codes.{coded_branch}
use Rattle.pc_terms.specs.declared.term.Branch.{Branch}
use Rattle.pc_terms.specs.declared.term.Match.{Match}
use Rattle.pc_terms.specs.declared.leaf.FamilyId.{FamilyId}
use Rattle.pc_terms.specs.contracts.leaf.FamilyId as family

abbrev pub coded_match : Coded Match
coded_match =
    code_by (FamilyId × (List Term × (ℕ × (Term × (Term × List Branch))))) (coded× family.the_row.coded (coded× (coded_list coded_term) (coded× coded_ℕ (coded× coded_term (coded× coded_term (coded_list coded_branch))))))
    (λ m. (m.family, (m.params, (m.binders, (m.ret, (m.scrut, m.branches))))))
    (λ p. record { family = p.0; params = p.1.0; binders = p.1.1.0; ret = p.1.1.1.0; scrut = p.1.1.1.1.0; branches = p.1.1.1.1.1 }) (λ _. refl)
