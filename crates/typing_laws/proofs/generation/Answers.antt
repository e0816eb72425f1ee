use Rattle.typing_laws.proofs.Generating.{of_rel, of_sort, of_prod, of_lambda, of_let_in, of_app, of_const, of_ind, of_construct, of_case, of_fix}
use Rattle.typing_laws.proofs.generation.Goals as goal

pub returns : goal.returns
returns c = record {
  variables = λ m E c i T h. of_rel h;
  sorts = λ m E c s T h. of_sort h;
  products = λ m E c A B T h. of_prod h;
  lambdas = λ m E c A b T h. of_lambda h;
  lets = λ m E c b B t T h. of_let_in h;
  applications = λ m E c f a T h. of_app h;
  constants = λ m E c k T h. of_const h;
  families = λ m E c f T h. of_ind h;
  constructors = λ m E c f n T h. of_construct h;
  matches = λ m E c f xs n ret t bs T h. of_case h;
  fixpoints = λ m E c i rargs types bodies T h. of_fix h;
}
