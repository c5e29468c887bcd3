use Rattle.wit_model.proofs.laws.rules.law_before_is_path.Goals as goal
use Rattle.wit_model.proofs.Orders.Paths.{before_from_test, test_from_before}

pub returns : goal.returns
returns c = λ orders a b. (before_from_test orders a b, test_from_before orders a b)
