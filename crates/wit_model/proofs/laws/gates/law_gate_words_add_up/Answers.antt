use Rattle.wit_model.proofs.laws.gates.law_gate_words_add_up.Goals as goal
use Rattle.wit_model.proofs.Gates.{adds_up, from_sum}

pub returns : goal.returns
returns c =
    λ word shares exclusives. (adds_up word shares exclusives, from_sum word shares exclusives)
