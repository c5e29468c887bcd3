use Rattle.wit_model.proofs.laws.rules.law_orders_sound.Goals as goal
use Rattle.wit_model.proofs.Orders.Sound.{sound_legal}
use Rattle.wit_model.proofs.Orders.Started.{sound_started}

pub returns : goal.returns
returns c =
    λ start files h accepted legal. sound_legal start files h (sound_started start accepted) legal
