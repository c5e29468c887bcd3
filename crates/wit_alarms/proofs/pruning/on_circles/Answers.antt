use Rattle.wit_alarms.proofs.Fewer.{all_enough}
use Rattle.wit_alarms.proofs.pruning.on_circles.Goals as goal

pub loop-init : goal.loop-init
loop-init c = all_enough c.args.facts.now c.in_ok-kept.kept.items c.in_ok-kept.ensures
