use Rattle.wit_alarms.proofs.grade.cause_of.Goals as goal

-- what is enough in a circle of single locks is so whatever is known of the threads
pub find-requires : goal.find-requires
find-requires c = c.requires c.args.lives.now
