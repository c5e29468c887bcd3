use Rattle.wit_alarms.proofs.Closing.{none-means-none}
use Rattle.wit_alarms.proofs.laws.law_none_means_none.Goals as goal

pub returns-clause-none : goal.returns-clause-none
returns-clause-none c =
    λ start files first lives facts these limited course threads is keeps none good circle.
    none-means-none start files first lives facts these limited course is keeps none threads good
    circle

pub returns-clause-never : goal.returns-clause-never
returns-clause-never c =
    λ start files first lives facts these limited course threads are_all cause grade is keeps good
    circle.
    none-means-none start files first lives facts these limited course is keeps grade.1.0 threads
    good circle
