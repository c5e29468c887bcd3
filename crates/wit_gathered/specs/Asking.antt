-- What somebody asked for, and what it held, oldest first.
use Rattle.std.specs.Prelude.{List}
use Rattle.wit_gathered.specs.declared.requests.Step.{Step}

pub record Asking : Type 0 where
  pub held : List Step
  pub asked : Step
