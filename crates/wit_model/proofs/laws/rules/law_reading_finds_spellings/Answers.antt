use Rattle.wit_model.proofs.Spelling.Laws.{line_takes, spelled_again}
use Rattle.wit_model.proofs.laws.rules.law_reading_finds_spellings.Goals as goal

pub returns : goal.returns
returns c = λ bytes line. (line_takes bytes line, spelled_again bytes line)
