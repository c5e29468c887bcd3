use Rattle.wit_model.proofs.Chains.Free.{chunks_whole}
use Rattle.wit_model.proofs.laws.groups.law_chunks_add_up.Goals as goal

pub returns : goal.returns
returns c = chunks_whole
