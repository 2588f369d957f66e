use Rattle.aud_object.proofs.Legality as law
use Rattle.aud_object.proofs.laws.blocks_replay_in_turn.Goals as goal

pub returns : goal.returns
returns c = law.blocks_replay_in_turn
