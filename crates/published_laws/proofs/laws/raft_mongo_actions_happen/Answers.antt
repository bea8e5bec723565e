use Rattle.published_laws.proofs.RaftMongoHappens.{each_happens}
use Rattle.published_laws.proofs.laws.raft_mongo_actions_happen.Goals as goal

pub returns : goal.returns
returns c = each_happens
