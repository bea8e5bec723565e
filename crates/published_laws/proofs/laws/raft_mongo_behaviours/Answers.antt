use Rattle.published_laws.proofs.RaftMongoRuns.{runs_are_raft_mongos}
use Rattle.published_laws.proofs.laws.raft_mongo_behaviours.Goals as goal

pub returns : goal.returns
returns c = runs_are_raft_mongos
