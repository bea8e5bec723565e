-- The actions of `RaftMongo` by name.
pub data Name : Type 0 where
  -- the published ones
  AppendOplog : Name
  RollbackOplog : Name
  BecomePrimaryByMagic : Name
  ClientWrite : Name
  AdvanceCommitPoint : Name
  LearnCommitPoint : Name
  UpdateTermThroughHeartbeat : Name
  Stepdown : Name
  -- others
  AskForVotes : Name
  Vote : Name
  Flush : Name
  Restart : Name
