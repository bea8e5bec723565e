-- The actions of `Reconfig` by name.
pub data Name : Type 0 where
  -- the paper's
  BecomeLeader : Name
  ClientRequest : Name
  GetEntries : Name
  RollbackEntries : Name
  CommitEntry : Name
  UpdateTerms : Name
  SendConfig : Name
  Reconfig : Name
  -- not the paper's
  AskForVotes : Name
  Vote : Name
  StepDown : Name
  Flush : Name
  Restart : Name
