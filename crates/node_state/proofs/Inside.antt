-- What a node in memory has besides its data.
use Rattle.node_state.specs.Seen.{BesideData}
use Rattle.node_state.specs.declared.state.State.TheInside.{Inside}

abbrev pub rest_in : Inside → BesideData
rest_in s =
    record {
      number = s.number;
      first = s.first;
      role = s.role;
      term = s.term;
      clock = s.clock;
      vote = s.vote;
      records = s.records.list;
      durable = s.durable;
      commit = s.commit;
      config = s.config;
      progress = s.progress;
      known = s.known.heard;
      tally = s.tally;
      dry_tally = s.dry_run;
      lost = s.lost;
      rollback = s.rollback;
    }
