-- The parts of records and messages: configurations, entries, a term for which a vote is asked.
use Rattle.std.specs.Prelude.{ℕ, List, [], Option, None, Some}
use Rattle.oplog_entry.specs.declared.entry.Entry.{Entry}
use Rattle.member_config.specs.declared.config.Config.{Config}
use Rattle.repl_msg.specs.declared.message.Body.{Body}
use Rattle.repl_msg.specs.declared.message.Body.TheVariants as bodies
use Rattle.repl_msg.specs.declared.record.Record.{Record}
use Rattle.repl_msg.specs.declared.record.Record.TheVariants as records

-- the configuration in a record
abbrev pub config_kept : Record → Option Config
config_kept (records.Vote vote) = None
config_kept (records.Config config) = Some config
config_kept (records.Entries list point) = None
config_kept (records.Cut at) = None
config_kept (records.Form form) = None

-- the entries in a record
abbrev pub entries_kept : Record → List Entry
entries_kept (records.Vote vote) = []
entries_kept (records.Config config) = []
entries_kept (records.Entries list point) = list
entries_kept (records.Cut at) = []
entries_kept (records.Form form) = []

-- the configuration in a message
abbrev pub config_carried : Body → Option Config
config_carried (bodies.Fetch base) = None
config_carried (bodies.FetchReply reply) = None
config_carried (bodies.Report config durable) = None
config_carried (bodies.VoteAsk ask) = None
config_carried (bodies.VoteReply asked dry refused) = None
config_carried (bodies.Heartbeat beat) = Some beat.config
config_carried (bodies.HeartbeatReply beat) = Some beat.config
config_carried (bodies.CommonAsk commit) = None
config_carried (bodies.CommonReply after optimes visible) = None

-- the entries in a message
abbrev pub entries_carried : Body → List Entry
entries_carried (bodies.Fetch base) = []
entries_carried (bodies.FetchReply reply) = reply.entries
entries_carried (bodies.Report config durable) = []
entries_carried (bodies.VoteAsk ask) = []
entries_carried (bodies.VoteReply asked dry refused) = []
entries_carried (bodies.Heartbeat beat) = []
entries_carried (bodies.HeartbeatReply beat) = []
entries_carried (bodies.CommonAsk commit) = []
entries_carried (bodies.CommonReply after optimes visible) = []

-- the term for which a message asks for a vote
abbrev pub term_asked : Body → Option ℕ
term_asked (bodies.Fetch base) = None
term_asked (bodies.FetchReply reply) = None
term_asked (bodies.Report config durable) = None
term_asked (bodies.VoteAsk ask) = Some ask.asked
term_asked (bodies.VoteReply asked dry refused) = None
term_asked (bodies.Heartbeat beat) = None
term_asked (bodies.HeartbeatReply beat) = None
term_asked (bodies.CommonAsk commit) = None
term_asked (bodies.CommonReply after optimes visible) = None
