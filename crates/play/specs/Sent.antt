-- The messages that were sent, a line each.
use Rattle.std.specs.Prelude.{ℕ, ◌+◌, List, [], ◌∷◌, ◌++◌, codes}
use Rattle.std.specs.Fmt.{decimal}
use Rattle.repl_msg.specs.declared.message.Body.{Body}
use Rattle.repl_msg.specs.declared.message.Body.TheVariants as bodies
use Rattle.repl_msg.specs.declared.message.Message.{Message}

-- the name of what a message says
abbrev pub kind_name : Body → List ℕ
kind_name (bodies.Fetch base) = codes "Fetch"
kind_name (bodies.FetchReply reply) = codes "FetchReply"
kind_name (bodies.Report config durable) = codes "Report"
kind_name (bodies.VoteAsk ask) = codes "VoteAsk"
kind_name (bodies.VoteReply asked dry why) = codes "VoteReply"
kind_name (bodies.Heartbeat beat) = codes "Heartbeat"
kind_name (bodies.HeartbeatReply beat) = codes "HeartbeatReply"
kind_name (bodies.CommonAsk commit) = codes "CommonAsk"
kind_name (bodies.CommonReply after optimes visible) = codes "CommonReply"

-- from whom to whom
abbrev pub ends_text : Message → List ℕ
ends_text message = codes " n" ++ decimal message.from ++ codes " n" ++ decimal message.to

-- its number, its ends, its term and its kind
abbrev pub message_line : ℕ → Message → List ℕ
message_line number message =
    codes "m" ++ decimal number ++ ends_text message ++ codes " " ++ decimal message.term ++ codes " "
    ++ kind_name message.body ++ codes "\n"

-- messages from this number on
abbrev pub message_lines : ℕ → List Message → List ℕ
message_lines number [] = []
message_lines number (message ∷ messages) = message_line number message ++ message_lines (number + 1) messages
