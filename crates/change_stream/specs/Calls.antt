-- The calls of a change stream, and what each gives (MongoDB manual, change streams).
use Rattle.std.specs.Prelude.{ℕ, Bool, not, ◌&&◌, if◌then◌else◌, List, [], ◌∷◌, ◌++◌, take, Result, Ok, Err}
use Rattle.rs_optime.specs.Order.{is_before}
use Rattle.rs_optime.specs.declared.optime.OpTime.{OpTime}
use Rattle.oplog_entry.specs.Visible.{ZERO, log_after, log_up_to}
use Rattle.oplog_entry.specs.declared.entry.Entry.{Entry}
use Rattle.repl_msg.specs.Logs.{has_entry, same_optime}
use Rattle.change_stream.specs.declared.error.WatchError.{WatchError}
use Rattle.change_stream.specs.declared.error.WatchError.TheVariants.{UnknownToken}

-- the entries of a log after one optime, up to another
abbrev pub part : OpTime → OpTime → List Entry → List Entry
part start end log = log_after start (log_up_to end log)

-- the optime of the last of some entries, or the token before them if there are none
abbrev pub token_of_last : OpTime → List Entry → OpTime
token_of_last token [] = token
token_of_last token (entry ∷ entries) = token_of_last entry.optime entries

-- What a call was shown: a node's term and its commit point, and then its log. It gives at most `most`
-- entries.
pub record Call : Type 0 where
  pub node : ℕ
  pub term : ℕ
  pub commit : OpTime
  pub log : List Entry
  pub most : ℕ

-- A token is unknown if the log is committed that far and has no such entry. ZERO is always known.
abbrev pub is_unknown : OpTime → OpTime → List Entry → Bool
is_unknown token commit log =
    not (same_optime token ZERO) && (not (is_before commit token) && not (has_entry log token))

-- the next committed entries after the token
abbrev pub answer : OpTime → Call → Result (List Entry) WatchError
answer token call =
    if is_unknown token call.commit call.log then Err UnknownToken
    else Ok (take call.most (part token call.commit call.log))

-- an error gives no entry
abbrev pub entries_of : Result (List Entry) WatchError → List Entry
entries_of (Ok entries) = entries
entries_of (Err error) = []

abbrev pub given : OpTime → Call → List Entry
given token call = entries_of (answer token call)

-- the stream's token after a call is answered
abbrev pub after : OpTime → Call → OpTime
after token call = token_of_last token (given token call)

-- the token after some calls, one after another
abbrev pub token_after : OpTime → List Call → OpTime
token_after token [] = token
token_after token (call ∷ calls) = token_after (after token call) calls

-- the entries that the calls gave, one after another
abbrev pub joined : OpTime → List Call → List Entry
joined token [] = []
joined token (call ∷ calls) = given token call ++ joined (after token call) calls
