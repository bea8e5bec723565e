-- The lines about a new member.
use Rattle.std.specs.Prelude.{ℕ, List, ◌++◌, codes}
use Rattle.std.specs.Fmt.{decimal}
use Rattle.bson_doc.specs.Tree.{Fields}
use Rattle.rs_optime.specs.Text.{optime_text}
use Rattle.rs_optime.specs.declared.optime.OpTime.{OpTime}
use Rattle.set_model.specs.declared.reply.Reply.TheVariants.{Documents}
use Rattle.transcript.specs.Replies.{reply_text}
use Rattle.sync_words.specs.declared.refusal.SyncRefusal.{SyncRefusal}
use Rattle.sync_words.specs.declared.refusal.SyncRefusal.TheVariants.{NoSuchNode, NoNumberLeft, NodeDown, NothingCommitted}

-- the member's number, the optime of its last entry, how many entries it has, and its documents
abbrev pub synced_text : (number : ℕ) → OpTime → (entries : ℕ) → List (List ℕ × Fields) → List ℕ
synced_text number at entries documents =
    codes "synced n" ++ decimal number ++ codes " to " ++ optime_text at
    ++ codes " entries " ++ decimal entries ++ codes " " ++ reply_text (Documents documents) ++ codes "\n"

abbrev pub refusal_text : SyncRefusal → List ℕ
refusal_text NoSuchNode = codes "sync refused 1 NoSuchNode\n"
refusal_text NoNumberLeft = codes "sync refused 2 NoNumberLeft\n"
refusal_text NodeDown = codes "sync refused 3 NodeDown\n"
refusal_text NothingCommitted = codes "sync refused 4 NothingCommitted\n"
