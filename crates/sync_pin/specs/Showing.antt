-- What a node shows as the start of a new member.
use Rattle.std.specs.Prelude.{ℕ, List, Option, None, Some}
use Rattle.bson_doc.specs.Tree.{Fields}
use Rattle.rs_optime.specs.declared.optime.OpTime.{OpTime}
use Rattle.set_model.specs.declared.reply.Reply.{Reply}
use Rattle.set_model.specs.declared.reply.Reply.TheVariants as reply
use Rattle.set_model.specs.Points.{earlier_of}

-- the term of a node, and the lesser of its commit point and what it has applied
abbrev pub shown_point : Reply → Option (ℕ × OpTime)
shown_point (reply.State role term vote last durable applied commit config rollback) =
    Some (term, earlier_of commit applied)
shown_point _ = None

abbrev pub shown_documents : Reply → Option (List (List ℕ × Fields))
shown_documents (reply.Documents documents) = Some documents
shown_documents _ = None
