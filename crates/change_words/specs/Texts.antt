-- The lines that a consumer of changes gets.
use Rattle.std.specs.Prelude.{ℕ, Bool, false, List, [], ◌∷◌, ◌++◌, codes, if◌then◌else◌}
use Rattle.std.specs.List.{flat_map}
use Rattle.std.specs.Str.{bytes_eq}
use Rattle.bson_doc.specs.Tree.{document}
use Rattle.bson_doc.specs.View.{tree_of}
use Rattle.doc_text.specs.Printing.{printed}
use Rattle.entry_bytes.specs.Layout.{body_of}
use Rattle.oplog_entry.specs.declared.entry.Entry.{Entry}
use Rattle.oplog_entry.specs.declared.entry.Op.{Op}
use Rattle.oplog_entry.specs.declared.entry.Op.TheVariants as ops
use Rattle.rs_optime.specs.declared.optime.OpTime.{OpTime}
use Rattle.change_words.specs.declared.refusal.WatchRefusal.{WatchRefusal}
use Rattle.change_words.specs.declared.refusal.WatchRefusal.TheVariants.{UnknownToken, NodeDown, NoSuchNode}
use Rattle.change_words.specs.Tokens.{token_text}

-- ---- changes

-- what an op does, and to which collection
abbrev pub op_text : Op → List ℕ
op_text (ops.Insert ns o) = codes " insert " ++ ns ++ codes " " ++ printed (document o)
op_text (ops.Replace ns id o) =
    codes " replace " ++ ns ++ codes " " ++ printed (tree_of id) ++ codes " " ++ printed (document o)
op_text (ops.Fields ns id sets unsets) =
    codes " update " ++ ns ++ codes " " ++ printed (tree_of id) ++ codes " "
    ++ printed (document (body_of (ops.Fields ns id sets unsets)))
op_text (ops.Delete ns id) = codes " delete " ++ ns ++ codes " " ++ printed (tree_of id)
op_text ops.Noop = []
op_text ops.Note = []

-- the line of a change, with the token of its entry
abbrev pub change_text : Entry → List ℕ
change_text entry = codes "change " ++ token_text entry.optime ++ op_text entry.op ++ codes "\n"

-- it changes this collection
abbrev pub is_of : List ℕ → Op → Bool
is_of collection (ops.Insert ns o) = bytes_eq ns collection
is_of collection (ops.Replace ns id o) = bytes_eq ns collection
is_of collection (ops.Fields ns id sets unsets) = bytes_eq ns collection
is_of collection (ops.Delete ns id) = bytes_eq ns collection
is_of collection ops.Noop = false
is_of collection ops.Note = false

-- the line of an entry of this collection; none for another entry
abbrev pub entry_lines : List ℕ → Entry → List (List ℕ)
entry_lines collection entry = if is_of collection entry.op then change_text entry ∷ [] else []

-- the changes of a collection, in their order
abbrev pub change_lines : List ℕ → List Entry → List (List ℕ)
change_lines collection entries = flat_map (entry_lines collection) entries

-- ---- the last line

abbrev pub resume_text : OpTime → List ℕ
resume_text token = codes "resume " ++ token_text token ++ codes "\n"

abbrev pub refusal_text : WatchRefusal → List ℕ
refusal_text UnknownToken = codes "watch refused 1 UnknownToken\n"
refusal_text NodeDown = codes "watch refused 2 NodeDown\n"
refusal_text NoSuchNode = codes "watch refused 3 NoSuchNode\n"
