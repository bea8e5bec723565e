-- What an entry has to satisfy.
use Rattle.std.specs.Prelude.{◌≡◌, ◌<◌, ◌^◌, ℕ, Bool, false, List, Contains, None, IsSome, IfSome, ⊤, codes}
use Rattle.std.specs.List.{list_any}
use Rattle.std.specs.Str.{bytes_eq}
use Rattle.bson_doc.specs.Tree.{text, Fields, no_fields, field, Trees, no_items, item, found}
use Rattle.bson_doc.specs.Key.{key_of}
use Rattle.bson_doc.specs.View.{tree_of}
use Rattle.oplog_entry.specs.declared.entry.Op.{Op}
use Rattle.oplog_entry.specs.declared.entry.Op.TheVariants.{Insert, Replace, Fields as SetFields, Delete, Noop, Note}
use Rattle.oplog_entry.specs.declared.entry.Entry.{Entry}
use Rattle.oplog_entry.specs.declared.entry.Session.{Session}
use Rattle.oplog_entry.specs.Step.{id_key, place_of, strings_of}

-- the first field is `_id`
abbrev pub BeginsWithId : Fields → Type 0
BeginsWithId no_fields = ⊥
BeginsWithId (field name value rest) = name ≡ codes "_id"

-- a name is one of these
abbrev pub is_among : List ℕ → List (List ℕ) → Bool
is_among name names = list_any (bytes_eq name) names

-- distinct strings without a zero byte, none of them `_id`
abbrev pub AreUnsets : Trees → Type 0
AreUnsets no_items = ⊤
AreUnsets (item (text name) rest) =
    (¬ Contains name 0) × (bytes_eq name (codes "_id") ≡ false)
    × (is_among name (strings_of rest) ≡ false) × AreUnsets rest
AreUnsets (item _ rest) = ⊥

-- A document begins with an `_id` that is a key, an `id` is a key, and changed fields leave the `_id` alone.
abbrev pub IsLawfulOp : Op → Type 0
IsLawfulOp (Insert ns o) = BeginsWithId o × IsSome (id_key o)
IsLawfulOp (Replace ns id o) = BeginsWithId o × IsSome (id_key o) × (key_of (tree_of id) ≡ id_key o)
IsLawfulOp (SetFields ns id sets unsets) =
    IsSome (key_of (tree_of id)) × (found (codes "_id") sets ≡ None) × AreUnsets unsets
IsLawfulOp (Delete ns id) = IsSome (key_of (tree_of id))
IsLawfulOp Noop = ⊤
IsLawfulOp Note = ⊤

-- a session and the number of a write in it, each below 2^32
pub record IsSession (session : Session) : Type 0 where
  pub id : session.id < 2 ^ 32
  pub number : session.number < 2 ^ 32

-- A term below 2^63, and a lawful op. A write of a session touches a document: a no-op and a note
-- have no session.
pub record IsLawful (entry : Entry) : Type 0 where
  pub term : entry.optime.term < 2 ^ 63
  pub op : IsLawfulOp entry.op
  pub session : IfSome entry.session IsSession
  pub write : IfSome entry.session (λ _. IsSome (place_of entry.op))
