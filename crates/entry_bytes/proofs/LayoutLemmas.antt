-- The members of an entry determine its op.
use Rattle.std.proofs.Common.{◌≡◌, ◌≢◌, ℕ, List, [], ◌∷◌, Option, None, Some, codes, length, refl, sym, ap, ◌∙◌, subst, arith}
use Rattle.rs_optime.specs.declared.optime.OpTime.{OpTime}
use Rattle.bson_doc.specs.Tree.{Tree, null, int32, int64, text, document, array, binary, object_id, boolean, date, timestamp, Fields, no_fields, field, Trees, found}
use Rattle.bson_doc.specs.View.{tree_of}
use Rattle.bson_doc.specs.declared.doc.Value.{Value}
use Rattle.bson_doc.specs.declared.doc.Value.TheVariants as values
use Rattle.oplog_entry.specs.Lawful.{BeginsWithId, IsLawful, IsLawfulOp}
use Rattle.oplog_entry.specs.declared.entry.Op.{Op}
use Rattle.oplog_entry.specs.declared.entry.Op.TheVariants.{Insert, Replace, Fields as SetFields, Delete, Noop, Note}
use Rattle.oplog_entry.specs.declared.entry.Entry.{Entry}
use Rattle.oplog_entry.specs.declared.entry.Session.{Session}
use Rattle.entry_bytes.specs.Layout.{letter_of, collection_of, body_of, target_of, only_id, marks, changes, new_primary, note, last_members, session_members, members, document_of}
use Rattle.entry_bytes.specs.Parts.{AreMembersOf, names_in}
use Rattle.entry_bytes.proofs.MarkLemmas.{names_in-marks}

-- the first letter of a text
abbrev first_of : List ℕ → ℕ
first_of [] = 0
first_of (c ∷ cs) = c

-- two texts that begin with other letters aren't equal
pub apart : {A : Type 0} (x y : List ℕ) → x ≡ y → first_of x ≢ first_of y → A
apart x y same other = absurd (other (ap first_of same))

-- ---- changes
-- the fields of a document in a document
abbrev inside : Option Tree → Fields
inside (Some (document d)) = d
inside _ = no_fields

sets-changes : (sets unsets : Fields) → inside (found (codes "$set") (changes sets unsets)) ≡ sets
sets-changes no_fields no_fields = refl
sets-changes no_fields (field n v rest) = refl
sets-changes (field n v rest) unsets = refl

unsets-changes : (sets unsets : Fields) → inside (found (codes "$unset") (changes sets unsets)) ≡ unsets
unsets-changes no_fields no_fields = refl
unsets-changes no_fields (field n v rest) = refl
unsets-changes (field n v rest) no_fields = refl
unsets-changes (field n v rest) (field m w others) = refl

-- so a change tells what it sets and what it takes out
pub same_sets : (s u t w : Fields) → changes s u ≡ changes t w → s ≡ t
same_sets s u t w same = sym (sets-changes s u) ∙ ap (λ d. inside (found (codes "$set") d)) same ∙ sets-changes t w

pub same_unsets : (s u t w : Fields) → changes s u ≡ changes t w → u ≡ w
same_unsets s u t w same = sym (unsets-changes s u) ∙ ap (λ d. inside (found (codes "$unset") d)) same ∙ unsets-changes t w

-- a document that begins with its `_id` is no change
pub no_change : (o sets unsets : Fields) → BeginsWithId o → o ≢ changes sets unsets
no_change no_fields sets unsets first same = first
no_change (field name value rest) sets unsets first same = apart (codes "_id") (codes "$v") (sym first ∙ name_is same) (omega arith)
  where
    name_is : field name value rest ≡ changes sets unsets → name ≡ codes "$v"
    name_is same = cc

-- ---- values
abbrev value_in : Tree → Value
value_in null = values.Null
value_in (int32 number) = values.Int32 number
value_in (int64 number) = values.Int64 number
value_in (text bytes) = values.Text bytes
value_in (document d) = values.Document d
value_in (array items) = values.Array items
value_in (binary subtype bytes) = values.Binary subtype bytes
value_in (object_id bytes) = values.ObjectId bytes
value_in (boolean truth) = values.Boolean truth
value_in (date milliseconds) = values.Date milliseconds
value_in (timestamp ts) = values.Timestamp ts

value_in-tree_of : (v : Value) → value_in (tree_of v) ≡ v
value_in-tree_of values.Null = refl
value_in-tree_of (values.Int32 number) = refl
value_in-tree_of (values.Int64 number) = refl
value_in-tree_of (values.Text bytes) = refl
value_in-tree_of (values.Document d) = refl
value_in-tree_of (values.Array items) = refl
value_in-tree_of (values.Binary subtype bytes) = refl
value_in-tree_of (values.ObjectId bytes) = refl
value_in-tree_of (values.Boolean truth) = refl
value_in-tree_of (values.Date milliseconds) = refl
value_in-tree_of (values.Timestamp ts) = refl

pub same_value : (v w : Value) → tree_of v ≡ tree_of w → v ≡ w
same_value v w same = sym (value_in-tree_of v) ∙ ap value_in same ∙ value_in-tree_of w

pub same_only_id : (v w : Value) → only_id (tree_of v) ≡ only_id (tree_of w) → v ≡ w
same_only_id v w same = same_value v w (same_tree same)
  where
    same_tree : only_id (tree_of v) ≡ only_id (tree_of w) → tree_of v ≡ tree_of w
    same_tree same = cc

-- ---- ops of each letter
pub as_insert : (op : Op) (ns : List ℕ) (o : Fields) (target : Option Fields) → AreMembersOf op (codes "i") ns o target → (op ≡ Insert ns o) × (target ≡ None)
as_insert (Insert own body) ns o target m = (cc, cc)
as_insert (Replace own id body) ns o target m = apart (codes "u") (codes "i") m.letter_is (omega arith)
as_insert (SetFields own id sets unsets) ns o target m = apart (codes "u") (codes "i") m.letter_is (omega arith)
as_insert (Delete own id) ns o target m = apart (codes "d") (codes "i") m.letter_is (omega arith)
as_insert Noop ns o target m = apart (codes "n") (codes "i") m.letter_is (omega arith)
as_insert Note ns o target m = apart (codes "n") (codes "i") m.letter_is (omega arith)

pub as_delete : (op : Op) (ns : List ℕ) (o : Fields) (target : Option Fields) → AreMembersOf op (codes "d") ns o target → (id : Value) × (op ≡ Delete ns id) × (o ≡ only_id (tree_of id)) × (target ≡ None)
as_delete (Insert own body) ns o target m = apart (codes "i") (codes "d") m.letter_is (omega arith)
as_delete (Replace own id body) ns o target m = apart (codes "u") (codes "d") m.letter_is (omega arith)
as_delete (SetFields own id sets unsets) ns o target m = apart (codes "u") (codes "d") m.letter_is (omega arith)
as_delete (Delete own id) ns o target m = (id, cc, sym m.body_is, sym m.target_is)
as_delete Noop ns o target m = apart (codes "n") (codes "d") m.letter_is (omega arith)
as_delete Note ns o target m = apart (codes "n") (codes "d") m.letter_is (omega arith)

-- an op that touches no document: a no-op, or a note
pub data IsIdle (op : Op) (o : Fields) : Type 0 where
  begins : (is : op ≡ Noop) (body : o ≡ new_primary) → IsIdle op o
  notes : (is : op ≡ Note) (body : o ≡ note) → IsIdle op o

pub as_idle : (op : Op) (ns : List ℕ) (o : Fields) (target : Option Fields) → AreMembersOf op (codes "n") ns o target → IsIdle op o × (ns ≡ []) × (target ≡ None)
as_idle (Insert own body) ns o target m = apart (codes "i") (codes "n") m.letter_is (omega arith)
as_idle (Replace own id body) ns o target m = apart (codes "u") (codes "n") m.letter_is (omega arith)
as_idle (SetFields own id sets unsets) ns o target m = apart (codes "u") (codes "n") m.letter_is (omega arith)
as_idle (Delete own id) ns o target m = apart (codes "d") (codes "n") m.letter_is (omega arith)
as_idle Noop ns o target m = (begins refl (sym m.body_is), sym m.collection_is, sym m.target_is)
as_idle Note ns o target m = (notes refl (sym m.body_is), sym m.collection_is, sym m.target_is)

-- their messages differ
pub messages_apart : {A : Type 0} → new_primary ≡ note → A
messages_apart same = absurd (omega (arith, ap length (message_is same)))
  where
    message_is : new_primary ≡ note → codes "new primary" ≡ codes "note"
    message_is same = cc

-- an update: a replacement, or a change of fields
pub data IsUpdate (op : Op) (ns : List ℕ) (id : Value) (o : Fields) : Type 0 where
  replaces : (is : op ≡ Replace ns id o) → IsUpdate op ns id o
  sets_fields : (sets : Fields) (unsets : Trees) (is : op ≡ SetFields ns id sets unsets) (body : o ≡ changes sets (marks unsets)) → IsUpdate op ns id o

pub as_update : (op : Op) (ns : List ℕ) (o : Fields) (target : Option Fields) → AreMembersOf op (codes "u") ns o target → (id : Value) × IsUpdate op ns id o × (target ≡ Some (only_id (tree_of id)))
as_update (Insert own body) ns o target m = apart (codes "i") (codes "u") m.letter_is (omega arith)
as_update (Replace own id body) ns o target m = (id, replaces cc, sym m.target_is)
as_update (SetFields own id sets unsets) ns o target m = (id, sets_fields sets unsets (cc) (sym m.body_is), sym m.target_is)
as_update (Delete own id) ns o target m = apart (codes "d") (codes "u") m.letter_is (omega arith)
as_update Noop ns o target m = apart (codes "n") (codes "u") m.letter_is (omega arith)
as_update Note ns o target m = apart (codes "n") (codes "u") m.letter_is (omega arith)

-- ---- entries
pub same_session : (p q : Session) → p.id ≡ q.id → p.number ≡ q.number → p ≡ q
same_session p q id number = λ i. record { id = id i; number = number i }

same_sessions : (p q : Option Session) → session_members p ≡ session_members q → p ≡ q
same_sessions None None same = refl
same_sessions None (Some q) same = cc
same_sessions (Some p) None same = cc
same_sessions (Some p) (Some q) same = ap (λ (s : Session). Some s) (same_session p q (same_id same) (same_number same))
  where
    same_id : session_members (Some p) ≡ session_members (Some q) → p.id ≡ q.id
    same_id same = cc

    same_number : session_members (Some p) ≡ session_members (Some q) → p.number ≡ q.number
    same_number same = cc

pub no_session : {A : Type 0} (target : Fields) (q : Option Session) (rest : Fields) → field (codes "o2") (document target) rest ≡ session_members q → A
no_session target None rest same = cc
no_session target (Some q) rest same = apart (codes "lsid") (codes "o2") (sym (name_is same)) (omega arith)
  where
    name_is : field (codes "o2") (document target) rest ≡ session_members (Some q) → codes "o2" ≡ codes "lsid"
    name_is same = cc

same_last : (s t : Option Fields) (p q : Option Session) → last_members s p ≡ last_members t q → (s ≡ t) × (p ≡ q)
same_last None None p q same = (refl, same_sessions p q same)
same_last None (Some t) p q same = no_session t p (session_members q) (sym same)
same_last (Some s) None p q same = no_session s q (session_members p) same
same_last (Some s) (Some t) p q same = (target_is same, same_sessions p q (rest_is same))
  where
    target_is : last_members (Some s) p ≡ last_members (Some t) q → Some s ≡ Some t
    target_is same = cc

    rest_is : last_members (Some s) p ≡ last_members (Some t) q → session_members p ≡ session_members q
    rest_is same = cc

last_of_members : (entry : Entry) (optime : OpTime) (letter ns : List ℕ) (o : Fields) (target : Option Fields) (session : Option Session) → document_of entry ≡ members optime letter ns o target session → last_members (target_of entry.op) entry.session ≡ last_members target session
last_of_members entry optime letter ns o target session same = cc

pub members_apart : (entry : Entry) (optime : OpTime) (letter ns : List ℕ) (o : Fields) (target : Option Fields) (session : Option Session) → document_of entry ≡ members optime letter ns o target session → AreMembersOf entry.op letter ns o target
members_apart entry optime letter ns o target session same = record {
  letter_is = cc;
  collection_is = cc;
  body_is = cc;
  target_is = (same_last (target_of entry.op) target entry.session session (last_of_members entry optime letter ns o target session same)).0;
}

pub session_apart : (entry : Entry) (optime : OpTime) (letter ns : List ℕ) (o : Fields) (target : Option Fields) (session : Option Session) → document_of entry ≡ members optime letter ns o target session → entry.session ≡ session
session_apart entry optime letter ns o target session same =
    (same_last (target_of entry.op) target entry.session session (last_of_members entry optime letter ns o target session same)).1

same_entry : (a b : Entry) → a.optime.term ≡ b.optime.term → a.optime.ts ≡ b.optime.ts → a.op ≡ b.op → a.session ≡ b.session → a ≡ b
same_entry a b term ts op session = λ i. record { optime = record { term = term i; ts = ts i }; op = op i; session = session i }

pub same_op : (a b : Op) → IsLawfulOp a → IsLawfulOp b → AreMembersOf a (letter_of b) (collection_of b) (body_of b) (target_of b) → a ≡ b
same_op a (Insert ns o) la lb m = (as_insert a ns o None m).0
same_op a (Delete ns id) la lb m =
    let d = as_delete a ns (only_id (tree_of id)) None m in
    d.1 ∙ ap (λ v. Delete ns v) (sym (same_only_id id d.0 d.2))
same_op a Noop la lb m = idle (as_idle a [] new_primary None m).0
  where
    idle : IsIdle a new_primary → a ≡ Noop
    idle (begins is body) = is
    idle (notes is body) = messages_apart body
same_op a Note la lb m = idle (as_idle a [] note None m).0
  where
    idle : IsIdle a note → a ≡ Note
    idle (begins is body) = messages_apart (sym body)
    idle (notes is body) = is
same_op a (Replace ns id o) la lb m =
    let u = as_update a ns o (Some (only_id (tree_of id))) m in
    let own : id ≡ u.0 = same_only_id id u.0 (some_only u.2) in
    by_update u.0 own u.1
  where
    some_only : {x y : Fields} → Some x ≡ Some y → x ≡ y
    some_only same = cc

    by_update : (v : Value) → id ≡ v → IsUpdate a ns v o → a ≡ Replace ns id o
    by_update v own (replaces is) = is ∙ ap (λ w. Replace ns w o) (sym own)
    by_update v own (sets_fields sets unsets is body) = absurd (no_change o sets (marks unsets) lb.0 body)
same_op a (SetFields ns id sets unsets) la lb m =
    let u = as_update a ns (changes sets (marks unsets)) (Some (only_id (tree_of id))) m in
    let own : id ≡ u.0 = same_only_id id u.0 (some_only u.2) in
    by_update u.0 own u.1
  where
    some_only : {x y : Fields} → Some x ≡ Some y → x ≡ y
    some_only same = cc

    by_update : (v : Value) → id ≡ v → IsUpdate a ns v (changes sets (marks unsets)) → a ≡ SetFields ns id sets unsets
    by_update v own (replaces is) =
        let law : IsLawfulOp (Replace ns v (changes sets (marks unsets))) = subst IsLawfulOp is la in
        absurd (no_change (changes sets (marks unsets)) sets (marks unsets) law.0 refl)
    by_update v own (sets_fields s w is body) =
        let law : IsLawfulOp (SetFields ns v s w) = subst IsLawfulOp is la in
        let names : unsets ≡ w = sym (names_in-marks unsets lb.2) ∙ ap names_in (same_unsets sets (marks unsets) s (marks w) body) ∙ names_in-marks w law.2 in
        is
        ∙ ap (λ v. SetFields ns v s w) (sym own)
        ∙ ap (λ s. SetFields ns id s w) (sym (same_sets sets (marks unsets) s (marks w) body))
        ∙ ap (λ w. SetFields ns id sets w) (sym names)

-- two lawful entries that have one document are one
pub entries_apart : (a b : Entry) → IsLawful a → IsLawful b → document_of a ≡ document_of b → a ≡ b
entries_apart a b la lb same =
    let m = members_apart a b.optime (letter_of b.op) (collection_of b.op) (body_of b.op) (target_of b.op) b.session same in
    same_entry a b (same_term same) (same_ts same) (same_op a.op b.op la.op lb.op m)
    (session_apart a b.optime (letter_of b.op) (collection_of b.op) (body_of b.op) (target_of b.op) b.session same)
  where
    same_term : document_of a ≡ document_of b → a.optime.term ≡ b.optime.term
    same_term same = cc

    same_ts : document_of a ≡ document_of b → a.optime.ts ≡ b.optime.ts
    same_ts same = cc
