-- What writes, reads and rollbacks of a node rest on.
use Rattle.std.proofs.Common.{◌≡◌, ◌∙◌, ◌++◌, ℕ, List, [], ◌∷◌, ◌≤◌, Option, None, Some, Result, Ok, Err, IfSome, length, map, min, not, take, sym, ap, subst, arith}
use Rattle.std.specs.FinMap.{get}
use Rattle.std.specs.List.Sorted.{IsStrictlySortedBy}
use Rattle.std.specs.Map.{keys_of}
use Rattle.std.proofs.lemmas.List.{append-nil, append_assoc, take_all}
use Rattle.bson_doc.specs.Place.{Place, place_cmp}
use Rattle.bson_doc.specs.Tree.{Fields}
use Rattle.rs_optime.specs.declared.optime.OpTime.{OpTime}
use Rattle.rs_optime.proofs.MembershipLemmas.{length-passed}
use Rattle.oplog_entry.specs.Docs.{Documents, docs}
use Rattle.oplog_entry.specs.Visible.{is_before, log_up_to}
use Rattle.oplog_entry.specs.declared.entry.Entry.{Entry}
use Rattle.oplog_entry.specs.declared.entry.Op.{Op}
use Rattle.oplog_entry.specs.declared.entry.Session.{Session}
use Rattle.oplog_store.specs.Log.{IsOplog}
use Rattle.doc_fold.specs.Map.{documents_of}
use Rattle.doc_update.specs.Check.{checked}
use Rattle.doc_update.specs.Refusal.{Reason}
use Rattle.doc_update.specs.Sound.{IsNamed}
use Rattle.doc_update.specs.declared.write.Prepared.{Prepared}
use Rattle.doc_update.specs.declared.write.Prepared.TheVariants.{Entry as Logs, NoMatch, Unchanged}
use Rattle.doc_update.specs.declared.write.WriteOp.{WriteOp}
use Rattle.repl_msg.specs.declared.record.Record.{Record}
use Rattle.set_model.specs.Changes.{logged, opened}
use Rattle.set_model.specs.Node.{Node}
use Rattle.set_model.specs.Outcome.{replied}
use Rattle.set_model.specs.Points.{next_optime}
use Rattle.set_model.specs.Reads.{listed}
use Rattle.set_model.specs.Write.{written}
use Rattle.set_model.specs.Writers.{begun}
use Rattle.set_model.specs.declared.reply.Refusal.{Refusal}
use Rattle.set_model.specs.declared.reply.Reply.{Reply}
use Rattle.set_model.specs.declared.reply.Reply.TheVariants as reply
use Rattle.set_model.specs.declared.writer.Writer.{Writer}
use Rattle.set_model.specs.declared.writer.Writer.TheVariants.{Open, Done, Lost}
use Rattle.node_data.proofs.OwnLemmas.{IsOwn, own_docs}
use Rattle.checker_tables.specs.Journal.{AreJournaled}
use Rattle.checker_node.specs.Admits.{op_to_log}
use Rattle.checker_node.specs.Slots.{slot_of}
use Rattle.checker_tables.proofs.FrontLemmas.{cut_alike}
use Rattle.checker_tables.proofs.JournalLemmas.{journaled_fewer, journaled_up_to}
use Rattle.checker_tables.proofs.ListedLemmas.{places_listed}

-- ---- admission

-- the document at a write's place is of its key
pub named_there : (log : List Entry) (op : WriteOp) (place : Place) (before : Option Fields) → IsOplog log → checked op ≡ Ok place → before ≡ get (docs log) place → IfSome before (λ d. IsNamed (checked op) d)
named_there log op place before oplog is there =
    subst (λ (r : Result Place Reason). IfSome before (λ d. IsNamed r d)) (sym is)
    (subst (λ (o : Option Fields). IfSome o (λ d. IsOwn place.1 d)) (sym there) (own_docs log place oplog.lawful))

-- ---- what a write logs

pub written_op : (node : Node) (session : Option Session) (effect : Result Prepared Refusal) (op : Op) → Ok op ≡ op_to_log effect
    → written node session effect ≡ replied (reply.Written (next_optime node)) (logged node op session)
written_op node session (Ok (Logs other after)) op is =
    let same : op ≡ other = cc is in ap (λ (o : Op). replied (reply.Written (next_optime node)) (logged node o session)) (sym same)
written_op node session (Ok NoMatch) op is = absurd (cc is)
written_op node session (Ok Unchanged) op is = absurd (cc is)
written_op node session (Err why) op is = absurd (cc is)

pub written_none : (node : Node) (session : Option Session) (effect : Result Prepared Refusal) (said : Reply) → Err said ≡ op_to_log effect
    → written node session effect ≡ replied said node
written_none node session (Ok (Logs other after)) said is = absurd (cc is)
written_none node session (Ok NoMatch) said is = let same : said ≡ reply.NoMatch = cc is in ap (λ (r : Reply). replied r node) (sym same)
written_none node session (Ok Unchanged) said is = let same : said ≡ reply.Unchanged = cc is in ap (λ (r : Reply). replied r node) (sym same)
written_none node session (Err why) said is = let same : said ≡ reply.Refused why = cc is in ap (λ (r : Reply). replied r node) (sym same)

pub begun_op : (node : Node) (writer : ℕ) (effect : Result Prepared Refusal) (op : Op) → Ok op ≡ op_to_log effect
    → begun node writer effect ≡ replied (reply.Begun (next_optime node)) (opened node writer op)
begun_op node writer (Ok (Logs other after)) op is =
    let same : op ≡ other = cc is in ap (λ (o : Op). replied (reply.Begun (next_optime node)) (opened node writer o)) (sym same)
begun_op node writer (Ok NoMatch) op is = absurd (cc is)
begun_op node writer (Ok Unchanged) op is = absurd (cc is)
begun_op node writer (Err why) op is = absurd (cc is)

pub begun_none : (node : Node) (writer : ℕ) (effect : Result Prepared Refusal) (said : Reply) → Err said ≡ op_to_log effect
    → begun node writer effect ≡ replied said node
begun_none node writer (Ok (Logs other after)) said is = absurd (cc is)
begun_none node writer (Ok NoMatch) said is = let same : said ≡ reply.NoMatch = cc is in ap (λ (r : Reply). replied r node) (sym same)
begun_none node writer (Ok Unchanged) said is = let same : said ≡ reply.Unchanged = cc is in ap (λ (r : Reply). replied r node) (sym same)
begun_none node writer (Err why) said is = let same : said ≡ reply.Refused why = cc is in ap (λ (r : Reply). replied r node) (sym same)

pub ruleset logging = (written_op, written_none, begun_op, begun_none)

-- ---- open slots

pub slot_there : (found : Option Writer) (at : OpTime) (op : Op) → Ok (at, op) ≡ slot_of found → found ≡ Some (Open at op)
slot_there None at op is = absurd (cc is)
slot_there (Some (Open by other)) at op is =
    let same : (at, op) ≡ (by, other) = cc is in ap (λ (p : OpTime × Op). Some (Open p.0 p.1)) (sym same)
slot_there (Some (Done by)) at op is = absurd (cc is)
slot_there (Some (Lost term)) at op is = absurd (cc is)

-- ---- reads

-- so many first entries of a log are those up to an optime
abbrev pub CountsUpTo : OpTime → List Entry → ℕ → Type 0
CountsUpTo at log count = (take count log ≡ log_up_to at log) × (count ≤ length log)

pub counts_up_to : (at : OpTime) (log found : List Entry) → found ≡ log_up_to at log → IsOplog log → CountsUpTo at log (length found)
counts_up_to at log found is oplog =
    subst (λ (l : List Entry). CountsUpTo at log (length l)) (sym is) (
      sym (cut_alike at log oplog.order) ∙ take_all (length (log_up_to at log)) (log_up_to at log) (omega arith),
      length-passed (λ (e : Entry). not (is_before at e.optime)) log,
    )

-- each document with its collection, of a map's entries
abbrev pub shown_of : List (Place × Fields) → List (List ℕ × Fields)
shown_of es = map (λ (e : Place × Fields). (e.0.0, e.1)) es

-- one of them more
pub one_shown : (so_far list : List (List ℕ × Fields)) (rest next whole : List (Place × Fields)) (e : Place × Fields) → so_far ++ shown_of rest ≡ shown_of whole → rest ≡ e ∷ next
    → list ≡ so_far ++ (e.0.0, e.1) ∷ [] → list ++ shown_of next ≡ shown_of whole
one_shown so_far list rest next whole e so rest_is is =
    ap (λ (l : List (List ℕ × Fields)). l ++ shown_of next) is ∙ append_assoc so_far ((e.0.0, e.1) ∷ []) (shown_of next)
    ∙ ap (λ (es : List (Place × Fields)). so_far ++ shown_of es) (sym rest_is) ∙ so

-- all of them
pub all_shown : (list : List (List ℕ × Fields)) (rest whole : List (Place × Fields)) (documents : Documents) → list ++ shown_of rest ≡ shown_of whole → rest ≡ []
    → IsStrictlySortedBy place_cmp (keys_of whole) → documents_of whole ≡ documents → list ≡ listed documents
all_shown list rest whole documents so none sorted are =
    sym (append-nil list) ∙ ap (λ (es : List (Place × Fields)). list ++ shown_of es) (sym none) ∙ so
    ∙ ap shown_of (sym (places_listed whole sorted)) ∙ ap listed are

-- ---- a log that is cut

-- the first entries of a log that are journaled, once it is cut
pub cut_journaled : (count journaled : ℕ) (at : OpTime) (log found : List Entry) (items : List Record) → count ≡ min journaled (length found) → found ≡ log_up_to at log → IsOplog log
    → AreJournaled journaled log items → AreJournaled count (log_up_to at log) items
cut_journaled count journaled at log found items is found_is oplog are =
    let less : count ≤ journaled = grind (arith, is) in
    let long : length found ≡ length (log_up_to at log) = ap length found_is in
    let within : count ≤ length (log_up_to at log) = grind (arith, is, long) in
    journaled_up_to count at log items oplog.order within (journaled_fewer journaled count log items less are)
