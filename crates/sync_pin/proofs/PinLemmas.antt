-- What a node shows can be pinned.
use Rattle.std.proofs.Common.{◌≡◌, ◌≢◌, ◌∙◌, ◌≤◌, ◌<◌, inl, inr, ap, ap₂, sym, subst, refl, arith, ℕ, Bool, true, false, not, cond, fold, length, Option, Some, List, [], ◌∷◌, map, slice_get}
use Rattle.std.proofs.Math.Seq.{take-length}
use Rattle.std.proofs.lemmas.List.Kept.{AllPairs-filter}
use Rattle.std.proofs.lemmas.Option.{same_Some}
use Rattle.std.specs.FinMap.{empty, entries, entries_sorted, get, get-empty, get-entries}
use Rattle.std.specs.List.{All, AllPairs}
use Rattle.std.specs.Prelude.{IsSome}
use Rattle.rs_optime.specs.Membership.{In}
use Rattle.rs_optime.specs.declared.optime.OpTime.{OpTime}
use Rattle.rs_optime.proofs.MembershipLemmas.{all_in, in_all}
use Rattle.bson_doc.specs.Key.{key_of}
use Rattle.bson_doc.specs.Length.{document_length}
use Rattle.bson_doc.specs.Place.{Place, place_cmp}
use Rattle.bson_doc.specs.Tree.{Fields}
use Rattle.bson_doc.specs.View.{tree_of}
use Rattle.bson_doc.specs.declared.key.IdKey.{IdKey}
use Rattle.doc_update.proofs.StoredLemmas.{not_large, place-key}
use Rattle.entry_bytes.specs.Layout.{collection_of, document_of, members}
use Rattle.entry_bytes.specs.Sizes.{IsWithinEntry}
use Rattle.oplog_entry.specs.Docs.{Documents, applied, docs}
use Rattle.oplog_entry.specs.Lawful.{IsLawful}
use Rattle.oplog_entry.specs.Log.{StandsBefore}
use Rattle.oplog_entry.specs.Step.{document_after, id_key, is_at, place_of}
use Rattle.oplog_entry.specs.Visible.{ZERO, is_before, last_of, log_up_to}
use Rattle.oplog_entry.specs.declared.entry.Entry.{Entry}
use Rattle.oplog_entry.specs.declared.entry.Op.{Op}
use Rattle.oplog_entry.specs.declared.entry.Op.TheVariants.{Insert, Replace, Fields as SetFields, Delete, Noop, Note}
use Rattle.oplog_entry.specs.declared.entry.Session.{Session}
use Rattle.oplog_entry.proofs.PlaceLemmas.{is_at-only}
use Rattle.checkpoint_store.specs.Shown.{CanBeSaved}
use Rattle.checkpoint_store.specs.Spelled.{NAME}
use Rattle.initial_sync.specs.Pinned.{IsPinned, listed_of, placed}
use Rattle.initial_sync.specs.declared.pinned.Kept1.{Kept1}
use Rattle.initial_sync.specs.declared.pinned.Pinned.{Pinned}
use Rattle.set_model.proofs.HoldLemmas.{get-step}
use Rattle.set_model.specs.declared.command.Command.TheVariants as commands
use Rattle.set_model.specs.declared.command.Event.{Event}
use Rattle.set_model.specs.declared.command.ReadLevel.TheVariants.{Majority}
use Rattle.set_model.specs.declared.reply.Reply.TheVariants as reply
use Rattle.set_model.specs.Node.{Node}
use Rattle.set_model.specs.Points.{applied_point, earlier_of}
use Rattle.set_model.specs.Reads.{listed, shown_log}
use Rattle.set_model.specs.Run.{Sizes, run, world_at}
use Rattle.set_model.specs.Safety.{Begins, IsAt, Leads, MajorityReads, is_majority_read}
use Rattle.set_model.specs.World.{World, touched_node}
use Rattle.safety_laws.specs.Bounds.{NumbersStaySmall}
use Rattle.safety_laws.specs.Logs.{LogsRise}
use Rattle.safety_laws.specs.Majority.{IsFitLog, MajorityLogsAreFit}
use Rattle.safety_laws.proofs.StoredLogs.{found_entry}
use Rattle.change_stream.specs.Shown.{IsAnswered}
use Rattle.change_stream.proofs.StepLemmas.{answered_at, world_seam}
use Rattle.sync_pin.specs.Asking.{Shows}
use Rattle.sync_pin.specs.Showing.{shown_point}
use Rattle.sync_pin.proofs.EventLemmas.{IsThere, Stepped, dump_tells, log_tells, state_tells, stepped}

-- ---- each document can be saved

-- what is true of each place that an entry touches is true of each place with a document
placed_from : (P : Place → Type 0) (log : List Entry) (documents : Documents) (place : Place) → ((entry : Entry) → In entry log → place_of entry.op ≡ Some place → P place)
    → ((document : Fields) → get documents place ≡ Some document → P place) → (document : Fields) → get (fold applied documents log) place ≡ Some document → P place
placed_from P [] documents place each before = before
placed_from P (entry ∷ log) documents place each before = placed_from P log (applied documents entry) place (λ other there. each other (inr there)) (λ document there. by_test (is_at (place_of entry.op) place) refl document there)
  where
    by_test : (b : Bool) → is_at (place_of entry.op) place ≡ b → (document : Fields) → get (applied documents entry) place ≡ Some document → P place
    by_test true here document there = each entry (inl refl) (is_at-only (place_of entry.op) place here)
    by_test false other document there =
        before document (sym (get-step documents entry place ∙ ap (λ b. cond b (document_after entry.op (get documents place)) (get documents place)) other) ∙ there)

named_short : (log : List Entry) (place : Place) (document : Fields) → All IsWithinEntry log → get (docs log) place ≡ Some document → length place.0 ≤ NAME
named_short log place document within there =
    placed_from (λ (p : Place). length p.0 ≤ NAME) log empty place (λ entry among. short entry (all_in IsWithinEntry log entry within among)) (λ d none. absurd (cc (sym (get-empty place_cmp place) ∙ none))) document there
  where
    within_document : (at : OpTime) (letter name : List ℕ) (body : Fields) (target : Option Fields) (session : Option Session) → length name ≤ document_length (members at letter name body target session)
    within_document at letter name body target session = omega arith

    collection_is : (op : Op) → place_of op ≡ Some place → collection_of op ≡ place.0
    collection_is (Insert ns o) at = (place-key ns (id_key o) place at).0
    collection_is (Replace ns id o) at = (place-key ns (key_of (tree_of id)) place at).0
    collection_is (SetFields ns id sets unsets) at = (place-key ns (key_of (tree_of id)) place at).0
    collection_is (Delete ns id) at = (place-key ns (key_of (tree_of id)) place at).0
    collection_is Noop at = absurd (cc at)
    collection_is Note at = absurd (cc at)

    short : (entry : Entry) → IsWithinEntry entry → place_of entry.op ≡ Some place → length place.0 ≤ NAME
    short entry size at =
        let same : length (collection_of entry.op) ≡ length place.0 = ap length (collection_is entry.op at) in
        let inside : length (collection_of entry.op) ≤ document_length (document_of entry) = within_document entry.optime _ (collection_of entry.op) _ _ entry.session in
        let bytes : document_length (document_of entry) ≤ 1048576 = size.bytes in
        omega (arith, same, inside, bytes)

fit_saved : (at : OpTime) (log : List Entry) → IsFitLog at log → (place : Place) (document : Fields) → get (docs log) place ≡ Some document → CanBeSaved place document
fit_saved at log fit place document there =
    let is = fit.documents place document there in
    let sizes = not_large document is.small in
    record { short = named_short log place document fit.entries there; key = is.key; bytes = omega (arith, sizes.0); levels = omega (arith, sizes.1) }

-- ---- documents that are listed, with their keys

abbrev pub IsOwn : Kept1 → Type 0
IsOwn one = id_key one.doc ≡ Some one.id

abbrev named : Place × Fields → List ℕ × Fields
named e = (e.0.0, e.1)

placed_all : (kept : List Kept1) (es : List (Place × Fields)) → listed_of kept ≡ map named es → ((one : Kept1) → In one kept → IsOwn one) → ((e : Place × Fields) → In e es → id_key e.1 ≡ Some e.0.1)
    → map placed kept ≡ es
placed_all [] [] same own keys = refl
placed_all [] (e ∷ es) same own keys = absurd (cc same)
placed_all (one ∷ kept) [] same own keys = absurd (cc same)
placed_all (one ∷ kept) (e ∷ es) same own keys =
    ap₂ (λ (x : Place × Fields) (xs : List (Place × Fields)). x ∷ xs) first (placed_all kept es rest (λ o there. own o (inr there)) (λ x there. keys x (inr there)))
  where
    head : ◌≡◌ {A = List ℕ × Fields} (one.ns, one.doc) (e.0.0, e.1)
    head = cc same

    rest : listed_of kept ≡ map named es
    rest = cc same

    document : one.doc ≡ e.1
    document = ap (λ (p : List ℕ × Fields). p.1) head

    key : one.id ≡ e.0.1
    key = same_Some one.id e.0.1 (sym (own one (inl refl)) ∙ ap id_key document ∙ keys e (inl refl))

    first : ◌≡◌ {A = Place × Fields} ((one.ns, one.id), one.doc) e
    first = ap₂ (λ (p : Place) (d : Fields). (p, d)) (ap₂ (λ (n : List ℕ) (k : IdKey). (n, k)) (ap (λ (p : List ℕ × Fields). p.0) head) key) document

entry_keys : (at : OpTime) (log : List Entry) → IsFitLog at log → (e : Place × Fields) → In e (entries (docs log)) → id_key e.1 ≡ Some e.0.1
entry_keys at log fit e there =
    (fit.documents e.0 e.1 (get-entries (docs log) e.0 ∙ found_entry (entries (docs log)) (entries_sorted (docs log)) e there)).key

pub keyed_so : (at : OpTime) (log : List Entry) → IsFitLog at log → All (λ one. IsSome (id_key one.1)) (listed (docs log))
keyed_so at log fit = in_all _ (listed (docs log)) (λ one there. by_entry (entries (docs log)) (entry_keys at log fit) one there)
  where
    some : (found : Option IdKey) (key : IdKey) → found ≡ Some key → IsSome found
    some found key is = subst IsSome (sym is) refl

    by_entry : (es : List (Place × Fields)) → ((e : Place × Fields) → In e es → id_key e.1 ≡ Some e.0.1) → (one : List ℕ × Fields) → In one (map named es) → IsSome (id_key one.1)
    by_entry [] keys one there = absurd there
    by_entry (e ∷ es) keys one (inl same) = subst (λ (x : List ℕ × Fields). IsSome (id_key x.1)) same (some (id_key e.1) e.0.1 (keys e (inl refl)))
    by_entry (e ∷ es) keys one (inr there) = by_entry es (λ x among. keys x (inr among)) one there

-- ---- what the three events show

pub at_end : (sizes : Sizes) (events : List Event) (number : ℕ) (node : Node) → IsThere sizes events number node → IsAt sizes events (length events) number node
at_end sizes events number node is = record { there = ap (λ l. slice_get (run sizes l).world.nodes number) (take-length events) ∙ is.there; up = is.up }

pub fit_there : (sizes : Sizes) (events : List Event) (number : ℕ) (node : Node) → MajorityLogsAreFit sizes events → IsThere sizes events number node
    → IsFitLog (earlier_of node.commit (applied_point node)) (shown_log node Majority)
fit_there sizes events number node fit is = fit (length events) number node (at_end sizes events number node is)

module _ (sizes : Sizes) (number : ℕ) (old new : List Event) (pinned : Pinned) where
  pub record IsShown (second : List Event) (node : Node) : Type 0 where
    pub before : IsThere sizes second number node
    pub is : IsThere sizes new number node
    pub point : ◌≡◌ {A = ℕ × OpTime} (node.term, earlier_of node.commit (applied_point node)) (pinned.term, pinned.at)
    pub entries_are : pinned.entries.items ≡ log_up_to pinned.at node.log
    pub documents_are : listed_of pinned.documents.items ≡ listed (docs (shown_log node Majority))

  shown_by : number < sizes.nodes → (shows : Shows sizes number old new pinned) → NumbersStaySmall sizes shows.first → (node : Node) × IsShown shows.second node
  shown_by known shows small = elim (state_tells sizes old shows.first number shows.state known small shows.asks_state) [
    | inl down ↦ absurd (cc (sym shows.point ∙ ap shown_point down))
    | inr up ↦
        let log = log_tells sizes shows.first shows.second number up.node up.is (reply.Entries shows.log) shows.asks_log in
        let dump = dump_tells sizes shows.second new number up.node log.1 (reply.Documents (listed_of pinned.documents.items)) shows.asks_documents in (
          up.node,
          record {
            before = log.1;
            is = dump.1;
            point = same_Some _ _ (sym (ap shown_point up.answer) ∙ shows.point);
            entries_are = shows.entries ∙ ap (log_up_to pinned.at) (entries_in shows.log up.node.log log.0);
            documents_are = documents_in (listed_of pinned.documents.items) (listed (docs (shown_log up.node Majority))) dump.0;
          },
        )
  ]
    where
      entries_in : (one two : List Entry) → reply.Entries one ≡ reply.Entries two → one ≡ two
      entries_in one two same = cc same

      documents_in : (one two : List (List ℕ × Fields)) → reply.Documents one ≡ reply.Documents two → one ≡ two
      documents_in one two same = cc same

  -- what a node shows can be pinned
  module _ (second : List Event) (node : Node) (shown : IsShown second node) (fit : MajorityLogsAreFit sizes new) where
    abbrev at : OpTime
    at = earlier_of node.commit (applied_point node)

    abbrev log : List Entry
    log = log_up_to at node.log

    fit_log : IsFitLog at log
    fit_log = fit_there sizes new number node fit shown.is

    at_is : at ≡ pinned.at
    at_is = ap (λ (p : ℕ × OpTime). p.1) shown.point

    log_is : pinned.entries.items ≡ log
    log_is = shown.entries_are ∙ ap (λ o. log_up_to o node.log) (sym at_is)

    pinned_of : pinned.at ≢ ZERO → LogsRise sizes new → All IsLawful pinned.entries.items → All IsOwn pinned.documents.items → IsPinned pinned
    pinned_of above rise lawful own = record {
      oplog = record {
        order = subst (λ (l : List Entry). AllPairs StandsBefore l) (sym shown.entries_are)
            (AllPairs-filter StandsBefore (λ (e : Entry). not (is_before pinned.at e.optime)) node.log (rise (length new) number node (at_end sizes new number node shown.is)));
        lawful = lawful;
      };
      last = ap last_of log_is ∙ fit_log.last (λ zero. above (sym at_is ∙ zero)) ∙ at_is;
      above = above;
      within = subst (All IsWithinEntry) (sym log_is) fit_log.entries;
      documents = placed_all pinned.documents.items (entries (docs log)) shown.documents_are (λ one there. all_in IsOwn pinned.documents.items one own there) (entry_keys at log fit_log)
          ∙ ap (λ (l : List Entry). entries (docs l)) (sym log_is);
      can = λ place document there. fit_saved at log fit_log place document (ap (λ (l : List Entry). get (docs l) place) (sym log_is) ∙ there);
    }

  pub pinned_so : number < sizes.nodes → (shows : Shows sizes number old new pinned) → NumbersStaySmall sizes shows.first → LogsRise sizes new → MajorityLogsAreFit sizes new
      → All IsLawful pinned.entries.items → All IsOwn pinned.documents.items → IsPinned pinned
  pinned_so known shows small rise fit lawful own =
      let shown = shown_by known shows small in pinned_of shows.second shown.0 shown.1 fit shows.above rise lawful own

  -- whoever leads in a later term has a log that begins with these entries
  pub leaders_begin : number < sizes.nodes → (shows : Shows sizes number old new pinned) → NumbersStaySmall sizes shows.first → MajorityReads sizes new
      → (place other term : ℕ) (leader : Node) → Leads sizes new place other term leader → pinned.term < term → Begins pinned.entries.items leader.log
  leaders_begin known shows small reads place other term leader leads later =
      subst (λ (l : List Entry). Begins l leader.log) (sym log_is)
      (reads (length shows.second) number answered.event (reply.Documents (listed_of pinned.documents.items)) shown.0
      (record { event_is = answered.there; touches = ap (λ c. touched_node (world_at sizes new (length shows.second)) c) answered.command_is; reply_is = answered.reply_is })
      (ap is_majority_read answered.command_is) refl
      (record { there = ap (λ (w : World). slice_get w.nodes number) seam ∙ shown.1.before.there; up = shown.1.before.up })
      place other term leader leads (subst (λ t. t < term) (sym term_is) later))
    where
      shown : (node : Node) × IsShown shows.second node
      shown = shown_by known shows small

      one : Stepped sizes shows.second new (commands.Dump number Majority) (reply.Documents (listed_of pinned.documents.items))
      one = stepped sizes shows.second new (commands.Dump number Majority) (reply.Documents (listed_of pinned.documents.items)) shows.asks_documents

      answered : IsAnswered sizes new (length shows.second) (commands.Dump number Majority) (reply.Documents (listed_of pinned.documents.items))
      answered = subst (λ l. IsAnswered sizes l (length shows.second) (commands.Dump number Majority) (reply.Documents (listed_of pinned.documents.items))) (sym one.new_is)
          (answered_at sizes shows.second [] one.event (commands.Dump number Majority) (reply.Documents (listed_of pinned.documents.items)) one.command_is one.reply_is)

      seam : world_at sizes new (length shows.second) ≡ (run sizes shows.second).world
      seam = ap (λ l. world_at sizes l (length shows.second)) one.new_is ∙ world_seam sizes shows.second (one.event ∷ [])

      term_is : shown.0.term ≡ pinned.term
      term_is = ap (λ (p : ℕ × OpTime). p.0) shown.1.point

      log_is : pinned.entries.items ≡ shown_log shown.0 Majority
      log_is = shown.1.entries_are ∙ ap (λ o. log_up_to o shown.0.log) (sym (ap (λ (p : ℕ × OpTime). p.1) shown.1.point))
