-- How asking a node may end.
use Rattle.std.proofs.Common.{◌≡◌, ◌≢◌, ◌∙◌, ◌⊎◌, ◌<◌, ⊎_elim, inl, inr, ap, sym, subst, refl, length, Bool, false, ℕ, Option, None, Some, Ok, Err, List, [], ◌∷◌, ◌++◌}
use Rattle.std.proofs.lemmas.Option.{same_Some}
use Rattle.std.specs.List.{All, AllPairs}
use Rattle.std.specs.Io.KnownBytes.{Keeps}
use Rattle.std.specs.Prelude.{IsSome, Result}
use Rattle.bson_doc.specs.Tree.{Fields}
use Rattle.rs_optime.specs.Later.{same_optime}
use Rattle.rs_optime.specs.declared.optime.OpTime.{OpTime}
use Rattle.repl_msg.proofs.HasLemmas.{same_itself}
use Rattle.initial_sync.specs.Pinned.{listed_of}
use Rattle.initial_sync.specs.declared.pinned.Kept1.{Kept1}
use Rattle.initial_sync.specs.declared.pinned.Pinned.{Pinned}
use Rattle.oplog_entry.specs.Docs.{docs}
use Rattle.oplog_entry.specs.Lawful.{IsLawful}
use Rattle.oplog_entry.specs.Log.{IsOplog, StandsBefore}
use Rattle.oplog_entry.specs.Step.{id_key}
use Rattle.oplog_entry.specs.Visible.{ZERO}
use Rattle.oplog_entry.specs.declared.entry.Entry.{Entry}
use Rattle.set_model.specs.declared.command.Command.{Command}
use Rattle.set_model.specs.declared.command.Command.TheVariants as commands
use Rattle.set_model.specs.declared.command.Event.{Event}
use Rattle.set_model.specs.declared.command.ReadLevel.TheVariants.{Majority}
use Rattle.set_model.specs.declared.reply.Refusal.TheVariants.{NodeDown as IsDown}
use Rattle.set_model.specs.declared.reply.Reply.{Reply}
use Rattle.set_model.specs.declared.reply.Reply.TheVariants as reply
use Rattle.set_model.specs.Node.{Node}
use Rattle.set_model.specs.Reads.{listed, shown_log as shown_log_at}
use Rattle.set_model.specs.Run.{Sizes}
use Rattle.safety_laws.specs.Bounds.{NumbersStaySmall}
use Rattle.safety_laws.specs.Logs.{LogsRise}
use Rattle.safety_laws.specs.Majority.{MajorityLogsAreFit}
use Rattle.change_stream.specs.Shown.{shown_log}
use Rattle.sync_words.specs.Putting.{PutsText}
use Rattle.sync_words.specs.Texts.{refusal_text}
use Rattle.sync_words.specs.declared.refusal.SyncRefusal.{SyncRefusal}
use Rattle.sync_words.specs.declared.refusal.SyncRefusal.TheVariants.{NothingCommitted}
use Rattle.sync_words.specs.declared.stop.SyncStop.{SyncStop}
use Rattle.sync_words.specs.declared.stop.SyncStop.TheVariants.{Refused, DiskFault, WriteFault, Memory}
use Rattle.sync_pin.specs.Asking.{AreDone, Asks, AsksPoint, HasRoom, IsRefused, IsUpIn, Pins, Tells}
use Rattle.sync_pin.specs.Showing.{shown_documents, shown_point}
use Rattle.sync_pin.proofs.EventLemmas.{IsThere, dump_tells, dumped, log_tells, state_tells}
use Rattle.sync_pin.proofs.PinLemmas.{at_end, fit_there, keyed_so}

module _ (sizes : Sizes) (node : ℕ) (old new : List Event) (answered : Reply) (known : node < sizes.nodes) (small : NumbersStaySmall sizes new) (tells : Tells sizes old new (commands.State node) answered) where
  -- a reply that shows no point is that of a node that is down
  pub point_down : None ≡ shown_point answered → Tells sizes old new (commands.State node) (reply.Refused IsDown)
  point_down none = ⊎_elim (λ down. subst (λ a. Tells sizes old new (commands.State node) a) down tells)
      (λ up. absurd (cc (none ∙ ap shown_point up.answer))) (state_tells sizes old new node answered known small tells)

  -- any other is that of a node that is up, and stays so
  pub point_up : (point : ℕ × OpTime) → Some point ≡ shown_point answered → IsUpIn sizes node new
  point_up point some = ⊎_elim (λ down. absurd (cc (some ∙ ap shown_point down)))
      (λ up. record { is = up.node; there = up.is.there; up = up.is.up }) (state_tells sizes old new node answered known small tells)

keeps_held : (held : Option (List ℕ)) → Keeps held held
keeps_held None = tt
keeps_held (Some held) = refl

-- ---- the three events

pub point_broken : (sizes : Sizes) (node : ℕ) (old new : List Event) (stop : SyncStop) → stop ≡ Memory → new ≡ old → AsksPoint sizes node old new (Err stop)
point_broken sizes node old new stop is same = subst (λ s. AsksPoint sizes node old new (Err s)) (sym is) same

pub point_stops : (sizes : Sizes) (node : ℕ) (old new : List Event) (stop : SyncStop) → HasRoom sizes node → AsksPoint sizes node old new (Err stop) → Asks sizes node old new (Err stop)
point_stops sizes node old new (Refused why) room asks = subst (IsRefused sizes node old new) (sym asks.0) (room, asks.1)
point_stops sizes node old new DiskFault room asks = absurd asks
point_stops sizes node old new WriteFault room asks = absurd asks
point_stops sizes node old new Memory room asks = (room, inl asks)

pub nothing_committed : (sizes : Sizes) (node : ℕ) (old new : List Event) (term : ℕ) (at : OpTime) → HasRoom sizes node → AsksPoint sizes node old new (Ok (term, at)) → at ≡ ZERO
    → Asks sizes node old new (Err (Refused NothingCommitted))
nothing_committed sizes node old new term at room asks zero =
    (room, record { state = asks.0; asks_state = asks.1; term = term; point = asks.2 ∙ ap (λ (o : OpTime). Some (term, o)) zero })

pub not_zero : (at : OpTime) (test : Bool) → test ≡ same_optime at ZERO → test ≡ false → at ≢ ZERO
not_zero at test is other zero = cc (sym is ∙ other, ap (λ o. same_optime o ZERO) zero ∙ same_itself ZERO)

module _ (sizes : Sizes) (node : ℕ) (old first : List Event) (term : ℕ) (at : OpTime) (room : HasRoom sizes node) (asks : AsksPoint sizes node old first (Ok (term, at))) (above : at ≢ ZERO) where
  broken_off : (new : List Event) (stop : SyncStop) → stop ≡ Memory → (asked unasked : List Command) → asked ++ unasked ≡ commands.Log node ∷ commands.Dump node Majority ∷ []
      → AreDone sizes first asked new → Asks sizes node old new (Err stop)
  broken_off new stop is asked unasked all done = subst (λ s. Asks sizes node old new (Err s)) (sym is) (
    room,
    inr (record {
      first = first;
      state = asks.0;
      asks_state = asks.1;
      term = term;
      at = at;
      point = asks.2;
      above = above;
      asked = asked;
      unasked = unasked;
      all = all;
      done = done;
    }),
  )

  pub log_stops : (new : List Event) (stop : SyncStop) → stop ≡ Memory → new ≡ first → Asks sizes node old new (Err stop)
  log_stops new stop is same = broken_off new stop is [] (commands.Log node ∷ commands.Dump node Majority ∷ []) refl same

  module _ (second : List Event) (log : List Entry) (asks_log : Tells sizes first second (commands.Log node) (reply.Entries log)) where
    pub documents_stop : (new : List Event) (stop : SyncStop) → stop ≡ Memory
        → (new ≡ second) ⊎ ((answered : Reply) × Tells sizes second new (commands.Dump node Majority) answered) → Asks sizes node old new (Err stop)
    documents_stop new stop is (inl same) =
        broken_off new stop is (commands.Log node ∷ []) (commands.Dump node Majority ∷ []) refl (second, reply.Entries log, asks_log, same)
    documents_stop new stop is (inr told) =
        broken_off new stop is (commands.Log node ∷ commands.Dump node Majority ∷ []) [] refl (second, reply.Entries log, asks_log, (new, told.0, told.1, refl))

-- ---- a node that is up shows its log and its documents

there_of : (sizes : Sizes) (node : ℕ) (events : List Event) (up : IsUpIn sizes node events) → IsThere sizes events node up.is
there_of sizes node events up = record { there = up.there; up = up.up }

up_of : (sizes : Sizes) (node : ℕ) (events : List Event) (is : Node) → IsThere sizes events node is → IsUpIn sizes node events
up_of sizes node events is there = record { is = is; there = there.there; up = there.up }

module _ (sizes : Sizes) (node : ℕ) (old new : List Event) (up : IsUpIn sizes node old) (answered : Reply) where
  module _ (tells : Tells sizes old new (commands.Log node) answered) where
    log_is : answered ≡ reply.Entries up.is.log
    log_is = (log_tells sizes old new node up.is (there_of sizes node old up) answered tells).0

    pub log_some : None ≡ shown_log answered → ⊥
    log_some none = absurd (cc (none ∙ ap shown_log log_is))

    pub log_up : IsUpIn sizes node new
    log_up = up_of sizes node new up.is (log_tells sizes old new node up.is (there_of sizes node old up) answered tells).1

    module _ (log : List Entry) (some : Some log ≡ shown_log answered) where
      same_log : log ≡ up.is.log
      same_log = same_Some log up.is.log (some ∙ ap shown_log log_is)

      pub log_told_so : Tells sizes old new (commands.Log node) (reply.Entries log)
      log_told_so = subst (λ a. Tells sizes old new (commands.Log node) a) (log_is ∙ ap (λ l. reply.Entries l) (sym same_log)) tells

      pub log_oplog : LogsRise sizes new → All IsLawful log → IsOplog log
      log_oplog rise lawful = record {
        order = subst (λ (l : List Entry). AllPairs StandsBefore l) (sym same_log)
            (rise (length new) node up.is (at_end sizes new node up.is (log_tells sizes old new node up.is (there_of sizes node old up) answered tells).1));
        lawful = lawful;
      }

  module _ (tells : Tells sizes old new (commands.Dump node Majority) answered) where
    dump_is : answered ≡ dumped up.is
    dump_is = (dump_tells sizes old new node up.is (there_of sizes node old up) answered tells).0

    pub dump_some : None ≡ shown_documents answered → ⊥
    dump_some none = absurd (cc (none ∙ ap shown_documents dump_is))

    module _ (documents : List (List ℕ × Fields)) (some : Some documents ≡ shown_documents answered) where
      same_documents : documents ≡ listed (docs (shown_log_at up.is Majority))
      same_documents = same_Some documents (listed (docs (shown_log_at up.is Majority))) (some ∙ ap shown_documents dump_is)

      pub documents_told : (kept : List Kept1) → listed_of kept ≡ documents → Tells sizes old new (commands.Dump node Majority) (reply.Documents (listed_of kept))
      documents_told kept is =
          subst (λ a. Tells sizes old new (commands.Dump node Majority) a) (dump_is ∙ ap (λ d. reply.Documents d) (sym (is ∙ same_documents))) tells

      pub documents_keyed : MajorityLogsAreFit sizes new → All (λ one. IsSome (id_key one.1)) documents
      documents_keyed fit = subst (All (λ one. IsSome (id_key one.1))) (sym same_documents)
          (keyed_so _ (shown_log_at up.is Majority) (fit_there sizes new node up.is fit (dump_tells sizes old new node up.is (there_of sizes node old up) answered tells).1))

-- ---- the line of a refusal

-- what isn't refused puts nothing
pub pins_quiet : (sizes : Sizes) (node : ℕ) (old new : List Event) (held : Option (List ℕ)) (asked : Result Pinned SyncStop) → ((why : SyncRefusal) → asked ≢ Err (Refused why)) → Asks sizes node old new asked
    → Pins sizes node old new held held asked
pins_quiet sizes node old new held (Ok pinned) unrefused asks = (asks.0, asks.1, keeps_held held)
pins_quiet sizes node old new held (Err (Refused why)) unrefused asks = absurd (unrefused why refl)
pins_quiet sizes node old new held (Err DiskFault) unrefused asks = absurd asks
pins_quiet sizes node old new held (Err WriteFault) unrefused asks = absurd asks
pins_quiet sizes node old new held (Err Memory) unrefused asks = (inl asks, keeps_held held)

-- and a refusal that wasn't put whole
pub pins_stopped : (sizes : Sizes) (node : ℕ) (old new : List Event) (held now : Option (List ℕ)) (why : SyncRefusal) (stop : SyncStop) → IsRefused sizes node old new why
    → PutsText held now (refusal_text why) (Err stop) → stop ≢ DiskFault → Pins sizes node old new held now (Err stop)
pins_stopped sizes node old new held now why (Refused other) refused puts apart = absurd puts
pins_stopped sizes node old new held now why DiskFault refused puts apart = absurd (apart refl)
pins_stopped sizes node old new held now why WriteFault refused puts apart = (why, refused, puts)
pins_stopped sizes node old new held now why Memory refused puts apart = (inr (why, refused), puts)
