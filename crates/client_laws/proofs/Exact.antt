-- The log of a primary that is confirmed has exactly the acknowledged entries that were written before.
use Rattle.std.proofs.Common.{◌≡◌, ◌≤◌, ◌<◌, inl, inr, ap, sym, subst, arith, refl, ℕ, suc, List, [], ◌∷◌}
use Rattle.std.proofs.lemmas.Bool.{cases_order}
use Rattle.rs_optime.specs.Membership.{In}
use Rattle.rs_optime.specs.declared.optime.OpTime.{OpTime}
use Rattle.rs_optime.proofs.Optimes.{at_most_refl, at_most_term, at_most_trans, before_at_most}
use Rattle.oplog_entry.specs.Visible.{log_up_to}
use Rattle.oplog_entry.specs.declared.entry.Entry.{Entry}
use Rattle.set_model.specs.declared.command.Event.{Event}
use Rattle.set_model.specs.Node.{Node}
use Rattle.set_model.specs.Run.{Sizes}
use Rattle.set_model.specs.Safety.{IsAt, Leads, Safe, is_majority_ack}
use Rattle.commit_machine.specs.Words.{AtMost, Before, Begins, Has, Rises}
use Rattle.commit_machine.proofs.Growth.{in_append}
use Rattle.commit_machine.proofs.Lists.{has_in, has_up_to, rises_across, up_to_has}
use Rattle.safety_laws.specs.Logs.{LeadersAddTheirOwn, LeadersHadWhatIsBefore, LeadersKeep, LogsRise, NextOptimesAreLast}
use Rattle.safety_laws.proofs.Merges.{entries_in, has_in_of}
use Rattle.safety_laws.proofs.Parts.{in_has}
use Rattle.linear_read.specs.Linear.{IsConfirmed, LinearLaw}
use Rattle.linear_read.specs.Written.{EntriesAreWritten, WasWritten}
use Rattle.linear_read.proofs.Asked.{NotedAt, noted_at}
use Rattle.linear_read.proofs.LinearReads.{AckedAt, acked_here, leads, note_is_new, rises}
use Rattle.client_laws.specs.Acknowledged.{IsAcked, IsAcknowledged, WasAcknowledged}
use Rattle.client_laws.specs.Linearizable.{ConfirmedLogsAreExact, LinearReadsAreExact, LinearReadsGrow}
use Rattle.client_laws.proofs.Acked.{in_begins, in_up_to, stays, tells, up_to_in}

module _ (sizes : Sizes) (events : List Event) (safe : Safe sizes events) (logs : LogsRise sizes events) (keeps : LeadersKeep sizes events) (written : EntriesAreWritten sizes events) where
  -- who wrote an entry has it, wherever it leads in that term later
  pub writer_keeps : (place number : ℕ) (node : Node) (entry : Entry) → WasWritten sizes events place entry → Leads sizes events place number entry.optime.term node → In entry node.log
  writer_keeps place number node entry was leads_there =
      keeps (suc was.0) place number entry.optime.term was.2.new node (let first : was.0 < place = was.1 in omega (arith, first))
      (subst (λ n. Leads sizes events (suc was.0) n entry.optime.term was.2.new)
      (safe.one_primary (suc was.0) place was.2.number number entry.optime.term was.2.new node was.2.next leads_there) was.2.next)
      leads_there entry (subst (λ l. In entry l) (sym was.2.more) (entries_in entry was.2.old.log (entry ∷ []) (inr (inl refl))))

  module _ (place number : ℕ) (node : Node) (confirmed : IsConfirmed sizes events place number node) where
    abbrev term : ℕ
    term = confirmed.at.term

    pub here : Leads sizes events place number term node
    here = leads sizes events safe logs keeps written place number node confirmed

    new_note : (h m t : ℕ) (other : Node) → h ≤ place → Leads sizes events h m t other → Has confirmed.at other.log → ⊥
    new_note = note_is_new sizes events safe logs keeps written place number node confirmed

    -- the node as it acknowledged the note
    pub last : (n : Node) × IsAt sizes events (suc confirmed.acked) number n × AckedAt sizes events safe logs keeps written confirmed.acked number confirmed.at n
    last = acked_here sizes events safe logs keeps written confirmed.acked number confirmed.at confirmed.acks

    pub last_acked : IsAcked sizes events confirmed.acked number confirmed.at last.0
    last_acked = record {
      event = confirmed.acks.event;
      answers = confirmed.acks.answers;
      asks = ap is_majority_ack confirmed.acks.command_is;
      node_at = last.1;
    }

    -- it came later
    late : place ≤ suc confirmed.acked
    late = elim (cases_order (suc confirmed.acked) place) [
      | inl level ↦ omega (arith, level)
      | inr apart ↦ elim apart [
        | inl before ↦ absurd (new_note (suc confirmed.acked) number term last.0 (omega (arith, before)) last.2.leads last.2.has)
        | inr after ↦ omega (arith, after)
      ]
    ]

    -- whoever leads in a later term has the log up to the note
    pub later_begins : (j m t : ℕ) (leader : Node) → Leads sizes events j m t leader → term < t → Begins (log_up_to confirmed.at last.0.log) leader.log
    later_begins j m t leader leads_there later = (stays sizes events safe logs keeps written confirmed.acked number confirmed.at last.0 last_acked).1
        j m t leader leads_there (let own : last.0.term ≡ term = last.2.leads.term_is in omega (arith, own, later))

    pub has_note : (j m t : ℕ) (leader : Node) → Leads sizes events j m t leader → term < t → Has confirmed.at leader.log
    has_note j m t leader leads_there later = has_in confirmed.at (log_up_to confirmed.at last.0.log) leader.log (later_begins j m t leader leads_there later)
        (has_up_to confirmed.at confirmed.at last.0.log last.2.has (at_most_refl confirmed.at))

    -- ---- no more

    noted_here : NotedAt sizes events confirmed.noted number confirmed.at
    noted_here = noted_at sizes events confirmed.noted number confirmed.at confirmed.notes

    acknowledged : NextOptimesAreLast sizes events → (entry : Entry) → In entry node.log → WasAcknowledged sizes events entry
    acknowledged next entry there = (
      log_up_to confirmed.at last.0.log,
      record {
        place = confirmed.acked;
        number = number;
        at = confirmed.at;
        node = last.0;
        acked = last_acked;
        log_is = refl;
      },
      in_up_to entry confirmed.at last.0.log (keeps place (suc confirmed.acked) number term node last.0 late here last.2.leads entry there) (before_at_most entry.optime confirmed.at earlier),
    )
      where
        earlier : Before entry.optime confirmed.at
        earlier = subst (λ o. Before entry.optime o) noted_here.next_is (next confirmed.noted number noted_here.old noted_here.before.at entry
            (keeps place confirmed.noted number term node noted_here.old confirmed.later here noted_here.before entry there))

    -- ---- no less

    module _ (adds : LeadersAddTheirOwn sizes events) (had : LeadersHadWhatIsBefore sizes events) (entry : Entry) (log : List Entry) (acked : IsAcknowledged sizes events log) (there : In entry log)
        (was : WasWritten sizes events place entry) where
      told : AckedAt sizes events safe logs keeps written acked.place acked.number acked.at acked.node
      told = tells sizes events safe logs keeps written acked.place acked.number acked.at acked.node acked.acked

      up_to : In entry (log_up_to acked.at acked.node.log)
      up_to = subst (λ (l : List Entry). In entry l) acked.log_is there

      in_log : In entry acked.node.log
      in_log = up_to_in entry acked.at acked.node.log up_to

      within : AtMost entry.optime acked.at
      within = (up_to_has entry.optime acked.at acked.node.log (in_has entry (log_up_to acked.at acked.node.log) up_to)).1

      own_term : acked.node.term ≡ acked.at.term
      own_term = told.leads.term_is

      -- an entry of the node's term it wrote itself
      of_term : entry.optime.term ≡ term → In entry node.log
      of_term same = writer_keeps place number node entry was (subst (λ t. Leads sizes events place number t node) (sym same) here)

      -- an entry of a later term was written by one who had the note, which wasn't written yet
      of_later : term < entry.optime.term → ⊥
      of_later later = new_note was.0 was.2.number entry.optime.term was.2.old (let first : was.0 < place = was.1 in omega (arith, first)) was.2.before
          (subst (λ o. Has o was.2.old.log) note.2 (in_has note.0 was.2.old.log
          (had (suc acked.place) was.0 acked.number was.2.number acked.node was.2.old entry note.0 acked.acked.node_at in_log (at_most_trans entry.optime acked.at acked.node.commit within told.within)
          note.1 (let same : note.0.optime.term ≡ term = ap (λ (o : OpTime). o.term) note.2 in omega (arith, same, later)) was.2.before)))
        where
          note : (e : Entry) × In e acked.node.log × (e.optime ≡ confirmed.at)
          note = has_in_of confirmed.at acked.node.log (has_note (suc acked.place) acked.number acked.at.term acked.node told.leads
              (let most : entry.optime.term ≤ acked.at.term = at_most_term entry.optime acked.at within in omega (arith, most, later)))

      -- an entry of an earlier term
      of_earlier : entry.optime.term < term → In entry node.log
      of_earlier older = elim (cases_order acked.at.term term) [
        | inl same ↦
            let leads_too : Leads sizes events (suc acked.place) acked.number term acked.node = subst (λ t. Leads sizes events (suc acked.place) acked.number t acked.node) same told.leads in
            let one : acked.number ≡ number = safe.one_primary (suc acked.place) place acked.number number term acked.node node leads_too here in
            adds place (suc acked.place) number term node acked.node here (subst (λ n. Leads sizes events (suc acked.place) n term acked.node) one leads_too) entry in_log older
        | inr apart ↦ elim apart [
          | inl before ↦ in_begins entry (log_up_to acked.at acked.node.log) node.log
              ((stays sizes events safe logs keeps written acked.place acked.number acked.at acked.node acked.acked).1 place number term node here (omega (arith, own_term, before))) up_to
          | inr after ↦ from_last (later_begins (suc acked.place) acked.number acked.at.term acked.node told.leads after)
        ]
      ]
        where
          -- a later leader began with what the node had at the acknowledgement of the note
          from_last : Begins (log_up_to confirmed.at last.0.log) acked.node.log → In entry node.log
          from_last begins = elim (in_append entry (log_up_to confirmed.at last.0.log) begins.0 (subst (λ (l : List Entry). In entry l) begins.1 in_log)) [
            | inl front ↦ adds place (suc confirmed.acked) number term node last.0 here last.2.leads entry (up_to_in entry confirmed.at last.0.log front) older
            | inr rest ↦
                let follows : (confirmed.at.ts < entry.optime.ts) × (term ≤ entry.optime.term) =
                rises_across confirmed.at entry.optime (log_up_to confirmed.at last.0.log) begins.0
                (subst (λ (l : List Entry). Rises l) begins.1 (rises sizes events safe logs keeps written (suc acked.place) acked.number acked.node acked.acked.node_at))
                (has_up_to confirmed.at confirmed.at last.0.log last.2.has (at_most_refl confirmed.at)) (in_has entry begins.0 rest) in
                let order : term ≤ entry.optime.term = follows.1 in
                absurd (omega (arith, order, older))
          ]

      no_less : In entry node.log
      no_less = elim (cases_order entry.optime.term term) [
        | inl same ↦ of_term same
        | inr apart ↦ elim apart [
          | inl older ↦ of_earlier older
          | inr later ↦ absurd (of_later later)
        ]
      ]

  -- ---- the laws

  module _ (adds : LeadersAddTheirOwn sizes events) (had : LeadersHadWhatIsBefore sizes events) (next : NextOptimesAreLast sizes events) where
    pub exact : ConfirmedLogsAreExact sizes events
    exact place number node confirmed = record {
      no_more = λ entry there. (acknowledged place number node confirmed next entry there, written.logs place number node confirmed.node_at.there entry there);
      no_less = λ entry acked was. no_less place number node confirmed adds had entry acked.0 acked.1 acked.2 was;
    }

    pub reads_exact : LinearLaw sizes events → LinearReadsAreExact sizes events
    reads_exact law place number node collection id shown linear = (exact place number node linear.confirmed, (law place number node collection id shown linear).1)

    pub reads_grow : LinearReadsGrow sizes events
    reads_grow i j n m one two order first second entry there =
        let seen : WasAcknowledged sizes events entry × WasWritten sizes events i entry = (exact i n one first).no_more entry there in
        (exact j m two second).no_less entry seen.0 (seen.1.0, (let early : seen.1.0 < i = seen.1.1 in omega (arith, early, order)), seen.1.2)
