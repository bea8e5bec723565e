-- The law of linear reads, of each run that is safe.
use Rattle.std.proofs.Common.{◌≡◌, ◌∙◌, ◌<◌, ◌≤◌, inl, inr, ap, arith, sym, subst, refl, ℕ, suc, Bool, true, false, nat_lt, ltb-true, cond, Some, List, [], ◌∷◌}
use Rattle.std.proofs.lemmas.Bool.{cases_order}
use Rattle.std.proofs.lemmas.Option.{same_Some}
use Rattle.std.specs.FinMap as maps
use Rattle.bson_doc.specs.View.{tree_of}
use Rattle.bson_doc.specs.declared.doc.Value.{Value}
use Rattle.rs_optime.specs.Membership.{In}
use Rattle.rs_optime.specs.declared.optime.OpTime.{OpTime}
use Rattle.rs_optime.proofs.Optimes.{at_most_refl}
use Rattle.oplog_entry.specs.declared.entry.Entry.{Entry}
use Rattle.oplog_entry.specs.Docs.{docs}
use Rattle.oplog_entry.specs.Visible.{log_up_to}
use Rattle.oplog_store.specs.Log.{with_entry}
use Rattle.set_model.specs.declared.command.AckConcern.TheVariants as concerns
use Rattle.set_model.specs.declared.command.Command.{Command}
use Rattle.set_model.specs.declared.command.Command.TheVariants as commands
use Rattle.set_model.specs.declared.command.Event.{Event}
use Rattle.set_model.specs.declared.command.ReadLevel.TheVariants as levels
use Rattle.set_model.specs.declared.command.Target.{Target}
use Rattle.set_model.specs.declared.command.Target.TheVariants as targets
use Rattle.set_model.specs.declared.reply.Reply.{Reply}
use Rattle.set_model.specs.declared.reply.Reply.TheVariants as reply
use Rattle.set_model.specs.Concerns.{ack}
use Rattle.set_model.specs.Node.{Node}
use Rattle.set_model.specs.Points.{if_primary}
use Rattle.set_model.specs.Reads.{document_reply, shown_log}
use Rattle.set_model.specs.Roles.{is_leading}
use Rattle.set_model.specs.Run.{Sizes, world_at}
use Rattle.set_model.specs.Safety.{Answers, IsAt, IsRead, IsSafePoint, Leads, Safe, is_majority_ack, is_refusal}
use Rattle.commit_machine.specs.Words.{AtMost, Begins, Has, Rises}
use Rattle.commit_machine.proofs.Lists.{begins_trans, has_in, has_up_to, up_to_begins, up_to_up_to}
use Rattle.safety_laws.specs.Logs.{LogsRise, LeadersKeep}
use Rattle.safety_laws.proofs.Fetches.{entry_is}
use Rattle.safety_laws.proofs.Merges.{entries_in, has_in_of}
use Rattle.safety_laws.proofs.Orders.{rises_of}
use Rattle.safety_laws.proofs.Parts.{in_has}
use Rattle.linear_read.specs.Linear.{Asks, HoldsAcked, IsConfirmed, IsLinear, LinearLaw, ShowsOf}
use Rattle.linear_read.specs.Written.{EntriesAreWritten, WasWritten, Wrote}
use Rattle.linear_read.proofs.Asked.{DidAt, NotedAt, did_at, noted_at}
use Rattle.linear_read.proofs.Events.{Acked, acked_majority, did}

-- a log that rises has no optime twice
twice : (log : List Entry) (entry : Entry) → Has entry.optime log → Rises (with_entry log entry) → ⊥
twice [] entry has rises = absurd has
twice (other ∷ log) entry has rises = go (nat_lt other.optime.ts entry.optime.ts) refl (twice log entry) has rises
  where
    go : (b : Bool) → nat_lt other.optime.ts entry.optime.ts ≡ b → (Has entry.optime log → Rises (with_entry log entry) → ⊥) → Has entry.optime (other ∷ log)
        → Rises (cond b (other ∷ with_entry log entry) (entry ∷ other ∷ log)) → ⊥
    go true is rest (inl same) rises =
        let less : other.optime.ts < entry.optime.ts = ltb-true other.optime.ts entry.optime.ts is in
        let level : other.optime.ts ≡ entry.optime.ts = ap (λ (o : OpTime). o.ts) same in
        absurd (omega (arith, less, level))
    go true is rest (inr there) rises = rest there rises.1
    go false is rest has rises = let less : entry.optime.ts < entry.optime.ts = (rises.0 entry.optime has).0 in absurd (omega (arith, less))

module _ (sizes : Sizes) (events : List Event) (safe : Safe sizes events) (logs : LogsRise sizes events) (keeps : LeadersKeep sizes events) (written : EntriesAreWritten sizes events) where
  pub rises : (place number : ℕ) (node : Node) → IsAt sizes events place number node → Rises node.log
  rises place number node at = rises_of node.log (logs place number node at)

  pub same_node : (place number : ℕ) (one two : Node) → IsAt sizes events place number one → IsAt sizes events place number two → one ≡ two
  same_node place number one two first second = same_Some one two (sym first.there ∙ second.there)

  -- ---- what an acknowledgement at majority tells

  pub record AckedAt (place number : ℕ) (at : OpTime) (node : Node) : Type 0 where
    pub leads : Leads sizes events (suc place) number at.term node
    pub has : Has at node.log
    pub within : AtMost at node.commit

  acked_node : (place number : ℕ) (event : Event) (own : ℕ) (target : Target) (at : OpTime) → Answers sizes events place number event (reply.Acked at) → event.command ≡ commands.Ack own target concerns.Majority
      → (node : Node) → IsAt sizes events (suc place) number node → AckedAt place number at node
  acked_node place number event own target at answers is node node_at =
      let there : DidAt sizes events place number (λ n. ack n target concerns.Majority) (reply.Acked at) =
      did_at sizes events place number event (λ n. ack n target concerns.Majority) (reply.Acked at) answers
      (did (world_at sizes events place) event (commands.Ack own target concerns.Majority) own (λ n. ack n target concerns.Majority) (reply.Acked at) is refl (λ n. refl) refl answers.reply_is) in
      let tells : Acked there.node (ack there.node target concerns.Majority).node at = acked_majority there.node target at there.told in
      let same : there.node ≡ node = sym tells.new_is ∙ same_Some (ack there.node target concerns.Majority).node node (sym there.next ∙ node_at.there) in
      record {
        leads = record {
          at = node_at;
          term_is = ap (λ (n : Node). n.term) (sym same) ∙ sym tells.term_is;
          role = ap (λ (n : Node). is_leading n.role) (sym same) ∙ ap is_leading tells.primary;
        };
        has = subst (λ (n : Node). Has at n.log) same (entry_is there.node.log at tells.has);
        within = subst (λ (n : Node). AtMost at n.commit) same tells.within;
      }

  pub acked_at : (place number : ℕ) (event : Event) (at : OpTime) → Answers sizes events place number event (reply.Acked at) → is_majority_ack event.command ≡ true
      → (node : Node) → IsAt sizes events (suc place) number node → AckedAt place number at node
  acked_at place number event at answers asks node node_at = go event.command refl asks
    where
      go : (command : Command) → event.command ≡ command → is_majority_ack command ≡ true → AckedAt place number at node
      go (commands.Ack own target concerns.Majority) is asks = acked_node place number event own target at answers is node node_at
      go (commands.Ack own target (concerns.Count count)) is asks = absurd (cc asks)
      go command is asks = absurd (cc asks)

  -- the node after such an acknowledgement
  pub acked_here : (place number : ℕ) (at : OpTime) → Asks sizes events place number (commands.Ack number (targets.At at) concerns.Majority) (reply.Acked at)
      → (node : Node) × IsAt sizes events (suc place) number node × AckedAt place number at node
  acked_here place number at asks =
      let there : DidAt sizes events place number (λ n. ack n (targets.At at) concerns.Majority) (reply.Acked at) =
      did_at sizes events place number asks.event (λ n. ack n (targets.At at) concerns.Majority) (reply.Acked at) asks.answers
      (did (world_at sizes events place) asks.event (commands.Ack number (targets.At at) concerns.Majority) number (λ n. ack n (targets.At at) concerns.Majority) (reply.Acked at)
      asks.command_is refl (λ n. refl) refl asks.answers.reply_is) in
      let tells : Acked there.node (ack there.node (targets.At at) concerns.Majority).node at = acked_majority there.node (targets.At at) at there.told in
      let node_at : IsAt sizes events (suc place) number there.node = record { there = there.next ∙ ap (λ n. Some n) tells.new_is; up = there.before.up } in
      (there.node, node_at, acked_node place number asks.event number (targets.At at) at asks.answers asks.command_is there.node node_at)

  -- ---- the law

  module _ (place number : ℕ) (node : Node) (confirmed : IsConfirmed sizes events place number node) where
    pub leads : Leads sizes events place number confirmed.at.term node
    leads = record { at = confirmed.node_at; term_is = confirmed.term_is; role = ap is_leading confirmed.role }

    -- the note was new: no leader of its term had it in a log before it was written
    pub note_is_new : (h m term : ℕ) (other : Node) → h ≤ place → Leads sizes events h m term other → Has confirmed.at other.log → ⊥
    note_is_new h m term other order other_leads has = twice noted_here.old.log noted_here.entry
        (subst (λ o. Has o noted_here.old.log) (found.2 ∙ sym noted_here.at_is) (in_has found.0 noted_here.old.log kept))
        (subst (λ (l : List Entry). Rises l) noted_here.more (rises (suc confirmed.noted) number noted_here.new noted_here.next))
      where
        noted_here : NotedAt sizes events confirmed.noted number confirmed.at
        noted_here = noted_at sizes events confirmed.noted number confirmed.at confirmed.notes

        found : (entry : Entry) × In entry other.log × (entry.optime ≡ confirmed.at)
        found = has_in_of confirmed.at other.log has

        was : WasWritten sizes events h found.0
        was = written.logs h m other other_leads.at.there found.0 found.1

        wrote : Wrote sizes events was.0 found.0
        wrote = was.2

        same_term : found.0.optime.term ≡ confirmed.at.term
        same_term = ap (λ (o : OpTime). o.term) found.2

        own : wrote.number ≡ number
        own = safe.one_primary (suc was.0) confirmed.noted wrote.number number confirmed.at.term wrote.new noted_here.old
            (subst (λ t. Leads sizes events (suc was.0) wrote.number t wrote.new) same_term wrote.next) noted_here.before

        kept : In found.0 noted_here.old.log
        kept = keeps (suc was.0) confirmed.noted number confirmed.at.term wrote.new noted_here.old
            (let first : was.0 < h = was.1 in let late : place ≤ confirmed.noted = confirmed.later in omega (arith, first, order, late))
            (subst (λ n. Leads sizes events (suc was.0) n confirmed.at.term wrote.new) own
            (subst (λ t. Leads sizes events (suc was.0) wrote.number t wrote.new) same_term wrote.next))
            noted_here.before found.0 (subst (λ l. In found.0 l) (sym wrote.more) (entries_in found.0 wrote.old.log (found.0 ∷ []) (inr (inl refl))))

    holds_acked : HoldsAcked sizes events place node
    holds_acked h m event at other less answers asks other_at = elim (cases_order at.term confirmed.at.term) [
      | inl same ↦
          let own : m ≡ number = safe.one_primary (suc h) place m number confirmed.at.term other node (subst (λ t. Leads sizes events (suc h) m t other) same acks.leads) leads in
          in_one_term (subst (λ n. IsAt sizes events (suc h) n other) own other_at)
      | inr apart ↦ elim apart [
        | inl earlier ↦ safe_point.1 place number confirmed.at.term node leads (let own : other.term ≡ at.term = acks.leads.term_is in omega (arith, own, earlier))
        | inr later ↦ absurd (note_is_new (suc h) m at.term other (omega (arith, less)) acks.leads (has_note later))
      ]
    ]
      where
        acks : AckedAt h m at other
        acks = acked_at h m event at answers asks other other_at

        safe_point : IsSafePoint sizes events (suc h) other at
        safe_point = safe.committed_stay.acknowledged h m event at answers asks other other_at

        -- in one term it is one node, whose commit point stays or rises
        in_one_term : IsAt sizes events (suc h) number other → Begins (log_up_to at other.log) node.log
        in_one_term own_at = elim (cases_order (suc h) place) [
          | inl level ↦ subst (λ (n : Node). Begins (log_up_to at other.log) n.log)
              (same_node place number other node (subst (λ i. IsAt sizes events i number other) level own_at) confirmed.node_at)
              (up_to_begins at other.log (rises (suc h) number other own_at))
          | inr apart ↦ elim apart [
            | inl before ↦ begins_trans (log_up_to at other.log) (log_up_to other.commit other.log) node.log
                (up_to_up_to at other.commit other.log (rises (suc h) number other own_at) acks.within)
                (safe.no_removal (suc h) place number other node before own_at confirmed.node_at)
            | inr after ↦ absurd (omega (arith, less, after))
          ]
        ]

        -- who leads in a later term has the note, since it was acknowledged
        has_note : confirmed.at.term < at.term → Has confirmed.at other.log
        has_note later = has_in confirmed.at (log_up_to confirmed.at last.0.log) other.log
            (last_safe.1 (suc h) m at.term other acks.leads (let own : last.0.term ≡ confirmed.at.term = last.2.leads.term_is in omega (arith, own, later)))
            (has_up_to confirmed.at confirmed.at last.0.log last.2.has (at_most_refl confirmed.at))
          where
            last : (n : Node) × IsAt sizes events (suc confirmed.acked) number n × AckedAt confirmed.acked number confirmed.at n
            last = acked_here confirmed.acked number confirmed.at confirmed.acks

            last_safe : IsSafePoint sizes events (suc confirmed.acked) last.0 confirmed.at
            last_safe = safe.committed_stay.acknowledged confirmed.acked number confirmed.acks.event confirmed.at confirmed.acks.answers (ap is_majority_ack confirmed.acks.command_is) last.0 last.1

  module _ (place number : ℕ) (node : Node) (collection : List ℕ) (id : Value) (shown : Reply) (linear : IsLinear sizes events place number node collection id shown) where
    shows_of : is_refusal shown ≡ false → ShowsOf node.log collection (tree_of id) shown
    shows_of taken = record {
      key = reads.key;
      key_is = reads.key_is;
      shows = reads.shows ∙ ap (λ (l : List Entry). document_reply (maps.get (docs l) (collection, reads.key))) whole;
    }
      where
        reads : IsRead sizes events node levels.Local collection (tree_of id) shown
        reads = safe.documents.read place number number linear.reads.event shown levels.Local collection id node linear.reads.answers linear.reads.command_is linear.confirmed.node_at.there taken

        -- at a primary a local read shows the whole log
        whole : shown_log node levels.Local ≡ node.log
        whole = ap (λ role. if_primary role node.log (log_up_to node.applied node.log)) linear.confirmed.role

  pub linear_law : LinearLaw sizes events
  linear_law place number node collection id shown linear =
      (holds_acked place number node linear.confirmed, shows_of place number node collection id shown linear)
