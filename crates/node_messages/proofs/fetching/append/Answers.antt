use Rattle.std.proofs.Common.{◌∙◌, ap, sym, subst, fold, map, List}
use Rattle.rs_optime.proofs.Optimes.{at_most_refl}
use Rattle.oplog_entry.specs.declared.entry.Entry.{Entry}
use Rattle.repl_msg.specs.Fetching.{continues}
use Rattle.set_model.specs.Points.{last_point}
use Rattle.set_model.specs.Roles.{is_primary}
use Rattle.oplog_store.specs.Unjournaled.{Optimes, with_optime}
use Rattle.node_state.specs.StateView.{StateView}
use Rattle.node_state.specs.Seen.{seen_node}
use Rattle.set_model.specs.Taking.{CanTakeEntries}
use Rattle.node_state.proofs.Inside.{rest_in}
use Rattle.node_state.proofs.StateLemmas.{primary_seen}
use Rattle.node_messages.proofs.JoinedLemmas.{state-appended, fetched_later, fetched_oplog, fetched_small}
use Rattle.node_messages.proofs.fetching.append.Goals as goal

pub append-requires-clause-role : goal.append-requires-clause-role
append-requires-clause-role c =
    primary_seen c.state.inside.node_data.node.role c.state.inside.role c.state.invariant.writable
    ∙ ap (λ (s : StateView). is_primary s.node.role) c.state.view_is ∙ ap is_primary c.requires.role

pub append-requires-clause-oplog : goal.append-requires-clause-oplog
append-requires-clause-oplog c =
    fetched_oplog (seen_node c.state.inside.node_data.node (rest_in c.state.inside)) c.state.inside.term c.args.reply c.into_entries.result.items c.into_entries.ensures.entries
    (subst (λ (s : StateView). CanTakeEntries s.node s.node.term c.args.reply) (sym c.state.view_is) c.requires.fetched)
    (ap (λ (s : StateView). continues (last_point s.node) c.args.reply) c.state.view_is ∙ c.requires.base)
    c.recall_sound.ensures.node.oplog

pub append-requires-clause-later : goal.append-requires-clause-later
append-requires-clause-later c =
    fetched_later (seen_node c.state.inside.node_data.node (rest_in c.state.inside)) c.state.inside.term c.args.reply c.into_entries.result.items (last_point c.state.inside.node_data.node) c.into_entries.ensures.entries
    (subst (λ (s : StateView). CanTakeEntries s.node s.node.term c.args.reply) (sym c.state.view_is) c.requires.fetched)
    (ap (λ (s : StateView). continues (last_point s.node) c.args.reply) c.state.view_is ∙ c.requires.base)
    (at_most_refl (last_point c.state.inside.node_data.node))

pub append-requires-clause-small : goal.append-requires-clause-small
append-requires-clause-small c =
    fetched_small (seen_node c.state.inside.node_data.node (rest_in c.state.inside)) c.state.inside.term c.args.reply c.into_entries.result.items c.into_entries.ensures.entries
    (subst (λ (s : StateView). CanTakeEntries s.node s.node.term c.args.reply) (sym c.state.view_is) c.requires.fetched)
    (ap (λ (s : StateView). continues (last_point s.node) c.args.reply) c.state.view_is ∙ c.requires.base)
    c.recall_sound.ensures.node.documents

pub invariant_of-state : goal.invariant_of-state
invariant_of-state c =
    state-appended c.state.inside.node_data.node c.append.new.self.node (rest_in c.state.inside) c.args.reply c.into_entries.result.items c.state.inside.unjournaled.optimes c.note_all.new.unjournaled.optimes
    c.into_entries.ensures.entries c.append.ensures.node (ap (λ (u : Optimes). u.optimes) c.note_all.ensures ∙ ap (λ (list : List Entry). fold with_optime c.state.inside.unjournaled.optimes (map (λ (e : Entry). e.optime) list)) c.as_slice.ensures.entries)
    (subst (λ (s : StateView). CanTakeEntries s.node s.node.term c.args.reply) (sym c.state.view_is) c.requires.fetched)
    (ap (λ (s : StateView). continues (last_point s.node) c.args.reply) c.state.view_is ∙ c.requires.base)
    c.recall_sound.ensures.node.oplog c.state.invariant
