use Rattle.std.proofs.Common.{◌∙◌, ap, sym, subst, Bool}
use Rattle.read_concern.specs.Shown.{shown_at}
use Rattle.read_concern.specs.declared.reads.Level.{Level}
use Rattle.rs_optime.specs.declared.optime.OpTime.{OpTime}
use Rattle.oplog_entry.specs.Visible.{log_up_to}
use Rattle.set_model.specs.Points.{applied_point}
use Rattle.set_model.specs.Roles.{is_primary}
use Rattle.node_answers.specs.Reading.{level_of}
use Rattle.node_state.specs.Seen.{seen_node}
use Rattle.node_state.specs.StateView.{StateView}
use Rattle.node_state.proofs.StateLemmas.{if_seen}
use Rattle.node_state.proofs.StoredLemmas.{sound_seen}
use Rattle.node_state.proofs.Inside.{rest_in}
use Rattle.node_answers.proofs.ReadingLemmas.{IsShownAt, readable_seen, latest_shown, at_shown}
use Rattle.node_answers.proofs.reads.shown_point.Goals as goal

pub returns-in-Latest : goal.returns-in-Latest
returns-in-Latest c =
    let s = c.state.inside in
    let level_is = ap (λ (l : Level). shown_at l c.is_primary.result s.commit c.applied_point-applied.result) c.concern.ensures in
    let here : IsShownAt (seen_node s.node_data.node (rest_in s)) c.args.level c.local_point.result = record {
      readable = readable_seen s.node_data.node (rest_in s) c.local_point.result c.state.invariant.writable c.local_point.ensures.readable;
      shown = latest_shown (seen_node s.node_data.node (rest_in s)) c.args.level c.is_primary.result s.commit c.applied_point-applied.result c.local_point.result (c.in-Latest.ensures ∙ level_is)
          (c.local_point.ensures.shown ∙ if_seen s.node_data.node.role s.role s.node_data.node.log (log_up_to s.node_data.node.applied s.node_data.node.log) c.state.invariant.writable);
    } in
    let there : IsShownAt c.args.state.now.node c.args.level c.local_point.result = subst (λ (x : StateView). IsShownAt x.node c.args.level c.local_point.result) c.state.view_is here in
    record { readable = there.readable; shown = there.shown }

pub returns-in-At : goal.returns-in-At
returns-in-At c =
    let s = c.state.inside in
    let level_is = ap (λ (l : Level). shown_at l c.is_primary.result s.commit c.applied_point-applied.result) c.concern.ensures in
    let primary_is = ap (λ (b : Bool). shown_at (level_of c.args.level) b s.commit c.applied_point-applied.result) (c.is_primary.ensures ∙ ap (λ (x : StateView). is_primary x.node.role) (sym c.state.view_is)) in
    let applied_is = ap (λ (o : OpTime). shown_at (level_of c.args.level) (is_primary s.role) s.commit o) (c.applied_point-applied.ensures ∙ ap (λ (x : StateView). applied_point x.node) (sym c.state.view_is)) in
    let here : IsShownAt (seen_node s.node_data.node (rest_in s)) c.args.level c.in-At.at =
    at_shown (seen_node s.node_data.node (rest_in s)) c.args.level c.in-At.at c.state.invariant.coherent.points.stable
    (sound_seen s.node_data.node (rest_in s) c.state.invariant.writable c.recall_sound.ensures.node).stable (c.in-At.ensures ∙ level_is ∙ primary_is ∙ applied_is) in
    let there : IsShownAt c.args.state.now.node c.args.level c.in-At.at = subst (λ (x : StateView). IsShownAt x.node c.args.level c.in-At.at) c.state.view_is here in
    record { readable = there.readable; shown = there.shown }
