use Rattle.std.proofs.Common.{◌∙◌, ap, sym}
use Rattle.rs_optime.specs.declared.optime.OpTime.{OpTime}
use Rattle.repl_msg.specs.Votes.{refusal_of}
use Rattle.set_model.specs.Votes.{vote_refusal}
use Rattle.node_state.specs.StateView.{StateView}
use Rattle.node_messages.proofs.VoteLemmas.{granted_none, refused_some}
use Rattle.node_messages.proofs.votes.vote_refusal.Goals as goal

pub returns-in-Ok : goal.returns-in-Ok
returns-in-Ok c =
    let s = c.state.inside in
    granted_none _ _ _ (sym c.in-Ok.is ∙ c.decide.ensures)
    ∙ ap (λ (at : OpTime). refusal_of s.term s.vote (s.config.term, s.config.version) at c.args.ask.now) c.last.ensures
    ∙ ap (λ (n : StateView). vote_refusal n.node c.args.ask.now) c.state.view_is

pub returns-in-Err : goal.returns-in-Err
returns-in-Err c =
    let s = c.state.inside in
    refused_some _ _ _ (sym c.in-Err.is ∙ c.decide.ensures)
    ∙ ap (λ (at : OpTime). refusal_of s.term s.vote (s.config.term, s.config.version) at c.args.ask.now) c.last.ensures
    ∙ ap (λ (n : StateView). vote_refusal n.node c.args.ask.now) c.state.view_is
