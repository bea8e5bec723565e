use Rattle.std.proofs.Common.{◌≤◌, ap, length, nat_lt, refl, subst, List}
use Rattle.oplog_entry.specs.declared.entry.Entry.{Entry}
use Rattle.repl_msg.specs.declared.message.FetchReply.{FetchReply}
use Rattle.set_model.specs.Fetching.{entries_told}
use Rattle.set_model.specs.Stores.{finished}
use Rattle.node_messages.proofs.ForeseenLemmas.{there}
use Rattle.node_messages.proofs.TakenLemmas.{foretold, ready_fetched}
use Rattle.node_messages.proofs.fetching.prepare_taking.Goals as goal

pub returns-clause-told : goal.returns-clause-told
returns-clause-told c =
    let term = c.args.message.now.term in
    let from = c.args.message.now.from in
    let raised = nat_lt c.args.state.now.node.term term in
    foretold _ raised term _ c.args.state.now.node c.make_room.new.state.node
    (λ items. ap (λ (r : FetchReply). finished (entries_told (there raised term c.args.state.now.node items) from r)) c.in_ok-reply.ensures) c.make_room.ensures.node

pub returns-clause-ready : goal.returns-clause-ready
returns-clause-ready c =
    let term = c.args.message.now.term in
    let raised = nat_lt c.args.state.now.node.term term in
    ready_fetched raised c.args.state.now.node c.make_room.new.state term c.in_ok-reply.reply c.args.reply.now c.make_room.ensures.node c.in_ok-reply.ensures
    refl c.in_ok-make_room.ensures.place c.requires.fetched
    (subst (λ (list : List Entry). length list ≤ c.make_room.new.state.spare) c.as_slice.ensures.entries c.in_ok-make_room.ensures.room)
