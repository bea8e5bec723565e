-- Each message that was sent can be taken by its receiver.
use Rattle.std.proofs.Common.{◌≡◌, ◌≤◌, ◌<◌, ◌^◌, arith, ap, sym, subst, refl, length, ℕ, Bool, true, false, ◌&&◌, nat_lt, if◌then◌else◌, Option, None, Some, List}
use Rattle.std.proofs.Math.Seq.{take-length}
use Rattle.std.specs.Prelude.{IfSome, Contains}
use Rattle.member_config.specs.declared.config.Config.{Config}
use Rattle.member_config.specs.Rule.{rule}
use Rattle.repl_msg.specs.declared.message.Message.{Message}
use Rattle.repl_msg.specs.Parts.{config_carried, term_asked}
use Rattle.set_model.specs.Changes.{in_new_term}
use Rattle.set_model.specs.declared.command.Event.{Event}
use Rattle.set_model.specs.Deliver.{brings_term, termed}
use Rattle.set_model.specs.Node.{Node}
use Rattle.set_model.specs.Rollback.{common_point}
use Rattle.set_model.specs.Run.{Sizes, AreSizes, run, world_at}
use Rattle.set_model.specs.Safety.{AtMost, RollbacksKeep}
use Rattle.set_model.specs.World.{World}
use Rattle.safety_laws.specs.Bounds.{NumbersStaySmall, IsLawfulConfig, ConfigsAreLawful}
use Rattle.safety_laws.specs.Replies.{RepliesFollow, RepliesFollowAt}
use Rattle.safety_laws.specs.Taking.{MessagesCanBeTaken}

rules_of : (nodes : ℕ) (carried : Option Config) → IfSome carried (IsLawfulConfig nodes) → IfSome carried (λ config. rule config ≡ None)
rules_of nodes None lawful = tt
rules_of nodes (Some config) lawful = lawful.rules

asked_early : (events : ℕ) → events ≤ 4294967295 → (asked : Option ℕ) → IfSome asked (λ term. term ≤ events) → IfSome asked (λ term. term < 2 ^ 63)
asked_early events short None within = tt
asked_early events short (Some term) within = omega (arith, short, within)

-- a term that is taken leaves the log as it was
same_log : (node : Node) (message : Message) → (termed node message).log ≡ node.log
same_log node message = go (brings_term message.body && nat_lt node.term message.term)
  where
    go : (b : Bool) → (if b then in_new_term node message.term None else node).log ≡ node.log
    go true = refl
    go false = refl

pub can_be_taken : (sizes : Sizes) (events : List Event) → AreSizes sizes → NumbersStaySmall sizes events → ConfigsAreLawful sizes events → RepliesFollow sizes events → RollbacksKeep sizes events
    → MessagesCanBeTaken sizes events
can_be_taken sizes events are numbers configs replies rollbacks message node short sent at = record {
  sender =
      let less : message.from < sizes.nodes = (numbers.messages (length events) message sent_there).sender in
      let most : sizes.nodes ≤ 50 = are.most in
      omega (arith, less, most);
  term = let within : message.term ≤ length events = (numbers.messages (length events) message sent_there).term in omega (arith, within, short);
  asked = asked_early (length events) short (term_asked message.body) (numbers.messages (length events) message sent_there).asked;
  config = rules_of sizes.nodes (config_carried message.body) (configs.messages (length events) message sent_there);
  fetched = λ fetched body.
      let follow : RepliesFollowAt sizes events message fetched = replies message fetched short sent body in
      record {
        order = follow.order;
        base = follow.base;
        entries = follow.entries;
        terms = follow.terms;
        documents = λ base_is many. follow.documents message.to node at base_is many;
      };
  common = λ after optimes visible body none. subst (λ log. AtMost node.commit (common_point log after optimes)) (same_log node message)
      (rollbacks (length events) message.to node message after optimes visible at sent_there refl body none (length events) node (omega arith) at.there).0;
}
  where
    last_world : (run sizes events).world ≡ world_at sizes events (length events)
    last_world = ap (λ l. (run sizes l).world) (sym (take-length events))

    sent_there : Contains (world_at sizes events (length events)).messages message
    sent_there = subst (λ (w : World). Contains w.messages message) last_world sent
