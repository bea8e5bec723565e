-- Which wants an event meets can be told by its cause and the node that is kept.
use Rattle.std.proofs.Common.{◌≡◌, ◌↔◌, ◌∙◌, inl, inr, ap, sym, subst, refl, ℕ, true, false, None, Some, List, length, slice_get}
use Rattle.std.proofs.lemmas.Bool.{and_cases}
use Rattle.repl_msg.specs.declared.message.Message.{Message}
use Rattle.set_model.specs.declared.command.Command.{Command}
use Rattle.set_model.specs.declared.reply.Reply.{Reply}
use Rattle.set_model.specs.Node.{Node}
use Rattle.set_model.specs.World.{Step, World, is_delivery, step, takes, task, touched_node}
use Rattle.explore_laws.specs.Alike.{AlikeNodes, AlikeReplies, unnumbered}
use Rattle.explore_laws.specs.Settled.{AreSettled}
use Rattle.explore_words.specs.Texts.{names_message}
use Rattle.explore_words.specs.declared.question.Want.{Want}
use Rattle.explore_words.specs.declared.question.Want.TheVariants.{Event as Happens, Seen}
use Rattle.explore_words.specs.declared.question.WantedEvent.{WantedEvent}
use Rattle.explore_words.specs.declared.question.WantedEvent.TheVariants as wanted
use Rattle.question_laws.specs.Doing.{event_of}
use Rattle.question_laws.specs.Lawful.{IsLawfulWant, MayHave, may_name}
use Rattle.question_laws.specs.Meeting.{IsMet, IsWanted, OnRoute, at_first, begins}
use Rattle.question_laws.proofs.Plain.{own_node, plain_reply, plain_row}
use Rattle.question_laws.proofs.Texts.{begins_blind}
use Rattle.question_laws.proofs.Wants.{first_delivery, first_names}
use Rattle.explore_steps.specs.Causes.{Cause, IsCauseOf, IsMetBy, IsOwnWanted, IsTakenWanted, IsWantedBy, outcome_at, own as own_line, taken}
use Rattle.explore_steps.proofs.Coming.{Comes, comes}

-- ---- which command is looked for

-- a command that a node does by itself takes no message
takes_none : (world : World) (command : Command) (message : Message) → is_delivery command ≡ false → task world command ≡ takes message → ⊥
takes_none world command message own_one is = cc (own_node world command own_one, is)

same_taken : (one two : Message) → takes one ≡ takes two → one ≡ two
same_taken one two same = cc same

module _ (world : World) (command : Command) where
  -- by a line
  module _ (line : Command) (same : command ≡ line) (own_one : is_delivery line ≡ false) where
    is_own : is_delivery command ≡ false
    is_own = ap is_delivery same ∙ own_one

    to_own : (event : WantedEvent) → IsWanted event world command → IsOwnWanted event line
    to_own (wanted.Delivery route) is = takes_none world command is.0 is_own is.1
    to_own (wanted.Heartbeat route) is = (is.0, is.1, sym same ∙ is.2, is.3)
    to_own (wanted.Report route) is = (is.0, is.1, sym same ∙ is.2, is.3)
    to_own (wanted.Common route) is = (is.0, is.1, sym same ∙ is.2, is.3)
    to_own (wanted.Command (Some node) asked) is = sym same ∙ is
    to_own (wanted.Command None asked) is = sym (ap at_first same) ∙ is

    from_own : (event : WantedEvent) → IsOwnWanted event line → IsWanted event world command
    from_own (wanted.Delivery route) is = absurd is
    from_own (wanted.Heartbeat route) is = (is.0, is.1, same ∙ is.2, is.3)
    from_own (wanted.Report route) is = (is.0, is.1, same ∙ is.2, is.3)
    from_own (wanted.Common route) is = (is.0, is.1, same ∙ is.2, is.3)
    from_own (wanted.Command (Some node) asked) is = same ∙ is
    from_own (wanted.Command None asked) is = ap at_first same ∙ is

  -- by a message
  module _ (message : Message) (takes_it : task world command ≡ takes message) where
    to_taken : (event : WantedEvent) (text : List ℕ) → MayHave event text → IsWanted event world command → IsTakenWanted event message
    to_taken (wanted.Delivery route) text may is = subst (λ (m : Message). OnRoute route m.from m.to) (same_taken is.0 message (sym is.1 ∙ takes_it)) is.2
    to_taken (wanted.Heartbeat route) text may is = takes_none world command message (ap is_delivery is.2) takes_it
    to_taken (wanted.Report route) text may is = takes_none world command message (ap is_delivery is.2) takes_it
    to_taken (wanted.Common route) text may is = takes_none world command message (ap is_delivery is.2) takes_it
    to_taken (wanted.Command (Some node) asked) text may is = takes_none world command message (ap is_delivery is ∙ may.0) takes_it
    to_taken (wanted.Command None asked) text may is = takes_none world command message (sym (first_delivery command) ∙ ap is_delivery is ∙ may.0) takes_it

    from_taken : (event : WantedEvent) → IsTakenWanted event message → IsWanted event world command
    from_taken (wanted.Delivery route) is = (message, takes_it, is)
    from_taken (wanted.Heartbeat route) is = absurd is
    from_taken (wanted.Report route) is = absurd is
    from_taken (wanted.Common route) is = absurd is
    from_taken (wanted.Command (Some node) asked) is = absurd is
    from_taken (wanted.Command None asked) is = absurd is

  pub wanted_by : (cause : Cause) (event : WantedEvent) (text : List ℕ) → IsCauseOf world command cause → MayHave event text → IsWanted event world command ↔ IsWantedBy event cause
  wanted_by (own_line line) event text is may = (to_own line is.0 is.1 event, from_own line is.0 is.1 event)
  wanted_by (taken message) event text is may = (to_taken message is event text may, from_taken message is event)

-- ---- what is replied

module _ (nodes : ℕ) (world : World) (command : Command) (number : ℕ) (own node : Node) (cause : Cause) (is : IsCauseOf world command cause)
    (comes_to : Comes nodes cause world command number own node) where
  abbrev said : Reply
  said = (step world (event_of command)).reply

  abbrev kept_reply : Reply
  kept_reply = (outcome_at nodes cause node).reply

  pub replies_alike : AlikeReplies said kept_reply
  replies_alike = ap (λ (s : Step). unnumbered s.reply) comes_to.step_is ∙ comes_to.goes.replies

  -- a text that names no message
  blind_begins : (text : List ℕ) → names_message true text ≡ false → begins said text ≡ begins kept_reply text
  blind_begins text none = begins_blind said text none ∙ ap (λ (r : Reply). begins r text) replies_alike ∙ sym (begins_blind kept_reply text none)

-- a reply that names none
pub plain_same : (nodes : ℕ) (world : World) (command line : Command) (number : ℕ) (own node : Node) → IsCauseOf world command (own_line line) → may_name line ≡ false
    → Comes nodes (own_line line) world command number own node → (step world (event_of command)).reply ≡ (outcome_at nodes (own_line line) node).reply
plain_same nodes world command line number own node is unnamed comes_to =
    sym (plain_reply world (event_of command) (ap may_name is.0 ∙ unnamed) refl)
    ∙ replies_alike nodes world command number own node (own_line line) is comes_to
    ∙ plain_row node nodes 0 false line unnamed

module _ (nodes : ℕ) (world : World) (command : Command) (number : ℕ) (own node : Node) where
  text_by_own : (line : Command) (event : WantedEvent) (text : List ℕ) → IsCauseOf world command (own_line line) → Comes nodes (own_line line) world command number own node
      → MayHave event text → IsOwnWanted event line → begins (step world (event_of command)).reply text ≡ begins (outcome_at nodes (own_line line) node).reply text
  text_by_own line (wanted.Delivery route) text is comes_to may met = absurd met
  text_by_own line (wanted.Heartbeat route) text is comes_to may met = blind_begins nodes world command number own node (own_line line) is comes_to text may
  text_by_own line (wanted.Report route) text is comes_to may met = blind_begins nodes world command number own node (own_line line) is comes_to text may
  text_by_own line (wanted.Common route) text is comes_to may met = blind_begins nodes world command number own node (own_line line) is comes_to text may
  text_by_own line (wanted.Command (Some wanted_node) asked) text is comes_to may met = elim (and_cases (may_name asked) (names_message true text) may.1) [
    | inl unnamed ↦ ap (λ (r : Reply). begins r text) (plain_same nodes world command line number own node is (ap may_name met ∙ unnamed) comes_to)
    | inr none ↦ blind_begins nodes world command number own node (own_line line) is comes_to text none
  ]
  text_by_own line (wanted.Command None asked) text is comes_to may met = elim (and_cases (may_name asked) (names_message true text) may.1) [
    | inl unnamed ↦ ap (λ (r : Reply). begins r text) (plain_same nodes world command line number own node is (sym (first_names line) ∙ ap may_name met ∙ unnamed) comes_to)
    | inr none ↦ blind_begins nodes world command number own node (own_line line) is comes_to text none
  ]

  text_by_taken : (message : Message) (event : WantedEvent) (text : List ℕ) → IsCauseOf world command (taken message) → Comes nodes (taken message) world command number own node
      → MayHave event text → IsTakenWanted event message → begins (step world (event_of command)).reply text ≡ begins (outcome_at nodes (taken message) node).reply text
  text_by_taken message (wanted.Delivery route) text is comes_to may met = blind_begins nodes world command number own node (taken message) is comes_to text may.0
  text_by_taken message (wanted.Heartbeat route) text is comes_to may met = absurd met
  text_by_taken message (wanted.Report route) text is comes_to may met = absurd met
  text_by_taken message (wanted.Common route) text is comes_to may met = absurd met
  text_by_taken message (wanted.Command (Some wanted_node) asked) text is comes_to may met = absurd met
  text_by_taken message (wanted.Command None asked) text is comes_to may met = absurd met

  text_by : (cause : Cause) (event : WantedEvent) (text : List ℕ) → IsCauseOf world command cause → Comes nodes cause world command number own node
      → MayHave event text → IsWantedBy event cause → begins (step world (event_of command)).reply text ≡ begins (outcome_at nodes cause node).reply text
  text_by (own_line line) event text = text_by_own line event text
  text_by (taken message) event text = text_by_taken message event text

  met_by_comes : (cause : Cause) (want : Want) → IsCauseOf world command cause → Comes nodes cause world command number own node → IsLawfulWant want
      → IsMet want world (event_of command) ↔ IsMetBy cause want (outcome_at nodes cause node).reply
  met_by_comes cause (Seen looks) is comes_to lawful = (λ met. absurd met, λ met. absurd met)
  met_by_comes cause (Happens event text) is comes_to lawful = (
    λ met. (by.0 met.0, sym (text_by cause event text is comes_to lawful (by.0 met.0)) ∙ met.1),
    λ met. (by.1 met.0, text_by cause event text is comes_to lawful met.0 ∙ met.1),
  )
    where
      by : IsWanted event world command ↔ IsWantedBy event cause
      by = wanted_by world command cause event text is lawful

  -- at the node that it touches
  pub met_by : (cause : Cause) (want : Want) → length world.nodes ≡ nodes → AreSettled world → IsCauseOf world command cause → touched_node world command ≡ number
      → slice_get world.nodes number ≡ Some own → AlikeNodes own node → IsLawfulWant want → IsMet want world (event_of command) ↔ IsMetBy cause want (outcome_at nodes cause node).reply
  met_by cause want count settled is number_is there alike lawful =
      met_by_comes cause want is (comes nodes world command number own node count number_is there (settled number own there) alike cause is) lawful
