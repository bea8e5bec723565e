-- The delivery of a dead message leaves the world and the wants as they were.
use Rattle.std.proofs.Common.{◌≡◌, ◌∙◌, inl, inr, ap, sym, refl, true, false, None, Some, List, [], ◌∷◌}
use Rattle.repl_msg.specs.declared.message.Message.{Message}
use Rattle.safety_laws.specs.Quiet.{Stays}
use Rattle.set_model.specs.declared.command.Command.{Command}
use Rattle.set_model.specs.World.{World, is_delivery, step, takes, task}
use Rattle.explore_laws.specs.Dead.{is_dead_in}
use Rattle.explore_laws.specs.Laws.{DeadMessagesChangeNothing}
use Rattle.explore_laws.proofs.Untaken.{are_untaken}
use Rattle.explore_words.specs.declared.question.Want.{Want}
use Rattle.explore_words.specs.declared.question.Want.TheVariants.{Event as Happens, Seen}
use Rattle.explore_words.specs.declared.question.WantedEvent.TheVariants as wanted
use Rattle.question_laws.specs.Doing.{event_of}
use Rattle.question_laws.specs.Lawful.{AreLawful, IsLawfulWant}
use Rattle.question_laws.specs.Meeting.{IsMet, LeavesAfter, unseen}
use Rattle.question_laws.proofs.Plain.{own_node}
use Rattle.question_laws.proofs.Texts.{untaken_idle}
use Rattle.question_laws.proofs.Wants.{first_delivery}

module _ (nothing_changes : DeadMessagesChangeNothing) (world : World) (command : Command) (message : Message) (takes_it : task world command ≡ takes message)
    (dead : is_dead_in world message ≡ true) where
  pub dead_stays : Stays world (event_of command)
  dead_stays = nothing_changes world (event_of command) message takes_it dead

  no_own : is_delivery command ≡ false → ⊥
  no_own own_one = cc (own_node world command own_one, takes_it)

  meets_none : (want : Want) → IsLawfulWant want → IsMet want world (event_of command) → ⊥
  meets_none (Happens (wanted.Delivery route) text) may met =
      cc (may.1, untaken_idle (step world (event_of command)).reply text (are_untaken world (event_of command) message takes_it dead) met.1)
  meets_none (Happens (wanted.Heartbeat route) text) may met = no_own (ap is_delivery met.0.2)
  meets_none (Happens (wanted.Report route) text) may met = no_own (ap is_delivery met.0.2)
  meets_none (Happens (wanted.Common route) text) may met = no_own (ap is_delivery met.0.2)
  meets_none (Happens (wanted.Command (Some node) asked) text) may met = no_own (ap is_delivery met.0 ∙ may.0)
  meets_none (Happens (wanted.Command None asked) text) may met = no_own (sym (first_delivery command) ∙ ap is_delivery met.0 ∙ may.0)
  meets_none (Seen looks) may met = absurd met

  pub leaves_same : (wants next : List Want) → AreLawful wants → unseen world wants ≡ wants → LeavesAfter world (event_of command) wants next → next ≡ wants
  leaves_same [] next lawful met leaves = leaves
  leaves_same (want ∷ wants) next lawful met (inl is) = absurd (meets_none want (lawful want (inl refl)) is.0)
  leaves_same (want ∷ wants) next lawful met (inr is) = is.1 ∙ ap (λ (w : World). unseen w (want ∷ wants)) dead_stays ∙ met

  pub leaves_all : (wants : List Want) → AreLawful wants → unseen world wants ≡ wants → LeavesAfter world (event_of command) wants wants
  leaves_all [] lawful met = refl
  leaves_all (want ∷ wants) lawful met = inr (meets_none want (lawful want (inl refl)), sym (ap (λ (w : World). unseen w (want ∷ wants)) dead_stays ∙ met))
