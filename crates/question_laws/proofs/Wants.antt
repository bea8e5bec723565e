-- One event in two worlds that are alike meets the same wants, and the same is seen after it.
use Rattle.std.proofs.Common.{◌≡◌, ◌∙◌, inl, inr, ap, sym, subst, refl, ℕ, zero, suc, Bool, true, false, ◌&&◌, ◌||◌, Option, None, Some, List, [], ◌∷◌, length, slice_get, if◌then◌else◌}
use Rattle.std.proofs.lemmas.Bool.{and_cases}
use Rattle.std.specs.List.{list_all}
use Rattle.std.specs.Option.{option_and_then, option_map, option_map_or}
use Rattle.std.specs.Prelude.{unwrap_or}
use Rattle.bson_doc.specs.Key.{key_of}
use Rattle.bson_doc.specs.View.{tree_of}
use Rattle.oplog_entry.specs.declared.entry.Entry.{Entry}
use Rattle.rs_optime.specs.Membership.{In}
use Rattle.set_model.specs.declared.command.AckConcern.{AckConcern}
use Rattle.set_model.specs.declared.command.Command.{Command}
use Rattle.set_model.specs.declared.command.Command.TheVariants as commands
use Rattle.set_model.specs.declared.command.Event.{Event}
use Rattle.set_model.specs.declared.command.Target.TheVariants.{At}
use Rattle.set_model.specs.declared.reply.Reply.{Reply}
use Rattle.set_model.specs.Node.{Node}
use Rattle.set_model.specs.World.{World, is_delivery, step, task, touched_node}
use Rattle.explore_laws.specs.Alike.{AlikeReplies, AlikeWorlds}
use Rattle.explore_laws.specs.Laws.{AreSame}
use Rattle.explore_laws.specs.Settled.{AreSettled}
use Rattle.explore_laws.proofs.AlikeEvents.{are_done, no_delivery}
use Rattle.explore_laws.proofs.AlikeWorlds.{both_there, neither_there}
use Rattle.explore_words.specs.Texts.{names_message}
use Rattle.explore_words.specs.declared.question.Look.{Look}
use Rattle.explore_words.specs.declared.question.Sight.{Sight}
use Rattle.explore_words.specs.declared.question.Sight.TheVariants as sights
use Rattle.explore_words.specs.declared.question.Want.{Want}
use Rattle.explore_words.specs.declared.question.Want.TheVariants.{Event as Happens, Seen}
use Rattle.explore_words.specs.declared.question.WantedEvent.{WantedEvent}
use Rattle.explore_words.specs.declared.question.WantedEvent.TheVariants as wanted
use Rattle.question_laws.specs.Doing.{event_of}
use Rattle.question_laws.specs.Lawful.{AreLawful, IsLawfulWant, MayHave, may_name}
use Rattle.question_laws.specs.Meeting.{IsMet, IsWanted, LeavesAfter, any_below, at_first, begins, is_look_met, is_seen, last_of_key, shows, unseen}
use Rattle.question_laws.proofs.Plain.{named_delivery, own_node, plain_reply}
use Rattle.question_laws.proofs.Texts.{begins_blind}

-- ---- commands of nodes

-- a command that is no delivery is for one node in any world
pub same_task : (one two : World) (command : Command) → is_delivery command ≡ false → task one command ≡ task two command
same_task one two (commands.Deliver message) is = absurd (cc is)
same_task one two (commands.DeliverLatest from to) is = absurd (cc is)
same_task one two command is = refl

-- it is the same event the other way round
pub same_back : (one two : World) (first second : Event) → AreSame one two first second → AreSame two one second first
same_back one two first second same = record {
  task = sym same.task;
  command = λ is. sym (same.command (no_delivery one first.command (touched_node two second.command) (same.task ∙ own_node two second.command is)));
  first_whole = same.second_whole;
  second_whole = same.first_whole;
}

pub same_itself : (one two : World) (command : Command) → is_delivery command ≡ false → AreSame one two (event_of command) (event_of command)
same_itself one two command is = record { task = same_task one two command is; command = λ other. refl; first_whole = refl; second_whole = refl }

-- ---- events

pub first_delivery : (command : Command) → is_delivery (at_first command) ≡ is_delivery command
first_delivery (commands.Deliver message) = refl
first_delivery (commands.DeliverLatest from to) = refl
first_delivery command = refl

pub first_names : (command : Command) → may_name (at_first command) ≡ may_name command
first_names (commands.Deliver message) = refl
first_names (commands.DeliverLatest from to) = refl
first_names command = refl

-- the replies are alike
module _ (one two : World) (first second : Event) (same : AreSame one two first second) (replies : AlikeReplies (step one first).reply (step two second).reply) where
  wanted_over : (event : WantedEvent) (text : List ℕ) → MayHave event text → IsWanted event one first.command → IsWanted event two second.command
  wanted_over (wanted.Delivery route) text may is = (is.0, sym same.task ∙ is.1, is.2)
  wanted_over (wanted.Heartbeat route) text may is = (is.0, is.1, sym (same.command (ap is_delivery is.2)) ∙ is.2, is.3)
  wanted_over (wanted.Report route) text may is = (is.0, is.1, sym (same.command (ap is_delivery is.2)) ∙ is.2, is.3)
  wanted_over (wanted.Common route) text may is = (is.0, is.1, sym (same.command (ap is_delivery is.2)) ∙ is.2, is.3)
  wanted_over (wanted.Command (Some node) asked) text may is = sym (same.command (ap is_delivery is ∙ may.0)) ∙ is
  wanted_over (wanted.Command None asked) text may is = ap at_first (sym (same.command (sym (first_delivery first.command) ∙ ap is_delivery is ∙ may.0))) ∙ is

  -- a text that names no message
  blind_over : (text : List ℕ) → names_message true text ≡ false → begins (step one first).reply text ≡ begins (step two second).reply text
  blind_over text none = begins_blind (step one first).reply text none ∙ ap (λ (r : Reply). begins r text) replies ∙ sym (begins_blind (step two second).reply text none)

  -- a reply that names none
  plain_over : (text : List ℕ) → may_name first.command ≡ false → begins (step one first).reply text ≡ begins (step two second).reply text
  plain_over text none = ap (λ (r : Reply). begins r text)
      (sym (plain_reply one first none same.first_whole) ∙ replies
      ∙ plain_reply two second (sym (ap may_name (same.command (named_delivery first.command none))) ∙ none) same.second_whole)

  text_over : (event : WantedEvent) (text : List ℕ) → MayHave event text → IsWanted event one first.command → begins (step one first).reply text ≡ begins (step two second).reply text
  text_over (wanted.Delivery route) text may is = blind_over text may.0
  text_over (wanted.Heartbeat route) text may is = blind_over text may
  text_over (wanted.Report route) text may is = blind_over text may
  text_over (wanted.Common route) text may is = blind_over text may
  text_over (wanted.Command (Some node) asked) text may is = elim (and_cases (may_name asked) (names_message true text) may.1) [
    | inl unnamed ↦ plain_over text (ap may_name is ∙ unnamed)
    | inr none ↦ blind_over text none
  ]
  text_over (wanted.Command None asked) text may is = elim (and_cases (may_name asked) (names_message true text) may.1) [
    | inl unnamed ↦ plain_over text (sym (first_names first.command) ∙ ap may_name is ∙ unnamed)
    | inr none ↦ blind_over text none
  ]

  pub met_over : (want : Want) → IsLawfulWant want → IsMet want one first → IsMet want two second
  met_over (Happens event text) may met = (wanted_over event text may met.0, sym (text_over event text may met.0) ∙ met.1)
  met_over (Seen looks) may met = absurd met

-- ---- sights

option_same : {A B : Type 0} (f g : A → B) (d : B) (found : Option A) → ((x : A) → found ≡ Some x → f x ≡ g x) → option_map_or f found d ≡ option_map_or g found d
option_same f g d None same = refl
option_same f g d (Some x) same = same x refl

any_same : (f g : ℕ → Bool) → ((n : ℕ) → f n ≡ g n) → (count : ℕ) → any_below f count ≡ any_below g count
any_same f g same zero = refl
any_same f g same (suc count) = ap (λ b. b || f count) (any_same f g same count) ∙ ap (λ b. any_below g count || b) (same count)

all_same : {A : Type 0} (f g : A → Bool) → ((x : A) → f x ≡ g x) → (xs : List A) → list_all f xs ≡ list_all g xs
all_same f g same [] = refl
all_same f g same (x ∷ xs) = ap (λ b. b && list_all f xs) (same x) ∙ ap (λ b. g x && b) (all_same f g same xs)

-- what shows something sends nothing
plain_sight : (world : World) (number : ℕ) (sight : Sight) (command : Command) → shows world number sight ≡ Some command → may_name command ≡ false
plain_sight world number sight command is = shown sight is
  where
    no_name : Option Command → Bool
    no_name found = option_map_or may_name found false

    by_last : (found : Option Entry) (concern : AckConcern) → no_name (option_map (λ (entry : Entry). commands.Ack number (At entry.optime) concern) found) ≡ false
    by_last None concern = refl
    by_last (Some entry) concern = refl

    shown : (what : Sight) → shows world number what ≡ Some command → may_name command ≡ false
    shown (sights.Read level collection id) there = sym (ap no_name there)
    shown (sights.Dump level) there = sym (ap no_name there)
    shown sights.Log there = sym (ap no_name there)
    shown sights.State there = sym (ap no_name there)
    shown sights.Rolled there = sym (ap no_name there)
    shown (sights.Ack target concern) there = sym (ap no_name there)
    shown (sights.AckLast collection id concern) there = sym (ap no_name there) ∙ by_last _ concern

module _ (one two : World) (settled : AreSettled one) (alike : AlikeWorlds one two) where
  shows_same : (number : ℕ) (sight : Sight) → shows one number sight ≡ shows two number sight
  shows_same number (sights.Read level collection id) = refl
  shows_same number (sights.Dump level) = refl
  shows_same number sights.Log = refl
  shows_same number sights.State = refl
  shows_same number sights.Rolled = refl
  shows_same number (sights.Ack target concern) = refl
  shows_same number (sights.AckLast collection id concern) = ap (option_map (λ (entry : Entry). commands.Ack number (At entry.optime) concern)) (by (slice_get one.nodes number) refl)
    where
      written : List Entry → Option Entry
      written log = last_of_key log collection (key_of (tree_of id))

      by : (found : Option Node) → slice_get one.nodes number ≡ found
          → option_and_then (λ (node : Node). written node.log) (slice_get one.nodes number) ≡ option_and_then (λ (node : Node). written node.log) (slice_get two.nodes number)
      by None none = ap (option_and_then (λ (node : Node). written node.log)) (none ∙ sym (neither_there one.nodes two.nodes number alike.count none))
      by (Some a) there =
          let other : (b : Node) × (slice_get two.nodes number ≡ Some b) = both_there one.nodes two.nodes number a alike.count there in
          ap (option_and_then (λ (node : Node). written node.log)) there
          ∙ ap (λ (node : Node). written node.log) (alike.nodes number a other.0 there other.1).others
          ∙ sym (ap (option_and_then (λ (node : Node). written node.log)) other.1)

  reply_same : (command : Command) → may_name command ≡ false → (step one (event_of command)).reply ≡ (step two (event_of command)).reply
  reply_same command none =
      sym (plain_reply one (event_of command) none refl)
      ∙ (are_done one two (event_of command) (event_of command) settled alike (same_itself one two command (named_delivery command none))).on.replies
      ∙ plain_reply two (event_of command) none refl

  look_same : (number : ℕ) (look : Look) → is_look_met one number look ≡ is_look_met two number look
  look_same number look =
      ap (λ (found : Option Command). option_map_or (λ (command : Command). begins (step one (event_of command)).reply look.text) found false) (shows_same (unwrap_or look.node number) look.sight)
      ∙ option_same (λ (command : Command). begins (step one (event_of command)).reply look.text) (λ (command : Command). begins (step two (event_of command)).reply look.text) false
      (shows two (unwrap_or look.node number) look.sight)
      (λ command is. ap (λ (r : Reply). begins r look.text) (reply_same command (plain_sight two (unwrap_or look.node number) look.sight command is)))

  seen_same : (want : Want) → is_seen one want ≡ is_seen two want
  seen_same (Happens event text) = refl
  seen_same (Seen looks) =
      any_same (λ number. list_all (is_look_met one number) looks) (λ number. list_all (is_look_met two number) looks)
      (λ number. all_same (is_look_met one number) (is_look_met two number) (look_same number) looks) (length one.nodes)
      ∙ ap (any_below (λ number. list_all (is_look_met two number) looks)) alike.count

  pub unseen_same : (wants : List Want) → unseen one wants ≡ unseen two wants
  unseen_same [] = refl
  unseen_same (want ∷ wants) = ap (λ b. if b then unseen one wants else want ∷ wants) (seen_same want) ∙ ap (λ l. if is_seen two want then l else want ∷ wants) (unseen_same wants)

-- ---- what an event leaves

pub leaves_over : (one two : World) (first second : Event) → AreSettled one → AlikeWorlds one two → AreSame one two first second
    → (wants left : List Want) → AreLawful wants → LeavesAfter one first wants left → LeavesAfter two second wants left
leaves_over one two first second settled alike same [] left lawful is = is
leaves_over one two first second settled alike same (want ∷ wants) left lawful leaves = by leaves
  where
    replies : AlikeReplies (step one first).reply (step two second).reply
    replies = (are_done one two first second settled alike same).on.replies

    after_settled : AreSettled (step one first).world
    after_settled = (are_done one two first second settled alike same).settled

    after_alike : AlikeWorlds (step one first).world (step two second).world
    after_alike = (are_done one two first second settled alike same).on.worlds

    own : IsLawfulWant want
    own = lawful want (inl refl)

    by : LeavesAfter one first (want ∷ wants) left → LeavesAfter two second (want ∷ wants) left
    by (inl met) = inl (met_over one two first second same replies want own met.0, met.1 ∙ unseen_same (step one first).world (step two second).world after_settled after_alike wants)
    by (inr unmet) = inr (
      λ met. unmet.0 (met_over two one second first (same_back one two first second same) (sym replies) want own met),
      unmet.1 ∙ unseen_same (step one first).world (step two second).world after_settled after_alike (want ∷ wants),
    )

-- ---- wants that are left

-- what is seen is met
pub unseen_again : (world : World) (wants : List Want) → unseen world (unseen world wants) ≡ unseen world wants
unseen_again world [] = refl
unseen_again world (want ∷ wants) = by (is_seen world want) refl (unseen_again world wants)
  where
    by : (seen : Bool) → is_seen world want ≡ seen → unseen world (unseen world wants) ≡ unseen world wants
        → unseen world (if seen then unseen world wants else want ∷ wants) ≡ (if seen then unseen world wants else want ∷ wants)
    by true is rest = rest
    by false is rest = ap (λ b. if b then unseen world wants else want ∷ wants) is

unseen_in : (world : World) (wants : List Want) (want : Want) → In want (unseen world wants) → In want wants
unseen_in world [] want there = absurd there
unseen_in world (first ∷ wants) want there = by (is_seen world first) (unseen_in world wants want) there
  where
    by : (seen : Bool) → (In want (unseen world wants) → In want wants) → In want (if seen then unseen world wants else first ∷ wants) → In want (first ∷ wants)
    by true rest more = inr (rest more)
    by false rest more = more

pub lawful_unseen : (world : World) (wants : List Want) → AreLawful wants → AreLawful (unseen world wants)
lawful_unseen world wants lawful want there = lawful want (unseen_in world wants want there)

pub left_lawful : (world : World) (event : Event) (wants left : List Want) → AreLawful wants → LeavesAfter world event wants left → AreLawful left
left_lawful world event [] left lawful leaves = subst AreLawful (sym leaves) lawful
left_lawful world event (want ∷ wants) left lawful (inl met) = subst AreLawful (sym met.1) (lawful_unseen (step world event).world wants (λ w there. lawful w (inr there)))
left_lawful world event (want ∷ wants) left lawful (inr unmet) = subst AreLawful (sym unmet.1) (lawful_unseen (step world event).world (want ∷ wants) lawful)

pub left_met : (world : World) (event : Event) (wants left : List Want) → LeavesAfter world event wants left → unseen (step world event).world left ≡ left
left_met world event [] left leaves = ap (unseen (step world event).world) leaves ∙ sym leaves
left_met world event (want ∷ wants) left (inl met) = ap (unseen (step world event).world) met.1 ∙ unseen_again (step world event).world wants ∙ sym met.1
left_met world event (want ∷ wants) left (inr unmet) = ap (unseen (step world event).world) unmet.1 ∙ unseen_again (step world event).world (want ∷ wants) ∙ sym unmet.1
