-- How the two events of a call may end.
use Rattle.std.proofs.Common.{◌≡◌, ◌∙◌, ◌<◌, ap, sym, subst, refl, inl, inr, Bool, ℕ, List, [], ◌∷◌, ◌++◌, append-nil, append_assoc, Option, None, Some, length}
use Rattle.std.specs.Prelude.{IsSome, option_map}
use Rattle.std.proofs.lemmas.Option.{same_Some}
use Rattle.rs_optime.specs.declared.optime.OpTime.{OpTime}
use Rattle.oplog_entry.specs.declared.entry.Entry.{Entry}
use Rattle.set_model.specs.declared.command.Command.TheVariants as commands
use Rattle.set_model.specs.declared.command.Event.{Event}
use Rattle.set_model.specs.declared.reply.Refusal.TheVariants.{NodeDown as IsDown}
use Rattle.set_model.specs.declared.reply.Reply.{Reply}
use Rattle.set_model.specs.declared.reply.Reply.TheVariants as reply
use Rattle.set_model.specs.Run.{Sizes}
use Rattle.safety_laws.specs.Bounds.{NumbersStaySmall}
use Rattle.set_world.specs.declared.error.StepError.{StepError}
use Rattle.set_world.specs.declared.error.StepError.TheVariants as steps
use Rattle.set_world.specs.Stepper.{AddsOne, Learns}
use Rattle.set_world.proofs.StepperLemmas.{own_event}
use Rattle.change_stream.specs.Asking.{Does, OwnBreaks, OwnReads}
use Rattle.change_stream.specs.Errors.{of_step}
use Rattle.change_stream.specs.declared.error.WatchError.TheVariants.{NodeDown}
use Rattle.change_stream.specs.Shown.{shown_log, shown_state}
use Rattle.change_stream.proofs.StepLemmas.{entries_are, log_down, state_down}

-- a commit point is of a state
pub is_state_of : (found : Option (ℕ × OpTime)) (commit : OpTime) → Some commit ≡ option_map (λ state. state.1) found → IsSome found
is_state_of None commit is = absurd (cc is)
is_state_of (Some state) commit is = refl

-- the state that a commit point is of
pub commit_of : (found : Option (ℕ × OpTime)) (commit : OpTime) → Some commit ≡ option_map (λ state. state.1) found → (term : ℕ) × (found ≡ Some (term, commit))
commit_of None commit is = absurd (cc is)
commit_of (Some (term, shown)) commit is = (term, ap (λ c. Some (term, c)) (sym (same_Some commit shown is)))

pub no_state : (found : Option (ℕ × OpTime)) → None ≡ option_map (λ state. state.1) found → found ≡ None
no_state None is = refl
no_state (Some state) is = absurd (cc is)

module _ (alone : Bool) (sizes : Sizes) (old between new own mid own' : List Event) (node : ℕ) where
  pub first_broken : (error : StepError) → Learns alone old new → own' ≡ own → (error ≡ steps.HistoryFull → length new ≡ 4294967295) → OwnBreaks alone sizes old new own own' node (of_step error)
  first_broken steps.Memory learns idle full = (inl learns, idle ∙ sym (append-nil own))
  first_broken steps.HistoryFull learns idle full = ((inl learns, full refl), idle ∙ sym (append-nil own))

  pub first_refused : node < sizes.nodes → NumbersStaySmall sizes new → (answer : Reply) → Does alone sizes old new (commands.State node) answer → AddsOne new own own' → shown_state answer ≡ None
      → OwnBreaks alone sizes old new own own' node NodeDown
  first_refused known small answer steps adds none =
      let down = subst (λ a. Does alone sizes old new (commands.State node) a) (state_down alone sizes old new node known small answer steps none) steps in
      (inl down, own_event alone sizes old new own own' 0 (commands.State node) (reply.Refused IsDown) down adds)

  module _ (state : Reply) (first : Does alone sizes old between (commands.State node) state) (adds_first : AddsOne between own mid) where
    did_first : mid ≡ own ++ first.event ∷ []
    did_first = own_event alone sizes old between own mid 0 (commands.State node) state first adds_first

    -- its first event, and then another one
    did_second : (answer : Reply) (second : Does alone sizes between new (commands.Log node) answer) → AddsOne new mid own' → own' ≡ own ++ first.event ∷ second.event ∷ []
    did_second answer second adds = own_event alone sizes between new mid own' 0 (commands.Log node) answer second adds
        ∙ ap (λ l. l ++ second.event ∷ []) did_first ∙ append_assoc own (first.event ∷ []) (second.event ∷ [])

    pub second_broken : IsSome (shown_state state) → (error : StepError) → Learns alone between new → own' ≡ mid → (error ≡ steps.HistoryFull → length new ≡ 4294967295) → OwnBreaks alone sizes old new own own' node (of_step error)
    second_broken is steps.Memory learns idle full = (inr (record { between = between; state = state; is_state = is; first = first; on = learns }), idle ∙ did_first)
    second_broken is steps.HistoryFull learns idle full = ((inr (record { between = between; state = state; is_state = is; first = first; on = learns }), full refl), idle ∙ did_first)

    pub second_refused : IsSome (shown_state state) → node < sizes.nodes → NumbersStaySmall sizes new → (answer : Reply) → Does alone sizes between new (commands.Log node) answer → AddsOne new mid own' → shown_log answer ≡ None
        → OwnBreaks alone sizes old new own own' node NodeDown
    second_refused is known small answer steps adds none =
        let down = subst (λ a. Does alone sizes between new (commands.Log node) a) (log_down alone sizes between new node known small answer steps none) steps in
        (inr (record { between = between; state = state; is_state = is; first = first; on = down }), did_second (reply.Refused IsDown) down adds)

    pub both_shown : (commit : OpTime) (log : List Entry) (answer : Reply) → Some commit ≡ option_map (λ s. s.1) (shown_state state) → Does alone sizes between new (commands.Log node) answer → AddsOne new mid own' → shown_log answer ≡ Some log
        → OwnReads alone sizes old new own own' node commit log
    both_shown commit log answer commit_is steps adds shown =
        let term = commit_of (shown_state state) commit commit_is in
        let second = subst (λ a. Does alone sizes between new (commands.Log node) a) (entries_are alone sizes between new node answer steps log shown) steps in
        ((term.0, record { between = between; state = state; first = first; state_is = term.1; second = second }), did_second (reply.Entries log) second adds)
