-- The points of a linear read one after the other: what is left at each of its exits.
use Rattle.std.proofs.Common.{◌≡◌, ◌∙◌, ap, sym, subst, ℕ, Bool, Option, Some, List, Result, Ok, Err, length}
use Rattle.std.specs.Prelude.{◌≢◌, IfOk, IsErrAnd, IsErrOf, OnErr}
use Rattle.bson_doc.specs.declared.doc.Value.{Value}
use Rattle.rs_optime.specs.declared.optime.OpTime.{OpTime}
use Rattle.set_model.specs.declared.command.AckConcern.TheVariants as concerns
use Rattle.set_model.specs.declared.command.Command.{Command}
use Rattle.set_model.specs.declared.command.Command.TheVariants as commands
use Rattle.set_model.specs.declared.command.Event.{Event}
use Rattle.set_model.specs.declared.command.ReadLevel.TheVariants as levels
use Rattle.set_model.specs.declared.command.Target.TheVariants as targets
use Rattle.set_model.specs.declared.reply.Refusal.{Refusal}
use Rattle.set_model.specs.declared.reply.Reply.{Reply}
use Rattle.set_model.specs.Run.{Sizes}
use Rattle.set_world.specs.declared.error.StepError.{StepError}
use Rattle.set_world.specs.declared.error.StepError.TheVariants.{Memory, HistoryFull}
use Rattle.linear_read.specs.declared.answer.LinearAnswer.{LinearAnswer}
use Rattle.linear_read.specs.declared.answer.LinearAnswer.TheVariants.{Refused}
use Rattle.linear_read.specs.Asking.{BreaksOff, Holds}
use Rattle.linear_read.specs.Going.{Leads, Held, Broken, Went}
use Rattle.linear_read.specs.Points.{acknowledges, answer_of, confirms, document_shown, flushes, in_term, linear, note_written, others_told, refusal_of, term_shown, unless_noted, unless_refused}
use Rattle.linear_read.specs.Talk.{Talk, tells, asks, and_then}
use Rattle.linear_read.proofs.Going.{Going, IsPassed, begun, breaks, breaks_with, ended, ends_with, goes, out_of_memory}

-- ---- points 3 to 5

module _ (node nodes : ℕ) (at : OpTime) where
  abbrev pub asked_ack : Command
  asked_ack = commands.Ack node (targets.At at) concerns.Majority

  abbrev after_told : Unit {0} → Talk (Option Refusal)
  after_told done = asks (commands.Ack node (targets.At at) concerns.Majority) (λ reply. tells (refusal_of reply))

  abbrev after_flushed : Unit {0} → Talk (Option Refusal)
  after_flushed flushed = and_then (others_told node at 0 nodes) after_told

  pub flushing_breaks : {S : Type 0} {alone : Bool} {sizes : S → Sizes} {known own : S → List Event} {stays : S → S → Type 0} {is_whole : S → Type 0} {old new : S} {error : StepError}
      → Broken alone sizes known own stays is_whole old new (flushes node 200) error
      → (result : Result (Option Refusal) StepError) → IsPassed result error → Went alone sizes known own stays is_whole old new (acknowledges node nodes at) result
  flushing_breaks broken result passed = breaks (flushes node 200) after_flushed begun broken result passed

  module _ {S : Type 0} {alone : Bool} {sizes : S → Sizes} {known own : S → List Event} {stays : S → S → Type 0} {is_whole : S → Type 0} {old one : S}
      (first : Held alone sizes known own stays is_whole old one (flushes node 200) tt) where
    flushed_goes : Going alone sizes known own stays is_whole old one (acknowledges node nodes at) (and_then (others_told node at 0 nodes) after_told)
    flushed_goes = goes (flushes node 200) after_flushed begun first

    pub telling_breaks : {new : S} {error : StepError} → Broken alone sizes known own stays is_whole one new (others_told node at 0 nodes) error
        → (result : Result (Option Refusal) StepError) → IsPassed result error → Went alone sizes known own stays is_whole old new (acknowledges node nodes at) result
    telling_breaks broken result passed = breaks (others_told node at 0 nodes) after_told flushed_goes broken result passed

    module _ {two : S} (second : Held alone sizes known own stays is_whole one two (others_told node at 0 nodes) tt) where
      told_goes : Going alone sizes known own stays is_whole old two (acknowledges node nodes at) (asks (commands.Ack node (targets.At at) concerns.Majority) (λ reply. tells (refusal_of reply)))
      told_goes = goes (others_told node at 0 nodes) after_told flushed_goes second

      pub ack_breaks : {new : S} {error : StepError} {command : Command} → Broken alone sizes known own stays is_whole two new (asks command tells) error → command ≡ asked_ack
          → (result : Result (Option Refusal) StepError) → IsPassed result error → Went alone sizes known own stays is_whole old new (acknowledges node nodes at) result
      ack_breaks {new} {error} broken is result passed =
          breaks (asks asked_ack tells) (λ reply. tells (refusal_of reply)) told_goes
          (subst (λ c. Broken alone sizes known own stays is_whole two new (asks c tells) error) is broken) result passed

      pub ack_ends : {new : S} {reply : Reply} {command : Command} → Held alone sizes known own stays is_whole two new (asks command tells) reply → command ≡ asked_ack
          → (why : Option Refusal) → why ≡ refusal_of reply → Held alone sizes known own stays is_whole old new (acknowledges node nodes at) why
      ack_ends {new} {reply} last is why why_is = subst (λ w. Held alone sizes known own stays is_whole old new (acknowledges node nodes at) w) (sym why_is)
          (ended (refusal_of reply) (goes (asks asked_ack tells) (λ r. tells (refusal_of r)) told_goes
          (subst (λ c. Held alone sizes known own stays is_whole two new (asks c tells) reply) is last)))

-- ---- the note, and points 3 to 5

module _ (node nodes term : ℕ) where
  abbrev note_told : Reply → Talk (Option Refusal)
  note_told note = unless_noted (note_written term note) (acknowledges node nodes)

  pub note_breaks : {S : Type 0} {alone : Bool} {sizes : S → Sizes} {known own : S → List Event} {stays : S → S → Type 0} {is_whole : S → Type 0} {old new : S} {error : StepError} {command : Command}
      → Broken alone sizes known own stays is_whole old new (asks command tells) error → command ≡ commands.Note node
      → (result : Result (Option Refusal) StepError) → IsPassed result error → Went alone sizes known own stays is_whole old new (confirms node nodes term) result
  note_breaks {S} {alone} {sizes} {known} {own} {stays} {is_whole} {old} {new} {error} broken is result passed =
      breaks (asks (commands.Note node) tells) note_told begun (subst (λ c. Broken alone sizes known own stays is_whole old new (asks c tells) error) is broken) result passed

  module _ {S : Type 0} {alone : Bool} {sizes : S → Sizes} {known own : S → List Event} {stays : S → S → Type 0} {is_whole : S → Type 0} {old one : S} {note : Reply} {command : Command}
      (asked : Held alone sizes known own stays is_whole old one (asks command tells) note) (command_is : command ≡ commands.Note node) where
    was_noted : Held alone sizes known own stays is_whole old one (asks (commands.Note node) tells) note
    was_noted = subst (λ c. Held alone sizes known own stays is_whole old one (asks c tells) note) command_is asked

    noted_goes : (at : Result OpTime Refusal) → at ≡ note_written term note
        → Going alone sizes known own stays is_whole old one (confirms node nodes term) (unless_noted at (acknowledges node nodes))
    noted_goes at is = subst (λ r. Going alone sizes known own stays is_whole old one (confirms node nodes term) (unless_noted r (acknowledges node nodes))) (sym is)
        (goes (asks (commands.Note node) tells) note_told begun was_noted)

    pub note_refused : (why : Refusal) → Err why ≡ note_written term note → (told : Option Refusal) → Some why ≡ told → Held alone sizes known own stays is_whole old one (confirms node nodes term) told
    note_refused why is told told_is =
        subst (λ t. Held alone sizes known own stays is_whole old one (confirms node nodes term) t) told_is (ended (Some why) (noted_goes (Err why) is))

    pub acks_went : (new : S) (at : OpTime) → Ok at ≡ note_written term note → (result : Result (Option Refusal) StepError)
        → Went alone sizes known own stays is_whole one new (acknowledges node nodes at) result → Went alone sizes known own stays is_whole old new (confirms node nodes term) result
    acks_went new at is (Ok refused) held = ends_with (noted_goes (Ok at) is) held
    acks_went new at is (Err error) broken = breaks_with (noted_goes (Ok at) is) broken

-- ---- in a term

module _ (node nodes : ℕ) (read : Command) (term : ℕ) where
  abbrev after_read : LinearAnswer → Talk LinearAnswer
  after_read shown = and_then (confirms node nodes term) (λ refused. tells (answer_of shown refused))

  abbrev pub read_told : Reply → Talk LinearAnswer
  read_told found = unless_refused (document_shown found) after_read

  pub read_breaks : {S : Type 0} {alone : Bool} {sizes : S → Sizes} {known own : S → List Event} {stays : S → S → Type 0} {is_whole : S → Type 0} {old new : S} {error : StepError} {command : Command}
      → Broken alone sizes known own stays is_whole old new (asks command tells) error → command ≡ read
      → (result : Result LinearAnswer StepError) → IsPassed result error → Went alone sizes known own stays is_whole old new (in_term node nodes read term) result
  read_breaks {S} {alone} {sizes} {known} {own} {stays} {is_whole} {old} {new} {error} broken is result passed =
      breaks (asks read tells) read_told begun (subst (λ c. Broken alone sizes known own stays is_whole old new (asks c tells) error) is broken) result passed

  module _ {S : Type 0} {alone : Bool} {sizes : S → Sizes} {known own : S → List Event} {stays : S → S → Type 0} {is_whole : S → Type 0} {old one : S} {found : Reply} {command : Command}
      (asked : Held alone sizes known own stays is_whole old one (asks command tells) found) (command_is : command ≡ read) where
    was_read : Held alone sizes known own stays is_whole old one (asks read tells) found
    was_read = subst (λ c. Held alone sizes known own stays is_whole old one (asks c tells) found) command_is asked

    found_goes : (shown : Result LinearAnswer Refusal) → shown ≡ document_shown found
        → Going alone sizes known own stays is_whole old one (in_term node nodes read term) (unless_refused shown after_read)
    found_goes shown is = subst (λ r. Going alone sizes known own stays is_whole old one (in_term node nodes read term) (unless_refused r after_read)) (sym is)
        (goes (asks read tells) read_told begun was_read)

    pub read_refused : (why : Refusal) → Err why ≡ document_shown found → Held alone sizes known own stays is_whole old one (in_term node nodes read term) (Refused why)
    read_refused why is = ended (Refused why) (found_goes (Err why) is)

    module _ (shown : LinearAnswer) (shown_is : Ok shown ≡ document_shown found) where
      pub confirm_breaks : {new : S} {error : StepError} → Broken alone sizes known own stays is_whole one new (confirms node nodes term) error
          → (result : Result LinearAnswer StepError) → IsPassed result error → Went alone sizes known own stays is_whole old new (in_term node nodes read term) result
      confirm_breaks broken result passed = breaks (confirms node nodes term) (λ refused. tells (answer_of shown refused)) (found_goes (Ok shown) shown_is) broken result passed

      ends_so : {new : S} (refused : Option Refusal) → Held alone sizes known own stays is_whole one new (confirms node nodes term) refused
          → (answer : LinearAnswer) → answer_of shown refused ≡ answer → Held alone sizes known own stays is_whole old new (in_term node nodes read term) answer
      ends_so {new} refused last answer is = subst (λ a. Held alone sizes known own stays is_whole old new (in_term node nodes read term) a) is
          (ended (answer_of shown refused) (goes (confirms node nodes term) (λ r. tells (answer_of shown r)) (found_goes (Ok shown) shown_is) last))

  -- that the read comes first, and what confirms it next, is asked for by itself
  pub answered : {S : Type 0} {alone : Bool} {sizes : S → Sizes} {known own : S → List Event} {stays : S → S → Type 0} {is_whole : S → Type 0} {first one mid new : S} {found : Reply} {command : Command}
      → Held alone sizes known own stays is_whole first one (asks command tells) found → command ≡ read → (shown : LinearAnswer) → Ok shown ≡ document_shown found
      → (refused : Option Refusal) → Held alone sizes known own stays is_whole mid new (confirms node nodes term) refused → (old : S) → first ≡ old → one ≡ mid
      → (answer : LinearAnswer) → answer_of shown refused ≡ answer → Held alone sizes known own stays is_whole old new (in_term node nodes read term) answer
  answered {S} {alone} {sizes} {known} {own} {stays} {is_whole} {first} {one} {mid} {new} asked command_is shown shown_is refused confirmed old begins goes_on answer is =
      subst (λ s. Held alone sizes known own stays is_whole s new (in_term node nodes read term) answer) begins
      (ends_so asked command_is shown shown_is refused
      (subst (λ s. Held alone sizes known own stays is_whole s new (confirms node nodes term) refused) (sym goes_on) confirmed) answer is)

-- ---- the whole read

module _ (node nodes : ℕ) (collection : List ℕ) (id : Value) where
  abbrev after_state : ℕ → Talk LinearAnswer
  after_state term = in_term node nodes (commands.Read node levels.Local collection id) term

  abbrev state_told : Reply → Talk LinearAnswer
  state_told state = unless_refused (term_shown state) after_state

  pub state_breaks : {S : Type 0} {alone : Bool} {sizes : S → Sizes} {known own : S → List Event} {stays : S → S → Type 0} {is_whole : S → Type 0} {old new : S} {error : StepError}
      → Broken alone sizes known own stays is_whole old new (asks (commands.State node) tells) error
      → (result : Result LinearAnswer StepError) → IsPassed result error → Went alone sizes known own stays is_whole old new (linear node nodes collection id) result
  state_breaks broken result passed = breaks (asks (commands.State node) tells) state_told begun broken result passed

  module _ {S : Type 0} {alone : Bool} {sizes : S → Sizes} {known own : S → List Event} {stays : S → S → Type 0} {is_whole : S → Type 0} {old one : S} {state : Reply}
      (first : Held alone sizes known own stays is_whole old one (asks (commands.State node) tells) state) where
    state_goes : (term : Result ℕ Refusal) → term ≡ term_shown state
        → Going alone sizes known own stays is_whole old one (linear node nodes collection id) (unless_refused term after_state)
    state_goes term is = subst (λ r. Going alone sizes known own stays is_whole old one (linear node nodes collection id) (unless_refused r after_state)) (sym is)
        (goes (asks (commands.State node) tells) state_told begun first)

    pub state_refused : (why : Refusal) → Err why ≡ term_shown state → Held alone sizes known own stays is_whole old one (linear node nodes collection id) (Refused why)
    state_refused why is = ended (Refused why) (state_goes (Err why) is)

    module _ (term : ℕ) (term_is : Ok term ≡ term_shown state) where
      -- the read's command found no memory
      pub unmade : (result : Result LinearAnswer StepError) → IsErrAnd result (λ e. e ≡ Memory) → Went alone sizes known own stays is_whole old one (linear node nodes collection id) result
      unmade (Ok answer) passed = absurd passed
      unmade (Err error) passed = record {
        leads = first.leads;
        broken = (state_goes (Ok term) term_is).broken (known one) (own one)
            (out_of_memory alone (sizes old) (known one) (own one) (commands.Read node levels.Local collection id) (read_told node nodes (commands.Read node levels.Local collection id) term));
        full = λ is. let bad : Memory ≡ HistoryFull = sym passed ∙ is in absurd (cc bad);
        whole = λ other. absurd (other passed);
      }

      pub in_term_went : (new : S) (read : Command) → read ≡ commands.Read node levels.Local collection id
          → (result : Result LinearAnswer StepError) → Went alone sizes known own stays is_whole one new (in_term node nodes read term) result
          → Went alone sizes known own stays is_whole old new (linear node nodes collection id) result
      in_term_went new read read_is result went = go result (subst (λ c. Went alone sizes known own stays is_whole one new (in_term node nodes c term) result) read_is went)
        where
          go : (r : Result LinearAnswer StepError) → Went alone sizes known own stays is_whole one new (after_state term) r → Went alone sizes known own stays is_whole old new (linear node nodes collection id) r
          go (Ok answer) held = ends_with (state_goes (Ok term) term_is) held
          go (Err error) broken = breaks_with (state_goes (Ok term) term_is) broken

-- ---- what is told of the whole

module _ {S A : Type 0} (alone : Bool) (sizes : S → Sizes) (known own : S → List Event) (stays : S → S → Type 0) (is_whole : S → Type 0) (old new : S) (talk : Talk A) where
  pub went_held : (result : Result A StepError) → Went alone sizes known own stays is_whole old new talk result → IfOk result (λ told. Holds alone (sizes old) (known old) (known new) (own old) (own new) talk told)
  went_held (Ok told) went = went.held
  went_held (Err error) went = tt

  pub went_broken : (result : Result A StepError) → Went alone sizes known own stays is_whole old new talk result → OnErr result (BreaksOff alone (sizes old) (known old) (known new) (own old) (own new) talk)
  went_broken (Ok told) went = tt
  went_broken (Err error) went = went.broken

  pub went_full : (result : Result A StepError) → Went alone sizes known own stays is_whole old new talk result → IsErrOf result HistoryFull → length (known new) ≡ 4294967295
  went_full (Ok told) went is = absurd (cc is)
  went_full (Err error) went is = went.full (cc is)

  pub went_whole : (result : Result A StepError) → Went alone sizes known own stays is_whole old new talk result → is_whole old → result ≢ Err Memory → is_whole new
  went_whole (Ok told) went whole other = went.whole whole
  went_whole (Err error) went whole other = went.whole (λ is. other (ap Err is)) whole

  pub went_leads : (result : Result A StepError) → Went alone sizes known own stays is_whole old new talk result → Leads sizes known stays old new
  went_leads (Ok told) went = went.leads
  went_leads (Err error) went = went.leads
