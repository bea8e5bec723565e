-- How a talk proceeds: what was done of it, what was left of it, and how it ends.
use Rattle.std.proofs.Common.{◌≡◌, ◌∙◌, inl, inr, ap, sym, subst, refl, append-nil, append_assoc, ℕ, Bool, List, [], ◌∷◌, ◌++◌, Option, None, Some, length}
use Rattle.std.specs.Prelude.{◌≢◌, Result, Ok, Err, IfOk, IsErr, IsErrAnd, IsErrOf, OnErr}
use Rattle.set_model.specs.declared.command.Command.{Command}
use Rattle.set_model.specs.declared.command.Command.TheVariants as commands
use Rattle.set_model.specs.declared.command.Event.{Event}
use Rattle.set_model.specs.declared.reply.Reply.{Reply}
use Rattle.set_model.specs.Run.{Sizes}
use Rattle.set_world.specs.declared.error.StepError.{StepError}
use Rattle.set_world.specs.declared.error.StepError.TheVariants.{Memory, HistoryFull}
use Rattle.set_world.specs.Stepper.{AddsOne, IsDefined, Learns, StepsOnce}
use Rattle.set_world.proofs.StepperLemmas.{own_event}
use Rattle.linear_read.specs.Asking.{BreaksOff, Holds, IsBrokenOff, IsHeld, did, did_before}
use Rattle.linear_read.specs.Going.{Leads, Held, Broken, Went}
use Rattle.linear_read.specs.Points.{carries, delivers, message_sent}
use Rattle.linear_read.specs.Talk.{Talk, tells, asks, and_then}

-- ---- one talk and then another one

module _ (alone : Bool) (sizes : Sizes) where
  -- the talk was held by these events, or broken off
  abbrev HeldBy : {A : Type 0} → List Event → List Event → Talk A → A → List Event → Type 0
  HeldBy old new talk told events = (held : IsHeld alone sizes old new talk told) × (did alone sizes old new talk told held ≡ events)

  abbrev BrokenBy : {A : Type 0} → List Event → List Event → Talk A → List Event → Type 0
  BrokenBy old new talk events = (broken : IsBrokenOff alone sizes old new talk) × (did_before alone sizes old new talk broken ≡ events)

  by_then : {A B : Type 0} (old mid new : List Event) (talk : Talk A) (more : A → Talk B) (told : A) (last : B) (first : IsHeld alone sizes old mid talk told) (rest : List Event)
      → HeldBy mid new (more told) last rest → HeldBy old new (and_then talk more) last (did alone sizes old mid talk told first ++ rest)
  by_then old mid new (tells answer) more told last first rest second =
      subst (λ a. HeldBy old new (more a) last rest) (sym first.1) (subst (λ l. HeldBy l new (more told) last rest) first.0 second)
  by_then old mid new (asks command next) more told last first rest second =
      let later = by_then first.0 mid new (next first.1) more told last first.3 rest second in
      ((first.0, first.1, first.2, later.0), ap (λ l. first.2.event ∷ l) later.1)

  by_front : {A B : Type 0} (old new : List Event) (talk : Talk A) (more : A → Talk B) (broken : IsBrokenOff alone sizes old new talk)
      → BrokenBy old new (and_then talk more) (did_before alone sizes old new talk broken)
  by_front old new (tells answer) more broken = absurd broken
  by_front old new (asks command next) more (inl learns) = (inl learns, refl)
  by_front old new (asks command next) more (inr on) =
      let later = by_front on.0 new (next on.1) more on.3 in
      (inr (on.0, on.1, on.2, later.0), ap (λ l. on.2.event ∷ l) later.1)

  broken_by : {A B : Type 0} (old mid new : List Event) (talk : Talk A) (more : A → Talk B) (told : A) (first : IsHeld alone sizes old mid talk told) (rest : List Event)
      → BrokenBy mid new (more told) rest → BrokenBy old new (and_then talk more) (did alone sizes old mid talk told first ++ rest)
  broken_by old mid new (tells answer) more told first rest broken =
      subst (λ a. BrokenBy old new (more a) rest) (sym first.1) (subst (λ l. BrokenBy l new (more told) rest) first.0 broken)
  broken_by old mid new (asks command next) more told first rest broken =
      let later = broken_by first.0 mid new (next first.1) more told first.3 rest broken in
      (inr (first.0, first.1, first.2, later.0), ap (λ l. first.2.event ∷ l) later.1)

  module _ {A B : Type 0} (old mid new own own' end : List Event) (talk : Talk A) (more : A → Talk B) (told : A) (first : Holds alone sizes old mid own own' talk told) where
    held_then : (last : B) → Holds alone sizes mid new own' end (more told) last → Holds alone sizes old new own end (and_then talk more) last
    held_then last second =
        let whole = by_then old mid new talk more told last first.0 (did alone sizes mid new (more told) last second.0) (second.0, refl) in (
          whole.0,
          second.1 ∙ ap (λ l. l ++ did alone sizes mid new (more told) last second.0) first.1
              ∙ append_assoc own (did alone sizes old mid talk told first.0) (did alone sizes mid new (more told) last second.0) ∙ ap (λ l. own ++ l) (sym whole.1),
        )

    broken_then : BreaksOff alone sizes mid new own' end (more told) → BreaksOff alone sizes old new own end (and_then talk more)
    broken_then second =
        let whole = broken_by old mid new talk more told first.0 (did_before alone sizes mid new (more told) second.0) (second.0, refl) in (
          whole.0,
          second.1 ∙ ap (λ l. l ++ did_before alone sizes mid new (more told) second.0) first.1
              ∙ append_assoc own (did alone sizes old mid talk told first.0) (did_before alone sizes mid new (more told) second.0) ∙ ap (λ l. own ++ l) (sym whole.1),
        )

  broken_front : {A B : Type 0} (old new own own' : List Event) (talk : Talk A) (more : A → Talk B) → BreaksOff alone sizes old new own own' talk → BreaksOff alone sizes old new own own' (and_then talk more)
  broken_front old new own own' talk more broken =
      let whole = by_front old new talk more broken.0 in
      (whole.0, broken.1 ∙ ap (λ l. own ++ l) (sym whole.1))

-- what a `?` hands over of an error
abbrev pub IsPassed : {A : Type 0} → Result A StepError → StepError → Type 0
IsPassed result error = IsErr result × IsErrAnd result (λ e. e ≡ error)

-- ---- a talk of which some is left

-- The result of the rest is the result of the whole.
pub record Going {S A : Type 0} (alone : Bool) (sizes : S → Sizes) (known own : S → List Event) (stays : S → S → Type 0) (is_whole : S → Type 0) (old new : S) (whole rest : Talk A) : Type 0 where
  pub leads : Leads sizes known stays old new
  pub held : (end done : List Event) (told : A) → Holds alone (sizes old) (known new) end (own new) done rest told → Holds alone (sizes old) (known old) end (own old) done whole told
  pub broken : (end done : List Event) → BreaksOff alone (sizes old) (known new) end (own new) done rest → BreaksOff alone (sizes old) (known old) end (own old) done whole
  pub unbroken : is_whole old → is_whole new

leads_on : {S : Type 0} {sizes : S → Sizes} {known : S → List Event} {stays : S → S → Type 0} {old mid new : S} → Leads sizes known stays old mid → Leads sizes known stays mid new → Leads sizes known stays old new
leads_on one two = record {
  sizes_are = two.sizes_are ∙ one.sizes_are;
  stays_so = λ first stay. two.stays_so first (one.stays_so first stay);
  defined = λ is. two.defined (one.defined is);
}

module _ {S : Type 0} {alone : Bool} {sizes : S → Sizes} {known own : S → List Event} {stays : S → S → Type 0} {is_whole : S → Type 0} where
  pub begun : {A : Type 0} {old : S} {whole : Talk A} → Going alone sizes known own stays is_whole old old whole whole
  begun = record {
    leads = record { sizes_are = refl; stays_so = λ first stay. stay; defined = λ is. is };
    held = λ end done told is. is;
    broken = λ end done is. is;
    unbroken = λ is. is;
  }

  -- what comes next was held
  pub goes : {A B : Type 0} {old mid new : S} {whole : Talk B} {told : A} (talk : Talk A) (more : A → Talk B)
      → Going alone sizes known own stays is_whole old mid whole (and_then talk more) → Held alone sizes known own stays is_whole mid new talk told
      → Going alone sizes known own stays is_whole old new whole (more told)
  goes {A} {B} {old} {mid} {new} {whole} {told} talk more going next = record {
    leads = leads_on going.leads next.leads;
    held = λ end done last is. going.held end done last (held_then alone (sizes old) (known mid) (known new) end (own mid) (own new) done talk more told
        (subst (λ (s : Sizes). Holds alone s (known mid) (known new) (own mid) (own new) talk told) going.leads.sizes_are next.held) last is);
    broken = λ end done is. going.broken end done (broken_then alone (sizes old) (known mid) (known new) end (own mid) (own new) done talk more told
        (subst (λ (s : Sizes). Holds alone s (known mid) (known new) (own mid) (own new) talk told) going.leads.sizes_are next.held) is);
    unbroken = λ is. next.whole (going.unbroken is);
  }

  -- nothing is left
  pub ended : {A : Type 0} {old new : S} {whole : Talk A} (told : A) → Going alone sizes known own stays is_whole old new whole (tells told)
      → Held alone sizes known own stays is_whole old new whole told
  ended {A} {old} {new} told going = record {
    leads = going.leads;
    held = going.held (known new) (own new) told ((refl, refl), sym (append-nil (own new)));
    whole = going.unbroken;
  }

  -- all that was left was held, or broken off
  pub ends_with : {A : Type 0} {old mid new : S} {whole rest : Talk A} {told : A} → Going alone sizes known own stays is_whole old mid whole rest → Held alone sizes known own stays is_whole mid new rest told
      → Held alone sizes known own stays is_whole old new whole told
  ends_with {A} {old} {mid} {new} {whole} {rest} {told} going last = record {
    leads = leads_on going.leads last.leads;
    held = going.held (known new) (own new) told (subst (λ (s : Sizes). Holds alone s (known mid) (known new) (own mid) (own new) rest told) going.leads.sizes_are last.held);
    whole = λ is. last.whole (going.unbroken is);
  }

  pub breaks_with : {A : Type 0} {old mid new : S} {whole rest : Talk A} {error : StepError} → Going alone sizes known own stays is_whole old mid whole rest → Broken alone sizes known own stays is_whole mid new rest error
      → Broken alone sizes known own stays is_whole old new whole error
  breaks_with {A} {old} {mid} {new} {whole} {rest} going last = record {
    leads = leads_on going.leads last.leads;
    broken = going.broken (known new) (own new) (subst (λ (s : Sizes). BreaksOff alone s (known mid) (known new) (own mid) (own new) rest) going.leads.sizes_are last.broken);
    full = last.full;
    whole = λ other is. last.whole other (going.unbroken is);
  }

  -- what comes next was broken off
  broken_on : {A B : Type 0} {old mid new : S} {whole : Talk B} {error : StepError} (talk : Talk A) (more : A → Talk B)
      → Going alone sizes known own stays is_whole old mid whole (and_then talk more) → Broken alone sizes known own stays is_whole mid new talk error
      → Broken alone sizes known own stays is_whole old new whole error
  broken_on {A} {B} {old} {mid} {new} talk more going next = record {
    leads = leads_on going.leads next.leads;
    broken = going.broken (known new) (own new) (broken_front alone (sizes old) (known mid) (known new) (own mid) (own new) talk more
        (subst (λ (s : Sizes). BreaksOff alone s (known mid) (known new) (own mid) (own new) talk) going.leads.sizes_are next.broken));
    full = next.full;
    whole = λ other is. next.whole other (going.unbroken is);
  }

  -- and its error is passed on
  pub breaks : {A B : Type 0} {old mid new : S} {whole : Talk B} {error : StepError} (talk : Talk A) (more : A → Talk B)
      → Going alone sizes known own stays is_whole old mid whole (and_then talk more) → Broken alone sizes known own stays is_whole mid new talk error
      → (result : Result B StepError) → IsPassed result error → Went alone sizes known own stays is_whole old new whole result
  breaks {A} {B} {old} {mid} {new} {whole} talk more going next (Ok told) passed = absurd (cc passed.0)
  breaks {A} {B} {old} {mid} {new} {whole} talk more going next (Err e) passed =
      subst (λ e. Broken alone sizes known own stays is_whole old new whole e) (sym passed.1) (broken_on talk more going next)

  -- the set has as many nodes still
  pub sizes_still : {A : Type 0} {old new : S} {whole rest : Talk A} → Going alone sizes known own stays is_whole old new whole rest → (sizes new).nodes ≡ (sizes old).nodes
  sizes_still going = ap (λ (s : Sizes). s.nodes) going.leads.sizes_are

learns_none : (alone : Bool) (known : List Event) → Learns alone known known
learns_none alone known = record { others = []; new_is = sym (append-nil known); none = λ is. refl }

-- memory ran out before the next command
pub out_of_memory : {A : Type 0} (alone : Bool) (sizes : Sizes) (known own : List Event) (command : Command) (next : Reply → Talk A) → BreaksOff alone sizes known known own own (asks command next)
out_of_memory alone sizes known own command next = (inl (learns_none alone known), sym (append-nil own))

-- ---- one command

pub asked : {S : Type 0} (alone : Bool) (sizes : S → Sizes) (known own : S → List Event) (stays : S → S → Type 0) (is_whole : S → Type 0) (old new : S) (command : Command)
    (result : Result Reply StepError) → ((one two three : S) → stays one two → stays two three → stays one three)
    → IfOk result (λ reply. StepsOnce alone (sizes old) (known old) (known new) 0 command reply) → OnErr result (Learns alone (known old) (known new))
    → IfOk result (λ reply. AddsOne (known new) (own old) (own new)) → OnErr result (own new ≡ own old)
    → (IsErrOf result HistoryFull → length (known new) ≡ 4294967295) → sizes new ≡ sizes old → stays old new → (is_whole old → result ≢ Err Memory → is_whole new)
    → IsDefined (sizes new) (known new) → Went alone sizes known own stays is_whole old new (asks command tells) result
asked alone sizes known own stays is_whole old new command (Ok reply) on steps learns adds idle full same stay whole defined = record {
  leads = record { sizes_are = same; stays_so = λ first before. on first old new before stay; defined = λ is. defined };
  held = (
    (known new, reply, steps, (refl, refl)),
    own_event alone (sizes old) (known old) (known new) (own old) (own new) 0 command reply steps adds,
  );
  whole = λ is. whole is (λ memory. cc memory);
}
asked alone sizes known own stays is_whole old new command (Err error) on steps learns adds idle full same stay whole defined = record {
  leads = record { sizes_are = same; stays_so = λ first before. on first old new before stay; defined = λ is. defined };
  broken = (inl learns, idle ∙ sym (append-nil (own old)));
  full = λ is. full (ap Err is);
  whole = λ other is. whole is (λ memory. other (cc memory));
}

-- ---- a message, and a command with what it sends

module _ {S : Type 0} {alone : Bool} {sizes : S → Sizes} {known own : S → List Event} {stays : S → S → Type 0} {is_whole : S → Type 0} where
  pub none_sent : (set : S) (message : Option ℕ) → message ≡ None → Held alone sizes known own stays is_whole set set (delivers message) None
  none_sent set message is = subst (λ m. Held alone sizes known own stays is_whole set set (delivers m) None) (sym is) (ended None begun)

  module _ {old mid : S} where
    pub delivery_fails : {error : StepError} {command : Command} (message : Option ℕ) (number : ℕ) → message ≡ Some number → command ≡ commands.Deliver number
        → Broken alone sizes known own stays is_whole old mid (asks command tells) error
        → (result : Result (Option Reply) StepError) → IsPassed result error → Went alone sizes known own stays is_whole old mid (delivers message) result
    delivery_fails {error} message number is command_is broken result passed =
        subst (λ m. Went alone sizes known own stays is_whole old mid (delivers m) result) (sym is)
        (breaks (asks (commands.Deliver number) tells) (λ told. tells (Some told)) begun (subst (λ c. Broken alone sizes known own stays is_whole old mid (asks c tells) error) command_is broken) result passed)

    pub delivered : {reply : Reply} {command : Command} (message : Option ℕ) (number : ℕ) → message ≡ Some number → command ≡ commands.Deliver number
        → Held alone sizes known own stays is_whole old mid (asks command tells) reply → Held alone sizes known own stays is_whole old mid (delivers message) (Some reply)
    delivered {reply} message number is command_is held =
        subst (λ m. Held alone sizes known own stays is_whole old mid (delivers m) (Some reply)) (sym is)
        (ended (Some reply) (goes (asks (commands.Deliver number) tells) (λ told. tells (Some told)) begun
        (subst (λ c. Held alone sizes known own stays is_whole old mid (asks c tells) reply) command_is held)))

    pub carrying_fails : {error : StepError} (command : Command) → Broken alone sizes known own stays is_whole old mid (asks command tells) error
        → (result : Result (Option Reply) StepError) → IsPassed result error → Went alone sizes known own stays is_whole old mid (carries command) result
    carrying_fails command broken result passed = breaks (asks command tells) (λ told. delivers (message_sent told)) begun broken result passed

    pub carried : (new : S) (command : Command) (reply : Reply) → Held alone sizes known own stays is_whole old mid (asks command tells) reply → (message : Option ℕ) → message ≡ message_sent reply
        → (result : Result (Option Reply) StepError) → Went alone sizes known own stays is_whole mid new (delivers message) result → Went alone sizes known own stays is_whole old new (carries command) result
    carried new command reply held message is result went = go result (subst (λ m. Went alone sizes known own stays is_whole mid new (delivers m) result) is went)
      where
        rest : Going alone sizes known own stays is_whole old mid (carries command) (delivers (message_sent reply))
        rest = goes (asks command tells) (λ told. delivers (message_sent told)) begun held

        go : (r : Result (Option Reply) StepError) → Went alone sizes known own stays is_whole mid new (delivers (message_sent reply)) r → Went alone sizes known own stays is_whole old new (carries command) r
        go (Ok told) last = ends_with rest last
        go (Err error) last = breaks_with rest last
