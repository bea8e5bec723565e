-- What a linear read shows follows from its three events.
use Rattle.std.proofs.Common.{◌≡◌, ◌∙◌, ◌<◌, ◌≤◌, ◌+◌, ◌==◌, ap, arith, sym, subst, refl, ℕ, suc, Bool, true, false, if◌then◌else◌, eqb-true, append_assoc, append-nil, length-append, Option, None, Some, Result, Ok, Err, List, [], ◌∷◌, ◌++◌, length}
use Rattle.std.specs.Prelude.{IfOk}
use Rattle.std.proofs.lemmas.Option.{slice_get-get_or}
use Rattle.std.proofs.Math.Seq.{get_or-append_seam, take-append_seam}
use Rattle.std.specs.FinMap as maps
use Rattle.bson_doc.specs.Key.{key_of}
use Rattle.bson_doc.specs.Tree.{Fields}
use Rattle.bson_doc.specs.View.{tree_of}
use Rattle.bson_doc.specs.declared.doc.Value.{Value}
use Rattle.bson_doc.specs.declared.key.IdKey.{IdKey}
use Rattle.rs_optime.specs.declared.optime.OpTime.{OpTime}
use Rattle.member_config.specs.Config.{id_of}
use Rattle.set_model.specs.declared.command.AckConcern.TheVariants as concerns
use Rattle.set_model.specs.declared.command.Command.{Command}
use Rattle.set_model.specs.declared.command.Command.TheVariants as commands
use Rattle.set_model.specs.declared.command.Event.{Event}
use Rattle.set_model.specs.declared.command.ReadLevel.TheVariants as levels
use Rattle.set_model.specs.declared.command.Target.TheVariants as targets
use Rattle.set_model.specs.declared.reply.Refusal.{Refusal}
use Rattle.set_model.specs.declared.reply.Refusal.TheVariants.{BadIdKind, SteppedDown}
use Rattle.set_model.specs.declared.reply.Reply.{Reply}
use Rattle.set_model.specs.declared.reply.Reply.TheVariants as reply
use Rattle.set_model.specs.declared.role.Role.{Role}
use Rattle.set_model.specs.declared.role.Role.TheVariants as roles
use Rattle.set_model.specs.Concerns.{ack, ack_refusal, acked}
use Rattle.set_model.specs.Node.{Node}
use Rattle.set_model.specs.Points.{applied_point, last_point}
use Rattle.set_model.specs.Reads.{document_reply, read, read_key, shown_documents, show_state, state_of}
use Rattle.set_model.specs.Roles.{is_leading}
use Rattle.set_model.specs.Run.{Sizes, run, world_at}
use Rattle.set_model.specs.Safety.{Leads, is_refusal}
use Rattle.set_model.specs.World.{World, step, touched_node}
use Rattle.safety_laws.specs.Leaders.{PrimariesStay}
use Rattle.set_world.specs.declared.error.StepError.{StepError}
use Rattle.set_world.specs.Stepper.{StepsOnce}
use Rattle.linear_read.specs.declared.answer.LinearAnswer.{LinearAnswer}
use Rattle.linear_read.specs.declared.answer.LinearAnswer.TheVariants.{Found, Missing, Refused}
use Rattle.linear_read.specs.Asking.{IsHeld}
use Rattle.linear_read.specs.Going.{Went}
use Rattle.linear_read.specs.Linear.{Asks, IsConfirmed, IsLinear, IsShown}
use Rattle.linear_read.specs.Points.{acknowledges, answer_of, confirms, document_shown, flushes, in_term, linear, note_written, others_told, refusal_of, term_shown, unless_noted, unless_refused}
use Rattle.linear_read.specs.Talk.{Talk, tells, asks, and_then}
use Rattle.linear_read.proofs.Asked.{DidAt, NotedAt, did_at, noted_at}
use Rattle.linear_read.proofs.Events.{did}

-- ---- what replies tell

taken_state : (found : Reply) (term : ℕ) → term_shown found ≡ Ok term → is_refusal found ≡ false
taken_state (reply.Refused why) term ok = absurd (cc ok)
taken_state _ term ok = refl

taken_document : (found : Reply) (shown : LinearAnswer) → document_shown found ≡ Ok shown → is_refusal found ≡ false
taken_document (reply.Refused why) shown ok = absurd (cc ok)
taken_document _ shown ok = refl

taken_ack : (told : Reply) → refusal_of told ≡ None → is_refusal told ≡ false
taken_ack (reply.Refused why) none = absurd (cc none)
taken_ack _ none = refl

primary_of : (node : Node) (term : ℕ) → term_shown (state_of node) ≡ Ok term → (node.role ≡ roles.Primary) × (node.term ≡ term)
primary_of node term ok = go node.role refl ok
  where
    go : (role : Role) → node.role ≡ role → term_shown (reply.State role node.term node.vote (last_point node) node.durable (applied_point node) node.commit (id_of node.config) node.rollback) ≡ Ok term → (node.role ≡ roles.Primary) × (node.term ≡ term)
    go roles.Primary is ok = (is, cc ok)
    go roles.Secondary is ok = absurd (cc ok)
    go roles.Candidate is ok = absurd (cc ok)
    go roles.Draining is ok = absurd (cc ok)

found_of : (found : Reply) (document : Fields) → document_shown found ≡ Ok (Found document) → found ≡ reply.Found document
found_of (reply.Found other) document ok = cc ok
found_of (reply.Refused why) document ok = absurd (cc ok)
found_of _ document ok = absurd (cc ok)

module _ (node : Node) (collection : List ℕ) (found : Reply) (ok : document_shown found ≡ Ok Missing) where
  by_document : (document : Option Fields) → document_reply document ≡ found → found ≡ reply.Missing
  by_document (Some document) told = let bad : Ok (Found document) ≡ Ok Missing = ap document_shown told ∙ ok in absurd (cc bad)
  by_document None told = sym told

  missing_of : (key : Option IdKey) → (read_key node levels.Local collection key).reply ≡ found → found ≡ reply.Missing
  missing_of None told = let bad : Err BadIdKind ≡ Ok Missing = ap document_shown told ∙ ok in absurd (cc bad)
  missing_of (Some key) told = by_document (maps.get (shown_documents node levels.Local) (collection, key)) told

noted_of : (term : ℕ) (told : Reply) (at : OpTime) → note_written term told ≡ Ok at → (told ≡ reply.Written at) × (at.term ≡ term)
noted_of term (reply.Written other) at ok = go (other.term == term) refl ok
  where
    go : (b : Bool) → (other.term == term) ≡ b → (if b then Ok other else Err (SteppedDown term)) ≡ Ok at → (reply.Written other ≡ reply.Written at) × (at.term ≡ term)
    go true is ok = let same : other ≡ at = cc ok in (ap reply.Written same, ap (λ (o : OpTime). o.term) (sym same) ∙ eqb-true other.term term is)
    go false is ok = absurd (cc ok)
noted_of term (reply.Refused why) at ok = absurd (cc ok)
noted_of term _ at ok = absurd (cc ok)

acked_of : (node : Node) (at : OpTime) (told : Reply) → (ack node (targets.At at) concerns.Majority).reply ≡ told → refusal_of told ≡ None → told ≡ reply.Acked at
acked_of node at told is none = go (ack_refusal node at concerns.Majority) is
  where
    go : (why : Option Refusal) → (acked node at why).reply ≡ told → told ≡ reply.Acked at
    go None is = sym is
    go (Some why) is = let bad : Some why ≡ None = ap refusal_of is ∙ none in absurd (cc bad)

-- ---- steps in the events that are known after them

module _ (alone : Bool) (sizes : Sizes) where
  abbrev Steps : List Event → List Event → Command → Reply → Type 0
  Steps old new command told = StepsOnce alone sizes old new 0 command told

  abbrev Grows : List Event → List Event → Type 0
  Grows old new = (rest : List Event) × (new ≡ old ++ rest)

  grows_on : (old mid new : List Event) → Grows old mid → Grows mid new → Grows old new
  grows_on old mid new one two = (one.0 ++ two.0, two.1 ∙ ap (λ l. l ++ two.0) one.1 ∙ append_assoc old one.0 two.0)

  step_grows : (old new : List Event) (command : Command) (told : Reply) → Steps old new command told → Grows old new
  step_grows old new command told steps = (
    steps.learns.others ++ steps.event ∷ [],
    steps.new_is ∙ ap (λ l. l ++ steps.event ∷ []) steps.learns.new_is ∙ append_assoc old steps.learns.others (steps.event ∷ []),
  )

  talk_grows : {A : Type 0} (old new : List Event) (talk : Talk A) (told : A) → IsHeld alone sizes old new talk told → Grows old new
  talk_grows old new (tells answer) told held = ([], held.0 ∙ sym (append-nil old))
  talk_grows old new (asks command next) told held =
      grows_on old held.0 new (step_grows old held.0 command held.1 held.2) (talk_grows held.0 new (next held.1) told held.3)

  -- a talk and its result, and then the rest
  held_parts : {A B : Type 0} (old new : List Event) (talk : Talk A) (more : A → Talk B) (last : B) → IsHeld alone sizes old new (and_then talk more) last
      → (mid : List Event) × (told : A) × IsHeld alone sizes old mid talk told × IsHeld alone sizes mid new (more told) last
  held_parts old new (tells answer) more last held = (old, answer, (refl, refl), held)
  held_parts {A} {B} old new (asks command next) more last held =
      let rest : (mid : List Event) × (told : A) × IsHeld alone sizes held.0 mid (next held.1) told × IsHeld alone sizes mid new (more told) last =
      held_parts held.0 new (next held.1) more last held.3 in
      (rest.0, rest.1, (held.0, held.1, held.2, rest.2), rest.3)

  -- a step is an event of what is known later
  asks_of : (old mid new : List Event) (number : ℕ) (command : Command) (told : Reply) (steps : Steps old mid command told) → Grows mid new
      → ((world : World) → touched_node world command ≡ number) → Asks sizes new (length steps.met) number command told
  asks_of old mid new number command told steps more touches =
      subst (λ l. Asks sizes l (length steps.met) number command told) (sym whole) (record {
        event = steps.event;
        command_is = steps.command_is;
        answers = record {
          event_is = slice_get-get_or known (length steps.met) steps.event within ∙ ap (λ e. Some e) (get_or-append_seam steps.met steps.event more.0 steps.event);
          touches = ap (λ c. touched_node (world_at sizes known (length steps.met)) c) steps.command_is ∙ touches (world_at sizes known (length steps.met));
          reply_is = ap (λ (w : World). (step w steps.event).reply) here ∙ sym steps.reply_is;
        };
      })
    where
      known : List Event
      known = steps.met ++ steps.event ∷ more.0

      whole : new ≡ steps.met ++ steps.event ∷ more.0
      whole = more.1 ∙ ap (λ l. l ++ more.0) steps.new_is ∙ append_assoc steps.met (steps.event ∷ []) more.0

      within : length steps.met < length (steps.met ++ steps.event ∷ more.0)
      within = let long : length (steps.met ++ steps.event ∷ more.0) ≡ length steps.met + suc (length more.0) = length-append steps.met (steps.event ∷ more.0) in omega (arith, long)

      here : world_at sizes (steps.met ++ steps.event ∷ more.0) (length steps.met) ≡ (run sizes steps.met).world
      here = ap (λ l. (run sizes l).world) (take-append_seam steps.met (steps.event ∷ more.0))

  -- one after the other
  later : (old mid new : List Event) (one two : Command) (first second : Reply) (steps : Steps old mid one first) (next : Steps mid new two second) → length steps.met < length next.met
  later old mid new one two first second steps next =
      let long : length mid ≡ length steps.met + 1 = ap length steps.new_is ∙ length-append steps.met (steps.event ∷ []) in
      let longer : length next.met ≡ length mid + length next.learns.others = ap length next.learns.new_is ∙ length-append mid next.learns.others in
      omega (arith, long, longer)

-- ---- the five points

module _ (alone : Bool) (sizes : Sizes) (old new : List Event) (stays : PrimariesStay sizes new) (number nodes : ℕ) (collection : List ℕ) (id : Value) where
  abbrev Shows : LinearAnswer → Type 0
  Shows answer = IsShown sizes new (length old) number collection id answer

  refused : (mid : List Event) (why : Refusal) (answer : LinearAnswer) → IsHeld alone sizes mid new (tells (Refused why)) answer → Shows answer
  refused mid why answer held = subst (λ a. IsShown sizes new (length old) number collection id a) held.1 tt

  -- who showed its term was primary in it
  primary_at : (place term : ℕ) (state : Reply) → Asks sizes new place number (commands.State number) state → term_shown state ≡ Ok term
      → (node : Node) × Leads sizes new place number term node × (node.role ≡ roles.Primary)
  primary_at place term state asked ok =
      let there : DidAt sizes new place number show_state state =
      did_at sizes new place number asked.event show_state state asked.answers
      (did (world_at sizes new place) asked.event (commands.State number) number show_state state asked.command_is refl (λ n. refl) (taken_state state term ok) asked.answers.reply_is) in
      let tells : (there.node.role ≡ roles.Primary) × (there.node.term ≡ term) = primary_of there.node term (ap term_shown there.told ∙ ok) in
      (there.node, record { at = there.before; term_is = tells.1; role = ap is_leading tells.0 }, tells.0)

  -- the answer of a linear read is what its read was told
  shows_as : (place : ℕ) (node : Node) (found : Reply) → length old ≤ place → IsLinear sizes new place number node collection id found → (shown : LinearAnswer) → document_shown found ≡ Ok shown → Shows shown
  shows_as place node found after is_linear (Found document) ok =
      (place, node, after, subst (λ r. IsLinear sizes new place number node collection id r) (found_of found document ok) is_linear)
  shows_as place node found after is_linear Missing ok =
      let asked : Asks sizes new place number (commands.Read number levels.Local collection id) found = is_linear.reads in
      let there : DidAt sizes new place number (λ n. read n levels.Local collection (tree_of id)) found =
      did_at sizes new place number asked.event (λ n. read n levels.Local collection (tree_of id)) found asked.answers
      (did (world_at sizes new place) asked.event (commands.Read number levels.Local collection id) number (λ n. read n levels.Local collection (tree_of id)) found asked.command_is refl (λ n. refl)
      (taken_document found Missing ok) asked.answers.reply_is) in
      (place, node, after, subst (λ r. IsLinear sizes new place number node collection id r) (missing_of there.node collection found ok (key_of (tree_of id)) there.told) is_linear)
  shows_as place node found after is_linear (Refused why) ok = tt

  -- a command that wasn't refused was acknowledged
  acked_at : (place : ℕ) (at : OpTime) (told : Reply) → Asks sizes new place number (commands.Ack number (targets.At at) concerns.Majority) told → refusal_of told ≡ None → told ≡ reply.Acked at
  acked_at place at told asked none =
      let there : DidAt sizes new place number (λ n. ack n (targets.At at) concerns.Majority) told =
      did_at sizes new place number asked.event (λ n. ack n (targets.At at) concerns.Majority) told asked.answers
      (did (world_at sizes new place) asked.event (commands.Ack number (targets.At at) concerns.Majority) number (λ n. ack n (targets.At at) concerns.Majority) told asked.command_is refl (λ n. refl)
      (taken_ack told none) asked.answers.reply_is) in
      acked_of there.node at told there.told none

  module _ (one two three end : List Event) (state found note : Reply) (term : ℕ) (shown : LinearAnswer) (at : OpTime) (why : Option Refusal)
      (asks_state : StepsOnce alone sizes old one 0 (commands.State number) state) (state_is : term_shown state ≡ Ok term)
      (asks_read : StepsOnce alone sizes one two 0 (commands.Read number levels.Local collection id) found) (found_is : document_shown found ≡ Ok shown)
      (asks_note : StepsOnce alone sizes two three 0 (commands.Note number) note) (note_is : note_written term note ≡ Ok at)
      (rest : IsHeld alone sizes three end (acknowledges number nodes at) why) (end_is : new ≡ end) where
    abbrev asks_ack : Talk (Option Refusal)
    asks_ack = asks (commands.Ack number (targets.At at) concerns.Majority) (λ told. tells (refusal_of told))

    flushed : (mid : List Event) × (done : _) × IsHeld alone sizes three mid (flushes number 200) done × IsHeld alone sizes mid end (and_then (others_told number at 0 nodes) (λ done. asks_ack)) why
    flushed = held_parts alone sizes three end (flushes number 200) (λ done. and_then (others_told number at 0 nodes) (λ done. asks_ack)) why rest

    others : (mid : List Event) × (done : _) × IsHeld alone sizes flushed.0 mid (others_told number at 0 nodes) done × IsHeld alone sizes mid end asks_ack why
    others = held_parts alone sizes flushed.0 end (others_told number at 0 nodes) (λ done. asks_ack) why flushed.3

    acks : StepsOnce alone sizes others.0 others.3.0 0 (commands.Ack number (targets.At at) concerns.Majority) others.3.1
    acks = others.3.2

    noted : (note ≡ reply.Written at) × (at.term ≡ term)
    noted = noted_of term note at note_is

    from_three : (more : List Event) × (new ≡ three ++ more)
    from_three = subst (λ l. (more : List Event) × (l ≡ three ++ more)) (sym end_is) (talk_grows alone sizes three end (acknowledges number nodes at) why rest)

    from_two : (more : List Event) × (new ≡ two ++ more)
    from_two = grows_on alone sizes two three new (step_grows alone sizes two three (commands.Note number) note asks_note) from_three

    from_one : (more : List Event) × (new ≡ one ++ more)
    from_one = grows_on alone sizes one two new (step_grows alone sizes one two (commands.Read number levels.Local collection id) found asks_read) from_two

    asked_state : Asks sizes new (length asks_state.met) number (commands.State number) state
    asked_state = asks_of alone sizes old one new number (commands.State number) state asks_state from_one (λ w. refl)

    asked_read : Asks sizes new (length asks_read.met) number (commands.Read number levels.Local collection id) found
    asked_read = asks_of alone sizes one two new number (commands.Read number levels.Local collection id) found asks_read from_two (λ w. refl)

    asked_note : Asks sizes new (length asks_note.met) number (commands.Note number) (reply.Written at)
    asked_note = subst (λ r. Asks sizes new (length asks_note.met) number (commands.Note number) r) noted.0
        (asks_of alone sizes two three new number (commands.Note number) note asks_note from_three (λ w. refl))

    asked_ack : Asks sizes new (length acks.met) number (commands.Ack number (targets.At at) concerns.Majority) others.3.1
    asked_ack = asks_of alone sizes others.0 others.3.0 new number (commands.Ack number (targets.At at) concerns.Majority) others.3.1 acks
        ([], end_is ∙ others.3.3.0 ∙ sym (append-nil others.3.0)) (λ w. refl)

    note_at : NotedAt sizes new (length asks_note.met) number at
    note_at = noted_at sizes new (length asks_note.met) number at asked_note

    primary : (node : Node) × Leads sizes new (length asks_state.met) number term node × (node.role ≡ roles.Primary)
    primary = primary_at (length asks_state.met) term state asked_state state_is

    state_before : length asks_state.met < length asks_read.met
    state_before = later alone sizes old one two (commands.State number) (commands.Read number levels.Local collection id) state found asks_state asks_read

    read_after : length old ≤ length asks_read.met
    read_after =
        let long : length asks_state.met ≡ length old + length asks_state.learns.others = ap length asks_state.learns.new_is ∙ length-append old asks_state.learns.others in
        omega (arith, long, state_before)

    read_before : length asks_read.met < length asks_note.met
    read_before = later alone sizes one two three (commands.Read number levels.Local collection id) (commands.Note number) found note asks_read asks_note

    reader : (node : Node) × Leads sizes new (length asks_read.met) number term node × (node.role ≡ roles.Primary)
    reader = stays (length asks_state.met) (length asks_read.met) (length asks_note.met) number term primary.0 note_at.old
        (let less : length asks_state.met < length asks_read.met = state_before in omega (arith, less))
        (let less : length asks_read.met < length asks_note.met = read_before in omega (arith, less))
        primary.1 primary.2 (subst (λ t. Leads sizes new (length asks_note.met) number t note_at.old) noted.1 note_at.before)

    confirmed : why ≡ None → IsConfirmed sizes new (length asks_read.met) number reader.0
    confirmed none = record {
      node_at = reader.1.at;
      role = reader.2;
      at = at;
      term_is = reader.1.term_is ∙ sym noted.1;
      noted = length asks_note.met;
      later = (let less : length asks_read.met < length asks_note.met = read_before in omega (arith, less));
      notes = asked_note;
      acked = length acks.met;
      acks = subst (λ r. Asks sizes new (length acks.met) number (commands.Ack number (targets.At at) concerns.Majority) r)
          (acked_at (length acks.met) at others.3.1 asked_ack (others.3.3.1 ∙ none)) asked_ack;
    }

    is_linear : why ≡ None → IsLinear sizes new (length asks_read.met) number reader.0 collection id found
    is_linear none = record { confirmed = confirmed none; reads = asked_read }

    unless_why : (answer : LinearAnswer) → answer_of shown why ≡ answer → Shows answer
    unless_why answer answer_is = go why refl
      where
        go : (w : Option Refusal) → why ≡ w → Shows answer
        go (Some w) is = subst (λ a. IsShown sizes new (length old) number collection id a) (ap (answer_of shown) (sym is) ∙ answer_is) tt
        go None is = subst (λ a. IsShown sizes new (length old) number collection id a) (ap (answer_of shown) (sym is) ∙ answer_is)
            (shows_as (length asks_read.met) reader.0 found read_after (is_linear is) shown found_is)

  pub shows : (answer : LinearAnswer) → IsHeld alone sizes old new (linear number nodes collection id) answer → Shows answer
  shows answer held = by_state (term_shown held.1) refl held.3
    where
      by_state : (term : Result ℕ Refusal) → term_shown held.1 ≡ term
          → IsHeld alone sizes held.0 new (unless_refused term (λ t. in_term number nodes (commands.Read number levels.Local collection id) t)) answer → Shows answer
      by_state (Err why) is rest = refused held.0 why answer rest
      by_state (Ok term) is rest = by_read (document_shown rest.1) refl rest.3
        where
          by_read : (shown : Result LinearAnswer Refusal) → document_shown rest.1 ≡ shown
              → IsHeld alone sizes rest.0 new (unless_refused shown (λ s. and_then (confirms number nodes term) (λ why. tells (answer_of s why)))) answer → Shows answer
          by_read (Err why) found_is more = refused rest.0 why answer more
          by_read (Ok shown) found_is more = by_note (note_written term ends.2.1) refl ends.2.3
            where
              ends : (end : List Event) × (why : Option Refusal) × IsHeld alone sizes rest.0 end (confirms number nodes term) why × IsHeld alone sizes end new (tells (answer_of shown why)) answer
              ends = held_parts alone sizes rest.0 new (confirms number nodes term) (λ why. tells (answer_of shown why)) answer more

              by_note : (at : Result OpTime Refusal) → note_written term ends.2.1 ≡ at
                  → IsHeld alone sizes ends.2.0 ends.0 (unless_noted at (acknowledges number nodes)) ends.1 → Shows answer
              by_note (Err why) note_is last =
                  subst (λ a. IsShown sizes new (length old) number collection id a) (ap (answer_of shown) last.1 ∙ ends.3.1) tt
              by_note (Ok at) note_is last =
                  unless_why held.0 rest.0 ends.2.0 ends.0 held.1 rest.1 ends.2.1 term shown at ends.1 held.2 is rest.2 found_is ends.2.2 note_is last ends.3.0 answer ends.3.1

-- ---- the call

pub went_shown : {S : Type 0} (alone : Bool) (sizes : S → Sizes) (known own : S → List Event) (stays : S → S → Type 0) (is_whole : S → Type 0) (old new : S) (number nodes : ℕ) (collection : List ℕ) (id : Value)
    → PrimariesStay (sizes old) (known new) → (result : Result LinearAnswer StepError) → Went alone sizes known own stays is_whole old new (linear number nodes collection id) result
    → IfOk result (λ answer. IsShown (sizes old) (known new) (length (known old)) number collection id answer)
went_shown alone sizes known own stays is_whole old new number nodes collection id law (Ok answer) went =
    shows alone (sizes old) (known old) (known new) law number nodes collection id answer went.held.0
went_shown alone sizes known own stays is_whole old new number nodes collection id law (Err error) went = tt
