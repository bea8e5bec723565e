-- What the two steps of a call show.
use Rattle.std.proofs.Common.{◌≡◌, ◌∙◌, ◌<◌, ◌+◌, ap, sym, subst, refl, arith, Bool, true, false, ℕ, zero, suc, Option, None, Some, List, [], ◌∷◌, ◌++◌, length, append_assoc, length-append, lt-ltb, slice_get, if◌then◌else◌}
use Rattle.std.proofs.Math.Seq.{take-append_seam}
use Rattle.std.proofs.lemmas.Option.{same_Some}
use Rattle.std.specs.List.{All, AllPairs}
use Rattle.oplog_entry.specs.declared.entry.Entry.{Entry}
use Rattle.oplog_entry.specs.Lawful.{IsLawful}
use Rattle.oplog_entry.specs.Log.{IsOplog, StandsBefore}
use Rattle.set_model.specs.declared.command.Command.{Command}
use Rattle.set_model.specs.declared.command.Command.TheVariants as commands
use Rattle.set_model.specs.declared.command.Event.{Event}
use Rattle.set_model.specs.declared.reply.Refusal.TheVariants.{NodeDown}
use Rattle.set_model.specs.declared.reply.Reply.{Reply}
use Rattle.set_model.specs.declared.reply.Reply.TheVariants as reply
use Rattle.set_model.specs.Limits.{is_for}
use Rattle.set_model.specs.Node.{Node}
use Rattle.set_model.specs.Reads.{state_of}
use Rattle.set_model.specs.Run.{Sizes, run, world_at}
use Rattle.set_model.specs.World.{World, step}
use Rattle.safety_laws.specs.Bounds.{NumbersStaySmall}
use Rattle.safety_laws.specs.Logs.{LogsRise}
use Rattle.set_world.specs.Stepper.{StepsOnce}
use Rattle.change_stream.specs.Calls.{Call}
use Rattle.change_stream.specs.Shown.{IsAnswered, Shows, shown_log, shown_state}
use Rattle.change_stream.proofs.EventLemmas.{log_told, state_told, told_at}

-- ---- the two commands are ones of the set

pub state_is_for : (node nodes : ℕ) → node < nodes → is_for nodes (commands.State node) ≡ true
state_is_for node nodes within = rw (lt-ltb node nodes within) refl

pub log_is_for : (node nodes : ℕ) → node < nodes → is_for nodes (commands.Log node) ≡ true
log_is_for node nodes within = rw (lt-ltb node nodes within) refl

-- ---- places in a history

get_seam : (met rest : List Event) (event : Event) → slice_get (met ++ event ∷ rest) (length met) ≡ Some event
get_seam [] rest event = refl
get_seam (first ∷ met) rest event = get_seam met rest event

pub world_seam : (sizes : Sizes) (met rest : List Event) → world_at sizes (met ++ rest) (length met) ≡ (run sizes met).world
world_seam sizes met rest = ap (λ l. (run sizes l).world) (take-append_seam met rest)

pub answered_at : (sizes : Sizes) (met rest : List Event) (event : Event) (command : Command) (answer : Reply) → event.command ≡ command → answer ≡ (step (run sizes met).world event).reply
    → IsAnswered sizes (met ++ event ∷ rest) (length met) command answer
answered_at sizes met rest event command answer is replied = record {
  event = event;
  there = get_seam met rest event;
  command_is = is;
  reply_is = ap (λ (w : World). (step w event).reply) (world_seam sizes met (event ∷ rest)) ∙ sym replied;
}

-- the two events of a call, in the history that ends with them
pub shows_of : (alone : Bool) (sizes : Sizes) (old between new : List Event) (call : Call) (state : Reply) → StepsOnce alone sizes old between 0 (commands.State call.node) state
    → shown_state state ≡ Some (call.term, call.commit) → StepsOnce alone sizes between new 0 (commands.Log call.node) (reply.Entries call.log) → Shows sizes new call
shows_of alone sizes old between new call state first state_is second = record {
  first = length first.met;
  second = length second.met;
  order = omega (arith, longer);
  state = state;
  state_is = state_is;
  asked = subst (λ l. IsAnswered sizes l (length first.met) (commands.State call.node) state) (sym whole)
      (answered_at sizes first.met (second.learns.others ++ second.event ∷ []) first.event (commands.State call.node) state first.command_is first.reply_is);
  read = subst (λ l. IsAnswered sizes l (length second.met) (commands.Log call.node) (reply.Entries call.log)) (sym second.new_is)
      (answered_at sizes second.met [] second.event (commands.Log call.node) (reply.Entries call.log) second.command_is second.reply_is);
}
  where
    met_is : second.met ≡ first.met ++ first.event ∷ second.learns.others
    met_is = second.learns.new_is ∙ ap (λ l. l ++ second.learns.others) first.new_is ∙ append_assoc first.met (first.event ∷ []) second.learns.others

    whole : new ≡ first.met ++ first.event ∷ (second.learns.others ++ second.event ∷ [])
    whole = second.new_is ∙ ap (λ l. l ++ second.event ∷ []) met_is ∙ append_assoc first.met (first.event ∷ second.learns.others) (second.event ∷ [])

    longer : length second.met ≡ length first.met + suc (length second.learns.others)
    longer = ap length met_is ∙ length-append first.met (first.event ∷ second.learns.others)

-- ---- a node that is down

pub none_past : (nodes : List Node) (number : ℕ) → slice_get nodes number ≡ None → number < length nodes → ⊥
none_past [] number none within = omega (arith, within)
none_past (node ∷ nodes) zero none within = absurd (cc none)
none_past (node ∷ nodes) (suc number) none within = none_past nodes number none (omega (arith, within))

-- what a node doesn't show, it refuses since it is down
down_only : {B : Type 0} (shown : Node → Reply) (seen : Reply → Option B) → ((node : Node) → seen (shown node) ≡ None → ⊥) → (found : Option Node) → (found ≡ None → ⊥) → (answer : Reply)
    → answer ≡ told_at shown found → seen answer ≡ None → answer ≡ reply.Refused NodeDown
down_only shown seen shows None there answer told none = absurd (there refl)
down_only shown seen shows (Some node) there answer told none = go node.up told
  where
    go : (up : Bool) → answer ≡ (if up then shown node else reply.Refused NodeDown) → answer ≡ reply.Refused NodeDown
    go true is = absurd (shows node (ap seen (sym is) ∙ none))
    go false is = is

module _ (alone : Bool) (sizes : Sizes) (old new : List Event) (number : ℕ) (known : number < sizes.nodes) (small : NumbersStaySmall sizes new) where
  there_in : (met : List Event) (event : Event) → new ≡ met ++ event ∷ [] → slice_get (run sizes met).world.nodes number ≡ None → ⊥
  there_in met event is none =
      let count : length (run sizes met).world.nodes ≡ sizes.nodes =
      ap (λ (w : World). length w.nodes) (sym (world_seam sizes met (event ∷ [])) ∙ ap (λ l. world_at sizes l (length met)) (sym is)) ∙ small.count (length met) in
      none_past (run sizes met).world.nodes number none (omega (arith, known, count))

  pub state_down : (answer : Reply) → StepsOnce alone sizes old new 0 (commands.State number) answer → shown_state answer ≡ None → answer ≡ reply.Refused NodeDown
  state_down answer steps none =
      down_only state_of shown_state (λ node is. cc is) (slice_get (run sizes steps.met).world.nodes number) (there_in steps.met steps.event steps.new_is) answer
      (steps.reply_is ∙ state_told (run sizes steps.met).world steps.event number steps.command_is) none

  pub log_down : (answer : Reply) → StepsOnce alone sizes old new 0 (commands.Log number) answer → shown_log answer ≡ None → answer ≡ reply.Refused NodeDown
  log_down answer steps none =
      down_only (λ node. reply.Entries node.log) shown_log (λ node is. cc is) (slice_get (run sizes steps.met).world.nodes number) (there_in steps.met steps.event steps.new_is) answer
      (steps.reply_is ∙ log_told (run sizes steps.met).world steps.event number steps.command_is) none

-- ---- a log that is shown

-- the node of the log, and the log of the node
pub record IsLogOf (found : Option Node) (answer : Reply) (log : List Entry) : Type 0 where
  pub node : Node
  pub there : found ≡ Some node
  pub up : node.up ≡ true
  pub log_is : node.log ≡ log
  pub answer_is : answer ≡ reply.Entries log

log_of : (found : Option Node) (answer : Reply) (log : List Entry) → answer ≡ told_at (λ node. reply.Entries node.log) found → shown_log answer ≡ Some log → IsLogOf found answer log
log_of None answer log told some = let none : None ≡ Some log = ap shown_log (sym told) ∙ some in absurd (cc none)
log_of (Some node) answer log told some = go node.up refl told
  where
    go : (up : Bool) → node.up ≡ up → answer ≡ (if up then reply.Entries node.log else reply.Refused NodeDown) → IsLogOf (Some node) answer log
    go true up is =
        let same : node.log ≡ log = same_Some node.log log (ap shown_log (sym is) ∙ some) in
        record { node = node; there = refl; up = up; log_is = same; answer_is = is ∙ ap reply.Entries same }
    go false up is = let none : None ≡ Some log = ap shown_log (sym is) ∙ some in absurd (cc none)

module _ (alone : Bool) (sizes : Sizes) (old new : List Event) (number : ℕ) (answer : Reply) (steps : StepsOnce alone sizes old new 0 (commands.Log number) answer) (log : List Entry) (shown : shown_log answer ≡ Some log) where
  shows_log : IsLogOf (slice_get (run sizes steps.met).world.nodes number) answer log
  shows_log = log_of (slice_get (run sizes steps.met).world.nodes number) answer log (steps.reply_is ∙ log_told (run sizes steps.met).world steps.event number steps.command_is) shown

  pub entries_are : answer ≡ reply.Entries log
  entries_are = shows_log.answer_is

  pub log_rises : LogsRise sizes new → All IsLawful log → IsOplog log
  log_rises rise lawful = record {
    order = subst (λ l. AllPairs StandsBefore l) shows_log.log_is (rise (length steps.met) number shows_log.node (record {
      there = ap (λ (w : World). slice_get w.nodes number) (ap (λ l. world_at sizes l (length steps.met)) steps.new_is ∙ world_seam sizes steps.met (steps.event ∷ [])) ∙ shows_log.there;
      up = shows_log.up;
    }));
    lawful = lawful;
  }
