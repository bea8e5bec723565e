-- The trace of a run, as it is written, is a trace of its events.
use Rattle.std.proofs.Common.{◌≡◌, ℕ, ◌≤◌, true, List, [], ◌∷◌, ◌++◌, length, Some, Ok, refl, sym, ap, subst, ◌∙◌, arith, append_assoc}
use Rattle.std.specs.Prelude.{codes, fold, map}
use Rattle.std.specs.List.{AllByRecursion}
use Rattle.std.specs.Str.{is_utf8}
use Rattle.std.proofs.lemmas.List.{append-nil, map-append}
use Rattle.run_checker.specs.Checking.{IsTrace, Tells, checked, opening_of, set_of}
use Rattle.run_checker.specs.Reading.{after_line, event_at, event_in, line_at}
use Rattle.run_checker.specs.Trace.{entries_text, event_text, event_words, trace_text}
use Rattle.run_checker.proofs.CheckedLemmas.{trace_said}
use Rattle.set_model.specs.declared.command.Event.{Event}
use Rattle.set_model.specs.declared.reply.Reply.{Reply}
use Rattle.set_model.specs.Limits.{AllFit, IsRun}
use Rattle.set_model.specs.Run.{AreSizes, Run, after, opening}
use Rattle.set_model.specs.World.{World, step}
use Rattle.transcript.specs.Replies.{line_text}
use Rattle.trace_laws.specs.Said.{CanBePrinted, IsEventLine, replies_of}
use Rattle.trace_laws.proofs.CommandInLine.{event_in_line}
use Rattle.trace_laws.proofs.InLine.{line_is}
use Rattle.trace_laws.proofs.LinesAgain.{event_again, header_again}

-- ---- one event

in_text : (nodes : ℕ) (line : List ℕ) (event : Event) → is_utf8 line ≡ true → event_at nodes line ≡ Ok event → event_in nodes line ≡ Ok event
unfolding event_in
in_text nodes line event utf8 read = rw (utf8, read) refl

-- the event, and what follows its line
record IsRead (nodes : ℕ) (event : Event) (rest : List ℕ) : Type 0 where
  line : event_in nodes (line_at (event_text event ++ rest)) ≡ Ok event
  later : after_line (event_text event ++ rest) ≡ Some rest

said : (nodes : ℕ) (event : Event) → CanBePrinted nodes event → IsEventLine nodes event
said nodes event can = record { command = can.command; line = can.plain.line; failed = can.plain.failed }

event_read : (nodes : ℕ) (event : Event) (rest : List ℕ) → nodes ≤ 50 → CanBePrinted nodes event → IsRead nodes event rest
event_read nodes event rest few can =
    let text : event_text event ++ rest ≡ event_words event ++ 10 ∷ rest = append_assoc (event_words event) (codes "\n") rest in
    let cut = line_is (event_words event) rest (event_in_line nodes event few (said nodes event can)) in
    record {
      line = ap (λ (xs : List ℕ). event_in nodes (line_at xs)) text ∙ ap (event_in nodes) cut.0 ∙ in_text nodes (event_words event) event can.plain.utf8 (event_again nodes event few (said nodes event can));
      later = ap (λ (xs : List ℕ). after_line xs) text ∙ cut.1;
    }

-- ---- all events

-- what they are answered from this world on
abbrev replies_from : World → List Event → List Reply
replies_from world [] = []
replies_from world (event ∷ events) = (step world event).reply ∷ replies_from (step world event).world events

told_replies : (so_far : Run) (events : List Event) → map (λ reply. reply.1) (fold after so_far events).replies ≡ map (λ reply. reply.1) so_far.replies ++ replies_from so_far.world events
told_replies so_far [] = sym (append-nil (map (λ reply. reply.1) so_far.replies))
told_replies so_far (event ∷ events) =
    let one = (step so_far.world event).reply in
    let rest = replies_from (step so_far.world event).world events in
    let more : map (λ reply. reply.1) (so_far.replies ++ (event.line, one) ∷ []) ≡ map (λ reply. reply.1) so_far.replies ++ one ∷ [] = map-append (λ reply. reply.1) so_far.replies ((event.line, one) ∷ []) in
    told_replies (after so_far event) events ∙ ap (λ (xs : List Reply). xs ++ rest) more ∙ append_assoc (map (λ reply. reply.1) so_far.replies) (one ∷ []) rest

told_all : (nodes : ℕ) (world : World) (events : List Event) → nodes ≤ 50 → AllFit world events → AllByRecursion (CanBePrinted nodes) events → Tells nodes world events (entries_text events (replies_from world events))
told_all nodes world [] few fit can = refl
told_all nodes world (event ∷ events) few fit can =
    let rest = entries_text events (replies_from (step world event).world events) in
    let reply = line_text (event.line, (step world event).reply) in
    let whole : entries_text (event ∷ events) (replies_from world (event ∷ events)) ≡ event_text event ++ (reply ++ rest) = append_assoc (event_text event) reply rest in
    let read = event_read nodes event (reply ++ rest) few can.0 in
    (rest, ap (λ (xs : List ℕ). event_in nodes (line_at xs)) whole ∙ read.line, fit.0, ap (λ (xs : List ℕ). after_line xs) whole ∙ read.later, told_all nodes (step world event).world events few fit.1 can.1)

-- ---- the whole

pub trace_again : (sizes : ℕ × ℕ × ℕ) (events : List Event) → AreSizes (set_of sizes) → IsRun (set_of sizes) events → AllByRecursion (CanBePrinted sizes.0) events
    → IsTrace sizes events (trace_text sizes events (replies_of sizes events))
trace_again sizes events fine defined can =
    let world = opening_of sizes in
    let replies : replies_of sizes events ≡ replies_from world events = told_replies (opening (set_of sizes)) events in
    let told = told_all sizes.0 world events (omega (arith, fine.most)) defined can in
    record {
      rest = entries_text events (replies_of sizes events);
      header = header_again sizes (entries_text events (replies_of sizes events)) fine;
      tells = subst (λ (rs : List Reply). Tells sizes.0 world events (entries_text events rs)) (sym replies) told;
    }

-- and so it is answered with yes
pub trace_counted : (sizes : ℕ × ℕ × ℕ) (events : List Event) → AreSizes (set_of sizes) → IsRun (set_of sizes) events → AllByRecursion (CanBePrinted sizes.0) events
    → checked (trace_text sizes events (replies_of sizes events)) ≡ Ok (length events)
trace_counted sizes events fine defined can = trace_said sizes events (trace_text sizes events (replies_of sizes events)) (trace_again sizes events fine defined can)
