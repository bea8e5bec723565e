-- The events of a trace, one after another.
use Rattle.std.proofs.Common.{ℕ, zero, suc, ◌≡◌, ◌+◌, ◌<◌, List, [], ◌∷◌, ◌++◌, length, take, get_or, append_assoc, ap, sym, arith, ◌∙◌}
use Rattle.std.specs.Prelude.{min}
use Rattle.std.proofs.Math.Seq.{take-append-add, take-length}
use Rattle.std.proofs.lemmas.List.{append-nil, take-append-le, take_min}
use Rattle.set_model.specs.declared.command.Event.{Event}
use Rattle.set_model.specs.declared.reply.Reply.{Reply}
use Rattle.run_checker.specs.Trace.{entries_text, entry_text}

-- a prefix of what others follow
pub take_front : (cut : ℕ) (front rest : List ℕ) → take cut front ≡ take (min cut (length front)) (front ++ rest)
take_front cut front rest = sym (take_min cut front) ∙ sym (take-append-le (min cut (length front)) front rest (omega arith))

module _ (event : Event) (reply : Reply) where
  next_entry : (events : List Event) (replies : List Reply) (place : ℕ) → place < length events → place < length replies → event ≡ get_or events place event → reply ≡ get_or replies place reply
      → entries_text (take (suc place) events) (take (suc place) replies) ≡ entries_text (take place events) (take place replies) ++ entry_text (event, reply)
  next_entry [] replies place within too is_event is_reply = absurd (omega arith)
  next_entry (e ∷ es) [] place within too is_event is_reply = absurd (omega arith)
  next_entry (e ∷ es) (r ∷ rs) zero within too is_event is_reply = rw (is_event, is_reply) (append-nil (entry_text (e, r)))
  next_entry (e ∷ es) (r ∷ rs) (suc place) within too is_event is_reply =
      ap (λ (xs : List ℕ). entry_text (e, r) ++ xs) (next_entry es rs place (omega arith) (omega arith) is_event is_reply)
      ∙ sym (append_assoc (entry_text (e, r)) (entries_text (take place es) (take place rs)) (entry_text (event, reply)))

  -- one event more
  pub entries_more : (events : List Event) (replies : List Reply) (place more : ℕ) (before so_far after : List ℕ) → more ≡ place + 1 → place < length events → place < length replies
      → event ≡ get_or events place event → reply ≡ get_or replies place reply
      → so_far ≡ before ++ entries_text (take place events) (take place replies) → after ≡ so_far ++ entry_text (event, reply)
      → after ≡ before ++ entries_text (take more events) (take more replies)
  entries_more events replies place more before so_far after next within too is_event is_reply put one =
      let same : more ≡ suc place = omega (arith, next) in
      rw (same, next_entry events replies place within too is_event is_reply)
      (one ∙ ap (λ (xs : List ℕ). xs ++ entry_text (event, reply)) put ∙ append_assoc before (entries_text (take place events) (take place replies)) (entry_text (event, reply)))

  -- some first events, and a prefix of the next one, are a prefix of all
  pub entries_front : (events : List Event) (replies : List Reply) (place cut : ℕ) → place < length events → place < length replies → event ≡ get_or events place event → reply ≡ get_or replies place reply
      → (count : ℕ) × (entries_text (take place events) (take place replies) ++ take cut (entry_text (event, reply)) ≡ take count (entries_text events replies))
  entries_front [] replies place cut within too is_event is_reply = absurd (omega arith)
  entries_front (e ∷ es) [] place cut within too is_event is_reply = absurd (omega arith)
  entries_front (e ∷ es) (r ∷ rs) zero cut within too is_event is_reply =
      (min cut (length (entry_text (e, r))), rw (is_event, is_reply) (take_front cut (entry_text (e, r)) (entries_text es rs)))
  entries_front (e ∷ es) (r ∷ rs) (suc place) cut within too is_event is_reply =
      let later = entries_front es rs place cut (omega arith) (omega arith) is_event is_reply in (
        length (entry_text (e, r)) + later.0,
        append_assoc (entry_text (e, r)) (entries_text (take place es) (take place rs)) (take cut (entry_text (event, reply)))
            ∙ ap (λ (xs : List ℕ). entry_text (e, r) ++ xs) later.1 ∙ sym (take-append-add (entry_text (e, r)) (entries_text es rs) later.0),
      )

-- after the last event all are there
pub entries_all : (events : List Event) (replies : List Reply) (count : ℕ) → length events ≡ length replies → count ≡ min (length events) (length replies)
    → entries_text (take count events) (take count replies) ≡ entries_text events replies
entries_all events replies count same is =
    let one : count ≡ length events = omega (arith, same, is) in
    let other : count ≡ length replies = omega (arith, same, is) in
    ap (λ (es : List Event). entries_text es (take count replies)) (ap (λ (n : ℕ). take n events) one ∙ take-length events)
    ∙ ap (λ (rs : List Reply). entries_text events rs) (ap (λ (n : ℕ). take n replies) other ∙ take-length replies)
