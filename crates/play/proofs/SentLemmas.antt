-- Messages that are written one after another.
use Rattle.std.proofs.Common.{◌≡◌, ◌<◌, ◌≤◌, ◌+◌, ◌∙◌, ℕ, List, ◌∷◌, ◌++◌, ap, append-nil, append_assoc, drop, get_or, length, sym}
use Rattle.std.proofs.lemmas.List.{drop_all, drop_more}
use Rattle.repl_msg.specs.declared.message.Message.{Message}
use Rattle.play.specs.Sent.{message_line, message_lines}

-- one message was written, and the others are left
pub one_written : (messages : List Message) (number : ℕ) (message : Message) → number < length messages → message ≡ get_or messages number message → (old new : List ℕ) → new ≡ old ++ message_line number message
    → new ++ message_lines (number + 1) (drop (number + 1) messages) ≡ old ++ message_lines number (drop number messages)
one_written messages number message within is old new one =
    let rest = message_lines (number + 1) (drop (number + 1) messages) in
    let left : drop number messages ≡ message ∷ drop (number + 1) messages = drop_more messages number message within ∙ ap (λ (m : Message). m ∷ drop (number + 1) messages) (sym is) in
    ap (λ (xs : List ℕ). xs ++ rest) one ∙ append_assoc old (message_line number message) rest
    ∙ ap (λ (ms : List Message). old ++ message_lines number ms) (sym left)

-- none is left
pub all_written : (messages : List Message) (number : ℕ) (out whole : List ℕ) → length messages ≤ number → out ++ message_lines number (drop number messages) ≡ whole → out ≡ whole
all_written messages number out whole past so_far =
    sym (append-nil out) ∙ ap (λ (ms : List Message). out ++ message_lines number ms) (sym (drop_all number messages past)) ∙ so_far
