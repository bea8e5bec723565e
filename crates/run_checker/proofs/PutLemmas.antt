-- The words of an event whose entry is text are text.
use Rattle.std.proofs.Common.{◌≡◌, ℕ, ◌<◌, true, List, [], ◌∷◌, ◌++◌, length, get_or, refl, subst, ◌∙◌, arith, append_assoc}
use Rattle.std.specs.Prelude.{codes}
use Rattle.std.specs.Str.{IsUtf8, is_utf8}
use Rattle.std.proofs.Math.Seq.{take-append_seam}
use Rattle.std.proofs.lemmas.List.{length-append}
use Rattle.std.proofs.lemmas.Str.{IsCharBoundary-before_ascii, IsUtf8-take, is_utf8-from_IsUtf8}
use Rattle.set_model.specs.declared.command.Event.{Event}
use Rattle.set_model.specs.declared.reply.Reply.{Reply}
use Rattle.transcript.specs.Replies.{line_text}
use Rattle.run_checker.specs.Trace.{entry_text, event_words}

feed_at : (words rest : List ℕ) → get_or (words ++ 10 ∷ rest) (length words) 0 ≡ 10
feed_at [] rest = refl
feed_at (c ∷ words) rest = feed_at words rest

front_is_text : (words rest : List ℕ) → IsUtf8 (words ++ 10 ∷ rest) → IsUtf8 words
front_is_text words rest text =
    let at = feed_at words rest in
    let inside : length words < length (words ++ 10 ∷ rest) = omega (arith, length-append words (10 ∷ rest)) in
    let cut = IsUtf8-take (words ++ 10 ∷ rest) (length words) text (IsCharBoundary-before_ascii (words ++ 10 ∷ rest) (length words) inside (omega arith)) in
    subst IsUtf8 (take-append_seam words (10 ∷ rest)) cut

pub words_are_text : (event : Event) (reply : Reply) (text : List ℕ) → text ≡ entry_text (event, reply) → IsUtf8 text → is_utf8 (event_words event) ≡ true
words_are_text event reply text is utf8 =
    let own = line_text (event.line, reply) in
    let whole : entry_text (event, reply) ≡ event_words event ++ 10 ∷ own = append_assoc (event_words event) (codes "\n") own in
    is_utf8-from_IsUtf8 (event_words event) (front_is_text (event_words event) own (subst IsUtf8 (is ∙ whole) utf8))
