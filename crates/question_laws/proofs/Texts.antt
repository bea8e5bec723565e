-- A text that names no message can't tell one number of a message from another.
use Rattle.std.proofs.Common.{◌≡◌, ◌∙◌, ap, sym, refl, ℕ, ◌==◌, Bool, true, false, ◌&&◌, ◌||◌, List, [], ◌∷◌, ◌++◌, append_assoc, codes}
use Rattle.std.proofs.lemmas.Bool.{and_from, and_parts, or_parts}
use Rattle.std.specs.Fmt.{decimal}
use Rattle.std.specs.List.{starts_with}
use Rattle.set_model.specs.declared.reply.Reply.{Reply}
use Rattle.set_model.specs.declared.reply.Reply.TheVariants as reply
use Rattle.transcript.specs.Refusals.{ignored_text, refusal_text, vote_refusal_text}
use Rattle.explore_laws.specs.Alike.{unnumbered}
use Rattle.explore_laws.specs.Dead.{is_untaken}
use Rattle.explore_words.specs.Texts.{begin_alike, is_idle, names_message}
use Rattle.question_laws.specs.Meeting.{begins}

-- ---- numbers of messages

abbrev starts : List ℕ → List ℕ → Bool
starts text front = starts_with ◌==◌ text front

cut_off : (p q x y : Bool) → (p && q) ≡ false → (p && (q && x)) ≡ (p && (q && y))
cut_off true true x y none = absurd (cc none)
cut_off true false x y none = refl
cut_off false q x y none = refl

-- after a word ends, and `m` follows
blind : (b : Bool) (front one two text : List ℕ) → names_message b text ≡ false → starts (front ++ 32 ∷ 109 ∷ one) text ≡ starts (front ++ 32 ∷ 109 ∷ two) text
blind b [] one two [] none = refl
blind b [] one two (t ∷ []) none = refl
blind b [] one two (t ∷ u ∷ us) none =
    cut_off (t == 32) (u == 109) (starts one us) (starts two us)
    (or_parts ((t == 32) && (u == 109)) (names_message (u == 32) us) (or_parts (b && (t == 109)) _ none).1).0
blind b (x ∷ front) one two [] none = refl
blind b (x ∷ front) one two (t ∷ ts) none = ap (λ s. (t == x) && s) (blind (t == 32) front one two ts (or_parts (b && (t == 109)) _ none).1)

-- the number of a message follows a term
termed : (name term one two three : List ℕ) → name ++ term ++ codes " sent m" ++ one ++ two ++ three ≡ (name ++ term ++ codes " sent") ++ 32 ∷ 109 ∷ (one ++ two ++ three)
termed name term one two three =
    append_assoc (front ++ one) two three ∙ append_assoc front one (two ++ three)
    ∙ append_assoc (name ++ term) (codes " sent m") (one ++ (two ++ three))
    ∙ sym (append_assoc (name ++ term) (codes " sent") (32 ∷ 109 ∷ (one ++ (two ++ three))))
    ∙ ap (λ l. (name ++ term ++ codes " sent") ++ 32 ∷ 109 ∷ l) (sym (append_assoc one two three))
  where
    front : List ℕ
    front = name ++ term ++ codes " sent m"

blind_termed : (name term one other two three text : List ℕ) → names_message true text ≡ false
    → starts (name ++ term ++ codes " sent m" ++ one ++ two ++ three) text ≡ starts (name ++ term ++ codes " sent m" ++ other ++ two ++ three) text
blind_termed name term one other two three text none =
    ap (λ l. starts l text) (termed name term one two three)
    ∙ blind true (name ++ term ++ codes " sent") (one ++ two ++ three) (other ++ two ++ three) text none
    ∙ sym (ap (λ l. starts l text) (termed name term other two three))

pub begins_blind : (answer : Reply) (text : List ℕ) → names_message true text ≡ false → begins answer text ≡ begins (unnumbered answer) text
begins_blind (reply.Candidate term first count) text none = blind_termed (codes "candidate ") (decimal term) (decimal first) (decimal 0) (codes " ") (decimal count) text none
begins_blind (reply.DryRun term first count) text none = blind_termed (codes "dryrun ") (decimal term) (decimal first) (decimal 0) (codes " ") (decimal count) text none
begins_blind (reply.Sent message) text none = blind true (codes "sent") (decimal message) (decimal 0) text none
begins_blind (reply.SentTo message source) text none =
    blind true (codes "sent") (decimal message ++ codes " to n" ++ decimal source) (decimal 0 ++ codes " to n" ++ decimal source) text none
begins_blind (reply.Replied message) text none = blind true (codes "replied") (decimal message) (decimal 0) text none
begins_blind answer text none = refl

-- ---- what isn't taken

-- a text with which another begins, begins alike with the other's front
alike_front : (front rest text : List ℕ) → starts (front ++ rest) text ≡ true → begin_alike text front ≡ true
alike_front front rest [] is = refl
alike_front [] rest (t ∷ ts) is = refl
alike_front (x ∷ front) rest (t ∷ ts) is =
    let both : ((t == x) ≡ true) × (starts (front ++ rest) ts ≡ true) = and_parts (t == x) (starts (front ++ rest) ts) is in
    and_from (t == x) (begin_alike ts front) both.0 (alike_front front rest ts both.1)

first_of_three : (p q r : Bool) → p ≡ true → (p || q || r) ≡ true
first_of_three true q r is = refl
first_of_three false q r is = absurd (cc is)

second_of_three : (p q r : Bool) → q ≡ true → (p || q || r) ≡ true
second_of_three true q r is = refl
second_of_three false true r is = refl
second_of_three false false r is = absurd (cc is)

third_of_three : (p q r : Bool) → r ≡ true → (p || q || r) ≡ true
third_of_three true q r is = refl
third_of_three false true r is = refl
third_of_three false false true is = refl
third_of_three false false false is = absurd (cc is)

pub untaken_idle : (answer : Reply) (text : List ℕ) → is_untaken answer ≡ true → begins answer text ≡ true → is_idle text ≡ true
untaken_idle (reply.Ignored why) text is met =
    first_of_three (begin_alike text (codes "ignored")) (begin_alike text (codes "refused")) (begin_alike text (codes "vote refused")) (alike_front (codes "ignored") (32 ∷ ignored_text why) text met)
untaken_idle (reply.Refused why) text is met =
    second_of_three (begin_alike text (codes "ignored")) (begin_alike text (codes "refused")) (begin_alike text (codes "vote refused")) (alike_front (codes "refused") (32 ∷ refusal_text why) text met)
untaken_idle (reply.VoteRefused why) text is met =
    third_of_three (begin_alike text (codes "ignored")) (begin_alike text (codes "refused")) (begin_alike text (codes "vote refused")) (alike_front (codes "vote refused") (32 ∷ vote_refusal_text why) text met)
untaken_idle answer text is met = absurd (cc is)
