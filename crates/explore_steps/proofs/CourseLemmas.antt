-- Lists by numbers, and what is seen, as a course goes on.
use Rattle.std.proofs.Common.{◌≡◌, ◌∙◌, ◌<◌, ◌≤◌, ◌+◌, ◌-◌, inr, ap, sym, refl, arith, get_or, ℕ, zero, suc, Bool, true, false, ◌&&◌, ◌||◌, Some, List, [], ◌∷◌, ◌++◌, append-nil, append_assoc, drop, take, filter, length, map, slice_get, if◌then◌else◌}
use Rattle.std.proofs.Math.Numerals.{add-one}
use Rattle.std.proofs.lemmas.Bool.{and_parts}
use Rattle.std.proofs.lemmas.List.{get_or-drop, length-drop, take_all}
use Rattle.std.proofs.lemmas.List.Elements.{filter-append}
use Rattle.std.proofs.lemmas.Option.{same_Some, slice_get_read}
use Rattle.std.specs.List.{list_all}
use Rattle.repl_msg.specs.declared.message.Message.{Message}
use Rattle.rs_optime.specs.Membership.{In}
use Rattle.set_model.specs.World.{World, is_between, last_message, latest_between}
use Rattle.explore_words.specs.declared.question.Question.{Question}
use Rattle.explore_words.specs.declared.question.Want.{Want}
use Rattle.explore_words.specs.Fits.{is_want_for}
use Rattle.question_laws.specs.Lawful.{AreLawful, IsLawful}
use Rattle.question_laws.specs.Meeting.{is_seen, unseen}
use Rattle.explore_steps.specs.Courses.{left_after, with_all, with_sent}
use Rattle.explore_steps.specs.Reaching.{IsReachedBefore}
use Rattle.explore_steps.specs.Seeing.{is_seen_in}
use Rattle.explore_steps.specs.Tables.{AreNumbers, AreOf, Tables}
use Rattle.explore_steps.proofs.Reach.{reached_count, reached_settled}
use Rattle.explore_steps.proofs.Sights.{seen_same}
use Rattle.explore_steps.proofs.Taking.{drop_next}

pub dead_told : (dead notes told is : Bool) → dead ≡ false → notes ≡ true → told ≡ is → told ≡ (dead || (notes && is))
dead_told true notes told is alive on same = absurd (cc alive)
dead_told false true told is alive on same = same
dead_told false false told is alive on same = absurd (cc on)

-- ---- numbers of messages

numbers_head : {A : Type 0} (x y : A) (xs ys : List A) → x ∷ xs ≡ y ∷ ys → (x ≡ y) × (xs ≡ ys)
numbers_head x y xs ys same = (cc same, cc same)

pub numbers_as_many : (tables : Tables) (numbers : List ℕ) (messages : List Message) → AreNumbers tables numbers messages → length numbers ≡ length messages
numbers_as_many tables [] [] are = refl
numbers_as_many tables [] (message ∷ messages) are = absurd (cc are)
numbers_as_many tables (number ∷ numbers) [] are = absurd (cc are)
numbers_as_many tables (number ∷ numbers) (message ∷ messages) are =
    ap suc (numbers_as_many tables numbers messages (numbers_head (slice_get tables.messages number) (Some message) (map (slice_get tables.messages) numbers) (map Some messages) are).1)

pub number_at : (tables : Tables) (numbers : List ℕ) (messages : List Message) (place number : ℕ) → AreNumbers tables numbers messages → slice_get numbers place ≡ Some number
    → (message : Message) × (slice_get messages place ≡ Some message) × (slice_get tables.messages number ≡ Some message)
number_at tables [] messages place number are there = absurd (cc there)
number_at tables (first ∷ numbers) [] place number are there = absurd (cc are)
number_at tables (first ∷ numbers) (message ∷ messages) zero number are there =
    (message, refl, sym (ap (slice_get tables.messages) (same_Some first number there)) ∙ (numbers_head (slice_get tables.messages first) (Some message) (map (slice_get tables.messages) numbers) (map Some messages) are).0)
number_at tables (first ∷ numbers) (message ∷ messages) (suc place) number are there =
    number_at tables numbers messages place number (numbers_head (slice_get tables.messages first) (Some message) (map (slice_get tables.messages) numbers) (map Some messages) are).1 there

-- after some
pub read_after : (numbers : List ℕ) (before place found : ℕ) → place < length numbers - before → found ≡ get_or numbers (before + place) found → slice_get (drop before numbers) place ≡ Some found
read_after numbers before place found within is =
    slice_get_read (drop before numbers) (length numbers - before) place found (sym (length-drop before numbers)) within (is ∙ sym (get_or-drop before numbers place found))

pub take_next : {A : Type 0} (xs : List A) (n : ℕ) (x : A) → slice_get xs n ≡ Some x → take (n + 1) xs ≡ take n xs ++ x ∷ []
take_next xs n x there = ap (λ k. take k xs) (add-one n) ∙ by xs n there
  where
    by : (ys : List _) (k : ℕ) → slice_get ys k ≡ Some x → take (suc k) ys ≡ take k ys ++ x ∷ []
    by [] k there = absurd (cc there)
    by (y ∷ ys) zero there = ap (λ z. z ∷ []) (same_Some y x there)
    by (y ∷ ys) (suc k) there = ap (λ l. y ∷ l) (by ys k there)

-- one message more
pub sent_next : (world : World) (messages : List Message) (place : ℕ) (message : Message) → slice_get messages place ≡ Some message
    → with_sent (with_all world (take place messages)) message ≡ with_all world (take (place + 1) messages)
sent_next world messages place message there =
    ap (λ (l : List Message). record world { messages = l }) (append_assoc world.messages (take place messages) (message ∷ []) ∙ ap (λ (l : List Message). world.messages ++ l) (sym (take_next messages place message there)))

pub sent_all : (world : World) (messages : List Message) (place : ℕ) → length messages ≤ place → with_all world (take place messages) ≡ with_all world messages
sent_all world messages place order = ap (with_all world) (take_all place messages order)

-- ---- the newest message

module _ (messages : List Message) (from to place : ℕ) (message : Message) (there : slice_get messages place ≡ Some message) where
  filtered : filter (is_between from to) (take (place + 1) messages) ≡ filter (is_between from to) (take place messages) ++ filter (is_between from to) (message ∷ [])
  filtered = ap (filter (is_between from to)) (take_next messages place message there) ∙ filter-append (is_between from to) (take place messages) (message ∷ [])

  pub latest_here : is_between from to message ≡ true → latest_between (take (place + 1) messages) from to ≡ Some message
  latest_here is = ap last_message (filtered ∙ ap (λ b. filter (is_between from to) (take place messages) ++ (if b then message ∷ [] else [])) is) ∙ last_added (filter (is_between from to) (take place messages))
    where
      last_added : (front : List Message) → last_message (front ++ message ∷ []) ≡ Some message
      last_added [] = refl
      last_added (one ∷ []) = refl
      last_added (one ∷ two ∷ rest) = last_added (two ∷ rest)

  pub latest_before : is_between from to message ≡ false → latest_between (take (place + 1) messages) from to ≡ latest_between (take place messages) from to
  latest_before is = ap last_message (filtered ∙ ap (λ b. filter (is_between from to) (take place messages) ++ (if b then message ∷ [] else [])) is ∙ append-nil (filter (is_between from to) (take place messages)))

-- ---- what is seen

pub fits_at : (nodes : ℕ) (wants : List Want) (place : ℕ) (want : Want) → list_all (is_want_for nodes) wants ≡ true → slice_get wants place ≡ Some want → is_want_for nodes want ≡ true
fits_at nodes [] place want fit there = absurd (cc there)
fits_at nodes (first ∷ wants) zero want fit there = ap (is_want_for nodes) (sym (same_Some first want there)) ∙ (and_parts (is_want_for nodes first) (list_all (is_want_for nodes) wants) fit).0
fits_at nodes (first ∷ wants) (suc place) want fit there = fits_at nodes wants place want (and_parts (is_want_for nodes first) (list_all (is_want_for nodes) wants) fit).1 there

pub fits_from : (nodes n : ℕ) (wants : List Want) → list_all (is_want_for nodes) wants ≡ true → list_all (is_want_for nodes) (drop n wants) ≡ true
fits_from nodes zero wants fit = fit
fits_from nodes (suc n) [] fit = fit
fits_from nodes (suc n) (want ∷ wants) fit = fits_from nodes n wants (and_parts (is_want_for nodes want) (list_all (is_want_for nodes) wants) fit).1

module _ (question : Question) (world : World) (met : ℕ) (want : Want) (there : slice_get question.wants met ≡ Some want) where
  unseen_is : unseen world (left_after question met) ≡ (if is_seen world want then unseen world (left_after question (met + 1)) else want ∷ left_after question (met + 1))
  unseen_is = ap (unseen world) (drop_next question.wants met want there)

  pub see_stops : is_seen world want ≡ false → unseen world (left_after question met) ≡ left_after question met
  see_stops is = unseen_is ∙ ap (λ b. if b then unseen world (left_after question (met + 1)) else want ∷ left_after question (met + 1)) is ∙ sym (drop_next question.wants met want there)

  pub see_goes : is_seen world want ≡ true → unseen world (left_after question met) ≡ unseen world (left_after question (met + 1))
  see_goes is = unseen_is ∙ ap (λ b. if b then unseen world (left_after question (met + 1)) else want ∷ left_after question (met + 1)) is

-- ---- of answers

pub sent_at : (tables : Tables) (before : ℕ) (numbers other : List ℕ) (place found count : ℕ) (messages : List Message) → AreNumbers tables (drop before numbers) messages → count ≡ length numbers
    → place < count - before → other ≡ numbers → found ≡ get_or other (before + place) found → (message : Message) × (slice_get messages place ≡ Some message) × (slice_get tables.messages found ≡ Some message)
sent_at tables before numbers other place found count messages are count_is within same is =
    number_at tables (drop before numbers) messages place found are
    (read_after numbers before place found (omega (arith, within, count_is)) (is ∙ ap (λ (l : List ℕ). get_or l (before + place) found) same))

pub sent_enough : (tables : Tables) (before : ℕ) (numbers : List ℕ) (place count : ℕ) (messages : List Message) → AreNumbers tables (drop before numbers) messages → count ≡ length numbers → count - before ≤ place
    → length messages ≤ place
sent_enough tables before numbers place count messages are count_is past =
    let many : length (drop before numbers) ≡ length messages = numbers_as_many tables (drop before numbers) messages are in
    let dropped : length (drop before numbers) ≡ length numbers - before = length-drop before numbers in
    omega (arith, many, dropped, count_is, past)

pub told_seen : (question : Question) (tables : Tables) (cells : List ℕ) (world : World) → list_all (is_want_for question.sizes.nodes) question.wants ≡ true → IsReachedBefore 0 question world → AreOf tables cells world
    → (met : ℕ) (want : Want) (told : Bool) → slice_get question.wants met ≡ Some want → told ≡ is_seen_in tables question.sizes.nodes cells want → is_seen world want ≡ told
told_seen question tables cells world fit reached are met want told there is =
    seen_same tables question.sizes.nodes cells world (reached_count question 0 world reached) (reached_settled question 0 world reached) are want
    (fits_at question.sizes.nodes question.wants met want fit there) ∙ sym is

pub read_back : (tables : Tables) (numbers : List ℕ) (messages : List Message) (place number : ℕ) → AreNumbers tables numbers messages → place < length numbers → number ≡ get_or numbers place number
    → (message : Message) × (slice_get messages place ≡ Some message) × (slice_get tables.messages number ≡ Some message)
read_back tables numbers messages place number are within is = number_at tables numbers messages place number are (slice_get_read numbers (length numbers) place number refl within is)

-- ---- wants that are left

pub in_drop : {A : Type 0} (n : ℕ) (xs : List A) (x : A) → In x (drop n xs) → In x xs
in_drop zero xs x there = there
in_drop (suc n) [] x there = there
in_drop (suc n) (y ∷ xs) x there = inr (in_drop n xs x there)

pub lawful_from : (question : Question) (met : ℕ) → IsLawful question → AreLawful (left_after question met)
lawful_from question met lawful want there = lawful.wants want (in_drop met question.wants want there)
