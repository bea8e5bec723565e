-- The newest message from one node to another, with one more message.
use Rattle.std.proofs.Common.{◌≡◌, ◌∙◌, ◌<◌, ◌≤◌, ◌+◌, ◌&&◌, ap, sym, subst, refl, arith, append_assoc, ℕ, zero, suc, Bool, true, false, cond, filter, length, Option, None, Some, List, [], ◌∷◌, ◌++◌, slice_get}
use Rattle.std.specs.Map.{lookup}
use Rattle.repl_msg.specs.declared.message.Message.{Message}
use Rattle.set_model.specs.World.{is_between, last_message, latest_between}
use Rattle.std.specs.Prelude.{All, nat_eq, slice_index_or}
use Rattle.std.proofs.lemmas.List.Elements.{All-append, All-tail}
use Rattle.std.proofs.lemmas.Option.{slice_get-get_or}
use Rattle.set_world.specs.Pool.{Pool, IsNewest, IsIndexed, IsBetweenNodes, AddsSoFar, place_in}

filter-append : {A : Type 0} (test : A → Bool) (xs ys : List A) → filter test (xs ++ ys) ≡ filter test xs ++ filter test ys
filter-append test [] ys = refl
filter-append test (x ∷ xs) ys = go (test x) (filter-append test xs ys)
  where
    go : (b : Bool) → filter test (xs ++ ys) ≡ filter test xs ++ filter test ys → cond b (x ∷ filter test (xs ++ ys)) (filter test (xs ++ ys)) ≡ cond b (x ∷ filter test xs) (filter test xs) ++ filter test ys
    go true rest = ap (λ l. x ∷ l) rest
    go false rest = rest

last_is : (messages : List Message) (message : Message) → last_message (messages ++ message ∷ []) ≡ Some message
last_is [] message = refl
last_is (first ∷ []) message = refl
last_is (first ∷ next ∷ messages) message = last_is (next ∷ messages) message

append-none : {A : Type 0} (xs : List A) → xs ++ [] ≡ xs
append-none [] = refl
append-none (x ∷ xs) = ap (λ l. x ∷ l) (append-none xs)

-- a message between the two is then the newest
latest_more : (messages : List Message) (message : Message) (from to : ℕ) → is_between from to message ≡ true → latest_between (messages ++ message ∷ []) from to ≡ Some message
latest_more messages message from to is =
    ap last_message (filter-append (is_between from to) messages (message ∷ []) ∙ ap (λ b. filter (is_between from to) messages ++ cond b (message ∷ []) []) is)
    ∙ last_is (filter (is_between from to) messages) message

-- and another one doesn't count
latest_same : (messages : List Message) (message : Message) (from to : ℕ) → is_between from to message ≡ false → latest_between (messages ++ message ∷ []) from to ≡ latest_between messages from to
latest_same messages message from to is =
    ap last_message (filter-append (is_between from to) messages (message ∷ []) ∙ ap (λ b. filter (is_between from to) messages ++ cond b (message ∷ []) []) is ∙ append-none (filter (is_between from to) messages))

get_front : (messages : List Message) (message : Message) (place : ℕ) → place < length messages → slice_get (messages ++ message ∷ []) place ≡ slice_get messages place
get_front [] message place within = absurd (omega (arith, within))
get_front (first ∷ messages) message zero within = refl
get_front (first ∷ messages) message (suc place) within = get_front messages message place (omega (arith, within))

get_last : (messages : List Message) (message : Message) → slice_get (messages ++ message ∷ []) (length messages) ≡ Some message
get_last [] message = refl
get_last (first ∷ messages) message = get_last messages message

longer : (messages : List Message) (message : Message) → length (messages ++ message ∷ []) ≡ length messages + 1
longer [] message = refl
longer (first ∷ messages) message = let rest : length (messages ++ message ∷ []) ≡ length messages + 1 = longer messages message in omega (arith, rest)

pub newest_here : (messages : List Message) (message : Message) (from to : ℕ) → is_between from to message ≡ true → IsNewest (messages ++ message ∷ []) from to (Some (length messages))
newest_here messages message from to between = (
  let long : length (messages ++ message ∷ []) ≡ length messages + 1 = longer messages message in omega (arith, long),
  latest_more messages message from to between ∙ sym (get_last messages message),
)

pub newest_there : (messages : List Message) (message : Message) (from to : ℕ) (found : Option ℕ) → is_between from to message ≡ false → IsNewest messages from to found → IsNewest (messages ++ message ∷ []) from to found
newest_there messages message from to None other is = latest_same messages message from to other ∙ is
newest_there messages message from to (Some place) other is = (
  let long : length (messages ++ message ∷ []) ≡ length messages + 1 = longer messages message in let within : place < length messages = is.0 in omega (arith, long, within),
  latest_same messages message from to other ∙ is.1 ∙ sym (get_front messages message place is.0),
)

-- the message that stands at the place is it
pub newest_is : (messages : List Message) (from to place : ℕ) (message : Message) → IsNewest messages from to (Some place) → message ≡ slice_index_or messages place message → latest_between messages from to ≡ Some message
newest_is messages from to place message is stands = is.1 ∙ slice_get-get_or messages place message is.0 ∙ ap Some (sym stands)

-- ---- the places of all pairs

abbrev Places : Type 0
Places = List ((ℕ × ℕ) × ℕ)

abbrev is_pair : ℕ × ℕ → ℕ × ℕ → Bool
is_pair one other = nat_eq one.0 other.0 && nat_eq one.1 other.1

pub indexed_none : (nodes : ℕ) → IsIndexed nodes [] []
indexed_none nodes = record { between = λ k d within. absurd (omega (arith, within)); each = λ from to. refl }

-- in another order they are the same
pub indexed_same : (nodes : ℕ) (messages : List Message) (old new : Places) → IsIndexed nodes messages old → ((pair : ℕ × ℕ) → lookup (is_pair pair) new ≡ lookup (is_pair pair) old) → IsIndexed nodes messages new
indexed_same nodes messages old new is same = record {
  between = is.between;
  each = λ from to. subst (IsNewest messages from to) (sym (same (from, to))) (is.each from to);
}

-- a place that is found is the newest message's
pub newest_at : (nodes : ℕ) (messages : List Message) (newest : Places) (from to : ℕ) (found : Option ℕ) → IsIndexed nodes messages newest → found ≡ place_in newest from to → IsNewest messages from to found
newest_at nodes messages newest from to found is there = subst (IsNewest messages from to) (sym there) (is.each from to)

-- once a message more has its place
pub indexed_more : (nodes : ℕ) (messages : List Message) (old new : Places) (message : Message) → IsIndexed nodes messages old → IsBetweenNodes nodes message
    → ((pair : ℕ × ℕ) → lookup (is_pair pair) new ≡ cond (is_pair (message.from, message.to) pair) (Some (length messages)) (lookup (is_pair pair) old))
    → IsIndexed nodes (messages ++ message ∷ []) new
indexed_more nodes messages old new message is between differ = record {
  between = All-append (IsBetweenNodes nodes) messages (message ∷ []) is.between (alone between);
  each = λ from to. subst (IsNewest (messages ++ message ∷ []) from to) (sym (differ (from, to))) (go from to (is_between from to message) refl);
}
  where
    alone : IsBetweenNodes nodes message → All (IsBetweenNodes nodes) (message ∷ [])
    alone is zero d within = is
    alone is (suc k) d within = absurd (omega (arith, within))

    go : (from to : ℕ) (b : Bool) → is_between from to message ≡ b → IsNewest (messages ++ message ∷ []) from to (cond b (Some (length messages)) (place_in old from to))
    go from to true here = newest_here messages message from to here
    go from to false other = newest_there messages message from to (place_in old from to) other (is.each from to)

-- ---- several messages

-- one of those that are left is added
pub adds_more : (old : Pool) (sent : List Message) (now next : Pool) (message : Message) (left rest : List Message) → AddsSoFar old sent now left → left ≡ message ∷ rest
    → next.nodes ≡ now.nodes → next.messages ≡ now.messages ++ message ∷ [] → now.spare ≤ next.spare + 1 → AddsSoFar old sent next rest
adds_more old sent now next message left rest so_far is nodes messages spare = record {
  nodes = nodes ∙ so_far.nodes;
  messages = ap (λ l. l ++ rest) messages ∙ append_assoc now.messages (message ∷ []) rest ∙ ap (λ l. now.messages ++ l) (sym is) ∙ so_far.messages;
  room =
      let long : length left ≡ length rest + 1 = ap length is ∙ (omega arith) in
      let room : length left ≤ now.spare = so_far.room in
      omega (arith, long, room, spare);
  between = All-tail (IsBetweenNodes old.nodes) message rest (subst (λ l. All (IsBetweenNodes old.nodes) l) is so_far.between);
}
