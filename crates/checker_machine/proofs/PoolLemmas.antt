-- The newest message from one node to another, with one more message.
use Rattle.std.proofs.Common.{◌≡◌, ◌∙◌, ◌<◌, ◌==◌, inl, inr, ap, sym, subst, refl, arith, eqb-true, ℕ, zero, suc, Bool, true, false, cond, filter, length, Option, None, Some, List, [], ◌∷◌, ◌++◌, slice_get}
use Rattle.std.specs.FinMap as maps
use Rattle.std.specs.Ordering.{nat_cmp}
use Rattle.std.proofs.lemmas.Bool.{and_parts, cases_Bool}
use Rattle.std.proofs.lemmas.List.{length-append}
use Rattle.std.proofs.lemmas.List.Elements.{filter-append}
use Rattle.repl_msg.specs.declared.message.Message.{Message}
use Rattle.set_model.specs.World.{is_between, last_message, latest_between}
use Rattle.checker_machine.specs.Newest.{AreNewest, IsNewest, pair_of}
use Rattle.node_data.proofs.MapLemmas.{get-from_pairs, get-with-other, get-with-same, same_or_apart}

last_after : (messages : List Message) (message : Message) (b : Bool) → last_message (messages ++ cond b (message ∷ []) []) ≡ cond b (Some message) (last_message messages)
last_after [] message true = refl
last_after [] message false = refl
last_after (first ∷ []) message true = refl
last_after (first ∷ []) message false = refl
last_after (first ∷ next ∷ messages) message b = last_after (next ∷ messages) message b

-- a message between the two is then the newest, and another one doesn't count
latest_after : (messages : List Message) (message : Message) (from to : ℕ)
    → latest_between (messages ++ message ∷ []) from to ≡ cond (is_between from to message) (Some message) (latest_between messages from to)
latest_after messages message from to =
    ap last_message (filter-append (is_between from to) messages (message ∷ []))
    ∙ last_after (filter (is_between from to) messages) message (is_between from to message)

front_kept : {A : Type 0} (xs ys : List A) (place : ℕ) → place < length xs → slice_get xs place ≡ slice_get (xs ++ ys) place
front_kept [] ys place within = absurd (omega (arith, within))
front_kept (x ∷ xs) ys zero within = refl
front_kept (x ∷ xs) ys (suc place) within = front_kept xs ys place (omega (arith, within))

next_there : {A : Type 0} (xs : List A) (x : A) (ys : List A) → Some x ≡ slice_get (xs ++ x ∷ ys) (length xs)
next_there [] x ys = refl
next_there (other ∷ xs) x ys = next_there xs x ys

pub newest_here : (messages : List Message) (message : Message) (from to : ℕ) → message.from ≡ from → message.to ≡ to → IsNewest (messages ++ message ∷ []) from to (Some (length messages))
newest_here messages message from to sender receiver = (
  omega (arith, length-append messages (message ∷ [])),
  latest_after messages message from to ∙ ap (λ b. cond b (Some message) (latest_between messages from to)) between ∙ next_there messages message [],
)
  where
    between : is_between from to message ≡ true
    between = grind (arith, sender, receiver)

pub newest_there : (messages : List Message) (message : Message) (from to : ℕ) (found : Option ℕ) → is_between from to message ≡ false → IsNewest messages from to found → IsNewest (messages ++ message ∷ []) from to found
newest_there messages message from to None other is = latest_after messages message from to ∙ ap (λ b. cond b (Some message) (latest_between messages from to)) other ∙ is
newest_there messages message from to (Some place) other is = (
  let within : place < length messages = is.0 in omega (arith, within, length-append messages (message ∷ [])),
  latest_after messages message from to ∙ ap (λ b. cond b (Some message) (latest_between messages from to)) other ∙ is.1 ∙ front_kept messages (message ∷ []) place is.0,
)

-- the places, once they name a message more
pub newest_more : (messages : List Message) (message : Message) (old new : maps.FinMap nat_cmp ℕ) → message.from < 4294967296 → message.to < 4294967296 → AreNewest messages old
    → new ≡ maps.insert old (pair_of message.from message.to) (length messages) → AreNewest (messages ++ message ∷ []) new
newest_more messages message old new sender receiver are is from to known known_too =
    subst (λ (m : maps.FinMap nat_cmp ℕ). IsNewest (messages ++ message ∷ []) from to (maps.get m (pair_of from to))) (sym is)
    (elim (same_or_apart (pair_of from to) (pair_of message.from message.to)) [
      | inl same ↦
          subst (λ (found : Option ℕ). IsNewest (messages ++ message ∷ []) from to found)
          (sym (ap (maps.get (maps.insert old (pair_of message.from message.to) (length messages))) same.0 ∙ get-with-same old (pair_of message.from message.to) (length messages)))
          (newest_here messages message from to (omega (arith, same.0, sender, receiver, known, known_too)) (omega (arith, same.0, sender, receiver, known, known_too)))
      | inr other ↦
          subst (λ (found : Option ℕ). IsNewest (messages ++ message ∷ []) from to found)
          (sym (get-with-other old (pair_of message.from message.to) (pair_of from to) (length messages) other.0))
          (newest_there messages message from to (maps.get old (pair_of from to)) (apart other.0) (are from to known known_too))
    ])
  where
    apart : (pair_of from to ≡ pair_of message.from message.to → ⊥) → is_between from to message ≡ false
    apart other = elim (cases_Bool (is_between from to message)) [
      | inl between ↦
          let both : (message.from == from ≡ true) × (message.to == to ≡ true) = and_parts (message.from == from) (message.to == to) between in
          let one : message.from ≡ from = eqb-true message.from from both.0 in
          let two : message.to ≡ to = eqb-true message.to to both.1 in
          absurd (other (omega (arith, one, two)))
      | inr none ↦ none
    ]

-- of no message
pub none_newest : (messages : List Message) (entries : List (ℕ × ℕ)) → messages ≡ [] → entries ≡ [] → AreNewest messages (maps.from_entries {R = nat_cmp} entries)
none_newest messages entries none empty from to known known_too =
    subst (λ (ms : List Message). IsNewest ms from to (maps.get (maps.from_entries {R = nat_cmp} entries) (pair_of from to))) (sym none)
    (subst (λ (found : Option ℕ). IsNewest [] from to found)
    (sym (ap (λ (es : List (ℕ × ℕ)). maps.get (maps.from_entries {R = nat_cmp} es) (pair_of from to)) empty ∙ get-from_pairs [] (pair_of from to))) refl)
