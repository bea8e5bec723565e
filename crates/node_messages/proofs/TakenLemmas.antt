-- Turns of messages: before and after their term is taken.
use Rattle.std.proofs.Common.{◌≡◌, ◌∙◌, ◌<◌, ◌≤◌, ap, sym, subst, arith, ℕ, Bool, true, false, List, [], ◌∷◌, ◌++◌, None, Some, length, IfOk}
use Rattle.std.specs.Prelude.{nat_lt, Result}
use Rattle.std.proofs.lemmas.Bool.Decides.{nat_tests}
use Rattle.std.specs.List.{All}
use Rattle.std.specs.declared.alloc.AllocError.{AllocError}
use Rattle.oplog_entry.specs.declared.entry.Entry.{Entry}
use Rattle.repl_msg.specs.declared.message.FetchReply.{FetchReply}
use Rattle.repl_msg.specs.declared.record.Record.{Record}
use Rattle.repl_msg.specs.declared.record.Record.TheVariants as records
use Rattle.set_model.specs.Changes.{in_new_term}
use Rattle.set_model.specs.Deliver.{take_term}
use Rattle.set_model.specs.Node.{Node}
use Rattle.set_model.specs.declared.store.Store.{Store}
use Rattle.set_model.specs.Stores.{Plan, in_doubt, records_after, stored, storing, vote_record}
use Rattle.node_messages.specs.Ahead.{IsPreparedFor, ComesTo, view_in_term, taking}
use Rattle.node_state.specs.Ready.{IsFetched, IsReadyMessage, in_term_of}
use Rattle.node_state.specs.StateView.{StateView}
use Rattle.set_model.specs.Taking.{CanTakeEntries}
use Rattle.node_state.specs.MessageContinuation.{message_plan}
use Rattle.node_state.specs.declared.turn.MessageContinuation.{MessageContinuation}
use Rattle.node_state.specs.declared.turn.MessageContinuation.TheVariants.{Answered, Fetched, Heard, RolledBack, Ignored}

-- what is told where nothing has changed
pub foretold : (told : MessageContinuation) (raised : Bool) (term : ℕ) (plan : Node → Plan) (old new : Node) → ComesTo told raised term plan old old → new ≡ old → IsPreparedFor told raised term plan old new
foretold told raised term plan old new comes_to same = record {
  comes_to = subst (λ (n : Node). ComesTo told raised term plan old n) (sym same) comes_to;
  at = old.applied;
  same = same;
}

-- another place up to which the log is applied doesn't matter where the node goes down
same_doubt : (old new : Node) (raised : Bool) (term : ℕ) (told : MessageContinuation) (plan : Node → Plan) → IsPreparedFor told raised term plan old new → (term' : ℕ) → in_doubt old (vote_record term' None) ≡ in_doubt new (vote_record term' None)
same_doubt old new raised term told plan foretells term' = sym (ap (λ (n : Node). in_doubt n (vote_record term' None)) foretells.same)

-- the record of the term, and then what is told
pub taken_then : (told : MessageContinuation) (term : ℕ) (plan : Node → Plan) (old new : Node) → IsPreparedFor told true term plan old new
    → take_term old term plan ≡ storing (in_doubt new (vote_record term None)) (message_plan told (in_new_term (stored new (vote_record term None)) term None))
taken_then told term plan old new foretells =
    let items : List Record = old.records ++ records.Vote (record { term = term; candidate = None }) ∷ [] in
    let more : new.records ++ records.Vote (record { term = term; candidate = None }) ∷ [] ≡ items =
    ap (λ (n : Node). n.records ++ records.Vote (record { term = term; candidate = None }) ∷ []) foretells.same in
    ap (λ (broken : Node). storing broken (plan (in_new_term (record old { records = items }) term None))) (same_doubt old new true term told plan foretells term)
    ∙ ap (storing (in_doubt new (vote_record term None)))
    (sym (ap (λ (list : List Record). message_plan told (in_new_term (record new { records = list }) term None)) more ∙ foretells.comes_to items))

-- nothing is stored before it
pub told_now : (told : MessageContinuation) (term : ℕ) (plan : Node → Plan) (old new : Node) → IsPreparedFor told false term plan old new → plan old ≡ message_plan told new
told_now told term plan old new foretells =
    let same : new.records ≡ old.records = ap (λ (n : Node). n.records) foretells.same in
    sym (ap (λ (list : List Record). message_plan told (record new { records = list })) same ∙ foretells.comes_to old.records)

-- ---- another node that is the same

pub told_same : (result : Result MessageContinuation AllocError) (term : ℕ) (plan : Node → Plan) (old new : Node) → new ≡ old
    → IfOk result (λ (told : MessageContinuation). IsPreparedFor told (nat_lt new.term term) term plan new new)
    → IfOk result (λ (told : MessageContinuation). IsPreparedFor told (nat_lt old.term term) term plan old new)
told_same result term plan old new same = subst (λ (n : Node). IfOk result (λ (told : MessageContinuation). IsPreparedFor told (nat_lt n.term term) term plan n new)) same

-- ---- what is ready stays so with other records

fetch_with : (node : Node) (items : List Record) (term : ℕ) (fetched : FetchReply) → CanTakeEntries node term fetched → CanTakeEntries (record node { records = items }) term fetched
fetch_with node items term fetched can = record { order = can.order; base = can.base; entries = can.entries; terms = can.terms; documents = can.documents }

pub ready_with : (told : MessageContinuation) (standing : StateView) (items : List Record) → IsReadyMessage told standing → IsReadyMessage told (record standing { node = record standing.node { records = items } })
ready_with (Answered next sent) standing items ready = tt
ready_with (Fetched from fetched) standing items ready = record { place = ready.place; lawful = fetch_with standing.node items standing.node.term fetched ready.lawful; room = ready.room }
ready_with (Heard (Some newer) hearing) standing items ready = ready
ready_with (Heard None hearing) standing items ready = ready
ready_with (RolledBack point removed lost) standing items ready = record { role = ready.role; commit = ready.commit; applied = ready.applied; there = ready.there; rollback = ready.rollback }
ready_with (Ignored why) standing items ready = tt

-- ---- entries that were fetched

terms_up_to : (low high : ℕ) (entries : List Entry) → low ≤ high → All (λ (e : Entry). e.optime.term ≤ low) entries → All (λ (e : Entry). e.optime.term ≤ high) entries
terms_up_to low high entries less all k e within = omega (arith, all k e within, less)

pub fetch_then : (raised : Bool) (node : Node) (term : ℕ) (fetched : FetchReply) → raised ≡ nat_lt node.term term → CanTakeEntries node term fetched
    → CanTakeEntries (taking raised term node) (taking raised term node).term fetched
fetch_then true node term fetched is can = record { order = can.order; base = can.base; entries = can.entries; terms = can.terms; documents = can.documents }
fetch_then false node term fetched is can = record {
  order = can.order;
  base = can.base;
  entries = can.entries;
  terms = terms_up_to term node.term fetched.entries (no_less term node.term (sym is)) can.terms;
  documents = can.documents;
}
  where
    no_less : (a b : ℕ) → nat_lt b a ≡ false → a ≤ b
    no_less a b test = grind (arith, nat_tests)

pub ready_fetched : (raised : Bool) (old : Node) (new : StateView) (term : ℕ) (given reply : FetchReply) → new.node ≡ old → given ≡ reply → raised ≡ nat_lt old.term term
    → 0 < new.places → CanTakeEntries old term reply → length given.entries ≤ new.spare → IsFetched given (view_in_term raised term new)
ready_fetched raised old new term given reply same copied is place can room = record {
  place = place;
  lawful = fetch_then raised new.node term given (is ∙ ap (λ (n : Node). nat_lt n.term term) (sym same))
      (subst (λ (n : Node). CanTakeEntries n term given) (sym same) (subst (CanTakeEntries old term) (sym copied) can));
  room = room;
}

-- the node is in the message's term, whose record stands
pub ready_entered : (told : MessageContinuation) (item : Store) (term : ℕ) (old new : StateView) → item ≡ vote_record term None → new.node ≡ in_new_term (stored old.node item) term None → new.spare ≡ old.spare
    → new.places ≡ old.places → IsReadyMessage told (in_term_of term old) → IsReadyMessage told new
ready_entered told item term old new item_is node_is spare_is places_is ready =
    subst (IsReadyMessage told) (sym made) (ready_with told (in_term_of term old) (records_after old.node.records (vote_record term None)) ready)
  where
    node_then : new.node ≡ in_new_term (stored old.node (vote_record term None)) term None
    node_then = node_is ∙ ap (λ (s : Store). in_new_term (stored old.node s) term None) item_is

    made : new ≡ record { node = in_new_term (stored old.node (vote_record term None)) term None; spare = old.spare; places = old.places }
    made = λ i. record { node = node_then i; spare = spare_is i; places = places_is i }
