-- What the calls of a stream join to, over the logs that they were shown.
use Rattle.std.proofs.Common.{◌≡◌, ◌∙◌, ◌⊎◌, inl, inr, ap, ap₂, sym, subst, refl, Bool, true, false, cond, List, [], ◌∷◌, ◌++◌, take}
use Rattle.std.specs.List.{AllByRecursion}
use Rattle.std.specs.Prelude.{Ok, Err}
use Rattle.rs_optime.specs.Membership.{In}
use Rattle.rs_optime.specs.declared.optime.OpTime.{OpTime}
use Rattle.rs_optime.proofs.Optimes.{at_most_before_trans, at_most_refl, at_most_trans, before_at_most}
use Rattle.oplog_entry.specs.declared.entry.Entry.{Entry}
use Rattle.oplog_entry.specs.Visible.{ZERO, log_after, log_up_to}
use Rattle.commit_machine.specs.Words.{AtMost, Before, Has, Rises}
use Rattle.change_stream.specs.declared.error.WatchError.TheVariants.{UnknownToken}
use Rattle.change_stream.specs.Calls.{Call, after, entries_of, given, is_unknown, joined, part, token_after, token_of_last}
use Rattle.change_stream.proofs.PartLemmas.{IsFront, front_is_part, last_is_token, part_none, parts_join, zero_least}

-- ---- one call

-- a call gives nothing, and the token stays; or the next part of what it was shown
abbrev pub Gives : OpTime → Call → List Entry → OpTime → Type 0
Gives token call entries next = ((entries ≡ []) × (next ≡ token)) ⊎ IsFront token call.commit call.log entries next

pub gives : (token : OpTime) (call : Call) → Rises call.log → Gives token call (given token call) (after token call)
gives token call rises = by_test (is_unknown token call.commit call.log)
  where
    by_taken : (taken : List Entry) → take call.most (part token call.commit call.log) ≡ taken → Gives token call taken (token_of_last token taken)
    by_taken [] is = inl (refl, refl)
    by_taken (entry ∷ rest) is = inr (subst (λ o. IsFront token call.commit call.log (entry ∷ rest) o) (sym (last_is_token token entry rest))
        (front_is_part call.most token call.commit call.log rises entry rest is))

    by_test : (test : Bool)
        → Gives token call (entries_of (cond test (Err UnknownToken) (Ok (take call.most (part token call.commit call.log)))))
        (token_of_last token (entries_of (cond test (Err UnknownToken) (Ok (take call.most (part token call.commit call.log))))))
    by_test true = inl (refl, refl)
    by_test false = by_taken (take call.most (part token call.commit call.log)) refl

-- ---- the calls one after another

abbrev pub AllRise : List Call → Type 0
AllRise calls = AllByRecursion (λ (call : Call). Rises call.log) calls

goes_on : (token : OpTime) (call : Call) → Rises call.log → AtMost token (after token call)
goes_on token call rises = elim (gives token call rises) [
  | inl none ↦ subst (λ o. AtMost token o) (sym none.1) (at_most_refl token)
  | inr front ↦ before_at_most token (after token call) front.later
]

-- the token never goes back
pub rises_on : (token : OpTime) (calls : List Call) → AllRise calls → AtMost token (token_after token calls)
rises_on token [] rise = at_most_refl token
rises_on token (call ∷ calls) rise =
    at_most_trans token (after token call) (token_after token (call ∷ calls)) (goes_on token call rise.0) (rises_on (after token call) calls rise.1)

-- nothing was given, or some call was shown the token's entry, and that it was committed
abbrev pub IsFrom : List Call → OpTime → Type 0
IsFrom calls token = (call : Call) × In call calls × Has token call.log × AtMost token call.commit × Before ZERO token

pub found : (token : OpTime) (calls : List Call) → AllRise calls
    → ((joined token calls ≡ []) × (token_after token calls ≡ token)) ⊎ IsFrom calls (token_after token calls)
found token [] rise = inl (refl, refl)
found token (call ∷ calls) rise = elim (found (after token call) calls rise.1) [
  | inr from ↦ inr (from.0, inr from.1, from.2, from.3, from.4)
  | inl none ↦ elim (gives token call rise.0) [
    | inl nothing ↦ inl (ap₂ (λ (l m : List Entry). l ++ m) nothing.0 none.0, none.1 ∙ nothing.1)
    | inr front ↦ inr (
      call,
      inl refl,
      subst (λ o. Has o call.log) (sym none.1) front.here,
      subst (λ o. AtMost o call.commit) (sym none.1) front.within,
      subst (λ o. Before ZERO o) (sym none.1) (at_most_before_trans ZERO token (after token call) (zero_least token) front.later),
    )
  ]
]

-- A log has, up to each optime within a bound, what a call was shown up to there and committed.
abbrev pub Agrees : OpTime → List Entry → Call → Type 0
Agrees bound log call =
    (o : OpTime) → Before ZERO o → AtMost o call.commit → AtMost o bound → log_up_to o call.log ≡ log_up_to o log

joined_next : (token : OpTime) (call : Call) (calls : List Call) (bound : OpTime) (log : List Entry) → Rises log → AllRise (call ∷ calls) → Agrees bound log call
    → AtMost (token_after token (call ∷ calls)) bound → joined (after token call) calls ≡ part (after token call) (token_after (after token call) calls) log
    → joined token (call ∷ calls) ≡ part token (token_after token (call ∷ calls)) log
joined_next token call calls bound log rises rise agree within rest = elim (gives token call rise.0) [
  | inl none ↦
      ap₂ (λ (l m : List Entry). l ++ m) none.0 rest
      ∙ ap (λ o. part o (token_after (after token call) calls) log) none.1
  | inr front ↦
      ap₂ (λ (l m : List Entry). l ++ m)
      (front.is ∙ ap (log_after token) (agree (after token call) (at_most_before_trans ZERO token (after token call) (zero_least token) front.later) front.within
      (at_most_trans (after token call) (token_after (after token call) calls) bound on within)))
      rest
      ∙ parts_join token (after token call) (token_after (after token call) calls) log rises (goes_on token call rise.0) on
]
  where
    on : AtMost (after token call) (token_after (after token call) calls)
    on = rises_on (after token call) calls rise.1

-- the entries of all calls are a part of each such log
pub joined_is : (token : OpTime) (calls : List Call) (bound : OpTime) (log : List Entry) → Rises log → AllRise calls → AllByRecursion (Agrees bound log) calls
    → AtMost (token_after token calls) bound → joined token calls ≡ part token (token_after token calls) log
joined_is token [] bound log rises rise agree within = sym (part_none token log)
joined_is token (call ∷ calls) bound log rises rise agree within =
    joined_next token call calls bound log rises rise agree.0 within (joined_is (after token call) calls bound log rises rise.1 agree.1 within)
