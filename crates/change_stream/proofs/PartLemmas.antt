-- Parts of a log between two optimes.
use Rattle.std.proofs.Common.{◌≡◌, ◌∙◌, inl, inr, ap, ap₂, sym, subst, refl, arith, List, [], ◌∷◌, ◌++◌, ℕ, take, append_assoc}
use Rattle.std.proofs.lemmas.Bool.{cases_order}
use Rattle.std.proofs.lemmas.List.Elements.{filter-append}
use Rattle.rs_optime.specs.declared.optime.OpTime.{OpTime}
use Rattle.rs_optime.proofs.Optimes.{at_most_from, at_most_before_trans, at_most_trans}
use Rattle.oplog_entry.specs.declared.entry.Entry.{Entry}
use Rattle.oplog_entry.specs.Visible.{ZERO, is_before, last_of, log_after, log_up_to}
use Rattle.commit_machine.specs.Words.{AtMost, Before, Begins, Has, Rises}
use Rattle.commit_machine.proofs.Lists.{after_has, has_last, has_left, has_right, has_up_to, last_append, rises_up_to, split_at, take_begins, up_to_has, up_to_last, up_to_same, up_to_twice}
use Rattle.change_stream.specs.Calls.{part, token_of_last}

-- ---- the order of optimes

pub zero_least : (o : OpTime) → AtMost ZERO o
zero_least o = elim (cases_order 0 o.term) [
  | inl same ↦ at_most_from ZERO o (inr (same, omega arith))
  | inr other ↦ elim other [ inl less ↦ at_most_from ZERO o (inl less) | inr more ↦ absurd (omega (arith, more)) ]
]

-- ---- after an optime

after_append : (at : OpTime) (one two : List Entry) → log_after at (one ++ two) ≡ log_after at one ++ log_after at two
after_append at one two = filter-append (λ (entry : Entry). is_before at entry.optime) one two

after_all : (at : OpTime) (log : List Entry) → ((o : OpTime) → Has o log → Before at o) → log_after at log ≡ log
after_all at [] all = refl
after_all at (entry ∷ log) all = rw (all entry.optime (inl refl)) (ap (λ rest. entry ∷ rest) (after_all at log (λ o has. all o (inr has))))

after_none : (at : OpTime) (log : List Entry) → ((o : OpTime) → Has o log → AtMost o at) → log_after at log ≡ []
after_none at [] all = refl
after_none at (entry ∷ log) all = rw (all entry.optime (inl refl)) (after_none at log (λ o has. all o (inr has)))

-- nothing is between an optime and itself
pub part_none : (at : OpTime) (log : List Entry) → part at at log ≡ []
part_none at log = after_none at (log_up_to at log) (λ o has. (up_to_has o at log has).1)

-- two parts, the one after the other, are one
pub parts_join : (one two three : OpTime) (log : List Entry) → Rises log → AtMost one two → AtMost two three
    → part one two log ++ part two three log ≡ part one three log
parts_join one two three log rises first second = sym (
    ap (log_after one) (split_at two front (rises_up_to three log rises))
    ∙ after_append one (log_up_to two front) (log_after two front)
    ∙ ap₂ (λ (l m : List Entry). l ++ m) (ap (log_after one) (up_to_twice two three log second))
    (after_all one (log_after two front) (λ o has. at_most_before_trans one two o first (after_has o two front has).1)))
  where
    front : List Entry
    front = log_up_to three log

-- ---- the first entries of a part

pub last_is_token : (token : OpTime) (entry : Entry) (rest : List Entry) → token_of_last token (entry ∷ rest) ≡ last_of (entry ∷ rest)
last_is_token token entry [] = refl
last_is_token token entry (next ∷ rest) = last_is_token entry.optime next rest

-- some first entries of a part of a log are the part of it up to their last one
pub record IsFront (start end : OpTime) (log entries : List Entry) (at : OpTime) : Type 0 where
  pub here : Has at log
  pub within : AtMost at end
  pub later : Before start at
  pub is : entries ≡ part start at log

pub front_is_part : (many : ℕ) (start end : OpTime) (log : List Entry) → Rises log → (entry : Entry) (rest : List Entry)
    → take many (part start end log) ≡ entry ∷ rest → IsFront start end log (entry ∷ rest) (last_of (entry ∷ rest))
front_is_part many start end log rises entry rest taken = record {
  here = (up_to_has at end log in_whole.0).0;
  within = within;
  later = in_whole.1;
  is = sym (
      ap (log_after start) (sym (up_to_twice at end log within) ∙ whole_up_to)
      ∙ after_append start (log_up_to start whole) entries
      ∙ ap₂ (λ (l m : List Entry). l ++ m) (part_none start whole) (after_all start entries (λ o has. (in_part o has).1)));
}
  where
    entries : List Entry
    entries = entry ∷ rest

    at : OpTime
    at = last_of entries

    whole : List Entry
    whole = log_up_to end log

    begins : Begins entries (log_after start whole)
    begins = subst (λ (l : List Entry). Begins l (log_after start whole)) taken (take_begins many (log_after start whole))

    in_part : (o : OpTime) → Has o entries → Has o whole × Before start o
    in_part o has = after_has o start whole (subst (λ (l : List Entry). Has o l) (sym begins.1) (has_left o entries begins.0 has))

    in_whole : Has at whole × Before start at
    in_whole = in_part at (has_last entry rest)

    within : AtMost at end
    within = (up_to_has at end log in_whole.0).1

    front : List Entry
    front = log_up_to start whole ++ entries

    front_begins : Begins front whole
    front_begins = (
      begins.0,
      split_at start whole (rises_up_to end log rises) ∙ ap (λ l. log_up_to start whole ++ l) begins.1 ∙ sym (append_assoc (log_up_to start whole) entries begins.0),
    )

    front_last : last_of front ≡ at
    front_last = last_append (log_up_to start whole) entry rest

    has_front : Has (last_of front) front
    has_front = subst (λ o. Has o front) (sym front_last) (has_right at (log_up_to start whole) entries (has_last entry rest))

    whole_up_to : log_up_to at whole ≡ front
    whole_up_to = subst (λ o. log_up_to o whole ≡ front) front_last (up_to_last front whole (rises_up_to end log rises) front_begins has_front)

-- a log that has what another begins with up to an optime has the same up to each earlier one
pub begun_same : (one two : List Entry) (bound at o : OpTime) → Rises two → Has at one → AtMost at bound → AtMost o at
    → Begins (log_up_to bound one) two → log_up_to o one ≡ log_up_to o two
begun_same one two bound at o rises has within up begins =
    sym (up_to_twice o bound one (at_most_trans o at bound up within))
    ∙ sym (up_to_twice o at front up) ∙ sym (ap (log_up_to o) (up_to_same at front two rises begins (has_up_to at bound one has within)))
    ∙ up_to_twice o at two up
  where
    front : List Entry
    front = log_up_to bound one
