-- A want that fits, where its last text goes on.
use Rattle.std.proofs.Common.{◌≡◌, ℕ, suc, Bool, true, false, not, ◌&&◌, ◌||◌, List, [], ◌∷◌, ◌++◌, length, refl, ap}
use Rattle.std.specs.Prelude.{codes}
use Rattle.std.specs.List.{list_all}
use Rattle.std.proofs.lemmas.Bool.{and_parts}
use Rattle.script_words.proofs.Gets.{both}
use Rattle.explore_words.specs.declared.question.Look.{Look}
use Rattle.explore_words.specs.declared.question.Want.{Want}
use Rattle.explore_words.specs.declared.question.Want.TheVariants.{Event, Seen}
use Rattle.explore_words.specs.declared.question.WantedEvent.{WantedEvent}
use Rattle.explore_words.specs.Fits.{has_own, is_look_for, is_want_for}
use Rattle.explore_words.specs.Texts.{begin_alike, is_idle, names_message}
use Rattle.explore_words.specs.Wants.{is_delivery, longer, longer_last, may_go_on, may_have, may_send}
use Rattle.explore_words.proofs.TextsAlike.{still_apart}
use Rattle.explore_words.proofs.TextsNames.{names_less, names_neither}

either_way : (a b c : Bool) → ((a || b) || c) ≡ false → (a ≡ false) × (b ≡ false) × (c ≡ false)
either_way false false false none = (refl, refl, refl)
either_way true b c none = absurd cc
either_way false true c none = absurd cc
either_way false false true none = absurd cc

still_busy : (text more : List ℕ) → is_idle text ≡ false → is_idle (text ++ more) ≡ false
still_busy text more busy =
    let apart = either_way (begin_alike text (codes "ignored")) (begin_alike text (codes "refused")) (begin_alike text (codes "vote refused")) busy in
    rw (still_apart text more (codes "ignored") apart.0, still_apart text more (codes "refused") apart.1, still_apart text more (codes "vote refused") apart.2) refl

-- what isn't both still isn't, where the second stays false
not_both : (a b c : Bool) → not (a && b) ≡ true → (a ≡ true → b ≡ false → c ≡ false) → not (a && c) ≡ true
not_both true false c none stays = rw (stays refl refl) refl
not_both true true c none stays = absurd cc
not_both false b c none stays = refl

neither : (a b : Bool) → not (a && b) ≡ true → a ≡ true → b ≡ false
neither true false none one = refl
neither true true none one = absurd cc
neither false b none one = absurd cc

longer_event : (event : WantedEvent) (text line : List ℕ) → may_have event text ≡ true → not (may_send event && names_message true line) ≡ true
    → may_have event (text ++ 10 ∷ line) ≡ true
longer_event event text line fits goes =
    let parts = and_parts (not (may_send event && names_message true text)) (not (is_delivery event && is_idle text)) fits in
    both (not (may_send event && names_message true (text ++ 10 ∷ line))) (not (is_delivery event && is_idle (text ++ 10 ∷ line)))
    (not_both (may_send event) (names_message true text) (names_message true (text ++ 10 ∷ line)) parts.0
    (λ sends none. names_neither true text (10 ∷ line) none (names_less false line (neither (may_send event) (names_message true line) goes sends))))
    (not_both (is_delivery event) (is_idle text) (is_idle (text ++ 10 ∷ line)) parts.1 (λ delivers busy. still_busy text (10 ∷ line) busy))

same_looks : (nodes : ℕ) (more : List ℕ) (looks : List Look) → list_all (is_look_for nodes) (longer_last more looks) ≡ list_all (is_look_for nodes) looks
same_looks nodes more [] = refl
same_looks nodes more (look ∷ []) = refl
same_looks nodes more (look ∷ next ∷ looks) = ap (λ (b : Bool). is_look_for nodes look && b) (same_looks nodes more (next ∷ looks))

same_count : (more : List ℕ) (looks : List Look) → length (longer_last more looks) ≡ length looks
same_count more [] = refl
same_count more (look ∷ []) = refl
same_count more (look ∷ next ∷ looks) = ap (λ (n : ℕ). suc n) (same_count more (next ∷ looks))

pub longer_fits : (nodes : ℕ) (want : Want) (line : List ℕ) → is_want_for nodes want ≡ true → may_go_on want line ≡ true
    → is_want_for nodes (longer (10 ∷ line) want) ≡ true
longer_fits nodes (Event event text) line fits goes =
    let parts = and_parts (may_have event text) (has_own event) fits in
    both (may_have event (text ++ 10 ∷ line)) (has_own event) (longer_event event text line parts.0 goes) parts.1
longer_fits nodes (Seen looks) line fits goes = rw (same_looks nodes (10 ∷ line) looks, same_count (10 ∷ line) looks) fits
