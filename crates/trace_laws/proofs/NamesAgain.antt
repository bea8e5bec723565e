-- Collections, levels, concerns, disks and optimes as they are written are read as words.
use Rattle.std.proofs.Common.{◌≡◌, ℕ, suc, ◌+◌, ◌*◌, ◌/◌, ◌%◌, ◌^◌, ◌≤◌, ◌<◌, true, false, ◌==◌, ◌&&◌, List, [], ◌∷◌, ◌++◌, length, drop, Ok, refl, sym, ap, ◌∙◌, arith, append_assoc}
use Rattle.std.specs.Prelude.{codes, nat_lt, nat_le}
use Rattle.std.specs.Fmt.{decimal}
use Rattle.std.specs.List.{after_first, before_first, list_all, list_any, position_or_len}
use Rattle.std.specs.Str.{bytes_eq}
use Rattle.std.specs.Char.{is_ascii_alphabetic, is_ascii_digit}
use Rattle.std.proofs.Math.Seq.{take-append_seam}
use Rattle.rs_optime.specs.Text.{optime_text}
use Rattle.rs_optime.specs.declared.optime.OpTime.{OpTime}
use Rattle.run_checker.specs.Commands.{concern_word, disk_word, level_word, target_word}
use Rattle.script_words.specs.declared.rule.ScriptRule.TheVariants.{BadNumber, BadWord}
use Rattle.script_words.specs.Words.{collection_at, concern_at, concern_of, cut_at_slash, disk_at, disk_of, is_slash, level_at, level_of, optime_of, optime_target, target_at, target_of, writer_target}
use Rattle.script_words.proofs.Gets.{both}
use Rattle.script_laws.proofs.ChanceLines.{each_true, is_inside}
use Rattle.script_laws.proofs.ChanceWords.{last_word, word_is}
use Rattle.set_model.specs.declared.command.AckConcern.{AckConcern}
use Rattle.set_model.specs.declared.command.AckConcern.TheVariants as concerns
use Rattle.set_model.specs.declared.command.DiskName.{DiskName}
use Rattle.set_model.specs.declared.command.DiskName.TheVariants as disks
use Rattle.set_model.specs.declared.command.ReadLevel.{ReadLevel}
use Rattle.set_model.specs.declared.command.ReadLevel.TheVariants as levels
use Rattle.set_model.specs.declared.command.Target.{Target}
use Rattle.set_model.specs.declared.command.Target.TheVariants as targets
use Rattle.set_model.specs.Limits.{is_collection, is_name_byte, is_within_concern, is_within_target}
use Rattle.trace_laws.specs.Said.{IsNumbered}
use Rattle.trace_laws.proofs.WordsAgain.{Again, is_printed, number_again, writer_name}

-- ---- names

level_named : (word : List ℕ) (level : ReadLevel) → list_all is_inside word ≡ true → level_of word ≡ Ok level → Again level_at word level
unfolding level_at
level_named word level inside named = record { inside = inside; before = λ rest. rw (word_is word rest inside, named) refl; last = rw (last_word word inside, named) refl }

pub level_again : (level : ReadLevel) → Again level_at (level_word level) level
level_again levels.Local = level_named (codes "local") levels.Local refl refl
level_again levels.Majority = level_named (codes "majority") levels.Majority refl refl

disk_named : (word : List ℕ) (disk : DiskName) → list_all is_inside word ≡ true → disk_of word ≡ Ok disk → Again disk_at word disk
unfolding disk_at
disk_named word disk inside named = record { inside = inside; before = λ rest. rw (word_is word rest inside, named) refl; last = rw (last_word word inside, named) refl }

pub disk_again : (disk : DiskName) → Again disk_at (disk_word disk) disk
disk_again disks.Journal = disk_named (codes "journal") disks.Journal refl refl
disk_again disks.Checkpoint = disk_named (codes "checkpoint") disks.Checkpoint refl refl

letter_inside : (c : ℕ) → is_ascii_alphabetic c ≡ true → is_inside c ≡ true
letter_inside c is = both (nat_lt 32 c) (nat_lt c 127) (grind arith) (grind arith)

byte_inside : (c : ℕ) → is_name_byte c ≡ true → is_inside c ≡ true
byte_inside c is = both (nat_lt 32 c) (nat_lt c 127) (grind arith) (grind arith)

bytes_inside : (bytes : List ℕ) → list_all is_name_byte bytes ≡ true → list_all is_inside bytes ≡ true
bytes_inside [] all = refl
bytes_inside (c ∷ bytes) all =
    let parts = each_true (is_name_byte c) (list_all is_name_byte bytes) all in
    both (is_inside c) (list_all is_inside bytes) (byte_inside c parts.0) (bytes_inside bytes parts.1)

collection_inside : (name : List ℕ) → is_collection name ≡ true → list_all is_inside name ≡ true
collection_inside [] is = absurd cc
collection_inside (c ∷ others) is =
    let first = each_true (is_ascii_alphabetic c && nat_lt (length others) 64) (list_all is_name_byte others) is in
    let letter = each_true (is_ascii_alphabetic c) (nat_lt (length others) 64) first.0 in
    both (is_inside c) (list_all is_inside others) (letter_inside c letter.0) (bytes_inside others first.1)

pub collection_again : (name : List ℕ) → is_collection name ≡ true → Again collection_at name name
unfolding collection_at
collection_again name is =
    let inside = collection_inside name is in
    record { inside = inside; before = λ rest. rw (word_is name rest inside, is) refl; last = rw (last_word name inside, is) refl }

-- ---- concerns

count_again : (count : ℕ) → 1 ≤ count → count ≤ 50 → concern_of (decimal count) ≡ Ok (concerns.Count count)
unfolding concern_of
count_again count low high =
    rw (digits_differ (decimal count) (is_printed count (omega (arith, high))).digits, number_again BadWord BadNumber 1 50 count (omega (arith, high)) low high) refl
  where
    digits_differ : (digits : List ℕ) → list_all is_ascii_digit digits ≡ true → bytes_eq digits (codes "majority") ≡ false
    digits_differ [] all = refl
    digits_differ (c ∷ digits) all =
        let digit = (each_true (is_ascii_digit c) (list_all is_ascii_digit digits) all).0 in
        let other : (c == 109) ≡ false = grind arith in
        rw other refl

concern_named : (word : List ℕ) (concern : AckConcern) → list_all is_inside word ≡ true → concern_of word ≡ Ok concern → Again concern_at word concern
unfolding concern_at
concern_named word concern inside named = record { inside = inside; before = λ rest. rw (word_is word rest inside, named) refl; last = rw (last_word word inside, named) refl }

majority_again : concern_of (codes "majority") ≡ Ok concerns.Majority
unfolding concern_of
majority_again = refl

pub concern_again : (concern : AckConcern) → is_within_concern concern ≡ true → Again concern_at (concern_word concern) concern
concern_again concerns.Majority within = concern_named (codes "majority") concerns.Majority refl majority_again
concern_again (concerns.Count count) within =
    let bounds = each_true (nat_le 1 count) (nat_le count 50) within in
    let low : 1 ≤ count = let above = bounds.0 in grind arith in
    let high : count ≤ 50 = let below = bounds.1 in grind arith in
    concern_named (decimal count) (concerns.Count count) (is_printed count (omega (arith, high))).inside (count_again count low high)

-- ---- optimes

no_slash : (c : ℕ) → is_ascii_digit c ≡ true → is_slash c ≡ false
no_slash c is = grind arith

record IsCut (digits rest : List ℕ) : Type 0 where
  place : position_or_len is_slash (digits ++ 47 ∷ rest) ≡ length digits
  some : list_any is_slash (digits ++ 47 ∷ rest) ≡ true

cut : (digits rest : List ℕ) → list_all is_ascii_digit digits ≡ true → IsCut digits rest
cut [] rest all = record { place = refl; some = refl }
cut (c ∷ digits) rest all =
    let parts = each_true (is_ascii_digit c) (list_all is_ascii_digit digits) all in
    let later = cut digits rest parts.1 in
    let other = no_slash c parts.0 in
    record { place = rw other (omega (arith, later.place)); some = rw other later.some }

cut_is : (digits rest : List ℕ) → list_all is_ascii_digit digits ≡ true → cut_at_slash (digits ++ 47 ∷ rest) ≡ Ok (digits, rest)
cut_is digits rest all =
    let c = cut digits rest all in
    let before : before_first is_slash (digits ++ 47 ∷ rest) ≡ digits = rw (c.place) (take-append_seam digits (47 ∷ rest)) in
    let after : after_first is_slash (digits ++ 47 ∷ rest) ≡ rest = rw (c.place) (after_length digits rest) in
    rw (c.some, before, after) refl
  where
    after_length : (xs ys : List ℕ) → drop (length xs + 1) (xs ++ 47 ∷ ys) ≡ ys
    after_length [] ys = refl
    after_length (x ∷ xs) ys = let more : length (x ∷ xs) + 1 ≡ suc (length xs + 1) = omega arith in rw more (after_length xs ys)

optime_again : (at : OpTime) → at.term < 2 ^ 64 → at.ts < 2 ^ 64 → optime_of (optime_text at) ≡ Ok at
unfolding optime_of
optime_again at term ts =
    let one = is_printed at.term term in
    let seconds = is_printed (at.ts / 2 ^ 32) (omega (arith, ts)) in
    let increment = is_printed (at.ts % 2 ^ 32) (omega (arith, ts)) in
    let whole : optime_text at ≡ decimal at.term ++ 47 ∷ (decimal (at.ts / 2 ^ 32) ++ 47 ∷ decimal (at.ts % 2 ^ 32)) = simp append_assoc in
    let back : at.ts / 2 ^ 32 * 4294967296 + at.ts % 2 ^ 32 ≡ at.ts = omega arith in
    rw (
      whole,
      cut_is (decimal at.term) (decimal (at.ts / 2 ^ 32) ++ 47 ∷ decimal (at.ts % 2 ^ 32)) one.digits,
      cut_is (decimal (at.ts / 2 ^ 32)) (decimal (at.ts % 2 ^ 32)) seconds.digits,
      number_again BadWord BadWord 0 18446744073709551615 at.term term (omega arith) (omega (arith, term)),
      number_again BadWord BadWord 0 4294967295 (at.ts / 2 ^ 32) (omega (arith, ts)) (omega arith) (omega (arith, ts)),
      number_again BadWord BadWord 0 4294967295 (at.ts % 2 ^ 32) (omega arith) (omega arith) (omega arith),
    )
    (ap (λ (t : ℕ). Ok (record { term = at.term; ts = t })) back)

slashes_inside : (digits rest : List ℕ) → list_all is_inside digits ≡ true → list_all is_inside rest ≡ true → list_all is_inside (digits ++ 47 ∷ rest) ≡ true
slashes_inside [] rest one other = both true (list_all is_inside rest) refl other
slashes_inside (c ∷ digits) rest one other =
    let parts = each_true (is_inside c) (list_all is_inside digits) one in
    both (is_inside c) (list_all is_inside (digits ++ 47 ∷ rest)) parts.0 (slashes_inside digits rest parts.1 other)

digit_first : (digits rest : List ℕ) → 0 < length digits → list_all is_ascii_digit digits ≡ true → target_of (digits ++ rest) ≡ optime_target (digits ++ rest)
digit_first [] rest some all = absurd (omega (arith, some))
digit_first (c ∷ digits) rest some all =
    let digit = (each_true (is_ascii_digit c) (list_all is_ascii_digit digits) all).0 in
    let other : (c == 119) ≡ false = grind arith in
    rw other refl

target_named : (word : List ℕ) (target : Target) → list_all is_inside word ≡ true → target_of word ≡ Ok target → Again target_at word target
unfolding target_at
target_named word target inside named = record { inside = inside; before = λ rest. rw (word_is word rest inside, named) refl; last = rw (last_word word inside, named) refl }

writer_named : (writer : ℕ) → writer < 1000 → target_of (writer_name writer) ≡ Ok (targets.Writer writer)
unfolding writer_target
writer_named writer low = rw (number_again BadWord BadWord 0 999 writer (omega (arith, low)) (omega arith) (omega (arith, low))) refl

optime_named : (at : OpTime) → at.term < 2 ^ 64 → at.ts < 2 ^ 64 → optime_target (optime_text at) ≡ Ok (targets.At at)
unfolding optime_target
optime_named at term ts = rw (optime_again at term ts) refl

pub target_again : (target : Target) → is_within_target target ≡ true → IsNumbered target → Again target_at (target_word target) target
target_again (targets.Writer writer) within numbered =
    let low : writer < 1000 = grind arith in
    target_named (writer_name writer) (targets.Writer writer) (is_printed writer (omega (arith, low))).inside (writer_named writer low)
target_again (targets.At at) within numbered =
    let one = is_printed at.term numbered.0 in
    let seconds = is_printed (at.ts / 2 ^ 32) (omega (arith, numbered.1)) in
    let increment = is_printed (at.ts % 2 ^ 32) (omega (arith, numbered.1)) in
    let whole : optime_text at ≡ decimal at.term ++ 47 ∷ (decimal (at.ts / 2 ^ 32) ++ 47 ∷ decimal (at.ts % 2 ^ 32)) = simp append_assoc in
    let inside : list_all is_inside (optime_text at) ≡ true = ap (list_all is_inside) whole ∙ slashes_inside (decimal at.term) _ one.inside (slashes_inside (decimal (at.ts / 2 ^ 32)) (decimal (at.ts % 2 ^ 32)) seconds.inside increment.inside) in
    let first : target_of (optime_text at) ≡ optime_target (optime_text at) =
    ap target_of whole ∙ digit_first (decimal at.term) (47 ∷ (decimal (at.ts / 2 ^ 32) ++ 47 ∷ decimal (at.ts % 2 ^ 32))) one.some one.digits ∙ ap optime_target (sym whole) in
    target_named (optime_text at) (targets.At at) inside (first ∙ optime_named at numbered.0 numbered.1)
