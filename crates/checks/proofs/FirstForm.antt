-- Records of the first form of a journal, and that a file with them is a journal.
use Rattle.std.proofs.Common.{◌≡◌, ◌≤◌, ◌<◌, inl, inr, ℕ, zero, suc, pos, Bool, true, false, nat_lt, List, [], ◌∷◌, ◌++◌, length, take, None, Some, codes, refl, ap, sym, subst, arith, rules}
use Rattle.std.specs.Prelude.{◌&&◌, All, slice_index, unwrap_or}
use Rattle.std.specs.Str.{IsAscii, is_utf8}
use Rattle.std.proofs.lemmas.Bool.Decides.{nat_tests}
use Rattle.std.proofs.lemmas.List.Elements.{All-cons}
use Rattle.std.proofs.lemmas.Str.{IsUtf8-from_ascii, is_utf8-from_IsUtf8}
use Rattle.rs_disk.specs.File.{contents}
use Rattle.rs_disk.specs.Memory.{fresh}
use Rattle.rs_disk.specs.State.{State}
use Rattle.rs_optime.specs.declared.optime.OpTime.{OpTime}
use Rattle.bson_doc.specs.Sound.{IsSound}
use Rattle.bson_doc.specs.Length.{document_levels}
use Rattle.bson_doc.specs.Tree.{Fields, document, field, int32, no_fields}
use Rattle.bson_codec.proofs.SpellingLemmas.{length-value_bytes}
use Rattle.oplog_entry.specs.Lawful.{IsLawful}
use Rattle.oplog_entry.specs.declared.entry.Entry.{Entry}
use Rattle.oplog_entry.specs.declared.entry.Op.TheVariants.{Insert, Noop}
use Rattle.entry_bytes.specs.Layout.{document_of}
use Rattle.entry_bytes.specs.Optimes.{optime_bytes}
use Rattle.entry_bytes.proofs.AppendingLemmas.{sound_document, sound_front}
use Rattle.member_config.specs.declared.config.Config.{Config}
use Rattle.member_config.specs.declared.config.Member.{Member}
use Rattle.vote_store.specs.declared.vote.Vote.{Vote}
use Rattle.record_file.specs.Files.{IsAtRest as FileAtRest}
use Rattle.record_file.specs.Records.{HasRecords}
use Rattle.repl_msg.specs.declared.record.Record.{Record}
use Rattle.repl_msg.specs.declared.record.Record.TheVariants as records
use Rattle.node_journal.specs.Files.{IsJournalDisk}
use Rattle.node_journal.specs.Layout.{batch_bytes, config_bytes, entry_bytes, vote_bytes}
use Rattle.node_journal.specs.Spelled.{IsEntry, IsMember, IsPlain, IsSpelled}
use Rattle.node_journal.proofs.DiskLemmas.{rest_only}

-- ---- the records

abbrev vote : Vote
vote = record { term = 3; candidate = Some 1 }

abbrev member : Member
member = record { number = 0; votes = true; priority = 1 }

abbrev config : Config
config = record { term = 3; version = 1; members = member ∷ []; chaining = true }

abbrev five : Fields
five = field (codes "_id") (int32 (pos 5)) no_fields

abbrev noop : Entry
noop = record { optime = record { term = 1; ts = 1 }; op = Noop; session = None }

abbrev insert : Entry
insert = record { optime = record { term = 1; ts = 2 }; op = Insert (codes "t") five; session = None }

abbrev both : List Entry
both = noop ∷ insert ∷ []

abbrev last : OpTime
last = record { term = 1; ts = 2 }

abbrev items : List Record
items = records.Vote vote ∷ records.Config config ∷ records.Entries both last ∷ records.Cut last ∷ []

-- their bytes, the entries' as in the first form
abbrev pieces : List (List ℕ)
pieces = (1 ∷ vote_bytes vote) ∷ (2 ∷ config_bytes config) ∷ (3 ∷ batch_bytes both last) ∷ (4 ∷ optime_bytes last) ∷ []

-- ---- texts

all_ascii : List ℕ → Bool
all_ascii [] = true
all_ascii (x ∷ xs) = nat_lt x 128 && all_ascii xs

each_ascii : (xs : List ℕ) → all_ascii xs ≡ true → IsAscii xs
unfolding all_ascii
each_ascii [] all i = omega arith
each_ascii (x ∷ xs) all zero = by_test (nat_lt x 128) refl all
  where
    by_test : (b : Bool) → nat_lt x 128 ≡ b → (b && all_ascii xs) ≡ true → x < 128
    by_test true is all = grind (arith, nat_tests)
    by_test false is all = absurd (cc all)
each_ascii (x ∷ xs) all (suc i) = by_test (nat_lt x 128) (λ rest. each_ascii xs rest i) all
  where
    by_test : (b : Bool) → (all_ascii xs ≡ true → slice_index xs i < 128) → (b && all_ascii xs) ≡ true → slice_index xs i < 128
    by_test true rest all = rest all
    by_test false rest all = absurd (cc all)

utf8 : (xs : List ℕ) → all_ascii xs ≡ true → is_utf8 xs ≡ true
utf8 xs all = is_utf8-from_IsUtf8 xs (IsUtf8-from_ascii xs (each_ascii xs all))

-- ---- the entries

is_entry : (e : Entry) → IsLawful e → IsSound (document_of e) → length (entry_bytes e) ≤ 1048576 → document_levels (document_of e) ≤ 103 → IsEntry e
is_entry e lawful sound bytes levels =
    record { lawful = lawful; sound = sound; spelling = record { spelled = refl; in_bytes = bytes; in_levels = levels } }

noop_is : IsEntry noop
unfolding all_ascii
noop_is =
    is_entry noop (record { term = omega arith; op = tt; session = tt; write = tt })
    (sound_document noop (sound_front noop.optime noop.op (omega arith) (omega arith) (utf8 (codes "n") refl) (utf8 [] refl))
    ((search rules, refl, tt), (utf8 (codes "msg") refl, utf8 (codes "new primary") refl, tt)) tt tt)
    (omega (arith, length-value_bytes (document (document_of noop)))) (omega arith)

insert_is : IsEntry insert
unfolding all_ascii
insert_is =
    is_entry insert (record { term = omega arith; op = (refl, search rules); session = tt; write = tt })
    (sound_document insert (sound_front insert.optime insert.op (omega arith) (omega arith) (utf8 (codes "i") refl) (utf8 (codes "t") refl))
    ((search rules, refl, tt), (utf8 (codes "_id") refl, search rules, tt)) tt tt)
    (omega (arith, length-value_bytes (document (document_of insert)))) (omega arith)

two : (P : Entry → Type 0) → P noop → P insert → All P both
two P one other = All-cons P noop (insert ∷ []) one (All-cons P insert [] other (λ k d within. absurd (omega arith)))

-- ---- the file

vote_is : IsSpelled (records.Vote vote) (1 ∷ vote_bytes vote)
vote_is = record { lawful = (omega arith, omega arith, λ same. absurd (omega (arith, ap (λ o. unwrap_or o 0) same))); spelled = inl refl }

config_is : IsSpelled (records.Config config) (2 ∷ config_bytes config)
config_is = record {
  lawful = (omega arith, omega arith, omega arith, All-cons IsMember member [] (omega arith, omega arith) (λ k d within. absurd (omega arith)));
  spelled = inl refl;
}

entries_are : IsSpelled (records.Entries both last) (3 ∷ batch_bytes both last)
entries_are = record {
  lawful = ((omega arith, omega arith), (omega arith, two IsEntry noop_is insert_is));
  spelled = inr (refl, two IsPlain (refl, λ is. cc is) (refl, λ is. cc is));
}

cut_is : IsSpelled (records.Cut last) (4 ∷ optime_bytes last)
cut_is = record { lawful = (omega arith, omega arith); spelled = inl refl }

first_disk : (state : State) → FileAtRest state pieces → IsJournalDisk state
first_disk state rests = record {
  leaves = λ image left. (items, rest_only state items (record { pieces = pieces; spelled = (vote_is, (config_is, (entries_are, (cut_is, tt)))); rests = rests }) image left);
}

abbrev Adds : State → State → List ℕ → Type 0
Adds old new piece = (records : List (List ℕ)) → FileAtRest old records → FileAtRest new (records ++ piece ∷ [])

-- on an empty disk one record was added after the other
pub first_written : (s s0 s1 s2 s3 s4 : State) (found : List (List ℕ)) → s ≡ fresh → ((records : List (List ℕ)) → HasRecords (contents s.file) records → found ≡ records) → FileAtRest s0 found
    → Adds s0 s1 (1 ∷ vote_bytes vote) → Adds s1 s2 (2 ∷ config_bytes config) → Adds s2 s3 (3 ∷ batch_bytes both last) → Adds s3 s4 (4 ∷ optime_bytes last) → IsJournalDisk s4
first_written s s0 s1 s2 s3 s4 found is only rests one two three four =
    let none : found ≡ [] = only [] (subst (λ (state : State). HasRecords (contents state.file) []) (sym is) (inl (omega arith, refl))) in
    first_disk s4 (four (take 3 pieces) (three (take 2 pieces) (two (take 1 pieces) (one [] (subst (FileAtRest s0) none rests)))))
