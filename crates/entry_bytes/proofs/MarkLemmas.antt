-- Names as marks, and back.
use Rattle.std.proofs.Common.{◌≡◌, ◌<◌, ℕ, zero, suc, true, false, not, ◌&&◌, List, Contains, None, codes, refl, sym, ap, subst, ◌∙◌, arith}
use Rattle.std.proofs.lemmas.Bool.{and_parts, not-true}
use Rattle.std.specs.Str.{bytes_eq}
use Rattle.bson_doc.specs.Tree.{Tree, null, int32, int64, text, document, array, binary, object_id, boolean, date, timestamp, Fields, no_fields, field, Trees, no_items, item, found, items_count, trees_from, IsDocument}
use Rattle.oplog_entry.specs.Lawful.{AreUnsets, is_among}
use Rattle.oplog_entry.specs.Step.{strings_of}
use Rattle.oplog_entry.proofs.FieldLemmas.{alike_swapped}
use Rattle.oplog_entry.proofs.WalkLemmas.{next_name}
use Rattle.oplog_entry.specs.Walk.{join}
use Rattle.entry_bytes.specs.Layout.{marks}
use Rattle.entry_bytes.specs.Parts.{are_marks, is_mark, names_in}

-- a name that isn't among the strings is no mark
pub found-marks : (unsets : Trees) (q : List ℕ) → AreUnsets unsets → is_among q (strings_of unsets) ≡ false → found q (marks unsets) ≡ None
found-marks no_items q law none = refl
found-marks (item (text name) rest) q law none = grind (arith, alike_swapped name q, found-marks rest q law.3)
found-marks (item null rest) q law none = absurd law
found-marks (item (int32 n) rest) q law none = absurd law
found-marks (item (int64 n) rest) q law none = absurd law
found-marks (item (document d) rest) q law none = absurd law
found-marks (item (array i) rest) q law none = absurd law
found-marks (item (binary s b) rest) q law none = absurd law
found-marks (item (object_id b) rest) q law none = absurd law
found-marks (item (boolean t) rest) q law none = absurd law
found-marks (item (date m) rest) q law none = absurd law
found-marks (item (timestamp t) rest) q law none = absurd law

-- names to take out are those of a document
pub IsDocument-marks : (unsets : Trees) → AreUnsets unsets → IsDocument (marks unsets)
IsDocument-marks no_items law = tt
IsDocument-marks (item (text name) rest) law = (law.0, found-marks rest name law.3 law.2, IsDocument-marks rest law.3)
IsDocument-marks (item null rest) law = absurd law
IsDocument-marks (item (int32 n) rest) law = absurd law
IsDocument-marks (item (int64 n) rest) law = absurd law
IsDocument-marks (item (document d) rest) law = absurd law
IsDocument-marks (item (array i) rest) law = absurd law
IsDocument-marks (item (binary s b) rest) law = absurd law
IsDocument-marks (item (object_id b) rest) law = absurd law
IsDocument-marks (item (boolean t) rest) law = absurd law
IsDocument-marks (item (date m) rest) law = absurd law
IsDocument-marks (item (timestamp t) rest) law = absurd law

-- there is a string at each place
pub string_at : (unsets : Trees) (place : ℕ) → AreUnsets unsets → place < items_count unsets → (name : List ℕ) × (rest : Trees) × (trees_from place unsets ≡ item (text name) rest)
string_at no_items place law within = absurd (omega arith)
string_at (item (text name) rest) zero law within = (name, rest, refl)
string_at (item (text name) rest) (suc place) law within = string_at rest place law.3 (omega arith)
string_at (item null rest) place law within = absurd law
string_at (item (int32 n) rest) place law within = absurd law
string_at (item (int64 n) rest) place law within = absurd law
string_at (item (document d) rest) place law within = absurd law
string_at (item (array i) rest) place law within = absurd law
string_at (item (binary s b) rest) place law within = absurd law
string_at (item (object_id b) rest) place law within = absurd law
string_at (item (boolean t) rest) place law within = absurd law
string_at (item (date m) rest) place law within = absurd law
string_at (item (timestamp t) rest) place law within = absurd law

-- and they are read again
pub are_marks-marks : (unsets : Trees) → AreUnsets unsets → are_marks (marks unsets) ≡ true
are_marks-marks no_items law = refl
are_marks-marks (item (text name) rest) law =
    ap (λ b. not b && are_marks (marks rest)) law.1 ∙ are_marks-marks rest law.3
are_marks-marks (item null rest) law = absurd law
are_marks-marks (item (int32 n) rest) law = absurd law
are_marks-marks (item (int64 n) rest) law = absurd law
are_marks-marks (item (document d) rest) law = absurd law
are_marks-marks (item (array i) rest) law = absurd law
are_marks-marks (item (binary s b) rest) law = absurd law
are_marks-marks (item (object_id b) rest) law = absurd law
are_marks-marks (item (boolean t) rest) law = absurd law
are_marks-marks (item (date m) rest) law = absurd law
are_marks-marks (item (timestamp t) rest) law = absurd law

pub names_in-marks : (unsets : Trees) → AreUnsets unsets → names_in (marks unsets) ≡ unsets
names_in-marks no_items law = refl
names_in-marks (item (text name) rest) law = ap (λ r. item (text name) r) (names_in-marks rest law.3)
names_in-marks (item null rest) law = absurd law
names_in-marks (item (int32 n) rest) law = absurd law
names_in-marks (item (int64 n) rest) law = absurd law
names_in-marks (item (document d) rest) law = absurd law
names_in-marks (item (array i) rest) law = absurd law
names_in-marks (item (binary s b) rest) law = absurd law
names_in-marks (item (object_id b) rest) law = absurd law
names_in-marks (item (boolean t) rest) law = absurd law
names_in-marks (item (date m) rest) law = absurd law
names_in-marks (item (timestamp t) rest) law = absurd law

-- ---- the names of marks
among-names_in : (d : Fields) (q : List ℕ) → found q d ≡ None → is_among q (strings_of (names_in d)) ≡ false
among-names_in no_fields q none = refl
among-names_in (field name value rest) q none = grind (arith, alike_swapped name q, among-names_in rest q)

mark_is : (name : List ℕ) (value : Tree) → is_mark name value ≡ true → (value ≡ boolean true) × (bytes_eq name (codes "_id") ≡ false)
mark_is name (boolean truth) is =
    let parts = and_parts truth (not (bytes_eq name (codes "_id"))) is in
    (ap (λ t. boolean t) parts.0, not-true (bytes_eq name (codes "_id")) parts.1)
mark_is name null is = cc
mark_is name (int32 n) is = cc
mark_is name (int64 n) is = cc
mark_is name (text b) is = cc
mark_is name (document d) is = cc
mark_is name (array i) is = cc
mark_is name (binary s b) is = cc
mark_is name (object_id b) is = cc
mark_is name (date m) is = cc
mark_is name (timestamp t) is = cc

-- what `are_marks` tells of the first field
first_mark : (name : List ℕ) (value : Tree) (rest : Fields) → are_marks (field name value rest) ≡ true → (value ≡ boolean true) × (bytes_eq name (codes "_id") ≡ false) × (are_marks rest ≡ true)
first_mark name value rest is =
    let parts = and_parts (is_mark name value) (are_marks rest) is in
    let here = mark_is name value parts.0 in
    (here.0, here.1, parts.1)

pub AreUnsets-names_in : (d : Fields) → IsDocument d → are_marks d ≡ true → AreUnsets (names_in d)
AreUnsets-names_in no_fields names is = tt
AreUnsets-names_in (field name value rest) names is =
    let first = first_mark name value rest is in
    (names.0, first.1, among-names_in rest name names.1, AreUnsets-names_in rest names.2 first.2)

pub marks-names_in : (d : Fields) → are_marks d ≡ true → marks (names_in d) ≡ d
marks-names_in no_fields is = refl
marks-names_in (field name value rest) is =
    let first = first_mark name value rest is in
    ap (λ r. field name (boolean true) r) (marks-names_in rest first.2) ∙ ap (λ v. field name v rest) (sym first.0)

-- the marks so far, and those from the next name on
pub marks-next : (unsets : Trees) (place : ℕ) (so_far : Fields) (name copied : List ℕ) (rest : Trees) → trees_from place unsets ≡ item (text name) rest → copied ≡ name → join so_far (marks (trees_from place unsets)) ≡ marks unsets → join so_far (field copied (boolean true) (marks rest)) ≡ marks unsets
marks-next unsets place so_far name copied rest here same held =
    ap (λ n. join so_far (field n (boolean true) (marks rest))) same ∙ ap (λ t. join so_far (marks t)) (sym here) ∙ held

-- so the next name is clean and new
pub next_mark : (unsets : Trees) (so_far : Fields) (name : List ℕ) (rest : Fields) → AreUnsets unsets → join so_far (field name (boolean true) rest) ≡ marks unsets → (¬ Contains name 0) × (found name so_far ≡ None)
next_mark unsets so_far name rest law held =
    next_name so_far name (boolean true) rest (subst IsDocument (sym held) (IsDocument-marks unsets law))
