-- The two parts of a change, by how many fields there are.
use Rattle.std.proofs.Common.{◌≡◌, ◌≢◌, ◌<◌, ◌≤◌, ◌+◌, ◌^◌, ℕ, pos, Bool, IsTrue, List, Option, None, Some, codes, ap, sym, ◌∙◌, arith}
use Rattle.std.specs.Prelude.{IfSome}
use Rattle.std.specs.Str.{bytes_eq}
use Rattle.bson_doc.specs.Tree.{Tree, int64, text, document, Fields, no_fields, field, count, fields_from}
use Rattle.bson_doc.proofs.DocLemmas.{fields_from-zero, fields_from-end}
use Rattle.oplog_entry.specs.Lawful.{IsSession}
use Rattle.oplog_entry.specs.declared.entry.Session.{Session}
use Rattle.oplog_entry.proofs.FieldLemmas.{same_name, same_itself}
use Rattle.entry_bytes.specs.Layout.{part, only_message, last_members, session_members}
use Rattle.entry_bytes.proofs.LayoutLemmas.{no_session}
use Rattle.entry_bytes.proofs.PlaceLemmas.{count-from, count-none, fields_from-next}

-- no part of this name stands at a place
abbrev pub HasNoPart : Fields → ℕ → List ℕ → Type 0
HasNoPart o place name =
    (first : List ℕ) (value : Tree) (others rest : Fields) → fields_from place o ≢ field name (document (field first value others)) rest

pub count-parts : (o sets unsets : Fields) → fields_from 1 o ≡ part (codes "$set") sets (part (codes "$unset") unsets no_fields) → count o ≤ 3
count-parts o no_fields no_fields here = omega (arith, count-none o 1 here)
count-parts o no_fields (field n v rest) here = omega (arith, count-from o 1 _ _ _ here)
count-parts o (field n v rest) no_fields here = omega (arith, count-from o 1 _ _ _ here)
count-parts o (field n v rest) (field m w others) here = omega (arith, count-from o 1 _ _ _ here)

pub no_one_part : (o : Fields) → count o ≡ 2 → HasNoPart o 1 (codes "$set") → HasNoPart o 1 (codes "$unset") → (sets unsets : Fields) → fields_from 1 o ≢ part (codes "$set") sets (part (codes "$unset") unsets no_fields)
no_one_part o two no_sets no_unsets no_fields no_fields here = absurd (omega (arith, count-none o 1 here))
no_one_part o two no_sets no_unsets no_fields (field n v rest) here = no_unsets n v rest no_fields here
no_one_part o two no_sets no_unsets (field n v rest) no_fields here = no_sets n v rest _ here
no_one_part o two no_sets no_unsets (field n v rest) (field m w others) here = no_sets n v rest _ here

pub no_first_part : (o : Fields) → count o ≡ 3 → HasNoPart o 1 (codes "$set") → (sets unsets : Fields) → fields_from 1 o ≢ part (codes "$set") sets (part (codes "$unset") unsets no_fields)
no_first_part o three no_sets no_fields no_fields here = absurd (omega (arith, count-none o 1 here))
no_first_part o three no_sets no_fields (field n v rest) here = absurd (omega (arith, count-from o 1 _ _ _ here))
no_first_part o three no_sets (field n v rest) no_fields here = no_sets n v rest _ here
no_first_part o three no_sets (field n v rest) (field m w others) here = no_sets n v rest _ here

pub no_second_part : (o : Fields) → count o ≡ 3 → HasNoPart o 2 (codes "$unset") → (sets unsets : Fields) → fields_from 1 o ≢ part (codes "$set") sets (part (codes "$unset") unsets no_fields)
no_second_part o three no_unsets no_fields no_fields here = absurd (omega (arith, count-none o 1 here))
no_second_part o three no_unsets no_fields (field n v rest) here = absurd (omega (arith, count-from o 1 _ _ _ here))
no_second_part o three no_unsets (field n v rest) no_fields here = absurd (omega (arith, count-from o 1 _ _ _ here))
no_second_part o three no_unsets (field n v rest) (field m w others) here =
    no_unsets m w others no_fields (fields_from-next o 1 _ _ _ here)

-- ---- the last members of an entry
-- no session stands where no number does
abbrev pub HasNoNumber : Fields → ℕ → List ℕ → Type 0
HasNoNumber d place name = (n : ℕ) (rest : Fields) → n < 2 ^ 32 → fields_from place d ≢ field name (int64 (pos n)) rest

pub past_session : (d : Fields) (place : ℕ) → place < count d → count d ≢ place + 2 → (session : Option Session) → IfSome session IsSession → fields_from place d ≢ session_members session
past_session d place more other None within here = absurd (omega (arith, count-none d place here))
past_session d place more other (Some s) within here =
    absurd (other (omega (arith, count-from d place _ _ _ here)))

pub no_id : (d : Fields) (place : ℕ) → place < count d → HasNoNumber d place (codes "lsid") → (session : Option Session) → IfSome session IsSession → fields_from place d ≢ session_members session
no_id d place more none None within here = absurd (omega (arith, count-none d place here))
no_id d place more none (Some s) within here = none s.id _ within.id here

pub no_number : (d : Fields) (place : ℕ) → place < count d → HasNoNumber d (place + 1) (codes "txnNumber") → (session : Option Session) → IfSome session IsSession → fields_from place d ≢ session_members session
no_number d place more none None within here = absurd (omega (arith, count-none d place here))
no_number d place more none (Some s) within here = none s.number no_fields within.number (fields_from-next d place _ _ _ here)

-- nothing is after a target but a session, and where there is no target a session alone
pub after_target : (d target : Fields) → fields_from 6 d ≡ field (codes "o2") (document target) (fields_from 7 d)
    → ((session : Option Session) → IfSome session IsSession → fields_from 7 d ≢ session_members session)
    → (other : Option Fields) (session : Option Session) → IfSome session IsSession → fields_from 6 d ≢ last_members other session
after_target d target here none None session within is = no_session target session (fields_from 7 d) (sym here ∙ is)
after_target d target here none (Some other) session within is = none session within (fields_from-next d 6 _ _ _ is)

pub without_target : (d : Fields) → ((fields rest : Fields) → fields_from 6 d ≢ field (codes "o2") (document fields) rest)
    → ((session : Option Session) → IfSome session IsSession → fields_from 6 d ≢ session_members session)
    → (other : Option Fields) (session : Option Session) → IfSome session IsSession → fields_from 6 d ≢ last_members other session
without_target d no_o2 none None session within is = none session within is
without_target d no_o2 none (Some other) session within is = no_o2 other (session_members session) is

-- ---- the message of a no-op or a note
same_letters : (n m a b : List ℕ) (r s : Fields) → field n (text a) r ≡ field m (text b) s → a ≡ b
same_letters n m a b r s same = cc

pub is_message : (d : Fields) (letters wanted : List ℕ) (same : Bool) → count d ≡ 1 → fields_from 0 d ≡ field (codes "msg") (text letters) (fields_from 1 d) → same ≡ bytes_eq letters wanted → IsTrue same → d ≡ only_message wanted
is_message d letters wanted same one here is holds =
    sym (fields_from-zero d)
    ∙ here
    ∙ ap (λ rest. field (codes "msg") (text letters) rest) (fields_from-end d 1 (omega arith))
    ∙ ap (λ l. field (codes "msg") (text l) no_fields) (same_name letters wanted (sym is ∙ holds))

pub message_is : (d : Fields) (letters wanted : List ℕ) (same : Bool) → fields_from 0 d ≡ field (codes "msg") (text letters) (fields_from 1 d) → same ≡ bytes_eq letters wanted → d ≡ only_message wanted → IsTrue same
message_is d letters wanted same here is whole =
    let own : letters ≡ wanted =
    same_letters (codes "msg") (codes "msg") letters wanted (fields_from 1 d) no_fields (sym here ∙ fields_from-zero d ∙ whole) in
    is ∙ ap (λ l. bytes_eq l wanted) own ∙ same_itself wanted
