-- The length and the levels of an entry without a target, and that its spelling is read back.
use Rattle.std.proofs.Common.{ℕ, pos, ◌≡◌, ◌+◌, ◌<◌, ◌≤◌, ◌^◌, true, List, [], ◌∷◌, ◌++◌, Option, None, Some, Ok, codes, length, arith, ap, refl, sym, ◌∙◌, subst, append_assoc, length-append}
use Rattle.std.specs.Prelude.{IfSome}
use Rattle.std.specs.Str.{is_utf8}
use Rattle.rs_optime.specs.declared.optime.OpTime.{OpTime}
use Rattle.bson_doc.specs.Tree.{Fields, no_fields, int32, int64, text, timestamp}
use Rattle.bson_doc.specs.Length.{document_levels, fields_length}
use Rattle.bson_doc.specs.Sound.{AreSoundFields, IsSound}
use Rattle.bson_codec.specs.Numbers.{number_bytes}
use Rattle.bson_codec.specs.Spelling.{IsSpelling, document_bytes, element, fields_bytes, value_bytes}
use Rattle.bson_codec.specs.Wholes.{read_document}
use Rattle.bson_codec.proofs.AgainLemmas.{document_again, one_document}
use Rattle.bson_codec.proofs.SpellingLemmas.{length-fields_bytes, length-number_bytes}
use Rattle.oplog_entry.specs.declared.entry.Op.{Op}
use Rattle.oplog_entry.specs.declared.entry.Entry.{Entry}
use Rattle.oplog_entry.specs.declared.entry.Session.{Session}
use Rattle.oplog_entry.specs.Lawful.{IsLawful, IsSession}
use Rattle.entry_bytes.specs.Answer.{Answers}
use Rattle.entry_bytes.specs.Layout.{letter_of, collection_of, body_of, target_of, session_members, members, document_of}
use Rattle.entry_bytes.specs.Parts.{AreMembersOf, stamped}
use Rattle.entry_bytes.proofs.AppendingLemmas.{sound_document, sound_front, sound_session}
use Rattle.entry_bytes.proofs.LayoutLemmas.{entries_apart}

members_levels : (optime : OpTime) (letter ns : List ℕ) (o : Fields) (session : Option Session) → document_levels o ≤ 102 → document_levels (members optime letter ns o None session) ≤ 103
members_levels optime letter ns o None fits = omega arith
members_levels optime letter ns o (Some s) fits = omega arith

-- ---- the bytes in front of a part and after it

pub stamp_laid : (version : ℕ) (optime : OpTime) (bytes a b c d e f : List ℕ) → bytes ≡ 17 ∷ 116 ∷ 115 ∷ 0 ∷ a → a ≡ number_bytes 8 optime.ts ++ b → b ≡ 18 ∷ 116 ∷ 0 ∷ c
    → c ≡ number_bytes 8 optime.term ++ d → d ≡ 16 ∷ 118 ∷ 0 ∷ e → e ≡ number_bytes 4 version ++ f → version ≡ 2 → bytes ≡ fields_bytes (stamped optime no_fields) ++ f
stamp_laid version optime bytes a b c d e f one two three four five six is_2 =
    one ∙ ap (λ (l : List ℕ). 17 ∷ 116 ∷ 115 ∷ 0 ∷ l) (two ∙ ap (λ (l : List ℕ). number_bytes 8 optime.ts ++ l) (three
    ∙ ap (λ (l : List ℕ). 18 ∷ 116 ∷ 0 ∷ l) (four ∙ ap (λ (l : List ℕ). number_bytes 8 optime.term ++ l) (five ∙ ap (λ (l : List ℕ). 16 ∷ 118 ∷ 0 ∷ l) (six ∙ ap (λ (n : ℕ). number_bytes 4 n ++ f) is_2)))))
    ∙ in_turn (element 17 (codes "ts") (number_bytes 8 optime.ts)) (element 18 (codes "t") (number_bytes 8 optime.term)) (element 16 (codes "v") (number_bytes 4 2)) f
  where
    in_turn : (x y z l : List ℕ) → x ++ (y ++ (z ++ l)) ≡ (x ++ (y ++ (z ++ []))) ++ l
    in_turn x y z l = simp append_assoc

pub numbers_laid : (id number : ℕ) (bytes a b c : List ℕ) → bytes ≡ 18 ∷ 108 ∷ 115 ∷ 105 ∷ 100 ∷ 0 ∷ a → a ≡ number_bytes 8 id ++ b
    → b ≡ 18 ∷ 116 ∷ 120 ∷ 110 ∷ 78 ∷ 117 ∷ 109 ∷ 98 ∷ 101 ∷ 114 ∷ 0 ∷ c → c ≡ number_bytes 8 number ++ 0 ∷ []
    → bytes ≡ fields_bytes (session_members (Some (record { id = id; number = number }))) ++ 0 ∷ []
numbers_laid id number bytes a b c one two three four =
    one ∙ ap (λ (l : List ℕ). 18 ∷ 108 ∷ 115 ∷ 105 ∷ 100 ∷ 0 ∷ l) (two ∙ ap (λ (l : List ℕ). number_bytes 8 id ++ l) (three
    ∙ ap (λ (l : List ℕ). 18 ∷ 116 ∷ 120 ∷ 110 ∷ 78 ∷ 117 ∷ 109 ∷ 98 ∷ 101 ∷ 114 ∷ 0 ∷ l) four))
    ∙ in_turn (element 18 (codes "lsid") (number_bytes 8 id)) (element 18 (codes "txnNumber") (number_bytes 8 number)) (0 ∷ [])
  where
    in_turn : (x y l : List ℕ) → x ++ (y ++ l) ≡ (x ++ (y ++ [])) ++ l
    in_turn x y l = simp append_assoc

-- the members of an entry without a target, and the zero after them
abbrev pub in_front : (optime : OpTime) (letter ns o : List ℕ) (session : Option Session) → List ℕ
in_front optime letter ns o session =
    fields_bytes (stamped optime no_fields) ++ (element 2 (codes "op") (value_bytes (text letter))
    ++ (element 2 (codes "ns") (value_bytes (text ns)) ++ (element 3 (codes "o") o ++ (fields_bytes (session_members session) ++ 0 ∷ []))))

all_members : (optime : OpTime) (letter ns : List ℕ) (o : Fields) (session : Option Session)
    → fields_bytes (members optime letter ns o None session) ++ 0 ∷ [] ≡ in_front optime letter ns (document_bytes o) session
all_members optime letter ns o session =
    in_turn (element 17 (codes "ts") (value_bytes (timestamp optime.ts))) (element 18 (codes "t") (value_bytes (int64 (pos optime.term)))) (element 16 (codes "v") (value_bytes (int32 (pos 2))))
    (element 2 (codes "op") (value_bytes (text letter))) (element 2 (codes "ns") (value_bytes (text ns))) (element 3 (codes "o") (document_bytes o)) (fields_bytes (session_members session)) (0 ∷ [])
  where
    in_turn : (a b c d e f s z : List ℕ) → (a ++ (b ++ (c ++ (d ++ (e ++ (f ++ s)))))) ++ z ≡ (a ++ (b ++ (c ++ []))) ++ (d ++ (e ++ (f ++ (s ++ z))))
    in_turn a b c d e f s z = simp append_assoc

-- after their whole length the members are the document
whole_spelled : (d : Fields) (bytes : List ℕ) → bytes ≡ number_bytes 4 (length bytes) ++ (fields_bytes d ++ 0 ∷ []) → bytes ≡ document_bytes d
whole_spelled d bytes laid =
    let counted : length bytes ≡ 5 + fields_length d =
    omega (arith, ap length laid, length-append (number_bytes 4 (length bytes)) (fields_bytes d ++ 0 ∷ []), length-number_bytes 4 (length bytes), length-append (fields_bytes d) (0 ∷ []), length-fields_bytes d) in
    laid ∙ ap (λ (n : ℕ). number_bytes 4 n ++ (fields_bytes d ++ 0 ∷ [])) counted ∙ sym (append_assoc (number_bytes 4 (5 + fields_length d)) (fields_bytes d) (0 ∷ []))

made_of : (optime : OpTime) (op : Op) (session : Option Session) (letter ns : List ℕ) → AreMembersOf op letter ns (body_of op) None
    → members optime letter ns (body_of op) None session ≡ members optime (letter_of op) (collection_of op) (body_of op) (target_of op) session
made_of optime op session letter ns own = rw (own.letter_is, own.collection_is, own.target_is) refl

sound_after : (session : Option Session) → IfSome session IsSession → AreSoundFields (session_members session)
sound_after None within = tt
sound_after (Some session) within = sound_session session within

-- the entry of the parts that stand there is spelled so
pub made_spelled : (e : Entry) (optime : OpTime) (letter ns o bytes : List ℕ) (session : Option Session) → e.optime ≡ optime → e.session ≡ session → IsLawful e
    → optime.term < 2 ^ 63 → optime.ts < 2 ^ 64 → AreMembersOf e.op letter ns (body_of e.op) None
    → is_utf8 letter ≡ true → is_utf8 ns ≡ true → IsSound (body_of e.op) → IsSpelling 1048576 102 (body_of e.op) o → length bytes ≤ 1048576
    → bytes ≡ number_bytes 4 (length bytes) ++ in_front optime letter ns o session
    → IsSound (document_of e) × IsSpelling 1048576 103 (document_of e) bytes
made_spelled e optime letter ns o bytes session same write law term ts own utf8 text8 sound spelling short laid = (
  sound_document e (sound_front e.optime e.op (subst (λ (t : OpTime). t.ts < 2 ^ 64) (sym same) ts) (subst (λ (t : OpTime). t.term < 2 ^ 63) (sym same) term) (ap is_utf8 own.letter_is ∙ utf8) (ap is_utf8 own.collection_is ∙ text8)) sound
      (rw own.target_is tt) (sound_after e.session law.session),
  record {
    spelled = whole_spelled (document_of e) bytes
        (laid ∙ ap (λ (l : List ℕ). number_bytes 4 (length bytes) ++ l)
        (ap (λ (l : List ℕ). in_front optime letter ns l session) spelling.spelled ∙ sym (all_members optime letter ns (body_of e.op) session) ∙ ap (λ (d : Fields). fields_bytes d ++ 0 ∷ []) made));
    in_bytes = short;
    in_levels = subst (λ (d : Fields). document_levels d ≤ 103) made (members_levels optime letter ns (body_of e.op) session spelling.in_levels);
  },
)
  where
    made : members optime letter ns (body_of e.op) None session ≡ document_of e
    made = made_of optime e.op session letter ns own ∙ ap (λ (t : OpTime). members t (letter_of e.op) (collection_of e.op) (body_of e.op) (target_of e.op) session) (sym same)
        ∙ ap (λ (s : Option Session). members e.optime (letter_of e.op) (collection_of e.op) (body_of e.op) (target_of e.op) s) (sym write)

-- a lawful entry that the bytes spell is what they are read as, and the only one
pub spelled_answers : (e : Entry) (bytes : List ℕ) → IsLawful e → IsSound (document_of e) → IsSpelling 1048576 103 (document_of e) bytes
    → Answers (read_document 1048576 103 bytes) (Ok e)
spelled_answers e bytes law sound spelling = (law, document_again 1048576 103 bytes (document_of e) (omega arith) sound spelling)

pub spelled_once : (e other : Entry) (bytes : List ℕ) → IsLawful e → IsSound (document_of e) → IsSpelling 1048576 103 (document_of e) bytes
    → IsLawful other → IsSound (document_of other) → IsSpelling 1048576 103 (document_of other) bytes → e ≡ other
spelled_once e other bytes law sound spelling its_law its_sound its_spelling =
    entries_apart e other law its_law (one_document 1048576 103 bytes (document_of e) (document_of other) (omega arith) sound its_sound spelling its_spelling)
