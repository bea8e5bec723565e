-- The bytes of an entry's document, part by part, and that the document is sound where its parts are.
use Rattle.std.proofs.Common.{◌≡◌, ℕ, zero, suc, pos, ◌+◌, ◌<◌, ◌^◌, true, List, [], ◌∷◌, ◌++◌, Option, None, Some, Contains, codes, length, refl, sym, ap, ◌∙◌, append_assoc, append-nil, arith, length-append, rules, subst}
use Rattle.std.specs.Prelude.{FitsSigned}
use Rattle.std.specs.Int.{w32, w64}
use Rattle.std.specs.Str.{IsAscii, is_utf8}
use Rattle.std.proofs.lemmas.Str.{IsUtf8-from_ascii, is_utf8-from_IsUtf8}
use Rattle.rs_optime.specs.declared.optime.OpTime.{OpTime}
use Rattle.bson_doc.specs.Sound.{AreSoundFields, IsSound}
use Rattle.bson_doc.specs.Length.{fields_length}
use Rattle.bson_doc.specs.Tree.{Fields, no_fields, int32, int64, text, timestamp, IsDocument}
use Rattle.bson_codec.specs.Spelling.{document_bytes, element, fields_bytes, value_bytes}
use Rattle.bson_codec.proofs.SpellingLemmas.{length-fields_bytes}
use Rattle.oplog_entry.specs.declared.entry.Op.{Op}
use Rattle.oplog_entry.specs.declared.entry.Entry.{Entry}
use Rattle.oplog_entry.specs.Lawful.{IsSession}
use Rattle.oplog_entry.specs.declared.entry.Session.{Session}
use Rattle.entry_bytes.specs.Layout.{body_of, collection_of, document_of, last_members, letter_of, members, session_members, target_of, targeted}
use Rattle.entry_bytes.specs.Parts.{members_in_front}

more_after_five : (a b c d e rest : List ℕ) → (a ++ (b ++ (c ++ (d ++ (e ++ []))))) ++ rest ≡ a ++ (b ++ (c ++ (d ++ (e ++ rest))))
more_after_five a b c d e rest = simp append_assoc

abbrev pub room : List ℕ
room = 0 ∷ 0 ∷ 0 ∷ 0 ∷ []

targeted_bytes : (target : Option Fields) (rest : Fields) → fields_bytes (targeted target no_fields) ++ fields_bytes rest ≡ fields_bytes (targeted target rest)
targeted_bytes None rest = refl
targeted_bytes (Some target) rest = simp append_assoc

-- after the room for its length the members of an entry
pub entry_laid : (entry : Entry) (old out0 out1 out2 out3 out4 : List ℕ) → out0 ≡ old ++ room → out1 ≡ out0 ++ fields_bytes (members_in_front entry.optime entry.op)
    → out2 ≡ out1 ++ element 3 (codes "o") (document_bytes (body_of entry.op)) → out3 ≡ out2 ++ fields_bytes (targeted (target_of entry.op) no_fields)
    → out4 ≡ out3 ++ fields_bytes (session_members entry.session)
    → out4 ≡ (old ++ room) ++ fields_bytes (document_of entry)
entry_laid entry old out0 out1 out2 out3 out4 made head body target session =
    let front = fields_bytes (members_in_front entry.optime entry.op) in
    let o = element 3 (codes "o") (document_bytes (body_of entry.op)) in
    let o2 = fields_bytes (targeted (target_of entry.op) no_fields) in
    let lsid = fields_bytes (session_members entry.session) in
    let last = fields_bytes (last_members (target_of entry.op) entry.session) in
    let after : out4 ≡ out2 ++ last =
    session ∙ ap (λ (l : List ℕ). l ++ lsid) target ∙ append_assoc out2 o2 lsid ∙ ap (λ (l : List ℕ). out2 ++ l) (targeted_bytes (target_of entry.op) (session_members entry.session)) in
    after ∙ ap (λ (l : List ℕ). l ++ last) (body ∙ ap (λ (l : List ℕ). l ++ o) (head ∙ ap (λ (l : List ℕ). l ++ front) made))
    ∙ ap (λ (l : List ℕ). l ++ last) (append_assoc (old ++ room) front o) ∙ append_assoc (old ++ room) (front ++ o) last
    ∙ ap (λ (l : List ℕ). (old ++ room) ++ l) (append_assoc front o last ∙ whole)
  where
    whole : fields_bytes (members_in_front entry.optime entry.op) ++ (element 3 (codes "o") (document_bytes (body_of entry.op)) ++ fields_bytes (last_members (target_of entry.op) entry.session))
        ≡ fields_bytes (document_of entry)
    whole =
        more_after_five (element 17 (codes "ts") (value_bytes (timestamp entry.optime.ts))) (element 18 (codes "t") (value_bytes (int64 (pos entry.optime.term))))
        (element 16 (codes "v") (value_bytes (int32 (pos 2)))) (element 2 (codes "op") (value_bytes (text (letter_of entry.op)))) (element 2 (codes "ns") (value_bytes (text (collection_of entry.op))))
        (element 3 (codes "o") (document_bytes (body_of entry.op)) ++ fields_bytes (last_members (target_of entry.op) entry.session))

pub entry_counts : (entry : Entry) (old out : List ℕ) → out ≡ (old ++ room) ++ fields_bytes (document_of entry) → length out ≡ (length old + 4) + fields_length (document_of entry)
entry_counts entry old out whole =
    omega (arith, ap length whole, length-append (old ++ room) (fields_bytes (document_of entry)), length-append old room, length-fields_bytes (document_of entry))

-- ---- sound

-- letters of ASCII
plain : (a b : ℕ) → a < 128 → b < 128 → (is_utf8 (a ∷ []) ≡ true) × (is_utf8 (a ∷ b ∷ []) ≡ true)
plain a b first second = (is_utf8-from_IsUtf8 (a ∷ []) (IsUtf8-from_ascii (a ∷ []) one), is_utf8-from_IsUtf8 (a ∷ b ∷ []) (IsUtf8-from_ascii (a ∷ b ∷ []) two))
  where
    one : IsAscii (a ∷ [])
    one zero = first
    one (suc i) = omega arith

    two : IsAscii (a ∷ b ∷ [])
    two zero = first
    two (suc zero) = second
    two (suc (suc i)) = omega arith

pub sound_front : (optime : OpTime) (op : Op) → optime.ts < 2 ^ 64 → optime.term < 2 ^ 63 → is_utf8 (letter_of op) ≡ true → is_utf8 (collection_of op) ≡ true
    → AreSoundFields (members_in_front optime op)
sound_front optime op ts term letter collection =
    let fits : FitsSigned w64 (pos optime.term) = search rules in
    let version : FitsSigned w32 (pos 2) = search rules in (
      (plain 116 115 (omega arith) (omega arith)).1,
      ts,
      (
        (plain 116 0 (omega arith) (omega arith)).0,
        fits,
        (
          (plain 118 0 (omega arith) (omega arith)).0,
          version,
          ((plain 111 112 (omega arith) (omega arith)).1, letter, ((plain 110 115 (omega arith) (omega arith)).1, collection, tt)),
        ),
      ),
    )

pub sound_target : (target : Option Fields) (d : Fields) → target ≡ Some d → IsSound d → AreSoundFields (targeted target no_fields)
sound_target target d is sound = subst (λ (t : Option Fields). AreSoundFields (targeted t no_fields)) (sym is) ((plain 111 50 (omega arith) (omega arith)).1, sound, tt)

pub sound_session : (session : Session) → IsSession session → AreSoundFields (session_members (Some session))
sound_session session within =
    let id : FitsSigned w64 (pos session.id) = search (rules, within.id) in
    let number : FitsSigned w64 (pos session.number) = search (rules, within.number) in
    (is_utf8-from_IsUtf8 (codes "lsid") (IsUtf8-from_ascii (codes "lsid") lsid_ascii), id, (is_utf8-from_IsUtf8 (codes "txnNumber") (IsUtf8-from_ascii (codes "txnNumber") txnNumber_ascii), number, tt))
  where
    lsid_ascii : IsAscii (codes "lsid")
    lsid_ascii zero = omega arith
    lsid_ascii (suc zero) = omega arith
    lsid_ascii (suc (suc zero)) = omega arith
    lsid_ascii (suc (suc (suc zero))) = omega arith
    lsid_ascii (suc (suc (suc (suc i)))) = omega arith

    txnNumber_ascii : IsAscii (codes "txnNumber")
    txnNumber_ascii zero = omega arith
    txnNumber_ascii (suc zero) = omega arith
    txnNumber_ascii (suc (suc zero)) = omega arith
    txnNumber_ascii (suc (suc (suc zero))) = omega arith
    txnNumber_ascii (suc (suc (suc (suc zero)))) = omega arith
    txnNumber_ascii (suc (suc (suc (suc (suc zero))))) = omega arith
    txnNumber_ascii (suc (suc (suc (suc (suc (suc zero)))))) = omega arith
    txnNumber_ascii (suc (suc (suc (suc (suc (suc (suc zero))))))) = omega arith
    txnNumber_ascii (suc (suc (suc (suc (suc (suc (suc (suc zero)))))))) = omega arith
    txnNumber_ascii (suc (suc (suc (suc (suc (suc (suc (suc (suc i))))))))) = omega arith

two_after : (old a b : List ℕ) → (old ++ a) ++ b ≡ old ++ (a ++ (b ++ []))
two_after old a b = append_assoc old a b ∙ ap (λ (l : List ℕ). old ++ (a ++ l)) (sym (append-nil b))

pub session_laid : (session : Session) (old out0 out1 : List ℕ) → out0 ≡ old ++ element 18 (codes "lsid") (value_bytes (int64 (pos session.id)))
    → out1 ≡ out0 ++ element 18 (codes "txnNumber") (value_bytes (int64 (pos session.number))) → out1 ≡ old ++ fields_bytes (session_members (Some session))
session_laid session old out0 out1 id number =
    let a = element 18 (codes "lsid") (value_bytes (int64 (pos session.id))) in
    let b = element 18 (codes "txnNumber") (value_bytes (int64 (pos session.number))) in
    number ∙ ap (λ (l : List ℕ). l ++ b) id ∙ two_after old a b

sound_last : (target : Option Fields) (rest : Fields) → AreSoundFields (targeted target no_fields) → AreSoundFields rest → AreSoundFields (targeted target rest)
sound_last None rest before after = after
sound_last (Some target) rest before after = (before.0, before.1, after)

lsid_clean : ¬ Contains (codes "lsid") 0
lsid_clean = search rules

number_clean : ¬ Contains (codes "txnNumber") 0
number_clean = search rules

o2_clean : ¬ Contains (codes "o2") 0
o2_clean = search rules

apart_names : (optime : OpTime) (letter collection : List ℕ) (body : Fields) (target : Option Fields) (session : Option Session) → IsDocument (members optime letter collection body target session)
apart_names optime letter collection body target session =
    let ts : ¬ Contains (codes "ts") 0 = search rules in
    let t : ¬ Contains (codes "t") 0 = search rules in
    let v : ¬ Contains (codes "v") 0 = search rules in
    let op : ¬ Contains (codes "op") 0 = search rules in
    let ns : ¬ Contains (codes "ns") 0 = search rules in
    let o : ¬ Contains (codes "o") 0 = search rules in
    by_last ts t v op ns o target session
  where
    by_last : ¬ Contains (codes "ts") 0 → ¬ Contains (codes "t") 0 → ¬ Contains (codes "v") 0 → ¬ Contains (codes "op") 0 → ¬ Contains (codes "ns") 0 → ¬ Contains (codes "o") 0
        → (target : Option Fields) (session : Option Session) → IsDocument (members optime letter collection body target session)
    by_last ts t v op ns o None None = (ts, refl, (t, refl, (v, refl, (op, refl, (ns, refl, (o, refl, tt))))))
    by_last ts t v op ns o (Some d) None = (ts, refl, (t, refl, (v, refl, (op, refl, (ns, refl, (o, refl, (o2_clean, refl, tt)))))))
    by_last ts t v op ns o None (Some s) = (ts, refl, (t, refl, (v, refl, (op, refl, (ns, refl, (o, refl, (lsid_clean, refl, (number_clean, refl, tt))))))))
    by_last ts t v op ns o (Some d) (Some s) = (ts, refl, (t, refl, (v, refl, (op, refl, (ns, refl, (o, refl, (o2_clean, refl, (lsid_clean, refl, (number_clean, refl, tt)))))))))

pub sound_document : (entry : Entry) → AreSoundFields (members_in_front entry.optime entry.op) → IsSound (body_of entry.op) → AreSoundFields (targeted (target_of entry.op) no_fields)
    → AreSoundFields (session_members entry.session) → IsSound (document_of entry)
sound_document entry f body target session = (
  apart_names entry.optime (letter_of entry.op) (collection_of entry.op) (body_of entry.op) (target_of entry.op) entry.session,
  (f.0, f.1, (f.2.0, f.2.1, (f.2.2.0, f.2.2.1, (f.2.2.2.0, f.2.2.2.1, (f.2.2.2.2.0, f.2.2.2.2.1, ((plain 111 0 (omega arith) (omega arith)).0, body, sound_last (target_of entry.op) (session_members entry.session) target session)))))),
)
