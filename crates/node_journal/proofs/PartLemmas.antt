-- The parts of what some bytes begin with.
use Rattle.std.proofs.Common.{◌≡◌, ℕ, ◌<◌, ◌^◌, List, ◌∷◌, ◌++◌, length, Option, None, Some, refl, sym, ap, subst, ◌∙◌, arith, append_assoc}
use Rattle.std.specs.Prelude.{◌≢◌, Err, unwrap_or}
use Rattle.bson_codec.specs.Numbers.{number_bytes}
use Rattle.bson_codec.specs.Spelling.{IsSpelling}
use Rattle.bson_codec.specs.declared.error.DecodeError.{DecodeError}
use Rattle.oplog_entry.specs.declared.entry.Entry.{Entry}
use Rattle.entry_bytes.specs.Answer.{IsReadAs}
use Rattle.entry_bytes.specs.Layout.{document_of}
use Rattle.entry_bytes.specs.declared.error.EntryError.{EntryError}
use Rattle.entry_bytes.specs.declared.error.EntryError.TheVariants.{Codec, Shape}
use Rattle.member_config.specs.declared.config.Member.{Member}
use Rattle.node_journal.specs.Layout.{NOBODY, member_bytes, truth_byte, entry_bytes, sized_entry}
use Rattle.node_journal.specs.Spelled.{IsEntry}

pub member_parts : (m : Member) (after bytes : List ℕ) → bytes ≡ member_bytes m ++ after
    → bytes ≡ number_bytes 4 m.number ++ (truth_byte m.votes ∷ (number_bytes 4 m.priority ++ after))
member_parts m after bytes is = is ∙ append_assoc (number_bytes 4 m.number) (truth_byte m.votes ∷ number_bytes 4 m.priority) after

pub entry_parts : (e : Entry) (after bytes : List ℕ) → bytes ≡ sized_entry e ++ after
    → bytes ≡ number_bytes 4 (length (entry_bytes e)) ++ (entry_bytes e ++ after)
entry_parts e after bytes is = is ∙ append_assoc (number_bytes 4 (length (entry_bytes e))) (entry_bytes e) after

pub entry_short : (e : Entry) → IsEntry e → length (entry_bytes e) < 256 ^ 4
entry_short e is = omega (arith, is.spelling.in_bytes)

pub spelled_here : (e : Entry) (piece : List ℕ) → IsEntry e → piece ≡ entry_bytes e → IsSpelling 1048576 103 (document_of e) piece
spelled_here e piece is same = subst (λ (l : List ℕ). IsSpelling 1048576 103 (document_of e) l) (sym same) is.spelling

-- a candidate by its number
pub no_candidate : (candidate : Option ℕ) → candidate ≢ Some NOBODY → NOBODY ≡ unwrap_or candidate NOBODY → None ≡ candidate
no_candidate None other is = refl
no_candidate (Some number) other is = absurd (other (ap (λ (n : ℕ). Some n) (sym is)))

pub a_candidate : (candidate : Option ℕ) (number : ℕ) → number ≢ NOBODY → number ≡ unwrap_or candidate NOBODY → Some number ≡ candidate
a_candidate None number other is = absurd (other is)
a_candidate (Some other) number not_nobody is = ap (λ (n : ℕ). Some n) is

-- an entry's bytes are not refused
pub no_fault : (e : Entry) (error : EntryError) (rule : DecodeError) → IsReadAs e (Err error) → error ≡ Codec rule → ⊥
no_fault e error rule read is = subst (λ (x : EntryError). IsReadAs e (Err x)) is read

pub no_other_shape : (e : Entry) (error : EntryError) → IsReadAs e (Err error) → error ≡ Shape → ⊥
no_other_shape e error read is = subst (λ (x : EntryError). IsReadAs e (Err x)) is read
