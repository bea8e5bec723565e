-- Entries with the same bytes, and entries that begin with others.
use Rattle.std.proofs.Common.{◌≡◌, ◌∙◌, ◌<◌, ◌≤◌, ℕ, suc, Bool, true, List, [], ◌∷◌, length, Option, Some, IfSome, ap, sym, subst, refl, arith, length-append}
use Rattle.std.specs.Prelude.{◌↔◌, Vec, slice_index_or}
use Rattle.std.specs.Str.{bytes_eq}
use Rattle.std.specs.declared.alloc.Global.{Global}
use Rattle.std.proofs.lemmas.Slice.Eq.{bytes_eq-Decides}
use Rattle.bson_codec.specs.Sound.{IsSound}
use Rattle.bson_codec.specs.Spelling.{IsSpelling}
use Rattle.bson_codec.proofs.AgainLemmas.{one_document}
use Rattle.entry_bytes.specs.Layout.{document_of}
use Rattle.entry_bytes.proofs.LayoutLemmas.{entries_apart}
use Rattle.oplog_entry.specs.Lawful.{IsLawful}
use Rattle.oplog_entry.specs.Log.{Begins}
use Rattle.oplog_entry.specs.declared.entry.Entry.{Entry}

-- ---- bytes

module _ (one : Entry) (found : Option (Vec ℕ Global)) (bytes : Vec ℕ Global) (is : found ≡ Some bytes) where
  pub sound_so : IfSome found (λ b. IsSound (document_of one)) → IsSound (document_of one)
  sound_so sound = subst (λ (o : Option (Vec ℕ Global)). IfSome o (λ b. IsSound (document_of one))) is sound

  pub spelled_so : IfSome found (λ b. IsSpelling 1048576 103 (document_of one) b.items) → IsSpelling 1048576 103 (document_of one) bytes.items
  spelled_so spelled = subst (λ (o : Option (Vec ℕ Global)). IfSome o (λ b. IsSpelling 1048576 103 (document_of one) b.items)) is spelled

pub same_bytes : (one other : Entry) (wanted bytes : List ℕ) (test : Bool) → IsLawful one → IsLawful other → IsSound (document_of one) → IsSound (document_of other)
    → IsSpelling 1048576 103 (document_of one) wanted → IsSpelling 1048576 103 (document_of other) bytes → test ≡ bytes_eq bytes wanted
    → test ≡ true ↔ other ≡ one
same_bytes one other wanted bytes test lawful lawful' sound sound' spelled spelled' is = (
  λ same.
      let equal : bytes ≡ wanted = (bytes_eq-Decides bytes wanted).0 (sym is ∙ same) in
      entries_apart other one lawful' lawful
      (one_document 1048576 103 wanted (document_of other) (document_of one) (omega arith) sound' sound (subst (λ (l : List ℕ). IsSpelling 1048576 103 (document_of other) l) equal spelled') spelled),
  λ same. is ∙ (bytes_eq-Decides bytes wanted).1 (spelled'.spelled ∙ ap (λ (e : Entry). Rattle.bson_codec.specs.Spelling.document_bytes (document_of e)) same ∙ sym spelled.spelled),
)

-- ---- entries

-- the first of them, so many, are the same
abbrev pub Agree : List Entry → List Entry → ℕ → Type 0
Agree front entries count = (k : ℕ) (d : Entry) → k < count → slice_index_or front k d ≡ slice_index_or entries k d

pub begins_so : (front entries : List Entry) → length front ≤ length entries → Agree front entries (length front) → Begins front entries
begins_so [] entries long agree = (entries, refl)
begins_so (x ∷ front) [] long agree = absurd (omega (arith, long))
begins_so (x ∷ front) (y ∷ entries) long agree =
    let first : x ≡ y = agree 0 x (omega arith) in
    let rest : Begins front entries = begins_so front entries (omega (arith, long)) (λ k d within. agree (suc k) d (omega (arith, within))) in
    (rest.0, λ i. sym first i ∷ rest.1 i)

pub begins_short : (front entries : List Entry) → Begins front entries → length front ≤ length entries
begins_short front entries (rest, is) = omega (arith, ap length is, length-append front rest)
