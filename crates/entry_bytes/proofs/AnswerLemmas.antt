-- What the readers of ops and entries return.
use Rattle.std.proofs.Common.{◌≡◌, ℕ, List, Some, Result, Ok, Err, IsErrAnd, Option, codes, refl, sym, ap, subst, ◌∙◌}
use Rattle.std.specs.Prelude.{IfSome, IsSome}
use Rattle.rs_optime.specs.declared.optime.OpTime.{OpTime}
use Rattle.bson_doc.specs.Tree.{Fields, Trees}
use Rattle.bson_doc.specs.View.{tree_of}
use Rattle.bson_doc.specs.declared.doc.Value.{Value}
use Rattle.bson_codec.specs.Outcome.{Gives}
use Rattle.bson_codec.specs.declared.error.DecodeError.{DecodeError}
use Rattle.bson_codec.specs.declared.error.DecodeError.TheVariants as rules
use Rattle.oplog_entry.specs.Lawful.{IsLawful, IsLawfulOp}
use Rattle.oplog_entry.specs.Step.{place_of}
use Rattle.oplog_entry.specs.declared.entry.Session.{Session}
use Rattle.oplog_entry.specs.declared.entry.Op.{Op}
use Rattle.oplog_entry.specs.declared.entry.Op.TheVariants.{Fields as SetFields}
use Rattle.oplog_entry.specs.declared.entry.Entry.{Entry}
use Rattle.entry_bytes.specs.declared.error.EntryError.{EntryError}
use Rattle.entry_bytes.specs.declared.error.EntryError.TheVariants.{Codec, Shape, Memory}
use Rattle.entry_bytes.specs.Answer.{Answers, IsReadAs, error_of_decode}
use Rattle.entry_bytes.specs.Layout.{only_id, marks, changes, members, document_of}
use Rattle.entry_bytes.specs.Parts.{AreMembersOf, ReadsFields, ReadsChange}
use Rattle.entry_bytes.proofs.LayoutLemmas.{same_sets, same_unsets, entries_apart, members_apart, same_op, session_apart}

-- the members of a change
members_change : (op : Op) (ns : List ℕ) (id : Value) (sets : Fields) (unsets : Trees) → op ≡ SetFields ns id sets unsets → AreMembersOf op (codes "u") ns (changes sets (marks unsets)) (Some (only_id (tree_of id)))
members_change op ns id sets unsets is =
    subst (λ op. AreMembersOf op (codes "u") ns (changes sets (marks unsets)) (Some (only_id (tree_of id)))) (sym is) record { letter_is = refl; collection_is = refl; body_is = refl; target_is = refl }

-- what is read as fields and marks is read as a change
pub change_reads : (ns : List ℕ) (id : Value) (o sets wanted : Fields) (r : Result Op EntryError) → o ≡ changes sets wanted → ReadsFields ns id sets wanted r → ReadsChange ns id o r
change_reads ns id o sets wanted (Ok op) body read = (
  read.3,
  subst (λ o. AreMembersOf op (codes "u") ns o (Some (only_id (tree_of id)))) (ap (changes sets) read.2 ∙ sym body) (members_change op ns id sets read.0 read.1),
)
change_reads ns id o sets wanted (Err Shape) body read = λ s u is law.
    let same : changes s (marks u) ≡ changes sets wanted = sym is ∙ body in
    read u (same_unsets s (marks u) sets wanted same) (subst (λ s. IsLawfulOp (SetFields ns id s u)) (same_sets s (marks u) sets wanted same) law)
change_reads ns id o sets wanted (Err Memory) body read = tt
change_reads ns id o sets wanted (Err (Codec rule)) body read = read

only_ok : (x y : Fields) (r : Result Fields DecodeError) → r ≡ Ok x → r ≡ Ok y → x ≡ y
only_ok x y r one two = cc

-- the entry of a document is read again
pub read_again : (e : Entry) (d : Fields) (r : Result Entry EntryError) → IsLawful e → Gives (λ (x : Fields). x) (Ok d) (Ok (document_of e)) → Answers (Ok d) r → IsReadAs e r
read_again e d (Ok x) law same read =
    entries_apart x e read.0 law (only_ok (document_of x) (document_of e) (Ok d) read.1 (sym same))
read_again e d (Err Memory) law same read = tt
read_again e d (Err Shape) law same read =
    read.2 e law (only_ok (document_of e) read.0 (Ok d) (sym same) read.1)
read_again e d (Err (Codec rule)) law same read = cc

-- and its bytes are not refused
pub not_refused : (rule : DecodeError) (e : Entry) → Gives {X = Fields} (λ x. x) (Err rule) (Ok (document_of e)) → IsReadAs e (Err (error_of_decode rule))
not_refused rules.Memory e same = tt
not_refused rules.Short e same = cc
not_refused rules.Length e same = cc
not_refused (rules.Kind byte) e same = cc
not_refused rules.Utf8 e same = cc
not_refused rules.Bool e same = cc
not_refused rules.ArrayName e same = cc
not_refused rules.DuplicateName e same = cc
not_refused rules.TooDeep e same = cc
not_refused rules.TooLarge e same = cc
not_refused rules.Trailing e same = cc

-- what holds of an error holds of the answer that is that error
pub answered : (e : Entry) (error : EntryError) (r : Result Entry EntryError) → IsErrAnd r (λ x. x ≡ error) → IsReadAs e (Err error) → IsReadAs e r
answered e error (Ok x) is holds = absurd is
answered e error (Err x) is holds = subst (λ x. IsReadAs e (Err x)) (sym is) holds

-- two lawful ops that have the same members are one
same_members : (a b : Op) (letter ns : List ℕ) (o : Fields) (target : Option Fields) → IsLawfulOp a → IsLawfulOp b → AreMembersOf a letter ns o target → AreMembersOf b letter ns o target → a ≡ b
same_members a b letter ns o target la lb ma mb = same_op a b la lb (record {
  letter_is = ma.letter_is ∙ sym mb.letter_is;
  collection_is = ma.collection_is ∙ sym mb.collection_is;
  body_is = ma.body_is ∙ sym mb.body_is;
  target_is = ma.target_is ∙ sym mb.target_is;
})

-- where a lawful entry has these members, its op may be a write of its session
pub has_been_written : (entry : Entry) (op : Op) (optime : OpTime) (letter ns : List ℕ) (o : Fields) (target : Option Fields) (session : Option Session) → IsLawful entry → IsLawfulOp op
    → AreMembersOf op letter ns o target → document_of entry ≡ members optime letter ns o target session → IfSome session (λ _. IsSome (place_of op))
has_been_written entry op optime letter ns o target session law lawful own same =
    let op_is : entry.op ≡ op = same_members entry.op op letter ns o target law.op lawful (members_apart entry optime letter ns o target session same) own in
    let session_is : entry.session ≡ session = session_apart entry optime letter ns o target session same in
    subst (λ (x : Op). IfSome session (λ _. IsSome (place_of x))) op_is
    (subst (λ (s : Option Session). IfSome s (λ _. IsSome (place_of entry.op))) session_is law.write)
