-- Why writes are refused, and the results of calls that may run out of memory.
use Rattle.std.specs.Prelude.{◌≡◌, ℕ, Option, None, Some, IfSome, Result, Ok, Err}
use Rattle.bson_doc.specs.declared.key.KeyError.{KeyError}
use Rattle.bson_doc.specs.declared.key.KeyError.TheVariants.{Kind, Memory as NoMemory}
use Rattle.doc_update.specs.declared.write.WriteRefusal.{WriteRefusal}
use Rattle.doc_update.specs.declared.write.WriteRefusal.TheVariants as code

-- why a write is refused
pub data Reason : Type 0 where
  DuplicateKey : Reason
  NoId : Reason
  BadIdKind : Reason
  ImmutableId : Reason
  IncType : Reason
  IncOverflow : Reason
  DocTooLarge : Reason
  BadUpdate : (rule : ℕ) → Reason

abbrev pub refusal_of_key : KeyError → WriteRefusal
refusal_of_key (Kind byte) = code.BadIdKind
refusal_of_key NoMemory = code.Memory

-- the reason of a refusal; out of memory is no reason
abbrev pub reason_of : WriteRefusal → Option Reason
reason_of code.DuplicateKey = Some DuplicateKey
reason_of code.NoId = Some NoId
reason_of code.BadIdKind = Some BadIdKind
reason_of code.ImmutableId = Some ImmutableId
reason_of code.IncType = Some IncType
reason_of code.IncOverflow = Some IncOverflow
reason_of code.DocTooLarge = Some DocTooLarge
reason_of (code.BadUpdate rule) = Some (BadUpdate rule)
reason_of code.Memory = None

-- a write is refused for the expected reason, unless memory ran out
abbrev pub Refuses : {X : Type 0} → WriteRefusal → Result X Reason → Type 0
Refuses refusal wanted = IfSome (reason_of refusal) (λ reason. wanted ≡ Err reason)

-- a call returns what is expected, unless memory ran out
abbrev pub Answers : {X : Type 0} → Result X WriteRefusal → Result X Reason → Type 0
Answers (Ok x) wanted = wanted ≡ Ok x
Answers (Err e) wanted = Refuses e wanted
