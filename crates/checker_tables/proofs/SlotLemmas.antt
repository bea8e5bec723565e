-- The least of a node's open slots.
use Rattle.std.proofs.Common.{◌≡◌, ◌∙◌, ℕ, ap, sym, subst, IsTrue, MatchOption, Option, None, Some}
use Rattle.std.specs.FinSet.{FinSet, contains-items, empty, items}
use Rattle.rs_optime.specs.declared.optime.OpTime.{OpTime}
use Rattle.oplog_entry.specs.Visible.{least}
use Rattle.optime_slots.specs.Reserved.{IsLeast, optime_cmp}
use Rattle.visibility_point.proofs.Least.{items_again, least_one, none_listed}

pub of_least : (slots : FinSet optime_cmp) (mark : ℕ) (found : Option OpTime) → MatchOption found (slots ≡ empty) (IsLeast (record { slots = slots; mark = mark })) → found ≡ least (items slots)
of_least slots mark None none = sym (ap least (none_listed (items slots) (items_again slots ∙ none)))
of_least slots mark (Some at) is =
    sym (least_one (items slots) at (subst IsTrue (contains-items slots at) is.here) (λ q h. is.first q (subst IsTrue (sym (contains-items slots q)) h)))
