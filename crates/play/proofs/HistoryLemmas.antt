-- Events that counted pointers share.
use Rattle.std.proofs.Common.{◌≡◌, ◌<◌, ◌+◌, ℕ, zero, suc, List, [], ◌∷◌, ◌++◌, Some, get_or, length, take, refl, ap, sym, arith}
use Rattle.std.specs.Prelude.{slice_get}
use Rattle.std.specs.declared.alloc.Global.{Global}
use Rattle.std.specs.declared.sync.Arc.{Arc}
use Rattle.std.proofs.lemmas.List.{take_more}
use Rattle.set_model.specs.declared.command.Event.{Event}
use Rattle.play.specs.History.{values_of}

abbrev Shared : Type 0
Shared = Arc Event Global

pub values-append : (events : List Shared) (event : Shared) → values_of (events ++ event ∷ []) ≡ values_of events ++ event.value ∷ []
values-append [] event = refl
values-append (one ∷ events) event = ap (λ rest. one.value ∷ rest) (values-append events event)

pub values-length : (events : List Shared) → length (values_of events) ≡ length events
values-length [] = refl
values-length (one ∷ events) = ap suc (values-length events)

-- the copies so far, and one of the next event
pub values-copied : (done all : List Shared) (i : ℕ) (event next : Shared) → values_of done ≡ values_of (take i all) → i < length all → next ≡ get_or all i next → event.value ≡ next.value
    → values_of (done ++ event ∷ []) ≡ values_of (take (i + 1) all)
values-copied done all i event next so_far within is same =
    rw (values-append done event, so_far, same, take_more all i next within, ← is, values-append (take i all) next) refl

-- the event at a place
pub value_at : (events : List Shared) (i : ℕ) (event : Shared) → i < length events → event ≡ get_or events i event → slice_get (values_of events) i ≡ Some event.value
value_at [] i event within is = absurd (omega (arith, within))
value_at (one ∷ events) zero event within is = ap (λ (e : Shared). Some e.value) (sym is)
value_at (one ∷ events) (suc i) event within is = value_at events i event (omega (arith, within)) is
