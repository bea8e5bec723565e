-- How the place of a document leads to the open writer that holds it.
use Rattle.std.specs.Prelude.{◌≡◌, ◌≢◌, ℕ, true, Option, None, Some, IfSome, ⊤}
use Rattle.std.specs.BTreeMap.{BTreeMap, get}
use Rattle.std.specs.FinMap as maps
use Rattle.std.specs.Ordering.{nat_cmp}
use Rattle.bson_doc.specs.Place.{Place, place_cmp}
use Rattle.set_model.specs.declared.writer.Writer.{Writer}
use Rattle.set_model.specs.Holds.{holds}

-- numbers of writers by the places of documents; none if they aren't known
abbrev pub Holders : Type 0
Holders = Option (BTreeMap Place ℕ)

-- the place leads to this writer
abbrev pub LeadsTo : Holders → Place → ℕ → Type 0
LeadsTo None place writer = ⊤
LeadsTo (Some numbers) place writer = get place_cmp numbers place ≡ Some writer

-- each place of a document that an open writer holds leads to it
abbrev pub LeadToAll : Holders → maps.FinMap nat_cmp Writer → Type 0
LeadToAll holders writers =
    (number : ℕ) (writer : Writer) (place : Place) → maps.get writers number ≡ Some writer
    → holds writer place ≡ true → LeadsTo holders place number

-- places that led to other writers than this one still lead to them
abbrev pub LeadToOthers : ℕ → Holders → Holders → Type 0
LeadToOthers number old new = (place : Place) (other : ℕ) → other ≢ number → LeadsTo old place other
    → LeadsTo new place other

-- what led to a writer still leads to it, and this place, if there is one, leads to this writer
pub record LeadAlso (place : Option Place) (number : ℕ) (old new : Holders) : Type 0 where
  pub same : (other : Place) (writer : ℕ) → LeadsTo old other writer → LeadsTo new other writer
  pub own : IfSome place (λ p. LeadsTo new p number)
