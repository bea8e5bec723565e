-- The last entry of a log that meets a test.
use Rattle.std.proofs.Common.{◌≡◌, ◌∙◌, ◌<◌, ap, sym, arith, ℕ, zero, suc, Bool, true, false, cond, drop, filter, length, Some, List, [], ◌∷◌, get_or}
use Rattle.oplog_entry.specs.declared.entry.Entry.{Entry}
use Rattle.question_laws.specs.Meeting.{last_entry}

last_more : (x entry : Entry) (entries : List Entry) → last_entry entries ≡ Some entry → last_entry (x ∷ entries) ≡ Some entry
last_more x entry [] is = absurd (cc is)
last_more x entry (y ∷ entries) is = is

-- it stands here, and no later one meets the test
last_here : (test : Entry → Bool) (log : List Entry) (place : ℕ) (entry : Entry) → place < length log → entry ≡ get_or log place entry → test entry ≡ true → filter test (drop (suc place) log) ≡ []
    → last_entry (filter test log) ≡ Some entry
last_here test [] place entry within is met none = absurd (omega (arith, within))
last_here test (x ∷ log) zero entry within is met none =
    ap (λ (b : Bool). last_entry (cond b (x ∷ filter test log) (filter test log))) (ap test (sym is) ∙ met)
    ∙ ap (λ rest. last_entry (x ∷ rest)) none ∙ ap Some (sym is)
last_here test (x ∷ log) (suc place) entry within is met none = go (last_here test log place entry (omega (arith, within)) is met none) (test x)
  where
    go : last_entry (filter test log) ≡ Some entry → (b : Bool) → last_entry (cond b (x ∷ filter test log) (filter test log)) ≡ Some entry
    go there true = last_more x entry (filter test log) there
    go there false = there

pub last_below : (test : Entry → Bool) (log : List Entry) (place top : ℕ) (entry : Entry) → top ≡ suc place → place < length log → entry ≡ get_or log place entry → test entry ≡ true → filter test (drop top log) ≡ []
    → last_entry (filter test log) ≡ Some entry
last_below test log place top entry above within is met none =
    last_here test log place entry within is met (ap (λ (n : ℕ). filter test (drop n log)) (sym above) ∙ none)
