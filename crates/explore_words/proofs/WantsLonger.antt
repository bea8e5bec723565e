-- A want whose last text goes on.
use Rattle.std.proofs.Common.{◌≡◌, ℕ, List, [], ◌∷◌, ◌++◌, refl, ap, sym}
use Rattle.std.specs.Prelude.{codes}
use Rattle.std.proofs.lemmas.List.{append-nil, append_assoc}
use Rattle.explore_words.specs.declared.question.Look.{Look}
use Rattle.explore_words.specs.declared.question.Want.{Want}
use Rattle.explore_words.specs.declared.question.Want.TheVariants.{Event, Seen}
use Rattle.explore_words.specs.Wants.{is_new, longer, longer_last, longer_look, may_go_on}

pub longer_is_new : (more : List ℕ) (want : Want) → is_new (longer more want) ≡ is_new want
longer_is_new more (Event event text) = refl
longer_is_new more (Seen []) = refl
longer_is_new more (Seen (look ∷ [])) = refl
longer_is_new more (Seen (look ∷ next ∷ looks)) = refl

pub longer_may_go_on : (more : List ℕ) (want : Want) (line : List ℕ) → may_go_on (longer more want) line ≡ may_go_on want line
longer_may_go_on more (Event event text) line = refl
longer_may_go_on more (Seen looks) line = refl

none_last : (looks : List Look) → longer_last [] looks ≡ looks
none_last [] = refl
none_last (look ∷ []) = ap (λ (text : List ℕ). record look { text = text } ∷ []) (append-nil look.text)
none_last (look ∷ next ∷ looks) = ap (λ (later : List Look). look ∷ later) (none_last (next ∷ looks))

-- by nothing
pub longer_none : (want : Want) → longer [] want ≡ want
longer_none (Event event text) = ap (Event event) (append-nil text)
longer_none (Seen looks) = ap Seen (none_last looks)

pub longer_by_none : (more : List ℕ) (want : Want) → more ≡ [] → longer more want ≡ want
longer_by_none more want none = rw none (longer_none want)

two_last : (one two : List ℕ) (looks : List Look) → longer_last (one ++ two) looks ≡ longer_last two (longer_last one looks)
two_last one two [] = refl
two_last one two (look ∷ []) = ap (λ (text : List ℕ). record look { text = text } ∷ []) (sym (append_assoc look.text one two))
two_last one two (look ∷ next ∷ []) = ap (λ (later : List Look). look ∷ later) (two_last one two (next ∷ []))
two_last one two (look ∷ next ∷ third ∷ looks) = ap (λ (later : List Look). look ∷ later) (two_last one two (next ∷ third ∷ looks))

-- by one text and then another
pub longer_twice : (one two : List ℕ) (want : Want) → longer (one ++ two) want ≡ longer two (longer one want)
longer_twice one two (Event event text) = ap (Event event) (sym (append_assoc text one two))
longer_twice one two (Seen looks) = ap Seen (two_last one two looks)

-- an end of line and a line
pub line_more : (lines broken whole line : List ℕ) → broken ≡ lines ++ codes "\n" → whole ≡ broken ++ line → whole ≡ lines ++ 10 ∷ line
line_more lines broken whole line one two = rw (two, one) (append_assoc lines (codes "\n") line)

-- the last of some looks
pub last_longer : (more : List ℕ) (front : List Look) (look : Look) → longer_last more (front ++ look ∷ []) ≡ front ++ longer_look more look ∷ []
last_longer more [] look = refl
last_longer more (first ∷ []) look = refl
last_longer more (first ∷ next ∷ front) look = ap (λ (later : List Look). first ∷ later) (last_longer more (next ∷ front) look)
