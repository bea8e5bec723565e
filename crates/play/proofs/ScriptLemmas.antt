-- Lines that counted pointers share, and what is written of them.
use Rattle.std.proofs.Common.{◌≡◌, ◌<◌, ◌+◌, ◌∙◌, ℕ, List, [], ◌∷◌, ◌++◌, ap, append-nil, append_assoc, get_or, length, sym, take}
use Rattle.std.specs.Prelude.{codes, replicate, string_bytes}
use Rattle.std.specs.declared.alloc.Global.{Global}
use Rattle.std.specs.declared.string.String.{String}
use Rattle.std.specs.declared.sync.Arc.{Arc}
use Rattle.std.proofs.lemmas.List.{map-append, replicate-append-replicate, take_more}
use Rattle.std.proofs.lemmas.List.Concat.{flat_map-append}
use Rattle.play.specs.Script.{ended, lines_text, texts_of}

abbrev Shared : Type 0
Shared = Arc (String Global) Global

abbrev text_in : Shared → List ℕ
text_in line = string_bytes line.value

-- one line more
taken : (lines : List Shared) (i : ℕ) (line : Shared) → i < length lines → line ≡ get_or lines i line → texts_of (take (i + 1) lines) ≡ texts_of (take i lines) ++ text_in line ∷ []
taken lines i line within is =
    ap texts_of (take_more lines i line within ∙ ap (λ (l : Shared). take i lines ++ l ∷ []) (sym is)) ∙ map-append text_in (take i lines) (line ∷ [])

-- the copies so far, and one of the next line
pub lines_copied : (done all : List Shared) (i : ℕ) (line next : Shared) → texts_of done ≡ texts_of (take i all) → i < length all → next ≡ get_or all i next → line.value ≡ next.value
    → texts_of (done ++ line ∷ []) ≡ texts_of (take (i + 1) all)
lines_copied done all i line next so_far within is same =
    map-append text_in done (line ∷ [])
    ∙ ap (λ (ls : List (List ℕ)). ls ++ text_in line ∷ []) so_far
    ∙ ap (λ (s : String Global). texts_of (take i all) ++ string_bytes s ∷ []) same
    ∙ sym (taken all i next within is)

-- the lines written so far, and the next one
pub lines_written : (lines : List Shared) (i : ℕ) (line : Shared) → i < length lines → line ≡ get_or lines i line → (before old new : List ℕ) → old ≡ before ++ lines_text (texts_of (take i lines))
    → new ≡ old ++ ended (text_in line) → new ≡ before ++ lines_text (texts_of (take (i + 1) lines))
lines_written lines i line within is before old new so_far one =
    let front = lines_text (texts_of (take i lines)) in
    let last = ended (text_in line) in
    let more : lines_text (texts_of (take (i + 1) lines)) ≡ front ++ last =
    ap lines_text (taken lines i line within is) ∙ flat_map-append ended (texts_of (take i lines)) (text_in line ∷ []) ∙ ap (λ (xs : List ℕ). front ++ xs) (append-nil last) in
    one ∙ ap (λ (xs : List ℕ). xs ++ last) so_far ∙ append_assoc before front last ∙ ap (λ (xs : List ℕ). before ++ xs) (sym more)

-- one line feed more
pub feeds_written : (count : ℕ) (before old new : List ℕ) → old ≡ before ++ replicate count 10 → new ≡ old ++ codes "\n" → new ≡ before ++ replicate (count + 1) 10
feeds_written count before old new so_far one =
    one ∙ ap (λ (xs : List ℕ). xs ++ codes "\n") so_far ∙ append_assoc before (replicate count 10) (codes "\n")
    ∙ ap (λ (xs : List ℕ). before ++ xs) (replicate-append-replicate count 1 10)
