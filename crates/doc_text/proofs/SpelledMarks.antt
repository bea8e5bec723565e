-- Runs, spaces, marks and words are read as they are spelled.
use Rattle.std.proofs.Common.{◌≡◌, ℕ, ◌+◌, Bool, true, false, cond, List, [], ◌∷◌, ◌++◌, ◌==◌, ◌||◌, length, Ok, refl, ap, ◌∙◌, append_assoc, arith}
use Rattle.std.specs.List.{prefix_len, AllByRecursion}
use Rattle.std.specs.Char.{is_ascii_digit}
use Rattle.std.proofs.lemmas.List.{drop_at}
use Rattle.bson_doc.specs.Bind.{◌>>=◌}
use Rattle.bson_doc.specs.Tree.{Tree, null, int32, int64, text, document, array, binary, object_id, boolean, date, timestamp}
use Rattle.doc_text.specs.Bytes.{is_space}
use Rattle.doc_text.specs.Class.{after_spaces}
use Rattle.doc_text.specs.Marks.{mark_at, spaced_at, closing_at, word_at, opened_at}
use Rattle.doc_text.specs.Spelling.{IsSpaces, IsSpaced, IsClosing, continues_number, EndsThere}

-- a run of a class ends where the class does
pub run_over : (p : ℕ → Bool) (run rest : List ℕ) → AllByRecursion (λ c. p c ≡ true) run → prefix_len p rest ≡ 0 → prefix_len p (run ++ rest) ≡ length run
run_over p [] rest all stop = stop
run_over p (c ∷ run) rest all stop =
    let later = run_over p run rest all.1 stop in
    rw all.0 (omega (arith, later))

spaces_pass : (s : List ℕ) → IsSpaces s → AllByRecursion (λ c. is_space c ≡ true) s
spaces_pass [] all = tt
spaces_pass (c ∷ s) all = (rw all.0 refl, spaces_pass s all.1)

-- no space stands first
abbrev pub NoSpace : List ℕ → Type 0
NoSpace s = prefix_len is_space s ≡ 0

pub no_space : (c : ℕ) (rest : List ℕ) → (c == 32) ≡ false → NoSpace (c ∷ rest)
no_space c rest other = rw other refl

pub after_spaces-over : (s rest : List ℕ) → IsSpaces s → NoSpace rest → after_spaces (s ++ rest) ≡ rest
after_spaces-over s rest all none =
    rw (run_over is_space s rest (spaces_pass s all) none) (drop_at s rest (length s) refl)

same_byte : (c : ℕ) → (c == c) ≡ true
same_byte c = grind arith

pub mark_over : (mark : ℕ) (rest : List ℕ) → mark_at mark (mark ∷ rest) ≡ Ok rest
unfolding mark_at
mark_over mark rest = rw (same_byte mark) refl

-- after the spaces of a mark stands the mark
pub before_mark : (mark : ℕ) (s rest : List ℕ) → (mark == 32) ≡ false → (spaced : IsSpaced mark s) → after_spaces (s ++ rest) ≡ mark ∷ (spaced.after ++ rest)
before_mark mark s rest other spaced =
    let regroup : s ++ rest ≡ spaced.before ++ (mark ∷ (spaced.after ++ rest)) = ap (λ (x : List ℕ). x ++ rest) spaced.whole ∙ append_assoc spaced.before (mark ∷ spaced.after) rest in
    ap after_spaces regroup ∙ after_spaces-over spaced.before (mark ∷ (spaced.after ++ rest)) spaced.spaces_before (no_space mark (spaced.after ++ rest) other)

pub before_closing : (mark : ℕ) (s rest : List ℕ) → (mark == 32) ≡ false → (closing : IsClosing mark s) → after_spaces (s ++ rest) ≡ mark ∷ rest
before_closing mark s rest other closing =
    let regroup : s ++ rest ≡ closing.before ++ (mark ∷ rest) = ap (λ (x : List ℕ). x ++ rest) closing.whole ∙ append_assoc closing.before (mark ∷ []) rest in
    ap after_spaces regroup ∙ after_spaces-over closing.before (mark ∷ rest) closing.spaces_before (no_space mark rest other)

pub spaced_over : (mark : ℕ) (s rest : List ℕ) → (mark == 32) ≡ false → IsSpaced mark s → NoSpace rest → spaced_at mark (s ++ rest) ≡ Ok rest
unfolding spaced_at
spaced_over mark s rest other spaced none =
    ap (λ (x : List ℕ). mark_at mark x >>= λ r. Ok (after_spaces r)) (before_mark mark s rest other spaced)
    ∙ rw (mark_over mark (spaced.after ++ rest)) (ap (λ (x : List ℕ). Ok x) (after_spaces-over spaced.after rest spaced.spaces_after none))

pub closing_over : (mark : ℕ) (s rest : List ℕ) → (mark == 32) ≡ false → IsClosing mark s → closing_at mark (s ++ rest) ≡ Ok rest
unfolding closing_at
closing_over mark s rest other closing =
    ap (mark_at mark) (before_closing mark s rest other closing) ∙ mark_over mark rest

pub word_over : (word rest : List ℕ) → word_at word (word ++ rest) ≡ Ok rest
unfolding word_at
word_over [] rest = refl
word_over (c ∷ word) rest = rw (mark_over c (word ++ rest)) (word_over word rest)

pub opened_over : (word s rest : List ℕ) → IsSpaced 40 s → NoSpace rest → opened_at word (word ++ (s ++ rest)) ≡ Ok rest
unfolding opened_at
opened_over word s rest spaced none = rw (word_over word (s ++ rest)) (spaced_over 40 s rest refl spaced none)

-- ---- what follows a value is a space or a mark

-- the first byte of a text fails a test that spaces and the mark fail
pub spaced_stops : (p : ℕ → Bool) (mark : ℕ) (s rest : List ℕ) → p 32 ≡ false → p mark ≡ false → IsSpaced mark s → prefix_len p (s ++ rest) ≡ 0
spaced_stops p mark s rest no_blank no_mark spaced =
    ap (λ (x : List ℕ). prefix_len p (x ++ rest)) spaced.whole ∙ stops spaced.before spaced.spaces_before
  where
    stops : (before : List ℕ) → IsSpaces before → prefix_len p ((before ++ mark ∷ spaced.after) ++ rest) ≡ 0
    stops [] all = rw no_mark refl
    stops (c ∷ before) all = rw (all.0, no_blank) refl

pub closing_stops : (p : ℕ → Bool) (mark : ℕ) (s rest : List ℕ) → p 32 ≡ false → p mark ≡ false → IsClosing mark s → prefix_len p (s ++ rest) ≡ 0
closing_stops p mark s rest no_blank no_mark closing =
    ap (λ (x : List ℕ). prefix_len p (x ++ rest)) closing.whole ∙ stops closing.before closing.spaces_before
  where
    stops : (before : List ℕ) → IsSpaces before → prefix_len p ((before ++ mark ∷ []) ++ rest) ≡ 0
    stops [] all = rw no_mark refl
    stops (c ∷ before) all = rw (all.0, no_blank) refl

abbrev pub goes_on : ℕ → Bool
goes_on c = is_ascii_digit c || c == 76

pub first_stops : (b : Bool) (n : ℕ) → cond b (1 + n) 0 ≡ 0 → b ≡ false
first_stops true n none = absurd (omega arith)
first_stops false n none = refl

number_stops : (rest : List ℕ) → prefix_len goes_on rest ≡ 0 → continues_number rest ≡ false
number_stops [] none = refl
number_stops (c ∷ rest) none = first_stops (goes_on c) (prefix_len goes_on rest) none

pub goes_no_further : (value : Tree) (rest : List ℕ) → prefix_len goes_on rest ≡ 0 → EndsThere value rest
goes_no_further null rest none = tt
goes_no_further (int32 number) rest none = number_stops rest none
goes_no_further (int64 number) rest none = tt
goes_no_further (text bytes) rest none = tt
goes_no_further (document members) rest none = tt
goes_no_further (array members) rest none = tt
goes_no_further (binary subtype bytes) rest none = tt
goes_no_further (object_id bytes) rest none = tt
goes_no_further (boolean truth) rest none = tt
goes_no_further (date milliseconds) rest none = tt
goes_no_further (timestamp ts) rest none = tt
