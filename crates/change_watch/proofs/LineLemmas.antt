-- Lines are put, one after another.
use Rattle.std.proofs.Common.{ℕ, zero, suc, ◌≡◌, ◌+◌, ◌≤◌, ◌<◌, Bool, true, false, List, [], ◌∷◌, ◌++◌, length, take, drop, get_or, Result, Ok, Err, refl, ap, sym, subst, arith, ◌∙◌, append_assoc, if◌then◌else◌}
use Rattle.std.specs.Prelude.{Option}
use Rattle.std.specs.Io.KnownBytes.{Appends}
use Rattle.std.proofs.Math.Seq.{take-append-add}
use Rattle.std.proofs.lemmas.List.{append-nil, length-append}
use Rattle.std.proofs.lemmas.List.Concat.{flat_map-append}
use Rattle.rs_io.proofs.PutSoFar.{Appends-append}
use Rattle.rs_io.specs.Put.{Puts}
use Rattle.rs_io.specs.declared.sink.SinkError.{SinkError}
use Rattle.rs_io.specs.declared.sink.SinkError.TheVariants.{Failed, Memory as NoRoom}
use Rattle.oplog_entry.specs.declared.entry.Entry.{Entry}
use Rattle.change_words.specs.Texts.{change_lines, change_text, entry_lines, is_of}
use Rattle.change_words.specs.declared.refusal.WatchRefusal.{WatchRefusal}
use Rattle.change_watch.specs.Causes.{of_sink}
use Rattle.change_watch.specs.declared.stop.WatchStop.{WatchStop}
use Rattle.change_watch.specs.declared.stop.WatchStop.TheVariants.{Refused, WriteFault, Memory}
use Rattle.change_watch.specs.Following.{PutsAfter, PutsLines, PutsUpTo, together}
use Rattle.change_watch.proofs.KeepLemmas.{Appends-nothing, Keeps-same}

-- no line is put
pub none_put : (held : Option (List ℕ)) → Appends held held []
none_put held = Appends-nothing held held (Keeps-same held)

pub nothing_put : (held : Option (List ℕ)) (line : List ℕ) → PutsLines held held (line ∷ []) (Err Memory)
nothing_put held line = (0, omega arith, none_put held)

-- a prefix of one list is one of the list with more after it
pub prefix_of : {A : Type 0} (count : ℕ) (xs ys : List A) → (long : ℕ) × (take long (xs ++ ys) ≡ take count xs)
prefix_of zero xs ys = (0, refl)
prefix_of (suc count) [] ys = (0, refl)
prefix_of (suc count) (x ∷ xs) ys = let front = prefix_of count xs ys in (suc front.0, ap (λ (zs : List _). x ∷ zs) front.1)

take_within : {A : Type 0} (count : ℕ) (xs ys : List A) → count < length xs → take count (xs ++ ys) ≡ take count xs
take_within zero xs ys within = refl
take_within (suc count) [] ys within = absurd (omega arith)
take_within (suc count) (x ∷ xs) ys within = ap (λ (zs : List _). x ∷ zs) (take_within count xs ys (omega arith))

-- ---- one line

pub line_put : (held now : Option (List ℕ)) (line : List ℕ) → Appends held now line → PutsLines held now (line ∷ []) (Ok tt)
line_put held now line put = subst (λ (text : List ℕ). Appends held now text) (sym (append-nil line)) put

pub line_stops : (held now : Option (List ℕ)) (line : List ℕ) (error : SinkError) → Puts held now (Err error) line → PutsLines held now (line ∷ []) (Err (of_sink error))
line_stops held now line Failed (count, put) = (count, subst (λ (text : List ℕ). Appends held now (take count text)) (sym (append-nil line)) put)
line_stops held now line NoRoom kept = (0, omega arith, Appends-nothing held now kept)

-- ---- lines after lines

pub together_append : (lines more : List (List ℕ)) → together (lines ++ more) ≡ together lines ++ together more
together_append lines more = flat_map-append (λ (line : List ℕ). line) lines more

pub both_put : (held mid now : Option (List ℕ)) (lines more : List (List ℕ)) → Appends held mid (together lines) → Appends mid now (together more) → Appends held now (together (lines ++ more))
both_put held mid now lines more put next =
    subst (λ (text : List ℕ). Appends held now text) (sym (together_append lines more)) (Appends-append held mid now (together lines) (together more) put next)

-- After lines that were put more of them are put, up to a stop.
pub puts_on : (held mid now : Option (List ℕ)) (lines more : List (List ℕ)) (stop : WatchStop) → Appends held mid (together lines) → PutsUpTo mid now more stop → PutsUpTo held now (lines ++ more) stop
puts_on held mid now lines more (Refused why) put never = absurd never
puts_on held mid now lines more WriteFault put (count, next) =
    let is : take (length (together lines) + count) (together (lines ++ more)) ≡ together lines ++ take count (together more) =
    ap (λ (text : List ℕ). take (length (together lines) + count) text) (together_append lines more) ∙ take-append-add (together lines) (together more) count in
    (length (together lines) + count, subst (λ (text : List ℕ). Appends held now text) (sym is) (Appends-append held mid now (together lines) (take count (together more)) put next))
puts_on held mid now lines more Memory put (count, within, next) =
    let long = length-append lines more in
    let is : together (take (length lines + count) (lines ++ more)) ≡ together lines ++ together (take count more) =
    ap (λ (ls : List (List ℕ)). together ls) (take-append-add lines more count) ∙ together_append lines (take count more) in
    (length lines + count, omega (arith, long, within), subst (λ (text : List ℕ). Appends held now text) (sym is) (Appends-append held mid now (together lines) (together (take count more)) put next))

-- Lines are put in front of lines that are put, and of those after them not all.
pub after_on : (held mid now : Option (List ℕ)) (lines first after : List (List ℕ)) (stop : WatchStop) → Appends held mid (together lines) → PutsAfter mid now first after stop → PutsAfter held now (lines ++ first) after stop
after_on held mid now lines first after stop put (told, next, lost) = (told, both_put held mid told lines first put next, lost)

pub none_refused : (held now : Option (List ℕ)) (first after : List (List ℕ)) (why : WatchRefusal) → PutsAfter held now first after (Refused why) → ⊥
none_refused held now first after why (told, put, never) = never

kept_up_to : (held mid now : Option (List ℕ)) (lines : List (List ℕ)) (stop : WatchStop) → PutsUpTo held mid lines stop → Appends mid now [] → PutsUpTo held now lines stop
kept_up_to held mid now lines (Refused why) never kept = absurd never
kept_up_to held mid now lines WriteFault (count, put) kept =
    (count, subst (λ (text : List ℕ). Appends held now text) (append-nil (take count (together lines))) (Appends-append held mid now (take count (together lines)) [] put kept))
kept_up_to held mid now lines Memory (count, within, put) kept =
    (count, within, subst (λ (text : List ℕ). Appends held now text) (append-nil (together (take count lines))) (Appends-append held mid now (together (take count lines)) [] put kept))

-- nothing more is put
pub after_kept : (held mid now : Option (List ℕ)) (first after : List (List ℕ)) (stop : WatchStop) → PutsAfter held mid first after stop → Appends mid now [] → PutsAfter held now first after stop
after_kept held mid now first after stop (told, put, lost) kept = (told, put, kept_up_to told mid now after stop lost kept)

-- where some lines stop, later ones aren't put
pub puts_front : (held now : Option (List ℕ)) (lines more : List (List ℕ)) (stop : WatchStop) → PutsLines held now lines (Err stop) → PutsUpTo held now (lines ++ more) stop
puts_front held now lines more (Refused why) never = absurd never
puts_front held now lines more WriteFault (count, put) =
    let front = prefix_of count (together lines) (together more) in
    (front.0, subst (λ (text : List ℕ). Appends held now text) (sym front.1 ∙ ap (λ (text : List ℕ). take front.0 text) (sym (together_append lines more))) put)
puts_front held now lines more Memory (count, within, put) =
    let long = length-append lines more in
    (count, omega (arith, long, within), subst (λ (ls : List (List ℕ)). Appends held now (together ls)) (sym (take_within count lines more within)) put)

-- ---- the changes of a collection

pub entry_told : (collection : List ℕ) (entry : Entry) (held now : Option (List ℕ)) (result : Result (Unit {0}) WatchStop) → is_of collection entry.op ≡ true
    → PutsLines held now (change_text entry ∷ []) result → PutsLines held now (entry_lines collection entry) result
entry_told collection entry held now result is put =
    subst (λ (b : Bool). PutsLines held now (if b then change_text entry ∷ [] else []) result) (sym is) put

pub entry_untold : (collection : List ℕ) (entry : Entry) (held : Option (List ℕ)) → is_of collection entry.op ≡ false → PutsLines held held (entry_lines collection entry) (Ok tt)
entry_untold collection entry held is =
    subst (λ (b : Bool). PutsLines held held (if b then change_text entry ∷ [] else []) (Ok tt)) (sym is) (none_put held)

changes_split : (collection : List ℕ) (entries : List Entry) (i : ℕ) (entry : Entry) → i < length entries → entry ≡ get_or entries i entry
    → change_lines collection entries ≡ change_lines collection (take i entries) ++ (entry_lines collection entry ++ change_lines collection (drop (suc i) entries))
changes_split collection [] i entry within is = absurd (omega arith)
changes_split collection (first ∷ entries) zero entry within is = ap (λ (e : Entry). entry_lines collection e ++ change_lines collection entries) (sym is)
changes_split collection (first ∷ entries) (suc i) entry within is =
    ap (λ (ls : List (List ℕ)). entry_lines collection first ++ ls) (changes_split collection entries i entry (omega arith) is)
    ∙ sym (append_assoc (entry_lines collection first) (change_lines collection (take i entries)) (entry_lines collection entry ++ change_lines collection (drop (suc i) entries)))

changes_more : (collection : List ℕ) (entries : List Entry) (i : ℕ) (entry : Entry) → i < length entries → entry ≡ get_or entries i entry
    → change_lines collection (take (suc i) entries) ≡ change_lines collection (take i entries) ++ entry_lines collection entry
changes_more collection [] i entry within is = absurd (omega arith)
changes_more collection (first ∷ entries) zero entry within is = append-nil (entry_lines collection first) ∙ ap (λ (e : Entry). entry_lines collection e) (sym is)
changes_more collection (first ∷ entries) (suc i) entry within is =
    ap (λ (ls : List (List ℕ)). entry_lines collection first ++ ls) (changes_more collection entries i entry (omega arith) is)
    ∙ sym (append_assoc (entry_lines collection first) (change_lines collection (take i entries)) (entry_lines collection entry))

take_past : {A : Type 0} (xs : List A) (i : ℕ) → length xs ≤ i → take i xs ≡ xs
take_past [] zero past = refl
take_past [] (suc i) past = refl
take_past (x ∷ xs) zero past = absurd (omega arith)
take_past (x ∷ xs) (suc i) past = ap (λ (ys : List _). x ∷ ys) (take_past xs i (omega arith))

-- these changes were put
pub record PutChanges {K : Type 0} (held : K → Option (List ℕ)) (faults : K → ℕ) (steady : K → Type 0) (old new : K) (collection : List ℕ) (entries : List Entry) : Type 0 where
  pub put : Appends (held old) (held new) (together (change_lines collection entries))
  pub later : faults old ≤ faults new
  pub steady_still : steady old → steady new

module _ (collection : List ℕ) (entries : List Entry) (i : ℕ) (entry : Entry) (first old new : Option (List ℕ)) (within : i < length entries) (is : entry ≡ get_or entries i entry)
    (put : Appends first old (together (change_lines collection (take i entries)))) where
  -- one entry more
  pub entry_put : (more : ℕ) → more ≡ i + 1 → PutsLines old new (entry_lines collection entry) (Ok tt) → Appends first new (together (change_lines collection (take more entries)))
  entry_put more is_more next =
      let one_more : suc i ≡ more = omega (arith, is_more) in
      subst (λ (n : ℕ). Appends first new (together (change_lines collection (take n entries)))) one_more
      (subst (λ (ls : List (List ℕ)). Appends first new (together ls)) (sym (changes_more collection entries i entry within is))
      (both_put first old new (change_lines collection (take i entries)) (entry_lines collection entry) put next))

  -- where the next entry stops
  pub entry_stops : (stop : WatchStop) → PutsLines old new (entry_lines collection entry) (Err stop) → PutsLines first new (change_lines collection entries) (Err stop)
  entry_stops (Refused why) never = absurd never
  entry_stops WriteFault cut =
      subst (λ (ls : List (List ℕ)). PutsUpTo first new ls WriteFault) (sym (changes_split collection entries i entry within is))
      (puts_on first old new (change_lines collection (take i entries)) (entry_lines collection entry ++ change_lines collection (drop (suc i) entries)) WriteFault put
      (puts_front old new (entry_lines collection entry) (change_lines collection (drop (suc i) entries)) WriteFault cut))
  entry_stops Memory cut =
      subst (λ (ls : List (List ℕ)). PutsUpTo first new ls Memory) (sym (changes_split collection entries i entry within is))
      (puts_on first old new (change_lines collection (take i entries)) (entry_lines collection entry ++ change_lines collection (drop (suc i) entries)) Memory put
      (puts_front old new (entry_lines collection entry) (change_lines collection (drop (suc i) entries)) Memory cut))

-- after the last entry
pub all_put : (collection : List ℕ) (entries : List Entry) (i : ℕ) (first now : Option (List ℕ)) → length entries ≤ i → Appends first now (together (change_lines collection (take i entries)))
    → Appends first now (together (change_lines collection entries))
all_put collection entries i first now past put = subst (λ (es : List Entry). Appends first now (together (change_lines collection es))) (take_past entries i past) put
