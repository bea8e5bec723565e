-- What a journal has once the first records of a copy were added.
use Rattle.std.proofs.Common.{◌≡◌, ◌∙◌, ℕ, ◌+◌, ◌-◌, ◌/◌, ◌<◌, ◌≤◌, suc, zero, List, [], ◌∷◌, ◌++◌, length, take, drop, map, refl, sym, ap, subst, arith, append_assoc, append-nil, length-append, length-take, length-drop, take-append-drop}
use Rattle.std.specs.Prelude.{◌≢◌, fold, slice_index_or}
use Rattle.std.specs.List.{All, AllPairs}
use Rattle.std.specs.Simd.{first_chunks}
use Rattle.std.proofs.lemmas.List.Elements.{All-cons, All-tail}
use Rattle.std.proofs.lemmas.List.{get_or_append_left}
use Rattle.rs_optime.specs.declared.optime.OpTime.{OpTime}
use Rattle.oplog_entry.specs.Log.{Begins, StandsBefore}
use Rattle.oplog_entry.specs.Visible.{ZERO, last_of}
use Rattle.oplog_entry.specs.declared.entry.Entry.{Entry}
use Rattle.oplog_store.proofs.Keeps.{pairs_head, pairs_tail, with_last}
use Rattle.repl_msg.specs.Kept.{with_entries, with_record}
use Rattle.repl_msg.specs.declared.record.Kept.{Kept}
use Rattle.repl_msg.specs.declared.record.Record.{Record}
use Rattle.initial_sync.specs.Missing.{BATCH, batch_of, batches}

-- ---- entries in order

there : (P : Entry → Type 0) (log : List Entry) (e : Entry) (list : List Entry) → All P (log ++ e ∷ list) → P e
there P [] e list all = all zero e (omega arith)
there P (x ∷ log) e list all = there P log e list (All-tail P x (log ++ e ∷ list) all)

pub all_before : (log : List Entry) (e : Entry) (list : List Entry) → AllPairs StandsBefore (log ++ e ∷ list) → All (λ other. other.optime.ts < e.optime.ts) log
all_before [] e list order = λ k d within. absurd (omega arith)
all_before (x ∷ log) e list order =
    let before : StandsBefore x e = there (StandsBefore x) log e list (pairs_head StandsBefore x (log ++ e ∷ list) order) in
    All-cons (λ (other : Entry). other.optime.ts < e.optime.ts) x log before.earlier (all_before log e list (pairs_tail StandsBefore x (log ++ e ∷ list) order))

front_order : (front log : List Entry) → Begins front log → AllPairs StandsBefore log → AllPairs StandsBefore front
front_order front log (rest, is) order i j d less within =
    let joined = subst (AllPairs StandsBefore) is order in
    let one : slice_index_or (front ++ rest) i d ≡ slice_index_or front i d = get_or_append_left front rest d i (omega arith) in
    let two : slice_index_or (front ++ rest) j d ≡ slice_index_or front j d = get_or_append_left front rest d j within in
    subst (λ (e : Entry). StandsBefore e (slice_index_or front j d)) one
    (subst (λ (e : Entry). StandsBefore (slice_index_or (front ++ rest) i d) e) two (joined i j d less (omega (arith, length-append front rest, within))))

pub with_after : (log list : List Entry) → AllPairs StandsBefore (log ++ list) → with_entries log list ≡ log ++ list
with_after log [] order = sym (append-nil log)
with_after log (e ∷ list) order =
    let same : (log ++ e ∷ []) ++ list ≡ log ++ e ∷ list = append_assoc log (e ∷ []) list in
    ap (λ (l : List Entry). with_entries l list) (with_last log e (all_before log e list order))
    ∙ with_after (log ++ e ∷ []) list (subst (AllPairs StandsBefore) (sym same) order)
    ∙ same

-- ---- the last of some entries

last_joined : (log list : List Entry) → 0 < length list → last_of list ≡ last_of (log ++ list)
last_joined log [] some = absurd (omega arith)
last_joined log (y ∷ ys) some = sym (further log)
  where
    further : (xs : List Entry) → last_of (xs ++ y ∷ ys) ≡ last_of (y ∷ ys)
    further [] = refl
    further (x ∷ []) = refl
    further (x ∷ z ∷ xs) = further (z ∷ xs)

last_has : (P : Entry → Type 0) (y : Entry) (ys : List Entry) → All P (y ∷ ys) → (last : Entry) × P last × (last.optime ≡ last_of (y ∷ ys))
last_has P y [] all = (y, all zero y (omega arith), refl)
last_has P y (z ∷ ys) all = last_has P z ys (All-tail P y (z ∷ ys) all)

later_last : (x : Entry) (xs : List Entry) (y : Entry) (ys : List Entry) → AllPairs StandsBefore ((x ∷ xs) ++ y ∷ ys) → (last_of (x ∷ xs)).ts < (last_of (y ∷ ys)).ts
later_last x [] y ys order =
    let last = last_has (StandsBefore x) y ys (pairs_head StandsBefore x (y ∷ ys) order) in
    let earlier : x.optime.ts < last.0.optime.ts = last.1.earlier in
    omega (arith, earlier, ap (λ (o : OpTime). o.ts) last.2)
later_last x (z ∷ xs) y ys order = later_last z xs y ys (pairs_tail StandsBefore x ((z ∷ xs) ++ y ∷ ys) order)

-- a prefix with the same last entry is the whole log
pub same_last : (front log : List Entry) → AllPairs StandsBefore log → Begins front log → last_of front ≢ ZERO → last_of front ≡ last_of log → front ≡ log
same_last [] log order begins above same = absurd (above refl)
same_last (x ∷ xs) log order (rest, is) above same = by_rest rest is
  where
    by_rest : (rest : List Entry) → log ≡ (x ∷ xs) ++ rest → x ∷ xs ≡ log
    by_rest [] is = sym (is ∙ append-nil (x ∷ xs))
    by_rest (y ∷ ys) is =
        let later : (last_of (x ∷ xs)).ts < (last_of (y ∷ ys)).ts = later_last x xs y ys (subst (AllPairs StandsBefore) is order) in
        let last : last_of log ≡ last_of (y ∷ ys) = ap last_of is ∙ sym (last_joined (x ∷ xs) (y ∷ ys) (omega arith)) in
        absurd (omega (arith, later, ap (λ (o : OpTime). o.ts) same, ap (λ (o : OpTime). o.ts) last))

pub begins_both : (one two : List Entry) → Begins one two → Begins two one → one ≡ two
begins_both one two (rest, is) (more, back) = by_rest rest is
  where
    by_rest : (rest : List Entry) → two ≡ one ++ rest → one ≡ two
    by_rest [] is = sym (is ∙ append-nil one)
    by_rest (y ∷ ys) is =
        absurd (omega (arith, ap length is, length-append one (y ∷ ys), ap length back, length-append two more))

-- ---- the records of some entries

some_count : (n : ℕ) → 0 < n → (n + 1999) / 2000 ≡ suc ((n - 2000 + 1999) / 2000)
some_count n some = omega arith

pub first_batch : (entries : List Entry) → 0 < length entries → batches entries ≡ batch_of (take BATCH entries) ∷ batches (drop BATCH entries)
first_batch entries some =
    ap (λ (k : ℕ). map batch_of (first_chunks BATCH k entries))
    (some_count (length entries) some ∙ ap (λ (n : ℕ). suc ((n + 1999) / 2000)) (sym (length-drop BATCH entries)))

-- some of the entries were added, after those that were there
pub record Grows (before after : Kept) (list : List Entry) : Type 0 where
  pub some : List Entry
  pub left : List Entry
  pub is : list ≡ some ++ left
  pub entries : after.entries ≡ before.entries ++ some
  pub point : after.point ≡ last_of after.entries
  pub vote : after.vote ≡ before.vote
  pub config : after.config ≡ before.config

same_head : (x y : Record) (xs ys : List Record) → x ∷ xs ≡ y ∷ ys → x ≡ y
same_head x y xs ys same = cc

same_tail : (x y : Record) (xs ys : List Record) → x ∷ xs ≡ y ∷ ys → xs ≡ ys
same_tail x y xs ys same = cc

no_records : (x : Record) (xs : List Record) → [] ≡ x ∷ xs → ⊥
no_records x xs same = cc

none_after : (entries : List Entry) → batches entries ≡ [] → entries ≡ []
none_after [] none = refl
none_after (e ∷ entries) none =
    absurd (no_records _ _ (sym none ∙ first_batch (e ∷ entries) (omega arith)))

-- after one record more
pub after_batch : (before : Kept) (list : List Entry) → AllPairs StandsBefore (before.entries ++ list) → (with_record before (batch_of list)).entries ≡ before.entries ++ list
after_batch before list order = with_after before.entries list order

-- the first of the records of some entries add the first of these
pub fronts : (n : ℕ) (before : Kept) (list : List Entry) (f g : List Record) → length list ≤ n → batches list ≡ f ++ g
    → AllPairs StandsBefore (before.entries ++ list) → before.point ≡ last_of before.entries
    → (grows : Grows before (fold with_record before f) list) × (g ≡ [] → grows.left ≡ [])
fronts n before list [] g few is order point = (
  record { some = []; left = list; is = refl; entries = sym (append-nil before.entries); point = point; vote = refl; config = refl },
  λ none. none_after list (is ∙ none),
)
fronts n before [] (r ∷ f) g few is order point = absurd (no_records r (f ++ g) is)
fronts zero before (e ∷ list) (r ∷ f) g few is order point = absurd (omega arith)
fronts (suc n) before (e ∷ list) (r ∷ f) g few is order point =
    let all : List Entry = e ∷ list in
    let some : List Entry = take BATCH all in
    let rest : List Entry = drop BATCH all in
    let whole : some ++ rest ≡ all = take-append-drop BATCH all in
    let cons : batch_of some ∷ batches rest ≡ r ∷ (f ++ g) = sym (first_batch all (omega arith)) ∙ is in
    let this : batch_of some ≡ r = same_head (batch_of some) r (batches rest) (f ++ g) cons in
    let those : batches rest ≡ f ++ g = same_tail (batch_of some) r (batches rest) (f ++ g) cons in
    let joined : (before.entries ++ some) ++ rest ≡ before.entries ++ all = append_assoc before.entries some rest ∙ ap (λ (l : List Entry). before.entries ++ l) whole in
    let ordered : AllPairs StandsBefore ((before.entries ++ some) ++ rest) = subst (AllPairs StandsBefore) (sym joined) order in
    let next : Kept = with_record before (batch_of some) in
    let added : next.entries ≡ before.entries ++ some = after_batch before some (front_order (before.entries ++ some) ((before.entries ++ some) ++ rest) (rest, refl) ordered) in
    let longer : 0 < length some = omega (arith, length-take BATCH all) in
    let fewer : length rest ≤ n = omega (arith, length-drop BATCH all, few) in
    let more = fronts n next rest f g fewer those
    (subst (λ (l : List Entry). AllPairs StandsBefore (l ++ rest)) (sym added) ordered)
    (last_joined before.entries some longer ∙ ap last_of (sym added)) in
    let grows : Grows next (fold with_record next f) rest = more.0 in
    let mine : Grows before (fold with_record next f) all = record {
      some = some ++ grows.some;
      left = grows.left;
      is = sym whole ∙ ap (λ (l : List Entry). some ++ l) grows.is ∙ sym (append_assoc some grows.some grows.left);
      entries = grows.entries ∙ ap (λ (l : List Entry). l ++ grows.some) added ∙ append_assoc before.entries some grows.some;
      point = grows.point;
      vote = grows.vote;
      config = grows.config;
    } in
    subst (λ (x : Record). (grown : Grows before (fold with_record (with_record before x) f) all) × (g ≡ [] → grown.left ≡ [])) this
    (mine, more.1)
