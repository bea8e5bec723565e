-- Calls go by the nodes, part after part.
use Rattle.std.proofs.Common.{ℕ, zero, suc, ◌≡◌, ◌≤◌, ◌<◌, inl, inr, Bool, true, false, List, [], ◌∷◌, ◌++◌, length, drop, get_or, Option, Result, Ok, Err, refl, ap, sym, subst, arith, ◌∙◌, append_assoc}
use Rattle.std.proofs.lemmas.List.{append-nil}
use Rattle.std.proofs.lemmas.List.Concat.{flat_map-append}
use Rattle.oplog_entry.specs.declared.entry.Entry.{Entry}
use Rattle.rs_optime.specs.declared.optime.OpTime.{OpTime}
use Rattle.set_model.specs.declared.command.Event.{Event}
use Rattle.set_model.specs.Run.{Sizes}
use Rattle.change_stream.specs.Asking.{Fails, Tells}
use Rattle.change_stream.specs.Calls.{Call, answer, entries_of, given, joined, token_of_last}
use Rattle.change_stream.specs.declared.error.WatchError.{WatchError}
use Rattle.change_stream.specs.declared.error.WatchError.TheVariants as errors
use Rattle.change_words.specs.Texts.{change_lines, entry_lines}
use Rattle.change_words.specs.declared.refusal.WatchRefusal.{WatchRefusal}
use Rattle.change_words.specs.declared.refusal.WatchRefusal.TheVariants.{UnknownToken, NodeDown, NoSuchNode}
use Rattle.change_watch.specs.Causes.{of_stream}
use Rattle.change_watch.specs.declared.stop.WatchStop.{WatchStop}
use Rattle.change_watch.specs.declared.stop.WatchStop.TheVariants.{Refused, WriteFault, Memory}
use Rattle.change_watch.specs.Following.{AreMade, AskedSo, AsksAll, AsksOnce, AsksSome, BreaksAt, EndsSo, GoesBy, PutsLines, PutsUpTo, RefusesAt, StaysSo, gave_nothing, left_of, most, still_to_ask}
use Rattle.change_watch.proofs.LineLemmas.{after_on, both_put, none_put}

-- ---- calls after calls

goes_on : (token : OpTime) (nodes : List ℕ) (calls more : List Call) (mid end : OpTime) (left last : List ℕ) → GoesBy token nodes calls mid left → GoesBy mid left more end last → GoesBy token nodes (calls ++ more) end last
goes_on token nodes [] more mid end left last (mid_is, left_is) next =
    subst (λ (t : OpTime). GoesBy t nodes more end last) mid_is (subst (λ (ns : List ℕ). GoesBy mid ns more end last) left_is next)
goes_on token [] (call ∷ calls) more mid end left last never next = absurd never
goes_on token (node ∷ nodes) (call ∷ calls) more mid end left last (node_is, most_is, (entries, told, goes)) next =
    (node_is, most_is, (entries, told, goes_on (token_of_last token entries) (still_to_ask node nodes entries) calls more mid end left last goes next))

left_before : (node : ℕ) (nodes others : List ℕ) (entries : List Entry) → still_to_ask node nodes entries ++ others ≡ still_to_ask node (nodes ++ others) entries
left_before node nodes others [] = refl
left_before node nodes others (entry ∷ entries) = refl

-- they go by the first of more nodes
goes_before : (others : List ℕ) (token : OpTime) (nodes : List ℕ) (calls : List Call) (end : OpTime) (left : List ℕ) → GoesBy token nodes calls end left → GoesBy token (nodes ++ others) calls end (left ++ others)
goes_before others token nodes [] end left (end_is, left_is) = (end_is, ap (λ (ns : List ℕ). ns ++ others) left_is)
goes_before others token [] (call ∷ calls) end left never = absurd never
goes_before others token (node ∷ nodes) (call ∷ calls) end left (node_is, most_is, (entries, told, goes)) = (
  node_is,
  most_is,
  (
    entries,
    told,
    subst (λ (ns : List ℕ). GoesBy (token_of_last token entries) ns calls end (left ++ others)) (left_before node nodes others entries)
        (goes_before others (token_of_last token entries) (still_to_ask node nodes entries) calls end left goes),
  ),
)

joined_on : (token : OpTime) (nodes : List ℕ) (calls more : List Call) (mid : OpTime) (left : List ℕ) → GoesBy token nodes calls mid left → joined token (calls ++ more) ≡ joined token calls ++ joined mid more
joined_on token nodes [] more mid left (mid_is, left_is) = ap (λ (t : OpTime). joined t more) (sym mid_is)
joined_on token [] (call ∷ calls) more mid left never = absurd never
joined_on token (node ∷ nodes) (call ∷ calls) more mid left (node_is, most_is, (entries, told, goes)) =
    subst (λ (r : Result (List Entry) WatchError). entries_of r ++ joined (token_of_last token (entries_of r)) (calls ++ more) ≡ (entries_of r ++ joined (token_of_last token (entries_of r)) calls) ++ joined mid more) (sym told)
    (ap (λ (es : List Entry). entries ++ es) (joined_on (token_of_last token entries) (still_to_ask node nodes entries) calls more mid left goes)
    ∙ sym (append_assoc entries (joined (token_of_last token entries) calls) (joined mid more)))

module _ (alone : Bool) (sizes : Sizes) where
  made_on : (old mid new : List Event) (calls more : List Call) → AreMade alone sizes old calls mid → AreMade alone sizes mid more new → AreMade alone sizes old (calls ++ more) new
  made_on old mid new [] more is next = subst (λ (es : List Event). AreMade alone sizes es more new) is next
  made_on old mid new (call ∷ calls) more (between, asks, made) next = (between, asks, made_on between mid new calls more made next)

  asked_on : (collection : List ℕ) (token mid end : OpTime) (nodes left last : List ℕ) (old between new : List Event) (lines more : List (List ℕ))
      → AskedSo alone sizes collection token nodes mid left old between lines → AskedSo alone sizes collection mid left end last between new more → AskedSo alone sizes collection token nodes end last old new (lines ++ more)
  asked_on collection token mid end nodes left last old between new lines more first next = record {
    calls = first.calls ++ next.calls;
    goes = goes_on token nodes first.calls next.calls mid end left last first.goes next.goes;
    made = made_on old between new first.calls next.calls first.made next.made;
    lines_are =
        ap (λ (ls : List (List ℕ)). ls ++ more) first.lines_are ∙ ap (λ (ls : List (List ℕ)). change_lines collection (joined token first.calls) ++ ls) next.lines_are
        ∙ sym (ap (λ (es : List Entry). change_lines collection es) (joined_on token nodes first.calls next.calls mid left first.goes)
        ∙ flat_map-append (entry_lines collection) (joined token first.calls) (joined mid next.calls));
  }

  asked_before : (others : List ℕ) (collection : List ℕ) (token end : OpTime) (nodes left : List ℕ) (old new : List Event) (lines : List (List ℕ))
      → AskedSo alone sizes collection token nodes end left old new lines → AskedSo alone sizes collection token (nodes ++ others) end (left ++ others) old new lines
  asked_before others collection token end nodes left old new lines asked = record {
    calls = asked.calls;
    goes = goes_before others token nodes asked.calls end left asked.goes;
    made = asked.made;
    lines_are = asked.lines_are;
  }

  refuses_before : (others : List ℕ) (token : OpTime) (left : List ℕ) (old new : List Event) (why : WatchRefusal) → RefusesAt alone sizes token left old new why → RefusesAt alone sizes token (left ++ others) old new why
  refuses_before others token [] old new why never = absurd never
  refuses_before others token (node ∷ left) old new UnknownToken refused = refused
  refuses_before others token (node ∷ left) old new NodeDown refused = refused
  refuses_before others token (node ∷ left) old new NoSuchNode refused = refused

  breaks_before : (others : List ℕ) (token : OpTime) (left : List ℕ) (old new : List Event) → BreaksAt alone sizes token left old new → BreaksAt alone sizes token (left ++ others) old new
  breaks_before [] token [] old new is = is
  breaks_before (other ∷ others) token [] old new is = inl is
  breaks_before others token (node ∷ left) old new broken = broken

  ends_before : (others : List ℕ) (token : OpTime) (left : List ℕ) (old new : List Event) (stop : WatchStop) → EndsSo alone sizes token left old new (Err stop) → EndsSo alone sizes token (left ++ others) old new (Err stop)
  ends_before others token left old new (Refused why) ends = refuses_before others token left old new why ends
  ends_before others token left old new WriteFault never = absurd never
  ends_before others token left old new Memory ends = breaks_before others token left old new ends

  -- ---- some are asked, and then more

  -- after nodes that were asked
  pub asks_on : {A : Type 0} (left_by : A → List ℕ) (collection : List ℕ) (token mid end : OpTime) (nodes left : List ℕ) (old between new : List Event) (held told now : Option (List ℕ)) (result : Result A WatchStop)
      → AsksSome alone sizes {A = Unit {0}} (λ (done : Unit {0}). left) collection token nodes mid old between held told (Ok tt) → AsksSome alone sizes left_by collection mid left end between new told now result
      → AsksSome alone sizes left_by collection token nodes end old new held now result
  asks_on left_by collection token mid end nodes left old between new held told now (Ok answered) (lines, asked, put) (more, next, puts) =
      (lines ++ more, asked_on collection token mid end nodes left (left_by answered) old between new lines more asked next, both_put held told now lines more put puts)
  asks_on left_by collection token mid end nodes left old between new held told now (Err stop) (lines, asked, put) (inl (more, stops, puts)) = inl (
    lines ++ more,
    record {
      left = stops.left;
      between = stops.between;
      asked = asked_on collection token mid end nodes left stops.left old between stops.between lines more asked stops.asked;
      ends = stops.ends;
    },
    both_put held told now lines more put puts,
  )
  asks_on left_by collection token mid end nodes left old between new held told now (Err stop) (lines, asked, put) (inr loses) = inr (record {
    before = loses.before;
    left = loses.left;
    between = loses.between;
    lines = lines ++ loses.lines;
    asked = asked_on collection token mid loses.before nodes left loses.left old between loses.between lines loses.lines asked loses.asked;
    last = loses.last;
    still = loses.still;
    goes = loses.goes;
    made = loses.made;
    put = after_on held told now lines loses.lines (change_lines collection (given loses.before loses.last)) stop put loses.put;
  })

  -- the first of more nodes are asked
  pub asks_before : (others : List ℕ) (collection : List ℕ) (token end : OpTime) (nodes : List ℕ) (old new : List Event) (held now : Option (List ℕ)) (result : Result (Unit {0}) WatchStop)
      → AsksAll alone sizes collection token nodes end old new held now result → AsksSome alone sizes {A = Unit {0}} (λ (done : Unit {0}). others) collection token (nodes ++ others) end old new held now result
  asks_before others collection token end nodes old new held now (Ok done) (lines, asked, put) = (lines, asked_before others collection token end nodes [] old new lines asked, put)
  asks_before others collection token end nodes old new held now (Err stop) (inl (lines, stops, put)) = inl (
    lines,
    record {
      left = stops.left ++ others;
      between = stops.between;
      asked = asked_before others collection token end nodes stops.left old stops.between lines stops.asked;
      ends = ends_before others end stops.left stops.between new stop stops.ends;
    },
    put,
  )
  asks_before others collection token end nodes old new held now (Err stop) (inr loses) = inr (record {
    before = loses.before;
    left = loses.left ++ others;
    between = loses.between;
    lines = loses.lines;
    asked = asked_before others collection token loses.before nodes loses.left old loses.between loses.lines loses.asked;
    last = loses.last;
    still = loses.still ++ others;
    goes = goes_before others loses.before loses.left (loses.last ∷ []) end loses.still loses.goes;
    made = loses.made;
    put = loses.put;
  })

  nothing_asked : (collection : List ℕ) (token : OpTime) (nodes : List ℕ) (old : List Event) → AskedSo alone sizes collection token nodes token nodes old old []
  nothing_asked collection token nodes old = record { calls = []; goes = (refl, refl); made = refl; lines_are = refl }

  -- no node is asked yet
  pub asks_none : (collection : List ℕ) (token : OpTime) (nodes : List ℕ) (old : List Event) (held : Option (List ℕ))
      → AsksSome alone sizes {A = Unit {0}} (λ (done : Unit {0}). nodes) collection token nodes token old old held held (Ok tt)
  asks_none collection token nodes old held = ([], nothing_asked collection token nodes old, none_put held)

  stops_first : {A : Type 0} (left_by : A → List ℕ) (collection : List ℕ) (token : OpTime) (nodes : List ℕ) (old new : List Event) (held : Option (List ℕ)) (stop : WatchStop)
      → EndsSo alone sizes token nodes old new (Err stop) → AsksSome alone sizes left_by collection token nodes token old new held held (Err stop)
  stops_first left_by collection token nodes old new held stop ends =
      inl ([], record { left = nodes; between = old; asked = nothing_asked collection token nodes old; ends = ends }, none_put held)

  -- the set hasn't got the node
  pub no_such_node : (collection : List ℕ) (token : OpTime) (node : ℕ) (old : List Event) (held : Option (List ℕ)) → sizes.nodes ≤ node
      → AsksAll alone sizes collection token (node ∷ []) token old old held held (Err (Refused NoSuchNode))
  no_such_node collection token node old held past = stops_first (λ (done : Unit {0}). []) collection token (node ∷ []) old old held (Refused NoSuchNode) (past, refl)

  -- ---- one call

  once_fails_here : (collection : List ℕ) (token : OpTime) (node : ℕ) (old new : List Event) (held : Option (List ℕ)) (error : WatchError) → Fails alone sizes old new token node most error
      → AsksOnce alone sizes collection node token token old new held held (Err (of_stream error))
  once_fails_here collection token node old new held errors.NodeDown fails = stops_first (left_of node) collection token (node ∷ []) old new held (Refused NodeDown) fails
  once_fails_here collection token node old new held errors.UnknownToken fails = stops_first (left_of node) collection token (node ∷ []) old new held (Refused UnknownToken) fails
  once_fails_here collection token node old new held errors.HistoryFull fails = stops_first (left_of node) collection token (node ∷ []) old new held Memory (inr (inl fails.0))
  once_fails_here collection token node old new held errors.Memory fails = stops_first (left_of node) collection token (node ∷ []) old new held Memory (inr fails)

  pub once_fails : (collection : List ℕ) (token end : OpTime) (node : ℕ) (old new : List Event) (held : Option (List ℕ)) (error : WatchError) → end ≡ token → Fails alone sizes old new token node most error
      → AsksOnce alone sizes collection node token end old new held held (Err (of_stream error))
  once_fails collection token end node old new held error stays fails =
      subst (λ (t : OpTime). AsksOnce alone sizes collection node token t old new held held (Err (of_stream error))) (sym stays) (once_fails_here collection token node old new held error fails)

  left_after : (node : ℕ) (entries : List Entry) → left_of node (gave_nothing entries) ≡ still_to_ask node [] entries
  left_after node [] = refl
  left_after node (entry ∷ entries) = refl

  module _ (collection : List ℕ) (token end : OpTime) (node : ℕ) (old new : List Event) (entries : List Entry) (tells : Tells alone sizes old new token node most (Ok entries)) (end_is : end ≡ token_of_last token entries) where
    call_asked : AskedSo alone sizes collection token (node ∷ []) end (still_to_ask node [] entries) old new (change_lines collection entries)
    call_asked = record {
      calls = tells.call ∷ [];
      goes = (tells.node_is, tells.most_is, (entries, tells.told_is, (end_is, refl)));
      made = (new, tells.asks, refl);
      lines_are = sym (ap (λ (es : List Entry). change_lines collection es) (append-nil (entries_of (answer token tells.call)) ∙ ap (λ (r : Result (List Entry) WatchError). entries_of r) tells.told_is));
    }

    pub once_told : (held now : Option (List ℕ)) (nothing : Bool) → nothing ≡ gave_nothing entries → PutsLines held now (change_lines collection entries) (Ok tt) → AsksOnce alone sizes collection node token end old new held now (Ok nothing)
    once_told held now nothing is put = (
      change_lines collection entries,
      subst (λ (ns : List ℕ). AskedSo alone sizes collection token (node ∷ []) end ns old new (change_lines collection entries)) (sym (ap (left_of node) is ∙ left_after node entries)) call_asked,
      put,
    )

    -- of its changes not all are put
    pub once_stops : (held now : Option (List ℕ)) (stop : WatchStop) → PutsLines held now (change_lines collection entries) (Err stop) → AsksOnce alone sizes collection node token end old new held now (Err stop)
    once_stops held now stop lost = inr (record {
      before = token;
      left = node ∷ [];
      between = old;
      lines = [];
      asked = nothing_asked collection token (node ∷ []) old;
      last = tells.call;
      still = still_to_ask node [] entries;
      goes = (tells.node_is, tells.most_is, (entries, tells.told_is, (end_is, refl)));
      made = (new, tells.asks, refl);
      put = (
        held,
        none_put held,
        subst (λ (es : List Entry). PutsUpTo held now (change_lines collection es) stop) (sym (ap (λ (r : Result (List Entry) WatchError). entries_of r) tells.told_is)) lost,
      );
    })

  -- ---- calls at a node, until it has nothing more

  pub last_once : (collection : List ℕ) (token mid end : OpTime) (node : ℕ) (old between new : List Event) (held told now : Option (List ℕ)) (nothing : Bool) → nothing ≡ true
      → AsksSome alone sizes {A = Unit {0}} (λ (done : Unit {0}). node ∷ []) collection token (node ∷ []) mid old between held told (Ok tt) → AsksOnce alone sizes collection node mid end between new told now (Ok nothing)
      → AsksAll alone sizes collection token (node ∷ []) end old new held now (Ok tt)
  last_once collection token mid end node old between new held told now true is so_far once = asks_on (left_of node) collection token mid end (node ∷ []) (node ∷ []) old between new held told now (Ok true) so_far once
  last_once collection token mid end node old between new held told now false is so_far once = absurd (false_true is)
    where
      false_true : false ≡ true → ⊥
      false_true same = cc same

  pub once_more : (collection : List ℕ) (token mid end : OpTime) (node : ℕ) (old between new : List Event) (held told now : Option (List ℕ)) (nothing : Bool) → nothing ≡ false
      → AsksSome alone sizes {A = Unit {0}} (λ (done : Unit {0}). node ∷ []) collection token (node ∷ []) mid old between held told (Ok tt) → AsksOnce alone sizes collection node mid end between new told now (Ok nothing)
      → AsksSome alone sizes {A = Unit {0}} (λ (done : Unit {0}). node ∷ []) collection token (node ∷ []) end old new held now (Ok tt)
  once_more collection token mid end node old between new held told now false is so_far once = asks_on (left_of node) collection token mid end (node ∷ []) (node ∷ []) old between new held told now (Ok false) so_far once
  once_more collection token mid end node old between new held told now true is so_far once = absurd (true_false is)
    where
      true_false : true ≡ false → ⊥
      true_false same = cc same

  -- memory runs out between two calls
  pub breaks_between : (collection : List ℕ) (token end : OpTime) (node : ℕ) (old new : List Event) (held now : Option (List ℕ))
      → AsksSome alone sizes {A = Unit {0}} (λ (done : Unit {0}). node ∷ []) collection token (node ∷ []) end old new held now (Ok tt) → AsksAll alone sizes collection token (node ∷ []) end old new held now (Err Memory)
  breaks_between collection token end node old new held now so_far =
      asks_on (λ (done : Unit {0}). []) collection token end end (node ∷ []) (node ∷ []) old new new held now now (Err Memory) so_far
      (stops_first (λ (done : Unit {0}). []) collection end (node ∷ []) new new now Memory (inl refl))

-- ---- node after node

drop_past : {A : Type 0} (xs : List A) (i : ℕ) → length xs ≤ i → drop i xs ≡ []
drop_past [] zero past = refl
drop_past [] (suc i) past = refl
drop_past (x ∷ xs) zero past = absurd (omega arith)
drop_past (x ∷ xs) (suc i) past = drop_past xs i (omega arith)

drop_next : (xs : List ℕ) (i x : ℕ) → i < length xs → x ≡ get_or xs i 0 → drop i xs ≡ x ∷ drop (suc i) xs
drop_next [] i x within is = absurd (omega arith)
drop_next (y ∷ xs) zero x within is = ap (λ (z : ℕ). z ∷ xs) (sym is)
drop_next (y ∷ xs) (suc i) x within is = drop_next xs i x (omega arith) is

module _ (alone : Bool) (sizes : Sizes) (collection : List ℕ) (nodes : List ℕ) (token mid end : OpTime) (old between new : List Event) (held told now : Option (List ℕ)) (i node : ℕ)
    (within : i < length nodes) (is : node ≡ get_or nodes i 0)
    (so_far : AsksSome alone sizes {A = Unit {0}} (λ (done : Unit {0}). drop i nodes) collection token nodes mid old between held told (Ok tt)) where
  -- one node more
  pub node_asked : (result : Result (Unit {0}) WatchStop) → AsksAll alone sizes collection mid (node ∷ []) end between new told now result
      → AsksSome alone sizes {A = Unit {0}} (λ (done : Unit {0}). drop (suc i) nodes) collection token nodes end old new held now result
  node_asked result one =
      asks_on alone sizes (λ (done : Unit {0}). drop (suc i) nodes) collection token mid end nodes (drop i nodes) old between new held told now result so_far
      (subst (λ (ns : List ℕ). AsksSome alone sizes {A = Unit {0}} (λ (done : Unit {0}). drop (suc i) nodes) collection mid ns end between new told now result) (sym (drop_next nodes i node within is))
      (asks_before alone sizes (drop (suc i) nodes) collection mid end (node ∷ []) between new told now result one))

pub all_asked : (alone : Bool) (sizes : Sizes) (collection : List ℕ) (nodes : List ℕ) (token end : OpTime) (old new : List Event) (held now : Option (List ℕ)) (i : ℕ) → length nodes ≤ i
    → AsksSome alone sizes {A = Unit {0}} (λ (done : Unit {0}). drop i nodes) collection token nodes end old new held now (Ok tt) → AsksAll alone sizes collection token nodes end old new held now (Ok tt)
all_asked alone sizes collection nodes token end old new held now i past (lines, asked, put) =
    (lines, subst (λ (ns : List ℕ). AskedSo alone sizes collection token nodes end ns old new lines) (drop_past nodes i past) asked, put)

-- ---- what stays

pub stays_on : {S : Type 0} (stays : S → S → Type 0) → ((one two three : S) → stays one two → stays two three → stays one three) → (one two three : S) → StaysSo stays one two → StaysSo stays two three → StaysSo stays one three
stays_on stays law one two three (inl first) (inl second) = inl (second ∙ first)
stays_on stays law one two three (inl first) (inr second) = inr (subst (λ s. stays s three) first second)
stays_on stays law one two three (inr first) (inl second) = inr (subst (λ s. stays one s) (sym second) first)
stays_on stays law one two three (inr first) (inr second) = inr (law one two three first second)
