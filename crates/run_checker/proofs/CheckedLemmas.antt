-- Bytes are answered with a count exactly where they are a trace, which determines its events.
use Rattle.std.proofs.Common.{◌≡◌, ℕ, zero, suc, ◌+◌, ◌<◌, ◌≤◌, Bool, true, false, cond, ◌==◌, List, [], ◌∷◌, ◌++◌, length, Option, None, Some, Result, Ok, Err, refl, sym, ap, subst, arith, ◌∙◌}
use Rattle.std.specs.Prelude.{IfErr, IfOk}
use Rattle.std.specs.List.{list_any, after_first, position_or_len}
use Rattle.std.proofs.lemmas.List.{append_cancel_left, length-append, length-drop}
use Rattle.bson_doc.specs.Bind.{◌>>=◌}
use Rattle.bson_doc.proofs.BindLemmas.{bind_ok}
use Rattle.safety_laws.specs.Laws.{InEveryRun}
use Rattle.script_words.specs.declared.rule.ScriptRule.{ScriptRule}
use Rattle.script_words.specs.Words.{Left}
use Rattle.set_model.specs.declared.command.Event.{Event}
use Rattle.set_model.specs.Limits.{AllFit, Fits}
use Rattle.set_model.specs.Safety.{Safe}
use Rattle.set_model.specs.World.{World, step}
use Rattle.run_checker.specs.declared.checking.CheckError.{CheckError}
use Rattle.run_checker.specs.declared.checking.CheckError.TheVariants.{BadEvent, BadHeader, Memory, NoFit, OtherReply}
use Rattle.run_checker.specs.Reading.{after_line, event_in, header_in, is_line_feed, line_at}
use Rattle.run_checker.specs.Checking.{IsTrace, RulesOut, Says, Shows, Stops, Tells, TellsSome, after_reply, after_text, by_header, checked, event_or, event_told, fits, if_fits, number_after, opening_of, reply_text, set_of, told, told_from, told_one}
use Rattle.run_checker.proofs.HeaderLemmas.{header_sizes}
use Rattle.run_checker.proofs.PassingLemmas.{one_line}

-- ---- a reply

itself : (c : ℕ) → (c == c) ≡ true
itself c = grind arith

same_byte : (c d : ℕ) → (c == d) ≡ true → c ≡ d
same_byte c d is = grind arith

-- a text is passed over where it stands
passed_over : (number : ℕ) (text rest : List ℕ) → (end : ℕ) × (after_text number text (text ++ rest) ≡ Ok (rest, end))
passed_over number [] rest = (number, refl)
passed_over number (c ∷ text) rest =
    let later = passed_over (number_after c number) text rest in
    (later.0, rw (itself c) later.1)

-- what follows it, with the number of the line there
abbrev left_in : Result (List ℕ × ℕ) CheckError → List ℕ × ℕ
left_in (Ok left) = left
left_in (Err error) = ([], 0)

record Passed (number : ℕ) (text bytes : List ℕ) (left : List ℕ × ℕ) : Type 0 where
  parts : bytes ≡ text ++ left.0
  numbers : left.1 + length left.0 ≤ number + length bytes

-- and only there
stood_there : (number : ℕ) (text bytes : List ℕ) (left : List ℕ × ℕ) → after_text number text bytes ≡ Ok left → Passed number text bytes left
stood_there number [] bytes left is = subst (Passed number [] bytes) (ap left_in is) (record { parts = refl; numbers = omega arith })
stood_there number (c ∷ text) [] left is = absurd (cc is)
stood_there number (c ∷ text) (d ∷ bytes) left is = by_test (c == d) refl (λ found. stood_there (number_after c number) text bytes left found) is
  where
    by_test : (b : Bool) → (c == d) ≡ b → (after_text (number_after c number) text bytes ≡ Ok left → Passed (number_after c number) text bytes left)
        → cond b (after_text (number_after c number) text bytes) (Err (OtherReply number)) ≡ Ok left → Passed number (c ∷ text) (d ∷ bytes) left
    by_test true same after found =
        let later = after found in
        let next = one_line c number in
        let least : left.1 + length left.0 ≤ number_after c number + length bytes = later.numbers in
        record { parts = ap (λ (x : ℕ). x ∷ bytes) (sym (same_byte c d same)) ∙ ap (λ (xs : List ℕ). c ∷ xs) later.parts; numbers = omega (arith, next, least) }
    by_test false other after found = absurd (cc found)

-- ---- lines

some_same : (x y : List ℕ) → Some x ≡ Some y → x ≡ y
some_same x y is = cc

-- a line takes at least a byte
pub shorter : (bytes rest : List ℕ) → after_line bytes ≡ Some rest → length rest < length bytes
shorter [] rest is = absurd (cc is)
shorter (c ∷ bytes) rest is = by_test (list_any is_line_feed (c ∷ bytes)) refl is
  where
    by_test : (b : Bool) → list_any is_line_feed (c ∷ bytes) ≡ b → cond b (Some (after_first is_line_feed (c ∷ bytes))) None ≡ Some rest → length rest < length (c ∷ bytes)
    by_test true some same =
        let left : length (after_first is_line_feed (c ∷ bytes)) ≡ length rest = ap (λ (xs : List ℕ). length xs) (some_same (after_first is_line_feed (c ∷ bytes)) rest same) in
        omega (arith, left, length-drop (position_or_len is_line_feed (c ∷ bytes) + 1) (c ∷ bytes))
    by_test false none same = absurd (cc same)

record Replied (number : ℕ) (text bytes : List ℕ) (left : List ℕ × ℕ) : Type 0 where
  stands : after_line bytes ≡ Some (text ++ left.0)
  numbers : left.1 + length left.0 < number + length bytes

reply_stood : (number : ℕ) (text bytes : List ℕ) (left : List ℕ × ℕ) → after_reply number text (after_line bytes) ≡ Ok left → Replied number text bytes left
reply_stood number text bytes left is = by_line (after_line bytes) refl is
  where
    by_line : (line : Left) → after_line bytes ≡ line → after_reply number text line ≡ Ok left → Replied number text bytes left
    by_line None same found = absurd (cc found)
    by_line (Some rest) same found =
        let passed = stood_there number text rest left found in
        let least : left.1 + length left.0 ≤ number + length rest = passed.numbers in
        record { stands = same ∙ ap (λ (xs : List ℕ). Some xs) passed.parts; numbers = omega (arith, least, shorter bytes rest same) }

-- ---- an event

pub event_read : (number : ℕ) (read : Result Event ScriptRule) (event : Event) → event_or number read ≡ Ok event → read ≡ Ok event
event_read number (Ok other) event is = cc
event_read number (Err rule) event is = absurd (cc is)

event_fits : (number : ℕ) (world : World) (event fit : Event) → if_fits number world event ≡ Ok fit → event ≡ fit
event_fits number world event fit is = by_test (fits world event) is
  where
    by_test : (b : Bool) → cond b (Ok event) (Err (NoFit number)) ≡ Ok fit → event ≡ fit
    by_test true same = cc
    by_test false same = absurd (cc same)

fits_test : (world : World) (event : Event) → Fits world event → fits world event ≡ true
fits_test world event fit = rw (fit.failed, fit.there) refl

ok_same : (x y : Event) → ◌≡◌ {A = Result Event ScriptRule} (Ok x) (Ok y) → x ≡ y
ok_same x y is = cc

-- what an event's line and its reply come to
pub record Told (nodes : ℕ) (world : World) (number : ℕ) (bytes : List ℕ) (one : Event × List ℕ × ℕ) : Type 0 where
  pub read : event_in nodes (line_at bytes) ≡ Ok one.0
  pub stands : after_line bytes ≡ Some (reply_text world one.0 ++ one.1)
  pub numbers : one.2 + length one.1 ≤ number + length bytes
  pub fewer : length one.1 < length bytes

-- what was told, or this
abbrev one_in : Event × List ℕ × ℕ → Result (Event × List ℕ × ℕ) CheckError → Event × List ℕ × ℕ
one_in default (Ok one) = one
one_in default (Err error) = default

module _ (nodes : ℕ) (world : World) (number : ℕ) where
  event_was : (line : List ℕ) (event : Event) → event_told nodes world number line ≡ Ok event → event_in nodes line ≡ Ok event
  unfolding event_told
  event_was line event is =
      let read = bind_ok (event_or number (event_in nodes line)) (if_fits number world) event is in
      event_read number (event_in nodes line) read.0 read.1 ∙ ap (λ (e : Event). Ok e) (event_fits number world read.0 event read.2)

  pub event_so : (line : List ℕ) (event : Event) → event_in nodes line ≡ Ok event → Fits world event → event_told nodes world number line ≡ Ok event
  unfolding event_told
  event_so line event read fit = rw (read, fits_test world event fit) refl

module _ (nodes : ℕ) (world : World) (number : ℕ) (bytes : List ℕ) where
  abbrev pub with_reply : Event → List ℕ × ℕ → Result (Event × List ℕ × ℕ) CheckError
  with_reply event left = Ok (event, left.0, left.1)

  abbrev pub with_event : Event → Result (Event × List ℕ × ℕ) CheckError
  with_event event = after_reply (number + 1) (reply_text world event) (after_line bytes) >>= with_reply event

  pub one_told : (one : Event × List ℕ × ℕ) → told_one nodes world number bytes ≡ Ok one → Told nodes world number bytes one
  unfolding told_one
  one_told one is =
      let event = bind_ok (event_told nodes world number (line_at bytes)) with_event one is in
      let left = bind_ok (after_reply (number + 1) (reply_text world event.0) (after_line bytes)) (with_reply event.0) one event.2 in
      let read = event_was nodes world number (line_at bytes) event.0 event.1 in
      let replied = reply_stood (number + 1) (reply_text world event.0) bytes left.0 left.1 in
      let least : left.0.1 + length left.0.0 < number + 1 + length bytes = replied.numbers in
      let short = shorter bytes (reply_text world event.0 ++ left.0.0) replied.stands in
      let told : Told nodes world number bytes (event.0, left.0.0, left.0.1) =
      record { read = read; stands = replied.stands; numbers = omega (arith, least); fewer = omega (arith, short, length-append (reply_text world event.0) left.0.0) } in
      subst (Told nodes world number bytes) (ap (one_in (event.0, left.0.0, left.0.1)) left.2) told

  one_so : (event : Event) (rest : List ℕ) → event_in nodes (line_at bytes) ≡ Ok event → Fits world event → after_line bytes ≡ Some (reply_text world event ++ rest)
      → (end : ℕ) × (told_one nodes world number bytes ≡ Ok (event, rest, end))
  unfolding told_one
  one_so event rest read fit stands =
      let over = passed_over (number + 1) (reply_text world event) rest in
      let told = event_so nodes world number (line_at bytes) event read fit in
      (over.0, rw (told, stands, over.1) refl)

-- ---- events one after another

module _ (nodes : ℕ) where
  -- what is told is counted
  told_so : (most : ℕ) (world : World) (number count : ℕ) (events : List Event) (bytes : List ℕ) → length bytes < most → Tells nodes world events bytes
      → told_from most nodes world number count bytes ≡ Ok (count + length events)
  told_so zero world number count events bytes few tells = absurd (omega (arith, few))
  told_so (suc most) world number count [] bytes few tells = rw tells (let same : count ≡ count + 0 = omega arith in ap (λ (k : ℕ). Ok k) same)
  told_so (suc most) world number count (event ∷ events) [] few (rest, read, fit, stands, later) = absurd (cc stands)
  told_so (suc most) world number count (event ∷ events) (c ∷ bytes) few (rest, read, fit, stands, later) =
      let one = one_so nodes world number (c ∷ bytes) event rest read fit stands in
      let fewer : length rest < most = omega (arith, few, shorter (c ∷ bytes) (reply_text world event ++ rest) stands, length-append (reply_text world event) rest) in
      let more = told_so most (step world event).world one.0 (count + 1) events rest fewer later in
      let same : count + 1 + length events ≡ count + length (event ∷ events) = omega arith in
      rw one.1 (more ∙ ap (λ (k : ℕ). Ok k) same)

  -- the bytes determine the events
  same_events : (world : World) (one other : List Event) (bytes : List ℕ) → Tells nodes world one bytes → Tells nodes world other bytes → one ≡ other
  same_events world [] [] bytes first second = refl
  same_events world [] (event ∷ events) bytes first (rest, read, fit, stands, later) = absurd (cc (ap after_line first, stands))
  same_events world (event ∷ events) [] bytes (rest, read, fit, stands, later) second = absurd (cc (ap after_line second, stands))
  same_events world (a ∷ one) (b ∷ other) bytes (rest, is_a, fit, stands, later) (rest2, is_b, fit2, stands2, later2) =
      let same : a ≡ b = ok_same a b (sym is_a ∙ is_b) in
      let left : reply_text world a ++ rest ≡ reply_text world b ++ rest2 = some_same (reply_text world a ++ rest) (reply_text world b ++ rest2) (sym stands ∙ stands2) in
      let tail : rest ≡ rest2 = append_cancel_left (reply_text world a) rest rest2 (left ∙ ap (λ (e : Event). reply_text world e ++ rest2) (sym same)) in
      let again : Tells nodes (step world a).world other rest = subst (λ (xs : List ℕ). Tells nodes (step world a).world other xs) (sym tail) (subst (λ (e : Event). Tells nodes (step world e).world other rest2) (sym same) later2) in
      let after = same_events (step world a).world one other rest later again in
      ap (λ (e : Event). e ∷ one) same ∙ ap (λ (es : List Event). b ∷ es) after

  -- each event fits the world that it meets
  all_fit : (world : World) (events : List Event) (bytes : List ℕ) → Tells nodes world events bytes → AllFit world events
  all_fit world [] bytes tells = tt
  all_fit world (event ∷ events) bytes (rest, read, fit, stands, later) = (fit, all_fit (step world event).world events rest later)

-- ---- the whole

pub trace_said : (sizes : ℕ × ℕ × ℕ) (events : List Event) (bytes : List ℕ) → IsTrace sizes events bytes → checked bytes ≡ Ok (length events)
trace_said sizes events bytes trace =
    let whole : told sizes trace.rest ≡ Ok (0 + length events) = told_so sizes.0 (suc (length trace.rest)) (opening_of sizes) 2 0 events trace.rest (omega arith) trace.tells in
    let same : 0 + length events ≡ length events = omega arith in
    ap by_header trace.header ∙ whole ∙ ap (λ (k : ℕ). Ok k) same

rules_out : (bytes : List ℕ) (why : CheckError) → Stops why (checked bytes) → RulesOut why bytes
rules_out bytes Memory stops = tt
rules_out bytes (BadHeader number) stops = λ sizes events trace. absurd (cc (trace_said sizes events bytes trace, stops))
rules_out bytes (BadEvent number) stops = λ sizes events trace. absurd (cc (trace_said sizes events bytes trace, stops))
rules_out bytes (NoFit number) stops = λ sizes events trace. absurd (cc (trace_said sizes events bytes trace, stops))
rules_out bytes (OtherReply number) stops = λ sizes events trace. absurd (cc (trace_said sizes events bytes trace, stops))

-- what was read, or this
abbrev read_or : (ℕ × ℕ × ℕ) × List ℕ → Option ((ℕ × ℕ × ℕ) × List ℕ) → (ℕ × ℕ × ℕ) × List ℕ
read_or default None = default
read_or default (Some read) = read

module _ (law : InEveryRun Safe) (bytes rest : List ℕ) (sizes : ℕ × ℕ × ℕ) (header : header_in bytes ≡ Some (sizes, rest)) where
  -- the same header, and so the same events
  only : (events : List Event) → Tells sizes.0 (opening_of sizes) events rest → (other : ℕ × ℕ × ℕ) (others : List Event) → IsTrace other others bytes → (sizes ≡ other) × (events ≡ others)
  only events tells other others trace =
      let same = sym header ∙ trace.header in
      let one : sizes ≡ other = ap (λ (read : Option ((ℕ × ℕ × ℕ) × List ℕ)). (read_or (sizes, rest) read).0) same in
      let two : rest ≡ trace.rest = ap (λ (read : Option ((ℕ × ℕ × ℕ) × List ℕ)). (read_or (sizes, rest) read).1) same in
      let again : Tells sizes.0 (opening_of sizes) others rest =
      subst (λ (xs : List ℕ). Tells sizes.0 (opening_of sizes) others xs) (sym two) (subst (λ (s : ℕ × ℕ × ℕ). Tells s.0 (opening_of s) others trace.rest) (sym one) trace.tells) in
      (one, same_events sizes.0 (opening_of sizes) events others rest tells again)

  shown : (count : ℕ) → TellsSome sizes count rest → Shows count bytes
  shown count some =
      let defined = all_fit sizes.0 (opening_of sizes) some.events rest some.tells in
      record {
        sizes = sizes;
        events = some.events;
        trace = record { rest = rest; header = header; tells = some.tells };
        counted = some.counted;
        only = only some.events some.tells;
        defined = defined;
        safe = law (set_of sizes) some.events (header_sizes bytes rest sizes header) defined;
      }

  pub count_shows : (result : Result ℕ CheckError) → IfOk result (λ count. TellsSome sizes count rest) → IfOk result (λ count. Shows count bytes)
  count_shows (Ok count) some = shown count some
  count_shows (Err why) some = tt

  pub is_said : (result : Result ℕ CheckError) → Says (λ count. count) result (told sizes rest) → Says (λ count. count) result (checked bytes)
  is_said result said = subst (Says (λ count. count) result) (sym (ap by_header header)) said

  pub error_rules_out : (result : Result ℕ CheckError) → Says (λ count. count) result (told sizes rest) → IfErr result (λ why. RulesOut why bytes)
  error_rules_out (Ok count) said = tt
  error_rules_out (Err why) said = rules_out bytes why (subst (Stops why) (sym (ap by_header header)) said)

-- no header, no trace
pub no_header : (bytes : List ℕ) → header_in bytes ≡ None → (sizes : ℕ × ℕ × ℕ) (events : List Event) → IsTrace sizes events bytes → ⊥
no_header bytes none sizes events trace = cc (sym none ∙ trace.header)
