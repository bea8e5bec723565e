use Rattle.std.proofs.Common.{◌≡◌, ◌≤◌, ◌+◌, ◌++◌, ◌∷◌, [], List, ℕ, length, arith, ap, sym, refl, ◌∙◌}
use Rattle.std.proofs.lemmas.List.{append-nil, length-append}
use Rattle.std.proofs.lemmas.Result.{IfOk-equal}
use Rattle.bson_codec.specs.Numbers.{number_bytes}
use Rattle.bson_doc.specs.Tree.{count, items_count}
use Rattle.bson_doc.proofs.DocLemmas.{fields_from-end, trees_from-end}
use Rattle.bson_doc.specs.Length.{fields_length, items_length}
use Rattle.bson_codec.specs.Spelling.{fields_bytes, items_bytes}
use Rattle.bson_codec.proofs.SpellingLemmas.{closed, length-fields_bytes, length-items_bytes}
use Rattle.bson_codec.proofs.writing.+write.Goals as goal

pub write-close-requires-clause-room : goal.write-close-requires-clause-room
write-close-requires-clause-room t c =
    let past : count c.args.document.now ≤ c.loop-place.place = omega arith in
    let known = rw (fields_from-end c.args.document.now c.loop-place.place past) at c.loop-place.invariant.0 in
    let whole : c.loop-place.out.items ≡ (c.args.out.now.items ++ 0 ∷ 0 ∷ 0 ∷ 0 ∷ []) ++ fields_bytes c.args.document.now =
    sym (append-nil c.loop-place.out.items) ∙ known ∙ ap (λ (xs : List ℕ). xs ++ fields_bytes c.args.document.now) c.in_ok-extend_from_slice.ensures.items in
    let counts : length c.loop-place.out.items ≡ (length c.args.out.now.items + 4) + fields_length c.args.document.now =
    omega (arith, ap length whole, length-append (c.args.out.now.items ++ 0 ∷ 0 ∷ 0 ∷ 0 ∷ []) (fields_bytes c.args.document.now), length-append c.args.out.now.items (0 ∷ 0 ∷ 0 ∷ 0 ∷ []), length-fields_bytes c.args.document.now) in
    omega arith

pub write-close-requires-clause-short : goal.write-close-requires-clause-short
write-close-requires-clause-short t c =
    let past : count c.args.document.now ≤ c.loop-place.place = omega arith in
    let known = rw (fields_from-end c.args.document.now c.loop-place.place past) at c.loop-place.invariant.0 in
    let whole : c.loop-place.out.items ≡ (c.args.out.now.items ++ 0 ∷ 0 ∷ 0 ∷ 0 ∷ []) ++ fields_bytes c.args.document.now =
    sym (append-nil c.loop-place.out.items) ∙ known ∙ ap (λ (xs : List ℕ). xs ++ fields_bytes c.args.document.now) c.in_ok-extend_from_slice.ensures.items in
    let counts : length c.loop-place.out.items ≡ (length c.args.out.now.items + 4) + fields_length c.args.document.now =
    omega (arith, ap length whole, length-append (c.args.out.now.items ++ 0 ∷ 0 ∷ 0 ∷ 0 ∷ []) (fields_bytes c.args.document.now), length-append c.args.out.now.items (0 ∷ 0 ∷ 0 ∷ 0 ∷ []), length-fields_bytes c.args.document.now) in
    omega arith

pub write-returns-clause-laid : goal.write-returns-clause-laid
write-returns-clause-laid t c =
    let past : count c.args.document.now ≤ c.loop-place.place = omega arith in
    let known = rw (fields_from-end c.args.document.now c.loop-place.place past) at c.loop-place.invariant.0 in
    let whole : c.loop-place.out.items ≡ (c.args.out.now.items ++ 0 ∷ 0 ∷ 0 ∷ 0 ∷ []) ++ fields_bytes c.args.document.now =
    sym (append-nil c.loop-place.out.items) ∙ known ∙ ap (λ (xs : List ℕ). xs ++ fields_bytes c.args.document.now) c.in_ok-extend_from_slice.ensures.items in
    let start : c.len-start.result ≡ length c.args.out.now.items = omega arith in
    let sealed = closed c.args.out.now.items (0 ∷ 0 ∷ 0 ∷ 0 ∷ []) (fields_bytes c.args.document.now) c.loop-place.out.items refl whole in
    let counted = ap (λ (n : ℕ). c.args.out.now.items ++ (number_bytes 4 (5 + n) ++ fields_bytes c.args.document.now ++ 0 ∷ [])) (length-fields_bytes c.args.document.now) in
    IfOk-equal c.close.result c.close.new.out.items _ _ c.close.ensures.laid (rw start (sealed ∙ counted))

pub write_items-close-requires-clause-room : goal.write_items-close-requires-clause-room
write_items-close-requires-clause-room t c =
    let past : items_count c.args.items.now ≤ c.loop-place.place = omega arith in
    let known = rw (trees_from-end c.args.items.now c.loop-place.place past) at c.loop-place.invariant.0 in
    let whole : c.loop-place.out.items ≡ (c.args.out.now.items ++ 0 ∷ 0 ∷ 0 ∷ 0 ∷ []) ++ items_bytes 0 c.args.items.now =
    sym (append-nil c.loop-place.out.items) ∙ known ∙ ap (λ (xs : List ℕ). xs ++ items_bytes 0 c.args.items.now) c.in_ok-extend_from_slice.ensures.items in
    let counts : length c.loop-place.out.items ≡ (length c.args.out.now.items + 4) + items_length 0 c.args.items.now =
    omega (arith, ap length whole, length-append (c.args.out.now.items ++ 0 ∷ 0 ∷ 0 ∷ 0 ∷ []) (items_bytes 0 c.args.items.now), length-append c.args.out.now.items (0 ∷ 0 ∷ 0 ∷ 0 ∷ []), length-items_bytes 0 c.args.items.now) in
    omega arith

pub write_items-close-requires-clause-short : goal.write_items-close-requires-clause-short
write_items-close-requires-clause-short t c =
    let past : items_count c.args.items.now ≤ c.loop-place.place = omega arith in
    let known = rw (trees_from-end c.args.items.now c.loop-place.place past) at c.loop-place.invariant.0 in
    let whole : c.loop-place.out.items ≡ (c.args.out.now.items ++ 0 ∷ 0 ∷ 0 ∷ 0 ∷ []) ++ items_bytes 0 c.args.items.now =
    sym (append-nil c.loop-place.out.items) ∙ known ∙ ap (λ (xs : List ℕ). xs ++ items_bytes 0 c.args.items.now) c.in_ok-extend_from_slice.ensures.items in
    let counts : length c.loop-place.out.items ≡ (length c.args.out.now.items + 4) + items_length 0 c.args.items.now =
    omega (arith, ap length whole, length-append (c.args.out.now.items ++ 0 ∷ 0 ∷ 0 ∷ 0 ∷ []) (items_bytes 0 c.args.items.now), length-append c.args.out.now.items (0 ∷ 0 ∷ 0 ∷ 0 ∷ []), length-items_bytes 0 c.args.items.now) in
    omega arith

pub write_items-returns-clause-laid : goal.write_items-returns-clause-laid
write_items-returns-clause-laid t c =
    let past : items_count c.args.items.now ≤ c.loop-place.place = omega arith in
    let known = rw (trees_from-end c.args.items.now c.loop-place.place past) at c.loop-place.invariant.0 in
    let whole : c.loop-place.out.items ≡ (c.args.out.now.items ++ 0 ∷ 0 ∷ 0 ∷ 0 ∷ []) ++ items_bytes 0 c.args.items.now =
    sym (append-nil c.loop-place.out.items) ∙ known ∙ ap (λ (xs : List ℕ). xs ++ items_bytes 0 c.args.items.now) c.in_ok-extend_from_slice.ensures.items in
    let start : c.len-start.result ≡ length c.args.out.now.items = omega arith in
    let sealed = closed c.args.out.now.items (0 ∷ 0 ∷ 0 ∷ 0 ∷ []) (items_bytes 0 c.args.items.now) c.loop-place.out.items refl whole in
    let counted = ap (λ (n : ℕ). c.args.out.now.items ++ (number_bytes 4 (5 + n) ++ items_bytes 0 c.args.items.now ++ 0 ∷ [])) (length-items_bytes 0 c.args.items.now) in
    IfOk-equal c.close.result c.close.new.out.items _ _ c.close.ensures.laid (rw start (sealed ∙ counted))
