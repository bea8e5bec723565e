-- The lines of parts, in an order in which they may be played.
use Rattle.std.proofs.Common.{ℕ, zero, suc, ◌≡◌, ◌+◌, ◌≤◌, List, [], ◌∷◌, ◌++◌, length, length-append, take, drop, Some, append_assoc, refl, ap, sym, subst, arith, inl, inr, ◌∙◌}
use Rattle.std.specs.Prelude.{map, slice_get}
use Rattle.std.specs.List.{flat_map}
use Rattle.std.proofs.Math.Seq.{take-append_seam, take-append-add, take-length, drop-append_seam}
use Rattle.std.proofs.lemmas.List.{append-nil, map-append, length-map}
use Rattle.std.proofs.lemmas.List.Concat.{flat_map-append}
use Rattle.set_model.specs.declared.command.Command.{Command}
use Rattle.set_model.specs.declared.command.Event.{Event}
use Rattle.fault_script.specs.declared.script.Part.{Part}
use Rattle.fault_script.specs.declared.script.Part.TheVariants as parts
use Rattle.fault_script.specs.Merge.{Interleaves, IsMerge}
use Rattle.fault_script.specs.Script.{lines_of, lines_in}
use Rattle.fault_script.proofs.MergeLemmas.{one_after_another}
use Rattle.set_program.specs.Orders.{AreOrdersOf, ComesNext, Follows, FollowsInPart, IsOrderOf}
use Rattle.set_program.specs.Steps.{line_of}

-- ---- how many lines there are

interleaved_long : {A : Type 0} (first second merged : List A) → Interleaves first second merged → length merged ≡ length first + length second
interleaved_long first second [] (none, also) =
    let one = ap (λ (l : List _). length l) none in
    let two = ap (λ (l : List _). length l) also in
    omega (arith, one, two)
interleaved_long first second (item ∷ merged) (inl (rest, is, so)) =
    let again = interleaved_long rest second merged so in
    let one = ap (λ (l : List _). length l) is in
    omega (arith, again, one)
interleaved_long first second (item ∷ merged) (inr (rest, is, so)) =
    let again = interleaved_long first rest merged so in
    let one = ap (λ (l : List _). length l) is in
    omega (arith, again, one)

merge_long : {A : Type 0} (lists : List (List A)) (merged : List A) → IsMerge lists merged → length merged ≡ length (flat_map (λ (list : List A). list) lists)
merge_long [] merged none = ap (λ (l : List _). length l) none
merge_long {A} (list ∷ lists) merged (others, is, so) =
    let rest = merge_long lists others is in
    let one = interleaved_long list others merged so in
    let both = length-append list (flat_map (λ (own : List A). own) lists) in
    omega (arith, rest, one, both)

pub order_long : (part : Part) (lines : List (ℕ × Command)) → IsOrderOf part lines → length lines ≡ length (lines_of part)
order_long (parts.Line number command) lines is = ap (λ (l : List (ℕ × Command)). length l) is
order_long (parts.Par threads) lines is = merge_long threads lines is

pub orders_long : (parts : List Part) (lines : List (ℕ × Command)) → AreOrdersOf parts lines → length lines ≡ length (lines_in parts)
orders_long [] lines none = ap (λ (l : List (ℕ × Command)). length l) none
orders_long (part ∷ later) lines (own, others, is, order, rest) =
    let all = ap (λ (l : List (ℕ × Command)). length l) is in
    let one = order_long part own order in
    let more = orders_long later others rest in
    let both = length-append own others in
    let whole = length-append (lines_of part) (lines_in later) in
    omega (arith, all, one, more, both, whole)

pub follows_long : (parts : List Part) (events : List Event) → Follows parts events → length events ≡ length (lines_in parts)
follows_long parts events follows = sym (length-map events line_of) ∙ orders_long parts (map line_of events) follows

-- ---- parts after parts

-- the lines as they stand are in such an order
pub order_of : (part : Part) → IsOrderOf part (lines_of part)
order_of (parts.Line number command) = refl
order_of (parts.Par threads) = one_after_another threads

pub orders_of : (parts : List Part) → AreOrdersOf parts (lines_in parts)
orders_of [] = refl
orders_of (part ∷ later) = (lines_of part, lines_in later, refl, order_of part, orders_of later)

pub orders_join : (first second : List Part) (own others : List (ℕ × Command)) → AreOrdersOf first own → AreOrdersOf second others → AreOrdersOf (first ++ second) (own ++ others)
orders_join [] second own others none more = subst (λ (ls : List (ℕ × Command)). AreOrdersOf second (ls ++ others)) (sym none) more
orders_join (part ∷ later) second own others (lines, rest, is, order, orders) more =
    (lines, rest ++ others, ap (λ (ls : List (ℕ × Command)). ls ++ others) is ∙ append_assoc lines rest others, order, orders_join later second rest others orders more)

pub one_order : (part : Part) (lines : List (ℕ × Command)) → IsOrderOf part lines → AreOrdersOf (part ∷ []) lines
one_order part lines order = (lines, [], sym (append-nil lines), order, refl)

-- ---- a part after those that are done

module _ (done : List Part) (part : Part) (earlier later : List Event) (follows : Follows done earlier) where
  -- it is played
  pub follows_more : (events : List Event) → events ≡ earlier ++ later → IsOrderOf part (map line_of later) → Follows (done ++ part ∷ []) events
  follows_more events is order =
      subst (λ (ls : List (ℕ × Command)). AreOrdersOf (done ++ part ∷ []) ls) (sym (ap (map line_of) is ∙ map-append line_of earlier later))
      (orders_join done (part ∷ []) (map line_of earlier) (map line_of later) follows (one_order part (map line_of later) order))

  module _ (whole rest : List Part) (split : whole ≡ done ++ part ∷ rest) where
    -- these are its lines, in the order in which they are played
    in_order : (lines : List (ℕ × Command)) → IsOrderOf part lines → AreOrdersOf whole (map line_of earlier ++ (lines ++ lines_in rest))
    in_order lines order =
        subst (λ (ps : List Part). AreOrdersOf ps (map line_of earlier ++ (lines ++ lines_in rest))) (sym split)
        (orders_join done (part ∷ rest) (map line_of earlier) (lines ++ lines_in rest) follows (lines, lines_in rest, refl, order, orders_of rest))

    -- some first lines of it are played
    pub follows_in_part : (events : List Event) (lines : List (ℕ × Command)) → events ≡ earlier ++ later → IsOrderOf part lines → map line_of later ≡ take (length later) lines → FollowsInPart whole events
    follows_in_part events lines is order front = record {
      lines = map line_of earlier ++ (lines ++ lines_in rest);
      follows = in_order lines order;
      front = ap (map line_of) is ∙ map-append line_of earlier later ∙ ap (λ (ls : List (ℕ × Command)). map line_of earlier ++ ls) (front ∙ sym (take_front lines (lines_in rest) (map line_of later) (length later) front (length-map later line_of)))
          ∙ sym (take-append-add (map line_of earlier) (lines ++ lines_in rest) (length later))
          ∙ ap (λ (n : ℕ). take n (map line_of earlier ++ (lines ++ lines_in rest))) count;
    }
      where
        count : length (map line_of earlier) + length later ≡ length events
        count = ap (λ (n : ℕ). n + length later) (length-map earlier line_of) ∙ sym (length-append earlier later) ∙ ap (λ (es : List Event). length es) (sym is)

        take_front : {A : Type 0} (xs ys front : List A) (n : ℕ) → front ≡ take n xs → length front ≡ n → take n (xs ++ ys) ≡ take n xs
        take_front xs ys front zero is long = refl
        take_front [] ys front (suc n) is long = let none = ap (λ (l : List _). length l) is in absurd (omega (arith, none, long))
        take_front (x ∷ xs) ys [] (suc n) is long = absurd (omega (arith, long))
        take_front (x ∷ xs) ys (y ∷ front) (suc n) is long = ap (λ (l : List _). x ∷ l) (take_front xs ys front n (ap (λ (l : List _). drop 1 l) is) (omega (arith, long)))

-- all of them are played
pub all_in_part : (whole : List Part) (events : List Event) → Follows whole events → FollowsInPart whole events
all_in_part whole events follows = record {
  lines = map line_of events;
  follows = follows;
  front = sym (ap (λ (n : ℕ). take n (map line_of events)) (sym (length-map events line_of)) ∙ take-length (map line_of events));
}

-- a line comes next
pub line_comes : (done rest whole : List Part) (number : ℕ) (command : Command) (events : List Event) → whole ≡ done ++ parts.Line number command ∷ rest → Follows done events → ComesNext whole events number command
line_comes done rest whole number command events split follows =
    (lines_in rest, in_order done (parts.Line number command) events [] follows whole rest split ((number, command) ∷ []) refl)

-- ---- where a part stands

pub front_parts : (done rest whole : List Part) (part : Part) → whole ≡ done ++ part ∷ rest → take (length done) whole ≡ done
front_parts done rest whole part split = ap (take (length done)) split ∙ take-append_seam done (part ∷ rest)

pub next_part : (done rest whole : List Part) (part : Part) → whole ≡ done ++ part ∷ rest → take 1 (drop (length done) whole) ≡ part ∷ []
next_part done rest whole part split = ap (λ (ps : List Part). take 1 (drop (length done) ps)) split ∙ ap (take 1) (drop-append_seam done (part ∷ rest))

pub part_at : (done rest whole : List Part) (part : Part) → whole ≡ done ++ part ∷ rest → slice_get whole (length done) ≡ Some part
part_at done rest whole part split = ap (λ (ps : List Part). slice_get ps (length done)) split ∙ at_seam done
  where
    at_seam : (ps : List Part) → slice_get (ps ++ part ∷ rest) (length ps) ≡ Some part
    at_seam [] = refl
    at_seam (p ∷ ps) = at_seam ps

-- there is room for its lines
pub part_room : (done rest whole : List Part) (part : Part) (events : List Event) → whole ≡ done ++ part ∷ rest → Follows done events → length (lines_in whole) ≤ 200000
    → length events + length (lines_of part) ≤ 200000
part_room done rest whole part events split follows few =
    let so_far = follows_long done events follows in
    let all = ap (λ (ps : List Part). length (lines_in ps)) split ∙ ap (λ (ls : List (ℕ × Command)). length ls) (flat_map-append lines_of done (part ∷ rest)) in
    let one = length-append (lines_in done) (lines_of part ++ lines_in rest) in
    let two = length-append (lines_of part) (lines_in rest) in
    omega (arith, so_far, all, one, two, few)
