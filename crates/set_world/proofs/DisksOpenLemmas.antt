-- The disks of a set, as its nodes are opened on them one after another.
use Rattle.std.proofs.Common.{◌≡◌, ◌∙◌, ◌<◌, ◌≤◌, ◌+◌, ◌*◌, ◌-◌, inl, inr, ap, sym, subst, refl, arith, length-append, ℕ, zero, suc, Some, Ok, Err, Result, length, drop, List, [], ◌∷◌, ◌++◌, slice_get}
use Rattle.std.proofs.lemmas.List.{drop-drop}
use Rattle.std.proofs.Math.Seq.{drop-append_seam, drop-append-add}
use Rattle.std.proofs.lemmas.Bool.{cases_order}
use Rattle.std.proofs.lemmas.Option.{same_Some}
use Rattle.rs_disk.specs.State.{State}
use Rattle.record_file.specs.declared.error.FileError.{FileError}
use Rattle.record_file.specs.declared.error.FileError.TheVariants.{Memory}
use Rattle.set_model.specs.Node.{Node}
use Rattle.node_core.specs.Acting.{RunsWithoutOrders}
use Rattle.node_core.specs.Nodes.{HasFailed}
use Rattle.set_world.specs.Acting.{EachNodeStands, NodeStands}
use Rattle.set_world.specs.Disks.{AllOpened, OpenedAt, OpenedInTurn, WasUsed, Opens, TwoDisksReturned, TwoDisksRan}
use Rattle.set_world.specs.World.{disks_in}

-- ---- disks that were left alone

served_same : {D : Type 0} (state : D → State) (x y : D) → x ≡ y → WasUsed (state x) (state y)
served_same state x y same = subst (λ z. WasUsed (state x) (state z)) same (record { faults = omega arith; steady = λ steady. steady; armed = λ armed. armed; orders = refl })

left_alone : {D : Type 0} (state : D → State) (nodes : ℕ) (ended : Result (Unit {0}) FileError) (disks : List D) → OpenedInTurn state nodes ended disks disks → (HasFailed ended → ⊥)
    → Opens state nodes ended disks disks
left_alone state nodes ended disks in_turn none = record {
  count = refl;
  idle = refl;
  in_turn = in_turn;
  each = λ place before after at at_too. served_same state before after (same_Some before after (sym at ∙ at_too));
  cause = λ fault. absurd (none fault);
  only_armed = λ fault. absurd (none fault);
}

-- no node was opened yet
pub opens_none : {D : Type 0} (state : D → State) (disks : List D) → Opens state 0 (Ok tt) disks disks
opens_none state disks = left_alone state 0 (Ok tt) disks (λ number less. absurd (omega (arith, less))) (λ never. never)

-- memory ran out before the first opening
pub opens_nothing : {D : Type 0} (state : D → State) (nodes : ℕ) (disks : List D) → Opens state nodes (Err Memory) disks disks
opens_nothing state nodes disks = left_alone state nodes (Err Memory) disks (inl (refl, refl)) (λ fault. absurd (cc fault))

-- ---- lists that begin alike

drop_more : {D : Type 0} (n m : ℕ) (xs ys : List D) → n ≤ m → drop n xs ≡ drop n ys → drop m xs ≡ drop m ys
drop_more n m xs ys less same =
    let whole : m ≡ n + (m - n) = omega (arith, less) in
    ap (λ k. drop k xs) whole ∙ sym (drop-drop (m - n) n xs) ∙ ap (λ l. drop (m - n) l) same ∙ drop-drop (m - n) n ys ∙ ap (λ k. drop k ys) (sym whole)

get_drop : {D : Type 0} (n m : ℕ) (xs : List D) → slice_get (drop n xs) m ≡ slice_get xs (n + m)
get_drop zero m xs = ap (λ k. slice_get xs k) (let same : m ≡ zero + m = omega arith in same)
get_drop (suc n) m [] = refl
get_drop (suc n) m (x ∷ xs) = get_drop n m xs ∙ ap (λ k. slice_get (x ∷ xs) k) (let same : suc (n + m) ≡ suc n + m = omega arith in same)

pub get_seam : {D : Type 0} (front tail : List D) (m : ℕ) → slice_get (front ++ tail) (length front + m) ≡ slice_get tail m
get_seam [] tail m = ap (λ k. slice_get tail k) (let same : zero + m ≡ m = omega arith in same)
get_seam (x ∷ front) tail m = ap (λ k. slice_get (x ∷ front ++ tail) k) (let same : suc (length front) + m ≡ suc (length front + m) = omega arith in same) ∙ get_seam front tail m

get_front : {D : Type 0} (front xs ys : List D) (m : ℕ) → m < length front → slice_get (front ++ xs) m ≡ slice_get (front ++ ys) m
get_front [] xs ys m less = absurd (omega (arith, less))
get_front (x ∷ front) xs ys zero less = refl
get_front (x ∷ front) xs ys (suc m) less = get_front front xs ys m (omega (arith, less))

pub there_too : {D : Type 0} (xs ys : List D) (place : ℕ) (x : D) → length ys ≡ length xs → slice_get xs place ≡ Some x → (y : D) × (slice_get ys place ≡ Some y)
there_too [] ys place x same at = absurd (cc at)
there_too (first ∷ xs) [] place x same at = absurd (omega (arith, same))
there_too (first ∷ xs) (other ∷ ys) zero x same at = (other, refl)
there_too (first ∷ xs) (other ∷ ys) (suc place) x same at = there_too xs ys place x (omega (arith, same)) at

pub disks_long : {D : Type 0} (nodes : List (Node × D × D)) → length (disks_in nodes) ≡ 2 * length nodes
disks_long [] = refl
disks_long (node ∷ nodes) = let rest : length (disks_in nodes) ≡ 2 * length nodes = disks_long nodes in omega (arith, rest)

-- ---- one node more

served_then : (a b c : State) → WasUsed a b → WasUsed b c → WasUsed a c
served_then a b c one two = record {
  faults = let first : a.faults ≤ b.faults = one.faults in let second : b.faults ≤ c.faults = two.faults in omega (arith, first, second);
  steady = λ steady. two.steady (one.steady steady);
  armed = λ armed. one.armed (two.armed armed);
  orders = two.orders ∙ one.orders;
}

served_journal : (Fault : Type 0) (j j' c c' : State) → RunsWithoutOrders Fault j j' c c' → WasUsed j j'
served_journal Fault j j' c c' runs = record { faults = runs.fails.journal_faults; steady = runs.fails.journal_steady; armed = runs.journal_armed; orders = runs.journal_orders }

served_checkpoints : (Fault : Type 0) (j j' c c' : State) → RunsWithoutOrders Fault j j' c c' → WasUsed c c'
served_checkpoints Fault j j' c c' runs = record { faults = runs.fails.checkpoint_faults; steady = runs.fails.checkpoint_steady; armed = runs.checkpoints_armed; orders = runs.checkpoints_orders }

-- after the same disks
served_after : {D : Type 0} (state : D → State) (front : List D) (j c j' c' : D) (rest : List D) (place : ℕ) (x y : D) → WasUsed (state j) (state j') → WasUsed (state c) (state c')
    → slice_get (front ++ j ∷ c ∷ rest) place ≡ Some x → slice_get (front ++ j' ∷ c' ∷ rest) place ≡ Some y → WasUsed (state x) (state y)
served_after state [] j c j' c' rest zero x y one two at at_too = subst (λ a. WasUsed (state a) (state y)) (same_Some j x at) (subst (λ b. WasUsed (state j) (state b)) (same_Some j' y at_too) one)
served_after state [] j c j' c' rest (suc zero) x y one two at at_too = subst (λ a. WasUsed (state a) (state y)) (same_Some c x at) (subst (λ b. WasUsed (state c) (state b)) (same_Some c' y at_too) two)
served_after state [] j c j' c' rest (suc (suc place)) x y one two at at_too = served_same state x y (same_Some x y (sym at ∙ at_too))
served_after state (first ∷ front) j c j' c' rest zero x y one two at at_too = served_same state x y (same_Some x y (sym at ∙ at_too))
served_after state (first ∷ front) j c j' c' rest (suc place) x y one two at at_too = served_after state front j c j' c' rest place x y one two at at_too

module _ {D : Type 0} (state : D → State) (number : ℕ) (ended : Result (Unit {0}) FileError) (old : List D) (nodes : List (Node × D × D)) (disks : List D) (journal' checkpoints' : D) (rest : List D)
    (so_far : Opens state number (Ok tt) old (disks_in nodes ++ disks)) (many : length nodes ≡ number) (two : TwoDisksRan state ended disks journal' checkpoints' rest) where
  abbrev front : List D
  front = disks_in nodes

  long : length front ≡ 2 * number
  long = disks_long nodes ∙ ap (λ n. 2 * n) many

  whole : front ++ disks ≡ front ++ two.journal ∷ two.checkpoints ∷ rest
  whole = ap (λ l. front ++ l) two.first

  -- from this node on the disks are those of the beginning
  further : drop (2 * number) old ≡ two.journal ∷ two.checkpoints ∷ rest
  further = sym so_far.idle ∙ ap (λ l. drop (2 * number) l) whole ∙ ap (λ n. drop n (front ++ two.journal ∷ two.checkpoints ∷ rest)) (sym long) ∙ drop-append_seam front (two.journal ∷ two.checkpoints ∷ rest)

  old_journal : slice_get old (2 * number) ≡ Some two.journal
  old_journal = ap (λ n. slice_get old n) (let same : 2 * number ≡ 2 * number + 0 = omega arith in same) ∙ sym (get_drop (2 * number) 0 old) ∙ ap (λ l. slice_get l 0) further

  old_checkpoints : slice_get old (2 * number + 1) ≡ Some two.checkpoints
  old_checkpoints = sym (get_drop (2 * number) 1 old) ∙ ap (λ l. slice_get l 1) further

  new_journal : slice_get (front ++ journal' ∷ checkpoints' ∷ rest) (2 * number) ≡ Some journal'
  new_journal = ap (λ n. slice_get (front ++ journal' ∷ checkpoints' ∷ rest) n) (let same : 2 * number ≡ length front + 0 = omega (arith, long) in same) ∙ get_seam front (journal' ∷ checkpoints' ∷ rest) 0

  new_checkpoints : slice_get (front ++ journal' ∷ checkpoints' ∷ rest) (2 * number + 1) ≡ Some checkpoints'
  new_checkpoints = ap (λ n. slice_get (front ++ journal' ∷ checkpoints' ∷ rest) n) (let same : 2 * number + 1 ≡ length front + 1 = omega (arith, long) in same) ∙ get_seam front (journal' ∷ checkpoints' ∷ rest) 1

  dropped : (a b : D) → drop (2 * (number + 1)) (front ++ a ∷ b ∷ rest) ≡ rest
  dropped a b = ap (λ n. drop n (front ++ a ∷ b ∷ rest)) (let same : 2 * (number + 1) ≡ length front + 2 = omega (arith, long) in same) ∙ drop-append-add front (a ∷ b ∷ rest) 2

  abbrev now : List D
  now = front ++ journal' ∷ checkpoints' ∷ rest

  after_both : drop (2 * (number + 1)) now ≡ drop (2 * (number + 1)) old
  after_both = dropped journal' checkpoints' ∙ sym (dropped two.journal two.checkpoints) ∙ ap (λ l. drop (2 * (number + 1)) l) (sym whole)
      ∙ drop_more (2 * number) (2 * (number + 1)) (front ++ disks) old (omega arith) so_far.idle

  -- what was opened before is still so
  opened_before : AllOpened state number old now
  opened_before k less = let at = so_far.in_turn k less in record {
    journal = at.journal;
    journal' = at.journal';
    checkpoints = at.checkpoints;
    checkpoints' = at.checkpoints';
    journal_was = at.journal_was;
    journal_is = get_front front (journal' ∷ checkpoints' ∷ rest) disks (2 * k) (omega (arith, less, long)) ∙ at.journal_is;
    checkpoints_was = at.checkpoints_was;
    checkpoints_is = get_front front (journal' ∷ checkpoints' ∷ rest) disks (2 * k + 1) (omega (arith, less, long)) ∙ at.checkpoints_is;
    calls = at.calls;
  }

  opened_here : OpenedAt state ended number old now
  opened_here = record {
    journal = two.journal;
    journal' = journal';
    checkpoints = two.checkpoints;
    checkpoints' = checkpoints';
    journal_was = old_journal;
    journal_is = new_journal;
    checkpoints_was = old_checkpoints;
    checkpoints_is = new_checkpoints;
    calls = two.calls;
  }

  one_more : (so : Result (Unit {0}) FileError) → OpenedAt state so number old now → OpenedInTurn state (number + 1) so old now
  one_more (Ok tt) here = λ k less. elim (cases_order k number) [
    | inl same ↦ subst (λ m. OpenedAt state (Ok tt) m old now) (sym same) here
    | inr other ↦ elim other [
      | inl before ↦ opened_before k before
      | inr further ↦ absurd (omega (arith, less, further))
    ]
  ]
  one_more (Err error) here = inr (number, omega arith, opened_before, here, after_both)

  pub opens_next : Opens state (number + 1) ended old (front ++ journal' ∷ checkpoints' ∷ rest)
  opens_next = record {
    count =
        let now : length (front ++ journal' ∷ checkpoints' ∷ rest) ≡ length front + length (journal' ∷ checkpoints' ∷ rest) = length-append front (journal' ∷ checkpoints' ∷ rest) in
        let before : length (front ++ two.journal ∷ two.checkpoints ∷ rest) ≡ length front + length (two.journal ∷ two.checkpoints ∷ rest) = length-append front (two.journal ∷ two.checkpoints ∷ rest) in
        let was : length (front ++ two.journal ∷ two.checkpoints ∷ rest) ≡ length old = ap length (sym whole) ∙ so_far.count in
        omega (arith, now, before, was);
    idle = after_both;
    in_turn = one_more ended opened_here;
    each = λ place before after at at_too.
        let mid = there_too old (front ++ disks) place before so_far.count at in
        served_then (state before) (state mid.0) (state after) (so_far.each place before mid.0 at mid.1)
        (served_after state front two.journal two.checkpoints journal' checkpoints' rest place mid.0 after
        (served_journal (HasFailed ended) (state two.journal) (state journal') (state two.checkpoints) (state checkpoints') two.runs)
        (served_checkpoints (HasFailed ended) (state two.journal) (state journal') (state two.checkpoints) (state checkpoints') two.runs)
        (ap (λ l. slice_get l place) (sym whole) ∙ mid.1) at_too);
    cause = λ fault. elim (two.runs.fails.cause fault) [
      | inl rose ↦ (2 * number, two.journal, journal', omega arith, old_journal, new_journal, rose)
      | inr rose ↦ (2 * number + 1, two.checkpoints, checkpoints', omega arith, old_checkpoints, new_checkpoints, rose)
    ];
    only_armed = λ fault steady. elim (two.runs.fails.only_armed fault (steady (2 * number) two.journal (omega arith) old_journal)
        (steady (2 * number + 1) two.checkpoints (omega arith) old_checkpoints)) [
          | inl armed ↦ (2 * number, two.journal, omega arith, old_journal, armed)
          | inr armed ↦ (2 * number + 1, two.checkpoints, omega arith, old_checkpoints, armed)
        ];
  }

-- the set has more nodes than it was tried to open
opens_wide : {D : Type 0} (state : D → State) (number nodes : ℕ) (error : FileError) (old new : List D) → number ≤ nodes → Opens state number (Err error) old new
    → Opens state nodes (Err error) old new
opens_wide state number nodes error old new more opens = record {
  count = opens.count;
  idle = drop_more (2 * number) (2 * nodes) new old (omega (arith, more)) opens.idle;
  in_turn = elim opens.in_turn [
    | inl none ↦ inl none
    | inr stopped ↦
        let within : stopped.0 < number = stopped.1 in
        inr (stopped.0, omega (arith, within, more), stopped.2, stopped.3, stopped.4)
  ];
  each = opens.each;
  cause = λ fault.
      let rose = opens.cause fault in
      let within : rose.0 < 2 * number = rose.3 in
      (rose.0, rose.1, rose.2, omega (arith, within, more), rose.4, rose.5, rose.6);
  only_armed = λ fault steady.
      let armed = opens.only_armed fault (λ place disk less at. steady place disk (omega (arith, less, more)) at) in
      let within : armed.0 < 2 * number = armed.2 in
      (armed.0, armed.1, omega (arith, within, more), armed.3, armed.4);
}

-- a node is opened
pub opens_more : {D : Type 0} (state : D → State) (number : ℕ) (old : List D) (nodes later : List (Node × D × D)) (node : Node × D × D) (disks rest : List D) → Opens state number (Ok tt) old (disks_in nodes ++ disks)
    → length nodes ≡ number → TwoDisksRan state (Ok tt) disks node.1 node.2 rest → later ≡ nodes ++ node ∷ [] → Opens state (number + 1) (Ok tt) old (disks_in later ++ rest)
opens_more {D} state number old nodes later node disks rest so_far many two is =
    subst (λ (l : List D). Opens state (number + 1) (Ok tt) old l) (sym back) (opens_next state number (Ok tt) old nodes disks node.1 node.2 rest so_far many two)
  where
    back : disks_in later ++ rest ≡ disks_in nodes ++ node.1 ∷ node.2 ∷ rest
    back = ap (λ l. disks_in l ++ rest) is ∙ go nodes
      where
        go : (items : List (Node × D × D)) → disks_in (items ++ node ∷ []) ++ rest ≡ disks_in items ++ node.1 ∷ node.2 ∷ rest
        go [] = refl
        go (first ∷ items) = ap (λ l. first.1 ∷ first.2 ∷ l) (go items)

-- a node couldn't be opened
pub opens_refused : {D : Type 0} (state : D → State) (number nodes : ℕ) (error : FileError) (old : List D) (so_many : List (Node × D × D)) (disks back given : List D) → Opens state number (Ok tt) old (disks_in so_many ++ disks)
    → length so_many ≡ number → number < nodes → (node : Node) → TwoDisksReturned state node (Err error) disks back → given ≡ disks_in so_many ++ back → Opens state nodes (Err error) old given
opens_refused {D} state number nodes error old so_many disks back given so_far many more node two is =
    subst (λ (l : List D). Opens state nodes (Err error) old l) (sym (is ∙ ap (λ l. disks_in so_many ++ l) two.back))
    (opens_wide state (number + 1) nodes error old (disks_in so_many ++ two.journal' ∷ two.checkpoints' ∷ two.rest) (omega (arith, more))
    (opens_next state number (Err error) old so_many disks two.journal' two.checkpoints' two.rest so_far many two.two))

-- ---- what stands on them

each_more : {A : Type 0} (P : A → Type 0) (xs : List A) (x : A) → ((n : ℕ) (y : A) → slice_get xs n ≡ Some y → P y) → P x → (n : ℕ) (y : A) → slice_get (xs ++ x ∷ []) n ≡ Some y → P y
each_more P [] x each is zero y there = subst P (same_Some x y there) is
each_more P [] x each is (suc n) y there = absurd (cc there)
each_more P (first ∷ xs) x each is zero y there = each zero y there
each_more P (first ∷ xs) x each is (suc n) y there = each_more P xs x (λ m z at. each (suc m) z at) is n y there

pub none_stand : {D : Type 0} (state : D → State) → EachNodeStands state []
none_stand state number node there = absurd (cc there)

pub more_stand : {D : Type 0} (state : D → State) (nodes later : List (Node × D × D)) (node : Node × D × D) → EachNodeStands state nodes → NodeStands state node → later ≡ nodes ++ node ∷ [] → EachNodeStands state later
more_stand state nodes later node each stands is number item there =
    each_more (NodeStands state) nodes node each stands number item (ap (λ l. slice_get l number) (sym is) ∙ there)
