-- The disks of a set that couldn't be opened have its nodes as at its opening.
use Rattle.std.proofs.Common.{◌≡◌, ◌∙◌, ◌<◌, ◌≤◌, ◌+◌, ◌*◌, ◌-◌, inl, inr, ap, sym, subst, refl, arith, ℕ, zero, suc, Some, length, List, [], ◌∷◌, ◌++◌, slice_get}
use Rattle.std.specs.Prelude.{All, Result}
use Rattle.std.proofs.lemmas.Bool.{cases_order}
use Rattle.std.proofs.lemmas.List.Elements.{All-get_or}
use Rattle.std.proofs.lemmas.Option.{get_or_from_slice_get, same_Some, slice_get_cases}
use Rattle.rs_disk.specs.File.{IsEmpty}
use Rattle.rs_disk.specs.State.{State}
use Rattle.record_file.specs.declared.error.FileError.{FileError}
use Rattle.member_config.specs.declared.config.Config.{Config}
use Rattle.set_model.specs.Node.{Node, opening_node}
use Rattle.set_model.specs.World.{nodes_from}
use Rattle.node_core.specs.Opening.{unopened_node}
use Rattle.node_core.specs.Stands.{Stands}
use Rattle.node_core.proofs.OpeningLemmas.{empty_stands, still_unopened}
use Rattle.set_world.specs.Acting.{EachNodeStands}
use Rattle.set_world.specs.Disks.{AllBegin, StandsAtNumber, TwoDisksReturned}
use Rattle.set_world.specs.World.{disks_in, nodes_in}
use Rattle.set_world.proofs.DiskLemmas.{checkpoints_of, journal_of}
use Rattle.set_world.proofs.DisksOpenLemmas.{disks_long, get_seam}
use Rattle.set_world.proofs.NodesLemmas.{get_in}
use Rattle.set_world.proofs.OpenLemmas.{all_after}

-- ---- the nodes of a set as it begins

at_begin : (config : Config) (first count n : ℕ) (node : Node) → slice_get (nodes_from config first count) n ≡ Some node → (n < count) × (node ≡ opening_node config (first + n))
at_begin config first zero n node there = absurd (cc there)
at_begin config first (suc count) zero node there =
    (omega arith, sym (same_Some (opening_node config first) node there) ∙ ap (λ k. opening_node config k) (let same : first ≡ first + 0 = omega arith in same))
at_begin config first (suc count) (suc n) node there =
    let rest = at_begin config (first + 1) count n node there in
    let less : n < count = rest.0 in
    (omega (arith, less), rest.1 ∙ ap (λ k. opening_node config k) (let same : first + 1 + n ≡ first + suc n = omega arith in same))

-- ---- disks on which nothing stands

abbrev AreEmpty : {D : Type 0} → (D → State) → List D → Type 0
AreEmpty {D} state disks = All (λ (disk : D). IsEmpty (state disk).file) disks

empty_at : {D : Type 0} (state : D → State) (disks : List D) → AreEmpty state disks → (place : ℕ) → place < length disks → (d : D) × (slice_get disks place ≡ Some d) × IsEmpty (state d).file
empty_at {D} state disks empty place within = elim (slice_get_cases disks place).1 [
  | inl found ↦ (
    found.0,
    found.2,
    subst (λ (d : D). IsEmpty (state d).file) (get_or_from_slice_get disks place found.0 found.0 found.2)
        (All-get_or (λ (d : D). IsEmpty (state d).file) disks place found.0 within empty),
  )
  | inr past ↦ absurd (omega (arith, within, past.0))
]

begins_on : {D : Type 0} (state : D → State) (config : Config) (number k : ℕ) (disks : List D) → AreEmpty state disks → 2 * k + 1 < length disks → StandsAtNumber state k (unopened_node config number) disks
begins_on state config number k disks empty within =
    let journal = empty_at state disks empty (2 * k) (omega (arith, within)) in
    let checkpoints = empty_at state disks empty (2 * k + 1) within in
    record {
      journal = journal.0;
      checkpoints = checkpoints.0;
      journal_at = journal.1;
      checkpoints_at = checkpoints.1;
      stands = empty_stands config number (state journal.0) (state checkpoints.0) journal.2 checkpoints.2;
    }

-- no node was opened yet
pub all_empty : {D : Type 0} (state : D → State) (config : Config) (count : ℕ) (disks : List D) → AreEmpty state disks → 2 * count ≤ length disks → AllBegin state config count disks
all_empty state config count disks empty enough number less = begins_on state config number number disks empty (omega (arith, less, enough))

-- ---- disks of which the first nodes were opened

-- after the disks of so many nodes
stands_after : {D : Type 0} (state : D → State) (front tail : List D) (m k : ℕ) (node : Node) → length front ≡ 2 * m → StandsAtNumber state k node tail → StandsAtNumber state (m + k) node (front ++ tail)
stands_after state front tail m k node long stands = record {
  journal = stands.journal;
  checkpoints = stands.checkpoints;
  journal_at = ap (λ n. slice_get (front ++ tail) n) (let same : 2 * (m + k) ≡ length front + 2 * k = omega (arith, long) in same) ∙ get_seam front tail (2 * k) ∙ stands.journal_at;
  checkpoints_at = ap (λ n. slice_get (front ++ tail) n) (let same : 2 * (m + k) + 1 ≡ length front + (2 * k + 1) = omega (arith, long) in same) ∙ get_seam front tail (2 * k + 1)
      ∙ stands.checkpoints_at;
  stands = stands.stands;
}

module _ {D : Type 0} (state : D → State) (config : Config) (number : ℕ) (ended : Result (Unit {0}) FileError) (so_many : List (Node × D × D)) (disks back : List D)
    (nodes_are : nodes_in so_many ≡ nodes_from config 0 number) (many : length so_many ≡ number) (stand : EachNodeStands state so_many)
    (two : TwoDisksReturned state (unopened_node config number) ended disks back) (empty : AreEmpty state disks) where
  abbrev whole : List D
  whole = disks_in so_many ++ back

  long : length (disks_in so_many) ≡ 2 * number
  long = disks_long so_many ∙ ap (λ n. 2 * n) many

  opened : (n : ℕ) → n < number → StandsAtNumber state n (unopened_node config n) whole
  opened n less = elim (slice_get_cases so_many n).1 [
    | inl found ↦
        let at = at_begin config 0 number n found.0.0 (ap (λ l. slice_get l n) (sym nodes_are) ∙ get_in so_many n found.0 found.2) in
        record {
          journal = found.0.1;
          checkpoints = found.0.2;
          journal_at = journal_of so_many back n found.0 found.2;
          checkpoints_at = checkpoints_of so_many back n found.0 found.2;
          stands = still_unopened config n (state found.0.1) (state found.0.2)
              (subst (λ (x : Node). Stands x (state found.0.1) (state found.0.2)) (at.1 ∙ ap (λ k. opening_node config k) (let plain : 0 + n ≡ n = omega arith in plain)) (stand n found.0 found.2));
        }
    | inr past ↦ absurd (omega (arith, less, many, past.0))
  ]

  -- the one that couldn't be opened
  failed : StandsAtNumber state number (unopened_node config number) whole
  failed =
      subst (λ n. StandsAtNumber state n (unopened_node config number) whole) (let plain : number + 0 ≡ number = omega arith in plain)
      (stands_after state (disks_in so_many) back number 0 (unopened_node config number) long
      (subst (λ l. StandsAtNumber state 0 (unopened_node config number) l) (sym two.back) (record {
        journal = two.journal';
        checkpoints = two.checkpoints';
        journal_at = refl;
        checkpoints_at = refl;
        stands = two.stands;
      })))

  -- those after it
  unopened : (k : ℕ) → 2 * k + 1 < length two.rest → StandsAtNumber state (number + (1 + k)) (unopened_node config (number + (1 + k))) whole
  unopened k within =
      let node = unopened_node config (number + (1 + k)) in
      stands_after state (disks_in so_many) back number (1 + k) node long
      (subst (λ l. StandsAtNumber state (1 + k) node l) (sym two.back)
      (stands_after state (two.journal' ∷ two.checkpoints' ∷ []) two.rest 1 k node refl
      (begins_on state config (number + (1 + k)) k two.rest
      (all_after (λ (disk : D). IsEmpty (state disk).file) disks two.rest two.two.journal two.two.checkpoints two.two.first empty) within)))

  pub all_back : (count : ℕ) (given : List D) → given ≡ whole → 2 * count ≤ length disks + 2 * number → AllBegin state config count given
  all_back count given is enough n less = subst (λ l. StandsAtNumber state n (unopened_node config n) l) (sym is) (elim (cases_order n number) [
    | inl same ↦ subst (λ m. StandsAtNumber state m (unopened_node config m) whole) (sym same) failed
    | inr other ↦ elim other [
      | inl before ↦ opened n before
      | inr after ↦ subst (λ m. StandsAtNumber state m (unopened_node config m) whole) (sym (place after)) (unopened (n - (number + 1)) (room after))
    ]
  ])
    where
      place : number < n → n ≡ number + (1 + (n - (number + 1)))
      place after = omega (arith, after)

      room : number < n → 2 * (n - (number + 1)) + 1 < length two.rest
      room after =
          let all : length disks ≡ suc (suc (length two.rest)) = ap (λ (l : List D). length l) two.two.first in
          omega (arith, after, less, enough, all)
