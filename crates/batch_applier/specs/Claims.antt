-- Jobs that workers claim. Each job is in a slot of a table, and word 0 counts the claims.
use Rattle.std.specs.Prelude.{◌≡◌, ◌⊎◌, ℕ, ◌+◌, ◌-◌, ◌^◌, ◌<◌, ◌≤◌, List, [], ◌∷◌, ◌++◌, length, slice_index, Option, None, Some}
use mathlib.Core.Option.{some}
use lib.ListN.{get_elem?}
use Rattle.atomic_table.specs.Table.{State, Me, Step}
use Rattle.turn_board.specs.History.{times, below, total}
use Rattle.batch_applier.specs.declared.view.View.{View}

module _ {T : Type 0} where
  -- it holds all 16 parts of the right to claim
  abbrev pub opened : View T
  opened = record { live = 16; ended = 0; drawn = []; taken = None }

  -- one part of a seat, and all others for a new seat
  abbrev pub one_part : View T → View T
  one_part v = record { live = 1; ended = v.ended; drawn = v.drawn; taken = v.taken }

  abbrev pub other_parts : View T → View T
  other_parts v = record { live = v.live - 1; ended = 0; drawn = []; taken = None }

  abbrev pub joined : View T → View T → View T
  joined v w = record {
    live = v.live + w.live;
    ended = v.ended + w.ended;
    drawn = v.drawn ++ w.drawn;
    taken = v.taken;
  }

  abbrev pub spent : View T
  spent = record { live = 0; ended = 0; drawn = []; taken = None }

  -- it drew the number n, and has that job
  abbrev pub holding : View T → ℕ → T → View T
  holding v n x = record { live = v.live; ended = v.ended; drawn = n ∷ v.drawn; taken = Some (n, x) }

  -- it drew the number n, which is past the last job
  abbrev pub ending : View T → ℕ → View T
  ending v n = record { live = v.live - 1; ended = v.ended + 1; drawn = n ∷ v.drawn; taken = None }

  -- one of its parts drew a number past the last job
  abbrev pub HasNone : Me (Option T) (View T) → Me (Option T) (View T) → Type 0
  HasNone m after = (n : ℕ) × (after ≡ (ending m.0 n, []))

  abbrev pub IsFree : Me (Option T) (View T) → Type 0
  IsFree m = (m.0.taken ≡ None) × (m.1 ≡ [])

  -- all workers that had its parts have ended
  abbrev pub HasEnded : Me (Option T) (View T) → Me (Option T) (View T) → Type 0
  HasEnded m n = IsFree n × (n.0.live + n.0.ended ≡ m.0.live + m.0.ended) × (0 < n.0.ended)

  -- what holds of a seat after this many claims: a job is out only with a seat that drew its number
  pub record Fits (jobs : List (Option T)) (claims : ℕ) (v : View T) : Type 0 where
    pub drew : (k : ℕ) (x : T) → v.taken ≡ Some (k, x)
        → (k < claims) × (get_elem? jobs k ≡ some (Some x)) × (0 < times k v.drawn)
    pub over : 0 < v.ended → length jobs ≤ claims
    pub idle : v.live ≡ 0 → v.ended ≡ 0 → v.taken ≡ None

  -- some seat has this job
  abbrev pub IsOut : ℕ → T → List (View T) → Type 0
  IsOut k x views = (j : ℕ) × (v : View T) × (get_elem? views j ≡ some v) × (v.taken ≡ Some (k, x))

module _ {T : Type 0} (done : T → T → Type 0) where
  -- it has done the job that it has
  abbrev pub HasDone : Me (Option T) (View T) → Type 0
  HasDone m = (k : ℕ) × (x : T) × (y : T) × (m.0.taken ≡ Some (k, x)) × (m.1 ≡ (k, Some y) ∷ []) × done x y

  -- a job that nobody claimed is in its slot as it was, and one that was claimed is out with a seat or done
  abbrev pub Stands : ℕ → T → ℕ → List (mathlib.Core.Option.Option (Option T)) → List (View T) → Type 0
  Stands k x claims homes views = ((claims ≤ k) × (get_elem? homes k ≡ some (some (Some x))))
      ⊎ ((k < claims) × (((y : T) × (get_elem? homes k ≡ some (some (Some y))) × done x y) ⊎ IsOut k x views))

module _ {T : Type 0} (ready : T → Type 0) where
  -- each slot has a job that is ready
  abbrev pub AreReadyJobs : List (Option T) → Type 0
  AreReadyJobs jobs = (k : ℕ) → k < length jobs → (x : T) × (get_elem? jobs k ≡ some (Some x)) × ready x

  -- it has the job with the number k, which is not done yet
  abbrev pub HasJob : Me (Option T) (View T) → ℕ → Type 0
  HasJob m k = (x : T) × (m.0.taken ≡ Some (k, x)) × (m.1 ≡ (k, Some x) ∷ []) × ready x

  -- it took the job with the number n
  abbrev pub HasClaimed : Me (Option T) (View T) → ℕ → Me (Option T) (View T) → Type 0
  HasClaimed m n after = (x : T) × (after ≡ (holding m.0 n x, (n, Some x) ∷ [])) × ready x

  -- what a claim reports: the job of the number drawn, where there is one
  abbrev pub claimed : Step (Option T) → Me (Option T) (View T) → ℕ → Me (Option T) (View T) → Type 0
  claimed st m n after = (n < st.slots → HasClaimed m n after) × (st.slots ≤ n → after ≡ (ending m.0 n, []))
      × ((k : ℕ) (x : T) → m.0.taken ≡ Some (k, x) → k < n)

module _ {T : Type 0} (ready : T → Type 0) (done : T → T → Type 0) where
  -- each number below the word was drawn by one seat
  pub record Invariant (jobs : List (Option T)) (s : State (Option T) (View T)) : Type 0 where
    pub wide : length s.words ≡ 1
    pub long : length s.homes ≡ length jobs
    pub few : length jobs ≤ 2 ^ 32
    pub jobs_ready : AreReadyJobs ready jobs
    pub stand : (k : ℕ) (x : T) → get_elem? jobs k ≡ some (Some x)
        → Stands done k x (slice_index s.words 0) s.homes s.views
    pub drawn : (n : ℕ) → total (λ v. times n v.drawn) s.views ≡ below n (slice_index s.words 0)
    pub claims : slice_index s.words 0 ≤ length jobs + total (λ v. v.ended) s.views
    pub parts : total (λ v. v.live) s.views + total (λ v. v.ended) s.views ≡ 16
    pub each : (j : ℕ) (v : View T) → get_elem? s.views j ≡ some v → Fits jobs (slice_index s.words 0) v

-- each job was done
abbrev pub AreDone : {T : Type 0} → (T → T → Type 0) → List (Option T) → List (Option T) → Type 0
AreDone {T} done before after = (length after ≡ length before)
    × ((k : ℕ) (x : T) → get_elem? before k ≡ some (Some x)
    → (y : T) × (get_elem? after k ≡ some (Some y)) × done x y)
