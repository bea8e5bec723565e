-- What is drawn is of the set, and two nodes that are drawn differ.
use Rattle.std.proofs.Common.{◌≡◌, ℕ, zero, suc, ◌+◌, ◌-◌, ◌*◌, ◌/◌, ◌%◌, ◌==◌, ◌≤◌, ◌<◌, Bool, true, false, cond, Option, None, Some, refl, arith}
use Rattle.std.specs.Prelude.{nat_lt}
use Rattle.rand_pcg.specs.Lcg.{Lcg}
use Rattle.chance_script.specs.declared.happening.Happening.{Happening}
use Rattle.chance_script.specs.declared.happening.Happening.TheVariants.{Insert, Update, Delete, Flush, Pull, Election, Common, Checkpoint, Restart, StepDown, Clock}
use Rattle.chance_script.specs.Generated.{drawn, other_node, pull_from, common_with, of_kind, happening}

-- a node, and another one
abbrev pub AreApart : ℕ → ℕ → ℕ → Type 0
AreApart nodes node other = (node < nodes) × (other < nodes) × (other ≡ node → ⊥)

-- in a set of so many nodes, up to the event of this number
abbrev pub IsWithin : ℕ → ℕ → Happening → Type 0
IsWithin nodes event (Insert node id) = (node < nodes) × (id ≤ event)
IsWithin nodes event (Update node id) = (node < nodes) × (id ≤ event)
IsWithin nodes event (Delete node id) = (node < nodes) × (id ≤ event)
IsWithin nodes event (Flush node) = node < nodes
IsWithin nodes event (Pull node source) = AreApart nodes node source
IsWithin nodes event (Election node) = node < nodes
IsWithin nodes event (Common node other) = AreApart nodes node other
IsWithin nodes event (Checkpoint node) = node < nodes
IsWithin nodes event (Restart node) = node < nodes
IsWithin nodes event (StepDown node) = node < nodes
IsWithin nodes event (Clock node seconds) = (node < nodes) × (seconds < 1000)

-- the same of what is drawn, with the generator after it
record Gives (nodes event : ℕ) (read : Happening × Lcg) : Type 0 where
  inside : IsWithin nodes event read.0

drawn_below : (count : ℕ) (generator : Lcg) → 0 < count → (drawn count generator).0 < count
drawn_below count generator some = omega arith

-- ---- another node

past : (nodes node far : ℕ) → node < nodes → far < nodes - 1 → ((node + 1 + far) % nodes < nodes) × ((node + 1 + far) % nodes ≡ node → ⊥)
past nodes node far within few = (omega arith, λ same. apart (node + 1 + far) ((node + 1 + far) / nodes) ((node + 1 + far) % nodes) (omega arith) same (omega arith) (omega arith))
  where
    apart : (whole times left : ℕ) → nodes * times + left ≡ whole → left ≡ node → node < whole → whole < node + nodes → ⊥
    apart whole zero left is same above below = absurd (omega arith)
    apart whole (suc times) left is same above below = absurd (grind arith)

abbrev IsOther : ℕ → ℕ → Option ℕ → Type 0
IsOther nodes node None = Unit {0}
IsOther nodes node (Some other) = (other < nodes) × (other ≡ node → ⊥)

other_within : (nodes node : ℕ) (generator : Lcg) → node < nodes → IsOther nodes node (other_node nodes node generator).0
other_within nodes node generator within = by_test (nat_lt 1 nodes) refl
  where
    by_test : (b : Bool) → nat_lt 1 nodes ≡ b → IsOther nodes node (cond {A = Option ℕ × Lcg} b (Some ((node + 1 + (drawn (nodes - 1) generator).0) % nodes), (drawn (nodes - 1) generator).1) (None, generator)).0
    by_test true more = past nodes node (drawn (nodes - 1) generator).0 within (drawn_below (nodes - 1) generator (grind arith))
    by_test false one = tt

-- ---- by its kind

choice : (nodes event : ℕ) (b : Bool) (x y : Happening × Lcg) → Gives nodes event x → Gives nodes event y → Gives nodes event (cond b x y)
choice nodes event true x y one other = one
choice nodes event false x y one other = other

pulled : (nodes event node : ℕ) (other : Option ℕ) → node < nodes → IsOther nodes node other → IsWithin nodes event (pull_from node other)
pulled nodes event node None within apart = within
pulled nodes event node (Some source) within apart = (within, apart.0, apart.1)

compared : (nodes event node : ℕ) (other : Option ℕ) → node < nodes → IsOther nodes node other → IsWithin nodes event (common_with node other)
compared nodes event node None within apart = within
compared nodes event node (Some source) within apart = (within, apart.0, apart.1)

kind_within : (nodes event kind node : ℕ) (other : Option ℕ) (generator : Lcg) → node < nodes → IsOther nodes node other → Gives nodes event (of_kind kind event node other generator)
kind_within nodes event kind node other generator within apart =
    let id : (drawn (event + 1) generator).0 ≤ event = omega (arith, drawn_below (event + 1) generator (omega arith)) in
    choice nodes event (nat_lt kind 4) _ _ (record { inside = (within, omega arith) })
    (choice nodes event (kind == 4) _ _ (record { inside = (within, id) })
    (choice nodes event (kind == 5) _ _ (record { inside = (within, id) })
    (choice nodes event (kind == 6) _ _ (record { inside = within })
    (choice nodes event (nat_lt kind 10) _ _ (record { inside = pulled nodes event node other within apart })
    (choice nodes event (kind == 10) _ _ (record { inside = within })
    (choice nodes event (kind == 11) _ _ (record { inside = compared nodes event node other within apart })
    (choice nodes event (kind == 12) _ _ (record { inside = within })
    (choice nodes event (kind == 13) _ _ (record { inside = within })
    (choice nodes event (kind == 14) _ _ (record { inside = within }) (record { inside = (within, drawn_below 1000 generator (omega arith)) }))))))))))

pub happens_within : (nodes event : ℕ) (generator : Lcg) → 1 ≤ nodes → IsWithin nodes event (happening nodes event generator).0
unfolding happening
happens_within nodes event generator some =
    let first = (drawn 16 generator).1 in
    let node = (drawn nodes first).0 in
    let within : node < nodes = drawn_below nodes first (omega arith) in
    let other = other_node nodes node (drawn nodes first).1 in
    (kind_within nodes event (drawn 16 generator).0 node other.0 other.1 within (other_within nodes node (drawn nodes first).1 within)).inside
