-- What a set of servers does: its state, and the states before it.
use Rattle.std.specs.Prelude.{◌≡◌, ◌⊎◌, ℕ, zero, suc, List, [], ◌∷◌}

pub record History (S : Type 0) : Type 0 where
  pub now : S
  -- newest first
  pub past : List S

abbrev pub followed : {S : Type 0} → History S → S → History S
followed history next = record { now = next; past = history.now ∷ history.past }

-- in one of these states a server was so
abbrev pub HadIn : {S Server : Type 0} → (S → ℕ → Server) → List S → ℕ → Server → Type 0
HadIn server [] number it = ⊥
HadIn server (state ∷ past) number it = (server state number ≡ it) ⊎ HadIn server past number it

-- In one of these steps, newest first, a server became so. Before the first state it was as in that.
abbrev pub TurnedIn : {S Server : Type 0} → (S → ℕ → Server) → List S → ℕ → Server → Server → Type 0
TurnedIn server [] number old new = ⊥
TurnedIn server (state ∷ []) number old new = ⊥
TurnedIn server (state ∷ before ∷ past) number old new =
    ((server before number ≡ old) × (server state number ≡ new))
    ⊎ TurnedIn server (before ∷ past) number old new

-- a server was so, now or at some time before
abbrev pub Had : {S Server : Type 0} → (S → ℕ → Server) → History S → ℕ → Server → Type 0
Had server history number it = HadIn server (history.now ∷ history.past) number it

-- a server was so, and in the next state it was otherwise
abbrev pub Turned : {S Server : Type 0} → (S → ℕ → Server) → History S → ℕ → Server → Server → Type 0
Turned server history number old new = TurnedIn server (history.now ∷ history.past) number old new

-- so many steps of one kind lead from one history to a longer one
abbrev pub Steps : {S : Type 0} → (History S → S → Type 0) → ℕ → History S → History S → Type 0
Steps Next zero old new = new ≡ old
Steps {S} Next (suc count) old new = (next : S) × Next old next × Steps Next count (followed old next) new

-- steps of these kinds, one after another, lead from one history to a longer one
abbrev pub Path : {S Kind : Type 0} → (Kind → History S → S → Type 0) → List Kind → History S → History S
    → Type 0
Path Next [] old new = new ≡ old
Path {S} Next (kind ∷ kinds) old new =
    (next : S) × Next kind old next × Path Next kinds (followed old next) new
