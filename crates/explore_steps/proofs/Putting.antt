-- What is computed is kept.
use Rattle.std.proofs.Common.{◌≡◌, ◌∙◌, ◌==◌, inl, inr, ap, sym, subst, ℕ, Some, List, [], ◌∷◌, ◌++◌, length, length-set, slice_get, slice_set}
use Rattle.repl_msg.specs.declared.message.Message.{Message}
use Rattle.set_model.specs.declared.command.Command.{Command}
use Rattle.set_model.specs.Node.{Node}
use Rattle.explore_words.specs.declared.question.Look.{Look}
use Rattle.explore_words.specs.declared.question.Question.{Question}
use Rattle.explore_tables.specs.declared.kept.KeptNumber.{KeptNumber}
use Rattle.explore_steps.specs.declared.steps.Steps.{Steps}
use Rattle.explore_steps.specs.Causes.{is_met_at, own, taken}
use Rattle.explore_steps.specs.Keeping.{AreAdded, AreKept, Grows, HasDeed, IsGrown, IsKeptIn, IsLine, IsLook}
use Rattle.explore_steps.specs.Stepping.{IsAddition, IsStepOf}
use Rattle.explore_steps.specs.Tables.{tables_of}
use Rattle.explore_steps.proofs.Growth.{grow_itself}
use Rattle.explore_steps.proofs.Keeping.{IsNew, IsNewAt, entry, put_at, put_in}

module _ (question : Question) (old : Steps) (kept : AreKept question old) where
  abbrev LineDeed : (act node line number : ℕ) → Type 0
  LineDeed act node line number = (command : Command) × IsLine question act line command × HasDeed (tables_of old) question (own command) node number

  abbrev LineStep : (act cell line number : ℕ) → Type 0
  LineStep act cell line number = (command : Command) × IsLine question act line command × IsStepOf (tables_of old) question (own command) cell number

  abbrev MessageDeed : (node message number : ℕ) → Type 0
  MessageDeed node message number = (m : Message) × (slice_get old.messages message ≡ Some m) × HasDeed (tables_of old) question (taken m) node number

  abbrev MessageStep : (cell message number : ℕ) → Type 0
  MessageStep cell message number = (m : Message) × (slice_get old.messages message ≡ Some m) × IsStepOf (tables_of old) question (taken m) cell number

  abbrev Sight : (want place node met : ℕ) → Type 0
  Sight want place node met =
      (look : Look) × (at : Node) × IsLook question want place look × (slice_get old.nodes node ≡ Some at) × ((met == 1) ≡ is_met_at question.sizes.nodes at look)

  -- a fact of what is kept holds of what is new too
  one_at : (P : ℕ → ℕ → ℕ → ℕ → Type 0) (place one two number at a b c : ℕ) → P place one two number → IsNewAt place one two number at a b c → P at a b c
  one_at P place one two number at a b c fact new =
      subst (λ x. P x a b c) (sym new.place_is) (subst (λ x. P place x b c) (sym new.new.one_is)
      (subst (λ x. P place one x c) (sym new.new.two_is) (subst (λ x. P place one two x) (sym new.new.number_is) fact)))

  one_in : (P : ℕ → ℕ → ℕ → Type 0) (one two number a b c : ℕ) → P one two number → IsNew one two number a b c → P a b c
  one_in P one two number a b c fact new =
      subst (λ x. P x b c) (sym new.one_is) (subst (λ x. P one x c) (sym new.two_is) (subst (λ x. P one two x) (sym new.number_is) fact))

  module _ (other : Steps) (place one two number : ℕ) (entries more : List KeptNumber) (more_is : more ≡ entries ++ entry one two number ∷ []) where
    pub put_line_in : slice_get old.lines_in.items place ≡ Some entries → other.lines_in.items ≡ slice_set old.lines_in.items place more → LineStep place one two number
        → IsGrown question old (record old { lines_in = other.lines_in })
    put_line_in there is fact = record {
      tables = grow_itself (tables_of old);
      kept = record {
        size = kept.size;
        acts_at = kept.acts_at;
        acts_in = ap length is ∙ length-set old.lines_in.items place more ∙ kept.acts_in;
        wants = kept.wants;
        lines_at = kept.lines_at;
        lines_in = λ act cell line n found. elim (put_at old.lines_in.items place entries more one two number act cell line n there more_is (subst (λ (l : List (List KeptNumber)). IsKeptIn l act cell line n) is found)) [
          | inl before ↦ kept.lines_in act cell line n before
          | inr new ↦ one_at LineStep place one two number act cell line n fact new
        ];
        messages_at = kept.messages_at;
        messages_in = kept.messages_in;
        additions = kept.additions;
        sights = kept.sights;
      };
    }

    pub put_line_at : slice_get old.lines_at.items place ≡ Some entries → other.lines_at.items ≡ slice_set old.lines_at.items place more → LineDeed place one two number
        → IsGrown question old (record old { lines_at = other.lines_at })
    put_line_at there is fact = record {
      tables = grow_itself (tables_of old);
      kept = record {
        size = kept.size;
        acts_at = ap length is ∙ length-set old.lines_at.items place more ∙ kept.acts_at;
        acts_in = kept.acts_in;
        wants = kept.wants;
        lines_at = λ act node line n found. elim (put_at old.lines_at.items place entries more one two number act node line n there more_is (subst (λ (l : List (List KeptNumber)). IsKeptIn l act node line n) is found)) [
          | inl before ↦ kept.lines_at act node line n before
          | inr new ↦ one_at LineDeed place one two number act node line n fact new
        ];
        lines_in = kept.lines_in;
        messages_at = kept.messages_at;
        messages_in = kept.messages_in;
        additions = kept.additions;
        sights = kept.sights;
      };
    }

    pub put_sight : slice_get old.sights.items place ≡ Some entries → other.sights.items ≡ slice_set old.sights.items place more → Sight place one two number
        → IsGrown question old (record old { sights = other.sights })
    put_sight there is fact = record {
      tables = grow_itself (tables_of old);
      kept = record {
        size = kept.size;
        acts_at = kept.acts_at;
        acts_in = kept.acts_in;
        wants = ap length is ∙ length-set old.sights.items place more ∙ kept.wants;
        lines_at = kept.lines_at;
        lines_in = kept.lines_in;
        messages_at = kept.messages_at;
        messages_in = kept.messages_in;
        additions = kept.additions;
        sights = λ want at node n found. elim (put_at old.sights.items place entries more one two number want at node n there more_is (subst (λ (l : List (List KeptNumber)). IsKeptIn l want at node n) is found)) [
          | inl before ↦ kept.sights want at node n before
          | inr new ↦ one_at Sight place one two number want at node n fact new
        ];
      };
    }

  module _ (one two number : ℕ) (more : List KeptNumber) where
    pub put_message_in : more ≡ old.messages_in ++ entry one two number ∷ [] → MessageStep one two number → IsGrown question old (record old { messages_in = more })
    put_message_in is fact = record {
      tables = grow_itself (tables_of old);
      kept = record {
        size = kept.size;
        acts_at = kept.acts_at;
        acts_in = kept.acts_in;
        wants = kept.wants;
        lines_at = kept.lines_at;
        lines_in = kept.lines_in;
        messages_at = kept.messages_at;
        messages_in = λ cell message n found. elim (put_in old.messages_in more one two number cell message n is found) [
          | inl before ↦ kept.messages_in cell message n before
          | inr new ↦ one_in MessageStep one two number cell message n fact new
        ];
        additions = kept.additions;
        sights = kept.sights;
      };
    }

    pub put_message_at : more ≡ old.messages_at ++ entry one two number ∷ [] → MessageDeed one two number → IsGrown question old (record old { messages_at = more })
    put_message_at is fact = record {
      tables = grow_itself (tables_of old);
      kept = record {
        size = kept.size;
        acts_at = kept.acts_at;
        acts_in = kept.acts_in;
        wants = kept.wants;
        lines_at = kept.lines_at;
        lines_in = kept.lines_in;
        messages_at = λ node message n found. elim (put_in old.messages_at more one two number node message n is found) [
          | inl before ↦ kept.messages_at node message n before
          | inr new ↦ one_in MessageDeed one two number node message n fact new
        ];
        messages_in = kept.messages_in;
        additions = kept.additions;
        sights = kept.sights;
      };
    }

abbrev AdditionIn : Steps → (cell message new : ℕ) → Type 0
AdditionIn old cell message new = (sent : Message) × (slice_get old.messages message ≡ Some sent) × IsAddition (tables_of old) cell sent new

module _ (old : Steps) (cell message number : ℕ) (more : List KeptNumber) (more_is : more ≡ old.additions ++ entry cell message number ∷ [])
    (fact : (m : Message) × (slice_get old.messages message ≡ Some m) × IsAddition (tables_of old) cell m number) where
  pub put_added : AreAdded old → AreAdded (record old { additions = more })
  put_added added c m n found = elim (put_in old.additions more cell message number c m n more_is found) [
    | inl before ↦ added c m n before
    | inr new ↦
        subst (λ x. AdditionIn old x m n) (sym new.one_is) (subst (λ x. AdditionIn old cell x n) (sym new.two_is) (subst (λ x. AdditionIn old cell message x) (sym new.number_is) fact))
  ]

  pub put_addition : Grows old (record old { additions = more })
  put_addition = record {
    tables = grow_itself (tables_of old);
    kept = λ question kept. record {
      size = kept.size;
      acts_at = kept.acts_at;
      acts_in = kept.acts_in;
      wants = kept.wants;
      lines_at = kept.lines_at;
      lines_in = kept.lines_in;
      messages_at = kept.messages_at;
      messages_in = kept.messages_in;
      additions = put_added kept.additions;
      sights = kept.sights;
    };
  }
