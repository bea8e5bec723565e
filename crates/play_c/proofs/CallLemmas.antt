-- What is answered once a line was played, or asked.
use Rattle.std.proofs.Common.{◌≡◌, ◌∙◌, ℕ, List, [], ◌++◌, Result, Ok, Err, ap, subst, sym}
use Rattle.std.specs.Prelude.{IfErr, OnErr, OnOk}
use Rattle.set_model.specs.declared.command.Command.{Command}
use Rattle.play.specs.Lines.{Fails, bad_line_text}
use Rattle.play.specs.Play.{Played, Plays, asked_of, reply_to, said_to}
use Rattle.play.specs.declared.rule.PlayError.{PlayError}
use Rattle.play.specs.declared.rule.PlayError.TheVariants as errors
use Rattle.play_c.specs.declared.calls.Answer.{Answer}
use Rattle.play_c.specs.declared.calls.Answer.TheVariants.{BadCall, BadLine, BadSizes, Done, Memory, NoSet}
use Rattle.play_c.specs.Calls.{Asks, PlaysOne, Tells}
use Rattle.play_c.specs.Holding.{Holding}

-- the text of a bad line stands alone, after nothing
alone : (mid old : Played) (before text new : List ℕ) (line : Played → List ℕ) → before ≡ [] → text ≡ before → mid ≡ old → new ≡ text ++ line mid → new ≡ line old
alone mid old before text new line none out set told = told ∙ ap (λ (t : List ℕ). t ++ line mid) (out ∙ none) ∙ ap line set

pub played_one : {A : Type 0} (line : List ℕ) (old mid : Played) (before text : List ℕ) (done : Result A PlayError) (new : Holding) (answer : Answer) → before ≡ []
    → OnOk done ((told : List ℕ) × Plays old line mid told × (text ≡ before ++ told)) → IfErr done (λ why. Fails why (said_to old line)) → OnErr done (mid ≡ old) → OnErr done (text ≡ before)
    → Tells done (record { play = mid; text = text }) new answer → PlaysOne line old new answer
played_one line old mid before text (Ok x) new answer none ok err set out told =
    let is : text ≡ ok.0 = ok.2 ∙ ap (λ (b : List ℕ). b ++ ok.0) none in
    subst (λ (a : Answer). PlaysOne line old new a) (sym told.0)
    (subst (λ (h : Holding). Plays old line h.play h.text) (sym told.1) (subst (λ (t : List ℕ). Plays old line mid t) (sym is) ok.1))
played_one line old mid before text (Err errors.Memory) new answer none ok err set out told =
    subst (λ (a : Answer). PlaysOne line old new a) (sym told.0) (ap (λ (h : Holding). h.play) told.1 ∙ set)
played_one line old mid before text (Err (errors.Rule rule)) new BadLine none ok err set out told =
    (told.0 ∙ set, rule, err, alone mid old before text new.text (λ (p : Played). bad_line_text p.line rule) none out set told.1)
played_one line old mid before text (Err (errors.Rule rule)) new Memory none ok err set out told = told ∙ set
played_one line old mid before text (Err (errors.Rule rule)) new Done none ok err set out told = absurd told
played_one line old mid before text (Err (errors.Rule rule)) new BadSizes none ok err set out told = absurd told
played_one line old mid before text (Err (errors.Rule rule)) new BadCall none ok err set out told = absurd told
played_one line old mid before text (Err (errors.Rule rule)) new NoSet none ok err set out told = absurd told

pub asked_one : {A : Type 0} (line : List ℕ) (old mid : Played) (before text : List ℕ) (done : Result A PlayError) (new : Holding) (answer : Answer) → before ≡ []
    → OnOk done ((command : Command) × (asked_of old line ≡ Ok command) × (text ≡ before ++ reply_to old command)) → IfErr done (λ why. Fails why (asked_of old line)) → mid ≡ old → OnErr done (text ≡ before)
    → Tells done (record { play = mid; text = text }) new answer → Asks line old new answer
asked_one line old mid before text (Ok x) new answer none ok err set out told =
    let reply = reply_to old ok.0 in
    let is : new.text ≡ reply = ap (λ (h : Holding). h.text) told.1 ∙ ok.2 ∙ ap (λ (b : List ℕ). b ++ reply) none in
    subst (λ (a : Answer). Asks line old new a) (sym told.0) (ap (λ (h : Holding). h.play) told.1 ∙ set, ok.0, ok.1, is)
asked_one line old mid before text (Err errors.Memory) new answer none ok err set out told =
    subst (λ (a : Answer). Asks line old new a) (sym told.0) (ap (λ (h : Holding). h.play) told.1 ∙ set)
asked_one line old mid before text (Err (errors.Rule rule)) new BadLine none ok err set out told =
    (told.0 ∙ set, rule, err, alone mid old before text new.text (λ (p : Played). bad_line_text p.line rule) none out set told.1)
asked_one line old mid before text (Err (errors.Rule rule)) new Memory none ok err set out told = told ∙ set
asked_one line old mid before text (Err (errors.Rule rule)) new Done none ok err set out told = absurd told
asked_one line old mid before text (Err (errors.Rule rule)) new BadSizes none ok err set out told = absurd told
asked_one line old mid before text (Err (errors.Rule rule)) new BadCall none ok err set out told = absurd told
asked_one line old mid before text (Err (errors.Rule rule)) new NoSet none ok err set out told = absurd told
