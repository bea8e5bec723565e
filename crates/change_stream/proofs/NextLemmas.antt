-- The result of a call, if both its events are answered or one isn't.
use Rattle.std.proofs.Common.{◌≡◌, ◌∙◌, ap, sym, subst, refl, inl, inr, Bool, true, false, ℕ, List, Result, Ok, Err, take, if◌then◌else◌}
use Rattle.std.specs.Result.{IsErrAnd, IfErr}
use Rattle.rs_optime.specs.declared.optime.OpTime.{OpTime}
use Rattle.oplog_entry.specs.declared.entry.Entry.{Entry}
use Rattle.set_model.specs.declared.command.Event.{Event}
use Rattle.set_model.specs.Run.{Sizes}
use Rattle.change_stream.specs.Asking.{OwnBreaks, OwnFails, OwnReads, OwnTells}
use Rattle.change_stream.specs.Calls.{Call, answer, is_unknown, part}
use Rattle.change_stream.specs.declared.error.WatchError.{WatchError}
use Rattle.change_stream.specs.declared.error.WatchError.TheVariants.{NodeDown, UnknownToken, HistoryFull, Memory}
use Rattle.change_stream.proofs.StepLemmas.{shows_of}

module _ (alone : Bool) (sizes : Sizes) (old new own own' : List Event) (token : OpTime) (node most : ℕ) where
  pub fails_of : (error : WatchError) → OwnBreaks alone sizes old new own own' node error → OwnFails alone sizes old new own own' token node most error
  fails_of NodeDown breaks = breaks
  fails_of UnknownToken breaks = absurd breaks.0
  fails_of HistoryFull breaks = breaks
  fails_of Memory breaks = (inl breaks.0, breaks.1)

  module _ (commit : OpTime) (log : List Entry) (reads : OwnReads alone sizes old new own own' node commit log) where
    abbrev asked : Call
    asked = record { node = node; term = reads.0.0; commit = commit; log = log; most = most }

    tells : (told : Result (List Entry) WatchError) → answer token asked ≡ told → OwnTells alone sizes old new own own' token node most told
    tells told is = (
      record {
        call = asked;
        node_is = refl;
        most_is = refl;
        asks = reads.0.1;
        shows = shows_of alone sizes old reads.0.1.between new asked reads.0.1.state reads.0.1.first reads.0.1.state_is reads.0.1.second;
        told_is = is;
      },
      reads.1,
    )

    pub tells_unknown : is_unknown token commit log ≡ true → OwnTells alone sizes old new own own' token node most (Err UnknownToken)
    tells_unknown unknown = tells (Err UnknownToken) (ap (λ b. if b then Err UnknownToken else Ok (take most (part token commit log))) unknown)

    pub tells_entries : (entries : List Entry) → is_unknown token commit log ≡ false → entries ≡ take most (part token commit log) → OwnTells alone sizes old new own own' token node most (Ok entries)
    tells_entries entries known is = tells (Ok entries)
        (ap (λ b. if b then Err UnknownToken else Ok (take most (part token commit log))) known ∙ sym (ap (λ (l : List Entry). Ok l) is))

    -- memory ran out for the answer
    pub memory_ends : {A : Type 0} (result : Result A WatchError) → IsErrAnd result (λ error. error ≡ Memory) → (entries : List Entry) → is_unknown token commit log ≡ false → entries ≡ take most (part token commit log)
        → IfErr result (λ error. OwnFails alone sizes old new own own' token node most error)
    memory_ends (Ok done) ended entries known is = tt
    memory_ends (Err error) ended entries known is =
        let told = tells_entries entries known is in
        subst (λ e. OwnFails alone sizes old new own own' token node most e) (sym ended) (inr (entries, told.0), told.1)
