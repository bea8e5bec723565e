use Rattle.initial_sync.proofs.EntryLemmas.{same_bytes, sound_so, spelled_so}
use Rattle.initial_sync.proofs.comparing.same_entry.Goals as goal

pub returns : goal.returns
returns c =
    same_bytes c.args.one.now c.args.other.now c.in-Some.wanted.items c.in-Some-2.bytes.items c.eq.result c.requires.lawful.0 c.requires.lawful.1
    (sound_so c.args.one.now _ c.in-Some.wanted c.in-Some.is c.in_ok-wanted.ensures.sound)
    (sound_so c.args.other.now _ c.in-Some-2.bytes c.in-Some-2.is c.in_ok-bytes.ensures.sound)
    (spelled_so c.args.one.now _ c.in-Some.wanted c.in-Some.is c.in_ok-wanted.ensures.some)
    (spelled_so c.args.other.now _ c.in-Some-2.bytes c.in-Some-2.is c.in_ok-bytes.ensures.some)
    c.eq.ensures
