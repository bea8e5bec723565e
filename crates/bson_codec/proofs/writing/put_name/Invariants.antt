use Rattle.std.proofs.Common.{◌≡◌, ◌≤◌, ◌+◌, ◌-◌, ◌++◌, ◌∷◌, length, take, vec_capacity, vec_len}
use Rattle.bson_codec.proofs.writing.put_name.Given as goal

-- the letters so far are laid, and there is room for the others and the zero
abbrev pub invariant-loop-letter : goal.invariant-loop-letter
invariant-loop-letter l = record {
  laid : l.out.items ≡ l.fn.out.items ++ l.fn.kind ∷ take l.letter-index l.letters;
  room : vec_len l.out + ((length l.letters - l.letter-index) + 1) ≤ vec_capacity l.out;
  longer : vec_capacity l.fn.out ≤ vec_capacity l.out;
}
