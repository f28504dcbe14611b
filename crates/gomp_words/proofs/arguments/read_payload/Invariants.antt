use Rattle.std.proofs.Common.{◌≡◌, take}
use Rattle.gomp_words.proofs.arguments.read_payload.Given as goal

abbrev pub invariant-loop-word : goal.invariant-loop-word
invariant-loop-word l = l.payload ≡ take l.word-index l.words
