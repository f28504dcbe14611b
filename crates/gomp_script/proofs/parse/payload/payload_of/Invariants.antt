use Rattle.std.proofs.Common.{◌≡◌, ◌-◌, length}
use Rattle.gomp_types.specs.declared.payload.TheConstants.{MAX_WORDS}
use Rattle.gomp_text.specs.Words.{words_of}
use Rattle.gomp_script.specs.StepText.{payload_of}
use Rattle.gomp_script.proofs.PayloadLemmas.{with_words}
use Rattle.gomp_script.proofs.parse.payload.payload_of.Given as goal

-- the words so far, and those that are read of the rest, are those of the whole
abbrev pub invariant-loop-i : goal.invariant-loop-i
invariant-loop-i l = record {
  count : length l.payload ≡ l._i;
  read : with_words l.payload (payload_of (MAX_WORDS - l._i) (words_of l.rest)) ≡ payload_of MAX_WORDS (words_of l.fn.words);
}
