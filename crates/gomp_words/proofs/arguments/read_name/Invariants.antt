use Rattle.std.proofs.Common.{◌≡◌, take, true}
use Rattle.std.specs.List.{list_all}
use Rattle.gomp_words.specs.Calls.{is_byte}
use Rattle.gomp_words.proofs.arguments.read_name.Given as goal

abbrev pub invariant-loop-word : goal.invariant-loop-word
invariant-loop-word l = record {
  read : l.bytes.items ≡ take l.word-index l.words;
  bytes : list_all is_byte (take l.word-index l.words) ≡ true;
}
