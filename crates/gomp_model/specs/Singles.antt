-- The rows of the calls on singles. OpenMP API 5.2, sections 11.1 and 5.7.2.
use Rattle.std.specs.Prelude.{ℕ, true, false, List, []}
use Rattle.gomp_types.specs.Singles.{single_shape}
use Rattle.gomp_shares.specs.Singles.{DealsSingle, DealsCopy, single_given, copy_given, put_tests, words_put}
use Rattle.gomp_model.specs.Row.{Row, at_once}
use Rattle.gomp_model.specs.Starts.{start_row}

-- the start of a single without words
abbrev pub single_start_row : Row
single_start_row = start_row [] (single_shape false) DealsSingle single_given

-- the start of a single with words for the other members
abbrev pub single_copy_start_row : Row
single_copy_start_row = start_row [] (single_shape true) DealsCopy copy_given

-- its end, by the executor, with these words
abbrev pub single_copy_end_row : List ℕ → Row
single_copy_end_row payload = record (at_once put_tests (words_put payload)) { puts = true }
