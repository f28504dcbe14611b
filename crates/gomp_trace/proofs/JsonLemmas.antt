-- One more name of a lane behind those that are written.
use Rattle.std.proofs.Common.{◌≡◌, ℕ, suc, ◌++◌, List, codes, append_assoc}
use Rattle.std.specs.Prelude.{decimal}
use Rattle.serde_json.specs.Written.{compact_text}
use Rattle.gomp_trace.specs.Json.{name_data, next_text, names_text}

pub name_appended : (members m : ℕ) (text before after line name : List ℕ) → before ≡ text ++ names_text members m → after ≡ before ++ next_text line →
    line ≡ compact_text (name_data name (codes "thread_name") m) → name ≡ codes "member " ++ decimal m → after ≡ text ++ names_text members (suc m)
name_appended members m text before after line name so_far written line_is name_is =
    rw (written, so_far, line_is, name_is) (append_assoc text (names_text members m) (next_text (compact_text (name_data (codes "member " ++ decimal m) (codes "thread_name") m))))
