-- What a bad line of a script says, of every word: its first fault, in the order in which the line is read.
use Rattle.std.proofs.Common.{◌≡◌, ℕ, List, [], ◌∷◌, Some, None, Ok, Err, refl}
use Rattle.std.specs.Prelude.{ℤ}
use Rattle.gomp_types.specs.declared.cancel.CancelKind.{CancelKind}
use Rattle.gomp_types.specs.declared.depend.Dep.{Dep}
use Rattle.gomp_types.specs.declared.loop_desc.EndKind.{EndKind}
use Rattle.gomp_types.specs.declared.loop_desc.Sched.{Sched}
use Rattle.gomp_text.specs.Numbers.{unsigned, signed}
use Rattle.gomp_script.specs.declared.parse.Why.{Why}
use Rattle.gomp_script.specs.declared.parse.Why.TheVariants as why
use Rattle.gomp_script.specs.StepText.{sched_of, end_of, cancel_kind_of, ordered_of, critical_name_of, behind_items, items_of, final_of}
use Rattle.gomp_region.specs.declared.statement.Addend.{Addend}
use Rattle.gomp_region.specs.declared.statement.Statement.{Statement}
use Rattle.gomp_region.specs.ScriptText.{for_line, sections_line, copy_line, critical_line, task_line, size_of, parallel_line, only_line, cancel_line, point_line, addend_of, add_line, statement_alone, plain_line}

-- of a loop the schedule, then the words that are missing, its end, and its numbers in their order
pub bad_loop_is_told_of : (kind chunk start end incr closing : List ℕ) (rest : List (List ℕ)) (schedule : Sched) (size first bound step : ℤ) (end_kind : EndKind) (fault : Why) →
    (for_line [] ≡ Err why.MissingWord)
    × (sched_of kind ≡ None → for_line (kind ∷ chunk ∷ start ∷ end ∷ incr ∷ closing ∷ rest) ≡ Err why.UnknownWord)
    × (sched_of kind ≡ Some schedule → for_line (kind ∷ []) ≡ Err why.MissingWord)
    × (sched_of kind ≡ Some schedule → for_line (kind ∷ chunk ∷ []) ≡ Err why.MissingWord)
    × (sched_of kind ≡ Some schedule → for_line (kind ∷ chunk ∷ start ∷ []) ≡ Err why.MissingWord)
    × (sched_of kind ≡ Some schedule → for_line (kind ∷ chunk ∷ start ∷ end ∷ []) ≡ Err why.MissingWord)
    × (sched_of kind ≡ Some schedule → for_line (kind ∷ chunk ∷ start ∷ end ∷ incr ∷ []) ≡ Err why.MissingWord)
    × (sched_of kind ≡ Some schedule → end_of closing ≡ None → for_line (kind ∷ chunk ∷ start ∷ end ∷ incr ∷ closing ∷ rest) ≡ Err why.UnknownWord)
    × (sched_of kind ≡ Some schedule → end_of closing ≡ Some end_kind → signed chunk ≡ None → for_line (kind ∷ chunk ∷ start ∷ end ∷ incr ∷ closing ∷ rest) ≡ Err why.BadNumber)
    × (sched_of kind ≡ Some schedule → end_of closing ≡ Some end_kind → signed chunk ≡ Some size → signed start ≡ None → for_line (kind ∷ chunk ∷ start ∷ end ∷ incr ∷ closing ∷ rest) ≡ Err why.BadNumber)
    × (sched_of kind ≡ Some schedule → end_of closing ≡ Some end_kind → signed chunk ≡ Some size → signed start ≡ Some first → signed end ≡ None → for_line (kind ∷ chunk ∷ start ∷ end ∷ incr ∷ closing ∷ rest) ≡ Err why.BadNumber)
    × (sched_of kind ≡ Some schedule → end_of closing ≡ Some end_kind → signed chunk ≡ Some size → signed start ≡ Some first → signed end ≡ Some bound → signed incr ≡ None → for_line (kind ∷ chunk ∷ start ∷ end ∷ incr ∷ closing ∷ rest) ≡ Err why.BadNumber)
    × (sched_of kind ≡ Some schedule → end_of closing ≡ Some end_kind → signed chunk ≡ Some size → signed start ≡ Some first → signed end ≡ Some bound → signed incr ≡ Some step → ordered_of rest ≡ Err fault → for_line (kind ∷ chunk ∷ start ∷ end ∷ incr ∷ closing ∷ rest) ≡ Err fault)
unfolding for_line
bad_loop_is_told_of kind chunk start end incr closing rest schedule size first bound step end_kind fault = (
  refl,
  λ is_kind. rw (is_kind) refl,
  λ is_kind. rw (is_kind) refl,
  λ is_kind. rw (is_kind) refl,
  λ is_kind. rw (is_kind) refl,
  λ is_kind. rw (is_kind) refl,
  λ is_kind. rw (is_kind) refl,
  λ is_kind is_end. rw (is_kind, is_end) refl,
  λ is_kind is_end is_size. rw (is_kind, is_end, is_size) refl,
  λ is_kind is_end is_size is_first. rw (is_kind, is_end, is_size, is_first) refl,
  λ is_kind is_end is_size is_first is_bound. rw (is_kind, is_end, is_size, is_first, is_bound) refl,
  λ is_kind is_end is_size is_first is_bound is_step. rw (is_kind, is_end, is_size, is_first, is_bound, is_step) refl,
  λ is_kind is_end is_size is_first is_bound is_step is_rest. rw (is_kind, is_end, is_size, is_first, is_bound, is_step, is_rest) refl,
)

-- of sections
pub bad_sections_are_told_of : (closing : List ℕ) (end_kind : EndKind) (extra : List ℕ) (more : List (List ℕ)) →
    (sections_line [] ≡ Err why.MissingWord)
    × (end_of closing ≡ None → sections_line (closing ∷ more) ≡ Err why.UnknownWord)
    × (end_of closing ≡ Some end_kind → sections_line (closing ∷ extra ∷ more) ≡ Err why.ExtraWord)
unfolding sections_line
bad_sections_are_told_of closing end_kind extra more = (
  refl,
  λ is_end. rw (is_end) refl,
  λ is_end. rw (is_end) refl,
)

-- of a copy
pub bad_copy_is_told_of : (word : List ℕ) (sent : ℤ) (extra : List ℕ) (more : List (List ℕ)) →
    (copy_line [] ≡ Err why.MissingWord)
    × (signed word ≡ None → copy_line (word ∷ more) ≡ Err why.BadNumber)
    × (signed word ≡ Some sent → copy_line (word ∷ extra ∷ more) ≡ Err why.ExtraWord)
unfolding copy_line
bad_copy_is_told_of word sent extra more = (
  refl,
  λ is_sent. rw (is_sent) refl,
  λ is_sent. rw (is_sent) refl,
)

-- of a critical construct
pub bad_critical_is_told_of : (words : List (List ℕ)) (fault : Why) → critical_name_of words ≡ Err fault → critical_line words ≡ Err fault
unfolding critical_line
bad_critical_is_told_of words fault = λ is_name. rw (is_name) refl

-- of a task
pub bad_task_is_told_of : (words : List (List ℕ)) (items : List Dep) (behind : List (List ℕ)) (extra : List ℕ) (more : List (List ℕ)) (fault : Why) →
    (behind_items (final_of words).1 ≡ Err fault → task_line words ≡ Err fault)
    × (behind_items (final_of words).1 ≡ Ok behind → items_of (final_of words).1 ≡ Err fault → task_line words ≡ Err fault)
    × (behind_items (final_of words).1 ≡ Ok (extra ∷ more) → items_of (final_of words).1 ≡ Ok items → task_line words ≡ Err why.ExtraWord)
unfolding task_line
bad_task_is_told_of words items behind extra more fault = (
  λ is_behind. rw (is_behind) refl,
  λ is_behind is_items. rw (is_behind, is_items) refl,
  λ is_behind is_items. rw (is_behind, is_items) refl,
)

-- of a nested region
pub bad_region_is_told_of : (word : List ℕ) (members : ℕ) (extra : List ℕ) (more : List (List ℕ)) (fault : Why) →
    (parallel_line [] ≡ Err why.MissingWord)
    × (size_of word ≡ Err fault → parallel_line (word ∷ more) ≡ Err fault)
    × (size_of word ≡ Ok members → parallel_line (word ∷ extra ∷ more) ≡ Err why.ExtraWord)
unfolding parallel_line
bad_region_is_told_of word members extra more fault = (
  refl,
  λ is_size. rw (is_size) refl,
  λ is_size. rw (is_size) refl,
)

-- of what one member executes alone
pub bad_only_is_told_of : (word : List ℕ) (number : ℕ) (extra : List ℕ) (more : List (List ℕ)) →
    (only_line [] ≡ Err why.MissingWord)
    × (unsigned 65535 word ≡ None → only_line (word ∷ more) ≡ Err why.BadNumber)
    × (unsigned 65535 word ≡ Some number → only_line (word ∷ extra ∷ more) ≡ Err why.ExtraWord)
unfolding only_line
bad_only_is_told_of word number extra more = (
  refl,
  λ is_member. rw (is_member) refl,
  λ is_member. rw (is_member) refl,
)

-- of a cancellation
pub bad_cancel_is_told_of : (word : List ℕ) (what : CancelKind) (extra : List ℕ) (more : List (List ℕ)) →
    (cancel_line [] ≡ Err why.MissingWord)
    × (cancel_kind_of word ≡ None → cancel_line (word ∷ more) ≡ Err why.UnknownWord)
    × (cancel_kind_of word ≡ Some what → cancel_line (word ∷ extra ∷ more) ≡ Err why.ExtraWord)
unfolding cancel_line
bad_cancel_is_told_of word what extra more = (
  refl,
  λ is_kind. rw (is_kind) refl,
  λ is_kind. rw (is_kind) refl,
)

-- of a cancellation point
pub bad_point_is_told_of : (word : List ℕ) (what : CancelKind) (extra : List ℕ) (more : List (List ℕ)) →
    (point_line [] ≡ Err why.MissingWord)
    × (cancel_kind_of word ≡ None → point_line (word ∷ more) ≡ Err why.UnknownWord)
    × (cancel_kind_of word ≡ Some what → point_line (word ∷ extra ∷ more) ≡ Err why.ExtraWord)
unfolding point_line
bad_point_is_told_of word what extra more = (
  refl,
  λ is_kind. rw (is_kind) refl,
  λ is_kind. rw (is_kind) refl,
)

-- of what is added
pub bad_addition_is_told_of : (word : List ℕ) (addend : Addend) (extra : List ℕ) (more : List (List ℕ)) (fault : Why) →
    (add_line [] ≡ Err why.MissingWord)
    × (addend_of word ≡ Err fault → add_line (word ∷ more) ≡ Err fault)
    × (addend_of word ≡ Ok addend → add_line (word ∷ extra ∷ more) ≡ Err why.ExtraWord)
unfolding add_line
bad_addition_is_told_of word addend extra more fault = (
  refl,
  λ is_addend. rw (is_addend) refl,
  λ is_addend. rw (is_addend) refl,
)

-- of a line of one word
pub bad_line_of_one_word_is_told_of : (word : List ℕ) (alone : Statement) (extra : List ℕ) (more : List (List ℕ)) →
    (statement_alone word ≡ None → plain_line word more ≡ Err why.UnknownWord)
    × (statement_alone word ≡ Some alone → plain_line word (extra ∷ more) ≡ Err why.ExtraWord)
unfolding plain_line
bad_line_of_one_word_is_told_of word alone extra more = (
  λ is_alone. rw (is_alone) refl,
  λ is_alone. rw (is_alone) refl,
)
