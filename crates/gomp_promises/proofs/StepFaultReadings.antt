-- What a bad line of steps says, of every word: its first fault, in the order in which the line is read.
use Rattle.std.proofs.Common.{◌≡◌, ℕ, Bool, List, [], ◌∷◌, Some, None, Ok, Err, codes, refl}
use Rattle.std.specs.Prelude.{ℤ}
use Rattle.gomp_types.specs.declared.call.Call.{Call}
use Rattle.gomp_types.specs.declared.cancel.CancelKind.{CancelKind}
use Rattle.gomp_types.specs.declared.depend.Dep.{Dep}
use Rattle.gomp_types.specs.declared.loop_desc.EndKind.{EndKind}
use Rattle.gomp_types.specs.declared.loop_desc.Sched.{Sched}
use Rattle.gomp_text.specs.Numbers.{unsigned, signed}
use Rattle.gomp_script.specs.declared.parse.Why.{Why}
use Rattle.gomp_script.specs.declared.parse.Why.TheVariants as why
use Rattle.gomp_script.specs.StepText.{sched_of, end_of, cancel_kind_of, clause_of, call_of, plain_step, ordered_of, loop_step, sections_step, payload_of, copy_end_step, ordered_step, critical_name_of, critical_step, critical_end_step, cancel_step, point_step, lock_step, behind_items, items_of, final_of, task_step, taskwait_step, team_of}

-- of a call that stands alone the word is told first, then the member, then a word too many
pub bad_call_alone_is_told : (member word : List ℕ) (number : ℕ) (made : Call) (extra : List ℕ) (more : List (List ℕ)) →
    (call_of word ≡ None → plain_step member word more ≡ Err why.UnknownWord)
    × (call_of word ≡ Some made → unsigned 65535 member ≡ None → plain_step member word more ≡ Err why.BadNumber)
    × (call_of word ≡ Some made → unsigned 65535 member ≡ Some number → plain_step member word (extra ∷ more) ≡ Err why.ExtraWord)
unfolding plain_step
bad_call_alone_is_told member word number made extra more = (
  λ is_call. rw (is_call) refl,
  λ is_call is_member. rw (is_call, is_member) refl,
  λ is_call is_member. rw (is_call, is_member) refl,
)

-- of a loop the schedule, then the words that are missing, its end, the member, and its numbers in their order
pub bad_loop_is_told : (member kind chunk start end incr closing : List ℕ) (rest : List (List ℕ)) (number : ℕ) (schedule : Sched) (size first bound step : ℤ) (end_kind : EndKind) (fault : Why) →
    (loop_step member [] ≡ Err why.MissingWord)
    × (sched_of kind ≡ None → loop_step member (kind ∷ chunk ∷ start ∷ end ∷ incr ∷ closing ∷ rest) ≡ Err why.UnknownWord)
    × (sched_of kind ≡ Some schedule → loop_step member (kind ∷ []) ≡ Err why.MissingWord)
    × (sched_of kind ≡ Some schedule → loop_step member (kind ∷ chunk ∷ []) ≡ Err why.MissingWord)
    × (sched_of kind ≡ Some schedule → loop_step member (kind ∷ chunk ∷ start ∷ []) ≡ Err why.MissingWord)
    × (sched_of kind ≡ Some schedule → loop_step member (kind ∷ chunk ∷ start ∷ end ∷ []) ≡ Err why.MissingWord)
    × (sched_of kind ≡ Some schedule → loop_step member (kind ∷ chunk ∷ start ∷ end ∷ incr ∷ []) ≡ Err why.MissingWord)
    × (sched_of kind ≡ Some schedule → end_of closing ≡ None → loop_step member (kind ∷ chunk ∷ start ∷ end ∷ incr ∷ closing ∷ rest) ≡ Err why.UnknownWord)
    × (sched_of kind ≡ Some schedule → end_of closing ≡ Some end_kind → unsigned 65535 member ≡ None → loop_step member (kind ∷ chunk ∷ start ∷ end ∷ incr ∷ closing ∷ rest) ≡ Err why.BadNumber)
    × (sched_of kind ≡ Some schedule → end_of closing ≡ Some end_kind → unsigned 65535 member ≡ Some number → signed chunk ≡ None → loop_step member (kind ∷ chunk ∷ start ∷ end ∷ incr ∷ closing ∷ rest) ≡ Err why.BadNumber)
    × (sched_of kind ≡ Some schedule → end_of closing ≡ Some end_kind → unsigned 65535 member ≡ Some number → signed chunk ≡ Some size → signed start ≡ None → loop_step member (kind ∷ chunk ∷ start ∷ end ∷ incr ∷ closing ∷ rest) ≡ Err why.BadNumber)
    × (sched_of kind ≡ Some schedule → end_of closing ≡ Some end_kind → unsigned 65535 member ≡ Some number → signed chunk ≡ Some size → signed start ≡ Some first → signed end ≡ None → loop_step member (kind ∷ chunk ∷ start ∷ end ∷ incr ∷ closing ∷ rest) ≡ Err why.BadNumber)
    × (sched_of kind ≡ Some schedule → end_of closing ≡ Some end_kind → unsigned 65535 member ≡ Some number → signed chunk ≡ Some size → signed start ≡ Some first → signed end ≡ Some bound → signed incr ≡ None → loop_step member (kind ∷ chunk ∷ start ∷ end ∷ incr ∷ closing ∷ rest) ≡ Err why.BadNumber)
    × (sched_of kind ≡ Some schedule → end_of closing ≡ Some end_kind → unsigned 65535 member ≡ Some number → signed chunk ≡ Some size → signed start ≡ Some first → signed end ≡ Some bound → signed incr ≡ Some step → ordered_of rest ≡ Err fault → loop_step member (kind ∷ chunk ∷ start ∷ end ∷ incr ∷ closing ∷ rest) ≡ Err fault)
unfolding loop_step
bad_loop_is_told member kind chunk start end incr closing rest number schedule size first bound step end_kind fault = (
  refl,
  λ is_kind. rw (is_kind) refl,
  λ is_kind. rw (is_kind) refl,
  λ is_kind. rw (is_kind) refl,
  λ is_kind. rw (is_kind) refl,
  λ is_kind. rw (is_kind) refl,
  λ is_kind. rw (is_kind) refl,
  λ is_kind is_end. rw (is_kind, is_end) refl,
  λ is_kind is_end is_member. rw (is_kind, is_end, is_member) refl,
  λ is_kind is_end is_member is_size. rw (is_kind, is_end, is_member, is_size) refl,
  λ is_kind is_end is_member is_size is_first. rw (is_kind, is_end, is_member, is_size, is_first) refl,
  λ is_kind is_end is_member is_size is_first is_bound. rw (is_kind, is_end, is_member, is_size, is_first, is_bound) refl,
  λ is_kind is_end is_member is_size is_first is_bound is_step. rw (is_kind, is_end, is_member, is_size, is_first, is_bound, is_step) refl,
  λ is_kind is_end is_member is_size is_first is_bound is_step is_rest. rw (is_kind, is_end, is_member, is_size, is_first, is_bound, is_step, is_rest) refl,
)

-- of sections
pub bad_sections_are_told : (member closing count : List ℕ) (number : ℕ) (end_kind : EndKind) (sections : ℕ) (extra : List ℕ) (more : List (List ℕ)) →
    (sections_step member [] ≡ Err why.MissingWord)
    × (sections_step member (count ∷ []) ≡ Err why.MissingWord)
    × (end_of closing ≡ None → sections_step member (count ∷ closing ∷ more) ≡ Err why.UnknownWord)
    × (end_of closing ≡ Some end_kind → unsigned 65535 member ≡ None → sections_step member (count ∷ closing ∷ more) ≡ Err why.BadNumber)
    × (end_of closing ≡ Some end_kind → unsigned 65535 member ≡ Some number → unsigned 4294967295 count ≡ None → sections_step member (count ∷ closing ∷ more) ≡ Err why.BadNumber)
    × (end_of closing ≡ Some end_kind → unsigned 65535 member ≡ Some number → unsigned 4294967295 count ≡ Some sections → sections_step member (count ∷ closing ∷ extra ∷ more) ≡ Err why.ExtraWord)
unfolding sections_step
bad_sections_are_told member closing count number end_kind sections extra more = (
  refl,
  refl,
  λ is_end. rw (is_end) refl,
  λ is_end is_member. rw (is_end, is_member) refl,
  λ is_end is_member is_count. rw (is_end, is_member, is_count) refl,
  λ is_end is_member is_count. rw (is_end, is_member, is_count) refl,
)

-- of the words of a single the member comes first
pub bad_payload_is_told : (member : List ℕ) (words : List (List ℕ)) (number : ℕ) (fault : Why) →
    (unsigned 65535 member ≡ None → copy_end_step member words ≡ Err why.BadNumber)
    × (unsigned 65535 member ≡ Some number → payload_of 8 words ≡ Err fault → copy_end_step member words ≡ Err fault)
unfolding copy_end_step
bad_payload_is_told member words number fault = (
  λ is_member. rw (is_member) refl,
  λ is_member is_payload. rw (is_member, is_payload) refl,
)

-- of an ordered part
pub bad_ordered_part_is_told : (member value : List ℕ) (number : ℕ) (iteration : ℤ) (extra : List ℕ) (more : List (List ℕ)) →
    (ordered_step member [] ≡ Err why.MissingWord)
    × (unsigned 65535 member ≡ None → ordered_step member (value ∷ more) ≡ Err why.BadNumber)
    × (unsigned 65535 member ≡ Some number → signed value ≡ None → ordered_step member (value ∷ more) ≡ Err why.BadNumber)
    × (unsigned 65535 member ≡ Some number → signed value ≡ Some iteration → ordered_step member (value ∷ extra ∷ more) ≡ Err why.ExtraWord)
unfolding ordered_step
bad_ordered_part_is_told member value number iteration extra more = (
  refl,
  λ is_member. rw (is_member) refl,
  λ is_member is_value. rw (is_member, is_value) refl,
  λ is_member is_value. rw (is_member, is_value) refl,
)

-- of a critical construct
pub bad_critical_is_told : (member : List ℕ) (words : List (List ℕ)) (number : ℕ) (fault : Why) →
    (unsigned 65535 member ≡ None → critical_step member words ≡ Err why.BadNumber)
    × (unsigned 65535 member ≡ Some number → critical_name_of words ≡ Err fault → critical_step member words ≡ Err fault)
unfolding critical_step
bad_critical_is_told member words number fault = (
  λ is_member. rw (is_member) refl,
  λ is_member is_name. rw (is_member, is_name) refl,
)

-- and of its end
pub bad_critical_end_is_told : (member : List ℕ) (words : List (List ℕ)) (number : ℕ) (fault : Why) →
    (unsigned 65535 member ≡ None → critical_end_step member words ≡ Err why.BadNumber)
    × (unsigned 65535 member ≡ Some number → critical_name_of words ≡ Err fault → critical_end_step member words ≡ Err fault)
unfolding critical_end_step
bad_critical_end_is_told member words number fault = (
  λ is_member. rw (is_member) refl,
  λ is_member is_name. rw (is_member, is_name) refl,
)

-- of a cancellation
pub bad_cancel_is_told : (member word truth : List ℕ) (number : ℕ) (what : CancelKind) (clause : Bool) (extra : List ℕ) (more : List (List ℕ)) →
    (cancel_step member [] ≡ Err why.MissingWord)
    × (cancel_kind_of word ≡ None → cancel_step member (word ∷ truth ∷ more) ≡ Err why.UnknownWord)
    × (cancel_kind_of word ≡ Some what → cancel_step member (word ∷ []) ≡ Err why.MissingWord)
    × (cancel_kind_of word ≡ Some what → clause_of truth ≡ None → cancel_step member (word ∷ truth ∷ more) ≡ Err why.UnknownWord)
    × (cancel_kind_of word ≡ Some what → clause_of truth ≡ Some clause → unsigned 65535 member ≡ None → cancel_step member (word ∷ truth ∷ more) ≡ Err why.BadNumber)
    × (cancel_kind_of word ≡ Some what → clause_of truth ≡ Some clause → unsigned 65535 member ≡ Some number → cancel_step member (word ∷ truth ∷ extra ∷ more) ≡ Err why.ExtraWord)
unfolding cancel_step
bad_cancel_is_told member word truth number what clause extra more = (
  refl,
  λ is_kind. rw (is_kind) refl,
  λ is_kind. rw (is_kind) refl,
  λ is_kind is_clause. rw (is_kind, is_clause) refl,
  λ is_kind is_clause is_member. rw (is_kind, is_clause, is_member) refl,
  λ is_kind is_clause is_member. rw (is_kind, is_clause, is_member) refl,
)

-- of a cancellation point
pub bad_point_is_told : (member word : List ℕ) (number : ℕ) (what : CancelKind) (extra : List ℕ) (more : List (List ℕ)) →
    (point_step member [] ≡ Err why.MissingWord)
    × (cancel_kind_of word ≡ None → point_step member (word ∷ more) ≡ Err why.UnknownWord)
    × (cancel_kind_of word ≡ Some what → unsigned 65535 member ≡ None → point_step member (word ∷ more) ≡ Err why.BadNumber)
    × (cancel_kind_of word ≡ Some what → unsigned 65535 member ≡ Some number → point_step member (word ∷ extra ∷ more) ≡ Err why.ExtraWord)
unfolding point_step
bad_point_is_told member word number what extra more = (
  refl,
  λ is_kind. rw (is_kind) refl,
  λ is_kind is_member. rw (is_kind, is_member) refl,
  λ is_kind is_member. rw (is_kind, is_member) refl,
)

-- of a call on a lock
pub bad_lock_call_is_told : (member word : List ℕ) (on : ℕ → Call) (number locked : ℕ) (extra : List ℕ) (more : List (List ℕ)) →
    (lock_step on member [] ≡ Err why.MissingWord)
    × (unsigned 65535 member ≡ None → lock_step on member (word ∷ more) ≡ Err why.BadNumber)
    × (unsigned 65535 member ≡ Some number → unsigned 4294967295 word ≡ None → lock_step on member (word ∷ more) ≡ Err why.BadNumber)
    × (unsigned 65535 member ≡ Some number → unsigned 4294967295 word ≡ Some locked → lock_step on member (word ∷ extra ∷ more) ≡ Err why.ExtraWord)
unfolding lock_step
bad_lock_call_is_told member word on number locked extra more = (
  refl,
  λ is_member. rw (is_member) refl,
  λ is_member is_lock. rw (is_member, is_lock) refl,
  λ is_member is_lock. rw (is_member, is_lock) refl,
)

-- of a task
pub bad_task_is_told : (member code arg : List ℕ) (words : List (List ℕ)) (number job argument : ℕ) (items : List Dep) (behind : List (List ℕ)) (extra : List ℕ) (more : List (List ℕ)) (fault : Why) →
    (task_step member [] ≡ Err why.MissingWord)
    × (task_step member (code ∷ []) ≡ Err why.MissingWord)
    × (behind_items (final_of words).1 ≡ Err fault → task_step member (code ∷ arg ∷ words) ≡ Err fault)
    × (behind_items (final_of words).1 ≡ Ok behind → unsigned 65535 member ≡ None → task_step member (code ∷ arg ∷ words) ≡ Err why.BadNumber)
    × (behind_items (final_of words).1 ≡ Ok behind → unsigned 65535 member ≡ Some number → unsigned 18446744073709551615 code ≡ None → task_step member (code ∷ arg ∷ words) ≡ Err why.BadNumber)
    × (behind_items (final_of words).1 ≡ Ok behind → unsigned 65535 member ≡ Some number → unsigned 18446744073709551615 code ≡ Some job → unsigned 18446744073709551615 arg ≡ None → task_step member (code ∷ arg ∷ words) ≡ Err why.BadNumber)
    × (behind_items (final_of words).1 ≡ Ok behind → unsigned 65535 member ≡ Some number → unsigned 18446744073709551615 code ≡ Some job → unsigned 18446744073709551615 arg ≡ Some argument → items_of (final_of words).1 ≡ Err fault → task_step member (code ∷ arg ∷ words) ≡ Err fault)
    × (behind_items (final_of words).1 ≡ Ok (extra ∷ more) → unsigned 65535 member ≡ Some number → unsigned 18446744073709551615 code ≡ Some job → unsigned 18446744073709551615 arg ≡ Some argument → items_of (final_of words).1 ≡ Ok items → task_step member (code ∷ arg ∷ words) ≡ Err why.ExtraWord)
unfolding task_step
bad_task_is_told member code arg words number job argument items behind extra more fault = (
  refl,
  refl,
  λ is_behind. rw (is_behind) refl,
  λ is_behind is_member. rw (is_behind, is_member) refl,
  λ is_behind is_member is_code. rw (is_behind, is_member, is_code) refl,
  λ is_behind is_member is_code is_arg. rw (is_behind, is_member, is_code, is_arg) refl,
  λ is_behind is_member is_code is_arg is_items. rw (is_behind, is_member, is_code, is_arg, is_items) refl,
  λ is_behind is_member is_code is_arg is_items. rw (is_behind, is_member, is_code, is_arg, is_items) refl,
)

-- of a wait for tasks
pub bad_taskwait_is_told : (member : List ℕ) (words : List (List ℕ)) (number : ℕ) (items : List Dep) (behind : List (List ℕ)) (extra : List ℕ) (more : List (List ℕ)) (fault : Why) →
    (behind_items words ≡ Err fault → taskwait_step member words ≡ Err fault)
    × (behind_items words ≡ Ok behind → unsigned 65535 member ≡ None → taskwait_step member words ≡ Err why.BadNumber)
    × (behind_items words ≡ Ok behind → unsigned 65535 member ≡ Some number → items_of words ≡ Err fault → taskwait_step member words ≡ Err fault)
    × (behind_items words ≡ Ok (extra ∷ more) → unsigned 65535 member ≡ Some number → items_of words ≡ Ok items → taskwait_step member words ≡ Err why.ExtraWord)
unfolding taskwait_step
bad_taskwait_is_told member words number items behind extra more fault = (
  λ is_behind. rw (is_behind) refl,
  λ is_behind is_member. rw (is_behind, is_member) refl,
  λ is_behind is_member is_items. rw (is_behind, is_member, is_items) refl,
  λ is_behind is_member is_items. rw (is_behind, is_member, is_items) refl,
)

-- of a team
pub bad_team_is_told : (word extra : List ℕ) (count : ℕ) (more : List (List ℕ)) →
    (team_of [] ≡ Err why.MissingWord)
    × (team_of (codes "team" ∷ []) ≡ Err why.MissingWord)
    × (unsigned 4294967295 word ≡ None → team_of (codes "team" ∷ word ∷ []) ≡ Err why.BadNumber)
    × (unsigned 4294967295 word ≡ Some count → team_of (codes "team" ∷ word ∷ extra ∷ more) ≡ Err why.ExtraWord)
unfolding team_of
bad_team_is_told word extra count more = (refl, refl, λ is_count. rw is_count refl, λ is_count. rw is_count refl)
