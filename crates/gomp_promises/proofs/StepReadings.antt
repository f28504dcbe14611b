-- How lines of steps are read, of every word and every number: which words there are, and what a good line says.
use Rattle.std.proofs.Common.{◌≡◌, ◌≢◌, ℕ, Bool, true, false, List, [], ◌∷◌, Some, None, Result, Ok, Err, codes, refl}
use Rattle.std.specs.Prelude.{ℤ, drop, take}
use Rattle.std.proofs.lemmas.Bool.{ne_eqb}
use Rattle.gomp_types.specs.declared.call.Call.{Call}
use Rattle.gomp_types.specs.declared.call.Call.TheVariants.{Cancel, CriticalEnd, CriticalStart, LockDestroy, LoopStart, OrderedStart, Point, SectionsStart, Set, SetNest, SingleCopyEnd, TaskCreate, Taskwait, Test, TestNest, Unset, UnsetNest}
use Rattle.gomp_types.specs.declared.call.Step.{Step}
use Rattle.gomp_types.specs.declared.cancel.CancelKind.{CancelKind}
use Rattle.gomp_types.specs.declared.cancel.CancelKind.TheVariants as named
use Rattle.gomp_types.specs.declared.depend.Dep.{Dep}
use Rattle.gomp_types.specs.declared.depend.DepKind.{DepKind}
use Rattle.gomp_types.specs.declared.depend.DepKind.TheVariants as dep
use Rattle.gomp_types.specs.declared.loop_desc.EndKind.{EndKind}
use Rattle.gomp_types.specs.declared.loop_desc.EndKind.TheVariants as ending
use Rattle.gomp_types.specs.declared.loop_desc.Sched.{Sched}
use Rattle.gomp_types.specs.declared.loop_desc.Sched.TheVariants as sched
use Rattle.gomp_text.specs.Numbers.{unsigned, signed}
use Rattle.gomp_text.specs.Words.{is_ascii, words_of}
use Rattle.gomp_text.proofs.WordLemmas.{same_word_itself}
use Rattle.gomp_script.specs.declared.live.LiveLine.TheVariants as line
use Rattle.gomp_script.specs.declared.parse.Why.{Why}
use Rattle.gomp_script.specs.declared.parse.Why.TheVariants as why
use Rattle.gomp_script.specs.LiveText.{live_of}
use Rattle.gomp_script.specs.StepText.{or_why, next_word, no_more_words, member_named, count_of, unsigned_of, number_of, sched_of, end_of, cancel_kind_of, clause_of, call_of, lock_call_of, depend_kind_of, plain_step, ordered_of, loop_step, sections_step, payload_of, payload_words, copy_end_step, ordered_step, critical_name_of, critical_step, critical_end_step, cancel_step, point_step, lock_step, behind_items, items_of, option_of, if0_of, final_of, task_step, taskwait_step, call_step, step_of, team_of, begins_comment, without_comment, line_words, read_words, some_if_ok}
use Rattle.gomp_promises.proofs.WordReadings.{other_words_differ}

-- Numbers

-- a member has 16 bits, a count 32, and a word of a payload 64, without a sign; a number of a loop has one
pub numbers_have_their_ranges : (word : List ℕ) →
    (member_named word ≡ or_why why.BadNumber (unsigned 65535 word))
    × (count_of word ≡ or_why why.BadNumber (unsigned 4294967295 word))
    × (unsigned_of word ≡ or_why why.BadNumber (unsigned 18446744073709551615 word))
    × (number_of word ≡ or_why why.BadNumber (signed word))
numbers_have_their_ranges word = (refl, refl, refl, refl)

-- what is wanted and there stays as it is, and what is not is told
pub what_is_wanted_stays : {A : Type 0} (fault : Why) (value : A) → (or_why fault (Some value) ≡ Ok value) × (or_why {A = A} fault None ≡ Err fault)
what_is_wanted_stays fault value = (refl, refl)

-- a word is taken with those behind it, or is missing
pub next_word_is_taken : (word : List ℕ) (words : List (List ℕ)) → (next_word (word ∷ words) ≡ Ok (word, words)) × (next_word [] ≡ Err why.MissingWord)
next_word_is_taken word words = (refl, refl)

-- and any word too many is told
pub word_too_many_is_told : (word : List ℕ) (words : List (List ℕ)) → (no_more_words (word ∷ words) ≡ Err why.ExtraWord) × (no_more_words [] ≡ Ok tt)
word_too_many_is_told word words = (refl, refl)

-- Words of lists: each has its meaning, and no other word has one

-- schedules
pub each_schedule_has_its_word :
    (sched_of (codes "static") ≡ Some sched.Static)
    × (sched_of (codes "dynamic") ≡ Some sched.Dynamic)
    × (sched_of (codes "guided") ≡ Some sched.Guided)
    × (sched_of (codes "runtime") ≡ Some sched.Runtime)
each_schedule_has_its_word = (refl, refl, refl, refl)

pub no_other_word_is_a_schedule : (word : List ℕ) → word ≢ codes "static" → word ≢ codes "dynamic" → word ≢ codes "guided" → word ≢ codes "runtime" → sched_of word ≡ None
no_other_word_is_a_schedule word no_static no_dynamic no_guided no_runtime = rw (other_words_differ word _ no_static, other_words_differ word _ no_dynamic, other_words_differ word _ no_guided, other_words_differ word _ no_runtime) refl

-- ends
pub each_end_has_its_word :
    (end_of (codes "wait") ≡ Some ending.Wait)
    × (end_of (codes "nowait") ≡ Some ending.Nowait)
    × (end_of (codes "cancellable") ≡ Some ending.Cancellable)
each_end_has_its_word = (refl, refl, refl)

pub no_other_word_is_an_end : (word : List ℕ) → word ≢ codes "wait" → word ≢ codes "nowait" → word ≢ codes "cancellable" → end_of word ≡ None
no_other_word_is_an_end word no_wait no_nowait no_cancellable = rw (other_words_differ word _ no_wait, other_words_differ word _ no_nowait, other_words_differ word _ no_cancellable) refl

-- what a cancellation names
pub each_cancellation_has_its_word :
    (cancel_kind_of (codes "parallel") ≡ Some named.Parallel)
    × (cancel_kind_of (codes "loop") ≡ Some named.Loop)
    × (cancel_kind_of (codes "sections") ≡ Some named.Sections)
    × (cancel_kind_of (codes "taskgroup") ≡ Some named.Taskgroup)
each_cancellation_has_its_word = (refl, refl, refl, refl)

pub no_other_word_is_cancelled : (word : List ℕ) → word ≢ codes "parallel" → word ≢ codes "loop" → word ≢ codes "sections" → word ≢ codes "taskgroup" → cancel_kind_of word ≡ None
no_other_word_is_cancelled word no_parallel no_loop no_sections no_taskgroup = rw (other_words_differ word _ no_parallel, other_words_differ word _ no_loop, other_words_differ word _ no_sections, other_words_differ word _ no_taskgroup) refl

-- clauses
pub each_clause_has_its_word :
    (clause_of (codes "0") ≡ Some false)
    × (clause_of (codes "1") ≡ Some true)
each_clause_has_its_word = (refl, refl)

pub no_other_word_is_a_clause : (word : List ℕ) → word ≢ codes "0" → word ≢ codes "1" → clause_of word ≡ None
no_other_word_is_a_clause word false_clause true_clause = rw (other_words_differ word _ false_clause, other_words_differ word _ true_clause) refl

-- types of a dependence
pub each_dependence_has_its_word :
    (depend_kind_of (codes "in") ≡ Some dep.DepIn)
    × (depend_kind_of (codes "out") ≡ Some dep.DepOut)
    × (depend_kind_of (codes "inout") ≡ Some dep.DepInout)
    × (depend_kind_of (codes "inoutset") ≡ Some dep.DepInoutset)
    × (depend_kind_of (codes "mutexinoutset") ≡ Some dep.DepMutex)
each_dependence_has_its_word = (refl, refl, refl, refl, refl)

pub no_other_word_is_a_dependence : (word : List ℕ) → word ≢ codes "in" → word ≢ codes "out" → word ≢ codes "inout" → word ≢ codes "inoutset" → word ≢ codes "mutexinoutset" → depend_kind_of word ≡ None
no_other_word_is_a_dependence word no_in no_out no_inout no_inoutset no_mutexinoutset = rw (other_words_differ word _ no_in, other_words_differ word _ no_out, other_words_differ word _ no_inout, other_words_differ word _ no_inoutset, other_words_differ word _ no_mutexinoutset) refl

-- calls that stand alone (each has its word in LineExamples of gomp_script)
pub no_other_word_is_a_call : (word : List ℕ) → word ≢ codes "ordered_end" → word ≢ codes "barrier" → word ≢ codes "region_end" → word ≢ codes "lock_init" → word ≢ codes "nest_init" → word ≢ codes "resume" → word ≢ codes "stop" → word ≢ codes "task_end" → word ≢ codes "group" → word ≢ codes "group_end" → word ≢ codes "next" → word ≢ codes "end" → word ≢ codes "end_nowait" → word ≢ codes "end_cancel" → word ≢ codes "section_next" → word ≢ codes "sections_end" → word ≢ codes "sections_end_nowait" → word ≢ codes "sections_end_cancel" → word ≢ codes "single" → word ≢ codes "single_copy" → call_of word ≡ None
no_other_word_is_a_call word no_ordered_end no_barrier no_region_end no_lock_init no_nest_init no_resume no_stop no_task_end no_group no_group_end no_next no_end no_end_nowait no_end_cancel no_section_next no_sections_end no_sections_end_nowait no_sections_end_cancel no_single no_single_copy = rw (other_words_differ word _ no_ordered_end, other_words_differ word _ no_barrier, other_words_differ word _ no_region_end, other_words_differ word _ no_lock_init, other_words_differ word _ no_nest_init, other_words_differ word _ no_resume, other_words_differ word _ no_stop, other_words_differ word _ no_task_end, other_words_differ word _ no_group, other_words_differ word _ no_group_end, other_words_differ word _ no_next, other_words_differ word _ no_end, other_words_differ word _ no_end_nowait, other_words_differ word _ no_end_cancel, other_words_differ word _ no_section_next, other_words_differ word _ no_sections_end, other_words_differ word _ no_sections_end_nowait, other_words_differ word _ no_sections_end_cancel, other_words_differ word _ no_single, other_words_differ word _ no_single_copy) refl

-- calls on a lock
pub each_call_on_a_lock_has_its_word :
    (lock_call_of (codes "lock_destroy") ≡ Some LockDestroy)
    × (lock_call_of (codes "set") ≡ Some Set)
    × (lock_call_of (codes "test") ≡ Some Test)
    × (lock_call_of (codes "unset") ≡ Some Unset)
    × (lock_call_of (codes "set_nest") ≡ Some SetNest)
    × (lock_call_of (codes "test_nest") ≡ Some TestNest)
    × (lock_call_of (codes "unset_nest") ≡ Some UnsetNest)
each_call_on_a_lock_has_its_word = (refl, refl, refl, refl, refl, refl, refl)

pub no_other_word_is_a_call_on_a_lock : (word : List ℕ) → word ≢ codes "lock_destroy" → word ≢ codes "set" → word ≢ codes "test" → word ≢ codes "unset" → word ≢ codes "set_nest" → word ≢ codes "test_nest" → word ≢ codes "unset_nest" → lock_call_of word ≡ None
no_other_word_is_a_call_on_a_lock word no_lock_destroy no_set no_test no_unset no_set_nest no_test_nest no_unset_nest = rw (other_words_differ word _ no_lock_destroy, other_words_differ word _ no_set, other_words_differ word _ no_test, other_words_differ word _ no_unset, other_words_differ word _ no_set_nest, other_words_differ word _ no_test_nest, other_words_differ word _ no_unset_nest) refl

-- Parts of lines

-- `ordered` may stand at the end of a loop's line, and nothing else
pub loop_is_ordered_by_its_word : (ordered_of [] ≡ Ok false) × (ordered_of (codes "ordered" ∷ []) ≡ Ok true)
loop_is_ordered_by_its_word = (refl, refl)

pub no_other_word_is_ordered : (word : List ℕ) → word ≢ codes "ordered" → ordered_of (word ∷ []) ≡ Err why.ExtraWord
no_other_word_is_ordered word other = rw (other_words_differ word _ other) refl

pub no_two_words_are_ordered : (word other : List ℕ) (words : List (List ℕ)) → ordered_of (word ∷ other ∷ words) ≡ Err why.ExtraWord
no_two_words_are_ordered word other words = refl

-- of a critical name one byte more is kept than one may have, so that one that is too long is told
pub critical_name_is_cut_behind_the_most : (word other : List ℕ) (words : List (List ℕ)) → (critical_name_of [] ≡ Ok []) × (critical_name_of (word ∷ []) ≡ Ok (take 33 word)) × (critical_name_of (word ∷ other ∷ words) ≡ Err why.ExtraWord)
critical_name_is_cut_behind_the_most word other words = (refl, refl, refl)

-- What a good line says

-- a call that stands alone
pub call_alone_is_read : (member word : List ℕ) (number : ℕ) (made : Call) → call_of word ≡ Some made → unsigned 65535 member ≡ Some number → plain_step member word [] ≡ Ok (record { member = number; call = made })
unfolding plain_step
call_alone_is_read member word number made is_call is_member = rw (is_call, is_member) refl

-- the start of a loop
pub loop_is_read : (member kind chunk start end incr closing : List ℕ) (rest : List (List ℕ)) (number : ℕ) (schedule : Sched) (size first bound step : ℤ) (end_kind : EndKind) (is_ordered : Bool) → sched_of kind ≡ Some schedule → end_of closing ≡ Some end_kind → unsigned 65535 member ≡ Some number → signed chunk ≡ Some size → signed start ≡ Some first → signed end ≡ Some bound → signed incr ≡ Some step → ordered_of rest ≡ Ok is_ordered → loop_step member (kind ∷ chunk ∷ start ∷ end ∷ incr ∷ closing ∷ rest) ≡ Ok (record { member = number; call = LoopStart (record { start = first; end = bound; incr = step; sched = schedule; chunk = size; ordered = is_ordered; end_kind = end_kind }) })
unfolding loop_step
loop_is_read member kind chunk start end incr closing rest number schedule size first bound step end_kind is_ordered is_kind is_end is_member is_size is_first is_bound is_step is_rest = rw (is_kind, is_end, is_member, is_size, is_first, is_bound, is_step, is_rest) refl

-- the start of sections
pub sections_are_read : (member closing count : List ℕ) (number : ℕ) (end_kind : EndKind) (sections : ℕ) → end_of closing ≡ Some end_kind → unsigned 65535 member ≡ Some number → unsigned 4294967295 count ≡ Some sections → sections_step member (count ∷ closing ∷ []) ≡ Ok (record { member = number; call = SectionsStart sections end_kind })
unfolding sections_step
sections_are_read member closing count number end_kind sections is_end is_member is_count = rw (is_end, is_member, is_count) refl

-- the words of a single
pub payload_is_read : (member : List ℕ) (words : List (List ℕ)) (number : ℕ) (payload : List ℕ) → unsigned 65535 member ≡ Some number → payload_of 8 words ≡ Ok payload → copy_end_step member words ≡ Ok (record { member = number; call = SingleCopyEnd payload })
unfolding copy_end_step
payload_is_read member words number payload is_member is_payload = rw (is_member, is_payload) refl

-- an ordered part
pub ordered_part_is_read : (member value : List ℕ) (number : ℕ) (iteration : ℤ) → unsigned 65535 member ≡ Some number → signed value ≡ Some iteration → ordered_step member (value ∷ []) ≡ Ok (record { member = number; call = OrderedStart iteration })
unfolding ordered_step
ordered_part_is_read member value number iteration is_member is_value = rw (is_member, is_value) refl

-- a critical construct
pub critical_is_read : (member : List ℕ) (words : List (List ℕ)) (number : ℕ) (name : List ℕ) → unsigned 65535 member ≡ Some number → critical_name_of words ≡ Ok name → critical_step member words ≡ Ok (record { member = number; call = CriticalStart name })
unfolding critical_step
critical_is_read member words number name is_member is_name = rw (is_member, is_name) refl

-- and its end
pub critical_end_is_read : (member : List ℕ) (words : List (List ℕ)) (number : ℕ) (name : List ℕ) → unsigned 65535 member ≡ Some number → critical_name_of words ≡ Ok name → critical_end_step member words ≡ Ok (record { member = number; call = CriticalEnd name })
unfolding critical_end_step
critical_end_is_read member words number name is_member is_name = rw (is_member, is_name) refl

-- a cancellation with its clause
pub cancel_is_read : (member word truth : List ℕ) (number : ℕ) (what : CancelKind) (clause : Bool) → cancel_kind_of word ≡ Some what → clause_of truth ≡ Some clause → unsigned 65535 member ≡ Some number → cancel_step member (word ∷ truth ∷ []) ≡ Ok (record { member = number; call = Cancel what clause })
unfolding cancel_step
cancel_is_read member word truth number what clause is_kind is_clause is_member = rw (is_kind, is_clause, is_member) refl

-- a cancellation point
pub point_is_read : (member word : List ℕ) (number : ℕ) (what : CancelKind) → cancel_kind_of word ≡ Some what → unsigned 65535 member ≡ Some number → point_step member (word ∷ []) ≡ Ok (record { member = number; call = Point what })
unfolding point_step
point_is_read member word number what is_kind is_member = rw (is_kind, is_member) refl

-- a call on a lock
pub lock_call_is_read : (member word : List ℕ) (on : ℕ → Call) (number locked : ℕ) → unsigned 65535 member ≡ Some number → unsigned 4294967295 word ≡ Some locked → lock_step on member (word ∷ []) ≡ Ok (record { member = number; call = on locked })
unfolding lock_step
lock_call_is_read member word on number locked is_member is_lock = rw (is_member, is_lock) refl

-- a task with its clauses and its items
pub task_is_read : (member code arg : List ℕ) (words : List (List ℕ)) (number job argument : ℕ) (items : List Dep) → behind_items (final_of words).1 ≡ Ok [] → unsigned 65535 member ≡ Some number → unsigned 18446744073709551615 code ≡ Some job → unsigned 18446744073709551615 arg ≡ Some argument → items_of (final_of words).1 ≡ Ok items → task_step member (code ∷ arg ∷ words) ≡ Ok (record { member = number; call = TaskCreate (record { code = job; arg = argument; undeferred = (if0_of words).0; final_task = (final_of words).0; deps = items }) })
unfolding task_step
task_is_read member code arg words number job argument items is_behind is_member is_code is_arg is_items = rw (is_behind, is_member, is_code, is_arg, is_items) refl

-- a wait for tasks with its items
pub taskwait_is_read : (member : List ℕ) (words : List (List ℕ)) (number : ℕ) (items : List Dep) → behind_items words ≡ Ok [] → unsigned 65535 member ≡ Some number → items_of words ≡ Ok items → taskwait_step member words ≡ Ok (record { member = number; call = Taskwait items })
unfolding taskwait_step
taskwait_is_read member words number items is_behind is_member is_items = rw (is_behind, is_member, is_items) refl

-- a team
pub team_is_read : (word : List ℕ) (count : ℕ) → unsigned 4294967295 word ≡ Some count → team_of (codes "team" ∷ word ∷ []) ≡ Ok count
unfolding team_of
team_is_read word count is_count = rw is_count refl

-- and nothing else is one
pub no_other_word_is_a_team : (word : List ℕ) (words : List (List ℕ)) → word ≢ codes "team" → team_of (word ∷ words) ≡ Err why.FirstLine
unfolding team_of
no_other_word_is_a_team word words other = rw (other_words_differ word _ other) refl

-- By which word a line is read

pub line_is_read_by_its_call : (member word : List ℕ) (words : List (List ℕ)) → (step_of (member ∷ word ∷ words) ≡ call_step member word words) × (step_of (member ∷ []) ≡ Err why.MissingWord) × (step_of [] ≡ Err why.MissingWord)
line_is_read_by_its_call member word words = (refl, refl, refl)

pub each_call_with_words_is_read : (member : List ℕ) (words : List (List ℕ)) →
    (call_step member (codes "task") words ≡ task_step member words)
    × (call_step member (codes "taskwait") words ≡ taskwait_step member words)
    × (call_step member (codes "loop") words ≡ loop_step member words)
    × (call_step member (codes "sections") words ≡ sections_step member words)
    × (call_step member (codes "single_copy_end") words ≡ copy_end_step member words)
    × (call_step member (codes "ordered") words ≡ ordered_step member words)
    × (call_step member (codes "critical") words ≡ critical_step member words)
    × (call_step member (codes "critical_end") words ≡ critical_end_step member words)
    × (call_step member (codes "cancel") words ≡ cancel_step member words)
    × (call_step member (codes "point") words ≡ point_step member words)
each_call_with_words_is_read member words = (refl, refl, refl, refl, refl, refl, refl, refl, refl, refl)

-- a call on a lock is read by its own word
pub each_call_on_a_lock_is_read : (member word : List ℕ) (words : List (List ℕ)) (on : ℕ → Call) → word ≢ codes "task" → word ≢ codes "taskwait" → word ≢ codes "loop" → word ≢ codes "sections" → word ≢ codes "single_copy_end" → word ≢ codes "ordered" → word ≢ codes "critical" → word ≢ codes "critical_end" → word ≢ codes "cancel" → word ≢ codes "point" → lock_call_of word ≡ Some on → call_step member word words ≡ lock_step on member words
each_call_on_a_lock_is_read member word words on no_task no_taskwait no_loop no_sections no_single_copy_end no_ordered no_critical no_critical_end no_cancel no_point is_lock = rw (other_words_differ word _ no_task, other_words_differ word _ no_taskwait, other_words_differ word _ no_loop, other_words_differ word _ no_sections, other_words_differ word _ no_single_copy_end, other_words_differ word _ no_ordered, other_words_differ word _ no_critical, other_words_differ word _ no_critical_end, other_words_differ word _ no_cancel, other_words_differ word _ no_point, is_lock) refl

-- any other call stands alone
pub any_other_call_stands_alone : (member word : List ℕ) (words : List (List ℕ)) → word ≢ codes "task" → word ≢ codes "taskwait" → word ≢ codes "loop" → word ≢ codes "sections" → word ≢ codes "single_copy_end" → word ≢ codes "ordered" → word ≢ codes "critical" → word ≢ codes "critical_end" → word ≢ codes "cancel" → word ≢ codes "point" → lock_call_of word ≡ None → call_step member word words ≡ plain_step member word words
any_other_call_stands_alone member word words no_task no_taskwait no_loop no_sections no_single_copy_end no_ordered no_critical no_critical_end no_cancel no_point no_lock = rw (other_words_differ word _ no_task, other_words_differ word _ no_taskwait, other_words_differ word _ no_loop, other_words_differ word _ no_sections, other_words_differ word _ no_single_copy_end, other_words_differ word _ no_ordered, other_words_differ word _ no_critical, other_words_differ word _ no_critical_end, other_words_differ word _ no_cancel, other_words_differ word _ no_point, no_lock) refl

-- Lines

-- a comment begins with a hash, and no other word does
pub hash_begins_a_comment : (bytes : List ℕ) (words : List (List ℕ)) → (begins_comment (35 ∷ bytes) ≡ true) × (without_comment ((35 ∷ bytes) ∷ words) ≡ [])
hash_begins_a_comment bytes words = (refl, refl)

pub no_other_byte_begins_a_comment : (b : ℕ) (bytes : List ℕ) (words : List (List ℕ)) → b ≢ 35 → without_comment ((b ∷ bytes) ∷ words) ≡ (b ∷ bytes) ∷ words
no_other_byte_begins_a_comment b bytes words other = rw (ne_eqb b 35 other) refl

-- a line has its words, if all its bytes are ASCII
pub line_has_its_words : (text : List ℕ) → is_ascii text ≡ true → line_words text ≡ Ok (without_comment (words_of text))
line_has_its_words text is = rw is refl

pub line_of_other_bytes_is_bad : (text : List ℕ) → is_ascii text ≡ false → line_words text ≡ Err why.NotAscii
line_of_other_bytes_is_bad text other = rw other refl

-- a line without a word says nothing, and any other what its words say
pub words_of_a_line_are_read : {A : Type 0} (reads : List (List ℕ) → Result A Why) (word : List ℕ) (words : List (List ℕ)) → (read_words reads [] ≡ Ok None) × (read_words reads (word ∷ words) ≡ some_if_ok (reads (word ∷ words)))
words_of_a_line_are_read reads word words = (refl, refl)

pub value_of_a_line_is_had : {A : Type 0} (value : A) (fault : Why) → (some_if_ok (Ok value) ≡ Ok (Some value)) × (some_if_ok {A = A} (Err fault) ≡ Err fault)
value_of_a_line_is_had value fault = (refl, refl)

-- Lines of a talk

-- `team` begins a new one, whether one stands or not
pub new_team_is_asked_for : (has_team : Bool) (word : List ℕ) (count : ℕ) → unsigned 4294967295 word ≡ Some count → live_of has_team (codes "team" ∷ word ∷ []) ≡ Ok (line.NewTeam count)
unfolding team_of
new_team_is_asked_for has_team word count is_count = rw is_count refl

-- any other word is a step of the team that stands
pub step_is_asked_for : (word : List ℕ) (words : List (List ℕ)) (step : Step) → word ≢ codes "team" → step_of (word ∷ words) ≡ Ok step → live_of true (word ∷ words) ≡ Ok (line.NextStep step)
step_is_asked_for word words step other is_step = rw (other_words_differ word _ other, is_step) refl

pub no_step_is_asked_for_without_a_team : (word : List ℕ) (words : List (List ℕ)) → word ≢ codes "team" → live_of false (word ∷ words) ≡ Err why.FirstLine
no_step_is_asked_for_without_a_team word words other = rw (other_words_differ word _ other) refl

-- Items and options

-- an item is a type of a dependence and an address, before later ones
pub item_is_read_before_later_ones : (word addr : List ℕ) (words : List (List ℕ)) (kind : DepKind) (place : ℕ) (items : List Dep) → depend_kind_of word ≡ Some kind → unsigned 18446744073709551615 addr ≡ Some place → items_of words ≡ Ok items → items_of (word ∷ addr ∷ words) ≡ Ok (record { kind = kind; addr = place } ∷ items)
item_is_read_before_later_ones word addr words kind place items is_kind is_addr is_items = rw (is_kind, is_addr, is_items) refl

-- what begins with no such word has none
pub other_words_have_no_items : (word addr : List ℕ) (words : List (List ℕ)) → depend_kind_of word ≡ None → (items_of (word ∷ addr ∷ words) ≡ Ok []) × (items_of (word ∷ []) ≡ Ok []) × (items_of [] ≡ Ok [])
other_words_have_no_items word addr words none = (rw none refl, rw none refl, refl)

-- an item without its address is told
pub item_without_address_is_told : (word : List ℕ) (kind : DepKind) → depend_kind_of word ≡ Some kind → (items_of (word ∷ []) ≡ Err why.MissingWord) × (behind_items (word ∷ []) ≡ Err why.MissingWord)
item_without_address_is_told word kind is = (rw is refl, rw is refl)

-- and what is behind items is all that is no item
pub words_behind_items_are_left : (word addr : List ℕ) (words : List (List ℕ)) (kind : DepKind) →
    (depend_kind_of word ≡ Some kind → behind_items (word ∷ addr ∷ words) ≡ behind_items words) × (depend_kind_of word ≡ None → behind_items (word ∷ addr ∷ words) ≡ Ok (word ∷ addr ∷ words)) × (depend_kind_of word ≡ None → behind_items (word ∷ []) ≡ Ok (word ∷ [])) × (behind_items [] ≡ Ok [])
words_behind_items_are_left word addr words kind = (λ is. rw is refl, λ none. rw none refl, λ none. rw none refl, refl)

-- an option is taken if it stands in front
pub option_in_front_is_taken : (name : List ℕ) (words : List (List ℕ)) → (option_of name (name ∷ words) ≡ (true, words)) × (option_of name [] ≡ (false, []))
option_in_front_is_taken name words = (rw (same_word_itself name) refl, refl)

pub other_word_in_front_stays : (name word : List ℕ) (words : List (List ℕ)) → word ≢ name → option_of name (word ∷ words) ≡ (false, word ∷ words)
other_word_in_front_stays name word words other = rw (other_words_differ word name other) refl

pub options_come_in_their_order : (words : List (List ℕ)) → (if0_of words ≡ option_of (codes "if0") words) × (final_of words ≡ option_of (codes "final") (if0_of words).1)
options_come_in_their_order words = (refl, refl)

-- Words of a payload

-- each is a number of 64 bits
pub words_of_a_payload_are_read : (word : List ℕ) (words : List (List ℕ)) (first : ℕ) (later : List ℕ) → unsigned 18446744073709551615 word ≡ Some first → payload_words words ≡ Ok later → payload_words (word ∷ words) ≡ Ok (first ∷ later)
words_of_a_payload_are_read word words first later is_first is_later = rw (is_first, is_later) refl

pub bad_word_of_a_payload_is_told : (word : List ℕ) (words : List (List ℕ)) → unsigned 18446744073709551615 word ≡ None → payload_words (word ∷ words) ≡ Err why.BadNumber
bad_word_of_a_payload_is_told word words bad = rw bad refl

-- and no more than the most may come
pub payload_has_no_more_words : (most : ℕ) (words : List (List ℕ)) (payload : List ℕ) → payload_words (take most words) ≡ Ok payload →
    (drop most words ≡ [] → payload_of most words ≡ Ok payload) × ((word : List ℕ) (more : List (List ℕ)) → drop most words ≡ word ∷ more → payload_of most words ≡ Err why.ExtraWord)
payload_has_no_more_words most words payload is = (λ none. rw (is, none) refl, λ word more some. rw (is, some) refl)
