-- What the lines of a text say, computed: each word, each number at its ends, each fault and which comes first. (own)
use Rattle.std.proofs.Common.{◌≡◌, ℕ, pos, negsuc, Bool, true, false, List, [], ◌∷◌, ◌++◌, Some, None, Ok, Err, Bor, length, codes, refl, ap, arith}
use Rattle.std.specs.Prelude.{map, replicate}
use Rattle.gomp_types.specs.declared.call.Call.TheVariants.{LoopStart, LoopNext, LoopEnd, LoopEndNowait, LoopEndCancel, SectionsStart, SectionsNext, SectionsEnd, SectionsEndNowait, SectionsEndCancel, SingleStart, SingleCopyStart, SingleCopyEnd, OrderedStart, OrderedEnd, Barrier, RegionEnd, CriticalStart, CriticalEnd, LockInit, NestInit, LockDestroy, Set, Test, Unset, SetNest, TestNest, UnsetNest, TaskCreate, TaskEnd, Taskwait, GroupStart, GroupEnd, Cancel, Point, Resume, Stop}
use Rattle.gomp_types.specs.declared.cancel.CancelKind.TheVariants.{Parallel, Loop, Sections, Taskgroup}
use Rattle.gomp_types.specs.declared.depend.DepKind.TheVariants.{DepIn, DepOut, DepInout, DepInoutset, DepMutex}
use Rattle.gomp_types.specs.declared.loop_desc.EndKind.TheVariants.{Wait, Nowait, Cancellable}
use Rattle.gomp_types.specs.declared.loop_desc.Sched.TheVariants.{Static, Dynamic, Guided, Runtime}
use Rattle.gomp_script.specs.declared.parse.Why.TheVariants.{NotAscii, FirstLine, UnknownWord, MissingWord, BadNumber, ExtraWord}
use Rattle.gomp_text.specs.Words.{words_of}
use Rattle.gomp_script.specs.StepText.{IsBehindItems, IsItem, TakesOption, behind_items, fault_in, first_item, items_of, option_of, without_value, read_line, step_of, plain_step, loop_step, sections_step, copy_end_step, ordered_step, critical_step, critical_end_step, cancel_step, point_step, lock_step, task_step, taskwait_step, team_of}
use Rattle.gomp_script.specs.Examples.{parts, steps_said, teams_said, calls, each_bad, by_first, loop_of_four, task_of, task_with, item_of}

-- the calls that stand alone, each by its word
pub calls_alone : steps_said (calls (codes "next|end|end_nowait|end_cancel|section_next|sections_end|sections_end_nowait|sections_end_cancel|single|single_copy|ordered_end|barrier|region_end|lock_init|nest_init|task_end|group|group_end|resume|stop")) ≡ map by_first (LoopNext ∷ LoopEnd ∷ LoopEndNowait ∷ LoopEndCancel ∷ SectionsNext ∷ SectionsEnd ∷ SectionsEndNowait ∷ SectionsEndCancel ∷ SingleStart ∷ SingleCopyStart ∷ OrderedEnd ∷ Barrier ∷ RegionEnd ∷ LockInit ∷ NestInit ∷ TaskEnd ∷ GroupStart ∷ GroupEnd ∷ Resume ∷ Stop ∷ [])
unfolding plain_step loop_step sections_step copy_end_step ordered_step team_of
calls_alone = refl

-- each of them with a letter too few
pub calls_shortened : steps_said (calls (codes "nex|en|end_nowai|end_cance|section_nex|sections_en|sections_end_nowai|sections_end_cance|singl|single_cop|ordered_en|barrie|region_en|lock_ini|nest_ini|task_en|grou|group_en|resum|sto")) ≡ each_bad 20 UnknownWord
unfolding plain_step loop_step sections_step copy_end_step ordered_step team_of
calls_shortened = refl

-- with a letter too many
pub calls_lengthened : steps_said (calls (codes "nexts|ends|end_nowaits|end_cancels|section_nexts|sections_ends|sections_end_nowaits|sections_end_cancels|singles|single_copys|ordered_ends|barriers|region_ends|lock_inits|nest_inits|task_ends|groups|group_ends|resumes|stops")) ≡ each_bad 20 UnknownWord
unfolding plain_step loop_step sections_step copy_end_step ordered_step team_of
calls_lengthened = refl

-- and with a capital
pub calls_in_capitals : steps_said (calls (codes "Next|End|End_nowait|End_cancel|Section_next|Sections_end|Sections_end_nowait|Sections_end_cancel|Single|Single_copy|Ordered_end|Barrier|Region_end|Lock_init|Nest_init|Task_end|Group|Group_end|Resume|Stop")) ≡ each_bad 20 UnknownWord
unfolding plain_step loop_step sections_step copy_end_step ordered_step team_of
calls_in_capitals = refl

-- the calls with words behind them are no others
pub longer_calls_miswritten : steps_said (calls (codes "Loop|loops|lo|Sections|section|sectionss|Single_copy_end|single_copy_en|single_copy_ends|Ordered|order|ordereds")) ≡ each_bad 12 UnknownWord
unfolding plain_step loop_step sections_step copy_end_step ordered_step team_of
longer_calls_miswritten = refl

-- the schedules of a loop
pub each_schedule_word : steps_said (parts (codes "0 loop static 0 0 4 1 wait|0 loop dynamic 0 0 4 1 wait|0 loop guided 0 0 4 1 wait|0 loop runtime 0 0 4 1 wait")) ≡ map (λ sched. by_first (LoopStart (loop_of_four sched Wait false))) (Static ∷ Dynamic ∷ Guided ∷ Runtime ∷ [])
unfolding plain_step loop_step sections_step copy_end_step ordered_step team_of
each_schedule_word = refl

-- other words are none
pub other_schedules : steps_said (parts (codes "0 loop auto 0 0 4 1 wait|0 loop Static 0 0 4 1 wait|0 loop dynami 0 0 4 1 wait|0 loop guideds 0 0 4 1 wait|0 loop run 0 0 4 1 wait")) ≡ each_bad 5 UnknownWord
unfolding plain_step loop_step sections_step copy_end_step ordered_step team_of
other_schedules = refl

-- what stands at the end of a loop, and an ordered one
pub ends_of_loops : steps_said (parts (codes "0 loop static 0 0 4 1 nowait|0 loop static 0 0 4 1 nowait ordered|0 loop static 0 0 4 1 wait ordered|0 loop static 0 0 4 1 cancellable|0 loop static 0 0 4 1 cancellable ordered")) ≡ map (λ loop. by_first (LoopStart loop)) (loop_of_four Static Nowait false ∷ loop_of_four Static Nowait true ∷ loop_of_four Static Wait true ∷ loop_of_four Static Cancellable false ∷ loop_of_four Static Cancellable true ∷ [])
unfolding plain_step loop_step sections_step copy_end_step ordered_step team_of
ends_of_loops = refl

-- other words are no end
pub other_ends : steps_said (parts (codes "0 loop static 0 0 4 1 Wait|0 loop static 0 0 4 1 no|0 loop static 0 0 4 1 waits|0 loop static 0 0 4 1 nowai|0 loop static 0 0 4 1 cancellabl|0 loop static 0 0 4 1 cancellables|0 loop static 0 0 4 1 Cancellable|0 sections 4 Nowait|0 sections 4 cancel|0 sections 4 ordered")) ≡ each_bad 10 UnknownWord
unfolding plain_step loop_step sections_step copy_end_step ordered_step team_of
other_ends = refl

-- only the word `ordered` may follow, once
pub behind_a_loop : steps_said (parts (codes "0 loop static 0 0 4 1 wait Ordered|0 loop static 0 0 4 1 wait ordere|0 loop static 0 0 4 1 wait ordered ordered|0 loop static 0 0 4 1 wait wait")) ≡ each_bad 4 ExtraWord
unfolding plain_step loop_step sections_step copy_end_step ordered_step team_of
behind_a_loop = refl

-- the numbers of a loop stand in this order, each up to the ends of its type
pub numbers_of_a_loop : read_line step_of (codes "65535 loop dynamic 5 -9223372036854775808 9223372036854775807 -3 wait") ≡ Ok (Some (record { member = 65535; call = LoopStart (record { start = negsuc 9223372036854775807; end = pos 9223372036854775807; incr = negsuc 2; sched = Dynamic; chunk = pos 5; ordered = false; end_kind = Wait }) }))
unfolding plain_step loop_step sections_step copy_end_step ordered_step team_of
numbers_of_a_loop = refl

-- each of them is tested
pub bad_numbers_of_a_loop : steps_said (parts (codes "x loop static 0 0 4 1 wait|65536 loop static 0 0 4 1 wait|-1 loop static 0 0 4 1 wait|0 loop static x 0 4 1 wait|0 loop static 0 +1 4 1 wait|0 loop static 0 0 9223372036854775808 1 wait|0 loop static 0 0 4 -9223372036854775809 wait|0 loop static 0 0 4 1x wait")) ≡ each_bad 8 BadNumber
unfolding plain_step loop_step sections_step copy_end_step ordered_step team_of
bad_numbers_of_a_loop = refl

-- a line that ends too early
pub too_early : steps_said (parts (codes "0|0 loop|0 loop static|0 loop static 0|0 loop static 0 0|0 loop static 0 0 4|0 loop static 0 0 4 1|0 sections|0 sections 4|0 ordered|x")) ≡ each_bad 11 MissingWord
unfolding plain_step loop_step sections_step copy_end_step ordered_step team_of
too_early = refl

-- an unknown word comes before a word that is missing behind it, and before a bad number
pub unknown_first : steps_said (parts (codes "x loop foo|x loop foo 0 0 4 1 wait|x loop static z 0 4 1 foo|x sections z foo|x foo|x foo bar")) ≡ each_bad 6 UnknownWord
unfolding plain_step loop_step sections_step copy_end_step ordered_step team_of
unknown_first = refl

-- a missing word comes before a bad number
pub missing_first : steps_said (parts (codes "x loop static z|x sections z|x ordered")) ≡ each_bad 3 MissingWord
unfolding plain_step loop_step sections_step copy_end_step ordered_step team_of
missing_first = refl

-- a bad number comes before a word too many
pub number_first : steps_said (parts (codes "x loop static 0 0 4 1 wait foo|x next foo|0 ordered x 1|x ordered 1 2|0 sections x wait foo|x sections 4 wait foo|x single_copy_end 1 2 3 4 5 6 7 8 9|0 single_copy_end x 2 3 4 5 6 7 8 9")) ≡ each_bad 8 BadNumber
unfolding plain_step loop_step sections_step copy_end_step ordered_step team_of
number_first = refl

-- a word too many
pub word_too_many : steps_said (parts (codes "0 next foo|0 ordered 1 2|0 sections 4 wait foo|0 single_copy_end 1 2 3 4 5 6 7 8 9|0 single_copy_end 1 2 3 4 5 6 7 8 x")) ≡ each_bad 5 ExtraWord
unfolding plain_step loop_step sections_step copy_end_step ordered_step team_of
word_too_many = refl

-- sections, up to the largest count of their type
pub sections_said : steps_said (parts (codes "0 sections 0 wait|0 sections 4294967295 nowait|0 sections 4 cancellable")) ≡ map by_first (SectionsStart 0 Wait ∷ SectionsStart 4294967295 Nowait ∷ SectionsStart 4 Cancellable ∷ [])
unfolding plain_step loop_step sections_step copy_end_step ordered_step team_of
sections_said = refl

-- an ordered part, by the value of its iteration
pub ordered_parts : steps_said (parts (codes "0 ordered -9223372036854775808|0 ordered 9223372036854775807|0 ordered -0")) ≡ map by_first (OrderedStart (negsuc 9223372036854775807) ∷ OrderedStart (pos 9223372036854775807) ∷ OrderedStart (pos 0) ∷ [])
unfolding plain_step loop_step sections_step copy_end_step ordered_step team_of
ordered_parts = refl

-- the words of a single, from none to eight, up to the largest
pub words_of_a_copying_single : steps_said (parts (codes "0 single_copy_end|0 single_copy_end 18446744073709551615|0 single_copy_end 1 2 3 4 5 6 7 8")) ≡ map by_first (SingleCopyEnd [] ∷ SingleCopyEnd (18446744073709551615 ∷ []) ∷ SingleCopyEnd (1 ∷ 2 ∷ 3 ∷ 4 ∷ 5 ∷ 6 ∷ 7 ∷ 8 ∷ []) ∷ [])
unfolding plain_step loop_step sections_step copy_end_step ordered_step team_of
words_of_a_copying_single = refl

-- a critical construct with a name and without one
pub critical_names : steps_said (calls (codes "critical|critical a|critical critical|critical_end|critical_end a|critical_end 0")) ≡ map by_first (CriticalStart [] ∷ CriticalStart (codes "a") ∷ CriticalStart (codes "critical") ∷ CriticalEnd [] ∷ CriticalEnd (codes "a") ∷ CriticalEnd (codes "0") ∷ [])
unfolding plain_step critical_step critical_end_step lock_step
critical_names = refl

-- of a long name the first 33 bytes are kept
pub long_critical_names : steps_said (calls (codes "critical nnnnnnnnnnnnnnnnnnnnnnnnnnnnnnnn|critical_end nnnnnnnnnnnnnnnnnnnnnnnnnnnnnnnnab|critical nnnnnnnnnnnnnnnnnnnnnnnnnnnnnnnnabc")) ≡ map by_first (CriticalStart (codes "nnnnnnnnnnnnnnnnnnnnnnnnnnnnnnnn") ∷ CriticalEnd (codes "nnnnnnnnnnnnnnnnnnnnnnnnnnnnnnnna") ∷ CriticalStart (codes "nnnnnnnnnnnnnnnnnnnnnnnnnnnnnnnna") ∷ [])
unfolding plain_step critical_step critical_end_step lock_step
long_critical_names = refl

-- the calls on a lock, each by its word
pub calls_on_locks : steps_said (calls (codes "lock_destroy 0|set 1|test 2|unset 3|set_nest 4|test_nest 5|unset_nest 6")) ≡ map by_first (LockDestroy 0 ∷ Set 1 ∷ Test 2 ∷ Unset 3 ∷ SetNest 4 ∷ TestNest 5 ∷ UnsetNest 6 ∷ [])
unfolding plain_step critical_step critical_end_step lock_step
calls_on_locks = refl

-- each with the largest number of its type
pub largest_locks : steps_said (calls (codes "lock_destroy 4294967295|set 4294967295|test 4294967295|unset 4294967295|set_nest 4294967295|test_nest 4294967295|unset_nest 4294967295")) ≡ map (λ call. by_first (call 4294967295)) (LockDestroy ∷ Set ∷ Test ∷ Unset ∷ SetNest ∷ TestNest ∷ UnsetNest ∷ [])
unfolding plain_step critical_step critical_end_step lock_step
largest_locks = refl

-- words with a letter too few, with one too many and with a capital
pub holds_miswritten : steps_said (calls (codes "critica a|critical_en a|lock_destro 0|se 0|tes 0|unse 0|set_nes 0|test_nes 0|unset_nes 0|criticals a|critical_ends a|lock_destroys 0|sets 0|tests 0|unsets 0|set_nests 0|test_nests 0|unset_nests 0|Critical a|Critical_end a|Lock_destroy 0|Set 0|Test 0|Unset 0|Set_nest 0|Test_nest 0|Unset_nest 0")) ≡ each_bad 27 UnknownWord
unfolding plain_step critical_step critical_end_step lock_step
holds_miswritten = refl

-- a call on a lock without its number, before a bad number of the member
pub lock_missing : steps_said (parts (codes "0 lock_destroy|0 set|0 test|0 unset|0 set_nest|0 test_nest|x unset_nest")) ≡ each_bad 7 MissingWord
unfolding plain_step critical_step critical_end_step lock_step
lock_missing = refl

-- a word that is no number of a lock, or one beyond its type, before a word too many
pub bad_locks : steps_said (parts (codes "0 lock_destroy x|0 set 4294967296|0 test -1|0 unset +0|0 set_nest x 1|0 test_nest 0x|x unset_nest 0 1")) ≡ each_bad 7 BadNumber
unfolding plain_step critical_step critical_end_step lock_step
bad_locks = refl

-- a bad number of the member, before a word too many
pub bad_members_that_hold : steps_said (parts (codes "x critical|65536 critical a|-1 critical_end|x critical a b|x critical_end a b|x lock_init|x nest_init 0|x set 0")) ≡ each_bad 8 BadNumber
unfolding plain_step critical_step critical_end_step lock_step
bad_members_that_hold = refl

-- a word too many
pub more_than_a_lock : steps_said (calls (codes "critical a b|critical_end a b c|lock_init 0|nest_init 0|lock_destroy 0 1|set 0 1|test 0 1|unset 0 1|set_nest 0 1|test_nest 0 1|unset_nest 0 1")) ≡ each_bad 11 ExtraWord
unfolding plain_step critical_step critical_end_step lock_step
more_than_a_lock = refl

-- a cancellation of each kind, with an `if` clause that is false and one that is true
pub cancels_said : steps_said (calls (codes "cancel parallel 0|cancel parallel 1|cancel loop 0|cancel loop 1|cancel sections 0|cancel sections 1|cancel taskgroup 0|cancel taskgroup 1")) ≡ map by_first (Cancel Parallel false ∷ Cancel Parallel true ∷ Cancel Loop false ∷ Cancel Loop true ∷ Cancel Sections false ∷ Cancel Sections true ∷ Cancel Taskgroup false ∷ Cancel Taskgroup true ∷ [])
unfolding plain_step cancel_step point_step
cancels_said = refl

-- a cancellation point of each kind
pub points_said : steps_said (calls (codes "point parallel|point loop|point sections|point taskgroup")) ≡ map (λ kind. by_first (Point kind)) (Parallel ∷ Loop ∷ Sections ∷ Taskgroup ∷ [])
unfolding plain_step cancel_step point_step
points_said = refl

-- both calls and each kind with a letter too few, with one too many and with a capital, and words of other lists
pub cancels_miswritten : steps_said (calls (codes "cance loop 1|cancels loop 1|Cancel loop 1|poin loop|points loop|Point loop|cancel paralle 1|cancel loo 1|cancel section 1|cancel taskgrou 1|point parallels|point loops|point sectionss|point taskgroups|cancel Parallel 1|point Loop|cancel Sections 1|point Taskgroup|cancel for 1|point group|cancel 1 loop|point 1|cancel wait 1|point static")) ≡ each_bad 24 UnknownWord
unfolding plain_step cancel_step point_step
cancels_miswritten = refl

-- an `if` clause is the word 0 or 1, and no other way to write a number
pub other_clauses : steps_said (calls (codes "cancel loop 2|cancel loop 00|cancel loop 01|cancel loop -0|cancel loop +1|cancel loop 10|cancel loop yes|cancel loop true|cancel loop if0|cancel loop loop")) ≡ each_bad 10 UnknownWord
unfolding plain_step cancel_step point_step
other_clauses = refl

-- the unknown word comes before a missing clause, a bad number of the member and a word too many
pub unknown_cancels_first : steps_said (parts (codes "0 cancel foo|x cancel foo|x cancel foo 1|x cancel loop foo|0 cancel loop foo 1|x point foo|0 point foo loop|x point foo loop")) ≡ each_bad 8 UnknownWord
unfolding plain_step cancel_step point_step
unknown_cancels_first = refl

-- a kind or a clause is missing, before a bad number of the member
pub cancel_missing : steps_said (parts (codes "0 cancel|0 point|x cancel|x point|0 cancel parallel|0 cancel loop|0 cancel sections|x cancel taskgroup")) ≡ each_bad 8 MissingWord
unfolding plain_step cancel_step point_step
cancel_missing = refl

-- a bad number of the member comes before a word too many
pub bad_members_that_cancel : steps_said (parts (codes "x cancel loop 1|65536 cancel parallel 0|-1 point loop|x point taskgroup|x cancel sections 1 1|x point parallel 1|x end_cancel|x sections_end_cancel 1")) ≡ each_bad 8 BadNumber
unfolding plain_step cancel_step point_step
bad_members_that_cancel = refl

-- a word too many; a cancellation point has no clause
pub more_than_a_cancel : steps_said (calls (codes "cancel loop 1 1|cancel parallel 0 loop|cancel taskgroup 1 foo|point loop 1|point parallel 0|point sections sections|point taskgroup foo|end_cancel 1|sections_end_cancel loop")) ≡ each_bad 9 ExtraWord
unfolding plain_step cancel_step point_step
more_than_a_cancel = refl

-- a task, by its code and its argument, up to the largest numbers of their types
pub tasks_said : steps_said (calls (codes "task 7 5|task 0 18446744073709551615|task 18446744073709551615 0|task 007 00")) ≡ map (λ task. by_first (TaskCreate task)) (task_of 7 5 ∷ task_of 0 18446744073709551615 ∷ task_of 18446744073709551615 0 ∷ task_of 7 0 ∷ [])
unfolding plain_step task_step taskwait_step
tasks_said = refl

-- an undeferred one, a final one and one that is both
pub options_said : steps_said (calls (codes "task 7 5 if0|task 7 5 final|task 7 5  if0  final ")) ≡ map (λ task. by_first (TaskCreate task)) (record (task_of 7 5) { undeferred = true } ∷ record (task_of 7 5) { final_task = true } ∷ record (task_of 7 5) { undeferred = true; final_task = true } ∷ [])
unfolding plain_step task_step taskwait_step
options_said = refl

-- one with an item of each type
pub kinds_said : steps_said (calls (codes "task 7 5 in 100|task 7 5 out 100|task 7 5 inout 100|task 7 5 inoutset 100|task 7 5 mutexinoutset 100")) ≡ map (λ kind. by_first (TaskCreate (task_with (item_of kind 100 ∷ [])))) (DepIn ∷ DepOut ∷ DepInout ∷ DepInoutset ∷ DepMutex ∷ [])
unfolding plain_step task_step taskwait_step
kinds_said = refl

-- items in their order, the same twice, up to the largest address
pub items_said : read_line step_of (codes "0 task 7 5 in 0 out 18446744073709551615 in 0 inout 007") ≡ by_first (TaskCreate (task_with (item_of DepIn 0 ∷ item_of DepOut 18446744073709551615 ∷ item_of DepIn 0 ∷ item_of DepInout 7 ∷ [])))
unfolding plain_step task_step taskwait_step
items_said = refl

-- items behind the options
pub items_behind_options : steps_said (calls (codes "task 7 5 if0 in 100|task 7 5 final in 100|task 7 5 if0 final in 100")) ≡ map (λ task. by_first (TaskCreate task)) (record (task_with (item_of DepIn 100 ∷ [])) { undeferred = true } ∷ record (task_with (item_of DepIn 100 ∷ [])) { final_task = true } ∷ record (task_with (item_of DepIn 100 ∷ [])) { undeferred = true; final_task = true } ∷ [])
unfolding plain_step task_step taskwait_step
items_behind_options = refl

-- 17 items are read, which is one more than a team takes
pub many_items_said : read_line step_of (codes "0 task 7 5 in 0 in 1 in 2 in 3 in 4 in 5 in 6 in 7 in 8 in 9 in 10 in 11 in 12 in 13 in 14 in 15 in 16") ≡ by_first (TaskCreate (task_with (map (item_of DepIn) (0 ∷ 1 ∷ 2 ∷ 3 ∷ 4 ∷ 5 ∷ 6 ∷ 7 ∷ 8 ∷ 9 ∷ 10 ∷ 11 ∷ 12 ∷ 13 ∷ 14 ∷ 15 ∷ 16 ∷ []))))
unfolding plain_step task_step taskwait_step
many_items_said = refl

-- a taskwait without items and with some
pub taskwaits_said : steps_said (calls (codes "taskwait|taskwait in 100|taskwait out 0 mutexinoutset 18446744073709551615|taskwait inoutset 1 inout 2")) ≡ map (λ items. by_first (Taskwait items)) ([] ∷ (item_of DepIn 100 ∷ []) ∷ (item_of DepOut 0 ∷ item_of DepMutex 18446744073709551615 ∷ []) ∷ (item_of DepInoutset 1 ∷ item_of DepInout 2 ∷ []) ∷ [])
unfolding plain_step task_step taskwait_step
taskwaits_said = refl

-- the words of both with a letter too few, with one too many and with a capital
pub task_miswritten : steps_said (calls (codes "tas 7 5|tasks 7 5|Task 7 5|task_create 7 5|x|taskwai|taskwaits|Taskwait|taskwai in 100")) ≡ each_bad 9 UnknownWord
unfolding plain_step task_step taskwait_step
task_miswritten = refl

-- a task without its code or its argument, or an item without its address, before a bad number and a word too many
pub task_missing : steps_said (parts (codes "0 task|0 task 7|0 task x|x task 7|0 task if0|0 task 7 5 in|x task 7 5 in|0 task x 5 out|0 task 7 x if0 final inout|0 task 7 5 in x out|0 task 7 5 in in in|0 taskwait in|x taskwait out|0 taskwait in x in|0 taskwait in 100 mutexinoutset")) ≡ each_bad 15 MissingWord
unfolding plain_step task_step taskwait_step
task_missing = refl

-- a word that is no number of a task or of its member, or one beyond its type, before a word too many
pub bad_tasks : steps_said (parts (codes "0 task x 5|0 task 7 x|0 task -1 5|0 task 7 -0|0 task +7 5|0 task 18446744073709551616 5|0 task 7 18446744073709551616|0 task if0 5|0 task 7 if0|x task 7 5|65536 task 7 5|0 task 7 x if0|x task 7 5 6|x task_end 1|x group 1|0 task 7 in 100")) ≡ each_bad 16 BadNumber
unfolding plain_step task_step taskwait_step
bad_tasks = refl

-- an address that is no number, or one beyond its type, before a word too many
pub bad_addresses : steps_said (parts (codes "0 task 7 5 in x|0 task 7 5 in -1|0 task 7 5 out +1|0 task 7 5 inout 18446744073709551616|0 task 7 5 in in|0 task 7 5 in if0|0 task 7 5 in 1 out x|0 task 7 5 in x foo|0 task 7 5 in 0x10|0 taskwait in x|0 taskwait in 18446744073709551616|0 taskwait in 1 out x foo|x taskwait|65536 taskwait in 100|x taskwait foo|x taskwait in 100 foo")) ≡ each_bad 16 BadNumber
unfolding plain_step task_step taskwait_step
bad_addresses = refl

-- a word too many, and any after it: no option or type of a dependence, one of them twice or too late
pub more_than_a_task : steps_said (calls (codes "task 7 5 6|task 7 5 foo in|task 7 5 if0 if0|task 7 5 final if0|task 7 5 final final|task 7 5 if0 final if0|task 7 5 in 100 if0|task 7 5 in 100 final|task 7 5 in 100 200|task 7 5 in 100 foo in|task 7 5 if1|task 7 5 If0|task 7 5 if|task 7 5 Final|task 7 5 fina|task 7 5 source 100|task_end 1|taskwait 1|taskwait if0|taskwait final|taskwait in 100 200|taskwait foo in|group 1|group_end 0")) ≡ each_bad 24 ExtraWord
unfolding plain_step task_step taskwait_step
more_than_a_task = refl

-- the types of a dependence with a letter too few, with one too many and with a capital
pub kinds_miswritten : steps_said (calls (codes "task 7 5 i 100|task 7 5 ou 100|task 7 5 inou 100|task 7 5 inoutse 100|task 7 5 mutexinoutse 100|taskwait ins 100|taskwait outs 100|taskwait inouts 100|taskwait inoutsets 100|taskwait mutexinoutsets 100|task 7 5 In 100|task 7 5 Out 100|task 7 5 Inout 100|task 7 5 Inoutset 100|task 7 5 Mutexinoutset 100")) ≡ each_bad 15 ExtraWord
unfolding plain_step task_step taskwait_step
kinds_miswritten = refl

-- an option that stands in front is taken; another, or one behind, is not
pub options_taken : (option_of (codes "if0") (codes "if0" ∷ codes "in" ∷ []) ≡ (true, codes "in" ∷ [])) × (option_of (codes "if0") (codes "final" ∷ codes "if0" ∷ []) ≡ (false, codes "final" ∷ codes "if0" ∷ [])) × (option_of (codes "final") [] ≡ (false, []))
options_taken = (refl, refl, refl)

-- the item in front, whatever its address is; none, and one without its address
pub first_items : map (λ line. first_item (words_of line)) (parts (codes "in x foo|mutexinoutset 1|foo 1 in 1|foo||in")) ≡ Ok (Some (DepIn, codes "x", codes "foo" ∷ [])) ∷ Ok (Some (DepMutex, codes "1", [])) ∷ Ok None ∷ Ok None ∷ Ok None ∷ Err MissingWord ∷ []
first_items = refl

-- the words behind the items, whatever their addresses are
pub words_behind_items : map (λ line. behind_items (words_of line)) (parts (codes "in 1 out x foo in|foo in 1|in 1|in 1 out")) ≡ Ok (codes "foo" ∷ codes "in" ∷ []) ∷ Ok (codes "foo" ∷ codes "in" ∷ codes "1" ∷ []) ∷ Ok [] ∷ Err MissingWord ∷ []
words_behind_items = refl

-- the first fault of the items themselves; a word behind them is none
pub faults_of_items : map (λ line. without_value (items_of (words_of line))) (parts (codes "in 1 out 2|in 1 foo|foo|in x out|in 1 out x|in")) ≡ Ok tt ∷ Ok tt ∷ Ok tt ∷ Err BadNumber ∷ Err BadNumber ∷ Err MissingWord ∷ []
faults_of_items = refl

-- what stands in front is not handed on once more, and a line without the option is handed on whole
pub other_rest_of_an_option : (rest : Bor (List ℕ)) → (rest.now ≡ codes "if0 in" → TakesOption (codes "if0") (codes "if0 in") (true, rest) → ⊥) × (rest.now ≡ codes "in" → TakesOption (codes "if0") (codes "if0 in") (false, rest) → ⊥)
other_rest_of_an_option rest = (
  λ same taken. let both = rw same at taken in let count : 1 ≡ 2 = ap (λ (parts : Bool × List (List ℕ)). length parts.1) both in absurd (omega (arith, count)),
  λ same taken. let flag : true ≡ false = ap (λ (parts : Bool × List (List ℕ)). parts.0) taken in absurd (cc),
)

-- nor are items whose end was not reached
pub other_rest_of_items : (rest : Bor (List ℕ)) → rest.now ≡ codes "out 2" → IsBehindItems (codes "in 1 out 2") (Ok rest) → ⊥
other_rest_of_items rest same passed = let other = rw same at passed in absurd (cc)

-- an item is not passed over, and an item without its address is a fault
pub other_first_items : (IsItem (codes "in 1") (Ok None) → ⊥) × (IsItem (codes "in") (Ok None) → ⊥) × (IsItem (codes "in") (Err BadNumber) → ⊥)
other_first_items = (λ same. absurd (cc), λ same. absurd (cc), λ same. let fault : Some MissingWord ≡ Some BadNumber = ap fault_in same in absurd (cc))

-- numbers beyond their types
pub numbers_beyond : steps_said (parts (codes "0 sections 4294967296 wait|0 sections -1 wait|0 ordered 9223372036854775808|0 ordered -9223372036854775809|0 single_copy_end 18446744073709551616|0 single_copy_end -1|65536 next|-1 next|x single_copy_end")) ≡ each_bad 9 BadNumber
unfolding plain_step loop_step sections_step copy_end_step ordered_step team_of
numbers_beyond = refl

-- spaces part the words, however many
pub more_spaces : read_line step_of (codes "  0   next  ") ≡ by_first LoopNext
unfolding plain_step loop_step sections_step copy_end_step ordered_step team_of
more_spaces = refl

-- a tab is part of a word
pub tab_in_a_word : read_line step_of (codes "0\tnext") ≡ Err MissingWord
unfolding plain_step loop_step sections_step copy_end_step ordered_step team_of
tab_in_a_word = refl

-- an empty line, one of spaces and a comment say nothing
pub lines_without_a_word : steps_said (parts (codes "|   |#|# 0 next|  #0 next")) ≡ replicate 5 (Ok None)
unfolding plain_step loop_step sections_step copy_end_step ordered_step team_of
lines_without_a_word = refl

-- only its first word makes a line a comment
pub comment_behind : steps_said (parts (codes "0 next # on|0 # next")) ≡ Err ExtraWord ∷ Err UnknownWord ∷ []
unfolding plain_step loop_step sections_step copy_end_step ordered_step team_of
comment_behind = refl

-- a byte above 127 is a fault, in a comment too, and before any other
pub bytes_above_127 : steps_said ((128 ∷ []) ∷ (35 ∷ 255 ∷ []) ∷ (codes "0 next " ++ 200 ∷ []) ∷ []) ≡ each_bad 3 NotAscii
unfolding plain_step loop_step sections_step copy_end_step ordered_step team_of
bytes_above_127 = refl

-- 127 is a byte of a word
pub byte_127 : read_line step_of (127 ∷ []) ≡ Err MissingWord
unfolding plain_step loop_step sections_step copy_end_step ordered_step team_of
byte_127 = refl

-- the line of the team, with a number up to the largest of its type
pub team_lines : teams_said (parts (codes "team 4|team 0|team 4294967295| team 04 ")) ≡ Ok (Some 4) ∷ Ok (Some 0) ∷ Ok (Some 4294967295) ∷ Ok (Some 4) ∷ []
unfolding plain_step loop_step sections_step copy_end_step ordered_step team_of
team_lines = refl

-- no other word begins it
pub other_first_words : teams_said (parts (codes "Team 4|tea 4|teams 4|0 next|4|team4")) ≡ each_bad 6 FirstLine
unfolding plain_step loop_step sections_step copy_end_step ordered_step team_of
other_first_words = refl

-- its number is missing
pub team_without_number : teams_said (parts (codes "team")) ≡ each_bad 1 MissingWord
unfolding plain_step loop_step sections_step copy_end_step ordered_step team_of
team_without_number = refl

-- or bad, before a word too many
pub team_with_bad_number : teams_said (parts (codes "team x|team -1|team 4294967296|team x 1")) ≡ each_bad 4 BadNumber
unfolding plain_step loop_step sections_step copy_end_step ordered_step team_of
team_with_bad_number = refl

-- or followed by a word
pub team_with_more : teams_said (parts (codes "team 4 1|team 4 x")) ≡ each_bad 2 ExtraWord
unfolding plain_step loop_step sections_step copy_end_step ordered_step team_of
team_with_more = refl

-- before the team's line too, empty lines and comments say nothing
pub before_the_team : teams_said (parts (codes "|  |# team 4")) ≡ replicate 3 (Ok None)
unfolding plain_step loop_step sections_step copy_end_step ordered_step team_of
before_the_team = refl
