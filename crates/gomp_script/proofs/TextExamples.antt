-- What texts say, computed, and which line of them is bad. (own)
use Rattle.std.proofs.Common.{◌≡◌, ℕ, true, [], ◌∷◌, ◌++◌, Some, None, Result, Ok, Err, codes, refl, ap, sym, arith}
use Rattle.gomp_types.specs.declared.call.Call.TheVariants.{Barrier, Cancel, Point, CriticalStart, CriticalEnd, LockInit, Set, TaskCreate, Taskwait}
use Rattle.gomp_types.specs.declared.cancel.CancelKind.TheVariants.{Parallel}
use Rattle.gomp_types.specs.declared.depend.DepKind.TheVariants.{DepIn, DepOut}
use Rattle.gomp_script.specs.declared.parse.BadLine.{BadLine}
use Rattle.gomp_script.specs.declared.parse.LineError.TheVariants.{NoMemory, Fault}
use Rattle.gomp_script.specs.declared.parse.Why.TheVariants.{NotAscii, FirstLine, UnknownWord, MissingWord, BadNumber, ExtraWord}
use Rattle.gomp_script.specs.declared.parse.ParseError.TheVariants.{Memory, Bad}
use Rattle.gomp_script.specs.StepText.{steps_of, steps_from, text_from, bad_line, lines_left, steps_kept, fault_in, Gives, HasItems, HasStep, LineHasItems, Reads, TeamHasStep, refused_by, plain_step, loop_step, sections_step, copy_end_step, ordered_step, critical_step, critical_end_step, cancel_step, point_step, lock_step, task_step, taskwait_step, team_of}
use Rattle.gomp_script.specs.Examples.{IsBad, item_of, next_step, second_line, task_of, task_with}

-- a text of two steps
pub two_steps : steps_of (codes "team 2\n0 next\n0 barrier\n") ≡ Ok (2, next_step ∷ record { member = 0; call = Barrier } ∷ [])
unfolding plain_step loop_step sections_step copy_end_step ordered_step team_of
two_steps = refl

-- the last line may lack its line feed
pub no_last_line_feed : steps_of (codes "team 2\n0 next") ≡ Ok (2, next_step ∷ [])
unfolding plain_step loop_step sections_step copy_end_step ordered_step team_of
no_last_line_feed = refl

-- empty lines and comments stand anywhere
pub lines_between : steps_of (codes "\n# a team\n\nteam 2\n\n# a step\n0 next\n\n#") ≡ Ok (2, next_step ∷ [])
unfolding plain_step loop_step sections_step copy_end_step ordered_step team_of
lines_between = refl

-- a text of a critical name and a lock
pub text_of_holds : steps_of (codes "team 2\n0 critical\n0 lock_init\n1 set 0\n0 critical_end\n") ≡ Ok (2, record { member = 0; call = CriticalStart [] } ∷ record { member = 0; call = LockInit } ∷ record { member = 1; call = Set 0 } ∷ record { member = 0; call = CriticalEnd [] } ∷ [])
unfolding plain_step critical_step critical_end_step lock_step team_of
text_of_holds = refl

-- a line of one is bad
pub bad_line_of_holds : IsBad 3 ExtraWord (codes "team 2\n0 critical a\n0 critical_end a b\n0 set\n")
unfolding plain_step critical_step critical_end_step lock_step team_of
bad_line_of_holds = refl

-- a text of tasks that depend on each other
pub text_of_items : steps_of (codes "team 1\n0 task 7 5 out 100\n0 taskwait in 100\n") ≡ Ok (1, record { member = 0; call = TaskCreate (task_with (item_of DepOut 100 ∷ [])) } ∷ record { member = 0; call = Taskwait (item_of DepIn 100 ∷ []) } ∷ [])
unfolding task_step taskwait_step team_of
text_of_items = refl

-- a line of one is bad
pub bad_line_of_items : IsBad 3 MissingWord (codes "team 1\n0 task 7 5 out 100\n0 taskwait in\n0 task x 5\n")
unfolding task_step taskwait_step team_of
bad_line_of_items = refl

-- a text of a cancellation
pub text_of_a_cancel : steps_of (codes "team 2\n0 cancel parallel 1\n1 point parallel\n") ≡ Ok (2, record { member = 0; call = Cancel Parallel true } ∷ record { member = 1; call = Point Parallel } ∷ [])
unfolding plain_step cancel_step point_step team_of
text_of_a_cancel = refl

-- a line of one is bad
pub bad_line_of_a_cancel : IsBad 3 UnknownWord (codes "team 2\n0 point loop\n1 cancel loop 2\n0 point\n")
unfolding plain_step cancel_step point_step team_of
bad_line_of_a_cancel = refl

-- a text may have no step
pub no_step : steps_of (codes "team 2\n# none\n\n") ≡ Ok (2, [])
unfolding plain_step loop_step sections_step copy_end_step ordered_step team_of
no_step = refl

-- the team's line alone is a text
pub team_alone : steps_of (codes "team 7") ≡ Ok (7, [])
unfolding plain_step loop_step sections_step copy_end_step ordered_step team_of
team_alone = refl

-- an empty text lacks its first line
pub empty_text : IsBad 1 FirstLine (codes "")
unfolding plain_step loop_step sections_step copy_end_step ordered_step team_of
empty_text = refl

-- so does one of empty lines and comments, at line 1
pub no_line_counts : IsBad 1 FirstLine (codes "\n# a\n\n")
unfolding plain_step loop_step sections_step copy_end_step ordered_step team_of
no_line_counts = refl

-- the first line that counts is that of the team
pub step_first : IsBad 2 FirstLine (codes "\n0 next\nteam 2\n")
unfolding plain_step loop_step sections_step copy_end_step ordered_step team_of
step_first = refl

-- skipped lines count
pub lines_counted : IsBad 6 UnknownWord (codes "# a\n\nteam 2\n\n# b\n0 foo\n")
unfolding plain_step loop_step sections_step copy_end_step ordered_step team_of
lines_counted = refl

-- a second team's line is no step
pub team_twice : IsBad 2 UnknownWord (codes "team 2\nteam 2\n")
unfolding plain_step loop_step sections_step copy_end_step ordered_step team_of
team_twice = refl

-- of two bad lines the first is told
pub first_fault_of_two : IsBad 3 MissingWord (codes "team 2\n0 next\n0\n0 foo\n")
unfolding plain_step loop_step sections_step copy_end_step ordered_step team_of
first_fault_of_two = refl

-- a bad line at the end is told, whatever stands before it
pub bad_last_line : IsBad 4 BadNumber (codes "team 2\n0 next\n0 next\nx next")
unfolding plain_step loop_step sections_step copy_end_step ordered_step team_of
bad_last_line = refl

-- the team's line may be bad
pub bad_team : IsBad 1 ExtraWord (codes "team 2 2\n0 next\n")
unfolding plain_step loop_step sections_step copy_end_step ordered_step team_of
bad_team = refl

-- a byte above 127 in a comment before the team's line
pub not_ascii_before : IsBad 2 NotAscii (codes "\n# " ++ 200 ∷ codes "\nteam 2\n")
unfolding plain_step loop_step sections_step copy_end_step ordered_step team_of
not_ascii_before = refl

-- and behind it
pub not_ascii_behind : IsBad 2 NotAscii (codes "team 2\n#" ++ 128 ∷ [])
unfolding plain_step loop_step sections_step copy_end_step ordered_step team_of
not_ascii_behind = refl

-- a text that begins with byte 0xEF
pub begins_with_ef : IsBad 1 NotAscii (239 ∷ codes "team 2\n")
unfolding plain_step loop_step sections_step copy_end_step ordered_step team_of
begins_with_ef = refl

-- lines beyond the largest number keep it
pub number_at_the_end : steps_from 18446744073709551615 ([] ∷ codes "x" ∷ []) ≡ bad_line 18446744073709551615 MissingWord
unfolding plain_step loop_step sections_step copy_end_step ordered_step team_of
number_at_the_end = refl

-- and so do those before the team's line
pub team_at_the_end : text_from 18446744073709551615 ([] ∷ codes "x" ∷ []) ≡ bad_line 18446744073709551615 FirstLine
unfolding plain_step loop_step sections_step copy_end_step ordered_step team_of
team_at_the_end = refl

-- no text is left of nothing, and one empty line of an empty text
pub lines_of_nothing : (lines_left None ≡ []) × (lines_left (Some []) ≡ [] ∷ [])
lines_of_nothing = (refl, refl)

-- a line that says nothing adds no step, and a step comes last
pub kept_last : (steps_kept (next_step ∷ []) None ≡ next_step ∷ []) × (steps_kept [] (Some next_step) ≡ next_step ∷ [])
kept_last = (refl, refl)

-- What a function gives of a line that may find no memory: what it may give, and what not

-- what was read may be given, or want of memory, or the fault
pub line_given : Reads {A = ℕ} (Ok 4) (Ok 4) × Reads {A = ℕ} (Err NoMemory) (Ok 4) × Reads {A = ℕ} (Err (Fault MissingWord)) (Err MissingWord)
line_given = (refl, tt, refl)

-- no other value is given, nor one for a bad line
pub other_line_value : (Reads {A = ℕ} (Ok 4) (Ok 5) → ⊥) × (Reads {A = ℕ} (Ok 4) (Err MissingWord) → ⊥)
other_line_value = (λ same. absurd (cc), λ same. absurd (cc))

-- no fault is told if there is none, nor another one
pub other_line_fault : (Reads {A = ℕ} (Err (Fault MissingWord)) (Ok 4) → ⊥) × (Reads {A = ℕ} (Err (Fault MissingWord)) (Err ExtraWord) → ⊥)
other_line_fault = (λ same. absurd (cc), λ same. let fault : Some ExtraWord ≡ Some MissingWord = ap fault_in same in absurd (cc))

-- the fault is that of what was read
pub faults_read : (fault_in {A = ℕ} (Err ExtraWord) ≡ Some ExtraWord) × (fault_in {A = ℕ} (Ok 4) ≡ None)
faults_read = (refl, refl)

-- a line with an item may find no memory
pub item_takes : HasItems (Ok (record { member = 0; call = TaskCreate (task_with (item_of DepIn 100 ∷ [])) })) × LineHasItems (Ok (Some (record { member = 0; call = Taskwait (item_of DepIn 100 ∷ []) })))
item_takes = (λ same. absurd (cc), λ same. absurd (cc))

-- one without an item may not
pub no_item_takes_none : (HasItems (Ok (record { member = 0; call = TaskCreate (task_of 7 5) })) → ⊥) × (LineHasItems (Ok (Some (record { member = 0; call = Taskwait [] }))) → ⊥)
no_item_takes_none = (λ some. some refl, λ some. some refl)

-- nor may another step, a line without a step or a bad one
pub other_lines_take_none : (HasItems (Ok next_step) → ⊥) × (HasItems (Err MissingWord) → ⊥) × (LineHasItems (Ok (Some next_step)) → ⊥) × (LineHasItems (Ok None) → ⊥) × (LineHasItems (Err MissingWord) → ⊥)
other_lines_take_none = (λ some. some refl, λ never. never, λ some. some refl, λ never. never, λ never. never)

-- What a function gives that may find no memory: what it may give, and what not

-- the bad line of what was read
abbrev bad_in : Result ℕ BadLine → BadLine
bad_in (Ok n) = record { line = 0; why = FirstLine }
bad_in (Err bad) = bad

-- what was read may be given
pub given_as_read : Gives {X = ℕ} {Y = ℕ} (λ n. n) (Ok 4) (Ok 4)
given_as_read = refl

-- want of memory too, if memory is taken
pub memory_told : Gives {X = ℕ} {Y = ℕ} (λ n. n) (Err Memory) (Ok 4)
memory_told = tt

-- no other value is given
pub other_value : Gives {X = ℕ} {Y = ℕ} (λ n. n) (Ok 4) (Ok 5) → ⊥
other_value = λ same. absurd (cc)

-- nor one for a text with a bad line
pub value_for_bad : Gives {X = ℕ} {Y = ℕ} (λ n. n) (Ok 4) (Err (second_line MissingWord)) → ⊥
value_for_bad = λ same. absurd (cc)

-- no bad line is told if there is none
pub fault_of_good : Gives {X = ℕ} {Y = ℕ} (λ n. n) (Err (Bad (second_line MissingWord))) (Ok 4) → ⊥
fault_of_good = λ same. absurd (cc)

-- nor another fault of it
pub other_fault : Gives {X = ℕ} {Y = ℕ} (λ n. n) (Err (Bad (second_line MissingWord))) (Err (second_line ExtraWord)) → ⊥
other_fault = λ same. let fault : MissingWord ≡ ExtraWord = ap (λ (bad : BadLine). bad.why) (ap bad_in (sym same)) in absurd (cc)

-- nor another line
pub other_line : Gives {X = ℕ} {Y = ℕ} (λ n. n) (Err (Bad (second_line MissingWord))) (Err (record { line = 3; why = MissingWord })) → ⊥
other_line = λ same. let line : 2 ≡ 3 = ap (λ (bad : BadLine). bad.line) (ap bad_in (sym same)) in absurd (omega (arith, line))

-- a text with a step may find no memory
pub step_in_text : TeamHasStep (Ok (2, next_step ∷ []))
step_in_text = λ same. absurd (cc)

-- one without a step may not
pub no_step_in_text : TeamHasStep (Ok (2, [])) → ⊥
no_step_in_text = λ some. some refl

-- nor one with a bad line
pub bad_line_in_text : TeamHasStep (Err (second_line MissingWord)) → ⊥
bad_line_in_text = λ never. never

-- the same of the lines behind the team's
pub step_in_lines : HasStep (Ok (next_step ∷ []))
step_in_lines = λ same. absurd (cc)

-- if no step stands
pub no_step_in_lines : HasStep (Ok []) → ⊥
no_step_in_lines = λ some. some refl

-- and if a line is bad
pub bad_line_in_lines : HasStep (Err (second_line MissingWord)) → ⊥
bad_line_in_lines = λ never. never

-- once memory was refused, a bad line is told, and else want of memory
pub told_once_refused : (refused_by (Err (second_line ExtraWord)) ≡ Bad (second_line ExtraWord)) × (refused_by (Ok []) ≡ Memory)
told_once_refused = (refl, refl)
