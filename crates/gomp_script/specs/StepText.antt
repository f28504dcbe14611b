-- The text of steps: a line `team N`, and then a line `MEMBER CALL` for each step. (own)
use Rattle.std.specs.Prelude.{ℕ, ℤ, ◌≡◌, ◌≢◌, ◌+◌, ◌++◌, ◌==◌, Bool, true, false, if◌then◌else◌, List, [], ◌∷◌, take, drop, is_some, Option, Some, None, option_map, Result, Ok, Err, MatchResult, codes, option_copied}
use Rattle.std.specs.Borrow.{Bor}
use Rattle.std.specs.Option.{option_map_or, option_or}
use Rattle.gomp_types.specs.declared.call.Call.{Call}
use Rattle.gomp_types.specs.declared.call.Call.TheVariants.{LoopStart, LoopNext, LoopEnd, LoopEndNowait, LoopEndCancel, SectionsStart, SectionsNext, SectionsEnd, SectionsEndNowait, SectionsEndCancel, SingleStart, SingleCopyStart, SingleCopyEnd, OrderedStart, OrderedEnd, Barrier, RegionEnd, CriticalStart, CriticalEnd, LockInit, NestInit, LockDestroy, Set, Test, Unset, SetNest, TestNest, UnsetNest, TaskCreate, TaskEnd, Taskwait, GroupStart, GroupEnd, Cancel, Point, Resume, Stop}
use Rattle.gomp_types.specs.declared.call.Step.{Step}
use Rattle.gomp_types.specs.declared.cancel.CancelKind.{CancelKind}
use Rattle.gomp_types.specs.declared.cancel.CancelKind.TheVariants.{Parallel, Loop, Sections, Taskgroup}
use Rattle.gomp_types.specs.declared.depend.Dep.{Dep}
use Rattle.gomp_types.specs.declared.depend.DepKind.{DepKind}
use Rattle.gomp_types.specs.declared.depend.DepKind.TheVariants.{DepIn, DepOut, DepInout, DepInoutset, DepMutex}
use Rattle.gomp_types.specs.declared.loop_desc.Sched.{Sched}
use Rattle.gomp_types.specs.declared.loop_desc.Sched.TheVariants.{Static, Dynamic, Guided, Runtime}
use Rattle.gomp_types.specs.declared.loop_desc.EndKind.{EndKind}
use Rattle.gomp_types.specs.declared.loop_desc.EndKind.TheVariants.{Wait, Nowait, Cancellable}
use Rattle.gomp_types.specs.declared.critical_name.TheConstants.{KEPT_BYTES}
use Rattle.gomp_types.specs.declared.payload.TheConstants.{MAX_WORDS}
use Rattle.gomp_types.specs.Limits.{shown_number}
use Rattle.gomp_script.specs.declared.parse.Why.{Why}
use Rattle.gomp_script.specs.declared.parse.Why.TheVariants.{NotAscii, FirstLine, UnknownWord, MissingWord, BadNumber, ExtraWord}
use Rattle.gomp_script.specs.declared.parse.BadLine.{BadLine}
use Rattle.gomp_script.specs.declared.parse.LineError.{LineError}
use Rattle.gomp_script.specs.declared.parse.LineError.TheVariants.{NoMemory, Fault}
use Rattle.gomp_script.specs.declared.parse.items.Item.{Item}
use Rattle.gomp_script.specs.declared.parse.locks.LockCall.{LockCall}
use Rattle.gomp_script.specs.declared.parse.locks.LockCall.TheVariants.{Destroys, Sets, Tests, Unsets, SetsNest, TestsNest, UnsetsNest}
use Rattle.gomp_script.specs.declared.parse.ParseError.{ParseError}
use Rattle.gomp_script.specs.declared.parse.TeamLine.{TeamLine}
use Rattle.gomp_script.specs.declared.parse.ParseError.TheVariants.{Memory, Bad}
use Rattle.gomp_text.specs.Words.{lines_of, words_of, parts_left, is_ascii, same_word}
use Rattle.gomp_text.specs.Numbers.{unsigned, signed}

-- Reading: a value, or why the line is bad; the first fault is told
infixl 10 ◌>>=◌
abbrev pub ◌>>=◌ : {A B : Type 0} → Result A Why → (A → Result B Why) → Result B Why
(Ok value) >>= go = go value
(Err why) >>= go = Err why

-- what is wanted is there
abbrev pub or_why : {A : Type 0} → Why → Option A → Result A Why
or_why why None = Err why
or_why why (Some value) = Ok value

-- the next word, and those after it
abbrev pub next_word : List (List ℕ) → Result (List ℕ × List (List ℕ)) Why
next_word [] = Err MissingWord
next_word (word ∷ words) = Ok (word, words)

-- the next word of a line and what follows it are taken, or it is said why there is none
abbrev pub TakesWord : List ℕ → Result (Bor (List ℕ) × Bor (List ℕ)) Why → Type 0
TakesWord line taken = MatchResult taken (λ parts. next_word (words_of line) ≡ Ok (parts.0.now, words_of parts.1.now)) (λ why. next_word (words_of line) ≡ Err why)

-- no word is left
abbrev pub no_more_words : List (List ℕ) → Result (Unit {0}) Why
no_more_words [] = Ok tt
no_more_words (word ∷ words) = Err ExtraWord

-- Numbers

-- the number of a member, a u16
abbrev pub member_named : List ℕ → Result ℕ Why
member_named word = or_why BadNumber (unsigned 65535 word)

-- a count, or the number of a lock, a u32
abbrev pub count_of : List ℕ → Result ℕ Why
count_of word = or_why BadNumber (unsigned 4294967295 word)

-- a word of a payload, the code of a task, its argument or an address, a u64
abbrev pub unsigned_of : List ℕ → Result ℕ Why
unsigned_of word = or_why BadNumber (unsigned 18446744073709551615 word)

-- a number of a loop, an i64
abbrev pub number_of : List ℕ → Result ℤ Why
number_of word = or_why BadNumber (signed word)

-- The words of a list

abbrev pub sched_of : List ℕ → Option Sched
sched_of word =
    if same_word word (codes "static") then Some Static
    else if same_word word (codes "dynamic") then Some Dynamic
    else if same_word word (codes "guided") then Some Guided
    else if same_word word (codes "runtime") then Some Runtime
    else None

abbrev pub end_of : List ℕ → Option EndKind
end_of word =
    if same_word word (codes "wait") then Some Wait
    else if same_word word (codes "nowait") then Some Nowait
    else if same_word word (codes "cancellable") then Some Cancellable
    else None

-- what a construct of cancellation names
abbrev pub cancel_kind_of : List ℕ → Option CancelKind
cancel_kind_of word =
    if same_word word (codes "parallel") then Some Parallel
    else if same_word word (codes "loop") then Some Loop
    else if same_word word (codes "sections") then Some Sections
    else if same_word word (codes "taskgroup") then Some Taskgroup
    else None

-- an `if` clause, false or true
abbrev pub clause_of : List ℕ → Option Bool
clause_of word =
    if same_word word (codes "0") then Some false
    else if same_word word (codes "1") then Some true
    else None

-- the calls of a work-share that stand alone
abbrev pub share_call_of : List ℕ → Option Call
share_call_of word =
    if same_word word (codes "next") then Some LoopNext
    else if same_word word (codes "end") then Some LoopEnd
    else if same_word word (codes "end_nowait") then Some LoopEndNowait
    else if same_word word (codes "end_cancel") then Some LoopEndCancel
    else if same_word word (codes "section_next") then Some SectionsNext
    else if same_word word (codes "sections_end") then Some SectionsEnd
    else if same_word word (codes "sections_end_nowait") then Some SectionsEndNowait
    else if same_word word (codes "sections_end_cancel") then Some SectionsEndCancel
    else if same_word word (codes "single") then Some SingleStart
    else if same_word word (codes "single_copy") then Some SingleCopyStart
    else None

-- the calls on tasks and groups that stand alone
abbrev pub task_call_of : List ℕ → Option Call
task_call_of word =
    if same_word word (codes "task_end") then Some TaskEnd
    else if same_word word (codes "group") then Some GroupStart
    else if same_word word (codes "group_end") then Some GroupEnd
    else None

-- the calls that stand alone
abbrev pub call_of : List ℕ → Option Call
call_of word =
    if same_word word (codes "ordered_end") then Some OrderedEnd
    else if same_word word (codes "barrier") then Some Barrier
    else if same_word word (codes "region_end") then Some RegionEnd
    else if same_word word (codes "lock_init") then Some LockInit
    else if same_word word (codes "nest_init") then Some NestInit
    else if same_word word (codes "resume") then Some Resume
    else if same_word word (codes "stop") then Some Stop
    else option_or (task_call_of word) (share_call_of word)

-- Steps

-- `MEMBER CALL`, if the call stands alone
unfoldable pub plain_step : List ℕ → List ℕ → List (List ℕ) → Result Step Why
plain_step member call words = do
  made ← or_why UnknownWord (call_of call)
  number ← member_named member
  done ← no_more_words words
  Ok (record { member = number; call = made })

-- the end of a loop's line: nothing, or the one word `ordered`
abbrev pub ordered_of : List (List ℕ) → Result Bool Why
ordered_of [] = Ok false
ordered_of (word ∷ []) = if same_word word (codes "ordered") then Ok true else Err ExtraWord
ordered_of (word ∷ other ∷ words) = Err ExtraWord

-- `MEMBER loop KIND CHUNK START END INCR ENDKIND [ordered]`
unfoldable pub loop_step : List ℕ → List (List ℕ) → Result Step Why
loop_step member words = do
  kind ← next_word words
  sched ← or_why UnknownWord (sched_of kind.0)
  chunk ← next_word kind.1
  start ← next_word chunk.1
  end ← next_word start.1
  incr ← next_word end.1
  ending ← next_word incr.1
  end_kind ← or_why UnknownWord (end_of ending.0)
  number ← member_named member
  size ← number_of chunk.0
  first ← number_of start.0
  bound ← number_of end.0
  step ← number_of incr.0
  ordered ← ordered_of ending.1
  Ok (record { member = number; call = LoopStart (record { start = first; end = bound; incr = step; sched = sched; chunk = size; ordered = ordered; end_kind = end_kind }) })

-- `MEMBER sections COUNT ENDKIND`
unfoldable pub sections_step : List ℕ → List (List ℕ) → Result Step Why
sections_step member words = do
  count ← next_word words
  ending ← next_word count.1
  end_kind ← or_why UnknownWord (end_of ending.0)
  number ← member_named member
  sections ← count_of count.0
  done ← no_more_words ending.1
  Ok (record { member = number; call = SectionsStart sections end_kind })

-- the words of a payload
abbrev pub payload_words : List (List ℕ) → Result (List ℕ) Why
payload_words [] = Ok []
payload_words (word ∷ words) = do
  first ← unsigned_of word
  later ← payload_words words
  Ok (first ∷ later)

-- the numbers of the first words, at most so many, and then nothing more
abbrev pub payload_of : ℕ → List (List ℕ) → Result (List ℕ) Why
payload_of most words = do
  payload ← payload_words (take most words)
  done ← no_more_words (drop most words)
  Ok payload

-- `MEMBER single_copy_end [W]..`
unfoldable pub copy_end_step : List ℕ → List (List ℕ) → Result Step Why
copy_end_step member words = do
  number ← member_named member
  payload ← payload_of MAX_WORDS words
  Ok (record { member = number; call = SingleCopyEnd payload })

-- `MEMBER ordered VALUE`
unfoldable pub ordered_step : List ℕ → List (List ℕ) → Result Step Why
ordered_step member words = do
  value ← next_word words
  number ← member_named member
  iteration ← number_of value.0
  done ← no_more_words value.1
  Ok (record { member = number; call = OrderedStart iteration })

-- the name of a critical construct, of which the first bytes are kept: the one word that is left, or the empty name
abbrev pub critical_name_of : List (List ℕ) → Result (List ℕ) Why
critical_name_of [] = Ok []
critical_name_of (word ∷ []) = Ok (take KEPT_BYTES word)
critical_name_of (word ∷ other ∷ words) = Err ExtraWord

-- `MEMBER critical [NAME]`
unfoldable pub critical_step : List ℕ → List (List ℕ) → Result Step Why
critical_step member words = do
  number ← member_named member
  name ← critical_name_of words
  Ok (record { member = number; call = CriticalStart name })

-- `MEMBER critical_end [NAME]`
unfoldable pub critical_end_step : List ℕ → List (List ℕ) → Result Step Why
critical_end_step member words = do
  number ← member_named member
  name ← critical_name_of words
  Ok (record { member = number; call = CriticalEnd name })

-- `MEMBER cancel CANCEL 0|1`. OpenMP API 5.2, section 16.1.
unfoldable pub cancel_step : List ℕ → List (List ℕ) → Result Step Why
cancel_step member words = do
  named ← next_word words
  kind ← or_why UnknownWord (cancel_kind_of named.0)
  truth ← next_word named.1
  clause ← or_why UnknownWord (clause_of truth.0)
  number ← member_named member
  done ← no_more_words truth.1
  Ok (record { member = number; call = Cancel kind clause })

-- `MEMBER point CANCEL`. OpenMP API 5.2, section 16.2.
unfoldable pub point_step : List ℕ → List (List ℕ) → Result Step Why
point_step member words = do
  named ← next_word words
  kind ← or_why UnknownWord (cancel_kind_of named.0)
  number ← member_named member
  done ← no_more_words named.1
  Ok (record { member = number; call = Point kind })

-- the calls on a lock, each a call once the lock's number is read
abbrev pub lock_call_of : List ℕ → Option (ℕ → Call)
lock_call_of word =
    if same_word word (codes "lock_destroy") then Some LockDestroy
    else if same_word word (codes "set") then Some Set
    else if same_word word (codes "test") then Some Test
    else if same_word word (codes "unset") then Some Unset
    else if same_word word (codes "set_nest") then Some SetNest
    else if same_word word (codes "test_nest") then Some TestNest
    else if same_word word (codes "unset_nest") then Some UnsetNest
    else None

-- the same call, as it is kept until that number is read
abbrev pub call_on : LockCall → ℕ → Call
call_on Destroys = LockDestroy
call_on Sets = Set
call_on Tests = Test
call_on Unsets = Unset
call_on SetsNest = SetNest
call_on TestsNest = TestNest
call_on UnsetsNest = UnsetNest

-- `MEMBER CALL L`, of a call on a lock
unfoldable pub lock_step : (ℕ → Call) → List ℕ → List (List ℕ) → Result Step Why
lock_step call member words = do
  lock ← next_word words
  number ← member_named member
  locked ← count_of lock.0
  done ← no_more_words lock.1
  Ok (record { member = number; call = call locked })

-- Items: `[DEP ADDR]..`, at the end of a line. OpenMP API 5.2, section 15.9.5.

-- the type of a dependence
abbrev pub depend_kind_of : List ℕ → Option DepKind
depend_kind_of word =
    if same_word word (codes "in") then Some DepIn
    else if same_word word (codes "out") then Some DepOut
    else if same_word word (codes "inout") then Some DepInout
    else if same_word word (codes "inoutset") then Some DepInoutset
    else if same_word word (codes "mutexinoutset") then Some DepMutex
    else None

-- the words behind the items in front: the first of them is no type of a dependence
abbrev pub behind_items : List (List ℕ) → Result (List (List ℕ)) Why
behind_items [] = Ok []
behind_items (word ∷ []) = if is_some (depend_kind_of word) then Err MissingWord else Ok (word ∷ [])
behind_items (word ∷ addr ∷ words) = if is_some (depend_kind_of word) then behind_items words else Ok (word ∷ addr ∷ words)

-- these items, an address before those that are read of later ones
abbrev pub with_item : DepKind → Result ℕ Why → Result (List Dep) Why → Result (List Dep) Why
with_item kind addr later = do
  place ← addr
  items ← later
  Ok (record { kind = kind; addr = place } ∷ items)

-- the items in front, each a type of a dependence and an address
abbrev pub items_of : List (List ℕ) → Result (List Dep) Why
items_of [] = Ok []
items_of (word ∷ []) = if is_some (depend_kind_of word) then Err MissingWord else Ok []
items_of (word ∷ addr ∷ words) = option_map_or (λ kind. with_item kind (unsigned_of addr) (items_of words)) (depend_kind_of word) (Ok [])

-- whether this word stands in front, and the words behind it
abbrev pub option_of : List ℕ → List (List ℕ) → Bool × List (List ℕ)
option_of name [] = (false, [])
option_of name (word ∷ words) = if same_word word name then (true, words) else (false, word ∷ words)

-- `if0`, which makes a task undeferred, may stand in front
abbrev pub if0_of : List (List ℕ) → Bool × List (List ℕ)
if0_of words = option_of (codes "if0") words

-- `final` may stand behind it
abbrev pub final_of : List (List ℕ) → Bool × List (List ℕ)
final_of words = option_of (codes "final") (if0_of words).1

-- `MEMBER task CODE ARG [if0] [final] [DEP ADDR]..`
unfoldable pub task_step : List ℕ → List (List ℕ) → Result Step Why
task_step member words = do
  code ← next_word words
  arg ← next_word code.1
  behind ← behind_items (final_of arg.1).1
  number ← member_named member
  job ← unsigned_of code.0
  argument ← unsigned_of arg.0
  items ← items_of (final_of arg.1).1
  done ← no_more_words behind
  Ok (record { member = number; call = TaskCreate (record { code = job; arg = argument; undeferred = (if0_of arg.1).0; final_task = (final_of arg.1).0; deps = items }) })

-- `MEMBER taskwait [DEP ADDR]..`
unfoldable pub taskwait_step : List ℕ → List (List ℕ) → Result Step Why
taskwait_step member words = do
  behind ← behind_items words
  number ← member_named member
  items ← items_of words
  done ← no_more_words behind
  Ok (record { member = number; call = Taskwait items })

-- the step of a member whose call has no items, by the word of its call and those that follow
abbrev pub other_step : List ℕ → List ℕ → List (List ℕ) → Result Step Why
other_step member call words =
    if same_word call (codes "loop") then loop_step member words
    else if same_word call (codes "sections") then sections_step member words
    else if same_word call (codes "single_copy_end") then copy_end_step member words
    else if same_word call (codes "ordered") then ordered_step member words
    else if same_word call (codes "critical") then critical_step member words
    else if same_word call (codes "critical_end") then critical_end_step member words
    else if same_word call (codes "cancel") then cancel_step member words
    else if same_word call (codes "point") then point_step member words
    else option_map_or (λ lock_call. lock_step lock_call member words) (lock_call_of call) (plain_step member call words)

-- the step of a member, by the word of its call and those that follow
abbrev pub call_step : List ℕ → List ℕ → List (List ℕ) → Result Step Why
call_step member call words =
    if same_word call (codes "task") then task_step member words
    else if same_word call (codes "taskwait") then taskwait_step member words
    else other_step member call words

abbrev pub step_of : List (List ℕ) → Result Step Why
step_of [] = Err MissingWord
step_of (member ∷ []) = Err MissingWord
step_of (member ∷ call ∷ words) = call_step member call words

-- `team N`
unfoldable pub team_of : List (List ℕ) → Result ℕ Why
team_of words = do
  first ← next_word words
  named ← or_why FirstLine (if same_word first.0 (codes "team") then Some (tt {0}) else None)
  count ← next_word first.1
  number ← count_of count.0
  done ← no_more_words count.1
  Ok number

-- Lines: an empty one and a comment say nothing; bytes that are not ASCII are a fault in those too

-- a word that begins a comment begins with `#`
abbrev pub begins_comment : List ℕ → Bool
begins_comment [] = false
begins_comment (b ∷ bytes) = b == 35

abbrev pub some_if_ok : {A : Type 0} → Result A Why → Result (Option A) Why
some_if_ok (Ok value) = Ok (Some value)
some_if_ok (Err why) = Err why

-- these words, or none if they are a comment
abbrev pub without_comment : List (List ℕ) → List (List ℕ)
without_comment [] = []
without_comment (word ∷ words) = if begins_comment word then [] else word ∷ words

-- the words of a line, none of a comment
abbrev pub line_words : List ℕ → Result (List (List ℕ)) Why
line_words line = if is_ascii line then Ok (without_comment (words_of line)) else Err NotAscii

-- the first word of a line and the rest of the line after it; nothing if the line has no word or is a comment; or why it is bad
abbrev pub IsFirstOfLine : List ℕ → Result (Option (Bor (List ℕ) × Bor (List ℕ))) Why → Type 0
IsFirstOfLine line read = MatchResult read (λ found. line_words line ≡ Ok (option_map_or (λ parts. parts.0.now ∷ words_of parts.1.now) found [])) (λ why. line_words line ≡ Err why)

abbrev pub read_words : {A : Type 0} → (List (List ℕ) → Result A Why) → List (List ℕ) → Result (Option A) Why
read_words reads [] = Ok None
read_words reads (word ∷ words) = some_if_ok (reads (word ∷ words))

abbrev pub read_line : {A : Type 0} → (List (List ℕ) → Result A Why) → List ℕ → Result (Option A) Why
read_line reads line = line_words line >>= read_words reads

-- a line in which this member asks for its next chunk
abbrev pub IsNext : ℕ → List ℕ → Type 0
IsNext member line = read_line step_of line ≡ Ok (Some (record { member = member; call = LoopNext }))

-- Texts

abbrev pub bad_line : {A : Type 0} → ℕ → Why → Result A BadLine
bad_line number why = Err (record { line = number; why = why })

abbrev pub with_front : Step → Result (List Step) BadLine → Result (List Step) BadLine
with_front step (Ok steps) = Ok (step ∷ steps)
with_front step (Err bad) = Err bad

abbrev pub with_team : ℕ → Result (List Step) BadLine → Result (ℕ × List Step) BadLine
with_team count (Ok steps) = Ok (count, steps)
with_team count (Err bad) = Err bad

abbrev pub step_line : ℕ → Result (Option Step) Why → Result (List Step) BadLine → Result (List Step) BadLine
step_line number (Err why) later = bad_line number why
step_line number (Ok None) later = later
step_line number (Ok (Some step)) later = with_front step later

-- the steps of the lines from this one on; lines are numbered from 1, up to the largest number
abbrev pub steps_from : ℕ → List (List ℕ) → Result (List Step) BadLine
steps_from number [] = Ok []
steps_from number (line ∷ lines) = step_line number (read_line step_of line) (steps_from (shown_number (number + 1)) lines)

abbrev pub team_line : ℕ → Result (Option ℕ) Why → Result (ℕ × List Step) BadLine → Result (List Step) BadLine → Result (ℕ × List Step) BadLine
team_line number (Err why) later steps = bad_line number why
team_line number (Ok None) later steps = later
team_line number (Ok (Some count)) later steps = with_team count steps

-- a text without a line that counts has no first line
abbrev pub text_from : ℕ → List (List ℕ) → Result (ℕ × List Step) BadLine
text_from number [] = bad_line 1 FirstLine
text_from number (line ∷ lines) = team_line number (read_line team_of line) (text_from (shown_number (number + 1)) lines) (steps_from (shown_number (number + 1)) lines)

-- the size of the team and its steps, or the first bad line
abbrev pub steps_of : List ℕ → Result (ℕ × List Step) BadLine
steps_of text = text_from 1 (lines_of text)

-- What a function gives of a line, or of a part of it, that may find no memory

-- an error is that of the reading, or want of memory
abbrev pub Reads : {A : Type 0} → Result A LineError → Result A Why → Type 0
Reads (Ok value) read = read ≡ Ok value
Reads (Err (Fault why)) read = read ≡ Err why
Reads (Err NoMemory) read = Unit {0}

-- the items of a call
abbrev pub call_items : Call → List Dep
call_items (TaskCreate desc) = desc.deps
call_items (Taskwait items) = items
call_items _ = []

-- the step of these words has an item, and they have no fault: only then does a line take memory
abbrev pub HasItems : Result Step Why → Type 0
HasItems (Ok step) = call_items step.call ≢ []
HasItems (Err why) = ⊥

-- the same of a line
abbrev pub LineHasItems : Result (Option Step) Why → Type 0
LineHasItems (Ok (Some step)) = call_items step.call ≢ []
LineHasItems (Ok None) = ⊥
LineHasItems (Err why) = ⊥

-- What a function gives of the words of a line

-- the fault, if there is one
abbrev pub fault_in : {A : Type 0} → Result A Why → Option Why
fault_in (Ok value) = None
fault_in (Err why) = Some why

-- whether there is a fault, and which
abbrev pub without_value : {A : Type 0} → Result A Why → Result (Unit {0}) Why
without_value (Ok value) = Ok tt
without_value (Err why) = Err why

-- the words of an item that is found, and what follows it
abbrev pub item_words : Item → DepKind × List ℕ × List (List ℕ)
item_words item = (item.kind, item.addr.now, words_of item.rest.now)

-- the words of the item in front of these; nothing if the first of them is no type of a dependence
abbrev pub first_item : List (List ℕ) → Result (Option (DepKind × List ℕ × List (List ℕ))) Why
first_item [] = Ok None
first_item (word ∷ []) = if is_some (depend_kind_of word) then Err MissingWord else Ok None
first_item (word ∷ addr ∷ words) = Ok (option_map (λ kind. (kind, addr, words)) (depend_kind_of word))

-- they are found, or it is said why not
abbrev pub IsItem : List ℕ → Result (Option Item) Why → Type 0
IsItem line read = MatchResult read (λ found. first_item (words_of line) ≡ Ok (option_map item_words found)) (λ why. first_item (words_of line) ≡ Err why)

-- what follows the items is found, or it is said why not
abbrev pub IsBehindItems : List ℕ → Result (Bor (List ℕ)) Why → Type 0
IsBehindItems line read = MatchResult read (λ rest. behind_items (words_of line) ≡ Ok (words_of rest.now)) (λ why. behind_items (words_of line) ≡ Err why)

-- whether an option stands in front of a line, and what follows it
abbrev pub TakesOption : List ℕ → List ℕ → Bool × Bor (List ℕ) → Type 0
TakesOption name line taken = option_of name (words_of line) ≡ (taken.0, words_of taken.1.now)

-- What a function gives of a text, that may find no memory

-- an error is that of the reading, or want of memory
abbrev pub Fails : {Y : Type 0} → ParseError → Result Y BadLine → Type 0
Fails Memory read = Unit {0}
Fails (Bad bad) read = read ≡ Err bad

-- what is given, seen by `view`, is what reading gives, unless memory is refused
abbrev pub Gives : {X Y : Type 0} → (X → Y) → Result X ParseError → Result Y BadLine → Type 0
Gives view (Ok value) read = read ≡ Ok (view value)
Gives view (Err error) read = Fails error read

-- there is a step, and no bad line: only then does a list of steps take memory
abbrev pub HasStep : Result (List Step) BadLine → Type 0
HasStep (Ok steps) = steps ≢ []
HasStep (Err bad) = ⊥

-- the same of a text
abbrev pub TeamHasStep : Result (ℕ × List Step) BadLine → Type 0
TeamHasStep (Ok found) = found.1 ≢ []
TeamHasStep (Err bad) = ⊥

-- the error once memory was refused: the first bad line of those that are left, if one is bad
abbrev pub refused_by : Result (List Step) BadLine → ParseError
refused_by (Ok steps) = Memory
refused_by (Err bad) = Bad bad

-- the lines of what is left of a text
abbrev pub lines_left : Option (List ℕ) → List (List ℕ)
lines_left text = parts_left 10 text

-- the steps of what is left of a text, by the number of its first line
abbrev pub steps_left : ℕ → Option (List ℕ) → Result (List Step) BadLine
steps_left number text = steps_from number (lines_left text)

-- what a text says is the size on its team's line, and the steps of the lines behind that; or that line is bad, or wants
abbrev pub IsTeamLine : List ℕ → Result TeamLine BadLine → Type 0
IsTeamLine text read = MatchResult read (λ line. steps_of text ≡ with_team line.count (steps_left line.first (option_copied line.lines))) (λ bad. steps_of text ≡ Err bad)

-- the steps so far, with what a line said
abbrev pub steps_kept : List Step → Option Step → List Step
steps_kept steps None = steps
steps_kept steps (Some step) = steps ++ step ∷ []
