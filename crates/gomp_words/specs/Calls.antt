-- A call as a list of words, its number first and then its arguments, and the call that words say. (own)
use Rattle.std.specs.Prelude.{◌==◌, ◌&&◌, ◌≤◌, ◌<◌, ◌^◌, ⊤, ℕ, Bool, nat_lt, nat_le, if◌then◌else◌, List, [], ◌∷◌, length, Option, Some, None, FitsSigned, IsTrue}
use Rattle.std.specs.List.{find, list_all}
use Rattle.std.specs.Option.{option_map, option_and_then}
use Rattle.std.specs.Int.{cast_signed, cast_unsigned, from_bool, w64}
use Rattle.gomp_types.specs.declared.call.Call.{Call}
use Rattle.gomp_types.specs.declared.call.Call.TheVariants.{LoopStart, LoopNext, LoopEnd, LoopEndNowait, LoopEndCancel, SectionsStart, SectionsNext, SectionsEnd, SectionsEndNowait, SectionsEndCancel, SingleStart, SingleCopyStart, SingleCopyEnd, OrderedStart, OrderedEnd, Barrier, RegionEnd, CriticalStart, CriticalEnd, LockInit, NestInit, LockDestroy, Set, Test, Unset, SetNest, TestNest, UnsetNest, TaskCreate, TaskEnd, Taskwait, GroupStart, GroupEnd, Cancel, Point, Resume, Stop}
use Rattle.gomp_types.specs.declared.depend.Dep.{Dep}
use Rattle.gomp_types.specs.declared.payload.TheConstants.{MAX_WORDS}
use Rattle.gomp_types.specs.declared.critical_name.TheConstants.{KEPT_BYTES}
use Rattle.gomp_types.specs.DependItems.{kind_number}
use Rattle.gomp_words.specs.Kinds.{sched_number, end_number, cancel_number, sched_of, end_of, cancel_of, dep_kind_of, flag_of}

-- the items of a `depend` clause: two words each, the kind and the address
abbrev pub item_words : List Dep → List ℕ
item_words [] = []
item_words (item ∷ items) = kind_number item.kind ∷ item.addr ∷ item_words items

-- the words of a call: its number, then its arguments. A number that may be negative is said in two's complement, a name by its bytes
abbrev pub words_of : Call → List ℕ
words_of (LoopStart loop) = 1 ∷ cast_unsigned w64 loop.start ∷ cast_unsigned w64 loop.end ∷ cast_unsigned w64 loop.incr
    ∷ cast_unsigned w64 loop.chunk ∷ sched_number loop.sched ∷ from_bool loop.ordered ∷ end_number loop.end_kind ∷ []
words_of LoopNext = 2 ∷ []
words_of LoopEnd = 3 ∷ []
words_of LoopEndNowait = 4 ∷ []
words_of LoopEndCancel = 5 ∷ []
words_of (SectionsStart count end_kind) = 6 ∷ count ∷ end_number end_kind ∷ []
words_of SectionsNext = 7 ∷ []
words_of SectionsEnd = 8 ∷ []
words_of SectionsEndNowait = 9 ∷ []
words_of SectionsEndCancel = 10 ∷ []
words_of SingleStart = 11 ∷ []
words_of SingleCopyStart = 12 ∷ []
words_of (SingleCopyEnd payload) = 13 ∷ payload
words_of (OrderedStart value) = 14 ∷ cast_unsigned w64 value ∷ []
words_of OrderedEnd = 15 ∷ []
words_of Barrier = 16 ∷ []
words_of RegionEnd = 17 ∷ []
words_of (CriticalStart name) = 18 ∷ name
words_of (CriticalEnd name) = 19 ∷ name
words_of LockInit = 20 ∷ []
words_of NestInit = 21 ∷ []
words_of (LockDestroy lock) = 22 ∷ lock ∷ []
words_of (Set lock) = 23 ∷ lock ∷ []
words_of (Test lock) = 24 ∷ lock ∷ []
words_of (Unset lock) = 25 ∷ lock ∷ []
words_of (SetNest lock) = 26 ∷ lock ∷ []
words_of (TestNest lock) = 27 ∷ lock ∷ []
words_of (UnsetNest lock) = 28 ∷ lock ∷ []
words_of (TaskCreate task) = 29 ∷ task.code ∷ task.arg ∷ from_bool task.undeferred ∷ from_bool task.final_task ∷ item_words task.deps
words_of TaskEnd = 30 ∷ []
words_of (Taskwait items) = 31 ∷ item_words items
words_of GroupStart = 32 ∷ []
words_of GroupEnd = 33 ∷ []
words_of (Cancel kind clause) = 34 ∷ cancel_number kind ∷ from_bool clause ∷ []
words_of (Point kind) = 35 ∷ cancel_number kind ∷ []
words_of Resume = 36 ∷ []
words_of Stop = 37 ∷ []

-- what follows from a part, if there is the part
abbrev pub given : {A B : Type 0} → Option A → (A → Option B) → Option B
given part rest = option_and_then rest part

-- a call, or a reply, that no words follow
abbrev pub alone : {A : Type 0} → A → List ℕ → Option A
alone said [] = Some said
alone said _ = None

-- a loop of these arguments, if they are seven
abbrev pub loop_call : List ℕ → Option Call
loop_call (start ∷ end ∷ incr ∷ chunk ∷ sched ∷ ordered ∷ end_kind ∷ []) =
    given (sched_of sched) (λ sched. given (flag_of ordered) (λ ordered. given (end_of end_kind) (λ end_kind. Some (LoopStart (record {
      start = cast_signed w64 start;
      end = cast_signed w64 end;
      incr = cast_signed w64 incr;
      sched = sched;
      chunk = cast_signed w64 chunk;
      ordered = ordered;
      end_kind = end_kind;
    })))))
loop_call _ = None

-- sections: how many, below 2^32, and what stands at their end
abbrev pub sections_call : List ℕ → Option Call
sections_call (count ∷ end_kind ∷ []) = if nat_lt count (2 ^ 32) then given (end_of end_kind) (λ end_kind. Some (SectionsStart count end_kind)) else None
sections_call _ = None

-- a payload of up to eight words
abbrev pub payload_of : List ℕ → Option (List ℕ)
payload_of payload = if nat_le (length payload) MAX_WORDS then Some payload else None

-- the end of a single with these words
abbrev pub copy_call : List ℕ → Option Call
copy_call payload = option_map SingleCopyEnd (payload_of payload)

-- the ordered part of the iteration with this value
abbrev pub ordered_call : List ℕ → Option Call
ordered_call (value ∷ []) = Some (OrderedStart (cast_signed w64 value))
ordered_call _ = None

-- whether a word is a byte
abbrev pub is_byte : ℕ → Bool
is_byte n = nat_lt n 256

-- a critical name of up to 33 bytes
abbrev pub name_of : List ℕ → Option (List ℕ)
name_of name = if nat_le (length name) KEPT_BYTES && list_all is_byte name then Some name else None

-- a call on a critical name
abbrev pub named_call : (List ℕ → Call) → List ℕ → Option Call
named_call call name = option_map call (name_of name)

-- the number of a lock, below 2^32
abbrev pub lock_of : List ℕ → Option ℕ
lock_of (lock ∷ []) = if nat_lt lock (2 ^ 32) then Some lock else None
lock_of _ = None

-- a call on a lock
abbrev pub lock_call : (ℕ → Call) → List ℕ → Option Call
lock_call call lock = option_map call (lock_of lock)

-- the items that these words say, two each
abbrev pub items_of : List ℕ → Option (List Dep)
items_of [] = Some []
items_of (kind ∷ []) = None
items_of (kind ∷ addr ∷ words) = given (dep_kind_of kind) (λ kind. option_map (λ items. record { kind = kind; addr = addr } ∷ items) (items_of words))

-- a task: its code, its argument, whether it is undeferred, whether it is final, its items
abbrev pub task_call : List ℕ → Option Call
task_call (code ∷ arg ∷ undeferred ∷ final_task ∷ items) =
    given (flag_of undeferred) (λ undeferred. given (flag_of final_task) (λ final_task. given (items_of items) (λ items. Some (TaskCreate (record {
      code = code;
      arg = arg;
      undeferred = undeferred;
      final_task = final_task;
      deps = items;
    })))))
task_call _ = None

-- a wait for tasks, with items or without
abbrev pub taskwait_call : List ℕ → Option Call
taskwait_call items = option_map Taskwait (items_of items)

-- a cancellation: what it names, and its `if` clause
abbrev pub cancel_call : List ℕ → Option Call
cancel_call (kind ∷ clause ∷ []) = given (cancel_of kind) (λ kind. given (flag_of clause) (λ clause. Some (Cancel kind clause)))
cancel_call _ = None

-- a cancellation point: what it names
abbrev pub point_call : List ℕ → Option Call
point_call (kind ∷ []) = option_map Point (cancel_of kind)
point_call _ = None

-- the number of each call, with the call that its arguments say
abbrev pub call_table : List (ℕ × (List ℕ → Option Call))
call_table =
    (1, loop_call) ∷ (2, alone LoopNext) ∷ (3, alone LoopEnd) ∷ (4, alone LoopEndNowait) ∷ (5, alone LoopEndCancel)
    ∷ (6, sections_call) ∷ (7, alone SectionsNext) ∷ (8, alone SectionsEnd) ∷ (9, alone SectionsEndNowait) ∷ (10, alone SectionsEndCancel)
    ∷ (11, alone SingleStart) ∷ (12, alone SingleCopyStart) ∷ (13, copy_call) ∷ (14, ordered_call) ∷ (15, alone OrderedEnd)
    ∷ (16, alone Barrier) ∷ (17, alone RegionEnd) ∷ (18, named_call CriticalStart) ∷ (19, named_call CriticalEnd)
    ∷ (20, alone LockInit) ∷ (21, alone NestInit) ∷ (22, lock_call LockDestroy) ∷ (23, lock_call Set) ∷ (24, lock_call Test) ∷ (25, lock_call Unset)
    ∷ (26, lock_call SetNest) ∷ (27, lock_call TestNest) ∷ (28, lock_call UnsetNest)
    ∷ (29, task_call) ∷ (30, alone TaskEnd) ∷ (31, taskwait_call) ∷ (32, alone GroupStart) ∷ (33, alone GroupEnd)
    ∷ (34, cancel_call) ∷ (35, point_call) ∷ (36, alone Resume) ∷ (37, alone Stop) ∷ []

-- the call that these words say, if they say one
abbrev pub call_of : List ℕ → Option Call
call_of [] = None
call_of (number ∷ arguments) = given (find (λ row. row.0 == number) call_table) (λ row. row.1 arguments)

-- a call whose parts lie in the ranges of their types, as those of every call do that a program makes
abbrev pub IsSayable : Call → Type 0
IsSayable (LoopStart loop) = FitsSigned w64 loop.start × FitsSigned w64 loop.end × FitsSigned w64 loop.incr × FitsSigned w64 loop.chunk
IsSayable (SectionsStart count end_kind) = count < 2 ^ 32
IsSayable (SingleCopyEnd payload) = length payload ≤ MAX_WORDS
IsSayable (OrderedStart value) = FitsSigned w64 value
IsSayable (CriticalStart name) = (length name ≤ KEPT_BYTES) × IsTrue (list_all is_byte name)
IsSayable (CriticalEnd name) = (length name ≤ KEPT_BYTES) × IsTrue (list_all is_byte name)
IsSayable (LockDestroy lock) = lock < 2 ^ 32
IsSayable (Set lock) = lock < 2 ^ 32
IsSayable (Test lock) = lock < 2 ^ 32
IsSayable (Unset lock) = lock < 2 ^ 32
IsSayable (SetNest lock) = lock < 2 ^ 32
IsSayable (TestNest lock) = lock < 2 ^ 32
IsSayable (UnsetNest lock) = lock < 2 ^ 32
IsSayable _ = ⊤
