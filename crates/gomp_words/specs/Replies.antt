-- A reply as numbers: its kind, how many words it has, and these; and the reply that numbers are. (own)
use Rattle.std.specs.Prelude.{◌==◌, ◌≤◌, ◌++◌, ⊤, ℕ, Bool, true, false, if◌then◌else◌, List, [], ◌∷◌, length, take, replicate, Option, Some, None, FitsSigned}
use Rattle.std.specs.List.{find}
use Rattle.std.specs.Option.{option_map}
use Rattle.std.specs.Int.{cast_signed, cast_unsigned, from_bool, w64}
use Rattle.gomp_types.specs.declared.reply.Reply.{Reply}
use Rattle.gomp_types.specs.declared.reply.Reply.TheVariants.{Chunk, NoChunk, Section, Executor, Copied, Finished, Passed, Cancelled, Wait, Created, Dropped, Cancelling, Run, TaskDone, Lock, Got, Count, Stopped, Refused}
use Rattle.gomp_types.specs.declared.refusal.Refusal.{Refusal}
use Rattle.gomp_types.specs.declared.refusal.Refusal.TheVariants.{Broken, BadEnv, BadMember, Ended, Waiting, Leaving, InsideTask, NotInTask, InsideShare, OutsideShare, InOrdered, HoldsCritical, ZeroStep, BadChunk, LoopTooLong, BadSections, OrderedLoop, EndDiffers, NotDrained, Drained, NotOrdered, OrderedBackwards, NotInside, NotCancellable, NoGroup, GroupOpen, TooDeep, TooManyTasks, TooManyDepends, NameTooLong, AlreadyHeld, NotHolder, NoLock, CountTooLarge, TooManyShares, Mismatch, TraceFull, NoMemory, BadTeam, TooManyLevels}
use Rattle.gomp_types.specs.declared.refusal.Place.{Place}
use Rattle.gomp_types.specs.declared.refusal.Place.TheVariants as places
use Rattle.gomp_types.specs.declared.payload.TheConstants.{MAX_WORDS}
use Rattle.gomp_types.specs.RefusalTexts.{number_of}
use Rattle.gomp_words.specs.declared.numbers.Numbers.{Numbers}
use Rattle.gomp_words.specs.Kinds.{flag_of, with_number}
use Rattle.gomp_words.specs.Calls.{given, alone}

-- the number of a reply's kind
abbrev pub reply_number : Reply → ℕ
reply_number (Chunk first count) = 10
reply_number NoChunk = 11
reply_number (Section number) = 12
reply_number (Executor executes) = 13
reply_number (Copied payload) = 14
reply_number Finished = 15
reply_number Passed = 16
reply_number Cancelled = 17
reply_number Wait = 18
reply_number (Created task) = 19
reply_number Dropped = 20
reply_number (Cancelling cancelled) = 21
reply_number (Run task code arg own) = 22
reply_number (TaskDone task waiting) = 23
reply_number (Lock number) = 24
reply_number (Got got) = 25
reply_number (Count count) = 26
reply_number Stopped = 27
reply_number (Refused refusal) = 28

-- where a team broke: at a share, at a barrier, or nowhere
abbrev pub place_words : Place → List ℕ
place_words (places.Share number) = 0 ∷ number ∷ []
place_words (places.Barrier number) = 1 ∷ number ∷ []
place_words places.Stopped = 2 ∷ []

-- a refusal by its number; of a broken team the member that broke it, and the place
abbrev pub refusal_words : Refusal → List ℕ
refusal_words (Broken clash) = 3 ∷ clash.member ∷ place_words clash.place
refusal_words refusal = number_of refusal ∷ []

-- what a reply says beside its kind
abbrev pub reply_words : Reply → List ℕ
reply_words (Chunk first count) = cast_unsigned w64 first ∷ count ∷ []
reply_words (Section number) = number ∷ []
reply_words (Executor executes) = from_bool executes ∷ []
reply_words (Copied payload) = payload
reply_words (Created task) = task ∷ []
reply_words (Cancelling cancelled) = from_bool cancelled ∷ []
reply_words (Run task code arg own) = task ∷ code ∷ arg ∷ from_bool own ∷ []
reply_words (TaskDone task waiting) = task ∷ from_bool waiting ∷ []
reply_words (Lock number) = number ∷ []
reply_words (Got got) = from_bool got ∷ []
reply_words (Count count) = count ∷ []
reply_words (Refused refusal) = refusal_words refusal
reply_words _ = []

-- eight words: these, and then zeros
abbrev pub padded : List ℕ → List ℕ
padded words = take MAX_WORDS (words ++ replicate MAX_WORDS 0)

-- the numbers of a reply
abbrev pub numbers_of : Reply → Numbers
numbers_of reply = record {
  kind = reply_number reply;
  count = length (reply_words reply);
  words = padded (reply_words reply);
}

-- a reply with one number
abbrev pub number_reply : (ℕ → Reply) → List ℕ → Option Reply
number_reply reply (number ∷ []) = Some (reply number)
number_reply reply _ = None

-- a reply that says whether something is so
abbrev pub flag_reply : (Bool → Reply) → List ℕ → Option Reply
flag_reply reply (flag ∷ []) = option_map reply (flag_of flag)
flag_reply reply _ = None

-- a chunk: the value of its first iteration, and how many there are
abbrev pub chunk_reply : List ℕ → Option Reply
chunk_reply (first ∷ count ∷ []) = Some (Chunk (cast_signed w64 first) count)
chunk_reply _ = None

-- a task to execute: its number, its code, its argument, whether it is the caller's own
abbrev pub run_reply : List ℕ → Option Reply
run_reply (task ∷ code ∷ arg ∷ own ∷ []) = option_map (λ own. Run task code arg own) (flag_of own)
run_reply _ = None

-- a task that is ended: its number, and whether a wait is open again
abbrev pub done_reply : List ℕ → Option Reply
done_reply (task ∷ waiting ∷ []) = option_map (λ waiting. TaskDone task waiting) (flag_of waiting)
done_reply _ = None

-- where a team broke
abbrev pub place_of : List ℕ → Option Place
place_of (kind ∷ []) = if kind == 2 then Some places.Stopped else None
place_of (kind ∷ number ∷ []) = if kind == 0 then Some (places.Share number) else (if kind == 1 then Some (places.Barrier number) else None)
place_of _ = None

-- the refusals that a team gives and that have no parts
abbrev pub bare_refusals : List Refusal
bare_refusals = BadMember ∷ Ended ∷ Waiting ∷ Leaving ∷ InsideTask ∷ NotInTask ∷ InsideShare ∷ OutsideShare ∷ InOrdered ∷ HoldsCritical
    ∷ ZeroStep ∷ BadChunk ∷ LoopTooLong ∷ BadSections ∷ OrderedLoop ∷ EndDiffers ∷ NotDrained ∷ Drained ∷ NotOrdered ∷ OrderedBackwards
    ∷ NotInside ∷ NotCancellable ∷ NoGroup ∷ GroupOpen ∷ TooDeep ∷ TooManyTasks ∷ TooManyDepends ∷ NameTooLong ∷ AlreadyHeld ∷ NotHolder
    ∷ NoLock ∷ CountTooLarge ∷ TooManyShares ∷ Mismatch ∷ TraceFull ∷ NoMemory ∷ BadTeam ∷ TooManyLevels ∷ []

-- a refusal, by its number; a broken team with its member and place
abbrev pub refusal_of : List ℕ → Option Refusal
refusal_of [] = None
refusal_of (number ∷ []) = with_number number_of bare_refusals number
refusal_of (number ∷ member ∷ place) = if number == 3 then option_map (λ place. Broken (record { member = member; place = place })) (place_of place) else None

-- the number of each kind, with the reply that its words say
abbrev pub reply_table : List (ℕ × (List ℕ → Option Reply))
reply_table =
    (10, chunk_reply) ∷ (11, alone NoChunk) ∷ (12, number_reply Section) ∷ (13, flag_reply Executor) ∷ (14, λ payload. Some (Copied payload))
    ∷ (15, alone Finished) ∷ (16, alone Passed) ∷ (17, alone Cancelled) ∷ (18, alone Wait) ∷ (19, number_reply Created) ∷ (20, alone Dropped)
    ∷ (21, flag_reply Cancelling) ∷ (22, run_reply) ∷ (23, done_reply) ∷ (24, number_reply Lock) ∷ (25, flag_reply Got) ∷ (26, number_reply Count)
    ∷ (27, alone Stopped) ∷ (28, λ refusal. option_map Refused (refusal_of refusal)) ∷ []

-- the reply that numbers are, if they are one
abbrev pub reply_of : Numbers → Option Reply
reply_of numbers = given (find (λ row. row.0 == numbers.kind) reply_table) (λ row. row.1 (take numbers.count numbers.words))

-- a reply whose parts lie in the ranges of their types, as those of every reply do that a team gives
abbrev pub IsTellable : Reply → Type 0
IsTellable (Chunk first count) = FitsSigned w64 first
IsTellable (Copied payload) = length payload ≤ MAX_WORDS
IsTellable _ = ⊤

-- whether it says that a word of the environment is ignored: no team answers so, and the numbers leave out which word
abbrev pub is_ignored_word : Reply → Bool
is_ignored_word (Refused (BadEnv name)) = true
is_ignored_word _ = false
