-- What holds of words and numbers, from the definitions alone: the laws that the crates above cite.
use Rattle.std.proofs.Common.{ℕ, ◌≡◌, ◌<◌, ◌^◌, false, List, Some, refl, sym, ◌∙◌, ap, ◌≤◌, lit≤}
use Rattle.std.specs.Option.{option_map}
use Rattle.gomp_types.specs.declared.call.Call.{Call}
use Rattle.gomp_types.specs.declared.call.Call.TheVariants.{LoopStart, SectionsStart, SingleCopyEnd, OrderedStart, CriticalStart, CriticalEnd, LockDestroy, Set, Test, Unset, SetNest, TestNest, UnsetNest, TaskCreate, Taskwait, Cancel, Point}
use Rattle.gomp_words.specs.Kinds.{sched_number, end_number, cancel_number, sched_of, end_of, cancel_of, flag_of}
use Rattle.gomp_words.specs.Calls.{words_of, call_of, items_of, item_words, IsSayable}
use Rattle.std.specs.Int.{from_bool}
use Rattle.std.specs.List.{All}
use Rattle.gomp_types.specs.declared.call.Step.{Step}
use Rattle.gomp_types.specs.declared.reply.Reply.{Reply}
use Rattle.gomp_types.specs.declared.reply.Reply.TheVariants.{Chunk}
use Rattle.gomp_words.specs.declared.step.StepRead.TheVariants as asks
use Rattle.gomp_words.specs.StepWords.{step_words, step_of}
use Rattle.gomp_words.specs.Replies.{IsTellable, is_ignored_word, numbers_of, reply_of}
use Rattle.gomp_words.proofs.Exact.{IsWord, call_exact}
use Rattle.gomp_words.proofs.StepReadings.{step_exact}
use Rattle.gomp_words.proofs.Told.{reply_told}
use Rattle.gomp_words.proofs.ReadBack.{sched_read_back, end_read_back, cancel_read_back, flag_read_back, items_read_back, loop_read_back, sections_read_back, payload_read_back, value_read_back, name_read_back, lock_read_back, task_read_back, cancel_call_read_back, step_read_back}

-- each call that there is can be said, and is read back from its words
pub every_call_can_be_said : (call : Call) → IsSayable call → call_of (words_of call) ≡ Some call
every_call_can_be_said (LoopStart loop) fits =
    loop_read_back loop (sched_of (sched_number loop.sched)) (flag_of (from_bool loop.ordered)) (end_of (end_number loop.end_kind))
    fits.0 fits.1 fits.2 fits.3 (sched_read_back loop.sched) (flag_read_back loop.ordered) (end_read_back loop.end_kind)
every_call_can_be_said (SectionsStart count end_kind) below = sections_read_back count end_kind (end_of (end_number end_kind)) below (end_read_back end_kind)
every_call_can_be_said (SingleCopyEnd payload) few = ap (λ found. option_map SingleCopyEnd found) (payload_read_back payload few)
every_call_can_be_said (OrderedStart value) fits = value_read_back value fits
every_call_can_be_said (CriticalStart name) is = ap (λ found. option_map CriticalStart found) (name_read_back name is.0 is.1)
every_call_can_be_said (CriticalEnd name) is = ap (λ found. option_map CriticalEnd found) (name_read_back name is.0 is.1)
every_call_can_be_said (LockDestroy lock) below = lock_read_back LockDestroy lock below
every_call_can_be_said (Set lock) below = lock_read_back Set lock below
every_call_can_be_said (Test lock) below = lock_read_back Test lock below
every_call_can_be_said (Unset lock) below = lock_read_back Unset lock below
every_call_can_be_said (SetNest lock) below = lock_read_back SetNest lock below
every_call_can_be_said (TestNest lock) below = lock_read_back TestNest lock below
every_call_can_be_said (UnsetNest lock) below = lock_read_back UnsetNest lock below
every_call_can_be_said (TaskCreate task) any =
    task_read_back task (flag_of (from_bool task.undeferred)) (flag_of (from_bool task.final_task)) (items_of (item_words task.deps))
    (flag_read_back task.undeferred) (flag_read_back task.final_task) (items_read_back task.deps)
every_call_can_be_said (Taskwait items) any = ap (λ found. option_map Taskwait found) (items_read_back items)
every_call_can_be_said (Cancel kind clause) any =
    cancel_call_read_back kind clause (cancel_of (cancel_number kind)) (flag_of (from_bool clause)) (cancel_read_back kind) (flag_read_back clause)
every_call_can_be_said (Point kind) any = ap (λ found. option_map Point found) (cancel_read_back kind)
every_call_can_be_said _ any = refl

-- so is each step
pub every_step_can_be_asked : (step : Step) → step.member < 2 ^ 16 → IsSayable step.call → step_of (step_words step) ≡ asks.Step step
every_step_can_be_asked step member fits =
    step_read_back (words_of step.call) step member (every_call_can_be_said step.call fits)

-- words say one call at most, and only the words of that call say it: none is left out, and none besides
pub words_say_one_call : (words : List ℕ) (call : Call) → All IsWord words → call_of words ≡ Some call → words_of call ≡ words
words_say_one_call = call_exact

-- nor have steps other words
pub words_say_one_step : (words : List ℕ) (step : Step) → All IsWord words → step_of words ≡ asks.Step step → step_words step ≡ words
words_say_one_step = step_exact

-- each reply that a team gives is read back from its numbers
pub every_reply_can_be_told : (reply : Reply) → IsTellable reply → is_ignored_word reply ≡ false → reply_of (numbers_of reply) ≡ Some reply
every_reply_can_be_told = reply_told

-- so numbers tell replies apart
pub replies_told_apart : (a b : Reply) → IsTellable a → IsTellable b → is_ignored_word a ≡ false → is_ignored_word b ≡ false →
    numbers_of a ≡ numbers_of b → a ≡ b
replies_told_apart a b fits other teams too same =
    let one = every_reply_can_be_told a fits teams in
    let two = every_reply_can_be_told b other too in
    let both : Some a ≡ Some b = sym one ∙ ap reply_of same ∙ two in
    cc

-- and kinds below 10 are left to whoever asks a team
pub reply_kinds_in_range : (reply : Reply) → (10 ≤ (numbers_of reply).kind) × ((numbers_of reply).kind ≤ 28)
reply_kinds_in_range (Chunk first count) = (lit≤ tt, lit≤ tt)
reply_kinds_in_range _ = (lit≤ tt, lit≤ tt)
