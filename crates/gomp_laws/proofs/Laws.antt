-- What is proved of a team, for every record of steps and replies whose replies have their causes: the page
-- to read first.
--
-- A `Record` is any list of member steps with the replies to them; `Caused` says that each reply in it has
-- its cause by the definitions of gomp_model (`MayAnswer`). No program state stands behind these laws:
-- whatever body answers as the definitions say keeps them. Each law is stated here whole, and the file that
-- its line cites proves it. `specs/Headline.antt` lists the clauses of `Headline`.
use Rattle.std.proofs.Common.{ℕ, ◌≡◌, ◌<◌, Some}
use Rattle.std.specs.Prelude.{ℤ}
use Rattle.gomp_types.specs.declared.call.Step.{Step}
use Rattle.gomp_types.specs.declared.refusal.Refusal.{Refusal}
use Rattle.gomp_types.specs.declared.reply.Reply.{Reply}
use Rattle.gomp_types.specs.declared.reply.Reply.TheVariants.{Chunk, Refused}
use Rattle.gomp_laws.specs.Headline.{Headline}
use Rattle.gomp_laws.specs.Replies.{HoldReplies, TaskReplies, CancelReplies}
use Rattle.gomp_model.specs.Past.{Terms, Past}
use Rattle.gomp_model.specs.Team.{Record, refusal_of, MayAnswer, past_of, events, Caused, OneReply, SomeReply}
use Rattle.gomp_laws.proofs.CancelReplies.{cancel_replies}
use Rattle.gomp_laws.proofs.ChunksCount.{chunks_have}
use Rattle.gomp_laws.proofs.Headline.{headline_of}
use Rattle.gomp_laws.proofs.HoldReplies.{hold_replies}
use Rattle.gomp_laws.proofs.OneReply.{one_answer}
use Rattle.gomp_laws.proofs.SomeReply.{some_reply_of, refused_so}
use Rattle.gomp_laws.proofs.TaskReplies.{task_replies}

-- The headline: for every team size and list of member steps, no iteration, section or single is taken
-- twice, and of a static loop a member takes only its own pieces; a loop or sections construct that all
-- members end had every iteration or section taken, and a single that all members left was executed by one
-- of them; ordered parts of a loop run in the order of its iterations, and an ordered loop that all members
-- left had each of its pieces handed on; the words that a member copies are those that the executor of the
-- single put; all members go through the same constructs in the same order; no member passes a barrier
-- before all arrived, and have left the constructs before it; a critical name and a lock have at most one
-- owner at a time, which alone releases it, and no member passes a barrier while it holds a critical name; a
-- task is created once, in the task that its creator executes, started once, and ended once by the member that
-- started it; it is started only after all tasks are done that its `depend` clause names, and an undeferred one
-- by its creator alone; a member that waits starts only a descendant of all tasks that it has started and not ended; a
-- taskwait goes on when the children of its task are done, the end of a group when the tasks of the group are,
-- and a barrier is passed when the tasks that are bound to it are done, the region's end when all are; after a
-- member passed a barrier no task is created that is bound to it. A share that some member cancelled may be left
-- with iterations that nobody took; once the region is cancelled its members go to its end alone, from wherever they
-- are, and pass it when all are there; a task that a cancellation reaches is neither created nor started after it, and
-- if nobody has started it it may be discarded, and counts as done. A member cancels only what its construct names.
pub headline_holds : (terms : Terms) → (run : Record) → Caused terms run → Headline terms.members (events terms run)
headline_holds = headline_of

-- At most one reply to a step has its cause, whatever was before it, but for two things: memory may be
-- wanting, and if a member is to execute a task at its wait, each task that it may start has its cause.
pub at_most_one_reply_has_its_cause :
    (p : Past) → (step : Step) → (one : Reply) → (other : Reply) → MayAnswer p step one → MayAnswer p step other
    → OneReply one other
at_most_one_reply_has_its_cause = one_answer

-- To each step some reply other than want of memory has its cause, after every record whose replies have
-- theirs: with the law before, the record decides exactly one, want of memory and the choice of a task aside.
pub some_reply_has_its_cause :
    (terms : Terms) → (run : Record) → (step : Step) → Caused terms run → SomeReply (past_of terms run) step
some_reply_has_its_cause = some_reply_of

-- A call waits for a critical name or a lock only if another owner holds it; a count that is answered is the
-- number of open holds of the lock that the task which asks has then.
pub replies_on_names_and_locks : (terms : Terms) → (run : Record) → Caused terms run → HoldReplies terms run
replies_on_names_and_locks = hold_replies

-- A creator is answered the number of the task that it has created, in the task that it executes and with
-- what it asked for; a task that a member is to execute was created with the code and the argument that are
-- answered, and the member has started it; it is the member's own exactly if it is undeferred, and then the
-- member created it by this call; the end of a task is answered by the number of the task that the member
-- executed, and the call at which it was started waits again, unless the task is undeferred.
pub replies_on_tasks : (terms : Terms) → (run : Record) → Caused terms run → TaskReplies terms run
replies_on_tasks = task_replies

-- A member is answered that the region is cancelled only if it is, and that its task is dropped only if a
-- cancellation would reach that task; if the control variable allows none, nothing is ever cancelled.
pub replies_on_cancellation : (terms : Terms) → (run : Record) → Caused terms run → CancelReplies terms run
replies_on_cancellation = cancel_replies

-- A chunk that is answered has an iteration, at least one.
pub chunk_has_an_iteration :
    (terms : Terms) → (run : Record) → (step : Step) → (first : ℤ) → (count : ℕ) → Caused terms run
    → MayAnswer (past_of terms run) step (Chunk first count) → 0 < count
chunk_has_an_iteration = chunks_have

-- Of the tests of a step that hold, the refusal with the least number is an answer to it.
pub least_refusal_is_an_answer :
    (p : Past) → (step : Step) → (refusal : Refusal) → refusal_of p step ≡ Some refusal → MayAnswer p step (Refused refusal)
least_refusal_is_an_answer = refused_so
