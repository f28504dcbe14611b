-- What replies and refusals print, computed. (own)
use Rattle.std.proofs.Common.{◌≡◌, pos, negsuc, true, false, [], ◌∷◌, codes, refl}
use Rattle.std.specs.Fmt.{digits}
use Rattle.gomp_types.specs.declared.refusal.Place.TheVariants.{Share}
use Rattle.gomp_types.specs.declared.refusal.Refusal.TheVariants.{Broken, Leaving, OrderedLoop, NotCancellable, TooManyDepends, Mismatch, BadTeam}
use Rattle.gomp_types.specs.declared.reply.Reply.TheVariants.{Chunk, NoChunk, Section, Executor, Copied, Finished, Passed, Cancelled, Wait, Created, Dropped, Cancelling, Run, TaskDone, Lock, Got, Count, Stopped, Refused}
use Rattle.gomp_script.specs.declared.parse.Why.TheVariants.{NotAscii, FirstLine, UnknownWord, MissingWord, BadNumber, ExtraWord}
use Rattle.gomp_script.specs.Printing.{reply_text, reply_line, refusal_line, bad_line_text}

-- a chunk
pub chunk_printed : reply_text (Chunk (pos 3) 4) ≡ codes "chunk 3 4"
unfolding digits
chunk_printed = refl

-- from the least value on, of the longest length
pub least_chunk_printed : reply_text (Chunk (negsuc 9223372036854775807) 18446744073709551615) ≡ codes "chunk -9223372036854775808 18446744073709551615"
unfolding digits
least_chunk_printed = refl

-- no chunk
pub no_chunk_printed : reply_text NoChunk ≡ codes "none"
unfolding digits
no_chunk_printed = refl

-- a section
pub section_printed : reply_text (Section 1) ≡ codes "section 1"
unfolding digits
section_printed = refl

-- none left
pub no_section_printed : reply_text (Section 0) ≡ codes "section 0"
unfolding digits
no_section_printed = refl

-- the largest number of one
pub largest_section_printed : reply_text (Section 18446744073709551615) ≡ codes "section 18446744073709551615"
unfolding digits
largest_section_printed = refl

-- the executor
pub executor_printed : reply_text (Executor true) ≡ codes "executor yes"
unfolding digits
executor_printed = refl

-- another member
pub other_member_printed : reply_text (Executor false) ≡ codes "executor no"
unfolding digits
other_member_printed = refl

-- no words
pub no_words_printed : reply_text (Copied []) ≡ codes "copied"
unfolding digits
no_words_printed = refl

-- words, in their order
pub words_printed : reply_text (Copied (10 ∷ 0 ∷ 18446744073709551615 ∷ [])) ≡ codes "copied 10 0 18446744073709551615"
unfolding digits
words_printed = refl

-- the number of a task, the first and the largest of its type
pub created_printed : (reply_text (Created 1) ≡ codes "created 1") × (reply_text (Created 4294967295) ≡ codes "created 4294967295")
unfolding digits
created_printed = (refl, refl)

-- a task that is run, and one that is the call's own
pub run_printed : (reply_text (Run 1 7 5 false) ≡ codes "run 1 7 5") × (reply_text (Run 10 0 18446744073709551615 true) ≡ codes "run 10 0 18446744073709551615 own")
unfolding digits
run_printed = (refl, refl)

-- a task that is done, with a wait beneath it and without
pub task_done_printed : (reply_text (TaskDone 2 true) ≡ codes "task_done 2 waiting") × (reply_text (TaskDone 64 false) ≡ codes "task_done 64 free")
unfolding digits
task_done_printed = (refl, refl)

-- the number of a lock, the first and the last
pub lock_printed : (reply_text (Lock 0) ≡ codes "lock 0") × (reply_text (Lock 4294967294) ≡ codes "lock 4294967294")
unfolding digits
lock_printed = (refl, refl)

-- whether a lock was got
pub got_printed : (reply_text (Got true) ≡ codes "got yes") × (reply_text (Got false) ≡ codes "got no")
unfolding digits
got_printed = (refl, refl)

-- how often a nestable lock is set
pub count_printed : (reply_text (Count 0) ≡ codes "count 0") × (reply_text (Count 65535) ≡ codes "count 65535")
unfolding digits
count_printed = (refl, refl)

-- done
pub finished_printed : reply_text Finished ≡ codes "ok"
unfolding digits
finished_printed = refl

-- a barrier that is passed
pub passed_printed : reply_text Passed ≡ codes "passed"
unfolding digits
passed_printed = refl

-- a region that is cancelled, which the member leaves
pub cancelled_printed : reply_text Cancelled ≡ codes "cancelled"
unfolding digits
cancelled_printed = refl

-- whether what is named is cancelled
pub cancelling_printed : (reply_text (Cancelling true) ≡ codes "cancel yes") × (reply_text (Cancelling false) ≡ codes "cancel no")
unfolding digits
cancelling_printed = (refl, refl)

-- a task that was not created, or was discarded
pub dropped_printed : reply_text Dropped ≡ codes "dropped"
unfolding digits
dropped_printed = refl

-- a wait
pub wait_printed : reply_text Wait ≡ codes "wait"
unfolding digits
wait_printed = refl

-- a team that is stopped
pub stopped_printed : reply_text Stopped ≡ codes "stopped"
unfolding digits
stopped_printed = refl

-- a refusal
pub refused_printed : reply_text (Refused Mismatch) ≡ codes "refused E35 Mismatch"
unfolding digits
refused_printed = refl

-- too many items
pub too_many_items_printed : reply_text (Refused TooManyDepends) ≡ codes "refused E28 TooManyDepends"
unfolding digits
too_many_items_printed = refl

-- those of cancellation
pub refused_cancels_printed : (reply_text (Refused Leaving) ≡ codes "refused E5 Leaving") × (reply_text (Refused OrderedLoop) ≡ codes "refused E16 OrderedLoop") × (reply_text (Refused NotCancellable) ≡ codes "refused E23 NotCancellable")
unfolding digits
refused_cancels_printed = (refl, refl, refl)

-- one that tells where the team broke
pub broken_printed : reply_text (Refused (Broken (record { member = 7; place = Share 255 }))) ≡ codes "refused E3 Broken 7 share 255"
unfolding digits
broken_printed = refl

-- a line ends with a line feed
pub line_printed : reply_line Wait ≡ codes "wait\n"
unfolding digits
line_printed = refl

-- a team that is refused
pub refused_team_printed : refusal_line BadTeam ≡ codes "refused E38 BadTeam\n"
unfolding digits
refused_team_printed = refl

-- a bad line: not ascii
pub not_ascii_printed : bad_line_text (record { line = 1; why = NotAscii }) ≡ codes "bad line 1: not ascii\n"
unfolding digits
not_ascii_printed = refl

-- a bad line: first line
pub first_line_printed : bad_line_text (record { line = 10; why = FirstLine }) ≡ codes "bad line 10: first line\n"
unfolding digits
first_line_printed = refl

-- a bad line: unknown word
pub unknown_word_printed : bad_line_text (record { line = 255; why = UnknownWord }) ≡ codes "bad line 255: unknown word\n"
unfolding digits
unknown_word_printed = refl

-- a bad line: missing word
pub missing_word_printed : bad_line_text (record { line = 65536; why = MissingWord }) ≡ codes "bad line 65536: missing word\n"
unfolding digits
missing_word_printed = refl

-- a bad line: bad number
pub bad_number_printed : bad_line_text (record { line = 4294967296; why = BadNumber }) ≡ codes "bad line 4294967296: bad number\n"
unfolding digits
bad_number_printed = refl

-- a bad line: extra word
pub extra_word_printed : bad_line_text (record { line = 18446744073709551615; why = ExtraWord }) ≡ codes "bad line 18446744073709551615: extra word\n"
unfolding digits
extra_word_printed = refl
