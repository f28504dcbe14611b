-- How a reply is printed. (own)
use Rattle.std.specs.Prelude.{List, [], ◌++◌, codes, ℕ, Bool, true, false, flat_map}
use Rattle.std.specs.Fmt.{decimal, signed_decimal}
use Rattle.gomp_types.specs.declared.reply.Reply.{Reply}
use Rattle.gomp_types.specs.declared.reply.Reply.TheVariants.{Chunk, NoChunk, Section, Executor, Copied, Finished, Passed, Cancelled, Wait, Created, Dropped, Cancelling, Run, TaskDone, Lock, Got, Count, Stopped, Refused}
use Rattle.gomp_types.specs.declared.refusal.Refusal.{Refusal}
use Rattle.gomp_script.specs.declared.parse.Why.{Why}
use Rattle.gomp_script.specs.declared.parse.Why.TheVariants.{NotAscii, FirstLine, UnknownWord, MissingWord, BadNumber, ExtraWord}
use Rattle.gomp_script.specs.declared.parse.BadLine.{BadLine}
use Rattle.gomp_types.specs.RefusalTexts.{text_of}

abbrev pub refused_text : Refusal → List ℕ
refused_text refusal = codes "refused " ++ text_of refusal

-- the word of a truth
abbrev pub yes_text : Bool → List ℕ
yes_text true = codes "yes"
yes_text false = codes "no"

-- a word of a payload, after a space
abbrev pub word_text : ℕ → List ℕ
word_text word = codes " " ++ decimal word

-- a task that is executed, and what was asked for
abbrev pub run_text : ℕ → ℕ → ℕ → List ℕ
run_text task code arg = codes "run " ++ (decimal task ++ (codes " " ++ (decimal code ++ (codes " " ++ decimal arg))))

-- whether it is the call's own
abbrev pub own_text : Bool → List ℕ
own_text true = codes " own"
own_text false = []

-- whether the wait beneath a task is open again
abbrev pub waiting_text : Bool → List ℕ
waiting_text true = codes "waiting"
waiting_text false = codes "free"

-- the text of a reply; its numbers are decimal
abbrev pub reply_text : Reply → List ℕ
reply_text (Chunk first count) = codes "chunk " ++ (signed_decimal first ++ (codes " " ++ decimal count))
reply_text NoChunk = codes "none"
reply_text (Section number) = codes "section " ++ decimal number
reply_text (Executor executes) = codes "executor " ++ yes_text executes
reply_text (Copied payload) = codes "copied" ++ flat_map word_text payload
reply_text Finished = codes "ok"
reply_text Passed = codes "passed"
reply_text Cancelled = codes "cancelled"
reply_text Wait = codes "wait"
reply_text (Created task) = codes "created " ++ decimal task
reply_text Dropped = codes "dropped"
reply_text (Cancelling cancelled) = codes "cancel " ++ yes_text cancelled
reply_text (Run task code arg own) = run_text task code arg ++ own_text own
reply_text (TaskDone task waiting) = codes "task_done " ++ (decimal task ++ (codes " " ++ waiting_text waiting))
reply_text (Lock number) = codes "lock " ++ decimal number
reply_text (Got free) = codes "got " ++ yes_text free
reply_text (Count count) = codes "count " ++ decimal count
reply_text Stopped = codes "stopped"
reply_text (Refused refusal) = refused_text refusal

-- a line ends with one line feed
abbrev pub reply_line : Reply → List ℕ
reply_line reply = reply_text reply ++ codes "\n"

-- a refused text, before any reply
abbrev pub refusal_line : Refusal → List ℕ
refusal_line refusal = refused_text refusal ++ codes "\n"

abbrev pub why_text : Why → List ℕ
why_text NotAscii = codes "not ascii"
why_text FirstLine = codes "first line"
why_text UnknownWord = codes "unknown word"
why_text MissingWord = codes "missing word"
why_text BadNumber = codes "bad number"
why_text ExtraWord = codes "extra word"

abbrev pub bad_line_text : BadLine → List ℕ
bad_line_text bad = codes "bad line " ++ (decimal bad.line ++ (codes ": " ++ (why_text bad.why ++ codes "\n")))
