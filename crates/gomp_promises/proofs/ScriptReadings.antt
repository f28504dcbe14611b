-- How lines of scripts are read, of every word and every number: which words there are, and what a good line says.
use Rattle.std.proofs.Common.{◌≡◌, ◌≢◌, ℕ, Bool, List, [], ◌∷◌, Some, None, Ok, Err, codes, refl}
use Rattle.std.specs.Prelude.{ℤ}
use Rattle.std.proofs.lemmas.Bool.{ne_eqb}
use Rattle.gomp_types.specs.declared.cancel.CancelKind.{CancelKind}
use Rattle.gomp_types.specs.declared.depend.Dep.{Dep}
use Rattle.gomp_types.specs.declared.loop_desc.EndKind.{EndKind}
use Rattle.gomp_types.specs.declared.loop_desc.LoopDesc.{LoopDesc}
use Rattle.gomp_types.specs.declared.loop_desc.Sched.{Sched}
use Rattle.gomp_text.specs.Numbers.{unsigned, signed}
use Rattle.gomp_script.specs.declared.parse.Why.{Why}
use Rattle.gomp_script.specs.declared.parse.Why.TheVariants as why
use Rattle.gomp_script.specs.StepText.{sched_of, end_of, cancel_kind_of, ordered_of, critical_name_of, behind_items, items_of, if0_of, final_of}
use Rattle.gomp_region.specs.declared.script.AskedSize.TheVariants.{Unstated, Stated}
use Rattle.gomp_region.specs.declared.statement.Addend.{Addend}
use Rattle.gomp_region.specs.declared.statement.Addend.TheVariants as addend
use Rattle.gomp_region.specs.declared.statement.BlockConstruct.{BlockConstruct}
use Rattle.gomp_region.specs.declared.statement.BlockConstruct.TheVariants as construct
use Rattle.gomp_region.specs.declared.statement.EndWord.{EndWord}
use Rattle.gomp_region.specs.declared.statement.EndWord.TheVariants as word_of
use Rattle.gomp_region.specs.declared.statement.Nesting.TheVariants.{Begins, Ends, Stands}
use Rattle.gomp_region.specs.declared.statement.Statement.{Statement}
use Rattle.gomp_region.specs.declared.statement.Statement.TheVariants as statement
use Rattle.gomp_region.specs.declared.statement.Statement.TheVariants.{Begin, End}
use Rattle.gomp_region.specs.declared.statement.TaskClauses.{TaskClauses}
use Rattle.gomp_region.specs.ScriptText.{for_line, sections_line, copy_line, critical_line, task_line, size_of, parallel_line, only_line, cancel_line, point_line, addend_of, add_line, end_word, statement_alone, plain_line, statement_of, region_of, end_word_of, nesting_of}
use Rattle.gomp_promises.proofs.WordReadings.{other_words_differ}

-- Words

-- each end word is that of its block
pub each_block_has_its_end_word :
    (end_word (codes "endfor") ≡ Some word_of.EndFor)
    × (end_word (codes "endsections") ≡ Some word_of.EndSections)
    × (end_word (codes "endsection") ≡ Some word_of.EndSection)
    × (end_word (codes "endsingle") ≡ Some word_of.EndSingle)
    × (end_word (codes "endcopy") ≡ Some word_of.EndCopy)
    × (end_word (codes "endordered") ≡ Some word_of.EndOrdered)
    × (end_word (codes "endcritical") ≡ Some word_of.EndCritical)
    × (end_word (codes "endtask") ≡ Some word_of.EndTask)
    × (end_word (codes "endgroup") ≡ Some word_of.EndGroup)
    × (end_word (codes "endparallel") ≡ Some word_of.EndParallel)
    × (end_word (codes "endonly") ≡ Some word_of.EndOnly)
each_block_has_its_end_word = (refl, refl, refl, refl, refl, refl, refl, refl, refl, refl, refl)

-- and no other word ends a block
pub no_other_word_ends_a_block : (word : List ℕ) → word ≢ codes "endfor" → word ≢ codes "endsections" → word ≢ codes "endsection" → word ≢ codes "endsingle" → word ≢ codes "endcopy" → word ≢ codes "endordered" → word ≢ codes "endcritical" → word ≢ codes "endtask" → word ≢ codes "endgroup" → word ≢ codes "endparallel" → word ≢ codes "endonly" → end_word word ≡ None
no_other_word_ends_a_block word no_endfor no_endsections no_endsection no_endsingle no_endcopy no_endordered no_endcritical no_endtask no_endgroup no_endparallel no_endonly = rw (other_words_differ word _ no_endfor, other_words_differ word _ no_endsections, other_words_differ word _ no_endsection, other_words_differ word _ no_endsingle, other_words_differ word _ no_endcopy, other_words_differ word _ no_endordered, other_words_differ word _ no_endcritical, other_words_differ word _ no_endtask, other_words_differ word _ no_endgroup, other_words_differ word _ no_endparallel, other_words_differ word _ no_endonly) refl

-- each statement of one word
pub each_statement_of_one_word :
    (statement_alone (codes "section") ≡ Some (Begin construct.Section))
    × (statement_alone (codes "single") ≡ Some (Begin construct.Single))
    × (statement_alone (codes "ordered") ≡ Some (Begin construct.Ordered))
    × (statement_alone (codes "group") ≡ Some (Begin construct.Group))
    × (statement_alone (codes "taskwait") ≡ Some (statement.Taskwait))
    × (statement_alone (codes "barrier") ≡ Some (statement.Barrier))
each_statement_of_one_word = (refl, refl, refl, refl, refl, refl)

-- any other word ends a block, or says nothing
pub any_other_word_alone_ends_a_block : (word : List ℕ) (ending : EndWord) → word ≢ codes "section" → word ≢ codes "single" → word ≢ codes "ordered" → word ≢ codes "group" → word ≢ codes "taskwait" → word ≢ codes "barrier" → end_word word ≡ Some ending → statement_alone word ≡ Some (End ending)
any_other_word_alone_ends_a_block word ending no_section no_single no_ordered no_group no_taskwait no_barrier is_end = rw (other_words_differ word _ no_section, other_words_differ word _ no_single, other_words_differ word _ no_ordered, other_words_differ word _ no_group, other_words_differ word _ no_taskwait, other_words_differ word _ no_barrier, is_end) refl

pub no_other_word_stands_alone : (word : List ℕ) → word ≢ codes "section" → word ≢ codes "single" → word ≢ codes "ordered" → word ≢ codes "group" → word ≢ codes "taskwait" → word ≢ codes "barrier" → end_word word ≡ None → statement_alone word ≡ None
no_other_word_stands_alone word no_section no_single no_ordered no_group no_taskwait no_barrier is_end = rw (other_words_differ word _ no_section, other_words_differ word _ no_single, other_words_differ word _ no_ordered, other_words_differ word _ no_group, other_words_differ word _ no_taskwait, other_words_differ word _ no_barrier, is_end) refl

-- a size is a number of 32 bits from 1 on
pub size_of_a_region_is_read : (word : List ℕ) (members : ℕ) → unsigned 4294967295 word ≡ Some members → members ≢ 0 → size_of word ≡ Ok members
size_of_a_region_is_read word members is_count some = rw (is_count, ne_eqb members 0 some) refl

pub bad_size_is_told : (word : List ℕ) → (unsigned 4294967295 word ≡ None → size_of word ≡ Err why.BadNumber) × (unsigned 4294967295 word ≡ Some 0 → size_of word ≡ Err why.BadNumber)
bad_size_is_told word = (λ is_count. rw is_count refl, λ is_count. rw is_count refl)

-- what is added is the value of the iteration, or a number with its sign
pub addend_is_the_iteration : addend_of (codes "it") ≡ Ok addend.Iteration
addend_is_the_iteration = refl

pub addend_is_a_number : (word : List ℕ) (value : ℤ) → word ≢ codes "it" → signed word ≡ Some value → addend_of word ≡ Ok (addend.Number value)
addend_is_a_number word value other is_value = rw (other_words_differ word _ other, is_value) refl

pub bad_addend_is_told : (word : List ℕ) → word ≢ codes "it" → signed word ≡ None → addend_of word ≡ Err why.BadNumber
bad_addend_is_told word other is_value = rw (other_words_differ word _ other, is_value) refl

-- What a good line says

-- a loop
pub loop_begins : (kind chunk start end incr closing : List ℕ) (rest : List (List ℕ)) (schedule : Sched) (size first bound step : ℤ) (end_kind : EndKind) (is_ordered : Bool) → sched_of kind ≡ Some schedule → end_of closing ≡ Some end_kind → signed chunk ≡ Some size → signed start ≡ Some first → signed end ≡ Some bound → signed incr ≡ Some step → ordered_of rest ≡ Ok is_ordered → for_line (kind ∷ chunk ∷ start ∷ end ∷ incr ∷ closing ∷ rest) ≡ Ok (Begin (construct.Loop (record { start = first; end = bound; incr = step; sched = schedule; chunk = size; ordered = is_ordered; end_kind = end_kind })))
unfolding for_line
loop_begins kind chunk start end incr closing rest schedule size first bound step end_kind is_ordered is_kind is_end is_size is_first is_bound is_step is_rest = rw (is_kind, is_end, is_size, is_first, is_bound, is_step, is_rest) refl

-- sections
pub sections_begin : (closing : List ℕ) (end_kind : EndKind) → end_of closing ≡ Some end_kind → sections_line (closing ∷ []) ≡ Ok (Begin (construct.Sections end_kind))
unfolding sections_line
sections_begin closing end_kind is_end = rw (is_end) refl

-- a copy with its number
pub copy_begins : (word : List ℕ) (sent : ℤ) → signed word ≡ Some sent → copy_line (word ∷ []) ≡ Ok (Begin (construct.Copy sent))
unfolding copy_line
copy_begins word sent is_sent = rw (is_sent) refl

-- a critical construct with its name
pub critical_begins : (words : List (List ℕ)) (name : List ℕ) → critical_name_of words ≡ Ok name → critical_line words ≡ Ok (Begin (construct.Critical name))
unfolding critical_line
critical_begins words name is_name = rw (is_name) refl

-- a task with its clauses and its items
pub task_begins : (words : List (List ℕ)) (items : List Dep) → behind_items (final_of words).1 ≡ Ok [] → items_of (final_of words).1 ≡ Ok items → task_line words ≡ Ok (Begin (construct.Task (record { undeferred = (if0_of words).0; final_task = (final_of words).0; deps = items })))
unfolding task_line
task_begins words items is_behind is_items = rw (is_behind, is_items) refl

-- a nested region with its size
pub region_begins : (word : List ℕ) (members : ℕ) → size_of word ≡ Ok members → parallel_line (word ∷ []) ≡ Ok (Begin (construct.Parallel members))
unfolding parallel_line
region_begins word members is_size = rw (is_size) refl

-- what one member executes alone
pub only_begins : (word : List ℕ) (number : ℕ) → unsigned 65535 word ≡ Some number → only_line (word ∷ []) ≡ Ok (Begin (construct.Only number))
unfolding only_line
only_begins word number is_member = rw (is_member) refl

-- a cancellation
pub cancel_is_stated : (word : List ℕ) (what : CancelKind) → cancel_kind_of word ≡ Some what → cancel_line (word ∷ []) ≡ Ok (statement.Cancel what)
unfolding cancel_line
cancel_is_stated word what is_kind = rw (is_kind) refl

-- a cancellation point
pub point_is_stated : (word : List ℕ) (what : CancelKind) → cancel_kind_of word ≡ Some what → point_line (word ∷ []) ≡ Ok (statement.Point what)
unfolding point_line
point_is_stated word what is_kind = rw (is_kind) refl

-- what is added
pub addition_is_stated : (word : List ℕ) (addend : Addend) → addend_of word ≡ Ok addend → add_line (word ∷ []) ≡ Ok (statement.Add addend)
unfolding add_line
addition_is_stated word addend is_addend = rw (is_addend) refl

-- a line of one word
pub line_of_one_word_is_read : (word : List ℕ) (alone : Statement) → statement_alone word ≡ Some alone → plain_line word [] ≡ Ok alone
unfolding plain_line
line_of_one_word_is_read word alone is_alone = rw (is_alone) refl

-- By which word a line is read

pub each_line_with_words_is_read : (words : List (List ℕ)) →
    (statement_of (codes "task" ∷ words) ≡ task_line words)
    × (statement_of (codes "for" ∷ words) ≡ for_line words)
    × (statement_of (codes "sections" ∷ words) ≡ sections_line words)
    × (statement_of (codes "copy" ∷ words) ≡ copy_line words)
    × (statement_of (codes "critical" ∷ words) ≡ critical_line words)
    × (statement_of (codes "parallel" ∷ words) ≡ parallel_line words)
    × (statement_of (codes "only" ∷ words) ≡ only_line words)
    × (statement_of (codes "cancel" ∷ words) ≡ cancel_line words)
    × (statement_of (codes "point" ∷ words) ≡ point_line words)
    × (statement_of (codes "add" ∷ words) ≡ add_line words)
each_line_with_words_is_read words = (refl, refl, refl, refl, refl, refl, refl, refl, refl, refl)

-- any other word stands alone
pub any_other_line_has_one_word : (word : List ℕ) (words : List (List ℕ)) → word ≢ codes "task" → word ≢ codes "for" → word ≢ codes "sections" → word ≢ codes "copy" → word ≢ codes "critical" → word ≢ codes "parallel" → word ≢ codes "only" → word ≢ codes "cancel" → word ≢ codes "point" → word ≢ codes "add" → statement_of (word ∷ words) ≡ plain_line word words
any_other_line_has_one_word word words no_task no_for no_sections no_copy no_critical no_parallel no_only no_cancel no_point no_add = rw (other_words_differ word _ no_task, other_words_differ word _ no_for, other_words_differ word _ no_sections, other_words_differ word _ no_copy, other_words_differ word _ no_critical, other_words_differ word _ no_parallel, other_words_differ word _ no_only, other_words_differ word _ no_cancel, other_words_differ word _ no_point, other_words_differ word _ no_add) refl

pub line_of_no_word_says_nothing : statement_of [] ≡ Err why.MissingWord
line_of_no_word_says_nothing = refl

-- The first line

-- `region`, with the size of its team if it is stated
pub region_without_a_size_is_read : region_of (codes "region" ∷ []) ≡ Ok Unstated
unfolding region_of
region_without_a_size_is_read = refl

pub region_with_a_size_is_read : (word : List ℕ) (members : ℕ) → size_of word ≡ Ok members → region_of (codes "region" ∷ word ∷ []) ≡ Ok (Stated members)
unfolding region_of
region_with_a_size_is_read word members is_size = rw is_size refl

pub bad_first_line_is_told : (word extra : List ℕ) (more : List (List ℕ)) (members : ℕ) (fault : Why) →
    (region_of [] ≡ Err why.MissingWord)
    × (size_of word ≡ Err fault → region_of (codes "region" ∷ word ∷ more) ≡ Err fault)
    × (size_of word ≡ Ok members → region_of (codes "region" ∷ word ∷ extra ∷ more) ≡ Err why.ExtraWord)
unfolding region_of
bad_first_line_is_told word extra more members fault = (refl, λ is_size. rw is_size refl, λ is_size. rw is_size refl)

pub no_other_word_is_a_region : (word : List ℕ) (words : List (List ℕ)) → word ≢ codes "region" → region_of (word ∷ words) ≡ Err why.FirstLine
unfolding region_of
no_other_word_is_a_region word words other = rw (other_words_differ word _ other) refl

-- Blocks

-- each construct ends by its own word, whatever is said of it
pub each_construct_has_its_end : (desc : LoopDesc) (end_kind : EndKind) (sent : ℤ) (name : List ℕ) (clauses : TaskClauses) (number : ℕ) →
    (end_word_of (construct.Loop desc) ≡ word_of.EndFor)
    × (end_word_of (construct.Sections end_kind) ≡ word_of.EndSections)
    × (end_word_of construct.Section ≡ word_of.EndSection)
    × (end_word_of construct.Single ≡ word_of.EndSingle)
    × (end_word_of (construct.Copy sent) ≡ word_of.EndCopy)
    × (end_word_of construct.Ordered ≡ word_of.EndOrdered)
    × (end_word_of (construct.Critical name) ≡ word_of.EndCritical)
    × (end_word_of (construct.Task clauses) ≡ word_of.EndTask)
    × (end_word_of construct.Group ≡ word_of.EndGroup)
    × (end_word_of (construct.Parallel number) ≡ word_of.EndParallel)
    × (end_word_of (construct.Only number) ≡ word_of.EndOnly)
each_construct_has_its_end desc end_kind sent name clauses number = (refl, refl, refl, refl, refl, refl, refl, refl, refl, refl, refl)

-- a construct begins its block, an end word ends one, and any other statement does neither
pub each_statement_nests_so : (begun : BlockConstruct) (ending : EndWord) (what : CancelKind) (added : Addend) →
    (nesting_of (Begin begun) ≡ Begins (end_word_of begun))
    × (nesting_of (End ending) ≡ Ends ending)
    × (nesting_of statement.Taskwait ≡ Stands)
    × (nesting_of statement.Barrier ≡ Stands)
    × (nesting_of (statement.Cancel what) ≡ Stands)
    × (nesting_of (statement.Point what) ≡ Stands)
    × (nesting_of (statement.Add added) ≡ Stands)
each_statement_nests_so begun ending what added = (refl, refl, refl, refl, refl, refl, refl)
