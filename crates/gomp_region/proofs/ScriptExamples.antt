-- What scripts say, computed, and which line of them is bad. (own)
use Rattle.std.proofs.Common.{◌≡◌, pos, negsuc, true, [], ◌∷◌, ◌++◌, Ok, codes, refl}
use Rattle.std.specs.Prelude.{map}
use Rattle.gomp_types.specs.declared.cancel.CancelKind.TheVariants.{Taskgroup}
use Rattle.gomp_types.specs.declared.depend.DepKind.TheVariants.{DepIn}
use Rattle.gomp_types.specs.declared.loop_desc.EndKind.TheVariants.{Wait, Nowait, Cancellable}
use Rattle.gomp_types.specs.declared.loop_desc.Sched.TheVariants.{Guided, Dynamic}
use Rattle.gomp_script.specs.declared.parse.Why.TheVariants.{NotAscii, FirstLine, UnknownWord, MissingWord, BadNumber, ExtraWord}
use Rattle.gomp_region.specs.declared.script.ScriptWhy.TheVariants.{NoOpenBlock, TooDeep, NotClosed}
use Rattle.gomp_region.specs.declared.script.AskedSize.TheVariants.{Unstated, Stated}
use Rattle.gomp_region.specs.declared.statement.Addend.TheVariants.{Number, Iteration}
use Rattle.gomp_region.specs.declared.statement.BlockConstruct.TheVariants.{Loop, Sections, Section, Single, Copy, Ordered, Critical, Task, Group, Parallel, Only}
use Rattle.gomp_region.specs.declared.statement.EndWord.TheVariants.{EndFor, EndSections, EndSection, EndSingle, EndCopy, EndOrdered, EndCritical, EndTask, EndGroup, EndParallel, EndOnly}
use Rattle.gomp_region.specs.declared.statement.Statement.TheVariants.{Begin, End, Taskwait, Barrier, Cancel, Point, Add}
use Rattle.gomp_region.specs.ScriptText.{script_of, for_line, sections_line, copy_line, critical_line, task_line, parallel_line, only_line, cancel_line, point_line, add_line, plain_line, region_of}
use Rattle.gomp_region.specs.Examples.{HasBadWords, IsBad, each_bad, each_says, loop_to, on_line, parts, said, times, with_items}

-- a guided loop that sums its iterations
pub sum_of_a_loop : script_of (codes "region 4\nfor guided 7 0 1000 1 wait\nadd it\nendfor\n") ≡ Ok (Stated 4, on_line 2 (Begin (Loop (loop_to Guided 7 1000))) ∷ on_line 3 (Add Iteration) ∷ on_line 4 (End EndFor) ∷ [], 2 ∷ 1 ∷ 2 ∷ [])
unfolding for_line add_line plain_line region_of
sum_of_a_loop = refl

-- the same without its last line
pub loop_not_closed : IsBad 2 NotClosed (codes "region 4\nfor guided 7 0 1000 1 wait\nadd it\n")
unfolding for_line add_line plain_line region_of
loop_not_closed = refl

-- a nested region
pub nested_region : script_of (codes "region 2\nparallel 2\nadd 1\nendparallel") ≡ Ok (Stated 2, on_line 2 (Begin (Parallel 2)) ∷ on_line 3 (Add (Number (pos 1))) ∷ on_line 4 (End EndParallel) ∷ [], 2 ∷ 1 ∷ 2 ∷ [])
unfolding parallel_line add_line plain_line region_of
nested_region = refl

-- a script without a statement, of a team whose size is left open; empty lines and comments stand anywhere
pub empty_region : script_of (codes "\n# a region\nregion\n\n#") ≡ Ok (Unstated, [], [])
unfolding region_of
empty_region = refl

-- an end word without its block
pub end_without_block : IsBad 2 NoOpenBlock (codes "region 2\nendfor\n")
unfolding plain_line region_of
end_without_block = refl

-- a team of nobody
pub team_of_none : HasBadWords 1 BadNumber (codes "region 0\n")
unfolding region_of
team_of_none = refl

-- a word too many
pub word_too_many_in_scripts : HasBadWords 2 ExtraWord (codes "region 2\nbarrier now\n")
unfolding plain_line region_of
word_too_many_in_scripts = refl

-- a line that ends too early
pub word_missing : HasBadWords 2 MissingWord (codes "region 2\nfor guided 7\n")
unfolding for_line region_of
word_missing = refl

-- no such statement
pub no_such_statement : HasBadWords 3 UnknownWord (codes "region 2\nbarrier\nloop guided 7 0 1000 1 wait\n")
unfolding plain_line region_of
no_such_statement = refl

-- no line that counts
pub no_line : HasBadWords 1 FirstLine (codes "\n# a\n\n")
unfolding region_of
no_line = refl

-- another first word
pub other_first_word : HasBadWords 2 FirstLine (codes "\nteam 2\nregion 2\n")
unfolding region_of
other_first_word = refl

-- a byte above 127, in a comment before the first line too
pub not_ascii : HasBadWords 1 NotAscii (codes "#" ++ 128 ∷ codes "\nregion 2\n") × HasBadWords 2 NotAscii (codes "region\n#" ++ 200 ∷ [])
unfolding region_of
not_ascii = (refl, refl)

-- The first line

-- the size is a u32 from 1
pub sizes_of_regions : HasBadWords 1 BadNumber (codes "region 4294967296") × HasBadWords 1 BadNumber (codes "region -1") × HasBadWords 1 BadNumber (codes "region x 2") × HasBadWords 1 ExtraWord (codes "region 2 2") × HasBadWords 1 ExtraWord (codes "region 2 x") × (script_of (codes "region 4294967295") ≡ Ok (Stated 4294967295, [], []))
unfolding region_of
sizes_of_regions = (refl, refl, refl, refl, refl, refl)

-- Statements

-- the lines that begin a block
pub block_beginnings : said (parts (codes "for guided 7 0 1000 1 wait|sections nowait|section|single|copy -5|ordered|critical|critical a|task|task if0 final in 7|group|parallel 4294967295|only 65535")) ≡ each_says (map Begin (Loop (loop_to Guided 7 1000) ∷ Sections Nowait ∷ Section ∷ Single ∷ Copy (negsuc 4) ∷ Ordered ∷ Critical [] ∷ Critical (codes "a") ∷ Task (with_items []) ∷ Task (record { undeferred = true; final_task = true; deps = record { kind = DepIn; addr = 7 } ∷ [] }) ∷ Group ∷ Parallel 4294967295 ∷ Only 65535 ∷ []))
unfolding for_line sections_line copy_line critical_line task_line parallel_line only_line plain_line
block_beginnings = refl

-- the numbers of a loop stand in this order
pub numbers_of_a_for : said (codes "for dynamic 5 -3 9 2 cancellable ordered" ∷ []) ≡ each_says (Begin (Loop (record { start = negsuc 2; end = pos 9; incr = pos 2; sched = Dynamic; chunk = pos 5; ordered = true; end_kind = Cancellable })) ∷ [])
unfolding for_line
numbers_of_a_for = refl

-- the lines that end one
pub block_endings : said (parts (codes "endfor|endsections|endsection|endsingle|endcopy|endordered|endcritical|endtask|endgroup|endparallel|endonly")) ≡ each_says (map End (EndFor ∷ EndSections ∷ EndSection ∷ EndSingle ∷ EndCopy ∷ EndOrdered ∷ EndCritical ∷ EndTask ∷ EndGroup ∷ EndParallel ∷ EndOnly ∷ []))
unfolding plain_line
block_endings = refl

-- the other lines
pub other_statements : said (parts (codes "taskwait|barrier|cancel taskgroup|point taskgroup|add -1|add it")) ≡ each_says (Taskwait ∷ Barrier ∷ Cancel Taskgroup ∷ Point Taskgroup ∷ Add (Number (negsuc 0)) ∷ Add Iteration ∷ [])
unfolding cancel_line point_line add_line plain_line
other_statements = refl

-- a letter too few, too many, or a capital
pub miswritten_words : said (parts (codes "fo|fors|For|sectio|singles|Copy|orders|critica|tasks|groups|paralle|onl|endfo|endfors|endsingl|endonlys|taskwaits|barrie|cancels|points|ad|adds|region|end")) ≡ each_bad 24 UnknownWord
unfolding plain_line
miswritten_words = refl

-- words of a list
pub words_of_lists : said (parts (codes "for auto 7 0 1000 1 wait|for guided 7 0 1000 1 waits|sections ordered|cancel for|point group")) ≡ each_bad 5 UnknownWord
unfolding for_line sections_line cancel_line point_line
words_of_lists = refl

-- words that are missing
pub words_missing : said (parts (codes "for|for guided 7 0 1000 1|sections|copy|task in|task in 7 out|parallel|only|cancel|point|add")) ≡ each_bad 11 MissingWord
unfolding for_line sections_line copy_line task_line parallel_line only_line cancel_line point_line add_line
words_missing = refl

-- numbers
pub numbers_refused : said (parts (codes "for guided x 0 1000 1 wait|for guided 7 +0 1000 1 wait|for guided 7 0 9223372036854775808 1 wait|for guided 7 0 1000 one wait|copy 9223372036854775808|copy it|task in x|task in -1|parallel 0|parallel 4294967296|parallel -1|only 65536|only -1|add its|add x|add 9223372036854775808")) ≡ each_bad 16 BadNumber
unfolding for_line copy_line task_line parallel_line only_line add_line
numbers_refused = refl

-- words too many
pub words_too_many : said (parts (codes "for guided 7 0 1000 1 wait ordered ordered|for guided 7 0 1000 1 wait now|sections wait now|copy 1 2|critical a b|task final if0|task if0 if0|task 7|task in 7 if0|parallel 1 2|only 1 2|cancel loop 1|point loop 1|add 1 2|add it it|section 1|single nowait|ordered 1|group 1|taskwait in 7|barrier now|endfor 1|endonly 1")) ≡ each_bad 23 ExtraWord
unfolding for_line sections_line copy_line critical_line task_line parallel_line only_line cancel_line point_line add_line plain_line
words_too_many = refl

-- of a line's faults the first in their order counts
pub first_of_faults : (said (parts (codes "for auto 7|for guided x 0 1000 1 waits")) ≡ each_bad 2 UnknownWord) × (said (parts (codes "for guided x|task in x out")) ≡ each_bad 2 MissingWord) × (said (parts (codes "copy x y|task in x y|parallel 0 y|add x y")) ≡ each_bad 4 BadNumber)
unfolding for_line copy_line task_line parallel_line add_line
first_of_faults = (refl, refl, refl)

-- Blocks

-- sections, each a block
pub sections_of_two : script_of (codes "region\nsections wait\nsection\nadd 1\nendsection\nsection\nendsection\nendsections\n") ≡ Ok (Unstated, on_line 2 (Begin (Sections Wait)) ∷ on_line 3 (Begin Section) ∷ on_line 4 (Add (Number (pos 1))) ∷ on_line 5 (End EndSection) ∷ on_line 6 (Begin Section) ∷ on_line 7 (End EndSection) ∷ on_line 8 (End EndSections) ∷ [], 6 ∷ 3 ∷ 2 ∷ 3 ∷ 5 ∷ 5 ∷ 6 ∷ [])
unfolding sections_line add_line plain_line region_of
sections_of_two = refl

-- there may be none of them
pub no_section : script_of (codes "region\nsections wait\nendsections\n") ≡ Ok (Unstated, on_line 2 (Begin (Sections Wait)) ∷ on_line 3 (End EndSections) ∷ [], 1 ∷ 1 ∷ [])
unfolding sections_line plain_line region_of
no_section = refl

-- a section outside of sections, and in a block inside of them
pub section_outside : IsBad 2 NoOpenBlock (codes "region\nsection\nendsection\n") × IsBad 4 NoOpenBlock (codes "region\nsections wait\nsection\nsection\nendsection\n")
unfolding sections_line plain_line region_of
section_outside = (refl, refl)

-- another statement directly in them
pub not_a_section : IsBad 3 NoOpenBlock (codes "region\nsections wait\nbarrier\n") × IsBad 3 NoOpenBlock (codes "region\nsections wait\nsingle\n") × IsBad 4 NoOpenBlock (codes "region\nsections wait\n# a\nadd 1\n")
unfolding sections_line add_line plain_line region_of
not_a_section = (refl, refl, refl)

-- the end of another block, and one end too many
pub other_end : IsBad 3 NoOpenBlock (codes "region\nsingle\nendgroup\nendsingle\n") × IsBad 4 NoOpenBlock (codes "region\nsingle\nendsingle\nendsingle\n")
unfolding plain_line region_of
other_end = (refl, refl)

-- of two open blocks the inner one is told
pub two_open : IsBad 3 NotClosed (codes "region\nsingle\ngroup\ntask\nendtask\n")
unfolding task_line plain_line region_of
two_open = refl

-- a bad line comes before them
pub bad_line_first : HasBadWords 4 UnknownWord (codes "region\nsingle\ngroup\nfoo\n")
unfolding plain_line region_of
bad_line_first = refl

-- a fault of the words comes before one of the blocks
pub words_before_blocks : HasBadWords 2 ExtraWord (codes "region\nendfor 1\n")
unfolding plain_line region_of
words_before_blocks = refl

-- 32 blocks nest, 33 do not, and what stands in the innermost is no block
pub blocks_nest : IsBad 33 NotClosed (codes "region\n" ++ times 32 (codes "group\n")) × IsBad 34 TooDeep (codes "region\n" ++ times 33 (codes "group\n")) × IsBad 33 NotClosed (codes "region\n" ++ times 32 (codes "group\n") ++ codes "barrier\n")
unfolding plain_line region_of
blocks_nest = (refl, refl, refl)

-- a block that may not stand there comes before one too many
pub no_place_before_depth : IsBad 34 NoOpenBlock (codes "region\n" ++ times 32 (codes "group\n") ++ codes "section\n")
unfolding plain_line region_of
no_place_before_depth = refl

-- every block within another
pub every_block : script_of (codes "region 2\nfor guided 7 0 1000 1 wait\nsingle\ncopy 5\nordered\ncritical a\ntask in 7\ngroup\nparallel 3\nonly 1\nsections wait\nsection\ntaskwait\ncancel taskgroup\npoint taskgroup\nendsection\nendsections\nendonly\nendparallel\nendgroup\nendtask\nendcritical\nendordered\nendcopy\nendsingle\nendfor\nbarrier\n") ≡ Ok (Stated 2, on_line 2 (Begin (Loop (loop_to Guided 7 1000))) ∷ on_line 3 (Begin Single) ∷ on_line 4 (Begin (Copy (pos 5))) ∷ on_line 5 (Begin Ordered) ∷ on_line 6 (Begin (Critical (codes "a"))) ∷ on_line 7 (Begin (Task (with_items (record { kind = DepIn; addr = 7 } ∷ [])))) ∷ on_line 8 (Begin Group) ∷ on_line 9 (Begin (Parallel 3)) ∷ on_line 10 (Begin (Only 1)) ∷ on_line 11 (Begin (Sections Wait)) ∷ on_line 12 (Begin Section) ∷ on_line 13 Taskwait ∷ on_line 14 (Cancel Taskgroup) ∷ on_line 15 (Point Taskgroup) ∷ on_line 16 (End EndSection) ∷ on_line 17 (End EndSections) ∷ on_line 18 (End EndOnly) ∷ on_line 19 (End EndParallel) ∷ on_line 20 (End EndGroup) ∷ on_line 21 (End EndTask) ∷ on_line 22 (End EndCritical) ∷ on_line 23 (End EndOrdered) ∷ on_line 24 (End EndCopy) ∷ on_line 25 (End EndSingle) ∷ on_line 26 (End EndFor) ∷ on_line 27 Barrier ∷ [], 24 ∷ 23 ∷ 22 ∷ 21 ∷ 20 ∷ 19 ∷ 18 ∷ 17 ∷ 16 ∷ 15 ∷ 14 ∷ 11 ∷ 12 ∷ 13 ∷ 14 ∷ 15 ∷ 16 ∷ 17 ∷ 18 ∷ 19 ∷ 20 ∷ 21 ∷ 22 ∷ 23 ∷ 24 ∷ 25 ∷ [])
unfolding for_line sections_line copy_line critical_line task_line parallel_line only_line cancel_line point_line plain_line region_of
every_block = refl
