-- Worked examples of a book under its lock, computed: what a part counts, when the ledgers say how many holds are open, what a reply counts.
use Rattle.std.proofs.Common.{◌≡◌, true, false, [], ◌∷◌, refl, arith}
use Rattle.std.specs.Prelude.{map}
use Rattle.gomp_types.specs.declared.refusal.Refusal.TheVariants.{NoLock}
use Rattle.gomp_types.specs.declared.reply.Reply.TheVariants.{Finished, Wait, Got, Count, Refused}
use Rattle.gomp_locks.specs.BookCalls.{after_call, holds_gained, holds_lost, end_critical, set_lock, test_lock, unset_lock, test_nest_lock, unset_nest_lock, await_nest_lock}
use Rattle.gomp_locks.proofs.BookExamples.{zero_owner, other_owner, entered}
use Rattle.gomp_locks.proofs.LockExamples.{set_thrice}
use Rattle.gomp_team_book.specs.Balance.{IsBalanced}
use Rattle.gomp_team_book.specs.Others.{IsAnswered}
use Rattle.gomp_team_book.specs.Parts.{BookPartView, IsSomePart, new_book_part, counted_more, merged_book_part}
use Rattle.gomp_team_book.specs.Replies.{one_if_finished, one_if_got, one_if_counted, one_if_set}

-- Parts

-- a member of a team of four has one part; it held twice
abbrev pub members_part : BookPartView
members_part = counted_more 1 (counted_more 1 (new_book_part 1))

pub held_twice : members_part ≡ record { parts = 1; amount = 2 }
held_twice = refl

pub held_nothing_more : counted_more 0 members_part ≡ members_part
held_nothing_more = refl

-- with the three parts of the others, which held five times, there are all four
pub all_four : merged_book_part members_part (counted_more 5 (new_book_part 3)) ≡ record { parts = 4; amount = 7 }
all_four = refl

pub one_part_is_some : IsSomePart (new_book_part 1)
one_part_is_some = omega arith

pub no_part_is_none : IsSomePart (new_book_part 0) → ⊥
no_part_is_none none = absurd (omega (arith, none))

-- The balance: owner 0 has set lock 0 once and lock 1 three times

-- the four were held since the region began, or one of them before; two more may have been freed again
pub four_are_open : IsBalanced 0 4 0 set_thrice × IsBalanced 1 3 0 set_thrice × IsBalanced 1 5 2 set_thrice
four_are_open = (refl, refl, refl)

-- no hold is left out, none is counted twice, no release is forgotten
pub no_hold_left_out : IsBalanced 0 3 0 set_thrice → ⊥
no_hold_left_out wrong = absurd (omega (arith, wrong))

pub no_hold_twice : IsBalanced 0 5 0 set_thrice → ⊥
no_hold_twice wrong = absurd (omega (arith, wrong))

pub no_release_forgotten : IsBalanced 1 5 1 set_thrice → ⊥
no_release_forgotten wrong = absurd (omega (arith, wrong))

-- one release of lock 1 is one hold less, and the last of them too
pub released_once : IsBalanced 0 4 1 (after_call zero_owner (unset_nest_lock 1) (Count 2) set_thrice)
released_once = refl

pub released_thrice : IsBalanced 0 4 3 (after_call zero_owner (unset_nest_lock 1) (Count 0) (after_call zero_owner (unset_nest_lock 1) (Count 1) (after_call zero_owner (unset_nest_lock 1) (Count 2) set_thrice)))
released_thrice = refl

-- two critical names are two holds, and the end of one is a release
pub names_count : IsBalanced 0 2 0 entered × IsBalanced 0 2 1 (after_call zero_owner (end_critical (97 ∷ [])) Finished entered)
names_count = (refl, refl)

-- Replies

pub counts_of_finished : map one_if_finished (Finished ∷ Wait ∷ Got true ∷ Count 1 ∷ Refused NoLock ∷ []) ≡ 1 ∷ 0 ∷ 0 ∷ 0 ∷ 0 ∷ []
counts_of_finished = refl

pub counts_of_tests : map one_if_got (Got true ∷ Got false ∷ Finished ∷ Refused NoLock ∷ []) ≡ 1 ∷ 0 ∷ 0 ∷ 0 ∷ []
counts_of_tests = refl

pub counts_of_counts : map one_if_counted (Count 0 ∷ Count 1 ∷ Count 65535 ∷ Wait ∷ Refused NoLock ∷ []) ≡ 1 ∷ 1 ∷ 1 ∷ 0 ∷ 0 ∷ []
counts_of_counts = refl

pub counts_of_nest_tests : map one_if_set (Count 0 ∷ Count 1 ∷ Count 65535 ∷ Refused NoLock ∷ []) ≡ 0 ∷ 1 ∷ 1 ∷ 0 ∷ []
counts_of_nest_tests = refl

-- a wait, a refusal and a test that fails hold nothing; the last release of a nestable lock is one
pub nothing_held : holds_gained (set_lock 0) Wait ∷ holds_gained (test_lock 0) (Got false) ∷ holds_gained (test_nest_lock 1) (Count 0) ∷ holds_gained (await_nest_lock 1) (Refused NoLock) ∷ [] ≡ 0 ∷ 0 ∷ 0 ∷ 0 ∷ []
nothing_held = refl

pub last_release_counts : holds_lost (unset_nest_lock 1) (Count 0) ≡ 1
last_release_counts = refl

-- Answers: of the book in which owner 0 has set lock 0 owner 1 may be told to wait for it

pub waits_for_a_lock : IsAnswered other_owner (set_lock 0) Wait
waits_for_a_lock = (set_thrice, (refl, tt))

pub frees_its_lock : IsAnswered zero_owner (unset_lock 0) Finished
frees_its_lock = (set_thrice, (refl, refl))
