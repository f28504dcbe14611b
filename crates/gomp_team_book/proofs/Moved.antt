-- By what each call moves the ledgers: the counts of the replies are those of the laws of a book.
use Rattle.std.proofs.Common.{◌≡◌, ℕ, true, false, List, refl}
use Rattle.gomp_types.specs.declared.reply.Reply.{Reply}
use Rattle.gomp_types.specs.declared.reply.Reply.TheVariants.{Finished, Got, Count}
use Rattle.gomp_locks.specs.BookCalls.{holds_gained, holds_lost, start_critical, end_critical, set_lock, test_lock, unset_lock, set_nest_lock, test_nest_lock, unset_nest_lock, await_critical, await_lock, await_nest_lock}
use Rattle.gomp_team_book.specs.Replies.{one_if_finished, one_if_got, one_if_counted, one_if_set}

pub critical_start_holds : (name : List ℕ) (reply : Reply) → one_if_finished reply ≡ holds_gained (start_critical name) reply
critical_start_holds name Finished = refl
critical_start_holds name _ = refl

pub critical_start_frees_nothing : (name : List ℕ) (reply : Reply) → holds_lost (start_critical name) reply ≡ 0
critical_start_frees_nothing name reply = refl

pub critical_end_frees : (name : List ℕ) (reply : Reply) → one_if_finished reply ≡ holds_lost (end_critical name) reply
critical_end_frees name Finished = refl
critical_end_frees name _ = refl

pub critical_end_holds_nothing : (name : List ℕ) (reply : Reply) → holds_gained (end_critical name) reply ≡ 0
critical_end_holds_nothing name reply = refl

pub set_holds : (number : ℕ) (reply : Reply) → one_if_finished reply ≡ holds_gained (set_lock number) reply
set_holds number Finished = refl
set_holds number _ = refl

pub set_frees_nothing : (number : ℕ) (reply : Reply) → holds_lost (set_lock number) reply ≡ 0
set_frees_nothing number reply = refl

pub test_holds : (number : ℕ) (reply : Reply) → one_if_got reply ≡ holds_gained (test_lock number) reply
test_holds number (Got true) = refl
test_holds number (Got false) = refl
test_holds number _ = refl

pub test_frees_nothing : (number : ℕ) (reply : Reply) → holds_lost (test_lock number) reply ≡ 0
test_frees_nothing number reply = refl

pub unset_frees : (number : ℕ) (reply : Reply) → one_if_finished reply ≡ holds_lost (unset_lock number) reply
unset_frees number Finished = refl
unset_frees number _ = refl

pub unset_holds_nothing : (number : ℕ) (reply : Reply) → holds_gained (unset_lock number) reply ≡ 0
unset_holds_nothing number reply = refl

pub set_nest_holds : (number : ℕ) (reply : Reply) → one_if_counted reply ≡ holds_gained (set_nest_lock number) reply
set_nest_holds number (Count count) = refl
set_nest_holds number _ = refl

pub set_nest_frees_nothing : (number : ℕ) (reply : Reply) → holds_lost (set_nest_lock number) reply ≡ 0
set_nest_frees_nothing number reply = refl

pub test_nest_holds : (number : ℕ) (reply : Reply) → one_if_set reply ≡ holds_gained (test_nest_lock number) reply
test_nest_holds number (Count count) = refl
test_nest_holds number _ = refl

pub test_nest_frees_nothing : (number : ℕ) (reply : Reply) → holds_lost (test_nest_lock number) reply ≡ 0
test_nest_frees_nothing number reply = refl

pub unset_nest_frees : (number : ℕ) (reply : Reply) → one_if_counted reply ≡ holds_lost (unset_nest_lock number) reply
unset_nest_frees number (Count count) = refl
unset_nest_frees number _ = refl

pub unset_nest_holds_nothing : (number : ℕ) (reply : Reply) → holds_gained (unset_nest_lock number) reply ≡ 0
unset_nest_holds_nothing number reply = refl

pub await_critical_holds : (name : List ℕ) (reply : Reply) → one_if_finished reply ≡ holds_gained (await_critical name) reply
await_critical_holds name Finished = refl
await_critical_holds name _ = refl

pub await_critical_frees_nothing : (name : List ℕ) (reply : Reply) → holds_lost (await_critical name) reply ≡ 0
await_critical_frees_nothing name reply = refl

pub await_lock_holds : (number : ℕ) (reply : Reply) → one_if_finished reply ≡ holds_gained (await_lock number) reply
await_lock_holds number Finished = refl
await_lock_holds number _ = refl

pub await_lock_frees_nothing : (number : ℕ) (reply : Reply) → holds_lost (await_lock number) reply ≡ 0
await_lock_frees_nothing number reply = refl

pub await_nest_holds : (number : ℕ) (reply : Reply) → one_if_counted reply ≡ holds_gained (await_nest_lock number) reply
await_nest_holds number (Count count) = refl
await_nest_holds number _ = refl

pub await_nest_frees_nothing : (number : ℕ) (reply : Reply) → holds_lost (await_nest_lock number) reply ≡ 0
await_nest_frees_nothing number reply = refl
