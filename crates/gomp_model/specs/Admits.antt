-- When no test refuses a call: that of the team's parts, its shares, barriers, tasks and groups, that of its book of names and locks, and both. (own)
use Rattle.std.specs.Prelude.{ℕ, ◌≡◌, not, Bool, true, false, Some, None}
use Rattle.gomp_types.specs.declared.key.Key.{Key}
use Rattle.gomp_types.specs.Least.{least}
use Rattle.gomp_events.specs.Seen.{seen_of}
use Rattle.gomp_locks.specs.Book.{held_by}
use Rattle.gomp_locks.specs.Holders.{asker, holder}
use Rattle.gomp_model.specs.Past.{Past}
use Rattle.gomp_model.specs.Row.{Row, leaving_tests, drain_tests, board_tests, book_tests, MayGoOn}

-- whether what its place has shown of a call holds: it does if the call is made, and if it is repeated by a member that has stayed there
abbrev pub in_place : Bool → Bool → Bool
in_place true repeated = true
in_place false repeated = not repeated

-- no test of a call with this row holds that the parts decide, those of an end's share and of what its member leaves aside
pub record ServersAdmit (row : Row) (repeated : Bool) (m : ℕ) (p : Past) : Type 0 where
  -- none that the member's place decides, unless the member gives its share up
  pub place : in_place row.stays repeated ≡ true → row.gives_up m p.events ≡ false → least (row.by_place p.terms.limits (seen_of m p.events)) ≡ None
  -- its construct differs from no other member's
  pub compared : least (row.compared repeated m p) ≡ None
  -- none that tasks, groups and cancellation decide, and there is room
  pub tasks : least (board_tests repeated row m p) ≡ None
  -- one that is repeated is one that may go on after a reply
  pub waits : repeated ≡ true → MayGoOn row m

-- none holds that names and locks decide
pub record BookAdmits (row : Row) (repeated : Bool) (m : ℕ) (p : Past) : Type 0 where
  -- of one that is repeated only that its lock is not there
  pub holds : least (book_tests repeated row m p) ≡ None
  -- the task that asks again holds nothing of what it waits for
  pub lasting : repeated ≡ true → (key : Key) → row.holds ≡ Some key → held_by (asker m p.events) (holder key p.events) ≡ false
  -- one that is repeated is one that may go on after a reply
  pub waits : repeated ≡ true → MayGoOn row m

-- no test of the call holds
pub record IsAdmitted (row : Row) (repeated : Bool) (m : ℕ) (p : Past) : Type 0 where
  -- its member leaves nothing that is cancelled, or the call is one that it may make then
  pub leaving : least (leaving_tests repeated row m p) ≡ None
  -- a member that ends its share was answered that nothing is left of it, or the share is cancelled
  pub drained : repeated ≡ false → least (drain_tests row.drains m p.events) ≡ None
  -- the parts admit it
  pub parts : ServersAdmit row repeated m p
  -- so does the book
  pub book : BookAdmits row repeated m p
