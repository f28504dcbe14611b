-- The rows of the calls on critical names. OpenMP API 5.2, section 15.2.
use Rattle.std.specs.Prelude.{ℕ, ◌||◌, not, Bool, true, false, List, [], ◌∷◌, Some}
use Rattle.gomp_types.specs.declared.key.Key.{Key}
use Rattle.gomp_types.specs.declared.key.Key.TheVariants.{Critical}
use Rattle.gomp_types.specs.declared.reply.Reply.{Reply}
use Rattle.gomp_types.specs.declared.reply.Reply.TheVariants.{Finished, Got, Count}
use Rattle.gomp_events.specs.declared.event.Event.{Event}
use Rattle.gomp_events.specs.declared.event.Event.TheVariants.{Hold, Free}
use Rattle.std.specs.Prelude.{nat_lt}
use Rattle.gomp_locks.specs.CriticalNames.{critical_start_tests, EntersCritical, critical_end_tests}
use Rattle.gomp_events.specs.Tasks.{executed_task}
use Rattle.gomp_locks.specs.Holders.{same_key, asker, holder, holding_owner}
use Rattle.gomp_model.specs.Row.{Row, plain_row}

-- whether a critical construct with this name was started before: some task held it
abbrev pub was_name_held : List ℕ → List Event → Bool
was_name_held name [] = false
was_name_held name (Hold key m task ∷ earlier) = same_key key (Critical name) || was_name_held name earlier
was_name_held name (_ ∷ earlier) = was_name_held name earlier

-- whether the task holds it once more with this reply: it is done, it was free, or it has a count
abbrev pub is_held : Reply → Bool
is_held Finished = true
is_held (Got free) = free
is_held (Count count) = nat_lt 0 count
is_held _ = false

-- and once less
abbrev pub reply_frees : Reply → Bool
reply_frees Finished = true
reply_frees (Count count) = true
reply_frees _ = false

-- the member's task holds it once more, if so
abbrev pub held_once : Bool → Key → ℕ → List Event → List Event
held_once true key m h = Hold key m (executed_task m h) ∷ []
held_once false key m h = []

-- and frees it once, if so
abbrev pub freed_once : Bool → Key → ℕ → List Event → List Event
freed_once true key m h = Free key m (executed_task m h) ∷ []
freed_once false key m h = []

-- the start of a critical construct with this name, which takes memory if it is the first one
abbrev pub critical_start_row : List ℕ → Row
critical_start_row name = record plain_row {
  by_team = λ m p. critical_start_tests (asker m p.events) name (holding_owner (holder (Critical name) p.events));
  makes = λ m p. not (was_name_held name p.events);
  holds = Some (Critical name);
  may_reply = λ m p reply. EntersCritical (holding_owner (holder (Critical name) p.events)) reply;
  gives = λ m p reply. held_once (is_held reply) (Critical name) m p.events;
}

-- its end, which a member that leaves may call
abbrev pub critical_end_row : List ℕ → Row
critical_end_row name = record plain_row {
  by_team = λ m p. critical_end_tests (asker m p.events) name (holding_owner (holder (Critical name) p.events));
  lets_leave = λ m h. true;
  holds = Some (Critical name);
  gives = λ m p reply. freed_once (reply_frees reply) (Critical name) m p.events;
}
